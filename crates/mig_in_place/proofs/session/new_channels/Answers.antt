use Rattle.std.proofs.Common.{ℕ, ◌≡◌, ◌∙◌, ◌++◌, ◌∷◌, [], List, arith, ap, map, replicate, subst}
use Rattle.std.specs.List.{AllZip}
use Rattle.std.proofs.lemmas.List.{map-append, replicate_more}
use Rattle.mig_packet.specs.Paging.{none_given}
use Rattle.mig_load_types.specs.Settings.{channel_of}
use Rattle.mig_sources.specs.declared.counts.Count.{Count}
use Rattle.mig_sources.specs.Sources.{no_count}
use Rattle.mig_answer.specs.Texts.{Text, no_text}
use Rattle.mig_sources.proofs.Zips.{zip_replicate}
use Rattle.mig_in_place.specs.Sources.{KeptChannel, HoldsChannel, channel_count}
use Rattle.mig_in_place.proofs.session.new_channels.Goals as goal

pub loop-preserved : goal.loop-preserved
loop-preserved g c =
    let given = channel_of c.args.settings c.args.uuid.now c.args.channels in
    let i : ℕ = c.loop.counter in
    let before : List KeptChannel = c.loop.made.items in
    let new : KeptChannel = c.in_ok-new.field-0 in
    record {
      holds = λ table. rw c.push_reserved.ensures.items
          (zip_replicate (λ (text : Text) (x : KeptChannel). HoldsChannel given table 0 text (none_given given) x) i no_text new
          before (c.loop.invariant.holds table) (c.in_ok-new.ensures.holds table));
      counts = ap (map channel_count) c.push_reserved.ensures.items ∙ map-append channel_count before (new ∷ [])
          ∙ ap (λ (l : List Count). l ++ channel_count new ∷ []) c.loop.invariant.counts
          ∙ ap (λ (x : Count). replicate i no_count ++ x ∷ []) c.in_ok-new.ensures.count
          ∙ replicate_more i no_count;
      count = omega (arith, c.push_reserved.ensures.len, c.loop.invariant.count);
      room = omega (arith, c.push_reserved.ensures.capacity, c.loop.invariant.room);
    }

pub returns-clause-holds : goal.returns-clause-holds
returns-clause-holds g c = λ table.
    let given = channel_of c.args.settings c.args.uuid.now c.args.channels in
    let all : c.loop.counter ≡ c.args.channels = omega (arith, c.loop-test.false, c.loop.auto.counter-end) in
    subst (λ (n : ℕ). AllZip (λ (text : Text) (x : KeptChannel). HoldsChannel given table 0 text (none_given given) x)
    (replicate n no_text) c.loop.made.items) all (c.loop.invariant.holds table)

pub returns-clause-counts : goal.returns-clause-counts
returns-clause-counts g c =
    let all : c.loop.counter ≡ c.args.channels = omega (arith, c.loop-test.false, c.loop.auto.counter-end) in
    c.loop.invariant.counts ∙ ap (λ (n : ℕ). replicate n no_count) all
