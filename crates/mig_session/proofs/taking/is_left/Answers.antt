use Rattle.std.proofs.Common.{◌≡◌, ◌∙◌, sym, ap, subst, inl, inr}
use Rattle.std.specs.Prelude.{IsFalse}
use Rattle.mig_load_types.specs.Settings.{for_table}
use Rattle.mig_load_types.specs.declared.settings.LoadSettings.{LoadSettings}
use Rattle.mig_sources.specs.declared.counts.Count.{Count}
use Rattle.mig_in_place.specs.Session.{text_of, TakesBytes}
use Rattle.mig_session.specs.Sources.{waiting_of}
use Rattle.mig_session.proofs.Parts.{part_all, part_open}
use Rattle.mig_session.proofs.Settling.{takes_there, takes_count, own_given, not_true}
use Rattle.mig_session.proofs.taking.is_left.Goals as goal

pub ended-requires : goal.ended-requires
ended-requires g c = takes_there c.requires.0 c.args.waiting.now c.args.load.now c.args.source c.requires.1 c.requires.2.there

pub takes-requires : goal.takes-requires
takes-requires g c = takes_there c.requires.0 c.args.waiting.now c.args.load.now c.args.source c.requires.1 c.requires.2.there

pub returns-then-ended : goal.returns-then-ended
returns-then-ended g c = λ no running f takes counted.
    let part = takes.are_parts.parts c.args.source counted.there in
    let over : (text_of takes.taken c.args.source).ended ≡ _ =
    sym (takes_count f c.args.waiting.now c.args.load.now c.args.source takes counted.there).0 ∙ sym c.ended.ensures ∙ c.if-ended.true in
    inl (part_all (waiting_of c.args.waiting.now c.args.source) (text_of takes.taken c.args.source) (text_of f.texts c.args.source)
    (c.none_of.ensures.0 c.if-none_of.true) (over ∙ sym (part.is_over over).0) part)

pub returns-then-not-count : goal.returns-then-not-count
returns-then-not-count g c = λ no running f takes counted.
    let part = takes.are_parts.parts c.args.source counted.there in
    let open_ : IsFalse (text_of f.texts c.args.source).ended = sym (ap (λ (x : Count). x.ended) counted.is_count)
    ∙ not_true c.args.count.ended c.if-not-count.true in
    inl (part_all (waiting_of c.args.waiting.now c.args.source) (text_of takes.taken c.args.source) (text_of f.texts c.args.source)
    (c.none_of.ensures.0 c.if-none_of.true)
    (part_open (waiting_of c.args.waiting.now c.args.source) (text_of takes.taken c.args.source) (text_of f.texts c.args.source) open_ part ∙ sym open_) part)

pub returns : goal.returns
returns g c = λ no running f takes counted. inr (λ t.
    let same : for_table c.args.load.now.load.table f.given ≡ f.given = own_given f.given c.args.load.now.load.table takes.took.has_page_size in
    c.takes.ensures no running f.given f.uuid takes.taken takes.took
    (subst (λ (g : LoadSettings). TakesBytes g f.uuid c.args.load.now.load.rounds takes.taken c.args.source) (sym same) t))
