use Rattle.std.proofs.Common.{ℕ, ◌≡◌, ◌∙◌, false, [], List, length, replicate, refl, sym, ap, subst, arith}
use Rattle.std.specs.List.{AllZip}
use Rattle.std.proofs.lemmas.List.{length-map, length-replicate}
use Rattle.mig_mem.specs.PageSize.{IsPageSize}
use Rattle.mig_mem.specs.RamTable.{RamTable, IsTable}
use Rattle.mig_mem.specs.PlaceSet.{PlaceSet}
use Rattle.mig_packet.specs.Reading.{Settings}
use Rattle.mig_packet.specs.Paging.{none_given}
use Rattle.mig_load_types.specs.declared.settings.LoadSettings.{LoadSettings}
use Rattle.mig_load_types.specs.Settings.{for_table, main_of, channel_of}
use Rattle.mig_sources.specs.declared.counts.Count.{Count}
use Rattle.mig_answer.specs.declared.verdict.Verdict.TheVariants.{Running}
use Rattle.mig_answer.specs.Texts.{Text, no_text}
use Rattle.mig_in_place.specs.Round.{Keeps}
use Rattle.mig_in_place.specs.Sources.{KeptChannel, HoldsChannel, HoldsMain, channel_count}
use Rattle.mig_in_place.specs.Session.{InPlaceLoad}
use Rattle.mig_in_place.proofs.Beginning.{stands_first, first_channels, first_main}
use Rattle.mig_in_place.proofs.WholeRounds.{alone_first}
use Rattle.mig_in_place.proofs.session.InPlaceSession.new.Goals as goal

pub new_channels-requires : goal.new_channels-requires
new_channels-requires g c = record { page_size = subst IsPageSize (sym c.page_size-page_size.ensures) c.keeps_limits.ensures.has_page_size }

pub invariant_of-result : goal.invariant_of-result
invariant_of-result g c =
    let n : ℕ = c.args.channels in
    let p : ℕ = c.page_size-page_size.result in
    let table : RamTable = c.in_ok-copy_in.field-0 in
    let channels : List KeptChannel = c.in_ok-new_channels.field-0.items in
    let same : table ≡ c.args.table.now = c.in_ok-copy_in.ensures in
    let page : p ≡ table.page_size = c.page_size-page_size.ensures ∙ ap (λ (t : RamTable). t.page_size) (sym same) in
    let size : IsPageSize p = subst IsPageSize (sym c.page_size-page_size.ensures) c.keeps_limits.ensures.has_page_size in
    let load : LoadSettings = record c.args.settings { page_size = p } in
    let many : length channels ≡ n =
    sym (length-map channels channel_count) ∙ ap (λ (l : List Count). length l) c.in_ok-new_channels.ensures.counts
    ∙ length-replicate n (record { fed = 0; ended = false }) in
    let r1 = c.in_ok-with_capacity.ensures.capacity in
    let r2 = c.in_ok-with_capacity-2.ensures.capacity in
    record {
      channels = first_channels (channel_of load c.args.uuid.now n) table n channels page (c.in_ok-new_channels.ensures.holds table);
      round = ([], subst (λ (t : RamTable). Keeps t [] c.in_ok-new.field-0) (sym same) c.in_ok-new.ensures.keeps);
      main = λ _. first_main load table c.new.result size page c.new.ensures.holds c.new.ensures.whole;
      is_few = omega arith;
      has_few_rounds = omega arith;
      has_room = omega (arith, many, r1);
      has_hello_room = omega (arith, many, r2);
      same_named = ap (λ (s : PlaceSet). s.table) c.in_ok-none.ensures ∙ sym same;
    }

pub returns-clause-stands : goal.returns-clause-stands
returns-clause-stands g c = λ first image same.
    let n : ℕ = c.args.channels in
    let channels : List KeptChannel = c.in_ok-new_channels.field-0.items in
    let table : RamTable = c.in_ok-copy_in.field-0 in
    let is : IsTable first.table = subst IsTable (sym same) c.keeps_limits.ensures in
    let page : c.page_size-page_size.result ≡ first.table.page_size = c.page_size-page_size.ensures ∙ ap (λ (t : RamTable). t.page_size) (sym same) in
    let some = c.requires.channels in
    let s : InPlaceLoad = record {
      table = table;
      sources = record { main = c.new.result; channels = channels };
      round = c.in_ok-new.field-0;
      rounds = 0;
      base = 0;
      named = c.in_ok-none.field-0;
      verdict = Running;
    } in
    let read : ℕ → Settings = λ k. channel_of (record c.args.settings { page_size = k }) c.args.uuid.now n in
    stands_first c.args.settings c.args.uuid.now first n s is image (same ∙ sym c.in_ok-copy_in.ensures) some.0 refl refl refl
    (subst (λ (k : ℕ). HoldsMain (main_of (record c.args.settings { page_size = k })) 0 no_text c.new.result) page c.new.ensures.holds)
    (subst (λ (k : ℕ). AllZip (λ (text : Text) (x : KeptChannel). HoldsChannel (read k) first.table 0 text
    (none_given (read k)) x) (replicate n no_text) channels) page
    (c.in_ok-new_channels.ensures.holds first.table))
    (subst (λ (t : RamTable). Keeps t [] c.in_ok-new.field-0) (sym same) c.in_ok-new.ensures.keeps)
    (c.in_ok-none.ensures ∙ ap (λ (t : RamTable). record { table = t; marked = [] }) (sym same))

pub returns-clause-alone : goal.returns-clause-alone
returns-clause-alone g c = λ first image same.
    let is : IsTable first.table = subst IsTable (sym same) c.keeps_limits.ensures in
    alone_first (for_table first.table c.args.settings) c.args.uuid.now first c.args.channels is.has_page_size image
