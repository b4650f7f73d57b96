use Rattle.std.proofs.Common.{◌≡◌, ℕ, [], refl, sym, ap, subst, ◌∙◌}
use Rattle.mig_mem.specs.RamTable.{RamTable, IsTable}
use Rattle.mig_mem.specs.PlaceSet.{PlaceSet}
use Rattle.mig_assemble.specs.Target.{none_named}
use Rattle.mig_stream.specs.declared.item.Mode.TheVariants.{Single}
use Rattle.mig_stream.specs.Reading.{settings, in_frame, with_waiting}
use Rattle.mig_stream.specs.Giving.{none_given, PausesAt}
use Rattle.mig_single_load.specs.LoadInPlace.{settings_for}
use Rattle.mig_single_load.proofs.LoadsInPlace.{own_first, in_place_first}
use Rattle.mig_single_load.proofs.in_place_state.InPlaceState.new.Goals as goal

pub returns-clause-loads : goal.returns-clause-loads
returns-clause-loads g c = λ first image same.
    let is : IsTable first.table = subst IsTable (sym same) c.keeps_limits.ensures in
    let size : c.page_size-page_size.result ≡ first.table.page_size = c.page_size-page_size.ensures ∙ ap (λ (t : RamTable). t.page_size) (sym same) in
    let at : PausesAt (settings_for first.table c.args.settings) [] none_given c.new.result =
    subst (λ (n : ℕ). PausesAt (with_waiting c.args.settings.waiting
    (in_frame c.args.settings.frame (settings Single n c.args.settings.limit))) [] none_given c.new.result) size c.new.ensures.pauses in
    in_place_first c.args.settings first c.new.result c.in_ok-table.table c.in_ok-named.named is image (same ∙ sym c.in_ok-table.ensures)
    (c.in_ok-named.ensures ∙ ap (λ (t : RamTable). none_named t) (sym same)) at

pub invariant_of-result : goal.invariant_of-result
invariant_of-result g c =
    let table : RamTable = c.in_ok-table.table in
    let size : c.page_size-page_size.result ≡ table.page_size = c.page_size-page_size.ensures
    ∙ ap (λ (t : RamTable). t.page_size) (sym c.in_ok-table.ensures) in
    let at : PausesAt (settings_for table c.args.settings) [] none_given c.new.result =
    subst (λ (n : ℕ). PausesAt (with_waiting c.args.settings.waiting
    (in_frame c.args.settings.frame (settings Single n c.args.settings.limit))) [] none_given c.new.result) size c.new.ensures.pauses in
    record {
      is_table = subst IsTable (sym c.in_ok-table.ensures) c.keeps_limits.ensures;
      named_table = ap (λ (s : PlaceSet). s.table) c.in_ok-named.ensures ∙ sym c.in_ok-table.ensures;
      pauses = (
        c.args.settings,
        record {
          text = [];
          has_fed = refl;
          so_far = none_given;
          pauses = at;
          is_own = own_first c.args.settings table;
          has_sections = refl;
        },
      );
    }
