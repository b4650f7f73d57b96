use Rattle.std.proofs.Common.{ℕ, ◌≡◌, ◌∙◌, [], Some, sym, ap, subst, refl, false}
use Rattle.mig_mem.specs.PageSize.{IsPageSize}
use Rattle.mig_mem.specs.RamTable.{RamTable, IsTable}
use Rattle.mig_mem.specs.PlaceSet.{PlaceSet}
use Rattle.mig_assemble.specs.Target.{none_named}
use Rattle.mig_stream.specs.declared.item.Mode.TheVariants.{Single}
use Rattle.mig_stream.specs.Reading.{settings, in_frame, with_waiting}
use Rattle.mig_stream.specs.Reader.{Stands, nothing_yet}
use Rattle.mig_single_load.specs.LoadInPlace.{settings_for}
use Rattle.mig_single_load.proofs.LoadsInPlace.{own_first}
use Rattle.mig_sections.proofs.WholeSections.{none_read}
use Rattle.mig_sections.proofs.sections_load.SectionsLoad.new.Goals as goal

pub invariant_of-result : goal.invariant_of-result
invariant_of-result g c =
    let table : RamTable = c.in_ok-table.table in
    let r = c.new_with-reader.result in
    let is : IsTable table = subst IsTable (sym c.in_ok-table.ensures) c.keeps_limits.ensures in
    let size : c.page_size-page_size.result ≡ table.page_size = c.page_size-page_size.ensures
    ∙ ap (λ (t : RamTable). t.page_size) (sym c.in_ok-table.ensures) in
    let stands : Stands (settings_for table c.args.settings) nothing_yet r =
    subst (λ (n : ℕ). Stands (with_waiting c.args.settings.waiting (in_frame c.args.settings.frame (settings Single n c.args.settings.limit))) nothing_yet r)
    size c.new_with-reader.ensures.stands in
    record {
      is_table = is;
      named_table = ap (λ (s : PlaceSet). s.table) c.in_ok-named.ensures ∙ sym c.in_ok-table.ensures;
      reads = (
        record { is_page_size = is.has_page_size; given = c.args.settings; text = []; is_read = (own_first c.args.settings table, stands) },
        c.new_with-reader.ensures.fed,
        c.new_with-reader.ensures.open,
      );
    }

pub returns-clause-loads : goal.returns-clause-loads
returns-clause-loads g c = λ first image same.
    let r = c.new_with-reader.result in
    let is : IsTable first.table = subst IsTable (sym same) c.keeps_limits.ensures in
    let size : c.page_size-page_size.result ≡ first.table.page_size = c.page_size-page_size.ensures ∙ ap (λ (t : RamTable). t.page_size) (sym same) in
    let stands : Stands (settings_for first.table c.args.settings) nothing_yet r =
    subst (λ (n : ℕ). Stands (with_waiting c.args.settings.waiting (in_frame c.args.settings.frame (settings Single n c.args.settings.limit))) nothing_yet r)
    size c.new_with-reader.ensures.stands in
    record {
      is_table = is;
      is_image = image;
      same_table = same ∙ sym c.in_ok-table.ensures;
      has_fed = refl;
      has_ended = refl;
      has_sections = none_read c.args.settings first c.in_ok-named.named r is.has_page_size image
          (c.in_ok-named.ensures ∙ ap (λ (t : RamTable). none_named t) (sym same)) stands;
    }
