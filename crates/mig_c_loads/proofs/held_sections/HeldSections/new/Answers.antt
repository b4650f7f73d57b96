use Rattle.std.proofs.Common.{◌^◌, ℕ, [], false, refl, subst}
use Rattle.mig_mem.specs.Image.{Image}
use Rattle.mig_mem.specs.Lent.{lent_image}
use Rattle.mig_mem.proofs.Lents.{lent_is_image}
use Rattle.mig_sections.specs.Sections.{LoadsSections}
use Rattle.mig_c_loads.specs.Frames.{load_settings}
use Rattle.mig_c_loads.proofs.held_sections.HeldSections.new.Goals as goal

pub returns-clause-begins : goal.returns-clause-begins
returns-clause-begins c =
    let state = c.in_ok-state.state in
    record {
      same_table = c.in_ok-state.ensures.table;
      none_fed = c.in_ok-state.ensures.fed;
      goes_on = c.in_ok-state.ensures.open;
      loads = λ blocks fit.
          let first : Image = lent_image c.args.table.now blocks in
          subst (λ (n : ℕ). LoadsSections first (load_settings n (2 ^ 40) c.args.waiting c.args.frame) first state [] false) c.page_size.ensures
          (c.in_ok-state.ensures.loads first (lent_is_image c.args.table.now blocks fit) refl);
    }
