use Rattle.std.proofs.Common.{ℕ, ◌≡◌, ◌-◌, ◌∙◌, sym, ap, subst}
use Rattle.mig_mem.specs.RamTable.{RamTable}
use Rattle.mig_mem.specs.Image.{Image}
use Rattle.mig_load_types.specs.declared.settings.LoadSettings.{LoadSettings}
use Rattle.mig_load_types.specs.Settings.{ram_settings}
use Rattle.mig_answer.specs.Texts.{no_texts}
use Rattle.mig_in_place.specs.Session.{StandsFor}
use Rattle.mig_apart.specs.Claims.{StandsFreely}
use Rattle.mig_apart.proofs.Free.{to_free_law}
use Rattle.mig_uses.proofs.StraightTurns.{if_ok}
use Rattle.mig_uses.proofs.straight.receive_straight.Goals as goal

pub returns : goal.returns
returns g c =
    let m : Image = g.M.GuestTarget.image c.args.memory.now in
    let n : ℕ = c.len-channels.result - 1 in
    let given : LoadSettings = ram_settings m.table.page_size c.args.limit in
    let same_given : c.new-settings.result ≡ given =
    c.new-settings.ensures ∙ ap (λ (k : ℕ). ram_settings k c.args.limit) (c.page_size.ensures ∙ ap (λ (t : RamTable). t.page_size) c.table.ensures.value) in
    let stands : StandsFor given c.args.uuid.now m (no_texts n) m c.in-Ok.load.load =
    subst (λ (x : LoadSettings). StandsFor x c.args.uuid.now m (no_texts n) m c.in-Ok.load.load) same_given
    (c.in-Ok.ensures.stands m c.table.ensures.image (sym c.table-2.ensures.value)) in
    let free : StandsFreely given c.args.uuid.now m (no_texts n) m c.in-Ok.load =
    to_free_law given c.args.uuid.now m (no_texts n) m c.in-Ok.load c.table.ensures.image (sym c.table-2.ensures.value ∙ sym c.in-Ok.ensures.table) stands in
    record { answer = if_ok c.take_turns.result _ _ (λ verdict each. each given c.args.uuid.now m (no_texts n) free) c.take_turns.ensures }
