use Rattle.std.proofs.Common.{ℕ, ◌≡◌, ◌∙◌, [], true, false, ap, subst}
use Rattle.mig_mem.specs.RamTable.{RamTable}
use Rattle.mig_load_types.specs.declared.settings.LoadSettings.{LoadSettings}
use Rattle.mig_load_types.specs.Settings.{ram_settings}
use Rattle.mig_single_load.specs.LoadInPlace.{LoadsOnto}
use Rattle.mig_uses.proofs.Onto.{loaded_onto, never_err}
use Rattle.mig_uses.proofs.in_place.load_onto.Goals as goal

pub returns-in_err-verdict : goal.returns-in_err-verdict
returns-in_err-verdict g c = λ rounds room are is.
    let first = g.M.GuestTarget.image c.args.memory in
    let text = c.args.text.now in
    let given = ram_settings first.table.page_size c.args.limit in
    let size = c.page_size.ensures ∙ ap (λ (t : RamTable). t.page_size) c.table.ensures.value in
    let own : c.new-settings.result ≡ given = c.new-settings.ensures ∙ ap (λ (p : ℕ). ram_settings p c.args.limit) size in
    let begun = subst (λ (s : LoadSettings). LoadsOnto s first c.in-Ok.loader [] false) own c.in-Ok.ensures.loads in
    let loads : LoadsOnto given first c.end.new.self text true =
    c.end.ensures.loads given first text false (c.in-Ok-feed.ensures.ok given first [] begun) in
    let all = loaded_onto c.args.limit first c.end.new.self text c.verdict.result loads
    (c.verdict.ensures.loads given first text true loads) rounds room are is in
    absurd (never_err c.verdict.result _ c.in_err-verdict.was all.1)

pub returns : goal.returns
returns g c = λ rounds room are is.
    let first = g.M.GuestTarget.image c.args.memory in
    let text = c.args.text.now in
    let given = ram_settings first.table.page_size c.args.limit in
    let size = c.page_size.ensures ∙ ap (λ (t : RamTable). t.page_size) c.table.ensures.value in
    let own : c.new-settings.result ≡ given = c.new-settings.ensures ∙ ap (λ (p : ℕ). ram_settings p c.args.limit) size in
    let begun = subst (λ (s : LoadSettings). LoadsOnto s first c.in-Ok.loader [] false) own c.in-Ok.ensures.loads in
    let loads : LoadsOnto given first c.end.new.self text true =
    c.end.ensures.loads given first text false (c.in-Ok-feed.ensures.ok given first [] begun) in
    let all = loaded_onto c.args.limit first c.end.new.self text c.verdict.result loads
    (c.verdict.ensures.loads given first text true loads) rounds room are is in
    c.into_memory.ensures ∙ all.0
