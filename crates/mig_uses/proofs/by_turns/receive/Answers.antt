use Rattle.std.proofs.Common.{ℕ, ◌≡◌, ◌-◌, ◌^◌, ◌∙◌, Result, map, sym, ap, subst, arith}
use Rattle.std.specs.Prelude.{IfOk}
use Rattle.std.proofs.lemmas.List.{length-map}
use Rattle.mig_mem.specs.RamTable.{RamTable}
use Rattle.mig_mem.specs.Image.{Image}
use Rattle.mig_load_types.specs.declared.settings.LoadSettings.{LoadSettings}
use Rattle.mig_load_types.specs.Settings.{ram_settings}
use Rattle.mig_answer.specs.Texts.{no_texts}
use Rattle.mig_answer.specs.declared.verdict.Verdict.{Verdict}
use Rattle.mig_in_place.specs.declared.source_reader.TurnFault.{TurnFault}
use Rattle.mig_in_place.specs.Session.{StandsFor}
use Rattle.mig_in_place.specs.Turns.{AtTurns}
use Rattle.mig_uses.specs.ByTurns.{IsReceived}
use Rattle.mig_uses.proofs.Received.{received_by, sent_received}
use Rattle.mig_uses.proofs.by_turns.receive.Goals as goal

pub returns-clause-answer : goal.returns-clause-answer
returns-clause-answer g c =
    let image = g.M.GuestTarget.image in
    let first : Image = image c.args.memory.now in
    let n : ℕ = c.len-channels.result - 1 in
    let old : AtTurns g.row.O.Denot = record { load = c.in-Ok.load; memory = first; sources = c.deref_mut.result.now; order = c.args.order.now } in
    let new : AtTurns g.row.O.Denot =
    record {
      load = c.pump_by_turns.new.load;
      memory = image c.pump_by_turns.new.memory;
      sources = c.pump_by_turns.new.sources;
      order = c.pump_by_turns.new.order;
    } in
    let given : LoadSettings = ram_settings first.table.page_size c.args.limit in
    let page = c.page_size.ensures ∙ ap (λ (t : RamTable). t.page_size) c.table-table.ensures.value in
    let own : c.new-settings.result ≡ given = c.new-settings.ensures ∙ ap (λ (p : ℕ). ram_settings p c.args.limit) page in
    let stands = subst (λ (s : LoadSettings). StandsFor s c.args.uuid.now first (no_texts n) first c.in-Ok.load) own
    (c.in-Ok.ensures.stands first c.table-table.ensures.image (sym c.table-table.ensures.value)) in
    received_by g.O.TurnOrder.chooses (2 ^ 40) given c.args.uuid.now first (map g.R.Read.remaining c.args.connections.items) n old new c.pump_by_turns.result
    (omega (arith, length-map c.args.connections.items g.R.Read.remaining, c.len-channels.ensures, c.args.connections.ok.0, c.requires.connections.0))
    (c.deref_mut.ensures.value ∙ c.in-Ok-buffered.ensures) stands c.pump_by_turns.ensures.turns c.pump_by_turns.ensures.bytes

pub returns-clause-sent : goal.returns-clause-sent
returns-clause-sent g c = λ done.
    let image = g.M.GuestTarget.image in
    let first : Image = image c.args.memory.now in
    let last : Image = image c.pump_by_turns.new.memory in
    sent_received c.args.limit c.args.uuid.now first last (map g.R.Read.remaining c.args.connections.items)
    (subst (λ (r : Result Verdict TurnFault). IfOk r
    (IsReceived (ram_settings first.table.page_size c.args.limit) c.args.uuid.now first
    (map g.R.Read.remaining c.args.connections.items) last)) done (returns-clause-answer g c))
