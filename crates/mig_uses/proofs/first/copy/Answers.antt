use Rattle.std.proofs.Common.{ℕ, List, sym, ap, subst, ◌∙◌, ◌≡◌, ◌++◌, [], ◌∷◌}
use Rattle.std.proofs.lemmas.Result.{IfOk-at_ok}
use Rattle.std.specs.Prelude.{IsTrue, ◌^◌}
use Rattle.mig_mem.specs.RamTable.{RamTable, IsTable}
use Rattle.mig_mem.specs.declared.place.Place.{Place}
use Rattle.mig_mem.specs.Place.{IsPlace, has_place}
use Rattle.mig_mem.specs.PlaceSet.{PlaceSet, IsPlaceSet}
use Rattle.mig_mem.specs.Image.{Page}
use Rattle.mig_mem.specs.Round.{round_of}
use Rattle.mig_stream.specs.Written.{single}
use Rattle.mig_stream.specs.Writer.{Writer}
use Rattle.mig_send.specs.Sending.{HasSent, HasSentDrained}
use Rattle.mig_uses.specs.Backup.{BringsMemory}
use Rattle.mig_uses.proofs.Values.{is_ok_of, on_ok_of}
use Rattle.mig_uses.proofs.Tracking.{backed_up}
use Rattle.mig_uses.proofs.Restoring.{brought, there_or_none}
use Rattle.mig_uses.proofs.first.copy.Goals as goal

pub returns : goal.returns
returns g c =
    let m = c.args.memory.now in
    let table = c.table-table.result.now in
    let dirty = c.in_ok-dirty.dirty in
    let sender = c.in_ok-sender.sender in
    let stream = c.in_ok-stream.stream in
    let same = c.table-table.ensures.value in
    let set = IfOk-at_ok (λ (d : PlaceSet). IsPlaceSet d × (d.table ≡ table))
    (is_ok_of c.every_page.result dirty c.in_ok-dirty.ensures.value) c.every_page.ensures.set in
    let every = IfOk-at_ok (λ (d : PlaceSet). (p : Place) → IsPlace table p → IsTrue (has_place d.marked p))
    (is_ok_of c.every_page.result dirty c.in_ok-dirty.ensures.value)
    c.every_page.ensures.all in
    let made = is_ok_of c.new.result sender c.in_ok-sender.ensures.value in
    let begun = IfOk-at_ok (λ (s : Writer). HasSent s []) made c.new.ensures.none in
    let of_table = IfOk-at_ok (λ (s : Writer). s.table ≡ table) made c.new.ensures.table in
    let sent = on_ok_of c.round.result c.in_ok-ok.field-0 ((drained : List ℕ) (rounds : List (List Page)) → HasSentDrained drained sender rounds
    → HasSentDrained drained c.round.new.self (rounds ++ round_of m dirty.marked ∷ [])) c.in_ok-ok.ensures.value c.round.ensures.ok in
    let finished = IfOk-at_ok (λ text. (drained : List ℕ) (rounds : List (List Page)) → HasSentDrained drained c.round.new.self rounds
    → drained ++ text.items ≡ single c.round.new.self.table rounds) (is_ok_of c.finish.result stream c.in_ok-stream.ensures.value) c.finish.ensures.ok in
    let brings = backed_up m dirty sender c.round.new.self stream.items c.table-table.ensures.image (set.0, set.1 ∙ same)
    (λ p at. every p (subst (λ (t : RamTable). IsPlace t p) (sym same) at)) begun (of_table ∙ same) c.round.ensures.table sent finished in
    let is_table = subst IsTable (set.1 ∙ same) set.0.has_table in
    there_or_none c.load_single-loaded.result m c.in_ok-ok-2.field-0
    (brought c.page_size.result (2 ^ 40) c.deref.result.now c.load_single-loaded.result m c.load_single-loaded.ensures.sent is_table
    (ap (λ (t : RamTable). t.page_size) (sym same) ∙ sym c.page_size.ensures) is_table.has_room
    (subst (BringsMemory m) (sym c.deref.ensures.value) brings))
    (is_ok_of c.load_single-loaded.result.verdict c.in_ok-ok-2.field-0 c.in_ok-ok-2.ensures.value)
