use Rattle.std.proofs.Common.{ℕ, ◌≡◌, ◌∙◌, ◌/◌, refl, ap, subst}
use Rattle.mig_mem.specs.RamTable.{RamTable}
use Rattle.mig_mem.specs.Place.{place_at, IsPlace}
use Rattle.mig_mem.specs.PlaceSet.{with_place}
use Rattle.mig_uses.proofs.Tracking.{write_tracked}
use Rattle.mig_uses.proofs.live_guest.LiveGuest.write.Goals as goal

pub returns-clause-tracked : goal.returns-clause-tracked
returns-clause-tracked g c =
    let old = c.args.self.now in
    let size : c.page_size-2.result ≡ old.memory.table.page_size = c.page_size-2.ensures ∙ ap (λ (t : RamTable). t.page_size) c.table-table.ensures.value in
    let here : IsPlace old.dirty.table (place_at c.args.block (c.args.offset / c.page_size-2.result)) =
    subst (λ (t : RamTable). IsPlace t (place_at c.args.block (c.args.offset / c.page_size-2.result))) c.table.ensures.value
    (c.holds.ensures.0 c.if-not-holds.false) in
    write_tracked old record { memory = c.set.new.self; dirty = c.mark.new.self; sender = old.sender } c.args.block c.args.offset c.args.byte
    (record {
      memory = c.set.ensures;
      dirty = c.mark.ensures.set ∙ ap (λ (n : ℕ). with_place old.dirty (place_at c.args.block (c.args.offset / n))) size;
      sender = refl;
      is_place = subst (λ (n : ℕ). IsPlace old.dirty.table (place_at c.args.block (c.args.offset / n))) size here;
    })
