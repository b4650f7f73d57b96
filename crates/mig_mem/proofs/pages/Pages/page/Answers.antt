use Rattle.std.proofs.Common.{ℕ, ◌≡◌, ◌<◌, ◌-◌, ◌∙◌, List, length, get_or, sym, ap, arith, suc}
use Rattle.mig_mem.specs.Parts.{part_at}
use Rattle.mig_mem.specs.BlockPages.{BlockPages, page_at}
use Rattle.mig_mem.proofs.Slotted.{has_slot, some_slot, room_slot, page_zeros, page_bytes}
use Rattle.mig_mem.proofs.pages.Pages.page.Goals as goal

pub get-slot-requires : goal.get-slot-requires
get-slot-requires g c = has_slot c.self.inside.size c.self.inside.slots c.self.inside.bytes.items c.args.self.now c.args.i c.self.view_is c.requires

pub returns-then-slot-eq0 : goal.returns-then-slot-eq0
returns-then-slot-eq0 g c =
    let p = c.self.inside in
    let lt : c.args.i < length p.slots = has_slot p.size p.slots p.bytes.items c.args.self.now c.args.i c.self.view_is c.requires in
    let none : get_or p.slots c.args.i 0 ≡ 0 = sym c.get-slot.ensures ∙ c.if-slot-eq0.true in
    c.zeros.ensures ∙ sym (page_zeros p.size p.slots p.bytes.items c.args.i lt none)
    ∙ ap (λ (b : BlockPages). page_at b c.args.i) c.self.view_is

pub part_of-requires : goal.part_of-requires
part_of-requires g c =
    let p = c.self.inside in
    let s = c.get-slot.result in
    let lt : c.args.i < length p.slots = has_slot p.size p.slots p.bytes.items c.args.self.now c.args.i c.self.view_is c.requires in
    let some : get_or p.slots c.args.i 0 ≡ suc (s - 1) = sym c.get-slot.ensures ∙ some_slot s c.if-slot-eq0.false in
    omega (
      arith,
      room_slot p.size p.slots p.bytes.items _ c.args.i (s - 1) c.self.invariant.are_parts lt some,
      ap (λ (l : List ℕ). length l) c.deref.ensures.value,
    )

pub returns : goal.returns
returns g c =
    let p = c.self.inside in
    let s = c.get-slot.result in
    let lt : c.args.i < length p.slots = has_slot p.size p.slots p.bytes.items c.args.self.now c.args.i c.self.view_is c.requires in
    let some : get_or p.slots c.args.i 0 ≡ suc (s - 1) = sym c.get-slot.ensures ∙ some_slot s c.if-slot-eq0.false in
    c.part_of.ensures ∙ ap (λ (l : List ℕ). part_at p.size l (s - 1)) c.deref.ensures.value
    ∙ sym (page_bytes p.size p.slots p.bytes.items c.args.i (s - 1) lt some)
    ∙ ap (λ (b : BlockPages). page_at b c.args.i) c.self.view_is
