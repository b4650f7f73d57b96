use Rattle.std.proofs.Common.{ℕ, ◌≡◌, ◌<◌, ◌+◌, ◌-◌, ◌/◌, ◌∙◌, List, length, set, get_or, sym, ap, arith, suc}
use Rattle.std.proofs.lemmas.List.{with_items_is}
use Rattle.mig_mem.specs.Parts.{ChangesPart, parts_in, written}
use Rattle.mig_mem.specs.BlockPages.{BlockPages, with_content}
use Rattle.mig_mem.proofs.Slotted.{has_slot, some_slot, more_room, room_more, room_slot, put_slot, put_more, kept_more, slot_made}
use Rattle.mig_mem.proofs.pages.Pages.put.Goals as goal

pub get-slot-requires : goal.get-slot-requires
get-slot-requires g c = has_slot c.self.inside.size c.self.inside.slots c.self.inside.bytes.items c.args.self.now c.args.i c.self.view_is c.requires.page

pub append-requires : goal.append-requires
append-requires g c =
    let p = c.self.inside in
    let lt : c.args.i < length p.slots = has_slot p.size p.slots p.bytes.items c.args.self.now c.args.i c.self.view_is c.requires.page in
    let none : get_or p.slots c.args.i 0 ≡ 0 = sym c.get-slot.ensures ∙ c.if-slot-eq0.true in
    omega (
      arith,
      room_more p.size p.slots p.bytes.items _ c.args.i c.self.invariant.are_parts lt none,
      p.bytes.ok.0,
      c.requires.size,
      ap (λ (b : BlockPages). b.size) c.self.view_is,
    )

pub set-requires : goal.set-requires
set-requires g c = has_slot c.self.inside.size c.self.inside.slots c.self.inside.bytes.items c.args.self.now c.args.i c.self.view_is c.requires.page

pub invariant_of-self : goal.invariant_of-self
invariant_of-self g c =
    let p = c.self.inside in
    let content = c.args.content.now in
    let lt : c.args.i < length p.slots = has_slot p.size p.slots p.bytes.items c.args.self.now c.args.i c.self.view_is c.requires.page in
    let none : get_or p.slots c.args.i 0 ≡ 0 = sym c.get-slot.ensures ∙ c.if-slot-eq0.true in
    let size : length content ≡ p.size = c.requires.size ∙ sym (ap (λ (b : BlockPages). b.size) c.self.view_is) in
    let number : c.len.result / p.size ≡ suc (written p.slots) =
    ap (λ (n : ℕ). n / p.size) (c.len.ensures ∙ c.append.ensures.len ∙ ap (λ (n : ℕ). n + length content) p.bytes.ok.0)
    ∙ slot_made p.size p.slots p.bytes.items content _ c.self.invariant.are_parts size in
    record {
      is_size = c.self.invariant.is_size;
      are_parts = rw (c.set.ensures, number, c.append.ensures.items)
          (more_room p.size _ _ _ _ (kept_more p.size p.slots p.bytes.items content _ c.args.i c.self.invariant.are_parts lt none
          size) c.append.ensures.capacity);
    }

pub write_part-requires-clause-room : goal.write_part-requires-clause-room
write_part-requires-clause-room g c =
    let p = c.self.inside in
    let s = c.get-slot.result in
    let lt : c.args.i < length p.slots = has_slot p.size p.slots p.bytes.items c.args.self.now c.args.i c.self.view_is c.requires.page in
    let some : get_or p.slots c.args.i 0 ≡ suc (s - 1) = sym c.get-slot.ensures ∙ some_slot s c.if-slot-eq0.false in
    omega (
      arith,
      room_slot p.size p.slots p.bytes.items _ c.args.i (s - 1) c.self.invariant.are_parts lt some,
      ap (λ (l : List ℕ). length l) c.deref_mut.ensures.value,
    )

pub returns-then-slot-eq0 : goal.returns-then-slot-eq0
returns-then-slot-eq0 g c =
    let p = c.self.inside in
    let content = c.args.content.now in
    let lt : c.args.i < length p.slots = has_slot p.size p.slots p.bytes.items c.args.self.now c.args.i c.self.view_is c.requires.page in
    let size : length content ≡ p.size = c.requires.size ∙ sym (ap (λ (b : BlockPages). b.size) c.self.view_is) in
    let number : c.len.result / p.size ≡ suc (written p.slots) =
    ap (λ (n : ℕ). n / p.size) (c.len.ensures ∙ c.append.ensures.len ∙ ap (λ (n : ℕ). n + length content) p.bytes.ok.0)
    ∙ slot_made p.size p.slots p.bytes.items content _ c.self.invariant.are_parts size in
    let pages : parts_in p.size c.set.new.self c.append.new.kept.items ≡ set (parts_in p.size p.slots p.bytes.items) c.args.i content =
    rw (c.set.ensures, number, c.append.ensures.items) (put_more p.size p.slots p.bytes.items content _ c.args.i c.self.invariant.are_parts lt size) in
    ap (λ (l : List (List ℕ)). record { size = p.size; pages = l }) pages
    ∙ ap (λ (b : BlockPages). with_content b c.args.i content) c.self.view_is

pub returns-else-slot-eq0 : goal.returns-else-slot-eq0
returns-else-slot-eq0 g c =
    let p = c.self.inside in
    let s = c.get-slot.result in
    let new = c.write_part.new.items in
    let lt : c.args.i < length p.slots = has_slot p.size p.slots p.bytes.items c.args.self.now c.args.i c.self.view_is c.requires.page in
    let some : get_or p.slots c.args.i 0 ≡ suc (s - 1) = sym c.get-slot.ensures ∙ some_slot s c.if-slot-eq0.false in
    let changes : ChangesPart p.size p.bytes.items new (s - 1) c.args.content.now = rw (← c.deref_mut.ensures.value) c.write_part.ensures in
    let pages : parts_in p.size p.slots new ≡ set (parts_in p.size p.slots p.bytes.items) c.args.i c.args.content.now =
    put_slot p.size p.slots p.bytes.items new _ c.args.i (s - 1) c.args.content.now c.self.invariant.are_parts lt some changes in
    ap (λ (l : List ℕ). record { size = p.size; pages = parts_in p.size p.slots l }) (with_items_is p.bytes new (changes.len ∙ sym p.bytes.ok.0))
    ∙ ap (λ (l : List (List ℕ)). record { size = p.size; pages = l }) pages
    ∙ ap (λ (b : BlockPages). with_content b c.args.i c.args.content.now) c.self.view_is
