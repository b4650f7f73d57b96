use Rattle.std.proofs.Common.{ℕ, ◌≡◌, ◌<◌, ◌-◌, ◌/◌, ◌∙◌, List, [], length, get_or, set, sym, ap, arith, suc}
use Rattle.std.proofs.lemmas.List.{with_items_is, length-set}
use Rattle.mig_mem.specs.Image.{zero_page}
use Rattle.mig_mem.specs.Parts.{ChangesPart, part_at, parts_in, written}
use Rattle.mig_mem.specs.BlockPages.{BlockPages, page_at, with_content}
use Rattle.mig_mem.proofs.Slotted.{has_slot, length-zero_page, some_slot, more_room, room_more, room_slot, put_slot, put_more, kept_more, slot_made, page_zeros}
use Rattle.mig_mem.proofs.Slotted.{page_bytes}
use Rattle.mig_mem.proofs.pages.Pages.set.Goals as goal

pub get-slot-requires : goal.get-slot-requires
get-slot-requires g c = has_slot c.self.inside.size c.self.inside.slots c.self.inside.bytes.items c.args.self.now c.args.i c.self.view_is c.requires.page

pub append_with-requires-clause-room : goal.append_with-requires-clause-room
append_with-requires-clause-room g c =
    let p = c.self.inside in
    let lt : c.args.i < length p.slots = has_slot p.size p.slots p.bytes.items c.args.self.now c.args.i c.self.view_is c.requires.page in
    let none : get_or p.slots c.args.i 0 ≡ 0 = sym c.get-slot.ensures ∙ c.if-slot-eq0.true in
    omega (
      arith,
      room_more p.size p.slots p.bytes.items _ c.args.i c.self.invariant.are_parts lt none,
      p.bytes.ok.0,
      ap (λ (l : List ℕ). length l) c.zeros.ensures,
      length-zero_page p.size,
    )

pub append_with-requires-clause-offset : goal.append_with-requires-clause-offset
append_with-requires-clause-offset g c =
    let p = c.self.inside in
    omega (arith, c.requires.offset, ap (λ (b : BlockPages). b.size) c.self.view_is, ap (λ (l : List ℕ). length l) c.zeros.ensures, length-zero_page p.size)

pub set-requires : goal.set-requires
set-requires g c = has_slot c.self.inside.size c.self.inside.slots c.self.inside.bytes.items c.args.self.now c.args.i c.self.view_is c.requires.page

pub invariant_of-self : goal.invariant_of-self
invariant_of-self g c =
    let p = c.self.inside in
    let content : List ℕ = set (zero_page p.size) c.args.offset c.args.byte in
    let lt : c.args.i < length p.slots = has_slot p.size p.slots p.bytes.items c.args.self.now c.args.i c.self.view_is c.requires.page in
    let none : get_or p.slots c.args.i 0 ≡ 0 = sym c.get-slot.ensures ∙ c.if-slot-eq0.true in
    let size : length content ≡ p.size = length-set (zero_page p.size) c.args.offset c.args.byte ∙ length-zero_page p.size in
    let items = c.append_with.ensures.items in
    let number : c.len.result / p.size ≡ suc (written p.slots) =
    ap (λ (n : ℕ). n / p.size) (omega (
      arith,
      c.len.ensures,
      c.append_with.ensures.len,
      p.bytes.ok.0,
      size,
      ap (λ (l : List ℕ). length l) c.zeros.ensures,
      length-zero_page p.size,
    )) ∙ slot_made p.size p.slots p.bytes.items content _ c.self.invariant.are_parts size in
    record {
      is_size = c.self.invariant.is_size;
      are_parts = rw (c.set.ensures, number, c.append_with.ensures.items, c.zeros.ensures)
          (more_room p.size _ _ _ _ (kept_more p.size p.slots p.bytes.items content _ c.args.i c.self.invariant.are_parts lt none
          size) c.append_with.ensures.capacity);
    }

pub write_in_part-requires-clause-room : goal.write_in_part-requires-clause-room
write_in_part-requires-clause-room g c =
    let p = c.self.inside in
    let s = c.get-slot.result in
    let lt : c.args.i < length p.slots = has_slot p.size p.slots p.bytes.items c.args.self.now c.args.i c.self.view_is c.requires.page in
    let some : get_or p.slots c.args.i 0 ≡ suc (s - 1) = sym c.get-slot.ensures ∙ some_slot s c.if-slot-eq0.false in
    omega (
      arith,
      room_slot p.size p.slots p.bytes.items _ c.args.i (s - 1) c.self.invariant.are_parts lt some,
      ap (λ (l : List ℕ). length l) c.deref_mut.ensures.value,
    )

pub returns-then-slot-eq0 : goal.returns-then-slot-eq0
returns-then-slot-eq0 g c =
    let p = c.self.inside in
    let before : List (List ℕ) = parts_in p.size p.slots p.bytes.items in
    let content : List ℕ = set (zero_page p.size) c.args.offset c.args.byte in
    let lt : c.args.i < length p.slots = has_slot p.size p.slots p.bytes.items c.args.self.now c.args.i c.self.view_is c.requires.page in
    let inside : c.args.i < length p.slots = lt in
    let none : get_or p.slots c.args.i 0 ≡ 0 = sym c.get-slot.ensures ∙ c.if-slot-eq0.true in
    let size : length content ≡ p.size = length-set (zero_page p.size) c.args.offset c.args.byte ∙ length-zero_page p.size in
    let number : c.len.result / p.size ≡ suc (written p.slots) =
    ap (λ (n : ℕ). n / p.size) (omega (
      arith,
      c.len.ensures,
      c.append_with.ensures.len,
      p.bytes.ok.0,
      size,
      ap (λ (l : List ℕ). length l) c.zeros.ensures,
      length-zero_page p.size,
    )) ∙ slot_made p.size p.slots p.bytes.items content _ c.self.invariant.are_parts size in
    let pages : parts_in p.size c.set.new.self c.append_with.new.kept.items ≡ set before c.args.i content =
    rw (c.set.ensures, number, c.append_with.ensures.items, c.zeros.ensures)
    (put_more p.size p.slots p.bytes.items content _ c.args.i c.self.invariant.are_parts inside size) in
    let was : zero_page p.size ≡ get_or before c.args.i [] = sym (page_zeros p.size p.slots p.bytes.items c.args.i inside none) in
    ap (λ (l : List (List ℕ)). record { size = p.size; pages = l }) (pages ∙ ap (λ (x : List ℕ). set before c.args.i (set x c.args.offset c.args.byte)) was)
    ∙ ap (λ (b : BlockPages). with_content b c.args.i (set (page_at b c.args.i) c.args.offset c.args.byte)) c.self.view_is

pub returns-else-slot-eq0 : goal.returns-else-slot-eq0
returns-else-slot-eq0 g c =
    let p = c.self.inside in
    let s = c.get-slot.result in
    let new = c.write_in_part.new.items in
    let before : List (List ℕ) = parts_in p.size p.slots p.bytes.items in
    let lt : c.args.i < length p.slots = has_slot p.size p.slots p.bytes.items c.args.self.now c.args.i c.self.view_is c.requires.page in
    let inside : c.args.i < length p.slots = lt in
    let some : get_or p.slots c.args.i 0 ≡ suc (s - 1) = sym c.get-slot.ensures ∙ some_slot s c.if-slot-eq0.false in
    let content : List ℕ = set (part_at p.size p.bytes.items (s - 1)) c.args.offset c.args.byte in
    let changes : ChangesPart p.size p.bytes.items new (s - 1) content = rw (← c.deref_mut.ensures.value) c.write_in_part.ensures in
    let pages : parts_in p.size p.slots new ≡ set before c.args.i content =
    put_slot p.size p.slots p.bytes.items new _ c.args.i (s - 1) content c.self.invariant.are_parts inside some changes in
    let was : part_at p.size p.bytes.items (s - 1) ≡ get_or before c.args.i [] = sym (page_bytes p.size p.slots p.bytes.items c.args.i (s - 1) inside some) in
    ap (λ (l : List ℕ). record { size = p.size; pages = parts_in p.size p.slots l }) (with_items_is p.bytes new (changes.len ∙ sym p.bytes.ok.0))
    ∙ ap (λ (l : List (List ℕ)). record { size = p.size; pages = l }) (pages ∙ ap (λ (x : List ℕ). set before c.args.i (set x c.args.offset c.args.byte)) was)
    ∙ ap (λ (b : BlockPages). with_content b c.args.i (set (page_at b c.args.i) c.args.offset c.args.byte)) c.self.view_is
