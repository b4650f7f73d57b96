use Rattle.std.proofs.Common.{ℕ, ◌≡◌, ◌<◌, ◌-◌, ◌∙◌, List, length, [], get_or, set, sym, ap, arith, suc}
use Rattle.std.proofs.lemmas.List.{with_items_is, set-get_or}
use Rattle.mig_mem.specs.Image.{zero_page}
use Rattle.mig_mem.specs.Parts.{ChangesPart, parts_in}
use Rattle.mig_mem.specs.BlockPages.{BlockPages, with_content}
use Rattle.mig_mem.proofs.Slotted.{has_slot, some_slot, room_slot, put_slot, page_zeros}
use Rattle.mig_mem.proofs.pages.Pages.put_zeros.Goals as goal

pub get-slot-requires : goal.get-slot-requires
get-slot-requires g c = has_slot c.self.inside.size c.self.inside.slots c.self.inside.bytes.items c.args.self.now c.args.i c.self.view_is c.requires

pub write_part-requires-clause-room : goal.write_part-requires-clause-room
write_part-requires-clause-room g c =
    let p = c.self.inside in
    let s = c.get-slot.result in
    let lt : c.args.i < length p.slots = has_slot p.size p.slots p.bytes.items c.args.self.now c.args.i c.self.view_is c.requires in
    let some : get_or p.slots c.args.i 0 ≡ suc (s - 1) = sym c.get-slot.ensures ∙ some_slot s c.if-slot-ne0.true in
    omega (
      arith,
      room_slot p.size p.slots p.bytes.items _ c.args.i (s - 1) c.self.invariant.are_parts lt some,
      ap (λ (l : List ℕ). length l) c.deref_mut.ensures.value,
    )

pub returns-then-slot-ne0 : goal.returns-then-slot-ne0
returns-then-slot-ne0 g c =
    let p = c.self.inside in
    let s = c.get-slot.result in
    let new = c.write_part.new.items in
    let lt : c.args.i < length p.slots = has_slot p.size p.slots p.bytes.items c.args.self.now c.args.i c.self.view_is c.requires in
    let some : get_or p.slots c.args.i 0 ≡ suc (s - 1) = sym c.get-slot.ensures ∙ some_slot s c.if-slot-ne0.true in
    let changes : ChangesPart p.size p.bytes.items new (s - 1) (zero_page p.size) = rw (← c.deref_mut.ensures.value, ← c.zeros.ensures) c.write_part.ensures in
    let pages : parts_in p.size p.slots new ≡ set (parts_in p.size p.slots p.bytes.items) c.args.i (zero_page p.size) =
    put_slot p.size p.slots p.bytes.items new _ c.args.i (s - 1) (zero_page p.size) c.self.invariant.are_parts lt some changes in
    ap (λ (l : List ℕ). record { size = p.size; pages = parts_in p.size p.slots l }) (with_items_is p.bytes new (changes.len ∙ sym p.bytes.ok.0))
    ∙ ap (λ (l : List (List ℕ)). record { size = p.size; pages = l }) pages
    ∙ ap (λ (b : BlockPages). with_content b c.args.i (zero_page b.size)) c.self.view_is

pub returns-else-slot-ne0 : goal.returns-else-slot-ne0
returns-else-slot-ne0 g c =
    let p = c.self.inside in
    let lt : c.args.i < length p.slots = has_slot p.size p.slots p.bytes.items c.args.self.now c.args.i c.self.view_is c.requires in
    let none : get_or p.slots c.args.i 0 ≡ 0 = sym c.get-slot.ensures ∙ c.if-slot-ne0.false in
    let there : get_or (parts_in p.size p.slots p.bytes.items) c.args.i [] ≡ zero_page p.size = page_zeros p.size p.slots p.bytes.items c.args.i lt none in
    sym c.self.view_is ∙ ap (λ (l : List (List ℕ)). record { size = p.size; pages = l })
    (sym (set-get_or (parts_in p.size p.slots p.bytes.items) c.args.i []) ∙ ap (λ (x : List ℕ). set (parts_in p.size p.slots p.bytes.items) c.args.i x) there)
    ∙ ap (λ (b : BlockPages). with_content b c.args.i (zero_page b.size)) c.self.view_is
