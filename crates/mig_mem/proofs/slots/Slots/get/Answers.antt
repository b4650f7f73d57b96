use Rattle.std.proofs.Common.{ℕ, ◌≡◌, ◌<◌, ◌-◌, ◌/◌, ◌%◌, ◌∙◌, List, length, get_or, sym, ap, arith, suc}
use Rattle.mig_mem.specs.Parts.{part_at}
use Rattle.mig_mem.proofs.Slotted.{some_slot, room_slot}
use Rattle.mig_mem.proofs.Leaves.{length-numbers, has_leaf, leaf_is, number_zero, number_read, length-part}
use Rattle.mig_mem.proofs.slots.Slots.get.Goals as goal

pub index-leaf-requires : goal.index-leaf-requires
index-leaf-requires g c =
    let s = c.self.inside in
    let lt : c.args.i < s.count = omega (
      arith,
      c.requires,
      ap (λ (l : List ℕ). length l) c.self.view_is,
      length-numbers 512 s.count s.leaves.items s.numbers.items,
    ) in
    omega (arith, has_leaf 512 s.count s.leaves.items s.numbers.items _ c.args.i c.self.invariant lt, s.leaves.ok.0)

pub returns-then-leaf-eq0 : goal.returns-then-leaf-eq0
returns-then-leaf-eq0 g c =
    let s = c.self.inside in
    let lt : c.args.i < s.count = omega (
      arith,
      c.requires,
      ap (λ (l : List ℕ). length l) c.self.view_is,
      length-numbers 512 s.count s.leaves.items s.numbers.items,
    ) in
    let inside : c.args.i / 512 < length s.leaves.items = has_leaf 512 s.count s.leaves.items s.numbers.items _ c.args.i c.self.invariant lt in
    let none : get_or s.leaves.items (c.args.i / 512) 0 ≡ 0 =
    leaf_is s.leaves (c.args.i / 512) c.index-leaf.result.now (omega (arith, inside, s.leaves.ok.0)) c.index-leaf.ensures ∙ c.if-leaf-eq0.true in
    sym (number_zero 512 s.count s.leaves.items s.numbers.items c.args.i (omega arith) inside lt none) ∙ ap (λ (l : List ℕ). get_or l c.args.i 0) c.self.view_is

pub part_of-requires : goal.part_of-requires
part_of-requires g c =
    let s = c.self.inside in
    let n = c.index-leaf.result.now in
    let lt : c.args.i < s.count = omega (
      arith,
      c.requires,
      ap (λ (l : List ℕ). length l) c.self.view_is,
      length-numbers 512 s.count s.leaves.items s.numbers.items,
    ) in
    let inside : c.args.i / 512 < length s.leaves.items = has_leaf 512 s.count s.leaves.items s.numbers.items _ c.args.i c.self.invariant lt in
    let some : get_or s.leaves.items (c.args.i / 512) 0 ≡ suc (n - 1) =
    leaf_is s.leaves (c.args.i / 512) n (omega (arith, inside, s.leaves.ok.0)) c.index-leaf.ensures ∙ some_slot n c.if-leaf-eq0.false in
    omega (
      arith,
      room_slot 512 s.leaves.items s.numbers.items _ (c.args.i / 512) (n - 1) c.self.invariant.are_parts inside some,
      ap (λ (l : List ℕ). length l) c.deref.ensures.value,
    )

pub bounds-part_of-i : goal.bounds-part_of-i
bounds-part_of-i g c =
    let s = c.self.inside in
    let n = c.index-leaf.result.now in
    let lt : c.args.i < s.count = omega (
      arith,
      c.requires,
      ap (λ (l : List ℕ). length l) c.self.view_is,
      length-numbers 512 s.count s.leaves.items s.numbers.items,
    ) in
    let inside : c.args.i / 512 < length s.leaves.items = has_leaf 512 s.count s.leaves.items s.numbers.items _ c.args.i c.self.invariant lt in
    let some : get_or s.leaves.items (c.args.i / 512) 0 ≡ suc (n - 1) =
    leaf_is s.leaves (c.args.i / 512) n (omega (arith, inside, s.leaves.ok.0)) c.index-leaf.ensures ∙ some_slot n c.if-leaf-eq0.false in
    let room = room_slot 512 s.leaves.items s.numbers.items _ (c.args.i / 512) (n - 1) c.self.invariant.are_parts inside some in
    let len : length (part_at 512 s.numbers.items (n - 1)) ≡ 512 = length-part 512 s.numbers.items (n - 1) room in
    let is : length c.part_of.result.now ≡ 512 =
    ap (λ (l : List ℕ). length l) (c.part_of.ensures ∙ ap (λ (l : List ℕ). part_at 512 l (n - 1)) c.deref.ensures.value) ∙ len in
    omega (arith, is)

pub returns : goal.returns
returns g c =
    let s = c.self.inside in
    let n = c.index-leaf.result.now in
    let lt : c.args.i < s.count = omega (
      arith,
      c.requires,
      ap (λ (l : List ℕ). length l) c.self.view_is,
      length-numbers 512 s.count s.leaves.items s.numbers.items,
    ) in
    let inside : c.args.i / 512 < length s.leaves.items = has_leaf 512 s.count s.leaves.items s.numbers.items _ c.args.i c.self.invariant lt in
    let some : get_or s.leaves.items (c.args.i / 512) 0 ≡ suc (n - 1) =
    leaf_is s.leaves (c.args.i / 512) n (omega (arith, inside, s.leaves.ok.0)) c.index-leaf.ensures ∙ some_slot n c.if-leaf-eq0.false in
    ap (λ (l : List ℕ). get_or l (c.args.i % 512) 0) (c.part_of.ensures ∙ ap (λ (l : List ℕ). part_at 512 l (n - 1)) c.deref.ensures.value)
    ∙ sym (number_read 512 s.count s.leaves.items s.numbers.items c.args.i (n - 1) inside lt some) ∙ ap (λ (l : List ℕ). get_or l c.args.i 0) c.self.view_is
