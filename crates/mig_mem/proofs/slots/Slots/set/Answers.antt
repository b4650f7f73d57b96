use Rattle.std.proofs.Common.{ℕ, ◌≡◌, ◌<◌, ◌-◌, ◌/◌, ◌%◌, ◌∙◌, List, [], length, get_or, set, sym, ap, arith, suc, replicate}
use Rattle.std.proofs.lemmas.List.{with_items_is, length-set, length-replicate}
use Rattle.mig_mem.specs.Parts.{part_at, parts_in, written, ChangesPart}
use Rattle.mig_mem.specs.Leaves.{numbers_in}
use Rattle.mig_mem.proofs.Slotted.{some_slot, more_room, room_more, room_slot, put_slot, put_more, kept_more, slot_made, page_zeros, page_bytes}
use Rattle.mig_mem.proofs.Leaves.{length-numbers, has_leaf, leaf_is, number_put}
use Rattle.mig_mem.proofs.slots.Slots.set.Goals as goal

pub index-leaf-requires : goal.index-leaf-requires
index-leaf-requires g c =
    let s = c.self.inside in
    let lt : c.args.i < s.count = omega (
      arith,
      c.requires,
      ap (λ (l : List ℕ). length l) c.self.view_is,
      length-numbers 512 s.count s.leaves.items s.numbers.items,
    ) in
    omega (arith, has_leaf 512 s.count s.leaves.items s.numbers.items _ c.args.i c.self.invariant lt, s.leaves.ok.0)

pub append_with-requires-clause-room : goal.append_with-requires-clause-room
append_with-requires-clause-room g c =
    let s = c.self.inside in
    let lt : c.args.i < s.count = omega (
      arith,
      c.requires,
      ap (λ (l : List ℕ). length l) c.self.view_is,
      length-numbers 512 s.count s.leaves.items s.numbers.items,
    ) in
    let inside : c.args.i / 512 < length s.leaves.items = has_leaf 512 s.count s.leaves.items s.numbers.items _ c.args.i c.self.invariant lt in
    let none : get_or s.leaves.items (c.args.i / 512) 0 ≡ 0 =
    leaf_is s.leaves (c.args.i / 512) c.index-leaf.result.now (omega (arith, inside, s.leaves.ok.0)) c.index-leaf.ensures ∙ c.if-leaf-eq0.true in
    omega (
      arith,
      room_more 512 s.leaves.items s.numbers.items _ (c.args.i / 512) c.self.invariant.are_parts inside none,
      s.numbers.ok.0,
      ap (λ (l : List ℕ). length l) c.zeros.ensures,
      length-replicate {A = ℕ} 512 0,
    )

pub index_mut-requires : goal.index_mut-requires
index_mut-requires g c =
    let s = c.self.inside in
    let lt : c.args.i < s.count = omega (
      arith,
      c.requires,
      ap (λ (l : List ℕ). length l) c.self.view_is,
      length-numbers 512 s.count s.leaves.items s.numbers.items,
    ) in
    omega (arith, has_leaf 512 s.count s.leaves.items s.numbers.items _ c.args.i c.self.invariant lt, s.leaves.ok.0)

pub invariant_of-self : goal.invariant_of-self
invariant_of-self g c =
    let s = c.self.inside in
    let content : List ℕ = set (replicate {A = ℕ} 512 0) (c.args.i % 512) c.args.number in
    let lt : c.args.i < s.count = omega (
      arith,
      c.requires,
      ap (λ (l : List ℕ). length l) c.self.view_is,
      length-numbers 512 s.count s.leaves.items s.numbers.items,
    ) in
    let inside : c.args.i / 512 < length s.leaves.items = has_leaf 512 s.count s.leaves.items s.numbers.items _ c.args.i c.self.invariant lt in
    let none : get_or s.leaves.items (c.args.i / 512) 0 ≡ 0 =
    leaf_is s.leaves (c.args.i / 512) c.index-leaf.result.now (omega (arith, inside, s.leaves.ok.0)) c.index-leaf.ensures ∙ c.if-leaf-eq0.true in
    let size : length content ≡ 512 = length-set (replicate {A = ℕ} 512 0) (c.args.i % 512) c.args.number ∙ length-replicate {A = ℕ} 512 0 in
    let many : length (set s.leaves.items (c.args.i / 512) (c.len.result / 512)) ≡ length s.leaves.items =
    length-set s.leaves.items (c.args.i / 512) (c.len.result / 512) in
    let number : c.len.result / 512 ≡ suc (written s.leaves.items) =
    ap (λ (n : ℕ). n / 512) (omega (
      arith,
      c.len.ensures,
      c.append_with.ensures.len,
      s.numbers.ok.0,
      size,
      ap (λ (l : List ℕ). length l) c.zeros.ensures,
      length-replicate {A = ℕ} 512 0,
    )) ∙ slot_made 512 s.leaves.items s.numbers.items content _ c.self.invariant.are_parts size in
    record {
      are_parts = rw (number, c.append_with.ensures.items, c.zeros.ensures)
          (more_room 512 _ _ _ _ (kept_more 512 s.leaves.items s.numbers.items content _
          (c.args.i / 512) c.self.invariant.are_parts inside none size) c.append_with.ensures.capacity);
      enough = (let le = c.self.invariant.enough in omega (arith, le, many));
    }

pub write_in_part-requires-clause-room : goal.write_in_part-requires-clause-room
write_in_part-requires-clause-room g c =
    let s = c.self.inside in
    let n = c.index-leaf.result.now in
    let lt : c.args.i < s.count = omega (
      arith,
      c.requires,
      ap (λ (l : List ℕ). length l) c.self.view_is,
      length-numbers 512 s.count s.leaves.items s.numbers.items,
    ) in
    let inside : c.args.i / 512 < length s.leaves.items = has_leaf 512 s.count s.leaves.items s.numbers.items _ c.args.i c.self.invariant lt in
    let some : get_or s.leaves.items (c.args.i / 512) 0 ≡ suc (n - 1) =
    leaf_is s.leaves (c.args.i / 512) n (omega (arith, inside, s.leaves.ok.0)) c.index-leaf.ensures ∙ some_slot n c.if-leaf-eq0.false in
    omega (
      arith,
      room_slot 512 s.leaves.items s.numbers.items _ (c.args.i / 512) (n - 1) c.self.invariant.are_parts inside some,
      ap (λ (l : List ℕ). length l) c.deref_mut.ensures.value,
    )

pub returns-then-leaf-eq0 : goal.returns-then-leaf-eq0
returns-then-leaf-eq0 g c =
    let s = c.self.inside in
    let before : List (List ℕ) = parts_in 512 s.leaves.items s.numbers.items in
    let zero : List ℕ = replicate {A = ℕ} 512 0 in
    let content : List ℕ = set zero (c.args.i % 512) c.args.number in
    let lt : c.args.i < s.count = omega (
      arith,
      c.requires,
      ap (λ (l : List ℕ). length l) c.self.view_is,
      length-numbers 512 s.count s.leaves.items s.numbers.items,
    ) in
    let inside : c.args.i / 512 < length s.leaves.items = has_leaf 512 s.count s.leaves.items s.numbers.items _ c.args.i c.self.invariant lt in
    let none : get_or s.leaves.items (c.args.i / 512) 0 ≡ 0 =
    leaf_is s.leaves (c.args.i / 512) c.index-leaf.result.now (omega (arith, inside, s.leaves.ok.0)) c.index-leaf.ensures ∙ c.if-leaf-eq0.true in
    let size : length content ≡ 512 = length-set zero (c.args.i % 512) c.args.number ∙ length-replicate {A = ℕ} 512 0 in
    let number : c.len.result / 512 ≡ suc (written s.leaves.items) =
    ap (λ (n : ℕ). n / 512) (omega (
      arith,
      c.len.ensures,
      c.append_with.ensures.len,
      s.numbers.ok.0,
      size,
      ap (λ (l : List ℕ). length l) c.zeros.ensures,
      length-replicate {A = ℕ} 512 0,
    )) ∙ slot_made 512 s.leaves.items s.numbers.items content _ c.self.invariant.are_parts size in
    let leaves : parts_in 512 (set s.leaves.items (c.args.i / 512) (c.len.result / 512)) c.append_with.new.kept.items ≡ set before (c.args.i / 512) content =
    rw (number, c.append_with.ensures.items, c.zeros.ensures)
    (put_more 512 s.leaves.items s.numbers.items content _ (c.args.i / 512) c.self.invariant.are_parts inside size) in
    let was : zero ≡ get_or before (c.args.i / 512) [] = sym (page_zeros 512 s.leaves.items s.numbers.items (c.args.i / 512) inside none) in
    number_put 512 s.count s.leaves.items s.numbers.items _ _ _ c.args.i c.args.number c.self.invariant lt
    (leaves ∙ ap (λ (x : List ℕ). set before (c.args.i / 512) (set x (c.args.i % 512) c.args.number)) was)
    ∙ ap (λ (l : List ℕ). set l c.args.i c.args.number) c.self.view_is

pub returns-else-leaf-eq0 : goal.returns-else-leaf-eq0
returns-else-leaf-eq0 g c =
    let s = c.self.inside in
    let n = c.index-leaf.result.now in
    let new = c.write_in_part.new.items in
    let before : List (List ℕ) = parts_in 512 s.leaves.items s.numbers.items in
    let lt : c.args.i < s.count = omega (
      arith,
      c.requires,
      ap (λ (l : List ℕ). length l) c.self.view_is,
      length-numbers 512 s.count s.leaves.items s.numbers.items,
    ) in
    let inside : c.args.i / 512 < length s.leaves.items = has_leaf 512 s.count s.leaves.items s.numbers.items _ c.args.i c.self.invariant lt in
    let some : get_or s.leaves.items (c.args.i / 512) 0 ≡ suc (n - 1) =
    leaf_is s.leaves (c.args.i / 512) n (omega (arith, inside, s.leaves.ok.0)) c.index-leaf.ensures ∙ some_slot n c.if-leaf-eq0.false in
    let content : List ℕ = set (part_at 512 s.numbers.items (n - 1)) (c.args.i % 512) c.args.number in
    let changes : ChangesPart 512 s.numbers.items new (n - 1) content = rw (← c.deref_mut.ensures.value) c.write_in_part.ensures in
    let leaves : parts_in 512 s.leaves.items new ≡ set before (c.args.i / 512) content =
    put_slot 512 s.leaves.items s.numbers.items new _ (c.args.i / 512) (n - 1) content c.self.invariant.are_parts inside some changes in
    let was : part_at 512 s.numbers.items (n - 1) ≡ get_or before (c.args.i / 512) [] =
    sym (page_bytes 512 s.leaves.items s.numbers.items (c.args.i / 512) (n - 1) inside some) in
    ap (λ (l : List ℕ). numbers_in 512 s.count s.leaves.items l) (with_items_is s.numbers new (changes.len ∙ sym s.numbers.ok.0))
    ∙ number_put 512 s.count s.leaves.items s.numbers.items s.leaves.items new _ c.args.i c.args.number c.self.invariant lt
    (leaves ∙ ap (λ (x : List ℕ). set before (c.args.i / 512) (set x (c.args.i % 512) c.args.number)) was)
    ∙ ap (λ (l : List ℕ). set l c.args.i c.args.number) c.self.view_is
