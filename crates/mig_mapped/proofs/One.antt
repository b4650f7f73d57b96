-- A file has a reading, and no other.
use Rattle.std.proofs.Common.{ℕ, zero, suc, ◌≡◌, ◌≢◌, ◌+◌, ◌≤◌, List, [], ◌∷◌, Option, Some, None, refl, sym, ap, subst, ◌∙◌, inl, inr, arith}
use Rattle.std.proofs.lemmas.Bool.{cases_eq}
use Rattle.mig_mapped.specs.declared.fault.MappedFault.{MappedFault}
use Rattle.mig_mapped.specs.Block.{MappedBlock}
use Rattle.mig_mapped.specs.Head.{MappedProgress, start, head_fault, block_in, after_block}
use Rattle.mig_mapped.specs.Reading.{rest_of, AreBlocks, after_blocks, end_fault, EndsWith}
use Rattle.mig_mapped.specs.Law.{HasOneMappedReading}
use Rattle.mig_mapped.proofs.Heads.{head_good, all_bytes}

-- ---- no other

one_end : (file : List ℕ) (c : MappedProgress) (f g : Option MappedFault) → EndsWith file c f → EndsWith file c g → f ≡ g
one_end file c f g a b = elim (cases_eq c.left 0) [
  | inl none ↦ a.at_end none ∙ sym (b.at_end none)
  | inr some ↦ (a.at_head some).1 ∙ sym ((b.at_head some).1)
]

one_reading : (file : List ℕ) (c : MappedProgress) (bs ds : List MappedBlock) (f g : Option MappedFault) → AreBlocks file c bs → AreBlocks file c ds
    → EndsWith file (after_blocks c bs) f → EndsWith file (after_blocks c ds) g → (bs ≡ ds) × (f ≡ g)
one_reading file c [] [] f g p q a b = (refl, one_end file c f g a b)
one_reading file c [] (d ∷ ds) f g p q a b = absurd ((a.at_head q.0).0 ((a.at_head q.0).1 ∙ q.1))
one_reading file c (d ∷ bs) [] f g p q a b = absurd ((b.at_head p.0).0 ((b.at_head p.0).1 ∙ p.1))
one_reading file c (x ∷ bs) (y ∷ ds) f g p q a b =
    let same : y ≡ x = q.2 ∙ sym p.2 in
    let others = one_reading file (after_block c x) bs ds f g p.3 (subst (λ (z : MappedBlock). AreBlocks file (after_block c z) ds) same q.3) a
    (subst (λ (z : MappedBlock). EndsWith file (after_blocks (after_block c z) ds) g) same b) in
    (cc, others.1)

-- ---- there is one

-- blocks and a fault that are read from here on
pub record HasReading (file : List ℕ) (c : MappedProgress) : Type 0 where
  pub blocks : List MappedBlock
  pub found : Option MappedFault
  pub are_blocks : AreBlocks file c blocks
  pub ends : EndsWith file (after_blocks c blocks) found

-- the next block's head, if it has no fault, and what is read after it
one_more : (file : List ℕ) (c : MappedProgress) → c.left ≢ 0 → head_fault c (rest_of file c) ≡ None
    → HasReading file (after_block c (block_in c.given.page_size (rest_of file c))) → HasReading file c
one_more file c some good more = record {
  blocks = block_in c.given.page_size (rest_of file c) ∷ more.blocks;
  found = more.found;
  are_blocks = (some, good, refl, more.are_blocks);
  ends = more.ends;
}

-- its fault, if it has one
bad_head : (file : List ℕ) (c : MappedProgress) (f : MappedFault) → c.left ≢ 0 → head_fault c (rest_of file c) ≡ Some f → HasReading file c
bad_head file c f some bad = record {
  blocks = [];
  found = Some f;
  are_blocks = tt;
  ends = record { at_end = λ none. absurd (some none); at_head = λ _. (λ none. absurd cc, sym bad) };
}

-- all bytes of the total have an entry
at_end : (file : List ℕ) (c : MappedProgress) → c.left ≡ 0 → HasReading file c
at_end file c none = record {
  blocks = [];
  found = end_fault file c;
  are_blocks = tt;
  ends = record { at_end = λ _. refl; at_head = λ some. absurd (some none) };
}

-- a head without a fault leaves fewer bytes of the total
less_left : (c : MappedProgress) (bytes : List ℕ) (n : ℕ) → head_fault c bytes ≡ None → c.left ≤ n + 1
    → (after_block c (block_in c.given.page_size bytes)).left ≤ n
less_left c bytes n good le =
    let is = head_good c bytes good in
    omega (arith, all_bytes c bytes is.entry, is.entry.is_some)

next_head : (file : List ℕ) (c : MappedProgress) (n : ℕ) (o : Option MappedFault) → c.left ≢ 0 → c.left ≤ n + 1 → head_fault c (rest_of file c) ≡ o
    → ((d : MappedProgress) → d.left ≤ n → HasReading file d) → HasReading file c
next_head file c n None some le is others =
    one_more file c some is (others _ (less_left c (rest_of file c) n is le))
next_head file c n (Some f) some le is others = bad_head file c f some is

some_reading : (n : ℕ) (file : List ℕ) (c : MappedProgress) → c.left ≤ n → HasReading file c
some_reading zero file c le = at_end file c (omega arith)
some_reading (suc n) file c le = elim (cases_eq c.left 0) [
  | inl none ↦ at_end file c none
  | inr some ↦ next_head file c n (head_fault c (rest_of file c)) some (omega arith) refl (some_reading n file)
]

pub one_reading_law : HasOneMappedReading
one_reading_law given place total file =
    let r = some_reading total file (start given place total) (omega arith) in (
      record { blocks = r.blocks; fault = r.found },
      record { are_blocks = r.are_blocks; ends = r.ends },
      λ other is.
          let same = one_reading file (start given place total) other.blocks r.blocks other.fault r.found is.are_blocks r.are_blocks is.ends r.ends in
          ap (λ (x : List MappedBlock). record { blocks = x; fault = other.fault }) same.0
          ∙ ap (λ (x : Option MappedFault). record { blocks = r.blocks; fault = x }) same.1,
    )
