-- The parts of a file by their numbers.
use Rattle.std.proofs.Common.{ℕ, ◌≡◌, ◌≢◌, ◌-◌, ◌≤◌, ◌==◌, ◌++◌, ◌∷◌, [], true, false, List, length, sym, ap, subst, ◌∙◌, arith}
use Rattle.std.proofs.lemmas.Bool.{cond-true, cond-false, eq-eqb, ne_eqb}
use Rattle.mig_mapped.specs.Block.{mapped_block}
use Rattle.mig_mapped.specs.Front.{end_bytes}
use Rattle.mig_mapped.specs.Write.{written_table, head_offset, end_offset, head_bytes, PartsAreRead}
use Rattle.mig_c_calls.specs.Status.{IsOneOf, done, bad_length, no_memory}
use Rattle.mig_c_mapped.specs.declared.part.FilePart.{FilePart}
use Rattle.mig_c_mapped.specs.Sends.{FileInHand, last_part, part_bytes, part_offset, CopiesPart, GivesPart}

-- part 0 is the front
pub front_is : (s : FileInHand) (part : ℕ) → part ≡ 0 → (part_bytes s part ≡ s.front) × (part_offset s part ≡ 0)
front_is s part e = let test : (part == 0) ≡ true = eq-eqb part 0 e in (cond-true _ _ _ test, cond-true _ _ _ test)

-- the last one is what follows the pages
pub end_is : (s : FileInHand) (part : ℕ) → part ≡ last_part s
    → (part_bytes s part ≡ end_bytes (written_table s.writing)) × (part_offset s part ≡ end_offset s.writing)
end_is s part e =
    let some : (part == 0) ≡ false = ne_eqb part 0 (λ z. absurd (omega (arith, e, z))) in
    let last : (part == last_part s) ≡ true = eq-eqb part (last_part s) e in
    let before : part - 1 ≡ length s.writing.blocks = omega (arith, e) in
    (cond-false _ _ _ some ∙ cond-true _ _ _ last, cond-false _ _ _ some ∙ ap (head_offset s.writing) before)

-- and each between them a block's head
pub head_is : (s : FileInHand) (part : ℕ) → part ≢ 0 → part ≢ last_part s
    → (part_bytes s part ≡ head_bytes s.writing (part - 1) ++ (mapped_block s.writing.blocks (part - 1)).bitmap)
    × (part_offset s part ≡ head_offset s.writing (part - 1))
head_is s part some other =
    let not_first : (part == 0) ≡ false = ne_eqb part 0 some in
    let not_last : (part == last_part s) ≡ false = ne_eqb part (last_part s) other in
    (cond-false _ _ _ not_first ∙ cond-false _ _ _ not_last, cond-false _ _ _ not_first)

not_refused : (status : ℕ) → IsOneOf (done ∷ bad_length ∷ []) status → status ≡ no_memory → ⊥
not_refused status named e = let here = subst (IsOneOf (done ∷ bad_length ∷ [])) e named in cc

-- The bytes of a part were copied from where it lies.
pub given : (s : FileInHand) (part status : ℕ) (old new : List ℕ) (before after : FilePart) (bytes : List ℕ) (offset : ℕ)
    → PartsAreRead s.writing → part ≤ last_part s → (part_bytes s part ≡ bytes) × (part_offset s part ≡ offset)
    → CopiesPart bytes offset status old new after → GivesPart part status old new before after s
given s part status old new before after bytes offset read there is copies = record {
  gives = λ _ _. subst (λ (x : List ℕ). CopiesPart x (part_offset s part) status old new after) (sym is.0)
      (subst (λ (n : ℕ). CopiesPart bytes n status old new after) (sym is.1) copies);
  missing = λ high. absurd (omega (arith, there, high));
  same = λ high. absurd (omega (arith, there, high));
  refused = λ e. absurd (not_refused status copies.is_named e);
  are_read = read;
}
