-- The stream as which a file is opened.
use Rattle.std.proofs.Common.{ℕ, ◌≡◌, ◌+◌, ◌<◌, ◌≤◌, ◌^◌, List, ◌++◌, length, drop, sym, ap, ◌∙◌, subst, append_assoc, arith}
use Rattle.std.proofs.lemmas.List.{take-append-drop, length-append, length-take, length-drop}
use Rattle.mig_mapped.specs.declared.front.MappedFront.{MappedFront}
use Rattle.mig_mapped.specs.Front.{Front, HasFront, BeginsWith, mapped_front, plain_front}
use Rattle.mig_mapped.specs.Head.{MappedProgress}
use Rattle.mig_mapped.proofs.FrontFound.{place_offset}
use Rattle.zimgasol_mapped.specs.Heads.{IsIndexOf}
use Rattle.zimgasol_mapped.specs.Plain.{plain_stream}
use Rattle.zimgasol_mapped.specs.Opened.{IsPlainOf, IsSearched}

-- what a front says is in its bounds
pub record IsInBounds (bytes : List ℕ) (found : MappedFront) : Type 0 where
  pub is_long : 25 ≤ length bytes
  pub has_place : found.place ≤ length bytes
  pub has_some : 0 < found.total
  pub has_limit : found.total ≤ 2 ^ 40

pub front_bounds : (bytes : List ℕ) (found : MappedFront) → HasFront bytes found → IsInBounds bytes found
front_bounds bytes found h =
    let f : Front = h.0 in
    let begins : BeginsWith f bytes found = h.1 in
    let n : length bytes ≡ length (mapped_front f) + length begins.rest =
    ap (λ (l : List ℕ). length l) begins.is_spelled ∙ length-append (mapped_front f) begins.rest in
    let place : found.place ≡ length (mapped_front f) = ap (λ (x : MappedFront). x.place) begins.has_offsets in
    let total : found.total ≡ f.total = ap (λ (x : MappedFront). x.total) begins.has_offsets in
    record {
      is_long = omega (arith, n, place_offset f);
      has_place = omega (arith, n, place);
      has_some = omega (arith, total, begins.is_front.has_total.is_some);
      has_limit = omega (arith, total, begins.is_front.has_total.is_limited);
    }

-- the bytes before the stream are in the file
pub before_within : (file bytes : List ℕ) (before : ℕ) → IsSearched file before bytes → 25 ≤ length bytes → before ≤ length file
before_within file bytes before searched long =
    omega (arith, ap (λ (l : List ℕ). length l) searched.are_first ∙ length-take 262144 (drop before file), length-drop before file, long)

pub opened_plain : (page_size : ℕ) (file bytes plain : List ℕ) (before : ℕ) (found : MappedFront) (index : MappedProgress) → IsSearched file before bytes
    → (h : HasFront bytes found) → plain ≡ plain_front h.0 → IsIndexOf file page_size (before + found.place) found.total index
    → IsPlainOf page_size file (plain_stream file before plain index)
opened_plain page_size file bytes plain before found index searched h is has =
    let f : Front = h.0 in
    let begins : BeginsWith f bytes found = h.1 in
    let xs : List ℕ = drop before file in
    let more : List ℕ = drop 262144 xs in
    record {
      before = before;
      front = f;
      rest = begins.rest ++ more;
      index = index;
      begins = searched.begins;
      is_front = begins.is_front;
      has_front = sym (take-append-drop 262144 xs) ∙ ap (λ (l : List ℕ). l ++ more) (sym searched.are_first ∙ begins.is_spelled)
          ∙ append_assoc (mapped_front f) begins.rest more;
      has_index = subst (λ (x : MappedFront). IsIndexOf file page_size (before + x.place) x.total index) begins.has_offsets has;
      is_stream = ap (λ (l : List ℕ). plain_stream file before l index) is;
    }
