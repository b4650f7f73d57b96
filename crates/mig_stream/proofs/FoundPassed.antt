-- What an item that is passed over is, if its tests have found no fault.
use Rattle.std.proofs.Common.{◌≡◌, ℕ, ◌+◌, ◌*◌, ◌/◌, ◌%◌, ◌^◌, ◌<◌, Bool, true, false, not, cond, eqb, List, [], ◌∷◌, ◌++◌, length, get_or, Option, Some, None}
use Rattle.std.proofs.Common.{refl, sym, ap, subst, ◌∙◌, arith}
use Rattle.std.specs.Prelude.{is_none, ◌||◌, ◌&&◌}
use Rattle.std.specs.Str.{bytes_eq}
use Rattle.std.proofs.lemmas.Slice.Eq.{bytes_eq-Decides}
use Rattle.std.proofs.lemmas.Bool.{not-false, eqb-true, or_parts}
use Rattle.mig_stream.specs.declared.item.Before.{Before}
use Rattle.mig_stream.specs.declared.item.Subsection.{Subsection}
use Rattle.mig_stream.specs.declared.item.Subsection.TheVariants as kinds
use Rattle.mig_stream.specs.declared.item.EntryForm.{EntryForm}
use Rattle.mig_stream.specs.declared.item.PassedItem.TheVariants as pass
use Rattle.mig_stream.specs.declared.fault.StreamFault.TheVariants as fault
use Rattle.mig_stream.specs.Fields.{be16, be32, counted, be16_at, be32_at}
use Rattle.mig_stream.specs.Format.{subsection_name, subsection_version, mapped_ram}
use Rattle.mig_mem.specs.First.{first_of}
use Rattle.mig_stream.specs.Items.{id_in, subsection_of, is_passed_command, allows_postcopy, is_before_start, advises, is_addressed, subsection_faults}
use Rattle.mig_stream.specs.Items.{passed_faults}
use Rattle.mig_stream.specs.Machine.{Command, command_bytes, IsCommand, is_advise, IsCapability, subsection_head}
use Rattle.mig_stream.proofs.FoundFields.{IsBytes, counted_found}
use Rattle.mig_stream.proofs.FoundParts.{head_named}
use Rattle.mig_stream.proofs.Steps.{passed}

-- ---- COMMANDs

-- two bytes that are a number
be16_found : (a b : ℕ) → a < 256 → b < 256 → be16 (a * 0x100 + b) ≡ a ∷ b ∷ []
be16_found a b fits_a fits_b =
    let high : (a * 0x100 + b) / 0x100 ≡ a = omega (arith, fits_a, fits_b) in
    let low : (a * 0x100 + b) % 0x100 ≡ b = omega (arith, fits_a, fits_b) in
    ap (λ (x : ℕ). x ∷ (a * 0x100 + b) % 0x100 ∷ []) high ∙ ap (λ (x : ℕ). a ∷ x ∷ []) low

-- a COMMAND that is spelled by an item, and fits the form of the size list
pub record CommandIn (form : EntryForm) (b : Before) (item : List ℕ) : Type 0 where
  pub command_is : Command
  pub has_bytes : item ≡ command_bytes command_is
  pub is_command : IsCommand command_is
  pub is_told : advises b item ≡ (is_before_start b && is_advise command_is)
  pub fits : (is_addressed form && (is_before_start b && is_advise command_is)) ≡ false

-- an item read as a COMMAND without a fault is the bytes of one that may stand there
pub command_found : (p : ℕ) (form : EntryForm) (b : Before) (item : List ℕ) → length item ≡ 4 + be16_at 2 item → IsBytes item
    → first_of (passed_faults p form (pass.Command b) item) ≡ None → CommandIn form b item
command_found p form before [] len all free = absurd (omega (arith, len))
command_found p form before (a ∷ []) len all free = absurd (omega (arith, len))
command_found p form before (a ∷ b ∷ []) len all free = absurd (omega (arith, len))
command_found p form before (a ∷ b ∷ x ∷ []) len all free = absurd (omega (arith, len))
command_found p form before (a ∷ b ∷ x ∷ y ∷ carried) len all free =
    let item : List ℕ = a ∷ b ∷ x ∷ y ∷ carried in
    let known : Bool = is_passed_command (a * 0x100 + b) in
    let n : length carried ≡ x * 0x100 + y = omega (arith, len) in
    let first : be16 (a * 0x100 + b) ≡ a ∷ b ∷ [] = be16_found a b (all 0) (all 1) in
    let second : be16 (length carried) ≡ x ∷ y ∷ [] = ap be16 n ∙ be16_found x y (all 2) (all 3) in
    let told : advises before item ≡ (is_before_start before && allows_postcopy (a * 0x100 + b) (length carried)) =
    ap (λ (k : ℕ). is_before_start before && allows_postcopy (a * 0x100 + b) k) (sym n) in
    let tests = or_parts (not known) (is_addressed form && advises before item)
    (passed (not known || (is_addressed form && advises before item)) fault.Command [] free).0 in
    record {
      command_is = record { number = a * 0x100 + b; carried = carried };
      has_bytes = sym (ap (λ (u : List ℕ). u ++ be16 (length carried) ++ carried) first ∙ ap (λ (u : List ℕ). (a ∷ b ∷ []) ++ u ++ carried) second);
      is_command = record { has_number = not-false known tests.0; has_length = omega (arith, n, all 2, all 3) };
      is_told = told;
      fits = ap (λ (t : Bool). is_addressed form && t) (sym told) ∙ tests.1;
    }

-- ---- subsections

named_first : (b : Bool) (k kind : Subsection) (name : List ℕ) (others : Option Subsection)
    → bytes_eq name (subsection_name k) ≡ b → (others ≡ Some kind → name ≡ subsection_name kind)
    → cond b (Some k) others ≡ Some kind → name ≡ subsection_name kind
named_first true k kind name others test later e = let same : k ≡ kind = cc in (bytes_eq-Decides name (subsection_name k)).0 test ∙ ap subsection_name same
named_first false k kind name others test later e = later e

-- the name of a subsection that was found is the one that was looked for
name_found : (name : List ℕ) (kind : Subsection) → subsection_of name ≡ Some kind → name ≡ subsection_name kind
name_found name kind e =
    named_first (bytes_eq name (subsection_name kinds.PageBits)) kinds.PageBits kind name _ refl
    (named_first (bytes_eq name (subsection_name kinds.Uuid)) kinds.Uuid kind name _ refl
    (named_first (bytes_eq name (subsection_name kinds.Capabilities)) kinds.Capabilities kind name None refl (λ none. absurd cc))) e

known : (o : Option Subsection) → is_none o ≡ false → (kind : Subsection) × (o ≡ Some kind)
known None e = absurd cc
known (Some kind) e = (kind, refl)

neither : (x y : Bool) → (x || y) ≡ false → (x ≡ false) × (y ≡ false)
neither true y e = absurd cc
neither false y e = (refl, e)

-- a subsection whose head is an item
pub record HeadIn (item : List ℕ) : Type 0 where
  pub kind_is : Subsection
  pub is_told : subsection_of (id_in item) ≡ Some kind_is
  pub has_bytes : item ≡ subsection_head kind_is

-- a subsection's head without a fault has the name of a subsection that is known
pub head_found : (item : List ℕ) → length item ≡ 5 + get_or item 0 0 → IsBytes item → first_of (subsection_faults item) ≡ None → HeadIn item
head_found item len all free =
    let version = be32_at (1 + get_or item 0 0) item in
    let test = neither (is_none (subsection_of (id_in item))) (not (eqb version subsection_version))
    (passed (is_none (subsection_of (id_in item)) || not (eqb version subsection_version)) fault.Subsection [] free).0 in
    let k = known (subsection_of (id_in item)) test.0 in
    let one : version ≡ subsection_version = eqb-true _ _ (not-false (eqb version subsection_version) test.1) in
    record {
      kind_is = k.0;
      is_told = k.1;
      has_bytes = head_named item len all ∙ ap (λ (x : ℕ). counted (id_in item) ++ be32 x) one
          ∙ ap (λ (x : List ℕ). counted x ++ be32 subsection_version) (name_found (id_in item) k.0 k.1);
    }

-- the bits of a page's offset, which are those of the page size
pub bits_found : (p : ℕ) (form : EntryForm) (item : List ℕ)
    → first_of (passed_faults p form (pass.SubsectionBody kinds.PageBits) item) ≡ None → 2 ^ be32_at 0 item ≡ p
bits_found p form item free = let same : Bool = eqb (2 ^ be32_at 0 item) p in eqb-true _ _ (not-false same (passed (not same) fault.PageBits [] free).0)

-- ---- capabilities

-- a capability's name without a fault is its length and a name that may be there
pub capability_found : (p : ℕ) (form : EntryForm) (n : ℕ) (item : List ℕ) → length item ≡ 1 + get_or item 0 0 → IsBytes item
    → first_of (passed_faults p form (pass.Capability n) item) ≡ None → (item ≡ counted (id_in item)) × IsCapability (id_in item)
capability_found p form n item len all free =
    let is : item ≡ counted (id_in item) = counted_found item len in (
      is,
      record {
        has_length = subst (λ (x : ℕ). x < 256) (ap (λ (x : List ℕ). get_or x 0 0) is) (all 0);
        isnt_mapped = (passed (bytes_eq (id_in item) mapped_ram) fault.Capability [] free).0;
      },
    )
