-- libvirt's header in a piece, and in the whole input.
use Rattle.std.proofs.Common.{ℕ, ◌≡◌, ◌≢◌, ◌+◌, ◌<◌, inl, inr, Bool, true, false, List, [], ◌++◌, length, take, Option, None, Some, refl, sym, ap, ◌∙◌, arith}
use Rattle.std.specs.Prelude.{IfSome, codes}
use Rattle.std.proofs.lemmas.Bool.{cases_lt}
use Rattle.std.proofs.lemmas.List.{append-nil, take-append-le, length-append}
use Rattle.zimgasol_reading.specs.declared.libvirt.LibvirtHeader.{LibvirtHeader}
use Rattle.zimgasol_reading.specs.Libvirt.{IsHeader, IsBefore, field_at}
use Rattle.zimgasol_reading.specs.Surveyed.{before_of}

header_longer : (piece rest : List ℕ) (before : ℕ) → IsHeader piece before → IsHeader (piece ++ rest) before
header_longer piece rest before h =
    let front : take 92 (piece ++ rest) ≡ take 92 piece = take-append-le 92 piece rest h.has_header in
    record {
      is_little = h.is_little;
      has_header = omega (arith, h.has_header, length-append piece rest);
      has_magic = take-append-le 16 piece rest (omega (arith, h.has_header)) ∙ h.has_magic;
      has_version = ap (λ (l : List ℕ). field_at h.is_little 16 l) front ∙ h.has_version;
      has_format = ap (λ (l : List ℕ). field_at h.is_little 28 l) front ∙ h.has_format;
      has_length = h.has_length ∙ sym (ap (λ (l : List ℕ). 92 + field_at h.is_little 20 l) front);
    }

pub headed : (libvirt : Option LibvirtHeader) (piece rest : List ℕ) → IfSome libvirt (λ h. IsHeader piece h.len)
    → IfSome libvirt (λ h. IsHeader (piece ++ rest) h.len)
headed None piece rest is = tt
headed (Some h) piece rest is = header_longer piece rest h.len is

-- ---- the bytes before the stream

-- a number of four bytes isn't 2 in both orders
one_order : (at : ℕ) (bytes : List ℕ) → field_at true at bytes ≡ 2 → field_at false at bytes ≡ 2 → ⊥
unfolding field_at
one_order at bytes little big = omega (arith, little, big)

same_order : (at : ℕ) (bytes : List ℕ) (a b : Bool) → field_at a at bytes ≡ 2 → field_at b at bytes ≡ 2 → a ≡ b
same_order at bytes true true one two = refl
same_order at bytes false false one two = refl
same_order at bytes true false one two = absurd (one_order at bytes one two)
same_order at bytes false true one two = absurd (one_order at bytes two one)

-- as many bytes precede a stream in one way
pub one_before : (text : List ℕ) (a b : ℕ) → IsBefore text a → IsBefore text b → a ≡ b
one_before text a b (inl x) (inl y) =
    let same = same_order 16 (take 92 text) x.is_little y.is_little x.has_version y.has_version in
    x.has_length ∙ ap (λ (o : Bool). 92 + field_at o 20 (take 92 text)) same ∙ sym y.has_length
one_before text a b (inl x) (inr y) = absurd (y.0 x.has_magic)
one_before text a b (inr x) (inl y) = absurd (x.0 y.has_magic)
one_before text a b (inr x) (inr y) = x.1 ∙ sym y.1

-- what a first piece says of the whole input: it has 16 bytes, unless the input has fewer
pub before_whole : (piece rest : List ℕ) (libvirt : Option LibvirtHeader) → (length piece < 16 → rest ≡ [])
    → IsBefore piece (before_of libvirt) → IsBefore (piece ++ rest) (before_of libvirt)
before_whole piece rest libvirt short (inl header) = inl (header_longer piece rest (before_of libvirt) header)
before_whole piece rest libvirt short (inr none) = inr (other, none.1)
  where
    same : take 16 (piece ++ rest) ≡ take 16 piece
    same = elim (cases_lt (length piece) 16) [
      | inl lt ↦ ap (λ (l : List ℕ). take 16 (piece ++ l)) (short lt) ∙ ap (take 16) (append-nil piece)
      | inr ge ↦ take-append-le 16 piece rest ge
    ]

    other : take 16 (piece ++ rest) ≢ codes "LibvirtQemudSave"
    other is = none.0 (sym same ∙ is)

-- what is found in a first piece
pub before_found : (piece : List ℕ) (libvirt : Option LibvirtHeader) → IfSome libvirt (λ h. IsHeader piece h.len)
    → (libvirt ≡ None → take 16 piece ≢ codes "LibvirtQemudSave") → IsBefore piece (before_of libvirt)
before_found piece None header none = inr (none refl, refl)
before_found piece (Some h) header none = inl header
