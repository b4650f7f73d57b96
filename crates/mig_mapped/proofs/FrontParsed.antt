-- What the tests of each item of a front say.
use Rattle.std.proofs.Common.{ℕ, ◌≡◌, ◌+◌, ◌*◌, ◌/◌, ◌%◌, ◌^◌, ◌<◌, ◌≤◌, ◌⊎◌, true, List, [], ◌∷◌, ◌++◌, length, take, drop, get_or}
use Rattle.std.proofs.Common.{refl, sym, ap, ap₂, ◌∙◌, inl, inr, arith}
use Rattle.std.specs.List.{flat_map}
use Rattle.std.proofs.lemmas.List.{length-append, length-take-le, drop_more, drop-drop, take-append-drop}
use Rattle.mig_stream.specs.declared.item.Subsection.TheVariants as kind
use Rattle.mig_stream.specs.Fields.{be16, be32, be64, counted, be16_at, be32_at, be64_at}
use Rattle.mig_stream.specs.Format.{subsection_type, subsection_name, configuration_type, ram_name}
use Rattle.mig_stream.specs.Text.{file_header}
use Rattle.mig_stream.specs.Items.{is_passed_command}
use Rattle.mig_stream.specs.Machine.{Command, command, IsCommand, SubsectionBody, PageBits, Uuid, Capabilities, subsection, subsection_head}
use Rattle.mig_mapped.specs.declared.front.NameList.{NameList}
use Rattle.mig_mapped.specs.Front.{IsOther, IsTotal}
use Rattle.mig_mapped.specs.FrontParts.{Begins, machine_bytes, IsMachine, Start, started, IsStart, HasTotal}
use Rattle.mig_mapped.specs.FrontParts.{HasNames, HasNoNames, HasCapabilities, HasNoCapabilities}
use Rattle.mig_mapped.proofs.FrontFields.{IsBytes, length_part, part_next, next32, next64, read32, read64, small32}

-- ---- the machine's name

abbrev pub machine_head : List ℕ
machine_head = file_header ++ configuration_type ∷ []

pub machine_found : (bytes : List ℕ) (n : ℕ) → IsBytes bytes → n ≡ be32_at 9 bytes → 13 + n ≤ length bytes → n ≤ 1024 → bytes ≡ machine_head ++ drop 9 bytes
    → Begins (List ℕ) machine_bytes IsMachine bytes (13 + n)
unfolding file_header
machine_found bytes n all is le small e =
    let name : List ℕ = take n (drop 13 bytes) in
    let long : length name ≡ n = length_part bytes 13 n le in
    let number : drop 9 bytes ≡ be32 n ++ drop 13 bytes = next32 bytes 9 (omega (arith, le)) all ∙ ap (λ (k : ℕ). be32 k ++ drop 13 bytes) (sym is) in
    record {
      item = name;
      rest = drop (13 + n) bytes;
      is_valid = omega (arith, long, small);
      is_spelled = e ∙ ap (λ (l : List ℕ). machine_head ++ l) (number ∙ ap₂ (λ (k : ℕ) (l : List ℕ). be32 k ++ l) (sym long) (part_next bytes 13 n));
      has_len = omega (arith, long);
    }

-- what is there if a name is
pub record HasMachine (bytes : List ℕ) : Type 0 where
  pub tail : List ℕ
  pub is_spelled : bytes ≡ machine_head ++ tail
  pub is_long : 13 + be32_at 9 bytes ≤ length bytes
  pub is_short : be32_at 9 bytes ≤ 1024

pub machine_is : (name rest bytes : List ℕ) → IsMachine name → bytes ≡ machine_bytes name ++ rest → HasMachine bytes
unfolding file_header
machine_is name rest bytes valid e =
    let n : be32_at 9 bytes ≡ length name = read32 bytes (name ++ rest) 9 (length name) (ap (drop 9) e) (omega (arith, valid)) in
    record {
      tail = be32 (length name) ++ (name ++ rest);
      is_spelled = e;
      is_long = omega (arith, n, ap length e, length-append name rest);
      is_short = omega (arith, n, valid);
    }

-- ---- other subsections

abbrev pub bits_head : List ℕ
bits_head = subsection_type ∷ subsection_head kind.PageBits

abbrev pub uuid_head : List ℕ
uuid_head = subsection_type ∷ subsection_head kind.Uuid

pub bits_found : (bytes : List ℕ) → IsBytes bytes → 40 ≤ length bytes → bytes ≡ bits_head ++ drop 36 bytes → Begins SubsectionBody subsection IsOther bytes 40
unfolding subsection_name
bits_found bytes all le e = record {
  item = PageBits (be32_at 36 bytes);
  rest = drop 40 bytes;
  is_valid = small32 bytes 36 le all;
  is_spelled = e ∙ ap (λ (l : List ℕ). bits_head ++ l) (next32 bytes 36 le all);
  has_len = refl;
}

pub uuid_found : (bytes : List ℕ) → 40 ≤ length bytes → bytes ≡ uuid_head ++ drop 24 bytes → Begins SubsectionBody subsection IsOther bytes 40
unfolding subsection_name
uuid_found bytes le e =
    let long : length (take 16 (drop 24 bytes)) ≡ 16 = length_part bytes 24 16 le in
    record {
      item = Uuid (take 16 (drop 24 bytes));
      rest = drop 40 bytes;
      is_valid = long;
      is_spelled = e ∙ ap (λ (l : List ℕ). uuid_head ++ l) (part_next bytes 24 16);
      has_len = omega (arith, long);
    }

pub record HasOther (bytes : List ℕ) : Type 0 where
  pub is_long : 40 ≤ length bytes
  pub tail : List ℕ
  pub is_spelled : (bytes ≡ bits_head ++ tail) ⊎ (bytes ≡ uuid_head ++ tail)

pub other_is : (x : SubsectionBody) (rest bytes : List ℕ) → IsOther x → bytes ≡ subsection x ++ rest → HasOther bytes
unfolding subsection_name
other_is (PageBits bits) rest bytes valid e = record { is_long = omega (arith, ap length e); tail = be32 bits ++ rest; is_spelled = inl e }
other_is (Uuid uuid) rest bytes valid e = record {
  is_long = omega (arith, ap length e, valid, length-append uuid rest);
  tail = uuid ++ rest;
  is_spelled = inr e;
}
other_is (Capabilities names) rest bytes valid e = absurd valid

-- ---- capabilities

abbrev pub list_head : List ℕ
list_head = subsection_type ∷ subsection_head kind.Capabilities

pub capabilities_found : (bytes : List ℕ) (found : NameList) → IsBytes bytes → 36 ≤ length bytes → bytes ≡ list_head ++ drop 32 bytes
    → HasNames (be32_at 32 bytes) (drop 36 bytes) found → HasCapabilities bytes found
unfolding subsection_name
capabilities_found bytes found all le e has =
    let names : List (List ℕ) = has.0 in
    let count : length names ≡ be32_at 32 bytes = has.2 in (
      names,
      has.1,
      record {
        is_spelled = e ∙ ap (λ (l : List ℕ). list_head ++ l)
            (next32 bytes 32 le all ∙ ap₂ (λ (k : ℕ) (l : List ℕ). be32 k ++ l) (sym count) has.3.is_spelled);
        is_short = omega (arith, count, small32 bytes 32 le all);
        has_len = omega (arith, has.3.has_len);
        has_count = has.3.has_count;
        is_named = has.3.is_named;
      },
    )

pub record HasList (bytes : List ℕ) : Type 0 where
  pub is_long : 36 ≤ length bytes
  pub tail : List ℕ
  pub is_spelled : bytes ≡ list_head ++ tail

pub list_is : (names : List (List ℕ)) (rest bytes : List ℕ) → bytes ≡ subsection (Capabilities names) ++ rest → HasList bytes
unfolding subsection_name
list_is names rest bytes e = record {
  is_long = omega (arith, ap length e, length-append (flat_map counted names) rest);
  tail = be32 (length names) ++ (flat_map counted names ++ rest);
  is_spelled = e;
}

pub capabilities_none : (bytes : List ℕ) → HasNoNames (be32_at 32 bytes) (drop 36 bytes) → HasNoCapabilities bytes
unfolding subsection_name
capabilities_none bytes none names rest found is =
    let count : be32_at 32 bytes ≡ length names =
    read32 bytes (flat_map counted names ++ rest) 32 (length names) (ap (drop 32) is.is_spelled) is.is_short in
    none names rest found (sym count)
    (record { is_spelled = ap (drop 36) is.is_spelled; has_len = omega (arith, is.has_len); has_count = is.has_count; is_named = is.is_named })

-- ---- names

pub name_found : (bytes : List ℕ) → get_or bytes 0 0 + 1 ≤ length bytes
    → bytes ≡ counted (take (get_or bytes 0 0) (drop 1 bytes)) ++ drop (1 + length (take (get_or bytes 0 0) (drop 1 bytes))) bytes
name_found [] le = absurd (omega (arith, le))
name_found (n ∷ bytes) le =
    let long : length (take n bytes) ≡ n = length-take-le n bytes (omega (arith, le)) in
    let rest : drop (1 + length (take n bytes)) (n ∷ bytes) ≡ drop n bytes =
    ap (λ (k : ℕ). drop (1 + k) (n ∷ bytes)) long ∙ sym (drop-drop n 1 (n ∷ bytes)) in
    ap₂ (λ (k : ℕ) (l : List ℕ). k ∷ l) (sym long) (sym (take-append-drop n bytes) ∙ ap (λ (l : List ℕ). take n bytes ++ l) (sym rest))

-- ---- COMMANDs

be16_is : (a b : ℕ) → a < 256 → b < 256 → be16 (a * 0x100 + b) ≡ a ∷ b ∷ []
be16_is a b a_small b_small =
    let high : (a * 0x100 + b) / 0x100 ≡ a = omega (arith, a_small, b_small) in
    let low : (a * 0x100 + b) % 0x100 ≡ b = omega (arith, a_small, b_small) in
    ap₂ (λ (x y : ℕ). x ∷ y ∷ []) high low

pub command_found : (bytes : List ℕ) → IsBytes bytes → 5 + be16_at 3 bytes ≤ length bytes → get_or bytes 0 0 ≡ 8 → is_passed_command (be16_at 1 bytes) ≡ true
    → Begins Command command IsCommand bytes (5 + be16_at 3 bytes)
command_found [] all le type known = absurd (omega (arith, le))
command_found (t ∷ []) all le type known = absurd (omega (arith, le))
command_found (t ∷ a ∷ []) all le type known = absurd (omega (arith, le))
command_found (t ∷ a ∷ b ∷ []) all le type known = absurd (omega (arith, le))
command_found (t ∷ a ∷ b ∷ c ∷ []) all le type known = absurd (omega (arith, le))
command_found (t ∷ a ∷ b ∷ c ∷ d ∷ more) all le type known =
    let n : ℕ = c * 0x100 + d in
    let fits : n ≤ length more = omega (arith, le) in
    let long : length (take n more) ≡ n = length-take-le n more fits in
    let number : be16 (a * 0x100 + b) ≡ a ∷ b ∷ [] = be16_is a b (all 1) (all 2) in
    let len : be16 (length (take n more)) ≡ c ∷ d ∷ [] = ap be16 long ∙ be16_is c d (all 3) (all 4) in
    record {
      item = record { number = a * 0x100 + b; carried = take n more };
      rest = drop n more;
      is_valid = record { has_number = known; has_length = omega (arith, long, all 3, all 4) };
      is_spelled = ap (λ (k : ℕ). k ∷ a ∷ b ∷ c ∷ d ∷ more) type
          ∙ ap₂ (λ (x y : List ℕ). 8 ∷ (x ++ (y ++ more))) (sym number) (sym len)
          ∙ ap (λ (l : List ℕ). 8 ∷ (be16 (a * 0x100 + b) ++ (be16 (length (take n more)) ++ l))) (sym (take-append-drop n more));
      has_len = omega (arith, long);
    }

pub record HasCommand (bytes : List ℕ) : Type 0 where
  pub is_long : 5 + be16_at 3 bytes ≤ length bytes
  pub has_type : get_or bytes 0 0 ≡ 8
  pub has_number : is_passed_command (be16_at 1 bytes) ≡ true

pub command_is : (x : Command) (rest bytes : List ℕ) → IsCommand x → bytes ≡ command x ++ rest → HasCommand bytes
command_is x rest bytes valid e =
    let number : be16_at 1 bytes ≡ x.number = ap (be16_at 1) e ∙ omega arith in
    let len : be16_at 3 bytes ≡ length x.carried = ap (be16_at 3) e ∙ omega arith in
    record {
      is_long = omega (arith, len, ap length e, length-append x.carried rest);
      has_type = ap (λ (l : List ℕ). get_or l 0 0) e;
      has_number = ap is_passed_command number ∙ valid.has_number;
    }

-- ---- START

abbrev pub ram_head : List ℕ
ram_head = counted ram_name ++ be32 0 ++ be32 4

pub total_found : (bytes : List ℕ) (head total : ℕ) → IsBytes bytes → 25 ≤ length bytes → get_or bytes 0 0 ≡ 1
    → drop 5 bytes ≡ ram_head ++ drop 12 (drop 5 bytes)
    → head ≡ be64_at 17 bytes → total ≡ head / 0x1000 * 0x1000 → head % 0x1000 ≡ 4 → 0 < total → total ≤ 2 ^ 40 → HasTotal bytes total
total_found bytes head total all le type name is_head is_total flag some limited =
    let number : drop 17 bytes ≡ be64 (total + 4) ++ drop 25 bytes =
    next64 bytes 17 le all ∙ ap (λ (k : ℕ). be64 k ++ drop 25 bytes) (omega (arith, is_head, is_total, flag)) in
    let named : drop 5 bytes ≡ ram_head ++ (be64 (total + 4) ++ drop 25 bytes) =
    name ∙ ap (λ (l : List ℕ). ram_head ++ l) (drop-drop 12 5 bytes ∙ number) in
    let first : bytes ≡ 1 ∷ drop 1 bytes = drop_more bytes 0 0 (omega (arith, le)) ∙ ap (λ (k : ℕ). k ∷ drop 1 bytes) type in (
      be32_at 1 bytes,
      drop 25 bytes,
      record {
        has_id = small32 bytes 1 (omega (arith, le)) all;
        has_total = record { is_some = some; is_whole = omega (arith, is_total); is_limited = limited };
      },
      first ∙ ap (λ (l : List ℕ). 1 ∷ l) (next32 bytes 1 (omega (arith, le)) all ∙ ap (λ (l : List ℕ). be32 (be32_at 1 bytes) ++ l) named),
    )

pub record HasStart (bytes : List ℕ) (total : ℕ) : Type 0 where
  pub is_long : 25 ≤ length bytes
  pub has_type : get_or bytes 0 0 ≡ 1
  pub tail : List ℕ
  pub has_name : drop 5 bytes ≡ ram_head ++ tail
  pub has_head : be64_at 17 bytes ≡ total + 4
  pub has_total : IsTotal total

pub start_is : (s : Start) (rest bytes : List ℕ) → IsStart s → bytes ≡ started s ++ rest → HasStart bytes s.total
start_is s rest bytes valid e = record {
  is_long = omega (arith, ap length e);
  has_type = ap (λ (l : List ℕ). get_or l 0 0) e;
  tail = be64 (s.total + 4) ++ rest;
  has_name = ap (drop 5) e;
  has_head = read64 bytes rest 17 (s.total + 4) (ap (drop 17) e) (omega (arith, valid.has_total.is_limited));
  has_total = valid.has_total;
}
