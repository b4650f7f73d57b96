-- A plain stream's configuration, and the same with the capability.
use Rattle.std.proofs.Common.{ℕ, ◌≡◌, ◌≢◌, ◌+◌, ◌^◌, ◌<◌, ◌≤◌, ◌⊎◌, List, [], ◌∷◌, ◌++◌, length, take, drop, get_or, Option, Some, None}
use Rattle.std.proofs.Common.{refl, sym, ap, ap₂, subst, ◌∙◌, inl, inr, append_assoc, append-nil, is_some, true, false, arith}
use Rattle.std.specs.Prelude.{slice_range}
use Rattle.std.specs.List.{flat_map, AllByRecursion}
use Rattle.std.proofs.Math.Seq.{drop-append_seam}
use Rattle.std.proofs.lemmas.List.{length-append, drop-drop}
use Rattle.std.proofs.lemmas.List.Concat.{flat_map-append}
use Rattle.mig_stream.specs.Fields.{be32, be64, counted}
use Rattle.mig_stream.specs.Format.{subsection_type, configuration_type, subsection_name, mapped_ram}
use Rattle.mig_stream.specs.Text.{file_header, configuration, start_head}
use Rattle.mig_stream.specs.Machine.{SubsectionBody, PageBits, Uuid, Capabilities, IsCapability, subsection}
use Rattle.mig_mapped.specs.declared.front.NameList.{NameList}
use Rattle.mig_mapped.specs.Front.{IsOther, configured_as, IsPlain, with_mapped, IsConfigured, AddsCapability, HasNoPlace, alone, mapped_front}
use Rattle.mig_mapped.specs.FrontParts.{Begins, BeginsWithNone, BeginsWithAll, machine_bytes, IsMachine}
use Rattle.mig_mapped.specs.FrontParts.{names_at, MayBeNamed, HasCapabilities, HasNoCapabilities}
use Rattle.mig_mapped.proofs.FrontItems.{machine_unique, other_unique, capabilities_unique, none_at_capabilities, none_at_byte}
use Rattle.mig_mapped.proofs.FrontFound.{rest_of_item, rest_of_items, is_item, are_items, not_all}
use Rattle.mig_mapped.proofs.FrontPlain.{cut_front, cut_part, list_head}

-- ---- the subsections of a plain stream

-- those of which one has these capabilities
record HasList (subsections : List SubsectionBody) : Type 0 where
  before : List SubsectionBody
  names : List (List ℕ)
  after : List SubsectionBody
  are_all : subsections ≡ before ++ Capabilities names ∷ after
  are_before : AllByRecursion IsOther before
  are_after : AllByRecursion IsOther after
  are_names : AllByRecursion IsCapability names
  has_count : length names + 1 < 2 ^ 32

one_first : (x : SubsectionBody) (subsections : List SubsectionBody) → IsOther x → AllByRecursion IsOther subsections ⊎ HasList subsections
    → AllByRecursion IsOther (x ∷ subsections) ⊎ HasList (x ∷ subsections)
one_first x subsections is (inl all) = inl (is, all)
one_first x subsections is (inr has) = inr
    (record {
      before = x ∷ has.before;
      names = has.names;
      after = has.after;
      are_all = ap (λ (l : List SubsectionBody). x ∷ l) has.are_all;
      are_before = (is, has.are_before);
      are_after = has.are_after;
      are_names = has.are_names;
      has_count = has.has_count;
    })

plain_parts : (subsections : List SubsectionBody) → IsPlain subsections → AllByRecursion IsOther subsections ⊎ HasList subsections
plain_parts [] plain = inl tt
plain_parts (PageBits bits ∷ subsections) plain = one_first (PageBits bits) subsections plain.0 (plain_parts subsections plain.1)
plain_parts (Uuid uuid ∷ subsections) plain = one_first (Uuid uuid) subsections plain.0 (plain_parts subsections plain.1)
plain_parts (Capabilities names ∷ subsections) plain = inr
    (record {
      before = [];
      names = names;
      after = subsections;
      are_all = refl;
      are_before = tt;
      are_after = plain.2;
      are_names = plain.1;
      has_count = plain.0;
    })

others_plain : (others : List SubsectionBody) → AllByRecursion IsOther others → IsPlain others
others_plain [] all = tt
others_plain (PageBits bits ∷ others) all = (all.0, others_plain others all.1)
others_plain (Uuid uuid ∷ others) all = (all.0, others_plain others all.1)
others_plain (Capabilities names ∷ others) all = absurd all.0

list_plain : (before after : List SubsectionBody) (names : List (List ℕ)) → AllByRecursion IsOther before → AllByRecursion IsOther after
    → AllByRecursion IsCapability names → length names + 1 < 2 ^ 32 → IsPlain (before ++ Capabilities names ∷ after)
list_plain [] after names all_before all_after all_names count = (count, all_names, all_after)
list_plain (PageBits bits ∷ before) after names all_before all_after all_names count =
    (all_before.0, list_plain before after names all_before.1 all_after all_names count)
list_plain (Uuid uuid ∷ before) after names all_before all_after all_names count =
    (all_before.0, list_plain before after names all_before.1 all_after all_names count)
list_plain (Capabilities others ∷ before) after names all_before all_after all_names count = absurd all_before.0

mapped_last : (others : List SubsectionBody) → AllByRecursion IsOther others → with_mapped others ≡ others ++ Capabilities (mapped_ram ∷ []) ∷ []
mapped_last [] all = refl
mapped_last (PageBits bits ∷ others) all = ap (λ (l : List SubsectionBody). PageBits bits ∷ l) (mapped_last others all.1)
mapped_last (Uuid uuid ∷ others) all = ap (λ (l : List SubsectionBody). Uuid uuid ∷ l) (mapped_last others all.1)
mapped_last (Capabilities names ∷ others) all = absurd all.0

mapped_in_list : (before after : List SubsectionBody) (names : List (List ℕ)) → AllByRecursion IsOther before
    → with_mapped (before ++ Capabilities names ∷ after) ≡ before ++ Capabilities (names ++ mapped_ram ∷ []) ∷ after
mapped_in_list [] after names all = refl
mapped_in_list (PageBits bits ∷ before) after names all = ap (λ (l : List SubsectionBody). PageBits bits ∷ l) (mapped_in_list before after names all.1)
mapped_in_list (Uuid uuid ∷ before) after names all = ap (λ (l : List SubsectionBody). Uuid uuid ∷ l) (mapped_in_list before after names all.1)
mapped_in_list (Capabilities others ∷ before) after names all = absurd all.0

-- ---- a configuration that is there

-- how its bytes go on after the machine's name
from_machine : (machine : List ℕ) (subsections : List SubsectionBody) (rest : List ℕ)
    → configured_as machine subsections ++ rest ≡ machine_bytes machine ++ (flat_map subsection subsections ++ rest)
from_machine machine subsections rest =
    let h : List ℕ = file_header in
    let c : List ℕ = configuration (Some machine) in
    let s : List ℕ = flat_map subsection subsections in
    ap (λ (l : List ℕ). l ++ rest) (sym (append_assoc h c s)) ∙ append_assoc (h ++ c) s rest

around_list : (before after : List SubsectionBody) (names : List (List ℕ)) (rest : List ℕ)
    → flat_map subsection (before ++ Capabilities names ∷ after) ++ rest
    ≡ flat_map subsection before ++ (subsection (Capabilities names) ++ (flat_map subsection after ++ rest))
around_list before after names rest =
    let b : List ℕ = flat_map subsection before in
    let k : List ℕ = subsection (Capabilities names) in
    let a : List ℕ = flat_map subsection after in
    ap (λ (l : List ℕ). l ++ rest) (flat_map-append subsection before (Capabilities names ∷ after))
    ∙ append_assoc b (k ++ a) rest ∙ ap (λ (l : List ℕ). b ++ l) (append_assoc k a rest)

pub configured_machine : (bytes : List ℕ) → BeginsWithNone (List ℕ) machine_bytes IsMachine bytes → HasNoPlace bytes
configured_machine bytes none machine subsections rest is =
    none machine (flat_map subsection subsections ++ rest) is.has_machine (is.is_spelled ∙ from_machine machine subsections rest)

-- what is at the place after the first subsections
record IsThere (subsections : List SubsectionBody) (rest bytes : List ℕ) : Type 0 where
  parts : (AllByRecursion IsOther subsections × (bytes ≡ rest))
      ⊎ ((has : HasList subsections) × (bytes ≡ subsection (Capabilities has.names) ++ (flat_map subsection has.after ++ rest)))

there_of : (bytes : List ℕ) (first others : ℕ) (machine : List ℕ) (subsections : List SubsectionBody) (rest : List ℕ)
    → Begins (List ℕ) machine_bytes IsMachine bytes first → BeginsWithAll SubsectionBody subsection IsOther (drop first bytes) others
    → IsConfigured machine subsections rest bytes → AllByRecursion IsOther subsections ⊎ HasList subsections
    → IsThere subsections rest (drop (first + others) bytes)
there_of bytes first others machine subsections rest m b is (inl all) =
    let at = is_item (List ℕ) machine_bytes IsMachine machine_unique bytes first m machine (flat_map subsection subsections ++ rest) is.has_machine
    (is.is_spelled ∙ from_machine machine subsections rest) in
    let next = are_items SubsectionBody subsection IsOther other_unique (drop first bytes) others b subsections rest all (none_at_byte rest is.is_last) at.1 in
    record { parts = inl (all, sym (drop-drop others first bytes) ∙ next.1) }
there_of bytes first others machine subsections rest m b is (inr has) =
    let list : List ℕ = subsection (Capabilities has.names) ++ (flat_map subsection has.after ++ rest) in
    let at = is_item (List ℕ) machine_bytes IsMachine machine_unique bytes first m machine (flat_map subsection subsections ++ rest) is.has_machine
    (is.is_spelled ∙ from_machine machine subsections rest) in
    let next = are_items SubsectionBody subsection IsOther other_unique (drop first bytes) others b has.before list has.are_before
    (none_at_capabilities has.names (flat_map subsection has.after ++ rest))
    (at.1 ∙ ap (λ (l : List SubsectionBody). flat_map subsection l ++ rest) has.are_all ∙ around_list has.before has.after has.names rest) in
    record { parts = inr (has, sym (drop-drop others first bytes) ∙ next.1) }

is_there : (bytes : List ℕ) (first others : ℕ) (machine : List ℕ) (subsections : List SubsectionBody) (rest : List ℕ)
    → Begins (List ℕ) machine_bytes IsMachine bytes first → BeginsWithAll SubsectionBody subsection IsOther (drop first bytes) others
    → IsConfigured machine subsections rest bytes → IsThere subsections rest (drop (first + others) bytes)
is_there bytes first others machine subsections rest m b is =
    there_of bytes first others machine subsections rest m b is (plain_parts subsections is.are_plain)

-- no list is found, and a subsection begins
pub no_list : (bytes : List ℕ) (first others : ℕ) → Begins (List ℕ) machine_bytes IsMachine bytes first
    → BeginsWithAll SubsectionBody subsection IsOther (drop first bytes) others → HasNoCapabilities (drop (first + others) bytes)
    → get_or (drop (first + others) bytes) 0 0 ≡ subsection_type → HasNoPlace bytes
no_list bytes first others m b none begins machine subsections rest is =
    let there : IsThere subsections rest (drop (first + others) bytes) = is_there bytes first others machine subsections rest m b is in
    elim there.parts [
      | inl p ↦ is.is_last (ap (λ (l : List ℕ). get_or l 0 0) (sym p.1) ∙ begins)
      | inr p ↦ none p.0.names (flat_map subsection p.0.after ++ rest)
          (record { len = length (subsection (Capabilities p.0.names)); count = length p.0.names; mapped = None })
          (record {
            is_spelled = p.1;
            is_short = omega (arith, p.0.has_count);
            has_len = refl;
            has_count = refl;
            is_named = p.0.are_names;
          })
    ]

-- the list that is found and the one that is there
record IsList (subsections : List SubsectionBody) (rest bytes : List ℕ) (list : NameList) : Type 0 where
  has_count : list.count + 1 < 2 ^ 32
  isnt_named : list.mapped ≡ None
  after : List SubsectionBody
  are_after : AllByRecursion IsOther after
  has_rest : drop list.len bytes ≡ flat_map subsection after ++ rest

unnamed : (names : List (List ℕ)) (mapped : Option ℕ) → MayBeNamed names names_at mapped → AllByRecursion IsCapability names → mapped ≡ None
unnamed names None named all = refl
unnamed names (Some place) named all = absurd (not_all named.before named.after (subst (AllByRecursion IsCapability) named.are_names all))

rest_of_list : (bytes : List ℕ) (list : NameList) (has : HasCapabilities bytes list) → drop list.len bytes ≡ has.1
rest_of_list bytes list has =
    let k : List ℕ = subsection (Capabilities has.0) in
    ap₂ (λ (n : ℕ) (l : List ℕ). drop n l) has.2.has_len has.2.is_spelled ∙ drop-append_seam k has.1

list_first : (names : List (List ℕ)) (rest : List ℕ) → get_or (subsection (Capabilities names) ++ rest) 0 0 ≡ subsection_type
list_first names rest = refl

is_list : (bytes : List ℕ) (first others : ℕ) (list : NameList) (machine : List ℕ) (subsections : List SubsectionBody) (rest : List ℕ)
    → Begins (List ℕ) machine_bytes IsMachine bytes first → BeginsWithAll SubsectionBody subsection IsOther (drop first bytes) others
    → HasCapabilities (drop (first + others) bytes) list → IsConfigured machine subsections rest bytes
    → IsList subsections rest (drop (first + others) bytes) list
is_list bytes first others list machine subsections rest m b has is =
    let there : IsThere subsections rest (drop (first + others) bytes) = is_there bytes first others machine subsections rest m b is in
    elim there.parts [
      | inl p ↦ absurd (is.is_last (ap (λ (l : List ℕ). get_or l 0 0) (sym p.1 ∙ has.2.is_spelled) ∙ list_first has.0 has.1))
      | inr p ↦
          let same = capabilities_unique has.0 p.0.names has.1 (flat_map subsection p.0.after ++ rest) has.2.is_short (omega (arith, p.0.has_count))
          (sym has.2.is_spelled ∙ p.1) in
          record {
            has_count = omega (arith, has.2.has_count, ap (λ (l : List (List ℕ)). length l) same.0, p.0.has_count);
            isnt_named = unnamed has.0 list.mapped has.2.is_named (subst (AllByRecursion IsCapability) (sym same.0) p.0.are_names);
            after = p.0.after;
            are_after = p.0.are_after;
            has_rest = rest_of_list (drop (first + others) bytes) list has ∙ same.1;
          }
    ]

-- a list is found that can't be added to
pub no_place : (bytes : List ℕ) (first others : ℕ) (list : NameList) (more : ℕ) → Begins (List ℕ) machine_bytes IsMachine bytes first
    → BeginsWithAll SubsectionBody subsection IsOther (drop first bytes) others → HasCapabilities (drop (first + others) bytes) list
    → BeginsWithAll SubsectionBody subsection IsOther (drop (first + others + list.len) bytes) more
    → (get_or (drop (first + others + list.len + more) bytes) 0 0 ≡ subsection_type) ⊎ ((is_some list.mapped ≡ true) ⊎ (list.count ≡ 0xFFFFFFFF))
    → HasNoPlace bytes
no_place bytes first others list more m b has a why machine subsections rest is =
    let l : IsList subsections rest (drop (first + others) bytes) list = is_list bytes first others list machine subsections rest m b has is in
    let after = are_items SubsectionBody subsection IsOther other_unique (drop (first + others + list.len) bytes) more a l.after rest l.are_after
    (none_at_byte rest is.is_last) (sym (drop-drop list.len (first + others) bytes) ∙ l.has_rest) in
    let at : drop (first + others + list.len + more) bytes ≡ rest = sym (drop-drop more (first + others + list.len) bytes) ∙ after.1 in
    elim why [
      | inl begins ↦ is.is_last (ap (λ (x : List ℕ). get_or x 0 0) (sym at) ∙ begins)
      | inr other ↦ elim other [
        | inl some ↦ let two : false ≡ true = ap (λ (x : Option ℕ). is_some x) (sym l.isnt_named) ∙ some in absurd cc
        | inr full ↦ omega (arith, l.has_count, full)
      ]
    ]

-- ---- the configuration with the capability

bytes_up : (bytes : List ℕ) (first others : ℕ) (m : Begins (List ℕ) machine_bytes IsMachine bytes first)
    (b : BeginsWithAll SubsectionBody subsection IsOther (drop first bytes) others)
    → (bytes ≡ (machine_bytes m.item ++ flat_map subsection b.items) ++ drop (first + others) bytes)
    × (first + others ≡ length (machine_bytes m.item ++ flat_map subsection b.items))
bytes_up bytes first others m b =
    let p : List ℕ = machine_bytes m.item in
    let q : List ℕ = flat_map subsection b.items in
    let rest : b.rest ≡ drop (first + others) bytes =
    sym (rest_of_items SubsectionBody subsection IsOther (drop first bytes) others b) ∙ drop-drop others first bytes in (
      m.is_spelled
          ∙ ap (λ (l : List ℕ). p ++ l)
          (sym (rest_of_item (List ℕ) machine_bytes IsMachine bytes first m) ∙ b.is_spelled ∙ ap (λ (l : List ℕ). q ++ l) rest)
          ∙ sym (append_assoc p q (drop (first + others) bytes)),
      ap₂ (λ (x y : ℕ). x + y) m.has_len b.has_len ∙ sym (length-append p q),
    )

three : (p q k rest : List ℕ) → ((p ++ q) ++ k) ++ rest ≡ p ++ ((q ++ k) ++ rest)
three p q k rest = simp append_assoc

-- in a subsection of its own
pub added_last : (bytes added : List ℕ) (first others : ℕ) → Begins (List ℕ) machine_bytes IsMachine bytes first
    → BeginsWithAll SubsectionBody subsection IsOther (drop first bytes) others → get_or (drop (first + others) bytes) 0 0 ≢ subsection_type
    → added ≡ take (first + others) bytes ++ subsection (Capabilities (mapped_ram ∷ [])) ++ drop (first + others) bytes → AddsCapability bytes added
added_last bytes added first others m b isnt e =
    let p : List ℕ = machine_bytes m.item in
    let q : List ℕ = flat_map subsection b.items in
    let k : List ℕ = subsection (Capabilities (mapped_ram ∷ [])) in
    let rest : List ℕ = drop (first + others) bytes in
    let up = bytes_up bytes first others m b in
    let front : take (first + others) bytes ≡ p ++ q = cut_front bytes (p ++ q) rest (first + others) up.0 up.1 in
    let subsections : flat_map subsection (with_mapped b.items) ≡ q ++ k =
    ap (flat_map subsection) (mapped_last b.items b.are_valid) ∙ flat_map-append subsection b.items (Capabilities (mapped_ram ∷ []) ∷ [])
    ∙ ap (λ (l : List ℕ). q ++ l) (append-nil k) in (
      m.item,
      b.items,
      rest,
      record {
        has_machine = m.is_valid;
        are_plain = others_plain b.items b.are_valid;
        is_spelled = up.0 ∙ append_assoc p q rest ∙ sym (from_machine m.item b.items rest);
        is_last = isnt;
      },
      e ∙ ap (λ (l : List ℕ). l ++ k ++ rest) front ∙ three p q k rest
          ∙ ap (λ (l : List ℕ). p ++ (l ++ rest)) (sym subsections) ∙ sym (from_machine m.item (with_mapped b.items) rest),
    )

-- after the other capabilities
all_capabilities : (names : List (List ℕ)) (mapped : Option ℕ) → MayBeNamed names names_at mapped → is_some mapped ≡ false → AllByRecursion IsCapability names
all_capabilities names None named none = named
all_capabilities names (Some place) named none = absurd cc

list_length : (names : List (List ℕ)) → length (subsection (Capabilities names)) ≡ 36 + length (flat_map counted names)
unfolding subsection_name
list_length names = omega arith

pub list_long : (bytes : List ℕ) (list : NameList) → HasCapabilities bytes list → names_at ≤ list.len
list_long bytes list has = omega (arith, has.2.has_len, list_length has.0)

head_length : length list_head ≡ 32
unfolding subsection_name
head_length = refl

to_names : (p h n f r : List ℕ) → p ++ ((h ++ (n ++ f)) ++ r) ≡ (p ++ (h ++ n)) ++ (f ++ r)
to_names p h n f r = simp append_assoc

to_count : (p h n f r : List ℕ) → p ++ ((h ++ (n ++ f)) ++ r) ≡ (p ++ h) ++ (n ++ (f ++ r))
to_count p h n f r = simp append_assoc

gather : (p q h n f c r : List ℕ) → (((((p ++ q) ++ h) ++ n) ++ f) ++ c) ++ r ≡ p ++ (q ++ ((h ++ (n ++ (f ++ c))) ++ r))
gather p q h n f c r = simp append_assoc

pub added_name : (bytes added : List ℕ) (first others : ℕ) (list : NameList) (more : ℕ) → Begins (List ℕ) machine_bytes IsMachine bytes first
    → BeginsWithAll SubsectionBody subsection IsOther (drop first bytes) others → HasCapabilities (drop (first + others) bytes) list
    → BeginsWithAll SubsectionBody subsection IsOther (drop (first + others + list.len) bytes) more
    → get_or (drop (first + others + list.len + more) bytes) 0 0 ≢ subsection_type → is_some list.mapped ≡ false → list.count + 1 < 2 ^ 32
    → added ≡ take (first + others + 32) bytes ++ be32 (list.count + 1) ++ slice_range bytes (first + others + names_at) (first + others + list.len)
    ++ counted mapped_ram ++ drop (first + others + list.len) bytes
    → AddsCapability bytes added
added_name bytes added first others list more m b has a isnt none small e =
    let at : ℕ = first + others in
    let names : List (List ℕ) = has.0 in
    let p : List ℕ = machine_bytes m.item in
    let q : List ℕ = flat_map subsection b.items in
    let f : List ℕ = flat_map counted names in
    let n : List ℕ = be32 (length names) in
    let c : List ℕ = counted mapped_ram in
    let r : List ℕ = drop (at + list.len) bytes in
    let rest : List ℕ = drop (at + list.len + more) bytes in
    let both : List SubsectionBody = b.items ++ Capabilities names ∷ a.items in
    let named : List (List ℕ) = names ++ mapped_ram ∷ [] in
    let up = bytes_up bytes first others m b in
    let four : length n ≡ 4 = refl in
    let last : has.1 ≡ r = sym (rest_of_list (drop at bytes) list has) ∙ drop-drop list.len at bytes in
    let spelled : bytes ≡ (p ++ q) ++ ((list_head ++ (n ++ f)) ++ r) =
    up.0 ∙ ap (λ (l : List ℕ). (p ++ q) ++ l) (has.2.is_spelled ∙ ap (λ (l : List ℕ). subsection (Capabilities names) ++ l) last) in
    let end : r ≡ flat_map subsection a.items ++ rest =
    a.is_spelled ∙ ap (λ (l : List ℕ). flat_map subsection a.items ++ l)
    (sym (rest_of_items SubsectionBody subsection IsOther (drop (at + list.len) bytes) more a) ∙ drop-drop more (at + list.len) bytes) in
    let head : take (at + 32) bytes ≡ (p ++ q) ++ list_head =
    cut_front bytes ((p ++ q) ++ list_head) (n ++ (f ++ r)) (at + 32) (spelled ∙ to_count (p ++ q) list_head n f r)
    (omega (arith, up.1, length-append (p ++ q) list_head, head_length)) in
    let listed : slice_range bytes (at + names_at) (at + list.len) ≡ f =
    cut_part bytes ((p ++ q) ++ (list_head ++ n)) f r (at + names_at) (at + list.len) (spelled ∙ to_names (p ++ q) list_head n f r)
    (omega (arith, up.1, length-append (p ++ q) (list_head ++ n), length-append list_head n, head_length, four))
    (omega (
      arith,
      up.1,
      length-append (p ++ q) (list_head ++ n),
      length-append list_head n,
      head_length,
      four,
      has.2.has_len,
      list_length names,
    )) in
    let count : list.count + 1 ≡ length named = omega (arith, has.2.has_count, length-append names (mapped_ram ∷ [])) in
    let names_are : f ++ c ≡ flat_map counted named =
    ap (λ (l : List ℕ). f ++ l) (sym (append-nil c)) ∙ sym (flat_map-append counted names (mapped_ram ∷ [])) in (
      m.item,
      both,
      rest,
      record {
        has_machine = m.is_valid;
        are_plain = list_plain b.items a.items names b.are_valid a.are_valid (all_capabilities names list.mapped has.2.is_named none)
            (omega (arith, small, has.2.has_count));
        is_spelled = spelled ∙ append_assoc p q (subsection (Capabilities names) ++ r)
            ∙ ap (λ (l : List ℕ). p ++ (q ++ (subsection (Capabilities names) ++ l))) end
            ∙ ap (λ (l : List ℕ). p ++ l) (sym (around_list b.items a.items names rest)) ∙ sym (from_machine m.item both rest);
        is_last = isnt;
      },
      e ∙ ap₂ (λ (x y : List ℕ). x ++ be32 (list.count + 1) ++ y ++ c ++ r) head listed
          ∙ ap (λ (k : ℕ). (((((p ++ q) ++ list_head) ++ be32 k) ++ f) ++ c) ++ r) count
          ∙ gather p q list_head (be32 (length named)) f c r
          ∙ ap₂ (λ (x y : List ℕ). p ++ (q ++ ((list_head ++ (be32 (length named) ++ x)) ++ y))) names_are end
          ∙ ap (λ (l : List ℕ). p ++ l) (sym (around_list b.items a.items named rest))
          ∙ ap (λ (l : List SubsectionBody). p ++ (flat_map subsection l ++ rest)) (sym (mapped_in_list b.items a.items names b.are_valid))
          ∙ sym (from_machine m.item (with_mapped both) rest),
    )

-- ---- a machine's front without other state

alone_apart : (h q n m l k c s b : List ℕ)
    → (((((((h ++ q) ++ n) ++ m) ++ l) ++ (k ++ c)) ++ s) ++ b) ≡ ((h ++ ((q ++ (n ++ m)) ++ ((l ++ (k ++ (c ++ []))) ++ []))) ++ []) ++ (s ++ b)
alone_apart h q n m l k c s b = simp (append_assoc, append-nil)

pub alone_spelled : (machine : List ℕ) (total : ℕ) → (file_header ++ configuration_type ∷ []) ++ be32 (length machine) ++ machine ++ list_head
    ++ (be32 1 ++ counted mapped_ram) ++ start_head 1 ++ be64 (total + 4) ≡ mapped_front (alone machine total)
alone_spelled machine total =
    alone_apart file_header (configuration_type ∷ []) (be32 (length machine)) machine list_head (be32 1) (counted mapped_ram) (start_head 1) (be64 (total + 4))
