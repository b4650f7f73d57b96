-- A front that is found part by part, and one that is there.
use Rattle.std.proofs.Common.{ℕ, ◌≡◌, ◌≢◌, ◌+◌, ◌^◌, ◌<◌, List, [], ◌∷◌, ◌++◌, length, drop, get_or, Option, Some, None}
use Rattle.std.proofs.Common.{refl, sym, ap, ap₂, subst, ◌∙◌, append_assoc, append-nil, arith}
use Rattle.std.specs.List.{flat_map, AllByRecursion}
use Rattle.std.proofs.Math.Seq.{drop-append_seam}
use Rattle.std.proofs.lemmas.List.{length-append, drop-drop}
use Rattle.std.proofs.lemmas.List.Concat.{flat_map-append}
use Rattle.mig_stream.specs.Fields.{counted}
use Rattle.mig_stream.specs.Format.{mapped_ram, subsection_name}
use Rattle.mig_stream.specs.Text.{file_header, configuration}
use Rattle.mig_stream.specs.Machine.{Command, command, IsCommand, SubsectionBody, Capabilities, IsCapability, subsection}
use Rattle.mig_mapped.specs.declared.front.MappedFront.{MappedFront}
use Rattle.mig_mapped.specs.declared.front.NameList.{NameList}
use Rattle.mig_mapped.specs.Front.{Front, IsOther, start_bytes, front_with, mapped_names, mapped_front}
use Rattle.mig_mapped.specs.Front.{subsection_offset, count_offset, name_offset, offsets, BeginsWith, HasFront}
use Rattle.mig_mapped.specs.FrontParts.{Begins, BeginsWithNone, BeginsWithAll, machine_bytes, IsMachine, Start, started, IsStart, HasTotal}
use Rattle.mig_mapped.specs.FrontParts.{names_at, IsNamed, MayBeNamed, HasCapabilities, HasNoCapabilities}
use Rattle.mig_mapped.proofs.FrontItems.{IsUnique, all_unique, machine_unique, other_unique, capabilities_unique, command_unique, start_unique, named_unique}
use Rattle.mig_mapped.proofs.FrontItems.{mapped_alone, none_at_capabilities, none_at_byte, none_at_other_byte}

-- ---- what follows an item, or all items of a kind

pub rest_of_item : (X : Type 0) (spelled : X → List ℕ) (IsValid : X → Type 0) (bytes : List ℕ) (len : ℕ) (found : Begins X spelled IsValid bytes len)
    → drop len bytes ≡ found.rest
rest_of_item X spelled IsValid bytes len found =
    ap (λ (n : ℕ). drop n bytes) found.has_len ∙ ap (drop (length (spelled found.item))) found.is_spelled ∙ drop-append_seam (spelled found.item) found.rest

pub rest_of_items : (X : Type 0) (spelled : X → List ℕ) (IsValid : X → Type 0) (bytes : List ℕ) (len : ℕ) (found : BeginsWithAll X spelled IsValid bytes len)
    → drop len bytes ≡ found.rest
rest_of_items X spelled IsValid bytes len found =
    ap (λ (n : ℕ). drop n bytes) found.has_len ∙ ap (drop (length (flat_map spelled found.items))) found.is_spelled
    ∙ drop-append_seam (flat_map spelled found.items) found.rest

-- an item that is there is the one that is found
pub is_item : (X : Type 0) (spelled : X → List ℕ) (IsValid : X → Type 0) → IsUnique X spelled IsValid → (bytes : List ℕ) (len : ℕ)
    → Begins X spelled IsValid bytes len → (x : X) (rest : List ℕ) → IsValid x → bytes ≡ spelled x ++ rest
    → (len ≡ length (spelled x)) × (drop len bytes ≡ rest)
is_item X spelled IsValid unique bytes len found x rest valid e =
    let one = unique found.item x found.rest rest found.is_valid valid (sym found.is_spelled ∙ e) in
    (found.has_len ∙ ap (λ (y : X). length (spelled y)) one.0, rest_of_item X spelled IsValid bytes len found ∙ one.1)

pub are_items : (X : Type 0) (spelled : X → List ℕ) (IsValid : X → Type 0) → IsUnique X spelled IsValid → (bytes : List ℕ) (len : ℕ)
    → BeginsWithAll X spelled IsValid bytes len → (xs : List X) (rest : List ℕ) → AllByRecursion IsValid xs → BeginsWithNone X spelled IsValid rest
    → bytes ≡ flat_map spelled xs ++ rest → (len ≡ length (flat_map spelled xs)) × (drop len bytes ≡ rest)
are_items X spelled IsValid unique bytes len found xs rest valid none e =
    let all = all_unique X spelled IsValid unique found.items xs found.rest rest found.are_valid valid found.are_all none (sym found.is_spelled ∙ e) in
    (found.has_len ∙ ap (λ (ys : List X). length (flat_map spelled ys)) all.0, rest_of_items X spelled IsValid bytes len found ∙ all.1)

-- ---- the parts of a front, one after another

-- from RAM's START, the COMMANDs, the second subsections, the capabilities, and the first subsections on
abbrev pub from_start : Front → List ℕ → List ℕ
from_start f rest = start_bytes f.id f.total ++ rest

abbrev pub from_commands : Front → List ℕ → List ℕ
from_commands f rest = flat_map command f.commands ++ from_start f rest

abbrev pub from_second : Front → List ℕ → List ℕ
from_second f rest = flat_map subsection f.after ++ from_commands f rest

abbrev pub from_list : Front → List ℕ → List ℕ
from_list f rest = subsection (Capabilities (mapped_names f)) ++ from_second f rest

abbrev pub from_first : Front → List ℕ → List ℕ
from_first f rest = flat_map subsection f.before ++ from_list f rest

regroup : (h c b k a s t r : List ℕ) → (((h ++ (c ++ ((b ++ k) ++ a))) ++ s) ++ t) ++ r ≡ (h ++ c) ++ (b ++ (k ++ (a ++ (s ++ (t ++ r)))))
regroup h c b k a s t r = simp append_assoc

three : (xs ys zs : List SubsectionBody) → flat_map subsection ((xs ++ ys) ++ zs) ≡ (flat_map subsection xs ++ flat_map subsection ys) ++ flat_map subsection zs
three xs ys zs = flat_map-append subsection (xs ++ ys) zs ∙ ap (λ (l : List ℕ). l ++ flat_map subsection zs) (flat_map-append subsection xs ys)

-- a front with any subsection for the capabilities
pub with_spelled : (f : Front) (capabilities : List SubsectionBody) (rest : List ℕ)
    → front_with f capabilities ++ rest ≡ machine_bytes f.machine ++ (flat_map subsection f.before ++ (flat_map subsection capabilities ++ from_second f rest))
with_spelled f capabilities rest =
    let h : List ℕ = file_header in
    let c : List ℕ = configuration (Some f.machine) in
    let s : List ℕ = flat_map command f.commands in
    let t : List ℕ = start_bytes f.id f.total in
    ap (λ (l : List ℕ). (((h ++ (c ++ l)) ++ s) ++ t) ++ rest) (three f.before capabilities f.after)
    ∙ regroup h c (flat_map subsection f.before) (flat_map subsection capabilities) (flat_map subsection f.after) s t rest

pub front_spelled : (f : Front) (rest : List ℕ) → mapped_front f ++ rest ≡ machine_bytes f.machine ++ from_first f rest
front_spelled f rest =
    let list : List ℕ = subsection (Capabilities (mapped_names f)) in
    with_spelled f (Capabilities (mapped_names f) ∷ []) rest
    ∙ ap (λ (l : List ℕ). machine_bytes f.machine ++ (flat_map subsection f.before ++ (l ++ from_second f rest))) (append-nil list)

-- ---- a front that is there

-- where its parts begin
abbrev pub first_at : Front → ℕ
first_at f = length (machine_bytes f.machine)

abbrev pub list_at : Front → ℕ
list_at f = first_at f + length (flat_map subsection f.before)

abbrev pub second_at : Front → ℕ
second_at f = list_at f + length (subsection (Capabilities (mapped_names f)))

abbrev pub commands_at : Front → ℕ
commands_at f = second_at f + length (flat_map subsection f.after)

abbrev pub start_at : Front → ℕ
start_at f = commands_at f + length (flat_map command f.commands)

-- an offset is the one that is meant, and there bytes go on with a rest
pub record IsAt (bytes : List ℕ) (at meant : ℕ) (rest : List ℕ) : Type 0 where
  pub is_at : at ≡ meant
  pub has_rest : drop at bytes ≡ rest

further : (bytes : List ℕ) (at meant n len : ℕ) (rest : List ℕ) → at ≡ meant → (n ≡ len) × (drop n (drop at bytes) ≡ rest)
    → IsAt bytes (at + n) (meant + len) rest
further bytes at meant n len rest is one = record { is_at = ap₂ (λ (x y : ℕ). x + y) is one.0; has_rest = sym (drop-drop n at bytes) ∙ one.1 }

-- a name that is no capability is among these
pub not_all : (before after : List (List ℕ)) → AllByRecursion IsCapability (before ++ mapped_ram ∷ after) → ⊥
not_all [] after all = mapped_alone all.0
not_all (x ∷ before) after all = not_all before after all.1

-- names have one that is `mapped-ram` at one place
pub named_there : (names before after : List (List ℕ)) (from : ℕ) (mapped : Option ℕ) → MayBeNamed names from mapped → AllByRecursion IsCapability before
    → names ≡ before ++ mapped_ram ∷ after → mapped ≡ Some (from + length (flat_map counted before))
named_there names before after from None named all e = absurd (not_all before after (subst (AllByRecursion IsCapability) e named))
named_there names before after from (Some place) named all e =
    let same : named.before ≡ before = (named_unique named.before before named.after after named.are_before all (sym named.are_names ∙ e)).0 in
    ap Some (named.has_place ∙ ap (λ (l : List (List ℕ)). from + length (flat_map counted l)) same)

-- neither a subsection nor a COMMAND begins with another byte
first_byte : (commands : List Command) (id total : ℕ) (rest : List ℕ) → get_or (flat_map command commands ++ (start_bytes id total ++ rest)) 0 0 ≢ 5
first_byte [] id total rest e = let byte : 1 ≡ 5 = e in omega (arith, byte)
first_byte (x ∷ commands) id total rest e = let byte : 8 ≡ 5 = e in omega (arith, byte)

start_byte : (id total : ℕ) (rest : List ℕ) → get_or (start_bytes id total ++ rest) 0 0 ≢ 8
start_byte id total rest e = let byte : 1 ≡ 8 = e in omega (arith, byte)

module _ (f : Front) (bytes : List ℕ) (found : MappedFront) (there : BeginsWith f bytes found) where
  names_short : length (mapped_names f) < 2 ^ 32
  names_short = omega (arith, there.is_front.has_count, length-append f.names_before (mapped_ram ∷ f.names_after))

  whole : bytes ≡ machine_bytes f.machine ++ from_first f there.rest
  whole = there.is_spelled ∙ front_spelled f there.rest

  pub machine_there : BeginsWithNone (List ℕ) machine_bytes IsMachine bytes → ⊥
  machine_there none = none f.machine (from_first f there.rest) there.is_front.has_machine whole

  pub first_there : (n : ℕ) → Begins (List ℕ) machine_bytes IsMachine bytes n → IsAt bytes n (first_at f) (from_first f there.rest)
  first_there n found =
      let one = is_item (List ℕ) machine_bytes IsMachine machine_unique bytes n found f.machine (from_first f there.rest) there.is_front.has_machine whole in
      record { is_at = one.0; has_rest = one.1 }

  pub list_there : (at n : ℕ) → IsAt bytes at (first_at f) (from_first f there.rest) → BeginsWithAll SubsectionBody subsection IsOther (drop at bytes) n
      → IsAt bytes (at + n) (list_at f) (from_list f there.rest)
  list_there at n is found =
      further bytes at (first_at f) n (length (flat_map subsection f.before)) (from_list f there.rest) is.is_at
      (are_items SubsectionBody subsection IsOther other_unique (drop at bytes) n found f.before (from_list f there.rest) there.is_front.are_before
      (none_at_capabilities (mapped_names f) (from_second f there.rest)) is.has_rest)

  -- the subsection with the capabilities that is there, and the one that is found
  same_list : (at : ℕ) (list : NameList) → IsAt bytes at (list_at f) (from_list f there.rest) → (has : HasCapabilities (drop at bytes) list)
      → (has.0 ≡ mapped_names f) × (has.1 ≡ from_second f there.rest)
  same_list at list is has =
      capabilities_unique has.0 (mapped_names f) has.1 (from_second f there.rest) has.2.is_short names_short (sym has.2.is_spelled ∙ is.has_rest)

  pub count_there : (at : ℕ) (list : NameList) → IsAt bytes at (list_at f) (from_list f there.rest) → HasCapabilities (drop at bytes) list
      → list.count ≡ length (mapped_names f)
  count_there at list is has = has.2.has_count ∙ ap (λ (l : List (List ℕ)). length l) (same_list at list is has).0

  pub name_there : (at : ℕ) (list : NameList) → IsAt bytes at (list_at f) (from_list f there.rest) → HasCapabilities (drop at bytes) list
      → list.mapped ≡ Some (names_at + length (flat_map counted f.names_before))
  name_there at list is has = named_there has.0 f.names_before f.names_after names_at list.mapped has.2.is_named there.is_front.are_names_before
      (same_list at list is has).0

  pub list_is_there : (at : ℕ) → IsAt bytes at (list_at f) (from_list f there.rest) → HasNoCapabilities (drop at bytes) → ⊥
  list_is_there at is none = none (mapped_names f) (from_second f there.rest)
      (record {
        len = length (subsection (Capabilities (mapped_names f)));
        count = length (mapped_names f);
        mapped = Some (names_at + length (flat_map counted f.names_before));
      })
      (record {
        is_spelled = is.has_rest;
        is_short = names_short;
        has_len = refl;
        has_count = refl;
        is_named = record {
          before = f.names_before;
          after = f.names_after;
          are_names = refl;
          are_before = there.is_front.are_names_before;
          are_after = there.is_front.are_names_after;
          has_place = refl;
        };
      })

  pub second_there : (at : ℕ) (list : NameList) → IsAt bytes at (list_at f) (from_list f there.rest) → HasCapabilities (drop at bytes) list
      → IsAt bytes (at + list.len) (second_at f) (from_second f there.rest)
  second_there at list is has =
      let same = same_list at list is has in
      let len : list.len ≡ length (subsection (Capabilities (mapped_names f))) =
      has.2.has_len ∙ ap (λ (l : List (List ℕ)). length (subsection (Capabilities l))) same.0 in
      let list_bytes : List ℕ = subsection (Capabilities has.0) in
      further bytes at (list_at f) list.len (length (subsection (Capabilities (mapped_names f)))) (from_second f there.rest) is.is_at
      (len, ap (λ (n : ℕ). drop n (drop at bytes)) has.2.has_len ∙ ap (drop (length list_bytes)) has.2.is_spelled ∙ drop-append_seam list_bytes has.1 ∙ same.1)

  pub commands_there : (at n : ℕ) → IsAt bytes at (second_at f) (from_second f there.rest) → BeginsWithAll SubsectionBody subsection IsOther (drop at bytes) n
      → IsAt bytes (at + n) (commands_at f) (from_commands f there.rest)
  commands_there at n is found =
      further bytes at (second_at f) n (length (flat_map subsection f.after)) (from_commands f there.rest) is.is_at
      (are_items SubsectionBody subsection IsOther other_unique (drop at bytes) n found f.after (from_commands f there.rest) there.is_front.are_after
      (none_at_byte (from_commands f there.rest) (first_byte f.commands f.id f.total there.rest)) is.has_rest)

  pub start_there : (at n : ℕ) → IsAt bytes at (commands_at f) (from_commands f there.rest) → BeginsWithAll Command command IsCommand (drop at bytes) n
      → IsAt bytes (at + n) (start_at f) (from_start f there.rest)
  start_there at n is found =
      further bytes at (commands_at f) n (length (flat_map command f.commands)) (from_start f there.rest) is.is_at
      (are_items Command command IsCommand command_unique (drop at bytes) n found f.commands (from_start f there.rest) there.is_front.are_commands
      (none_at_other_byte (from_start f there.rest) (start_byte f.id f.total there.rest)) is.has_rest)

  is_start : IsStart (record { id = f.id; total = f.total })
  is_start = record { has_id = there.is_front.has_id; has_total = there.is_front.has_total }

  pub start_is_there : (at : ℕ) → IsAt bytes at (start_at f) (from_start f there.rest) → BeginsWithNone Start started IsStart (drop at bytes) → ⊥
  start_is_there at is none = none (record { id = f.id; total = f.total }) there.rest is_start is.has_rest

  pub total_there : (at total : ℕ) → IsAt bytes at (start_at f) (from_start f there.rest) → HasTotal (drop at bytes) total → total ≡ f.total
  total_there at total is has =
      ap (λ (s : Start). s.total) (start_unique (record { id = has.0; total = total }) (record { id = f.id; total = f.total }) has.1 there.rest has.2 is_start
      (sym has.3 ∙ is.has_rest)).0

-- ---- the offsets

length-three : (a b c : List ℕ) → length ((a ++ b) ++ c) ≡ length a + length b + length c
length-three a b c = omega (arith, length-append (a ++ b) c, length-append a b)

-- where the parts lie, as the definitions have it
pub list_offset : (f : Front) → subsection_offset f ≡ list_at f
list_offset f =
    let h : List ℕ = file_header in
    let c : List ℕ = configuration (Some f.machine) in
    let b : List ℕ = flat_map subsection f.before in
    ap (λ (l : List ℕ). length l) (sym (append_assoc h c b)) ∙ length-append (h ++ c) b

pub place_offset : (f : Front) → length (mapped_front f) ≡ start_at f + 25
place_offset f =
    let m : List ℕ = machine_bytes f.machine in
    let b : List ℕ = flat_map subsection f.before in
    let k : List ℕ = subsection (Capabilities (mapped_names f)) in
    let a : List ℕ = flat_map subsection f.after in
    let s : List ℕ = flat_map command f.commands in
    let t : List ℕ = start_bytes f.id f.total in
    let e : mapped_front f ++ [] ≡ m ++ (b ++ (k ++ (a ++ (s ++ (t ++ []))))) = front_spelled f [] in
    let long : length t ≡ 25 = refl in
    omega (
      arith,
      ap length (append-nil (mapped_front f)),
      ap length e,
      length-append m (b ++ (k ++ (a ++ (s ++ (t ++ []))))),
      length-append b (k ++ (a ++ (s ++ (t ++ [])))),
      length-append k (a ++ (s ++ (t ++ []))),
      length-append a (s ++ (t ++ [])),
      length-append s (t ++ []),
      ap length (append-nil t),
      long,
    )

pub count_offset_is : (f : Front) → count_offset f ≡ list_at f + 32
unfolding subsection_name
count_offset_is f = ap (λ (n : ℕ). n + 32) (list_offset f)

pub name_offset_is : (f : Front) → name_offset f ≡ list_at f + (names_at + length (flat_map counted f.names_before))
name_offset_is f = omega (arith, count_offset_is f)

-- the offsets that the code returns
same_front : (a b c d e g a' b' c' d' e' g' : ℕ) → a ≡ a' → b ≡ b' → c ≡ c' → d ≡ d' → e ≡ e' → g ≡ g'
    → ◌≡◌ {A = MappedFront} (record { place = a; total = b; subsection = c; count = d; capabilities = e; name = g })
    (record { place = a'; total = b'; subsection = c'; count = d'; capabilities = e'; name = g' })
same_front a b c d e g a' b' c' d' e' g' ea eb ec ed ee eg = cc

pub offsets_are : (f : Front) (start list count place total : ℕ) → start ≡ start_at f → list ≡ list_at f → count ≡ length (mapped_names f)
    → place ≡ names_at + length (flat_map counted f.names_before) → total ≡ f.total
    → ◌≡◌ {A = MappedFront}
    (record { place = start + 25; total = total; subsection = list; count = list + 32; capabilities = count; name = list + place }) (offsets f)
offsets_are f start list count place total es el ec ep et = same_front _ _ _ _ _ _ _ _ _ _ _ _
    (ap (λ (n : ℕ). n + 25) es ∙ sym (place_offset f)) et (el ∙ sym (list_offset f)) (ap (λ (n : ℕ). n + 32) el ∙ sym (count_offset_is f)) ec
    (ap₂ (λ (n m : ℕ). n + m) el ep ∙ sym (name_offset_is f))

-- ---- a front that is found

pub found_whole : (bytes : List ℕ) (first others : ℕ) (list : NameList) (place more commands total : ℕ)
    → Begins (List ℕ) machine_bytes IsMachine bytes first
    → BeginsWithAll SubsectionBody subsection IsOther (drop first bytes) others
    → HasCapabilities (drop (first + others) bytes) list → list.mapped ≡ Some place
    → BeginsWithAll SubsectionBody subsection IsOther (drop (first + others + list.len) bytes) more
    → BeginsWithAll Command command IsCommand (drop (first + others + list.len + more) bytes) commands
    → HasTotal (drop (first + others + list.len + more + commands) bytes) total
    → HasFront bytes (record {
      place = first + others + list.len + more + commands + 25;
      total = total;
      subsection = first + others;
      count = first + others + 32;
      capabilities = list.count;
      name = first + others + place;
    })
found_whole bytes first others list place more commands total m b k at a s t =
    let named : IsNamed k.0 names_at place = subst (MayBeNamed k.0 names_at) at k.2.is_named in
    let f : Front = record {
      machine = m.item;
      before = b.items;
      names_before = named.before;
      names_after = named.after;
      after = a.items;
      commands = s.items;
      id = t.0;
      total = total;
    } in
    let rest : List ℕ = t.1 in
    let names : k.0 ≡ mapped_names f = named.are_names in
    let after_first : b.rest ≡ from_list f rest =
    sym (rest_of_items SubsectionBody subsection IsOther (drop first bytes) others b) ∙ drop-drop others first bytes ∙ k.2.is_spelled
    ∙ ap₂ (λ (l : List (List ℕ)) (r : List ℕ). subsection (Capabilities l) ++ r) names
    (sym (drop-append_seam (subsection (Capabilities k.0)) k.1) ∙ ap (drop (length (subsection (Capabilities k.0)))) (sym k.2.is_spelled)
    ∙ ap (λ (n : ℕ). drop n (drop (first + others) bytes)) (sym k.2.has_len) ∙ drop-drop list.len (first + others) bytes ∙ a.is_spelled
    ∙ ap (λ (r : List ℕ). flat_map subsection a.items ++ r)
    (sym (rest_of_items SubsectionBody subsection IsOther (drop (first + others + list.len) bytes) more a)
    ∙ drop-drop more (first + others + list.len) bytes ∙ s.is_spelled
    ∙ ap (λ (r : List ℕ). flat_map command s.items ++ r)
    (sym (rest_of_items Command command IsCommand (drop (first + others + list.len + more) bytes) commands s)
    ∙ drop-drop commands (first + others + list.len + more) bytes ∙ t.3))) in
    let after_machine : m.rest ≡ from_first f rest =
    sym (rest_of_item (List ℕ) machine_bytes IsMachine bytes first m) ∙ b.is_spelled ∙ ap (λ (r : List ℕ). flat_map subsection b.items ++ r) after_first in
    let list_is : first + others ≡ list_at f = ap₂ (λ (x y : ℕ). x + y) m.has_len b.has_len in
    let list_len : list.len ≡ length (subsection (Capabilities (mapped_names f))) =
    k.2.has_len ∙ ap (λ (l : List (List ℕ)). length (subsection (Capabilities l))) names in
    let count : length k.0 ≡ length named.before + length named.after + 1 =
    ap length names ∙ omega (arith, length-append named.before (mapped_ram ∷ named.after)) in (
      f,
      record {
        is_front = record {
          has_machine = m.is_valid;
          are_before = b.are_valid;
          are_after = a.are_valid;
          are_names_before = named.are_before;
          are_names_after = named.are_after;
          has_count = omega (arith, count, k.2.is_short);
          are_commands = s.are_valid;
          has_id = t.2.has_id;
          has_total = t.2.has_total;
        };
        rest = rest;
        is_spelled = m.is_spelled ∙ ap (λ (r : List ℕ). machine_bytes m.item ++ r) after_machine ∙ sym (front_spelled f rest);
        has_offsets = offsets_are f (first + others + list.len + more + commands) (first + others) list.count place total
            (omega (arith, list_is, list_len, a.has_len, s.has_len)) list_is (k.2.has_count ∙ ap length names) named.has_place refl;
      },
    )
