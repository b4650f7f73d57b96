-- What is left of a stream from the file header, the configuration or START on, if its items were
-- read without a fault.
use Rattle.std.proofs.Common.{◌≡◌, ℕ, ◌+◌, ◌^◌, ◌<◌, ◌≤◌, Bool, true, false, not, cond, eqb, ltb, List, [], ◌∷◌, ◌++◌, length, get_or, Option, Some, None, refl}
use Rattle.std.proofs.Common.{sym, ap, subst, ◌∙◌, append_assoc, arith}
use Rattle.std.specs.Prelude.{IfSome, slice_range, ◌&&◌, ◌||◌}
use Rattle.std.specs.Int.{w32, to_be_bytes}
use Rattle.std.specs.List.{flat_map, list_any, AllByRecursion}
use Rattle.std.specs.Str.{bytes_eq}
use Rattle.std.proofs.lemmas.Slice.Eq.{bytes_eq-Decides}
use Rattle.std.proofs.lemmas.Bool.{not-false, eqb-true, ltb-false}
use Rattle.mig_stream.specs.declared.item.Before.TheVariants as before
use Rattle.mig_stream.specs.declared.item.Section.TheVariants.{Start}
use Rattle.mig_stream.specs.declared.item.Subsection.{Subsection}
use Rattle.mig_stream.specs.declared.item.EntryForm.{EntryForm}
use Rattle.mig_stream.specs.declared.item.EntryForm.TheVariants.{Addressed, Sized}
use Rattle.mig_stream.specs.declared.item.Due.{Due}
use Rattle.mig_stream.specs.declared.item.Due.TheVariants.{FileHeader, TypeByte, ConfigLength, ConfigName, StartHead, RecordHead}
use Rattle.mig_stream.specs.declared.fault.StreamFault.TheVariants as fault
use Rattle.mig_stream.specs.Fields.{be32, counted, be32_at}
use Rattle.mig_stream.specs.Format.{magic, version, section_type, subsection_type, configuration_type, ram_name, ram_instance, ram_version}
use Rattle.mig_stream.specs.Format.{most_name_bytes}
use Rattle.mig_stream.specs.Progress.{StreamProgress}
use Rattle.mig_mem.specs.First.{first_of}
use Rattle.mig_stream.specs.Items.{faults, is_machine, is_addressed}
use Rattle.mig_stream.specs.Machine.{PassedSection, passed_section, IsPassedSection, has_advise, ignore_shared_in, names_shared, ignores_shared, SubsectionBody}
use Rattle.mig_stream.specs.Machine.{kind_of, body_bytes, IsCapability, IsSubsectionBody, subsection_head, subsection, Configuration, configured}
use Rattle.mig_stream.specs.Machine.{IsConfiguration}
use Rattle.mig_stream.specs.Text.{file_header, start_head}
use Rattle.mig_stream.proofs.FoundFields.{IsBytes, be32_found}
use Rattle.mig_stream.proofs.FoundParts.{be32_small, header_found, start_found}
use Rattle.mig_stream.proofs.FoundList.{RestOfList}
use Rattle.mig_stream.proofs.FoundTail.{Behind}
use Rattle.mig_stream.proofs.Tails.{twice, fits_apart}
use Rattle.mig_stream.proofs.Steps.{passed}

-- START's head is left, and then its size list. Its type byte may have been read: `front` is what
-- was read of it.
pub record RestOfStart (front : List ℕ) (to c : StreamProgress) (bytes : List ℕ) : Type 0 where
  pub id : ℕ
  pub tail : List ℕ
  pub has_bytes : front ++ bytes ≡ start_head id ++ tail
  pub has_id : id < 2 ^ 32
  pub rest : RestOfList (Behind to) (record c { due = RecordHead; section = Start; section_id = id }) tail

-- What is passed over is left, and then START.
pub record RestOfPassed (to c : StreamProgress) (bytes : List ℕ) : Type 0 where
  pub opening : List PassedSection
  pub tail : List ℕ
  pub has_bytes : bytes ≡ flat_map passed_section opening ++ tail
  pub is_opening : AllByRecursion (IsPassedSection true) opening
  pub in_frame : is_machine c.frame ≡ false → opening ≡ []
  pub is_one_form : is_addressed c.form ≡ true → list_any has_advise opening ≡ false
  pub rest : RestOfStart [] to (record c { form = cond (list_any has_advise opening) Sized c.form }) tail

-- Subsections of the configuration are left, then what is passed over, and START.
pub record RestOfConfigured (to c : StreamProgress) (bytes : List ℕ) : Type 0 where
  pub subsections : List SubsectionBody
  pub tail : List ℕ
  pub has_bytes : bytes ≡ flat_map subsection subsections ++ tail
  pub are_bodies : AllByRecursion (IsSubsectionBody c.page_size) subsections
  pub in_frame : is_machine c.frame ≡ false → subsections ≡ []
  pub rest : RestOfPassed to (record c { form = cond (list_any names_shared subsections) Addressed c.form }) tail

-- The name of a configuration is left, and then START.
pub record RestOfConfigName (to c : StreamProgress) (len : ℕ) (bytes : List ℕ) : Type 0 where
  pub name : List ℕ
  pub tail : List ℕ
  pub has_bytes : bytes ≡ name ++ tail
  pub has_length : length name ≡ len
  pub rest : RestOfConfigured to (record c { due = TypeByte before.Configuration }) tail

-- The name of a configuration and its length are left, and then START.
pub record RestOfConfigLength (to c : StreamProgress) (bytes : List ℕ) : Type 0 where
  pub name : List ℕ
  pub tail : List ℕ
  pub has_bytes : bytes ≡ be32 (length name) ++ (name ++ tail)
  pub has_length : length name ≤ most_name_bytes
  pub rest : RestOfConfigured to (record c { due = TypeByte before.Configuration }) tail

-- A configuration or none is left, and then START.
pub record RestOfOpening (to c : StreamProgress) (bytes : List ℕ) : Type 0 where
  pub machine : Option Configuration
  pub tail : List ℕ
  pub has_bytes : bytes ≡ configured machine ++ tail
  pub has_machine : IfSome machine (IsConfiguration c.page_size)
  pub in_frame : is_machine c.frame ≡ false → IfSome machine (λ x. x.subsections ≡ [])
  pub rest : RestOfPassed to (record c { form = cond (ignores_shared machine) Addressed c.form }) tail

-- The complete stream is left.
pub record RestOfFile (to c : StreamProgress) (bytes : List ℕ) : Type 0 where
  pub tail : List ℕ
  pub has_bytes : bytes ≡ file_header ++ tail
  pub rest : RestOfOpening to (record c { due = TypeByte before.FileHeader }) tail

-- ---- START's head

-- START's head, in front of its size list
pub start_head_back : (to c : StreamProgress) (item bytes : List ℕ) → length item ≡ 13 + get_or item 4 0 → IsBytes item
    → first_of (faults c StartHead item) ≡ None
    → RestOfList (Behind to) (record c { due = RecordHead; section = Start; section_id = be32_at 0 item }) bytes
    → RestOfStart (section_type Start ∷ []) to c (item ++ bytes)
start_head_back to c item bytes len all free r =
    let n = get_or item 4 0 in
    let named = bytes_eq (slice_range item 5 (5 + n)) ram_name in
    let first = eqb (be32_at (5 + n) item) ram_instance in
    let fourth = eqb (be32_at (9 + n) item) ram_version in
    let t1 = passed (not named) fault.SectionName ((not first, fault.Instance) ∷ (not fourth, fault.RamVersion) ∷ []) free in
    let t2 = passed (not first) fault.Instance ((not fourth, fault.RamVersion) ∷ []) t1.1 in
    let t3 = passed (not fourth) fault.RamVersion [] t2.1 in
    let name : slice_range item 5 (5 + n) ≡ ram_name = (bytes_eq-Decides (slice_range item 5 (5 + n)) ram_name).0 (not-false named t1.0) in
    let spelled = start_found item n refl len all name (eqb-true _ _ (not-false first t2.0)) (eqb-true _ _ (not-false fourth t3.0)) in
    record {
      id = be32_at 0 item;
      tail = bytes;
      has_bytes = ap (λ (x : List ℕ). section_type Start ∷ (x ++ bytes)) spelled;
      has_id = be32_small item (omega arith) all;
      rest = r;
    }

-- the type byte in front of START's head
pub start_type_back : (to c : StreamProgress) (bytes : List ℕ) → RestOfStart (section_type Start ∷ []) to (record c { due = StartHead; section = Start }) bytes
    → RestOfStart [] to c (section_type Start ∷ bytes)
start_type_back to c bytes r = record { id = r.id; tail = r.tail; has_bytes = r.has_bytes; has_id = r.has_id; rest = r.rest }

-- START may stand where something is passed over
pub no_passed_back : (to c : StreamProgress) (bytes : List ℕ) → RestOfStart [] to c bytes → RestOfPassed to c bytes
no_passed_back to c bytes r = record {
  opening = [];
  tail = bytes;
  has_bytes = refl;
  is_opening = tt;
  in_frame = λ ram. refl;
  is_one_form = λ addressed. refl;
  rest = r;
}

-- what is left from START on doesn't depend on the item that was due
pub start_at : (front : List ℕ) (to c : StreamProgress) (d : Due) (bytes : List ℕ)
    → RestOfStart front to (record c { due = d }) bytes → RestOfStart front to c bytes
start_at front to c d bytes r = record { id = r.id; tail = r.tail; has_bytes = r.has_bytes; has_id = r.has_id; rest = r.rest }

-- what is left from what is passed over on doesn't depend on the item that was due
pub passed_at : (to c : StreamProgress) (d : Due) (bytes : List ℕ) → RestOfPassed to (record c { due = d }) bytes → RestOfPassed to c bytes
passed_at to c d bytes r = record {
  opening = r.opening;
  tail = r.tail;
  has_bytes = r.has_bytes;
  is_opening = r.is_opening;
  in_frame = r.in_frame;
  is_one_form = r.is_one_form;
  rest = start_at [] to (record c { form = cond (list_any has_advise r.opening) Sized c.form }) d r.tail r.rest;
}

-- what is passed over, in front of others
pub passed_back : (to c : StreamProgress) (x : PassedSection) (tail bytes : List ℕ) → is_machine c.frame ≡ true → IsPassedSection true x
    → (is_addressed c.form && has_advise x) ≡ false → bytes ≡ passed_section x ++ tail
    → RestOfPassed to (record c { form = cond (has_advise x) Sized c.form }) tail → RestOfPassed to c bytes
passed_back to c x tail bytes machine is fits e q =
    let others : Bool = list_any has_advise q.opening in
    record {
      opening = x ∷ q.opening;
      tail = q.tail;
      has_bytes = e ∙ ap (λ (y : List ℕ). passed_section x ++ y) q.has_bytes
          ∙ sym (append_assoc (passed_section x) (flat_map passed_section q.opening) q.tail);
      is_opening = (is, q.is_opening);
      in_frame = λ ram. absurd (let clash : true ≡ false = sym machine ∙ ram in cc);
      is_one_form = λ addressed.
          let isnt : has_advise x ≡ false = fits_apart (is_addressed c.form) (has_advise x) fits addressed in
          ap (λ (b : Bool). b || others) isnt ∙ q.is_one_form (ap (λ (b : Bool). is_addressed (cond b Sized c.form)) isnt ∙ addressed);
      rest = subst (λ (form : EntryForm). RestOfStart [] to (record c { form = form }) q.tail) (twice (has_advise x) others Sized c.form) q.rest;
    }

-- ---- configurations

-- a configuration may have no subsection
pub no_subsections_back : (to c : StreamProgress) (bytes : List ℕ) → RestOfPassed to c bytes → RestOfConfigured to c bytes
no_subsections_back to c bytes r = record { subsections = []; tail = bytes; has_bytes = refl; are_bodies = tt; in_frame = λ ram. refl; rest = r }

-- what is left of a configuration doesn't depend on the item that was due
pub configured_at : (to c : StreamProgress) (d : Due) (bytes : List ℕ) → RestOfConfigured to (record c { due = d }) bytes → RestOfConfigured to c bytes
configured_at to c d bytes r = record {
  subsections = r.subsections;
  tail = r.tail;
  has_bytes = r.has_bytes;
  are_bodies = r.are_bodies;
  in_frame = r.in_frame;
  rest = passed_at to (record c { form = cond (list_any names_shared r.subsections) Addressed c.form }) d r.tail r.rest;
}

-- what a subsection holds, in front of others
pub record RestOfBodyOf (to c : StreamProgress) (kind : Subsection) (bytes : List ℕ) : Type 0 where
  pub held : SubsectionBody
  pub has_kind : kind_of held ≡ kind
  pub tail : List ℕ
  pub has_bytes : bytes ≡ body_bytes held ++ tail
  pub is_body : IsSubsectionBody c.page_size held
  pub rest : RestOfConfigured to (record c { form = cond (names_shared held) Addressed c.form }) tail

-- a subsection after its type byte
pub record RestOfSubsection (to c : StreamProgress) (bytes : List ℕ) : Type 0 where
  pub held : SubsectionBody
  pub tail : List ℕ
  pub has_bytes : bytes ≡ subsection_head (kind_of held) ++ body_bytes held ++ tail
  pub is_body : IsSubsectionBody c.page_size held
  pub rest : RestOfConfigured to (record c { form = cond (names_shared held) Addressed c.form }) tail

-- what is left of a subsection doesn't depend on the item that was due
pub subsection_at : (to c : StreamProgress) (d : Due) (bytes : List ℕ) → RestOfSubsection to (record c { due = d }) bytes → RestOfSubsection to c bytes
subsection_at to c d bytes r = record {
  held = r.held;
  tail = r.tail;
  has_bytes = r.has_bytes;
  is_body = r.is_body;
  rest = configured_at to (record c { form = cond (names_shared r.held) Addressed c.form }) d r.tail r.rest;
}

-- the names of this many capabilities
pub record RestOfNames (to c : StreamProgress) (n : ℕ) (bytes : List ℕ) : Type 0 where
  pub names : List (List ℕ)
  pub has_length : length names ≡ n
  pub tail : List ℕ
  pub has_bytes : bytes ≡ flat_map counted names ++ tail
  pub are_capabilities : AllByRecursion IsCapability names
  pub rest : RestOfConfigured to (record c { form = cond (ignore_shared_in names) Addressed c.form }) tail

-- a subsection in front of others
pub subsection_back : (to c : StreamProgress) (bytes : List ℕ) → is_machine c.frame ≡ true → RestOfSubsection to c bytes
    → RestOfConfigured to c (subsection_type ∷ bytes)
subsection_back to c bytes machine r =
    let q = r.rest in
    let h = r.held in
    record {
      subsections = h ∷ q.subsections;
      tail = q.tail;
      has_bytes = ap (λ (y : List ℕ). subsection_type ∷ y) (r.has_bytes ∙ ap (λ (y : List ℕ). subsection_head (kind_of h) ++ body_bytes h ++ y) q.has_bytes)
          ∙ regroup_subsection (subsection_head (kind_of h)) (body_bytes h) (flat_map subsection q.subsections) q.tail subsection_type;
      are_bodies = (r.is_body, q.are_bodies);
      in_frame = λ ram. absurd (let clash : true ≡ false = sym machine ∙ ram in cc);
      rest = subst (λ (form : EntryForm). RestOfPassed to (record c { form = form }) q.tail)
          (twice (names_shared h) (list_any names_shared q.subsections) Addressed c.form) q.rest;
    }
  where
    regroup_subsection : (head held others tail : List ℕ) (kind : ℕ) → kind ∷ ((head ++ held) ++ (others ++ tail)) ≡ ((kind ∷ (head ++ held)) ++ others) ++ tail
    regroup_subsection head held others tail kind = simp append_assoc

-- a configuration's name, in front of START
pub name_back : (to c : StreamProgress) (len : ℕ) (item bytes : List ℕ) → length item ≡ len
    → RestOfConfigured to (record c { due = TypeByte before.Configuration }) bytes → RestOfConfigName to c len (item ++ bytes)
name_back to c len item bytes whole r = record { name = item; tail = bytes; has_bytes = refl; has_length = whole; rest = r }

-- the length of a configuration's name, in front of the name
pub length_back : (to c : StreamProgress) (item bytes : List ℕ) → length item ≡ 4 → IsBytes item → first_of (faults c ConfigLength item) ≡ None
    → RestOfConfigName to (record c { due = ConfigName (be32_at 0 item) }) (be32_at 0 item) bytes → RestOfConfigLength to c (item ++ bytes)
length_back to c item bytes len all free r =
    let t = passed (ltb most_name_bytes (be32_at 0 item)) fault.ConfigLength [] free in
    record {
      name = r.name;
      tail = r.tail;
      has_bytes = ap (λ (x : List ℕ). x ++ bytes) (sym (be32_found item len all) ∙ ap (to_be_bytes w32) (sym r.has_length))
          ∙ ap (λ (x : List ℕ). be32 (length r.name) ++ x) r.has_bytes;
      has_length = omega (arith, r.has_length, ltb-false _ _ t.0);
      rest = r.rest;
    }

-- a name of no bytes has no item
pub no_name_back : (to c : StreamProgress) (len : ℕ) (bytes : List ℕ) → len ≡ 0
    → RestOfConfigured to (record c { due = TypeByte before.Configuration }) bytes → RestOfConfigName to c len bytes
no_name_back to c len bytes none r = record { name = []; tail = bytes; has_bytes = refl; has_length = sym none; rest = r }

-- the type byte of a configuration, in front of its length
pub configuration_back : (to c : StreamProgress) (bytes : List ℕ) → RestOfConfigLength to (record c { due = ConfigLength }) bytes
    → RestOfOpening to c (configuration_type ∷ bytes)
configuration_back to c bytes r =
    let q = r.rest in
    record {
      machine = Some (record { name = r.name; subsections = q.subsections });
      tail = q.tail;
      has_bytes = ap (λ (x : List ℕ). configuration_type ∷ x) (r.has_bytes ∙ ap (λ (x : List ℕ). be32 (length r.name) ++ (r.name ++ x)) q.has_bytes)
          ∙ regroup_configuration (be32 (length r.name)) r.name (flat_map subsection q.subsections) q.tail configuration_type;
      has_machine = record { has_name = r.has_length; are_bodies = q.are_bodies };
      in_frame = q.in_frame;
      rest = passed_at to (record c { form = cond (list_any names_shared q.subsections) Addressed c.form }) (TypeByte before.Configuration) q.tail q.rest;
    }
  where
    regroup_configuration : (len name others tail : List ℕ) (kind : ℕ) → kind ∷ (len ++ (name ++ (others ++ tail))) ≡ ((kind ∷ (len ++ name)) ++ others) ++ tail
    regroup_configuration len name others tail kind = simp append_assoc

-- there may be no configuration
pub no_configuration_back : (to c : StreamProgress) (bytes : List ℕ) → RestOfPassed to c bytes → RestOfOpening to c bytes
no_configuration_back to c bytes r = record { machine = None; tail = bytes; has_bytes = refl; has_machine = tt; in_frame = λ ram. tt; rest = r }

-- ---- the file header

-- the file header, in front of all else
pub header_back : (to c : StreamProgress) (item bytes : List ℕ) → length item ≡ 8 → IsBytes item → first_of (faults c FileHeader item) ≡ None
    → RestOfOpening to (record c { due = TypeByte before.FileHeader }) bytes → RestOfFile to c (item ++ bytes)
unfolding file_header
header_back to c item bytes len all free r =
    let mark = eqb (be32_at 0 item) magic in
    let third = eqb (be32_at 4 item) version in
    let t1 = passed (not mark) fault.Magic ((not third, fault.Version) ∷ []) free in
    let t2 = passed (not third) fault.Version [] t1.1 in
    let one : be32_at 0 item ≡ magic = eqb-true _ _ (not-false mark t1.0) in
    let two : be32_at 4 item ≡ version = eqb-true _ _ (not-false third t2.0) in
    record {
      tail = bytes;
      has_bytes = ap (λ (x : List ℕ). x ++ bytes)
          (header_found item len all ∙ ap (λ (x : ℕ). be32 x ++ be32 (be32_at 4 item)) one ∙ ap (λ (x : ℕ). be32 magic ++ be32 x) two);
      rest = r;
    }
