-- A type byte without a fault goes in front of what is left after it.
use Rattle.std.proofs.Common.{◌≡◌, ℕ, Bool, cond, true, false, not, eqb, List, [], ◌∷◌, ◌++◌, length, get_or, None, refl, sym, ap, subst, ◌∙◌, inl, inr, arith}
use Rattle.std.specs.Prelude.{◌&&◌, ◌||◌}
use Rattle.std.proofs.lemmas.Bool.{not-false, eqb-true, or_cases, and_parts, and_right}
use Rattle.mig_stream.specs.declared.item.Before.{Before}
use Rattle.mig_stream.specs.declared.item.Before.TheVariants as before
use Rattle.mig_stream.specs.declared.item.Section.TheVariants as section
use Rattle.mig_stream.specs.declared.item.EntryForm.TheVariants.{Sized}
use Rattle.mig_stream.specs.declared.item.EarlyPart.TheVariants as early
use Rattle.mig_stream.specs.declared.item.PassedItem.TheVariants as pass
use Rattle.mig_stream.specs.declared.item.Due.TheVariants.{TypeByte, Passed}
use Rattle.mig_stream.specs.declared.fault.StreamFault.TheVariants as fault
use Rattle.mig_stream.specs.Format.{end_byte, section_type, full_type, command_type, subsection_type, configuration_type}
use Rattle.mig_stream.specs.Progress.{StreamProgress}
use Rattle.mig_mem.specs.First.{first_of}
use Rattle.mig_stream.specs.Items.{is_single, is_allowed, is_machine, is_start, is_addressed, may_pass, is_passed, after_command, passed_by, faults, after_type}
use Rattle.mig_stream.specs.Items.{after_type_byte}
use Rattle.mig_stream.specs.Machine.{is_advise, CommandOf, EarlyOf}
use Rattle.mig_stream.proofs.FoundTail.{ending, part_back, last_back, parts_at, passed_back, no_tail_found}
use Rattle.mig_stream.proofs.FoundOpening.{RestOfPassed, start_type_back, no_passed_back, passed_at, no_subsections_back, subsection_at, subsection_back}
use Rattle.mig_stream.proofs.FoundOpening.{configuration_back, no_configuration_back}
use Rattle.mig_stream.proofs.FoundOpening as opening
use Rattle.mig_stream.proofs.FoundRest.{RestOfCommand, RestOfEarly, RestAt, RestAtType, RestFrom}
use Rattle.mig_stream.proofs.Steps.{passed}

-- the rest after a byte is the rest after the byte that it is
byte_is : (to c : StreamProgress) (byte known : ℕ) (bytes : List ℕ) → byte ≡ known → RestFrom to (after_type c byte) bytes
    → RestFrom to (after_type c known) bytes
byte_is to c byte known bytes e r = subst (λ (x : ℕ). RestFrom to (after_type c x) bytes) e r

-- a byte in front of a rest is the byte that it is
byte_front : (to c : StreamProgress) (b : Before) (byte known : ℕ) (bytes : List ℕ) → byte ≡ known
    → RestAtType to c b (known ∷ bytes) → RestAtType to c b (byte ∷ bytes)
byte_front to c b byte known bytes e r = subst (λ (x : ℕ). RestAtType to c b (x ∷ bytes)) (sym e) r

-- the second test of an end byte
tail_test : (c : StreamProgress) (byte : ℕ) → byte ≡ end_byte → (eqb byte end_byte && not (is_single c.mode) && not (eqb (length c.records) 0)) ≡ false
    → (true && not (is_single c.mode) && not (eqb (length c.records) 0)) ≡ false
tail_test c byte e free = ap (λ (x : ℕ). eqb x end_byte && not (is_single c.mode) && not (eqb (length c.records) 0)) (sym e) ∙ free

-- a byte that is allowed, in front of what is left after it
byte_back : (to c : StreamProgress) (b : Before) (byte : ℕ) (bytes : List ℕ) → is_allowed b byte ≡ true
    → (eqb byte end_byte && not (is_single c.mode) && not (eqb (length c.records) 0)) ≡ false
    → RestFrom to (after_type c byte) bytes → RestAtType to c b (byte ∷ bytes)
byte_back to c before.FileHeader byte bytes ok free r =
    elim (or_cases (eqb byte configuration_type) (eqb byte (section_type section.Start)) ok) [
      | inl h ↦
          let e : byte ≡ configuration_type = eqb-true _ _ h in
          let at = byte_is to c byte configuration_type bytes e r in
          byte_front to c before.FileHeader byte configuration_type bytes e (λ none. configuration_back to c bytes (at none))
      | inr h ↦
          let e : byte ≡ section_type section.Start = eqb-true _ _ h in
          let at = byte_is to c byte (section_type section.Start) bytes e r in
          byte_front to c before.FileHeader byte (section_type section.Start) bytes e
          (λ none. no_configuration_back to c (section_type section.Start ∷ bytes)
          (no_passed_back to c (section_type section.Start ∷ bytes) (start_type_back to c bytes (at none refl))))
    ]
byte_back to c before.Configuration byte bytes ok free r =
    let e : byte ≡ section_type section.Start = eqb-true _ _ ok in
    let at = byte_is to c byte (section_type section.Start) bytes e r in
    byte_front to c before.Configuration byte (section_type section.Start) bytes e
    (λ none. no_subsections_back to c (section_type section.Start ∷ bytes)
    (no_passed_back to c (section_type section.Start ∷ bytes) (start_type_back to c bytes (at none refl))))
byte_back to c before.Command byte bytes ok free r =
    let e : byte ≡ section_type section.Start = eqb-true _ _ ok in
    let at = byte_is to c byte (section_type section.Start) bytes e r in
    byte_front to c before.Command byte (section_type section.Start) bytes e
    (λ none. no_passed_back to c (section_type section.Start ∷ bytes) (start_type_back to c bytes (at none refl)))
byte_back to c before.Footer byte bytes ok free r =
    elim (or_cases (eqb byte (section_type section.Part)) (eqb byte (section_type section.End)) ok) [
      | inl h ↦
          let e : byte ≡ section_type section.Part = eqb-true _ _ h in
          let at = byte_is to c byte (section_type section.Part) bytes e r in
          byte_front to c before.Footer byte (section_type section.Part) bytes e (λ used. part_back to c bytes (at used))
      | inr h ↦
          let e : byte ≡ section_type section.End = eqb-true _ _ h in
          let at = byte_is to c byte (section_type section.End) bytes e r in
          byte_front to c before.Footer byte (section_type section.End) bytes e (λ used. last_back to c bytes (at used))
    ]
byte_back to c before.LastFooter byte bytes ok free r =
    let e : byte ≡ end_byte = eqb-true _ _ ok in
    let at = byte_is to c byte end_byte bytes e r in
    byte_front to c before.LastFooter byte end_byte bytes e
    (λ ram. record {
      has_bytes = ap (λ (x : List ℕ). end_byte ∷ x) at.0 ∙ sym (ap ending ram);
      is_closed = at.3;
      no_tail = no_tail_found c.mode c.records (tail_test c byte e free);
      has_rounds = at.1;
      has_table = at.2;
    })

-- ---- a byte that is passed over

-- what follows a COMMAND before START
command_rest : (to c : StreamProgress) (bytes : List ℕ)
    → (r : RestOfCommand to (record c { due = Passed (pass.Command before.Command) }) before.Command bytes) → c.left ≡ None
    → RestOfPassed to (record c { form = cond (is_advise r.command_is) Sized c.form }) r.tail
command_rest to c bytes r none = passed_at to (record c { form = cond (is_advise r.command_is) Sized c.form }) (TypeByte before.Command) r.tail (r.rest none)

-- a COMMAND and its type byte, in front of what follows it
command_opens : (to c : StreamProgress) (bytes : List ℕ) → is_machine c.frame ≡ true
    → RestOfCommand to (record c { due = Passed (pass.Command before.Command) }) before.Command bytes → c.left ≡ None
    → RestOfPassed to c (command_type ∷ bytes)
command_opens to c bytes machine r none =
    opening.passed_back to c (CommandOf r.command_is) r.tail (command_type ∷ bytes) machine r.is_command r.fits
    (ap (λ (y : List ℕ). command_type ∷ y) r.has_bytes) (command_rest to c bytes r none)

-- that of a COMMAND, in front of the COMMAND
command_type_back : (to c : StreamProgress) (b : Before) (bytes : List ℕ) → may_pass c.section b command_type ≡ true
    → is_machine c.frame ≡ true → RestOfCommand to (record c { due = Passed (pass.Command (after_command b)) }) (after_command b) bytes
    → RestAtType to c b (command_type ∷ bytes)
command_type_back to c before.FileHeader bytes may machine r =
    λ none. no_configuration_back to c (command_type ∷ bytes) (command_opens to c bytes machine r none)
command_type_back to c before.Configuration bytes may machine r =
    λ none. no_subsections_back to c (command_type ∷ bytes) (command_opens to c bytes machine r none)
command_type_back to c before.Command bytes may machine r = λ none. command_opens to c bytes machine r none
command_type_back to c before.Footer bytes may machine r =
    λ used. passed_back to c (CommandOf r.command_is) r.tail (command_type ∷ bytes) machine r.is_command
    (ap (λ (y : List ℕ). command_type ∷ y) r.has_bytes) (parts_at to c (TypeByte before.Footer) r.tail (r.rest used))
command_type_back to c before.LastFooter bytes may machine r = absurd cc

-- a device's section and its type byte, in front of what follows it before START
device_opens : (to c : StreamProgress) (bytes : List ℕ) → is_machine c.frame ≡ true
    → RestOfEarly to (record c { due = Passed (pass.Early before.Command early.Head) }) before.Command bytes → c.left ≡ None
    → RestOfPassed to c (full_type ∷ bytes)
device_opens to c bytes machine r none =
    opening.passed_back to c (EarlyOf r.early_is) r.tail (full_type ∷ bytes) machine (refl, r.is_early) (and_right (is_addressed c.form) false refl)
    (ap (λ (y : List ℕ). full_type ∷ y) r.has_bytes) (passed_at to (record c { form = c.form }) (TypeByte before.Command) r.tail (r.rest none))

-- that of a device's section, in front of the section
device_type_back : (to c : StreamProgress) (b : Before) (bytes : List ℕ) → may_pass c.section b full_type ≡ true
    → is_machine c.frame ≡ true → RestOfEarly to (record c { due = Passed (pass.Early (after_command b) early.Head) }) (after_command b) bytes
    → RestAtType to c b (full_type ∷ bytes)
device_type_back to c before.FileHeader bytes may machine r =
    λ none. no_configuration_back to c (full_type ∷ bytes) (device_opens to c bytes machine r none)
device_type_back to c before.Configuration bytes may machine r =
    λ none. no_subsections_back to c (full_type ∷ bytes) (device_opens to c bytes machine r none)
device_type_back to c before.Command bytes may machine r = λ none. device_opens to c bytes machine r none
device_type_back to c before.Footer bytes may machine r =
    λ used. passed_back to c (EarlyOf r.early_is) r.tail (full_type ∷ bytes) machine (may, r.is_early)
    (ap (λ (y : List ℕ). full_type ∷ y) r.has_bytes) (parts_at to c (TypeByte before.Footer) r.tail (r.rest used))
device_type_back to c before.LastFooter bytes may machine r = absurd cc

-- a byte is one of two
neither : (x y : Bool) → x ≡ false → y ≡ false → (x || y) ≡ true → ⊥
neither x y e f o = let clash : true ≡ false = sym o ∙ ap (λ (b : Bool). b || y) e ∙ f in absurd cc

-- a subsection's stands after the configuration alone
subsection_type_back : (to c : StreamProgress) (b : Before) (byte : ℕ) (bytes : List ℕ)
    → eqb byte command_type ≡ false → eqb byte full_type ≡ false → may_pass c.section b byte ≡ true → is_machine c.frame ≡ true
    → RestFrom to (record c { due = Passed pass.SubsectionHead }) bytes → RestAtType to c b (byte ∷ bytes)
subsection_type_back to c before.FileHeader byte bytes no_command no_device may machine r = absurd (neither _ _ no_command no_device may)
subsection_type_back to c before.Command byte bytes no_command no_device may machine r = absurd (neither _ _ no_command no_device may)
subsection_type_back to c before.Footer byte bytes no_command no_device may machine r =
    absurd (neither _ _ no_command (ap (λ (x : Bool). x && is_start c.section) no_device) may)
subsection_type_back to c before.LastFooter byte bytes no_command no_device may machine r = absurd cc
subsection_type_back to c before.Configuration byte bytes no_command no_device may machine r =
    elim (or_cases (eqb byte command_type || eqb byte full_type) (eqb byte subsection_type) may) [
      | inl h ↦ absurd (neither _ _ no_command no_device h)
      | inr h ↦
          let e : byte ≡ subsection_type = eqb-true _ _ h in
          byte_front to c before.Configuration byte subsection_type bytes e
          (λ none. subsection_back to c bytes machine (subsection_at to c (Passed pass.SubsectionHead) bytes (r none)))
    ]

-- a byte that is passed over, in front of what it begins
passed_type_back : (to c : StreamProgress) (b : Before) (byte : ℕ) (bytes : List ℕ) (is_command is_device : Bool)
    → eqb byte command_type ≡ is_command → eqb byte full_type ≡ is_device → may_pass c.section b byte ≡ true → is_machine c.frame ≡ true
    → RestFrom to (record c {
      due = Passed (cond is_command (pass.Command (after_command b)) (cond is_device (pass.Early (after_command b) early.Head) pass.SubsectionHead));
    }) bytes → RestAtType to c b (byte ∷ bytes)
passed_type_back to c b byte bytes true is_device test other may machine r =
    let e : byte ≡ command_type = eqb-true _ _ test in
    byte_front to c b byte command_type bytes e
    (command_type_back to c b bytes (subst (λ (x : ℕ). may_pass c.section b x ≡ true) e may) machine r)
passed_type_back to c b byte bytes false true test other may machine r =
    let e : byte ≡ full_type = eqb-true _ _ other in
    byte_front to c b byte full_type bytes e
    (device_type_back to c b bytes (subst (λ (x : ℕ). may_pass c.section b x ≡ true) e may) machine r)
passed_type_back to c b byte bytes false false test other may machine r = subsection_type_back to c b byte bytes test other may machine r

-- a byte that is passed over, or allowed
either_back : (to c : StreamProgress) (b : Before) (byte : ℕ) (bytes : List ℕ) (is : Bool) → is_passed c.frame c.section b byte ≡ is
    → not (is_allowed b byte || is) ≡ false
    → (eqb byte end_byte && not (is_single c.mode) && not (eqb (length c.records) 0)) ≡ false
    → RestFrom to (cond is (record c { due = Passed (passed_by b byte) }) (after_type c byte)) bytes → RestAtType to c b (byte ∷ bytes)
either_back to c b byte bytes true own ok free r =
    let both = and_parts (may_pass c.section b byte) (is_machine c.frame) own in
    passed_type_back to c b byte bytes (eqb byte command_type) (eqb byte full_type) refl refl both.0 both.1 r
either_back to c b byte bytes false own ok free r =
    byte_back to c b byte bytes (allowed_alone (is_allowed b byte) (not-false (is_allowed b byte || false) ok)) free r
  where
    allowed_alone : (x : Bool) → (x || false) ≡ true → x ≡ true
    allowed_alone true ok = refl
    allowed_alone false ok = ok

-- A type byte in front of what is left after it.
pub type_back : (to c : StreamProgress) (b : Before) (item bytes : List ℕ) → length item ≡ 1 → first_of (faults c (TypeByte b) item) ≡ None
    → RestFrom to (after_type_byte c b (get_or item 0 0)) bytes → RestAt to c (TypeByte b) (item ++ bytes)
type_back to c b [] bytes len free r = absurd cc
type_back to c b (x ∷ []) bytes len free r =
    let tail = eqb x end_byte && not (is_single c.mode) && not (eqb (length c.records) 0) in
    let t1 = passed (not (is_allowed b x || is_passed c.frame c.section b x)) fault.SectionType ((tail, fault.Tail) ∷ []) free in
    let t2 = passed tail fault.Tail [] t1.1 in
    either_back to c b x bytes (is_passed c.frame c.section b x) refl t1.0 t2.0 r
type_back to c b (x ∷ y ∷ item) bytes len free r = absurd (omega arith)
