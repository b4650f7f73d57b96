-- What is passed over is read as it is spelled: COMMANDs, a device's section, and the subsections
-- of the configuration.
use Rattle.std.proofs.Common.{◌≡◌, ℕ, ◌+◌, ◌-◌, ◌^◌, Bool, true, false, cond, eqb, List, [], ◌∷◌, length, take, Option, Some, None, refl, sym, ap, subst, ◌∙◌}
use Rattle.std.proofs.Common.{arith}
use Rattle.std.specs.Prelude.{not, ◌&&◌, ◌||◌}
use Rattle.std.specs.List.{flat_map, list_any, AllByRecursion}
use Rattle.std.specs.Str.{bytes_eq}
use Rattle.std.proofs.lemmas.List.{append-nil, take_at}
use Rattle.std.proofs.lemmas.Bool.{eq-eqb, ne_eqb, and_right}
use Rattle.mig_stream.specs.declared.item.Before.{Before}
use Rattle.mig_stream.specs.declared.item.Before.TheVariants as before
use Rattle.mig_stream.specs.declared.item.Section.{Section}
use Rattle.mig_stream.specs.declared.item.Subsection.{Subsection}
use Rattle.mig_stream.specs.declared.item.Subsection.TheVariants as kind
use Rattle.mig_stream.specs.declared.item.EntryForm.{EntryForm}
use Rattle.mig_stream.specs.declared.item.EntryForm.TheVariants.{Addressed, Sized}
use Rattle.mig_stream.specs.declared.item.PassedItem.TheVariants as item
use Rattle.mig_stream.specs.declared.item.Due.{Due}
use Rattle.mig_stream.specs.declared.item.Due.TheVariants.{TypeByte, Passed}
use Rattle.mig_stream.specs.declared.fault.StreamFault.{StreamFault}
use Rattle.mig_stream.specs.declared.fault.StreamFault.TheVariants as fault
use Rattle.mig_stream.specs.Fields.{be32, counted, be16_at, be32_at}
use Rattle.mig_stream.specs.Format.{command_type, full_type, subsection_type, subsection_name, subsection_version, ignore_shared}
use Rattle.mig_stream.specs.Progress.{StreamProgress}
use Rattle.mig_mem.specs.First.{first_of}
use Rattle.mig_stream.specs.Items.{is_allowed, has_tail, id_in, subsection_of, is_machine, is_start, may_pass, is_passed, is_passed_command, allows_postcopy}
use Rattle.mig_stream.specs.Items.{is_before_start, advises, is_addressed, passed_by, after_command, body_of, capabilities_due, after_type, first_fault, after}
use Rattle.mig_stream.specs.Reading.{Front}
use Rattle.mig_stream.specs.Machine.{PassedSection, CommandOf, EarlyOf, passed_section, IsPassedSection, has_advise}
use Rattle.mig_stream.specs.Machine.{Command, command_bytes, command, IsCommand, is_advise, SubsectionBody, PageBits, Uuid, Capabilities, kind_of, body_bytes}
use Rattle.mig_stream.specs.Machine.{IsCapability, IsSubsectionBody, subsection_head, subsection, ignore_shared_in, names_shared}
use Rattle.mig_stream.proofs.Fronts.{Front-none, Front-append}
use Rattle.mig_stream.proofs.SpelledItems.{item_front, be32_back}
use Rattle.mig_stream.proofs.SpelledEarly.{early_front}
use Rattle.mig_stream.proofs.Tails.{twice, first_fits, others_fit}

two_free : (a b : Bool) (f g : StreamFault) → a ≡ false → b ≡ false → first_of ((a, f) ∷ (b, g) ∷ []) ≡ None
two_free a b f g x y = rw (x, y) refl

or_passed : (x y : Bool) → y ≡ true → not (x || y) ≡ false
or_passed true y e = refl
or_passed false y e = ap not e

-- the type byte of a COMMAND, a device's section or a subsection
pub passed_type_front : (c : StreamProgress) (b : Before) (byte : ℕ) → is_machine c.frame ≡ true → may_pass c.section b byte ≡ true
    → eqb byte 0 ≡ false
    → Front (record c { due = TypeByte b }) (byte ∷ []) (record c { due = Passed (passed_by b byte) })
passed_type_front c b byte machine may other =
    let d : StreamProgress = record c { due = TypeByte b } in
    let passed : is_passed c.frame c.section b byte ≡ true = ap (λ (x : Bool). x && is_machine c.frame) may ∙ machine in
    let new : after d (byte ∷ []) ≡ record c { due = Passed (passed_by b byte) } =
    ap (λ (x : Bool). cond x (record d { due = Passed (passed_by b byte) }) (after_type d byte)) passed in
    let free : first_fault d (byte ∷ []) ≡ None =
    two_free (not (is_allowed b byte || is_passed c.frame c.section b byte)) (has_tail (eqb byte 0) c) fault.SectionType fault.Tail
    (or_passed (is_allowed b byte) (is_passed c.frame c.section b byte) passed) (ap (λ (x : Bool). has_tail x c) other) in
    subst (λ (x : StreamProgress). Front d (byte ∷ []) x) new (item_front d (byte ∷ []) (λ e. absurd cc) refl free)

-- a COMMAND after its type byte
command_bytes_front : (c : StreamProgress) (b : Before) (x : Command) → IsCommand x → (is_addressed c.form && (is_before_start b && is_advise x)) ≡ false
    → Front (record c { due = Passed (item.Command b) }) (command_bytes x)
    (record c { due = TypeByte b; form = cond (is_before_start b && is_advise x) Sized c.form })
command_bytes_front c b x is fits =
    let d : StreamProgress = record c { due = Passed (item.Command b) } in
    let bytes : List ℕ = command_bytes x in
    let whole : length bytes ≡ 4 + be16_at 2 bytes = omega (arith, is.has_length) in
    let number : be16_at 0 bytes ≡ x.number = omega arith in
    let len : be16_at 2 bytes ≡ length x.carried = omega (arith, is.has_length) in
    let advise : advises b bytes ≡ (is_before_start b && is_advise x) =
    ap (λ (n : ℕ). is_before_start b && allows_postcopy n (be16_at 2 bytes)) number ∙ ap (λ (n : ℕ). is_before_start b && allows_postcopy x.number n) len in
    let test : (not (is_passed_command (be16_at 0 bytes)) || (is_addressed c.form && advises b bytes)) ≡ false =
    ap (λ (n : ℕ). not (is_passed_command n) || (is_addressed c.form && advises b bytes)) number
    ∙ ap (λ (known : Bool). not known || (is_addressed c.form && advises b bytes)) is.has_number
    ∙ ap (λ (a : Bool). is_addressed c.form && a) advise ∙ fits in
    let free : first_fault d bytes ≡ None = ap (λ (t : Bool). first_of ((t, fault.Command) ∷ [])) test in
    let new : after d bytes ≡ record c { due = TypeByte b; form = cond (is_before_start b && is_advise x) Sized c.form } =
    ap (λ (a : Bool). record c { due = TypeByte b; form = cond a Sized c.form }) advise in
    subst (λ (y : StreamProgress). Front d bytes y) new (item_front d bytes (λ e. absurd cc) whole free)

-- a COMMAND, if one may stand
command_front : (c : StreamProgress) (b : Before) (x : Command) → is_machine c.frame ≡ true → may_pass c.section b command_type ≡ true → IsCommand x
    → (is_addressed c.form && (is_before_start (after_command b) && is_advise x)) ≡ false
    → Front (record c { due = TypeByte b }) (command x)
    (record c { due = TypeByte (after_command b); form = cond (is_before_start (after_command b) && is_advise x) Sized c.form })
command_front c b x machine may is fits =
    Front-append _ _ _ _ _ (passed_type_front c b command_type machine may refl) (command_bytes_front c (after_command b) x is fits)

-- a COMMAND after a footer
late_command_front : (c : StreamProgress) (x : Command) → is_machine c.frame ≡ true → IsCommand x
    → Front (record c { due = TypeByte before.Footer }) (command x) (record c { due = TypeByte before.Footer })
late_command_front c x machine is = command_front c before.Footer x machine refl is (and_right (is_addressed c.form) false refl)

-- what is passed over, after a footer
pub late_passed_front : (c : StreamProgress) (x : PassedSection) → is_machine c.frame ≡ true → IsPassedSection (is_start c.section) x
    → Front (record c { due = TypeByte before.Footer }) (passed_section x) (record c { due = TypeByte before.Footer })
late_passed_front c (CommandOf x) machine is = late_command_front c x machine is
late_passed_front c (EarlyOf e) machine is =
    Front-append _ _ _ _ _ (passed_type_front c before.Footer full_type machine is.0 refl) (early_front c before.Footer e is.1)

-- where the next type byte stands after what is passed over
abbrev pub behind_passed : Before → List PassedSection → Before
behind_passed b [] = b
behind_passed b (x ∷ xs) = behind_passed (after_command b) xs

-- START is still to come
abbrev pub IsOpening : Before → Type 0
IsOpening b = is_before_start (after_command b) ≡ true

opening_stays : (b : Before) → IsOpening b → IsOpening (after_command b)
opening_stays before.FileHeader is = refl
opening_stays before.Configuration is = refl
opening_stays before.Command is = refl
opening_stays before.Footer is = absurd cc
opening_stays before.LastFooter is = absurd cc

-- a COMMAND may stand there, and a device's section
record MayOpen (kind : Section) (b : Before) : Type 0 where
  has_command : may_pass kind b command_type ≡ true
  has_device : may_pass kind b full_type ≡ true

may_open : (kind : Section) (b : Before) → IsOpening b → MayOpen kind b
may_open kind before.FileHeader is = record { has_command = refl; has_device = refl }
may_open kind before.Configuration is = record { has_command = refl; has_device = refl }
may_open kind before.Command is = record { has_command = refl; has_device = refl }
may_open kind before.Footer is = absurd cc
may_open kind before.LastFooter is = absurd cc

-- one of them in front of START
opening_front : (c : StreamProgress) (b : Before) (x : PassedSection) → is_machine c.frame ≡ true → IsOpening b → IsPassedSection true x
    → (is_addressed c.form && (is_before_start (after_command b) && has_advise x)) ≡ false
    → Front (record c { due = TypeByte b }) (passed_section x)
    (record c { due = TypeByte (after_command b); form = cond (has_advise x) Sized c.form })
opening_front c b (CommandOf x) machine opening is fits =
    subst (λ (early : Bool). Front (record c { due = TypeByte b }) (command x)
    (record c { due = TypeByte (after_command b); form = cond (early && is_advise x) Sized c.form })) opening
    (command_front c b x machine (may_open c.section b opening).has_command is fits)
opening_front c b (EarlyOf e) machine opening is fits =
    Front-append _ _ _ _ _ (passed_type_front c b full_type machine (may_open c.section b opening).has_device refl)
    (early_front c (after_command b) e is.1)

-- what is passed over in front of START is read without a fault
pub openings_front : (c : StreamProgress) (b : Before) (xs : List PassedSection) → is_machine c.frame ≡ true
    → IsOpening b → AllByRecursion (IsPassedSection true) xs
    → (is_addressed c.form ≡ true → list_any has_advise xs ≡ false)
    → Front (record c { due = TypeByte b }) (flat_map passed_section xs)
    (record c { due = TypeByte (behind_passed b xs); form = cond (list_any has_advise xs) Sized c.form })
openings_front c b [] machine opening is one = Front-none (record c { due = TypeByte b })
openings_front c b (x ∷ xs) machine opening is one =
    let a : Bool = has_advise x in
    let others : Bool = list_any has_advise xs in
    let d : StreamProgress = record c { form = cond a Sized c.form } in
    let first : Front (record c { due = TypeByte b }) (passed_section x) (record d { due = TypeByte (after_command b) }) =
    opening_front c b x machine opening is.0 (first_fits (is_addressed c.form) a others (is_before_start (after_command b)) one) in
    let rest = openings_front d (after_command b) xs machine (opening_stays b opening) is.1 (others_fit c.form a others one) in
    subst (λ (form : EntryForm). Front (record c { due = TypeByte b }) (flat_map passed_section (x ∷ xs))
    (record c { due = TypeByte (behind_passed b (x ∷ xs)); form = form })) (twice a others Sized c.form)
    (Front-append _ _ _ _ _ first rest)

-- ---- subsections

-- the name and version of a subsection say what it is
name_told : (kind : Subsection) → subsection_of (id_in (subsection_head kind)) ≡ Some kind
unfolding subsection_name
name_told kind.PageBits = refl
name_told kind.Uuid = refl
name_told kind.Capabilities = refl

head_whole : (kind : Subsection) → length (subsection_head kind) ≡ 5 + length (subsection_name kind)
unfolding subsection_name
head_whole kind.PageBits = refl
head_whole kind.Uuid = refl
head_whole kind.Capabilities = refl

version_told : (kind : Subsection) → be32_at (1 + length (subsection_name kind)) (subsection_head kind) ≡ subsection_version
unfolding subsection_name be32_at
version_told kind.PageBits = refl
version_told kind.Uuid = refl
version_told kind.Capabilities = refl

head_front : (c : StreamProgress) (kind : Subsection)
    → Front (record c { due = Passed item.SubsectionHead }) (subsection_head kind) (record c { due = Passed (item.SubsectionBody kind) })
head_front c kind =
    let d : StreamProgress = record c { due = Passed item.SubsectionHead } in
    let new : after d (subsection_head kind) ≡ record c { due = Passed (item.SubsectionBody kind) } =
    ap (λ (o : Option Subsection). record c { due = body_of o }) (name_told kind) in
    subst (λ (x : StreamProgress). Front d (subsection_head kind) x) new
    (item_front d (subsection_head kind) (λ e. absurd cc) (head_whole kind) (rw (name_told kind, version_told kind) refl))

-- the names of capabilities
names_front : (c : StreamProgress) (names : List (List ℕ)) → AllByRecursion IsCapability names
    → Front (record c { due = capabilities_due (length names) }) (flat_map counted names)
    (record c { due = TypeByte before.Configuration; form = cond (ignore_shared_in names) Addressed c.form })
names_front c [] is = Front-none (record c { due = TypeByte before.Configuration })
names_front c (name ∷ names) is =
    let n : ℕ = length names in
    let shared : Bool = bytes_eq name ignore_shared in
    let after_name : StreamProgress = record c { form = cond shared Addressed c.form } in
    let some : eqb (length (name ∷ names)) 0 ≡ false = ne_eqb _ _ (λ e. omega (arith, e)) in
    let cut : 1 + length name - 1 ≡ length name = omega arith in
    let own : id_in (counted name) ≡ name = ap (λ (k : ℕ). take k name) cut ∙ ap (take (length name)) (sym (append-nil name))
    ∙ take_at name [] (length name) refl in
    let d : StreamProgress = record c { due = Passed (item.Capability n) } in
    let free : first_fault d (counted name) ≡ None = rw (own, is.0.isnt_mapped) refl in
    let new : after d (counted name) ≡ record after_name { due = capabilities_due n } =
    ap (λ (id : List ℕ). record c { due = capabilities_due n; form = cond (bytes_eq id ignore_shared) Addressed c.form }) own in
    let one : Front d (counted name) (record after_name { due = capabilities_due n }) =
    subst (λ (x : StreamProgress). Front d (counted name) x) new (item_front d (counted name) (λ e. absurd cc) (omega arith) free) in
    let less : length (name ∷ names) - 1 ≡ n = omega arith in
    let same : capabilities_due (length (name ∷ names)) ≡ Passed (item.Capability n) =
    ap (λ (x : Bool). cond x (TypeByte before.Configuration) (Passed (item.Capability (length (name ∷ names) - 1)))) some
    ∙ ap (λ (k : ℕ). Passed (item.Capability k)) less in
    let first : Front (record c { due = capabilities_due (length (name ∷ names)) }) (counted name) (record after_name { due = capabilities_due n }) =
    subst (λ (x : Due). Front (record c { due = x }) (counted name) (record after_name { due = capabilities_due n })) (sym same) one in
    subst (λ (form : EntryForm). Front (record c { due = capabilities_due (length (name ∷ names)) })
    (flat_map counted (name ∷ names)) (record c { due = TypeByte before.Configuration; form = form }))
    (twice shared (ignore_shared_in names) Addressed c.form) (Front-append _ _ _ _ _ first (names_front after_name names is.1))

-- what a subsection holds
held_front : (c : StreamProgress) (h : SubsectionBody) → IsSubsectionBody c.page_size h
    → Front (record c { due = Passed (item.SubsectionBody (kind_of h)) }) (body_bytes h)
    (record c { due = TypeByte before.Configuration; form = cond (names_shared h) Addressed c.form })
held_front c (PageBits bits) is =
    let same : 2 ^ be32_at 0 (be32 bits) ≡ c.page_size = ap (λ (n : ℕ). 2 ^ n) (be32_back bits is.0) ∙ is.1 in
    let free : first_fault (record c { due = Passed (item.SubsectionBody kind.PageBits) }) (be32 bits) ≡ None = rw (eq-eqb _ _ same) refl in
    item_front (record c { due = Passed (item.SubsectionBody kind.PageBits) }) (be32 bits) (λ e. absurd cc) refl free
held_front c (Uuid uuid) is = item_front (record c { due = Passed (item.SubsectionBody kind.Uuid) }) uuid (λ e. absurd cc) is refl
held_front c (Capabilities names) is =
    let d : StreamProgress = record c { due = Passed (item.SubsectionBody kind.Capabilities) } in
    let new : after d (be32 (length names)) ≡ record c { due = capabilities_due (length names) } =
    ap (λ (n : ℕ). record c { due = capabilities_due n }) (be32_back (length names) is.0) in
    let count : Front d (be32 (length names)) (record c { due = capabilities_due (length names) }) =
    subst (λ (x : StreamProgress). Front d (be32 (length names)) x) new (item_front d (be32 (length names)) (λ e. absurd cc) refl refl) in
    Front-append _ _ _ _ _ count (names_front c names is.1)

-- a subsection, after the configuration
subsection_front : (c : StreamProgress) (h : SubsectionBody) → is_machine c.frame ≡ true → IsSubsectionBody c.page_size h
    → Front (record c { due = TypeByte before.Configuration }) (subsection h)
    (record c { due = TypeByte before.Configuration; form = cond (names_shared h) Addressed c.form })
subsection_front c h machine is =
    Front-append _ _ _ _ _ (passed_type_front c before.Configuration subsection_type machine refl refl)
    (Front-append _ _ _ _ _ (head_front c (kind_of h)) (held_front c h is))

-- subsections of a configuration are read without a fault
pub subsections_front : (c : StreamProgress) (hs : List SubsectionBody) → is_machine c.frame ≡ true → AllByRecursion (IsSubsectionBody c.page_size) hs
    → Front (record c { due = TypeByte before.Configuration }) (flat_map subsection hs)
    (record c { due = TypeByte before.Configuration; form = cond (list_any names_shared hs) Addressed c.form })
subsections_front c [] machine is = Front-none (record c { due = TypeByte before.Configuration })
subsections_front c (h ∷ hs) machine is =
    let d : StreamProgress = record c { form = cond (names_shared h) Addressed c.form } in
    subst (λ (form : EntryForm). Front (record c { due = TypeByte before.Configuration }) (flat_map subsection (h ∷ hs))
    (record c { due = TypeByte before.Configuration; form = form }))
    (twice (names_shared h) (list_any names_shared hs) Addressed c.form)
    (Front-append _ _ _ _ _ (subsection_front c h machine is.0) (subsections_front d hs machine is.1))
