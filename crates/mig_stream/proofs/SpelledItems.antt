-- What is spelled is read as one item: file header, configuration, heads, type bytes, and footer.
use Rattle.std.proofs.Common.{◌≡◌, ◌≢◌, ◌⊎◌, ℕ, ◌+◌, ◌*◌, ◌/◌, ◌%◌, ◌^◌, ◌<◌, ◌≤◌, Bool, true, false, cond, eqb, ltb, List, [], ◌∷◌, ◌++◌, length, Option, Some}
use Rattle.std.proofs.Common.{None, refl, sym, ap, subst, ◌∙◌, inl, inr, arith}
use Rattle.std.specs.Prelude.{not, ◌&&◌, IfSome}
use Rattle.std.specs.Int.{w32, w64, to_be_bytes}
use Rattle.std.proofs.lemmas.List.{drop_at}
use Rattle.std.proofs.Math.Nat.{add-sub_cancel_left}
use Rattle.std.proofs.lemmas.Nat.{from_be_bytes-to_be_bytes_4, from_be_bytes-to_be_bytes_8, div-mul-add, mod-mul-add}
use Rattle.std.proofs.lemmas.Bool.{eq-eqb, ne_eqb, le-ltb}
use Rattle.mig_mem.specs.PageSize.{IsPageSize}
use Rattle.mig_stream.specs.declared.item.Mode.{Mode}
use Rattle.mig_stream.specs.declared.item.Section.{Section}
use Rattle.mig_stream.specs.declared.item.Section.TheVariants as sections
use Rattle.mig_stream.specs.declared.item.Before.{Before}
use Rattle.mig_stream.specs.declared.item.Before.TheVariants as before
use Rattle.mig_stream.specs.declared.item.Filling.TheVariants.{Zero, Normal}
use Rattle.mig_stream.specs.declared.item.RecordKind.{RecordKind}
use Rattle.mig_stream.specs.declared.item.RecordKind.TheVariants.{SizeList, Named, Continued, EndOfSection, Flush}
use Rattle.mig_stream.specs.declared.item.Due.TheVariants.{FileHeader, TypeByte, ConfigLength, ConfigName, StartHead, SectionHead, RecordHead, Footer, Passed}
use Rattle.mig_stream.specs.declared.item.Due.TheVariants.{Nothing}
use Rattle.mig_stream.specs.declared.fault.StreamFault.TheVariants as fault
use Rattle.mig_stream.specs.Fields.{be32, be64, counted, be32_at, be64_at}
use Rattle.mig_stream.specs.Format.{end_byte, section_type, configuration_type, ram_name, ram_instance, ram_version, flags_of, most_name_bytes}
use Rattle.mig_stream.specs.PageRecord.{PageRecord}
use Rattle.mig_stream.specs.Progress.{StreamProgress}
use Rattle.mig_mem.specs.First.{first_of}
use Rattle.mig_stream.specs.Items.{size, record_kind, is_single, is_allowed, is_machine, may_pass, is_passed, passed_by, closes, has_tail, kind_faults}
use Rattle.mig_stream.specs.Items.{head_faults, first_fault, after_type, after_kind, after_head, end_section, after}
use Rattle.mig_stream.specs.Reading.{Front}
use Rattle.mig_stream.specs.Text.{file_header, configuration, start_head, footer}
use Rattle.mig_stream.proofs.Fronts.{Front-none, Front-push, Front-append}
use Rattle.mig_stream.proofs.After.{HasNoTail}

-- whole bytes without a fault are a front of one item
pub item_front : (c : StreamProgress) (item : List ℕ) → c.due ≢ Nothing → length item ≡ size c.page_size c.due item
    → first_fault c item ≡ None → Front c item (after c item)
item_front c item open_ whole free = Front-push c c [] item (Front-none c) (record { is_due = open_; is_whole = whole }) free

-- ---- numbers are read as they are spelled

-- four bytes that spell a number, alone
pub be32_back : (n : ℕ) → n < 2 ^ 32 → be32_at 0 (be32 n) ≡ n
unfolding be32_at
be32_back n small = from_be_bytes-to_be_bytes_4 n small

-- and in front of others
pub be32_front : (n : ℕ) (more : List ℕ) → n < 2 ^ 32 → be32_at 0 (be32 n ++ more) ≡ n
unfolding be32_at
be32_front n more small = from_be_bytes-to_be_bytes_4 n small

-- and in a footer, after its type
pub be32_footer : (n : ℕ) → n < 2 ^ 32 → be32_at 1 (footer n) ≡ n
unfolding be32_at
be32_footer n small = from_be_bytes-to_be_bytes_4 n small

-- eight bytes that spell a number, alone
pub be64_back : (n : ℕ) → n < 2 ^ 64 → be64_at 0 (be64 n) ≡ n
unfolding be64_at
be64_back n small = from_be_bytes-to_be_bytes_8 n small

-- a number of four bytes after other bytes
pub be32_behind : (front : List ℕ) (at n : ℕ) → length front ≡ at → n < 2 ^ 32 → be32_at at (front ++ be32 n) ≡ n
unfolding be32_at
be32_behind front at n len small =
    rw (drop_at front (to_be_bytes w32 n) at len, add-sub_cancel_left at 4) (from_be_bytes-to_be_bytes_4 n small)

-- a number after other bytes
pub be64_behind : (front : List ℕ) (at n : ℕ) → length front ≡ at → n < 2 ^ 64 → be64_at at (front ++ be64 n) ≡ n
unfolding be64_at
be64_behind front at n len small =
    rw (drop_at front (to_be_bytes w64 n) at len, add-sub_cancel_left at 8) (from_be_bytes-to_be_bytes_8 n small)

-- ---- record heads

-- the flags of a kind name it
kind_of_flags : (kind : RecordKind) → record_kind (flags_of kind) ≡ Some kind
kind_of_flags SizeList = refl
kind_of_flags (Named Zero) = refl
kind_of_flags (Named Normal) = refl
kind_of_flags (Continued Zero) = refl
kind_of_flags (Continued Normal) = refl
kind_of_flags EndOfSection = refl
kind_of_flags Flush = refl

-- the flags of each kind are below the smaller page size
pub flags_small : (kind : RecordKind) → flags_of kind < 4096
flags_small SizeList = omega arith
flags_small (Named Zero) = omega arith
flags_small (Named Normal) = omega arith
flags_small (Continued Zero) = omega arith
flags_small (Continued Normal) = omega arith
flags_small EndOfSection = omega arith
flags_small Flush = omega arith

-- a page size is 4096 at least
pub page_size_large : (size : ℕ) → IsPageSize size → 4096 ≤ size
page_size_large size is = elim is [ inl e ↦ omega arith | inr e ↦ omega arith ]

-- a head of a page number and a kind's flags
pub head_front : (c : StreamProgress) (kind : RecordKind) (page : ℕ) → IsPageSize c.page_size → page * c.page_size + flags_of kind < 2 ^ 64
    → first_of (kind_faults (record c { due = RecordHead }) kind page) ≡ None
    → Front (record c { due = RecordHead }) (be64 (page * c.page_size + flags_of kind)) (after_kind (record c { due = RecordHead }) kind page)
head_front c kind page is small none =
    let head : List ℕ = be64 (page * c.page_size + flags_of kind) in
    let below : flags_of kind < c.page_size = omega (arith, flags_small kind, page_size_large c.page_size is) in
    let value : be64_at 0 head ≡ page * c.page_size + flags_of kind = be64_back (page * c.page_size + flags_of kind) small in
    let flags : be64_at 0 head % c.page_size ≡ flags_of kind = ap (λ (x : ℕ). x % c.page_size) value ∙ mod-mul-add page c.page_size (flags_of kind) below in
    let number : be64_at 0 head / c.page_size ≡ page = ap (λ (x : ℕ). x / c.page_size) value ∙ div-mul-add page c.page_size (flags_of kind) below in
    let d : StreamProgress = record c { due = RecordHead } in
    let kind_is : record_kind (be64_at 0 head % c.page_size) ≡ Some kind = ap record_kind flags ∙ kind_of_flags kind in
    let free : first_fault d head ≡ None =
    ap (λ (x : Option RecordKind). first_of (head_faults d (be64_at 0 head % c.page_size) x (be64_at 0 head / c.page_size))) kind_is
    ∙ ap (λ (x : ℕ). first_of (kind_faults d kind x)) number ∙ none in
    let new : after d head ≡ after_kind d kind page =
    ap (λ (x : Option RecordKind). after_head d x (be64_at 0 head / c.page_size)) kind_is ∙ ap (λ (x : ℕ). after_kind d kind x) number in
    subst (λ (x : StreamProgress). Front d head x) new (item_front d head (λ e. absurd cc) refl free)

-- a head of flags alone
pub bare_front : (c : StreamProgress) (kind : RecordKind) → IsPageSize c.page_size → first_of (kind_faults (record c { due = RecordHead }) kind 0) ≡ None
    → Front (record c { due = RecordHead }) (be64 (flags_of kind)) (after_kind (record c { due = RecordHead }) kind 0)
bare_front c kind is none =
    let d : StreamProgress = record c { due = RecordHead } in
    let no_page : 0 * c.page_size + flags_of kind ≡ flags_of kind = omega arith in
    subst (λ (n : ℕ). Front d (be64 n) (after_kind d kind 0)) no_page (head_front c kind 0 is (omega (arith, flags_small kind)) none)

-- ---- type bytes, heads of sections, and footers

-- a type byte that is allowed there, but the end byte
pub type_front : (c : StreamProgress) (b : Before) (byte : ℕ) → is_allowed b byte ≡ true → may_pass c.section b byte ≡ false → eqb byte end_byte ≡ false
    → Front (record c { due = TypeByte b }) (byte ∷ []) (after_type (record c { due = TypeByte b }) byte)
type_front c b byte allowed own other =
    let d : StreamProgress = record c { due = TypeByte b } in
    let passed : is_passed c.frame c.section b byte ≡ false = ap (λ (x : Bool). x && is_machine c.frame) own in
    let new : after d (byte ∷ []) ≡ after_type d byte = ap (λ (x : Bool). cond x (record d { due = Passed (passed_by b byte) }) (after_type d byte)) passed in
    subst (λ (x : StreamProgress). Front d (byte ∷ []) x) new (item_front d (byte ∷ []) (λ e. absurd cc) refl (rw (allowed, other) refl))

-- the head of a PART or END, with START's section id
pub section_front : (c : StreamProgress) → c.section_id < 2 ^ 32 → Front (record c { due = SectionHead }) (be32 c.section_id) (record c { due = RecordHead })
section_front c small =
    let same : eqb (be32_at 0 (be32 c.section_id)) c.section_id ≡ true = eq-eqb _ _ (be32_back c.section_id small) in
    item_front (record c { due = SectionHead }) (be32 c.section_id) (λ e. absurd cc) refl (rw same refl)

-- a footer, with START's section id
pub footer_front : (c : StreamProgress) → c.section_id < 2 ^ 32 → has_tail (closes c.frame c.section) c ≡ false
    → Front (record c { due = Footer }) (footer c.section_id) (end_section c)
footer_front c small whole =
    let same : eqb (be32_at 1 (footer c.section_id)) c.section_id ≡ true = eq-eqb _ _ (be32_footer c.section_id small) in
    item_front (record c { due = Footer }) (footer c.section_id) (λ e. absurd cc) refl (rw (same, whole) refl)

-- ---- the end byte

-- a single stream, or one without records left, has no tail
no_tail : (single empty : Bool) → (single ≡ true) ⊎ (empty ≡ true) → (true && not single && not empty) ≡ false
no_tail true empty h = refl
no_tail false true h = refl
no_tail false false (inl e) = absurd cc
no_tail false false (inr e) = absurd cc

-- if no record is left, their number is 0
is_empty : (mode : Mode) (records : List PageRecord) → HasNoTail mode records → (is_single mode ≡ true) ⊎ (eqb (length records) 0 ≡ true)
is_empty mode records (inl e) = inl e
is_empty mode records (inr e) = inr (ap (λ (x : List PageRecord). eqb (length x) 0) e)

-- the end byte, if no record is left that no FLUSH followed
pub end_front : (c : StreamProgress) → HasNoTail c.mode c.records
    → Front (record c { due = TypeByte before.LastFooter }) (end_byte ∷ []) (record c { due = Nothing })
end_front c none =
    let free = no_tail (is_single c.mode) (eqb (length c.records) 0) (is_empty c.mode c.records none) in
    item_front (record c { due = TypeByte before.LastFooter }) (end_byte ∷ []) (λ e. absurd cc) refl
    (ap (λ (x : Bool). first_of ((false, fault.SectionType) ∷ (x, fault.Tail) ∷ [])) free)

-- ---- what stands before the size list

-- the magic and the version
pub header_front : (c : StreamProgress) → Front (record c { due = FileHeader }) file_header (record c { due = TypeByte before.FileHeader })
unfolding be32_at file_header
header_front c = item_front (record c { due = FileHeader }) file_header (λ e. absurd cc) refl refl

-- the length of a configuration's name
pub length_front : (c : StreamProgress) (len : ℕ) → len ≤ most_name_bytes
    → Front (record c { due = ConfigLength }) (be32 len) (record c { due = cond (eqb len 0) (TypeByte before.Configuration) (ConfigName len) })
length_front c len small =
    let item : List ℕ = be32 len in
    let d : StreamProgress = record c { due = ConfigLength } in
    let value : be32_at 0 item ≡ len = be32_back len (omega arith) in
    let few : ltb most_name_bytes len ≡ false = le-ltb _ _ small in
    let free : first_fault d item ≡ None = rw (value, few) refl in
    let new : after d item ≡ record c { due = cond (eqb len 0) (TypeByte before.Configuration) (ConfigName len) } = rw value refl in
    subst (λ (x : StreamProgress). Front d item x) new (item_front d item (λ e. absurd cc) refl free)

-- a configuration's name: an item, or nothing where it has no bytes
pub name_front : (c : StreamProgress) (name : List ℕ)
    → Front (record c { due = cond (eqb (length name) 0) (TypeByte before.Configuration) (ConfigName (length name)) }) name
    (record c { due = TypeByte before.Configuration })
name_front c [] = Front-none (record c { due = TypeByte before.Configuration })
name_front c (byte ∷ name) =
    let n : ℕ = length (byte ∷ name) in
    let some : eqb n 0 ≡ false = ne_eqb n 0 (λ e. omega arith) in
    subst (λ (x : Bool). Front (record c { due = cond x (TypeByte before.Configuration) (ConfigName n) }) (byte ∷ name)
    (record c { due = TypeByte before.Configuration })) (sym some)
    (item_front (record c { due = ConfigName n }) (byte ∷ name) (λ e. absurd cc) refl refl)

-- where START's type byte may stand
abbrev before_start : Option (List ℕ) → Before
before_start None = before.FileHeader
before_start (Some name) = before.Configuration

-- a whole configuration, or none
pub configuration_front : (c : StreamProgress) (name : Option (List ℕ)) → IfSome name (λ bytes. length bytes ≤ most_name_bytes)
    → Front (record c { due = TypeByte before.FileHeader }) (configuration name) (record c { due = TypeByte (before_start name) })
configuration_front c None small = Front-none (record c { due = TypeByte before.FileHeader })
configuration_front c (Some name) small =
    Front-append _ _ _ _ _ (type_front c before.FileHeader configuration_type refl refl refl)
    (Front-append _ _ _ _ _ (length_front c (length name) small) (name_front c name))

-- START's head after its type byte
abbrev head_bytes : ℕ → List ℕ
head_bytes id = be32 id ++ counted ram_name ++ be32 ram_instance ++ be32 ram_version

-- START's head has no fault: its name, instance and version are RAM's
start_free : (c : StreamProgress) (id : ℕ) → first_fault (record c { due = StartHead }) (head_bytes id) ≡ None
unfolding be32_at
start_free c id = refl

-- and it says START's section id
pub start_front : (c : StreamProgress) (id : ℕ) → id < 2 ^ 32
    → Front (record c { due = StartHead }) (head_bytes id) (record c { due = RecordHead; section_id = id })
start_front c id small =
    let item : List ℕ = head_bytes id in
    let d : StreamProgress = record c { due = StartHead } in
    let value : be32_at 0 item ≡ id = be32_front id (counted ram_name ++ be32 ram_instance ++ be32 ram_version) small in
    let new : after d item ≡ record c { due = RecordHead; section_id = id } = rw value refl in
    subst (λ (x : StreamProgress). Front d item x) new (item_front d item (λ e. absurd cc) refl (start_free c id))

-- START's type byte may stand after a configuration, and where there is none
start_allowed : (kind : Section) (name : Option (List ℕ))
    → (is_allowed (before_start name) (section_type sections.Start) ≡ true) × (may_pass kind (before_start name) (section_type sections.Start) ≡ false)
start_allowed kind None = (refl, refl)
start_allowed kind (Some name) = (refl, refl)

-- all that stands before the size list
pub opening_front : (c : StreamProgress) (name : Option (List ℕ)) (id : ℕ) → IfSome name (λ bytes. length bytes ≤ most_name_bytes) → id < 2 ^ 32
    → Front (record c { due = FileHeader }) (file_header ++ configuration name ++ start_head id)
    (record c { due = RecordHead; section = sections.Start; section_id = id })
opening_front c name id short small =
    let d : StreamProgress = record c { section = sections.Start } in
    let first : Front (record c { due = TypeByte (before_start name) }) (section_type sections.Start ∷ []) (record d { due = StartHead }) =
    type_front c (before_start name) (section_type sections.Start) (start_allowed c.section name).0 (start_allowed c.section name).1 refl in
    Front-append _ _ _ _ _ (Front-append _ _ _ _ _ (header_front c) (configuration_front c name short)) (Front-append _ _ _ _ _ first (start_front d id small))
