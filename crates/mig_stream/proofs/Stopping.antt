-- Where RAM is over before an item: the type byte of a device's section, after a PART of a
-- background snapshot.
use Rattle.std.proofs.Common.{◌≡◌, ℕ, zero, suc, ◌<◌, Bool, true, false, cond, eqb, List, [], ◌∷◌, ◌++◌, length, get_or, Some, refl, sym, ap, ◌∙◌, inl, inr}
use Rattle.std.proofs.Common.{arith}
use Rattle.std.specs.Prelude.{◌&&◌, ◌||◌, not}
use Rattle.std.proofs.lemmas.Bool.{and_parts, eqb-true}
use Rattle.mig_stream.specs.declared.item.Frame.{Frame}
use Rattle.mig_stream.specs.declared.item.Mode.{Mode}
use Rattle.mig_stream.specs.declared.item.Section.{Section}
use Rattle.mig_stream.specs.declared.item.Section.TheVariants as section
use Rattle.mig_stream.specs.declared.item.Before.TheVariants as before
use Rattle.mig_stream.specs.declared.item.Due.{Due}
use Rattle.mig_stream.specs.declared.item.Due.TheVariants.{FileHeader, TypeByte, ConfigLength, ConfigName, StartHead, SectionHead, RecordHead, ListEntry}
use Rattle.mig_stream.specs.declared.item.Due.TheVariants.{PageSize, BlockName, Content, Footer, Passed, Nothing}
use Rattle.mig_stream.specs.declared.item.StreamState.TheVariants.{Closed, Bad}
use Rattle.mig_stream.specs.declared.fault.StreamFault.{StreamFault}
use Rattle.mig_stream.specs.declared.fault.StreamFault.TheVariants as fault
use Rattle.mig_stream.specs.Format.{end_byte, full_type}
use Rattle.mig_stream.specs.Progress.{StreamProgress}
use Rattle.mig_mem.specs.First.{first_of}
use Rattle.mig_stream.specs.Items.{size, is_single, is_machine, is_start, is_part, ends_before, is_over, is_allowed, is_passed, has_tail, faults, first_fault}
use Rattle.mig_stream.specs.Reading.{IsItem, Ends, stopped}
use Rattle.mig_stream.specs.Reader.{IsUnfinished}

-- what is so where RAM is over before an item
pub record OverAt (frame : Frame) (mode : Mode) (kind : Section) (d : Due) (item : List ℕ) : Type 0 where
  pub is_type : d ≡ TypeByte before.Footer
  pub in_machine : is_machine frame ≡ true
  pub in_single : is_single mode ≡ true
  pub behind_part : is_part kind ≡ true
  pub is_full : get_or item 0 0 ≡ full_type

pub over_at : (frame : Frame) (mode : Mode) (kind : Section) (d : Due) (item : List ℕ) → ends_before frame mode kind d item ≡ true
    → OverAt frame mode kind d item
over_at frame mode kind FileHeader item e = absurd cc
over_at frame mode kind (TypeByte before.FileHeader) item e = absurd cc
over_at frame mode kind (TypeByte before.Configuration) item e = absurd cc
over_at frame mode kind (TypeByte before.Command) item e = absurd cc
over_at frame mode kind (TypeByte before.Footer) item e =
    let both = and_parts (is_machine frame && is_single mode) (is_part kind && eqb (get_or item 0 0) full_type) e in
    let one = and_parts (is_machine frame) (is_single mode) both.0 in
    let two = and_parts (is_part kind) (eqb (get_or item 0 0) full_type) both.1 in
    record { is_type = refl; in_machine = one.0; in_single = one.1; behind_part = two.0; is_full = eqb-true _ _ two.1 }
over_at frame mode kind (TypeByte before.LastFooter) item e = absurd cc
over_at frame mode kind ConfigLength item e = absurd cc
over_at frame mode kind (ConfigName len) item e = absurd cc
over_at frame mode kind StartHead item e = absurd cc
over_at frame mode kind SectionHead item e = absurd cc
over_at frame mode kind RecordHead item e = absurd cc
over_at frame mode kind ListEntry item e = absurd cc
over_at frame mode kind (PageSize last) item e = absurd cc
over_at frame mode kind (BlockName filling page) item e = absurd cc
over_at frame mode kind (Content filling place) item e = absurd cc
over_at frame mode kind Footer item e = absurd cc
over_at frame mode kind (Passed passed) item e = absurd cc
over_at frame mode kind Nothing item e = absurd cc

-- an item of which a byte was there before the others isn't a type byte
within_at : (frame : Frame) (mode : Mode) (kind : Section) (d : Due) (p : ℕ) (pending item : List ℕ) → length pending < size p d pending
    → 0 < length pending → ends_before frame mode kind d item ≡ false
within_at frame mode kind FileHeader p pending item lt some = refl
within_at frame mode kind (TypeByte before.FileHeader) p pending item lt some = refl
within_at frame mode kind (TypeByte before.Configuration) p pending item lt some = refl
within_at frame mode kind (TypeByte before.Command) p pending item lt some = refl
within_at frame mode kind (TypeByte before.Footer) p pending item lt some = absurd (omega (arith, lt, some))
within_at frame mode kind (TypeByte before.LastFooter) p pending item lt some = refl
within_at frame mode kind ConfigLength p pending item lt some = refl
within_at frame mode kind (ConfigName len) p pending item lt some = refl
within_at frame mode kind StartHead p pending item lt some = refl
within_at frame mode kind SectionHead p pending item lt some = refl
within_at frame mode kind RecordHead p pending item lt some = refl
within_at frame mode kind ListEntry p pending item lt some = refl
within_at frame mode kind (PageSize last) p pending item lt some = refl
within_at frame mode kind (BlockName filling page) p pending item lt some = refl
within_at frame mode kind (Content filling place) p pending item lt some = refl
within_at frame mode kind Footer p pending item lt some = refl
within_at frame mode kind (Passed passed) p pending item lt some = refl
within_at frame mode kind Nothing p pending item lt some = refl

pub within_item : (c : StreamProgress) (pending item : List ℕ) → IsUnfinished c pending → 0 < length pending → is_over c item ≡ false
within_item c pending item lt some = within_at c.frame c.mode c.section c.due c.page_size pending item lt some

-- bytes that aren't none
pub some_bytes : (b : Bool) (n len : ℕ) → b ≡ eqb n 0 → b ≡ false → n ≡ len → 0 < len
some_bytes b zero len is isnt same = absurd (let clash : true ≡ false = sym is ∙ isnt in cc)
some_bytes b (suc n) len is isnt same = omega (arith, same)

-- what is so of a progress where RAM is over
pub over_is : (c : StreamProgress) (item : List ℕ) → is_over c item ≡ true → OverAt c.frame c.mode c.section c.due item
over_is c item over = over_at c.frame c.mode c.section c.due item over

-- after a PART the section isn't START
part_no_start : (kind : Section) → is_part kind ≡ true → is_start kind ≡ false
part_no_start section.Start e = absurd cc
part_no_start section.Part e = refl
part_no_start section.End e = refl

-- an item before which RAM is over isn't read
pub over_fault : (c : StreamProgress) (item : List ℕ) → is_over c item ≡ true → first_fault c item ≡ Some fault.SectionType
over_fault c item over =
    let at = over_is c item over in
    ap (λ (d : Due). first_of (faults c d item)) at.is_type
    ∙ ap (λ (x : ℕ). first_of ((not (is_allowed before.Footer x || is_passed c.frame c.section before.Footer x), fault.SectionType)
    ∷ (has_tail (eqb x end_byte) c, fault.Tail) ∷ [])) at.is_full
    ∙ ap (λ (x : Bool). first_of ((not (x && is_machine c.frame), fault.SectionType) ∷ (false, fault.Tail) ∷ [])) (part_no_start c.section at.behind_part)

-- a stream that isn't a machine's single one is closed by an item alone
pub closed_due : (c : StreamProgress) (rest : List ℕ) → (is_machine c.frame && is_single c.mode) ≡ false → Ends c rest Closed → c.due ≡ Nothing
closed_due c rest other (inl due) = due
closed_due c rest other (inr over) =
    let at = over_is c over.0 over.4 in
    absurd (no_snapshot (is_machine c.frame) (is_single c.mode) at.in_machine at.in_single other)
  where
    no_snapshot : (m s : Bool) → m ≡ true → s ≡ true → (m && s) ≡ false → ⊥
    no_snapshot true true e f other = absurd cc
    no_snapshot true false e f other = absurd cc
    no_snapshot false s e f other = absurd cc

-- a stream whose next item has a fault is bad, or closed where RAM is over before it
pub stops : (c : StreamProgress) (item more rest : List ℕ) (f : StreamFault) → rest ≡ item ++ more → IsItem c.page_size c.due item
    → first_fault c item ≡ Some f → Ends c rest (stopped c item f)
stops c item more rest f e is bad = by (is_over c item) refl
  where
    by : (b : Bool) → is_over c item ≡ b → Ends c rest (cond b Closed (Bad f))
    by true over = inr (item, more, e, is, over)
    by false not_over = (item, more, e, is, bad, not_over)
