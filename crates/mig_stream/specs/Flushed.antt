-- A main stream whose EOS ends a round too, beside the same stream with a FLUSH before each EOS.
use Rattle.std.specs.Prelude.{◌≡◌, ◌≢◌, ℕ, ◌+◌, ◌*◌, ◌%◌, Bool, true, false, not, ◌&&◌, List, [], ◌∷◌, ◌++◌, length, Option, Some, None, ◌≤◌, ◌<◌, ◌^◌, All}
use Rattle.std.specs.List.{concat}
use Rattle.mig_mem.specs.PageSize.{IsPageSize}
use Rattle.mig_stream.specs.declared.item.Mode.TheVariants.{Main, MainBySection}
use Rattle.mig_stream.specs.declared.item.Due.{Due}
use Rattle.mig_stream.specs.declared.item.Due.TheVariants.{RecordHead, PageSize}
use Rattle.mig_stream.specs.declared.item.RecordKind.{RecordKind}
use Rattle.mig_stream.specs.declared.item.RecordKind.TheVariants.{SizeList, Named, Continued, EndOfSection, Flush}
use Rattle.mig_stream.specs.declared.item.StreamState.TheVariants.{Closed, Bad}
use Rattle.mig_stream.specs.declared.fault.StreamFault.TheVariants.{Tail}
use Rattle.mig_stream.specs.Fields.{be64, be64_at}
use Rattle.mig_stream.specs.Format.{flags_of}
use Rattle.mig_stream.specs.Progress.{StreamProgress, start}
use Rattle.mig_stream.specs.Items.{is_page_size, record_kind, after}
use Rattle.mig_stream.specs.Reading.{Settings, StreamReading, IsReading}
use Rattle.mig_stream.specs.Reader.{IsValidUpTo}

abbrev pub is_eos_kind : Option RecordKind → Bool
is_eos_kind None = false
is_eos_kind (Some SizeList) = false
is_eos_kind (Some (Named filling)) = false
is_eos_kind (Some (Continued filling)) = false
is_eos_kind (Some EndOfSection) = true
is_eos_kind (Some Flush) = false

-- the item is an EOS, if this kind of item is due
abbrev pub is_eos : ℕ → Due → List ℕ → Bool
is_eos page_size RecordHead item = is_eos_kind (record_kind (be64_at 0 item % page_size))
is_eos page_size (PageSize true) item = not (is_page_size item) && is_eos_kind (record_kind (be64_at 0 item % page_size))
is_eos page_size other item = false

abbrev pub flush_before : Bool → List ℕ
flush_before true = be64 (flags_of Flush)
flush_before false = []

-- the bytes of these items, with a FLUSH before each EOS
abbrev pub flushed : StreamProgress → List (List ℕ) → List ℕ
flushed c [] = []
flushed c (item ∷ items) = (flush_before (is_eos c.page_size c.due item) ++ item) ++ flushed (after c item) items

-- how many of these items are an EOS
abbrev pub one_if : Bool → ℕ
one_if true = 1
one_if false = 0

abbrev pub eos_count : StreamProgress → List (List ℕ) → ℕ
eos_count c [] = 0
eos_count c (item ∷ items) = one_if (is_eos c.page_size c.due item) + eos_count (after c item) items

abbrev pub from : Settings → StreamProgress
from given = start given.frame given.mode given.page_size given.limit given.waiting

-- these settings, for a main stream whose rounds end with a FLUSH alone
abbrev pub by_flush : Settings → Settings
by_flush given = record given { mode = Main }

-- The items that are read of the stream, and the bytes left. With a FLUSH before each EOS they have
-- the same reading, by FLUSH alone. They are valid up to the same item: 8 bytes further for each
-- EOS before it.
pub record IsFlushed (given : Settings) (text : List ℕ) (reading : StreamReading) : Type 0 where
  pub items : List (List ℕ)
  pub rest : List ℕ
  pub has_text : text ≡ concat items ++ rest
  pub is_valid_up_to : IsValidUpTo given text (length (concat items))
  pub is_reading : IsReading (by_flush given) (flushed (from given) items ++ rest) reading
  pub is_flushed_up_to : IsValidUpTo (by_flush given) (flushed (from given) items ++ rest) (length (concat items) + 8 * eos_count (from given) items)

-- A main stream whose EOS ends a round is read as the same stream with a FLUSH before each EOS is
-- by FLUSH alone: its table, its rounds and its state are the same.
abbrev pub SectionsAreFlushed : Type 0
SectionsAreFlushed = (given : Settings) (text : List ℕ) (reading : StreamReading) → given.mode ≡ MainBySection → IsPageSize given.page_size
    → IsReading given text reading → IsFlushed given text reading

-- In such a stream no page record is without an end of its round: fault 33 doesn't occur.
abbrev pub SectionsHaveNoTail : Type 0
SectionsHaveNoTail = (given : Settings) (text : List ℕ) (reading : StreamReading) → given.mode ≡ MainBySection → IsReading given text reading → reading.state ≢ Bad Tail

-- these settings, for a main stream each of whose EOS ends a round too
abbrev pub by_section : Settings → Settings
by_section given = record given { mode = MainBySection }

-- A stream that is closed whatever ends its rounds has more of them, if each EOS ends one: at least
-- START's and END's. So no channel, whose rounds its own bytes end, has as many rounds as both.
abbrev pub SectionsAreMore : Type 0
SectionsAreMore = (given : Settings) (text : List ℕ) (by_flushes by_sections : StreamReading) → IsPageSize given.page_size → given.limit ≤ 2 ^ 40 → All (λ byte. byte < 2 ^ 8) text
    → IsReading (by_flush given) text by_flushes → by_flushes.state ≡ Closed → IsReading (by_section given) text by_sections → by_sections.state ≡ Closed
    → length by_flushes.rounds + 2 ≤ length by_sections.rounds
