-- How far a stream has been read after lists of records, and after whole sections.
use Rattle.std.proofs.Common.{Bool, true, false, ◌≡◌, ◌⊎◌, ℕ, Option, List, [], ◌∷◌, ◌++◌, Some, None}
use Rattle.std.specs.List.{AllByRecursion}
use Rattle.mig_stream.specs.declared.item.Mode.{Mode}
use Rattle.mig_stream.specs.declared.item.Due.TheVariants as due
use Rattle.mig_stream.specs.PageRecord.{PageRecord}
use Rattle.mig_stream.specs.Progress.{StreamProgress}
use Rattle.mig_stream.specs.Items.{is_single, is_start, has_none, flush_mode, flush_ends, flush_rounds, less_room, open_records, whole_rounds, end_section}
use Rattle.mig_stream.specs.Items.{end_records, eos_mode, eos_records, eos_rounds}
use Rattle.mig_stream.specs.Text.{Record, PageOf, FlushMark, HasNoFlush, named_after}

-- with any number of page records in the open round
abbrev pub unlimited : StreamProgress → StreamProgress
unlimited c = record c { waiting = None; room = None }

-- after a page record
abbrev pub after_page : StreamProgress → PageRecord → StreamProgress
after_page c r = record c { due = due.RecordHead; named = Some r.place.block; room = less_room c.room; records = c.records ++ r ∷ [] }

-- the records of the round that isn't complete, and the complete rounds, after records
abbrev pub records_after : List PageRecord → List Record → List PageRecord
records_after before [] = before
records_after before (PageOf continued r ∷ rs) = records_after (before ++ r ∷ []) rs
records_after before (FlushMark ∷ rs) = records_after [] rs

abbrev pub rounds_after : Mode → Bool → List PageRecord → List (List PageRecord) → List Record → List (List PageRecord)
rounds_after m in_start before rounds [] = rounds
rounds_after m in_start before rounds (PageOf continued r ∷ rs) = rounds_after m in_start (before ++ r ∷ []) rounds rs
rounds_after m in_start before rounds (FlushMark ∷ rs) =
    rounds_after (flush_mode m in_start (has_none before)) in_start [] (flush_rounds (flush_ends m in_start (has_none before)) rounds before) rs

-- the mode after records, in START or behind it
abbrev pub mode_after : Mode → Bool → List PageRecord → List Record → Mode
mode_after m in_start before [] = m
mode_after m in_start before (PageOf continued r ∷ rs) = mode_after m in_start (before ++ r ∷ []) rs
mode_after m in_start before (FlushMark ∷ rs) = mode_after (flush_mode m in_start (has_none before)) in_start [] rs

-- the room for page records in the round that isn't whole, after records
abbrev pub room_after : Option ℕ → Option ℕ → List Record → Option ℕ
room_after waiting room [] = room
room_after waiting room (PageOf continued r ∷ rs) = room_after waiting (less_room room) rs
room_after waiting room (FlushMark ∷ rs) = room_after waiting waiting rs

abbrev pub after_records : StreamProgress → List Record → StreamProgress
after_records c rs = record c {
  mode = mode_after c.mode (is_start c.section) c.records rs;
  named = named_after c.named rs;
  room = room_after c.waiting c.room rs;
  records = records_after c.records rs;
  rounds = rounds_after c.mode (is_start c.section) c.records c.rounds rs;
}

-- after a section's records, EOS and footer
abbrev pub after_body : StreamProgress → List Record → StreamProgress
after_body c rs = end_section (end_records (after_records c rs))

-- What an EOS and a footer leave of the open round, and of the complete ones, if the mode was `m`
-- before them.
abbrev pub records_left : Mode → Bool → List PageRecord → List PageRecord
records_left m in_start records = open_records (eos_mode m in_start) (eos_records m records)

abbrev pub rounds_left : Mode → Bool → List (List PageRecord) → List PageRecord → List (List PageRecord)
rounds_left m in_start rounds records = whole_rounds (eos_mode m in_start) (eos_rounds m rounds records) (eos_records m records)

-- The mode, the records of the round that isn't complete, and the complete rounds, after sections.
-- The first of them is START, or not.
abbrev pub mode_behind : Mode → Bool → List PageRecord → List (List Record) → Mode
mode_behind m in_start before [] = m
mode_behind m in_start before (rs ∷ sections) =
    mode_behind (eos_mode (mode_after m in_start before rs) in_start) false
    (records_left (mode_after m in_start before rs) in_start (records_after before rs)) sections

abbrev pub records_behind : Mode → Bool → List PageRecord → List (List Record) → List PageRecord
records_behind m in_start before [] = before
records_behind m in_start before (rs ∷ sections) =
    records_behind (eos_mode (mode_after m in_start before rs) in_start) false
    (records_left (mode_after m in_start before rs) in_start (records_after before rs)) sections

abbrev pub rounds_behind : Mode → Bool → List PageRecord → List (List PageRecord) → List (List Record) → List (List PageRecord)
rounds_behind m in_start before rounds [] = rounds
rounds_behind m in_start before rounds (rs ∷ sections) =
    rounds_behind (eos_mode (mode_after m in_start before rs) in_start) false
    (records_left (mode_after m in_start before rs) in_start (records_after before rs))
    (rounds_left (mode_after m in_start before rs) in_start (rounds_after m in_start before rounds rs) (records_after before rs)) sections

-- no FLUSH stands in these sections, or FLUSH is allowed, as it is where the stream isn't single
abbrev pub FlushesFit : Bool → List (List Record) → Type 0
FlushesFit single sections = (single ≡ false) ⊎ AllByRecursion HasNoFlush sections

-- no record is left that no FLUSH followed
abbrev pub HasNoTail : Mode → List PageRecord → Type 0
HasNoTail m records = (is_single m ≡ true) ⊎ (records ≡ [])
