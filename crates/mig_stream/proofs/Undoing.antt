-- How a mark is found again after items.
use Rattle.std.proofs.Common.{◌≡◌, ℕ, suc, ◌<◌, ◌≤◌, List, ◌∷◌, ◌++◌, length, get_or, take, drop, Option, refl, sym, ap, ◌∙◌, inl, inr, arith}
use Rattle.std.specs.List.{remove}
use Rattle.std.proofs.lemmas.List.{length-append, length-take-le, take_at, get_or_at}
use Rattle.mig_mem.specs.RamTable.{Block}
use Rattle.mig_stream.specs.declared.progress.Checkpoint.{Checkpoint}
use Rattle.mig_stream.specs.declared.item.Frame.{Frame}
use Rattle.mig_stream.specs.declared.item.Mode.{Mode}
use Rattle.mig_stream.specs.declared.item.Section.{Section}
use Rattle.mig_stream.specs.declared.item.EntryForm.{EntryForm}
use Rattle.mig_stream.specs.declared.item.Due.{Due}
use Rattle.mig_stream.specs.PageRecord.{PageRecord}
use Rattle.mig_stream.specs.Progress.{StreamProgress}
use Rattle.mig_stream.specs.Later.{checkpoint_of, HasGrown, IsLater}

-- if a round ended after the mark, its first records are those of the mark
pub open_round : (c now : StreamProgress) (n m : ℕ) (x : List PageRecord) (left : List (List PageRecord)) → n ≡ length c.rounds
    → m ≡ length c.records → HasGrown c now → n < length now.rounds
    → x ≡ get_or now.rounds n x → left ≡ take n (remove now.rounds n) → (take m x ≡ c.records) × (left ≡ c.rounds)
open_round c now n m x left n_is m_is (inl h) lt is left_is = absurd (omega (arith, ap length h.0))
open_round c now n m x left n_is m_is (inr h) lt is left_is =
    let ended : x ≡ c.records ++ h.0 = is ∙ ap (λ (r : List (List PageRecord)). get_or r n x) h.2 ∙ get_or_at c.rounds (c.records ++ h.0) h.1 x n (sym n_is) in
    let front : take n now.rounds ≡ c.rounds = ap (take n) h.2 ∙ take_at c.rounds ((c.records ++ h.0) ∷ h.1) n (sym n_is) in
    let long : length (take n now.rounds) ≡ n = length-take-le n now.rounds (omega arith) in (
      ap (take m) ended ∙ take_at c.records h.0 m (sym m_is),
      left_is ∙ take_at (take n now.rounds) (drop (suc n) now.rounds) n long ∙ front,
    )

-- if none ended, its records are the first of those that are there
pub same_round : (c now : StreamProgress) (n m : ℕ) → n ≡ length c.rounds → m ≡ length c.records → HasGrown c now
    → length now.rounds ≤ n → (take m now.records ≡ c.records) × (now.rounds ≡ c.rounds)
same_round c now n m n_is m_is (inl h) le = (ap (take m) h.2 ∙ take_at c.records h.1 m (sym m_is), h.0)
same_round c now n m n_is m_is (inr h) le = absurd (omega (arith, ap length h.2, length-append c.rounds ((c.records ++ h.0) ∷ h.1)))

-- the entries of the mark are the first of those that are there
pub same_entries : (c now : StreamProgress) → IsLater c now → take (length c.blocks) now.blocks ≡ c.blocks
same_entries c now l = ap (take (length c.blocks)) l.has_blocks ∙ take_at c.blocks l.more_blocks (length c.blocks) refl

-- what was read to there, field by field
pub is_back : (c now new : StreamProgress) (checkpoint : Checkpoint) → checkpoint ≡ checkpoint_of c → IsLater c now
    → new.frame ≡ now.frame → new.mode ≡ checkpoint.mode → new.page_size ≡ now.page_size → new.limit ≡ now.limit → new.waiting ≡ now.waiting
    → new.due ≡ checkpoint.due → new.section ≡ checkpoint.section → new.section_id ≡ checkpoint.section_id
    → new.form ≡ checkpoint.form → new.left ≡ checkpoint.left → new.named ≡ checkpoint.named → new.room ≡ checkpoint.room
    → new.blocks ≡ take checkpoint.blocks now.blocks → new.records ≡ c.records → new.rounds ≡ c.rounds → new ≡ c
is_back c now new checkpoint is l frame mode page_size limit waiting due section section_id form left named room blocks records rounds =
    let back : take checkpoint.blocks now.blocks ≡ c.blocks = ap (λ (m : Checkpoint). take m.blocks now.blocks) is ∙ same_entries c now l in
    ap (λ (x : Frame). record new { frame = x }) (frame ∙ l.same_frame)
    ∙ ap (λ (x : Mode). record new { frame = c.frame; mode = x }) (mode ∙ ap (λ (m : Checkpoint). m.mode) is)
    ∙ ap (λ (x : ℕ). record new { frame = c.frame; mode = c.mode; page_size = x }) (page_size ∙ l.same_page_size)
    ∙ ap (λ (x : ℕ). record new { frame = c.frame; mode = c.mode; page_size = c.page_size; limit = x }) (limit ∙ l.same_limit)
    ∙ ap (λ (x : Option ℕ). record new { frame = c.frame; mode = c.mode; page_size = c.page_size; limit = c.limit; waiting = x }) (waiting ∙ l.same_waiting)
    ∙ ap (λ (x : Due). record c {
      due = x;
      section = new.section;
      section_id = new.section_id;
      form = new.form;
      left = new.left;
      named = new.named;
      room = new.room;
      blocks = new.blocks;
      records = new.records;
      rounds = new.rounds;
    }) (due ∙ ap (λ (m : Checkpoint). m.due) is)
    ∙ ap (λ (x : Section). record c {
      section = x;
      section_id = new.section_id;
      form = new.form;
      left = new.left;
      named = new.named;
      room = new.room;
      blocks = new.blocks;
      records = new.records;
      rounds = new.rounds;
    }) (section ∙ ap (λ (m : Checkpoint). m.section) is)
    ∙ ap (λ (x : ℕ). record c {
      section_id = x;
      form = new.form;
      left = new.left;
      named = new.named;
      room = new.room;
      blocks = new.blocks;
      records = new.records;
      rounds = new.rounds;
    }) (section_id ∙ ap (λ (m : Checkpoint). m.section_id) is)
    ∙ ap (λ (x : EntryForm). record c {
      form = x;
      left = new.left;
      named = new.named;
      room = new.room;
      blocks = new.blocks;
      records = new.records;
      rounds = new.rounds;
    }) (form ∙ ap (λ (m : Checkpoint). m.form) is)
    ∙ ap (λ (x : Option ℕ). record c {
      left = x;
      named = new.named;
      room = new.room;
      blocks = new.blocks;
      records = new.records;
      rounds = new.rounds;
    }) (left ∙ ap (λ (m : Checkpoint). m.left) is)
    ∙ ap (λ (x : Option ℕ). record c {
      named = x;
      room = new.room;
      blocks = new.blocks;
      records = new.records;
      rounds = new.rounds;
    }) (named ∙ ap (λ (m : Checkpoint). m.named) is)
    ∙ ap (λ (x : Option ℕ). record c { room = x; blocks = new.blocks; records = new.records; rounds = new.rounds }) (room ∙ ap (λ (m : Checkpoint). m.room) is)
    ∙ ap (λ (x : List Block). record c { blocks = x; records = new.records; rounds = new.rounds }) (blocks ∙ back)
    ∙ ap (λ (x : List PageRecord). record c { records = x; rounds = new.rounds }) records
    ∙ ap (λ (x : List (List PageRecord)). record c { rounds = x }) rounds
