-- What a writer makes is a stream of its table: of the rounds that it was given, or of as many
-- rounds without a page as it was given FLUSHes.
use Rattle.std.proofs.Common.{ℕ, zero, suc, ◌≡◌, ◌≤◌, Bool, true, false, cond, ◌==◌, IsTrue, IfSome, All, List, [], ◌∷◌, ◌++◌, length, map, replicate, flat_map}
use Rattle.std.proofs.Common.{Option, Some, None, refl, sym, ap, subst, ◌∙◌, append_assoc, append-nil, arith}
use Rattle.std.specs.List.{list_all, AllByRecursion}
use Rattle.std.proofs.lemmas.Bool.{eqb-true}
use Rattle.std.proofs.lemmas.List.Elements.{All-from_recursion, recursion_from_All, All-head, All-tail}
use Rattle.mig_mem.specs.Image.{Page}
use Rattle.mig_mem.specs.Place.{IsPlace}
use Rattle.mig_mem.specs.RamTable.{RamTable, IsTable}
use Rattle.mig_mem.specs.Round.{IsRound}
use Rattle.mig_stream.specs.declared.item.Mode.TheVariants.{Single, Main}
use Rattle.mig_stream.specs.declared.item.Section.TheVariants as sections
use Rattle.mig_stream.specs.Format.{end_byte}
use Rattle.mig_stream.specs.PageRecord.{PageRecord}
use Rattle.mig_stream.specs.Text.{Record, FlushMark, Fits, Follow, section, body, file_header, start_head, size_list, all_records, page_records, HasNoFlush}
use Rattle.mig_stream.specs.Text.{AreRounds, total_bytes, IsText}
use Rattle.mig_stream.proofs.Writing.{named_by_pages, named_by}
use Rattle.mig_stream.specs.Written.{Part, RoundPart, FlushPart, written_id, is_named, written_record, written_records, part_records, written_parts, opening}
use Rattle.mig_stream.specs.Written.{closing, written}

-- ---- the records of each part

-- the records of each part, where `before` is the block named last
abbrev pub parts_records : Option ℕ → List Part → List (List Record)
parts_records before [] = []
parts_records before (part ∷ parts) = part_records before part ∷ parts_records (named_by before part) parts

-- The parts are spelled as PARTs of these records.
pub parts_spelled : (table : RamTable) (before : Option ℕ) (parts : List Part)
    → written_parts table before parts ≡ flat_map (section table sections.Part written_id) (parts_records before parts)
parts_spelled table before [] = refl
parts_spelled table before (part ∷ parts) =
    ap (λ (x : List ℕ). section table sections.Part written_id (part_records before part) ++ x) (parts_spelled table (named_by before part) parts)

-- the same bytes, in the two ways in which they are put together
regroup : (h s l b p q e : List ℕ) → (h ++ s ++ l ++ b) ++ p ++ (q ++ e) ≡ h ++ [] ++ s ++ l ++ b ++ p ++ q ++ e
regroup h s l b p q e =
    sym (append_assoc (h ++ s ++ l ++ b ++ p) q e) ∙ ap (λ (x : List ℕ). x ++ s ++ l ++ b ++ p ++ q ++ e) (sym (append-nil h))

-- the complete stream, as a stream is spelled
pub written_spelled : (table : RamTable) (parts : List Part)
    → written table parts ≡ file_header ++ [] ++ start_head written_id ++ size_list table ++ body table written_id []
    ++ flat_map (section table sections.Part written_id) (parts_records None parts)
    ++ section table sections.End written_id [] ++ end_byte ∷ []
unfolding opening closing
written_spelled table parts =
    let spelled : List ℕ = flat_map (section table sections.Part written_id) (parts_records None parts) in
    ap (λ (x : List ℕ). opening table ++ x ++ closing table) (parts_spelled table None parts)
    ∙ regroup file_header (start_head written_id) (size_list table) (body table written_id []) spelled
    (section table sections.End written_id []) (end_byte ∷ [])

-- ---- a page record that is written may stand where it does

-- a page is named already only where its block was named last
named_last : (before : Option ℕ) (b : ℕ) → IsTrue (is_named before b) → before ≡ Some b
named_last None b named = absurd cc
named_last (Some last) b named = ap (λ (n : ℕ). Some n) (eqb-true last b named)

-- what a page record has of a page is as long as the page
content_size : (zeros : Bool) (bytes : List ℕ) (size : ℕ) → length bytes ≡ size → IfSome (cond zeros None (Some bytes)) (λ content. length content ≡ size)
content_size true bytes size len = tt
content_size false bytes size len = len

written_fits : (table : RamTable) (before : Option ℕ) (x : Page) → IsPlace table x.place → length x.content ≡ table.page_size
    → Fits table before (is_named before x.place.block) (written_record x)
written_fits table before x place size = record {
  has_place = place;
  has_size = content_size (list_all (λ (byte : ℕ). byte == 0) x.content) x.content table.page_size size;
  is_carried = named_last before x.place.block;
}

-- the pages of a round, and what may stand after them
round_follows : (table : RamTable) (before : Option ℕ) (pages : List Page) (others : List Record)
    → All (λ x. IsPlace table x.place) pages → All (λ x. length x.content ≡ table.page_size) pages
    → Follow table (named_by_pages before pages) others → Follow table before (written_records before pages ++ others)
round_follows table before [] others places sizes follow = follow
round_follows table before (x ∷ pages) others places sizes follow = (
  written_fits table before x (All-head (λ (y : Page). IsPlace table y.place) x pages places)
      (All-head (λ (y : Page). length y.content ≡ table.page_size) x pages sizes),
  round_follows table (Some x.place.block) pages others (All-tail (λ (y : Page). IsPlace table y.place) x pages places)
      (All-tail (λ (y : Page). length y.content ≡ table.page_size) x pages sizes) follow,
)

rounds_follow : (table : RamTable) (before : Option ℕ) (rounds : List (List Page)) → AllByRecursion (IsRound table) rounds
    → Follow table before (all_records (parts_records before (map RoundPart rounds)))
rounds_follow table before [] are = tt
rounds_follow table before (round ∷ rounds) are =
    round_follows table before round (all_records (parts_records (named_by_pages before round) (map RoundPart rounds))) are.0.has_places are.0.has_sizes
    (rounds_follow table (named_by_pages before round) rounds are.1)

-- ---- a single stream: the rounds that are written

written_no_flush : (before : Option ℕ) (pages : List Page) → HasNoFlush (written_records before pages)
written_no_flush before [] = tt
written_no_flush before (x ∷ pages) = written_no_flush (Some x.place.block) pages

written_pages : (before : Option ℕ) (pages : List Page) → page_records (written_records before pages) ≡ map written_record pages
written_pages before [] = refl
written_pages before (x ∷ pages) = ap (λ (rs : List PageRecord). written_record x ∷ rs) (written_pages (Some x.place.block) pages)

-- each part is without a FLUSH, and so is END
rounds_no_flush : (before : Option ℕ) (rounds : List (List Page)) → AllByRecursion HasNoFlush (parts_records before (map RoundPart rounds) ++ [] ∷ [])
rounds_no_flush before [] = (tt, tt)
rounds_no_flush before (round ∷ rounds) = (written_no_flush before round, rounds_no_flush (named_by_pages before round) rounds)

rounds_are : (before : Option ℕ) (rounds : List (List Page))
    → map (map written_record) rounds ++ [] ∷ [] ≡ map page_records (parts_records before (map RoundPart rounds) ++ [] ∷ [])
rounds_are before [] = refl
rounds_are before (round ∷ rounds) =
    ap (λ (r : List PageRecord). r ∷ (map (map written_record) rounds ++ [] ∷ [])) (sym (written_pages before round))
    ∙ ap (λ (rs : List (List PageRecord)). page_records (written_records before round) ∷ rs) (rounds_are (named_by_pages before round) rounds)

-- The records of rounds that are written may stand one after another, and are these rounds.
pub single_parts : (table : RamTable) (rounds : List (List Page)) → All (IsRound table) rounds
    → Follow table None (all_records (parts_records None (map RoundPart rounds)) ++ [])
    × AreRounds Single ([] ∷ (parts_records None (map RoundPart rounds) ++ [] ∷ [])) ([] ∷ map (map written_record) rounds ++ [] ∷ [])
single_parts table rounds are = (
  subst (Follow table None) (sym (append-nil (all_records (parts_records None (map RoundPart rounds)))))
      (rounds_follow table None rounds (recursion_from_All (IsRound table) rounds are)),
  (
    All-from_recursion HasNoFlush ([] ∷ (parts_records None (map RoundPart rounds) ++ [] ∷ [])) (tt, rounds_no_flush None rounds),
    ap (λ (rs : List (List PageRecord)). [] ∷ rs) (rounds_are None rounds),
  ),
)

-- What is written of rounds is a single stream: a round of no page for START, each round, and one
-- of no page for END.
pub written_single : (table : RamTable) (rounds : List (List Page)) (limit : ℕ) → IsTable table → total_bytes table ≤ limit → All (IsRound table) rounds
    → IsText Single limit (written table (map RoundPart rounds)) table ([] ∷ map (map written_record) rounds ++ [] ∷ [])
written_single table rounds limit is most are =
    let both = single_parts table rounds are in
    record {
      id = written_id;
      name = None;
      first = [];
      parts = parts_records None (map RoundPart rounds);
      last = [];
      is_spelled = written_spelled table (map RoundPart rounds);
      has_table = is;
      has_limit = most;
      has_id = omega arith;
      has_name = tt;
      follow = both.0;
      has_rounds = both.1;
    }

-- ---- a main stream: FLUSHes

-- each FLUSH is a part of its own
flush_records : (before : Option ℕ) (n : ℕ) → parts_records before (replicate n FlushPart) ≡ replicate n (FlushMark ∷ [])
flush_records before zero = refl
flush_records before (suc n) = ap (λ (rs : List (List Record)). (FlushMark ∷ []) ∷ rs) (flush_records before n)

flushes_follow : (table : RamTable) (before : Option ℕ) (n : ℕ) → Follow table before (all_records (replicate n (FlushMark ∷ [])))
flushes_follow table before zero = tt
flushes_follow table before (suc n) = flushes_follow table before n

-- the round of each FLUSH has no record
flushes_end : (n : ℕ) → all_records (replicate n (FlushMark ∷ []) ++ [] ∷ []) ≡ flat_map (λ (group : List Record). group ++ FlushMark ∷ []) (replicate n [])
flushes_end zero = refl
flushes_end (suc n) = ap (λ (rs : List Record). FlushMark ∷ rs) (flushes_end n)

flushes_none : (n : ℕ) → AllByRecursion HasNoFlush (replicate n [])
flushes_none zero = tt
flushes_none (suc n) = (tt, flushes_none n)

flushes_empty : (n : ℕ) → replicate n [] ≡ map page_records (replicate n [])
flushes_empty zero = refl
flushes_empty (suc n) = ap (λ (rs : List (List PageRecord)). [] ∷ rs) (flushes_empty n)

flush_rounds : (n : ℕ) → AreRounds Main ([] ∷ (replicate n (FlushMark ∷ []) ++ [] ∷ [])) (replicate n [])
flush_rounds n = (replicate n [], All-from_recursion HasNoFlush (replicate n []) (flushes_none n), flushes_end n, flushes_empty n)

-- The records of FLUSHes that are written may stand one after another, and are rounds of no page.
pub main_parts : (table : RamTable) (n : ℕ)
    → Follow table None (all_records (parts_records None (replicate n FlushPart)) ++ [])
    × AreRounds Main ([] ∷ (parts_records None (replicate n FlushPart) ++ [] ∷ [])) (replicate n [])
main_parts table n =
    let flushes : List (List Record) = parts_records None (replicate n FlushPart) in
    let same : flushes ≡ replicate n (FlushMark ∷ []) = flush_records None n in
    let follow : Follow table None (all_records flushes) =
    subst (λ (rs : List (List Record)). Follow table None (all_records rs)) (sym same) (flushes_follow table None n) in (
      subst (Follow table None) (sym (append-nil (all_records flushes))) follow,
      subst (λ (rs : List (List Record)). AreRounds Main ([] ∷ (rs ++ [] ∷ [])) (replicate n [])) (sym same) (flush_rounds n),
    )

-- What is written of FLUSHes is a main stream: a round of no page for each.
pub written_main : (table : RamTable) (n limit : ℕ) → IsTable table → total_bytes table ≤ limit
    → IsText Main limit (written table (replicate n FlushPart)) table (replicate n [])
written_main table n limit is most =
    let flushes : List (List Record) = parts_records None (replicate n FlushPart) in
    let both = main_parts table n in
    record {
      id = written_id;
      name = None;
      first = [];
      parts = flushes;
      last = [];
      is_spelled = written_spelled table (replicate n FlushPart);
      has_table = is;
      has_limit = most;
      has_id = omega arith;
      has_name = tt;
      follow = both.0;
      has_rounds = both.1;
    }
