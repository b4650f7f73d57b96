-- A block's pieces that are read and sent one after another, and the blocks.
use Rattle.std.proofs.Common.{ℕ, zero, suc, ◌≡◌, ◌+◌, ◌-◌, ◌*◌, ◌/◌, ◌<◌, ◌≤◌, ◌^◌, List, [], ◌++◌, length, take, drop, min, Bool}
use Rattle.std.proofs.Common.{refl, sym, ap, subst, ◌∙◌, inl, inr, Option, Some, None, append_assoc, arith}
use Rattle.std.specs.Prelude.{IfSome, IsTrue, ◌↔◌}
use Rattle.std.specs.Option.{option_map}
use Rattle.std.specs.Io.KnownBytes.{Appends}
use Rattle.std.proofs.lemmas.Bool.{cases_lt}
use Rattle.std.proofs.lemmas.Nat.{div-mul-add}
use Rattle.std.proofs.lemmas.List.{append-nil, length-drop, drop-drop}
use Rattle.mig_mem.specs.RamTable.{RamTable, block}
use Rattle.mig_mem.specs.Image.{Page}
use Rattle.mig_mem.specs.Round.{with_round}
use Rattle.mig_mem.proofs.PageSizes.{page_before}
use Rattle.zimgasol_files.specs.Differing.{Piece}
use Rattle.zimgasol_files.specs.ReadOn.{HasPiece, IsReadTo, ReadsOn}
use Rattle.zimgasol_files.specs.declared.pages.Reading.{Reading}
use Rattle.zimgasol_saving.specs.Sent.{Source, source_of, sent_from, sent_of, sent_before, sent_pages, piece_from, HasPages}
use Rattle.zimgasol_saving.specs.Written.{Front, IsStreamOf, SendsPiece}
use Rattle.zimgasol_saving.specs.Blocks.{FilesFit, IsSaved, HasSentPages, HasSentBlock, SendsBlock, SendsBlocks}
use Rattle.zimgasol_saving.proofs.SentPages.{none_sent, sent_more, piece_len, piece_is_sent, all_sent, block_more, no_block, sent_leaves}
use Rattle.zimgasol_saving.proofs.Streams.{appends_none, appends_then}

-- ---- numbers of bytes

spread : (k d size : ℕ) → (k + d) * size ≡ k * size + d * size
spread k d size = grind arith

-- n pages are k pages and the others
pages_split : (size k n : ℕ) → k ≤ n → n * size ≡ k * size + (n - k) * size
pages_split size k n few =
    let at : n ≡ k + (n - k) = omega (arith, few) in
    ap (λ (x : ℕ). x * size) at ∙ spread k (n - k) size

count_low : (all done left size c : ℕ) → all ≡ done + left → left + size ≤ 256 * size → c ≡ min (all - done) (size * 256) → c ≡ left
count_low all done left size c split few is = omega (arith, split, few, is)

count_high : (all done left size c : ℕ) → all ≡ done + left → 256 * size ≤ left → c ≡ min (all - done) (size * 256) → c ≡ 256 * size
count_high all done left size c split many is = omega (arith, split, many, is)

count_none : (all done left size : ℕ) → all ≡ done + left → 0 < size → size ≤ left → 0 ≡ min (all - done) (size * 256) → ⊥
count_none all done left size split some one none = omega (arith, split, some, one, none)

-- a piece has whole pages: at most 256 of those that are left
piece_count : (size k n c : ℕ) → k ≤ n → c ≡ min (n * size - k * size) (size * 256) → c ≡ min (n - k) 256 * size
piece_count size k n c few is = elim (cases_lt (n - k) 256) [
  | inl lt ↦
      let here : n - k ≡ min (n - k) 256 = omega (arith, lt) in
      count_low (n * size) (k * size) ((n - k) * size) size c (pages_split size k n few) (page_before size 256 (n - k) lt) is
      ∙ ap (λ (x : ℕ). x * size) here
  | inr ge ↦
      let more : 256 * size + size ≤ ((n - k) + 1) * size = page_before size ((n - k) + 1) 256 (omega (arith, ge)) in
      let next : ((n - k) + 1) * size ≡ (n - k) * size + 1 * size = spread (n - k) 1 size in
      let here : 256 ≡ min (n - k) 256 = omega (arith, ge) in
      count_high (n * size) (k * size) ((n - k) * size) size c (pages_split size k n few) (omega (arith, more, next)) is
      ∙ ap (λ (x : ℕ). x * size) here
]

-- no byte is left of the last page
none_left : (size k n : ℕ) → 0 < size → k ≤ n → 0 ≡ min (n * size - k * size) (size * 256) → k ≡ n
none_left size k n some few none = elim (cases_lt 0 (n - k)) [
  | inl lt ↦
      let one : 0 * size + size ≤ (n - k) * size = page_before size (n - k) 0 lt in
      absurd (count_none (n * size) (k * size) ((n - k) * size) size (pages_split size k n few) some (omega (arith, one)) none)
  | inr ge ↦ omega (arith, ge, few)
]

-- n pages are at least n bytes
pub few_of : (n size limit : ℕ) → 0 < size → n * size < limit → n < limit
few_of n zero limit some small = absurd (omega (arith, some))
few_of n (suc size) limit some small = let e : n * suc size ≡ n * size + n = grind arith in omega (arith, e, small)

-- ---- options

every_some : {X : Type 0} (P : X → Type 0) (o : Option X) → ((x : X) → P x) → IfSome o P
every_some P None all = tt
every_some P (Some x) all = all x

map_twice : {X Y Z : Type 0} (f : Y → Z) (g : X → Y) (o : Option X) → option_map f (option_map g o) ≡ option_map (λ x. f (g x)) o
map_twice f g None = refl
map_twice f g (Some x) = refl

map_same : {X : Type 0} (f : X → X) (o : Option X) → ((x : X) → f x ≡ x) → option_map f o ≡ o
map_same f None same = refl
map_same {X} f (Some x) same = ap (λ (y : X). Some y) (same x)

map_like : {X Y : Type 0} (f g : X → Y) (o : Option X) → ((x : X) → f x ≡ g x) → option_map f o ≡ option_map g o
map_like f g None same = refl
map_like {X} {Y} f g (Some x) same = ap (λ (y : Y). Some y) (same x)

-- what is left of both files is the same by other names
read_same : {F : Type 0} (remaining : F → Option (List ℕ)) (size a b : ℕ) (x y : List ℕ) (p q : Option (List ℕ)) (r : Reading F)
    → a ≡ b → x ≡ y → p ≡ q → IsReadTo remaining size a x p r → IsReadTo remaining size b y q r
read_same remaining size a b x y p q r e f g is =
    subst (λ (k : ℕ). IsReadTo remaining size k y q r) e
    (subst (λ (l : List ℕ). IsReadTo remaining size a l q r) f
    (subst (λ (o : Option (List ℕ)). IsReadTo remaining size a x o r) g is))

holds_same : (holds : Front → RamTable → List ℕ → List Page → Type 0) (front : Front) (table : RamTable)
    (a b : List ℕ) (x y : List Page) → a ≡ b → x ≡ y → holds front table a x → holds front table b y
holds_same holds front table a b x y e f had =
    subst (λ (l : List Page). holds front table b l) f (subst (λ (l : List ℕ). holds front table l x) e had)

-- ---- the pieces of a block

-- From the beginning of a block to here, its pages were read and sent.
abbrev pub SendsTo : {F : Type 0} → (F → Option (List ℕ)) → (Front → RamTable → List ℕ → List Page → Type 0)
    → (Front → RamTable → List ℕ → List Page → Type 0) → Option (List ℕ) → Option (List ℕ) → ℕ → Reading F → ℕ → Reading F → Type 0
SendsTo remaining before after old new b r count t = (size n : ℕ) (s : Source) (front : Front) (table : RamTable) (text : List ℕ) (pages : List Page)
    → 0 < size → n < 2 ^ 64 → IsReadTo remaining size (n * size) s.bytes s.before r → before front table text pages
    → HasSentPages remaining after old new size b n count s t front table text pages

-- nothing was read
pub pages_none : {F : Type 0} (remaining : F → Option (List ℕ)) (holds : Front → RamTable → List ℕ → List Page → Type 0)
    (u : Option (List ℕ)) (size b n : ℕ) (s : Source) (r : Reading F) (front : Front) (table : RamTable) (text : List ℕ) (pages : List Page)
    → IsReadTo remaining size (n * size) s.bytes s.before r → holds front table text pages
    → HasSentPages remaining holds u u size b n 0 s r front table text pages
pages_none {F} remaining holds u size b n s r front table text pages at had =
    let zero_bytes : 0 * size ≡ 0 = omega arith in
    record {
      bytes = [];
      has_bytes = appends_none u;
      has_pages = record {
        are_there = omega (arith, zero_bytes);
        were_there = every_some (λ (old : List ℕ). 0 * size ≤ length old) s.before (λ old. omega (arith, zero_bytes));
      };
      few = omega arith;
      has_sent = holds_same holds front table text (text ++ []) pages (pages ++ sent_from size b s 0 0) (sym (append-nil text))
          (sym (append-nil pages) ∙ ap (λ (l : List Page). pages ++ l) (sym (none_sent size b s 0))) had;
      is_read = read_same remaining size (n * size) (n * size - 0 * size) s.bytes (drop (0 * size) s.bytes) s.before
          (option_map (λ o. drop (0 * size) o) s.before) r (omega (arith, zero_bytes)) (sym (ap (λ (k : ℕ). drop k s.bytes) zero_bytes))
          (sym (map_same (λ o. drop (0 * size) o) s.before (λ o. ap (λ (k : ℕ). drop k o) zero_bytes))) at;
    }

-- the older file has the pages of the piece too
were_more : (size k c : ℕ) (before : Option (List ℕ)) (m : ℕ) → c ≡ m * size → IfSome before (λ old. k * size ≤ length old)
    → IfSome (option_map (λ o. drop (k * size) o) before) (λ old. c ≤ length old) → IfSome before (λ old. (k + m) * size ≤ length old)
were_more size k c None m is had more = tt
were_more size k c (Some old) m is had more =
    let e : (k + m) * size ≡ k * size + m * size = grind arith in
    omega (arith, is, had, more, e, length-drop (k * size) old)

abbrev piece_with : ℕ → List ℕ → Option (List ℕ) → Piece
piece_with size bytes before = record { size = size; bytes = bytes; before = before }

piece_same : (size : ℕ) (x y : List ℕ) (p q : Option (List ℕ)) → x ≡ y → p ≡ q → piece_with size x p ≡ piece_with size y q
piece_same size x y p q e f = rw (e, f) refl

whole_pages : (size m : ℕ) → 0 < size → m * size / size ≡ m
whole_pages size m some = let e : m * size ≡ m * size + 0 = omega arith in ap (λ (x : ℕ). x / size) e ∙ div-mul-add m size 0 some

-- one piece more was read and sent, of m pages
pages_more_by : {F : Type 0} (remaining : F → Option (List ℕ)) (before after : Front → RamTable → List ℕ → List Page → Type 0)
    (old mid new : Option (List ℕ)) (size b n k m next c count : ℕ) (s : Source) (r t : Reading F)
    (front : Front) (table : RamTable) (text : List ℕ) (pages : List Page)
    → 0 < size → n < 2 ^ 64 → c ≡ m * size → m ≤ 256 → k + m ≤ n
    → HasSentPages remaining before old mid size b n k s r front table text pages
    → ReadsOn remaining size (n * size - k * size) (drop (k * size) s.bytes) (option_map (λ o. drop (k * size) o) s.before) c t
    → ((piece : Piece) → HasPiece t piece → 0 < piece.size → count ≡ length piece.bytes / piece.size)
    → ((piece : Piece) → HasPiece t piece → SendsPiece before after mid new b k piece)
    → next ≡ min (k + count) (2 ^ 64 - 1)
    → HasSentPages remaining after old new size b n next s t front table text pages
pages_more_by {F} remaining before after old mid new size b n k m next c count s r t front table text pages some small is few within has reads
    counts sends is_next =
    let split : (k + m) * size ≡ k * size + m * size = spread k m size in
    let there : HasPages size s (k + m) = record {
      are_there = omega (arith, is, split, has.has_pages.are_there, reads.are_there, length-drop (k * size) s.bytes);
      were_there = were_more size k c s.before m is has.has_pages.were_there reads.were_there;
    } in
    let bytes_are : take c (drop (k * size) s.bytes) ≡ take (m * size) (drop (k * size) s.bytes) =
    ap (λ (x : ℕ). take x (drop (k * size) s.bytes)) is in
    let before_is : option_map (λ o. take c o) (option_map (λ o. drop (k * size) o) s.before) ≡ option_map (λ o. take (m * size) (drop (k * size) o))
    s.before =
    map_twice (λ (o : List ℕ). take c o) (λ (o : List ℕ). drop (k * size) o) s.before
    ∙ map_like (λ (o : List ℕ). take c (drop (k * size) o)) (λ (o : List ℕ). take (m * size) (drop (k * size) o)) s.before
    (λ o. ap (λ (x : ℕ). take x (drop (k * size) o)) is) in
    let here : HasPiece t (piece_from size s k m) =
    subst (λ (p : Piece). HasPiece t p) (piece_same size (take c (drop (k * size) s.bytes)) (take (m * size) (drop (k * size) s.bytes))
    (option_map (λ o. take c o) (option_map (λ o. drop (k * size) o) s.before)) (option_map (λ o. take (m * size) (drop (k * size) o)) s.before)
    bytes_are before_is) reads.has_piece in
    let long : length (take (m * size) (drop (k * size) s.bytes)) ≡ m * size = piece_len size k m s.bytes there.are_there in
    let is_count : count ≡ m = counts (piece_from size s k m) here some ∙ ap (λ (x : ℕ). x / size) long ∙ whole_pages size m some in
    let at : next ≡ k + m = omega (arith, is_next, is_count, small, within) in
    let gave = sends (piece_from size s k m) here front table (text ++ has.bytes) (pages ++ sent_from size b s 0 k) some has.has_sent in
    let all : min 256 m ≡ m = omega (arith, few) in
    let are : gave.sent ≡ sent_from size b s k m =
    piece_is_sent size b k m 256 s gave.sent some there gave.are_sent ∙ ap (λ (x : ℕ). sent_from size b s k x) all in
    let from : 0 + k ≡ k = omega arith in
    let all_are : (pages ++ sent_from size b s 0 k) ++ gave.sent ≡ pages ++ sent_from size b s 0 (k + m) =
    append_assoc pages (sent_from size b s 0 k) gave.sent
    ∙ ap (λ (l : List Page). pages ++ (sent_from size b s 0 k ++ l)) (are ∙ ap (λ (x : ℕ). sent_from size b s x m) (sym from))
    ∙ ap (λ (l : List Page). pages ++ l) (sym (sent_more size b 0 k m s)) in
    let past : k * size + c ≡ (k + m) * size = omega (arith, is, split) in
    subst (λ (x : ℕ). HasSentPages remaining after old new size b n x s t front table text pages) (sym at) (record {
      bytes = has.bytes ++ gave.bytes;
      has_bytes = appends_then old mid new has.bytes gave.bytes has.has_bytes gave.has_bytes;
      has_pages = there;
      few = within;
      has_sent = holds_same after front table ((text ++ has.bytes) ++ gave.bytes) (text ++ (has.bytes ++ gave.bytes))
          ((pages ++ sent_from size b s 0 k) ++ gave.sent) (pages ++ sent_from size b s 0 (k + m))
          (append_assoc text has.bytes gave.bytes) all_are gave.has_sent;
      is_read = read_same remaining size (n * size - k * size - c) (n * size - (k + m) * size)
          (drop c (drop (k * size) s.bytes)) (drop ((k + m) * size) s.bytes)
          (option_map (λ o. drop c o) (option_map (λ o. drop (k * size) o) s.before)) (option_map (λ o. drop ((k + m) * size) o) s.before) t
          (omega (arith, past))
          (drop-drop c (k * size) s.bytes ∙ ap (λ (x : ℕ). drop x s.bytes) past)
          (map_twice (λ (o : List ℕ). drop c o) (λ (o : List ℕ). drop (k * size) o) s.before
          ∙ map_like (λ (o : List ℕ). drop c (drop (k * size) o)) (λ (o : List ℕ). drop ((k + m) * size) o) s.before
          (λ o. drop-drop c (k * size) o ∙ ap (λ (x : ℕ). drop x o) past))
          reads.goes_on;
    })

-- ONE PIECE MORE was read and sent
pub pages_more : {F : Type 0} (remaining : F → Option (List ℕ)) (before after : Front → RamTable → List ℕ → List Page → Type 0)
    (old mid new : Option (List ℕ)) (size b n k next c count : ℕ) (s : Source) (r t : Reading F)
    (front : Front) (table : RamTable) (text : List ℕ) (pages : List Page)
    → 0 < size → n < 2 ^ 64 → HasSentPages remaining before old mid size b n k s r front table text pages
    → ReadsOn remaining size (n * size - k * size) (drop (k * size) s.bytes) (option_map (λ o. drop (k * size) o) s.before) c t
    → ((piece : Piece) → HasPiece t piece → 0 < piece.size → count ≡ length piece.bytes / piece.size)
    → ((piece : Piece) → HasPiece t piece → SendsPiece before after mid new b k piece)
    → next ≡ min (k + count) (2 ^ 64 - 1)
    → HasSentPages remaining after old new size b n next s t front table text pages
pages_more {F} remaining before after old mid new size b n k next c count s r t front table text pages some small has reads counts sends is_next =
    pages_more_by remaining before after old mid new size b n k (min (n - k) 256) next c count s r t front table text pages some small
    (piece_count size k n c has.few reads.is_count) (omega arith) (omega (arith, has.few)) has reads counts sends is_next

-- NO PIECE IS LEFT: the block was sent
pub pages_end : {F : Type 0} (remaining : F → Option (List ℕ)) (holds : Front → RamTable → List ℕ → List Page → Type 0)
    (old new : Option (List ℕ)) (size b n k c : ℕ) (is_more : Bool) (s : Source) (r t : Reading F)
    (front : Front) (table : RamTable) (text : List ℕ) (pages : List Page)
    → 0 < size → HasSentPages remaining holds old new size b n k s r front table text pages
    → (IsTrue is_more → ⊥) → (IsTrue is_more ↔ (0 < c))
    → ReadsOn remaining size (n * size - k * size) (drop (k * size) s.bytes) (option_map (λ o. drop (k * size) o) s.before) c t
    → (k ≡ n) × HasSentBlock holds old new size b n s front table text pages
pages_end {F} remaining holds old new size b n k c is_more s r t front table text pages some has over tells reads =
    let none : c ≡ 0 = elim (cases_lt 0 c) [ inl lt ↦ absurd (over (tells.1 lt)) | inr ge ↦ omega (arith, ge) ] in
    let all : k ≡ n = none_left size k n some has.few (sym none ∙ reads.is_count) in
    let room : c < size * 256 = omega (arith, none, some) in
    let rest : length s.bytes - k * size ≡ 0 = sym (length-drop (k * size) s.bytes) ∙ reads.is_end room ∙ none in
    let same : k * size ≡ n * size = ap (λ (x : ℕ). x * size) all in (
      all,
      record {
        bytes = has.bytes;
        has_bytes = has.has_bytes;
        fits = omega (arith, rest, same, has.has_pages.are_there);
        has_sent = subst (λ (x : ℕ). holds front table (text ++ has.bytes) (pages ++ sent_from size b s 0 x)) all has.has_sent;
      },
    )

-- ---- the blocks of a table

-- no block was sent
pub blocks_none : (holds : Front → RamTable → List ℕ → List Page → Type 0) (u : Option (List ℕ)) (of : RamTable) (sources : List Source)
    → SendsBlocks holds holds u u of sources 0
blocks_none holds u of sources = λ front table text pages had. record {
  bytes = [];
  has_bytes = appends_none u;
  files_fit = λ b lt. absurd (omega (arith, lt));
  has_sent = holds_same holds front table text (text ++ []) pages (pages ++ sent_before of sources 0) (sym (append-nil text))
      (sym (append-nil pages) ∙ ap (λ (l : List Page). pages ++ l) (sym (no_block of sources))) had;
}

-- one block more
pub blocks_more : (first before after : Front → RamTable → List ℕ → List Page → Type 0) (old mid new : Option (List ℕ))
    (of : RamTable) (sources : List Source) (n : ℕ) → SendsBlocks first before old mid of sources n
    → SendsBlock before after mid new of.page_size n (block of.blocks n).pages (source_of sources n) → SendsBlocks first after old new of sources (n + 1)
blocks_more first before after old mid new of sources n so sends = λ front table text pages had.
    let has = so front table text pages had in
    let gave = sends front table (text ++ has.bytes) (pages ++ sent_before of sources n) has.has_sent in
    record {
      bytes = has.bytes ++ gave.bytes;
      has_bytes = appends_then old mid new has.bytes gave.bytes has.has_bytes gave.has_bytes;
      files_fit = λ b lt. elim (cases_lt b n) [
        | inl below ↦ has.files_fit b below
        | inr past ↦
            let at : n ≡ b = omega (arith, lt, past) in
            subst (λ (k : ℕ). length (source_of sources k).bytes ≡ (block of.blocks k).pages * of.page_size) at gave.fits
      ];
      has_sent = holds_same after front table ((text ++ has.bytes) ++ gave.bytes) (text ++ (has.bytes ++ gave.bytes))
          ((pages ++ sent_before of sources n) ++ sent_of of sources n) (pages ++ sent_before of sources (n + 1))
          (append_assoc text has.bytes gave.bytes)
          (append_assoc pages (sent_before of sources n) (sent_of of sources n)
          ∙ ap (λ (l : List Page). pages ++ l) (sym (block_more of sources n))) gave.has_sent;
    }

-- THE STREAM IS SAVED
pub blocks_saved : (front : Front) (table : RamTable) (sources : List Source) (old new : Option (List ℕ)) (text : List ℕ) (pages : List Page)
    → Appends old new text → FilesFit table sources (length table.blocks) → pages ≡ sent_before table sources (length table.blocks)
    → IsStreamOf front table pages text → IsSaved front table sources old new
blocks_saved front table sources old new text pages grows fit are is =
    let stream : IsStreamOf front table (sent_pages table sources) text =
    subst (λ (l : List Page). IsStreamOf front table l text) (are ∙ all_sent table sources) is in
    record {
      text = text;
      has_text = grows;
      is_stream = stream;
      files_fit = fit;
      leaves = λ m same older.
          ap (λ (l : List Page). with_round m l) stream.has_pages ∙ sent_leaves table sources m same older;
    }
