-- The stream that is written, piece after piece.
use Rattle.std.proofs.Common.{ℕ, ◌≡◌, ◌+◌, ◌-◌, ◌*◌, ◌<◌, ◌≤◌, Bool, Bor, List, [], ◌∷◌, ◌++◌, length, map, take, drop}
use Rattle.std.proofs.Common.{refl, sym, ap, subst, ◌∙◌, Option, Some, None, append_assoc, arith}
use Rattle.std.specs.Prelude.{IsTrue, ◌↔◌, MatchOption}
use Rattle.std.specs.Io.KnownBytes.{Appends}
use Rattle.std.specs.Option.{option_copied}
use Rattle.std.proofs.lemmas.Option.{none-some, same_Some}
use Rattle.std.proofs.lemmas.List.{append-nil, append_cancel_left}
use Rattle.std.proofs.lemmas.List.Elements.{All-nil, All-cons, All-append}
use Rattle.mig_mem.specs.RamTable.{RamTable}
use Rattle.mig_mem.specs.Image.{Page}
use Rattle.mig_mem.specs.Round.{IsRound}
use Rattle.mig_mem.proofs.Rounds.{all_pages-push}
use Rattle.mig_stream.specs.Format.{end_byte}
use Rattle.mig_stream.specs.Text.{Record, file_header, configuration, named_after, start_head, size_list, body, section}
use Rattle.mig_stream.specs.declared.item.Section.TheVariants as sections
use Rattle.mig_stream.specs.declared.item.Section.{Section}
use Rattle.mig_stream.specs.Written.{Part, RoundPart, written_id, single, written}
use Rattle.mig_stream.specs.Written.{written_records, named_after_parts, opening, written_parts, written_so_far}
use Rattle.mig_stream.specs.MachineWritten.{machine_written}
use Rattle.mig_stream.specs.Writer.{Writer, HasDrained, with_part}
use Rattle.mig_stream.proofs.Writing.{HasDrained-next}
use Rattle.mig_stream.proofs.Configured.{configured_is_closed, written_is_closed}
use Rattle.mig_send.specs.Sending.{HasSent, HasSentDrained}
use Rattle.zimgasol_files.specs.declared.pages.Pages.{Pages}
use Rattle.zimgasol_files.specs.Differing.{Piece, piece_of, Differs}
use Rattle.zimgasol_saving.specs.declared.send.Sending.{Sending}
use Rattle.zimgasol_saving.specs.Written.{Front, Named, Kept, Beside, kept_parts, saved_text, IsStreamOf}
use Rattle.zimgasol_saving.specs.Written.{IsSoFar, HasId, IsSending, Ends, HasSentSection, SendsPiece}
use Rattle.zimgasol_saving.proofs.SentPages.{none_differs}

-- ---- the output

-- it grew by nothing
pub appends_none : (u : Option (List ℕ)) → Appends u u []
appends_none None = tt
appends_none (Some xs) = sym (append-nil xs)

-- it grew twice
pub appends_then : (u v w : Option (List ℕ)) (a b : List ℕ) → Appends u v a → Appends v w b → Appends u w (a ++ b)
appends_then None v w a b x y = tt
appends_then (Some xs) None w a b x y = absurd x
appends_then (Some xs) (Some ys) None a b x y = absurd y
appends_then (Some xs) (Some ys) (Some zs) a b x y = y ∙ ap (λ (l : List ℕ). l ++ b) x ∙ append_assoc xs a b

-- ---- the stream so far

-- a stream of RAM, or of a machine with a name, grew by what its sender gave
so_far_more : (name : Option (List ℕ)) (table : RamTable) (rounds more : List (List Page)) (drained text bytes : List ℕ)
    → IsSoFar (Named name) table rounds drained text → IsSoFar (Named name) table more (drained ++ bytes) (text ++ bytes)
so_far_more None table rounds more drained text bytes is = ap (λ (l : List ℕ). l ++ bytes) is
so_far_more (Some name) table rounds more drained text bytes (rest, from, is) = (
  rest ++ bytes,
  ap (λ (l : List ℕ). l ++ bytes) from ∙ append_assoc file_header rest bytes,
  ap (λ (l : List ℕ). l ++ bytes) is ∙ append_assoc (file_header ++ configuration (Some name)) rest bytes,
)

map_push : {X Y : Type 0} (f : X → Y) (xs : List X) (x : X) → map f (xs ++ x ∷ []) ≡ map f xs ++ f x ∷ []
map_push f [] x = refl
map_push {X} {Y} f (y ∷ xs) x = ap (λ (l : List Y). f y ∷ l) (map_push f xs x)

-- the block that was named last by some rounds
abbrev named_by_rounds : List (List Page) → Option ℕ
named_by_rounds rounds = named_after_parts None (map RoundPart rounds)

-- a sender's stream with one round more has one PART more
written_push : (table : RamTable) (rounds : List (List Page)) (sent : List Page)
    → written_so_far table (map RoundPart (rounds ++ sent ∷ []))
    ≡ written_so_far table (map RoundPart rounds) ++ section table sections.Part written_id (written_records (named_by_rounds rounds) sent)
written_push table rounds sent =
    let parts : List Part = map RoundPart rounds in
    let w : Writer = record { table = table; text = []; named = named_after_parts None parts } in
    let had : HasDrained (written_so_far table parts) w parts = record { has_text = append-nil (written_so_far table parts); has_named = refl } in
    let has = HasDrained-next (written_so_far table parts) w (with_part w (RoundPart sent)) parts (RoundPart sent) refl had in
    ap (λ (l : List Part). written_so_far table l) (map_push RoundPart rounds sent) ∙ sym has.has_text

-- and so has one under another id
kept_push : (table : RamTable) (id : ℕ) (before : Option ℕ) (rounds : List (List Page)) (sent : List Page)
    → kept_parts table id before (rounds ++ sent ∷ [])
    ≡ kept_parts table id before rounds ++ section table sections.Part id (written_records (named_after_parts before (map RoundPart rounds)) sent)
kept_push table id before [] sent = append-nil (section table sections.Part id (written_records before sent))
kept_push table id before (round ∷ rounds) sent =
    let first : List ℕ = section table sections.Part id (written_records before round) in
    let named : Option ℕ = named_after before (written_records before round) in
    ap (λ (l : List ℕ). first ++ l) (kept_push table id named rounds sent)
    ∙ sym (append_assoc first (kept_parts table id named rounds)
    (section table sections.Part id (written_records (named_after_parts named (map RoundPart rounds)) sent)))

-- what `set_id` does to a section
abbrev pub SetsId : Option ℕ → List ℕ → List ℕ → Type 0
SetsId id old new = (own : ℕ) (table : RamTable) (kind : Section) (records : List Record) → id ≡ Some own
    → old ≡ section table kind written_id records → new ≡ section table kind own records

-- the stream of a machine that is restored grew by the PART of one round more, under its id
kept_more : (front : List ℕ) (id : ℕ) (of : Option ℕ) (table : RamTable) (rounds : List (List Page)) (sent : List Page) (drained text bytes put : List ℕ)
    → of ≡ Some id → IsSoFar (Kept front id) table rounds drained text → drained ++ bytes ≡ written_so_far table (map RoundPart (rounds ++ sent ∷ []))
    → SetsId of bytes put → IsSoFar (Kept front id) table (rounds ++ sent ∷ []) (drained ++ bytes) (text ++ put)
kept_more front id of table rounds sent drained text bytes put has (from, is) all sets =
    let so_far : List ℕ = written_so_far table (map RoundPart rounds) in
    let records : List Record = written_records (named_by_rounds rounds) sent in
    let is_section : bytes ≡ section table sections.Part written_id records =
    append_cancel_left so_far bytes (section table sections.Part written_id records)
    (ap (λ (l : List ℕ). l ++ bytes) (sym from) ∙ all ∙ written_push table rounds sent) in (
      all,
      ap (λ (l : List ℕ). l ++ put) is
          ∙ ap (λ (l : List ℕ). (front ++ body table id [] ++ kept_parts table id None rounds) ++ l) (sets id table sections.Part records has is_section)
          ∙ append_assoc (front ++ body table id []) (kept_parts table id None rounds) (section table sections.Part id records)
          ∙ ap (λ (l : List ℕ). front ++ body table id [] ++ l) (sym (kept_push table id None rounds sent)),
    )

-- THE STREAM SO FAR grew by one round more: `put` was written of the bytes that the sender gave
more_so_far : (front : Front) (of : Option ℕ) (table : RamTable) (rounds : List (List Page)) (sent : List Page) (drained text bytes put : List ℕ)
    → HasId front of → IsSoFar front table rounds drained text → drained ++ bytes ≡ written_so_far table (map RoundPart (rounds ++ sent ∷ []))
    → (of ≡ None → put ≡ bytes) → SetsId of bytes put → IsSoFar front table (rounds ++ sent ∷ []) (drained ++ bytes) (text ++ put)
more_so_far (Named name) of table rounds sent drained text bytes put has is all same sets =
    subst (λ (l : List ℕ). IsSoFar (Named name) table (rounds ++ sent ∷ []) (drained ++ bytes) (text ++ l)) (sym (same has))
    (so_far_more name table rounds (rounds ++ sent ∷ []) drained text bytes is)
more_so_far (Kept front id) of table rounds sent drained text bytes put has is all same sets =
    kept_more front id of table rounds sent drained text bytes put has is all sets
more_so_far (Beside name uuid channels) of table rounds sent drained text bytes put has is all same sets = absurd is

-- ---- its beginning

-- nothing was sent: without a name nothing was written either
pub begun_plain : (table : RamTable) (s : Sending) → s.sender.table ≡ table → s.id ≡ None → HasSent s.sender [] → IsSending s (Named None) table [] []
begun_plain table s same none sent = record {
  rounds = [];
  drained = [];
  has_table = same;
  has_sent = sent;
  is_so_far = refl;
  has_pages = refl;
  are_rounds = All-nil (IsRound table);
  has_id = none;
}

-- with a name the file header and the configuration were
pub begun_named : (name first : List ℕ) (table : RamTable) (s : Sending) → first ≡ file_header ++ configuration (Some name) → s.sender.table ≡ table
    → s.id ≡ None → HasSentDrained file_header s.sender [] → IsSending s (Named (Some name)) table first []
begun_named name first table s is same none sent = record {
  rounds = [];
  drained = file_header;
  has_table = same;
  has_sent = sent;
  is_so_far = ([], sym (append-nil file_header), is ∙ sym (append-nil (file_header ++ configuration (Some name))));
  has_pages = refl;
  are_rounds = All-nil (IsRound table);
  has_id = none;
}

-- of a machine that is restored its own bytes were, and the end of START
pub begun_kept : (front end drained : List ℕ) (id : ℕ) (table : RamTable) (s : Sending) → end ≡ body table id [] → s.sender.table ≡ table → s.id ≡ Some id
    → drained ≡ written_so_far table [] → HasSentDrained drained s.sender [] → IsSending s (Kept front id) table (front ++ end) []
begun_kept front end drained id table s is same some from sent = record {
  rounds = [];
  drained = drained;
  has_table = same;
  has_sent = sent;
  is_so_far = (from, ap (λ (l : List ℕ). front ++ l) is ∙ sym (append-nil (front ++ body table id [])));
  has_pages = refl;
  are_rounds = All-nil (IsRound table);
  has_id = some;
}

-- ---- its end

pub sending_ends : (front : Front) (table : RamTable) (text bytes : List ℕ) (pages : List Page) (s : Sending)
    → IsSending s front table text pages → Ends s.id s.sender bytes → IsStreamOf front table pages (text ++ bytes)
sending_ends front table text bytes pages s is ends = record {
  rounds = is.rounds;
  has_pages = is.has_pages;
  are_rounds = is.are_rounds;
  is_text =
      ends front text is.drained is.rounds is.has_id is.has_sent
      (subst (λ (t : RamTable). IsSoFar front t is.rounds is.drained text) (sym is.has_table) is.is_so_far)
      ∙ ap (λ (t : RamTable). saved_text front t is.rounds) is.has_table;
}

-- the last bytes of a stream of RAM alone
ram_ends_at : (w : Writer) (bytes : List ℕ)
    → ((drained : List ℕ) (rounds : List (List Page)) → HasSentDrained drained w rounds → drained ++ bytes ≡ single w.table rounds)
    → (front : Front) (text drained : List ℕ) (rounds : List (List Page)) → HasId front None → HasSentDrained drained w rounds
    → IsSoFar front w.table rounds drained text → text ++ bytes ≡ saved_text front w.table rounds
ram_ends_at w bytes h (Named None) text drained rounds none sent is =
    ap (λ (l : List ℕ). l ++ bytes) is ∙ h drained rounds sent ∙ sym (written_is_closed w.table (map RoundPart rounds))
ram_ends_at w bytes h (Named (Some name)) text drained rounds none sent (rest, from, is) =
    let all : file_header ++ (rest ++ bytes) ≡ written w.table (map RoundPart rounds) =
    sym (append_assoc file_header rest bytes) ∙ ap (λ (l : List ℕ). l ++ bytes) (sym from) ∙ h drained rounds sent in
    ap (λ (l : List ℕ). l ++ bytes) is ∙ append_assoc (file_header ++ configuration (Some name)) rest bytes
    ∙ configured_is_closed (Some name) w.table (map RoundPart rounds) (rest ++ bytes) all
ram_ends_at w bytes h (Kept front id) text drained rounds none sent is = absurd (none-some id none)
ram_ends_at w bytes h (Beside name uuid channels) text drained rounds none sent is = absurd is

pub ram_ends : (w : Writer) (bytes : List ℕ)
    → ((drained : List ℕ) (rounds : List (List Page)) → HasSentDrained drained w rounds → drained ++ bytes ≡ single w.table rounds) → Ends None w bytes
ram_ends w bytes h = λ front text drained rounds none sent is. ram_ends_at w bytes h front text drained rounds none sent is

-- those of a machine's stream, to which the end byte is added
machine_ends_at : (w : Writer) (bytes last : List ℕ) → last ≡ bytes ++ end_byte ∷ []
    → ((drained : List ℕ) (rounds : List (List Page)) → HasSentDrained drained w rounds
    → drained ++ bytes ≡ machine_written None w.table (map RoundPart rounds))
    → ((name : Option (List ℕ)) (drained : List ℕ) (rounds : List (List Page)) → HasSentDrained (file_header ++ drained) w rounds
    → file_header ++ configuration name ++ drained ++ bytes ≡ machine_written name w.table (map RoundPart rounds))
    → (front : Front) (text drained : List ℕ) (rounds : List (List Page)) → HasId front None → HasSentDrained drained w rounds
    → IsSoFar front w.table rounds drained text → text ++ last ≡ saved_text front w.table rounds
machine_ends_at w bytes last more h named (Named None) text drained rounds none sent is =
    ap (λ (l : List ℕ). l ++ last) is ∙ ap (λ (l : List ℕ). drained ++ l) more ∙ sym (append_assoc drained bytes (end_byte ∷ []))
    ∙ ap (λ (l : List ℕ). l ++ end_byte ∷ []) (h drained rounds sent)
machine_ends_at w bytes last more h named (Named (Some name)) text drained rounds none sent (rest, from, is) =
    let front : List ℕ = file_header ++ configuration (Some name) ++ rest in
    let has : HasSentDrained (file_header ++ rest) w rounds = subst (λ (l : List ℕ). HasSentDrained l w rounds) from sent in
    ap (λ (l : List ℕ). l ++ last) is ∙ ap (λ (l : List ℕ). front ++ l) more ∙ sym (append_assoc front bytes (end_byte ∷ []))
    ∙ ap (λ (l : List ℕ). l ++ end_byte ∷ []) (named (Some name) rest rounds has)
machine_ends_at w bytes last more h named (Kept front id) text drained rounds none sent is = absurd (none-some id none)
machine_ends_at w bytes last more h named (Beside name uuid channels) text drained rounds none sent is = absurd is

pub machine_ends : (w : Writer) (bytes last : List ℕ) → last ≡ bytes ++ end_byte ∷ []
    → ((drained : List ℕ) (rounds : List (List Page)) → HasSentDrained drained w rounds
    → drained ++ bytes ≡ machine_written None w.table (map RoundPart rounds))
    → ((name : Option (List ℕ)) (drained : List ℕ) (rounds : List (List Page)) → HasSentDrained (file_header ++ drained) w rounds
    → file_header ++ configuration name ++ drained ++ bytes ≡ machine_written name w.table (map RoundPart rounds))
    → Ends None w last
machine_ends w bytes last more h named =
    λ front text drained rounds none sent is. machine_ends_at w bytes last more h named front text drained rounds none sent is

-- RAM's END follows the parts
machine_end : (table : RamTable) (parts : List Part)
    → machine_written None table parts ≡ written_so_far table parts ++ section table sections.End written_id []
unfolding opening
machine_end table parts =
    ap (λ (h : List ℕ). h ++ start_head written_id ++ size_list table ++ body table written_id []
    ++ written_parts table None parts ++ section table sections.End written_id []) (append-nil file_header)

-- those of a machine that is restored: RAM's END, under its id
kept_ends_at : (w : Writer) (bytes last : List ℕ) (own : ℕ)
    → ((drained : List ℕ) (rounds : List (List Page)) → HasSentDrained drained w rounds
    → drained ++ bytes ≡ machine_written None w.table (map RoundPart rounds))
    → ((table : RamTable) (kind : Section) (records : List Record) → bytes ≡ section table kind written_id records → last ≡ section table kind own records)
    → (front : Front) (text drained : List ℕ) (rounds : List (List Page)) → HasId front (Some own) → HasSentDrained drained w rounds
    → IsSoFar front w.table rounds drained text → text ++ last ≡ saved_text front w.table rounds
kept_ends_at w bytes last own h sets (Named name) text drained rounds has sent is = absurd (none-some own (sym has))
kept_ends_at w bytes last own h sets (Beside name uuid channels) text drained rounds has sent is = absurd is
kept_ends_at w bytes last own h sets (Kept front id) text drained rounds has sent (from, is) =
    let so_far : List ℕ = written_so_far w.table (map RoundPart rounds) in
    let is_end : bytes ≡ section w.table sections.End written_id [] =
    append_cancel_left so_far bytes (section w.table sections.End written_id [])
    (ap (λ (l : List ℕ). l ++ bytes) (sym from) ∙ h drained rounds sent ∙ machine_end w.table (map RoundPart rounds)) in
    let same : own ≡ id = same_Some own id has in
    ap (λ (l : List ℕ). l ++ last) is
    ∙ ap (λ (l : List ℕ). (front ++ body w.table id [] ++ kept_parts w.table id None rounds) ++ l) (sets w.table sections.End [] is_end)
    ∙ ap (λ (n : ℕ). (front ++ body w.table id [] ++ kept_parts w.table id None rounds) ++ section w.table sections.End n []) same

pub kept_ends : (w : Writer) (bytes last : List ℕ) (own : ℕ)
    → ((drained : List ℕ) (rounds : List (List Page)) → HasSentDrained drained w rounds
    → drained ++ bytes ≡ machine_written None w.table (map RoundPart rounds))
    → ((table : RamTable) (kind : Section) (records : List Record) → bytes ≡ section table kind written_id records → last ≡ section table kind own records)
    → Ends (Some own) w last
kept_ends w bytes last own h sets = λ front text drained rounds has sent is. kept_ends_at w bytes last own h sets front text drained rounds has sent is

-- ---- a piece

-- where the older bytes are the same, or there are no pages, no page differs
same_differ : (size : ℕ) (bytes : List ℕ) (before : Option (List ℕ)) (page : ℕ) → 0 < size
    → MatchOption before (bytes ≡ []) (λ old. old ≡ bytes)
    → Differs (record { size = size; bytes = bytes; before = before }) page → ⊥
same_differ size bytes None page some same d =
    absurd (omega (arith, some, d.is_there, ap (λ (l : List ℕ). length l) same))
same_differ size bytes (Some old) page some same d =
    d.is_new (record {
      was_there = subst (λ (l : List ℕ). page * size + size ≤ length l) (sym same) d.is_there;
      same = ap (λ (l : List ℕ). take ((page * size + size) - page * size) (drop (page * size) l)) same;
    })

-- so nothing is sent
pub same_sent : (holds : Front → RamTable → List ℕ → List Page → Type 0) (u : Option (List ℕ)) (block first : ℕ) (piece : Piece)
    → (0 < piece.size → (page : ℕ) → Differs piece page → ⊥) → SendsPiece holds holds u u block first piece
same_sent holds u block first piece same = λ front table text pages some had. record {
  bytes = [];
  sent = [];
  has_bytes = appends_none u;
  are_sent = none_differs block first piece 256 (same some);
  has_sent = subst (λ (l : List ℕ). holds front table l (pages ++ [])) (sym (append-nil text))
      (subst (λ (l : List Page). holds front table text l) (sym (append-nil pages)) had);
}

-- what `are_same` tells
same_bytes : (bytes : List ℕ) (before : Option (Bor (List ℕ))) (same : Bool) → IsTrue same
    → MatchOption before (IsTrue same ↔ (bytes ≡ [])) (λ old. IsTrue same ↔ (old.now ≡ bytes))
    → MatchOption (option_copied before) (bytes ≡ []) (λ old. old ≡ bytes)
same_bytes bytes None same is tells = tells.0 is
same_bytes bytes (Some old) same is tells = tells.0 is

pub same_pages : (pages : Pages) (same : Bool) → IsTrue same
    → MatchOption pages.before (IsTrue same ↔ (pages.bytes.now ≡ [])) (λ old. IsTrue same ↔ (old.now ≡ pages.bytes.now))
    → 0 < pages.page_size → (page : ℕ) → Differs (piece_of pages) page → ⊥
same_pages pages same is tells some page d =
    same_differ pages.page_size pages.bytes.now (option_copied pages.before) page some (same_bytes pages.bytes.now pages.before same is tells) d

-- a section of the piece's pages was sent, and its bytes were written, with the stream's id
pub section_sent : (old new : Option (List ℕ)) (block first : ℕ) (piece : Piece) (bytes put : List ℕ) (s t : Sending) (v : Writer)
    → Appends old new put → HasSentSection block first piece s.sender v → t.sender.table ≡ v.table
    → ((drained : List ℕ) (rounds : List (List Page)) → HasSentDrained drained v rounds
    → drained ++ bytes ≡ written_so_far v.table (map RoundPart rounds))
    → ((drained : List ℕ) (rounds : List (List Page)) → HasSentDrained drained v rounds → HasSentDrained (drained ++ bytes) t.sender rounds)
    → t.id ≡ s.id → (s.id ≡ None → put ≡ bytes) → SetsId s.id bytes put
    → SendsPiece (IsSending s) (IsSending t) old new block first piece
section_sent old new block first piece bytes put s t v grows section same_t all drains kept same sets = λ front table text pages some is.
    let rounds : List (List Page) = is.rounds ++ section.sent ∷ [] in
    let round : IsRound table section.sent = subst (λ (t : RamTable). IsRound t section.sent) is.has_table section.is_round in
    let has : HasSentDrained is.drained v rounds = section.goes_on is.drained is.rounds is.has_sent in
    let of : v.table ≡ table = section.same_table ∙ is.has_table in
    record {
      bytes = put;
      sent = section.sent;
      has_bytes = grows;
      are_sent = section.are_sent;
      has_sent = record {
        rounds = rounds;
        drained = is.drained ++ bytes;
        has_table = same_t ∙ of;
        has_sent = drains is.drained rounds has;
        is_so_far = more_so_far front s.id table is.rounds section.sent is.drained text bytes put is.has_id is.is_so_far
            (all is.drained rounds has ∙ ap (λ (t : RamTable). written_so_far t (map RoundPart rounds)) of) same sets;
        has_pages = all_pages-push is.rounds section.sent ∙ ap (λ (l : List Page). l ++ section.sent) is.has_pages;
        are_rounds = All-append (IsRound table) is.rounds (section.sent ∷ []) is.are_rounds
            (All-cons (IsRound table) section.sent [] round (All-nil (IsRound table)));
        has_id = subst (λ (o : Option ℕ). HasId front o) (sym kept) is.has_id;
      };
    }
