-- A channel that is scanned: a piece is read result by result, to its end or to a fault.
use Rattle.std.proofs.Common.{ℕ, ◌≡◌, ◌≢◌, ◌+◌, ◌-◌, ◌<◌, ◌≤◌, Bool, true, false, List, [], ◌∷◌, ◌++◌, append_assoc, length, take, drop, refl, sym, ap, subst}
use Rattle.std.proofs.Common.{◌∙◌, inl, inr, Option, Some, None, arith}
use Rattle.std.specs.Prelude.{◌↔◌, IsFalse, IfSome}
use Rattle.std.specs.Option.{IsSomeAnd}
use Rattle.std.proofs.lemmas.Bool.{ne_eqb}
use Rattle.std.proofs.lemmas.List.{append-nil, length-append, length-drop, take-append-drop}
use Rattle.std.proofs.Math.Seq.{take-add}
use Rattle.mig_packet.specs.declared.state.ChannelState.{ChannelState}
use Rattle.mig_packet.specs.declared.state.ChannelState.TheVariants.{Reading, Closed, Bad}
use Rattle.mig_packet.specs.declared.page_reader.ChannelEvent.{ChannelEvent}
use Rattle.mig_packet.specs.declared.page_reader.ChannelEvent.TheVariants as event
use Rattle.mig_packet.specs.declared.page_reader.PageContent.{PageContent}
use Rattle.mig_packet.specs.Packet.{Fields, is_sync, normal_count}
use Rattle.mig_packet.specs.Progress.{ChannelProgress, start, after_packet}
use Rattle.mig_packet.specs.PageSize.{IsPageSize}
use Rattle.mig_packet.specs.Reading.{Settings, ChannelReading, IsReading, state_at}
use Rattle.mig_packet.specs.Reader.{HasState, IsValidUpTo}
use Rattle.mig_packet.specs.Paging.{GivenSoFar, OpenPacket, PageHolder, Gives, GivesOn, HolderTells, HasReading, Comes, Completes, Stops, NeedsMore, IsShort}
use Rattle.mig_packet.specs.Paging.{is_complete, bytes_of, open_bytes, read_to, kept_of, with_came, with_packet}
use Rattle.mig_packet.proofs.PagingSteps.{none_kept}
use Rattle.mig_packet.proofs.Later.{Reads-more}
use Rattle.mig_packet.proofs.Exists.{one_reading_law}
use Rattle.mig_packet.proofs.Unique.{one_reading}
use Rattle.mig_load_types.specs.declared.fault.Fault.{Fault}
use Rattle.mig_answer.specs.declared.status.Status.TheVariants.{Whole}
use Rattle.mig_answer.specs.Status.{channel_end, channel_status, fault_of}
use Rattle.mig_answer.specs.Texts.{Text}
use Rattle.mig_answer.proofs.Statuses.{status_whole, status_end}
use Rattle.mig_sources.specs.Faults.{HasChannelFault}
use Rattle.mig_session.specs.Scan.{most, Counts, Scan, IsRead, ReadsOn, Scans, HasOnly}

-- ---- the state of a reader

-- the state that a reader returns is the one that it found, while it isn't ended
pub state_found : (given : Settings) (bytes : List ℕ) (gave : GivenSoFar) (r : PageHolder) (state : ChannelState) → IsFalse r.ended
    → Gives given bytes gave r → HasState given bytes r.ended state → state ≡ r.found
state_found given bytes gave r state running gives told =
    let has = told.1 in
    let same = one_reading (start given.page_size given.uuid given.channels given.waiting) bytes (read_to gave.read gave.packet) has.to
    (open_bytes gave.packet ++ r.kept) has.rest r.found has.found gives.reads has.reads in
    told.2 ∙ has.has_state ∙ ap (λ (b : Bool). state_at b has.to has.rest has.found) running ∙ sym same.2

no_rest : (rest : List ℕ) → (rest ≢ [] → ⊥) → rest ≡ []
no_rest [] none = refl
no_rest (byte ∷ rest) none = absurd (none (λ e. absurd cc))

-- a reader that goes on has taken all bytes
pub all_taken : (given : Settings) (bytes : List ℕ) (gave : GivenSoFar) (r : PageHolder) (state : ChannelState) → IsFalse r.ended → state ≡ Reading
    → HolderTells r (λ given text so_far. HasState given text r.ended state) → IsRead given bytes gave r → Gives given bytes gave r
all_taken given bytes gave r state running is told read =
    let found : r.found ≡ Reading = sym (state_found given read.taken gave r state running read.gives (told given read.taken gave read.gives)) ∙ is in
    let none : read.rest ≡ [] = no_rest read.rest (λ some. read.is_over some found) in
    let all : bytes ≡ read.taken = read.has_bytes ∙ ap (λ (l : List ℕ). read.taken ++ l) none ∙ append-nil read.taken in
    subst (λ (l : List ℕ). Gives given l gave r) (sym all) read.gives

-- so many, and one more where a round was completed
abbrev pub more : Bool → ℕ → ℕ
more true n = n + 1
more false n = n

-- one that doesn't go on takes none of a piece
pub none_taken : (piece : List ℕ) (rounds : ℕ) (r : PageHolder) (state : ChannelState) → IsFalse r.ended → state ≢ Reading
    → HolderTells r (λ given text so_far. HasState given text r.ended state) → ReadsOn piece rounds rounds r r
none_taken piece rounds r state running other told given bytes gave read counted = (
  gave,
  record {
    taken = read.taken;
    rest = read.rest ++ piece;
    has_bytes = ap (λ (l : List ℕ). l ++ piece) read.has_bytes ∙ append_assoc read.taken read.rest piece;
    gives = read.gives;
    is_over = λ some is. other (state_found given read.taken gave r state running read.gives (told given read.taken gave read.gives) ∙ is);
    is_given = read.is_given;
  },
  counted,
)

-- ---- in a piece

-- n bytes of a piece were taken, and the rounds that they complete counted
pub record IsAt (piece : List ℕ) (n before after : ℕ) (old r : PageHolder) : Type 0 where
  pub within : n ≤ length piece
  pub has_fed : r.fed ≡ old.fed + n
  pub has_ended : r.ended ≡ old.ended
  pub gives : (given : Settings) (bytes : List ℕ) (gave : GivenSoFar) → IsRead given bytes gave old → Counts before (length gave.read.rounds)
      → (now : GivenSoFar) × Gives given (bytes ++ take n piece) now r × Counts after (length now.read.rounds)

pub at_first : (piece : List ℕ) (rounds : ℕ) (r : PageHolder) (state : ChannelState) → IsFalse r.ended → state ≡ Reading
    → HolderTells r (λ given text so_far. HasState given text r.ended state) → IsAt piece 0 rounds rounds r r
at_first piece rounds r state running is told = record {
  within = omega arith;
  has_fed = omega arith;
  has_ended = refl;
  gives = λ given bytes gave read counted. (
    gave,
    subst (λ (l : List ℕ). Gives given l gave r) (sym (append-nil bytes)) (all_taken given bytes gave r state running is told read),
    counted,
  );
}

-- the bytes of one more call
bytes_more : (bytes piece : List ℕ) (n k : ℕ) → (bytes ++ take n piece) ++ take k (drop n piece) ≡ bytes ++ take (n + k) piece
bytes_more bytes piece n k = append_assoc bytes (take n piece) (take k (drop n piece)) ∙ ap (λ (l : List ℕ). bytes ++ l) (sym (take-add n k piece))

-- a result that completes no round, or one that may
abbrev pub Completed : ChannelEvent → Bool → PageHolder → PageHolder → Type 0
Completed answer sync old new = (given : Settings) (text : List ℕ) (so_far : GivenSoFar) → Gives given text so_far old
    → length (with_came answer new so_far).read.rounds ≡ more sync (length so_far.read.rounds)

-- a counter went on
abbrev pub CountsOn : Bool → ℕ → ℕ → Type 0
CountsOn sync before after = (n : ℕ) → Counts before n → Counts after (more sync n)

pub counts_on : (sync : Bool) (before after : ℕ) → (sync ≡ true → (n : ℕ) → Counts before n → Counts after (n + 1)) → (sync ≡ false → after ≡ before)
    → CountsOn sync before after
counts_on true before after one none n counted = one refl n counted
counts_on false before after one none n counted = subst (λ (a : ℕ). Counts a n) (sym (none refl)) counted

pub at_next : (piece : List ℕ) (n k first before after : ℕ) (sync : Bool) (answer : ChannelEvent) (old r new : PageHolder) → k ≤ length piece - n
    → GivesOn (take k (drop n piece)) answer r new → new.fed ≡ r.fed + k → new.ended ≡ r.ended → Completed answer sync r new → CountsOn sync before after
    → IsAt piece n first before old r → IsAt piece (n + k) first after old new
at_next piece n k first before after sync answer old r new within on fed ended done counts at = record {
  within = omega (arith, within, at.within);
  has_fed = omega (arith, fed, at.has_fed);
  has_ended = ended ∙ at.has_ended;
  gives = λ given bytes gave read counted. (
      let now = at.gives given bytes gave read counted in (
        with_came answer new now.0,
        subst (λ (l : List ℕ). Gives given l (with_came answer new now.0) new) (bytes_more bytes piece n k) (on given (bytes ++ take n piece) now.0 now.1),
        subst (Counts after) (sym (done given (bytes ++ take n piece) now.0 now.1)) (counts (length now.0.read.rounds) now.2),
      )
      );
}

-- a result that completes no round
pub at_pass : (piece : List ℕ) (n k first rounds : ℕ) (answer : ChannelEvent) (old r new : PageHolder) → k ≤ length piece - n
    → GivesOn (take k (drop n piece)) answer r new → new.fed ≡ r.fed + k → new.ended ≡ r.ended → Completed answer false r new
    → IsAt piece n first rounds old r → IsAt piece (n + k) first rounds old new
at_pass piece n k first rounds answer old r new within on fed ended done at =
    at_next piece n k first rounds rounds false answer old r new within on fed ended done (λ m counted. counted) at

-- ---- results

-- a hello, a head and a page complete no round
pub hello_completes : (id : ℕ) (old new : PageHolder) → Completed (event.Hello id) false old new
hello_completes id old new given text so_far gives = refl

pub head_completes : (old new : PageHolder) → Completed event.Head false old new
head_completes old new given text so_far gives = refl

pub page_completes : (offset : ℕ) (page : PageContent) (old new : PageHolder) → Completed (event.Page offset page) false old new
page_completes offset page old new given text so_far gives = refl

rounds_after : (c : ChannelProgress) (packet : List ℕ) (sync : Bool) → is_sync packet ≡ sync
    → length (after_packet c packet).rounds ≡ more sync (length c.rounds)
rounds_after c packet true is = rw is (length-append c.rounds ((c.packets ++ packet ∷ []) ∷ []))
rounds_after c packet false is = rw is refl

packet_of : (size : ℕ) (sync : Bool) (read : ChannelProgress) (o : Option OpenPacket) → IsSomeAnd o (λ packet. Completes size packet sync)
    → length (with_packet read o).rounds ≡ more sync (length read.rounds)
packet_of size sync read None none = absurd none
packet_of size sync read (Some packet) done =
    rounds_after read (bytes_of packet) sync (sym (ap (λ (q : Fields). q.sync) done.is_packet.1) ∙ done.has_sync)

-- a packet with SYNC completes one
pub packet_completes : (sync : Bool) (old new : PageHolder) → HolderTells old (λ given text so_far. Comes given.page_size (event.Packet sync) so_far)
    → Completed (event.Packet sync) sync old new
packet_completes sync old new comes given text so_far gives = packet_of given.page_size sync so_far.read so_far.packet (comes given text so_far gives)

-- ---- where no more is given

empty : (l : List ℕ) → length l ≡ 0 → l ≡ []
empty [] none = refl
empty (byte ∷ l) none = absurd (omega (arith, none))

short_missing : (o : Option OpenPacket) (r : PageHolder) → IsShort r (kept_of o) → IfSome o (λ packet. IsFalse (is_complete packet))
short_missing None r short = tt
short_missing (Some p) r short = ne_eqb (length p.pages) (normal_count p.head) (omega (arith, short.0))

none_missing : (o : Option OpenPacket) → o ≡ None → IfSome o (λ packet. IsFalse (is_complete packet))
none_missing o none = subst (λ (p : Option OpenPacket). IfSome p (λ packet. IsFalse (is_complete packet))) (sym none) tt

parted : (bytes piece : List ℕ) (n : ℕ) → bytes ++ piece ≡ (bytes ++ take n piece) ++ drop n piece
parted bytes piece n = ap (λ (l : List ℕ). bytes ++ l) (sym (take-append-drop n piece)) ∙ sym (append_assoc bytes (take n piece) (drop n piece))

-- more is needed: the piece was taken to its end
pub at_more : (piece : List ℕ) (n k first rounds : ℕ) (old r new : PageHolder) → k ≤ length piece - n
    → GivesOn (take k (drop n piece)) event.More r new → Stops event.More k (drop n piece) new → NeedsMore event.More new
    → IsAt piece n first rounds old r → ReadsOn piece first rounds old new
at_more piece n k first rounds old r new within on stops needs at given bytes gave read counted =
    let now = at.gives given bytes gave read counted in
    let gives : Gives given (bytes ++ take (n + k) piece) now.0 new =
    subst (λ (l : List ℕ). Gives given l now.0 new) (bytes_more bytes piece n k) (on given (bytes ++ take n piece) now.0 now.1) in
    let none : drop (n + k) piece ≡ [] = empty (drop (n + k) piece) (omega (arith, stops.0, length-drop n piece, length-drop (n + k) piece, at.within)) in (
      now.0,
      record {
        taken = bytes ++ take (n + k) piece;
        rest = drop (n + k) piece;
        has_bytes = parted bytes piece (n + k);
        gives = gives;
        is_over = λ some. absurd (some none);
        is_given = short_missing now.0.packet new (subst (λ (o : Option (List ℕ × ℕ)). IsShort new o) gives.has_packet needs);
      },
      now.2,
    )

-- there is a fault: the bytes behind it aren't read
pub at_over : (piece : List ℕ) (n k first rounds : ℕ) (old r new : PageHolder) → IsFalse old.ended
    → GivesOn (take k (drop n piece)) event.Over r new → Stops event.Over k (drop n piece) new → new.ended ≡ r.ended
    → IsAt piece n first rounds old r → ReadsOn piece first rounds old new
at_over piece n k first rounds old r new running on stops ended at given bytes gave read counted =
    let now = at.gives given bytes gave read counted in
    let gives : Gives given (bytes ++ take (n + k) piece) now.0 new =
    subst (λ (l : List ℕ). Gives given l now.0 new) (bytes_more bytes piece n k) (on given (bytes ++ take n piece) now.0 now.1) in
    let over : (new.found ≢ Reading) × (new.packet ≡ None) = elim stops [
      | inl faulty ↦ faulty
      | inr ends ↦ absurd (let open_ : new.ended ≡ false = ended ∙ at.has_ended ∙ running in cc)
    ] in (
      now.0,
      record {
        taken = bytes ++ take (n + k) piece;
        rest = drop (n + k) piece;
        has_bytes = parted bytes piece (n + k);
        gives = gives;
        is_over = λ some. over.0;
        is_given = none_missing now.0.packet (none_kept now.0.packet (sym gives.has_packet ∙ over.1));
      },
      now.2,
    )

-- ---- what its bytes say

state_same : (ended : Bool) (to : ChannelProgress) (rest more : List ℕ) (found : ChannelState) → found ≢ Reading
    → state_at ended to rest found ≡ state_at ended to (rest ++ more) found
state_same false to rest more found other = refl
state_same true to rest more Reading other = absurd (other refl)
state_same true to rest more Closed other = refl
state_same true to rest more (Bad fault) other = refl

-- more bytes behind a fault leave a reading as it is
reading_behind : (given : Settings) (taken more : List ℕ) (ended : Bool) (reading : ChannelReading) (is : IsReading given taken ended reading)
    → is.found ≢ Reading → IsReading given (taken ++ more) ended reading
reading_behind given taken more ended reading is other = record {
  to = is.to;
  rest = is.rest ++ more;
  found = is.found;
  reads = Reads-more (start given.page_size given.uuid given.channels given.waiting) taken is.to is.rest more is.found other is.reads;
  has_hello = is.has_hello;
  has_rounds = is.has_rounds;
  has_state = is.has_state ∙ state_same ended is.to is.rest more is.found other;
}

found_same : (given : Settings) (taken : List ℕ) (gave : GivenSoFar) (r : PageHolder) (ended : Bool) (reading : ChannelReading) → Gives given taken gave r
    → (is : IsReading given taken ended reading) → is.found ≡ r.found
found_same given taken gave r ended reading gives is =
    sym (one_reading (start given.page_size given.uuid given.channels given.waiting) taken (read_to gave.read gave.packet) is.to
    (open_bytes gave.packet ++ r.kept) is.rest r.found is.found gives.reads is.reads).2

-- the reading of the bytes that were taken is that of all
reading_all : (given : Settings) (taken rest : List ℕ) (gave : GivenSoFar) (r : PageHolder) (ended : Bool) (reading : ChannelReading) → Gives given taken gave r
    → (rest ≢ [] → r.found ≢ Reading) → IsReading given taken ended reading → IsReading given (taken ++ rest) ended reading
reading_all given taken [] gave r ended reading gives over is = subst (λ (l : List ℕ). IsReading given l ended reading) (sym (append-nil taken)) is
reading_all given taken (byte ∷ rest) gave r ended reading gives over is =
    reading_behind given taken (byte ∷ rest) ended reading is (λ e. over (λ none. absurd cc) (sym (found_same given taken gave r ended reading gives is) ∙ e))

-- what a scan says of all bytes: the hello, how many rounds are complete, and the state
pub record SaysOf (given : Settings) (text : Text) (s : Scan) (state : ChannelState) : Type 0 where
  pub reading : ChannelReading
  pub is_reading : IsReading given text.bytes text.ended reading
  pub has_hello : reading.hello ≡ s.reader.hello
  pub has_rounds : Counts s.rounds (length reading.rounds)
  pub has_state : reading.state ≡ state

rounds_read : (read : ChannelProgress) (o : Option OpenPacket) → IfSome o (λ packet. IsFalse (is_complete packet)) → (read_to read o).rounds ≡ read.rounds
rounds_read read None given = refl
rounds_read read (Some packet) given = rw given refl

pub says_of : (given : Settings) (text : Text) (s : Scan) (state : ChannelState)
    → HolderTells s.reader (λ given bytes so_far. HasReading given bytes s.reader.ended so_far state) → Scans given text s → SaysOf given text s state
says_of given text s state told scans =
    let read = scans.is_read in
    let has = told given read.taken scans.gave read.gives in
    let all : IsReading given (read.taken ++ read.rest) s.reader.ended has.reading =
    reading_all given read.taken read.rest scans.gave s.reader s.reader.ended has.reading read.gives read.is_over has.is_reading in
    let here : IsReading given text.bytes s.reader.ended has.reading = subst (λ (l : List ℕ). IsReading given l s.reader.ended has.reading)
    (sym read.has_bytes) all in
    record {
      reading = has.reading;
      is_reading = subst (λ (b : Bool). IsReading given text.bytes b has.reading) scans.has_ended here;
      has_hello = has.has_hello ∙ sym read.gives.has_hello;
      has_rounds = subst (λ (l : List (List (List ℕ))). Counts s.rounds (length l))
          (sym (has.has_rounds ∙ rounds_read scans.gave.read scans.gave.packet read.is_given)) scans.has_rounds;
      has_state = has.has_state;
    }

-- the fault
pub fault_says : (given : Settings) (text : Text) (s : Scan) (state : ChannelState) (found : Option Fault) → SaysOf given text s state
    → found ≡ fault_of (channel_end state) → HasChannelFault given text found
fault_says given text s state found says is = (state, (says.reading, says.is_reading, sym says.has_state), is)

-- up to which byte it is valid
pub valid_says : (given : Settings) (text : Text) (s : Scan) (n : ℕ) → HolderTells s.reader (λ given bytes so_far. IsValidUpTo given bytes n)
    → Scans given text s → IsValidUpTo given text.bytes n
valid_says given text s n told scans =
    let read = scans.is_read in
    let has : IsValidUpTo given read.taken n = told given read.taken scans.gave read.gives in
    subst (λ (l : List ℕ). IsValidUpTo given l n) (sym read.has_bytes) (valid_all given read.taken read.rest scans.gave s.reader n read.gives read.is_over has)
  where
    valid_all : (given : Settings) (taken rest : List ℕ) (gave : GivenSoFar) (r : PageHolder) (n : ℕ) → Gives given taken gave r
        → (rest ≢ [] → r.found ≢ Reading) → IsValidUpTo given taken n → IsValidUpTo given (taken ++ rest) n
    valid_all given taken [] gave r n gives over v = subst (λ (l : List ℕ). IsValidUpTo given l n) (sym (append-nil taken)) v
    valid_all given taken (byte ∷ rest) gave r n gives over v =
        let from : ChannelProgress = start given.page_size given.uuid given.channels given.waiting in
        let same : r.found ≡ v.found = (one_reading from taken (read_to gave.read gave.packet) v.to
        (open_bytes gave.packet ++ r.kept) v.rest r.found v.found gives.reads v.reads).2 in
        let other : v.found ≢ Reading = λ e. over (λ none. absurd cc) (same ∙ e) in
        let on = Reads-more from taken v.to v.rest (byte ∷ rest) v.found other v.reads in
        record {
          to = v.to;
          rest = v.rest ++ byte ∷ rest;
          found = v.found;
          reads = on;
          has_length = omega (
            arith,
            v.has_length,
            ap (λ (l : List ℕ). length l) v.reads.has_text,
            length-append v.reads.front v.rest,
            ap (λ (l : List ℕ). length l) on.has_text,
            length-append on.front (v.rest ++ byte ∷ rest),
            length-append v.rest (byte ∷ rest),
            length-append taken (byte ∷ rest),
          );
        }

-- the reading of a text is what a scan says of it
pub same_reading : (given : Settings) (text : Text) (s : Scan) (state : ChannelState) (reading : ChannelReading) → IsPageSize given.page_size
    → (says : SaysOf given text s state) → IsReading given text.bytes text.ended reading → says.reading ≡ reading
same_reading given text s state reading size says is =
    let law = one_reading_law given text.bytes text.ended size in
    law.2 says.reading says.is_reading ∙ sym (law.2 reading is)

-- ---- how many rounds there are

-- a counter that is 0 counts nothing
none_counted : (counter n : ℕ) → Counts counter n → counter ≡ 0 → n ≡ 0
none_counted counter n counted zero = elim counted [
  | inl same ↦ sym same ∙ zero
  | inr full ↦ absurd (omega (arith, full.0, zero))
]

-- one that isn't counts some
some_counted : (counter n : ℕ) → Counts counter n → counter ≢ 0 → 0 < n
some_counted counter n counted some = elim counted [
  | inl same ↦ (let not : n ≢ 0 = λ e. some (same ∙ e) in omega (arith, not))
  | inr full ↦ omega (arith, full.1)
]

-- a counter that is below the most counts exactly
pub same_count : (counter n k : ℕ) → Counts counter n → k < most → (counter ≡ k) ↔ (n ≡ k)
same_count counter n k counted below = elim counted [
  | inl same ↦ (λ e. sym same ∙ e, λ e. same ∙ e)
  | inr full ↦ (λ e. absurd (omega (arith, full.0, below, e)), λ e. absurd (omega (arith, full.1, below, e)))
]

-- its status at the first round
pub first_whole : (given : Settings) (text : Text) (s : Scan) (state : ChannelState) (reading : ChannelReading) → IsPageSize given.page_size
    → SaysOf given text s state → IsReading given text.bytes text.ended reading → s.rounds ≢ 0 → Whole ≡ channel_status 0 reading
first_whole given text s state reading size says is some =
    let same = same_reading given text s state reading size says is in
    let counted : Counts s.rounds (length reading.rounds) = subst (λ (r : ChannelReading). Counts s.rounds (length r.rounds)) same says.has_rounds in
    sym (status_whole 0 (length reading.rounds) (channel_end reading.state) (some_counted s.rounds (length reading.rounds) counted some))

pub first_end : (given : Settings) (text : Text) (s : Scan) (state : ChannelState) (reading : ChannelReading) → IsPageSize given.page_size
    → SaysOf given text s state → IsReading given text.bytes text.ended reading → s.rounds ≡ 0 → channel_end state ≡ channel_status 0 reading
first_end given text s state reading size says is none =
    let same = same_reading given text s state reading size says is in
    let counted : Counts s.rounds (length reading.rounds) = subst (λ (r : ChannelReading). Counts s.rounds (length r.rounds)) same says.has_rounds in
    ap channel_end (sym says.has_state ∙ ap (λ (r : ChannelReading). r.state) same)
    ∙ sym (status_end 0 (length reading.rounds) (channel_end reading.state) (sym (none_counted s.rounds (length reading.rounds) counted none)))

-- whether it has k rounds, no further one, and no fault
pub only_says : (given : Settings) (text : Text) (s : Scan) (state : ChannelState) (reading : ChannelReading) (k : ℕ) → IsPageSize given.page_size
    → SaysOf given text s state → IsReading given text.bytes text.ended reading → k < most
    → ((s.rounds ≡ k) × (fault_of (channel_end state) ≡ None)) ↔ HasOnly k reading
only_says given text s state reading k size says is below =
    let same = same_reading given text s state reading size says is in
    let counted : Counts s.rounds (length reading.rounds) = subst (λ (r : ChannelReading). Counts s.rounds (length r.rounds)) same says.has_rounds in
    let here : reading.state ≡ state = ap (λ (r : ChannelReading). r.state) (sym same) ∙ says.has_state in
    let count = same_count s.rounds (length reading.rounds) k counted below in (
      λ both. record { has_rounds = count.0 both.0; has_no_fault = ap (λ (x : ChannelState). fault_of (channel_end x)) here ∙ both.1 },
      λ only. (count.1 only.has_rounds, ap (λ (x : ChannelState). fault_of (channel_end x)) (sym here) ∙ only.has_no_fault),
    )

-- its hello is the reading's
pub hello_says : (given : Settings) (text : Text) (s : Scan) (state : ChannelState) (reading : ChannelReading) → IsPageSize given.page_size
    → SaysOf given text s state → IsReading given text.bytes text.ended reading → s.reader.hello ≡ reading.hello
hello_says given text s state reading size says is =
    sym says.has_hello ∙ ap (λ (r : ChannelReading). r.hello) (same_reading given text s state reading size says is)

-- it was given no more bytes than it has
pub fed_few : (given : Settings) (text : Text) (s : Scan) → Scans given text s → s.reader.fed ≤ length text.bytes
fed_few given text s scans =
    let read = scans.is_read in
    omega (arith, read.gives.has_fed, ap (λ (l : List ℕ). length l) read.has_bytes, length-append read.taken read.rest)

-- the fault of the bytes is the reading's
pub fault_read : (given : Settings) (text : Text) (reading : ChannelReading) (found : Option Fault) → IsPageSize given.page_size
    → HasChannelFault given text found → IsReading given text.bytes text.ended reading
    → found ≡ fault_of (channel_end reading.state)
fault_read given text reading found size has is =
    let state = has.1 in
    let one = one_reading_law given text.bytes text.ended size in
    let same : state.0 ≡ reading = one.2 state.0 state.1 ∙ sym (one.2 reading is) in
    has.2 ∙ ap (λ (x : ChannelState). fault_of (channel_end x)) (state.2 ∙ ap (λ (x : ChannelReading). x.state) same)
