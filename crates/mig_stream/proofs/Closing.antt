-- The byte at which a stream is closed, and its valid prefix.
use Rattle.std.proofs.Common.{◌≡◌, ◌≢◌, ℕ, ◌+◌, ◌-◌, ◌<◌, ◌^◌, false, List, [], ◌++◌, length, get_or, take, drop, Option, Some, None, refl, sym, ap, subst, ◌∙◌}
use Rattle.std.proofs.Common.{◌⊎◌, inl, inr, append_assoc, arith}
use Rattle.std.specs.Prelude.{IfSome}
use Rattle.std.proofs.lemmas.List.{append-nil, length-append, length-drop, take_at, drop_at, take-append-drop, get_or_append_left, get_or-append_right}
use Rattle.mig_stream.specs.declared.item.Frame.TheVariants.{Machine}
use Rattle.mig_stream.specs.declared.item.Mode.TheVariants.{Single}
use Rattle.mig_stream.specs.declared.item.Before.TheVariants as before
use Rattle.mig_stream.specs.declared.item.Due.{Due}
use Rattle.mig_stream.specs.declared.item.Due.TheVariants.{TypeByte}
use Rattle.mig_stream.specs.declared.item.StreamState.{StreamState}
use Rattle.mig_stream.specs.declared.item.StreamState.TheVariants.{Reading, Closed}
use Rattle.mig_stream.specs.Progress.{StreamProgress, start, whole_table}
use Rattle.mig_stream.specs.Format.{full_type}
use Rattle.mig_stream.specs.Items.{size}
use Rattle.mig_stream.specs.Reading.{Settings, Front, Ends, Reads, IsReading}
use Rattle.mig_stream.specs.Reader.{Reader, with_taken, Tells, HasState, HasFront, IsValidUpTo, IsClosedAt, HasClosedAt}
use Rattle.mig_stream.specs.Law.{ClosedIsFirst}
use Rattle.mig_stream.specs.Giving.{Giver, GivenSoFar, all_read, Gives, GiverTells, IsBehind, Paused, giver_at, PauseTells}
use Rattle.mig_stream.proofs.Later.{Reads-more}
use Rattle.mig_stream.proofs.Unique.{one_reading}
use Rattle.mig_stream.proofs.Stopping.{over_is}
use Rattle.mig_stream.proofs.Plain.{single_from, machine_from}

abbrev from : Settings → StreamProgress
from given = start given.frame given.mode given.page_size given.limit given.waiting

-- a stream that is read closed, with some bytes left, is closed at the bytes before them
pub closed_by : (given : Settings) (text : List ℕ) (to : StreamProgress) (rest : List ℕ) (n : ℕ)
    → Reads (from given) text to rest Closed → n + length rest ≡ length text → IsClosedAt given text n
closed_by given text to rest n r count = record {
  is_closed = (
    record { table = whole_table to; rounds = to.rounds; state = Closed },
    record { to = to; rest = rest; reads = r; has_table = refl; has_rounds = refl },
    refl,
  );
  is_valid_up_to = record {
    to = to;
    rest = rest;
    state = Closed;
    reads = r;
    has_length = omega (arith, count, ap length r.has_text, length-append r.front rest);
  };
}

-- the reading of a stream that is closed at a byte
closed_reads : (given : Settings) (text : List ℕ) (n : ℕ) (c : IsClosedAt given text n)
    → Reads (from given) text c.is_valid_up_to.to c.is_valid_up_to.rest Closed
closed_reads given text n c =
    let v = c.is_valid_up_to in
    let is : IsReading given text c.is_closed.0 = c.is_closed.1 in
    let same = one_reading (from given) text is.to v.to is.rest v.rest c.is_closed.0.state v.state is.reads v.reads in
    subst (λ (x : StreamState). Reads (from given) text v.to v.rest x) (sym same.2 ∙ sym c.is_closed.2) v.reads

-- whatever bytes follow it
pub closed_more : (given : Settings) (text more : List ℕ) (n : ℕ) → IsClosedAt given text n → IsClosedAt given (text ++ more) n
closed_more given text more n c =
    let v = c.is_valid_up_to in
    let r = closed_reads given text n c in
    closed_by given (text ++ more) v.to (v.rest ++ more) n
    (Reads-more (from given) text v.to v.rest more Closed (λ e. absurd cc) r)
    (omega (arith, v.has_length, ap length v.reads.has_text, length-append v.reads.front v.rest, length-append text more, length-append v.rest more))

-- ---- closed by which bytes

-- fewer bytes than are read of a closed stream don't close it
closed_first : (given : Settings) (text : List ℕ) (to : StreamProgress) (rest : List ℕ) (n m : ℕ) → Reads (from given) text to rest Closed
    → n + length rest ≡ length text → m < n → HasState given (take m text) false Closed → ⊥
closed_first given text to rest n m r count lt s =
    let is : IsReading given (take m text) s.0 = s.1 in
    let there : Reads (from given) (take m text) is.to is.rest Closed =
    subst (λ (x : StreamState). Reads (from given) (take m text) is.to is.rest x) (sym s.2) is.reads in
    let on = Reads-more (from given) (take m text) is.to is.rest (drop m text) Closed (λ e. absurd cc) there in
    let whole : Reads (from given) text is.to (is.rest ++ drop m text) Closed =
    subst (λ (x : List ℕ). Reads (from given) x is.to (is.rest ++ drop m text) Closed) (take-append-drop m text) on in
    let same = one_reading (from given) text to is.to rest (is.rest ++ drop m text) Closed Closed r whole in
    omega (arith, lt, count, ap length same.1, length-append is.rest (drop m text), length-drop m text)

-- a stream is closed by its first bytes, where these are read so
closed_take : (given : Settings) (text front rest : List ℕ) (to : StreamProgress) (k : ℕ) → take k text ≡ front ++ rest → Front (from given) front to
    → Ends to rest Closed → HasState given (take k text) false Closed
closed_take given text front rest to k own leads ends = (
  record { table = whole_table to; rounds = to.rounds; state = Closed },
  record {
    to = to;
    rest = rest;
    reads = record { front = front; has_text = own; leads = leads; ends = ends };
    has_table = refl;
    has_rounds = refl;
  },
  refl,
)

-- the type byte of a device
one_byte : (d : Due) (page_size : ℕ) (item : List ℕ) → d ≡ TypeByte before.Footer → length item ≡ size page_size d item → length item ≡ 1
one_byte d page_size item type whole = whole ∙ ap (λ (k : Due). size page_size k item) type

pub closed_is_first : ClosedIsFirst
closed_is_first given text n c = record {
  fits = omega (arith, v.has_length, ap length v.reads.has_text, length-append v.reads.front v.rest);
  is_closed = by reads.ends;
  is_first = λ m lt s. closed_first given text v.to v.rest n m reads count lt s;
}
  where
    v : IsValidUpTo given text n
    v = c.is_valid_up_to

    reads : Reads (from given) text v.to v.rest Closed
    reads = closed_reads given text n c

    count : n + length v.rest ≡ length text
    count = omega (arith, v.has_length, ap length v.reads.has_text, length-append v.reads.front v.rest)

    len : length reads.front ≡ n
    len = omega (arith, count, ap length reads.has_text, length-append reads.front v.rest)

    by : Ends v.to v.rest Closed → HasState given (take n text) false Closed
        ⊎ ((given.frame ≡ Machine) × (given.mode ≡ Single) × (get_or text n 0 ≡ full_type) × HasState given (take (n + 1) text) false Closed)
    by (inl due) =
        inl (closed_take given text reads.front [] v.to n
        (ap (take n) reads.has_text ∙ take_at reads.front v.rest n len ∙ sym (append-nil reads.front)) reads.leads (inl due))
    by (inr over) =
        let at = over_is v.to over.0 over.4 in
        let one : length over.0 ≡ 1 = one_byte v.to.due v.to.page_size over.0 at.is_type over.3.is_whole in
        let spelled : text ≡ reads.front ++ (over.0 ++ over.1) = reads.has_text ∙ ap (λ (x : List ℕ). reads.front ++ x) over.2 in
        let regrouped : text ≡ (reads.front ++ over.0) ++ over.1 = spelled ∙ sym (append_assoc reads.front over.0 over.1) in
        let byte : get_or text n 0 ≡ get_or (over.0 ++ over.1) 0 0 =
        ap (λ (x : List ℕ). get_or x n 0) spelled ∙ get_or-append_right reads.front (over.0 ++ over.1) n n 0 len (omega arith)
        ∙ ap (λ (k : ℕ). get_or (over.0 ++ over.1) k 0) (omega arith) in
        inr (
          machine_from given reads.front v.to at.in_machine reads.leads,
          single_from given reads.front v.to at.in_single reads.leads,
          byte ∙ get_or_append_left over.0 over.1 0 0 (omega (arith, one)) ∙ at.is_full,
          closed_take given text reads.front over.0 v.to (n + 1)
              (ap (take (n + 1)) regrouped ∙ take_at (reads.front ++ over.0) over.1 (n + 1) (omega (arith, len, one, length-append reads.front over.0)))
              reads.leads (inr (over.0, [], sym (append-nil over.0), over.3, over.4)),
        )

-- a closed stream is closed at the offset that its reader keeps
pub closed_stands : (r : Reader) → r.found ≡ Closed → Tells r (λ given so_far. IsClosedAt given so_far.text r.valid_up_to)
closed_stands r closed given so_far s =
    closed_by given so_far.text (with_taken s.rounds r.progress) s.rest r.valid_up_to
    (subst (λ (x : StreamState). Reads (from given) so_far.text (with_taken s.rounds r.progress) s.rest x) closed s.reads) s.has_valid_up_to

-- a stream that isn't closed has no place at which it is
pub open_stands : (r : Reader) → r.found ≢ Closed → Tells r (λ given so_far. HasClosedAt given so_far.text None)
open_stands r other given so_far s = (
  record { table = whole_table r.progress; rounds = s.rounds ++ r.progress.rounds; state = r.found },
  record { to = with_taken s.rounds r.progress; rest = s.rest; reads = s.reads; has_table = refl; has_rounds = refl },
  other,
)

-- the bytes that a reader left when it found the stream closed are those behind it
pub behind_stands : (r : Giver) → r.found ≡ Some Closed → GiverTells r (λ given text so_far. IsBehind given text r.rest)
behind_stands r closed given text so_far g =
    let to : StreamProgress = all_read so_far r.progress in
    let ends : Ends to r.rest Closed = subst (λ o. IfSome o (λ s. Ends to r.rest s)) closed g.ends in
    record {
      closed_at = length g.front;
      is_closed_at = closed_by given text to r.rest (length g.front)
          (record { front = g.front; has_text = g.has_text; leads = g.leads; ends = ends }) (sym (ap length g.has_text ∙ length-append g.front r.rest));
      has_rest = sym (ap (drop (length g.front)) g.has_text ∙ drop_at g.front r.rest (length g.front) refl);
    }

-- ---- the valid prefix of a stream

-- the offset that a reader keeps is where its stream's bytes are valid up to
pub valid_stands : (r : Reader) → Tells r (λ given so_far. IsValidUpTo given so_far.text r.valid_up_to)
valid_stands r given so_far s = record {
  to = with_taken s.rounds r.progress;
  rest = s.rest;
  state = r.found;
  reads = s.reads;
  has_length = omega (arith, s.has_valid_up_to, ap length s.reads.has_text, length-append s.reads.front s.rest);
}

-- the length of the prefix, if this many bytes were fed and these are left
front_length : (text front rest : List ℕ) (fed n : ℕ) → text ≡ front ++ rest → fed ≡ length text → n ≡ fed - length rest → length front ≡ n
front_length text front rest fed n is fed_is n_is = omega (arith, n_is, fed_is, ap length is, length-append front rest)

-- the bytes fed without those left are read without a fault
pub front_given : (r : Giver) (n : ℕ) → n ≡ r.fed - length r.rest → GiverTells r (λ given text so_far. length text < 2 ^ 64 → HasFront given text n)
front_given r n is given text so_far g few = record {
  to = all_read so_far r.progress;
  front = g.front;
  rest = r.rest;
  has_text = g.has_text;
  has_length = front_length text g.front r.rest r.fed n g.has_text (g.has_fed few) is;
  leads = g.leads;
}

valid_where : (r : Giver) (n : ℕ) (o : Option StreamState) → r.found ≡ o → o ≢ None → n ≡ r.fed - length r.rest
    → (given : Settings) (text : List ℕ) (so_far : GivenSoFar) → Gives given text so_far r → length text < 2 ^ 64 → IsValidUpTo given text n
valid_where r n None found some is given text so_far g few = absurd (some refl)
valid_where r n (Some state) found some is given text so_far g few =
    let to : StreamProgress = all_read so_far r.progress in
    let ends : Ends to r.rest state = subst (λ o. IfSome o (λ s. Ends to r.rest s)) found g.ends in
    record {
      to = to;
      rest = r.rest;
      state = state;
      reads = record { front = g.front; has_text = g.has_text; leads = g.leads; ends = ends };
      has_length = front_length text g.front r.rest r.fed n g.has_text (g.has_fed few) is;
    }

-- once a reader has found an end or a fault, the bytes fed without those left are the valid ones
pub valid_given : (r : Giver) (n : ℕ) → n ≡ r.fed - length r.rest → r.found ≢ None
    → GiverTells r (λ given text so_far. length text < 2 ^ 64 → IsValidUpTo given text n)
valid_given r n is some = valid_where r n r.found refl some is

-- between two pieces the bytes fed without those kept are the valid ones
pub valid_paused : (p : Paused) (n : ℕ) → n ≡ p.fed - length p.pending → PauseTells p (λ given text so_far. length text < 2 ^ 64 → IsValidUpTo given text n)
valid_paused p n is = valid_where (giver_at p) n (Some Reading) refl (λ e. absurd cc) is
