-- What a reader represents after a call, and what it returns.
use Rattle.std.proofs.Common.{◌≡◌, ◌≢◌, ℕ, ◌+◌, ◌-◌, ◌<◌, get_or, Bool, true, false, All, List, [], ◌∷◌, ◌++◌, length, Option, Some, None, refl, sym, ap, subst}
use Rattle.std.proofs.Common.{◌∙◌, append_assoc, arith}
use Rattle.std.specs.Prelude.{IfSome, IfNone}
use Rattle.std.proofs.lemmas.List.{length-append, append-nil, get_or_at}
use Rattle.std.specs.Bool.{then_some}
use Rattle.mig_mem.specs.RamTable.{RamTable}
use Rattle.mig_mem.specs.Place.{IsPlace}
use Rattle.mig_stream.specs.declared.item.StreamState.{StreamState}
use Rattle.mig_stream.specs.declared.item.StreamState.TheVariants.{Reading}
use Rattle.mig_stream.specs.PageRecord.{PageRecord}
use Rattle.mig_stream.specs.Progress.{StreamProgress, start, is_used_up, table_of, whole_table}
use Rattle.mig_stream.specs.Reading.{Settings, Reads, StreamReading, IsReading, state_at}
use Rattle.mig_stream.specs.Round.{RoundOfRecords}
use Rattle.mig_stream.specs.Reader.{Reader, ReadsOn, with_taken, SoFar, nothing_yet, with_piece, one_taken, Stands, StepsOn, Tells, waiting, HasState, IsFinal}
use Rattle.mig_stream.specs.Reader.{HasTable, HasRound}
use Rattle.mig_stream.proofs.Feeding.{reads_short}
use Rattle.mig_stream.proofs.Later.{Reads-on, Reads-more}
use Rattle.mig_stream.proofs.Steps.{IsLater-front}
use Rattle.mig_stream.proofs.Unique.{one_reading}
use Rattle.mig_stream.proofs.Placing.{placed_front}

-- before the first byte of a stream with these settings
abbrev from : Settings → StreamProgress
from given = start given.frame given.mode given.page_size given.limit given.waiting

-- a reader stands before the first byte
pub stands_first : (given : Settings) (r : Reader)
    → r.progress ≡ start given.frame given.mode given.page_size given.limit given.waiting → r.pending ≡ [] → r.found ≡ Reading
    → r.valid_up_to ≡ 0 → r.fed ≡ 0 → r.ended ≡ false
    → Stands given nothing_yet r
stands_first given r progress pending found valid fed ended = record {
  has_fed = fed;
  has_ended = ended;
  rounds = [];
  has_taken = refl;
  rest = [];
  reads = subst (λ (s : StreamState). Reads (from given) [] r.progress [] s) (sym found)
      (subst (λ (c : StreamProgress). Reads (from given) [] c [] Reading) (sym progress) (reads_short (from given) [] (omega arith)));
  has_pending = λ _. sym pending;
  has_valid_up_to = omega (arith, valid);
}

-- after a piece that was read
pub fed_on : (old mid : Reader) (piece : List ℕ) (left valid_up_to : ℕ) → valid_up_to ≡ mid.fed + length piece - left → old.found ≡ Reading
    → ReadsOn old.progress (old.pending ++ piece) mid.progress mid.pending left mid.found → mid.fed ≡ old.fed → mid.ended ≡ old.ended
    → StepsOn (with_piece piece) old (record mid { valid_up_to = valid_up_to; fed = mid.fed + length piece })
fed_on old mid piece left valid_up_to at_is reading run same_fed same_ended given so_far s =
    let text : List ℕ = so_far.text in
    let kept : s.rest ≡ old.pending = s.has_pending reading in
    let reads : Reads (from given) text (with_taken s.rounds old.progress) old.pending Reading =
    subst (λ (x : StreamState). Reads (from given) text (with_taken s.rounds old.progress) old.pending x) reading
    (subst (λ (x : List ℕ). Reads (from given) text (with_taken s.rounds old.progress) x old.found) kept s.reads) in
    record {
      has_fed = omega (arith, same_fed, s.has_fed, length-append text piece);
      has_ended = same_ended ∙ s.has_ended;
      rounds = s.rounds;
      has_taken = s.has_taken;
      rest = run.rest;
      reads = Reads-on s.rounds (from given) old.progress mid.progress text old.pending piece run.rest mid.found reads run.reads;
      has_pending = run.has_rest;
      has_valid_up_to =
          let bytes : length (text ++ piece) ≡ length s.reads.front + length run.reads.front + length run.rest =
          length-append text piece ∙ omega (
            arith,
            ap length s.reads.has_text,
            length-append s.reads.front s.rest,
            ap length kept,
            ap length run.reads.has_text,
            length-append old.pending piece,
            length-append run.reads.front run.rest,
          ) in
          omega (arith, at_is, bytes, run.has_left, same_fed, s.has_fed, length-append text piece);
    }

-- after a complete stream that was read at once
pub text_read : (given : Settings) (r : Reader) (text : List ℕ) (left : ℕ)
    → ReadsOn (from given) text r.progress r.pending left r.found → r.valid_up_to ≡ length text - left → r.fed ≡ length text → r.ended ≡ false
    → Stands given (with_piece text nothing_yet) r
text_read given r text left run valid fed ended = record {
  has_fed = fed;
  has_ended = ended;
  rounds = [];
  has_taken = refl;
  rest = run.rest;
  reads = run.reads;
  has_pending = run.has_rest;
  has_valid_up_to = omega (arith, valid, run.has_left, ap length run.reads.has_text, length-append run.reads.front run.rest);
}

-- after a piece that is only counted
pub fed_past : (old : Reader) (piece : List ℕ) → old.found ≢ Reading → StepsOn (with_piece piece) old (record old { fed = old.fed + length piece })
fed_past old piece other given so_far s = record {
  has_fed = omega (arith, s.has_fed, length-append so_far.text piece);
  has_ended = s.has_ended;
  rounds = s.rounds;
  has_taken = s.has_taken;
  rest = s.rest ++ piece;
  reads = Reads-more (from given) so_far.text (with_taken s.rounds old.progress) s.rest piece old.found other s.reads;
  has_pending = λ reading. absurd (other reading);
  has_valid_up_to = omega (arith, s.has_valid_up_to, length-append s.rest piece, length-append so_far.text piece);
}

-- after a round that was taken
taken_on : (old new : Reader) (round : List PageRecord)
    → old.progress ≡ with_taken (round ∷ []) new.progress → new.pending ≡ old.pending → new.found ≡ old.found
    → new.valid_up_to ≡ old.valid_up_to → new.fed ≡ old.fed → new.ended ≡ old.ended → StepsOn one_taken old new
taken_on old new round same same_pending same_found same_valid same_fed same_ended given so_far s =
    let all : with_taken s.rounds old.progress ≡ with_taken (s.rounds ++ round ∷ []) new.progress =
    ap (with_taken s.rounds) same ∙ ap (λ (x : List (List PageRecord)). record new.progress { rounds = x })
    (sym (append_assoc s.rounds (round ∷ []) new.progress.rounds)) in
    record {
      has_fed = same_fed ∙ s.has_fed;
      has_ended = same_ended ∙ s.has_ended;
      rounds = s.rounds ++ round ∷ [];
      has_taken = omega (arith, length-append s.rounds (round ∷ []), s.has_taken);
      rest = s.rest;
      reads = subst (λ (x : StreamState). Reads (from given) so_far.text (with_taken (s.rounds ++ round ∷ []) new.progress) s.rest x) (sym same_found)
          (subst (λ (x : StreamProgress). Reads (from given) so_far.text x s.rest old.found) all s.reads);
      has_pending = λ reading. s.has_pending (sym same_found ∙ reading) ∙ sym same_pending;
      has_valid_up_to = omega (arith, s.has_valid_up_to, same_valid);
    }

-- a round that is taken leaves the reader as it stands after that
pub taken_each : (o : Option RoundOfRecords) (old new : Reader) (p0 p1 : StreamProgress) → old.progress ≡ p0 → new ≡ record old { progress = p1 }
    → IfSome o (λ r. p0 ≡ with_taken (r.records ∷ []) p1) → IfSome o (λ r. StepsOn one_taken old new)
taken_each None old new p0 p1 e f h = tt
taken_each (Some r) old new p0 p1 e f h =
    taken_on old new r.records (e ∙ h ∙ ap (λ (x : Reader). with_taken (r.records ∷ []) x.progress) (sym f))
    (ap (λ (x : Reader). x.pending) f) (ap (λ (x : Reader). x.found) f) (ap (λ (x : Reader). x.valid_up_to) f)
    (ap (λ (x : Reader). x.fed) f) (ap (λ (x : Reader). x.ended) f)

-- and one waits less
pub fewer_each : (o : Option RoundOfRecords) (old new : Reader) (p0 p1 : StreamProgress) → old.progress ≡ p0 → new ≡ record old { progress = p1 }
    → IfSome o (λ r. p0 ≡ with_taken (r.records ∷ []) p1) → IfSome o (λ r. waiting old ≡ waiting new + 1)
fewer_each None old new p0 p1 e f h = tt
fewer_each (Some r) old new p0 p1 e f h =
    let one : length old.progress.rounds ≡ length (r.records ∷ new.progress.rounds) =
    ap (λ (x : StreamProgress). length x.rounds) (e ∙ h ∙ ap (λ (x : Reader). with_taken (r.records ∷ []) x.progress) (sym f)) in
    omega (arith, one)

-- ---- what a reader returns is the reading

-- the reading of the stream that it represents
abbrev told : (r : Reader) (taken : List (List PageRecord)) → StreamReading
told r taken = record { table = whole_table r.progress; rounds = taken ++ r.progress.rounds; state = r.found }

is_told : (given : Settings) (so_far : SoFar) (r : Reader) (s : Stands given so_far r) → IsReading given so_far.text (told r s.rounds)
is_told given so_far r s = record { to = with_taken s.rounds r.progress; rest = s.rest; reads = s.reads; has_table = refl; has_rounds = refl }

-- the state that a reader computes is the one of its stream so far
pub state_stands : (r : Reader) (state : StreamState) → state ≡ state_at r.ended r.found
    → Tells r (λ given so_far. HasState given so_far.text so_far.ended state)
state_stands r state e given so_far s = (told r s.rounds, is_told given so_far r s, e ∙ ap (λ (x : Bool). state_at x r.found) s.has_ended)

-- a reader that reads on isn't settled
pub unsettled : (r : Reader) → r.found ≡ Reading → Tells r (λ given so_far. IsFinal given so_far.text → ⊥)
unsettled r reading given so_far s settled =
    let is : IsReading given so_far.text settled.0 = settled.1 in
    let same = one_reading (from given) so_far.text (with_taken s.rounds r.progress) is.to s.rest is.rest r.found settled.0.state s.reads is.reads in
    settled.2 (sym same.2 ∙ reading)

-- the table that a reader keeps is the one of its stream so far
pub table_stands : (r : Reader) (table : Option RamTable) → table ≡ whole_table r.progress → Tells r (λ given so_far. HasTable given so_far.text table)
table_stands r table e given so_far s = (told r s.rounds, is_told given so_far r s, e)

round_stands : (given : Settings) (so_far : SoFar) (old : Reader) (new : StreamProgress) (round : List PageRecord)
    → old.progress ≡ with_taken (round ∷ []) new → Stands given so_far old → HasRound given so_far.text so_far.taken round
round_stands given so_far old new round same s =
    let rounds : s.rounds ++ old.progress.rounds ≡ s.rounds ++ round ∷ new.rounds = ap (λ (x : StreamProgress). s.rounds ++ x.rounds) same in (
      told old s.rounds,
      is_told given so_far old s,
      omega (arith, ap length rounds, length-append s.rounds (round ∷ new.rounds), s.has_taken),
      ap (λ (x : List (List PageRecord)). get_or x so_far.taken []) rounds ∙ get_or_at s.rounds round new.rounds [] so_far.taken s.has_taken,
    )

-- the page size that the reader was made with
same_page_size : (given : Settings) (so_far : SoFar) (r : Reader) → Stands given so_far r → r.progress.page_size ≡ given.page_size
same_page_size given so_far r s = (IsLater-front (from given) (with_taken s.rounds r.progress) s.reads.front s.reads.leads).same_page_size

-- what take_round says of a round
abbrev pub RoundIs : (old : Reader) → RoundOfRecords → Type 0
RoundIs old r = Tells old (λ given so_far. (r.page_size ≡ given.page_size) × HasRound given so_far.text so_far.taken r.records)

-- a round that is taken is the stream's next one
pub round_each : (o : Option RoundOfRecords) (old : Reader) (p0 p1 : StreamProgress) → old.progress ≡ p0 → IfSome o (λ r. p0 ≡ with_taken (r.records ∷ []) p1)
    → IfSome o (λ r. r.page_size ≡ p0.page_size) → IfSome o (RoundIs old)
round_each None old p0 p1 e h size = tt
round_each (Some r) old p0 p1 e h size = λ given so_far s.
    (size ∙ ap (λ (x : StreamProgress). x.page_size) (sym e) ∙ same_page_size given so_far old s, round_stands given so_far old p1 r.records (e ∙ h) s)

-- The table of a stream has the place of each page record of its complete rounds.
places_in : (given : Settings) (text : List ℕ) (i : ℕ) (round : List PageRecord) (table : RamTable) → HasRound given text i round
    → HasTable given text (Some table) → All (λ x. IsPlace table x.place) round
places_in given text i round table h f =
    let a : IsReading given text h.0 = h.1 in
    let b : IsReading given text f.0 = f.1 in
    let same = one_reading (from given) text a.to b.to a.rest b.rest h.0.state f.0.state a.reads b.reads in
    let whole : whole_table a.to ≡ Some table = ap whole_table same.0 ∙ sym (f.2 ∙ b.has_table) in
    let blocks : table.blocks ≡ a.to.blocks = ap (λ (t : RamTable). t.blocks) (table_there (is_used_up a.to.left) (table_of a.to) table whole) in
    let all : All (λ rs. All (λ x. IsPlace table x.place) rs) a.to.rounds =
    placed_front given.frame given.mode given.page_size given.limit given.waiting a.reads.front a.to table a.reads.leads blocks in
    subst (λ (rs : List PageRecord). All (λ x. IsPlace table x.place) rs)
    (ap (λ (x : List (List PageRecord)). get_or x i []) (sym a.has_rounds) ∙ h.3) (all i [] (omega (arith, h.2, ap length a.has_rounds)))
  where
    table_there : (b : Bool) (t u : RamTable) → then_some b t ≡ Some u → u ≡ t
    table_there true t u e = let back : Some u ≡ Some t = sym e in cc
    table_there false t u e = absurd cc

-- what take_round says of the places of a round
abbrev pub PlacesAre : (old : Reader) → RoundOfRecords → Type 0
PlacesAre old r = Tells old (λ given so_far. (table : RamTable) → HasTable given so_far.text (Some table) → All (λ x. IsPlace table x.place) r.records)

-- the pages of a round that is taken lie in the stream's table
pub places_each : (o : Option RoundOfRecords) (old : Reader) (p0 p1 : StreamProgress) → old.progress ≡ p0
    → IfSome o (λ r. p0 ≡ with_taken (r.records ∷ []) p1) → IfSome o (PlacesAre old)
places_each None old p0 p1 e h = tt
places_each (Some r) old p0 p1 e h = λ given so_far s table f. places_in given so_far.text so_far.taken r.records table
    (round_stands given so_far old p1 r.records (e ∙ h) s) f

-- what it says where no round waits
abbrev pub HasNoMore : (old : Reader) → Type 0
HasNoMore old = Tells old (λ given so_far. (i : ℕ) (round : List PageRecord) → HasRound given so_far.text i round → i < so_far.taken)

no_round : (old : Reader) → old.progress.rounds ≡ [] → HasNoMore old
no_round old none given so_far s i round h =
    let is : IsReading given so_far.text h.0 = h.1 in
    let same = one_reading (from given) so_far.text (with_taken s.rounds old.progress) is.to s.rest is.rest old.found h.0.state s.reads is.reads in
    let rounds : h.0.rounds ≡ s.rounds = is.has_rounds ∙ ap (λ (x : StreamProgress). x.rounds) (sym same.0)
    ∙ ap (λ (x : List (List PageRecord)). s.rounds ++ x) none ∙ append-nil s.rounds in
    omega (arith, h.2, ap length rounds, s.has_taken)

-- if no round is there, the stream has no further one
pub none_each : (X : Type 0) (o : Option RoundOfRecords) (old : Reader) (p0 : StreamProgress) → old.progress ≡ p0
    → IfNone o ((p0.rounds ≡ []) × X) → IfNone o (HasNoMore old)
none_each X None old p0 e h = no_round old (ap (λ (x : StreamProgress). x.rounds) e ∙ h.0)
none_each X (Some x) old p0 e h = tt
