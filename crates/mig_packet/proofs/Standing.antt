-- What a reader represents after a call, and what it returns.
use Rattle.std.proofs.Common.{◌≡◌, ◌≢◌, ℕ, ◌+◌, ◌-◌, ◌<◌, get_or, Bool, true, false, List, [], ◌∷◌, ◌++◌, length}
use Rattle.std.proofs.Common.{Option, Some, None, refl, sym, ap, subst, ◌∙◌, append_assoc, arith}
use Rattle.std.specs.Prelude.{IfSome, IfNone}
use Rattle.std.proofs.lemmas.List.{length-append, append-nil, get_or_at}
use Rattle.mig_packet.specs.declared.state.ChannelState.{ChannelState}
use Rattle.mig_packet.specs.declared.state.ChannelState.TheVariants.{Reading, Closed, Bad}
use Rattle.mig_packet.specs.Progress.{ChannelProgress, start}
use Rattle.mig_packet.specs.Reading.{Reads, ChannelReading, Settings, IsReading, state_at, state_at_end}
use Rattle.mig_packet.specs.Reader.{Reader, RoundOfPackets, IsUnfinished, ReadsOn, with_taken, HasState, IsFinal, HasHello, HasRound}
use Rattle.mig_packet.specs.Reader.{SoFar, Stands, StepsOn, Tells, nothing_yet, with_piece, one_taken, waiting}
use Rattle.mig_packet.proofs.Feeding.{reads_short}
use Rattle.mig_packet.proofs.Later.{Reads-on, Reads-more, IsLater-front}
use Rattle.mig_packet.proofs.Unique.{one_reading}

-- where these settings start
abbrev from : Settings → ChannelProgress
from given = start given.page_size given.uuid given.channels given.waiting

-- before the first byte
pub stands_first : (given : Settings) (r : Reader) → r.progress ≡ from given → r.pending ≡ [] → r.found ≡ Reading
    → r.valid_up_to ≡ 0 → r.fed ≡ 0 → r.ended ≡ false
    → Stands given nothing_yet r
stands_first given r progress pending found valid fed ended =
    let none : IsUnfinished (from given) [] = record { has_no_fault = refl; is_short = λ le. absurd (omega (arith, le)) } in
    record {
      has_fed = fed;
      has_ended = ended;
      rounds = [];
      has_taken = refl;
      rest = [];
      reads = subst (λ (s : ChannelState). Reads (from given) [] r.progress [] s) (sym found)
          (subst (λ (c : ChannelProgress). Reads (from given) [] c [] Reading) (sym progress) (reads_short (from given) [] none));
      has_pending = λ _. sym pending;
      has_valid_up_to = omega (arith, valid);
    }

-- after a piece that was read
pub fed_on : (old mid : Reader) (piece : List ℕ) (left valid_up_to : ℕ) → valid_up_to ≡ mid.fed + length piece - left → old.found ≡ Reading
    → ReadsOn old.progress (old.pending ++ piece) mid.progress mid.pending left mid.found → mid.fed ≡ old.fed → mid.ended ≡ old.ended
    → StepsOn (with_piece piece) old (record mid { valid_up_to = valid_up_to; fed = mid.fed + length piece })
fed_on old mid piece left valid_up_to at_is reading run same_fed same_ended = λ given so_far s.
    let text : List ℕ = so_far.text in
    let kept : s.rest ≡ old.pending = s.has_pending reading in
    let reads : Reads (from given) text (with_taken s.rounds old.progress) old.pending Reading =
    subst (λ (x : ChannelState). Reads (from given) text (with_taken s.rounds old.progress) old.pending x) reading
    (subst (λ (x : List ℕ). Reads (from given) text (with_taken s.rounds old.progress) x old.found) kept s.reads) in
    record {
      has_fed = omega (arith, same_fed, s.has_fed, length-append text piece);
      has_ended = same_ended ∙ s.has_ended;
      rounds = s.rounds;
      has_taken = s.has_taken;
      rest = run.rest;
      reads = Reads-on s.rounds (from given) old.progress mid.progress text old.pending piece run.rest mid.found reads run.reads;
      has_pending = run.has_rest;
      has_valid_up_to =
          let bytes : length (text ++ piece) ≡ length s.reads.front + length run.reads.front + length run.rest =
          length-append text piece ∙ omega (
            arith,
            ap length s.reads.has_text,
            length-append s.reads.front s.rest,
            ap length kept,
            ap length run.reads.has_text,
            length-append old.pending piece,
            length-append run.reads.front run.rest,
          ) in
          omega (arith, at_is, bytes, run.has_left, same_fed, s.has_fed, length-append text piece);
    }

-- after a piece that is only counted
pub fed_past : (old : Reader) (piece : List ℕ) → old.found ≢ Reading → StepsOn (with_piece piece) old (record old { fed = old.fed + length piece })
fed_past old piece other = λ given so_far s. record {
  has_fed = omega (arith, s.has_fed, length-append so_far.text piece);
  has_ended = s.has_ended;
  rounds = s.rounds;
  has_taken = s.has_taken;
  rest = s.rest ++ piece;
  reads = Reads-more (from given) so_far.text (with_taken s.rounds old.progress) s.rest piece old.found other s.reads;
  has_pending = λ reading. absurd (other reading);
  has_valid_up_to = omega (arith, s.has_valid_up_to, length-append s.rest piece, length-append so_far.text piece);
}

-- after a round that was taken
taken_on : (old new : Reader) (round : List (List ℕ)) → old.progress ≡ with_taken (round ∷ []) new.progress → new.pending ≡ old.pending → new.found ≡ old.found
    → new.valid_up_to ≡ old.valid_up_to → new.fed ≡ old.fed → new.ended ≡ old.ended → StepsOn one_taken old new
taken_on old new round same same_pending same_found same_valid same_fed same_ended = λ given so_far s.
    let all : with_taken s.rounds old.progress ≡ with_taken (s.rounds ++ round ∷ []) new.progress =
    ap (with_taken s.rounds) same
    ∙ ap (λ (x : List (List (List ℕ))). record new.progress { rounds = x }) (sym (append_assoc s.rounds (round ∷ []) new.progress.rounds)) in
    record {
      has_fed = same_fed ∙ s.has_fed;
      has_ended = same_ended ∙ s.has_ended;
      rounds = s.rounds ++ round ∷ [];
      has_taken = omega (arith, length-append s.rounds (round ∷ []), s.has_taken);
      rest = s.rest;
      reads = subst (λ (x : ChannelState). Reads (from given) so_far.text (with_taken (s.rounds ++ round ∷ []) new.progress) s.rest x) (sym same_found)
          (subst (λ (x : ChannelProgress). Reads (from given) so_far.text x s.rest old.found) all s.reads);
      has_pending = λ reading. s.has_pending (sym same_found ∙ reading) ∙ sym same_pending;
      has_valid_up_to = omega (arith, s.has_valid_up_to, same_valid);
    }

-- the first round that a reader holds was taken from it
abbrev IsTakenFrom : ChannelProgress → ChannelProgress → RoundOfPackets → Type 0
IsTakenFrom old new r = old ≡ with_taken (r.packets ∷ []) new

-- a round that is taken leaves the reader as it stands after that
pub taken_each : (o : Option RoundOfPackets) (old new : Reader) (c d : ChannelProgress) → old.progress ≡ c → new ≡ record old { progress = d }
    → IfSome o (IsTakenFrom c d) → IfSome o (λ r. StepsOn one_taken old new)
taken_each None old new c d e f h = tt
taken_each (Some r) old new c d e f h =
    taken_on old new r.packets (e ∙ h ∙ ap (λ (x : Reader). with_taken (r.packets ∷ []) x.progress) (sym f))
    (ap (λ (x : Reader). x.pending) f) (ap (λ (x : Reader). x.found) f) (ap (λ (x : Reader). x.valid_up_to) f)
    (ap (λ (x : Reader). x.fed) f) (ap (λ (x : Reader). x.ended) f)

-- one round fewer waits
pub fewer_each : (o : Option RoundOfPackets) (old new : Reader) (c d : ChannelProgress) → old.progress ≡ c → new.progress ≡ d
    → IfSome o (IsTakenFrom c d) → IfSome o (λ r. waiting old ≡ waiting new + 1)
fewer_each None old new c d e f h = tt
fewer_each (Some r) old new c d e f h =
    let held : waiting old ≡ length (r.packets ∷ d.rounds) = ap (λ (x : ChannelProgress). length x.rounds) (e ∙ h) in
    let left : waiting new ≡ length d.rounds = ap (λ (x : ChannelProgress). length x.rounds) f in
    omega (arith, held, left)

-- ---- what a reader returns is the reading

-- the reading of the bytes that it represents
abbrev told : (r : Reader) (taken : List (List (List ℕ))) (ended : Bool) (rest : List ℕ) → ChannelReading
told r taken ended rest =
    record { hello = r.progress.hello; rounds = taken ++ r.progress.rounds; state = state_at ended (with_taken taken r.progress) rest r.found }

is_told : (given : Settings) (so_far : SoFar) (r : Reader) (ended : Bool) (s : Stands given so_far r)
    → IsReading given so_far.text ended (told r s.rounds ended s.rest)
is_told given so_far r ended s =
    record { to = with_taken s.rounds r.progress; rest = s.rest; found = r.found; reads = s.reads; has_hello = refl; has_rounds = refl; has_state = refl }

-- and there is no other
told_alone : (given : Settings) (so_far : SoFar) (r : Reader) (ended : Bool) (s : Stands given so_far r) (reading : ChannelReading)
    → (is : IsReading given so_far.text ended reading) → (with_taken s.rounds r.progress ≡ is.to) × (s.rest ≡ is.rest) × (r.found ≡ is.found)
told_alone given so_far r ended s reading is =
    one_reading (from given) so_far.text (with_taken s.rounds r.progress) is.to s.rest is.rest r.found is.found s.reads is.reads

-- the bytes after the front are asked for where the channel has no fault
state_kept : (ended : Bool) (c : ChannelProgress) (taken : List (List (List ℕ))) (rest pending : List ℕ) (found : ChannelState)
    → (found ≡ Reading → rest ≡ pending) → state_at ended c pending found ≡ state_at ended (with_taken taken c) rest found
state_kept true c taken rest pending Reading same = ap (λ (x : List ℕ). state_at_end c.hello x c.packets) (sym (same refl))
state_kept true c taken rest pending Closed same = refl
state_kept true c taken rest pending (Bad f) same = refl
state_kept false c taken rest pending Reading same = refl
state_kept false c taken rest pending Closed same = refl
state_kept false c taken rest pending (Bad f) same = refl

-- the state that a reader computes is the one of its channel so far
pub state_stands : (r : Reader) (state : ChannelState) → state ≡ state_at r.ended r.progress r.pending r.found
    → Tells r (λ given so_far. HasState given so_far.text so_far.ended state)
state_stands r state e = λ given so_far s. (
  told r s.rounds so_far.ended s.rest,
  is_told given so_far r so_far.ended s,
  e ∙ ap (λ (x : Bool). state_at x r.progress r.pending r.found) s.has_ended
      ∙ state_kept so_far.ended r.progress s.rounds s.rest r.pending r.found s.has_pending,
)

-- a reader that reads on represents no bytes with a fault
pub not_settled : (r : Reader) → r.found ≡ Reading → Tells r (λ given so_far. IsFinal given so_far.text → ⊥)
not_settled r reading = λ given so_far s settled.
    let is : IsReading given so_far.text false settled.1.0 = settled.1.1 in
    let same = told_alone given so_far r false s settled.1.0 is in
    settled.2 (settled.1.2 ∙ is.has_state ∙ sym same.2 ∙ reading)

-- the hello that a reader keeps is the one of its channel so far
pub hello_stands : (r : Reader) (hello : Option ℕ) → hello ≡ r.progress.hello → Tells r (λ given so_far. HasHello given so_far.text hello)
hello_stands r hello e = λ given so_far s. (told r s.rounds false s.rest, is_told given so_far r false s, e)

round_stands : (given : Settings) (so_far : SoFar) (old : Reader) (new : ChannelProgress) (round : List (List ℕ))
    → old.progress ≡ with_taken (round ∷ []) new → Stands given so_far old → HasRound given so_far.text so_far.taken round
round_stands given so_far old new round same s =
    let rounds : s.rounds ++ old.progress.rounds ≡ s.rounds ++ round ∷ new.rounds = ap (λ (x : ChannelProgress). s.rounds ++ x.rounds) same in (
      told old s.rounds false s.rest,
      is_told given so_far old false s,
      omega (arith, ap length rounds, length-append s.rounds (round ∷ new.rounds), s.has_taken),
      ap (λ (x : List (List (List ℕ))). get_or x so_far.taken []) rounds ∙ get_or_at s.rounds round new.rounds [] so_far.taken s.has_taken,
    )

-- the page size that the reader was made with
same_page_size : (given : Settings) (so_far : SoFar) (r : Reader) → Stands given so_far r → r.progress.page_size ≡ given.page_size
same_page_size given so_far r s = (IsLater-front (from given) (with_taken s.rounds r.progress) s.reads.front s.reads.leads).1.same_page_size

-- what take_round says of a round
abbrev RoundIs : Reader → RoundOfPackets → Type 0
RoundIs old r = Tells old (λ given so_far. (r.page_size ≡ given.page_size) × HasRound given so_far.text so_far.taken r.packets)

-- a round that is taken is the channel's next one
pub round_each : (o : Option RoundOfPackets) (old : Reader) (c d : ChannelProgress) → old.progress ≡ c
    → IfSome o (IsTakenFrom c d) → IfSome o (λ r. r.page_size ≡ c.page_size) → IfSome o (RoundIs old)
round_each None old c d e h size = tt
round_each (Some r) old c d e h size = λ given so_far s.
    (size ∙ ap (λ (x : ChannelProgress). x.page_size) (sym e) ∙ same_page_size given so_far old s, round_stands given so_far old d r.packets (e ∙ h) s)

-- what it says where there is none
abbrev NoRound : Reader → Type 0
NoRound old = Tells old (λ given so_far. (i : ℕ) (round : List (List ℕ)) → HasRound given so_far.text i round → i < so_far.taken)

no_round : (old : Reader) → old.progress.rounds ≡ [] → NoRound old
no_round old none = λ given so_far s i round h.
    let is : IsReading given so_far.text false h.0 = h.1 in
    let same = told_alone given so_far old false s h.0 is in
    let rounds : h.0.rounds ≡ s.rounds =
    is.has_rounds ∙ ap (λ (x : ChannelProgress). x.rounds) (sym same.0) ∙ ap (λ (x : List (List (List ℕ))). s.rounds ++ x) none ∙ append-nil s.rounds in
    omega (arith, h.2, ap length rounds, s.has_taken)

-- if no round is there, the channel has no further one
pub none_each : (X : Type 0) (o : Option RoundOfPackets) (old : Reader) (c : ChannelProgress) → old.progress ≡ c
    → IfNone o ((c.rounds ≡ []) × X) → IfNone o (NoRound old)
none_each X None old c e h = no_round old (ap (λ (x : ChannelProgress). x.rounds) e ∙ h.0)
none_each X (Some x) old c e h = tt
