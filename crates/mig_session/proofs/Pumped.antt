-- What a pump has read and fed so far.
use Rattle.std.proofs.Common.{ℕ, zero, suc, ◌≡◌, ◌≢◌, ◌+◌, ◌*◌, ◌^◌, ◌<◌, ◌≤◌, List, [], ◌∷◌, ◌++◌, length, take, drop, refl, sym, ap, ◌∙◌, Option, arith}
use Rattle.std.proofs.Common.{subst, inl, inr, get_or, add-zero, add_assoc, Result, Ok, Err}
use Rattle.std.specs.Prelude.{slice_set, IsErr, IsErrAnd, All, Bool, ◌&&◌, nat_lt, if◌then◌else◌}
use Rattle.std.specs.List.{concat}
use Rattle.std.specs.Io.KnownBytes.{Consumes, IsAtEnd}
use Rattle.std.proofs.lemmas.List.{append-nil, length-append, length-take, take_all, drop_all, length-set, get_or-set_same, set-get_or, set-set}
use Rattle.std.proofs.lemmas.List.Folds.{concat-append}
use Rattle.std.proofs.lemmas.List.Elements.{All-nil, All-push}
use Rattle.std.proofs.Math.Dec.{eqb-suc-zero}
use Rattle.std.proofs.KnownBytes.{Consumes-nil, Consumes-trans}
use Rattle.mig_sources.specs.declared.counts.Count.{Count}
use Rattle.mig_sources.specs.declared.source.Source.{Source}
use Rattle.mig_sources.specs.declared.source.Source.TheVariants as source
use Rattle.mig_answer.specs.declared.verdict.Verdict.TheVariants.{Running}
use Rattle.mig_session.specs.declared.pumping.PumpFault.{PumpFault}
use Rattle.mig_session.specs.declared.pumping.PumpFault.TheVariants as pump
use Rattle.mig_answer.specs.Texts.{Texts}
use Rattle.mig_sources.specs.Sources.{Counts, HasSource, no_count, count_of, with_fed, with_end, feed_step, end_step}
use Rattle.mig_answer.specs.MultiLoad.{Answer}
use Rattle.mig_session.specs.Advancing.{failed_without_memory}
use Rattle.mig_session.specs.Session.{Held, LoadSession, answer_in, rounds_loaded, StandsFor, LacksMemory, StepsOn, RunsOut, StillLacks, KeepsRounds}
use Rattle.mig_sources.specs.Reads.{ReadsSoFar, after_pieces, after_end, after_read, piece_limit, IsPiece}
use Rattle.mig_session.specs.Pumping.{Explains, reads_after, HasRead, piece_steps, pump_step, FeedsPieces}

-- ---- counts

-- a source that exists still does once more of its bytes are counted
pub source_stays : (counts : Counts) (from : Source) (n : ℕ) → HasSource counts from → HasSource (with_fed counts from n) from
source_stays counts source.Main n has = tt
source_stays counts (source.Channel j) n has = rw length-set has

-- counting n bytes of a source adds n to its count and leaves its end as it was
pub count_of_fed : (counts : Counts) (from : Source) (n : ℕ) → HasSource counts from
    → count_of (with_fed counts from n) from ≡ record (count_of counts from) { fed = (count_of counts from).fed + n }
count_of_fed counts source.Main n has = refl
count_of_fed counts (source.Channel j) n has = get_or-set_same counts.channels j _ no_count has

-- counting 0 bytes of a source changes no count
pub fed_nothing : (counts : Counts) (from : Source) → with_fed counts from 0 ≡ counts
fed_nothing counts source.Main = ap (λ (n : ℕ). let main : Count = record counts.main { fed = n } in
    let all : Counts = record counts { main = main } in all) (add-zero counts.main.fed)
fed_nothing counts (source.Channel j) =
    let count : Count = get_or counts.channels j no_count in
    ap (λ (n : ℕ). let new : Count = record count { fed = n } in
    let all : Counts = record counts { channels = slice_set counts.channels j new } in all) (add-zero count.fed)
    ∙ ap (λ (channels : List Count). let all : Counts = record counts { channels = channels } in all) (set-get_or counts.channels j no_count)

-- counting m bytes of a source and then n is the same as counting m + n
pub fed_twice : (counts : Counts) (from : Source) (m n : ℕ) → HasSource counts from → with_fed (with_fed counts from m) from n ≡ with_fed counts from (m + n)
fed_twice counts source.Main m n has =
    ap (λ (k : ℕ). let main : Count = record counts.main { fed = k } in let all : Counts = record counts { main = main } in all) (add_assoc counts.main.fed m n)
fed_twice counts (source.Channel j) m n has =
    let count : Count = get_or counts.channels j no_count in
    let more : Count → Count = λ (c : Count). record c { fed = c.fed + n } in
    let mid : Count = record count { fed = count.fed + m } in
    ap (λ (channels : List Count). let all : Counts = record counts { channels = channels } in all)
    (ap (λ (c : Count). slice_set (slice_set counts.channels j mid) j (more c)) (get_or-set_same counts.channels j mid no_count has)
    ∙ set-set counts.channels j mid (more mid)
    ∙ ap (λ (k : ℕ). let new : Count = record count { fed = k } in slice_set counts.channels j new) (add_assoc count.fed m n))

-- ---- pieces

-- feeding some pieces with one more at the end feeds the pieces, and then that one
pub fed_all-push : (from : Source) (pieces : List (List ℕ)) (piece : List ℕ) (texts : Texts)
    → piece_steps from (pieces ++ piece ∷ []) texts ≡ feed_step from piece (piece_steps from pieces texts)
fed_all-push from [] piece texts = refl
fed_all-push from (x ∷ pieces) piece texts = fed_all-push from pieces piece (feed_step from x texts)

-- the bytes of some pieces with one more are theirs, and then its own
pub concat-push : (pieces : List (List ℕ)) (piece : List ℕ) → concat (pieces ++ piece ∷ []) ≡ concat pieces ++ piece
concat-push pieces piece = concat-append pieces (piece ∷ []) ∙ ap (λ (l : List ℕ). concat pieces ++ l) (append-nil piece)

-- some pieces with one more are one more in number
pub length-push : (pieces : List (List ℕ)) (piece : List ℕ) → length (pieces ++ piece ∷ []) ≡ length pieces + 1
length-push pieces piece = length-append pieces (piece ∷ [])

-- some pieces with one more are not none
pub push_is_some : (pieces : List (List ℕ)) (piece : List ℕ) → pieces ++ piece ∷ [] ≢ []
push_is_some [] piece e = cc
push_is_some (x ∷ pieces) piece e = cc

-- pieces are short
pub few_bytes : (pieces : List (List ℕ)) → All IsPiece pieces → length (concat pieces) ≤ length pieces * piece_limit
few_bytes [] all = omega arith
few_bytes (piece ∷ pieces) all =
    let first : IsPiece piece = all 0 [] (omega arith) in
    let rest : length (concat pieces) ≤ length pieces * piece_limit = few_bytes pieces (λ k d below. all (suc k) d (omega (arith, below))) in
    omega (arith, length-append piece (concat pieces), rest, first.is_short)

-- the front of a buffer that a read filled
pub same_front : (n len : ℕ) (piece items : List ℕ) → n ≤ length piece → length piece ≡ length items → length piece ≡ len
    → take n (take len (piece ++ drop (length piece) items)) ≡ take n piece
same_front n len piece items le same is =
    ap (λ (rest : List ℕ). take n (take len (piece ++ rest))) (drop_all (length piece) items (omega arith))
    ∙ ap (λ (l : List ℕ). take n (take len l)) (append-nil piece)
    ∙ ap (λ (l : List ℕ). take n l) (take_all len piece (omega arith))

-- the first n bytes of a piece that has at least n are n bytes
pub front_len : (n : ℕ) (piece : List ℕ) → n ≤ length piece → length (take n piece) ≡ n
front_len n piece le = omega (arith, length-take n piece)

-- ---- reads

-- a read that gave bytes counts as one more read, no end and no failure
pub bytes_read : (reads : ReadsSoFar) (room n : ℕ) → n ≢ 0 → after_read reads room (Ok n) ≡ after_pieces reads 1
bytes_read reads room zero some = absurd (some refl)
bytes_read reads room (suc n) some =
    ap (λ (b : Bool). if b && nat_lt 0 room then after_end reads else after_pieces reads 1) (eqb-suc-zero n)

-- a read of 0 bytes into the room of a whole piece counts as one that found the end
pub end_read : (reads : ReadsSoFar) (room : ℕ) → room ≡ piece_limit → after_read reads room (Ok 0) ≡ after_end reads
end_read reads room is = ap (λ (k : ℕ). after_read reads k (Ok 0)) is

-- ---- so far

-- The reader gave these pieces, and they were fed.
pub record HasPumped (from : Source) (pieces : List (List ℕ)) (reads_before reads : ReadsSoFar) (before left : Option (List ℕ))
    (old new : LoadSession) : Type 0 where
  pub are_pieces : All IsPiece pieces
  pub has_reads : reads ≡ after_pieces reads_before (length pieces)
  pub are_given : Consumes before left (concat pieces)
  pub lacking : StillLacks (piece_steps from pieces) old new
  pub has_counts : new.counts ≡ with_fed old.counts from (length (concat pieces))
  pub settled : old.verdict ≢ Running → answer_in new ≡ answer_in old
  pub keeps : KeepsRounds old new

-- this was so in this many turns, and no allocation was refused
pub record SoFar (from : Source) (turn total : ℕ) (reads_before reads : ReadsSoFar) (before left : Option (List ℕ)) (old new : LoadSession) : Type 0 where
  pub pieces : List (List ℕ)
  pub has_turns : length pieces ≡ turn
  pub has_total : total ≡ length (concat pieces)
  pub has_pumped : HasPumped from pieces reads_before reads before left old new
  pub steps : StepsOn (piece_steps from pieces) old new

-- a session keeps its own rounds, and its memory
pub stays : (s : LoadSession) → KeepsRounds s s
stays s = record { more_rounds = omega arith; has_memory = λ some. some }

-- with no pieces, no reads are counted, no input is used and the session is unchanged
pub nothing : (from : Source) (reads : ReadsSoFar) (before : Option (List ℕ)) (s : LoadSession) → HasPumped from [] reads reads before before s s
nothing from reads before s = record {
  are_pieces = All-nil IsPiece;
  has_reads = ap (λ (n : ℕ). let new : ReadsSoFar = record reads { reads = n } in new) (sym (add-zero reads.reads));
  are_given = Consumes-nil before;
  lacking = λ given uuid texts lacks. lacks;
  has_counts = sym (fed_nothing s.counts from);
  settled = λ over. refl;
  keeps = stays s;
}

-- before the first turn no bytes were read or fed, and the session is unchanged
pub begins : (from : Source) (reads : ReadsSoFar) (before : Option (List ℕ)) (s : LoadSession) → SoFar from 0 0 reads reads before before s s
begins from reads before s = record {
  pieces = [];
  has_turns = refl;
  has_total = refl;
  has_pumped = nothing from reads before s;
  steps = λ given uuid texts stands. stands;
}

-- a read gave a piece of this many bytes
pub record ReadsPiece (n : ℕ) (piece : List ℕ) (reads_before reads : ReadsSoFar) (before left : Option (List ℕ)) : Type 0 where
  pub is_piece : IsPiece piece
  pub has_len : length piece ≡ n
  pub has_reads : reads ≡ after_pieces reads_before 1
  pub is_given : Consumes before left piece

-- the piece is the front of the buffer, which was filled as far as the read went
pub reads_piece : (n len : ℕ) (room items buffer now : List ℕ) (r s : ReadsSoFar) (x y : Option (List ℕ)) → n ≢ 0
    → n ≤ length room → length buffer ≡ length room
    → room ≡ items → length room ≡ len → len ≡ piece_limit → now ≡ take len (buffer ++ drop (length buffer) items) → s ≡ after_read r (length room) (Ok n)
    → Consumes x y (take n buffer) → ReadsPiece n (take n now) r s x y
reads_piece n len room items buffer now r s x y some within same is long limit value reads given =
    let short : n ≤ length buffer = omega (arith, within, same) in
    let front : take n now ≡ take n buffer =
    ap (λ (l : List ℕ). take n l) value ∙ same_front n len buffer items short (same ∙ ap (λ (l : List ℕ). length l) is) (same ∙ long) in
    let has_len : length (take n now) ≡ n = ap (λ (l : List ℕ). length l) front ∙ front_len n buffer short in record {
      is_piece = record { is_some = omega (arith, has_len, some); is_short = omega (arith, has_len, within, long, limit) };
      has_len = has_len;
      has_reads = reads ∙ bytes_read r (length room) n some;
      is_given = subst (Consumes x y) (sym front) given;
    }

-- what feeding it leaves, whether or not an allocation was refused
pub record Feeds (from : Source) (piece : List ℕ) (old new : LoadSession) : Type 0 where
  pub lacking : StillLacks (feed_step from piece) old new
  pub settled : old.verdict ≢ Running → answer_in new ≡ answer_in old
  pub has_counts : new.counts ≡ with_fed old.counts from (length piece)
  pub keeps : KeepsRounds old new

-- if b keeps the rounds and the memory of a, and c those of b, then c keeps those of a
pub keeps_on : (a b c : LoadSession) → KeepsRounds a b → KeepsRounds b c → KeepsRounds a c
keeps_on a b c p q = record { more_rounds = omega (arith, p.more_rounds, q.more_rounds); has_memory = λ some. q.has_memory (p.has_memory some) }

-- a load that has its verdict keeps it
pub stays_over : (a b : LoadSession) → answer_in b ≡ answer_in a → a.verdict ≢ Running → b.verdict ≢ Running
stays_over a b same over runs = over (sym (ap (λ (x : Answer). x.verdict) same) ∙ runs)

-- if some pieces were read and fed, and then one more, all of them with that one were
pub one_more : (from : Source) (pieces : List (List ℕ)) (n : ℕ) (piece : List ℕ) (r s t : ReadsSoFar) (x y z : Option (List ℕ))
    (a b c : LoadSession) → HasSource a.counts from
    → HasPumped from pieces r s x y a b → ReadsPiece n piece s t y z → Feeds from piece b c → HasPumped from (pieces ++ piece ∷ []) r t x z a c
one_more from pieces n piece r s t x y z a b c has p q f = record {
  are_pieces = All-push IsPiece pieces piece p.are_pieces q.is_piece;
  has_reads =
      q.has_reads ∙ ap (λ (u : ReadsSoFar). after_pieces u 1) p.has_reads
      ∙ ap (λ (n : ℕ). let new : ReadsSoFar = record r { reads = n } in new) (add_assoc r.reads (length pieces) 1)
      ∙ ap (after_pieces r) (sym (length-push pieces piece));
  are_given = subst (Consumes x z) (sym (concat-push pieces piece)) (Consumes-trans x y z (concat pieces) piece p.are_given q.is_given);
  lacking = λ given uuid texts lacks.
      subst (λ (u : Texts). LacksMemory given uuid u c) (sym (fed_all-push from pieces piece texts))
      (f.lacking given uuid (piece_steps from pieces texts) (p.lacking given uuid texts lacks));
  has_counts =
      f.has_counts ∙ ap (λ (u : Counts). with_fed u from (length piece)) p.has_counts ∙ fed_twice a.counts from (length (concat pieces)) (length piece) has
      ∙ ap (with_fed a.counts from) (sym (ap (λ (l : List ℕ). length l) (concat-push pieces piece) ∙ length-append (concat pieces) piece));
  settled = λ over. f.settled (stays_over a b (p.settled over) over) ∙ p.settled over;
  keeps = keeps_on a b c p.keeps f.keeps;
}

-- a session that took some pieces and then one more represents the streams with all of them
pub steps_more : (from : Source) (pieces : List (List ℕ)) (piece : List ℕ) (a b c : LoadSession)
    → StepsOn (piece_steps from pieces) a b → StepsOn (feed_step from piece) b c
    → StepsOn (piece_steps from (pieces ++ piece ∷ [])) a c
steps_more from pieces piece a b c p q = λ given uuid texts stands.
    subst (λ (u : Texts). StandsFor given uuid u c) (sym (fed_all-push from pieces piece texts))
    (q given uuid (piece_steps from pieces texts) (p given uuid texts stands))

-- if an allocation is refused in the piece after some others, it is in all of them together
pub runs_out_then : (from : Source) (pieces : List (List ℕ)) (piece : List ℕ) (a b c : LoadSession)
    → StepsOn (piece_steps from pieces) a b → RunsOut (feed_step from piece) b c
    → RunsOut (piece_steps from (pieces ++ piece ∷ [])) a c
runs_out_then from pieces piece a b c p q = λ given uuid texts stands.
    subst (λ (u : Texts). LacksMemory given uuid u c) (sym (fed_all-push from pieces piece texts))
    (q given uuid (piece_steps from pieces texts) (p given uuid texts stands))

-- one more turn, which reads and feeds n bytes, makes a turn more and n bytes more in all
pub goes_on : (from : Source) (turn total : ℕ) (n : ℕ) (piece : List ℕ) (r s t : ReadsSoFar) (x y z : Option (List ℕ))
    (a b c : LoadSession) → HasSource a.counts from
    → SoFar from turn total r s x y a b → ReadsPiece n piece s t y z → Feeds from piece b c → StepsOn (feed_step from piece) b c
    → SoFar from (turn + 1) (total + n) r t x z a c
goes_on from turn total n piece r s t x y z a b c has p q f steps = record {
  pieces = p.pieces ++ piece ∷ [];
  has_turns = length-push p.pieces piece ∙ ap (λ (n : ℕ). n + 1) p.has_turns;
  has_total = omega (arith, p.has_total, q.has_len, ap (λ (l : List ℕ). length l) (concat-push p.pieces piece), length-append (concat p.pieces) piece);
  has_pumped = one_more from p.pieces n piece r s t x y z a b c has p.has_pumped q f;
  steps = steps_more from p.pieces piece a b c p.steps steps;
}

-- ---- the room that is left

-- in some turns a pump reads at most a whole piece for each
pub is_small : (from : Source) (turn total : ℕ) (r s : ReadsSoFar) (x y : Option (List ℕ)) (a b : LoadSession)
    → SoFar from turn total r s x y a b → total ≤ turn * piece_limit
is_small from turn total r s x y a b p =
    omega (arith, p.has_total, few_bytes p.pieces p.has_pumped.are_pieces, p.has_turns)

-- if a source's count has room for all turns, each at the limit, it has room for the next read
pub has_room : (from : Source) (turns turn total n : ℕ) (r s : ReadsSoFar) (x y : Option (List ℕ)) (a b : LoadSession)
    → SoFar from turn total r s x y a b → HasSource a.counts from
    → (count_of a.counts from).fed + turns * piece_limit < 2 ^ 64 → turn < turns → n ≤ piece_limit → (count_of b.counts from).fed + n < 2 ^ 64
has_room from turns turn total n r s x y a b p has room within short =
    let count : (count_of b.counts from).fed ≡ (count_of a.counts from).fed + length (concat p.pieces) =
    ap (λ (u : Counts). (count_of u from).fed) p.has_pumped.has_counts
    ∙ ap (λ (u : Count). u.fed) (count_of_fed a.counts from (length (concat p.pieces)) has) in
    omega (arith, count, few_bytes p.pieces p.has_pumped.are_pieces, p.has_turns, room, within, short)

-- ---- the end

-- the error that a refused allocation becomes
pub is_no_memory : (result : Result ℕ PumpFault) → IsErr result × IsErrAnd result (λ e. e ≡ pump.NoMemory) → result ≡ Err pump.NoMemory
is_no_memory (Ok len) p = absurd p.1
is_no_memory (Err e) p = ap (λ (fault : PumpFault). let failed : Result ℕ PumpFault = Err fault in failed) p.1

-- what a pump ensures
pub record Pumps (from : Source) (turns : ℕ) (result : Result ℕ PumpFault) (r s : ReadsSoFar) (x y : Option (List ℕ)) (a b : LoadSession) : Type 0 where
  pub is_within : s.reads ≤ r.reads + turns
  pub reads : Explains turns r s result
  pub pump_step : (pieces : List (List ℕ)) × (s ≡ reads_after r (length pieces) result) × HasRead pieces result x y × FeedsPieces from pieces result a b
  pub settled : a.verdict ≢ Running → (answer_in b ≡ answer_in a) × (result ≡ Err pump.NoMemory → b ≡ a)
  pub keeps : KeepsRounds a b

-- its buffer was refused
pub no_buffer : (from : Source) (turns : ℕ) (r : ReadsSoFar) (x : Option (List ℕ)) (a : LoadSession) → Pumps from turns (Err pump.NoMemory) r r x x a a
no_buffer from turns r x a =
    let p : HasPumped from [] r r x x a a = nothing from r x a in record {
      is_within = omega arith;
      reads = (refl, refl);
      pump_step = (
        [],
        p.has_reads,
        record { are_pieces = p.are_pieces; are_given = p.are_given; has_len = tt; is_at_end = tt },
        record { stands = inr (refl, refl); lacking = p.lacking; has_counts = p.has_counts },
      );
      settled = λ over. (refl, λ e. refl);
      keeps = p.keeps;
    }

-- what ending a source leaves
pub record Ends (from : Source) (old new : LoadSession) : Type 0 where
  pub steps : StepsOn (end_step from) old new
  pub lacking : StillLacks (end_step from) old new
  pub settled : old.verdict ≢ Running → answer_in new ≡ answer_in old
  pub has_counts : new.counts ≡ with_end old.counts from
  pub same_target : new.target ≡ old.target

-- a session whose target is unchanged keeps its rounds, and its memory
pub end_keeps : (old new : LoadSession) → new.target ≡ old.target → KeepsRounds old new
end_keeps old new same = record {
  more_rounds = subst (λ (target : Option Held). rounds_loaded old.target ≤ rounds_loaded target) (sym same) (omega arith);
  has_memory = λ some none. some (sym same ∙ none);
}

-- a read found the end
pub finds_end : (from : Source) (turns turn total : ℕ) (r s t : ReadsSoFar) (x y z : Option (List ℕ)) (a b c : LoadSession)
    → turn < turns → SoFar from turn total r s x y a b
    → t ≡ after_end s → Consumes y z [] → IsAtEnd z → Ends from b c → Pumps from turns (Ok total) r t x z a c
finds_end from turns turn total r s t x y z a b c within p is given done e =
    let all : t ≡ after_end (after_pieces r (length p.pieces)) = is ∙ ap after_end p.has_pumped.has_reads in record {
      is_within = omega (arith, ap (λ (u : ReadsSoFar). u.reads) all, p.has_turns, within);
      reads = (ap (λ (u : ReadsSoFar). u.ends) all, ap (λ (u : ReadsSoFar). u.failed) all);
      pump_step = (
        p.pieces,
        all,
        record {
          are_pieces = p.has_pumped.are_pieces;
          are_given = subst (Consumes x z) (append-nil (concat p.pieces)) (Consumes-trans x y z (concat p.pieces) [] p.has_pumped.are_given given);
          has_len = p.has_total;
          is_at_end = done;
        },
        record {
          stands = λ given uuid texts stands. e.steps given uuid (piece_steps from p.pieces texts) (p.steps given uuid texts stands);
          lacking = λ given uuid texts lacks. e.lacking given uuid (piece_steps from p.pieces texts) (p.has_pumped.lacking given uuid texts lacks);
          has_counts = e.has_counts ∙ ap (λ (u : Counts). with_end u from) p.has_pumped.has_counts;
        },
      );
      settled = λ over. (e.settled (stays_over a b (p.has_pumped.settled over) over) ∙ p.has_pumped.settled over, λ is. cc);
      keeps = keeps_on a b c p.has_pumped.keeps (end_keeps b c e.same_target);
    }

-- an allocation was refused in the last piece
pub runs_out : (from : Source) (turns turn total : ℕ) (n : ℕ) (piece : List ℕ) (r s t : ReadsSoFar) (x y z : Option (List ℕ))
    (a b c : LoadSession) → HasSource a.counts from
    → turn < turns → SoFar from turn total r s x y a b → ReadsPiece n piece s t y z → Feeds from piece b c → RunsOut (feed_step from piece) b c
    → c.verdict ≡ failed_without_memory (answer_in c).rounds → (b.verdict ≢ Running → ⊥) → Pumps from turns (Err pump.NoMemory) r t x z a c
runs_out from turns turn total n piece r s t x y z a b c has within p q f out verdict ran =
    let last : HasPumped from (p.pieces ++ piece ∷ []) r t x z a c = one_more from p.pieces n piece r s t x y z a b c has p.has_pumped q f in record {
      is_within = omega (arith, ap (λ (u : ReadsSoFar). u.reads) last.has_reads, length-push p.pieces piece, p.has_turns, within);
      reads = (ap (λ (u : ReadsSoFar). u.ends) last.has_reads, ap (λ (u : ReadsSoFar). u.failed) last.has_reads);
      pump_step = (
        p.pieces ++ piece ∷ [],
        last.has_reads,
        record { are_pieces = last.are_pieces; are_given = last.are_given; has_len = tt; is_at_end = tt },
        record {
          stands = inl (record {
            has_last = push_is_some p.pieces piece;
            runs_out = runs_out_then from p.pieces piece a b c p.steps out;
            has_verdict = verdict;
          });
          lacking = last.lacking;
          has_counts = last.has_counts;
        },
      );
      settled = λ over. absurd (ran (stays_over a b (p.has_pumped.settled over) over));
      keeps = last.keeps;
    }
