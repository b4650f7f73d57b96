-- What is read of a stream stays read if more bytes follow.
use Rattle.std.proofs.Common.{◌≡◌, ◌≢◌, ◌⊎◌, ℕ, ◌<◌, ◌++◌, List, [], Bool, true, false, Option, Some, refl, sym, ap, subst, ◌∙◌, inl, inr}
use Rattle.std.specs.Bool.{then_some}
use Rattle.std.proofs.lemmas.List.{append-nil}
use Rattle.mig_mem.specs.RamTable.{RamTable, Block}
use Rattle.mig_mem.specs.PageSize.{IsPageSize}
use Rattle.mig_mem.proofs.PageSizes.{page_size_some}
use Rattle.mig_stream.specs.declared.item.StreamState.{StreamState}
use Rattle.mig_stream.specs.declared.item.StreamState.TheVariants.{Reading, Closed, Bad}
use Rattle.mig_stream.specs.PageRecord.{PageRecord}
use Rattle.mig_stream.specs.Progress.{StreamProgress, start, table_of, is_used_up, whole_table}
use Rattle.mig_stream.specs.Later.{IsLater}
use Rattle.mig_stream.specs.Reading.{Settings, Reads, StreamReading, IsReading}
use Rattle.mig_stream.specs.Reader.{with_taken}
use Rattle.mig_stream.specs.Law.{StaysRead, LongerTextsStay}
use Rattle.mig_stream.proofs.Exists.{reads_from}
use Rattle.mig_stream.proofs.Later.{Reads-on, Reads-more}
use Rattle.mig_stream.proofs.Steps.{IsLater-front}
use Rattle.mig_stream.proofs.Unique.{one_reading}

-- where a reading begins
abbrev from : Settings → StreamProgress
from given = start given.frame given.mode given.page_size given.limit given.waiting

-- how far a stream was read, without its complete rounds
abbrev roundless : StreamProgress → StreamProgress
roundless c = record c { rounds = [] }

with_rounds_again : (c : StreamProgress) → with_taken c.rounds (roundless c) ≡ c
with_rounds_again c = ap (λ (r : List (List PageRecord)). record c { rounds = r }) (append-nil c.rounds)

used_up : (b : Bool) (t u : RamTable) → then_some b t ≡ Some u → (b ≡ true) × (u ≡ t)
used_up true t u e = (refl, (let back : Some u ≡ Some t = sym e in cc))
used_up false t u e = absurd cc

-- a whole table stays
table_stays : (old new : StreamProgress) (table : RamTable) → IsLater old new → whole_table old ≡ Some table → whole_table new ≡ Some table
table_stays old new table later whole =
    let used = used_up (is_used_up old.left) (table_of old) table whole in
    let same = later.same_table used.0 in
    let t : table_of new ≡ table_of old =
    ap (λ (n : ℕ). record { page_size = n; blocks = new.blocks }) later.same_page_size
    ∙ ap (λ (l : List Block). record { page_size = old.page_size; blocks = l }) same.1 in
    ap (λ (l : Option ℕ). then_some (is_used_up l) (table_of new)) same.0 ∙ ap (λ (x : RamTable). then_some (is_used_up old.left) x) t ∙ whole

same_reading : (a b : StreamReading) → a.table ≡ b.table → a.rounds ≡ b.rounds → a.state ≡ b.state → a ≡ b
same_reading a b t r s =
    ap (λ (x : Option RamTable). record { table = x; rounds = a.rounds; state = a.state }) t
    ∙ ap (λ (x : List (List PageRecord)). record { table = b.table; rounds = x; state = a.state }) r
    ∙ ap (λ (x : StreamState). record { table = b.table; rounds = b.rounds; state = x }) s

-- nothing follows the end byte or a fault
over : (given : Settings) (text more : List ℕ) (a b : StreamReading) → a.state ≢ Reading → IsReading given text a → IsReading given (text ++ more) b → b ≡ a
over given text more a b other is_a is_b =
    let on = Reads-more (from given) text is_a.to is_a.rest more a.state other is_a.reads in
    let same = one_reading (from given) (text ++ more) is_b.to is_a.to is_b.rest (is_a.rest ++ more) b.state a.state is_b.reads on in
    same_reading b a (is_b.has_table ∙ ap whole_table same.0 ∙ sym is_a.has_table)
    (is_b.has_rounds ∙ ap (λ (c : StreamProgress). c.rounds) same.0 ∙ sym is_a.has_rounds) same.2

-- a reading stays if it is the same
pub stays_over : (a b : StreamReading) → b ≡ a → StaysRead a b
stays_over a b e = record {
  more_rounds = [];
  has_rounds = ap (λ (x : StreamReading). x.rounds) e ∙ sym (append-nil a.rounds);
  same_table = λ table t. ap (λ (x : StreamReading). x.table) e ∙ t;
  same_once_over = λ _. e;
}

-- a stream that hasn't ended is read on
stays_on : (given : Settings) (text more : List ℕ) (a b : StreamReading) → IsPageSize given.page_size → a.state ≡ Reading
    → IsReading given text a → IsReading given (text ++ more) b → StaysRead a b
stays_on given text more a b size open_ is_a is_b =
    let c : StreamProgress = is_a.to in
    let begun : IsLater (from given) c = IsLater-front (from given) c is_a.reads.front is_a.reads.leads in
    let some : 0 < c.page_size = rw begun.same_page_size (page_size_some given.page_size size) in
    let mid : StreamProgress = roundless c in
    let next = reads_from mid (is_a.rest ++ more) some in
    let first : Reads (from given) text (with_taken c.rounds mid) is_a.rest Reading =
    subst (λ (s : StreamState). Reads (from given) text (with_taken c.rounds mid) is_a.rest s) open_
    (subst (λ (x : StreamProgress). Reads (from given) text x is_a.rest a.state) (sym (with_rounds_again c)) is_a.reads) in
    let on = Reads-on c.rounds (from given) mid next.0 text is_a.rest more next.1 next.2 first next.3 in
    let same = one_reading (from given) (text ++ more) is_b.to (with_taken c.rounds next.0) is_b.rest next.1 b.state next.2 is_b.reads on in
    record {
      more_rounds = next.0.rounds;
      has_rounds = is_b.has_rounds ∙ ap (λ (x : StreamProgress). x.rounds) same.0
          ∙ ap (λ (r : List (List PageRecord)). r ++ next.0.rounds) (sym is_a.has_rounds);
      same_table = λ table t.
          is_b.has_table ∙ ap whole_table same.0 ∙ table_stays mid next.0 table (IsLater-front mid next.0 next.3.front next.3.leads) (sym is_a.has_table ∙ t);
      same_once_over = λ other. absurd (other open_);
    }

reading_or_over : (s : StreamState) → (s ≡ Reading) ⊎ (s ≢ Reading)
reading_or_over Reading = inl refl
reading_or_over Closed = inr (λ e. absurd cc)
reading_or_over (Bad f) = inr (λ e. absurd cc)

-- What is read stays read.
pub longer_law : LongerTextsStay
longer_law = λ given text more before now size is_before is_now. elim (reading_or_over before.state) [
  | inl open_ ↦ stays_on given text more before now size open_ is_before is_now
  | inr other ↦ stays_over before now (over given text more before now other is_before is_now)
]
