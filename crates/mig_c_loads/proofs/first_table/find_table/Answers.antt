use Rattle.std.proofs.Common.{ℕ, ◌≡◌, ◌+◌, ◌-◌, ◌++◌, List, take, drop, sym, ap, subst, ◌∙◌, arith, rules}
use Rattle.std.specs.Prelude.{false}
use Rattle.std.proofs.Math.Seq.{take-add}
use Rattle.mig_stream.specs.Reading.{Settings}
use Rattle.mig_stream.specs.Reader.{Stands, SoFar, HasTable}
use Rattle.mig_c_loads.specs.FirstTable.{table_settings}
use Rattle.mig_c_loads.proofs.first_table.find_table.Goals as goal

-- the first bytes of a stream that was read so far
abbrev front : List ℕ → ℕ → SoFar
front bytes n = record { text = take n bytes; ended = false; taken = 0 }

pub pieces-preserved : goal.pieces-preserved
pieces-preserved c =
    let n : ℕ = c.pieces.read in
    let k : ℕ = c.min-len.result in
    let bytes : List ℕ = c.args.bytes.now in
    let given : Settings = table_settings c.args.frame c.args.page_size in
    let same : take n bytes ++ take (n + k - n) (drop n bytes) ≡ take (n + k) bytes =
    ap (λ (m : ℕ). take n bytes ++ take m (drop n bytes)) (omega arith) ∙ sym (take-add n k bytes) in (
      search rules,
      subst (λ (text : List ℕ). Stands given (record { text = text; ended = false; taken = 0 }) c.feed.new.self) same
          (c.in_ok-feed.ensures.stands given (front bytes n) c.pieces.invariant.1),
      c.feed.ensures.open,
      search rules,
    )

pub returns-in-Some : goal.returns-in-Some
returns-in-Some c =
    let n : ℕ = c.pieces.read in
    let given : Settings = table_settings c.args.frame c.args.page_size in
    record {
      read = n;
      is_part = c.pieces.invariant.0;
      has_table = subst (HasTable given (take n c.args.bytes.now)) (search rules) (c.table.ensures given (front c.args.bytes.now n) c.pieces.invariant.1);
      has_state = c.state-state.ensures given (front c.args.bytes.now n) c.pieces.invariant.1;
      has_valid = c.valid_up_to-valid.ensures given (front c.args.bytes.now n) c.pieces.invariant.1;
      goes_on = λ none state. search rules;
    }

pub returns-then-read-bytes : goal.returns-then-read-bytes
returns-then-read-bytes c =
    let n : ℕ = c.pieces.read in
    let given : Settings = table_settings c.args.frame c.args.page_size in
    record {
      read = n;
      is_part = c.pieces.invariant.0;
      has_table = subst (HasTable given (take n c.args.bytes.now)) (search rules) (c.table.ensures given (front c.args.bytes.now n) c.pieces.invariant.1);
      has_state = c.state-state.ensures given (front c.args.bytes.now n) c.pieces.invariant.1;
      has_valid = c.valid_up_to-valid.ensures given (front c.args.bytes.now n) c.pieces.invariant.1;
      goes_on = λ none state. search rules;
    }
