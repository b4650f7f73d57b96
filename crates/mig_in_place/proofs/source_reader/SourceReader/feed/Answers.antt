use Rattle.std.proofs.Common.{ℕ, ◌≡◌, ◌-◌, ◌+◌, ◌≤◌, List, ◌++◌, length, take, drop, sym, ap, subst, ◌∙◌}
use Rattle.mig_in_place.specs.Turns.{KeptSource, without_first}
use Rattle.mig_in_place.proofs.Turning.{more_taken, rest_waits, less_waits}
use Rattle.mig_in_place.proofs.source_reader.SourceReader.feed.Goals as goal

pub returns-clause-taken : goal.returns-clause-taken
returns-clause-taken g c =
    let n : ℕ = c.in_ok-taken.taken in
    let a : ℕ = c.self.inside.from in
    let b : ℕ = c.self.inside.to in
    let items : List ℕ = c.self.inside.buffer.items in
    let waits : List ℕ = take (b - a) (drop a items) in
    let same : waits ≡ c.args.self.now.waiting = ap (λ (s : KeptSource). s.waiting) c.self.view_is in
    let within : n ≤ length c.args.self.now.waiting = subst (λ (l : List ℕ). n ≤ length l) c.waiting.ensures.value c.in_ok-taken.ensures.taken in
    let le = less_waits items a b n c.self.invariant.0 c.self.invariant.1 (subst (λ (l : List ℕ). n ≤ length l) (sym same) within) in
    let kept : List ℕ → List ℕ → KeptSource = λ (t w : List ℕ). record {
      reads = g.P.PieceReader.reads c.self.inside.reader;
      left = c.self.inside.left;
      remaining = g.P.PieceReader.remaining c.self.inside.reader;
      taken = t;
      waiting = w;
    } in (
      within,
      ap (λ (t : List ℕ). kept t (take (b - (a + n)) (drop (a + n) items))) (more_taken items a b n le)
          ∙ ap (λ (w : List ℕ). kept (take a items ++ take n waits) w) (rest_waits items a b n le) ∙ ap (without_first n) c.self.view_is,
    )
