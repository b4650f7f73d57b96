use Rattle.std.proofs.Common.{arith, ◌≡◌, ◌+◌, ◌-◌, ◌^◌, ◌++◌, ◌∙◌, ℕ, min, List, [], length, drop, ap, sym, subst, refl}
use Rattle.std.proofs.Math.Seq.{drop-nil}
use Rattle.zimgasol_page_packets.specs.Packets.{front_len, state_len}
use Rattle.zimgasol_page_packets.specs.Passing.{Passing, to_come, IsPart}
use Rattle.zimgasol_page_packets.specs.declared.page_packets.Next.{Next}
use Rattle.zimgasol_page_packets.specs.declared.page_packets.Next.TheVariants as coming
use Rattle.zimgasol_page_packets.proofs.Parting.{over_less, over_all}
use Rattle.zimgasol_page_packets.proofs.page_packets.PagePackets.pass_over.Goals as goal

pub returns-then-len-left-clause-to_come : goal.returns-then-len-left-clause-to_come
returns-then-len-left-clause-to_come c =
    let piece : List ℕ = c.args.piece.now in
    let v : Passing = record {
      page_size = c.self.inside.page_size;
      next = c.self.inside.next;
      kept = drop c.self.inside.given c.self.inside.kept.items;
      packets = c.self.inside.passed_over.packets;
      bytes = c.self.inside.passed_over.bytes;
    } in
    let is : v.next ≡ coming.State c.args.left = ap (λ (p : Passing). p.next) c.self.view_is ∙ c.requires.state in
    subst (λ (p : Passing). (more : List ℕ) → to_come p (piece ++ more)
    ≡ to_come (record v { next = coming.State (c.args.left - length piece) }) (drop (length piece) piece ++ more))
    c.self.view_is (over_less v c.args.left (length piece) piece is refl c.if-len-left.true)

pub returns-clause-to_come : goal.returns-clause-to_come
returns-clause-to_come c =
    let piece : List ℕ = c.args.piece.now in
    let items : List ℕ = c.self.inside.kept.items in
    let given : ℕ = c.self.inside.given in
    let v : Passing = record {
      page_size = c.self.inside.page_size;
      next = c.self.inside.next;
      kept = drop given items;
      packets = c.self.inside.passed_over.packets;
      bytes = c.self.inside.passed_over.bytes;
    } in
    let is : v.next ≡ coming.State c.args.left = ap (λ (p : Passing). p.next) c.self.view_is ∙ c.requires.state in
    let part : IsPart (coming.State c.args.left) given items = subst (λ (n : Next). IsPart n given items) is c.self.invariant.is_part in
    let none : drop given c.clear.new.self.items ≡ [] = ap (λ (l : List ℕ). drop given l) c.clear.ensures.items ∙ drop-nil given in
    let front : state_len c.deref.result.now ≡ state_len (drop given items) = ap state_len c.deref.ensures.value
    ∙ ap (λ (g : ℕ). state_len (drop g items)) (sym part.0) in
    let make : List ℕ → ℕ → ℕ → Passing = λ k a b. record { page_size = c.self.inside.page_size; next = coming.Front; kept = k; packets = a; bytes = b } in
    let q : Passing = make (drop given c.clear.new.self.items) c.counted-self-inside.result.packets c.counted-self-inside.result.bytes in
    let new : q ≡ make [] (min (v.packets + 1) (2 ^ 64 - 1)) (min (v.bytes + (front_len + state_len v.kept)) (2 ^ 64 - 1)) =
    ap (λ (k : List ℕ). make k c.counted-self-inside.result.packets c.counted-self-inside.result.bytes) none
    ∙ ap (λ (a : ℕ). make [] a c.counted-self-inside.result.bytes) c.counted-self-inside.ensures.packets
    ∙ ap (λ (b : ℕ). make [] (min (v.packets + 1) (2 ^ 64 - 1)) b)
    (c.counted-self-inside.ensures.bytes ∙ ap (λ (n : ℕ). min (v.bytes + (front_len + n)) (2 ^ 64 - 1)) front) in
    subst (λ (p : Passing). (more : List ℕ) → to_come p (piece ++ more) ≡ to_come q (drop c.args.left piece ++ more)) c.self.view_is
    (over_all v q c.args.left c.args.left piece is refl (omega (arith, c.if-len-left.false)) new)
