use Rattle.std.proofs.Common.{rules, arith, ◌≡◌, ◌+◌, ◌^◌, ◌-◌, ◌++◌, ◌∙◌, ℕ, min, List, [], length, take, drop, ap, sym, subst}
use Rattle.std.proofs.Math.Seq.{drop-nil}
use Rattle.zimgasol_page_packets.specs.Packets.{front_len, state_len}
use Rattle.zimgasol_page_packets.specs.Passing.{Passing, to_come, IsPart, next_after}
use Rattle.zimgasol_page_packets.specs.declared.page_packets.Next.{Next}
use Rattle.zimgasol_page_packets.specs.declared.page_packets.Next.TheVariants as coming
use Rattle.zimgasol_page_packets.proofs.Parting.{front_all, front_over}
use Rattle.zimgasol_page_packets.proofs.page_packets.PagePackets.read_front.Goals.{in_default-via-in-State+in_default-1, in_default-via-in-Bytes-1}
use Rattle.zimgasol_page_packets.proofs.page_packets.PagePackets.read_front.Goals as goal

pub returns-in-State-eq0-clause-to_come : goal.returns-in-State-eq0-clause-to_come
returns-in-State-eq0-clause-to_come c =
    let piece : List ℕ = c.args.piece.now in
    let items : List ℕ = c.self.inside.kept.items in
    let given : ℕ = c.self.inside.given in
    let all : List ℕ = c.fill-taken.new.kept.items in
    let size : ℕ = c.self.inside.page_size in
    let v : Passing = record {
      page_size = size;
      next = c.self.inside.next;
      kept = drop given items;
      packets = c.self.inside.passed_over.packets;
      bytes = c.self.inside.passed_over.bytes;
    } in
    let is : v.next ≡ coming.Front = ap (λ (p : Passing). p.next) c.self.view_is ∙ c.requires.front in
    let part : IsPart coming.Front given items = subst (λ (n : Next). IsPart n given items) is c.self.invariant.is_part in
    let kept : drop given all ≡ all = ap (λ (g : ℕ). drop g all) part.0 in
    let grown : drop given all ≡ drop given items ++ take c.fill-taken.result piece =
    kept ∙ c.fill-taken.ensures.items ∙ ap (λ (g : ℕ). drop g items ++ take c.fill-taken.result piece) (sym part.0) in
    let len : c.len.result ≡ length all = search rules in
    let full : length (drop given all) ≡ front_len = ap (λ (l : List ℕ). length l) kept
    ∙ omega (arith, len, c.fill-taken.ensures.len, c.if-len-lt-FRONT_LEN.false) in
    let none : c.next_after.result ≡ coming.State 0 = search rules in
    let after : next_after size (drop given all) ≡ coming.State 0 =
    ap (λ (l : List ℕ). next_after size l) (kept ∙ sym c.deref.ensures.value) ∙ sym c.next_after.ensures ∙ none in
    let make : Next → List ℕ → ℕ → ℕ → Passing = λ n k a b. record { page_size = size; next = n; kept = k; packets = a; bytes = b } in
    let a : ℕ = c.counted-self-inside.result.packets in
    let b : ℕ = c.counted-self-inside.result.bytes in
    let cleared : drop given c.clear.new.self.items ≡ [] = ap (λ (l : List ℕ). drop given l) c.clear.ensures.items ∙ drop-nil given in
    let q : Passing = make c.self.inside.next (drop given c.clear.new.self.items) a b in
    let new : q ≡ make coming.Front [] (min (v.packets + 1) (2 ^ 64 - 1)) (min (v.bytes + (front_len + state_len (drop given all))) (2 ^ 64 - 1)) =
    ap (λ (n : Next). make n (drop given c.clear.new.self.items) a b) is
    ∙ ap (λ (k : List ℕ). make coming.Front k a b) cleared
    ∙ ap (λ (x : ℕ). make coming.Front [] x b) c.counted-self-inside.ensures.packets
    ∙ ap (λ (y : ℕ). make coming.Front [] (min (v.packets + 1) (2 ^ 64 - 1)) y)
    (c.counted-self-inside.ensures.bytes ∙ ap (λ (l : List ℕ). min (v.bytes + (front_len + state_len l)) (2 ^ 64 - 1))
    (c.deref-in-State-eq0.ensures.value ∙ sym kept)) in
    subst (λ (p : Passing). (more : List ℕ) → to_come p (piece ++ more) ≡ to_come q (drop c.fill-taken.result piece ++ more)) c.self.view_is
    (front_over v q c.fill-taken.result piece (drop given all) is grown full after new)

pub returns-in_default-clause-to_come : goal.returns-in_default-clause-to_come
returns-in_default-clause-to_come c =
    let piece : List ℕ = c.args.piece.now in
    let items : List ℕ = c.self.inside.kept.items in
    let given : ℕ = c.self.inside.given in
    let all : List ℕ = c.fill-taken.new.kept.items in
    let size : ℕ = c.self.inside.page_size in
    let v : Passing = record {
      page_size = size;
      next = c.self.inside.next;
      kept = drop given items;
      packets = c.self.inside.passed_over.packets;
      bytes = c.self.inside.passed_over.bytes;
    } in
    let is : v.next ≡ coming.Front = ap (λ (p : Passing). p.next) c.self.view_is ∙ c.requires.front in
    let part : IsPart coming.Front given items = subst (λ (n : Next). IsPart n given items) is c.self.invariant.is_part in
    let kept : drop given all ≡ all = ap (λ (g : ℕ). drop g all) part.0 in
    let grown : drop given all ≡ drop given items ++ take c.fill-taken.result piece =
    kept ∙ c.fill-taken.ensures.items ∙ ap (λ (g : ℕ). drop g items ++ take c.fill-taken.result piece) (sym part.0) in
    let len : c.len.result ≡ length all = search rules in
    let full : length (drop given all) ≡ front_len = ap (λ (l : List ℕ). length l) kept
    ∙ omega (arith, len, c.fill-taken.ensures.len, c.if-len-lt-FRONT_LEN.false) in
    let found : c.in_default-1.next ≡ c.next_after.result = elim c.in_default-1.branch [
      | in_default-via-in-State+in_default-1 w ↦ (let e = w.next-is in cc)
      | in_default-via-in-Bytes-1 w ↦ (let e = w.next-is in cc)
    ] in
    let after : c.in_default-1.next ≡ next_after size (drop given all) =
    found ∙ c.next_after.ensures ∙ ap (λ (l : List ℕ). next_after size l) (c.deref.ensures.value ∙ sym kept) in
    subst (λ (p : Passing). (more : List ℕ) → to_come p (piece ++ more)
    ≡ to_come (record v { next = c.in_default-1.next; kept = drop given all }) (drop c.fill-taken.result piece ++ more)) c.self.view_is
    (subst (λ (n : Next). (more : List ℕ) → to_come v (piece ++ more)
    ≡ to_come (record v { next = n; kept = drop given all }) (drop c.fill-taken.result piece ++ more)) (sym after)
    (front_all v c.fill-taken.result piece (drop given all) is grown full))
