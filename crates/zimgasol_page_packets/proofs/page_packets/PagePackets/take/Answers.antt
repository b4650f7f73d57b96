use Rattle.std.proofs.Common.{rules, arith, ◌≡◌, ◌<◌, ◌≤◌, ◌++◌, ◌∙◌, ℕ, true, false, List, length, take, drop, ap, sym, subst}
use Rattle.std.proofs.lemmas.Bool.{ltb-true}
use Rattle.std.proofs.lemmas.List.{drop-drop, length-drop}
use Rattle.zimgasol_page_packets.specs.Parted.{with_front}
use Rattle.zimgasol_page_packets.specs.Passing.{Passing, to_come, keeps, waits}
use Rattle.zimgasol_page_packets.specs.declared.page_packets.Next.TheVariants as coming
use Rattle.zimgasol_page_packets.proofs.Parting.{has_any-drop, keeps_any, take_of_kept, take_of_bytes, take_of_rest}
use Rattle.zimgasol_page_packets.proofs.page_packets.PagePackets.take.Goals as goal

pub returns-then-keeps-clause-to_come : goal.returns-then-keeps-clause-to_come
returns-then-keeps-clause-to_come c =
    let items : List ℕ = c.self.inside.kept.items in
    let given : ℕ = c.self.inside.given in
    let v : Passing = record {
      page_size = c.self.inside.page_size;
      next = c.self.inside.next;
      kept = drop given items;
      packets = c.self.inside.passed_over.packets;
      bytes = c.self.inside.passed_over.bytes;
    } in
    let keep : keeps v ≡ true = ap keeps c.self.view_is ∙ sym c.keeps.ensures ∙ c.if-keeps.true in
    let len : c.len.result ≡ length items = search rules in
    let below : given < length items = ltb-true given (length items) (has_any-drop given items ∙ keeps_any v.next (drop given items) keep) in
    let same : c.args.len ≤ length (drop given items) → drop c.min-self-inside.result items ≡ drop c.args.len (drop given items) =
    λ le. ap (λ (n : ℕ). drop n items)
    (omega (arith, le, below, len, length-drop given items, c.min-self-inside.ensures, c.saturating_add.ensures, c.len.type_inv))
    ∙ sym (drop-drop c.args.len given items) in
    subst (λ (p : Passing). (piece : List ℕ) (more : List ℕ) → c.args.len ≤ length (waits p piece) → to_come p (piece ++ more)
    ≡ with_front (take c.args.len (waits p piece)) (to_come (record v { kept = drop c.min-self-inside.result items }) (piece ++ more)))
    c.self.view_is (take_of_kept v c.args.len (drop c.min-self-inside.result items) keep same)

pub returns-in-Bytes-clause-to_come : goal.returns-in-Bytes-clause-to_come
returns-in-Bytes-clause-to_come c =
    let v : Passing = record {
      page_size = c.self.inside.page_size;
      next = c.self.inside.next;
      kept = drop c.self.inside.given c.self.inside.kept.items;
      packets = c.self.inside.passed_over.packets;
      bytes = c.self.inside.passed_over.bytes;
    } in
    let none : keeps v ≡ false = ap keeps c.self.view_is ∙ sym c.keeps.ensures ∙ c.if-keeps.false in
    subst (λ (p : Passing). (piece : List ℕ) (more : List ℕ) → c.args.len ≤ length (waits p piece) → to_come p (piece ++ more)
    ≡ with_front (take c.args.len (waits p piece)) (to_come (record v { next = coming.Bytes c.saturating_sub.result }) (drop c.args.len piece ++ more)))
    c.self.view_is
    (subst (λ (k : ℕ). (piece : List ℕ) (more : List ℕ) → c.args.len ≤ length (waits v piece) → to_come v (piece ++ more)
    ≡ with_front (take c.args.len (waits v piece)) (to_come (record v { next = coming.Bytes k }) (drop c.args.len piece ++ more)))
    (sym c.saturating_sub.ensures) (take_of_bytes v c.args.len c.in-Bytes.left none c.in-Bytes.is))

pub returns-in-Rest-clause-to_come : goal.returns-in-Rest-clause-to_come
returns-in-Rest-clause-to_come c =
    let v : Passing = record {
      page_size = c.self.inside.page_size;
      next = c.self.inside.next;
      kept = drop c.self.inside.given c.self.inside.kept.items;
      packets = c.self.inside.passed_over.packets;
      bytes = c.self.inside.passed_over.bytes;
    } in
    let none : keeps v ≡ false = ap keeps c.self.view_is ∙ sym c.keeps.ensures ∙ c.if-keeps.false in
    subst (λ (p : Passing). (piece : List ℕ) (more : List ℕ) → c.args.len ≤ length (waits p piece) → to_come p (piece ++ more)
    ≡ with_front (take c.args.len (waits p piece)) (to_come p (drop c.args.len piece ++ more)))
    c.self.view_is (take_of_rest v c.args.len none c.in-Rest.is)
