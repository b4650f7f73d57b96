use Rattle.std.proofs.Common.{ℕ, List, take, sym, subst, ◌∙◌, arith}
use Rattle.std.proofs.lemmas.List.{with_items_is}
use Rattle.std.proofs.lemmas.Result.{IfOk-weaker}
use Rattle.zimgasol_mapped.specs.Opened.{IsSearched}
use Rattle.zimgasol_mapped.proofs.opening.open_input.Goals as goal

pub returns-in-Ok-go_back : goal.returns-in-Ok-go_back
returns-in-Ok-go_back g c = λ all known.
    let front = c.in-Ok.front in
    let bytes : List ℕ = c.read_front.new.bytes in
    let same = with_items_is c.in_ok-bytes.bytes bytes (omega (arith, c.read_front.ensures.len, c.in_ok-bytes.bytes.ok.0, c.in_ok-bytes.ensures.len)) in
    let searched : IsSearched all front.0 (take front.1 c.deref.result.now) =
    subst (λ (l : List ℕ). IsSearched all front.0 (take front.1 l)) (sym (c.deref.ensures.value ∙ same)) (c.in-Ok.ensures.front all known) in (
      (front.0, take front.1 c.deref.result.now, searched, λ found has. c.in_default.not-Some found (c.front_in.ensures.all found has)),
      c.in-Ok-go_back.ensures.first all (c.read_front.ensures.same ∙ known),
    )

pub open_mapped-requires-clause-part : goal.open_mapped-requires-clause-part
open_mapped-requires-clause-part g c = λ all known.
    let front = c.in-Ok.front in
    let bytes : List ℕ = c.read_front.new.bytes in
    let same = with_items_is c.in_ok-bytes.bytes bytes (omega (arith, c.read_front.ensures.len, c.in_ok-bytes.bytes.ok.0, c.in_ok-bytes.ensures.len)) in
    subst (λ (l : List ℕ). IsSearched all front.0 (take front.1 l)) (sym (c.deref-2.ensures.value ∙ same))
    (c.in-Ok.ensures.front all (sym c.read_front.ensures.same ∙ known))

pub returns : goal.returns
returns g c = IfOk-weaker c.open_mapped.result _ _ (λ input is. λ all known. is all (c.read_front.ensures.same ∙ known)) c.open_mapped.ensures
