use Rattle.std.proofs.Common.{◌≡◌, ◌∙◌, arith, refl, sym, subst, inl, inr}
use Rattle.mig_sources.specs.declared.source.Source.{Source}
use Rattle.mig_in_place.specs.Turns.{HasRoom, TakesNone}
use Rattle.mig_in_place.proofs.Turning.{same_number, if_some, if_none}
use Rattle.mig_in_place.proofs.pumping.whose_turn.Goals as goal
use Rattle.mig_in_place.proofs.pumping.whose_turn.Goals.{else-number-sources-via-then-number-sources+else-has_turn, else-number-sources-via-else-number-sources}

pub returns-in-Some-clause-some : goal.returns-in-Some-clause-some
returns-in-Some-clause-some g c = λ memory.
    let s = c.in-Some.ensures.some in
    record { can = record { is_there = s.0; has_room = s.1; takes = s.3 memory }; is_next = inl (s.2, refl) }

pub returns-then-has_turn-clause-some : goal.returns-then-has_turn-clause-some
returns-then-has_turn-clause-some g c = λ memory. record {
  can = record {
    is_there = omega (arith, c.source_at-source.ensures, c.if-number-sources.true);
    has_room = c.has_turn.ensures.room c.if-has_turn.true;
    takes = c.has_turn.ensures.takes c.if-has_turn.true memory;
  };
  is_next = inr (record {
    none_waits = λ other some lt room. c.in_default.ensures.none other some room memory;
    number = c.next_turn-number.result;
    is_choice = c.next_turn-number.ensures;
    is_followed = inl c.source_at-source.ensures;
  });
}

pub returns-clause-some : goal.returns-clause-some
returns-clause-some g c = if_some c.first_open.result c.first_open.ensures.some (λ from s memory. record {
  can = record { is_there = s.0; has_room = s.1; takes = s.2 memory };
  is_next = inr (record {
    none_waits = λ other some lt room. c.in_default.ensures.none other some room memory;
    number = c.next_turn-number.result;
    is_choice = c.next_turn-number.ensures;
    is_followed = inr (λ other is lt room. elim c.else-number-sources.branch [
      | else-number-sources-via-then-number-sources+else-has_turn w ↦ (
          let same : other ≡ c.source_at-source.result = same_number other c.source_at-source.result (is ∙ sym c.source_at-source.ensures) in
          subst (λ (x : Source). TakesNone x memory c.args.load.now) (sym same)
          (w.has_turn.ensures.none w.if-has_turn.false (subst (λ (x : Source). HasRoom c.args.load.now x) same room) memory)
          )
      | else-number-sources-via-else-number-sources w ↦ absurd (omega (arith, is, lt, w.if-number-sources.false))
    ]);
  });
})

pub returns-clause-none : goal.returns-clause-none
returns-clause-none g c = if_none c.first_open.result c.first_open.ensures.none
    (λ none memory. record { none = λ from lt room. none from lt room memory; number = c.next_turn-number.result; is_choice = c.next_turn-number.ensures })
