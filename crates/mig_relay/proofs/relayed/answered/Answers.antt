use Rattle.std.proofs.Common.{◌∙◌, Some, ap, sym, refl, length, not}
use Rattle.mig_mem.specs.Image.{Image}
use Rattle.mig_mem.specs.Place.{has_place}
use Rattle.mig_mem.specs.PlaceSet.{PlaceSet, places_where}
use Rattle.mig_answer.proofs.NamedRounds.{counted_missing}
use Rattle.mig_relay.proofs.RelayAnswers.{answers_with}
use Rattle.mig_relay.proofs.relayed.answered.Goals as goal

pub returns-clause-answer : goal.returns-clause-answer
returns-clause-answer g c = λ l ends ended at.
    let count = c.lacking-missing.ensures.value ∙ ap (λ (s : PlaceSet). length (places_where s.table (λ p. not (has_place s.marked p)))) c.named.ensures in
    let missing = ap (λ n. Some n) count ∙ counted_missing l.readings c.args.going.target.rounds c.args.going.target.named (sym ended.has_loaded.has_named) in
    answers_with {A = g.row.A.Denot} l c.args.going.target.rounds
    (record {
      memory = Some c.into_memory.result;
      rounds = c.rounds-rounds.result;
      verdict = c.args.verdict;
      missing = Some c.lacking-missing.result;
      closed_at = c.args.main.closed_at;
      valid_up_to = Some c.args.main.valid_up_to;
    })
    ends ended.are_readings ended.have_passed c.rounds-rounds.ensures
    (ap (λ (m : Image). Some m) c.into_memory.ensures ∙ sym ended.has_loaded.has_memory) ended.has_ended
    missing c.args.main at refl refl
