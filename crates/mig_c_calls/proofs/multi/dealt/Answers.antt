use Rattle.std.proofs.Common.{◌≡◌, ◌∙◌, List, length, map, refl, sym, ap, subst, arith}
use Rattle.std.specs.Prelude.{All}
use Rattle.mig_mem.specs.RamTable.{RamTable}
use Rattle.mig_mem.specs.declared.place.Place.{Place}
use Rattle.mig_mem.specs.Place.{IsPlace}
use Rattle.mig_mem.specs.PlaceSet.{PlaceSet}
use Rattle.mig_send.specs.MultiSending.{MultiSending}
use Rattle.mig_c_calls.specs.Multi.{IsInRound, place_of, set_of}
use Rattle.mig_c_calls.proofs.Sends.{begins}
use Rattle.mig_c_calls.proofs.multi.dealt.Goals as goal

pub returns-in-Ok-begin_round_with : goal.returns-in-Ok-begin_round_with
returns-in-Ok-begin_round_with c =
    let sender = c.args.sender in
    let places : List Place = map place_of c.args.places.now in
    let r = c.in-Ok-begin_round_with.round in
    let begun = c.in-Ok-begin_round_with.ensures.ok in (
      record {
        is_named = refl;
        begins = λ _ setting image drained rounds sends.
            let of_table : c.table-2.result.now ≡ setting.table = c.table-2.ensures ∙ sends.0.same_table in
            let set : c.in-Ok.dirty ≡ set_of setting.table places = c.in-Ok.ensures ∙ ap (λ (t : RamTable). set_of t places) of_table in
            subst (λ (l : List Place). IsInRound setting image l drained rounds r) (ap (λ (s : PlaceSet). s.marked) set)
            (begins c.in-Ok.dirty sender r setting image drained rounds begun sends.0 sends.1);
        all_left = λ _. (begun.all_left ∙ ap (λ (s : MultiSending). length s.channels) (sym begun.same_sender), begun.none_back);
        same = λ no. absurd (no refl);
        wrong = grind arith;
        in_turn = λ _. tt;
        foreign = grind arith;
        has_places = λ _ _. subst (λ (t : RamTable). All (IsPlace t) places) c.table.ensures (c.if-not-has_all.ensures.0 refl);
      },
      grind arith,
    )
