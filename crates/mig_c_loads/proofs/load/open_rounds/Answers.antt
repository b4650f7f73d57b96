use Rattle.std.proofs.Common.{ℕ, ◌≡◌, ◌∙◌, List, Option, Some, rules, sym, subst}
use Rattle.mig_mem.specs.RamTable.{RamTable}
use Rattle.mig_stream.specs.declared.item.Frame.{Frame}
use Rattle.mig_load_types.specs.declared.settings.RoundEnd.{RoundEnd}
use Rattle.mig_c_loads.specs.Frames.{frame_of, round_end_of, waiting_of}
use Rattle.mig_c_loads.specs.ByRounds.{RoundsLoad, HasNoRound, BeginsAlone}
use Rattle.mig_c_loads.proofs.load.open_rounds.Goals as goal

pub returns-in-Ok-new-clause-ok : goal.returns-in-Ok-new-clause-ok
returns-in-Ok-new-clause-ok c =
    let table : RamTable = c.args.table.now in
    let made : RoundsLoad = c.in-Ok-new.load.load in
    let frame : frame_of c.args.settings.now.frame ≡ Some c.in-Some.frame = sym c.frame_of.ensures ∙ c.in-Some.is in
    let ends : round_end_of c.args.settings.now.round_end ≡ Some c.in-Some-round_end_of.round_end =
    sym c.round_end_of.ensures ∙ c.in-Some-round_end_of.is in
    let named : HasNoRound table c.args.uuid.now c.args.channels c.in-Some.frame c.waiting_of-waiting.result c.in-Some-round_end_of.round_end made.load =
    subst (λ (u : List ℕ). HasNoRound table u c.args.channels c.in-Some.frame c.waiting_of-waiting.result c.in-Some-round_end_of.round_end made.load)
    c.in-Ok.ensures.bytes c.in-Ok-new.ensures.alone in
    let waits : HasNoRound table c.args.uuid.now c.args.channels c.in-Some.frame (waiting_of c.args.settings.now.waiting)
    c.in-Some-round_end_of.round_end made.load =
    subst (λ (w : Option ℕ). HasNoRound table c.args.uuid.now c.args.channels c.in-Some.frame w c.in-Some-round_end_of.round_end made.load)
    c.waiting_of-waiting.ensures named in
    record {
      opens = search rules;
      alone =
          subst (λ (f : Option Frame). BeginsAlone (Some table) c.args.uuid.now c.args.channels f (waiting_of c.args.settings.now.waiting)
          (round_end_of c.args.settings.now.round_end) (Some made)) (sym frame)
          (subst (λ (o : Option RoundEnd). BeginsAlone (Some table) c.args.uuid.now c.args.channels (Some c.in-Some.frame)
          (waiting_of c.args.settings.now.waiting) o (Some made)) (sym ends) waits);
      none = c.in-Ok-new.ensures.none;
    }
