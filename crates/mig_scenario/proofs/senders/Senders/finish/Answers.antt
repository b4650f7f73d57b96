use Rattle.mig_mem.specs.Tracking.{rounds_of}
use Rattle.mig_scenario.proofs.Sendings.{no_text_of, text_of_rounds, no_dealt_text, texts_of_dealt}
use Rattle.mig_scenario.proofs.senders.Senders.finish.Goals as goal
use Rattle.mig_scenario.proofs.senders.Senders.finish.Goals.{in-None, in-Some+in-Ok, in-None-several, in-Some-several+in-Ok-finish}

pub returns : goal.returns
returns g c = λ table snapshots of sent. record {
  single_text = elim c.match-single.branch [
    | in-None w ↦ no_text_of c.args.self.single c.match-single.single _ w.in-None.is w.single-is
    | in-Some+in-Ok w ↦ text_of_rounds c.args.self.single c.match-single.single table
        (rounds_of snapshots) w.in-Some.sender w.in-Ok.text w.in-Some.is w.single-is of.single_table sent.single_sent w.in-Ok.ensures.ok
  ];
  several_texts = elim c.match-several-2.branch [
    | in-None-several w ↦ no_dealt_text c.args.self.several c.match-several-2.several table snapshots w.in-None-several.is w.several-is
    | in-Some-several+in-Ok-finish w ↦ texts_of_dealt c.args.self.several c.match-several-2.several table snapshots
        w.in-Some-several.sender w.in-Ok-finish.sent w.in-Some-several.is w.several-is
        of.several_table sent.several_sent w.in-Ok-finish.ensures.ok
  ];
}
