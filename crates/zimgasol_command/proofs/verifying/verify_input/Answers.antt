use Rattle.std.proofs.Common.{◌<◌, ◌^◌}
use Rattle.std.proofs.lemmas.List.Elements.{All-drop}
use Rattle.zimgasol_command.proofs.Verified.{IsSurveyFor, whole_is, if_ok, exactly}
use Rattle.zimgasol_command.proofs.verifying.verify_input.Goals as goal

pub returns : goal.returns
returns g c =
    let s = c.in_ok-survey.survey in
    let was = c.in_ok-survey.was in
    let e = c.read_input-read.ensures in
    let asked = if_ok _ _ s was e.asked in
    let sizes = if_ok _ _ s was e.sizes in
    let bounds = if_ok _ _ s was e.bounds in
    let for_words : IsSurveyFor c.args.words.now s = record {
      has_frame = asked.0;
      has_partial = asked.1;
      has_none_below = asked.2;
      has_page_size = sizes.0;
      has_limit = sizes.1;
      is_page_size = bounds.0;
    } in
    record {
      exact = exactly _ _ _ _ c.judge_single.result c.judge_single.ensures.verdict (λ text known few bytes.
          whole_is c.args.words.now s text for_words (if_ok _ _ s was e.before text known) (if_ok _ _ s was e.found text known few)
          (All-drop (λ byte. byte < 2 ^ 8) _ text bytes) (λ closed. if_ok _ _ s was e.ended text known few bytes closed));
    }
