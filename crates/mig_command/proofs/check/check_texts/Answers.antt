use Rattle.std.proofs.Common.{ℕ, ◌≡◌, ◌^◌, ◌-◌, ◌∙◌, min, sym, ap, subst}
use Rattle.std.specs.Prelude.{Some, None, sum_by, length}
use Rattle.mig_send.specs.MultiSending.{texts_of}
use Rattle.mig_command.specs.declared.answer.Checked.{Checked}
use Rattle.mig_command.specs.declared.answer.ChannelsChecked.{ChannelsChecked}
use Rattle.mig_command.specs.declared.answer.Comparison.TheVariants.{Same}
use Rattle.mig_scenario.specs.Layout.{bytes_in}
use Rattle.mig_command.specs.Answer.{IsLoadOfSent, snapshots_in}
use Rattle.mig_command.proofs.Checking.{compared_back, text_back, text_image, compared_err, compared_ok, want_answers, channels_back, none_gone, one_gone, told}
use Rattle.mig_command.proofs.Checking.{are_checked}
use Rattle.mig_command.proofs.check.check_texts.Goals as goal
use Rattle.mig_command.proofs.check.check_texts.Goals.{in-Same, in-Differs}

pub returns-in-Err : goal.returns-in-Err
returns-in-Err g c = λ text trip lawful went.
    let layout = c.args.layout in
    let played = c.args.played.now in
    let back = text_back layout text played.texts.single played.image c.args.loaded.now trip in
    let compared = compared_back played.image c.args.loaded.now c.compare_loaded.result back c.compare_loaded.ensures.fault c.compare_loaded.ensures.same in
    want_answers layout text c.in-Err.answer (compared_err c.args.loaded.now c.compare_loaded.result c.in-Err.answer compared c.in-Err.is)

pub returns-in_default : goal.returns-in_default
returns-in_default g c = λ text trip lawful went.
    let layout = c.args.layout in
    let played = c.args.played.now in
    let back = text_back layout text played.texts.single played.image c.args.loaded.now trip in
    let compared = compared_back played.image c.args.loaded.now c.compare_loaded.result back c.compare_loaded.ensures.fault c.compare_loaded.ensures.same in
    let good = compared_ok c.args.loaded.now c.compare_loaded.result c.in-Ok.pair compared c.in-Ok.is in
    let whole : Checked = record { single = c.single_len-single.result; sections = c.in-Ok.pair.0; several = None; comparison = c.in-Ok.pair.1 } in
    are_checked layout text played.texts.single played.image whole c.args.loaded.now trip lawful good.0 c.single_len-single.ensures good.1
    (none_gone layout text played.texts.several went c.in_default.is) good.2

pub returns-in-Err-compare_loaded : goal.returns-in-Err-compare_loaded
returns-in-Err-compare_loaded g c = λ text trip lawful went.
    let layout = c.args.layout in
    let played = c.args.played.now in
    let sent = c.in-Some.sent in
    let of = one_gone layout text played.texts.several sent went c.in-Some.is in
    let load : IsLoadOfSent (bytes_in layout.page_size) sent c.load_sent-loaded.result =
    subst (λ (n : ℕ). IsLoadOfSent n sent c.load_sent-loaded.result) c.bytes.ensures.value c.load_sent-loaded.ensures in
    let back = channels_back layout text played.image sent c.load_sent-loaded.result of load
    (text_image layout text played.texts.single played.image c.args.loaded.now trip) in
    let compared = compared_back played.image c.load_sent-loaded.result c.compare_loaded-2.result back.0
    c.compare_loaded-2.ensures.fault c.compare_loaded-2.ensures.same in
    want_answers layout text c.in-Err-compare_loaded.answer
    (compared_err c.load_sent-loaded.result c.compare_loaded-2.result c.in-Err-compare_loaded.answer compared c.in-Err-compare_loaded.is)

pub returns : goal.returns
returns g c = λ text trip lawful went.
    let layout = c.args.layout in
    let played = c.args.played.now in
    let single_back = text_back layout text played.texts.single played.image c.args.loaded.now trip in
    let single_compared = compared_back played.image c.args.loaded.now c.compare_loaded.result single_back
    c.compare_loaded.ensures.fault c.compare_loaded.ensures.same in
    let first = compared_ok c.args.loaded.now c.compare_loaded.result c.in-Ok.pair single_compared c.in-Ok.is in
    let sent = c.in-Some.sent in
    let of = one_gone layout text played.texts.several sent went c.in-Some.is in
    let load : IsLoadOfSent (bytes_in layout.page_size) sent c.load_sent-loaded.result =
    subst (λ (n : ℕ). IsLoadOfSent n sent c.load_sent-loaded.result) c.bytes.ensures.value c.load_sent-loaded.ensures in
    let back = channels_back layout text played.image sent c.load_sent-loaded.result of load
    (text_image layout text played.texts.single played.image c.args.loaded.now trip) in
    let compared = compared_back played.image c.load_sent-loaded.result c.compare_loaded-2.result back.0
    c.compare_loaded-2.ensures.fault c.compare_loaded-2.ensures.same in
    let second = compared_ok c.load_sent-loaded.result c.compare_loaded-2.result c.in-Ok-compare_loaded.pair compared c.in-Ok-compare_loaded.is in
    let same : c.match-of_single.result ≡ Same = elim c.match-of_single.branch [
      | in-Same w ↦ w.result-is ∙ second.2
      | in-Differs w ↦ let bad = sym first.2 ∙ w.in-Differs.is in absurd cc
    ] in
    let channels : c.total_len.result ≡ min (sum_by length (texts_of sent.channels.items)) (2 ^ 64 - 1) =
    c.total_len.ensures ∙ ap (λ l. min (sum_by length (texts_of l)) (2 ^ 64 - 1)) c.deref.ensures.value in
    let rounds : c.in-Ok-compare_loaded.pair.0 ≡ length (snapshots_in layout text) = second.1 ∙ back.1 second.0 in
    let on_channels : ChannelsChecked = record { main = c.len.result; channels = c.total_len.result; rounds = c.in-Ok-compare_loaded.pair.0 } in
    let whole : Checked = record {
      single = c.single_len-single.result;
      sections = c.in-Ok.pair.0;
      several = Some on_channels;
      comparison = c.match-of_single.result;
    } in
    let said = told layout text sent on_channels of (c.len.ensures ∙ c.in-Some.sent.main.ok.0) channels rounds in
    are_checked layout text played.texts.single played.image whole c.args.loaded.now trip lawful first.0 c.single_len-single.ensures first.1 said same
