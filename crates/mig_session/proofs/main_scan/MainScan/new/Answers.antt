use Rattle.std.proofs.Common.{refl, inl, subst}
use Rattle.mig_stream.specs.declared.item.Mode.{Mode}
use Rattle.mig_stream.specs.Reading.{settings, in_frame, with_waiting}
use Rattle.mig_stream.specs.Reader.{Stands, nothing_yet}
use Rattle.mig_load_types.specs.Settings.{main_of}
use Rattle.mig_answer.specs.Texts.{no_text}
use Rattle.mig_session.proofs.main_scan.MainScan.new.Goals as goal

pub returns : goal.returns
returns g c =
    let given = c.args.settings in
    let stands : Stands (main_of given) nothing_yet c.new_with.result =
    subst (λ (m : Mode). Stands (with_waiting given.waiting (in_frame given.frame (settings m given.page_size given.limit)))
    nothing_yet c.new_with.result) c.main_mode.ensures c.new_with.ensures.stands in
    c.drop_rounds.ensures (main_of given) no_text 0 stands (inl refl)
