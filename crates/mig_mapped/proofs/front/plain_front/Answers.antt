use Rattle.std.proofs.Common.{◌∙◌}
use Rattle.mig_mapped.proofs.FrontSteps.{if_ok}
use Rattle.mig_mapped.proofs.FrontPlain.{lies_in, list_cut, name_cut}
use Rattle.mig_mapped.proofs.front.plain_front.Goals as goal

pub without_list-requires : goal.without_list-requires
without_list-requires g c = lies_in c.args.bytes.now c.args.front c.requires

pub returns-then-front-eq1 : goal.returns-then-front-eq1
returns-then-front-eq1 g c =
    if_ok _ _ c.without_list.result _ _ (λ v e f there. e ∙ list_cut f c.args.bytes.now c.args.front there c.if-front-eq1.true) c.without_list.ensures

pub without_name-requires : goal.without_name-requires
without_name-requires g c = lies_in c.args.bytes.now c.args.front c.requires

pub returns : goal.returns
returns g c =
    if_ok _ _ c.without_name.result _ _ (λ v e f there. e ∙ name_cut f c.args.bytes.now c.args.front there c.if-front-eq1.false) c.without_name.ensures
