use Rattle.std.proofs.Common.{ℕ, List, [], Option, ◌∙◌, ap}
use Rattle.std.specs.Option.{unwrap_or}
use Rattle.mig_zero.specs.Zero.{is_zero}
use Rattle.mig_zero.proofs.Zeros.{zero_test}
use Rattle.mig_send.proofs.packed.is_zero_page.Goals as goal

pub returns-in-Some : goal.returns-in-Some
returns-in-Some g c =
    zero_test c.in-Some.content.now c.is_zero.result c.is_zero.ensures ∙ ap (λ (o : Option (List ℕ)). is_zero (unwrap_or o [])) c.in-Some.ensures.value
