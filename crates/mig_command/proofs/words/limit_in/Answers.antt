use Rattle.std.proofs.Common.{◌^◌, ◌∙◌, arith, codes}
use Rattle.std.specs.Str.Parse.{ParsesUnsigned, ExplainsUnsignedError, HasUnsignedDigitsIfOk}
use Rattle.clap.specs.Words.{found_of}
use Rattle.mig_command.proofs.CommandLine.{number_read}
use Rattle.mig_command.proofs.words.limit_in.Goals as goal

pub returns : goal.returns
returns c = λ limit few gives.
    c.unwrap_or.ensures ∙ number_read 64 (found_of c.args.matches.now) (codes "limit") (2 ^ 30) limit c.get_one.result
    (λ t v. ParsesUnsigned 64 10 t v × ExplainsUnsignedError 10 t v × HasUnsignedDigitsIfOk t v) (λ t v has. has.0) (omega (arith, few)) gives
    c.get_one.ensures.none c.get_one.ensures.value
