use Rattle.std.proofs.Common.{◌+◌, ℕ, sym, ap, subst, ◌∙◌, arith}
use Rattle.mig_stream.specs.Items.{is_passed_command}
use Rattle.mig_stream.specs.Machine.{Command, command, IsCommand}
use Rattle.mig_mapped.specs.FrontParts.{Begins}
use Rattle.mig_mapped.proofs.FrontFields.{bytes_fit}
use Rattle.mig_mapped.proofs.FrontParsed.{command_found}
use Rattle.mig_mapped.proofs.front.command_len.Goals as goal

pub returns-clause-found : goal.returns-clause-found
returns-clause-found c =
    subst (λ (n : ℕ). Begins Command command IsCommand c.args.bytes.now (5 + n)) (sym c.be16-len.ensures)
    (command_found c.args.bytes.now (bytes_fit c.args.bytes.now c.type_inv.bytes)
    (omega (arith, c.if-bytes-len.false, c.be16-len.ensures, c.if-bytes-lt5.false)) c.if-bytes-ne-COMMAND.false
    (ap is_passed_command (sym c.be16.ensures) ∙ sym c.is_passed.ensures ∙ c.if-not-is_passed.false))
