use Rattle.std.proofs.Common.{ℕ, List, [], Option, ap, sym, subst}
use Rattle.std.specs.Option.{option_copied}
use Rattle.zimgasol_saving.specs.Written.{Named, IsSending}
use Rattle.zimgasol_saving.proofs.Streams.{appends_none}
use Rattle.zimgasol_saving.proofs.send.Sending.begin.Goals as goal

pub returns-in_default : goal.returns-in_default
returns-in_default g c = (
  [],
  appends_none (g.W.Write.contents c.args.out.now),
  subst (λ (n : Option (List ℕ)). IsSending c.in_ok-sending.sending (Named n) c.args.table.now [] []) (sym (ap option_copied c.in_default.is))
      c.in_ok-sending.ensures,
)
