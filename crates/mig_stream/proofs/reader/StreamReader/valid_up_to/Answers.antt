use Rattle.std.proofs.Common.{ap, sym, subst}
use Rattle.mig_stream.specs.Reader.{Reader, IsValidUpTo}
use Rattle.mig_stream.proofs.Closing.{valid_stands}
use Rattle.mig_stream.proofs.reader.StreamReader.valid_up_to.Goals as goal

pub returns : goal.returns
returns g c given so_far s = subst (IsValidUpTo given so_far.text) (ap (λ (x : Reader). x.valid_up_to) (sym c.self.view_is))
    (valid_stands c.args.self.now given so_far s)
