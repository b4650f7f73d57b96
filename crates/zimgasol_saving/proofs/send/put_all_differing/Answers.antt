use Rattle.std.proofs.Common.{[], refl}
use Rattle.zimgasol_files.specs.Differing.{piece_of}
use Rattle.zimgasol_files.proofs.Sent.{sent_none}
use Rattle.zimgasol_saving.proofs.send.put_all_differing.Goals as goal

pub loop-page-init : goal.loop-page-init
loop-page-init c = record {
  before = refl;
  sent = λ put. ([], sent_none c.args.block c.args.first (piece_of c.args.pages.now), put);
}
