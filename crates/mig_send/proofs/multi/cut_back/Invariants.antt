use Rattle.std.proofs.Common.{◌≡◌, take}
use Rattle.std.specs.Prelude.{vec_len}
use Rattle.mig_send.specs.MultiSending.{texts_of, cut_texts}
use Rattle.mig_send.proofs.multi.cut_back.Given as goal

abbrev pub invariant-channels : goal.invariant-channels
invariant-channels g l = record {
  len : vec_len l.channels ≡ vec_len l.fn.channels;
  texts : texts_of l.channels.items ≡ cut_texts (take l.i l.lens) (texts_of l.fn.channels.items);
}
