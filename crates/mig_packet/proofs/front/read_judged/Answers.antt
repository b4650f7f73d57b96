use Rattle.std.proofs.Common.{◌<◌, ◌≤◌, length, arith}
use Rattle.mig_packet.proofs.Judging.{due_free, cut_short, text_of_front}
use Rattle.mig_packet.proofs.front.read_judged.Goals as goal

pub returns-then-bytes-len : goal.returns-then-bytes-len
returns-then-bytes-len c =
    let short : length c.args.bytes.now < c.packet_len-len.result = omega arith in (
      due_free c.args.page_size c.args.bytes.now c.requires.faultless,
      cut_short c.args.page_size c.args.bytes.now (rw c.packet_len-len.ensures at short),
    )

pub invariant_of-result : goal.invariant_of-result
invariant_of-result c =
    let whole : c.packet_len-len.result ≤ length c.args.bytes.now = omega arith in
    record {
      has_page_size = c.requires.page_size;
      is_packet = rw c.packet_len-len.ensures
          (text_of_front c.args.page_size c.args.bytes.now c.requires.faultless (rw c.packet_len-len.ensures at whole));
    }
