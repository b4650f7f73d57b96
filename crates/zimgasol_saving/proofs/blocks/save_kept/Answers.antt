use Rattle.std.proofs.Common.{[], ◌++◌, length, refl}
use Rattle.zimgasol_saving.specs.Sent.{sent_before}
use Rattle.zimgasol_saving.specs.Written.{Kept}
use Rattle.zimgasol_saving.proofs.Streams.{appends_then}
use Rattle.zimgasol_saving.proofs.BlockSteps.{blocks_saved}
use Rattle.zimgasol_saving.proofs.blocks.save_kept.Goals as goal

pub returns : goal.returns
returns g c = λ sources known.
    let table = c.args.table.now in
    let front = Kept (c.args.libvirt.now ++ c.args.before.now) c.args.id in
    let begun = c.in_ok-sending.ensures in
    let sent = c.in_ok-sent.ensures sources known front table begun.0 [] begun.2 in
    let pages = sent_before table sources (length table.blocks) in
    let ended = c.in_ok-counts.ensures front table (begun.0 ++ sent.bytes) pages sent.has_sent in
    blocks_saved front table sources (g.W.Write.contents c.args.out.now) (g.W.Write.contents c.finish.new.out) ((begun.0 ++ sent.bytes) ++ ended.0) pages
    (appends_then (g.W.Write.contents c.args.out.now) (g.W.Write.contents c.send_single.new.out) (g.W.Write.contents c.finish.new.out)
    (begun.0 ++ sent.bytes) ended.0
    (appends_then (g.W.Write.contents c.args.out.now) (g.W.Write.contents c.begin_kept.new.out) (g.W.Write.contents c.send_single.new.out) begun.0 sent.bytes
    begun.1 sent.has_bytes)
    ended.1)
    sent.files_fit refl ended.2
