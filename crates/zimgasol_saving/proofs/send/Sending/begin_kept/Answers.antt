use Rattle.std.proofs.Common.{ℕ, List, [], ◌++◌, ◌∙◌, ap, refl}
use Rattle.mig_stream.specs.Text.{file_header}
use Rattle.mig_stream.specs.Written.{written_so_far}
use Rattle.zimgasol_saving.proofs.Streams.{appends_then, begun_kept}
use Rattle.zimgasol_saving.proofs.send.Sending.begin_kept.Goals as goal

pub returns : goal.returns
returns g c =
    let front : List ℕ = c.args.libvirt.now ++ c.args.before.now in
    let end : List ℕ = c.start_end-end.result in
    let drained : List ℕ = file_header ++ c.drain_into.new.bytes.items in (
      front ++ end,
      appends_then (g.W.Write.contents c.args.out.now) (g.W.Write.contents c.write-2.new.out) (g.W.Write.contents c.write-3.new.out) front end
          (appends_then (g.W.Write.contents c.args.out.now) (g.W.Write.contents c.write.new.out) (g.W.Write.contents c.write-2.new.out) c.args.libvirt.now
          c.args.before.now c.in_ok-write.ensures c.in_ok-write-2.ensures)
          c.in_ok-write-3.ensures,
      begun_kept front end drained c.args.id c.args.table.now _ (c.start_end-end.ensures c.args.table.now)
          (c.drain_into.ensures.table ∙ c.in_ok-sender.ensures.table) refl
          (c.drain_into.ensures.all file_header [] c.in_ok-sender.ensures.none ∙ ap (λ t. written_so_far t []) c.in_ok-sender.ensures.table)
          (c.drain_into.ensures.drained file_header [] c.in_ok-sender.ensures.none),
    )
