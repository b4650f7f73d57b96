use Rattle.std.proofs.Common.{rules, ◌≡◌, ◌++◌, ℕ, List, [], length, refl, ap, subst, ◌∙◌, arith}
use Rattle.std.specs.Io.KnownBytes.{Appends}
use Rattle.std.specs.Option.{option_copied}
use Rattle.std.proofs.lemmas.List.{append-nil}
use Rattle.mig_mem.specs.Image.{Page}
use Rattle.zimgasol_packing.specs.Packing.{Begun, front_of, IsPacking}
use Rattle.zimgasol_saving.specs.Sent.{sent_pages}
use Rattle.zimgasol_saving.specs.Written.{Beside}
use Rattle.zimgasol_saving.proofs.Streams.{appends_then}
use Rattle.zimgasol_saving.proofs.SentPages.{all_sent}
use Rattle.zimgasol_saving.proofs.ChannelSteps.{no_bytes, saved_over}
use Rattle.zimgasol_saving.proofs.packets.save_packets.Goals as goal

pub returns : goal.returns
returns g c = λ sources known empty.
    let contents = g.F.Write.contents in
    let out = g.W.Write.contents in
    let table = c.args.table.now in
    let name = option_copied c.args.name in
    let begun : Begun = record { name = name; uuid = c.args.uuid; table = table } in
    let n = length c.in_ok-packing.packing.channels.items in
    let first = c.in_ok-packing.ensures.begun empty in
    let sent = c.in_ok-send_blocks.ensures sources known (Beside name c.args.uuid n) table (front_of name) [] (refl, refl, first) in
    let none : sent.bytes ≡ [] = no_bytes (front_of name) sent.bytes sent.has_sent.0 in
    let front : Appends (out c.args.out.now) (out c.send_blocks.new.out) (front_of name) =
    subst (λ (l : List ℕ). Appends (out c.args.out.now) (out c.send_blocks.new.out) l)
    (ap (λ (l : List ℕ). front_of name ++ l) none ∙ append-nil (front_of name))
    (appends_then (out c.args.out.now) (out c.begin.new.out) (out c.send_blocks.new.out) (front_of name) sent.bytes
    c.in_ok-packing.ensures.first sent.has_bytes) in
    let packing : IsPacking contents begun (sent_pages table sources) c.send_blocks.new.sink.packing =
    subst (λ (l : List Page). IsPacking contents begun l c.send_blocks.new.sink.packing) (all_sent table sources) sent.has_sent.2 in
    let count : length c.in_ok-ended.ended.0.items ≡ n = c.in_ok-ended.ensures.count ∙ sent.has_sent.1 in
    let given : n ≡ length c.args.channels.items = c.in_ok-packing.ensures.count.2 in (
      count ∙ given,
      saved_over contents name c.args.uuid table sources c.in_ok-ended.ended.0.items (out c.send_blocks.new.out) (out c.finish.new.out) (search rules)
          c.in_ok-packing.ensures.uuid (omega (arith, count, c.in_ok-packing.ensures.count.0)) (omega (arith, count, c.in_ok-packing.ensures.count.1))
          known.same_count sent.files_fit (c.in_ok-ended.ensures.all begun (sent_pages table sources) packing) (out c.args.out.now) front,
    )
