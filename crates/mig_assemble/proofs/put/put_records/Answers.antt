use Rattle.std.proofs.Common.{ℕ, ◌≡◌, ◌∙◌, refl, ap, sym, arith, List, Option}
use Rattle.std.specs.Option.{unwrap_or, option_copied}
use Rattle.mig_mem.specs.Image.{Image, zero_page}
use Rattle.mig_stream.specs.PageRecord.{PageRecord, page_of}
use Rattle.mig_stream.specs.Round.{record_at}
use Rattle.mig_assemble.proofs.Putting.{put_none, put_more}
use Rattle.mig_assemble.proofs.put.put_records.Goals as goal

pub loop-i-init : goal.loop-i-init
loop-i-init g c = (put_none (g.M.GuestTarget.image c.args.memory.now) c.table-table.ensures.image, refl)

pub loop-i-preserved : goal.loop-i-preserved
loop-i-preserved g c =
    let here : Image = g.M.GuestTarget.image c.loop-i.memory in
    let round = c.args.round.now in
    let r : PageRecord = record_at round.records c.loop-i.i in
    let size : here.table.page_size ≡ round.page_size = ap (λ (m : Image). m.table.page_size) c.loop-i.invariant.0 ∙ sym c.requires.has_page_size in
    let bytes : unwrap_or (option_copied c.record.result.1) (zero_page here.table.page_size) ≡ (page_of round.page_size r).content =
    ap (λ (o : Option (List ℕ)). unwrap_or o (zero_page here.table.page_size)) c.record.ensures.content
    ∙ ap (λ (n : ℕ). unwrap_or r.content (zero_page n)) size in (
      put_more (g.M.GuestTarget.image c.args.memory.now) here (g.M.GuestTarget.image c.put_record.new.memory) round.page_size round.records c.loop-i.i
          c.record.result.0 _ c.loop-i.invariant.0 (omega arith) c.record.ensures.place bytes c.put_record.ensures.image,
      c.put_record.ensures.kept ∙ c.loop-i.invariant.1,
    )
