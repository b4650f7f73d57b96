use Rattle.std.proofs.Common.{ℕ, ◌≡◌, ◌∙◌, ap, arith, List, Option, None}
use Rattle.std.proofs.lemmas.List.{take_all}
use Rattle.std.specs.Option.{unwrap_or, option_copied}
use Rattle.mig_mem.specs.declared.place.Place.{Place}
use Rattle.mig_mem.specs.declared.putting.RoundPage.{RoundPage}
use Rattle.mig_mem.specs.Place.{place_at}
use Rattle.mig_mem.specs.Image.{zero_page}
use Rattle.mig_mem.specs.Puts.{round_page}
use Rattle.mig_stream.specs.PageRecord.{PageRecord, page_of}
use Rattle.mig_stream.specs.Round.{record_at}
use Rattle.mig_assemble.proofs.RoundLists.{adds_none, adds_element}
use Rattle.mig_assemble.proofs.round_list.add_records.Goals as goal

pub loop-i-init : goal.loop-i-init
loop-i-init g c = adds_none c.args.round.now.page_size c.args.list.now.items

pub loop-i-preserved : goal.loop-i-preserved
loop-i-preserved g c =
    let round = c.args.round.now in
    let size : ℕ = round.page_size in
    let x : RoundPage = record { place = c.record.result.0; content = c.record.result.1 } in
    let r : PageRecord = record_at round.records c.loop-i.i in
    let same : round_page size x ≡ page_of size r =
    ap (λ (p : Place). record { place = p; content = unwrap_or (option_copied c.record.result.1) (zero_page size) }) c.record.ensures.place
    ∙ ap (λ (o : Option (List ℕ)). record { place = r.place; content = unwrap_or o (zero_page size) }) c.record.ensures.content in
    adds_element size c.args.list.now.items c.loop-i.list.items c.push.new.self.items x (page_of size) round.records c.loop-i.i
    (record { place = place_at 0 0; content = None }) c.loop-i.invariant (omega arith) c.in_ok-push.ensures.items same c.record.ensures.size

pub returns : goal.returns
returns g c =
    let round = c.args.round.now in
    let all = take_all c.loop-i.i round.records (omega (arith, c.len-i-end.ensures)) in
    rw all at c.loop-i.invariant
