use Rattle.std.proofs.Common.{◌∙◌, ◌∷◌, [], sym, ap, arith, List, ℕ, Option}
use Rattle.std.specs.Option.{unwrap_or}
use Rattle.mig_mem.specs.Place.{IsPlace}
use Rattle.mig_mem.proofs.Walks.{found_page}
use Rattle.mig_stream.specs.Writer.{with_pages}
use Rattle.mig_stream.proofs.Writing.{on_err}
use Rattle.mig_stream.proofs.Walking.{walked_none, walked_more, walked_all, walked_front, found_in_table, no_place_missing}
use Rattle.mig_stream.proofs.writer.StreamWriter.put_pages.Goals.{in-Some-page+in_ok-put_page, in_default-page}
use Rattle.mig_stream.proofs.writer.StreamWriter.put_pages.Goals as goal

pub loop-init : goal.loop-init
loop-init g c = walked_none c.args.dirty.now (g.G.GuestPages.image c.args.image.now) c.args.self.now

pub overflow_add-from : goal.overflow_add-from
overflow_add-from g c = omega (arith, found_page c.args.dirty.now _ c.in-Some.place c.count-end.ensures.set (sym c.first_from.ensures ∙ c.in-Some.is))

pub returns-in_err-put_page-clause-err : goal.returns-in_err-put_page-clause-err
returns-in_err-put_page-clause-err g c =
    on_err c.from_residual.result _
    (walked_front c.args.dirty.now (g.G.GuestPages.image c.args.image.now) c.args.self.now c.loop.self c.put_page.new.self
    c.loop.from c.loop.counter c.loop.invariant c.in_err-put_page.ensures.err)

pub returns-in_default-clause-ok : goal.returns-in_default-clause-ok
returns-in_default-clause-ok g c =
    walked_all c.args.dirty.now (g.G.GuestPages.image c.args.image.now) c.args.self.now c.loop.self c.loop.from c.loop.counter
    c.loop.invariant (sym c.first_from.ensures ∙ c.in_default.is)

pub loop-preserved : goal.loop-preserved
loop-preserved g c =
    let some = sym c.first_from.ensures ∙ c.in-Some.is in
    let p = c.in-Some.place in
    elim c.match-page.branch [
      | in-Some-page+in_ok-put_page w ↦
          let content = ap (λ (o : Option (List ℕ)). unwrap_or o []) w.in-Some-page.ensures.value in
          walked_more c.args.dirty.now (g.G.GuestPages.image c.args.image.now) c.args.self.now c.loop.self c.match-page.self
          c.loop.from p c.loop.counter c.count-end.ensures.set c.loop.invariant some
          (w.self-is ∙ w.in_ok-put_page.ensures.ok ∙ ap (λ (b : List ℕ). with_pages c.loop.self (record { place = p; content = b } ∷ [])) content)
      | in_default-page w ↦
          let here = found_in_table c.args.dirty.now _ p c.count-end.ensures.set some in
          absurd (no_place_missing c.page.result (IsPlace (g.G.GuestPages.image c.args.image.now).table p) w.in_default-page.is
          c.page.ensures.there.1 (rw (c.requires.image) (rw (c.requires.dirty) at here)))
    ]
