use Rattle.std.proofs.Common.{ap, sym}
use Rattle.mig_stream.specs.Writer.{PartSoFar}
use Rattle.mig_stream.proofs.Writing.{on_ok_so, put_more}
use Rattle.mig_stream.proofs.writer.OpenPart.put_page.Goals as goal

pub returns-else-is_err-clause-ok : goal.returns-else-is_err-clause-ok
returns-else-is_err-clause-ok g c =
    let w = c.self.inside.writer in
    let same = sym (ap (λ (p : PartSoFar). p.before.table) c.self.view_is) in
    on_ok_so c.put_page-put.result _ _ c.put_page-put.ensures.ok (λ step pages h.
    put_more c.self.inside.len c.self.inside.named w c.put_page-put.new.self pages (record { place = c.args.place; content = c.args.bytes.now })
    c.self.invariant step (rw same at c.requires.place) (rw same at c.requires.bytes) (rw (sym c.self.view_is) at h))
