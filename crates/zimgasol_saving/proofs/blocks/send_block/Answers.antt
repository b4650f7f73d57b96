use Rattle.std.proofs.Common.{ℕ, ◌≡◌, ◌*◌, ◌^◌, subst, arith}
use Rattle.zimgasol_files.specs.ReadOn.{IsReadTo}
use Rattle.zimgasol_saving.proofs.BlockSteps.{few_of}
use Rattle.zimgasol_saving.proofs.blocks.send_block.Goals as goal

pub returns : goal.returns
returns g c = λ s some room fits known.
    let part = c.args.part.now in
    let files = c.in_ok-file.ensures s known in
    let len : c.saturating_mul-len.result ≡ part.pages * part.page_size = omega (arith, c.saturating_mul-len.ensures, fits) in
    let at : IsReadTo (g.B.File.Read.remaining) part.page_size (part.pages * part.page_size) s.bytes s.before c.in_ok-reading.reading =
    subst (λ (n : ℕ). IsReadTo (g.B.File.Read.remaining) part.page_size n s.bytes s.before c.in_ok-reading.reading) len
    (c.in_ok-reading.ensures s.bytes s.before room files.0 files.1) in
    c.in_ok-pages.ensures part.page_size part.pages s some (few_of part.pages part.page_size (2 ^ 64) some fits) at
