use Rattle.std.proofs.Common.{◌≡◌, ◌+◌, ◌-◌, ◌++◌, length, take, rules, sym, refl, subst, arith}
use Rattle.std.specs.Io.KnownBytes.{Consumes}
use Rattle.std.proofs.lemmas.Slice.{take-put_mid}
use borrow.Rule.Slice.PartMut.{put_mid}
use Rattle.zimgasol_files.proofs.Inputs.{read_more, consumes_then}
use Rattle.zimgasol_files.proofs.input.read_piece.Goals as goal

pub reads-preserved : goal.reads-preserved
reads-preserved g c =
    let a = c.reads.len in
    let xs = c.reads.buffer in
    let ys = c.read_some.new.buffer in
    let all = put_mid a (length xs - a) xs ys in
    let same : length all ≡ length xs = search rules in
    let rest : length ys ≡ length xs - a = search rules in
    let read : take (a + c.in-Ok.more) all ≡ take a xs ++ take c.in-Ok.more ys =
    read_more a c.in-Ok.more xs ys all c.reads.invariant.within
    (take-put_mid a (length xs - a) xs ys (a + length ys) refl c.reads.invariant.within) (omega (arith, same, rest, c.reads.invariant.within)) in
    record {
      within = omega (arith, same, rest, c.reads.invariant.within, c.in-Ok.ensures.count);
      same = search rules;
      consumed = subst (Consumes (g.R.Read.remaining c.args.input.now) (g.R.Read.remaining c.read_some.new.input)) (sym read)
          (consumes_then (g.R.Read.remaining c.args.input.now) (g.R.Read.remaining c.reads.input) (g.R.Read.remaining c.read_some.new.input)
          (take a xs) (take c.in-Ok.more ys) c.reads.invariant.consumed c.in-Ok.ensures.bytes.0);
    }
