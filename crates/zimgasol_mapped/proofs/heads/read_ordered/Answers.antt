use Rattle.std.proofs.Common.{ap, ◌∙◌, arith}
use Rattle.mig_mapped.specs.declared.settings.MappedSettings.{MappedSettings}
use Rattle.zimgasol_mapped.proofs.Indexed.{so_far_more, so_far_whole}
use Rattle.zimgasol_mapped.proofs.heads.read_ordered.Goals as goal

pub returns-then-left-eq0-clause-index : goal.returns-then-left-eq0-clause-index
returns-then-left-eq0-clause-index g c = λ all known.
    so_far_whole all _ c.args.list.place c.args.list.total c.loop.index (c.loop.invariant.so_far all known) (omega (arith, c.left.ensures, c.if-left-eq0.true))

pub loop-preserved : goal.loop-preserved
loop-preserved g c = record {
  same = c.read_head.ensures.same ∙ c.loop.invariant.same;
  size = ap (λ (s : MappedSettings). s.page_size) c.in_ok-read_head.ensures.given ∙ c.loop.invariant.size;
  so_far = λ all known. so_far_more all _ c.args.list.place c.args.list.total c.loop.index c.read_head.new.index (c.loop.invariant.so_far all known)
      (λ none. absurd (omega (arith, none, c.left.ensures, c.if-left-eq0.false)))
      (c.in_ok-read_head.ensures.next all (c.loop.invariant.same ∙ known));
}
