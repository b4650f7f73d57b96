use Rattle.std.proofs.Common.{rules, ℕ, ◌≡◌, List, [], refl, sym, subst, ◌∙◌}
use Rattle.std.proofs.lemmas.List.{append-nil}
use Rattle.mig_mem.specs.Image.{Page}
use Rattle.zimgasol_files.specs.Differing.{piece_of, AreSent}
use Rattle.zimgasol_files.proofs.Sent.{sent_none}
use Rattle.zimgasol_packing.specs.Packing.{IsPacking}
use Rattle.zimgasol_packing.proofs.packing.Packing.send.Goals as goal

pub loop-page-init : goal.loop-page-init
loop-page-init g c = record {
  count = refl;
  sent = λ begun pages is. (
    [],
    sent_none c.args.block c.args.first (piece_of c.args.pages.now),
    subst (λ (l : List Page). IsPacking g.F.Write.contents begun l c.args.self.now) (sym (append-nil pages)) is,
  );
}

pub loop-page-preserved : goal.loop-page-preserved
loop-page-preserved g c = record {
  count = c.in_ok-add_differing.ensures.count ∙ c.loop-page.invariant.count;
  sent = λ begun pages is.
      let had = c.loop-page.invariant.sent begun pages is in
      c.in_ok-add_differing.ensures.sent (search rules) begun pages had.0 had.1 had.2;
}

pub returns-clause-sent : goal.returns-clause-sent
returns-clause-sent g c = λ _ begun pages is.
    let e : c.loop-page.page ≡ 256 = search rules in
    let had = c.loop-page.invariant.sent begun pages is in
    let piece = piece_of c.args.pages.now in (
      had.0,
      subst (λ (n : ℕ). AreSent c.args.block c.args.first piece n had.0) e had.1,
      had.2,
    )
