use Rattle.std.proofs.Common.{rules, ◌++◌, ◌∷◌, ◌+◌, ◌≡◌, List, ℕ, [], refl, ap, ap₂, subst, ◌∙◌, inl, inr, append_assoc}
use Rattle.std.proofs.lemmas.Bool.{false≢true}
use Rattle.mig_mem.specs.Image.{Page}
use Rattle.zimgasol_files.specs.Differing.{piece_of, page_sent}
use Rattle.zimgasol_files.proofs.Sent.{sent_more}
use Rattle.zimgasol_packing.specs.Packing.{IsPacking}
use Rattle.zimgasol_packing.proofs.packing.Packing.add_differing.Goals as goal

pub returns-in_default-clause-sent : goal.returns-in_default-clause-sent
returns-in_default-clause-sent g c = λ _ begun all sent are is. (
  sent,
  sent_more c.args.block c.args.first (piece_of c.args.pages.now) c.args.page sent sent are
      (inr ((λ d. false≢true (c.in_default.ensures.differs.1 d)), refl)),
  is,
)

pub returns-clause-sent : goal.returns-clause-sent
returns-clause-sent g c = λ has begun all sent are is.
    let piece = piece_of c.args.pages.now in
    let page = page_sent c.args.block c.args.first piece c.args.page in
    let more = sent ++ page ∷ [] in
    let number : c.in-Some-checked_add.number ≡ c.args.first + c.args.page = search rules in
    let found : Page = record { place = record { block = c.args.block; page = c.in-Some-checked_add.number }; content = c.in-Some.content.now } in
    let one : found ≡ page =
    ap₂ (λ (n : ℕ) (l : List ℕ). record { place = record { block = c.args.block; page = n }; content = l }) number c.in-Some.ensures.value in (
      more,
      sent_more c.args.block c.args.first piece c.args.page sent more are (inl (c.in-Some.ensures.differs.0 (search rules), refl)),
      subst (λ (l : List Page). IsPacking g.F.Write.contents begun l c.add.new.self)
          (append_assoc all sent (found ∷ []) ∙ ap (λ (x : Page). all ++ (sent ++ x ∷ [])) one)
          (c.in_ok-has_place.ensures.sent has begun (all ++ sent) is),
    )
