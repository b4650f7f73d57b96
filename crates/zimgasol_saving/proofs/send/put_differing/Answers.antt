use Rattle.std.proofs.Common.{rules, ◌++◌, ◌∷◌, [], refl, inl, inr}
use Rattle.std.proofs.lemmas.Bool.{false≢true}
use Rattle.zimgasol_files.specs.Differing.{piece_of, page_sent}
use Rattle.zimgasol_files.proofs.Sent.{sent_more, put_is_sent}
use Rattle.zimgasol_saving.proofs.send.put_differing.Goals as goal

pub returns-in_default-clause-sent : goal.returns-in_default-clause-sent
returns-in_default-clause-sent c = λ sent are put. (
  sent,
  sent_more c.args.block c.args.first (piece_of c.args.pages.now) c.args.page sent sent are
      (inr ((λ d. false≢true (c.in_default.ensures.differs.1 d)), refl)),
  put,
)

pub returns-clause-sent : goal.returns-clause-sent
returns-clause-sent c = λ sent are put.
    let piece = piece_of c.args.pages.now in
    let more = sent ++ page_sent c.args.block c.args.first piece c.args.page ∷ [] in (
      more,
      sent_more c.args.block c.args.first piece c.args.page sent more are (inl (c.in-Some.ensures.differs.0 (search rules), refl)),
      put_is_sent c.put.new.round sent c.args.block c.args.first c.args.page c.in-Some-checked_add.number piece c.in-Some.bytes.now
          (search rules) c.in-Some.ensures.value (c.in_ok-put.ensures.put (search rules) sent put),
    )
