use Rattle.std.proofs.Common.{rules}
use Rattle.std.proofs.lemmas.Bool.{false≢true}
use Rattle.zimgasol_files.specs.Differing.{piece_of}
use Rattle.zimgasol_files.proofs.Sent.{counted_same, counted_more}
use Rattle.zimgasol_command.proofs.comparing.add_page.Goals as goal

pub returns-in_default : goal.returns-in_default
returns-in_default c = record {
  counted = λ start counted.
      counted_same c.args.first (piece_of c.args.pages.now) c.args.page start c.args.differing.now.count counted
      (λ d. false≢true (c.in_default.ensures.differs.1 d));
}

pub returns : goal.returns
returns c = record {
  counted = λ start counted.
      counted_more c.args.first (piece_of c.args.pages.now) c.args.page start c.args.differing.now.count c.add.new.self.count counted
      (c.in-Some.ensures.differs.0 (search rules)) c.in_ok-add.ensures.count;
}
