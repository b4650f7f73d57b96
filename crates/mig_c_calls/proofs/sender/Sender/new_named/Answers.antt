use Rattle.std.proofs.Common.{◌++◌, ◌∙◌, [], Some, sym}
use Rattle.std.proofs.lemmas.List.{append-nil}
use Rattle.mig_stream.specs.Text.{file_header, configuration}
use Rattle.mig_c_calls.proofs.sender.Sender.new_named.Goals as goal

pub returns : goal.returns
returns c = (
  (
    file_header,
    (
      [],
      c.in_ok-first.ensures.first ∙ sym (append-nil (file_header ++ configuration (Some c.args.name.now))),
      sym (append-nil file_header),
    ),
    (c.in_ok-first.ensures.table, c.in_ok-first.ensures.none),
  ),
  tt,
)
