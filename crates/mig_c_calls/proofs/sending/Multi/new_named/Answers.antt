use Rattle.std.proofs.Common.{◌++◌, ◌∙◌, [], Some, sym}
use Rattle.std.proofs.lemmas.List.{append-nil}
use Rattle.mig_stream.specs.Text.{file_header, configuration}
use Rattle.mig_c_calls.proofs.sending.Multi.new_named.Goals as goal

pub returns : goal.returns
returns c =
    let made = c.in-Ok.ensures.made in (
      (
        file_header,
        (
          [],
          c.in-Ok.ensures.first ∙ sym (append-nil (file_header ++ configuration (Some c.args.name.now))),
          sym (append-nil file_header),
        ),
        (record { same_table = made.0; same_uuid = made.1; same_limit = made.2; as_many = made.3 }, c.in-Ok.ensures.none),
      ),
      tt,
    )
