use Rattle.zimgasol_files.proofs.Printable.{shown_is_printable}
use Rattle.zimgasol_files.proofs.showing.shown.Goals as goal

pub returns-clause-printable : goal.returns-clause-printable
returns-clause-printable c =
    rw (c.in_ok-append_to.ensures.ok, c.new-text.ensures.bytes, c.percent_encode.ensures.text) (shown_is_printable c.args.bytes.now)
