use Rattle.std.proofs.Common.{◌≡◌, ◌≤◌, List, ℕ, length, drop, sym, subst}
use Rattle.mig_stream.specs.Reading.{Settings}
use Rattle.zimgasol_files.specs.Asked.{ChecksEnding}
use Rattle.zimgasol_reading.specs.Surveyed.{IsEnded, before_of}
use Rattle.zimgasol_reading.proofs.Endings.{ended_alike}
use Rattle.zimgasol_reading.proofs.Surveying.{given_of, given_as_asked, of_ok}
use Rattle.zimgasol_reading.proofs.survey.read_input.Goals as goal

pub returns-in-Ok-read-clause-before : goal.returns-in-Ok-read-clause-before
returns-in-Ok-read-clause-before g c =
    of_ok _ _ c.in-Ok-read.is c.read-read.ensures.before
    (subst (λ (l : List ℕ). 16 ≤ length l) (sym c.deref_mut.ensures.value) c.in-Ok.ensures.room)

pub returns-in-Ok-read-clause-ended : goal.returns-in-Ok-read-clause-ended
returns-in-Ok-read-clause-ended g c = λ text is few bytes closed.
    let begun = c.in-Ok.begun.1 in
    let now = c.read-read.new.self in
    let stream : List ℕ = drop (before_of now.libvirt) text in
    let asked = of_ok _ _ c.in-Ok-read.is c.read-read.ensures.asked in
    subst (λ (s : Settings). IsEnded (ChecksEnding c.args.words.now) s stream now.ending.fault) (sym (given_as_asked begun now asked))
    (ended_alike (given_of begun) stream now.ending.fault c.in-Ok.ensures.tail
    (of_ok _ _ c.in-Ok-read.is c.read-read.ensures.ended text is few bytes closed))
