use Rattle.std.proofs.Common.{sym, subst}
use Rattle.mig_stream.specs.Giving.{Giver, Gives}
use Rattle.mig_stream.proofs.record_reader.RecordReader.read_on.Goals as goal
use Rattle.mig_stream.proofs.record_reader.RecordReader.read_on.Goals.{then-is_none+in_ok-read, else-is_none}

pub returns-clause-page_size : goal.returns-clause-page_size
returns-clause-page_size g c given text so_far h = c.give.ensures.page_size given text so_far (elim c.if-is_none.branch [
  | then-is_none+in_ok-read w ↦ subst (λ (x : Giver). Gives given text so_far x) (sym w.self-is) (w.in_ok-read.ensures.ok given text so_far h)
  | else-is_none w ↦ subst (λ (x : Giver). Gives given text so_far x) (sym w.self-is) h
])

pub returns-clause-places : goal.returns-clause-places
returns-clause-places g c given text so_far h = c.give.ensures.places given text so_far (elim c.if-is_none.branch [
  | then-is_none+in_ok-read w ↦ subst (λ (x : Giver). Gives given text so_far x) (sym w.self-is) (w.in_ok-read.ensures.ok given text so_far h)
  | else-is_none w ↦ subst (λ (x : Giver). Gives given text so_far x) (sym w.self-is) h
])
