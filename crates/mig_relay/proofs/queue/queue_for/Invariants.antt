use Rattle.mig_relay.specs.Cursor.{text_of}
use Rattle.mig_relay.proofs.queue.queue_for.Given as goal

abbrev pub ghosts-cut : goal.ghosts-cut
ghosts-cut g a = record { source = text_of a.cursor.now a.text.now }
