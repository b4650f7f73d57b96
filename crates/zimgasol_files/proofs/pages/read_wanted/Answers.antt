use Rattle.zimgasol_files.proofs.Readings.{left_read, wanted_read}
use Rattle.zimgasol_files.proofs.pages.read_wanted.Goals as goal

pub returns-clause-read : goal.returns-clause-read
returns-clause-read g c = λ rest left.
    wanted_read (g.F.Read.remaining c.args.file.now.file) (g.F.Read.remaining c.read.new.self.file) c.in_ok-len.len c.args.wanted rest c.read.new.buffer
    c.if-len-wanted.false
    (left_read (g.F.Read.remaining c.args.file.now.file) (g.F.Read.remaining c.read.new.self.file) c.in_ok-len.len rest c.args.buffer.now c.read.new.buffer
    left c.in_ok-len.ensures.count c.in_ok-len.ensures.len c.in_ok-len.ensures.bytes c.in_ok-len.ensures.end)
