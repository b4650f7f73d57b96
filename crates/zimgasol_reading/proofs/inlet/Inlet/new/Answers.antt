use Rattle.std.proofs.Common.{ap}
use Rattle.zimgasol_files.specs.Waiting.{left_of, to_come, waits}
use Rattle.zimgasol_page_packets.specs.Parted.{without_devices}
use Rattle.zimgasol_reading.specs.Inlets.{gives}
use Rattle.zimgasol_reading.proofs.Inlets.{keeps_begun}
use Rattle.zimgasol_reading.proofs.inlet.Inlet.new.Goals as goal

pub returns : goal.returns
returns g c =
    keeps_begun (without_devices c.args.page_size) (gives c.in_ok-new.field-0) (left_of g.F.Read.remaining c.args.file)
    (to_come (left_of g.F.Read.remaining c.refill.new.self) c.refill.new.pieces) (waits c.in_ok-pieces.pieces)
    (λ bytes. ap (λ parted. parted.given) (c.in_ok-new.ensures.to_come bytes)) c.in_ok-pieces.ensures c.in_ok-is_over.ensures.kept
