-- What is left of the file of a channel, without the packets of devices.
use Rattle.std.specs.Prelude.{ℕ, List, Option}
use Rattle.std.specs.Option.{option_map}
use Rattle.zimgasol_files.specs.Waiting.{to_come, left_of, waits}
use Rattle.zimgasol_page_packets.specs.Passing as passing
use Rattle.zimgasol_reading.specs.declared.inlet.Inlet.{Inlet}

-- the bytes that are passed on, if these are all that follow
abbrev pub gives : passing.Passing → List ℕ → List ℕ
gives packets more = (passing.to_come packets more).given

-- The bytes of a channel that the load hasn't taken yet: those of its file without the packets of
-- devices. The file's are those that were read and wait, and those that are left of it. `remaining`
-- gives these.
abbrev pub inlet_left : {F : Type 0} → (F → Option (List ℕ)) → Inlet F → Option (List ℕ)
inlet_left remaining inlet = option_map (gives inlet.packets) (to_come (left_of remaining inlet.file) inlet.pieces)

-- those that were read and wait for it
abbrev pub inlet_waits : {F : Type 0} → Inlet F → List ℕ
inlet_waits inlet = passing.waits inlet.packets (waits inlet.pieces)
