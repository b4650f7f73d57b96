-- What is left of the files that a main stream and its channels are read from.
use Rattle.std.specs.Prelude.{ℕ, ◌≡◌, true, List, map, Option}
use Rattle.std.specs.Io.KnownBytes.{Keeps, IsAtEnd, prepend_known}
use Rattle.zimgasol_files.specs.Waiting.{to_come}
use Rattle.zimgasol_reading.specs.declared.inlet.Inlet.{Inlet}
use Rattle.zimgasol_reading.specs.declared.channel.Channel.{Channel}
use Rattle.zimgasol_reading.specs.declared.main_stream.MainStream.{MainStream}
use Rattle.zimgasol_reading.specs.declared.several.Several.{Several}
use Rattle.zimgasol_reading.specs.Consumed.{Bytes}
use Rattle.zimgasol_reading.specs.Inlets.{inlet_left}

abbrev pub inlets_of : {F : Type 0} → List (Channel F) → List (Inlet F)
inlets_of channels = map (λ c. c.inlet) channels

abbrev pub channels_left : {F : Type 0} → (F → Option (List ℕ)) → List (Channel F) → List (Option (List ℕ))
channels_left remaining channels = map (inlet_left remaining) (inlets_of channels)

-- those of the main stream, of whose input these bytes are left
abbrev pub main_left : Option (List ℕ) → MainStream → Option (List ℕ)
main_left left main = to_come left main.pieces

-- before the load: with those that were read for the size list, too
abbrev pub main_held : Option (List ℕ) → MainStream → Option (List ℕ)
main_held left main = prepend_known main.held.items (main_left left main)

-- Once the end of its input was reached none are left.
abbrev pub IsOver : Option (List ℕ) → MainStream → Type 0
IsOver left main = main.is_over ≡ true → IsAtEnd (main_left left main)

-- ---- of all sources, of whose main stream's input these bytes are left

abbrev pub sources_left : {F : Type 0} → (F → Option (List ℕ)) → Option (List ℕ) → Several F → Bytes
sources_left remaining left several = record { main = main_left left several.main; channels = channels_left remaining several.channels.items }

abbrev pub sources_held : {F : Type 0} → (F → Option (List ℕ)) → Option (List ℕ) → Several F → Bytes
sources_held remaining left several = record { main = main_held left several.main; channels = channels_left remaining several.channels.items }

-- The sources had these bytes, and the load has taken none yet.
abbrev pub IsBegun : {F : Type 0} → (F → Option (List ℕ)) → Bytes → Option (List ℕ) → Several F → Type 0
IsBegun remaining all left several = Keeps all.main (main_held left several.main) × (all.channels ≡ channels_left remaining several.channels.items)
    × IsOver left several.main
