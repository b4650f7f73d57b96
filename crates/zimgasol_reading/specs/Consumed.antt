-- The bytes of the sources of a load, and the streams that it has taken of them.
use Rattle.std.specs.Prelude.{ℕ, ◌≡◌, true, List, [], ◌++◌, length, get_or, slice_set, Option, None, Some, IfSome}
use Rattle.mig_answer.specs.Texts.{Text, Texts}
use Rattle.mig_sources.specs.declared.source.Source.{Source}
use Rattle.mig_sources.specs.declared.source.Source.TheVariants as source
use Rattle.mig_in_place.specs.Session.{text_of}

-- The bytes of the main stream, and those of each channel; None of a source of which nothing is
-- known.
pub record Bytes : Type 0 where
  pub main : Option (List ℕ)
  pub channels : List (Option (List ℕ))

-- those of a source
abbrev pub bytes_of : Bytes → Source → Option (List ℕ)
bytes_of bytes source.Main = bytes.main
bytes_of bytes (source.Channel j) = get_or bytes.channels j None

-- with others of a source
abbrev pub with_bytes : Source → Option (List ℕ) → Bytes → Bytes
with_bytes source.Main known bytes = record { main = known; channels = bytes.channels }
with_bytes (source.Channel j) known bytes = record { main = bytes.main; channels = slice_set bytes.channels j known }

-- A source had the bytes `all`, and those of `left` weren't consumed yet. Its stream has exactly
-- those that were: followed by those that are left they are all, in their order. Once the stream
-- has ended none are left. Nothing is said of a source whose bytes aren't known.
abbrev pub IsConsumed : Option (List ℕ) → Option (List ℕ) → Text → Type 0
IsConsumed all left text = IfSome all (λ bytes. (rest : List ℕ) × (left ≡ Some rest) × (bytes ≡ text.bytes ++ rest) × (text.ended ≡ true → rest ≡ []))

-- Of each source the stream is what was consumed.
pub record AreConsumed (all left : Bytes) (texts : Texts) : Type 0 where
  pub has_channels : length texts.channels ≡ length left.channels
  pub of_each : (from : Source) → IsConsumed (bytes_of all from) (bytes_of left from) (text_of texts from)
