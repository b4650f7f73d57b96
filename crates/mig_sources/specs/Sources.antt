-- The sources of a load on several channels: the counts of their bytes, and steps of their streams.
use Rattle.std.specs.Prelude.{ℕ, ◌<◌, ◌+◌, true, false, List, length, map, slice_set, get_or, ⊤}
use Rattle.mig_answer.specs.Texts.{Text, Texts, no_text, with_piece, over}
use Rattle.mig_sources.specs.declared.counts.Count.{Count}
use Rattle.mig_sources.specs.declared.source.Source.{Source}
use Rattle.mig_sources.specs.declared.source.Source.TheVariants as source

-- ---- the counts of their bytes

-- the counts of each source's bytes
pub record Counts : Type 0 where
  pub main : Count
  pub channels : List Count

abbrev pub no_count : Count
no_count = record { fed = 0; ended = false }

-- the main stream, or one of the channels
abbrev pub HasSource : Counts → Source → Type 0
HasSource counts source.Main = ⊤
HasSource counts (source.Channel j) = j < length counts.channels

-- the count of a source's bytes
abbrev pub count_of : Counts → Source → Count
count_of counts source.Main = counts.main
count_of counts (source.Channel j) = get_or counts.channels j no_count

-- with another count of a source
abbrev pub with_count : Counts → Source → Count → Counts
with_count counts source.Main count = record counts { main = count }
with_count counts (source.Channel j) count = record counts { channels = slice_set counts.channels j count }

abbrev pub with_fed : Counts → Source → ℕ → Counts
with_fed counts from len = with_count counts from (record (count_of counts from) { fed = (count_of counts from).fed + len })

abbrev pub with_end : Counts → Source → Counts
with_end counts from = with_count counts from (record (count_of counts from) { ended = true })

-- ---- the steps of their streams

abbrev pub count_in : Text → Count
count_in text = record { fed = length text.bytes; ended = text.ended }

abbrev pub counts_in : Texts → Counts
counts_in texts = record { main = count_in texts.main; channels = map count_in texts.channels }

-- a source's stream takes a step
abbrev pub at_source : Source → (Text → Text) → Texts → Texts
at_source source.Main step texts = record texts { main = step texts.main }
at_source (source.Channel j) step texts = record texts { channels = slice_set texts.channels j (step (get_or texts.channels j no_text)) }

-- a piece of a source was fed
abbrev pub feed_step : Source → List ℕ → Texts → Texts
feed_step from piece texts = at_source from (with_piece piece) texts

-- a source has ended
abbrev pub end_step : Source → Texts → Texts
end_step from texts = at_source from over texts
