-- Streams with the name of a machine, or with none.
use Rattle.std.proofs.Common.{ℕ, ◌≡◌, ◌∙◌, List, ◌++◌, replicate, length, Bool, true, false, Option, None, Some, sym, ap}
use Rattle.std.proofs.lemmas.List.{append_assoc}
use Rattle.mig_mem.specs.RamTable.{RamTable}
use Rattle.mig_stream.specs.Text.{file_header, configuration}
use Rattle.mig_stream.specs.Written.{FlushPart}
use Rattle.mig_stream.proofs.Configured.{configured_is_written, configured_is_closed}
use Rattle.mig_send.specs.DealtRounds.{DealtRound, channel_texts}
use Rattle.mig_c_calls.specs.Named.{IsNamed}
use Rattle.mig_c_calls.specs.Multi.{AreEnded, ended_main}

-- what follows is the same of both
pub named_more : (name : Option (List ℕ)) (bytes plain more : List ℕ) → IsNamed name bytes plain → IsNamed name (bytes ++ more) (plain ++ more)
named_more None bytes plain more is = ap (λ (l : List ℕ). l ++ more) is
named_more (Some name) bytes plain more is = (
  is.0 ++ more,
  ap (λ (l : List ℕ). l ++ more) is.1 ∙ append_assoc (file_header ++ configuration (Some name)) is.0 more,
  ap (λ (l : List ℕ). l ++ more) is.2 ∙ append_assoc file_header is.0 more,
)

-- the whole main stream, with its end byte or left open
pub named_ended : (left_open : Bool) (name : Option (List ℕ)) (bytes : List ℕ) (table : RamTable) (n : ℕ)
    → IsNamed name bytes (ended_main left_open None table n)
    → bytes ≡ ended_main left_open name table n
named_ended false None bytes table n is = is
named_ended false (Some name) bytes table n is = is.1 ∙ configured_is_closed (Some name) table (replicate n FlushPart) is.0 (sym is.2)
named_ended true None bytes table n is = is
named_ended true (Some name) bytes table n is = is.1 ∙ configured_is_written (Some name) table (replicate n FlushPart) is.0 (sym is.2)

-- its parts, and the channels
pub ended_is : (left_open : Bool) (table : RamTable) (uuid : List ℕ)
    (limit channels : ℕ) (rounds : List DealtRound) (main_text : List ℕ) (texts : List (List ℕ))
    → AreEnded left_open table uuid limit channels rounds main_text texts → main_text ≡ ended_main left_open None table (length rounds)
ended_is false table uuid limit channels rounds main_text texts is = is.has_main
ended_is true table uuid limit channels rounds main_text texts is = is.has_main

-- the channels of streams that were ended, or left open, have the bytes of their rounds
pub texts_are : (left_open : Bool) (table : RamTable) (uuid : List ℕ)
    (limit channels : ℕ) (rounds : List DealtRound) (main_text : List ℕ) (texts : List (List ℕ))
    → AreEnded left_open table uuid limit channels rounds main_text texts → texts ≡ channel_texts uuid channels rounds
texts_are false table uuid limit channels rounds main_text texts is = is.has_texts
texts_are true table uuid limit channels rounds main_text texts is = is.is_sending.has_texts
