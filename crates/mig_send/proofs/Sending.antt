-- A round more of a sender.
use Rattle.std.proofs.Common.{ℕ, List, [], ◌∷◌, ◌++◌, map, sym, subst}
use Rattle.std.proofs.lemmas.List.{map-append}
use Rattle.mig_mem.specs.Image.{Page}
use Rattle.mig_stream.specs.Written.{Part, RoundPart}
use Rattle.mig_stream.specs.Writer.{Writer, HasDrained}
use Rattle.mig_send.specs.Sending.{HasSentDrained}

-- a sender that was given one round part more has sent one round more, with the same bytes drained
pub round_sent : (drained : List ℕ) (sender : Writer) (rounds : List (List Page)) (round : List Page)
    → HasDrained drained sender (map RoundPart rounds ++ RoundPart round ∷ []) → HasSentDrained drained sender (rounds ++ round ∷ [])
round_sent drained sender rounds round h =
    subst (λ (parts : List Part). HasDrained drained sender parts) (sym (map-append (λ (pages : List Page). RoundPart pages) rounds (round ∷ []))) h
