-- One item more: what was received of a channel says more with each item, for a loader that takes
-- them one after another.
use Rattle.std.proofs.Common.{ℕ, ◌≡◌, true, false, List, [], ◌∷◌, ◌++◌, length, refl, sym, ap, ◌∙◌, Option, Some, None, append_assoc}
use Rattle.std.proofs.lemmas.List.{append-nil}
use Rattle.mig_packet.specs.declared.fault.ChannelFault.{ChannelFault}
use Rattle.mig_packet.specs.Packet.{Fields}
use Rattle.mig_packet.specs.ChannelItems.{ChannelItem, Hello, Page, Stop}
use Rattle.mig_answer.specs.declared.status.Status.TheVariants.{Pending}
use Rattle.mig_answer.specs.Received.{round_count, before_rounds, rounds_in, end_in}
use Rattle.mig_answer.proofs.Received.{with_sync, without_sync, counted_law}

-- some packets in front of the first round
abbrev pub all_before : List Fields → List (List Fields) → List (List Fields)
all_before [] rounds = rounds
all_before (packet ∷ packets) rounds = before_rounds packet (all_before packets rounds)

-- These are the complete rounds of what was received, and the packets of the open round. Whatever
-- comes, the rounds are those, and then those that come, with the packets in front of the first.
abbrev pub HoldsRounds : List ChannelItem → List (List Fields) → List Fields → Type 0
HoldsRounds received rounds packets = (more : List ChannelItem) → rounds_in (received ++ more) ≡ rounds ++ all_before packets (rounds_in more)

-- ---- the steps

-- a hello changes no round
pub holds_hello : (received : List ChannelItem) (rounds : List (List Fields)) (packets : List Fields) (id : ℕ) → HoldsRounds received rounds packets
    → HoldsRounds (received ++ Hello id ∷ []) rounds packets
holds_hello received rounds packets id holds = λ more. ap rounds_in (append_assoc received (Hello id ∷ []) more) ∙ holds (Hello id ∷ more)

-- the end of a channel changes no round
pub holds_stop : (received : List ChannelItem) (rounds : List (List Fields)) (packets : List Fields) (end : Option ChannelFault)
    → HoldsRounds received rounds packets
    → HoldsRounds (received ++ Stop end ∷ []) rounds packets
holds_stop received rounds packets end holds = λ more. ap rounds_in (append_assoc received (Stop end ∷ []) more) ∙ holds (Stop end ∷ more)

-- a packet without SYNC
pub holds_packet : (received : List ChannelItem) (rounds : List (List Fields)) (packets : List Fields) (packet : Fields) → packet.sync ≡ false
    → HoldsRounds received rounds packets → HoldsRounds (received ++ Page packet ∷ []) rounds (packets ++ packet ∷ [])
holds_packet received rounds packets packet f holds = λ more.
    ap rounds_in (append_assoc received (Page packet ∷ []) more) ∙ holds (Page packet ∷ more)
    ∙ ap (λ (rs : List (List Fields)). rounds ++ all_before packets rs) (without_sync packet more f)
    ∙ ap (λ (rs : List (List Fields)). rounds ++ rs) (pushed packets (rounds_in more))
  where
    pushed : (ps : List Fields) (rs : List (List Fields)) → all_before ps (before_rounds packet rs) ≡ all_before (ps ++ packet ∷ []) rs
    pushed [] rs = refl
    pushed (p ∷ ps) rs = ap (before_rounds p) (pushed ps rs)

-- a packet with SYNC makes the round whole
pub holds_sync : (received : List ChannelItem) (rounds : List (List Fields)) (packets : List Fields) (packet : Fields) → packet.sync ≡ true
    → HoldsRounds received rounds packets → HoldsRounds (received ++ Page packet ∷ []) (rounds ++ (packets ++ packet ∷ []) ∷ []) []
holds_sync received rounds packets packet t holds = λ more.
    ap rounds_in (append_assoc received (Page packet ∷ []) more) ∙ holds (Page packet ∷ more)
    ∙ ap (λ (rs : List (List Fields)). rounds ++ all_before packets rs) (with_sync packet more t)
    ∙ ap (λ (rs : List (List Fields)). rounds ++ rs) (whole packets (rounds_in more))
    ∙ sym (append_assoc rounds ((packets ++ packet ∷ []) ∷ []) (rounds_in more))
  where
    whole : (ps : List Fields) (rs : List (List Fields)) → all_before ps ((packet ∷ []) ∷ rs) ≡ (ps ++ packet ∷ []) ∷ rs
    whole [] rs = refl
    whole (p ∷ ps) rs = ap (before_rounds p) (whole ps rs)

-- ---- what is held

-- the rounds that were received are those of the items
pub holds_are : (received : List ChannelItem) (rounds : List (List Fields)) (packets : List Fields)
    → HoldsRounds received rounds packets → rounds_in received ≡ rounds
holds_are received rounds packets holds =
    ap rounds_in (sym (append-nil received)) ∙ holds [] ∙ ap (λ (rs : List (List Fields)). rounds ++ rs) (none packets) ∙ append-nil rounds
  where
    none : (ps : List Fields) → all_before ps [] ≡ []
    none [] = refl
    none (p ∷ ps) = ap (before_rounds p) (none ps)

-- as many rounds are counted as were received
pub holds_count : (received : List ChannelItem) (rounds : List (List Fields)) (packets : List Fields)
    → HoldsRounds received rounds packets → round_count received ≡ length rounds
holds_count received rounds packets holds =
    sym (counted_law received) ∙ ap (λ (rs : List (List Fields)). length rs) (holds_are received rounds packets holds)

-- ---- the hello stays, and the stop is what comes last

-- if no end has come, the end is the one that comes later
pub end_comes : (received more : List ChannelItem) → end_in received ≡ Pending → end_in (received ++ more) ≡ end_in more
end_comes [] more open_still = refl
end_comes (Hello id ∷ received) more open_still = end_comes received more open_still
end_comes (Page packet ∷ received) more open_still = end_comes received more open_still
end_comes (Stop None ∷ received) more open_still = absurd cc
end_comes (Stop (Some f) ∷ received) more open_still = absurd cc
