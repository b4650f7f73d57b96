-- What is kept stays packets of one page size.
use Rattle.std.proofs.Common.{◌≡◌, ◌≢◌, ℕ, false, Option, Some, None, List, [], ◌∷◌, ◌++◌, sym, ap, subst, ◌∙◌}
use Rattle.std.specs.Prelude.{is_none}
use Rattle.std.proofs.lemmas.List.Elements.{All-nil, All-push}
use Rattle.std.specs.List.{All}
use Rattle.mig_packet.specs.Packet.{IsPacketText}
use Rattle.mig_packet.specs.Progress.{ArePackets}
use Rattle.mig_packet.specs.Waiting.{weight, room_after, less_room}
use Rattle.mig_packet.proofs.Waiting.{room_at_first, room_push}

-- a round that a packet makes whole
pub made_whole : (p q : ℕ) (packets now : List (List ℕ)) (packet : List ℕ) (rounds all : List (List (List ℕ))) → ArePackets p packets rounds → q ≡ p
    → IsPacketText q packet
    → now ≡ [] → all ≡ rounds ++ (packets ++ packet ∷ []) ∷ [] → ArePackets p now all
made_whole p q packets now packet rounds all are same text empty e =
    let text_here : IsPacketText p packet = subst (λ (n : ℕ). IsPacketText n packet) same text in
    let round : All (IsPacketText p) (packets ++ packet ∷ []) = All-push (IsPacketText p) packets packet are.in_open_round text_here in
    record {
      has_page_size = are.has_page_size;
      in_open_round = subst (All (IsPacketText p)) (sym empty) (All-nil (IsPacketText p));
      in_rounds = subst (All (All (IsPacketText p))) (sym e) (All-push (All (IsPacketText p)) rounds (packets ++ packet ∷ []) are.in_rounds round);
    }

-- an open round that has a packet more
pub made_longer : (p q : ℕ) (packets now : List (List ℕ)) (packet : List ℕ) (rounds : List (List (List ℕ))) → ArePackets p packets rounds → q ≡ p
    → IsPacketText q packet → now ≡ packets ++ packet ∷ [] → ArePackets p now rounds
made_longer p q packets now packet rounds are same text e = record {
  has_page_size = are.has_page_size;
  in_open_round = subst (All (IsPacketText p)) (sym e)
      (All-push (IsPacketText p) packets packet are.in_open_round (subst (λ (n : ℕ). IsPacketText n packet) same text));
  in_rounds = are.in_rounds;
}

-- and what it has room for
pub room_longer : (waiting room left : Option ℕ) (packets now : List (List ℕ)) (packet : List ℕ) → room ≡ room_after waiting packets
    → left ≡ less_room room (weight packet) → now ≡ packets ++ packet ∷ [] → left ≡ room_after waiting now
room_longer waiting room left packets now packet old less e =
    less ∙ ap (λ (r : Option ℕ). less_room r (weight packet)) old ∙ sym (room_push waiting packets packet) ∙ sym (ap (room_after waiting) e)

-- and an empty one
pub room_again : (waiting : Option ℕ) (now : List (List ℕ)) → now ≡ [] → waiting ≡ room_after waiting now
room_again waiting now e = sym (ap (room_after waiting) e ∙ room_at_first waiting)

-- a number whose test for none fails isn't none
pub some_there : (h : Option ℕ) → is_none h ≡ false → h ≢ None
some_there None off = absurd cc
some_there (Some id) off = λ e. absurd cc
