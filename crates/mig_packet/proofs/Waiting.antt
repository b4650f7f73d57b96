-- What packets count toward a limit, and the faults of a packet's head together with the limit.
use Rattle.std.proofs.Common.{◌≡◌, ℕ, ◌-◌, ◌≤◌, Bool, true, false, List, [], ◌∷◌, ◌++◌, length, Option, Some, None}
use Rattle.std.proofs.Common.{refl, ap, ◌∙◌, arith}
use Rattle.std.proofs.lemmas.List.Sums.{sum_by_push}
use Rattle.mig_packet.specs.declared.fault.ChannelFault.{ChannelFault}
use Rattle.mig_packet.specs.declared.fault.ChannelFault.TheVariants as fault
use Rattle.mig_packet.specs.Faults.{first_of}
use Rattle.mig_packet.specs.PageSize.{head_len}
use Rattle.mig_packet.specs.Packet.{packet_faults}
use Rattle.mig_packet.specs.Waiting.{weight, weight_of_all, room_after, less_room, is_over, packet_faults_within}
use Rattle.mig_packet.proofs.Places.{be32_at-front}
use Rattle.mig_packet.proofs.Judging.{packet_faults-front}

-- ---- tests, and more after them

-- where no test is met, none of the first is, and none of the others
pub apart : (xs ys : List (Bool × ChannelFault)) → first_of (xs ++ ys) ≡ None → (first_of xs ≡ None) × (first_of ys ≡ None)
apart [] ys e = (refl, e)
apart ((true, f) ∷ xs) ys e = absurd cc
apart ((false, f) ∷ xs) ys e = apart xs ys e

-- where none of the first is met, the others decide
pub decided_by_others : (xs ys : List (Bool × ChannelFault)) → first_of xs ≡ None → first_of (xs ++ ys) ≡ first_of ys
decided_by_others [] ys e = refl
decided_by_others ((true, f) ∷ xs) ys e = absurd cc
decided_by_others ((false, f) ∷ xs) ys e = decided_by_others xs ys e

-- the test of the limit alone
pub has_room : (over : Bool) → first_of ((over, fault.Waiting) ∷ []) ≡ None → over ≡ false
has_room true e = absurd cc
has_room false e = refl

-- a head without a fault within a limit has none without it, and has room
pub faultless_within : (page_size : ℕ) (room : Option ℕ) (bytes : List ℕ) → first_of (packet_faults_within page_size room bytes) ≡ None
    → (first_of (packet_faults page_size bytes) ≡ None) × (is_over room (weight bytes) ≡ false)
faultless_within page_size room bytes free =
    let both = apart (packet_faults page_size bytes) ((is_over room (weight bytes), fault.Waiting) ∷ []) free in
    (both.0, has_room (is_over room (weight bytes)) both.1)

-- and one that has room and no other fault has none
pub free_within : (page_size : ℕ) (room : Option ℕ) (bytes : List ℕ) → first_of (packet_faults page_size bytes) ≡ None → is_over room (weight bytes) ≡ false
    → first_of (packet_faults_within page_size room bytes) ≡ None
free_within page_size room bytes free fits =
    decided_by_others (packet_faults page_size bytes) ((is_over room (weight bytes), fault.Waiting) ∷ []) free
    ∙ ap (λ (b : Bool). first_of ((b, fault.Waiting) ∷ [])) fits

-- ---- what follows a packet's head changes nothing

-- a packet's weight stays if more bytes follow its head
pub weight-front : (page_size : ℕ) (a b : List ℕ) → head_len page_size ≤ length a → weight (a ++ b) ≡ weight a
weight-front page_size a b le =
    let e16 = be32_at-front 16 a b (omega arith) in
    let e32 = be32_at-front 32 a b (omega arith) in rw (e16, e32) refl

-- the faults within a room stay if more bytes follow the head
pub faults_within-front : (page_size : ℕ) (room : Option ℕ) (a b : List ℕ) → head_len page_size ≤ length a
    → packet_faults_within page_size room (a ++ b) ≡ packet_faults_within page_size room a
faults_within-front page_size room a b le =
    ap (λ (faults : List (Bool × ChannelFault)). faults ++ (is_over room (weight (a ++ b)), fault.Waiting) ∷ []) (packet_faults-front page_size a b le)
    ∙ ap (λ (n : ℕ). packet_faults page_size a ++ (is_over room n, fault.Waiting) ∷ []) (weight-front page_size a b le)

-- ---- room

-- before the first packet there is the whole room
pub room_at_first : (waiting : Option ℕ) → room_after waiting [] ≡ waiting
room_at_first None = refl
room_at_first (Some waiting) = let e : waiting - 0 ≡ waiting = omega arith in ap (λ (n : ℕ). Some n) e

-- a packet that is kept lessens the room by its weight
pub room_push : (waiting : Option ℕ) (packets : List (List ℕ)) (packet : List ℕ)
    → room_after waiting (packets ++ packet ∷ []) ≡ less_room (room_after waiting packets) (weight packet)
room_push None packets packet = refl
room_push (Some waiting) packets packet =
    let e : waiting - weight_of_all (packets ++ packet ∷ []) ≡ waiting - weight_of_all packets - weight packet =
    omega (arith, sum_by_push weight packets packet) in
    ap (λ (n : ℕ). Some n) e
