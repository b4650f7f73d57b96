-- An item that is filled up: first as far as it is judged, and then as far as it goes.
use Rattle.std.proofs.Common.{◌≡◌, ℕ, ◌<◌, ◌≤◌, List, ◌++◌, length, take, drop, Some, None, sym, ap, ◌∙◌, inl, inr, arith}
use Rattle.std.proofs.lemmas.Bool.{cases_lt}
use Rattle.std.proofs.lemmas.List.{take-append-drop, take-take, length-take}
use Rattle.mig_packet.specs.declared.fault.ChannelFault.{ChannelFault}
use Rattle.mig_packet.specs.Faults.{first_of}
use Rattle.mig_packet.specs.Progress.{ChannelProgress, judged_len, item_len, first_fault, due_fault}
use Rattle.mig_packet.specs.Reading.{IsItem}
use Rattle.mig_packet.specs.Reader.{IsUnfinished}
use Rattle.mig_packet.proofs.Fronts.{faults_stay, len_stays, due_is, judged_le_len}
use Rattle.mig_packet.proofs.Later.{due-append}

-- bytes that were kept in bytes that were kept
pub kept_twice : (old mid new : List ℕ) → take (length old) mid ≡ old → take (length mid) new ≡ mid → take (length old) new ≡ old
kept_twice old mid new first second =
    let le : length old ≤ length mid = omega (arith, ap length first, length-take (length old) mid) in
    sym (take-take (length old) (length mid) new le) ∙ ap (take (length old)) second ∙ first

grown : (mid new : List ℕ) → take (length mid) new ≡ mid → new ≡ mid ++ drop (length mid) new
grown mid new kept = sym (take-append-drop (length mid) new) ∙ ap (λ (x : List ℕ). x ++ drop (length mid) new) kept

-- the fault of the judged bytes is due, whatever follows
pub faulty : (c : ChannelProgress) (mid behind all : List ℕ) (f : ChannelFault) → judged_len c.page_size c.hello ≤ length mid → first_fault c mid ≡ Some f
    → mid ++ behind ≡ all → due_fault c all ≡ Some f
faulty c mid behind all f le fault e = ap (due_fault c) (sym e) ∙ due-append c mid behind f (due_is c mid le ∙ fault)

-- if the judged bytes have no fault, the bytes that they grew to have none
pub still_faultless : (c : ChannelProgress) (mid new : List ℕ) → judged_len c.page_size c.hello ≤ length mid → first_fault c mid ≡ None
    → take (length mid) new ≡ mid → first_fault c new ≡ None
still_faultless c mid new le none kept =
    ap (first_fault c) (grown mid new kept) ∙ ap first_of (faults_stay c c.hello mid (drop (length mid) new) le) ∙ none

-- and they say the same length
same_len : (c : ChannelProgress) (mid new : List ℕ) → judged_len c.page_size c.hello ≤ length mid → take (length mid) new ≡ mid
    → item_len c.page_size c.hello new ≡ item_len c.page_size c.hello mid
same_len c mid new le kept =
    ap (item_len c.page_size c.hello) (grown mid new kept) ∙ len_stays c.page_size c.hello mid (drop (length mid) new) le

-- the item isn't whole
pub still_short : (c : ChannelProgress) (mid new : List ℕ) → judged_len c.page_size c.hello ≤ length mid → first_fault c mid ≡ None
    → take (length mid) new ≡ mid
    → length new < item_len c.page_size c.hello mid → IsUnfinished c new
still_short c mid new le none kept short =
    let more : judged_len c.page_size c.hello ≤ length new = omega (arith, le, ap length kept, length-take (length mid) new) in
    record {
      has_no_fault = due_is c new more ∙ still_faultless c mid new le none kept;
      is_short = λ _. omega (arith, short, same_len c mid new le kept);
    }

-- the judged bytes are no more than the item has
mid_le : (c : ChannelProgress) (old mid : List ℕ) → IsUnfinished c old
    → (length old ≤ judged_len c.page_size c.hello → length mid ≤ judged_len c.page_size c.hello)
    → (judged_len c.page_size c.hello ≤ length old → mid ≡ old) → length mid ≤ item_len c.page_size c.hello mid
mid_le c old mid u full same =
    elim (cases_lt (length old) (judged_len c.page_size c.hello)) [
      | inl lt ↦ omega (arith, full (omega (arith, lt)), judged_le_len c.page_size c.hello mid)
      | inr le ↦ omega (arith, u.is_short le, ap length (same le), ap (item_len c.page_size c.hello) (same le))
    ]

-- the item is whole
pub is_whole : (c : ChannelProgress) (old mid new : List ℕ) → IsUnfinished c old
    → (length old ≤ judged_len c.page_size c.hello → length mid ≤ judged_len c.page_size c.hello)
    → (judged_len c.page_size c.hello ≤ length old → mid ≡ old) → judged_len c.page_size c.hello ≤ length mid → take (length mid) new ≡ mid
    → (length mid ≤ item_len c.page_size c.hello mid → length new ≤ item_len c.page_size c.hello mid) → item_len c.page_size c.hello mid ≤ length new
    → IsItem c.page_size c.hello new
is_whole c old mid new u full same le kept no_more as_many =
    omega (arith, as_many, no_more (mid_le c old mid u full same), same_len c mid new le kept)
