-- A round that is taken back before a worker was given out.
use Rattle.std.proofs.Common.{ℕ, ◌≡◌, ◌<◌, ◌≤◌, ◌+◌, List, [], ◌∷◌, length, get_or, refl, ap, ◌∙◌, arith, suc}
use Rattle.std.proofs.lemmas.List.{nil_from_length}
use Rattle.mig_send.specs.MultiRound.{OpenMulti, IsTakenBack}

-- lists that have the same at each index
same_lists : (xs ys : List (List ℕ)) → length xs ≡ length ys → ((k : ℕ) → k < length xs → get_or xs k [] ≡ get_or ys k []) → xs ≡ ys
same_lists [] [] len each = refl
same_lists [] (y ∷ ys) len each = absurd (omega arith)
same_lists (x ∷ xs) [] len each = absurd (omega arith)
same_lists (x ∷ xs) (y ∷ ys) len each =
    let head : x ≡ y = each 0 (omega arith) in
    let tail : xs ≡ ys = same_lists xs ys (omega arith) (λ k lt. each (suc k) (omega arith)) in
    ap (λ (z : List ℕ). z ∷ xs) head ∙ ap (λ (zs : List (List ℕ)). y ∷ zs) tail

-- a round with all of its seats left is taken back, and its sender is as it was before
pub taken_back : (round : OpenMulti) → length round.spents + length round.seats ≤ length round.sender.channels
    → length round.seats ≡ length round.sender.channels
    → IsTakenBack round round.sender
taken_back round few all = record {
  same_sender = refl;
  none_back = nil_from_length round.spents (omega arith);
  was = λ dirty old begun. begun.same_sender;
  had_come = λ image drained old come.
      let len : length round.sender.channels ≡ length old.channels = come.same_channels in
      come.same_sender ∙ ap (λ (channels : List (List ℕ)). record old { channels = channels })
      (same_lists round.sender.channels old.channels len (λ channel lt. come.are_waiting channel (omega arith) (omega arith)));
}
