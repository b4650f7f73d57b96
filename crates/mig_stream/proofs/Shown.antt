-- A main stream that shows what ends its rounds is one of those that need no showing.
use Rattle.std.proofs.Common.{◌≡◌, ◌⊎◌, ℕ, Bool, true, false, cond, List, [], ◌∷◌, ◌++◌, map, sym, subst, inl, inr}
use Rattle.mig_mem.specs.RamTable.{RamTable}
use Rattle.mig_stream.specs.declared.item.Mode.{Mode}
use Rattle.mig_stream.specs.declared.item.Mode.TheVariants.{Main, MainBySection, MainAsShown}
use Rattle.mig_stream.specs.PageRecord.{PageRecord}
use Rattle.mig_stream.specs.Text.{Record, with_flush, AreFlushed, AreRounds, show_flush, IsText}
use Rattle.mig_stream.specs.Machine.{parts_of, IsMachineText}
use Rattle.mig_stream.specs.Shown.{ShownIsOneOfBoth, MachineShownIsOneOfBoth, FlushIsShown, MachineFlushIsShown, EosIsShown, MachineEosIsShown}

-- a stream of the same bytes in another mode, whose rounds are these
pub in_mode : (m n : Mode) (limit : ℕ) (text : List ℕ) (table : RamTable) (old rounds : List (List PageRecord)) → (is : IsText m limit text table old)
    → AreRounds n (is.first ∷ is.parts ++ is.last ∷ []) rounds → IsText n limit text table rounds
in_mode m n limit text table old rounds is are = record {
  id = is.id;
  name = is.name;
  first = is.first;
  parts = is.parts;
  last = is.last;
  is_spelled = is.is_spelled;
  has_table = is.has_table;
  has_limit = is.has_limit;
  has_id = is.has_id;
  has_name = is.has_name;
  follow = is.follow;
  has_rounds = are;
}

-- a machine's stream is one in another mode, too, with the rounds of that mode
pub machine_in_mode : (m n : Mode) (limit : ℕ) (text : List ℕ) (table : RamTable) (old rounds : List (List PageRecord))
    → (is : IsMachineText m limit text table old)
    → AreRounds n (is.first ∷ parts_of is.others ++ is.last ∷ []) rounds → IsMachineText n limit text table rounds
machine_in_mode m n limit text table old rounds is are = record {
  id = is.id;
  machine = is.machine;
  opening = is.opening;
  tails = is.tails;
  first = is.first;
  others = is.others;
  last = is.last;
  is_spelled = is.is_spelled;
  has_table = is.has_table;
  has_limit = is.has_limit;
  has_id = is.has_id;
  has_machine = is.has_machine;
  is_opening = is.is_opening;
  is_one_form = is.is_one_form;
  has_tails = is.has_tails;
  are_tails = is.are_tails;
  are_others = is.are_others;
  follow = is.follow;
  has_rounds = are;
}

-- ---- the rounds of the sections

by_one : (sections : List (List Record)) (rounds : List (List PageRecord)) (b : Bool) → AreFlushed (cond b sections (map with_flush sections)) rounds
    → AreRounds Main sections rounds ⊎ AreRounds MainBySection sections rounds
by_one sections rounds true are = inl are
by_one sections rounds false are = inr are

by_flush : (sections : List (List Record)) (rounds : List (List PageRecord)) → show_flush sections ≡ true
    → AreRounds Main sections rounds → AreRounds MainAsShown sections rounds
by_flush sections rounds shows are = subst (λ (b : Bool). AreFlushed (cond b sections (map with_flush sections)) rounds) (sym shows) are

by_eos : (sections : List (List Record)) (rounds : List (List PageRecord)) → show_flush sections ≡ false
    → AreRounds MainBySection sections rounds → AreRounds MainAsShown sections rounds
by_eos sections rounds shows are = subst (λ (b : Bool). AreFlushed (cond b sections (map with_flush sections)) rounds) (sym shows) are

-- ---- the streams

-- the law: a stream that shows what ends its rounds is one of FLUSH or one of each EOS
pub shown_law : ShownIsOneOfBoth
shown_law = λ limit text table rounds is.
    let sections : List (List Record) = is.first ∷ is.parts ++ is.last ∷ [] in
    elim (by_one sections rounds (show_flush sections) is.has_rounds) [
      | inl are ↦ inl (in_mode MainAsShown Main limit text table rounds rounds is are)
      | inr are ↦ inr (in_mode MainAsShown MainBySection limit text table rounds rounds is are)
    ]

-- the same law of a machine's stream
pub machine_shown_law : MachineShownIsOneOfBoth
machine_shown_law = λ limit text table rounds is.
    let sections : List (List Record) = is.first ∷ parts_of is.others ++ is.last ∷ [] in
    elim (by_one sections rounds (show_flush sections) is.has_rounds) [
      | inl are ↦ inl (machine_in_mode MainAsShown Main limit text table rounds rounds is are)
      | inr are ↦ inr (machine_in_mode MainAsShown MainBySection limit text table rounds rounds is are)
    ]

-- the law: rounds by FLUSH are shown where START has one or the first record behind it is one
pub flush_law : FlushIsShown
flush_law = λ limit text table rounds is shows.
    in_mode Main MainAsShown limit text table rounds rounds is (by_flush (is.first ∷ is.parts ++ is.last ∷ []) rounds shows is.has_rounds)

-- the same law of a machine's stream with FLUSHes
pub machine_flush_law : MachineFlushIsShown
machine_flush_law = λ limit text table rounds is shows.
    machine_in_mode Main MainAsShown limit text table rounds rounds is (by_flush (is.first ∷ parts_of is.others ++ is.last ∷ []) rounds shows is.has_rounds)

-- the law: rounds by each EOS are shown where neither is
pub eos_law : EosIsShown
eos_law = λ limit text table rounds is shows.
    in_mode MainBySection MainAsShown limit text table rounds rounds is (by_eos (is.first ∷ is.parts ++ is.last ∷ []) rounds shows is.has_rounds)

-- the same law of a machine's stream without FLUSHes
pub machine_eos_law : MachineEosIsShown
machine_eos_law = λ limit text table rounds is shows.
    machine_in_mode MainBySection MainAsShown limit text table rounds rounds is
    (by_eos (is.first ∷ parts_of is.others ++ is.last ∷ []) rounds shows is.has_rounds)
