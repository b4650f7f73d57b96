-- The law on main streams that show by their first FLUSH or EOS what ends a round.
use Rattle.std.specs.Prelude.{◌≡◌, ◌⊎◌, ℕ, true, false, List, [], ◌∷◌, ◌++◌}
use Rattle.mig_mem.specs.RamTable.{RamTable}
use Rattle.mig_stream.specs.declared.item.Mode.TheVariants.{Main, MainBySection, MainAsShown}
use Rattle.mig_stream.specs.PageRecord.{PageRecord}
use Rattle.mig_stream.specs.Text.{IsText, show_flush}
use Rattle.mig_stream.specs.Machine.{parts_of, IsMachineText}

-- Such a stream is one whose rounds end with FLUSH, or one in which each EOS ends one too, with the
-- same table and rounds.
abbrev pub ShownIsOneOfBoth : Type 0
ShownIsOneOfBoth = (limit : ℕ) (text : List ℕ) (table : RamTable) (rounds : List (List PageRecord))
    → IsText MainAsShown limit text table rounds → IsText Main limit text table rounds ⊎ IsText MainBySection limit text table rounds

abbrev pub MachineShownIsOneOfBoth : Type 0
MachineShownIsOneOfBoth = (limit : ℕ) (text : List ℕ) (table : RamTable) (rounds : List (List PageRecord))
    → IsMachineText MainAsShown limit text table rounds → IsMachineText Main limit text table rounds ⊎ IsMachineText MainBySection limit text table rounds

-- A stream whose rounds end with FLUSH shows it, if START has a FLUSH or the first record behind
-- START is one.
abbrev pub FlushIsShown : Type 0
FlushIsShown = (limit : ℕ) (text : List ℕ) (table : RamTable) (rounds : List (List PageRecord))
    → (is : IsText Main limit text table rounds) → show_flush (is.first ∷ is.parts ++ is.last ∷ []) ≡ true → IsText MainAsShown limit text table rounds

abbrev pub MachineFlushIsShown : Type 0
MachineFlushIsShown = (limit : ℕ) (text : List ℕ) (table : RamTable) (rounds : List (List PageRecord))
    → (is : IsMachineText Main limit text table rounds) → show_flush (is.first ∷ parts_of is.others ++ is.last ∷ []) ≡ true → IsMachineText MainAsShown limit text table rounds

-- A stream in which each EOS ends a round shows it otherwise.
abbrev pub EosIsShown : Type 0
EosIsShown = (limit : ℕ) (text : List ℕ) (table : RamTable) (rounds : List (List PageRecord))
    → (is : IsText MainBySection limit text table rounds) → show_flush (is.first ∷ is.parts ++ is.last ∷ []) ≡ false → IsText MainAsShown limit text table rounds

abbrev pub MachineEosIsShown : Type 0
MachineEosIsShown = (limit : ℕ) (text : List ℕ) (table : RamTable) (rounds : List (List PageRecord))
    → (is : IsMachineText MainBySection limit text table rounds) → show_flush (is.first ∷ parts_of is.others ++ is.last ∷ []) ≡ false → IsMachineText MainAsShown limit text table rounds
