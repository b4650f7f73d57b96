-- What follows the entries of a size list, and what says it: capabilities and COMMANDs.
use Rattle.std.proofs.Common.{◌≡◌, ℕ, ◌+◌, Bool, true, false, cond, List, [], ◌∷◌, ◌++◌, length, refl, ap, ◌∙◌, arith}
use Rattle.std.specs.Prelude.{◌&&◌, ◌||◌}
use Rattle.std.specs.List.{flat_map, AllByRecursion}
use Rattle.mig_mem.specs.RamTable.{Block, RamTable}
use Rattle.mig_stream.specs.declared.item.RecordKind.TheVariants.{SizeList}
use Rattle.mig_stream.specs.declared.item.EntryForm.{EntryForm}
use Rattle.mig_stream.specs.declared.item.EntryForm.TheVariants.{Plain, Addressed, Sized}
use Rattle.mig_stream.specs.Fields.{be64}
use Rattle.mig_stream.specs.Format.{flags_of}
use Rattle.mig_stream.specs.Items.{is_addressed}
use Rattle.mig_stream.specs.Text.{entry, total_bytes, size_list}
use Rattle.mig_stream.specs.Machine.{IsTail, entries, tailed_list}

-- ---- entries with nothing behind them

plain_entries : (p : ℕ) (blocks : List Block) (tails : List (List ℕ)) → length tails ≡ length blocks
    → AllByRecursion (IsTail Plain) tails → entries p blocks tails ≡ flat_map (entry p) blocks
plain_entries p [] tails len are = refl
plain_entries p (b ∷ blocks) [] len are = absurd (omega (arith, len))
plain_entries p (b ∷ blocks) (tail ∷ tails) len are =
    ap (λ (t : List ℕ). entry p b ++ (t ++ entries p blocks tails)) are.0
    ∙ ap (λ (x : List ℕ). entry p b ++ x) (plain_entries p blocks tails (omega (arith, len)) are.1)

-- a list of plain entries is the one of RAM alone
pub plain_list : (table : RamTable) (tails : List (List ℕ)) → length tails ≡ length table.blocks
    → AllByRecursion (IsTail Plain) tails → tailed_list table tails ≡ size_list table
unfolding tailed_list size_list
plain_list table tails len are = ap (λ (x : List ℕ). be64 (total_bytes table + flags_of SizeList) ++ x)
    (plain_entries table.page_size table.blocks tails len are)

-- nothing behind the entry of each block
abbrev pub no_tails : List Block → List (List ℕ)
no_tails [] = []
no_tails (b ∷ blocks) = [] ∷ no_tails blocks

-- there is one tail for each block
pub no_tails_length : (blocks : List Block) → length (no_tails blocks) ≡ length blocks
no_tails_length [] = refl
no_tails_length (b ∷ blocks) = omega (arith, no_tails_length blocks)

-- a block without a tail is one of a plain list
pub no_tails_plain : (blocks : List Block) → AllByRecursion (IsTail Plain) (no_tails blocks)
no_tails_plain [] = tt
no_tails_plain (b ∷ blocks) = (refl, no_tails_plain blocks)

-- a list whose blocks have no tails is the plain size list
pub no_tails_list : (table : RamTable) → tailed_list table (no_tails table.blocks) ≡ size_list table
no_tails_list table = plain_list table (no_tails table.blocks) (no_tails_length table.blocks) (no_tails_plain table.blocks)

-- ---- the form of the entries

-- what is said twice
pub twice : (a b : Bool) (said form : EntryForm) → cond b said (cond a said form) ≡ cond (a || b) said form
twice true true said form = refl
twice true false said form = refl
twice false b said form = refl

-- Postcopy isn't allowed beside "x-ignore-shared": neither by the first COMMAND nor by one after
-- it.
pub first_fits : (addressed advise others opening : Bool) → (addressed ≡ true → (advise || others) ≡ false) → (addressed && (opening && advise)) ≡ false
first_fits false advise others opening one = refl
first_fits true true others opening one = absurd (let clash : true ≡ false = one refl in cc)
first_fits true false others true one = refl
first_fits true false others false one = refl

-- where the sizes still have addresses after an advise, no later COMMAND is one
pub others_fit : (form : EntryForm) (advise others : Bool) → (is_addressed form ≡ true → (advise || others) ≡ false)
    → is_addressed (cond advise Sized form) ≡ true → others ≡ false
others_fit form true others one e = absurd cc
others_fit form false others one e = one e

-- if two conditions don't hold together and one holds, the other doesn't
pub fits_apart : (addressed advise : Bool) → (addressed && advise) ≡ false → addressed ≡ true → advise ≡ false
fits_apart true advise fits e = fits
fits_apart false advise fits e = absurd cc

-- the form tells whether it was named
pub addressed_told : (named : Bool) → is_addressed (cond named Addressed Plain) ≡ true → named ≡ true
addressed_told true e = refl
addressed_told false e = absurd cc
