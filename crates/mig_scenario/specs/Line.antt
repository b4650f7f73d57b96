-- The lines of a scenario.
use Rattle.std.specs.Prelude.{ℕ, ◌==◌, ◌&&◌, nat_le, if◌then◌else◌, List, [], ◌∷◌, length, Bool, Option, None, Some, codes}
use Rattle.std.specs.List.{list_all, slice_split, join_with_byte}
use Rattle.std.specs.Option.{option_map, option_and_then}
use Rattle.std.specs.Bool.{then_some}
use Rattle.std.specs.Char.{is_digit}
use Rattle.std.specs.Str.{bytes_eq}
use Rattle.std.specs.Str.Parse.{digits_value}
use Rattle.mig_scenario.specs.declared.line.Step.{Step}
use Rattle.mig_scenario.specs.declared.line.Step.TheVariants.{Set, Fill, Touch, Round}

-- a parsed line: an empty one, a block's number of pages and its id, or a step
pub data ScenarioLine : Type 0 where
  EmptyLine : ScenarioLine
  BlockLine : ℕ → List ℕ → ScenarioLine
  StepLine : Step → ScenarioLine

-- lines end with 0x0A, and the bytes after the last of these are a line, too
abbrev pub lines : List ℕ → List (List ℕ)
lines text = slice_split (λ byte. byte == 0x0A) text

-- words are separated by one space
abbrev pub words : List ℕ → List (List ℕ)
words line = slice_split (λ byte. byte == 0x20) line

-- a number is 1 to 18 decimal digits
abbrev pub is_number : List ℕ → Bool
is_number word = nat_le 1 (length word) && nat_le (length word) 18 && list_all (λ byte. is_digit byte 10) word

abbrev pub number : List ℕ → Option ℕ
number word = then_some (is_number word) (digits_value 10 word)

-- parses words as numbers; None if one of them isn't a number
abbrev pub numbers : List (List ℕ) → Option (List ℕ)
numbers [] = Some []
numbers (word ∷ rest) = option_and_then (λ n. option_map (λ ns. n ∷ ns) (numbers rest)) (number word)

-- `set BLOCK OFFSET BYTE`, `fill BLOCK PAGE BYTE`, `touch BLOCK PAGE`, `round`
abbrev pub step_of : List ℕ → List ℕ → Option Step
step_of name [] = then_some (bytes_eq name (codes "round")) Round
step_of name (block ∷ page ∷ []) = then_some (bytes_eq name (codes "touch")) (Touch block page)
step_of name (block ∷ at ∷ byte ∷ []) =
    if bytes_eq name (codes "set") then Some (Set block at byte) else then_some (bytes_eq name (codes "fill")) (Fill block at byte)
step_of name other = None

-- `block PAGES ID`: the id is the rest of the line, with its spaces
abbrev pub block_of : List (List ℕ) → Option ScenarioLine
block_of (pages ∷ id ∷ more) = option_map (λ n. BlockLine n (join_with_byte 0x20 (id ∷ more))) (number pages)
block_of other = None

abbrev pub form_of : List (List ℕ) → Option ScenarioLine
form_of [] = None
form_of (name ∷ fields) =
    if bytes_eq name (codes "block") then block_of fields else option_map StepLine (option_and_then (step_of name) (numbers fields))

-- parses a line; None if it has none of the forms
abbrev pub line_of : List ℕ → Option ScenarioLine
line_of [] = Some EmptyLine
line_of (byte ∷ bytes) = form_of (words (byte ∷ bytes))
