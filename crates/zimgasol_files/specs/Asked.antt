-- What the words of a command ask of the reading of a stream.
use Rattle.std.specs.Prelude.{◌≡◌, ◌^◌, ℕ, min, false}
use Rattle.mig_stream.specs.declared.item.Frame.TheVariants.{Machine}
use Rattle.zimgasol_files.specs.declared.words.PageSize.{PageSize}
use Rattle.zimgasol_files.specs.declared.words.PageSize.TheVariants.{Small, Large}
use Rattle.zimgasol_files.specs.declared.words.StreamWords.{StreamWords}

-- the bytes of a page
abbrev pub page_bytes : PageSize → ℕ
page_bytes Small = 2 ^ 12
page_bytes Large = 2 ^ 13

-- the most bytes of guest memory
abbrev pub most_total : StreamWords → ℕ
most_total words = min words.most_memory (2 ^ 40)

-- The bytes after RAM are checked: those of a machine's stream, unless RAM alone is verified.
abbrev pub ChecksEnding : StreamWords → Type 0
ChecksEnding words = (words.frame ≡ Machine) × (words.ram_only ≡ false)
