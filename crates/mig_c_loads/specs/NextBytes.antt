-- What the next bytes of one stream are as C sees it, and a page that C reads into its block
-- itself.
use Rattle.std.specs.Prelude.{◌≡◌, ◌≢◌, ◌<◌, ◌≤◌, ◌+◌, ◌*◌, ◌^◌, ◌++◌, ℕ, Bool, List, [], ◌∷◌, Option, None, Some, IfSome, IsTrue, IsFalse, false}
use Rattle.mig_mem.specs.declared.place.Place.{Place}
use Rattle.mig_mem.specs.Place.{IsPlace}
use Rattle.mig_mem.specs.PlaceSet.{PlaceSet}
use Rattle.mig_mem.specs.Image.{Image, content_at, with_page}
use Rattle.mig_mem.specs.Lent.{FitTable, lent_image}
use Rattle.mig_stream.specs.declared.wanted.Wanted.{Wanted}
use Rattle.mig_stream.specs.declared.wanted.Wanted.TheVariants as wanted
use Rattle.mig_load_types.specs.declared.settings.LoadSettings.{LoadSettings}
use Rattle.mig_single_load.specs.LoadInPlace.{LoadInPlace, LoadsInPlace, LacksMemory}
use Rattle.mig_single_load.specs.ComesNext.{ComesNext, page_wanted, page_asked}
use Rattle.mig_c_loads.specs.ZeroBlocks.{with_filled}
use Rattle.mig_c_loads.specs.declared.next_bytes.NextBytes.{NextBytes}
use Rattle.mig_c_calls.specs.Status.{IsOneOf, done, is_over, too_long, bad_length, out_of_turn}

-- ---- what comes next

-- The bytes of an item; or a page, whose bytes belong at an offset of its block.
abbrev pub seen_next : ℕ → Wanted → NextBytes
seen_next page_size (wanted.Page place) = record { len = page_size; is_page = 1; block = place.block; offset = place.page * page_size }
seen_next page_size (wanted.Bytes n) = record { len = n; is_page = 0; block = 0; offset = 0 }

-- What comes next is reported to C, if anything does; otherwise what it passed is unchanged.
abbrev pub SeesNext : ℕ → Bool → (before after : NextBytes) → Option Wanted → Type 0
SeesNext page_size told before after None = IsFalse told × (after ≡ before)
SeesNext page_size told before after (Some next) = IsTrue told × (after ≡ seen_next page_size next)

-- C sees what the next bytes of the stream are. A page is one of the blocks. Nothing comes next
-- once no more of the stream is read, nor after a refused allocation.
pub record TellsNext (told : Bool) (before after : NextBytes) (s : LoadInPlace) : Type 0 where
  pub next : Option Wanted
  pub sees : SeesNext s.table.page_size told before after next
  pub comes_next : (memory : Image) (given : LoadSettings) (first : Image) (text : List ℕ) (ended : Bool) → LoadsInPlace memory given first s text ended
      → ComesNext given first text next
  pub has_failed : (memory : Image) (given : LoadSettings) (first : Image) (text : List ℕ) (ended : Bool) → LacksMemory memory given first s text ended
      → next ≡ None
  pub same_page : page_asked next ≡ page_wanted s
  pub is_place : IfSome (page_wanted s) (IsPlace s.table)

-- ---- a page that was read into its block

-- the second memory is the first one with another content at one place
abbrev pub IsReadInto : Place → Image → Image → Type 0
IsReadInto place before after = after ≡ with_page before place (content_at after place)

-- Whether the page that comes next is taken, with blocks that hold these bytes. With four of the
-- statuses it isn't, for the first reason that applies.
pub record MayTakePage (blocks : List (List ℕ)) (status : ℕ) (s : LoadInPlace) : Type 0 where
  pub is_named : IsOneOf (done ∷ is_over ∷ out_of_turn ∷ too_long ∷ bad_length ∷ []) status
  pub over : status ≡ is_over → IsTrue s.ended
  pub goes_on : status ≢ is_over → IsFalse s.ended
  pub wrong : status ≡ out_of_turn → page_wanted s ≡ None
  pub in_turn : status ≢ is_over → status ≢ out_of_turn → page_wanted s ≢ None
  pub long : status ≡ too_long → 2 ^ 63 ≤ s.fed + s.table.page_size
  pub short : status ≡ done → s.fed + s.table.page_size < 2 ^ 63
  pub unfit : status ≡ bad_length → FitTable s.table blocks → ⊥
  pub fits : status ≡ done → FitTable s.table blocks

-- What `page_read` does with blocks that hold these bytes. With `done` the bytes of the page that
-- comes next are taken as those of the stream: its memory was that of the blocks but for this page.
pub record TakesPage (blocks : List (List ℕ)) (status : ℕ) (old new : LoadInPlace) : Type 0 where
  pub may_take : MayTakePage blocks status old
  pub takes : status ≡ done → IfSome (page_wanted old) (λ place. (memory : Image) (given : LoadSettings) (first : Image) (text : List ℕ)
      → IsReadInto place memory (lent_image old.table blocks) → LoadsInPlace memory given first old text false
      → LoadsInPlace (lent_image old.table blocks) given first new (text ++ content_at (lent_image old.table blocks) place) false)
  pub counted : status ≡ done → new.fed ≡ old.fed + old.table.page_size
  pub goes_on : status ≡ done → IsFalse new.ended
  pub same_rounds : new.rounds ≡ old.rounds
  pub same_table : new.table ≡ old.table
  pub same : status ≢ done → new ≡ old

-- Of blocks that were zeros, the page that was taken may hold something else.
abbrev pub FillsPage : ℕ → LoadInPlace → Option PlaceSet → Option PlaceSet → Type 0
FillsPage status load old new = (status ≡ done → new ≡ with_filled (page_wanted load) old) × (status ≢ done → new ≡ old)
