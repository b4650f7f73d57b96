-- What a `Tail` keeps of the bytes that it looked at.
use Rattle.std.specs.Prelude.{ℕ, ◌≡◌, ◌≢◌, ◌≤◌, ◌+◌, ◌-◌, ◌⊎◌, ◌↔◌, List, ◌++◌, length, take, drop, replicate, All}
use Rattle.std.specs.Prelude.{codes, true, IsTrue, Some, slice_get, slice_index_or}
use Rattle.zimgasol_reading.specs.Ending.{head, most_read, HasDescription}
use Rattle.zimgasol_reading.specs.declared.tail.Ending.{Ending}
use Rattle.zimgasol_reading.specs.declared.tail.Window.{Window}
use Rattle.zimgasol_reading.specs.declared.tail.Tail.{Tail}

-- the last of these bytes, at most n
abbrev pub last_of : ℕ → List ℕ → List ℕ
last_of n bytes = drop (length bytes - n) bytes

-- the most bytes that are kept
abbrev pub most_kept : ℕ
most_kept = most_read + 16

-- These bytes begin with the head of a description of this length, and with the first bytes of its
-- JSON.
pub record IsHeaded (len : ℕ) (bytes : List ℕ) : Type 0 where
  pub text : List ℕ
  pub is_text : bytes ≡ head len ++ text
  pub begins : take 2 text ≡ codes "{\""

-- The window has the end of these bytes: from the fifth byte before the last zero byte on.
pub record IsWindow (bytes : List ℕ) (window : Window) : Type 0 where
  pub has_len : window.len ≡ length bytes
  pub has_recent : window.recent.items ≡ last_of 6 bytes
  pub has_start : window.start ≤ length bytes
  pub has_kept : window.kept.items ≡ take most_kept (drop window.start bytes)
  pub has_zero : (window.start ≡ 0) ⊎ (slice_index_or bytes (window.start + 5) 1 ≡ 0)
  pub has_no_more : All (λ byte. byte ≢ 0) (drop (window.start + 6) bytes)

-- The tail that is checked looked at exactly these bytes.
pub record HasSeen (text : List ℕ) (tail : Tail) : Type 0 where
  pub is_checked : tail.is_checked ≡ true
  pub has_first : tail.first ≡ slice_get text 0
  pub before : List ℕ
  pub is_text : text ≡ before ++ replicate tail.zeros 0
  pub has_window : IsWindow before tail.window

-- After this many bytes of the tail come the end byte and a description, with which it ends.
abbrev pub HasDescriptionAt : ℕ → List ℕ → Type 0
HasDescriptionAt at tail = (sections : List ℕ) × (length sections ≡ at) × HasDescription sections tail

-- What an ending reports of the tail, beside its fault.
pub record IsEndingOf (tail : Tail) (ending : Ending) : Type 0 where
  pub is_checked : ending.is_checked ≡ true
  pub has_devices : IsTrue ending.has_devices ↔ (tail.first ≢ Some 0)
