-- The text of a fault, as C logs it.
use Rattle.std.specs.Prelude.{ℕ, ◌≡◌, ◌++◌, ◌-◌, ◌^◌, ◌==◌, ◌||◌, ◌<◌, false, length, take, drop, min, List, [], ◌∷◌, Option, None, Some, if◌then◌else◌, codes, decimal}
use Rattle.std.specs.Fmt.{digits}
use Rattle.mig_c_calls.specs.Texts.{IsText}
use Rattle.mig_c_calls.specs.declared.fault_text.LoggedFault.{LoggedFault}

-- what it carries: flags or a byte; a packet; a packet and an offset; or a page
abbrev pub carried_text : LoggedFault → List ℕ
carried_text f =
    if f.number == 27 || f.number == 31 || f.number == 41 then codes " 0x" ++ digits 16 false f.first
    else if f.number == 54 || f.number == 55 || f.number == 56 || f.number == 57 then codes " (packet " ++ decimal f.first ++ codes ")"
    else if f.number == 58 then codes " (packet " ++ decimal f.first ++ codes ", offset " ++ decimal f.second ++ codes ")"
    else if f.number == 59 then codes " (block " ++ decimal f.first ++ codes ", page " ++ decimal f.second ++ codes ")"
    else []

-- the channel that it is of, if it is of one
abbrev pub channel_text : LoggedFault → List ℕ
channel_text f = if f.source == 0 || f.source == 2 ^ 64 - 1 then [] else codes ", channel " ++ decimal (f.source - 1)

-- the byte at which it is, if that is known
abbrev pub place_text : Option ℕ → List ℕ
place_text None = []
place_text (Some at) = codes ", at byte " ++ decimal at

-- The number and its message, what it carries, its channel, how many rounds came before, and the
-- byte.
abbrev pub fault_text : List ℕ → LoggedFault → Option ℕ → List ℕ
fault_text message f at =
    decimal f.number ++ codes ", " ++ message ++ carried_text f ++ channel_text f
    ++ codes ", after " ++ decimal f.round ++ codes " rounds" ++ place_text at

-- ---- in bytes of C

-- As much of a text as there is room for, and then a byte 0, if there is room for any. What follows
-- stays.
abbrev pub cut_into : List ℕ → List ℕ → List ℕ
cut_into [] _ = []
cut_into (_ ∷ out) text = take (length out) text ++ 0 ∷ drop (min (length text) (length out)) out

-- C gets the text of a fault, with some message, cut to its room, and the length of the whole text.
-- 256 bytes have room for any.
pub record LogsFault (f : LoggedFault) (at : Option ℕ) (len : ℕ) (before after : List ℕ) : Type 0 where
  pub message : List ℕ
  pub is_text : IsText (message ++ 0 ∷ [])
  pub has_length : len ≡ length (fault_text message f at)
  pub is_short : len < 256
  pub is_cut : after ≡ cut_into before (fault_text message f at)
