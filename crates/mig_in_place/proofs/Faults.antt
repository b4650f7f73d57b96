-- The fault of a channel's own bytes, by its reading.
use Rattle.std.proofs.Common.{ℕ, zero, suc, ◌≡◌, List, [], ◌∷◌, map, get_or, Option, Some, None, subst}
use Rattle.std.specs.Prelude.{slice_get}
use Rattle.std.specs.List.{AllZip}
use Rattle.mig_mem.specs.PageSize.{IsPageSize}
use Rattle.mig_packet.specs.Reading.{Settings, ChannelReading, IsReading}
use Rattle.mig_load_types.specs.declared.fault.Fault.{Fault}
use Rattle.mig_answer.specs.Status.{channel_end, fault_of}
use Rattle.mig_answer.specs.Texts.{Text}
use Rattle.mig_in_place.specs.Sources.{KeptChannel, HasGiven, TellsChannelFault}

abbrev AreRead : Settings → List Text → List ChannelReading → Type 0
AreRead given texts readings = AllZip (λ (text : Text) (reading : ChannelReading). IsReading given text.bytes text.ended reading) texts readings

-- the fault that channel j's reader has of the bytes taken is the one of its reading
pub fault_at : (given : Settings) (texts : List Text) (channels : List KeptChannel) (readings : List
    ChannelReading) (j : ℕ) (q : KeptChannel) (found : Option Fault) → IsPageSize given.page_size
    → slice_get channels j ≡ Some q → AllZip (HasGiven given) texts channels → AreRead given texts readings → TellsChannelFault q found
    → found ≡ get_or (map (λ (r : ChannelReading). fault_of (channel_end r.state)) readings) j None
fault_at given [] [] readings j q found size is gave are tells = absurd cc
fault_at given [] (c ∷ channels) readings j q found size is gave are tells = absurd gave
fault_at given (text ∷ texts) [] readings j q found size is gave are tells = absurd gave
fault_at given (text ∷ texts) (c ∷ channels) [] j q found size is gave are tells = absurd are
fault_at given (text ∷ texts) (c ∷ channels) (r ∷ readings) zero q found size is gave are tells =
    tells given text r size (subst (λ (x : KeptChannel). HasGiven given text x) (let e : c ≡ q = cc in e) gave.0) are.0
fault_at given (text ∷ texts) (c ∷ channels) (r ∷ readings) (suc j) q found size is gave are tells =
    fault_at given texts channels readings j q found size is gave.1 are.1 tells
