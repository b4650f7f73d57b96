-- Relays: the channels of their queues.
use Rattle.std.proofs.Common.{ℕ, zero, suc, ◌≡◌, ◌<◌, ◌≤◌, List, [], ◌∷◌, length, map, refl, sym, ap, ◌∙◌, Option, Some, arith, subst, get_or}
use Rattle.std.specs.Prelude.{slice_get, slice_set, Vec, Bool, true, false, Result, Ok, Err, IfOk, OnErr}
use Rattle.std.specs.List.{All, AllZip}
use Rattle.std.proofs.lemmas.List.{length-map}
use Rattle.std.proofs.lemmas.Simd.{map-map}
use Rattle.std.proofs.lemmas.List.Elements.{All-nil, All-cons}
use Rattle.mig_packet.specs.ChannelItems.{ChannelItem}
use Rattle.mig_packet.specs.Reading.{Settings, settings, with_waiting}
use Rattle.mig_relay.specs.declared.log.ChannelText.{ChannelText}
use Rattle.mig_relay.specs.RelayItems.{with_settings, given as settings_in, QueueEnd}
use Rattle.mig_mem.specs.declared.fault.NoMemory.{NoMemory}
use Rattle.mig_relay.specs.Relay.{so_far, at_start, Takes, TakesAt}
use Rattle.mig_answer.specs.MultiLoad.{bytes_of}
use Rattle.mig_relay.specs.Relayed.{IsRelayOf, IsRelay, Continues}

abbrev pub source_of : QueueEnd → ChannelText
source_of p = p.source

-- a channel that stays in its place keeps the relay
pub sources_stay : (ends : List QueueEnd) (j : ℕ) (p q : QueueEnd) → slice_get ends j ≡ Some p → q.source ≡ p.source
    → map source_of (slice_set ends j q) ≡ map source_of ends
sources_stay [] j p q e same = refl
sources_stay (x ∷ ends) zero p q e same = let is : x ≡ p = cc in ap (λ (s : ChannelText). s ∷ map source_of ends) (same ∙ ap source_of (sym is))
sources_stay (x ∷ ends) (suc j) p q e same = ap (λ (l : List ChannelText). x.source ∷ l) (sources_stay ends j p q e same)

-- ends of the same channels as a relay's are a relay's, too
pub relay_stays : (old new : List QueueEnd) → IsRelay old → map source_of new ≡ map source_of old → IsRelay new
relay_stays old new is same = record {
  page_size = is.page_size;
  waiting = is.waiting;
  uuid = is.uuid;
  texts = is.texts;
  is_page_size = is.is_page_size;
  is_relay = record { has_some = is.is_relay.has_some; has_sources = same ∙ is.is_relay.has_sources };
}

-- ends that continue others are of the same channels
pub sources_go_on : (old new : List QueueEnd) → AllZip Continues old new → map source_of new ≡ map source_of old
sources_go_on [] [] zip = refl
sources_go_on [] (q ∷ qs) zip = absurd zip
sources_go_on (p ∷ ps) [] zip = absurd zip
sources_go_on (p ∷ ps) (q ∷ qs) zip =
    ap (λ (s : ChannelText). s ∷ map source_of qs) zip.0.same_source ∙ ap (λ (l : List ChannelText). p.source ∷ l) (sources_go_on ps qs zip.1)

-- ends that continue those of a relay are of the same relay
pub of_relay : (page_size : ℕ) (waiting : Option ℕ) (uuid : List ℕ) (texts : List (List ℕ)) (old new : List QueueEnd)
    → IsRelayOf page_size waiting uuid texts old
    → AllZip Continues old new → IsRelayOf page_size waiting uuid texts new
of_relay page_size waiting uuid texts old new is zip = record { has_some = is.has_some; has_sources = sources_go_on old new zip ∙ is.has_sources }

-- at the start
pub relay_starts : {A : Type 0} (page_size : ℕ) (waiting : Option ℕ) (uuid : List ℕ) (texts : List (Vec ℕ A)) (ends : List QueueEnd) → 1 ≤ length texts
    → map so_far ends ≡ map (at_start (with_waiting waiting (settings page_size uuid (length texts)))) texts
    → IsRelayOf page_size waiting uuid (bytes_of texts) ends
relay_starts page_size waiting uuid texts ends some start =
    let given : ℕ → Settings = λ n. with_waiting waiting (settings page_size uuid n) in
    let n : ℕ = length texts in
    let items : Vec ℕ _ → List ℕ = λ text. text.items in
    let front : ChannelText × List ChannelItem → ChannelText = λ s. s.0 in
    let sources : map source_of ends ≡ map (λ text. with_settings (given n) (items text)) texts =
    sym (map-map front so_far ends) ∙ ap (map front) start ∙ map-map front (at_start (given n)) texts in
    record {
      has_some = omega (arith, some, length-map texts items);
      has_sources = sources ∙ sym (map-map (with_settings (given n)) items texts)
          ∙ ap (λ (m : ℕ). map (with_settings (given m)) (bytes_of texts)) (sym (length-map texts items));
    }

-- all channels have the settings that they are read with
all_read : (given : Settings) (texts : List (List ℕ)) (ends : List QueueEnd) → map source_of ends ≡ map (with_settings given) texts
    → All (λ p. settings_in p.source ≡ given) ends
all_read given texts [] e = All-nil (λ (p : QueueEnd). settings_in p.source ≡ given)
all_read given [] (p ∷ ends) e = absurd cc
all_read given (text ∷ texts) (p ∷ ends) e =
    let here : p.source ≡ with_settings given text = cc in
    let there : map source_of ends ≡ map (with_settings given) texts = cc in
    All-cons (λ (p : QueueEnd). settings_in p.source ≡ given) p ends (ap settings_in here) (all_read given texts ends there)

-- so all have its page size
pub sizes_are : (given : Settings) (texts : List (List ℕ)) (ends : List QueueEnd) → map source_of ends ≡ map (with_settings given) texts
    → All (λ p. p.source.page_size ≡ given.page_size) ends
sizes_are given texts ends e = λ i p below. ap (λ (s : Settings). s.page_size) (all_read given texts ends e i p below)

-- and its limit
pub limits_are : (given : Settings) (texts : List (List ℕ)) (ends : List QueueEnd) → map source_of ends ≡ map (with_settings given) texts
    → All (λ p. p.source.waiting ≡ given.waiting) ends
limits_are given texts ends e = λ i p below. ap (λ (s : Settings). s.waiting) (all_read given texts ends e i p below)

-- what a call of one channel leaves
pub source_kept : (p q : QueueEnd) (result : Result Bool NoMemory) → IfOk result (Takes p q) → OnErr result (q ≡ p) → q.source ≡ p.source
source_kept p q (Ok true) taken same = ap source_of taken.1
source_kept p q (Ok false) taken same = ap source_of taken.0
source_kept p q (Err fault) taken same = ap source_of same

-- an end at j that takes an item, if no allocation is refused, takes it among all ends, of which
-- the others are unchanged
pub takes_there : (old : List QueueEnd) (j : ℕ) (p q : QueueEnd) (result : Result Bool NoMemory) → slice_get old j ≡ Some p → IfOk result (Takes p q)
    → IfOk result (λ more. TakesAt j old (slice_set old j q) more)
takes_there old j p q (Ok more) e taken = (p, q, e, refl, taken)
takes_there old j p q (Err fault) e taken = tt

-- how the channels of a relay are read
abbrev pub read_with : {ends : List QueueEnd} → IsRelay ends → Settings
read_with is = with_waiting is.waiting (settings is.page_size is.uuid (length is.texts))

some_end : (ends : List QueueEnd) → IsRelay ends → 0 < length ends
some_end ends is =
    let has = is.is_relay.has_some in
    omega (
      arith,
      has,
      ap (λ (l : List ChannelText). length l) is.is_relay.has_sources,
      length-map ends source_of,
      length-map is.texts (with_settings (read_with is)),
    )

-- the first channel has the page size of all
pub relay_sizes : (ends : List QueueEnd) (first : QueueEnd) → IsRelay ends → first ≡ get_or ends 0 first → (n : ℕ)
    → n ≡ first.source.page_size → All (λ p. p.source.page_size ≡ n) ends
relay_sizes ends first is e n same =
    let all : All (λ p. p.source.page_size ≡ is.page_size) ends = sizes_are (read_with is) is.texts ends is.is_relay.has_sources in
    let here : n ≡ is.page_size = same ∙ ap (λ (p : QueueEnd). p.source.page_size) e ∙ all 0 first (some_end ends is) in
    subst (λ (m : ℕ). All (λ p. p.source.page_size ≡ m) ends) (sym here) all

-- and the limit of all
pub relay_limits : (ends : List QueueEnd) (first : QueueEnd) → IsRelay ends → first ≡ get_or ends 0 first → (limit : Option ℕ) → limit ≡ first.source.waiting
    → All (λ p. p.source.waiting ≡ limit) ends
relay_limits ends first is e limit same =
    let all : All (λ p. p.source.waiting ≡ is.waiting) ends = limits_are (read_with is) is.texts ends is.is_relay.has_sources in
    let here : limit ≡ is.waiting = same ∙ ap (λ (p : QueueEnd). p.source.waiting) e ∙ all 0 first (some_end ends is) in
    subst (λ (x : Option ℕ). All (λ p. p.source.waiting ≡ x) ends) (sym here) all
