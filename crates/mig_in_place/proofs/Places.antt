-- The readers of a load in place took the bytes of the texts, whatever its verdict is: while it
-- runs, and once a source has ended. So they say up to where the sources are valid.
use Rattle.std.proofs.Common.{ℕ, zero, suc, ◌≡◌, true, List, [], ◌∷◌, length, get_or, set, Some, refl, sym, subst, arith}
use Rattle.std.specs.Prelude.{zip, slice_get}
use Rattle.std.specs.List.{AllZip}
use Rattle.std.proofs.lemmas.List.{length-set}
use Rattle.mig_mem.specs.RamTable.{RamTable}
use Rattle.mig_mem.specs.Image.{Image}
use Rattle.mig_packet.specs.Reading.{Settings}
use Rattle.mig_packet.specs.Paging.{GivenSoFar, PageHolder, Gives}
use Rattle.mig_load_types.specs.Settings.{main_of, channel_of}
use Rattle.mig_load_types.specs.declared.settings.LoadSettings.{LoadSettings}
use Rattle.mig_answer.specs.Texts.{Text, Texts, no_text, over}
use Rattle.mig_in_place.specs.Sources.{KeptMain, KeptChannel, KeptSources, HoldsChannel, HasGiven, StandsAt}
use Rattle.mig_in_place.specs.Session.{InPlaceLoad, IsRunning, HaveTaken}

-- ---- while it runs

given_each : (given : Settings) (table : RamTable) (k : ℕ) (texts : List Text) (gave : List GivenSoFar) (channels : List
    KeptChannel) → length gave ≡ length texts
    → AllZip (λ c kept. HoldsChannel given table k c.0 c.1 kept) (zip texts gave) channels → AllZip (HasGiven given) texts channels
given_each given table k [] [] [] same holds = tt
given_each given table k [] [] (c ∷ channels) same holds = absurd holds
given_each given table k [] (g ∷ gave) channels same holds = absurd (omega (arith, same))
given_each given table k (text ∷ texts) [] channels same holds = absurd (omega (arith, same))
given_each given table k (text ∷ texts) (g ∷ gave) [] same holds = absurd holds
given_each given table k (text ∷ texts) (g ∷ gave) (c ∷ channels) same holds =
    ((g, holds.0.gives, holds.0.has_ended), given_each given table k texts gave channels (omega (arith, same)) holds.1)

-- a running load has taken what its streams give
pub running_taken : (given : LoadSettings) (uuid : List ℕ) (first : Image) (texts : Texts) (memory : Image) (s : InPlaceLoad)
    → IsRunning given uuid first texts memory s → HaveTaken given uuid texts s.sources
running_taken given uuid first texts memory s r = record {
  rounds = s.rounds;
  main = r.main.stands;
  channels = given_each (channel_of given uuid (length texts.channels)) first.table s.rounds texts.channels r.gave s.sources.channels r.as_many r.channels;
}

-- a main stream that names another table was taken too
pub text_taken : (given : LoadSettings) (uuid : List ℕ) (texts : Texts) (s : KeptSources) (k : ℕ) (text : Text) (m : KeptMain)
    → StandsAt (main_of given) k text m → HaveTaken given uuid texts s
    → HaveTaken given uuid (record texts { main = text }) (record s { main = m })
text_taken given uuid texts s k text m stands taken = record { rounds = k; main = stands; channels = taken.channels }

-- ---- once a channel has ended

gives_over : (given : Settings) (text : List ℕ) (so_far : GivenSoFar) (r : PageHolder) → Gives given text so_far r
    → Gives given text so_far (record r { ended = true })
gives_over given text so_far r g = record {
  is_page_size = g.is_page_size;
  has_settings = g.has_settings;
  has_fed = g.has_fed;
  reads = g.reads;
  is_open = g.is_open;
  is_reading = g.is_reading;
  has_packet = g.has_packet;
  has_hello = g.has_hello;
  has_packets = g.has_packets;
  has_room = g.has_room;
}

given_over : (given : Settings) (text : Text) (c q next : KeptChannel) → c ≡ q
    → next ≡ record q { reader = record q.reader { ended = true } } → HasGiven given text c → HasGiven given (over text) next
given_over given text c q next here same has =
    let mine : HasGiven given text q = subst (λ (x : KeptChannel). HasGiven given text x) here has in
    subst (λ (x : KeptChannel). HasGiven given (over text) x) (sym same) (mine.0, gives_over given text.bytes mine.0 q.reader mine.1, refl)

over_each : (given : Settings) (texts : List Text) (channels : List KeptChannel) (j : ℕ) (q next : KeptChannel)
    → slice_get channels j ≡ Some q → next ≡ record q { reader = record q.reader { ended = true } }
    → AllZip (HasGiven given) texts channels → AllZip (HasGiven given) (set texts j (over (get_or texts j no_text))) (set channels j next)
over_each given [] [] j q next is same taken = absurd cc
over_each given [] (c ∷ channels) j q next is same taken = absurd taken
over_each given (text ∷ texts) [] j q next is same taken = absurd taken
over_each given (text ∷ texts) (c ∷ channels) zero q next is same taken = (given_over given text c q next (let e : c ≡ q = cc in e) same taken.0, taken.1)
over_each given (text ∷ texts) (c ∷ channels) (suc j) q next is same taken = (taken.0, over_each given texts channels j q next is same taken.1)

-- with channel j's reader ended, the readers have taken the bytes of the streams with it ended
pub channel_taken : (given : LoadSettings) (uuid : List ℕ) (texts : Texts) (s : KeptSources) (j : ℕ) (q next : KeptChannel) → slice_get s.channels j ≡ Some q
    → next ≡ record q { reader = record q.reader { ended = true } } → HaveTaken given uuid texts s
    → HaveTaken given uuid (record texts { channels = set texts.channels j (over (get_or texts.channels j no_text)) })
    (record s { channels = set s.channels j next })
channel_taken given uuid texts s j q next is same taken = record {
  rounds = taken.rounds;
  main = taken.main;
  channels = subst (λ (n : ℕ). AllZip (HasGiven (channel_of given uuid n))
      (set texts.channels j (over (get_or texts.channels j no_text))) (set s.channels j next))
      (sym (length-set texts.channels j (over (get_or texts.channels j no_text))))
      (over_each (channel_of given uuid (length texts.channels)) texts.channels s.channels j q next is same taken.channels);
}

-- ---- one channel

-- if each reader has taken its channel, the one of channel j has taken that channel
pub given_at : (given : Settings) (texts : List Text) (channels : List KeptChannel) (j : ℕ) (q : KeptChannel)
    → slice_get channels j ≡ Some q → AllZip (HasGiven given) texts channels
    → HasGiven given (get_or texts j no_text) q
given_at given [] [] j q is taken = absurd cc
given_at given [] (c ∷ channels) j q is taken = absurd taken
given_at given (text ∷ texts) [] j q is taken = absurd taken
given_at given (text ∷ texts) (c ∷ channels) zero q is taken = subst (λ (x : KeptChannel). HasGiven given text x) (let e : c ≡ q = cc in e) taken.0
given_at given (text ∷ texts) (c ∷ channels) (suc j) q is taken = given_at given texts channels j q is taken.1
