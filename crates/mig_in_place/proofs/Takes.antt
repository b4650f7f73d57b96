-- Which bytes a load in place takes.
use Rattle.std.proofs.Common.{ℕ, zero, suc, ◌≡◌, ◌≢◌, ◌<◌, Bool, List, [], ◌∷◌, length, map, get_or, Option, Some, None, refl, sym, ap, subst, ◌∙◌, arith}
use Rattle.std.specs.Prelude.{◌↔◌, IsTrue, slice_get}
use Rattle.std.specs.List.{AllZip}
use Rattle.std.proofs.lemmas.List.{get_or-map}
use Rattle.mig_mem.specs.PageSize.{IsPageSize}
use Rattle.mig_mem.specs.Image.{Image}
use Rattle.mig_packet.specs.declared.state.ChannelState.TheVariants as channel_state
use Rattle.mig_packet.specs.Reading.{Settings, ChannelReading, IsReading}
use Rattle.mig_packet.specs.Paging.{none_given}
use Rattle.mig_load_types.specs.Settings.{for_table, channel_of}
use Rattle.mig_load_types.specs.declared.settings.LoadSettings.{LoadSettings}
use Rattle.mig_answer.specs.declared.verdict.Verdict.TheVariants.{Running}
use Rattle.mig_answer.specs.declared.status.Status.{Status}
use Rattle.mig_answer.specs.declared.status.Status.TheVariants.{Pending}
use Rattle.mig_answer.specs.Status.{main_status, channel_status, is_pending}
use Rattle.mig_answer.specs.Texts.{Text, Readings, no_text}
use Rattle.mig_answer.proofs.OneAnswer.{same_readings}
use Rattle.mig_sources.specs.declared.source.Source.TheVariants as source
use Rattle.mig_in_place.specs.declared.main_stream.SizeList.{SizeList}
use Rattle.mig_in_place.specs.declared.main_stream.SizeList.TheVariants as list
use Rattle.mig_in_place.specs.Sources.{KeptChannel, HoldsChannel, TellsMainStatus, TellsTakes, TellsList, IsListAt}
use Rattle.mig_in_place.specs.Session.{InPlaceLoad, IsRunning, Loading, Loads, Stands, TakesBytes, IsHeldBack, status_of}
use Rattle.mig_in_place.proofs.ChannelComes.{pick, awaited_is, is_awaited, unknown_is}
use Rattle.mig_in_place.proofs.Waits.{pending_is}

-- a running load that stands as its readings say loads them
pub loads_of : (f : Loading) (memory : Image) (s : InPlaceLoad) → s.verdict ≡ Running → Stands f memory s → Loads f memory s
loads_of f memory s running stands = record {
  is_table = stands.is_table;
  is_image = stands.is_image;
  same_table = stands.same_table;
  is_running = stands.runs running;
}

-- the reading of a channel
reading_at : (given : Settings) (texts : List Text) (readings : List ChannelReading) (j : ℕ) (d : ChannelReading) → j < length texts
    → AllZip (λ (text : Text) (reading : ChannelReading). IsReading given text.bytes text.ended reading) texts readings
    → IsReading given (get_or texts j no_text).bytes (get_or texts j no_text).ended (get_or readings j d) × (j < length readings)
reading_at given [] readings j d lt are = absurd (omega (arith, lt))
reading_at given (t ∷ texts) [] j d lt are = absurd are
reading_at given (t ∷ texts) (r ∷ readings) zero d lt are = (are.0, omega arith)
reading_at given (t ∷ texts) (r ∷ readings) (suc j) d lt are =
    let rest = reading_at given texts readings j d (omega (arith, lt)) are.1 in (rest.0, (let below = rest.1 in omega (arith, below)))

module _ (f : Loading) (memory : Image) (s : InPlaceLoad) (loads : Loads f memory s) where
  abbrev given : LoadSettings
  given = for_table f.first.table f.given

  abbrev r : IsRunning given f.uuid f.first f.texts memory s
  r = loads.is_running

  abbrev size : IsPageSize given.page_size
  size = loads.is_table.has_page_size

  pub main_takes : (status : Status) (result : Bool) → TellsMainStatus s.sources.main status → result ≡ is_pending status
      → IsTrue result ↔ TakesBytes given f.uuid s.rounds f.texts source.Main
  main_takes status result tells e =
      let at : status ≡ main_status s.rounds r.readings.main = tells given s.rounds f.texts.main r.readings.main size r.main r.are_readings.has_main in (
        λ t. record { readings = r.readings; are_readings = r.are_readings; is_pending = sym at ∙ pending_is status (sym e ∙ t); is_free = λ none. none },
        λ takes.
            let same : r.readings ≡ takes.readings = same_readings given f.uuid f.texts r.readings takes.readings size r.are_readings takes.are_readings in
            e ∙ ap is_pending at ∙ ap (λ (x : Readings). is_pending (main_status s.rounds x.main)) same ∙ ap is_pending takes.is_pending,
      )

  pub channel_takes : (j : ℕ) (c : KeptChannel) (l : SizeList) (result : Bool) → slice_get s.sources.channels j ≡ Some c
      → TellsList s.sources.main l → TellsTakes l c result
      → IsTrue result ↔ TakesBytes given f.uuid s.rounds f.texts (source.Channel j)
  channel_takes j c l result is lists tells =
      let k : ℕ = s.rounds in
      let channel_given : Settings = channel_of given f.uuid (length f.texts.channels) in
      let picked = pick (HoldsChannel channel_given f.first.table k) f.texts.channels r.gave s.sources.channels j
      (none_given channel_given) c r.as_many r.channels is in
      let below : j < length f.texts.channels = (let many = r.as_many in let lt = picked.1 in omega (arith, many, lt)) in
      let d : ChannelReading = record { hello = None; rounds = []; state = channel_state.Reading } in
      let at = reading_at channel_given f.texts.channels r.readings.channels j d below r.are_readings.has_channels in
      let reading : ChannelReading = get_or r.readings.channels j d in
      let says = tells channel_given f.first.table k (get_or f.texts.channels j no_text)
      (get_or r.gave j (none_given channel_given)) reading size picked.0 at.0 in
      let list_at : IsListAt l r.readings.main = lists given k f.texts.main r.readings.main size r.main.stands r.are_readings.has_main in
      let status : status_of k r.readings (source.Channel j) ≡ channel_status k reading = get_or-map (channel_status k) r.readings.channels j d Pending at.1 in
      let hello : get_or (map (λ (x : ChannelReading). x.hello) r.readings.channels) j None ≡ reading.hello =
      get_or-map (λ (x : ChannelReading). x.hello) r.readings.channels j d None at.1 in (
        λ t. record {
          readings = r.readings;
          are_readings = r.are_readings;
          is_pending = status ∙ (says.0 t).0;
          is_free = λ held. held.2 (hello ∙ (says.0 t).1 (awaited_is l r.readings.main list_at held.0 held.1));
        },
        λ takes.
            let same : takes.readings ≡ r.readings = same_readings given f.uuid f.texts takes.readings r.readings size takes.are_readings r.are_readings in
            let pending : status_of k r.readings (source.Channel j) ≡ Pending =
            ap (λ (x : Readings). status_of k x (source.Channel j)) (sym same) ∙ takes.is_pending in
            let free : IsHeldBack r.readings (source.Channel j) → ⊥ = subst (λ (x : Readings). IsHeldBack x (source.Channel j) → ⊥) same takes.is_free in
            says.1 (
              sym status ∙ pending,
              λ awaited. no_hello reading.hello (λ some. free (
                unknown_is l r.readings.main list_at (λ complete. absurd (let clash : list.Awaited ≡ list.Complete = sym awaited ∙ complete in cc)),
                is_awaited l r.readings.main list_at awaited,
                λ none. some (sym hello ∙ none),
              )),
            ),
      )
    where
      no_hello : (o : Option ℕ) → ((o ≢ None) → ⊥) → o ≡ None
      no_hello None never = refl
      no_hello (Some id) never = absurd (never (λ e. absurd cc))
