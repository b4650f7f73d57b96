-- A load one of whose channels goes on.
use Rattle.std.proofs.Common.{ℕ, zero, suc, ◌≡◌, ◌≢◌, ◌<◌, true, false, List, [], ◌∷◌, ◌++◌, length, map, take, drop, set, get_or, Option, Some, None, refl}
use Rattle.std.proofs.Common.{sym, ap, subst, ◌∙◌, inl, inr, arith}
use Rattle.std.specs.Prelude.{if◌then◌else◌, ◌⊎◌, IsTrue, IsFalse, zip, slice_get}
use Rattle.std.specs.List.{AllZip, All}
use Rattle.std.proofs.lemmas.Bool.{cases_Bool}
use Rattle.std.proofs.lemmas.List.{length-set}
use Rattle.std.proofs.lemmas.List.Elements.{All-head, All-tail, All-nil, All-cons}
use Rattle.mig_mem.specs.PageSize.{IsPageSize}
use Rattle.mig_mem.specs.RamTable.{RamTable}
use Rattle.mig_mem.specs.Image.{Page, Image}
use Rattle.mig_mem.specs.Round.{with_rounds}
use Rattle.mig_stream.specs.declared.item.StreamState.TheVariants as stream_state
use Rattle.mig_stream.specs.PageRecord.{page_of}
use Rattle.mig_stream.specs.Reading.{StreamReading}
use Rattle.mig_packet.specs.Reading.{Settings}
use Rattle.mig_packet.specs.Paging.{GivenSoFar, none_given}
use Rattle.mig_load_types.specs.Settings.{for_table, channel_of}
use Rattle.mig_load_types.specs.declared.settings.LoadSettings.{LoadSettings}
use Rattle.mig_answer.specs.Texts.{Text, Texts, Readings, no_text, with_piece}
use Rattle.mig_answer.specs.Growing.{GoesOn}
use Rattle.mig_answer.proofs.OneAnswer.{some_readings, same_main}
use Rattle.mig_answer.proofs.Growing.{ReadingsStay, readings_stay, pass_still, base_still}
use Rattle.mig_sources.specs.declared.source.Source.TheVariants as source
use Rattle.mig_sources.proofs.Zips.{zip_at, zip_set}
use Rattle.mig_in_place.specs.declared.main_stream.SizeList.{SizeList}
use Rattle.mig_in_place.specs.declared.main_stream.SizeList.TheVariants as list
use Rattle.mig_in_place.specs.Answer.{rounds_onto}
use Rattle.mig_in_place.specs.Round.{KeptRound, Keeps}
use Rattle.mig_in_place.specs.Sources.{KeptChannel, HoldsChannel, HoldsRound, HoldsAt, AtChannel, CameSoFar, came_with, HasHelloAlone, WritesPages, TellsList}
use Rattle.mig_in_place.specs.Sources.{IsListAt, HasRead, HasReadSome}
use Rattle.mig_in_place.specs.Session.{InPlaceLoad, IsRunning, Loading, Loads, LacksWithin, with_bytes, records_come}
use Rattle.mig_in_place.proofs.Told.{lacks_memory, lacks_same}
use Rattle.mig_in_place.proofs.Keeping.{same_table}
use Rattle.mig_in_place.proofs.MissingPages.{named_still}
use Rattle.mig_in_place.proofs.Waiting.{channel_goes, same_rounds_onto}

-- ---- one of a list

split_at : {X : Type 0} (xs : List X) (j : ℕ) (d : X) → j < length xs → take j xs ++ get_or xs j d ∷ drop (suc j) xs ≡ xs
split_at [] j d lt = absurd (omega (arith, lt))
split_at (x ∷ xs) zero d lt = refl
split_at {X} (x ∷ xs) (suc j) d lt = ap (λ (l : List X). x ∷ l) (split_at xs j d (omega (arith, lt)))

set_at : {X : Type 0} (xs : List X) (j : ℕ) (y : X) → j < length xs → take j xs ++ y ∷ drop (suc j) xs ≡ set xs j y
set_at [] j y lt = absurd (omega (arith, lt))
set_at (x ∷ xs) zero y lt = refl
set_at {X} (x ∷ xs) (suc j) y lt = ap (λ (l : List X). x ∷ l) (set_at xs j y (omega (arith, lt)))

-- what holds of all elements of a list holds of the one at each place within it
pub all_at : {X : Type 0} (P : X → Type 0) (xs : List X) (j : ℕ) (d : X) → j < length xs → All P xs → P (get_or xs j d)
all_at P [] j d lt all = absurd (omega (arith, lt))
all_at P (x ∷ xs) zero d lt all = All-head P x xs all
all_at P (x ∷ xs) (suc j) d lt all = all_at P xs j d (omega (arith, lt)) (All-tail P x xs all)

-- what holds of each element still does if one is replaced by another of which it holds
pub all_set : {X : Type 0} (P : X → Type 0) (xs : List X) (j : ℕ) (y : X) → P y → All P xs → All P (set xs j y)
all_set P [] j y here all = All-nil P
all_set P (x ∷ xs) zero y here all = All-cons P y xs here (All-tail P x xs all)
all_set P (x ∷ xs) (suc j) y here all = All-cons P x (set xs j y) (All-head P x xs all) (all_set P xs j y here (All-tail P x xs all))

-- what holds of each element holds of the one at a number
pub all_there : {X : Type 0} (P : X → Type 0) (xs : List X) (j : ℕ) (x : X) → slice_get xs j ≡ Some x → All P xs → P x
all_there P [] j x is all = absurd cc
all_there P (y ∷ xs) zero x is all = subst P (let same : y ≡ x = cc in same) (All-head P y xs all)
all_there P (y ∷ xs) (suc j) x is all = all_there P xs j x is (All-tail P y xs all)

-- channels beside what they gave
pub pick : {K : Type 0} (R : Text → GivenSoFar → K
    → Type 0) (texts : List Text) (gave : List GivenSoFar) (kept : List K) (j : ℕ) (d : GivenSoFar) (c : K) → length gave ≡ length texts
    → AllZip (λ x y. R x.0 x.1 y) (zip texts gave) kept → slice_get kept j ≡ Some c → R (get_or texts j no_text) (get_or gave j d) c × (j < length gave)
pick R [] [] [] j d c same holds is = absurd cc
pick R [] [] (k ∷ kept) j d c same holds is = absurd holds
pick R [] (g ∷ gave) kept j d c same holds is = absurd (omega (arith, same))
pick R (t ∷ texts) [] kept j d c same holds is = absurd (omega (arith, same))
pick R (t ∷ texts) (g ∷ gave) [] j d c same holds is = absurd holds
pick R (t ∷ texts) (g ∷ gave) (k ∷ kept) zero d c same holds is = (subst (λ x. R t g x) (let e : k ≡ c = cc in e) holds.0, omega arith)
pick R (t ∷ texts) (g ∷ gave) (k ∷ kept) (suc j) d c same holds is =
    let rest = pick R texts gave kept j d c (omega (arith, same)) holds.1 is in (rest.0, (let lt = rest.1 in omega (arith, lt)))

put : {K : Type 0} (R : Text → GivenSoFar → K
    → Type 0) (texts : List Text) (gave : List GivenSoFar) (kept : List K) (j : ℕ) (t : Text) (g : GivenSoFar) (c : K) → length gave ≡ length texts
    → AllZip (λ x y. R x.0 x.1 y) (zip texts gave) kept → R t g c → AllZip (λ x y. R x.0 x.1 y) (zip (set texts j t) (set gave j g)) (set kept j c)
put R [] [] [] j t g c same holds here = tt
put R [] [] (k ∷ kept) j t g c same holds here = absurd holds
put R [] (h ∷ gave) kept j t g c same holds here = absurd (omega (arith, same))
put R (u ∷ texts) [] kept j t g c same holds here = absurd (omega (arith, same))
put R (u ∷ texts) (h ∷ gave) [] j t g c same holds here = absurd holds
put R (u ∷ texts) (h ∷ gave) (k ∷ kept) zero t g c same holds here = (here, holds.1)
put R (u ∷ texts) (h ∷ gave) (k ∷ kept) (suc j) t g c same holds here = (holds.0, put R texts gave kept j t g c (omega (arith, same)) holds.1 here)

-- ---- how the size list stands

complete_is : (l : SizeList) (reading : StreamReading) → IsListAt l reading → reading.table ≢ None → l ≡ list.Complete
complete_is list.Complete reading at some = refl
complete_is list.Awaited reading at some = absurd (some at.0)
complete_is list.Lost reading at some = absurd (some at.0)

-- unless the size list is complete, the main stream's table isn't known
pub unknown_is : (l : SizeList) (reading : StreamReading) → IsListAt l reading → l ≢ list.Complete → reading.table ≡ None
unknown_is list.Complete reading at other = absurd (other refl)
unknown_is list.Awaited reading at other = at.0
unknown_is list.Lost reading at other = at.0

not_complete : (l : SizeList) (reading : StreamReading) → IsListAt l reading → reading.table ≡ None → l ≢ list.Complete
not_complete list.Complete reading at none = absurd (at none)
not_complete list.Awaited reading at none = λ e. absurd cc
not_complete list.Lost reading at none = λ e. absurd cc

-- while a main stream without a table is still read, its size list is awaited
pub awaited_is : (l : SizeList) (reading : StreamReading) → IsListAt l reading → reading.table ≡ None → reading.state ≡ stream_state.Reading → l ≡ list.Awaited
awaited_is list.Complete reading at none reads = absurd (at none)
awaited_is list.Awaited reading at none reads = refl
awaited_is list.Lost reading at none reads = absurd (at.1 reads)

-- while the size list is awaited, the main stream is still read
pub is_awaited : (l : SizeList) (reading : StreamReading) → IsListAt l reading → l ≡ list.Awaited → reading.state ≡ stream_state.Reading
is_awaited list.Complete reading at e = absurd cc
is_awaited list.Awaited reading at e = at.1
is_awaited list.Lost reading at e = absurd cc

-- ---- a channel

module _ (f : Loading) (memory : Image) (s : InPlaceLoad) (loads : Loads f memory s) (j : ℕ) (c : KeptChannel) (is : slice_get
    s.sources.channels j ≡ Some c) (l : SizeList)
    (tells : TellsList s.sources.main l) (same : memory.table ≡ f.first.table) where
  abbrev given : LoadSettings
  given = for_table f.first.table f.given

  abbrev r : IsRunning given f.uuid f.first f.texts memory s
  r = loads.is_running

  abbrev size : IsPageSize given.page_size
  size = loads.is_table.has_page_size

  abbrev k : ℕ
  k = s.rounds

  abbrev table : RamTable
  table = f.first.table

  abbrev channel_given : Settings
  channel_given = channel_of given f.uuid (length f.texts.channels)

  abbrev none : GivenSoFar
  none = none_given channel_given

  abbrev text : Text
  text = get_or f.texts.channels j no_text

  abbrev pub gave : GivenSoFar
  gave = get_or r.gave j none

  abbrev pub at : AtChannel
  at = record {
    given = channel_given;
    kept = rounds_onto f.first k r.readings;
    k = k;
    records = records_come table.page_size k r.readings s.sources.main;
    before = take j r.gave;
    after = drop (suc j) r.gave;
  }

  list_at : IsListAt l r.readings.main
  list_at = tells given k f.texts.main r.readings.main size r.main.stands r.are_readings.has_main

  picked : HoldsChannel channel_given table k text gave c × (j < length r.gave)
  picked = pick (HoldsChannel channel_given table k) f.texts.channels r.gave s.sources.channels j none c r.as_many r.channels is

  unknown_none : l ≢ list.Complete → r.readings.main.table ≡ None
  unknown_none other = unknown_is l r.readings.main list_at other

  known_some : l ≡ list.Complete → r.readings.main.table ≡ Some table
  known_some complete = elim r.is_own [
    | inr own ↦ own
    | inl nothing ↦ absurd (not_complete l r.readings.main list_at nothing complete)
  ]

  seen : s.round.arrivals.seen.table ≡ table
  seen = elim r.is_own [
    | inr own ↦ same_table table (r.own own).arrivals s.round.arrivals (r.own own).keeps.has_come
    | inl nothing ↦ same_table table [] s.round.arrivals (r.unknown nothing).2.has_come
  ]

  pub holds_at : HoldsAt at l text gave c s.round memory
  holds_at = record {
    is_page_size = size;
    has_page_size = ap (λ (t : RamTable). t.page_size) (sym same);
    same_table = seen ∙ sym same;
    holds = subst (λ (t : RamTable). HoldsChannel channel_given t k text gave c) (sym same) picked.0;
    round = λ complete.
        let came : CameSoFar = record { records = records_come table.page_size k r.readings s.sources.main; channels = r.gave } in
        let split : take j r.gave ++ gave ∷ drop (suc j) r.gave ≡ r.gave = split_at r.gave j none picked.1 in
        subst (λ (t : RamTable). HoldsRound t (rounds_onto f.first k r.readings) k (came_with at gave) s.round memory) (sym same)
        (subst (λ (g : List GivenSoFar). HoldsRound table (rounds_onto f.first k r.readings) k
        (record came { channels = g }) s.round memory) (sym split) (r.own (known_some complete)));
    is_alone = λ awaited.
        let nothing = unknown_none (λ complete. absurd (let clash : list.Awaited ≡ list.Complete = sym awaited ∙ complete in cc)) in
        all_at HasHelloAlone r.gave j none picked.1 (r.awaited nothing (is_awaited l r.readings.main list_at awaited));
    is_unwritten = λ other. all_there (λ kept. kept.block ≡ None) s.sources.channels j c is (r.is_unwritten (unknown_none other));
    writes = λ complete right. zip_at WritesPages r.gave s.sources.channels j none c (r.writes (known_some complete) right) is;
  }

  -- with some bytes more
  pub channel_goes_on : (bytes : List ℕ) (more : GivenSoFar) (next : KeptChannel) (round : KeptRound) (changed : Image)
      → IsFalse c.reader.ended → changed.table ≡ memory.table
      → (l ≢ list.Complete → (round ≡ s.round) × (changed ≡ memory)) → (IsTrue s.round.has_misplaced → IsTrue round.has_misplaced)
      → HoldsAt at l (with_piece bytes text) more next round changed
      → Loads (with_bytes (source.Channel j) bytes f) changed
      (record s { sources = record s.sources { channels = set s.sources.channels j next }; round = round })
  channel_goes_on bytes more next round changed open_ after_table unknown misplaced holds =
      let new : Text = with_piece bytes text in
      let texts : Texts = record f.texts { channels = set f.texts.channels j new } in
      let goes : GoesOn text new =
      record {
        more = bytes;
        has_bytes = refl;
        stays_ended = λ over. absurd (let ended = picked.0.has_ended in let clash : false ≡ true = sym open_ ∙ ended ∙ over in cc);
      } in
      let some = some_readings given f.uuid texts size in
      let now : Readings = some.0 in
      let stay : ReadingsStay r.readings now =
      readings_stay given f.uuid f.texts texts r.readings now size (channel_goes f.texts j (with_piece bytes) goes) r.are_readings some.1 in
      let main : now.main ≡ r.readings.main = same_main given f.texts.main now.main r.readings.main size some.1.has_main r.are_readings.has_main in
      let onto : rounds_onto f.first k now ≡ rounds_onto f.first k r.readings =
      ap (with_rounds f.first) (same_rounds_onto f.first k r.readings now stay r.have_passed) in
      let to_table : changed.table ≡ table = after_table ∙ same in
      let as_before : now.main.table ≡ r.readings.main.table = ap (λ (x : StreamReading). x.table) main in
      let complete : now.main.table ≡ Some table → l ≡ list.Complete = λ own.
      complete_is l r.readings.main list_at (λ nothing. absurd (let clash : None ≡ Some table = sym nothing ∙ sym as_before ∙ own in cc)) in
      let come : records_come table.page_size k now s.sources.main ≡ records_come table.page_size k r.readings s.sources.main =
      ap (λ (x : StreamReading). if s.sources.main.is_whole then map (page_of table.page_size) (get_or x.rounds k []) else []) main in
      record {
        is_table = loads.is_table;
        is_image = loads.is_image;
        same_table = loads.same_table;
        is_running = record {
          readings = now;
          are_readings = some.1;
          is_own = subst (λ (o : Option RamTable). (o ≡ None) ⊎ (o ≡ Some table)) (sym as_before) r.is_own;
          have_passed = pass_still r.readings now k stay r.have_passed;
          main = r.main;
          gave = set r.gave j more;
          as_many = length-set r.gave j more ∙ r.as_many ∙ sym (length-set f.texts.channels j new);
          has_channel = (let e = length-set f.texts.channels j new in let n = r.has_channel in omega (arith, e, n));
          channels = subst (λ (n : ℕ). AllZip (λ c kept. HoldsChannel (channel_of given f.uuid n) table k c.0 c.1 kept)
              (zip (set f.texts.channels j new) (set r.gave j more)) (set s.sources.channels j next))
              (sym (length-set f.texts.channels j new))
              (put (HoldsChannel channel_given table k) f.texts.channels r.gave s.sources.channels j new more next r.as_many r.channels
              (subst (λ (t : RamTable). HoldsChannel channel_given t k new more next) to_table holds.holds));
          has_base = r.has_base ∙ sym (base_still r.readings now k stay r.have_passed);
          has_named = named_still f.first k r.readings now s.named stay r.have_passed r.has_named;
          own = λ own.
              let records : List Page = records_come table.page_size k r.readings s.sources.main in
              let here : HoldsRound table (rounds_onto f.first k r.readings) k
              (record { records = records; channels = take j r.gave ++ more ∷ drop (suc j) r.gave }) round changed =
              subst (λ (t : RamTable). HoldsRound t (rounds_onto f.first k r.readings) k
              (record { records = records; channels = take j r.gave ++ more ∷ drop (suc j) r.gave }) round changed) to_table (holds.round (complete own)) in
              subst (λ (m : Image). HoldsRound table m k
              (record { records = records_come table.page_size k now s.sources.main; channels = set r.gave j more }) round changed) (sym onto)
              (subst (λ (x : List Page). HoldsRound table (rounds_onto f.first k r.readings) k
              (record { records = x; channels = set r.gave j more }) round changed) (sym come)
              (subst (λ (g : List GivenSoFar). HoldsRound table (rounds_onto f.first k r.readings) k
              (record { records = records; channels = g }) round changed) (set_at r.gave j more picked.1) here));
          writes = λ own right.
              zip_set WritesPages r.gave s.sources.channels j more next (r.writes (sym as_before ∙ own) (was_right right)) (holds.writes (complete own) right);
          unknown = λ nothing.
              let other = not_complete l r.readings.main list_at (sym as_before ∙ nothing) in
              let before = r.unknown (sym as_before ∙ nothing) in (
                (unknown other).1 ∙ before.0,
                before.1,
                subst (λ (x : KeptRound). Keeps table [] x) (sym (unknown other).0) before.2,
              );
          is_unwritten = λ nothing.
              all_set (λ kept. kept.block ≡ None) s.sources.channels j next
              (holds.is_unwritten (not_complete l r.readings.main list_at (sym as_before ∙ nothing))) (r.is_unwritten (sym as_before ∙ nothing));
          awaited = λ nothing reads.
              let before : r.readings.main.state ≡ stream_state.Reading = ap (λ (x : StreamReading). x.state) (sym main) ∙ reads in
              all_set HasHelloAlone r.gave j more (holds.is_alone
              (awaited_is l r.readings.main list_at (sym as_before ∙ nothing) before)) (r.awaited (sym as_before ∙ nothing) before);
        };
      }
    where
      was_right : IsFalse round.has_misplaced → IsFalse s.round.has_misplaced
      was_right right = elim (cases_Bool s.round.has_misplaced) [
        | inr f ↦ f
        | inl t ↦ absurd (let wrong = misplaced t in let clash : true ≡ false = sym wrong ∙ right in cc)
      ]

  pub channel_reads : (piece : List ℕ) (n : ℕ) (next : KeptChannel) (round : KeptRound) (changed : Image) → IsFalse c.reader.ended
      → changed.table ≡ memory.table
      → (l ≢ list.Complete → c.block ≡ None → (round ≡ s.round) × (changed ≡ memory) × (next.block ≡ None))
      → (IsTrue s.round.has_misplaced → IsTrue round.has_misplaced)
      → HasRead l piece n c s.round memory next round changed
      → Loads (with_bytes (source.Channel j) (take n piece) f) changed
      (record s { sources = record s.sources { channels = set s.sources.channels j next }; round = round })
  channel_reads piece n next round changed open_ same_now unknown misplaced has =
      let here = has at text gave holds_at in
      channel_goes_on (take n piece) here.0 next round changed open_ same_now
      (λ other. (let same_all = unknown other (holds_at.is_unwritten other) in (same_all.0, same_all.1))) misplaced here.1

  -- an allocation was refused
  pub channel_reads_some : (piece : List ℕ) (taken : ℕ) (next : KeptChannel) (round : KeptRound) (changed : Image)
      → IsFalse c.reader.ended → changed.table ≡ memory.table
      → (l ≢ list.Complete → c.block ≡ None → (round ≡ s.round) × (changed ≡ memory) × (next.block ≡ None))
      → (IsTrue s.round.has_misplaced → IsTrue round.has_misplaced)
      → HasReadSome l piece taken c s.round memory round changed
      → LacksWithin (source.Channel j) piece taken f changed
      (record s { sources = record s.sources { channels = set s.sources.channels j next }; round = round })
  channel_reads_some piece taken next round changed open_ same_now unknown misplaced has =
      let here = has at text gave holds_at in
      let bytes : List ℕ = take here.0 piece in
      let stood : InPlaceLoad = record s { sources = record s.sources { channels = set s.sources.channels j here.1 }; round = round } in
      let loads_some : Loads (with_bytes (source.Channel j) bytes f) changed stood =
      channel_goes_on bytes here.2 here.1 round changed open_ same_now
      (λ other. (let same_all = unknown other (holds_at.is_unwritten other) in (same_all.0, same_all.1))) misplaced here.4 in (
        here.0,
        here.3,
        lacks_same (with_bytes (source.Channel j) bytes f) changed stood
            (record s { sources = record s.sources { channels = set s.sources.channels j next }; round = round }) refl refl
            (lacks_memory (with_bytes (source.Channel j) bytes f) changed stood loads_some),
      )
