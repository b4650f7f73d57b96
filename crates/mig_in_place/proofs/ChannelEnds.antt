-- A load one of whose channels has ended.
use Rattle.std.proofs.Common.{ℕ, zero, suc, ◌≡◌, Bool, List, [], ◌∷◌, length, map, set, get_or, Option, Some, None, sym, ap, subst, ◌∙◌, arith}
use Rattle.std.specs.Prelude.{if◌then◌else◌, ◌⊎◌, zip, slice_get}
use Rattle.std.specs.List.{AllZip}
use Rattle.std.proofs.lemmas.List.{length-set, append-nil}
use Rattle.mig_mem.specs.PageSize.{IsPageSize}
use Rattle.mig_mem.specs.RamTable.{RamTable}
use Rattle.mig_mem.specs.Image.{Page, Image}
use Rattle.mig_mem.specs.Round.{with_rounds}
use Rattle.mig_stream.specs.PageRecord.{page_of}
use Rattle.mig_stream.specs.Reading.{StreamReading}
use Rattle.mig_packet.specs.Reading.{Settings}
use Rattle.mig_packet.specs.Paging.{GivenSoFar}
use Rattle.mig_load_types.specs.Settings.{for_table, channel_of}
use Rattle.mig_load_types.specs.declared.settings.LoadSettings.{LoadSettings}
use Rattle.mig_answer.specs.Texts.{Text, Texts, Readings, no_text, over}
use Rattle.mig_answer.specs.Growing.{GoesOn}
use Rattle.mig_answer.proofs.OneAnswer.{some_readings, same_main}
use Rattle.mig_answer.proofs.Growing.{ReadingsStay, readings_stay, pass_still, base_still}
use Rattle.mig_in_place.specs.Answer.{rounds_onto}
use Rattle.mig_in_place.specs.Sources.{KeptChannel, HoldsChannel, HoldsRound, WritesPages}
use Rattle.mig_in_place.specs.Session.{InPlaceLoad, IsRunning, Loading, Loads, records_come}
use Rattle.mig_in_place.proofs.ChannelComes.{all_set, all_there}
use Rattle.mig_in_place.proofs.MissingPages.{named_still}
use Rattle.mig_in_place.proofs.Waiting.{channel_goes, same_rounds_onto}

end_at : (given : Settings) (t : RamTable) (k : ℕ) (texts : List Text) (gave : List GivenSoFar) (kept : List KeptChannel) (j : ℕ)
    (c next : KeptChannel) → length gave ≡ length texts → slice_get kept j ≡ Some c
    → ((text : Text) (g : GivenSoFar) → HoldsChannel given t k text g c → HoldsChannel given t k (over text) g next)
    → AllZip (λ x y. HoldsChannel given t k x.0 x.1 y) (zip texts gave) kept
    → AllZip (λ x y. HoldsChannel given t k x.0 x.1 y) (zip (set texts j (over (get_or texts j no_text))) gave) (set kept j next)
end_at given t k [] [] [] j c next same is ends holds = tt
end_at given t k [] [] (x ∷ kept) j c next same is ends holds = absurd holds
end_at given t k [] (g ∷ gave) kept j c next same is ends holds = absurd (omega (arith, same))
end_at given t k (text ∷ texts) [] kept j c next same is ends holds = absurd (omega (arith, same))
end_at given t k (text ∷ texts) (g ∷ gave) [] j c next same is ends holds = absurd holds
end_at given t k (text ∷ texts) (g ∷ gave) (x ∷ kept) zero c next same is ends holds =
    (ends text g (subst (λ y. HoldsChannel given t k text g y) (let e : x ≡ c = cc in e) holds.0), holds.1)
end_at given t k (text ∷ texts) (g ∷ gave) (x ∷ kept) (suc j) c next same is ends holds =
    (holds.0, end_at given t k texts gave kept j c next (omega (arith, same)) is ends holds.1)

writes_at : (gave : List GivenSoFar) (kept : List KeptChannel) (j : ℕ) (c next : KeptChannel) → slice_get kept j ≡ Some c
    → next.block ≡ c.block → AllZip WritesPages gave kept → AllZip WritesPages gave (set kept j next)
writes_at [] [] j c next is same writes = tt
writes_at [] (x ∷ kept) j c next is same writes = absurd writes
writes_at (g ∷ gave) [] j c next is same writes = absurd writes
writes_at (g ∷ gave) (x ∷ kept) zero c next is same writes =
    let block : x.block ≡ next.block = ap (λ (y : KeptChannel). y.block) (let e : x ≡ c = cc in e) ∙ sym same in
    (subst (λ (o : Option ℕ). WritesPages g (record x { block = o })) block writes.0, writes.1)
writes_at (g ∷ gave) (x ∷ kept) (suc j) c next is same writes = (writes.0, writes_at gave kept j c next is same writes.1)

-- a running load one of whose channels has ended goes on with that stream ended and the same memory
pub channel_ended : (f : Loading) (memory : Image) (s : InPlaceLoad) (loads : Loads f memory s) (j : ℕ) (c next : KeptChannel)
    → slice_get s.sources.channels j ≡ Some c → next.block ≡ c.block
    → ((given : Settings) (t : RamTable) (k : ℕ) (text : Text) (g : GivenSoFar) → HoldsChannel given t k text g c → HoldsChannel given t k (over text) g next)
    → Loads (record f { texts = record f.texts { channels = set f.texts.channels j (over (get_or f.texts.channels j no_text)) } })
    memory (record s { sources = record s.sources { channels = set s.sources.channels j next } })
channel_ended f memory s loads j c next is same ends =
    let given : LoadSettings = for_table f.first.table f.given in
    let r : IsRunning given f.uuid f.first f.texts memory s = loads.is_running in
    let size : IsPageSize given.page_size = loads.is_table.has_page_size in
    let k : ℕ = s.rounds in
    let table : RamTable = f.first.table in
    let text : Text = get_or f.texts.channels j no_text in
    let texts : Texts = record f.texts { channels = set f.texts.channels j (over text) } in
    let goes : GoesOn text (over text) =
    record { more = []; has_bytes = sym (append-nil text.bytes); stays_ended = λ e. ap (λ (b : Bool). record { bytes = text.bytes; ended = b }) (sym e) } in
    let some = some_readings given f.uuid texts size in
    let now : Readings = some.0 in
    let stay : ReadingsStay r.readings now =
    readings_stay given f.uuid f.texts texts r.readings now size (channel_goes f.texts j over goes) r.are_readings some.1 in
    let main : now.main ≡ r.readings.main = same_main given f.texts.main now.main r.readings.main size some.1.has_main r.are_readings.has_main in
    let onto : rounds_onto f.first k now ≡ rounds_onto f.first k r.readings =
    ap (with_rounds f.first) (same_rounds_onto f.first k r.readings now stay r.have_passed) in
    let as_before : now.main.table ≡ r.readings.main.table = ap (λ (x : StreamReading). x.table) main in
    let come : records_come table.page_size k now s.sources.main ≡ records_come table.page_size k r.readings s.sources.main =
    ap (λ (x : StreamReading). if s.sources.main.is_whole then map (page_of table.page_size) (get_or x.rounds k []) else []) main in
    record {
      is_table = loads.is_table;
      is_image = loads.is_image;
      same_table = loads.same_table;
      is_running = record {
        readings = now;
        are_readings = some.1;
        is_own = subst (λ (o : Option RamTable). (o ≡ None) ⊎ (o ≡ Some table)) (sym as_before) r.is_own;
        have_passed = pass_still r.readings now k stay r.have_passed;
        main = r.main;
        gave = r.gave;
        as_many = r.as_many ∙ sym (length-set f.texts.channels j (over text));
        has_channel = (let e = length-set f.texts.channels j (over text) in let n = r.has_channel in omega (arith, e, n));
        channels = subst (λ (n : ℕ). AllZip (λ c kept. HoldsChannel (channel_of given f.uuid n) table k c.0 c.1 kept)
            (zip (set f.texts.channels j (over text)) r.gave) (set s.sources.channels j next))
            (sym (length-set f.texts.channels j (over text)))
            (end_at (channel_of given f.uuid (length f.texts.channels)) table k f.texts.channels r.gave s.sources.channels j c next r.as_many is
            (λ t g holds. ends (channel_of given f.uuid (length f.texts.channels)) table k t g holds) r.channels);
        has_base = r.has_base ∙ sym (base_still r.readings now k stay r.have_passed);
        has_named = named_still f.first k r.readings now s.named stay r.have_passed r.has_named;
        own = λ own.
            subst (λ (m : Image). HoldsRound table m k
            (record { records = records_come table.page_size k now s.sources.main; channels = r.gave }) s.round memory) (sym onto)
            (subst (λ (x : List Page). HoldsRound table (rounds_onto f.first k r.readings) k
            (record { records = x; channels = r.gave }) s.round memory) (sym come) (r.own (sym as_before ∙ own)));
        writes = λ own right. writes_at r.gave s.sources.channels j c next is same (r.writes (sym as_before ∙ own) right);
        unknown = λ nothing. r.unknown (sym as_before ∙ nothing);
        is_unwritten = λ nothing.
            let all = r.is_unwritten (sym as_before ∙ nothing) in
            all_set (λ kept. kept.block ≡ None) s.sources.channels j next (same ∙ all_there (λ kept. kept.block ≡ None) s.sources.channels j c is all) all;
        awaited = λ nothing reads. r.awaited (sym as_before ∙ nothing) (ap (λ (x : StreamReading). x.state) (sym main) ∙ reads);
      };
    }
