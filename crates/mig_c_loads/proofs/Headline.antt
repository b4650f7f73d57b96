-- What was copied out of a sender of C is loaded into blocks of C.
use Rattle.std.proofs.Common.{ℕ, zero, suc, ◌≡◌, ◌+◌, ◌<◌, ◌≤◌, ◌^◌, Bool, true, false, List, [], ◌∷◌, ◌++◌, length, map, replicate, Option, None, Some, IfSome}
use Rattle.std.proofs.Common.{refl, sym, ap, subst, ◌∙◌, append_assoc, inl, inr, arith}
use Rattle.std.specs.List.{range_with_len}
use Rattle.std.proofs.lemmas.Bool.{cases_lt}
use Rattle.std.proofs.lemmas.List.FromFn.{length-map-range_with_len}
use Rattle.std.proofs.lemmas.List.Sorted.{IsPermutation-refl}
use Rattle.mig_mem.specs.RamTable.{RamTable, IsTable}
use Rattle.mig_mem.specs.Image.{Image, IsImage, Page}
use Rattle.mig_mem.specs.Lent.{lent_image}
use Rattle.mig_mem.proofs.Lents.{lent_is_image}
use Rattle.mig_stream.specs.declared.item.Frame.TheVariants.{Ram, Machine}
use Rattle.mig_stream.specs.Format.{end_byte, most_name_bytes}
use Rattle.mig_stream.specs.Written.{RoundPart, FlushPart, single, main}
use Rattle.mig_stream.specs.MachineWritten.{machine_written}
use Rattle.mig_stream.proofs.Configured.{written_is_closed}
use Rattle.mig_send.specs.DealtRounds.{DealtRound, IsSending, channel_text, channel_texts}
use Rattle.mig_send.specs.MultiSending.{Drained}
use Rattle.mig_load_types.specs.declared.settings.LoadSettings.{LoadSettings}
use Rattle.mig_single_load.specs.InPlace.{HasRecordsOnto, HasSectionsOnto, HasVerdictOnto}
use Rattle.mig_single_load.specs.MachineSent.{IsMachineSent}
use Rattle.mig_single_load.proofs.LoadsInPlace.{sent_in_place}
use Rattle.mig_single_load.proofs.MachineSent.{machine_in_place, machine_read, read_by_sections}
use Rattle.mig_single_load.proofs.Onto.{sent_sections, sent_verdict}
use Rattle.mig_answer.specs.declared.verdict.Verdict.{Verdict}
use Rattle.mig_answer.specs.declared.verdict.Verdict.TheVariants.{Done}
use Rattle.mig_answer.specs.Texts.{Texts, Readings}
use Rattle.mig_answer.proofs.OneAnswer.{same_readings}
use Rattle.mig_answer.specs.Sent.{IsSentInAnyOrder, IsMachineSentInAnyOrder}
use Rattle.mig_answer.proofs.SentWithin.{none_lets}
use Rattle.mig_load_types.specs.Settings.{for_table}
use Rattle.mig_in_place.specs.Answer.{rounds_onto, IsInPlaceAnswer}
use Rattle.mig_in_place.specs.Law.{taken_texts}
use Rattle.mig_in_place.specs.WholeRounds.{HasRoundsAlone}
use Rattle.mig_in_place.proofs.Exact.{exact_law}
use Rattle.mig_in_place.proofs.Sendings.{sent_law, machine_sent_law}
use Rattle.mig_c_calls.specs.Named.{IsLongName}
use Rattle.mig_c_calls.specs.declared.send.GuestSend.{GuestSend}
use Rattle.mig_c_calls.specs.declared.send.GuestSend.TheVariants.{One, Several}
use Rattle.mig_c_calls.specs.declared.sending.MultiState.{MultiState}
use Rattle.mig_c_calls.specs.declared.sending.MultiState.TheVariants.{Idle, Round, Over}
use Rattle.mig_c_calls.specs.Multi.{MultiSetting, AreEnded, all_channels, SendsTo, IsOver, ended_main, with_plain}
use Rattle.mig_c_loads.specs.Found.{seen_so_far, seen_of_verdict}
use Rattle.mig_c_loads.specs.InPlace.{settings_into}
use Rattle.mig_c_loads.specs.ByRounds.{opened}
use Rattle.mig_c_loads.specs.Headline.{DrainedIsLoaded, DrainedMachineStreamIsLoaded, DrainedIsLoadedBySections, DrainedMachineStreamIsLoadedBySections}
use Rattle.mig_c_loads.specs.Headline.{ended_stream, DrainedChannelsAreLoaded, DrainedChannelsAreLoadedByRounds, DrainedMachineIsLoaded, IsAllOf, channels_out}

-- ---- one stream

-- all bytes of an ended sender, fed to a load into blocks of the same table, leave its rounds on
-- top of what the blocks held, and C sees DONE
pub one_law : DrainedIsLoaded
one_law = λ table rounds given is_table are whole before after load ended found fit loads tells.
    let settings : LoadSettings = settings_into table Ram None in
    let first : Image = lent_image table before in
    let memory : Image = lent_image table after in
    let told = tells.loads memory settings first given ended loads in
    let records : HasRecordsOnto settings first (single table rounds) memory load.rounds =
    subst (λ (text : List ℕ). HasRecordsOnto settings first text memory load.rounds) whole loads.stands.has_records in
    let verdict : HasVerdictOnto settings first (single table rounds) told.0 =
    subst (λ (text : List ℕ). HasVerdictOnto settings first text told.0) whole told.1 in
    let law = sent_in_place (2 ^ 40) first rounds memory load.rounds told.0 is_table (lent_is_image table before fit) is_table.has_room are records verdict in
    (told.2 ∙ ap (seen_so_far ended) law.2, law.1, law.0)

-- ---- one stream, with a machine's name or left open

short_name : (name : Option (List ℕ)) → (IsLongName name → ⊥) → IfSome name (λ bytes. length bytes ≤ most_name_bytes)
short_name None short = tt
short_name (Some name) short = elim (cases_lt most_name_bytes (length name)) [
  | inl long ↦ absurd (short long)
  | inr le ↦ le
]

-- what follows the footer of RAM's END
stream_goes_on : (left_open : Bool) (name : Option (List ℕ)) (table : RamTable) (rounds : List (List Page)) (behind : List ℕ)
    → (rest : List ℕ) × (ended_stream left_open name table rounds ++ behind ≡ machine_written name table (map RoundPart rounds) ++ rest)
stream_goes_on true name table rounds behind = (behind, refl)
stream_goes_on false (Some name) table rounds behind =
    (end_byte ∷ behind, append_assoc (machine_written (Some name) table (map RoundPart rounds)) (end_byte ∷ []) behind)
stream_goes_on false None table rounds behind = (
  end_byte ∷ behind,
  ap (λ (l : List ℕ). l ++ behind) (sym (written_is_closed table (map RoundPart rounds)))
      ∙ append_assoc (machine_written None table (map RoundPart rounds)) (end_byte ∷ []) behind,
)

-- all bytes of a sender with a machine's name, or left open, whatever follows them, leave its
-- rounds on top of what the blocks held, and C sees DONE
pub machine_stream_law : DrainedMachineStreamIsLoaded
machine_stream_law = λ table name left_open rounds given behind is_table are short whole before after load ended found fit loads tells.
    let settings : LoadSettings = settings_into table Machine None in
    let first : Image = lent_image table before in
    let memory : Image = lent_image table after in
    let told = tells.loads memory settings first (given ++ behind) ended loads in
    let on = stream_goes_on left_open name table rounds behind in
    let sent : IsMachineSent (2 ^ 40) table rounds (given ++ behind) = record {
      is_table = is_table;
      has_limit = is_table.has_room;
      are_rounds = are;
      name = name;
      has_name = short_name name short;
      behind = on.0;
      is_text = ap (λ (l : List ℕ). l ++ behind) whole ∙ on.1;
    } in
    let law = machine_in_place settings first rounds (given ++ behind) memory load.rounds told.0
    (lent_is_image table before fit) refl tt sent loads.stands.has_records told.1 in
    (told.2 ∙ ap (seen_so_far ended) law.2, law.1, law.0)

-- ---- by whole sections

pub sections_law : DrainedIsLoadedBySections
sections_law = λ table rounds given is_table are whole before after load ended found fit loads tells.
    let settings : LoadSettings = settings_into table Ram None in
    let first : Image = lent_image table before in
    let memory : Image = lent_image table after in
    let told = tells memory settings first given ended loads in
    let onto : HasSectionsOnto settings first (single table rounds) memory load.sections =
    subst (λ (text : List ℕ). HasSectionsOnto settings first text memory load.sections) whole loads.has_sections.in_memory in
    let verdict : HasVerdictOnto settings first (single table rounds) told.0 =
    subst (λ (text : List ℕ). HasVerdictOnto settings first text told.0) whole told.1 in
    let both = sent_sections (2 ^ 40) first rounds memory load.sections is_table is_table.has_room are onto in
    let ok = sent_verdict (2 ^ 40) first rounds told.0 is_table is_table.has_room are verdict in
    (told.2 ∙ ap (seen_so_far ended) ok, both.1, both.0)

pub machine_sections_law : DrainedMachineStreamIsLoadedBySections
machine_sections_law = λ table name left_open rounds given behind is_table are short whole before after load ended found fit loads tells.
    let settings : LoadSettings = settings_into table Machine None in
    let first : Image = lent_image table before in
    let memory : Image = lent_image table after in
    let told = tells memory settings first (given ++ behind) ended loads in
    let on = stream_goes_on left_open name table rounds behind in
    let sent : IsMachineSent (2 ^ 40) table rounds (given ++ behind) = record {
      is_table = is_table;
      has_limit = is_table.has_room;
      are_rounds = are;
      name = name;
      has_name = short_name name short;
      behind = on.0;
      is_text = ap (λ (l : List ℕ). l ++ behind) whole ∙ on.1;
    } in
    let law = read_by_sections settings first rounds (given ++ behind) memory load.sections told.0 is_table is_table.has_room are
    (machine_read (for_table table settings) table rounds (given ++ behind) refl tt refl sent) loads.has_sections.in_memory told.1 in
    (told.2 ∙ ap (seen_so_far ended) law.2, law.1, law.0)

-- ---- the streams of a sender on several channels

same_map : (f g : ℕ → List ℕ) (a n : ℕ) → ((i : ℕ) → i < a + n → f i ≡ g i) → map f (range_with_len a n) ≡ map g (range_with_len a n)
same_map f g a zero same = refl
same_map f g a (suc n) same =
    ap (λ (y : List ℕ). y ∷ map f (range_with_len (a + 1) n)) (same a (omega arith))
    ∙ ap (λ (ys : List (List ℕ)). g a ∷ ys) (same_map f g (a + 1) n (λ i below. same i (omega (arith, below))))

-- a sender that was ended has sent its rounds, whether its main stream was left open or not
ended_sending : (left_open : Bool) (table : RamTable) (uuid : List ℕ)
    (limit channels : ℕ) (rounds : List DealtRound) (main_text : List ℕ) (texts outs : List (List ℕ))
    → AreEnded left_open table uuid limit channels rounds main_text texts → outs ≡ channel_texts uuid channels rounds
    → IsSending table uuid limit channels rounds (main table (length rounds)) outs
ended_sending false table uuid limit channels rounds main_text texts outs is same =
    record { is_set = is.is_set; are_dealt = is.are_dealt; are_numbered = is.are_numbered; numbers_fit = is.numbers_fit; has_main = refl; has_texts = same }
ended_sending true table uuid limit channels rounds main_text texts outs is same =
    let s = is.is_sending in
    record { is_set = s.is_set; are_dealt = s.are_dealt; are_numbered = s.are_numbered; numbers_fit = s.numbers_fit; has_main = refl; has_texts = same }

over_sending : (setting : MultiSetting) (drained : Drained) (rounds : List DealtRound) (state : MultiState) (outs : List (List ℕ))
    → IsOver state → SendsTo setting drained rounds state
    → outs ≡ channel_texts setting.uuid setting.channels rounds
    → IsSending setting.table setting.uuid setting.limit setting.channels rounds (main setting.table (length rounds)) outs
over_sending setting drained rounds (Idle s) outs over sends same = absurd over
over_sending setting drained rounds (Round r) outs over sends same = absurd over
over_sending setting drained rounds (Over e) outs over sends same =
    ended_sending e.left_open setting.table setting.uuid setting.limit setting.channels rounds (drained.main ++ e.sent.main.items)
    (all_channels setting.channels drained e) outs sends.1 same

-- as many streams as there are channels
counted : (setting : MultiSetting) (rounds : List DealtRound) (main_text : List ℕ) (given : Drained)
    → IsSending setting.table setting.uuid setting.limit setting.channels rounds main_text (channels_out setting.channels given)
    → IsSending setting.table setting.uuid setting.limit (length (channels_out setting.channels given)) rounds main_text (channels_out setting.channels given)
counted setting rounds main_text given sending =
    subst (λ (n : ℕ). IsSending setting.table setting.uuid setting.limit n rounds main_text (channels_out setting.channels given))
    (sym (length-map-range_with_len given.channel 0 setting.channels)) sending

-- all bytes of an ended send on several channels are the streams of its rounds
channels_sent : (setting : MultiSetting) (given : Drained) (rounds : List DealtRound) (send : GuestSend) → IsAllOf setting given rounds false send
    → setting.name ≡ None
    → IsTable setting.table × IsSentInAnyOrder setting.table setting.uuid rounds given.main (channels_out setting.channels given)
channels_sent setting given rounds (One s) all unnamed = absurd all
channels_sent setting given rounds (Several m) all unnamed =
    let table : RamTable = setting.table in
    let outs : List (List ℕ) = channels_out setting.channels given in
    let texts : outs ≡ channel_texts setting.uuid setting.channels rounds =
    same_map given.channel (channel_text setting.uuid rounds) 0 setting.channels (λ i below. all.all_of_channels i (omega (arith, below))) in
    let sending = over_sending setting (with_plain given all.sends.0) rounds m.state outs all.is_over all.sends.2 texts in
    let main_is : given.main ≡ main table (length rounds) =
    all.all_of_main ∙ ap (λ (o : Option (List ℕ)). ended_main false o table (length rounds)) unnamed in (
      sending.is_set.has_table,
      record {
        batch_limit = setting.limit;
        in_order = outs;
        is_sending = subst (λ (text : List ℕ). IsSending table setting.uuid setting.limit (length outs) rounds text outs)
            (sym main_is) (counted setting rounds (main table (length rounds)) given sending);
        is_permutation = IsPermutation-refl outs;
      },
    )

-- taken by a load into blocks of the same table, they leave its rounds on top of what the blocks
-- held, and the load is done
pub channels_law : DrainedChannelsAreLoaded
channels_law = λ setting given rounds send all unnamed before after load ended fit fit_after stands.
    let table : RamTable = setting.table in
    let sent = channels_sent setting given rounds send all unnamed in
    let law = sent_law setting.uuid (2 ^ 40) (lent_image table before) rounds given.main ended (channels_out setting.channels given)
    (lent_image table after) load.rounds load.verdict sent.0 (lent_is_image table before fit)
    (lent_is_image table after fit_after) sent.1 sent.0.has_room stands.is_answer in
    ((ap (λ (v : Verdict). seen_of_verdict load.rounds v) law.0, law.1), law.2)

-- ---- by whole rounds

-- If a load is done, a memory that has the rounds counted alone is the one that the load stands
-- for.
alone_is : (given : LoadSettings) (uuid : List ℕ) (first memory kept : Image) (texts : Texts) (k : ℕ) (v : Verdict) → IsTable first.table → IsImage first
    → IsImage memory → v ≡ Done → IsInPlaceAnswer given uuid first texts memory k v → HasRoundsAlone (for_table first.table given) uuid first texts k kept
    → kept ≡ memory
alone_is given uuid first memory kept texts k v is_table is_image is_memory done here alone =
    let there : IsInPlaceAnswer given uuid first texts memory k Done =
    subst (λ (w : Verdict). IsInPlaceAnswer given uuid first texts memory k w) done here in
    alone.has_rounds
    ∙ ap (λ (r : Readings). rounds_onto first k r)
    (same_readings (for_table first.table given) uuid texts alone.readings there.readings is_table.has_page_size alone.are_readings there.are_readings)
    ∙ sym (exact_law given uuid first texts memory k is_table is_image is_memory there)

-- so are the blocks of a load by whole rounds
pub by_rounds_law : DrainedChannelsAreLoadedByRounds
by_rounds_law = λ setting given rounds send all unnamed before after load ended fit is_memory stands alone.
    let table : RamTable = setting.table in
    let sent = channels_sent setting given rounds send all unnamed in
    let first : Image = lent_image table before in
    let outs : List (List ℕ) = channels_out setting.channels given in
    let is_first : IsImage first = lent_is_image table before fit in
    let law = sent_law setting.uuid (2 ^ 40) first rounds given.main ended outs
    (opened load after) load.load.rounds load.load.verdict sent.0 is_first is_memory sent.1 sent.0.has_room stands.is_answer in
    let same : lent_image table after ≡ opened load after =
    alone_is (settings_into table Ram None) setting.uuid first (opened load after) (lent_image table after) (taken_texts given.main ended outs)
    load.load.rounds load.load.verdict sent.0 is_first is_memory law.0 stands.is_answer alone in
    ((ap (λ (v : Verdict). seen_of_verdict load.load.rounds v) law.0, law.1), same ∙ law.2)

-- ---- with a machine's main stream

-- what follows the footer of RAM's END
goes_on : (left_open : Bool) (name : Option (List ℕ)) (table : RamTable) (n : ℕ) (behind : List ℕ)
    → (rest : List ℕ) × (ended_main left_open name table n ++ behind ≡ machine_written name table (replicate n FlushPart) ++ rest)
goes_on true name table n behind = (behind, refl)
goes_on false (Some name) table n behind = (end_byte ∷ behind, append_assoc (machine_written (Some name) table (replicate n FlushPart)) (end_byte ∷ []) behind)
goes_on false None table n behind = (
  end_byte ∷ behind,
  ap (λ (l : List ℕ). l ++ behind) (sym (written_is_closed table (replicate n FlushPart)))
      ∙ append_assoc (machine_written None table (replicate n FlushPart)) (end_byte ∷ []) behind,
)

-- all bytes of a send on channels with a machine's name, or left open, whatever follows in the main
-- stream, are the streams of its rounds
machine_sent : (setting : MultiSetting) (given : Drained) (rounds : List DealtRound) (left_open : Bool) (send : GuestSend) (behind : List ℕ)
    → IsAllOf setting given rounds left_open send → (IsLongName setting.name → ⊥)
    → IsTable setting.table × IsMachineSentInAnyOrder setting.table setting.uuid rounds (given.main ++ behind) (channels_out setting.channels given)
machine_sent setting given rounds left_open (One s) behind all short = absurd all
machine_sent setting given rounds left_open (Several m) behind all short =
    let table : RamTable = setting.table in
    let n : ℕ = length rounds in
    let outs : List (List ℕ) = channels_out setting.channels given in
    let texts : outs ≡ channel_texts setting.uuid setting.channels rounds =
    same_map given.channel (channel_text setting.uuid rounds) 0 setting.channels (λ i below. all.all_of_channels i (omega (arith, below))) in
    let sending = over_sending setting (with_plain given all.sends.0) rounds m.state outs all.is_over all.sends.2 texts in
    let on = goes_on left_open setting.name table n behind in (
      sending.is_set.has_table,
      record {
        batch_limit = setting.limit;
        name = setting.name;
        has_name = short_name setting.name short;
        ram = machine_written setting.name table (replicate n FlushPart);
        behind = on.0;
        has_main = ap (λ (l : List ℕ). l ++ behind) all.all_of_main ∙ on.1;
        in_order = outs;
        is_sending = record { is_sending = counted setting rounds (main table n) given sending; has_main = refl };
        is_permutation = IsPermutation-refl outs;
      },
    )

-- taken by a load into blocks of the same table, they leave its rounds on top of what the blocks
-- held, and the load is done
pub machine_law : DrainedMachineIsLoaded
machine_law = λ setting given rounds left_open send all short behind before after load ended fit fit_after stands.
    let table : RamTable = setting.table in
    let outs : List (List ℕ) = channels_out setting.channels given in
    let sent = machine_sent setting given rounds left_open send behind all short in
    let law = machine_sent_law (settings_into table Machine None) setting.uuid (lent_image table before) rounds
    (given.main ++ behind) ended outs (lent_image table after) load.rounds load.verdict sent.0
    (lent_is_image table before fit) (lent_is_image table after fit_after) refl (none_lets (length outs) rounds) refl sent.1 sent.0.has_room stands.is_answer in
    ((ap (λ (v : Verdict). seen_of_verdict load.rounds v) law.0, law.1), law.2)
