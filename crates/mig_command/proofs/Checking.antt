-- A scenario's rounds, loaded again and compared.
use Rattle.std.proofs.Common.{ℕ, ◌≡◌, ◌+◌, ◌-◌, ◌≤◌, ◌^◌, List, ◌++◌, length, refl, arith, sym, ap, ap₂, ◌∙◌, inl, inr, Option, Some, None, true, false, subst}
use Rattle.std.proofs.Common.{bytes_eq, min}
use Rattle.std.specs.Prelude.{◌⊎◌, IsTrue, IfSome, IsSomeAnd, MatchOption, Vec, Result, Ok, Err, ⊤, [], ◌∷◌, ◌==◌, not, nat_lt, find, sum_by}
use Rattle.std.specs.List.{All}
use Rattle.std.proofs.lemmas.Bool.{cases_Bool, le-ltb}
use Rattle.std.proofs.lemmas.List.{length-map}
use Rattle.std.proofs.lemmas.List.FromFn.{length-map-range_with_len}
use Rattle.std.proofs.lemmas.List.Sorted.{IsPermutation-refl}
use Rattle.std.proofs.lemmas.Slice.Eq.{bytes_eq-Decides}
use Rattle.mig_mem.specs.RamTable.{RamTable, IsTable}
use Rattle.mig_mem.specs.Image.{Page, Image, content_at, differs}
use Rattle.mig_mem.specs.Round.{after}
use Rattle.mig_mem.specs.declared.place.Place.{Place}
use Rattle.mig_mem.specs.Place.{place_at, place_lt}
use Rattle.mig_mem.specs.Difference.{differing}
use Rattle.mig_mem.proofs.Sets.{where_none}
use Rattle.mig_mem.specs.Tracking.{Snapshot, rounds_of}
use Rattle.mig_stream.specs.Text.{total_bytes}
use Rattle.mig_stream.specs.Written.{single}
use Rattle.mig_send.specs.DealtRounds.{DealtRound, IsSending, channel_text}
use Rattle.mig_send.specs.MultiSending.{MultiSending, texts_of}
use Rattle.mig_send.specs.declared.multi.Sent.{Sent}
use Rattle.mig_load_types.specs.Settings.{ram_settings}
use Rattle.mig_load_types.specs.declared.loaded.Loaded.{Loaded}
use Rattle.mig_load_types.specs.declared.fault.LoadFault.{LoadFault}
use Rattle.mig_answer.specs.declared.verdict.Verdict.TheVariants.{Done, Failed}
use Rattle.mig_single_load.specs.SingleLoad.{HasLoadedRounds, no_memory_at}
use Rattle.mig_answer.specs.MultiLoad.{Answer as LoadAnswer, answer_of, as_verdict, IsWithoutMemory, bytes_of}
use Rattle.mig_answer.specs.Texts.{ended_texts}
use Rattle.mig_answer.specs.Sent.{IsSentInAnyOrder, sent_answer}
use Rattle.mig_command.specs.declared.answer.Answer.{Answer}
use Rattle.mig_command.specs.declared.answer.Answer.TheVariants as answers
use Rattle.mig_command.specs.declared.answer.Answer.TheVariants.{Refused, Unloaded}
use Rattle.mig_command.specs.declared.answer.Checked.{Checked}
use Rattle.mig_command.specs.declared.answer.ChannelsChecked.{ChannelsChecked}
use Rattle.mig_command.specs.declared.answer.Comparison.{Comparison}
use Rattle.mig_command.specs.declared.answer.Comparison.TheVariants.{Same, Differs}
use Rattle.mig_scenario.specs.declared.fault.ScenarioFault.{ScenarioFault}
use Rattle.mig_scenario.specs.declared.fault.ScenarioFault.TheVariants as fault
use Rattle.mig_scenario.specs.declared.layout.Layout.{Layout}
use Rattle.mig_scenario.specs.Layout.{bytes_in}
use Rattle.mig_scenario.specs.Line.{ScenarioLine}
use Rattle.mig_scenario.specs.Scenario.{lines_of, refusal, is_within, unsent}
use Rattle.mig_scenario.specs.Guest.{ScenarioGuest, played}
use Rattle.mig_scenario.specs.Playing.{IsSentOf, IsNewSender}
use Rattle.mig_command.specs.Report.{Report, refused, checked, single_line, same_line, IsWantOfMemory}
use Rattle.mig_command.specs.Answer.{comparison_of, Compares, Answers, IsReport, IsTold, IsToldAs, IsLoadOf, IsLoadOfSent, BringsBack, IsRoundTrip, HasGone}
use Rattle.mig_command.specs.Answer.{HasChannels, printed, channels_lines, snapshots_in, table_in}
use Rattle.uuid.specs.Parts.{zero_bytes}
use Rattle.mig_scenario.proofs.Faithful.{played_is_sent, played_are_rounds}
use Rattle.mig_command.proofs.CommandLine.{some_same}

-- ---- faults

-- a refused allocation answers any input, and so does the fault for which the input is refused
pub is_refused : (layout : Layout) (text : List ℕ) (f : ScenarioFault)
    → (f ≡ fault.NoMemory) ⊎ (refusal (bytes_in layout.page_size) text ≡ Some f) → Answers layout text (Refused f)
is_refused layout text f (inl is) = rw is (record { text = refused fault.NoMemory; status = 1 }, refl, inr (refl, inl refl))
is_refused layout text f (inr is) =
    let report : IsReport layout text (record { text = refused f; status = 1 }) = rw is refl in
    (record { text = refused f; status = 1 }, refl, inl report)

err_same : {T E : Type 0} (r : Result T E) (x y : E) → r ≡ Err x → r ≡ Err y → x ≡ y
err_same r x y a b = cc

ok_same : {T E : Type 0} (r : Result T E) (x y : T) → r ≡ Ok x → r ≡ Ok y → x ≡ y
ok_same r x y a b = cc

-- ---- comparing

same_place : (m : Image) (p : Place) → differs m m p ≡ false
same_place m p = let same : bytes_eq (content_at m p) (content_at m p) ≡ true = (bytes_eq-Decides (content_at m p) (content_at m p)).1 refl in rw same refl

-- two equal memories compare as the same
pub is_same : (a b : Image) (c : Comparison) → a ≡ b → Compares a b c → c ≡ Same
is_same a b c e h =
    let none : (differing a b).marked ≡ [] = subst (λ (m : Image). (differing a m).marked ≡ []) e (where_none a.table (differs a a) (λ q _. same_place a q)) in
    h ∙ ap comparison_of none

-- no place is before the first one
from_start : (p : Place) → place_lt p (place_at 0 0) ≡ false
from_start p =
    let block : nat_lt p.block 0 ≡ false = le-ltb p.block 0 (omega arith) in
    let page : nat_lt p.page 0 ≡ false = le-ltb p.page 0 (omega arith) in
    rw (block, page) (elim (cases_Bool (p.block == 0)) [ inl t ↦ rw t refl | inr f ↦ rw f refl ])

-- what comes of walking the places that differ
pub compared_same : (ps : List Place) → find (λ p. not (place_lt p (place_at 0 0))) ps ≡ None → Same ≡ comparison_of ps
compared_same [] e = refl
compared_same (p ∷ ps) e = let some = rw (from_start p) at e in absurd cc

-- places that differ, of which a first one was found, compare by their number and that place
pub compared_differs : (ps : List Place) (first : Place) (count : ℕ) → find (λ p. not (place_lt p (place_at 0 0))) ps ≡ Some first → count ≡ length ps
    → Differs count first ≡ comparison_of ps
compared_differs [] first count e len = absurd cc
compared_differs (p ∷ ps) first count e len = let some = rw (from_start p) at e in ap₂ Differs len (sym (some_same p first some))

-- so it is with what was loaded, if that is the guest's memory
pub same_pages : (m : Option Image) (a b : Image) (c : Comparison) → m ≡ Some a → m ≡ Some b → Compares a b c → c ≡ Same
same_pages m a b c is also h = is_same a b c (some_same a b (sym is ∙ also)) h

-- ---- what is loaded of what was sent

-- a load gave this image, or an allocation was refused
abbrev pub GivesBack : {A : Type 0} → Image → Loaded A → Type 0
GivesBack image a = ((a.memory ≡ Some image) × (a.verdict ≡ Ok _)) ⊎ (a.verdict ≡ no_memory_at a.rounds)

-- an answer that reports a refused allocation
abbrev pub IsWanting : Answer → Type 0
IsWanting answer = (r : Report) × (printed answer ≡ Some r) × IsWantOfMemory r

-- an answer that reports a refused allocation answers any input
pub want_answers : (layout : Layout) (text : List ℕ) (answer : Answer) → IsWanting answer → Answers layout text answer
want_answers layout text answer want = (want.0, want.1, inr want.2)

-- what comes of comparing it with the image
abbrev pub HasCompared : {A : Type 0} → Loaded A → Result (ℕ × Comparison) Answer → Type 0
HasCompared a r = ((a.verdict ≡ Ok _) × (r ≡ Ok (a.rounds, Same))) ⊎ ((answer : Answer) × (r ≡ Err answer) × IsWanting answer)

-- a load that gives back the image is compared as the same, unless an allocation was refused
pub compared_back : {A : Type 0} (image : Image) (a : Loaded A) (r : Result (ℕ × Comparison) Answer) → GivesBack image a
    → ((e : LoadFault) → a.verdict ≡ Err e → r ≡ Err (Unloaded e))
    → ((v : ⊤) → a.verdict ≡ Ok v → a.memory ≡ Some image → (r ≡ Ok (a.rounds, Same)) ⊎ (r ≡ Err (Refused fault.NoMemory)))
    → HasCompared a r
compared_back image a r (inl back) faulty same = elim (same _ back.1 back.0) [
  | inl is ↦ inl (back.1, is)
  | inr is ↦ inr (Refused fault.NoMemory, is, (_, refl, (refl, inl refl)))
]
compared_back image a r (inr want) faulty same = inr (_, faulty _ want, (_, refl, (refl, inr (a.rounds, refl))))

-- if the comparison is an error, it is of a refused allocation
pub compared_err : {A : Type 0} (a : Loaded A) (r : Result (ℕ × Comparison) Answer) (answer : Answer) → HasCompared a r → r ≡ Err answer → IsWanting answer
compared_err a r answer (inl all) bad = let good = all.1 in absurd cc
compared_err a r answer (inr want) bad = subst IsWanting (err_same r want.0 answer want.1 bad) want.2

-- a comparison that isn't an error is of a load without a fault, with its rounds and `Same`
pub compared_ok : {A : Type 0} (a : Loaded A) (r : Result (ℕ × Comparison) Answer) (p : ℕ × Comparison) → HasCompared a r → r ≡ Ok p
    → (a.verdict ≡ Ok _) × (p.0 ≡ a.rounds) × (p.1 ≡ Same)
compared_ok a r p (inl all) good =
    let same : p ≡ (a.rounds, Same) = ok_same r p (a.rounds, Same) good all.1 in
    (all.0, ap (λ (q : ℕ × Comparison). q.0) same, ap (λ (q : ℕ × Comparison). q.1) same)
compared_ok a r p (inr want) good = let bad = want.1 in absurd cc

-- ---- the single stream

-- a round trip gives back the guest's image, unless an allocation was refused
pub gives_back : {A : Type 0} (layout : Layout) (text sent : List ℕ) (image : Image) (a : Loaded A) → IsRoundTrip layout text image sent a → GivesBack image a
gives_back layout text sent image a out = elim out.is_loaded [
  | inl whole ↦ inl (whole.has_memory ∙ ap (λ (m : Image). let some : Option Image = Some m in some) (sym out.has_image), whole.has_verdict)
  | inr want ↦ inr want.has_verdict
]

-- so it is if there is such a stream
pub text_back : {A B : Type 0} (layout : Layout) (text : List ℕ) (sent : Option (Vec ℕ B)) (image : Image) (a : Loaded A)
    → IsSomeAnd sent (λ t. IsRoundTrip layout text image t.items a)
    → GivesBack image a
text_back layout text None image a out = absurd out
text_back layout text (Some t) image a out = gives_back layout text t.items image a out

-- if the verdict is Ok, all that was sent is loaded
is_whole : {A : Type 0} (layout : Layout) (text sent : List ℕ) (image : Image) (a : Loaded A) → IsRoundTrip layout text image sent a → a.verdict ≡ Ok _
    → HasLoadedRounds (table_in layout text) (rounds_of (snapshots_in layout text)) a
is_whole layout text sent image a out good = elim out.is_loaded [ inl whole ↦ whole | inr want ↦ let bad = want.has_verdict in absurd cc ]

-- what is known once a scenario was played and its stream was loaded
outcome : {A : Type 0} (layout : Layout) (text : List ℕ) (table : RamTable) (ls : List ScenarioLine) (image : Image) (sent : List ℕ) (a : Loaded A)
    → IsTable table → table ≡ table_in layout text → ls ≡ lines_of text → All (λ l. IsTrue (is_within table l)) ls → unsent (lines_of text) ≡ None
    → image ≡ (played table ls).image → sent ≡ single table (rounds_of (played table ls).snapshots) → IsLoadOf (bytes_in layout.page_size) sent a
    → IsRoundTrip layout text image sent a
outcome layout text table ls image sent a is same_table same_lines within all_sent has_image has_text load =
    let lines : List ScenarioLine = lines_of text in
    let t : RamTable = table_in layout text in
    let is_t : IsTable t = subst IsTable same_table is in
    let within_t : All (λ l. IsTrue (is_within t l)) lines =
    subst (λ (x : List ScenarioLine). All (λ l. IsTrue (is_within t l)) x) same_lines (subst (λ x. All (λ l. IsTrue (is_within x l)) ls) same_table within) in
    let same : played table ls ≡ played t lines = ap (λ (x : RamTable). played x ls) same_table ∙ ap (λ (x : List ScenarioLine). played t x) same_lines in
    let text_is : sent ≡ single t (rounds_of (snapshots_in layout text)) =
    has_text ∙ ap (λ (x : RamTable). single x (rounds_of (played table ls).snapshots)) same_table
    ∙ ap (λ (g : ScenarioGuest). single t (rounds_of g.snapshots)) same in record {
      is_table = is_t;
      is_sent = text_is;
      has_image = has_image ∙ ap (λ (g : ScenarioGuest). g.image) same ∙ sym (played_is_sent t lines is_t within_t all_sent);
      is_loaded = load t (rounds_of (snapshots_in layout text)) is_t refl is_t.has_room (played_are_rounds t lines is_t within_t) text_is;
    }

-- what is known of the stream that was sent, if there is one
pub outcomes : {A B : Type 0} (layout : Layout) (text : List ℕ) (table : RamTable) (ls : List
    ScenarioLine) (image : Image) (sent : Option (Vec ℕ B)) (a : Loaded A)
    → IsTable table → table ≡ table_in layout text → ls ≡ lines_of text → All (λ l. IsTrue (is_within table l)) ls → unsent (lines_of text) ≡ None
    → image ≡ (played table ls).image → IsSomeAnd sent (λ t. t.items ≡ single table (rounds_of (played table ls).snapshots))
    → IsSomeAnd sent (λ t. IsLoadOf (bytes_in layout.page_size) t.items a) → IsSomeAnd sent (λ t. IsRoundTrip layout text image t.items a)
outcomes layout text table ls image None a is same_table same_lines within all_sent has_image has_text load = absurd has_text
outcomes layout text table ls image (Some t) a is same_table same_lines within all_sent has_image has_text load =
    outcome layout text table ls image t.items a is same_table same_lines within all_sent has_image has_text load

-- ---- several channels

-- what was sent on channels is a sending of the scenario's snapshots
pub gone : {B : Type 0} (layout : Layout) (text : List ℕ) (table : RamTable) (ls : List ScenarioLine) (uuid : List ℕ) (s : Option
    MultiSending) (sent : Option (Sent B))
    → table ≡ table_in layout text → ls ≡ lines_of text → uuid ≡ zero_bytes → MatchOption s (layout.channels ≡ 0) (λ x. IsNewSender table uuid layout x)
    → MatchOption s (sent ≡ None) (λ x. IsSomeAnd sent
    (λ t. IsSentOf table x.uuid x.limit (length x.channels) (played table ls).snapshots t)) → HasGone layout text sent
gone layout text table ls uuid None sent same_table same_lines nil new are = rw are new
gone layout text table ls uuid (Some x) None same_table same_lines nil new are = absurd are
gone layout text table ls uuid (Some x) (Some t) same_table same_lines nil new are =
    let snapshots : (played table ls).snapshots ≡ snapshots_in layout text =
    ap (λ (y : RamTable). (played y ls).snapshots) same_table ∙ ap (λ (y : List ScenarioLine). (played (table_in layout text) y).snapshots) same_lines in
    let step-1 = subst (λ (l : List ℕ). IsSentOf table l x.limit (length x.channels) (played table ls).snapshots t) (new.has_uuid ∙ nil) are in
    let step-2 = subst (λ (n : ℕ). IsSentOf table zero_bytes n (length x.channels) (played table ls).snapshots t) new.has_limit step-1 in
    let step-3 = subst (λ (n : ℕ). IsSentOf table zero_bytes layout.batch n (played table ls).snapshots t) new.has_channels step-2 in
    let step-4 = subst (λ (l : List Snapshot). IsSentOf table zero_bytes layout.batch layout.channels l t) snapshots step-3 in
    subst (λ (y : RamTable). IsSentOf y zero_bytes layout.batch layout.channels (snapshots_in layout text) t) same_table step-4

-- it has as many streams as channels
texts_long : {B : Type 0} (table : RamTable) (uuid : List ℕ) (limit channels : ℕ) (snapshots : List Snapshot) (sent : Sent B)
    → IsSentOf table uuid limit channels snapshots sent
    → length sent.channels.items ≡ channels
texts_long table uuid limit channels snapshots sent is =
    sym (length-map sent.channels.items (λ (t : Vec ℕ _). t.items)) ∙ ap (λ (l : List (List ℕ)). length l) is.2.has_texts
    ∙ length-map-range_with_len (channel_text uuid is.0) 0 channels

-- streams that were sent on a layout's channels are on 1 to 255 of them
pub has_channels : {B : Type 0} (layout : Layout) (text : List ℕ) (sent : Option (Sent B)) → HasGone layout text sent → IfSome sent (λ t. HasChannels t)
has_channels layout text None went = tt
has_channels layout text (Some t) went =
    let long : length t.channels.items ≡ layout.channels =
    texts_long (table_in layout text) zero_bytes layout.batch layout.channels (snapshots_in layout text) t went in
    let few = went.2.is_set.has_channels in
    (omega (arith, long, few.0), omega (arith, long, few.1))

verdict_done : (v : Result ⊤ LoadFault) → as_verdict v ≡ Done → v ≡ Ok _
verdict_done (Ok x) is = refl
verdict_done (Err e) is = absurd cc

verdict_failed : (v : Result ⊤ LoadFault) (e : LoadFault) → as_verdict v ≡ Failed e → v ≡ Err e
verdict_failed (Ok x) e is = absurd cc
verdict_failed (Err f) e is = cc

-- what loading it answers
pub sent_back : {A B : Type 0} (page_size : ℕ) (sent : Sent B) (uuid main : List ℕ) (channels : List (Vec ℕ B)) (a : Loaded A) → uuid ≡ zero_bytes
    → main ≡ sent.main.items → channels ≡ sent.channels.items
    → ((table : RamTable) (rounds : List DealtRound) → IsSentInAnyOrder table uuid rounds main (bytes_of channels)
    → table.page_size ≡ page_size → total_bytes table ≤ 2 ^ 40
    → (answer_of a ≡ sent_answer table rounds) ⊎ IsWithoutMemory (ram_settings page_size (2 ^ 40)) uuid (ended_texts main (bytes_of channels)) (answer_of a))
    → IsLoadOfSent page_size sent a
sent_back page_size sent uuid main channels a nil same_main same_channels loads table limit count snapshots is size =
    let rounds : List DealtRound = is.0 in
    let texts : List (List ℕ) = texts_of sent.channels.items in
    let many : length texts ≡ count = length-map sent.channels.items (λ (t : Vec ℕ _). t.items) ∙ texts_long table zero_bytes limit count snapshots sent is in
    let whole : IsSending table zero_bytes limit (length texts) rounds sent.main.items texts =
    subst (λ (n : ℕ). IsSending table zero_bytes limit n rounds sent.main.items texts) (sym many) is.2 in
    let in_order : IsSentInAnyOrder table zero_bytes rounds sent.main.items texts =
    record { batch_limit = limit; in_order = texts; is_sending = whole; is_permutation = IsPermutation-refl texts } in
    let as_given : IsSentInAnyOrder table uuid rounds main (bytes_of channels) = rw (nil, same_main, same_channels) in_order in
    elim (loads table rounds as_given size whole.is_set.has_table.has_room) [
      | inl all ↦ inl (
        ap (λ (x : LoadAnswer). x.memory) all ∙ ap (λ (l : List Snapshot). let some : Option Image = Some (after table (rounds_of l)) in some) is.1,
        ap (λ (x : LoadAnswer). x.rounds) all ∙ sym (length-map rounds (λ (x : DealtRound). x.snapshot)) ∙ ap (λ (l : List Snapshot). length l) is.1,
        verdict_done a.verdict (ap (λ (x : LoadAnswer). x.verdict) all),
      )
      | inr want ↦ inr (verdict_failed a.verdict _ want.has_verdict)
    ]

-- it is the guest's image
pub channels_back : {A B : Type 0} (layout : Layout) (text : List ℕ) (image : Image) (sent : Sent B) (a : Loaded A) → HasGone layout text (Some sent)
    → IsLoadOfSent (bytes_in layout.page_size) sent a → image ≡ after (table_in layout text) (rounds_of (snapshots_in layout text))
    → GivesBack image a × (a.verdict ≡ Ok _ → a.rounds ≡ length (snapshots_in layout text))
channels_back layout text image sent a went load is = go (load (table_in layout text) layout.batch layout.channels (snapshots_in layout text) went refl)
  where
    go : BringsBack (table_in layout text) (snapshots_in layout text) a → GivesBack image a × (a.verdict ≡ Ok _ → a.rounds ≡ length (snapshots_in layout text))
    go (inl back) = (inl (back.0 ∙ ap (λ (m : Image). let some : Option Image = Some m in some) (sym is), back.2), λ good. back.1)
    go (inr want) = (inr want, λ good. absurd cc)

-- what is reported of it
pub told : {B : Type 0} (layout : Layout) (text : List ℕ) (sent : Sent B) (c : ChannelsChecked) → HasGone layout text (Some sent)
    → c.main ≡ length sent.main.items
    → c.channels ≡ min (sum_by length (texts_of sent.channels.items)) (2 ^ 64 - 1) → c.rounds ≡ length (snapshots_in layout text)
    → IsTold (table_in layout text) layout (snapshots_in layout text) c
told layout text sent c went main channels rounds = record {
  rounds = went.0;
  main = sent.main.items;
  texts = texts_of sent.channels.items;
  are_of = went.1;
  is_sending = went.2;
  has_main = main;
  has_channels = channels;
  has_rounds = rounds;
}

-- ---- all of it

-- if nothing was sent on channels, there are none
pub none_gone : {B : Type 0} (layout : Layout) (text : List ℕ) (several : Option (Sent B)) → HasGone layout text several → several ≡ None → layout.channels ≡ 0
none_gone layout text None went is = went
none_gone layout text (Some t) went is = absurd cc

-- the streams on channels, if there are some, are a sending of the scenario's snapshots
pub one_gone : {B : Type 0} (layout : Layout) (text : List ℕ) (several : Option (Sent B)) (sent : Sent B) → HasGone layout text several → several ≡ Some sent
    → HasGone layout text (Some sent)
one_gone layout text several sent went is = subst (λ (o : Option (Sent _)). HasGone layout text o) is went

-- what is reported of the channels, if there are any
abbrev pub IsToldOf : Layout → List ℕ → Option ChannelsChecked → Type 0
IsToldOf layout text several = MatchOption several (layout.channels ≡ 0) (λ c. IsTold (table_in layout text) layout (snapshots_in layout text) c)

told_as : (layout : Layout) (text : List ℕ) (several : Option ChannelsChecked) → IsToldOf layout text several
    → IsToldAs (table_in layout text) layout (snapshots_in layout text) (channels_lines several)
told_as layout text None is = inl (is, refl)
told_as layout text (Some c) is = inr (c, is, refl)

-- the report of a scenario that loaded to the guest's memory
is_checked : {A : Type 0} (layout : Layout) (text sent : List ℕ) (image : Image) (c : Checked) (a : Loaded A) → IsRoundTrip layout text image sent a
    → refusal (bytes_in layout.page_size) text ≡ None → a.verdict ≡ Ok _ → c.single ≡ length sent → c.sections ≡ a.rounds
    → IsToldOf layout text c.several → c.comparison ≡ Same
    → Answers layout text (answers.Checked c)
is_checked layout text sent image c a out none good len sections said same =
    let t : RamTable = table_in layout text in
    let rounds : List (List Page) = rounds_of (snapshots_in layout text) in
    let line : List ℕ = channels_lines c.several in
    let whole : HasLoadedRounds t rounds a = is_whole layout text sent image a out good in
    let of_len : c.single ≡ length (single t rounds) = len ∙ ap (λ (x : List ℕ). length x) out.is_sent in
    let of_sections : c.sections ≡ length rounds + 2 = sections ∙ whole.has_rounds in
    let r : Report = record { text = checked t rounds line; status = 0 } in
    let is_report : IsReport layout text r = rw none (line, told_as layout text c.several said, refl) in
    let is_printed : printed (answers.Checked c) ≡ Some r =
    rw same (ap₂ (λ (m n : ℕ). let some : Option Report =
    Some (record { text = single_line m n ++ line ++ same_line; status = 0 }) in some) of_len of_sections) in
    (r, is_printed, inl is_report)

-- so it is if there is such a stream
pub are_checked : {A B : Type 0} (layout : Layout) (text : List ℕ) (sent : Option (Vec ℕ B)) (image : Image) (c : Checked) (a : Loaded A)
    → IsSomeAnd sent (λ t. IsRoundTrip layout text image t.items a) → refusal (bytes_in layout.page_size) text ≡ None
    → a.verdict ≡ Ok _ → IfSome sent (λ t. c.single ≡ length t.items)
    → c.sections ≡ a.rounds → IsToldOf layout text c.several → c.comparison ≡ Same → Answers layout text (answers.Checked c)
are_checked layout text None image c a out none good len sections line same = absurd out
are_checked layout text (Some t) image c a out none good len sections line same = is_checked layout text t.items image c a out none good len sections line same

-- the image in the end is that after the rounds
pub text_image : {A B : Type 0} (layout : Layout) (text : List ℕ) (sent : Option (Vec ℕ B)) (image : Image) (a : Loaded A)
    → IsSomeAnd sent (λ t. IsRoundTrip layout text image t.items a)
    → image ≡ after (table_in layout text) (rounds_of (snapshots_in layout text))
text_image layout text None image a out = absurd out
text_image layout text (Some t) image a out = out.has_image
