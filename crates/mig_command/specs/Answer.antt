-- The report of a check, and the output of the tool's answers.
use Rattle.std.specs.Prelude.{◌≡◌, ◌⊎◌, ◌≤◌, ◌^◌, ◌-◌, ℕ, min, sum_by, All, List, map, [], ◌∷◌, ◌++◌, length, Option, None, Some, MatchOption, IsSomeAnd, IfSome, Result, Ok, Err, codes, decimal}
use Rattle.std.specs.Option.{option_map}
use Rattle.std.specs.Io.KnownBytes.{Consumes, IsAtEnd, Appends}
use Rattle.uuid.specs.Parts.{zero_bytes}
use Rattle.mig_mem.specs.RamTable.{RamTable, IsTable}
use Rattle.mig_mem.specs.declared.place.Place.{Place}
use Rattle.mig_mem.specs.Image.{Page, Image}
use Rattle.mig_mem.specs.Difference.{differing}
use Rattle.mig_mem.specs.Round.{after, IsRound}
use Rattle.mig_mem.specs.Tracking.{Snapshot, rounds_of}
use Rattle.mig_stream.specs.Text.{total_bytes}
use Rattle.mig_stream.specs.Written.{single}
use Rattle.mig_send.specs.DealtRounds.{DealtRound, IsSending}
use Rattle.mig_send.specs.declared.multi.Sent.{Sent}
use Rattle.mig_load_types.specs.Settings.{ram_settings}
use Rattle.mig_load_types.specs.LoadFaultNumber.{fault_number}
use Rattle.mig_load_types.specs.declared.fault.Fault.TheVariants as load_fault
use Rattle.mig_answer.specs.declared.verdict.Verdict.{Verdict}
use Rattle.mig_answer.specs.declared.verdict.Verdict.TheVariants.{Running, Done, Failed}
use Rattle.mig_load_types.specs.declared.loaded.Loaded.{Loaded}
use Rattle.mig_single_load.specs.SingleLoad.{IsSingleWithoutMemory, HasLoadedRounds, no_memory_at}
use Rattle.mig_load_types.specs.declared.fault.LoadFault.{LoadFault}
use Rattle.mig_load_types.specs.declared.fault.Origin.{Origin}
use Rattle.mig_load_types.specs.declared.fault.Origin.TheVariants as origin
use Rattle.mig_command.specs.declared.answer.Answer.{Answer}
use Rattle.mig_command.specs.declared.answer.Answer.TheVariants as answers
use Rattle.mig_command.specs.declared.answer.Checked.{Checked}
use Rattle.mig_command.specs.declared.answer.ChannelsChecked.{ChannelsChecked}
use Rattle.mig_command.specs.declared.answer.Comparison.{Comparison}
use Rattle.mig_command.specs.declared.answer.Comparison.TheVariants.{Same, Differs}
use Rattle.mig_scenario.specs.declared.guest.Played.{Played}
use Rattle.mig_command.specs.declared.fault.ToolFault.{ToolFault}
use Rattle.mig_command.specs.declared.fault.ToolFault.TheVariants as tool
use Rattle.mig_scenario.specs.declared.layout.Layout.{Layout}
use Rattle.mig_scenario.specs.Layout.{bytes_in}
use Rattle.mig_scenario.specs.Scenario.{lines_of, table_of, refusal}
use Rattle.mig_scenario.specs.Guest.{snapshots_from}
use Rattle.mig_scenario.specs.Playing.{IsSentOf}
use Rattle.mig_command.specs.Report.{Report, fault_line, refused, single_line, same_line, checked, IsWantOfMemory}

-- the result of a comparison, from the list of the places that differ: their number and the first
-- of them, or `Same`
abbrev pub comparison_of : List Place → Comparison
comparison_of [] = Same
comparison_of (first ∷ others) = Differs (length (first ∷ others)) first

-- the result of comparing two memories of a table
abbrev pub Compares : Image → Image → Comparison → Type 0
Compares a b comparison = comparison ≡ comparison_of (differing a b).marked

abbrev pub in_origin : Origin → List ℕ
in_origin origin.Main = codes " in main"
in_origin (origin.Channel channel) = codes " in channel " ++ decimal channel
in_origin origin.Round = codes " in round"

abbrev pub unloaded : LoadFault → List ℕ
unloaded e = fault_line (fault_number e.fault) (codes " round " ++ decimal e.round ++ in_origin e.source)

-- ---- lines

-- `same`, or `differs` with the number of pages, and the first of them
abbrev pub comparison_line : Comparison → List ℕ
comparison_line Same = same_line
comparison_line (Differs count first) =
    codes "differs " ++ decimal count ++ codes " first " ++ decimal first.block ++ codes " " ++ decimal first.page ++ codes "\n"

abbrev pub channels_line : ChannelsChecked → List ℕ
channels_line c = codes "multi " ++ decimal c.main ++ codes " " ++ decimal c.channels ++ codes " rounds " ++ decimal c.rounds ++ codes "\n"

abbrev pub channels_lines : Option ChannelsChecked → List ℕ
channels_lines None = []
channels_lines (Some c) = channels_line c

abbrev pub checked_lines : Checked → List ℕ
checked_lines c = single_line c.single c.sections ++ channels_lines c.several ++ comparison_line c.comparison

abbrev pub sent_line : ℕ → ℕ → List ℕ
sent_line main channels = codes "sent " ++ decimal main ++ codes " " ++ decimal channels ++ codes "\n"

abbrev pub loaded_line : List ℕ → ℕ → List ℕ
loaded_line kind count = codes "loaded " ++ kind ++ decimal count ++ codes "\n"

-- ---- statuses

abbrev pub comparison_status : Comparison → ℕ
comparison_status Same = 0
comparison_status (Differs count first) = 4

abbrev pub tool_status : ToolFault → ℕ
tool_status tool.ImageLen = 1
tool_status tool.Batch = 2
tool_status tool.Uuid = 2
tool_status tool.Feed = 2
tool_status tool.Words = 2
tool_status tool.TooManyReads = 3
tool_status tool.Unread = 3
tool_status tool.Unwritten = 3

-- the exit status for an answer
abbrev pub status_of : Answer → ℕ
status_of (answers.Checked c) = comparison_status c.comparison
status_of (answers.Sent main channels) = 0
status_of (answers.LoadedSections sections) = 0
status_of (answers.LoadedRounds rounds) = 0
status_of (answers.Compared c) = comparison_status c
status_of (answers.Refused f) = 1
status_of (answers.Unloaded e) = 1
status_of (answers.Failed f) = tool_status f

-- the output that an answer is printed as; for a fault of the tool's own it is the message there
abbrev pub text_of : Answer → Option (List ℕ)
text_of (answers.Checked c) = Some (checked_lines c)
text_of (answers.Sent main channels) = Some (sent_line main channels)
text_of (answers.LoadedSections sections) = Some (loaded_line (codes "sections ") sections)
text_of (answers.LoadedRounds rounds) = Some (loaded_line (codes "rounds ") rounds)
text_of (answers.Compared c) = Some (comparison_line c)
text_of (answers.Refused f) = Some (refused f)
text_of (answers.Unloaded e) = Some (unloaded e)
text_of (answers.Failed f) = None

-- the report that an answer is printed as
abbrev pub printed : Answer → Option Report
printed answer = option_map (λ text. record { text = text; status = status_of answer }) (text_of answer)

-- The answer if a load has no memory to write: its first fault; `NoMemory` after the rounds that it
-- counted, if an allocation was refused; or that its sources weren't read to their end.
abbrev pub unloaded_of : Verdict → ℕ → Answer
unloaded_of (Failed fault) rounds = answers.Unloaded fault
unloaded_of Done rounds = answers.Unloaded (record { round = rounds; source = origin.Round; fault = load_fault.NoMemory })
unloaded_of Running rounds = answers.Failed tool.Unread

-- a comparison of two memories is the answer
abbrev pub IsComparison : Image → Image → Answer → Type 0
IsComparison a b answer = answer ≡ answers.Compared (comparison_of (differing a b).marked)

-- the answer on an input that wasn't read to its end: a fault of its own, or `NoMemory`
abbrev pub IsUnread : Answer → Type 0
IsUnread answer = MatchOption (printed answer) (status_of answer ≡ 3) IsWantOfMemory

-- the answer of a check's result: an `Err` is the answer itself
abbrev pub answer_from : Result Checked Answer → Answer
answer_from (Ok checked) = answers.Checked checked
answer_from (Err other) = other

-- ---- a check

-- The report of a sending of these snapshots on several channels: the main stream's length, the sum
-- of the channels' lengths, at most 2^64 - 1, and the number of rounds.
pub record IsTold (table : RamTable) (layout : Layout) (snapshots : List Snapshot) (c : ChannelsChecked) : Type 0 where
  pub rounds : List DealtRound
  pub main : List ℕ
  pub texts : List (List ℕ)
  pub are_of : map (λ round. round.snapshot) rounds ≡ snapshots
  pub is_sending : IsSending table zero_bytes layout.batch layout.channels rounds main texts
  pub has_main : c.main ≡ length main
  pub has_channels : c.channels ≡ min (sum_by length texts) (2 ^ 64 - 1)
  pub has_rounds : c.rounds ≡ length snapshots

-- the line on channels; empty if the layout has no channels
abbrev pub IsToldAs : RamTable → Layout → List Snapshot → List ℕ → Type 0
IsToldAs table layout snapshots line = ((layout.channels ≡ 0) × (line ≡ [])) ⊎ ((c : ChannelsChecked) × IsTold table layout snapshots c × (line ≡ channels_line c))

-- the snapshots that a scenario sends in a layout
abbrev pub snapshots_in : Layout → List ℕ → List Snapshot
snapshots_in layout text = snapshots_from (bytes_in layout.page_size) (lines_of text)

abbrev pub table_in : Layout → List ℕ → RamTable
table_in layout text = table_of (bytes_in layout.page_size) (lines_of text)

-- the report of a valid scenario: the line on the single stream of its rounds; if there are
-- channels, the line on a sending of them; and `same`
abbrev pub IsReportOfRounds : Layout → List ℕ → Report → Type 0
IsReportOfRounds layout text r = (line : List ℕ) × IsToldAs (table_in layout text) layout (snapshots_in layout text) line
    × (r ≡ record { text = checked (table_in layout text) (rounds_of (snapshots_in layout text)) line; status = 0 })

-- The report of a scenario in a layout: its refusal, or that of its rounds.
abbrev pub IsReport : Layout → List ℕ → Report → Type 0
IsReport layout text r = MatchOption (refusal (bytes_in layout.page_size) text) (IsReportOfRounds layout text r) (λ f. r ≡ record { text = refused f; status = 1 })

-- the answer on an input is printed as a report of it, or reports a refused allocation
abbrev pub Answers : Layout → List ℕ → Answer → Type 0
Answers layout text answer = (r : Report) × (printed answer ≡ Some r) × (IsReport layout text r ⊎ IsWantOfMemory r)

-- the result of loading a stream that is that of rounds of a table
abbrev pub IsLoadOf : {A : Type 0} → ℕ → List ℕ → Loaded A → Type 0
IsLoadOf page_size sent a = (table : RamTable) (rounds : List (List Page)) → IsTable table → table.page_size ≡ page_size → total_bytes table ≤ 2 ^ 40
    → All (IsRound table) rounds → sent ≡ single table rounds → HasLoadedRounds table rounds a ⊎ IsSingleWithoutMemory (ram_settings page_size (2 ^ 40)) sent a

-- A scenario that was executed, and the result of loading the single stream that was sent: the
-- guest's image at the end is that after the rounds.
pub record IsRoundTrip {A : Type 0} (layout : Layout) (text : List ℕ) (image : Image) (sent : List ℕ) (a : Loaded A) : Type 0 where
  pub is_table : IsTable (table_in layout text)
  pub is_sent : sent ≡ single (table_in layout text) (rounds_of (snapshots_in layout text))
  pub has_image : image ≡ after (table_in layout text) (rounds_of (snapshots_in layout text))
  pub is_loaded : HasLoadedRounds (table_in layout text) (rounds_of (snapshots_in layout text)) a ⊎ IsSingleWithoutMemory (ram_settings (bytes_in layout.page_size) (2 ^ 40)) sent a

-- there is a round trip with the single stream that was sent
abbrev pub HasRoundTrip : {A : Type 0} → Layout → List ℕ → Played A → Loaded A → Type 0
HasRoundTrip layout text played a = IsSomeAnd played.texts.single (λ sent. IsRoundTrip layout text played.image sent.items a)

-- the channels' streams are a sending of the scenario's snapshots in this layout; if there are
-- none, the layout has no channels
abbrev pub HasGone : {A : Type 0} → Layout → List ℕ → Option (Sent A) → Type 0
HasGone layout text several = MatchOption several (layout.channels ≡ 0)
    (λ sent. IsSentOf (table_in layout text) zero_bytes layout.batch layout.channels (snapshots_in layout text) sent)

-- a number of channels that a load takes
abbrev pub HasChannels : {A : Type 0} → Sent A → Type 0
HasChannels sent = (1 ≤ length sent.channels.items) × (length sent.channels.items ≤ 255)

-- all rounds were loaded, with the memory after them; or an allocation was refused
abbrev pub BringsBack : {A : Type 0} → RamTable → List Snapshot → Loaded A → Type 0
BringsBack table snapshots a = ((a.memory ≡ Some (after table (rounds_of snapshots))) × (a.rounds ≡ length snapshots) × (a.verdict ≡ Ok _))
    ⊎ (a.verdict ≡ no_memory_at a.rounds)

-- the answer of a load of the streams that were sent on channels under the nil UUID
abbrev pub IsLoadOfSent : {A B : Type 0} → ℕ → Sent B → Loaded A → Type 0
IsLoadOfSent page_size sent a = (table : RamTable) (limit channels : ℕ) (snapshots : List Snapshot) → IsSentOf table zero_bytes limit channels snapshots sent
    → table.page_size ≡ page_size → BringsBack table snapshots a

-- ---- the input

-- The report is that of an input that was read to its end, or it reports a refused allocation.
-- `input` was unread before, and `rest` is unread after.
abbrev pub IsReportOf : Layout → Option (List ℕ) → Option (List ℕ) → Report → Type 0
IsReportOf layout input rest r = ((text : List ℕ) × Consumes input rest text × IsAtEnd rest × IsReport layout text r) ⊎ IsWantOfMemory r

-- the answer was printed, with its status
abbrev pub HasPrinted : Option (List ℕ) → Option (List ℕ) → Answer → ℕ → Type 0
HasPrinted output written answer status = (status ≡ status_of answer) × IfSome (printed answer) (λ r. Appends output written r.text)

-- the answer on an input
abbrev pub AnswersInput : Layout → Option (List ℕ) → Option (List ℕ) → Answer → Type 0
AnswersInput layout input rest answer = MatchOption (printed answer) (status_of answer ≡ 3) (IsReportOf layout input rest)

-- a report of the input was written, and the exit status is the report's
pub record HasReported (layout : Layout) (input rest output written : Option (List ℕ)) (status : ℕ) : Type 0 where
  pub report : Report
  pub is_report : IsReportOf layout input rest report
  pub is_written : Appends output written report.text
  pub has_status : status ≡ report.status
