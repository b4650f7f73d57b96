-- The command line: its declaration, and which arguments ask for a check.
use Rattle.std.specs.Prelude.{ℕ, ◌≡◌, ◌≤◌, ◌^◌, ◌⊎◌, true, false, List, [], ◌∷◌, map, MatchOption, IfSome, Some, codes, ⊤, String, string_bytes}
use Rattle.std.specs.Str.Parse.{IsNumeral, digits_value, without_leading_plus}
use Rattle.uuid.specs.Text.{parsed}
use Rattle.clap.specs.Words.{App, Row, Rule, Text, app_of, rule_of, new_app, new_rule, with_rule, with_subcommand, first_value, one_of, subcommand_of, takes}
use Rattle.clap.specs.declared.parser.matches.Found.{Found}
use Rattle.clap.specs.declared.builder.arg.Arg.{Arg}
use Rattle.clap.specs.declared.builder.command.Command.{Command}
use Rattle.clap.specs.declared.builder.command.Command.TheViews.{out-Command as fields_of}
use Rattle.clap.specs.declared.builder.value_parser.ValueParser.TheVariants.{Unsigned}
use Rattle.clap.specs.declared.builder.action.ArgAction.TheVariants.{SetTrue}
use Rattle.mig_packet.specs.PageSize.{page_limit}
use Rattle.mig_scenario.specs.declared.layout.PageSize.{PageSize}
use Rattle.mig_scenario.specs.declared.layout.PageSize.TheVariants.{Small}
use Rattle.mig_scenario.specs.declared.layout.Layout.{Layout}
use Rattle.mig_command.specs.declared.request.LoadRequest.{LoadRequest}
use Rattle.mig_command.specs.declared.request.Request.{Request}
use Rattle.mig_command.specs.declared.request.Request.TheVariants as request
use Rattle.mig_scenario.specs.Layout.{bytes_in, HasRoom}

-- ---- the command line

-- an argument of its command alone, with this rule
pub record IsArg (rule : Rule) (arg : Arg) : Type 0 where
  pub has_rule : rule_of arg ≡ rule
  pub is_local : arg.global ≡ false

-- a command that is declared so
pub record IsCommand (app : App) (command : Command) : Type 0 where
  pub has_app : app_of command ≡ app
  pub has_no_globals : (fields_of command).has_globals ≡ false

-- an option with a whole number in a range
abbrev pub number_rule : Text → ℕ → ℕ → Rule
number_rule name least most = record (new_rule name) { long = Some name; parser = Some (Unsigned least most) }

-- a file's name, which is required
abbrev pub file_rule : Text → Rule
file_rule name = record (new_rule name) { required = true }

abbrev pub channels_rule : Rule
channels_rule = number_rule (codes "channels") 0 255

abbrev pub batch_rule : Rule
batch_rule = number_rule (codes "batch") 1 128

abbrev pub uuid_rule : Rule
uuid_rule = record (new_rule (codes "uuid")) { long = Some (codes "uuid") }

abbrev pub limit_rule : Rule
limit_rule = number_rule (codes "limit") 1 (2 ^ 40)

abbrev pub feed_rule : Rule
feed_rule = record (new_rule (codes "feed")) { long = Some (codes "feed"); action = Some SetTrue }

abbrev pub page_rule : Rule
page_rule = number_rule (codes "page") 4096 8192

abbrev pub check_app : App
check_app = with_rule (with_rule (with_rule (new_app (codes "check")) channels_rule) batch_rule) page_rule

abbrev pub send_app : App
send_app = with_rule (with_rule (with_rule (with_rule (with_rule (with_rule (new_app (codes "send"))
    (file_rule (codes "scenario"))) (file_rule (codes "output"))) channels_rule) batch_rule) uuid_rule) page_rule

abbrev pub load_app : App
load_app = with_rule (with_rule (with_rule (with_rule (with_rule (with_rule (with_rule (new_app (codes "load"))
    (file_rule (codes "main"))) (file_rule (codes "image"))) channels_rule) uuid_rule) limit_rule) feed_rule) page_rule

abbrev pub compare_app : App
compare_app = with_rule (with_rule (with_rule (new_app (codes "compare")) (file_rule (codes "scenario"))) (file_rule (codes "image"))) page_rule

-- the program; its arguments don't begin with the program's name
abbrev pub program_app : App
program_app = let named = new_app (codes "mig_tool") in record named { top = record named.top { no_binary_name = true } }

abbrev pub tool_app : App
tool_app = with_subcommand (with_subcommand (with_subcommand (with_subcommand program_app check_app.top) send_app.top) load_app.top) compare_app.top

-- ---- requests

-- the arguments as lists of bytes
abbrev pub texts_of : {A : Type 0} → List (String A) → List Text
texts_of words = map string_bytes words

-- a single stream without channels, with pages of 4096 bytes, and as many pages in a packet as it
-- has room for
abbrev pub plain_layout : Layout
plain_layout = record { page_size = Small; channels = 0; batch = 128 }

-- the number of an option: its value in decimal digits, or its default if the option isn't used
abbrev pub Gives : List Row → Text → ℕ → ℕ → Type 0
Gives rows option without number = MatchOption (one_of option rows) (number ≡ without)
    (λ text. IsNumeral 10 (without_leading_plus text) × (number ≡ digits_value 10 (without_leading_plus text)))

-- The options of `check` give this layout. The defaults are pages of 4096 bytes, no channels, and
-- the most pages that a packet has room for. A packet has room for the batch.
pub record GiveLayout (rows : List Row) (layout : Layout) : Type 0 where
  pub gives_page : Gives rows (codes "page") 4096 (bytes_in layout.page_size)
  pub gives_channels : Gives rows (codes "channels") 0 layout.channels
  pub gives_batch : Gives rows (codes "batch") (page_limit (bytes_in layout.page_size)) layout.batch
  pub few_channels : layout.channels ≤ 255
  pub has_room : HasRoom layout

-- The arguments ask for a check in a layout: there are no arguments, and the layout is the plain
-- one; or the command line accepts them, the command is `check`, and its options give the layout.
abbrev pub AskCheck : List Text → Layout → Type 0
AskCheck words layout = ((words ≡ []) × (layout ≡ plain_layout))
    ⊎ ((rows : List Row) × (takes tool_app words ≡ true) × (subcommand_of tool_app words ≡ Some (codes "check", rows)) × GiveLayout rows layout)

-- The command line accepts the arguments, they name this command, and these are its options.
pub record AskCommand (words : List Text) (command : Text) (rows : List Row) : Type 0 where
  pub is_taken : takes tool_app words ≡ true
  pub is_met : subcommand_of tool_app words ≡ Some (command, rows)

-- The arguments ask for `send` in a layout, which its options give in the way of `check`.
abbrev pub AskSend : List Text → Layout → Type 0
AskSend words layout = (rows : List Row) × AskCommand words (codes "send") rows × GiveLayout rows layout

-- The options of `load` give the page size, the number of channels and the most bytes of a guest.
-- The defaults are pages of 4096 bytes, no channels, and 2^30 bytes.
pub record GiveLoad (rows : List Row) (page_size : PageSize) (channels limit : ℕ) : Type 0 where
  pub gives_page : Gives rows (codes "page") 4096 (bytes_in page_size)
  pub gives_channels : Gives rows (codes "channels") 0 channels
  pub gives_limit : Gives rows (codes "limit") (2 ^ 30) limit
  pub few_channels : channels ≤ 255
  pub keeps_most : limit ≤ 2 ^ 40

-- The arguments ask for `load`, and its options give these.
abbrev pub AskLoad : List Text → PageSize → ℕ → ℕ → Type 0
AskLoad words page_size channels limit = (rows : List Row) × AskCommand words (codes "load") rows
    × GiveLoad rows page_size channels limit

-- the request sends a scenario in this layout
abbrev pub SendsIn : Layout → Request → Type 0
SendsIn layout (request.Check other) = ⊥
SendsIn layout (request.Send send) = send.layout ≡ layout
SendsIn layout (request.Load load) = ⊥
SendsIn layout (request.Compare compare) = ⊥

-- a load's page size, channels and limit
pub record LoadsWith (page_size : PageSize) (channels limit : ℕ) (load : LoadRequest) : Type 0 where
  pub has_page : load.page_size ≡ page_size
  pub has_channels : load.channels ≡ channels
  pub has_limit : load.limit ≡ limit

-- the request loads files with these
abbrev pub LoadsIn : PageSize → ℕ → ℕ → Request → Type 0
LoadsIn page_size channels limit (request.Check layout) = ⊥
LoadsIn page_size channels limit (request.Send send) = ⊥
LoadsIn page_size channels limit (request.Load load) = LoadsWith page_size channels limit load
LoadsIn page_size channels limit (request.Compare compare) = ⊥

-- if the options have a UUID, it has one of a UUID's forms
abbrev pub HasUuid : Found → Type 0
HasUuid found = IfSome (first_value found (codes "uuid")) (λ text. (u : List ℕ) × (parsed text ≡ Some u))

-- No arguments, or `check` alone.
abbrev pub AskPlainCheck : List Text → Type 0
AskPlainCheck words = (words ≡ []) ⊎ (words ≡ codes "check" ∷ [])

-- if the request is a check, P holds of its layout
abbrev pub IfCheck : Request → (Layout → Type 0) → Type 0
IfCheck (request.Check layout) P = P layout
IfCheck (request.Send send) P = ⊤
IfCheck (request.Load load) P = ⊤
IfCheck (request.Compare compare) P = ⊤

-- the request keeps the limits: a packet has room for a batch, and the most bytes of a loaded guest
-- are at most those of the largest table
abbrev pub KeepsLimits : Request → Type 0
KeepsLimits (request.Check layout) = HasRoom layout
KeepsLimits (request.Send send) = HasRoom send.layout
KeepsLimits (request.Load load) = load.limit ≤ 2 ^ 40
KeepsLimits (request.Compare compare) = ⊤
