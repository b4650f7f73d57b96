-- The object of a handle, by its kind, and what a call makes of it.
use Rattle.std.specs.Prelude.{ℕ, Bool, List, Option, None, Some, ⊤}
use Rattle.mig_mem.specs.RamTable.{RamTable}
use Rattle.mig_mem.specs.PlaceSet.{PlaceSet}
use Rattle.mig_c_calls.specs.declared.send.GuestSend.{GuestSend}
use Rattle.mig_c_calls.specs.declared.sending.HeldWorker.{HeldWorker}
use Rattle.mig_c_loads.specs.declared.settings.AskedSettings.{AskedSettings}
use Rattle.mig_c_loads.specs.declared.load.Load.{Load}
use Rattle.mig_c_loads.specs.Loads.{OpensLoad, filled_of}
use Rattle.mig_c_mapped.specs.Loads.{ReadFile}
use Rattle.mig_c_mapped.specs.Sends.{FileInHand, OpensSend}
use Rattle.mig_c.specs.declared.object.Object.{Object}
use Rattle.mig_c.specs.declared.object.Object.TheVariants as object

-- the table, load or other value of an object
abbrev pub table_in : Option Object → Option RamTable
table_in None = None
table_in (Some (object.Table x)) = Some x
table_in (Some (object.Load x)) = None
table_in (Some (object.Send x)) = None
table_in (Some (object.Worker x)) = None
table_in (Some (object.File x)) = None
table_in (Some (object.Sent x)) = None
table_in (Some object.Empty) = None

abbrev pub load_in : Option Object → Option Load
load_in None = None
load_in (Some (object.Table x)) = None
load_in (Some (object.Load x)) = Some x
load_in (Some (object.Send x)) = None
load_in (Some (object.Worker x)) = None
load_in (Some (object.File x)) = None
load_in (Some (object.Sent x)) = None
load_in (Some object.Empty) = None

abbrev pub send_in : Option Object → Option GuestSend
send_in None = None
send_in (Some (object.Table x)) = None
send_in (Some (object.Load x)) = None
send_in (Some (object.Send x)) = Some x
send_in (Some (object.Worker x)) = None
send_in (Some (object.File x)) = None
send_in (Some (object.Sent x)) = None
send_in (Some object.Empty) = None

abbrev pub worker_in : Option Object → Option HeldWorker
worker_in None = None
worker_in (Some (object.Table x)) = None
worker_in (Some (object.Load x)) = None
worker_in (Some (object.Send x)) = None
worker_in (Some (object.Worker x)) = Some x
worker_in (Some (object.File x)) = None
worker_in (Some (object.Sent x)) = None
worker_in (Some object.Empty) = None

abbrev pub file_in : Option Object → Option ReadFile
file_in None = None
file_in (Some (object.Table x)) = None
file_in (Some (object.Load x)) = None
file_in (Some (object.Send x)) = None
file_in (Some (object.Worker x)) = None
file_in (Some (object.File x)) = Some x
file_in (Some (object.Sent x)) = None
file_in (Some object.Empty) = None

abbrev pub sent_in : Option Object → Option FileInHand
sent_in None = None
sent_in (Some (object.Table x)) = None
sent_in (Some (object.Load x)) = None
sent_in (Some (object.Send x)) = None
sent_in (Some (object.Worker x)) = None
sent_in (Some (object.File x)) = None
sent_in (Some (object.Sent x)) = Some x
sent_in (Some object.Empty) = None

-- the pages that may hold something else than zeros, of a load into blocks that were zeros
abbrev pub filled_in : Option Load → Option PlaceSet
filled_in None = None
filled_in (Some l) = filled_of l

-- A load is made with a table.
abbrev pub Opens : Option RamTable → List ℕ → ℕ → AskedSettings → ℕ → Option Load → Type 0
Opens None uuid channels asked status made = ⊤
Opens (Some table) uuid channels asked status made = OpensLoad table uuid channels asked status made

-- A send as a file is made with a table.
abbrev pub Lays : Option RamTable → Bool → List ℕ → ℕ → Option FileInHand → Type 0
Lays None big_endian name status made = ⊤
Lays (Some table) big_endian name status made = OpensSend table big_endian name status made

-- The call is passed an object of its kind and leaves one, and this holds between the two.
abbrev pub Turns : {A : Type 0} → (A → A → Type 0) → Option A → Option A → Type 0
Turns step None new = ⊤
Turns step (Some old) None = ⊥
Turns step (Some old) (Some new) = step old new

-- The call is passed an object of its kind, and this holds of it.
abbrev pub Tells : {A : Type 0} → (A → Type 0) → Option A → Type 0
Tells fact None = ⊤
Tells fact (Some x) = fact x
