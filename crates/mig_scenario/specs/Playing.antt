-- The senders of a scenario's rounds: the snapshots that they have sent, and the streams that they
-- wrote.
use Rattle.std.specs.Prelude.{◌≡◌, ℕ, List, [], map, length, None, is_some, MatchOption, IsSomeAnd, IfSome}
use Rattle.mig_mem.specs.RamTable.{RamTable}
use Rattle.mig_mem.specs.Tracking.{Snapshot, rounds_of}
use Rattle.mig_stream.specs.Written.{single}
use Rattle.mig_send.specs.Sending.{HasSent}
use Rattle.mig_send.specs.DealtRounds.{DealtRound, IsSending}
use Rattle.mig_send.specs.MultiSending.{MultiSending, HasSentRounds, KeepsSetting, nothing_drained, texts_of}
use Rattle.mig_send.specs.declared.multi.Sent.{Sent}
use Rattle.mig_scenario.specs.declared.layout.Layout.{Layout}
use Rattle.mig_scenario.specs.declared.senders.Senders.{Senders}
use Rattle.mig_scenario.specs.declared.senders.Texts.{Texts}

-- ---- on several channels

-- the snapshots of these rounds, in their order
abbrev pub AreOf : List DealtRound → List Snapshot → Type 0
AreOf rounds snapshots = map (λ round. round.snapshot) rounds ≡ snapshots

-- the sender has sent these snapshots, however they were dealt, and nothing was drained of it
abbrev pub HasDealt : MultiSending → List Snapshot → Type 0
HasDealt sender snapshots = (rounds : List DealtRound) × AreOf rounds snapshots × HasSentRounds nothing_drained sender rounds

-- the streams are those of a sending of these snapshots, however they were dealt
abbrev pub IsSentOf : {A : Type 0} → RamTable → List ℕ → ℕ → ℕ → List Snapshot → Sent A → Type 0
IsSentOf table uuid limit channels snapshots sent = (rounds : List DealtRound) × AreOf rounds snapshots
    × IsSending table uuid limit channels rounds sent.main.items (texts_of sent.channels.items)

-- a sender on a layout's channels that has sent nothing yet
pub record IsNewSender (table : RamTable) (uuid : List ℕ) (layout : Layout) (sender : MultiSending) : Type 0 where
  pub has_table : sender.main.table ≡ table
  pub has_uuid : sender.uuid ≡ uuid
  pub has_limit : sender.limit ≡ layout.batch
  pub has_channels : length sender.channels ≡ layout.channels
  pub has_sent_none : HasSentRounds nothing_drained sender []

-- ---- all senders

-- the senders have this table
pub record AreSendersOf {A : Type 0} (table : RamTable) (senders : Senders A) : Type 0 where
  pub single_table : IfSome senders.single (λ s. s.table ≡ table)
  pub several_table : IfSome senders.several (λ s. s.main.table ≡ table)

-- each of the senders has sent these snapshots
pub record HaveSent {A : Type 0} (senders : Senders A) (snapshots : List Snapshot) : Type 0 where
  pub single_sent : IfSome senders.single (λ s. HasSent s (rounds_of snapshots))
  pub several_sent : IfSome senders.several (λ s. HasDealt s snapshots)

-- the two have senders of the same kinds with the same settings, whatever they have sent
pub record AreLike {A : Type 0} (old new : Senders A) : Type 0 where
  pub single_like : is_some new.single ≡ is_some old.single
  pub several_like : MatchOption old.several (new.several ≡ None) (λ s. IsSomeAnd new.several (λ t. KeepsSetting s t))

-- The streams of the senders that there are: the single stream of these snapshots' rounds, and a
-- sending of the snapshots on channels.
pub record AreTexts {A : Type 0} (table : RamTable) (senders : Senders A) (snapshots : List Snapshot) (texts : Texts A) : Type 0 where
  pub single_text : MatchOption senders.single (texts.single ≡ None) (λ s. IsSomeAnd texts.single (λ text. text.items ≡ single table (rounds_of snapshots)))
  pub several_texts : MatchOption senders.several (texts.several ≡ None)
      (λ s. IsSomeAnd texts.several (λ sent. IsSentOf table s.uuid s.limit (length s.channels) snapshots sent))
