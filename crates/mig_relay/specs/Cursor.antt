-- An offset in a channel's bytes, and the messages before it.
use Rattle.std.specs.Prelude.{◌≡◌, ◌≢◌, ℕ, ◌+◌, ◌≤◌, true, false, List, [], ◌∷◌, ◌++◌, length, drop, None}
use Rattle.std.specs.List.{concat}
use Rattle.mig_packet.specs.Hello.{hello_len}
use Rattle.mig_packet.specs.Waiting.{room_after}
use Rattle.mig_packet.specs.declared.state.ChannelState.{ChannelState}
use Rattle.mig_packet.specs.Progress.{ChannelProgress, start}
use Rattle.mig_packet.specs.Reading.{Reads, Settings}
use Rattle.mig_packet.specs.ChannelItems.{all_packets}
use Rattle.mig_relay.specs.declared.cursor.Cursor.{Cursor}
use Rattle.mig_relay.specs.declared.log.ChannelText.{ChannelText}
use Rattle.mig_relay.specs.declared.message.Message.{Message}
use Rattle.mig_relay.specs.RelayItems.{with_settings}
use Rattle.mig_relay.specs.Messages.{front_messages, BeginsMessages, is_last}

-- how a cursor's bytes are read
abbrev pub settings_of : Cursor → Settings
settings_of k = record { page_size = k.page_size; uuid = k.uuid; channels = k.channels; waiting = k.waiting }

abbrev pub text_of : Cursor → List ℕ → ChannelText
text_of k text = with_settings (settings_of k) text

-- where the bytes after a hello and these packets begin
abbrev pub place_behind : ChannelProgress → ℕ
place_behind c = hello_len + length (concat (all_packets c))

-- These messages are before the cursor. The reading of the bytes goes on from there, and ends as
-- that of all bytes.
pub record IsBehind (k : Cursor) (text : List ℕ) (done : List Message) : Type 0 where
  pub c : ChannelProgress
  pub has_page_size : c.page_size ≡ k.page_size
  pub has_uuid : c.uuid ≡ k.uuid
  pub has_channels : c.channels ≡ k.channels
  pub has_waiting : c.waiting ≡ k.waiting
  pub has_room : k.room ≡ room_after c.waiting c.packets
  pub has_done : done ≡ front_messages c
  pub has_few : length done ≤ k.at
  pub before_hello : k.greeted ≡ false → (c.hello ≡ None) × (k.at ≡ 0) × (all_packets c ≡ [])
  pub behind_hello : k.greeted ≡ true → (c.hello ≢ None) × (k.at ≡ place_behind c)
  pub synced : k.unsynced ≡ false → c.packets ≡ []
  pub unsynced : k.unsynced ≡ true → c.packets ≢ []
  pub to : ChannelProgress
  pub rest : List ℕ
  pub found : ChannelState
  pub goes_on : Reads c (drop k.at text) to rest found
  pub whole : Reads (start k.page_size k.uuid k.channels k.waiting) text to rest found

-- this is the next message, and the cursor after it
pub record Finds (k : Cursor) (text : List ℕ) (message : Message) (behind : Cursor) : Type 0 where
  pub next : (done : List Message) → IsBehind k text done → BeginsMessages (text_of k text) (done ++ message ∷ [])
  pub goes_on : is_last message ≡ false → (done : List Message) → IsBehind k text done → IsBehind behind text (done ++ message ∷ [])
  pub same : text_of behind text ≡ text_of k text
  pub within : behind.at ≤ length text
