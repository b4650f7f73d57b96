-- A channel's bytes, item by item: a hello, then packets; and how far it has been read after each.
use Rattle.std.specs.Prelude.{ℕ, ◌+◌, ◌*◌, Bool, nat_le, if◌then◌else◌, List, [], ◌∷◌, ◌++◌, length, get_or, Option, Some, None, All}
use Rattle.mig_packet.specs.declared.fault.ChannelFault.{ChannelFault}
use Rattle.mig_packet.specs.PageSize.{IsPageSize, head_len}
use Rattle.mig_packet.specs.Faults.{first_of}
use Rattle.mig_packet.specs.Hello.{hello_len, hello_faults}
use Rattle.mig_packet.specs.Packet.{normal_count, is_sync, IsPacketText}
use Rattle.mig_packet.specs.Waiting.{room_after, packet_faults_within}

-- how far a channel has been read
pub record ChannelProgress : Type 0 where
  pub page_size : ℕ
  -- the UUID and the number of channels that were passed, and the most that may wait in the open
  -- round, or None for any
  pub uuid : List ℕ
  pub channels : ℕ
  pub waiting : Option ℕ
  -- the id in the hello: None before the hello
  pub hello : Option ℕ
  -- the packets of the open round, each as its bytes
  pub packets : List (List ℕ)
  -- the complete rounds: each is the packets up to and with a SYNC packet
  pub rounds : List (List (List ℕ))

abbrev pub start : ℕ → List ℕ → ℕ → Option ℕ → ChannelProgress
start page_size uuid channels waiting =
    record { page_size = page_size; uuid = uuid; channels = channels; waiting = waiting; hello = None; packets = []; rounds = [] }

-- all that is kept are packets of this page size
pub record ArePackets (page_size : ℕ) (packets : List (List ℕ)) (rounds : List (List (List ℕ))) : Type 0 where
  pub has_page_size : IsPageSize page_size
  pub in_open_round : All (IsPacketText page_size) packets
  pub in_rounds : All (All (IsPacketText page_size)) rounds

-- ---- the next item: the hello, and after it a packet with its pages

-- with how many bytes it is tested
abbrev pub judged_len : ℕ → Option ℕ → ℕ
judged_len page_size None = hello_len
judged_len page_size (Some id) = head_len page_size

-- how many bytes it has, by its first bytes
abbrev pub item_len : ℕ → Option ℕ → List ℕ → ℕ
item_len page_size None bytes = hello_len
item_len page_size (Some id) bytes = head_len page_size + normal_count bytes * page_size

abbrev pub faults : ChannelProgress → Option ℕ → List ℕ → List (Bool × ChannelFault)
faults c None bytes = hello_faults c.uuid c.channels bytes
faults c (Some id) bytes = packet_faults_within c.page_size (room_after c.waiting c.packets) bytes

abbrev pub first_fault : ChannelProgress → List ℕ → Option ChannelFault
first_fault c bytes = first_of (faults c c.hello bytes)

-- the fault that is known: none before the bytes that are tested are there; pages may be missing
abbrev pub due_fault : ChannelProgress → List ℕ → Option ChannelFault
due_fault c bytes = if nat_le (judged_len c.page_size c.hello) (length bytes) then first_fault c bytes else None

-- ---- the progress after an item

-- a SYNC packet completes the round
abbrev pub after_packet : ChannelProgress → List ℕ → ChannelProgress
after_packet c packet =
    if is_sync packet then record c { packets = []; rounds = c.rounds ++ (c.packets ++ packet ∷ []) ∷ [] }
    else record c { packets = c.packets ++ packet ∷ [] }

abbrev pub after_item : ChannelProgress → Option ℕ → List ℕ → ChannelProgress
after_item c None item = record c { hello = Some (get_or item 24 0) }
after_item c (Some id) item = after_packet c item

abbrev pub after : ChannelProgress → List ℕ → ChannelProgress
after c item = after_item c c.hello item
