-- What follows RAM in a machine's stream: the devices' sections, the end byte, and the description of
-- the devices (`qemu_savevm_state_complete_precopy_non_iterable` in `migration/savevm.c`, QEMU).
use Rattle.std.specs.Prelude.{ℕ, ◌≡◌, ◌≢◌, ◌≤◌, ◌<◌, ◌^◌, ◌-◌, ◌⊎◌, ℤ, List, [], ◌∷◌, ◌++◌, length, take, drop, All, slice_get}
use Rattle.std.specs.Prelude.{Option, Some, IsSome, option_and_then, IsUtf8, codes, ⊤}
use Rattle.std.specs.Int.{w32, to_be_bytes}
use Rattle.serde_json.specs.Data.{Data, Num, Items, no_items, item}
use Rattle.serde_json.specs.Find.{get, as_str, as_number, as_i64, as_u64, as_array}
use Rattle.serde_json.specs.Read.{read}

-- the member of this name, if it is a string
abbrev pub string_at : List ℕ → Data → Option (List ℕ)
string_at name entry = option_and_then as_str (get name entry)

-- the member of this name, if it is a number
abbrev pub number_at : List ℕ → Data → Option Num
number_at name entry = option_and_then as_number (get name entry)

-- the member of this name, if it is an i64
abbrev pub signed_at : List ℕ → Data → Option ℤ
signed_at name entry = option_and_then as_i64 (number_at name entry)

-- the member of this name, if it is a u64
abbrev pub unsigned_at : List ℕ → Data → Option ℕ
unsigned_at name entry = option_and_then as_u64 (number_at name entry)

-- the member of this name, if it is an array
abbrev pub array_at : List ℕ → Data → Option Items
array_at name entry = option_and_then as_array (get name entry)

-- The state of a device has a layout with a version, or a size alone.
abbrev pub HasState : Data → Type 0
HasState entry =
    (IsSome (string_at (codes "vmsd_name") entry) × IsSome (signed_at (codes "version") entry)) ⊎ IsSome (unsigned_at (codes "size") entry)

-- What QEMU writes of a device: `vmstate_save` in `migration/savevm.c`.
pub record IsDevice (entry : Data) : Type 0 where
  pub has_name : IsSome (string_at (codes "name") entry)
  pub has_instance : IsSome (signed_at (codes "instance_id") entry)
  pub has_state : HasState entry
  pub has_fields : IsSome (array_at (codes "fields") entry)

-- each item is a device
abbrev pub AreDevices : Items → Type 0
AreDevices no_items = ⊤
AreDevices (item entry entries) = IsDevice entry × AreDevices entries

-- The value of a description has a list of devices.
pub record ListsDevices (value : Data) : Type 0 where
  pub devices : Items
  pub is_list : array_at (codes "devices") value ≡ Some devices
  pub are_devices : AreDevices devices

-- The description of the devices is JSON.
pub record IsDescription (text : List ℕ) : Type 0 where
  pub is_utf8 : IsUtf8 text
  pub value : Data
  pub is_json : read text ≡ Some value
  pub lists_devices : ListsDevices value

-- The longest description that is read, in bytes. Of a longer one only the first two bytes and the
-- last one are checked.
abbrev pub most_read : ℕ
most_read = 4194304

-- These bytes describe the devices, as far as it is checked. They are JSON, which has no zero byte.
pub record DescribesDevices (text : List ℕ) : Type 0 where
  pub has_length : length text < 2 ^ 32
  pub begins : take 2 text ≡ codes "{\""
  pub has_no_zero : All (λ byte. byte ≢ 0) text
  pub is_description : length text ≤ most_read → IsDescription text
  pub ends : most_read < length text → drop (length text - 1) text ≡ codes "}"

-- The end byte (`QEMU_VM_EOF`), and before a description its type (`QEMU_VM_VMDESCRIPTION`) and its
-- length.
abbrev pub head : ℕ → List ℕ
head len = 0 ∷ 6 ∷ to_be_bytes w32 len

-- After these bytes of the tail come the end byte and a description, with which it ends.
pub record HasDescription (sections tail : List ℕ) : Type 0 where
  pub text : List ℕ
  pub is_tail : tail ≡ sections ++ (head (length text) ++ text)
  pub describes : DescribesDevices text

-- The tail is the devices' sections, the end byte and a description. There may be no section. A
-- section begins with its type, which isn't 0.
pub record EndsDescribed (tail : List ℕ) : Type 0 where
  pub sections : List ℕ
  pub has_type : slice_get sections 0 ≢ Some 0
  pub has_description : HasDescription sections tail

-- The bytes after RAM are complete: the end byte alone, or with a description, with which they end.
-- Devices' sections don't have their length, so without a description it isn't known where they end.
abbrev pub IsWholeEnding : List ℕ → Type 0
IsWholeEnding tail = (tail ≡ 0 ∷ []) ⊎ EndsDescribed tail
