-- The numbers of QEMU's migration stream, each with its name there. Those of the stream and its
-- sections are in `migration/savevm.h`. Those of RAM's records are in `migration/ram.c` (`ram.h` in
-- newer versions), whose `ram_mig_init` has the section's name, instance and version.
use Rattle.std.specs.Prelude.{ℕ, ◌+◌, List, [], ◌∷◌}
use Rattle.mig_stream.specs.declared.item.Section.{Section}
use Rattle.mig_stream.specs.declared.item.Section.TheVariants.{Start, Part, End}
use Rattle.mig_stream.specs.declared.item.Subsection.{Subsection}
use Rattle.mig_stream.specs.declared.item.Subsection.TheVariants.{PageBits, Uuid, Capabilities}
use Rattle.mig_stream.specs.declared.item.Filling.{Filling}
use Rattle.mig_stream.specs.declared.item.Filling.TheVariants.{Zero, Normal}
use Rattle.mig_stream.specs.declared.item.RecordKind.{RecordKind}
use Rattle.mig_stream.specs.declared.item.RecordKind.TheVariants.{SizeList, Named, Continued, EndOfSection, Flush}

-- QEMU_VM_FILE_MAGIC, "QEVM", and QEMU_VM_FILE_VERSION
abbrev pub magic : ℕ
magic = 0x5145564D

abbrev pub version : ℕ
version = 3

-- QEMU_VM_EOF
abbrev pub end_byte : ℕ
end_byte = 0x00

-- QEMU_VM_SECTION_START, QEMU_VM_SECTION_PART, QEMU_VM_SECTION_END
abbrev pub section_type : Section → ℕ
section_type Start = 0x01
section_type Part = 0x02
section_type End = 0x03

-- QEMU_VM_SECTION_FULL, a device's section that is complete at once
abbrev pub full_type : ℕ
full_type = 0x04

-- QEMU_VM_SUBSECTION
abbrev pub subsection_type : ℕ
subsection_type = 0x05

-- QEMU_VM_COMMAND
abbrev pub command_type : ℕ
command_type = 0x08

-- QEMU_VM_CONFIGURATION
abbrev pub configuration_type : ℕ
configuration_type = 0x07

-- QEMU_VM_SECTION_FOOTER
abbrev pub footer_type : ℕ
footer_type = 0x7E

-- The subsections of the configuration: "configuration/target-page-bits", "configuration/uuid",
-- "configuration/capabilities" (`vmstate_configuration` in `migration/savevm.c`). Each has version
-- 1.
unfoldable pub subsection_name : Subsection → List ℕ
subsection_name PageBits =
    0x63 ∷ 0x6F ∷ 0x6E ∷ 0x66 ∷ 0x69 ∷ 0x67 ∷ 0x75 ∷ 0x72 ∷ 0x61 ∷ 0x74 ∷ 0x69 ∷ 0x6F ∷ 0x6E ∷ 0x2F ∷ 0x74 ∷ 0x61 ∷ 0x72 ∷ 0x67 ∷ 0x65 ∷ 0x74 ∷ 0x2D ∷ 0x70 ∷ 0x61 ∷ 0x67 ∷ 0x65 ∷ 0x2D ∷ 0x62 ∷ 0x69 ∷ 0x74 ∷ 0x73 ∷ []
subsection_name Uuid = 0x63 ∷ 0x6F ∷ 0x6E ∷ 0x66 ∷ 0x69 ∷ 0x67 ∷ 0x75 ∷ 0x72 ∷ 0x61 ∷ 0x74 ∷ 0x69 ∷ 0x6F ∷ 0x6E ∷ 0x2F ∷ 0x75 ∷ 0x75 ∷ 0x69 ∷ 0x64 ∷ []
subsection_name Capabilities =
    0x63 ∷ 0x6F ∷ 0x6E ∷ 0x66 ∷ 0x69 ∷ 0x67 ∷ 0x75 ∷ 0x72 ∷ 0x61 ∷ 0x74 ∷ 0x69 ∷ 0x6F ∷ 0x6E ∷ 0x2F ∷ 0x63 ∷ 0x61 ∷ 0x70 ∷ 0x61 ∷ 0x62 ∷ 0x69 ∷ 0x6C ∷ 0x69 ∷ 0x74 ∷ 0x69 ∷ 0x65 ∷ 0x73 ∷ []

abbrev pub subsections : List Subsection
subsections = PageBits ∷ Uuid ∷ Capabilities ∷ []

abbrev pub subsection_version : ℕ
subsection_version = 1

-- The capabilities that change the layout of RAM's section, the only ones that QEMU writes
-- (`should_validate_capability` in `migration/savevm.c`). With "x-ignore-shared" each entry of the
-- size list has the guest address of its block too.
unfoldable pub ignore_shared : List ℕ
ignore_shared = 0x78 ∷ 0x2D ∷ 0x69 ∷ 0x67 ∷ 0x6E ∷ 0x6F ∷ 0x72 ∷ 0x65 ∷ 0x2D ∷ 0x73 ∷ 0x68 ∷ 0x61 ∷ 0x72 ∷ 0x65 ∷ 0x64 ∷ []

-- With "mapped-ram" pages are at fixed places of a file. It isn't read.
unfoldable pub mapped_ram : List ℕ
mapped_ram = 0x6D ∷ 0x61 ∷ 0x70 ∷ 0x70 ∷ 0x65 ∷ 0x64 ∷ 0x2D ∷ 0x72 ∷ 0x61 ∷ 0x6D ∷ []

-- MIG_CMD_POSTCOPY_ADVISE
abbrev pub advise_command : ℕ
advise_command = 3

-- How many bytes of data it has if it allows postcopy of RAM: the page sizes of all blocks in one
-- number, and the guest's page size (`qemu_savevm_send_postcopy_advise`). For dirty bitmaps alone
-- it has none.
abbrev pub advise_bytes : ℕ
advise_bytes = 16

-- Page sizes of a host, and so of its blocks, are multiples of this.
abbrev pub least_page_size : ℕ
least_page_size = 4096

-- The COMMANDs that are passed over: MIG_CMD_OPEN_RETURN_PATH, MIG_CMD_PING,
-- MIG_CMD_POSTCOPY_ADVISE, MIG_CMD_ENABLE_COLO and MIG_CMD_SWITCHOVER_START (`enum qemu_vm_cmd` in
-- `migration/savevm.c`).
abbrev pub passed_commands : List ℕ
passed_commands = 1 ∷ 2 ∷ advise_command ∷ 8 ∷ 11 ∷ []

-- A device's section that QEMU writes whole before RAM's pages: what virtio-mem says of its memory
-- (`vmstate_virtio_mem_device_early` in `hw/virtio/virtio-mem.c`). Its name is the device's path,
-- and then "/virtio-mem-device-early".
unfoldable pub early_name : List ℕ
early_name = 0x2F ∷ 0x76 ∷ 0x69 ∷ 0x72 ∷ 0x74 ∷ 0x69 ∷ 0x6F ∷ 0x2D ∷ 0x6D ∷ 0x65 ∷ 0x6D ∷ 0x2D ∷ 0x64 ∷ 0x65 ∷ 0x76 ∷ 0x69 ∷ 0x63 ∷ 0x65 ∷ 0x2D ∷ 0x65 ∷ 0x61 ∷ 0x72 ∷ 0x6C ∷ 0x79 ∷ []

abbrev pub early_version : ℕ
early_version = 1

-- RAM's section: "ram", its instance, and its version
abbrev pub ram_name : List ℕ
ram_name = 0x72 ∷ 0x61 ∷ 0x6D ∷ []

abbrev pub ram_instance : ℕ
ram_instance = 0

abbrev pub ram_version : ℕ
ram_version = 4

-- RAM_SAVE_FLAG_ZERO, RAM_SAVE_FLAG_PAGE
abbrev pub filling_flag : Filling → ℕ
filling_flag Zero = 0x02
filling_flag Normal = 0x08

-- RAM_SAVE_FLAG_CONTINUE
abbrev pub continue_flag : ℕ
continue_flag = 0x20

-- RAM_SAVE_FLAG_MEM_SIZE, RAM_SAVE_FLAG_EOS, RAM_SAVE_FLAG_MULTIFD_FLUSH, and those of page records
abbrev pub flags_of : RecordKind → ℕ
flags_of SizeList = 0x004
flags_of (Named filling) = filling_flag filling
flags_of (Continued filling) = filling_flag filling + continue_flag
flags_of EndOfSection = 0x010
flags_of Flush = 0x200

abbrev pub record_kinds : List RecordKind
record_kinds = SizeList ∷ Named Zero ∷ Named Normal ∷ Continued Zero ∷ Continued Normal ∷ EndOfSection ∷ Flush ∷ []

-- A limit of this project: the most bytes of the name in a configuration.
abbrev pub most_name_bytes : ℕ
most_name_bytes = 1024
