-- The laws of a channel's bytes without the packets of devices.
use Rattle.std.proofs.Common.{ℕ, ◌≡◌, ◌+◌, ◌-◌, ◌*◌, ◌<◌, ◌≤◌, Bool, true, false, cond, not, List, [], ◌∷◌, ◌++◌, length, take, drop, refl, sym, ap, ◌∙◌}
use Rattle.std.proofs.Common.{append_assoc, inl, inr, arith, ◌⊎◌}
use Rattle.std.specs.Prelude.{◌==◌, ◌&&◌, nat_le, nat_lt, is_none}
use Rattle.std.specs.List.{AllByRecursion, concat, filter}
use Rattle.std.proofs.lemmas.Bool.{cases_lt, le-leb, lt-leb, ne_eqb}
use Rattle.std.proofs.lemmas.List.{append-nil, length-append, length-take-le, length-drop, take-append-drop, take_at, drop_at, take_all, drop_all}
use Rattle.mig_packet.specs.declared.fault.ChannelFault.{ChannelFault}
use Rattle.mig_packet.specs.declared.fault.ChannelFault.TheVariants as fault
use Rattle.mig_packet.specs.Fields.{be32_at}
use Rattle.mig_packet.specs.PageSize.{page_limit, head_len}
use Rattle.mig_packet.specs.Faults.{first_of}
use Rattle.mig_packet.specs.Hello.{hello_len}
use Rattle.mig_packet.specs.Packet.{IsPacketText, flags_in, normal_count, packet_faults}
use Rattle.mig_packet.proofs.Places.{be32_at-front}
use Rattle.mig_packet.proofs.Judging.{text_free}
use Rattle.zimgasol_page_packets.specs.Packets.{front_len, is_device, state_len, is_of_pages, rest_len, IsDevicePacket}
use Rattle.zimgasol_page_packets.specs.Parted.{Parted, all_given, with_front, with_device, part, without_devices}
use Rattle.zimgasol_page_packets.specs.Law.{PacketsOfPagesStay, OthersStay, CutsStay, ChannelsWithoutDevicesStay}
use Rattle.zimgasol_page_packets.proofs.Parting.{part_short, part_front}

-- a number in the first bytes
in_front : (at : ℕ) (bytes : List ℕ) → at + 4 ≤ front_len → front_len ≤ length bytes → be32_at at (take front_len bytes) ≡ be32_at at bytes
in_front at bytes le long =
    sym (be32_at-front at (take front_len bytes) (drop front_len bytes) (omega (arith, le, long, length-take-le front_len bytes long)))
    ∙ ap (be32_at at) (take-append-drop front_len bytes)

-- is_device, by its three numbers
abbrev device_by : ℕ → ℕ → ℕ → Bool
device_by magic version flags = (magic == 0x11223344) && ((version == 1) && (flags == 0x40))

by_numbers : (bytes : List ℕ) (m v f : ℕ) → be32_at 0 bytes ≡ m → be32_at 4 bytes ≡ v → flags_in bytes ≡ f → is_device bytes ≡ device_by m v f
by_numbers bytes m v f a b c =
    ap (λ (x : ℕ). (x == 0x11223344) && ((be32_at 4 bytes == 1) && (flags_in bytes == 0x40))) a
    ∙ ap (λ (x : ℕ). (m == 0x11223344) && ((x == 1) && (flags_in bytes == 0x40))) b
    ∙ ap (λ (x : ℕ). (m == 0x11223344) && ((v == 1) && (x == 0x40))) c

device_is : (packet : List ℕ) → IsDevicePacket packet → is_device packet ≡ true
device_is packet is = by_numbers packet 0x11223344 1 0x40 is.has_magic is.has_version is.has_flags

pages_isnt : (page_size : ℕ) (packet : List ℕ) → IsPacketText page_size packet → is_device packet ≡ false
pages_isnt page_size packet is =
    by_numbers packet 0x11223344 1 (flags_in packet) is.has_magic is.has_version refl
    ∙ ne_eqb (flags_in packet) 0x40 (λ e. omega (arith, e, is.has_flags))

device_front : (bytes : List ℕ) → front_len ≤ length bytes → is_device (take front_len bytes) ≡ is_device bytes
device_front bytes long = by_numbers (take front_len bytes) (be32_at 0 bytes) (be32_at 4 bytes) (flags_in bytes)
    (in_front 0 bytes (omega arith) long) (in_front 4 bytes (omega arith) long) (in_front 8 bytes (omega arith) long)

-- a packet's bytes before others
cut_front : (packet rest : List ℕ) → packet ++ rest ≡ take front_len packet ++ (drop front_len packet ++ rest)
cut_front packet rest =
    ap (λ (l : List ℕ). l ++ rest) (sym (take-append-drop front_len packet)) ∙ append_assoc (take front_len packet) (drop front_len packet) rest

device_over : (s : ℕ) (packet rest : List ℕ) → IsDevicePacket packet → part s (packet ++ rest) ≡ with_device (length packet) (part s rest)
device_over s packet rest is =
    let front : List ℕ = take front_len packet in
    let state : List ℕ = drop front_len packet in
    let more : List ℕ = state ++ rest in
    let n : ℕ = state_len front in
    let long : front_len ≤ length packet = omega (arith, is.has_length) in
    let len : n ≡ length state = in_front 272 packet (omega arith) long ∙ omega (arith, is.has_length, length-drop front_len packet) in
    let dev : is_device front ≡ true = device_front packet long ∙ device_is packet is in
    let whole : nat_le n (length more) ≡ true = le-leb n (length more) (omega (arith, len, length-append state rest)) in
    let others : Parted = cond (is_of_pages s front) (with_front (front ++ take (rest_len s front) more) (part s (drop (rest_len s front) more)))
    (all_given (front ++ more)) in
    let over : ℕ → Bool → List ℕ → Parted = λ k b l. cond b (with_device k (part s l)) (all_given front) in
    ap (part s) (cut_front packet rest) ∙ part_front s front more (length-take-le front_len packet long)
    ∙ ap (λ (b : Bool). cond b (over (front_len + n) (nat_le n (length more)) (drop n more)) others) dev
    ∙ ap (λ (b : Bool). over (front_len + n) b (drop n more)) whole
    ∙ ap (λ (l : List ℕ). with_device (front_len + n) (part s l)) (drop_at state rest n (sym len))
    ∙ ap (λ (k : ℕ). with_device k (part s rest)) (omega (arith, len, long, length-drop front_len packet))

-- the faults of a head depend on its first bytes
faults_front : (s : ℕ) (bytes : List ℕ) → front_len ≤ length bytes → packet_faults s (take front_len bytes) ≡ packet_faults s bytes
faults_front s bytes long =
    let f : List ℕ = take front_len bytes in
    let list : ℕ → ℕ → ℕ → ℕ → ℕ → ℕ → List (Bool × ChannelFault) = λ m v g n z c.
    (not (m == 0x11223344), fault.PacketMagic) ∷ (not (v == 1), fault.PacketVersion) ∷ (nat_lt 1 g, fault.PacketFlags g)
    ∷ (nat_lt (page_limit s) (n + z), fault.PageCount) ∷ (not (n == 0) && not (c == n * s), fault.PacketSize) ∷ [] in
    ap (λ (x : ℕ). list x (be32_at 4 f) (be32_at 8 f) (be32_at 16 f) (be32_at 32 f) (be32_at 20 f)) (in_front 0 bytes (omega arith) long)
    ∙ ap (λ (x : ℕ). list (be32_at 0 bytes) x (be32_at 8 f) (be32_at 16 f) (be32_at 32 f) (be32_at 20 f)) (in_front 4 bytes (omega arith) long)
    ∙ ap (λ (x : ℕ). list (be32_at 0 bytes) (be32_at 4 bytes) x (be32_at 16 f) (be32_at 32 f) (be32_at 20 f)) (in_front 8 bytes (omega arith) long)
    ∙ ap (λ (x : ℕ). list (be32_at 0 bytes) (be32_at 4 bytes) (be32_at 8 bytes) x (be32_at 32 f) (be32_at 20 f)) (in_front 16 bytes (omega arith) long)
    ∙ ap (λ (x : ℕ). list (be32_at 0 bytes) (be32_at 4 bytes) (be32_at 8 bytes) (be32_at 16 bytes) x (be32_at 20 f)) (in_front 32 bytes (omega arith) long)
    ∙ ap (λ (x : ℕ). list (be32_at 0 bytes) (be32_at 4 bytes) (be32_at 8 bytes) (be32_at 16 bytes) (be32_at 32 bytes) x)
    (in_front 20 bytes (omega arith) long)

pages_on : (s : ℕ) (packet rest : List ℕ) → IsPacketText s packet → part s (packet ++ rest) ≡ with_front packet (part s rest)
pages_on s packet rest is =
    let front : List ℕ = take front_len packet in
    let pages : List ℕ = drop front_len packet in
    let more : List ℕ = pages ++ rest in
    let r : ℕ = rest_len s front in
    let long : front_len ≤ length packet = omega (arith, is.has_length) in
    let count : normal_count front ≡ normal_count packet = in_front 16 packet (omega arith) long in
    let len : r ≡ length pages = ap (λ (k : ℕ). (head_len s - front_len) + k * s) count
    ∙ omega (arith, is.has_length, length-drop front_len packet) in
    let dev : is_device front ≡ false = device_front packet long ∙ pages_isnt s packet is in
    let lawful : is_of_pages s front ≡ true = ap (λ l. is_none (first_of l)) (faults_front s packet long) ∙ ap is_none (text_free s packet is) in
    let state : Parted = cond (nat_le (state_len front) (length more)) (with_device (front_len + state_len front) (part s (drop (state_len front) more)))
    (all_given front) in
    let on : List ℕ → List ℕ → Parted = λ a b. with_front a (part s b) in
    ap (part s) (cut_front packet rest) ∙ part_front s front more (length-take-le front_len packet long)
    ∙ ap (λ (b : Bool). cond b state (cond (is_of_pages s front) (on (front ++ take r more) (drop r more)) (all_given (front ++ more)))) dev
    ∙ ap (λ (b : Bool). cond b (on (front ++ take r more) (drop r more)) (all_given (front ++ more))) lawful
    ∙ ap (λ (l : List ℕ). on (front ++ l) (drop r more)) (take_at pages rest r (sym len))
    ∙ ap (λ (l : List ℕ). on (front ++ pages) l) (drop_at pages rest r (sym len))
    ∙ ap (λ (l : List ℕ). on l rest) (take-append-drop front_len packet)

abbrev kept : List ℕ → Bool
kept packet = not (is_device packet)

filter_on : (packet : List ℕ) (packets : List (List ℕ)) → kept packet ≡ true → filter kept (packet ∷ packets) ≡ packet ∷ filter kept packets
filter_on packet packets is = ap (λ (b : Bool). cond b (packet ∷ filter kept packets) (filter kept packets)) is

filter_over : (packet : List ℕ) (packets : List (List ℕ)) → kept packet ≡ false → filter kept (packet ∷ packets) ≡ filter kept packets
filter_over packet packets is = ap (λ (b : Bool). cond b (packet ∷ filter kept packets) (filter kept packets)) is

all_on : (s : ℕ) (packets : List (List ℕ)) (rest : List ℕ) → AllByRecursion (λ packet. IsPacketText s packet ⊎ IsDevicePacket packet) packets
    → (part s (concat packets ++ rest)).given ≡ concat (filter kept packets) ++ (part s rest).given
all_on s [] rest all = refl
all_on s (packet ∷ packets) rest (inl is, all) =
    ap (λ (l : List ℕ). (part s l).given) (append_assoc packet (concat packets) rest)
    ∙ ap (λ (p : Parted). p.given) (pages_on s packet (concat packets ++ rest) is)
    ∙ ap (λ (l : List ℕ). packet ++ l) (all_on s packets rest all)
    ∙ sym (append_assoc packet (concat (filter kept packets)) (part s rest).given)
    ∙ ap (λ (l : List (List ℕ)). concat l ++ (part s rest).given) (sym (filter_on packet packets (ap not (pages_isnt s packet is))))
all_on s (packet ∷ packets) rest (inr is, all) =
    ap (λ (l : List ℕ). (part s l).given) (append_assoc packet (concat packets) rest)
    ∙ ap (λ (p : Parted). p.given) (device_over s packet (concat packets ++ rest) is)
    ∙ all_on s packets rest all
    ∙ ap (λ (l : List (List ℕ)). concat l ++ (part s rest).given) (sym (filter_over packet packets (ap not (device_is packet is))))

after_hello : (s : ℕ) (hello more : List ℕ) → length hello ≡ hello_len → without_devices s (hello ++ more) ≡ hello ++ (part s more).given
after_hello s hello more len =
    ap (λ (l : List ℕ). l ++ (part s (drop hello_len (hello ++ more))).given) (take_at hello more hello_len len)
    ∙ ap (λ (l : List ℕ). hello ++ (part s l).given) (drop_at hello more hello_len len)

pub packets_stay : PacketsOfPagesStay
packets_stay s hello packets rest len all =
    after_hello s hello (concat packets ++ rest) len ∙ ap (λ (l : List ℕ). hello ++ l) (all_on s packets rest all)

others : (s : ℕ) (front more : List ℕ) (p : Bool) → (p ≡ true → length more < rest_len s front)
    → cond p (with_front (front ++ take (rest_len s front) more) (part s (drop (rest_len s front) more))) (all_given (front ++ more))
    ≡ all_given (front ++ more)
others s front more false short = refl
others s front more true short =
    let le : length more ≤ rest_len s front = omega (arith, short refl) in
    ap (λ (l : List ℕ). with_front (front ++ l) (part s (drop (rest_len s front) more))) (take_all (rest_len s front) more le)
    ∙ ap (λ (l : List ℕ). with_front (front ++ more) (part s l)) (drop_all (rest_len s front) more le)
    ∙ ap all_given (append-nil (front ++ more))

pub others_stay : OthersStay
others_stay s rest (inl short) = part_short s rest short
others_stay s rest (inr (none, cut)) = elim (cases_lt (length rest) front_len) [
  | inl short ↦ part_short s rest short
  | inr long ↦
      let front : List ℕ = take front_len rest in
      let more : List ℕ = drop front_len rest in
      let state : Parted = cond (nat_le (state_len front) (length more)) (with_device (front_len + state_len front) (part s (drop (state_len front) more)))
      (all_given front) in
      let pages : Parted = cond (is_of_pages s front) (with_front (front ++ take (rest_len s front) more) (part s (drop (rest_len s front) more)))
      (all_given (front ++ more)) in
      ap (part s) (sym (take-append-drop front_len rest)) ∙ part_front s front more (length-take-le front_len rest long)
      ∙ ap (λ (b : Bool). cond b state pages) none
      ∙ others s front more (is_of_pages s front) (λ is. omega (arith, cut is, long, length-drop front_len rest))
      ∙ ap all_given (take-append-drop front_len rest)
]

pub cuts_stay : CutsStay
cuts_stay s rest long is cut =
    let front : List ℕ = take front_len rest in
    let more : List ℕ = drop front_len rest in
    let pages : Parted = cond (is_of_pages s front) (with_front (front ++ take (rest_len s front) more) (part s (drop (rest_len s front) more)))
    (all_given (front ++ more)) in
    let over : Bool → Parted = λ b. cond b (with_device (front_len + state_len front) (part s (drop (state_len front) more))) (all_given front) in
    ap (part s) (sym (take-append-drop front_len rest)) ∙ part_front s front more (length-take-le front_len rest long)
    ∙ ap (λ (b : Bool). cond b (over (nat_le (state_len front) (length more))) pages) is
    ∙ ap over (lt-leb (state_len front) (length more) (omega (arith, cut, long, length-drop front_len rest)))

-- packets of pages alone
alone : (s : ℕ) (packets : List (List ℕ)) (rest : List ℕ) → AllByRecursion (IsPacketText s) packets → part s rest ≡ all_given rest
    → (part s (concat packets ++ rest)).given ≡ concat packets ++ rest
alone s [] rest all same = ap (λ (p : Parted). p.given) same
alone s (packet ∷ packets) rest (is, all) same =
    ap (λ (l : List ℕ). (part s l).given) (append_assoc packet (concat packets) rest)
    ∙ ap (λ (p : Parted). p.given) (pages_on s packet (concat packets ++ rest) is)
    ∙ ap (λ (l : List ℕ). packet ++ l) (alone s packets rest all same)
    ∙ sym (append_assoc packet (concat packets) rest)

pub channels_stay : ChannelsWithoutDevicesStay
channels_stay s hello packets rest len all none =
    after_hello s hello (concat packets ++ rest) len ∙ ap (λ (l : List ℕ). hello ++ l) (alone s packets rest all (others_stay s rest none))
