-- Up to where the bytes are valid that a reader of pages took.
use Rattle.std.proofs.Common.{◌≡◌, ℕ, ◌+◌, ◌-◌, ◌*◌, true, false, cond, List, [], ◌++◌, length, Option, Some, None, refl, ap, ◌∙◌, arith}
use Rattle.std.specs.Prelude.{IfSome}
use Rattle.std.proofs.lemmas.List.{length-append}
use Rattle.mig_packet.specs.Reading.{Settings}
use Rattle.mig_packet.specs.Reader.{IsValidUpTo}
use Rattle.mig_packet.specs.Paging.{OpenPacket, PageHolder, IsOpenPacket, HolderTells, bytes_of, is_complete, kept_of, open_bytes, read_to}
use Rattle.mig_packet.specs.PagingValid.{open_len}
use Rattle.mig_packet.proofs.Paging.{bytes_length}

-- so many bytes were given of a packet that isn't complete
open_is : (size : ℕ) (o : Option OpenPacket) → IfSome o (IsOpenPacket size) → open_len size (kept_of o) ≡ length (open_bytes o)
open_is size None is = refl
open_is size (Some p) is =
    elim (is_complete p) as (λ b. cond b 0 (length p.head + length p.pages * size) ≡ length (cond b [] (bytes_of p))) [
      | true ↦ refl
      | false ↦ (let head = is.is_head.has_length in let all = bytes_length size p is in omega (arith, head, all))
    ]

-- the others are complete items without a fault
pub valid_place : (r : PageHolder) (n : ℕ) → n ≡ (r.fed - open_len r.given.page_size r.packet) - length r.kept
    → HolderTells r (λ given text so_far. IsValidUpTo given text n)
valid_place r n e = λ given text so_far g.
    let rest : List ℕ = open_bytes so_far.packet ++ r.kept in
    let open_ : open_len r.given.page_size r.packet ≡ length (open_bytes so_far.packet) =
    ap (λ (o : Option (List ℕ × ℕ)). open_len r.given.page_size o) g.has_packet
    ∙ ap (λ (s : Settings). open_len s.page_size (kept_of so_far.packet)) g.has_settings
    ∙ open_is given.page_size so_far.packet g.is_open in
    let text_len : length text ≡ length (g.reads.front ++ rest) = ap (λ (l : List ℕ). length l) g.reads.has_text in
    let fed = g.has_fed in
    record {
      to = read_to so_far.read so_far.packet;
      rest = rest;
      found = r.found;
      reads = g.reads;
      has_length = omega (arith, e, open_, fed, text_len, length-append g.reads.front rest, length-append (open_bytes so_far.packet) r.kept);
    }
