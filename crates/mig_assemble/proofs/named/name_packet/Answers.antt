use Rattle.std.proofs.Common.{◌≡◌, ◌∙◌, List, ℕ, false, sym, ap, subst}
use Rattle.std.specs.List.{All}
use Rattle.mig_mem.specs.declared.place.Place.{Place}
use Rattle.mig_mem.specs.RamTable.{block}
use Rattle.mig_mem.specs.Image.{Page}
use Rattle.mig_packet.specs.declared.packet.Packet.{Packet}
use Rattle.mig_packet.specs.PacketHead.{offsets_in}
use Rattle.mig_assemble.specs.declared.places.Pages.{Pages}
use Rattle.mig_assemble.specs.declared.places.Pages.TheVariants.{In}
use Rattle.mig_assemble.specs.Judging.{is_outside, places_of}
use Rattle.mig_assemble.specs.NamedPlaces.{with_places}
use Rattle.mig_assemble.specs.HeadPlaces.{Lie}
use Rattle.mig_assemble.specs.AtOnce.{head_of}
use Rattle.mig_assemble.proofs.HeadPlaces.{lie_inside}
use Rattle.mig_assemble.proofs.AtOnce.{named_there, not_in_none}
use Rattle.mig_assemble.proofs.named.name_packet.Goals as goal

pub name_pages-requires-clause-lawful : goal.name_pages-requires-clause-lawful
name_pages-requires-clause-lawful g c =
    let table = c.args.named.now.table in
    let p : Packet = c.args.placed.now.packet in
    let lie : Lie table (head_of p) (In c.in-In.block) = subst (λ (o : Pages). Lie table (head_of p) o) c.in-In.is c.requires.lie in
    subst (λ (head : List ℕ). All (λ offset. is_outside table.page_size (block table.blocks c.in-In.block).pages offset ≡ false) (offsets_in head))
    (sym c.head.ensures.bytes) (lie_inside table c.in-In.block (head_of p) lie.1)

pub returns-in-In-clause-named : goal.returns-in-In-clause-named
returns-in-In-clause-named g c =
    let table = c.args.named.now.table in
    let p : Packet = c.args.placed.now.packet in
    let lie : Lie table (head_of p) (In c.in-In.block) = subst (λ (o : Pages). Lie table (head_of p) o) c.in-In.is c.requires.lie in
    c.name_pages.ensures.named
    ∙ ap (λ (ps : List Place). with_places c.args.named.now ps)
    (named_there table p c.in-In.block c.head.result.bytes.now c.head.ensures.bytes lie.1)

pub returns-in_default-clause-named : goal.returns-in_default-clause-named
returns-in_default-clause-named g c =
    let table = c.args.named.now.table in
    let p : Packet = c.args.placed.now.packet in
    ap (λ (l : List Page). with_places c.args.named.now (places_of l))
    (sym (not_in_none table p c.args.placed.now.pages c.requires.lie c.requires.lawful c.in_default.not-In))
