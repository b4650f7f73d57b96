-- A packet whose head and pages are taken apart: what a reader of pages gives then.
use Rattle.std.specs.Prelude.{IfSome}
use Rattle.std.proofs.Common.{◌≡◌, ℕ, ◌+◌, Bool, List, [], length, Option, Some, None, arith}
use Rattle.mig_packet.specs.declared.page_reader.ChannelEvent.TheVariants as event
use Rattle.mig_packet.specs.declared.page_reader.PageContent.{PageContent}
use Rattle.mig_packet.specs.Packet.{offset_at}
use Rattle.mig_packet.specs.Paging.{PageHolder, GivesOn, HolderTells, Comes}
use Rattle.mig_packet.specs.PagingStep.{Moves}
use Rattle.mig_packet.proofs.PagingSteps.{moves_head, moves_page, moves_packet, steps_come}

-- a head that was read is given of its bytes
pub head_gives : (head : List ℕ) (old new : PageHolder) → new.fed ≡ old.fed + length head → Moves event.Head head old new → GivesOn head event.Head old new
head_gives head old new fed m = λ given text s g. moves_head given text s.read s.packet head old new m fed g

-- a page that was read is given of its bytes
pub page_gives : (o : Option (List ℕ × ℕ)) (page : PageContent) (content : List ℕ) (old new : PageHolder) → new.fed ≡ old.fed + length content
    → IfSome o (λ packet. Moves (event.Page (offset_at packet.0 packet.1) page) content old new)
    → IfSome o (λ packet. GivesOn content (event.Page (offset_at packet.0 packet.1) page) old new)
page_gives None page content old new fed m = tt
page_gives (Some packet) page content old new fed m =
    λ given text s g. moves_page given text s.read s.packet (offset_at packet.0 packet.1) page content old new m fed g

-- a packet that ends is given of no further bytes
pub packet_gives : (sync : Bool) (old new : PageHolder) → new.fed ≡ old.fed → Moves (event.Packet sync) [] old new → GivesOn [] (event.Packet sync) old new
packet_gives sync old new fed m = λ given text s g. moves_packet given text s.read s.packet sync [] old new m (omega (arith, fed)) g

-- a packet that ends comes after all its pages
pub packet_comes : (sync : Bool) (old new : PageHolder) → new.fed ≡ old.fed → Moves (event.Packet sync) [] old new
    → HolderTells old (λ given text so_far. Comes given.page_size (event.Packet sync) so_far)
packet_comes sync old new fed m = steps_come (event.Packet sync) 0 [] old new (record {
  takes = omega arith;
  gains = tt;
  stops = tt;
  copies = tt;
  moves = m;
  has_fed = omega (arith, fed);
})
