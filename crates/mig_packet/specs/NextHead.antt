-- A packet whose head and pages are taken apart: others read its pages to their places.
use Rattle.std.specs.Prelude.{◌≡◌, ◌≢◌, ℕ, List, [], None, IsFalse}
use Rattle.mig_packet.specs.Paging.{PageHolder}
use Rattle.mig_packet.specs.PagingStep.{IsJudged}

-- These bytes are the next item of a channel that is open: the head of a packet, without a fault.
-- No byte of it was taken.
pub record IsNextHead (head : List ℕ) (r : PageHolder) : Type 0 where
  pub has_hello : r.hello ≢ None
  pub none_kept : r.kept ≡ []
  pub is_judged : IsJudged r head
  pub is_open : IsFalse r.ended
