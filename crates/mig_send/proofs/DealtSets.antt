-- A dirty set whose batches are dealt out.
use Rattle.std.proofs.Common.{ℕ, ◌≡◌, ◌<◌, ◌≤◌, ◌^◌, List, length, refl, sym, subst}
use Rattle.mig_mem.specs.PlaceSet.{PlaceSet, IsPlaceSet}
use Rattle.mig_packet.specs.PageSize.{page_limit}
use Rattle.mig_mem.specs.RamTable.{RamTable}
use Rattle.std.specs.Prelude.{Result, Ok, Err, IfOk, OnOk}
use Rattle.mig_deal.specs.Deal.{DealView, SeatView}
use Rattle.mig_send.specs.MultiSending.{MultiSending}
use Rattle.mig_send.specs.MultiRound.{IsDealtTo, IsDealtOut}
use Rattle.mig_send.specs.Batches.{IsCut}
use Rattle.mig_send.specs.Work.{ClaimsBatches}
use Rattle.mig_send.specs.ChannelWork.{RoundTerms}
use Rattle.mig_send.specs.Finding.{IsRoundWork, cut_of}
use Rattle.mig_send.proofs.Cutting.{batches_fit}

-- its deal numbers them
pub dealt_claims : (dirty : PlaceSet) (limit : ℕ) (deal : DealView) → IsPlaceSet dirty → limit ≤ page_limit dirty.table.page_size
    → IsCut limit dirty.marked (cut_of limit dirty.marked)
    → deal.batches ≡ length (cut_of limit dirty.marked) → ClaimsBatches deal dirty.table (cut_of limit dirty.marked)
dealt_claims dirty limit deal is fits cut many =
    record { are_batches = batches_fit dirty limit (cut_of limit dirty.marked) is fits cut; as_many = sym many }

-- a deal with one number for each batch of a dirty set claims the work of its round
pub round_work : (dirty : PlaceSet) (limit : ℕ) (deal : DealView) → IsPlaceSet dirty → 0 < limit → limit ≤ page_limit dirty.table.page_size
    → IsCut limit dirty.marked (cut_of limit dirty.marked) → deal.batches ≡ length (cut_of limit dirty.marked)
    → IsRoundWork dirty limit (record { deal = deal; table = dirty.table; batches = cut_of limit dirty.marked })
round_work dirty limit deal is some fits cut many =
    record { is_set = is; has_limit = some; are_cut = cut; claims = dealt_claims dirty limit deal is fits cut many }

-- for a sender's channels
pub dealt_out : (dirty : PlaceSet) (sender : MultiSending) (terms : RoundTerms) (seats : List SeatView) → dirty.table ≡ sender.main.table → sender.base ≤ 2 ^ 63
    → IsCut sender.limit dirty.marked (cut_of sender.limit dirty.marked)
    → IsDealtTo sender.base dirty.table (cut_of sender.limit dirty.marked) (length sender.channels) terms seats → IsDealtOut dirty sender terms seats
dealt_out dirty sender terms seats same fits cut dealt = record {
  are_cut = subst (λ batches. IsCut sender.limit dirty.marked batches) (sym dealt.same_batches) cut;
  is_dealt = record {
    same_table = subst (λ (table : RamTable). terms.table ≡ table) same dealt.same_table;
    same_batches = refl;
    claims = dealt.claims;
    has_base = dealt.has_base;
    as_many = dealt.as_many;
    are_seats = dealt.are_seats;
  };
  base_fits = fits;
}

-- a fact on what was returned, from two
pub both_ok : {T E A : Type 0} (r : Result T E) (P Q : T → Type 0) → ((x : T) → P x → A → Q x) → IfOk r P → OnOk r A → IfOk r Q
both_ok (Ok x) P Q both p a = both x p a
both_ok (Err e) P Q both p a = tt
