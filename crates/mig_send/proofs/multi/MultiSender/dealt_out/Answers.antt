use Rattle.std.proofs.Common.{ℕ, ◌≡◌, ◌≤◌, ◌^◌, ◌∙◌, length, sym, ap, subst, arith}
use Rattle.std.specs.Prelude.{Vec, IfOk}
use Rattle.std.specs.Arc.{arc_value}
use Rattle.std.proofs.lemmas.List.{length-map}
use Rattle.mig_mem.specs.PlaceSet.{PlaceSet}
use Rattle.mig_send.specs.Finding.{cut_of}
use Rattle.mig_send.specs.MultiSending.{MultiSending, texts_of}
use Rattle.mig_send.specs.MultiRound.{IsDealtTo, IsDealtOut}
use Rattle.mig_send.proofs.DealtSets.{dealt_out, both_ok}
use Rattle.mig_send.proofs.multi.MultiSender.dealt_out.Goals as goal

pub returns : goal.returns
returns g c =
    let x = c.self.inside in
    let dirty : PlaceSet = c.args.dirty in
    let sender : MultiSending = record {
      main = x.main;
      uuid = x.uuid;
      limit = x.limit;
      channels = texts_of x.channels.items;
      base = x.base;
      rounds = x.rounds;
    } in
    let many : c.len.result ≡ length sender.channels =
    omega (arith, c.len.ensures, x.channels.ok.0, length-map x.channels.items (λ (text : Vec ℕ _). text.items)) in
    let table : dirty.table ≡ sender.main.table = c.requires.table ∙ ap (λ (m : MultiSending). m.main.table) (sym c.self.view_is) in
    let fits : sender.base ≤ 2 ^ 63 = omega (arith, c.if-self-gt-LAST_BASE.false) in
    let dealt = subst (λ (n : ℕ). IfOk c.deal_out.result (λ r. IsDealtTo x.base dirty.table (cut_of x.limit dirty.marked) n (arc_value r.0) r.1.items)) many
    c.deal_out.ensures.dealt in
    subst (λ (m : MultiSending). IfOk c.deal_out.result (λ r. IsDealtOut dirty m (arc_value r.0) r.1.items)) c.self.view_is
    (both_ok c.deal_out.result (λ r. IsDealtTo x.base dirty.table (cut_of x.limit dirty.marked) (length sender.channels) (arc_value r.0) r.1.items)
    (λ r. IsDealtOut dirty sender (arc_value r.0) r.1.items)
    (λ r p a. dealt_out dirty sender (arc_value r.0) r.1.items table fits a p) dealt c.deal_out.ensures.cut)
