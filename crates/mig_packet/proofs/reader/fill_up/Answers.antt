use Rattle.std.proofs.Common.{◌≡◌, ◌∙◌, ◌≤◌, ◌<◌, ◌++◌, ℕ, [], List, Some, None, length, sym, ap, subst, rules, arith}
use Rattle.std.proofs.lemmas.List.{append-nil}
use Rattle.mig_packet.specs.Progress.{judged_len, item_len, first_fault}
use Rattle.mig_packet.proofs.Filling.{kept_twice, faulty, still_faultless, still_short, is_whole}
use Rattle.mig_packet.proofs.reader.fill_up.Goals as goal

pub returns-in-Some-clause-ok : goal.returns-in-Some-clause-ok
returns-in-Some-clause-ok g c =
    let d = c.args.progress.now in
    let mid : List ℕ = c.append_up_to.new.pending.items in
    let judged : judged_len d.page_size d.hello ≤ length mid = search rules in
    let fault : first_fault d mid ≡ Some c.in-Some.fault = search rules in
    faulty d mid c.in_ok-behind.behind.now _ c.in-Some.fault judged fault c.in_ok-behind.ensures.text

pub returns-in-Some-clause-kept : goal.returns-in-Some-clause-kept
returns-in-Some-clause-kept g c = c.append_up_to.ensures.kept

pub returns-in_err-rest-clause-kept : goal.returns-in_err-rest-clause-kept
returns-in_err-rest-clause-kept g c = kept_twice _ _ _ c.append_up_to.ensures.kept c.append_up_to-2.ensures.kept

pub returns-then-len-clause-ok : goal.returns-then-len-clause-ok
returns-then-len-clause-ok g c =
    let d = c.args.progress.now in
    let mid : List ℕ = c.append_up_to.new.pending.items in
    let new : List ℕ = c.append_up_to-2.new.pending.items in
    let judged : judged_len d.page_size d.hello ≤ length mid = search rules in
    let none : first_fault d mid ≡ None = search rules in
    let len : c.item_len-len.result ≡ item_len d.page_size d.hello mid = search rules in
    let short : length new < c.item_len-len.result = search rules in
    let rest : c.in_ok-rest.rest.now ≡ [] = c.in_ok-rest.ensures.short short in
    let text : c.args.pending.now.items ++ c.args.piece.now ≡ new =
    sym c.in_ok-behind.ensures.text ∙ sym c.in_ok-rest.ensures.text ∙ ap (λ (x : List ℕ). new ++ x) rest ∙ append-nil new in
    (text, still_short d mid new judged none c.append_up_to-2.ensures.kept (omega (arith, short, len)))

pub returns-clause-ok : goal.returns-clause-ok
returns-clause-ok g c =
    let d = c.args.progress.now in
    let mid : List ℕ = c.append_up_to.new.pending.items in
    let new : List ℕ = c.append_up_to-2.new.pending.items in
    let at : c.judged_len-judged.result ≡ judged_len d.page_size d.hello = c.judged_len-judged.ensures.len in
    let judged : judged_len d.page_size d.hello ≤ length mid = search rules in
    let none : first_fault d mid ≡ None = search rules in
    let len : c.item_len-len.result ≡ item_len d.page_size d.hello mid = search rules in
    let as_many : c.item_len-len.result ≤ length new = search rules in (
      sym c.in_ok-behind.ensures.text ∙ sym c.in_ok-rest.ensures.text,
      is_whole d c.args.pending.now.items mid new c.requires
          (subst (λ (n : ℕ). length c.args.pending.now.items ≤ n → length mid ≤ n) at c.in_ok-behind.ensures.full)
          (subst (λ (n : ℕ). n ≤ length c.args.pending.now.items → mid ≡ c.args.pending.now.items) at c.in_ok-behind.ensures.same)
          judged c.append_up_to-2.ensures.kept
          (subst (λ (n : ℕ). length mid ≤ n → length new ≤ n) len c.in_ok-rest.ensures.full)
          (omega (arith, as_many, len)),
      still_faultless d mid new judged none c.append_up_to-2.ensures.kept,
    )

pub returns-clause-kept : goal.returns-clause-kept
returns-clause-kept g c = kept_twice _ _ _ c.append_up_to.ensures.kept c.append_up_to-2.ensures.kept
