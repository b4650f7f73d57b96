use Rattle.std.proofs.Common.{◌≡◌, ◌+◌, ◌<◌, ◌≤◌, ◌/◌, ◌%◌, ℕ, false, List, drop, length, Some, Option, refl, sym, ap, subst, ◌∙◌, arith}
use Rattle.std.specs.Prelude.{is_none}
use Rattle.mig_stream.proofs.Writing.{on_err}
use Rattle.mig_mem.specs.RamTable.{Block, block}
use Rattle.mig_stream.specs.Fields.{be64_at}
use Rattle.mig_stream.specs.Progress.{StreamProgress}
use Rattle.mig_stream.specs.Items.{is_full}
use Rattle.mig_stream.specs.Taking.{HasTakenRecords}
use Rattle.mig_stream.proofs.ZeroRecords.{records_none, records_more, records_stop, nothing_more, continued_taken}
use Rattle.mig_stream.proofs.progress.Progress.continued_zeros.Goals as goal

pub returns-in_err-add_zeros-clause-err : goal.returns-in_err-add_zeros-clause-err
returns-in_err-add_zeros-clause-err g c =
    let bytes : List ℕ = c.args.bytes.now in
    let at : ℕ = c.records.at in
    on_err c.from_residual.result _ (records_stop c.args.self.now c.records.self c.add_zeros.new.self bytes (drop at bytes) at c.records.invariant.0 refl
    (nothing_more c.records.self c.add_zeros.new.self (drop at bytes) c.in_err-add_zeros.ensures.err))

pub records-preserved : goal.records-preserved
records-preserved g c =
    let old : StreamProgress = c.args.self.now in
    let mid : StreamProgress = c.records.self in
    let new : StreamProgress = c.add_zeros.new.self in
    let before : HasTakenRecords old c.args.bytes.now c.records.at mid = c.records.invariant.0 in
    let bytes : List ℕ = c.args.bytes.now in
    let at : ℕ = c.records.at in
    let b : ℕ = c.in-Some.block in
    let page : ℕ = c.split_head-page.result.0 in
    let named : mid.named ≡ Some b = c.records.invariant.1 ∙ sym (ap (λ (x : StreamProgress). x.named) c.self.view_is) ∙ c.in-Some.is in
    let size : c.page_size-page_size.result ≡ mid.page_size = c.page_size-page_size.ensures.value
    ∙ ap (λ (x : StreamProgress). x.page_size) c.self.view_is ∙ sym before.same_page_size in
    let pages : c.pages-pages.result ≡ (block mid.blocks b).pages =
    c.pages-pages.ensures.value ∙ ap (λ (x : StreamProgress). (block x.blocks b).pages) c.self.view_is
    ∙ ap (λ (x : List Block). (block x b).pages) (sym before.same_blocks) in
    let flags : be64_at at bytes % mid.page_size ≡ 0x22 =
    sym (c.split_head-page.ensures.flags ∙ ap (λ (n : ℕ). n % c.page_size-page_size.result) c.be64.ensures
    ∙ ap (λ (n : ℕ). be64_at at bytes % n) size) ∙ c.if-flags-ne-CONTINUED_ZERO.false in
    let number : be64_at at bytes / mid.page_size ≡ page =
    sym (c.split_head-page.ensures.page ∙ ap (λ (n : ℕ). n / c.page_size-page_size.result) c.be64.ensures ∙ ap (λ (n : ℕ). be64_at at bytes / n) size) in
    let in_range : page < (block mid.blocks b).pages = subst (λ (n : ℕ). page < n) pages c.if-page-pages.false in
    let free : is_full mid.room ≡ false =
    sym (ap (λ (x : StreamProgress). is_full x.room) c.self-in-records.view_is) ∙ sym c.is_full.ensures ∙ c.if-is_full.false in
    let fits : at + 9 ≤ length bytes = omega arith in
    let one : HasTakenRecords mid (drop at bytes) 9 new =
    continued_taken mid new bytes at b page fits before.is_due
    (ap (λ (o : Option ℕ). is_none o) before.same_left
    ∙ c.requires.begun) free named flags number in_range c.if-bytes-at-ne0.false c.in_ok-add_zeros.ensures.ok in (
      records_more old mid new bytes (drop at bytes) at 9 before refl one,
      ap (λ (x : StreamProgress). x.named) c.in_ok-add_zeros.ensures.ok ∙ c.records.invariant.1,
    )

pub returns-in_default-clause-ok : goal.returns-in_default-clause-ok
returns-in_default-clause-ok g c = records_none c.args.self.now c.args.bytes.now c.requires.due

pub records-init : goal.records-init
records-init g c = (records_none c.args.self.now c.args.bytes.now c.requires.due, refl)
