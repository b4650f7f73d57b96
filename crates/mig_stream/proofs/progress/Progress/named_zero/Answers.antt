use Rattle.std.proofs.Common.{◌≡◌, ◌<◌, ◌/◌, ◌%◌, ℕ, false, Some, refl, sym, ap, subst, ◌∙◌}
use Rattle.mig_mem.specs.RamTable.{block}
use Rattle.mig_stream.specs.Fields.{be64_at}
use Rattle.mig_stream.specs.Progress.{StreamProgress}
use Rattle.mig_stream.specs.Items.{is_full}
use Rattle.mig_stream.proofs.ZeroRecords.{records_none, named_taken}
use Rattle.mig_stream.proofs.progress.Progress.named_zero.Goals as goal

pub returns-clause-ok : goal.returns-clause-ok
returns-clause-ok g c =
    let old : StreamProgress = c.args.self.now in
    let head = c.split_at.result.0.now in
    let place = c.in-Some.place in
    let size : c.page_size.result ≡ old.page_size = c.page_size.ensures.value ∙ ap (λ (x : StreamProgress). x.page_size) c.self.view_is in
    let flags : be64_at 0 head % old.page_size ≡ 2 =
    sym (c.split_head-page.ensures.flags ∙ ap (λ (n : ℕ). n % c.page_size.result) c.be64.ensures
    ∙ ap (λ (n : ℕ). be64_at 0 head % n) size) ∙ c.if-flags-ne-RAM_SAVE_FLAG_ZERO.false in
    let number : be64_at 0 head / old.page_size ≡ place.page =
    sym (c.in-Some.ensures.page.0 ∙ c.split_head-page.ensures.page ∙ ap (λ (n : ℕ). n / c.page_size.result) c.be64.ensures
    ∙ ap (λ (n : ℕ). be64_at 0 head / n) size) in
    let in_range : place.page < (block old.blocks place.block).pages =
    subst (λ (n : ℕ). n < (block old.blocks place.block).pages) (sym c.in-Some.ensures.page.0) c.in-Some.ensures.page.1 in
    let room : is_full old.room ≡ false =
    sym (ap (λ (x : StreamProgress). is_full x.room) c.self.view_is) ∙ sym c.is_full.ensures ∙ c.if-is_full.false in
    named_taken old _ c.args.bytes.now head c.split_at.result.1.now _ place.block place.page c.split_at.ensures.front
    c.split_at.ensures.back c.if-rest-name_len.false c.requires.due c.requires.begun
    room flags number in_range refl c.in-Some.ensures.block c.if-rest-name_len-ne0.false
    (ap (λ (x : StreamProgress). record x { named = Some place.block }) (c.self-2.view_is ∙ c.in_ok-add_zeros.ensures.ok))

pub returns-then-bytes-le-HEAD_LEN-clause-ok : goal.returns-then-bytes-le-HEAD_LEN-clause-ok
returns-then-bytes-le-HEAD_LEN-clause-ok g c = records_none c.args.self.now c.args.bytes.now c.requires.due

pub returns-then-flags-ne-RAM_SAVE_FLAG_ZERO-clause-ok : goal.returns-then-flags-ne-RAM_SAVE_FLAG_ZERO-clause-ok
returns-then-flags-ne-RAM_SAVE_FLAG_ZERO-clause-ok g c = records_none c.args.self.now c.args.bytes.now c.requires.due

pub returns-in_default-clause-ok : goal.returns-in_default-clause-ok
returns-in_default-clause-ok g c = records_none c.args.self.now c.args.bytes.now c.requires.due
