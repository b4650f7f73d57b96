use Rattle.std.proofs.Common.{rules, ◌-◌, List, length, refl, sym, ap, ◌∙◌, subst, ℕ}
use Rattle.std.specs.Prelude.{IfSome}
use Rattle.std.specs.Vec.{with_items}
use Rattle.std.proofs.lemmas.Bool.{ltb-true, lt-ltb}
use Rattle.std.proofs.lemmas.List.{with_items_is}
use Rattle.zimgasol_files.specs.ReadOn.{IsRead}
use Rattle.zimgasol_files.proofs.Readings.{reads_on}
use Rattle.zimgasol_files.proofs.pages.Reading.read_on.Goals as goal

pub returns : goal.returns
returns g c = λ size left rest old at.
    let r = c.args.self.now in
    let count = c.min-wanted.result in
    let same = with_items_is r.bytes c.read_wanted.new.buffer (search (rules, c.read_wanted.ensures.len, c.deref_mut.ensures.len)) in
    let old_same = with_items_is r.old_bytes c.read_old.new.buffer (search (rules, c.read_old.ensures.len, c.deref_mut-2.ensures.len)) in
    let read = c.in_ok-read_wanted.ensures.read rest at.is_left in
    let old_read = c.in_ok-read_old.ensures.read old at.is_old_left in (
      count,
      ((λ t. ltb-true 0 count t), (λ lt. lt-ltb 0 count lt)),
      reads_on (g.F.Read.remaining) size left rest old r
          (record {
            file = c.read_wanted.new.file;
            before = c.read_old.new.before;
            page_size = r.page_size;
            bytes = with_items r.bytes c.read_wanted.new.buffer;
            old_bytes = with_items r.old_bytes c.read_old.new.buffer;
            len = count;
            left = r.left - count;
          })
          count at (search rules) (ap (λ (l : List ℕ). length l) same ∙ c.read_wanted.ensures.len ∙ ap (λ (l : List ℕ). length l) c.deref_mut.ensures.value)
          (ap (λ (l : List ℕ). length l) old_same ∙ c.read_old.ensures.len ∙ ap (λ (l : List ℕ). length l) c.deref_mut-2.ensures.value)
          refl refl refl c.read_old.ensures.there
          (subst (λ (l : List ℕ). IsRead count rest l) (sym same) read.0, read.1)
          (subst (λ (l : List ℕ). IfSome old (λ o. IsRead count o l)) (sym old_same) old_read.0, old_read.1),
    )
