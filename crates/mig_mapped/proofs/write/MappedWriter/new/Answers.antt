use Rattle.std.proofs.Common.{ℕ, ◌≡◌, ◌∙◌, ◌+◌, ◌*◌, ◌≤◌, ◌<◌, ◌^◌, ◌++◌, ◌∷◌, List, [], length, refl, sym, ap, subst, arith}
use Rattle.std.proofs.lemmas.List.{length-append}
use Rattle.mig_mem.specs.RamTable.{RamTable}
use Rattle.mig_mem.specs.Image.{zero_image}
use Rattle.mig_mapped.specs.declared.settings.MappedSettings.{MappedSettings}
use Rattle.mig_mapped.specs.Block.{MappedBlock, end_of}
use Rattle.mig_mapped.specs.Write.{end_offset, IsBegun, IsRefused, StandsFor, IsWriting}
use Rattle.mig_mapped.proofs.Laid.{AreFirst, writing, none_laid, one_laid, all_begun, begun_writing, begun_zeros, lacks_room, returned}
use Rattle.mig_mapped.proofs.write.MappedWriter.new.Goals as goal

pub loop-i-init : goal.loop-i-init
loop-i-init g c =
    let table : RamTable = c.args.table.now in
    let given : MappedSettings = record { page_size = table.page_size; order = c.args.order } in
    let none : c.in_ok-blocks.blocks.items ≡ [] = c.in_ok-blocks.ensures.items in
    record {
      count = ap (λ (l : List MappedBlock). length l) none;
      low = c.in_ok-next.ensures.low;
      first = subst (λ (n : ℕ). AreFirst given c.args.place table c.in_ok-blocks.blocks.items n) (sym c.in_ok-next.ensures.same)
          (subst (λ (l : List MappedBlock). AreFirst given c.args.place table l c.args.place) (sym none) (none_laid given c.args.place table));
    }

pub overflow_mul-block-inside : goal.overflow_mul-block-inside
overflow_mul-block-inside g c =
    let size : ℕ = c.args.table.now.page_size in
    let end : end_of size c.in_ok-block.block ≤ c.loop-i.next + 2 ^ 41 = c.in_ok-block.ensures.end in
    omega (arith, end, ap (end_of size) c.block.view_is, ap (λ (n : ℕ). c.block.inside.pages * n) c.page_size-page_size.ensures, c.loop-i.invariant.low)

pub overflow_add-block-inside : goal.overflow_add-block-inside
overflow_add-block-inside g c =
    let size : ℕ = c.args.table.now.page_size in
    let end : end_of size c.in_ok-block.block ≤ c.loop-i.next + 2 ^ 41 = c.in_ok-block.ensures.end in
    omega (arith, end, ap (end_of size) c.block.view_is, ap (λ (n : ℕ). c.block.inside.pages * n) c.page_size-page_size.ensures, c.loop-i.invariant.low)

pub loop-i-preserved : goal.loop-i-preserved
loop-i-preserved g c =
    let table : RamTable = c.args.table.now in
    let given : MappedSettings = record { page_size = table.page_size; order = c.args.order } in
    let b : MappedBlock = c.in_ok-block.block in
    let more : c.push.new.self.items ≡ c.loop-i.blocks.items ++ b ∷ [] = c.in_ok-push.ensures.items in
    let next : c.in_ok-end.end ≡ end_of given.page_size b = c.in_ok-end.ensures.same
    ∙ ap (λ (n : ℕ). c.block.inside.pages_at + c.block.inside.pages * n) c.page_size-page_size.ensures ∙ ap (end_of given.page_size) c.block.view_is in
    record {
      count = omega (arith, ap (λ (l : List MappedBlock). length l) more, length-append c.loop-i.blocks.items (b ∷ []), c.loop-i.invariant.count);
      low = c.in_ok-end.ensures.low;
      first = subst (λ (l : List MappedBlock). AreFirst given c.args.place table l c.in_ok-end.end) (sym more)
          (subst (λ (n : ℕ). AreFirst given c.args.place table (c.loop-i.blocks.items ++ b ∷ []) n) (sym next)
          (one_laid given c.args.place table c.loop-i.blocks.items c.loop-i.next c.loop-i.i b c.loop-i.invariant.first c.loop-i.invariant.count
          (omega (arith, c.len-i-end.ensures.value)) c.in_ok-block.ensures.block));
    }

pub returns-in_err-next-clause-refused : goal.returns-in_err-next-clause-refused
returns-in_err-next-clause-refused g c =
    let table : RamTable = c.args.table.now in
    let given : MappedSettings = record { page_size = table.page_size; order = c.args.order } in
    returned c.from_residual-in_err-next.result c.in_err-next.field-0.0 (IsRefused c.args.order c.args.place table) c.from_residual-in_err-next.ensures
    (subst (IsRefused c.args.order c.args.place table) (sym c.in_err-next.ensures.fault)
    (refl, lacks_room c.args.order c.args.place table [] c.args.place (none_laid given c.args.place table) (omega arith) c.in_err-next.ensures.high))

pub returns-in_err-end-clause-refused : goal.returns-in_err-end-clause-refused
returns-in_err-end-clause-refused g c =
    let table : RamTable = c.args.table.now in
    let given : MappedSettings = record { page_size = table.page_size; order = c.args.order } in
    let blocks : List MappedBlock = c.loop-i.blocks.items in
    let b : MappedBlock = c.in_ok-block.block in
    let lt : c.loop-i.i < length table.blocks = omega (arith, c.len-i-end.ensures.value) in
    let first : AreFirst given c.args.place table (blocks ++ b ∷ []) (end_of given.page_size b) =
    one_laid given c.args.place table blocks c.loop-i.next c.loop-i.i b c.loop-i.invariant.first c.loop-i.invariant.count lt c.in_ok-block.ensures.block in
    let at : c.block.inside.pages_at + c.block.inside.pages * c.page_size-page_size.result ≡ end_of given.page_size b =
    ap (λ (n : ℕ). c.block.inside.pages_at + c.block.inside.pages * n) c.page_size-page_size.ensures ∙ ap (end_of given.page_size) c.block.view_is in
    let past : 2 ^ 63 ≤ end_of given.page_size b = omega (arith, at, c.in_err-end.ensures.high) in
    returned c.from_residual-in_err-end.result c.in_err-end.field-0.0 (IsRefused c.args.order c.args.place table) c.from_residual-in_err-end.ensures
    (subst (IsRefused c.args.order c.args.place table) (sym c.in_err-end.ensures.fault) (
      refl,
      lacks_room c.args.order c.args.place table (blocks ++ b ∷ []) (end_of given.page_size b) first
          (omega (arith, length-append blocks (b ∷ []), c.loop-i.invariant.count)) past,
    ))

pub invariant_of-result : goal.invariant_of-result
invariant_of-result g c =
    let all : length c.args.table.now.blocks ≤ length c.loop-i.blocks.items = omega (arith, c.loop-i.invariant.count, c.len-i-end.ensures.value) in
    subst (λ (n : ℕ). IsWriting (writing (record { page_size = n; order = c.args.order }) c.args.place c.loop-i.blocks.items))
    (sym c.page_size-page_size.ensures)
    (begun_writing c.args.order c.args.place c.args.table.now c.loop-i.blocks.items c.loop-i.next c.loop-i.invariant.low c.len-i-end.ensures.table
    c.loop-i.invariant.first all)

pub returns-clause-begun : goal.returns-clause-begun
returns-clause-begun g c =
    let all : length c.args.table.now.blocks ≤ length c.loop-i.blocks.items = omega (arith, c.loop-i.invariant.count, c.len-i-end.ensures.value) in
    subst (λ (n : ℕ). IsBegun c.args.order c.args.place c.args.table.now
    (writing (record { page_size = n; order = c.args.order }) c.args.place c.loop-i.blocks.items)) (sym c.page_size-page_size.ensures)
    (all_begun c.args.order c.args.place c.args.table.now c.loop-i.blocks.items c.loop-i.next c.loop-i.invariant.first all)

pub returns-clause-room : goal.returns-clause-room
returns-clause-room g c =
    let low : end_offset (writing (record { page_size = c.args.table.now.page_size; order = c.args.order }) c.args.place c.loop-i.blocks.items) < 2 ^ 63 =
    omega (arith, c.loop-i.invariant.low, c.loop-i.invariant.first.is_next) in
    subst (λ (n : ℕ). end_offset (writing (record { page_size = n; order = c.args.order }) c.args.place c.loop-i.blocks.items) < 2 ^ 63)
    (sym c.page_size-page_size.ensures) low

pub returns-clause-zeros : goal.returns-clause-zeros
returns-clause-zeros g c =
    let all : length c.args.table.now.blocks ≤ length c.loop-i.blocks.items = omega (arith, c.loop-i.invariant.count, c.len-i-end.ensures.value) in
    let given : MappedSettings = record { page_size = c.args.table.now.page_size; order = c.args.order } in
    subst (λ (n : ℕ). StandsFor (writing (record { page_size = n; order = c.args.order }) c.args.place c.loop-i.blocks.items) (zero_image c.args.table.now))
    (sym c.page_size-page_size.ensures)
    (begun_zeros c.args.order c.args.place c.args.table.now (writing given c.args.place c.loop-i.blocks.items)
    (all_begun c.args.order c.args.place c.args.table.now c.loop-i.blocks.items c.loop-i.next c.loop-i.invariant.first all))
