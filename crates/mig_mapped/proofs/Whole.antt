-- The memory at the end of a load in place.
use Rattle.std.proofs.Common.{ℕ, ◌≡◌, ◌+◌, ◌*◌, ◌<◌, ◌≤◌, ◌&&◌, Bool, true, List, length, None, sym, ap, subst, ◌∙◌, arith}
use Rattle.std.specs.Prelude.{not}
use Rattle.std.proofs.lemmas.Bool.{cond-true, cond-false, le-leb, le-ltb, lt-ltb, or_right}
use Rattle.std.proofs.lemmas.List.{length-map}
use Rattle.mig_mem.specs.declared.place.Place.{Place}
use Rattle.mig_mem.specs.RamTable.{RamTable}
use Rattle.mig_mem.specs.Image.{image_of}
use Rattle.mig_mem.proofs.PageSizes.{page_before}
use Rattle.mig_mem.proofs.Images.{image_agree}
use Rattle.mig_mapped.specs.declared.settings.MappedSettings.{MappedSettings}
use Rattle.mig_mapped.specs.Bitmap.{is_set}
use Rattle.mig_mapped.specs.Block.{MappedBlock, ram_block, mapped_block, page_offset, page_in}
use Rattle.mig_mapped.specs.Head.{MappedProgress, start}
use Rattle.mig_mapped.specs.Reading.{after_blocks, EndsWith}
use Rattle.mig_mapped.specs.Load.{has_come, loaded_at, LoadedIsMemory}
use Rattle.mig_mapped.proofs.Tabled.{within_file}
use Rattle.mig_mapped.proofs.Loading.{own_page}

pub loaded_is_memory : LoadedIsMemory
loaded_is_memory at total first file s memory l here none table =
    let given : MappedSettings = s.index.given in
    let blocks : List MappedBlock = s.index.blocks in
    let inside : s.index.place ≤ length file = omega (arith, here, l.same_place) in
    let each = (within_file file (start given at total) blocks l.are_blocks).1 in
    let last : s.index.place ≡ (after_blocks (start given at total) blocks).place = ap (λ (d : MappedProgress). d.place) l.is_index in
    let content : Place → List ℕ = λ p. page_in given file (mapped_block blocks p.block) p.page in
    let count : length first.table.blocks ≡ length blocks = ap (λ (t : RamTable). length t.blocks) table ∙ length-map blocks ram_block in (
      record {
        are_blocks = l.are_blocks;
        ends = subst (λ (d : MappedProgress). EndsWith file d None) l.is_index
            (record { at_end = λ _. sym (cond-false _ _ _ (le-ltb (length file) s.index.place inside)); at_head = λ some. absurd (some none) });
      },
      l.has_memory ∙ image_agree first.table (loaded_at given file blocks first) content (λ p place.
          let lt : p.block < length blocks = omega (arith, count, place.has_block) in
          let page : p.page < (mapped_block blocks p.block).pages = own_page first.table blocks p l.are_own place lt in
          let before : p.page * given.page_size + given.page_size ≤ (mapped_block blocks p.block).pages * given.page_size =
          page_before given.page_size (mapped_block blocks p.block).pages p.page page in
          let end : page_offset given.page_size (mapped_block blocks p.block) p.page + given.page_size ≤ length file =
          omega (arith, each p.block lt, last, inside, before) in
          let come : has_come given file (mapped_block blocks p.block) p.page ≡ true =
          or_right (not (is_set given.order (mapped_block blocks p.block).bitmap p.page)) _ (le-leb _ _ end) in
          cond-true _ _ _ (ap (λ (t : Bool). t && has_come given file (mapped_block blocks p.block) p.page) (lt-ltb p.block (length blocks) lt) ∙ come))
          ∙ ap (λ (t : RamTable). image_of t content) table,
    )
