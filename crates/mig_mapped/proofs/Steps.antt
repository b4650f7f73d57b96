-- What a load in place keeps over its steps.
use Rattle.std.proofs.Common.{ℕ, ◌≡◌, ◌+◌, ◌-◌, ◌*◌, ◌<◌, ◌≤◌, List, [], ◌∷◌, ◌++◌, length, None, sym, ap, ◌∙◌, inl, inr, arith}
use Rattle.std.proofs.lemmas.Bool.{cases_lt, cases_order}
use Rattle.std.proofs.lemmas.List.{length-append}
use Rattle.mig_mem.specs.declared.place.Place.{Place}
use Rattle.mig_mem.proofs.PageSizes.{page_before}
use Rattle.mig_mapped.specs.declared.settings.MappedSettings.{MappedSettings}
use Rattle.mig_mapped.specs.Block.{MappedBlock, mapped_block, page_offset, end_of}
use Rattle.mig_mapped.specs.Head.{head_fault, bitmap_end, block_in, after_head}
use Rattle.mig_mapped.specs.Load.{MappedLoading, IsLoading, IsAtHead, last_block, AreSkipped, IsDue}
use Rattle.mig_mapped.proofs.Heads.{IsHead, head_good, all_bytes}
use Rattle.mig_mapped.proofs.Blocks.{before_last, the_last}

-- bytes passed over
pub skip_keeps : (s : MappedLoading) (n : ℕ) → IsLoading s → AreSkipped s n → IsLoading (record s { place = s.place + n })
skip_keeps s n is skipped = record {
  has_page_size = is.has_page_size;
  has_place = is.has_place;
  is_within = skipped.within;
  others_came = λ i lt. omega (arith, is.others_came i lt);
  begun = λ before. is.begun (omega arith);
  ends = is.ends;
  is_whole = λ q lt set. elim (is.is_whole q lt set) [
    | inl before ↦ inl (omega arith)
    | inr past ↦ elim (skipped.no_page q lt set) [ inl under ↦ absurd (omega arith) | inr after ↦ inr after ]
  ];
}

-- a page written
pub page_keeps : (s : MappedLoading) (p : Place) (n : ℕ) → IsLoading s → IsDue s p → n ≡ s.index.given.page_size → IsLoading (record s { place = s.place + n })
page_keeps s p n is due size =
    let b : MappedBlock = last_block s in
    let some : 0 < length s.index.blocks = omega (arith, due.is_last) in
    let page : p.page * s.index.given.page_size + s.index.given.page_size ≤ b.pages * s.index.given.page_size =
    page_before s.index.given.page_size b.pages p.page due.has_page in
    record {
      has_page_size = is.has_page_size;
      has_place = is.has_place;
      is_within = omega (arith, is.ends some, due.is_here, page);
      others_came = λ i lt. omega (arith, is.others_came i lt);
      begun = λ _. some;
      ends = is.ends;
      is_whole = λ q lt set. elim (is.is_whole q lt set) [
        | inl before ↦ inl (omega arith)
        | inr past ↦ elim (cases_order q p.page) [
          | inl same ↦ inl (omega (arith, due.is_here, ap (λ (k : ℕ). page_offset s.index.given.page_size b k) same))
          | inr (inl before) ↦
              let less : q * s.index.given.page_size + s.index.given.page_size ≤ p.page * s.index.given.page_size =
              page_before s.index.given.page_size p.page q before in
              inl (omega (arith, due.is_here))
          | inr (inr after) ↦
              let more : p.page * s.index.given.page_size + s.index.given.page_size ≤ q * s.index.given.page_size =
              page_before s.index.given.page_size q p.page after in
              inr (omega (arith, due.is_here))
        ]
      ];
    }

-- a head taken
pub head_keeps : (s : MappedLoading) (bytes : List ℕ) (n : ℕ) → IsLoading s → IsAtHead s → head_fault s.index bytes ≡ None
    → n ≡ bitmap_end s.index.given.page_size bytes → IsLoading (record { index = after_head s.index bytes; place = s.place + n })
head_keeps s bytes n is head good end =
    let given : MappedSettings = s.index.given in
    let blocks : List MappedBlock = s.index.blocks in
    let b : MappedBlock = block_in given.page_size bytes in
    let h : IsHead s.index bytes = head_good s.index bytes good in
    let next : MappedLoading = record { index = after_head s.index bytes; place = s.place + n } in
    let long : length (blocks ++ b ∷ []) ≡ length blocks + 1 = length-append blocks (b ∷ []) in
    let last : last_block next ≡ b = the_last blocks b (length (blocks ++ b ∷ []) - 1) (omega arith) in
    let begin : s.place + n ≤ b.pages_at = omega (arith, head, end, h.header.is_after) in
    record {
      has_page_size = is.has_page_size;
      has_place = omega (arith, all_bytes s.index bytes h.entry, h.header.is_in_file);
      is_within = omega arith;
      others_came = λ i lt.
          let in_old : i < length blocks = omega arith in
          let same : end_of given.page_size (mapped_block (blocks ++ b ∷ []) i) ≡ end_of given.page_size (mapped_block blocks i) =
          ap (end_of given.page_size) (before_last blocks b i in_old) in
          elim (cases_lt (i + 1) (length blocks)) [
            | inl before ↦ omega (arith, same, is.others_came i before)
            | inr at ↦
                let ends : s.index.place ≡ end_of given.page_size (mapped_block blocks i) =
                is.ends (omega arith) ∙ (let last_is : length blocks - 1 ≡ i = omega arith in
                ap (λ (k : ℕ). end_of given.page_size (mapped_block blocks k)) last_is) in
                omega (arith, same, ends, head)
          ];
      begun = λ _. omega arith;
      ends = λ _. ap (end_of given.page_size) (sym last);
      is_whole = λ q lt set. inr (omega (arith, ap (λ (x : MappedBlock). page_offset given.page_size x q) last));
    }
