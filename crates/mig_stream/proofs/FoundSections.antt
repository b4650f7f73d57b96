-- What is left of a section from an EOS, a FLUSH, a footer or a section head on, if its items were
-- read without a fault.
use Rattle.std.proofs.Common.{◌≡◌, ℕ, ◌+◌, ◌*◌, false, not, eqb, List, [], ◌∷◌, ◌++◌, length, get_or, None, sym, ap, ◌∙◌, inl, inr, arith}
use Rattle.std.specs.Prelude.{◌&&◌}
use Rattle.std.specs.Int.{w32, w64, to_be_bytes}
use Rattle.std.proofs.lemmas.Bool.{not-false, eqb-true, and_parts}
use Rattle.mig_stream.specs.declared.item.Due.TheVariants.{RecordHead, Footer, SectionHead}
use Rattle.mig_stream.specs.declared.item.RecordKind.TheVariants.{EndOfSection, Flush}
use Rattle.mig_stream.specs.declared.fault.StreamFault.TheVariants as fault
use Rattle.mig_stream.specs.Fields.{be32, be64, be32_at}
use Rattle.mig_stream.specs.Format.{flags_of, footer_type}
use Rattle.mig_stream.specs.Progress.{StreamProgress}
use Rattle.mig_mem.specs.First.{first_of}
use Rattle.mig_stream.specs.Items.{is_single, closes, has_tail, faults, flush_records, end_section, end_records}
use Rattle.mig_stream.specs.Text.{FlushMark, footer}
use Rattle.mig_stream.proofs.FoundFields.{IsBytes, be32_found}
use Rattle.mig_stream.proofs.FoundParts.{footer_found}
use Rattle.mig_stream.proofs.FoundPages.{RestOfBody}
use Rattle.mig_stream.proofs.Steps.{passed}

-- A footer is left, and what stands after it is what `Behind` says.
pub record RestOfFooter (Behind : StreamProgress → List ℕ → Type 0) (c : StreamProgress) (bytes : List ℕ) : Type 0 where
  pub more : List ℕ
  pub has_bytes : bytes ≡ footer c.section_id ++ more
  pub others : Behind (end_section c) more

-- The head of a PART or END after its type byte is left, and then its records.
pub record RestOfSection (Behind : StreamProgress → List ℕ → Type 0) (c : StreamProgress) (bytes : List ℕ) : Type 0 where
  pub tail : List ℕ
  pub has_bytes : bytes ≡ be32 c.section_id ++ tail
  pub rest : RestOfBody Behind c tail

-- a rest of records doesn't depend on the item that is due
pub at_head : (Behind : StreamProgress → List ℕ → Type 0) (c : StreamProgress) (bytes : List ℕ)
    → RestOfBody Behind (record c { due = RecordHead }) bytes → RestOfBody Behind c bytes
at_head Behind c bytes r = record { records = r.records; more = r.more; has_bytes = r.has_bytes; follow = r.follow; flushes = r.flushes; others = r.others }

-- a footer, in front of what stands after it
pub footer_back : (Behind : StreamProgress → List ℕ → Type 0) (c : StreamProgress) (item bytes : List ℕ) → length item ≡ 5
    → IsBytes item → first_of (faults c Footer item) ≡ None
    → Behind (end_section c) bytes → RestOfFooter Behind c (item ++ bytes)
footer_back Behind c item bytes len all free r =
    let mark = eqb (get_or item 0 0) footer_type in
    let same = eqb (be32_at 1 item) c.section_id in
    let both = and_parts mark same (not-false (mark && same)
    (passed (not (mark && same)) fault.Footer ((has_tail (closes c.frame c.section) c, fault.Tail) ∷ []) free).0) in
    record {
      more = bytes;
      has_bytes = ap (λ (x : List ℕ). x ++ bytes) (footer_found item c.section_id len all (eqb-true _ _ both.0) (eqb-true _ _ both.1));
      others = r;
    }

-- the head of a PART or END, in front of its records
pub section_back : (Behind : StreamProgress → List ℕ → Type 0) (c : StreamProgress) (item bytes : List ℕ) → length item ≡ 4
    → IsBytes item → first_of (faults c SectionHead item) ≡ None
    → RestOfBody Behind (record c { due = RecordHead }) bytes → RestOfSection Behind c (item ++ bytes)
section_back Behind c item bytes len all free r =
    let same = eqb (be32_at 0 item) c.section_id in
    let id : be32_at 0 item ≡ c.section_id = eqb-true _ _ (not-false same (passed (not same) fault.SectionId [] free).0) in
    record {
      tail = bytes;
      has_bytes = ap (λ (x : List ℕ). x ++ bytes) (sym (be32_found item len all) ∙ ap (to_be_bytes w32) id);
      rest = at_head Behind c bytes r;
    }

-- an EOS, in front of the footer
pub end_back : (Behind : StreamProgress → List ℕ → Type 0) (c : StreamProgress) (item bytes : List ℕ)
    → item ≡ be64 (flags_of EndOfSection) → RestOfFooter Behind (end_records c) bytes
    → RestOfBody Behind c (item ++ bytes)
end_back Behind c item bytes e r = record {
  records = [];
  more = r.more;
  has_bytes = ap (λ (x : List ℕ). x ++ bytes) e ∙ ap (λ (x : List ℕ). be64 (flags_of EndOfSection) ++ x) r.has_bytes;
  follow = tt;
  flushes = inr tt;
  others = r.others;
}

-- a FLUSH, in front of the records after it
pub flush_back : (Behind : StreamProgress → List ℕ → Type 0) (c : StreamProgress) (item bytes : List ℕ)
    → item ≡ be64 (flags_of Flush) → is_single c.mode ≡ false
    → RestOfBody Behind (flush_records c) bytes → RestOfBody Behind c (item ++ bytes)
flush_back Behind c item bytes e main r = record {
  records = FlushMark ∷ r.records;
  more = r.more;
  has_bytes = ap (λ (x : List ℕ). x ++ bytes) e ∙ ap (λ (x : List ℕ). be64 (flags_of Flush) ++ x) r.has_bytes;
  follow = r.follow;
  flushes = inl main;
  others = r.others;
}

-- a head whose page is 0 is its flags
pub bare_head : (p page flags : ℕ) (item : List ℕ) → item ≡ be64 (page * p + flags) → page ≡ 0 → item ≡ be64 flags
bare_head p page flags item e none = e ∙ ap (to_be_bytes w64) (ap (λ (x : ℕ). x * p + flags) none ∙ omega arith)
