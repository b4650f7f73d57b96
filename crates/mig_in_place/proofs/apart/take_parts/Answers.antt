use Rattle.std.proofs.Common.{ℕ, List, [], length, get_or, Bor, arith}
use Rattle.std.proofs.lemmas.List.{length-map}
use Rattle.mig_mem.specs.Lent.{lent_bytes}
use Rattle.mig_in_place.proofs.TakingParts.{head_taken, page_taken, all_taken, all_given, content_is, content_len, content_room}
use Rattle.mig_in_place.proofs.apart.take_parts.Goals as goal

pub pages-init : goal.pages-init
pages-init g c =
    head_taken c.args.head.now (lent_bytes c.args.contents.now) c.args.reader.now c.take_head.new.self c.take_head.ensures.gives
    c.take_head.ensures.comes c.take_head.ensures.next c.take_head.ensures.fed

pub take_page-requires-clause-len : goal.take_page-requires-clause-len
take_page-requires-clause-len g c = content_len c.args.head.now c.args.contents.now c.pages.i c.args.reader.now c.pages.reader
    (record { ref_ptr = (0, 0); now = [] }) c.requires.pages c.pages-test.true c.pages.invariant

pub take_page-requires-clause-room : goal.take_page-requires-clause-room
take_page-requires-clause-room g c =
    let len = take_page-requires-clause-len g c in
    content_room c.args.head.now (lent_bytes c.args.contents.now) c.pages.i
    (length c.args.contents.now) c.args.reader.now c.pages.reader
    (length (get_or c.args.contents.now c.pages.i (record { ref_ptr = (0, 0); now = [] })).now) c.pages-test.true len c.requires.room
    c.pages.invariant

pub pages-preserved : goal.pages-preserved
pages-preserved g c =
    page_taken c.args.head.now (lent_bytes c.args.contents.now) c.pages.i c.args.reader.now c.pages.reader c.take_page.new.self
    (get_or c.args.contents.now c.pages.i (record { ref_ptr = (0, 0); now = [] }))
    (content_is c.args.contents.now c.pages.i (record { ref_ptr = (0, 0); now = [] }) c.pages-test.true).0
    (content_is c.args.contents.now c.pages.i (record { ref_ptr = (0, 0); now = [] }) c.pages-test.true).1
    (let many = c.requires.pages.as_many in let lt =
    (content_is c.args.contents.now c.pages.i (record { ref_ptr = (0, 0); now = [] }) c.pages-test.true).0 in omega (arith, many, lt))
    (content_len c.args.head.now c.args.contents.now c.pages.i c.args.reader.now c.pages.reader
    (record { ref_ptr = (0, 0); now = [] }) c.requires.pages c.pages-test.true c.pages.invariant)
    c.take_page.ensures.gives c.take_page.ensures.comes c.take_page.ensures.next c.take_page.ensures.fed c.pages.invariant

pub returns-clause-parts : goal.returns-clause-parts
returns-clause-parts g c =
    all_taken c.args.head.now (lent_bytes c.args.contents.now) c.pages.i c.args.reader.now c.pages.reader c.end_taken.new.self
    c.end_taken.result (omega (
      arith,
      c.pages-test.false,
      c.pages.auto.i-end,
      length-map c.args.contents.now (λ (b : Bor (List ℕ)). b.now),
    )) c.end_taken.ensures.gives c.end_taken.ensures.comes c.end_taken.ensures.ended c.pages.invariant

pub returns-clause-gives : goal.returns-clause-gives
returns-clause-gives g c = all_given c.args.head.now
    (lent_bytes c.args.contents.now) c.pages.i c.args.reader.now c.pages.reader c.end_taken.new.self c.end_taken.result
    (omega (arith, c.pages-test.false, c.pages.auto.i-end, length-map c.args.contents.now (λ (b : Bor (List ℕ)). b.now)))
    c.end_taken.ensures.gives c.pages.invariant
