use Rattle.std.proofs.Common.{◌≡◌, ◌*◌, ◌/◌, ◌++◌, true, false, drop, refl, sym, ap, ◌∙◌, arith}
use Rattle.mig_mapped.proofs.FrontFields.{bytes_fit, to_end}
use Rattle.mig_mapped.proofs.FrontParsed.{HasStart, ram_head, total_found, start_is}
use Rattle.mig_mapped.proofs.front.total_in.Goals as goal
use Rattle.mig_mapped.proofs.front.total_in.Goals.{then-bytes-lt-START_LEN-via-then-bytes-lt-START_LEN}
use Rattle.mig_mapped.proofs.front.total_in.Goals.{then-bytes-lt-START_LEN-via-else-bytes-lt-START_LEN+then-bytes-ne-START}
use Rattle.mig_mapped.proofs.front.total_in.Goals.{then-bytes-lt-START_LEN-via-else-bytes-lt-START_LEN+else-bytes-ne-START+then-not-begins}
use Rattle.mig_mapped.proofs.front.total_in.Goals.{then-head-ne-MEM_SIZE-via-then-head-ne-MEM_SIZE}
use Rattle.mig_mapped.proofs.front.total_in.Goals.{then-head-ne-MEM_SIZE-via-else-head-ne-MEM_SIZE+then-total-eq0}
use Rattle.mig_mapped.proofs.front.total_in.Goals.{then-head-ne-MEM_SIZE-via-else-head-ne-MEM_SIZE+else-total-eq0+then-total-gt-MAX_TOTAL}

pub returns-then-bytes-lt-START_LEN-clause-none : goal.returns-then-bytes-lt-START_LEN-clause-none
returns-then-bytes-lt-START_LEN-clause-none c = λ item rest valid e.
    let has : HasStart c.args.bytes.now item.total = start_is item rest c.args.bytes.now valid e in
    elim c.then-bytes-lt-START_LEN.branch [
      | then-bytes-lt-START_LEN-via-then-bytes-lt-START_LEN w ↦ omega (arith, has.is_long, w.if-bytes-lt-START_LEN.true)
      | then-bytes-lt-START_LEN-via-else-bytes-lt-START_LEN+then-bytes-ne-START w ↦ w.if-bytes-ne-START.true has.has_type
      | then-bytes-lt-START_LEN-via-else-bytes-lt-START_LEN+else-bytes-ne-START+then-not-begins w ↦
          let two : true ≡ false = sym (w.begins.ensures.all has.tail (to_end c.args.bytes.now 5 ∙ has.has_name)) ∙ w.if-not-begins.true in absurd cc
    ]

pub returns-then-head-ne-MEM_SIZE-clause-none : goal.returns-then-head-ne-MEM_SIZE-clause-none
returns-then-head-ne-MEM_SIZE-clause-none c = λ item rest valid e.
    let has : HasStart c.args.bytes.now item.total = start_is item rest c.args.bytes.now valid e in
    elim c.then-head-ne-MEM_SIZE.branch [
      | then-head-ne-MEM_SIZE-via-then-head-ne-MEM_SIZE w ↦
          omega (arith, has.has_head, has.has_total.is_whole, c.be64-head.ensures, w.if-head-ne-MEM_SIZE.true)
      | then-head-ne-MEM_SIZE-via-else-head-ne-MEM_SIZE+then-total-eq0 w ↦
          omega (arith, has.has_head, has.has_total.is_whole, has.has_total.is_some, c.be64-head.ensures, w.if-total-eq0.true)
      | then-head-ne-MEM_SIZE-via-else-head-ne-MEM_SIZE+else-total-eq0+then-total-gt-MAX_TOTAL w ↦
          omega (arith, has.has_head, has.has_total.is_whole, has.has_total.is_limited, c.be64-head.ensures, w.if-total-gt-MAX_TOTAL.true)
    ]

pub returns-clause-found : goal.returns-clause-found
returns-clause-found c =
    let h = c.be64-head.result in
    let name : drop 5 c.args.bytes.now ≡ ram_head ++ drop 12 (drop 5 c.args.bytes.now) =
    sym (to_end c.args.bytes.now 5) ∙ c.begins.ensures.found c.if-not-begins.false ∙ ap (λ x. ram_head ++ drop 12 x) (to_end c.args.bytes.now 5) in
    total_found c.args.bytes.now h (h / 0x1000 * 0x1000)
    (bytes_fit c.args.bytes.now c.type_inv.bytes) c.if-bytes-lt-START_LEN.false c.if-bytes-ne-START.false name c.be64-head.ensures refl
    c.if-head-ne-MEM_SIZE.false (omega (arith, c.if-total-eq0.false)) c.if-total-gt-MAX_TOTAL.false
