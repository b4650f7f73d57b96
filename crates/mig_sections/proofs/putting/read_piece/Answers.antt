use Rattle.std.proofs.Common.{rules, ◌≡◌, ◌≢◌, ◌∙◌, ◌+◌, ◌<◌, ◌^◌, ◌++◌, ℕ, List, length, Some, None, inl, inr, sym, ap, subst, arith, false}
use Rattle.std.specs.Prelude.{IsOk, Err}
use Rattle.std.proofs.lemmas.List.{length-append}
use Rattle.mig_mem.specs.RamTable.{RamTable}
use Rattle.mig_mem.specs.Image.{Image}
use Rattle.mig_stream.specs.Reader.{HasTable, Reader}
use Rattle.mig_load_types.specs.declared.settings.LoadSettings.{LoadSettings}
use Rattle.mig_single_load.specs.Loader.{put_so_far}
use Rattle.mig_single_load.specs.LoadInPlace.{settings_for}
use Rattle.mig_sections.specs.Sections.{HasSections, Takes}
use Rattle.mig_sections.proofs.WholeSections.{no_table_yet, other_found, own_found, own_put, takes_more, reads_none, reads_some, fed_ok}
use Rattle.mig_sections.proofs.putting.read_piece.Goals as goal

pub returns-in_err-feed-clause-settled : goal.returns-in_err-feed-clause-settled
returns-in_err-feed-clause-settled g c = λ given text stands final.
    absurd (fed_ok c.feed.result c.in_err-feed.field-0.0 c.in_err-feed.was
    (c.feed.ensures.settled (settings_for (g.M.GuestTarget.image c.args.memory.now).table given) (put_so_far text false c.args.sections.now) stands final))

pub returns-in_default-clause-ok : goal.returns-in_default-clause-ok
returns-in_default-clause-ok g c = λ given first text image has.
    let step = c.in_ok-feed.ensures.stands in
    no_table_yet given first text c.args.piece.now
    (g.M.GuestTarget.image c.args.memory.now) c.args.named.now c.args.sections.now c.args.reader.now c.feed.new.self has step
    (c.in_default.ensures (settings_for first.table given) (put_so_far (text ++ c.args.piece.now) false c.args.sections.now)
    (step (settings_for first.table given) (put_so_far text false c.args.sections.now) has.is_read.1))

pub returns-in_default-clause-some : goal.returns-in_default-clause-some
returns-in_default-clause-some g c = λ _.
    let some = c.requires.some in
    let table : RamTable = (g.M.GuestTarget.image c.args.memory.now).table in
    let step = c.in_ok-feed.ensures.stands in
    reads_none some.given table some.text c.args.piece.now c.args.sections.now c.args.reader.now c.feed.new.self some.is_page_size some.is_read step
    (c.in_default.ensures (settings_for table some.given) (put_so_far (some.text ++ c.args.piece.now) false c.args.sections.now)
    (step (settings_for table some.given) (put_so_far some.text false c.args.sections.now) some.is_read.1))

pub returns-then-not-same-clause-ok : goal.returns-then-not-same-clause-ok
returns-then-not-same-clause-ok g c = λ given first text image has.
    let step = c.in_ok-feed.ensures.stands in
    let found : HasTable (settings_for first.table given) (text ++ c.args.piece.now) (Some c.in-Some.table.now) =
    c.in-Some.ensures (settings_for first.table given) (put_so_far (text ++ c.args.piece.now) false c.args.sections.now)
    (step (settings_for first.table given) (put_so_far text false c.args.sections.now) has.is_read.1) in
    let same : (g.M.GuestTarget.image c.args.memory.now).table ≡ first.table = has.in_memory.same_table in
    other_found given first text c.args.piece.now
    (g.M.GuestTarget.image c.args.memory.now) c.args.named.now c.args.sections.now c.args.reader.now c.in-Some.table.now image has found
    (λ is. absurd (let yes_way = c.same.ensures.1 (is ∙ sym same ∙ sym c.table-2.ensures.value) in let no_way = c.if-not-same.true in cc))

pub put_sections-requires-clause-some : goal.put_sections-requires-clause-some
put_sections-requires-clause-some g c =
    let some = c.requires.some in
    let table : RamTable = (g.M.GuestTarget.image c.args.memory.now).table in
    let step = c.in_ok-feed.ensures.stands in
    let found : HasTable (settings_for table some.given) (some.text ++ c.args.piece.now) (Some c.in-Some.table.now) =
    c.in-Some.ensures (settings_for table some.given) (put_so_far (some.text ++ c.args.piece.now) false c.args.sections.now)
    (step (settings_for table some.given) (put_so_far some.text false c.args.sections.now) some.is_read.1) in
    let own : HasTable (settings_for table some.given) (some.text ++ c.args.piece.now) (Some table) =
    subst (λ (t : RamTable). HasTable (settings_for table some.given) (some.text ++ c.args.piece.now) (Some t))
    (c.same.ensures.0 c.if-not-same.false ∙ c.table-2.ensures.value) found in
    let fed = some.is_read.1.has_fed in
    let room = c.requires.room in
    record {
      given = some.given;
      text = some.text ++ c.args.piece.now;
      is_short = omega (arith, fed, room, length-append some.text c.args.piece.now);
      takes = takes_more some.given table some.text c.args.piece.now c.args.sections.now c.args.reader.now
          c.feed.new.self some.is_page_size some.is_read step own;
    }

pub returns-clause-ok : goal.returns-clause-ok
returns-clause-ok g c = λ given first text image has.
    let before : Image = g.M.GuestTarget.image c.args.memory.now in
    let step = c.in_ok-feed.ensures.stands in
    let same : before.table ≡ first.table = has.in_memory.same_table in
    let n : ℕ = c.args.sections.now in
    let piece : List ℕ = c.args.piece.now in
    let found : HasTable (settings_for first.table given) (text ++ piece) (Some c.in-Some.table.now) =
    c.in-Some.ensures (settings_for first.table given) (put_so_far (text ++ piece) false n)
    (step (settings_for first.table given) (put_so_far text false n) has.is_read.1) in
    let own : HasTable (settings_for first.table given) (text ++ piece) (Some first.table) =
    subst (λ (t : RamTable). HasTable (settings_for first.table given) (text ++ piece) (Some t))
    (c.same.ensures.0 c.if-not-same.false ∙ c.table-2.ensures.value ∙ same) found in
    let put = own_found given first text piece before c.args.named.now n c.args.reader.now c.feed.new.self has step own in
    let takes : Takes given first.table (text ++ piece) c.put_sections.new.sections c.put_sections.new.reader =
    subst (λ (t : RamTable). Takes given t (text ++ piece) n c.feed.new.self
    → Takes given t (text ++ piece) c.put_sections.new.sections c.put_sections.new.reader) same
    (c.put_sections.ensures.takes given (text ++ piece))
    (takes_more given first.table text piece n c.args.reader.now c.feed.new.self has.is_page_size has.is_read step own) in
    own_put given first (text ++ piece)
    (g.M.GuestTarget.image c.put_sections.new.memory) c.put_sections.new.named c.put_sections.new.sections c.put_sections.new.reader
    (c.put_sections.ensures.table ∙ same) takes (c.put_sections.ensures.puts given first (text ++ piece) put)

pub returns-clause-some : goal.returns-clause-some
returns-clause-some g c = λ _.
    let some = c.requires.some in
    let table : RamTable = (g.M.GuestTarget.image c.args.memory.now).table in
    let step = c.in_ok-feed.ensures.stands in
    let found : HasTable (settings_for table some.given) (some.text ++ c.args.piece.now) (Some c.in-Some.table.now) =
    c.in-Some.ensures (settings_for table some.given) (put_so_far (some.text ++ c.args.piece.now) false c.args.sections.now)
    (step (settings_for table some.given) (put_so_far some.text false c.args.sections.now) some.is_read.1) in
    let own : HasTable (settings_for table some.given) (some.text ++ c.args.piece.now) (Some table) =
    subst (λ (t : RamTable). HasTable (settings_for table some.given) (some.text ++ c.args.piece.now) (Some t))
    (c.same.ensures.0 c.if-not-same.false ∙ c.table-2.ensures.value) found in
    reads_some some.given table (some.text ++ c.args.piece.now) c.put_sections.new.sections c.put_sections.new.reader
    (c.put_sections.ensures.takes some.given (some.text ++ c.args.piece.now)
    (takes_more some.given table some.text c.args.piece.now c.args.sections.now c.args.reader.now c.feed.new.self some.is_page_size some.is_read step own))
