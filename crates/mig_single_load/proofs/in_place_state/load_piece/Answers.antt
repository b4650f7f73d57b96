use Rattle.std.proofs.Common.{◌≡◌, ◌≢◌, ◌⊎◌, Some, None, sym, ap, refl, subst, ◌∙◌}
use Rattle.mig_mem.specs.RamTable.{RamTable}
use Rattle.mig_mem.specs.Image.{Image}
use Rattle.mig_stream.specs.Progress.{whole_table}
use Rattle.mig_stream.specs.declared.item.StreamState.{StreamState}
use Rattle.mig_stream.specs.Giving.{HasNoneLeft}
use Rattle.mig_stream.proofs.Writing.{on_err}
use Rattle.mig_single_load.proofs.LoadsInPlace.{Found, found_some, found_other, found_off, found_on, found_on_some, found_none_left, some_first, some_put}
use Rattle.mig_single_load.proofs.LoadsInPlace.{some_all, names_other, names_at, names_off}
use Rattle.mig_single_load.proofs.in_place_state.load_piece.Goals as goal

pub returns-then-is_of_other_table-clause-ok : goal.returns-then-is_of_other_table-clause-ok
returns-then-is_of_other_table-clause-ok g c = λ given first text image at few.
    let f : Found c.args.pause c.args.piece.now c.resume-reader.result c.find_table.new.reader c.in_ok-gave.gave =
    record {
      resumed = c.resume-reader.ensures.gives;
      is_fresh = c.resume-reader.ensures.given;
      gave_next = c.in_ok-gave.ensures.gave;
      there = c.in_ok-gave.ensures.there;
    } in
    let other = c.if-is_of_other_table.ensures.other refl in
    let differ : other.0 ≢ first.table = λ e. other.2 (e ∙ sym (ap (λ (m : Image). m.table) at.has_memory)) in
    found_other given first text c.args.piece.now c.args.pause
    (g.M.GuestTarget.image c.args.memory.now) c.args.sections.now c.resume-reader.result c.find_table.new.reader c.in_ok-gave.gave
    other.0 image f at other.1 differ

pub put_given-requires-clause-some : goal.put_given-requires-clause-some
put_given-requires-clause-some g c =
    let f : Found c.args.pause c.args.piece.now c.resume-reader.result c.find_table.new.reader c.in_ok-gave.gave =
    record {
      resumed = c.resume-reader.ensures.gives;
      is_fresh = c.resume-reader.ensures.given;
      gave_next = c.in_ok-gave.ensures.gave;
      there = c.in_ok-gave.ensures.there;
    } in
    let need = c.requires.some in
    found_some need.0 need.1 (g.M.GuestTarget.image c.args.memory.now).table c.args.piece.now c.args.pause c.resume-reader.result
    c.find_table.new.reader c.in_ok-gave.gave c.args.sections.now f need.2 need.3
    (c.if-is_of_other_table.ensures.own refl)

pub pause-requires : goal.pause-requires
pause-requires g c =
    let f : Found c.args.pause c.args.piece.now c.resume-reader.result c.find_table.new.reader c.in_ok-gave.gave =
    record {
      resumed = c.resume-reader.ensures.gives;
      is_fresh = c.resume-reader.ensures.given;
      gave_next = c.in_ok-gave.ensures.gave;
      there = c.in_ok-gave.ensures.there;
    } in
    let need = c.requires.some in
    subst (λ (x : StreamState). HasNoneLeft x c.put_given.new.reader) c.in-Reading.is
    (found_none_left need.0 need.1 (g.M.GuestTarget.image c.args.memory.now).table c.args.piece.now c.args.pause
    c.args.sections.now c.put_given.new.sections c.resume-reader.result c.find_table.new.reader c.put_given.new.reader
    c.in_ok-gave.gave c.in_ok-found.found f need.2 (c.if-is_of_other_table.ensures.own refl) c.in_ok-found.ensures.gives)

pub returns-in_ok-pause-in-Reading-clause-ok : goal.returns-in_ok-pause-in-Reading-clause-ok
returns-in_ok-pause-in-Reading-clause-ok g c = λ given first text image at few.
    let f : Found c.args.pause c.args.piece.now c.resume-reader.result c.find_table.new.reader c.in_ok-gave.gave =
    record {
      resumed = c.resume-reader.ensures.gives;
      is_fresh = c.resume-reader.ensures.given;
      gave_next = c.in_ok-gave.ensures.gave;
      there = c.in_ok-gave.ensures.there;
    } in
    let r = c.find_table.new.reader in
    let own : (whole_table r.progress ≡ None) ⊎ (whole_table r.progress ≡ Some first.table) =
    subst (λ (t : RamTable). (whole_table r.progress ≡ None) ⊎ (whole_table r.progress ≡ Some t))
    (ap (λ (m : Image). m.table) at.has_memory) (c.if-is_of_other_table.ensures.own refl) in
    found_on given first text c.args.piece.now c.args.pause c.in_ok-pause-in-Reading.field-0
    (g.M.GuestTarget.image c.args.memory.now) (g.M.GuestTarget.image c.put_given.new.memory) c.args.sections.now c.put_given.new.sections
    c.resume-reader.result r c.put_given.new.reader c.in_ok-gave.gave c.in_ok-found.found f at own c.in_ok-found.ensures.ok
    c.in-Reading.is c.in_ok-pause-in-Reading.ensures
    c.valid_up_to.result c.valid_up_to.ensures.end few

pub returns-in_ok-pause-in-Reading-clause-some : goal.returns-in_ok-pause-in-Reading-clause-some
returns-in_ok-pause-in-Reading-clause-some g c = λ given fed some.
    let f : Found c.args.pause c.args.piece.now c.resume-reader.result c.find_table.new.reader c.in_ok-gave.gave =
    record {
      resumed = c.resume-reader.ensures.gives;
      is_fresh = c.resume-reader.ensures.given;
      gave_next = c.in_ok-gave.ensures.gave;
      there = c.in_ok-gave.ensures.there;
    } in
    found_on_some given fed (g.M.GuestTarget.image c.args.memory.now).table c.args.piece.now c.args.pause
    c.in_ok-pause-in-Reading.field-0 c.args.sections.now c.put_given.new.sections c.resume-reader.result c.find_table.new.reader
    c.put_given.new.reader c.in_ok-gave.gave c.in_ok-found.found f some
    (c.if-is_of_other_table.ensures.own refl) c.in_ok-found.ensures.gives c.in_ok-pause-in-Reading.ensures

pub returns-in_default-clause-ok : goal.returns-in_default-clause-ok
returns-in_default-clause-ok g c = λ given first text image at few.
    let f : Found c.args.pause c.args.piece.now c.resume-reader.result c.find_table.new.reader c.in_ok-gave.gave =
    record {
      resumed = c.resume-reader.ensures.gives;
      is_fresh = c.resume-reader.ensures.given;
      gave_next = c.in_ok-gave.ensures.gave;
      there = c.in_ok-gave.ensures.there;
    } in
    let r = c.find_table.new.reader in
    let own : (whole_table r.progress ≡ None) ⊎ (whole_table r.progress ≡ Some first.table) =
    subst (λ (t : RamTable). (whole_table r.progress ≡ None) ⊎ (whole_table r.progress ≡ Some t))
    (ap (λ (m : Image). m.table) at.has_memory) (c.if-is_of_other_table.ensures.own refl) in
    found_off given first text c.args.piece.now c.args.pause (g.M.GuestTarget.image c.args.memory.now)
    (g.M.GuestTarget.image c.put_given.new.memory) c.args.sections.now c.put_given.new.sections
    c.resume-reader.result r c.put_given.new.reader c.in_ok-gave.gave c.in_ok-found.found f at own c.in_ok-found.ensures.ok c.in_default.not-Reading
    c.valid_up_to.result c.valid_up_to.ensures.end few

pub returns-in_err-gave-clause-err : goal.returns-in_err-gave-clause-err
returns-in_err-gave-clause-err g c = on_err c.from_residual.result _ (λ given first text at.
    some_first given first text c.args.piece.now c.args.pause c.resume-reader.result
    (g.M.GuestTarget.image c.args.memory.now) c.args.sections.now c.resume-reader.ensures.gives at)

pub returns-in_err-found-clause-err : goal.returns-in_err-found-clause-err
returns-in_err-found-clause-err g c = on_err c.from_residual-in_err-found.result _ (λ given first text at.
    let f : Found c.args.pause c.args.piece.now c.resume-reader.result c.find_table.new.reader c.in_ok-gave.gave =
    record {
      resumed = c.resume-reader.ensures.gives;
      is_fresh = c.resume-reader.ensures.given;
      gave_next = c.in_ok-gave.ensures.gave;
      there = c.in_ok-gave.ensures.there;
    } in
    let r = c.find_table.new.reader in
    let own : (whole_table r.progress ≡ None) ⊎ (whole_table r.progress ≡ Some first.table) =
    subst (λ (t : RamTable). (whole_table r.progress ≡ None) ⊎ (whole_table r.progress ≡ Some t))
    (ap (λ (m : Image). m.table) at.has_memory) (c.if-is_of_other_table.ensures.own refl) in
    some_put given first text c.args.piece.now c.args.pause (g.M.GuestTarget.image c.args.memory.now)
    (g.M.GuestTarget.image c.put_given.new.memory) c.args.sections.now c.put_given.new.sections
    c.resume-reader.result r c.in_ok-gave.gave f at own c.in_err-found.ensures.err)

pub returns-in_err-pause-in-Reading-clause-err : goal.returns-in_err-pause-in-Reading-clause-err
returns-in_err-pause-in-Reading-clause-err g c = on_err c.from_residual-in_err-pause-in-Reading.result _ (λ given first text at.
    let f : Found c.args.pause c.args.piece.now c.resume-reader.result c.find_table.new.reader c.in_ok-gave.gave =
    record {
      resumed = c.resume-reader.ensures.gives;
      is_fresh = c.resume-reader.ensures.given;
      gave_next = c.in_ok-gave.ensures.gave;
      there = c.in_ok-gave.ensures.there;
    } in
    let r = c.find_table.new.reader in
    let own : (whole_table r.progress ≡ None) ⊎ (whole_table r.progress ≡ Some first.table) =
    subst (λ (t : RamTable). (whole_table r.progress ≡ None) ⊎ (whole_table r.progress ≡ Some t))
    (ap (λ (m : Image). m.table) at.has_memory) (c.if-is_of_other_table.ensures.own refl) in
    some_all given first text c.args.piece.now c.args.pause (g.M.GuestTarget.image c.args.memory.now)
    (g.M.GuestTarget.image c.put_given.new.memory) c.args.sections.now c.put_given.new.sections
    c.resume-reader.result r c.put_given.new.reader c.in_ok-gave.gave c.in_ok-found.found f at own c.in_ok-found.ensures.ok)

pub returns-then-is_of_other_table-clause-names : goal.returns-then-is_of_other_table-clause-names
returns-then-is_of_other_table-clause-names g c = λ given first text same at.
    let f : Found c.args.pause c.args.piece.now c.resume-reader.result c.find_table.new.reader c.in_ok-gave.gave =
    record {
      resumed = c.resume-reader.ensures.gives;
      is_fresh = c.resume-reader.ensures.given;
      gave_next = c.in_ok-gave.ensures.gave;
      there = c.in_ok-gave.ensures.there;
    } in
    let other = c.if-is_of_other_table.ensures.other refl in
    let differ : other.0 ≢ first.table = λ e. other.2 (e ∙ same) in
    names_other given first text c.args.piece.now c.args.pause c.args.named.now c.args.sections.now c.resume-reader.result
    c.find_table.new.reader c.in_ok-gave.gave other.0 f at other.1 differ

pub returns-in_ok-pause-in-Reading-clause-names : goal.returns-in_ok-pause-in-Reading-clause-names
returns-in_ok-pause-in-Reading-clause-names g c = λ given first text same at.
    let f : Found c.args.pause c.args.piece.now c.resume-reader.result c.find_table.new.reader c.in_ok-gave.gave =
    record {
      resumed = c.resume-reader.ensures.gives;
      is_fresh = c.resume-reader.ensures.given;
      gave_next = c.in_ok-gave.ensures.gave;
      there = c.in_ok-gave.ensures.there;
    } in
    let r = c.find_table.new.reader in
    let own : (whole_table r.progress ≡ None) ⊎ (whole_table r.progress ≡ Some first.table) =
    subst (λ (t : RamTable). (whole_table r.progress ≡ None) ⊎ (whole_table r.progress ≡ Some t)) (sym same) (c.if-is_of_other_table.ensures.own refl) in
    names_at given first text c.args.piece.now c.args.pause c.in_ok-pause-in-Reading.field-0 c.args.named.now
    c.put_given.new.named c.args.sections.now c.put_given.new.sections
    c.resume-reader.result r c.put_given.new.reader c.in_ok-gave.gave c.in_ok-found.found f at own c.in_ok-found.ensures.names c.in_ok-pause-in-Reading.ensures

pub returns-in_default-clause-names : goal.returns-in_default-clause-names
returns-in_default-clause-names g c = λ given first text same at.
    let f : Found c.args.pause c.args.piece.now c.resume-reader.result c.find_table.new.reader c.in_ok-gave.gave =
    record {
      resumed = c.resume-reader.ensures.gives;
      is_fresh = c.resume-reader.ensures.given;
      gave_next = c.in_ok-gave.ensures.gave;
      there = c.in_ok-gave.ensures.there;
    } in
    let r = c.find_table.new.reader in
    let own : (whole_table r.progress ≡ None) ⊎ (whole_table r.progress ≡ Some first.table) =
    subst (λ (t : RamTable). (whole_table r.progress ≡ None) ⊎ (whole_table r.progress ≡ Some t)) (sym same) (c.if-is_of_other_table.ensures.own refl) in
    names_off given first text c.args.piece.now c.args.pause c.args.named.now c.put_given.new.named c.args.sections.now c.put_given.new.sections
    c.resume-reader.result r c.put_given.new.reader c.in_ok-gave.gave c.in_ok-found.found f at own c.in_ok-found.ensures.names
