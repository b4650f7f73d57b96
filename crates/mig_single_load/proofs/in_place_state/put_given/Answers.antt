use Rattle.std.proofs.Common.{◌≡◌, ◌+◌, ◌<◌, ◌^◌, arith, sym, ap, refl, subst, ◌∙◌}
use Rattle.mig_mem.specs.Image.{Image}
use Rattle.mig_mem.specs.Round.{with_round}
use Rattle.mig_stream.specs.declared.record_reader.RecordEvent.{RecordEvent}
use Rattle.mig_stream.specs.Round.{RoundOfRecords}
use Rattle.mig_stream.proofs.Writing.{on_err}
use Rattle.mig_assemble.specs.Judging.{places_of}
use Rattle.mig_assemble.specs.NamedPlaces.{with_places}
use Rattle.mig_assemble.specs.Target.{pages_of_round, FitsTable}
use Rattle.mig_mem.specs.RamTable.{RamTable}
use Rattle.mig_single_load.specs.LoadInPlace.{IsEnd}
use Rattle.mig_single_load.proofs.LoadsInPlace.{Step, one_more, put_fits, few_more, some_on, puts_on, gives_on, puts_all, puts_none, gives_none, names_none}
use Rattle.mig_single_load.proofs.LoadsInPlace.{names_on, names_all, puts_some, no_end_records, no_end_section}
use Rattle.mig_single_load.proofs.in_place_state.put_given.Goals as goal
use Rattle.mig_single_load.proofs.in_place_state.put_given.Goals.{in-Records, in-Section}

pub records-init : goal.records-init
records-init g c = record {
  some = c.requires.some;
  same = refl;
  put = puts_none _ _ _ _;
  given = gives_none _ _ _;
  named_table = refl;
  names = names_none _ _ _ _;
}

pub overflow_add-sections : goal.overflow_add-sections
overflow_add-sections g c =
    let few : c.records.sections + 1 < 2 ^ 63 =
    few_more (g.M.GuestTarget.image c.args.memory.now).table c.records.gave c.records.reader c.records.sections c.in-Section.is c.records.invariant.some in
    omega (arith, few)

pub records-preserved : goal.records-preserved
records-preserved g c =
    let gave = c.records.gave in
    let next = c.in_ok-gave.gave in
    let r = c.records.reader in
    let s = c.read_on.new.self in
    let n = c.records.sections in
    let m : Image = g.M.GuestTarget.image c.records.memory in
    let new : Image = g.M.GuestTarget.image c.put_records.new.memory in
    let e = c.in_ok-gave.ensures in
    let step : Step next r s = record { ok = e.ok; page_size = e.page_size; places = e.places; end = e.end; none = e.none; less = e.less } in
    let is : new ≡ with_round m (pages_of_round r.given) = c.put_records.ensures.image
    ∙ ap (λ (x : RoundOfRecords). with_round m (pages_of_round x)) c.given.ensures in
    let named : c.name_records.new.named ≡ with_places c.records.named (places_of (pages_of_round r.given)) =
    c.name_records.ensures.named ∙ ap (λ (x : RoundOfRecords). with_places c.records.named (places_of (pages_of_round x))) c.given-in-records.ensures in
    let more : IsEnd gave → ⊥ = elim c.match-gave.branch [
      | in-Records w ↦ no_end_records gave w.in-Records.is
      | in-Section w ↦ no_end_section gave w.in-Section.is
    ] in
    let count : c.match-gave.sections ≡ one_more gave n =
    elim c.match-gave.branch [
      | in-Records w ↦ w.sections-is ∙ ap (λ (x : RecordEvent). one_more x n) (sym w.in-Records.is)
      | in-Section w ↦ w.sections-is ∙ ap (λ (x : RecordEvent). one_more x n) (sym w.in-Section.is)
    ] in
    record {
      some = some_on (g.M.GuestTarget.image c.args.memory.now).table gave next r s n c.match-gave.sections more count step c.records.invariant.some;
      same = ap (λ (x : Image). x.table) is ∙ c.records.invariant.same;
      put = puts_on c.args.first gave next c.args.reader.now r s
          (g.M.GuestTarget.image c.args.memory.now) m new c.args.sections.now n c.match-gave.sections more count is step c.records.invariant.put;
      given = gives_on c.args.first gave next c.args.reader.now r s c.args.sections.now n c.match-gave.sections more count step c.records.invariant.given;
      named_table = c.name_records.ensures.table ∙ c.records.invariant.named_table;
      names = names_on c.args.first gave next c.args.reader.now r s c.args.named.now c.records.named c.name_records.new.named
          c.args.sections.now n c.match-gave.sections more count named step c.records.invariant.names;
    }

pub put_records-requires : goal.put_records-requires
put_records-requires g c =
    let gave = c.records.gave in
    let some = c.records.invariant.some in
    let table : RamTable = (g.M.GuestTarget.image c.args.memory.now).table in
    let more : IsEnd gave → ⊥ = elim c.match-gave.branch [
      | in-Records w ↦ no_end_records gave w.in-Records.is
      | in-Section w ↦ no_end_section gave w.in-Section.is
    ] in
    let fits : FitsTable table c.records.reader.given =
    put_fits some.given table some.text some.so_far gave c.records.reader c.records.sections more some.puts in
    subst (λ (t : RamTable). FitsTable t c.given.result.now) (sym c.records.invariant.same)
    (subst (λ (x : RoundOfRecords). FitsTable table x) (sym c.given.ensures) fits)

pub name_records-requires : goal.name_records-requires
name_records-requires g c =
    let gave = c.records.gave in
    let some = c.records.invariant.some in
    let table : RamTable = (g.M.GuestTarget.image c.args.memory.now).table in
    let more : IsEnd gave → ⊥ = elim c.match-gave.branch [
      | in-Records w ↦ no_end_records gave w.in-Records.is
      | in-Section w ↦ no_end_section gave w.in-Section.is
    ] in
    let fits : FitsTable table c.records.reader.given =
    put_fits some.given table some.text some.so_far gave c.records.reader c.records.sections more some.puts in
    record {
      fits = subst (λ (t : RamTable). FitsTable t c.given-in-records.result.now)
          (sym (c.records.invariant.named_table ∙ c.requires.named)) (subst (λ (x : RoundOfRecords). FitsTable table x) (sym c.given-in-records.ensures) fits);
    }

pub returns-in_err-gave-clause-err : goal.returns-in_err-gave-clause-err
returns-in_err-gave-clause-err g c =
    let gave = c.records.gave in
    let r = c.records.reader in
    let n = c.records.sections in
    let m : Image = g.M.GuestTarget.image c.records.memory in
    let new : Image = g.M.GuestTarget.image c.put_records.new.memory in
    let is : new ≡ with_round m (pages_of_round r.given) = c.put_records.ensures.image
    ∙ ap (λ (x : RoundOfRecords). with_round m (pages_of_round x)) c.given.ensures in
    let more : IsEnd gave → ⊥ = elim c.match-gave.branch [
      | in-Records w ↦ no_end_records gave w.in-Records.is
      | in-Section w ↦ no_end_section gave w.in-Section.is
    ] in
    let count : c.match-gave.sections ≡ one_more gave n =
    elim c.match-gave.branch [
      | in-Records w ↦ w.sections-is ∙ ap (λ (x : RecordEvent). one_more x n) (sym w.in-Records.is)
      | in-Section w ↦ w.sections-is ∙ ap (λ (x : RecordEvent). one_more x n) (sym w.in-Section.is)
    ] in
    on_err c.from_residual.result _ (puts_some c.args.first gave c.args.reader.now r
    (g.M.GuestTarget.image c.args.memory.now) m new c.args.sections.now n c.match-gave.sections more count is c.records.invariant.put)

pub returns-in-End-clause-ok : goal.returns-in-End-clause-ok
returns-in-End-clause-ok g c =
    puts_all c.args.first c.records.gave c.in-End.found c.args.reader.now c.records.reader
    (g.M.GuestTarget.image c.args.memory.now) (g.M.GuestTarget.image c.records.memory)
    c.args.sections.now c.records.sections c.in-End.is c.records.invariant.put

pub returns-in-End-clause-names : goal.returns-in-End-clause-names
returns-in-End-clause-names g c =
    names_all c.args.first c.records.gave c.in-End.found c.args.reader.now c.records.reader c.args.named.now c.records.named
    c.args.sections.now c.records.sections c.in-End.is c.records.invariant.names
