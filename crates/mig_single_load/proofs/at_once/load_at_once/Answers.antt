use Rattle.std.proofs.Common.{◌≡◌, ℕ, sym, ap, subst, ◌∙◌, arith}
use Rattle.mig_mem.specs.RamTable.{RamTable}
use Rattle.mig_mem.specs.Image.{Image}
use Rattle.mig_mem.specs.PlaceSet.{PlaceSet}
use Rattle.mig_mem.specs.Round.{with_round}
use Rattle.mig_stream.specs.Round.{RoundOfRecords}
use Rattle.mig_stream.specs.Giving.{none_given}
use Rattle.mig_assemble.specs.Judging.{places_of}
use Rattle.mig_assemble.specs.NamedPlaces.{with_places}
use Rattle.mig_assemble.specs.Target.{pages_of_round, FitsTable}
use Rattle.mig_load_types.specs.Settings.{single_of}
use Rattle.mig_single_load.proofs.LoadedAtOnce.{Gave, HasPut, put_first, put_fits, name_fits, put_records_more, put_section_more, fewer_records, fewer_section}
use Rattle.mig_single_load.proofs.LoadedAtOnce.{answers_each}
use Rattle.mig_single_load.proofs.at_once.load_at_once.Goals as goal
use Rattle.mig_single_load.proofs.at_once.load_at_once.Goals.{in-Records, in-Section}

pub pieces-init : goal.pieces-init
pieces-init g c =
    let given = c.args.settings in
    let text = c.args.text.now in
    let table : RamTable = c.in-Some.table.now in
    let e = c.in_ok-gave.ensures in
    let step : Gave c.in_ok-gave.gave c.new-reader.result c.read_on.new.self = record {
      ok = e.ok;
      page_size = e.page_size;
      places = e.places;
      end = e.end;
      found = e.found;
      less = e.less;
    } in
    let has = c.in-Some.ensures.table (single_of given) text _ (e.ok (single_of given) text none_given c.new-reader.ensures.gives) in (
      table,
      put_first given text table c.in_ok-gave.gave c.new-reader.result c.read_on.new.self c.in_ok-memory.memory
          c.in_ok-named.named c.requires.page_size c.new-reader.ensures.gives c.new-reader.ensures.left step has c.in_ok-memory.ensures c.in_ok-named.ensures,
    )

pub put_records-requires : goal.put_records-requires
put_records-requires g c =
    subst (λ (x : RoundOfRecords). FitsTable c.pieces.memory.table x) (sym c.given.ensures)
    (put_fits c.args.settings c.args.text.now c.pieces.invariant.0 c.pieces.gave c.pieces.reader c.pieces.memory c.pieces.named
    c.pieces.sections c.pieces.invariant.1)

pub name_records-requires : goal.name_records-requires
name_records-requires g c = record {
  fits = subst (λ (x : RoundOfRecords). FitsTable c.pieces.named.table x) (sym c.given-in-pieces.ensures)
      (name_fits c.args.settings c.args.text.now c.pieces.invariant.0 c.pieces.gave c.pieces.reader c.pieces.memory c.pieces.named
      c.pieces.sections c.pieces.invariant.1);
}

pub pieces-smaller : goal.pieces-smaller
pieces-smaller g c = elim c.match-gave.branch [
  | in-Records w ↦ fewer_records c.pieces.gave c.in_ok-gave-2.gave c.pieces.reader c.read_on-in-pieces.new.self w.in-Records.is c.in_ok-gave-2.ensures.less
  | in-Section w ↦ fewer_section c.pieces.gave c.in_ok-gave-2.gave c.pieces.reader c.read_on-in-pieces.new.self w.in-Section.is c.in_ok-gave-2.ensures.less
]

pub pieces-preserved : goal.pieces-preserved
pieces-preserved g c =
    let given = c.args.settings in
    let text = c.args.text.now in
    let table : RamTable = c.pieces.invariant.0 in
    let old = c.pieces.reader in
    let new = c.read_on-in-pieces.new.self in
    let m : Image = c.pieces.memory in
    let next = c.in_ok-gave-2.gave in
    let e = c.in_ok-gave-2.ensures in
    let step : Gave next old new = record { ok = e.ok; page_size = e.page_size; places = e.places; end = e.end; found = e.found; less = e.less } in
    let put : c.put_records.new.memory ≡ with_round m (pages_of_round old.given) = c.put_records.ensures.image
    ∙ ap (λ (x : RoundOfRecords). with_round m (pages_of_round x)) c.given.ensures in
    let names : PlaceSet = c.pieces.named in
    let more : c.name_records.new.named ≡ with_places names (places_of (pages_of_round old.given)) =
    c.name_records.ensures.named ∙ ap (λ (x : RoundOfRecords). with_places names (places_of (pages_of_round x))) c.given-in-pieces.ensures in (
      table,
      elim c.match-gave.branch [
        | in-Records w ↦
            subst (λ (n : ℕ). HasPut given text table next new c.put_records.new.memory c.name_records.new.named n) (sym w.sections-is)
            (put_records_more given text table c.pieces.gave next old new m c.put_records.new.memory names
            c.name_records.new.named c.pieces.sections w.in-Records.is c.pieces.invariant.1 put more step)
        | in-Section w ↦
            subst (λ (n : ℕ). HasPut given text table next new c.put_records.new.memory c.name_records.new.named n) (sym w.sections-is)
            (put_section_more given text table c.pieces.gave next old new m c.put_records.new.memory names
            c.name_records.new.named c.pieces.sections w.in-Section.is c.pieces.invariant.1 put more step)
      ],
    )

pub returns-in-End : goal.returns-in-End
returns-in-End g c =
    answers_each c.args.settings c.args.text.now c.pieces.invariant.0 c.pieces.gave c.in-End.found c.pieces.reader c.pieces.memory
    c.pieces.named c.pieces.sections c.valid_up_to-at.result _ c.in-End.is c.pieces.invariant.1
    (omega arith) c.valid_up_to-at.ensures.end c.answer_if_closed.ensures
