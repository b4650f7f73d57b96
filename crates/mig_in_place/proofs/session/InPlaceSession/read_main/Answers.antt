use Rattle.std.proofs.Common.{◌≡◌, ◌∙◌, refl, sym, ap, subst}
use Rattle.std.specs.Prelude.{IsFalse, ◌⊎◌, None, Some}
use Rattle.mig_stream.specs.Reader.{HasTable}
use Rattle.mig_mem.specs.RamTable.{RamTable}
use Rattle.mig_mem.specs.Image.{Image}
use Rattle.mig_load_types.specs.Settings.{main_of, for_table}
use Rattle.mig_load_types.specs.declared.fault.Origin.TheVariants as origin
use Rattle.mig_load_types.specs.declared.fault.Fault.TheVariants as fault
use Rattle.mig_answer.specs.declared.verdict.Verdict.{Verdict}
use Rattle.mig_answer.specs.Texts.{Text, with_piece}
use Rattle.mig_answer.specs.MultiLoad.{failed}
use Rattle.mig_sources.specs.declared.source.Source.TheVariants as source
use Rattle.mig_in_place.specs.Sources.{StandsAt}
use Rattle.mig_in_place.specs.Session.{InPlaceLoad, Loads, Stands, IsMainOf, IsUnsettled, with_bytes}
use Rattle.mig_in_place.proofs.MainComes.{of_other, main_read, piece_goes}
use Rattle.mig_in_place.proofs.session.InPlaceSession.read_main.Goals as goal

pub returns-then-is_of_other_table-clause-read : goal.returns-then-is_of_other_table-clause-read
returns-then-is_of_other_table-clause-read g c = λ f loads.
    let i = c.self.inside in
    let memory : Image = g.M.GuestTarget.image c.args.memory.now in
    let s : InPlaceLoad =
    record {
      table = i.table;
      sources = record { main = i.main; channels = i.channels.items };
      round = i.round;
      rounds = i.rounds;
      base = i.base;
      named = i.named;
      verdict = i.verdict;
    } in
    let mine : Loads f memory s = subst (λ (x : InPlaceLoad). Loads f memory x) (sym c.self.view_is) loads in
    let given = main_of (for_table f.first.table f.given) in
    let open_ : IsFalse i.main.reader.ended = ap (λ (x : InPlaceLoad). x.sources.main.reader.ended) c.self.view_is ∙ c.requires.open in
    let text : Text = with_piece c.args.piece.now f.texts.main in
    let stands : StandsAt given i.rounds text c.feed.new.self = c.in_ok-feed.ensures.stands given i.rounds f.texts.main mine.is_running.main.stands in
    let other = c.if-is_of_other_table.ensures.other refl given i.rounds text stands in
    let at : Stands (with_bytes source.Main c.args.piece.now f) memory
    (record s { sources = record s.sources { main = c.feed.new.self }; verdict = failed 0 origin.Main fault.OtherTable }) =
    of_other f memory s mine text (piece_goes f memory s mine c.args.piece.now open_) c.feed.new.self other.0 stands other.1 other.2 in
    subst (λ (v : Verdict). IsUnsettled (with_bytes source.Main c.args.piece.now f) memory
    (record s { sources = record s.sources { main = c.feed.new.self }; verdict = v })) (sym c.failed-self-inside.ensures)
    (record { runs = λ running. absurd cc; stands = λ _. at })

pub take_main_round-requires-clause-main : goal.take_main_round-requires-clause-main
take_main_round-requires-clause-main g c =
    let i = c.self.inside in
    let table : i.table ≡ (g.M.GuestTarget.image c.args.memory.now).table = ap (λ (x : InPlaceLoad). x.table) c.self.view_is ∙ sym c.requires.table in
    let is : IsMainOf i.table i.main = c.self.invariant.main (ap (λ (x : InPlaceLoad). x.verdict) c.self.view_is ∙ c.requires.runs) in
    let stands : StandsAt is.given is.k (with_piece c.args.piece.now is.text) c.feed.new.self = c.in_ok-feed.ensures.stands is.given is.k is.text is.stands in
    subst (λ (t : RamTable). IsMainOf t c.feed.new.self) table (record {
      given = is.given;
      k = is.k;
      text = with_piece c.args.piece.now is.text;
      stands = stands;
      is_page_size = is.is_page_size;
      has_page_size = is.has_page_size;
      is_own = c.if-is_of_other_table.ensures.own refl is.given is.k (with_piece c.args.piece.now is.text) stands;
    })

pub returns-clause-read : goal.returns-clause-read
returns-clause-read g c = λ f loads.
    let i = c.self.inside in
    let memory : Image = g.M.GuestTarget.image c.args.memory.now in
    let s : InPlaceLoad =
    record {
      table = i.table;
      sources = record { main = i.main; channels = i.channels.items };
      round = i.round;
      rounds = i.rounds;
      base = i.base;
      named = i.named;
      verdict = i.verdict;
    } in
    let mine : Loads f memory s = subst (λ (x : InPlaceLoad). Loads f memory x) (sym c.self.view_is) loads in
    let given = main_of (for_table f.first.table f.given) in
    let open_ : IsFalse i.main.reader.ended = ap (λ (x : InPlaceLoad). x.sources.main.reader.ended) c.self.view_is ∙ c.requires.open in
    let here : IsFalse i.main.is_whole = ap (λ (x : InPlaceLoad). x.sources.main.is_whole) c.self.view_is ∙ c.requires.here in
    let running = ap (λ (x : InPlaceLoad). x.verdict) c.self.view_is ∙ c.requires.runs in
    let text : Text = with_piece c.args.piece.now f.texts.main in
    let stands : StandsAt given i.rounds text c.feed.new.self = c.in_ok-feed.ensures.stands given i.rounds f.texts.main mine.is_running.main.stands in
    let found = subst (λ (t : RamTable). HasTable given text.bytes None ⊎ HasTable given text.bytes (Some t))
    (sym mine.same_table) (c.if-is_of_other_table.ensures.own refl given i.rounds text stands) in
    record {
      runs = λ _. main_read f memory s mine text
          (piece_goes f memory s mine c.args.piece.now open_) c.feed.new.self c.take_main_round.new.main c.take_main_round.new.round
          (g.M.GuestTarget.image c.take_main_round.new.memory) (c.feed.ensures.whole ∙ here) here stands found
          (c.take_main_round.ensures.taken given i.rounds text stands);
      stands = λ other. absurd (other running);
    }
