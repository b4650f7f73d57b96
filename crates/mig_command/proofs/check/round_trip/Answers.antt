use Rattle.std.proofs.Common.{◌≡◌, ◌∙◌, List, sym, ap, map, subst}
use Rattle.std.specs.List.{All}
use Rattle.std.specs.Prelude.{ℕ, IsTrue, IsSomeAnd}
use Rattle.mig_mem.specs.RamTable.{RamTable}
use Rattle.mig_scenario.specs.declared.line.Line.{Line}
use Rattle.mig_scenario.specs.Line.{ScenarioLine}
use Rattle.mig_scenario.specs.Seen.{seen}
use Rattle.mig_scenario.specs.Scenario.{is_within, lines_of, table_of}
use Rattle.mig_scenario.specs.Layout.{bytes_in}
use Rattle.mig_command.specs.Answer.{IsLoadOf, table_in}
use Rattle.mig_command.proofs.Checking.{outcomes, gone, has_channels}
use Rattle.mig_scenario.proofs.Sendings.{has_text, has_room}
use Rattle.mig_command.proofs.check.round_trip.Goals as goal

pub both-requires : goal.both-requires
both-requires g c =
    let size : c.in_ok-scenario.scenario.table.page_size ≡ bytes_in c.args.layout.page_size =
    ap (λ (t : RamTable). t.page_size) c.in_ok-scenario.ensures.ok.0 ∙ c.bytes-page_size.ensures.value in
    record { room = has_room c.in_ok-scenario.scenario.table c.args.layout size c.requires }

pub returns-clause-ok : goal.returns-clause-ok
returns-clause-ok g c =
    let layout = c.args.layout in
    let text = c.args.text.now in
    let scenario = c.in_ok-scenario.scenario in
    let judged = c.in_ok-scenario.ensures in
    let played = c.in_ok-played.played in
    let lines : map seen c.deref.result.now ≡ map seen scenario.lines.items = ap (λ (l : List Line). map seen l) c.deref.ensures.value in
    let table : scenario.table ≡ table_in layout text = judged.ok.0 ∙ ap (λ (size : ℕ). table_of size (lines_of text)) c.bytes-page_size.ensures.value in
    let sent = has_text c.in_ok-senders.senders.single played.texts.single _ c.in_ok-senders.ensures.single c.in_ok-played.ensures.texts.single_text in
    let load = subst (λ (size : ℕ). IsSomeAnd played.texts.single (λ t. IsLoadOf size t.items c.load_stream-loaded.result))
    c.bytes-page_size.ensures.value c.load_stream-loaded.ensures in
    outcomes layout text scenario.table (map seen c.deref.result.now) played.image played.texts.single c.load_stream-loaded.result
    c.keeps_limits.ensures table (lines ∙ judged.ok.1)
    (subst (λ (l : List ScenarioLine). All (λ x. IsTrue (is_within scenario.table x)) l) (sym lines) judged.within)
    judged.sent c.in_ok-played.ensures.image sent load

pub returns-clause-several : goal.returns-clause-several
returns-clause-several g c =
    let layout = c.args.layout in
    let text = c.args.text.now in
    let scenario = c.in_ok-scenario.scenario in
    let judged = c.in_ok-scenario.ensures in
    let lines : map seen c.deref.result.now ≡ map seen scenario.lines.items = ap (λ (l : List Line). map seen l) c.deref.ensures.value in
    let table : scenario.table ≡ table_in layout text = judged.ok.0 ∙ ap (λ (size : ℕ). table_of size (lines_of text)) c.bytes-page_size.ensures.value in
    gone layout text scenario.table (map seen c.deref.result.now) c.nil.result c.in_ok-senders.senders.several
    c.in_ok-played.played.texts.several table (lines ∙ judged.ok.1) c.nil.ensures
    c.in_ok-senders.ensures.several c.in_ok-played.ensures.texts.several_texts

pub returns-clause-channels : goal.returns-clause-channels
returns-clause-channels g c = has_channels c.args.layout c.args.text.now c.in_ok-played.played.texts.several (returns-clause-several g c)
