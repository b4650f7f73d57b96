use Rattle.std.proofs.Common.{ℕ, subst}
use Rattle.std.specs.Option.{option_copied}
use Rattle.mig_stream.specs.Reading.{Settings}
use Rattle.mig_stream.specs.Reader.{HasTable}
use Rattle.mig_answer.specs.Texts.{Text}
use Rattle.mig_in_place.specs.Sources.{KeptMain, StandsAt}
use Rattle.mig_in_place.proofs.Mains.{kept, tells_table}
use Rattle.mig_in_place.proofs.main_stream.MainStream.table.Goals as goal

pub returns : goal.returns
returns g c =
    subst (λ (m : KeptMain). (given : Settings) (k : ℕ) (text : Text) → StandsAt given k text m
    → HasTable given text.bytes (option_copied c.table.result)) c.self.view_is
    (tells_table (kept c.self.inside.reader c.self.inside.is_whole) (option_copied c.table.result) c.table.ensures)
