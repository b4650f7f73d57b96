use Rattle.std.proofs.Common.{◌≡◌, ◌≢◌, ◌∙◌, true, false, sym, subst, inl, inr}
use Rattle.std.specs.Option.{option_copied}
use Rattle.std.specs.Prelude.{is_some}
use Rattle.mig_stream.specs.declared.item.StreamState.TheVariants as stream_state
use Rattle.mig_in_place.specs.Sources.{KeptMain, TellsList}
use Rattle.mig_in_place.specs.declared.main_stream.SizeList.TheVariants as list
use Rattle.mig_in_place.proofs.Mains.{kept, copied, lists_complete, lists_awaited, lists_lost}
use Rattle.mig_in_place.proofs.main_stream.MainStream.size_list.Goals as goal

pub returns-then-is_some : goal.returns-then-is_some
returns-then-is_some g c =
    let m : KeptMain = kept c.self.inside.reader c.self.inside.is_whole in
    let some : is_some (option_copied c.table.result) ≡ true = copied c.table.result ∙ sym c.is_some.ensures ∙ c.if-is_some.true in
    subst (λ (m : KeptMain). TellsList m list.Complete) c.self.view_is (lists_complete m (option_copied c.table.result) c.table.ensures some)

pub returns-in-Reading : goal.returns-in-Reading
returns-in-Reading g c =
    let m : KeptMain = kept c.self.inside.reader c.self.inside.is_whole in
    let none : is_some (option_copied c.table.result) ≡ false = copied c.table.result ∙ sym c.is_some.ensures ∙ c.if-is_some.false in
    subst (λ (m : KeptMain). TellsList m list.Awaited) c.self.view_is
    (lists_awaited m (option_copied c.table.result) c.state.result c.table.ensures none c.state.ensures c.in-Reading.is)

pub returns-in-Closed : goal.returns-in-Closed
returns-in-Closed g c =
    let m : KeptMain = kept c.self.inside.reader c.self.inside.is_whole in
    let none : is_some (option_copied c.table.result) ≡ false = copied c.table.result ∙ sym c.is_some.ensures ∙ c.if-is_some.false in
    let over : c.state.result ≢ stream_state.Reading = λ reads. elim c.in-Closed.is [
      | inl e ↦ absurd (let both = sym e ∙ reads in cc)
      | inr bad ↦ absurd (let both = sym bad.1 ∙ reads in cc)
    ] in
    subst (λ (m : KeptMain). TellsList m list.Lost) c.self.view_is
    (lists_lost m (option_copied c.table.result) c.state.result c.table.ensures none c.state.ensures over)
