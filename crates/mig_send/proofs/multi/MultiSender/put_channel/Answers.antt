use Rattle.std.proofs.Common.{◌≡◌, ◌∙◌, ℕ, List, ap}
use Rattle.std.specs.Prelude.{Vec}
use Rattle.std.specs.List.{slice_set}
use Rattle.std.proofs.lemmas.List.{map-set}
use Rattle.mig_send.specs.MultiSending.{MultiSending, texts_of}
use Rattle.mig_send.proofs.multi.MultiSender.put_channel.Goals as goal

pub returns : goal.returns
returns g c =
    let s = c.self.inside in
    let texts = texts_of s.channels.items in
    let at = c.args.channel in
    let text = c.args.text.items in
    let moved : texts_of (slice_set s.channels.items at c.args.text) ≡ slice_set texts at text =
    map-set (λ (text : Vec ℕ _). text.items) s.channels.items at c.args.text in
    ap (λ (l : List (List ℕ)). record { main = s.main; uuid = s.uuid; limit = s.limit; channels = l; base = s.base; rounds = s.rounds }) moved
    ∙ ap (λ (old : MultiSending). record old { channels = slice_set old.channels at text }) c.self.view_is
