use Rattle.std.proofs.Common.{◌≡◌, ◌∙◌, ℕ, List, [], ap}
use Rattle.std.specs.Prelude.{Vec}
use Rattle.std.specs.List.{slice_set}
use Rattle.std.proofs.lemmas.List.{map-set}
use Rattle.mig_send.specs.MultiSending.{MultiSending, texts_of}
use Rattle.mig_send.proofs.multi.MultiSender.take_channel.Goals as goal

pub returns-clause-rest : goal.returns-clause-rest
returns-clause-rest g c =
    let s = c.self.inside in
    let texts = texts_of s.channels.items in
    let items = λ (text : Vec ℕ _). text.items in
    let moved : texts_of (slice_set s.channels.items c.args.channel c.replace.new.dest) ≡ slice_set texts c.args.channel [] =
    map-set items s.channels.items c.args.channel c.replace.new.dest
    ∙ ap (λ (l : List ℕ). slice_set texts c.args.channel l) (ap items c.replace.ensures.after ∙ c.new.ensures.items) in
    ap (λ (l : List (List ℕ)). record { main = s.main; uuid = s.uuid; limit = s.limit; channels = l; base = s.base; rounds = s.rounds }) moved
    ∙ ap (λ (old : MultiSending). record old { channels = slice_set old.channels c.args.channel [] }) c.self.view_is
