use Rattle.std.proofs.Common.{◌∙◌, ◌++◌, ◌∷◌, List, [], ℕ, map, ap}
use Rattle.std.specs.Prelude.{Vec}
use Rattle.std.specs.List.{range_with_len}
use Rattle.std.proofs.lemmas.List.{map_push}
use Rattle.mig_packet.specs.Hello.{written_hello}
use Rattle.mig_send.specs.MultiSending.{texts_of}
use Rattle.mig_send.proofs.Channels.{one_more}
use Rattle.mig_send.proofs.multi.hellos.Goals as goal

pub channels-preserved : goal.channels-preserved
channels-preserved g c =
    let uuid = c.args.uuid.now in
    let id = c.channels.id in
    let text = c.in_ok-from_slice.ensures.items ∙ c.hello.ensures.hello in
    ap texts_of c.in_ok-push.ensures.items ∙ (map_push (λ (text : Vec ℕ _). text.items) c.channels.texts.items c.in_ok-from_slice.field-0
    ∙ (ap (λ (l : List (List ℕ)). l ++ c.in_ok-from_slice.field-0.items ∷ []) c.channels.invariant
    ∙ (ap (λ (x : List ℕ). map (written_hello uuid) (range_with_len 0 id) ++ x ∷ []) text
    ∙ one_more (written_hello uuid) id)))
