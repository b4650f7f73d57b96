use Rattle.std.proofs.Common.{rules, ◌≡◌, refl, subst, ◌∙◌, ℕ, List, arith}
use Rattle.mig_packet.specs.Hello.{written_hello}
use Rattle.zimgasol_packing.specs.Packing.{HaveTexts, with_bytes, hellos_to}
use Rattle.zimgasol_packing.proofs.Steps.{no_hellos, one_hello, all_hellos}
use Rattle.zimgasol_packing.proofs.channels.put_hellos.Goals as goal

pub loop-channel-init : goal.loop-channel-init
loop-channel-init g c = record {
  len = refl;
  uuid = λ low. absurd (omega (arith, low));
  put = no_hellos g.F.Write.contents c.args.channels.now.items c.args.uuid.now;
}

pub loop-channel-preserved : goal.loop-channel-preserved
loop-channel-preserved g c = record {
  len = c.in_ok-put_on.ensures.len ∙ c.loop-channel.invariant.len;
  uuid = λ _. c.hello.ensures.uuid;
  put = λ have.
      let n = c.loop-channel.channel in
      let uuid = c.args.uuid.now in
      let hello : c.hello.result ≡ written_hello uuid n = c.hello.ensures.hello in
      one_hello g.F.Write.contents c.put_on.new.channels.items uuid n
      (subst (λ (l : List ℕ). HaveTexts g.F.Write.contents c.put_on.new.channels.items (with_bytes (hellos_to uuid n) n l)) hello
      (c.in_ok-put_on.ensures.put (hellos_to uuid n) (c.loop-channel.invariant.put have)));
}

pub returns-clause-put : goal.returns-clause-put
returns-clause-put g c = λ have.
    all_hellos g.F.Write.contents c.loop-channel.channels.items c.args.uuid.now c.loop-channel.channel (search rules) (c.loop-channel.invariant.put have)
