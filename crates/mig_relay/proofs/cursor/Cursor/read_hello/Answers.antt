use Rattle.std.proofs.Common.{List, ℕ, sym, subst}
use Rattle.mig_stream.proofs.ZeroRecords.{tail_from}
use Rattle.mig_packet.specs.declared.front.HelloRead.TheVariants as hello
use Rattle.mig_packet.specs.FrontRead.{ReadsHello}
use Rattle.mig_relay.specs.declared.message.Message.{Message}
use Rattle.mig_relay.specs.Cursor.{Finds}
use Rattle.mig_relay.proofs.Finding.{finds_hello, finds_cut_hello, finds_bad_hello}
use Rattle.mig_relay.proofs.cursor.Cursor.read_hello.Goals as goal

pub returns-in-Whole : goal.returns-in-Whole
returns-in-Whole c =
    let k = c.args.self in
    let text = c.args.text.now in
    let read = subst (λ (rest : List ℕ). ReadsHello k.uuid k.channels rest (hello.Whole c.in-Whole.id)) (tail_from text k.at) c.in-Whole.ensures.reads in
    finds_hello k text c.in-Whole.id c.requires.before c.requires.within read.0 read.1

pub returns-in-Cut : goal.returns-in-Cut
returns-in-Cut c =
    let k = c.args.self in
    let text = c.args.text.now in
    let read = subst (λ (rest : List ℕ). ReadsHello k.uuid k.channels rest hello.Cut) (tail_from text k.at) c.in-Cut.ensures.reads in
    subst (λ (m : Message). Finds k text m k) (sym c.stop.ensures) (finds_cut_hello k text c.requires.before c.requires.within read)

pub returns-in-Bad : goal.returns-in-Bad
returns-in-Bad c =
    let k = c.args.self in
    let text = c.args.text.now in
    let read = subst (λ (rest : List ℕ). ReadsHello k.uuid k.channels rest (hello.Bad c.in-Bad.fault)) (tail_from text k.at) c.in-Bad.ensures.reads in
    subst (λ (m : Message). Finds k text m k) (sym c.stop-in-Bad.ensures) (finds_bad_hello k text c.in-Bad.fault c.requires.before c.requires.within read)
