use Rattle.std.proofs.Common.{◌≡◌, ◌∙◌, List, ℕ, Bool, take, refl, ap, sym, subst}
use Rattle.mig_send.specs.ChannelWork.{ChannelWork}
use Rattle.mig_send.specs.Heads.{PutsHead}
use Rattle.mig_c_calls.specs.Heads.{flags_of}
use Rattle.mig_c_calls.proofs.Heads.{put_length}
use Rattle.mig_c_calls.proofs.worker.give_head.Goals as goal

pub move_out-requires : goal.move_out-requires
move_out-requires c =
    let old : ChannelWork = c.args.worker.now in
    (put_length c.table.result.now old.terms old.hand c.args.zeros.now _ c.set_flags.new.flags old.text c.put_head.new.self.text
    c.table.ensures c.keeps_limits.ensures c.requires.none c.requires.batch c.in-Ok.ensures.head.has_head).1

pub returns-in-Ok : goal.returns-in-Ok
returns-in-Ok c =
    let old : ChannelWork = c.args.worker.now in
    let put : ChannelWork = c.put_head.new.self in
    let moved = c.move_out.ensures in
    let head = c.in-Ok.ensures.head in
    let len = (put_length c.table.result.now old.terms old.hand c.args.zeros.now _ c.set_flags.new.flags old.text put.text
    c.table.ensures c.keeps_limits.ensures c.requires.none c.requires.batch head.has_head).0 in
    let out : List ℕ = take c.move_out.result c.move_out.new.out in
    let same : record c.move_out.new.worker { text = out } ≡ put = ap (λ (w : ChannelWork). record w { text = out }) moved.rest
    ∙ ap (λ (l : List ℕ). record put { text = l }) moved.front in
    record {
      is_named = refl;
      puts = λ _. (
        subst (λ (w : ChannelWork). PutsHead (flags_of c.args.zeros.now) old w) (sym same)
            (subst (λ (flags : List Bool). PutsHead flags old put) c.set_flags.ensures head),
        ap (λ (w : ChannelWork). w.text) moved.rest,
        moved.none,
      );
      has_length = λ _. moved.len ∙ len;
      same = λ no. absurd (no refl);
      same_work = (
        ap (λ (w : ChannelWork). w.terms) moved.rest ∙ ap (λ (w : ChannelWork). w.terms) head.rest,
        ap (λ (w : ChannelWork). w.channel) moved.rest ∙ ap (λ (w : ChannelWork). w.channel) head.rest,
      );
    }
