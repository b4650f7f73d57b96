use Rattle.std.proofs.Common.{◌≡◌, ◌≤◌, length}
use Rattle.std.specs.Prelude.{vec_len}
use Rattle.mig_command.proofs.loading.load_channels.Goals as goal

pub load_multi-loaded-requires-clause-channels : goal.load_multi-loaded-requires-clause-channels
load_multi-loaded-requires-clause-channels g c = λ lifetimes lives.
    let len : length c.deref-2.result.now ≡ vec_len c.in_ok-channels.channels = c.deref-2.ensures.len in
    let count : vec_len c.in_ok-channels.channels ≡ c.args.request.now.channels = c.in_ok-channels.ensures.count in
    let few : vec_len c.in_ok-channels.channels ≤ 255 = c.in_ok-channels.ensures.few in
    (rw (len, count) c.requires.channels, rw len few)
