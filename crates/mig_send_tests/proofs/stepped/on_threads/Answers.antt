use Rattle.std.proofs.Common.{rules, ◌≡◌}
use Rattle.mig_send_tests.proofs.TwoWorkers.{sent_by_two}
use Rattle.mig_send_tests.proofs.stepped.on_threads.Goals as goal

pub returns : goal.returns
returns g c =
    let image = c.args.given.now.memory in
    let same : image.table ≡ c.args.sender.main.table = search rules in
    sent_by_two image c.args.given.now.dirty c.args.sender c.begin-round.result c.worker_of-a.new.round c.worker_of-b.new.round
    c.give_back.new.round c.give_back-2.new.round
    c.worker_of-a.result c.worker_of-b.result c.run_both.new.a c.run_both.new.b c.end.result
    c.table.ensures.image same c.begin-round.ensures c.worker_of-a.ensures c.worker_of-b.ensures
    c.run_both.ensures.a c.run_both.ensures.b c.give_back.ensures c.give_back-2.ensures c.end.ensures
