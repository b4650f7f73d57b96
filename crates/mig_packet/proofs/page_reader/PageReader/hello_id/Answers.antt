use Rattle.mig_packet.proofs.PagingState.{hello_told}
use Rattle.std.proofs.Common.{ap}
use Rattle.mig_packet.specs.Paging.{PageHolder}
use Rattle.mig_packet.proofs.page_reader.PageReader.hello_id.Goals as goal

pub returns-clause-hello : goal.returns-clause-hello
returns-clause-hello g c = hello_told c.args.self.now c.self.inside.hello (ap (λ (r : PageHolder). r.hello) c.self.view_is)
