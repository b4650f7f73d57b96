use Rattle.mig_relay.proofs.RelayAnswers.{places_of_main}
use Rattle.mig_relay.proofs.relayed.Going.main_places.Goals as goal

pub returns : goal.returns
returns g c = λ l ends goes. places_of_main l c.args.self.now.reader c.args.self.now.target.rounds c.main_places.result goes.stands c.main_places.ensures
