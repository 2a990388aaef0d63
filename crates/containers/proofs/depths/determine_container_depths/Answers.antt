use Rattle.containers.proofs.Rounding.{determines_is}
use Rattle.containers.proofs.depths.determine_container_depths.Goals as goal

pub returns : goal.returns
returns c = determines_is c.rounds.ensures c.poison_the_rest.ensures
