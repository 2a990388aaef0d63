use Rattle.walk.proofs.Following.{edge_to_fine, edge_to_poisoned, edge_to_cyclical}
use Rattle.walk.proofs.Looking.{edge_not}
use Rattle.walk.proofs.edges.edge_to.Goals as goal

pub returns-then-work-lt-WORDS : goal.returns-then-work-lt-WORDS
returns-then-work-lt-WORDS c = edge_not c.if-work-lt-WORDS.true

pub returns-in-Fine : goal.returns-in-Fine
returns-in-Fine c = edge_to_fine _ c.found_container_1.ensures c.in-Fine.is

pub returns-in-Poisoned : goal.returns-in-Poisoned
returns-in-Poisoned c = edge_to_poisoned _ c.found_container_1.ensures c.in-Poisoned.is

pub returns-in-Cyclical : goal.returns-in-Cyclical
returns-in-Cyclical c = edge_to_cyclical _ c.found_container_1.ensures c.in-Cyclical.is c.cyclical.ensures
