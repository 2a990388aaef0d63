use Rattle.labels.proofs.Visiting.{visits_goto}
use Rattle.labels.proofs.visit_goto.Goals as goal

pub returns : goal.returns
returns c = λ left. visits_goto left c.shown-name.ensures c.find_label-found.ensures c.unwrap_or.ensures c.set_outcome.ensures
