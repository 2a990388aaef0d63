use Rattle.labels.proofs.Visiting.{label_past, visits_label}
use Rattle.labels.proofs.visit_label.Goals as goal

pub returns-then-k-gt2047 : goal.returns-then-k-gt2047
returns-then-k-gt2047 c = λ left. label_past left c.if-k-gt2047.true

pub returns : goal.returns
returns c = λ left. visits_label left c.shown-name.ensures c.shown-place.ensures c.find_label-earlier.ensures c.label_outcome.ensures c.set_outcome.ensures c.declare_label.ensures
