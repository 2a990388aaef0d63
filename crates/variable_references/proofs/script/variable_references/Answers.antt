use Rattle.variable_references.proofs.Answering.{referenced}
use Rattle.variable_references.proofs.script.variable_references.Goals as goal

pub returns : goal.returns
returns c = λ m. referenced (c.predeclare_all-begin.ensures m) c.then_names.ensures c.then_number-wrote.ensures c.started-st.ensures c.declarations.ensures c.determine_depths.ensures c.determine_depths.auto.work (c.then_depths.ensures m)
