use native.Mathlib.Omega.{arith}
use Rattle.labels.proofs.Finding.{declares_not, declares_in}
use Rattle.labels.proofs.declare_label.Goals as goal

pub returns-then-count-ge1024 : goal.returns-then-count-ge1024
returns-then-count-ge1024 c = declares_not (λ x y z. omega arith)

pub returns : goal.returns
returns c = declares_in c.set_word.ensures c.set_word-2.ensures c.set_word-3.ensures
