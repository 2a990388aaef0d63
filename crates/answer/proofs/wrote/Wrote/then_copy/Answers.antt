use borrow.Author.Rules.{rules}
use Rattle.answer.specs.Parts.{span}
use Rattle.answer.proofs.Runs.{copy_nothing, copy_past, copy_rest}
use Rattle.answer.proofs.wrote.Wrote.then_copy.Goals as goal

pub returns-then-to-from : goal.returns-then-to-from
returns-then-to-from c = copy_nothing _ _ _ c.if-to-from.true c.settled.ensures

pub returns-then-tree-from : goal.returns-then-tree-from
returns-then-tree-from c = copy_past _ _ _ c.if-tree-from.true c.settled-then-tree-from.ensures

pub returns-then-tree-to : goal.returns-then-tree-to
unfolding span
returns-then-tree-to c = copy_rest c.args.tree.now c.args.from c.args.to (search rules) c.then_bytes.ensures

pub returns : goal.returns
unfolding span
returns c = c.then_bytes-2.ensures
