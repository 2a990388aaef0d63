use Rattle.std.proofs.Common.{arith, ◌∙◌, ap}
use Rattle.penne.specs.Read.{same_bytes}
use Rattle.name_table.proofs.Names.{among_start, among_within, among_found, among_more, among_none}
use Rattle.name_table.proofs.among.Goals as goal

pub loop-init : goal.loop-init
loop-init c = among_start c.requires

pub bounds-tree-at : goal.bounds-tree-at
bounds-tree-at c = omega (arith, among_within c.loop.invariant c.loop-test.true)

pub overflow_add-start : goal.overflow_add-start
overflow_add-start c = omega (arith, among_within c.loop.invariant c.loop-test.true)

pub returns-then-same : goal.returns-then-same
returns-then-same c = among_found c.loop.invariant c.loop-test.true c.from-width.ensures (c.same.ensures ∙ ap (same_bytes _) c.bytes_at.ensures) c.if-same.true

pub overflow_add-at : goal.overflow_add-at
overflow_add-at c = omega (arith, c.from-width.ensures, among_within c.loop.invariant c.loop-test.true)

pub loop-preserved : goal.loop-preserved
loop-preserved c = among_more c.loop.invariant c.loop-test.true c.from-width.ensures (c.same.ensures ∙ ap (same_bytes _) c.bytes_at.ensures) c.if-same.false

pub returns : goal.returns
returns c = among_none c.loop.invariant c.loop-test.false
