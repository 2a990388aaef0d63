use native.Mathlib.Omega.{arith}
use Rattle.labels.proofs.Visiting.{visits_zero, visits_leaf, visits_arm, visits_block, branches_past, branches_then, branches_both, visiting_start, visiting_done, visiting_stuck, visiting_more}
use Rattle.labels.proofs.+labels.Goals as goal

pub visit-returns-then-left-eq0 : goal.visit-returns-then-left-eq0
visit-returns-then-left-eq0 t c = visits_zero c.if-left-eq0.true

pub visit-returns-in-4 : goal.visit-returns-in-4
visit-returns-in-4 t c = visits_arm c.if-left-eq0.false c.shown.ensures c.in-4.is (c.visit_goto.ensures _)

pub visit-returns-in-5 : goal.visit-returns-in-5
visit-returns-in-5 t c = visits_arm c.if-left-eq0.false c.shown.ensures c.in-5.is (c.visit_label.ensures _)

pub visit-returns-in-6 : goal.visit-returns-in-6
visit-returns-in-6 t c = visits_arm c.if-left-eq0.false c.shown.ensures c.in-6.is c.visit_branches.ensures

pub visit-returns-in-7 : goal.visit-returns-in-7
visit-returns-in-7 t c = visits_arm c.if-left-eq0.false c.shown.ensures c.in-7.is c.visit_block.ensures

pub visit-returns-in_default : goal.visit-returns-in_default
visit-returns-in_default t c = visits_leaf ((omega arith)) ((omega arith)) ((omega arith)) ((omega arith)) c.shown.ensures

pub visit_block-returns : goal.visit_block-returns
visit_block-returns t c = visits_block c.shown-last.ensures c.visit_list-after.ensures

pub visit_branches-returns-then-k-ge2048 : goal.visit_branches-returns-then-k-ge2048
visit_branches-returns-then-k-ge2048 t c = branches_past c.if-k-ge2048.true

pub visit_branches-returns-in-Some : goal.visit_branches-returns-in-Some
visit_branches-returns-in-Some t c = branches_both c.visit-after.ensures c.shown.ensures c.in-Some.ensures c.visit.ensures

pub visit_branches-returns-in-None : goal.visit_branches-returns-in-None
visit_branches-returns-in-None t c = branches_then c.visit-after.ensures c.shown.ensures c.in-None.ensures

pub visit_list-loop-k-init : goal.visit_list-loop-k-init
visit_list-loop-k-init t c = visiting_start

pub visit_list-returns-then-last-previous : goal.visit_list-returns-then-last-previous
visit_list-returns-then-last-previous t c = visiting_stuck c.loop-k.invariant c.in-Some.ensures c.visit-labels.ensures c.shown-previous.ensures c.if-last-previous.true

pub visit_list-loop-k-preserved : goal.visit_list-loop-k-preserved
visit_list-loop-k-preserved t c = visiting_more c.loop-k.invariant c.in-Some.ensures c.visit-labels.ensures c.shown-previous.ensures c.visit-labels.auto.work

pub visit_list-returns : goal.visit_list-returns
visit_list-returns t c = visiting_done c.loop-k.invariant c.in_default.ensures
