use Rattle.penne.specs.Read.{incoming}
use Rattle.std.proofs.lemmas.Result.{err_from_is_err_and}
use Rattle.tree.proofs.Layouts.{layout_long, layout_unlaid, layout_refused, layout_left, layout_all, incoming_ends}
use Rattle.tree.proofs.incoming_layout.Goals as goal

pub returns-then-tree-gt65535 : goal.returns-then-tree-gt65535
returns-then-tree-gt65535 c = rw c.at.ensures (layout_long incoming c.if-tree-gt65535.true, record { keeps = tt })

pub returns-in_err-layout : goal.returns-in_err-layout
returns-in_err-layout c =
    let p = err_from_is_err_and c.from_residual.result c.from_residual.ensures.1 in
    rw (p.1, p.2) (layout_unlaid incoming _ c.if-tree-gt65535.false c.in_err-layout.ensures.0, record { keeps = tt })

pub returns-in_err-end : goal.returns-in_err-end
returns-in_err-end c =
    let p = err_from_is_err_and c.from_residual-in_err-end.result c.from_residual-in_err-end.ensures.1 in
    rw (p.1, p.2) (layout_refused incoming _ c.if-tree-gt65535.false c.in_ok-layout.ensures.0.out (incoming_ends c.in_ok-layout.ensures.0.out c.in_err-end.ensures), record { keeps = tt })

pub returns-then-end-tree : goal.returns-then-end-tree
returns-then-end-tree c = rw c.at-then-end-tree.ensures (layout_left incoming _ c.if-tree-gt65535.false c.in_ok-layout.ensures.0.out (incoming_ends c.in_ok-layout.ensures.0.out c.in_ok-end.ensures) c.if-end-tree.true, record { keeps = tt })

pub returns : goal.returns
returns c = (layout_all incoming _ c.if-tree-gt65535.false c.in_ok-layout.ensures.0.out (incoming_ends c.in_ok-layout.ensures.0.out c.in_ok-end.ensures) c.if-end-tree.false, c.in_ok-layout.ensures.1)
