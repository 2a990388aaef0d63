use Rattle.label_references.proofs.Starting.{function_tagless, function_bodiless}
use Rattle.label_references.proofs.shape.inside_function.Goals as goal

pub returns-in_err-tag : goal.returns-in_err-tag
returns-in_err-tag c = function_tagless _ c.in_ok-at.ensures c.in_ok-at-2.ensures c.in_ok-at-3.ensures c.in_ok-at-4.ensures c.in_err-tag.ensures

pub returns-else-tag-eq0 : goal.returns-else-tag-eq0
returns-else-tag-eq0 c = function_bodiless _ c.in_ok-at.ensures c.in_ok-at-2.ensures c.in_ok-at-3.ensures c.in_ok-at-4.ensures c.in_ok-tag.ensures c.if-tag-eq0.false
