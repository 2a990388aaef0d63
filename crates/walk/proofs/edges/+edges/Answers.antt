use native.Mathlib.Omega.{arith}
use Rattle.std.proofs.lemmas.Result.{err_from_is_err_and}
use Rattle.walk.proofs.Finding.{type_unread, type_deep, type_array, type_length, type_arraylike, type_name, type_low, type_high, length_bad, length_unread, length_fine, wider_own}
use Rattle.walk.proofs.edges.+edges.Goals as goal

pub found_container-returns-in_default : goal.found_container-returns-in_default
found_container-returns-in_default t c = λ own. type_unread c.below.ensures _ own c.in_default.is

pub found_container-returns-then-left-eq0 : goal.found_container-returns-then-left-eq0
found_container-returns-then-left-eq0 t c = λ own. type_deep c.below.ensures _ own c.if-left-eq0.true

pub found_container-returns-in-14 : goal.found_container-returns-in-14
found_container-returns-in-14 t c = λ own. type_array c.below.ensures _ own c.if-left-eq0.false c.in-Ok.is c.in-14.is (c.found_container.ensures own)

pub found_container-returns-in-15 : goal.found_container-returns-in-15
found_container-returns-in-15 t c = λ own. type_length c.below.ensures _ own c.if-left-eq0.false c.in-Ok.is c.in-15.is (c.found_in_named_length.ensures own)

pub found_container-returns-in-16-to-19 : goal.found_container-returns-in-16-to-19
found_container-returns-in-16-to-19 t c = λ own. type_arraylike c.below.ensures _ own c.if-left-eq0.false c.in-Ok.is (omega arith) (omega arith) (omega arith) (omega arith) (c.found_container-in-16-to-19.ensures own)

pub found_container-returns-in-20-to-22 : goal.found_container-returns-in-20-to-22
found_container-returns-in-20-to-22 t c = λ own. type_name c.below.ensures _ own c.if-left-eq0.false c.in-Ok.is (omega arith) (omega arith) c.found_named.ensures

pub found_container-returns-in_default-k : goal.found_container-returns-in_default-k
found_container-returns-in_default-k t c = λ own. type_low c.below.ensures _ own c.if-left-eq0.false c.in-Ok.is (omega arith)

pub found_container-returns-in_default-k-2 : goal.found_container-returns-in_default-k-2
found_container-returns-in_default-k-2 t c = λ own. type_high c.below.ensures _ own c.if-left-eq0.false c.in-Ok.is (omega arith)

pub found_in_named_length-returns-in_err-found_container : goal.found_in_named_length-returns-in_err-found_container
found_in_named_length-returns-in_err-found_container t c = λ own.
    let p = err_from_is_err_and c.from_residual.result c.from_residual.ensures.1 in
    rw (p.1, p.2) (length_bad (c.found_container.ensures own) c.in_err-found_container.was)

pub found_in_named_length-returns-in_default : goal.found_in_named_length-returns-in_default
found_in_named_length-returns-in_default t c = λ own. length_unread (c.found_container.ensures own) _ (wider_own _ _ own) c.value_type.ensures c.in_default.is

pub found_in_named_length-returns : goal.found_in_named_length-returns
found_in_named_length-returns t c = λ own. length_fine (c.found_container.ensures own) _ (wider_own _ _ own) c.in_ok-found_container.was c.value_type.ensures c.in-Ok.is c.found_named.ensures
