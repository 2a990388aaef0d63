use mathlib.Core.Bool.{false}
use native.Mathlib.Omega.{arith}
use Rattle.walk.proofs.Leading.{tries}
use Rattle.walk.proofs.Writing.{moved_on}
use Rattle.types.proofs.Arms.{array_fine, array_bad, named_fine, named_late, named_bad, element_fine, element_bad, type_array, type_named, type_word, type_structure, type_element, type_simple, type_nameless, type_unread, type_deep, type_in}
use Rattle.types.proofs.+types.Goals as goal

pub array-returns-in-Err : goal.array-returns-in-Err
array-returns-in-Err t c = λ own l. array_bad _ _ (c.in-Err.ensures own l) (c.past_length.ensures _ l _)

pub array-returns : goal.array-returns
array-returns t c = λ own l. array_fine _ _ (c.in_default.ensures own l) (c.copy_length.ensures l _)

pub array_with_named_length-returns-in-Err : goal.array_with_named_length-returns-in-Err
array_with_named_length-returns-in-Err t c = λ own l. named_bad _ _ (c.in-Err.ensures own l) (c.past_name.ensures _ l _)

pub array_with_named_length-returns-in-Err-named_length : goal.array_with_named_length-returns-in-Err-named_length
array_with_named_length-returns-in-Err-named_length t c = λ own l. named_late _ _ (c.in_default.ensures own l) (c.in-Err-named_length.ensures l)

pub array_with_named_length-returns : goal.array_with_named_length-returns
array_with_named_length-returns t c = λ own l. named_fine _ _ (c.in_default.ensures own l) (c.in_default-named_length.ensures l)

pub element_of-returns-in-Err : goal.element_of-returns-in-Err
element_of-returns-in-Err t c = λ own l. element_bad _ c.then_number-st.ensures (c.in-Err.ensures own l)

pub element_of-returns : goal.element_of-returns
element_of-returns t c = λ own l. element_fine _ c.then_number-st.ensures (c.in_default.ensures own l)

pub type_of-returns-in-14 : goal.type_of-returns-in-14
type_of-returns-in-14 t c = λ own l. type_array _ _ _ c.in-14.is (c.array.ensures own l)

pub type_of-returns-in-15 : goal.type_of-returns-in-15
type_of-returns-in-15 t c = λ own l. type_named _ _ _ c.in-15.is (c.array_with_named_length.ensures own l)

pub type_of-returns-in-16-to-19 : goal.type_of-returns-in-16-to-19
type_of-returns-in-16-to-19 t c = λ own l. type_element _ _ _ (grind arith) (grind arith) (grind arith) (c.element_of.ensures own l) (c.element_of.ensures false l)

pub type_of-returns-in-20 : goal.type_of-returns-in-20
type_of-returns-in-20 t c = λ own l. type_structure _ _ _ c.in-20.is (c.structure.ensures l)

pub type_of-returns-in-21 : goal.type_of-returns-in-21
type_of-returns-in-21 t c = λ own l. type_word _ _ _ c.in-21.is (c.word.ensures _ _ l)

pub type_of-returns-in-0-to-13 : goal.type_of-returns-in-0-to-13
type_of-returns-in-0-to-13 t c = λ own l. type_simple _ _ _ (c.plain.ensures _ l _) (omega arith)

pub type_of-returns-in_default : goal.type_of-returns-in_default
type_of-returns-in_default t c = λ own l. type_nameless _ _ _ (c.plain-in_default.ensures _ l _) (grind arith)

pub value_type-returns-in_default : goal.value_type-returns-in_default
value_type-returns-in_default t c = λ own l. tries λ j a i. type_unread own c.below.ensures _ c.in_default.is

pub value_type-returns-then-left-eq0 : goal.value_type-returns-then-left-eq0
value_type-returns-then-left-eq0 t c = λ own l. tries λ j a i. type_deep own c.below.ensures _ c.if-left-eq0.true

pub value_type-returns : goal.value_type-returns
value_type-returns t c = λ own l. tries λ j a i. type_in own c.below.ensures _ c.if-left-eq0.false c.in-Ok.is ((c.type_of.ensures own l).does j a (moved_on i))
