use Rattle.walk.proofs.Leading.{number_ok, number_err, place_ok, place_err}
use native.Mathlib.Omega.{arith}
use mathlib.Core.Path.{refl}
use Rattle.penne.specs.Read.{to_nodes, read_array_literal, read_binary, read_bit_cast, read_deref, step_of, expr_kinds, expr_of, read, read_function_call, item_of, read_length_of_array, read_parenthesized, rest_of, read_structural, read_type_cast, read_unary}
use Rattle.penne.specs.Tree.{function_call}
use Rattle.fields.proofs.Chain.{reads}
use Rattle.walk.proofs.Leading.{leads_last, walks, leads_at, leads_skip, leads_unskip, leads_call, leads_end, leads_operator, leads_unoperator, leads_places, leads_unplaces, node_deep, node_unread, node_in, leads_read, leads_unread, counted_more, counted_done, leads_identified, leads_unidentified, leads_tried}
use Rattle.walk.proofs.Copying.{spells_join, spelled_place, spelled_operator, spelled_places, spelled_below, spelled_num, spelled_ident}
use Rattle.walk.proofs.Carrying.{spelled_carried, spelled_maybe}
use Rattle.expression_parts.proofs.Onward.{nodes_listed, leads_list}
use Rattle.expression_parts.proofs.Arrays.{elements_closed, array_literal_is}
use Rattle.expression_parts.proofs.Arms.{binary_is, bit_cast_is, deref_is, element_is, item_is, length_of_array_is, parenthesized_is, reference_is, structural_is, unary_is}
use Rattle.nodes.proofs.Nodes.{expr_node, ref_node, step_node}
use Rattle.walk.proofs.Writing.{moved_on, wrote_on}
use Rattle.expression_parts.specs.Expressing.{is_signed, is_bits}
use Rattle.expression_parts.proofs.ByKind.{walk_arm, walk_poison, walk_element, walk_member}
use Rattle.penne.specs.Reader.{listed}
use Rattle.expression_parts.proofs.Names.{number_spelled, call_is, call_bad, call_instead, headed_is, here_headed, below_spelled}
use mathlib.Core.Bool.{false}
use Rattle.expressions.proofs.Casts.{type_rewound, type_cast_is, type_cast_bad}
use Rattle.expressions.proofs.+expressions.Goals as goal

pub array_literal-returns-in_default : goal.array_literal-returns-in_default
unfolding read_array_literal
array_literal-returns-in_default t c = walks λ h a i. leads_unskip _ (place_err c.number.ensures c.in_default.is) refl

pub array_literal-returns-in_default-carried : goal.array_literal-returns-in_default-carried
unfolding read_array_literal
array_literal-returns-in_default-carried t c = walks λ h a i. leads_skip _ (place_ok c.number.ensures c.in-Ok.is) refl λ x1 g1. leads_unskip _ c.carried.ensures c.in_default-carried.is

pub array_literal-returns : goal.array_literal-returns
unfolding read_array_literal
array_literal-returns t c = walks λ h a i. leads_skip _ (place_ok c.number.ensures c.in-Ok.is) refl λ x1 g1. leads_skip _ c.carried.ensures c.in-Ok-carried.is λ x2 g2. leads_at c.push_scope.ensures.cur (leads_call _ c.expressions.ensures h (c.push_scope.ensures.is (wrote_on i c.then_head-st.ensures)) λ es _ i₁. leads_at c.pop_scope.ensures.cur (leads_last _ (c.array_id.ensures _ _) h (elements_closed es _ a c.pop_scope.ensures i i₁) λ n _. array_literal_is a x1 x2 es n (spells_join (spelled_place.is _ _ _ _ g1) ((spelled_carried _).is _ _ _ _ g2))))

pub binary-returns-in_default : goal.binary-returns-in_default
unfolding read_binary
binary-returns-in_default t c = walks λ h a i. leads_unoperator _ c.operator.ensures c.in_default.is

pub binary-returns : goal.binary-returns
unfolding read_binary
binary-returns t c = walks λ h a i. leads_operator _ c.operator.ensures c.in-Ok.is λ o1 p1 q1 g1. leads_call _ c.expression.ensures h (wrote_on i c.then_head-st.ensures) λ x _ i₁. leads_last _ c.expression-2.ensures h i₁ λ y _. binary_is a o1 p1 q1 x y (spelled_operator.is _ _ _ _ g1)

pub bit_cast-returns-in_default : goal.bit_cast-returns-in_default
unfolding read_bit_cast
bit_cast-returns-in_default t c = walks λ h a i. leads_unplaces _ c.two_places.ensures c.in_default.is

pub bit_cast-returns-in_default-carried : goal.bit_cast-returns-in_default-carried
unfolding read_bit_cast
bit_cast-returns-in_default-carried t c = walks λ h a i. leads_places _ c.two_places.ensures c.in-Ok.is λ p1 q1 g1. leads_unskip _ c.carried.ensures c.in_default-carried.is

pub bit_cast-returns : goal.bit_cast-returns
unfolding read_bit_cast
bit_cast-returns t c = walks λ h a i. leads_places _ c.two_places.ensures c.in-Ok.is λ p1 q1 g1. leads_skip _ c.carried.ensures c.in-Ok-carried.is λ x2 g2. leads_last _ c.expression.ensures h (wrote_on i c.then_head-st.ensures) λ x _. bit_cast_is a p1 q1 x2 x (spells_join (spelled_places.is _ _ _ _ g1) ((spelled_carried _).is _ _ _ _ g2))

pub deref-returns-in_default : goal.deref-returns-in_default
unfolding read_deref
deref-returns-in_default t c = walks λ h a i. leads_unskip _ c.carried.ensures c.in_default.is

pub deref-returns : goal.deref-returns
unfolding read_deref
deref-returns t c = walks λ h a i. leads_skip _ c.carried.ensures c.in-Ok.is λ x1 g1. leads_last _ c.reference.ensures h (wrote_on i c.then_head-st.ensures) λ x _. deref_is a x1 x ((spelled_carried _).is _ _ _ _ g1)

pub element-returns-in_default : goal.element-returns-in_default
unfolding step_of
element-returns-in_default t c = walks λ h a i. leads_unskip _ (number_err (reads c.below.ensures) c.in_default.is) refl

pub element-returns : goal.element-returns
unfolding step_of
element-returns t c = walks λ h a i. leads_skip _ (number_ok (reads c.below.ensures) c.in-Ok.is) refl λ x1 g1. leads_last _ c.expression.ensures h (wrote_on i c.then_head-st.ensures) λ x _. element_is a x1 x ((spelled_below 3).is _ _ _ _ g1)

pub expression-returns-in_default : goal.expression-returns-in_default
expression-returns-in_default t c = walks λ h a i. node_unread expr_node (reads c.below.ensures) _ c.in_default.is

pub expression-returns-then-left-eq0 : goal.expression-returns-then-left-eq0
expression-returns-then-left-eq0 t c = walks λ h a i. node_deep expr_node _ c.if-left-eq0.true

pub expression-returns : goal.expression-returns
expression-returns t c = walks λ h a i. node_in expr_node (reads c.below.ensures) _ c.if-left-eq0.false c.in-Ok.is (c.expression_of.ensures.does h a (moved_on i))

pub expression_of-returns-in-3 : goal.expression_of-returns-in-3
unfolding expr_of expr_kinds
expression_of-returns-in-3 t c = walk_arm _ _ _ c.in-3.is (c.integer.ensures _ is_signed _ _)

pub expression_of-returns-in-4 : goal.expression_of-returns-in-4
unfolding expr_of expr_kinds
expression_of-returns-in-4 t c = walk_arm _ _ _ c.in-4.is (c.integer-in-4.ensures _ is_bits _ _)

pub expression_of-returns-in_default : goal.expression_of-returns-in_default
expression_of-returns-in_default t c = walk_poison _ _ _ (omega arith) (c.copy_poison.ensures _ _)

pub expressions-returns-in_default : goal.expressions-returns-in_default
unfolding listed
expressions-returns-in_default t c = walks λ h a i. leads_unread _ (reads c.number.ensures) c.in_default.is

pub expressions-loop-preserved : goal.expressions-loop-preserved
expressions-loop-preserved t c = counted_more nodes_listed c.loop.invariant c.loop-test.true c.expression.ensures c.expression.auto.answer c.expression.auto.list c.expression.auto.work

pub expressions-returns : goal.expressions-returns
unfolding listed
expressions-returns t c = walks λ h a i. leads_read _ (reads c.number.ensures) c.in-Ok.is (leads_list _ _ a (counted_done nodes_listed c.loop.invariant c.loop-test.false) h (wrote_on i c.then_number-st.ensures))

pub function_call-returns-in_default : goal.function_call-returns-in_default
unfolding read_function_call
function_call-returns-in_default t c = walks λ h a i. leads_unidentified _ c.read_identifier.ensures c.in_default.is

pub function_call-returns-in_default-number : goal.function_call-returns-in_default-number
unfolding read_function_call
function_call-returns-in_default-number t c = walks λ h a i. leads_identified _ c.read_identifier.ensures c.in-Ok.is (leads_unread _ (reads c.number.ensures) c.in_default-number.is)

pub function_call-returns-in_default-carried : goal.function_call-returns-in_default-carried
unfolding read_function_call
function_call-returns-in_default-carried t c = walks λ h a i. leads_identified _ c.read_identifier.ensures c.in-Ok.is (leads_read _ (reads c.number.ensures) c.in-Ok-number.is (leads_unskip _ c.carried.ensures c.in_default-carried.is))

pub function_call-returns-in-Ok-use_called : goal.function_call-returns-in-Ok-use_called
unfolding read_function_call
function_call-returns-in-Ok-use_called t c = walks λ h a i. leads_identified _ c.read_identifier.ensures c.in-Ok.is (leads_read _ (reads c.number.ensures) c.in-Ok-number.is (leads_skip _ c.carried.ensures c.in-Ok-carried.is λ x3 g3. leads_at (here_headed c.call_head.ensures) (leads_last _ c.expressions.ensures h (headed_is i c.call_head.ensures) λ es. call_is a _ _ x3 es (spells_join (number_spelled c.number.ensures c.in-Ok-number.is) ((spelled_carried _).is _ _ _ _ g3)) (c.use_called.ensures.does _ _ _ a i).made c.in-Ok-use_called.is)))

pub function_call-returns-in-Err : goal.function_call-returns-in-Err
unfolding read_function_call
function_call-returns-in-Err t c = walks λ h a i. leads_identified _ c.read_identifier.ensures c.in-Ok.is (leads_read _ (reads c.number.ensures) c.in-Ok-number.is (leads_skip _ c.carried.ensures c.in-Ok-carried.is λ x3 g3. leads_call _ c.expressions-in-Err.ensures h (moved_on i) λ es _ i₁. leads_end (function_call _ _ x3 (to_nodes es)) refl (call_instead es i i₁ c.write_fault-st.ensures) (call_bad a _ _ x3 es (c.use_called.ensures.does _ _ _ a i).made c.in-Err.is)))

pub item-returns-in_default : goal.item-returns-in_default
unfolding item_of
item-returns-in_default t c = walks λ h a i. leads_unskip _ c.maybe_identifier.ensures c.in_default.is

pub item-returns-in_default-number : goal.item-returns-in_default-number
unfolding item_of
item-returns-in_default-number t c = walks λ h a i. leads_skip _ c.maybe_identifier.ensures c.in-Ok.is λ x1 g1. leads_unskip _ (number_err (reads c.number.ensures) c.in_default-number.is) refl

pub item-returns : goal.item-returns
unfolding item_of
item-returns t c = walks λ h a i. leads_skip _ c.maybe_identifier.ensures c.in-Ok.is λ x1 g1. leads_skip _ (number_ok (reads c.number.ensures) c.in-Ok-number.is) refl λ x2 g2. leads_last _ c.expression.ensures h (wrote_on i c.then_numbers-st.ensures) λ x _. item_is a x1 x2 x (spells_join ((spelled_maybe spelled_ident).is _ _ _ _ g1) (spelled_num.is _ _ _ _ g2))

pub items-returns-in_default : goal.items-returns-in_default
unfolding listed
items-returns-in_default t c = walks λ h a i. leads_unread _ (reads c.number.ensures) c.in_default.is

pub items-loop-preserved : goal.items-loop-preserved
items-loop-preserved t c = counted_more nodes_listed c.loop.invariant c.loop-test.true c.item.ensures c.item.auto.answer c.item.auto.list c.item.auto.work

pub items-returns : goal.items-returns
unfolding listed
items-returns t c = walks λ h a i. leads_read _ (reads c.number.ensures) c.in-Ok.is (leads_list _ _ a (counted_done nodes_listed c.loop.invariant c.loop-test.false) h (wrote_on i c.then_number-st.ensures))

pub length_of_array-returns-in_default : goal.length_of_array-returns-in_default
unfolding read_length_of_array
length_of_array-returns-in_default t c = walks λ h a i. leads_unskip _ (place_err c.number.ensures c.in_default.is) refl

pub length_of_array-returns : goal.length_of_array-returns
unfolding read_length_of_array
length_of_array-returns t c = walks λ h a i. leads_skip _ (place_ok c.number.ensures c.in-Ok.is) refl λ x1 g1. leads_last _ c.reference.ensures h (wrote_on i c.then_head-st.ensures) λ x _. length_of_array_is a x1 x (spelled_place.is _ _ _ _ g1)

pub parenthesized-returns-in_default : goal.parenthesized-returns-in_default
unfolding read_parenthesized
parenthesized-returns-in_default t c = walks λ h a i. leads_unskip _ (place_err c.number.ensures c.in_default.is) refl

pub parenthesized-returns : goal.parenthesized-returns
unfolding read_parenthesized
parenthesized-returns t c = walks λ h a i. leads_skip _ (place_ok c.number.ensures c.in-Ok.is) refl λ x1 g1. leads_last _ c.expression.ensures h (wrote_on i c.then_head-st.ensures) λ x _. parenthesized_is a x1 x (spelled_place.is _ _ _ _ g1)

pub reference-returns-in_default : goal.reference-returns-in_default
reference-returns-in_default t c = walks λ h a i. node_unread ref_node (reads c.below.ensures) _ c.in_default.is

pub reference-returns-then-left-eq0 : goal.reference-returns-then-left-eq0
reference-returns-then-left-eq0 t c = walks λ h a i. node_deep ref_node _ c.if-left-eq0.true

pub reference-returns-in_default-two_places : goal.reference-returns-in_default-two_places
unfolding rest_of
reference-returns-in_default-two_places t c = walks λ h a i. node_in ref_node (reads c.below.ensures) _ c.if-left-eq0.false c.in-Ok.is (leads_unplaces _ c.two_places.ensures c.in_default-two_places.is)

pub reference-returns : goal.reference-returns
unfolding rest_of
reference-returns t c = walks λ h a i. node_in ref_node (reads c.below.ensures) _ c.if-left-eq0.false c.in-Ok.is (leads_places _ c.two_places.ensures c.in-Ok-two_places.is λ p q g. leads_call _ c.base.ensures h (wrote_on i c.then_numbers-st.ensures) λ b _ i₁. leads_last _ c.steps.ensures h i₁ λ ts _. reference_is a _ p q b ts (spells_join (below_spelled 256 c.below.ensures c.in-Ok.is) (spelled_places.is _ _ _ _ g)))

pub step-returns-in_default : goal.step-returns-in_default
step-returns-in_default t c = walks λ h a i. node_unread step_node (reads c.below.ensures) _ c.in_default.is

pub step-returns-then-left-eq0 : goal.step-returns-then-left-eq0
step-returns-then-left-eq0 t c = walks λ h a i. node_deep step_node _ c.if-left-eq0.true

pub step-returns-in-0 : goal.step-returns-in-0
step-returns-in-0 t c = walks λ h a i. node_in step_node (reads c.below.ensures) _ c.if-left-eq0.false c.in-Ok.is ((walk_element _ _ c.in-0.is c.element.ensures).does h a (moved_on i))

pub step-returns-in_default-k : goal.step-returns-in_default-k
step-returns-in_default-k t c = walks λ h a i. node_in step_node (reads c.below.ensures) _ c.if-left-eq0.false c.in-Ok.is ((walk_member _ (read 0) _ (omega arith) (c.member.ensures _ _)).does h a (moved_on i))

pub steps-returns-in_default : goal.steps-returns-in_default
unfolding listed
steps-returns-in_default t c = walks λ h a i. leads_unread _ (reads c.number.ensures) c.in_default.is

pub steps-loop-preserved : goal.steps-loop-preserved
steps-loop-preserved t c = counted_more nodes_listed c.loop.invariant c.loop-test.true c.step.ensures c.step.auto.answer c.step.auto.list c.step.auto.work

pub steps-returns : goal.steps-returns
unfolding listed
steps-returns t c = walks λ h a i. leads_read _ (reads c.number.ensures) c.in-Ok.is (leads_list _ _ a (counted_done nodes_listed c.loop.invariant c.loop-test.false) h (wrote_on i c.then_number-st.ensures))

pub structural-returns-in_default : goal.structural-returns-in_default
unfolding read_structural
structural-returns-in_default t c = walks λ h a i. leads_unskip _ (place_err c.number.ensures c.in_default.is) refl

pub structural-returns : goal.structural-returns
unfolding read_structural
structural-returns t c = walks λ h a i. leads_skip _ (place_ok c.number.ensures c.in-Ok.is) refl λ x1 g1. leads_call _ c.items.ensures h (wrote_on i c.then_head-st.ensures) λ ms _ i₁. leads_last _ (c.maybe_type.ensures false _) h i₁ λ y _. structural_is a x1 ms y (spelled_place.is _ _ _ _ g1)

pub type_cast-returns-in_default : goal.type_cast-returns-in_default
unfolding read_type_cast
type_cast-returns-in_default t c = walks λ h a i. leads_unplaces _ c.two_places.ensures c.in_default.is

pub type_cast-returns-in-Ok-value_type : goal.type_cast-returns-in-Ok-value_type
unfolding read_type_cast
type_cast-returns-in-Ok-value_type t c = walks λ h a i. leads_places _ c.two_places.ensures c.in-Ok.is λ p1 q1 g1. leads_tried _ (c.in-Ok-value_type.ensures false _) h (wrote_on i c.then_head-st.ensures) λ x _ i₁ told. leads_last _ c.expression.ensures h i₁ λ y. type_cast_is _ a p1 q1 x y (spelled_places.is _ _ _ _ g1) told

pub type_cast-returns-in-Err : goal.type_cast-returns-in-Err
unfolding read_type_cast
type_cast-returns-in-Err t c = walks λ h a i. leads_places _ c.two_places.ensures c.in-Ok.is λ p1 q1 g1. leads_tried _ (c.in-Err.ensures false _) h (wrote_on i c.then_head-st.ensures) λ x _ i₁ told. leads_last _ (c.past_operand.ensures _ _) h (type_rewound _ x i i₁) λ y. type_cast_bad _ a p1 q1 x y told

pub unary-returns-in_default : goal.unary-returns-in_default
unfolding read_unary
unary-returns-in_default t c = walks λ h a i. leads_unoperator _ c.operator.ensures c.in_default.is

pub unary-returns : goal.unary-returns
unfolding read_unary
unary-returns t c = walks λ h a i. leads_operator _ c.operator.ensures c.in-Ok.is λ o1 p1 q1 g1. leads_last _ c.expression.ensures h (wrote_on i c.then_head-st.ensures) λ x _. unary_is a o1 p1 q1 x (spelled_operator.is _ _ _ _ g1)
