use mathlib.Core.Path.{refl}
use mathlib.Core.Bool.{true}
use Rattle.types.proofs.Contained.{contained_unread, contained_poison, contained_bad, contained_fine, contained_late}
use Rattle.types.proofs.contained_type.Goals as goal

pub returns-in_default : goal.returns-in_default
returns-in_default c = λ l. contained_unread _ c.below.ensures c.in_default.is

pub returns-then-t-ne0 : goal.returns-then-t-ne0
returns-then-t-ne0 c = λ l. contained_poison _ c.below.ensures c.in-Ok.is c.if-t-ne0.true (c.copy_poison.ensures l _)

pub returns-in-Err : goal.returns-in-Err
returns-in-Err c = λ l. contained_bad _ c.below.ensures c.in-Ok.is c.if-t-ne0.false c.then_number-st.ensures (c.in-Err.ensures true l) c.write_fault-st.ensures

pub returns-in_default-found_container : goal.returns-in_default-found_container
returns-in_default-found_container c = λ l. contained_fine _ c.below.ensures c.in-Ok.is c.if-t-ne0.false c.then_number-st.ensures (c.in_default-value_type.ensures true l) (c.in_default-found_container.ensures true) refl

pub returns-in-Err-found_container : goal.returns-in-Err-found_container
returns-in-Err-found_container c = λ l. contained_late _ c.below.ensures c.in-Ok.is c.if-t-ne0.false c.then_number-st.ensures (c.in_default-value_type.ensures true l) (c.in-Err-found_container.ensures true) refl c.write_fault-st-in-Err-found_container.ensures
