use native.Mathlib.Omega.{arith}
use Rattle.variable_references.proofs.Keeping.{kept_full, kept_constant, kept_function, kept_head, kept_structure}
use Rattle.variable_references.proofs.declaration.keep_declaration.Goals as goal

pub returns-in_default : goal.returns-in_default
returns-in_default c = kept_full c.count.ensures c.declaration_counts.ensures c.in_default.is

pub returns-in-0 : goal.returns-in-0
returns-in-0 c = kept_constant c.count.ensures c.declaration_counts.ensures c.in-Some.is c.in-0.is c.constant.ensures

pub returns-in-1 : goal.returns-in-1
returns-in-1 c = kept_function c.count.ensures c.declaration_counts.ensures c.in-Some.is c.in-1.is c.function.ensures

pub returns-in-2 : goal.returns-in-2
returns-in-2 c = kept_head c.count.ensures c.declaration_counts.ensures c.in-Some.is c.in-2.is (λ p q. c.function_head.ensures p q _)

pub returns-in_default-kind : goal.returns-in_default-kind
returns-in_default-kind c = kept_structure c.count.ensures c.declaration_counts.ensures c.in-Some.is (omega arith) (omega arith) (omega arith) (λ p. c.structure.ensures p _)
