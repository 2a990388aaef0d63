use Prim.Native.Nat.{◌-◌}
use Rattle.walk.proofs.Leading.{Going}
use Rattle.penne.specs.Read.{read_decl}
use Rattle.declaration_parts.specs.Declaring.{decls_walk}
use Rattle.variable_references.proofs.script.declarations.Given as goal

abbrev pub invariant-loop : goal.invariant-loop
invariant-loop l = Going l.tree read_decl decls_walk l.count l.initial.st l.initial.answer l.initial.list l.initial.work (l.count - l.counter) l.st l.answer l.list l.work
