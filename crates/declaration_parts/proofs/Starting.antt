-- The walk over all declarations.
use mathlib.Core.Path.{refl}
use Rattle.walk.proofs.Leading.{Listed}
use Rattle.declaration_parts.specs.Declaring.{decl_walk, decls_walk}

pub decls_listed : Listed decl_walk decls_walk
unfolding decls_walk
decls_listed = record { nil_is = λ a. refl; cons_is = λ x xs a. refl }
