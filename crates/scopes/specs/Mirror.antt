-- The scope and the table beside the definitions' analyzer.
use Rattle.std.specs.Prelude.{ℕ, ◌<◌, ◌≡◌, true, List, map}
use Rattle.penne.specs.Tree.{Spot, Ident}
use Rattle.penne.specs.Find.{is_in}
use Rattle.penne.specs.Scopes.{Analyzer}
use Rattle.scopes.specs.declared.scope.Scope.{Scope}
use Rattle.scopes.specs.Table.{Holds}

-- the ids of identifiers
abbrev pub ids_of : {P : Type 0} → List (Ident P) → List ℕ
ids_of is = map (λ x. x.id) is

-- The scope and the table stand for variable_stack but its layer 0, and for what gotos and labels did. (Layer 0 stands in the table of the containers; its ids are none that is to come.)
pub record Mirrors (s : Scope) (w : List ℕ) (a : Analyzer Spot) : Type 0 where
  pub holds : Holds s w a.variable_stack.locals a.variable_stack.layer a.prunings a.resolution_id
  pub lower : (x : ℕ) → is_in x (ids_of a.variable_stack.constants) ≡ true → x < a.resolution_id
