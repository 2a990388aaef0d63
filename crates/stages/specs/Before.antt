-- Was the name of a declaration declared before it?
use Rattle.std.specs.Prelude.{ℕ, ◌≤◌, ◌≡◌, Bool, List, length, take, Option, Some, None}
use Rattle.std.proofs.Math.Option as M
use Rattle.penne.specs.Tree.{Spot, Ident}
use Rattle.penne.specs.Find.{first_named}
use Rattle.penne.specs.Scopes.{Analyzer}
use Rattle.fields.specs.declared.field.Identifier.{Identifier}
use Rattle.containers.specs.Table.{kind_of}
use Rattle.containers.specs.Calls.{of_kind}
use Rattle.walk.specs.declared.state.Walk.{Walk}
use Rattle.walk.specs.declared.fault.Fault.{Fault}
use Rattle.walk.specs.Walking.{Tables, duplicate_fault}

-- the poison (kind) of the identifier i, by the earlier one of its name
pub data Refers (kind : ℕ) (i : Identifier) : Option Fault → M.Option (Ident Spot) → Type 0 where
  declared : {f : Fault} {j : Ident Spot} → f ≡ duplicate_fault kind i j.place.number → Refers kind i (Some f) (M.some j)
  undeclared : Refers kind i None M.none

-- container_before: among the constants or structures declared before
pub record ContainerBefore (kind poison : ℕ) (s : Walk) (i : Identifier) (w : List ℕ) (r : Option Fault) : Type 0 where
  pub tells : {a : Analyzer Spot} → Tables s.tables s.script s.counts w a → (structure : Bool) → kind ≡ kind_of structure → s.counts.containers ≤ length a.containment.containers
      → Refers poison i r (first_named i.name (of_kind structure (take s.counts.containers a.containment.containers)))

-- function_before: among the functions declared before
pub record FunctionBefore (s : Walk) (i : Identifier) (w : List ℕ) (r : Option Fault) : Type 0 where
  pub tells : {a : Analyzer Spot} → Tables s.tables s.script s.counts w a → s.counts.functions ≤ length a.function_list
      → Refers 7 i r (first_named i.name (take s.counts.functions a.function_list))

-- declared_before
pub record DeclaredBefore (kind : ℕ) (s : Walk) (i : Identifier) (w : List ℕ) (r : Option Fault) : Type 0 where
  pub constant : kind ≡ 0 → ContainerBefore 0 3 s i w r
  pub structure : kind ≡ 3 → ContainerBefore 3 8 s i w r
  pub function : (kind ≡ 0 → ⊥) → (kind ≡ 3 → ⊥) → FunctionBefore s i w r
