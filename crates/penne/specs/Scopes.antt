-- variable_references.rs: struct Analyzer, its scopes, and what declares and uses names.
use Rattle.std.specs.Prelude.{ℕ, ◌+◌, true, false, List, [], ◌∷◌, ◌++◌, map, length, drop}
use Rattle.std.proofs.Math.Option.{Option, none, some}
use Rattle.penne.specs.Find.{first_named, resolved}
use Rattle.penne.specs.State.{State, ret}
use Rattle.penne.specs.Pruning.{Pruning, Prunings, no_prunings, Fate, pruned, poisoned, standing, fate, poison_variable, list_skip}
use Rattle.penne.specs.Pruning as R
use Rattle.penne.specs.Containers.{Containment, push_container, structures, constants, found_container_1}
use Rattle.penne.specs.Tree.{Ident, Poison, poison, Maybe, ok, err}

-- variable_stack: layer 0, then the other layers laid end to end, the outermost first, and where the last of them begins
pub record Scope (P : Type 0) : Type 0 where
  pub constants : List (Ident P)
  pub locals : List (Ident P)
  pub layer : ℕ

-- struct Analyzer
pub record Analyzer (P : Type 0) : Type 0 where
  pub variable_stack : Scope P
  pub function_list : List (Ident P)
  pub containment : Containment P
  pub prunings : Prunings P
  pub resolution_id : ℕ

-- a step of the second pass
abbrev pub Pass : Type 0 → Type 0 → Type 0
Pass P A = State (Analyzer P) A

-- another variable_stack
unfoldable pub with_stack : {P : Type 0} → Analyzer P → Scope P → Analyzer P
with_stack a s = record { variable_stack = s; function_list = a.function_list; containment = a.containment; prunings = a.prunings; resolution_id = a.resolution_id }

-- another function_list
unfoldable pub with_functions : {P : Type 0} → Analyzer P → List (Ident P) → Analyzer P
with_functions a fs = record { variable_stack = a.variable_stack; function_list = fs; containment = a.containment; prunings = a.prunings; resolution_id = a.resolution_id }

-- other containers, another in_constexpr_of_constant
unfoldable pub with_containment : {P : Type 0} → Analyzer P → Containment P → Analyzer P
with_containment a c = record { variable_stack = a.variable_stack; function_list = a.function_list; containment = c; prunings = a.prunings; resolution_id = a.resolution_id }

-- other unresolved_labels, pruned_variables, poisoned_variables
unfoldable pub with_prunings : {P : Type 0} → Analyzer P → Prunings P → Analyzer P
with_prunings a s = record { variable_stack = a.variable_stack; function_list = a.function_list; containment = a.containment; prunings = s; resolution_id = a.resolution_id }

-- the next resolution_id
unfoldable pub next_id : {P : Type 0} → Analyzer P → Analyzer P
next_id a = record { variable_stack = a.variable_stack; function_list = a.function_list; containment = a.containment; prunings = a.prunings; resolution_id = a.resolution_id + 1 }

-- all layers of variable_stack in turn: "Uses search outermost first"
unfoldable pub variables : {P : Type 0} → Analyzer P → List (Ident P)
variables a = a.variable_stack.constants ++ a.variable_stack.locals

-- the last layer of variable_stack
unfoldable pub last_layer : {P : Type 0} → Analyzer P → List (Ident P)
last_layer a = drop a.variable_stack.layer a.variable_stack.locals

-- push_scope: all that was there, and an empty last layer
abbrev pub new_scope : {P : Type 0} → Analyzer P → Analyzer P
new_scope a = with_stack a (record { constants = a.variable_stack.constants; locals = a.variable_stack.locals; layer = length a.variable_stack.locals })

-- push_scope, the step, pop_scope: the stack is afterwards what it was
unfoldable pub in_new_scope : {P A : Type 0} → Pass P A → Pass P A
in_new_scope m = λ a. let (x, a') = m (new_scope a) in (x, with_stack a' a.variable_stack)

-- a step on the containers alone
unfoldable pub on_containment : {P A : Type 0} → State (Containment P) A → Pass P A
on_containment m = λ a. let (x, c) = m a.containment in (x, with_containment a c)

-- create_anonymous_resolution_id
unfoldable pub create_anonymous_resolution_id : {P : Type 0} → Pass P ℕ
create_anonymous_resolution_id = λ a. (a.resolution_id, next_id a)

-- DECLARING: a duplicate is answered by poison, yet takes an id and stays declared.

-- DuplicateDeclaration of this kind (3 to 8), where the search found j: the name, its own place, the earlier one's
unfoldable pub unless_duplicate : {P : Type 0} → (kind : ℕ) → Ident P → Option (Ident P) → Maybe P (Ident P)
unless_duplicate k i (some j) = err (poison k (i.name ∷ []) (i.place ∷ j.place ∷ []))
unless_duplicate k i none = ok i

-- a declared identifier: the next id, authority 1
unfoldable pub authoritative : {P : Type 0} → Analyzer P → Ident P → Ident P
authoritative a i = resolved i a.resolution_id 1

-- layer 0 with one more
unfoldable pub push_constant : {P : Type 0} → Ident P → Scope P → Scope P
push_constant i s = record { constants = s.constants ++ (i ∷ []); locals = s.locals; layer = s.layer }

-- the last layer with one more
unfoldable pub push_variable : {P : Type 0} → Ident P → Scope P → Scope P
push_variable i s = record { constants = s.constants; locals = s.locals ++ (i ∷ []); layer = s.layer }

-- declare_constant: kind 3; also a container
unfoldable pub declare_constant : {P : Type 0} → Ident P → Pass P (Maybe P (Ident P))
declare_constant i = λ a.
    let i' = authoritative a i in (
      unless_duplicate 3 i' (first_named i.name (constants a.containment.containers)),
      next_id (with_stack (with_containment a (push_container false i' a.containment)) (push_constant i' a.variable_stack)),
    )

-- declare_variable (kind 4), declare_parameter (5), declare_member (6): a duplicate of any name in scope, a constant's too
unfoldable pub declare_variable : {P : Type 0} → (kind : ℕ) → Ident P → Pass P (Maybe P (Ident P))
declare_variable k i = λ a.
    let i' = authoritative a i in (
      unless_duplicate k i' (first_named i.name (variables a)),
      next_id (with_stack a (push_variable i' a.variable_stack)),
    )

-- declare_function: kind 7
unfoldable pub declare_function : {P : Type 0} → Ident P → Pass P (Maybe P (Ident P))
declare_function i = λ a.
    let i' = authoritative a i in (
      unless_duplicate 7 i' (first_named i.name a.function_list),
      next_id (with_functions a (a.function_list ++ (i' ∷ []))),
    )

-- declare_struct: kind 8; also a container
unfoldable pub declare_struct : {P : Type 0} → Ident P → Pass P (Maybe P (Ident P))
declare_struct i = λ a.
    let i' = authoritative a i in (
      unless_duplicate 8 i' (first_named i.name (structures a.containment.containers)),
      next_id (with_containment a (push_container true i' a.containment)),
    )

-- USING: a use takes the id of what it finds, and authority 0.

-- UndefinedVariable (kind 9), UndefinedFunction (10), UndefinedStructure (11)
unfoldable pub undefined : {P A : Type 0} → (kind : ℕ) → Ident P → Maybe P A
undefined k i = err (poison k (i.name ∷ []) (i.place ∷ []))

-- use_containee, by in_constexpr_of_constant: in a constant's value a use is an edge
unfoldable pub use_containee : {P : Type 0} → Ident P → Option (Ident P) → Pass P (Maybe P (Ident P))
use_containee i (some c) = on_containment (found_container_1 c none i)
use_containee i none = ret (ok i)

-- the use i of what j declares
unfoldable pub use_as : {P : Type 0} → Ident P → Ident P → Pass P (Maybe P (Ident P))
use_as i j = λ a. use_containee (resolved i j.id 0) a.containment.in_constexpr_of_constant a

-- VariableDeclarationMayBeSkipped (13) at the use i of the variable j: both names, then the places of use, declaration, goto and label
unfoldable pub may_be_skipped : {P : Type 0} → Ident P → Ident P → Pruning P → Poison P
may_be_skipped i j c = poison 13 (i.name ∷ c.label.name ∷ []) (i.place ∷ j.place ∷ c.location_of_goto ∷ c.label.place ∷ [])

-- use_variable, by what became of the variable j
unfoldable pub use_variable_by : {P : Type 0} → Ident P → Ident P → Fate P → Pass P (Maybe P (Ident P))
use_variable_by i j (pruned c) = λ a. (err (may_be_skipped i j c), with_prunings a (list_skip i j (poison_variable j.id a.prunings)))
use_variable_by i j poisoned = λ a. (err (poison 0 [] []), with_prunings a (list_skip i j a.prunings))
use_variable_by i j standing = use_as i j

-- use_variable, by what the search found
unfoldable pub use_variable_at : {P : Type 0} → Ident P → Option (Ident P) → Pass P (Maybe P (Ident P))
use_variable_at i none = ret (undefined 9 i)
use_variable_at i (some j) = λ a. use_variable_by i j (fate j.id a.prunings) a

-- use_variable: all layers are searched
unfoldable pub use_variable : {P : Type 0} → Ident P → Pass P (Maybe P (Ident P))
use_variable i = λ a. use_variable_at i (first_named i.name (variables a)) a

-- use_constant, by what layer 0 has and what the others have: NotACompileTimeConstant is kind 12
unfoldable pub use_constant_at : {P : Type 0} → Ident P → Option (Ident P) → Option (Ident P) → Pass P (Maybe P (Ident P))
use_constant_at i (some j) o = use_as i j
use_constant_at i none (some j) = ret (err (poison 12 (i.name ∷ []) (i.place ∷ j.place ∷ [])))
use_constant_at i none none = ret (undefined 9 i)

-- "`use_constant` searches layer 0 first, then only to choose kind 12 or 9."
unfoldable pub use_constant : {P : Type 0} → Ident P → Pass P (Maybe P (Ident P))
use_constant i = λ a. use_constant_at i (first_named i.name a.variable_stack.constants) (first_named i.name a.variable_stack.locals) a

-- use_function, by what the search found
unfoldable pub use_function_at : {P : Type 0} → Ident P → Option (Ident P) → Maybe P (Ident P)
use_function_at i (some j) = ok (resolved i j.id 0)
use_function_at i none = undefined 10 i

-- use_function
unfoldable pub use_function : {P : Type 0} → Ident P → Pass P (Maybe P (Ident P))
use_function i = λ a. (use_function_at i (first_named i.name a.function_list), a)

-- use_struct, by what the search found
unfoldable pub use_struct_at : {P : Type 0} → Ident P → Option (Ident P) → Pass P (Maybe P (Ident P))
use_struct_at i (some j) = use_as i j
use_struct_at i none = ret (undefined 11 i)

-- use_struct
unfoldable pub use_struct : {P : Type 0} → Ident P → Pass P (Maybe P (Ident P))
use_struct i = λ a. use_struct_at i (first_named i.name (structures a.containment.containers)) a

-- prepare_to_prune_at_goto: the ids of all layers are in scope
unfoldable pub prepare_to_prune_at_goto : {P : Type 0} → Ident P → P → Pass P (Ident P)
prepare_to_prune_at_goto l p = λ a. (l, with_prunings a (R.prepare_to_prune_at_goto l p (map (λ x. x.id) (variables a)) a.prunings))

-- prune_at_label: the label's own layer is the last
unfoldable pub prune_at_label : {P : Type 0} → Ident P → Pass P (Ident P)
prune_at_label l = λ a. (l, with_prunings a (R.prune_at_label l (last_layer a) a.prunings))

-- the state that analyze begins with: ids count from 1
unfoldable pub begin : {P : Type 0} → Analyzer P
begin = record {
  variable_stack = record { constants = []; locals = []; layer = 0 };
  function_list = [];
  containment = record { containers = []; in_constexpr_of_constant = none; edges = [] };
  prunings = no_prunings;
  resolution_id = 1;
}
