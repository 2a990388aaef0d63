-- variable_references.rs: goto pruning, and the skip list, which is what it refuses.
use Rattle.std.specs.Prelude.{ℕ, Bool, true, false, not, List, [], ◌∷◌, ◌++◌, map, eqb}
use Rattle.std.proofs.Math.Option.{Option, none, some}
use Rattle.penne.specs.Find.{first, keep, is_in}
use Rattle.penne.specs.Tree.{Spot, Ident}

-- struct UnresolvedPruning, under its key in unresolved_labels
pub record UnresolvedPruning (P : Type 0) : Type 0 where
  pub label : ℕ
  pub intersection_of_variables : List ℕ
  pub location_of_goto : P

-- struct Pruning, under its key in pruned_variables
pub record Pruning (P : Type 0) : Type 0 where
  pub variable : ℕ
  pub label : Ident P
  pub location_of_goto : P

-- unresolved_labels, pruned_variables and poisoned_variables of struct Analyzer; beside them the skip list: for each refused use its identifier's place and that of the identifier it resolves to
pub record Prunings (P : Type 0) : Type 0 where
  pub unresolved_labels : List (UnresolvedPruning P)
  pub pruned_variables : List (Pruning P)
  pub poisoned_variables : List ℕ
  pub skips : List (P × P)

-- unresolved_labels at a goto to l: its first goto enters the variables that are in scope, a later one keeps those that are in scope there too; "the first goto's place is kept"
unfoldable pub meet_at : {P : Type 0} → ℕ → List ℕ → P → List (UnresolvedPruning P) → List (UnresolvedPruning P)
meet_at l here p [] = record { label = l; intersection_of_variables = here; location_of_goto = p } ∷ []
meet_at l here p (u ∷ us) = elim (eqb u.label l) [
  | true ↦ record { label = l; intersection_of_variables = keep (λ x. is_in x here) u.intersection_of_variables; location_of_goto = u.location_of_goto } ∷ us
  | false ↦ u ∷ meet_at l here p us
]

-- prepare_to_prune_at_goto; `here` are the ids in scope, p is the goto's place
unfoldable pub prepare_to_prune_at_goto : {P : Type 0} → Ident P → P → List ℕ → Prunings P → Prunings P
prepare_to_prune_at_goto l p here s = record {
  unresolved_labels = meet_at l.id here p s.unresolved_labels;
  pruned_variables = s.pruned_variables;
  poisoned_variables = s.poisoned_variables;
  skips = s.skips;
}

-- pruned_variables with one more: "unless already pruned"
unfoldable pub prune : {P : Type 0} → Pruning P → List (Pruning P) → List (Pruning P)
prune c [] = c ∷ []
prune c (d ∷ ds) = elim (eqb d.variable c.variable) [ true ↦ d ∷ ds | false ↦ d ∷ prune c ds ]

-- "variables of its own layer not in scope at every earlier goto to it are pruned"; xs is what is left of the layer
unfoldable pub prune_all : {P : Type 0} → Ident P → UnresolvedPruning P → List (Ident P) → List (Pruning P) → List (Pruning P)
prune_all l u [] cs = cs
prune_all l u (x ∷ xs) cs = elim (is_in x.id u.intersection_of_variables) [
  | true ↦ prune_all l u xs cs
  | false ↦ prune_all l u xs (prune (record { variable = x.id; label = l; location_of_goto = u.location_of_goto }) cs)
]

-- prune_at_label, by what unresolved_labels has of the label, which is removed
unfoldable pub prune_by : {P : Type 0} → Ident P → List (Ident P) → Option (UnresolvedPruning P) → Prunings P → Prunings P
prune_by l layer none s = s
prune_by l layer (some u) s = record {
  unresolved_labels = keep (λ x. not (eqb x.label l.id)) s.unresolved_labels;
  pruned_variables = prune_all l u layer s.pruned_variables;
  poisoned_variables = s.poisoned_variables;
  skips = s.skips;
}

-- prune_at_label; `layer` is the label's own
unfoldable pub prune_at_label : {P : Type 0} → Ident P → List (Ident P) → Prunings P → Prunings P
prune_at_label l layer s = prune_by l layer (first (λ u. eqb u.label l.id) s.unresolved_labels) s

-- what use_variable finds of a variable
pub data Fate (P : Type 0) : Type 0 where
  pruned : Pruning P → Fate P
  poisoned standing : Fate P

-- by what pruned_variables has of it, and then by whether poisoned_variables has it
unfoldable pub fate_by : {P : Type 0} → Option (Pruning P) → Bool → Fate P
fate_by (some c) b = pruned c
fate_by none true = poisoned
fate_by none false = standing

-- the same, by the variable's id
unfoldable pub fate : {P : Type 0} → ℕ → Prunings P → Fate P
fate id s = fate_by (first (λ c. eqb c.variable id) s.pruned_variables) (is_in id s.poisoned_variables)

-- a pruned variable becomes a poisoned one: "later uses get Poisoned, until another label prunes it again"
unfoldable pub poison_variable : {P : Type 0} → ℕ → Prunings P → Prunings P
poison_variable id s = record {
  unresolved_labels = s.unresolved_labels;
  pruned_variables = keep (λ c. not (eqb c.variable id)) s.pruned_variables;
  poisoned_variables = id ∷ s.poisoned_variables;
  skips = s.skips;
}

-- the refused use i of the variable j goes into the list
unfoldable pub list_skip : {P : Type 0} → Ident P → Ident P → Prunings P → Prunings P
list_skip i j s = record {
  unresolved_labels = s.unresolved_labels;
  pruned_variables = s.pruned_variables;
  poisoned_variables = s.poisoned_variables;
  skips = s.skips ++ ((i.place, j.place) ∷ []);
}

-- what analyze begins with
unfoldable pub no_prunings : {P : Type 0} → Prunings P
no_prunings = record { unresolved_labels = []; pruned_variables = []; poisoned_variables = []; skips = [] }

-- "A record is two words: offset of the use's identifier in the input, offset of the identifier it resolves to."
unfoldable pub offsets : List (Spot × Spot) → List (ℕ × ℕ)
offsets rs = map (λ r. (r.0.from, r.1.from)) rs
