-- The poisons that the code makes have the bytes of those that the pass makes.
use mathlib.Core.Path.{◌≡◌, refl, ap, ◌∙◌}
use mathlib.Core.List.{[], ◌∷◌}
use Prim.Native.Nat.{ℕ}
use lib.ListN.{get_or}
use Rattle.penne.specs.Tree.{Spot, poison}
use Rattle.penne.specs.Read.{poison_fields}
use Rattle.penne.specs.Write.{poison_b}
use Rattle.fields.specs.declared.field.Identifier.{Identifier}
use Rattle.fields.specs.Answers.{ident_of, poison_names, poison_places}
use Rattle.answer.proofs.Fields.{poison_bytes}
use Rattle.answer.specs.Parts.{poisoned_b}
use Rattle.walk.specs.declared.fault.Fault.TheVariants as F
use Rattle.walk.specs.Walking.{fault_b, duplicate_fault}

-- Poisoned
pub poisoned_bytes : fault_b F.Poisoned ≡ poison_b (poison 0 [] [])
unfolding poison_names poison_places poison_fields
poisoned_bytes = poison_bytes 0 [] [] (0 ∷ 0 ∷ []) (0 ∷ 0 ∷ 0 ∷ 0 ∷ []) refl refl

-- UndefinedLabel (2), UndefinedVariable (9), UndefinedFunction (10), UndefinedStructure (11), and whatever has one name and one place
pub undefined_bytes : (k : ℕ) (i : Identifier) (from : ℕ) → 1 ≡ get_or poison_names k 0 → 1 ≡ get_or poison_places k 0 → poisoned_b k (i.name ∷ 0 ∷ []) (i.place ∷ 0 ∷ 0 ∷ 0 ∷ []) ≡ poison_b (poison k (i.name ∷ []) ((ident_of from i).place ∷ []))
undefined_bytes k i from h l = poison_bytes k (i.name ∷ []) ((ident_of from i).place ∷ []) (0 ∷ []) (0 ∷ 0 ∷ 0 ∷ []) h l

-- DuplicateDeclaration (3 to 8), NotACompileTimeConstant (12)
pub duplicate_bytes : (k : ℕ) (i : Identifier) (from before : ℕ) (q : Spot) → before ≡ q.number → 1 ≡ get_or poison_names k 0 → 2 ≡ get_or poison_places k 0
    → fault_b (duplicate_fault k i before) ≡ poison_b (poison k (i.name ∷ []) ((ident_of from i).place ∷ q ∷ []))
duplicate_bytes k i from before q e h l =
    ap (λ (n : ℕ). fault_b (duplicate_fault k i n)) e ∙ poison_bytes k (i.name ∷ []) ((ident_of from i).place ∷ q ∷ []) (0 ∷ []) (0 ∷ 0 ∷ []) h l

-- how many names and places the kinds have
pub one_name : (1 ≡ get_or poison_names 9 0) × (1 ≡ get_or poison_names 10 0) × (1 ≡ get_or poison_names 11 0) × (1 ≡ get_or poison_names 12 0)
unfolding poison_names poison_fields
one_name = (refl, refl, refl, refl)

pub their_places : (1 ≡ get_or poison_places 9 0) × (1 ≡ get_or poison_places 10 0) × (1 ≡ get_or poison_places 11 0) × (2 ≡ get_or poison_places 12 0)
unfolding poison_places poison_fields
their_places = (refl, refl, refl, refl)
