-- Who holds a member's edges.
use mathlib.Core.Path.{◌≡◌, refl}
use Rattle.std.specs.Prelude.{Option, Some, None}
use Prim.Native.Nat.{ℕ}
use native.Mathlib.Omega.{arith}
use Rattle.penne.specs.Tree.{Spot, Ident, Maybe, Ty}
use Rattle.penne.specs.Variables.{analyze_wellfoundedness}
use Rattle.walk.specs.declared.edges.Holder.{Holder}
use Rattle.entries.specs.Entering.{Stays, stays, goes, held_by, Decides}

-- one whose name was refused
goes_holds : (c i : Ident Spot) (m : Maybe Spot (Ident Spot)) → Stays i None m → (t : Maybe Spot (Ty Spot)) → held_by None c i t ≡ analyze_wellfoundedness c m t
unfolding held_by analyze_wellfoundedness
goes_holds c i _ goes t = refl

pub decides_nobody : {name : Option ℕ} {row : ℕ} → name ≡ None → Decides name row None
decides_nobody e = rw e record { holder = λ h q. absurd (let z : ◌≡◌ {A = ℕ} 0 1 = cc in omega arith); edges = goes_holds }

-- one that has its name
stays_holds : {place : ℕ} (h : Holder) (c i : Ident Spot) (m : Maybe Spot (Ident Spot)) → Stays i (Some place) m → (t : Maybe Spot (Ty Spot)) → held_by (Some h) c i t ≡ analyze_wellfoundedness c m t
unfolding held_by analyze_wellfoundedness
stays_holds h c i _ stays t = refl

pub decides_by : {name : Option ℕ} {place row : ℕ} → name ≡ Some place → Decides name row (Some (record { row = row; member = Some place }))
decides_by {place = place} e = rw e record { holder = λ h q. (place, refl, cc); edges = stays_holds _ }
