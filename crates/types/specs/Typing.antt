-- What the functions over types promise.
use Rattle.std.specs.Prelude.{ℕ, ◌<◌, ◌≡◌, List, ◌++◌, Result, Ok, Err}
use Rattle.std.proofs.Math.Option.{Option, none, some}
use Rattle.penne.specs.Reader.{Reader}
use Rattle.penne.specs.State.{◌>>=◌}
use Rattle.penne.specs.Tree.{Spot, Ident, Maybe, Ty}
use Rattle.penne.specs.Write.{num_b, ident_b, ty_b, maybe_b}
use Rattle.penne.specs.Scopes.{Pass}
use Rattle.penne.specs.Variables.{analyze_maybe_type, found_maybe}
use Rattle.containers.specs.Table.{at}
use Rattle.walk.specs.declared.state.Walk.{Walk}
use Rattle.walk.specs.declared.fault.Fault.{Fault}
use Rattle.walk.specs.declared.edges.Holder.{Holder}
use Rattle.walk.specs.Walking.{here, Ground, Good, Is, onward, say, Did, Leads, Input}
use Rattle.walk.specs.Calls.{Member}

-- what is told of a type: nothing, or its poison
abbrev pub fault_of : {A : Type 0} → Result A Fault → Option Fault
fault_of (Ok x) = none
fault_of (Err f) = some f

-- what follows a type's kind, as it is written: a number; a type or a name behind the kind
abbrev pub say_number : ℕ → Ground → Ground
say_number n a = say (num_b n) a

abbrev pub element_b : (kind : ℕ) → Ty Spot → List ℕ
element_b kind x = num_b kind ++ ty_b x

abbrev pub named_b : (kind : ℕ) → Ident Spot → List ℕ
named_b kind i = num_b kind ++ ident_b i

-- what follows a part that is refused is passed over
abbrev pub passing : {A : Type 0} → A → Ground → Ground
passing x a = a

-- a type that may be poison, analysed, and found_container over it: the type of the constant c, or of the member m of the structure c
unfoldable pub analyze_contained : Ident Spot → Option (Ident Spot) → Maybe Spot (Ty Spot) → Pass Spot (Maybe Spot (Ty Spot))
analyze_contained c m t = analyze_maybe_type t >>= found_maybe c m

-- contained_type: whoever contains, stands in the holder's row
pub record Contains (t : List ℕ) (m : Reader (Maybe Spot (Ty Spot))) (h : Holder) (s : Walk) (o l w : List ℕ) (r : Walk) (o' l' w' : List ℕ) : Type 0 where
  pub does : Input t → (c : Ident Spot) (i : Option (Ident Spot)) → Member h i → (a : Ground) → (Good a → h.row < s.script.containers) → (Good a → (at a.st.containment.containers h.row).identifier ≡ c) → Is s o l w a
      → Leads m t (here s) (λ x d. Did d (onward (analyze_contained c i) (maybe_b ty_b) x a) r o' l' w')
