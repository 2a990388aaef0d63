-- What the functions over parameters and members promise.
use Rattle.std.specs.Prelude.{ℕ, ◌≤◌, ◌<◌, ◌≡◌, true, List, ◌++◌, length, get_or}
use Rattle.std.proofs.Math.Option.{none, some}
use Rattle.std.specs.Prelude as P
use Rattle.std.specs.Prelude.{Some, None, Result, Ok, Err}
use Rattle.fields.specs.declared.refusal.Refusal.{Refusal}
use Rattle.penne.specs.Reader.{Cur, Reader, ◌>>=◌, ret, below, an_entry, counting}
use Rattle.penne.specs.Tree.{Spot, Ident, Poison, Maybe, ok, err, Ty, Param}
use Rattle.penne.specs.Read.{place, ident, maybe, read_ty}
use Rattle.penne.specs.Write.{place_b, ident_b, ty_b, maybe_b, list_b, param_b}
use Rattle.penne.specs.State as S
use Rattle.penne.specs.Scopes.{Pass}
use Rattle.penne.specs.Variables.{analyze_maybe_type, in_turn, declare_maybe, analyze_param, analyze_member, found_maybe, analyze_wellfoundedness}
use Rattle.fields.specs.Answers.{poison_names, poison_places}
use Rattle.containers.specs.Table.{at}
use Rattle.walk.specs.declared.state.Walk.{Walk}
use Rattle.walk.specs.declared.edges.Holder.{Holder}
use Rattle.walk.specs.Walking.{here, Ground, Good, Is, onward, Did, Leads, Input}
use Rattle.walk.specs.Calls.{Member}

-- WHERE THEY STAND

-- in no constant's value
pub record Outside (a : Ground) : Type 0 where
  pub is : a.st.containment.in_constexpr_of_constant ≡ none

-- in the structure c, which has that row
pub record InStructure (row : ℕ) (c : Ident Spot) (a : Ground) : Type 0 where
  pub outside : Outside a
  pub low : row < length a.st.containment.containers
  pub is : (at a.st.containment.containers row).identifier ≡ c

-- A WALKING FUNCTION, where P is known of the ground
pub record Under {A : Type 0} (P : Ground → Type 0) (t : List ℕ) (m : Reader A) (f : A → Ground → Ground) (s : Walk) (o l w : List ℕ) (r : Walk) (o' l' w' : List ℕ) : Type 0 where
  pub does : Input t → (a : Ground) → (Good a → P a) → Is s o l w a → Leads m t (here s) (λ x d. Did d (f x a) r o' l' w')

-- WHERE THE WALK STOPS

-- an entry's place, where it is counted, then the tag of its name
unfoldable pub place_and_tag : Reader ℕ
place_and_tag = counting (λ _. an_entry) place >>= λ p. below 2

-- one of them cannot be read, or there are too many entries
abbrev pub Unread : List ℕ → Walk → Type 0
Unread t s = Leads place_and_tag t (here s) (λ k d. ⊥)

-- there nothing is done
pub record Stops (t : List ℕ) (s : Walk) (o w : List ℕ) (r : Walk) (o' w' : List ℕ) : Type 0 where
  pub still : Unread t s → (r ≡ s) × (o' ≡ o) × (w' ≡ w)

-- WHAT IS DONE TO THE GROUND

abbrev pub param_walk : Param Spot → Ground → Ground
param_walk x a = onward (analyze_param 5) param_b x a

abbrev pub params_walk : List (Param Spot) → Ground → Ground
params_walk xs a = onward (in_turn (analyze_param 5)) (list_b param_b) xs a

-- members of the structure c
abbrev pub member_walk : Ident Spot → Param Spot → Ground → Ground
member_walk c x a = onward (analyze_member c) param_b x a

abbrev pub members_walk : Ident Spot → List (Param Spot) → Ground → Ground
members_walk c xs a = onward (in_turn (analyze_member c)) (list_b param_b) xs a

-- WHO HOLDS A MEMBER'S EDGES

-- the member i as it was declared: its name has a place, or was refused
pub data Stays (i : Ident Spot) : (name : P.Option ℕ) → Maybe Spot (Ident Spot) → Type 0 where
  stays : {place : ℕ} → Stays i (Some place) (ok i)
  goes : {z : Poison Spot} → Stays i None (err z)

-- the edges of the structure c that its holder stands for, by its member i of type t
unfoldable pub held_by : P.Option Holder → (c i : Ident Spot) → Maybe Spot (Ty Spot) → Pass Spot (Maybe Spot (Ty Spot))
held_by (Some h) c i t = found_maybe c (some i) t
held_by None c i t = S.ret t

-- member_holder: it holds what analyze_wellfoundedness hands over
pub record Decides (name : P.Option ℕ) (row : ℕ) (r : P.Option Holder) : Type 0 where
  pub holder : (h : Holder) → r ≡ Some h → (place : ℕ) × (name ≡ Some place) × (h ≡ record { row = row; member = Some place })
  pub edges : (c i : Ident Spot) (m : Maybe Spot (Ident Spot)) → Stays i name m → (t : Maybe Spot (Ty Spot)) → held_by r c i t ≡ analyze_wellfoundedness c m t

-- A MEMBER'S TYPE

-- the type, then the edges that a holder stands for: of the structure c, by its member i
unfoldable pub analyze_held : P.Option Holder → (c i : Ident Spot) → Maybe Spot (Ty Spot) → Pass Spot (Maybe Spot (Ty Spot))
analyze_held by c i t = S.◌>>=◌ (analyze_maybe_type t) (held_by by c i)

-- whoever holds it is c, by its member i
pub record Held (by : P.Option Holder) (c i : Ident Spot) (s : Walk) (a : Ground) : Type 0 where
  pub member : (h : Holder) → by ≡ Some h → Member h (some i)
  pub low : (h : Holder) → by ≡ Some h → Good a → h.row < s.script.containers
  pub is : (h : Holder) → by ≡ Some h → Good a → (at a.st.containment.containers h.row).identifier ≡ c

-- member_type
pub record TypesMember (t : List ℕ) (by : P.Option Holder) (s : Walk) (o l w : List ℕ) (r : Walk) (o' l' w' : List ℕ) : Type 0 where
  pub does : Input t → (c i : Ident Spot) (a : Ground) → Held by c i s a → Is s o l w a → Leads (maybe (read_ty 63 true)) t (here s) (λ x d. Did d (onward (analyze_held by c i) (maybe_b ty_b) x a) r o' l' w')

-- THE NAME OF AN ENTRY

-- what is told of the name, by the name as declared: its place, unless it was refused
pub data Names : P.Option ℕ → Maybe Spot (Ident Spot) → Type 0 where
  named : {p : ℕ} {i : Ident Spot} → p ≡ i.place.number → Names (Some p) (ok i)
  nameless : {z : Poison Spot} → Names None (err z)

-- the name i was declared, and written by e; that it was read is told
pub record Entered (kind : ℕ) (e : Maybe Spot (Ident Spot) → List ℕ) (i : Maybe Spot (Ident Spot)) (d : Cur) (a : Ground) (r : Walk) (answered : Result (P.Option ℕ) Refusal) (o l w : List ℕ) : Type 0 where
  pub did : Did d (onward (declare_maybe kind) e i a) r o l w
  pub name : P.Option ℕ
  pub read : answered ≡ Ok name
  pub told : Good (onward (declare_maybe kind) e i a) → Names name (declare_maybe kind i a.st).0

-- declared: its tag is read, and it is counted
pub record DeclaresEntry (kind : ℕ) (t : List ℕ) (s : Walk) (o w : List ℕ) (r : Walk) (answered : Result (P.Option ℕ) Refusal) (o' w' : List ℕ) : Type 0 where
  pub does : 1 ≡ get_or poison_names kind 0 → 2 ≡ get_or poison_places kind 0 → Input t → (l : List ℕ) (a : Ground) → (Good a → Outside a) → s.counts.entries ≤ 1024 → (Good a → length a.st.variable_stack.locals < s.counts.entries) → Is s o l w a
      → Leads ident t (here s) (λ i d. Entered kind (maybe_b ident_b) (ok i) d a r answered o' l w')

-- "p, maybe identifier"
unfoldable pub place_and_name : Reader (Spot × Maybe Spot (Ident Spot))
place_and_name = counting (λ _. an_entry) place >>= λ p. maybe ident >>= λ i. ret (p, i)

-- the place p, then the name
abbrev pub placed_b : Spot → Maybe Spot (Ident Spot) → List ℕ
placed_b p i = place_b p ++ maybe_b ident_b i

-- entry_name: where the walk stops, it refuses
pub record Refuses (t : List ℕ) (s : Walk) (o w : List ℕ) (r : Walk) (answered : Result (P.Option ℕ) Refusal) (o' w' : List ℕ) : Type 0 where
  pub stops : Stops t s o w r o' w'
  pub refused : Unread t s → (x : Refusal) × (answered ≡ Err x)

-- and what is read it enters
pub record NamesEntry (kind : ℕ) (t : List ℕ) (s : Walk) (o w : List ℕ) (r : Walk) (answered : Result (P.Option ℕ) Refusal) (o' w' : List ℕ) : Type 0 where
  pub does : 1 ≡ get_or poison_names kind 0 → 2 ≡ get_or poison_places kind 0 → Input t → (l : List ℕ) (a : Ground) → (Good a → Outside a) → Is s o l w a
      → Leads place_and_name t (here s) (λ x d. Entered kind (placed_b x.0) x.1 d a r answered o' l w')
