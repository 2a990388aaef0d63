-- What the walk of the second pass stands for, and what its functions promise: whatever the decoder reads here, the walk does to it what the pass does, and writes what the encoder gives.
use Rattle.std.specs.Prelude.{ℕ, ◌+◌, ◌≤◌, ◌<◌, ◌≡◌, List, [], ◌∷◌, ◌++◌, Bool, true, length, get_or, take, drop, eqb, Result, Ok, Err, None, Some}
use Rattle.std.specs.Prelude as Rust
use Rattle.std.proofs.Math.Option.{Option, none, some}
use Rattle.penne.specs.Reader.{Cur, got, Reader}
use Rattle.penne.specs.Tree.{Spot, Ident, Poison, Maybe, ok, err}
use Rattle.penne.specs.Write.{num_b, poison_b}
use Rattle.penne.specs.Pruning.{offsets, fate, standing}
use Rattle.penne.specs.Containers.{Container, constants}
use Rattle.penne.specs.Scopes.{Analyzer, Pass, with_stack, new_scope, next_id}
use Rattle.penne.specs.Scopes as Defs
use Rattle.penne.specs.Variables.{is_main, in_constexpr_of}
use Rattle.penne.specs.Scoper.{words}
use Rattle.fields.specs.declared.counts.Counts as C
use Rattle.fields.specs.declared.field.Identifier.{Identifier}
use Rattle.fields.specs.Answers.{cursor, counts_of, ident_of}
use Rattle.answer.specs.declared.wrote.Wrote.{Wrote}
use Rattle.answer.specs.Out.{Said}
use Rattle.answer.specs.Parts.{identifier_b, poisoned_b}
use Rattle.scopes.specs.declared.scope.Scope.{Scope}
use Rattle.scopes.specs.Table.{Nth}
use Rattle.scopes.specs.Mirror.{Mirrors}
use Rattle.containers.specs.Table.{at, id_at, Holds}
use Rattle.containers.specs.Functions.{HoldsFunctions}
use Rattle.scopes.specs.Labels as L
use Rattle.walk.specs.declared.state.Script.{Script}
use Rattle.walk.specs.declared.state.Tables as W
use Rattle.walk.specs.declared.state.Walk.{Walk}
use Rattle.walk.specs.declared.fault.Fault.{Fault}
use Rattle.walk.specs.declared.fault.Fault.TheVariants as F

-- THE CODE'S STATE, CHANGED IN ONE FIELD

abbrev pub moved_to : Walk → ℕ → Walk
moved_to s n = record { at = n; wrote = s.wrote; listed = s.listed; counts = s.counts; tables = s.tables; script = s.script }

abbrev pub with_wrote : Walk → Wrote → Walk
with_wrote s v = record { at = s.at; wrote = v; listed = s.listed; counts = s.counts; tables = s.tables; script = s.script }

abbrev pub with_listed : Walk → Wrote → Walk
with_listed s v = record { at = s.at; wrote = s.wrote; listed = v; counts = s.counts; tables = s.tables; script = s.script }

abbrev pub with_counts : Walk → C.Counts → Walk
with_counts s k = record { at = s.at; wrote = s.wrote; listed = s.listed; counts = k; tables = s.tables; script = s.script }

abbrev pub with_tables : Walk → W.Tables → Walk
with_tables s t = record { at = s.at; wrote = s.wrote; listed = s.listed; counts = s.counts; tables = t; script = s.script }

-- where the walk reads
abbrev pub here : Walk → Cur
here s = cursor s.at s.script.names (counts_of s.counts)

-- WHAT IT STANDS FOR

-- the tables' parts of the work words
abbrev pub scopes_in : List ℕ → List ℕ
scopes_in w = take 11264 (drop 2048 w)

abbrev pub containers_in : List ℕ → List ℕ
containers_in w = take 1668 (drop 13312 w)

abbrev pub functions_in : List ℕ → List ℕ
functions_in w = take 768 (drop 14980 w)

-- in_constexpr_of_constant by the constant's row
pub data Whose (cs : List (Container Spot)) (count : ℕ) (constant : Rust.Option ℕ) : Option (Ident Spot) → Type 0 where
  nobody : constant ≡ None → Whose cs count constant none
  somebody : {i : Ident Spot} (r : ℕ) → constant ≡ Some r → r < count → (at cs r).identifier ≡ i → Whose cs count constant (some i)

-- The containers have the first ids: locals have later ones, and nothing became of the first.
pub record Early (count : ℕ) (a : Analyzer Spot) : Type 0 where
  pub first : ℕ
  pub past : first ≤ a.resolution_id
  pub containers : (r : ℕ) → r < count → id_at a.containment.containers r < first
  pub locals : {k : ℕ} {i : Ident Spot} → Nth k i a.variable_stack.locals → first ≤ i.id
  pub untouched : (x : ℕ) → x < first → fate x a.prunings ≡ standing

-- the tables, with so much counted, are the analyzer's
pub record Tables (t : W.Tables) (k : Script) (n : C.Counts) (w : List ℕ) (a : Analyzer Spot) : Type 0 where
  pub long : 16384 ≤ length w
  pub scopes : Mirrors t.scope (scopes_in w) a
  pub containers : Holds k.containers (containers_in w) a.containment
  pub functions : HoldsFunctions k.functions (functions_in w) a.function_list
  pub layer : a.variable_stack.constants ≡ constants a.containment.containers  -- layer 0 stands in the table of the containers
  pub next : t.next_id ≡ a.resolution_id
  pub given : (r : ℕ) → r < k.containers → id_at a.containment.containers r < a.resolution_id
  pub whose : Whose a.containment.containers k.containers t.constant a.containment.in_constexpr_of_constant
  pub names : k.names ≤ 1024
  pub entries : length a.variable_stack.locals ≤ n.entries
  pub early : Early k.containers a
  pub bare : (r : ℕ) → t.constant ≡ Some r → length a.variable_stack.locals ≡ 0  -- in a constant's value there are no locals

-- what expressions leave as it is
pub record Rest : Type 0 where
  pub words : List ℕ  -- what the label pass decided of the statements to come
  pub labels : List (Ident Spot)  -- all labels, in the order of their ids
  pub fit : Bool  -- so far what was walked is what was decided before
  pub containers : ℕ  -- constants and structures walked so far
  pub functions : ℕ  -- functions and heads walked so far
  pub names : List (List ℕ)
  pub room : ℕ  -- bytes lent for the answer
  pub slots : ℕ  -- words lent for the list
  pub script : Script

-- all that was written so far, and the pass's own state
pub record Ground : Type 0 where
  pub out : List ℕ
  pub st : Analyzer Spot
  pub rest : Rest

-- What the walk promises nothing without: ids are 32 bits wide (a tree of 65,535 bytes does not need as many), and what was walked is what was decided before.
pub record Good (a : Ground) : Type 0 where
  pub few : a.st.resolution_id ≤ 4294967295
  pub fit : a.rest.fit ≡ true

-- the words that the second pass only reads: outcomes, names and places of labels
pub record Lower (w w' : List ℕ) : Type 0 where
  pub same : (i : ℕ) → i < 4096 → get_or w' i 0 ≡ get_or w i 0

-- what was decided before stands in the work words: the outcomes of the statements to come (0 behind the last), the labels; the rows of what is walked; which name is `main`
pub record Marks (n : C.Counts) (w : List ℕ) (m : Rest) : Type 0 where
  pub told : (k : ℕ) → n.statements + k < 2048 → get_or w (n.statements + k) 0 ≡ get_or m.words k 0
  pub named : L.Along (L.Named w) 1 m.labels (1 + length m.labels)
  pub labels : length m.labels ≤ 1024
  pub containers : n.containers ≡ m.containers
  pub functions : n.functions ≡ m.functions
  pub main : (i : ℕ) → i < m.script.names → is_main m.names i ≡ eqb i m.script.main

-- answer, list and work words are what the ground says
pub record Stands (s : Walk) (o l w : List ℕ) (a : Ground) : Type 0 where
  pub script : s.script ≡ a.rest.script
  pub put : Said s.wrote o a.out a.rest.room
  pub skip : Said s.listed l (words (offsets a.st.prunings.skips)) a.rest.slots
  pub tables : Tables s.tables s.script s.counts w a.st
  pub marks : Marks s.counts w a.rest

-- THE ABSTRACTION: the walk s, the answer o, the list l and the work words w stand for the ground a
pub record Is (s : Walk) (o l w : List ℕ) (a : Ground) : Type 0 where
  pub when : Good a → Stands s o l w a

-- ONE STEP

-- the pass p on x, its answer written by e
abbrev pub onward : {A B : Type 0} → (A → Pass Spot B) → (B → List ℕ) → A → Ground → Ground
onward p e x a = record { out = a.out ++ e (p x a.st).0; st = (p x a.st).1; rest = a.rest }

-- the pass p on x, nothing written
abbrev pub silently : {A B : Type 0} → (A → Pass Spot B) → A → Ground → Ground
silently p x a = record { out = a.out; st = (p x a.st).1; rest = a.rest }

-- xs is written
abbrev pub say : List ℕ → Ground → Ground
say xs a = record { out = a.out ++ xs; st = a.st; rest = a.rest }

-- the walk has come to d, and stands for a
pub record Did (d : Cur) (a : Ground) (r : Walk) (o l w : List ℕ) : Type 0 where
  pub cur : d ≡ here r
  pub is : Is r o l w a

-- whatever m reads of t at c, as x up to d: the claim holds of x and d
pub record Leads {A : Type 0} (m : Reader A) (t : List ℕ) (c : Cur) (P : A → Cur → Type 0) : Type 0 where
  pub to : (x : A) (d : Cur) → m t c ≡ got x d → P x d

-- a tree of bytes that row 1 does not refuse
pub record Input (t : List ℕ) : Type 0 where
  pub short : length t ≤ 65535
  pub bytes : (i : ℕ) → get_or t i 0 < 256

-- A WALKING FUNCTION: from s to r it does to what m reads what f does to the ground: for most, `onward` of the pass and the encoder.
pub record Walks {A : Type 0} (t : List ℕ) (m : Reader A) (f : A → Ground → Ground) (s : Walk) (o l w : List ℕ) (r : Walk) (o' l' w' : List ℕ) : Type 0 where
  pub does : Input t → (a : Ground) → Is s o l w a → Leads m t (here s) (λ x d. Did d (f x a) r o' l' w')

-- WHAT MAY BE REFUSED

-- a poison of the code's, as it is written: its kind, names and places
abbrev pub fault_b : Fault → List ℕ
fault_b F.Poisoned = poisoned_b 0 (0 ∷ 0 ∷ []) (0 ∷ 0 ∷ 0 ∷ 0 ∷ [])
fault_b (F.DuplicateDeclarationLabel n p q) = poisoned_b 1 (n ∷ 0 ∷ []) (q ∷ p ∷ 0 ∷ 0 ∷ [])
fault_b (F.UndefinedLabel n p) = poisoned_b 2 (n ∷ 0 ∷ []) (p ∷ 0 ∷ 0 ∷ 0 ∷ [])
fault_b (F.DuplicateDeclaration k n p q) = poisoned_b k (n ∷ 0 ∷ []) (p ∷ q ∷ 0 ∷ 0 ∷ [])
fault_b (F.UndefinedVariable n p) = poisoned_b 9 (n ∷ 0 ∷ []) (p ∷ 0 ∷ 0 ∷ 0 ∷ [])
fault_b (F.UndefinedFunction n p) = poisoned_b 10 (n ∷ 0 ∷ []) (p ∷ 0 ∷ 0 ∷ 0 ∷ [])
fault_b (F.UndefinedStructure n p) = poisoned_b 11 (n ∷ 0 ∷ []) (p ∷ 0 ∷ 0 ∷ 0 ∷ [])
fault_b (F.NotACompileTimeConstant n p q) = poisoned_b 12 (n ∷ 0 ∷ []) (p ∷ q ∷ 0 ∷ 0 ∷ [])
fault_b (F.VariableDeclarationMayBeSkipped n m p q r s) = poisoned_b 13 (n ∷ m ∷ []) (p ∷ q ∷ r ∷ s ∷ [])
fault_b (F.CyclicalConstant n p) = poisoned_b 14 (n ∷ 0 ∷ []) (p ∷ 0 ∷ 0 ∷ 0 ∷ [])
fault_b (F.CyclicalStructure n p q) = poisoned_b 15 (n ∷ 0 ∷ []) (p ∷ q ∷ 0 ∷ 0 ∷ [])
fault_b (F.CyclicalStructureWithConstant n m p q r) = poisoned_b 16 (n ∷ m ∷ []) (p ∷ q ∷ r ∷ 0 ∷ [])

-- of what is refused nothing is written
unfoldable pub ok_b : {A : Type 0} → (A → List ℕ) → Maybe Spot A → List ℕ
ok_b e (ok x) = e x
ok_b e (err z) = []

-- what the code tells of a poison is what the pass answers
pub data Answers {A : Type 0} : Option Fault → Maybe Spot A → Type 0 where
  fine : {x : A} → Answers none (ok x)
  bad : {f : Fault} {z : Poison Spot} → fault_b f ≡ poison_b z → Answers (some f) (err z)

-- x is written by e, or nothing is and the poison is told
pub record Tried {A B : Type 0} (p : A → Pass Spot (Maybe Spot B)) (e : B → List ℕ) (x : A) (d : Cur) (a : Ground) (r : Walk) (f : Option Fault) (o l w : List ℕ) : Type 0 where
  pub did : Did d (onward p (ok_b e) x a) r o l w
  pub told : Good (silently p x a) → Answers f (p x a.st).0

-- A FUNCTION THAT WRITES WHOLE OR NOT AT ALL (a type): r is the walk behind it, f the poison
pub record Tries {A B : Type 0} (t : List ℕ) (m : Reader A) (p : A → Pass Spot (Maybe Spot B)) (e : B → List ℕ) (s : Walk) (o l w : List ℕ) (r : Walk) (f : Option Fault) (o' l' w' : List ℕ) : Type 0 where
  pub does : Input t → (a : Ground) → Is s o l w a → Leads m t (here s) (λ x d. Tried p e x d a r f o' l' w')

-- a name that is used or declared: the identifier made anew, or the poison in its place
abbrev pub Used : Type 0
Used = Result Identifier Fault

-- the identifier made anew, or the poison
pub data Made (from : ℕ) : Used → Maybe Spot (Ident Spot) → Type 0 where
  made_as : {j : Identifier} → Made from (Ok j) (ok (ident_of from j))
  made_not : {f : Fault} {z : Poison Spot} → fault_b f ≡ poison_b z → Made from (Err f) (err z)

-- the use x of a name, nothing read or written
pub record Using (p : Ident Spot → Pass Spot (Maybe Spot (Ident Spot))) (s : Walk) (from : ℕ) (x : Ident Spot) (a : Ground) (o l : List ℕ) (r : Used) (w' : List ℕ) : Type 0 where
  pub is : Is s o l w' (silently p x a)
  pub made : Good (silently p x a) → Made from r (p x a.st).0

-- A FUNCTION THAT USES A NAME: the identifier i was read at `from`
pub record Uses (p : Ident Spot → Pass Spot (Maybe Spot (Ident Spot))) (s : Walk) (i : Identifier) (w : List ℕ) (r : Used) (w' : List ℕ) : Type 0 where
  pub does : (from : ℕ) (o l : List ℕ) (a : Ground) → Is s o l w a → Using p s from (ident_of from i) a o l r w'

-- the name x declared or used, nothing read, nothing written but in the list: r is the walk behind it, u the answer
pub record Naming (p : Ident Spot → Pass Spot (Maybe Spot (Ident Spot))) (s : Walk) (from : ℕ) (x : Ident Spot) (a : Ground) (o : List ℕ) (r : Walk) (u : Used) (l' w' : List ℕ) : Type 0 where
  pub cur : here r ≡ here s
  pub is : Is r o l' w' (silently p x a)
  pub made : Good (silently p x a) → Made from u (p x a.st).0

-- A FUNCTION THAT USES A VARIABLE, which is listed where it is refused
pub record UsesListed (p : Ident Spot → Pass Spot (Maybe Spot (Ident Spot))) (s : Walk) (i : Identifier) (from : ℕ) (l w : List ℕ) (r : Walk) (u : Used) (l' w' : List ℕ) : Type 0 where
  pub does : from ≤ 65535 → (o : List ℕ) (a : Ground) → Is s o l w a → Naming p s from (ident_of from i) a o r u l' w'

-- A FUNCTION THAT DECLARES A NAME: one entry more is counted than there are locals, and it is in no constant's value
pub record Declares (p : Ident Spot → Pass Spot (Maybe Spot (Ident Spot))) (s : Walk) (i : Identifier) (from : ℕ) (w : List ℕ) (r : Walk) (u : Used) (w' : List ℕ) : Type 0 where
  pub does : from ≤ 65535 → i.name < s.script.names → s.counts.entries ≤ 1024 → (o l : List ℕ) (a : Ground) → (Good a → length a.st.variable_stack.locals < s.counts.entries)
      → (Good a → a.st.containment.in_constexpr_of_constant ≡ none) → Is s o l w a → Naming p s from (ident_of from i) a o r u l w'

-- SCOPES AND IDS

-- push_scope
abbrev pub opening : Ground → Ground
opening a = record {
  out = a.out;
  st = new_scope a.st;
  rest = a.rest;
}

-- pop_scope: the stack is again what it was at b
abbrev pub closing : Ground → Ground → Ground
closing b a = record { out = a.out; st = with_stack a.st b.st.variable_stack; rest = a.rest }

-- create_anonymous_resolution_id
abbrev pub numbering : Ground → Ground
numbering a = record { out = a.out; st = next_id a.st; rest = a.rest }

-- to the stack s locals were added, no more
pub record Grows (s u : Defs.Scope Spot) : Type 0 where
  pub constants : u.constants ≡ s.constants
  pub more : List (Ident Spot)
  pub locals : u.locals ≡ s.locals ++ more

-- what `push_scope`, `create_anonymous_resolution_id` and `pop_scope` do
pub record Opens (s r : Walk) : Type 0 where
  pub cur : here r ≡ here s
  pub is : {o l w : List ℕ} {a : Ground} → Is s o l w a → Is r o l w (opening a)

pub record Numbers (s r : Walk) : Type 0 where
  pub cur : here r ≡ here s
  pub is : {o l w : List ℕ} {a : Ground} → Is s o l w a → Is r o l w (numbering a)

pub record Closes (s : Walk) (outer : Scope) (w : List ℕ) (r : Walk) (w' : List ℕ) : Type 0 where
  pub cur : here r ≡ here s
  pub is : {o l : List ℕ} {a : Ground} {q : Walk} {o₀ l₀ w₀ : List ℕ} {b : Ground} → q.tables.scope ≡ outer → Is q o₀ l₀ w₀ b → Is s o l w a → Grows b.st.variable_stack a.st.variable_stack → (Good a → Good b) → Is r o l w' (closing b a)

-- another in_constexpr_of_constant
abbrev pub within : Option (Ident Spot) → Ground → Ground
within c a = record { out = a.out; st = in_constexpr_of c a.st; rest = a.rest }

-- what `in_constexpr_of` does
pub record Constexpr (s : Walk) (constant : Rust.Option ℕ) (r : Walk) : Type 0 where
  pub cur : here r ≡ here s
  pub is : {o l w : List ℕ} {a : Ground} → Is s o l w a → (c : Option (Ident Spot)) → (Good a → Whose a.st.containment.containers s.script.containers constant c)
      → (Good a → (r : ℕ) → constant ≡ Some r → length a.st.variable_stack.locals ≡ 0) → Is r o l w (within c a)

-- POISONS OF THE CODE'S

abbrev pub duplicate_fault : (kind : ℕ) → Identifier → (previous : ℕ) → Fault
duplicate_fault k i previous = F.DuplicateDeclaration k i.name i.place previous

abbrev pub label_fault : Identifier → (previous : ℕ) → Fault
label_fault i previous = F.DuplicateDeclarationLabel i.name i.place previous

-- NAMES AS THEY ARE WRITTEN

-- an identifier of the code's
abbrev pub made_b : Identifier → List ℕ
made_b i = identifier_b i.name i.place i.id i.authority

-- a kind or tag, then the poison that came in
abbrev pub say_poison : (kind : ℕ) → Poison Spot → Ground → Ground
say_poison kind z a = say (num_b kind ++ poison_b z) a
