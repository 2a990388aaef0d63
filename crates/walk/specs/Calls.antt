-- What the calls inside `names` and `edges` promise. Where the work words are too few they say nothing.
use Rattle.std.specs.Prelude.{ℕ, ◌+◌, ◌≤◌, ◌<◌, ◌≡◌, List, [], ◌∷◌, Bool, true, false, length, get_or, Result, Ok, Err, Some, None}
use Rattle.std.specs.Prelude as Rust
use Rattle.std.proofs.Math.Option.{Option, none, some}
use borrow.Rule.Slice.PartMut.{put_mid}
use Rattle.penne.specs.Tree.{Spot, Ident, Poison, Maybe, ok, err, Ty, plain, array, array_with_named_length, arraylike, struct, word, unresolved, nameless, pointer, view}
use Rattle.penne.specs.Read.{ident}
use Rattle.penne.specs.Reader.{Counts, Cur, got, Reader}
use Rattle.penne.specs.Find.{first_named}
use Rattle.penne.specs.Write.{poison_b}
use Rattle.penne.specs.Containers.{Containment, cyclical, found_container_1, found_container}
use Rattle.penne.specs.Scopes.{Analyzer, Pass, with_containment, variables, use_as, use_constant, use_variable, declare_variable}
use Rattle.penne.specs.Variables.{analyze_type}
use Rattle.fields.specs.declared.counts.Counts as K
use Rattle.fields.specs.declared.field.Identifier.{Identifier}
use Rattle.fields.specs.Answers.{cursor, ident_of, poison_names, poison_places}
use Rattle.answer.specs.declared.wrote.Wrote.{Wrote}
use Rattle.answer.specs.Out.{Put}
use Rattle.scopes.specs.declared.scope.Local.{Local}
use Rattle.scopes.specs.declared.pruning.Fate.{Fate}
use Rattle.scopes.specs.Calls as S
use Rattle.scopes.specs.Jumps as J
use Rattle.containers.specs.declared.containers.Declared.{Declared}
use Rattle.containers.specs.Table.{at, id_at, kind_of}
use Rattle.containers.specs.Calls as C
use Rattle.containers.specs.Functions as F
use Rattle.walk.specs.declared.state.Script.{Script}
use Rattle.walk.specs.declared.state.Tables as W
use Rattle.walk.specs.declared.state.Walk.{Walk}
use Rattle.walk.specs.declared.fault.Fault.{Fault}
use Rattle.walk.specs.declared.fault.Fault.TheVariants.{VariableDeclarationMayBeSkipped}
use Rattle.walk.specs.declared.edges.Holder.{Holder}
use Rattle.walk.specs.Walking.{with_listed, here, Lower, scopes_in, containers_in, functions_in, Tables, Ground, Good, Is, silently, fault_b, Used, Uses, UsesListed, Declares}

-- find_in: the search among the constants (kind 0) or the structures (3)
pub record FindsIn (k : Script) (kind name : ℕ) (w : List ℕ) (r : Rust.Option ℕ) : Type 0 where
  pub below : (i : ℕ) → r ≡ Some i → i < k.containers
  pub finds : 16384 ≤ length w → C.Finds k.containers kind name (containers_in w) r

-- container_at
pub record ContainerAt (row : ℕ) (w : List ℕ) (d : Declared) : Type 0 where
  pub tells : 16384 ≤ length w → C.Tells row (containers_in w) d

-- find_function_in, function_at
pub record FindsFunctionIn (k : Script) (name : ℕ) (w : List ℕ) (r : Rust.Option ℕ) : Type 0 where
  pub below : (i : ℕ) → r ≡ Some i → i < k.functions
  pub finds : 16384 ≤ length w → F.FindsFunction k.functions name (functions_in w) r

pub record FunctionAt (row : ℕ) (w : List ℕ) (d : Declared) : Type 0 where
  pub tells : 16384 ≤ length w → F.TellsFunction row (functions_in w) d

-- constant_in: the first constant that the container in that row contains
pub record ConstantIn (k : Script) (row : ℕ) (w : List ℕ) (r : Rust.Option ℕ) : Type 0 where
  pub finds : 16384 ≤ length w → C.FindsConstant k.containers row (containers_in w) r

-- find_local, local_of, what_became
pub record FindsLocal (s : Walk) (name : ℕ) (w : List ℕ) (r : Rust.Option ℕ) : Type 0 where
  pub searches : 16384 ≤ length w → S.Searches s.tables.scope (scopes_in w) name r

pub record LocalOf (k : ℕ) (w : List ℕ) (r : Local) : Type 0 where
  pub tells : 16384 ≤ length w → S.LocalAt (scopes_in w) k r

pub record Became (k : ℕ) (w : List ℕ) (r : Fate) : Type 0 where
  pub tells : 16384 ≤ length w → J.Becomes (scopes_in w) k r

-- place_of_variable, place_of_local: where what the search found was declared
pub data Placed : Rust.Option ℕ → Option (Ident Spot) → Type 0 where
  placed : {p : ℕ} {j : Ident Spot} → p ≡ j.place.number → Placed (Some p) (some j)
  nowhere : Placed None none

pub record PlaceOfVariable (s : Walk) (name : ℕ) (w : List ℕ) (r : Rust.Option ℕ) : Type 0 where
  pub tells : {a : Analyzer Spot} → Tables s.tables s.script s.counts w a → Placed r (first_named name (variables a))

pub record PlaceOfLocal (s : Walk) (name : ℕ) (w : List ℕ) (r : Rust.Option ℕ) : Type 0 where
  pub tells : {a : Analyzer Spot} → Tables s.tables s.script s.counts w a → Placed r (first_named name a.variable_stack.locals)

-- no_constant: no constant has the name
pub record NoConstant (s : Walk) (i : Identifier) (w : List ℕ) (f : Fault) : Type 0 where
  pub does : FindsIn s.script 0 i.name w None → Uses use_constant s i w (Err f) w

-- use_local: no constant has the name
pub record UsesLocal (s : Walk) (i : Identifier) (from : ℕ) (l w : List ℕ) (r : Walk) (u : Used) (l' w' : List ℕ) : Type 0 where
  pub does : FindsIn s.script 0 i.name w None → UsesListed use_variable s i from l w r u l' w'

-- list_skip: two words more, where the use stands and where what it finds was declared
pub record ListsSkip (s : Walk) (from : ℕ) (d : Local) (l : List ℕ) (r : Walk) (l' : List ℕ) : Type 0 where
  pub to : Wrote
  pub is : from ≤ 65535 → r ≡ with_listed s to
  pub put : from ≤ 65535 → Put s.listed (from ∷ d.from ∷ []) l to l'

-- may_be_skipped: name and place of the label stand in the table
abbrev pub skipped_fault : (w : List ℕ) → Identifier → Local → (label goto : ℕ) → Fault
skipped_fault w i d label goto = VariableDeclarationMayBeSkipped i.name (get_or w (2048 + label) 0) i.place d.place goto (get_or w (3072 + label) 0)

pub record MayBeSkipped (w : List ℕ) (i : Identifier) (d : Local) (label goto : ℕ) (f : Fault) : Type 0 where
  pub is : label < 1024 → f ≡ skipped_fault w i d label goto

-- poison_local
pub record PoisonsLocal (k : ℕ) (w w' : List ℕ) : Type 0 where
  pub part : List ℕ
  pub is : 16384 ≤ length w → w' ≡ put_mid 2048 11264 w part
  pub poisons : 16384 ≤ length w → J.Poisons k (scopes_in w) part

-- push_variable: the last layer with one more, which takes the next id
pub record Pushes (s : Walk) (i : Identifier) (from : ℕ) (w : List ℕ) (r : Walk) (w' : List ℕ) : Type 0 where
  pub cur : here r ≡ here s
  pub is : from ≤ 65535 → i.id ≡ s.tables.next_id → i.name < s.script.names → s.counts.entries ≤ 1024 → (kind : ℕ) (o l : List ℕ) (a : Ground) → (Good a → length a.st.variable_stack.locals < s.counts.entries)
      → (Good a → a.st.containment.in_constexpr_of_constant ≡ none) → Is s o l w a → Is r o l w' (silently (declare_variable kind) (ident_of from i) a)

-- the use x of the container in that row
unfoldable pub use_row : ℕ → Ident Spot → Pass Spot (Maybe Spot (Ident Spot))
use_row row x = λ a. use_as x (at a.containment.containers row).identifier a

-- use_containee
pub record UsesRow (s : Walk) (i : Identifier) (row : ℕ) (w : List ℕ) (r : Used) (w' : List ℕ) : Type 0 where
  pub does : row < s.script.containers → Uses (use_row row) s i w r w'

-- the member that a holder is about
pub data Member (h : Holder) : Option (Ident Spot) → Type 0 where
  no_member : h.member ≡ None → Member h none
  the_member : {m : Ident Spot} → h.member ≡ Some m.place.number → Member h (some m)

-- what becomes of a containee, or of the type that names it
abbrev pub Edge : Type 0
Edge = Result (Unit {0}) Fault

pub data Edged {A : Type 0} (x : A) : Edge → Maybe Spot A → Type 0 where
  fine : Edged x (Ok tt) (ok x)
  bad : {f : Fault} {z : Poison Spot} → fault_b f ≡ poison_b z → Edged x (Err f) (err z)

-- edge_to: the edge from the holder c to x, which stands in row n
pub record EdgeTo (k : Script) (h : Holder) (n : ℕ) (w : List ℕ) (r : Edge) (w' : List ℕ) : Type 0 where
  pub does : {t : W.Tables} {e : K.Counts} {a : Analyzer Spot} → Tables t k e w a → h.row < k.containers → n < k.containers → {m : Option (Ident Spot)} → Member h m → (c x : Ident Spot) → (at a.containment.containers h.row).identifier ≡ c → x.id ≡ id_at a.containment.containers n
      → Tables t k e w' (with_containment a (found_container_1 c m x a.containment).1) × Lower w w' × Edged x r (found_container_1 c m x a.containment).0

-- cyclical: the error of the holder c, which now contains itself
pub record Cyclical (k : Script) (h : Holder) (w : List ℕ) (f : Fault) : Type 0 where
  pub tells : {t : W.Tables} {e : K.Counts} {a : Analyzer Spot} → Tables t k e w a → h.row < k.containers → {m : Option (Ident Spot)} → Member h m → (c : Ident Spot) → (at a.containment.containers h.row).identifier ≡ c
      → fault_b f ≡ poison_b (cyclical c m a.containment.containers)

-- what a step of found_container leaves behind: v are its answer and the containers
pub record Handed {A : Type 0} (n : W.Tables) (k : Script) (e : K.Counts) (w w' : List ℕ) (a : Analyzer Spot) (x : A) (r : Edge) (v : Maybe Spot A × Containment Spot) : Type 0 where
  pub tables : Tables n k e w' (with_containment a v.1)
  pub lower : Lower w w'
  pub edged : Edged x r v.0

-- i' has the id of the first structure, or of the first constant, of i's name
pub record Resolves (s : Containment Spot) (structure : Bool) (i i' : Ident Spot) : Type 0 where
  pub to : Ident Spot
  pub is : first_named i.name (C.of_kind structure s.containers) ≡ some to
  pub id : i'.id ≡ to.id

-- x' is x with its names resolved, as far as found_container looks
pub data Settles (s : Containment Spot) : Ty Spot → Ty Spot → Type 0 where
  as_plain : {k : ℕ} → Settles s (plain k) (plain k)
  in_array : {x x' : Ty Spot} {n : ℕ} → Settles s x x' → Settles s (array x n) (array x' n)
  in_named_length : {x x' : Ty Spot} {i i' : Ident Spot} → Settles s x x' → Resolves s false i i' → Settles s (array_with_named_length x i) (array_with_named_length x' i')
  in_arraylike : {k : ℕ} {x x' : Ty Spot} → Settles s x x' → Settles s (arraylike k x) (arraylike k x')
  as_struct : {i i' : Ident Spot} → Resolves s true i i' → Settles s (struct i) (struct i')
  as_word : {i i' : Ident Spot} {n : ℕ} → Resolves s true i i' → Settles s (word i n) (word i' n)
  as_unresolved : {i i' : Ident Spot} → Resolves s true i i' → Settles s (unresolved i) (unresolved i')
  as_nameless : Settles s nameless nameless
  as_pointer : {x x' : Ty Spot} → Settles s (pointer x) (pointer x')
  as_view : {x x' : Ty Spot} → Settles s (view x) (view x')

-- found_named: the identifier i at `from`, among the structures or the constants
pub record FoundNamed (t : List ℕ) (k : Script) (h : Holder) (from kind : ℕ) (w : List ℕ) (r : Edge) (w' : List ℕ) : Type 0 where
  pub does : {n : W.Tables} {e : K.Counts} {a : Analyzer Spot} → Tables n k e w a → h.row < k.containers → {o : Option (Ident Spot)} → Member h o → (c : Ident Spot) → (at a.containment.containers h.row).identifier ≡ c
      → (structure : Bool) → kind ≡ kind_of structure → (q : Counts) (d : Cur) (i i' : Ident Spot) → ident t (cursor from k.names q) ≡ got i d → Resolves a.containment structure i i'
      → Handed n k e w w' a i' r (found_container_1 c o i' a.containment)

-- found_in_named_length: the element x that m reads at `from`, then the length i
pub record FoundLength (t : List ℕ) (m : Reader (Ty Spot)) (k : Script) (h : Holder) (from : ℕ) (w : List ℕ) (r : Edge) (w' : List ℕ) : Type 0 where
  pub does : {n : W.Tables} {e : K.Counts} {a : Analyzer Spot} → Tables n k e w a → h.row < k.containers → {o : Option (Ident Spot)} → Member h o → (c : Ident Spot) → (at a.containment.containers h.row).identifier ≡ c
      → (q : Counts) (b d : Cur) (x x' : Ty Spot) (i i' : Ident Spot) → m t (cursor from k.names q) ≡ got x b → ident t b ≡ got i d → Settles a.containment x x' → Resolves a.containment false i i'
      → Handed n k e w w' a (array_with_named_length x' i') r (found_container c o (array_with_named_length x' i') a.containment)

-- found_container over the type x that m reads at `from`: x' is x with its names resolved, as it is where x was just analysed as x'
pub record FoundIn (t : List ℕ) (m : Reader (Ty Spot)) (k : Script) (h : Holder) (from : ℕ) (w : List ℕ) (r : Edge) (w' : List ℕ) : Type 0 where
  pub by : {n : W.Tables} {e : K.Counts} {a : Analyzer Spot} → Tables n k e w a → h.row < k.containers → {o : Option (Ident Spot)} → Member h o → (c : Ident Spot) → (at a.containment.containers h.row).identifier ≡ c
      → (q : Counts) (d : Cur) (x x' : Ty Spot) → m t (cursor from k.names q) ≡ got x d → Settles a.containment x x' → Handed n k e w w' a x' r (found_container c o x' a.containment)
  pub does : {n : W.Tables} {e : K.Counts} {a : Analyzer Spot} → Tables n k e w a → h.row < k.containers → {o : Option (Ident Spot)} → Member h o → (c : Ident Spot) → (at a.containment.containers h.row).identifier ≡ c
      → (q : Counts) (d : Cur) (x x' : Ty Spot) (b : Analyzer Spot) → m t (cursor from k.names q) ≡ got x d → analyze_type x b ≡ (ok x', a)
      → Tables n k e w' (with_containment a (found_container c o x' a.containment).1) × Lower w w' × Edged x' r (found_container c o x' a.containment).0

-- declare_variable (kind 4), declare_parameter (5), declare_member (6)
pub record DeclaresBy (kind : ℕ) (s : Walk) (i : Identifier) (from : ℕ) (w : List ℕ) (r : Walk) (u : Used) (w' : List ℕ) : Type 0 where
  pub does : 1 ≡ get_or poison_names kind 0 → 2 ≡ get_or poison_places kind 0 → Declares (declare_variable kind) s i from w r u w'
