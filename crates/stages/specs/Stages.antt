-- What the stages around the walk promise: predeclaration, names, depths.
use Rattle.std.specs.Prelude.{ℕ, ◌+◌, ◌≤◌, ◌<◌, ◌≡◌, Bool, true, false, eqb, length, get_or, take}
use mathlib.Core.List.{List, [], ◌∷◌, flat_map}
use Rattle.std.proofs.Math.Option.{Option, none, some}
use Rattle.penne.specs.Reader.{Cur, got}
use Rattle.penne.specs.Tree.{Spot, Ident, Decl, constant, function, function_head, structure, import, bad_decl}
use Rattle.penne.specs.Read.{read_decl}
use Rattle.penne.specs.Write.{num_b, bytes_b, list_b}
use Rattle.penne.specs.Find.{first_named}
use Rattle.penne.specs.Containers.{Container, Containment, obtain_container_depth}
use Rattle.penne.specs.Scopes.{Analyzer, begin}
use Rattle.penne.specs.Variables.{predeclare, in_turn, is_main}
use Rattle.fields.specs.declared.counts.Counts as C
use Rattle.fields.specs.declared.field.Identifier.{Identifier}
use Rattle.tree.specs.declared.script.Layout.{Layout}
use Rattle.fields.specs.Answers.{cursor, counts_of}
use Rattle.tree.specs.Script.{LaidOut}
use Rattle.answer.specs.declared.wrote.Wrote.{Wrote}
use Rattle.answer.specs.declared.wrote.Wrote.TheVariants.{Bytes}
use Rattle.answer.specs.Out.{Put, Within}
use Rattle.containers.specs.declared.containers.Declared.{Declared}
use Rattle.containers.specs.Table.{at, id_at, kind_of, Holds}
use Rattle.containers.specs.Calls.{Pushes, of_kind}
use Rattle.containers.specs.Functions.{HoldsFunctions, PushesFunction}
use Rattle.containers.specs.Depths.{Determines}
use Rattle.label_references.specs.Pass.{uncounted}
use Rattle.walk.specs.declared.state.Script.{Script}
use Rattle.walk.specs.Walking.{containers_in, functions_in, Input}
use Rattle.penne.specs.Ids.{ids_own}
use Rattle.stages.specs.Heads.{rows_of}
use Rattle.stages.specs.declared.predeclare.Predeclared.{Predeclared}

-- PREDECLARATION

-- no word before the table of containers is changed
pub record Above (w w' : List ℕ) : Type 0 where
  pub long : length w' ≡ length w
  pub same : (i : ℕ) → i < 13312 → get_or w' i 0 ≡ get_or w i 0

-- an identifier of the code's, declared with that id
abbrev pub declared_by : Identifier → (id : ℕ) → Declared
declared_by i id = record { name = i.name; place = i.place; id = id }

-- push: a container, or a function, in the row that is counted
pub record PushedContainer (kind : ℕ) (k : C.Counts) (i : Identifier) (id : ℕ) (w w' : List ℕ) : Type 0 where
  pub pushes : Pushes k.containers kind (declared_by i id) (containers_in w) (containers_in w')
  pub functions : functions_in w' ≡ functions_in w
  pub above : Above w w'

pub record PushedFunction (k : C.Counts) (i : Identifier) (id : ℕ) (w w' : List ℕ) : Type 0 where
  pub pushes : PushesFunction k.functions (declared_by i id) (functions_in w) (functions_in w')
  pub containers : containers_in w' ≡ containers_in w
  pub above : Above w w'

pub record Pushed (kind : ℕ) (k : C.Counts) (i : Identifier) (id : ℕ) (w w' : List ℕ) : Type 0 where
  pub container : 16384 ≤ length w → (whole : Bool) → kind ≡ kind_of whole → PushedContainer kind k i id w w'
  pub function : 16384 ≤ length w → (kind ≡ 0 → ⊥) → (kind ≡ 3 → ⊥) → PushedFunction k i id w w'

-- what is predeclared so far, with so much counted, stands in the tables of w, which was w₀
pub record Tabled (k : C.Counts) (w₀ w : List ℕ) (u : Analyzer Spot) : Type 0 where
  pub long : 16384 ≤ length w
  pub above : Above w₀ w
  pub containers : Holds k.containers (containers_in w) u.containment
  pub functions : HoldsFunctions k.functions (functions_in w) u.function_list
  pub given : (r : ℕ) → r < k.containers → id_at u.containment.containers r < u.resolution_id

-- predeclare: whatever is read here is declared
pub record Predeclares (t : List ℕ) (names : ℕ) (k : C.Counts) (at id : ℕ) (w : List ℕ) (r : ℕ) (w' : List ℕ) : Type 0 where
  pub does : {x : Decl Spot} {d : Cur} → read_decl t (cursor at names (counts_of k)) ≡ got x d → {w₀ : List ℕ} {u : Analyzer Spot} → Tabled k w₀ w u → id ≡ u.resolution_id → u.resolution_id + ids_own x ≤ 4294967295
      → (k' : C.Counts) → d.counts ≡ counts_of k' → Tabled k' w₀ w' (predeclare x u).1 × (r ≡ (predeclare x u).1.resolution_id)

-- predeclare_all
pub record PredeclaresAll (t : List ℕ) (l : Layout) (w : List ℕ) (r : Predeclared) (w' : List ℕ) : Type 0 where
  pub does : (p : LaidOut t l) → length t ≤ 65535 → Tabled uncounted w w begin → Tabled r.counts w w' (in_turn predeclare p.decls begin).1 × (r.next_id ≡ (in_turn predeclare p.decls begin).1.resolution_id) × (p.counts ≡ counts_of r.counts)

-- NAMES

-- then_names: "The answer keeps the names."
pub record SaysNames (t o : List ℕ) (r : Wrote) (o' : List ℕ) : Type 0 where
  pub does : Input t → {l : Layout} (p : LaidOut t l) → Put (Bytes 0) (list_b bytes_b p.table) o r o'

-- main_name
pub record MainName (t : List ℕ) (r : ℕ) : Type 0 where
  pub is : Input t → {l : Layout} (p : LaidOut t l) → (i : ℕ) → i < l.names → is_main p.table i ≡ eqb i r

-- DEPTHS

-- determine_depths
pub record DeterminesIn (k : Script) (w w' : List ℕ) : Type 0 where
  pub does : 16384 ≤ length w → Determines k.containers (containers_in w) (containers_in w')

-- a depth, where nothing of the name was found before
unfoldable pub unless_found : Option (Ident Spot) → ℕ → ℕ
unless_found none d = d
unless_found (some j) d = 0

-- the depth of the container in row r, of that name and kind
unfoldable pub row_depth : List (Container Spot) → (whole : Bool) → (name r : ℕ) → ℕ
row_depth cs whole name r = unless_found (first_named name (of_kind whole (take r cs))) (obtain_container_depth (at cs r).identifier cs)

-- row r is a container of that name and kind
pub record RowOf (cs : List (Container Spot)) (whole : Bool) (name r : ℕ) : Type 0 where
  pub low : r < length cs
  pub kind : (at cs r).is_structure ≡ whole
  pub name_is : (at cs r).identifier.name ≡ name

-- kept_depth
pub record KeptDepth (k : Script) (kind name row : ℕ) (w : List ℕ) (r : ℕ) : Type 0 where
  pub is : 16384 ≤ length w → (s : Containment Spot) → Holds k.containers (containers_in w) s → (whole : Bool) → kind ≡ kind_of whole → RowOf s.containers whole name row → r ≡ row_depth s.containers whole name row

-- named_depth: of what is no container it is 0
pub record NamedDepth (k : Script) (kind name row : ℕ) (w : List ℕ) (r : ℕ) : Type 0 where
  pub is : 16384 ≤ length w → (s : Containment Spot) → Holds k.containers (containers_in w) s → (whole : Bool) → kind ≡ kind_of whole → RowOf s.containers whole name row → r ≡ row_depth s.containers whole name row
  pub none_is : (kind ≡ 0 → ⊥) → (kind ≡ 3 → ⊥) → r ≡ 0

-- the depth of a declaration that comes behind r containers
unfoldable pub depth_in : List (Container Spot) → (r : ℕ) → Decl Spot → ℕ
depth_in cs r (constant g p q i x t) = row_depth cs false i.name r
depth_in cs r (function g p q i ps b t) = 0
depth_in cs r (function_head g p q i ps t) = 0
depth_in cs r (structure g p i ms t) = row_depth cs true i.name r
depth_in cs r (import b p) = 0
depth_in cs r (bad_decl z) = 0

-- the containers behind the first r are those of the declarations
pub data Rowed (cs : List (Container Spot)) (r : ℕ) : Decl Spot → Type 0 where
  of_constant : {g : ℕ} {p q : Spot} {i : Ident Spot} {x : _} {t : _} → RowOf cs false i.name r → Rowed cs r (constant g p q i x t)
  of_function : {g : ℕ} {p q : Spot} {i : Ident Spot} {ps : _} {b : _} {t : _} → Rowed cs r (function g p q i ps b t)
  of_head : {g : ℕ} {p q : Spot} {i : Ident Spot} {ps : _} {t : _} → Rowed cs r (function_head g p q i ps t)
  of_structure : {g : ℕ} {p : Spot} {i : Ident Spot} {ms : _} {t : _} → RowOf cs true i.name r → Rowed cs r (structure g p i ms t)
  of_import : {b : List ℕ} {p : Spot} → Rowed cs r (import b p)
  of_poison : {z : _} → Rowed cs r (bad_decl z)

-- depth_of
pub record DepthOf (t : List ℕ) (k : Script) (n : C.Counts) (at : ℕ) (w : List ℕ) (r : ℕ) : Type 0 where
  pub is : 16384 ≤ length w → (s : Containment Spot) → Holds k.containers (containers_in w) s → {x : Decl Spot} {d : Cur} → read_decl t (cursor at k.names (counts_of n)) ≡ got x d → Rowed s.containers n.containers x → r ≡ depth_in s.containers n.containers x

-- of all declarations in turn
unfoldable pub depths_in : List (Container Spot) → (r : ℕ) → List (Decl Spot) → List ℕ
depths_in cs r [] = []
depths_in cs r (x ∷ xs) = depth_in cs r x ∷ depths_in cs (r + (rows_of x).0) xs

pub data AllRowed (cs : List (Container Spot)) : (r : ℕ) → List (Decl Spot) → Type 0 where
  all_none : {r : ℕ} → AllRowed cs r []
  all_more : {r : ℕ} {x : Decl Spot} {xs : List (Decl Spot)} → Rowed cs r x → AllRowed cs (r + (rows_of x).0) xs → AllRowed cs r (x ∷ xs)

-- then_depths
pub record SaysDepths (t : List ℕ) (k : Script) (l : Layout) (v : Wrote) (w o : List ℕ) (r : Wrote) (o' : List ℕ) : Type 0 where
  pub does : (p : LaidOut t l) → k.names ≡ l.names → 16384 ≤ length w → (s : Containment Spot) → Holds k.containers (containers_in w) s → AllRowed s.containers 0 p.decls → Within v o → Put v (flat_map num_b (depths_in s.containers 0 p.decls)) o r o'
