-- What the functions over declarations promise.
use Rattle.std.specs.Prelude.{ℕ, ◌+◌, ◌<◌, ◌≡◌, Bool, true, false, ◌&&◌, List, ◌++◌, eqb, take, None, Ok}
use Rattle.std.proofs.Math.Option.{none}
use Rattle.penne.specs.Reader.{Reader, ◌>>=◌, ret, below, listed}
use Rattle.penne.specs.Tree.{Spot, Ident, expr, Decl, constant, function, function_head, structure}
use Rattle.penne.specs.Read.{maybe, read, read_ty, read_body, read_param, read_decl}
use Rattle.penne.specs.Write.{num_b}
use Rattle.penne.specs.Find.{first_named}
use Rattle.penne.specs.Variables.{with_main}
use Rattle.fields.specs.declared.field.Identifier.{Identifier}
use Rattle.fields.specs.Answers.{cursor, counts_of, Gives}
use Rattle.answer.specs.Parts.{renumbered}
use Rattle.containers.specs.Calls.{of_kind}
use Rattle.label_references.specs.Marked.{marked_decl}
use Rattle.walk.specs.declared.state.Walk.{Walk}
use Rattle.walk.specs.declared.fault.Fault.{Fault}
use Rattle.walk.specs.Walking.{here, Rest, Ground, Good, Is, say, Did, Leads, Walks, Input, fault_b, made_b}
use Rattle.stages.specs.declared.heads.Start.{Start}
use Rattle.stages.specs.Heads.{Begins}
use Rattle.stages.specs.Before.{DeclaredBefore}
use Rattle.declaration_parts.specs.Declaring.{clear, fit_container, fit_function, fit_decl, behind, decl_walk}

-- the declaration at the walk has this kind and begins so
pub record Heading (t : List ℕ) (s : Walk) (kind : ℕ) (h : Start) : Type 0 where
  pub at : ℕ
  pub kinds : Gives (below 6) t s.at (Ok (kind, at))
  pub begins : Begins t s.script.names at kind h

-- A DUPLICATE

-- the declaration d is passed over, and answered by the poison f
unfoldable pub drop_walk : Fault → Decl Spot → Ground → Ground
drop_walk f d a = record { out = a.out ++ (num_b 5 ++ fault_b f); st = a.st; rest = behind d (marked_decl a.rest.labels d a.rest.words).1 (fit_decl a d) a.rest }

-- WHAT IS KEPT

-- it is counted: so many more containers and functions are walked, and it fits
unfoldable pub counting : (containers functions : ℕ) → Bool → Rest → Rest
counting c f b m = record {
  words = m.words;
  labels = m.labels;
  fit = m.fit && b;
  containers = m.containers + c;
  functions = m.functions + f;
  names = m.names;
  room = m.room;
  slots = m.slots;
  script = m.script;
}

-- the constant or structure i is counted
unfoldable pub begun_container : Ident Spot → Ground → Ground
begun_container i a = record { out = a.out; st = a.st; rest = counting 1 0 (clear a.st && fit_container a.st.containment.containers a.rest.containers i) a.rest }

-- the function or head i is counted
unfoldable pub begun_function : Ident Spot → Ground → Ground
begun_function i a = record { out = a.out; st = a.st; rest = counting 0 1 (clear a.st && fit_function a.st.function_list a.rest.functions i) a.rest }

-- it stands in this row, and is the first of its name
pub record NewContainer (structure : Bool) (row : ℕ) (i : Ident Spot) (a : Ground) : Type 0 where
  pub stands : row ≡ a.rest.containers
  pub new : first_named i.name (of_kind structure (take row a.st.containment.containers)) ≡ none

pub record NewFunction (row : ℕ) (i : Ident Spot) (a : Ground) : Type 0 where
  pub stands : row ≡ a.rest.functions
  pub new : first_named i.name (take row a.st.function_list) ≡ none

-- A FUNCTION BEHIND A DECLARATION'S HEAD: m reads the parts from `from` on; the ground was a before the declaration was counted as f says; P is what has to be known
pub record Arm (P : Ground → Type 0) (f : Ground → Ground) (t : List ℕ) (m : Reader (Decl Spot)) (from : ℕ) (s : Walk) (o l w : List ℕ) (r : Walk) (o' l' w' : List ℕ) : Type 0 where
  pub does : Input t → (a : Ground) → (Good (f a) → P a) → Is s o l w (f a) → Leads m t (cursor from s.script.names (counts_of s.counts)) (λ x d. Did d (decl_walk x a) r o' l' w')

-- the parts behind the heads
unfoldable pub constant_parts : ℕ → Spot → Spot → Ident Spot → Reader (Decl Spot)
constant_parts f p q i = read 63 expr >>= λ x. maybe (read_ty 63 true) >>= λ t. ret (constant f p q i x t)

unfoldable pub function_parts : ℕ → Spot → Spot → Ident Spot → Reader (Decl Spot)
function_parts f p q i = listed (read_param 63 false) >>= λ ps. maybe (read_body 63) >>= λ b. maybe (read_ty 63 false) >>= λ t. ret (function f p q i ps b t)

unfoldable pub head_parts : ℕ → Spot → Spot → Ident Spot → Reader (Decl Spot)
head_parts f p q i = listed (read_param 63 false) >>= λ ps. maybe (read_ty 63 false) >>= λ t. ret (function_head f p q i ps t)

unfoldable pub structure_parts : ℕ → Spot → Ident Spot → Reader (Decl Spot)
structure_parts f p i = listed (read_param 63 true) >>= λ ms. maybe (read_ty 63 false) >>= λ t. ret (structure f p i ms t)

-- started: kind, flags, places and identifier are written, and the parts are next
pub record Starts (t : List ℕ) (kind flags : ℕ) (h : Start) (i : Identifier) (s : Walk) (o : List ℕ) (r : Walk) (o' : List ℕ) : Type 0 where
  pub cur : here r ≡ cursor h.parts s.script.names (counts_of s.counts)
  pub script : r.script ≡ s.script
  pub is : {l w : List ℕ} {a : Ground} → Is s o l w a → Is r o' l w (say (num_b kind ++ (num_b flags ++ (renumbered t h.places h.from ++ made_b i))) a)

-- with_main: a function named `main` gains flag 4
pub record MainFlag (flags name main r : ℕ) : Type 0 where
  pub is : flags < 32 → r ≡ with_main (eqb name main) flags

-- keep_declaration: what begins so and was not declared before is walked
pub record Keeps (t : List ℕ) (kind : ℕ) (h : Start) (s : Walk) (o l w : List ℕ) (r : Walk) (o' l' w' : List ℕ) : Type 0 where
  pub does : Heading t s kind h → DeclaredBefore kind s h.identifier w None → Walks t read_decl decl_walk s o l w r o' l' w'
