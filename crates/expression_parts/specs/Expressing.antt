-- What the functions over expressions promise.
use Rattle.std.specs.Prelude.{ℕ, ◌≡◌, List, ◌++◌, Result, Ok, Err}
use Rattle.penne.specs.Tree.{Spot, Carried, Kind, one, list_of, Node, Expr, signed, bits}
use Rattle.penne.specs.Reader.{Reader, ◌>>=◌, ret, bytes}
use Rattle.penne.specs.Read.{place, to_nodes}
use Rattle.penne.specs.Write.{num_b, place_b, bytes_b, count, node_b}
use Rattle.penne.specs.Scopes.{Pass, create_anonymous_resolution_id}
use Rattle.penne.specs.Variables.{analyze_node}
use Rattle.fields.specs.declared.field.Identifier.{Identifier}
use Rattle.answer.specs.declared.wrote.Wrote.{Wrote}
use Rattle.answer.specs.Out.{Put}
use Rattle.answer.specs.Parts.{renumbered}
use Rattle.walk.specs.declared.state.Walk.{Walk}
use Rattle.walk.specs.declared.fault.Fault.{Fault}
use Rattle.walk.specs.Walking.{moved_to, with_wrote, made_b, fault_b, Ground, onward, say}

-- a list of nodes, as it was read
unfoldable pub nodes : {k : Kind} → List (Node Spot (one k)) → Pass Spot (Node Spot (list_of k))
nodes xs = analyze_node (to_nodes xs)

-- a list's count, then its items
unfoldable pub nodes_b : {k : Kind} → Node Spot (list_of k) → List ℕ
nodes_b xs = num_b (count xs) ++ node_b xs

abbrev pub list_walk : {k : Kind} → List (Node Spot (one k)) → Ground → Ground
list_walk xs a = onward nodes nodes_b xs a

-- call_head: a call's kind, its name as looked up, and the numbers behind it; the walk is behind them
pub record Headed (s : Walk) (kind : ℕ) (i : Identifier) (t : List ℕ) (from to : ℕ) (o : List ℕ) (r : Walk) (o' : List ℕ) : Type 0 where
  pub wrote : Wrote
  pub put : Put s.wrote (num_b kind ++ (made_b i ++ renumbered t from to)) o wrote o'
  pub is : r ≡ moved_to (with_wrote s wrote) to

-- the kinds of integers: 3 and 4
pub data Integer : ℕ → (List ℕ → Spot → Carried Spot → Expr Spot) → Type 0 where
  is_signed : Integer 3 signed
  is_bits : Integer 4 bits

-- bytes and a place, as a string and an import have them
unfoldable pub text : Reader (List ℕ × Spot)
text = bytes >>= λ b. place >>= λ p. ret (b, p)

-- copy_text: a kind, then both as they came in
abbrev pub say_text : (kind : ℕ) → List ℕ × Spot → Ground → Ground
say_text kind x a = say (num_b kind ++ (bytes_b x.0 ++ place_b x.1)) a

-- array_id: whatever id an array came with, it gets the next one
abbrev pub array_number : ℕ → Ground → Ground
array_number n a = onward (λ (_ : ℕ). create_anonymous_resolution_id) num_b n a

-- past_operand: in the place of x stands a kind and the poison of its type
abbrev pub refusing : {A : Type 0} → (kind : ℕ) → Fault → A → Ground → Ground
refusing kind f x a = say (num_b kind ++ fault_b f) a

-- "Maybe identifier", as the name was looked up
abbrev pub used_b : Result Identifier Fault → List ℕ
used_b (Ok i) = num_b 0 ++ made_b i
used_b (Err f) = num_b 1 ++ fault_b f
