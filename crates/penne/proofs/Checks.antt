-- What the tables hold against the Rust's answers besides the scoping call: the list by walks, the edges, the three readers.
use Prim.Native.Nat.{ℕ, ◌+◌}
use mathlib.Core.Bool.{Bool, true, false, ◌&&◌, ◌||◌, not}
use mathlib.Core.List.{List, [], ◌∷◌, map}
use lib.Dec.{eqb}
use Rattle.penne.specs.Labels.{label_references}
use Rattle.penne.specs.Pruning.{offsets}
use Rattle.penne.specs.Read.{decode, incoming, same_bytes}
use Rattle.penne.specs.Reader.{Got, got, refused}
use Rattle.penne.specs.Scoper.{analyze, words, Asked, get_container_depth, is_container, get_structure_name}
use Rattle.penne.specs.Tree.{Spot, Maybe, ok, err, Body, Decl, constant, function, function_head, structure, import, bad_decl, Tree}
use Rattle.penne.specs.Walks.{premise}
use Rattle.penne.proofs.Reach.{walked}

-- the id of a constant or structure
unfoldable pub container_id : Decl Spot → ℕ
container_id (constant f p q i x t) = i.id
container_id (function f p q i ps b t) = 0
container_id (function_head f p q i ps t) = 0
container_id (structure f p i ms t) = i.id
container_id (import b p) = 0
container_id (bad_decl z) = 0

-- the number of the declaration with this id, the first one being number k
unfoldable pub number_of : ℕ → ℕ → List (Decl Spot) → ℕ
number_of id k [] = k
number_of id k (d ∷ ds) = elim (eqb (container_id d) id) [ true ↦ k | false ↦ number_of id (k + 1) ds ]

-- demand 3's premise of a body, if there is one
unfoldable pub body_premise : Maybe Spot (Body Spot) → Bool
body_premise (ok b) = premise b.statements
body_premise (err z) = true

-- of a declaration's body
unfoldable pub decl_premise : Decl Spot → Bool
decl_premise (constant f p q i x t) = true
decl_premise (function f p q i ps b t) = body_premise b
decl_premise (function_head f p q i ps t) = true
decl_premise (structure f p i ms t) = true
decl_premise (import b p) = true
decl_premise (bad_decl z) = true

-- of all of them
unfoldable pub all_premise : List (Decl Spot) → Bool
all_premise [] = true
all_premise (d ∷ ds) = decl_premise d && all_premise ds

-- the list by walks, the edges in order by declaration numbers, and whether pruning's list is the one by walks, as it must be where every function meets the premise
unfoldable pub besides_tree : Got (Tree Spot) → List (ℕ × ℕ) × List (ℕ × ℕ) × Bool
besides_tree (got t c) =
    let ds = label_references t.decls in
    let walks = walked ds in
    let (ds', a) = analyze t.names t.decls in
    (walks, map (λ e. (number_of e.0 0 ds', number_of e.1 0 ds')) a.containment.edges, not (all_premise ds) || same_bytes (words (offsets a.prunings.skips)) (words walks))
besides_tree (refused n p) = ([], [], true)

-- the same of a tree's bytes
unfoldable pub besides : List ℕ → List (ℕ × ℕ) × List (ℕ × ℕ) × Bool
besides s = besides_tree (decode incoming s)

-- the three readers of one declaration
unfoldable pub readers : List ℕ → (k max : ℕ) → Asked ℕ × Asked Bool × Asked (ℕ × ℕ)
readers s k max = (get_container_depth s k max, is_container s k, get_structure_name s k)
