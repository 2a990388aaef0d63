-- Walks by computation, for the tables: the acts that some walk reaches without having run declaration n.
use Prim.Native.Nat.{ℕ, zero, suc, ◌+◌, ◌*◌}
use mathlib.Core.Bool.{true, false}
use mathlib.Core.List.{List, [], ◌∷◌, ◌++◌}
use mathlib.Core.Option.{Option, none, some}
use lib.ListN.{length, get_elem?}
use lib.Dec.{eqb}
use Rattle.penne.specs.Find.{is_in}
use Rattle.penne.specs.Tree.{Spot, Maybe, ok, err, Param, Body, Decl, constant, function, function_head, structure, import, bad_decl}
use Rattle.penne.specs.Walks.{Act, use_of, run, jump, target, fork, past, local, no_local, body_acts, names_at, function_names}

-- where the label l stands, in a text that begins at `at`
unfoldable pub places_of : ℕ → ℕ → List Act → List ℕ
places_of l at [] = []
places_of l at (use_of u t ∷ xs) = places_of l (at + 1) xs
places_of l at (run n ∷ xs) = places_of l (at + 1) xs
places_of l at (jump k ∷ xs) = places_of l (at + 1) xs
places_of l at (target k ∷ xs) = elim (eqb k l) [ true ↦ at ∷ places_of l (at + 1) xs | false ↦ places_of l (at + 1) xs ]
places_of l at (fork k ∷ xs) = places_of l (at + 1) xs
places_of l at (past k ∷ xs) = places_of l (at + 1) xs

-- where a walk may go on from the act at `at` without running n
unfoldable pub onward : List Act → (n at : ℕ) → Option Act → List ℕ
onward text n at none = []
onward text n at (some (use_of u t)) = (at + 1) ∷ []
onward text n at (some (run m)) = elim (eqb m n) [ true ↦ [] | false ↦ (at + 1) ∷ [] ]
onward text n at (some (jump l)) = (at + 1) ∷ places_of l 0 text
onward text n at (some (target l)) = (at + 1) ∷ []
onward text n at (some (fork k)) = (at + 1) ∷ (at + 1 + k) ∷ []
onward text n at (some (past k)) = (at + 1 + k) ∷ []

-- the places seen and all that can be reached from `todo`, in so many steps
unfoldable pub grow : (fuel : ℕ) → List Act → (n : ℕ) → (todo seen : List ℕ) → List ℕ
grow zero text n todo seen = seen
grow (suc k) text n [] seen = seen
grow (suc k) text n (at ∷ todo) seen = elim (is_in at seen) [
  | true ↦ grow k text n todo seen
  | false ↦ grow k text n (onward text n at (get_elem? text at) ++ todo) (at ∷ seen)
]

-- the record of the act at `at`, where it is a use that some walk reaches so
unfoldable pub skipped_at : List Act → ℕ → Act → List (ℕ × ℕ)
skipped_at text at (use_of u (local n d)) = elim (is_in at (grow (3 * length text + 3) text n (0 ∷ []) [])) [ true ↦ (u, d) ∷ [] | false ↦ [] ]
skipped_at text at (use_of u no_local) = []
skipped_at text at (run n) = []
skipped_at text at (jump l) = []
skipped_at text at (target l) = []
skipped_at text at (fork k) = []
skipped_at text at (past k) = []

-- the records of the acts from `at` on
unfoldable pub skipped_from : List Act → ℕ → List Act → List (ℕ × ℕ)
skipped_from text at [] = []
skipped_from text at (x ∷ xs) = skipped_at text at x ++ skipped_from text (at + 1) xs

-- those of a body that is no poison
unfoldable pub of_body : List (Decl Spot) → List (Param Spot) → Maybe Spot (Body Spot) → List (ℕ × ℕ)
of_body ds ps (ok b) = let text = body_acts b (names_at ds ps) in skipped_from text 0 text
of_body ds ps (err z) = []

-- those of a function, where no earlier function or head has its name
unfoldable pub of_decl : List (Decl Spot) → (earlier : List ℕ) → Decl Spot → List (ℕ × ℕ)
of_decl ds e (constant f p q i x t) = []
of_decl ds e (function f p q i ps b t) = elim (is_in i.name e) [ true ↦ [] | false ↦ of_body ds ps b ]
of_decl ds e (function_head f p q i ps t) = []
of_decl ds e (structure f p i ms t) = []
of_decl ds e (import b p) = []
of_decl ds e (bad_decl z) = []

-- those of the declarations in turn
unfoldable pub of_decls : List (Decl Spot) → (earlier : List ℕ) → List (Decl Spot) → List (ℕ × ℕ)
of_decls all e [] = []
of_decls all e (d ∷ ds) = of_decl all e d ++ of_decls all (e ++ function_names d) ds

-- the list by walks of declarations that went through the first pass: of every kept function, the premise left aside
unfoldable pub walked : List (Decl Spot) → List (ℕ × ℕ)
walked ds = of_decls ds [] ds
