-- What a declaration's walk does: the declaration as it came is labelled by its words, takes what was predeclared of it from the tables, and is analysed.
use Rattle.std.specs.Prelude.{ℕ, ◌+◌, Bool, true, ◌&&◌, List, [], ◌∷◌, ◌++◌, ltb, eqb, length, take}
use Rattle.penne.specs.Tree.{Spot, Ident, Decl, constant, function, function_head, structure, import, bad_decl}
use Rattle.penne.specs.Find.{first_named, resolved}
use Rattle.penne.specs.Write.{decl_b}
use Rattle.penne.specs.Containers.{Container, constants, structures}
use Rattle.penne.specs.Scopes.{Analyzer, unless_duplicate}
use Rattle.penne.specs.Variables.{declared_as, analyze_decl}
use Rattle.containers.specs.Table.{at, id_at}
use Rattle.containers.specs.Functions.{function_at}
use Rattle.label_references.specs.Marked.{marked_decl}
use Rattle.walk.specs.Walking.{Rest, Ground}
use Rattle.statement_parts.specs.Stating.{is_free, fits_body}
use Rattle.stages.specs.Heads.{rows_of}

-- predeclare, seen afterwards: the constant or structure in row r, the function in row f; a duplicate is answered by its poison alone
unfoldable pub predeclared_by : Analyzer Spot → (r f : ℕ) → Decl Spot → Decl Spot
predeclared_by a r f (constant g p q i x t) = declared_as (λ i'. constant g p q i' x t) (unless_duplicate 3 (resolved i (id_at a.containment.containers r) 1) (first_named i.name (constants (take r a.containment.containers))))
predeclared_by a r f (function g p q i ps b t) = declared_as (λ i'. function g p q i' ps b t) (unless_duplicate 7 (resolved i (function_at a.function_list f).id 1) (first_named i.name (take f a.function_list)))
predeclared_by a r f (function_head g p q i ps t) = declared_as (λ i'. function_head g p q i' ps t) (unless_duplicate 7 (resolved i (function_at a.function_list f).id 1) (first_named i.name (take f a.function_list)))
predeclared_by a r f (structure g p i ms t) = declared_as (λ i'. structure g p i' ms t) (unless_duplicate 8 (resolved i (id_at a.containment.containers r) 1) (first_named i.name (structures (take r a.containment.containers))))
predeclared_by a r f (import b p) = import b p
predeclared_by a r f (bad_decl z) = bad_decl z

-- THE TABLES FIT THE DECLARATION

unfoldable pub same_ident : Ident Spot → Ident Spot → Bool
same_ident i j = eqb i.name j.name && (eqb i.place.number j.place.number && (eqb i.place.from j.place.from && (eqb i.id j.id && eqb i.auth j.auth)))

unfoldable pub fit_container : List (Container Spot) → (r : ℕ) → Ident Spot → Bool
fit_container cs r i = ltb r (length cs) && same_ident (resolved i (id_at cs r) 1) (at cs r).identifier

unfoldable pub fit_function : List (Ident Spot) → (f : ℕ) → Ident Spot → Bool
fit_function fs f i = ltb f (length fs) && same_ident (resolved i (function_at fs f).id 1) (function_at fs f)

-- a declaration stands in no constant's value, and in no scope of locals
unfoldable pub clear : Analyzer Spot → Bool
clear a = is_free a && eqb (length a.variable_stack.locals) 0

-- the row that is to come was made of this declaration, and its words are those of its statements
unfoldable pub fit_decl : Ground → Decl Spot → Bool
fit_decl a (constant g p q i x t) = clear a.st && fit_container a.st.containment.containers a.rest.containers i
fit_decl a (function g p q i ps b t) = clear a.st && (fit_function a.st.function_list a.rest.functions i && fits_body a.rest.labels (is_free a.st) b a.rest.words)
fit_decl a (function_head g p q i ps t) = clear a.st && fit_function a.st.function_list a.rest.functions i
fit_decl a (structure g p i ms t) = clear a.st && fit_container a.st.containment.containers a.rest.containers i
fit_decl a (import b p) = true
fit_decl a (bad_decl z) = true

-- WHAT IS DONE TO THE GROUND

-- behind the declaration d, with the words os left
unfoldable pub behind : Decl Spot → List ℕ → Bool → Rest → Rest
behind d os b m = record {
  words = os;
  labels = m.labels;
  fit = m.fit && b;
  containers = m.containers + (rows_of d).0;
  functions = m.functions + (rows_of d).1;
  names = m.names;
  room = m.room;
  slots = m.slots;
  script = m.script;
}

-- the declaration d, as it came
unfoldable pub decl_walk : Decl Spot → Ground → Ground
decl_walk d a =
    let (d₁, os) = marked_decl a.rest.labels d a.rest.words in
    let d₂ = predeclared_by a.st a.rest.containers a.rest.functions d₁ in
    record { out = a.out ++ decl_b (analyze_decl a.rest.names d₂ a.st).0; st = (analyze_decl a.rest.names d₂ a.st).1; rest = behind d os (fit_decl a d) a.rest }

-- the declarations in turn
unfoldable pub decls_walk : List (Decl Spot) → Ground → Ground
decls_walk [] a = a
decls_walk (d ∷ ds) a = decls_walk ds (decl_walk d a)
