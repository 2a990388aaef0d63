-- From the ground that the second pass begins with, the walk over the declarations does what the definition's analysis of the program does.
use Prim.Native.Nat.{ℕ, suc, ◌+◌, ◌≤◌, ◌<◌}
use mathlib.Core.Path.{◌≡◌, refl, sym, ap, ◌∙◌}
use mathlib.Core.Bool.{Bool, true, false}
use mathlib.Core.List.{List, [], ◌∷◌, ◌++◌, map, append_assoc, append-nil, flat_map}
use native.Mathlib.Omega.{arith}
use lib.ListN.{length, get_or, take, drop, length-append, length-map}
use lib.Seq.{get_or-append_seam}
use borrow.Author.Tests.{lt-ltb, eq-eqb}
use Rattle.penne.specs.Tree.{Spot, Ident, Decl, constant, function, function_head, structure, import, bad_decl}
use Rattle.penne.specs.Find.{first_named, resolved}
use Rattle.penne.specs.Write.{decl_b}
use Rattle.penne.specs.State as S
use Rattle.penne.specs.Containers.{Container, constants, structures, id_of, push_container, with_containers}
use Rattle.penne.specs.Scopes.{Analyzer, authoritative, unless_duplicate, next_id, with_stack, with_containment, with_functions, declare_constant, declare_function, declare_struct, begin, push_constant}
use Rattle.penne.specs.Variables.{declared_as, predeclare, analyze_decl, in_turn, analyze_all}
use Rattle.penne.specs.Labels.{label_references}
use Rattle.penne.specs.Scoper.{analyze}
use Rattle.penne.proofs.IdsPass.{face, SameNames, same_faces, still_decl}
use Rattle.penne.proofs.IdsWhole.{ids_all}
use Rattle.penne.proofs.Booleans.{both_true}
use Rattle.tree.specs.declared.script.Layout.{Layout}
use Rattle.tree.specs.Script.{LaidOut}
use Rattle.walk.specs.declared.state.Script.{Script}
use Rattle.labels.specs.Outcomes.{outcomes_decls, labels_in_decls}
use Rattle.label_references.specs.Pass.{fresh}
use Rattle.label_references.proofs.Marking.{pass_is}
use Rattle.containers.specs.Table.{at, id_at, no_ident}
use Rattle.containers.specs.Functions.{function_at}
use Rattle.containers.proofs.Lists.{and_true}
use Rattle.label_references.specs.Marked.{marked_body, marked_decl, marked_decls}
use Rattle.statement_parts.specs.Stating.{is_free}
use Rattle.walk.specs.Walking.{Rest, Ground, Good}
use Rattle.stages.specs.Heads.{rows_of}
use Rattle.stages.proofs.Bytes.{read_bytes}
use Rattle.declaration_parts.specs.Declaring.{predeclared_by, same_ident, fit_container, fit_function, clear, fit_decl, behind, decl_walk, decls_walk}
use Rattle.declaration_parts.proofs.Freeing.{free_decl}
use Rattle.declaration_parts.proofs.Wording.{fits_words, fits_all, fits_all_lem}

-- ROWS OF THE TABLES

abbrev pub Face : Type 0
Face = Ident Spot × Bool

tail : {A : Type 0} {x y : A} {xs ys : List A} → ◌≡◌ {A = List A} (x ∷ xs) (y ∷ ys) → xs ≡ ys
tail {A} e = ap (λ (l : List A). drop 1 l) e

head : {A : Type 0} {x y : A} {xs ys : List A} → ◌≡◌ {A = List A} (x ∷ xs) (y ∷ ys) → x ≡ y
head {A} {x} e = ap (λ (l : List A). get_or l 0 x) e

-- the container behind the first ones
nth_face : (us cs : List (Container Spot)) (c : Container Spot) (more : List Face) → map face cs ≡ map face us ++ (face c ∷ more) → (at cs (length us)).identifier ≡ c.identifier
unfolding at face
nth_face [] [] c more e = absurd (let z : 0 ≡ suc (length more) = ap (λ (l : List Face). length l) e in omega arith)
nth_face [] (x ∷ cs) c more e = ap (λ (f : Face). f.0) (head e)
nth_face (v ∷ us) [] c more e = absurd (let z : 0 ≡ suc (length (map face us ++ (face c ∷ more))) = ap (λ (l : List Face). length l) e in omega arith)
nth_face (v ∷ us) (x ∷ cs) c more e = nth_face us cs c more (tail e)

pub nth_whole : (us cs : List (Container Spot)) (c : Container Spot) (more : List Face) → map face cs ≡ map face us ++ (face c ∷ more) → (at cs (length us)).is_structure ≡ c.is_structure
unfolding at face
nth_whole [] [] c more e = absurd (let z : 0 ≡ suc (length more) = ap (λ (l : List Face). length l) e in omega arith)
nth_whole [] (x ∷ cs) c more e = ap (λ (f : Face). f.1) (head e)
nth_whole (v ∷ us) [] c more e = absurd (let z : 0 ≡ suc (length (map face us ++ (face c ∷ more))) = ap (λ (l : List Face). length l) e in omega arith)
nth_whole (v ∷ us) (x ∷ cs) c more e = nth_whole us cs c more (tail e)

-- the first containers
take_faces : (us cs : List (Container Spot)) (more : List Face) → map face cs ≡ map face us ++ more → map face (take (length us) cs) ≡ map face us
take_faces [] cs more e = refl
take_faces (v ∷ us) [] more e = absurd (let z : 0 ≡ suc (length (map face us ++ more)) = ap (λ (l : List Face). length l) e in omega arith)
take_faces (v ∷ us) (x ∷ cs) more e = λ k. head e k ∷ take_faces us cs more (tail e) k

take_front : {A : Type 0} (us more : List A) → take (length us) (us ++ more) ≡ us
take_front [] more = refl
take_front {A} (u ∷ us) more = ap (λ (l : List A). u ∷ l) (take_front us more)

same_ident_lem : (i : Ident Spot) → same_ident i i ≡ true
unfolding same_ident
same_ident_lem i = simp (eq-eqb i.name i.name refl, eq-eqb i.place.number i.place.number refl, eq-eqb i.place.from i.place.from refl, eq-eqb i.id i.id refl, eq-eqb i.auth i.auth refl)

-- WHAT IS PREDECLARED IN THE END, SEEN FROM BEFORE

-- the containers cs are us, then c of the identifier j, then others
pub record Row (cs us : List (Container Spot)) (j : Ident Spot) : Type 0 where
  pub constants_is : constants (take (length us) cs) ≡ constants us
  pub structures_is : structures (take (length us) cs) ≡ structures us
  pub ident_is : (at cs (length us)).identifier ≡ j
  pub low : length us < length cs

pub row : (us cs : List (Container Spot)) (c : Container Spot) (more : List Face) → map face cs ≡ map face us ++ (face c ∷ more) → Row cs us c.identifier
row us cs c more e =
    let n : SameNames us (take (length us) cs) = same_faces (take_faces us cs (face c ∷ more) e) in
    let z : length (map face cs) ≡ length (map face us ++ (face c ∷ more)) = ap (λ (l : List Face). length l) e in
    record {
      constants_is = n.constants;
      structures_is = n.structures;
      ident_is = nth_face us cs c more e;
      low = omega (arith, z, length-map cs face, length-map us face, length-append (map face us) (face c ∷ more));
    }

-- so it is of a container that is being declared
module _ {cs us : List (Container Spot)} (u : Analyzer Spot) (i : Ident Spot) (r : Row cs us (authoritative u i)) where
  row_id : id_at cs (length us) ≡ u.resolution_id
  unfolding id_at id_of authoritative resolved
  row_id = ap (λ (j : Ident Spot). j.id) r.ident_is

  row_fits : fit_container cs (length us) i ≡ true
  unfolding fit_container authoritative resolved
  row_fits = rw (lt-ltb (length us) (length cs) r.low, row_id, r.ident_is) (same_ident_lem (resolved i u.resolution_id 1))

  row_constant : unless_duplicate 3 (resolved i (id_at cs (length us)) 1) (first_named i.name (constants (take (length us) cs))) ≡ unless_duplicate 3 (authoritative u i) (first_named i.name (constants us))
  unfolding authoritative resolved
  row_constant = rw (row_id, r.constants_is)

  row_structure : unless_duplicate 8 (resolved i (id_at cs (length us)) 1) (first_named i.name (structures (take (length us) cs))) ≡ unless_duplicate 8 (authoritative u i) (first_named i.name (structures us))
  unfolding authoritative resolved
  row_structure = rw (row_id, r.structures_is)

-- the functions fs are us, then the one that is being declared, then others
module _ {fs : List (Ident Spot)} (us more : List (Ident Spot)) (u : Analyzer Spot) (i : Ident Spot) (e : fs ≡ us ++ (authoritative u i ∷ more)) where
  function_is : function_at fs (length us) ≡ authoritative u i
  unfolding function_at
  function_is = ap (λ (l : List (Ident Spot)). get_or l (length us) no_ident) e ∙ get_or-append_seam us (authoritative u i) more no_ident

  function_take : take (length us) fs ≡ us
  function_take = ap (λ (l : List (Ident Spot)). take (length us) l) e ∙ take_front us (authoritative u i ∷ more)

  function_low : length us < length fs
  function_low = let z : length fs ≡ length (us ++ (authoritative u i ∷ more)) = ap (λ (l : List (Ident Spot)). length l) e in omega (arith, length-append us (authoritative u i ∷ more))

  function_fits : fit_function fs (length us) i ≡ true
  unfolding fit_function authoritative resolved
  function_fits = rw (lt-ltb (length us) (length fs) function_low, function_is) (same_ident_lem (resolved i u.resolution_id 1))

  function_by : unless_duplicate 7 (resolved i (function_at fs (length us)).id 1) (first_named i.name (take (length us) fs)) ≡ unless_duplicate 7 (authoritative u i) (first_named i.name us)
  unfolding authoritative resolved
  function_by = rw (function_is, function_take)

-- u is what is predeclared so far, cs and fs are all that will be
pub record Begun (cs : List (Container Spot)) (fs : List (Ident Spot)) (u : Analyzer Spot) : Type 0 where
  pub others : List Face
  pub containers : map face cs ≡ map face u.containment.containers ++ others
  pub more : List (Ident Spot)
  pub functions : fs ≡ u.function_list ++ more

pub faces_push : (us : List (Container Spot)) (c : Container Spot) (more : List Face) → map face (us ++ (c ∷ [])) ++ more ≡ map face us ++ (face c ∷ more)
faces_push [] c more = refl
faces_push (v ∷ us) c more = ap (λ (l : List Face). face v ∷ l) (faces_push us c more)

begun_before : {cs : List (Container Spot)} {fs : List (Ident Spot)} (d : Decl Spot) (u : Analyzer Spot) → Begun cs fs (predeclare d u).1 → Begun cs fs u
unfolding predeclare S.◌>>=◌ S.ret declare_constant declare_function declare_struct next_id with_stack with_containment with_functions push_container with_containers
begun_before (constant g p q i x t) u b = record { others = _; containers = b.containers ∙ faces_push u.containment.containers _ b.others; more = b.more; functions = b.functions }
begun_before (function g p q i ps c t) u b = record { others = b.others; containers = b.containers; more = _; functions = b.functions ∙ append_assoc u.function_list (authoritative u i ∷ []) b.more }
begun_before (function_head g p q i ps t) u b = record { others = b.others; containers = b.containers; more = _; functions = b.functions ∙ append_assoc u.function_list (authoritative u i ∷ []) b.more }
begun_before (structure g p i ms t) u b = record { others = _; containers = b.containers ∙ faces_push u.containment.containers _ b.others; more = b.more; functions = b.functions }
begun_before (import c p) u b = b
begun_before (bad_decl z) u b = b

pub begun_all : {cs : List (Container Spot)} {fs : List (Ident Spot)} (ds : List (Decl Spot)) (u : Analyzer Spot) → Begun cs fs (in_turn predeclare ds u).1 → Begun cs fs u
unfolding in_turn S.◌>>=◌ S.ret
begun_all [] u b = b
begun_all (d ∷ ds) u b = begun_before d u (begun_all ds (predeclare d u).1 b)

-- ONE DECLARATION

-- what the walk finds of d, labelled as d₁, is what was predeclared of it from u
record Stepped (d d₁ : Decl Spot) (u : Analyzer Spot) (a : Ground) : Type 0 where
  by : predeclared_by a.st a.rest.containers a.rest.functions d₁ ≡ (predeclare d₁ u).0
  fits : fit_decl a d ≡ true
  row_is : a.rest.containers + (rows_of d).0 ≡ length (predeclare d₁ u).1.containment.containers
  place_is : a.rest.functions + (rows_of d).1 ≡ length (predeclare d₁ u).1.function_list

stepped : (d : Decl Spot) (u : Analyzer Spot) (a : Ground) → Begun a.st.containment.containers a.st.function_list (predeclare (marked_decl a.rest.labels d a.rest.words).0 u).1
    → a.rest.containers ≡ length u.containment.containers → a.rest.functions ≡ length u.function_list → clear a.st ≡ true → fits_words a.rest.labels d a.rest.words ≡ true
    → Stepped d (marked_decl a.rest.labels d a.rest.words).0 u a
unfolding marked_decl predeclared_by fit_decl fits_words rows_of predeclare S.◌>>=◌ S.ret declare_constant declare_function declare_struct next_id with_stack with_containment with_functions push_container with_containers clear
stepped (constant g p q i x t) u a b er ef cl fw =
    let us = u.containment.containers in
    let c : Container Spot = record { identifier = authoritative u i; contained_ids = []; depth = 0; is_structure = false } in
    let r = row us a.st.containment.containers c b.others (b.containers ∙ faces_push us c b.others) in
    record {
      by = ap (λ (n : ℕ). predeclared_by a.st n a.rest.functions (constant g p q i x t)) er ∙ ap (declared_as (λ i'. constant g p q i' x t)) (row_constant u i r);
      fits = rw (cl, er) (row_fits u i r);
      row_is = omega (arith, er, length-append us (c ∷ []));
      place_is = omega (arith, ef);
    }
stepped (function g p q i ps c t) u a b er ef cl fw =
    let us = u.function_list in
    let free : is_free a.st ≡ true = (and_true _ _ cl).0 in
    let e = b.functions ∙ append_assoc us (authoritative u i ∷ []) b.more in
    record {
      by = ap (λ (n : ℕ). predeclared_by a.st a.rest.containers n (function g p q i ps (marked_body a.rest.labels c a.rest.words).0 t)) ef ∙ ap (declared_as (λ i'. function g p q i' ps (marked_body a.rest.labels c a.rest.words).0 t)) (function_by us b.more u i e);
      fits = rw (cl, ef, function_fits us b.more u i e, free) fw;
      row_is = omega (arith, er);
      place_is = omega (arith, ef, length-append us (authoritative u i ∷ []));
    }
stepped (function_head g p q i ps t) u a b er ef cl fw =
    let us = u.function_list in
    let e = b.functions ∙ append_assoc us (authoritative u i ∷ []) b.more in
    record {
      by = ap (λ (n : ℕ). predeclared_by a.st a.rest.containers n (function_head g p q i ps t)) ef ∙ ap (declared_as (λ i'. function_head g p q i' ps t)) (function_by us b.more u i e);
      fits = rw (cl, ef) (function_fits us b.more u i e);
      row_is = omega (arith, er);
      place_is = omega (arith, ef, length-append us (authoritative u i ∷ []));
    }
stepped (structure g p i ms t) u a b er ef cl fw =
    let us = u.containment.containers in
    let c : Container Spot = record { identifier = authoritative u i; contained_ids = []; depth = 0; is_structure = true } in
    let r = row us a.st.containment.containers c b.others (b.containers ∙ faces_push us c b.others) in
    record {
      by = ap (λ (n : ℕ). predeclared_by a.st n a.rest.functions (structure g p i ms t)) er ∙ ap (declared_as (λ i'. structure g p i' ms t)) (row_structure u i r);
      fits = rw (cl, er) (row_fits u i r);
      row_is = omega (arith, er, length-append us (c ∷ []));
      place_is = omega (arith, ef);
    }
stepped (import c p) u a b er ef cl fw = record { by = refl; fits = refl; row_is = omega (arith, er); place_is = omega (arith, ef) }
stepped (bad_decl z) u a b er ef cl fw = record { by = refl; fits = refl; row_is = omega (arith, er); place_is = omega (arith, ef) }

-- ALL DECLARATIONS

-- behind u the declarations ds are predeclared, and the walk stands before them
pub record Ready (ds : List (Decl Spot)) (u : Analyzer Spot) (a : Ground) : Type 0 where
  pub containers : map face a.st.containment.containers ≡ map face (in_turn predeclare ds u).1.containment.containers
  pub functions : a.st.function_list ≡ (in_turn predeclare ds u).1.function_list
  pub row_is : a.rest.containers ≡ length u.containment.containers
  pub place_is : a.rest.functions ≡ length u.function_list
  pub cleared : clear a.st ≡ true
  pub fit : a.rest.fit ≡ true

-- the walk over ds, labelled as ds₁, is their analysis
pub record Walked (ds ds₁ : List (Decl Spot)) (u : Analyzer Spot) (a : Ground) : Type 0 where
  pub out : (decls_walk ds a).out ≡ a.out ++ flat_map decl_b (in_turn (analyze_decl a.rest.names) (in_turn predeclare ds₁ u).0 a.st).0
  pub st : (decls_walk ds a).st ≡ (in_turn (analyze_decl a.rest.names) (in_turn predeclare ds₁ u).0 a.st).1
  pub fit : (decls_walk ds a).rest.fit ≡ true

still_clear : (names : List (List ℕ)) (d : Decl Spot) (a : Analyzer Spot) → clear a ≡ true → clear (analyze_decl names d a).1 ≡ true
unfolding clear
still_clear names d a c =
    let (f, l) = and_true _ _ c in
    rw (free_decl names d a f, (still_decl names d a).stack) l

pub walked : (ds : List (Decl Spot)) (u : Analyzer Spot) (a : Ground) → Ready (marked_decls a.rest.labels ds a.rest.words).0 u a → fits_all a.rest.labels ds a.rest.words ≡ true → Walked ds (marked_decls a.rest.labels ds a.rest.words).0 u a
unfolding marked_decls fits_all decls_walk decl_walk behind in_turn flat_map S.◌>>=◌ S.ret
walked [] u a r f = record { out = sym (append-nil a.out); st = refl; fit = r.fit }
walked (d ∷ ds) u a r f =
    let names = a.rest.names in
    let all = a.rest.labels in
    let d₁ = (marked_decl all d a.rest.words).0 in
    let os = (marked_decl all d a.rest.words).1 in
    let ds₁ = (marked_decls all ds os).0 in
    let u₁ = (predeclare d₁ u).1 in
    let (f₁, f₂) = and_true _ _ f in
    let b : Begun a.st.containment.containers a.st.function_list u₁ = begun_all ds₁ u₁ (record { others = []; containers = r.containers ∙ sym (append-nil _); more = []; functions = r.functions ∙ sym (append-nil _) }) in
    let o : Stepped d d₁ u a = stepped d u a b r.row_is r.place_is r.cleared f₁ in
    let a₁ : Ground = decl_walk d a in
    let d₂ = predeclared_by a.st a.rest.containers a.rest.functions d₁ in
    let z = (still_decl names d₂ a.st).takes in
    let w : Walked ds ds₁ u₁ a₁ = walked ds u₁ a₁ (record {
      containers = z.names.faces ∙ r.containers;
      functions = z.functions ∙ r.functions;
      row_is = o.row_is;
      place_is = o.place_is;
      cleared = still_clear names d₂ a.st r.cleared;
      fit = both_true _ _ r.fit o.fits;
    }) f₂ in
    record {
      out = w.out ∙ append_assoc a.out _ _ ∙ ap (λ (x : Decl Spot). a.out ++ (decl_b (analyze_decl names x a.st).0 ++ flat_map decl_b (in_turn (analyze_decl names) (in_turn predeclare ds₁ u₁).0 (analyze_decl names x a.st).1).0)) o.by;
      st = w.st ∙ ap (λ (x : Decl Spot). (in_turn (analyze_decl names) (in_turn predeclare ds₁ u₁).0 (analyze_decl names x a.st).1).1) o.by;
      fit = w.fit;
    }

-- what the walk leaves as it is
pub record Kept (a b : Ground) : Type 0 where
  pub room : b.rest.room ≡ a.rest.room
  pub slots : b.rest.slots ≡ a.rest.slots
  pub script : b.rest.script ≡ a.rest.script

pub walk_kept : (ds : List (Decl Spot)) (a : Ground) → Kept a (decls_walk ds a)
unfolding decls_walk decl_walk behind
walk_kept [] a = record { room = refl; slots = refl; script = refl }
walk_kept (d ∷ ds) a = let k = walk_kept ds (decl_walk d a) in record { room = k.room; slots = k.slots; script = k.script }

-- FROM THE BEGINNING

-- all that is predeclared
unfoldable pub predeclared : List (Decl Spot) → Analyzer Spot
predeclared ds = (in_turn predeclare (label_references ds) begin).1

-- the ground that the walk begins with
abbrev pub first_rest : {s : List ℕ} {l : Layout} → LaidOut s l → (room slots : ℕ) → Script → Rest
first_rest t room slots k = record { words = outcomes_decls t.decls (fresh 1); labels = labels_in_decls t.decls; fit = true; containers = 0; functions = 0; names = t.table; room = room; slots = slots; script = k }

abbrev pub first : {s : List ℕ} {l : Layout} → LaidOut s l → (out : List ℕ) → (room slots : ℕ) → Script → Ground
first t out room slots k = record { out = out; st = predeclared t.decls; rest = first_rest t room slots k }

-- predeclaration opens no scope and looks at no value
clear_own : (d : Decl Spot) (u : Analyzer Spot) → clear (predeclare d u).1 ≡ clear u
unfolding clear is_free predeclare S.◌>>=◌ S.ret declare_constant declare_function declare_struct next_id with_stack with_containment with_functions push_container with_containers push_constant
clear_own (constant g p q i x t) u = refl
clear_own (function g p q i ps b t) u = refl
clear_own (function_head g p q i ps t) u = refl
clear_own (structure g p i ms t) u = refl
clear_own (import b p) u = refl
clear_own (bad_decl z) u = refl

clear_owns : (ds : List (Decl Spot)) (u : Analyzer Spot) → clear (in_turn predeclare ds u).1 ≡ clear u
unfolding in_turn S.◌>>=◌ S.ret
clear_owns [] u = refl
clear_owns (d ∷ ds) u = clear_owns ds (predeclare d u).1 ∙ clear_own d u

clear-begin : clear begin ≡ true
unfolding clear is_free begin
clear-begin = refl

-- THE WHOLE TREE: what is written, and the state behind it
pub record Whole {s : List ℕ} {l : Layout} (t : LaidOut s l) (a b : Ground) : Type 0 where
  pub out : b.out ≡ a.out ++ flat_map decl_b (analyze t.table t.decls).0
  pub st : b.st ≡ (analyze t.table t.decls).1
  pub good : Good b

pub wholly : {s : List ℕ} {l : Layout} (t : LaidOut s l) → length s ≤ 65535 → (out : List ℕ) (room slots : ℕ) (k : Script) → Whole t (first t out room slots k) (decls_walk t.decls (first t out room slots k))
unfolding analyze analyze_all S.◌>>=◌ S.ret begin predeclared
wholly {s} {l} t short out room slots k =
    let ds = t.decls in
    let a = first t out room slots k in
    let ds₁ = (marked_decls (labels_in_decls ds) ds (outcomes_decls ds (fresh 1))).0 in
    let e : ds₁ ≡ label_references ds = pass_is t in
    let w : Walked ds ds₁ begin a = walked ds begin a (record {
      containers = ap (λ (xs : List (Decl Spot)). map face (in_turn predeclare xs begin).1.containment.containers) (sym e);
      functions = ap (λ (xs : List (Decl Spot)). (in_turn predeclare xs begin).1.function_list) (sym e);
      row_is = refl;
      place_is = refl;
      cleared = clear_owns (label_references ds) begin ∙ clear-begin;
      fit = refl;
    }) (fits_all_lem t) in
    let st : (decls_walk ds a).st ≡ (analyze t.table ds).1 = w.st ∙ ap (λ (xs : List (Decl Spot)). (in_turn (analyze_decl t.table) (in_turn predeclare xs begin).0 a.st).1) e in
    let n : (decls_walk ds a).st.resolution_id ≡ (analyze t.table ds).1.resolution_id = ap (λ (x : Analyzer Spot). x.resolution_id) st in
    record {
      out = w.out ∙ ap (λ (xs : List (Decl Spot)). out ++ flat_map decl_b (in_turn (analyze_decl t.table) (in_turn predeclare xs begin).0 a.st).0) e;
      st = st;
      good = record { few = omega (arith, n, ids_all t.table ds, read_bytes t); fit = w.fit };
    }
