-- The depths that the definition gives the declarations, by the rows of the containers.
use Prim.Native.Nat.{ℕ, zero, suc, ◌+◌}
use mathlib.Core.Path.{◌≡◌, refl, sym, ap, subst, ◌∙◌}
use mathlib.Core.Bool.{true, false}
use mathlib.Core.List.{List, [], ◌∷◌, map, append-nil}
use mathlib.Core.Option.{Option, none, some}
use native.Mathlib.Omega.{arith}
use lib.ListN.{length, length-append}
use Rattle.penne.specs.Tree.{Spot, Ident, Poison, Maybe, ok, err, Ty, Expr, Param, Body, Decl, constant, function, function_head, structure, import, bad_decl}
use Rattle.penne.specs.Find.{first_named, keep, resolved}
use Rattle.penne.specs.State as S
use Rattle.penne.specs.Labels.{Labels, labels_decl, labels_decls, label_references}
use Rattle.penne.specs.Containers.{Container, constants, structures, id_of, push_container, with_containers, resolves, settled, rounds, or_poisoned, determine_container_depths, obtain_container_depth}
use Rattle.penne.specs.Scopes.{Analyzer, authoritative, unless_duplicate, next_id, with_stack, with_containment, with_functions, declare_constant, declare_function, declare_struct, begin}
use Rattle.penne.specs.Variables.{declared_as, predeclare, analyze_decl, function_of, function_head_of, in_turn, analyze_all, depth_of}
use Rattle.penne.specs.Scoper.{analyze}
use Rattle.containers.specs.Calls.{of_kind}
use Rattle.stages.specs.Heads.{rows_of}
use Rattle.stages.specs.Stages.{unless_found, row_depth, depth_in, Rowed, of_constant, of_function, of_head, of_structure, of_import, of_poison, depths_in, AllRowed, all_none, all_more}
use Rattle.penne.proofs.IdsPass.{face}
use Rattle.declaration_parts.proofs.Wholly.{Face, Row, row, faces_push, Begun, begun_all, nth_whole}

-- THE FIRST PASS CHANGES NOTHING HERE

own_labelled : (d : Decl Spot) (l : Labels Spot) (u : Analyzer Spot) → (predeclare (labels_decl d l).0 u).1 ≡ (predeclare d u).1
unfolding predeclare labels_decl S.◌>>=◌ S.ret
own_labelled (constant g p q i x t) l u = refl
own_labelled (function g p q i ps b t) l u = refl
own_labelled (function_head g p q i ps t) l u = refl
own_labelled (structure g p i ms t) l u = refl
own_labelled (import b p) l u = refl
own_labelled (bad_decl z) l u = refl

owns_labelled : (ds : List (Decl Spot)) (l : Labels Spot) (u : Analyzer Spot) → (in_turn predeclare (labels_decls ds l).0 u).1 ≡ (in_turn predeclare ds u).1
unfolding labels_decls in_turn S.◌>>=◌ S.ret
owns_labelled [] l u = refl
owns_labelled (d ∷ ds) l u = owns_labelled ds (labels_decl d l).1 (predeclare (labels_decl d l).0 u).1 ∙ ap (λ (v : Analyzer Spot). (in_turn predeclare ds v).1) (own_labelled d l u)

-- predeclaration looks only at names and kinds
pub predeclared_same : (ds : List (Decl Spot)) → (in_turn predeclare (label_references ds) begin).1 ≡ (in_turn predeclare ds begin).1
unfolding label_references
predeclared_same ds = owns_labelled ds (record { label_stack = []; resolution_id = 1 }) begin

depth_labelled : (cs : List (Container Spot)) (r : ℕ) (d : Decl Spot) (l : Labels Spot) → depth_in cs r (labels_decl d l).0 ≡ depth_in cs r d
unfolding depth_in labels_decl
depth_labelled cs r (constant g p q i x t) l = refl
depth_labelled cs r (function g p q i ps b t) l = refl
depth_labelled cs r (function_head g p q i ps t) l = refl
depth_labelled cs r (structure g p i ms t) l = refl
depth_labelled cs r (import b p) l = refl
depth_labelled cs r (bad_decl z) l = refl

rows_labelled : (d : Decl Spot) (l : Labels Spot) → rows_of (labels_decl d l).0 ≡ rows_of d
unfolding rows_of labels_decl
rows_labelled (constant g p q i x t) l = refl
rows_labelled (function g p q i ps b t) l = refl
rows_labelled (function_head g p q i ps t) l = refl
rows_labelled (structure g p i ms t) l = refl
rows_labelled (import b p) l = refl
rows_labelled (bad_decl z) l = refl

depths_labelled : (cs : List (Container Spot)) (r : ℕ) (ds : List (Decl Spot)) (l : Labels Spot) → depths_in cs r (labels_decls ds l).0 ≡ depths_in cs r ds
unfolding depths_in labels_decls
depths_labelled cs r [] l = refl
depths_labelled cs r (d ∷ ds) l = λ k. depth_labelled cs r d l k ∷ (ap (λ (n : ℕ × ℕ). depths_in cs (r + n.0) (labels_decls ds (labels_decl d l).1).0) (rows_labelled d l) ∙ depths_labelled cs (r + (rows_of d).0) ds (labels_decl d l).1) k

-- WHAT DETERMINING THE DEPTHS LEAVES

face-settled : (d : ℕ) (ids : List ℕ) (cs : List (Container Spot)) → map face (map (settled d ids) cs) ≡ map face cs
unfolding face settled
face-settled d ids [] = refl
face-settled d ids (c ∷ cs) = ap (λ (l : List Face). face c ∷ l) (face-settled d ids cs)

face_poisoned : (cs : List (Container Spot)) → map face (map or_poisoned cs) ≡ map face cs
unfolding face or_poisoned
face_poisoned [] = refl
face_poisoned (c ∷ cs) = ap (λ (l : List Face). face c ∷ l) (face_poisoned cs)

face-rounds : (n d : ℕ) (cs : List (Container Spot)) → map face (rounds n d cs) ≡ map face cs
unfolding rounds
face-rounds zero d cs = refl
face-rounds (suc n) d cs = (elim (map id_of (keep resolves cs)) as (λ l. map face (elim l as (λ _. List (Container Spot)) [ [] ↦ cs | id ∷ ids ↦ rounds n (d + 1) (map (settled d (id ∷ ids)) cs) ]) ≡ map face cs) [
  | [] ↦ refl
  | id ∷ ids ↦ face-rounds n (d + 1) (map (settled d (id ∷ ids)) cs) ∙ face-settled d (id ∷ ids) cs
])

pub face_depths : (cs : List (Container Spot)) → map face (determine_container_depths cs) ≡ map face cs
unfolding determine_container_depths
face_depths cs = face_poisoned (rounds (length cs) 0 cs) ∙ face-rounds (length cs) 0 cs

-- ONE DECLARATION

function_depth : (cs : List (Container Spot)) (names : List (List ℕ)) (g : ℕ) (p q : Spot) (ps : List (Param Spot)) (b : Maybe Spot (Body Spot)) (t : Maybe Spot (Ty Spot)) (r : Maybe Spot (Ident Spot)) (a : Analyzer Spot) → depth_of cs (function_of names g p q ps b t r a).0 ≡ 0
unfolding function_of depth_of S.◌>>=◌ S.ret
function_depth cs names g p q ps b t (ok i) a = refl
function_depth cs names g p q ps b t (err z) a = refl

head_depth : (cs : List (Container Spot)) (g : ℕ) (p q : Spot) (ps : List (Param Spot)) (t : Maybe Spot (Ty Spot)) (r : Maybe Spot (Ident Spot)) (a : Analyzer Spot) → depth_of cs (function_head_of g p q ps t r a).0 ≡ 0
unfolding function_head_of depth_of S.◌>>=◌ S.ret
head_depth cs g p q ps t (ok i) a = refl
head_depth cs g p q ps t (err z) a = refl

module _ (cs : List (Container Spot)) (names : List (List ℕ)) (a : Analyzer Spot) where
  constant_depth : (g : ℕ) (p q : Spot) (j : Ident Spot) (x : Expr Spot) (t : Maybe Spot (Ty Spot)) (o : Option (Ident Spot)) → depth_of cs (analyze_decl names (declared_as (λ i'. constant g p q i' x t) (unless_duplicate 3 j o)) a).0 ≡ unless_found o (obtain_container_depth j cs)
  unfolding declared_as unless_duplicate analyze_decl depth_of unless_found S.◌>>=◌ S.ret
  constant_depth g p q j x t none = refl
  constant_depth g p q j x t (some k) = refl

  structure_depth : (g : ℕ) (p : Spot) (j : Ident Spot) (ms : List (Param Spot)) (t : Maybe Spot (Ty Spot)) (o : Option (Ident Spot)) → depth_of cs (analyze_decl names (declared_as (λ i'. structure g p i' ms t) (unless_duplicate 8 j o)) a).0 ≡ unless_found o (obtain_container_depth j cs)
  unfolding declared_as unless_duplicate analyze_decl depth_of unless_found S.◌>>=◌ S.ret
  structure_depth g p j ms t none = refl
  structure_depth g p j ms t (some k) = refl

  functions_depth : (g : ℕ) (p q : Spot) (ps : List (Param Spot)) (b : Maybe Spot (Body Spot)) (t : Maybe Spot (Ty Spot)) (r : Maybe Spot (Ident Spot)) → depth_of cs (analyze_decl names (declared_as (λ i'. function g p q i' ps b t) r) a).0 ≡ 0
  unfolding declared_as analyze_decl S.◌>>=◌ S.ret depth_of
  functions_depth g p q ps b t (ok i) = function_depth cs names g p q _ _ t _ _
  functions_depth g p q ps b t (err z) = refl

  heads_depth : (g : ℕ) (p q : Spot) (ps : List (Param Spot)) (t : Maybe Spot (Ty Spot)) (r : Maybe Spot (Ident Spot)) → depth_of cs (analyze_decl names (declared_as (λ i'. function_head g p q i' ps t) r) a).0 ≡ 0
  unfolding declared_as analyze_decl S.◌>>=◌ S.ret depth_of
  heads_depth g p q ps t (ok i) = head_depth cs g p q _ t _ _
  heads_depth g p q ps t (err z) = refl

  import_depth : (b : List ℕ) (p : Spot) → depth_of cs (analyze_decl names (import b p) a).0 ≡ 0
  unfolding analyze_decl S.ret depth_of
  import_depth b p = refl

  poison_depth : (z : Poison Spot) → depth_of cs (analyze_decl names (bad_decl z) a).0 ≡ 0
  unfolding analyze_decl S.ret depth_of
  poison_depth z = refl

-- the row of a container that is being declared
module _ {cs us : List (Container Spot)} {j : Ident Spot} (r : Row cs us j) where
  row_depth_constant : (name : ℕ) → unless_found (first_named name (constants us)) (obtain_container_depth j cs) ≡ row_depth cs false name (length us)
  unfolding row_depth of_kind
  row_depth_constant name = rw (r.constants_is, r.ident_is)

  row_depth_structure : (name : ℕ) → unless_found (first_named name (structures us)) (obtain_container_depth j cs) ≡ row_depth cs true name (length us)
  unfolding row_depth of_kind
  row_depth_structure name = rw (r.structures_is, r.ident_is)

one_depth : (cs : List (Container Spot)) (names : List (List ℕ)) (d : Decl Spot) (u a : Analyzer Spot) {fs : List (Ident Spot)} → Begun cs fs (predeclare d u).1 → depth_of cs (analyze_decl names (predeclare d u).0 a).0 ≡ depth_in cs (length u.containment.containers) d
unfolding predeclare depth_in S.◌>>=◌ S.ret declare_constant declare_function declare_struct next_id with_stack with_containment with_functions push_container with_containers
one_depth cs names (constant g p q i x t) u a b =
    let us = u.containment.containers in
    let c : Container Spot = record { identifier = authoritative u i; contained_ids = []; depth = 0; is_structure = false } in
    constant_depth cs names a g p q (authoritative u i) x t _ ∙ row_depth_constant (row us cs c b.others (b.containers ∙ faces_push us c b.others)) i.name
one_depth cs names (function g p q i ps c t) u a b = functions_depth cs names a g p q ps c t _
one_depth cs names (function_head g p q i ps t) u a b = heads_depth cs names a g p q ps t _
one_depth cs names (structure g p i ms t) u a b =
    let us = u.containment.containers in
    let c : Container Spot = record { identifier = authoritative u i; contained_ids = []; depth = 0; is_structure = true } in
    structure_depth cs names a g p (authoritative u i) ms t _ ∙ row_depth_structure (row us cs c b.others (b.containers ∙ faces_push us c b.others)) i.name
one_depth cs names (import c p) u a b = import_depth cs names a c p
one_depth cs names (bad_decl z) u a b = poison_depth cs names a z

own_rows : (d : Decl Spot) (u : Analyzer Spot) → length u.containment.containers + (rows_of d).0 ≡ length (predeclare d u).1.containment.containers
unfolding predeclare rows_of S.◌>>=◌ S.ret declare_constant declare_function declare_struct next_id with_stack with_containment with_functions push_container with_containers
own_rows (constant g p q i x t) u = sym (length-append u.containment.containers _)
own_rows (function g p q i ps b t) u = omega arith
own_rows (function_head g p q i ps t) u = omega arith
own_rows (structure g p i ms t) u = sym (length-append u.containment.containers _)
own_rows (import b p) u = omega arith
own_rows (bad_decl z) u = omega arith

one_rowed : (cs : List (Container Spot)) (d : Decl Spot) (u : Analyzer Spot) {fs : List (Ident Spot)} → Begun cs fs (predeclare d u).1 → Rowed cs (length u.containment.containers) d
unfolding predeclare S.◌>>=◌ S.ret declare_constant declare_function declare_struct next_id with_stack with_containment with_functions push_container with_containers authoritative resolved
one_rowed cs (constant g p q i x t) u b =
    let us = u.containment.containers in
    let c : Container Spot = record { identifier = authoritative u i; contained_ids = []; depth = 0; is_structure = false } in
    let e = b.containers ∙ faces_push us c b.others in
    let r = row us cs c b.others e in
    of_constant (record { low = r.low; kind = nth_whole us cs c b.others e; name_is = ap (λ (j : Ident Spot). j.name) r.ident_is })
one_rowed cs (function g p q i ps c t) u b = of_function
one_rowed cs (function_head g p q i ps t) u b = of_head
one_rowed cs (structure g p i ms t) u b =
    let us = u.containment.containers in
    let c : Container Spot = record { identifier = authoritative u i; contained_ids = []; depth = 0; is_structure = true } in
    let e = b.containers ∙ faces_push us c b.others in
    let r = row us cs c b.others e in
    of_structure (record { low = r.low; kind = nth_whole us cs c b.others e; name_is = ap (λ (j : Ident Spot). j.name) r.ident_is })
one_rowed cs (import c p) u b = of_import
one_rowed cs (bad_decl z) u b = of_poison

-- ALL DECLARATIONS

depths_are : (cs : List (Container Spot)) (names : List (List ℕ)) (ds : List (Decl Spot)) (u a : Analyzer Spot) {fs : List (Ident Spot)} → Begun cs fs (in_turn predeclare ds u).1 → map (depth_of cs) (in_turn (analyze_decl names) (in_turn predeclare ds u).0 a).0 ≡ depths_in cs (length u.containment.containers) ds
unfolding in_turn depths_in S.◌>>=◌ S.ret
depths_are cs names [] u a b = refl
depths_are cs names (d ∷ ds) u a b =
    let u₁ = (predeclare d u).1 in
    let a₁ = (analyze_decl names (predeclare d u).0 a).1 in
    let rest = depths_are cs names ds u₁ a₁ b ∙ ap (λ (n : ℕ). depths_in cs n ds) (sym (own_rows d u)) in
    λ k. one_depth cs names d u a (begun_all ds u₁ b) k ∷ rest k

rowed_all : (cs : List (Container Spot)) (ds : List (Decl Spot)) (u : Analyzer Spot) {fs : List (Ident Spot)} → Begun cs fs (in_turn predeclare ds u).1 → AllRowed cs (length u.containment.containers) ds
unfolding in_turn S.◌>>=◌ S.ret
rowed_all cs [] u b = all_none
rowed_all cs (d ∷ ds) u b = all_more (one_rowed cs d u (begun_all ds (predeclare d u).1 b)) (subst (λ (n : ℕ). AllRowed cs n ds) (sym (own_rows d u)) (rowed_all cs ds (predeclare d u).1 b))

-- a table that has the containers as they were predeclared
begun_whole : {cs : List (Container Spot)} (ds : List (Decl Spot)) → map face cs ≡ map face (in_turn predeclare ds begin).1.containment.containers → Begun cs (in_turn predeclare ds begin).1.function_list (in_turn predeclare ds begin).1
begun_whole ds e = record { others = []; containers = e ∙ sym (append-nil _); more = []; functions = sym (append-nil _) }

-- of the whole tree: the depths of the answer are those that the rows tell
pub depths_whole : (names : List (List ℕ)) (ds : List (Decl Spot)) (cs : List (Container Spot)) → map face cs ≡ map face (in_turn predeclare ds begin).1.containment.containers → map (depth_of cs) (analyze names ds).0 ≡ depths_in cs 0 ds
unfolding analyze analyze_all S.◌>>=◌ label_references begin
depths_whole names ds cs e =
    let l : Labels Spot = record { label_stack = []; resolution_id = 1 } in
    let e₁ = e ∙ ap (λ (u : Analyzer Spot). map face u.containment.containers) (sym (predeclared_same ds)) in
    depths_are cs names (label_references ds) begin _ (begun_whole (label_references ds) e₁) ∙ depths_labelled cs 0 ds l

pub rowed_whole : (ds : List (Decl Spot)) (cs : List (Container Spot)) → map face cs ≡ map face (in_turn predeclare ds begin).1.containment.containers → AllRowed cs 0 ds
unfolding begin
rowed_whole ds cs e = rowed_all cs ds begin (begun_whole ds e)
