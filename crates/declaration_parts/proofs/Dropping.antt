-- A declaration whose name was declared before is answered by its poison alone.
use mathlib.Core.Path.{◌≡◌, refl, sym, ap, subst, ◌∙◌}
use mathlib.Core.Bool.{Bool, true, false}
use mathlib.Core.List.{List, [], ◌∷◌, ◌++◌}
use mathlib.Core.Option as M
use Prim.Native.Nat.{ℕ, ◌<◌}
use native.Mathlib.Omega.{arith}
use lib.Dec.{ltb}
use lib.ListN.{length, get_or, take}
use borrow.Author.Tests.{ltb-true}
use Rattle.std.specs.Prelude.{Option, Some, None}
use Rattle.penne.specs.Tree.{Spot, Ident, Poison, poison, Maybe, Ty, Expr, Param, Body, Decl, constant, function, function_head, structure, bad_decl}
use Rattle.penne.specs.Read.{read_decl, poison_fields}
use Rattle.penne.specs.Write.{num_b, poison_b, decl_b}
use Rattle.penne.specs.Find.{first_named, resolved}
use Rattle.penne.specs.State as S
use Rattle.penne.specs.Scopes.{Analyzer, unless_duplicate}
use Rattle.penne.specs.Variables.{declared_as, analyze_decl}
use Rattle.fields.specs.declared.field.Identifier.{Identifier}
use Rattle.fields.specs.Answers.{poison_names, poison_places}
use Rattle.containers.specs.Table.{id_at, kind_of}
use Rattle.containers.specs.Calls.{of_kind}
use Rattle.containers.specs.Functions.{function_at}
use Rattle.containers.proofs.Lists.{and_true}
use Rattle.label_references.specs.Marked.{marked_decl}
use Rattle.walk.specs.declared.state.Walk.{Walk}
use Rattle.walk.specs.declared.fault.Fault.{Fault}
use Rattle.walk.specs.Walking.{here, Rest, Ground, Good, Is, Leads, Walks, fault_b, duplicate_fault}
use Rattle.walk.proofs.Leading.{walks, leads_bind, leads_got, is_same}
use Rattle.walk.proofs.Faults.{duplicate_bytes}
use Rattle.stages.specs.declared.heads.Start.{Start}
use Rattle.declaration_parts.specs.Declaring.{clear, fit_container, fit_function, fit_decl, predeclared_by, behind, decl_walk}
use Rattle.stages.specs.Heads.{own}
use Rattle.stages.specs.Before.{Refers, declared, undeclared, ContainerBefore, FunctionBefore, DeclaredBefore}
use Rattle.declaration_parts.specs.Heading.{Heading, drop_walk, constant_parts, function_parts, head_parts, structure_parts}
use Rattle.declaration_parts.proofs.Arms.{leads_decl, good_decl}

-- WHAT WAS TOLD

told_yes : {k : ℕ} {i : Identifier} {b : Option Fault} {x : M.Option (Ident Spot)} {f : Fault} → Refers k i b x → b ≡ Some f → (j : Ident Spot) × (x ≡ M.some j) × (f ≡ duplicate_fault k i j.place.number)
told_yes {f = f} (declared {f = g} {j = j} q) e = let d : g ≡ f = cc in (j, refl, sym d ∙ q)
told_yes undeclared e = absurd (let z : ◌≡◌ {A = ℕ} 0 1 = cc in omega arith)

pub told_no : {k : ℕ} {i : Identifier} {b : Option Fault} {x : M.Option (Ident Spot)} → Refers k i b x → b ≡ None → x ≡ M.none
told_no (declared q) e = absurd (let z : ◌≡◌ {A = ℕ} 0 1 = cc in omega arith)
told_no undeclared e = refl

-- of the rows that the ground says are walked
module _ {s : Walk} {o l w : List ℕ} {a : Ground} (i : Is s o l w a) (good : Good a) {n : Identifier} {b : Option Fault} where
  pub refers_container : {pk : ℕ} (x : Ident Spot) (k : Bool) → ContainerBefore (kind_of k) pk s n w b → fit_container a.st.containment.containers a.rest.containers x ≡ true
      → Refers pk n b (first_named n.name (of_kind k (take a.rest.containers a.st.containment.containers)))
  unfolding fit_container
  refers_container {pk} x k f fit =
      let st = i.when good in
      let m = st.marks.containers in
      let low : a.rest.containers < length a.st.containment.containers = ltb-true _ _ (and_true (ltb a.rest.containers (length a.st.containment.containers)) _ fit).0 in
      subst (λ (r : ℕ). Refers pk n b (first_named n.name (of_kind k (take r a.st.containment.containers)))) m (f.tells st.tables k refl (omega arith))

  pub refers_function : (x : Ident Spot) → FunctionBefore s n w b → fit_function a.st.function_list a.rest.functions x ≡ true → Refers 7 n b (first_named n.name (take a.rest.functions a.st.function_list))
  unfolding fit_function
  refers_function x k fit =
      let st = i.when good in
      let m = st.marks.functions in
      let low : a.rest.functions < length a.st.function_list = ltb-true _ _ (and_true (ltb a.rest.functions (length a.st.function_list)) _ fit).0 in
      subst (λ (r : ℕ). Refers 7 n b (first_named n.name (take r a.st.function_list))) m (k.tells st.tables (omega arith))

-- A DUPLICATE, BY THE PASS

unfoldable duplicated : ℕ → Ident Spot → Ident Spot → Poison Spot
duplicated k i j = poison k (i.name ∷ []) (i.place ∷ j.place ∷ [])

duplicate_told : (k : ℕ) (h : Start) {f : Fault} (j : Ident Spot) → 1 ≡ get_or poison_names k 0 → 2 ≡ get_or poison_places k 0 → f ≡ duplicate_fault k h.identifier j.place.number → fault_b f ≡ poison_b (duplicated k (own h) j)
unfolding duplicated
duplicate_told k h j n p e = ap fault_b e ∙ duplicate_bytes k h.identifier h.from j.place.number j.place refl n p

kind_fields : (1 ≡ get_or poison_names 3 0) × (2 ≡ get_or poison_places 3 0) × (1 ≡ get_or poison_names 7 0) × (2 ≡ get_or poison_places 7 0) × (1 ≡ get_or poison_names 8 0) × (2 ≡ get_or poison_places 8 0)
unfolding poison_names poison_places poison_fields
kind_fields = (refl, refl, refl, refl, refl, refl)

pre_constant : (a : Analyzer Spot) (r n f : ℕ) (p q : Spot) (i : Ident Spot) (x : Expr Spot) (t : Maybe Spot (Ty Spot)) (j : Ident Spot) → first_named i.name (of_kind false (take r a.containment.containers)) ≡ M.some j → predeclared_by a r n (constant f p q i x t) ≡ bad_decl (duplicated 3 i j)
unfolding predeclared_by declared_as unless_duplicate resolved duplicated of_kind
pre_constant a r n f p q i x t j e = ap (λ (o : M.Option (Ident Spot)). declared_as (λ i'. constant f p q i' x t) (unless_duplicate 3 (resolved i (id_at a.containment.containers r) 1) o)) e

pre_structure : (a : Analyzer Spot) (r n f : ℕ) (p : Spot) (i : Ident Spot) (ms : List (Param Spot)) (t : Maybe Spot (Ty Spot)) (j : Ident Spot) → first_named i.name (of_kind true (take r a.containment.containers)) ≡ M.some j → predeclared_by a r n (structure f p i ms t) ≡ bad_decl (duplicated 8 i j)
unfolding predeclared_by declared_as unless_duplicate resolved duplicated of_kind
pre_structure a r n f p i ms t j e = ap (λ (o : M.Option (Ident Spot)). declared_as (λ i'. structure f p i' ms t) (unless_duplicate 8 (resolved i (id_at a.containment.containers r) 1) o)) e

pre_function : (a : Analyzer Spot) (r n f : ℕ) (p q : Spot) (i : Ident Spot) (ps : List (Param Spot)) (b : Maybe Spot (Body Spot)) (t : Maybe Spot (Ty Spot)) (j : Ident Spot) → first_named i.name (take n a.function_list) ≡ M.some j → predeclared_by a r n (function f p q i ps b t) ≡ bad_decl (duplicated 7 i j)
unfolding predeclared_by declared_as unless_duplicate resolved duplicated
pre_function a r n f p q i ps b t j e = ap (λ (o : M.Option (Ident Spot)). declared_as (λ i'. function f p q i' ps b t) (unless_duplicate 7 (resolved i (function_at a.function_list n).id 1) o)) e

pre_head : (a : Analyzer Spot) (r n f : ℕ) (p q : Spot) (i : Ident Spot) (ps : List (Param Spot)) (t : Maybe Spot (Ty Spot)) (j : Ident Spot) → first_named i.name (take n a.function_list) ≡ M.some j → predeclared_by a r n (function_head f p q i ps t) ≡ bad_decl (duplicated 7 i j)
unfolding predeclared_by declared_as unless_duplicate resolved duplicated
pre_head a r n f p q i ps t j e = ap (λ (o : M.Option (Ident Spot)). declared_as (λ i'. function_head f p q i' ps t) (unless_duplicate 7 (resolved i (function_at a.function_list n).id 1) o)) e

dropped_is : (f : Fault) (d : Decl Spot) (a : Ground) (z : Poison Spot) → predeclared_by a.st a.rest.containers a.rest.functions (marked_decl a.rest.labels d a.rest.words).0 ≡ bad_decl z → fault_b f ≡ poison_b z → drop_walk f d a ≡ decl_walk d a
unfolding drop_walk decl_walk analyze_decl decl_b S.ret
dropped_is f d a z e q =
    let m : Rest = behind d (marked_decl a.rest.labels d a.rest.words).1 (fit_decl a d) a.rest in
    let by : Decl Spot → Ground = λ x. record { out = a.out ++ decl_b (analyze_decl a.rest.names x a.st).0; st = (analyze_decl a.rest.names x a.st).1; rest = m } in
    ap (λ (l : List ℕ). record { out = a.out ++ (num_b 5 ++ l); st = a.st; rest = m }) q ∙ sym (ap by e)

-- THE CODE DOES SO

pub dropped : {t : List ℕ} {s : Walk} {kind : ℕ} {h : Start} → Heading t s kind h → {o l w : List ℕ} {b : Option Fault} → DeclaredBefore kind s h.identifier w b → {f : Fault} → b ≡ Some f → {r : Walk} {o' l' w' : List ℕ} → Walks t read_decl (drop_walk f) s o l w r o' l' w' → Walks t read_decl decl_walk s o l w r o' l' w'
unfolding constant_parts function_parts head_parts structure_parts fit_decl marked_decl kind_of
dropped {t} {s} {kind} {h} hd {o} {l} {w} {b} bf {f} e k = walks λ inp a i.
    let at = a.st in
    let same : Leads read_decl t (here s) (λ d c. Good (decl_walk d a) → drop_walk f d a ≡ decl_walk d a) = leads_decl hd
    (λ z p q _. leads_bind _ _ λ x _ _. leads_bind _ _ λ y _ _. leads_got (constant h.flags p q (own h) x y) λ good.
    let g = good_decl _ a good in
    let u = told_yes (refers_container i g.0 (own h) false (bf.constant z) (and_true (clear at) _ g.1).1) e in
    dropped_is f _ a _ (pre_constant at _ _ _ p q (own h) x y u.0 u.1) (duplicate_told 3 h u.0 kind_fields.0 kind_fields.1 u.2))
    (λ z p q _. leads_bind _ _ λ ps _ _. leads_bind _ _ λ x _ _. leads_bind _ _ λ y _ _. leads_got (function h.flags p q (own h) ps x y) λ good.
    let g = good_decl _ a good in
    let fit = (and_true (fit_function at.function_list a.rest.functions (own h)) _ (and_true (clear at) _ g.1).1).0 in
    let u = told_yes (refers_function i g.0 (own h) (bf.function (λ y. absurd (omega arith)) (λ y. absurd (omega arith))) fit) e in
    dropped_is f _ a _ (pre_function at _ _ _ p q (own h) ps _ y u.0 u.1) (duplicate_told 7 h u.0 kind_fields.2 kind_fields.3 u.2))
    (λ z p q _. leads_bind _ _ λ ps _ _. leads_bind _ _ λ y _ _. leads_got (function_head h.flags p q (own h) ps y) λ good.
    let g = good_decl _ a good in
    let u = told_yes (refers_function i g.0 (own h) (bf.function (λ y. absurd (omega arith)) (λ y. absurd (omega arith))) (and_true (clear at) _ g.1).1) e in
    dropped_is f _ a _ (pre_head at _ _ _ p q (own h) ps y u.0 u.1) (duplicate_told 7 h u.0 kind_fields.2 kind_fields.3 u.2))
    (λ z p _. leads_bind _ _ λ ms _ _. leads_bind _ _ λ y _ _. leads_got (structure h.flags p (own h) ms y) λ good.
    let g = good_decl _ a good in
    let u = told_yes (refers_container i g.0 (own h) true (bf.structure z) (and_true (clear at) _ g.1).1) e in
    dropped_is f _ a _ (pre_structure at _ _ _ p (own h) ms y u.0 u.1) (duplicate_told 8 h u.0 kind_fields.4 kind_fields.5 u.2)) in
    record { to = λ d c g. let z = (k.does inp a i).to d c g in record { cur = z.cur; is = is_same (same.to d c g) z.is } }
