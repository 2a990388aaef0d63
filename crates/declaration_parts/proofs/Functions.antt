-- A function or a head: its own name looked up again, its parameters (and body) in a scope of their own, then its return type outside of it.
use mathlib.Core.Path.{◌≡◌, refl, sym, ap, subst, ◌∙◌}
use mathlib.Core.Bool.{Bool, true, false, ◌&&◌}
use mathlib.Core.List.{List, [], ◌∷◌, ◌++◌, append_assoc}
use mathlib.Core.Option.{Option, none, some}
use Prim.Native.Nat.{ℕ, zero, suc, ◌+◌, ◌<◌}
use native.Mathlib.Omega.{arith}
use lib.Dec.{ltb, eqb}
use lib.ListN.{length, take}
use borrow.Author.Tests.{ltb-true, eq-eqb}
use Rattle.penne.specs.Reader.{listed}
use Rattle.penne.specs.Tree.{Spot, Ident, Maybe, Ty, Param, Body, Decl, function, function_head}
use Rattle.penne.specs.Read.{maybe, read_ty, read_body, read_param}
use Rattle.penne.specs.Write.{num_b, place_b, ident_b, list_b, param_b, maybe_b, body_b, ty_b, decl_b}
use Rattle.penne.specs.Find.{first, first_named, resolved}
use Rattle.penne.specs.State as S
use Rattle.penne.specs.Scopes.{Analyzer, with_stack, new_scope, in_new_scope, unless_duplicate, use_function, use_function_at}
use Rattle.penne.specs.Variables.{declared_as, in_turn, analyze_param, analyze_params_and_body, analyze_body, analyze_maybe_type, analyze_decl, function_of, function_head_of, with_main, is_main}
use Rattle.penne.proofs.IdsPass.{grown_params, grown_param, grown_function}
use Rattle.penne.proofs.Booleans.{both_true}
use Rattle.fields.specs.declared.field.Identifier.{Identifier}
use Rattle.answer.specs.Parts.{renumbered, resolved_to}
use Rattle.containers.specs.declared.containers.Declared.{Declared}
use Rattle.containers.specs.Functions.{function_at}
use Rattle.containers.proofs.Lists.{and_true}
use Rattle.label_references.specs.Marked.{marked_body, marked_decl}
use Rattle.walk.specs.declared.state.Walk.{Walk}
use Rattle.walk.specs.Walking.{Rest, Ground, Good, Is, onward, say, Walks, Opens, Closes, opening, closing, made_b}
use Rattle.walk.specs.Calls.{FunctionAt}
use Rattle.walk.proofs.Leading.{leads_call, leads_end, leads_at}
use Rattle.statement_parts.specs.Stating.{is_free, fits_body, leaving, body_walk}
use Rattle.statement_parts.proofs.Free.{free_same}
use Rattle.stages.specs.declared.heads.Start.{Start}
use Rattle.stages.specs.Heads.{rows_of}
use Rattle.declaration_parts.specs.Declaring.{clear, fit_function, fit_decl, predeclared_by, behind, decl_walk}
use Rattle.stages.specs.Heads.{own}
use Rattle.declaration_parts.specs.Heading.{counting, begun_function, NewFunction, Arm, function_parts, head_parts, Starts, MainFlag}
use Rattle.entries.specs.Entering.{Outside, Under, params_walk}
use Rattle.declaration_parts.proofs.Fitting.{same_ident_lem, clear_is}
use Rattle.declaration_parts.proofs.Arms.{good_decl}
use Rattle.declaration_parts.proofs.Constants.{own_bytes}
use Rattle.entries.proofs.Staying.{stays_param}
use Rattle.entries.proofs.Params.{leads_under}

-- ITS OWN NAME

-- the row was made of the identifier i
record Row (fs : List (Ident Spot)) (r : ℕ) (i : Ident Spot) : Type 0 where
  low : r < length fs
  is : resolved i (function_at fs r).id 1 ≡ function_at fs r

row_is : (fs : List (Ident Spot)) (r : ℕ) (i : Ident Spot) → fit_function fs r i ≡ true → Row fs r i
unfolding fit_function
row_is fs r i e = let z = and_true (ltb r (length fs)) _ e in record { low = ltb-true _ _ z.0; is = same_ident_lem _ _ z.1 }

-- the first of its name is found
found_first : (fs : List (Ident Spot)) (r n : ℕ) → r < length fs → first_named n (take r fs) ≡ none → (function_at fs r).name ≡ n → first_named n fs ≡ some (function_at fs r)
unfolding first_named first function_at
found_first [] r n l new e = absurd (omega arith)
found_first (x ∷ fs) zero n l new e = ap (λ (b : Bool). elim b as (λ _. Option (Ident Spot)) [ true ↦ some x | false ↦ first_named n fs ]) (eq-eqb x.name n e)
found_first (x ∷ fs) (suc r) n l new e = (elim (eqb x.name n) as (λ b. ◌≡◌ {A = Option (Ident Spot)} (elim b [ true ↦ some x | false ↦ first_named n (take r fs) ]) none → ◌≡◌ {A = Option (Ident Spot)} (elim b [ true ↦ some x | false ↦ first_named n fs ]) (some (function_at fs r))) [
  | true ↦ λ q. absurd (let z : ◌≡◌ {A = ℕ} 0 1 = cc in omega arith)
  | false ↦ λ q. found_first fs r n (omega arith) q e
]) new

found_own : (fs : List (Ident Spot)) (r : ℕ) (i : Ident Spot) → Row fs r i → first_named i.name (take r fs) ≡ none → first_named i.name fs ≡ some (function_at fs r)
unfolding resolved
found_own fs r i w new = found_first fs r i.name w.low new (sym (ap (λ (j : Ident Spot). j.name) w.is))

-- THE BODY

-- parameters stay in no constant's value
free_params : (ps : List (Param Spot)) (a : Analyzer Spot) → is_free (in_turn (analyze_param 5) ps a).1 ≡ is_free a
unfolding in_turn S.◌>>=◌ S.ret
free_params [] a = refl
free_params (x ∷ ps) a = free_params ps (analyze_param 5 x a).1 ∙ free_same {a = a} {b = (analyze_param 5 x a).1} (record { is = (stays_param 5 x a).whose })

free_inside : (ps : List (Param Spot)) (a : Analyzer Spot) → is_free (in_turn (analyze_param 5) ps (new_scope a)).1 ≡ is_free a
unfolding with_stack
free_inside ps a = free_params ps (new_scope a) ∙ free_same {a = a} {b = new_scope a} (record { is = refl })

-- what fits before the body, and then the body
and_last : (a c f b : Bool) → (a && (c && f)) && b ≡ a && (c && (f && b))
and_last true true f b = refl
and_last true false f b = refl
and_last false c f b = refl

-- THE PASS

-- the identifier as it was predeclared, and as it comes out
abbrev row_id : Ground → ℕ
row_id a = (function_at a.st.function_list a.rest.functions).id

module _ (f : ℕ) (p q : Spot) (i : Ident Spot) (ps : List (Param Spot)) (t : Maybe Spot (Ty Spot)) (a : Ground) (xs : List ℕ) (w : Row a.st.function_list a.rest.functions i) (new : first_named i.name (take a.rest.functions a.st.function_list) ≡ none) where
  -- analysed to r, with m left
  abbrev landed : Rest → Decl Spot × Analyzer Spot → Ground
  landed m r = record { out = a.out ++ decl_b r.0; st = r.1; rest = m }

  head_is : xs ≡ num_b 2 ++ (num_b f ++ ((place_b p ++ place_b q) ++ ident_b (resolved i (row_id a) 0)))
      → onward analyze_maybe_type (maybe_b ty_b) t (closing (begun_function i a) (params_walk ps (opening (say xs (begun_function i a))))) ≡ decl_walk (function_head f p q i ps t) a
  unfolding decl_walk begun_function counting behind rows_of fit_decl marked_decl predeclared_by declared_as unless_duplicate analyze_decl in_new_scope use_function use_function_at function_head_of decl_b S.◌>>=◌ S.ret resolved
  head_is bytes =
      let st = a.st in
      let m : Rest = (begun_function i a).rest in
      let id : ℕ = row_id a in
      let same : predeclared_by st a.rest.containers a.rest.functions (function_head f p q i ps t) ≡ function_head f p q (resolved i id 1) ps t =
      ap (λ (o : Option (Ident Spot)). declared_as (λ i'. function_head f p q i' ps t) (unless_duplicate 7 (resolved i id 1) o)) new in
      let inner = in_turn (analyze_param 5) ps (new_scope st) in
      let out : Analyzer Spot = with_stack inner.1 st.variable_stack in
      let typed = analyze_maybe_type t out in
      ap (λ (l : List ℕ). record { out = l; st = typed.1; rest = m }) (ap (λ (l : List ℕ). ((a.out ++ l) ++ list_b param_b inner.0) ++ maybe_b ty_b typed.0) bytes ∙ simp append_assoc)
      ∙ sym (ap (λ (o : Option (Ident Spot)). landed m (function_head_of f p q inner.0 t (use_function_at (resolved i id 1) o) out)) (found_own st.function_list a.rest.functions i w new))
      ∙ sym (ap (λ (d : Decl Spot). landed m (analyze_decl a.rest.names d st)) same)

  function_is : (b : Maybe Spot (Body Spot)) → xs ≡ num_b 1 ++ (num_b (with_main (is_main a.rest.names i.name) f) ++ ((place_b p ++ place_b q) ++ ident_b (resolved i (row_id a) 0)))
      → onward analyze_maybe_type (maybe_b ty_b) t (closing (begun_function i a) (body_walk b (params_walk ps (opening (say xs (begun_function i a)))))) ≡ decl_walk (function f p q i ps b t) a
  unfolding decl_walk begun_function counting behind rows_of fit_decl marked_decl predeclared_by declared_as unless_duplicate analyze_decl analyze_params_and_body in_new_scope use_function use_function_at function_of body_walk leaving decl_b S.◌>>=◌ S.ret resolved
  function_is b bytes =
      let st = a.st in
      let all = a.rest.labels in
      let os = a.rest.words in
      let b' : Maybe Spot (Body Spot) = (marked_body all b os).0 in
      let id : ℕ = row_id a in
      let same : predeclared_by st a.rest.containers a.rest.functions (function f p q i ps b' t) ≡ function f p q (resolved i id 1) ps b' t =
      ap (λ (o : Option (Ident Spot)). declared_as (λ i'. function f p q i' ps b' t) (unless_duplicate 7 (resolved i id 1) o)) new in
      let params = in_turn (analyze_param 5) ps (new_scope st) in
      let body = analyze_body b' params.1 in
      let out : Analyzer Spot = with_stack body.1 st.variable_stack in
      let typed = analyze_maybe_type t out in
      let whole : Decl Spot × Analyzer Spot = (function (with_main (is_main a.rest.names i.name) f) p q (resolved i id 0) params.0 body.0 typed.0, typed.1) in
      let left : Bool → Rest = λ y. record { words = (marked_body all b os).1; labels = all; fit = y; containers = a.rest.containers + 0; functions = a.rest.functions + 1; names = a.rest.names; room = a.rest.room; slots = a.rest.slots; script = a.rest.script } in
      let fit₁ : Bool = (a.rest.fit && (clear st && fit_function st.function_list a.rest.functions i)) && fits_body all (is_free params.1) b os in
      let fit₂ : Bool = a.rest.fit && (clear st && (fit_function st.function_list a.rest.functions i && fits_body all (is_free st) b os)) in
      let fits : fit₁ ≡ fit₂ = ap (λ (y : Bool). (a.rest.fit && (clear st && fit_function st.function_list a.rest.functions i)) && fits_body all y b os) (free_inside ps st) ∙ and_last a.rest.fit (clear st) _ _ in
      ap (λ (l : List ℕ). record { out = l; st = typed.1; rest = left fit₁ }) (ap (λ (l : List ℕ). (((a.out ++ l) ++ list_b param_b params.0) ++ maybe_b body_b body.0) ++ maybe_b ty_b typed.0) bytes ∙ simp append_assoc)
      ∙ ap (λ (y : Bool). landed (left y) whole) fits
      ∙ sym (ap (λ (o : Option (Ident Spot)). landed (left fit₂) (function_of a.rest.names f p q params.0 body.0 t (use_function_at (resolved i id 1) o) out)) (found_own st.function_list a.rest.functions i w new))
      ∙ sym (ap (λ (d : Decl Spot). landed (left fit₂) (analyze_decl a.rest.names d st)) same)

-- THE CODE

pub head_arm : {t : List ℕ} {h : Start} (p q : Spot) {row : ℕ} {j : Declared} {i' : Identifier} {s s₁ s₂ s₃ s₄ r : Walk} {o o₁ o₂ o₃ l w w₂ w₃ w₄ : List ℕ} → renumbered t h.places h.from ≡ place_b p ++ place_b q → FunctionAt row w j → i' ≡ resolved_to h.identifier j.id 0
    → Starts t 2 h.flags h i' s o s₁ o₁ → Opens s₁ s₂ → Under Outside t (listed (read_param 63 false)) params_walk s₂ o₁ l w s₃ o₂ l w₂ → Closes s₃ s.tables.scope w₂ s₄ w₃
    → Walks t (maybe (read_ty 63 false)) (onward analyze_maybe_type (maybe_b ty_b)) s₄ o₂ l w₃ r o₃ l w₄ → Arm (NewFunction row (own h)) (begun_function (own h)) t (head_parts h.flags p q (own h)) h.parts s o l w r o₃ l w₄
unfolding head_parts begun_function counting fit_decl with_stack
head_arm {t} {h} p q {row} {j} {i'} {s} e fa rs st op pa cl ty = record {
  does = λ inp a new i.
      let fs = a.st.function_list in
      let b : Ground = begun_function (own h) a in
      let xs : List ℕ = num_b 2 ++ (num_b h.flags ++ (renumbered t h.places h.from ++ made_b i')) in
      let fits : Good b → (clear a.st ≡ true) × (fit_function fs a.rest.functions (own h) ≡ true) = λ z. and_true (clear a.st) _ (and_true a.rest.fit _ z.fit).1 in
      let rows : Good b → Row fs a.rest.functions (own h) = λ z. row_is fs a.rest.functions (own h) (fits z).1 in
      let high : Good b → row < s.script.functions = λ z. omega (arith, (rows z).low, (new z).stands, (i.when z).tables.functions.counted) in
      let b₁ : Ground = opening (say xs b) in
      let outside : Good b₁ → Outside b₁ = λ z. let gb : Good b = record { few = z.few; fit = z.fit } in record { is = (clear_is a.st (fits gb).0).free } in
      leads_at (op.cur ∙ st.cur) (leads_under _ pa inp outside (op.is (st.is i)) λ ps g i₃.
      let gr = grown_params (analyze_param 5) (grown_param 5) ps b₁.st in
      let i₄ = cl.is {b = b} refl i i₃ (record { constants = gr.stack.constants; more = gr.stack.more; locals = gr.stack.locals }) (λ z. record { few = omega (arith, z.few, gr.takes.lower); fit = z.fit }) in
      leads_at cl.cur (leads_call _ ty inp i₄ λ y g₂ i₅. leads_end (function_head h.flags p q (own h) ps y) refl i₅ λ good.
      let ga = good_decl (function_head h.flags p q (own h) ps y) a good in
      let gb : Good b = record { few = ga.0.few; fit = both_true a.rest.fit _ ga.0.fit ga.1 } in
      let n = new gb in
      let tells = (fa.tells (i.when gb).tables.long).tells fs s.script.functions (i.when gb).tables.functions (high gb) in
      let id : j.id ≡ row_id a = tells.id ∙ ap (λ (u : ℕ). (function_at fs u).id) n.stands in
      head_is h.flags p q (own h) ps y a xs (rows gb) (subst (λ (u : ℕ). first_named h.identifier.name (take u fs) ≡ none) n.stands n.new)
      (ap (λ (u : List ℕ). num_b 2 ++ (num_b h.flags ++ u)) (ap (λ (u : List ℕ). u ++ made_b i') e ∙ ap (λ (u : List ℕ). (place_b p ++ place_b q) ++ u) (ap made_b rs ∙ ap (λ (u : ℕ). made_b (resolved_to h.identifier u 0)) id ∙ own_bytes h 0 _)))));
}

-- the flags that are written
flag_is : {fl name : ℕ} {s : Walk} {o l w : List ℕ} {b : Ground} (flags : ℕ) → flags < 32 → name < s.script.names → MainFlag flags name s.script.main fl → Is s o l w b → Good b → fl ≡ with_main (is_main b.rest.names name) flags
flag_is {name = name} {s = s} {b = b} flags low less mf i g =
    let st = i.when g in
    mf.is low ∙ ap (λ (u : Bool). with_main u flags) (ap (λ (k : _). eqb name k.main) st.script ∙ sym (st.marks.main name (omega (arith, less, ap (λ (k : _). k.names) st.script))))

pub function_arm : {t : List ℕ} {h : Start} (p q : Spot) {row fl : ℕ} {j : Declared} {i' : Identifier} {s s₁ s₂ s₃ s₄ s₅ r : Walk} {o o₁ o₂ o₃ o₄ l l₂ w w₂ w₃ w₄ w₅ : List ℕ} → h.flags < 32 → h.identifier.name < s.script.names → renumbered t h.places h.from ≡ place_b p ++ place_b q
    → FunctionAt row w j → MainFlag h.flags h.identifier.name s.script.main fl → i' ≡ resolved_to h.identifier j.id 0 → Starts t 1 fl h i' s o s₁ o₁ → Opens s₁ s₂ → Under Outside t (listed (read_param 63 false)) params_walk s₂ o₁ l w s₃ o₂ l w₂
    → Walks t (maybe (read_body 63)) body_walk s₃ o₂ l w₂ s₄ o₃ l₂ w₃ → Closes s₄ s.tables.scope w₃ s₅ w₄
    → Walks t (maybe (read_ty 63 false)) (onward analyze_maybe_type (maybe_b ty_b)) s₅ o₃ l₂ w₄ r o₄ l₂ w₅ → Arm (NewFunction row (own h)) (begun_function (own h)) t (function_parts h.flags p q (own h)) h.parts s o l w r o₄ l₂ w₅
unfolding function_parts begun_function counting fit_decl with_stack body_walk leaving analyze_params_and_body S.◌>>=◌ S.ret
function_arm {t} {h} p q {row} {fl} {j} {i'} {s} low less e fa mf rs st op pa bo cl ty = record {
  does = λ inp a new i.
      let fs = a.st.function_list in
      let b : Ground = begun_function (own h) a in
      let xs : List ℕ = num_b 1 ++ (num_b fl ++ (renumbered t h.places h.from ++ made_b i')) in
      let fits : Good b → (clear a.st ≡ true) × (fit_function fs a.rest.functions (own h) ≡ true) = λ z. and_true (clear a.st) _ (and_true a.rest.fit _ z.fit).1 in
      let rows : Good b → Row fs a.rest.functions (own h) = λ z. row_is fs a.rest.functions (own h) (fits z).1 in
      let high : Good b → row < s.script.functions = λ z. omega (arith, (rows z).low, (new z).stands, (i.when z).tables.functions.counted) in
      let b₁ : Ground = opening (say xs b) in
      let outside : Good b₁ → Outside b₁ = λ z. let gb : Good b = record { few = z.few; fit = z.fit } in record { is = (clear_is a.st (fits gb).0).free } in
      leads_at (op.cur ∙ st.cur) (leads_under _ pa inp outside (op.is (st.is i)) λ ps g i₃. leads_call _ bo inp i₃ λ x g₁ i₄.
      let gr = grown_function ps (marked_body a.rest.labels x a.rest.words).0 b₁.st in
      let i₅ = cl.is {b = b} refl i i₄ (record { constants = gr.stack.constants; more = gr.stack.more; locals = gr.stack.locals }) (λ z. record { few = omega (arith, z.few, gr.takes.lower); fit = (and_true b.rest.fit _ z.fit).0 }) in
      leads_at cl.cur (leads_call _ ty inp i₅ λ y g₂ i₆. leads_end (function h.flags p q (own h) ps x y) refl i₆ λ good.
      let ga = good_decl (function h.flags p q (own h) ps x y) a good in
      let gc = and_true (clear a.st) _ ga.1 in
      let gb : Good b = record { few = ga.0.few; fit = both_true a.rest.fit _ ga.0.fit (both_true (clear a.st) _ gc.0 (and_true (fit_function fs a.rest.functions (own h)) _ gc.1).0) } in
      let n = new gb in
      let tells = (fa.tells (i.when gb).tables.long).tells fs s.script.functions (i.when gb).tables.functions (high gb) in
      let id : j.id ≡ row_id a = tells.id ∙ ap (λ (u : ℕ). (function_at fs u).id) n.stands in
      function_is h.flags p q (own h) ps y a xs (rows gb) (subst (λ (u : ℕ). first_named h.identifier.name (take u fs) ≡ none) n.stands n.new) x
      (ap (λ (v : ℕ). num_b 1 ++ (num_b v ++ (renumbered t h.places h.from ++ made_b i'))) (flag_is h.flags low less mf i gb)
      ∙ ap (λ (u : List ℕ). num_b 1 ++ (num_b (with_main (is_main a.rest.names h.identifier.name) h.flags) ++ u)) (ap (λ (u : List ℕ). u ++ made_b i') e ∙ ap (λ (u : List ℕ). (place_b p ++ place_b q) ++ u) (ap made_b rs ∙ ap (λ (u : ℕ). made_b (resolved_to h.identifier u 0)) id ∙ own_bytes h 0 _)))));
}
