-- A structure: its members in a scope of their own, then its type outside of it.
use mathlib.Core.Path.{◌≡◌, refl, sym, ap, subst, ◌∙◌}
use mathlib.Core.Bool.{true, false}
use mathlib.Core.List.{List, ◌++◌, append_assoc}
use mathlib.Core.Option.{Option, none}
use Prim.Native.Nat.{ℕ, ◌<◌}
use native.Mathlib.Omega.{arith}
use lib.ListN.{length, take}
use Rattle.penne.specs.Reader.{listed}
use Rattle.penne.specs.Tree.{Spot, Ident, Maybe, Ty, Param, Decl, structure}
use Rattle.penne.specs.Read.{maybe, read_ty, read_param}
use Rattle.penne.specs.Write.{num_b, place_b, ident_b, list_b, param_b, maybe_b, ty_b, decl_b}
use Rattle.penne.specs.Find.{first_named, resolved}
use Rattle.penne.specs.Containers.{id_of}
use Rattle.penne.specs.State as S
use Rattle.penne.specs.Scopes.{Analyzer, with_stack, new_scope, in_new_scope, unless_duplicate}
use Rattle.penne.specs.Variables.{declared_as, in_turn, analyze_member, analyze_maybe_type, analyze_decl}
use Rattle.penne.proofs.IdsPass.{grown_params, grown_member}
use Rattle.penne.proofs.Booleans.{both_true}
use Rattle.fields.specs.declared.field.Identifier.{Identifier}
use Rattle.answer.specs.Parts.{renumbered, resolved_to}
use Rattle.containers.specs.declared.containers.Declared.{Declared}
use Rattle.containers.specs.Table.{at, id_at}
use Rattle.containers.specs.Calls.{of_kind}
use Rattle.containers.proofs.Lists.{and_true}
use Rattle.label_references.specs.Marked.{marked_decl}
use Rattle.walk.specs.declared.state.Walk.{Walk}
use Rattle.walk.specs.Walking.{Rest, Ground, Good, onward, say, Walks, Opens, Closes, opening, closing, made_b}
use Rattle.walk.specs.Calls.{ContainerAt}
use Rattle.walk.proofs.Leading.{leads_call, leads_end, leads_at}
use Rattle.stages.specs.declared.heads.Start.{Start}
use Rattle.stages.specs.Heads.{rows_of}
use Rattle.declaration_parts.specs.Declaring.{clear, fit_container, fit_decl, predeclared_by, behind, decl_walk}
use Rattle.stages.specs.Heads.{own}
use Rattle.declaration_parts.specs.Heading.{counting, begun_container, NewContainer, Arm, structure_parts, Starts}
use Rattle.entries.specs.Entering.{InStructure, Under, members_walk}
use Rattle.declaration_parts.proofs.Fitting.{clear_is, Row, row_is}
use Rattle.declaration_parts.proofs.Arms.{good_decl}
use Rattle.declaration_parts.proofs.Constants.{own_bytes}
use Rattle.entries.proofs.Params.{leads_under}

-- THE PASS

structure_is : (f : ℕ) (p : Spot) (i c : Ident Spot) (ms : List (Param Spot)) (t : Maybe Spot (Ty Spot)) (a : Ground) (xs : List ℕ) → first_named i.name (of_kind true (take a.rest.containers a.st.containment.containers)) ≡ none
    → resolved i (id_at a.st.containment.containers a.rest.containers) 1 ≡ c → xs ≡ num_b 3 ++ (num_b f ++ (place_b p ++ ident_b c))
    → onward analyze_maybe_type (maybe_b ty_b) t (closing (begun_container i a) (members_walk c ms (opening (say xs (begun_container i a))))) ≡ decl_walk (structure f p i ms t) a
unfolding decl_walk begun_container counting behind rows_of fit_decl marked_decl predeclared_by declared_as unless_duplicate analyze_decl in_new_scope decl_b S.◌>>=◌ S.ret of_kind
structure_is f p i c ms t a xs new is bytes =
    let st = a.st in
    let m : Rest = (begun_container i a).rest in
    let by : Decl Spot → Ground = λ d. record { out = a.out ++ decl_b (analyze_decl a.rest.names d st).0; st = (analyze_decl a.rest.names d st).1; rest = m } in
    let same : predeclared_by st a.rest.containers a.rest.functions (structure f p i ms t) ≡ structure f p c ms t =
    ap (λ (o : Option (Ident Spot)). declared_as (λ i'. structure f p i' ms t) (unless_duplicate 8 (resolved i (id_at st.containment.containers a.rest.containers) 1) o)) new ∙ ap (λ (i' : Ident Spot). structure f p i' ms t) is in
    let inner = in_turn (analyze_member c) ms (new_scope st) in
    let end : Analyzer Spot = (analyze_decl a.rest.names (structure f p c ms t) st).1 in
    ap (λ (l : List ℕ). record { out = l; st = end; rest = m }) (ap (λ (l : List ℕ). ((a.out ++ l) ++ list_b param_b inner.0) ++ maybe_b ty_b (analyze_maybe_type t (with_stack inner.1 st.variable_stack)).0) bytes ∙ simp append_assoc) ∙ sym (ap by same)

-- THE CODE

pub structure_arm : {t : List ℕ} {h : Start} (p : Spot) {row : ℕ} {j : Declared} {i' : Identifier} {s s₁ s₂ s₃ s₄ r : Walk} {o o₁ o₂ o₃ l w w₂ w₃ w₄ : List ℕ} → renumbered t h.places h.from ≡ place_b p → ContainerAt row w j → i' ≡ resolved_to h.identifier j.id 1
    → Starts t 3 h.flags h i' s o s₁ o₁ → Opens s₁ s₂ → ((c : Ident Spot) (l : List ℕ) → Under (InStructure row c) t (listed (read_param 63 true)) (members_walk c) s₂ o₁ l w s₃ o₂ l w₂) → Closes s₃ s.tables.scope w₂ s₄ w₃
    → Walks t (maybe (read_ty 63 false)) (onward analyze_maybe_type (maybe_b ty_b)) s₄ o₂ l w₃ r o₃ l w₄ → Arm (NewContainer true row (own h)) (begun_container (own h)) t (structure_parts h.flags p (own h)) h.parts s o l w r o₃ l w₄
unfolding structure_parts begun_container counting fit_decl with_stack id_at id_of
structure_arm {t} {h} p {row} {j} {i'} {s} {l = l} e ca rs st op me cl ty = record {
  does = λ inp a new i.
      let cs = a.st.containment.containers in
      let b : Ground = begun_container (own h) a in
      let c : Ident Spot = (at cs row).identifier in
      let xs : List ℕ = num_b 3 ++ (num_b h.flags ++ (renumbered t h.places h.from ++ made_b i')) in
      let fits : Good b → (clear a.st ≡ true) × (fit_container cs a.rest.containers (own h) ≡ true) = λ z. and_true (clear a.st) _ (and_true a.rest.fit _ z.fit).1 in
      let rows : Good b → Row cs a.rest.containers (own h) = λ z. row_is cs a.rest.containers (own h) (fits z).1 in
      let low : Good b → row < length cs = λ z. omega (arith, (rows z).low, (new z).stands) in
      let high : Good b → row < s.script.containers = λ z. omega (arith, low z, (i.when z).tables.containers.counted) in
      let b₁ : Ground = opening (say xs b) in
      let inside : Good b₁ → InStructure row c b₁ = λ z. let gb : Good b = record { few = z.few; fit = z.fit } in record { outside = record { is = (clear_is a.st (fits gb).0).free }; low = low gb; is = refl } in
      leads_at (op.cur ∙ st.cur) (leads_under _ (me c l) inp inside (op.is (st.is i)) λ ms g i₃.
      let gr = grown_params (analyze_member c) (grown_member c) ms b₁.st in
      let i₄ = cl.is {b = b} refl i i₃ (record { constants = gr.stack.constants; more = gr.stack.more; locals = gr.stack.locals }) (λ z. record { few = omega (arith, z.few, gr.takes.lower); fit = z.fit }) in
      leads_at cl.cur (leads_call _ ty inp i₄ λ y g₂ i₅. leads_end (structure h.flags p (own h) ms y) refl i₅ λ good.
      let ga = good_decl (structure h.flags p (own h) ms y) a good in
      let gb : Good b = record { few = ga.0.few; fit = both_true a.rest.fit _ ga.0.fit ga.1 } in
      let n = new gb in
      let tells = (ca.tells (i.when gb).tables.long).tells a.st.containment s.script.containers (i.when gb).tables.containers (high gb) in
      let is : resolved (own h) (id_at cs a.rest.containers) 1 ≡ c = (rows gb).is ∙ ap (λ (u : ℕ). (at cs u).identifier) (sym n.stands) in
      let id : j.id ≡ id_at cs a.rest.containers = tells.id ∙ ap (λ (u : ℕ). id_at cs u) n.stands in
      structure_is h.flags p (own h) c ms y a xs (subst (λ (u : ℕ). first_named h.identifier.name (of_kind true (take u cs)) ≡ none) n.stands n.new) is
      (ap (λ (u : List ℕ). num_b 3 ++ (num_b h.flags ++ u)) (ap (λ (u : List ℕ). u ++ made_b i') e ∙ ap (λ (u : List ℕ). place_b p ++ u) (ap made_b rs ∙ ap (λ (u : ℕ). made_b (resolved_to h.identifier u 1)) id ∙ own_bytes h 1 _ ∙ ap ident_b is)))));
}
