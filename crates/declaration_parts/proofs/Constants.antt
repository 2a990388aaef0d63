-- A constant: its value and its type, with the constant in in_constexpr_of_constant in between.
use mathlib.Core.Path.{◌≡◌, refl, sym, ap, subst, ◌∙◌}
use mathlib.Core.Bool.{true, false}
use mathlib.Core.List.{List, ◌++◌, append_assoc}
use mathlib.Core.Option.{Option, none, some}
use Prim.Native.Nat.{ℕ, ◌<◌}
use native.Mathlib.Omega.{arith}
use lib.ListN.{length, take}
use Rattle.std.specs.Prelude.{Some, None}
use Rattle.penne.specs.Tree.{Spot, Ident, Maybe, Ty, expr, Expr, Decl, constant}
use Rattle.penne.specs.Read.{maybe, read, read_ty}
use Rattle.penne.specs.Write.{num_b, place_b, ident_b, node_b, maybe_b, ty_b, decl_b}
use Rattle.penne.specs.Find.{first_named, resolved}
use Rattle.penne.specs.Containers.{id_of}
use Rattle.penne.specs.State as S
use Rattle.penne.specs.Scopes.{Analyzer, with_containment, unless_duplicate}
use Rattle.penne.specs.Variables.{declared_as, analyze_node, in_constexpr_of, analyze_constexpr, analyze_decl}
use Rattle.penne.proofs.IdsPass.{still_node}
use Rattle.penne.proofs.Booleans.{both_true}
use Rattle.fields.specs.declared.field.Identifier.{Identifier}
use Rattle.answer.specs.Parts.{renumbered, identifier_b, resolved_to}
use Rattle.containers.specs.declared.containers.Declared.{Declared}
use Rattle.containers.specs.Table.{at, id_at}
use Rattle.containers.specs.Calls.{of_kind}
use Rattle.containers.proofs.Lists.{and_true}
use Rattle.label_references.specs.Marked.{marked_decl}
use Rattle.walk.specs.declared.state.Walk.{Walk}
use Rattle.walk.specs.Walking.{nobody, somebody, Rest, Ground, Good, onward, say, Walks, Constexpr, within, made_b}
use Rattle.walk.specs.Calls.{ContainerAt, no_member}
use Rattle.walk.proofs.Leading.{leads_bind, leads_call, leads_got, is_same, leads_at}
use Rattle.types.specs.Typing.{Contains, analyze_contained}
use Rattle.stages.specs.declared.heads.Start.{Start}
use Rattle.stages.specs.Heads.{rows_of}
use Rattle.declaration_parts.specs.Declaring.{clear, fit_container, fit_decl, predeclared_by, behind, decl_walk}
use Rattle.stages.specs.Heads.{own}
use Rattle.declaration_parts.specs.Heading.{counting, begun_container, NewContainer, Arm, constant_parts, Starts}
use Rattle.declaration_parts.proofs.Rowing.{rowed_node}
use Rattle.declaration_parts.proofs.Fitting.{clear_is}
use Rattle.declaration_parts.proofs.Fitting.{Row, row_is}
use Rattle.declaration_parts.proofs.Arms.{good_decl}

-- THE PASS

constant_is : (f : ℕ) (p q : Spot) (i c : Ident Spot) (x : Expr Spot) (t : Maybe Spot (Ty Spot)) (a : Ground) (xs : List ℕ) → first_named i.name (of_kind false (take a.rest.containers a.st.containment.containers)) ≡ none
    → resolved i (id_at a.st.containment.containers a.rest.containers) 1 ≡ c → xs ≡ num_b 0 ++ (num_b f ++ ((place_b p ++ place_b q) ++ ident_b c))
    → onward (analyze_contained c none) (maybe_b ty_b) t (within none (onward analyze_node node_b x (within (some c) (say xs (begun_container i a))))) ≡ decl_walk (constant f p q i x t) a
unfolding decl_walk begun_container counting behind rows_of fit_decl marked_decl predeclared_by declared_as unless_duplicate analyze_decl analyze_constexpr analyze_contained decl_b S.◌>>=◌ S.ret of_kind
constant_is f p q i c x t a xs new is bytes =
    let st = a.st in
    let m : Rest = (begun_container i a).rest in
    let by : Decl Spot → Ground = λ d. record { out = a.out ++ decl_b (analyze_decl a.rest.names d st).0; st = (analyze_decl a.rest.names d st).1; rest = m } in
    let same : predeclared_by st a.rest.containers a.rest.functions (constant f p q i x t) ≡ constant f p q c x t =
    ap (λ (o : Option (Ident Spot)). declared_as (λ i'. constant f p q i' x t) (unless_duplicate 3 (resolved i (id_at st.containment.containers a.rest.containers) 1) o)) new ∙ ap (λ (i' : Ident Spot). constant f p q i' x t) is in
    let value = analyze_node x (in_constexpr_of (some c) st) in
    let end : Analyzer Spot = (analyze_decl a.rest.names (constant f p q c x t) st).1 in
    ap (λ (l : List ℕ). record { out = l; st = end; rest = m }) (ap (λ (l : List ℕ). ((a.out ++ l) ++ node_b value.0) ++ maybe_b ty_b (analyze_contained c none t (in_constexpr_of none value.1)).0) bytes ∙ simp append_assoc) ∙ sym (ap by same)

-- THE CODE

pub own_bytes : (h : Start) (auth id : ℕ) → made_b (resolved_to h.identifier id auth) ≡ ident_b (resolved (own h) id auth)
unfolding ident_b place_b identifier_b resolved
own_bytes h auth id = refl

pub constant_arm : {t : List ℕ} {h : Start} (p q : Spot) {row : ℕ} {j : Declared} {i' : Identifier} {s s₁ s₂ s₃ s₄ r : Walk} {o o₁ o₂ o₃ l l₂ w w₂ w₃ : List ℕ} → renumbered t h.places h.from ≡ place_b p ++ place_b q → ContainerAt row w j → i' ≡ resolved_to h.identifier j.id 1
    → Starts t 0 h.flags h i' s o s₁ o₁ → Constexpr s₁ (Some row) s₂ → Walks t (read 63 expr) (onward analyze_node node_b) s₂ o₁ l w s₃ o₂ l₂ w₂ → Constexpr s₃ None s₄
    → Contains t (maybe (read_ty 63 true)) (record { row = row; member = None }) s₄ o₂ l₂ w₂ r o₃ l₂ w₃ → Arm (NewContainer false row (own h)) (begun_container (own h)) t (constant_parts h.flags p q (own h)) h.parts s o l w r o₃ l₂ w₃
unfolding constant_parts begun_container counting fit_decl in_constexpr_of with_containment id_at id_of
constant_arm {t} {h} p q {row} {j} {i'} {s} {s₁} e ca rs st c₁ ex c₂ ct = record {
  does = λ inp a new i.
      let cs = a.st.containment.containers in
      let b : Ground = begun_container (own h) a in
      let c : Ident Spot = (at cs row).identifier in
      let xs : List ℕ = num_b 0 ++ (num_b h.flags ++ (renumbered t h.places h.from ++ made_b i')) in
      let fits : Good b → (clear a.st ≡ true) × (fit_container cs a.rest.containers (own h) ≡ true) = λ z. and_true (clear a.st) _ (and_true a.rest.fit _ z.fit).1 in
      let rows : Good b → Row cs a.rest.containers (own h) = λ z. row_is cs a.rest.containers (own h) (fits z).1 in
      let low : Good b → row < length cs = λ z. omega (arith, (rows z).low, (new z).stands) in
      let high : Good b → row < s.script.containers = λ z. omega (arith, low z, (i.when z).tables.containers.counted) in
      let i₂ = c₁.is (st.is i) (some c) (λ z. somebody row refl (omega (arith, high (record { few = z.few; fit = z.fit }), ap (λ (u : _). u.containers) st.script)) refl) (λ z _ _. (clear_is a.st (fits (record { few = z.few; fit = z.fit })).0).bare) in
      leads_at (c₁.cur ∙ st.cur) (leads_call _ ex inp i₂ λ x g i₃.
      let a₃ : Analyzer Spot = in_constexpr_of (some c) a.st in
      let g₄ : Ground = within none (onward analyze_node node_b x (within (some c) (say xs b))) in
      let back : Good g₄ → Good b = λ z. record { few = omega (arith, z.few, (still_node x a₃).takes.lower); fit = z.fit } in
      let i₄ = c₂.is i₃ none (λ z. nobody refl) (λ z r y. absurd (let v : ◌≡◌ {A = ℕ} 0 1 = cc in omega arith)) in
      let k = ct.does inp c none (no_member refl) g₄ (λ z. omega (arith, high (back z), ap (λ (u : _). u.containers) (i₄.when z).script, ap (λ (u : _). u.containers) (i.when (back z)).script)) (λ z. (rowed_node x a₃).is.same row (low (back z))) i₄ in
      leads_at c₂.cur (leads_bind (maybe (read_ty 63 true)) _ λ y d g₂. let z = k.to y d g₂ in leads_got (constant h.flags p q (own h) x y) (record {
        cur = z.cur;
        is = is_same (λ good.
            let ga = good_decl (constant h.flags p q (own h) x y) a good in
            let gb : Good b = record { few = ga.0.few; fit = both_true a.rest.fit _ ga.0.fit ga.1 } in
            let n = new gb in
            let tells = (ca.tells (i.when gb).tables.long).tells a.st.containment s.script.containers (i.when gb).tables.containers (high gb) in
            let is : resolved (own h) (id_at cs a.rest.containers) 1 ≡ c = (rows gb).is ∙ ap (λ (u : ℕ). (at cs u).identifier) (sym n.stands) in
            let id : j.id ≡ id_at cs a.rest.containers = tells.id ∙ ap (λ (u : ℕ). id_at cs u) n.stands in
            constant_is h.flags p q (own h) c x y a xs (subst (λ (u : ℕ). first_named h.identifier.name (of_kind false (take u cs)) ≡ none) n.stands n.new) is
            (ap (λ (u : List ℕ). num_b 0 ++ (num_b h.flags ++ u)) (ap (λ (u : List ℕ). u ++ made_b i') e ∙ ap (λ (u : List ℕ). (place_b p ++ place_b q) ++ u) (ap made_b rs ∙ ap (λ (u : ℕ). made_b (resolved_to h.identifier u 1)) id ∙ own_bytes h 1 _ ∙ ap ident_b is)))) z.is;
      })));
}
