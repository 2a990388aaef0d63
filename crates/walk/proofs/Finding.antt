-- found_container over a type: what it hands over, by the type's kinds.
use mathlib.Core.Path.{◌≡◌, refl, sym, ap, subst, ◌∙◌}
use mathlib.Core.Bool.{Bool, true, false, ◌&&◌, not}
use mathlib.Core.List.{List}
use mathlib.Core.Option.{Option, some}
use Prim.Native.Nat.{ℕ, zero, suc, ◌-◌, ◌≤◌, ◌<◌}
use native.Mathlib.Omega.{arith}
use lib.Dec.{eqb}
use lib.ListN.{get_or}
use borrow.Author.Tests.{eqb-true, eqb-false}
use Rattle.std.specs.Prelude.{Result}
use Rattle.fields.specs.declared.refusal.Refusal.{Refusal}
use Rattle.std.specs.Prelude as Rust
use Rattle.std.specs.Prelude.{Ok, Err, Some, None}
use Rattle.penne.specs.Reader.{Counts, Cur, got, Reader, such, num, below}
use Rattle.penne.specs.State as S
use Rattle.penne.specs.State.{◌>>?◌}
use Rattle.penne.specs.Tree.{Spot, Ident, Poison, Maybe, ok, err, Ty, plain, array, array_with_named_length, arraylike, struct, word, unresolved, nameless, pointer, view}
use Rattle.penne.specs.Read.{ident, read_ty, ty_of, TyKind, ty_kinds, k_plain, k_array, k_named_length, k_arraylike, k_struct, k_word, k_unresolved, k_nameless, k_pointer, k_view}
use Rattle.penne.specs.Find.{first_named}
use Rattle.penne.specs.Containers.{Containment, id_of, found_container_1, found_container}
use Rattle.penne.specs.Scopes.{Analyzer, with_containment}
use Rattle.fields.specs.declared.field.Identifier.{Identifier}
use Rattle.fields.specs.declared.counts.Counts as K
use Rattle.std.proofs.lemmas.List.{get_or_past}
use Rattle.fields.specs.Answers.{cursor, number_of, end_of, identified_of, Gives, Ends, Identifies}
use Rattle.fields.proofs.Back.{forget_got, forget_refused}
use Rattle.nodes.proofs.Types.{run}
use Rattle.fields.proofs.Numbers.{such_got as such_is}
use Rattle.containers.specs.Table.{at, id_at, kind_of}
use Rattle.containers.specs.Calls.{found_in, of_kind}
use Rattle.walk.specs.declared.state.Script.{Script}
use Rattle.walk.specs.declared.state.Tables as W
use Rattle.walk.specs.declared.fault.Fault.{Fault}
use Rattle.walk.specs.declared.edges.Holder.{Holder}
use Rattle.walk.specs.Walking.{Tables, Lower, Leads}
use Rattle.walk.specs.Calls.{FindsIn, Member, Edged, fine, bad, EdgeTo, Handed, Resolves, Settles, as_plain, in_array, in_named_length, in_arraylike, as_struct, as_word, as_unresolved, as_nameless, as_pointer, as_view, FoundNamed, FoundLength, FoundIn, Edge}
use Rattle.walk.proofs.Leading.{never, same_value, same_cur, bind_got, such_got, leads_bind, leads_got, leads_such, leads_deep, bind_is}
use Rattle.walk.proofs.Edging.{edge_fine, edge_bad}
use Rattle.walk.proofs.Settling.{SameNames, found_type_names, names_row, resolves_kept, settles_analysed}

-- TWO STEPS

-- the answer of a step, made into something larger
abbrev larger_by : {A B : Type 0} → (A → B) → Maybe Spot A → Maybe Spot B
larger_by g (ok x) = ok (g x)
larger_by g (err z) = err z

larger_edge : {A B : Type 0} (g : A → B) {x : A} {r : Edge} {y : Maybe Spot A} → Edged x r y → Edged (g x) r (larger_by g y)
larger_edge g fine = fine
larger_edge g (bad e) = bad e

larger_is : {A B : Type 0} (g : A → B) (m : S.State (Containment Spot) (Maybe Spot A)) (s : Containment Spot) → (larger_by g (m s).0, (m s).1) ≡ (m >>? λ y. S.ret (ok (g y))) s
unfolding ◌>>?◌ S.◌>>=◌ S.or_poison S.ret
larger_is g m s = go (m s).0 (m s).1
  where
    go : (r : Maybe Spot _) (u : Containment Spot) → (larger_by g r, u) ≡ S.or_poison (λ y. S.ret (ok (g y))) r u
    go (ok x) u = refl
    go (err z) u = refl

module _ {n : W.Tables} {k : Script} {e : K.Counts} {w w' : List ℕ} {a : Analyzer Spot} {r : Edge} where
  -- the whole hands over what its part does
  larger : {A B : Type 0} (g : A → B) {x : A} (m : S.State (Containment Spot) (Maybe Spot A)) → Handed n k e w w' a x r (m a.containment) → Handed n k e w w' a (g x) r ((m >>? λ y. S.ret (ok (g y))) a.containment)
  larger {B = B} g {x} m h = subst (λ (v : Maybe Spot B × Containment Spot). Handed n k e w w' a (g x) r v) (larger_is g m a.containment) (record { tables = h.tables; lower = h.lower; edged = larger_edge g h.edged })

lower_same : (w : List ℕ) → Lower w w
lower_same w = record { same = λ i h. refl }

lower_then : {w w₁ w₂ : List ℕ} → Lower w w₁ → Lower w₁ w₂ → Lower w w₂
lower_then p q = record { same = λ i h. q.same i h ∙ p.same i h }

-- nothing is handed over
none_handed : {n : W.Tables} {k : Script} {e : K.Counts} {w : List ℕ} {a : Analyzer Spot} {A : Type 0} (x : A) → Tables n k e w a → Handed n k e w w a x (Ok tt) (ok x, a.containment)
unfolding with_containment
none_handed {w = w} x t = record { tables = t; lower = lower_same w; edged = fine }

-- A NAME

read_name : (names : ℕ) {t : List ℕ} {from : ℕ} {one : Result (Identifier × ℕ) Refusal} {i : Identifier} {m : ℕ} → Identifies t names from one → one ≡ Ok (i, m) → (q : Counts) {d : Cur} {j : Ident Spot} → ident t (cursor from names q) ≡ got j d → i.name ≡ j.name
read_name names {from = from} g e q u = ap (λ (x : Ident Spot). x.name) (same_value (sym (g.is q ∙ ap (identified_of names from q) e) ∙ u))

module _ {t : List ℕ} (k : Script) {from kind : ℕ} {w : List ℕ} {one : Result (Identifier × ℕ) Refusal} (g : Identifies t k.names from one) where
  pub named_unread : {h : Holder} {x : Refusal} {r : Edge} {w' : List ℕ} → one ≡ Err x → FoundNamed t k h from kind w r w'
  named_unread e = record { does = λ b low mem c z structure ks q d i i' u res. never (sym (g.is q ∙ ap (identified_of k.names from q) e) ∙ u) }

  module _ (i : Identifier) {m : ℕ} (e : one ≡ Ok (i, m)) {r₁ : Rust.Option ℕ} (f : FindsIn k kind i.name w r₁) where
    found_is : {n : W.Tables} {c : K.Counts} {a : Analyzer Spot} → Tables n k c w a → (structure : Bool) → kind ≡ kind_of structure → (q : Counts) {d : Cur} {j : Ident Spot} → ident t (cursor from k.names q) ≡ got j d
        → found_in a.containment.containers r₁ ≡ first_named j.name (of_kind structure a.containment.containers)
    found_is {a = a} b structure ks q u = (f.finds b.long).finds a.containment b.containers structure ks ∙ ap (λ (x : ℕ). first_named x (of_kind structure a.containment.containers)) (read_name k.names g e q u)

    pub named_nothing : {h : Holder} {r : Edge} {w' : List ℕ} → r₁ ≡ None → FoundNamed t k h from kind w r w'
    unfolding found_in
    named_nothing z = record {
      does = λ {n} {e = e₁} {a} b low mem c y structure ks q d j j' u res. absurd (let p = ap (found_in a.containment.containers) (sym z) ∙ found_is b structure ks q u ∙ res.is in let o : ◌≡◌ {A = ℕ} 0 1 = cc in omega arith);
    }

    pub named_at : {h : Holder} {row : ℕ} {r : Edge} {w' : List ℕ} → r₁ ≡ Some row → EdgeTo k h row w r w' → FoundNamed t k h from kind w r w'
    unfolding found_in id_at id_of
    named_at {row = row} z to = record {
      does = λ {n} {e = e₁} {a} b low mem c y structure ks q d j j' u res.
          let p : some (at a.containment.containers row).identifier ≡ some res.to = ap (found_in a.containment.containers) (sym z) ∙ found_is b structure ks q u ∙ res.is in
          let same : (at a.containment.containers row).identifier ≡ res.to = cc in
          let v = to.does b low (f.below row z) mem c j' y (res.id ∙ sym (ap (λ (x : Ident Spot). x.id) same)) in
          record { tables = v.0; lower = v.1; edged = v.2 };
    }

-- t' reads all that t does
pub record Wider (s : List ℕ) (t t' : Reader (Ty Spot)) : Type 0 where
  is : (c : Cur) (x : Ty Spot) (d : Cur) → t s c ≡ got x d → t' s c ≡ got x d

-- AN ELEMENT AND ITS NAMED LENGTH

length_is : (c : Ident Spot) (o : Option (Ident Spot)) (x : Ty Spot) (i : Ident Spot) (s : Containment Spot) {y : Maybe Spot (Ty Spot)} → (found_container c o x s).0 ≡ y
    → found_container c o (array_with_named_length x i) s ≡ S.or_poison (λ x'. found_container_1 c o i >>? λ i'. S.ret (ok (array_with_named_length x' i'))) y (found_container c o x s).1
unfolding found_container ◌>>?◌ S.◌>>=◌
length_is c o x i s e = ap (λ (y : Maybe Spot (Ty Spot)). S.or_poison (λ x'. found_container_1 c o i >>? λ i'. S.ret (ok (array_with_named_length x' i'))) y (found_container c o x s).1) e

again_bad : {A B : Type 0} {x : A} {u : B} {r : Edge} {z : Poison Spot} → Edged x r (err z) → Edged u r (err z)
again_bad (bad e) = bad e

module _ {t : List ℕ} {m : Reader (Ty Spot)} {k : Script} {h : Holder} {from : ℕ} {w : List ℕ} {r₁ : Edge} {w₁ : List ℕ} (f : FoundIn t m k h from w r₁ w₁) where
  -- the element is refused
  pub length_bad : {v : Fault} → r₁ ≡ Err v → FoundLength t m k h from w (Err v) w₁
  unfolding S.or_poison S.ret
  length_bad e = subst (λ (u : Edge). FoundLength t m k h from w u w₁) e (record {
    does = λ {n} {e = e₁} {a} b low {o} mem c y q b₁ d x x' i i' u g st res.
        let v₁ = f.by b low mem c y q b₁ x x' u st in
        let (z, zs, _) = edge_bad v₁.edged e in
        subst (λ (v : Maybe Spot (Ty Spot) × Containment Spot). Handed n k e₁ w w₁ a (array_with_named_length x' i') r₁ v) (sym (length_is c o x' i' a.containment zs)) (record { tables = v₁.tables; lower = v₁.lower; edged = again_bad (subst (λ (v : Maybe Spot (Ty Spot)). Edged x' r₁ v) zs v₁.edged) });
  })

  -- the element can not be passed over
  pub length_unread : (s : Reader (Ty Spot)) → Wider t m s → {m₁ : Result ℕ Refusal} {x : Refusal} {r : Edge} {w' : List ℕ} → Ends s t k.names from m₁ → m₁ ≡ Err x → FoundLength t m k h from w r w'
  length_unread s own g e = record { does = λ b low mem c y q b₁ d x x' i i' u v st res. never (sym (forget_refused (s t (cursor from k.names q)) _ _ (g.is q ∙ ap (end_of k.names q) e)) ∙ own.is _ x b₁ u) }

  -- then its length
  pub length_fine : (s : Reader (Ty Spot)) → Wider t m s → {m₁ : Result ℕ Refusal} {n₁ : ℕ} {r : Edge} {w' : List ℕ} → r₁ ≡ Ok tt → Ends s t k.names from m₁ → m₁ ≡ Ok n₁
      → FoundNamed t k h n₁ 0 w₁ r w' → FoundLength t m k h from w r w'
  unfolding S.or_poison with_containment kind_of
  length_fine s own {n₁ = n₁} {r} {w'} e g z to = record {
    does = λ {n} {e = e₁} {a} b low {o} mem c y q b₁ d x x' i i' u v st res.
        let v₁ = f.by b low mem c y q b₁ x x' u st in
        let s₁ : Containment Spot = (found_container c o x' a.containment).1 in
        let kept : SameNames a.containment s₁ = found_type_names c o x' a.containment in
        let count = b.containers.counted in
        let end = forget_got (s t (cursor from k.names q)) _ (g.is q ∙ ap (end_of k.names q) z) in
        let here : b₁ ≡ cursor n₁ k.names q = same_cur (sym (own.is _ x b₁ u) ∙ end.1) in
        let v' : ident t (cursor n₁ k.names q) ≡ got i d = ap (ident t) (sym here) ∙ v in
        let v₂ = to.does v₁.tables low mem c (names_row kept h.row (omega arith) ∙ y) false refl q d i i' v' (resolves_kept kept res) in
        let whole : Handed n k e₁ w₁ w' (with_containment a s₁) (array_with_named_length x' i') r ((found_container_1 c o i' >>? λ j. S.ret (ok (array_with_named_length x' j))) s₁) = larger (array_with_named_length x') (found_container_1 c o i') v₂ in
        subst (λ (v₃ : Maybe Spot (Ty Spot) × Containment Spot). Handed n k e₁ w w' a (array_with_named_length x' i') r v₃) (sym (length_is c o x' i' a.containment (edge_fine v₁.edged e)))
        (record { tables = whole.tables; lower = lower_then v₁.lower whole.lower; edged = whole.edged });
  }

-- A CONSTANT'S OR MEMBER'S OWN TYPE IS A TYPE

wider_of : {s : List ℕ} {t t' : Reader (Ty Spot)} (u : Reader (Ty Spot)) (n : ℕ) (k : TyKind) → Wider s t t' → Wider s (ty_of t u n k) (ty_of t' u n k)
unfolding ty_of
wider_of u n k_plain w = record { is = λ c x d h. h }
wider_of {s} {t} {t'} u n k_array w = record { is = λ c x d h. let b = bind_got t _ s c h in bind_is t' _ s c (w.is c b.0 b.1 b.2) ∙ b.3 }
wider_of {s} {t} {t'} u n k_named_length w = record { is = λ c x d h. let b = bind_got t _ s c h in bind_is t' _ s c (w.is c b.0 b.1 b.2) ∙ b.3 }
wider_of {s} {t} {t'} u n k_arraylike w = record { is = λ c x d h. let b = bind_got t _ s c h in bind_is t' _ s c (w.is c b.0 b.1 b.2) ∙ b.3 }
wider_of u n k_struct w = record { is = λ c x d h. h }
wider_of u n k_word w = record { is = λ c x d h. h }
wider_of u n k_unresolved w = record { is = λ c x d h. h }
wider_of u n k_nameless w = record { is = λ c x d h. h }
wider_of u n k_pointer w = record { is = λ c x d h. h }
wider_of u n k_view w = record { is = λ c x d h. h }

pub wider_own : (s : List ℕ) (left : ℕ) (own : Bool) → Wider s (read_ty left own) (read_ty left false)
unfolding read_ty
wider_own s zero own = record { is = λ c x d h. h }
wider_own s (suc l) own = record {
  is = λ c x d h.
      let b = bind_got (such (below 26) (λ n _. not (own && eqb n 23)) 9) _ s c h in
      let g = such_got (below 26) (λ n _. not (own && eqb n 23)) 9 s c b.2 in
      bind_is (such (below 26) (λ n _. not (false && eqb n 23)) 9) _ s c (such_is (below 26) (λ n _. not (false && eqb n 23)) 9 s c g.0 refl) ∙ (wider_of _ b.0 _ (wider_own s l own)).is b.1 x d b.3;
}

-- A TYPE BY ITS KIND

-- what found_container leaves behind, whatever the type was resolved to
record Claim (n : W.Tables) (k : Script) (e : K.Counts) (w w' : List ℕ) (a : Analyzer Spot) (c : Ident Spot) (o : Option (Ident Spot)) (r : Edge) (x : Ty Spot) : Type 0 where
  by : (x' : Ty Spot) → Settles a.containment x x' → Handed n k e w w' a x' r (found_container c o x' a.containment)

-- the same of a name
record ClaimName (n : W.Tables) (k : Script) (e : K.Counts) (w w' : List ℕ) (a : Analyzer Spot) (c : Ident Spot) (o : Option (Ident Spot)) (r : Edge) (i : Ident Spot) : Type 0 where
  by : (i' : Ident Spot) → Resolves a.containment true i i' → Handed n k e w w' a i' r (found_container_1 c o i' a.containment)

-- whatever m reads at `from`
record Follows (t : List ℕ) (m : Reader (Ty Spot)) (k : Script) (h : Holder) (from : ℕ) (w : List ℕ) (r : Edge) (w' : List ℕ) : Type 0 where
  leads : {n : W.Tables} {e : K.Counts} {a : Analyzer Spot} → Tables n k e w a → h.row < k.containers → {o : Option (Ident Spot)} → Member h o → (c : Ident Spot) → (at a.containment.containers h.row).identifier ≡ c
      → (q : Counts) → Leads m t (cursor from k.names q) (λ x d. Claim n k e w w' a c o r x)

found_in_lem : {t : List ℕ} {m : Reader (Ty Spot)} {k : Script} {h : Holder} {from : ℕ} {w : List ℕ} {r : Edge} {w' : List ℕ} → Follows t m k h from w r w' → FoundIn t m k h from w r w'
found_in_lem f = record {
  by = λ b low mem c y q d x x' u st. ((f.leads b low mem c y q).to x d u).by x' st;
  does = λ {n} {e} {a} b low mem c y q d x x' a₀ u z. let v = ((f.leads b low mem c y q).to x d u).by x' (settles_analysed x x' a₀ a z b.layer) in (v.tables, v.lower, v.edged);
}

module _ {t : List ℕ} {k : Script} {h : Holder} {from : ℕ} {w : List ℕ} {m₁ : Result (ℕ × ℕ) Refusal} (g : Gives (below 26) t from m₁) where
  -- the kind can not be read, or the type is too deep
  pub type_unread : (left : ℕ) (own : Bool) {x : Refusal} {r : Edge} {w' : List ℕ} → m₁ ≡ Err x → FoundIn t (read_ty left own) k h from w r w'
  unfolding read_ty
  type_unread zero own e = found_in_lem (record { leads = λ b low mem c y q. leads_deep (below 26) })
  type_unread (suc l) own e = found_in_lem (record { leads = λ b low mem c y q. leads_such (below 26) _ 9 _ λ n d u z. never (sym (g.is k.names q ∙ ap (number_of k.names q) e) ∙ u) })

  pub type_deep : (left : ℕ) (own : Bool) {r : Edge} {w' : List ℕ} → left ≡ 0 → FoundIn t (read_ty left own) k h from w r w'
  unfolding read_ty
  type_deep zero own z = found_in_lem (record { leads = λ b low mem c y q. leads_deep (below 26) })
  type_deep (suc l) own z = absurd (omega arith)

  -- behind the kind
  type_in : (left : ℕ) (own : Bool) {v n : ℕ} {r : Edge} {w' : List ℕ} → (left ≡ 0 → ⊥) → m₁ ≡ Ok (v, n) → Follows t (ty_of (read_ty (left - 1) own) (read_ty (left - 1) false) v (get_or ty_kinds v k_plain)) k h n w r w' → FoundIn t (read_ty left own) k h from w r w'
  unfolding read_ty
  type_in zero own z e f = absurd (z refl)
  type_in (suc l) own {v} {n} {r} {w'} z e f =
      let j : suc l - 1 ≡ l = omega arith in
      let f' : Follows t (ty_of (read_ty l own) (read_ty l false) v (get_or ty_kinds v k_plain)) k h n w r w' = subst (λ (i : ℕ). Follows t (ty_of (read_ty i own) (read_ty i false) v (get_or ty_kinds v k_plain)) k h n w r w') j f in
      found_in_lem (record {
        leads = λ {n = n₁} {e = e₁} {a} b low {o} mem c y q. leads_such (below 26) _ 9 _ λ v' d u x.
            let same = sym (g.is k.names q ∙ ap (number_of k.names q) e) ∙ u in
            let here = f'.leads b low mem c y q in
            subst (λ (i : ℕ). Leads (ty_of (read_ty l own) (read_ty l false) i (get_or ty_kinds i k_plain)) t d (λ x d. Claim n₁ k e₁ w w' a c o r x)) (same_value same)
            (subst (λ (i : Cur). Leads (ty_of (read_ty l own) (read_ty l false) v (get_or ty_kinds v k_plain)) t i (λ x d. Claim n₁ k e₁ w w' a c o r x)) (same_cur same) here);
      })

-- CLAIMS OF THE PARTS

module _ {n : W.Tables} {k : Script} {e : K.Counts} {w w' : List ℕ} {a : Analyzer Spot} {c : Ident Spot} {o : Option (Ident Spot)} {r : Edge} where
  array_claim : {x : Ty Spot} (l : ℕ) → Claim n k e w w' a c o r x → Claim n k e w w' a c o r (array x l)
  unfolding found_container
  array_claim {x} l f = record { by = λ x' st. go st }
    where
      go : {x'' : Ty Spot} → Settles a.containment (array x l) x'' → Handed n k e w w' a x'' r (found_container c o x'' a.containment)
      go (in_array {x' = x'} h) = larger (λ y. array y l) (found_container c o x') (f.by x' h)

  arraylike_claim : {x : Ty Spot} (l : ℕ) → Claim n k e w w' a c o r x → Claim n k e w w' a c o r (arraylike l x)
  unfolding found_container
  arraylike_claim {x} l f = record { by = λ x' st. go st }
    where
      go : {x'' : Ty Spot} → Settles a.containment (arraylike l x) x'' → Handed n k e w w' a x'' r (found_container c o x'' a.containment)
      go (in_arraylike {x' = x'} h) = larger (arraylike l) (found_container c o x') (f.by x' h)

  length_claim : (x : Ty Spot) (i : Ident Spot) → ((x' : Ty Spot) (i' : Ident Spot) → Settles a.containment x x' → Resolves a.containment false i i' → Handed n k e w w' a (array_with_named_length x' i') r (found_container c o (array_with_named_length x' i') a.containment))
      → Claim n k e w w' a c o r (array_with_named_length x i)
  length_claim x i f = record { by = λ x' st. go st }
    where
      go : {x'' : Ty Spot} → Settles a.containment (array_with_named_length x i) x'' → Handed n k e w w' a x'' r (found_container c o x'' a.containment)
      go (in_named_length {x' = x'} {i' = i'} h j) = f x' i' h j

  struct_claim : {i : Ident Spot} → ClaimName n k e w w' a c o r i → Claim n k e w w' a c o r (struct i)
  unfolding found_container
  struct_claim {i} f = record { by = λ x' st. go st }
    where
      go : {x'' : Ty Spot} → Settles a.containment (struct i) x'' → Handed n k e w w' a x'' r (found_container c o x'' a.containment)
      go (as_struct {i' = i'} h) = larger struct (found_container_1 c o i') (f.by i' h)

  word_claim : {i : Ident Spot} (l : ℕ) → ClaimName n k e w w' a c o r i → Claim n k e w w' a c o r (word i l)
  unfolding found_container
  word_claim {i} l f = record { by = λ x' st. go st }
    where
      go : {x'' : Ty Spot} → Settles a.containment (word i l) x'' → Handed n k e w w' a x'' r (found_container c o x'' a.containment)
      go (as_word {i' = i'} h) = larger (λ j. word j l) (found_container_1 c o i') (f.by i' h)

  unresolved_claim : {i : Ident Spot} → ClaimName n k e w w' a c o r i → Claim n k e w w' a c o r (unresolved i)
  unfolding found_container
  unresolved_claim {i} f = record { by = λ x' st. go st }
    where
      go : {x'' : Ty Spot} → Settles a.containment (unresolved i) x'' → Handed n k e w w' a x'' r (found_container c o x'' a.containment)
      go (as_unresolved {i' = i'} h) = larger unresolved (found_container_1 c o i') (f.by i' h)

-- nothing is looked at
module _ {n : W.Tables} {k : Script} {e : K.Counts} {w : List ℕ} {a : Analyzer Spot} {c : Ident Spot} {o : Option (Ident Spot)} (b : Tables n k e w a) where
  plain_claim : (l : ℕ) → Claim n k e w w a c o (Ok tt) (plain l)
  unfolding found_container S.ret
  plain_claim l = record { by = λ x' st. go st }
    where
      go : {x'' : Ty Spot} → Settles a.containment (plain l) x'' → Handed n k e w w a x'' (Ok tt) (found_container c o x'' a.containment)
      go as_plain = none_handed (plain l) b

  nameless_claim : Claim n k e w w a c o (Ok tt) nameless
  unfolding found_container S.ret
  nameless_claim = record { by = λ x' st. go st }
    where
      go : {x'' : Ty Spot} → Settles a.containment nameless x'' → Handed n k e w w a x'' (Ok tt) (found_container c o x'' a.containment)
      go as_nameless = none_handed nameless b

  pointer_claim : (x : Ty Spot) → Claim n k e w w a c o (Ok tt) (pointer x)
  unfolding found_container S.ret
  pointer_claim x = record { by = λ x' st. go st }
    where
      go : {x'' : Ty Spot} → Settles a.containment (pointer x) x'' → Handed n k e w w a x'' (Ok tt) (found_container c o x'' a.containment)
      go (as_pointer {x' = x'}) = none_handed (pointer x') b

  view_claim : (x : Ty Spot) → Claim n k e w w a c o (Ok tt) (view x)
  unfolding found_container S.ret
  view_claim x = record { by = λ x' st. go st }
    where
      go : {x'' : Ty Spot} → Settles a.containment (view x) x'' → Handed n k e w w a x'' (Ok tt) (found_container c o x'' a.containment)
      go (as_view {x' = x'}) = none_handed (view x') b

-- THE KINDS

-- k is this one, or a later one
either : {X : Type 0} (k n : ℕ) → n ≤ k → (k ≡ n → X) → (n < k → X) → X
either {X} k n lo f g = (elim (eqb k n) as (λ b. eqb k n ≡ b → X) [
  | true ↦ λ z. f (eqb-true k n z)
  | false ↦ λ z. let y : k ≡ n → ⊥ = eqb-false k n z in g (omega arith)
]) refl

module _ {t : List ℕ} (u v : Reader (Ty Spot)) (j : ℕ) {k : Script} {h : Holder} {from : ℕ} {w : List ℕ} {r : Edge} {w' : List ℕ} where
  as_kind : (y : TyKind) → get_or ty_kinds j k_plain ≡ y → Follows t (ty_of u v j y) k h from w r w' → Follows t (ty_of u v j (get_or ty_kinds j k_plain)) k h from w r w'
  as_kind y e f = subst (λ (z : TyKind). Follows t (ty_of u v j z) k h from w r w') (sym e) f

  of_array : j ≡ 14 → FoundIn t u k h from w r w' → Follows t (ty_of u v j (get_or ty_kinds j k_plain)) k h from w r w'
  unfolding ty_kinds ty_of
  of_array e f = as_kind k_array (rw e) (record { leads = λ b low mem c y q. leads_bind u _ λ x d g. leads_bind num _ λ l d₁ g₁. leads_got (array x l) (array_claim l (record { by = λ x' st. f.by b low mem c y q d x x' g st })) })

  of_length : j ≡ 15 → FoundLength t u k h from w r w' → Follows t (ty_of u v j (get_or ty_kinds j k_plain)) k h from w r w'
  unfolding ty_kinds ty_of
  of_length e f = as_kind k_named_length (rw e) (record { leads = λ b low mem c y q. leads_bind u _ λ x d g. leads_bind ident _ λ i d₁ g₁. leads_got (array_with_named_length x i) (length_claim x i λ x' i' st res. f.does b low mem c y q d d₁ x x' i i' g g₁ st res) })

  of_arraylike : 16 ≤ j → j < 20 → FoundIn t u k h from w r w' → Follows t (ty_of u v j (get_or ty_kinds j k_plain)) k h from w r w'
  unfolding ty_kinds ty_of
  of_arraylike lo hi f = as_kind k_arraylike (run ty_kinds 16 4 k_arraylike k_plain refl j lo (omega arith)) (record { leads = λ b low mem c y q. leads_bind u _ λ x d g. leads_got (arraylike j x) (arraylike_claim j (record { by = λ x' st. f.by b low mem c y q d x x' g st })) })

  of_name : 20 ≤ j → j < 23 → FoundNamed t k h from 3 w r w' → Follows t (ty_of u v j (get_or ty_kinds j k_plain)) k h from w r w'
  unfolding ty_kinds ty_of kind_of
  of_name lo hi f = either j 20 lo
      (λ e. as_kind k_struct (rw e) (record { leads = λ b low mem c y q. leads_bind ident _ λ i d g. leads_got (struct i) (struct_claim (record { by = λ i' res. f.does b low mem c y true refl q d i i' g res })) }))
      (λ l. either j 21 l
      (λ e. as_kind k_word (rw e) (record { leads = λ b low mem c y q. leads_bind ident _ λ i d g. leads_bind num _ λ m d₁ g₁. leads_got (word i m) (word_claim m (record { by = λ i' res. f.does b low mem c y true refl q d i i' g res })) }))
      (λ l₂. let e : j ≡ 22 = omega arith in as_kind k_unresolved (rw e) (record { leads = λ b low mem c y q. leads_bind ident _ λ i d g. leads_got (unresolved i) (unresolved_claim (record { by = λ i' res. f.does b low mem c y true refl q d i i' g res })) })))

module _ {t : List ℕ} (u v : Reader (Ty Spot)) (j : ℕ) {k : Script} {h : Holder} {from : ℕ} {w : List ℕ} where
  of_plain : get_or ty_kinds j k_plain ≡ k_plain → Follows t (ty_of u v j (get_or ty_kinds j k_plain)) k h from w (Ok tt) w
  unfolding ty_of
  of_plain e = as_kind u v j k_plain e (record { leads = λ b low mem c y q. leads_got (plain j) (plain_claim b j) })

  -- 0 to 13
  of_low : j < 14 → Follows t (ty_of u v j (get_or ty_kinds j k_plain)) k h from w (Ok tt) w
  unfolding ty_kinds
  of_low hi = of_plain (run ty_kinds 0 14 k_plain k_plain refl j (omega arith) (omega arith))

  -- 23 and more
  of_high : 23 ≤ j → Follows t (ty_of u v j (get_or ty_kinds j k_plain)) k h from w (Ok tt) w
  unfolding ty_kinds ty_of
  of_high lo = either j 23 lo
      (λ e. as_kind u v j k_nameless (rw e) (record { leads = λ b low mem c y q. leads_got nameless (nameless_claim b) }))
      (λ l. either j 24 l
      (λ e. as_kind u v j k_pointer (rw e) (record { leads = λ b low mem c y q. leads_bind v _ λ x d g. leads_got (pointer x) (pointer_claim b x) }))
      (λ l₂. either j 25 l₂
      (λ e. as_kind u v j k_view (rw e) (record { leads = λ b low mem c y q. leads_bind v _ λ x d g. leads_got (view x) (view_claim b x) }))
      (λ l₃. of_plain (get_or_past ty_kinds j k_plain l₃))))

-- THE ARMS OF found_container

module _ {t : List ℕ} {k : Script} {h : Holder} {from : ℕ} {w : List ℕ} {m₁ : Result (ℕ × ℕ) Refusal} (g : Gives (below 26) t from m₁) (left : ℕ) (own : Bool) (z : left ≡ 0 → ⊥) {v n : ℕ} (e : m₁ ≡ Ok (v, n)) where
  module _ {r : Edge} {w' : List ℕ} where
    pub type_array : v ≡ 14 → FoundIn t (read_ty (left - 1) own) k h n w r w' → FoundIn t (read_ty left own) k h from w r w'
    type_array j f = type_in g left own z e (of_array _ _ _ j f)

    pub type_length : v ≡ 15 → FoundLength t (read_ty (left - 1) own) k h n w r w' → FoundIn t (read_ty left own) k h from w r w'
    type_length j f = type_in g left own z e (of_length _ _ _ j f)

    pub type_arraylike : 14 ≤ v → (v ≡ 14 → ⊥) → (v ≡ 15 → ⊥) → v < 20 → FoundIn t (read_ty (left - 1) own) k h n w r w' → FoundIn t (read_ty left own) k h from w r w'
    type_arraylike lo a b hi f = type_in g left own z e (of_arraylike _ _ _ (omega arith) hi f)

    pub type_name : 20 ≤ v → v < 23 → FoundNamed t k h n 3 w r w' → FoundIn t (read_ty left own) k h from w r w'
    type_name lo hi f = type_in g left own z e (of_name _ _ _ lo hi f)

  pub type_low : v < 14 → FoundIn t (read_ty left own) k h from w (Ok tt) w
  type_low hi = type_in g left own z e (of_low _ _ _ hi)

  pub type_high : 23 ≤ v → FoundIn t (read_ty left own) k h from w (Ok tt) w
  type_high lo = type_in g left own z e (of_high _ _ _ lo)
