-- What predeclaration leaves in the tables.
use Prim.Native.Nat.{ℕ, suc, ◌+◌, ◌-◌, ◌≤◌, ◌<◌, min}
use mathlib.Core.Path.{◌≡◌, refl, sym, ap, subst, ◌∙◌}
use mathlib.Core.Bool.{Bool, true, false, ◌&&◌}
use mathlib.Core.Logic.{◌⊎◌, inl, inr}
use mathlib.Core.List.{List, [], ◌∷◌, ◌++◌}
use native.Mathlib.Nat.{min-eq_left}
use native.Mathlib.Decide.{dec_lt}
use native.Mathlib.Omega.{arith}
use lib.Dec.{leb}
use lib.ListN.{length, get_or, drop, length-drop}
use lib.Seq.{get_or-take, length-take-le}
use borrow.Author.Tests.{leb-true}
use borrow.Rule.Slice.PartMut.{put_mid, same_len_mid}
use Rattle.std.specs.Prelude.{Result, Ok, Err}
use Rattle.fields.specs.declared.refusal.Refusal.{Refusal}
use Rattle.penne.specs.Reader.{Counts, Cur, Got, got, refused, ret, below, many, plus, fits, nothing, a_container, a_function}
use Rattle.penne.specs.Tree.{Spot, Ident, Decl}
use Rattle.penne.specs.Read.{read_decl, decl_counts, decl_kinds, k_bad_decl}
use Rattle.penne.specs.Find.{resolved}
use Rattle.penne.specs.State as S
use Rattle.penne.specs.Containers.{Container, Containment, id_of, push_container}
use Rattle.penne.specs.Scopes.{Analyzer, Scope, authoritative, next_id, with_stack, with_containment, with_functions, declare_constant, declare_function, declare_struct, begin}
use Rattle.penne.specs.Variables.{predeclare, in_turn}
use Rattle.fields.specs.declared.counts.Counts as C
use Rattle.fields.specs.declared.field.Identifier.{Identifier}
use Rattle.tree.specs.declared.script.Layout.{Layout}
use Rattle.fields.specs.Answers.{cursor, counts_of, ident_of, forget, passed_of, Gives, Passes}
use Rattle.tree.specs.Script.{LaidOut}
use Rattle.fields.proofs.Back.{many_case}
use Rattle.containers.specs.Table.{id_at, kind_of, Holds}
use Rattle.containers.specs.Calls.{Says, New, Pushes}
use Rattle.containers.specs.Functions.{HoldsFunctions, PushesFunction}
use Rattle.containers.proofs.Parts.{put_part, put_before}
use Rattle.containers.proofs.Lists.{and_true}
use Rattle.containers.proofs.Starting.{push_kept, push_last}
use Rattle.label_references.specs.Pass.{uncounted}
use Rattle.walk.specs.Walking.{containers_in, functions_in}
use Rattle.walk.proofs.Leading.{never, same_value, same_cur}
use Rattle.walk.proofs.Tables.{containers_here, containers_functions}
use Rattle.penne.specs.Ids.{ids_own, ids_decls}
use Rattle.stages.specs.declared.heads.Start.{Start}
use Rattle.stages.specs.declared.heads.Head.{Head}
use Rattle.stages.specs.declared.heads.Head.TheVariants as H
use Rattle.stages.specs.declared.predeclare.Predeclared.{Predeclared}
use Rattle.stages.specs.Heads.{rows_of}
use Rattle.stages.specs.Heads.{Heads}
use Rattle.stages.specs.Stages.{Above, declared_by, PushedContainer, PushedFunction, Pushed, Tabled, Predeclares, PredeclaresAll}
use Rattle.stages.proofs.Parting.{told_named, told_import, told_poison, told_unread}
use Rattle.stages.proofs.Calling.{Called, as_constant, as_function, as_head, as_structure, Nameless, an_import, a_poison, never_read, kind_low, kind_named, kind_import, kind_poison, kind_unread, kind_fits}
use Rattle.stages.proofs.Sizing.{passing}
use Rattle.penne.proofs.IdsWhole.{next_own}
use Rattle.stages.proofs.Bytes.{read_bytes}

-- PUSH

-- the words before a part that is put anew
front_same : (from n : ℕ) (w ys : List ℕ) → from + n ≤ length w → length ys ≡ n → 13312 ≤ from → (i : ℕ) → i < 13312 → get_or (put_mid from n w ys) i 0 ≡ get_or w i 0
front_same from n w ys h e f i l =
    sym (get_or-take 13312 (put_mid from n w ys) i 0 l) ∙ ap (λ (x : List ℕ). get_or x i 0) (put_before from n w ys h e 0 13312 (omega arith)) ∙ get_or-take 13312 w i 0 l

put_long : (from n : ℕ) (w ys : List ℕ) → from + n ≤ length w → length ys ≡ n → length (put_mid from n w ys) ≡ length w
put_long from n w ys h e = same_len_mid from n w ys (e ∙ sym (length-take-le n (drop from w) (omega (arith, length-drop from w))))

above_put : (from n : ℕ) (w ys : List ℕ) → from + n ≤ length w → length ys ≡ n → 13312 ≤ from → Above w (put_mid from n w ys)
above_put from n w ys h e f = record { long = put_long from n w ys h e; same = front_same from n w ys h e f }

module _ {kind : ℕ} {k : C.Counts} {i : Identifier} {id : ℕ} {w : List ℕ} where
  pub pushed_not : length w < 16384 → Pushed kind k i id w w
  pushed_not h = record { container = λ l s e. absurd (omega arith); function = λ l a b. absurd (omega arith) }

  container_in : {ys : List ℕ} → 16384 ≤ length w → Pushes k.containers kind (declared_by i id) (containers_in w) ys → PushedContainer kind k i id w (put_mid 13312 1668 w ys)
  container_in {ys} long p =
      let e : length ys ≡ 1668 = p.long ∙ length-take-le 1668 (drop 13312 w) (omega (arith, length-drop 13312 w)) in
      record {
        pushes = subst (λ (x : List ℕ). Pushes k.containers kind (declared_by i id) (containers_in w) x) (sym (containers_here w ys long e)) p;
        functions = containers_functions w ys long e;
        above = above_put 13312 1668 w ys (omega arith) e (omega arith);
      }

  pub pushed_container : {ys : List ℕ} → (kind ≡ 0) ⊎ (kind ≡ 3) → Pushes k.containers kind (declared_by i id) (containers_in w) ys → Pushed kind k i id w (put_mid 13312 1668 w ys)
  pushed_container e p = record { container = λ long s z. container_in long p; function = λ long a b. absurd (apart a b e) }
    where
      apart : (kind ≡ 0 → ⊥) → (kind ≡ 3 → ⊥) → (kind ≡ 0) ⊎ (kind ≡ 3) → ⊥
      apart a b (inl e) = a e
      apart a b (inr e) = b e

  pub pushed_function : {ys : List ℕ} → (kind ≡ 0 → ⊥) → (kind ≡ 3 → ⊥) → PushesFunction k.functions (declared_by i id) (functions_in w) ys → Pushed kind k i id w (put_mid 14980 768 w ys)
  unfolding kind_of
  pushed_function {ys} a b p = record {
    container = λ long s z. absurd (go s z);
    function = λ long a b.
        let e : length ys ≡ 768 = p.long ∙ length-take-le 768 (drop 14980 w) (omega (arith, length-drop 14980 w)) in
        record {
          pushes = subst (λ (x : List ℕ). PushesFunction k.functions (declared_by i id) (functions_in w) x) (sym (put_part 14980 768 w ys (omega arith) e)) p;
          containers = put_before 14980 768 w ys (omega arith) e 13312 1668 (omega arith);
          above = above_put 14980 768 w ys (omega arith) e (omega arith);
        };
  }
    where
      go : (s : Bool) → kind ≡ kind_of s → ⊥
      go true e = b e
      go false e = a e

-- ONE DECLARATION

above_then : {a b c : List ℕ} → Above a b → Above b c → Above a c
above_then p q = record { long = q.long ∙ p.long; same = λ i h. q.same i h ∙ p.same i h }

-- the code's identifier, declared with the next id
says : (i : Identifier) (from id : ℕ) (u : Analyzer Spot) → id ≡ u.resolution_id → Says (declared_by i id) (authoritative u (ident_of from i))
unfolding authoritative resolved
says i from id u e = record { name = refl; place = refl; id = e }

auth_id : (u : Analyzer Spot) (i : Ident Spot) → (authoritative u i).id ≡ u.resolution_id
unfolding authoritative resolved
auth_id u i = refl

-- a container more has the next id
given_push : (whole : Bool) (i : Ident Spot) (s : Containment Spot) (n : ℕ) → ((r : ℕ) → r < length s.containers → id_at s.containers r < n) → i.id ≡ n → (r : ℕ) → r < length s.containers + 1 → id_at (push_container whole i s).containers r < n + 1
unfolding id_at id_of
given_push whole i s n h e r l = go (dec_lt r (length s.containers))
  where
    go : Dec (r < length s.containers) → id_at (push_container whole i s).containers r < n + 1
    go (yes d) = let z : id_at (push_container whole i s).containers r ≡ id_at s.containers r = ap (λ (c : Container Spot). c.identifier.id) (push_kept whole i s r d) in omega (arith, h r d)
    go (no d) =
        let q : r ≡ length s.containers = omega arith in
        let z : id_at (push_container whole i s).containers r ≡ i.id = ap (λ (m : ℕ). id_at (push_container whole i s).containers m) q ∙ ap (λ (j : Ident Spot). j.id) (push_last whole i s) in
        omega arith

-- what one row more makes of the tables
module _ {k : C.Counts} (k' : C.Counts) {w₀ w w' : List ℕ} {u : Analyzer Spot} (t : Tabled k w₀ w u) where
  tabled_container : {kind id : ℕ} {i : Identifier} (from : ℕ) (whole : Bool) (stack : Scope Spot) → id ≡ u.resolution_id → kind ≡ kind_of whole → PushedContainer kind k i id w w' → k.containers < 128 → k'.containers ≡ k.containers + 1 → k'.functions ≡ k.functions + 0
      → Tabled k' w₀ w' (next_id (with_stack (with_containment u (push_container whole (authoritative u (ident_of from i)) u.containment)) stack))
  unfolding next_id with_stack with_containment
  tabled_container {kind} {id} {i} from whole stack e z p few c f =
      let j = authoritative u (ident_of from i) in
      let n = t.containers.counted in
      let given = t.given in
      let new : New j.id k.containers u.containment.containers = record { not = λ r l q. let y = given r l in let v = auth_id u (ident_of from i) in omega arith } in
      let held = p.pushes.pushes u.containment t.containers few j (says i from id u e) new whole z in
      let f₁ : k.functions ≡ k'.functions = omega arith in
      record {
        long = omega (arith, t.long, p.above.long);
        above = above_then t.above p.above;
        containers = subst (λ (m : ℕ). Holds m (containers_in w') (push_container whole j u.containment)) (sym c) held;
        functions = subst (λ (m : ℕ). HoldsFunctions m (functions_in w') u.function_list) f₁ (subst (λ (x : List ℕ). HoldsFunctions k.functions x u.function_list) (sym p.functions) t.functions);
        given = λ r l. given_push whole j u.containment u.resolution_id (λ q h. given q (omega arith)) (auth_id u (ident_of from i)) r (omega arith);
      }

  tabled_function : {id : ℕ} {i : Identifier} (from : ℕ) → id ≡ u.resolution_id → PushedFunction k i id w w' → k.functions < 256 → k'.containers ≡ k.containers + 0 → k'.functions ≡ k.functions + 1
      → Tabled k' w₀ w' (next_id (with_functions u (u.function_list ++ (authoritative u (ident_of from i) ∷ []))))
  unfolding next_id with_functions
  tabled_function {id} {i} from e p few c f =
      let j = authoritative u (ident_of from i) in
      let given = t.given in
      let held = p.pushes.pushes u.function_list t.functions few j (says i from id u e) in
      let c₁ : k.containers ≡ k'.containers = omega arith in
      record {
        long = omega (arith, t.long, p.above.long);
        above = above_then t.above p.above;
        containers = subst (λ (m : ℕ). Holds m (containers_in w') u.containment) c₁ (subst (λ (x : List ℕ). Holds k.containers x u.containment) (sym p.containers) t.containers);
        functions = subst (λ (m : ℕ). HoldsFunctions m (functions_in w') (u.function_list ++ (j ∷ []))) (sym f) held;
        given = λ r l. let y = given r (omega arith) in omega arith;
      }

-- the tables are as they were
tabled_same : {k : C.Counts} (k' : C.Counts) {w₀ w : List ℕ} {u : Analyzer Spot} → Tabled k w₀ w u → k'.containers ≡ k.containers + 0 → k'.functions ≡ k.functions + 0 → Tabled k' w₀ w u
tabled_same {k} k' {w₀} {w} {u} t c f =
    let given = t.given in
    let c₁ : k.containers ≡ k'.containers = omega arith in
    let f₁ : k.functions ≡ k'.functions = omega arith in
    record {
      long = t.long;
      above = t.above;
      containers = subst (λ (m : ℕ). Holds m (containers_in w) u.containment) c₁ t.containers;
      functions = subst (λ (m : ℕ). HoldsFunctions m (functions_in w) u.function_list) f₁ t.functions;
      given = λ r l. given r (omega arith);
    }

-- row 8's limits
fits_containers : (a : Counts) → fits a ≡ true → a.containers ≤ 128
unfolding fits
fits_containers a e = leb-true a.containers 128 (and_true _ _ (and_true _ _ (and_true _ _ e).0).0).0

fits_functions : (a : Counts) → fits a ≡ true → a.functions ≤ 256
unfolding fits
fits_functions a e =
    let c = leb a.containers 128 in
    let f = leb a.functions 256 in
    let n = leb a.entries 1024 in
    leb-true a.functions 256 (and_true c f (and_true (c && f) n (and_true (c && f && n) (leb a.statements 2048) e).0).0).1

-- the next id
next_is : (n : ℕ) {r : ℕ} → r ≡ min (n + 1) 4294967295 → n + 1 ≤ 4294967295 → r ≡ n + 1
next_is n e h = e ∙ min-eq_left h

-- a declaration that has a name
declared_as : {k : C.Counts} {kind id : ℕ} {w w' w₀ : List ℕ} {u : Analyzer Spot} {n from : ℕ} {i : Identifier} {x : Decl Spot} (k' : C.Counts) → Called (ident_of from i) kind x → fits (plus (counts_of k) (decl_counts (get_or decl_kinds kind k_bad_decl))) ≡ true → Pushed kind k i id w w' → n ≡ min (id + 1) 4294967295
    → Tabled k w₀ w u → id ≡ u.resolution_id → u.resolution_id + ids_own x ≤ 4294967295 → k'.containers ≡ k.containers + (rows_of x).0 → k'.functions ≡ k.functions + (rows_of x).1 → Tabled k' w₀ w' (predeclare x u).1 × (n ≡ (predeclare x u).1.resolution_id)
unfolding predeclare S.◌>>=◌ S.ret declare_constant declare_function declare_struct rows_of ids_own kind_of decl_counts decl_kinds plus a_container a_function next_id with_stack with_containment with_functions
declared_as {id = id} {from = from} k' as_constant fit p m t e₁ few c f = (tabled_container k' t from false _ e₁ refl (p.container t.long false refl) (omega (arith, fits_containers _ fit)) c f, next_is id m (omega arith) ∙ ap (λ (z : ℕ). z + 1) e₁)
declared_as {id = id} {from = from} k' as_function fit p m t e₁ few c f = (tabled_function k' t from e₁ (p.function t.long (λ z. absurd (omega arith)) (λ z. absurd (omega arith))) (omega (arith, fits_functions _ fit)) c f, next_is id m (omega arith) ∙ ap (λ (z : ℕ). z + 1) e₁)
declared_as {id = id} {from = from} k' as_head fit p m t e₁ few c f = (tabled_function k' t from e₁ (p.function t.long (λ z. absurd (omega arith)) (λ z. absurd (omega arith))) (omega (arith, fits_functions _ fit)) c f, next_is id m (omega arith) ∙ ap (λ (z : ℕ). z + 1) e₁)
declared_as {id = id} {u = u} {from = from} k' as_structure fit p m t e₁ few c f = (tabled_container k' t from true u.variable_stack e₁ refl (p.container t.long true refl) (omega (arith, fits_containers _ fit)) c f, next_is id m (omega arith) ∙ ap (λ (z : ℕ). z + 1) e₁)

declared_not : {k : C.Counts} {id : ℕ} {w w₀ : List ℕ} {u : Analyzer Spot} {x : Decl Spot} (k' : C.Counts) → Nameless x → Tabled k w₀ w u → id ≡ u.resolution_id → k'.containers ≡ k.containers + (rows_of x).0 → k'.functions ≡ k.functions + (rows_of x).1 → Tabled k' w₀ w (predeclare x u).1 × (id ≡ (predeclare x u).1.resolution_id)
unfolding predeclare S.ret rows_of
declared_not k' an_import t e₁ c f = (tabled_same k' t c f, e₁)
declared_not k' a_poison t e₁ c f = (tabled_same k' t c f, e₁)

module _ {t : List ℕ} {names : ℕ} {k : C.Counts} {at : ℕ} {r : Result (ℕ × ℕ) Refusal} (g : Gives (below 6) t at r) {kind a : ℕ} (e : r ≡ Ok (kind, a)) {id : ℕ} {w : List ℕ} where
  pub predeclares_unread : {r₀ : Result Head Refusal} {x : Refusal} {n : ℕ} {w' : List ℕ} → Heads t names a kind r₀ → r₀ ≡ Err x → Predeclares t names k at id w n w'
  predeclares_unread o q = record { does = λ v z e₁ few k' y. kind_unread names (counts_of k) g e (told_unread o q (kind_low names (counts_of k) g e)) v }

  module _ {h₀ : Head} (o : Heads t names a kind (Ok h₀)) where
    pub predeclares_named : {h : Start} {w' : List ℕ} {n : ℕ} → h₀ ≡ H.Named h → Pushed kind k h.identifier id w w' → n ≡ min (id + 1) 4294967295 → Predeclares t names k at id w n w'
    predeclares_named {h} q p m = record {
      does = λ {x} {d} v {w₀} {u} z e₁ few k' y.
          let s = passing t (cursor at names (counts_of k)) v in
          declared_as k' (kind_named names (counts_of k) g e (told_named o q) v) (kind_fits names (counts_of k) g e v) p m z e₁ few (ap (λ (c : Counts). c.containers) (sym y) ∙ s.containers) (ap (λ (c : Counts). c.functions) (sym y) ∙ s.functions);
    }

    predeclares_import : h₀ ≡ H.Import → Predeclares t names k at id w id w
    predeclares_import q = record {
      does = λ {x} {d} v {w₀} {u} z e₁ few k' y.
          let s = passing t (cursor at names (counts_of k)) v in
          declared_not k' (kind_import names (counts_of k) g e (told_import o q) v) z e₁ (ap (λ (c : Counts). c.containers) (sym y) ∙ s.containers) (ap (λ (c : Counts). c.functions) (sym y) ∙ s.functions);
    }

    predeclares_poison : h₀ ≡ H.Poison → Predeclares t names k at id w id w
    predeclares_poison q = record {
      does = λ {x} {d} v {w₀} {u} z e₁ few k' y.
          let s = passing t (cursor at names (counts_of k)) v in
          declared_not k' (kind_poison names (counts_of k) g e (told_poison o q) v) z e₁ (ap (λ (c : Counts). c.containers) (sym y) ∙ s.containers) (ap (λ (c : Counts). c.functions) (sym y) ∙ s.functions);
    }

    pub predeclares_not : (h₀ ≡ H.Import) ⊎ (h₀ ≡ H.Poison) → Predeclares t names k at id w id w
    predeclares_not (inl q) = predeclares_import q
    predeclares_not (inr q) = predeclares_poison q

pub predeclares_never : {t : List ℕ} {names : ℕ} {k : C.Counts} {at id : ℕ} {w : List ℕ} {r : Result (ℕ × ℕ) Refusal} {x : Refusal} {m : ℕ} {w' : List ℕ} → Gives (below 6) t at r → r ≡ Err x → Predeclares t names k at id w m w'
predeclares_never {names = names} {k} g e = record { does = λ v z e₁ few k' y. never_read names (counts_of k) g e v }

-- ALL DECLARATIONS

-- what is still to come: the declarations xs, where u is predeclared
pub record Come (t : List ℕ) (names rest at : ℕ) (k : C.Counts) (id : ℕ) (w₀ w : List ℕ) (d : Cur) (end : Analyzer Spot) : Type 0 where
  pub xs : List (Decl Spot)
  pub read : many read_decl rest t (cursor at names (counts_of k)) ≡ got xs d
  pub u : Analyzer Spot
  pub tabled : Tabled k w₀ w u
  pub id_is : id ≡ u.resolution_id
  pub end_is : (in_turn predeclare xs u).1 ≡ end
  pub few : u.resolution_id + ids_decls xs ≤ 4294967295

pub record Coming (t : List ℕ) (names rest₀ at₀ : ℕ) (k₀ : C.Counts) (id₀ : ℕ) (w₀ : List ℕ) (rest at : ℕ) (k : C.Counts) (id : ℕ) (w : List ℕ) : Type 0 where
  pub long : length w ≡ length w₀
  pub on : {d : Cur} {end : Analyzer Spot} → Come t names rest₀ at₀ k₀ id₀ w₀ w₀ d end → Come t names rest at k id w₀ w d end

pub coming_start : {t : List ℕ} {names rest₀ rest at : ℕ} {k : C.Counts} {id : ℕ} {w : List ℕ} → rest₀ ≡ rest → Coming t names rest₀ at k id w rest at k id w
coming_start {t} {names} {rest₀} {at = at} {k} {id} {w} e = subst (λ (rest : ℕ). Coming t names rest₀ at k id w rest at k id w) e (record { long = refl; on = λ c. c })

pub passed_to : {A : Type 0} (q : Got A) {names n : ℕ} {k : C.Counts} → forget q ≡ passed_of names (Ok (n, k)) → {x : A} {d : Cur} → q ≡ got x d → d ≡ cursor n names (counts_of k)
unfolding forget
passed_to (got a c) e g = sym (same_cur g) ∙ same_cur e
passed_to (refused n p) e g = never g

pub passed_not : {A X : Type 0} (q : Got A) (names : ℕ) (f : Refusal) → forget q ≡ passed_of names (Err f) → {x : A} {d : Cur} → q ≡ got x d → X
unfolding forget
passed_not (got a c) names f e g = cc
passed_not (refused m o) names f e g = never g

module _ {t : List ℕ} {names rest₀ at₀ : ℕ} {k₀ : C.Counts} {id₀ : ℕ} {w₀ : List ℕ} {rest at : ℕ} {k : C.Counts} {id : ℕ} {w : List ℕ} (c : Coming t names rest₀ at₀ k₀ id₀ w₀ rest at k id w) where
  -- one more
  one_come : {d : Cur} {end : Analyzer Spot} {r : Result (ℕ × C.Counts) Refusal} {n : ℕ} {k' : C.Counts} {id' : ℕ} {w' : List ℕ} (m : ℕ) → rest ≡ suc m → Come t names rest at k id w₀ w d end → Passes read_decl t names k at r → r ≡ Ok (n, k') → Predeclares t names k at id w id' w' → Come t names m n k' id' w₀ w' d end
  unfolding in_turn S.◌>>=◌ S.ret ids_decls
  one_come {d} {end} {r} {n} {k'} {id'} {w'} m z o p e q =
      many_case read_decl m t (cursor at names (counts_of k)) (subst (λ (i : ℕ). many read_decl i t (cursor at names (counts_of k)) ≡ got o.xs d) z o.read) λ x b ys g h s.
      let here : b ≡ cursor n names (counts_of k') = passed_to (read_decl t (cursor at names (counts_of k))) (p.is ∙ ap (passed_of names) e) g in
      let v : ids_decls o.xs ≡ ids_decls (x ∷ ys) = ap ids_decls s in
      let few = o.few in
      let y = q.does g o.tabled o.id_is (omega arith) k' (ap (λ (i : Cur). i.counts) here) in
      record {
        xs = ys;
        read = subst (λ (i : Cur). many read_decl m t i ≡ got ys d) here h;
        u = (predeclare x o.u).1;
        tabled = y.0;
        id_is = y.1;
        end_is = ap (λ (l : List (Decl Spot)). (in_turn predeclare l o.u).1) (sym s) ∙ o.end_is;
        few = omega (arith, next_own x o.u);
      }

  pub coming_more : {m : ℕ} {r : Result (ℕ × C.Counts) Refusal} {n : ℕ} {k' : C.Counts} {id' : ℕ} {w' : List ℕ} → rest ≡ suc m → Passes read_decl t names k at r → r ≡ Ok (n, k') → Predeclares t names k at id w id' w' → length w' ≡ length w → Coming t names rest₀ at₀ k₀ id₀ w₀ m n k' id' w'
  coming_more {m} h p e q l = record { long = l ∙ c.long; on = λ o. one_come m h (c.on o) p e q }

  -- what is read can not be refused
  pub coming_halt : {r : Result (ℕ × C.Counts) Refusal} {f : Refusal} → (rest ≡ 0 → ⊥) → Passes read_decl t names k at r → r ≡ Err f → {X : Type 0} {d : Cur} {end : Analyzer Spot} → Come t names rest₀ at₀ k₀ id₀ w₀ w₀ d end → X
  coming_halt {r} {f} h q e {d = d} o =
      let m : rest ≡ suc (rest - 1) = omega arith in
      let y = c.on o in
      many_case read_decl (rest - 1) t (cursor at names (counts_of k)) (subst (λ (i : ℕ). many read_decl i t (cursor at names (counts_of k)) ≡ got y.xs d) m y.read) λ x b ys g z s. passed_not (read_decl t (cursor at names (counts_of k))) names f (q.is ∙ ap (passed_of names) e) g

  pub coming_done : rest ≡ 0 → {d : Cur} {end : Analyzer Spot} → Come t names rest₀ at₀ k₀ id₀ w₀ w₀ d end → Tabled k w₀ w end × (id ≡ end.resolution_id) × (d ≡ cursor at names (counts_of k))
  unfolding many ret in_turn S.ret
  coming_done z {d} {end} o =
      let y = c.on o in
      let r : got [] (cursor at names (counts_of k)) ≡ got y.xs d = subst (λ (i : ℕ). many read_decl i t (cursor at names (counts_of k)) ≡ got y.xs d) z y.read in
      let s : y.u ≡ end = ap (λ (l : List (Decl Spot)). (in_turn predeclare l y.u).1) (same_value r) ∙ y.end_is in
      (subst (λ (a : Analyzer Spot). Tabled k w₀ w a) s y.tabled, y.id_is ∙ ap (λ (a : Analyzer Spot). a.resolution_id) s, sym (same_cur r))

-- from the beginning
come_first : {t : List ℕ} {l : Layout} (p : LaidOut t l) → length t ≤ 65535 → {w : List ℕ} → Tabled uncounted w w begin → Come t l.names l.count l.first uncounted 1 w w (cursor l.depths l.names p.counts) (in_turn predeclare p.decls begin).1
unfolding begin nothing
come_first p short h = record { xs = p.decls; read = p.read; u = begin; tabled = h; id_is = refl; end_is = refl; few = omega (arith, read_bytes p) }

module _ {t : List ℕ} {l : Layout} {w₀ : List ℕ} {rest at : ℕ} {k : C.Counts} {id : ℕ} {w : List ℕ} (c : Coming t l.names l.count l.first uncounted 1 w₀ rest at k id w) where
  pub all_halt : {r : Result (ℕ × C.Counts) Refusal} {f : Refusal} {x : Predeclared} {w' : List ℕ} → (rest ≡ 0 → ⊥) → Passes read_decl t l.names k at r → r ≡ Err f → PredeclaresAll t l w₀ x w'
  all_halt h q e = record { does = λ p short z. coming_halt c h q e (come_first p short z) }

  pub all_done : rest ≡ 0 → PredeclaresAll t l w₀ (record { counts = k; next_id = id }) w
  all_done z = record { does = λ p short h. let y = coming_done c z (come_first p short h) in (y.0, y.1, ap (λ (d : Cur). d.counts) y.2) }
