-- The readers of an answered tree: a law for each way out.
use mathlib.Core.Path.{◌≡◌, refl, sym, ap, subst, ◌∙◌}
use mathlib.Core.Bool.{Bool, true, false}
use mathlib.Core.List.{List, [], ◌∷◌}
use mathlib.Core.Option.{Option, none, some}
use Prim.Native.Nat.{ℕ, zero, suc, ◌-◌, ◌≤◌, ◌<◌}
use native.Mathlib.Omega.{arith}
use native.Mathlib.Nat.{not-suc-le-zero, le_of_suc-le-suc}
use lib.Dec.{ltb}
use lib.ListN.{length, get_or, get_elem?}
use Rattle.penne.specs.Reader.{Counts, Cur, Got, got, refused, ret, num, below, such, each}
use Rattle.penne.specs.Tree.{Spot, Decl, Tree, constant, function, function_head, structure, import, bad_decl}
use Rattle.penne.specs.Read.{answered, decode}
use Rattle.penne.specs.Scoper.{Asked, told, untold, ask_decl, ask_tree, ask, depth_or, get_container_depth, is_container}
use Rattle.penne.proofs.Leading.{never, same_value, same_cur}
use Rattle.std.specs.Prelude.{Result, Ok, Err, IsOkAnd}
use Rattle.fields.specs.declared.refusal.Reason.TheVariants.{NoSuchDeclaration}
use Rattle.fields.specs.declared.refusal.Refusal.{Refusal}
use Rattle.tree.specs.declared.script.Layout.{Layout}
use Rattle.fields.specs.Answers.{cursor, Gives}
use Rattle.tree.specs.Script.{refusal_of, refusal, Decoded, AnsweredLayout}
use Rattle.fields.proofs.Back.{bind_case, many_length}
use Rattle.readers.specs.Asking.{depth_asked, container_asked, NthDepth}

-- THE DEPTH BEHIND n OTHERS

pub such_go : {A : Type 0} (test : A → Cur → Bool) (k at : ℕ) (q : Got A) {a : A} {c : Cur} → elim q as (λ _. Got A) [ got x next ↦ elim (test x next) [ true ↦ got x next | false ↦ refused k at ] | refused i p ↦ refused i p ] ≡ got a c → q ≡ got a c
such_go {A = A} test k at (got x next) {a} {c} e = (elim (test x next) as (λ t. elim t as (λ _. Got A) [ true ↦ got x next | false ↦ refused k at ] ≡ got a c → got x next ≡ got a c) [
  | true ↦ λ h. h
  | false ↦ λ h. never h
]) e
such_go test k at (refused i p) e = never e

below_num : (k : ℕ) (s : List ℕ) (c : Cur) {a : ℕ} {d : Cur} → below k s c ≡ got a d → num s c ≡ got a d
unfolding below such
below_num k s c e = such_go (λ n _. ltb n k) 5 c.at (num s c) e

-- a depth that an answered tree has is a number
answered_num : (d : Decl Spot) (s : List ℕ) (c : Cur) {a : ℕ} {e : Cur} → answered d s c ≡ got a e → num s c ≡ got a e
unfolding answered
answered_num (constant f p q i x t) s c h = h
answered_num (function f p q i ps b t) s c h = below_num 1 s c h
answered_num (function_head f p q i ps t) s c h = below_num 1 s c h
answered_num (structure f p i ms t) s c h = h
answered_num (import b p) s c h = below_num 1 s c h
answered_num (bad_decl z) s c h = below_num 1 s c h

each_case : {X : Type 0} (d : Decl Spot) (ds : List (Decl Spot)) (s : List ℕ) (c : Cur) {hs : List ℕ} {e : Cur} → each answered (d ∷ ds) s c ≡ got hs e →
    ((h : ℕ) (c₁ : Cur) (tail : List ℕ) → num s c ≡ got h c₁ → each answered ds s c₁ ≡ got tail e → hs ≡ h ∷ tail → X) → X
unfolding each ret
each_case d ds s c e next = bind_case (answered d) _ s c e λ h c₁ e₁ e₂. bind_case (each answered ds) _ s c₁ e₂ λ tail c₂ e₃ e₄. next h c₁ tail (answered_num d s c e₁) (e₃ ∙ ap (got tail) (same_cur e₄)) (sym (same_value e₄))

-- so many others are left from `cur` on
pub record Skipping (s : List ℕ) (at n rest cur : ℕ) : Type 0 where
  pub on : (r : Result ℕ Refusal) → NthDepth s cur rest r → NthDepth s at n r

pub skipping_start : {s : List ℕ} {at n : ℕ} → Skipping s at n n at
skipping_start = record { on = λ r h. h }

module _ {s : List ℕ} {cur : ℕ} where
  -- a refused number: there are no such depths
  unread_go : {n : ℕ} {e : Refusal} → Gives num s cur (Err e) → (names : ℕ) (k : Counts) (ds : List (Decl Spot)) (hs : List ℕ) (c : Cur) → each answered ds s (cursor cur names k) ≡ got hs c → n < length ds → ⊥
  unread_go g names k [] hs c h i = absurd (not-suc-le-zero i)
  unread_go g names k (d ∷ ds) hs c h i = each_case d ds s _ h λ a c₁ tail e₁ e₂ z. never (sym (g.is names k) ∙ e₁)

  last_go : {v b : ℕ} → Gives num s cur (Ok (v, b)) → (names : ℕ) (k : Counts) (ds : List (Decl Spot)) (hs : List ℕ) (c : Cur) → each answered ds s (cursor cur names k) ≡ got hs c → 0 < length ds → v ≡ get_or hs 0 0
  last_go g names k [] hs c h i = absurd (not-suc-le-zero i)
  last_go g names k (d ∷ ds) hs c h i = each_case d ds s _ h λ a c₁ tail e₁ e₂ z. same_value (sym (g.is names k) ∙ e₁) ∙ ap (λ (l : List ℕ). get_or l 0 0) (sym z)

  more_go : {rest v b : ℕ} {r : Result ℕ Refusal} → Gives num s cur (Ok (v, b)) → NthDepth s b rest r → (names : ℕ) (k : Counts) (ds : List (Decl Spot)) (hs : List ℕ) (c : Cur) → each answered ds s (cursor cur names k) ≡ got hs c → suc rest < length ds → IsOkAnd r (λ h. h ≡ get_or hs (suc rest) 0)
  more_go g o names k [] hs c h i = absurd (not-suc-le-zero i)
  more_go {rest} {r = r} g o names k (d ∷ ds) hs c h i = each_case d ds s _ h λ a c₁ tail e₁ e₂ z.
      subst (λ (l : List ℕ). IsOkAnd r (λ h. h ≡ get_or l (suc rest) 0)) (sym z) (o.is names k ds tail c (subst (λ (x : Cur). each answered ds s x ≡ got tail c) (sym (same_cur (sym (g.is names k) ∙ e₁))) e₂) (le_of_suc-le-suc i))

  module _ {at n rest : ℕ} (p : Skipping s at n rest cur) where
    pub skipping_unread : {e : Refusal} → Gives num s cur (Err e) → NthDepth s at n (Err e)
    skipping_unread g = p.on _ (record { is = unread_go g })

    pub skipping_last : {v b : ℕ} → rest ≡ 0 → Gives num s cur (Ok (v, b)) → NthDepth s at n (Ok v)
    skipping_last {v} z g = p.on _ (subst (λ (j : ℕ). NthDepth s cur j (Ok v)) (sym z) (record { is = last_go g }))

    pub skipping_more : {rest' v b : ℕ} → rest ≡ suc rest' → Gives num s cur (Ok (v, b)) → Skipping s at n rest' b
    skipping_more z g = record { on = λ r o. p.on r (subst (λ (j : ℕ). NthDepth s cur j r) (sym z) (record { is = more_go g o })) }

pub ruleset skippings = (skipping_start, skipping_unread, skipping_last, skipping_more)

-- A DEPTH'S NUMBER

pub depth_none : (max depth : ℕ) → depth < 2 → max ≡ depth_or max depth
unfolding depth_or
depth_none max zero h = refl
depth_none max (suc zero) h = refl
depth_none max (suc (suc d)) h = absurd (omega arith)

pub depth_some : (max depth : ℕ) → 2 ≤ depth → depth - 2 ≡ depth_or max depth
unfolding depth_or
depth_some max zero h = absurd (omega arith)
depth_some max (suc zero) h = absurd (omega arith)
depth_some max (suc (suc d)) h = omega arith

-- ASKING

some_pair : {a b c d : ℕ} → ◌≡◌ {A = Option (ℕ × ℕ)} (some (a, b)) (some (c, d)) → ◌≡◌ {A = ℕ × ℕ} (a, b) (c, d)
some_pair e = cc

tree_refused : {A : Type 0} (f : Tree Spot → Decl Spot → A) (k : ℕ) (q : Got (Tree Spot)) {n p : ℕ} → refusal_of q ≡ some (n, p) → ask_tree f k q ≡ untold n p
unfolding refusal_of ask_tree
tree_refused f k (got t c) e = let z : ◌≡◌ {A = ℕ} 0 1 = cc in absurd (omega arith)
tree_refused f k (refused i q) e = let h = some_pair e in λ j. untold (h j).0 (h j).1

-- what was refused is refused, with 13 behind it
pub asks_refused : {A : Type 0} (f : Tree Spot → Decl Spot → A) (s : List ℕ) (k : ℕ) {n p : ℕ} → refusal answered s ≡ some (n, p) → ask f s k ≡ untold n p
unfolding ask refusal
asks_refused {A} f s k {n} {p} e = (elim (ltb 65535 (length s)) as (λ t. ltb 65535 (length s) ≡ t → ask f s k ≡ untold n p) [
  | true ↦ λ z. rw (z, ask) (let h : ◌≡◌ {A = ℕ × ℕ} (1, 0) (n, p) = some_pair (rw (z, refusal) at e) in λ j. untold (h j).0 (h j).1)
  | false ↦ λ z. rw (z, ask) (tree_refused f k (decode answered s) (rw (z, refusal) at e))
]) refl

pub asks_decoded : {A : Type 0} (f : Tree Spot → Decl Spot → A) {s : List ℕ} {l : Layout} (k : ℕ) (d : Decoded s l) → ask f s k ≡ ask_decl (f (record { names = d.laid.table; decls = d.laid.decls; depths = d.depths })) (get_elem? d.laid.decls k)
unfolding ask ask_tree
asks_decoded f {s} k d = rw (d.short, ask) (ap (ask_tree f k) d.decoded)

pub long : {s : List ℕ} {l : Layout} (d : Decoded s l) → length d.laid.decls ≡ l.count
long {l = l} d = many_length _ l.count _ _ d.laid.read

pub elem_past : {A : Type 0} (xs : List A) (k : ℕ) → length xs ≤ k → get_elem? xs k ≡ none
elem_past [] k h = refl
elem_past (x ∷ xs) zero h = absurd (not-suc-le-zero h)
elem_past (x ∷ xs) (suc k) h = elem_past xs k (le_of_suc-le-suc h)

pub elem_case : {A X : Type 0} (xs : List A) (k : ℕ) → k < length xs → ((a : A) → get_elem? xs k ≡ some a → X) → X
elem_case [] k h next = absurd (not-suc-le-zero h)
elem_case (x ∷ xs) zero h next = next x refl
elem_case (x ∷ xs) (suc k) h next = elem_case xs k (le_of_suc-le-suc h) next

module _ {s : List ℕ} (k max : ℕ) where
  pub depth_refused : {e : Refusal} → AnsweredLayout s (Err e) → depth_asked (Err e) ≡ get_container_depth s k max
  unfolding get_container_depth
  depth_refused g = sym (asks_refused _ s k g.not)

  module _ {l : Layout} (g : AnsweredLayout s (Ok l)) where
    pub depth_past : l.count ≤ k → depth_asked (Err (record { reason = NoSuchDeclaration; place = 0 })) ≡ get_container_depth s k max
    unfolding get_container_depth ask_decl
    depth_past h = sym (asks_decoded _ k g.out ∙ ap (ask_decl _) (elem_past g.out.laid.decls k (omega (arith, long g.out))))

    module _ (h : k < l.count) where
      the_depth : {r : Result ℕ Refusal} → NthDepth s l.depths k r → IsOkAnd r (λ n. n ≡ get_or g.out.depths k 0)
      the_depth o = o.is l.names g.out.laid.counts g.out.laid.decls g.out.depths g.out.end g.out.read (omega (arith, h, long g.out))

      pub depth_unread : {e : Refusal} → NthDepth s l.depths k (Err e) → depth_asked (Err e) ≡ get_container_depth s k max
      depth_unread o = absurd (the_depth o)

      pub depth_is : {n r : ℕ} → NthDepth s l.depths k (Ok n) → r ≡ depth_or max n → depth_asked (Ok r) ≡ get_container_depth s k max
      unfolding get_container_depth ask_decl
      depth_is o z = elem_case g.out.laid.decls k (omega (arith, h, long g.out)) λ a w.
          ap told (z ∙ ap (depth_or max) (the_depth o)) ∙ sym (asks_decoded _ k g.out ∙ ap (ask_decl _) w)

pub ruleset depths = (depth_refused, depth_past, depth_unread, depth_is)

-- whether the depth is below the largest maximum
below_max : Asked ℕ → Asked Bool
below_max (told d) = told (ltb d 4294967295)
below_max (untold n p) = untold n p

decl_map : (f : Decl Spot → ℕ) (o : Option (Decl Spot)) → ask_decl (λ d. ltb (f d) 4294967295) o ≡ below_max (ask_decl f o)
unfolding ask_decl below_max
decl_map f none = refl
decl_map f (some d) = refl

tree_map : (f : Tree Spot → Decl Spot → ℕ) (k : ℕ) (q : Got (Tree Spot)) → ask_tree (λ t d. ltb (f t d) 4294967295) k q ≡ below_max (ask_tree f k q)
unfolding ask_tree below_max
tree_map f k (got t c) = decl_map (f t) (get_elem? t.decls k)
tree_map f k (refused n p) = refl

ask_map : (f : Tree Spot → Decl Spot → ℕ) (s : List ℕ) (k : ℕ) → ask (λ t d. ltb (f t d) 4294967295) s k ≡ below_max (ask f s k)
unfolding ask below_max
ask_map f s k = (elim (ltb 65535 (length s)) as (λ t. ltb 65535 (length s) ≡ t → ask (λ t d. ltb (f t d) 4294967295) s k ≡ below_max (ask f s k)) [
  | true ↦ λ z. rw (z, ask)
  | false ↦ λ z. rw (z, ask) (tree_map f k (decode answered s))
]) refl

module _ (s : List ℕ) (k : ℕ) where
  container : (r : Result ℕ Refusal) → depth_asked r ≡ get_container_depth s k 4294967295 → is_container s k ≡ below_max (depth_asked r)
  unfolding is_container get_container_depth
  container r g = ask_map _ s k ∙ ap below_max (sym g)

  pub container_is : {d : ℕ} → depth_asked (Ok d) ≡ get_container_depth s k 4294967295 → container_asked (Ok (ltb d 4294967295)) ≡ is_container s k
  unfolding below_max
  container_is {d} g = sym (container (Ok d) g)

  pub container_refused : (e : Refusal) → depth_asked (Err e) ≡ get_container_depth s k 4294967295 → container_asked (Err e) ≡ is_container s k
  unfolding below_max
  container_refused e g = sym (container (Err e) g)
