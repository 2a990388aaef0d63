-- What is read behind the head of a declaration.
use Prim.Native.Nat.{ℕ, ◌<◌}
use mathlib.Core.Path.{◌≡◌, refl, sym, ap, subst, ◌∙◌}
use mathlib.Core.Bool.{true}
use mathlib.Core.List.{List}
use native.Mathlib.Omega.{arith}
use lib.Dec.{ltb}
use lib.ListN.{get_or}
use borrow.Author.Tests.{ltb-true}
use Rattle.std.specs.Prelude.{Result, Ok, Err}
use Rattle.fields.specs.declared.refusal.Refusal.{Refusal}
use Rattle.penne.specs.Reader.{Counts, Cur, Got, got, refused, ◌>>=◌, ret, such, num, below, plus, fits, counted, counting}
use Rattle.penne.specs.Tree.{Spot, Ident, Maybe, Ty, Expr, Param, Body, Poison, Decl, constant, function, function_head, structure, import, bad_decl}
use Rattle.penne.specs.Read.{DeclKind, read_decl, decl_head, decl_of, decl_counts, decl_kinds, k_bad_decl, read_constant, read_function, read_function_head, read_structure, read_import}
use Rattle.fields.specs.Answers.{row_of, cursor, number_of, Gives}
use Rattle.walk.specs.Walking.{Leads}
use Rattle.walk.proofs.Leading.{never, bind_got, such_got, leads_bind, leads_counting, leads_got}
use Rattle.stages.specs.declared.heads.Start.{Start}
use Rattle.stages.specs.Heads.{Begins, own}
use Rattle.stages.proofs.Parting.{four_kinds, leads_two, leads_one}

-- a declaration of that kind with the name i
pub data Called (i : Ident Spot) : ℕ → Decl Spot → Type 0 where
  as_constant : {g : ℕ} {p q : Spot} {x : Expr Spot} {t : Maybe Spot (Ty Spot)} → Called i 0 (constant g p q i x t)
  as_function : {g : ℕ} {p q : Spot} {ps : List (Param Spot)} {b : Maybe Spot (Body Spot)} {t : Maybe Spot (Ty Spot)} → Called i 1 (function g p q i ps b t)
  as_head : {g : ℕ} {p q : Spot} {ps : List (Param Spot)} {t : Maybe Spot (Ty Spot)} → Called i 2 (function_head g p q i ps t)
  as_structure : {g : ℕ} {p : Spot} {ms : List (Param Spot)} {t : Maybe Spot (Ty Spot)} → Called i 3 (structure g p i ms t)

-- a declaration that has none
pub data Nameless : Decl Spot → Type 0 where
  an_import : {b : List ℕ} {p : Spot} → Nameless (import b p)
  a_poison : {z : Poison Spot} → Nameless (bad_decl z)

-- THE KIND

module _ {t : List ℕ} {at : ℕ} (names : ℕ) (c : Counts) {r : Result (ℕ × ℕ) Refusal} (g : Gives (below 6) t at r) where
  pub never_read : {X : Type 0} {f : Refusal} {x : Decl Spot} {d : Cur} → r ≡ Err f → read_decl t (cursor at names c) ≡ got x d → X
  unfolding read_decl counting decl_head
  never_read {f = f} e q =
      let z : below 6 t (cursor at names c) ≡ refused (row_of f.reason) f.place = g.is names c ∙ ap (number_of names c) e in
      absurd ((leads_bind {P = λ x d. ⊥} (counting decl_counts decl_head) (decl_of 63) (λ y b u.
      let v = bind_got (such decl_head (λ a c. fits (plus c.counts (decl_counts a))) 8) (λ a s c. got a (counted c (decl_counts a))) t (cursor at names c) u in
      let h = such_got decl_head (λ a c. fits (plus c.counts (decl_counts a))) 8 t (cursor at names c) v.2 in
      let m = bind_got (below 6) (λ n. ret (get_or decl_kinds n k_bad_decl)) t (cursor at names c) h.0 in
      never (sym z ∙ m.2))).to _ _ q)

  module _ {k a : ℕ} (e : r ≡ Ok (k, a)) where
    kind_got : below 6 t (cursor at names c) ≡ got k (cursor a names c)
    kind_got = g.is names c ∙ ap (number_of names c) e

    head_got : decl_head t (cursor at names c) ≡ got (get_or decl_kinds k k_bad_decl) (cursor a names c)
    unfolding decl_head ◌>>=◌ ret
    head_got = ap (λ (q : Got ℕ). elim q as (λ _. Got DeclKind) [ got n next ↦ got (get_or decl_kinds n k_bad_decl) next | refused i p ↦ refused i p ]) kind_got

    pub kind_low : k < 6
    unfolding below
    kind_low = ltb-true k 6 (such_got num (λ n _. ltb n 6) 5 t (cursor at names c) kind_got).1

    -- whatever is read behind the kind, where row 8 allows it
    leads_kind : {P : Decl Spot → Cur → Type 0} → (fits (plus c (decl_counts (get_or decl_kinds k k_bad_decl))) ≡ true → Leads (decl_of 63 (get_or decl_kinds k k_bad_decl)) t (cursor a names (plus c (decl_counts (get_or decl_kinds k k_bad_decl)))) P) → Leads read_decl t (cursor at names c) P
    unfolding read_decl counted
    leads_kind next = leads_counting decl_counts decl_head (decl_of 63) head_got next

    pub kind_named : {h : Start} {x : Decl Spot} {d : Cur} → Begins t names a k h → read_decl t (cursor at names c) ≡ got x d → Called (own h) k x
    unfolding decl_of decl_kinds read_constant read_function read_function_head read_structure
    kind_named {h} b q = (leads_kind {P = λ x d. Called (own h) k x} (λ f. four_kinds (λ j. Begins t names a j h → Leads (decl_of 63 (get_or decl_kinds j k_bad_decl)) t (cursor a names (plus c (decl_counts (get_or decl_kinds k k_bad_decl)))) (λ x d. Called (own h) j x)) k kind_low b.not_import b.not_poison
        (λ b. leads_two b _ (λ z. absurd (omega arith)) λ p q _. leads_bind _ _ λ x e g. leads_bind _ _ λ t e g. leads_got _ as_constant)
        (λ b. leads_two b _ (λ z. absurd (omega arith)) λ p q _. leads_bind _ _ λ ps e g. leads_bind _ _ λ y e g. leads_bind _ _ λ t e g. leads_got _ as_function)
        (λ b. leads_two b _ (λ z. absurd (omega arith)) λ p q _. leads_bind _ _ λ ps e g. leads_bind _ _ λ t e g. leads_got _ as_head)
        (λ b. leads_one b _ refl λ p _. leads_bind _ _ λ ms e g. leads_bind _ _ λ t e g. leads_got _ as_structure) b)).to _ _ q

    pub kind_import : {x : Decl Spot} {d : Cur} → k ≡ 4 → read_decl t (cursor at names c) ≡ got x d → Nameless x
    unfolding decl_of decl_kinds read_import
    kind_import z q = (leads_kind {P = λ x d. Nameless x} (λ f. subst (λ (j : ℕ). Leads (decl_of 63 (get_or decl_kinds j k_bad_decl)) t (cursor a names (plus c (decl_counts (get_or decl_kinds k k_bad_decl)))) (λ x d. Nameless x)) (sym z) (leads_bind _ _ λ b e g. leads_bind _ _ λ p e g. leads_got _ an_import))).to _ _ q

    pub kind_poison : {x : Decl Spot} {d : Cur} → k ≡ 5 → read_decl t (cursor at names c) ≡ got x d → Nameless x
    unfolding decl_of decl_kinds
    kind_poison z q = (leads_kind {P = λ x d. Nameless x} (λ f. subst (λ (j : ℕ). Leads (decl_of 63 (get_or decl_kinds j k_bad_decl)) t (cursor a names (plus c (decl_counts (get_or decl_kinds k k_bad_decl)))) (λ x d. Nameless x)) (sym z) (leads_bind _ _ λ p e g. leads_got _ a_poison))).to _ _ q

    pub kind_unread : {X : Type 0} {x : Decl Spot} {d : Cur} → ((m : Counts) → Leads (decl_of 63 (get_or decl_kinds k k_bad_decl)) t (cursor a names m) (λ x d. ⊥)) → read_decl t (cursor at names c) ≡ got x d → X
    kind_unread u q = absurd ((leads_kind {P = λ x d. ⊥} (λ f. u _)).to _ _ q)

    -- row 8 allows it
    pub kind_fits : {x : Decl Spot} {d : Cur} → read_decl t (cursor at names c) ≡ got x d → fits (plus c (decl_counts (get_or decl_kinds k k_bad_decl))) ≡ true
    kind_fits q = (leads_kind {P = λ x d. fits (plus c (decl_counts (get_or decl_kinds k k_bad_decl))) ≡ true} (λ f. record { to = λ x d g. f })).to _ _ q
