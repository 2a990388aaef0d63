-- Lists in the place of sets and maps: laws of the definitions' searches.
use mathlib.Core.Path.{◌≡◌, refl, sym, ap, ◌∙◌}
use mathlib.Core.Bool.{Bool, true, false, not}
use mathlib.Core.List.{List, [], ◌∷◌}
use mathlib.Core.Option.{Option, none, some}
use Prim.Native.Nat.{ℕ}
use native.Mathlib.Omega.{arith}
use lib.Dec.{eqb}
use borrow.Author.Tests.{eqb-true, eq-eqb, ne_eqb}
use Rattle.penne.specs.Find.{first, keep, is_in}
use Rattle.penne.specs.Pruning.{UnresolvedPruning, Pruning, meet_at, prune}
use Rattle.penne.proofs.Searching.{first_hit, first_miss, keep_hit, keep_miss, is_in_here, is_in_past}
use Rattle.penne.proofs.Booleans.{some_same}

pub never : false ≡ true → ⊥
never e = let z : ◌≡◌ {A = ℕ} 0 1 = cc in omega arith

-- WHAT IS KEPT

-- what is in a list after some were left out was in it before
pub keep_lower : (f : ℕ → Bool) (x : ℕ) (ys : List ℕ) → is_in x (keep f ys) ≡ true → is_in x ys ≡ true
unfolding keep
keep_lower f x [] e = e
keep_lower f x (y ∷ ys) e = go (eqb x y) refl (f y) refl (keep_lower f x ys)
  where
    go : (b : Bool) → eqb x y ≡ b → (c : Bool) → f y ≡ c → (is_in x (keep f ys) ≡ true → is_in x ys ≡ true) → is_in x (y ∷ ys) ≡ true
    go true z c q h = is_in_here x y ys z
    go false z true q h = is_in_past x y ys z ∙ h (sym (ap (is_in x) (keep_hit f y ys q) ∙ is_in_past x y (keep f ys) z) ∙ e)
    go false z false q h = is_in_past x y ys z ∙ h (sym (ap (is_in x) (keep_miss f y ys q)) ∙ e)

-- what passes stays
pub keep_inside : (f : ℕ → Bool) (x : ℕ) (ys : List ℕ) → f x ≡ true → is_in x ys ≡ true → is_in x (keep f ys) ≡ true
unfolding keep
keep_inside f x [] p e = e
keep_inside f x (y ∷ ys) p e = go (eqb x y) refl (f y) refl (keep_inside f x ys p)
  where
    go : (b : Bool) → eqb x y ≡ b → (c : Bool) → f y ≡ c → (is_in x ys ≡ true → is_in x (keep f ys) ≡ true) → is_in x (keep f (y ∷ ys)) ≡ true
    go true z true q h = ap (is_in x) (keep_hit f y ys q) ∙ is_in_here x y (keep f ys) z
    go true z false q h = absurd (never (sym q ∙ ap f (sym (eqb-true x y z)) ∙ p))
    go false z true q h = ap (is_in x) (keep_hit f y ys q) ∙ is_in_past x y (keep f ys) z ∙ h (sym (is_in_past x y ys z) ∙ e)
    go false z false q h = ap (is_in x) (keep_miss f y ys q) ∙ h (sym (is_in_past x y ys z) ∙ e)

-- SEARCHES BY A NUMBER

-- the search for the first with that number, and the list without those that have it
abbrev pub first_of : {A : Type 0} → (A → ℕ) → ℕ → List A → Option A
first_of f n us = first (λ u. eqb (f u) n) us

abbrev pub without : {A : Type 0} → (A → ℕ) → ℕ → List A → List A
without f n us = keep (λ u. not (eqb (f u) n)) us

module _ {A : Type 0} (f : A → ℕ) where
  pub first_without : (n : ℕ) (us : List A) → first_of f n (without f n us) ≡ none
  unfolding first keep
  first_without n [] = refl
  first_without n (u ∷ us) = go (eqb (f u) n) refl (first_without n us)
    where
      go : (b : Bool) → eqb (f u) n ≡ b → first_of f n (without f n us) ≡ none → first_of f n (without f n (u ∷ us)) ≡ none
      go true z h = ap (first_of f n) (keep_miss (λ v. not (eqb (f v) n)) u us (ap not z)) ∙ h
      go false z h = ap (first_of f n) (keep_hit (λ v. not (eqb (f v) n)) u us (ap not z)) ∙ first_miss (λ v. eqb (f v) n) u (without f n us) z ∙ h

  pub first_with : (n m : ℕ) → (m ≡ n → ⊥) → (us : List A) → first_of f m (without f n us) ≡ first_of f m us
  unfolding keep
  first_with n m d [] = refl
  first_with n m d (u ∷ us) = go (eqb (f u) n) refl (eqb (f u) m) refl (first_with n m d us)
    where
      go : (b : Bool) → eqb (f u) n ≡ b → (c : Bool) → eqb (f u) m ≡ c → first_of f m (without f n us) ≡ first_of f m us → first_of f m (without f n (u ∷ us)) ≡ first_of f m (u ∷ us)
      go true z true q h = absurd (d (sym (eqb-true (f u) m q) ∙ eqb-true (f u) n z))
      go true z false q h = ap (first_of f m) (keep_miss (λ v. not (eqb (f v) n)) u us (ap not z)) ∙ h ∙ sym (first_miss (λ v. eqb (f v) m) u us q)
      go false z true q h = ap (first_of f m) (keep_hit (λ v. not (eqb (f v) n)) u us (ap not z)) ∙ first_hit (λ v. eqb (f v) m) u (without f n us) q ∙ sym (first_hit (λ v. eqb (f v) m) u us q)
      go false z false q h = ap (first_of f m) (keep_hit (λ v. not (eqb (f v) n)) u us (ap not z)) ∙ first_miss (λ v. eqb (f v) m) u (without f n us) q ∙ h ∙ sym (first_miss (λ v. eqb (f v) m) u us q)

-- A GOTO

module _ {P : Type 0} (l : ℕ) (here : List ℕ) (p : P) where
  -- what a later goto makes of what the first one entered
  abbrev pub met : UnresolvedPruning P → UnresolvedPruning P
  met u = record { label = l; intersection_of_variables = keep (λ x. is_in x here) u.intersection_of_variables; location_of_goto = u.location_of_goto }

  -- what the first goto enters
  abbrev pub entered : UnresolvedPruning P
  entered = record { label = l; intersection_of_variables = here; location_of_goto = p }

  module _ (u : UnresolvedPruning P) (us : List (UnresolvedPruning P)) where
    meet_yes : eqb u.label l ≡ true → meet_at l here p (u ∷ us) ≡ met u ∷ us
    unfolding meet_at
    meet_yes e = rw (e, meet_at)

    meet_no : eqb u.label l ≡ false → meet_at l here p (u ∷ us) ≡ u ∷ meet_at l here p us
    unfolding meet_at
    meet_no e = rw (e, meet_at)

  own : eqb l l ≡ true
  own = eq-eqb l l refl

  pub meet_first : (us : List (UnresolvedPruning P)) → first_of (λ u. u.label) l us ≡ none → first_of (λ u. u.label) l (meet_at l here p us) ≡ some entered
  unfolding meet_at
  meet_first [] e = first_hit (λ u. eqb u.label l) entered [] own
  meet_first (u ∷ us) e = go (eqb u.label l) refl (meet_first us)
    where
      go : (b : Bool) → eqb u.label l ≡ b → (first_of (λ u. u.label) l us ≡ none → first_of (λ u. u.label) l (meet_at l here p us) ≡ some entered) → first_of (λ u. u.label) l (meet_at l here p (u ∷ us)) ≡ some entered
      go true z h = absurd (let o = sym (first_hit (λ v. eqb v.label l) u us z) ∙ e in let q : ◌≡◌ {A = ℕ} 0 1 = cc in omega arith)
      go false z h = ap (first_of (λ v. v.label) l) (meet_no u us z) ∙ first_miss (λ v. eqb v.label l) u (meet_at l here p us) z ∙ h (sym (first_miss (λ v. eqb v.label l) u us z) ∙ e)

  pub meet_later : (us : List (UnresolvedPruning P)) (x : UnresolvedPruning P) → first_of (λ u. u.label) l us ≡ some x → first_of (λ u. u.label) l (meet_at l here p us) ≡ some (met x)
  unfolding first
  meet_later [] x e = absurd (let q : ◌≡◌ {A = ℕ} 0 1 = cc in omega arith)
  meet_later (u ∷ us) x e = go (eqb u.label l) refl (meet_later us x)
    where
      go : (b : Bool) → eqb u.label l ≡ b → (first_of (λ u. u.label) l us ≡ some x → first_of (λ u. u.label) l (meet_at l here p us) ≡ some (met x)) → first_of (λ u. u.label) l (meet_at l here p (u ∷ us)) ≡ some (met x)
      go true z h =
          let q : u ≡ x = some_same (sym (first_hit (λ v. eqb v.label l) u us z) ∙ e) in
          ap (first_of (λ v. v.label) l) (meet_yes u us z) ∙ first_hit (λ v. eqb v.label l) (met u) us own ∙ ap (λ (v : UnresolvedPruning P). some (met v)) q
      go false z h = ap (first_of (λ v. v.label) l) (meet_no u us z) ∙ first_miss (λ v. eqb v.label l) u (meet_at l here p us) z ∙ h (sym (first_miss (λ v. eqb v.label l) u us z) ∙ e)

  pub meet_other : (m : ℕ) → (m ≡ l → ⊥) → (us : List (UnresolvedPruning P)) → first_of (λ u. u.label) m (meet_at l here p us) ≡ first_of (λ u. u.label) m us
  unfolding meet_at
  meet_other m d [] = first_miss (λ u. eqb u.label m) entered [] (ne_eqb l m (λ z. d (sym z)))
  meet_other m d (u ∷ us) = go (eqb u.label l) refl (eqb u.label m) refl (meet_other m d us)
    where
      go : (b : Bool) → eqb u.label l ≡ b → (c : Bool) → eqb u.label m ≡ c → first_of (λ u. u.label) m (meet_at l here p us) ≡ first_of (λ u. u.label) m us
          → first_of (λ u. u.label) m (meet_at l here p (u ∷ us)) ≡ first_of (λ u. u.label) m (u ∷ us)
      go true z true q h = absurd (d (sym (eqb-true u.label m q) ∙ eqb-true u.label l z))
      go true z false q h = ap (first_of (λ v. v.label) m) (meet_yes u us z) ∙ first_miss (λ v. eqb v.label m) (met u) us (ne_eqb l m (λ z. d (sym z))) ∙ sym (first_miss (λ v. eqb v.label m) u us q)
      go false z true q h = ap (first_of (λ v. v.label) m) (meet_no u us z) ∙ first_hit (λ v. eqb v.label m) u (meet_at l here p us) q ∙ sym (first_hit (λ v. eqb v.label m) u us q)
      go false z false q h = ap (first_of (λ v. v.label) m) (meet_no u us z) ∙ first_miss (λ v. eqb v.label m) u (meet_at l here p us) q ∙ h ∙ sym (first_miss (λ v. eqb v.label m) u us q)

-- A LABEL

module _ {P : Type 0} (c : Pruning P) where
  module _ (d : Pruning P) (ds : List (Pruning P)) where
    prune_yes : eqb d.variable c.variable ≡ true → prune c (d ∷ ds) ≡ d ∷ ds
    unfolding prune
    prune_yes e = rw (e, prune)

    prune_no : eqb d.variable c.variable ≡ false → prune c (d ∷ ds) ≡ d ∷ prune c ds
    unfolding prune
    prune_no e = rw (e, prune)

  -- a variable that was not pruned is
  pub prune_first : (ds : List (Pruning P)) → first_of (λ d. d.variable) c.variable ds ≡ none → first_of (λ d. d.variable) c.variable (prune c ds) ≡ some c
  unfolding prune
  prune_first [] e = first_hit (λ d. eqb d.variable c.variable) c [] (eq-eqb c.variable c.variable refl)
  prune_first (d ∷ ds) e = go (eqb d.variable c.variable) refl (prune_first ds)
    where
      go : (b : Bool) → eqb d.variable c.variable ≡ b → (first_of (λ d. d.variable) c.variable ds ≡ none → first_of (λ d. d.variable) c.variable (prune c ds) ≡ some c)
          → first_of (λ d. d.variable) c.variable (prune c (d ∷ ds)) ≡ some c
      go true z h = absurd (let o = sym (first_hit (λ v. eqb v.variable c.variable) d ds z) ∙ e in let q : ◌≡◌ {A = ℕ} 0 1 = cc in omega arith)
      go false z h = ap (first_of (λ v. v.variable) c.variable) (prune_no d ds z) ∙ first_miss (λ v. eqb v.variable c.variable) d (prune c ds) z
          ∙ h (sym (first_miss (λ v. eqb v.variable c.variable) d ds z) ∙ e)

  -- one that was pruned stays as it was
  pub prune_already : (ds : List (Pruning P)) (x : Pruning P) → first_of (λ d. d.variable) c.variable ds ≡ some x → prune c ds ≡ ds
  unfolding first
  prune_already [] x e = absurd (let q : ◌≡◌ {A = ℕ} 0 1 = cc in omega arith)
  prune_already (d ∷ ds) x e = go (eqb d.variable c.variable) refl (prune_already ds x)
    where
      go : (b : Bool) → eqb d.variable c.variable ≡ b → (first_of (λ d. d.variable) c.variable ds ≡ some x → prune c ds ≡ ds) → prune c (d ∷ ds) ≡ d ∷ ds
      go true z h = prune_yes d ds z
      go false z h = prune_no d ds z ∙ ap (λ (v : List (Pruning P)). d ∷ v) (h (sym (first_miss (λ v. eqb v.variable c.variable) d ds z) ∙ e))

  -- and no other variable is touched
  pub prune_other : (m : ℕ) → (m ≡ c.variable → ⊥) → (ds : List (Pruning P)) → first_of (λ d. d.variable) m (prune c ds) ≡ first_of (λ d. d.variable) m ds
  unfolding prune
  prune_other m n [] = first_miss (λ d. eqb d.variable m) c [] (ne_eqb c.variable m (λ z. n (sym z)))
  prune_other m n (d ∷ ds) = go (eqb d.variable c.variable) refl (eqb d.variable m) refl (prune_other m n ds)
    where
      go : (b : Bool) → eqb d.variable c.variable ≡ b → (t : Bool) → eqb d.variable m ≡ t → first_of (λ d. d.variable) m (prune c ds) ≡ first_of (λ d. d.variable) m ds
          → first_of (λ d. d.variable) m (prune c (d ∷ ds)) ≡ first_of (λ d. d.variable) m (d ∷ ds)
      go true z t q h = ap (first_of (λ v. v.variable) m) (prune_yes d ds z)
      go false z true q h = ap (first_of (λ v. v.variable) m) (prune_no d ds z) ∙ first_hit (λ v. eqb v.variable m) d (prune c ds) q ∙ sym (first_hit (λ v. eqb v.variable m) d ds q)
      go false z false q h = ap (first_of (λ v. v.variable) m) (prune_no d ds z) ∙ first_miss (λ v. eqb v.variable m) d (prune c ds) q ∙ h ∙ sym (first_miss (λ v. eqb v.variable m) d ds q)
