-- Laws of lists as sets and as rows.
use mathlib.Core.Path.{◌≡◌, refl, sym, ap, ◌∙◌}
use mathlib.Core.Bool.{Bool, true, false, ◌&&◌, ◌||◌, not}
use mathlib.Core.List.{List, [], ◌∷◌, ◌++◌, map}
use mathlib.Core.Option.{Option, none, some}
use Prim.Native.Nat.{ℕ, zero, suc, ◌<◌}
use native.Mathlib.Nat.{not-suc-le-zero, le_of_suc-le-suc}
use native.Mathlib.Decide.{ℕ_discrete}
use native.Mathlib.Omega.{arith}
use lib.Dec.{eqb}
use lib.ListN.{length, get_or, get_or-append}
use lib.Seq.{get_or-append_seam}
use borrow.Author.Tests.{eq-eqb, ne_eqb}
use Rattle.penne.specs.Tree.{Spot}
use Rattle.penne.specs.Find.{first, keep, is_in, union, minus}
use Rattle.penne.specs.Containers.{Container, id_of}
use Rattle.penne.proofs.Booleans.{and-false}
use Rattle.penne.proofs.Searching.{first_hit, first_miss, keep_hit, keep_miss}
use Rattle.containers.specs.Table.{no_container, at, id_at, ids_at}

-- TRUTH

pub true_not_false : {b : Bool} → b ≡ true → b ≡ false → ⊥
true_not_false {b} p q = let z : ◌≡◌ {A = ℕ} 0 1 = cc in omega arith

pub false_is : (b : Bool) → (b ≡ true → ⊥) → b ≡ false
false_is true f = absurd (f refl)
false_is false f = refl

pub and-not : (a : Bool) → a && not a ≡ false
and-not true = refl
and-not false = refl

pub and_true : (a b : Bool) → a && b ≡ true → (a ≡ true) × (b ≡ true)
and_true true b e = (refl, e)
and_true false b e = absurd (true_not_false e refl)

-- THE FIRST

pub in_hit : (x y : ℕ) (l : List ℕ) → x ≡ y → is_in x (y ∷ l) ≡ true
unfolding is_in
in_hit x y l e = rw (eq-eqb x y e, is_in)

pub in_miss : (x y : ℕ) (l : List ℕ) → (x ≡ y → ⊥) → is_in x (y ∷ l) ≡ is_in x l
unfolding is_in
in_miss x y l e = rw (ne_eqb x y e, is_in)

module _ {A : Type 0} (d : A) (f : A → Bool) where
  pub first_at : (cs : List A) (i : ℕ) → i < length cs → f (get_or cs i d) ≡ true → ((k : ℕ) → k < i → f (get_or cs k d) ≡ false) → first f cs ≡ some (get_or cs i d)
  first_at [] i h e n = absurd (not-suc-le-zero h)
  first_at (c ∷ cs) zero h e n = first_hit f c cs e
  first_at (c ∷ cs) (suc i) h e n = first_miss f c cs (n 0 (omega arith)) ∙ (first_at cs i (le_of_suc-le-suc h) e (λ k l. n (suc k) (omega arith)))

  pub first_none : (cs : List A) → ((k : ℕ) → k < length cs → f (get_or cs k d) ≡ false) → first f cs ≡ none
  unfolding first
  first_none [] n = refl
  first_none (c ∷ cs) n = first_miss f c cs (n 0 (omega arith)) ∙ (first_none cs (λ k l. n (suc k) (omega arith)))

-- what a search finds, mapped
abbrev pub mapped : {A B : Type 0} → (A → B) → Option A → Option B
mapped f none = none
mapped f (some a) = some (f a)

-- the search through those that are kept is one search
pub first_kept : {A B : Type 0} (g : B → Bool) (h : A → B) (p : A → Bool) (cs : List A) → first g (map h (keep p cs)) ≡ mapped h (first (λ c. p c && g (h c)) cs)
unfolding first keep
first_kept g h p [] = refl
first_kept {A} g h p (c ∷ cs) = go (p c) (g (h c)) refl refl (first_kept g h p cs)
  where
    go : (x y : Bool) → p c ≡ x → g (h c) ≡ y → first g (map h (keep p cs)) ≡ mapped h (first (λ c. p c && g (h c)) cs) → first g (map h (keep p (c ∷ cs))) ≡ mapped h (first (λ c. p c && g (h c)) (c ∷ cs))
    go true true ex ey r = ap (λ (l : List A). first g (map h l)) (keep_hit p c cs ex) ∙ first_hit g (h c) (map h (keep p cs)) ey ∙ sym (ap (mapped h) (first_hit (λ c. p c && g (h c)) c cs (rw (ex, ey))))
    go true false ex ey r = ap (λ (l : List A). first g (map h l)) (keep_hit p c cs ex) ∙ first_miss g (h c) (map h (keep p cs)) ey ∙ r ∙ sym (ap (mapped h) (first_miss (λ c. p c && g (h c)) c cs (rw (ex, ey))))
    go false y ex ey r = ap (λ (l : List A). first g (map h l)) (keep_miss p c cs ex) ∙ r ∙ sym (ap (mapped h) (first_miss (λ c. p c && g (h c)) c cs (rw ex)))

-- SETS

pub in_keep : (f : ℕ → Bool) (x : ℕ) (l : List ℕ) → is_in x (keep f l) ≡ is_in x l && f x
unfolding is_in keep
in_keep f x [] = refl
in_keep f x (y ∷ l) = go (f y) refl (ℕ_discrete x y) (in_keep f x l)
  where
    go : (b : Bool) → f y ≡ b → Dec (x ≡ y) → is_in x (keep f l) ≡ is_in x l && f x → is_in x (keep f (y ∷ l)) ≡ is_in x (y ∷ l) && f x
    go true e (yes q) r = ap (is_in x) (keep_hit f y l e) ∙ in_hit x y (keep f l) q ∙ sym (ap (λ (b : Bool). b && f x) (in_hit x y l q) ∙ ap f q ∙ e)
    go true e (no q) r = ap (is_in x) (keep_hit f y l e) ∙ in_miss x y (keep f l) q ∙ r ∙ sym (ap (λ (b : Bool). b && f x) (in_miss x y l q))
    go false e (yes q) r = ap (is_in x) (keep_miss f y l e) ∙ r ∙ ap (λ (b : Bool). is_in x l && b) (ap f q ∙ e) ∙ and-false (is_in x l) ∙ sym (ap (λ (b : Bool). b && f x) (in_hit x y l q) ∙ ap f q ∙ e)
    go false e (no q) r = ap (is_in x) (keep_miss f y l e) ∙ r ∙ sym (ap (λ (b : Bool). b && f x) (in_miss x y l q))

pub in_none : (x : ℕ) (l : List ℕ) → l ≡ [] → is_in x l ≡ false
unfolding is_in
in_none x l e = ap (is_in x) e

pub in_append : (x : ℕ) (a b : List ℕ) → is_in x (a ++ b) ≡ is_in x a || is_in x b
unfolding is_in
in_append x [] b = refl
in_append x (y ∷ a) b = go (ℕ_discrete x y) (in_append x a b)
  where
    go : Dec (x ≡ y) → is_in x (a ++ b) ≡ is_in x a || is_in x b → is_in x (y ∷ a ++ b) ≡ is_in x (y ∷ a) || is_in x b
    go (yes q) r = in_hit x y (a ++ b) q ∙ sym (ap (λ (t : Bool). t || is_in x b) (in_hit x y a q))
    go (no q) r = in_miss x y (a ++ b) q ∙ r ∙ sym (ap (λ (t : Bool). t || is_in x b) (in_miss x y a q))

pub in_union : (x : ℕ) (a b : List ℕ) → is_in x (union a b) ≡ is_in x a || is_in x b
unfolding union
in_union x a b = in_append x a _ ∙ ap (λ (t : Bool). is_in x a || t) (in_keep (λ n. not (is_in n a)) x b) ∙ go (is_in x a) (is_in x b)
  where
    go : (p q : Bool) → p || (q && not p) ≡ p || q
    go true q = refl
    go false true = refl
    go false false = refl

pub in_minus : (x : ℕ) (a b : List ℕ) → is_in x (minus a b) ≡ is_in x a && not (is_in x b)
unfolding minus
in_minus x a b = in_keep (λ n. not (is_in n b)) x a

pub in_one : (x y : ℕ) → is_in x (y ∷ []) ≡ eqb x y
unfolding is_in
in_one x y = go (ℕ_discrete x y)
  where
    go : Dec (x ≡ y) → is_in x (y ∷ []) ≡ eqb x y
    go (yes q) = in_hit x y [] q ∙ sym (eq-eqb x y q)
    go (no q) = in_miss x y [] q ∙ sym (ne_eqb x y q)

-- ROWS

pub at_map : (f : Container Spot → Container Spot) (cs : List (Container Spot)) (r : ℕ) → r < length cs → at (map f cs) r ≡ f (at cs r)
unfolding at
at_map f [] r h = absurd (not-suc-le-zero h)
at_map f (c ∷ cs) zero h = refl
at_map f (c ∷ cs) (suc r) h = at_map f cs r (le_of_suc-le-suc h)

pub at_before : (cs : List (Container Spot)) (c : Container Spot) (r : ℕ) → r < length cs → at (cs ++ (c ∷ [])) r ≡ at cs r
unfolding at
at_before cs c r h = get_or-append cs (c ∷ []) no_container r h

pub at_last : (cs : List (Container Spot)) (c : Container Spot) → at (cs ++ (c ∷ [])) (length cs) ≡ c
unfolding at
at_last cs c = get_or-append_seam cs c [] no_container

module _ (cs : List (Container Spot)) (c : Container Spot) where
  pub id_before : (r : ℕ) → r < length cs → id_at (cs ++ (c ∷ [])) r ≡ id_at cs r
  unfolding id_at
  id_before r h = ap id_of (at_before cs c r h)

  pub id_last : (n : ℕ) → length cs ≡ n → id_at (cs ++ (c ∷ [])) n ≡ id_of c
  unfolding id_at
  id_last n e = ap (λ (k : ℕ). id_of (at (cs ++ (c ∷ [])) k)) (sym e) ∙ ap id_of (at_last cs c)

  pub ids_before : (r : ℕ) → r < length cs → ids_at (cs ++ (c ∷ [])) r ≡ ids_at cs r
  unfolding ids_at
  ids_before r h = ap (λ (o : Container Spot). o.contained_ids) (at_before cs c r h)

  pub ids_last : (n : ℕ) → length cs ≡ n → ids_at (cs ++ (c ∷ [])) n ≡ c.contained_ids
  unfolding ids_at
  ids_last n e = ap (λ (k : ℕ). (at (cs ++ (c ∷ [])) k).contained_ids) (sym e) ∙ ap (λ (o : Container Spot). o.contained_ids) (at_last cs c)
