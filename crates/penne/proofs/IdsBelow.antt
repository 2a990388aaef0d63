-- Lists of ids that count from 1 and are below a bound; and what a search finds among identifiers that have such ids.
use Prim.Native.Nat.{ℕ, ◌+◌, ◌≤◌}
use mathlib.Core.Bool.{Bool, true, false}
use mathlib.Core.List.{List, [], ◌∷◌, ◌++◌, flat_map}
use mathlib.Core.Option.{Option, none, some}
use native.Mathlib.Omega.{arith}
use Rattle.penne.specs.Tree.{Ident}
use Rattle.penne.specs.Find.{first, first_named, resolved}
use Rattle.penne.specs.Ids.{given_ident, Below, nothing, also}

pub raise : {m n : ℕ} {xs : List ℕ} → m ≤ n → Below m xs → Below n xs
raise h nothing = nothing
raise h (also a b p) = also a (omega arith) (raise h p)

pub both : {n : ℕ} {xs ys : List ℕ} → Below n xs → Below n ys → Below n (xs ++ ys)
both nothing q = q
both (also a b p) q = also a b (both p q)

pub left : {n : ℕ} (xs ys : List ℕ) → Below n (xs ++ ys) → Below n xs
left [] ys p = nothing
left (x ∷ xs) ys (also a b p) = also a b (left xs ys p)

pub right : {n : ℕ} (xs ys : List ℕ) → Below n (xs ++ ys) → Below n ys
right [] ys p = p
right (x ∷ xs) ys (also a b p) = right xs ys p

-- what a search finds among known identifiers is known
module _ {P : Type 0} where
  abbrev pub ids_of : List (Ident P) → List ℕ
  ids_of is = flat_map given_ident is

  pub data Known (n : ℕ) : Option (Ident P) → Type 0 where
    unknown : Known n none
    known : {j : Ident P} → Below n (given_ident j) → Known n (some j)

  known_first : {n : ℕ} (t : Ident P → Bool) (is : List (Ident P)) → Below n (ids_of is) → Known n (first t is)
  unfolding first flat_map given_ident
  known_first t [] p = unknown
  known_first {n} t (i ∷ is) (also a b p) = go (t i) (known_first t is p)
    where
      go : (c : Bool) → Known n (first t is) → Known n (elim c [ true ↦ some i | false ↦ first t is ])
      go true h = known (also a b nothing)
      go false h = h

  pub known_named : {n : ℕ} (m : ℕ) (is : List (Ident P)) → Below n (ids_of is) → Known n (first_named m is)
  unfolding first_named
  known_named m is p = known_first _ is p

  pub each_append : {n : ℕ} (is js : List (Ident P)) → Below n (ids_of is) → Below n (ids_of js) → Below n (ids_of (is ++ js))
  unfolding flat_map given_ident
  each_append [] js p q = q
  each_append (i ∷ is) js (also a b p) q = also a b (each_append is js p q)

  -- the next id
  pub fresh : {m : ℕ} (i : Ident P) → 1 ≤ m → Below (m + 1) (given_ident (resolved i m 1))
  unfolding given_ident resolved
  fresh i h = also h (omega arith) nothing

  pub fresh_last : {m : ℕ} (is : List (Ident P)) (i : Ident P) → 1 ≤ m → Below m (ids_of is) → Below (m + 1) (ids_of (is ++ (resolved i m 1 ∷ [])))
  unfolding flat_map given_ident resolved
  fresh_last is i h p = each_append is (resolved i _ 1 ∷ []) (raise (omega arith) p) (also h (omega arith) nothing)
