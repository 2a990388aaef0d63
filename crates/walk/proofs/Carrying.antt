-- A type, and what may be a type, stand in the tree as the encoder gives them.
use mathlib.Core.Path.{◌≡◌, refl, sym, subst}
use mathlib.Core.Bool.{Bool, false}
use mathlib.Core.List.{List, [], ◌∷◌}
use mathlib.Core.Option.{none, some}
use Prim.Native.Nat.{ℕ, zero, suc, ◌+◌, ◌<◌}
use native.Mathlib.Omega.{arith}
use lib.ListN.{get_or}
use borrow.Author.Tests.{ltb-true}
use Rattle.penne.specs.Reader.{Cur, Reader, such, num, below}
use Rattle.penne.specs.Tree.{Spot, ok, err, Ty, plain, array, array_with_named_length, arraylike, struct, word, unresolved, nameless, pointer, view}
use Rattle.penne.specs.Read.{ident, read_poison, either, maybe, option, TyKind, ty_kinds, k_plain, k_array, k_named_length, k_arraylike, k_struct, k_word, k_unresolved, k_nameless, k_pointer, k_view, ty_of, read_ty}
use Rattle.penne.specs.Write.{num_b, maybe_b, option_b, ty_b, carried_b}
use Rattle.walk.proofs.Leading.{such_got, leads_bind, leads_got, leads_deep}
use Rattle.walk.proofs.Copying.{Spells, spells_join, spells_num, Spelled, Spelling, spelled_by, spelled_such, spelled_below, spelled_ident, spelled_poison}

-- TAGS

-- 0 then the first, or 1 then the second
tagged : {A : Type 0} (a b : Reader A) (e : A → List ℕ) (s : List ℕ) (c : Cur) (from : ℕ) (k : ℕ) → k < 2 → Spells s from c.at (num_b k) → (Spells s from c.at (num_b 0) → Spelling a s c from e) → (Spells s from c.at (num_b 1) → Spelling b s c from e)
    → Spelling (elim k [ zero ↦ a | suc _ ↦ b ]) s c from e
tagged a b e s c from zero l h f g = f h
tagged a b e s c from (suc k) l h f g = let z : suc k ≡ 1 = omega arith in g (subst (λ (n : ℕ). Spells s from c.at (num_b n)) z h)

spelled_either : {A : Type 0} (a b : Reader A) (e : A → List ℕ) → ((s : List ℕ) (c : Cur) (from : ℕ) → Spells s from c.at (num_b 0) → Spelling a s c from e) → ((s : List ℕ) (c : Cur) (from : ℕ) → Spells s from c.at (num_b 1) → Spelling b s c from e) → Spelled (either a b) e
unfolding either below
spelled_either a b e f g = spelled_by λ s c. leads_bind (below 2) _ λ k d h. tagged a b e s d c.at k (ltb-true k 2 (such_got num _ 5 s c h).1) ((spelled_below 2).is s c k d h) (f s d c.at) (g s d c.at)

-- "'Maybe X' is 0 then X, or 1 then a poison."
pub spelled_maybe : {A : Type 0} {m : Reader A} {e : A → List ℕ} → Spelled m e → Spelled (maybe m) (maybe_b e)
unfolding maybe maybe_b
spelled_maybe {m = m} {e} p = spelled_either _ _ (maybe_b e)
    (λ s c from h. leads_bind m _ λ x d g. leads_got (ok x) (spells_join h (p.is s c x d g)))
    (λ s c from h. leads_bind read_poison _ λ z d g. leads_got (err z) (spells_join h (spelled_poison.is s c z d g)))

-- "'Option X' is 0, or 1 then X."
pub spelled_option : {A : Type 0} {m : Reader A} {e : A → List ℕ} → Spelled m e → Spelled (option m) (option_b e)
unfolding option option_b
spelled_option {m = m} {e} p = spelled_either _ _ (option_b e)
    (λ s c from h. leads_got none h)
    (λ s c from h. leads_bind m _ λ x d g. leads_got (some x) (spells_join h (p.is s c x d g)))

-- TYPES

-- the number of a kind: that of its own, where it has one
unfoldable code : ℕ → TyKind → ℕ
code n k_plain = n
code n k_array = 14
code n k_named_length = 15
code n k_arraylike = n
code n k_struct = 20
code n k_word = 21
code n k_unresolved = 22
code n k_nameless = 23
code n k_pointer = 24
code n k_view = 25

-- kinds in the order of their numbers
data Coded : ℕ → List TyKind → Type 0 where
  end : {n : ℕ} → Coded n []
  next : {n : ℕ} {k : TyKind} {ks : List TyKind} → code n k ≡ n → Coded (n + 1) ks → Coded n (k ∷ ks)

coded_at : {from : ℕ} {ks : List TyKind} → Coded from ks → (n : ℕ) → code (from + n) (get_or ks n k_plain) ≡ from + n
unfolding code
coded_at end n = refl
coded_at {from} (next {k = k} e c) zero = let z : from + 0 ≡ from = omega arith in rw z e
coded_at {from} (next {ks = ks} e c) (suc n) =
    let z : from + 1 + n ≡ from + suc n = omega arith in
    subst (λ (j : ℕ). code j (get_or ks n k_plain) ≡ j) z (coded_at c n)

coded : Coded 0 ty_kinds
unfolding ty_kinds code
coded =
    next refl (next refl (next refl (next refl (next refl (next refl (next refl (next refl (next refl (next refl (next refl (next refl (next refl (next refl (next refl (next refl (next refl (next refl (next refl (next refl (next refl (next refl (next refl (next refl (next refl (next refl end)))))))))))))))))))))))))

known : (n : ℕ) → code n (get_or ty_kinds n k_plain) ≡ n
known n = let z : 0 + n ≡ n = omega arith in subst (λ (j : ℕ). code j (get_or ty_kinds n k_plain) ≡ j) z (coded_at coded n)

kind_is : {s : List ℕ} {from to k n : ℕ} → k ≡ n → Spells s from to (num_b n) → Spells s from to (num_b k)
kind_is {s} {from} {to} e h = subst (λ (j : ℕ). Spells s from to (num_b j)) (sym e) h

-- what follows a type's kind n
type_of : {t u : Reader (Ty Spot)} → Spelled t ty_b → Spelled u ty_b → (n : ℕ) (k : TyKind) → code n k ≡ n → (s : List ℕ) (c : Cur) (from : ℕ) → Spells s from c.at (num_b n) → Spelling (ty_of t u n k) s c from ty_b
unfolding ty_of ty_b code
type_of p q n k_plain e s c from h = leads_got (plain n) h
type_of {t} p q n k_array e s c from h = leads_bind t _ λ x d g. leads_bind num _ λ l b f. leads_got (array x l) (spells_join (kind_is e h) (spells_join (p.is s c x d g) (spells_num s d f)))
type_of {t} p q n k_named_length e s c from h = leads_bind t _ λ x d g. leads_bind ident _ λ i b f. leads_got (array_with_named_length x i) (spells_join (kind_is e h) (spells_join (p.is s c x d g) (spelled_ident.is s d i b f)))
type_of {t} p q n k_arraylike e s c from h = leads_bind t _ λ x d g. leads_got (arraylike n x) (spells_join h (p.is s c x d g))
type_of p q n k_struct e s c from h = leads_bind ident _ λ i d g. leads_got (struct i) (spells_join (kind_is e h) (spelled_ident.is s c i d g))
type_of p q n k_word e s c from h = leads_bind ident _ λ i d g. leads_bind num _ λ l b f. leads_got (word i l) (spells_join (kind_is e h) (spells_join (spelled_ident.is s c i d g) (spells_num s d f)))
type_of p q n k_unresolved e s c from h = leads_bind ident _ λ i d g. leads_got (unresolved i) (spells_join (kind_is e h) (spelled_ident.is s c i d g))
type_of p q n k_nameless e s c from h = leads_got nameless (kind_is e h)
type_of {u = u} p q n k_pointer e s c from h = leads_bind u _ λ x d g. leads_got (pointer x) (spells_join (kind_is e h) (q.is s c x d g))
type_of {u = u} p q n k_view e s c from h = leads_bind u _ λ x d g. leads_got (view x) (spells_join (kind_is e h) (q.is s c x d g))

pub spelled_type : (d : ℕ) (own : Bool) → Spelled (read_ty d own) ty_b
unfolding read_ty
spelled_type zero own = spelled_by λ s c. leads_deep (below 26)
spelled_type (suc d) own = spelled_by λ s c. leads_bind (such (below 26) _ 9) _ λ n b h.
    type_of (spelled_type d own) (spelled_type d false) n (get_or ty_kinds n k_plain) (known n) s b c.at ((spelled_such _ 9 (spelled_below 26)).is s c n b h)

-- "'Carried' is option maybe type"
pub spelled_carried : (d : ℕ) → Spelled (option (maybe (read_ty d false))) carried_b
unfolding carried_b
spelled_carried d = spelled_option (spelled_maybe (spelled_type d false))
