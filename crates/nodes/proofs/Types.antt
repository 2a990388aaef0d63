-- Types: what follows a kind, and what stands before it.
use Rattle.std.proofs.Common.{ℕ, zero, suc, ◌+◌, ◌-◌, ◌≤◌, ◌<◌, ◌≡◌, refl, sym, ap, ◌∙◌, Bool, true, false, ◌&&◌, not, List, get_or, take, drop, nat_eq, if◌then◌else◌, arith}
use lib.Dec.{eqb}
use lib.ListN.{replicate, get_or-replicate}
use lib.Seq.{get_or-take, get_or-drop}
use borrow.Author.Tests.{ne_eqb}
use Rattle.std.proofs.lemmas.List.{get_or_past}
use Rattle.penne.specs.Reader.{Cur, Got, got, refused, Reader, ret, below, such, too_deep}
use Rattle.penne.specs.Tree.{Spot, Ty, arraylike, struct, word, unresolved, pointer, view}
use Rattle.penne.specs.Read.{ident, read_ty, ty_of, TyKind, ty_kinds, k_plain, k_arraylike, k_array, k_named_length, k_word, k_nameless, k_struct, k_unresolved, k_pointer, k_view}
use Rattle.fields.specs.Answers.{forget, identifier_and_number}
use Rattle.fields.proofs.Chain.{after, then_is}
use Rattle.fields.proofs.Parts.{tail_is, identifier_and_number_is}

-- THE KIND

-- a run of equal entries of a table
pub run : {A : Type 0} (l : List A) (from n : ℕ) (x d : A) → take n (drop from l) ≡ replicate n x → (k : ℕ) → from ≤ k → k < from + n → get_or l k d ≡ x
run l from n x d e k lo hi =
    let i = k - from in
    let z : from + i ≡ k = omega arith in
    let h : i < n = omega arith in
    ap (λ (j : ℕ). get_or l j d) (sym z) ∙ sym (get_or-drop from l i d) ∙ sym (get_or-take n (drop from l) i d h) ∙ ap (λ (m : List _). get_or m i d) e ∙ get_or-replicate n i x d h

pub plain_kind : (k : ℕ) → k < 14 → get_or ty_kinds k k_plain ≡ k_plain
unfolding ty_kinds
plain_kind k h = run ty_kinds 0 14 k_plain k_plain refl k (omega arith) (omega arith)

pub arraylike_kind : (k : ℕ) → 16 ≤ k → k < 20 → get_or ty_kinds k k_plain ≡ k_arraylike
unfolding ty_kinds
arraylike_kind k lo hi = run ty_kinds 16 4 k_arraylike k_plain refl k lo (omega arith)

pub past_kind : (k : ℕ) → 26 ≤ k → get_or ty_kinds k k_plain ≡ k_plain
unfolding ty_kinds
past_kind k h = get_or_past ty_kinds k k_plain h

-- WHAT FOLLOWS IT

module _ (t u : Reader (Ty Spot)) (k : ℕ) (s : List ℕ) (c : Cur) where
  abbrev end : Got (Unit {0})
  end = forget (ty_of t u k (get_or ty_kinds k k_plain) s c)

  as_kind : (x : TyKind) → get_or ty_kinds k k_plain ≡ x → end ≡ forget (ty_of t u k x s c)
  as_kind x e = ap (λ (y : TyKind). forget (ty_of t u k y s c)) e

  pub plain_is : k < 14 → forget (ty_of t u k (get_or ty_kinds k k_plain) s c) ≡ got tt c
  unfolding ty_of ret forget
  plain_is h = as_kind k_plain (plain_kind k h)

  pub array_is : k ≡ 14 → forget (ty_of t u k (get_or ty_kinds k k_plain) s c) ≡ forget (ty_of t u 14 k_array s c)
  unfolding ty_of ty_kinds
  array_is e = as_kind k_array (rw e)

  pub named_is : k ≡ 15 → forget (ty_of t u k (get_or ty_kinds k k_plain) s c) ≡ forget (ty_of t u 15 k_named_length s c)
  unfolding ty_of ty_kinds
  named_is e = as_kind k_named_length (rw e)

  pub word_is : k ≡ 21 → forget (ty_of t u k (get_or ty_kinds k k_plain) s c) ≡ forget (identifier_and_number s c)
  unfolding ty_of ty_kinds identifier_and_number
  word_is e = as_kind k_word (rw e) ∙ identifier_and_number_is word s c

  pub nameless_is : k ≡ 23 → forget (ty_of t u k (get_or ty_kinds k k_plain) s c) ≡ got tt c
  unfolding ty_of ty_kinds ret forget
  nameless_is e = as_kind k_nameless (rw e)

  pub arraylike_is : 16 ≤ k → k < 20 → forget (ty_of t u k (get_or ty_kinds k k_plain) s c) ≡ forget (t s c)
  unfolding ty_of
  arraylike_is lo hi = as_kind k_arraylike (arraylike_kind k lo hi) ∙ tail_is (arraylike k) t s c

  pub struct_is : k ≡ 20 → forget (ty_of t u k (get_or ty_kinds k k_plain) s c) ≡ forget (ident s c)
  unfolding ty_of ty_kinds
  struct_is e = as_kind k_struct (rw e) ∙ tail_is struct ident s c

  pub unresolved_is : k ≡ 22 → forget (ty_of t u k (get_or ty_kinds k k_plain) s c) ≡ forget (ident s c)
  unfolding ty_of ty_kinds
  unresolved_is e = as_kind k_unresolved (rw e) ∙ tail_is unresolved ident s c

  pub pointer_is : k ≡ 24 → forget (ty_of t u k (get_or ty_kinds k k_plain) s c) ≡ forget (u s c)
  unfolding ty_of ty_kinds
  pointer_is e = as_kind k_pointer (rw e) ∙ tail_is pointer u s c

  pub view_is : k ≡ 25 → forget (ty_of t u k (get_or ty_kinds k k_plain) s c) ≡ forget (u s c)
  unfolding ty_of ty_kinds
  view_is e = as_kind k_view (rw e) ∙ tail_is view u s c

  pub past_is : 26 ≤ k → forget (ty_of t u k (get_or ty_kinds k k_plain) s c) ≡ got tt c
  unfolding ty_of ret forget
  past_is h = as_kind k_plain (past_kind k h)

-- WHAT STANDS BEFORE IT

-- a type's end, by what its kind's number was read as
abbrev pub type_end : (left : ℕ) (own : Bool) → List ℕ → (at : ℕ) → Got ℕ → Got (Unit {0})
type_end left own s at (got v d) =
    if nat_eq left 0 then refused 7 at
    else (if own && nat_eq v 23 then refused 9 at
    else forget (ty_of (read_ty (left - 1) own) (read_ty (left - 1) false) v (get_or ty_kinds v k_plain) s d))
type_end left own s at (refused i p) = refused i p

-- how the reader of a type goes on from its kind's number
abbrev on : (l : ℕ) (own : Bool) → ℕ → Reader (Ty Spot)
on l own n = ty_of (read_ty l own) (read_ty l false) n (get_or ty_kinds n k_plain)

in_go : (l : ℕ) (own : Bool) (s : List ℕ) (at v : ℕ) (d : Cur) (b : Bool) → forget (after (on l own) s (elim (not b) as (λ _. Got ℕ) [ true ↦ got v d | false ↦ refused 9 at ])) ≡ (if b then refused 9 at else forget (on l own v s d))
unfolding forget
in_go l own s at v d true = refl
in_go l own s at v d false = refl

suc_go : (l : ℕ) (own : Bool) (s : List ℕ) (at : ℕ) (q : Got ℕ) → forget (after (on l own) s (elim q as (λ _. Got ℕ) [ got v d ↦ elim (not (own && eqb v 23)) as (λ _. Got ℕ) [ true ↦ got v d | false ↦ refused 9 at ] | refused i p ↦ refused i p ])) ≡ type_end (suc l) own s at q
unfolding forget
suc_go l own s at (got v d) =
    let e : suc l - 1 ≡ l = omega arith in
    let z : eqb (suc l) 0 ≡ false = ne_eqb (suc l) 0 (λ x. absurd (omega (arith, x))) in
    rw (z, e) (in_go l own s at v d (own && eqb v 23))
suc_go l own s at (refused i p) = refl

zero_go : (own : Bool) (s : List ℕ) (at : ℕ) (q : Got ℕ) → forget {A = Ty Spot} (elim q as (λ _. Got (Ty Spot)) [ got v d ↦ refused 7 at | refused i p ↦ refused i p ]) ≡ type_end 0 own s at q
unfolding forget
zero_go own s at (got v d) = refl
zero_go own s at (refused i p) = refl

pub type_is : (left : ℕ) (own : Bool) (s : List ℕ) (c : Cur) → forget (read_ty left own s c) ≡ type_end left own s c.at (below 26 s c)
unfolding read_ty such too_deep
type_is zero own s c = zero_go own s c.at (below 26 s c)
type_is (suc l) own s c = ap forget (then_is _ _ s c) ∙ suc_go l own s c.at (below 26 s c)

pub ruleset kinds = (plain_is, array_is, named_is, word_is, nameless_is, arraylike_is, struct_is, unresolved_is, pointer_is, view_is, past_is)
