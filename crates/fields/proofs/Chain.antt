-- How a reader that keeps no tree goes along with the definition that makes one.
use Rattle.std.proofs.Common.{ℕ, zero, suc, ◌-◌, ◌≡◌, refl, sym, ap, ◌∙◌, List, nat_eq, false, if◌then◌else◌, Result, Ok, Err, arith}
use lib.Dec.{eqb}
use borrow.Author.Tests.{ne_eqb}
use Rattle.penne.specs.Reader.{Counts, Cur, Got, got, refused, Reader, ◌>>=◌, ret, num, too_deep}
use Rattle.penne.specs.Tree.{Spot}
use Rattle.penne.specs.Read.{place}
use Rattle.fields.specs.declared.refusal.Refusal.{Refusal}
use Rattle.fields.specs.Answers.{cursor, refusal, forget, Gives, Reads, Ends, Skips, two_places, operator}

pub never : {X : Type 0} {c : Cur} {n p : ℕ} → ◌≡◌ {A = Got (Unit {0})} (got tt c) (refused n p) → X
never e = cc

pub never' : {X : Type 0} {c : Cur} {n p : ℕ} → ◌≡◌ {A = Got (Unit {0})} (refused n p) (got tt c) → X
never' e = never (sym e)

pub here : {c d : Cur} → ◌≡◌ {A = Got (Unit {0})} (got tt c) (got tt d) → c ≡ d
here e = cc

-- what `◌>>=◌` makes of the first answer
abbrev pub after : {A B : Type 0} → (A → Reader B) → List ℕ → Got A → Got B
after f s (got a d) = f a s d
after f s (refused n p) = refused n p

pub then_is : {A B : Type 0} (m : Reader A) (f : A → Reader B) (s : List ℕ) (c : Cur) → (m >>= f) s c ≡ after f s (m s c)
unfolding ◌>>=◌
then_is m f s c = then_go f s (m s c)
  where
    then_go : {A B : Type 0} (f : A → Reader B) (s : List ℕ) (q : Got A) → elim q as (λ _. Got B) [ got a next ↦ f a s next | refused n p ↦ refused n p ] ≡ after f s q
    then_go f s (got a d) = refl
    then_go f s (refused n p) = refl

-- A NUMBER

pub reads : {m : Reader ℕ} {s : List ℕ} {names at : ℕ} {r : Result (ℕ × ℕ) Refusal} → Gives m s at r → Reads m s names at r
reads {names = names} g = record { is = λ k. g.is names k }

pub skips : {A : Type 0} (m : Reader A) {s : List ℕ} {names at : ℕ} {r : Result ℕ Refusal} → Skips m s at r → Ends m s names at r
skips m {names = names} g = record { is = λ k. g.is names k }

module _ {B : Type 0} (f : ℕ → Reader B) {m : Reader ℕ} {s : List ℕ} {names at : ℕ} where
  -- a number was read, and the reader goes on by its value
  pub goes : {v n : ℕ} → Reads m s names at (Ok (v, n)) → (k : Counts) → (m >>= f) s (cursor at names k) ≡ f v s (cursor n names k)
  goes g k = then_is m f s _ ∙ ap (after f s) (g.is k)

  pub stops : {e : Refusal} → Reads m s names at (Err e) → (k : Counts) → (m >>= f) s (cursor at names k) ≡ refusal e
  stops g k = then_is m f s _ ∙ ap (after f s) (g.is k)

-- where a number ends
abbrev pub ended : {A : Type 0} → Result (A × ℕ) Refusal → Result ℕ Refusal
ended (Ok x) = Ok x.1
ended (Err e) = Err e

-- a number read is a part read
pub ends_number : {m : Reader ℕ} {s : List ℕ} {names at : ℕ} (r : Result (ℕ × ℕ) Refusal) → Reads m s names at r → Ends m s names at (ended r)
unfolding forget
ends_number (Ok x) g = record { is = λ k. ap forget (g.is k) }
ends_number (Err e) g = record { is = λ k. ap forget (g.is k) }

-- a place that stands by itself
pub ends_place : {s : List ℕ} {names at : ℕ} (r : Result (ℕ × ℕ) Refusal) → Gives num s at r → Ends place s names at (ended r)
unfolding place ret forget
ends_place {names = names} (Ok x) g = record { is = λ k. ap forget (goes _ (reads {names = names} g) k) }
ends_place {names = names} (Err e) g = record { is = λ k. ap forget (stops _ (reads {names = names} g) k) }

module _ {s : List ℕ} {names at : ℕ} where
  pub number_got : {m : Reader ℕ} {v n : ℕ} → Reads m s names at (Ok (v, n)) → Ends m s names at (Ok n)
  number_got g = ends_number (Ok _) g

  pub number_refused : {m : Reader ℕ} {e : Refusal} → Reads m s names at (Err e) → Ends m s names at (Err e)
  number_refused g = ends_number (Err _) g

-- RUNS OF PLACES

assoc_go : {A B C : Type 0} (f : A → Reader B) (g : B → Reader C) (s : List ℕ) (q : Got A) → after g s (after f s q) ≡ after (λ x. f x >>= g) s q
unfolding ◌>>=◌
assoc_go f g s (got a c) = then_back g s (f a s c)
  where
    then_back : {B C : Type 0} (g : B → Reader C) (s : List ℕ) (q : Got B) → after g s q ≡ elim q as (λ _. Got C) [ got b next ↦ g b s next | refused n p ↦ refused n p ]
    then_back g s (got b d) = refl
    then_back g s (refused n p) = refl
assoc_go f g s (refused i p) = refl

pub assoc : {A B C : Type 0} (m : Reader A) (f : A → Reader B) (g : B → Reader C) → (m >>= f) >>= g ≡ (m >>= λ x. f x >>= g)
assoc m f g = λ i s c. (then_is (m >>= f) g s c ∙ ap (after g s) (then_is m f s c) ∙ assoc_go f g s (m s c) ∙ sym (then_is m (λ x. f x >>= g) s c)) i

-- "2p"
pub places_same : {B : Type 0} (f : Spot × Spot → Reader B) → (place >>= λ p. place >>= λ q. f (p, q)) ≡ (two_places >>= f)
unfolding two_places ◌>>=◌ ret
places_same f = sym (assoc place (λ p. place >>= λ q. ret (p, q)) f ∙ ap (λ (g : Spot → Reader _). place >>= g) (λ i p. assoc place (λ q. ret (p, q)) f i))

-- "op, 2p"
pub operator_same : {B : Type 0} (f : ℕ → Spot × Spot → Reader B) → (num >>= λ op. place >>= λ p. place >>= λ q. f op (p, q)) ≡ (operator >>= λ x. f x.0 x.1)
unfolding operator ◌>>=◌ ret
operator_same f =
    ap (λ (g : ℕ → Reader _). num >>= g) (λ i op. places_same (f op) i) ∙
    sym (assoc {B = ℕ × (Spot × Spot)} num (λ op. two_places >>= λ r. ret (op, r)) (λ x. f x.0 x.1) ∙ ap (λ (g : ℕ → Reader _). num >>= g) (λ i op. assoc {B = ℕ × (Spot × Spot)} two_places (λ r. ret (op, r)) (λ x. f x.0 x.1) i))

-- NODES

-- the nodes N with so many levels left: a first number by H, then what K says
pub record Node {A : Type 0} (H : Reader ℕ) (N : ℕ → Reader A) (K : ℕ → ℕ → Reader A) : Type 0 where
  pub zero_is : N 0 ≡ too_deep H
  pub suc_is : (l : ℕ) → N (suc l) ≡ (H >>= λ n. K l n)

-- a node's end, by what its first number was read as
abbrev pub node_end : {A : Type 0} → (ℕ → ℕ → Reader A) → (left : ℕ) → List ℕ → (at : ℕ) → Got ℕ → Got (Unit {0})
node_end K left s at (got v d) = if nat_eq left 0 then refused 7 at else forget (K (left - 1) v s d)
node_end K left s at (refused i p) = refused i p

module _ {A : Type 0} {H : Reader ℕ} {N : ℕ → Reader A} {K : ℕ → ℕ → Reader A} (how : Node H N K) where
  deep_go : (s : List ℕ) (at : ℕ) (q : Got ℕ) → forget {A = A} (elim q as (λ _. Got A) [ got v d ↦ refused 7 at | refused i p ↦ refused i p ]) ≡ node_end K 0 s at q
  unfolding forget
  deep_go s at (got v d) = refl
  deep_go s at (refused i p) = refl

  in_go : (l : ℕ) (s : List ℕ) (at : ℕ) (q : Got ℕ) → forget (after (K l) s q) ≡ node_end K (suc l) s at q
  unfolding forget
  in_go l s at (got v d) =
      let e : suc l - 1 ≡ l = omega arith in
      let z : eqb (suc l) 0 ≡ false = ne_eqb (suc l) 0 (λ x. absurd (omega (arith, x))) in
      rw (z, e) refl
  in_go l s at (refused i p) = refl

  pub node_is : (left : ℕ) (s : List ℕ) (c : Cur) → forget (N left s c) ≡ node_end K left s c.at (H s c)
  unfolding too_deep
  node_is zero s c = ap (λ (m : Reader A). forget (m s c)) how.zero_is ∙ deep_go s c.at (H s c)
  node_is (suc l) s c = ap (λ (m : Reader A). forget (m s c)) (how.suc_is l) ∙ ap forget (then_is H (K l) s c) ∙ in_go l s c.at (H s c)
