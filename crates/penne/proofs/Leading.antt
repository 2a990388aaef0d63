-- Whatever a reader reads: its parts one after another.
use Prim.Native.Nat.{ℕ}
use mathlib.Core.Bool.{Bool, true, false}
use mathlib.Core.Path.{◌≡◌, refl, ap, subst}
use mathlib.Core.List.{List}
use native.Mathlib.Omega.{arith}
use Rattle.penne.specs.Reader.{Cur, Got, got, refused, Reader, ◌>>=◌, such, too_deep}

-- whatever is got, the claim holds of it
pub record Leads {A : Type 0} (q : Got A) (X : A → Cur → Type 0) : Type 0 where
  pub to : {x : A} {d : Cur} → q ≡ got x d → X x d

-- a refusal is no answer
number_of : {A : Type 0} → Got A → ℕ
number_of (got a c) = 0
number_of (refused n p) = 1

pub never : {A X : Type 0} {x : A} {c : Cur} {n p : ℕ} → ◌≡◌ {A = Got A} (refused n p) (got x c) → X
unfolding number_of
never e = absurd (let z : 1 ≡ 0 = ap number_of e in omega arith)

-- what was got is one value up to one cursor
pub same_value : {A : Type 0} {x y : A} {c d : Cur} → got x c ≡ got y d → x ≡ y
same_value e = cc

pub same_cur : {A : Type 0} {x y : A} {c d : Cur} → got x c ≡ got y d → c ≡ d
same_cur e = cc

pub leads_got : {A : Type 0} {X : A → Cur → Type 0} (x : A) (d : Cur) → X x d → Leads (got x d) X
leads_got {A} {X} x d h = record { to = λ {x = y} {d = e} q. let u : x ≡ y = cc in let v : d ≡ e = cc in subst (λ (z : A). X z e) u (subst (λ (z : Cur). X x z) v h) }

pub leads_no : {A : Type 0} {X : A → Cur → Type 0} {n p : ℕ} → Leads (refused n p) X
leads_no = record { to = λ e. never e }

pub leads_bind : {A B : Type 0} {X : B → Cur → Type 0} (m : Reader A) (f : A → Reader B) (s : List ℕ) (c : Cur) → ((x : A) (d : Cur) → m s c ≡ got x d → Leads (f x s d) X) → Leads ((m >>= f) s c) X
unfolding ◌>>=◌
leads_bind {A} {B} {X} m f s c h = go (m s c) refl
  where
    go : (q : Got A) → m s c ≡ q → Leads {A = B} (elim q [ got a next ↦ f a s next | refused n p ↦ refused n p ]) X
    go (got x d) e = h x d e
    go (refused n p) e = leads_no

-- both parts of what was got
pub bind_got : {A B : Type 0} (m : Reader A) (f : A → Reader B) (s : List ℕ) (c : Cur) {y : B} {d : Cur} → (m >>= f) s c ≡ got y d → (x : A) × (e : Cur) × (m s c ≡ got x e) × (f x s e ≡ got y d)
bind_got m f s c = (leads_bind {X = λ y d. (x : _) × (e : Cur) × (m s c ≡ got x e) × (f x s e ≡ got y d)} m f s c (λ x e g. record { to = λ h. (x, e, g, h) })).to

pub leads_such : {A : Type 0} {X : A → Cur → Type 0} (m : Reader A) (test : A → Cur → Bool) (n : ℕ) (s : List ℕ) (c : Cur) → Leads (m s c) X → Leads (such m test n s c) X
unfolding such
leads_such {A} {X} m test n s c h = go (m s c) h
  where
    pick : (b : Bool) (x : A) (d : Cur) → Leads (got x d) X → Leads {A = A} (elim b [ true ↦ got x d | false ↦ refused n c.at ]) X
    pick true x d h = h
    pick false x d h = leads_no

    go : (q : Got A) → Leads q X → Leads {A = A} (elim q [ got a next ↦ elim (test a next) [ true ↦ got a next | false ↦ refused n c.at ] | refused k p ↦ refused k p ]) X
    go (got x d) h = pick (test x d) x d h
    go (refused k p) h = leads_no

-- nothing is got beyond the limit of nesting
pub leads_deep : {A B : Type 0} {X : B → Cur → Type 0} (m : Reader A) (s : List ℕ) (c : Cur) → Leads {A = B} (too_deep m s c) X
unfolding too_deep
leads_deep {A} {B} {X} m s c = go (m s c)
  where
    go : (q : Got A) → Leads {A = B} (elim q [ got a next ↦ refused 7 c.at | refused i j ↦ refused i j ]) X
    go (got x d) = leads_no
    go (refused i j) = leads_no
