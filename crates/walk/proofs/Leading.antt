-- How a walk goes along with the decoder: a law for each thing that is read, for each call, and for the end.
use mathlib.Core.Path.{◌≡◌, refl, sym, ap, subst, ◌∙◌}
use mathlib.Core.Bool.{Bool, true, false}
use mathlib.Core.List.{List, [], ◌∷◌}
use mathlib.Core.Option.{Option, none, some}
use Prim.Native.Nat.{ℕ, zero, suc, ◌+◌, ◌-◌, ◌≤◌, ◌<◌}
use native.Mathlib.Omega.{arith}
use lib.ListN.{length}
use Rattle.std.specs.Prelude.{Result, Ok, Err}
use Rattle.fields.specs.declared.refusal.Refusal.{Refusal}
use Rattle.penne.specs.Reader.{Counts, Cur, Got, got, refused, Reader, ◌>>=◌, ret, such, num, many, plus, fits, counted, counting, too_deep}
use Rattle.penne.specs.Tree.{Spot, Ident, Poison, Maybe, ok, err}
use Rattle.penne.specs.Read.{place, ident}
use Rattle.penne.specs.Write.{poison_b}
use Rattle.penne.specs.Scopes.{Pass}
pub use Rattle.penne.proofs.Leading.{never, same_value, same_cur, bind_got}
use Rattle.penne.proofs.Leading.{leads_deep as nothing_deep}
use Rattle.fields.specs.declared.field.Identifier.{Identifier}
use Rattle.fields.specs.declared.counts.Counts as K
use Rattle.fields.specs.Answers.{row_of, cursor, number_of, end_of, ident_of, identified_of, counts_of, passed_of, Gives, Reads, Ends, Skips, Identifies, Passes, two_places, operator}
use Rattle.fields.proofs.Chain.{Node, skips, ended, ends_number, ends_place, places_same, operator_same}
use Rattle.fields.proofs.Back.{forget_got, forget_refused}
use Rattle.walk.specs.declared.state.Walk.{Walk}
use Rattle.walk.specs.declared.fault.Fault.{Fault}
use Rattle.walk.specs.Walking.{here, Ground, Good, Stands, Is, onward, silently, Did, Leads, Input, Walks, fault_b, ok_b, Answers, fine, bad, Tried, Tries}
use Rattle.walk.proofs.Loops.{Kept, kept_start, kept_more}

-- WHAT A READING TELLS

pub never_unit : {X A : Type 0} {n p : ℕ} {x : A} {d : Cur} → ◌≡◌ {A = Got A} (got x d) (refused n p) → X
never_unit e = never (sym e)

-- what `◌>>=◌` makes of the first answer
abbrev after : {A C : Type 0} → (C → Reader A) → List ℕ → Got C → Got A
after f t q = elim q [ got y next ↦ f y t next | refused i p ↦ refused i p ]

pub bind_is : {A C : Type 0} (m : Reader C) (f : C → Reader A) (t : List ℕ) (c : Cur) {y : C} {e : Cur} → m t c ≡ got y e → (m >>= f) t c ≡ f y t e
unfolding ◌>>=◌
bind_is m f t c h = ap (after f t) h

-- a test that was passed
unfoldable such_after : {A : Type 0} → (A → Cur → Bool) → (n at : ℕ) → Got A → Got A
such_after test n at q = elim q [ got a next ↦ elim (test a next) [ true ↦ got a next | false ↦ refused n at ] | refused k p ↦ refused k p ]

such_test : {A : Type 0} (b : Bool) (a : A) (n at : ℕ) (next : Cur) {x : A} {d : Cur} → ◌≡◌ {A = Got A} (elim b [ true ↦ got a next | false ↦ refused n at ]) (got x d) → (b ≡ true) × (got a next ≡ got x d)
such_test true a n at next g = (refl, g)
such_test false a n at next g = never g

such_go : {A : Type 0} (test : A → Cur → Bool) (n at : ℕ) (q : Got A) {x : A} {d : Cur} → such_after test n at q ≡ got x d → (q ≡ got x d) × (test x d ≡ true)
unfolding such_after
such_go test n at (got a next) {x} {d} g =
    let z = such_test (test a next) a n at next g in
    (z.1, ap (λ (y : _). test y d) (sym (same_value z.1)) ∙ ap (test a) (sym (same_cur z.1)) ∙ z.0)
such_go test n at (refused k p) g = never g

pub such_got : {A : Type 0} (m : Reader A) (test : A → Cur → Bool) (n : ℕ) (t : List ℕ) (c : Cur) {x : A} {d : Cur} → such m test n t c ≡ got x d → (m t c ≡ got x d) × (test x d ≡ true)
unfolding such such_after
such_got m test n t c g = such_go test n c.at (m t c) g

-- ALONG THE DECODER

pub walks : {A : Type 0} {t : List ℕ} {m : Reader A} {f : A → Ground → Ground} {s : Walk} {o l w : List ℕ} {r : Walk} {o' l' w' : List ℕ}
    → (Input t → (a : Ground) → Is s o l w a → Leads m t (here s) (λ x d. Did d (f x a) r o' l' w')) → Walks t m f s o l w r o' l' w'
walks k = record { does = k }

pub tries : {A B : Type 0} {t : List ℕ} {m : Reader A} {p : A → Pass Spot (Maybe Spot B)} {e : B → List ℕ} {s : Walk} {o l w : List ℕ} {r : Walk} {f : Option Fault} {o' l' w' : List ℕ}
    → (Input t → (a : Ground) → Is s o l w a → Leads m t (here s) (λ x d. Tried p e x d a r f o' l' w')) → Tries t m p e s o l w r f o' l' w'
tries k = record { does = k }

module _ {A : Type 0} {t : List ℕ} {P : A → Cur → Type 0} where
  pub leads_same : {m m' : Reader A} {c : Cur} → m ≡ m' → Leads m' t c P → Leads m t c P
  leads_same {c = c} h k = record { to = λ x d g. k.to x d (sym (ap (λ (f : Reader A). f t c) h) ∙ g) }

  -- at the same place, said otherwise
  pub leads_at : {m : Reader A} {c d : Cur} → c ≡ d → Leads m t c P → Leads m t d P
  leads_at {m} e k = subst (λ (b : Cur). Leads m t b P) e k

  -- one thing and then the rest
  pub leads_bind : {C : Type 0} (m : Reader C) (f : C → Reader A) {c : Cur} → ((y : C) (e : Cur) → m t c ≡ got y e → Leads (f y) t e P) → Leads (m >>= f) t c P
  leads_bind m f {c} next = record { to = λ x d g. let b = bind_got m f t c g in (next b.0 b.1 b.2).to x d b.3 }

  -- m reads y up to e
  pub leads_when : {C : Type 0} (m : Reader C) (f : C → Reader A) {c : Cur} {y : C} {e : Cur} → m t c ≡ got y e → Leads (f y) t e P → Leads (m >>= f) t c P
  leads_when {C} m f {y = y} {e} h next = leads_bind m f λ z d g.
      let q = sym h ∙ g in
      subst (λ (v : C). Leads (f v) t d P) (same_value q) (subst (λ (b : Cur). Leads (f y) t b P) (same_cur q) next)

  -- m refuses: nothing is promised
  pub leads_never : {C : Type 0} (m : Reader C) (f : C → Reader A) {c : Cur} {i p : ℕ} → m t c ≡ refused i p → Leads (m >>= f) t c P
  leads_never m f h = leads_bind m f λ y e g. never (sym h ∙ g)

  pub leads_refused : {m : Reader A} {c : Cur} {i p : ℕ} → m t c ≡ refused i p → Leads m t c P
  leads_refused h = record { to = λ x d g. never (sym h ∙ g) }

  -- the end, with any claim
  pub leads_got : (x : A) {c : Cur} → P x c → Leads (ret x) t c P
  unfolding ret
  leads_got x {c} k = record { to = λ y d g. subst (λ (z : A). P z d) (same_value g) (subst (λ (e : Cur). P x e) (same_cur g) k) }

  -- a test was passed
  pub leads_such : {C : Type 0} (m : Reader C) (test : C → Cur → Bool) (n : ℕ) (f : C → Reader A) {c : Cur} → ((y : C) (e : Cur) → m t c ≡ got y e → test y e ≡ true → Leads (f y) t e P) → Leads (such m test n >>= f) t c P
  leads_such m test n f {c} next = leads_bind _ f λ y e g. let z = such_got m test n t c g in next y e z.0 z.1

  -- a number was read, or none
  module _ (f : ℕ → Reader A) {m : Reader ℕ} {names at : ℕ} {k : Counts} {m₁ : Result (ℕ × ℕ) Refusal} (g : Reads m t names at m₁) where
    pub leads_read : {v n : ℕ} → m₁ ≡ Ok (v, n) → Leads (f v) t (cursor n names k) P → Leads (m >>= f) t (cursor at names k) P
    leads_read e next = leads_when m f (g.is k ∙ ap (number_of names k) e) next

    pub leads_unread : {x : Refusal} → m₁ ≡ Err x → Leads (m >>= f) t (cursor at names k) P
    leads_unread e = leads_never m f (g.is k ∙ ap (number_of names k) e)

  -- an identifier was read, or none
  module _ (f : Ident Spot → Reader A) {names at : ℕ} {k : Counts} {r : Result (Identifier × ℕ) Refusal} (g : Identifies t names at r) where
    pub leads_identified : {i : Identifier} {n : ℕ} → r ≡ Ok (i, n) → Leads (f (ident_of at i)) t (cursor n names k) P → Leads (ident >>= f) t (cursor at names k) P
    leads_identified e next = leads_when ident f (g.is k ∙ ap (identified_of names at k) e) next

    pub leads_unidentified : {x : Refusal} → r ≡ Err x → Leads (ident >>= f) t (cursor at names k) P
    leads_unidentified e = leads_never ident f (g.is k ∙ ap (identified_of names at k) e)

module _ {A : Type 0} {t : List ℕ} {P : A → Cur → Type 0} {C : Type 0} (f : C → Reader A) {m : Reader C} {names at : ℕ} where
  -- a part was passed over, or refused
  module _ {k : Counts} {m₁ : Result ℕ Refusal} (g : Ends m t names at m₁) where
    pub leads_skip : {n : ℕ} → m₁ ≡ Ok n → ((y : C) → m t (cursor at names k) ≡ got y (cursor n names k) → Leads (f y) t (cursor n names k) P) → Leads (m >>= f) t (cursor at names k) P
    leads_skip e next = let z = forget_got (m t (cursor at names k)) _ (g.is k ∙ ap (end_of names k) e) in leads_when m f z.1 (next z.0 z.1)

    pub leads_unskip : {x : Refusal} → m₁ ≡ Err x → Leads (m >>= f) t (cursor at names k) P
    leads_unskip e = leads_never m f (forget_refused (m t (cursor at names k)) _ _ (g.is k ∙ ap (end_of names k) e))

  -- the same, where it may count
  module _ {k : K.Counts} {r : Result (ℕ × K.Counts) Refusal} (g : Passes m t names k at r) where
    pub leads_pass : {n : ℕ} {k' : K.Counts} → r ≡ Ok (n, k') → ((y : C) → m t (cursor at names (counts_of k)) ≡ got y (cursor n names (counts_of k')) → Leads (f y) t (cursor n names (counts_of k')) P) → Leads (m >>= f) t (cursor at names (counts_of k)) P
    leads_pass e next = let z = forget_got (m t (cursor at names (counts_of k))) _ (g.is ∙ ap (passed_of names) e) in leads_when m f z.1 (next z.0 z.1)

    pub leads_unpass : {x : Refusal} → r ≡ Err x → Leads (m >>= f) t (cursor at names (counts_of k)) P
    leads_unpass e = leads_never m f (forget_refused (m t (cursor at names (counts_of k))) _ _ (g.is ∙ ap (passed_of names) e))

-- a part that is passed over and is the whole
module _ {A : Type 0} {t : List ℕ} {P : A → Cur → Type 0} {m : Reader A} {names at : ℕ} {k : Counts} {m₁ : Result ℕ Refusal} (g : Ends m t names at m₁) where
  pub leads_part : {n : ℕ} → m₁ ≡ Ok n → ((y : A) → m t (cursor at names k) ≡ got y (cursor n names k) → P y (cursor n names k)) → Leads m t (cursor at names k) P
  leads_part {n} e next =
      let z = forget_got (m t (cursor at names k)) _ (g.is k ∙ ap (end_of names k) e) in
      record { to = λ x d h. let q = sym z.1 ∙ h in subst (λ (c : Cur). P x c) (same_cur q) (subst (λ (y : A). P y (cursor n names k)) (same_value q) (next z.0 z.1)) }

  pub leads_ended : {x : Refusal} → m₁ ≡ Err x → Leads m t (cursor at names k) P
  leads_ended e = leads_refused (forget_refused (m t (cursor at names k)) _ _ (g.is k ∙ ap (end_of names k) e))

-- a part that is refused, where it may count
pub leads_unpassed : {A : Type 0} {t : List ℕ} {P : A → Cur → Type 0} {m : Reader A} {names at : ℕ} {k : K.Counts} {x : Refusal} → Passes m t names k at (Err x) → Leads m t (cursor at names (counts_of k)) P
leads_unpassed {t = t} {m = m} {names} {at} {k} g = leads_refused (forget_refused (m t (cursor at names (counts_of k))) _ _ g.is)

-- a number that was read is a part that was passed over, and so is a place
module _ {t : List ℕ} {names at : ℕ} {r : Result (ℕ × ℕ) Refusal} where
  module _ {m : Reader ℕ} (g : Reads m t names at r) where
    pub number_ok : {v n : ℕ} → r ≡ Ok (v, n) → Ends m t names at (Ok n)
    number_ok e = subst (λ (x : Result ℕ Refusal). Ends m t names at x) (ap ended e) (ends_number r g)

    pub number_err : {x : Refusal} → r ≡ Err x → Ends m t names at (Err x)
    number_err e = subst (λ (x : Result ℕ Refusal). Ends m t names at x) (ap ended e) (ends_number r g)

  module _ (g : Gives num t at r) where
    pub place_ok : {v n : ℕ} → r ≡ Ok (v, n) → Ends place t names at (Ok n)
    place_ok e = subst (λ (x : Result ℕ Refusal). Ends place t names at x) (ap ended e) (ends_place r g)

    pub place_err : {x : Refusal} → r ≡ Err x → Ends place t names at (Err x)
    place_err e = subst (λ (x : Result ℕ Refusal). Ends place t names at x) (ap ended e) (ends_place r g)

-- PLACES

module _ {A : Type 0} {t : List ℕ} {P : A → Cur → Type 0} where
  -- a place that stands by itself
  module _ (f : Spot → Reader A) {names at : ℕ} {k : Counts} {m₁ : Result (ℕ × ℕ) Refusal} (g : Gives num t at m₁) where
    pub leads_place : {v n : ℕ} → m₁ ≡ Ok (v, n) → Leads (f (record { number = v; from = at })) t (cursor n names k) P → Leads (place >>= f) t (cursor at names k) P
    unfolding place ◌>>=◌ ret
    leads_place {v} {n} e next =
        let z : num t (cursor at names k) ≡ got v (cursor n names k) = g.is names k ∙ ap (number_of names k) e in
        let spot : ℕ → Spot = λ x. record { number = x; from = at } in
        leads_when place f (ap (after (λ x. ret (spot x)) t) z) next

    pub leads_unplace : {x : Refusal} → m₁ ≡ Err x → Leads (place >>= f) t (cursor at names k) P
    unfolding place ◌>>=◌ ret
    leads_unplace {x} e =
        let z : num t (cursor at names k) ≡ refused (row_of x.reason) x.place = g.is names k ∙ ap (number_of names k) e in
        let spot : ℕ → Spot = λ x. record { number = x; from = at } in
        leads_never place f (ap (after (λ x. ret (spot x)) t) z)

  -- "2p"
  module _ (f : Spot → Spot → Reader A) {names at : ℕ} {k : Counts} {m₁ : Result ℕ Refusal} (g : Skips two_places t at m₁) where
    pub leads_places : {n : ℕ} → m₁ ≡ Ok n → ((p q : Spot) → two_places t (cursor at names k) ≡ got (p, q) (cursor n names k) → Leads (f p q) t (cursor n names k) P) → Leads (place >>= λ p. place >>= λ q. f p q) t (cursor at names k) P
    leads_places e next = leads_same (places_same λ x. f x.0 x.1) (leads_skip _ (skips _ g) e λ x h. next x.0 x.1 h)

    pub leads_unplaces : {x : Refusal} → m₁ ≡ Err x → Leads (place >>= λ p. place >>= λ q. f p q) t (cursor at names k) P
    leads_unplaces e = leads_same (places_same λ x. f x.0 x.1) (leads_unskip _ (skips _ g) e)

  -- "op, 2p"
  module _ (f : ℕ → Spot → Spot → Reader A) {names at : ℕ} {k : Counts} {m₁ : Result ℕ Refusal} (g : Skips operator t at m₁) where
    pub leads_operator : {n : ℕ} → m₁ ≡ Ok n → ((op : ℕ) (p q : Spot) → operator t (cursor at names k) ≡ got (op, (p, q)) (cursor n names k) → Leads (f op p q) t (cursor n names k) P)
        → Leads (num >>= λ op. place >>= λ p. place >>= λ q. f op p q) t (cursor at names k) P
    leads_operator e next = leads_same (operator_same λ op x. f op x.0 x.1) (leads_skip _ (skips _ g) e λ x h. next x.0 x.1.0 x.1.1 h)

    pub leads_unoperator : {x : Refusal} → m₁ ≡ Err x → Leads (num >>= λ op. place >>= λ p. place >>= λ q. f op p q) t (cursor at names k) P
    leads_unoperator e = leads_same (operator_same λ op x. f op x.0 x.1) (leads_unskip _ (skips _ g) e)

-- CALLS

-- another walk over a part, and then the rest
pub leads_call : {A C : Type 0} {P : A → Cur → Type 0} (f : C → Reader A) {t : List ℕ} {m : Reader C} {g : C → Ground → Ground} {s₁ : Walk} {o₁ l₁ w₁ : List ℕ} {s₂ : Walk} {o₂ l₂ w₂ : List ℕ} {b : Ground}
    → Walks t m g s₁ o₁ l₁ w₁ s₂ o₂ l₂ w₂ → Input t → Is s₁ o₁ l₁ w₁ b → ((x : C) → m t (here s₁) ≡ got x (here s₂) → Is s₂ o₂ l₂ w₂ (g x b) → Leads (f x) t (here s₂) P) → Leads (m >>= f) t (here s₁) P
leads_call {P = P} f {t} {m} {b = b} k j i next = leads_bind m f λ y d g.
    let z = (k.does j b i).to y d g in
    subst (λ (c : Cur). Leads (f y) t c P) (sym z.cur) (next y (g ∙ ap (got y) z.cur) z.is)

-- what writes whole or not at all, and then the rest
pub leads_tried : {A C D : Type 0} {P : A → Cur → Type 0} (f : C → Reader A) {t : List ℕ} {m : Reader C} {p : C → Pass Spot (Maybe Spot D)} {e : D → List ℕ} {s₁ : Walk} {o₁ l₁ w₁ : List ℕ} {s₂ : Walk} {h : Option Fault} {o₂ l₂ w₂ : List ℕ} {b : Ground}
    → Tries t m p e s₁ o₁ l₁ w₁ s₂ h o₂ l₂ w₂ → Input t → Is s₁ o₁ l₁ w₁ b
    → ((x : C) → m t (here s₁) ≡ got x (here s₂) → Is s₂ o₂ l₂ w₂ (onward p (ok_b e) x b) → (Good (silently p x b) → Answers h (p x b.st).0) → Leads (f x) t (here s₂) P) → Leads (m >>= f) t (here s₁) P
leads_tried {P = P} f {t} {m} {b = b} k j i next = leads_bind m f λ y d g.
    let z = (k.does j b i).to y d g in
    subst (λ (c : Cur). Leads (f y) t c P) (sym z.did.cur) (next y (g ∙ ap (got y) z.did.cur) z.did.is z.told)

-- what was told of a poison
pub told_fine : {A : Type 0} {h : Option Fault} {y : Maybe Spot A} → Answers h y → h ≡ none → (x : A) × (y ≡ ok x)
told_fine (fine {x = x}) e = (x, refl)
told_fine (bad q) e = absurd (let z : ◌≡◌ {A = ℕ} 0 1 = cc in omega arith)

pub told_bad : {A : Type 0} {h : Option Fault} {y : Maybe Spot A} {f : Fault} → Answers h y → h ≡ some f → (z : Poison Spot) × (y ≡ err z) × (fault_b f ≡ poison_b z)
told_bad fine e = absurd (let z : ◌≡◌ {A = ℕ} 0 1 = cc in omega arith)
told_bad {f = f} (bad {f = g} {z = z} q) e = let d : g ≡ f = cc in (z, refl, ap fault_b (sym d) ∙ q)

-- THE END

-- a ground under another name
pub is_same : {s : Walk} {o l w : List ℕ} {a b : Ground} → (Good b → a ≡ b) → Is s o l w a → Is s o l w b
is_same {s} {o} {l} {w} e i = record { when = λ z. subst (λ (g : Ground). Stands s o l w g) (e z) (i.when (subst (λ (g : Ground). Good g) (sym (e z)) z)) }

pub leads_end : {A : Type 0} {g : A → Ground} {t : List ℕ} {c : Cur} {r : Walk} {o l w : List ℕ} {b : Ground} (x : A) → c ≡ here r → Is r o l w b → (Good (g x) → b ≡ g x) → Leads (ret x) t c (λ y d. Did d (g y) r o l w)
leads_end x h i e = leads_got x (record { cur = h; is = is_same e i })

-- a walk over the last part
pub leads_last : {A C : Type 0} {F : A → Ground} (k : C → A) {t : List ℕ} {m : Reader C} {g : C → Ground → Ground} {s₁ : Walk} {o₁ l₁ w₁ : List ℕ} {s₂ : Walk} {o₂ l₂ w₂ : List ℕ} {b : Ground}
    → Walks t m g s₁ o₁ l₁ w₁ s₂ o₂ l₂ w₂ → Input t → Is s₁ o₁ l₁ w₁ b → ((x : C) → Good (F (k x)) → g x b ≡ F (k x)) → Leads (m >>= λ x. ret (k x)) t (here s₁) (λ y d. Did d (F y) s₂ o₂ l₂ w₂)
leads_last k v h i e = leads_call _ v h i λ x _ i₁. leads_end (k x) refl i₁ (e x)

-- LISTS

-- what is done to a list is done to its items in turn
pub record Listed {A : Type 0} (f : A → Ground → Ground) (fs : List A → Ground → Ground) : Type 0 where
  pub nil_is : (a : Ground) → a ≡ fs [] a
  pub cons_is : (x : A) (xs : List A) (a : Ground) → fs xs (f x a) ≡ fs (x ∷ xs) a

-- The loop: whatever walks the rest of the items from here has walked all n of them from the beginning.
pub record Going {A : Type 0} (t : List ℕ) (m : Reader A) (fs : List A → Ground → Ground) (n : ℕ) (s₀ : Walk) (o₀ l₀ w₀ : List ℕ) (rest : ℕ) (s : Walk) (o l w : List ℕ) : Type 0 where
  pub kept : Kept o₀ l₀ w₀ o l w
  pub on : (r : Walk) (o' l' w' : List ℕ) → Walks t (many m rest) fs s o l w r o' l' w' → Walks t (many m n) fs s₀ o₀ l₀ w₀ r o' l' w'

pub going_start : {A : Type 0} {t : List ℕ} {m : Reader A} {fs : List A → Ground → Ground} {n : ℕ} {s : Walk} {o l w : List ℕ} → Going t m fs n s o l w n s o l w
going_start = record { kept = kept_start; on = λ r o' l' w' k. k }

module _ {A : Type 0} {f : A → Ground → Ground} {fs : List A → Ground → Ground} (how : Listed f fs) {t : List ℕ} {m : Reader A} where
  one_more : (n : ℕ) {s : Walk} {o l w : List ℕ} {s₁ : Walk} {o₁ l₁ w₁ : List ℕ} {r : Walk} {o' l' w' : List ℕ} → Walks t m f s o l w s₁ o₁ l₁ w₁ → Walks t (many m n) fs s₁ o₁ l₁ w₁ r o' l' w' → Walks t (many m (suc n)) fs s o l w r o' l' w'
  unfolding many
  one_more n k j = walks λ h a i. leads_call _ k h i λ x g i₁. leads_call _ j h i₁ λ xs g₁ i₂. leads_end (x ∷ xs) refl i₂ λ _. how.cons_is x xs a

  pub going_more : {n : ℕ} {s₀ : Walk} {o₀ l₀ w₀ : List ℕ} {rest : ℕ} {s : Walk} {o l w : List ℕ} {s₁ : Walk} {o₁ l₁ w₁ : List ℕ} → Going t m fs n s₀ o₀ l₀ w₀ rest s o l w → (rest ≡ 0 → ⊥) → Walks t m f s o l w s₁ o₁ l₁ w₁
      → length o₁ ≡ length o → length l₁ ≡ length l → length w₁ ≡ length w → Going t m fs n s₀ o₀ l₀ w₀ (rest - 1) s₁ o₁ l₁ w₁
  going_more {rest = zero} g z k a b c = absurd (z refl)
  going_more {rest = suc j} {s₁ = s₁} {o₁} {l₁} {w₁} g z k a b c =
      let q : suc j - 1 ≡ j = omega arith in
      record { kept = kept_more g.kept a b c; on = λ r o' l' w' i. g.on r o' l' w' (one_more j k (subst (λ (x : ℕ). Walks t (many m x) fs s₁ o₁ l₁ w₁ r o' l' w') q i)) }

  pub going_done : {n : ℕ} {s₀ : Walk} {o₀ l₀ w₀ : List ℕ} {rest : ℕ} {s : Walk} {o l w : List ℕ} → Going t m fs n s₀ o₀ l₀ w₀ rest s o l w → rest ≡ 0 → Walks t (many m n) fs s₀ o₀ l₀ w₀ s o l w
  unfolding many
  going_done {s = s} {o} {l} {w} g z = g.on s o l w (rw z (walks λ h a i. leads_end [] refl i λ _. how.nil_is a))

-- the same, where the items behind are counted
pub counted_start : {A : Type 0} {t : List ℕ} {m : Reader A} {fs : List A → Ground → Ground} {n : ℕ} {s : Walk} {o l w : List ℕ} → Going t m fs n s o l w (n - 0) s o l w
counted_start {t = t} {m} {fs} {n} {s} {o} {l} {w} = let q : n ≡ n - 0 = omega arith in subst (λ (x : ℕ). Going t m fs n s o l w x s o l w) q going_start

module _ {A : Type 0} {f : A → Ground → Ground} {fs : List A → Ground → Ground} (how : Listed f fs) {t : List ℕ} {m : Reader A} {n : ℕ} {s₀ : Walk} {o₀ l₀ w₀ : List ℕ} {k : ℕ} {s : Walk} {o l w : List ℕ} (g : Going t m fs n s₀ o₀ l₀ w₀ (n - k) s o l w) where
  pub counted_more : {s₁ : Walk} {o₁ l₁ w₁ : List ℕ} → k < n → Walks t m f s o l w s₁ o₁ l₁ w₁ → length o₁ ≡ length o → length l₁ ≡ length l → length w₁ ≡ length w → Going t m fs n s₀ o₀ l₀ w₀ (n - (k + 1)) s₁ o₁ l₁ w₁
  counted_more {s₁} {o₁} {l₁} {w₁} b i x y z = let q : n - k - 1 ≡ n - (k + 1) = omega arith in subst (λ (r : ℕ). Going t m fs n s₀ o₀ l₀ w₀ r s₁ o₁ l₁ w₁) q (going_more how g (omega arith) i x y z)

  pub counted_done : n ≤ k → Walks t (many m n) fs s₀ o₀ l₀ w₀ s o l w
  counted_done b = going_done how g (omega arith)

-- NODES

-- a node too deep: nothing is promised
pub leads_deep : {A H : Type 0} {P : A → Cur → Type 0} (h : Reader H) {t : List ℕ} {c : Cur} → Leads (too_deep h) t c P
leads_deep {A} {P = P} h {t} {c} = record { to = λ x d g. (nothing_deep {B = A} {X = P} h t c).to g }

module _ {A : Type 0} {t : List ℕ} {P : A → Cur → Type 0} {H : Reader ℕ} {N : ℕ → Reader A} {K : ℕ → ℕ → Reader A} (how : Node H N K) where
  pub node_deep : (left : ℕ) {c : Cur} → left ≡ 0 → Leads (N left) t c P
  node_deep zero z = leads_same how.zero_is (leads_deep H)
  node_deep (suc l) z = absurd (omega arith)

  module _ {names at : ℕ} {k : Counts} {m₁ : Result (ℕ × ℕ) Refusal} (g : Reads H t names at m₁) where
    pub node_unread : (left : ℕ) {x : Refusal} → m₁ ≡ Err x → Leads (N left) t (cursor at names k) P
    node_unread zero e = leads_same how.zero_is (leads_deep H)
    node_unread (suc l) e = leads_same (how.suc_is l) (leads_unread _ g e)

    pub node_in : (left : ℕ) {v n : ℕ} → (left ≡ 0 → ⊥) → m₁ ≡ Ok (v, n) → Leads (K (left - 1) v) t (cursor n names k) P → Leads (N left) t (cursor at names k) P
    node_in zero z e h = absurd (z refl)
    node_in (suc l) {v} {n} z e h =
        let q : suc l - 1 ≡ l = omega arith in
        leads_same (how.suc_is l) (leads_read _ g e (subst (λ (j : ℕ). Leads (K j v) t (cursor n names k) P) q h))

    pub node_arm : (left : ℕ) {v n j : ℕ} → (left ≡ 0 → ⊥) → m₁ ≡ Ok (v, n) → v ≡ j → Leads (K (left - 1) j) t (cursor n names k) P → Leads (N left) t (cursor at names k) P
    node_arm left {n = n} z e f h = node_in left z e (subst (λ (x : ℕ). Leads (K (left - 1) x) t (cursor n names k) P) (sym f) h)

-- COUNTING

-- the first number of something that counts
pub leads_counting : {A C : Type 0} {P : A → Cur → Type 0} (kinds : C → Counts) (h : Reader C) (f : C → Reader A) {t : List ℕ} {c : Cur} {y : C} {d : Cur} → h t c ≡ got y d
    → (fits (plus d.counts (kinds y)) ≡ true → Leads (f y) t (counted d (kinds y)) P) → Leads (counting kinds h >>= f) t c P
unfolding counting
leads_counting {P = P} kinds h f {t} {c} {y} {d} e next = leads_bind (counting kinds h) f λ x b g.
    let z = bind_got (such h (λ a c. fits (plus c.counts (kinds a))) 8) (λ a s c. got a (counted c (kinds a))) t c g in
    let u = such_got h (λ a c. fits (plus c.counts (kinds a))) 8 t c z.2 in
    let v = sym e ∙ u.0 in
    let q : got y (counted d (kinds y)) ≡ got x b = ap (λ (n : Cur). got y (counted n (kinds y))) (same_cur v) ∙ ap (λ (n : _). got n (counted z.1 (kinds n))) (same_value v) ∙ z.3 in
    let test : fits (plus d.counts (kinds y)) ≡ true = ap (λ (n : Cur). fits (plus n.counts (kinds y))) (same_cur v) ∙ ap (λ (n : _). fits (plus z.1.counts (kinds n))) (same_value v) ∙ u.1 in
    subst (λ (n : _). Leads (f n) t b P) (same_value q) (subst (λ (n : Cur). Leads (f y) t n P) (same_cur q) (next test))
