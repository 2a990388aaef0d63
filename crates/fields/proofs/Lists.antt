-- A list is read item by item: what is left of it, said of the end alone.
use Rattle.std.proofs.Common.{ℕ, zero, suc, ◌≡◌, ◌<◌, refl, ap, ◌∙◌, List, ◌∷◌, Ok, Err}
use native.Mathlib.Nat.{not-suc-le-zero}
use Rattle.penne.specs.Reader.{Counts, Cur, Got, got, refused, Reader, ret, num, many, listed}
use Rattle.fields.specs.declared.refusal.Refusal.{Refusal}
use Rattle.fields.specs.declared.counts.Counts as C
use Rattle.fields.specs.Answers.{cursor, forget, counts_of, Gives, Ends, Passes}
use Rattle.fields.proofs.Chain.{after, then_is}
use Rattle.fields.proofs.Back.{forget_got, forget_refused}

module _ {A : Type 0} (m : Reader A) where
  go : (n : ℕ) (a : A) (s : List ℕ) (q : Got (List A)) → forget (after (λ rest. ret (a ∷ rest)) s q) ≡ forget q
  unfolding ret forget
  go n a s (got x d) = refl
  go n a s (refused i p) = refl

  pub many_on : (n rest : ℕ) (s : List ℕ) (c : Cur) (a : A) (d : Cur) → n ≡ suc rest → m s c ≡ got a d → forget (many m n s c) ≡ forget (many m rest s d)
  unfolding many
  many_on n rest s c a d z e = rw z (rw then_is (rw e (rw then_is (go rest a s (many m rest s d)))))

  pub many_off : (n : ℕ) (s : List ℕ) (c : Cur) (i p : ℕ) → 0 < n → m s c ≡ refused i p → forget (many m n s c) ≡ refused i p
  unfolding many ret forget
  many_off zero s c i p h e = absurd (not-suc-le-zero h)
  many_off (suc n) s c i p h e = rw then_is (rw e refl)

  pub many_end : (s : List ℕ) (c : Cur) → forget (many m 0 s c) ≡ got tt c
  unfolding many ret forget
  many_end s c = refl

  -- the same where the item was only passed
  pub many_past : (n rest : ℕ) (s : List ℕ) (c : Cur) (d : Cur) → n ≡ suc rest → forget (m s c) ≡ got tt d → forget (many m n s c) ≡ forget (many m rest s d)
  many_past n rest s c d z e = let h = forget_got (m s c) d e in many_on n rest s c h.0 d z h.1

  pub many_out : (n : ℕ) (s : List ℕ) (c : Cur) (i p : ℕ) → 0 < n → forget (m s c) ≡ refused i p → forget (many m n s c) ≡ refused i p
  many_out n s c i p h e = many_off n s c i p h (forget_refused (m s c) i p e)

-- "A list is its count, then its items."
module _ {A : Type 0} (m : Reader A) (s : List ℕ) (c : Cur) where
  pub listed_got : (n : ℕ) (d : Cur) → num s c ≡ got n d → forget (listed m s c) ≡ forget (many m n s d)
  unfolding listed
  listed_got n d e = ap forget (then_is num (many m) s c ∙ ap (after (many m) s) e)

  pub listed_refused : (i p : ℕ) → num s c ≡ refused i p → forget (listed m s c) ≡ refused i p
  unfolding listed forget
  listed_refused i p e = ap forget (then_is num (many m) s c ∙ ap (after (many m) s) e)

-- what `whole` reads at `at` ends where so many items more by m from `cur` on end
pub record Rest {A B : Type 0} (whole : Reader B) (m : Reader A) (s : List ℕ) (names at n cur : ℕ) : Type 0 where
  pub is : (k : Counts) → forget (whole s (cursor at names k)) ≡ forget (many m n s (cursor cur names k))

pub rest_many : {A : Type 0} (m : Reader A) {s : List ℕ} {names at n : ℕ} → Rest (many m n) m s names at n at
rest_many m = record { is = λ k. refl }

pub rest_listed : {A : Type 0} (m : Reader A) {s : List ℕ} {names at n cur : ℕ} → Gives num s at (Ok (n, cur)) → Rest (listed m) m s names at n cur
rest_listed m {s} {names} g = record { is = λ k. listed_got m s _ _ _ (g.is names k) }

pub rest_out : {A : Type 0} (m : Reader A) {s : List ℕ} {names at : ℕ} {e : Refusal} → Gives num s at (Err e) → Ends (listed m) s names at (Err e)
rest_out m {s} {names} g = record { is = λ k. listed_refused m s _ _ _ (g.is names k) }

module _ {A B : Type 0} {whole : Reader B} {m : Reader A} {s : List ℕ} {names at n cur : ℕ} (r : Rest whole m s names at n cur) where
  pub rest_more : {n' next : ℕ} → n ≡ suc n' → Ends m s names cur (Ok next) → Rest whole m s names at n' next
  rest_more z g = record { is = λ k. r.is k ∙ many_past m _ _ s _ _ z (g.is k) }

  pub rest_refused : {e : Refusal} → 0 < n → Ends m s names cur (Err e) → Ends whole s names at (Err e)
  rest_refused z g = record { is = λ k. r.is k ∙ many_out m _ s _ _ _ z (g.is k) }

  pub rest_done : n ≡ 0 → Ends whole s names at (Ok cur)
  rest_done z = record { is = λ k. r.is k ∙ rw z (many_end m s _) }

-- for a loop over items that are only passed, whose invariant is a `Rest`
pub ruleset rests = (rest_many, rest_listed, rest_out, rest_more, rest_refused, rest_done)

-- WHERE SO MUCH IS COUNTED

-- the same, where k was counted before and k' by now
pub record Listing {A B : Type 0} (whole : Reader B) (m : Reader A) (s : List ℕ) (names : ℕ) (k : C.Counts) (at n : ℕ) (k' : C.Counts) (cur : ℕ) : Type 0 where
  pub is : forget (whole s (cursor at names (counts_of k))) ≡ forget (many m n s (cursor cur names (counts_of k')))

module _ {A : Type 0} (m : Reader A) {s : List ℕ} {names at n : ℕ} {k : C.Counts} where
  pub listing_many : Listing (many m n) m s names k at n k at
  listing_many = record { is = refl }

  pub listing_listed : {cur : ℕ} → Gives num s at (Ok (n, cur)) → Listing (listed m) m s names k at n k cur
  listing_listed g = record { is = listed_got m s _ _ _ (g.is names (counts_of k)) }

pub listing_out : {A : Type 0} (m : Reader A) {s : List ℕ} {names at : ℕ} {k : C.Counts} {e : Refusal} → Gives num s at (Err e) → Passes (listed m) s names k at (Err e)
listing_out m {s} {names} {k = k} g = record { is = listed_refused m s _ _ _ (g.is names (counts_of k)) }

module _ {A B : Type 0} {whole : Reader B} {m : Reader A} {s : List ℕ} {names at n cur : ℕ} {k k₁ : C.Counts} (r : Listing whole m s names k at n k₁ cur) where
  pub listing_more : {n' next : ℕ} {k₂ : C.Counts} → n ≡ suc n' → Passes m s names k₁ cur (Ok (next, k₂)) → Listing whole m s names k at n' k₂ next
  listing_more z g = record { is = r.is ∙ many_past m _ _ s _ _ z g.is }

  pub listing_refused : {e : Refusal} → 0 < n → Passes m s names k₁ cur (Err e) → Passes whole s names k at (Err e)
  listing_refused z g = record { is = r.is ∙ many_out m _ s _ _ _ z g.is }

  pub listing_done : n ≡ 0 → Passes whole s names k at (Ok (cur, k₁))
  listing_done z = record { is = r.is ∙ rw z (many_end m s _) }

-- for a loop over items that count, whose invariant is a `Listing`
pub ruleset listings = (listing_many, listing_listed, listing_out, listing_more, listing_refused, listing_done)
