-- What is written whole or not at all: by itself, and followed by another part. The pass stops at the first poison (`?`).
use mathlib.Core.Path.{◌≡◌, refl, sym, ap, subst, ◌∙◌}
use mathlib.Core.List.{List, ◌++◌, append_assoc, append-nil}
use mathlib.Core.Option.{Option, none, some}
use Prim.Native.Nat.{ℕ}
use Rattle.std.specs.Prelude.{Result}
use Rattle.fields.specs.declared.refusal.Refusal.{Refusal}
use Rattle.std.specs.Prelude.{Ok, Err}
use Rattle.penne.specs.Reader.{Counts, Cur, got, Reader, ◌>>=◌, ret}
use Rattle.penne.specs.Tree.{Spot, Ident, Maybe, ok, err}
use Rattle.penne.specs.Read.{ident}
use Rattle.penne.specs.Write.{num_b}
use Rattle.penne.specs.State as S
use Rattle.penne.specs.Scopes.{Analyzer, Pass}
use Rattle.fields.specs.declared.field.Identifier.{Identifier}
use Rattle.fields.specs.Answers.{cursor, counts_of, number_of, ident_of, identified_of, Gives, Identifies}
use Rattle.answer.specs.declared.wrote.Wrote.{Wrote}
use Rattle.answer.specs.Out.{Put}
use Rattle.walk.specs.declared.state.Walk.{Walk}
use Rattle.walk.specs.declared.fault.Fault.{Fault}
use Rattle.walk.specs.Walking.{moved_to, with_wrote, here, Ground, Good, Is, onward, silently, say, Did, Leads, Walks, ok_b, Answers, fine, bad, Tried, Tries, Uses}
use Rattle.walk.proofs.Leading.{same_value, same_cur, tries, leads_bind, leads_got, leads_refused, leads_call, leads_tried, is_same}
use Rattle.walk.proofs.Writing.{moved_on, wrote, wrote_on}
use Rattle.walk.proofs.Using.{stepped, made_used, made_refused}

-- THE PASS

-- an answer under another constructor
unfoldable pub by : {A B : Type 0} → (A → B) → Maybe Spot A → Maybe Spot B
by h (ok x) = ok (h x)
by h (err z) = err z

pub try_ret : {A B : Type 0} (m : Pass Spot (Maybe Spot A)) (h : A → B) (s : Analyzer Spot) → (S.◌>>?◌ m (λ x. S.ret (ok (h x)))) s ≡ (by h (m s).0, (m s).1)
unfolding S.◌>>?◌ S.◌>>=◌ S.or_poison S.ret by
try_ret {A} m h s = go (m s).0 (m s).1
  where
    go : (y : Maybe Spot A) (u : Analyzer Spot) → S.or_poison (λ x. S.ret (ok (h x))) y u ≡ (by h y, u)
    go (ok x) u = refl
    go (err z) u = refl

pub answers_by : {A B : Type 0} (h : A → B) {f : Option Fault} {y : Maybe Spot A} → Answers f y → Answers f (by h y)
unfolding by
answers_by h fine = fine
answers_by h (bad q) = bad q

-- the ground after the answer and the state v
abbrev pub afterwards : {B : Type 0} → (B → List ℕ) → Ground → Maybe Spot B × Analyzer Spot → Ground
afterwards e a v = record { out = a.out ++ ok_b e v.0; st = v.1; rest = a.rest }

-- ONE PART, UNDER ANOTHER CONSTRUCTOR

-- g x is analysed as x is, and what comes of it (h) has the same bytes
pub record Wraps {A A' B B' : Type 0} (g : A → A') (h : B → B') (p : A → Pass Spot (Maybe Spot B)) (p' : A' → Pass Spot (Maybe Spot B')) (e : B → List ℕ) (e' : B' → List ℕ) : Type 0 where
  pub same : (x : A) (s : Analyzer Spot) → p' (g x) s ≡ (by h (p x s).0, (p x s).1)
  pub bytes : (y : B) → e y ≡ e' (h y)

module _ {A A' B B' : Type 0} {g : A → A'} {h : B → B'} {p : A → Pass Spot (Maybe Spot B)} {p' : A' → Pass Spot (Maybe Spot B')} {e : B → List ℕ} {e' : B' → List ℕ} (how : Wraps g h p p' e e') where
  by_bytes : (y : Maybe Spot B) → ok_b e y ≡ ok_b e' (by h y)
  unfolding ok_b by
  by_bytes (ok y) = how.bytes y
  by_bytes (err z) = refl

  tried_by : {x : A} {d : Cur} {a : Ground} {r : Walk} {f : Option Fault} {o l w : List ℕ} → Tried p e x d a r f o l w → Tried p' e' (g x) d a r f o l w
  tried_by {x} {a = a} {f = f} t =
      let q = sym (how.same x a.st) in
      record {
        did = record {
          cur = t.did.cur;
          is = is_same (λ _. ap (λ (xs : List ℕ). record { out = a.out ++ xs; st = (p x a.st).1; rest = a.rest }) (by_bytes (p x a.st).0) ∙ ap (afterwards e' a) q) t.did.is;
        };
        told = subst (λ (v : Maybe Spot B' × Analyzer Spot). Good (stepped a v.1) → Answers f v.0) q (λ z. answers_by h (t.told z));
      }

  pub tries_by : {t : List ℕ} {m : Reader A} {s : Walk} {o l w : List ℕ} {r : Walk} {f : Option Fault} {o' l' w' : List ℕ} → Tries t m p e s o l w r f o' l' w' → Tries t (m >>= λ x. ret (g x)) p' e' s o l w r f o' l' w'
  tries_by {m = m} k = tries λ j a i. leads_bind m _ λ x d q. leads_got (g x) (tried_by ((k.does j a i).to x d q))

-- A PART, AND THEN WHAT IS COPIED

-- the same, where n stands behind x
pub record Extends {A N A' B B' : Type 0} (g : A → N → A') (h : N → B → B') (c : N → List ℕ) (p : A → Pass Spot (Maybe Spot B)) (p' : A' → Pass Spot (Maybe Spot B')) (e : B → List ℕ) (e' : B' → List ℕ) : Type 0 where
  pub same : (x : A) (n : N) (s : Analyzer Spot) → p' (g x n) s ≡ (by (h n) (p x s).0, (p x s).1)
  pub bytes : (n : N) (y : B) → e y ++ c n ≡ e' (h n y)

module _ {A N A' B B' : Type 0} {g : A → N → A'} {h : N → B → B'} {c : N → List ℕ} {p : A → Pass Spot (Maybe Spot B)} {p' : A' → Pass Spot (Maybe Spot B')} {e : B → List ℕ} {e' : B' → List ℕ} (how : Extends g h c p p' e e') where
  fine_bytes : (n : N) {y : Maybe Spot B} → Answers none y → ok_b e y ++ c n ≡ ok_b e' (by (h n) y)
  unfolding ok_b by
  fine_bytes n (fine {x = y}) = how.bytes n y

  bad_bytes : (n : N) {f : Fault} {y : Maybe Spot B} → Answers (some f) y → ok_b e y ≡ ok_b e' (by (h n) y)
  unfolding ok_b by
  bad_bytes n (bad q) = refl

  module _ (x : A) (n : N) (a : Ground) where
    good_part : Good (onward p' (ok_b e') (g x n) a) → Good (silently p x a)
    good_part z = subst (λ (v : Maybe Spot B' × Analyzer Spot). Good (stepped a v.1)) (how.same x n a.st) (record { few = z.few; fit = z.fit })

    told_whole : {f : Option Fault} → (Good (silently p x a) → Answers f (p x a.st).0) → Good (silently p' (g x n) a) → Answers f (p' (g x n) a.st).0
    told_whole {f} k = subst (λ (v : Maybe Spot B' × Analyzer Spot). Good (stepped a v.1) → Answers f v.0) (sym (how.same x n a.st)) (λ z. answers_by (h n) (k z))

    whole : {xs : List ℕ} → xs ≡ a.out ++ ok_b e' (by (h n) (p x a.st).0) → record { out = xs; st = (p x a.st).1; rest = a.rest } ≡ onward p' (ok_b e') (g x n) a
    whole z = ap (λ (ys : List ℕ). record { out = ys; st = (p x a.st).1; rest = a.rest }) z ∙ ap (afterwards e' a) (sym (how.same x n a.st))

  module _ {t : List ℕ} {m : Reader A} {k : Reader N} {s : Walk} {o l w : List ℕ} {s₁ : Walk} {o₁ l₁ w₁ : List ℕ} {r : Walk} {o₂ l₂ w₂ : List ℕ} where
    pub tries_fine : Tries t m p e s o l w s₁ none o₁ l₁ w₁ → Walks t k (λ n a. say (c n) a) s₁ o₁ l₁ w₁ r o₂ l₂ w₂ → Tries t (m >>= λ x. k >>= λ n. ret (g x n)) p' e' s o l w r none o₂ l₂ w₂
    tries_fine y v = tries λ j a i. leads_tried _ y j i λ x _ i₁ told. leads_call _ v j i₁ λ n _ i₂. leads_got (g x n) (record {
      did = record { cur = refl; is = is_same (λ z. whole x n a (append_assoc a.out _ _ ∙ ap (λ (ys : List ℕ). a.out ++ ys) (fine_bytes n (told (good_part x n a z))))) i₂ };
      told = told_whole x n a told;
    })

    pub tries_bad : {f : Fault} → Tries t m p e s o l w s₁ (some f) o₁ l₁ w₁ → Walks t k (λ n a. a) s₁ o₁ l₁ w₁ r o₂ l₂ w₂ → Tries t (m >>= λ x. k >>= λ n. ret (g x n)) p' e' s o l w r (some f) o₂ l₂ w₂
    tries_bad y v = tries λ j a i. leads_tried _ y j i λ x _ i₁ told. leads_call _ v j i₁ λ n _ i₂. leads_got (g x n) (record {
      did = record { cur = refl; is = is_same (λ z. whole x n a (ap (λ (ys : List ℕ). a.out ++ ys) (bad_bytes n (told (good_part x n a z))))) i₂ };
      told = told_whole x n a told;
    })

-- WHAT IS READ ALONE

-- all that is read
pub leads_just : {A : Type 0} {t : List ℕ} {P : A → Cur → Type 0} {m : Reader A} {c : Cur} {y : A} {e : Cur} → m t c ≡ got y e → P y e → Leads m t c P
leads_just {A} {P = P} {y = y} h k = record { to = λ x d g. let q = sym h ∙ g in subst (λ (z : A). P z d) (same_value q) (subst (λ (b : Cur). P y b) (same_cur q) k) }

-- a number
module _ {m : Reader ℕ} {t : List ℕ} {P : ℕ → Cur → Type 0} {names at : ℕ} {k : Counts} {q : Result (ℕ × ℕ) Refusal} (g : Gives m t at q) where
  pub leads_given : {v n : ℕ} → q ≡ Ok (v, n) → P v (cursor n names k) → Leads m t (cursor at names k) P
  leads_given e h = leads_just (g.is names k ∙ ap (number_of names k) e) h

  pub leads_ungiven : {x : Refusal} → q ≡ Err x → Leads m t (cursor at names k) P
  leads_ungiven e = leads_refused (g.is names k ∙ ap (number_of names k) e)

-- a name
module _ {t : List ℕ} {P : Ident Spot → Cur → Type 0} {names at : ℕ} {k : Counts} {q : Result (Identifier × ℕ) Refusal} (g : Identifies t names at q) where
  pub leads_name : {i : Identifier} {n : ℕ} → q ≡ Ok (i, n) → P (ident_of at i) (cursor n names k) → Leads ident t (cursor at names k) P
  leads_name e h = leads_just (g.is k ∙ ap (identified_of names at k) e) h

  pub leads_unnamed : {x : Refusal} → q ≡ Err x → Leads ident t (cursor at names k) P
  leads_unnamed e = leads_refused (g.is k ∙ ap (identified_of names at k) e)

-- it is passed over
pub passed : {s : Walk} {n : ℕ} {o l w : List ℕ} {a : Ground} → Is s o l w a → Did (cursor n s.script.names (counts_of s.counts)) a (moved_to s n) o l w
passed i = record { cur = refl; is = moved_on i }

-- a number that is copied
pub copied : {m : Reader ℕ} {t : List ℕ} {s : Walk} {o o' l w : List ℕ} {a : Ground} {q : Result (ℕ × ℕ) Refusal} {v n : ℕ} {b : Wrote} → Gives m t s.at q → q ≡ Ok (v, n) → Is s o l w a → Put s.wrote (num_b v) o b o'
    → Leads m t (here s) (λ x d. Did d (say (num_b x) a) (moved_to (with_wrote s b) n) o' l w)
copied g e i put = leads_given g e (record { cur = refl; is = wrote_on i put })

-- A NAME THAT IS USED

module _ {p : Ident Spot → Pass Spot (Maybe Spot (Ident Spot))} (e : Ident Spot → List ℕ) {t : List ℕ} {s : Walk} {o l w : List ℕ} {q : Result (Identifier × ℕ) Refusal} (g : Identifies t s.script.names s.at q) where
  pub name_unread : {x : Refusal} {r : Walk} {f : Option Fault} {o' l' w' : List ℕ} → q ≡ Err x → Tries t ident p e s o l w r f o' l' w'
  name_unread z = tries λ j a i. leads_unnamed g z

  module _ {i : Identifier} {n : ℕ} (h : q ≡ Ok (i, n)) {w' : List ℕ} where
    pub name_used : {j : Identifier} {ys : List ℕ} {b : Wrote} {o' : List ℕ} → Uses p (moved_to s n) i w (Ok j) w' → ys ≡ e (ident_of s.at j) → Put s.wrote ys o b o' → Tries t ident p e s o l w (with_wrote (moved_to s n) b) none o' l w'
    unfolding ok_b
    name_used {j} v bytes put = tries λ _ a i₀.
        let x = ident_of s.at i in
        let k = v.does s.at o l a (moved_on i₀) in
        leads_name g h (record {
          did = record {
            cur = refl;
            is = is_same (λ z.
                let f = made_used (k.made (record { few = z.few; fit = z.fit })) refl in
                ap (λ (xs : List ℕ). record { out = a.out ++ xs; st = (p x a.st).1; rest = a.rest }) (bytes ∙ ap (ok_b e) (sym f))) (wrote k.is put);
          };
          told = λ z. subst (λ (d : Maybe Spot (Ident Spot)). Answers none d) (sym (made_used (k.made z) refl)) fine;
        })

    pub name_refused : {f : Fault} → Uses p (moved_to s n) i w (Err f) w' → Tries t ident p e s o l w (moved_to s n) (some f) o l w'
    unfolding ok_b
    name_refused {f} v = tries λ _ a i₀.
        let x = ident_of s.at i in
        let k = v.does s.at o l a (moved_on i₀) in
        leads_name g h (record {
          did = record {
            cur = refl;
            is = is_same (λ z.
                let b = made_refused (k.made (record { few = z.few; fit = z.fit })) refl in
                ap (λ (xs : List ℕ). record { out = xs; st = (p x a.st).1; rest = a.rest }) (sym (append-nil a.out) ∙ ap (λ (d : Maybe Spot (Ident Spot)). a.out ++ ok_b e d) (sym b.1))) k.is;
          };
          told = λ z. let b = made_refused (k.made z) refl in subst (λ (d : Maybe Spot (Ident Spot)). Answers (some f) d) (sym b.1) (bad b.2);
        })
