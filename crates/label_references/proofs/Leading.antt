-- Whatever a reader of the definitions reads: its parts one after another.
use mathlib.Core.Path.{◌≡◌, sym, ap, subst, ◌∙◌}
use mathlib.Core.List.{List}
use Prim.Native.Nat.{ℕ}
use Rattle.penne.specs.Tree.{Spot, Ident}
use Rattle.penne.specs.Reader.{Counts, Cur, Got, got, refused, Reader, ◌>>=◌, ret, num}
use Rattle.penne.specs.Read.{ident, place}
use Rattle.penne.proofs.Leading.{never as never_got, leads_got, leads_bind as bind_leads}
pub use Rattle.penne.proofs.Leading.{Leads, leads_deep}
use Rattle.std.specs.Prelude.{Ok, Err}
use Rattle.fields.specs.declared.field.Identifier.{Identifier}
use Rattle.fields.specs.declared.counts.Counts as C
use Rattle.fields.specs.declared.refusal.Refusal.{Refusal}
use Rattle.fields.specs.Answers.{cursor, forget, Reads, Ends, Skips, ident_of, Identifies, counts_of, Passes, operator, two_places}
use Rattle.fields.proofs.Chain.{never', here, operator_same, places_same, goes, stops, skips}

pub leads_none : {A : Type 0} {P : A → Cur → Type 0} (q : Got A) {i p : ℕ} → q ≡ refused i p → Leads q P
leads_none q e = record { to = λ h. never_got (sym e ∙ h) }

pub leads_refused : {A : Type 0} {P : A → Cur → Type 0} (q : Got A) {i p : ℕ} → forget q ≡ refused i p → Leads q P
unfolding forget
leads_refused q e = record { to = λ h. never' (sym e ∙ ap forget h) }

pub leads_same : {A : Type 0} {P : A → Cur → Type 0} {q q' : Got A} → q ≡ q' → Leads q' P → Leads q P
leads_same e h = record { to = λ x. h.to (sym e ∙ x) }

pub leads_ret : {A : Type 0} {P : A → Cur → Type 0} (a : A) (s : List ℕ) (c : Cur) → P a c → Leads (ret a s c) P
unfolding ret
leads_ret a s c h = leads_got a c h

-- any reader, and what follows it
pub leads_bind : {A B : Type 0} {P : B → Cur → Type 0} (f : A → Reader B) (m : Reader A) (s : List ℕ) (c : Cur) → ((x : A) (d : Cur) → m s c ≡ got x d → Leads (f x s d) P) → Leads ((m >>= f) s c) P
leads_bind f m s c h = bind_leads m f s c h

-- a part is read, or refused
module _ {A B : Type 0} {P : B → Cur → Type 0} (f : A → Reader B) {m : Reader A} {s : List ℕ} {names at : ℕ} (k : Counts) where
  pub leads_part : {n : ℕ} → Ends m s names at (Ok n) → ((x : A) → Leads (f x s (cursor n names k)) P) → Leads ((m >>= f) s (cursor at names k)) P
  unfolding forget
  leads_part g h = leads_bind f _ _ _ λ x d q. subst (λ (c : Cur). Leads (f x s c) P) (here (sym (g.is k) ∙ ap forget q)) (h x)

  pub leads_unpart : {e : Refusal} → Ends m s names at (Err e) → Leads ((m >>= f) s (cursor at names k)) P
  unfolding forget
  leads_unpart g = leads_bind f _ _ _ λ x d q. never' (sym (g.is k) ∙ ap forget q)

-- a number is read, and its value counts
module _ {B : Type 0} {P : B → Cur → Type 0} (f : ℕ → Reader B) {m : Reader ℕ} {s : List ℕ} {names at : ℕ} (k : Counts) where
  pub leads_read : {v n : ℕ} → Reads m s names at (Ok (v, n)) → Leads (f v s (cursor n names k)) P → Leads ((m >>= f) s (cursor at names k)) P
  leads_read g h = leads_same (goes f g k) h

  pub leads_unread : {e : Refusal} → Reads m s names at (Err e) → Leads ((m >>= f) s (cursor at names k)) P
  leads_unread g = leads_none _ (stops f g k)

-- an identifier
module _ {B : Type 0} {P : B → Cur → Type 0} (f : Ident Spot → Reader B) {s : List ℕ} {names at : ℕ} (k : Counts) where
  pub leads_ident : {i : Identifier} {n : ℕ} → Identifies s names at (Ok (i, n)) → Leads (f (ident_of at i) s (cursor n names k)) P → Leads ((ident >>= f) s (cursor at names k)) P
  leads_ident {i} {n} g h = leads_bind f _ _ _ λ x d q.
      let z : got (ident_of at i) (cursor n names k) ≡ got x d = sym (g.is k) ∙ q in
      let u : ident_of at i ≡ x = cc in let v : cursor n names k ≡ d = cc in
      subst (λ (y : Ident Spot). Leads (f y s d) P) u (subst (λ (c : Cur). Leads (f (ident_of at i) s c) P) v h)

  pub leads_unident : {e : Refusal} → Identifies s names at (Err e) → Leads ((ident >>= f) s (cursor at names k)) P
  leads_unident g = leads_bind f _ _ _ λ x d q. never_got (sym (g.is k) ∙ q)

-- a part that counts
module _ {A : Type 0} {m : Reader A} {s : List ℕ} {names : ℕ} {k : C.Counts} {at : ℕ} where
  pub passes_here : {n : ℕ} {c : C.Counts} {x : A} {d : Cur} → Passes m s names k at (Ok (n, c)) → m s (cursor at names (counts_of k)) ≡ got x d → cursor n names (counts_of c) ≡ d
  unfolding forget
  passes_here g h = here (sym g.is ∙ ap forget h)

  pub leads_never : {Q : A → Cur → Type 0} {e : Refusal} → Passes m s names k at (Err e) → Leads (m s (cursor at names (counts_of k))) Q
  leads_never g = leads_refused _ g.is

  pub leads_unpassed : {B : Type 0} {Q : B → Cur → Type 0} (f : A → Reader B) {e : Refusal} → Passes m s names k at (Err e) → Leads ((m >>= f) s (cursor at names (counts_of k))) Q
  unfolding forget
  leads_unpassed f g = leads_bind f _ _ _ λ x d q. never' (sym g.is ∙ ap forget q)

-- "op, 2p", and "2p"
module _ {B : Type 0} {Q : B → Cur → Type 0} (f : ℕ → Spot → Spot → Reader B) (names : ℕ) {s : List ℕ} {at : ℕ} (k : Counts) where
  pub operator_leads : {n : ℕ} → Skips operator s at (Ok n) → ((op : ℕ) (p q : Spot) → Leads (f op p q s (cursor n names k)) Q) → Leads ((num >>= λ op. place >>= λ p. place >>= λ q. f op p q) s (cursor at names k)) Q
  operator_leads g h = leads_same (ap (λ (m : Reader B). m s (cursor at names k)) (operator_same λ op x. f op x.0 x.1)) (leads_part _ k (skips _ g) λ x. h x.0 x.1.0 x.1.1)

  pub operator_unled : {e : Refusal} → Skips operator s at (Err e) → Leads ((num >>= λ op. place >>= λ p. place >>= λ q. f op p q) s (cursor at names k)) Q
  operator_unled g = leads_same (ap (λ (m : Reader B). m s (cursor at names k)) (operator_same λ op x. f op x.0 x.1)) (leads_unpart _ k (skips _ g))

module _ {B : Type 0} {Q : B → Cur → Type 0} (f : Spot → Spot → Reader B) (names : ℕ) {s : List ℕ} {at : ℕ} (k : Counts) where
  pub places_lead : {n : ℕ} → Skips two_places s at (Ok n) → ((p q : Spot) → Leads (f p q s (cursor n names k)) Q) → Leads ((place >>= λ p. place >>= λ q. f p q) s (cursor at names k)) Q
  places_lead g h = leads_same (ap (λ (m : Reader B). m s (cursor at names k)) (places_same λ x. f x.0 x.1)) (leads_part _ k (skips _ g) λ x. h x.0 x.1)

  pub places_unled : {e : Refusal} → Skips two_places s at (Err e) → Leads ((place >>= λ p. place >>= λ q. f p q) s (cursor at names k)) Q
  places_unled g = leads_same (ap (λ (m : Reader B). m s (cursor at names k)) (places_same λ x. f x.0 x.1)) (leads_unpart _ k (skips _ g))
