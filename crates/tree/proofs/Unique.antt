-- Two answers that meet one promise coincide: of the public verdicts, of the readers of numbers, and of a part's end.
-- Where a promise speaks of a part's end alone, the ends coincide, or the refusals do.
use Rattle.std.proofs.Common.{ℕ, ◌≡◌, refl, sym, ap, ◌∙◌, List, Result, Ok, Err}
use Rattle.std.proofs.Math.Option.{some}
use Rattle.penne.specs.Reader.{Counts, Cur, Got, got, refused, Reader, nothing}
use Rattle.penne.specs.Tree.{Spot, Decl}
use Rattle.fields.specs.declared.refusal.Refusal.{Refusal}
use Rattle.fields.specs.Answers.{row_of, number_of, end_of, Gives, Ends}
use Rattle.fields.proofs.Refusals.{row_unique}
use Rattle.tree.specs.Script.{verdict_of, refusal}

-- a refusal by its row and its place
same_refusal : {e f : Refusal} → row_of e.reason ≡ row_of f.reason → e.place ≡ f.place → e ≡ f
same_refusal {e} {f} h q = let r = row_unique e.reason f.reason h in λ i. record { reason = r i; place = q i }

same_verdict : (r r' : Result (Unit {0}) Refusal) → verdict_of r ≡ verdict_of r' → r ≡ r'
same_verdict (Ok t) (Ok u) e = refl
same_verdict (Ok t) (Err f) e = cc
same_verdict (Err e) (Ok t) h = cc
same_verdict (Err e) (Err f) h = ap Err (same_refusal (let z = pair h in ap (λ (x : ℕ × ℕ). x.0) z) (let z = pair h in ap (λ (x : ℕ × ℕ). x.1) z))
  where
    pair : {x y : ℕ × ℕ} → some x ≡ some y → x ≡ y
    pair e = cc

-- the promise of `incoming` and of `answered`
pub verdict_unique : (depth : Decl Spot → Reader ℕ) (s : List ℕ) {r r' : Result (Unit {0}) Refusal} → verdict_of r ≡ refusal depth s → verdict_of r' ≡ refusal depth s → r ≡ r'
verdict_unique depth s e h = same_verdict _ _ (e ∙ sym h)

same_number : (r r' : Result (ℕ × ℕ) Refusal) → number_of 0 nothing r ≡ number_of 0 nothing r' → r ≡ r'
same_number (Ok x) (Ok y) e = λ i. Ok (value e i, (cur e i).at)
  where
    value : {x y : ℕ} {c d : Cur} → got x c ≡ got y d → x ≡ y
    value e = cc

    cur : {x y : ℕ} {c d : Cur} → got x c ≡ got y d → c ≡ d
    cur e = cc
same_number (Ok x) (Err f) e = cc
same_number (Err e) (Ok y) h = cc
same_number (Err e) (Err f) h = ap Err (same_refusal (row h) (place h))
  where
    row : {i p j q : ℕ} → ◌≡◌ {A = Got ℕ} (refused i p) (refused j q) → i ≡ j
    row e = cc

    place : {i p j q : ℕ} → ◌≡◌ {A = Got ℕ} (refused i p) (refused j q) → p ≡ q
    place e = cc

-- the promise of `number` and of `below`
pub gives_unique : {m : Reader ℕ} {s : List ℕ} {at : ℕ} {r r' : Result (ℕ × ℕ) Refusal} → Gives m s at r → Gives m s at r' → r ≡ r'
gives_unique g h = same_number _ _ (sym (g.is 0 nothing) ∙ h.is 0 nothing)

-- the promise of a part's end
pub ends_unique : {A : Type 0} {m : Reader A} {s : List ℕ} {names at : ℕ} {r r' : Result ℕ Refusal} (k : Counts) → Ends m s names at r → Ends m s names at r' → end_of names k r ≡ end_of names k r'
ends_unique k g h = sym (g.is k) ∙ h.is k
