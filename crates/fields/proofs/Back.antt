-- Back from an answer: what was read on the way to it.
use Rattle.std.proofs.Common.{ℕ, zero, suc, ◌≡◌, sym, ap, ◌∙◌, List, ◌∷◌, length}
use Rattle.penne.specs.Reader.{Cur, Got, got, refused, Reader, ◌>>=◌, ret, many}
use Rattle.penne.proofs.Leading.{same_value, same_cur, bind_got}
use Rattle.fields.specs.Answers.{forget}

pub bind_case : {A B X : Type 0} (m : Reader A) (f : A → Reader B) (s : List ℕ) (c : Cur) {b : B} {d : Cur} → (m >>= f) s c ≡ got b d → ((a : A) (c' : Cur) → m s c ≡ got a c' → f a s c' ≡ got b d → X) → X
bind_case m f s c e next = let b = bind_got m f s c e in next b.0 b.1 b.2 b.3

pub many_case : {A X : Type 0} (m : Reader A) (n : ℕ) (s : List ℕ) (c : Cur) {xs : List A} {d : Cur} → many m (suc n) s c ≡ got xs d → ((a : A) (c' : Cur) (rest : List A) → m s c ≡ got a c' → many m n s c' ≡ got rest d → xs ≡ a ∷ rest → X) → X
unfolding many ret
many_case m n s c e next = bind_case m _ s c e λ a c₁ h e₁. bind_case (many m n) _ s c₁ e₁ λ rest c₂ h₂ e₂. next a c₁ rest h (h₂ ∙ ap (got rest) (same_cur e₂)) (sym (same_value e₂))

pub many_length : {A : Type 0} (m : Reader A) (n : ℕ) (s : List ℕ) (c : Cur) {xs : List A} {d : Cur} → many m n s c ≡ got xs d → length xs ≡ n
unfolding many ret
many_length m zero s c e = ap length (sym (same_value e))
many_length m (suc n) s c e = many_case m n s c e λ a c₁ rest h₁ h₂ z. ap length z ∙ ap suc (many_length m n s c₁ h₂)

-- a part that was only passed was read
pub forget_got : {A : Type 0} (q : Got A) (c : Cur) → forget q ≡ got tt c → (a : A) × (q ≡ got a c)
unfolding forget
forget_got (got a d) c e = (a, cc)
forget_got (refused i p) c e = cc

-- or it was refused
pub forget_refused : {A : Type 0} (q : Got A) (i p : ℕ) → forget q ≡ refused i p → q ≡ refused i p
unfolding forget
forget_refused (got a d) i p e = cc
forget_refused (refused j r) i p e = cc
