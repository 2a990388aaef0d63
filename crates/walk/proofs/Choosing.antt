-- What a tag chooses: "'Maybe X' is 0 then X, or 1 then a poison", "'Option X' is 0, or 1 then X".
use mathlib.Core.Path.{◌≡◌, refl}
use mathlib.Core.List.{List}
use mathlib.Core.Option.{Option, none, some}
use Prim.Native.Nat.{ℕ, zero, suc}
use Rattle.std.specs.Prelude.{Result, Ok, Err}
use Rattle.fields.specs.declared.refusal.Refusal.{Refusal}
use Rattle.penne.specs.Reader.{Counts, Cur, Reader, ◌>>=◌, ret, below}
use Rattle.penne.specs.Tree.{Spot, Maybe, ok, err}
use Rattle.penne.specs.Read.{either, maybe, option, read_poison}
use Rattle.fields.specs.Answers.{cursor, Gives}
use Rattle.fields.proofs.Chain.{reads}
use Rattle.walk.specs.Walking.{Leads}
use Rattle.walk.proofs.Leading.{leads_read, leads_unread}

module _ {A : Type 0} {t : List ℕ} {P : A → Cur → Type 0} {names at : ℕ} {k : Counts} {m₁ : Result (ℕ × ℕ) Refusal} (g : Gives (below 2) t at m₁) (a b : Reader A) where
  pub leads_untagged : {x : Refusal} → m₁ ≡ Err x → Leads (either a b) t (cursor at names k) P
  unfolding either
  leads_untagged e = leads_unread _ (reads g) e

  module _ {v n : ℕ} (e : m₁ ≡ Ok (v, n)) where
    pub leads_first : v ≡ 0 → Leads a t (cursor n names k) P → Leads (either a b) t (cursor at names k) P
    unfolding either
    leads_first z h = leads_read _ (reads g) e (rw z h)

    second_go : (w : ℕ) → (w ≡ 0 → ⊥) → Leads b t (cursor n names k) P → Leads {A = A} (elim w [ zero ↦ a | suc _ ↦ b ]) t (cursor n names k) P
    second_go zero z h = absurd (z refl)
    second_go (suc w) z h = h

    pub leads_second : (v ≡ 0 → ⊥) → Leads b t (cursor n names k) P → Leads (either a b) t (cursor at names k) P
    unfolding either
    leads_second z h = leads_read _ (reads g) e (second_go v z h)

module _ {A : Type 0} {t : List ℕ} {names at : ℕ} {k : Counts} {m₁ : Result (ℕ × ℕ) Refusal} (g : Gives (below 2) t at m₁) (m : Reader A) where
  module _ {P : Maybe Spot A → Cur → Type 0} where
    pub leads_unmaybe : {x : Refusal} → m₁ ≡ Err x → Leads (maybe m) t (cursor at names k) P
    unfolding maybe
    leads_unmaybe e = leads_untagged g _ _ e

    pub leads_ok : {v n : ℕ} → m₁ ≡ Ok (v, n) → v ≡ 0 → Leads (m >>= λ x. ret (ok x)) t (cursor n names k) P → Leads (maybe m) t (cursor at names k) P
    unfolding maybe
    leads_ok e z h = leads_first g _ _ e z h

    pub leads_err : {v n : ℕ} → m₁ ≡ Ok (v, n) → (v ≡ 0 → ⊥) → Leads (read_poison >>= λ z. ret (err z)) t (cursor n names k) P → Leads (maybe m) t (cursor at names k) P
    unfolding maybe
    leads_err e z h = leads_second g _ _ e z h

  module _ {P : Option A → Cur → Type 0} where
    pub leads_unoption : {x : Refusal} → m₁ ≡ Err x → Leads (option m) t (cursor at names k) P
    unfolding option
    leads_unoption e = leads_untagged g _ _ e

    pub leads_none : {v n : ℕ} → m₁ ≡ Ok (v, n) → v ≡ 0 → Leads (ret none) t (cursor n names k) P → Leads (option m) t (cursor at names k) P
    unfolding option
    leads_none e z h = leads_first g _ _ e z h

    pub leads_some : {v n : ℕ} → m₁ ≡ Ok (v, n) → (v ≡ 0 → ⊥) → Leads (m >>= λ x. ret (some x)) t (cursor n names k) P → Leads (option m) t (cursor at names k) P
    unfolding option
    leads_some e z h = leads_second g _ _ e z h
