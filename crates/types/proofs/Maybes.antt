-- A type that may be poison, and where it may be absent.
use mathlib.Core.Path.{◌≡◌, refl, ap, ◌∙◌}
use mathlib.Core.List.{List, ◌++◌, append_assoc}
use mathlib.Core.Option.{none, some}
use Prim.Native.Nat.{ℕ, ◌<◌}
use native.Mathlib.Omega.{arith}
use borrow.Author.Tests.{ltb-true}
use Rattle.std.specs.Prelude.{Result, Ok, Err}
use Rattle.fields.specs.declared.refusal.Refusal.{Refusal}
use Rattle.penne.specs.Reader.{got, Reader, num, below, nothing}
use Rattle.penne.specs.Tree.{Spot, Maybe, ok, err, Ty}
use Rattle.penne.specs.Read.{maybe, option, read_poison}
use Rattle.penne.specs.Write.{num_b, ty_b, maybe_b, option_b, carried_b}
use Rattle.penne.specs.State as S
use Rattle.penne.specs.Variables.{analyze_type, analyze_maybe_type, analyze_option}
use Rattle.fields.specs.Answers.{cursor, number_of, Gives}
use Rattle.answer.specs.declared.wrote.Wrote.{Wrote}
use Rattle.answer.specs.Out.{Put}
use Rattle.walk.specs.declared.state.Walk.{Walk}
use Rattle.walk.specs.declared.fault.Fault.{Fault}
use Rattle.walk.specs.Walking.{moved_to, with_wrote, onward, say, say_poison, Walks, fault_b, ok_b, Answers, fine, bad, Tries}
use Rattle.walk.proofs.Leading.{such_got, walks, leads_call, leads_tried, leads_end}
use Rattle.walk.proofs.Writing.{moved_on, wrote_on, out_is, instead}
use Rattle.walk.proofs.Choosing.{leads_unmaybe, leads_ok, leads_err, leads_unoption, leads_none, leads_some}
use Rattle.types.proofs.Arms.{type_ids}

-- ITS BYTES

pub fine_bytes : (xs : List ℕ) {y : Maybe Spot (Ty Spot)} → Answers none y → (xs ++ num_b 0) ++ ok_b ty_b y ≡ xs ++ maybe_b ty_b y
unfolding ok_b maybe_b
fine_bytes xs (fine {x = y}) = append_assoc xs (num_b 0) (ty_b y)

pub bad_bytes : {f : Fault} {y : Maybe Spot (Ty Spot)} → Answers (some f) y → num_b 1 ++ fault_b f ≡ maybe_b ty_b y
unfolding maybe_b
bad_bytes (bad q) = ap (λ (xs : List ℕ). num_b 1 ++ xs) q

-- A TYPE THAT MAY BE POISON

module _ (m : Reader (Ty Spot)) {t : List ℕ} {s : Walk} {o l w : List ℕ} {q : Result (ℕ × ℕ) Refusal} (g : Gives (below 2) t s.at q) where
  pub maybe_unread : {x : Refusal} {r : Walk} {o' l' w' : List ℕ} → q ≡ Err x → Walks t (maybe m) (onward analyze_maybe_type (maybe_b ty_b)) s o l w r o' l' w'
  maybe_unread e = walks λ j a i. leads_unmaybe g m e

  module _ {v n : ℕ} (e : q ≡ Ok (v, n)) where
    pub maybe_poison : {r : Walk} {o' l' w' : List ℕ} → (v ≡ 0 → ⊥) → Walks t read_poison (say_poison 1) (moved_to s n) o l w r o' l' w' → Walks t (maybe m) (onward analyze_maybe_type (maybe_b ty_b)) s o l w r o' l' w'
    unfolding analyze_maybe_type maybe_b S.ret
    maybe_poison z k = walks λ j a i. leads_err g m e z (leads_call _ k j (moved_on i) λ x _ i₁. leads_end (err x) refl i₁ λ _. refl)

    module _ (z : v ≡ 0) {b : Wrote} {o₁ : List ℕ} {r : Walk} {o₂ l₂ w₂ : List ℕ} (put : Put s.wrote (num_b 0) o b o₁) where
      pub maybe_fine : Tries t m analyze_type ty_b (moved_to (with_wrote s b) n) o₁ l w r none o₂ l₂ w₂ → Walks t (maybe m) (onward analyze_maybe_type (maybe_b ty_b)) s o l w r o₂ l₂ w₂
      unfolding analyze_maybe_type
      maybe_fine k = walks λ j a i. leads_ok g m e z (leads_tried _ k j (wrote_on i put) λ x _ i₁ told.
          leads_end (ok x) refl i₁ λ y. ap (λ (xs : List ℕ). record { out = xs; st = (analyze_type x a.st).1; rest = a.rest }) (fine_bytes a.out (told (record { few = y.few; fit = y.fit }))))

      pub maybe_bad : {f : Fault} {c : Wrote} {o₃ : List ℕ} → Tries t m analyze_type ty_b (moved_to (with_wrote s b) n) o₁ l w r (some f) o₂ l₂ w₂ → Put s.wrote (num_b 1 ++ fault_b f) o₂ c o₃ → Walks t (maybe m) (onward analyze_maybe_type (maybe_b ty_b)) s o l w (with_wrote r c) o₃ l₂ w₂
      unfolding analyze_maybe_type
      maybe_bad k err_put = walks λ j a i. leads_ok g m e z (leads_tried _ k j (wrote_on i put) λ x _ i₁ told.
          leads_end (ok x) refl (instead i (num_b 0 ++ ok_b ty_b (analyze_type x a.st).0) (omega (arith, type_ids x a.st)) (out_is i₁ (append_assoc a.out (num_b 0) _)) err_put)
          λ y. ap (λ (xs : List ℕ). record { out = a.out ++ xs; st = (analyze_type x a.st).1; rest = a.rest }) (bad_bytes (told (record { few = y.few; fit = y.fit }))))

-- WHERE IT MAY BE ABSENT

tag_one : {t : List ℕ} {at v n : ℕ} {q : Result (ℕ × ℕ) Refusal} → Gives (below 2) t at q → q ≡ Ok (v, n) → (v ≡ 0 → ⊥) → v ≡ 1
unfolding below
tag_one {t} {at} {v} {n} g e z =
    let h : below 2 t (cursor at 0 nothing) ≡ got v (cursor n 0 nothing) = g.is 0 nothing ∙ ap (number_of 0 nothing) e in
    let y : v < 2 = ltb-true v 2 (such_got num _ 5 t (cursor at 0 nothing) h).1 in
    omega arith

module _ (m : Reader (Maybe Spot (Ty Spot))) {t : List ℕ} {s : Walk} {o l w : List ℕ} {q : Result (ℕ × ℕ) Refusal} (g : Gives (below 2) t s.at q) where
  pub option_unread : {x : Refusal} {r : Walk} {o' l' w' : List ℕ} → q ≡ Err x → Walks t (option m) (onward (analyze_option analyze_maybe_type) carried_b) s o l w r o' l' w'
  option_unread e = walks λ j a i. leads_unoption g m e

  module _ {v n : ℕ} (e : q ≡ Ok (v, n)) {b : Wrote} {o₁ : List ℕ} (put : Put s.wrote (num_b v) o b o₁) where
    pub option_none : v ≡ 0 → Walks t (option m) (onward (analyze_option analyze_maybe_type) carried_b) s o l w (moved_to (with_wrote s b) n) o₁ l w
    unfolding analyze_option carried_b option_b S.ret
    option_none z = walks λ j a i. leads_none g m e z (leads_end none refl (wrote_on i put) λ _. ap (λ (k : ℕ). say (num_b k) a) z)

    pub option_some : {r : Walk} {o₂ l₂ w₂ : List ℕ} → (v ≡ 0 → ⊥) → Walks t m (onward analyze_maybe_type (maybe_b ty_b)) (moved_to (with_wrote s b) n) o₁ l w r o₂ l₂ w₂ → Walks t (option m) (onward (analyze_option analyze_maybe_type) carried_b) s o l w r o₂ l₂ w₂
    unfolding analyze_option carried_b option_b S.◌>>=◌ S.ret
    option_some z k = walks λ j a i. leads_some g m e z (leads_call _ k j (wrote_on i put) λ x _ i₁. leads_end (some x) refl i₁ λ _.
        ap (λ (xs : List ℕ). record { out = xs; st = (analyze_maybe_type x a.st).1; rest = a.rest })
        (ap (λ (k : ℕ). (a.out ++ num_b k) ++ maybe_b ty_b (analyze_maybe_type x a.st).0) (tag_one g e z) ∙ append_assoc a.out (num_b 1) _))
