-- What stands or falls with a type: TypeCast and SizeOf.
use mathlib.Core.Path.{◌≡◌, refl}
use mathlib.Core.List.{List, ◌++◌, append_assoc}
use mathlib.Core.Option.{none, some}
use Prim.Native.Nat.{ℕ}
use native.Mathlib.Omega.{arith}
use Rattle.penne.specs.Tree.{Spot, Ty, Expr, type_cast, size_of}
use Rattle.penne.specs.Write.{num_b, place_b, ty_b, node_b}
use Rattle.penne.specs.State as S
use Rattle.penne.specs.Variables.{analyze_type, cast_to, size_of_type, analyze_node}
use Rattle.penne.proofs.IdsPass.{still_type, still_cast, still_node}
use Rattle.answer.specs.declared.wrote.Wrote.{Wrote}
use Rattle.answer.specs.Out.{Put}
use Rattle.answer.specs.Parts.{renumbered}
use Rattle.walk.specs.declared.state.Walk.{Walk}
use Rattle.walk.specs.declared.fault.Fault.{Fault}
use Rattle.walk.specs.Walking.{with_wrote, Ground, Good, Is, onward, silently, say, fault_b, ok_b, Answers}
use Rattle.walk.proofs.Leading.{told_fine, told_bad}
use Rattle.walk.proofs.Writing.{out_is, rewound, instead}
use Rattle.walk.proofs.Copying.{Spells, spells_is}
use Rattle.expression_parts.proofs.Onward.{out_same}

-- the kind and the places are dropped with what was written of the type
pub type_rewound : {s : Walk} {o l w : List ℕ} {a : Ground} {s₁ : Walk} {o₁ l₁ w₁ : List ℕ} (xs : List ℕ) (x : Ty Spot) → Is s o l w a → Is s₁ o₁ l₁ w₁ (onward analyze_type (ok_b ty_b) x (say xs a)) → Is (with_wrote s₁ s.wrote) o₁ l₁ w₁ (silently analyze_type x a)
type_rewound {a = a} xs x i i₁ = rewound i _ (still_type x a.st).takes.lower (out_is i₁ (append_assoc a.out xs _))

-- a poison is written in their place
pub type_instead : {s : Walk} {o l w : List ℕ} {a : Ground} {s₁ : Walk} {o₁ l₁ w₁ : List ℕ} {ys : List ℕ} {v : Wrote} {o₂ : List ℕ} (xs : List ℕ) (x : Ty Spot) → Is s o l w a → Is s₁ o₁ l₁ w₁ (onward analyze_type (ok_b ty_b) x (say xs a)) → Put s.wrote ys o₁ v o₂ → Is (with_wrote s₁ v) o₂ l₁ w₁ (say ys (silently analyze_type x a))
type_instead {a = a} xs x i i₁ p = instead i _ (still_type x a.st).takes.lower (out_is i₁ (append_assoc a.out xs _)) p

-- TYPE CASTS

module _ (xs : List ℕ) (a : Ground) (p q : Spot) (x : Ty Spot) (y : Expr Spot) where
  cast_good : Good (onward analyze_node node_b (type_cast p q x y) a) → Good (silently analyze_type x (say xs a))
  unfolding analyze_node S.◌>>=◌
  cast_good z =
      let few = z.few in
      let le = (still_cast p q (analyze_node y) (still_node y) (analyze_type x a.st).0 (analyze_type x a.st).1).takes.lower in
      record { few = omega arith; fit = z.fit }

  pub type_cast_is : {t : List ℕ} {from to : ℕ} → Spells t from to (place_b p ++ place_b q) → (Good (silently analyze_type x (say xs a)) → Answers none (analyze_type x a.st).0) → Good (onward analyze_node node_b (type_cast p q x y) a)
      → onward analyze_node node_b y (onward analyze_type (ok_b ty_b) x (say (num_b 11 ++ renumbered t from to) a)) ≡ onward analyze_node node_b (type_cast p q x y) a
  unfolding analyze_node node_b cast_to ok_b S.◌>>=◌ S.ret
  type_cast_is h told z = let e = (told_fine (told (cast_good z)) refl).1 in rw e (out_same (rw (spells_is h) (simp append_assoc)))

  pub type_cast_bad : {f : Fault} → (Good (silently analyze_type x (say xs a)) → Answers (some f) (analyze_type x a.st).0) → Good (onward analyze_node node_b (type_cast p q x y) a) → say (num_b 15 ++ fault_b f) (silently analyze_type x a) ≡ onward analyze_node node_b (type_cast p q x y) a
  unfolding analyze_node node_b cast_to S.◌>>=◌ S.ret
  type_cast_bad told z = let e = told_bad (told (cast_good z)) refl in rw (e.1, e.2)

-- SIZES

module _ (xs : List ℕ) (a : Ground) (p : Spot) (x : Ty Spot) where
  size_good : Good (onward analyze_node node_b (size_of p x) a) → Good (silently analyze_type x (say xs a))
  unfolding analyze_node S.◌>>=◌ S.ret
  size_good z = record { few = z.few; fit = z.fit }

  pub size_of_is : {t : List ℕ} {from to : ℕ} → Spells t from to (place_b p) → (Good (silently analyze_type x (say xs a)) → Answers none (analyze_type x a.st).0) → Good (onward analyze_node node_b (size_of p x) a)
      → onward analyze_type (ok_b ty_b) x (say (num_b 13 ++ renumbered t from to) a) ≡ onward analyze_node node_b (size_of p x) a
  unfolding analyze_node node_b size_of_type ok_b S.◌>>=◌ S.ret
  size_of_is h told z = let e = (told_fine (told (size_good z)) refl).1 in rw e (out_same (rw (spells_is h) (simp append_assoc)))

  pub size_of_bad : {f : Fault} → (Good (silently analyze_type x (say xs a)) → Answers (some f) (analyze_type x a.st).0) → Good (onward analyze_node node_b (size_of p x) a) → say (num_b 15 ++ fault_b f) (silently analyze_type x a) ≡ onward analyze_node node_b (size_of p x) a
  unfolding analyze_node node_b size_of_type S.◌>>=◌ S.ret
  size_of_bad told z = let e = told_bad (told (size_good z)) refl in rw (e.1, e.2)
