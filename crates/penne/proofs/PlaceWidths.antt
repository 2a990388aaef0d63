-- How many bytes a number takes: as many as the least number of as many bytes, in the input and in the answer.
use Prim.Native.Nat.{ℕ, suc, ◌+◌, ◌-◌, ◌*◌, ◌/◌, ◌%◌, ◌^◌, ◌≤◌, ◌<◌}
use mathlib.Core.Bool.{Bool, true, false, ◌&&◌, ◌||◌, not}
use mathlib.Core.Path.{◌≡◌, refl, sym, ◌∙◌, ap, subst}
use mathlib.Core.List.{List, [], ◌∷◌}
use lib.ListN.{length, get_or}
use lib.Dec.{ltb, eqb}
use native.Mathlib.Omega.{arith}
use borrow.Author.Tests.{lt-ltb, le-ltb, ltb-true, ltb-false, eqb-true, eqb-false}
use Rattle.penne.specs.Reader.{Cur, Got, got, refused, moved, last_group, groups, num, nothing}
use Rattle.penne.specs.Write.{groups_b, num_b}
use Rattle.penne.specs.PlaceRule.{Number, least_as_long}
use Rattle.penne.proofs.Leading.{Leads, leads_got, leads_no}

-- IN THE ANSWER

-- a number, by how many bytes it takes
data Width (n : ℕ) : Type 0 where
  one : n < 128 → Width n
  two : 128 ≤ n → n < 16384 → Width n
  three : 16384 ≤ n → n < 2097152 → Width n
  four : 2097152 ≤ n → n < 268435456 → Width n
  five : 268435456 ≤ n → Width n

width : (n : ℕ) → Width n
width n = (elim (ltb n 128) as (λ b. ltb n 128 ≡ b → Width n) [
  | true ↦ λ e. one (ltb-true n 128 e)
  | false ↦ λ e. (elim (ltb n 16384) as (λ b. ltb n 16384 ≡ b → Width n) [
    | true ↦ λ f. two (ltb-false n 128 e) (ltb-true n 16384 f)
    | false ↦ λ f. (elim (ltb n 2097152) as (λ b. ltb n 2097152 ≡ b → Width n) [
      | true ↦ λ g. three (ltb-false n 16384 f) (ltb-true n 2097152 g)
      | false ↦ λ g. (elim (ltb n 268435456) as (λ b. ltb n 268435456 ≡ b → Width n) [
        | true ↦ λ h. four (ltb-false n 2097152 g) (ltb-true n 268435456 h)
        | false ↦ λ h. five (ltb-false n 268435456 h)
      ]) refl
    ]) refl
  ]) refl
]) refl

least_one : (n : ℕ) → n < 128 → least_as_long n ≡ 0
unfolding least_as_long
least_one n h = simp (lt-ltb n 128 h, least_as_long)

least_two : (n : ℕ) → 128 ≤ n → n < 16384 → least_as_long n ≡ 128
unfolding least_as_long
least_two n h i = simp (le-ltb n 128 h, lt-ltb n 16384 i, least_as_long)

least_three : (n : ℕ) → 16384 ≤ n → n < 2097152 → least_as_long n ≡ 16384
unfolding least_as_long
least_three n h i = simp (le-ltb n 128 (omega arith), le-ltb n 16384 h, lt-ltb n 2097152 i, least_as_long)

least_four : (n : ℕ) → 2097152 ≤ n → n < 268435456 → least_as_long n ≡ 2097152
unfolding least_as_long
least_four n h i = simp (le-ltb n 128 (omega arith), le-ltb n 16384 (omega arith), le-ltb n 2097152 h, lt-ltb n 268435456 i, least_as_long)

least_five : (n : ℕ) → 268435456 ≤ n → least_as_long n ≡ 268435456
unfolding least_as_long
least_five n h = simp (le-ltb n 128 (omega arith), le-ltb n 16384 (omega arith), le-ltb n 2097152 (omega arith), le-ltb n 268435456 h, least_as_long)

long_last : (k n : ℕ) → n < 128 → length (groups_b (suc k) n) ≡ 1
unfolding groups_b
long_last k n h = simp (lt-ltb n 128 h, groups_b)

long_more : (k n : ℕ) → 128 ≤ n → length (groups_b (suc k) n) ≡ suc (length (groups_b k (n / 128)))
unfolding groups_b
long_more k n h = simp (le-ltb n 128 h, groups_b)

long_end : (n : ℕ) → length (groups_b 1 n) ≡ 1
unfolding groups_b
long_end n = go (ltb n 128)
  where
    go : (b : Bool) → length {A = ℕ} (elim b as (λ _. List ℕ) [ true ↦ n ∷ [] | false ↦ (128 + n % 128) ∷ [] ]) ≡ 1
    go true = refl
    go false = refl

long : (n : ℕ) → Width n → length (num_b (least_as_long n)) ≡ length (num_b n)
unfolding num_b groups_b
long n (one h) = ap (λ (k : ℕ). length (num_b k)) (least_one n h) ∙ sym (long_last 4 n h)
long n (two h i) = ap (λ (k : ℕ). length (num_b k)) (least_two n h i) ∙ sym (long_more 4 n h ∙ ap suc (long_last 3 (n / 128) (omega arith)))
long n (three h i) = ap (λ (k : ℕ). length (num_b k)) (least_three n h i) ∙ sym (long_more 4 n (omega arith) ∙ ap suc (long_more 3 (n / 128) (omega arith) ∙ ap suc (long_last 2 (n / 128 / 128) (omega arith))))
long n (four h i) = ap (λ (k : ℕ). length (num_b k)) (least_four n h i) ∙ sym (long_more 4 n (omega arith) ∙ ap suc (long_more 3 (n / 128) (omega arith) ∙ ap suc (long_more 2 (n / 128 / 128) (omega arith) ∙ ap suc (long_last 1 (n / 128 / 128 / 128) (omega arith)))))
long n (five h) = ap (λ (k : ℕ). length (num_b k)) (least_five n h) ∙ sym (long_more 4 n (omega arith) ∙ ap suc (long_more 3 (n / 128) (omega arith) ∙ ap suc (long_more 2 (n / 128 / 128) (omega arith) ∙ ap suc (long_more 1 (n / 128 / 128 / 128) (omega arith) ∙ ap suc (long_end (n / 128 / 128 / 128 / 128))))))

-- the answer is as long with the least numbers of as many bytes
pub long_least : (n : ℕ) → length (num_b (least_as_long n)) ≡ length (num_b n)
long_least n = long n (width n)

-- IN THE INPUT

-- the least number of k bytes
least_of : ℕ → ℕ
least_of k = get_or (0 ∷ 0 ∷ 128 ∷ 16384 ∷ 2097152 ∷ 268435456 ∷ []) k 0

-- i groups were read, the first of them at `from`; the next has weight w, and v is what they come to
module _ (s : List ℕ) (start from : ℕ) (c : Cur) where
  abbrev Wide : Got ℕ → Type 0
  Wide q = Leads q (λ n d. least_as_long n ≡ least_of (d.at - from))

  wide_last : (i w v b : ℕ) → ((b ≡ 0 → w ≡ 1) → least_as_long (v + b * w) ≡ least_of (suc i)) → Wide (last_group b w v start (from + i + 1) c)
  unfolding last_group moved
  wide_last i w v b h = go (ltb (v + b * w) (2 ^ 32)) (eqb b 0) (eqb w 1) refl refl
    where
      here : least_as_long (v + b * w) ≡ least_of (suc i) → Wide (got (v + b * w) (moved c (from + i + 1)))
      here e = leads_got _ _ (let z : suc i ≡ from + i + 1 - from = omega arith in e ∙ ap least_of z)

      go : (x y z : Bool) → eqb b 0 ≡ y → eqb w 1 ≡ z → Wide (elim (x && (not y || z)) as (λ _. Got ℕ) [ true ↦ got (v + b * w) (moved c (from + i + 1)) | false ↦ refused 4 start ])
      go false y z e f = leads_no
      go true false z e f = here (h λ u. absurd (eqb-false b 0 e u))
      go true true true e f = here (h λ u. eqb-true w 1 f)
      go true true false e f = leads_no

  wide_groups : (left i w v at : ℕ) → at ≡ from + i
      → ((b : ℕ) → b < 128 → (b ≡ 0 → w ≡ 1) → least_as_long (v + b * w) ≡ least_of (suc i))
      → ((b : ℕ) → b < 128 → Wide (groups left start (w * 128) (v + b * w) s (at + 1) c))
      → Wide (groups (suc left) start w v s at c)
  unfolding groups
  wide_groups left i w v at e last next = go (ltb at (length s)) (ltb (get_or s at 0) 128) refl
    where
      go : (x y : Bool) → ltb (get_or s at 0) 128 ≡ y → Wide (elim x as (λ _. Got ℕ) [ false ↦ refused 3 start | true ↦ elim y as (λ _. Got ℕ) [ false ↦ groups left start (w * 128) (v + (get_or s at 0 % 128) * w) s (at + 1) c | true ↦ last_group (get_or s at 0) w v start (at + 1) c ] ])
      go false y f = leads_no
      go true false f = next (get_or s at 0 % 128) (omega arith)
      go true true f = subst (λ (k : ℕ). Wide (last_group (get_or s at 0) w v start (k + 1) c)) (sym e) (wide_last i w v (get_or s at 0) (last (get_or s at 0) (ltb-true _ _ f)))

-- a number that is read: the least of as many bytes is told by the bytes it took
wide_num : (s : List ℕ) (c : Cur) → Wide s c.at c.at c (num s c)
unfolding num least_of groups
wide_num s c =
    wide_groups s _ _ c 4 0 1 0 c.at (omega arith) (λ b h z. least_one _ (omega arith)) λ b₀ h₀.
    wide_groups s _ _ c 3 1 128 (0 + b₀ * 1) (c.at + 1) (omega arith) (λ b h z. least_two _ (omega (arith, some z)) (omega arith)) λ b₁ h₁.
    wide_groups s _ _ c 2 2 16384 (0 + b₀ * 1 + b₁ * 128) (c.at + 1 + 1) (omega arith) (λ b h z. least_three _ (omega (arith, some z)) (omega arith)) λ b₂ h₂.
    wide_groups s _ _ c 1 3 2097152 (0 + b₀ * 1 + b₁ * 128 + b₂ * 16384) (c.at + 1 + 1 + 1) (omega arith) (λ b h z. least_four _ (omega (arith, some z)) (omega arith)) λ b₃ h₃.
    wide_groups s _ _ c 0 4 268435456 (0 + b₀ * 1 + b₁ * 128 + b₂ * 16384 + b₃ * 2097152) (c.at + 1 + 1 + 1 + 1) (omega arith) (λ b h z. least_five _ (omega (arith, some z))) λ b₄ h₄.
    leads_no
  where
    -- the last of several groups is not empty
    some : {b w : ℕ} → (b ≡ 0 → suc (suc w) ≡ 1) → 1 ≤ b
    some {b} {w} z = go (eqb b 0) refl
      where
        go : (x : Bool) → eqb b 0 ≡ x → 1 ≤ b
        go true e = (let u : suc (suc w) ≡ 1 = z (eqb-true b 0 e) in omega arith)
        go false e = (let u : b ≡ 0 → ⊥ = eqb-false b 0 e in omega arith)

-- numbers of equal byte count have the same least one
pub same_least : {s t : List ℕ} {at p q next : ℕ} → Number s at p next → Number t at q next → least_as_long p ≡ least_as_long q
unfolding moved
same_least {s} {t} {at} {p} {q} {next} x y =
    let c : Cur = record { at = at; names = 0; counts = nothing } in
    (wide_num s c).to (x.reads c refl) ∙ sym ((wide_num t c).to (y.reads c refl))
