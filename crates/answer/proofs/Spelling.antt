-- A number that was read stands in its shortest form: its bytes are those that the encoder writes.
use mathlib.Core.Path.{◌≡◌, sym, ap, subst, ◌∙◌}
use mathlib.Core.List.{List, [], ◌∷◌}
use Prim.Native.Nat.{ℕ, zero, suc, ◌+◌, ◌-◌, ◌*◌, ◌/◌, ◌%◌, ◌^◌, ◌≤◌, ◌<◌}
use native.Mathlib.Nat.{add_assoc, add-mul, mul_assoc, mul_comm}
use native.Mathlib.Numerals.{add-one}
use native.Mathlib.Decide.{dec_lt, ℕ_discrete}
use native.Mathlib.Omega.{arith}
use lib.Dec.{lit≤}
use lib.ListN.{length, get_or, take, drop}
use lib.Seq.{drop-cons}
use borrow.Author.Tests.{lt-ltb, le-ltb, eq-eqb, ne_eqb}
use Rattle.penne.specs.Reader.{Cur, Got, got, refused, num, groups, last_group, moved}
use Rattle.penne.specs.Write.{num_b, groups_b}
use Rattle.answer.specs.Parts.{span}
use Rattle.answer.proofs.Groups.{groups_small, groups_more}

-- all of s are bytes
abbrev pub Bytewise : List ℕ → Type 0
Bytewise s = (i : ℕ) → get_or s i 0 < 256

-- a part by its first byte
part_cons : (s : List ℕ) (at next : ℕ) → at < length s → at < next → span s at next ≡ get_or s at 0 ∷ span s (at + 1) next
unfolding span
part_cons s at next h l =
    let e : next - at ≡ suc (next - (at + 1)) = omega arith in
    ap (λ (k : ℕ). take k (drop at s)) e ∙ ap (take (suc (next - (at + 1)))) (drop-cons s at 0 h) ∙ ap (λ (k : ℕ). get_or s at 0 ∷ take (next - (at + 1)) (drop k s)) (sym (add-one at))

part_none : (s : List ℕ) (at : ℕ) → span s at at ≡ []
unfolding span
part_none s at = let e : at - at ≡ 0 = omega arith in ap (λ (k : ℕ). take k (drop at s)) e

-- what groups of weight w and up come to, in the middle of a number: u, whose groups stand in s from `at` on
data Spelt (s : List ℕ) (left at w v : ℕ) (c : Cur) : Got ℕ → Type 0 where
  spelt : (u next : ℕ) → at + length (groups_b left u) ≡ next → at < next → next ≤ length s → ((w ≡ 1 → ⊥) → 0 < u) → (Bytewise s → groups_b left u ≡ span s at next) → Spelt s left at w v c (got (v + u * w) (moved c next))
  unread : {n p : ℕ} → Spelt s left at w v c (refused n p)

module _ (left start w v : ℕ) (s : List ℕ) (at : ℕ) (c : Cur) (h : at < length s) where
  abbrev byte : ℕ
  byte = get_or s at 0

  -- the last group
  last_spelt : byte < 128 → Spelt s (suc left) at w v c (last_group byte w v start (at + 1) c)
  unfolding last_group
  last_spelt k = go (dec_lt (v + byte * w) (2 ^ 32)) (ℕ_discrete byte 0) (ℕ_discrete w 1)
    where
      is : ((w ≡ 1 → ⊥) → 0 < byte) → Spelt s (suc left) at w v c (got (v + byte * w) (moved c (at + 1)))
      is z = spelt byte (at + 1) (omega (arith, ap length (groups_small left byte k))) (omega arith) (omega arith) z (λ b. groups_small left byte k ∙ sym (part_cons s at (at + 1) h (omega arith) ∙ ap (λ (l : List ℕ). byte ∷ l) (part_none s (at + 1))))

      go : Dec (v + byte * w < 2 ^ 32) → Dec (byte ≡ 0) → Dec (w ≡ 1) → Spelt s (suc left) at w v c (last_group byte w v start (at + 1) c)
      go (no l) z o = rw (le-ltb (v + byte * w) (2 ^ 32) (omega arith), last_group) unread
      go (yes l) (no z) o = simp (lt-ltb (v + byte * w) (2 ^ 32) l, ne_eqb byte 0 z, last_group) (is (λ _. omega arith))
      go (yes l) (yes z) (yes o) = simp (lt-ltb (v + byte * w) (2 ^ 32) l, eq-eqb byte 0 z, eq-eqb w 1 o, last_group) (is (λ d. absurd (d o)))
      go (yes l) (yes z) (no o) = simp (lt-ltb (v + byte * w) (2 ^ 32) l, eq-eqb byte 0 z, ne_eqb w 1 o, last_group) unread

  value_on : (u : ℕ) → v + byte % 128 * w + u * (w * 128) ≡ v + (u * 128 + byte % 128) * w
  value_on u = add_assoc v (byte % 128 * w) (u * (w * 128)) ∙ ap (λ (n : ℕ). v + n) (omega (arith, add-mul (u * 128) (byte % 128) w, mul_assoc u 128 w, mul_comm 128 w))

  -- a group with others behind it
  more_spelt : 128 ≤ byte → 0 < w → {q : Got ℕ} → Spelt s left (at + 1) (w * 128) (v + byte % 128 * w) c q → Spelt s (suc left) at w v c q
  more_spelt k p (spelt u next long later within some bytes) =
      let u' : ℕ = u * 128 + byte % 128 in
      let z : 0 < u = some (λ e. omega arith) in
      let low : u' % 128 ≡ byte % 128 = omega arith in
      let high : u' / 128 ≡ u = omega arith in
      subst (λ (n : ℕ). Spelt s (suc left) at w v c (got n (moved c next))) (sym (value_on u)) (spelt u' next (omega (arith, long, ap length (groups_more left u' (omega arith)), ap (λ (n : ℕ). length (groups_b left n)) high)) (omega arith) within (λ _. omega arith)
      (λ b. let e : 128 + byte % 128 ≡ byte = omega (arith, b at) in
      groups_more left u' (omega arith) ∙ ap (λ (n : ℕ). (128 + n) ∷ groups_b left (u' / 128)) low ∙ ap (λ (n : ℕ). n ∷ groups_b left (u' / 128)) e
      ∙ ap (λ (l : List ℕ). byte ∷ l) (ap (groups_b left) high ∙ bytes b) ∙ sym (part_cons s at next h (omega arith))))
  more_spelt k p unread = unread

groups_spelt : (left start w v : ℕ) (s : List ℕ) (at : ℕ) (c : Cur) → 0 < w → Spelt s left at w v c (groups left start w v s at c)
unfolding groups
groups_spelt zero start w v s at c p = unread
groups_spelt (suc left) start w v s at c p = go (dec_lt at (length s)) (dec_lt (get_or s at 0) 128) (groups_spelt left start (w * 128) (v + get_or s at 0 % 128 * w) s (at + 1) c (omega arith))
  where
    go : Dec (at < length s) → Dec (get_or s at 0 < 128) → Spelt s left (at + 1) (w * 128) (v + get_or s at 0 % 128 * w) c (groups left start (w * 128) (v + get_or s at 0 % 128 * w) s (at + 1) c)
        → Spelt s (suc left) at w v c (groups (suc left) start w v s at c)
    go (no h) k rest = rw (le-ltb at (length s) (omega arith), groups) unread
    go (yes h) (yes k) rest = rw (lt-ltb at (length s) h, lt-ltb (get_or s at 0) 128 k, groups) (last_spelt left start w v s at c h k)
    go (yes h) (no k) rest = rw (lt-ltb at (length s) h, le-ltb (get_or s at 0) 128 (omega arith), groups) (more_spelt left start w v s at c h (omega arith) p rest)

-- v was read from `at` to `next`
pub record Reading (s : List ℕ) (at v next : ℕ) : Type 0 where
  pub long : at + length (num_b v) ≡ next
  pub later : at < next
  pub within : next ≤ length s
  pub bytes : Bytewise s → num_b v ≡ span s at next

reading : {s : List ℕ} {at : ℕ} {c : Cur} {q : Got ℕ} (v : ℕ) (next : Cur) → Spelt s 5 at 1 0 c q → q ≡ got v next → Reading s at v next.at
unfolding num_b moved
reading {s} {at} {c} v next (spelt u n long later within some bytes) e =
    let value : 0 + u * 1 ≡ v = cc in
    let end : moved c n ≡ next = cc in
    let z : u ≡ v = omega arith in
    let m : n ≡ next.at = ap (λ (d : Cur). d.at) end in
    record { long = ap (λ (i : ℕ). at + length (groups_b 5 i)) (sym z) ∙ long ∙ m; later = omega arith; within = omega arith; bytes = λ b. ap (groups_b 5) (sym z) ∙ bytes b ∙ ap (span s at) m }
reading v next unread e = let z : ◌≡◌ {A = ℕ} 0 1 = cc in absurd (omega arith)

pub num_reading : (s : List ℕ) (c : Cur) (v : ℕ) (next : Cur) → num s c ≡ got v next → Reading s c.at v next.at
unfolding num
num_reading s c v next e = reading v next (groups_spelt 5 c.at 1 0 s c.at c (lit≤ tt)) e
