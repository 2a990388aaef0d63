-- A number's groups, one way out at a time.
use Rattle.std.proofs.Common.{ℕ, zero, suc, ◌+◌, ◌*◌, ◌-◌, ◌%◌, ◌^◌, ◌≤◌, ◌<◌, ◌≡◌, refl, ap, ◌∙◌, Bool, true, false, ◌&&◌, ◌||◌, not, List, length, get_or, arith, Ok, Err, Result}
use native.Mathlib.Nat.{not-suc-le-zero, le-mul_of_pos_right, pow-suc}
use lib.Dec.{lit≤, ltb, eqb}
use borrow.Author.Tests.{lt-ltb, le-ltb}
use Rattle.penne.specs.Reader.{Cur, Got, got, refused, Reader, num, below, groups, last_group, moved, such}
use Rattle.penne.specs.Read.{name}
use Rattle.fields.specs.Answers.{cursor, Gives, Last}
use Rattle.fields.specs.declared.refusal.Reason.TheVariants.{CutOff, BadNumber}
use Rattle.fields.specs.declared.refusal.Refusal.{Refusal}

-- THE GROUPS

module _ (start w v : ℕ) (s : List ℕ) (at : ℕ) (c : Cur) where
  pub out : (left : ℕ) → 0 < left → length s ≤ at → groups left start w v s at c ≡ refused 3 start
  unfolding groups
  out zero h g = absurd (not-suc-le-zero h)
  out (suc left) h g = rw (le-ltb at (length s) g, groups)

  pub last : (left b : ℕ) → 0 < left → at < length s → b ≡ get_or s at 0 → b < 128 → groups left start w v s at c ≡ last_group b w v start (at + 1) c
  unfolding groups
  last zero b h g e k = absurd (not-suc-le-zero h)
  last (suc left) b h g e k = simp (lt-ltb at (length s) g, ← e, lt-ltb b 128 k, groups)

  pub on : (left b : ℕ) → 0 < left → at < length s → b ≡ get_or s at 0 → 128 ≤ b → groups left start w v s at c ≡ groups (left - 1) start (w * 128) (v + b % 128 * w) s (at + 1) c
  unfolding groups
  on zero b h g e k = absurd (not-suc-le-zero h)
  on (suc left) b h g e k =
      let q : suc left - 1 ≡ left = omega arith in
      rw q (simp (lt-ltb at (length s) g, ← e, le-ltb b 128 k, groups))

none_left : (start w v : ℕ) (s : List ℕ) (at : ℕ) (c : Cur) (left : ℕ) → left ≡ 0 → groups left start w v s at c ≡ refused 4 start
unfolding groups
none_left start w v s at c left e = rw e

-- what is left of the number that begins at `start`, in the middle of it
pub record Going (s : List ℕ) (start left w v here : ℕ) : Type 0 where
  pub is : (c : Cur) → c.at ≡ start → num s c ≡ groups left start w v s here c
  pub weight : w * 128 ^ left ≤ 2 ^ 35
  pub under : v < w

pub going_start : (s : List ℕ) (start : ℕ) → Going s start 5 1 0 start
unfolding num
going_start s start = record { is = λ c e. rw e; weight = lit≤ tt; under = lit≤ tt }

pow128_pos : (k : ℕ) → 0 < 128 ^ k
pow128_pos zero = lit≤ tt
pow128_pos (suc k) = omega (arith, pow-suc 128 k, pow128_pos k)

weight_on : (w k : ℕ) → 0 < k → w * 128 ^ k ≤ 2 ^ 35 → w * 128 * 128 ^ (k - 1) ≤ 2 ^ 35
weight_on w zero h g = absurd (not-suc-le-zero h)
weight_on w (suc k) h g =
    let e : suc k - 1 ≡ k = omega arith in
    rw e (omega (arith, ap (λ (x : ℕ). w * x) (pow-suc 128 k)))

module _ {s : List ℕ} {start left w v here : ℕ} (g : Going s start left w v here) where
  pub weight_le : w ≤ 2 ^ 35
  weight_le = omega (arith, g.weight, le-mul_of_pos_right w (pow128_pos left))

  pub going_on : {b rest : ℕ} → rest ≡ left - 1 → 0 < left → here < length s → b ≡ get_or s here 0 → 128 ≤ b → v + b % 128 * w < w * 128 → Going s start rest (w * 128) (v + b % 128 * w) (here + 1)
  going_on q h i e k u = rw q (record { is = λ c z. g.is c z ∙ on start w v s here c left _ h i e k; weight = weight_on w left h g.weight; under = u })

  pub going_out : 0 < left → length s ≤ here → Gives num s start (Err (record { reason = CutOff; place = start }))
  going_out h i = record { is = λ names k. g.is (cursor start names k) refl ∙ out start w v s here (cursor start names k) left h i }

  pub going_none : left ≡ 0 → Gives num s start (Err (record { reason = BadNumber; place = start }))
  going_none h = record { is = λ names k. g.is (cursor start names k) refl ∙ none_left start w v s here (cursor start names k) left h }

  pub going_last : {b : ℕ} {r : Result (ℕ × ℕ) Refusal} → 0 < left → here < length s → b ≡ get_or s here 0 → b < 128 → Last b w v start (here + 1) r → Gives num s start r
  going_last h i e k l = record { is = λ names m. g.is (cursor start names m) refl ∙ last start w v s here (cursor start names m) left _ h i e k ∙ l.is names m }

-- A NUMBER OF ONE GROUP

pub number_out : {s : List ℕ} {at : ℕ} → length s ≤ at → Gives num s at (Err (record { reason = CutOff; place = at }))
number_out {s} {at} h = going_out (going_start s at) (lit≤ tt) h

one_group : (b start next : ℕ) → b < 128 → Last b 1 0 start next (Ok (b, next))
unfolding last_group moved
one_group b start next h = record { is = λ names k. grind arith }

pub number_one : {s : List ℕ} {at b : ℕ} → at < length s → b ≡ get_or s at 0 → b < 128 → Gives num s at (Ok (b, at + 1))
number_one {s} {at} {b} h e k = going_last (going_start s at) (lit≤ tt) h e k (one_group b at (at + 1) k)

-- A NUMBER THAT MUST PASS A TEST

module _ {A : Type 0} (m : Reader A) (test : A → Cur → Bool) (k : ℕ) (s : List ℕ) (c : Cur) where
  pub such_no : {n p : ℕ} → m s c ≡ refused n p → such m test k s c ≡ refused n p
  unfolding such
  such_no e = rw (e, such)

  pub such_got : {a : A} {next : Cur} → m s c ≡ got a next → test a next ≡ true → such m test k s c ≡ got a next
  unfolding such
  such_got e t = rw (e, t, such)

  pub such_not : {a : A} {next : Cur} → m s c ≡ got a next → test a next ≡ false → such m test k s c ≡ refused k c.at
  unfolding such
  such_not e t = rw (e, t, such)

-- A NUMBER LEAVES THE TABLE OF NAMES AS IT IS

abbrev kept : Cur → Got ℕ → Type 0
kept c (got v d) = d.names ≡ c.names
kept c (refused i p) = Unit {0}

last_kept : (b w v start next : ℕ) (c : Cur) → kept c (last_group b w v start next c)
unfolding last_group moved
last_kept b w v start next c = (elim (ltb (v + b * w) (2 ^ 32) && (not (eqb b 0) || eqb w 1)) as (λ t. kept c (elim t as (λ _. Got ℕ) [ true ↦ got (v + b * w) (moved c next) | false ↦ refused 4 start ])) [ true ↦ refl | false ↦ tt ])

groups_kept : (left start w v : ℕ) (s : List ℕ) (at : ℕ) (c : Cur) → kept c (groups left start w v s at c)
unfolding groups
groups_kept zero start w v s at c = tt
groups_kept (suc left) start w v s at c = (elim (ltb at (length s)) as (λ t. kept c (elim t as (λ _. Got ℕ) [ false ↦ refused 3 start | true ↦ elim (ltb (get_or s at 0) 128) as (λ _. Got ℕ) [ false ↦ groups left start (w * 128) (v + (get_or s at 0 % 128) * w) s (at + 1) c | true ↦ last_group (get_or s at 0) w v start (at + 1) c ] ])) [
  | false ↦ tt
  | true ↦ (elim (ltb (get_or s at 0) 128) as (λ t. kept c (elim t as (λ _. Got ℕ) [ false ↦ groups left start (w * 128) (v + (get_or s at 0 % 128) * w) s (at + 1) c | true ↦ last_group (get_or s at 0) w v start (at + 1) c ])) [
    | false ↦ groups_kept left start (w * 128) (v + (get_or s at 0 % 128) * w) s (at + 1) c
    | true ↦ last_kept (get_or s at 0) w v start (at + 1) c
  ])
])

num_kept : (s : List ℕ) (c : Cur) → kept c (num s c)
unfolding num
num_kept s c = groups_kept 5 c.at 1 0 s c.at c

-- so a name is a number below how many names there are
pub name_is : (s : List ℕ) (c : Cur) → name s c ≡ below c.names s c
unfolding name below such
name_is s c = go (num s c) (num_kept s c)
  where
    go : (q : Got ℕ) → kept c q → elim q as (λ _. Got ℕ) [ got v d ↦ elim (ltb v d.names) as (λ _. Got ℕ) [ true ↦ got v d | false ↦ refused 5 c.at ] | refused i p ↦ refused i p ] ≡ elim q as (λ _. Got ℕ) [ got v d ↦ elim (ltb v c.names) as (λ _. Got ℕ) [ true ↦ got v d | false ↦ refused 5 c.at ] | refused i p ↦ refused i p ]
    go (got v d) h = rw h refl
    go (refused i p) h = refl
