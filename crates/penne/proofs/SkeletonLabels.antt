-- Labels of a skeleton: what is gone to, what is there, what is hidden in an inner scope; and what it means that the first pass has left them well.
use Prim.Native.Nat.{ℕ}
use mathlib.Core.Bool.{Bool, true, false, ◌||◌}
use mathlib.Core.Path.{◌≡◌, refl, sym}
use lib.Dec.{eqb}
use mathlib.Core.Logic.{⊎_elim}
use Rattle.penne.specs.Walks.{Target}
use Rattle.penne.proofs.Skeleton.{Sk, skip, seq, reads, runs, jumps, marks, either, scoped}
use Rattle.penne.proofs.Booleans.{or_case, true_false, or_left, or_right}

-- a goto to l, a label l, a label l in an inner scope
unfoldable pub jumps_to : ℕ → Sk → Bool
jumps_to l skip = false
jumps_to l (seq a c) = jumps_to l a || jumps_to l c
jumps_to l (reads u t) = false
jumps_to l (runs m) = false
jumps_to l (jumps m) = eqb l m
jumps_to l (marks m) = false
jumps_to l (either a c) = jumps_to l a || jumps_to l c
jumps_to l (scoped a) = jumps_to l a

-- a label l is in it
unfoldable pub has_mark : ℕ → Sk → Bool
has_mark l skip = false
has_mark l (seq a c) = has_mark l a || has_mark l c
has_mark l (reads u t) = false
has_mark l (runs m) = false
has_mark l (jumps m) = false
has_mark l (marks m) = eqb l m
has_mark l (either a c) = has_mark l a || has_mark l c
has_mark l (scoped a) = has_mark l a

-- a label l is in it, in an inner scope
unfoldable pub hides : ℕ → Sk → Bool
hides l skip = false
hides l (seq a c) = hides l a || hides l c
hides l (reads u t) = false
hides l (runs m) = false
hides l (jumps m) = false
hides l (marks m) = false
hides l (either a c) = has_mark l a || has_mark l c
hides l (scoped a) = has_mark l a

-- what the first pass makes of labels: a goto stands before its label, in a scope that is open at the goto
pub data Well : Sk → Type 0 where
  w_skip : Well skip
  w_seq : {a c : Sk} → Well a → Well c → ((l : ℕ) → jumps_to l c ≡ true → has_mark l a ≡ false) → ((l : ℕ) → jumps_to l a ≡ true → hides l c ≡ false) → Well (seq a c)
  w_reads : {u : ℕ} {t : Target} → Well (reads u t)
  w_runs : {m : ℕ} → Well (runs m)
  w_jumps : {l : ℕ} → Well (jumps l)
  w_marks : {l : ℕ} → Well (marks l)
  w_either : {a c : Sk} → Well a → Well c → ((l : ℕ) → jumps_to l a ≡ true → has_mark l c ≡ false) → ((l : ℕ) → jumps_to l c ≡ true → has_mark l a ≡ false) → Well (either a c)
  w_scoped : {a : Sk} → Well a → Well (scoped a)

-- what is hidden is there
pub hides_has : (l : ℕ) (a : Sk) → hides l a ≡ true → has_mark l a ≡ true
unfolding hides has_mark
hides_has l skip h = h
hides_has l (seq a c) h = ⊎_elim (λ e. or_left _ _ (hides_has l a e)) (λ e. or_right (has_mark l a) _ (hides_has l c e)) (or_case _ _ h)
hides_has l (reads u t) h = h
hides_has l (runs k) h = h
hides_has l (jumps k) h = h
hides_has l (marks k) h = true_false (sym h)
hides_has l (either a c) h = h
hides_has l (scoped a) h = h

-- no label is met twice
pub data Apart : Sk → Type 0 where
  a_skip : Apart skip
  a_seq : {a c : Sk} → Apart a → Apart c → ((l : ℕ) → has_mark l a ≡ true → has_mark l c ≡ false) → Apart (seq a c)
  a_reads : {u : ℕ} {t : Target} → Apart (reads u t)
  a_runs : {m : ℕ} → Apart (runs m)
  a_jumps : {l : ℕ} → Apart (jumps l)
  a_marks : {l : ℕ} → Apart (marks l)
  a_either : {a c : Sk} → Apart a → Apart c → ((l : ℕ) → has_mark l a ≡ true → has_mark l c ≡ false) → Apart (either a c)
  a_scoped : {a : Sk} → Apart a → Apart (scoped a)

-- what has neither gotos nor labels
pub data Quiet : Sk → Type 0 where
  q_skip : Quiet skip
  q_seq : {a c : Sk} → Quiet a → Quiet c → Quiet (seq a c)
  q_reads : {u : ℕ} {t : Target} → Quiet (reads u t)
  q_runs : {m : ℕ} → Quiet (runs m)

-- no label is in it, nor is any gone to, so labels are well
pub quiet_mark : (k : ℕ) {a : Sk} → Quiet a → has_mark k a ≡ false
unfolding has_mark
quiet_mark k q_skip = refl
quiet_mark k (q_seq p q) = rw (quiet_mark k p, quiet_mark k q)
quiet_mark k q_reads = refl
quiet_mark k q_runs = refl

pub quiet_jump : (k : ℕ) {a : Sk} → Quiet a → jumps_to k a ≡ false
unfolding jumps_to
quiet_jump k q_skip = refl
quiet_jump k (q_seq p q) = rw (quiet_jump k p, quiet_jump k q)
quiet_jump k q_reads = refl
quiet_jump k q_runs = refl

pub quiet_hides : (k : ℕ) {a : Sk} → Quiet a → hides k a ≡ false
unfolding hides
quiet_hides k q_skip = refl
quiet_hides k (q_seq p q) = rw (quiet_hides k p, quiet_hides k q)
quiet_hides k q_reads = refl
quiet_hides k q_runs = refl

pub quiet_well : {a : Sk} → Quiet a → Well a
quiet_well q_skip = w_skip
quiet_well (q_seq p q) = w_seq (quiet_well p) (quiet_well q) (λ k h. quiet_mark k p) (λ k h. quiet_hides k q)
quiet_well q_reads = w_reads
quiet_well q_runs = w_runs

pub quiet_apart : {a : Sk} → Quiet a → Apart a
quiet_apart q_skip = a_skip
quiet_apart (q_seq p q) = a_seq (quiet_apart p) (quiet_apart q) (λ k h. quiet_mark k q)
quiet_apart q_reads = a_reads
quiet_apart q_runs = a_runs
