-- The skeleton of a body: what goto pruning and walks see of its statements. And what may be missing where, for one declaration.
use Prim.Native.Nat.{ℕ, ◌+◌}
use mathlib.Core.Bool.{Bool, ◌&&◌, ◌||◌, not}
use mathlib.Core.List.{List, [], ◌∷◌, ◌++◌}
use mathlib.Core.Path.{◌≡◌}
use lib.ListN.{length}
use lib.Dec.{eqb}
use Rattle.penne.specs.Walks.{Act, use_of, run, jump, target, fork, past, Target}

-- statements without expressions; the branches of an If are each in a scope of their own (the premise)
pub data Sk : Type 0 where
  skip : Sk
  seq : Sk → Sk → Sk
  reads : (offset : ℕ) → Target → Sk
  runs : (n : ℕ) → Sk
  jumps : (l : ℕ) → Sk
  marks : (l : ℕ) → Sk
  either : Sk → Sk → Sk
  scoped : Sk → Sk

-- the acts of its text
unfoldable pub flat : Sk → List Act
flat skip = []
flat (seq a b) = flat a ++ flat b
flat (reads u t) = use_of u t ∷ []
flat (runs n) = run n ∷ []
flat (jumps l) = jump l ∷ []
flat (marks l) = target l ∷ []
flat (either a b) = fork (length (flat a) + 1) ∷ (flat a ++ (past (length (flat b)) ∷ flat b))
flat (scoped a) = flat a

-- how many acts
abbrev pub len : Sk → ℕ
len a = length (flat a)

-- what may be missing the declaration n: a walk that stands here, and for each label a walk that stands at an earlier goto to it
pub record Miss : Type 0 where
  pub here : Bool
  pub at : ℕ → Bool

-- the two together
unfoldable pub miss : Bool → (ℕ → Bool) → Miss
miss e v = record { here = e; at = v }

-- from before a skeleton to behind it
unfoldable pub flow : ℕ → Sk → Miss → Miss
flow n skip s = s
flow n (seq a b) s = flow n b (flow n a s)
flow n (reads u t) s = s
flow n (runs m) s = miss (s.here && not (eqb n m)) s.at
flow n (jumps l) s = miss s.here (λ m. s.at m || (s.here && eqb m l))
flow n (marks l) s = miss (s.here || s.at l) s.at
flow n (either a b) s = miss ((flow n a s).here || (flow n b (miss s.here (flow n a s).at)).here) (flow n b (miss s.here (flow n a s).at)).at
flow n (scoped a) s = flow n a s

-- In the skeleton laid out at place k, entered with s, act x stands at place p, and b says whether a walk may stand there that misses n.
pub data At (n p : ℕ) (x : Act) (b : Bool) : Sk → ℕ → Miss → Type 0 where
  at_read : {u k : ℕ} {t : Target} {s : Miss} → p ≡ k → x ≡ use_of u t → b ≡ s.here → At n p x b (reads u t) k s
  at_run : {m k : ℕ} {s : Miss} → p ≡ k → x ≡ run m → b ≡ s.here → At n p x b (runs m) k s
  at_jump : {l k : ℕ} {s : Miss} → p ≡ k → x ≡ jump l → b ≡ s.here → At n p x b (jumps l) k s
  at_mark : {l k : ℕ} {s : Miss} → p ≡ k → x ≡ target l → b ≡ (s.here || s.at l) → At n p x b (marks l) k s
  at_fork : {a c : Sk} {k : ℕ} {s : Miss} → p ≡ k → x ≡ fork (len a + 1) → b ≡ s.here → At n p x b (either a c) k s
  at_past : {a c : Sk} {k : ℕ} {s : Miss} → p ≡ k + 1 + len a → x ≡ past (len c) → b ≡ (flow n a s).here → At n p x b (either a c) k s
  in_first : {a c : Sk} {k : ℕ} {s : Miss} → At n p x b a k s → At n p x b (seq a c) k s
  in_second : {a c : Sk} {k : ℕ} {s : Miss} → At n p x b c (k + len a) (flow n a s) → At n p x b (seq a c) k s
  in_then : {a c : Sk} {k : ℕ} {s : Miss} → At n p x b a (k + 1) s → At n p x b (either a c) k s
  in_else : {a c : Sk} {k : ℕ} {s : Miss} → At n p x b c (k + 1 + len a + 1) (miss s.here (flow n a s).at) → At n p x b (either a c) k s
  in_scope : {a : Sk} {k : ℕ} {s : Miss} → At n p x b a k s → At n p x b (scoped a) k s
