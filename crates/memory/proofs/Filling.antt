-- A write past the end, and a part filled from its first element on.
use mathlib.Core.Path.{◌≡◌, sym, ap, ◌∙◌}
use mathlib.Core.List.{List, [], ◌∷◌, ◌++◌, append_assoc}
use Prim.Native.Nat.{ℕ, suc, ◌+◌, ◌-◌, ◌≤◌, ◌<◌}
use native.Mathlib.Omega.{arith}
use native.Mathlib.Numerals.{add-one}
use lib.ListN.{length, get_or, set, take, drop, replicate}
use lib.Seq.{drop-cons, set-append_seam, set_out, length-take-le}
use Rattle.std.proofs.lemmas.List.{length-append, length-replicate, replicate_more}

pub set_past : (s : List ℕ) (i v : ℕ) → length s ≤ i → s ≡ set s i v
set_past s i v h = sym (set_out s i v h)

-- one more
pub filled_more : {X : Type 0} (s : List X) (f i : ℕ) (v : X) → f ≤ i → i < length s
    → set (take f s ++ replicate (i - f) v ++ drop i s) i v ≡ take f s ++ replicate (i + 1 - f) v ++ drop (i + 1) s
filled_more {X} s f i v h l =
    let p : List X = take f s ++ replicate (i - f) v in
    let n : length p ≡ i = omega (arith, length-append (take f s) (replicate (i - f) v), length-take-le f s (omega arith), length-replicate (i - f) v) in
    let k : i - f + 1 ≡ i + 1 - f = omega arith in
    ap (λ (d : List X). set (p ++ d) i v) (drop-cons s i v l)
    ∙ ap (λ (j : ℕ). set (p ++ (get_or s i v ∷ drop (suc i) s)) j v) (sym n)
    ∙ set-append_seam p (get_or s i v) (drop (suc i) s) v
    ∙ sym (append_assoc p (v ∷ []) (drop (suc i) s))
    ∙ ap (λ (q : List X). q ++ drop (suc i) s) (append_assoc (take f s) (replicate (i - f) v) (v ∷ []) ∙ ap (λ (q : List X). take f s ++ q) (replicate_more (i - f) v))
    ∙ ap (λ (j : ℕ). take f s ++ replicate j v ++ drop (suc i) s) k
    ∙ ap (λ (j : ℕ). take f s ++ replicate (i + 1 - f) v ++ drop j s) (sym (add-one i))
