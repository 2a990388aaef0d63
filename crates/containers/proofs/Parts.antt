-- Parts of a table that come back, and what lies beside them.
use mathlib.Core.Path.{◌≡◌, sym, ap, ◌∙◌}
use mathlib.Core.List.{List, [], ◌∷◌}
use Prim.Native.Nat.{ℕ, zero, suc, ◌+◌, ◌≤◌, ◌<◌}
use native.Mathlib.Nat.{zero-add, suc-add}
use native.Mathlib.Omega.{arith}
use lib.ListN.{length, get_or, set, take, drop, length-drop, length-set}
use lib.Seq.{take_at, drop_at, take-take, drop-drop, length-take-le, drop-append-add, take-nil, get_or-take, get_or-set_same, get_or-set_other, drop-set-lt}
use borrow.Rule.Slice.PartMut.{put_mid, take_put}
use Rattle.containers.specs.Table.{contained_in, edges_in}

-- k words from b on are found in the words before a
drop-take : (b m : ℕ) (w : List ℕ) → drop b (take (b + m) w) ≡ take m (drop b w)
drop-take zero m w = ap (λ (i : ℕ). take i w) (zero-add m)
drop-take (suc b) m [] = ap (drop (suc b)) (take-nil (suc b + m)) ∙ sym (take-nil m)
drop-take (suc b) m (x ∷ w) = ap (λ (i : ℕ). drop (suc b) (take i (x ∷ w))) (suc-add b m) ∙ drop-take b m w

part_front : (b m a : ℕ) (w : List ℕ) → b + m ≤ a → take m (drop b w) ≡ drop b (take (b + m) (take a w))
part_front b m a w h = sym (ap (drop b) (take-take (b + m) a w h) ∙ drop-take b m w)

module _ (a k : ℕ) (w ys : List ℕ) (fits : a + k ≤ length w) (long : length ys ≡ k) where
  front_long : length (take a w) ≡ a
  front_long = length-take-le a w (omega arith)

  -- the part is what came back
  pub put_part : take k (drop a (put_mid a k w ys)) ≡ ys
  put_part = ap (take k) (drop_at (take a w) _ a front_long) ∙ take_at ys _ k long

  -- a word before it
  pub put_word : (p : ℕ) → p < a → get_or (put_mid a k w ys) p 0 ≡ get_or w p 0
  put_word p h = sym (get_or-take a (put_mid a k w ys) p 0 h) ∙ ap (λ (l : List ℕ). get_or l p 0) (take_put a k w ys (omega arith)) ∙ get_or-take a w p 0 h

  -- a part before it
  pub put_before : (b m : ℕ) → b + m ≤ a → take m (drop b (put_mid a k w ys)) ≡ take m (drop b w)
  put_before b m h = part_front b m a (put_mid a k w ys) h ∙ ap (λ (l : List ℕ). drop b (take (b + m) l)) (take_put a k w ys (omega arith)) ∙ sym (part_front b m a w h)

  -- what stands behind it
  pub put_behind : drop (a + k) (put_mid a k w ys) ≡ drop (a + k) w
  put_behind =
      let e : a + k ≡ length (take a w) + k = ap (λ (i : ℕ). i + k) (sym front_long) in
      ap (λ (i : ℕ). drop i (put_mid a k w ys)) e ∙ drop-append-add (take a w) _ k ∙ drop_at ys _ k long ∙ drop-drop k a w

-- a part has its words
pub contained_long : (w : List ℕ) → length w ≡ 1668 → length (contained_in w) ≡ 516
unfolding contained_in
contained_long w h = length-take-le 516 (drop 640 w) (omega (arith, length-drop 640 w))

pub edges_long : (w : List ℕ) → length w ≡ 1668 → length (edges_in w) ≡ 512
unfolding edges_in
edges_long w h = length-take-le 512 (drop 1156 w) (omega (arith, length-drop 1156 w))

-- ONE WORD

module _ (w : List ℕ) {w' : List ℕ} (p v : ℕ) (e : w' ≡ set w p v) where
  pub word_long : length w' ≡ length w
  word_long = ap (λ (l : List ℕ). length l) e ∙ length-set w p v

  pub word_same : p < length w → get_or w' p 0 ≡ v
  word_same h = ap (λ (l : List ℕ). get_or l p 0) e ∙ get_or-set_same w p v 0 h

  pub word_other : (q : ℕ) → (q ≡ p → ⊥) → get_or w' q 0 ≡ get_or w q 0
  word_other q d = ap (λ (l : List ℕ). get_or l q 0) e ∙ get_or-set_other w p q v 0 d

  -- a word of a column is in neither part
  pub word_contained : p < 640 → contained_in w' ≡ contained_in w
  unfolding contained_in
  word_contained h = ap contained_in e ∙ ap (take 516) (drop-set-lt 640 w p v h)

  pub word_edges : p < 640 → edges_in w' ≡ edges_in w
  unfolding edges_in
  word_edges h = ap edges_in e ∙ ap (take 512) (drop-set-lt 1156 w p v (omega arith))
