-- determine_container_depths on the rows of bits: what a round resolves is marked in row 128, and taken out of all rows.
use mathlib.Core.Path.{◌≡◌, refl, sym, ap, subst, ◌∙◌}
use mathlib.Core.Bool.{Bool, true, false, ◌&&◌, ◌||◌, not, or-false}
use mathlib.Core.List.{List}
use Prim.Native.Nat.{ℕ, zero, suc, ◌+◌, ◌≤◌, ◌<◌}
use native.Mathlib.Decide.{dec_lt, ℕ_discrete}
use native.Mathlib.Omega.{arith}
use lib.Dec.{eqb, ltb}
use lib.ListN.{length, get_or, take, drop}
use borrow.Author.Tests.{eq-eqb, ne_eqb, lt-ltb, le-ltb}
use borrow.Rule.Slice.PartMut.{put_mid, same_len_mid}
use Rattle.penne.proofs.Booleans.{and-false, and-true}
use Rattle.memory.specs.Rows.{member, none_below, vacant, Adds, Removes}
use Rattle.containers.specs.Table.{contained_in, edges_in}
use Rattle.containers.specs.Depths.{OnlyRows, Clears, row_resolves, Resolves, Marks, MarksAll, NoneMarked, IsMarked, ReleasesRows, Releases}
use Rattle.containers.proofs.Lists.{and-not}
use Rattle.containers.proofs.Parts.{put_part, put_word, put_behind, contained_long}
use Rattle.containers.proofs.Joining.{adds_row}

-- VACANT ROWS

none_same : (n : ℕ) (f g : ℕ → Bool) → ((j : ℕ) → f j ≡ g j) → none_below n f ≡ none_below n g
unfolding none_below
none_same zero f g e = refl
none_same (suc n) f g e = ap (λ (b : Bool). not b && none_below n f) (e n) ∙ ap (λ (b : Bool). not (g n) && b) (none_same n f g e)

vacant_same : (w w' : List ℕ) (i : ℕ) → ((j : ℕ) → member w' i j ≡ member w i j) → vacant w' i ≡ vacant w i
unfolding vacant
vacant_same w w' i e = none_same 128 (member w' i) (member w i) e

-- THE PART THAT CAME BACK

module _ (w ys : List ℕ) (fits : 1668 ≤ length w) (long : length ys ≡ length (take 516 (drop 640 w))) where
  pub back_long : length (put_mid 640 516 w ys) ≡ length w
  back_long = same_len_mid 640 516 w ys long

  part_long : length w ≡ 1668 → length ys ≡ 516
  unfolding contained_in
  part_long e = long ∙ contained_long w e

  back_only : length w ≡ 1668 → OnlyRows w (put_mid 640 516 w ys)
  unfolding edges_in
  back_only e = record {
    words = put_word 640 516 w ys (omega arith) (part_long e);
    edges = ap (λ (v : List ℕ). take 512 v) (put_behind 640 516 w ys (omega arith) (part_long e));
  }

  back_part : length w ≡ 1668 → contained_in (put_mid 640 516 w ys) ≡ ys
  unfolding contained_in
  back_part e = put_part 640 516 w ys (omega arith) (part_long e)

pub only_same : (w : List ℕ) → OnlyRows w w
only_same w = record { words = λ p h. refl; edges = refl }

only_then : {w w₁ w₂ : List ℕ} → OnlyRows w w₁ → OnlyRows w₁ w₂ → OnlyRows w w₂
only_then o q = record { words = λ p h. q.words p h ∙ o.words p h; edges = q.edges ∙ o.edges }

-- clear_marks

pub clears_short : {w : List ℕ} → length w < 1668 → Clears w w
clears_short h = record { long = refl; only = λ e. absurd (omega arith); same = λ e. absurd (omega arith); none = λ e. absurd (omega arith) }

pub clears_is : {w ys : List ℕ} → 1668 ≤ length w → Removes 128 128 (take 516 (drop 640 w)) ys → Clears w (put_mid 640 516 w ys)
unfolding contained_in
clears_is {w} {ys} h o = record {
  long = back_long w ys h o.long;
  only = back_only w ys h o.long;
  same = λ e i j l. ap (λ (v : List ℕ). member v i j) (back_part w ys h o.long e) ∙ o.others i j (λ z. omega arith);
  none = λ e j. ap (λ (v : List ℕ). member v 128 j) (back_part w ys h o.long e) ∙ o.row j ∙ and-not (member (contained_in w) 128 j);
}

-- resolves

pub resolves_short : {w : List ℕ} {r : ℕ} → length w < 1668 → Resolves w r false
resolves_short h = record { is = λ e. absurd (omega arith) }

pub resolves_high : {w : List ℕ} {r : ℕ} → 128 ≤ r → Resolves w r false
resolves_high h = record { is = λ e l. absurd (omega arith) }

pub resolves_deep : {w : List ℕ} {r x : ℕ} → x ≡ get_or w (512 + r) 0 → (x ≡ 0 → ⊥) → Resolves w r (eqb x 0)
unfolding row_resolves
resolves_deep e d = record { is = λ long l. rw (← e, ne_eqb _ 0 d) }

pub resolves_is : {w : List ℕ} {r x : ℕ} {b : Bool} → x ≡ get_or w (512 + r) 0 → x ≡ 0 → b ≡ vacant (take 516 (drop 640 w)) r → Resolves w r b
unfolding row_resolves contained_in
resolves_is e d f = record { is = λ long l. rw (← e, eq-eqb _ 0 d) f }

-- mark

module _ {w : List ℕ} {row : ℕ} {b : Bool} (r : Resolves w row b) where
  pub marks_not : b ≡ false → Marks row w w
  marks_not f = record {
    long = refl;
    only = λ e h. only_same w;
    same = λ e h i j l. refl;
    marks = λ e h j. sym (ap (λ (t : Bool). member (contained_in w) 128 j || (eqb j row && t)) (sym (r.is e h) ∙ f) ∙ ap (λ (t : Bool). member (contained_in w) 128 j || t) (and-false (eqb j row)) ∙ or-false (member (contained_in w) 128 j));
  }

  pub marks_short : length w < 1668 → Marks row w w
  marks_short h = record { long = refl; only = λ e. absurd (omega arith); same = λ e. absurd (omega arith); marks = λ e. absurd (omega arith) }

  pub marks_is : {ys : List ℕ} → b ≡ true → 1668 ≤ length w → Adds 128 row (take 516 (drop 640 w)) ys → Marks row w (put_mid 640 516 w ys)
  unfolding contained_in
  marks_is {ys} f h o = record {
    long = back_long w ys h o.long;
    only = λ e l. back_only w ys h o.long e;
    same = λ e l i j k. ap (λ (v : List ℕ). member v i j) (back_part w ys h o.long e) ∙ o.others i j (λ z. let q : i ≡ 128 = z.0 in omega arith);
    marks = λ e l j. ap (λ (v : List ℕ). member v 128 j) (back_part w ys h o.long e) ∙ adds_row o (contained_long w e) (omega arith) l j
        ∙ sym (ap (λ (t : Bool). member (contained_in w) 128 j || (eqb j row && t)) (sym (r.is e l) ∙ f) ∙ ap (λ (t : Bool). member (contained_in w) 128 j || t) (and-true (eqb j row)));
  }

-- mark_all: the loop

pub record Marking (count : ℕ) (w₀ w : List ℕ) (t : ℕ) : Type 0 where
  pub high : t ≤ count
  pub done : MarksAll t w₀ w

pub marking_start : {count : ℕ} {w : List ℕ} → Marking count w w 0
marking_start {count} {w} = record { high = omega arith; done = record { long = refl; only = λ e h. only_same w; same = λ e h i j l. refl; marks = λ e h j. sym (ap (λ (t : Bool). member (contained_in w) 128 j || (t && row_resolves w j)) (le-ltb j 0 (omega arith)) ∙ or-false (member (contained_in w) 128 j)) } }

pub marking_more : {count : ℕ} {w₀ w w' : List ℕ} {t : ℕ} → Marking count w₀ w t → t < count → Marks t w w' → Marking count w₀ w' (t + 1)
unfolding row_resolves
marking_more {count} {w₀} {w} {w'} {t} o h n = record {
  high = omega arith;
  done = record {
    long = n.long ∙ o.done.long;
    only = λ e l. only_then (o.done.only e (omega arith)) (n.only (o.done.long ∙ e) (omega arith));
    same = λ e l i j k. n.same (o.done.long ∙ e) (omega arith) i j k ∙ o.done.same e (omega arith) i j k;
    marks = λ e l j. n.marks (o.done.long ∙ e) (omega arith) j
        ∙ ap (λ (b : Bool). b || (eqb j t && row_resolves w t)) (o.done.marks e (omega arith) j)
        ∙ ap (λ (b : Bool). (member (contained_in w₀) 128 j || (ltb j t && row_resolves w₀ j)) || (eqb j t && b)) (same_test e (omega arith))
        ∙ go j (dec_lt j t) (ℕ_discrete j t);
  };
}
  where
    same_test : length w₀ ≡ 1668 → t < 128 → row_resolves w t ≡ row_resolves w₀ t
    same_test e l = ap (λ (x : ℕ). eqb x 0 && vacant (contained_in w) t) ((o.done.only e (omega arith)).words (512 + t) (omega arith)) ∙ ap (λ (b : Bool). eqb (get_or w₀ (512 + t) 0) 0 && b) (vacant_same (contained_in w₀) (contained_in w) t (λ j. o.done.same e (omega arith) t j l))

    go : (j : ℕ) → Dec (j < t) → Dec (j ≡ t) → (member (contained_in w₀) 128 j || (ltb j t && row_resolves w₀ j)) || (eqb j t && row_resolves w₀ t) ≡ member (contained_in w₀) 128 j || (ltb j (t + 1) && row_resolves w₀ j)
    go j (yes l) q = rw (lt-ltb j t l, ne_eqb j t (omega arith), lt-ltb j (t + 1) (omega arith)) (or-false (member (contained_in w₀) 128 j || row_resolves w₀ j))
    go j (no l) (yes q) = rw (le-ltb j t (omega arith), eq-eqb j t q, lt-ltb j (t + 1) (omega arith)) (ap (λ (b : Bool). b || row_resolves w₀ t) (or-false (member (contained_in w₀) 128 j)) ∙ ap (λ (k : ℕ). member (contained_in w₀) 128 j || row_resolves w₀ k) (sym q))
    go j (no l) (no q) = rw (le-ltb j t (omega arith), ne_eqb j t q, le-ltb j (t + 1) (omega arith)) (or-false (member (contained_in w₀) 128 j || false))

pub marking_done : {count : ℕ} {w₀ w : List ℕ} {t : ℕ} → Marking count w₀ w t → count ≤ t → MarksAll count w₀ w
marking_done {count} {w₀} {w} {t} o h = let high = o.high in let e : t ≡ count = omega arith in subst (λ (k : ℕ). MarksAll k w₀ w) e o.done

-- none_marked, is_marked

pub none_short : {w : List ℕ} {b : Bool} → length w < 1668 → NoneMarked w b
none_short h = record { is = λ e. absurd (omega arith) }

pub none_is : {w : List ℕ} {b : Bool} → b ≡ vacant (take 516 (drop 640 w)) 128 → NoneMarked w b
unfolding contained_in
none_is f = record { is = λ e. f }

pub marked_short : {w : List ℕ} {r : ℕ} {b : Bool} → length w < 1668 → IsMarked w r b
marked_short h = record { is = λ e. absurd (omega arith) }

pub marked_is : {w : List ℕ} {r : ℕ} {b : Bool} → b ≡ member (take 516 (drop 640 w)) 128 r → IsMarked w r b
unfolding contained_in
marked_is f = record { is = λ e. f }

-- release_rows: the loop

pub record Releasing (count : ℕ) (w₀ w : List ℕ) (t : ℕ) : Type 0 where
  pub high : t ≤ count
  pub done : ReleasesRows t w₀ w

pub releasing_start : {count : ℕ} {w : List ℕ} → Releasing count w w 0
releasing_start = record { high = omega arith; done = record { long = refl; same = λ i j h. refl; here = λ few i j h. absurd (omega arith) } }

pub releasing_more : {count : ℕ} {w₀ w w' : List ℕ} {t : ℕ} → Releasing count w₀ w t → t < count → Removes 128 t w w' → Releasing count w₀ w' (t + 1)
releasing_more {count} {w₀} {w} {w'} {t} o h n = record {
  high = omega arith;
  done = record {
    long = n.long ∙ o.done.long;
    same = λ i j l. n.others i j (omega arith) ∙ o.done.same i j (omega arith);
    here = λ few i j l. go few i j l (ℕ_discrete i t);
  };
}
  where
    go : t + 1 ≤ 128 → (i j : ℕ) → i < t + 1 → Dec (i ≡ t) → member w' i j ≡ member w₀ i j && not (member w₀ 128 j)
    go few i j l (no d) = n.others i j d ∙ o.done.here (omega arith) i j (omega arith)
    go few i j l (yes e) =
        subst (λ (k : ℕ). member w' k j ≡ member w₀ k j && not (member w₀ 128 j)) (sym e)
        (n.row j ∙ ap (λ (b : Bool). b && not (member w 128 j)) (o.done.same t j (omega arith)) ∙ ap (λ (b : Bool). member w₀ t j && not b) (o.done.same 128 j (omega arith)))

pub releasing_done : {count : ℕ} {w₀ w : List ℕ} {t : ℕ} → Releasing count w₀ w t → count ≤ t → ReleasesRows count w₀ w
releasing_done {count} {w₀} {w} {t} o h = let high = o.high in let e : t ≡ count = omega arith in subst (λ (k : ℕ). ReleasesRows k w₀ w) e o.done

-- release

pub releases_short : {count : ℕ} {w : List ℕ} → length w < 1668 → Releases count w w
releases_short h = record { long = refl; only = λ e. absurd (omega arith); rows = λ e. absurd (omega arith) }

pub releases_is : {count : ℕ} {w ys : List ℕ} → 1668 ≤ length w → ReleasesRows count (take 516 (drop 640 w)) ys → Releases count w (put_mid 640 516 w ys)
unfolding contained_in
releases_is {count} {w} {ys} h o = record {
  long = back_long w ys h o.long;
  only = back_only w ys h o.long;
  rows = λ e. subst (λ (v : List ℕ). ReleasesRows count (contained_in w) v) (sym (back_part w ys h o.long e)) o;
}

pub ruleset mark_laws = (marks_not, marks_short, marks_is)

pub ruleset resolves_laws = (resolves_short, resolves_high, resolves_deep, resolves_is)

pub ruleset release_rows_laws = (releasing_start, releasing_more, releasing_done)
