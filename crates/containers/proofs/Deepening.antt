-- determine_container_depths on the column of depths.
use mathlib.Core.Path.{◌≡◌, refl, sym, ap, subst, ◌∙◌}
use mathlib.Core.Bool.{Bool, true, false}
use mathlib.Core.List.{List}
use Prim.Native.Nat.{ℕ, zero, suc, ◌+◌, ◌≤◌, ◌<◌}
use native.Mathlib.Decide.{ℕ_discrete}
use native.Mathlib.Omega.{arith}
use lib.ListN.{length, get_or, set}
use Rattle.memory.specs.Rows.{member}
use Rattle.containers.specs.Table.{contained_in}
use Rattle.containers.specs.Depths.{IsMarked, Deepens, DeepensRow, marked, or_one, DeepensMarked, DeepensIfMarked, PoisonsRest, PoisonsRow}
use Rattle.containers.proofs.Parts.{word_long, word_same, word_other, word_contained, word_edges}

-- ONE ROW

row_kept : {f : ℕ → ℕ → ℕ} (w : List ℕ) (row : ℕ) → f row (get_or w (512 + row) 0) ≡ get_or w (512 + row) 0 → DeepensRow row f w w
row_kept w row e = record { depth = sym e; words = λ p d. refl; contained = refl; edges = refl }

row_set : {f : ℕ → ℕ → ℕ} (w : List ℕ) {w' : List ℕ} (row v : ℕ) → length w ≡ 1668 → row < 128 → w' ≡ set w (512 + row) v → f row (get_or w (512 + row) 0) ≡ v → DeepensRow row f w w'
row_set w row v long h e q = record {
  depth = word_same w (512 + row) v e (omega arith) ∙ sym q;
  words = word_other w (512 + row) v e;
  contained = word_contained w (512 + row) v e (omega arith);
  edges = word_edges w (512 + row) v e (omega arith);
}

marked_yes : (d : ℕ) (rows : List ℕ) (r v : ℕ) → member rows 128 r ≡ true → marked d rows r v ≡ 2 + d
unfolding marked
marked_yes d rows r v e = rw (e, marked)

marked_no : (d : ℕ) (rows : List ℕ) (r v : ℕ) → member rows 128 r ≡ false → marked d rows r v ≡ v
unfolding marked
marked_no d rows r v e = rw (e, marked)

-- deepen

pub deepen_high : {row d : ℕ} {w : List ℕ} → 128 ≤ row → DeepensIfMarked row d w w
deepen_high h = record { long = refl; one = λ e l k. absurd (omega arith) }

pub deepen_deep : {row d : ℕ} {w : List ℕ} → 128 ≤ d → DeepensIfMarked row d w w
deepen_deep h = record { long = refl; one = λ e l k. absurd (omega arith) }

pub deepen_not : {row d : ℕ} {w : List ℕ} {b : Bool} → IsMarked w row b → b ≡ false → DeepensIfMarked row d w w
deepen_not {row} {d} {w} m f = record { long = refl; one = λ e l k. row_kept w row (marked_no d (contained_in w) row _ (sym (m.is e) ∙ f)) }

pub deepen_is : {row d : ℕ} {w w' : List ℕ} {b : Bool} → IsMarked w row b → b ≡ true → w' ≡ set w (512 + row) (d + 2) → DeepensIfMarked row d w w'
deepen_is {row} {d} {w} m f q = record {
  long = word_long w (512 + row) (d + 2) q;
  one = λ e l k. let z : 2 + d ≡ d + 2 = omega arith in row_set w row (d + 2) e l q (marked_yes d (contained_in w) row _ (sym (m.is e) ∙ f) ∙ z);
}

-- or_poisoned

one_more : (r v : ℕ) → (v ≡ 0 → ⊥) → or_one r v ≡ v
unfolding or_one
one_more r zero d = absurd (d refl)
one_more r (suc v) d = refl

one_none : (r v : ℕ) → v ≡ 0 → or_one r v ≡ 1
unfolding or_one
one_none r v e = ap (or_one r) e

pub poison_high : {row : ℕ} {w : List ℕ} → 128 ≤ row → PoisonsRow row w w
poison_high h = record { long = refl; one = λ e l. absurd (omega arith) }

pub poison_not : {row x : ℕ} {w : List ℕ} → x ≡ get_or w (512 + row) 0 → (x ≡ 0 → ⊥) → PoisonsRow row w w
poison_not {row} {x} {w} q d = record { long = refl; one = λ e l. row_kept w row (one_more row _ (λ z. d (q ∙ z))) }

pub poison_is : {row x : ℕ} {w w' : List ℕ} → x ≡ get_or w (512 + row) 0 → x ≡ 0 → w' ≡ set w (512 + row) 1 → PoisonsRow row w w'
poison_is {row} {x} {w} q d p = record { long = word_long w (512 + row) 1 p; one = λ e l. row_set w row 1 e l p (one_none row _ (sym q ∙ d)) }

-- THE LOOPS

deepens_none : (f : ℕ → ℕ → ℕ) (w : List ℕ) → Deepens 0 f w w
deepens_none f w = record { depth = λ r h. absurd (omega arith); words = λ p d. refl; contained = refl; edges = refl }

deepens_more : {f : ℕ → ℕ → ℕ} {w₀ w w' : List ℕ} {t : ℕ} → Deepens t f w₀ w → DeepensRow t f w w' → Deepens (t + 1) f w₀ w'
deepens_more {f} {w₀} {w} {w'} {t} o n = record {
  depth = λ r h. go r h (ℕ_discrete r t);
  words = λ p d. n.words p (λ e. d t (omega arith) e) ∙ o.words p (λ r h e. d r (omega arith) e);
  contained = n.contained ∙ o.contained;
  edges = n.edges ∙ o.edges;
}
  where
    go : (r : ℕ) → r < t + 1 → Dec (r ≡ t) → get_or w' (512 + r) 0 ≡ f r (get_or w₀ (512 + r) 0)
    go r h (no d) = n.words (512 + r) (omega arith) ∙ o.depth r (omega arith)
    go r h (yes e) = subst (λ (k : ℕ). get_or w' (512 + k) 0 ≡ f k (get_or w₀ (512 + k) 0)) (sym e) (n.depth ∙ ap (f t) (o.words (512 + t) (λ r l q. omega arith)))

pub record Deepening (count d : ℕ) (w₀ w : List ℕ) (t : ℕ) : Type 0 where
  pub high : t ≤ count
  pub done : DeepensMarked t d w₀ w

pub deepening_start : {count d : ℕ} {w : List ℕ} → Deepening count d w w 0
deepening_start {w} = record { high = omega arith; done = record { long = refl; all = λ e h l. deepens_none _ w } }

pub deepening_more : {count d : ℕ} {w₀ w w' : List ℕ} {t : ℕ} → Deepening count d w₀ w t → t < count → DeepensIfMarked t d w w' → Deepening count d w₀ w' (t + 1)
deepening_more {count} {d} {w₀} {w} {w'} {t} o h n = record {
  high = omega arith;
  done = record {
    long = n.long ∙ o.done.long;
    all = λ e l k. let before = o.done.all e (omega arith) k in deepens_more before (subst (λ (v : List ℕ). DeepensRow t (marked d v) w w') before.contained (n.one (o.done.long ∙ e) (omega arith) k));
  };
}

pub deepening_done : {count d : ℕ} {w₀ w : List ℕ} {t : ℕ} → Deepening count d w₀ w t → count ≤ t → DeepensMarked count d w₀ w
deepening_done {count} {d} {w₀} {w} {t} o h = let high = o.high in let e : t ≡ count = omega arith in subst (λ (k : ℕ). DeepensMarked k d w₀ w) e o.done

pub record Poisoning (count : ℕ) (w₀ w : List ℕ) (t : ℕ) : Type 0 where
  pub high : t ≤ count
  pub done : PoisonsRest t w₀ w

pub poisoning_start : {count : ℕ} {w : List ℕ} → Poisoning count w w 0
poisoning_start {w} = record { high = omega arith; done = record { long = refl; all = λ e h. deepens_none _ w } }

pub poisoning_more : {count : ℕ} {w₀ w w' : List ℕ} {t : ℕ} → Poisoning count w₀ w t → t < count → PoisonsRow t w w' → Poisoning count w₀ w' (t + 1)
poisoning_more o h n = record {
  high = omega arith;
  done = record { long = n.long ∙ o.done.long; all = λ e l. deepens_more (o.done.all e (omega arith)) (n.one (o.done.long ∙ e) (omega arith)) };
}

pub poisoning_done : {count : ℕ} {w₀ w : List ℕ} {t : ℕ} → Poisoning count w₀ w t → count ≤ t → PoisonsRest count w₀ w
poisoning_done {count} {w₀} {w} {t} o h = let high = o.high in let e : t ≡ count = omega arith in subst (λ (k : ℕ). PoisonsRest k w₀ w) e o.done

pub ruleset deepen_laws = (deepen_high, deepen_deep, deepen_not)

pub ruleset or_poisoned_laws = (poison_high, poison_not, poison_is)
