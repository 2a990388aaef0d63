-- P1 to P8 (docs/FORM.md) about the code: `analyze`, lent what the sheet lends, tells and leaves for each of the eight trees exactly what stands in the table.
use Prim.Native.Nat.{ℕ, zero, suc}
use native.Mathlib.Omega.{arith}
use mathlib.Core.Path.{◌≡◌, refl, sym, ap, ◌∙◌}
use mathlib.Core.List.{List, [], ◌∷◌, map}
use mathlib.Core.Option.{some}
use lib.ListN.{length, get_elem?}
use Rattle.penne.specs.Scoper.{Outcome, outcome, answer, scoped, words, padded}
use Rattle.penne.proofs.Sheet.{table, p1_to_p8}
use Rattle.scoper.specs.Scoping.{outcome_of}
use Rattle.scoper.specs.Meaning.{Call, tells}
use Rattle.scoper.proofs.Unique.{tree_is, list_is, work_is}
use Rattle.scoper.proofs.Meaning.{tells_is}

-- two functions that agree on a list agree on each of it
each_same : {A B : Type 0} (f g : A → B) (xs : List A) → map f xs ≡ map g xs → (i : ℕ) (x : A) → get_elem? xs i ≡ some x → f x ≡ g x
each_same f g [] e i x h = absurd (let z : ◌≡◌ {A = ℕ} 0 1 = cc in omega arith)
each_same f g (y ∷ ys) e zero x h =
    let z : y ≡ x = cc in
    let u : f y ≡ g y = cc in
    ap f (sym z) ∙ u ∙ ap g z
each_same f g (y ∷ ys) e (suc i) x h = let u : map f ys ≡ map g ys = cc in each_same f g ys u i x h

-- a call that answers this tree and these records, lent what the sheet lends
pub record Leaves (c : Call) (tree : List ℕ) (records : List (ℕ × ℕ)) : Type 0 where
  pub told : tells c.told ≡ (0, 0, length tree, length records)
  pub answer : c.answer' ≡ padded 65535 tree
  pub list : c.list' ≡ padded 16384 (words records)
  pub work : c.work' ≡ padded 16384 []

leaves : (c : Call) (tree : List ℕ) (records : List (ℕ × ℕ)) → outcome_of c.told c.answer' c.list' c.work' ≡ outcome 65535 16384 16384 (answer tree records) → Leaves c tree records
unfolding outcome
leaves c tree records e = record {
  told = tells_is c.told c.answer' c.list' c.work' e;
  answer = sym (tree_is c.told c.answer' c.list' c.work') ∙ ap (λ (q : Outcome). q.tree) e;
  list = sym (list_is c.told c.answer' c.list' c.work') ∙ ap (λ (q : Outcome). q.list) e;
  work = sym (work_is c.told c.answer' c.list' c.work') ∙ ap (λ (q : Outcome). q.work) e;
}

pub sheet : (i : ℕ) (row : List ℕ × List ℕ × List (ℕ × ℕ)) → get_elem? table i ≡ some row → (c : Call) → c.tree ≡ row.0 → length c.answer ≡ 65535 → length c.list ≡ 16384 → length c.work ≡ 16384 → Leaves c row.1 row.2
sheet i row h c s a b e =
    let lent : scoped c.tree (length c.answer) (length c.list) (length c.work) ≡ scoped row.0 65535 16384 16384 = rw (s, a, b, e) refl in
    leaves c row.1 row.2 (c.meets.outcome ∙ lent ∙ each_same (λ x. scoped x.0 65535 16384 16384) (λ x. outcome 65535 16384 16384 (answer x.1 x.2)) table p1_to_p8 i row h)
