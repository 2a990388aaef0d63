-- Containers that are changed, each by itself, and keep their identifiers.
use mathlib.Core.Path.{◌≡◌, refl, sym, ap, ◌∙◌}
use mathlib.Core.Bool.{Bool, true, false, ◌&&◌, ◌||◌, or-false}
use mathlib.Core.List.{List, [], ◌∷◌, map}
use mathlib.Core.Logic.{◌⊎◌, inl, inr}
use Prim.Native.Nat.{ℕ, zero, suc, ◌≤◌, ◌<◌}
use native.Mathlib.Nat.{not-suc-le-zero, le_of_suc-le-suc}
use native.Mathlib.Omega.{arith}
use lib.Dec.{eqb}
use lib.ListN.{length}
use borrow.Author.Tests.{eqb-true, eq-eqb, ne_eqb}
use Rattle.memory.specs.Rows.{member}
use Rattle.penne.specs.Tree.{Spot, Ident}
use Rattle.penne.specs.Find.{is_in}
use Rattle.penne.specs.Containers.{Container, id_of, contained_ids_of, joined, join_where}
use Rattle.penne.proofs.Booleans.{same_bool, or_case}
use Rattle.containers.specs.Table.{at, id_at, ids_at, IsRow, Known, Sets, is_edge, Edges}
use Rattle.containers.proofs.Lists.{and_true, in_union, at_map}

-- THE CONTAINER WITH AN ID

-- ids are those of one row each
abbrev pub Distinct : ℕ → List (Container Spot) → Type 0
Distinct count cs = (i j : ℕ) → i < count → j < count → id_at cs i ≡ id_at cs j → i ≡ j

contained_of : (cs : List (Container Spot)) (c : ℕ) → c < length cs → ((r : ℕ) → r < c → id_at cs r ≡ id_at cs c → ⊥) → contained_ids_of (id_at cs c) cs ≡ ids_at cs c
unfolding contained_ids_of id_at ids_at at
contained_of [] c h d = absurd (not-suc-le-zero h)
contained_of (o ∷ cs) zero h d = rw (eq-eqb (id_of o) (id_of o) refl, contained_ids_of)
contained_of (o ∷ cs) (suc c) h d = rw (ne_eqb (id_of o) (id_at cs c) (d 0 (omega arith)), contained_ids_of) (contained_of cs c (le_of_suc-le-suc h) (λ r l e. d (suc r) (omega arith) e))

pub contained_at : {count : ℕ} (cs : List (Container Spot)) → length cs ≡ count → Distinct count cs → (c i : ℕ) → c < count → i ≡ id_at cs c → contained_ids_of i cs ≡ ids_at cs c
contained_at cs n d c i h e = ap (λ (k : ℕ). contained_ids_of k cs) e ∙ contained_of cs c (omega arith) (λ r l q. let z : r ≡ c = d r c (omega arith) h q in omega arith)

-- a test on ids is a test on rows
pub same_row : {count : ℕ} (cs : List (Container Spot)) → Distinct count cs → (r c : ℕ) → r < count → c < count → eqb (id_at cs r) (id_at cs c) ≡ eqb r c
same_row cs d r c h l = same_bool _ _ (λ e. eq-eqb r c (d r c h l (eqb-true _ _ e))) (λ e. eq-eqb _ _ (ap (id_at cs) (eqb-true r c e)))

-- EVERY CONTAINER BY ITSELF

pub record Keeps (f : Container Spot → Container Spot) : Type 0 where
  pub kept : (c : Container Spot) → (f c).identifier ≡ c.identifier

module _ {f : Container Spot → Container Spot} (k : Keeps f) (cs : List (Container Spot)) where
  pub id_map : (r : ℕ) → r < length cs → id_at (map f cs) r ≡ id_at cs r
  unfolding id_at id_of
  id_map r h = ap id_of (at_map f cs r h) ∙ ap (λ (i : Ident Spot). i.id) (k.kept (at cs r))

  pub known_map : {count : ℕ} → length cs ≡ count → (i : ℕ) → Known count cs i → Known count (map f cs) i
  known_map n i o = let b = o.below in record { row = o.row; below = b; is = id_map o.row (omega arith) ∙ o.is }

  pub distinct_map : {count : ℕ} → length cs ≡ count → Distinct count cs → Distinct count (map f cs)
  distinct_map n d i j h l e = d i j h l (sym (id_map i (omega arith)) ∙ e ∙ id_map j (omega arith))

  pub edges_map : {count : ℕ} {rows : List ℕ} {es : List (ℕ × ℕ)} → length cs ≡ count → Edges count rows cs es → Edges count rows (map f cs) es
  edges_map {count} {rows} {es} n o = record {
    long = o.long;
    bits = λ r j h l. o.bits r j h l ∙ sym (ap (λ (i : ℕ). is_edge i (id_at cs j) es) (id_map r (omega arith))) ∙ sym (ap (λ (i : ℕ). is_edge (id_at (map f cs) r) i es) (id_map j (omega arith)));
    free = o.free;
    closed = λ a b e. let z = o.closed a b e in (known_map n a z.0, known_map n b z.1);
  }

  pub sets_map : {count : ℕ} {rows : List ℕ} → length cs ≡ count → length rows ≡ 516
      → ((r j : ℕ) → r < count → j < count → member rows r j ≡ is_in (id_at cs j) (f (at cs r)).contained_ids)
      → ((r j : ℕ) → r < count → count ≤ j → member rows r j ≡ false)
      → ((r j : ℕ) → count ≤ r → r < 128 → member rows r j ≡ false)
      → ((r i : ℕ) → r < count → is_in i (f (at cs r)).contained_ids ≡ true → Known count cs i)
      → Sets count rows (map f cs)
  unfolding ids_at
  sets_map {count} {rows} n long bits past free closed = record {
    long = long;
    bits = λ r j h l. bits r j h l ∙ sym (ap (λ (i : ℕ). is_in i (f (at cs r)).contained_ids) (id_map j (omega arith))) ∙ sym (ap (λ (c : Container Spot). is_in (id_at (map f cs) j) c.contained_ids) (at_map f cs r (omega arith)));
    past = past;
    free = free;
    closed = λ r i h e. known_map n i (closed r i h (sym (ap (λ (c : Container Spot). is_in i c.contained_ids) (at_map f cs r (omega arith))) ∙ e));
  }

-- IDS JOINED WHERE A TEST SAYS SO

joined_kept : (b : Bool) (ids : List ℕ) (c : Container Spot) → (joined b ids c).identifier ≡ c.identifier
unfolding joined
joined_kept true ids c = refl
joined_kept false ids c = refl

pub joined_keeps : (test : Container Spot → Bool) (ids : List ℕ) → Keeps (λ c. joined (test c) ids c)
joined_keeps test ids = record { kept = λ c. joined_kept (test c) ids c }

pub in_joined : (y : ℕ) (b : Bool) (ids : List ℕ) (c : Container Spot) → is_in y (joined b ids c).contained_ids ≡ is_in y c.contained_ids || (b && is_in y ids)
unfolding joined
in_joined y true ids c = in_union y c.contained_ids ids
in_joined y false ids c = sym (or-false (is_in y c.contained_ids))

pub row_joined : {w : List ℕ} {r : ℕ} {c : Container Spot} (b : Bool) (ids : List ℕ) → IsRow w r c → IsRow w r (joined b ids c)
unfolding joined
row_joined true ids o = record { name = o.name; place = o.place; id = o.id; kind = o.kind; depth = o.depth }
row_joined false ids o = o

-- what is joined to the rows is joined to the sets
pub sets_where : {count : ℕ} {w w' : List ℕ} (test : Container Spot → Bool) (ids : List ℕ) (cs : List (Container Spot)) → length cs ≡ count → Sets count w cs → length w' ≡ length w
    → ((i : ℕ) → is_in i ids ≡ true → Known count cs i)
    → ((r j : ℕ) → r < count → j < count → member w' r j ≡ member w r j || (test (at cs r) && is_in (id_at cs j) ids))
    → ((r j : ℕ) → r < count → count ≤ j → member w' r j ≡ false)
    → ((r j : ℕ) → count ≤ r → r < 128 → member w' r j ≡ false)
    → Sets count w' (join_where test ids cs)
unfolding join_where ids_at
sets_where {count} {w} {w'} test ids cs n o long known bits past free = sets_map (joined_keeps test ids) cs n (long ∙ o.long)
    (λ r j h l. bits r j h l ∙ ap (λ (b : Bool). b || (test (at cs r) && is_in (id_at cs j) ids)) (o.bits r j h l) ∙ sym (in_joined (id_at cs j) (test (at cs r)) ids (at cs r)))
    past free
    (λ r i h e. go r i h (or_case (is_in i (at cs r).contained_ids) (test (at cs r) && is_in i ids) (sym (in_joined i (test (at cs r)) ids (at cs r)) ∙ e)))
  where
    go : (r i : ℕ) → r < count → (is_in i (at cs r).contained_ids ≡ true) ⊎ (test (at cs r) && is_in i ids ≡ true) → Known count cs i
    go r i h (inl e) = o.closed r i h e
    go r i h (inr e) = known i (and_true (test (at cs r)) (is_in i ids) e).1
