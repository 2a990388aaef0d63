-- found_container_1: what is done to the rows is what found_container_1 does to the containers.
use mathlib.Core.Path.{◌≡◌, refl, sym, ap, subst, ◌∙◌}
use mathlib.Core.Bool.{Bool, true, false, ◌&&◌, ◌||◌, or-false, or-true}
use mathlib.Core.List.{List, [], ◌∷◌, ◌++◌}
use mathlib.Core.Logic.{◌⊎◌, inl, inr}
use mathlib.Core.Option.{Option}
use Prim.Native.Nat.{ℕ, ◌+◌, ◌≤◌, ◌<◌}
use native.Mathlib.Decide.{ℕ_discrete}
use native.Mathlib.Omega.{arith}
use lib.Dec.{eqb}
use lib.ListN.{length, get_or, take, drop, length-map}
use borrow.Author.Tests.{eqb-true, eq-eqb, ne_eqb}
use borrow.Rule.Slice.PartMut.{put_mid, same_len_mid}
use Rattle.memory.specs.Rows.{member, Adds}
use Rattle.memory.proofs.Bits.{inside_is}
use Rattle.penne.specs.Tree.{Spot, Ident, Maybe, ok, err, poison}
use Rattle.penne.specs.Find.{is_in, union}
use Rattle.penne.specs.Containers.{Container, Containment, id_of, contained_ids_of, joined, join_where, cyclical, added_ids, add_ids, found_container_1}
use Rattle.penne.proofs.Booleans.{or_case, and-false}
use Rattle.containers.specs.declared.containers.Contained.{Contained}
use Rattle.containers.specs.declared.containers.Contained.TheVariants.{Fine}
use Rattle.containers.specs.Table.{at, id_at, ids_at, IsRow, Known, Sets, is_edge, Edges, contained_in, edges_in, Holds}
use Rattle.containers.specs.Bits.{HandsOn, Joined, Took, had, has, not, TakesIn}
use Rattle.containers.specs.Calls.{answer_of, Follows, FollowsRows}
use Rattle.containers.proofs.Lists.{and_true, in_union, in_one, at_map}
use Rattle.containers.proofs.Parts.{put_part, put_word, put_before, put_behind, contained_long, edges_long}
use Rattle.containers.proofs.Changing.{Distinct, contained_at, same_row, id_map, distinct_map, edges_map, joined_keeps, row_joined, sets_where}

-- the ids that an edge to x brings
abbrev ids_of : Ident Spot → List (Container Spot) → List ℕ
ids_of x cs = union (contained_ids_of x.id cs) (x.id ∷ [])

-- the container takes them in
abbrev joined_to : Ident Spot → Ident Spot → List (Container Spot) → List (Container Spot)
joined_to c x cs = join_where (λ o. eqb (id_of o) c.id) (ids_of x cs) cs

-- and so do all that contain it
abbrev handed_on : Ident Spot → Ident Spot → List (Container Spot) → List (Container Spot)
handed_on c x cs = join_where (λ o. is_in c.id o.contained_ids) (ids_of x cs) (joined_to c x cs)

joined_count : {count : ℕ} (test : Container Spot → Bool) (ids : List ℕ) (cs : List (Container Spot)) → length cs ≡ count → length (join_where test ids cs) ≡ count
unfolding join_where
joined_count test ids cs n = length-map cs (λ c. joined (test c) ids c) ∙ n

joined_id : {count : ℕ} (test : Container Spot → Bool) (ids : List ℕ) (cs : List (Container Spot)) → length cs ≡ count → (r : ℕ) → r < count → id_at (join_where test ids cs) r ≡ id_at cs r
unfolding join_where
joined_id test ids cs n r h = id_map (joined_keeps test ids) cs r (omega arith)

-- THE ROWS

module _ {count : ℕ} {w : List ℕ} (cs : List (Container Spot)) (n : length cs ≡ count) (few : count ≤ 128) (d : Distinct count cs) (o : Sets count w cs) (c x : ℕ) (h : c < count) (l : x < count) (ci xi : Ident Spot) (ec : ci.id ≡ id_at cs c) (ex : xi.id ≡ id_at cs x) where
  in_ids : (j : ℕ) → j < count → is_in (id_at cs j) (ids_of xi cs) ≡ member w x j || eqb j x
  in_ids j k = in_union (id_at cs j) _ _
      ∙ ap (λ (b : Bool). b || is_in (id_at cs j) (xi.id ∷ [])) (ap (is_in (id_at cs j)) (contained_at cs n d x xi.id l ex) ∙ sym (o.bits x j l k))
      ∙ ap (λ (b : Bool). member w x j || b) (in_one (id_at cs j) xi.id ∙ ap (eqb (id_at cs j)) ex ∙ same_row cs d j x k l)

  known_ids : (i : ℕ) → is_in i (ids_of xi cs) ≡ true → Known count cs i
  known_ids i e = go (or_case (is_in i (contained_ids_of xi.id cs)) (is_in i (xi.id ∷ [])) (sym (in_union i _ _) ∙ e))
    where
      go : (is_in i (contained_ids_of xi.id cs) ≡ true) ⊎ (is_in i (xi.id ∷ []) ≡ true) → Known count cs i
      go (inl q) = o.closed x i l (sym (ap (is_in i) (contained_at cs n d x xi.id l ex)) ∙ q)
      go (inr q) = record { row = x; below = l; is = sym ex ∙ sym (eqb-true i xi.id (sym (in_one i xi.id) ∙ q)) }

  -- the container contains itself
  self : is_in ci.id (contained_ids_of ci.id cs) ≡ member w c c
  self = ap (is_in ci.id) (contained_at cs n d c ci.id h ec) ∙ ap (λ (i : ℕ). is_in i (ids_at cs c)) ec ∙ sym (o.bits c c h h)

  module _ {w₁ : List ℕ} (q : Joined c x w w₁) where
    beyond : (j : ℕ) → count ≤ j → member w x j || eqb j x ≡ false
    beyond j k = ap (λ (b : Bool). b || eqb j x) (o.past x j l k) ∙ ne_eqb j x (omega arith)

    test_row : (r : ℕ) → r < count → eqb (id_of (at cs r)) ci.id ≡ eqb r c
    unfolding id_at
    test_row r k = ap (eqb (id_of (at cs r))) ec ∙ same_row cs d r c k h

    joined_sets : Sets count w₁ (joined_to ci xi cs)
    joined_sets = sets_where (λ o. eqb (id_of o) ci.id) (ids_of xi cs) cs n o q.long known_ids
        (λ r j k m. bit r j k m (ℕ_discrete r c))
        (λ r j k m. past r j k m (ℕ_discrete r c))
        (λ r j k m. q.same r j (omega arith) m ∙ o.free r j k m)
      where
        bit : (r j : ℕ) → r < count → j < count → Dec (r ≡ c) → member w₁ r j ≡ member w r j || (eqb (id_of (at cs r)) ci.id && is_in (id_at cs j) (ids_of xi cs))
        bit r j k m (yes e) = ap (λ (i : ℕ). member w₁ i j) e ∙ q.here j ∙ ap (λ (b : Bool). member w c j || b) (sym (in_ids j m)) ∙ ap (λ (i : ℕ). member w i j || is_in (id_at cs j) (ids_of xi cs)) (sym e)
            ∙ sym (ap (λ (b : Bool). member w r j || (b && is_in (id_at cs j) (ids_of xi cs))) (test_row r k ∙ eq-eqb r c e))
        bit r j k m (no e) = q.same r j e (omega arith) ∙ sym (ap (λ (b : Bool). member w r j || (b && is_in (id_at cs j) (ids_of xi cs))) (test_row r k ∙ ne_eqb r c e) ∙ or-false (member w r j))

        past : (r j : ℕ) → r < count → count ≤ j → Dec (r ≡ c) → member w₁ r j ≡ false
        past r j k m (yes e) = ap (λ (i : ℕ). member w₁ i j) e ∙ q.here j ∙ ap (λ (b : Bool). b || (member w x j || eqb j x)) (o.past c j h m) ∙ beyond j m
        past r j k m (no e) = q.same r j e (omega arith) ∙ o.past r j k m

    joined_distinct : Distinct count (joined_to ci xi cs)
    unfolding join_where
    joined_distinct = distinct_map (joined_keeps (λ o. eqb (id_of o) ci.id) (ids_of xi cs)) cs n d

    id₁ : (r : ℕ) → r < count → id_at (joined_to ci xi cs) r ≡ id_at cs r
    id₁ r k = joined_id (λ o. eqb (id_of o) ci.id) (ids_of xi cs) cs n r k

    count₁ : length (joined_to ci xi cs) ≡ count
    count₁ = joined_count (λ o. eqb (id_of o) ci.id) (ids_of xi cs) cs n

    known₁ : (i : ℕ) → is_in i (ids_of xi cs) ≡ true → Known count (joined_to ci xi cs) i
    known₁ i e = let z = known_ids i e in record { row = z.row; below = z.below; is = id₁ z.row z.below ∙ z.is }

    self₁ : is_in ci.id (contained_ids_of ci.id (joined_to ci xi cs)) ≡ member w₁ c c
    self₁ = ap (is_in ci.id) (contained_at (joined_to ci xi cs) count₁ joined_distinct c ci.id h (ec ∙ sym (id₁ c h))) ∙ ap (λ (i : ℕ). is_in i (ids_at (joined_to ci xi cs) c)) (ec ∙ sym (id₁ c h)) ∙ sym (joined_sets.bits c c h h)

    -- a container contains c where its row has c
    has_c : (r : ℕ) → r < count → is_in ci.id (at (joined_to ci xi cs) r).contained_ids ≡ member w₁ r c
    unfolding ids_at
    has_c r k = ap (λ (i : ℕ). is_in i (ids_at (joined_to ci xi cs) r)) (ec ∙ sym (id₁ c h)) ∙ sym (joined_sets.bits r c k h)

    handed_sets : {w₂ : List ℕ} → length w ≡ 516 → HandsOn count c w₁ w₂ → Sets count w₂ (handed_on ci xi cs)
    handed_sets {w₂} long p = sets_where (λ o. is_in ci.id o.contained_ids) (ids_of xi cs) (joined_to ci xi cs) count₁ joined_sets p.long known₁
        (λ r j k m. p.here (q.long ∙ long) few r j k
        ∙ ap (λ (b : Bool). member w₁ r j || (b && member w₁ 128 j)) (sym (has_c r k))
        ∙ ap (λ (b : Bool). member w₁ r j || (is_in ci.id (at (joined_to ci xi cs) r).contained_ids && b)) (q.spare j ∙ sym (in_ids j m) ∙ sym (ap (λ (i : ℕ). is_in i (ids_of xi cs)) (id₁ j m))))
        (λ r j k m. p.here (q.long ∙ long) few r j k ∙ ap (λ (b : Bool). b || (member w₁ r c && member w₁ 128 j)) (joined_sets.past r j k m) ∙ ap (λ (b : Bool). member w₁ r c && b) (q.spare j ∙ beyond j m) ∙ and-false (member w₁ r c))
        (λ r j k m. p.same r j k ∙ joined_sets.free r j k m)

-- THE EDGES

edge_last : (a b x y : ℕ) (es : List (ℕ × ℕ)) → is_edge a b (es ++ ((x, y) ∷ [])) ≡ is_edge a b es || (eqb x a && eqb y b)
unfolding is_edge
edge_last a b x y [] = or-false (eqb x a && eqb y b)
edge_last a b x y ((u, v) ∷ es) = ap (λ (t : Bool). (eqb u a && eqb v b) || t) (edge_last a b x y es) ∙ or_assoc (eqb u a && eqb v b) (is_edge a b es) (eqb x a && eqb y b)
  where
    or_assoc : (p q r : Bool) → p || (q || r) ≡ (p || q) || r
    or_assoc true q r = refl
    or_assoc false q r = refl

edges_add : {count : ℕ} {w w' : List ℕ} {es : List (ℕ × ℕ)} (cs : List (Container Spot)) → count ≤ 128 → Distinct count cs → Edges count w cs es → (c x : ℕ) → c < count → x < count → (a b : ℕ) → a ≡ id_at cs c → b ≡ id_at cs x → Adds c x w w' → Edges count w' cs (es ++ ((a, b) ∷ []))
edges_add {count} {w} {w'} {es} cs few d o c x h l a b ea eb q = record {
  long = q.long ∙ o.long;
  bits = λ r j k m. bit r j k m (ℕ_discrete r c) (ℕ_discrete j x);
  free = λ r j f. q.others r j (λ z. f (let e : r ≡ c = z.0 in omega arith) (let e : j ≡ x = z.1 in omega arith)) ∙ o.free r j f;
  closed = λ u v e. closed u v (or_case (is_edge u v es) (eqb a u && eqb b v) (sym (edge_last u v a b es) ∙ e));
}
  where
    tests : (r j : ℕ) → r < count → j < count → eqb a (id_at cs r) && eqb b (id_at cs j) ≡ eqb c r && eqb x j
    tests r j k m = ap (λ (p : Bool). p && eqb b (id_at cs j)) (ap (λ (i : ℕ). eqb i (id_at cs r)) ea ∙ same_row cs d c r h k) ∙ ap (λ (p : Bool). eqb c r && p) (ap (λ (i : ℕ). eqb i (id_at cs j)) eb ∙ same_row cs d x j l m)

    bit : (r j : ℕ) → r < count → j < count → Dec (r ≡ c) → Dec (j ≡ x) → member w' r j ≡ is_edge (id_at cs r) (id_at cs j) (es ++ ((a, b) ∷ []))
    bit r j k m (yes e) (yes f) =
        let long = o.long in
        ap (λ (i : ℕ). member w' i j) e ∙ ap (member w' c) f ∙ q.there ∙ inside_is w c x (omega arith) (omega arith)
        ∙ sym (edge_last (id_at cs r) (id_at cs j) a b es ∙ ap (λ (p : Bool). is_edge (id_at cs r) (id_at cs j) es || p) (tests r j k m ∙ ap (λ (p : Bool). p && eqb x j) (eq-eqb c r (sym e)) ∙ eq-eqb x j (sym f)) ∙ or-true (is_edge (id_at cs r) (id_at cs j) es))
    bit r j k m (no e) f = q.others r j (λ z. e z.0) ∙ o.bits r j k m
        ∙ sym (edge_last (id_at cs r) (id_at cs j) a b es ∙ ap (λ (p : Bool). is_edge (id_at cs r) (id_at cs j) es || p) (tests r j k m ∙ ap (λ (p : Bool). p && eqb x j) (ne_eqb c r (λ z. e (sym z)))) ∙ or-false (is_edge (id_at cs r) (id_at cs j) es))
    bit r j k m (yes e) (no f) = q.others r j (λ z. f z.1) ∙ o.bits r j k m
        ∙ sym (edge_last (id_at cs r) (id_at cs j) a b es ∙ ap (λ (p : Bool). is_edge (id_at cs r) (id_at cs j) es || p) (tests r j k m ∙ ap (λ (p : Bool). eqb c r && p) (ne_eqb x j (λ z. f (sym z))) ∙ and-false (eqb c r)) ∙ or-false (is_edge (id_at cs r) (id_at cs j) es))

    closed : (u v : ℕ) → (is_edge u v es ≡ true) ⊎ (eqb a u && eqb b v ≡ true) → Known count cs u × Known count cs v
    closed u v (inl e) = o.closed u v e
    closed u v (inr e) = let z = and_true (eqb a u) (eqb b v) e in (record { row = c; below = h; is = sym ea ∙ eqb-true a u z.0 }, record { row = x; below = l; is = sym eb ∙ eqb-true b v z.1 })

-- ALL BUT THE SETS

record Beside (count : ℕ) (w e : List ℕ) (cs : List (Container Spot)) (es : List (ℕ × ℕ)) : Type 0 where
  counted : length cs ≡ count
  distinct : Distinct count cs
  rows : (r : ℕ) → r < count → IsRow w r (at cs r)
  edges : Edges count e cs es

beside_where : {count : ℕ} {w e : List ℕ} {cs : List (Container Spot)} {es : List (ℕ × ℕ)} (test : Container Spot → Bool) (ids : List ℕ) → Beside count w e cs es → Beside count w e (join_where test ids cs) es
unfolding join_where
beside_where {w} {cs} test ids b = let n = b.counted in record {
  counted = joined_count test ids cs n;
  distinct = distinct_map (joined_keeps test ids) cs n b.distinct;
  rows = λ r h. subst (λ (c : Container Spot). IsRow w r c) (sym (at_map (λ c. joined (test c) ids c) cs r (omega arith))) (row_joined (test (at cs r)) ids (b.rows r h));
  edges = edges_map (joined_keeps test ids) cs n b.edges;
}

holds_of : {count : ℕ} {w : List ℕ} {cs : List (Container Spot)} {es : List (ℕ × ℕ)} (i : Option (Ident Spot)) → count ≤ 128 → length w ≡ 1668 → Beside count w (edges_in w) cs es → Sets count (contained_in w) cs → Holds count w (record { containers = cs; in_constexpr_of_constant = i; edges = es })
holds_of i few long b o = record { counted = b.counted; few = few; long = long; distinct = b.distinct; rows = b.rows; sets = o; edges = b.edges }

-- words of columns that are the same hold the same
pub rows_same : {w w' : List ℕ} {r : ℕ} {c : Container Spot} → ((p : ℕ) → p < 640 → get_or w' p 0 ≡ get_or w p 0) → r < 128 → IsRow w r c → IsRow w' r c
rows_same {r} e h o = record {
  name = e (0 + r) (omega arith) ∙ o.name;
  place = e (128 + r) (omega arith) ∙ o.place;
  id = e (256 + r) (omega arith) ∙ o.id;
  kind = e (384 + r) (omega arith) ∙ o.kind;
  depth = e (512 + r) (omega arith) ∙ o.depth;
}

-- THE DEFINITION'S WAYS

-- the state after an edge
abbrev after : Containment Spot → (a b : ℕ) → List (Container Spot) → Containment Spot
after s a b cs = record { containers = cs; in_constexpr_of_constant = s.in_constexpr_of_constant; edges = s.edges ++ ((a, b) ∷ []) }

module _ (c : Ident Spot) (m : Option (Ident Spot)) (x : Ident Spot) (s : Containment Spot) where
  abbrev cs₀ : List (Container Spot)
  cs₀ = s.containers

  abbrev out : Maybe Spot (Ident Spot) × List (Container Spot) → Maybe Spot (Ident Spot) × Containment Spot
  out p = (p.0, after s c.id x.id p.1)

  found_by : (b : Bool) → is_in c.id (contained_ids_of c.id s.containers) ≡ b → found_container_1 c m x s ≡ out (add_ids c m x (ids_of x s.containers) b s.containers)
  unfolding found_container_1
  found_by b e = ap (λ (t : Bool). out (add_ids c m x (ids_of x s.containers) t s.containers)) e

  found_had : is_in c.id (contained_ids_of c.id s.containers) ≡ true → found_container_1 c m x s ≡ (err (poison 0 [] []), after s c.id x.id s.containers)
  unfolding add_ids
  found_had e = found_by true e

  found_added : (b : Bool) → is_in c.id (contained_ids_of c.id s.containers) ≡ false → is_in c.id (contained_ids_of c.id (joined_to c x s.containers)) ≡ b → found_container_1 c m x s ≡ out (added_ids c m x (ids_of x s.containers) b (joined_to c x s.containers))
  unfolding add_ids
  found_added b e f = found_by false e ∙ ap (λ (t : Bool). out (added_ids c m x (ids_of x s.containers) t (joined_to c x s.containers))) f

  found_has : is_in c.id (contained_ids_of c.id s.containers) ≡ false → is_in c.id (contained_ids_of c.id (joined_to c x s.containers)) ≡ true → found_container_1 c m x s ≡ (err (cyclical c m (joined_to c x s.containers)), after s c.id x.id (joined_to c x s.containers))
  unfolding added_ids
  found_has e f = found_added true e f

  found_not : is_in c.id (contained_ids_of c.id s.containers) ≡ false → is_in c.id (contained_ids_of c.id (joined_to c x s.containers)) ≡ false → found_container_1 c m x s ≡ (ok x, after s c.id x.id (handed_on c x s.containers))
  unfolding added_ids
  found_not e f = found_added false e f

  follows_by : {count : ℕ} {r : Contained} {w : List ℕ} (p : Maybe Spot (Ident Spot) × Containment Spot) → found_container_1 c m x s ≡ p → answer_of r c m x p.1.containers ≡ p.0 → Holds count w p.1 → Follows count c m x s r w
  follows_by {count} {r} {w} p e a h = record {
    answer = subst (λ (q : Maybe Spot (Ident Spot) × Containment Spot). answer_of r c m x q.1.containers ≡ q.0) (sym e) a;
    holds = subst (λ (q : Maybe Spot (Ident Spot) × Containment Spot). Holds count w q.1) (sym e) h;
  }

-- a row of the table after, by its words, its sets and its edges
record After (w ye ys w' : List ℕ) : Type 0 where
  long : length w' ≡ 1668
  words : (p : ℕ) → p < 640 → get_or w' p 0 ≡ get_or w p 0
  contained : contained_in w' ≡ ys
  edges : edges_in w' ≡ ye

module _ {count c x : ℕ} {w ye : List ℕ} {s : Containment Spot} (o : Holds count w s) (h : c < count) (l : x < count) (ci xi : Ident Spot) (ec : ci.id ≡ id_at s.containers c) (ex : xi.id ≡ id_at s.containers x) (m : Option (Ident Spot)) (add : Adds c x (edges_in w) ye) where
  beside : {ys w' : List ℕ} → After w ye ys w' → Beside count w' (edges_in w') s.containers (s.edges ++ ((ci.id, xi.id) ∷ []))
  beside {ys} {w'} a = let few = o.few in record {
    counted = o.counted;
    distinct = o.distinct;
    rows = λ r k. rows_same a.words (omega arith) (o.rows r k);
    edges = subst (λ (e : List ℕ). Edges count e s.containers (s.edges ++ ((ci.id, xi.id) ∷ []))) (sym a.edges) (edges_add s.containers o.few o.distinct o.edges c x h l ci.id xi.id ec ex add);
  }

  sets_in : {ys w' : List ℕ} {cs : List (Container Spot)} → After w ye ys w' → Sets count ys cs → Sets count (contained_in w') cs
  sets_in {cs} a k = subst (λ (e : List ℕ). Sets count e cs) (sym a.contained) k

  self_is : is_in ci.id (contained_ids_of ci.id s.containers) ≡ member (contained_in w) c c
  self_is = self s.containers o.counted o.few o.distinct o.sets c x h l ci xi ec ex

  follows_took : {r : Contained} {ys w' : List ℕ} → Took count c x (contained_in w) r ys → After w ye ys w' → Follows count ci m xi s r w'
  unfolding answer_of
  follows_took (had e) a = follows_by ci m xi s _ (found_had ci m xi s (self_is ∙ e)) refl (holds_of _ o.few a.long (beside a) (sets_in a o.sets))
  follows_took (has e q f) a = follows_by ci m xi s _ (found_has ci m xi s (self_is ∙ e) (self₁ s.containers o.counted o.few o.distinct o.sets c x h l ci xi ec ex q ∙ f)) refl
      (holds_of _ o.few a.long (beside_where _ _ (beside a)) (sets_in a (joined_sets s.containers o.counted o.few o.distinct o.sets c x h l ci xi ec ex q)))
  follows_took (not e q f p) a = follows_by ci m xi s _ (found_not ci m xi s (self_is ∙ e) (self₁ s.containers o.counted o.few o.distinct o.sets c x h l ci xi ec ex q ∙ f)) refl
      (holds_of _ o.few a.long (beside_where _ _ (beside_where _ _ (beside a))) (sets_in a (handed_sets s.containers o.counted o.few o.distinct o.sets c x h l ci xi ec ex q o.sets.long p)))

-- found_container_1

pub follows_short : {count c x : ℕ} {w : List ℕ} → length w < 1668 → FollowsRows count c x w Fine w
follows_short h = record { long = refl; follows = λ s o. let long = o.long in absurd (omega arith) }

pub follows_is : {count c x : ℕ} {w ye ys : List ℕ} {r : Contained} → 1668 ≤ length w → Adds c x (take 512 (drop 1156 w)) ye → TakesIn count c x (take 516 (drop 640 (put_mid 1156 512 w ye))) r ys → FollowsRows count c x w r (put_mid 640 516 (put_mid 1156 512 w ye) ys)
unfolding contained_in edges_in
follows_is {count} {c} {x} {w} {ye} {ys} {r} fits add took = record {
  long = long;
  follows = λ s o h l ci xi ec ex m.
      let wl : length w ≡ 1668 = o.long in
      let le : length ye ≡ 512 = add.long ∙ edges_long w wl in
      let same : contained_in (put_mid 1156 512 w ye) ≡ contained_in w = put_before 1156 512 w ye (omega arith) le 640 516 (omega arith) in
      let ll : length ys ≡ 516 = took.long ∙ ap (λ (v : List ℕ). length v) same ∙ contained_long w wl in
      let wl₁ : length (put_mid 1156 512 w ye) ≡ 1668 = same_len_mid 1156 512 w ye add.long ∙ wl in
      let after : After w ye ys (put_mid 640 516 (put_mid 1156 512 w ye) ys) = record {
        long = long ∙ wl;
        words = λ p k. put_word 640 516 (put_mid 1156 512 w ye) ys (omega arith) ll p k ∙ put_word 1156 512 w ye (omega arith) le p (omega arith);
        contained = put_part 640 516 (put_mid 1156 512 w ye) ys (omega arith) ll;
        edges = ap (λ (v : List ℕ). take 512 v) (put_behind 640 516 (put_mid 1156 512 w ye) ys (omega arith) ll) ∙ put_part 1156 512 w ye (omega arith) le;
      } in
      follows_took o h l ci xi ec ex m add (subst (λ (v : List ℕ). Took count c x v r ys) same (took.takes (ap (λ (v : List ℕ). length v) same ∙ contained_long w wl) o.few h l)) after;
}
  where
    long : length (put_mid 640 516 (put_mid 1156 512 w ye) ys) ≡ length w
    long = same_len_mid 640 516 (put_mid 1156 512 w ye) ys took.long ∙ same_len_mid 1156 512 w ye add.long
