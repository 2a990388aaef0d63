-- determine_container_depths: what is done to the table is what the definitions do to the containers.
use mathlib.Core.Path.{◌≡◌, refl, sym, ap, subst, ◌∙◌}
use mathlib.Core.Bool.{Bool, true, false, ◌&&◌, ◌||◌, not}
use mathlib.Core.List.{List, [], ◌∷◌, map}
use Prim.Native.Nat.{ℕ, zero, suc, ◌+◌, ◌-◌, ◌≤◌, ◌<◌}
use native.Mathlib.Nat.{not-suc-le-zero, le_of_suc-le-suc}
use native.Mathlib.Decide.{dec_lt, ℕ_discrete}
use native.Mathlib.Omega.{arith}
use lib.Dec.{eqb, ltb}
use lib.ListN.{length, get_or, length-map}
use borrow.Author.Tests.{eq-eqb, ne_eqb, lt-ltb, le-ltb}
use Rattle.memory.specs.Rows.{member, vacant}
use Rattle.penne.specs.Tree.{Spot, Ident}
use Rattle.penne.specs.Find.{keep, is_in, minus}
use Rattle.penne.specs.Containers.{Container, Containment, id_of, with_containers, resolves, settled, rounds, or_poisoned, determine_container_depths, obtain_container_depth}
use Rattle.penne.proofs.Booleans.{same_bool}
use Rattle.penne.proofs.Searching.{keep_hit, keep_miss}
use Rattle.memory.proofs.Bits.{none_all, none_some}
use Rattle.containers.specs.Table.{at, id_at, ids_at, kind_of, IsRow, Sets, Edges, contained_in, Holds}
use Rattle.containers.specs.Depths.{OnlyRows, Clears, row_resolves, MarksAll, NoneMarked, Releases, Deepens, marked, or_one, DeepensMarked, PoisonsRest, Rounded, over, goes, Round, Rounds, Determines, TellsDepth}
use Rattle.containers.proofs.Lists.{true_not_false, and_true, in_none, in_hit, in_miss, in_minus, at_map}
use Rattle.containers.proofs.Changing.{Distinct, Keeps, id_map, distinct_map, edges_map, sets_map}
use Rattle.containers.proofs.Following.{rows_same}
use Rattle.containers.proofs.Parts.{contained_long}

-- VACANT ROWS

vacant_all : (w : List ℕ) (i : ℕ) → ((j : ℕ) → j < 128 → member w i j ≡ false) → vacant w i ≡ true
unfolding vacant
vacant_all w i h = none_all (member w i) 128 h

vacant_some : (w : List ℕ) (i j : ℕ) → j < 128 → member w i j ≡ true → vacant w i ≡ false
unfolding vacant
vacant_some w i j h e = none_some (member w i) 128 j h e

-- a row is empty where its container contains nothing
row_vacant : {count : ℕ} {w : List ℕ} {s : Containment Spot} → Holds count w s → (r : ℕ) → r < count → vacant (contained_in w) r ≡ eqb (length (ids_at s.containers r)) 0
row_vacant {count} {w} {s} o r h = go (ids_at s.containers r) refl
  where
    go : (l : List ℕ) → ids_at s.containers r ≡ l → vacant (contained_in w) r ≡ eqb (length (ids_at s.containers r)) 0
    go [] e = vacant_all (contained_in w) r (λ j k. one j (dec_lt j count)) ∙ sym (ap (λ (l : List ℕ). eqb (length l) 0) e)
      where
        one : (j : ℕ) → Dec (j < count) → member (contained_in w) r j ≡ false
        one j (yes k) = o.sets.bits r j h k ∙ in_none (id_at s.containers j) (ids_at s.containers r) e
        one j (no k) = o.sets.past r j h (omega arith)
    go (y ∷ l) e =
        let k = o.sets.closed r y h (ap (is_in y) e ∙ in_hit y y l refl) in
        let few = o.few in
        let b = k.below in
        vacant_some (contained_in w) r k.row (omega arith) (o.sets.bits r k.row h b ∙ ap (λ (i : ℕ). is_in i (ids_at s.containers r)) k.is ∙ ap (is_in y) e ∙ in_hit y y l refl)
        ∙ sym (ap (λ (l : List ℕ). eqb (length l) 0) e ∙ ne_eqb (length (y ∷ l)) 0 (omega arith))

-- the test on a row is the test on its container
row_resolves_lem : {count : ℕ} {w : List ℕ} {s : Containment Spot} → Holds count w s → (r : ℕ) → r < count → row_resolves w r ≡ resolves (at s.containers r)
unfolding row_resolves resolves ids_at
row_resolves_lem {w} {s} o r h = ap (λ (x : ℕ). eqb x 0 && vacant (contained_in w) r) (o.rows r h).depth ∙ ap (λ (b : Bool). eqb (at s.containers r).depth 0 && b) (row_vacant o r h)

-- THE IDS THAT A ROUND RESOLVES

abbrev resolved_ids : List (Container Spot) → List ℕ
resolved_ids cs = map id_of (keep resolves cs)

-- an id of those is the id of one that is resolved
pub record Resolved (cs : List (Container Spot)) (i : ℕ) : Type 0 where
  pub row : ℕ
  pub below : row < length cs
  pub yes : resolves (at cs row) ≡ true
  pub is : id_at cs row ≡ i

resolved_in : (cs : List (Container Spot)) (i : ℕ) → is_in i (resolved_ids cs) ≡ true → Resolved cs i
unfolding is_in keep at id_at
resolved_in [] i e = absurd (true_not_false e refl)
resolved_in (c ∷ cs) i e = go (resolves c) refl (ℕ_discrete i (id_of c)) (resolved_in cs i)
  where
    later : Resolved cs i → Resolved (c ∷ cs) i
    later r = let b = r.below in record { row = suc r.row; below = omega arith; yes = r.yes; is = r.is }

    go : (b : Bool) → resolves c ≡ b → Dec (i ≡ id_of c) → (is_in i (resolved_ids cs) ≡ true → Resolved cs i) → Resolved (c ∷ cs) i
    go true f (yes q) rest = record { row = 0; below = omega arith; yes = f; is = sym q }
    go true f (no q) rest = later (rest (sym (in_miss i (id_of c) (resolved_ids cs) q) ∙ sym (ap (λ (l : List (Container Spot)). is_in i (map id_of l)) (keep_hit resolves c cs f)) ∙ e))
    go false f q rest = later (rest (sym (ap (λ (l : List (Container Spot)). is_in i (map id_of l)) (keep_miss resolves c cs f)) ∙ e))

in_resolved : (cs : List (Container Spot)) (r : ℕ) → r < length cs → resolves (at cs r) ≡ true → is_in (id_at cs r) (resolved_ids cs) ≡ true
unfolding is_in keep at id_at
in_resolved [] r h e = absurd (not-suc-le-zero h)
in_resolved (c ∷ cs) zero h e = ap (λ (l : List (Container Spot)). is_in (id_of c) (map id_of l)) (keep_hit resolves c cs e) ∙ in_hit (id_of c) (id_of c) (resolved_ids cs) refl
in_resolved (c ∷ cs) (suc r) h e = go (resolves c) refl (ℕ_discrete (id_at cs r) (id_of c)) (in_resolved cs r (le_of_suc-le-suc h) e)
  where
    go : (b : Bool) → resolves c ≡ b → Dec (id_at cs r ≡ id_of c) → is_in (id_at cs r) (resolved_ids cs) ≡ true → is_in (id_at cs r) (resolved_ids (c ∷ cs)) ≡ true
    go true f (yes q) rest = ap (λ (l : List (Container Spot)). is_in (id_at cs r) (map id_of l)) (keep_hit resolves c cs f) ∙ in_hit (id_at cs r) (id_of c) (resolved_ids cs) q
    go true f (no q) rest = ap (λ (l : List (Container Spot)). is_in (id_at cs r) (map id_of l)) (keep_hit resolves c cs f) ∙ in_miss (id_at cs r) (id_of c) (resolved_ids cs) q ∙ rest
    go false f q rest = ap (λ (l : List (Container Spot)). is_in (id_at cs r) (map id_of l)) (keep_miss resolves c cs f) ∙ rest

resolved_row : {count : ℕ} (cs : List (Container Spot)) → length cs ≡ count → Distinct count cs → (j : ℕ) → j < count → is_in (id_at cs j) (resolved_ids cs) ≡ resolves (at cs j)
resolved_row cs n d j h = same_bool _ _
    (λ e. let r = resolved_in cs (id_at cs j) e in let b = r.below in let z : r.row ≡ j = d r.row j (omega arith) h r.is in sym (ap (λ (k : ℕ). resolves (at cs k)) z) ∙ r.yes)
    (λ e. in_resolved cs j (omega arith) e)

-- HOLDS, STEP BY STEP

-- rows of bits that are the same hold the same
holds_rows : {count : ℕ} {w w' : List ℕ} {s : Containment Spot} → Holds count w s → length w' ≡ length w → OnlyRows w w' → ((i j : ℕ) → i < 128 → member (contained_in w') i j ≡ member (contained_in w) i j) → Holds count w' s
holds_rows {count} {w} {w'} {s} o long only same = let few = o.few in record {
  counted = o.counted;
  few = o.few;
  long = long ∙ o.long;
  distinct = o.distinct;
  rows = λ r h. rows_same only.words (omega arith) (o.rows r h);
  sets = record {
    long = contained_long w' (long ∙ o.long);
    bits = λ r j h l. same r j (omega arith) ∙ o.sets.bits r j h l;
    past = λ r j h l. same r j (omega arith) ∙ o.sets.past r j h l;
    free = λ r j h l. same r j l ∙ o.sets.free r j h l;
    closed = o.sets.closed;
  };
  edges = subst (λ (v : List ℕ). Edges count v s.containers s.edges) (sym only.edges) o.edges;
}

-- other depths
pub record Deeper (f : ℕ → ℕ → ℕ) (F : Container Spot → Container Spot) (count : ℕ) (cs : List (Container Spot)) : Type 0 where
  pub keeps : Keeps F
  pub kind : (c : Container Spot) → (F c).is_structure ≡ c.is_structure
  pub ids : (c : Container Spot) → (F c).contained_ids ≡ c.contained_ids
  pub depth : (r : ℕ) → r < count → (F (at cs r)).depth ≡ f r (at cs r).depth

holds_deeper : {count : ℕ} {w w' : List ℕ} {s : Containment Spot} {f : ℕ → ℕ → ℕ} {F : Container Spot → Container Spot} → Holds count w s → length w' ≡ length w → Deepens count f w w' → Deeper f F count s.containers → Holds count w' (with_containers s (map F s.containers))
unfolding with_containers ids_at
holds_deeper {count} {w} {w'} {s} {f} {F} o long n q = let few = o.few in let count_is = o.counted in record {
  counted = length-map s.containers F ∙ o.counted;
  few = o.few;
  long = long ∙ o.long;
  distinct = distinct_map q.keeps s.containers o.counted o.distinct;
  rows = λ r h. subst (λ (c : Container Spot). IsRow w' r c) (sym (at_map F s.containers r (omega arith))) (row r h);
  sets = subst (λ (v : List ℕ). Sets count v (map F s.containers)) (sym n.contained) (sets_map q.keeps s.containers o.counted o.sets.long
      (λ r j h l. o.sets.bits r j h l ∙ sym (ap (is_in (id_at s.containers j)) (q.ids (at s.containers r))))
      o.sets.past o.sets.free
      (λ r i h e. o.sets.closed r i h (sym (ap (is_in i) (q.ids (at s.containers r))) ∙ e)));
  edges = subst (λ (v : List ℕ). Edges count v (map F s.containers) s.edges) (sym n.edges) (edges_map q.keeps s.containers o.counted o.edges);
}
  where
    row : (r : ℕ) → r < count → IsRow w' r (F (at s.containers r))
    row r h =
        let few = o.few in
        let c : Container Spot = at s.containers r in
        let k : (F c).identifier ≡ c.identifier = q.keeps.kept c in
        let b = o.rows r h in
        record {
          name = n.words (0 + r) (λ t l e. omega arith) ∙ b.name ∙ sym (ap (λ (i : Ident Spot). i.name) k);
          place = n.words (128 + r) (λ t l e. omega arith) ∙ b.place ∙ sym (ap (λ (i : Ident Spot). i.place.number) k);
          id = n.words (256 + r) (λ t l e. omega arith) ∙ b.id ∙ sym (ap (λ (i : Ident Spot). i.id) k);
          kind = n.words (384 + r) (λ t l e. omega arith) ∙ b.kind ∙ sym (ap kind_of (q.kind c));
          depth = n.depth r h ∙ ap (f r) b.depth ∙ sym (q.depth r h);
        }

-- THE ROUND

-- the depth that the round gives
abbrev deepened : ℕ → Container Spot → Container Spot
deepened d c = record { identifier = c.identifier; contained_ids = c.contained_ids; depth = elim (resolves c) [ true ↦ 2 + d | false ↦ c.depth ]; is_structure = c.is_structure }

-- what it takes out
abbrev released : List ℕ → Container Spot → Container Spot
released ids c = record { identifier = c.identifier; contained_ids = minus c.contained_ids ids; depth = c.depth; is_structure = c.is_structure }

map_twice : {A : Type 0} (f g : A → A) (l : List A) → map g (map f l) ≡ map (λ a. g (f a)) l
map_twice f g [] = refl
map_twice {A} f g (a ∷ l) = ap (λ (r : List A). g (f a) ∷ r) (map_twice f g l)

settled_is : (d : ℕ) (ids : List ℕ) (cs : List (Container Spot)) → map (released ids) (map (deepened d) cs) ≡ map (settled d ids) cs
unfolding settled
settled_is d ids cs = map_twice (deepened d) (released ids) cs

-- row 128 has what the round resolves
abbrev Spare : ℕ → List ℕ → List (Container Spot) → Type 0
Spare count w cs = (j : ℕ) → j < count → member (contained_in w) 128 j ≡ resolves (at cs j)

holds_deepened : {count d : ℕ} {w w' : List ℕ} {s : Containment Spot} → Holds count w s → Spare count w s.containers → d < 128 → DeepensMarked count d w w' → Holds count w' (with_containers s (map (deepened d) s.containers))
unfolding marked
holds_deepened {count} {d} {w} {w'} {s} o spare h n = holds_deeper o n.long (n.all o.long o.few h) (record {
  keeps = record { kept = λ c. refl };
  kind = λ c. refl;
  ids = λ c. refl;
  depth = λ r l. ap (λ (b : Bool). elim b [ true ↦ 2 + d | false ↦ (at s.containers r).depth ]) (sym (spare r l));
})

row_released : {w : List ℕ} {r : ℕ} {c : Container Spot} (ids : List ℕ) → IsRow w r c → IsRow w r (released ids c)
row_released ids b = record { name = b.name; place = b.place; id = b.id; kind = b.kind; depth = b.depth }

holds_released : {count : ℕ} {w w' : List ℕ} {s : Containment Spot} (ids : List ℕ) → Holds count w s → ((j : ℕ) → j < count → member (contained_in w) 128 j ≡ is_in (id_at s.containers j) ids) → Releases count w w' → Holds count w' (with_containers s (map (released ids) s.containers))
unfolding with_containers ids_at
holds_released {count} {w} {w'} {s} ids o spare n =
    let few = o.few in
    let count_is = o.counted in
    let only = n.only o.long in
    let rows = n.rows o.long in
    let keeps : Keeps (released ids) = record { kept = λ c. refl } in
    record {
      counted = length-map s.containers (released ids) ∙ o.counted;
      few = o.few;
      long = n.long ∙ o.long;
      distinct = distinct_map keeps s.containers o.counted o.distinct;
      rows = λ r h. subst (λ (c : Container Spot). IsRow w' r c) (sym (at_map (released ids) s.containers r (omega arith))) (row_released ids (rows_same only.words (omega arith) (o.rows r h)));
      sets = sets_map keeps s.containers o.counted (contained_long w' (n.long ∙ o.long))
          (λ r j h l. rows.here few r j h ∙ ap (λ (b : Bool). b && not (member (contained_in w) 128 j)) (o.sets.bits r j h l) ∙ ap (λ (b : Bool). is_in (id_at s.containers j) (ids_at s.containers r) && not b) (spare j l) ∙ sym (in_minus (id_at s.containers j) (ids_at s.containers r) ids))
          (λ r j h l. rows.here few r j h ∙ ap (λ (b : Bool). b && not (member (contained_in w) 128 j)) (o.sets.past r j h l))
          (λ r j h l. rows.same r j h ∙ o.sets.free r j h l)
          (λ r i h e. o.sets.closed r i h (and_true (is_in i (ids_at s.containers r)) (not (is_in i ids)) (sym (in_minus i (ids_at s.containers r) ids) ∙ e)).0);
      edges = subst (λ (v : List ℕ). Edges count v (map (released ids) s.containers) s.edges) (sym only.edges) (edges_map keeps s.containers o.counted o.edges);
    }

module _ {count : ℕ} {w w₁ w₂ : List ℕ} {s : Containment Spot} (o : Holds count w s) (a : Clears w w₁) (b : MarksAll count w₁ w₂) where
  cleared : Holds count w₁ s
  cleared = holds_rows o a.long (a.only o.long) (a.same o.long)

  marked_all : Holds count w₂ s
  marked_all = holds_rows cleared b.long (b.only cleared.long o.few) (b.same cleared.long o.few)

  marks_are : (j : ℕ) → member (contained_in w₂) 128 j ≡ ltb j count && row_resolves w₁ j
  marks_are j = b.marks cleared.long o.few j ∙ ap (λ (t : Bool). t || (ltb j count && row_resolves w₁ j)) (a.none o.long j)

  spare_is : Spare count w₂ s.containers
  spare_is j h = marks_are j ∙ ap (λ (t : Bool). t && row_resolves w₁ j) (lt-ltb j count h) ∙ row_resolves_lem cleared j h

  spare_ids : (j : ℕ) → j < count → member (contained_in w₂) 128 j ≡ is_in (id_at s.containers j) (resolved_ids s.containers)
  spare_ids j h = spare_is j h ∙ sym (resolved_row s.containers o.counted o.distinct j h)

  -- row 128 is empty where the round resolves nothing
  spare_empty : resolved_ids s.containers ≡ [] → vacant (contained_in w₂) 128 ≡ true
  spare_empty e = vacant_all (contained_in w₂) 128 (λ j l. one j (dec_lt j count))
    where
      one : (j : ℕ) → Dec (j < count) → member (contained_in w₂) 128 j ≡ false
      one j (yes h) = spare_ids j h ∙ in_none (id_at s.containers j) (resolved_ids s.containers) e
      one j (no h) = marks_are j ∙ ap (λ (t : Bool). t && row_resolves w₁ j) (le-ltb j count (omega arith))

  spare_full : (i : ℕ) (ids : List ℕ) → resolved_ids s.containers ≡ i ∷ ids → vacant (contained_in w₂) 128 ≡ false
  spare_full i ids e =
      let few = o.few in
      let n = o.counted in
      let r = resolved_in s.containers i (ap (is_in i) e ∙ in_hit i i ids refl) in
      let h = r.below in
      vacant_some (contained_in w₂) 128 r.row (omega arith) (spare_is r.row (omega arith) ∙ r.yes)

  round_over : {d : ℕ} {t : Bool} → NoneMarked w₂ t → t ≡ true → Rounded count d s false w₂
  round_over {d} {t} m e = go (resolved_ids s.containers) refl
    where
      go : (l : List ℕ) → resolved_ids s.containers ≡ l → Rounded count d s false w₂
      go [] f = over f marked_all
      go (i ∷ ids) f = absurd (true_not_false (sym (m.is marked_all.long) ∙ e) (spare_full i ids f))

  round_goes : {d : ℕ} {t : Bool} {w₃ w₄ : List ℕ} → d < count → NoneMarked w₂ t → t ≡ false → DeepensMarked count d w₂ w₃ → Releases count w₃ w₄ → Rounded count d s true w₄
  unfolding with_containers
  round_goes {d} {t} {w₃} {w₄} h m e p q = go (resolved_ids s.containers) refl
    where
      go : (l : List ℕ) → resolved_ids s.containers ≡ l → Rounded count d s true w₄
      go [] f = absurd (true_not_false (spare_empty f) (sym (m.is marked_all.long) ∙ e))
      go (i ∷ ids) f =
          let few = o.few in
          let n = o.counted in
          let deep : Holds count w₃ (with_containers s (map (deepened d) s.containers)) = holds_deepened marked_all spare_is (omega arith) p in
          let all = p.all marked_all.long o.few (omega arith) in
          let spare : (j : ℕ) → j < count → member (contained_in w₃) 128 j ≡ is_in (id_at (map (deepened d) s.containers) j) (i ∷ ids) = λ j l.
          ap (λ (v : List ℕ). member v 128 j) all.contained ∙ spare_ids j l ∙ ap (is_in (id_at s.containers j)) f ∙ sym (ap (λ (k : ℕ). is_in k (i ∷ ids)) (id_map (record { kept = λ c. refl }) s.containers j (omega arith))) in
          goes i ids f (subst (λ (cs : List (Container Spot)). Holds count w₄ (with_containers s cs)) (settled_is d (i ∷ ids) s.containers) (holds_released (i ∷ ids) deep spare q))

-- round

pub round_none : {count d : ℕ} {w w₁ w₂ : List ℕ} {t : Bool} → Clears w w₁ → MarksAll count w₁ w₂ → NoneMarked w₂ t → t ≡ true → Round count d w false w₂
round_none a b m e = record { long = b.long ∙ a.long; rounds = λ s o h. round_over o a b m e }

pub round_some : {count d : ℕ} {w w₁ w₂ w₃ w₄ : List ℕ} {t : Bool} → Clears w w₁ → MarksAll count w₁ w₂ → NoneMarked w₂ t → t ≡ false → DeepensMarked count d w₂ w₃ → Releases count w₃ w₄ → Round count d w true w₄
round_some a b m e p q = record { long = q.long ∙ p.long ∙ b.long ∙ a.long; rounds = λ s o h. round_goes o a b h m e p q }

-- THE ROUNDS

rounds_over : (n d : ℕ) (cs : List (Container Spot)) → resolved_ids cs ≡ [] → rounds n d cs ≡ cs
unfolding rounds
rounds_over zero d cs e = refl
rounds_over (suc n) d cs e = rw (e, rounds)

rounds_goes : (n d i : ℕ) (ids : List ℕ) (cs : List (Container Spot)) → resolved_ids cs ≡ i ∷ ids → rounds (suc n) d cs ≡ rounds n (d + 1) (map (settled d (i ∷ ids)) cs)
unfolding rounds
rounds_goes n d i ids cs e = rw (e, rounds)

-- the loop: the rounds that are left come to what all rounds come to
pub record Reached (count : ℕ) (w : List ℕ) (s : Containment Spot) (d : ℕ) : Type 0 where
  pub cs : List (Container Spot)
  pub holds : Holds count w (with_containers s cs)
  pub same : rounds (count - d) d cs ≡ rounds (length s.containers) 0 s.containers

pub record Going (count : ℕ) (w₀ w : List ℕ) (d : ℕ) : Type 0 where
  pub long : length w ≡ length w₀
  pub going : (s : Containment Spot) → Holds count w₀ s → Reached count w s d

pub going_start : {count : ℕ} {w : List ℕ} → Going count w w 0
unfolding with_containers
going_start {count} = record { long = refl; going = λ s o. let e : count - 0 ≡ length s.containers = omega (arith, o.counted) in record { cs = s.containers; holds = o; same = ap (λ (n : ℕ). rounds n 0 s.containers) e } }

pub going_more : {count d : ℕ} {w₀ w w' : List ℕ} {b : Bool} → Going count w₀ w d → d < count → Round count d w b w' → b ≡ true → Going count w₀ w' (d + 1)
unfolding with_containers
going_more {count} {d} {w₀} {w} {w'} {b} o h n e = record { long = n.long ∙ o.long; going = λ s k. let r = o.going s k in go s r (n.rounds (with_containers s r.cs) r.holds h) e }
  where
    go : (s : Containment Spot) (r : Reached count w s d) {b : Bool} → Rounded count d (with_containers s r.cs) b w' → b ≡ true → Reached count w' s (d + 1)
    go s r (over f q) e = absurd (true_not_false e refl)
    go s r (goes i ids f q) e =
        let z : count - d ≡ suc (count - (d + 1)) = omega arith in
        record { cs = map (settled d (i ∷ ids)) r.cs; holds = q; same = sym (ap (λ (n : ℕ). rounds n d r.cs) z ∙ rounds_goes (count - (d + 1)) d i ids r.cs f) ∙ r.same }

pub going_over : {count d : ℕ} {w₀ w w' : List ℕ} {b : Bool} → Going count w₀ w d → d < count → Round count d w b w' → b ≡ false → Rounds count w₀ w'
unfolding with_containers
going_over {count} {d} {w₀} {w} {w'} {b} o h n e = record { long = n.long ∙ o.long; rounds = λ s k. let r = o.going s k in go s r (n.rounds (with_containers s r.cs) r.holds h) e }
  where
    go : (s : Containment Spot) (r : Reached count w s d) {b : Bool} → Rounded count d (with_containers s r.cs) b w' → b ≡ false → Holds count w' (with_containers s (rounds (length s.containers) 0 s.containers))
    go s r (over f q) e = subst (λ (cs : List (Container Spot)). Holds count w' (with_containers s cs)) (sym (rounds_over (count - d) d r.cs f) ∙ r.same) q
    go s r (goes i ids f q) e = absurd (true_not_false refl e)

pub going_done : {count d : ℕ} {w₀ w : List ℕ} → Going count w₀ w d → count ≤ d → Rounds count w₀ w
unfolding rounds
going_done {count} {d} {w₀} {w} o h = record { long = o.long; rounds = λ s k. let r = o.going s k in let z : count - d ≡ 0 = omega arith in subst (λ (cs : List (Container Spot)). Holds count w (with_containers s cs)) (sym (ap (λ (n : ℕ). rounds n d r.cs) z) ∙ r.same) r.holds }

-- determine_container_depths

pub determines_is : {count : ℕ} {w w₁ w₂ : List ℕ} → Rounds count w w₁ → PoisonsRest count w₁ w₂ → Determines count w w₂
unfolding with_containers determine_container_depths or_poisoned or_one
determines_is a b = record {
  long = b.long ∙ a.long;
  determines = λ s o. let k = a.rounds s o in holds_deeper k b.long (b.all k.long k.few) (record { keeps = record { kept = λ c. refl }; kind = λ c. refl; ids = λ c. refl; depth = λ r h. one r (at (rounds (length s.containers) 0 s.containers) r).depth });
}
  where
    one : (r v : ℕ) → elim v [ zero ↦ 1 | suc n ↦ suc n ] ≡ or_one r v
    one r zero = refl
    one r (suc v) = refl

-- container_depth

obtain_at : (cs : List (Container Spot)) (i : Ident Spot) (c : ℕ) → c < length cs → ((r : ℕ) → r < c → id_at cs r ≡ id_at cs c → ⊥) → i.id ≡ id_at cs c → obtain_container_depth i cs ≡ (at cs c).depth
unfolding obtain_container_depth id_at at
obtain_at [] i c h d e = absurd (not-suc-le-zero h)
obtain_at (o ∷ cs) i zero h d e = rw (eq-eqb (id_of o) i.id (sym e), obtain_container_depth)
obtain_at (o ∷ cs) i (suc c) h d e = rw (ne_eqb (id_of o) i.id (λ z. d 0 (omega arith) (z ∙ e)), obtain_container_depth) (obtain_at cs i c (le_of_suc-le-suc h) (λ r l q. d (suc r) (omega arith) q) e)

pub depth_high : {row : ℕ} {w : List ℕ} → 128 ≤ row → TellsDepth row w 0
depth_high h = record { tells = λ s count o l. let few = o.few in absurd (omega arith) }

pub depth_is : {row x : ℕ} {w : List ℕ} → x ≡ get_or w (512 + row) 0 → TellsDepth row w x
depth_is {row} e = record { tells = λ s count o l i q. let n = o.counted in e ∙ (o.rows row l).depth ∙ sym (obtain_at s.containers i row (omega arith) (λ r k z. let f : r ≡ row = o.distinct r row (omega arith) l z in omega arith) q) }
