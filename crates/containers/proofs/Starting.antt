-- A table of zeros holds nothing, and what a caller wants to know of the containers after a call.
use mathlib.Core.Path.{◌≡◌, refl, ap, ◌∙◌}
use mathlib.Core.Bool.{Bool, true, false, ◌&&◌}
use mathlib.Core.List.{List, [], ◌∷◌, map}
use mathlib.Core.Option.{Option}
use Prim.Native.Nat.{ℕ, zero, suc, ◌+◌, ◌%◌, ◌^◌, ◌<◌}
use native.Mathlib.Nat.{zero-div}
use native.Mathlib.Decide.{dec_lt}
use native.Mathlib.Omega.{arith}
use lib.Dec.{eqb, ltb}
use lib.ListN.{length, get_or, take, drop, length-map, length-take, get_or-eq_default}
use lib.Seq.{get_or-take, get_or-drop}
use Rattle.memory.specs.Rows.{member, bit, word_of}
use Rattle.penne.specs.Tree.{Spot, Ident}
use Rattle.penne.specs.Find.{is_in, keep}
use Rattle.penne.specs.Containers.{Container, Containment, id_of, with_containers, push_container, contained_ids_of, joined, join_where, added_ids, add_ids, found_container_1, resolves, settled, rounds, or_poisoned, determine_container_depths}
use Rattle.penne.proofs.Booleans.{and-false}
use Rattle.containers.specs.Table.{at, id_at, contained_in, edges_in, is_edge, Holds}
use Rattle.containers.specs.Functions.{HoldsFunctions}
use Rattle.containers.proofs.Lists.{at_map, at_before, at_last, true_not_false}
use Rattle.containers.proofs.Changing.{joined_keeps}
use Rattle.containers.proofs.Parts.{contained_long, edges_long}

-- ZEROS

-- words that are 0 have no members
zero_member : (w : List ℕ) → ((p : ℕ) → get_or w p 0 ≡ 0) → (i j : ℕ) → member w i j ≡ false
unfolding member
zero_member w z i j = ap (λ (x : ℕ). ltb j 128 && eqb (bit x (j % 32)) 1) (z (word_of i j)) ∙ ap (λ (x : ℕ). ltb j 128 && eqb (x % 2) 1) (zero-div (2 ^ (j % 32))) ∙ and-false (ltb j 128)

-- a part of them is 0 too
zero_part : (a k : ℕ) (w : List ℕ) → ((p : ℕ) → get_or w p 0 ≡ 0) → (p : ℕ) → get_or (take k (drop a w)) p 0 ≡ 0
zero_part a k w z p = go (dec_lt p k)
  where
    go : Dec (p < k) → get_or (take k (drop a w)) p 0 ≡ 0
    go (yes h) = get_or-take k (drop a w) p 0 h ∙ get_or-drop a w p 0 ∙ z (a + p)
    go (no h) = get_or-eq_default (take k (drop a w)) 0 (omega (arith, length-take k (drop a w)))

-- the table that a walk begins with
pub holds_none : {w : List ℕ} (i : Option (Ident Spot)) → length w ≡ 1668 → ((p : ℕ) → get_or w p 0 ≡ 0) → Holds 0 w (record { containers = []; in_constexpr_of_constant = i; edges = [] })
unfolding contained_in edges_in is_edge
holds_none {w} i long z = record {
  counted = refl;
  few = omega arith;
  long = long;
  distinct = λ i j h. absurd (omega arith);
  rows = λ r h. absurd (omega arith);
  sets = record {
    long = contained_long w long;
    bits = λ r j h. absurd (omega arith);
    past = λ r j h. absurd (omega arith);
    free = λ r j h l. zero_member (contained_in w) (zero_part 640 516 w z) r j;
    closed = λ r i h. absurd (omega arith);
  };
  edges = record {
    long = edges_long w long;
    bits = λ r j h. absurd (omega arith);
    free = λ r j d. zero_member (edges_in w) (zero_part 1156 512 w z) r j;
    closed = λ a b e. absurd (true_not_false e refl);
  };
}

pub holds_no_function : {w : List ℕ} → length w ≡ 768 → HoldsFunctions 0 w []
holds_no_function long = record { counted = refl; few = omega arith; long = long; rows = λ r h. absurd (omega arith) }

-- a table does not say in whose value the walk is
pub holds_in : {count : ℕ} {w : List ℕ} {s : Containment Spot} (i : Option (Ident Spot)) → Holds count w s → Holds count w (record { containers = s.containers; in_constexpr_of_constant = i; edges = s.edges })
holds_in i o = record { counted = o.counted; few = o.few; long = o.long; distinct = o.distinct; rows = o.rows; sets = o.sets; edges = o.edges }

-- EVERY ROW KEEPS ITS IDENTIFIER

-- the containers cs' are cs, changed but for their identifiers
pub record Kept (cs cs' : List (Container Spot)) : Type 0 where
  pub long : length cs' ≡ length cs
  pub same : (r : ℕ) → r < length cs → (at cs' r).identifier ≡ (at cs r).identifier

pub kept_id : {cs cs' : List (Container Spot)} → Kept cs cs' → (r : ℕ) → r < length cs → id_at cs' r ≡ id_at cs r
unfolding id_at id_of
kept_id k r h = ap (λ (i : Ident Spot). i.id) (k.same r h)

pub kept_all : (cs : List (Container Spot)) → Kept cs cs
kept_all cs = record { long = refl; same = λ r h. refl }

pub kept_then : {a b c : List (Container Spot)} → Kept a b → Kept b c → Kept a c
kept_then {a} {b} {c} k l = let e = k.long in record { long = l.long ∙ e; same = λ r h. l.same r (omega arith) ∙ k.same r h }

kept_map : (f : Container Spot → Container Spot) (cs : List (Container Spot)) → ((c : Container Spot) → (f c).identifier ≡ c.identifier) → Kept cs (map f cs)
kept_map f cs e = record { long = length-map cs f; same = λ r h. ap (λ (c : Container Spot). c.identifier) (at_map f cs r h) ∙ e (at cs r) }

kept_joined : (test : Container Spot → Bool) (ids : List ℕ) (cs : List (Container Spot)) → Kept cs (join_where test ids cs)
unfolding join_where
kept_joined test ids cs = kept_map (λ c. joined (test c) ids c) cs (joined_keeps test ids).kept

added_kept : (c : Ident Spot) (m : Option (Ident Spot)) (x : Ident Spot) (ids : List ℕ) (b : Bool) (cs : List (Container Spot)) → Kept cs (added_ids c m x ids b cs).1
unfolding added_ids
added_kept c m x ids true cs = kept_all cs
added_kept c m x ids false cs = kept_joined (λ o. is_in c.id o.contained_ids) ids cs

add_kept : (c : Ident Spot) (m : Option (Ident Spot)) (x : Ident Spot) (ids : List ℕ) (b : Bool) (cs : List (Container Spot)) → Kept cs (add_ids c m x ids b cs).1
unfolding add_ids
add_kept c m x ids true cs = kept_all cs
add_kept c m x ids false cs =
    let cs' : List (Container Spot) = join_where (λ o. eqb (id_of o) c.id) ids cs in
    kept_then (kept_joined (λ o. eqb (id_of o) c.id) ids cs) (added_kept c m x ids (is_in c.id (contained_ids_of c.id cs')) cs')

-- after found_container_1
pub found_kept : (c : Ident Spot) (m : Option (Ident Spot)) (x : Ident Spot) (s : Containment Spot) → Kept s.containers (found_container_1 c m x s).1.containers
unfolding found_container_1
found_kept c m x s = add_kept c m x _ (is_in c.id (contained_ids_of c.id s.containers)) s.containers

rounds_kept : (n d : ℕ) (cs : List (Container Spot)) → Kept cs (rounds n d cs)
unfolding rounds settled
rounds_kept zero d cs = kept_all cs
rounds_kept (suc n) d cs = (elim (map id_of (keep resolves cs)) as (λ l. Kept cs (elim l [ [] ↦ cs | id ∷ ids ↦ rounds n (d + 1) (map (settled d (id ∷ ids)) cs) ])) [
  | [] ↦ kept_all cs
  | id ∷ ids ↦ kept_then (kept_map (settled d (id ∷ ids)) cs (λ c. refl)) (rounds_kept n (d + 1) (map (settled d (id ∷ ids)) cs))
])

-- after determine_container_depths
pub depths_kept : (cs : List (Container Spot)) → Kept cs (determine_container_depths cs)
unfolding determine_container_depths or_poisoned
depths_kept cs = kept_then (rounds_kept (length cs) 0 cs) (kept_map or_poisoned (rounds (length cs) 0 cs) (λ c. refl))

-- after push_container
pub push_kept : (structure : Bool) (i : Ident Spot) (s : Containment Spot) (r : ℕ) → r < length s.containers → at (push_container structure i s).containers r ≡ at s.containers r
unfolding push_container with_containers
push_kept structure i s r h = at_before s.containers _ r h

pub push_last : (structure : Bool) (i : Ident Spot) (s : Containment Spot) → (at (push_container structure i s).containers (length s.containers)).identifier ≡ i
unfolding push_container with_containers
push_last structure i s = ap (λ (c : Container Spot). c.identifier) (at_last s.containers _)
