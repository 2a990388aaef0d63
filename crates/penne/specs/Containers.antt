-- variable_references.rs: containment of constants and structures, and their depths.
use Rattle.std.specs.Prelude.{ℕ, zero, suc, ◌+◌, Bool, true, false, ◌&&◌, not, List, [], ◌∷◌, ◌++◌, map, length, eqb}
use Rattle.std.proofs.Math.Option.{Option, none, some}
use Rattle.penne.specs.Find.{first, keep, is_in, union, minus}
use Rattle.penne.specs.State.{State, ret, ◌>>?◌}
use Rattle.penne.specs.Tree.{Ident, Poison, poison, Maybe, ok, err, Ty, plain, array, array_with_named_length, arraylike, struct, word, unresolved, nameless, pointer, view}

-- struct Container; its depth as the tree numbers it: 0 none, 1 poisoned, 2 + d
pub record Container (P : Type 0) : Type 0 where
  pub identifier : Ident P
  pub contained_ids : List ℕ
  pub depth : ℕ
  pub is_structure : Bool

-- containers and in_constexpr_of_constant of struct Analyzer; beside them every edge handed to found_container_1, container then containee, which no answer looks at
pub record Containment (P : Type 0) : Type 0 where
  pub containers : List (Container P)
  pub in_constexpr_of_constant : Option (Ident P)
  pub edges : List (ℕ × ℕ)

-- other containers
unfoldable pub with_containers : {P : Type 0} → Containment P → List (Container P) → Containment P
with_containers s cs = record { containers = cs; in_constexpr_of_constant = s.in_constexpr_of_constant; edges = s.edges }

-- containers with one more, as declare_constant and declare_struct push it
unfoldable pub push_container : {P : Type 0} → Bool → Ident P → Containment P → Containment P
push_container structure i s = with_containers s (s.containers ++ (record { identifier = i; contained_ids = []; depth = 0; is_structure = structure } ∷ []))

-- a container's identifier
unfoldable pub identifier_of : {P : Type 0} → Container P → Ident P
identifier_of c = c.identifier

-- a container's resolution_id
unfoldable pub id_of : {P : Type 0} → Container P → ℕ
id_of c = c.identifier.id

-- the identifiers of the structures, in predeclaration order
unfoldable pub structures : {P : Type 0} → List (Container P) → List (Ident P)
structures cs = map identifier_of (keep (λ c. c.is_structure) cs)

-- the identifiers of the constants, in predeclaration order
unfoldable pub constants : {P : Type 0} → List (Container P) → List (Ident P)
constants cs = map identifier_of (keep (λ c. not c.is_structure) cs)

-- contained_ids of the container with this id
unfoldable pub contained_ids_of : {P : Type 0} → ℕ → List (Container P) → List ℕ
contained_ids_of id [] = []
contained_ids_of id (c ∷ cs) = elim (eqb (id_of c) id) [ true ↦ c.contained_ids | false ↦ contained_ids_of id cs ]

-- a container with these ids joined to its contained_ids, where a test says so
unfoldable pub joined : {P : Type 0} → Bool → List ℕ → Container P → Container P
joined true ids c = record { identifier = c.identifier; contained_ids = union c.contained_ids ids; depth = c.depth; is_structure = c.is_structure }
joined false ids c = c

-- the same of every container that passes a test
unfoldable pub join_where : {P : Type 0} → (Container P → Bool) → List ℕ → List (Container P) → List (Container P)
join_where test ids cs = map (λ c. joined (test c) ids c) cs

-- "Kind 16 names the first constant, in predeclaration order, in the container's set"
unfoldable pub constant_in_cycle : {P : Type 0} → List ℕ → List (Container P) → Option (Ident P)
constant_in_cycle cycle cs = first (λ i. is_in i.id cycle) (constants cs)

-- CyclicalStructureWithConstant (16) or CyclicalStructure (15) of the structure c at its member m, by what constant_in_cycle found
unfoldable pub cyclical_structure : {P : Type 0} → Ident P → Ident P → Option (Ident P) → Poison P
cyclical_structure c m (some k) = poison 16 (c.name ∷ k.name ∷ []) (c.place ∷ m.place ∷ k.place ∷ [])
cyclical_structure c m none = poison 15 (c.name ∷ []) (c.place ∷ m.place ∷ [])

-- the error of a container c that now contains itself: without a member it is a constant's, CyclicalConstant (14)
unfoldable pub cyclical : {P : Type 0} → Ident P → Option (Ident P) → List (Container P) → Poison P
cyclical c (some m) cs = cyclical_structure c m (constant_in_cycle (contained_ids_of c.id cs) cs)
cyclical c none cs = poison 14 (c.name ∷ []) (c.place ∷ [])

-- found_container_1 after the ids are joined to the container's, by whether it contains itself now; if not, all that contain it take the ids too
unfoldable pub added_ids : {P : Type 0} → Ident P → Option (Ident P) → Ident P → List ℕ → Bool → List (Container P) → Maybe P (Ident P) × List (Container P)
added_ids c m x ids true cs = (err (cyclical c m cs), cs)
added_ids c m x ids false cs = (ok x, join_where (λ o. is_in c.id o.contained_ids) ids cs)

-- found_container_1, by whether the container contains itself already ("Edges on an already self-containing container are Poisoned."); ids are the containee and all that it contains
unfoldable pub add_ids : {P : Type 0} → Ident P → Option (Ident P) → Ident P → List ℕ → Bool → List (Container P) → Maybe P (Ident P) × List (Container P)
add_ids c m x ids true cs = (err (poison 0 [] []), cs)
add_ids c m x ids false cs =
    let cs' = join_where (λ o. eqb (id_of o) c.id) ids cs in
    added_ids c m x ids (is_in c.id (contained_ids_of c.id cs')) cs'

-- found_container_1 of the container c, its member m if it is a structure, and the containee x
unfoldable pub found_container_1 : {P : Type 0} → Ident P → Option (Ident P) → Ident P → State (Containment P) (Maybe P (Ident P))
found_container_1 c m x = λ s.
    let ids = union (contained_ids_of x.id s.containers) (x.id ∷ []) in
    let (r, cs) = add_ids c m x ids (is_in c.id (contained_ids_of c.id s.containers)) s.containers in
    (r, record { containers = cs; in_constexpr_of_constant = s.in_constexpr_of_constant; edges = s.edges ++ ((c.id, x.id) ∷ []) })

-- found_container of a type that is no poison; it "ignores Pointer and View", and row 9 keeps kind 23 away
unfoldable pub found_container : {P : Type 0} → Ident P → Option (Ident P) → Ty P → State (Containment P) (Maybe P (Ty P))
found_container c m (plain k) = ret (ok (plain k))
found_container c m (array t n) = found_container c m t >>? λ t'. ret (ok (array t' n))
found_container c m (array_with_named_length t i) = found_container c m t >>? λ t'. found_container_1 c m i >>? λ i'. ret (ok (array_with_named_length t' i'))
found_container c m (arraylike k t) = found_container c m t >>? λ t'. ret (ok (arraylike k t'))
found_container c m (struct i) = found_container_1 c m i >>? λ i'. ret (ok (struct i'))
found_container c m (word i n) = found_container_1 c m i >>? λ i'. ret (ok (word i' n))
found_container c m (unresolved i) = found_container_1 c m i >>? λ i'. ret (ok (unresolved i'))
found_container c m nameless = ret (ok nameless)
found_container c m (pointer t) = ret (ok (pointer t))
found_container c m (view t) = ret (ok (view t))

-- DEPTHS

-- a container that a round of determine_container_depths resolves: no depth yet, and nothing contained any more
unfoldable pub resolves : {P : Type 0} → Container P → Bool
resolves c = eqb c.depth 0 && eqb (length c.contained_ids) 0

-- what the round at depth d makes of a container; ids are all that the round resolves
unfoldable pub settled : {P : Type 0} → ℕ → List ℕ → Container P → Container P
settled d ids c = record {
  identifier = c.identifier;
  contained_ids = minus c.contained_ids ids;
  depth = elim (resolves c) [ true ↦ 2 + d | false ↦ c.depth ];
  is_structure = c.is_structure;
}

-- the rounds from depth d on, until one resolves nothing, with so many left
unfoldable pub rounds : {P : Type 0} → (left d : ℕ) → List (Container P) → List (Container P)
rounds zero d cs = cs
rounds (suc n) d cs = elim (map id_of (keep resolves cs)) [
  | [] ↦ cs
  | id ∷ ids ↦ rounds n (d + 1) (map (settled d (id ∷ ids)) cs)
]

-- after the rounds: what has no depth is poisoned
unfoldable pub or_poisoned : {P : Type 0} → Container P → Container P
or_poisoned c = record { identifier = c.identifier; contained_ids = c.contained_ids; depth = elim c.depth [ zero ↦ 1 | suc n ↦ suc n ]; is_structure = c.is_structure }

-- determine_container_depths: as many rounds as there are containers, at most
unfoldable pub determine_container_depths : {P : Type 0} → List (Container P) → List (Container P)
determine_container_depths cs = map or_poisoned (rounds (length cs) 0 cs)

-- obtain_container_depth
unfoldable pub obtain_container_depth : {P : Type 0} → Ident P → List (Container P) → ℕ
obtain_container_depth i [] = 0
obtain_container_depth i (c ∷ cs) = elim (eqb (id_of c) i.id) [ true ↦ c.depth | false ↦ obtain_container_depth i cs ]
