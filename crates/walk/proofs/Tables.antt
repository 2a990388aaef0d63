-- A table of the work words is changed, and the others stay: what the tables stand for afterwards.
use mathlib.Core.Path.{◌≡◌, refl, sym, ap, subst, ◌∙◌}
use mathlib.Core.Bool.{Bool, true, false, not}
use mathlib.Core.List.{List, [], ◌∷◌, map}
use mathlib.Core.Option.{Option}
use Prim.Native.Nat.{ℕ, ◌+◌, ◌-◌, ◌≤◌, ◌<◌}
use native.Mathlib.Omega.{arith}
use lib.ListN.{length, get_or, take, drop, length-drop}
use lib.Dec.{T, eqb, ltb, ltb→lt, nltb→le}
use lib.Seq.{drop-drop, length-take-le, get_or-take, get_or-drop}
use borrow.Rule.Slice.PartMut.{put_mid, same_len_mid}
use Rattle.std.specs.Prelude as Rust
use Rattle.std.specs.Prelude.{Some}
use Rattle.penne.specs.Tree.{Spot, Ident}
use Rattle.penne.specs.Find.{keep}
use Rattle.penne.specs.Containers.{Container, Containment, identifier_of, structures, constants, joined, join_where, added_ids, add_ids, contained_ids_of, id_of, found_container_1}
use Rattle.penne.specs.Find.{is_in}
use Rattle.penne.specs.Scopes.{Analyzer, with_containment}
use Rattle.fields.specs.declared.counts.Counts as K
use Rattle.scopes.specs.Table.{Keeps}
use Rattle.scopes.specs.Mirror.{Mirrors}
use Rattle.scopes.proofs.Analyzing.{mirrors_containment}
use Rattle.scopes.specs.Labels as L
use Rattle.containers.specs.Table.{id_at, Holds}
use Rattle.containers.specs.Calls.{of_kind}
use Rattle.containers.specs.Functions.{HoldsFunctions}
use Rattle.containers.proofs.Parts.{put_part, put_before, put_behind}
use Rattle.containers.proofs.Starting.{Kept, kept_id, found_kept}
use Rattle.walk.specs.declared.state.Script.{Script}
use Rattle.walk.specs.declared.state.Tables as W
use Rattle.walk.specs.Walking.{scopes_in, containers_in, functions_in, Whose, nobody, somebody, Early, Tables, Lower, Rest, Marks}
use Rattle.walk.proofs.Early.{early_containment}

-- PARTS OF THE WORK WORDS

module _ (w ys : List ℕ) (long : 16384 ≤ length w) where
  -- other scopes
  module _ (e : length ys ≡ 11264) where
    behind_scopes : drop 13312 (put_mid 2048 11264 w ys) ≡ drop 13312 w
    behind_scopes = put_behind 2048 11264 w ys (omega arith) e

    pub scopes_here : scopes_in (put_mid 2048 11264 w ys) ≡ ys
    scopes_here = put_part 2048 11264 w ys (omega arith) e

    pub scopes_containers : containers_in (put_mid 2048 11264 w ys) ≡ containers_in w
    scopes_containers = ap (take 1668) behind_scopes

    pub scopes_functions : functions_in (put_mid 2048 11264 w ys) ≡ functions_in w
    scopes_functions = ap (take 768) (sym (drop-drop 1668 13312 (put_mid 2048 11264 w ys)) ∙ ap (drop 1668) behind_scopes ∙ drop-drop 1668 13312 w)

    pub scopes_long : length (put_mid 2048 11264 w ys) ≡ length w
    scopes_long = same_len_mid 2048 11264 w ys (e ∙ sym (length-take-le 11264 (drop 2048 w) (omega (arith, length-drop 2048 w))))

  -- other containers
  module _ (e : length ys ≡ 1668) where
    behind_containers : drop 14980 (put_mid 13312 1668 w ys) ≡ drop 14980 w
    behind_containers = put_behind 13312 1668 w ys (omega arith) e

    pub containers_here : containers_in (put_mid 13312 1668 w ys) ≡ ys
    containers_here = put_part 13312 1668 w ys (omega arith) e

    pub containers_scopes : scopes_in (put_mid 13312 1668 w ys) ≡ scopes_in w
    containers_scopes = put_before 13312 1668 w ys (omega arith) e 2048 11264 (omega arith)

    pub containers_functions : functions_in (put_mid 13312 1668 w ys) ≡ functions_in w
    containers_functions = ap (take 768) behind_containers

    pub containers_long : length (put_mid 13312 1668 w ys) ≡ length w
    containers_long = same_len_mid 13312 1668 w ys (e ∙ sym (length-take-le 1668 (drop 13312 w) (omega (arith, length-drop 13312 w))))

-- WHAT THE SECOND PASS ONLY READS

-- a word of a part
pub part_word : (from n : ℕ) (w : List ℕ) (i : ℕ) → i < n → get_or (take n (drop from w)) i 0 ≡ get_or w (from + i) 0
part_word from n w i h = get_or-take n (drop from w) i 0 h ∙ get_or-drop from w i 0

same_part : (from n : ℕ) (w w' : List ℕ) → take n (drop from w') ≡ take n (drop from w) → (i : ℕ) → from ≤ i → i < from + n → get_or w' i 0 ≡ get_or w i 0
same_part from n w w' e i l h =
    let k : ℕ = i - from in
    let q : from + k ≡ i = omega arith in
    ap (λ (x : ℕ). get_or w' x 0) (sym q) ∙ sym (part_word from n w' k (omega arith)) ∙ ap (λ (x : List ℕ). get_or x k 0) e ∙ part_word from n w k (omega arith) ∙ ap (λ (x : ℕ). get_or w x 0) q

pub lower_scopes : (w ys : List ℕ) → 16384 ≤ length w → Keeps (scopes_in w) ys → Lower w (put_mid 2048 11264 w ys)
lower_scopes w ys long k = record { same = λ i h. go i h (ltb i 2048) refl }
  where
    e : length ys ≡ 11264
    e = k.long ∙ length-take-le 11264 (drop 2048 w) (omega (arith, length-drop 2048 w))

    go : (i : ℕ) → i < 4096 → (b : Bool) → ltb i 2048 ≡ b → get_or (put_mid 2048 11264 w ys) i 0 ≡ get_or w i 0
    go i h true q = same_part 0 2048 w (put_mid 2048 11264 w ys) (put_before 2048 11264 w ys (omega arith) e 0 2048 (omega arith)) i (omega arith) (omega (arith, ltb→lt i 2048 (subst (λ (x : Bool). T x) (sym q) tt)))
    go i h false q =
        let m : ℕ = i - 2048 in
        let l : 2048 ≤ i = nltb→le i 2048 (subst (λ (x : Bool). T (not x)) (sym q) tt) in
        let r : 2048 + m ≡ i = omega arith in
        ap (λ (x : ℕ). get_or (put_mid 2048 11264 w ys) x 0) (sym r) ∙ sym (part_word 2048 11264 (put_mid 2048 11264 w ys) m (omega arith)) ∙ ap (λ (x : List ℕ). get_or x m 0) (scopes_here w ys long e)
        ∙ k.labels m (omega arith) ∙ part_word 2048 11264 w m (omega arith) ∙ ap (λ (x : ℕ). get_or w x 0) r

pub lower_containers : (w ys : List ℕ) → 16384 ≤ length w → length ys ≡ 1668 → Lower w (put_mid 13312 1668 w ys)
lower_containers w ys long e = record { same = λ i h. same_part 0 13312 w (put_mid 13312 1668 w ys) (put_before 13312 1668 w ys (omega arith) e 0 13312 (omega arith)) i (omega arith) (omega arith) }

named_kept : {w w' : List ℕ} → Lower w w' → (k : ℕ) (is : List (Ident Spot)) → k + length is ≤ 1025 → {n : ℕ} → L.Along (L.Named w) k is n → L.Along (L.Named w') k is n
named_kept h k [] few L.stop = L.stop
named_kept h k (i ∷ is) few (L.step p q) = L.step (record { name = h.same (2047 + k) (omega arith) ∙ p.name; place = h.same (3071 + k) (omega arith) ∙ p.place }) (named_kept h (k + 1) is (omega arith) q)

pub marks_kept : {n : K.Counts} {w w' : List ℕ} {m : Rest} → Lower w w' → Marks n w m → Marks n w' m
marks_kept {n} {m = m} h k =
    let few = k.labels in
    record { told = λ i l. h.same (n.statements + i) (omega arith) ∙ k.told i l; named = named_kept h 1 m.labels (omega arith) k.named; labels = k.labels; containers = k.containers; functions = k.functions; main = k.main }

-- THE OTHER TABLES STAY

-- the scopes are changed, or an id was taken
module _ {t : W.Tables} {k : Script} {n : K.Counts} {w : List ℕ} {a : Analyzer Spot} (h : Tables t k n w a) where
  pub scopes_changed : {ys : List ℕ} {t' : W.Tables} (a' : Analyzer Spot) → length ys ≡ 11264 → Mirrors t'.scope ys a' → a'.containment ≡ a.containment → a'.function_list ≡ a.function_list → a'.variable_stack.constants ≡ a.variable_stack.constants
      → t'.next_id ≡ a'.resolution_id → a.resolution_id ≤ a'.resolution_id → t'.constant ≡ t.constant → length a'.variable_stack.locals ≤ n.entries
      → Early k.containers a' → ((r : ℕ) → t.constant ≡ Some r → length a.variable_stack.locals ≡ 0 → length a'.variable_stack.locals ≡ 0) → Tables t' k n (put_mid 2048 11264 w ys) a'
  scopes_changed {ys} {t'} a' e m c f v x g q z y b =
      let long = h.long in
      record {
        long = omega (arith, scopes_long w ys long e);
        scopes = subst (λ (l : List ℕ). Mirrors t'.scope l a') (sym (scopes_here w ys long e)) m;
        containers = subst (λ (l : List ℕ). Holds k.containers l a'.containment) (sym (scopes_containers w ys long e)) (subst (λ (s : Containment Spot). Holds k.containers (containers_in w) s) (sym c) h.containers);
        functions = subst (λ (l : List ℕ). HoldsFunctions k.functions l a'.function_list) (sym (scopes_functions w ys long e)) (subst (λ (fs : List (Ident Spot)). HoldsFunctions k.functions (functions_in w) fs) (sym f) h.functions);
        layer = v ∙ h.layer ∙ ap (λ (s : Containment Spot). constants s.containers) (sym c);
        next = x;
        given = λ r l. let u = h.given r l in let i : id_at a'.containment.containers r ≡ id_at a.containment.containers r = ap (λ (s : Containment Spot). id_at s.containers r) c in omega arith;
        whose = subst (λ (s : Containment Spot). Whose s.containers k.containers t'.constant s.in_constexpr_of_constant) (sym c) (subst (λ (j : Rust.Option ℕ). Whose a.containment.containers k.containers j a.containment.in_constexpr_of_constant) (sym q) h.whose);
        names = h.names;
        entries = z;
        early = y;
        bare = λ r d. let p : t.constant ≡ Some r = sym q ∙ d in b r p (h.bare r p);
      }

  -- the work words stay
  pub state_changed : {t' : W.Tables} (a' : Analyzer Spot) → Mirrors t'.scope (scopes_in w) a' → a'.containment ≡ a.containment → a'.function_list ≡ a.function_list → a'.variable_stack.constants ≡ a.variable_stack.constants
      → t'.next_id ≡ a'.resolution_id → a.resolution_id ≤ a'.resolution_id → t'.constant ≡ t.constant → length a'.variable_stack.locals ≤ n.entries
      → Early k.containers a' → ((r : ℕ) → t.constant ≡ Some r → length a.variable_stack.locals ≡ 0 → length a'.variable_stack.locals ≡ 0) → Tables t' k n w a'
  state_changed {t'} a' m c f v x g q z y b = record {
    long = h.long;
    scopes = m;
    containers = subst (λ (s : Containment Spot). Holds k.containers (containers_in w) s) (sym c) h.containers;
    functions = subst (λ (fs : List (Ident Spot)). HoldsFunctions k.functions (functions_in w) fs) (sym f) h.functions;
    layer = v ∙ h.layer ∙ ap (λ (s : Containment Spot). constants s.containers) (sym c);
    next = x;
    given = λ r l. let u = h.given r l in let i : id_at a'.containment.containers r ≡ id_at a.containment.containers r = ap (λ (s : Containment Spot). id_at s.containers r) c in omega arith;
    whose = subst (λ (s : Containment Spot). Whose s.containers k.containers t'.constant s.in_constexpr_of_constant) (sym c) (subst (λ (j : Rust.Option ℕ). Whose a.containment.containers k.containers j a.containment.in_constexpr_of_constant) (sym q) h.whose);
    names = h.names;
    entries = z;
    early = y;
    bare = λ r d. let p : t.constant ≡ Some r = sym q ∙ d in b r p (h.bare r p);
  }

-- CONTAINERS AFTER AN EDGE

-- a container keeps its identifier, and whether it is a structure
record Same (f : Container Spot → Container Spot) : Type 0 where
  identifier : (c : Container Spot) → (f c).identifier ≡ c.identifier
  structure : (c : Container Spot) → (f c).is_structure ≡ c.is_structure

same_joined : (test : Container Spot → Bool) (ids : List ℕ) → Same (λ c. joined (test c) ids c)
unfolding joined
same_joined test ids = record { identifier = λ c. one (test c) c; structure = λ c. two (test c) c }
  where
    one : (b : Bool) (c : Container Spot) → (joined b ids c).identifier ≡ c.identifier
    one true c = refl
    one false c = refl

    two : (b : Bool) (c : Container Spot) → (joined b ids c).is_structure ≡ c.is_structure
    two true c = refl
    two false c = refl

-- the structures or the constants, one container at a time
unfoldable kind_by : (structure is : Bool) → Container Spot → List (Ident Spot) → List (Ident Spot)
kind_by true true c is = c.identifier ∷ is
kind_by true false c is = is
kind_by false true c is = is
kind_by false false c is = c.identifier ∷ is

kind_cons : (k : Bool) (c : Container Spot) (cs : List (Container Spot)) → of_kind k (c ∷ cs) ≡ kind_by k c.is_structure c (of_kind k cs)
unfolding of_kind structures constants keep identifier_of kind_by
kind_cons true c cs = go c.is_structure
  where
    go : (b : Bool) → map identifier_of (elim b [ true ↦ c ∷ keep (λ x. x.is_structure) cs | false ↦ keep (λ x. x.is_structure) cs ]) ≡ kind_by true b c (map identifier_of (keep (λ x. x.is_structure) cs))
    go true = refl
    go false = refl
kind_cons false c cs = go c.is_structure
  where
    go : (b : Bool) → map identifier_of (elim (not b) [ true ↦ c ∷ keep (λ x. not x.is_structure) cs | false ↦ keep (λ x. not x.is_structure) cs ]) ≡ kind_by false b c (map identifier_of (keep (λ x. not x.is_structure) cs))
    go true = refl
    go false = refl

kind_same : (k b : Bool) (f : Container Spot → Container Spot) → Same f → (c : Container Spot) (is : List (Ident Spot)) → kind_by k b (f c) is ≡ kind_by k b c is
unfolding kind_by
kind_same true true f s c is = ap (λ (i : Ident Spot). i ∷ is) (s.identifier c)
kind_same true false f s c is = refl
kind_same false true f s c is = refl
kind_same false false f s c is = ap (λ (i : Ident Spot). i ∷ is) (s.identifier c)

kind_nil : (k : Bool) (f : Container Spot → Container Spot) → of_kind k (map f []) ≡ of_kind k []
kind_nil k f = refl

kind_map : (k : Bool) (f : Container Spot → Container Spot) → Same f → (cs : List (Container Spot)) → of_kind k (map f cs) ≡ of_kind k cs
kind_map k f s [] = kind_nil k f
kind_map k f s (c ∷ cs) =
    kind_cons k (f c) (map f cs) ∙ ap (λ (b : Bool). kind_by k b (f c) (of_kind k (map f cs))) (s.structure c) ∙ ap (kind_by k c.is_structure (f c)) (kind_map k f s cs) ∙ kind_same k c.is_structure f s c (of_kind k cs) ∙ sym (kind_cons k c cs)

joined_kind : (k : Bool) (test : Container Spot → Bool) (ids : List ℕ) (cs : List (Container Spot)) → of_kind k (join_where test ids cs) ≡ of_kind k cs
unfolding join_where
joined_kind k test ids cs = kind_map k (λ c. joined (test c) ids c) (same_joined test ids) cs

added_kind : (k : Bool) (c : Ident Spot) (m : Option (Ident Spot)) (x : Ident Spot) (ids : List ℕ) (b : Bool) (cs : List (Container Spot)) → of_kind k (added_ids c m x ids b cs).1 ≡ of_kind k cs
unfolding added_ids
added_kind k c m x ids true cs = refl
added_kind k c m x ids false cs = joined_kind k (λ o. is_in c.id o.contained_ids) ids cs

add_kind : (k : Bool) (c : Ident Spot) (m : Option (Ident Spot)) (x : Ident Spot) (ids : List ℕ) (b : Bool) (cs : List (Container Spot)) → of_kind k (add_ids c m x ids b cs).1 ≡ of_kind k cs
unfolding add_ids
add_kind k c m x ids true cs = refl
add_kind k c m x ids false cs =
    let cs' : List (Container Spot) = join_where (λ o. eqb (id_of o) c.id) ids cs in
    added_kind k c m x ids (is_in c.id (contained_ids_of c.id cs')) cs' ∙ joined_kind k (λ o. eqb (id_of o) c.id) ids cs

-- after found_container_1 the structures and the constants are the same
pub found_kind : (k : Bool) (c : Ident Spot) (m : Option (Ident Spot)) (x : Ident Spot) (s : Containment Spot) → of_kind k (found_container_1 c m x s).1.containers ≡ of_kind k s.containers
unfolding found_container_1
found_kind k c m x s = add_kind k c m x _ (is_in c.id (contained_ids_of c.id s.containers)) s.containers

pub found_constants : (c : Ident Spot) (m : Option (Ident Spot)) (x : Ident Spot) (s : Containment Spot) → constants (found_container_1 c m x s).1.containers ≡ constants s.containers
unfolding of_kind
found_constants c m x s = found_kind false c m x s

pub found_whose : (c : Ident Spot) (m : Option (Ident Spot)) (x : Ident Spot) (s : Containment Spot) → (found_container_1 c m x s).1.in_constexpr_of_constant ≡ s.in_constexpr_of_constant
unfolding found_container_1
found_whose c m x s = refl

whose_kept : {cs cs' : List (Container Spot)} {count : ℕ} {constant : Rust.Option ℕ} {o : Option (Ident Spot)} → Kept cs cs' → count ≤ length cs → Whose cs count constant o → Whose cs' count constant o
whose_kept k l (nobody e) = nobody e
whose_kept k l (somebody r e h q) = somebody r e h (k.same r (omega arith) ∙ q)

-- the edge from c to x is handed over: the other tables stay
module _ {t : W.Tables} {k : Script} {n : K.Counts} {w : List ℕ} {a : Analyzer Spot} (h : Tables t k n w a) where
  pub containers_changed : {ys : List ℕ} (c : Ident Spot) (m : Option (Ident Spot)) (x : Ident Spot) → length ys ≡ 1668 → Holds k.containers ys (found_container_1 c m x a.containment).1
      → Tables t k n (put_mid 13312 1668 w ys) (with_containment a (found_container_1 c m x a.containment).1)
  unfolding with_containment
  containers_changed {ys} c m x e o =
      let long = h.long in
      let kept = found_kept c m x a.containment in
      let count = h.containers.counted in
      record {
        long = omega (arith, containers_long w ys long e);
        scopes = subst (λ (l : List ℕ). Mirrors t.scope l (with_containment a (found_container_1 c m x a.containment).1)) (sym (containers_scopes w ys long e)) (mirrors_containment h.scopes (found_container_1 c m x a.containment).1);
        containers = subst (λ (l : List ℕ). Holds k.containers l (found_container_1 c m x a.containment).1) (sym (containers_here w ys long e)) o;
        functions = subst (λ (l : List ℕ). HoldsFunctions k.functions l a.function_list) (sym (containers_functions w ys long e)) h.functions;
        layer = h.layer ∙ sym (found_constants c m x a.containment);
        next = h.next;
        given = λ r l. let y = h.given r l in let i = kept_id kept r (omega arith) in omega arith;
        whose = subst (λ (j : Option (Ident Spot)). Whose (found_container_1 c m x a.containment).1.containers k.containers t.constant j) (sym (found_whose c m x a.containment)) (whose_kept kept (omega arith) h.whose);
        names = h.names;
        entries = h.entries;
        early = early_containment h.early (found_container_1 c m x a.containment).1 (λ r l. kept_id kept r (omega arith));
        bare = h.bare;
      }
