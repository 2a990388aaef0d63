-- One row more: push_container and push_function.
use mathlib.Core.Path.{◌≡◌, refl, sym, ap, subst, ◌∙◌}
use mathlib.Core.Bool.{Bool, true, false}
use mathlib.Core.List.{List, [], ◌∷◌, ◌++◌}
use Prim.Native.Nat.{ℕ, ◌+◌, ◌≤◌, ◌<◌}
use native.Mathlib.Decide.{dec_lt}
use native.Mathlib.Omega.{arith}
use lib.ListN.{length, get_or, set, length-append, get_or-append}
use lib.Seq.{get_or-append_seam}
use Rattle.memory.specs.Rows.{member}
use Rattle.penne.specs.Tree.{Spot, Ident}
use Rattle.penne.specs.Find.{is_in}
use Rattle.penne.specs.Containers.{Container, Containment, id_of, with_containers, push_container}
use Rattle.containers.specs.declared.containers.Declared.{Declared}
use Rattle.containers.specs.Table.{no_ident, at, id_at, ids_at, kind_of, IsRow, Known, Sets, is_edge, Edges, contained_in, edges_in, Holds}
use Rattle.containers.specs.Calls.{read_at, written_at, Says, New, Pushes, Tells}
use Rattle.containers.specs.Functions.{function_at, IsFunction, HoldsFunctions, PushesFunction, TellsFunction}
use Rattle.containers.proofs.Lists.{true_not_false, false_is, in_none, at_before, at_last, id_before, id_last, ids_before, ids_last}
use Rattle.containers.proofs.Parts.{word_long, word_same, word_other, word_contained, word_edges}

-- THE WORDS

module _ (w : List ℕ) {w₁ w₂ w₃ w₄ w₅ : List ℕ} (row n p i kind : ℕ) (a : w₁ ≡ set w (0 + row) n) (b : w₂ ≡ set w₁ (128 + row) p) (c : w₃ ≡ set w₂ (256 + row) i) (d : w₄ ≡ set w₃ (384 + row) kind) (e : w₅ ≡ set w₄ (512 + row) 0) where
  written_long : length w₅ ≡ length w
  written_long = word_long w₄ (512 + row) 0 e ∙ word_long w₃ (384 + row) kind d ∙ word_long w₂ (256 + row) i c ∙ word_long w₁ (128 + row) p b ∙ word_long w (0 + row) n a

  -- a word of no column of this row
  others : (q : ℕ) → (q ≡ 0 + row → ⊥) → (q ≡ 128 + row → ⊥) → (q ≡ 256 + row → ⊥) → (q ≡ 384 + row → ⊥) → (q ≡ 512 + row → ⊥) → get_or w₅ q 0 ≡ get_or w q 0
  others q f g h k l = word_other w₄ (512 + row) 0 e q l ∙ word_other w₃ (384 + row) kind d q k ∙ word_other w₂ (256 + row) i c q h ∙ word_other w₁ (128 + row) p b q g ∙ word_other w (0 + row) n a q f

  written_contained : row < 128 → contained_in w₅ ≡ contained_in w
  written_contained h = word_contained w₄ (512 + row) 0 e (omega arith) ∙ word_contained w₃ (384 + row) kind d (omega arith) ∙ word_contained w₂ (256 + row) i c (omega arith) ∙ word_contained w₁ (128 + row) p b (omega arith) ∙ word_contained w (0 + row) n a (omega arith)

  written_edges : row < 128 → edges_in w₅ ≡ edges_in w
  written_edges h = word_edges w₄ (512 + row) 0 e (omega arith) ∙ word_edges w₃ (384 + row) kind d (omega arith) ∙ word_edges w₂ (256 + row) i c (omega arith) ∙ word_edges w₁ (128 + row) p b (omega arith) ∙ word_edges w (0 + row) n a (omega arith)

  written_before : (r : ℕ) (o : Container Spot) → r < row → row < 128 → IsRow w r o → IsRow w₅ r o
  written_before r o h l k = record {
    name = others (0 + r) (omega arith) (omega arith) (omega arith) (omega arith) (omega arith) ∙ k.name;
    place = others (128 + r) (omega arith) (omega arith) (omega arith) (omega arith) (omega arith) ∙ k.place;
    id = others (256 + r) (omega arith) (omega arith) (omega arith) (omega arith) (omega arith) ∙ k.id;
    kind = others (384 + r) (omega arith) (omega arith) (omega arith) (omega arith) (omega arith) ∙ k.kind;
    depth = others (512 + r) (omega arith) (omega arith) (omega arith) (omega arith) (omega arith) ∙ k.depth;
  }

  written_here : (o : Container Spot) → length w ≡ 1668 → row < 128 → n ≡ o.identifier.name → p ≡ o.identifier.place.number → i ≡ o.identifier.id → kind ≡ kind_of o.is_structure → o.depth ≡ 0 → IsRow w₅ row o
  written_here o long h en ep ei ek ed =
      let l₁ = word_long w (0 + row) n a in
      let l₂ = word_long w₁ (128 + row) p b in
      let l₃ = word_long w₂ (256 + row) i c in
      let l₄ = word_long w₃ (384 + row) kind d in
      let step : (q : ℕ) → (q ≡ 512 + row → ⊥) → get_or w₅ q 0 ≡ get_or w₄ q 0 = word_other w₄ (512 + row) 0 e in
      record {
        name = step (0 + row) (omega arith) ∙ word_other w₃ (384 + row) kind d (0 + row) (omega arith) ∙ word_other w₂ (256 + row) i c (0 + row) (omega arith) ∙ word_other w₁ (128 + row) p b (0 + row) (omega arith) ∙ word_same w (0 + row) n a (omega arith) ∙ en;
        place = step (128 + row) (omega arith) ∙ word_other w₃ (384 + row) kind d (128 + row) (omega arith) ∙ word_other w₂ (256 + row) i c (128 + row) (omega arith) ∙ word_same w₁ (128 + row) p b (omega arith) ∙ ep;
        id = step (256 + row) (omega arith) ∙ word_other w₃ (384 + row) kind d (256 + row) (omega arith) ∙ word_same w₂ (256 + row) i c (omega arith) ∙ ei;
        kind = step (384 + row) (omega arith) ∙ word_same w₃ (384 + row) kind d (omega arith) ∙ ek;
        depth = word_same w₄ (512 + row) 0 e (omega arith) ∙ sym ed;
      }

-- THE SETS

module _ {row : ℕ} (cs : List (Container Spot)) (c : Container Spot) (count : length cs ≡ row) (new : New (id_of c) row cs) where
  known_more : (i : ℕ) → Known row cs i → Known (row + 1) (cs ++ (c ∷ [])) i
  known_more i k = let b = k.below in record { row = k.row; below = omega arith; is = id_before cs c k.row (omega arith) ∙ k.is }

  not_known : Known row cs (id_of c) → ⊥
  not_known k = new.not k.row k.below k.is

  sets_push : {rows : List ℕ} → row < 128 → c.contained_ids ≡ [] → Sets row rows cs → Sets (row + 1) rows (cs ++ (c ∷ []))
  sets_push {rows} few none o = record {
    long = o.long;
    bits = λ r j h l. bit r j h l (dec_lt r row) (dec_lt j row);
    past = λ r j h l. past r j h l (dec_lt r row);
    free = λ r j h l. o.free r j (omega arith) l;
    closed = λ r i h e. closed r i h e (dec_lt r row);
  }
    where
      last : (r : ℕ) → r < row + 1 → (r < row → ⊥) → (x : ℕ) → is_in x (ids_at (cs ++ (c ∷ [])) r) ≡ false
      last r h d x = in_none x _ (ids_last cs c r (omega arith) ∙ none)

      bit : (r j : ℕ) → r < row + 1 → j < row + 1 → Dec (r < row) → Dec (j < row) → member rows r j ≡ is_in (id_at (cs ++ (c ∷ [])) j) (ids_at (cs ++ (c ∷ [])) r)
      bit r j h l (no d) q = o.free r j (omega arith) (omega arith) ∙ sym (last r h d (id_at (cs ++ (c ∷ [])) j))
      bit r j h l (yes d) (yes q) = o.bits r j d q ∙ sym (ap (λ (x : ℕ). is_in x (ids_at cs r)) (id_before cs c j (omega arith))) ∙ sym (ap (is_in (id_at (cs ++ (c ∷ [])) j)) (ids_before cs c r (omega arith)))
      bit r j h l (yes d) (no q) =
          let e : id_at (cs ++ (c ∷ [])) j ≡ id_of c = id_last cs c j (omega arith) in
          o.past r j d (omega arith) ∙ sym (false_is (is_in (id_of c) (ids_at cs r)) (λ t. not_known (o.closed r (id_of c) d t)))
          ∙ sym (ap (λ (x : ℕ). is_in x (ids_at cs r)) e) ∙ sym (ap (is_in (id_at (cs ++ (c ∷ [])) j)) (ids_before cs c r (omega arith)))

      past : (r j : ℕ) → r < row + 1 → row + 1 ≤ j → Dec (r < row) → member rows r j ≡ false
      past r j h l (yes d) = o.past r j d (omega arith)
      past r j h l (no d) = o.free r j (omega arith) (omega arith)

      closed : (r i : ℕ) → r < row + 1 → is_in i (ids_at (cs ++ (c ∷ [])) r) ≡ true → Dec (r < row) → Known (row + 1) (cs ++ (c ∷ [])) i
      closed r i h e (yes d) = known_more i (o.closed r i d (sym (ap (is_in i) (ids_before cs c r (omega arith))) ∙ e))
      closed r i h e (no d) = absurd (true_not_false e (last r h d i))

  edges_push : {rows : List ℕ} {es : List (ℕ × ℕ)} → Edges row rows cs es → Edges (row + 1) rows (cs ++ (c ∷ [])) es
  edges_push {rows} {es} o = record {
    long = o.long;
    bits = λ r j h l. bit r j h l (dec_lt r row) (dec_lt j row);
    free = λ r j d. o.free r j (λ h l. d (omega arith) (omega arith));
    closed = λ a b e. let k = o.closed a b e in (known_more a k.0, known_more b k.1);
  }
    where
      bit : (r j : ℕ) → r < row + 1 → j < row + 1 → Dec (r < row) → Dec (j < row) → member rows r j ≡ is_edge (id_at (cs ++ (c ∷ [])) r) (id_at (cs ++ (c ∷ [])) j) es
      bit r j h l (yes d) (yes q) = o.bits r j d q ∙ sym (ap (λ (x : ℕ). is_edge x (id_at cs j) es) (id_before cs c r (omega arith))) ∙ sym (ap (λ (x : ℕ). is_edge (id_at (cs ++ (c ∷ [])) r) x es) (id_before cs c j (omega arith)))
      bit r j h l (no d) q = o.free r j (λ x y. d x) ∙ sym (ap (λ (x : ℕ). is_edge x (id_at (cs ++ (c ∷ [])) j) es) (id_last cs c r (omega arith)) ∙ false_is _ (λ t. not_known (o.closed (id_of c) _ t).0))
      bit r j h l (yes d) (no q) = o.free r j (λ x y. q y) ∙ sym (ap (λ (x : ℕ). is_edge (id_at (cs ++ (c ∷ [])) r) x es) (id_last cs c j (omega arith)) ∙ false_is _ (λ t. not_known (o.closed _ (id_of c) t).1))

  distinct_push : ((i j : ℕ) → i < row → j < row → id_at cs i ≡ id_at cs j → i ≡ j) → (i j : ℕ) → i < row + 1 → j < row + 1 → id_at (cs ++ (c ∷ [])) i ≡ id_at (cs ++ (c ∷ [])) j → i ≡ j
  distinct_push o i j h l e = go (dec_lt i row) (dec_lt j row)
    where
      go : Dec (i < row) → Dec (j < row) → i ≡ j
      go (yes d) (yes q) = o i j d q (sym (id_before cs c i (omega arith)) ∙ e ∙ id_before cs c j (omega arith))
      go (yes d) (no q) = absurd (new.not i d (sym (id_before cs c i (omega arith)) ∙ e ∙ id_last cs c j (omega arith)))
      go (no d) (yes q) = absurd (new.not j q (sym (id_before cs c j (omega arith)) ∙ sym e ∙ id_last cs c i (omega arith)))
      go (no d) (no q) = omega arith

-- push_container

pub pushes_none : {row kind : ℕ} {d : Declared} {w : List ℕ} → 128 ≤ row → Pushes row kind d w w
pushes_none h = record { long = refl; pushes = λ s o l. absurd (omega arith) }

pushes_by : {row kind : ℕ} {d : Declared} {w w₁ w₂ w₃ w₄ w₅ : List ℕ} → w₁ ≡ set w (0 + row) d.name → w₂ ≡ set w₁ (128 + row) d.place → w₃ ≡ set w₂ (256 + row) d.id → w₄ ≡ set w₃ (384 + row) kind → w₅ ≡ set w₄ (512 + row) 0 → Pushes row kind d w w₅
unfolding push_container with_containers id_of
pushes_by {row} {kind} {d} {w} {w₁} {w₂} {w₃} {w₄} {w₅} e₁ e₂ e₃ e₄ e₅ = record { long = written_long w row d.name d.place d.id kind e₁ e₂ e₃ e₄ e₅; pushes = go }
  where
    go : (s : Containment Spot) → Holds row w s → row < 128 → (i : Ident Spot) → Says d i → New i.id row s.containers → (structure : Bool) → kind ≡ kind_of structure → Holds (row + 1) w₅ (push_container structure i s)
    go s o few i says new structure ek =
        let c : Container Spot = record { identifier = i; contained_ids = []; depth = 0; is_structure = structure } in
        let count = o.counted in
        record {
          counted = length-append s.containers (c ∷ []) ∙ ap (λ (k : ℕ). k + 1) count;
          few = omega arith;
          long = written_long w row d.name d.place d.id kind e₁ e₂ e₃ e₄ e₅ ∙ o.long;
          distinct = distinct_push s.containers c count new o.distinct;
          rows = λ r h. one s o few i says structure ek r h (dec_lt r row);
          sets = rw (written_contained w row d.name d.place d.id kind e₁ e₂ e₃ e₄ e₅ few) (sets_push s.containers c count new few refl o.sets);
          edges = rw (written_edges w row d.name d.place d.id kind e₁ e₂ e₃ e₄ e₅ few) (edges_push s.containers c count new o.edges);
        }
      where
        one : (s : Containment Spot) → Holds row w s → row < 128 → (i : Ident Spot) → Says d i → (structure : Bool) → kind ≡ kind_of structure → (r : ℕ) → r < row + 1 → Dec (r < row) → IsRow w₅ r (at (s.containers ++ (record { identifier = i; contained_ids = []; depth = 0; is_structure = structure } ∷ [])) r)
        one s o few i says structure ek r h (yes q) = let count = o.counted in rw (at_before s.containers (record { identifier = i; contained_ids = []; depth = 0; is_structure = structure }) r (omega arith)) (written_before w row d.name d.place d.id kind e₁ e₂ e₃ e₄ e₅ r _ q few (o.rows r q))
        one s o few i says structure ek r h (no q) =
            let count = o.counted in
            let e : r ≡ length s.containers = omega arith in
            let z : r ≡ row = omega arith in
            let c : Container Spot = record { identifier = i; contained_ids = []; depth = 0; is_structure = structure } in
            subst (λ (x : Container Spot). IsRow w₅ r x) (sym (ap (at (s.containers ++ (c ∷ []))) e ∙ at_last s.containers c))
            (subst (λ (k : ℕ). IsRow w₅ k c) (sym z) (written_here w row d.name d.place d.id kind e₁ e₂ e₃ e₄ e₅ c o.long few says.name says.place says.id ek refl))

pub pushes_is : {row kind : ℕ} {d : Declared} {w w₃ w₄ w₅ : List ℕ} → w₃ ≡ written_at (0 + row) (128 + row) (256 + row) d w → w₄ ≡ set w₃ (384 + row) kind → w₅ ≡ set w₄ (512 + row) 0 → Pushes row kind d w w₅
pushes_is e = pushes_by refl refl e

-- container

pub tells_none : {row : ℕ} {w : List ℕ} {d : Declared} → 128 ≤ row → Tells row w d
tells_none h = record { tells = λ s count o l. let few = o.few in absurd (omega arith) }

pub tells_is : {row : ℕ} {w : List ℕ} {d : Declared} → d ≡ read_at (0 + row) (128 + row) (256 + row) w → Tells row w d
tells_is {row} e = record { tells = λ s count o l. let r = o.rows row l in rw e (record { name = r.name; place = r.place; id = r.id }) }

-- FUNCTIONS

module _ (w : List ℕ) {w₁ w₂ w₃ : List ℕ} (row n p i : ℕ) (a : w₁ ≡ set w (0 + row) n) (b : w₂ ≡ set w₁ (256 + row) p) (c : w₃ ≡ set w₂ (512 + row) i) where
  function_long : length w₃ ≡ length w
  function_long = word_long w₂ (512 + row) i c ∙ word_long w₁ (256 + row) p b ∙ word_long w (0 + row) n a

  function_other : (q : ℕ) → (q ≡ 0 + row → ⊥) → (q ≡ 256 + row → ⊥) → (q ≡ 512 + row → ⊥) → get_or w₃ q 0 ≡ get_or w q 0
  function_other q f g h = word_other w₂ (512 + row) i c q h ∙ word_other w₁ (256 + row) p b q g ∙ word_other w (0 + row) n a q f

  function_before : (r : ℕ) (o : Ident Spot) → r < row → row < 256 → IsFunction w r o → IsFunction w₃ r o
  function_before r o h l k = record {
    name = function_other (0 + r) (omega arith) (omega arith) (omega arith) ∙ k.name;
    place = function_other (256 + r) (omega arith) (omega arith) (omega arith) ∙ k.place;
    id = function_other (512 + r) (omega arith) (omega arith) (omega arith) ∙ k.id;
  }

  function_last : (o : Ident Spot) → length w ≡ 768 → row < 256 → n ≡ o.name → p ≡ o.place.number → i ≡ o.id → IsFunction w₃ row o
  function_last o long h en ep ei =
      let l₁ = word_long w (0 + row) n a in
      let l₂ = word_long w₁ (256 + row) p b in
      record {
        name = word_other w₂ (512 + row) i c (0 + row) (omega arith) ∙ word_other w₁ (256 + row) p b (0 + row) (omega arith) ∙ word_same w (0 + row) n a (omega arith) ∙ en;
        place = word_other w₂ (512 + row) i c (256 + row) (omega arith) ∙ word_same w₁ (256 + row) p b (omega arith) ∙ ep;
        id = word_same w₂ (512 + row) i c (omega arith) ∙ ei;
      }

pub function_pushes_none : {row : ℕ} {d : Declared} {w : List ℕ} → 256 ≤ row → PushesFunction row d w w
function_pushes_none h = record { long = refl; pushes = λ fs o l. absurd (omega arith) }

function_pushes_by : {row : ℕ} {d : Declared} {w w₁ w₂ w₃ : List ℕ} → w₁ ≡ set w (0 + row) d.name → w₂ ≡ set w₁ (256 + row) d.place → w₃ ≡ set w₂ (512 + row) d.id → PushesFunction row d w w₃
unfolding function_at
function_pushes_by {row} {d} {w} {w₁} {w₂} {w₃} e₁ e₂ e₃ = record { long = function_long w row d.name d.place d.id e₁ e₂ e₃; pushes = go }
  where
    one : (fs : List (Ident Spot)) → HoldsFunctions row w fs → row < 256 → (i : Ident Spot) → Says d i → (r : ℕ) → r < row + 1 → Dec (r < row) → IsFunction w₃ r (function_at (fs ++ (i ∷ [])) r)
    one fs o few i says r h (yes q) = let count = o.counted in subst (λ (x : Ident Spot). IsFunction w₃ r x) (sym (get_or-append fs (i ∷ []) no_ident r (omega arith))) (function_before w row d.name d.place d.id e₁ e₂ e₃ r _ q few (o.rows r q))
    one fs o few i says r h (no q) =
        let count = o.counted in
        let e : r ≡ length fs = omega arith in
        let z : r ≡ row = omega arith in
        subst (λ (x : Ident Spot). IsFunction w₃ r x) (sym (ap (function_at (fs ++ (i ∷ []))) e ∙ get_or-append_seam fs i [] no_ident))
        (subst (λ (k : ℕ). IsFunction w₃ k i) (sym z) (function_last w row d.name d.place d.id e₁ e₂ e₃ i o.long few says.name says.place says.id))

    go : (fs : List (Ident Spot)) → HoldsFunctions row w fs → row < 256 → (i : Ident Spot) → Says d i → HoldsFunctions (row + 1) w₃ (fs ++ (i ∷ []))
    go fs o few i says = record {
      counted = length-append fs (i ∷ []) ∙ ap (λ (k : ℕ). k + 1) o.counted;
      few = omega arith;
      long = function_long w row d.name d.place d.id e₁ e₂ e₃ ∙ o.long;
      rows = λ r h. one fs o few i says r h (dec_lt r row);
    }

pub function_pushes : {row : ℕ} {d : Declared} {w w₃ : List ℕ} → w₃ ≡ written_at (0 + row) (256 + row) (512 + row) d w → PushesFunction row d w w₃
function_pushes e = function_pushes_by refl refl e

pub function_tells_none : {row : ℕ} {w : List ℕ} {d : Declared} → 256 ≤ row → TellsFunction row w d
function_tells_none h = record { tells = λ fs count o l. let few = o.few in absurd (omega arith) }

pub function_tells : {row : ℕ} {w : List ℕ} {d : Declared} → d ≡ read_at (0 + row) (256 + row) (512 + row) w → TellsFunction row w d
function_tells {row} e = record { tells = λ fs count o l. let r = o.rows row l in rw e (record { name = r.name; place = r.place; id = r.id }) }
