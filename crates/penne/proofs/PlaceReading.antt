-- Readers run in step on two strings that differ in place numbers alone: both are refused alike, or read values that are the same but for those numbers.
use Prim.Native.Nat.{ℕ, zero, suc, ◌+◌, ◌-◌, ◌*◌, ◌%◌, ◌≤◌}
use mathlib.Core.Bool.{Bool, true, false}
use mathlib.Core.Path.{◌≡◌, refl, sym, ◌∙◌, ap, subst}
use mathlib.Core.List.{List, [], ◌∷◌, ◌++◌, map}
use mathlib.Core.Option.{some}
use lib.ListN.{length, get_or, take, drop, length-map}
use lib.Seq.{drop-drop, get_or-drop}
use lib.Dec.{ltb, leb, eqb}
use native.Mathlib.Omega.{arith}
use Rattle.penne.specs.Tree.{Spot, Ident, Poison, poison, earlier, ok, err, Ty, Kind, expr, ref, step, item, one, Node, signed, bits, stmt, else_branch, Stm, goto, label, or_else, Decl, Tree}
use Rattle.penne.specs.Tree as T
use Rattle.penne.specs.Reader.{Counts, Cur, Got, got, refused, Reader, ◌>>=◌, ret, such, moved, last_group, groups, num, below, raw, bytes, many, listed, each, counting, counted, too_deep, plus, fits, nothing, an_entry}
use Rattle.penne.specs.Read.{place, name, ident, poison_fields, poison_of, read_poison, either, maybe, option, TyKind, k_plain, k_array, k_named_length, k_arraylike, k_struct, k_word, k_unresolved, k_nameless, k_pointer, k_view, ty_of, read_ty, to_nodes, ExprKind, k_binary, k_unary, k_boolean, k_signed, k_bits, k_string, k_array_literal, k_structural, k_parenthesized, k_deref, k_bit_cast, k_type_cast, k_length_of_array, k_size_of, k_function_call, k_bad_expr, Readers, item_of, read_binary, read_unary, read_boolean, read_integer, read_string, read_array_literal, read_structural, read_parenthesized, read_deref, read_bit_cast, read_type_cast, read_length_of_array, read_size_of, read_function_call, expr_of, step_of, head, rest_of, read, to_stms, StmtKind, k_declaration, k_assignment, k_method_call, k_loop, k_goto, k_label, k_if, k_block, k_bad_stmt, else_of, read_declaration, read_assignment, read_method_call, read_jump, read_if, read_block, stmt_of, stmt_head, stmt_counts, read_stmt, read_body, read_param, DeclKind, k_constant, k_function, k_function_head, k_structure, k_import, k_bad_decl, read_constant, read_function, read_function_head, read_structure, read_import, decl_of, decl_head, decl_counts, read_decl, read_names, tabled, read_tree, incoming, ended, decode}
use Rattle.penne.specs.Places.{map_ident, map_poison, map_maybe, map_option, map_ty, map_maybe_ty, map_carried, map_node, map_stm, map_param, map_body, map_decl, map_tree}
use Rattle.penne.specs.PlaceRule.{Want, Move, passes, opens, skips, splits, move, Alike, same, on, Step, passed, opened, skipped, split, least_as_long, blank, DifferInPlaces}
use Rattle.penne.specs.PlaceRule as W
use Rattle.penne.proofs.IdsRead.{costs_num}
use Rattle.penne.proofs.PlaceWidths.{same_least}

-- THE RELATION

-- refused alike; or read up to the same byte, alike by h, and alike from there on
data Both {A B : Type 0} (s t : List ℕ) (ws : A → List Want) (h : A → B) : Got A → Got A → Type 0 where
  stops : {n p : ℕ} → Both s t ws h (refused n p) (refused n p)
  goes : {x y : A} {d : Cur} → h x ≡ h y → Alike s t (ws x) d.at → Both s t ws h (got x d) (got y d)

-- m on s and m' on t, where us is wanted, and ws behind it
record InStep {A B : Type 0} (us : List Want) (ws : A → List Want) (h : A → B) (m m' : Reader A) : Type 0 where
  at : (s t : List ℕ) → length s ≡ length t → (c : Cur) → Alike s t us c.at → Both s t ws h (m s c) (m' t c)

-- alike by being the same
abbrev id : {A : Type 0} → A → A
id x = x

module _ {B C : Type 0} {us : List Want} {ws : B → List Want} {h : B → C} where
  step_bind : {A D : Type 0} {vs : A → List Want} {g : A → D} {m m' : Reader A} {f f' : A → Reader B} → InStep us vs g m m' → ((x y : A) → g x ≡ g y → InStep (vs x) ws h (f x) (f' y)) → InStep us ws h (m >>= f) (m' >>= f')
  unfolding ◌>>=◌
  step_bind {A} {vs = vs} {g} {m} {m'} {f} {f'} p k = record { at = λ s t e c a. go s t e (m s c) (m' t c) (p.at s t e c a) }
    where
      go : (s t : List ℕ) → length s ≡ length t → (q q' : Got A) → Both s t vs g q q' → Both {A = B} s t ws h (elim q [ got a next ↦ f a s next | refused n p ↦ refused n p ]) (elim q' [ got a next ↦ f' a t next | refused n p ↦ refused n p ])
      go s t e _ _ stops = stops
      go s t e _ _ (goes {x} {y} {d} z b) = (k x y z).at s t e d b

  -- where the first reads the same on both sides
  step_then : {A : Type 0} {vs : A → List Want} {m m' : Reader A} {f f' : A → Reader B} → InStep us vs id m m' → ((x : A) → InStep (vs x) ws h (f x) (f' x)) → InStep us ws h (m >>= f) (m' >>= f')
  step_then {vs = vs} {f = f} {f'} p k = step_bind p λ x y z. subst (λ (w : _). InStep (vs x) ws h (f x) (f' w)) z (k x)

-- what is wanted behind a value may go by it
step_value : {A B : Type 0} {ws : A → List Want} {h : A → B} (x y : A) → h x ≡ h y → InStep (ws x) ws h (ret x) (ret y)
unfolding ret
step_value x y z = record { at = λ s t e c a. goes z a }

step_ret : {A B : Type 0} {ws : List Want} {h : A → B} (x y : A) → h x ≡ h y → InStep ws (λ _. ws) h (ret x) (ret y)
step_ret {ws = ws} x y z = step_value {ws = λ _. ws} x y z

step_such : {A : Type 0} {us : List Want} {ws : A → List Want} {m m' : Reader A} (test : A → Cur → Bool) (n : ℕ) → InStep us ws id m m' → InStep us ws id (such m test n) (such m' test n)
unfolding such
step_such {A} {us} {ws} {m} {m'} test n p = record { at = λ s t e c a. go s t c.at (m s c) (m' t c) (p.at s t e c a) }
  where
    pick : (s t : List ℕ) (b : Bool) (x y : A) (d : Cur) (at : ℕ) → x ≡ y → Alike s t (ws x) d.at → Both {A = A} s t ws id (elim b [ true ↦ got x d | false ↦ refused n at ]) (elim b [ true ↦ got y d | false ↦ refused n at ])
    pick s t true x y d at z b = goes z b
    pick s t false x y d at z b = stops

    go : (s t : List ℕ) (at : ℕ) (q q' : Got A) → Both s t ws id q q' → Both {A = A} s t ws id (elim q [ got a next ↦ elim (test a next) [ true ↦ got a next | false ↦ refused n at ] | refused k p ↦ refused k p ]) (elim q' [ got a next ↦ elim (test a next) [ true ↦ got a next | false ↦ refused n at ] | refused k p ↦ refused k p ])
    go s t at _ _ stops = stops
    go s t at _ _ (goes {x} {y} {d} z b) = subst (λ (w : A). Both {A = A} s t ws id (elim (test x d) [ true ↦ got x d | false ↦ refused n at ]) (elim (test w d) [ true ↦ got w d | false ↦ refused n at ])) z (pick s t (test x d) x x d at refl b)

step_counting : {A : Type 0} {us : List Want} {ws : A → List Want} {m m' : Reader A} (k : A → Counts) → InStep us ws id m m' → InStep us ws id (counting k m) (counting k m')
unfolding counting counted
step_counting k p = step_then (step_such _ 8 p) λ x. record { at = λ s t e c a. goes refl a }

-- a test that does not look at the value
step_test : {A B : Type 0} {us : List Want} {ws : A → List Want} {h : A → B} {m m' : Reader A} (test : Cur → Bool) (n : ℕ) → InStep us ws h m m' → InStep us ws h (such m (λ _ c. test c) n) (such m' (λ _ c. test c) n)
unfolding such
step_test {A} {us = us} {ws} {h} {m} {m'} test n p = record { at = λ s t e c a. go s t c.at (m s c) (m' t c) (p.at s t e c a) }
  where
    pick : (s t : List ℕ) (b : Bool) (x y : A) (d : Cur) (at : ℕ) → h x ≡ h y → Alike s t (ws x) d.at → Both {A = A} s t ws h (elim b [ true ↦ got x d | false ↦ refused n at ]) (elim b [ true ↦ got y d | false ↦ refused n at ])
    pick s t true x y d at z b = goes z b
    pick s t false x y d at z b = stops

    go : (s t : List ℕ) (at : ℕ) (q q' : Got A) → Both s t ws h q q' → Both {A = A} s t ws h (elim q [ got a next ↦ elim (test next) [ true ↦ got a next | false ↦ refused n at ] | refused k p ↦ refused k p ]) (elim q' [ got a next ↦ elim (test next) [ true ↦ got a next | false ↦ refused n at ] | refused k p ↦ refused k p ])
    go s t at _ _ stops = stops
    go s t at _ _ (goes {x} {y} {d} z b) = pick s t (test d) x y d at z b

-- one of what counts alike whatever its value
step_entry : {A B : Type 0} {us : List Want} {ws : A → List Want} {h : A → B} {m m' : Reader A} (k : Counts) → InStep us ws h m m' → InStep us ws h (counting (λ _. k) m) (counting (λ _. k) m')
unfolding counting counted
step_entry k p = step_bind (step_test (λ c. fits (plus c.counts k)) 8 p) λ x y z. record { at = λ s t e c a. goes z a }

step_deep : {A B C : Type 0} {us : List Want} {vs : A → List Want} {ws : B → List Want} {h : B → C} {m m' : Reader A} → InStep us vs id m m' → InStep us ws h (too_deep m) (too_deep m')
unfolding too_deep
step_deep {A} {B} {us = us} {vs} {ws} {h} {m} {m'} p = record { at = λ s t e c a. go s t c.at (m s c) (m' t c) (p.at s t e c a) }
  where
    go : (s t : List ℕ) (at : ℕ) (q q' : Got A) → Both s t vs id q q' → Both {A = B} s t ws h (elim q [ got a next ↦ refused 7 at | refused n p ↦ refused n p ]) (elim q' [ got a next ↦ refused 7 at | refused n p ↦ refused n p ])
    go s t at _ _ stops = stops
    go s t at _ _ (goes z b) = stops

-- NUMBERS AND BYTES

-- strings that are the same from a byte on are so from every later one on
drop_later : (s t : List ℕ) (at next : ℕ) → at ≤ next → drop at s ≡ drop at t → drop next s ≡ drop next t
drop_later s t at next h e =
    let z : at + (next - at) ≡ next = omega arith in
    subst (λ (k : ℕ). drop k s ≡ drop k t) z (sym (drop-drop (next - at) at s) ∙ ap (drop (next - at)) e ∙ drop-drop (next - at) at t)

byte_here : (s : List ℕ) (at : ℕ) → get_or (drop at s) 0 0 ≡ get_or s at 0
byte_here s at = let z : at + 0 ≡ at = omega arith in subst (λ (k : ℕ). get_or (drop at s) 0 0 ≡ get_or s k 0) z (get_or-drop at s 0 0)

module _ (s t : List ℕ) (long : length s ≡ length t) where
  same_byte : (at : ℕ) → drop at s ≡ drop at t → get_or s at 0 ≡ get_or t at 0
  same_byte at e = sym (byte_here s at) ∙ ap (λ (l : List ℕ). get_or l 0 0) e ∙ byte_here t at

  same_groups : (left start w v at : ℕ) (c : Cur) → drop at s ≡ drop at t → groups left start w v s at c ≡ groups left start w v t at c
  unfolding groups
  same_groups zero start w v at c e = refl
  same_groups (suc left) start w v at c e =
      ap (λ (n : ℕ). elim (ltb at n) as (λ _. Got ℕ) [ false ↦ refused 3 start | true ↦ elim (ltb (get_or s at 0) 128) [ false ↦ groups left start (w * 128) (v + (get_or s at 0 % 128) * w) s (at + 1) c | true ↦ last_group (get_or s at 0) w v start (at + 1) c ] ]) long
      ∙ ap (λ (q : Got ℕ). elim (ltb at (length t)) as (λ _. Got ℕ) [ false ↦ refused 3 start | true ↦ elim (ltb (get_or s at 0) 128) [ false ↦ q | true ↦ last_group (get_or s at 0) w v start (at + 1) c ] ]) (same_groups left start (w * 128) (v + (get_or s at 0 % 128) * w) (at + 1) c (drop_later s t at (at + 1) (omega arith) e))
      ∙ ap (λ (b : ℕ). elim (ltb at (length t)) as (λ _. Got ℕ) [ false ↦ refused 3 start | true ↦ elim (ltb b 128) [ false ↦ groups left start (w * 128) (v + (b % 128) * w) t (at + 1) c | true ↦ last_group b w v start (at + 1) c ] ]) (same_byte at e)

  -- the same bytes, the same number
  same_num : (c : Cur) → drop c.at s ≡ drop c.at t → num s c ≡ num t c
  unfolding num
  same_num c e = same_groups 5 c.at 1 0 c.at c e

  -- numbers read from the same bytes
  both_num : {B : Type 0} {ws : ℕ → List Want} {h : ℕ → B} (c : Cur) (q : Got ℕ) → num s c ≡ q → drop c.at s ≡ drop c.at t → Both s t ws h (num s c) (num t c)
  both_num {ws = ws} {h} c (got n d) z e =
      let b : Both s t ws h (got n d) (got n d) = goes refl (same (drop_later s t c.at d.at (omega (arith, (costs_num.at s c z).bytes)) e)) in
      subst (λ (q : Got ℕ). Both s t ws h q (num t c)) (sym z) (subst (λ (q : Got ℕ). Both s t ws h (got n d) q) (sym z ∙ same_num c e) b)
  both_num {ws = ws} {h} c (refused n p) z e = subst (λ (q : Got ℕ). Both s t ws h q (num t c)) (sym z) (subst (λ (q : Got ℕ). Both s t ws h (refused n p) q) (sym z ∙ same_num c e) stops)

  -- a number that opens f, by the step there
  both_opens : {f : ℕ → List Want} {ws : List Want} (c : Cur) {v : Move} → Step s t v ws c.at → v ≡ opens f → Both s t (λ n. f n ++ ws) id (num s c) (num t c)
  unfolding moved
  both_opens {f} {ws} c x e = go (subst (λ (v : Move). Step s t v ws c.at) e x)
    where
      go : Step s t (opens f) ws c.at → Both s t (λ n. f n ++ ws) id (num s c) (num t c)
      go (opened {next} {n} p q a) = subst (λ (x : Got ℕ). Both s t (λ n. f n ++ ws) id x (num t c)) (sym (p.reads c refl)) (subst (λ (x : Got ℕ). Both s t (λ n. f n ++ ws) id (got n (moved c next)) x) (sym (q.reads c refl)) (goes refl a))

  -- a place number, by the step there
  both_passes : {ws : List Want} (c : Cur) {v : Move} → Step s t v ws c.at → v ≡ passes → Both s t (λ _. ws) least_as_long (num s c) (num t c)
  unfolding moved
  both_passes {ws} c x e = go (subst (λ (v : Move). Step s t v ws c.at) e x)
    where
      go : Step s t passes ws c.at → Both s t (λ _. ws) least_as_long (num s c) (num t c)
      go (passed {next} {p} {q} x y a) = subst (λ (z : Got ℕ). Both s t (λ _. ws) least_as_long z (num t c)) (sym (x.reads c refl)) (subst (λ (z : Got ℕ). Both s t (λ _. ws) least_as_long (got p (moved c next)) z) (sym (y.reads c refl)) (goes (same_least x y) a))

  -- the same bytes, by the step there
  both_skips : {ws : List Want} (c : Cur) (n : ℕ) {v : Move} → Step s t v ws c.at → v ≡ skips n → Both s t (λ _. ws) id (raw n s c) (raw n t c)
  unfolding raw moved
  both_skips {ws} c n x e = go (subst (λ (v : Move). Step s t v ws c.at) e x)
    where
      pick : (b : Bool) → take n (drop c.at s) ≡ take n (drop c.at t) → Alike s t ws (c.at + n) → Both {A = List ℕ} s t (λ _. ws) id (elim b [ true ↦ got (take n (drop c.at s)) (moved c (c.at + n)) | false ↦ refused 3 c.at ]) (elim b [ true ↦ got (take n (drop c.at t)) (moved c (c.at + n)) | false ↦ refused 3 c.at ])
      pick true z a = goes z a
      pick false z a = stops

      go : Step s t (skips n) ws c.at → Both s t (λ _. ws) id (raw n s c) (raw n t c)
      go (skipped z a) = subst (λ (k : ℕ). Both {A = List ℕ} s t (λ _. ws) id (raw n s c) (elim (leb (c.at + n) k) [ true ↦ got (take n (drop c.at t)) (moved c (c.at + n)) | false ↦ refused 3 c.at ])) long (pick (leb (c.at + n) (length s)) z a)

  both_raw : {ws : List Want} (c : Cur) (n : ℕ) → drop c.at s ≡ drop c.at t → Both s t (λ _. ws) id (raw n s c) (raw n t c)
  both_raw c n e = both_skips c n {v = skips n} (skipped (ap (take n) e) (same (drop_later s t c.at (c.at + n) (omega arith) e))) refl

step_num : {ws : List Want} (w : Want) {f : ℕ → List Want} → move w ≡ opens f → InStep (w ∷ ws) (λ n. f n ++ ws) id num num
step_num {ws} w {f} m = record { at = go }
  where
    go : (s t : List ℕ) → length s ≡ length t → (c : Cur) → Alike s t (w ∷ ws) c.at → Both s t (λ n. f n ++ ws) id (num s c) (num t c)
    go s t e c (same z) = both_num s t e c _ refl z
    go s t e c (on x) = both_opens s t e c x m

-- a place's number, as far as its byte count
step_placed : {ws : List Want} → InStep (W.place ∷ ws) (λ _. ws) least_as_long num num
unfolding move
step_placed {ws} = record { at = go }
  where
    go : (s t : List ℕ) → length s ≡ length t → (c : Cur) → Alike s t (W.place ∷ ws) c.at → Both s t (λ _. ws) least_as_long (num s c) (num t c)
    go s t e c (same z) = both_num s t e c _ refl z
    go s t e c (on x) = both_passes s t e c x refl

-- m reads a part w wherever it is wanted, alike by g
record Runs {A B : Type 0} (w : Want) (g : A → B) (m : Reader A) : Type 0 where
  go : {ws : List Want} → InStep (w ∷ ws) (λ _. ws) g m m

module _ {B C : Type 0} {us : List Want} {ws : B → List Want} {h : B → C} where
  -- a part, and what follows it
  run : {A D : Type 0} {w : Want} {g : A → D} {m : Reader A} {f f' : A → Reader B} → Runs w g m → ((x y : A) → g x ≡ g y → InStep us ws h (f x) (f' y)) → InStep (w ∷ us) ws h (m >>= f) (m >>= f')
  run r k = step_bind r.go k

  -- a part that is the same on both sides
  run_same : {A : Type 0} {w : Want} {m : Reader A} {f f' : A → Reader B} → Runs w id m → ((x : A) → InStep us ws h (f x) (f' x)) → InStep (w ∷ us) ws h (m >>= f) (m >>= f')
  run_same r k = step_then r.go k

raw_go : (n : ℕ) {ws : List Want} → InStep (W.raw n ∷ ws) (λ _. ws) id (raw n) (raw n)
unfolding move
raw_go n {ws} = record { at = go }
  where
    go : (s t : List ℕ) → length s ≡ length t → (c : Cur) → Alike s t (W.raw n ∷ ws) c.at → Both s t (λ _. ws) id (raw n s c) (raw n t c)
    go s t e c (same z) = both_raw s t e c n z
    go s t e c (on x) = both_skips s t e c n x refl

run_raw : (n : ℕ) → Runs (W.raw n) id (raw n)
run_raw n = record { go = raw_go n }

-- a part that is made of others
step_parts : {A B : Type 0} {us ws : List Want} {vs : A → List Want} {h : A → B} {m m' : Reader A} (w : Want) → move w ≡ splits us → InStep (us ++ ws) vs h m m' → InStep (w ∷ ws) vs h m m'
step_parts {us = us} {ws} w e p = record { at = λ s t l c a. p.at s t l c (go s t c.at a) }
  where
    inside : (s t : List ℕ) (at : ℕ) → Step s t (splits us) ws at → Alike s t (us ++ ws) at
    inside s t at (split a) = a

    go : (s t : List ℕ) (at : ℕ) → Alike s t (w ∷ ws) at → Alike s t (us ++ ws) at
    go s t at (same z) = same z
    go s t at (on x) = inside s t at (subst (λ (v : Move). Step s t v ws at) e x)

-- FIELDS

run_number : Runs W.number id num
unfolding move
run_number = record { go = step_num W.number refl }

run_such : {A : Type 0} {w : Want} {m : Reader A} (test : A → Cur → Bool) (n : ℕ) → Runs w id m → Runs w id (such m test n)
run_such test n r = record { go = step_such test n r.go }

run_below : (k : ℕ) → Runs W.number id (below k)
unfolding below
run_below k = run_such _ 5 run_number

run_name : Runs W.number id name
unfolding name
run_name = run_such _ 5 run_number

run_placed : Runs W.place least_as_long num
run_placed = record { go = step_placed }

place_go : (spot : ℕ → Spot) (from : ℕ) → ((n : ℕ) → spot n ≡ record { number = n; from = from }) → {ws : List Want} → InStep (W.place ∷ ws) (λ _. ws) blank (num >>= λ n. ret (spot n)) (num >>= λ n. ret (spot n))
unfolding blank
place_go spot from is = run run_placed λ x y z. step_ret _ _ (ap blank (is x) ∙ (λ k. record { number = z k; from = from }) ∙ sym (ap blank (is y)))

run_place : Runs W.place blank place
unfolding place
run_place = record { go = record { at = λ s t e c a. (place_go (λ n. record { number = n; from = c.at }) c.at (λ n. refl)).at s t e c a } }

-- behind the name number
ident_go : (made : ℕ → ℕ → ℕ → ℕ → Ident Spot) (from : ℕ) → ((n p i a : ℕ) → made n p i a ≡ record { name = n; place = record { number = p; from = from }; id = i; auth = a }) → {ws : List Want} → InStep (W.ident ∷ ws) (λ _. ws) (map_ident blank) (name >>= λ n. num >>= λ p. num >>= λ i. below 2 >>= λ a. ret (made n p i a)) (name >>= λ n. num >>= λ p. num >>= λ i. below 2 >>= λ a. ret (made n p i a))
unfolding move map_ident blank name
ident_go made from is = step_then (step_such _ 5 (step_num W.ident refl)) λ n. run run_placed λ p q z. run_same run_number λ i. run_same (run_below 2) λ a. step_ret _ _ (ap (map_ident blank) (is n p i a) ∙ (λ k. record { name = n; place = record { number = z k; from = from }; id = i; auth = a }) ∙ sym (ap (map_ident blank) (is n q i a)))

run_ident : Runs W.ident (map_ident blank) ident
unfolding ident
run_ident = record { go = record { at = λ s t e c a. (ident_go (λ n p i a. record { name = n; place = record { number = p; from = c.at }; id = i; auth = a }) c.at (λ n p i a. refl)).at s t e c a } }

run_bytes : Runs W.bytes id bytes
unfolding bytes move
run_bytes = record { go = step_then (step_num W.bytes refl) λ n. raw_go n }

-- LISTS AND CHOICES

-- h of a list goes by g of its items
record Lists {A B C : Type 0} (g : A → B) (h : List A → C) : Type 0 where
  more : (x y : A) (xs ys : List A) → g x ≡ g y → h xs ≡ h ys → h (x ∷ xs) ≡ h (y ∷ ys)

lists_map : {A B : Type 0} {g : A → B} → Lists g (map g)
lists_map = record { more = λ x y xs ys p q. λ k. p k ∷ q k }

lists_same : {A : Type 0} → Lists {A = A} id id
lists_same = record { more = λ x y xs ys p q. λ k. p k ∷ q k }

module _ {A B C : Type 0} {w : Want} {g : A → B} {h : List A → C} {m : Reader A} (l : Lists g h) (r : Runs w g m) where
  -- what is wanted behind a list may go by its length
  many_long : (n : ℕ) (vs : ℕ → List Want) → InStep (W.times n w ∷ vs n) (λ xs. vs (length xs)) h (many m n) (many m n)
  unfolding many move W.in_times
  many_long zero vs = step_parts _ refl (step_value {ws = λ xs. vs (length xs)} [] [] refl)
  many_long (suc n) vs = step_parts _ refl (run r λ x y p. step_bind (many_long n (λ k. vs (suc k))) λ xs ys q. step_value {ws = λ xs. vs (length xs)} (x ∷ xs) (y ∷ ys) (l.more x y xs ys p q))

  many_go : (n : ℕ) {ws : List Want} → InStep (W.times n w ∷ ws) (λ _. ws) h (many m n) (many m n)
  many_go n {ws} = many_long n (λ _. ws)

  run_many : (n : ℕ) → Runs (W.times n w) h (many m n)
  run_many n = record { go = many_go n }

  run_listed : Runs (W.list w) h (listed m)
  unfolding listed move
  run_listed = record { go = step_then (step_num _ refl) λ n. many_go n }

-- "0 then the first, or 1 then the second", both by what the number opens
choice : {A B : Type 0} {w : Want} {f : ℕ → List Want} {ws : List Want} {h : A → B} {a b : Reader A} → move w ≡ opens f → InStep (f 0 ++ ws) (λ _. ws) h a a → ((n : ℕ) → InStep (f (suc n) ++ ws) (λ _. ws) h b b) → InStep (w ∷ ws) (λ _. ws) h (either a b) (either a b)
unfolding either below
choice {A} {f = f} {ws} {h} {a} {b} e p q = step_then (step_such _ 5 (step_num _ e)) go
  where
    go : (k : ℕ) → InStep {A = A} (f k ++ ws) (λ _. ws) h (elim k [ zero ↦ a | suc _ ↦ b ]) (elim k [ zero ↦ a | suc _ ↦ b ])
    go zero = p
    go (suc n) = q n

-- behind a poison's kind
poison_go : (k : ℕ) {ws : List Want} → InStep (W.in_poison k ++ ws) (λ _. ws) (map_poison blank) (poison_of k) (poison_of k)
unfolding W.in_poison poison_of map_poison
poison_go k {ws} = go (eqb k 17)
  where
    go : (b : Bool) → InStep {A = Poison Spot} ((elim b as (λ _. List Want) [ true ↦ W.number ∷ [] | false ↦ W.times (get_or poison_fields k (0, 0)).0 W.number ∷ W.times (get_or poison_fields k (0, 0)).1 W.place ∷ [] ]) ++ ws) (λ _. ws) (map_poison blank)
        (elim b as (λ _. Reader (Poison Spot)) [ true ↦ num >>= λ n. ret (earlier n) | false ↦ many name (get_or poison_fields k (0, 0)).0 >>= λ ns. many place (get_or poison_fields k (0, 0)).1 >>= λ ps. ret (poison k ns ps) ])
        (elim b as (λ _. Reader (Poison Spot)) [ true ↦ num >>= λ n. ret (earlier n) | false ↦ many name (get_or poison_fields k (0, 0)).0 >>= λ ns. many place (get_or poison_fields k (0, 0)).1 >>= λ ps. ret (poison k ns ps) ])
    go true = run_same run_number λ n. step_ret _ _ refl
    go false = run_same (run_many lists_same run_name _) λ ns. run (run_many lists_map run_place _) λ ps qs z. step_ret _ _ (λ i. poison k ns (z i))

run_poison : Runs W.poison (map_poison blank) read_poison
unfolding read_poison move below
run_poison = record { go = step_then (step_such _ 5 (step_num W.poison refl)) λ k. poison_go k }

run_maybe : {A B : Type 0} {w : Want} {g : A → B} {m : Reader A} → Runs w g m → Runs (W.maybe w) (map_maybe blank g) (maybe m)
unfolding maybe move W.in_maybe map_maybe
run_maybe r = record { go = choice refl (run r λ x y z. step_ret _ _ (λ k. ok (z k))) (λ n. run run_poison λ x y z. step_ret _ _ (λ k. err (z k))) }

run_option : {A B : Type 0} {w : Want} {g : A → B} {m : Reader A} → Runs w g m → Runs (W.option w) (map_option g) (option m)
unfolding option move W.in_option map_option
run_option r = record { go = choice refl (step_ret _ _ refl) (λ n. run r λ x y z. step_ret _ _ (λ k. some (z k))) }

-- TYPES

ty_go : {t u : Reader (Ty Spot)} → Runs W.type (map_ty blank) t → Runs W.type (map_ty blank) u → (n : ℕ) (k : TyKind) {ws : List Want} → InStep (W.in_type k ++ ws) (λ _. ws) (map_ty blank) (ty_of t u n k) (ty_of t u n k)
unfolding W.in_type ty_of map_ty
ty_go t u n k_plain = step_ret _ _ refl
ty_go t u n k_array = run t λ x y p. run_same run_number λ l. step_ret _ _ (λ k. T.array (p k) l)
ty_go t u n k_named_length = run t λ x y p. run run_ident λ i j q. step_ret _ _ (λ k. T.array_with_named_length (p k) (q k))
ty_go t u n k_arraylike = run t λ x y p. step_ret _ _ (λ k. T.arraylike n (p k))
ty_go t u n k_struct = run run_ident λ i j q. step_ret _ _ (λ k. T.struct (q k))
ty_go t u n k_word = run run_ident λ i j q. run_same run_number λ z. step_ret _ _ (λ k. T.word (q k) z)
ty_go t u n k_unresolved = run run_ident λ i j q. step_ret _ _ (λ k. T.unresolved (q k))
ty_go t u n k_nameless = step_ret _ _ refl
ty_go t u n k_pointer = run u λ x y p. step_ret _ _ (λ k. T.pointer (p k))
ty_go t u n k_view = run u λ x y p. step_ret _ _ (λ k. T.view (p k))

run_ty : (d : ℕ) (own : Bool) → Runs W.type (map_ty blank) (read_ty d own)
unfolding read_ty move below
run_ty zero own = record { go = step_deep (step_such _ 5 (step_num W.type refl)) }
run_ty (suc d) own = record { go = step_then (step_such _ 9 (step_such _ 5 (step_num W.type refl))) λ n. ty_go (run_ty d own) (run_ty d false) n _ }

run_maybe_ty : (d : ℕ) (own : Bool) → Runs (W.maybe W.type) (map_maybe_ty blank) (maybe (read_ty d own))
unfolding map_maybe_ty
run_maybe_ty d own = run_maybe (run_ty d own)

run_carried : (d : ℕ) → Runs (W.option (W.maybe W.type)) (map_carried blank) (option (maybe (read_ty d false)))
unfolding map_carried
run_carried d = run_option (run_maybe_ty d false)

-- EXPRESSIONS, REFERENCES, STEPS

lists_nodes : {k : Kind} → Lists {A = Node Spot (one k)} (map_node blank) (λ xs. map_node blank (to_nodes xs))
unfolding to_nodes map_node
lists_nodes = record { more = λ x y xs ys p q. λ k. T.cons (p k) (q k) }

-- readers of the three kinds of nodes
record Nodes (r : Readers) : Type 0 where
  of_expr : Runs W.expr (map_node blank) (r expr)
  of_ref : Runs W.ref (map_node blank) (r ref)
  of_step : Runs W.step (map_node blank) (r step)

module _ {r : Readers} (d : ℕ) (N : Nodes r) where
  run_item : Runs W.item (map_node blank) (item_of r)
  unfolding item_of move map_node
  run_item = record { go = step_parts W.item refl (run (run_maybe run_ident) λ i j p. run_same run_number λ o. run N.of_expr λ x y q. step_ret _ _ (λ k. T.member_expression (p k) o (q k))) }

  expr_go : (k : ExprKind) {ws : List Want} → InStep (W.in_expr k ++ ws) (λ _. ws) (map_node blank) (expr_of r (read_ty d false) k) (expr_of r (read_ty d false) k)
  unfolding W.in_expr expr_of map_node read_binary read_unary read_boolean read_integer read_string read_array_literal read_structural read_parenthesized read_deref read_bit_cast read_type_cast read_length_of_array read_size_of read_function_call
  expr_go k_binary = run_same run_number λ op. run run_place λ p p' e. run run_place λ q q' f. run N.of_expr λ x x' g. run N.of_expr λ y y' h. step_ret _ _ (λ k. T.binary op (e k) (f k) (g k) (h k))
  expr_go k_unary = run_same run_number λ op. run run_place λ p p' e. run run_place λ q q' f. run N.of_expr λ x x' g. step_ret _ _ (λ k. T.unary op (e k) (f k) (g k))
  expr_go k_boolean = run_same (run_below 2) λ b. run run_place λ p p' e. step_ret _ _ (λ k. T.boolean b (e k))
  expr_go k_signed = run_same (run_raw 16) λ b. run run_place λ p p' e. run (run_carried d) λ c c' f. step_ret _ _ (λ k. T.signed b (e k) (f k))
  expr_go k_bits = run_same (run_raw 16) λ b. run run_place λ p p' e. run (run_carried d) λ c c' f. step_ret _ _ (λ k. T.bits b (e k) (f k))
  expr_go k_string = run_same run_bytes λ b. run run_place λ p p' e. step_ret _ _ (λ k. T.string b (e k))
  expr_go k_array_literal = run run_place λ p p' e. run (run_carried d) λ c c' f. run (run_listed lists_nodes N.of_expr) λ es es' g. run_same run_number λ i. step_ret _ _ (λ k. T.array_literal (e k) (f k) (g k) i)
  expr_go k_structural = run run_place λ p p' e. run (run_listed lists_nodes run_item) λ ms ms' f. run (run_maybe_ty d false) λ c c' g. step_ret _ _ (λ k. T.structural (e k) (f k) (g k))
  expr_go k_parenthesized = run run_place λ p p' e. run N.of_expr λ x x' f. step_ret _ _ (λ k. T.parenthesized (e k) (f k))
  expr_go k_deref = run (run_carried d) λ c c' e. run N.of_ref λ x x' f. step_ret _ _ (λ k. T.deref (e k) (f k))
  expr_go k_bit_cast = run run_place λ p p' e. run run_place λ q q' f. run (run_carried d) λ c c' g. run N.of_expr λ x x' h. step_ret _ _ (λ k. T.bit_cast (e k) (f k) (g k) (h k))
  expr_go k_type_cast = run run_place λ p p' e. run run_place λ q q' f. run (run_ty d false) λ c c' g. run N.of_expr λ x x' h. step_ret _ _ (λ k. T.type_cast (e k) (f k) (g k) (h k))
  expr_go k_length_of_array = run run_place λ p p' e. run N.of_ref λ x x' f. step_ret _ _ (λ k. T.length_of_array (e k) (f k))
  expr_go k_size_of = run run_place λ p p' e. run (run_ty d false) λ c c' f. step_ret _ _ (λ k. T.size_of (e k) (f k))
  expr_go k_function_call = run run_ident λ i i' e. run_same run_number λ b. run (run_carried d) λ c c' f. run (run_listed lists_nodes N.of_expr) λ es es' g. step_ret _ _ (λ k. T.function_call (e k) b (f k) (g k))
  expr_go k_bad_expr = run run_poison λ z z' e. step_ret _ _ (λ k. T.bad_expr (e k))

  step_of_go : (n : ℕ) {ws : List Want} → InStep (W.in_step n ++ ws) (λ _. ws) (map_node blank) (step_of r n) (step_of r n)
  unfolding W.in_step step_of map_node
  step_of_go zero = run_same (run_below 3) λ n. run N.of_expr λ x x' e. step_ret _ _ (λ k. T.element n (e k))
  step_of_go (suc n) = run run_ident λ i i' e. run_same run_number λ o. step_ret _ _ (λ k. T.member (e k) o)

  ref_go : (n : ℕ) {ws : List Want} → InStep (W.place ∷ W.place ∷ W.maybe W.ident ∷ W.list W.step ∷ ws) (λ _. ws) (map_node blank) (rest_of r (read_ty d false) ref n) (rest_of r (read_ty d false) ref n)
  unfolding rest_of map_node
  ref_go n = run run_place λ p p' e. run run_place λ q q' f. run (run_maybe run_ident) λ b b' g. run (run_listed lists_nodes N.of_step) λ ts ts' h. step_ret _ _ (λ k. T.reference n (e k) (f k) (g k) (h k))

run_nodes : (d : ℕ) → Nodes (read d)
unfolding read head rest_of move below
run_nodes zero = record {
  of_expr = record { go = step_deep (step_such _ 5 (step_num W.expr refl)) };
  of_ref = record { go = step_deep (step_such _ 5 (step_num W.ref refl)) };
  of_step = record { go = step_deep (step_such _ 5 (step_num W.step refl)) };
}
run_nodes (suc d) =
    let n = run_nodes d in
    record {
      of_expr = record { go = step_then (step_such _ 5 (step_num W.expr refl)) λ k. expr_go d n _ };
      of_ref = record { go = step_then (step_such _ 5 (step_num W.ref refl)) λ k. ref_go d n k };
      of_step = record { go = step_then (step_such _ 5 (step_num W.step refl)) λ k. step_of_go d n k };
    }

-- STATEMENTS

lists_stms : Lists {A = Stm Spot stmt} (map_stm blank) (λ ts. map_stm blank (to_stms ts))
unfolding to_stms map_stm
lists_stms = record { more = λ x y xs ys p q. λ k. T.cons' (p k) (q k) }

module _ (d : ℕ) {m : Reader (Stm Spot stmt)} (M : Runs W.stmt (map_stm blank) m) where
  run_value : Runs (W.option W.expr) (map_option (map_node blank)) (option (read d expr))
  run_value = run_option (run_nodes d).of_expr

  run_else : Runs (W.option W.else_branch) (map_stm blank) (else_of m)
  unfolding else_of move W.in_option map_stm
  run_else = record { go = choice refl (step_ret _ _ refl) (λ n. step_parts W.else_branch refl (run run_place λ p p' e. run M λ t t' f. step_ret _ _ (λ k. T.or_else (e k) (f k)))) }

  stmt_go : (k : StmtKind) {ws : List Want} → InStep (W.in_stmt k ++ ws) (λ _. ws) (map_stm blank) (stmt_of d m k) (stmt_of d m k)
  unfolding W.in_stmt stmt_of map_stm read_declaration read_assignment read_method_call read_jump read_if read_block
  stmt_go k_declaration = run run_place λ p p' e. run run_value λ v v' f. run (run_carried d) λ t t' g. run run_ident λ i i' h. step_ret _ _ (λ k. T.declaration (e k) (f k) (g k) (h k))
  stmt_go k_assignment = run run_place λ p p' e. run (run_nodes d).of_expr λ v v' f. run (run_nodes d).of_ref λ x x' g. step_ret _ _ (λ k. T.assignment (e k) (f k) (g k))
  stmt_go k_method_call = run run_ident λ i i' e. run_same run_number λ b. run (run_listed lists_nodes (run_nodes d).of_expr) λ es es' f. step_ret _ _ (λ k. T.method_call (e k) b (f k))
  stmt_go k_loop = run run_place λ p p' e. step_ret _ _ (λ k. T.loop (e k))
  stmt_go k_goto = run run_ident λ i i' e. run run_place λ p p' f. step_ret _ _ (λ k. T.goto (e k) (f k))
  stmt_go k_label = run run_ident λ i i' e. run run_place λ p p' f. step_ret _ _ (λ k. T.label (e k) (f k))
  stmt_go k_if = run run_place λ p p' e. run_same run_number λ op. run run_place λ q q' f. run run_place λ r r' g. run (run_nodes d).of_expr λ x x' h. run (run_nodes d).of_expr λ y y' i. run M λ a a' j. run run_else λ b b' l. step_ret _ _ (λ k. T.if_else (e k) op (f k) (g k) (h k) (i k) (j k) (l k))
  stmt_go k_block = run run_place λ p p' e. run (run_listed lists_stms M) λ ts ts' f. step_ret _ _ (λ k. T.block (e k) (f k))
  stmt_go k_bad_stmt = run run_poison λ z z' e. step_ret _ _ (λ k. T.bad_stmt (e k))

-- a statement's kind
head_go : {ws : List Want} → InStep (W.stmt ∷ ws) (λ k. W.in_stmt k ++ ws) id stmt_head stmt_head
unfolding stmt_head move below
head_go = step_then (step_such _ 5 (step_num W.stmt refl)) λ n. step_value _ _ refl

run_stmt : (d : ℕ) → Runs W.stmt (map_stm blank) (read_stmt d)
unfolding read_stmt
run_stmt zero = record { go = step_deep head_go }
run_stmt (suc d) = record { go = step_then (step_counting stmt_counts head_go) λ k. stmt_go d (run_stmt d) k }

-- DECLARATIONS

run_body : (d : ℕ) → Runs W.body (map_body blank) (read_body d)
unfolding read_body move map_body
run_body d = record { go = step_parts W.body refl (run (run_listed lists_stms (run_stmt d)) λ ts ts' e. run (run_option (run_nodes d).of_expr) λ v v' f. run run_ident λ i i' g. step_ret _ _ (λ k. record { statements = e k; value = f k; result = g k })) }

run_param : (d : ℕ) (own : Bool) → Runs W.param (map_param blank) (read_param d own)
unfolding read_param move map_param
run_param d own = record { go = step_parts W.param refl (step_bind (step_entry an_entry run_place.go) λ p p' e. run (run_maybe run_ident) λ i i' f. run (run_maybe_ty d own) λ t t' g. step_ret _ _ (λ k. record { place = e k; ident = f k; type = g k })) }

decl_go : (d : ℕ) (k : DeclKind) {ws : List Want} → InStep (W.in_decl k ++ ws) (λ _. ws) (map_decl blank) (decl_of d k) (decl_of d k)
unfolding W.in_decl decl_of map_decl read_constant read_function read_function_head read_structure read_import
decl_go d k_constant = run_same (run_below 32) λ f. run run_place λ p p' e. run run_place λ q q' g. run run_ident λ i i' h. run (run_nodes d).of_expr λ x x' j. run (run_maybe_ty d true) λ t t' l. step_ret _ _ (λ k. T.constant f (e k) (g k) (h k) (j k) (l k))
decl_go d k_function = run_same (run_below 32) λ f. run run_place λ p p' e. run run_place λ q q' g. run run_ident λ i i' h. run (run_listed lists_map (run_param d false)) λ ps ps' j. run (run_maybe (run_body d)) λ b b' l. run (run_maybe_ty d false) λ t t' m. step_ret _ _ (λ k. T.function f (e k) (g k) (h k) (j k) (l k) (m k))
decl_go d k_function_head = run_same (run_below 32) λ f. run run_place λ p p' e. run run_place λ q q' g. run run_ident λ i i' h. run (run_listed lists_map (run_param d false)) λ ps ps' j. run (run_maybe_ty d false) λ t t' m. step_ret _ _ (λ k. T.function_head f (e k) (g k) (h k) (j k) (m k))
decl_go d k_structure = run_same (run_below 32) λ f. run run_place λ p p' e. run run_ident λ i i' h. run (run_listed lists_map (run_param d true)) λ ms ms' j. run (run_maybe_ty d false) λ t t' m. step_ret _ _ (λ k. T.structure f (e k) (h k) (j k) (m k))
decl_go d k_import = run_same run_bytes λ b. run run_place λ p p' e. step_ret _ _ (λ k. T.import b (e k))
decl_go d k_bad_decl = run run_poison λ z z' e. step_ret _ _ (λ k. T.bad_decl (e k))

-- a declaration's kind
decl_head_go : {ws : List Want} → InStep (W.decl ∷ ws) (λ k. W.in_decl k ++ ws) id decl_head decl_head
unfolding decl_head move below
decl_head_go = step_then (step_such _ 5 (step_num W.decl refl)) λ n. step_value _ _ refl

run_decl : Runs W.decl (map_decl blank) read_decl
unfolding read_decl
run_decl = record { go = step_then (step_counting decl_counts decl_head_go) λ k. decl_go 63 k }

-- THE TREE

names_go : (k : ℕ) (before : List (List ℕ)) {ws : List Want} → InStep (W.times k W.bytes ∷ ws) (λ _. ws) id (read_names k before) (read_names k before)
unfolding read_names move W.in_times
names_go zero before = step_parts _ refl (step_ret _ _ refl)
names_go (suc k) before = step_parts _ refl (step_then (step_such _ 6 (step_num W.bytes refl)) λ n. step_then (step_such _ 6 (raw_go n)) λ b. names_go k _)

-- a depth for each declaration
each_many : (ds : List (Decl Spot)) → each incoming ds ≡ many (below 1) (length ds)
unfolding each many incoming
each_many [] = refl
each_many (d ∷ ds) = ap (λ (m : Reader (List ℕ)). below 1 >>= λ b. m >>= λ bs. ret (b ∷ bs)) (each_many ds)

each_go : (ds es : List (Decl Spot)) → map (map_decl blank) ds ≡ map (map_decl blank) es → {ws : List Want} → InStep (W.times (length ds) W.number ∷ ws) (λ _. ws) id (each incoming ds) (each incoming es)
each_go ds es e {ws} =
    let z : length ds ≡ length es = sym (length-map ds (map_decl blank)) ∙ ap length e ∙ length-map es (map_decl blank) in
    let r = many_go lists_same (run_below 1) (length ds) {ws = ws} in
    subst (λ (m : Reader (List ℕ)). InStep (W.times (length ds) W.number ∷ ws) (λ _. ws) id m (each incoming es)) (sym (each_many ds))
    (subst (λ (m : Reader (List ℕ)). InStep (W.times (length ds) W.number ∷ ws) (λ _. ws) id (many (below 1) (length ds)) m) (sym (each_many es ∙ ap (many (below 1)) (sym z))) r)

decls_go : {ws : List Want} → InStep (W.decls ∷ ws) (λ ds. W.times (length ds) W.number ∷ ws) (map (map_decl blank)) (listed read_decl) (listed read_decl)
unfolding listed move
decls_go {ws} = step_then (step_num W.decls refl) λ n. many_long lists_map run_decl n (λ k. W.times k W.number ∷ ws)

tabled_go : (n : ℕ) {ws : List Want} → InStep ws (λ _. ws) id (tabled n) (tabled n)
unfolding tabled
tabled_go n = record { at = λ s t e c a. goes refl a }

tree_go : InStep (W.tree ∷ []) (λ _. []) (map_tree blank) (read_tree incoming) (read_tree incoming)
unfolding read_tree move map_tree
tree_go = step_then (step_such _ 8 (step_num W.tree refl)) λ n. step_then (names_go n []) λ ns. step_then (tabled_go n) λ _. step_bind decls_go λ ds es e. step_then (each_go ds es e) λ hs. step_ret _ _ (λ k. record { names = ns; decls = e k; depths = hs })

-- what two such strings are decoded to
pub data Decoded : Got (Tree Spot) → Got (Tree Spot) → Type 0 where
  both_refused : {n p : ℕ} → Decoded (refused n p) (refused n p)
  both_read : {t t' : Tree Spot} {c c' : Cur} → map_tree blank t ≡ map_tree blank t' → Decoded (got t c) (got t' c')

ended_go : (s t : List ℕ) → length s ≡ length t → {ws : Tree Spot → List Want} (q q' : Got (Tree Spot)) → Both s t ws (map_tree blank) q q' → Decoded (ended s q) (ended t q')
unfolding ended
ended_go s t e _ _ stops = both_refused
ended_go s t e _ _ (goes {x} {y} {d} z a) = subst (λ (n : ℕ). Decoded (elim (ltb d.at (length s)) [ false ↦ got x d | true ↦ refused 10 d.at ]) (elim (ltb d.at n) [ false ↦ got y d | true ↦ refused 10 d.at ])) e (go (ltb d.at (length s)))
  where
    go : (b : Bool) → Decoded (elim b [ false ↦ got x d | true ↦ refused 10 d.at ]) (elim b [ false ↦ got y d | true ↦ refused 10 d.at ])
    go false = both_read z
    go true = both_refused

pub decoded_alike : (s t : List ℕ) → DifferInPlaces s t → Decoded (decode incoming s) (decode incoming t)
unfolding decode
decoded_alike s t h = ended_go s t h.long _ _ (tree_go.at s t h.long (record { at = 0; names = 0; counts = nothing }) h.alike)
