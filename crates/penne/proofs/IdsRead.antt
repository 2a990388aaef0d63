-- Every id has a byte of its own in the input: what is read takes at least as many bytes as both passes can give it ids.
use Prim.Native.Nat.{ℕ, zero, suc, ◌+◌, ◌*◌, ◌%◌, ◌^◌, ◌≤◌}
use mathlib.Core.Bool.{Bool, true, false, ◌&&◌, ◌||◌, not}
use mathlib.Core.Path.{◌≡◌, refl}
use mathlib.Core.List.{List, [], ◌∷◌}
use mathlib.Core.Option.{Option, none, some}
use lib.ListN.{length, get_or, take, drop}
use lib.Dec.{ltb, leb, eqb}
use native.Mathlib.Omega.{arith}
use borrow.Author.Tests.{ltb-true, leb-true}
use Rattle.penne.specs.Tree.{Spot, Ident, Poison, poison, earlier, Maybe, ok, err, Ty, Kind, expr, ref, step, item, one, Node, stmt, Stm, Param, Body, Decl, Tree}
use Rattle.penne.specs.Reader.{Counts, Cur, Got, got, refused, Reader, ◌>>=◌, ret, such, moved, last_group, groups, num, below, raw, bytes, many, listed, each, counting, counted, too_deep, plus, fits, nothing}
use Rattle.penne.specs.Read.{place, name, ident, poison_fields, poison_of, read_poison, either, maybe, option, TyKind, k_plain, k_array, k_named_length, k_arraylike, k_struct, k_word, k_unresolved, k_nameless, k_pointer, k_view, ty_of, read_ty, to_nodes, ExprKind, k_binary, k_unary, k_boolean, k_signed, k_bits, k_string, k_array_literal, k_structural, k_parenthesized, k_deref, k_bit_cast, k_type_cast, k_length_of_array, k_size_of, k_function_call, k_bad_expr, Readers, item_of, read_binary, read_unary, read_boolean, read_integer, read_string, read_array_literal, read_structural, read_parenthesized, read_deref, read_bit_cast, read_type_cast, read_length_of_array, read_size_of, read_function_call, expr_of, step_of, head, rest_of, read, to_stms, StmtKind, k_declaration, k_assignment, k_method_call, k_loop, k_goto, k_label, k_if, k_block, k_bad_stmt, else_of, read_declaration, read_assignment, read_method_call, read_jump, read_if, read_block, stmt_of, stmt_head, read_stmt, read_body, read_param, DeclKind, k_constant, k_function, k_function_head, k_structure, k_import, k_bad_decl, read_constant, read_function, read_function_head, read_structure, read_import, decl_of, decl_head, read_decl, read_names, tabled, read_tree, incoming, ended, decode}
use Rattle.penne.proofs.Leading.{Leads, never, leads_got, leads_no, leads_bind, leads_such, leads_deep}
use Rattle.penne.specs.Ids.{ids_node, ids_option, ids_stm, ids_body, ids_name, ids_params, ids_decl, ids_own, ids_decls, ids_labels, ids_labels_body, ids_labels_decl, ids_labels_decls}

-- BYTES SPENT

-- from c to d at least n bytes of s were read, but for `base` of them, and no byte that is not there
pub record Spent (n base : ℕ) (s : List ℕ) (c d : Cur) : Type 0 where
  pub bytes : n + c.at ≤ base + d.at
  pub inside : c.at ≤ length s → d.at ≤ length s

-- what m reads, with `base` bytes that were read before it, takes as many bytes as h says
pub record Costs {A : Type 0} (base : ℕ) (m : Reader A) (h : A → ℕ) : Type 0 where
  pub at : (s : List ℕ) (c : Cur) → {x : A} {d : Cur} → m s c ≡ got x d → Spent (h x) base s c d

module _ {A : Type 0} {base : ℕ} {m : Reader A} {h : A → ℕ} where
  costs : ((s : List ℕ) (c : Cur) → Leads (m s c) (λ x d. Spent (h x) base s c d)) → Costs base m h
  costs f = record { at = λ s c e. (f s c).to e }

  leads : Costs base m h → (s : List ℕ) (c : Cur) → Leads (m s c) (λ x d. Spent (h x) base s c d)
  leads g s c = record { to = g.at s c }

module _ {B : Type 0} {base : ℕ} {h : B → ℕ} where
  costs_ret : (b : B) → h b ≤ base → Costs base (ret b) h
  unfolding ret
  costs_ret b i = costs λ s c. leads_got b c (record { bytes = omega arith; inside = λ z. z })

  costs_bind : {A : Type 0} {m : Reader A} {f : A → Reader B} {g : A → ℕ} → Costs 0 m g → ((a : A) → Costs (base + g a) (f a) h) → Costs base (m >>= f) h
  costs_bind {m = m} {f} k l = costs λ s c. leads_bind m f s c λ x d e. record {
    to = λ {x = y} q.
        let u = k.at s c e in
        let v = (l x).at s d q in
        record { bytes = omega (arith, u.bytes, v.bytes); inside = λ z. v.inside (u.inside z) };
  }

  -- what is read costs something, but that is not counted
  costs_skip : {A : Type 0} {m : Reader A} {f : A → Reader B} {g : A → ℕ} → Costs 0 m g → ((a : A) → Costs base (f a) h) → Costs base (m >>= f) h
  costs_skip {m = m} {f} k l = costs λ s c. leads_bind m f s c λ x d e. record {
    to = λ {x = y} q.
        let u = k.at s c e in
        let v = (l x).at s d q in
        record { bytes = omega (arith, u.bytes, v.bytes); inside = λ z. v.inside (u.inside z) };
  }

module _ {A : Type 0} {base : ℕ} {m : Reader A} {h : A → ℕ} where
  pub costs_such : (test : A → Cur → Bool) (n : ℕ) → Costs base m h → Costs base (such m test n) h
  costs_such test n g = costs λ s c. leads_such m test n s c (leads g s c)

  -- the first number of something that counts costs what it costs
  pub costs_counting : (k : A → Counts) → Costs base m h → Costs base (counting k m) h
  unfolding counting counted
  costs_counting k g = costs λ s c. leads_bind (such m (λ a c. fits (plus c.counts (k a))) 8) _ s c λ x d e.
      let u = (costs_such (λ a c. fits (plus c.counts (k a))) 8 g).at s c e in
      leads_got x _ (record { bytes = u.bytes; inside = u.inside })

pub costs_deep : {A B : Type 0} {base : ℕ} {h : B → ℕ} (m : Reader A) → Costs {A = B} base (too_deep m) h
costs_deep m = costs λ s c. leads_deep m s c

-- NUMBERS AND BYTES

leads_last : (b w v start next : ℕ) (s : List ℕ) (c : Cur) → next ≤ length s → Leads (last_group b w v start next c) (λ _ d. (next ≤ d.at) × (d.at ≤ length s))
unfolding last_group moved
leads_last b w v start next s c h = go (ltb (v + b * w) (2 ^ 32) && (not (eqb b 0) || eqb w 1))
  where
    go : (t : Bool) → Leads {A = ℕ} (elim t [ true ↦ got (v + b * w) (moved c next) | false ↦ refused 4 start ]) (λ _ d. (next ≤ d.at) × (d.at ≤ length s))
    go true = leads_got _ _ (omega arith, h)
    go false = leads_no

leads_groups : (left start w v : ℕ) (s : List ℕ) (at : ℕ) (c : Cur) → Leads (groups left start w v s at c) (λ _ d. (at + 1 ≤ d.at) × (d.at ≤ length s))
unfolding groups
leads_groups zero start w v s at c = leads_no
leads_groups (suc left) start w v s at c = (elim (ltb at (length s)) as (λ t. ltb at (length s) ≡ t → Leads {A = ℕ} (elim t [ false ↦ refused 3 start | true ↦ elim (ltb (get_or s at 0) 128) [ false ↦ groups left start (w * 128) (v + (get_or s at 0 % 128) * w) s (at + 1) c | true ↦ last_group (get_or s at 0) w v start (at + 1) c ] ]) (λ _ d. (at + 1 ≤ d.at) × (d.at ≤ length s))) [
  | false ↦ λ e. leads_no
  | true ↦ λ e. (elim (ltb (get_or s at 0) 128) as (λ t. Leads {A = ℕ} (elim t [ false ↦ groups left start (w * 128) (v + (get_or s at 0 % 128) * w) s (at + 1) c | true ↦ last_group (get_or s at 0) w v start (at + 1) c ]) (λ _ d. (at + 1 ≤ d.at) × (d.at ≤ length s))) [
    | false ↦ (let r = leads_groups left start (w * 128) (v + (get_or s at 0 % 128) * w) s (at + 1) c in record { to = λ q. (let z = r.to q in (omega (arith, z.0), z.1)) })
    | true ↦ leads_last (get_or s at 0) w v start (at + 1) s c (omega (arith, ltb-true at (length s) e))
  ])
]) refl

pub costs_num : Costs 0 num (λ _. 1)
unfolding num
costs_num = costs λ s c. let r = leads_groups 5 c.at 1 0 s c.at c in record { to = λ q. let z = r.to q in record { bytes = omega (arith, z.0); inside = λ _. z.1 } }

pub costs_below : (k : ℕ) → Costs 0 (below k) (λ _. 1)
unfolding below
costs_below k = costs_such _ _ costs_num

pub costs_name : Costs 0 name (λ _. 1)
unfolding name
costs_name = costs_such _ _ costs_num

pub costs_place : Costs 0 place (λ _. 1)
unfolding place
costs_place = record { at = λ s c. let spot : ℕ → Spot = λ n. record { number = n; from = c.at } in (let r : Costs 0 (num >>= λ n. ret (spot n)) (λ _. 1) = costs_bind costs_num λ n. costs_ret (spot n) (omega arith) in r.at s c) }

pub costs_ident : Costs 0 ident (λ _. 1)
unfolding ident
costs_ident = record {
  at = λ s c.
      let made : ℕ → ℕ → ℕ → ℕ → Ident Spot = λ n p i a. record { name = n; place = record { number = p; from = c.at }; id = i; auth = a } in
      (let r : Costs 0 (name >>= λ n. num >>= λ p. num >>= λ i. below 2 >>= λ a. ret (made n p i a)) (λ _. 1)
      = costs_bind costs_name λ n. costs_skip costs_num λ p. costs_skip costs_num λ i. costs_skip (costs_below 2) λ a. costs_ret (made n p i a) (omega arith) in r.at s c);
}

pub costs_raw : (n : ℕ) → Costs 0 (raw n) (λ _. 0)
unfolding raw moved
costs_raw n = costs λ s c. (elim (leb (c.at + n) (length s)) as (λ t. leb (c.at + n) (length s) ≡ t → Leads {A = List ℕ} (elim t [ true ↦ got (take n (drop c.at s)) (moved c (c.at + n)) | false ↦ refused 3 c.at ]) (λ _ d. Spent 0 0 s c d)) [
  | true ↦ λ e. leads_got _ _ (record { bytes = omega arith; inside = λ _. leb-true _ _ e })
  | false ↦ λ e. leads_no
]) refl

pub costs_bytes : Costs 0 bytes (λ _. 0)
unfolding bytes
costs_bytes = costs_skip costs_num costs_raw

-- LISTS AND CHOICES

-- w is the weight of a list whose items have the weight h
record Sums {A : Type 0} (h : A → ℕ) (w : List A → ℕ) : Type 0 where
  none : w [] ≡ 0
  more : (x : A) (xs : List A) → w (x ∷ xs) ≡ h x + w xs

module _ {A : Type 0} {m : Reader A} {h : A → ℕ} {w : List A → ℕ} (z : Sums h w) where
  costs_many : Costs 0 m h → (n : ℕ) → Costs 0 (many m n) w
  unfolding many
  costs_many g zero = costs_ret _ (omega (arith, z.none))
  costs_many g (suc n) = costs_bind g λ x. costs_bind (costs_many g n) λ xs. costs_ret _ (omega (arith, z.more x xs))

  costs_listed : Costs 0 m h → Costs 0 (listed m) w
  unfolding listed
  costs_listed g = costs_skip costs_num (costs_many g)

costs_either : {A : Type 0} {base : ℕ} {h : A → ℕ} {a b : Reader A} → Costs base a h → Costs base b h → Costs base (either a b) h
unfolding either
costs_either {A} {base} {h} {a} {b} x y = costs_skip (costs_below 2) go
  where
    go : (k : ℕ) → Costs {A = A} base (elim k [ zero ↦ a | suc _ ↦ b ]) h
    go zero = x
    go (suc k) = y

pub costs_poison : Costs 0 read_poison (λ _. 0)
unfolding read_poison poison_of
costs_poison = costs_skip (costs_below 18) λ k. go k (eqb k 17)
  where
    go : (k : ℕ) (t : Bool) → Costs {A = Poison Spot} 0 (elim t [ true ↦ num >>= λ n. ret (earlier n) | false ↦ many name (get_or poison_fields k (0, 0)).0 >>= λ ns. many place (get_or poison_fields k (0, 0)).1 >>= λ ps. ret (poison k ns ps) ]) (λ _. 0)
    go k true = costs_skip costs_num λ n. costs_ret _ (omega arith)
    go k false = costs_skip (costs_many {h = λ _. 1} {w = length} (record { none = refl; more = λ x xs. omega arith }) costs_name _) λ ns. costs_skip (costs_many {h = λ _. 1} {w = length} (record { none = refl; more = λ x xs. omega arith }) costs_place _) λ ps. costs_ret _ (omega arith)

costs_maybe : {A : Type 0} {m : Reader A} {h : A → ℕ} {w : Maybe Spot A → ℕ} → Costs 0 m h → ((x : A) → w (ok x) ≤ h x) → ((z : Poison Spot) → w (err z) ≤ 0) → Costs 0 (maybe m) w
unfolding maybe
costs_maybe g i j = costs_either (costs_bind g λ x. costs_ret _ (omega (arith, i x))) (costs_skip costs_poison λ z. costs_ret _ (j z))

costs_option : {A : Type 0} {m : Reader A} {h : A → ℕ} {w : Option A → ℕ} → Costs 0 m h → ((x : A) → w (some x) ≤ h x) → w none ≤ 0 → Costs 0 (option m) w
unfolding option
costs_option g i j = costs_either (costs_ret _ j) (costs_bind g λ x. costs_ret _ (omega (arith, i x)))

-- TYPES

-- a poison in the place of what has no weight
pub costs_maybe_none : {A : Type 0} {m : Reader A} {h : A → ℕ} → Costs 0 m h → Costs 0 (maybe m) (λ _. 0)
costs_maybe_none g = costs_maybe g (λ x. omega arith) (λ z. omega arith)

costs_ty_kind : {t u : Reader (Ty Spot)} → Costs 0 t (λ _. 0) → Costs 0 u (λ _. 0) → (n : ℕ) (k : TyKind) → Costs 0 (ty_of t u n k) (λ _. 0)
unfolding ty_of
costs_ty_kind t u n k_plain = costs_ret _ (omega arith)
costs_ty_kind t u n k_array = costs_skip t λ x. costs_skip costs_num λ l. costs_ret _ (omega arith)
costs_ty_kind t u n k_named_length = costs_skip t λ x. costs_skip costs_ident λ i. costs_ret _ (omega arith)
costs_ty_kind t u n k_arraylike = costs_skip t λ x. costs_ret _ (omega arith)
costs_ty_kind t u n k_struct = costs_skip costs_ident λ i. costs_ret _ (omega arith)
costs_ty_kind t u n k_word = costs_skip costs_ident λ i. costs_skip costs_num λ z. costs_ret _ (omega arith)
costs_ty_kind t u n k_unresolved = costs_skip costs_ident λ i. costs_ret _ (omega arith)
costs_ty_kind t u n k_nameless = costs_ret _ (omega arith)
costs_ty_kind t u n k_pointer = costs_skip u λ x. costs_ret _ (omega arith)
costs_ty_kind t u n k_view = costs_skip u λ x. costs_ret _ (omega arith)

pub costs_ty : (d : ℕ) (own : Bool) → Costs 0 (read_ty d own) (λ _. 0)
unfolding read_ty
costs_ty zero own = costs_deep _
costs_ty (suc d) own = costs_skip (costs_such _ _ (costs_below 26)) λ n. costs_ty_kind (costs_ty d own) (costs_ty d false) n _

pub costs_carried : (d : ℕ) → Costs 0 (option (maybe (read_ty d false))) (λ _. 0)
costs_carried d = costs_option (costs_maybe_none (costs_ty d false)) (λ _. omega arith) (omega arith)

-- EXPRESSIONS, REFERENCES, STEPS

sums_nodes : {k : Kind} → Sums {A = Node Spot (one k)} ids_node (λ xs. ids_node (to_nodes xs))
unfolding ids_node to_nodes
sums_nodes = record { none = refl; more = λ x xs. refl }

module _ {r : Readers} (d : ℕ) (R : (k : Kind) → Costs 0 (r k) ids_node) where
  costs_item : Costs 0 (item_of r) ids_node
  unfolding item_of ids_node
  costs_item = costs_skip (costs_maybe_none costs_ident) λ i. costs_skip costs_num λ o. costs_bind (R expr) λ x. costs_ret _ (omega arith)

  -- behind the byte of the kind
  costs_expr_kind : (k : ExprKind) → Costs 1 (expr_of r (read_ty d false) k) ids_node
  unfolding expr_of ids_node read_binary read_unary read_boolean read_integer read_string read_array_literal read_structural read_parenthesized read_deref read_bit_cast read_type_cast read_length_of_array read_size_of read_function_call
  costs_expr_kind k_binary = costs_skip costs_num λ op. costs_skip costs_place λ p. costs_skip costs_place λ q. costs_bind (R expr) λ x. costs_bind (R expr) λ y. costs_ret _ (omega arith)
  costs_expr_kind k_unary = costs_skip costs_num λ op. costs_skip costs_place λ p. costs_skip costs_place λ q. costs_bind (R expr) λ x. costs_ret _ (omega arith)
  costs_expr_kind k_boolean = costs_skip (costs_below 2) λ b. costs_skip costs_place λ p. costs_ret _ (omega arith)
  costs_expr_kind k_signed = costs_skip (costs_raw 16) λ b. costs_skip costs_place λ p. costs_skip (costs_carried d) λ c. costs_ret _ (omega arith)
  costs_expr_kind k_bits = costs_skip (costs_raw 16) λ b. costs_skip costs_place λ p. costs_skip (costs_carried d) λ c. costs_ret _ (omega arith)
  costs_expr_kind k_string = costs_skip costs_bytes λ b. costs_skip costs_place λ p. costs_ret _ (omega arith)
  costs_expr_kind k_array_literal = costs_skip costs_place λ p. costs_skip (costs_carried d) λ c. costs_bind (costs_listed sums_nodes (R expr)) λ es. costs_skip costs_num λ i. costs_ret _ (omega arith)
  costs_expr_kind k_structural = costs_skip costs_place λ p. costs_bind (costs_listed sums_nodes costs_item) λ ms. costs_skip (costs_maybe_none (costs_ty d false)) λ c. costs_ret _ (omega arith)
  costs_expr_kind k_parenthesized = costs_skip costs_place λ p. costs_bind (R expr) λ x. costs_ret _ (omega arith)
  costs_expr_kind k_deref = costs_skip (costs_carried d) λ c. costs_bind (R ref) λ x. costs_ret _ (omega arith)
  costs_expr_kind k_bit_cast = costs_skip costs_place λ p. costs_skip costs_place λ q. costs_skip (costs_carried d) λ c. costs_bind (R expr) λ x. costs_ret _ (omega arith)
  costs_expr_kind k_type_cast = costs_skip costs_place λ p. costs_skip costs_place λ q. costs_skip (costs_ty d false) λ c. costs_bind (R expr) λ x. costs_ret _ (omega arith)
  costs_expr_kind k_length_of_array = costs_skip costs_place λ p. costs_bind (R ref) λ x. costs_ret _ (omega arith)
  costs_expr_kind k_size_of = costs_skip costs_place λ p. costs_skip (costs_ty d false) λ c. costs_ret _ (omega arith)
  costs_expr_kind k_function_call = costs_skip costs_ident λ i. costs_skip costs_num λ b. costs_skip (costs_carried d) λ c. costs_bind (costs_listed sums_nodes (R expr)) λ es. costs_ret _ (omega arith)
  costs_expr_kind k_bad_expr = costs_skip costs_poison λ p. costs_ret _ (omega arith)

  costs_step_kind : (n : ℕ) → Costs 0 (step_of r n) ids_node
  unfolding step_of ids_node
  costs_step_kind zero = costs_skip (costs_below 3) λ n. costs_bind (R expr) λ x. costs_ret _ (omega arith)
  costs_step_kind (suc k) = costs_skip costs_ident λ i. costs_skip costs_num λ o. costs_ret _ (omega arith)

  costs_node : (k : Kind) → Costs 0 (head k >>= λ n. rest_of r (read_ty d false) k n) ids_node
  unfolding head rest_of ids_node
  costs_node expr = costs_bind (costs_below 16) λ n. costs_expr_kind _
  costs_node ref = costs_skip (costs_below 256) λ n. costs_skip costs_place λ p. costs_skip costs_place λ q. costs_skip (costs_maybe_none costs_ident) λ b. costs_bind (costs_listed sums_nodes (R step)) λ ts. costs_ret _ (omega arith)
  costs_node step = costs_skip (costs_below 2) λ n. costs_step_kind n
  costs_node item = costs_skip {g = λ _. 0} (costs_ret _ (omega arith)) λ n. costs_item

-- an expression, reference or step takes at least as many bytes as ids
pub costs_read : (d : ℕ) (k : Kind) → Costs 0 (read d k) ids_node
unfolding read
costs_read zero k = costs_deep _
costs_read (suc d) k = costs_node d (costs_read d) k

costs_value : (d : ℕ) → Costs 0 (option (read d expr)) ids_option
unfolding ids_option
costs_value d = costs_option (costs_read d expr) (λ x. omega arith) (omega arith)

-- STATEMENTS: the ids of variables and those of labels together

abbrev pub ids_both : {s : _} → Stm Spot s → ℕ
ids_both t = ids_stm t + ids_labels t

sums_stms : Sums {A = Stm Spot stmt} ids_both (λ ts. ids_both (to_stms ts))
unfolding ids_stm ids_labels to_stms
sums_stms = record { none = refl; more = λ x xs. omega arith }

module _ (d : ℕ) {m : Reader (Stm Spot stmt)} (M : Costs 0 m ids_both) where
  costs_else : Costs 0 (else_of m) ids_both
  unfolding else_of ids_stm ids_labels
  costs_else = costs_either (costs_ret _ (omega arith)) (costs_skip costs_place λ p. costs_bind M λ t. costs_ret _ (omega arith))

  -- behind the byte of the kind
  costs_stmt_kind : (k : StmtKind) → Costs 1 (stmt_of d m k) ids_both
  unfolding stmt_of ids_stm ids_labels read_declaration read_assignment read_method_call read_jump read_if read_block
  costs_stmt_kind k_declaration = costs_skip costs_place λ p. costs_bind (costs_value d) λ v. costs_skip (costs_carried d) λ t. costs_skip costs_ident λ i. costs_ret _ (omega arith)
  costs_stmt_kind k_assignment = costs_skip costs_place λ p. costs_bind (costs_read d expr) λ v. costs_bind (costs_read d ref) λ x. costs_ret _ (omega arith)
  costs_stmt_kind k_method_call = costs_skip costs_ident λ i. costs_skip costs_num λ b. costs_bind (costs_listed sums_nodes (costs_read d expr)) λ es. costs_ret _ (omega arith)
  costs_stmt_kind k_loop = costs_skip costs_place λ p. costs_ret _ (omega arith)
  costs_stmt_kind k_goto = costs_skip costs_ident λ i. costs_skip costs_place λ p. costs_ret _ (omega arith)
  costs_stmt_kind k_label = costs_skip costs_ident λ i. costs_skip costs_place λ p. costs_ret _ (omega arith)
  costs_stmt_kind k_if = costs_skip costs_place λ p. costs_skip costs_num λ op. costs_skip costs_place λ q. costs_skip costs_place λ r. costs_bind (costs_read d expr) λ x. costs_bind (costs_read d expr) λ y. costs_bind M λ a. costs_bind costs_else λ b. costs_ret _ (omega arith)
  costs_stmt_kind k_block = costs_skip costs_place λ p. costs_bind (costs_listed sums_stms M) λ ts. costs_ret _ (omega arith)
  costs_stmt_kind k_bad_stmt = costs_skip costs_poison λ p. costs_ret _ (omega arith)

pub costs_head : Costs 0 stmt_head (λ _. 1)
unfolding stmt_head
costs_head = costs_bind (costs_below 9) λ n. costs_ret _ (omega arith)

-- a statement takes at least as many bytes as ids
pub costs_stmt : (d : ℕ) → Costs 0 (read_stmt d) ids_both
unfolding read_stmt
costs_stmt zero = costs_deep _
costs_stmt (suc d) = costs_bind (costs_counting _ costs_head) λ k. costs_stmt_kind d (costs_stmt d) k

-- DECLARATIONS

abbrev pub both_body : Maybe Spot (Body Spot) → ℕ
both_body b = ids_body b + ids_labels_body b

-- the body's own id stands for the byte of its identifier
costs_body : (d : ℕ) → Costs 0 (read_body d) (λ b. both_body (ok b))
unfolding read_body ids_body ids_labels_body
costs_body d = costs_bind (costs_listed sums_stms (costs_stmt d)) λ ts. costs_bind (costs_value d) λ v. costs_bind costs_ident λ i. costs_ret _ (omega arith)

costs_maybe_body : (d : ℕ) → Costs 0 (maybe (read_body d)) both_body
unfolding ids_body ids_labels_body
costs_maybe_body d = costs_maybe (costs_body d) (λ b. omega arith) (λ z. omega arith)

costs_param : (d : ℕ) (own : Bool) → Costs 0 (read_param d own) (λ x. ids_name x.ident)
unfolding read_param ids_name
costs_param d own = costs_skip (costs_counting _ costs_place) λ p. costs_bind (costs_maybe {w = ids_name} costs_ident one_name no_name) λ i. costs_skip (costs_maybe_none (costs_ty d own)) λ t. costs_ret _ (omega arith)
  where
    one_name : (i : Ident Spot) → ids_name {P = Spot} (ok i) ≤ 1
    one_name i = omega arith

    no_name : (z : Poison Spot) → ids_name {P = Spot} (err z) ≤ 0
    no_name z = omega arith

sums_params : Sums {A = Param Spot} (λ x. ids_name x.ident) ids_params
unfolding ids_params
sums_params = record { none = refl; more = λ x xs. refl }

-- a declaration with its name, its variables and its labels
abbrev pub both_decl : Decl Spot → ℕ
both_decl d = ids_own d + ids_decl d + ids_labels_decl d

pub costs_params : (d : ℕ) (own : Bool) → Costs 0 (listed (read_param d own)) ids_params
costs_params d own = costs_listed sums_params (costs_param d own)

costs_decl_kind : (d : ℕ) (k : DeclKind) → Costs 1 (decl_of d k) both_decl
unfolding decl_of ids_own ids_decl ids_labels_decl read_constant read_function read_function_head read_structure read_import
costs_decl_kind d k_constant = costs_skip (costs_below 32) λ f. costs_skip costs_place λ p. costs_skip costs_place λ q. costs_skip costs_ident λ i. costs_bind (costs_read d expr) λ x. costs_skip (costs_maybe_none (costs_ty d true)) λ t. costs_ret _ (omega arith)
costs_decl_kind d k_function = costs_skip (costs_below 32) λ f. costs_skip costs_place λ p. costs_skip costs_place λ q. costs_skip costs_ident λ i. costs_bind (costs_params d false) λ ps. costs_bind (costs_maybe_body d) λ b. costs_skip (costs_maybe_none (costs_ty d false)) λ t. costs_ret _ (omega arith)
costs_decl_kind d k_function_head = costs_skip (costs_below 32) λ f. costs_skip costs_place λ p. costs_skip costs_place λ q. costs_skip costs_ident λ i. costs_bind (costs_params d false) λ ps. costs_skip (costs_maybe_none (costs_ty d false)) λ t. costs_ret _ (omega arith)
costs_decl_kind d k_structure = costs_skip (costs_below 32) λ f. costs_skip costs_place λ p. costs_skip costs_ident λ i. costs_bind (costs_params d true) λ ms. costs_skip (costs_maybe_none (costs_ty d false)) λ t. costs_ret _ (omega arith)
costs_decl_kind d k_import = costs_skip costs_bytes λ b. costs_skip costs_place λ p. costs_ret _ (omega arith)
costs_decl_kind d k_bad_decl = costs_skip costs_poison λ z. costs_ret _ (omega arith)

pub costs_decl_head : Costs 0 decl_head (λ _. 1)
unfolding decl_head
costs_decl_head = costs_bind (costs_below 6) λ n. costs_ret _ (omega arith)

-- a declaration takes at least as many bytes as ids
pub costs_decl : Costs 0 read_decl both_decl
unfolding read_decl
costs_decl = costs_bind (costs_counting _ costs_decl_head) λ k. costs_decl_kind 63 k

-- THE TREE

abbrev pub both_decls : List (Decl Spot) → ℕ
both_decls ds = ids_decls ds + ids_labels_decls ds

sums_decls : Sums both_decl both_decls
unfolding ids_decls ids_labels_decls
sums_decls = record { none = refl; more = λ x xs. omega arith }

pub costs_names : (k : ℕ) (before : List (List ℕ)) → Costs 0 (read_names k before) (λ _. 0)
unfolding read_names
costs_names zero before = costs_ret _ (omega arith)
costs_names (suc k) before = costs_skip (costs_such _ _ costs_num) λ n. costs_skip (costs_such _ _ (costs_raw n)) λ b. costs_names k _

pub costs_tabled : (n : ℕ) → Costs 0 (tabled n) (λ _. 0)
unfolding tabled
costs_tabled n = costs λ s c. leads_got _ _ (record { bytes = omega arith; inside = λ z. z })

pub costs_each : (ds : List (Decl Spot)) → Costs 0 (each incoming ds) (λ _. length ds)
unfolding each incoming
costs_each [] = costs_ret _ (omega arith)
costs_each (d ∷ ds) = costs_bind (costs_below 1) λ h. costs_bind (costs_each ds) λ hs. costs_ret _ (omega arith)

costs_all : (k : ℕ) → Costs 1 (many read_decl k) (λ ds. 1 + both_decls ds)
costs_all k = record { at = λ s c e. (let u = (costs_many sums_decls costs_decl k).at s c e in record { bytes = omega (arith, u.bytes); inside = u.inside }) }

-- two counts, the declarations, a depth for each
pub costs_tree : Costs 0 (read_tree incoming) (λ t. 2 + both_decls t.decls + length t.decls)
unfolding read_tree listed
costs_tree = costs_bind (costs_such _ _ costs_num) λ n. costs_skip (costs_names n []) λ ns. costs_skip (costs_tabled n) λ _. costs_bind (costs_bind costs_num λ k. costs_all k) λ ds. costs_bind (costs_each ds) λ hs. costs_ret _ (omega arith)

-- the same, where no depth is read
costs_no_depth : (ds : List (Decl Spot)) → Costs 0 (each {B = ℕ} (λ d. ret 0) ds) (λ _. 0)
unfolding each
costs_no_depth [] = costs_ret _ (omega arith)
costs_no_depth (d ∷ ds) = costs_skip (costs_ret {h = λ _. 0} 0 (omega arith)) λ h. costs_skip (costs_no_depth ds) λ hs. costs_ret _ (omega arith)

costs_declared : Costs 0 (read_tree (λ d. ret 0)) (λ t. 2 + both_decls t.decls)
unfolding read_tree listed
costs_declared = costs_bind (costs_such _ _ costs_num) λ n. costs_skip (costs_names n []) λ ns. costs_skip (costs_tabled n) λ _. costs_bind (costs_bind costs_num λ k. costs_all k) λ ds. costs_skip (costs_no_depth ds) λ hs. costs_ret _ (omega arith)

-- what is read but for the depths takes so many bytes
pub declared_bytes : (s : List ℕ) {t : Tree Spot} {c : Cur} → read_tree (λ d. ret 0) s (record { at = 0; names = 0; counts = nothing }) ≡ got t c → 2 + both_decls t.decls ≤ length s
declared_bytes s e =
    let z = costs_declared.at s (record { at = 0; names = 0; counts = nothing }) e in
    omega (arith, z.bytes, z.inside (omega arith))

pub ended_got : {A : Type 0} (s : List ℕ) (q : Got A) {x : A} {d : Cur} → ended s q ≡ got x d → q ≡ got x d
unfolding ended
ended_got {A} s (got a c) {x} {d} e = go (ltb c.at (length s)) e
  where
    go : (b : Bool) → ◌≡◌ {A = Got A} (elim b [ false ↦ got a c | true ↦ refused 10 c.at ]) (got x d) → got a c ≡ got x d
    go false e = e
    go true e = never e
ended_got s (refused n p) e = never e

-- what is decoded takes so many bytes
pub decoded_bytes : (s : List ℕ) {t : Tree Spot} {c : Cur} → decode incoming s ≡ got t c → 2 + both_decls t.decls + length t.decls ≤ length s
unfolding decode
decoded_bytes s e =
    let z = costs_tree.at s (record { at = 0; names = 0; counts = nothing }) (ended_got s _ e) in
    omega (arith, z.bytes, z.inside (omega arith))
