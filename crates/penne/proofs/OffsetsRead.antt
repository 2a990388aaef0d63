-- The offsets of uses rise along what is read: the parts of a tree that hold uses stand in the order in which they are read.
use Prim.Native.Nat.{ℕ, zero, suc}
use mathlib.Core.Bool.{true, false}
use mathlib.Core.Path.{◌≡◌, refl, sym, ◌∙◌, ap, subst}
use mathlib.Core.List.{List, [], ◌∷◌, ◌++◌, flat_map, append_assoc, append-nil}
use mathlib.Core.Option.{none}
use native.Mathlib.Omega.{arith}
use lib.ListN.{length}
use Rattle.penne.specs.Tree.{Spot, Poison, Maybe, ok, err, Kind, expr, ref, step, item, one, Node, stmt, Stm, Body, Decl, constant, function, function_head, structure, import, bad_decl, Tree}
use Rattle.penne.specs.Reader.{Cur, got, Reader, ◌>>=◌, ret, many, listed, too_deep, nothing}
use Rattle.penne.specs.Read.{ident, either, maybe, option, read_ty, to_nodes, ExprKind, k_binary, k_unary, k_boolean, k_signed, k_bits, k_string, k_array_literal, k_structural, k_parenthesized, k_deref, k_bit_cast, k_type_cast, k_length_of_array, k_size_of, k_function_call, k_bad_expr, Readers, item_of, read_binary, read_unary, read_boolean, read_integer, read_string, read_array_literal, read_structural, read_parenthesized, read_deref, read_bit_cast, read_type_cast, read_length_of_array, read_size_of, read_function_call, expr_of, step_of, head, rest_of, read, to_stms, StmtKind, k_declaration, k_assignment, k_method_call, k_loop, k_goto, k_label, k_if, k_block, k_bad_stmt, else_of, read_declaration, read_assignment, read_method_call, read_jump, read_if, read_block, stmt_of, read_stmt, read_body, DeclKind, k_constant, k_function, k_function_head, k_structure, k_import, k_bad_decl, read_constant, read_function, read_function_head, read_structure, read_import, decl_of, read_decl, read_tree, incoming, decode}
use Rattle.penne.specs.Order.{Rising, end}
use Rattle.penne.specs.Standing.{Point, base, declares, other, Outline, empty, point, both, outline, outline_option, outline_stm, outline_body, any_type}
use Rattle.penne.proofs.Leading.{Leads, leads_got, leads_bind, leads_deep}
use Rattle.penne.proofs.IdsRead.{Costs, costs_such, costs_counting, costs_num, costs_below, costs_place, costs_ident, costs_raw, costs_bytes, costs_poison, costs_maybe_none, costs_ty, costs_carried, costs_head, costs_params, costs_decl_head, costs_names, costs_tabled, costs_each, costs_tree, ended_got}
use Rattle.penne.proofs.Rising.{rising_to, rising_from, rising_one, rising_append}

-- OFFSETS IN A TREE

-- the identifiers that an outline holds, by their offsets
unfoldable pub offsets_at : Point → List ℕ
offsets_at (base (ok i)) = i.place.from ∷ []
offsets_at (base (err z)) = []
offsets_at (declares i) = i.place.from ∷ []
offsets_at other = []

unfoldable pub offsets_of : Outline → List ℕ
offsets_of empty = []
offsets_of (point p) = offsets_at p
offsets_of (both x y) = offsets_of x ++ offsets_of y

-- those of an expression, whether or not a cast keeps it from being looked at; of statements; of a body; of a declaration
abbrev pub in_node : {s : _} → Node Spot s → List ℕ
in_node x = offsets_of (outline any_type x)

abbrev pub in_stm : {s : _} → Stm Spot s → List ℕ
in_stm t = offsets_of (outline_stm any_type t)

unfoldable pub in_body : Maybe Spot (Body Spot) → List ℕ
in_body (ok b) = offsets_of (outline_body any_type b)
in_body (err z) = []

unfoldable pub in_decl : Decl Spot → List ℕ
in_decl (constant f p q i x t) = in_node x
in_decl (function f p q i ps b t) = in_body b
in_decl (function_head f p q i ps t) = []
in_decl (structure f p i ms t) = []
in_decl (import b p) = []
in_decl (bad_decl z) = []

-- READING

-- `all` are the offsets that came before, and then those read from c to d, which rise
record Along (before all : List ℕ) (c d : Cur) : Type 0 where
  here : List ℕ
  are : all ≡ before ++ here
  rise : Rising c.at d.at here

-- what m reads has the offsets h, behind those that came before it
record Rises {A : Type 0} (before : List ℕ) (m : Reader A) (h : A → List ℕ) : Type 0 where
  at : (s : List ℕ) (c : Cur) → {x : A} {d : Cur} → m s c ≡ got x d → Along before (h x) c d

module _ {B : Type 0} {before : List ℕ} {h : B → List ℕ} where
  rises_ret : (b : B) → h b ≡ before → Rises before (ret b) h
  unfolding ret
  rises_ret b e = record { at = λ s c. (leads_got {X = λ x d. Along before (h x) c d} b c (record { here = []; are = e ∙ sym (append-nil before); rise = end (omega arith) })).to }

  rises_bind : {A : Type 0} {m : Reader A} {f : A → Reader B} {g : A → List ℕ} → Rises [] m g → ((a : A) → Rises (before ++ g a) (f a) h) → Rises before (m >>= f) h
  rises_bind {m = m} {f} {g} k l = record {
    at = λ s c. (leads_bind {X = λ x d. Along before (h x) c d} m f s c (λ x d e. record {
      to = λ q.
          let u = k.at s c e in
          let v = (l x).at s d q in
          record {
            here = u.here ++ v.here;
            are = v.are ∙ append_assoc before (g x) v.here ∙ ap (λ (l : List ℕ). before ++ (l ++ v.here)) u.are;
            rise = rising_append u.rise v.rise;
          };
    })).to;
  }

  -- what is read holds no use
  rises_skip : {A : Type 0} {m : Reader A} {f : A → Reader B} {g : A → ℕ} → Costs 0 m g → ((a : A) → Rises before (f a) h) → Rises before (m >>= f) h
  rises_skip {m = m} {f} k l = record {
    at = λ s c. (leads_bind {X = λ x d. Along before (h x) c d} m f s c (λ x d e. record {
      to = λ q.
          let u = k.at s c e in
          let v = (l x).at s d q in
          record { here = v.here; are = v.are; rise = rising_from (omega (arith, u.bytes)) v.rise };
    })).to;
  }

-- an identifier's offset is where it begins
ident_at : (s : List ℕ) (c : Cur) → Leads (ident s c) (λ i d. i.place.from ≡ c.at)
unfolding ident ret
ident_at s c = leads_bind _ _ s c λ n d₁ e₁. leads_bind _ _ s d₁ λ p d₂ e₂. leads_bind _ _ s d₂ λ i d₃ e₃. leads_bind _ _ s d₃ λ a d₄ e₄. leads_got _ _ refl

rises_ident : Rises [] ident (λ i. i.place.from ∷ [])
rises_ident = record {
  at = λ s c {x = i} {d = d} e.
      let u = costs_ident.at s c e in
      let z = (ident_at s c).to e in
      record { here = i.place.from ∷ []; are = refl; rise = rising_one i.place.from (omega (arith, z)) (omega (arith, z, u.bytes)) };
}

-- LISTS AND CHOICES

-- the offsets w of a list whose items have the offsets h
record Joins {A : Type 0} (h : A → List ℕ) (w : List A → List ℕ) : Type 0 where
  none : w [] ≡ []
  more : (x : A) (xs : List A) → w (x ∷ xs) ≡ h x ++ w xs

module _ {A : Type 0} {m : Reader A} {h : A → List ℕ} {w : List A → List ℕ} (z : Joins h w) where
  rises_many : Rises [] m h → (n : ℕ) → Rises [] (many m n) w
  unfolding many
  rises_many g zero = rises_ret _ z.none
  rises_many g (suc n) = rises_bind g λ x. rises_bind (rises_many g n) λ xs. rises_ret _ (z.more x xs)

  rises_listed : Rises [] m h → Rises [] (listed m) w
  unfolding listed
  rises_listed g = rises_skip costs_num (rises_many g)

rises_either : {A : Type 0} {before : List ℕ} {h : A → List ℕ} {a b : Reader A} → Rises before a h → Rises before b h → Rises before (either a b) h
unfolding either
rises_either {A} {before} {h} {a} {b} x y = rises_skip (costs_below 2) go
  where
    go : (k : ℕ) → Rises {A = A} before (elim k [ zero ↦ a | suc _ ↦ b ]) h
    go zero = x
    go (suc k) = y

rises_maybe : {A : Type 0} {m : Reader A} {h : A → List ℕ} {w : Maybe Spot A → List ℕ} → Rises [] m h → ((x : A) → w (ok x) ≡ h x) → ((z : Poison Spot) → w (err z) ≡ []) → Rises [] (maybe m) w
unfolding maybe
rises_maybe g i j = rises_either (rises_bind g λ x. rises_ret _ (i x)) (rises_skip costs_poison λ z. rises_ret _ (j z))

rises_base : Rises [] (maybe ident) (λ b. offsets_at (base b))
unfolding offsets_at
rises_base = rises_maybe rises_ident (λ i. refl) (λ z. refl)

-- what stands beyond the limit of nesting is not read
rises_deep : {A B : Type 0} {h : B → List ℕ} (m : Reader A) → Rises {A = B} [] (too_deep m) h
rises_deep {B = B} {h} m = record { at = λ s c. (leads_deep {B = B} {X = λ x d. Along [] (h x) c d} m s c).to }

-- EXPRESSIONS, REFERENCES, STEPS

joins_nodes : {k : Kind} → Joins {A = Node Spot (one k)} in_node (λ xs. in_node (to_nodes xs))
unfolding offsets_of outline to_nodes
joins_nodes = record { none = refl; more = λ x xs. refl }

module _ {r : Readers} (d : ℕ) (R : (k : Kind) → Rises [] (r k) in_node) where
  rises_item : Rises [] (item_of r) in_node
  unfolding item_of offsets_of outline
  rises_item = rises_skip (costs_maybe_none costs_ident) λ i. rises_skip costs_num λ o. rises_bind (R expr) λ x. rises_ret _ refl

  rises_expr_kind : (k : ExprKind) → Rises [] (expr_of r (read_ty d false) k) in_node
  unfolding expr_of offsets_of outline any_type read_binary read_unary read_boolean read_integer read_string read_array_literal read_structural read_parenthesized read_deref read_bit_cast read_type_cast read_length_of_array read_size_of read_function_call
  rises_expr_kind k_binary = rises_skip costs_num λ op. rises_skip costs_place λ p. rises_skip costs_place λ q. rises_bind (R expr) λ x. rises_bind (R expr) λ y. rises_ret _ refl
  rises_expr_kind k_unary = rises_skip costs_num λ op. rises_skip costs_place λ p. rises_skip costs_place λ q. rises_bind (R expr) λ x. rises_ret _ refl
  rises_expr_kind k_boolean = rises_skip (costs_below 2) λ b. rises_skip costs_place λ p. rises_ret _ refl
  rises_expr_kind k_signed = rises_skip (costs_raw 16) λ b. rises_skip costs_place λ p. rises_skip (costs_carried d) λ c. rises_ret _ refl
  rises_expr_kind k_bits = rises_skip (costs_raw 16) λ b. rises_skip costs_place λ p. rises_skip (costs_carried d) λ c. rises_ret _ refl
  rises_expr_kind k_string = rises_skip costs_bytes λ b. rises_skip costs_place λ p. rises_ret _ refl
  rises_expr_kind k_array_literal = rises_skip costs_place λ p. rises_skip (costs_carried d) λ c. rises_bind (rises_listed joins_nodes (R expr)) λ es. rises_skip costs_num λ i. rises_ret _ refl
  rises_expr_kind k_structural = rises_skip costs_place λ p. rises_bind (rises_listed joins_nodes rises_item) λ ms. rises_skip (costs_maybe_none (costs_ty d false)) λ c. rises_ret _ refl
  rises_expr_kind k_parenthesized = rises_skip costs_place λ p. rises_bind (R expr) λ x. rises_ret _ refl
  rises_expr_kind k_deref = rises_skip (costs_carried d) λ c. rises_bind (R ref) λ x. rises_ret _ refl
  rises_expr_kind k_bit_cast = rises_skip costs_place λ p. rises_skip costs_place λ q. rises_skip (costs_carried d) λ c. rises_bind (R expr) λ x. rises_ret _ refl
  rises_expr_kind k_type_cast = rises_skip costs_place λ p. rises_skip costs_place λ q. rises_skip (costs_ty d false) λ c. rises_bind (R expr) λ x. rises_ret _ refl
  rises_expr_kind k_length_of_array = rises_skip costs_place λ p. rises_bind (R ref) λ x. rises_ret _ refl
  rises_expr_kind k_size_of = rises_skip costs_place λ p. rises_skip (costs_ty d false) λ c. rises_ret _ refl
  rises_expr_kind k_function_call = rises_skip costs_ident λ i. rises_skip costs_num λ b. rises_skip (costs_carried d) λ c. rises_bind (rises_listed joins_nodes (R expr)) λ es. rises_ret _ refl
  rises_expr_kind k_bad_expr = rises_skip costs_poison λ p. rises_ret _ refl

  rises_step_kind : (n : ℕ) → Rises [] (step_of r n) in_node
  unfolding step_of offsets_of outline
  rises_step_kind zero = rises_skip (costs_below 3) λ n. rises_bind (R expr) λ x. rises_ret _ refl
  rises_step_kind (suc k) = rises_skip costs_ident λ i. rises_skip costs_num λ o. rises_ret _ refl

  rises_node : (k : Kind) → Rises [] (head k >>= λ n. rest_of r (read_ty d false) k n) in_node
  unfolding head rest_of offsets_of outline ret ◌>>=◌
  rises_node expr = rises_skip (costs_below 16) λ n. rises_expr_kind _
  rises_node ref = rises_skip (costs_below 256) λ n. rises_skip costs_place λ p. rises_skip costs_place λ q. rises_bind rises_base λ b. rises_bind (rises_listed joins_nodes (R step)) λ ts. rises_ret _ refl
  rises_node step = rises_skip (costs_below 2) λ n. rises_step_kind n
  rises_node item = rises_item

rises_read : (d : ℕ) (k : Kind) → Rises [] (read d k) in_node
unfolding read
rises_read zero k = rises_deep _
rises_read (suc d) k = rises_node d (rises_read d) k

rises_value : (d : ℕ) → Rises [] (option (read d expr)) (λ v. offsets_of (outline_option any_type v))
unfolding option outline_option offsets_of
rises_value d = rises_either (rises_ret _ refl) (rises_bind (rises_read d expr) λ x. rises_ret _ refl)

-- STATEMENTS

joins_stms : Joins {A = Stm Spot stmt} in_stm (λ ts. in_stm (to_stms ts))
unfolding offsets_of outline_stm to_stms
joins_stms = record { none = refl; more = λ x xs. refl }

-- what an If's four parts hold
of_four : (a b c d : List ℕ) → a ++ (b ++ (c ++ d)) ≡ ((a ++ b) ++ c) ++ d
of_four a b c d = sym (append_assoc (a ++ b) c d ∙ append_assoc a b (c ++ d))

module _ (d : ℕ) {m : Reader (Stm Spot stmt)} (M : Rises [] m in_stm) where
  rises_else : Rises [] (else_of m) in_stm
  unfolding else_of offsets_of outline_stm
  rises_else = rises_either (rises_ret _ refl) (rises_skip costs_place λ p. rises_bind M λ t. rises_ret _ refl)

  rises_stmt_kind : (k : StmtKind) → Rises [] (stmt_of d m k) in_stm
  unfolding stmt_of offsets_of offsets_at outline_stm read_declaration read_assignment read_method_call read_jump read_if read_block
  rises_stmt_kind k_declaration = rises_skip costs_place λ p. rises_bind (rises_value d) λ v. rises_skip (costs_carried d) λ t. rises_bind rises_ident λ i. rises_ret _ refl
  rises_stmt_kind k_assignment = rises_skip costs_place λ p. rises_bind (rises_read d expr) λ v. rises_bind (rises_read d ref) λ x. rises_ret _ refl
  rises_stmt_kind k_method_call = rises_skip costs_ident λ i. rises_skip costs_num λ b. rises_bind (rises_listed joins_nodes (rises_read d expr)) λ es. rises_ret _ refl
  rises_stmt_kind k_loop = rises_skip costs_place λ p. rises_ret _ refl
  rises_stmt_kind k_goto = rises_skip costs_ident λ i. rises_skip costs_place λ p. rises_ret _ refl
  rises_stmt_kind k_label = rises_skip costs_ident λ i. rises_skip costs_place λ p. rises_ret _ refl
  rises_stmt_kind k_if = rises_skip costs_place λ p. rises_skip costs_num λ op. rises_skip costs_place λ q. rises_skip costs_place λ r. rises_bind (rises_read d expr) λ x. rises_bind (rises_read d expr) λ y. rises_bind M λ a. rises_bind rises_else λ b. rises_ret _ (of_four (in_node x) (in_node y) (in_stm a) (in_stm b))
  rises_stmt_kind k_block = rises_skip costs_place λ p. rises_bind (rises_listed joins_stms M) λ ts. rises_ret _ refl
  rises_stmt_kind k_bad_stmt = rises_skip costs_poison λ p. rises_ret _ refl

rises_stmt : (d : ℕ) → Rises [] (read_stmt d) in_stm
unfolding read_stmt
rises_stmt zero = rises_deep _
rises_stmt (suc d) = rises_skip (costs_counting _ costs_head) λ k. rises_stmt_kind d (rises_stmt d) k

-- DECLARATIONS

rises_body : (d : ℕ) → Rises [] (maybe (read_body d)) in_body
unfolding read_body in_body outline_body offsets_of
rises_body d = rises_maybe (rises_bind (rises_listed joins_stms (rises_stmt d)) λ ts. rises_bind (rises_value d) λ v. rises_skip costs_ident λ i. rises_ret {h = λ b. offsets_of (outline_body any_type b)} _ refl) (λ b. refl) (λ z. refl)

rises_decl_kind : (d : ℕ) (k : DeclKind) → Rises [] (decl_of d k) in_decl
unfolding decl_of in_decl read_constant read_function read_function_head read_structure read_import
rises_decl_kind d k_constant = rises_skip (costs_below 32) λ f. rises_skip costs_place λ p. rises_skip costs_place λ q. rises_skip costs_ident λ i. rises_bind (rises_read d expr) λ x. rises_skip (costs_maybe_none (costs_ty d true)) λ t. rises_ret _ refl
rises_decl_kind d k_function = rises_skip (costs_below 32) λ f. rises_skip costs_place λ p. rises_skip costs_place λ q. rises_skip costs_ident λ i. rises_skip (costs_params d false) λ ps. rises_bind (rises_body d) λ b. rises_skip (costs_maybe_none (costs_ty d false)) λ t. rises_ret _ refl
rises_decl_kind d k_function_head = rises_skip (costs_below 32) λ f. rises_skip costs_place λ p. rises_skip costs_place λ q. rises_skip costs_ident λ i. rises_skip (costs_params d false) λ ps. rises_skip (costs_maybe_none (costs_ty d false)) λ t. rises_ret _ refl
rises_decl_kind d k_structure = rises_skip (costs_below 32) λ f. rises_skip costs_place λ p. rises_skip costs_ident λ i. rises_skip (costs_params d true) λ ms. rises_skip (costs_maybe_none (costs_ty d false)) λ t. rises_ret _ refl
rises_decl_kind d k_import = rises_skip costs_bytes λ b. rises_skip costs_place λ p. rises_ret _ refl
rises_decl_kind d k_bad_decl = rises_skip costs_poison λ z. rises_ret _ refl

rises_decl : Rises [] read_decl in_decl
unfolding read_decl
rises_decl = rises_skip (costs_counting _ costs_decl_head) λ k. rises_decl_kind 63 k

joins_decls : Joins in_decl (flat_map in_decl)
unfolding flat_map
joins_decls = record { none = refl; more = λ x xs. refl }

rises_tree : Rises [] (read_tree incoming) (λ t. flat_map in_decl t.decls)
unfolding read_tree
rises_tree = rises_skip (costs_such _ _ costs_num) λ n. rises_skip (costs_names n []) λ ns. rises_skip (costs_tabled n) λ _. rises_bind (rises_listed joins_decls rises_decl) λ ds. rises_skip (costs_each ds) λ hs. rises_ret _ refl

-- the offsets in a tree rise, and are offsets of the input
pub decoded_rises : (s : List ℕ) {t : Tree Spot} {c : Cur} → decode incoming s ≡ got t c → Rising 0 (length s) (flat_map in_decl t.decls)
unfolding decode
decoded_rises s e =
    let start : Cur = record { at = 0; names = 0; counts = nothing } in
    let q = ended_got s _ e in
    let u = rises_tree.at s start q in
    let z = costs_tree.at s start q in
    subst (λ (ns : List ℕ). Rising 0 (length s) ns) (sym u.are) (rising_to (z.inside (omega arith)) u.rise)
