-- What the readers of parts leave as it was: nothing is counted but declarations, statements, parameters and members.
use mathlib.Core.Path.{◌≡◌, refl, sym, ap, ◌∙◌}
use mathlib.Core.Bool.{Bool, true, false, ◌&&◌, ◌||◌, not}
use mathlib.Core.List.{List}
use Prim.Native.Nat.{ℕ, zero, suc, ◌+◌, ◌*◌, ◌%◌, ◌^◌}
use lib.Dec.{ltb, leb, eqb}
use lib.ListN.{length, get_or, take, drop}
use Rattle.penne.specs.Tree.{Spot, Ident, Poison, poison, earlier, Ty, Kind, expr, ref, step, item, stmt, Stm}
use Rattle.penne.specs.Reader.{Cur, Got, got, refused, Reader, ◌>>=◌, ret, such, num, groups, last_group, moved, below, raw, bytes, many, listed, too_deep}
use Rattle.penne.specs.Read.{place, name, ident, poison_fields, poison_of, read_poison, either, maybe, option, TyKind, k_plain, k_array, k_named_length, k_arraylike, k_struct, k_word, k_unresolved, k_nameless, k_pointer, k_view, ty_of, read_ty, Readers, item_of, read_binary, read_unary, read_boolean, read_integer, read_string, read_array_literal, read_structural, read_parenthesized, read_deref, read_bit_cast, read_type_cast, read_length_of_array, read_size_of, read_function_call, ExprKind, k_binary, k_unary, k_boolean, k_signed, k_bits, k_string, k_array_literal, k_structural, k_parenthesized, k_deref, k_bit_cast, k_type_cast, k_length_of_array, k_size_of, k_function_call, k_bad_expr, expr_of, step_of, head, rest_of, read, stmt_kinds, stmt_of, k_bad_stmt, read_declaration, read_assignment, read_method_call}
use Rattle.labels.specs.Table.{Leaf, declares, assigns, calls, loops, bad}
use Rattle.label_references.proofs.Leading.{Leads, leads_bind, leads_none, leads_ret, leads_deep}

-- what is got, if anything, is got where as much is counted as at c
abbrev pub Same : {A : Type 0} → Cur → Got A → Type 0
Same c q = Leads q (λ a d. d.counts ≡ c.counts)

-- m counts nothing
pub record Keeps {A : Type 0} (m : Reader A) : Type 0 where
  pub at : (s : List ℕ) (c : Cur) → Same c (m s c)

pub keeps_ret : {A : Type 0} (a : A) → Keeps (ret a)
keeps_ret a = record { at = λ s c. leads_ret a s c refl }

pub keeps_bind : {A B : Type 0} {m : Reader A} {f : A → Reader B} → Keeps m → ((a : A) → Keeps (f a)) → Keeps (m >>= f)
keeps_bind {m = m} {f} k h = record { at = λ s c. leads_bind f m s c λ x d q. record { to = λ e. ((h x).at s d).to e ∙ (k.at s c).to q } }

same_got : {A : Type 0} (a : A) (c d : Cur) → d.counts ≡ c.counts → Same c (got a d)
same_got a c d h = record { to = λ {x} {d = b} e. let z : d ≡ b = cc in ap (λ (y : Cur). y.counts) (sym z) ∙ h }

such_go : {A : Type 0} (test : A → Cur → Bool) (n p : ℕ) (c : Cur) (q : Got A) → Same c q → Same {A = A} c (elim q [ got a next ↦ elim (test a next) [ true ↦ got a next | false ↦ refused n p ] | refused k p ↦ refused k p ])
such_go test n p c (refused i j) h = h
such_go {A} test n p c (got a d) h = (elim (test a d) as (λ b. Same {A = A} c (elim b [ true ↦ got a d | false ↦ refused n p ])) [ true ↦ h | false ↦ leads_none _ refl ])

pub keeps_such : {A : Type 0} {m : Reader A} (test : A → Cur → Bool) (n : ℕ) → Keeps m → Keeps (such m test n)
unfolding such
keeps_such {m = m} test n k = record { at = λ s c. such_go test n c.at c (m s c) (k.at s c) }

-- numbers
last_keeps : (b w v start next : ℕ) (c : Cur) → Same c (last_group b w v start next c)
unfolding last_group moved
last_keeps b w v start next c = (elim (ltb (v + b * w) (2 ^ 32) && (not (eqb b 0) || eqb w 1)) as (λ t. Same {A = ℕ} c (elim t [ true ↦ got (v + b * w) (moved c next) | false ↦ refused 4 start ])) [
  | true ↦ same_got _ c (moved c next) refl
  | false ↦ leads_none _ refl
])

groups_keeps : (left start w v : ℕ) (s : List ℕ) (at : ℕ) (c : Cur) → Same c (groups left start w v s at c)
unfolding groups
groups_keeps zero start w v s at c = leads_none _ refl
groups_keeps (suc left) start w v s at c = (elim (ltb at (length s)) as (λ t. Same {A = ℕ} c (elim t [ false ↦ refused 3 start | true ↦ elim (ltb (get_or s at 0) 128) [ false ↦ groups left start (w * 128) (v + (get_or s at 0 % 128) * w) s (at + 1) c | true ↦ last_group (get_or s at 0) w v start (at + 1) c ] ])) [
  | false ↦ leads_none _ refl
  | true ↦ (elim (ltb (get_or s at 0) 128) as (λ t. Same {A = ℕ} c (elim t [ false ↦ groups left start (w * 128) (v + (get_or s at 0 % 128) * w) s (at + 1) c | true ↦ last_group (get_or s at 0) w v start (at + 1) c ])) [
    | false ↦ groups_keeps left start (w * 128) (v + (get_or s at 0 % 128) * w) s (at + 1) c
    | true ↦ last_keeps (get_or s at 0) w v start (at + 1) c
  ])
])

pub keeps_num : Keeps num
unfolding num
keeps_num = record { at = λ s c. groups_keeps 5 c.at 1 0 s c.at c }

pub keeps_below : (k : ℕ) → Keeps (below k)
unfolding below
keeps_below k = keeps_such _ _ keeps_num

keeps_name : Keeps name
unfolding name
keeps_name = keeps_such _ _ keeps_num

pub keeps_place : Keeps place
unfolding place
keeps_place = record { at = λ s c. let spot : ℕ → Spot = λ n. record { number = n; from = c.at } in (keeps_bind keeps_num (λ n. keeps_ret (spot n))).at s c }

pub keeps_ident : Keeps ident
unfolding ident
keeps_ident = record { at = λ s c. let made : ℕ → ℕ → ℕ → ℕ → Ident Spot = λ n p i a. record { name = n; place = record { number = p; from = c.at }; id = i; auth = a } in (keeps_bind keeps_name (λ n. keeps_bind keeps_num λ p. keeps_bind keeps_num λ i. keeps_bind (keeps_below 2) λ a. keeps_ret (made n p i a))).at s c }

raw_keeps : (n : ℕ) → Keeps (raw n)
unfolding raw moved
raw_keeps n = record { at = λ s c. (elim (leb (c.at + n) (length s)) as (λ t. Same {A = List ℕ} c (elim t [ true ↦ got (take n (drop c.at s)) (moved c (c.at + n)) | false ↦ refused 3 c.at ])) [ true ↦ same_got _ c (moved c (c.at + n)) refl | false ↦ leads_none _ refl ]) }

pub keeps_bytes : Keeps bytes
unfolding bytes
keeps_bytes = keeps_bind keeps_num raw_keeps

pub keeps_many : {A : Type 0} {m : Reader A} → Keeps m → (n : ℕ) → Keeps (many m n)
unfolding many
keeps_many k zero = keeps_ret _
keeps_many k (suc n) = keeps_bind k λ a. keeps_bind (keeps_many k n) λ xs. keeps_ret _

pub keeps_listed : {A : Type 0} {m : Reader A} → Keeps m → Keeps (listed m)
unfolding listed
keeps_listed k = keeps_bind keeps_num (keeps_many k)

either_go : {A : Type 0} {a b : Reader A} → Keeps a → Keeps b → (k : ℕ) → Keeps {A = A} (elim k [ zero ↦ a | suc _ ↦ b ])
either_go x y zero = x
either_go x y (suc k) = y

pub keeps_either : {A : Type 0} {a b : Reader A} → Keeps a → Keeps b → Keeps (either a b)
unfolding either
keeps_either x y = keeps_bind (keeps_below 2) (either_go x y)

poison_go : (k : ℕ) → Keeps (poison_of k)
unfolding poison_of
poison_go k = (elim (eqb k 17) as (λ t. Keeps {A = Poison Spot} (elim t [ true ↦ num >>= λ n. ret (earlier n) | false ↦ many name (get_or poison_fields k (0, 0)).0 >>= λ ns. many place (get_or poison_fields k (0, 0)).1 >>= λ ps. ret (poison k ns ps) ])) [
  | true ↦ keeps_bind keeps_num λ n. keeps_ret _
  | false ↦ keeps_bind (keeps_many keeps_name _) λ ns. keeps_bind (keeps_many keeps_place _) λ ps. keeps_ret _
])

pub keeps_poison : Keeps read_poison
unfolding read_poison
keeps_poison = keeps_bind (keeps_below 18) poison_go

pub keeps_maybe : {A : Type 0} {m : Reader A} → Keeps m → Keeps (maybe m)
unfolding maybe
keeps_maybe k = keeps_either (keeps_bind k λ a. keeps_ret _) (keeps_bind keeps_poison λ p. keeps_ret _)

pub keeps_option : {A : Type 0} {m : Reader A} → Keeps m → Keeps (option m)
unfolding option
keeps_option k = keeps_either (keeps_ret _) (keeps_bind k λ a. keeps_ret _)

keeps_deep : {A B : Type 0} (m : Reader A) → Keeps (too_deep {B = B} m)
keeps_deep m = record { at = λ s c. leads_deep m s c }

-- types
ty_go : {t u : Reader (Ty Spot)} (n : ℕ) → Keeps t → Keeps u → (k : TyKind) → Keeps (ty_of t u n k)
unfolding ty_of
ty_go n x y k_plain = keeps_ret _
ty_go n x y k_array = keeps_bind x λ a. keeps_bind keeps_num λ l. keeps_ret _
ty_go n x y k_named_length = keeps_bind x λ a. keeps_bind keeps_ident λ l. keeps_ret _
ty_go n x y k_arraylike = keeps_bind x λ a. keeps_ret _
ty_go n x y k_struct = keeps_bind keeps_ident λ a. keeps_ret _
ty_go n x y k_word = keeps_bind keeps_ident λ a. keeps_bind keeps_num λ l. keeps_ret _
ty_go n x y k_unresolved = keeps_bind keeps_ident λ a. keeps_ret _
ty_go n x y k_nameless = keeps_ret _
ty_go n x y k_pointer = keeps_bind y λ a. keeps_ret _
ty_go n x y k_view = keeps_bind y λ a. keeps_ret _

pub keeps_ty : (d : ℕ) (own : Bool) → Keeps (read_ty d own)
unfolding read_ty
keeps_ty zero own = keeps_deep _
keeps_ty (suc d) own = keeps_bind (keeps_such _ _ (keeps_below 26)) λ n. ty_go n (keeps_ty d own) (keeps_ty d false) _

-- expressions, references, steps
module _ {r : Readers} (R : (k : Kind) → Keeps (r k)) where
  item_go : Keeps (item_of r)
  unfolding item_of
  item_go = keeps_bind (keeps_maybe keeps_ident) λ i. keeps_bind keeps_num λ o. keeps_bind (R expr) λ x. keeps_ret _

  step_go : (n : ℕ) → Keeps (step_of r n)
  unfolding step_of
  step_go zero = keeps_bind (keeps_below 3) λ n. keeps_bind (R expr) λ x. keeps_ret _
  step_go (suc n) = keeps_bind keeps_ident λ i. keeps_bind keeps_num λ o. keeps_ret _

  module _ {t : Reader (Ty Spot)} (T : Keeps t) where
    expr_go : (k : ExprKind) → Keeps (expr_of r t k)
    unfolding expr_of read_binary read_unary read_boolean read_integer read_string read_array_literal read_structural read_parenthesized read_deref read_bit_cast read_type_cast read_length_of_array read_size_of read_function_call
    expr_go k_binary = keeps_bind keeps_num λ o. keeps_bind keeps_place λ p. keeps_bind keeps_place λ q. keeps_bind (R expr) λ x. keeps_bind (R expr) λ y. keeps_ret _
    expr_go k_unary = keeps_bind keeps_num λ o. keeps_bind keeps_place λ p. keeps_bind keeps_place λ q. keeps_bind (R expr) λ x. keeps_ret _
    expr_go k_boolean = keeps_bind (keeps_below 2) λ b. keeps_bind keeps_place λ p. keeps_ret _
    expr_go k_signed = keeps_bind (raw_keeps 16) λ b. keeps_bind keeps_place λ p. keeps_bind (keeps_option (keeps_maybe T)) λ c. keeps_ret _
    expr_go k_bits = keeps_bind (raw_keeps 16) λ b. keeps_bind keeps_place λ p. keeps_bind (keeps_option (keeps_maybe T)) λ c. keeps_ret _
    expr_go k_string = keeps_bind keeps_bytes λ b. keeps_bind keeps_place λ p. keeps_ret _
    expr_go k_array_literal = keeps_bind keeps_place λ p. keeps_bind (keeps_option (keeps_maybe T)) λ c. keeps_bind (keeps_listed (R expr)) λ es. keeps_bind keeps_num λ i. keeps_ret _
    expr_go k_structural = keeps_bind keeps_place λ p. keeps_bind (keeps_listed item_go) λ ms. keeps_bind (keeps_maybe T) λ c. keeps_ret _
    expr_go k_parenthesized = keeps_bind keeps_place λ p. keeps_bind (R expr) λ x. keeps_ret _
    expr_go k_deref = keeps_bind (keeps_option (keeps_maybe T)) λ c. keeps_bind (R ref) λ x. keeps_ret _
    expr_go k_bit_cast = keeps_bind keeps_place λ p. keeps_bind keeps_place λ q. keeps_bind (keeps_option (keeps_maybe T)) λ c. keeps_bind (R expr) λ x. keeps_ret _
    expr_go k_type_cast = keeps_bind keeps_place λ p. keeps_bind keeps_place λ q. keeps_bind T λ c. keeps_bind (R expr) λ x. keeps_ret _
    expr_go k_length_of_array = keeps_bind keeps_place λ p. keeps_bind (R ref) λ x. keeps_ret _
    expr_go k_size_of = keeps_bind keeps_place λ p. keeps_bind T λ c. keeps_ret _
    expr_go k_function_call = keeps_bind keeps_ident λ i. keeps_bind keeps_num λ b. keeps_bind (keeps_option (keeps_maybe T)) λ c. keeps_bind (keeps_listed (R expr)) λ es. keeps_ret _
    expr_go k_bad_expr = keeps_bind keeps_poison λ p. keeps_ret _

    rest_go : (k : Kind) (n : ℕ) → Keeps (rest_of r t k n)
    unfolding rest_of
    rest_go expr n = expr_go _
    rest_go ref n = keeps_bind keeps_place λ p. keeps_bind keeps_place λ q. keeps_bind (keeps_maybe keeps_ident) λ b. keeps_bind (keeps_listed (R step)) λ ts. keeps_ret _
    rest_go step n = step_go n
    rest_go item n = item_go

head_keeps : (k : Kind) → Keeps (head k)
unfolding head
head_keeps expr = keeps_below 16
head_keeps ref = keeps_below 256
head_keeps step = keeps_below 2
head_keeps item = keeps_ret _

pub keeps_read : (d : ℕ) (k : Kind) → Keeps (read d k)
unfolding read
keeps_read zero k = keeps_deep _
keeps_read (suc d) k = keeps_bind (head_keeps k) λ n. rest_go (λ j. keeps_read d j) (keeps_ty d false) k n

-- STATEMENTS THAT HOLD NO OTHER

-- what m reads holds no other statement, and nothing is counted
pub record Leaves (m : Reader (Stm Spot stmt)) : Type 0 where
  pub at : (s : List ℕ) (c : Cur) → Leads (m s c) (λ t d. Leaf t × (d.counts ≡ c.counts))

leaves_ret : {t : Stm Spot stmt} → Leaf t → Leaves (ret t)
leaves_ret {t} h = record { at = λ s c. leads_ret t s c (h, refl) }

leaves_bind : {A : Type 0} {m : Reader A} {f : A → Reader (Stm Spot stmt)} → Keeps m → ((a : A) → Leaves (f a)) → Leaves (m >>= f)
leaves_bind {m = m} {f} k h = record { at = λ s c. leads_bind f m s c λ x d q. record { to = λ e. let (l, z) = ((h x).at s d).to e in (l, z ∙ (k.at s c).to q) } }

pub leaf_kind : (d : ℕ) (m : Reader (Stm Spot stmt)) (v : ℕ) → (v ≡ 4 → ⊥) → (v ≡ 5 → ⊥) → (v ≡ 6 → ⊥) → (v ≡ 7 → ⊥) → Leaves (stmt_of d m (get_or stmt_kinds v k_bad_stmt))
unfolding stmt_of stmt_kinds read_declaration read_assignment read_method_call
leaf_kind d m zero z₄ z₅ z₆ z₇ = leaves_bind keeps_place λ p. leaves_bind (keeps_option (keeps_read d expr)) λ v. leaves_bind (keeps_option (keeps_maybe (keeps_ty d false))) λ t. leaves_bind keeps_ident λ i. leaves_ret declares
leaf_kind d m (suc zero) z₄ z₅ z₆ z₇ = leaves_bind keeps_place λ p. leaves_bind (keeps_read d expr) λ v. leaves_bind (keeps_read d ref) λ x. leaves_ret assigns
leaf_kind d m (suc (suc zero)) z₄ z₅ z₆ z₇ = leaves_bind keeps_ident λ i. leaves_bind keeps_num λ b. leaves_bind (keeps_listed (keeps_read d expr)) λ es. leaves_ret calls
leaf_kind d m (suc (suc (suc zero))) z₄ z₅ z₆ z₇ = leaves_bind keeps_place λ p. leaves_ret loops
leaf_kind d m (suc (suc (suc (suc zero)))) z₄ z₅ z₆ z₇ = absurd (z₄ refl)
leaf_kind d m (suc (suc (suc (suc (suc zero))))) z₄ z₅ z₆ z₇ = absurd (z₅ refl)
leaf_kind d m (suc (suc (suc (suc (suc (suc zero)))))) z₄ z₅ z₆ z₇ = absurd (z₆ refl)
leaf_kind d m (suc (suc (suc (suc (suc (suc (suc zero))))))) z₄ z₅ z₆ z₇ = absurd (z₇ refl)
leaf_kind d m (suc (suc (suc (suc (suc (suc (suc (suc zero)))))))) z₄ z₅ z₆ z₇ = leaves_bind keeps_poison λ p. leaves_ret bad
leaf_kind d m (suc (suc (suc (suc (suc (suc (suc (suc (suc v))))))))) z₄ z₅ z₆ z₇ = leaves_bind keeps_poison λ p. leaves_ret bad
