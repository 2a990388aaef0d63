-- How many words a declaration takes: as many as statements are counted while it is read.
use mathlib.Core.Path.{◌≡◌, refl, ap, ◌∙◌}
use mathlib.Core.Bool.{Bool, true, false}
use mathlib.Core.List.{List, [], ◌∷◌}
use Prim.Native.Nat.{ℕ, zero, suc, ◌+◌, ◌≤◌}
use native.Mathlib.Omega.{arith}
use lib.ListN.{get_or}
use Rattle.penne.specs.Tree.{Spot, Ident, Maybe, ok, err, expr, stmt, StmSort, Stm, nil', cons', declaration, assignment, method_call, loop, goto, label, if_else, block, bad_stmt, no_else, or_else, Body, Decl, constant, function, function_head, structure, import, bad_decl}
use Rattle.penne.specs.Reader.{Counts, Cur, got, Reader, ◌>>=◌, ret, many, listed, plus, counting, nothing, a_container, a_function, an_entry, a_statement}
use Rattle.penne.specs.Read.{either, maybe, to_stms, StmtKind, k_declaration, k_assignment, k_method_call, k_loop, k_goto, k_label, k_if, k_block, k_bad_stmt, stmt_head, stmt_counts, stmt_of, read_stmt, else_of, read_declaration, read_assignment, read_method_call, read_jump, read_if, read_block, read_body, read_param, DeclKind, k_constant, k_function, k_function_head, k_structure, k_import, k_bad_decl, decl_head, decl_counts, decl_of, read_decl, read_constant, read_function, read_function_head, read_structure, read_import}
use Rattle.label_references.specs.Marked.{marked, marked_body, marked_decl, rest}
use Rattle.label_references.proofs.Leading.{Leads, leads_ret, leads_bind, leads_deep}
use Rattle.label_references.proofs.Keeping.{Keeps, keeps_ret, keeps_bind, keeps_num, keeps_below, keeps_place, keeps_ident, keeps_listed, keeps_poison, keeps_maybe, keeps_option, keeps_ty, keeps_read, keeps_bytes}
use Rattle.label_references.proofs.Growing.{CountsOn, counting_leads, keeps_head}
use Rattle.stages.specs.Heads.{rows_of}

-- HOW MANY STATEMENTS

unfoldable size : {s : StmSort} → Stm Spot s → ℕ
size nil' = 0
size (cons' t ts) = size t + size ts
size (declaration p v t i) = 1
size (assignment p v r) = 1
size (method_call i b es) = 1
size (loop p) = 1
size (goto i p) = 1
size (label i p) = 1
size (if_else p op q r x y t e) = 1 + (size t + size e)
size (block p ts) = 1 + size ts
size (bad_stmt z) = 1
size no_else = 0
size (or_else p t) = size t

unfoldable size_body : Maybe Spot (Body Spot) → ℕ
size_body (ok b) = size b.statements
size_body (err z) = 0

unfoldable size_decl : Decl Spot → ℕ
size_decl (constant f p q i x t) = 0
size_decl (function f p q i ps b t) = size_body b
size_decl (function_head f p q i ps t) = 0
size_decl (structure f p i ms t) = 0
size_decl (import b p) = 0
size_decl (bad_decl z) = 0

-- THE WORDS BEHIND THEM

get_or-rest : (os : List ℕ) (k : ℕ) → get_or (rest os) k 0 ≡ get_or os (suc k) 0
unfolding rest
get_or-rest [] zero = refl
get_or-rest [] (suc k) = refl
get_or-rest (o ∷ os) k = refl

one_word : (os : List ℕ) (k : ℕ) → get_or (rest os) k 0 ≡ get_or os (1 + k) 0
one_word os k = get_or-rest os k ∙ ap (λ (j : ℕ). get_or os j 0) (let q : suc k ≡ 1 + k = omega arith in q)

words_on : (os : List ℕ) (m n k : ℕ) {x : ℕ} → x ≡ get_or os (m + (n + k)) 0 → x ≡ get_or os ((m + n) + k) 0
words_on os m n k e = let q : m + (n + k) ≡ (m + n) + k = omega arith in e ∙ ap (λ (j : ℕ). get_or os j 0) q

words_behind : {s : StmSort} (all : List (Ident Spot)) (t : Stm Spot s) (os : List ℕ) (k : ℕ) → get_or (marked all t os).1 k 0 ≡ get_or os (size t + k) 0
unfolding marked size
words_behind all nil' os k = ap (λ (j : ℕ). get_or os j 0) (let q : k ≡ 0 + k = omega arith in q)
words_behind all (cons' t ts) os k = words_on os (size t) (size ts) k (words_behind all ts (marked all t os).1 k ∙ words_behind all t os (size ts + k))
words_behind all (declaration p v t i) os k = one_word os k
words_behind all (assignment p v r) os k = one_word os k
words_behind all (method_call i b es) os k = one_word os k
words_behind all (loop p) os k = one_word os k
words_behind all (goto i p) os k = one_word os k
words_behind all (label i p) os k = one_word os k
words_behind all (if_else p op q r x y t e) os k = words_on os 1 (size t + size e) k (words_on (rest os) (size t) (size e) k (words_behind all e (marked all t (rest os)).1 k ∙ words_behind all t (rest os) (size e + k)) ∙ one_word os ((size t + size e) + k))
words_behind all (block p ts) os k = words_on os 1 (size ts) k (words_behind all ts (rest os) k ∙ one_word os (size ts + k))
words_behind all (bad_stmt z) os k = one_word os k
words_behind all no_else os k = ap (λ (j : ℕ). get_or os j 0) (let q : k ≡ 0 + k = omega arith in q)
words_behind all (or_else p t) os k = words_behind all t os k

no_words : (os : List ℕ) (k : ℕ) → get_or os k 0 ≡ get_or os (0 + k) 0
no_words os k = ap (λ (j : ℕ). get_or os j 0) (let q : k ≡ 0 + k = omega arith in q)

words_body : (all : List (Ident Spot)) (b : Maybe Spot (Body Spot)) (os : List ℕ) (k : ℕ) → get_or (marked_body all b os).1 k 0 ≡ get_or os (size_body b + k) 0
unfolding marked_body size_body
words_body all (ok b) os k = words_behind all b.statements os k
words_body all (err z) os k = no_words os k

words_decl : (all : List (Ident Spot)) (d : Decl Spot) (os : List ℕ) (k : ℕ) → get_or (marked_decl all d os).1 k 0 ≡ get_or os (size_decl d + k) 0
unfolding marked_decl size_decl
words_decl all (constant f p q i x t) os k = no_words os k
words_decl all (function f p q i ps b t) os k = words_body all b os k
words_decl all (function_head f p q i ps t) os k = no_words os k
words_decl all (structure f p i ms t) os k = no_words os k
words_decl all (import b p) os k = no_words os k
words_decl all (bad_decl z) os k = no_words os k

-- WHAT IS COUNTED WHILE THEY ARE READ

-- n statements more, r containers more, f functions more
record Sized (n r f : ℕ) (c d : Cur) : Type 0 where
  statements : d.counts.statements ≡ c.counts.statements + n
  containers : d.counts.containers ≡ c.counts.containers + r
  functions : d.counts.functions ≡ c.counts.functions + f
  entries : c.counts.entries ≤ d.counts.entries

sized_none : {c : Cur} → Sized 0 0 0 c c
sized_none = record { statements = omega arith; containers = omega arith; functions = omega arith; entries = omega arith }

sized_then : {n r f n' r' f' : ℕ} {c d e : Cur} → Sized n r f c d → Sized n' r' f' d e → Sized (n + n') (r + r') (f + f') c e
sized_then x y = record { statements = omega (arith, x.statements, y.statements); containers = omega (arith, x.containers, y.containers); functions = omega (arith, x.functions, y.functions); entries = omega (arith, x.entries, y.entries) }

sized_keep : {n r f : ℕ} {c d e : Cur} → Sized n r f c d → e.counts ≡ d.counts → Sized n r f c e
sized_keep x z = record {
  statements = ap (λ (k : Counts). k.statements) z ∙ x.statements;
  containers = ap (λ (k : Counts). k.containers) z ∙ x.containers;
  functions = ap (λ (k : Counts). k.functions) z ∙ x.functions;
  entries = omega (arith, x.entries, ap (λ (k : Counts). k.entries) z);
}

abbrev zeros : {A : Type 0} → A → ℕ
zeros a = 0

-- behind so many, what m reads makes them h of it
record Sizes {A : Type 0} (n r f : ℕ) (m : Reader A) (h hr hf : A → ℕ) : Type 0 where
  at : (s : List ℕ) (c d : Cur) → Sized n r f c d → Leads (m s d) (λ a e. Sized (h a) (hr a) (hf a) c e)

module _ {B : Type 0} {n r f : ℕ} {h hr hf : B → ℕ} where
  sizes_ret : (b : B) → h b ≡ n → hr b ≡ r → hf b ≡ f → Sizes n r f (ret b) h hr hf
  sizes_ret b i j k = record { at = λ s c d x. leads_ret b s d (record { statements = omega (arith, x.statements); containers = omega (arith, x.containers); functions = omega (arith, x.functions); entries = x.entries }) }

  sizes_keep : {A : Type 0} {m : Reader A} {g : A → Reader B} → Keeps m → ((a : A) → Sizes n r f (g a) h hr hf) → Sizes n r f (m >>= g) h hr hf
  sizes_keep {m = m} {g} k l = record { at = λ s c d x. leads_bind g m s d λ a e q. (l a).at s c e (sized_keep x ((k.at s d).to q)) }

  sizes_bind : {A : Type 0} {m : Reader A} {g : A → Reader B} {v : A → ℕ} → Sizes 0 0 0 m v zeros zeros → ((a : A) → Sizes (n + v a) (r + 0) (f + 0) (g a) h hr hf) → Sizes n r f (m >>= g) h hr hf
  sizes_bind {m = m} {g} k l = record { at = λ s c d x. leads_bind g m s d λ a e q. (l a).at s c e (sized_then x ((k.at s d d sized_none).to q)) }

either_go : {A : Type 0} {n r f : ℕ} {h hr hf : A → ℕ} {a b : Reader A} → Sizes n r f a h hr hf → Sizes n r f b h hr hf → (k : ℕ) → Sizes {A = A} n r f (elim k [ zero ↦ a | suc _ ↦ b ]) h hr hf
either_go x y zero = x
either_go x y (suc k) = y

sizes_either : {A : Type 0} {n r f : ℕ} {h hr hf : A → ℕ} {a b : Reader A} → Sizes n r f a h hr hf → Sizes n r f b h hr hf → Sizes n r f (either a b) h hr hf
unfolding either
sizes_either x y = sizes_keep (keeps_below 2) (either_go x y)

counted_sized : {k : Counts} {c d : Cur} → CountsOn k c d → Sized k.statements k.containers k.functions c d
unfolding plus
counted_sized x = record {
  statements = ap (λ (y : Counts). y.statements) x.is;
  containers = ap (λ (y : Counts). y.containers) x.is;
  functions = ap (λ (y : Counts). y.functions) x.is;
  entries = omega (arith, ap (λ (y : Counts). y.entries) x.is);
}

sizes_counting : {A B : Type 0} {n r f : ℕ} {h hr hf : B → ℕ} {m : Reader A} (v : A → Counts) {g : A → Reader B} → Keeps m → ((a : A) → Sizes (n + (v a).statements) (r + (v a).containers) (f + (v a).functions) (g a) h hr hf) → Sizes n r f (counting v m >>= g) h hr hf
sizes_counting {m = m} v {g} k l = record { at = λ s c d x. leads_bind g (counting v m) s d λ a e q. (l a).at s c e (sized_then x (counted_sized ((counting_leads v s d k).to q))) }

-- STATEMENTS

sizes_many : {m : Reader (Stm Spot stmt)} → Sizes 0 0 0 m size zeros zeros → (n : ℕ) → Sizes 0 0 0 (many m n) (λ ts. size (to_stms ts)) zeros zeros
unfolding many size to_stms
sizes_many g zero = sizes_ret _ refl refl refl
sizes_many g (suc n) = sizes_bind g λ a. sizes_bind (sizes_many g n) λ rest. sizes_ret _ (omega arith) (omega arith) (omega arith)

sizes_listed : {m : Reader (Stm Spot stmt)} → Sizes 0 0 0 m size zeros zeros → Sizes 0 0 0 (listed m) (λ ts. size (to_stms ts)) zeros zeros
unfolding listed
sizes_listed g = sizes_keep keeps_num (sizes_many g)

sizes_else : {m : Reader (Stm Spot stmt)} → Sizes 0 0 0 m size zeros zeros → Sizes 0 0 0 (else_of m) size zeros zeros
unfolding else_of size
sizes_else g = sizes_either (sizes_ret _ refl refl refl) (sizes_keep keeps_place λ p. sizes_bind g λ t. sizes_ret _ (omega arith) (omega arith) (omega arith))

sizes_kind : (d : ℕ) {m : Reader (Stm Spot stmt)} → Sizes 0 0 0 m size zeros zeros → (k : StmtKind) → Sizes (0 + (stmt_counts k).statements) (0 + (stmt_counts k).containers) (0 + (stmt_counts k).functions) (stmt_of d m k) size zeros zeros
unfolding stmt_of stmt_counts size read_declaration read_assignment read_method_call read_jump read_if read_block plus a_statement an_entry
sizes_kind d g k_declaration = sizes_keep keeps_place λ p. sizes_keep (keeps_option (keeps_read d expr)) λ v. sizes_keep (keeps_option (keeps_maybe (keeps_ty d false))) λ t. sizes_keep keeps_ident λ i. sizes_ret _ refl refl refl
sizes_kind d g k_assignment = sizes_keep keeps_place λ p. sizes_keep (keeps_read d expr) λ v. sizes_keep (keeps_read d _) λ x. sizes_ret _ refl refl refl
sizes_kind d g k_method_call = sizes_keep keeps_ident λ i. sizes_keep keeps_num λ b. sizes_keep (keeps_listed (keeps_read d expr)) λ es. sizes_ret _ refl refl refl
sizes_kind d g k_loop = sizes_keep keeps_place λ p. sizes_ret _ refl refl refl
sizes_kind d g k_goto = sizes_keep keeps_ident λ i. sizes_keep keeps_place λ p. sizes_ret _ refl refl refl
sizes_kind d g k_label = sizes_keep keeps_ident λ i. sizes_keep keeps_place λ p. sizes_ret _ refl refl refl
sizes_kind d g k_if = sizes_keep keeps_place λ p. sizes_keep keeps_num λ o. sizes_keep keeps_place λ q. sizes_keep keeps_place λ r. sizes_keep (keeps_read d expr) λ x. sizes_keep (keeps_read d expr) λ y. sizes_bind g λ a. sizes_bind (sizes_else g) λ b. sizes_ret _ (omega arith) (omega arith) (omega arith)
sizes_kind d g k_block = sizes_keep keeps_place λ p. sizes_bind (sizes_listed g) λ ts. sizes_ret _ (omega arith) (omega arith) (omega arith)
sizes_kind d g k_bad_stmt = sizes_keep keeps_poison λ p. sizes_ret _ refl refl refl

sizes_stmt : (d : ℕ) → Sizes 0 0 0 (read_stmt d) size zeros zeros
unfolding read_stmt
sizes_stmt zero = record { at = λ s c d x. leads_deep stmt_head s d }
sizes_stmt (suc d) = sizes_counting stmt_counts keeps_head λ k. sizes_kind d (sizes_stmt d) k

-- DECLARATIONS

sizes_body : (d : ℕ) → Sizes 0 0 0 (read_body d) (λ b. size b.statements) zeros zeros
unfolding read_body
sizes_body d = sizes_bind (sizes_listed (sizes_stmt d)) λ ts. sizes_keep (keeps_option (keeps_read d expr)) λ v. sizes_keep keeps_ident λ i. sizes_ret _ (omega arith) (omega arith) (omega arith)

sizes_inside : (d : ℕ) → Sizes 0 0 0 (maybe (read_body d)) size_body zeros zeros
unfolding maybe size_body
sizes_inside d = sizes_either (sizes_bind (sizes_body d) λ b. sizes_ret _ (omega arith) (omega arith) (omega arith)) (sizes_keep keeps_poison λ p. sizes_ret _ refl refl refl)

sizes_param : (d : ℕ) (own : Bool) → Sizes 0 0 0 (read_param d own) (λ p. 0) zeros zeros
unfolding read_param an_entry
sizes_param d own = sizes_counting (λ _. an_entry) keeps_place λ p. sizes_keep (keeps_maybe keeps_ident) λ i. sizes_keep (keeps_maybe (keeps_ty d own)) λ t. sizes_ret _ (omega arith) (omega arith) (omega arith)

sizes_params : {A : Type 0} {m : Reader A} → Sizes 0 0 0 m (λ p. 0) zeros zeros → (n : ℕ) → Sizes 0 0 0 (many m n) (λ ps. 0) zeros zeros
unfolding many
sizes_params g zero = sizes_ret _ refl refl refl
sizes_params g (suc n) = sizes_bind g λ a. sizes_bind (sizes_params g n) λ rest. sizes_ret _ (omega arith) (omega arith) (omega arith)

sizes_list : {A : Type 0} {m : Reader A} → Sizes 0 0 0 m (λ p. 0) zeros zeros → Sizes 0 0 0 (listed m) (λ ps. 0) zeros zeros
unfolding listed
sizes_list g = sizes_keep keeps_num (sizes_params g)

sizes_decl_kind : (k : DeclKind) → Sizes (0 + (decl_counts k).statements) (0 + (decl_counts k).containers) (0 + (decl_counts k).functions) (decl_of 63 k) size_decl (λ d. (rows_of d).0) (λ d. (rows_of d).1)
unfolding decl_of decl_counts size_decl rows_of read_constant read_function read_function_head read_structure read_import nothing a_container a_function
sizes_decl_kind k_constant = sizes_keep (keeps_below 32) λ f. sizes_keep keeps_place λ p. sizes_keep keeps_place λ q. sizes_keep keeps_ident λ i. sizes_keep (keeps_read 63 expr) λ x. sizes_keep (keeps_maybe (keeps_ty 63 true)) λ t. sizes_ret _ refl refl refl
sizes_decl_kind k_function = sizes_keep (keeps_below 32) λ f. sizes_keep keeps_place λ p. sizes_keep keeps_place λ q. sizes_keep keeps_ident λ i. sizes_bind (sizes_list (sizes_param 63 false)) λ ps. sizes_bind (sizes_inside 63) λ b. sizes_keep (keeps_maybe (keeps_ty 63 false)) λ t. sizes_ret _ (omega arith) (omega arith) (omega arith)
sizes_decl_kind k_function_head = sizes_keep (keeps_below 32) λ f. sizes_keep keeps_place λ p. sizes_keep keeps_place λ q. sizes_keep keeps_ident λ i. sizes_bind (sizes_list (sizes_param 63 false)) λ ps. sizes_keep (keeps_maybe (keeps_ty 63 false)) λ t. sizes_ret _ (omega arith) (omega arith) (omega arith)
sizes_decl_kind k_structure = sizes_keep (keeps_below 32) λ f. sizes_keep keeps_place λ p. sizes_keep keeps_ident λ i. sizes_bind (sizes_list (sizes_param 63 true)) λ ps. sizes_keep (keeps_maybe (keeps_ty 63 false)) λ t. sizes_ret _ (omega arith) (omega arith) (omega arith)
sizes_decl_kind k_import = sizes_keep keeps_bytes λ b. sizes_keep keeps_place λ p. sizes_ret _ refl refl refl
sizes_decl_kind k_bad_decl = sizes_keep keeps_poison λ p. sizes_ret _ refl refl refl

keeps_decl_head : Keeps decl_head
unfolding decl_head
keeps_decl_head = keeps_bind (keeps_below 6) λ n. keeps_ret _

sizes_decl : Sizes 0 0 0 read_decl size_decl (λ d. (rows_of d).0) (λ d. (rows_of d).1)
unfolding read_decl
sizes_decl = sizes_counting decl_counts keeps_decl_head sizes_decl_kind

-- what is counted behind a declaration, and the words behind it
pub record Passing (c e : Cur) (d : Decl Spot) : Type 0 where
  pub words : (all : List (Ident Spot)) (os : List ℕ) (k n : ℕ) → e.counts.statements + k ≡ c.counts.statements + n → get_or (marked_decl all d os).1 k 0 ≡ get_or os n 0
  pub statements : c.counts.statements ≤ e.counts.statements
  pub containers : e.counts.containers ≡ c.counts.containers + (rows_of d).0
  pub functions : e.counts.functions ≡ c.counts.functions + (rows_of d).1
  pub entries : c.counts.entries ≤ e.counts.entries

pub passing : (t : List ℕ) (c : Cur) {d : Decl Spot} {e : Cur} → read_decl t c ≡ got d e → Passing c e d
passing t c {d} {e} g =
    let z : Sized (size_decl d) (rows_of d).0 (rows_of d).1 c e = (sizes_decl.at t c c sized_none).to g in
    record {
      words = λ all os k n q. words_decl all d os k ∙ ap (λ (j : ℕ). get_or os j 0) (omega (arith, z.statements));
      statements = omega (arith, z.statements);
      containers = z.containers;
      functions = z.functions;
      entries = z.entries;
    }
