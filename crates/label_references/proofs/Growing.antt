-- What is counted while a tree is read: every label is an entry, and row 8's limits hold.
use mathlib.Core.Path.{◌≡◌, refl, sym, ap, subst, ◌∙◌}
use mathlib.Core.Bool.{Bool, true, false}
use mathlib.Core.List.{List}
use Prim.Native.Nat.{ℕ, zero, suc, ◌+◌, ◌≤◌}
use native.Mathlib.Omega.{arith}
use lib.ListN.{length, length-append}
use Rattle.penne.specs.Tree.{Spot, expr, stmt, Stm, Decl}
use Rattle.penne.specs.Reader.{Counts, Cur, Got, got, refused, Reader, ◌>>=◌, ret, such, many, listed, plus, fits, counted, counting, nothing, a_container, a_function, an_entry, a_statement}
use Rattle.penne.specs.Read.{either, maybe, to_stms, StmtKind, k_declaration, k_assignment, k_method_call, k_loop, k_goto, k_label, k_if, k_block, k_bad_stmt, stmt_head, stmt_counts, stmt_of, read_stmt, else_of, read_declaration, read_assignment, read_method_call, read_jump, read_if, read_block, read_body, read_param, DeclKind, k_constant, k_function, k_function_head, k_structure, k_import, k_bad_decl, decl_head, decl_counts, decl_of, read_decl, read_constant, read_function, read_function_head, read_structure, read_import}
use Rattle.labels.specs.Outcomes.{labels_in, statements_in, body_of, body_labels, labels_in_decls}
use Rattle.tree.specs.declared.script.Layout.{Layout}
use Rattle.fields.specs.Answers.{cursor}
use Rattle.tree.specs.Script.{LaidOut}
use Rattle.label_references.proofs.Leading.{Leads, leads_none, leads_ret, leads_bind, leads_deep}
use Rattle.label_references.proofs.Keeping.{Same, Keeps, keeps_ret, keeps_bind, keeps_num, keeps_below, keeps_place, keeps_ident, keeps_listed, keeps_poison, keeps_maybe, keeps_option, keeps_ty, keeps_read, keeps_bytes}
use Rattle.label_references.proofs.Laying.{fits_statements}

-- n entries more are counted, at least, and the limits hold if they held
pub record Grown (n : ℕ) (c d : Cur) : Type 0 where
  pub more : c.counts.entries + n ≤ d.counts.entries
  pub entries : c.counts.entries ≤ 1024 → d.counts.entries ≤ 1024
  pub statements : c.counts.statements ≤ 2048 → d.counts.statements ≤ 2048

grown_none : {c : Cur} → Grown 0 c c
grown_none = record { more = omega arith; entries = λ h. h; statements = λ h. h }

grown_then : {n m : ℕ} {c d e : Cur} → Grown n c d → Grown m d e → Grown (n + m) c e
grown_then x y = record { more = omega (arith, x.more, y.more); entries = λ h. y.entries (x.entries h); statements = λ h. y.statements (x.statements h) }

grown_keep : {n : ℕ} {c d e : Cur} → Grown n c d → e.counts ≡ d.counts → Grown n c e
grown_keep {n} {c} {d} {e} x z = record {
  more = subst (λ (k : Counts). c.counts.entries + n ≤ k.entries) (sym z) x.more;
  entries = λ h. subst (λ (k : Counts). k.entries ≤ 1024) (sym z) (x.entries h);
  statements = λ h. subst (λ (k : Counts). k.statements ≤ 2048) (sym z) (x.statements h);
}

-- behind `base` entries, what m reads makes them h of it, or more
pub record Grows {A : Type 0} (base : ℕ) (m : Reader A) (h : A → ℕ) : Type 0 where
  pub at : (s : List ℕ) (c d : Cur) → Grown base c d → Leads (m s d) (λ a e. Grown (h a) c e)

module _ {B : Type 0} {base : ℕ} {h : B → ℕ} where
  grows_ret : (b : B) → h b ≤ base → Grows base (ret b) h
  grows_ret b i = record { at = λ s c d x. leads_ret b s d (record { more = omega (arith, x.more); entries = x.entries; statements = x.statements }) }

  grows_keep : {A : Type 0} {m : Reader A} {f : A → Reader B} → Keeps m → ((a : A) → Grows base (f a) h) → Grows base (m >>= f) h
  grows_keep {m = m} {f} k g = record { at = λ s c d x. leads_bind f m s d λ a e q. (g a).at s c e (grown_keep x ((k.at s d).to q)) }

  grows_bind : {A : Type 0} {m : Reader A} {f : A → Reader B} {g : A → ℕ} → Grows 0 m g → ((a : A) → Grows (base + g a) (f a) h) → Grows base (m >>= f) h
  grows_bind {m = m} {f} k l = record { at = λ s c d x. leads_bind f m s d λ a e q. (l a).at s c e (grown_then x ((k.at s d d grown_none).to q)) }

grows_keeps : {A : Type 0} {m : Reader A} {base : ℕ} {h : A → ℕ} → Keeps m → ((a : A) → h a ≤ base) → Grows base m h
grows_keeps {m = m} k i = record { at = λ s c d x. record { to = λ {x = a} {d = e} q. let y : Grown _ c e = grown_keep x ((k.at s d).to q) in record { more = omega (arith, y.more, i a); entries = y.entries; statements = y.statements } } }

either_go : {A : Type 0} {base : ℕ} {h : A → ℕ} {a b : Reader A} → Grows base a h → Grows base b h → (k : ℕ) → Grows {A = A} base (elim k [ zero ↦ a | suc _ ↦ b ]) h
either_go x y zero = x
either_go x y (suc k) = y

grows_either : {A : Type 0} {base : ℕ} {h : A → ℕ} {a b : Reader A} → Grows base a h → Grows base b h → Grows base (either a b) h
unfolding either
grows_either x y = grows_keep (keeps_below 2) (either_go x y)

-- the first number of something that counts
such_go : {A : Type 0} (test : A → Cur → Bool) (n p : ℕ) (c : Cur) (q : Got A) → Same c q → Leads {A = A} (elim q [ got a next ↦ elim (test a next) [ true ↦ got a next | false ↦ refused n p ] | refused k p ↦ refused k p ]) (λ a d. (d.counts ≡ c.counts) × (test a d ≡ true))
such_go test n p c (refused i j) h = leads_none _ refl
such_go {A} test n p c (got a d) h = (elim (test a d) as (λ b. test a d ≡ b → Leads {A = A} (elim b [ true ↦ got a d | false ↦ refused n p ]) (λ a d. (d.counts ≡ c.counts) × (test a d ≡ true))) [
  | true ↦ λ z. record { to = λ {x} {d = e} q. let u : a ≡ x = cc in let v : d ≡ e = cc in (h.to q, subst (λ (y : A). test y e ≡ true) u (subst (λ (y : Cur). test a y ≡ true) v z)) }
  | false ↦ λ z. leads_none _ refl
]) refl

such_leads : {A : Type 0} {m : Reader A} (test : A → Cur → Bool) (n : ℕ) (s : List ℕ) (c : Cur) → Keeps m → Leads (such m test n s c) (λ a d. (d.counts ≡ c.counts) × (test a d ≡ true))
unfolding such
such_leads {m = m} test n s c k = such_go test n c.at c (m s c) (k.at s c)

-- c with k counted, where that fits
pub record CountsOn (k : Counts) (c d : Cur) : Type 0 where
  pub is : d.counts ≡ plus c.counts k
  pub fit : fits d.counts ≡ true

pub counting_leads : {A : Type 0} (f : A → Counts) {m : Reader A} (s : List ℕ) (c : Cur) → Keeps m → Leads (counting f m s c) (λ a d. CountsOn (f a) c d)
unfolding counting counted
counting_leads f {m} s c k = leads_bind _ (such m (λ a d. fits (plus d.counts (f a))) 8) s c λ a d q.
    let z = (such_leads (λ a d. fits (plus d.counts (f a))) 8 s c k).to q in
    record {
      to = λ {x} {d = e} h.
          let u : a ≡ x = cc in
          let v : counted d (f a) ≡ e = cc in
          let w : e.counts ≡ plus d.counts (f a) = ap (λ (y : Cur). y.counts) (sym v) in
          record { is = w ∙ ap (λ (y : Counts). plus y (f a)) z.0 ∙ ap (λ (y : _). plus c.counts (f y)) u; fit = ap fits w ∙ z.1 };
    }

counted_grown : {k : Counts} {c d : Cur} → CountsOn k c d → Grown k.entries c d
unfolding plus
counted_grown {k} {c} {d} x =
    let e : d.counts.entries ≡ c.counts.entries + k.entries = ap (λ (y : Counts). y.entries) x.is in
    let l = fits_statements d.counts x.fit in
    record { more = omega arith; entries = λ h. l.1; statements = λ h. l.0 }

grows_counting : {A B : Type 0} {base : ℕ} {h : B → ℕ} {m : Reader A} (f : A → Counts) {g : A → Reader B} → Keeps m → ((a : A) → Grows (base + (f a).entries) (g a) h) → Grows base (counting f m >>= g) h
grows_counting {m = m} f {g} k l = record { at = λ s c d x. leads_bind g (counting f m) s d λ a e q. (l a).at s c e (grown_then x (counted_grown ((counting_leads f s d k).to q))) }

-- STATEMENTS

abbrev labelled : {s : _} → Stm Spot s → ℕ
labelled t = length (labels_in t)

grows_many : {m : Reader (Stm Spot stmt)} → Grows 0 m labelled → (n : ℕ) → Grows 0 (many m n) (λ ts. labelled (to_stms ts))
unfolding many labels_in to_stms
grows_many g zero = grows_ret _ (omega arith)
grows_many g (suc n) = grows_bind g λ a. grows_bind (grows_many g n) λ rest. grows_ret _ (omega (arith, length-append (labels_in (to_stms rest)) (labels_in a)))

grows_listed : {m : Reader (Stm Spot stmt)} → Grows 0 m labelled → Grows 0 (listed m) (λ ts. labelled (to_stms ts))
unfolding listed
grows_listed g = grows_keep keeps_num (grows_many g)

grows_else : {m : Reader (Stm Spot stmt)} → Grows 0 m labelled → Grows 0 (else_of m) labelled
unfolding else_of labels_in
grows_else g = grows_either (grows_ret _ (omega arith)) (grows_keep keeps_place λ p. grows_bind g λ t. grows_ret _ (omega arith))

grows_kind : (d : ℕ) {m : Reader (Stm Spot stmt)} → Grows 0 m labelled → (k : StmtKind) → Grows (0 + (stmt_counts k).entries) (stmt_of d m k) labelled
unfolding stmt_of stmt_counts labels_in read_declaration read_assignment read_method_call read_jump read_if read_block plus a_statement an_entry
grows_kind d g k_declaration = grows_keep keeps_place λ p. grows_keep (keeps_option (keeps_read d expr)) λ v. grows_keep (keeps_option (keeps_maybe (keeps_ty d false))) λ t. grows_keep keeps_ident λ i. grows_ret _ (omega arith)
grows_kind d g k_assignment = grows_keep keeps_place λ p. grows_keep (keeps_read d expr) λ v. grows_keep (keeps_read d _) λ x. grows_ret _ (omega arith)
grows_kind d g k_method_call = grows_keep keeps_ident λ i. grows_keep keeps_num λ b. grows_keep (keeps_listed (keeps_read d expr)) λ es. grows_ret _ (omega arith)
grows_kind d g k_loop = grows_keep keeps_place λ p. grows_ret _ (omega arith)
grows_kind d g k_goto = grows_keep keeps_ident λ i. grows_keep keeps_place λ p. grows_ret _ (omega arith)
grows_kind d g k_label = grows_keep keeps_ident λ i. grows_keep keeps_place λ p. grows_ret _ (omega arith)
grows_kind d g k_if = grows_keep keeps_place λ p. grows_keep keeps_num λ o. grows_keep keeps_place λ q. grows_keep keeps_place λ r. grows_keep (keeps_read d expr) λ x. grows_keep (keeps_read d expr) λ y. grows_bind g λ a. grows_bind (grows_else g) λ b. grows_ret _ (omega (arith, length-append (labels_in a) (labels_in b)))
grows_kind d g k_block = grows_keep keeps_place λ p. grows_bind (grows_listed g) λ ts. grows_ret _ (omega arith)
grows_kind d g k_bad_stmt = grows_keep keeps_poison λ p. grows_ret _ (omega arith)

pub keeps_head : Keeps stmt_head
unfolding stmt_head
keeps_head = keeps_bind (keeps_below 9) λ n. keeps_ret _

pub grows_stmt : (d : ℕ) → Grows 0 (read_stmt d) labelled
unfolding read_stmt
grows_stmt zero = record { at = λ s c d x. leads_deep stmt_head s d }
grows_stmt (suc d) = grows_counting stmt_counts keeps_head λ k. grows_kind d (grows_stmt d) k

-- DECLARATIONS

grows_body : (d : ℕ) → Grows 0 (read_body d) (λ b. labelled b.statements)
unfolding read_body
grows_body d = grows_bind (grows_listed (grows_stmt d)) λ ts. grows_keep (keeps_option (keeps_read d expr)) λ v. grows_keep keeps_ident λ i. grows_ret _ (omega arith)

grows_param : (d : ℕ) (own : Bool) → Grows 0 (read_param d own) (λ p. 0)
unfolding read_param
grows_param d own = grows_counting (λ _. an_entry) keeps_place λ p. grows_keep (keeps_maybe keeps_ident) λ i. grows_keep (keeps_maybe (keeps_ty d own)) λ t. grows_ret _ (omega arith)

grows_params : {A : Type 0} {m : Reader A} → Grows 0 m (λ p. 0) → (n : ℕ) → Grows 0 (many m n) (λ ps. 0)
unfolding many
grows_params g zero = grows_ret _ (omega arith)
grows_params g (suc n) = grows_bind g λ a. grows_bind (grows_params g n) λ rest. grows_ret _ (omega arith)

grows_list : {A : Type 0} {m : Reader A} → Grows 0 m (λ p. 0) → Grows 0 (listed m) (λ ps. 0)
unfolding listed
grows_list g = grows_keep keeps_num (grows_params g)

grows_inside : (d : ℕ) → Grows 0 (maybe (read_body d)) (λ b. length (body_labels (statements_in b)))
unfolding maybe statements_in body_labels
grows_inside d = grows_either (grows_bind (grows_body d) λ b. grows_ret _ (omega arith)) (grows_keep keeps_poison λ p. grows_ret _ (omega arith))

abbrev in_decl : Decl Spot → ℕ
in_decl d = length (body_labels (body_of d))

grows_decl_kind : (k : DeclKind) → Grows (0 + (decl_counts k).entries) (decl_of 63 k) in_decl
unfolding decl_of decl_counts body_of body_labels read_constant read_function read_function_head read_structure read_import nothing a_container a_function
grows_decl_kind k_constant = grows_keep (keeps_below 32) λ f. grows_keep keeps_place λ p. grows_keep keeps_place λ q. grows_keep keeps_ident λ i. grows_keep (keeps_read 63 expr) λ x. grows_keep (keeps_maybe (keeps_ty 63 true)) λ t. grows_ret _ (omega arith)
grows_decl_kind k_function = grows_keep (keeps_below 32) λ f. grows_keep keeps_place λ p. grows_keep keeps_place λ q. grows_keep keeps_ident λ i. grows_bind (grows_list (grows_param 63 false)) λ ps. grows_bind (grows_inside 63) λ b. grows_keep (keeps_maybe (keeps_ty 63 false)) λ t. grows_ret _ (omega arith)
grows_decl_kind k_function_head = grows_keep (keeps_below 32) λ f. grows_keep keeps_place λ p. grows_keep keeps_place λ q. grows_keep keeps_ident λ i. grows_bind (grows_list (grows_param 63 false)) λ ps. grows_keep (keeps_maybe (keeps_ty 63 false)) λ t. grows_ret _ (omega arith)
grows_decl_kind k_structure = grows_keep (keeps_below 32) λ f. grows_keep keeps_place λ p. grows_keep keeps_ident λ i. grows_bind (grows_list (grows_param 63 true)) λ ps. grows_keep (keeps_maybe (keeps_ty 63 false)) λ t. grows_ret _ (omega arith)
grows_decl_kind k_import = grows_keep keeps_bytes λ b. grows_keep keeps_place λ p. grows_ret _ (omega arith)
grows_decl_kind k_bad_decl = grows_keep keeps_poison λ p. grows_ret _ (omega arith)

keeps_decl_head : Keeps decl_head
unfolding decl_head
keeps_decl_head = keeps_bind (keeps_below 6) λ n. keeps_ret _

-- a declaration's labels are entries
pub grown_decl : (s : List ℕ) (c : Cur) {d : Cur} {x : Decl Spot} → read_decl s c ≡ got x d → Grown (length (body_labels (body_of x))) c d
unfolding read_decl
grown_decl s c q = (whole.at s c c grown_none).to q
  where
    whole : Grows 0 (counting decl_counts decl_head >>= decl_of 63) in_decl
    whole = grows_counting decl_counts keeps_decl_head grows_decl_kind

grows_decls : (n : ℕ) → Grows 0 (many read_decl n) (λ xs. length (labels_in_decls xs))
unfolding many labels_in_decls
grows_decls zero = grows_ret _ (omega arith)
grows_decls (suc n) = grows_bind one λ x. grows_bind (grows_decls n) λ xs. grows_ret _ (omega (arith, length-append (body_labels (body_of x)) (labels_in_decls xs)))
  where
    one : Grows 0 read_decl in_decl
    one = record { at = λ s c d x. record { to = λ {x = a} {d = e} q. let y : Grown (0 + in_decl a) c e = grown_then x (grown_decl s d q) in record { more = omega (arith, y.more); entries = y.entries; statements = y.statements } } }

tree_grown : {s : List ℕ} {l : Layout} (t : LaidOut s l) → Grown (length (labels_in_decls t.decls)) (cursor l.first l.names nothing) (cursor l.depths l.names t.counts)
tree_grown {s} {l} t = ((grows_decls l.count).at s _ _ grown_none).to t.read

-- a tree that is read has at most 1,024 labels and 2,048 statements
pub labels_few : {s : List ℕ} {l : Layout} (t : LaidOut s l) → length (labels_in_decls t.decls) ≤ 1024
unfolding nothing
labels_few t = omega (arith, (tree_grown t).more, (tree_grown t).entries (omega arith))

pub statements_few : {s : List ℕ} {l : Layout} (t : LaidOut s l) → t.counts.statements ≤ 2048
unfolding nothing
statements_few t = (tree_grown t).statements (omega arith)
