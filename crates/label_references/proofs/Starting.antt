-- Where a function's statements begin: the readers of a declaration up to its body.
use mathlib.Core.Path.{◌≡◌, refl, sym, ap, subst, ◌∙◌}
use mathlib.Core.Bool.{Bool, true, false}
use mathlib.Core.List.{List}
use mathlib.Core.Option.{none, some}
use Prim.Native.Nat.{ℕ, zero, suc, ◌+◌}
use native.Mathlib.Omega.{arith}
use lib.ListN.{get_or}
use Rattle.std.specs.Prelude.{Result, Ok, Err}
use Rattle.std.specs.Prelude as Rust
use Rattle.penne.specs.Tree.{Spot, Ident, Maybe, ok, Ty, expr, stmt, Stm, Body, Decl, function, Param}
use Rattle.penne.specs.Reader.{Counts, Cur, Got, got, Reader, ◌>>=◌, ret, below, many, listed, plus, fits, counting, counted, nothing, a_container, a_function, an_entry}
use Rattle.penne.specs.Read.{ident, read_function, maybe, read_ty, to_stms, read_stmt, read_body, read_param, DeclKind, k_constant, k_function, k_function_head, k_structure, k_import, k_bad_decl, decl_kinds, decl_head, decl_counts, decl_of, read_decl, read_constant, read_function_head, read_structure, read_import}
use Rattle.fields.specs.declared.counts.Counts as C
use Rattle.fields.specs.declared.refusal.Refusal.{Refusal}
use Rattle.fields.specs.Answers.{cursor, forget, Gives, Ends, Skips, counts_of, Counting, Passes, two_places}
use Rattle.fields.proofs.Chain.{after, reads, number_got, number_refused}
use Rattle.fields.proofs.Counting.{fitted, counting_fits}
use Rattle.tree.proofs.Statements.{kind_value}
use Rattle.tree.proofs.Declarations.{decl_end, decl_is}
use Rattle.labels.specs.Outcomes.{statements_in, body_of}
use Rattle.label_references.specs.Pass.{StartOf, no_start, start_at, Starts}
use Rattle.label_references.proofs.Leading.{Leads, leads_refused, leads_same, leads_ret, leads_bind, leads_part, leads_unpart, leads_unpassed, places_lead, places_unled, passes_here}
use Rattle.label_references.proofs.Keeping.{Keeps, keeps_num, keeps_below, keeps_place, keeps_ident, keeps_bytes, keeps_poison, keeps_maybe, keeps_option, keeps_ty, keeps_read}
use Rattle.label_references.proofs.Growing.{counting_leads}
use Rattle.label_references.proofs.Laying.{either_unled, either_leads, either_second}

-- m counts no statement
pub record Stays {A : Type 0} (m : Reader A) : Type 0 where
  pub at : (s : List ℕ) (c : Cur) → Leads (m s c) (λ a d. d.counts.statements ≡ c.counts.statements)

stays_keeps : {A : Type 0} {m : Reader A} → Keeps m → Stays m
stays_keeps k = record { at = λ s c. record { to = λ q. ap (λ (y : Counts). y.statements) ((k.at s c).to q) } }

stays_ret : {A : Type 0} (a : A) → Stays (ret a)
stays_ret a = record { at = λ s c. leads_ret a s c refl }

stays_bind : {A B : Type 0} {m : Reader A} {f : A → Reader B} → Stays m → ((a : A) → Stays (f a)) → Stays (m >>= f)
stays_bind {m = m} {f} k h = record { at = λ s c. leads_bind f m s c λ x d q. record { to = λ e. ((h x).at s d).to e ∙ (k.at s c).to q } }

stays_many : {A : Type 0} {m : Reader A} → Stays m → (n : ℕ) → Stays (many m n)
unfolding many
stays_many k zero = stays_ret _
stays_many k (suc n) = stays_bind k λ a. stays_bind (stays_many k n) λ xs. stays_ret _

stays_listed : {A : Type 0} {m : Reader A} → Stays m → Stays (listed m)
unfolding listed
stays_listed k = stays_bind (stays_keeps keeps_num) (stays_many k)

stays_counting : {A : Type 0} (f : A → Counts) {m : Reader A} → Keeps m → ((a : A) → (f a).statements ≡ 0) → Stays (counting f m)
unfolding plus
stays_counting f k z = record { at = λ s c. record { to = λ {x} q. let o : _ ≡ _ = ap (λ (y : Counts). y.statements) ((counting_leads f s c k).to q).is in omega (arith, o, z x) } }

stays_param : (d : ℕ) (own : Bool) → Stays (read_param d own)
unfolding read_param an_entry
stays_param d own = stays_bind (stays_counting (λ _. an_entry) keeps_place (λ a. refl)) λ p. stays_bind (stays_keeps (keeps_maybe keeps_ident)) λ i. stays_bind (stays_keeps (keeps_maybe (keeps_ty d own))) λ t. stays_ret _

-- what m reads has no statements, and none is counted
pub record Bodiless (m : Reader (Decl Spot)) : Type 0 where
  pub at : (s : List ℕ) (c : Cur) → Leads (m s c) (λ x d. (body_of x ≡ none) × (d.counts.statements ≡ c.counts.statements))

bodiless_ret : (x : Decl Spot) → body_of x ≡ none → Bodiless (ret x)
bodiless_ret x h = record { at = λ s c. leads_ret x s c (h, refl) }

bodiless_bind : {A : Type 0} {m : Reader A} {f : A → Reader (Decl Spot)} → Stays m → ((a : A) → Bodiless (f a)) → Bodiless (m >>= f)
bodiless_bind {m = m} {f} k h = record { at = λ s c. leads_bind f m s c λ x d q. record { to = λ e. let (l, z) = ((h x).at s d).to e in (l, z ∙ (k.at s c).to q) } }

bodiless_kind : (v : ℕ) → (v ≡ 1 → ⊥) → Bodiless (decl_of 63 (get_or decl_kinds v k_bad_decl))
unfolding decl_of decl_kinds read_constant read_function_head read_structure read_import body_of
bodiless_kind zero z = bodiless_bind (stays_keeps (keeps_below 32)) λ f. bodiless_bind (stays_keeps keeps_place) λ p. bodiless_bind (stays_keeps keeps_place) λ q. bodiless_bind (stays_keeps keeps_ident) λ i. bodiless_bind (stays_keeps (keeps_read 63 expr)) λ x. bodiless_bind (stays_keeps (keeps_maybe (keeps_ty 63 true))) λ t. bodiless_ret _ refl
bodiless_kind (suc zero) z = absurd (z refl)
bodiless_kind (suc (suc zero)) z = bodiless_bind (stays_keeps (keeps_below 32)) λ f. bodiless_bind (stays_keeps keeps_place) λ p. bodiless_bind (stays_keeps keeps_place) λ q. bodiless_bind (stays_keeps keeps_ident) λ i. bodiless_bind (stays_listed (stays_param 63 false)) λ ps. bodiless_bind (stays_keeps (keeps_maybe (keeps_ty 63 false))) λ t. bodiless_ret _ refl
bodiless_kind (suc (suc (suc zero))) z = bodiless_bind (stays_keeps (keeps_below 32)) λ f. bodiless_bind (stays_keeps keeps_place) λ p. bodiless_bind (stays_keeps keeps_ident) λ i. bodiless_bind (stays_listed (stays_param 63 true)) λ ps. bodiless_bind (stays_keeps (keeps_maybe (keeps_ty 63 false))) λ t. bodiless_ret _ refl
bodiless_kind (suc (suc (suc (suc zero)))) z = bodiless_bind (stays_keeps keeps_bytes) λ b. bodiless_bind (stays_keeps keeps_place) λ p. bodiless_ret _ refl
bodiless_kind (suc (suc (suc (suc (suc zero))))) z = bodiless_bind (stays_keeps keeps_poison) λ p. bodiless_ret _ refl
bodiless_kind (suc (suc (suc (suc (suc (suc v)))))) z = bodiless_bind (stays_keeps keeps_poison) λ p. bodiless_ret _ refl

pub starts_leads : {q : Got (Decl Spot)} {s : List ℕ} {names k : ℕ} {r : Result (Rust.Option (ℕ × C.Counts)) Refusal} → Leads q (λ x d. StartOf s names k x d r) → Starts q s names k r
starts_leads l = record { does = λ q. l.to q }

-- THE HEAD

no_statement : (x : DeclKind) → (decl_counts x).statements ≡ 0
unfolding decl_counts a_container a_function nothing
no_statement k_constant = refl
no_statement k_function = refl
no_statement k_function_head = refl
no_statement k_structure = refl
no_statement k_import = refl
no_statement k_bad_decl = refl

-- the declaration's end, by what its kind was read as
ended_at : (s : List ℕ) (c : Cur) {q : Got ℕ} → below 6 s c ≡ q → forget (read_decl s c) ≡ decl_end s c.at q
ended_at s c e = decl_is s c ∙ ap (decl_end s c.at) e

module _ (names : ℕ) (k : C.Counts) {s : List ℕ} {at : ℕ} where
  module _ {r : Result (Rust.Option (ℕ × C.Counts)) Refusal} where
    pub start_unread : {e : Refusal} → Gives (below 6) s at (Err e) → Starts (read_decl s (cursor at names (counts_of k))) s names k.statements r
    start_unread h = starts_leads (leads_refused _ (ended_at s _ (h.is names (counts_of k))))

    pub start_many : {v n : ℕ} {b : C.Counts} → Gives (below 6) s at (Ok (v, n)) → Counting k b Rust.None → counts_of b ≡ decl_counts (get_or decl_kinds v k_bad_decl) → Starts (read_decl s (cursor at names (counts_of k))) s names k.statements r
    start_many h g u = starts_leads (leads_refused _ {i = 8} {p = at} (ended_at s _ (h.is names (counts_of k)) ∙ rw (← u, g.is) refl))

  module _ {v n : ℕ} (h : Gives (below 6) s at (Ok (v, n))) {b c : C.Counts} (g : Counting k b (Rust.Some c)) (u : counts_of b ≡ decl_counts (get_or decl_kinds v k_bad_decl)) where
    decl_leads : {Q : Decl Spot → Cur → Type 0} → Leads (decl_of 63 (get_or decl_kinds v k_bad_decl) s (cursor n names (counts_of c))) Q → Leads (read_decl s (cursor at names (counts_of k))) Q
    unfolding read_decl decl_head ◌>>=◌ counted
    decl_leads {Q} l =
        let x : DeclKind = get_or decl_kinds v k_bad_decl in
        let o : counts_of c ≡ plus (counts_of k) (decl_counts x) = (fitted g).1 ∙ ap (plus (counts_of k)) u in
        leads_same (ap (after (decl_of 63) s) (counting_fits decl_counts decl_head s _ (kind_value (λ i. get_or decl_kinds i k_bad_decl) 6 h (counts_of k)) (ap (λ (i : Counts). fits (plus (counts_of k) i)) (sym u) ∙ (fitted g).0)))
        (subst (λ (i : Counts). Leads (decl_of 63 x s (cursor n names i)) Q) o l)

    stays_go : c.statements ≡ k.statements
    unfolding plus
    stays_go =
        let o : b.statements ≡ 0 = ap (λ (x : Counts). x.statements) u ∙ no_statement (get_or decl_kinds v k_bad_decl) in
        let c₁ : c.statements ≡ k.statements + b.statements = ap (λ (x : Counts). x.statements) (fitted g).1 in
        omega arith

    pub start_other : (v ≡ 1 → ⊥) → Starts (read_decl s (cursor at names (counts_of k))) s names k.statements (Ok Rust.None)
    start_other z = starts_leads (decl_leads (record { to = λ q. let (o, i) = ((bodiless_kind v z).at s (cursor n names (counts_of c))).to q in no_start o (i ∙ stays_go) }))

    pub start_function : {r : Result (Rust.Option (ℕ × C.Counts)) Refusal} → v ≡ 1 → Starts (decl_of 63 (get_or decl_kinds 1 k_bad_decl) s (cursor n names (counts_of c))) s names c.statements r → Starts (read_decl s (cursor at names (counts_of k))) s names k.statements r
    start_function {r} z l = starts_leads (decl_leads (record { to = λ {x} {d = d} q. subst (λ (i : ℕ). StartOf s names i x d r) stays_go ((subst (λ (i : ℕ). Starts (decl_of 63 (get_or decl_kinds i k_bad_decl) s (cursor n names (counts_of c))) s names c.statements r) (sym z) l).does q) }))

-- INSIDE A FUNCTION

pub leads_params : {B : Type 0} {Q : B → Cur → Type 0} (f : List (Param Spot) → Reader B) {s : List ℕ} {names : ℕ} {k : C.Counts} {at n : ℕ} {c : C.Counts} → Passes (listed (read_param 63 false)) s names k at (Ok (n, c))
    → ((ps : List (Param Spot)) → c.statements ≡ k.statements → Leads (f ps s (cursor n names (counts_of c))) Q) → Leads ((listed (read_param 63 false) >>= f) s (cursor at names (counts_of k))) Q
leads_params {Q = Q} f {s} {names} {k} {at} {n} {c} g h = leads_bind f _ _ _ λ ps d q.
    let z : cursor n names (counts_of c) ≡ d = passes_here g q in
    let o : c.statements ≡ k.statements = ap (λ (y : Cur). y.counts.statements) z ∙ ((stays_listed (stays_param 63 false)).at s (cursor at names (counts_of k))).to q in
    subst (λ (y : Cur). Leads (f ps s y) Q) z (h ps o)

-- what is inside a body that begins at n
pub data Inside (s : List ℕ) (names n : ℕ) (c : C.Counts) (b : Maybe Spot (Body Spot)) (d : Cur) : Type 0 where
  inside : (ts : List (Stm Spot stmt)) (e : Cur) → statements_in b ≡ some (to_stms ts) → listed (read_stmt 63) s (cursor n names (counts_of c)) ≡ got ts e → d.counts ≡ e.counts → Inside s names n c b d

body_go : (s : List ℕ) (names n : ℕ) (c : C.Counts) → Leads ((read_body 63 >>= λ b. ret (ok b)) s (cursor n names (counts_of c))) (λ b d. Inside s names n c b d)
unfolding read_body statements_in
body_go s names n c = leads_bind _ _ _ _ λ b d q. leads_ret _ _ _ (found.to q)
  where
    found : Leads (read_body 63 s (cursor n names (counts_of c))) (λ b d. Inside s names n c (ok b) d)
    found = leads_bind _ _ _ _ λ ts e q. leads_bind _ _ _ _ λ v e₁ q₁. leads_bind _ _ _ _ λ i e₂ q₂. leads_ret _ _ _ (inside ts e refl q ((keeps_ident.at _ _).to q₂ ∙ ((keeps_option (keeps_read 63 expr)).at _ _).to q₁))

module _ {s : List ℕ} (names : ℕ) {at : ℕ} (c : C.Counts) where
  pub inside_unread : {B : Type 0} {Q : B → Cur → Type 0} (f : Maybe Spot (Body Spot) → Reader B) {e : Refusal} → Gives (below 2) s at (Err e) → Leads ((maybe (read_body 63) >>= f) s (cursor at names (counts_of c))) Q
  unfolding maybe
  inside_unread {Q = Q} f g = leads_bind f _ _ _ λ b d q. (either_unled {Q = λ b d. Leads (f b s d) Q} _ _ names _ g).to q

  module _ {v n : ℕ} (g : Gives (below 2) s at (Ok (v, n))) {k : ℕ} (z : c.statements ≡ k) (make : Maybe Spot (Body Spot) → Maybe Spot (Ty Spot) → Decl Spot) (has : (b : Maybe Spot (Body Spot)) (t : Maybe Spot (Ty Spot)) → body_of (make b t) ≡ statements_in b) where
    pub inside_poison : (v ≡ 0 → ⊥) → Leads ((maybe (read_body 63) >>= λ b. maybe (read_ty 63 false) >>= λ t. ret (make b t)) s (cursor at names (counts_of c))) (λ x d. StartOf s names k x d (Ok Rust.None))
    unfolding maybe statements_in
    inside_poison y = leads_bind _ _ _ _ λ b d q. leads_bind _ _ _ _ λ t d₁ q₁. leads_ret _ _ _
        (let (o, w) = found.to q in no_start (has b t ∙ o) (ap (λ (i : Counts). i.statements) (((keeps_maybe (keeps_ty 63 false)).at _ _).to q₁ ∙ w) ∙ z))
      where
        found : Leads (maybe (read_body 63) s (cursor at names (counts_of c))) (λ b d. (statements_in b ≡ none) × (d.counts ≡ counts_of c))
        found = either_second _ _ names _ g y (leads_bind _ _ _ _ λ p d q. leads_ret _ _ _ (refl, (keeps_poison.at _ _).to q))

    pub inside_body : v ≡ 0 → Leads ((maybe (read_body 63) >>= λ b. maybe (read_ty 63 false) >>= λ t. ret (make b t)) s (cursor at names (counts_of c))) (λ x d. StartOf s names k x d (Ok (Rust.Some (n, c))))
    unfolding maybe
    inside_body y = leads_bind _ _ _ _ λ b d q. leads_bind _ _ _ _ λ t d₁ q₁. leads_ret _ _ _ (go b t d d₁ (found.to q) (((keeps_maybe (keeps_ty 63 false)).at _ _).to q₁))
      where
        found : Leads (maybe (read_body 63) s (cursor at names (counts_of c))) (λ b d. Inside s names n c b d)
        found = either_leads _ _ names _ g y (body_go s names n c)

        go : (b : Maybe Spot (Body Spot)) (t : Maybe Spot (Ty Spot)) (d d₁ : Cur) → Inside s names n c b d → d₁.counts ≡ d.counts → StartOf s names k (make b t) d₁ (Ok (Rust.Some (n, c)))
        go b t d d₁ (inside ts e₁ o q w) u = start_at ts e₁ (has b t ∙ o) z q (ap (λ (i : Counts). i.statements) (u ∙ w))

pub function_has : (f : ℕ) (p q : Spot) (i : Ident Spot) (ps : List (Param Spot)) (b : Maybe Spot (Body Spot)) (t : Maybe Spot (Ty Spot)) → body_of (function f p q i ps b t) ≡ statements_in b
unfolding body_of
function_has f p q i ps b t = refl

-- a function's parts, one after another, up to its body
module _ {s : List ℕ} {names : ℕ} (k : C.Counts) {at : ℕ} where
  pub function_flagless : {e : Refusal} {r : Result (Rust.Option (ℕ × C.Counts)) Refusal} → Gives (below 32) s at (Err e) → Starts (read_function 63 s (cursor at names (counts_of k))) s names k.statements r
  unfolding read_function
  function_flagless g = starts_leads (leads_unpart _ _ (number_refused {names = names} (reads g)))

  module _ {v a : ℕ} (g : Gives (below 32) s at (Ok (v, a))) where
    pub function_placeless : {e : Refusal} {r : Result (Rust.Option (ℕ × C.Counts)) Refusal} → Skips two_places s a (Err e) → Starts (read_function 63 s (cursor at names (counts_of k))) s names k.statements r
    unfolding read_function
    function_placeless g₁ = starts_leads (leads_part _ _ (number_got {names = names} (reads g)) λ f. places_unled _ _ _ g₁)

    module _ {b : ℕ} (g₁ : Skips two_places s a (Ok b)) where
      pub function_nameless : {e : Refusal} {r : Result (Rust.Option (ℕ × C.Counts)) Refusal} → Ends ident s names b (Err e) → Starts (read_function 63 s (cursor at names (counts_of k))) s names k.statements r
      unfolding read_function
      function_nameless g₂ = starts_leads (leads_part _ _ (number_got {names = names} (reads g)) λ f. places_lead _ _ _ g₁ λ p q. leads_unpart _ _ g₂)

      module _ {d : ℕ} (g₂ : Ends ident s names b (Ok d)) where
        pub function_listless : {e : Refusal} {r : Result (Rust.Option (ℕ × C.Counts)) Refusal} → Passes (listed (read_param 63 false)) s names k d (Err e) → Starts (read_function 63 s (cursor at names (counts_of k))) s names k.statements r
        unfolding read_function
        function_listless g₃ = starts_leads (leads_part _ _ (number_got {names = names} (reads g)) λ f. places_lead _ _ _ g₁ λ p q. leads_part _ _ g₂ λ i. leads_unpassed _ g₃)

        module _ {h : ℕ} {c : C.Counts} (g₃ : Passes (listed (read_param 63 false)) s names k d (Ok (h, c))) where
          function_on : (r : Result (Rust.Option (ℕ × C.Counts)) Refusal) → ((f : ℕ) (p q : Spot) (i : Ident Spot) (ps : List (Param Spot)) → c.statements ≡ k.statements
              → Leads ((maybe (read_body 63) >>= λ b. maybe (read_ty 63 false) >>= λ t. ret (function f p q i ps b t)) s (cursor h names (counts_of c))) (λ x d. StartOf s names k.statements x d r)) → Starts (read_function 63 s (cursor at names (counts_of k))) s names k.statements r
          unfolding read_function
          function_on r l = starts_leads (leads_part _ _ (number_got {names = names} (reads g)) λ f. places_lead _ _ _ g₁ λ p q. leads_part _ _ g₂ λ i. leads_params _ g₃ λ ps z. l f p q i ps z)

          pub function_tagless : {e : Refusal} {r : Result (Rust.Option (ℕ × C.Counts)) Refusal} → Gives (below 2) s h (Err e) → Starts (read_function 63 s (cursor at names (counts_of k))) s names k.statements r
          function_tagless g₄ = function_on _ (λ f p q i ps z. inside_unread names c _ g₄)

          pub function_bodiless : {t n : ℕ} → Gives (below 2) s h (Ok (t, n)) → (t ≡ 0 → ⊥) → Starts (read_function 63 s (cursor at names (counts_of k))) s names k.statements (Ok Rust.None)
          function_bodiless g₄ y = function_on _ (λ f p q i ps z. inside_poison names c g₄ z _ (function_has f p q i ps) y)

          pub function_start : {t n : ℕ} → Gives (below 2) s h (Ok (t, n)) → t ≡ 0 → Starts (read_function 63 s (cursor at names (counts_of k))) s names k.statements (Ok (Rust.Some (n, c)))
          function_start g₄ y = function_on _ (λ f p q i ps z. inside_body names c g₄ z _ (function_has f p q i ps) y)

pub ruleset body_start_laws = (start_unread, start_many, start_function)

pub ruleset inside_function_laws = (function_flagless, function_placeless, function_nameless, function_listless, function_start)
