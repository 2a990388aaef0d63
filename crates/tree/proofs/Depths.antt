-- The depths behind the declarations, as they come in and as they are answered.
use Rattle.std.proofs.Common.{ℕ, zero, suc, ◌-◌, ◌<◌, ◌≡◌, refl, sym, ap, ◌∙◌, true, false, List, [], ◌∷◌, length, get_or, subst, arith, Result, Ok, Err}
use Rattle.penne.specs.Reader.{Counts, Cur, Got, got, refused, Reader, ◌>>=◌, ret, below, many, each, fits, plus, counting, nothing}
use Rattle.penne.specs.Tree.{Spot, Decl}
use Rattle.penne.specs.Read.{incoming, answered, read_decl, decl_head, decl_of, DeclKind, decl_kinds, decl_counts, k_constant, k_function, k_function_head, k_structure, k_import, k_bad_decl, read_constant, read_function, read_function_head, read_structure, read_import}
use Rattle.penne.proofs.Leading.{same_value, never as got_never}
use Rattle.fields.specs.declared.counts.Counts as C
use Rattle.fields.specs.declared.refusal.Refusal.{Refusal}
use Rattle.tree.specs.declared.script.Layout.{Layout}
use Rattle.fields.specs.Answers.{cursor, forget, end_of, Gives, Ends, counts_of, Passes}
use Rattle.tree.specs.Script.{depth_by, IncomingDepths, AnsweredDepths}
use Rattle.fields.proofs.Back.{bind_case, many_case}
use Rattle.fields.proofs.Chain.{after, then_is, here, never'}
use Rattle.fields.proofs.Counting.{counting_no, counting_fits, counting_full}
use Rattle.fields.proofs.Parts.{tail_is}
use Rattle.fields.proofs.Lists.{many_on, many_off, many_end}
use Rattle.tree.proofs.Statements.{looked_up, look_is, kind_value}
use Rattle.tree.proofs.Scripts.{Yields, yields_bind, yields_ret}

-- the depths of a list, by what was read for its first
abbrev pub behind : (Cur → Got (Unit {0})) → Got ℕ → Got (Unit {0})
behind f (got h d) = f d
behind f (refused i p) = refused i p

module _ (h : Decl Spot → Reader ℕ) (d : Decl Spot) (ds : List (Decl Spot)) (s : List ℕ) where
  each_go : (q : Got ℕ) → forget (after (λ b. each h ds >>= λ bs. ret (b ∷ bs)) s q) ≡ behind (λ e. forget (each h ds s e)) q
  unfolding forget
  each_go (got b e) = tail_is (λ bs. b ∷ bs) (each h ds) s e
  each_go (refused i p) = refl

  each_is : (c : Cur) → forget (each h (d ∷ ds) s c) ≡ behind (λ e. forget (each h ds s e)) (h d s c)
  unfolding each
  each_is c = ap forget (then_is _ _ s c) ∙ each_go (h d s c)

-- DEPTHS AS THEY COME IN

-- they are so many numbers, all 0
many_go : {f g : Cur → Got (Unit {0})} → ((d : Cur) → f d ≡ g d) → (q : Got ℕ) → behind f q ≡ behind g q
many_go h (got b d) = h d
many_go h (refused i p) = refl

module _ (n : ℕ) (s : List ℕ) where
  next_go : (q : Got ℕ) → forget (after (λ b. many (below 1) n >>= λ bs. ret (b ∷ bs)) s q) ≡ behind (λ e. forget (many (below 1) n s e)) q
  unfolding forget
  next_go (got b e) = tail_is (λ bs. b ∷ bs) (many (below 1) n) s e
  next_go (refused i p) = refl

  next_is : (c : Cur) → forget (many (below 1) (suc n) s c) ≡ behind (λ e. forget (many (below 1) n s e)) (below 1 s c)
  unfolding many
  next_is c = ap forget (then_is _ _ s c) ∙ next_go (below 1 s c)

all_zero : (ds : List (Decl Spot)) (s : List ℕ) (c : Cur) → forget (each incoming ds s c) ≡ forget (many (below 1) (length ds) s c)
unfolding each incoming many
all_zero [] s c = refl
all_zero (d ∷ ds) s c = each_is incoming d ds s c ∙ many_go (all_zero ds s) (below 1 s c) ∙ sym (next_is (length ds) s c)

-- so many of them are left from `cur` on
pub record Coming (s : List ℕ) (count at rest cur : ℕ) : Type 0 where
  pub is : (names : ℕ) (k : Counts) → forget (many (below 1) count s (cursor at names k)) ≡ forget (many (below 1) rest s (cursor cur names k))

coming : {s : List ℕ} {count at : ℕ} {r : Result ℕ Refusal} → ((names : ℕ) (k : Counts) → forget (many (below 1) count s (cursor at names k)) ≡ end_of names k r) → IncomingDepths s count at r
coming {s} h = record { ends = λ ds e. record { is = λ names k. all_zero ds s _ ∙ rw e (h names k) } }

pub coming_start : {s : List ℕ} {count at : ℕ} → Coming s count at count at
coming_start = record { is = λ names k. refl }

module _ {s : List ℕ} {count at rest cur : ℕ} (g : Coming s count at rest cur) where
  pub coming_halt : {e : Refusal} → 0 < rest → Gives (below 1) s cur (Err e) → IncomingDepths s count at (Err e)
  coming_halt z h = coming (λ names k. g.is names k ∙ many_off (below 1) _ s _ _ _ z (h.is names k))

  pub coming_more : {v rest' next : ℕ} → rest ≡ suc rest' → Gives (below 1) s cur (Ok (v, next)) → Coming s count at rest' next
  coming_more z h = record { is = λ names k. g.is names k ∙ many_on (below 1) _ _ s _ _ _ z (h.is names k) }

  pub coming_done : rest ≡ 0 → IncomingDepths s count at (Ok cur)
  coming_done z = coming (λ names k. g.is names k ∙ rw z (many_end (below 1) s _))

pub ruleset comings = (coming_start, coming_halt, coming_more, coming_done)

-- DEPTHS AS ANSWERED

-- the kinds that have a depth
pub depth_rest : (k : ℕ) → (k ≡ 0 → ⊥) → (k ≡ 3 → ⊥) → depth_by (get_or decl_kinds k k_bad_decl) ≡ below 1
unfolding depth_by decl_kinds
depth_rest zero h₀ h₃ = absurd (h₀ refl)
depth_rest (suc zero) h₀ h₃ = refl
depth_rest (suc (suc zero)) h₀ h₃ = refl
depth_rest (suc (suc (suc zero))) h₀ h₃ = absurd (h₃ refl)
depth_rest (suc (suc (suc (suc zero)))) h₀ h₃ = refl
depth_rest (suc (suc (suc (suc (suc zero))))) h₀ h₃ = refl
depth_rest (suc (suc (suc (suc (suc (suc k)))))) h₀ h₃ = refl

-- the depth of what was read goes by its kind
abbrev Deep : DeclKind → Decl Spot → Type 0
Deep k d = answered d ≡ depth_by k

deep : (k : DeclKind) → Yields (Deep k) (decl_of 63 k)
unfolding decl_of read_constant read_function read_function_head read_structure read_import answered depth_by
deep k_constant = yields_bind _ _ λ f. yields_bind _ _ λ p. yields_bind _ _ λ q. yields_bind _ _ λ i. yields_bind _ _ λ x. yields_bind _ _ λ t. yields_ret _ _ refl
deep k_function = yields_bind _ _ λ f. yields_bind _ _ λ p. yields_bind _ _ λ q. yields_bind _ _ λ i. yields_bind _ _ λ ps. yields_bind _ _ λ b. yields_bind _ _ λ t. yields_ret _ _ refl
deep k_function_head = yields_bind _ _ λ f. yields_bind _ _ λ p. yields_bind _ _ λ q. yields_bind _ _ λ i. yields_bind _ _ λ ps. yields_bind _ _ λ t. yields_ret _ _ refl
deep k_structure = yields_bind _ _ λ f. yields_bind _ _ λ p. yields_bind _ _ λ i. yields_bind _ _ λ ms. yields_bind _ _ λ t. yields_ret _ _ refl
deep k_import = yields_bind _ _ λ b. yields_bind _ _ λ p. yields_ret _ _ refl
deep k_bad_decl = yields_bind _ _ λ z. yields_ret _ _ refl

-- the kind that counting hands on is the one that was read
counted_kind : {A : Type 0} (f : A → Counts) (m : Reader A) (s : List ℕ) (c : Cur) {a b : A} {next d : Cur} → m s c ≡ got a next → counting f m s c ≡ got b d → a ≡ b
counted_kind f m s c {a} {b} {next} e h = (elim (fits (plus next.counts (f a))) as (λ t. fits (plus next.counts (f a)) ≡ t → a ≡ b) [
  | true ↦ λ z. same_value (sym (counting_fits f m s c e z) ∙ h)
  | false ↦ λ z. got_never (sym (counting_full f m s c e z) ∙ h)
]) refl

decl_depth : {s : List ℕ} (names : ℕ) {at : ℕ} (k : Counts) {v n : ℕ} {d : Decl Spot} {c : Cur} → Gives (below 6) s at (Ok (v, n)) → read_decl s (cursor at names k) ≡ got d c → answered d ≡ depth_by (get_or decl_kinds v k_bad_decl)
unfolding read_decl decl_head
decl_depth {s} names {at} k {d = d} {c} g h = bind_case (counting decl_counts decl_head) (decl_of 63) s (cursor at names k) h λ kd c₁ h₁ h₂.
    let z = counted_kind decl_counts decl_head s (cursor at names k) (kind_value (λ n. get_or decl_kinds n k_bad_decl) 6 g k) h₁ in
    subst (λ (y : DeclKind). answered d ≡ depth_by y) (sym z) ((deep kd).all s c₁ d c h₂)

-- the declarations are read again beside their depths, and so many are left
pub record Again (s : List ℕ) (l : Layout) (rest declared : ℕ) (k : C.Counts) (cur : ℕ) : Type 0 where
  pub on : (r : Result ℕ Refusal) → ((ds : List (Decl Spot)) (c : Cur) → many read_decl rest s (cursor declared l.names (counts_of k)) ≡ got ds c → Ends (each answered ds) s l.names cur r) →
      (ds : List (Decl Spot)) (c : Cur) → many read_decl l.count s (cursor l.first l.names nothing) ≡ got ds c → Ends (each answered ds) s l.names l.depths r

pub again_start : {s : List ℕ} {l : Layout} {k : C.Counts} → counts_of k ≡ nothing → Again s l l.count l.first k l.depths
again_start z = record { on = λ r h. rw z at h }

module _ {s : List ℕ} {l : Layout} {rest declared : ℕ} {k : C.Counts} {cur : ℕ} (g : Again s l rest declared k cur) where
  abbrev here_c : Cur
  here_c = cursor declared l.names (counts_of k)

  module _ {rest' : ℕ} (z : rest ≡ suc rest') where
    -- what the declaration there is, and what is left behind it
    first_case : {X : Type 0} {ds : List (Decl Spot)} {c : Cur} → many read_decl rest s here_c ≡ got ds c →
        ((d : Decl Spot) (c₁ : Cur) (tail : List (Decl Spot)) → read_decl s here_c ≡ got d c₁ → many read_decl rest' s c₁ ≡ got tail c → ds ≡ d ∷ tail → X) → X
    first_case h next = many_case read_decl rest' s here_c (sym (ap (λ (j : ℕ). many read_decl j s here_c) z) ∙ h) next

    -- a declaration that was read once is not refused
    never_read : {e : Refusal} {r : Result ℕ Refusal} → Gives (below 6) s declared (Err e) → AnsweredDepths s l r
    unfolding read_decl decl_head
    never_read {r = r} h = record {
      ends = g.on r λ ds c q. first_case q λ d c₁ tail h₁ h₂ w.
          bind_case (counting decl_counts decl_head) (decl_of 63) s here_c h₁ λ kd c₂ h₃ h₄.
          got_never (sym (counting_no decl_counts decl_head s here_c (look_is (λ n. get_or decl_kinds n k_bad_decl) 6 s here_c ∙ ap (looked_up (λ n. get_or decl_kinds n k_bad_decl)) (h.is l.names (counts_of k)))) ∙ h₃);
    }

    not_read : {e : Refusal} {r : Result ℕ Refusal} → Passes read_decl s l.names k declared (Err e) → AnsweredDepths s l r
    unfolding forget
    not_read {r = r} o = record { ends = g.on r λ ds c q. first_case q λ d c₁ tail h₁ h₂ w. never' (sym o.is ∙ ap forget h₁) }

    module _ {v n : ℕ} (h : Gives (below 6) s declared (Ok (v, n))) where
      -- the depth of the declaration there
      depth_is : {r : Result (ℕ × ℕ) Refusal} {d : Decl Spot} {c : Cur} → Gives (depth_by (get_or decl_kinds v k_bad_decl)) s cur r → read_decl s here_c ≡ got d c → Gives (answered d) s cur r
      depth_is {r} y h₁ = subst (λ (m : Reader ℕ). Gives m s cur r) (sym (decl_depth l.names (counts_of k) h h₁)) y

      halt_depth : {e : Refusal} → Gives (depth_by (get_or decl_kinds v k_bad_decl)) s cur (Err e) → AnsweredDepths s l (Err e)
      halt_depth {e} y = record {
        ends = g.on (Err e) λ ds c q. first_case q λ d c₁ tail h₁ h₂ w.
            record { is = λ j. rw w (each_is answered d tail s _ ∙ ap (behind (λ e. forget (each answered tail s e))) ((depth_is y h₁).is l.names j)) };
      }

      module _ {next : ℕ} {more : C.Counts} (o : Passes read_decl s l.names k declared (Ok (next, more))) where
        end_is : {d : Decl Spot} {c : Cur} → read_decl s here_c ≡ got d c → c ≡ cursor next l.names (counts_of more)
        unfolding forget
        end_is h₁ = here (sym (ap forget h₁) ∙ o.is)

        pub again_more : {x f : ℕ} → Gives (depth_by (get_or decl_kinds v k_bad_decl)) s cur (Ok (x, f)) → Again s l rest' next more f
        again_more {f = f} y = record {
          on = λ r on. g.on r λ ds c q. first_case q λ d c₁ tail h₁ h₂ w.
              record { is = λ j. rw w (each_is answered d tail s _ ∙ ap (behind (λ e. forget (each answered tail s e))) ((depth_is y h₁).is l.names j) ∙ (on tail c (subst (λ (c₂ : Cur). many read_decl rest' s c₂ ≡ got tail c) (end_is h₁) h₂)).is j) };
        }

  module _ (z : 0 < rest) where
    one_more : rest ≡ suc (rest - 1)
    one_more = omega arith

    pub again_never : {e : Refusal} {r : Result ℕ Refusal} → Gives (below 6) s declared (Err e) → AnsweredDepths s l r
    again_never h = never_read one_more h

    pub again_not : {e : Refusal} {r : Result ℕ Refusal} → Passes read_decl s l.names k declared (Err e) → AnsweredDepths s l r
    again_not o = not_read one_more o

    pub again_halt : {v n : ℕ} {e : Refusal} → Gives (below 6) s declared (Ok (v, n)) → Gives (depth_by (get_or decl_kinds v k_bad_decl)) s cur (Err e) → AnsweredDepths s l (Err e)
    again_halt h y = halt_depth one_more h y

  pub again_done : rest ≡ 0 → AnsweredDepths s l (Ok cur)
  unfolding each many ret forget
  again_done z = record {
    ends = g.on (Ok cur) λ ds c q.
        subst (λ (xs : List (Decl Spot)). Ends (each answered xs) s l.names cur (Ok cur)) (same_value (sym (ap (λ (j : ℕ). many read_decl j s here_c) z) ∙ q)) (record { is = λ j. refl });
  }

pub ruleset agains = (again_start, again_never, again_not, again_halt, again_more, again_done)
