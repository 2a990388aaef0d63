-- The whole tree up to its depths: names and declarations.
use Rattle.std.proofs.Common.{ℕ, ◌≤◌, ◌<◌, ◌≡◌, refl, ap, ◌∙◌, true, false, List, [], subst, arith, if◌then◌else◌, Ok, Err}
use lib.Dec.{ltb}
use borrow.Author.Tests.{lt-ltb, le-ltb}
use Rattle.penne.specs.Reader.{Cur, Got, got, refused, Reader, ◌>>=◌, ret, num, many, listed, each, such, nothing}
use Rattle.penne.specs.Tree.{Spot, Decl, Tree}
use Rattle.penne.specs.Read.{read_names, tabled, read_tree, read_decl}
use Rattle.penne.proofs.Leading.{same_value}
use Rattle.fields.specs.declared.counts.Counts as C
use Rattle.fields.specs.declared.refusal.Reason.TheVariants.{TooMany}
use Rattle.fields.specs.declared.refusal.Refusal.{Refusal}
use Rattle.fields.specs.Answers.{cursor, refusal, Gives, counts_of, Passes}
use Rattle.name_table.specs.Names.{names_from, Tables}
use Rattle.tree.specs.Script.{start, Lays}
use Rattle.fields.proofs.Back.{bind_case, forget_got, forget_refused}
use Rattle.fields.proofs.Chain.{after, then_is, reads, goes, stops}

-- every value that m reads is such
pub record Yields {A : Type 0} (P : A → Type 0) (m : Reader A) : Type 0 where
  pub all : (s : List ℕ) (c : Cur) (a : A) (d : Cur) → m s c ≡ got a d → P a

pub yields_bind : {A B : Type 0} {P : B → Type 0} (m : Reader A) (f : A → Reader B) → ((a : A) → Yields P (f a)) → Yields P (m >>= f)
yields_bind m f h = record { all = λ s c b d e. bind_case m f s c e λ a c' _ e'. (h a).all s c' b d e' }

pub yields_ret : {A : Type 0} (P : A → Type 0) (a : A) → P a → Yields P (ret a)
unfolding ret
yields_ret P a h = record { all = λ s c b d e. subst P (same_value e) h }

-- the rest of the tree, one part after another
module _ (depth : Decl Spot → Reader ℕ) where
  abbrev depths_of : List (List ℕ) → List (Decl Spot) → Reader (Tree Spot)
  depths_of ns ds = each depth ds >>= λ hs. ret (record { names = ns; decls = ds; depths = hs })

  abbrev decls_of : ℕ → List (List ℕ) → Reader (Tree Spot)
  decls_of n ns = tabled n >>= λ _. listed read_decl >>= λ ds. depths_of ns ds

  abbrev names_of : ℕ → Reader (Tree Spot)
  names_of n = read_names n [] >>= λ ns. decls_of n ns

  -- the tree by what was read as the count of its names
  abbrev by_count : List ℕ → (at : ℕ) → Got ℕ → Got (Tree Spot)
  by_count s at (got n d) = if ltb n 1025 then names_of n s d else refused 8 at
  by_count s at (refused i p) = refused i p

  count_go : (s : List ℕ) (at : ℕ) (q : Got ℕ) → after names_of s (elim q as (λ _. Got ℕ) [ got n d ↦ elim (ltb n 1025) as (λ _. Got ℕ) [ true ↦ got n d | false ↦ refused 8 at ] | refused i p ↦ refused i p ]) ≡ by_count s at q
  count_go s at (got n d) = (elim (ltb n 1025) as (λ t. after names_of s (elim t as (λ _. Got ℕ) [ true ↦ got n d | false ↦ refused 8 at ]) ≡ (if t then names_of n s d else refused 8 at)) [ true ↦ refl | false ↦ refl ])
  count_go s at (refused i p) = refl

  counted_is : (s : List ℕ) (c : Cur) → read_tree depth s c ≡ by_count s c.at (num s c)
  unfolding read_tree such
  counted_is s c = then_is _ _ s c ∙ count_go s c.at (num s c)

-- a refusal before the depths
refuses : {s : List ℕ} {e : Refusal} → ((depth : Decl Spot → Reader ℕ) → read_tree depth s start ≡ refusal e) → Lays s (Err e)
refuses h = record { out = tt; not = h }

pub names_unread : {s : List ℕ} {e : Refusal} → Gives num s 0 (Err e) → Lays s (Err e)
names_unread {s} g = refuses λ depth. counted_is depth s start ∙ ap (by_count depth s 0) (g.is 0 nothing)

module _ {s : List ℕ} {n a : ℕ} (g₁ : Gives num s 0 (Ok (n, a))) where
  pub names_many : 1024 < n → Lays s (Err (record { reason = TooMany; place = 0 }))
  names_many h = refuses λ depth. counted_is depth s start ∙ ap (by_count depth s 0) (g₁.is 0 nothing) ∙ rw (le-ltb n 1025 (omega arith))

  module _ (h₁ : n ≤ 1024) where
    named : (depth : Decl Spot → Reader ℕ) → read_tree depth s start ≡ names_of depth n s (cursor a 0 nothing)
    named depth = counted_is depth s start ∙ ap (by_count depth s 0) (g₁.is 0 nothing) ∙ rw (lt-ltb n 1025 (omega arith))

    pub table_unread : {e : Refusal} → Tables n s a (Err e) → Lays s (Err e)
    table_unread g₂ = refuses λ depth. named depth ∙ then_is _ _ s _ ∙ ap (after (decls_of depth n) s) (g₂.is nothing)

    module _ {b : ℕ} (g₂ : Tables n s a (Ok b)) where
      tabled_on : (depth : Decl Spot → Reader ℕ) → read_tree depth s start ≡ (listed read_decl >>= depths_of depth (names_from n s a)) s (cursor b n nothing)
      unfolding tabled
      tabled_on depth = named depth ∙ then_is _ _ s _ ∙ ap (after (decls_of depth n) s) (g₂.is nothing) ∙ then_is _ _ s _

      pub count_unread : {e : Refusal} → Gives num s b (Err e) → Lays s (Err e)
      unfolding listed
      count_unread g₃ = refuses λ depth. tabled_on depth ∙ then_is _ _ s _ ∙ ap (after (depths_of depth (names_from n s a)) s) (stops (many read_decl) (reads g₃) nothing)

      module _ {m c : ℕ} (g₃ : Gives num s b (Ok (m, c))) {k : C.Counts} (z : counts_of k ≡ nothing) where
        listed_on : (depth : Decl Spot → Reader ℕ) → read_tree depth s start ≡ after (depths_of depth (names_from n s a)) s (many read_decl m s (cursor c n nothing))
        unfolding listed
        listed_on depth = tabled_on depth ∙ then_is _ _ s _ ∙ ap (after (depths_of depth (names_from n s a)) s) (goes (many read_decl) (reads g₃) nothing)

        pub declared_not : {e : Refusal} → Passes (many read_decl m) s n k c (Err e) → Lays s (Err e)
        declared_not g₄ = refuses λ depth. listed_on depth ∙ ap (after (depths_of depth (names_from n s a)) s) (forget_refused _ _ _ (rw z at g₄.is))

        pub declared_all : {d : ℕ} {q : C.Counts} → Passes (many read_decl m) s n k c (Ok (d, q)) → Lays s (Ok (record { names = n; count = m; first = c; depths = d }))
        declared_all {d} {q} g₄ =
            let w = forget_got _ _ (rw z at g₄.is) in
            record {
              out = record {
                table = names_from n s a;
                begin = a;
                behind = cursor b 0 nothing;
                counted = g₁.is 0 nothing;
                named = g₂.is nothing;
                decls = w.0;
                counts = counts_of q;
                read = w.1;
                whole = λ depth. listed_on depth ∙ ap (after (depths_of depth (names_from n s a)) s) w.1;
              };
              not = tt;
            }

pub ruleset lays = (names_unread, names_many, table_unread, count_unread)
