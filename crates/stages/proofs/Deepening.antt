-- The depths of the containers in the work words, and the depths that are written.
use Prim.Native.Nat.{ℕ, zero, suc, ◌≤◌, ◌<◌}
use mathlib.Core.Path.{◌≡◌, refl, sym, ap, subst, ◌∙◌}
use mathlib.Core.Bool.{Bool, true, false, not, ◌&&◌}
use mathlib.Core.Logic.{◌⊎◌, inl, inr}
use mathlib.Core.List.{List, [], ◌∷◌, map}
use mathlib.Core.Option.{Option, none, some}
use native.Mathlib.Omega.{arith}
use lib.Dec.{eqb}
use lib.ListN.{length, take, drop, length-drop}
use lib.Seq.{length-take-le}
use borrow.Author.Tests.{eq-eqb}
use borrow.Rule.Slice.PartMut.{put_mid}
use Rattle.std.specs.Prelude.{Result, Ok, Err}
use Rattle.fields.specs.declared.refusal.Refusal.{Refusal}
use Rattle.penne.specs.Reader.{below}
use Rattle.penne.specs.Tree.{Spot, Ident, Decl}
use Rattle.penne.specs.Find.{first, first_named, keep}
use Rattle.penne.specs.Containers.{Container, Containment, identifier_of, constants, structures, id_of}
use Rattle.penne.proofs.Booleans.{some_same, none_some}
use Rattle.fields.specs.declared.counts.Counts as C
use Rattle.fields.specs.Answers.{counts_of, Gives}
use Rattle.std.specs.Prelude as Rust
use Rattle.std.specs.Prelude.{Some, None}
use Rattle.containers.specs.Table.{at, id_at, kind_of, Holds}
use Rattle.containers.specs.Calls.{of_kind, found_in}
use Rattle.containers.specs.Depths.{Determines, TellsDepth}
use Rattle.walk.specs.declared.state.Script.{Script}
use Rattle.walk.specs.Walking.{containers_in}
use Rattle.walk.specs.Calls.{FindsIn}
use Rattle.walk.proofs.Tables.{containers_here}
use Rattle.stages.specs.declared.heads.Start.{Start}
use Rattle.stages.specs.declared.heads.Head.{Head}
use Rattle.stages.specs.declared.heads.Head.TheVariants as H
use Rattle.stages.specs.Heads.{Heads}
use Rattle.stages.specs.Stages.{DeterminesIn, unless_found, row_depth, RowOf, KeptDepth, NamedDepth, depth_in, Rowed, of_constant, of_function, of_head, of_structure, DepthOf}
use Rattle.stages.proofs.Parting.{told_named, told_import, told_poison, told_unread}
use Rattle.stages.proofs.Calling.{Called, as_constant, as_function, as_head, as_structure, Nameless, an_import, a_poison, never_read, kind_low, kind_named, kind_import, kind_poison, kind_unread}

-- DETERMINED

pub determines_not : {k : Script} {w : List ℕ} → length w < 16384 → DeterminesIn k w w
determines_not h = record { does = λ l. absurd (omega arith) }

pub determines_in : {k : Script} {w ys : List ℕ} → Determines k.containers (containers_in w) ys → DeterminesIn k w (put_mid 13312 1668 w ys)
determines_in {k} {w} {ys} d = record {
  does = λ long.
      let e : length ys ≡ 1668 = d.long ∙ length-take-le 1668 (drop 13312 w) (omega (arith, length-drop 13312 w)) in
      subst (λ (x : List ℕ). Determines k.containers (containers_in w) x) (sym (containers_here w ys long e)) d;
}

-- THE FIRST OF A KIND AND A NAME

-- the identifier of the first container that passes
unfoldable first_by : (Container Spot → Bool) → List (Container Spot) → Option (Ident Spot)
first_by t [] = none
first_by t (c ∷ cs) = elim (t c) [ true ↦ some c.identifier | false ↦ first_by t cs ]

first_yes : (t : Container Spot → Bool) (c : Container Spot) (cs : List (Container Spot)) → t c ≡ true → first_by t (c ∷ cs) ≡ some c.identifier
unfolding first_by
first_yes t c cs e = rw (e, first_by)

first_no : (t : Container Spot → Bool) (c : Container Spot) (cs : List (Container Spot)) → t c ≡ false → first_by t (c ∷ cs) ≡ first_by t cs
unfolding first_by
first_no t c cs e = rw (e, first_by)

-- of that kind and name
unfoldable of_that : (whole : Bool) (name : ℕ) → Container Spot → Bool
of_that true name c = c.is_structure && eqb c.identifier.name name
of_that false name c = not c.is_structure && eqb c.identifier.name name

first_of : (p : Container Spot → Bool) (name : ℕ) (cs : List (Container Spot)) → first_named name (map identifier_of (keep p cs)) ≡ first_by (λ c. p c && eqb c.identifier.name name) cs
unfolding first_named first keep identifier_of first_by
first_of p name [] = refl
first_of p name (c ∷ cs) = go (first_of p name cs) (p c) (eqb c.identifier.name name) refl refl
  where
    go : first_named name (map identifier_of (keep p cs)) ≡ first_by (λ c. p c && eqb c.identifier.name name) cs → (b d : Bool) → p c ≡ b → eqb c.identifier.name name ≡ d → first_named name (map identifier_of (keep p (c ∷ cs))) ≡ first_by (λ c. p c && eqb c.identifier.name name) (c ∷ cs)
    go q true true e f = rw (e, keep, f, first, first_by)
    go q true false e f = rw (e, keep, f, first, first_by) q
    go q false d e f = rw (e, keep, first_by) q

first_kind : (whole : Bool) (name : ℕ) (cs : List (Container Spot)) → first_named name (of_kind whole cs) ≡ first_by (of_that whole name) cs
unfolding of_kind of_that constants structures
first_kind true name cs = first_of (λ c. c.is_structure) name cs
first_kind false name cs = first_of (λ c. not c.is_structure) name cs

-- it is found before row r
record Before (t : Container Spot → Bool) (cs : List (Container Spot)) (r : ℕ) (j : Ident Spot) : Type 0 where
  is : first_by t cs ≡ some j
  row : ℕ
  low : row < r
  inside : row < length cs
  ident_is : (at cs row).identifier ≡ j

before : (t : Container Spot → Bool) (cs : List (Container Spot)) (r : ℕ) (j : Ident Spot) → first_by t (take r cs) ≡ some j → Before t cs r j
unfolding first_by at
before t [] zero j e = none_some _ e
before t [] (suc r) j e = none_some _ e
before t (c ∷ cs) zero j e = none_some _ e
before t (c ∷ cs) (suc r) j e = (elim (t c) as (λ b. t c ≡ b → Before t (c ∷ cs) (suc r) j) [
  | true ↦ λ z. let q : c.identifier ≡ j = some_same (sym (first_yes t c (take r cs) z) ∙ e) in record { is = first_yes t c cs z ∙ ap some q; row = 0; low = omega arith; inside = omega arith; ident_is = q }
  | false ↦ λ z. let o = before t cs r j (sym (first_no t c (take r cs) z) ∙ e) in record { is = first_no t c cs z ∙ o.is; row = suc o.row; low = omega (arith, o.low); inside = omega (arith, o.inside); ident_is = o.ident_is }
]) refl

-- it is row r's
at_row : (t : Container Spot → Bool) (cs : List (Container Spot)) (r : ℕ) → r < length cs → t (at cs r) ≡ true → first_by t (take r cs) ≡ none → first_by t cs ≡ some (at cs r).identifier
unfolding first_by at
at_row t [] r h e n = absurd (omega arith)
at_row t (c ∷ cs) zero h e n = first_yes t c cs e
at_row t (c ∷ cs) (suc r) h e n = (elim (t c) as (λ b. t c ≡ b → first_by t (c ∷ cs) ≡ some (at (c ∷ cs) (suc r)).identifier) [
  | true ↦ λ z. none_some _ (sym n ∙ first_yes t c (take r cs) z)
  | false ↦ λ z. first_no t c cs z ∙ at_row t cs r (omega arith) e (sym (first_no t c (take r cs) z) ∙ n)
]) refl

row_passes : (whole : Bool) (name : ℕ) (cs : List (Container Spot)) (r : ℕ) → RowOf cs whole name r → of_that whole name (at cs r) ≡ true
unfolding of_that
row_passes true name cs r o = rw (o.kind, eq-eqb _ _ o.name_is)
row_passes false name cs r o = rw (o.kind, eq-eqb _ _ o.name_is)

-- KEPT_DEPTH

module _ {k : Script} {kind name : ℕ} {w : List ℕ} where
  pub kept_short : {row : ℕ} → length w < 16384 → KeptDepth k kind name row w 0
  kept_short h = record { is = λ l. absurd (omega arith) }

  module _ {f : Rust.Option ℕ} (g : FindsIn k kind name w f) where
    -- what the search through all tells
    told : (long : 16384 ≤ length w) (s : Containment Spot) (h : Holds k.containers (containers_in w) s) (whole : Bool) → kind ≡ kind_of whole → found_in s.containers f ≡ first_by (of_that whole name) s.containers
    told long s h whole e = (g.finds long).finds s h whole e ∙ first_kind whole name s.containers

    pub kept_nowhere : {row : ℕ} → f ≡ None → KeptDepth k kind name row w 0
    unfolding found_in
    kept_nowhere {row} z = record {
      is = λ long s h whole e o.
          let cs = s.containers in
          let q : none ≡ first_by (of_that whole name) cs = ap (found_in cs) (sym z) ∙ told long s h whole e in
          go cs whole (first_by (of_that whole name) (take row cs)) refl q o;
    }
      where
        go : (cs : List (Container Spot)) (whole : Bool) (x : Option (Ident Spot)) → first_by (of_that whole name) (take row cs) ≡ x → none ≡ first_by (of_that whole name) cs → RowOf cs whole name row → 0 ≡ row_depth cs whole name row
        go cs whole none y q o = none_some _ (q ∙ at_row (of_that whole name) cs row o.low (row_passes whole name cs row o) y)
        go cs whole (some j) y q o = none_some _ (q ∙ (before (of_that whole name) cs row j y).is)

    module _ {i : ℕ} (z : f ≡ Some i) where
      found_row : (long : 16384 ≤ length w) (s : Containment Spot) (h : Holds k.containers (containers_in w) s) (whole : Bool) → kind ≡ kind_of whole → some (at s.containers i).identifier ≡ first_by (of_that whole name) s.containers
      unfolding found_in
      found_row long s h whole e = ap (found_in s.containers) (sym z) ∙ told long s h whole e

      -- two rows of one identifier are one
      same_row : (s : Containment Spot) → Holds k.containers (containers_in w) s → (r : ℕ) → r < k.containers → (at s.containers i).identifier ≡ (at s.containers r).identifier → i ≡ r
      unfolding id_at id_of
      same_row s h r l q = h.distinct i r (g.below i z) l (ap (λ (j : Ident Spot). j.id) q)

      pub kept_other : {row : ℕ} → (i ≡ row → ⊥) → KeptDepth k kind name row w 0
      unfolding row_depth unless_found
      kept_other {row} n = record { is = λ long s h whole e o. go long s h whole e o (first_by (of_that whole name) (take row s.containers)) refl }
        where
          go : (long : 16384 ≤ length w) (s : Containment Spot) (h : Holds k.containers (containers_in w) s) (whole : Bool) → kind ≡ kind_of whole → RowOf s.containers whole name row → (x : Option (Ident Spot)) → first_by (of_that whole name) (take row s.containers) ≡ x → 0 ≡ row_depth s.containers whole name row
          go long s h whole e o none y =
              let cs = s.containers in
              absurd (n (same_row s h row (omega (arith, o.low, h.counted)) (some_same (found_row long s h whole e ∙ at_row (of_that whole name) cs row o.low (row_passes whole name cs row o) y))))
          go long s h whole e o (some j) y = rw (first_kind whole name (take row s.containers) ∙ y)

      pub kept_here : {row r : ℕ} → i ≡ row → TellsDepth i (containers_in w) r → KeptDepth k kind name row w r
      unfolding row_depth unless_found id_at id_of
      kept_here {row} {r} n t = record { is = λ long s h whole e o. go long s h whole e o (first_by (of_that whole name) (take row s.containers)) refl }
        where
          go : (long : 16384 ≤ length w) (s : Containment Spot) (h : Holds k.containers (containers_in w) s) (whole : Bool) → kind ≡ kind_of whole → RowOf s.containers whole name row → (x : Option (Ident Spot)) → first_by (of_that whole name) (take row s.containers) ≡ x → r ≡ row_depth s.containers whole name row
          go long s h whole e o none y = t.tells s k.containers h (g.below i z) (at s.containers row).identifier (ap (λ (m : ℕ). (at s.containers m).identifier.id) (sym n)) ∙ rw (first_kind whole name (take row s.containers) ∙ y)
          go long s h whole e o (some j) y =
              let b = before (of_that whole name) s.containers row j y in
              let q = same_row s h b.row (omega (arith, b.inside, h.counted)) (some_same (found_row long s h whole e ∙ b.is) ∙ sym b.ident_is) in
              absurd (omega (arith, b.low))

-- NAMED_DEPTH

module _ {k : Script} {kind name row : ℕ} {w : List ℕ} where
  pub named_kept : {r : ℕ} → (kind ≡ 0) ⊎ (kind ≡ 3) → KeptDepth k kind name row w r → NamedDepth k kind name row w r
  named_kept e d = record { is = d.is; none_is = λ a b. absurd (apart a b e) }
    where
      apart : (kind ≡ 0 → ⊥) → (kind ≡ 3 → ⊥) → (kind ≡ 0) ⊎ (kind ≡ 3) → ⊥
      apart a b (inl e) = a e
      apart a b (inr e) = b e

  pub named_none : (kind ≡ 0 → ⊥) → (kind ≡ 3 → ⊥) → NamedDepth k kind name row w 0
  unfolding kind_of
  named_none a b = record { is = λ long s h whole z o. absurd (go whole z); none_is = λ _ _. refl }
    where
      go : (whole : Bool) → kind ≡ kind_of whole → ⊥
      go true e = b e
      go false e = a e

-- DEPTH_OF

called_depth : {k : Script} {kind row : ℕ} {w : List ℕ} {i : Ident Spot} {x : Decl Spot} {r : ℕ} → Called i kind x → NamedDepth k kind i.name row w r → 16384 ≤ length w → (s : Containment Spot) → Holds k.containers (containers_in w) s → Rowed s.containers row x → r ≡ depth_in s.containers row x
unfolding depth_in kind_of
called_depth as_constant d long s h (of_constant o) = d.is long s h false refl o
called_depth as_function d long s h of_function = d.none_is (λ z. absurd (omega arith)) (λ z. absurd (omega arith))
called_depth as_head d long s h of_head = d.none_is (λ z. absurd (omega arith)) (λ z. absurd (omega arith))
called_depth as_structure d long s h (of_structure o) = d.is long s h true refl o

nameless_depth : (cs : List (Container Spot)) (row : ℕ) {x : Decl Spot} → Nameless x → 0 ≡ depth_in cs row x
unfolding depth_in
nameless_depth cs row an_import = refl
nameless_depth cs row a_poison = refl

module _ {t : List ℕ} {k : Script} {n : C.Counts} {at : ℕ} {w : List ℕ} {r : Result (ℕ × ℕ) Refusal} (g : Gives (below 6) t at r) where
  pub depth_never : {d : ℕ} {x : Refusal} → r ≡ Err x → DepthOf t k n at w d
  depth_never e = record { is = λ long s h v o. never_read k.names (counts_of n) g e v }

  module _ {kind a : ℕ} (e : r ≡ Ok (kind, a)) where
    pub depth_unread : {r₀ : Result Head Refusal} {x : Refusal} {d : ℕ} → Heads t k.names a kind r₀ → r₀ ≡ Err x → DepthOf t k n at w d
    depth_unread o q = record { is = λ long s h v u. kind_unread k.names (counts_of n) g e (told_unread o q (kind_low k.names (counts_of n) g e)) v }

    module _ {h₀ : Head} (o : Heads t k.names a kind (Ok h₀)) where
      pub depth_named : {h : Start} {d : ℕ} → h₀ ≡ H.Named h → NamedDepth k kind h.identifier.name n.containers w d → DepthOf t k n at w d
      depth_named q z = record { is = λ long s h v u. called_depth (kind_named k.names (counts_of n) g e (told_named o q) v) z long s h u }

      depth_import : h₀ ≡ H.Import → DepthOf t k n at w 0
      depth_import q = record { is = λ long s h v u. nameless_depth s.containers n.containers (kind_import k.names (counts_of n) g e (told_import o q) v) }

      depth_poison : h₀ ≡ H.Poison → DepthOf t k n at w 0
      depth_poison q = record { is = λ long s h v u. nameless_depth s.containers n.containers (kind_poison k.names (counts_of n) g e (told_poison o q) v) }

      pub depth_not : (h₀ ≡ H.Import) ⊎ (h₀ ≡ H.Poison) → DepthOf t k n at w 0
      depth_not (inl q) = depth_import q
      depth_not (inr q) = depth_poison q
