-- A constant or structure is used: in a constant's value the use is an edge.
use mathlib.Core.Path.{◌≡◌, refl, sym, ap, subst, ◌∙◌}
use mathlib.Core.List.{List}
use mathlib.Core.Option.{Option, none, some}
use Prim.Native.Nat.{ℕ, ◌<◌}
use native.Mathlib.Omega.{arith}
use Rattle.std.specs.Prelude as Rust
use Rattle.std.specs.Prelude.{Ok, Err, Some, None}
use Rattle.penne.specs.Tree.{Spot, Ident, Poison, Maybe, ok, err}
use Rattle.penne.specs.Find.{resolved}
use Rattle.penne.specs.Write.{poison_b}
use Rattle.penne.specs.State.{ret}
use Rattle.penne.specs.Containers.{Container, id_of, found_container_1}
use Rattle.penne.specs.Scopes.{Analyzer, on_containment, with_containment, use_containee, use_as}
use Rattle.fields.specs.declared.field.Identifier.{Identifier}
use Rattle.fields.specs.Answers.{ident_of}
use Rattle.containers.specs.declared.containers.Declared.{Declared}
use Rattle.containers.specs.Table.{at, id_at}
use Rattle.walk.specs.declared.state.Walk.{Walk}
use Rattle.walk.specs.declared.fault.Fault.{Fault}
use Rattle.walk.specs.Walking.{Lower, Whose, nobody, somebody, Tables, Good, Stands, silently, fault_b, Made, made_as, made_not, Used}
use Rattle.walk.specs.Calls.{ContainerAt, use_row, UsesRow, no_member, Edged, fine, bad, EdgeTo, Edge}
use Rattle.walk.proofs.Tables.{marks_kept}
use Rattle.walk.proofs.Using.{Keeps, as_ids, uses_ret}

-- whose value it is
pub whose_none : {cs : List (Container Spot)} {count : ℕ} {constant : Rust.Option ℕ} {o : Option (Ident Spot)} → Whose cs count constant o → constant ≡ None → o ≡ none
whose_none (nobody e) h = refl
whose_none (somebody r e l q) h = absurd (let y = sym h ∙ e in let z : ◌≡◌ {A = ℕ} 0 1 = cc in omega arith)

whose_some : {cs : List (Container Spot)} {count n : ℕ} {constant : Rust.Option ℕ} {o : Option (Ident Spot)} → Whose cs count constant o → constant ≡ Some n → (c : Ident Spot) × (o ≡ some c) × (n < count) × ((at cs n).identifier ≡ c)
whose_some (nobody e) h = absurd (let y = sym e ∙ h in let z : ◌≡◌ {A = ℕ} 0 1 = cc in omega arith)
whose_some {cs} {n = n} (somebody {i = i} r e l q) h = let y = sym h ∙ e in let z : n ≡ r = cc in (i, refl, omega arith, ap (λ (n : ℕ). (at cs n).identifier) z ∙ q)

-- the edge by what the code says of it
pub edge_fine : {A : Type 0} {x : A} {r : Edge} {y : Maybe Spot A} → Edged x r y → r ≡ Ok tt → y ≡ ok x
edge_fine fine e = refl
edge_fine (bad q) e = absurd (let z : ◌≡◌ {A = ℕ} 0 1 = cc in omega arith)

pub edge_bad : {A : Type 0} {x : A} {r : Edge} {y : Maybe Spot A} {f : Fault} → Edged x r y → r ≡ Err f → (z : Poison Spot) × (y ≡ err z) × (fault_b f ≡ poison_b z)
edge_bad fine e = absurd (let z : ◌≡◌ {A = ℕ} 0 1 = cc in omega arith)
edge_bad {f = f} (bad {f = g} {z = z} q) e = let d : g ≡ f = cc in (z, refl, ap fault_b (sym d) ∙ q)

pub row_keeps : (row : ℕ) → Keeps (use_row row)
unfolding use_row
row_keeps row = record { ids = λ x a. as_ids x _ a }

-- the identifier made anew
abbrev made : Identifier → ℕ → Identifier
made i n = record { name = i.name; place = i.place; id = n; authority = 0 }

module _ (s : Walk) (i : Identifier) {row : ℕ} {w : List ℕ} {d : Declared} (g : ContainerAt row w d) where
  its_id : (a : Analyzer Spot) → Tables s.tables s.script s.counts w a → row < s.script.containers → d.id ≡ (at a.containment.containers row).identifier.id
  its_id a t low = ((g.tells t.long).tells a.containment s.script.containers t.containers low).id

  row_by : (x : Ident Spot) (a : Analyzer Spot) → Tables s.tables s.script s.counts w a → row < s.script.containers → {o : Option (Ident Spot)} → a.containment.in_constexpr_of_constant ≡ o → use_row row x a ≡ use_containee (resolved x d.id 0) o a
  unfolding use_row use_as
  row_by x a t low {o} e = ap (λ (q : Option (Ident Spot)). use_containee (resolved x (at a.containment.containers row).identifier.id 0) q a) e ∙ ap (λ (n : ℕ). use_containee (resolved x n 0) o a) (sym (its_id a t low))

  -- not in a constant's value
  pub use_row_lem : s.tables.constant ≡ None → UsesRow s i row w (Ok (made i d.id)) w
  unfolding use_containee ret resolved
  use_row_lem h = record {
    does = λ low. uses_ret (use_row row) (row_keeps row) λ from a t. (ok (resolved (ident_of from i) d.id 0), row_by (ident_of from i) a t low (whose_none t.whose h), made_as);
  }

  -- in a constant's value
  module _ {n : ℕ} {e : Edge} {w' : List ℕ} (h : s.tables.constant ≡ Some n) (k : EdgeTo s.script (record { row = n; member = None }) row w e w') where
    edge_row : {u : Used} → ((from : ℕ) (y : Maybe Spot (Ident Spot)) → Edged (resolved (ident_of from i) d.id 0) e y → Made from u y) → UsesRow s i row w u w'
    unfolding use_containee on_containment id_at id_of resolved with_containment
    edge_row {u} say = record {
      does = λ low. record {
        does = λ from o l a j.
            let x = ident_of from i in
            let x' = resolved x d.id 0 in
            let back : Good (silently (use_row row) x a) → Stands s o l w a = λ z. let q = (row_keeps row).ids x a.st in j.when (record { few = omega (arith, z.few); fit = z.fit }) in
            let all : (v : Stands s o l w a) → (c : Ident Spot) × (use_row row x a.st ≡ ((found_container_1 c none x' a.st.containment).0, with_containment a.st (found_container_1 c none x' a.st.containment).1))
            × Tables s.tables s.script s.counts w' (with_containment a.st (found_container_1 c none x' a.st.containment).1) × Lower w w' × Edged x' e (found_container_1 c none x' a.st.containment).0 = λ v.
            let c = whose_some v.tables.whose h in
            let b = k.does v.tables c.2 low (no_member refl) c.0 x' c.3 (its_id a.st v.tables low) in
            (c.0, row_by x a.st v.tables low c.1, b.0, b.1, b.2) in
            record {
              is = record {
                when = λ z.
                    let v = back z in
                    let b = all v in
                    subst (λ (y : Maybe Spot (Ident Spot) × Analyzer Spot). Stands s o l w' (record { out = a.out; st = y.1; rest = a.rest })) (sym b.1)
                    (record { script = v.script; put = v.put; skip = v.skip; tables = b.2; marks = marks_kept b.3 v.marks });
              };
              made = λ z. let b = all (back z) in subst (λ (y : Maybe Spot (Ident Spot) × Analyzer Spot). Made from u y.0) (sym b.1) (say from _ b.4);
            };
      };
    }

    pub use_row_fine : e ≡ Ok tt → UsesRow s i row w (Ok (made i d.id)) w'
    unfolding resolved
    use_row_fine q = edge_row λ from y v. subst (λ (z : Maybe Spot (Ident Spot)). Made from (Ok (made i d.id)) z) (sym (edge_fine v q)) made_as

    pub use_row_bad : {f : Fault} → e ≡ Err f → UsesRow s i row w (Err f) w'
    use_row_bad {f} q = edge_row λ from y v. let b = edge_bad v q in subst (λ (z : Maybe Spot (Ident Spot)). Made from (Err f) z) (sym b.1) (made_not b.2)
