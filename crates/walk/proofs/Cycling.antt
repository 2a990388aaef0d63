-- The error of a container that now contains itself.
use mathlib.Core.Path.{◌≡◌, refl, sym, ap, subst, ◌∙◌}
use mathlib.Core.List.{List, [], ◌∷◌}
use mathlib.Core.Option.{Option, none, some}
use Prim.Native.Nat.{ℕ, ◌<◌}
use native.Mathlib.Omega.{arith}
use Rattle.std.specs.Prelude.{Some, None}
use Rattle.std.specs.Prelude as Rust
use Rattle.penne.specs.Tree.{Spot, Ident, poison}
use Rattle.penne.specs.Read.{poison_fields}
use Rattle.penne.specs.Write.{poison_b}
use Rattle.penne.specs.Containers.{contained_ids_of, constant_in_cycle, cyclical_structure, cyclical, id_of}
use Rattle.penne.specs.Scopes.{Analyzer}
use Rattle.fields.specs.declared.counts.Counts as K
use Rattle.fields.specs.Answers.{poison_names, poison_places}
use Rattle.answer.proofs.Fields.{poison_bytes}
use Rattle.containers.specs.declared.containers.Declared.{Declared}
use Rattle.containers.specs.Table.{at, id_at}
use Rattle.containers.specs.Calls.{Says, found_in}
use Rattle.walk.specs.declared.state.Script.{Script}
use Rattle.walk.specs.declared.state.Tables as W
use Rattle.walk.specs.declared.edges.Holder.{Holder}
use Rattle.walk.specs.declared.fault.Fault.TheVariants as F
use Rattle.walk.specs.Walking.{Tables, fault_b}
use Rattle.walk.specs.Calls.{ContainerAt, ConstantIn, Member, no_member, the_member, Cyclical}

-- BYTES

constant_bytes : (c : Ident Spot) → fault_b (F.CyclicalConstant c.name c.place.number) ≡ poison_b (poison 14 (c.name ∷ []) (c.place ∷ []))
unfolding poison_names poison_places poison_fields
constant_bytes c = poison_bytes 14 (c.name ∷ []) (c.place ∷ []) (0 ∷ []) (0 ∷ 0 ∷ 0 ∷ []) refl refl

structure_bytes : (c m : Ident Spot) → fault_b (F.CyclicalStructure c.name c.place.number m.place.number) ≡ poison_b (poison 15 (c.name ∷ []) (c.place ∷ m.place ∷ []))
unfolding poison_names poison_places poison_fields
structure_bytes c m = poison_bytes 15 (c.name ∷ []) (c.place ∷ m.place ∷ []) (0 ∷ []) (0 ∷ 0 ∷ []) refl refl

both_bytes : (c m k : Ident Spot) → fault_b (F.CyclicalStructureWithConstant c.name k.name c.place.number m.place.number k.place.number)
    ≡ poison_b (poison 16 (c.name ∷ k.name ∷ []) (c.place ∷ m.place ∷ k.place ∷ []))
unfolding poison_names poison_places poison_fields
both_bytes c m k = poison_bytes 16 (c.name ∷ k.name ∷ []) (c.place ∷ m.place ∷ k.place ∷ []) [] (0 ∷ []) refl refl

-- whose member it is
member_none : {h : Holder} {m : Option (Ident Spot)} → Member h m → h.member ≡ None → m ≡ none
member_none (no_member e) q = refl
member_none (the_member e) q = absurd (let z = sym e ∙ q in let u : ◌≡◌ {A = ℕ} 0 1 = cc in omega arith)

member_some : {h : Holder} {o : Option (Ident Spot)} {n : ℕ} → Member h o → h.member ≡ Some n → (m : Ident Spot) × (o ≡ some m) × (n ≡ m.place.number)
member_some (no_member e) q = absurd (let z = sym e ∙ q in let u : ◌≡◌ {A = ℕ} 0 1 = cc in omega arith)
member_some {n = n} (the_member {m = m} e) q = let z = sym q ∙ e in let u : n ≡ m.place.number = cc in (m, refl, u)

module _ {k : Script} (h : Holder) {w : List ℕ} {d : Declared} (g : ContainerAt h.row w d) where
  says : {t : W.Tables} {e : K.Counts} {a : Analyzer Spot} → Tables t k e w a → h.row < k.containers → (c : Ident Spot) → (at a.containment.containers h.row).identifier ≡ c → Says d c
  says {a = a} b low c q = subst (λ (x : Ident Spot). Says d x) q ((g.tells b.long).tells a.containment k.containers b.containers low)

  -- CyclicalConstant (14)
  pub cyclical_constant : h.member ≡ None → Cyclical k h w (F.CyclicalConstant d.name d.place)
  unfolding cyclical
  cyclical_constant z = record {
    tells = λ {t} {e} {a} b low {m} mem c q.
        let s = says b low c q in
        (λ i. fault_b (F.CyclicalConstant (s.name i) (s.place i))) ∙ constant_bytes c ∙ ap (λ (o : Option (Ident Spot)). poison_b (cyclical c o a.containment.containers)) (sym (member_none mem z));
  }

  module _ {place : ℕ} (z : h.member ≡ Some place) {r : Rust.Option ℕ} (f : ConstantIn k h.row w r) where
    in_cycle : {t : W.Tables} {e : K.Counts} {a : Analyzer Spot} → Tables t k e w a → h.row < k.containers → (c : Ident Spot) → (at a.containment.containers h.row).identifier ≡ c
        → found_in a.containment.containers r ≡ constant_in_cycle (contained_ids_of c.id a.containment.containers) a.containment.containers
    unfolding id_at id_of
    in_cycle {a = a} b low c q = (f.finds b.long).finds a.containment b.containers low c (sym (ap (λ (i : Ident Spot). i.id) q))

    -- CyclicalStructure (15)
    pub cyclical_structure_lem : r ≡ None → Cyclical k h w (F.CyclicalStructure d.name d.place place)
    unfolding cyclical cyclical_structure found_in
    cyclical_structure_lem v = record {
      tells = λ {t} {e} {a} b low {m = o} mem c q.
          let s = says b low c q in
          let (m, om, p) = member_some mem z in
          (λ i. fault_b (F.CyclicalStructure (s.name i) (s.place i) (p i))) ∙ structure_bytes c m
          ∙ ap (λ (x : Option (Ident Spot)). poison_b (cyclical_structure c m x)) (ap (found_in a.containment.containers) (sym v) ∙ in_cycle b low c q) ∙ ap (λ (x : Option (Ident Spot)). poison_b (cyclical c x a.containment.containers)) (sym om);
    }

    -- CyclicalStructureWithConstant (16)
    pub cyclical_both : {n : ℕ} {j : Declared} → r ≡ Some n → ContainerAt n w j → Cyclical k h w (F.CyclicalStructureWithConstant d.name j.name d.place place j.place)
    unfolding cyclical cyclical_structure found_in
    cyclical_both {n} {j} v g₂ = record {
      tells = λ {t} {e} {a} b low {m = o} mem c q.
          let s = says b low c q in
          let i₂ = (at a.containment.containers n).identifier in
          let s₂ : Says j i₂ = (g₂.tells b.long).tells a.containment k.containers b.containers ((f.finds b.long).below n v) in
          let (m, om, p) = member_some mem z in
          (λ i. fault_b (F.CyclicalStructureWithConstant (s.name i) (s₂.name i) (s.place i) (p i) (s₂.place i))) ∙ both_bytes c m i₂
          ∙ ap (λ (x : Option (Ident Spot)). poison_b (cyclical_structure c m x)) (ap (found_in a.containment.containers) (sym v) ∙ in_cycle b low c q) ∙ ap (λ (x : Option (Ident Spot)). poison_b (cyclical c x a.containment.containers)) (sym om);
    }
