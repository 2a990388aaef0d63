-- The names and the depths that are written.
use Prim.Native.Nat.{ℕ, suc, ◌+◌, ◌-◌, ◌≤◌}
use mathlib.Core.Path.{◌≡◌, refl, sym, ap, subst, ◌∙◌}
use mathlib.Core.List.{List, [], ◌∷◌, ◌++◌, append_assoc, append-nil, flat_map}
use native.Mathlib.Omega.{arith}
use lib.ListN.{length}
use Rattle.std.specs.Prelude.{Result, Ok, Err}
use Rattle.fields.specs.declared.refusal.Refusal.{Refusal}
use Rattle.penne.specs.Reader.{Cur, got, many, ret, nothing}
use Rattle.penne.specs.Tree.{Spot, Decl}
use Rattle.penne.specs.Read.{read_decl}
use Rattle.penne.specs.Write.{num_b}
use Rattle.penne.specs.Containers.{Container, Containment}
use Rattle.fields.specs.declared.counts.Counts as C
use Rattle.tree.specs.declared.script.Layout.{Layout}
use Rattle.fields.specs.Answers.{cursor, counts_of, passed_of, Passes}
use Rattle.tree.specs.Script.{LaidOut}
use Rattle.fields.proofs.Back.{many_case}
use Rattle.answer.specs.declared.wrote.Wrote.{Wrote}
use Rattle.answer.specs.Out.{Put, Within}
use Rattle.answer.proofs.Chain.{◌▸◌, put_none}
use Rattle.containers.specs.Table.{Holds}
use Rattle.label_references.specs.Pass.{uncounted}
use Rattle.walk.specs.declared.state.Script.{Script}
use Rattle.walk.specs.Walking.{containers_in}
use Rattle.walk.proofs.Leading.{same_value}
use Rattle.stages.specs.Heads.{rows_of}
use Rattle.stages.specs.Stages.{depth_in, Rowed, DepthOf, depths_in, AllRowed, all_more, SaysDepths}
use Rattle.stages.proofs.Sizing.{passing}
use Rattle.stages.proofs.Predeclaring.{passed_to, passed_not}

-- the depths of xs are still to be written; all of them are ys
pub record Left (t : List ℕ) (script : Script) (names rest at : ℕ) (k : C.Counts) (cs : List (Container Spot)) (v : Wrote) (o₀ : List ℕ) (w : Wrote) (o : List ℕ) (d : Cur) (ys : List ℕ) : Type 0 where
  pub xs : List (Decl Spot)
  pub read : many read_decl rest t (cursor at names (counts_of k)) ≡ got xs d
  pub rowed : AllRowed cs k.containers xs
  pub done : List ℕ
  pub put : Put v done o₀ w o
  pub all_is : done ++ flat_map num_b (depths_in cs k.containers xs) ≡ ys

-- the loop: whatever was to be written from the beginning is still to be written from here
pub record Saying (t work : List ℕ) (script : Script) (names rest₀ at₀ : ℕ) (k₀ : C.Counts) (v : Wrote) (o₀ : List ℕ) (rest at : ℕ) (k : C.Counts) (w : Wrote) (o : List ℕ) : Type 0 where
  pub long : length o ≡ length o₀
  pub on : script.names ≡ names → 16384 ≤ length work → (s : Containment Spot) → Holds script.containers (containers_in work) s → {d : Cur} {ys : List ℕ} → Left t script names rest₀ at₀ k₀ s.containers v o₀ v o₀ d ys → Left t script names rest at k s.containers v o₀ w o d ys

pub saying_start : {t work : List ℕ} {script : Script} {names rest₀ rest at : ℕ} {k : C.Counts} {v : Wrote} {o : List ℕ} → rest₀ ≡ rest → Saying t work script names rest₀ at k v o rest at k v o
saying_start {t} {work} {script} {names} {rest₀} {at = at} {k} {v} {o} e = subst (λ (rest : ℕ). Saying t work script names rest₀ at k v o rest at k v o) e (record { long = refl; on = λ e long s h l. l })

more_rowed : {cs : List (Container Spot)} {r : ℕ} {x : Decl Spot} {xs : List (Decl Spot)} → AllRowed cs r (x ∷ xs) → Rowed cs r x × AllRowed cs (r + (rows_of x).0) xs
more_rowed (all_more p q) = (p, q)

module _ {t work : List ℕ} {script : Script} {names rest₀ at₀ : ℕ} {k₀ : C.Counts} {v : Wrote} {o₀ : List ℕ} {rest at : ℕ} {k : C.Counts} {w : Wrote} {o : List ℕ} (c : Saying t work script names rest₀ at₀ k₀ v o₀ rest at k w o) where
  one_said : {r : Result (ℕ × C.Counts) Refusal} {n depth : ℕ} {k' : C.Counts} {w' : Wrote} {o' : List ℕ} (m : ℕ) → rest ≡ suc m → Passes read_decl t names k at r → r ≡ Ok (n, k') → DepthOf t script k at work depth → Put w (num_b depth) o w' o'
      → script.names ≡ names → 16384 ≤ length work → (s : Containment Spot) → Holds script.containers (containers_in work) s → {d : Cur} {ys : List ℕ} → Left t script names rest at k s.containers v o₀ w o d ys → Left t script names m n k' s.containers v o₀ w' o' d ys
  unfolding depths_in flat_map
  one_said {r} {n} {depth} {k'} m z p e q put f long s h {d} {ys} l =
      many_case read_decl m t (cursor at names (counts_of k)) (subst (λ (i : ℕ). many read_decl i t (cursor at names (counts_of k)) ≡ got l.xs d) z l.read) λ x b rs g u y.
      let cs = s.containers in
      let here : b ≡ cursor n names (counts_of k') = passed_to (read_decl t (cursor at names (counts_of k))) (p.is ∙ ap (passed_of names) e) g in
      let rows = more_rowed (subst (λ (i : List (Decl Spot)). AllRowed cs k.containers i) y l.rowed) in
      let count : k'.containers ≡ k.containers + (rows_of x).0 = ap (λ (i : Cur). i.counts.containers) (sym here) ∙ (passing t (cursor at names (counts_of k)) g).containers in
      let g₁ : read_decl t (cursor at script.names (counts_of k)) ≡ got x b = subst (λ (i : ℕ). read_decl t (cursor at i (counts_of k)) ≡ got x b) (sym f) g in
      let is : depth ≡ depth_in cs k.containers x = q.is long s h g₁ rows.0 in
      record {
        xs = rs;
        read = subst (λ (i : Cur). many read_decl m t i ≡ got rs d) here u;
        rowed = subst (λ (i : ℕ). AllRowed cs i rs) (sym count) rows.1;
        done = l.done ++ num_b depth;
        put = l.put ▸ put;
        all_is = append_assoc l.done (num_b depth) _
            ∙ ap (λ (i : List ℕ). l.done ++ i) (ap (λ (i : ℕ). num_b i ++ flat_map num_b (depths_in cs k'.containers rs)) is ∙ ap (λ (i : ℕ). num_b (depth_in cs k.containers x) ++ flat_map num_b (depths_in cs i rs)) count ∙ ap (λ (i : List (Decl Spot)). flat_map num_b (depths_in cs k.containers i)) (sym y))
            ∙ l.all_is;
      }

  pub saying_more : {m : ℕ} {r : Result (ℕ × C.Counts) Refusal} {n depth : ℕ} {k' : C.Counts} {w' : Wrote} {o' : List ℕ} → rest ≡ suc m → Passes read_decl t names k at r → r ≡ Ok (n, k') → DepthOf t script k at work depth → Put w (num_b depth) o w' o' → length o' ≡ length o → Saying t work script names rest₀ at₀ k₀ v o₀ m n k' w' o'
  saying_more {m} z p e q put l = record { long = l ∙ c.long; on = λ f long s h a. one_said m z p e q put f long s h (c.on f long s h a) }

  left_halt : {r : Result (ℕ × C.Counts) Refusal} {x : Refusal} {cs : List (Container Spot)} {d : Cur} {ys : List ℕ} {X : Type 0} → (rest ≡ 0 → ⊥) → Passes read_decl t names k at r → r ≡ Err x → Left t script names rest at k cs v o₀ w o d ys → X
  left_halt {x = f} {d = d} z q e l =
      let m : rest ≡ suc (rest - 1) = omega arith in
      many_case read_decl (rest - 1) t (cursor at names (counts_of k)) (subst (λ (i : ℕ). many read_decl i t (cursor at names (counts_of k)) ≡ got l.xs d) m l.read) λ x b rs g u y. passed_not (read_decl t (cursor at names (counts_of k))) names f (q.is ∙ ap (passed_of names) e) g

  left_done : {cs : List (Container Spot)} {d : Cur} {ys : List ℕ} → rest ≡ 0 → Left t script names rest at k cs v o₀ w o d ys → Put v ys o₀ w o
  unfolding many ret depths_in flat_map
  left_done {cs} {d} {ys} z l =
      let r : got [] (cursor at names (counts_of k)) ≡ got l.xs d = subst (λ (i : ℕ). many read_decl i t (cursor at names (counts_of k)) ≡ got l.xs d) z l.read in
      let e : l.done ≡ ys = sym (append-nil l.done) ∙ ap (λ (i : List (Decl Spot)). l.done ++ flat_map num_b (depths_in cs k.containers i)) (same_value r) ∙ l.all_is in
      subst (λ (i : List ℕ). Put v i o₀ w o) e l.put

left_first : {t : List ℕ} {script : Script} {l : Layout} (p : LaidOut t l) {cs : List (Container Spot)} {v : Wrote} {o : List ℕ} → AllRowed cs 0 p.decls → Within v o → Left t script l.names l.count l.first uncounted cs v o v o (cursor l.depths l.names p.counts) (flat_map num_b (depths_in cs 0 p.decls))
unfolding nothing
left_first p rows z = record { xs = p.decls; read = p.read; rowed = rows; done = []; put = put_none z; all_is = refl }

module _ {t work : List ℕ} {script : Script} {l : Layout} {v : Wrote} {o₀ : List ℕ} {rest at : ℕ} {k : C.Counts} {w : Wrote} {o : List ℕ} (c : Saying t work script l.names l.count l.first uncounted v o₀ rest at k w o) where
  pub said_halt : {r : Result (ℕ × C.Counts) Refusal} {x : Refusal} {w' : Wrote} {o' : List ℕ} → (rest ≡ 0 → ⊥) → Passes read_decl t l.names k at r → r ≡ Err x → SaysDepths t script l v work o₀ w' o'
  said_halt z q e = record { does = λ p f long s h rows within. left_halt c z q e (c.on f long s h (left_first p rows within)) }

  pub said_done : rest ≡ 0 → SaysDepths t script l v work o₀ w o
  said_done z = record { does = λ p f long s h rows within. left_done c z (c.on f long s h (left_first p rows within)) }
