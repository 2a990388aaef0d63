-- The type of a constant or member, with found_container over it.
use mathlib.Core.Path.{◌≡◌, refl, sym, ap, subst, ◌∙◌}
use mathlib.Core.List.{List, ◌++◌, append_assoc}
use mathlib.Core.Option.{Option, none, some}
use Prim.Native.Nat.{ℕ, ◌<◌}
use native.Mathlib.Omega.{arith}
use Rattle.fields.specs.declared.refusal.Refusal.{Refusal}
use Rattle.std.specs.Prelude.{Result, Ok, Err}
use Rattle.penne.specs.Reader.{got, Reader, below}
use Rattle.penne.specs.Tree.{Spot, Ident, Maybe, ok, err, Ty}
use Rattle.penne.specs.Read.{maybe, read_poison}
use Rattle.penne.specs.Write.{num_b, ty_b, maybe_b}
use Rattle.penne.specs.State as S
use Rattle.penne.specs.Scopes.{Analyzer, on_containment, with_containment}
use Rattle.penne.specs.Variables.{analyze_type, analyze_maybe_type, found_maybe}
use Rattle.fields.specs.Answers.{cursor, counts_of, Gives}
use Rattle.answer.specs.declared.wrote.Wrote.{Wrote}
use Rattle.answer.specs.Out.{Put}
use Rattle.containers.specs.Table.{at}
use Rattle.walk.specs.declared.state.Script.{Script}
use Rattle.walk.specs.declared.state.Walk.{Walk}
use Rattle.walk.specs.declared.fault.Fault.{Fault}
use Rattle.walk.specs.declared.edges.Holder.{Holder}
use Rattle.walk.specs.Walking.{moved_to, with_wrote, here, Lower, Tables, Ground, Good, Stands, Is, onward, silently, say, say_poison, Walks, fault_b, ok_b, Answers, Tries}
use Rattle.walk.specs.Walking as W
use Rattle.walk.specs.Calls.{Member, FoundIn, Edged, fine, bad}
use Rattle.walk.proofs.Leading.{leads_call, leads_tried, leads_end, told_fine, told_bad}
use Rattle.walk.proofs.Writing.{moved_on, wrote_on, out_is, instead}
use Rattle.walk.proofs.Choosing.{leads_unmaybe, leads_ok, leads_err}
use Rattle.walk.proofs.Containing.{tables_changed}
use Rattle.types.specs.Typing.{analyze_contained, Contains}
use Rattle.types.proofs.Arms.{type_ids}
use Rattle.types.proofs.Rows.{rows_type}
use Rattle.types.proofs.Maybes.{fine_bytes, bad_bytes}

-- THE PASS

found_ids : (c : Ident Spot) (i : Option (Ident Spot)) (y : Maybe Spot (Ty Spot)) (u : Analyzer Spot) → (found_maybe c i y u).1.resolution_id ≡ u.resolution_id
unfolding found_maybe on_containment with_containment S.ret
found_ids c i (ok x) u = refl
found_ids c i (err z) u = refl

module _ (c : Ident Spot) (i : Option (Ident Spot)) (x : Ty Spot) (s : Analyzer Spot) where
  contained_by : {y : Maybe Spot (Ty Spot)} → (analyze_type x s).0 ≡ y → analyze_contained c i (ok x) s ≡ found_maybe c i y (analyze_type x s).1
  unfolding analyze_contained analyze_maybe_type S.◌>>=◌
  contained_by e = ap (λ (v : Maybe Spot (Ty Spot)). found_maybe c i v (analyze_type x s).1) e

  contained_ids : (analyze_contained c i (ok x) s).1.resolution_id ≡ s.resolution_id
  contained_ids = ap (λ (v : Maybe Spot (Ty Spot) × Analyzer Spot). v.1.resolution_id) (contained_by refl) ∙ found_ids c i _ _ ∙ type_ids x s

-- its edges by what the code says of them
edge_fine : {x : Ty Spot} {r : Result (Unit {0}) Fault} {y : Maybe Spot (Ty Spot)} → Edged x r y → r ≡ Ok tt → y ≡ ok x
edge_fine fine e = refl
edge_fine (bad q) e = absurd (let z : ◌≡◌ {A = ℕ} 0 1 = cc in omega arith)

edge_bad : {x : Ty Spot} {r : Result (Unit {0}) Fault} {y : Maybe Spot (Ty Spot)} {f : Fault} → Edged x r y → r ≡ Err f → Answers (some f) y
edge_bad fine e = absurd (let z : ◌≡◌ {A = ℕ} 0 1 = cc in omega arith)
edge_bad {f = f} (bad {f = g} q) e = let d : g ≡ f = cc in W.bad (ap fault_b (sym d) ∙ q)

-- THE WALK

module _ (m : Reader (Ty Spot)) {t : List ℕ} {h : Holder} {s : Walk} {o l w : List ℕ} {q : Result (ℕ × ℕ) Refusal} (g : Gives (below 2) t s.at q) where
  pub contained_unread : {x : Refusal} {r : Walk} {o' l' w' : List ℕ} → q ≡ Err x → Contains t (maybe m) h s o l w r o' l' w'
  contained_unread e = record { does = λ j c i k a low row is. leads_unmaybe g m e }

  module _ {v n : ℕ} (e : q ≡ Ok (v, n)) where
    pub contained_poison : {r : Walk} {o' l' w' : List ℕ} → (v ≡ 0 → ⊥) → Walks t read_poison (say_poison 1) (moved_to s n) o l w r o' l' w' → Contains t (maybe m) h s o l w r o' l' w'
    unfolding analyze_contained analyze_maybe_type found_maybe maybe_b S.◌>>=◌ S.ret
    contained_poison z k = record { does = λ j c i _ a low row is. leads_err g m e z (leads_call _ k j (moved_on is) λ x _ i₁. leads_end (err x) refl i₁ λ _. refl) }

    module _ (z : v ≡ 0) {b : Wrote} {o₁ : List ℕ} {r : Walk} {o₂ l₂ w₂ : List ℕ} (put : Put s.wrote (num_b 0) o b o₁) where
      -- the type is refused: no edge
      pub contained_bad : {f : Fault} {c : Wrote} {o₃ : List ℕ} → Tries t m analyze_type ty_b (moved_to (with_wrote s b) n) o₁ l w r (some f) o₂ l₂ w₂ → Put s.wrote (num_b 1 ++ fault_b f) o₂ c o₃ → Contains t (maybe m) h s o l w (with_wrote r c) o₃ l₂ w₂
      unfolding found_maybe maybe_b S.ret
      contained_bad k err_put = record {
        does = λ j c i _ a low row is. leads_ok g m e z (leads_tried _ k j (wrote_on is put) λ x _ i₁ told.
            leads_end (ok x) refl (instead is (num_b 0 ++ ok_b ty_b (analyze_type x a.st).0) (omega (arith, type_ids x a.st)) (out_is i₁ (append_assoc a.out (num_b 0) _)) err_put)
            λ y.
            let ids = contained_ids c i x a.st in
            let same = type_ids x a.st in
            let u = told_bad (told (record { few = omega (arith, y.few, ids, same); fit = y.fit })) refl in
            ap (λ (xs : List ℕ). record { out = a.out ++ (num_b 1 ++ xs); st = (analyze_type x a.st).1; rest = a.rest }) u.2 ∙
            ap (λ (d : Maybe Spot (Ty Spot) × Analyzer Spot). record { out = a.out ++ maybe_b ty_b d.0; st = d.1; rest = a.rest }) (sym (contained_by c i x a.st u.1)));
      }

      -- the type is fine: found_container
      module _ (k : Tries t m analyze_type ty_b (moved_to (with_wrote s b) n) o₁ l w r none o₂ l₂ w₂) {edge : Result (Unit {0}) Fault} {w₃ : List ℕ} (found : FoundIn t m r.script h n w₂ edge w₃) where
        -- what is known of it
        held : (c : Ident Spot) (i : Option (Ident Spot)) → Member h i → (a : Ground) → Stands s o l w a → h.row < s.script.containers → (at a.st.containment.containers h.row).identifier ≡ c → (x : Ty Spot) → m t (cursor n s.script.names (counts_of s.counts)) ≡ got x (here r)
            → (y : Ty Spot) → (analyze_type x a.st).0 ≡ ok y → {xs : List ℕ} → Stands r o₂ l₂ w₂ (record { out = xs; st = (analyze_type x a.st).1; rest = a.rest })
            → ((analyze_contained c i (ok x) a.st).1.prunings ≡ (analyze_type x a.st).1.prunings) × Tables r.tables r.script r.counts w₃ (analyze_contained c i (ok x) a.st).1 × Lower w₂ w₃ × Edged y edge (analyze_contained c i (ok x) a.st).0
        unfolding found_maybe on_containment with_containment
        held c i member a st low row x read y fine' after =
            let script : s.script ≡ r.script = st.script ∙ sym after.script in
            let count = st.tables.containers.counted in
            let kept = (rows_type x a.st).same h.row (omega arith) in
            let read' : m t (cursor n r.script.names (counts_of s.counts)) ≡ got x (here r) = ap (λ (p : Script). m t (cursor n p.names (counts_of s.counts))) (sym script) ∙ read in
            let pass : analyze_type x a.st ≡ (ok y, (analyze_type x a.st).1) = ap (λ (v : Maybe Spot (Ty Spot)). (v, (analyze_type x a.st).1)) fine' in
            let all = found.does after.tables (subst (λ (p : Script). h.row < p.containers) script low) member c (kept ∙ row) (counts_of s.counts) (here r) x y a.st read' pass in
            let same = sym (contained_by c i x a.st fine') in (
              ap (λ (v : Maybe Spot (Ty Spot) × Analyzer Spot). v.1.prunings) (sym same),
              subst (λ (v : Maybe Spot (Ty Spot) × Analyzer Spot). Tables r.tables r.script r.counts w₃ v.1) same all.0,
              all.1,
              subst (λ (v : Maybe Spot (Ty Spot) × Analyzer Spot). Edged y edge v.0) same all.2,
            )

        module _ (c : Ident Spot) (i : Option (Ident Spot)) (member : Member h i) (a : Ground) (is : Is s o l w a) (low : Good a → h.row < s.script.containers) (row : Good a → (at a.st.containment.containers h.row).identifier ≡ c)
            (x : Ty Spot) (read : m t (cursor n s.script.names (counts_of s.counts)) ≡ got x (here r)) (i₁ : Is r o₂ l₂ w₂ (onward analyze_type (ok_b ty_b) x (say (num_b 0) a))) (told : Good (silently analyze_type x (say (num_b 0) a)) → Answers none (analyze_type x a.st).0) where
          known : Good a → (y : Ty Spot) × ((analyze_type x a.st).0 ≡ ok y)
              × ((analyze_contained c i (ok x) a.st).1.prunings ≡ (analyze_type x a.st).1.prunings) × Tables r.tables r.script r.counts w₃ (analyze_contained c i (ok x) a.st).1 × Lower w₂ w₃ × Edged y edge (analyze_contained c i (ok x) a.st).0
          known z =
              let same = type_ids x a.st in
              let y = told_fine (told (record { few = omega (arith, z.few, same); fit = z.fit })) refl in
              let u = held c i member a (is.when z) (low z) (row z) x read y.0 y.1 (i₁.when (record { few = omega (arith, z.few, same); fit = z.fit })) in
              (y.0, y.1, u.0, u.1, u.2, u.3)

          good_before : {xs : List ℕ} → Good (record { out = xs; st = (analyze_contained c i (ok x) a.st).1; rest = a.rest }) → Good a
          good_before z = let ids = contained_ids c i x a.st in record { few = omega (arith, z.few, ids); fit = z.fit }

          -- the edges are in the tables
          edged : Is r o₂ l₂ w₃ (record { out = (a.out ++ num_b 0) ++ ok_b ty_b (analyze_type x a.st).0; st = (analyze_contained c i (ok x) a.st).1; rest = a.rest })
          edged =
              let same = type_ids x a.st in
              let ids = contained_ids c i x a.st in
              tables_changed i₁ (analyze_contained c i (ok x) a.st).1 (λ z. record { few = omega (arith, z.few, ids, same); fit = z.fit })
              (λ z _. let v = known (record { few = omega (arith, z.few, same); fit = z.fit }) in (v.2, v.3, v.4))

        pub contained_fine : edge ≡ Ok tt → Contains t (maybe m) h s o l w r o₂ l₂ w₃
        contained_fine q = record {
          does = λ j c i member a low row is. leads_ok g m e z (leads_tried _ k j (wrote_on is put) λ x read i₁ told.
              leads_end (ok x) refl (edged c i member a is low row x read i₁ told) λ y.
              let v = known c i member a is low row x read i₁ told (good_before c i member a is low row x read i₁ told y) in
              ap (λ (xs : List ℕ). record { out = xs; st = (analyze_contained c i (ok x) a.st).1; rest = a.rest })
              (ap (λ (d : Maybe Spot (Ty Spot)). (a.out ++ num_b 0) ++ ok_b ty_b d) v.1 ∙ fine_bytes a.out {y = ok v.0} W.fine ∙ ap (λ (d : Maybe Spot (Ty Spot)). a.out ++ maybe_b ty_b d) (sym (edge_fine v.5 q))));
        }

        -- an edge is refused: so is the type
        pub contained_late : {f : Fault} {d : Wrote} {o₃ : List ℕ} → edge ≡ Err f → Put s.wrote (num_b 1 ++ fault_b f) o₂ d o₃ → Contains t (maybe m) h s o l w (with_wrote r d) o₃ l₂ w₃
        contained_late q err_put = record {
          does = λ j c i member a low row is. leads_ok g m e z (leads_tried _ k j (wrote_on is put) λ x read i₁ told.
              leads_end (ok x) refl
              (instead is (num_b 0 ++ ok_b ty_b (analyze_type x a.st).0) (omega (arith, contained_ids c i x a.st)) (out_is (edged c i member a is low row x read i₁ told) (append_assoc a.out (num_b 0) _)) err_put) λ y.
              let v = known c i member a is low row x read i₁ told (good_before c i member a is low row x read i₁ told y) in
              ap (λ (xs : List ℕ). record { out = a.out ++ xs; st = (analyze_contained c i (ok x) a.st).1; rest = a.rest }) (bad_bytes (edge_bad v.5 q)));
        }
