-- Gotos and labels: what the walk stands for afterwards.
use mathlib.Core.Path.{◌≡◌, refl, sym, ap, subst, ◌∙◌}
use mathlib.Core.List.{List}
use mathlib.Core.Option.{Option, none, some}
use Prim.Native.Nat.{ℕ, ◌+◌, ◌-◌, ◌≤◌, ◌<◌}
use native.Mathlib.Omega.{arith}
use lib.ListN.{length, get_or}
use borrow.Rule.Slice.PartMut.{put_mid}
use Rattle.penne.specs.Tree.{Spot, Ident}
use Rattle.penne.specs.Pruning.{UnresolvedPruning, Prunings, offsets, prune_by}
use Rattle.penne.specs.Pruning as R
use Rattle.penne.specs.Scopes.{with_prunings, last_layer, prepare_to_prune_at_goto, prune_at_label}
use Rattle.penne.specs.Scoper.{words}
use Rattle.answer.specs.Out.{Said}
use Rattle.scopes.specs.Jumps as J
use Rattle.scopes.specs.Table.{Label}
use Rattle.scopes.proofs.Analyzing.{mirrors_goto, mirrors_label}
use Rattle.scopes.specs.Labels.{Named}
use Rattle.walk.specs.declared.state.Walk.{Walk}
use Rattle.walk.specs.Walking.{scopes_in, Ground, Good, Is, silently}
use Rattle.walk.proofs.Early.{early_goto, early_label}
use Rattle.walk.proofs.Tables.{part_word, scopes_changed, marks_kept, lower_scopes}
use Rattle.walk.proofs.Scoping.{scopes_room}

-- the list stays
goto_skips : (i : Ident Spot) (p : Spot) (ids : List ℕ) (u : Prunings Spot) → (R.prepare_to_prune_at_goto i p ids u).skips ≡ u.skips
unfolding R.prepare_to_prune_at_goto
goto_skips i p ids u = refl

label_skips_by : (i : Ident Spot) (layer : List (Ident Spot)) (o : Option (UnresolvedPruning Spot)) (u : Prunings Spot) → (prune_by i layer o u).skips ≡ u.skips
unfolding prune_by
label_skips_by i layer none u = refl
label_skips_by i layer (some x) u = refl

label_skips : (i : Ident Spot) (layer : List (Ident Spot)) (u : Prunings Spot) → (R.prune_at_label i layer u).skips ≡ u.skips
unfolding R.prune_at_label
label_skips i layer u = label_skips_by i layer _ u

-- a label that stands in the work words stands in the table of the scopes
label_stands : (w : List ℕ) (id : ℕ) {i : Ident Spot} → 0 < id → id ≤ 1024 → i.id ≡ id → Named w id i → Label (scopes_in w) (id - 1) i
label_stands w id {i} low high e n =
    let a : 2048 + (0 + (id - 1)) ≡ 2047 + id = omega arith in
    let b : 2048 + (1024 + (id - 1)) ≡ 3071 + id = omega arith in
    record {
      low = omega arith;
      id = omega arith;
      name = part_word 2048 11264 w (0 + (id - 1)) (omega arith) ∙ ap (λ (j : ℕ). get_or w j 0) a ∙ n.name;
      place = part_word 2048 11264 w (1024 + (id - 1)) (omega arith) ∙ ap (λ (j : ℕ). get_or w j 0) b ∙ n.place;
    }

module _ {s : Walk} {o l w : List ℕ} {a : Ground} (i : Is s o l w a) where
  -- too few work words stand for nothing
  pub short_is : (b : Ground) → (Good b → Good a) → length w < 16384 → Is s o l w b
  short_is b g h = record { when = λ z. let j = i.when (g z) in let long = j.tables.long in absurd (omega arith) }

  -- prepare_to_prune_at_goto
  pub prepared_is : {id place : ℕ} {ys : List ℕ} (x : Ident Spot) (p : Spot) → J.Prepares (id - 1) place s.tables.next_id (scopes_in w) ys → x.id ≡ id → place ≡ p.number → 0 < id → (Good a → id ≤ 1024)
      → Is s o l (put_mid 2048 11264 w ys) (silently (prepare_to_prune_at_goto x) p a)
  unfolding prepare_to_prune_at_goto with_prunings
  prepared_is {id} {place} {ys} x p g e q low high = record {
    when = λ z.
        let y : Good a = record { few = z.few; fit = z.fit } in
        let j = i.when y in
        let t = j.tables in
        let h = high y in
        record {
          script = j.script;
          put = j.put;
          skip = subst (λ (v : _). Said s.listed l (words (offsets v)) a.rest.slots) (sym (goto_skips x p _ a.st.prunings)) j.skip;
          tables = scopes_changed t (prepare_to_prune_at_goto x p a.st).1 (g.kept.long ∙ scopes_room w t.long) (mirrors_goto t.scopes x p g (omega arith) (omega arith) q t.next) refl refl refl t.next (omega arith) refl t.entries (early_goto t.early x p) (λ r d e. e);
          marks = marks_kept (lower_scopes w ys t.long g.kept) j.marks;
        };
  }

  -- prune_at_label
  pub pruned_is : {id : ℕ} {ys : List ℕ} (x : Ident Spot) → J.Prunes s.tables.scope (id - 1) (scopes_in w) ys → x.id ≡ id → 0 < id → (Good a → (id ≤ 1024) × Named w id x) → Is s o l (put_mid 2048 11264 w ys) (silently prune_at_label x a)
  unfolding prune_at_label with_prunings
  pruned_is {id} {ys} x g e low high = record {
    when = λ z.
        let y : Good a = record { few = z.few; fit = z.fit } in
        let j = i.when y in
        let t = j.tables in
        let h = high y in
        record {
          script = j.script;
          put = j.put;
          skip = subst (λ (v : _). Said s.listed l (words (offsets v)) a.rest.slots) (sym (label_skips x (last_layer a.st) a.st.prunings)) j.skip;
          tables = scopes_changed t (prune_at_label x a.st).1 (g.kept.long ∙ scopes_room w t.long) (mirrors_label t.scopes g (label_stands w id low h.0 e h.1)) refl refl refl t.next (omega arith) refl t.entries (early_label t.early x) (λ r d e. e);
          marks = marks_kept (lower_scopes w ys t.long g.kept) j.marks;
        };
  }
