-- The ways through gotos and labels.
use mathlib.Core.Path.{◌≡◌, refl, sym, ap, subst, ◌∙◌}
use mathlib.Core.Bool.{Bool, true, false, not}
use mathlib.Core.List.{List, [], ◌∷◌}
use mathlib.Core.Option.{Option, none, some}
use Prim.Native.Nat.{ℕ, ◌+◌, ◌≤◌, ◌<◌}
use native.Mathlib.Numerals.{add-one}
use native.Mathlib.Decide.{ℕ_discrete, dec_lt}
use native.Mathlib.Omega.{arith}
use lib.Dec.{eqb, ltb}
use lib.ListN.{length, get_or, set, drop, drop_of_length-le}
use borrow.Author.Tests.{lt-ltb, le-ltb}
use Rattle.penne.specs.Tree.{Spot, Ident}
use Rattle.penne.specs.Find.{keep, is_in}
use Rattle.penne.specs.Pruning.{UnresolvedPruning, Pruning, Prunings, fate, prune_all, prune_by, prune_at_label, prepare_to_prune_at_goto}
use Rattle.scopes.specs.declared.scope.Scope.{Scope}
use Rattle.scopes.specs.Table.{rows, label_goto, label_note, cell, Nth, Label, Note, Noted, unnoted, noted, unresolved, Holds, Keeps}
use Rattle.scopes.specs.Jumps.{InScope, Prepares, Prunes, with_pruned, prune_unless, PrunesOne}
use Rattle.scopes.proofs.Lists.{nth_is, drop_more}
use Rattle.scopes.proofs.Words.{Puts, puts}
use Rattle.scopes.proofs.Holding.{entry_kept, fate_kept, entries_kept, heads_kept, label_kept, fates_kept}
use Rattle.scopes.proofs.Scoping.{kept_all, keeps_on}
use Rattle.scopes.proofs.Finding.{keep_lower, keep_inside, first_without, first_with, met, entered, meet_first, meet_later, meet_other}

-- THE NOTE OF ONE LABEL

module _ (p' : Prunings Spot) (w' : List ℕ) {s : Scope} {w : List ℕ} {ls : List (Ident Spot)} {layer : ℕ} {p : Prunings Spot} {next : ℕ} (row : ℕ) (h : Holds s w ls layer p next) (lr : row < rows)
    (long : length w' ≡ length w) (others : (j : ℕ) → (j ≡ label_note + row → ⊥) → (j ≡ label_goto + row → ⊥) → get_or w' j 0 ≡ get_or w j 0)
    (fated : (x : ℕ) → fate x p' ≡ fate x p) (rest : (id : ℕ) → (id ≡ row + 1 → ⊥) → unresolved id p' ≡ unresolved id p)
    (own : Noted ls next (cell w' label_note row) (cell w' label_goto row) (unresolved (row + 1) p')) where
  note_of : (r : ℕ) → r < rows → Dec (r ≡ row) → Noted ls next (cell w' label_note r) (cell w' label_goto r) (unresolved (r + 1) p')
  note_of r z (yes q) = rw q own
  note_of r z (no q) = rw (rest (r + 1) (λ y. q (omega arith)), others (label_note + r) (λ y. q (omega arith)) (omega arith), others (label_goto + r) (omega arith) (λ y. q (omega arith))) (h.notes.at r z)

  renoted : Holds s w' ls layer p' next
  renoted =
      let few = h.few in
      record {
        counted = h.counted;
        few = h.few;
        begins = h.begins;
        long = long ∙ h.long;
        some_id = h.some_id;
        entries = entries_kept (λ m z. entry_kept w w' m (others _ (omega arith) (omega arith)) (others _ (omega arith) (omega arith)) (others _ (omega arith) (omega arith)) (others _ (omega arith) (omega arith))) h.entries;
        head = heads_kept (λ n z. others _ (omega arith) (omega arith)) h.head;
        known = h.known;
        fates = record { at = λ {i = x} n. rw (fated x.id) ((fates_kept (λ j y. others j (omega arith) (omega arith)) (λ m y. fate_kept w w' m (others _ (omega arith) (omega arith)) (others _ (omega arith) (omega arith))) h.fates).at n) };
        fresh = record { at = λ x z. fated x ∙ h.fresh.at x z };
        notes = record { at = λ r z. note_of r z (ℕ_discrete r row) };
      }

-- what a note of 0, or of more, says
no_note : {ls : List (Ident Spot)} {next note goto : ℕ} (o : Option (UnresolvedPruning Spot)) → Noted ls next note goto o → note ≡ 0 → o ≡ none
no_note none (unnoted e) z = refl
no_note (some u) (noted n) z = absurd (omega (arith, n.some_id))

a_note : {ls : List (Ident Spot)} {next note goto : ℕ} (o : Option (UnresolvedPruning Spot)) → Noted ls next note goto o → (note ≡ 0 → ⊥) → (u : UnresolvedPruning Spot) × (o ≡ some u) × Note ls next note goto u
a_note none (unnoted e) z = absurd (z e)
a_note (some u) (noted n) z = (u, refl, n)

note_as : {ls : List (Ident Spot)} {next note goto a b : ℕ} {u : UnresolvedPruning Spot} → note ≡ a → goto ≡ b → Note ls next a b u → Note ls next note goto u
note_as e q n = rw (e, q) n

-- A GOTO

module _ (l : Ident Spot) (goto : Spot) (ids : List ℕ) (p : Prunings Spot) where
  goto_fates : (x : ℕ) → fate x (prepare_to_prune_at_goto l goto ids p) ≡ fate x p
  unfolding fate prepare_to_prune_at_goto
  goto_fates x = refl

  goto_rest : (id : ℕ) → (id ≡ l.id → ⊥) → unresolved id (prepare_to_prune_at_goto l goto ids p) ≡ unresolved id p
  unfolding unresolved prepare_to_prune_at_goto
  goto_rest id d = meet_other l.id ids goto id d p.unresolved_labels

  goto_first : unresolved l.id p ≡ none → unresolved l.id (prepare_to_prune_at_goto l goto ids p) ≡ some (entered l.id ids goto)
  unfolding unresolved prepare_to_prune_at_goto
  goto_first e = meet_first l.id ids goto p.unresolved_labels e

  goto_later : (u : UnresolvedPruning Spot) → unresolved l.id p ≡ some u → unresolved l.id (prepare_to_prune_at_goto l goto ids p) ≡ some (met l.id ids goto u)
  unfolding unresolved prepare_to_prune_at_goto
  goto_later u e = meet_later l.id ids goto p.unresolved_labels u e

-- what is in scope at a later goto as well
note_met : {ls : List (Ident Spot)} {next note place : ℕ} {u : UnresolvedPruning Spot} {ids : List ℕ} (l : ℕ) (goto : Spot) → InScope ls next ids → Note ls next note place u → Note ls next note place (met l ids goto u)
note_met {u = u} {ids = ids} l goto sc n = record {
  some_id = n.some_id;
  early = n.early;
  place = n.place;
  lower = λ x e. n.lower x (keep_lower (λ y. is_in y ids) x u.intersection_of_variables e);
  inside = λ {i = i} at z. keep_inside (λ y. is_in y ids) i.id u.intersection_of_variables (sc.locals at) (n.inside at z);
}

module _ {row place id : ℕ} {w : List ℕ} where
  pub goto_past : rows ≤ row → Prepares row place id w w
  goto_past z = record { kept = kept_all; holds = λ l goto h lr. absurd (omega arith) }

  pub goto_again : {note : ℕ} → note ≡ cell w label_note row → (note ≡ 0 → ⊥) → Prepares row place id w w
  goto_again {note} e z = record {
    kept = kept_all;
    holds = λ {ls = ls} {p = p} {next = next} l goto {ids} h lr q at b sc.
        let (u, o, n) = a_note (unresolved (row + 1) p) (h.notes.at row lr) (λ y. z (e ∙ y)) in
        let is : unresolved (row + 1) (prepare_to_prune_at_goto l goto ids p) ≡ some (met l.id ids goto u) = ap (λ (x : ℕ). unresolved x (prepare_to_prune_at_goto l goto ids p)) (sym q) ∙ goto_later l goto ids p u (ap (λ (x : ℕ). unresolved x p) q ∙ o) in
        renoted _ _ row h lr refl (λ j a c. refl) (goto_fates l goto ids p) (λ x d. goto_rest l goto ids p x (λ y. d (y ∙ q))) (rw is (noted (note_met l.id goto sc n)));
  }

  pub goto_new : {note : ℕ} {w₁ w' : List ℕ} → note ≡ cell w label_note row → note ≡ 0 → row < rows → w₁ ≡ set w (label_note + row) id → w' ≡ set w₁ (label_goto + row) place → Prepares row place id w w'
  goto_new {note} {w₁} {w'} e z lr e₁ e₂ = record {
    kept = record { long = long; labels = λ j y. others j (omega arith) (omega arith) };
    holds = λ {ls = ls} {p = p} {next = next} l goto {ids} h _ q at b sc.
        let o : unresolved (row + 1) p ≡ none = no_note (unresolved (row + 1) p) (h.notes.at row lr) (sym e ∙ z) in
        let is : unresolved (row + 1) (prepare_to_prune_at_goto l goto ids p) ≡ some (entered l.id ids goto) = ap (λ (x : ℕ). unresolved x (prepare_to_prune_at_goto l goto ids p)) (sym q) ∙ goto_first l goto ids p (ap (λ (x : ℕ). unresolved x p) q ∙ o) in
        let note_is : cell w' label_note row ≡ next = second_put.others _ (omega arith) ∙ first_put.there (omega (arith, h.long)) ∙ b in
        let place_is : cell w' label_goto row ≡ goto.number = second_put.there (omega (arith, h.long, first_put.long)) ∙ at in
        renoted _ _ row h lr long others (goto_fates l goto ids p) (λ x d. goto_rest l goto ids p x (λ y. d (y ∙ q)))
        (rw (is, note_is) (noted (record { some_id = h.some_id; early = omega arith; place = place_is; lower = sc.lower; inside = λ n y. sc.locals n })));
  }
    where
      first_put : Puts (label_note + row) id w w₁
      first_put = puts e₁

      second_put : Puts (label_goto + row) place w₁ w'
      second_put = puts e₂

      long : length w' ≡ length w
      long = second_put.long ∙ first_put.long

      others : (j : ℕ) → (j ≡ label_note + row → ⊥) → (j ≡ label_goto + row → ⊥) → get_or w' j 0 ≡ get_or w j 0
      others j a b = second_put.others j b ∙ first_put.others j a

-- A LABEL, ITS LAYER

all_more : (l : Ident Spot) (u : UnresolvedPruning Spot) (x : Ident Spot) (xs : List (Ident Spot)) (cs : List (Pruning Spot))
    → prune_all l u (x ∷ xs) cs ≡ prune_all l u xs (prune_unless (is_in x.id u.intersection_of_variables) (record { variable = x.id; label = l; location_of_goto = u.location_of_goto }) cs)
unfolding prune_all prune_unless
all_more l u x xs cs = go (is_in x.id u.intersection_of_variables) refl
  where
    go : (b : Bool) → is_in x.id u.intersection_of_variables ≡ b
        → prune_all l u (x ∷ xs) cs ≡ prune_all l u xs (prune_unless (is_in x.id u.intersection_of_variables) (record { variable = x.id; label = l; location_of_goto = u.location_of_goto }) cs)
    go true z = rw (z, prune_all)
    go false z = rw (z, prune_all)

all_none : (l : Ident Spot) (u : UnresolvedPruning Spot) (cs : List (Pruning Spot)) → cs ≡ prune_all l u [] cs
unfolding prune_all
all_none l u cs = refl

-- a local was in scope at every goto exactly when its id is below the note
below_note : {ls : List (Ident Spot)} {next note goto k : ℕ} {u : UnresolvedPruning Spot} {i : Ident Spot} → Note ls next note goto u → Nth k i ls → is_in i.id u.intersection_of_variables ≡ ltb i.id note
below_note {note = note} {u = u} {i = i} n at = go (dec_lt i.id note) (is_in i.id u.intersection_of_variables) refl
  where
    go : Dec (i.id < note) → (b : Bool) → is_in i.id u.intersection_of_variables ≡ b → is_in i.id u.intersection_of_variables ≡ ltb i.id note
    go (yes z) b e = n.inside at z ∙ sym (lt-ltb i.id note z)
    go (no z) true e = absurd (z (n.lower i.id e))
    go (no z) false e = e ∙ sym (le-ltb i.id note (omega arith))

-- the locals from k on are left to be pruned
pub record Swept (s : Scope) (w : List ℕ) (ls : List (Ident Spot)) (layer : ℕ) (p : Prunings Spot) (next : ℕ) (l : Ident Spot) (u : UnresolvedPruning Spot) (k : ℕ) : Type 0 where
  pub so_far : List (Pruning Spot)
  pub holds : Holds s w ls layer (with_pruned p so_far) next
  pub rest : prune_all l u (drop k ls) so_far ≡ prune_all l u (drop layer ls) p.pruned_variables

-- the loop
pub record Sweeping (layer₀ count row note place : ℕ) (w₀ w : List ℕ) (k : ℕ) : Type 0 where
  pub keeps : Keeps w₀ w
  pub sweeps : {s : Scope} {ls : List (Ident Spot)} {layer : ℕ} {p : Prunings Spot} {next : ℕ} {l : Ident Spot} {u : UnresolvedPruning Spot} → s.count ≡ count → s.layer ≡ layer₀ → Holds s w₀ ls layer p next
      → Label w₀ row l → Note ls next note place u → Swept s w ls layer p next l u k

pub sweeping_start : {layer count row note place : ℕ} {w : List ℕ} → Sweeping layer count row note place w w layer
unfolding with_pruned
sweeping_start = record {
  keeps = kept_all;
  sweeps = λ {ls = ls} {p = p} {l = l} {u = u} c e h a n. record { so_far = p.pruned_variables; holds = h; rest = ap (λ (m : ℕ). prune_all l u (drop m ls) p.pruned_variables) (sym e ∙ h.begins) };
}

module _ {layer₀ count row note place k : ℕ} {w₀ w : List ℕ} (go : Sweeping layer₀ count row note place w₀ w k) where
  pub sweeping_more : {w' : List ℕ} → k < count → PrunesOne k note row place w w' → Sweeping layer₀ count row note place w₀ w' (k + 1)
  unfolding with_pruned
  sweeping_more {w'} z one = record {
    keeps = keeps_on go.keeps one.kept;
    sweeps = λ {s = s} {ls = ls} {layer = layer} {p = p} {next = next} {l = l} {u = u} c e h a n.
        let so = go.sweeps c e h a n in
        let (i, at) = nth_is ls k (omega (arith, h.counted)) in
        let new : List (Pruning Spot) = prune_unless (ltb i.id note) (record { variable = i.id; label = l; location_of_goto = u.location_of_goto }) so.so_far in
        record {
          so_far = new;
          holds = one.holds u.location_of_goto so.holds at (label_kept go.keeps.labels a) n.place;
          rest =
              let left : drop k ls ≡ i ∷ drop (k + 1) ls = drop_more at ∙ ap (λ (m : ℕ). i ∷ drop m ls) (sym (add-one k)) in
              let was : prune_unless (is_in i.id u.intersection_of_variables) (record { variable = i.id; label = l; location_of_goto = u.location_of_goto }) so.so_far ≡ new = rw (below_note n at) in
              sym (ap (λ (xs : List (Ident Spot)). prune_all l u xs so.so_far) left ∙ all_more l u i (drop (k + 1) ls) so.so_far ∙ ap (prune_all l u (drop (k + 1) ls)) was) ∙ so.rest;
        };
  }

  pub sweeping_long : {w' : List ℕ} → w' ≡ set w (label_note + row) 0 → length w' ≡ length w₀
  sweeping_long {w'} e = let put : Puts (label_note + row) 0 w w' = puts e in put.long ∙ go.keeps.long

-- the prunings when the label is resolved
abbrev resolved_to : Ident Spot → Prunings Spot → List (Pruning Spot) → Prunings Spot
resolved_to l p cs = record { unresolved_labels = keep (λ x. not (eqb x.label l.id)) p.unresolved_labels; pruned_variables = cs; poisoned_variables = p.poisoned_variables; skips = p.skips }

module _ (l : Ident Spot) (p : Prunings Spot) where
  label_fates : (cs : List (Pruning Spot)) (x : ℕ) → fate x (resolved_to l p cs) ≡ fate x (with_pruned p cs)
  unfolding fate with_pruned
  label_fates cs x = refl

  label_rest : (cs : List (Pruning Spot)) (x : ℕ) → (x ≡ l.id → ⊥) → unresolved x (resolved_to l p cs) ≡ unresolved x (with_pruned p cs)
  unfolding unresolved with_pruned
  label_rest cs x d = first_with {A = UnresolvedPruning Spot} (λ u. u.label) l.id x d p.unresolved_labels

  label_own : (cs : List (Pruning Spot)) → unresolved l.id (resolved_to l p cs) ≡ none
  unfolding unresolved
  label_own cs = first_without {A = UnresolvedPruning Spot} (λ u. u.label) l.id p.unresolved_labels

  label_is : (layer : List (Ident Spot)) (u : UnresolvedPruning Spot) → unresolved l.id p ≡ some u → resolved_to l p (prune_all l u layer p.pruned_variables) ≡ prune_at_label l layer p
  unfolding unresolved prune_at_label prune_by
  label_is layer u e = sym (ap (λ (o : Option (UnresolvedPruning Spot)). prune_by l layer o p) e)

  label_none : (layer : List (Ident Spot)) → unresolved l.id p ≡ none → p ≡ prune_at_label l layer p
  unfolding unresolved prune_at_label prune_by
  label_none layer e = sym (ap (λ (o : Option (UnresolvedPruning Spot)). prune_by l layer o p) e)

module _ {s : Scope} {row : ℕ} {w : List ℕ} where
  pub label_past : rows ≤ row → Prunes s row w w
  label_past z = record { kept = kept_all; holds = λ h a. absurd (omega (arith, a.low)) }

  pub label_unnoted : {note : ℕ} → note ≡ cell w label_note row → note ≡ 0 → Prunes s row w w
  label_unnoted e z = record {
    kept = kept_all;
    holds = λ {ls} {layer} {p} {next} {l} h a.
        let o : unresolved (row + 1) p ≡ none = no_note (unresolved (row + 1) p) (h.notes.at row a.low) (sym e ∙ z) in
        subst (λ (q : Prunings Spot). Holds s w ls layer q next) (label_none l p (drop layer ls) (ap (λ (x : ℕ). unresolved x p) a.id ∙ o)) h;
  }

  pub label_done : {note place k : ℕ} {w₁ w' : List ℕ} → note ≡ cell w label_note row → (note ≡ 0 → ⊥) → place ≡ cell w label_goto row → Sweeping s.layer s.count row note place w w₁ k → s.count ≤ k
      → w' ≡ set w₁ (label_note + row) 0 → Prunes s row w w'
  label_done {note} {place} {k} {w₁} {w'} e z b go end e' = record {
    kept = keeps_on go.keeps (record { long = put.long; labels = λ j y. put.others j (omega arith) });
    holds = λ {ls} {layer} {p} {next} {l} h a.
        let (u, o, n) = a_note (unresolved (row + 1) p) (h.notes.at row a.low) (λ y. z (e ∙ y)) in
        last ls layer p next l u h a (ap (λ (x : ℕ). unresolved x p) a.id ∙ o) (go.sweeps refl refl h a (note_as e b n));
  }
    where
      put : Puts (label_note + row) 0 w₁ w'
      put = puts e'

      last : (ls : List (Ident Spot)) (layer : ℕ) (p : Prunings Spot) (next : ℕ) (l : Ident Spot) (u : UnresolvedPruning Spot) → Holds s w ls layer p next → Label w row l → unresolved l.id p ≡ some u → Swept s w₁ ls layer p next l u k
          → Holds s w' ls layer (prune_at_label l (drop layer ls) p) next
      last ls layer p next l u h a o so =
          let none_left : drop k ls ≡ [] = drop_of_length-le ls {i = k} (omega (arith, h.counted)) in
          let all : so.so_far ≡ prune_all l u (drop layer ls) p.pruned_variables = all_none l u so.so_far ∙ ap (λ (xs : List (Ident Spot)). prune_all l u xs so.so_far) (sym none_left) ∙ so.rest in
          let own : unresolved (row + 1) (resolved_to l p so.so_far) ≡ none = ap (λ (x : ℕ). unresolved x (resolved_to l p so.so_far)) (sym a.id) ∙ label_own l p so.so_far in
          let resolved : Holds s w' ls layer (resolved_to l p so.so_far) next =
          renoted _ _ row so.holds a.low put.long (λ j c d. put.others j c) (label_fates l p so.so_far) (λ x d. label_rest l p so.so_far x (λ y. d (y ∙ a.id)))
          (rw own (unnoted (put.there (omega (arith, so.holds.long, a.low))))) in
          subst (λ (q : Prunings Spot). Holds s w' ls layer q next) (ap (resolved_to l p) all ∙ label_is l p (drop layer ls) u o) resolved
