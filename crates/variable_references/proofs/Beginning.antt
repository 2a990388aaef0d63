-- The state that the walk begins with stands for the first ground.
use Prim.Native.Nat.{ℕ, zero, suc, ◌+◌, ◌≤◌, ◌<◌}
use mathlib.Core.Path.{◌≡◌, refl, sym, ap, ◌∙◌}
use mathlib.Core.Bool.{Bool, true, false, not}
use mathlib.Core.List.{List, [], ◌∷◌, ◌++◌, append-nil}
use mathlib.Core.Option.{none}
use native.Mathlib.Decide.{dec_lt}
use native.Mathlib.Omega.{arith}
use lib.ListN.{length, get_or, take, drop, length-drop, length-take, get_or-eq_default}
use lib.Seq.{length-take-le}
use Rattle.penne.specs.Tree.{Spot, Ident, Decl, constant, function, function_head, structure, import, bad_decl}
use Rattle.penne.specs.Find.{keep}
use Rattle.penne.specs.Find as F
use Rattle.penne.specs.State as S
use Rattle.penne.specs.Pruning.{no_prunings, fate, fate_by, standing}
use Rattle.penne.specs.Containers.{Container, constants, identifier_of, push_container, with_containers}
use Rattle.penne.specs.Scopes.{Analyzer, authoritative, next_id, with_stack, with_containment, with_functions, declare_constant, declare_function, declare_struct, begin, push_constant}
use Rattle.penne.specs.Variables.{predeclare, in_turn}
use Rattle.tree.specs.declared.script.Layout.{Layout}
use Rattle.tree.specs.Script.{LaidOut}
use Rattle.scopes.specs.declared.scope.Scope.{Scope}
use Rattle.scopes.specs.Table.{Blank}
use Rattle.scopes.specs.Mirror.{Mirrors}
use Rattle.scopes.proofs.Analyzing.{mirrors_next, mirrors_containment, mirrors_functions, mirrors_constant}
use Rattle.containers.proofs.Starting.{holds_none, holds_no_function}
use Rattle.labels.specs.Outcomes.{outcomes_decls}
use Rattle.label_references.specs.Pass.{fresh, uncounted}
use Rattle.labels.specs.Table.{Told}
use Rattle.labels.proofs.Along.{along_length}
use Rattle.scopes.specs.Labels.{Along, stop, step}
use Rattle.label_references.proofs.Growing.{labels_few, statements_few}
use Rattle.walk.specs.Walking.{scopes_in, Input, Marks}
use Rattle.walk.specs.declared.state.Script.{Script}
use Rattle.walk.proofs.Tables.{marks_kept, part_word}
use Rattle.declaration_parts.proofs.Wholly.{first_rest}
use Rattle.variable_references.specs.Whole.{Prepared}
use Rattle.stages.specs.Stages.{Above, Tabled, MainName}

-- THE TABLES AT FIRST

module _ {s : List ℕ} {l : Layout} {t : LaidOut s l} {w : List ℕ} (p : Prepared t w) where
  -- behind the labels all words are 0
  late_zero : (i : ℕ) → 4096 ≤ i → get_or w i 0 ≡ 0
  late_zero i h = p.zero i (λ a b. absurd (omega (arith, statements_few t))) (λ a b. absurd (omega arith))

  part_zero : (from n : ℕ) → 4096 ≤ from → (i : ℕ) → get_or (take n (drop from w)) i 0 ≡ 0
  part_zero from n h i = go (dec_lt i n)
    where
      go : Dec (i < n) → get_or (take n (drop from w)) i 0 ≡ 0
      go (yes d) = part_word from n w i d ∙ late_zero (from + i) (omega arith)
      go (no d) = get_or-eq_default (take n (drop from w)) 0 (omega (arith, length-take n (drop from w)))

  part_long : (from n : ℕ) → from + n ≤ 16384 → length (take n (drop from w)) ≡ n
  part_long from n h = length-take-le n (drop from w) (omega (arith, length-drop from w, p.long))

  pub tabled_first : Tabled uncounted w w begin
  unfolding begin
  tabled_first = record {
    long = p.long;
    above = record { long = refl; same = λ i h. refl };
    containers = holds_none none (part_long 13312 1668 (omega arith)) (part_zero 13312 1668 (omega arith));
    functions = holds_no_function (part_long 14980 768 (omega arith));
    given = λ r h. absurd (omega arith);
  }

  -- no entry, and no note of a label
  pub blank_first : {w' : List ℕ} → Above w w' → Blank (scopes_in w')
  blank_first {w'} a = record {
    long = length-take-le 11264 (drop 2048 w') (omega (arith, length-drop 2048 w', p.long, a.long));
    headless = λ n h. cell_zero (10240 + n) (omega arith) (omega arith);
    noteless = λ n h. cell_zero (3072 + n) (omega arith) (omega arith);
  }
    where
      cell_zero : (i : ℕ) → i < 11264 → 2048 ≤ i → get_or (scopes_in w') i 0 ≡ 0
      cell_zero i h g = part_word 2048 11264 w' i h ∙ a.same (2048 + i) (omega arith) ∙ late_zero (2048 + i) (omega arith)

-- predeclaration does not touch the scopes
mirrors_own : {s : Scope} {w : List ℕ} (d : Decl Spot) (u : Analyzer Spot) → Mirrors s w u → Mirrors s w (predeclare d u).1
unfolding predeclare S.◌>>=◌ S.ret declare_function declare_struct
mirrors_own (constant g p q i x t) u m = mirrors_constant m i
mirrors_own (function g p q i ps b t) u m = mirrors_next (mirrors_functions m _)
mirrors_own (function_head g p q i ps t) u m = mirrors_next (mirrors_functions m _)
mirrors_own (structure g p i ms t) u m = mirrors_next (mirrors_containment m _)
mirrors_own (import b p) u m = m
mirrors_own (bad_decl z) u m = m

pub mirrors_owns : {s : Scope} {w : List ℕ} (ds : List (Decl Spot)) (u : Analyzer Spot) → Mirrors s w u → Mirrors s w (in_turn predeclare ds u).1
unfolding in_turn S.◌>>=◌ S.ret
mirrors_owns [] u m = m
mirrors_owns (d ∷ ds) u m = mirrors_owns ds (predeclare d u).1 (mirrors_own d u m)

-- WHAT IS PREDECLARED LEAVES ALL ELSE AS IT WAS

constants_push : (cs : List (Container Spot)) (c : Container Spot) → constants (cs ++ (c ∷ [])) ≡ constants cs ++ constants (c ∷ [])
unfolding constants keep identifier_of
constants_push [] c = refl
constants_push (x ∷ cs) c = go (constants_push cs c) (not x.is_structure) refl
  where
    go : constants (cs ++ (c ∷ [])) ≡ constants cs ++ constants (c ∷ []) → (b : Bool) → not x.is_structure ≡ b → constants (x ∷ (cs ++ (c ∷ []))) ≡ constants (x ∷ cs) ++ constants (c ∷ [])
    go q true e = rw (e, keep) (ap (λ (l : List (Ident Spot)). x.identifier ∷ l) q)
    go q false e = rw (e, keep) q

-- layer 0 is the constants; no local, no constant's value, nothing listed
pub record Clean (u : Analyzer Spot) : Type 0 where
  pub layer : u.variable_stack.constants ≡ constants u.containment.containers
  pub locals : u.variable_stack.locals ≡ []
  pub whose : u.containment.in_constexpr_of_constant ≡ none
  pub prunings : u.prunings ≡ no_prunings

clean_own : (d : Decl Spot) (u : Analyzer Spot) → Clean u → Clean (predeclare d u).1
unfolding predeclare S.◌>>=◌ S.ret declare_constant declare_function declare_struct next_id with_stack with_containment with_functions push_container with_containers push_constant constants keep identifier_of
clean_own (constant g p q i x t) u c = record { layer = ap (λ (l : List (Ident Spot)). l ++ (authoritative u i ∷ [])) c.layer ∙ sym (constants_push u.containment.containers _); locals = c.locals; whose = c.whose; prunings = c.prunings }
clean_own (function g p q i ps b t) u c = record { layer = c.layer; locals = c.locals; whose = c.whose; prunings = c.prunings }
clean_own (function_head g p q i ps t) u c = record { layer = c.layer; locals = c.locals; whose = c.whose; prunings = c.prunings }
clean_own (structure g p i ms t) u c = record { layer = c.layer ∙ sym (append-nil _) ∙ sym (constants_push u.containment.containers _); locals = c.locals; whose = c.whose; prunings = c.prunings }
clean_own (import b p) u c = c
clean_own (bad_decl z) u c = c

clean_owns : (ds : List (Decl Spot)) (u : Analyzer Spot) → Clean u → Clean (in_turn predeclare ds u).1
unfolding in_turn S.◌>>=◌ S.ret
clean_owns [] u c = c
clean_owns (d ∷ ds) u c = clean_owns ds (predeclare d u).1 (clean_own d u c)

pub clean_first : (ds : List (Decl Spot)) → Clean (in_turn predeclare ds begin).1
unfolding begin constants keep
clean_first ds = clean_owns ds begin (record { layer = refl; locals = refl; whose = refl; prunings = refl })

-- WHAT THE LABEL PASS DECIDED

told_at : {w : List ℕ} (k : ℕ) (os : List ℕ) {n : ℕ} → Along (Told w) k os n → (j : ℕ) → j < length os → get_or w (k + j) 0 ≡ get_or os j 0
told_at k [] stop j h = absurd (omega arith)
told_at {w} k (o ∷ os) (step p a) zero h = let e : k + 0 ≡ k = omega arith in ap (λ (i : ℕ). get_or w i 0) e ∙ p.is
told_at {w} k (o ∷ os) (step p a) (suc j) h = let e : k + suc j ≡ k + 1 + j = omega arith in ap (λ (i : ℕ). get_or w i 0) e ∙ told_at (k + 1) os a j (omega arith)

module _ {s : List ℕ} {l : Layout} {t : LaidOut s l} {w : List ℕ} (p : Prepared t w) where
  told_first : (k : ℕ) → 0 + k < 2048 → get_or w (0 + k) 0 ≡ get_or (outcomes_decls t.decls (fresh 1)) k 0
  told_first k h = go (dec_lt k (length (outcomes_decls t.decls (fresh 1))))
    where
      go : Dec (k < length (outcomes_decls t.decls (fresh 1))) → get_or w (0 + k) 0 ≡ get_or (outcomes_decls t.decls (fresh 1)) k 0
      go (yes d) = told_at 0 _ p.told k d
      go (no d) = p.zero (0 + k) (λ a b. absurd (omega (arith, along_length p.told))) (λ a b. absurd (omega arith)) ∙ sym (get_or-eq_default (outcomes_decls t.decls (fresh 1)) 0 (omega arith))

  -- the marks that the walk begins with
  pub marks_first : {w' : List ℕ} (room slots : ℕ) (k : Script) → Above w w' → MainName s k.main → Input s → k.names ≡ l.names → Marks uncounted w' (first_rest t room slots k)
  marks_first room slots k a m i e = marks_kept {w = w} (record { same = λ j h. a.same j (omega arith) }) (record {
    told = told_first;
    named = p.named;
    labels = labels_few t;
    containers = refl;
    functions = refl;
    main = λ j h. m.is i t j (omega arith);
  })

-- nothing became of any id yet
pub fate_none : (x : ℕ) → fate x (no_prunings {P = Spot}) ≡ standing
unfolding fate fate_by no_prunings F.first F.is_in
fate_none x = refl
