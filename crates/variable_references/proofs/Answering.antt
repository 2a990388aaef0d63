-- The second pass over the whole tree: answer and list are what the definitions give.
use Prim.Native.Nat.{ℕ, suc, ◌≤◌}
use mathlib.Core.Path.{◌≡◌, refl, sym, ap, subst, ◌∙◌}
use mathlib.Core.Bool.{true}
use mathlib.Core.List.{List, [], ◌∷◌, ◌++◌, map, append_assoc, flat_map}
use mathlib.Core.Option.{Option}
use native.Mathlib.Omega.{arith}
use lib.Dec.{ltb}
use lib.ListN.{length}
use borrow.Author.Tests.{ltb-true}
use Rattle.penne.specs.Tree.{Spot, Ident, Decl, Tree}
use Rattle.penne.specs.Reader.{Got, got, refused, ◌>>=◌, ret, num, many, nothing}
use Rattle.penne.specs.Read.{read_decl, read_tree}
use Rattle.penne.specs.Write.{num_b, bytes_b, list_b, decl_b, encode}
use Rattle.penne.specs.State as S
use Rattle.penne.specs.Pruning.{Prunings, no_prunings, offsets, fate}
use Rattle.penne.specs.Containers.{with_containers, determine_container_depths}
use Rattle.penne.specs.Scopes.{Analyzer, Pass, begin}
use Rattle.penne.specs.Variables.{predeclare, analyze_decl, in_turn, analyze_all, depth_of, postanalyzed}
use Rattle.penne.specs.Labels.{Labels, labels_decl, labels_decls, label_references}
use Rattle.penne.specs.Scoper.{analyze, answered_tree, skip_list, words}
use Rattle.fields.specs.declared.counts.Counts as C
use Rattle.tree.specs.declared.script.Layout.{Layout}
use Rattle.fields.specs.Answers.{cursor, counts_of}
use Rattle.tree.specs.Script.{LaidOut, start}
use Rattle.fields.proofs.Back.{many_length}
use Rattle.answer.specs.declared.wrote.Wrote.{Wrote}
use Rattle.answer.specs.declared.wrote.Wrote.TheVariants.{Bytes}
use Rattle.answer.specs.Out.{Put, Said, Within, wrote_of}
use Rattle.answer.proofs.Chain as Ch
use Rattle.answer.proofs.Said.{said_none, said_put, said_same}
use Rattle.scopes.proofs.Analyzing.{mirrors_begin}
use Rattle.scopes.proofs.Lists.{nth_low}
use Rattle.containers.specs.Table.{Holds}
use Rattle.containers.specs.Functions.{HoldsFunctions}
use Rattle.label_references.specs.Pass.{uncounted}
use Rattle.walk.specs.declared.state.Script.{Script}
use Rattle.walk.specs.declared.state.Walk.{Walk}
use Rattle.walk.specs.Walking.{here, containers_in, functions_in, Whose, nobody, Marks, Is, Leads, Input, Walks}
use Rattle.walk.proofs.Leading.{same_value, leads_such}
use Rattle.stages.specs.declared.predeclare.Predeclared.{Predeclared}
use Rattle.declaration_parts.specs.Declaring.{decls_walk}
use Rattle.stages.specs.Stages.{PredeclaresAll, SaysNames, DeterminesIn, SaysDepths}
use Rattle.variable_references.specs.Whole.{Started}
use Rattle.variable_references.specs.Whole.{Prepared, tree_of, References}
use Rattle.penne.proofs.IdsPass.{face}
use Rattle.penne.proofs.IdsWhole.{still_decls}
use Rattle.stages.proofs.Bytes.{each_none}
use Rattle.declaration_parts.proofs.Wholly.{predeclared, first_rest, first, wholly, walk_kept}
use Rattle.declaration_parts.proofs.Depths.{predeclared_same, face_depths, depths_whole, rowed_whole}
use Rattle.variable_references.proofs.Beginning.{clean_first, tabled_first, blank_first, mirrors_owns, marks_first, fate_none}

-- a tree that is read has at most 1,024 names
names_few : {s : List ℕ} {l : Layout} (t : LaidOut s l) → l.names ≤ 1024
unfolding read_tree ◌>>=◌ ret
names_few {s} {l} t =
    let e : read_tree (λ d. ret 0) s start ≡ got (record { names = t.table; decls = t.decls; depths = map (λ d. 0) t.decls }) (cursor l.depths l.names t.counts) = t.whole (λ d. ret 0) ∙ ap (λ (q : Got (List ℕ)). elim q as (λ _. Got (Tree Spot)) [ got hs next ↦ got (record { names = t.table; decls = t.decls; depths = hs }) next | refused n p ↦ refused n p ]) (each_none t.decls s (cursor l.depths l.names t.counts)) in
    let walk : Leads (read_tree (λ d. ret 0)) s start (λ x d. l.names ≤ 1024) = leads_such num (λ n _. ltb n 1025) 8 _ (λ n c g test. record { to = λ x d h. few n (same_value (sym g ∙ t.counted)) test }) in
    walk.to _ _ e
  where
    few : (n : ℕ) → n ≡ l.names → ltb n 1025 ≡ true → l.names ≤ 1024
    few n q test = omega (arith, ltb-true n 1025 test)

module _ {s : List ℕ} {l : Layout} (t : LaidOut s l) (o k : List ℕ) {w : List ℕ} (i : Input s) (p : Prepared t w) where
  -- THE BEGINNING
  is_first : {w₁ : List ℕ} {b : Predeclared} {x : Wrote} {st : Walk} {o₂ : List ℕ} (out : List ℕ) → PredeclaresAll s l w b w₁ → Started s l b x st → Said x o₂ out (length o) → Is st o₂ k w₁ (first t out (length o) (length k) st.script)
  unfolding predeclared words offsets no_prunings
  is_first {w₁} {b} {x} {st} {o₂} out pa g said =
      let d = pa.does t i.short (tabled_first p) in
      let u = (in_turn predeclare t.decls begin).1 in
      let tab = d.0 in
      let c = clean_first t.decls in
      let few = names_few t in
      let count = g.containers in
      let given = tab.given in
      let names = g.names in
      let none_yet : length u.variable_stack.locals ≡ 0 = ap (λ (x : List (Ident Spot)). length x) c.locals in
      subst (λ (a : Analyzer Spot). Is st o₂ k w₁ (record { out = out; st = a; rest = first_rest t (length o) (length k) st.script })) (sym (predeclared_same t.decls)) (record {
        when = λ _. record {
          script = refl;
          put = subst (λ (v : Wrote). Said v o₂ out (length o)) (sym g.wrote) said;
          skip = subst (λ (v : Wrote). Said v k (words (offsets u.prunings.skips)) (length k)) (sym g.listed) (subst (λ (x : Prunings Spot). Said (Bytes 0) k (words (offsets x.skips)) (length k)) (sym c.prunings) (none_said k));
          tables = record {
            long = tab.long;
            early = record { first = u.resolution_id; past = omega arith; containers = λ r h. given r (omega arith); locals = λ n. (let h = nth_low n in absurd (omega arith)); untouched = λ x h. ap (fate x) c.prunings ∙ fate_none x };
            bare = λ r h. none_yet;
            scopes = mirrors_owns t.decls begin (mirrors_begin g.scope (blank_first p tab.above));
            containers = subst (λ (m : ℕ). Holds m (containers_in w₁) u.containment) (sym g.containers) tab.containers;
            functions = subst (λ (m : ℕ). HoldsFunctions m (functions_in w₁) u.function_list) (sym g.functions) tab.functions;
            layer = c.layer;
            next = g.next ∙ d.1;
            given = λ r h. given r (omega arith);
            whose = subst (λ (x : Option (Ident Spot)). Whose u.containment.containers st.script.containers st.tables.constant x) (sym c.whose) (nobody g.constant);
            names = omega arith;
            entries = omega arith;
          };
          marks = subst (λ (n : C.Counts). Marks n w₁ (first_rest t (length o) (length k) st.script)) (sym g.counts) (marks_first p (length o) (length k) st.script tab.above g.main i g.names);
        };
      })
    where
      none_said : (k : List ℕ) → Said (Bytes 0) k (words (offsets (no_prunings {P = Spot}).skips)) (length k)
      none_said k = said_none k

-- as many declarations are answered as came
length_turn : {A : Type 0} (f : A → Pass Spot A) (xs : List A) (a : Analyzer Spot) → length (in_turn f xs a).0 ≡ length xs
unfolding in_turn S.◌>>=◌ S.ret
length_turn f [] a = refl
length_turn f (x ∷ xs) a = ap suc (length_turn f xs (f x a).1)

length_labels : (ds : List (Decl Spot)) (l : Labels Spot) → length (labels_decls ds l).0 ≡ length ds
unfolding labels_decls
length_labels [] l = refl
length_labels (d ∷ ds) l = ap suc (length_labels ds (labels_decl d l).1)

length_analyzed : (names : List (List ℕ)) (ds : List (Decl Spot)) → length (analyze names ds).0 ≡ length ds
unfolding analyze analyze_all S.◌>>=◌ label_references
length_analyzed names ds = length_turn (analyze_decl names) _ _ ∙ length_turn predeclare (label_references ds) begin ∙ length_labels ds _

-- the containers in the end are those that were predeclared
faces_end : (names : List (List ℕ)) (ds : List (Decl Spot)) → map face (analyze names ds).1.containment.containers ≡ map face (in_turn predeclare ds begin).1.containment.containers
unfolding analyze analyze_all S.◌>>=◌
faces_end names ds = (still_decls names (in_turn predeclare (label_references ds) begin).0 (in_turn predeclare (label_references ds) begin).1).takes.names.faces ∙ ap (λ (u : Analyzer Spot). map face u.containment.containers) (predeclared_same ds)

within_said : {w : Wrote} {o xs : List ℕ} {room : ℕ} → Said w o xs room → Within w o
within_said {w} {o} {xs} p = Ch.put_within (Ch.start (record { told = p.told ∙ ap (wrote_of (length xs)) (sym p.long); left = sym p.left }))

-- what is written in the end is the encoding of the answered tree
encoded : {s : List ℕ} {l : Layout} (t : LaidOut s l) → ((list_b bytes_b t.table ++ num_b l.count) ++ flat_map decl_b (analyze t.table t.decls).0) ++ flat_map num_b (map (depth_of (determine_container_depths (analyze t.table t.decls).1.containment.containers)) (analyze t.table t.decls).0) ≡ encode (answered_tree (tree_of t))
unfolding encode answered_tree postanalyzed list_b
encoded {s} {l} t =
    let ds = (analyze t.table t.decls).0 in
    let names = num_b (length t.table) ++ flat_map bytes_b t.table in
    let depths = flat_map num_b (map (depth_of (determine_container_depths (analyze t.table t.decls).1.containment.containers)) ds) in
    let n : l.count ≡ length ds = sym (length_analyzed t.table t.decls ∙ many_length read_decl l.count s _ t.read) in
    append_assoc (names ++ num_b l.count) (flat_map decl_b ds) depths ∙ append_assoc names (num_b l.count) (flat_map decl_b ds ++ depths) ∙ ap (λ (x : List ℕ). names ++ x) (sym (append_assoc (num_b l.count) (flat_map decl_b ds) depths) ∙ ap (λ (m : ℕ). (num_b m ++ flat_map decl_b ds) ++ depths) n)

module _ {s : List ℕ} {l : Layout} {o k w : List ℕ} where
  pub referenced : {w₁ w₃ w₄ o₁ o₂ o₃ o₄ k₃ : List ℕ} {b : Predeclared} {v x v₄ : Wrote} {st r : Walk} → PredeclaresAll s l w b w₁ → SaysNames s o v o₁ → Put v (num_b l.count) o₁ x o₂ → Started s l b x st → Walks s (many read_decl l.count) decls_walk st o₂ k w₁ r o₃ k₃ w₃
      → DeterminesIn r.script w₃ w₄ → length w₄ ≡ length w₃ → SaysDepths s r.script l r.wrote w₄ o₃ v₄ o₄ → References s l o k w (record { wrote = v₄; listed = r.listed }) o₄ k₃
  unfolding with_containers skip_list nothing
  referenced {w₁} {w₃} {w₄} {o₃ = o₃} {o₄} {k₃} {b} {v} {x} {v₄} {st} {r} pa sn pn g wk di same sd = record {
    does = λ i t p.
        let ds = t.decls in
        let out = list_b bytes_b t.table ++ num_b l.count in
        let a = first t out (length o) (length k) st.script in
        let said = said_put (said_put (said_none o) (sn.does i t)) pn in
        let i₀ = is_first t o k i p out pa g said in
        let cur : here st ≡ cursor l.first l.names nothing = cur_is g in
        let q : many read_decl l.count s (here st) ≡ got ds (cursor l.depths l.names t.counts) = ap (many read_decl l.count s) cur ∙ t.read in
        let did = (wk.does i a i₀).to ds _ q in
        let whole = wholly t i.short out (length o) (length k) st.script in
        let end = decls_walk ds a in
        let kept = walk_kept ds a in
        let stands = did.is.when whole.good in
        let cs = (analyze t.table ds).1.containment.containers in
        let deep = determine_container_depths cs in
        let faces = face_depths cs ∙ faces_end t.table ds in
        let held : Holds r.script.containers (containers_in w₃) (analyze t.table ds).1.containment = subst (λ (u : Analyzer Spot). Holds r.script.containers (containers_in w₃) u.containment) whole.st stands.tables.containers in
        let long = stands.tables.long in
        let held₄ = (di.does long).determines (analyze t.table ds).1.containment held in
        let put : Said r.wrote o₃ (out ++ flat_map decl_b (analyze t.table ds).0) (length o) = subst (λ (n : ℕ). Said r.wrote o₃ (out ++ flat_map decl_b (analyze t.table ds).0) n) kept.room (said_same whole.out stands.put) in
        let names : r.script.names ≡ l.names = ap (λ (z : Script). z.names) (stands.script ∙ kept.script) ∙ g.names in
        let depths = sd.does t names (omega (arith, long)) _ held₄ (rowed_whole ds deep faces) (within_said put) in
        let list : Said r.listed k₃ (words (skip_list (tree_of t))) (length k) = subst (λ (n : ℕ). Said r.listed k₃ (words (skip_list (tree_of t))) n) kept.slots (subst (λ (u : Analyzer Spot). Said r.listed k₃ (words (offsets u.prunings.skips)) end.rest.slots) whole.st stands.skip) in
        (said_same (ap (λ (n : List ℕ). (out ++ flat_map decl_b (analyze t.table ds).0) ++ flat_map num_b n) (sym (depths_whole t.table ds deep faces)) ∙ encoded t) (said_put put depths), list);
  }
    where
      cur_is : Started s l b x st → here st ≡ cursor l.first l.names (counts_of uncounted)
      cur_is g = λ z. cursor (g.at z) (g.names z) (counts_of (g.counts z))
