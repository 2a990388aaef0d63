-- What the promise of `analyze` means for whoever calls it: the theorems of specs/Meaning.
use Prim.Native.Nat.{ℕ, zero, suc}
use native.Mathlib.Omega.{arith}
use mathlib.Core.Bool.{Bool, true, false, ◌&&◌, not}
use mathlib.Core.Path.{◌≡◌, refl, sym, ap, subst, ◌∙◌}
use mathlib.Core.List.{List, [], ◌∷◌, ◌++◌, map, flat_map, map-append}
use mathlib.Core.Option.{some}
use lib.Dec.{ltb, leb}
use lib.ListN.{length, length-map, get_or, take, get_elem?}
use Rattle.std.specs.Prelude.{Result, Ok, Err}
use Rattle.penne.specs.Reader.{Cur, Got, got, refused}
use Rattle.penne.specs.Read.{decode, incoming}
use Rattle.penne.specs.Write.{encode}
use Rattle.penne.specs.Find.{is_in}
use Rattle.penne.specs.Labels.{Labels, labels_decl, labels_decls, labels_body, label_references}
use Rattle.penne.specs.Pruning.{offsets}
use Rattle.penne.specs.State as S'
use Rattle.penne.specs.Scopes.{Analyzer}
use Rattle.penne.specs.Variables.{in_turn, predeclare, analyze_decl, postanalyzed}
use Rattle.penne.specs.Tree.{Spot, Maybe, ok, err, Param, Body, Decl, constant, function, function_head, structure, import, bad_decl, Tree}
use Rattle.penne.specs.Scoper.{Answer, answer, refusal, analyze, answered_tree, skip_list, answer_to, words, if_room, scoped_answer, padded, outcome, scoped, Outcome}
use Rattle.penne.specs.Walks.{body_acts, names_at, premise, function_names, is_body, is_kept, parts as parts_in, parts_of, NamesSkipped}
use Rattle.penne.specs.Order.{Rising}
use Rattle.penne.proofs.Demand3.{demand3}
use Rattle.penne.proofs.InOrder.{in_tree_order}
use Rattle.penne.proofs.Incoming.{same_functions, promised}
use Rattle.penne.proofs.IdsGiven.{ids_few, ids_given as counted_ids}
use Rattle.penne.proofs.PlaceRule.{place_rule}
use Rattle.scoper.specs.declared.Scoped.{Scoped}
use Rattle.fields.specs.declared.refusal.Refusal.{Refusal}
use Rattle.fields.specs.Answers.{row_of}
use Rattle.scoper.specs.Scoping.{outcome_of, scoped_by}
use Rattle.scoper.specs.Meaning.{Call, answer_of, Answered, Answers, RefusedBy, Refusals, Kept, InFunction, SkipLists, IdsGiven, tells, PlacesDoNotMatter}
use Rattle.scoper.proofs.Unique.{list_is}

-- THE ANSWER IS A SCRIPT'S

record AnswerOf (s x : List ℕ) (rs : List (ℕ × ℕ)) : Type 0 where
  script : Tree Spot
  behind : Cur
  came : decode incoming s ≡ got script behind
  tree : x ≡ encode (answered_tree script)
  list : rs ≡ skip_list script

-- rows 11 and 12 change no answer
room_kept : (m n : ℕ) (a : Answer) {x : List ℕ} {rs : List (ℕ × ℕ)} → if_room m n a ≡ answer x rs → a ≡ answer x rs
unfolding if_room
room_kept m n (refusal k p) e = e
room_kept m n (answer t ts) {x} {rs} e = go (leb (length t) m) (leb (length (words ts)) n) e
  where
    go : (b c : Bool) → ◌≡◌ {A = Answer} (elim b [ false ↦ refusal 11 0 | true ↦ elim c [ false ↦ refusal 12 0 | true ↦ answer t ts ] ]) (answer x rs) → answer t ts ≡ answer x rs
    go true true e = e
    go true false e = absurd (let z : ◌≡◌ {A = ℕ} 0 1 = cc in omega arith)
    go false c e = absurd (let z : ◌≡◌ {A = ℕ} 0 1 = cc in omega arith)

answer_to_lem : (s : List ℕ) (q : Got (Tree Spot)) {x : List ℕ} {rs : List (ℕ × ℕ)} → decode incoming s ≡ q → answer_to q ≡ answer x rs → AnswerOf s x rs
unfolding answer_to
answer_to_lem s (got t c) e f = record { script = t; behind = c; came = e; tree = cc; list = cc }
answer_to_lem s (refused k p) e f = absurd (let z : ◌≡◌ {A = ℕ} 0 1 = cc in omega arith)

-- nor do rows 1 and 2
answer_of_lem : (s : List ℕ) (m n w : ℕ) {x : List ℕ} {rs : List (ℕ × ℕ)} → scoped_answer s m n w ≡ answer x rs → AnswerOf s x rs
unfolding scoped_answer
answer_of_lem s m n w {x} {rs} e = go (ltb 65535 (length s)) (ltb w 16384) e
  where
    go : (b c : Bool) → ◌≡◌ {A = Answer} (elim b [ true ↦ refusal 1 0 | false ↦ elim c [ true ↦ refusal 2 0 | false ↦ if_room m n (answer_to (decode incoming s)) ] ]) (answer x rs) → AnswerOf s x rs
    go true c e = absurd (let z : ◌≡◌ {A = ℕ} 0 1 = cc in omega arith)
    go false true e = absurd (let z : ◌≡◌ {A = ℕ} 0 1 = cc in omega arith)
    go false false e = answer_to_lem s (decode incoming s) refl (room_kept m n (answer_to (decode incoming s)) e)

-- THE BUFFERS

module _ (c : Call) where
  answered : {bytes records : ℕ} (a : Answer) → scoped_answer c.tree (length c.answer) (length c.list) (length c.work) ≡ a → Ok (record { length = bytes; records = records }) ≡ scoped_by a → outcome_of (Ok (record { length = bytes; records = records })) c.answer' c.list' c.work' ≡ outcome (length c.answer) (length c.list) (length c.work) a → Answered c bytes records
  unfolding scoped_by outcome outcome_of
  answered (refusal k p) e f g = absurd (let z : ◌≡◌ {A = ℕ} 0 1 = cc in omega arith)
  answered {bytes} {records} (answer x rs) e f g =
      let a = answer_of_lem c.tree (length c.answer) (length c.list) (length c.work) e in
      let s : ◌≡◌ {A = Scoped} (record { length = bytes; records = records }) (record { length = length x; records = length rs }) = cc in
      let b : bytes ≡ length x = ap (λ (u : Scoped). u.length) s in
      let k : records ≡ length rs = ap (λ (u : Scoped). u.records) s in
      record {
        script = a.script;
        behind = a.behind;
        came = a.came;
        by = e ∙ (λ t. answer (a.tree t) (a.list t));
        bytes_are = b ∙ ap length a.tree;
        records_are = k ∙ ap length a.list;
        answer_is = ap (λ (q : Outcome). q.tree) g ∙ ap (padded (length c.answer)) a.tree;
        list_is = ap (λ (q : Outcome). q.list) g ∙ ap (λ (y : List (ℕ × ℕ)). padded (length c.list) (words y)) a.list;
        work_is = ap (λ (q : Outcome). q.work) g;
      }

  zeroed : {x : Refusal} (a : Answer) → answer_of c ≡ a → Err x ≡ scoped_by a → outcome_of (Err x) c.answer' c.list' c.work' ≡ outcome (length c.answer) (length c.list) (length c.work) a → RefusedBy c (row_of x.reason) x.place
  unfolding scoped_by outcome outcome_of
  zeroed (answer x rs) e f g = absurd (let z : ◌≡◌ {A = ℕ} 0 1 = cc in omega arith)
  zeroed (refusal k p) e f g = record { by = e ∙ sym (λ i. refusal (g i).refusal (g i).place); answer_is = ap (λ (q : Outcome). q.tree) g; list_is = ap (λ (q : Outcome). q.list) g; work_is = ap (λ (q : Outcome). q.work) g }

pub answers : Answers
unfolding scoped
answers c bytes records e = answered c _ refl (sym e ∙ c.meets.told) (ap (λ (r : Result Scoped Refusal). outcome_of r c.answer' c.list' c.work') (sym e) ∙ c.meets.outcome)

pub refusals : Refusals
unfolding scoped
refusals c x e = zeroed c _ refl (sym e ∙ c.meets.told) (ap (λ (r : Result Scoped Refusal). outcome_of r c.answer' c.list' c.work') (sym e) ∙ c.meets.outcome)

-- THE PARTS OF THE LIST

-- a list of lists, each changed in its place
parts_map : {A B : Type 0} (f : A → B) (xs : List (List A)) → map f (flat_map (λ x. x) xs) ≡ flat_map (λ x. x) (map (map f) xs)
unfolding flat_map
parts_map f [] = refl
parts_map f (x ∷ xs) = map-append f x (flat_map (λ x. x) xs) ∙ ap (λ (y : List _). map f x ++ y) (parts_map f xs)

part_map : {A B : Type 0} (f : A → B) (xs : List (List A)) (k : ℕ) → get_or (map (map f) xs) k [] ≡ map f (get_or xs k [])
part_map f [] k = refl
part_map f (x ∷ xs) zero = refl
part_map f (x ∷ xs) (suc k) = part_map f xs k

-- whether a declaration is a kept function with a body is the same after the first pass
same_body : (b : Maybe Spot (Body Spot)) (l : Labels Spot) → is_body (labels_body b l).0 ≡ is_body b
unfolding labels_body is_body
same_body (ok b) l = refl
same_body (err z) l = refl

same_kept : (e : List ℕ) (d : Decl Spot) (l : Labels Spot) → is_kept e (labels_decl d l).0 ≡ is_kept e d
unfolding labels_decl is_kept
same_kept e (constant f p q i x t) l = refl
same_kept e (function f p q i ps b t) l = ap (λ (y : Bool). not (is_in i.name e) && y) (same_body b l)
same_kept e (function_head f p q i ps t) l = refl
same_kept e (structure f p i ms t) l = refl
same_kept e (import b p) l = refl
same_kept e (bad_decl z) l = refl

-- the k-th declaration after the first pass
record Labelled (ds' : List (Decl Spot)) (k : ℕ) (d : Decl Spot) : Type 0 where
  after : Decl Spot
  is : get_elem? ds' k ≡ some after
  kept : (e : List ℕ) → is_kept e after ≡ is_kept e d

labelled_at : (ds : List (Decl Spot)) (l : Labels Spot) (k : ℕ) (d : Decl Spot) → get_elem? ds k ≡ some d → Labelled (labels_decls ds l).0 k d
unfolding labels_decls
labelled_at [] l k d h = absurd (let z : ◌≡◌ {A = ℕ} 0 1 = cc in omega arith)
labelled_at (x ∷ ds) l zero d h =
    let z : x ≡ d = cc in
    record { after = (labels_decl x l).0; is = refl; kept = λ e. same_kept e x l ∙ ap (is_kept e) z }
labelled_at (x ∷ ds) l (suc k) d h = let r = labelled_at ds (labels_decl x l).1 k d h in record { after = r.after; is = r.is; kept = r.kept }

-- neither pass changes how many declarations there are
long_labelled : (ds : List (Decl Spot)) (l : Labels Spot) → length (labels_decls ds l).0 ≡ length ds
unfolding labels_decls
long_labelled [] l = refl
long_labelled (d ∷ ds) l = ap suc (long_labelled ds (labels_decl d l).1)

long_predeclared : (ds : List (Decl Spot)) (a : Analyzer Spot) → length (in_turn predeclare ds a).0 ≡ length ds
unfolding in_turn S'.◌>>=◌ S'.ret
long_predeclared [] a = refl
long_predeclared (d ∷ ds) a = ap suc (long_predeclared ds (predeclare d a).1)

long_passed : (names : List (List ℕ)) (ds : List (Decl Spot)) (a : Analyzer Spot) → length (parts_in names ds a) ≡ length ds
unfolding parts_in
long_passed names [] a = refl
long_passed names (d ∷ ds) a = ap suc (long_passed names ds (analyze_decl names d a).1)

module _ (script : Tree Spot) where
  -- the records that each declaration adds to the list
  parts : List (List (ℕ × ℕ))
  parts = map offsets (parts_of script.names (label_references script.decls))

  part_at : (k : ℕ) → get_or parts k [] ≡ offsets (get_or (parts_of script.names (label_references script.decls)) k [])
  unfolding offsets parts
  part_at k = part_map (λ r. (r.0.from, r.1.from)) (parts_of script.names (label_references script.decls)) k

  whole_list : skip_list script ≡ flat_map (λ part. part) parts
  unfolding skip_list analyze offsets parts parts_of
  whole_list = ap (map (λ r. (r.0.from, r.1.from))) (demand3 script.names script.decls).whole ∙ parts_map _ _

  -- one for each declaration
  long_parts : length parts ≡ length script.decls
  unfolding parts parts_of label_references
  long_parts = length-map (parts_of script.names (label_references script.decls)) offsets ∙ long_passed script.names _ _ ∙ long_predeclared (label_references script.decls) _ ∙ long_labelled script.decls _

  nothing_else : (k : ℕ) (d : Decl Spot) → get_elem? script.decls k ≡ some d → is_kept (flat_map function_names (take k script.decls)) d ≡ false → get_or parts k [] ≡ []
  unfolding label_references offsets
  nothing_else k d h e =
      let r = labelled_at script.decls (record { label_stack = []; resolution_id = 1 }) k d h in
      let f = ap (λ (fs : List ℕ). is_kept fs r.after) (same_functions script.decls k (record { label_stack = []; resolution_id = 1 })) ∙ r.kept _ ∙ e in
      part_at k ∙ ap offsets ((demand3 script.names script.decls).nothing_else k r.after r.is f)

  in_function : (k : ℕ) (ps : List (Param Spot)) (b : Body Spot) → Kept script.decls k ps b → premise b.statements ≡ true → InFunction script k ps (get_or parts k [])
  unfolding answered_tree analyze postanalyzed
  in_function k ps b h e =
      let f = h.at in
      let r = promised script.names script.decls k f.flags f.place_of_declaration f.place_of_return_type f.identifier ps b f.type f.is h.first e in
      let a = r.agrees in
      record {
        resolved = r.body;
        passed = record { flags = f.flags; place_of_declaration = f.place_of_declaration; place_of_return_type = f.place_of_return_type; identifier = f.identifier; type = f.type; is = r.passed };
        listed = subst (λ (rs : List (ℕ × ℕ)). NamesSkipped (body_acts r.body (names_at (label_references script.decls) ps)) rs) (sym (part_at k)) r.listed;
        parameters = a.parameters;
        body = a.body;
        answered = record { flags = a.flags; place_of_declaration = a.place_of_declaration; place_of_return_type = a.place_of_return_type; identifier = a.identifier; type = a.type; is = a.answers };
        agrees = a.agrees;
      }

pub skip_lists : SkipLists
skip_lists c bytes records a = record {
  parts = parts a.script;
  long = long_parts a.script;
  records = whole_list a.script;
  whole = a.list_is ∙ ap (λ (rs : List (ℕ × ℕ)). padded (length c.list) (words rs)) (whole_list a.script);
  ordered = subst (λ (rs : List (ℕ × ℕ)). Rising 0 (length c.tree) (map (λ r. r.0) rs)) (whole_list a.script) (in_tree_order c.tree a.script a.behind a.came);
  functions = in_function a.script;
  others = nothing_else a.script;
}

-- IDS

pub ids_given : IdsGiven
unfolding answered_tree postanalyzed
ids_given c bytes records a = record { counted = counted_ids a.script.names a.script.decls; few = ids_few c.tree a.came }

-- PLACES

-- what is told, read off all that is left
pub tells_is : (r : Result Scoped Refusal) (o l w : List ℕ) {q : Outcome} → outcome_of r o l w ≡ q → tells r ≡ (q.refusal, q.place, q.tree_length, q.records)
unfolding tells outcome_of
tells_is (Ok s) o l w e = ap (λ (q : Outcome). (q.refusal, q.place, q.tree_length, q.records)) e
tells_is (Err x) o l w e = ap (λ (q : Outcome). (q.refusal, q.place, q.tree_length, q.records)) e

pub places_do_not_matter : PlacesDoNotMatter
places_do_not_matter c d l h =
    let p = place_rule c.tree d.tree h (length c.answer) (length c.list) (length c.work) in
    let lent : scoped d.tree (length d.answer) (length d.list) (length d.work) ≡ scoped d.tree (length c.answer) (length c.list) (length c.work) = rw (l.answer, l.list, l.work) refl in
    let q = d.meets.outcome ∙ lent in
    record {
      told = tells_is c.told c.answer' c.list' c.work' c.meets.outcome ∙ (λ i. (p.refusal i, p.place i, p.tree_length i, p.records i)) ∙ sym (tells_is d.told d.answer' d.list' d.work' q);
      list = sym (list_is c.told c.answer' c.list' c.work') ∙ ap (λ (x : Outcome). x.list) c.meets.outcome ∙ p.list ∙ sym (ap (λ (x : Outcome). x.list) q) ∙ list_is d.told d.answer' d.list' d.work';
      answers = p.answers;
    }
