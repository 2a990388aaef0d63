-- The ways through opening, declaring, finding and closing.
use mathlib.Core.Path.{◌≡◌, refl, sym, ap, subst, ◌∙◌}
use mathlib.Core.List.{List, [], ◌∷◌, ◌++◌}
use mathlib.Core.Option.{some}
use Prim.Native.Nat.{ℕ, suc, ◌+◌, ◌-◌, ◌%◌, ◌≤◌, ◌<◌}
use native.Mathlib.Decide.{ℕ_discrete}
use native.Mathlib.Omega.{arith}
use lib.ListN.{length, get_or, set, take, length-append, length-take}
use lib.Seq.{take_all, length-take-le}
use Rattle.std.specs.Prelude.{Some, None}
use Rattle.penne.specs.Tree.{Spot, Ident}
use Rattle.penne.specs.Find.{first, first_named, is_in}
use Rattle.penne.specs.Pruning.{Prunings, no_prunings, fate, fate_by}
use Rattle.scopes.specs.declared.scope.Scope.{Scope}
use Rattle.scopes.specs.declared.scope.Local.{Local}
use Rattle.scopes.specs.Table.{rows, words, local_name, local_place, local_from, local_id, local_fate, heads, cell, Nth, Stands, entry, head_of, Heads, unnoted, unresolved, Holds, Keeps}
use Rattle.scopes.specs.Calls.{Begins, Opens, Closes, Declares, Finds, nothing, found, Searches, LocalAt, Enters, Leads, Vacates}
use Rattle.scopes.proofs.Lists.{nth_low, nth_last, nth_is, take_more}
use Rattle.scopes.proofs.Words.{Puts, puts}
use Rattle.scopes.proofs.Heading.{head_none, head_some, head_low, none_named, behind_no, behind_yes, behind_there}
use Rattle.scopes.proofs.Holding.{entry_kept, fate_kept, entries_kept, fates_kept, notes_kept, entries_snoc, known_snoc, fates_snoc, notes_snoc, fresh_more, entries_front, known_front, fates_front, notes_front}

-- OPENING

pub begun : Begins (record { count = 0; layer = 0 })
unfolding head_of fate fate_by unresolved no_prunings first is_in
begun = record {
  holds = λ {w} next b h. record {
    counted = refl;
    few = omega arith;
    begins = refl;
    long = b.long;
    some_id = h;
    entries = record { at = λ {k} {i} n. absurd (omega (arith, nth_low n)) };
    head = record { at = λ n l. b.headless n l };
    known = record { names = λ {k} {i} n. absurd (omega (arith, nth_low n)); ids = λ {k} {i} n. absurd (omega (arith, nth_low n)); apart = λ {k} {m} {i} {j} n. absurd (omega (arith, nth_low n)) };
    fates = record { at = λ {k} {i} n. absurd (omega (arith, nth_low n)) };
    fresh = record { at = λ x l. refl };
    notes = record { at = λ row l. unnoted (b.noteless row l) };
  };
}

-- a scope's count and layer are all that differs
pub recounted : {s r : Scope} {w : List ℕ} {ls : List (Ident Spot)} {layer layer' : ℕ} {p : Prunings Spot} {next : ℕ} → Holds s w ls layer p next → r.count ≡ length ls → r.layer ≡ layer' → Holds r w ls layer' p next
recounted h e q = record {
  counted = e;
  few = h.few;
  begins = q;
  long = h.long;
  some_id = h.some_id;
  entries = h.entries;
  head = h.head;
  known = h.known;
  fates = h.fates;
  fresh = h.fresh;
  notes = h.notes;
}

pub opened : {s : Scope} → Opens s (record { count = s.count; layer = s.count })
opened = record { holds = λ h. recounted h h.counted h.counted }

-- FINDING

module _ {s : Scope} {w : List ℕ} {n : ℕ} where
  pub find_high : rows ≤ n → Searches s w n None
  find_high l = record { finds = λ {ls} h. nothing (none_named n ls (λ k i at e. omega (arith, h.known.names at))) }

  pub find_none : {head : ℕ} → n < rows → head ≡ get_or w (heads + n) 0 → head ≡ 0 → Searches s w n None
  find_none l e z = record { finds = λ {ls} h. nothing (head_none n ls (sym (h.head.at n l) ∙ sym e ∙ z)) }

  pub find_at : {head : ℕ} → n < rows → head ≡ get_or w (heads + n) 0 → (head ≡ 0 → ⊥) → Searches s w n (Some (head - 1))
  find_at {head} l e z = record { finds = λ {ls} h. go ls (head_some n ls (head - 1) (sym (h.head.at n l) ∙ sym e ∙ omega arith)) }
    where
      go : (ls : List (Ident Spot)) → (i : Ident Spot) × Nth (head - 1) i ls × (first_named n ls ≡ some i) → Finds n ls (Some (head - 1))
      go ls (i, at, e) = found at e

pub read_past : {w : List ℕ} {k : ℕ} {r : Local} → rows ≤ k → LocalAt w k r
read_past l = record { stands = λ h n. absurd (omega (arith, h.few, nth_low n)) }

pub read_at : {w : List ℕ} {k a b c d : ℕ} → a ≡ cell w local_name k → b ≡ cell w local_place k → c ≡ cell w local_from k → d ≡ cell w local_id k
    → LocalAt w k (record { name = a; place = b; from = c; id = d })
read_at a b c d = record { stands = λ h n. let x = h.entries.at n in record { name = a ∙ x.name; place = b ∙ x.place; from = c ∙ x.from; id = d ∙ x.id } }

-- DECLARING

pub enter_past : {k : ℕ} {l : Local} {w : List ℕ} → rows ≤ k → Enters k l w w
enter_past h = record { long = refl; there = λ z e. absurd (omega arith); fate = λ z e. absurd (omega arith); others = λ j d. refl; below = λ j d. refl; above = λ j d. refl }

-- five words stored, one after another
module _ {k : ℕ} {l : Local} {w a b c d w' : List ℕ} (low : k < rows)
    (pa : Puts (local_name + k) l.name w a) (pb : Puts (local_place + k) l.place a b) (pc : Puts (local_from + k) l.from b c) (pd : Puts (local_id + k) l.id c d) (pe : Puts (local_fate + k) 0 d w') where
  other : (j : ℕ) → (j ≡ local_name + k → ⊥) → (j ≡ local_place + k → ⊥) → (j ≡ local_from + k → ⊥) → (j ≡ local_id + k → ⊥) → (j ≡ local_fate + k → ⊥) → get_or w' j 0 ≡ get_or w j 0
  other j na nb nc nd ne = pe.others j ne ∙ pd.others j nd ∙ pc.others j nc ∙ pb.others j nb ∙ pa.others j na

  name_is : length w ≡ words → cell w' local_name k ≡ l.name
  name_is h = pe.others _ (omega arith) ∙ pd.others _ (omega arith) ∙ pc.others _ (omega arith) ∙ pb.others _ (omega arith) ∙ pa.there (omega arith)

  place_is : length w ≡ words → cell w' local_place k ≡ l.place
  place_is h = pe.others _ (omega arith) ∙ pd.others _ (omega arith) ∙ pc.others _ (omega arith) ∙ pb.there (omega (arith, pa.long))

  from_is : length w ≡ words → cell w' local_from k ≡ l.from
  from_is h = pe.others _ (omega arith) ∙ pd.others _ (omega arith) ∙ pc.there (omega (arith, pa.long, pb.long))

  id_is : length w ≡ words → cell w' local_id k ≡ l.id
  id_is h = pe.others _ (omega arith) ∙ pd.there (omega (arith, pa.long, pb.long, pc.long))

  fate_is : length w ≡ words → cell w' local_fate k ≡ 0
  fate_is h = pe.there (omega (arith, pa.long, pb.long, pc.long, pd.long))

  all_entered : Enters k l w w'
  all_entered = record {
    long = pe.long ∙ pd.long ∙ pc.long ∙ pb.long ∙ pa.long;
    there = λ z h. λ i. record { name = name_is h i; place = place_is h i; from = from_is h i; id = id_is h i };
    fate = λ z h. fate_is h;
    others = λ j n. other j (λ z. n (omega arith)) (λ z. n (omega arith)) (λ z. n (omega arith)) (λ z. n (omega arith)) (λ z. n (omega arith));
    below = λ j n. other j (omega arith) (omega arith) (omega arith) (omega arith) (omega arith);
    above = λ j n. other j (omega arith) (omega arith) (omega arith) (omega arith) (omega arith);
  }

pub entered : {k : ℕ} {l : Local} {w a b c d w' : List ℕ} → k < rows → a ≡ set w (local_name + k) l.name → b ≡ set a (local_place + k) l.place → c ≡ set b (local_from + k) l.from
    → d ≡ set c (local_id + k) l.id → w' ≡ set d (local_fate + k) 0 → Enters k l w w'
entered low ea eb ec ed ee = all_entered low (puts ea) (puts eb) (puts ec) (puts ed) (puts ee)

module _ {k n : ℕ} {w : List ℕ} where
  pub lead_past : rows ≤ k → Leads k n w w
  lead_past h = record { long = refl; first = λ z. absurd (omega arith); later = λ z. refl; others = λ j z. refl }

  pub lead_high : rows ≤ n → Leads k n w w
  lead_high h = record { long = refl; first = λ z l. absurd (omega arith); later = λ z. refl; others = λ j z. refl }

  pub lead_later : {head : ℕ} → head ≡ get_or w (heads + n) 0 → (head ≡ 0 → ⊥) → Leads k n w w
  lead_later e d = record { long = refl; first = λ z l q o. absurd (d (e ∙ o)); later = λ z. refl; others = λ j z. refl }

  pub lead_first : {w' : List ℕ} {head : ℕ} → head ≡ get_or w (heads + n) 0 → head ≡ 0 → w' ≡ set w (heads + n) (k + 1) → Leads k n w w'
  lead_first {w'} e z q =
      let put : Puts (heads + n) (k + 1) w w' = puts q in
      record { long = put.long; first = λ l h o _. put.there (omega arith); later = λ d. absurd (d (sym e ∙ z)); others = put.others }

-- a call that changes no local and no label
pub kept_all : {w : List ℕ} → Keeps w w
kept_all = record { long = refl; labels = λ j h. refl }

pub declare_full : {s : Scope} {l : Local} {w : List ℕ} → rows ≤ s.count → Declares s l w s w
declare_full h = record { kept = kept_all; holds = λ x room. absurd (omega (arith, x.counted)) }

module _ {k : ℕ} {l : Local} {w w₁ w' : List ℕ} (ent : Enters k l w w₁) (led : Leads k l.name w₁ w') where
  -- a word that neither changes
  same : (j : ℕ) → (j ≡ heads + l.name → ⊥) → (j % rows ≡ k → ⊥) → get_or w' j 0 ≡ get_or w j 0
  same j a b = led.others j a ∙ ent.others j b

  low_same : (j : ℕ) → j < local_name → get_or w' j 0 ≡ get_or w j 0
  low_same j h = led.others j (omega arith) ∙ ent.below j h

  -- the head of each name
  heads_more : {ls : List (Ident Spot)} (i : Ident Spot) → length ls ≡ k → k < rows → length w ≡ words → l.name ≡ i.name → i.name < rows → Heads w ls → Heads w' (ls ++ (i ∷ []))
  heads_more {ls} i c low long e nm hs = record { at = λ n h. go n h (ℕ_discrete l.name n) }
    where
      was : (n : ℕ) → n < rows → cell w₁ heads n ≡ head_of n ls
      was n h = ent.above (heads + n) (omega arith) ∙ hs.at n h

      own : Dec (head_of l.name ls ≡ 0) → cell w' heads l.name ≡ head_of l.name (ls ++ (i ∷ []))
      own (yes z) = led.first low (omega arith) (ent.long ∙ long) (was l.name (omega arith) ∙ z) ∙ sym (behind_yes l.name ls i z (sym e) ∙ ap (λ (m : ℕ). m + 1) c)
      own (no z) = led.later (λ q. z (sym (was l.name (omega arith)) ∙ q)) ∙ was l.name (omega arith) ∙ sym (behind_there l.name ls i z)

      go : (n : ℕ) → n < rows → Dec (l.name ≡ n) → cell w' heads n ≡ head_of n (ls ++ (i ∷ []))
      go n h (yes q) = subst (λ (m : ℕ). cell w' heads m ≡ head_of m (ls ++ (i ∷ []))) q (own (ℕ_discrete (head_of l.name ls) 0))
      go n h (no q) = led.others (heads + n) (λ z. q (omega arith)) ∙ was n h ∙ sym (behind_no n ls i (λ z. q (e ∙ z)))

  stands_last : {i : Ident Spot} → k < rows → length w ≡ words → Stands l i → Stands (entry w' k) i
  stands_last low long st =
      let here : entry w' k ≡ l = entry_kept w₁ w' k (led.others _ (omega arith)) (led.others _ (omega arith)) (led.others _ (omega arith)) (led.others _ (omega arith)) ∙ ent.there low long in
      rw here st

  declared_holds : {s : Scope} {ls : List (Ident Spot)} {layer : ℕ} {p : Prunings Spot} {next : ℕ} {i : Ident Spot} → s.count ≡ k → Holds s w ls layer p next → length ls < rows
      → Stands l i → i.name < rows → i.id ≡ next → Holds (record { count = k + 1; layer = s.layer }) w' (ls ++ (i ∷ [])) layer p (next + 1)
  declared_holds {s} {ls} {layer} {p} {next} {i} q h room st nm id =
      let c : length ls ≡ k = sym h.counted ∙ q in
      let more = length-append ls (i ∷ []) in
      record {
        counted = omega arith;
        few = omega arith;
        begins = h.begins;
        long = led.long ∙ ent.long ∙ h.long;
        some_id = omega arith;
        entries = entries_snoc ls i (entries_kept (λ m z. entry_kept w w' m (same _ (omega arith) (omega arith)) (same _ (omega arith) (omega arith)) (same _ (omega arith) (omega arith)) (same _ (omega arith) (omega arith))) h.entries) (rw c (stands_last (omega arith) h.long st));
        head = heads_more i c (omega arith) h.long st.name nm h.head;
        known = known_snoc ls i h.known nm id;
        fates = fates_snoc ls i (fates_kept (λ j z. low_same j (omega arith)) (λ m z. fate_kept w w' m (same _ (omega arith) (omega arith)) (same _ (omega arith) (omega arith))) h.fates)
            (rw c (led.others (local_fate + k) (omega arith) ∙ ent.fate (omega arith) h.long)) (h.fresh.at i.id (omega arith));
        fresh = fresh_more h.fresh;
        notes = notes_snoc ls i id (notes_kept (λ row z. low_same _ (omega arith)) (λ row z. low_same _ (omega arith)) h.notes);
      }

pub declared : {s : Scope} {l : Local} {w w₁ w' : List ℕ} → Enters s.count l w w₁ → Leads s.count l.name w₁ w' → Declares s l w (record { count = s.count + 1; layer = s.layer }) w'
declared ent led = record {
  kept = record { long = led.long ∙ ent.long; labels = λ j h. led.others j (omega arith) ∙ ent.below j (omega arith) };
  holds = λ h room st nm id. declared_holds ent led refl h room st nm id;
}

-- CLOSING

module _ {k n : ℕ} {w w' : List ℕ} (long : length w' ≡ length w) (others : (j : ℕ) → (j ≡ heads + n → ⊥) → get_or w' j 0 ≡ get_or w j 0) (low : n < rows) (is : n ≡ cell w local_name k)
    (own : (ls : List (Ident Spot)) (i : Ident Spot) → i.name ≡ n → length ls ≡ k → Heads w (ls ++ (i ∷ [])) → cell w' heads n ≡ head_of n ls) where
  heads_less : (ls : List (Ident Spot)) (i : Ident Spot) → i.name ≡ n → length ls ≡ k → Heads w (ls ++ (i ∷ [])) → Heads w' ls
  heads_less ls i e c hs = record { at = λ m h. go m h (ℕ_discrete n m) }
    where
      go : (m : ℕ) → m < rows → Dec (n ≡ m) → cell w' heads m ≡ head_of m ls
      go m h (yes q) = subst (λ (x : ℕ). cell w' heads x ≡ head_of x ls) q (own ls i e c hs)
      go m h (no q) = others (heads + m) (λ z. q (omega arith)) ∙ hs.at m h ∙ behind_no m ls i (λ z. q (sym e ∙ z))

  vacated_holds : {s : Scope} (ls : List (Ident Spot)) (i : Ident Spot) {layer : ℕ} {p : Prunings Spot} {next : ℕ} → Holds s w (ls ++ (i ∷ [])) layer p next → length ls ≡ k
      → Holds (record { count = k; layer = s.layer }) w' ls layer p next
  vacated_holds ls i h c =
      let more = length-append ls (i ∷ []) in
      let few = h.few in
      let named : n ≡ i.name = is ∙ ap (cell w local_name) (sym c) ∙ (h.entries.at (nth_last ls i)).name in
      record {
        counted = sym c;
        few = omega arith;
        begins = h.begins;
        long = long ∙ h.long;
        some_id = h.some_id;
        entries = entries_kept (λ m z. entry_kept w w' m (others _ (omega arith)) (others _ (omega arith)) (others _ (omega arith)) (others _ (omega arith))) (entries_front ls i h.entries);
        head = heads_less ls i (sym named) c h.head;
        known = known_front ls i h.known;
        fates = fates_kept (λ j z. others j (omega arith)) (λ m z. fate_kept w w' m (others _ (omega arith)) (others _ (omega arith))) (fates_front ls i h.fates);
        fresh = h.fresh;
        notes = notes_kept (λ row z. others _ (omega arith)) (λ row z. others _ (omega arith)) (notes_front ls i h.notes);
      }

  vacated : Vacates k w w'
  vacated = record { kept = record { long = long; labels = λ j z. others j (omega arith) }; holds = vacated_holds }

-- the last local's row, and its name
last_low : {s : Scope} {w : List ℕ} (ls : List (Ident Spot)) (i : Ident Spot) {layer : ℕ} {p : Prunings Spot} {next : ℕ} → Holds s w (ls ++ (i ∷ [])) layer p next → length ls < rows
last_low ls i h = omega (arith, h.few, length-append ls (i ∷ []))

last_named : {s : Scope} {w : List ℕ} (ls : List (Ident Spot)) (i : Ident Spot) {layer : ℕ} {p : Prunings Spot} {next : ℕ} → Holds s w (ls ++ (i ∷ [])) layer p next → cell w local_name (length ls) < rows
last_named ls i h = omega (arith, h.known.names (nth_last ls i), (h.entries.at (nth_last ls i)).name)

module _ {k : ℕ} {w : List ℕ} where
  pub vacate_past : rows ≤ k → Vacates k w w
  vacate_past z = record { kept = kept_all; holds = λ ls i h c. absurd (omega (arith, last_low ls i h)) }

  pub vacate_high : {n : ℕ} → n ≡ get_or w (local_name + k) 0 → rows ≤ n → Vacates k w w
  vacate_high e z = record { kept = kept_all; holds = λ ls i h c. absurd (let l : cell w local_name k < rows = rw (sym c) (last_named ls i h) in omega arith) }

  pub vacate_head : {n head : ℕ} {w' : List ℕ} → n ≡ get_or w (local_name + k) 0 → n < rows → head ≡ get_or w (heads + n) 0 → head ≡ k + 1 → w' ≡ set w (heads + n) 0 → Vacates k w w'
  vacate_head {n} {head} {w'} e low was is q = record { kept = record { long = put.long; labels = λ j z. put.others j (omega arith) }; holds = λ ls i h c. vacated_holds put.long put.others low e (own h.long) ls i h c }
    where
      put : Puts (heads + n) 0 w w'
      put = puts q

      own : length w ≡ words → (ls : List (Ident Spot)) (i : Ident Spot) → i.name ≡ n → length ls ≡ k → Heads w (ls ++ (i ∷ [])) → cell w' heads n ≡ head_of n ls
      own long ls i z c hs = go (ℕ_discrete (head_of n ls) 0)
        where
          go : Dec (head_of n ls ≡ 0) → cell w' heads n ≡ head_of n ls
          go (yes o) = put.there (omega arith) ∙ sym o
          go (no o) = absurd (omega (arith, hs.at n low, behind_there n ls i o, head_low n ls))

  pub vacate_other : {n head : ℕ} → n ≡ get_or w (local_name + k) 0 → n < rows → head ≡ get_or w (heads + n) 0 → (head ≡ k + 1 → ⊥) → Vacates k w w
  vacate_other {n} {head} e low was d = vacated refl (λ j z. refl) low e own
    where
      own : (ls : List (Ident Spot)) (i : Ident Spot) → i.name ≡ n → length ls ≡ k → Heads w (ls ++ (i ∷ [])) → cell w heads n ≡ head_of n ls
      own ls i z c hs = go (ℕ_discrete (head_of n ls) 0)
        where
          go : Dec (head_of n ls ≡ 0) → cell w heads n ≡ head_of n ls
          go (yes o) = absurd (d (was ∙ hs.at n low ∙ behind_yes n ls i o z ∙ ap (λ (m : ℕ). m + 1) c))
          go (no o) = hs.at n low ∙ behind_there n ls i o

-- the loop: the first k locals are left
pub record Closing (kept k₀ : ℕ) (w₀ w : List ℕ) (k : ℕ) : Type 0 where
  pub over : kept ≤ k₀ → kept ≤ k
  pub keeps : Keeps w₀ w
  pub holds : {s : Scope} {ls : List (Ident Spot)} {layer : ℕ} {p : Prunings Spot} {next : ℕ} → s.count ≡ k₀ → Holds s w₀ ls layer p next → Holds (record { count = k; layer = s.layer }) w (take k ls) layer p next

pub closing_start : {kept k : ℕ} {w : List ℕ} → Closing kept k w w k
closing_start {k = k} = record {
  over = λ h. h;
  keeps = kept_all;
  holds = λ {s} {ls} e h.
      let all : take k ls ≡ ls = take_all k ls (omega (arith, h.counted)) in
      rw all (recounted h (sym e ∙ h.counted) h.begins);
}

pub keeps_on : {w w₁ w' : List ℕ} → Keeps w w₁ → Keeps w₁ w' → Keeps w w'
keeps_on a b = record { long = b.long ∙ a.long; labels = λ j h. b.labels j h ∙ a.labels j h }

pub closing_more : {kept k₀ k : ℕ} {w₀ w w' : List ℕ} → Closing kept k₀ w₀ w k → kept < k → Vacates (k - 1) w w' → Closing kept k₀ w₀ w' (k - 1)
closing_more {kept} {k₀} {k} {w₀} {w} {w'} c l v = record { over = λ h. omega (arith, c.over h); keeps = keeps_on c.keeps v.kept; holds = λ {s} {ls} e h. go ls (c.holds e h) }
  where
    go : {t : ℕ} (ls : List (Ident Spot)) {layer : ℕ} {p : Prunings Spot} {next : ℕ} → Holds (record { count = k; layer = t }) w (take k ls) layer p next → Holds (record { count = k - 1; layer = t }) w' (take (k - 1) ls) layer p next
    go ls h =
        let long : k ≤ length ls = omega (arith, h.counted, length-take k ls) in
        let (i, at) = nth_is ls (k - 1) (omega arith) in
        let e : k ≡ suc (k - 1) = omega arith in
        let split : take k ls ≡ take (k - 1) ls ++ (i ∷ []) = ap (λ (m : ℕ). take m ls) e ∙ take_more at in
        v.holds (take (k - 1) ls) i (rw split at h) (length-take-le (k - 1) ls (omega arith))

pub closed : {s outer : Scope} {k : ℕ} {w₀ w : List ℕ} → Closing outer.count s.count w₀ w k → k ≤ outer.count → Closes s outer w₀ outer w
closed {s} {outer} {k} c l = record {
  told = refl;
  kept = c.keeps;
  holds = λ {ls} h o.
      let e : k ≡ outer.count = omega (arith, c.over (omega (arith, h.counted)), h.counted) in
      recounted (rw e at (c.holds refl h)) (sym (length-take-le outer.count ls o)) refl;
}

pub ruleset find_laws = (find_high, find_none, find_at)

pub ruleset lead_laws = (lead_past, lead_high, lead_later, lead_first)
