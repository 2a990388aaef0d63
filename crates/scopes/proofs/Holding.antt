-- What the table holds, part by part: what it still holds where its words are the same, with one local more, and with one less.
use mathlib.Core.Path.{◌≡◌, sym, ap, ◌∙◌}
use mathlib.Core.Bool.{true}
use mathlib.Core.List.{List, [], ◌∷◌, ◌++◌}
use mathlib.Core.Option.{Option}
use Prim.Native.Nat.{ℕ, ◌+◌, ◌<◌}
use native.Mathlib.Omega.{arith}
use lib.ListN.{length, get_or}
use Rattle.penne.specs.Tree.{Spot, Ident}
use Rattle.penne.specs.Find.{is_in}
use Rattle.penne.specs.Pruning.{UnresolvedPruning, Prunings, standing, fate}
use Rattle.penne.specs.Pruning as R
use Rattle.scopes.specs.declared.pruning.Fate.{Fate}
use Rattle.scopes.specs.Table.{rows, label_name, label_place, label_goto, label_note, local_name, local_place, local_from, local_id, local_fate, local_goto, heads, cell, Stands, entry, Entries, Heads, Known, Label, fate_by, fate_at, Tells, stands, poisons, prunes, Fates, Fresh, Note, Noted, unnoted, noted, Notes}
use Rattle.scopes.proofs.Lists.{nth_low, nth_left, nth_snoc, Snoc, front, last}

-- THE SAME WORDS

-- row k of column c is what it was
abbrev pub Kept : (w w' : List ℕ) → (c k : ℕ) → Type 0
Kept w w' c k = cell w' c k ≡ cell w c k

module _ (w w' : List ℕ) (k : ℕ) where
  pub entry_kept : Kept w w' local_name k → Kept w w' local_place k → Kept w w' local_from k → Kept w w' local_id k → entry w' k ≡ entry w k
  entry_kept a b c d = λ i. record { name = a i; place = b i; from = c i; id = d i }

  pub fate_kept : Kept w w' local_fate k → Kept w w' local_goto k → fate_at w k ≡ fate_at w' k
  fate_kept a b = rw (a, b)

module _ {w w' : List ℕ} where
  pub entries_kept : {ls : List (Ident Spot)} → ((k : ℕ) → k < length ls → entry w' k ≡ entry w k) → Entries w ls → Entries w' ls
  entries_kept f e = record { at = λ {k} n. rw (f k (nth_low n)) (e.at n) }

  pub heads_kept : {ls : List (Ident Spot)} → ((n : ℕ) → n < rows → Kept w w' heads n) → Heads w ls → Heads w' ls
  heads_kept f h = record { at = λ n l. f n l ∙ h.at n l }

  pub label_kept : {row : ℕ} {l : Ident Spot} → ((j : ℕ) → j < label_goto → get_or w' j 0 ≡ get_or w j 0) → Label w row l → Label w' row l
  label_kept {row} f a =
      let low = a.low in
      record { low = a.low; id = a.id; name = f (label_name + row) (omega arith) ∙ a.name; place = f (label_place + row) (omega arith) ∙ a.place }

  pub tells_kept : {x : Fate} {f : R.Fate Spot} → ((j : ℕ) → j < label_goto → get_or w' j 0 ≡ get_or w j 0) → Tells w x f → Tells w' x f
  tells_kept g stands = stands
  tells_kept g poisons = poisons
  tells_kept g (prunes l) = prunes (label_kept g l)

  pub fates_kept : {ls : List (Ident Spot)} {p : Prunings Spot} → ((j : ℕ) → j < label_goto → get_or w' j 0 ≡ get_or w j 0)
      → ((k : ℕ) → k < length ls → fate_at w k ≡ fate_at w' k) → Fates w ls p → Fates w' ls p
  fates_kept g f t = record { at = λ {k} n. rw (f k (nth_low n)) at (tells_kept g (t.at n)) }

  pub notes_kept : {ls : List (Ident Spot)} {p : Prunings Spot} {next : ℕ} → ((row : ℕ) → row < rows → Kept w w' label_note row) → ((row : ℕ) → row < rows → Kept w w' label_goto row) → Notes w ls p next → Notes w' ls p next
  notes_kept f g t = record { at = λ row h. rw (f row h, g row h) (t.at row h) }

-- ONE LOCAL MORE

module _ (ls : List (Ident Spot)) (i : Ident Spot) where
  pub entries_snoc : {w : List ℕ} → Entries w ls → Stands (entry w (length ls)) i → Entries w (ls ++ (i ∷ []))
  entries_snoc {w} e s = record { at = λ n. go _ _ (nth_snoc ls n) }
    where
      go : (k : ℕ) (x : Ident Spot) → Snoc k x ls i → Stands (entry w k) x
      go k x (front n) = e.at n
      go k x (last q z) = rw (q, z) s

  pub known_snoc : {next : ℕ} → Known ls next → i.name < rows → i.id ≡ next → Known (ls ++ (i ∷ [])) (next + 1)
  known_snoc {next} h l e = record {
    names = λ n. name _ _ (nth_snoc ls n);
    ids = λ n. id _ _ (nth_snoc ls n);
    apart = λ n o q. two _ _ _ _ (nth_snoc ls n) (nth_snoc ls o) q;
  }
    where
      name : (k : ℕ) (x : Ident Spot) → Snoc k x ls i → x.name < rows
      name k x (front n) = h.names n
      name k x (last q z) = rw z l

      id : (k : ℕ) (x : Ident Spot) → Snoc k x ls i → x.id < next + 1
      id k x (front n) = omega (arith, h.ids n)
      id k x (last q z) = rw (z, e) (omega arith)

      two : (k m : ℕ) (x y : Ident Spot) → Snoc k x ls i → Snoc m y ls i → x.id ≡ y.id → k ≡ m
      two k m x y (front n) (front o) q = h.apart n o q
      two k m x y (front n) (last d z) q = absurd (omega (arith, h.ids n, q ∙ ap (λ (v : Ident Spot). v.id) z ∙ e))
      two k m x y (last d z) (front o) q = absurd (omega (arith, h.ids o, sym q ∙ ap (λ (v : Ident Spot). v.id) z ∙ e))
      two k m x y (last d z) (last d' z') q = d ∙ sym d'

  pub fates_snoc : {w : List ℕ} {p : Prunings Spot} → Fates w ls p → cell w local_fate (length ls) ≡ 0 → fate i.id p ≡ standing → Fates w (ls ++ (i ∷ [])) p
  unfolding fate_by
  fates_snoc {w} {p} f e s = record { at = λ n. go _ _ (nth_snoc ls n) }
    where
      go : (k : ℕ) (x : Ident Spot) → Snoc k x ls i → Tells w (fate_at w k) (fate x.id p)
      go k x (front n) = f.at n
      go k x (last q z) = rw (q, z, e, s) stands

  note_snoc : {next note goto : ℕ} {u : UnresolvedPruning Spot} → i.id ≡ next → Note ls next note goto u → Note (ls ++ (i ∷ [])) (next + 1) note goto u
  note_snoc {next} {note} {goto} {u} e n =
      let early = n.early in
      record { some_id = n.some_id; early = omega arith; place = n.place; lower = n.lower; inside = λ at h. go _ _ (nth_snoc ls at) h }
    where
      go : (k : ℕ) (x : Ident Spot) → Snoc k x ls i → x.id < note → is_in x.id u.intersection_of_variables ≡ true
      go k x (front o) h = n.inside o h
      go k x (last q z) h = absurd (omega (arith, n.early, ap (λ (v : Ident Spot). v.id) z ∙ e))

  noted_snoc : {next note goto : ℕ} {o : Option (UnresolvedPruning Spot)} → i.id ≡ next → Noted ls next note goto o → Noted (ls ++ (i ∷ [])) (next + 1) note goto o
  noted_snoc e (unnoted z) = unnoted z
  noted_snoc e (noted n) = noted (note_snoc e n)

  pub notes_snoc : {w : List ℕ} {p : Prunings Spot} {next : ℕ} → i.id ≡ next → Notes w ls p next → Notes w (ls ++ (i ∷ [])) p (next + 1)
  notes_snoc e t = record { at = λ row h. noted_snoc e (t.at row h) }

pub fresh_more : {p : Prunings Spot} {next : ℕ} → Fresh p next → Fresh p (next + 1)
fresh_more f = record { at = λ x h. f.at x (omega arith) }

-- ONE LOCAL LESS

module _ (ls : List (Ident Spot)) (i : Ident Spot) where
  pub entries_front : {w : List ℕ} → Entries w (ls ++ (i ∷ [])) → Entries w ls
  entries_front e = record { at = λ n. e.at (nth_left (i ∷ []) n) }

  pub known_front : {next : ℕ} → Known (ls ++ (i ∷ [])) next → Known ls next
  known_front h = record {
    names = λ n. h.names (nth_left (i ∷ []) n);
    ids = λ n. h.ids (nth_left (i ∷ []) n);
    apart = λ n o q. h.apart (nth_left (i ∷ []) n) (nth_left (i ∷ []) o) q;
  }

  pub fates_front : {w : List ℕ} {p : Prunings Spot} → Fates w (ls ++ (i ∷ [])) p → Fates w ls p
  fates_front f = record { at = λ n. f.at (nth_left (i ∷ []) n) }

  noted_front : {next note goto : ℕ} {o : Option (UnresolvedPruning Spot)} → Noted (ls ++ (i ∷ [])) next note goto o → Noted ls next note goto o
  noted_front (unnoted z) = unnoted z
  noted_front (noted n) = noted (record { some_id = n.some_id; early = n.early; place = n.place; lower = n.lower; inside = λ at h. n.inside (nth_left (i ∷ []) at) h })

  pub notes_front : {w : List ℕ} {p : Prunings Spot} {next : ℕ} → Notes w (ls ++ (i ∷ [])) p next → Notes w ls p next
  notes_front t = record { at = λ row h. noted_front (t.at row h) }
