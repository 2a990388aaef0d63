-- An identifier that is read stands in the tree, and its name in the table of names.
use mathlib.Core.Path.{◌≡◌, sym, ap, subst, ◌∙◌}
use mathlib.Core.Bool.{Bool, true, false, ◌&&◌, ◌||◌, not}
use mathlib.Core.List.{List}
use Prim.Native.Nat.{ℕ, zero, suc, ◌+◌, ◌*◌, ◌%◌, ◌^◌, ◌<◌}
use native.Mathlib.Omega.{arith}
use lib.Dec.{ltb, eqb}
use lib.ListN.{length, get_or}
use borrow.Author.Tests.{ltb-true}
use Rattle.std.specs.Prelude.{Result, Ok}
use Rattle.fields.specs.declared.refusal.Refusal.{Refusal}
use Rattle.penne.specs.Reader.{Cur, Got, got, refused, ret, num, below, groups, last_group, moved, nothing}
use Rattle.penne.specs.Tree.{Spot, Ident}
use Rattle.penne.specs.Read.{name, ident}
use Rattle.fields.specs.declared.field.Identifier.{Identifier}
use Rattle.fields.specs.Answers.{cursor, identified_of, Identifies}
use Rattle.answer.proofs.Spelling.{num_reading}
use Rattle.walk.proofs.Leading.{never, same_value, same_cur, bind_got, such_got}

-- the table of names stays
last_names : (b : Bool) (x start next : ℕ) (c : Cur) {u : ℕ} {d : Cur} → ◌≡◌ {A = Got ℕ} (elim b [ true ↦ got x (moved c next) | false ↦ refused 4 start ]) (got u d) → d.names ≡ c.names
unfolding moved
last_names true x start next c e = ap (λ (q : Cur). q.names) (sym (same_cur e))
last_names false x start next c e = never e

groups_names : (left start w v : ℕ) (s : List ℕ) (at : ℕ) (c : Cur) {u : ℕ} {d : Cur} → groups left start w v s at c ≡ got u d → d.names ≡ c.names
unfolding groups last_group
groups_names zero start w v s at c e = never e
groups_names (suc left) start w v s at c {u} {d} e = go (ltb at (length s)) (ltb (get_or s at 0) 128) (λ h. groups_names left start (w * 128) (v + (get_or s at 0 % 128) * w) s (at + 1) c h) e
  where
    go : (b b₂ : Bool) → (groups left start (w * 128) (v + (get_or s at 0 % 128) * w) s (at + 1) c ≡ got u d → d.names ≡ c.names)
        → ◌≡◌ {A = Got ℕ} (elim b [ false ↦ refused 3 start | true ↦ elim b₂ [ false ↦ groups left start (w * 128) (v + (get_or s at 0 % 128) * w) s (at + 1) c | true ↦ last_group (get_or s at 0) w v start (at + 1) c ] ]) (got u d) → d.names ≡ c.names
    go false b₂ f h = never h
    go true false f h = f h
    go true true f h = last_names (ltb (v + get_or s at 0 * w) (2 ^ 32) && (not (eqb (get_or s at 0) 0) || eqb w 1)) (v + get_or s at 0 * w) start (at + 1) c h

num_names : (s : List ℕ) (c : Cur) {v : ℕ} {d : Cur} → num s c ≡ got v d → d.names ≡ c.names
unfolding num
num_names s c e = groups_names 5 c.at 1 0 s c.at c e

name_low : (s : List ℕ) (c : Cur) {v : ℕ} {d : Cur} → name s c ≡ got v d → (c.at < length s) × (v < c.names)
unfolding name
name_low s c {v} {d} e =
    let z = such_got num (λ n c. ltb n c.names) 5 s c e in
    let r = num_reading s c v d z.0 in
    let later = r.later in
    let within = r.within in
    (omega arith, omega (arith, ltb-true v d.names z.1, num_names s c z.0))

ident_low : (s : List ℕ) (c : Cur) {i : Ident Spot} {d : Cur} → ident s c ≡ got i d → (c.at < length s) × (i.name < c.names)
unfolding ident ret
ident_low s c {i} e =
    let a = bind_got name _ s c e in
    let b = bind_got num _ s a.1 a.3 in
    let p = bind_got num _ s b.1 b.3 in
    let q = bind_got (below 2) _ s p.1 p.3 in
    let low = name_low s c a.2 in
    let same : a.0 ≡ i.name = ap (λ (x : Ident Spot). x.name) (same_value q.3) in
    (low.0, subst (λ (n : ℕ). n < c.names) same low.1)

pub identified_low : {s : List ℕ} {names at : ℕ} {r : Result (Identifier × ℕ) Refusal} {i : Identifier} {n : ℕ} → Identifies s names at r → r ≡ Ok (i, n) → (at < length s) × (i.name < names)
identified_low {s} {names} {at} {i = i} {n} g e = ident_low s (cursor at names nothing) (g.is nothing ∙ ap (identified_of names at nothing) e)
