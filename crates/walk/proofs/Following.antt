-- An edge is handed over: by what found_container_1 answered.
use mathlib.Core.Path.{◌≡◌, sym, ap, subst, ◌∙◌}
use mathlib.Core.List.{List}
use mathlib.Core.Option.{Option}
use Prim.Native.Nat.{ℕ, ◌<◌}
use native.Mathlib.Omega.{arith}
use borrow.Rule.Slice.PartMut.{put_mid}
use Rattle.std.specs.Prelude.{Ok, Err}
use Rattle.penne.specs.Tree.{Spot, Ident, Maybe}
use Rattle.penne.specs.Containers.{id_of, found_container_1}
use Rattle.penne.specs.Scopes.{Analyzer, with_containment}
use Rattle.fields.specs.declared.counts.Counts as K
use Rattle.containers.specs.declared.containers.Contained.{Contained}
use Rattle.containers.specs.declared.containers.Contained.TheVariants as T
use Rattle.containers.specs.Table.{at, id_at}
use Rattle.containers.specs.Calls.{answer_of, Follows, FollowsRows}
use Rattle.containers.proofs.Starting.{found_kept}
use Rattle.walk.specs.declared.state.Script.{Script}
use Rattle.walk.specs.declared.state.Tables as W
use Rattle.walk.specs.declared.fault.Fault.{Fault}
use Rattle.walk.specs.declared.fault.Fault.TheVariants as F
use Rattle.walk.specs.declared.edges.Holder.{Holder}
use Rattle.walk.specs.Walking.{containers_in, Tables}
use Rattle.walk.specs.Calls.{Member, Edged, fine, bad, EdgeTo, Cyclical, Edge}
use Rattle.walk.proofs.Tables.{containers_changed, lower_containers}
use Rattle.walk.proofs.Faults.{poisoned_bytes}

module _ {k : Script} (h : Holder) {n : ℕ} {w : List ℕ} {r : Contained} {ys : List ℕ} (f : FollowsRows k.containers h.row n (containers_in w) r ys) where
  follows : {t : W.Tables} {e : K.Counts} {a : Analyzer Spot} → Tables t k e w a → h.row < k.containers → n < k.containers → (m : Option (Ident Spot)) (c x : Ident Spot) → (at a.containment.containers h.row).identifier ≡ c → x.id ≡ id_at a.containment.containers n
      → Follows k.containers c m x a.containment r ys
  unfolding id_at id_of
  follows {a = a} t low low' m c x q z = f.follows a.containment t.containers low low' c x (sym (ap (λ (i : Ident Spot). i.id) q)) z m

  edge_by : {u : Edge} → ((t : W.Tables) (e : K.Counts) (a : Analyzer Spot) (m : Option (Ident Spot)) (c x : Ident Spot) → Tables t k e (put_mid 13312 1668 w ys) (with_containment a (found_container_1 c m x a.containment).1) → h.row < k.containers → Member h m
      → (at (found_container_1 c m x a.containment).1.containers h.row).identifier ≡ c → answer_of r c m x (found_container_1 c m x a.containment).1.containers ≡ (found_container_1 c m x a.containment).0 → Edged x u (found_container_1 c m x a.containment).0)
      → EdgeTo k h n w u (put_mid 13312 1668 w ys)
  edge_by say = record {
    does = λ {t} {e} {a} b low low' {m} mem c x q z.
        let v = follows b low low' m c x q z in
        let count = b.containers.counted in
        let b' = containers_changed b c m x (f.long ∙ b.containers.long) v.holds in
        (b', lower_containers w ys b.long (f.long ∙ b.containers.long), say t e a m c x b' low mem ((found_kept c m x a.containment).same h.row (omega arith) ∙ q) v.answer);
  }

  pub edge_to_fine : r ≡ T.Fine → EdgeTo k h n w (Ok tt) (put_mid 13312 1668 w ys)
  unfolding answer_of
  edge_to_fine e = edge_by λ t₁ e₁ a m c x b low mem q z. subst (λ (y : Maybe Spot (Ident Spot)). Edged x (Ok tt) y) (sym (ap (λ (v : Contained). answer_of v c m x (found_container_1 c m x a.containment).1.containers) e) ∙ z) fine

  pub edge_to_poisoned : r ≡ T.Poisoned → EdgeTo k h n w (Err F.Poisoned) (put_mid 13312 1668 w ys)
  unfolding answer_of
  edge_to_poisoned e = edge_by λ t₁ e₁ a m c x b low mem q z. subst (λ (y : Maybe Spot (Ident Spot)). Edged x (Err F.Poisoned) y) (sym (ap (λ (v : Contained). answer_of v c m x (found_container_1 c m x a.containment).1.containers) e) ∙ z) (bad poisoned_bytes)

  pub edge_to_cyclical : {g : Fault} → r ≡ T.Cyclical → Cyclical k h (put_mid 13312 1668 w ys) g → EdgeTo k h n w (Err g) (put_mid 13312 1668 w ys)
  unfolding answer_of with_containment
  edge_to_cyclical {g} e j = edge_by λ t₁ e₁ a m c x b low mem q z.
      subst (λ (y : Maybe Spot (Ident Spot)). Edged x (Err g) y) (sym (ap (λ (v : Contained). answer_of v c m x (found_container_1 c m x a.containment).1.containers) e) ∙ z) (bad (j.tells b low mem c q))
