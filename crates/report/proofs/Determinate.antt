-- Any two outcomes that a listing's contract permits are equal. Assumes nothing.
use Prim.Native.Nat.{ℕ}
use mathlib.Core.Path.{◌≡◌, refl, sym, ◌∙◌}
use mathlib.Core.List.{List}
use mathlib.Core.Logic.{⊎_elim}
use lib.ListN.{length}
use Rattle.answers.proofs.ListingLaws.{Settled, list_one}
use Rattle.answers.specs.declared.judge.Count.{Count}
use Rattle.ieee.proofs.Tools.{lt_or_ge}
use Rattle.held.specs.declared.map.Map.{Map}
use Rattle.report.specs.Filed.{Listed}
use Rattle.report.specs.Reported.{MapHeld, MapListed, map_due}
use Rattle.model.specs.Limits.{need_listing}

-- ---- `list_map`, of a map that is held, or that is refused whatever the tables hold
module _ (m : Map) (cells points statuses blockers pairs out : List ℕ) where
  pub list_map_one : (o₁ o₂ : List ℕ) (r q : Count) → MapListed m cells points statuses blockers pairs out o₁ r → MapListed m cells points statuses blockers pairs out o₂ q
      → Settled (map_due m cells points statuses blockers pairs out) (MapHeld m cells points statuses blockers pairs out) → (r ≡ q) × (o₁ ≡ o₂)
  list_map_one o₁ o₂ r q u v s =
      let e = list_one (map_due m cells points statuses blockers pairs out) (MapHeld m cells points statuses blockers pairs out) _ _ _ _ r q (refl, refl, tt) u v s in
      (e.0, e.1.0)

-- ---- `list_file`
pub list_file_one : (b o o₁ o₂ : List ℕ) (r q : Count) → Listed b o o₁ r → Listed b o o₂ q → (r ≡ q) × (o₁ ≡ o₂)
list_file_one b o o₁ o₂ r q u v =
    ⊎_elim (λ h. ((u.short h).0 ∙ sym (v.short h).0, (u.short h).1 ∙ sym (v.short h).1)) (λ h. ((u.done h).0 ∙ sym (v.done h).0, (u.done h).1 ∙ sym (v.done h).1))
    (lt_or_ge (length o) need_listing)
