-- Any two outcomes that the contract of `runcedau_floor_change_cells` permits are equal, of every call that it decides. Assumes nothing.
use Prim.Native.Nat.{ℕ, ◌≤◌, ◌<◌}
use mathlib.Core.Path.{◌≡◌, refl, sym, ap, ◌∙◌}
use mathlib.Core.Logic.{inl, inr}
use mathlib.Core.Bool.{Bool, true, false}
use mathlib.Core.List.{List}
use lib.Dec.{ltb}
use lib.IntN.{ℤ}
use lib.ListN.{length}
use borrow.Author.Tests.{ltb-false, ltb-true}
use Rattle.std.specs.Prelude.{Result}
use Rattle.limits.specs.Refusals.{code}
use Rattle.limits.specs.declared.floor.Floor.{Floor}
use Rattle.limits.specs.declared.refusal.Refusal.{Refusal}
use Rattle.grid.proofs.Determinate.{change_one}
use Rattle.grid.specs.Change.{Lent}
use Rattle.grid.specs.Change as grid
use Rattle.grid.specs.declared.change.Changed.{Changed}
use Rattle.grid_c.specs.Called.{Called, Decided, counts_of}

module _ (floor : Floor) (b : List ℤ) (t t₁ t₂ : Lent) (l l₁ l₂ : List ℕ) (n₁ n₂ : ℕ) (x : Called floor b t t₁ l l₁ n₁) (y : Called floor b t t₂ l l₂ n₂) where
  short_one : length l < 3 → (n₁ ≡ n₂) × (t₁ ≡ t₂) × (l₁ ≡ l₂)
  short_one h =
      let p = x.short h in
      let q = y.short h in
      (p.0 ∙ sym q.0, p.1 ∙ sym q.1, p.2 ∙ sym q.2)

  room_one : 3 ≤ length l → grid.Decided floor b t → (n₁ ≡ n₂) × (t₁ ≡ t₂) × (l₁ ≡ l₂)
  room_one h d =
      let p = x.call h in
      let q = y.call h in
      let e = change_one floor b t t₁ t₂ p.0 q.0 p.1.changing q.1.changing d in
      (p.1.number ∙ ap (λ (r : Result Changed Refusal). code r) e.0 ∙ sym q.1.number, e.1, p.1.counts ∙ ap (λ (r : Result Changed Refusal). counts_of r l) e.0 ∙ sym q.1.counts)

  pub called_one : Decided floor b t l → (n₁ ≡ n₂) × (t₁ ≡ t₂) × (l₁ ≡ l₂)
  called_one (inl h) = short_one h
  called_one (inr d) = go (ltb (length l) 3) refl
    where
      go : (z : Bool) → ltb (length l) 3 ≡ z → (n₁ ≡ n₂) × (t₁ ≡ t₂) × (l₁ ≡ l₂)
      go true e = short_one (ltb-true (length l) 3 e)
      go false e = room_one (ltb-false (length l) 3 e) d
