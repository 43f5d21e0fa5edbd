-- Any two outcomes that the contract of `change_cells` permits are equal, of every floor that holds its cells, and of every call that the input alone refuses. Assumes nothing.
use Prim.Native.Nat.{ℕ, zero, suc}
use native.Mathlib.Nat.{suc-ne-zero}
use mathlib.Core.Path.{◌≡◌, refl, sym, ap, ◌∙◌}
use mathlib.Core.Logic.{inl, inr}
use mathlib.Core.List.{List}
use lib.IntN.{ℤ}
use Rattle.std.specs.Prelude.{Result, Ok, Err}
use Rattle.limits.specs.Batches.{entries}
use Rattle.limits.specs.Refusals.{code, number}
use Rattle.limits.specs.declared.refusal.Refusal.{Refusal}
use Rattle.grid.specs.Change.{Changing, Decided, Done, Lent}
use Rattle.limits.specs.Floor.{Holds}
use Rattle.grid.specs.declared.change.Changed.{Changed}
use Rattle.limits.specs.declared.floor.Floor.{Floor}
use Rattle.limits.proofs.RefusalLaws.{number_one, number_some}

same_tables : (t u : Lent) → t.cells ≡ u.cells → t.confirmed ≡ u.confirmed → t.full ≡ u.full → t.corners ≡ u.corners → t.altered ≡ u.altered → t ≡ u
same_tables t u a b c d e = rw (a, b, c, d, e) refl

-- a number above 0 names one refusal
refused_is : (r : Result Changed Refusal) (n : ℕ) → code r ≡ suc n → (e : Refusal) × (r ≡ Err e) × (number e ≡ suc n)
refused_is (Ok c) n z = absurd (suc-ne-zero _ (sym z))
refused_is (Err e) n z = (e, refl, z)

module _ (floor : Floor) (b : List ℤ) (t t₁ t₂ : Lent) where
  done_one : (C : List ℕ) (c₁ c₂ : Changed) → Done floor C (entries b) t t₁ c₁ → Done floor C (entries b) t t₂ c₂ → (c₁ ≡ c₂) × (t₁ ≡ t₂)
  done_one C c₁ c₂ x y = (
    x.answer ∙ sym y.answer,
    same_tables t₁ t₂ (x.cells ∙ sym y.cells) (x.changes.cells ∙ sym y.changes.cells) (x.changes.numbers ∙ sym y.changes.numbers) (x.altered.cells ∙ sym y.altered.cells) (x.altered.numbers ∙ sym y.altered.numbers),
  )

  refused_one : (r₁ r₂ : Result Changed Refusal) → Changing floor b t t₁ r₁ → Changing floor b t t₂ r₂ → (n : ℕ) → code r₁ ≡ suc n → code r₂ ≡ suc n → (r₁ ≡ r₂) × (t₁ ≡ t₂)
  refused_one r₁ r₂ x y n p q =
      let u = refused_is r₁ n p in
      let v = refused_is r₂ n q in
      (u.1 ∙ ap Err (number_one u.0 v.0 (u.2 ∙ sym v.2)) ∙ sym v.1, x.refused n p ∙ sym (y.refused n q))

  held_one : (C : List ℕ) → Holds t.cells floor.cells C → (r₁ r₂ : Result Changed Refusal) → Changing floor b t t₁ r₁ → Changing floor b t t₂ r₂ → (r₁ ≡ r₂) × (t₁ ≡ t₂)
  held_one C h (Ok c) (Ok d) x y = let w = done_one C c d (x.done C h c refl) (y.done C h d refl) in (ap Ok w.0, w.1)
  held_one C h (Ok c) (Err f) x y = absurd (number_some f (y.refusal C h ∙ sym (x.refusal C h)))
  held_one C h (Err e) (Ok d) x y = absurd (number_some e (x.refusal C h ∙ sym (y.refusal C h)))
  held_one C h (Err e) (Err f) x y = go (number e) refl
    where
      go : (n : ℕ) → number e ≡ n → (◌≡◌ {A = Result Changed Refusal} (Err e) (Err f)) × (t₁ ≡ t₂)
      go zero z = absurd (number_some e z)
      go (suc n) z = refused_one (Err e) (Err f) x y n z (y.refusal C h ∙ sym (x.refusal C h) ∙ z)

  pub change_one : (r₁ r₂ : Result Changed Refusal) → Changing floor b t t₁ r₁ → Changing floor b t t₂ r₂ → Decided floor b t → (r₁ ≡ r₂) × (t₁ ≡ t₂)
  change_one r₁ r₂ x y (inl k) = held_one k.0 k.1 r₁ r₂ x y
  change_one r₁ r₂ x y (inr k) = refused_one r₁ r₂ x y k.0 (x.input k.0 k.1) (y.input k.0 k.1)
