-- A result of which it is known that it is a certain error; a refusal's number is not 0. Assumes nothing.
use Rattle.std.proofs.Common.{◌≡◌, ℕ, zero, suc, refl, ap, Result, Ok, Err}
use Rattle.std.specs.Prelude.{IsErrAnd}
use Rattle.limits.proofs.RefusalLaws.{number_some}
use Rattle.limits.specs.Refusals.{number}
use Rattle.limits.specs.declared.refusal.Refusal.{Refusal}

pub err_is : {A E : Type 0} (r : Result A E) (e : E) → IsErrAnd r (λ x. x ≡ e) → r ≡ Err e
err_is (Ok a) e h = absurd h
err_is (Err x) e h = ap Err h

pub number_suc : (e : Refusal) → (k : ℕ) × (number e ≡ suc k)
number_suc e = go (number e) (number_some e)
  where
    go : (n : ℕ) → (n ≡ 0 → ⊥) → (k : ℕ) × (n ≡ suc k)
    go zero h = absurd (h refl)
    go (suc k) h = (k, refl)
