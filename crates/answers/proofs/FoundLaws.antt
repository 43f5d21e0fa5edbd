-- Whether a cell is occupied, told or refused. Assumes nothing.
use Prim.Native.Nat.{ℕ}
use native.Mathlib.Nat.{suc-ne-zero}
use mathlib.Core.Path.{◌≡◌, sym, ap, ◌∙◌}
use mathlib.Core.Bool.{Bool, false}
use lib.IntN.{ℤ}
use Rattle.limits.specs.Refusals.{number}
use Rattle.limits.specs.declared.refusal.Refusal.{Refusal}
use Rattle.model.specs.Answers.{is_occupied}
use Rattle.model.specs.Map as model
use Rattle.answers.specs.Found.{Telling}
use Rattle.answers.specs.Told.{said}
use Rattle.limits.proofs.RefusalLaws.{number_some}
use Rattle.std.specs.Prelude.{Result, Ok, Err}
use Rattle.std.specs.Result.{IsErrAnd}

-- the refusal n is due or none, of the cell (x, y)
module _ (n : ℕ) (Hold : model.Map → Type 0) (x y : ℤ) where
  pub telling_refused : (r : Result Bool Refusal) (e : Refusal) → IsErrAnd r (λ d. d ≡ e) → number e ≡ n → Telling n Hold x y (said r)
  telling_refused (Ok b) e i q = absurd i
  telling_refused (Err d) e i q =
      let z : number d ≡ n = ap number i ∙ q in
      record { refusal = z; refused = λ j g. ap (λ (k : ℕ). record { refusal = k; yes = false }) (z ∙ g); answer = λ M h w. absurd (number_some d (z ∙ w)) }

  pub telling_done : (b : Bool) → 0 ≡ n → ((M : model.Map) → Hold M → b ≡ is_occupied M x y) → Telling n Hold x y (said (Ok b))
  telling_done b q w = record { refusal = q; refused = λ j g. absurd (suc-ne-zero j (sym (q ∙ g))); answer = λ M h z. w M h }
