-- Any two answers that the contract of `ask` permits are equal, of every floor that holds its cells; and of every refused call, whatever the table holds. Assumes nothing.
use Prim.Native.Nat.{ℕ, suc}
use mathlib.Core.Path.{◌≡◌, refl, sym, ap, ◌∙◌}
use mathlib.Core.List.{List}
use mathlib.Core.Logic.{◌⊎◌, ⊎_elim}
use mathlib.Core.Option.{Option, none, some}
use lib.IntN.{ℤ}
use lib.ListN.{length}
use Rattle.std.specs.Prelude as std
use Rattle.std.specs.Prelude.{Some, None, Result, Ok, Err}
use Rattle.limits.proofs.RefusalLaws.{number_one, number_some}
use Rattle.limits.specs.Floor.{Holds}
use Rattle.limits.specs.declared.cell.Cell.{Cell}
use Rattle.limits.specs.declared.floor.Floor.{Floor}
use Rattle.limits.specs.declared.refusal.Refusal.{Refusal}
use Rattle.question.specs.Answer.{placed}
use Rattle.question.specs.Ask.{Asked, refuse_ask}
use Rattle.question.specs.Question.{asked}
use Rattle.question.specs.declared.search.Question.{Question}

-- a cell can be read back from its values
abbrev back : Option (ℤ × ℤ) → std.Option Cell
back none = None
back (some v) = Some (record { x = v.0; y = v.1 })

back_placed : (p : std.Option Cell) → back (placed p) ≡ p
back_placed None = refl
back_placed (Some c) = refl

pub place_one : (p q : std.Option Cell) → placed p ≡ placed q → p ≡ q
place_one p q e = sym (back_placed p) ∙ ap back e ∙ back_placed q

-- the refusal that is due is a function of what is handed in; where there is none, the table has to hold cells
pub ask_one : (floor : Floor) (t : List ℕ) (q : Question) (r₁ r₂ : Result (std.Option Cell) Refusal) → Asked floor t q r₁ → Asked floor t q r₂
    → ((C : List ℕ) × Holds t floor.cells C) ⊎ (refuse_ask (length t) floor.size floor.cells (asked q) ≡ 0 → ⊥) → r₁ ≡ r₂
ask_one floor t q (Ok p) (Ok o) x y s = ⊎_elim (λ h. ap Ok (place_one p o (x.answer h.0 h.1 p refl ∙ sym (y.answer h.0 h.1 o refl)))) (λ f. absurd (f (sym x.refusal))) s
ask_one floor t q (Ok p) (Err f) x y s = absurd (number_some f (y.refusal ∙ sym x.refusal))
ask_one floor t q (Err e) (Ok o) x y s = absurd (number_some e (x.refusal ∙ sym y.refusal))
ask_one floor t q (Err e) (Err f) x y s = ap Err (number_one e f (x.refusal ∙ sym y.refusal))
