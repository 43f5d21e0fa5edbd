-- Any two answers that the contract of `runcedau_ask` permits are equal, of a map that is held; and where the call is refused, whatever the table holds. Assumes nothing.
use Prim.Native.Nat.{ℕ, ◌<◌}
use mathlib.Core.Path.{◌≡◌, sym, ap, subst, ◌∙◌}
use mathlib.Core.Bool.{true}
use mathlib.Core.List.{List, [], ◌∷◌}
use lib.Ieee.{Float}
use Rattle.std.specs.Prelude.{Option, None, Result, Ok, Err}
use Rattle.answers.proofs.ListingLaws.{Settled}
use Rattle.held.specs.declared.map.Map.{Map}
use Rattle.answers.proofs.AskLaws.{unknown_refused}
use Rattle.answers.proofs.Determinate.{numbered_one}
use Rattle.answers.specs.Asks.{AsksNumbered}
use Rattle.answers.specs.CellLists.{Lent, due}
use Rattle.limits.specs.Refusals.{code}
use Rattle.limits.specs.declared.cell.Cell.{Cell}
use Rattle.limits.specs.declared.refusal.Refusal.{Refusal}
use Rattle.plane.specs.declared.point.Point.{Point}
use Rattle.question.proofs.NumberLaws.{above_unknown}
use Rattle.question.specs.Numbered.{bad_numbered, question_of}
use Rattle.question.specs.declared.search.Question.{Question}
use Rattle.ask_c.specs.Told.{Asked, found_as, found_of}
use Rattle.ask_c.specs.declared.Found.{Found}

pub ask_one : (m : Map) (cells : List ℕ) (shape : ℕ) (p q : Point) (extent : Float) (r₁ r₂ : Found) → Asked m cells shape p q extent r₁ → Asked m cells shape p q extent r₂
    → Settled (due m cells [] ((8, bad_numbered (question_of shape p q extent)) ∷ [])) (Lent m cells) → r₁ ≡ r₂
ask_one m cells shape p q extent r₁ r₂ x y s = x.2 ∙ ap found_of (numbered_one m cells (question_of shape p q extent) x.0 y.0 x.1 y.1 s) ∙ sym y.2

-- an answer with a refusal's number finds nothing
found_none : (a : Result (Option Cell) Refusal) (n : ℕ) → code a ≡ n → (n ≡ 0 → ⊥) → found_of a ≡ found_as n None
found_none (Ok o) n e h = absurd (h (sym e))
found_none (Err f) n e h = ap (λ (k : ℕ). found_as k None) e

-- a number above 3 is no shape: the call is refused, and nothing is found, whatever the table holds
pub unknown_shape : (m : Map) (cells : List ℕ) (shape : ℕ) (p q : Point) (extent : Float) (r : Found) → 3 < shape → Asked m cells shape p q extent r → (r ≡ found_as (due m cells [] ((8, true) ∷ [])) None) × (r.refusal ≡ 0 → ⊥)
unknown_shape m cells shape p q extent r h x =
    let a : code x.0 ≡ due m cells [] ((8, true) ∷ []) = subst (λ (n : Option Question). AsksNumbered m cells n x.0) (above_unknown shape p q extent h) x.1 in
    let e : r ≡ found_as (due m cells [] ((8, true) ∷ [])) None = x.2 ∙ found_none x.0 (due m cells [] ((8, true) ∷ [])) a (unknown_refused m cells) in
    (e, λ z. unknown_refused m cells (sym (ap (λ (f : Found). f.refusal) e) ∙ z))
