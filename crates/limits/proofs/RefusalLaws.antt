-- A refusal by its number, and an answer by what is seen of it. Assumes nothing.
use Prim.Native.Nat.{suc, ◌%◌}
use native.Mathlib.Omega.{arith}
use mathlib.Core.Path.{◌≡◌, refl, sym, ap}
use denote.Enum.Bare.{tag_one}
use denote.Enum.Declared.{tag_of}
use Rattle.std.specs.Prelude.{Result, Ok, Err}
use Rattle.limits.specs.Refusals.{code, number}
use Rattle.limits.specs.contracts.refusal.Refusal.{the_type}
use Rattle.limits.specs.declared.refusal.Refusal.{Refusal}
use Rattle.limits.specs.declared.refusal.Refusal.TheVariants.{CellSize, Radius, LongBatch, Disorder, OffMap, ManyCells, ManyPoints, BadQuestion, ShortTable, BadFile}

tag_is : (e : Refusal) → number e ≡ suc (tag_of the_type e)
tag_is CellSize = refl
tag_is Radius = refl
tag_is LongBatch = refl
tag_is Disorder = refl
tag_is OffMap = refl
tag_is ManyCells = refl
tag_is ManyPoints = refl
tag_is BadQuestion = refl
tag_is ShortTable = refl
tag_is BadFile = refl

pub number_one : (e f : Refusal) → number e ≡ number f → e ≡ f
number_one e f h = tag_one the_type tt e f (omega (arith, tag_is e, tag_is f))

pub number_some : (e : Refusal) → number e ≡ 0 → ⊥
number_some e h = omega (arith, tag_is e)

-- each has a bit in a word of 64
pub number_fits : (e : Refusal) → number e % 64 ≡ number e
number_fits CellSize = refl
number_fits Radius = refl
number_fits LongBatch = refl
number_fits Disorder = refl
number_fits OffMap = refl
number_fits ManyCells = refl
number_fits ManyPoints = refl
number_fits BadQuestion = refl
number_fits ShortTable = refl
number_fits BadFile = refl

-- an answer that is nothing but a refusal or none is seen whole by its number
pub code_one : {A : Type 0} → ((a b : A) → a ≡ b) → (r q : Result A Refusal) → code r ≡ code q → r ≡ q
code_one one (Ok a) (Ok b) h = ap Ok (one a b)
code_one one (Ok a) (Err f) h = absurd (number_some f (sym h))
code_one one (Err e) (Ok b) h = absurd (number_some e h)
code_one one (Err e) (Err f) h = ap Err (number_one e f h)

pub judged_one : (r q : Result (Unit {0}) Refusal) → code r ≡ code q → r ≡ q
judged_one = code_one (λ a b. refl)
