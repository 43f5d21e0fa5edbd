-- Query numbers by two comparisons: a number is refused exactly if it is not from -2 ^ 40 to 2 ^ 40, a length exactly if it is not from 0 to 2 ^ 40; a number above 3 names no shape. Assumes nothing.
use Prim.Native.Nat.{ℕ, ◌<◌}
use native.Mathlib.Omega.{arith}
use mathlib.Core.Path.{◌≡◌, refl}
use mathlib.Core.Bool.{Bool, true, false, not, ◌&&◌, ◌||◌, and-true, or-true, or-false}
use lib.IntN.{ℤ, pos}
use lib.Ieee.{Float, nan, inf, fin, le, neg}
use lib.Ieee.Bits.{is_true}
use borrow.Author.Tests.{ne_eqb}
use Rattle.ieee.specs.Constants.{nought}
use Rattle.ieee.specs.Pick.{abs_f}
use Rattle.ieee.proofs.Monotone.{inside_le, le_trans, neg_anti}
use Rattle.ieee.proofs.Tools.{same_test, T_true}
use Rattle.model.specs.Limits.{max_query}
use Rattle.model.specs.Refusal.{bad_number, bad_length}
use Rattle.plane.specs.declared.point.Point.{Point}
use Rattle.std.specs.Prelude.{None}
use Rattle.question.specs.Numbered.{question_of}

-- the least number that passes
abbrev pub least_query : Float
least_query = fin true 1 (pos 40)

-- what is not below zero is above the least, and what is not above zero is below the most
above_least : (m : ℕ) (e : ℤ) → le least_query (fin false m e) ≡ true
above_least m e = inside_le true 1 (pos 40) false m e (omega arith)

below_most : (m : ℕ) (e : ℤ) → le (fin true m e) max_query ≡ true
below_most m e = inside_le true m e false 1 (pos 40) (omega arith)

-- the two ends are one another's mirror images
mirrored : (m : ℕ) (e : ℤ) → le least_query (fin true m e) ≡ le (fin false m e) max_query
unfolding neg
mirrored m e =
    same_test (le least_query (fin true m e)) (le (fin false m e) max_query)
    (λ t. T_true (neg_anti least_query (fin true m e) (is_true (le least_query (fin true m e)) t)))
    (λ t. T_true (neg_anti (fin false m e) max_query (is_true (le (fin false m e) max_query) t)))

pub number_test : (z : Float) → bad_number z ≡ not (le least_query z && le z max_query)
unfolding bad_number abs_f
number_test nan = unfold le in refl
number_test (inf true) = unfold le in refl
number_test (inf false) = unfold le in refl
number_test (fin false m e) = rw (above_least m e)
number_test (fin true m e) = rw (below_most m e, and-true, mirrored m e)

pub length_test : (z : Float) → bad_length z ≡ not (le nought z && le z max_query)
unfolding bad_length
length_test z = rw (number_test z) (go (le nought z) refl)
  where
    go : (b : Bool) → le nought z ≡ b → not (le least_query z && le z max_query) || not b ≡ not (b && le z max_query)
    go true e = rw (le_trans least_query nought z (above_least 0 (pos 0)) e) (or-false (not (le z max_query)))
    go false e = or-true (not (le least_query z && le z max_query))

-- a shape's number is 3 at most
pub above_unknown : (shape : ℕ) (p q : Point) (extent : Float) → 3 < shape → question_of shape p q extent ≡ None
unfolding question_of
above_unknown shape p q extent h =
    rw (ne_eqb shape 0 (λ e. omega (arith, e, h)), ne_eqb shape 1 (λ e. omega (arith, e, h)), ne_eqb shape 2 (λ e. omega (arith, e, h)), ne_eqb shape 3 (λ e. omega (arith, e, h))) refl
