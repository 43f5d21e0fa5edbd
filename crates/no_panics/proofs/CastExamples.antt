-- The range is no wider than it has to be, and each limit is needed: computed. Assumes nothing.
use mathlib.Core.Path.{◌≡◌, refl}
use mathlib.Core.Bool.{true, false, true≢false, false≢true}
use lib.Ieee.{inf, binary64, add, sub, mul, div, neg, lt, le, is_nan}
use Rattle.ieee.specs.Constants.{nought, pow2}
use Rattle.ieee.specs.Pick.{abs_f}
use Rattle.ieee.specs.Root.{root_f}
use Rattle.model.specs.Limits.{least_size, max_query}
use Rattle.model.specs.Plane.{Pt, plus, minus, times, over, dot, norm, turned}
use Rattle.model.specs.Shape.{strip_of, point, sweep}
use Rattle.model.specs.Refusal.{bad_size, bad_number, bad_length, bad_question}
use Rattle.no_panics.specs.Casts.{Casts, Limits}

-- the right side of the greatest circle at the greatest x, over the least cells: 2^51
pub far : Casts (div binary64 (add binary64 max_query max_query) least_size)
unfolding add div abs_f lt
far = refl

abbrev start : Pt
start = record { x = nought; y = nought }

abbrev end : Pt
end = record { x = pow2 0; y = nought }

-- cells of no size: a quotient is an infinity, and the question is refused
pub no_size : (Casts (div binary64 (pow2 0) nought) → ⊥) × (Limits nought (point end) → ⊥)
unfolding div abs_f lt le bad_size
no_size = (λ e. false≢true e, λ l. true≢false l.0)

-- a sweep without end: a corner is a NaN, and the question is refused
pub no_end : (is_nan (strip_of start end (div binary64 (inf false) (pow2 1))).a.x ≡ true) × (Limits (pow2 0) (sweep start end (inf false)) → ⊥)
unfolding strip_of plus minus times over dot norm turned add sub mul div neg root_f is_nan abs_f lt le bad_number bad_length bad_question
no_end = (refl, λ l. true≢false l.1)
