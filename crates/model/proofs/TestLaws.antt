-- What the float tests owe the update: they answer occupied cells, and an accepted radius has a shift of at most 64. Assumes nothing.
use Prim.Native.Nat.{◌≤◌, zero-le}
use mathlib.Core.Path.{◌≡◌, refl, subst}
use mathlib.Core.Bool.{Bool, true, false, not, ◌&&◌}
use lib.Dec.{T, leb→le}
use lib.IntN.{ℤ, pos, negsuc}
use lib.Signed.{le_z}
use lib.Ieee.{Float, binary64, mul, le}
use lib.Ieee.Fits.{and_r}
use Rattle.ieee.specs.Constants.{nought, pow2}
use Rattle.ieee.specs.Whole.{ceil_z}
use Rattle.ieee.specs.Yard.{shift_f}
use Rattle.model.specs.Limits.{max_shift}
use Rattle.model.specs.Plane.{centre}
use Rattle.model.specs.Shape.{square, sweep, ask}
use Rattle.model.specs.Map.{natural, shift_of, tests}
use Rattle.model.specs.Refusal.{finite, bad_radius}
use Rattle.model.proofs.QuestionLaws.{ask_has}
use Rattle.model.proofs.LayerLaws.{Lawful}

pub not_false : (b : Bool) → not b ≡ false → T b
not_false true e = tt
not_false false e = absurd (let z : T false = subst T e tt in z)

pub shift_le : (c r : Float) → T (le_z (ceil_z (shift_f c r)) (pos max_shift)) → shift_of c r ≤ max_shift
unfolding shift_of
shift_le c r t = small (ceil_z (shift_f c r)) t
  where
    small : (z : ℤ) → T (le_z z (pos max_shift)) → natural z ≤ max_shift
    small (pos n) t = leb→le n max_shift t
    small (negsuc n) t = zero-le

shift_small : (c r : Float) → bad_radius c r ≡ false → shift_of c r ≤ max_shift
unfolding bad_radius
shift_small c r e =
    shift_le c r (and_r (finite r && le nought r) (le_z (ceil_z (shift_f c r)) (pos max_shift)) (not_false (finite r && le nought r && le_z (ceil_z (shift_f c r)) (pos max_shift)) e))

-- the tests of an accepted cell size and radius are lawful
pub lawful : (c r : Float) → bad_radius c r ≡ false → Lawful (tests c r)
unfolding tests ask
lawful c r h =
    record {
      squares = λ C k b e. ask_has c C (square (centre c k) (mul binary64 (pow2 1) r)) b e;
      sweeps = λ C p q b e. ask_has c C (sweep (centre c p) (centre c q) (mul binary64 (pow2 1) r)) b e;
      small = shift_small c r h;
    }

pub tests_shift : (c r : Float) → (tests c r).shift ≡ shift_of c r
unfolding tests
tests_shift c r = refl
