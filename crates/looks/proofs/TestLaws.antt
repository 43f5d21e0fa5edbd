-- The tests between centres, as numbers. Assumes nothing.
use Prim.Native.Nat.{ℕ}
use mathlib.Core.Path.{◌≡◌, refl}
use mathlib.Core.List.{List}
use mathlib.Core.Option.{Option, none, some}
use lib.Ieee.{Float, binary64, mul}
use Rattle.ieee.specs.Constants.{pow2}
use Rattle.model.specs.Map.{tests}
use Rattle.model.specs.Plane.{Pt, centre}
use Rattle.model.specs.Shape.{ask, square, sweep}
use Rattle.held.specs.Codes.{block_code}
use Rattle.question.specs.Walk.{found_as, keyed}
use Rattle.question.specs.declared.search.Found.{Found}

keyed_key : (o : Option ℕ) → (keyed o).key ≡ block_code o
keyed_key none = refl
keyed_key (some k) = refl

pub square_key : (size radius : Float) (C : List ℕ) (k : ℕ) (p : Pt) (f : Found) → p ≡ centre size k → f ≡ found_as (ask size C (square p (mul binary64 (pow2 1) radius)))
    → f.key ≡ block_code ((tests size radius).square C k).cell
unfolding tests ask
square_key size radius C k p f e a = rw (a, e) (keyed_key ((tests size radius).square C k).cell)

pub sweep_key : (size radius : Float) (C : List ℕ) (j k : ℕ) (p q : Pt) (f : Found) → p ≡ centre size j → q ≡ centre size k → f ≡ found_as (ask size C (sweep p q (mul binary64 (pow2 1) radius)))
    → f.key ≡ block_code ((tests size radius).sweep C j k).cell
unfolding tests ask
sweep_key size radius C j k p q f d e a = rw (a, d, e) (keyed_key ((tests size radius).sweep C j k).cell)
