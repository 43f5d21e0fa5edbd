-- What a test answers of cells within the batch coordinates is named. Assumes nothing.
use Prim.Native.Nat.{ℕ}
use mathlib.Core.Path.{◌≡◌, refl}
use mathlib.Core.List.{List}
use mathlib.Core.Option.{Option, none, some}
use lib.Ieee.{Float, binary64, mul}
use Rattle.ieee.specs.Constants.{pow2}
use Rattle.model.specs.Good.{Inside}
use Rattle.model.specs.Limits.{max_coordinate}
use Rattle.model.specs.Map.{tests}
use Rattle.model.specs.Plane.{centre}
use Rattle.model.specs.Shape.{Question, ask, square, sweep}
use Rattle.model.proofs.QuestionLaws.{ask_has}
use Rattle.table.proofs.AllLaws.{has_all}
use Rattle.table.specs.Tables.{All}
use Rattle.held.specs.Codes.{Named}
use Rattle.held.proofs.NamedLaws.{inside_named}

ask_named : (c : Float) (C : List ℕ) (q : Question) → All (Inside max_coordinate) C → Named (ask c C q).cell
ask_named c C q h = go (ask c C q).cell refl
  where
    go : (o : Option ℕ) → (ask c C q).cell ≡ o → Named o
    go none e = tt
    go (some b) e = inside_named b (has_all (Inside max_coordinate) C b h (ask_has c C q b e))

pub square_named : (c r : Float) (C : List ℕ) (k : ℕ) → All (Inside max_coordinate) C → Named ((tests c r).square C k).cell
unfolding tests ask
square_named c r C k h = ask_named c C (square (centre c k) (mul binary64 (pow2 1) r)) h

pub sweep_named : (c r : Float) (C : List ℕ) (p q : ℕ) → All (Inside max_coordinate) C → Named ((tests c r).sweep C p q).cell
unfolding tests ask
sweep_named c r C p q h = ask_named c C (sweep (centre c p) (centre c q) (mul binary64 (pow2 1) r)) h
