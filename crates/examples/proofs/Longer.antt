-- Examples that no edit of the model has to break: they stand apart, so that such an edit is refused sooner. Each holds of the definitions.
use mathlib.Core.Path.{◌≡◌, refl}
use Prim.Native.Nat.{ℕ}
use mathlib.Core.List.{List, [], ◌∷◌}
use mathlib.Core.Option.{none, some}
use lib.IntN.{pos, negsuc}
use Rattle.model.specs.Layer.{edge}
use Rattle.model.specs.Map.{Op}
use Rattle.model.specs.Refusal.{refusals, opened}
use Rattle.model.specs.Listing.{listing}
use Rattle.model.specs.Borders.{answers, files, AllNamed}
use Rattle.model.specs.Examples.{c, num, at, after, ten, ten_again, others, worked_file, worked_listing, All}
use Rattle.model.proofs.Examples.{everything}

-- two runs of accepted operations, from the same opening to the same cells and radius, after which a pair is blocked and is not
abbrev pub Remembered : Type 0
Remembered =
    (a b : List Op) × (refusals a (opened c (num (pos 200))) ≡ 0 ∷ 0 ∷ []) × (refusals b (opened c (num (pos 200))) ≡ 0 ∷ 0 ∷ 0 ∷ [])
    × ((after 200 a).cells ≡ (after 200 b).cells) × ((after 200 a).layer.radius ≡ (after 200 b).layer.radius)
    × (p q : ℕ) × (edge p q (after 200 a).layer.edges ≡ some (some (at (negsuc 2) (pos 2)))) × (edge p q (after 200 b).layer.edges ≡ some none)

-- The worked map file gives the worked listing, byte for byte.
pub worked_listing_lem : listing worked_file ≡ worked_listing
unfolding everything
worked_listing_lem = refl

-- Blockers have a history: where two runs end in the same cells and radius, a pair may still be blocked after one and open after the other (example 10).
pub blockers_remember : Remembered
unfolding everything
blockers_remember = (ten, ten_again, refl, refl, refl, refl, at (negsuc 1) (pos 2), at (pos 2) (pos 2), refl, refl)

-- Visibility, open pairs, neighbours and corner changes are right where a wrong definition would still look right.
pub answers_hold : AllNamed answers
unfolding everything
answers_hold = (tt, (tt, (tt, tt)))

-- Examples 9 and 10 of RULES 9.2, run.
pub examples_run : All others
unfolding everything
examples_run = (tt, (tt, tt))

-- Damaged map files are refused with the right number at the right field.
pub files_hold : AllNamed files
unfolding everything
files_hold = (tt, (tt, (tt, (tt, (tt, (tt, (tt, (tt, (tt, (tt, (tt, (tt, (tt, (tt, (tt, (tt, tt))))))))))))))))
