-- A list of pairs as three columns of numbers, lesser cell, greater cell, blocker (RULES 2.2: a pair is told lesser cell first, with its blocker or none). Definitions only.
use Rattle.std.specs.Prelude.{ℕ, List, [], ◌∷◌}
use Rattle.model.specs.Layer.{Pair}
use Rattle.held.specs.Codes.{block_code}

abbrev pub lessers : List Pair → List ℕ
lessers [] = []
lessers (p ∷ ps) = p.lesser ∷ lessers ps

abbrev pub greaters : List Pair → List ℕ
greaters [] = []
greaters (p ∷ ps) = p.greater ∷ greaters ps

abbrev pub pair_blocks : List Pair → List ℕ
pair_blocks [] = []
pair_blocks (p ∷ ps) = block_code p.block ∷ pair_blocks ps
