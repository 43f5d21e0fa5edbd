-- Between functions: the four tables of a layer, drawn anew. Definitions only.
use Rattle.std.specs.Prelude.{ℕ, ◌≤◌, ◌≡◌, List, [], ◌++◌, Float, drop, length, take}
use Rattle.std.proofs.Math.Option.{Option, none}
use Rattle.model.specs.Batch.{Batch}
use Rattle.model.specs.Cell as cell
use Rattle.model.specs.Layer.{Tests}
use Rattle.model.specs.Limits.{max_points}
use Rattle.model.specs.Map.{shift_of, tests}
use Rattle.model.specs.Maps.{keys}
use Rattle.held.specs.Codes.{AllNamed, codes}
use Rattle.held.specs.Holds.{Tables}
use Rattle.sight.specs.Blocked.{Seeing, Stood, point_blocks}
use Rattle.sight.specs.Paired.{Filled, pair_at}
use Rattle.held.specs.Pairs.{Pairs, PairsBy, PairsNamed, pair_places}
use Rattle.table.specs.Tables.{pad}
use Rattle.visibility.specs.Layers.{numbers_of}

-- what is handed in: the points S as two lists, and the old blockers B
pub record Drawing (C : List ℕ) (ch : Batch) (S : Stood) (B : List (Option ℕ)) (confirmed full present moods points statuses blockers : List ℕ) (count : ℕ) : Type 0 where
  pub seeing : Seeing C ch S confirmed full present moods
  pub few : length S ≤ max_points
  pub blocks_are : take count blockers ≡ codes B
  pub blocks_named : AllNamed B
  pub points_room : max_points ≤ length points
  pub statuses_room : max_points ≤ length statuses
  pub blockers_room : max_points ≤ length blockers

-- all pairs are in the first n rows
abbrev pub Below : ℕ → PairsBy → Type 0
Below n P = (i j : ℕ) → n ≤ i → P i j ≡ none

-- a table t with room for all pairs, which has the pairs P in its first n rows
pub record InRows (n : ℕ) (P : PairsBy) (t : List ℕ) : Type 0 where
  pub room : pair_places ≤ length t
  pub rows : n ≤ max_points
  pub pairs : Pairs P t
  pub below : Below n P

-- what the tables of the points became
pub record Drawn (t : Tests) (C : List ℕ) (ch : Batch) (S : Stood) (B : List (Option ℕ)) (points points' statuses statuses' blockers blockers' : List ℕ) : Type 0 where
  pub keys_are : points' ≡ pad max_points (keys S) ++ drop max_points points
  pub statuses_are : statuses' ≡ pad max_points (numbers_of S) ++ drop max_points statuses
  pub blocks_are : blockers' ≡ pad max_points (codes (point_blocks t C ch B S)) ++ drop max_points blockers

-- and the table of the pairs, which were P before
pub record Redrawn (t : Tests) (C : List ℕ) (ch : Batch) (S : Stood) (B : List (Option ℕ)) (P : PairsBy) (points points' statuses statuses' blockers blockers' pairs pairs' : List ℕ) : Type 0 where
  pub drawn : Drawn t C ch S B points points' statuses statuses' blockers blockers'
  pub filled : Filled (pair_at t C ch P S) pairs pairs'

-- ---- what the functions promise, of the cells C, the confirmed changes and the new points with their moods
-- the pairs of the new points, over those of `count` points
abbrev pub ReplacesPairs : Float → Float → List ℕ → List ℕ → List ℕ → List ℕ → List ℕ → ℕ → List ℕ → List ℕ → Type 0
ReplacesPairs size radius C confirmed full present moods count pairs pairs' =
    (ch : Batch) (S : Stood) (P : PairsBy) → Seeing C ch S confirmed full present moods → PairsNamed P → InRows count P pairs
    → Filled (pair_at (tests size radius) C ch P S) pairs pairs'

-- the layer's tables t', over those t of `count` points; the cells of either do not matter
abbrev pub Redraws : Float → Float → ℕ → List ℕ → List ℕ → List ℕ → List ℕ → List ℕ → ℕ → Tables → Tables → Type 0
Redraws size radius reach C confirmed full present moods count t t' =
    (ch : Batch) (S : Stood) (B : List (Option ℕ)) (P : PairsBy) → reach ≡ cell.reach (shift_of size radius)
    → Drawing C ch S B confirmed full present moods t.points t.statuses t.blockers count → PairsNamed P → InRows count P t.pairs
    → Redrawn (tests size radius) C ch S B P t.points t'.points t.statuses t'.statuses t.blockers t'.blockers t.pairs t'.pairs

-- the same from no old point, over those of `before` points
abbrev pub Afresh : Float → Float → ℕ → List ℕ → List ℕ → List ℕ → List ℕ → List ℕ → ℕ → Tables → Tables → Type 0
Afresh size radius reach C confirmed full present moods before t t' =
    (ch : Batch) (S : Stood) (P Q : PairsBy) → reach ≡ cell.reach (shift_of size radius)
    → Drawing C ch S [] confirmed full present moods t.points t.statuses t.blockers 0 → Below 0 P → InRows before Q t.pairs
    → Redrawn (tests size radius) C ch S [] P t.points t'.points t.statuses t'.statuses t.blockers t'.blockers t.pairs t'.pairs
