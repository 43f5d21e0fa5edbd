-- The lists of points and pairs as calls on a map (RULES 2.2; occupancy/mod.rs, `iter_points`, `iter_edges`): the refusal that is due, the map that is held, the outputs. Definitions only.
use Rattle.std.specs.Prelude.{ℕ, ◌≡◌, List, [], ◌∷◌, length}
use Rattle.answers.specs.Asking.{HoldsSome, Listing, Output, refuse_map}
use Rattle.answers.specs.declared.judge.Count.{Count}
use Rattle.held.specs.Layers.{blocks_of, statuses_of}
use Rattle.model.specs.Answers.{all_pairs, free_points, open_pairs}
use Rattle.model.specs.Answers as asked
use Rattle.model.specs.Limits.{max_points, need_others, need_pairs}
use Rattle.model.specs.Map as model
use Rattle.model.specs.Maps.{keys}
use Rattle.model.specs.Refusal.{short}
use Rattle.held.specs.Codes.{codes}
use Rattle.held.specs.Pairs.{pair_places}
use Rattle.held.specs.declared.map.Map.{Map}
use Rattle.answers.specs.Columns.{greaters, lessers, pair_blocks}

-- `all_points`: the points, their statuses, their blockers
module _ (m : Map) (points statuses blockers out bits blocks : List ℕ) where
  abbrev pub points_due : ℕ
  points_due =
      refuse_map
      (short ((length points, max_points) ∷ (length statuses, max_points) ∷ (length blockers, max_points) ∷ (length out, need_others) ∷ (length bits, need_others) ∷ (length blocks, need_others) ∷ [])) m []

  abbrev pub PointsHeld : model.Map → Type 0
  PointsHeld = HoldsSome m (λ t. (t.points ≡ points) × (t.statuses ≡ statuses) × (t.blockers ≡ blockers))

  abbrev pub points_out : List ℕ → List ℕ → List ℕ → List Output
  points_out out' bits' blocks' =
      record { was = out; is = out'; wanted = λ M. keys (asked.points M) } ∷ record { was = bits; is = bits'; wanted = λ M. statuses_of (asked.points M) }
      ∷ record { was = blocks; is = blocks'; wanted = λ M. codes (blocks_of (asked.points M)) } ∷ []

  abbrev pub AllPoints : List ℕ → List ℕ → List ℕ → Count → Type 0
  AllPoints out' bits' blocks' r = Listing points_due PointsHeld (points_out out' bits' blocks') r

-- `free_points`: the points that nothing blocks
module _ (m : Map) (points blockers out : List ℕ) where
  abbrev pub free_due : ℕ
  free_due = refuse_map (short ((length points, max_points) ∷ (length blockers, max_points) ∷ (length out, need_others) ∷ [])) m []

  abbrev pub FreeHeld : model.Map → Type 0
  FreeHeld = HoldsSome m (λ t. (t.points ≡ points) × (t.blockers ≡ blockers))

  abbrev pub free_out : List ℕ → List Output
  free_out out' = record { was = out; is = out'; wanted = λ M. keys (free_points M) } ∷ []

  abbrev pub FreePoints : List ℕ → Count → Type 0
  FreePoints out' r = Listing free_due FreeHeld (free_out out') r

-- `all_pairs`: the pairs in three columns
module _ (m : Map) (points pairs lesser greater blocks : List ℕ) where
  abbrev pub pairs_due : ℕ
  pairs_due =
      refuse_map
      (short ((length points, max_points) ∷ (length pairs, pair_places) ∷ (length lesser, need_pairs) ∷ (length greater, need_pairs) ∷ (length blocks, need_pairs) ∷ [])) m []

  abbrev pub PairsHeld : model.Map → Type 0
  PairsHeld = HoldsSome m (λ t. (t.points ≡ points) × (t.pairs ≡ pairs))

  abbrev pub pairs_out : List ℕ → List ℕ → List ℕ → List Output
  pairs_out lesser' greater' blocks' =
      record { was = lesser; is = lesser'; wanted = λ M. lessers (all_pairs M) } ∷ record { was = greater; is = greater'; wanted = λ M. greaters (all_pairs M) }
      ∷ record { was = blocks; is = blocks'; wanted = λ M. pair_blocks (all_pairs M) } ∷ []

  abbrev pub AllPairs : List ℕ → List ℕ → List ℕ → Count → Type 0
  AllPairs lesser' greater' blocks' r = Listing pairs_due PairsHeld (pairs_out lesser' greater' blocks') r

-- `open_pairs`: the open pairs in two columns
module _ (m : Map) (points blockers pairs lesser greater : List ℕ) where
  abbrev pub open_due : ℕ
  open_due =
      refuse_map
      (short ((length points, max_points) ∷ (length blockers, max_points) ∷ (length pairs, pair_places) ∷ (length lesser, need_pairs) ∷ (length greater, need_pairs) ∷ [])) m []

  abbrev pub OpenHeld : model.Map → Type 0
  OpenHeld = HoldsSome m (λ t. (t.points ≡ points) × (t.blockers ≡ blockers) × (t.pairs ≡ pairs))

  abbrev pub open_out : List ℕ → List ℕ → List Output
  open_out lesser' greater' = record { was = lesser; is = lesser'; wanted = λ M. lessers (open_pairs M) } ∷ record { was = greater; is = greater'; wanted = λ M. greaters (open_pairs M) } ∷ []

  abbrev pub OpenPairs : List ℕ → List ℕ → Count → Type 0
  OpenPairs lesser' greater' r = Listing open_due OpenHeld (open_out lesser' greater') r
