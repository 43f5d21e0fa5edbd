-- Between functions: what blocks the pairs after the changes. Definitions only.
use Rattle.std.specs.Prelude.{ℕ, ◌-◌, ◌≤◌, ◌≡◌, cond, ◌&&◌, ◌||◌, List, eqb, ltb, Float, drop, get_or, length}
use Rattle.std.proofs.Math.Option.{Option, none, some}
use Rattle.held.specs.Codes.{Named, block_code, pair_code}
use Rattle.limits.specs.Batches.{flags}
use Rattle.marks.specs.Standing.{Standing, mood, sooner}
use Rattle.marks.specs.declared.mood.Mood.{Mood}
use Rattle.model.specs.Batch.{Batch}
use Rattle.model.specs.ClosedForm.{or_else}
use Rattle.model.specs.Corner.{sees, zero4}
use Rattle.model.specs.Good.{Inside}
use Rattle.model.specs.Layer.{Tests, edge_run}
use Rattle.model.specs.Limits.{max_coordinate, max_points}
use Rattle.model.specs.Map.{tests}
use Rattle.model.specs.Maps.{AscL, keys}
use Rattle.segment.specs.Near.{IsProximity}
use Rattle.segment.specs.declared.near.Proximity.{Proximity}
use Rattle.table.specs.Listed.{values}
use Rattle.table.specs.Tables.{All}
use Rattle.held.specs.Pairs.{Pairs, PairsBy, PairsNamed, pair_places}
use Rattle.sight.specs.Blocked.{Stood}

-- the pair of two old points, by their places in the old table P
unfoldable pub old_pair : PairsBy → Standing → Standing → Option (Option ℕ)
old_pair P w v = cond (eqb w.old 0 || eqb v.old 0) none (P (w.old - 1) (v.old - 1))

-- where the blocker of the pair p < q begins: with the old one, or with the sweep from the end that was queued first (`new_block`)
unfoldable pub pair_start : Tests → List ℕ → PairsBy → ℕ → Standing → ℕ → Standing → Option ℕ
pair_start t C P p w q v =
    let x = (t.sweep C p q).cell in
    let y = (t.sweep C q p).cell in
    or_else (old_pair P w v) (cond (sooner w.first v.first) x y)

-- the pair p < q: held where each is in the other's visible quadrant
unfoldable pub pair_between : Tests → List ℕ → Batch → PairsBy → ℕ → Standing → ℕ → Standing → Option (Option ℕ)
pair_between t C ch P p w q v =
    let b = some (edge_run t C p q ch (pair_start t C P p w q v)) in
    cond (sees p q v.bits && sees q p w.bits) b none

-- ---- the table of pairs
abbrev pub point_at : Stood → ℕ → ℕ × Standing
point_at S i = get_or S i (0, record { bits = zero4; old = 0; first = 0 })

-- the pair of the points at two places, from either end
unfoldable pub pair_at : Tests → List ℕ → Batch → PairsBy → Stood → PairsBy
pair_at t C ch P S i j =
    let p = point_at S i in
    let q = point_at S j in
    let x = pair_between t C ch P p.0 p.1 q.0 q.1 in
    let y = pair_between t C ch P q.0 q.1 p.0 p.1 in
    cond (ltb i j && ltb j (length S)) x (cond (ltb j i && ltb i (length S)) y none)

-- the table t became t', with the pairs P; the unused rest is as it was
pub record Filled (P : PairsBy) (t t' : List ℕ) : Type 0 where
  pub same : length t' ≡ length t
  pub pairs : Pairs P t'
  pub rest : drop pair_places t' ≡ drop pair_places t

-- ---- what the steps promise of one pair
-- the changes in next make r of the blocker `start` of the pair
abbrev pub PairRuns : Float → Float → Proximity → List ℕ → List ℕ → List ℕ → ℕ → ℕ → ℕ → ℕ → Type 0
PairRuns size radius proximity C confirmed full p q start r =
    (ch : Batch) (o : Option ℕ) → AscL 0 C → All (Inside max_coordinate) C → All (Inside max_coordinate) (keys ch) → confirmed ≡ keys ch → full ≡ values (flags ch)
    → IsProximity size radius proximity → start ≡ block_code o → Named o → r ≡ block_code (edge_run (tests size radius) C p q ch o)

-- r is the number of the pair of p, of mood `was`, and q, of mood `other`
abbrev pub PairIs : Float → Float → Proximity → List ℕ → List ℕ → List ℕ → List ℕ → ℕ → Mood → ℕ → Mood → ℕ → Type 0
PairIs size radius proximity C confirmed full old p was q other r =
    (ch : Batch) (P : PairsBy) (w v : Standing) → AscL 0 C → All (Inside max_coordinate) C → All (Inside max_coordinate) (keys ch) → confirmed ≡ keys ch → full ≡ values (flags ch)
    → IsProximity size radius proximity → Pairs P old → PairsNamed P → was ≡ mood w → other ≡ mood v → w.old ≤ max_points → v.old ≤ max_points
    → r ≡ pair_code (pair_between (tests size radius) C ch P p w q v)
