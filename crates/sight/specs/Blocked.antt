-- Between functions: what blocks the points after the changes. Definitions only.
use Rattle.std.specs.Prelude.{ℕ, ◌-◌, ◌≤◌, ◌≡◌, cond, List, [], ◌∷◌, ◌++◌, eqb, Float, drop, get_or, length}
use Rattle.std.proofs.Math.Option.{Option, none}
use Rattle.limits.specs.Batches.{flags}
use Rattle.held.specs.Codes.{AllNamed, Named, block_code, codes}
use Rattle.marks.specs.Standing.{Small, Standing, mood, word}
use Rattle.marks.specs.declared.mood.Mood.{Mood}
use Rattle.model.specs.Batch.{Batch}
use Rattle.model.specs.Cell as cell
use Rattle.model.specs.ClosedForm.{point_run}
use Rattle.model.specs.Good.{Inside}
use Rattle.model.specs.Layer.{Tests}
use Rattle.model.specs.Limits.{max_coordinate, max_points}
use Rattle.model.specs.Map.{shift_of, tests}
use Rattle.model.specs.Maps.{AscL, keys}
use Rattle.table.specs.Listed.{values}
use Rattle.table.specs.Tables.{All}

-- ---- the points in the end, each with what was kept of it
abbrev pub Stood : Type 0
Stood = List (ℕ × Standing)

abbrev pub words_of : Stood → List ℕ
words_of [] = []
words_of (e ∷ S) = word e.1 ∷ words_of S

abbrev pub Fitting : Stood → Type 0
Fitting [] = Unit {0}
Fitting (e ∷ S) = Small e.1 × (e.1.old ≤ max_points) × Fitting S

-- ---- what the code is lent: the cells C, the confirmed changes ch, the points S
pub record Seeing (C : List ℕ) (ch : Batch) (S : Stood) (confirmed full points moods : List ℕ) : Type 0 where
  pub order : AscL 0 C
  pub inside : All (Inside max_coordinate) C
  pub changes : All (Inside max_coordinate) (keys ch)
  pub fitting : Fitting S
  pub confirmed_are : confirmed ≡ keys ch
  pub full_are : full ≡ values (flags ch)
  pub points_are : points ≡ keys S
  pub moods_are : moods ≡ words_of S

-- ---- blockers
-- where a point's blocker begins: with the old one, or with the square test (`start_block`)
unfoldable pub point_start : Tests → List ℕ → List (Option ℕ) → ℕ → Standing → Option ℕ
point_start t C B k w = let new = (t.square C k).cell in cond (eqb w.old 0) new (get_or B (w.old - 1) none)

unfoldable pub point_blocks : Tests → List ℕ → Batch → List (Option ℕ) → Stood → List (Option ℕ)
point_blocks t C ch B [] = []
point_blocks t C ch B (e ∷ S) = point_run t C e.0 ch (point_start t C B e.0 e.1) ∷ point_blocks t C ch B S

-- ---- what the steps promise of one point, and of all; `reach` is the reach of the radius
-- the changes in next make r of the blocker `start` of the point k
abbrev pub PointRuns : Float → Float → ℕ → List ℕ → List ℕ → List ℕ → ℕ → ℕ → ℕ → Type 0
PointRuns size radius reach C confirmed full k start r =
    (ch : Batch) (o : Option ℕ) → AscL 0 C → All (Inside max_coordinate) C → All (Inside max_coordinate) (keys ch) → confirmed ≡ keys ch → full ≡ values (flags ch)
    → reach ≡ cell.reach (shift_of size radius) → start ≡ block_code o → Named o → r ≡ block_code (point_run (tests size radius) C k ch o)

abbrev pub PointStarts : Float → Float → List ℕ → List ℕ → ℕ → Mood → ℕ → Type 0
PointStarts size radius C old k was r =
    (B : List (Option ℕ)) (w : Standing) → AscL 0 C → All (Inside max_coordinate) C → old ≡ codes B → was ≡ mood w → r ≡ block_code (point_start (tests size radius) C B k w)

abbrev pub BlocksPoints : Float → Float → ℕ → List ℕ → List ℕ → List ℕ → List ℕ → List ℕ → List ℕ → List ℕ → List ℕ → Type 0
BlocksPoints size radius reach C confirmed full points moods old out out' =
    (ch : Batch) (S : Stood) (B : List (Option ℕ)) → Seeing C ch S confirmed full points moods → reach ≡ cell.reach (shift_of size radius) → old ≡ codes B → AllNamed B
    → length S ≤ length out → out' ≡ codes (point_blocks (tests size radius) C ch B S) ++ drop (length S) out
