-- Between functions: the points that the marks of some corners leave, as they are listed. Definitions only.
use Rattle.std.specs.Prelude.{◌≡◌, ℕ, ◌+◌, ◌*◌, ◌^◌, ◌<◌, ◌≤◌, cond, List, [], ◌∷◌, length, take, Option, Some, None}
use Rattle.corner.specs.Changes.{numbered}
use Rattle.model.specs.Cell.{W}
use Rattle.model.specs.ClosedForm.{stand}
use Rattle.model.specs.Corner.{Bits, any_bit}
use Rattle.model.specs.Layer.{Points, marks}
use Rattle.model.specs.Limits.{max_points, max_shift, need_corners}
use Rattle.model.specs.Maps.{Asc, AscL, keys}
use Rattle.table.specs.Listed.{Listed, values}
use Rattle.table.specs.Tables.{All, Table}
use Rattle.held.specs.Layers.{statuses_of}
use Rattle.marks.specs.Standing.{Standing, begun, standing, word, words}

-- as many cells as the largest shift further in every direction are keys too
abbrev pub Bordered : ℕ → Type 0
Bordered k = (65 * W ≤ k) × (k + (65 * W + 65) < 2 ^ 64)

-- of the keys, those that have a status in the end, each with its word
unfoldable pub ending : (ℕ → Standing) → List ℕ → List (ℕ × ℕ)
ending f [] = []
ending f (k ∷ l) = let r = ending f l in cond (any_bit (f k).bits) ((k, word (f k)) ∷ r) r

-- the points that the changed corners leave of ps, for the shift s
abbrev pub ended : ℕ → Points → List (ℕ × Bits) → List (ℕ × ℕ)
ended s ps changed = ending (λ k. standing 0 (marks s changed) k (begun ps k)) (stand (marks s changed) (keys ps))

-- the lent lists are the points ps and the changed corners. Every candidate was a point before or is one in the end
pub record Marking (s : ℕ) (ps : Points) (changed : List (ℕ × Bits)) (points statuses corners altered : List ℕ) : Type 0 where
  pub small : s ≤ max_shift
  pub few : length ps ≤ max_points
  pub order : Asc 0 ps
  pub count : length changed ≤ need_corners
  pub inside : All Bordered (keys changed)
  pub flight : length (stand (marks s changed) (keys ps)) ≤ length ps + length (ended s ps changed)
  pub keys_are : points ≡ keys ps
  pub statuses_are : statuses ≡ statuses_of ps
  pub corners_are : corners ≡ keys changed
  pub altered_are : altered ≡ values (numbered changed)

-- ---- how many candidates there may be: those that there were, and those that there may be in the end. A cell's four are put in before it is seen that there are too many
abbrev pub max_candidates : ℕ
max_candidates = 2 * max_points

abbrev pub candidate_room : ℕ
candidate_room = max_candidates + 4

-- the table t of n candidates became t' with r: the changed corners brought theirs, or there are too many
abbrev pub Gathers : ℕ → List ℕ → List ℕ → List ℕ → ℕ → List ℕ → ℕ → Type 0
Gathers s corners altered t n t' r =
    (changed : List (ℕ × Bits)) → corners ≡ keys changed → altered ≡ values (numbered changed) → All Bordered (keys changed) → Table t n → n ≤ max_candidates → candidate_room ≤ length t
    → (r ≤ max_candidates → Table t' r × (take r t' ≡ stand (marks s changed) (take n t))) × (max_candidates < r → max_candidates < length (stand (marks s changed) (take n t)))

-- ---- a word for each candidate
-- before the marks
abbrev pub Begins : List ℕ → List ℕ → List ℕ → List ℕ → Type 0
Begins points statuses candidates m = (ps : Points) → points ≡ keys ps → statuses ≡ statuses_of ps → Asc 0 ps → m ≡ words (begun ps) candidates

-- all marks turn the words m into m'
abbrev pub MarksAll : ℕ → List ℕ → List ℕ → List ℕ → List ℕ → List ℕ → Type 0
MarksAll s candidates corners altered m m' =
    (f : ℕ → Standing) (changed : List (ℕ × Bits)) → AscL 0 candidates → ((x : ℕ) → ((f x).old < 128) × ((f x).first ≡ 0)) → corners ≡ keys changed → altered ≡ values (numbered changed)
    → All Bordered (keys changed) → m ≡ words f candidates → m' ≡ words (λ x. standing 0 (marks s changed) x (f x)) candidates

-- those that have a status are listed
abbrev pub Picks : List ℕ → List ℕ → List ℕ → List ℕ → List ℕ → List ℕ → ℕ → Type 0
Picks candidates m out out' told told' r =
    (f : ℕ → Standing) → m ≡ words f candidates → length (ending f candidates) ≤ length out → length (ending f candidates) ≤ length told → Listed (ending f candidates) out out' told told' r

-- ---- the points in the end are listed; or there are too many, and nothing is written
abbrev pub Answered : ℕ → Points → List (ℕ × Bits) → List ℕ → List ℕ → List ℕ → List ℕ → Option ℕ → Type 0
Answered s ps changed out out' told told' None = (max_points < length (ended s ps changed)) × (out' ≡ out) × (told' ≡ told)
Answered s ps changed out out' told told' (Some n) = (length (ended s ps changed) ≤ max_points) × Listed (ended s ps changed) out out' told told' n

abbrev pub Marks : ℕ → List ℕ → List ℕ → List ℕ → List ℕ → List ℕ → List ℕ → List ℕ → List ℕ → Option ℕ → Type 0
Marks s points statuses corners altered out out' told told' r =
    (ps : Points) (changed : List (ℕ × Bits)) → Marking s ps changed points statuses corners altered → max_points ≤ length out → max_points ≤ length told
    → Answered s ps changed out out' told told' r
