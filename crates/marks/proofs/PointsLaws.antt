-- The points after corners changed: what the marks over the gathered keys leave, and when there are too many. Assumes nothing.
use Rattle.std.proofs.Common.{◌≡◌, ℕ, zero, suc, ◌-◌, ◌<◌, ◌≤◌, Bool, true, false, cond, List, ◌++◌, length, take, drop, replicate, sym, refl, ap, ◌∙◌, subst, arith, None, Some}
use native.Mathlib.Nat.{sub-zero, suc-sub-suc, zero-sub}
use lib.ListN.{length-replicate}
use Rattle.corner.specs.Changes.{numbered}
use Rattle.model.specs.ClosedForm.{stand}
use Rattle.model.specs.Corner.{Bits}
use Rattle.model.specs.Layer.{Points, marks}
use Rattle.model.specs.Limits.{max_points, max_shift, need_corners}
use Rattle.model.specs.Maps.{AscL, has, keys}
use Rattle.model.proofs.OrderLaws.{asc_keys}
use Rattle.table.specs.Listed.{Listed}
use Rattle.table.specs.Copied.{Copied}
use Rattle.table.specs.Tables.{Table, pad, rank}
use Rattle.table.proofs.ListedLaws.{keys_length, values_length}
use Rattle.table.proofs.RankLaws.{rank_le}
use Rattle.table.proofs.TableLaws.{pad_length, pad_table, pad_take}
use Rattle.marks.specs.Marked.{Answered, Begins, Gathers, Marking, MarksAll, Picks, candidate_room, ended, ending, max_candidates}
use Rattle.marks.specs.Standing.{Standing, begun, standing, words}
use Rattle.held.proofs.LayerLaws.{statuses_length}
use Rattle.marks.proofs.StandLaws.{numbered_length}

pub drop_zeros : (j m : ℕ) → drop {A = ℕ} j (replicate m 0) ≡ replicate (m - j) 0
drop_zeros zero m = ap (λ (i : ℕ). replicate {A = ℕ} i 0) (sym (sub-zero m))
drop_zeros (suc j) zero = ap (λ (i : ℕ). replicate {A = ℕ} i 0) (sym (zero-sub (suc j)))
drop_zeros (suc j) (suc m) = drop_zeros j m ∙ ap (λ (i : ℕ). replicate {A = ℕ} i 0) (sym (suc-sub-suc m j))

-- ---- before the marks
begun_old : (ps : Points) (k : ℕ) → (begun ps k).old ≤ suc (length ps)
unfolding begun
begun_old ps k = go (has k (keys ps))
  where
    go : (b : Bool) → cond b (suc (rank k (keys ps))) 0 ≤ suc (length ps)
    go true = omega (arith, rank_le k (keys ps), keys_length ps)
    go false = omega arith

begun_first : (ps : Points) (k : ℕ) → (begun ps k).first ≡ 0
unfolding begun
begun_first ps k = refl

-- ---- the answer
module _ (s : ℕ) (ps : Points) (changed : List (ℕ × Bits)) (points statuses corners altered : List ℕ) (M : Marking s ps changed points statuses corners altered) where
  points_few : length points ≡ length ps
  points_few = ap length M.keys_are ∙ keys_length ps

  -- what is lent fits
  pub sizes : (s ≤ max_shift) × (length points ≤ max_points) × (length points ≤ length statuses) × (length corners ≤ need_corners) × (length corners ≤ length altered)
  sizes =
      let st : length statuses ≡ length ps = ap length M.statuses_are ∙ statuses_length ps in
      let co : length corners ≡ length changed = ap length M.corners_are ∙ keys_length changed in
      let bi : length altered ≡ length changed = ap length M.altered_are ∙ values_length (numbered changed) ∙ numbered_length changed in
      (M.small, omega (arith, points_few, M.few), omega (arith, points_few), omega (arith, M.count), omega arith)

  -- ---- over the candidates, whose words are m, and m' after the marks
  module _ (candidates m m' : List ℕ) (asc : AscL 0 candidates) (e : candidates ≡ stand (marks s changed) (keys ps)) (b : Begins points statuses candidates m)
      (r : MarksAll s candidates corners altered m m') where
    abbrev after : ℕ → Standing
    after k = standing 0 (marks s changed) k (begun ps k)

    marked_all : m' ≡ words after candidates
    marked_all =
        r (begun ps) changed asc (λ x. (omega (arith, begun_old ps x, M.few), begun_first ps x)) M.corners_are M.altered_are M.inside (b ps M.keys_are M.statuses_are M.order)

    ended_all : ending after candidates ≡ ended s ps changed
    ended_all = ap (ending after) e

    module _ (n : ℕ) (counted : (f : ℕ → Standing) (K : List ℕ) → m' ≡ words f K → n ≡ length (ending f K)) where
      count_is : n ≡ length (ended s ps changed)
      count_is = counted after candidates marked_all ∙ ap length ended_all

      pub keys_many : max_points < n → (x y : List ℕ) → Answered s ps changed x x y y None
      keys_many h x y = (omega (arith, count_is), refl, refl)

      pub keys_few : n ≤ max_points → (x x' y y' : List ℕ) (u : ℕ) → max_points ≤ length x → max_points ≤ length y
          → Picks candidates m' x x' y y' u
          → Answered s ps changed x x' y y' (Some u)
      keys_few h x x' y y' u rx ry f =
          let few : length (ended s ps changed) ≤ max_points = omega (arith, count_is) in
          let z : length (ending after candidates) ≡ length (ended s ps changed) = ap length ended_all in
          (few, subst (λ (q : List (ℕ × ℕ)). Listed q x x' y y' u) ended_all (f after marked_all (omega arith) (omega arith)))

  -- ---- the candidates are gathered from the points; the unused rest of t is zero
  module _ (t t' : List ℕ) (copied : Copied points (replicate candidate_room 0) t) (n : ℕ)
      (gathered : Gathers s corners altered t (length points) t' n) where
    padded : t ≡ pad candidate_room points
    padded = copied.done (rw (length-replicate {A = ℕ} candidate_room 0) (omega (arith, sizes.1))) ∙ ap (λ (z : List ℕ). points ++ z) (drop_zeros (length points) candidate_room)

    first : take (length points) t ≡ keys ps
    first = ap (take (length points)) padded ∙ pad_take candidate_room points ∙ M.keys_are

    all : (n ≤ max_candidates → Table t' n × (take n t' ≡ stand (marks s changed) (take (length points) t))) × (max_candidates < n → max_candidates < length (stand (marks s changed) (take (length points) t)))
    all =
        let order : AscL 0 points = subst (AscL 0) (sym M.keys_are) (asc_keys 0 ps M.order) in
        let table : Table (pad candidate_room points) (length points) = pad_table candidate_room points (omega (arith, sizes.1)) order in
        gathered changed M.corners_are M.altered_are M.inside (rw padded table) (omega (arith, sizes.1)) (rw (ap length padded ∙ pad_length candidate_room points (omega (arith, sizes.1))) (omega arith))

    -- more than there may be stood on the way: too many are left
    pub gathered_many : max_candidates < n → (x y : List ℕ) → Answered s ps changed x x y y None
    gathered_many h x y =
        let g : max_candidates < length (stand (marks s changed) (take (length points) t)) = all.1 h in
        let z : length (stand (marks s changed) (take (length points) t)) ≡ length (stand (marks s changed) (keys ps)) = ap (λ (l : List ℕ). length (stand (marks s changed) l)) first in
        (omega (arith, M.flight, M.few), refl, refl)

    pub gathered_few : n ≤ max_candidates → AscL 0 (take n t') × (take n t' ≡ stand (marks s changed) (keys ps))
    gathered_few h = let g = all.0 h in (g.0.asc, g.1 ∙ ap (stand (marks s changed)) first)
