-- The points that the marks leave, listed over zeros: they are those of the layer afterwards. Assumes nothing.
use Rattle.std.specs.Prelude.{Option, Some, None}
use Prim.Native.Nat.{ℕ, ◌≤◌, ◌<◌}
use native.Mathlib.Omega.{arith}
use mathlib.Core.Path.{◌≡◌, refl, ap, ◌∙◌}
use mathlib.Core.List.{List, [], ◌∷◌}
use lib.ListN.{length, length-replicate, replicate, take}
use Rattle.corner.specs.Changes.{numbered}
use Rattle.marks.specs.Marked.{Answered, Marking, Marks, ended}
use Rattle.model.specs.Batch.{Batch}
use Rattle.model.specs.ClosedForm.{Closed}
use Rattle.model.specs.Corner.{Bits}
use Rattle.model.specs.Layer.{Layer, Tests, marks}
use Rattle.model.specs.Limits.{max_points}
use Rattle.model.specs.Maps.{Asc, keys}
use Rattle.sight.specs.Blocked.{words_of}
use Rattle.table.specs.Listed.{Listed}
use Rattle.table.proofs.ListedLaws.{listed_cells, listed_numbers}
use Rattle.visibility.specs.Layers.{stood_of}
use Rattle.visibility.proofs.StoodLaws.{ended_keys, ended_length, ended_values}

pub numbered_keys : (changed : List (ℕ × Bits)) → keys (numbered changed) ≡ keys changed
unfolding keys
numbered_keys [] = refl
numbered_keys (e ∷ changed) = ap (λ (r : List ℕ). e.0 ∷ r) (numbered_keys changed)

module _ {t : Tests} {C : List ℕ} {ch : Batch} (changed : List (ℕ × Bits)) {l l' : Layer} (cl : Closed t C ch (marks t.shift changed) l l') (order : Asc 0 l.points)
    {points statuses corners altered : List ℕ} (given : Marking t.shift l.points changed points statuses corners altered) where
  abbrev E : List (ℕ × ℕ)
  E = ended t.shift l.points changed

  long : length E ≡ length l'.points
  long = ended_length changed cl order

  -- what is answered of room for as many as there may be
  module _ (present moods : List ℕ) (r : Option ℕ) (g : Marks t.shift points statuses corners altered (replicate max_points 0) present (replicate max_points 0) moods r) where
    told : Answered t.shift l.points changed (replicate max_points 0) present (replicate max_points 0) moods r
    told =
        let z : max_points ≤ length (replicate {A = ℕ} max_points 0) = rw (length-replicate {A = ℕ} max_points 0) (omega arith) in
        g l.points changed given z z

  pub marked_many : (present moods : List ℕ) → Marks t.shift points statuses corners altered (replicate max_points 0) present (replicate max_points 0) moods None → max_points < length l'.points
  marked_many present moods g = rw (← long) (told present moods None g).0

  -- how many they are, and their lists
  module _ (present moods : List ℕ) (n : ℕ) (g : Marks t.shift points statuses corners altered (replicate max_points 0) present (replicate max_points 0) moods (Some n)) where
    listed : Listed E (replicate max_points 0) present (replicate max_points 0) moods n
    listed = (told present moods (Some n) g).1

    pub marked_few : length l'.points ≤ max_points
    marked_few = rw (← long) (told present moods (Some n) g).0

    pub marked_count : n ≡ length l'.points
    marked_count = listed.count ∙ long

    pub marked_keys : take n present ≡ keys l'.points
    marked_keys = listed_cells E (replicate max_points 0) present (replicate max_points 0) moods n listed ∙ ended_keys changed cl order

    pub marked_words : take n moods ≡ words_of (stood_of (marks t.shift changed) l.points l'.points)
    marked_words = listed_numbers E (replicate max_points 0) present (replicate max_points 0) moods n listed ∙ ended_values changed cl order
