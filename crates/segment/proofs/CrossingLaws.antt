-- Where a segment crosses a line: at two places at most. Assumes nothing.
use Rattle.std.proofs.Common.{◌≡◌, Bool, true, false, cond, ◌&&◌, [], ◌∷◌, refl}
use lib.Ieee.{Float, binary64, add, sub, mul, div, lt}
use Rattle.ieee.specs.Pick.{abs_f}
use Rattle.model.specs.Plane.{tiny}
use Rattle.model.specs.Segment.{Seg, vertical_at}
use Rattle.segment.specs.Crossing.{places, values}

module _ (s : Seg) (x : Float) where
  -- two places are enough
  pub places_hold : values (places (vertical_at s x)) ≡ vertical_at s x
  unfolding vertical_at
  places_hold =
      go (lt x s.p0.x && lt x s.p1.x) (lt s.p0.x x && lt s.p1.x x) (lt (abs_f (sub binary64 s.p1.x s.p0.x)) tiny)
      (add binary64 (mul binary64 (div binary64 (sub binary64 s.p1.y s.p0.y) (sub binary64 s.p1.x s.p0.x)) (sub binary64 x s.p0.x)) s.p0.y) s.p0.y s.p1.y
    where
      go : (a b c : Bool) (v y z : Float) → values (places (cond a [] (cond b [] (cond c (y ∷ z ∷ []) (v ∷ []))))) ≡ cond a [] (cond b [] (cond c (y ∷ z ∷ []) (v ∷ [])))
      go true b c v y z = refl
      go false true c v y z = refl
      go false false true v y z = refl
      go false false false v y z = refl
