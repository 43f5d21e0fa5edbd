-- Tables that are as long as their needs: those that a call has of its own. Assumes nothing.
use Rattle.std.proofs.Common.{◌≡◌, ℕ, ◌≤◌, false, List, [], ◌∷◌, length, drop, refl, ap, ◌∙◌, arith, length-drop, replicate, le-ltb}
use Rattle.std.proofs.lemmas.List.{length-replicate}
use Rattle.held.specs.Pairs.{pair_places}
use Rattle.model.specs.Limits.{max_cells, max_points}
use Rattle.model.specs.Map as model
use Rattle.model.specs.Refusal.{short}
use Rattle.held.proofs.RoomLaws.{Enough}
use Rattle.held.specs.Holds.{Behind, Holds, Tables, needs}
use Rattle.held.specs.declared.map.Map.{Map}
use Rattle.mapfile.proofs.FeedLaws.{held_long}
use Rattle.held.proofs.RoomLaws.{long_enough}

pub not_short : (l : List (ℕ × ℕ)) → Enough l → short l ≡ false
unfolding short
not_short [] h = refl
not_short (b ∷ l) h = rw (le-ltb b.0 b.1 h.0) (not_short l h.1)

pub record Whole (t : Tables) : Type 0 where
  pub cells : length t.cells ≡ max_cells
  pub points : length t.points ≡ max_points
  pub statuses : length t.statuses ≡ max_points
  pub blockers : length t.blockers ≡ max_points
  pub pairs : length t.pairs ≡ pair_places

pub whole_long : (t : Tables) → Whole t → short (needs t) ≡ false
whole_long t w = not_short (needs t) (omega arith, (omega arith, (omega arith, (omega arith, (omega arith, tt)))))

-- all zero, as a call has them at first
abbrev pub zeros : Tables
zeros =
    record {
      cells = replicate max_cells 0;
      points = replicate max_points 0;
      statuses = replicate max_points 0;
      blockers = replicate max_points 0;
      pairs = replicate pair_places 0;
    }

pub zeros_whole : Whole zeros
zeros_whole =
    record {
      cells = length-replicate {A = ℕ} max_cells 0;
      points = length-replicate {A = ℕ} max_points 0;
      statuses = length-replicate {A = ℕ} max_points 0;
      blockers = length-replicate {A = ℕ} max_points 0;
      pairs = length-replicate {A = ℕ} pair_places 0;
    }

-- they stay whole
same_length : (n : ℕ) (l l' : List ℕ) → length l ≡ n → n ≤ length l' → drop n l' ≡ drop n l → length l' ≡ n
same_length n l l' h k e = let a = length-drop n l in let b = length-drop n l' in let f = ap length e in omega arith

pub whole_stays : (m : Map) (t t' : Tables) (M : model.Map) → Whole t → Behind t t' → Holds m t' M → Whole t'
whole_stays m t t' M w b h =
    let e = long_enough (needs t') (held_long m t' M h) in
    record {
      cells = same_length max_cells t.cells t'.cells w.cells e.0 b.cells;
      points = same_length max_points t.points t'.points w.points e.1.0 b.points;
      statuses = same_length max_points t.statuses t'.statuses w.statuses e.1.1.0 b.statuses;
      blockers = same_length max_points t.blockers t'.blockers w.blockers e.1.1.1.0 b.blockers;
      pairs = b.pairs_long ∙ w.pairs;
    }
