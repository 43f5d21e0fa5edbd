-- The points that are seen from a cell which is none. Assumes nothing.
use Prim.Native.Nat.{ℕ, ◌<◌}
use mathlib.Core.Path.{◌≡◌, refl, sym, ap, ◌∙◌}
use mathlib.Core.Bool.{Bool, true, false, ◌&&◌}
use mathlib.Core.List.{List}
use mathlib.Core.Option.{Option}
use lib.Dec.{eqb}
use lib.Ieee.{Float}
use lib.ListN.{get_or, length}
use Rattle.answers.specs.Asking.{Front}
use Rattle.held.specs.Layers.{blocks_of, statuses_of}
use Rattle.model.specs.Answers.{free}
use Rattle.model.specs.Corner.{Bits, number, sees}
use Rattle.model.specs.Good.{Inside}
use Rattle.model.specs.Layer.{Point, Points}
use Rattle.model.specs.Limits.{max_coordinate}
use Rattle.model.specs.Map.{tests}
use Rattle.model.specs.Maps.{AscL, keys}
use Rattle.held.specs.Codes.{AllNamed, Named, block_code, codes}
use Rattle.table.specs.Tables.{All}
use Rattle.table.proofs.ListedLaws.{keys_length}
use Rattle.views.specs.Kept.{seen}
use Rattle.answers.specs.Walks.{picked}
use Rattle.answers.proofs.KeepLaws.{Says, picked_keys}
use Rattle.answers.proofs.PointLaws.{block_at, key_at_lem, named_at, nowhere, point_at, status_at_lem}
use Rattle.views.proofs.FreeLaws.{found_is, found_none, found_some}

-- ---- one point, by its blocker's number, whether it sees the cell, and the sweep
module _ (o : Option ℕ) (blocker : ℕ) (n : Named o) (e : blocker ≡ block_code o) where
  pub seen_blocked : (x : Bool) → (blocker ≡ 0 → ⊥) → false ≡ (free o && x)
  seen_blocked x z = rw (found_some o blocker n e z) refl

  module _ (z : blocker ≡ 0) (s : Bool) where
    pub seen_hidden : (x : Bool) → s ≡ false → false ≡ (free o && (s && x))
    seen_hidden x f = rw (found_none o blocker n e z, f) refl

    pub seen_swept : (w : Option ℕ) (r : ℕ) → s ≡ true → Named w → r ≡ block_code w → eqb r 0 ≡ (free o && (s && free w))
    seen_swept w r f m g = rw (found_none o blocker n e z, f) (sym (found_is w r m g))

-- ---- the points that are seen
module _ (size radius : Float) (C points statuses blockers : List ℕ) (k : ℕ) where
  abbrev sight : ℕ × Point → Bool
  sight q = free q.1.block && (sees k q.0 q.1.bits && free ((tests size radius).sweep C k q.0).cell)

  -- what a test of the i-th point says
  abbrev pub Says_seen : ℕ → Bool → Type 0
  Says_seen i r =
      (b : Bits) (o : Option ℕ) → AscL 0 C → All (Inside max_coordinate) C → get_or statuses i 0 ≡ number b → get_or blockers i 0 ≡ block_code o → Named o
      → r ≡ (free o && (sees k (get_or points i 0) b && free ((tests size radius).sweep C k (get_or points i 0)).cell))

  module _ (ps : Points) (u : AscL 0 C) (v : All (Inside max_coordinate) C) (x : points ≡ keys ps) (y : statuses ≡ statuses_of ps) (z : blockers ≡ codes (blocks_of ps)) (n : AllNamed (blocks_of ps)) where
    told_at : (i : ℕ) (r : Bool) → i < length points → Says_seen i r → r ≡ sight (point_at ps i)
    told_at i r h e =
        let inside : i < length ps = rw (ap length x ∙ keys_length ps) at h in
        let key : get_or points i 0 ≡ (point_at ps i).0 = ap (λ (l : List ℕ). get_or l i 0) x ∙ key_at_lem ps i in
        rw key at (e (point_at ps i).1.bits (point_at ps i).1.block u v (ap (λ (l : List ℕ). get_or l i 0) y ∙ status_at_lem ps i inside)
        (ap (λ (l : List ℕ). get_or l i 0) z ∙ block_at ps i) (named_at ps i n))

    pub seen_listed_lem : {Post : ℕ → Bool → Type 0} (out out' : List ℕ) (r : ℕ) → ((i : ℕ) (b : Bool) → i < length points → Post i b → Says_seen i b)
        → ((p : ℕ → Bool) → Says Post points p → Front (picked p points) r out out') → Front (seen size radius C k ps) r out out'
    seen_listed_lem out out' r f w = rw (picked_keys sight nowhere ps) at (rw x at (w (λ i. sight (point_at ps i)) (λ i b h c. told_at i b h (f i b h c))))
