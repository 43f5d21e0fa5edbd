-- Where a pair's blocker begins, and the pair itself, by the cases that the code goes through. Assumes nothing.
use Prim.Native.Nat.{ℕ, ◌+◌, ◌-◌, ◌*◌, ◌≤◌, ◌<◌}
use native.Mathlib.Omega.{arith}
use mathlib.Core.Path.{◌≡◌, refl, sym, ap, ◌∙◌}
use mathlib.Core.Logic.{◌≢◌}
use mathlib.Core.Bool.{Bool, true, false, cond, ◌&&◌, ◌||◌}
use mathlib.Core.List.{List}
use mathlib.Core.Option.{none, some}
use borrow.Author.Tests.{eq-eqb, ne_eqb}
use lib.Dec.{eqb}
use lib.Ieee.{Float}
use lib.ListN.{get_or}
use Rattle.marks.specs.Standing.{Standing, sooner}
use Rattle.model.specs.Batch.{Batch}
use Rattle.model.specs.Corner.{sees}
use Rattle.model.specs.Good.{Inside}
use Rattle.model.specs.Layer.{Tests, edge_run}
use Rattle.model.specs.Limits.{max_coordinate, max_points}
use Rattle.model.specs.Map.{tests}
use Rattle.model.specs.Maps.{keys}
use Rattle.table.specs.Tables.{All}
use Rattle.held.specs.Codes.{Named, NamedPair, block_code, pair_code}
use Rattle.held.specs.Pairs.{Pairs, PairsBy, PairsNamed}
use Rattle.sight.specs.Paired.{old_pair, pair_between, pair_start}
use Rattle.sight.proofs.CodeLaws.{held_blocked, held_nothing, held_open, or_else_named, pair_blocked, pair_open}
use Rattle.sight.proofs.EdgeLaws.{run_named}
use Rattle.looks.proofs.NamedLaws.{sweep_named}

-- ---- the old pair
pub old_left : (P : PairsBy) (w v : Standing) → w.old ≡ 0 → 0 ≡ pair_code (old_pair P w v)
unfolding old_pair
old_left P w v h = rw (eq-eqb w.old 0 h) refl

pub old_right : (P : PairsBy) (w v : Standing) → w.old ≢ 0 → v.old ≡ 0 → 0 ≡ pair_code (old_pair P w v)
unfolding old_pair
old_right P w v g h = rw (ne_eqb w.old 0 g, eq-eqb v.old 0 h) refl

pub old_at : (P : PairsBy) (w v : Standing) (old : List ℕ) (a b : ℕ) → Pairs P old → a ≡ w.old → b ≡ v.old → a ≢ 0 → b ≢ 0 → a ≤ max_points → b ≤ max_points
    → get_or old (64 * (a - 1) + (b - 1)) 0 ≡ pair_code (old_pair P w v)
unfolding old_pair
old_at P w v old a b s e f g h x y =
    let i : a - 1 < max_points = omega arith in
    let j : b - 1 < max_points = omega arith in
    rw (← e, ← f, ne_eqb a 0 g, ne_eqb b 0 h) (s (a - 1) (b - 1) i j)

pub old_named : (P : PairsBy) (w v : Standing) → PairsNamed P → NamedPair (old_pair P w v)
unfolding old_pair
old_named P w v n = go (eqb w.old 0 || eqb v.old 0)
  where
    go : (b : Bool) → NamedPair (cond b none (P (w.old - 1) (v.old - 1)))
    go true = tt
    go false = n (w.old - 1) (v.old - 1)

pub start_named : (size radius : Float) (C : List ℕ) (P : PairsBy) (p : ℕ) (w : Standing) (q : ℕ) (v : Standing) → All (Inside max_coordinate) C → PairsNamed P
    → Named (pair_start (tests size radius) C P p w q v)
unfolding pair_start
start_named size radius C P p w q v a n = or_else_named (old_pair P w v) _ (old_named P w v n) (go (sooner w.first v.first))
  where
    t : Tests
    t = tests size radius

    go : (b : Bool) → Named (cond b (t.sweep C p q).cell (t.sweep C q p).cell)
    go true = sweep_named size radius C p q a
    go false = sweep_named size radius C q p a

-- by the number of the old pair: an open one, a blocked one, or the sweep from the end that was queued first
module _ (t : Tests) (C : List ℕ) (P : PairsBy) (p : ℕ) (w : Standing) (q : ℕ) (v : Standing) (held : ℕ) (e : held ≡ pair_code (old_pair P w v)) where
  pub start_open : PairsNamed P → held ≡ 1 → 0 ≡ block_code (pair_start t C P p w q v)
  unfolding pair_start
  start_open n h = held_open (old_pair P w v) _ (old_named P w v n) (sym e ∙ h)

  pub start_held : held ≢ 0 → held ≢ 1 → held ≡ block_code (pair_start t C P p w q v)
  unfolding pair_start
  start_held g h = e ∙ held_blocked (old_pair P w v) _ (λ x. g (e ∙ x)) (λ x. h (e ∙ x))

  pub start_new : PairsNamed P → held ≡ 0 → (b : Bool) → sooner w.first v.first ≡ b → block_code (cond b (t.sweep C p q).cell (t.sweep C q p).cell) ≡ block_code (pair_start t C P p w q v)
  unfolding pair_start
  start_new n h b g =
      ap (λ (z : Bool). block_code (cond z (t.sweep C p q).cell (t.sweep C q p).cell)) (sym g)
      ∙ held_nothing (old_pair P w v) (cond (sooner w.first v.first) (t.sweep C p q).cell (t.sweep C q p).cell) (old_named P w v n) (sym e ∙ h)

-- ---- the pair
seen : (t : Tests) (C : List ℕ) (ch : Batch) (P : PairsBy) (p : ℕ) (w : Standing) (q : ℕ) (v : Standing) (a b : Bool) → sees p q v.bits ≡ a → sees q p w.bits ≡ b
    → cond (a && b) (some (edge_run t C p q ch (pair_start t C P p w q v))) none ≡ pair_between t C ch P p w q v
unfolding pair_between
seen t C ch P p w q v a b e f = rw (e, f) refl

module _ (size radius : Float) (C : List ℕ) (ch : Batch) (P : PairsBy) (p : ℕ) (w : Standing) (q : ℕ) (v : Standing) where
  pub between_hidden : sees p q v.bits ≡ false → 0 ≡ pair_code (pair_between (tests size radius) C ch P p w q v)
  between_hidden e = ap pair_code (seen (tests size radius) C ch P p w q v false (sees q p w.bits) e refl)

  pub between_hiding : sees p q v.bits ≡ true → sees q p w.bits ≡ false → 0 ≡ pair_code (pair_between (tests size radius) C ch P p w q v)
  between_hiding e f = ap pair_code (seen (tests size radius) C ch P p w q v true false e f)

  -- of two that see each other, by the number of the blocker
  module _ (e : sees p q v.bits ≡ true) (f : sees q p w.bits ≡ true) (r : ℕ) (g : r ≡ block_code (edge_run (tests size radius) C p q ch (pair_start (tests size radius) C P p w q v))) where
    pub between_open : All (Inside max_coordinate) C → All (Inside max_coordinate) (keys ch) → PairsNamed P → r ≡ 0 → 1 ≡ pair_code (pair_between (tests size radius) C ch P p w q v)
    between_open i k n h =
        let named = run_named (tests size radius) C p q (sweep_named size radius C p q i) ch k (pair_start (tests size radius) C P p w q v) (start_named size radius C P p w q v i n) in
        pair_open (edge_run (tests size radius) C p q ch (pair_start (tests size radius) C P p w q v)) named (sym g ∙ h) ∙ ap pair_code (seen (tests size radius) C ch P p w q v true true e f)

    pub between_blocked : r ≢ 0 → r ≡ pair_code (pair_between (tests size radius) C ch P p w q v)
    between_blocked h =
        g ∙ pair_blocked (edge_run (tests size radius) C p q ch (pair_start (tests size radius) C P p w q v)) (λ x. h (g ∙ x)) ∙ ap pair_code (seen (tests size radius) C ch P p w q v true true e f)
