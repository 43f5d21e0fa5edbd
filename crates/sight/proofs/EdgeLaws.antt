-- What blocks a pair after the changes, one by one. Assumes nothing.
use Prim.Native.Nat.{ℕ, ◌^◌, ◌≤◌, ◌<◌}
use native.Mathlib.Decide.{ℕ_discrete}
use native.Mathlib.Omega.{arith}
use mathlib.Core.Path.{◌≡◌, refl, sym, ap, ◌∙◌}
use mathlib.Core.Logic.{◌≢◌}
use mathlib.Core.Bool.{Bool, true, false, cond}
use mathlib.Core.List.{List, [], ◌∷◌}
use mathlib.Core.Option.{Option, none, some}
use borrow.Author.Tests.{eq-eqb, ne_eqb}
use lib.Dec.{eqb}
use lib.Ieee.{Float}
use lib.ListN.{length}
use Rattle.model.specs.Batch.{Batch}
use Rattle.model.specs.Good.{Inside}
use Rattle.model.specs.Layer.{Tests, edge_after, edge_run}
use Rattle.model.specs.Limits.{max_coordinate}
use Rattle.model.specs.Map.{tests}
use Rattle.model.specs.Maps.{AscL, keys}
use Rattle.table.specs.Tables.{All}
use Rattle.held.specs.Codes.{Named, block_code}
use Rattle.sight.specs.Paired.{PairRuns}
use Rattle.sight.specs.Run.{Ran, Turns}
use Rattle.sight.proofs.ChangeLaws.{Follows, edge_steps, run_follows}
use Rattle.segment.specs.Near.{IsProximity}
use Rattle.segment.specs.declared.near.Proximity.{Proximity}
use Rattle.std.specs.List.{zip}
use Rattle.held.proofs.NamedLaws.{inside_named}
use Rattle.looks.proofs.NamedLaws.{sweep_named}

-- ---- one change
module _ (t : Tests) (C : List ℕ) (p q c : ℕ) where
  freed : (o : Option ℕ) → 2 ≤ c → block_code o ≡ c → (t.sweep C p q).cell ≡ edge_after t C p q c false o
  freed none h e = absurd (omega arith)
  freed (some b) h e = rw (eq-eqb b c e) refl

  kept : (o : Option ℕ) → block_code o ≢ c → o ≡ edge_after t C p q c false o
  kept none h = refl
  kept (some b) h = rw (ne_eqb b c h) refl

  filled : (o : Option ℕ) (b : Bool) → t.near c p q ≡ b → cond b (some c) o ≡ edge_after t C p q c true o
  filled o b e = rw e refl

  after_named : (u : Bool) (o : Option ℕ) → Named (t.sweep C p q).cell → 2 ≤ c → Named o → Named (edge_after t C p q c u o)
  after_named true o s h n = go (t.near c p q)
    where
      go : (b : Bool) → Named (cond b (some c) o)
      go true = h
      go false = n
  after_named false none s h n = n
  after_named false (some b) s h n = go (eqb b c)
    where
      go : (e : Bool) → Named (cond e (t.sweep C p q).cell (some b))
      go true = s
      go false = n

pub run_named : (t : Tests) (C : List ℕ) (p q : ℕ) → Named (t.sweep C p q).cell → (ch : Batch) → All (Inside max_coordinate) (keys ch) → (o : Option ℕ) → Named o → Named (edge_run t C p q ch o)
unfolding edge_run keys
run_named t C p q s [] a o n = n
run_named t C p q s (e ∷ ch) a o n =
    run_named t C p q s ch a.1 (edge_after t C p q e.0 e.1 o) (after_named t C p q e.0 e.1 o s (inside_named e.0 a.0) n)

-- ---- the loop over the changes, where one closure says whether the segment passes near a cell, and the other sweeps again
module _ (size radius : Float) (proximity : Proximity) (C : List ℕ) (p q : ℕ) where
  abbrev t : Tests
  t = tests size radius

  -- there are no changes
  pub edge_none : (confirmed full : List ℕ) (start : ℕ) → length confirmed ≡ 0 → PairRuns size radius proximity C confirmed full p q start start
  unfolding edge_run keys
  edge_none confirmed full start z [] o order inside changes confirmed_are full_are g e n = e
  edge_none confirmed full start z (x ∷ ch) o order inside changes confirmed_are full_are g e n = absurd (omega (arith, ap length confirmed_are))

  module _ (meets : ℕ → ℕ → Bool → Type 0) (again : ℕ → Type 0) where
    module _ (is_met : (b c : ℕ) (x : Bool) → meets b c x → c < 2 ^ 64 → x ≡ t.near c p q) (is_again : (r : ℕ) → again r → r ≡ block_code (t.sweep C p q).cell) (inside : All (Inside max_coordinate) C) where
      follows : Follows meets again (edge_after t C p q)
      follows c u o b r n w k = record { code = code u k; named = after_named t C p q c u o (sweep_named size radius C p q inside) (inside_named c n) w.named }
        where
          code : (u : Bool) → Turns meets again b (c, cond u 1 0) r → r ≡ block_code (edge_after t C p q c u o)
          code false k = go (ℕ_discrete b c)
            where
              go : Dec (b ≡ c) → r ≡ block_code (edge_after t C p q c false o)
              go (yes e) = is_again r ((k.0 refl).0 e) ∙ ap block_code (freed t C p q c o (inside_named c n) (sym w.code ∙ e))
              go (no h) = (k.0 refl).1 h ∙ w.code ∙ ap block_code (kept t C p q c o (λ v. h (w.code ∙ v)))
          code true k = let m = k.1 (λ z. absurd (omega arith)) in go m.0 (sym (is_met b c m.0 m.1 (omega arith))) m.2
            where
              go : (x : Bool) → t.near c p q ≡ x → r ≡ cond x c b → r ≡ block_code (edge_after t C p q c true o)
              go true h e = e ∙ ap block_code (filled t C p q c o true h)
              go false h e = e ∙ w.code ∙ ap block_code (filled t C p q c o false h)

    pub edge_ran : (confirmed full : List ℕ) (start r : ℕ) → Ran meets again (zip confirmed full) start r → (IsProximity size radius proximity → (b c : ℕ) (x : Bool) → meets b c x → c < 2 ^ 64 → x ≡ t.near c p q)
        → ((r : ℕ) → again r → AscL 0 C → All (Inside max_coordinate) C → r ≡ block_code (t.sweep C p q).cell) → PairRuns size radius proximity C confirmed full p q start r
    edge_ran confirmed full start r ran is_met is_again ch o order inside changes confirmed_are full_are g e n =
        let f = follows (is_met g) (λ x m. is_again x m order inside) inside in
        (run_follows (edge_run t C p q) (edge_after t C p q) (edge_steps t C p q) meets again f ch o start r changes (record { code = e; named = n }) (rw (confirmed_are, full_are) at ran)).code
