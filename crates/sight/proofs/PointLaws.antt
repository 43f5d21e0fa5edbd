-- What blocks one point: where it begins, and what each change makes of it. Assumes nothing.
use Prim.Native.Nat.{ℕ, zero, suc, ◌-◌, ◌≤◌, ◌<◌}
use native.Mathlib.Decide.{ℕ_discrete}
use native.Mathlib.Omega.{arith}
use mathlib.Core.Path.{◌≡◌, refl, sym, ap, ◌∙◌}
use mathlib.Core.Logic.{◌≢◌}
use mathlib.Core.Bool.{Bool, true, false, cond, ◌&&◌}
use mathlib.Core.List.{List, [], ◌∷◌}
use mathlib.Core.Option.{Option, none, some}
use lib.Dec.{eqb, leb}
use lib.ListN.{length, get_or, get_or-eq_default}
use lib.Ieee.{Float}
use borrow.Author.Tests.{eq-eqb, eqb-true, ne_eqb}
use Rattle.ieee.proofs.Tools.{not_both}
use Rattle.marks.specs.Standing.{Standing, mood}
use Rattle.marks.specs.declared.mood.Mood.{Mood}
use Rattle.model.specs.Cell as cell
use Rattle.model.specs.Cell.{apart, col, row, within}
use Rattle.model.specs.ClosedForm.{point_run}
use Rattle.model.specs.Good.{Inside}
use Rattle.model.specs.Layer.{Tests, point_after}
use Rattle.model.specs.Limits.{max_coordinate}
use Rattle.model.specs.Map.{shift_of, tests}
use Rattle.model.specs.Maps.{AscL}
use Rattle.std.specs.List.{zip}
use Rattle.table.specs.Tables.{All}
use Rattle.held.specs.Codes.{AllNamed, Named, block_code, codes}
use Rattle.sight.specs.Blocked.{PointRuns, point_start}
use Rattle.sight.specs.Run.{Ran}
use Rattle.sight.proofs.ChangeLaws.{Coded, Follows, point_steps, run_follows}
use Rattle.held.proofs.NamedLaws.{inside_named}
use Rattle.looks.proofs.NamedLaws.{square_named}

and_left : (a b : Bool) → a && b ≡ true → a ≡ true
and_left true b h = refl
and_left false b h = h

and_right : (a b : Bool) → a && b ≡ true → b ≡ true
and_right true b h = h
and_right false b h = not_both h refl

-- what is given of the cells and of the reach
pub record Given (size radius : Float) (reach : ℕ) (C : List ℕ) : Type 0 where
  pub order : AscL 0 C
  pub inside : All (Inside max_coordinate) C
  pub reaches : reach ≡ cell.reach (shift_of size radius)

-- ---- the steps
within_is : (size radius : Float) (reach c k : ℕ) (b : Bool) → reach ≡ cell.reach (shift_of size radius) → b ≡ (leb (apart (col c) (col k)) reach && leb (apart (row c) (row k)) reach)
    → within (tests size radius).shift c k ≡ b
unfolding within tests
within_is size radius reach c k b e h = rw (h, e) refl

module _ (size radius : Float) (reach : ℕ) (C : List ℕ) (k c block : ℕ) where
  -- the blocker is freed: the square test again
  pub point_freed : (r : ℕ) → block ≡ c → (AscL 0 C → All (Inside max_coordinate) C → r ≡ block_code ((tests size radius).square C k).cell)
      → Given size radius reach C → (o : Option ℕ) → Inside max_coordinate c → Coded block o → Coded r (point_after (tests size radius) C k c false o)
  point_freed r e f g none n w = let z : block ≡ 0 = w.code in let y = inside_named c n in absurd (omega arith)
  point_freed r e f g (some x) n w =
      rw (eq-eqb x c (sym w.code ∙ e)) (record { code = f g.order g.inside; named = square_named size radius C k g.inside })

  -- another cell is freed
  pub point_kept : block ≢ c → Given size radius reach C → (o : Option ℕ) → Inside max_coordinate c → Coded block o → Coded block (point_after (tests size radius) C k c false o)
  point_kept h g none n w = w
  point_kept h g (some x) n w = rw (ne_eqb x c (λ e. h (w.code ∙ e))) w

  -- a cell within reach blocks a free point
  pub point_met : (b : Bool) → block ≡ 0 → b ≡ (leb (apart (col c) (col k)) reach && leb (apart (row c) (row k)) reach) → b ≡ true
      → Given size radius reach C → (o : Option ℕ) → Inside max_coordinate c → Coded block o → Coded c (point_after (tests size radius) C k c true o)
  point_met b z h t g none n w =
      rw (within_is size radius reach c k b g.reaches h, t) (record { code = refl; named = inside_named c n })
  point_met b z h t g (some x) n w = let y : block ≡ x = w.code in let d : 2 ≤ x = w.named in absurd (omega arith)

  -- any other cell that is filled
  pub point_apart : (block ≡ 0 → (leb (apart (col c) (col k)) reach && leb (apart (row c) (row k)) reach) ≡ false)
      → Given size radius reach C → (o : Option ℕ) → Inside max_coordinate c → Coded block o → Coded block (point_after (tests size radius) C k c true o)
  point_apart h g none n w =
      let y : block ≡ 0 = w.code in
      rw (within_is size radius reach c k false g.reaches (sym (h y))) w
  point_apart h g (some x) n w = w

-- .. and so the loop makes the steps of `point_run`, where one closure says whether a cell blocks a free point, and the other tests the square again
module _ (size radius : Float) (reach : ℕ) (C : List ℕ) (k : ℕ) (meets : ℕ → ℕ → Bool → Type 0) (again : ℕ → Type 0) where
  abbrev near : ℕ → Bool
  near c = leb (apart (col c) (col k)) reach && leb (apart (row c) (row k)) reach

  module _ (is_met : (b c : ℕ) (x : Bool) → meets b c x → x ≡ (eqb b 0 && near c))
      (is_again : (r : ℕ) → again r → AscL 0 C → All (Inside max_coordinate) C → r ≡ block_code ((tests size radius).square C k).cell) (g : Given size radius reach C) where
    follows : Follows meets again (point_after (tests size radius) C k)
    follows c false o b r n w t = go (ℕ_discrete b c)
      where
        go : Dec (b ≡ c) → Coded r (point_after (tests size radius) C k c false o)
        go (yes e) = point_freed size radius reach C k c b r e (is_again r ((t.0 refl).0 e)) g o n w
        go (no h) = rw ((t.0 refl).1 h) (point_kept size radius reach C k c b h g o n w)
    follows c true o b r n w t = let m = t.1 (λ z. absurd (omega arith)) in go m.0 (is_met b c m.0 m.1) m.2
      where
        go : (x : Bool) → x ≡ (eqb b 0 && near c) → r ≡ cond x c b → Coded r (point_after (tests size radius) C k c true o)
        go true p e = rw e (point_met size radius reach C k c b (near c) (eqb-true b 0 (and_left (eqb b 0) (near c) (sym p))) refl (and_right (eqb b 0) (near c) (sym p)) g o n w)
        go false p e = rw e (point_apart size radius reach C k c b (λ z. sym (rw (eq-eqb b 0 z) at p)) g o n w)

  pub point_ran : (confirmed full : List ℕ) (start r : ℕ) → Ran meets again (zip confirmed full) start r → ((b c : ℕ) (x : Bool) → meets b c x → x ≡ (eqb b 0 && near c))
      → ((r : ℕ) → again r → AscL 0 C → All (Inside max_coordinate) C → r ≡ block_code ((tests size radius).square C k).cell) → PointRuns size radius reach C confirmed full k start r
  point_ran confirmed full start r ran is_met is_again ch o order inside changes confirmed_are full_are reaches e n =
      let t : Tests = tests size radius in
      let f = follows is_met is_again (record { order = order; inside = inside; reaches = reaches }) in
      (run_follows (point_run t C k) (point_after t C k) (point_steps t C k) meets again f ch o start r changes (record { code = e; named = n }) (rw (confirmed_are, full_are) at ran)).code

-- ---- the beginning
pub codes_at : (B : List (Option ℕ)) (i : ℕ) → get_or (codes B) i 0 ≡ block_code (get_or B i none)
codes_at [] i = refl
codes_at (o ∷ B) zero = refl
codes_at (o ∷ B) (suc i) = codes_at B i

named_at : (B : List (Option ℕ)) (i : ℕ) → AllNamed B → Named (get_or B i none)
named_at [] i a = tt
named_at (o ∷ B) zero a = a.0
named_at (o ∷ B) (suc i) a = named_at B i a.1

pub start_named : (t : Tests) (C : List ℕ) (B : List (Option ℕ)) (k : ℕ) (w : Standing) → Named (t.square C k).cell → AllNamed B → Named (point_start t C B k w)
unfolding point_start
start_named t C B k w n a = go (eqb w.old 0)
  where
    go : (b : Bool) → Named (cond b (t.square C k).cell (get_or B (w.old - 1) none))
    go true = n
    go false = named_at B (w.old - 1) a

module _ (t : Tests) (C : List ℕ) (B : List (Option ℕ)) (k : ℕ) (w : Standing) (m : Mood) (is : m ≡ mood w) where
  place : m.old ≡ w.old
  place = ap (λ (x : Mood). x.old) is

  -- a point that has come anew
  pub start_new : (r : ℕ) → m.old ≡ 0 → r ≡ block_code (t.square C k).cell → r ≡ block_code (point_start t C B k w)
  unfolding point_start
  start_new r h e = rw (eq-eqb w.old 0 (sym place ∙ h)) e

  pub start_old : (old : List ℕ) → old ≡ codes B → m.old ≢ 0 → get_or old (m.old - 1) 0 ≡ block_code (point_start t C B k w)
  unfolding point_start
  start_old old e h =
      rw (ne_eqb w.old 0 (λ z. h (place ∙ z)))
      (ap (λ (j : ℕ). get_or old (j - 1) 0) place ∙ ap (λ (l : List ℕ). get_or l (w.old - 1) 0) e ∙ codes_at B (w.old - 1))

  -- a place past the old points has no blocker
  pub start_past : (old : List ℕ) → old ≡ codes B → length old < m.old → 0 ≡ block_code (point_start t C B k w)
  start_past old e h =
      let n : length old ≤ m.old - 1 = omega arith in
      let d : m.old ≢ 0 = omega arith in
      sym (get_or-eq_default old 0 n) ∙ start_old old e d
