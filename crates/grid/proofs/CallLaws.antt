-- What a call of `change_cells` answers and leaves, refused early, refused for its cells, or done. Assumes nothing.
use Prim.Native.Nat.{ℕ, ◌≤◌, ◌<◌}
use native.Mathlib.Nat.{suc-ne-zero}
use native.Mathlib.Omega.{arith}
use mathlib.Core.Path.{◌≡◌, sym, ap, ◌∙◌, subst}
use mathlib.Core.Bool.{Bool, false, cond}
use mathlib.Core.List.{List}
use lib.Dec.{ltb}
use lib.IntN.{ℤ}
use lib.ListN.{length, take}
use borrow.Author.Tests.{lt-ltb, le-ltb, ltb-false}
use Rattle.std.specs.Prelude.{Result, Ok, Err}
use Rattle.std.specs.Result.{IsErrAnd}
use Rattle.model.specs.Batch.{cells_after}
use Rattle.model.specs.Limits.{max_cells}
use Rattle.model.specs.Map.{to_batch}
use Rattle.model.specs.Maps.{AscL}
use Rattle.model.specs.Refusal.{unsorted, outside}
use Rattle.limits.specs.Batches.{entries}
use Rattle.limits.specs.Refusals.{number}
use Rattle.limits.specs.declared.refusal.Refusal.{Refusal}
use Rattle.limits.specs.declared.refusal.Refusal.TheVariants.{ManyCells}
use Rattle.grid.specs.Change.{Applying, Changing, Done, Lent, refuse_change, refuse_input, short_for}
use Rattle.limits.specs.Floor.{Holds}
use Rattle.grid.specs.declared.change.Changed.{Changed}
use Rattle.limits.specs.declared.floor.Floor.{Floor}
use Rattle.limits.proofs.FloorLaws.{holds_cells}
use Rattle.grid.proofs.RefuseLaws.{Enough, Passed, change_early, change_passed, long_enough}
use Rattle.limits.proofs.RefusalLaws.{number_some}

-- the refusal that applies by the input, of what `is_short` and `judge` say
pub judged_input : (floor : Floor) (b : List ℤ) (t : Lent) {short : Bool} {n : ℕ} → short ≡ short_for t → n ≡ refuse_change short floor.size b (ltb max_cells floor.cells) → n ≡ refuse_input floor b t
judged_input floor b t s e = e ∙ ap (λ (z : Bool). refuse_change z floor.size b (ltb max_cells floor.cells)) s

-- what there is room for, where the input is not refused
pub record Room (floor : Floor) (b : List ℤ) (t : Lent) : Type 0 where
  pub small : floor.cells ≤ max_cells
  pub cells : max_cells ≤ length t.cells
  pub confirmed : length (entries b) ≤ length t.confirmed
  pub full : length (entries b) ≤ length t.full

pub room : (floor : Floor) (b : List ℤ) (t : Lent) → 0 ≡ refuse_input floor b t → Room floor b t
room floor b t e =
    let p : Passed (short_for t) floor.size b (ltb max_cells floor.cells) = change_passed (short_for t) floor.size b (ltb max_cells floor.cells) (sym e) in
    let l : Enough t = long_enough t p.long in
    record { small = ltb-false max_cells floor.cells p.crowd; cells = l.cells; confirmed = omega arith; full = omega arith }

module _ (floor : Floor) (b : List ℤ) (t t' : Lent) where
  abbrev with_crowd : Bool → ℕ
  with_crowd v = refuse_change (short_for t) floor.size b v

  abbrev early : ℕ
  early = with_crowd (ltb max_cells floor.cells)

  abbrev after : List ℕ → List ℕ
  after C = cells_after (to_batch (entries b)) C

  -- a floor that holds its cells is not crowded itself
  calm : (C : List ℕ) → Holds t.cells floor.cells C → ltb max_cells floor.cells ≡ false
  calm C h = le-ltb max_cells floor.cells (subst (λ (n : ℕ). n ≤ max_cells) (sym h.count) h.room)

  early_lem : (e : Refusal) → number e ≡ early → t' ≡ t → Changing floor b t t' (Err e)
  early_lem e d w = record {
    input = λ n z. d ∙ z;
    refusal = λ C h.
        let x : early ≡ with_crowd false = ap with_crowd (calm C h) in
        d ∙ x ∙ sym (change_early (short_for t) floor.size b (ltb max_cells (length (after C))) (λ z. number_some e (d ∙ x ∙ z)));
    refused = λ n z. w;
    done = λ C h c z. cc;
  }

  pub early_refused : (r : Result Changed Refusal) (e : Refusal) → IsErrAnd r (λ x. x ≡ e) → number e ≡ early → t' ≡ t → Changing floor b t t' r
  early_refused (Ok c) e i d w = absurd i
  early_refused (Err x) e i d w = rw i (early_lem e d w)

  -- past the input's refusals, k is how many cells there would be
  module _ (e : 0 ≡ early) (k : ℕ)
      (count : AscL 0 (take floor.cells t.cells) → unsorted (entries b) ≡ false → outside (entries b) ≡ false → k ≡ length (after (take floor.cells t.cells)))
    where
      passed : Passed (short_for t) floor.size b (ltb max_cells floor.cells)
      passed = change_passed (short_for t) floor.size b (ltb max_cells floor.cells) (sym e)

      counted : (C : List ℕ) → Holds t.cells floor.cells C → k ≡ length (after C)
      counted C h =
          let same = holds_cells t.cells floor.cells C h in
          count (subst (AscL 0) (sym same) h.order) passed.order passed.bounds ∙ ap (λ (D : List ℕ). length (after D)) same

      pub late_refused : max_cells < k → t' ≡ t → Changing floor b t t' (Err ManyCells)
      late_refused g w = record {
        input = λ n z. absurd (suc-ne-zero _ (sym z ∙ sym e));
        refusal = λ C h.
            sym (passed.later (ltb max_cells (length (after C))) ∙ ap (λ (v : Bool). cond v 6 0) (lt-ltb max_cells (length (after C)) (subst (λ (n : ℕ). max_cells < n) (counted C h) g)));
        refused = λ n z. w;
        done = λ C h c z. cc;
      }

      pub accepted : (c : Changed) → k ≤ max_cells
          → ((C : List ℕ) → Applying t.cells floor.cells C (entries b) (length t.corners) (length t.altered) → Done floor C (entries b) t t' c) → Changing floor b t t' (Ok c)
      accepted c g d = record {
        input = λ n y. absurd (suc-ne-zero _ (sym y ∙ sym e));
        refusal = λ C h. sym (passed.later (ltb max_cells (length (after C))) ∙ ap (λ (v : Bool). cond v 6 0) (le-ltb max_cells (length (after C)) (fits C h)));
        refused = λ n y. absurd (suc-ne-zero _ (sym y));
        done = λ C h c' y.
            let same : c ≡ c' = cc in
            subst (Done floor C (entries b) t t') same (d C (record {
              holds = h;
              few = passed.few;
              order = passed.order;
              bounds = passed.bounds;
              room = fits C h;
              corners = long.corners;
              altered = long.altered;
            }));
      }
        where
          fits : (C : List ℕ) → Holds t.cells floor.cells C → length (after C) ≤ max_cells
          fits C h = subst (λ (n : ℕ). n ≤ max_cells) (counted C h) g

          long : Enough t
          long = long_enough t passed.long
