-- A question's refusals in their order, and what a call of `ask` answers. Assumes nothing.
use Prim.Native.Nat.{ℕ, ◌≤◌, ◌<◌}
use mathlib.Core.Path.{◌≡◌, refl, sym, ap, ◌∙◌, subst}
use mathlib.Core.Bool.{Bool, true, false, or-false, true≢false}
use mathlib.Core.List.{List, [], ◌∷◌}
use mathlib.Core.Option.{Option, none, some}
use lib.Dec.{ltb}
use lib.ListN.{length, take}
use lib.Ieee.{Float}
use borrow.Author.Tests.{lt-ltb, ltb-false}
use Rattle.model.specs.Good.{Inside}
use Rattle.model.specs.Limits.{max_cells, max_coordinate}
use Rattle.model.specs.Maps.{AscL}
use Rattle.model.proofs.DueLaws as model
use Rattle.model.specs.Refusal.{first_due, is_due, order, verdict, short, bad_size}
use Rattle.model.specs.Shape.{Question, ask}
use Rattle.std.specs.Prelude as std
use Rattle.std.specs.Prelude.{Result, Ok}
use Rattle.limits.proofs.WordLaws.{judged}
use Rattle.limits.specs.Words.{first_on, word_on}
use Rattle.table.specs.Tables.{All}
use Rattle.limits.specs.Floor.{Holds}
use Rattle.limits.specs.declared.cell.Cell.{Cell}
use Rattle.limits.specs.declared.floor.Floor.{Floor}
use Rattle.limits.specs.declared.refusal.Refusal.{Refusal}
use Rattle.limits.proofs.FloorLaws.{holds_cells}
use Rattle.question.specs.Answer.{cell_at, placed}
use Rattle.question.specs.Ask.{Asked, refuse_ask, refuse_floor}
use Rattle.question.specs.Question.{asked}
use Rattle.question.specs.Walk.{found, found_as, keyed}
use Rattle.question.specs.declared.search.Found.{Found}
use Rattle.question.specs.declared.search.Question as code

pub short_one : (room need : ℕ) → ltb room need ≡ short ((room, need) ∷ [])
unfolding short
short_one room need = sym (or-false (ltb room need))

module _ (room : ℕ) (c : Float) (n : ℕ) (bad : Bool) where
  pub ask_short : room < max_cells → 9 ≡ refuse_floor room c n bad
  unfolding refuse_floor verdict first_due is_due short
  ask_short h = rw (lt-ltb room max_cells h) refl

  -- as a word
  pub ask_judged : {w r : ℕ} → r ≡ first_on order w → w ≡ word_on 0 ((9, short ((room, max_cells) ∷ [])) ∷ (1, bad_size c) ∷ (6, ltb max_cells n) ∷ (8, bad) ∷ []) → r ≡ refuse_floor room c n bad
  unfolding refuse_floor
  ask_judged = judged _

  -- what is not refused fits, and no query number is bad
  pub ask_fits : refuse_floor room c n bad ≡ 0 → (max_cells ≤ room) × (n ≤ max_cells) × (bad ≡ false)
  unfolding refuse_floor is_due short
  ask_fits e =
      let p = model.passed _ e in
      (ltb-false room max_cells (sym (or-false (ltb room max_cells)) ∙ p 9 tt), ltb-false max_cells n (p 6 tt), p 8 tt)

-- a bad query number is always refused
pub bad_refused : (room : ℕ) (c : Float) (n : ℕ) → refuse_floor room c n true ≡ 0 → ⊥
bad_refused room c n e = true≢false (ask_fits room c n true e).2

-- ---- what was found, on a floor that holds its cells
pub search_told : (c : Float) (t : List ℕ) (n : ℕ) (q : Question) (o : Found)
    → (AscL 0 (take n t) → All (Inside max_coordinate) (take n t) → o ≡ found_as (ask c (take n t) q)) → (C : List ℕ) → Holds t n C → o ≡ found_as (ask c C q)
search_told c t n q o f C h =
    let same = holds_cells t n C h in
    f (subst (AscL 0) (sym same) h.order) (subst (All (Inside max_coordinate)) (sym same) h.inside) ∙ ap (λ (D : List ℕ). found_as (ask c D q)) same

-- and read back
found_back : (o : Option ℕ) → (found (keyed o)).cell ≡ o
found_back none = refl
found_back (some k) = refl

pub search_placed : (c : Float) (t : List ℕ) (n : ℕ) (q : Question) (o : Found) (p : std.Option Cell) → placed p ≡ cell_at (found o).cell
    → (AscL 0 (take n t) → All (Inside max_coordinate) (take n t) → o ≡ found_as (ask c (take n t) q)) → (C : List ℕ) → Holds t n C → placed p ≡ cell_at (ask c C q).cell
search_placed c t n q o p e f C h =
    e ∙ ap cell_at (ap (λ (v : Found). (found v).cell) (search_told c t n q o f C h) ∙ found_back (ask c C q).cell)

-- ---- the call: what is not refused answers what was found
pub ask_answered : (floor : Floor) (t : List ℕ) (q : code.Question) (o : Found) (p : std.Option Cell)
    → 0 ≡ refuse_ask (length t) floor.size floor.cells (asked q) → placed p ≡ cell_at (found o).cell
    → (AscL 0 (take floor.cells t) → All (Inside max_coordinate) (take floor.cells t) → o ≡ found_as (ask floor.size (take floor.cells t) (asked q)))
    → Asked floor t q (Ok p)
ask_answered floor t q o p e z f = record { refusal = e; answer = λ C h w v. search_placed floor.size t floor.cells (asked q) o w (ap placed (sym (same v)) ∙ z) f C h }
  where
    same : {w : std.Option Cell} → ◌≡◌ {A = Result (std.Option Cell) Refusal} (Ok p) (Ok w) → p ≡ w
    same v = cc
