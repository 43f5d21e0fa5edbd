-- What is known once a call has passed its checks. Assumes nothing.
use Prim.Native.Nat.{ℕ, ◌≤◌}
use mathlib.Core.Path.{◌≡◌, refl, sym, ap, ◌∙◌}
use mathlib.Core.Bool.{Bool, true, false, ◌||◌, or_assoc, or-false}
use mathlib.Core.List.{List, [], ◌∷◌, ◌++◌}
use lib.Dec.{ltb}
use borrow.Author.Tests.{ltb-false}
use Rattle.model.proofs.DueLaws as model
use Rattle.model.specs.Limits.{max_cells, max_points}
use Rattle.model.specs.Refusal.{Dues, is_due, order, short}
use Rattle.limits.proofs.WordLaws.{both_added, judged, none_added}
use Rattle.limits.specs.Words.{first_on, word_on}
use Rattle.held.proofs.RoomLaws as tables
use Rattle.held.specs.declared.map.Map.{Map}
use Rattle.answers.specs.Asking.{on_map, refuse_map}

-- no table is short, and there are no more cells and points than there may be
pub passed : (s : Bool) (m : Map) (more : Dues) → refuse_map s m more ≡ 0 → (s ≡ false) × (m.cells ≤ max_cells) × (m.points ≤ max_points)
unfolding refuse_map is_due
passed s m more e =
    let p = model.passed _ e in (
      (model.or_parts (is_due 9 more) s (p 9 tt)).1,
      ltb-false max_cells m.cells (model.or_parts (is_due 6 more) (ltb max_cells m.cells) (p 6 tt)).1,
      ltb-false max_points m.points (model.or_parts (is_due 7 more) (ltb max_points m.points) (p 7 tt)).1,
    )

-- no coordinate is outside, and no query number bad
pub passed_cell : (s : Bool) (m : Map) (off : Bool) → refuse_map s m ((5, off) ∷ []) ≡ 0 → off ≡ false
unfolding refuse_map is_due
passed_cell s m off e = model.passed _ e 5 tt

pub passed_query : (s : Bool) (m : Map) (bad : Bool) → refuse_map s m ((8, bad) ∷ []) ≡ 0 → bad ≡ false
unfolding refuse_map is_due
passed_query s m bad e = model.passed _ e 8 tt

-- the number k was answered, and it is none of a refused call: each lent table has its need
pub accepted : (lent : List (ℕ × ℕ)) (m : Map) (more : Dues) (k : ℕ) → k ≡ refuse_map (short lent) m more → k ≡ 0 → tables.Enough lent × (m.cells ≤ max_cells) × (m.points ≤ max_points)
accepted lent m more k e z =
    let p = passed (short lent) m more (sym e ∙ z) in
    (tables.long_enough lent p.0, p.1, p.2)

-- the refusal, of what the tests say
abbrev pub said : Bool → Map → ℕ → ℕ
said s m w = first_on order (word_on w (on_map s m []))

pub asked_as : (n : ℕ) (s s' : Bool) (m : Map) (w : ℕ) (more : Dues) → n ≡ said s m w → s ≡ s' → w ≡ word_on 0 more → n ≡ refuse_map s' m more
unfolding refuse_map
asked_as n s s' m w more e f g = judged (on_map s' m more) e (rw (f, g) (both_added 0 (on_map s' m []) more))

pub list_as : (n : ℕ) (s s' : Bool) (m : Map) (w : ℕ) → n ≡ said s m w → s ≡ s' → w ≡ 0 → n ≡ refuse_map s' m []
list_as n s s' m w e f g = asked_as n s s' m w [] e f (g ∙ none_added 0)

-- some lent tables, and others
pub short_both : (k l : List (ℕ × ℕ)) → short (k ++ l) ≡ (short k || short l)
unfolding short
short_both [] l = refl
short_both (b ∷ k) l = ap (λ (s : Bool). ltb b.0 b.1 || s) (short_both k l) ∙ sym (or_assoc (ltb b.0 b.1) (short k) (short l))

module _ (k l : List (ℕ × ℕ)) (a : Bool) (e : a ≡ short k) where
  pub some_short : a ≡ true → a ≡ short (k ++ l)
  some_short z = rw (short_both k l, ← e, z) refl

  pub others_short : (b : Bool) → a ≡ false → b ≡ short l → b ≡ short (k ++ l)
  others_short b z f = rw (short_both k l, ← e, z) f

pub short_one : (n need : ℕ) → ltb n need ≡ short ((n, need) ∷ [])
unfolding short
short_one n need = sym (or-false (ltb n need))
