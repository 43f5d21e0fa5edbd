-- The cells beside a cell, as a call lists them. Assumes nothing.
use Prim.Native.Nat.{ℕ, ◌≤◌}
use native.Mathlib.Omega.{arith}
use mathlib.Core.Path.{◌≡◌, refl, sym, ap, ◌∙◌, subst}
use mathlib.Core.Bool.{Bool, true, false, cond}
use mathlib.Core.List.{List, [], ◌∷◌}
use mathlib.Core.Option.{Option}
use lib.Ieee.{Float}
use lib.IntN.{ℤ}
use lib.ListN.{length, take}
use lib.Seq.{length-take-le}
use Rattle.std.specs.Prelude.{Ok}
use Rattle.answers.specs.Asking.{Front, HoldsSome}
use Rattle.answers.specs.Told.{counted}
use Rattle.answers.proofs.ListingLaws.{listing_done}
use Rattle.limits.proofs.FloorLaws.{holds_cells}
use Rattle.model.specs.Answers.{free, neighbours}
use Rattle.model.specs.Cell.{key}
use Rattle.model.specs.Good.{Inside}
use Rattle.model.specs.Limits.{max_coordinate}
use Rattle.model.specs.Map as model
use Rattle.model.specs.Maps.{AscL}
use Rattle.held.specs.Codes.{block_code}
use Rattle.looks.proofs.NamedLaws.{square_named}
use Rattle.table.specs.Tables.{All}
use Rattle.held.specs.declared.map.Map.{Map}
use Rattle.held.proofs.RoomLaws.{Enough}
use Rattle.views.specs.Kept.{Surrounded, steps}
use Rattle.views.proofs.AroundLaws.{Told}
use Rattle.views.specs.Seen.{Beside, beside_lengths as lengths, refusal}
use Rattle.views.proofs.CallLaws.{few_cells, key_inner, rooms}
use Rattle.views.proofs.FreeLaws.{found_none, found_some}
use Rattle.views.proofs.WroteLaws.{written_list}

beside_is : (M : model.Map) (k : ℕ) (c r : Float) (C : List ℕ) → c ≡ M.size → r ≡ M.layer.radius → C ≡ M.cells
    → neighbours M k ≡ cond (free ((model.tests c r).square C k).cell) (steps c r C k) []
unfolding neighbours
beside_is M k c r C e f g = rw (e, f, g) refl

-- the used cells of the map that is held
module _ (m : Map) (cells : List ℕ) (M : model.Map) (h : HoldsSome m (λ t. t.cells ≡ cells) M) where
  abbrev C : List ℕ
  C = take m.cells cells

  same_cells : C ≡ M.cells
  same_cells = ap (take m.cells) (sym h.2) ∙ holds_cells h.0.cells m.cells M.cells h.1.cells

  told : Told C
  told = subst Told (sym same_cells) (h.1.cells.order, h.1.cells.inside)

  -- by what the square test found
  module _ (k s : ℕ) (e : AscL 0 C → All (Inside max_coordinate) C → s ≡ block_code ((model.tests m.size m.radius).square C k).cell) where
    abbrev found : Option ℕ
    found = ((model.tests m.size m.radius).square C k).cell

    by_square : (b : Bool) → free found ≡ b → neighbours M k ≡ cond b (steps m.size m.radius C k) []
    by_square b f = beside_is M k m.size m.radius C h.1.size h.1.radius same_cells ∙ rw f refl

    none_beside : (s ≡ 0 → ⊥) → neighbours M k ≡ []
    none_beside z = by_square false (found_some found s (square_named m.size m.radius C k told.1) (e told.0 told.1) z)

    some_beside : s ≡ 0 → neighbours M k ≡ steps m.size m.radius C k
    some_beside z = by_square true (found_none found s (square_named m.size m.radius C k told.1) (e told.0 told.1) z)

-- nothing is refused
pub record Going (m : Map) (cells out : List ℕ) (x y : ℤ) : Type 0 where
  pub pass : refusal m (lengths cells out) x y ≡ 0

module _ {m : Map} {cells out : List ℕ} {x y : ℤ} (g : Going m cells out x y) where
  abbrev used_cells : List ℕ
  used_cells = take m.cells cells

  room : Enough (lengths cells out)
  room = rooms m (lengths cells out) x y g.pass

  pub cells_used : length used_cells ≡ m.cells
  cells_used = length-take-le m.cells cells (omega (arith, room.0, few_cells m (lengths cells out) x y g.pass))

  module _ (k : ℕ) (q : k ≡ key x y) where
    pub around_fits : Surrounded k × (8 ≤ length out)
    around_fits = let b = key_inner m (lengths cells out) x y g.pass in (rw q b, omega (arith, room.1.0))

    -- by what the square test found
    module _ (s : ℕ) (sq : AscL 0 used_cells → All (Inside max_coordinate) used_cells → s ≡ block_code ((model.tests m.size m.radius).square used_cells k).cell) where
      listed : (out' : List ℕ) (n : ℕ) (l : List ℕ) → ((M : model.Map) → HoldsSome m (λ t. t.cells ≡ cells) M → (neighbours M k ≡ l) × Front l n out out') → Beside m cells out x y out' (counted (Ok n))
      listed out' n l f =
          listing_done (refusal m (lengths cells out) x y) (HoldsSome m (λ t. t.cells ≡ cells)) (record { was = out; is = out'; wanted = λ M. neighbours M (key x y) } ∷ []) n (sym g.pass)
          (λ M h. let w = f M h in written_list n out out' (λ M. neighbours M (key x y)) M l (ap (neighbours M) (sym q) ∙ w.0) w.1)

      pub taken_listed : (s ≡ 0 → ⊥) → Beside m cells out x y out (counted (Ok 0))
      taken_listed f = listed out 0 [] (λ M h. (none_beside m cells M h k s sq f, (refl, refl)))

      pub steps_listed : (out' : List ℕ) (found : ℕ) → s ≡ 0 → (AscL 0 used_cells → All (Inside max_coordinate) used_cells → Front (steps m.size m.radius used_cells k) found out out')
          → Beside m cells out x y out' (counted (Ok found))
      steps_listed out' found f w =
          listed out' found (steps m.size m.radius used_cells k) (λ M h. let t = told m cells M h in (some_beside m cells M h k s sq f, w t.0 t.1))
