-- What is told of the cells that a map lends, where the tables hold it. Assumes nothing.
use Prim.Native.Nat.{ℕ, ◌≤◌}
use native.Mathlib.Omega.{arith}
use mathlib.Core.Path.{◌≡◌, refl, sym, ap, ◌∙◌, subst}
use mathlib.Core.Bool.{Bool}
use mathlib.Core.List.{List, [], ◌∷◌, ◌++◌}
use lib.IntN.{ℤ}
use lib.ListN.{drop, length, take}
use lib.Seq.{length-take-le}
use Rattle.answers.proofs.PassedLaws.{accepted}
use Rattle.answers.specs.Asking.{Written, refuse_map}
use Rattle.table.specs.Copied.{Copied}
use Rattle.corner.specs.Changes.{Cornered, numbered}
use Rattle.limits.proofs.FloorLaws.{holds_cells}
use Rattle.limits.specs.Floor as floor
use Rattle.corner.proofs.ChangeLaws.{inside_inner}
use Rattle.model.specs.Answers.{corners, is_occupied, occupied_cells}
use Rattle.model.specs.Cell.{key}
use Rattle.model.specs.Corner.{corner_cells}
use Rattle.model.specs.Limits.{max_cells}
use Rattle.model.specs.Map as model
use Rattle.model.specs.Maps.{AscL, has, keys}
use Rattle.model.specs.Refusal.{Dues, short}
use Rattle.table.proofs.AllLaws.{all_map}
use Rattle.table.proofs.ListedLaws.{keys_length, values_length}
use Rattle.table.specs.Listed.{values}
use Rattle.held.specs.declared.map.Map.{Map}
use Rattle.answers.specs.CellLists.{Lent}

-- ---- a call that is not refused: the used cells are lent
pub used : (m : Map) (cells : List ℕ) (l : List (ℕ × ℕ)) (more : Dues) → 0 ≡ refuse_map (short ((length cells, max_cells) ∷ l)) m more → m.cells ≡ length (take m.cells cells)
used m cells l more e =
    let p = accepted ((length cells, max_cells) ∷ l) m more 0 e refl in
    sym (length-take-le m.cells cells (omega (arith, p.1, p.0.0)))

-- ---- a map that is held
module _ (m : Map) (cells : List ℕ) where
  pub held : (M : model.Map) → Lent m cells M → floor.Holds cells m.cells M.cells
  held M h = subst (λ (c : List ℕ). floor.Holds c m.cells M.cells) h.2 h.1.cells

  same_cells : (M : model.Map) → Lent m cells M → take m.cells cells ≡ M.cells
  same_cells M h = holds_cells cells m.cells M.cells (held M h)

  pub occupied_told : (x y : ℤ) (b : Bool) → (AscL 0 (take m.cells cells) → b ≡ has (key x y) (take m.cells cells)) → (M : model.Map) → Lent m cells M → b ≡ is_occupied M x y
  unfolding is_occupied
  occupied_told x y b f M h = subst (λ (u : List ℕ). AscL 0 u → b ≡ has (key x y) u) (same_cells M h) f (held M h).order

  module _ (out out' : List ℕ) (room : max_cells ≤ length out) where
    pub cells_written : Copied (take m.cells cells) out out' → (M : model.Map) → Lent m cells M → Written M m.cells (record { was = out; is = out'; wanted = occupied_cells } ∷ [])
    unfolding occupied_cells
    cells_written f M h =
        let k = held M h in
        let w = (subst (λ (u : List ℕ). Copied u out out') (same_cells M h) f).done (omega (arith, k.room, room)) in
        (k.count, w ∙ ap (λ (n : ℕ). M.cells ++ drop n out) (sym k.count), tt)

    module _ (statuses statuses' : List ℕ) (space : max_cells ≤ length statuses) (r : ℕ) where
      pub corners_written : Cornered (take m.cells cells) out out' statuses statuses' r → (M : model.Map) → Lent m cells M
          → Written M r (record { was = out; is = out'; wanted = λ M. keys (numbered (corners M)) } ∷ record { was = statuses; is = statuses'; wanted = λ M. values (numbered (corners M)) } ∷ [])
      unfolding corners
      corners_written f M h =
          let k = held M h in
          let l = numbered (corner_cells M.cells) in
          let w = subst (λ (u : List ℕ). Cornered u out out' statuses statuses' r) (same_cells M h) f k.order (all_map M.cells inside_inner k.inside) (omega (arith, k.room, room)) (omega (arith, k.room, space)) in (
            w.count ∙ sym (keys_length l),
            w.cells ∙ ap (λ (n : ℕ). keys l ++ drop n out) (sym w.count),
            (w.count ∙ sym (values_length l), w.numbers ∙ ap (λ (n : ℕ). values l ++ drop n statuses) (sym w.count), tt),
          )
