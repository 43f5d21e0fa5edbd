-- What a floor's table holds, taken out of it. Assumes nothing.
use Prim.Native.Nat.{ℕ, ◌-◌, ◌≤◌, zero-le}
use mathlib.Core.Path.{◌≡◌, refl, sym, ap, ◌∙◌}
use mathlib.Core.List.{List, [], ◌++◌, append_assoc}
use lib.ListN.{length, take, drop, replicate}
use lib.Seq.{take-append_seam, drop-append_seam}
use Rattle.model.specs.Limits.{max_cells}
use Rattle.table.specs.Tables.{pad}
use Rattle.table.proofs.TableLaws.{pad_length}
use Rattle.limits.specs.Floor.{Holds}

-- the used places are the cells
pub holds_cells : (t : List ℕ) (n : ℕ) (C : List ℕ) → Holds t n C → take n t ≡ C
holds_cells t n C h =
    let zeros : List ℕ = replicate (max_cells - length C) 0 in
    ap (λ (m : ℕ). take m t) h.count
    ∙ ap (take (length C)) (h.table ∙ append_assoc C zeros (drop max_cells t))
    ∙ take-append_seam C (zeros ++ drop max_cells t)

-- what stands behind the fixed need
pub behind : (C d u : List ℕ) → length C ≤ max_cells → u ≡ pad max_cells C ++ d → drop max_cells u ≡ d
behind C d u h e =
    ap (λ (m : ℕ). drop m u) (sym (pad_length max_cells C h)) ∙ ap (drop (length (pad max_cells C))) e ∙ drop-append_seam (pad max_cells C) d

-- an empty table holds no cells: so there are floors that hold theirs, and every batch leaves one
pub holds_none : (d : List ℕ) → Holds (replicate max_cells 0 ++ d) 0 []
holds_none d =
    let t : List ℕ = replicate max_cells 0 ++ d in
    record {
      table = ap (λ (u : List ℕ). pad max_cells [] ++ u) (sym (behind [] d t zero-le refl));
      count = refl;
      room = zero-le;
      order = tt;
      inside = tt;
    }
