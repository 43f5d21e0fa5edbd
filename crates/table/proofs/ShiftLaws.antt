-- A key put in at a place. Assumes nothing.
use Prim.Native.Nat.{ℕ, suc, ◌+◌, ◌-◌, ◌<◌}
use native.Mathlib.Numerals.{add-one}
use native.Mathlib.Omega.{arith}
use mathlib.Core.Path.{◌≡◌, sym, ap, ◌∙◌}
use mathlib.Core.List.{List, ◌∷◌, ◌++◌}
use lib.ListN.{length, take, drop, get_or, set, length-drop}
use lib.Seq.{length-take-le, drop-cons, set_at}
use borrow.Rule.Slice.PartMut.{put_mid}
use Rattle.table.proofs.Parts.{tail_is, tail_back}
use Rattle.table.specs.Tables.{put_at, shift_up}

-- the stretch from a place onward moved up, and k put there
pub put_there : (l m : List ℕ) (at k : ℕ) → at < length l → m ≡ shift_up (take (length l - at) (drop at l)) → set (put_mid at (length l - at) l m) at k ≡ put_at at k l
put_there l m at k h e =
    let y : ℕ = get_or l at 0 in
    let r : List ℕ = drop (suc at) l in
    let d : drop at l ≡ y ∷ r = drop-cons l at 0 h in
    let n : length r ≡ length l - (at + 1) = length-drop (suc at) l ∙ ap (λ (j : ℕ). length l - j) (sym (add-one at)) in
    ap (λ (s : List ℕ). set s at k) (tail_back at l m)
    ∙ ap (λ (s : List ℕ). set (take at l ++ s) at k) (e ∙ ap shift_up (tail_is at l ∙ d))
    ∙ set_at (take at l) y (take (length r) (y ∷ r)) k at (length-take-le at l (omega arith))
    ∙ ap (λ (s : List ℕ). take at l ++ k ∷ take (length r) s) (sym d)
    ∙ ap (λ (j : ℕ). take at l ++ k ∷ take j (drop at l)) n
