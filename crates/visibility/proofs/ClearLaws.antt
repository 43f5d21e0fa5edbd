-- A table whose first places are cleared. Assumes nothing.
use Prim.Native.Nat.{ℕ, ◌+◌, ◌-◌, ◌≤◌, ◌<◌}
use native.Mathlib.Omega.{arith}
use mathlib.Core.Path.{◌≡◌, refl, sym, ap, ◌∙◌}
use mathlib.Core.List.{List, ◌++◌}
use lib.ListN.{get_or-append, drop, get_or, get_or-replicate, length, length-append, length-drop, length-replicate, replicate, take}
use lib.Seq.{drop_at, drop-drop, get_or-append-add, get_or-drop, length-take-le}
use Rattle.marks.proofs.PointsLaws.{drop_zeros}
use Rattle.table.specs.Tables.{pad}

abbrev pub cleared : ℕ → List ℕ → List ℕ
cleared n t = replicate n 0 ++ drop n t

pub cleared_is : (n : ℕ) (t u : List ℕ) → n ≤ length t → u ≡ replicate (length (take n t)) 0 → u ++ drop n t ≡ cleared n t
cleared_is n t u h e = rw (e, length-take-le n t h) refl

pub cleared_behind : (n : ℕ) (t : List ℕ) → drop n (cleared n t) ≡ drop n t
cleared_behind n t = drop_at (replicate n 0) (drop n t) n (length-replicate {A = ℕ} n 0)

pub cleared_length : (n : ℕ) (t : List ℕ) → n ≤ length t → length (cleared n t) ≡ length t
cleared_length n t h = simp (length-append, length-replicate, length-drop) (omega arith)

-- zeros up to the need
pub cleared_pad : (n : ℕ) (t : List ℕ) → cleared n t ≡ replicate n 0 ++ drop n (cleared n t)
cleared_pad n t = ap (λ (u : List ℕ). replicate n 0 ++ u) (sym (cleared_behind n t))

pub cleared_at : (n : ℕ) (t : List ℕ) (i : ℕ) → i < n → get_or (cleared n t) i 0 ≡ 0
cleared_at n t i h =
    let z : List ℕ = replicate n 0 in
    let l : i < length z = rw (length-replicate {A = ℕ} n 0) h in
    get_or-append z (drop n t) 0 i l ∙ get_or-replicate n i 0 0 h

-- the places after them are as they were
pub cleared_past : (n : ℕ) (t : List ℕ) (i : ℕ) → n ≤ i → get_or (cleared n t) i 0 ≡ get_or t i 0
cleared_past n t i h =
    let z : List ℕ = replicate n 0 in
    let e : i ≡ length z + (i - n) = rw (length-replicate {A = ℕ} n 0) (omega arith) in
    let f : n + (i - n) ≡ i = omega arith in
    ap (λ (k : ℕ). get_or (cleared n t) k 0) e ∙ get_or-append-add z (drop n t) (i - n) 0 ∙ get_or-drop n t (i - n) 0 ∙ ap (λ (k : ℕ). get_or t k 0) f

pub cleared_drop : (n m : ℕ) (t : List ℕ) → n ≤ m → drop m (cleared n t) ≡ drop m t
cleared_drop n m t h =
    let e : n + (m - n) ≡ m = omega arith in
    ap (λ (k : ℕ). drop k (cleared n t)) (sym e) ∙ sym (drop-drop (m - n) n (cleared n t)) ∙ ap (drop (m - n)) (cleared_behind n t) ∙ drop-drop (m - n) n t ∙ ap (λ (k : ℕ). drop k t) e

-- a list written to the front of zeros
pub padded : (l : List ℕ) (n cap : ℕ) → length l ≡ n → l ++ drop n (replicate cap 0) ≡ pad cap l
padded l n cap e = ap (λ (u : List ℕ). l ++ u) (drop_zeros n cap ∙ ap (λ (x : ℕ). replicate (cap - x) 0) (sym e))
