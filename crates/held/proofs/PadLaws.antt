-- Lists filled up with zeros, and tables whose first places are written. Assumes nothing.
use Prim.Native.Nat.{ℕ, ◌+◌, ◌-◌, ◌≤◌}
use native.Mathlib.Omega.{arith}
use mathlib.Core.Path.{◌≡◌, refl, sym, ap, ◌∙◌}
use mathlib.Core.List.{List, ◌++◌, append_assoc}
use lib.ListN.{drop, length, length-append, replicate, take}
use lib.Seq.{drop_at, take-append_seam}
use Rattle.table.proofs.TableLaws.{pad_length}
use Rattle.table.specs.Copied.{Copied}
use Rattle.table.specs.Tables.{pad}

-- a list k, which is m, copied to the front of a table
pub copied : (k m t t' : List ℕ) (n : ℕ) → k ≡ m → length m ≡ n → n ≤ length t → Copied k t t' → t' ≡ m ++ drop n t
copied k m t t' n e c h w =
    let x : length k ≡ n = ap length e ∙ c in
    w.done (rw x h) ∙ rw (x, e) refl

-- the used places of a padded table, and all of them
pub padded_used : (cap : ℕ) (l t : List ℕ) (n : ℕ) → n ≡ length l → t ≡ pad cap l ++ drop cap t → take n t ≡ l
padded_used cap l t n c e =
    let zeros : List ℕ = replicate (cap - length l) 0 in
    ap (λ (m : ℕ). take m t) c ∙ ap (take (length l)) (e ∙ append_assoc l zeros (drop cap t)) ∙ take-append_seam l (zeros ++ drop cap t)

pub padded_room : (cap : ℕ) (l t : List ℕ) → length l ≤ cap → t ≡ pad cap l ++ drop cap t → cap ≤ length t
padded_room cap l t h e =
    let x : length t ≡ length (pad cap l) + length (drop cap t) = ap length e ∙ length-append (pad cap l) (drop cap t) in
    let y : length (pad cap l) ≡ cap = pad_length cap l h in
    omega (arith, x, y)

-- a table u of which the first places are written anew: with l, and zeros after it
module _ (cap : ℕ) (l d u : List ℕ) (few : length l ≤ cap) (e : u ≡ pad cap l ++ d) where
  pub written_rest : drop cap u ≡ d
  written_rest = ap (drop cap) e ∙ drop_at (pad cap l) d cap (pad_length cap l few)

  pub written_whole : u ≡ pad cap l ++ drop cap u
  written_whole = e ∙ ap (λ (z : List ℕ). pad cap l ++ z) (sym written_rest)
