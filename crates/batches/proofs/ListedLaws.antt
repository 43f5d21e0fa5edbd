-- A list of cells with a number each, written to the front of two tables one by one. Assumes nothing.
use Prim.Native.Nat.{ℕ, zero, suc, ◌+◌, ◌-◌, ◌≤◌, ◌<◌, zero-le}
use native.Mathlib.Nat.{add-zero}
use native.Mathlib.Omega.{arith}
use mathlib.Core.Path.{◌≡◌, refl, sym, ap, ◌∙◌}
use mathlib.Core.Bool.{false, cond}
use mathlib.Core.List.{List, [], ◌∷◌, ◌++◌}
use lib.ListN.{length, drop, get_or, set, length-drop}
use lib.Seq.{get_or-drop, drop-drop}
use Rattle.table.proofs.Front.{mix, mix_more, mix_done}
use Rattle.model.specs.Batch.{Batch}
use Rattle.model.specs.Maps.{keys}
use Rattle.table.specs.Listed.{Listed, values}
use Rattle.table.proofs.ListedLaws.{keys_at, keys_length, values_length}
use Rattle.limits.specs.Batches.{flags}

-- n of w are written, and r is left
pub record Part (w r : List (ℕ × ℕ)) (a b : List ℕ) (n : ℕ) (a' b' : List ℕ) : Type 0 where
  pub below : n ≤ length w
  pub left : drop n w ≡ r
  pub cells : a' ≡ mix (keys w) a n
  pub numbers : b' ≡ mix (values w) b n

values_at : (w : List (ℕ × ℕ)) (n : ℕ) → get_or (values w) n 0 ≡ (get_or w n (0, 0)).1
values_at [] n = refl
values_at (e ∷ w) zero = refl
values_at (e ∷ w) (suc n) = values_at w n

-- ---- the flags of a batch
pub flags_length : (b : Batch) → length (values (flags b)) ≡ length b
flags_length [] = refl
flags_length (e ∷ b) = ap suc (flags_length b)

pub flags_at : (b : Batch) (n : ℕ) → get_or (values (flags b)) n 0 ≡ cond (get_or b n (0, false)).1 1 0
flags_at [] n = refl
flags_at (e ∷ b) zero = refl
flags_at (e ∷ b) (suc n) = flags_at b n

-- ---- one by one
pub part_start : (w : List (ℕ × ℕ)) (a b : List ℕ) → Part w w a b 0 a b
part_start w a b = record { below = zero-le; left = refl; cells = refl; numbers = refl }

pub part_next : (w r : List (ℕ × ℕ)) (a b : List ℕ) (n : ℕ) (a' b' : List ℕ) (k v : ℕ) → Part w ((k, v) ∷ r) a b n a' b' → n < length a → n < length b
    → Part w r a b (n + 1) (set a' n k) (set b' n v)
part_next w r a b n a' b' k v p h g =
    let l : length w - n ≡ suc (length r) = sym (length-drop n w) ∙ ap length p.left in
    let e : get_or w n (0, 0) ≡ (k, v) = ap (λ (j : ℕ). get_or w j (0, 0)) (sym (add-zero n)) ∙ sym (get_or-drop n w 0 (0, 0)) ∙ ap (λ (t : List (ℕ × ℕ)). get_or t 0 (0, 0)) p.left in
    let nk : n < length (keys w) = rw (keys_length w) (omega arith) in
    let nv : n < length (values w) = rw (values_length w) (omega arith) in
    let ek : k ≡ get_or (keys w) n 0 = sym (keys_at w n 0 ∙ ap (λ (q : ℕ × ℕ). q.0) e) in
    let ev : v ≡ get_or (values w) n 0 = sym (values_at w n ∙ ap (λ (q : ℕ × ℕ). q.1) e) in
    record {
      below = omega arith;
      left = sym (drop-drop 1 n w) ∙ ap (drop 1) p.left;
      cells = ap (set a' n) ek ∙ ap (λ (t : List ℕ). set t n (get_or (keys w) n 0)) p.cells ∙ mix_more (keys w) a n 0 nk h;
      numbers = ap (set b' n) ev ∙ ap (λ (t : List ℕ). set t n (get_or (values w) n 0)) p.numbers ∙ mix_more (values w) b n 0 nv g;
    }

pub part_end : (w : List (ℕ × ℕ)) (a b : List ℕ) (n : ℕ) (a' b' : List ℕ) → Part w [] a b n a' b' → Listed w a a' b b' n
part_end w a b n a' b' p =
    let l : length w - n ≡ 0 = sym (length-drop n w) ∙ ap length p.left in
    let e : n ≡ length w = omega (arith, p.below) in
    record {
      count = e;
      cells = p.cells ∙ mix_done (keys w) a n (keys_length w ∙ sym e) ∙ ap (λ (j : ℕ). keys w ++ drop j a) e;
      numbers = p.numbers ∙ mix_done (values w) b n (values_length w ∙ sym e) ∙ ap (λ (j : ℕ). values w ++ drop j b) e;
    }
