-- Words over the 5 by 5 cells around a cell: what their bits say of the nine cells in the middle. Assumes nothing.
use Prim.Native.Nat.{ℕ, zero, suc, ◌+◌, ◌-◌, ◌*◌, ◌/◌, ◌%◌, ◌^◌, ◌≤◌, ◌<◌}
use native.Mathlib.Omega.{arith}
use mathlib.Core.Path.{◌≡◌, refl, sym, ap, ◌∙◌}
use mathlib.Core.Logic.{⊎_elim}
use mathlib.Core.Bool.{Bool, true, false, not, cond, ◌&&◌, ◌||◌}
use mathlib.Core.List.{List, [], ◌∷◌}
use lib.Bits.{bit_or, bit_xor}
use lib.ListN.{length, take, get_or}
use lib.Pow.{pow-add}
use Rattle.ieee.proofs.Tools.{lt_or_ge}
use Rattle.model.specs.Cell.{W, SW, SE, NW, NE}
use Rattle.model.specs.Corner.{corner, number, status_of}
use Rattle.model.specs.Maps.{AscL, has}
use Rattle.corner.specs.Changes.{Toggled}
use Rattle.corner.specs.Window.{Sees, beside, northeasts, northwests, on, southeasts, southwests, stacked, status_at, without}
use Rattle.corner.proofs.MetLaws.{any_of, facing, before_has, before_none}
use Rattle.corner.proofs.WordLaws.{on_beyond, on_down, on_high, on_low, on_mod, on_or, on_up, on_without, on_xor, on_zero}

-- ---- five columns of five
first_column : (a n j : ℕ) → j < 5 → on (a + 32 * n) (5 * 0 + j) ≡ on a j
first_column a n j h =
    let e : 5 * 0 + j ≡ j = omega arith in
    let d : a + 32 * n ≡ a + n * 2 ^ 5 = omega arith in
    rw (e, d) (on_low 5 a n j h)

next_column : (a n i j : ℕ) → a < 32 → on (a + 32 * n) (5 * (i + 1) + j) ≡ on n (5 * i + j)
next_column a n i j h =
    let e : 5 * (i + 1) + j ≡ 5 * i + j + 5 = omega arith in
    let d : a + 32 * n ≡ a + n * 2 ^ 5 = omega arith in
    rw (e, d) (on_high 5 a n (5 * i + j) h)

-- the columns from the i-th on are in the word n
pub record Columns (t : List ℕ) (low n i : ℕ) : Type 0 where
  pub few : i ≤ 5
  pub small : n < 2 ^ (5 * (5 - i))
  pub seen : AscL 0 t → (c j : ℕ) → i + c < 5 → j < 5 → on n (5 * c + j) ≡ has (low + ((i + c) * W + j)) t

pub columns_none : (t : List ℕ) (low : ℕ) → Columns t low 0 5
columns_none t low = record { few = omega arith; small = omega arith; seen = λ a c j h k. absurd (omega arith) }

module _ (t : List ℕ) (low n i : ℕ) (s : Columns t low n i) where
  pub columns_next : (k w : ℕ) → k + 1 ≡ i → w < 32 → (AscL 0 t → (j : ℕ) → j < 5 → on w j ≡ has (low + k * W + j) t) → Columns t low (w + 32 * n) k
  columns_next k w e h col = record {
    few = omega (arith, s.few);
    small =
        let d : 5 * (5 - k) ≡ 5 * (5 - i) + 5 = omega (arith, s.few) in
        rw (d, pow-add 2 (5 * (5 - i)) 5) (omega (arith, s.small));
    seen = λ a. go a;
  }
    where
      go : AscL 0 t → (c j : ℕ) → k + c < 5 → j < 5 → on (w + 32 * n) (5 * c + j) ≡ has (low + ((k + c) * W + j)) t
      go a zero j hc hj =
          let d : low + k * W + j ≡ low + ((k + 0) * W + j) = omega arith in
          first_column w n j hj ∙ col a j hj ∙ ap (λ (x : ℕ). has x t) d
      go a (suc c) j hc hj =
          let d : low + ((i + c) * W + j) ≡ low + ((k + suc c) * W + j) = omega arith in
          let q : 5 * suc c + j ≡ 5 * (c + 1) + j = omega arith in
          rw q (next_column w n c j h) ∙ s.seen a c j (omega arith) hj ∙ ap (λ (x : ℕ). has x t) d

pub columns_all : (t : List ℕ) (low n : ℕ) → Columns t low n 0 → AscL 0 t → Sees n t low
columns_all t low n s a = λ c j hc hj.
    let d : low + ((0 + c) * W + j) ≡ low + (c * W + j) = omega arith in
    s.seen a c j (omega arith) hj ∙ ap (λ (x : ℕ). has x t) d

pub sees_none : (t : List ℕ) (low : ℕ) → length t ≡ 0 → Sees 0 t low
unfolding has
sees_none [] low e i j hi hj = on_zero (5 * i + j)
sees_none (x ∷ t) low e i j hi hj = absurd (omega arith)

-- ---- windows of other sets of cells

-- the cells after the batch
pub sees_toggled : (n m low : ℕ) (C K C' : List ℕ) → Toggled C K C' → Sees n C low → Sees m K low → Sees (bit_xor n m) C' low
sees_toggled n m low C K C' t s u i j hi hj = on_xor n m (5 * i + j) ∙ rw (s i j hi hj, u i j hi hj) (sym (t (low + (i * W + j))))

-- the confirmed cells before the one in the middle: the lower half of the bits
pub sees_before : (m low : ℕ) (K : List ℕ) (i : ℕ) → AscL 0 K → i < length K → get_or K i 0 ≡ low + (2 * W + 2) → Sees m K low → Sees (m % 4096) (take i K) low
sees_before m low K i a h e s x y hx hy = ⊎_elim under over (lt_or_ge (5 * x + y) 12)
  where
    under : 5 * x + y < 12 → on (m % 4096) (5 * x + y) ≡ has (low + (x * W + y)) (take i K)
    under b =
        let k : low + (x * W + y) < get_or K i 0 = rw e (omega arith) in
        on_mod 12 m (5 * x + y) b ∙ s x y hx hy ∙ before_has 0 (low + (x * W + y)) K i a h k

    over : 12 ≤ 5 * x + y → on (m % 4096) (5 * x + y) ≡ has (low + (x * W + y)) (take i K)
    over b =
        let k : get_or K i 0 ≤ low + (x * W + y) = rw e (omega arith) in
        let z : 5 * x + y ≡ (5 * x + y - 12) + 12 = omega arith in
        let l : m % 4096 < 2 ^ 12 = omega arith in
        ap (on (m % 4096)) z ∙ on_beyond 12 (m % 4096) (5 * x + y - 12) l ∙ sym (before_none 0 (low + (x * W + y)) K i a h k)

-- ---- one of the nine in the middle: i columns and j rows from the lowest of them
module _ (n low : ℕ) (C : List ℕ) (s : Sees n C low) (i j : ℕ) (hi : i < 3) (hj : j < 3) where
  abbrev spot : ℕ
  spot = 6 + (i * 5 + j)

  abbrev cell : ℕ
  cell = low + (W + 1) + (i * W + j)

  look_at : (a b x k : ℕ) → a < 5 → b < 5 → x ≡ 5 * a + b → k ≡ low + (a * W + b) → on n x ≡ has k C
  look_at a b x k ha hb ex ek = rw (ex, ek) (s a b ha hb)

  own : on n spot ≡ has cell C
  own = look_at (i + 1) (j + 1) spot cell (omega arith) (omega arith) (omega arith) (omega arith)

  left : on (n * 32) spot ≡ has (cell - W) C
  left = on_up n 5 (1 + (i * 5 + j)) spot (omega arith) ∙ look_at i (j + 1) (1 + (i * 5 + j)) (cell - W) (omega arith) (omega arith) (omega arith) (omega arith)

  right : on (n / 32) spot ≡ has (cell + W) C
  right = on_down n 5 spot (11 + (i * 5 + j)) (omega arith) ∙ look_at (i + 2) (j + 1) (11 + (i * 5 + j)) (cell + W) (omega arith) (omega arith) (omega arith) (omega arith)

  below : on (n * 2) spot ≡ has (cell - 1) C
  below = on_up n 1 (5 + (i * 5 + j)) spot (omega arith) ∙ look_at (i + 1) j (5 + (i * 5 + j)) (cell - 1) (omega arith) (omega arith) (omega arith) (omega arith)

  above : on (n / 2) spot ≡ has (cell + 1) C
  above = on_down n 1 spot (7 + (i * 5 + j)) (omega arith) ∙ look_at (i + 1) (j + 2) (7 + (i * 5 + j)) (cell + 1) (omega arith) (omega arith) (omega arith) (omega arith)

  left_below : on (n * 64) spot ≡ has (cell - (1 * W + 1)) C
  left_below = on_up n 6 (i * 5 + j) spot (omega arith) ∙ look_at i j (i * 5 + j) (cell - (1 * W + 1)) (omega arith) (omega arith) (omega arith) (omega arith)

  right_below : on (n / 16) spot ≡ has (cell + 1 * W - 1) C
  right_below = on_down n 4 spot (10 + (i * 5 + j)) (omega arith) ∙ look_at (i + 2) j (10 + (i * 5 + j)) (cell + 1 * W - 1) (omega arith) (omega arith) (omega arith) (omega arith)

  left_above : on (n * 16) spot ≡ has (cell + 1 - 1 * W) C
  left_above = on_up n 4 (2 + (i * 5 + j)) spot (omega arith) ∙ look_at i (j + 2) (2 + (i * 5 + j)) (cell + 1 - 1 * W) (omega arith) (omega arith) (omega arith) (omega arith)

  right_above : on (n / 64) spot ≡ has (cell + (1 * W + 1)) C
  right_above = on_down n 6 spot (12 + (i * 5 + j)) (omega arith) ∙ look_at (i + 2) (j + 2) (12 + (i * 5 + j)) (cell + (1 * W + 1)) (omega arith) (omega arith) (omega arith) (omega arith)

  -- ---- its corners
  free : (x y z c : ℕ) {a b d e : Bool} → on n c ≡ a → on x c ≡ b → on y c ≡ d → on z c ≡ e → on (without n (bit_or (bit_or x y) z)) c ≡ a && not b && not d && not e
  free x y z c {a} {b} {d} {e} p q r t =
      on_without n (bit_or (bit_or x y) z) c ∙ rw (on_or (bit_or x y) z c, on_or x y c, p, q, r, t) (go a b d e)
    where
      go : (a b d e : Bool) → a && not ((b || d) || e) ≡ a && not b && not d && not e
      go false b d e = refl
      go true true d e = refl
      go true false true e = refl
      go true false false e = refl

  pub southwest_is : on (southwests n) spot ≡ corner C cell SW
  unfolding southwests corner
  southwest_is = free (n * 32) (n * 2) (n * 64) spot own left below left_below

  pub southeast_is : on (southeasts n) spot ≡ corner C cell SE
  unfolding southeasts corner
  southeast_is = free (n / 32) (n * 2) (n / 16) spot own right below right_below

  pub northwest_is : on (northwests n) spot ≡ corner C cell NW
  unfolding northwests corner
  northwest_is = free (n * 32) (n / 2) (n * 16) spot own left above left_above

  pub northeast_is : on (northeasts n) spot ≡ corner C cell NE
  unfolding northeasts corner
  northeast_is = free (n / 32) (n / 2) (n / 64) spot own right above right_above

  pub status_is : status_at (southwests n) (southeasts n) (northwests n) (northeasts n) spot ≡ number (status_of C cell)
  unfolding status_at number status_of
  status_is = rw (southwest_is, southeast_is, northwest_is, northeast_is) (go (corner C cell SW) (corner C cell SE) (corner C cell NW) (corner C cell NE))
    where
      weighs : (w : ℕ) (b : Bool) → ◌≡◌ {A = ℕ} (w * cond b 1 0) (cond b w 0)
      weighs w true = omega arith
      weighs w false = omega arith

      go : (a b c d : Bool) → ◌≡◌ {A = ℕ} (cond a 1 0 + 2 * cond b 1 0 + 4 * cond c 1 0 + 8 * cond d 1 0) (cond a 1 0 + cond b 2 0 + cond c 4 0 + cond d 8 0)
      go a b c d = rw (weighs 2 b, weighs 4 c, weighs 8 d)

  -- ---- whether it or a neighbour is a cell of the window
  column : (a x k : ℕ) → a < 5 → x ≡ 5 * a + (j + 1) → k ≡ low + (a * W + (j + 1)) → on (stacked n) x ≡ (has (k + 1) C || has k C) || has (k - 1) C
  column a x k ha ex ek =
      let up : on (n / 2) x ≡ has (k + 1) C = on_down n 1 x (x + 1) refl ∙ look_at a (j + 2) (x + 1) (k + 1) ha (omega arith) (omega arith) (omega arith) in
      let here : on n x ≡ has k C = look_at a (j + 1) x k ha (omega arith) ex ek in
      let down : on (n * 2) x ≡ has (k - 1) C = on_up n 1 (5 * a + j) x (omega arith) ∙ look_at a j (5 * a + j) (k - 1) ha (omega arith) refl (omega arith) in
      on_or (bit_or (n / 2) n) (n * 2) x ∙ rw (on_or (n / 2) n x, up, here, down)

  pub beside_is : on (beside n) spot ≡ any_of (λ k. has k C) (facing cell)
  unfolding beside
  beside_is =
      let m : ℕ = stacked n in
      let right-three : on (m / 32) spot ≡ (has (cell + W + 1) C || has (cell + W) C) || has (cell + W - 1) C = on_down m 5 spot (11 + (i * 5 + j)) (omega arith) ∙ column (i + 2) (11 + (i * 5 + j)) (cell + W) (omega arith) (omega arith) (omega arith) in
      let own-three : on m spot ≡ (has (cell + 1) C || has cell C) || has (cell - 1) C = column (i + 1) spot cell (omega arith) (omega arith) (omega arith) in
      let left-three : on (m * 32) spot ≡ (has (cell - W + 1) C || has (cell - W) C) || has (cell - W - 1) C = on_up m 5 (1 + (i * 5 + j)) spot (omega arith) ∙ column i (1 + (i * 5 + j)) (cell - W) (omega arith) (omega arith) (omega arith) in
      on_or (bit_or (m / 32) m) (m * 32) spot
      ∙ rw (on_or (m / 32) m spot, right-three, own-three, left-three)
      (go (has (cell + W + 1) C) (has (cell + W) C) (has (cell + W - 1) C) (has (cell + 1) C) (has cell C) (has (cell - 1) C) (has (cell - W + 1) C) (has (cell - W) C) (has (cell - W - 1) C))
    where
      go : (a b c d e f g h k : Bool) → (((a || b) || c) || ((d || e) || f)) || ((g || h) || k) ≡ a || (b || (c || (d || (e || (f || (g || (h || (k || false))))))))
      go true b c d e f g h k = refl
      go false true c d e f g h k = refl
      go false false true d e f g h k = refl
      go false false false true e f g h k = refl
      go false false false false true f g h k = refl
      go false false false false false true g h k = refl
      go false false false false false false true h k = refl
      go false false false false false false false true k = refl
      go false false false false false false false false true = refl
      go false false false false false false false false false = refl
