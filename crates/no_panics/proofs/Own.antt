-- The questions that a map asks by itself lie far within the limits: centres below 2^38 in size, widths at most 2^40. So every sweep of a run is safe. Assumes nothing.
use mathlib.Core.Path.{◌≡◌, refl, sym, ◌∙◌, subst}
use Prim.Native.Nat.{ℕ, ◌+◌, ◌-◌, ◌*◌, ◌≤◌}
use Rattle.ieee.proofs.Tools.{lt_or_ge}
use native.Mathlib.Omega.{arith}
use mathlib.Core.Logic.{◌⊎◌, inl, inr, ⊎_elim}
use mathlib.Core.Bool.{Bool, true, false, ◌&&◌, true≢false}
use mathlib.Core.List.{List, [], ◌∷◌}
use mathlib.Core.Option.{Option, none, some}
use lib.Dec.{T}
use lib.IntN.{ℤ, pos, negsuc, nat_abs}
use lib.Signed.{le_z}
use lib.Ieee.{Float, nan, inf, fin, binary64, add, mul, div, neg, lt, le, is_nan, of_int}
use lib.Ieee.Fits.{and_l, and_r}
use lib.Ieee.Scale.{finite}
use borrow.Author.Tests.{lt-ltb, le-ltb, le-leb}
use Rattle.ieee.specs.Constants.{nought, half, pow2}
use Rattle.ieee.specs.Pick.{abs_f}
use Rattle.ieee.specs.Whole.{biased, unbias, ceil_z}
use Rattle.ieee.specs.Yard.{centre_f, shift_f}
use Rattle.ieee.proofs.Compare.{ceil_at_most}
use Rattle.ieee.proofs.Patterns.{le_some_right, lt_le}
use Rattle.ieee.proofs.Monotone.{le_trans, lt_le_trans, not_le_lt, neg_low, of_int_mono, finite_number}
use Rattle.ieee.proofs.MonotoneSum.{add_mono, number_add}
use Rattle.ieee.proofs.MonotoneProduct.{mul_mono, mul_number}
use Rattle.ieee.proofs.Within.{Within, within_abs, within_add, within_mul, div_top}
use Rattle.model.specs.Maps.{get, is_some, has}
use Rattle.model.specs.Limits.{least_size, most_size, max_shift, max_coordinate, max_query, beyond}
use Rattle.model.specs.Cell.{W, origin, col, row, x_of, y_of, key, around}
use Rattle.model.specs.Plane.{centre}
use Rattle.model.specs.Good.{Inside}
use Rattle.model.specs.Layer.{Point}
use Rattle.model.specs.Map.{Map, Op, batch, radius, shift_of, next, changed, rebuilt}
use Rattle.model.specs.Layer.{update}
use Rattle.model.specs.Refusal.{bad_size, bad_radius, is_due, off_map, refuse_open, refuse_asking, refuse_cell, judge, refusal, run, opened}
use Rattle.model.specs.Refusal as model
use Rattle.model.proofs.MapLaws.{T→true, has_cases}
use Rattle.model.proofs.OrderLaws.{no_ltb}
use Rattle.model.proofs.TestLaws.{not_false, shift_le}
use Rattle.model.proofs.DueLaws.{passed}
use Rattle.model.proofs.RunLaws.{Sound, next_sound, open_sound, run_keeps, opened_is}
use Rattle.model.proofs.PointPlaces.{point_inside_lem}
use Rattle.no_panics.specs.Casts.{Own, stands, asked, inner, OwnSafe, RunSafe}
use Rattle.no_panics.proofs.Casts.{Size, Place, Length, size_finite, least_above, size_of, or_no, point_casts, square_casts, sweep_casts}

-- ---- a cell at most 2^21 from the origin
abbrev Close : ℕ → Type 0
Close k = Inside 2097152 k

near_zero : (u : ℕ) → origin ≤ u + 2097152 → u ≤ origin + 2097152 → nat_abs (unbias u) ≤ 2097152
near_zero u h k = ⊎_elim (λ l. rw (lt-ltb u origin l) (omega arith)) (λ g. rw (le-ltb u origin g) (omega arith)) (lt_or_ge u origin)

low : (z : ℤ) → nat_abs z ≤ 2097152 → le_z (negsuc 2097151) z ≡ true
low (pos n) h = refl
low (negsuc n) h = le-leb n 2097151 (omega arith)

high : (z : ℤ) → nat_abs z ≤ 2097152 → le_z z (pos 2097152) ≡ true
high (pos n) h = le-leb n 2097152 h
high (negsuc n) h = refl

ends : (le (neg (pow2 21)) (of_int binary64 (negsuc 2097151)) ≡ true) × (le (of_int binary64 (pos 2097152)) (pow2 21) ≡ true)
unfolding of_int neg lt le
ends = (refl, refl)

coordinate : (u : ℕ) → origin ≤ u + 2097152 → u ≤ origin + 2097152 → Within (pow2 21) (of_int binary64 (unbias u))
coordinate u h k =
    let n = near_zero u h k in
    let x = of_int binary64 (unbias u) in (
      le_trans (neg (pow2 21)) (of_int binary64 (negsuc 2097151)) x ends.0 (of_int_mono (negsuc 2097151) (unbias u) (low (unbias u) n)),
      le_trans x (of_int binary64 (pos 2097152)) (pow2 21) (of_int_mono (unbias u) (pos 2097152) (high (unbias u) n)) ends.1,
    )

-- ---- its centre
halves : (le (add binary64 (pow2 21) half) (pow2 22) ≡ true) × (le (neg (pow2 22)) (add binary64 (neg (pow2 21)) (neg half)) ≡ true) × (le (neg half) half ≡ true) × (le half half ≡ true)
unfolding add neg lt le
halves = (refl, refl, refl, refl)

scaled : (le (mul binary64 most_size (pow2 22)) max_query ≡ true) × (le nought most_size ≡ true) × (le nought least_size ≡ true)
unfolding mul lt le
scaled = (refl, refl, refl)

size_within : (c : Float) → Size c → Within most_size c
size_within c s = (le_trans (neg most_size) nought c (neg_low most_size scaled.1) (le_trans nought least_size c scaled.2 s.least), s.most)

centred : (c x : Float) → Size c → Within (pow2 21) x → le (abs_f (centre_f c x)) max_query ≡ true
unfolding centre_f
centred c x s w =
    let h = within_add (pow2 21) half (pow2 22) x half refl refl halves.0 halves.1 w (halves.2, halves.3) in
    within_abs max_query (mul binary64 c (add binary64 x half)) (within_mul most_size (pow2 22) max_query c (add binary64 x half) refl refl scaled.1 scaled.0 (size_within c s) h)

placed : (c : Float) (k : ℕ) → Size c → Close k → Place (centre c k)
unfolding centre
placed c k s h = record { x = centred c (of_int binary64 (x_of k)) s (coordinate (col k) h.0 h.1); y = centred c (of_int binary64 (y_of k)) s (coordinate (row k) h.2 h.3) }

-- ---- the width: a radius above 2^39 has a shift above 2^22
huge : (le (add binary64 (div binary64 (pow2 39) most_size) half) (of_int binary64 (pos max_shift)) ≡ false) × (le nought (pow2 39) ≡ true) × (le nought nought ≡ true)
unfolding div add of_int lt le
huge = (refl, refl, refl)

zeroth : is_nan (div binary64 nought most_size) ≡ false
unfolding div is_nan
zeroth = refl

bounds : (is_nan half ≡ false) × (le half half ≡ true) × (is_nan (add binary64 (div binary64 (pow2 39) most_size) half) ≡ false) × (is_nan (pow2 39) ≡ false)
unfolding is_nan div add lt le
bounds = (refl, refl, refl, refl)

twice : (le nought (mul binary64 (pow2 1) nought) ≡ true) × (le nought (pow2 1) ≡ true) × (is_nan (mul binary64 (pow2 1) nought) ≡ false) × (le (mul binary64 (pow2 1) (pow2 39)) max_query ≡ true) × (is_nan (mul binary64 (pow2 1) (pow2 39)) ≡ false)
unfolding mul is_nan lt le
twice = (refl, refl, refl, refl, refl)

module _ (c r : Float) (s : Size c) (bad : bad_radius c r ≡ false) where
  three : T (model.finite r && le nought r && le_z (ceil_z (shift_f c r)) (pos max_shift))
  unfolding bad_radius
  three = not_false (model.finite r && le nought r && le_z (ceil_z (shift_f c r)) (pos max_shift)) bad

  r_finite : finite r ≡ true
  r_finite = go r (and_l (model.finite r) (le nought r) (and_l (model.finite r && le nought r) (le_z (ceil_z (shift_f c r)) (pos max_shift)) three))
    where
      go : (z : Float) → T (model.finite z) → finite z ≡ true
      go (nan) t = absurd t
      go (inf b) t = absurd t
      go (fin b m e) t = refl

  r_high : le nought r ≡ true
  r_high = T→true (le nought r) (and_r (model.finite r) (le nought r) (and_l (model.finite r && le nought r) (le_z (ceil_z (shift_f c r)) (pos max_shift)) three))

  c_above : lt nought c ≡ true
  c_above = lt_le_trans nought least_size c least_above s.least

  -- a lower bound of the radius is one of the quotient
  quotient : (x : Float) → finite x ≡ true → le x r ≡ true → le (div binary64 x most_size) (div binary64 r c) ≡ true
  quotient x f h = div_top x r most_size c f r_finite refl (size_finite c s) r_high c_above h s.most

  quotient_number : is_nan (div binary64 r c) ≡ false
  quotient_number = le_some_right (div binary64 nought most_size) (div binary64 r c) (quotient nought refl r_high)

  shift_number : is_nan (shift_f c r) ≡ false
  unfolding shift_f
  shift_number = number_add (div binary64 r c) half quotient_number refl

  shift_small : le (shift_f c r) (of_int binary64 (pos max_shift)) ≡ true
  shift_small = sym (ceil_at_most (shift_f c r) shift_number max_shift (omega arith)) ∙ T→true (le_z (ceil_z (shift_f c r)) (pos max_shift)) (and_r (model.finite r && le nought r) (le_z (ceil_z (shift_f c r)) (pos max_shift)) three)

  r_most : le r (pow2 39) ≡ true
  unfolding shift_f
  r_most = go (le r (pow2 39)) refl
    where
      go : (b : Bool) → le r (pow2 39) ≡ b → le r (pow2 39) ≡ true
      go true e = e
      go false e =
          let q = quotient (pow2 39) refl (lt_le (pow2 39) r (not_le_lt r (pow2 39) (finite_number r r_finite) bounds.3 e)) in
          let a = add_mono (div binary64 (pow2 39) most_size) (div binary64 r c) half half q bounds.1 bounds.2 shift_number in
          absurd (true≢false (sym (le_trans (add binary64 (div binary64 (pow2 39) most_size) half) (shift_f c r) (of_int binary64 (pos max_shift)) a shift_small) ∙ huge.0))

  doubled : Length (mul binary64 (pow2 1) r)
  doubled =
      record {
        least = le_trans nought (mul binary64 (pow2 1) nought) (mul binary64 (pow2 1) r) twice.0 (mul_mono (pow2 1) nought r twice.1 r_high twice.2 (mul_number (pow2 1) r refl r_finite));
        most = le_trans (mul binary64 (pow2 1) r) (mul binary64 (pow2 1) (pow2 39)) max_query (mul_mono (pow2 1) r (pow2 39) twice.1 r_most (mul_number (pow2 1) r refl r_finite) twice.4) twice.3;
      }

-- ---- the questions at and between two such cells
pub own_limits : (m : Map) → bad_size m.size ≡ false → bad_radius m.size m.layer.radius ≡ false → (p q : ℕ) → Close p → Close q → OwnSafe m p q
own_limits m h k p q v w =
    let c = m.size in
    let s = size_of c h in
    let l = doubled c m.layer.radius s k in
    record {
      squares = square_casts c (centre c p) (mul binary64 (pow2 1) m.layer.radius) s (placed c p s v) l;
      sweeps = (λ e. point_casts c (centre c p) s (placed c p s v), λ e. sweep_casts c (centre c p) (centre c q) (mul binary64 (pow2 1) m.layer.radius) s (placed c p s v) (placed c q s w) l e);
    }

-- ---- a map of a run is within its limits, or has no point
abbrev Kept : Map → Type 0
Kept m = ((bad_size m.size ≡ false) × (bad_radius m.size m.layer.radius ≡ false)) ⊎ (m.layer.points ≡ [])

next_kept : (o : Op) (m : Map) → refusal o m ≡ 0 → Kept m → Kept (next o m)
unfolding refusal judge next changed rebuilt update is_due
next_kept (batch l) m e k = let p = passed _ e in inl (p 1 tt, p 2 tt)
next_kept (radius r) m e k = let p = passed _ e in inl (p 1 tt, (or_no (bad_radius m.size m.layer.radius) (bad_radius m.size r) (p 2 tt)).1)

open_kept : (c r : Float) → Kept (opened c r)
unfolding refuse_open is_due
open_kept c r = opened_is Kept c r (λ e. let p = passed _ e in inl (p 1 tt, p 2 tt)) (inr refl)

-- ---- the cells of a map's own questions are close
-- a column, or row, at most so far from the origin's
abbrev Far : ℕ → ℕ → Type 0
Far n u = (origin ≤ u + n) × (u ≤ origin + n)

off : (x : ℤ) → off_map (max_coordinate + beyond) x ≡ false → Far (max_coordinate + beyond) (biased x)
off x e = go x (no_ltb (max_coordinate + beyond) (nat_abs x) e)
  where
    go : (z : ℤ) → nat_abs z ≤ max_coordinate + beyond → Far (max_coordinate + beyond) (biased z)
    go (pos n) h = (omega arith, omega arith)
    go (negsuc n) h = (omega arith, omega arith)

abbrev AllClose : List ℕ → Type 0
AllClose [] = Unit {0}
AllClose (k ∷ l) = Close k × AllClose l

one_of : (k : ℕ) (l : List ℕ) → AllClose l → T (has k l) → Close k
unfolding has
one_of k [] a t = absurd t
one_of k (j ∷ l) a t = ⊎_elim (λ e. subst (λ (i : ℕ). Close i) (sym e) a.0) (one_of k l a.1) (has_cases k j l t)

cell : (k x y : ℕ) → Far 2097152 x → Far 2097152 y → k ≡ x * W + y → Close k
cell k x y a b e = (omega arith, omega arith, omega arith, omega arith)

-- the cell of column u and row v, and the eight about it
about : (u v : ℕ) → Far (max_coordinate + beyond) u → Far (max_coordinate + beyond) v → AllClose (around (u * W + v))
about u v a b =
    let x : Far 2097152 (u - 1) = (omega arith, omega arith) in
    let x0 : Far 2097152 u = (omega arith, omega arith) in
    let x1 : Far 2097152 (u + 1) = (omega arith, omega arith) in
    let y : Far 2097152 (v - 1) = (omega arith, omega arith) in
    let y0 : Far 2097152 v = (omega arith, omega arith) in
    let y1 : Far 2097152 (v + 1) = (omega arith, omega arith) in (
      cell (u * W + v - W - 1) (u - 1) (v - 1) x y (omega arith),
      (
        cell (u * W + v - W) (u - 1) v x y0 (omega arith),
        (
          cell (u * W + v - W + 1) (u - 1) (v + 1) x y1 (omega arith),
          (
            cell (u * W + v - 1) u (v - 1) x0 y (omega arith),
            (
              cell (u * W + v) u v x0 y0 refl,
              (
                cell (u * W + v + 1) u (v + 1) x0 y1 (omega arith),
                (cell (u * W + v + W - 1) (u + 1) (v - 1) x1 y (omega arith), (cell (u * W + v + W) (u + 1) v x1 y0 (omega arith), (cell (u * W + v + W + 1) (u + 1) (v + 1) x1 y1 (omega arith), tt))),
              ),
            ),
          ),
        ),
      ),
    )

-- a question about the cell (x, y) that is not refused
asked_close : (lent : List (ℕ × ℕ)) (m : Map) (x y : ℤ) → refuse_cell lent m x y ≡ 0 → (k : ℕ) → T (has k (around (key x y))) → Close k
unfolding refuse_asking is_due key
asked_close lent m x y e k t =
    let p = passed _ e in
    let o = or_no (off_map (max_coordinate + beyond) x) (off_map (max_coordinate + beyond) y) (p 5 tt) in
    one_of k (around (biased x * W + biased y)) (about (biased x) (biased y) (off x o.0) (off y o.1)) t

-- a point
stands_close : (m : Map) → bad_radius m.size m.layer.radius ≡ false → Sound m → (k : ℕ) → T (is_some (get k m.layer.points)) → Close k
unfolding bad_radius
stands_close m b g k t = go (get k m.layer.points) refl
  where
    c : Float
    c = m.size

    r : Float
    r = m.layer.radius

    small : shift_of c r ≤ max_shift
    small = shift_le c r (and_r (model.finite r && le nought r) (le_z (ceil_z (shift_f c r)) (pos max_shift)) (not_false (model.finite r && le nought r && le_z (ceil_z (shift_f c r)) (pos max_shift)) b))

    go : (o : Option Point) → get k m.layer.points ≡ o → Close k
    go none e = absurd (let z : T false = rw e at t in z)
    go (some p) e = let i = point_inside_lem (shift_of c r) m.cells m.layer small g k p e in (omega arith, omega arith, omega arith, omega arith)

-- ---- the theorem
-- a cell of a map's own questions: the map is within its limits, and the cell is close
own_close : (m : Map) → Sound m → Kept m → (k : ℕ) → Own m k → ((bad_size m.size ≡ false) × (bad_radius m.size m.layer.radius ≡ false)) × Close k
unfolding refuse_asking is_due
own_close m g (inl l) k (stands t) = (l, stands_close m l.1 g k t)
own_close m g (inr e) k (stands t) = absurd (let z : T false = unfold get in rw e at t in z)
own_close m g d k (asked lent x y e t) = let p = passed _ e in ((p 1 tt, p 2 tt), asked_close lent m x y e k t)
own_close m g d k (inner lent e i) = let p = passed _ e in ((p 1 tt, p 2 tt), i)

pub own_safe : RunSafe
own_safe c r os p q v w =
    let m = run os (opened c r) in
    let g : Sound m = run_keeps Sound next_sound os (opened c r) (open_sound c r) in
    let d : Kept m = run_keeps Kept next_kept os (opened c r) (open_kept c r) in
    let i = own_close m g d p v in
    let j = own_close m g d q w in
    own_limits m i.0.0 i.0.1 p q i.1 j.1
