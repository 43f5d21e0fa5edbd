-- A cell outside the spans is far: every step of the near test is monotone, and so holds beyond a bound where it holds at it. Assumes nothing.
use Rattle.std.proofs.Common.{◌≡◌, ℕ, ◌+◌, ◌^◌, ◌≤◌, Bool, true, false, cond, ◌⊎◌, ℤ, pos, negsuc, refl, ap, ◌∙◌, subst, inl, inr, arith, le-leb}
use lib.Signed.{le_z}
use lib.Ieee.{Float, binary64, add, sub, mul, neg, lt, le, eq, of_int, is_nan}
use lib.Ieee.Fits.{mul-fits}
use lib.Ieee.Scale.{finite}
use Rattle.ieee.specs.Constants.{nought, pow2}
use Rattle.ieee.specs.Whole.{unbias}
use Rattle.ieee.proofs.Integers.{ups, downs, unbias_parts}
use Rattle.ieee.proofs.Patterns.{lt_le}
use Rattle.ieee.proofs.Monotone.{le_trans, not_lt_le, not_below_le, neg_anti, neg_neg, neg_low, neg_high, of_int_mono, finite_number, finite_neg, finite_between}
use Rattle.ieee.proofs.MonotoneSum.{sub_both, sub_mono, sub_anti, add_number, sub_number, add_above_left, add_above_right}
use Rattle.ieee.proofs.MonotoneProduct.{mul_mono, mul_anti, mul_commutes, mul_neg, mul_number, square_high, square_mono, square_anti}
use Rattle.model.specs.Plane.{Pt, minus, times, dot, tiny}
use Rattle.segment.specs.Spans.{Small, SmallLine, up, down, Above, Below}
use Rattle.plane.specs.Edge.{edge_of}
use Rattle.segment.specs.Squared.{squared}
use Rattle.plane.specs.Values.{pt, vec}
use Rattle.segment.specs.declared.measured.Measured.{Measured}
use Rattle.segment.proofs.SquaredLaws.{square_short, square_before, square_past, square_within}

-- ---- values from -b to b, their products and differences
abbrev pub Within : Float → Float → Type 0
Within b x = (le (neg b) x ≡ true) × (le x b ≡ true)

within_finite : (b x : Float) → finite b ≡ true → Within b x → finite x ≡ true
within_finite b x f h = finite_between (neg b) x b (finite_neg b ∙ f) f h.0 h.1

-- a test of y that is known, or its contrary
by_sign : {P : Type 0} (y : Float) → is_nan y ≡ false → (le nought y ≡ true → P) → (le y nought ≡ true → P) → P
by_sign {P} y n f g = go (lt y nought) refl
  where
    go : (b : Bool) → lt y nought ≡ b → P
    go false e = f (not_below_le y n e)
    go true e = g (lt_le y nought e)

within_mul : (a b x y : Float) → le nought a ≡ true → finite a ≡ true → finite b ≡ true → Within a x → Within b y → Within (mul binary64 a b) (mul binary64 x y)
within_mul a b x y h fa fb p q = rw (mul_commutes x y) (by_sign y (finite_number y fy) high low)
  where
    fx : finite x ≡ true
    fx = within_finite a x fa p

    fy : finite y ≡ true
    fy = within_finite b y fb q

    fn : finite (neg a) ≡ true
    fn = finite_neg a ∙ fa

    fm : finite (neg b) ≡ true
    fm = finite_neg b ∙ fb

    -- a y is from -a b to a b
    above : le (mul binary64 y a) (mul binary64 a b) ≡ true
    above = rw (mul_commutes y a) (mul_mono a y b h q.1 (mul_number a y fa fy) (mul_number a b fa fb))

    below : le (neg (mul binary64 a b)) (mul binary64 y a) ≡ true
    below =
        subst (λ (z : Float). le z (mul binary64 y a) ≡ true) (mul_neg b a ∙ ap neg (mul_commutes b a))
        (rw (mul_commutes y a, mul_commutes (neg b) a) (mul_mono a (neg b) y h q.0 (mul_number a (neg b) fa fm) (mul_number a y fa fy)))

    turned : mul binary64 y (neg a) ≡ neg (mul binary64 y a)
    turned = mul_commutes y (neg a) ∙ mul_neg a y ∙ ap neg (mul_commutes a y)

    back : le (neg (mul binary64 y a)) (mul binary64 a b) ≡ true
    back = subst (λ (z : Float). le (neg (mul binary64 y a)) z ≡ true) (neg_neg (mul binary64 a b)) (neg_anti (neg (mul binary64 a b)) (mul binary64 y a) below)

    high : le nought y ≡ true → Within (mul binary64 a b) (mul binary64 y x)
    high k = (
      le_trans _ _ _ (neg_anti _ _ above) (subst (λ (z : Float). le z (mul binary64 y x) ≡ true) turned (mul_mono y (neg a) x k p.0 (mul_number y (neg a) fy fn) (mul_number y x fy fx))),
      le_trans _ _ _ (mul_mono y x a k p.1 (mul_number y x fy fx) (mul_number y a fy fa)) above,
    )

    low : le y nought ≡ true → Within (mul binary64 a b) (mul binary64 y x)
    low k = (
      le_trans _ _ _ below (mul_anti y x a k p.1 (mul_number y x fy fx) (mul_number y a fy fa)),
      le_trans _ _ _ (subst (λ (z : Float). le (mul binary64 y x) z ≡ true) turned (mul_anti y (neg a) x k p.0 (mul_number y (neg a) fy fn) (mul_number y x fy fx))) back,
    )

within_more : (b c x : Float) → le b c ≡ true → Within b x → Within c x
within_more b c x h p = (le_trans (neg c) (neg b) x (neg_anti b c h) p.0, le_trans x b c p.1 h)

-- ---- where columns begin: in order, and within 2 ^ 131
le_z_parts : (z w : ℤ) → ups z + downs w ≤ ups w + downs z → le_z z w ≡ true
le_z_parts (pos n) (pos m) h = le-leb n m (omega arith)
le_z_parts (pos n) (negsuc m) h = absurd (omega arith)
le_z_parts (negsuc n) (pos m) h = refl
le_z_parts (negsuc n) (negsuc m) h = le-leb m n (omega arith)

column_mono : (n k : ℕ) → n ≤ k → le (of_int binary64 (unbias n)) (of_int binary64 (unbias k)) ≡ true
column_mono n k h = let a = unbias_parts n in let b = unbias_parts k in of_int_mono (unbias n) (unbias k) (le_z_parts (unbias n) (unbias k) (omega arith))

column_within : (n : ℕ) → n ≤ 2 ^ 32 → Within (pow2 31) (of_int binary64 (unbias n))
unfolding of_int neg
column_within n h = (column_mono 0 n (omega arith), column_mono n (2 ^ 32) h)

module _ (size : Float) (low : le nought size ≡ true) (most : le size (pow2 100) ≡ true) where
  size_within : Within (pow2 100) size
  unfolding le lt eq neg
  size_within = (le_trans (neg (pow2 100)) nought size refl low, most)

  pub edge_mono : (n k : ℕ) → n ≤ k → k ≤ 2 ^ 32 → le (edge_of size n) (edge_of size k) ≡ true
  edge_mono n k h b =
      let f = within_finite (pow2 100) size refl size_within in
      let column : (j : ℕ) → j ≤ 2 ^ 32 → finite (of_int binary64 (unbias j)) ≡ true = λ j l. within_finite (pow2 31) (of_int binary64 (unbias j)) refl (column_within j l) in
      let l : n ≤ 2 ^ 32 = omega arith in
      mul_mono size (of_int binary64 (unbias n)) (of_int binary64 (unbias k)) low (column_mono n k h) (mul_number size _ f (column n l)) (mul_number size _ f (column k b))

  pub edge_within : (n : ℕ) → n ≤ 2 ^ 32 → Within (pow2 131) (edge_of size n)
  unfolding mul le lt eq
  edge_within n h = within_more (mul binary64 (pow2 100) (pow2 31)) (pow2 131) (edge_of size n) refl (within_mul (pow2 100) (pow2 31) size (of_int binary64 (unbias n)) refl refl refl size_within (column_within n h))

-- ---- from an end, small, to where a column begins
away_within : (x a : Float) → Within (pow2 131) x → Small a → Within (pow2 132) (sub binary64 x a)
unfolding le lt eq sub neg is_nan
away_within x a p q =
    let fx = within_finite (pow2 131) x refl p in
    let fa = within_finite (pow2 100) a refl q in
    let n = sub_number x a fx (finite_number a fa) in (
      le_trans (neg (pow2 132)) (sub binary64 (neg (pow2 131)) (pow2 100)) (sub binary64 x a) refl (sub_both (neg (pow2 131)) x a (pow2 100) p.0 q.1 refl n),
      le_trans (sub binary64 x a) (sub binary64 (pow2 131) (neg (pow2 100))) (pow2 132) (sub_both x (pow2 131) (neg (pow2 100)) a p.1 q.0 n refl) refl,
    )

pub small_finite : (z : Float) → Small z → finite z ≡ true
small_finite z h = within_finite (pow2 100) z refl h

away_finite : (z c : Float) → Within (pow2 131) z → Small c → finite (sub binary64 z c) ≡ true
away_finite z c p q = within_finite (pow2 132) (sub binary64 z c) refl (away_within z c p q)

away_number : (z c : Float) → Within (pow2 131) z → Small c → is_nan (sub binary64 z c) ≡ false
away_number z c p q = finite_number (sub binary64 z c) (away_finite z c p q)

-- ---- at least `side` off zero, one way or the other
abbrev pub Off : Float → Float → Type 0
Off side y = (le side y ≡ true) ⊎ (le y (neg side) ≡ true)

off_square : (side y : Float) → le nought side ≡ true → Off side y → le (mul binary64 side side) (mul binary64 y y) ≡ true
off_square side y h (inl k) = square_mono side y h k
off_square side y h (inr k) = square_anti side y h k

-- ---- one axis: a point's coordinate, and how the steps treat it
abbrev pub on : Bool → Pt → Float
on true p = p.x
on false p = p.y

off_product : (axis : Bool) (side : Float) (d : Pt) → le nought side ≡ true → is_nan d.x ≡ false → is_nan d.y ≡ false → Off side (on axis d) → le (mul binary64 side side) (dot d d) ≡ true
unfolding dot
off_product axis side d h x y o = le_trans _ _ _ (off_square side (on axis d) h o) (part axis)
  where
    part : (axis : Bool) → le (mul binary64 (on axis d) (on axis d)) (add binary64 (mul binary64 d.x d.x) (mul binary64 d.y d.y)) ≡ true
    part true = add_above_left (mul binary64 d.x d.x) (mul binary64 d.y d.y) (mul-fits binary64 d.x d.x) (square_high d.x x) (square_high d.y y)
    part false = add_above_right (mul binary64 d.x d.x) (mul binary64 d.y d.y) (mul-fits binary64 d.y d.y) (square_high d.x x) (square_high d.y y)

on_minus : (axis : Bool) (p q : Pt) → on axis (minus p q) ≡ sub binary64 (on axis p) (on axis q)
unfolding minus
on_minus true p q = refl
on_minus false p q = refl

on_times : (axis : Bool) (u : Pt) (s : Float) → on axis (times u s) ≡ mul binary64 (on axis u) s
unfolding times
on_times true u s = refl
on_times false u s = refl

-- ---- how far the segment goes along an axis: from `down` to `up`
nought_number : is_nan nought ≡ false
unfolding is_nan
nought_number = refl

zero_product : (u : Float) → finite u ≡ true → (le (mul binary64 u nought) nought ≡ true) × (le nought (mul binary64 u nought) ≡ true)
unfolding le lt eq neg
zero_product u f = by_sign u (finite_number u f) (λ k. both (mul_mono u nought (neg nought) k refl nz nn) (mul_mono u (neg nought) nought k refl nn nz)) (λ k. both (mul_anti u (neg nought) nought k refl nn nz) (mul_anti u nought (neg nought) k refl nz nn))
  where
    nz : is_nan (mul binary64 u nought) ≡ false
    nz = mul_number u nought f refl

    nn : is_nan (mul binary64 u (neg nought)) ≡ false
    nn = mul_number u (neg nought) f refl

    turned : mul binary64 u (neg nought) ≡ neg (mul binary64 u nought)
    turned = mul_commutes u (neg nought) ∙ mul_neg nought u ∙ ap neg (mul_commutes nought u)

    -- what is at most its own negative, and at least that, is zero
    both : le (mul binary64 u nought) (mul binary64 u (neg nought)) ≡ true → le (mul binary64 u (neg nought)) (mul binary64 u nought) ≡ true
        → (le (mul binary64 u nought) nought ≡ true) × (le nought (mul binary64 u nought) ≡ true)
    both p q =
        let z = mul binary64 u nought in
        let p' : le z (neg z) ≡ true = rw (← turned) p in
        let q' : le (neg z) z ≡ true = rw (← turned) q in
        (by_sign z nz (λ k. le_trans z (neg z) nought p' (neg_low z k)) (λ k. k), by_sign z nz (λ k. k) (λ k. le_trans nought (neg z) z (neg_high z k) q'))

part_finite : (l s : Float) → finite l ≡ true → le nought s ≡ true → le s l ≡ true → finite s ≡ true
part_finite l s f h k = finite_between nought s l refl f h k

module _ (u l s : Float) (fu : finite u ≡ true) (fl : finite l ≡ true) (low : le nought s ≡ true) (high : le s l ≡ true) where
  fs : finite s ≡ true
  fs = part_finite l s fl low high

  known : (b c : Float) → finite c ≡ true → is_nan (mul binary64 u c) ≡ false
  known b c f = mul_number u c fu f

  pub at_most_up : le (mul binary64 u s) (up u l) ≡ true
  at_most_up = go (lt nought u) refl
    where
      go : (b : Bool) → lt nought u ≡ b → le (mul binary64 u s) (cond b (mul binary64 u l) nought) ≡ true
      go true e = mul_mono u s l (lt_le nought u e) high (known u s fs) (known u l fl)
      go false e = le_trans _ _ _ (mul_anti u nought s (not_lt_le nought u nought_number (finite_number u fu) e) low (known u nought refl) (known u s fs)) (zero_product u fu).0

  pub at_least_down : le (down u l) (mul binary64 u s) ≡ true
  at_least_down = go (lt u nought) refl
    where
      go : (b : Bool) → lt u nought ≡ b → le (cond b (mul binary64 u l) nought) (mul binary64 u s) ≡ true
      go true e = mul_anti u s l (lt_le u nought e) high (known u s fs) (known u l fl)
      go false e = le_trans _ _ _ (zero_product u fu).1 (mul_mono u nought s (not_below_le u (finite_number u fu) e) low (known u nought refl) (known u s fs))

-- ---- a coordinate x that is off both ends, and off all between
pub record Aside (side a b u l x : Float) : Type 0 where
  pub first : Off side (sub binary64 x a)
  pub second : Off side (sub binary64 x b)
  pub between : (s : Float) → le nought s ≡ true → le s l ≡ true → Off side (sub binary64 (sub binary64 x a) (mul binary64 u s))

module _ (side a b u l x y : Float) (fa : Small a) (fb : Small b) (fu : Small u) (fl : Small l) (px : Within (pow2 131) x) (py : Within (pow2 131) y) where
  drift : (c : Float) → is_nan c ≡ false → (z : Float) → Within (pow2 131) z → is_nan (sub binary64 (sub binary64 z a) c) ≡ false
  drift c n z p = sub_number (sub binary64 z a) c (away_finite z a p fa) n

  -- above at x, and so at y further up
  pub above_aside : is_nan (up u l) ≡ false → le x y ≡ true → Above side a b (up u l) x → Aside side a b u l y
  above_aside n h k = record {
    first = inl (le_trans _ _ _ k.first (sub_mono x y a h (away_number x a px fa) (away_number y a py fa)));
    second = inl (le_trans _ _ _ k.second (sub_mono x y b h (away_number x b px fb) (away_number y b py fb)));
    between = λ s p q.
        let d = sub_mono (sub binary64 x a) (sub binary64 y a) (up u l) (sub_mono x y a h (away_number x a px fa) (away_number y a py fa)) (drift (up u l) n x px) (drift (up u l) n y py) in
        let m = mul_number u s (small_finite u fu) (part_finite l s (small_finite l fl) p q) in
        let e = sub_anti (sub binary64 y a) (mul binary64 u s) (up u l) (at_most_up u l s (small_finite u fu) (small_finite l fl) p q) (drift (mul binary64 u s) m y py) (drift (up u l) n y py) in
        inl (le_trans _ _ _ k.between (le_trans _ _ _ d e));
  }

  pub below_aside : is_nan (down u l) ≡ false → le y x ≡ true → Below side a b (down u l) x → Aside side a b u l y
  below_aside n h k = record {
    first = inr (le_trans _ _ _ (sub_mono y x a h (away_number y a py fa) (away_number x a px fa)) k.first);
    second = inr (le_trans _ _ _ (sub_mono y x b h (away_number y b py fb) (away_number x b px fb)) k.second);
    between = λ s p q.
        let d = sub_mono (sub binary64 y a) (sub binary64 x a) (down u l) (sub_mono y x a h (away_number y a py fa) (away_number x a px fa)) (drift (down u l) n y py) (drift (down u l) n x px) in
        let m = mul_number u s (small_finite u fu) (part_finite l s (small_finite l fl) p q) in
        let e = sub_anti (sub binary64 y a) (down u l) (mul binary64 u s) (at_least_down u l s (small_finite u fu) (small_finite l fl) p q) (drift (down u l) n y py) (drift (mul binary64 u s) m y py) in
        inr (le_trans _ _ _ e (le_trans _ _ _ d k.between));
  }

-- `up` and `down` are numbers
pub drift_number : (t : Bool) (u l : Float) → finite u ≡ true → finite l ≡ true → is_nan (cond t (mul binary64 u l) nought) ≡ false
drift_number true u l p q = mul_number u l p q
drift_number false u l p q = unfold is_nan in refl

-- ---- the square of the distance of a point that is aside
module _ (m : Measured) (side : Float) (sl : SmallLine m) (h : le nought side ≡ true) (p : Pt) (wx : Within (pow2 131) p.x) (wy : Within (pow2 131) p.y) where
  abbrev v : Pt
  v = minus p (pt m.segment.p0)

  abbrev w : Pt
  w = minus p (pt m.segment.p1)

  abbrev u : Pt
  u = vec m.unit

  abbrev s : Float
  s = dot v u

  abbrev across : Pt
  across = minus v (times u s)

  s_number : is_nan s ≡ false
  unfolding dot minus
  s_number =
      let vx = away_within p.x m.segment.p0.x wx sl.ax in
      let vy = away_finite p.y m.segment.p0.y wy sl.ay in
      let fx = within_finite (mul binary64 (pow2 132) (pow2 100)) (mul binary64 v.x u.x) (unfold mul in refl) (within_mul (pow2 132) (pow2 100) v.x u.x (unfold le in refl) refl refl vx sl.ux) in
      add_number (mul binary64 v.x u.x) (mul binary64 v.y u.y) fx (mul_number v.y u.y vy (small_finite u.y sl.uy))

  module _ (axis : Bool) (far : Aside side (on axis (pt m.segment.p0)) (on axis (pt m.segment.p1)) (on axis u) m.length (on axis p)) where
    pub aside_square : le (mul binary64 side side) (squared m p) ≡ true
    aside_square = short (lt m.length tiny) refl
      where
        to_first : le (mul binary64 side side) (dot v v) ≡ true
        to_first = off_product axis side v h (unfold minus in away_number p.x _ wx sl.ax) (unfold minus in away_number p.y _ wy sl.ay) (rw (on_minus axis p (pt m.segment.p0)) far.first)

        to_second : le (mul binary64 side side) (dot w w) ≡ true
        to_second = off_product axis side w h (unfold minus in away_number p.x _ wx sl.bx) (unfold minus in away_number p.y _ wy sl.by) (rw (on_minus axis p (pt m.segment.p1)) far.second)

        beside : lt s nought ≡ false → lt m.length s ≡ false → le (mul binary64 side side) (dot across across) ≡ true
        beside a b =
            let l = small_finite m.length sl.length in
            let low = not_below_le s s_number a in
            let high = not_lt_le m.length s (finite_number m.length l) s_number b in
            let fs = part_finite m.length s l low high in
            let nx = sub_number v.x (mul binary64 u.x s) (unfold minus in away_finite p.x _ wx sl.ax) (mul_number u.x s (small_finite u.x sl.ux) fs) in
            let ny = sub_number v.y (mul binary64 u.y s) (unfold minus in away_finite p.y _ wy sl.ay) (mul_number u.y s (small_finite u.y sl.uy) fs) in
            off_product axis side across h (unfold minus times in nx) (unfold minus times in ny) (rw (on_minus axis v (times u s), on_times axis u s, on_minus axis p (pt m.segment.p0)) (far.between s low high))

        between : lt m.length tiny ≡ false → lt s nought ≡ false → (b : Bool) → lt m.length s ≡ b → le (mul binary64 side side) (squared m p) ≡ true
        between long after true e = rw (← square_past m p v refl long after w refl e) to_second
        between long after false e = rw (← square_within m p v refl long after across refl e) (beside after e)

        before : lt m.length tiny ≡ false → (b : Bool) → lt s nought ≡ b → le (mul binary64 side side) (squared m p) ≡ true
        before long true e = rw (← square_before m p v refl long e) to_first
        before long false e = between long e (lt m.length s) refl

        short : (b : Bool) → lt m.length tiny ≡ b → le (mul binary64 side side) (squared m p) ≡ true
        short true e = rw (← square_short m p v refl e) to_first
        short false e = before e (lt s nought) refl
