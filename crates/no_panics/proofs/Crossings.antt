-- Where a side of the strip crosses a line: between the line's ends it rises by no more than the side does, but for rounding, so its heights stay within 511 * 2^33. Assumes nothing.
use mathlib.Core.Path.{◌≡◌, refl, ap, ◌∙◌, subst}
use mathlib.Core.Logic.{◌⊎◌, inl, inr, ⊎_elim}
use mathlib.Core.Bool.{Bool, true, false, cond, ◌&&◌, true≢false}
use mathlib.Core.List.{List, [], ◌∷◌}
use lib.Ieee.{Float, binary64, add, sub, mul, div, neg, lt, le, is_nan, of_bits}
use lib.Ieee.Scale.{finite}
use Rattle.ieee.specs.Constants.{nought, pow2}
use Rattle.ieee.specs.Pick.{abs_f}
use Rattle.ieee.proofs.Patterns.{le_some_left, le_some_right}
use Rattle.ieee.proofs.Monotone.{le_trans, le_self, not_lt_le, neg_neg, neg_anti, neg_high, neg_low, neg_number, finite_number, finite_neg, finite_between}
use Rattle.ieee.proofs.MonotoneSum.{add_commutes, add_mono, add_number, sub_number, sub_mono, sub_both}
use Rattle.ieee.proofs.MonotoneProduct.{mul_number, mul_mono_right, mul_mono, mul_neg}
use Rattle.model.specs.Plane.{tiny}
use Rattle.model.specs.Segment.{Seg, vertical_at}
use Rattle.ieee.proofs.Within.{Within, either, within_number, within_finite, within_wide, within_neg, within_sub, within_div, abs_cases, abs_high, sub_self, mul_turned, div_top, div_neg, div_neg_right}
use Rattle.no_panics.proofs.Ladder.{Rung, slope_step, slope_of, corner_rung, span_rung, corner_most, span_most, corner_rise, span_rise}
use Rattle.no_panics.proofs.Strips.{Kept, tiny_finite, tiny_above}

-- a rise y over a run d that is at least tiny, taken for the part u of it
record Part (d u : Float) : Type 0 where
  least : le tiny d ≡ true
  most : le d span_most ≡ true
  part : le nought u ≡ true
  whole : le u d ≡ true
  some : finite d ≡ true
  part_some : finite u ≡ true

ratio_most : le (div binary64 span_most tiny) (pow2 70) ≡ true
unfolding tiny of_bits div lt le
ratio_most = refl

span_high : le nought span_most ≡ true
unfolding lt le
span_high = refl

corner_high : le nought corner_most ≡ true
unfolding lt le
corner_high = refl

ratio : (y d : Float) → Within span_most y → le tiny d ≡ true → finite d ≡ true → finite (div binary64 y d) ≡ true
ratio y d w h f = within_finite (pow2 70) (div binary64 y d) refl (within_div span_most tiny (pow2 70) y d refl tiny_finite f span_high tiny_above ratio_most w h)

-- the rise is at most D, so that its part is at most R
rise : (D R y d u : Float) → finite D ≡ true → le nought D ≡ true → Within span_most y → le y D ≡ true → Part d u → Rung (slope_step D R) d → le (mul binary64 (div binary64 y d) u) R ≡ true
rise D R y d u f h w k p r =
    let a = r.below in
    let b = r.above in
    let s = slope_of D R a b r.step in
    let m = div binary64 y d in
    let q = div binary64 D a in
    let fm = ratio y d w p.least p.some in
    let n = mul_number q u s.ratio_finite p.part_some in
    le_trans (mul binary64 m u) (mul binary64 q u) R
    (mul_mono_right u m q p.part (div_top y D d a (within_finite span_most y refl w) f p.some s.first h s.positive k r.low) (mul_number m u fm p.part_some) n)
    (le_trans (mul binary64 q u) (mul binary64 q b) R (mul_mono q u b s.ratio (le_trans u d b p.whole r.high) n (mul_number q b s.ratio_finite s.second)) s.bound)

-- and downwards
fall : (D R y d u : Float) → finite D ≡ true → le nought D ≡ true → Within span_most y → le (neg y) D ≡ true → Part d u → Rung (slope_step D R) d → le (neg R) (mul binary64 (div binary64 y d) u) ≡ true
fall D R y d u f h w k p r =
    let e = ap (λ (z : Float). mul binary64 z u) (div_neg y d (within_finite span_most y refl w) p.some) ∙ mul_neg (div binary64 y d) u in
    let i : le (neg (mul binary64 (div binary64 y d) u)) R ≡ true = rw e at (rise D R (neg y) d u f h (within_neg span_most y w) k p r) in
    rw (neg_neg (mul binary64 (div binary64 y d) u)) at (neg_anti (neg (mul binary64 (div binary64 y d) u)) R i)

-- ---- from y0 to y1, both heights of corners
spans : (le (add binary64 corner_most corner_most) span_most ≡ true) × (le (neg span_most) (add binary64 (neg corner_most) (neg corner_most)) ≡ true)
unfolding add neg lt le
spans = (refl, refl)

ends : (le (sub binary64 corner_most nought) corner_most ≡ true) × (le (neg corner_most) (sub binary64 (neg corner_most) nought) ≡ true)
unfolding sub add neg lt le
ends = (refl, refl)

-- what is added to a height that is not below zero, and to one that is not above it
tops : (le (add binary64 corner_rise corner_most) span_rise ≡ true) × (le (neg span_rise) (add binary64 (neg span_rise) nought) ≡ true)
    × (le (add binary64 span_rise nought) span_rise ≡ true) × (le (neg span_rise) (add binary64 (neg corner_rise) (neg corner_most)) ≡ true)
unfolding add neg lt le
tops = (refl, refl, refl, refl)

numbers : (is_nan nought ≡ false) × (is_nan corner_most ≡ false) × (is_nan (neg corner_most) ≡ false)
unfolding is_nan neg
numbers = (refl, refl, refl)

finites : (finite (neg span_rise) ≡ true) × (finite (neg corner_rise) ≡ true) × (finite (neg corner_most) ≡ true)
unfolding neg
finites = (refl, refl, refl)

module _ (y0 y1 d u : Float) (v : Within corner_most y0) (w : Within corner_most y1) (p : Part d u) where
  abbrev dy : Float
  dy = sub binary64 y1 y0

  dy_within : Within span_most dy
  dy_within = within_sub corner_most corner_most span_most y1 y0 refl refl spans.0 spans.1 w v

  abbrev mu : Float
  mu = mul binary64 (div binary64 dy d) u

  y1_finite : finite y1 ≡ true
  y1_finite = within_finite corner_most y1 refl w

  y0_number : is_nan y0 ≡ false
  y0_number = within_number corner_most y0 v

  dy_number : is_nan dy ≡ false
  dy_number = within_number span_most dy dy_within

  mu_number : is_nan mu ≡ false
  mu_number = mul_number (div binary64 dy d) u (ratio dy d dy_within p.least p.some) p.part_some

  sum_number : is_nan (add binary64 mu y0) ≡ false
  sum_number = ap is_nan (add_commutes mu y0) ∙ add_number y0 mu (within_finite corner_most y0 refl v) mu_number

  -- from a height not below zero
  from_high : le nought y0 ≡ true → Within span_rise (add binary64 mu y0)
  from_high h =
      let up : le dy corner_most ≡ true =
      le_trans dy (sub binary64 corner_most nought) corner_most (sub_both y1 corner_most nought y0 w.1 h dy_number (sub_number corner_most nought refl numbers.0)) ends.0
      in
      let hi = rise corner_most corner_rise dy d u refl corner_high dy_within up p (corner_rung d p.least p.most) in
      let lo = fall span_most span_rise dy d u refl span_high dy_within (within_neg span_most dy dy_within).1 p (span_rung d p.least p.most) in (
        le_trans (neg span_rise) (add binary64 (neg span_rise) nought) (add binary64 mu y0) tops.1 (add_mono (neg span_rise) mu nought y0 lo h (add_number (neg span_rise) nought finites.0 numbers.0) sum_number),
        le_trans (add binary64 mu y0) (add binary64 corner_rise corner_most) span_rise (add_mono mu corner_rise y0 corner_most hi v.1 sum_number (add_number corner_rise corner_most refl numbers.1)) tops.0,
      )

  -- from one not above it
  from_low : le y0 nought ≡ true → Within span_rise (add binary64 mu y0)
  from_low h =
      let down : le (neg corner_most) dy ≡ true =
      le_trans (neg corner_most) (sub binary64 (neg corner_most) nought) dy ends.1 (sub_both (neg corner_most) y1 y0 nought w.0 h (sub_number (neg corner_most) nought finites.2 numbers.0) dy_number)
      in
      let under : le (neg dy) corner_most ≡ true = rw (neg_neg corner_most) at (neg_anti (neg corner_most) dy down) in
      let lo = fall corner_most corner_rise dy d u refl corner_high dy_within under p (corner_rung d p.least p.most) in
      let hi = rise span_most span_rise dy d u refl span_high dy_within dy_within.1 p (span_rung d p.least p.most) in (
        le_trans (neg span_rise) (add binary64 (neg corner_rise) (neg corner_most)) (add binary64 mu y0) tops.3 (add_mono (neg corner_rise) mu (neg corner_most) y0 lo v.0 (add_number (neg corner_rise) (neg corner_most) finites.1 numbers.2) sum_number),
        le_trans (add binary64 mu y0) (add binary64 span_rise nought) span_rise (add_mono mu span_rise y0 nought hi h sum_number (add_number span_rise nought refl numbers.0)) tops.2,
      )

  part_within : Within span_rise (add binary64 mu y0)
  part_within = ⊎_elim from_high from_low (either nought y0 numbers.0 y0_number)

-- ---- a whole crossing
abbrev pub AllWithin : List Float → Type 0
AllWithin [] = Unit {0}
AllWithin (v ∷ l) = Within span_rise v × AllWithin l

pub corner_wide : le corner_most span_rise ≡ true
unfolding lt le
corner_wide = refl

abs_plain : (x : Float) → le nought x ≡ true → le (abs_f x) x ≡ true
abs_plain x h = let n = le_some_right nought x h in ⊎_elim (λ p. rw p.1 (le_self x n)) (λ p. rw p.1 (le_trans (neg x) nought x (neg_low x h) h)) (abs_cases x n)

abs_turned : (x : Float) → le x nought ≡ true → le (abs_f x) (neg x) ≡ true
abs_turned x h =
    let n = le_some_left x nought h in
    ⊎_elim (λ p. rw p.1 (le_trans x nought (neg x) h (neg_high x h))) (λ p. rw p.1 (le_self (neg x) (neg_number x ∙ n))) (abs_cases x n)

abs_number : (x : Float) → is_nan x ≡ false → is_nan (abs_f x) ≡ false
abs_number x n = le_some_right nought (abs_f x) (abs_high x n)

-- not below both, and not above both
not_outside : (x a b : Float) → is_nan x ≡ false → is_nan a ≡ false → is_nan b ≡ false → lt x a && lt x b ≡ false → (le a x ≡ true) ⊎ (le b x ≡ true)
not_outside x a b n p q h = go (lt x a) (lt x b) refl refl h
  where
    go : (r s : Bool) → lt x a ≡ r → lt x b ≡ s → r && s ≡ false → (le a x ≡ true) ⊎ (le b x ≡ true)
    go false s e f h = inl (not_lt_le x a n p e)
    go true false e f h = inr (not_lt_le x b n q f)
    go true true e f h = absurd (true≢false h)

not_beyond : (x a b : Float) → is_nan x ≡ false → is_nan a ≡ false → is_nan b ≡ false → lt a x && lt b x ≡ false → (le x a ≡ true) ⊎ (le x b ≡ true)
not_beyond x a b n p q h = go (lt a x) (lt b x) refl refl h
  where
    go : (r s : Bool) → lt a x ≡ r → lt b x ≡ s → r && s ≡ false → (le x a ≡ true) ⊎ (le x b ≡ true)
    go false s e f h = inl (not_lt_le a x p n e)
    go true false e f h = inr (not_lt_le b x q n f)
    go true true e f h = absurd (true≢false h)

module _ (a b y0 y1 x : Float) (va : Within corner_most a) (vb : Within corner_most b) (v : Within corner_most y0) (w : Within corner_most y1) (n : is_nan x ≡ false) where
  abbrev d : Float
  d = sub binary64 b a

  abbrev u : Float
  u = sub binary64 x a

  abbrev met : Float
  met = add binary64 (mul binary64 (div binary64 (sub binary64 y1 y0) d) u) y0

  fa : finite a ≡ true
  fa = within_finite corner_most a refl va

  fb : finite b ≡ true
  fb = within_finite corner_most b refl vb

  d_within : Within span_most d
  d_within = within_sub corner_most corner_most span_most b a refl refl spans.0 spans.1 vb va

  fd : finite d ≡ true
  fd = within_finite span_most d refl d_within

  x_finite : (l h : Float) → finite l ≡ true → finite h ≡ true → le l x ≡ true → le x h ≡ true → finite x ≡ true
  x_finite l h p q i j = finite_between l x h p q i j

  -- a at the left
  ahead : le a x ≡ true → le x b ≡ true → le tiny (abs_f d) ≡ true → Within span_rise met
  ahead i j t =
      let fx = x_finite a b fa fb i j in
      let nu = sub_number x a fx (finite_number a fa) in
      let ns = sub_number a a fa (finite_number a fa) in
      let u0 = le_trans nought (sub binary64 a a) u (sub_self a fa).0 (sub_mono a x a i ns nu) in
      let ud = sub_mono x b a j nu (finite_number d fd) in
      let d0 = le_trans nought u d u0 ud in
      part_within y0 y1 d u v w
      (record { least = le_trans tiny (abs_f d) d t (abs_plain d d0); most = d_within.1; part = u0; whole = ud; some = fd; part_some = finite_between nought u d refl fd u0 ud })

  -- b at the left
  back : le b x ≡ true → le x a ≡ true → le tiny (abs_f d) ≡ true → Within span_rise met
  back i j t =
      let fx = x_finite b a fb fa i j in
      let nu = sub_number x a fx (finite_number a fa) in
      let ns = sub_number a a fa (finite_number a fa) in
      let u0 = le_trans u (sub binary64 a a) nought (sub_mono x a a j nu ns) (sub_self a fa).1 in
      let du = sub_mono b x a i (finite_number d fd) nu in
      let d0 = le_trans d u nought du u0 in
      let fy = within_finite span_most (sub binary64 y1 y0) refl (within_sub corner_most corner_most span_most y1 y0 refl refl spans.0 spans.1 w v) in
      let e = ap (λ (z : Float). mul binary64 z (neg u)) (div_neg_right (sub binary64 y1 y0) d fy fd) ∙ mul_turned (div binary64 (sub binary64 y1 y0) d) u in
      subst (λ (z : Float). Within span_rise (add binary64 z y0)) e
      (part_within y0 y1 (neg d) (neg u) v w
      (record {
        least = le_trans tiny (abs_f d) (neg d) t (abs_turned d d0);
        most = (within_neg span_most d d_within).1;
        part = neg_high u u0;
        whole = neg_anti d u du;
        some = finite_neg d ∙ fd;
        part_some = finite_neg u ∙ finite_between d u nought fd refl du u0;
      }))

  slanted : le tiny (abs_f d) ≡ true → lt x a && lt x b ≡ false → lt a x && lt b x ≡ false → Within span_rise met
  slanted t h k =
      let na = finite_number a fa in
      let nb = finite_number b fb in
      let l = not_outside x a b n na nb h in
      let r = not_beyond x a b n na nb k in
      ⊎_elim
      (λ c. ahead (⊎_elim (λ i. i) (λ i. le_trans a b x c i) l) (⊎_elim (λ i. le_trans x a b i c) (λ i. i) r) t)
      (λ c. back (⊎_elim (λ i. le_trans b a x c i) (λ i. i) l) (⊎_elim (λ i. i) (λ i. le_trans x b a i c) r) t)
      (either a b na nb)

pub crossing : (s : Seg) (x : Float) → is_nan x ≡ false → Kept corner_most s.p0 → Kept corner_most s.p1 → AllWithin (vertical_at s x)
unfolding vertical_at
crossing s x n v w =
    let a = s.p0.x in
    let b = s.p1.x in
    go (lt x a && lt x b) (lt a x && lt b x) (lt (abs_f (sub binary64 b a)) tiny) refl refl refl
  where
    d : Float
    d = sub binary64 s.p1.x s.p0.x

    nd : is_nan (abs_f d) ≡ false
    nd = abs_number d (within_number span_most d (within_sub corner_most corner_most span_most s.p1.x s.p0.x refl refl spans.0 spans.1 w.0 v.0))

    go : (h k t : Bool) → lt x s.p0.x && lt x s.p1.x ≡ h → lt s.p0.x x && lt s.p1.x x ≡ k → lt (abs_f (sub binary64 s.p1.x s.p0.x)) tiny ≡ t
        → AllWithin (cond h [] (cond k [] (cond t (s.p0.y ∷ s.p1.y ∷ []) (add binary64 (mul binary64 (div binary64 (sub binary64 s.p1.y s.p0.y) (sub binary64 s.p1.x s.p0.x)) (sub binary64 x s.p0.x)) s.p0.y ∷ []))))
    go true k t e f g = tt
    go false true t e f g = tt
    go false false true e f g = (within_wide corner_most span_rise s.p0.y corner_wide v.1, (within_wide corner_most span_rise s.p1.y corner_wide w.1, tt))
    go false false false e f g =
        (slanted s.p0.x s.p1.x s.p0.y s.p1.y x v.0 w.0 v.1 w.1 n (not_lt_le (abs_f d) tiny nd (finite_number tiny tiny_finite) g) e f, tt)
