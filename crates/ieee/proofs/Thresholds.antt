-- The threshold of b: two roots, at patterns side by side, certify it, it is there for a NaN and for what is at most zero, and there is only one. Assumes nothing.
use Rattle.std.proofs.Common.{◌≡◌, ℕ, ◌+◌, ◌-◌, ◌*◌, ◌^◌, ◌<◌, ◌≤◌, Bool, true, false, not, T, ltb, leb, sym, refl, ap, ◌∙◌, subst, ⊎_elim, true≢false, zero-le, le_trans, le_of_eq, le_refl, lt_of_lt_of_le, lt_of_le_of_lt, le_of_lt, le_antisymm, eq-or-lt_of_le, arith, lit<, ltb-true, le-ltb, lt-ltb, le-leb, leb-false, leb-true}
use mathlib.Core.Bool.{false≢true}
use lib.Dec.{leb-zero}
use lib.Ieee.{Float, nan, inf, fin, binary64, lt, le, ne, is_nan, fits, of_bits, to_bits}
use lib.Ieee.Bits.{of_bits-to_bits}
use lib.Ieee.Compare.{differs_from_itself}
use borrow.Author.Tests.{not-false, lt-leb}
use Rattle.ieee.specs.Constants.{nought}
use Rattle.ieee.specs.Pick.{abs_f}
use Rattle.ieee.specs.Root.{root_f}
use Rattle.ieee.specs.Threshold.{Threshold}
use Rattle.ieee.specs.ThresholdSteps.{Between}
use Rattle.ieee.proofs.Tools.{lt_or_ge, lt_nan, lt_some_right, not_both, T_true}
use Rattle.ieee.proofs.Picks.{no_nan}
use Rattle.ieee.proofs.RootBits.{bits_under}
use Rattle.ieee.proofs.RootCases.{inf_bits}
use Rattle.ieee.proofs.Patterns.{top_is, finite_is, le_not, le_nan, nan_le, is_nan_is, le_some_left, le_some_right, lt_asym, Like, lt_like, le_like, bits_like, zero_like, like, none_below_low}
use Rattle.ieee.proofs.RootOrder.{root_bits, root_bits_mono, zero_root, top_root, Rank, rank_bits, rank}

-- ---- at a NaN every comparison is false
nan_root : root_f nan ≡ nan
unfolding root_f
nan_root = refl

le_root_nan : (b t q : Float) → q ≡ nan → le b (root_f q) ≡ le t q
le_root_nan b t q e = ap (λ (x : Float). le b (root_f x)) e ∙ ap (le b) nan_root ∙ le_nan b ∙ sym (le_nan t) ∙ ap (le t) (sym e)

root_nan_lt : (b t q : Float) → q ≡ nan → lt (root_f q) b ≡ lt q t
root_nan_lt b t q e = ap (λ (x : Float). lt (root_f x) b) e ∙ ap (λ (x : Float). lt x b) nan_root ∙ unfold lt in refl ∙ ap (λ (x : Float). lt x t) (sym e)

-- ---- the values of the patterns up to the infinity's are those with no sign
pub unsigned_bits : (n : ℕ) → n ≤ 2047 * 2 ^ 52 → abs_f (of_bits binary64 n) ≡ of_bits binary64 n
unfolding abs_f
unsigned_bits n h = ⊎_elim (λ e. at (inf false) (ap (of_bits binary64) e ∙ top_is) refl) (λ l. let f = finite_is n l in at (fin false f.0 f.1) f.2 refl) (eq-or-lt_of_le h)
  where
    at : (x : Float) → of_bits binary64 n ≡ x → abs_f x ≡ x → abs_f (of_bits binary64 n) ≡ of_bits binary64 n
    at x e u = ap abs_f e ∙ u ∙ sym e

unsigned_like : (t : Float) → T (fits binary64 t) → abs_f t ≡ t → is_nan t ≡ false → (n : ℕ) × Like t n × (t ≡ of_bits binary64 n)
unfolding abs_f is_nan
unsigned_like nan f u s = absurd (true≢false s)
unsigned_like (inf true) f u s = absurd (false≢true (cc))
unsigned_like (inf false) f u s = (2047 * 2 ^ 52, subst (λ (x : Float). Like x (2047 * 2 ^ 52)) top_is (bits_like (2047 * 2 ^ 52) (le_refl (2047 * 2 ^ 52))), sym top_is)
unsigned_like (fin true m e) f u s = absurd (false≢true (cc))
unsigned_like (fin false m e) f u s =
    let n = to_bits binary64 (fin false m e) in
    let back = of_bits-to_bits binary64 (fin false m e) f in
    (n, subst (λ (x : Float). Like x n) back (bits_like n (le_of_lt (bits_under m e f))), sym back)

-- ---- two roots certify the threshold
-- what is above zero compares as some pattern
above_like : (b : Float) → T (fits binary64 b) → lt nought b ≡ true → (k : ℕ) × Like b k
unfolding is_nan
above_like b f h = let s = lt_some_right nought b h in like b f (lt_asym nought b refl s h) s

module _ (k n : ℕ) (h : n < 2047 * 2 ^ 52) (lo : root_bits n < k) (hi : k ≤ root_bits (n + 1)) where
  -- the patterns up to n have a root below the pattern k, and the others have not
  under : (j : ℕ) → j < n + 1 → root_bits j < k
  under j l = lt_of_le_of_lt (root_bits_mono j n (omega arith) (le_of_lt h)) lo

  over : (j : ℕ) → j ≤ 2047 * 2 ^ 52 → n + 1 ≤ j → k ≤ root_bits j
  over j r l = le_trans hi (root_bits_mono (n + 1) j l r)

  reach : (j : ℕ) → j ≤ 2047 * 2 ^ 52 → leb k (root_bits j) ≡ leb (n + 1) j
  reach j r =
      ⊎_elim
      (λ l. lt-leb k (root_bits j) (under j l) ∙ sym (lt-leb (n + 1) j l))
      (λ l. le-leb k (root_bits j) (over j r l) ∙ sym (le-leb (n + 1) j l))
      (lt_or_ge j (n + 1))

  miss : (j : ℕ) → j ≤ 2047 * 2 ^ 52 → ltb (root_bits j) k ≡ ltb j (n + 1)
  miss j r =
      ⊎_elim
      (λ l. lt-ltb (root_bits j) k (under j l) ∙ sym (lt-ltb j (n + 1) l))
      (λ l. le-ltb (root_bits j) k (over j r l) ∙ sym (le-ltb j (n + 1) l))
      (lt_or_ge j (n + 1))

-- the root at n is not at least b, the root at n + 1 is: n + 1 is the threshold's pattern, for the root keeps the order and so do the patterns
pub certified : (b : Float) → T (fits binary64 b) → lt nought b ≡ true → (n : ℕ) → n < 2047 * 2 ^ 52 → le b (root_f (of_bits binary64 n)) ≡ false → le b (root_f (of_bits binary64 (n + 1))) ≡ true → Threshold b (of_bits binary64 (n + 1))
certified b f p n h lo hi = record {
  reached = λ q t l. ⊎_elim (le_root_nan b (of_bits binary64 (n + 1)) q) (reached q) (rank q t l);
  missed = λ q t l. ⊎_elim (root_nan_lt b (of_bits binary64 (n + 1)) q) (missed q) (rank q t l);
  unsigned = unsigned_bits (n + 1) next;
}
  where
    k : ℕ
    k = (above_like b f p).0

    B : Like b k
    B = (above_like b f p).1

    next : n + 1 ≤ 2047 * 2 ^ 52
    next = omega arith

    low : root_bits n < k
    low = leb-false k (root_bits n) (sym (le_like b (root_f (of_bits binary64 n)) k (root_bits n) B (rank_bits n (le_of_lt h)).root) ∙ lo)

    high : k ≤ root_bits (n + 1)
    high = leb-true k (root_bits (n + 1)) (sym (le_like b (root_f (of_bits binary64 (n + 1))) k (root_bits (n + 1)) B (rank_bits (n + 1) next).root) ∙ hi)

    reached : (q : Float) → (j : ℕ) × Rank q j → le b (root_f q) ≡ le (of_bits binary64 (n + 1)) q
    reached q r =
        le_like b (root_f q) k (root_bits r.0) B r.1.root ∙ reach k n h low high r.0 r.1.value.range
        ∙ sym (le_like (of_bits binary64 (n + 1)) q (n + 1) r.0 (bits_like (n + 1) next) r.1.value)

    missed : (q : Float) → (j : ℕ) × Rank q j → lt (root_f q) b ≡ lt q (of_bits binary64 (n + 1))
    missed q r =
        lt_like (root_f q) b (root_bits r.0) k r.1.root B ∙ miss k n h low high r.0 r.1.value.range
        ∙ sym (lt_like q (of_bits binary64 (n + 1)) r.0 (n + 1) r.1.value (bits_like (n + 1) next))

-- ---- b is a NaN, and b is at most zero
pub nan_threshold : (b : Float) → ne b b ≡ true → Threshold b b
unfolding abs_f
nan_threshold b h = subst (λ (x : Float). Threshold x x) (sym (differs_from_itself b (T_true h))) at_nan
  where
    at_nan : Threshold nan nan
    at_nan = record {
      reached = λ q t l. nan_le (root_f q) ∙ sym (nan_le q);
      missed = λ q t l. lt_nan (root_f q) ∙ sym (lt_nan q);
      unsigned = refl;
    }

pub low_threshold : (b : Float) → T (fits binary64 b) → le b nought ≡ true → Threshold b nought
unfolding abs_f
low_threshold b f h = record {
  reached = λ q t l. ⊎_elim (le_root_nan b nought q) (reached q) (rank q t l);
  missed = λ q t l. ⊎_elim (root_nan_lt b nought q) (missed q l) (rank q t l);
  unsigned = refl;
}
  where
    missed : (q : Float) → lt q nought ≡ false → (j : ℕ) × Rank q j → lt (root_f q) b ≡ lt q nought
    missed q l r = let R = r.1.root in R.lt_left b ∙ none_below_low b (root_bits r.0) f R.range h ∙ sym l

    reached : (q : Float) → (j : ℕ) × Rank q j → le b (root_f q) ≡ le nought q
    reached q r =
        let R = r.1.root in
        le_not b (root_f q) (le_some_left b nought h) R.some ∙ ap not (R.lt_left b ∙ none_below_low b (root_bits r.0) f R.range h)
        ∙ sym (le_like nought q 0 r.0 zero_like r.1.value ∙ leb-zero r.0)

-- ---- there is only one
-- of two thresholds that are no NaN each is at most the other: t's own root is at least b, so t is at least u
at_most : (b t u : Float) → T (fits binary64 t) → Threshold b t → Threshold b u → is_nan t ≡ false → le u t ≡ true
at_most b t u f h k s =
    let p = unsigned_like t f h.unsigned s in
    let z : lt t nought ≡ false = lt_like t nought p.0 0 p.1 zero_like ∙ le-ltb p.0 0 zero-le in
    sym (k.reached t f z) ∙ h.reached t f z ∙ le_like t t p.0 p.0 p.1 p.1 ∙ le-leb p.0 p.0 (le_refl p.0)

equal : (t u : Float) → T (fits binary64 t) → T (fits binary64 u) → abs_f t ≡ t → abs_f u ≡ u → le t u ≡ true → le u t ≡ true → t ≡ u
equal t u f g h k a c =
    let p = unsigned_like t f h (le_some_left t u a) in
    let q = unsigned_like u g k (le_some_right t u a) in
    let x = leb-true p.0 q.0 (sym (le_like t u p.0 q.0 p.1 q.1) ∙ a) in
    let y = leb-true q.0 p.0 (sym (le_like u t q.0 p.0 q.1 p.1) ∙ c) in
    p.2 ∙ ap (of_bits binary64) (le_antisymm x y) ∙ sym q.2

pub threshold_one : (b t u : Float) → T (fits binary64 t) → T (fits binary64 u) → Threshold b t → Threshold b u → t ≡ u
threshold_one b t u f g h k = go (is_nan t) (is_nan u) refl refl
  where
    go : (x y : Bool) → is_nan t ≡ x → is_nan u ≡ y → t ≡ u
    go true true p q = is_nan_is t p ∙ sym (is_nan_is u q)
    go true false p q = not_both p (le_some_left t u (at_most b u t g k h q))
    go false true p q = not_both q (le_some_left u t (at_most b t u f h k p))
    go false false p q = equal t u f g h.unsigned k.unsigned (at_most b u t g k h q) (at_most b t u f h k p)

-- ---- the code's steps: what `from_guess` and `bisect` find is the threshold's pattern
pub first_threshold : (b : Float) (r : ℕ) → T (fits binary64 b) → lt nought b ≡ true → Between b (r - 1) r → Threshold b (of_bits binary64 r)
first_threshold b r f h c =
    let e : r - 1 + 1 ≡ r = omega arith in
    subst (λ (m : ℕ). Threshold b (of_bits binary64 m)) e
    (certified b f h (r - 1) (lt_of_lt_of_le c.order c.range) c.missed (subst (λ (m : ℕ). le b (root_f (of_bits binary64 m)) ≡ true) (sym e) c.reached))

-- where the search begins: the root of 0 is below b, and the infinity's is not
pub search_ends : (b : Float) → T (fits binary64 b) → lt nought b ≡ true → Between b 0 (2047 * 2 ^ 52)
search_ends b f h =
    let k = above_like b f h in
    let low : ltb 0 k.0 ≡ true = sym (lt_like nought b 0 k.0 zero_like k.1) ∙ h in record {
      order = lit< tt;
      range = le_refl (2047 * 2 ^ 52);
      missed = ap (le b) zero_root ∙ le_like b (of_bits binary64 0) k.0 0 k.1 (bits_like 0 zero-le) ∙ lt-leb k.0 0 (ltb-true 0 k.0 low);
      reached = ap (le b) top_root ∙ le_like b (of_bits binary64 (2047 * 2 ^ 52)) k.0 (2047 * 2 ^ 52) k.1 (bits_like (2047 * 2 ^ 52) (le_refl (2047 * 2 ^ 52))) ∙ le-leb k.0 (2047 * 2 ^ 52) k.1.range;
    }

-- ---- what the tests of `root_threshold` tell: b is above zero, and so its bits are at most the infinity's
pub above_zero : (b : Float) → ne b b ≡ false → le b nought ≡ false → lt nought b ≡ true
unfolding is_nan
above_zero b n h = not-false (lt nought b) (sym (le_not b nought (no_nan b n) refl) ∙ h)

pub above_range : (b : Float) → T (fits binary64 b) → lt nought b ≡ true → to_bits binary64 b ≤ 2047 * 2 ^ 52
above_range nan f h = absurd (false≢true (unfold lt in h))
above_range (inf true) f h = absurd (false≢true (unfold lt in h))
above_range (inf false) f h = le_of_eq inf_bits
above_range (fin true m e) f h = absurd (false≢true (unfold lt in h))
above_range (fin false m e) f h = le_of_lt (bits_under m e f)
