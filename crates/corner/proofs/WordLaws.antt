-- The bits of words: of `&`, `|`, `^`, shifts, sums of parts and remainders. Assumes nothing.
use Prim.Native.Nat.{ℕ, zero, suc, ◌+◌, ◌*◌, ◌/◌, ◌%◌, ◌^◌, ◌<◌}
use native.Mathlib.Nat.{le_of_suc-le-suc, not-suc-le-zero, add_comm, zero-add, zero-mul, mul_assoc, pow-suc}
use native.Mathlib.Omega.{arith}
use mathlib.Core.Path.{◌≡◌, refl, sym, ap, ◌∙◌}
use mathlib.Core.Bool.{Bool, true, false, not, cond, ◌&&◌, ◌||◌, beq}
use lib.Bits.{bit_and, bit_or, bit_xor, and_shr, and_mod, or_shr, or_mod, xor_shr, xor_mod}
use lib.Dec.{eqb}
use lib.Pow.{high, shl-shr, shr-shr, split}
use Rattle.corner.specs.Window.{on, without}

-- ---- an operation on two words is one on their bits
module _ (op : ℕ → ℕ → ℕ) (f : Bool → Bool → Bool) (shr : (a b : ℕ) → op a b / 2 ≡ op (a / 2) (b / 2)) (rest : (a b : ℕ) → op a b % 2 ≡ op (a % 2) (b % 2)) where
  on_op : ((x y : ℕ) → x < 2 → y < 2 → eqb (op x y) 1 ≡ f (eqb x 1) (eqb y 1)) → (a b i : ℕ) → on (op a b) i ≡ f (on a i) (on b i)
  unfolding on
  on_op t a b zero = ap (λ (x : ℕ). eqb x 1) (rest a b) ∙ t (a % 2) (b % 2) (omega arith) (omega arith)
  on_op t a b (suc i) = ap (λ (x : ℕ). on x i) (shr a b) ∙ on_op t (a / 2) (b / 2) i

pub on_and : (a b i : ℕ) → on (bit_and a b) i ≡ on a i && on b i
on_and = on_op bit_and (λ x y. x && y) (λ a b. and_shr a b 1) (λ a b. and_mod a b 1) go
  where
    go : (x y : ℕ) → x < 2 → y < 2 → eqb (bit_and x y) 1 ≡ eqb x 1 && eqb y 1
    go zero y h k = refl
    go (suc zero) zero h k = refl
    go (suc zero) (suc zero) h k = refl
    go (suc zero) (suc (suc y)) h k = absurd (omega arith)
    go (suc (suc x)) y h k = absurd (omega arith)

pub on_or : (a b i : ℕ) → on (bit_or a b) i ≡ on a i || on b i
on_or = on_op bit_or (λ x y. x || y) (λ a b. or_shr a b 1) (λ a b. or_mod a b 1) go
  where
    go : (x y : ℕ) → x < 2 → y < 2 → eqb (bit_or x y) 1 ≡ eqb x 1 || eqb y 1
    go zero y h k = refl
    go (suc zero) zero h k = refl
    go (suc zero) (suc zero) h k = refl
    go (suc zero) (suc (suc y)) h k = absurd (omega arith)
    go (suc (suc x)) y h k = absurd (omega arith)

pub on_xor : (a b i : ℕ) → on (bit_xor a b) i ≡ not (beq (on a i) (on b i))
on_xor = on_op bit_xor (λ x y. not (beq x y)) (λ a b. xor_shr a b 1) (λ a b. xor_mod a b 1) go
  where
    go : (x y : ℕ) → x < 2 → y < 2 → eqb (bit_xor x y) 1 ≡ not (beq (eqb x 1) (eqb y 1))
    go zero zero h k = refl
    go zero (suc zero) h k = refl
    go zero (suc (suc y)) h k = absurd (omega arith)
    go (suc zero) zero h k = refl
    go (suc zero) (suc zero) h k = refl
    go (suc zero) (suc (suc y)) h k = absurd (omega arith)
    go (suc (suc x)) y h k = absurd (omega arith)

pub on_without : (n m i : ℕ) → on (without n m) i ≡ on n i && not (on m i)
on_without n m i = on_xor n (bit_and n m) i ∙ rw (on_and n m i) (go (on n i) (on m i))
  where
    go : (x y : Bool) → not (beq x (x && y)) ≡ x && not y
    go true true = refl
    go true false = refl
    go false y = refl

-- ---- shifts
pub on_shr : (n i s : ℕ) → on n (i + s) ≡ on (n / 2 ^ s) i
unfolding on
on_shr n i zero =
    let e : i + 0 ≡ i = omega arith in
    let d : n ≡ n / 1 = omega arith in
    rw e (ap (λ (m : ℕ). on m i) d)
on_shr n i (suc s) =
    let e : i + suc s ≡ suc (i + s) = omega arith in
    let d : 1 + s ≡ suc s = omega arith in
    rw e (on_shr (n / 2) i s ∙ ap (λ (m : ℕ). on m i) (shr-shr n 1 s ∙ ap (λ (k : ℕ). n / 2 ^ k) d))

pub on_zero : (i : ℕ) → on 0 i ≡ false
unfolding on
on_zero zero = refl
on_zero (suc i) = on_zero i

-- the bit as the code reads it
pub on_read : (n i : ℕ) → on n i ≡ eqb (n / 2 ^ i % 2) 1
unfolding on
on_read n i = ap (on n) (sym (zero-add i)) ∙ on_shr n 0 i

pub digit_read : (n i : ℕ) → ◌≡◌ {A = ℕ} (cond (on n i) 1 0) (n / 2 ^ i % 2)
digit_read n i = rw (on_read n i) (go (n / 2 ^ i % 2) (omega arith))
  where
    go : (x : ℕ) → x < 2 → ◌≡◌ {A = ℕ} (cond (eqb x 1) 1 0) x
    go zero h = refl
    go (suc zero) h = refl
    go (suc (suc x)) h = absurd (omega arith)

pub on_up : (n s i j : ℕ) → j ≡ i + s → on (n * 2 ^ s) j ≡ on n i
on_up n s i j e = rw (e, on_shr (n * 2 ^ s) i s, shl-shr n s)

pub on_down : (n s i j : ℕ) → j ≡ i + s → on (n / 2 ^ s) i ≡ on n j
on_down n s i j e = rw e (sym (on_shr n i s))

-- ---- a word made of a low and a high part
pub on_high : (k lo hi i : ℕ) → lo < 2 ^ k → on (lo + hi * 2 ^ k) (i + k) ≡ on hi i
on_high k lo hi i h =
    on_shr (lo + hi * 2 ^ k) i k
    ∙ ap (λ (m : ℕ). on m i) (ap (λ (m : ℕ). m / 2 ^ k) (add_comm lo (hi * 2 ^ k)) ∙ high hi k h)

twice : (a k : ℕ) → a * 2 ^ suc k ≡ a * 2 ^ k * 2
twice a k = ap (λ (x : ℕ). a * x) (pow-suc 2 k) ∙ sym (mul_assoc a (2 ^ k) 2)

pub on_low : (k lo hi i : ℕ) → i < k → on (lo + hi * 2 ^ k) i ≡ on lo i
unfolding on
on_low zero lo hi i h = absurd (not-suc-le-zero h)
on_low (suc k) lo hi zero h =
    let e : hi * 2 ^ suc k ≡ hi * 2 ^ k * 2 = twice hi k in
    let r : (lo + hi * 2 ^ suc k) % 2 ≡ lo % 2 = rw e (omega arith) in
    ap (λ (x : ℕ). eqb x 1) r
on_low (suc k) lo hi (suc i) h =
    let e : hi * 2 ^ suc k ≡ hi * 2 ^ k * 2 = twice hi k in
    let r : (lo + hi * 2 ^ suc k) / 2 ≡ lo / 2 + hi * 2 ^ k = rw e (omega arith) in
    ap (λ (x : ℕ). on x i) r ∙ on_low k (lo / 2) hi i (le_of_suc-le-suc h)

-- ---- one more bit on top
pub on_top : (k lo hi : ℕ) → lo < 2 ^ k → on (lo + hi * 2 ^ k) k ≡ on hi 0
on_top k lo hi h = ap (on (lo + hi * 2 ^ k)) (sym (zero-add k)) ∙ on_high k lo hi 0 h

-- ---- a word's low part
pub on_mod : (k n i : ℕ) → i < k → on (n % 2 ^ k) i ≡ on n i
on_mod k n i h = sym (on_low k (n % 2 ^ k) (n / 2 ^ k) i h) ∙ ap (λ (m : ℕ). on m i) (add_comm (n % 2 ^ k) (n / 2 ^ k * 2 ^ k) ∙ split n k)

pub on_beyond : (k n i : ℕ) → n < 2 ^ k → on n (i + k) ≡ false
on_beyond k n i h =
    let e : n + 0 * 2 ^ k ≡ n = rw (zero-mul (2 ^ k)) (omega arith) in
    ap (λ (m : ℕ). on m (i + k)) (sym e) ∙ on_high k n 0 i h ∙ on_zero i
