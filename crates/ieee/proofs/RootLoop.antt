-- The digit-by-digit root of m * 2 ^ 54: what holds at the head of the loop, and that a turn keeps it. Assumes nothing.
use Rattle.std.proofs.Common.{◌≡◌, ℕ, ◌+◌, ◌-◌, ◌*◌, ◌/◌, ◌%◌, ◌^◌, ◌<◌, ◌≤◌, ap, ◌∙◌, add-one, arith, pow_mono}
use native.Mathlib.Nat.{mul-mul-mul_comm, pow-succ'}
use Rattle.ieee.proofs.Squares.{sq_next}

-- after i turns. The digits taken make r * r + rem, and those not yet taken stand in `left`, from its top.
pub record Turn (m left rem r i : ℕ) : Type 0 where
  pub word : left < 2 ^ 64
  pub rest : rem ≤ 2 * r
  pub small : r < 2 ^ 54
  pub grows : r < 2 ^ i
  pub whole : (r * r + rem) * 2 ^ 64 + left ≡ m * 1024 * 4 ^ i

next_power : (b i : ℕ) → b ^ (i + 1) ≡ b * b ^ i
next_power b i = ap (λ (n : ℕ). b ^ n) (add-one i) ∙ pow-succ' b i

sq_twice : (r : ℕ) → r * 2 * (r * 2) ≡ 4 * (r * r)
sq_twice r = let e = mul-mul-mul_comm r 2 r 2 in omega arith

four_times : (x p y q : ℕ) → x ≡ y * p → q ≡ 4 * p → 4 * x ≡ y * q
four_times x p y q h e = rw (e, h) (omega arith)

module _ {m left rem r i : ℕ} (t : Turn m left rem r i) (on : i < 54) where
  under : 2 ^ (i + 1) ≤ 2 ^ 54
  under = let k : i + 1 ≤ 54 = omega arith in pow_mono k

  more : 4 * ((r * r + rem) * 2 ^ 64 + left) ≡ m * 1024 * 4 ^ (i + 1)
  more = four_times ((r * r + rem) * 2 ^ 64 + left) (4 ^ i) (m * 1024) (4 ^ (i + 1)) t.whole (next_power 4 i)

  pub skipped : rem * 4 + left / 4611686018427387904 ≤ r * 2 * 2 → Turn m (left % 4611686018427387904 * 4) (rem * 4 + left / 4611686018427387904) (r * 2) (i + 1)
  skipped h =
      let d = next_power 2 i in
      let u = under in
      let e = sq_twice r in
      let f = more in
      record { word = omega arith; rest = omega arith; small = omega arith; grows = omega arith; whole = omega arith }

  pub taken : r * 2 * 2 < rem * 4 + left / 4611686018427387904 → Turn m (left % 4611686018427387904 * 4) (rem * 4 + left / 4611686018427387904 - (r * 2 * 2 + 1)) (r * 2 + 1) (i + 1)
  taken h =
      let d = next_power 2 i in
      let u = under in
      let e = sq_twice r in
      let k = sq_next (r * 2) in
      let f = more in
      record { word = omega arith; rest = omega arith; small = omega arith; grows = omega arith; whole = omega arith }
