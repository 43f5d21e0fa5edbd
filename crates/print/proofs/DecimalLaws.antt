-- A number in decimal: its last digit comes after those of a tenth of it; how many digits it has. Assumes nothing.
use Prim.Native.Nat.{ℕ, zero, suc, ◌+◌, ◌/◌, ◌%◌, ◌^◌, ◌≤◌, ◌<◌}
use native.Mathlib.Nat.{not-suc-le-zero, pow-suc}
use native.Mathlib.Omega.{arith}
use mathlib.Core.Path.{◌≡◌, refl, ap, ◌∙◌}
use mathlib.Core.Bool.{Bool, true, false, cond}
use mathlib.Core.List.{List, [], ◌∷◌, ◌++◌}
use mathlib.Core.Logic.{⊎_elim}
use lib.Dec.{ltb}
use lib.ListN.{length, length-append}
use borrow.Author.Tests.{ltb-false, lt-ltb, le-ltb}
use Rattle.ieee.proofs.Tools.{lt_or_ge}
use Rattle.model.specs.Listing.{digits, decimal}

-- what comes after stays there
digits_before : (f n : ℕ) (m l : List ℕ) → digits f n (m ++ l) ≡ digits f n m ++ l
unfolding digits
digits_before zero n m l = refl
digits_before (suc f) n m l = go (ltb n 10) (digits_before f (n / 10) ((48 + n % 10) ∷ m) l)
  where
    go : (b : Bool) → digits f (n / 10) ((48 + n % 10) ∷ (m ++ l)) ≡ digits f (n / 10) ((48 + n % 10) ∷ m) ++ l
        → cond b ((48 + n % 10) ∷ (m ++ l)) (digits f (n / 10) ((48 + n % 10) ∷ (m ++ l))) ≡ cond b ((48 + n % 10) ∷ m) (digits f (n / 10) ((48 + n % 10) ∷ m)) ++ l
    go true x = refl
    go false x = x

-- more turns than are needed change nothing
digits_turns : (f g n : ℕ) (l : List ℕ) → n < f → n < g → digits f n l ≡ digits g n l
unfolding digits
digits_turns zero g n l h k = absurd (not-suc-le-zero h)
digits_turns (suc f) zero n l h k = absurd (not-suc-le-zero k)
digits_turns (suc f) (suc g) n l h k = go (ltb n 10) refl (digits_turns f g (n / 10) ((48 + n % 10) ∷ l))
  where
    go : (b : Bool) → ltb n 10 ≡ b → (n / 10 < f → n / 10 < g → digits f (n / 10) ((48 + n % 10) ∷ l) ≡ digits g (n / 10) ((48 + n % 10) ∷ l))
        → cond b ((48 + n % 10) ∷ l) (digits f (n / 10) ((48 + n % 10) ∷ l)) ≡ cond b ((48 + n % 10) ∷ l) (digits g (n / 10) ((48 + n % 10) ∷ l))
    go true q x = refl
    go false q x =
        let s = ltb-false n 10 q in
        let i : n / 10 < f = omega arith in
        let j : n / 10 < g = omega arith in
        x i j

pub decimal_one : (n : ℕ) → n < 10 → decimal n ≡ (48 + n) ∷ []
unfolding digits
decimal_one n h = rw (lt-ltb n 10 h) (let e : 48 + n % 10 ≡ 48 + n = omega arith in ap (λ (d : ℕ). d ∷ []) e)

pub decimal_more : (n : ℕ) → 10 ≤ n → decimal n ≡ decimal (n / 10) ++ (48 + n % 10) ∷ []
unfolding digits
decimal_more n h =
    let d : List ℕ = (48 + n % 10) ∷ [] in
    rw (le-ltb n 10 h) (digits_turns n (suc (n / 10)) (n / 10) d (omega arith) (omega arith) ∙ digits_before (suc (n / 10)) (n / 10) [] d)

pub length_one : (n : ℕ) → n < 10 → length (decimal n) ≡ 1
length_one n h = ap length (decimal_one n h)

pub length_more : (n : ℕ) → 10 ≤ n → length (decimal n) ≡ length (decimal (n / 10)) + 1
length_more n h = ap length (decimal_more n h) ∙ length-append (decimal (n / 10)) ((48 + n % 10) ∷ [])

pub length_some : (n : ℕ) → 0 < length (decimal n)
length_some n = ⊎_elim (λ h. omega (arith, length_one n h)) (λ h. omega (arith, length_more n h)) (lt_or_ge n 10)

-- a number below 10 ^ k has at most k digits
pub length_most : (k n : ℕ) → n < 10 ^ suc k → length (decimal n) ≤ suc k
length_most zero n h = omega (arith, length_one n h)
length_most (suc k) n h =
    let e = pow-suc 10 (suc k) in
    let l : n / 10 < 10 ^ suc k = omega arith in
    let r = length_most k (n / 10) l in
    ⊎_elim (λ q. omega (arith, length_one n q)) (λ q. omega (arith, length_more n q)) (lt_or_ge n 10)

-- there is room for the digits where there is for the most that there may be
pub room_for : (k n a m : ℕ) → n < 10 ^ suc k → a + suc k ≤ m → a + length (decimal n) ≤ m
room_for k n a m h l = omega (arith, length_most k n h)
