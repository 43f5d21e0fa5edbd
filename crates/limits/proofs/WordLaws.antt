-- The refusals that are due, as a word: its bits are what the list says, and its first number in the order is the verdict. Assumes nothing.
use Prim.Native.Nat.{ℕ, zero, suc, ◌+◌, ◌/◌, ◌%◌, ◌^◌, ◌≤◌, ◌<◌}
use native.Mathlib.Nat.{div-div-eq-div-mul, div-one, mul-div_cancel, mul-mod_left, pow-suc, pow-succ', zero-div, zero-lt-suc}
use native.Mathlib.Numerals.{add-one}
use native.Mathlib.Omega.{arith}
use mathlib.Core.Path.{◌≡◌, refl, sym, ap, ◌∙◌}
use mathlib.Core.Bool.{Bool, true, false, cond, ◌||◌, or_assoc, or-false}
use mathlib.Core.List.{List, [], ◌∷◌, ◌++◌, map}
use lib.Bits.{bit_or, or_mod, or_shr, or_zero_r}
use lib.Dec.{eqb, eqb-suc-suc, eqb-suc-zero, eqb-zero-suc}
use lib.ListN.{drop, drop_of_length-le, get_or, length}
use lib.Seq.{drop-cons}
use Rattle.model.specs.Refusal.{Dues, first_due, is_due, order, verdict}
use Rattle.limits.specs.Refusals.{number}
use Rattle.limits.specs.Words.{first_on, is_on, word_on}
use Rattle.limits.specs.declared.refusal.Refusal.{Refusal}

-- ---- bits
on_or : (a b n : ℕ) → is_on (bit_or a b) n ≡ is_on a n || is_on b n
on_or a b n = ap (λ (x : ℕ). eqb (x % 2) 1) (or_shr a b n) ∙ ap (λ (x : ℕ). eqb x 1) (or_mod (a / 2 ^ n) (b / 2 ^ n) 1) ∙ go (a / 2 ^ n % 2) (b / 2 ^ n % 2) (omega arith) (omega arith)
  where
    go : (x y : ℕ) → x < 2 → y < 2 → eqb (bit_or x y) 1 ≡ eqb x 1 || eqb y 1
    go zero y h k = refl
    go (suc zero) zero h k = refl
    go (suc zero) (suc zero) h k = refl
    go (suc zero) (suc (suc y)) h k = absurd (omega arith)
    go (suc (suc x)) y h k = absurd (omega arith)

on_zero : (n : ℕ) → is_on 0 n ≡ false
on_zero n = rw (zero-div (2 ^ n)) refl

halved : (w n : ℕ) → w / 2 ^ suc n ≡ w / 2 / 2 ^ n
halved w n = rw (pow-succ' 2 n) (sym (div-div-eq-div-mul w 2 (2 ^ n)))

on_power : (n k : ℕ) → is_on (2 ^ k) n ≡ eqb n k
on_power zero zero = refl
on_power zero (suc k) = rw (div-one (2 ^ suc k), pow-suc 2 k, mul-mod_left (2 ^ k) 2) (sym (eqb-zero-suc k))
on_power (suc n) zero = rw (halved 1 n) (on_zero n) ∙ sym (eqb-suc-zero n)
on_power (suc n) (suc k) = rw (halved (2 ^ suc k) n, pow-suc 2 k, mul-div_cancel (2 ^ k) (zero-lt-suc 1)) (on_power n k) ∙ sym (eqb-suc-suc n k)

-- the bits of a word are what was due before, and what the list says
word_on_lem : (w : ℕ) (d : Dues) (n : ℕ) → is_on (word_on w d) n ≡ is_on w n || is_due n d
unfolding word_on is_due
word_on_lem w [] n = sym (or-false (is_on w n))
word_on_lem w (e ∷ l) n =
    on_or (word_on w l) (cond e.1 (2 ^ e.0) 0) n ∙ ap (λ (x : Bool). x || is_on (cond e.1 (2 ^ e.0) 0) n) (word_on_lem w l n) ∙ go e.1 (is_on w n) (is_due n l)
  where
    both : (x r t : Bool) → (x || r) || t ≡ x || cond t (r || true) r
    both x r true = or_assoc x r true
    both x r false = or-false (x || r)

    neither : (x r t : Bool) → (x || r) || false ≡ x || cond t (r || false) r
    neither x r true = or_assoc x r false
    neither x r false = or-false (x || r)

    go : (b x r : Bool) → (x || r) || is_on (cond b (2 ^ e.0) 0) n ≡ x || cond (eqb n e.0) (r || b) r
    go true x r = rw (on_power n e.0) (both x r (eqb n e.0))
    go false x r = rw (on_zero n) (neither x r (eqb n e.0))

-- ---- the first number
first_on_lem : (ns : List ℕ) (w : ℕ) (d : Dues) → ((n : ℕ) → is_on w n ≡ is_due n d) → first_on ns w ≡ first_due ns d
unfolding first_on first_due
first_on_lem [] w d h = refl
first_on_lem (n ∷ ns) w d h = rw (h n, first_on_lem ns w d h) refl

-- a word of what is due gives the verdict
pub judged : (d : Dues) {w r : ℕ} → r ≡ first_on order w → w ≡ word_on 0 d → r ≡ verdict d
unfolding verdict
judged d {w} e f = e ∙ first_on_lem order w d (λ n. ap (λ (x : ℕ). is_on x n) f ∙ word_on_lem 0 d n ∙ rw (on_zero n) refl)

-- nothing is due of the word 0
pub none_first : 0 ≡ first_on order 0
none_first = sym (first_on_lem order 0 [] (λ n. on_zero n ∙ unfold is_due in refl) ∙ unfold first_due is_due in refl)

-- ---- one number more, as `due` adds it
pub due_added : (n : ℕ) {w r : ℕ} {a : Bool} (v : ℕ) (b : Bool) (l : Dues) → r ≡ bit_or w (cond a (2 ^ (n % 64)) 0) → n % 64 ≡ n → a ≡ b → w ≡ word_on v l → r ≡ word_on v ((n, b) ∷ l)
unfolding word_on
due_added n v b l e m f g = e ∙ rw (m, f, g) refl

pub none_added : (v : ℕ) → v ≡ word_on v []
unfolding word_on
none_added v = refl

-- one list after another
pub both_added : (v : ℕ) (k l : Dues) → word_on (word_on v l) k ≡ word_on v (k ++ l)
unfolding word_on
both_added v [] l = refl
both_added v (d ∷ k) l = ap (λ (w : ℕ). bit_or w (cond d.1 (2 ^ d.0) 0)) (both_added v k l)

-- what is not due adds nothing
pub due_not : (n v : ℕ) (l : Dues) → word_on v ((n, false) ∷ l) ≡ word_on v l
unfolding word_on
due_not n v l = or_zero_r (word_on v l)

-- ---- the loop over the order
pub first_next : (l : List Refusal) (w i : ℕ) (z : Refusal) (b : Bool) → i < length l → is_on w (number (get_or l i z)) ≡ b
    → first_on (map number (drop i l)) w ≡ cond b (number (get_or l i z)) (first_on (map number (drop (i + 1) l)) w)
unfolding first_on
first_next l w i z b h e = ap (λ (m : List Refusal). first_on (map number m) w) (drop-cons l i z h) ∙ rw (e, add-one i) refl

pub first_end : (l : List Refusal) (w i : ℕ) → length l ≤ i → first_on (map number (drop i l)) w ≡ 0
unfolding first_on
first_end l w i h = rw (drop_of_length-le l h) refl
