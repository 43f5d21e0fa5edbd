-- The floor of a float that is (a - b) / 2 ^ j is the integers' division that rounds down. Assumes nothing.
use Rattle.std.proofs.Common.{◌≡◌, ℕ, zero, suc, ◌+◌, ◌-◌, ◌*◌, ◌/◌, ◌%◌, ◌^◌, ◌<◌, ◌≤◌, min, Bool, true, false, cond, eqb, ltb, ℤ, pos, negsuc, neg_ℤ, sym, refl, ap, ◌∙◌, lt_of_le_of_lt, add-zero, mod-lt, mod-eq_of_lt, suc-mul, div-add-mod', div-le_self, mul_right_comm, add-one, arith, eqb→eq, pow_pos, ltb-false, ltb-true, le-ltb, lt-ltb, ne_eqb}
use native.Mathlib.Nat.{eq_of_mul-eq-mul_right, div-eq_of_lt}
use lib.IntN.{sub_ℕ}
use lib.Signed.{shr_z}
use lib.Arith.{digits_div, digits_mod}
use lib.Ieee.{Float, nan, inf, fin, up, down}
use lib.Ieee.Fits.{down_pos, eq→eqb}
use lib.Ieee.Nearest.{div_same}
use Rattle.ieee.specs.Whole.{ceil_div, down_z, sat, floor_z}
use Rattle.ieee.proofs.Tools.{same_test}
use Rattle.ieee.proofs.Dyadic.{Off, Is, off_lt}

-- ---- equal fractions have one ceiling
nil : (a b c d : ℕ) → 0 < b → a * d ≡ c * b → a / b ≡ c / d → a % b ≡ 0 → c % d ≡ 0
nil a b c d B e q z =
    let x : a / b * b ≡ a = go (a / b * b) (a % b) a (div-add-mod' a b) z in
    let y : c * b ≡ c / d * d * b = sym e ∙ ap (λ (n : ℕ). n * d) (sym x) ∙ ap (λ (n : ℕ). n * b * d) q ∙ mul_right_comm (c / d) b d in
    let w : c ≡ c / d * d = eq_of_mul-eq-mul_right b B c (c / d * d) y in
    rest (c / d * d) (c % d) c (div-add-mod' c d) w
  where
    go : (x r a : ℕ) → x + r ≡ a → r ≡ 0 → x ≡ a
    go x r a h k = omega arith

    rest : (x r a : ℕ) → x + r ≡ a → a ≡ x → r ≡ 0
    rest x r a h k = omega arith

ceil_same : (a b c d : ℕ) → 0 < b → 0 < d → a * d ≡ c * b → ceil_div a b ≡ ceil_div c d
ceil_same a b c d B D e =
    let q = div_same a b c d B D e in
    let t : eqb (a % b) 0 ≡ eqb (c % d) 0 = same_test (eqb (a % b) 0) (eqb (c % d) 0)
    (λ t. eq→eqb (nil a b c d B e q (eqb→eq (a % b) 0 t)))
    (λ t. eq→eqb (nil c d a b D (sym e) (sym q) (eqb→eq (c % d) 0 t))) in
    ap (λ (n : ℕ). n + cond (eqb (a % b) 0) 0 1) q ∙ ap (λ (z : Bool). c / d + cond z 0 1) t

-- ---- a number by its quotient and remainder
ceil_digits : (q r l : ℕ) → r < l → ceil_div (q * l + r) l ≡ q + cond (eqb r 0) 0 1
ceil_digits q r l h = ap (λ (n : ℕ). n + cond (eqb ((q * l + r) % l) 0) 0 1) (digits_div q h) ∙ ap (λ (n : ℕ). q + cond (eqb n 0) 0 1) (digits_mod q h)

pos→false : (r : ℕ) → ◌≡◌ {A = ℕ} (cond (eqb (suc r) 0) 0 1) 1
pos→false r = ap (λ (b : Bool). cond b 0 1) (ne_eqb (suc r) 0 (go r))
  where
    go : (r : ℕ) → suc r ≡ 0 → ⊥
    go r h = omega arith

-- ---- a float that is (a - b) / 2 ^ j
down_is : (s : Bool) (a b c d : ℕ) → 0 < b → 0 < d → a * d ≡ c * b → down_z s a b ≡ down_z s c d
down_is false a b c d B D e = ap pos (div_same a b c d B D e)
down_is true a b c d B D e = ap (λ (n : ℕ). neg_ℤ (pos n)) (ceil_same a b c d B D e)

-- ---- a / l rounded up, from what is one less
pub ceil_zero : (l : ℕ) → 0 < l → ceil_div 0 l ≡ 0
ceil_zero l h = ap (λ (n : ℕ). n + cond (eqb (0 % l) 0) 0 1) (div-eq_of_lt h) ∙ ap (λ (n : ℕ). 0 + cond (eqb n 0) 0 1) (mod-eq_of_lt h)

pub ceil_suc : (y l : ℕ) → 0 < l → ceil_div (suc y) l ≡ suc (y / l)
ceil_suc y l L = go (y % l) refl (ltb (suc (y % l)) l) refl
  where
    q : ℕ
    q = y / l

    split : (r : ℕ) → y % l ≡ r → suc y ≡ y / l * l + suc r
    split r e = let f = div-add-mod' y l in omega arith

    last : (r : ℕ) → y % l ≡ r → l ≤ suc r → suc r ≡ l
    last r e h = let f = mod-lt y {m = l} L in omega arith

    whole : (r : ℕ) → y % l ≡ r → suc r ≡ l → suc y ≡ suc (y / l) * l + 0
    whole r e h = let f = split r e in let g = suc-mul (y / l) l in omega arith

    go : (r : ℕ) → y % l ≡ r → (b : Bool) → ltb (suc r) l ≡ b → ceil_div (suc y) l ≡ suc (y / l)
    go r e true h = ap (λ (n : ℕ). ceil_div n l) (split r e) ∙ ceil_digits (y / l) (suc r) l (ltb-true (suc r) l h) ∙ ap (λ (n : ℕ). y / l + n) (pos→false r) ∙ add-one (y / l)
    go r e false h = ap (λ (n : ℕ). ceil_div n l) (whole r e (last r e (ltb-false (suc r) l h))) ∙ ceil_digits (suc (y / l)) 0 l L ∙ add-zero (suc (y / l))

-- ---- floor as the integers' division that rounds down
sub_pos : (a b x : ℕ) → a ≡ b + x → sub_ℕ a b ≡ pos x
sub_pos a b x h = ap (λ (t : Bool). cond t (negsuc (b - suc a)) (pos (a - b))) (le-ltb a b (le a b x h)) ∙ ap pos (go a b x h)
  where
    le : (a b x : ℕ) → a ≡ b + x → b ≤ a
    le a b x h = omega arith

    go : (a b x : ℕ) → a ≡ b + x → a - b ≡ x
    go a b x h = omega arith

sub_neg : (a b x : ℕ) → b ≡ a + suc x → sub_ℕ a b ≡ negsuc x
sub_neg a b x h = ap (λ (t : Bool). cond t (negsuc (b - suc a)) (pos (a - b))) (lt-ltb a b (lt a b x h)) ∙ ap negsuc (go a b x h)
  where
    lt : (a b x : ℕ) → b ≡ a + suc x → a < b
    lt a b x h = omega arith

    go : (a b x : ℕ) → b ≡ a + suc x → b - suc a ≡ x
    go a b x h = omega arith

fit : (q : ℕ) → q < 2 ^ 63 → min q (2 ^ 63 - 1) ≡ q
fit q h = omega arith

int_floor : (s : Bool) (x a b l : ℕ) → 0 < l → x < 2 ^ 63 → Off s x a b → sat (down_z s x l) ≡ shr_z (sub_ℕ a b) l
int_floor false x a b l L h o = ap pos (fit (x / l) (lt_of_le_of_lt (div-le_self x l) h)) ∙ sym (ap (λ (z : ℤ). shr_z z l) (sub_pos a b x o))
int_floor true zero a b l L h o =
    ap (λ (n : ℕ). sat (neg_ℤ (pos n))) (ceil_zero l L) ∙ sym (ap (λ (z : ℤ). shr_z z l) (sub_pos a b 0 (sym (o ∙ add-zero a) ∙ sym (add-zero b))) ∙ ap pos (div-eq_of_lt L))
int_floor true (suc x) a b l L h o =
    ap (λ (n : ℕ). sat (neg_ℤ (pos n))) (ceil_suc x l L)
    ∙ ap negsuc (fit (x / l) (lt_of_le_of_lt (div-le_self x l) (less x h)))
    ∙ sym (ap (λ (z : ℤ). shr_z z l) (sub_neg a b x o))
  where
    less : (x : ℕ) → suc x < 2 ^ 63 → x < 2 ^ 63
    less x h = omega arith

pub floor_int : (x : Float) (a b j : ℕ) → Is x a b j → a < 2 ^ 63 → b < 2 ^ 63 → floor_z x ≡ shr_z (sub_ℕ a b) (2 ^ j)
unfolding floor_z
floor_int nan a b j h p q = absurd h.value
floor_int (inf t) a b j h p q = absurd h.value
floor_int (fin t m e) a b j h p q =
    ap (λ (s : Bool). sat (down_z s (m * up e) (down e))) h.value.0
    ∙ ap sat (down_is h.sign (m * up e) (down e) h.size (2 ^ j) (down_pos e) (pow_pos j) h.value.1)
    ∙ int_floor h.sign h.size a b (2 ^ j) (pow_pos j) (off_lt h.sign h.size a b (2 ^ 63) h.off p q) h.off
