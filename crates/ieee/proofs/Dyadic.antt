-- Float steps that lose nothing. `Is x a b j` says that x is finite and is the number (a - b) / 2 ^ j, a zero of either sign included.
-- The laws carry it through `add`, `sub`, `mul` and `div` by a power of two, as long as the numbers stay below 2 ^ 52, and to floor and ceiling. Assumes nothing.
use Rattle.std.proofs.Common.{◌≡◌, ℕ, suc, ◌+◌, ◌-◌, ◌*◌, ◌^◌, ◌<◌, ◌≤◌, Bool, true, false, cond, not, ◌&&◌, ltb, ℤ, pos, negsuc, sym, refl, ap, ◌∙◌, subst, lt_of_lt_of_le, zero-lt-suc, mul_assoc, mul_comm, add-mul, mul-pos, one-mul, mul-one, mul_right_comm, arith, pow_pos, pow_mono, pow-add, shl_lt, ltb-false, ltb-true}
use native.Mathlib.Nat.{mul-sub, eq_of_mul-eq-mul_right}
use mathlib.Core.Bool.{false≢true}
use lib.Ieee.{Float, nan, inf, fin, binary64, up, down, round, neg, sum, add, sub, mul, div, unlike, of_int}
use lib.Ieee.Fits.{down_pos}
use lib.Ieee.Exact.{HasValue, round_exact}
use lib.Ieee.Back.{round_whole}
use Rattle.ieee.proofs.Tools.{ltb_scale}

-- ---- the difference a - b, by its sign and its size
abbrev pub Off : Bool → ℕ → ℕ → ℕ → Type 0
Off false x a b = a ≡ b + x
Off true x a b = b ≡ a + x

pub record Is (x : Float) (a b j : ℕ) : Type 0 where
  pub sign : Bool
  pub size : ℕ
  pub value : HasValue x sign size (2 ^ j)
  pub off : Off sign size a b

pub off_lt : (s : Bool) (x a b n : ℕ) → Off s x a b → a < n → b < n → x < n
off_lt false x a b n o h k = omega arith
off_lt true x a b n o h k = omega arith

-- ---- a fraction that is q / 2 ^ j, with q below 2 ^ 53, is rounded to itself
pub revalue : (x : Float) (s : Bool) (w l num den : ℕ) → 0 < l → num * l ≡ w * den → HasValue x s w l → HasValue x s num den
revalue nan s w l num den p h v = v
revalue (inf t) s w l num den p h v = v
revalue (fin t m e) s w l num den p h v = (
  v.0,
  eq_of_mul-eq-mul_right l p (m * up e * den) (num * down e)
      (mul_right_comm (m * up e) den l
      ∙ ap (λ (x : ℕ). x * den) v.1
      ∙ mul_right_comm w (down e) den
      ∙ ap (λ (x : ℕ). x * down e) (sym h)
      ∙ mul_right_comm num l (down e)),
)

pub round_dyadic : (s : Bool) (num den q j : ℕ) → 0 < den → q < 2 ^ 53 → j ≤ 1074 → num * 2 ^ j ≡ q * den → HasValue (round binary64 s num den) s q (2 ^ j)
round_dyadic s num den q j D Q J h =
    revalue (round binary64 s num den) s num den q (2 ^ j) D (sym h)
    (round_exact binary64 s num den q (1074 - j) D Q (lt_of_lt_of_le (shl_lt 53 (1074 - j) Q) (pow_mono (room j)))
    (ap (λ (x : ℕ). num * 2 ^ x) (back j J)
    ∙ ap (λ (x : ℕ). num * x) (pow-add 2 j (1074 - j))
    ∙ sym (mul_assoc num (2 ^ j) (2 ^ (1074 - j)))
    ∙ ap (λ (x : ℕ). x * 2 ^ (1074 - j)) h
    ∙ mul_right_comm q den (2 ^ (1074 - j))))
  where
    room : (j : ℕ) → 53 + (1074 - j) ≤ 2098
    room j = omega arith

    back : (j : ℕ) → j ≤ 1074 → 1074 ≡ j + (1074 - j)
    back j h = omega arith

-- ---- whole numbers
pub is_nat : (n : ℕ) → n ≤ 2 ^ 53 → Is (of_int binary64 (pos n)) n 0 0
unfolding of_int
is_nat n h = record { sign = false; size = n; value = round_whole binary64 false n h; off = omega arith }

pub is_neg : (n : ℕ) → suc n ≤ 2 ^ 53 → Is (of_int binary64 (negsuc n)) 0 (suc n) 0
unfolding of_int
is_neg n h = record { sign = true; size = suc n; value = round_whole binary64 true (suc n) h; off = omega arith }

-- a power of two, 2 ^ k
pub is_pow : (k : ℕ) → Is (fin false 1 (pos k)) (2 ^ k) 0 0
is_pow k = record { sign = false; size = 2 ^ k; value = (refl, mul-one (1 * 2 ^ k) ∙ one-mul (2 ^ k) ∙ sym (mul-one (2 ^ k))); off = omega arith }

-- 1 / 2
pub is_half : Is (fin false 1 (negsuc 0)) 1 0 1
is_half = record { sign = false; size = 1; value = (refl, refl); off = refl }

-- ---- the same number, written otherwise
pub is_shift : (x : Float) (a b c d j : ℕ) → a + d ≡ c + b → Is x a b j → Is x c d j
is_shift x a b c d j e h = record { sign = h.sign; size = h.size; value = h.value; off = go h.sign h.size h.off }
  where
    go : (s : Bool) (y : ℕ) → Off s y a b → Off s y c d
    go false y o = omega arith
    go true y o = omega arith

off_mul : (s : Bool) (x a b k : ℕ) → Off s x a b → Off s (x * k) (a * k) (b * k)
off_mul false x a b k o = ap (λ (n : ℕ). n * k) o ∙ add-mul b x k
off_mul true x a b k o = ap (λ (n : ℕ). n * k) o ∙ add-mul a x k

pub is_lift : (x : Float) (a b j k : ℕ) → Is x a b j → Is x (a * 2 ^ k) (b * 2 ^ k) (j + k)
is_lift x a b j k h = record {
  sign = h.sign;
  size = h.size * 2 ^ k;
  value = revalue x h.sign h.size (2 ^ j) (h.size * 2 ^ k) (2 ^ (j + k)) (pow_pos j) (mul_assoc h.size (2 ^ k) (2 ^ j) ∙ ap (λ (n : ℕ). h.size * n) (mul_comm (2 ^ k) (2 ^ j) ∙ sym (pow-add 2 j k))) h.value;
  off = off_mul h.sign h.size a b (2 ^ k) h.off;
}

-- ---- negation
neg_value : (x : Float) (s : Bool) (a c : ℕ) → HasValue x s a c → HasValue (neg x) (not s) a c
unfolding neg
neg_value nan s a c v = elim v [ ]
neg_value (inf _) s a c v = elim v [ ]
neg_value (fin t m e) s a c v = (ap not v.0, v.1)

off_neg : (s : Bool) (x a b : ℕ) → Off s x a b → Off (not s) x b a
off_neg false x a b o = o
off_neg true x a b o = o

pub is_minus : (x : Float) (a b j : ℕ) → Is x a b j → Is (neg x) b a j
is_minus x a b j h = record { sign = not h.sign; size = h.size; value = neg_value x h.sign h.size (2 ^ j) h.value; off = off_neg h.sign h.size a b h.off }

-- ---- sums
-- the two operands over one denominator: A * L = X * C and B * L = Y * C
module _ (j X Y A B C : ℕ) (J : j ≤ 1074) (D : 0 < C) (xs : X < 2 ^ 53) (ys : Y < 2 ^ 53) (p : A * 2 ^ j ≡ X * C) (q : B * 2 ^ j ≡ Y * C) where
  both : (A + B) * 2 ^ j ≡ (X + Y) * C
  both = add-mul A B (2 ^ j) ∙ ap (λ (n : ℕ). n + B * 2 ^ j) p ∙ ap (λ (n : ℕ). X * C + n) q ∙ sym (add-mul X Y C)

  less : (B - A) * 2 ^ j ≡ (Y - X) * C
  less = mul_comm (B - A) (2 ^ j) ∙ mul-sub (2 ^ j) B A ∙ go (mul_comm (2 ^ j) B ∙ q) (mul_comm (2 ^ j) A ∙ p) ∙ sym (mul_comm (Y - X) C ∙ mul-sub C Y X ∙ go (mul_comm C Y) (mul_comm C X))
    where
      go : {a b c d : ℕ} → a ≡ c → b ≡ d → a - b ≡ c - d
      go e f = λ i. e i - f i

  more : (A - B) * 2 ^ j ≡ (X - Y) * C
  more = mul_comm (A - B) (2 ^ j) ∙ mul-sub (2 ^ j) A B ∙ go (mul_comm (2 ^ j) A ∙ p) (mul_comm (2 ^ j) B ∙ q) ∙ sym (mul_comm (X - Y) C ∙ mul-sub C X Y ∙ go (mul_comm C X) (mul_comm C Y))
    where
      go : {a b c d : ℕ} → a ≡ c → b ≡ d → a - b ≡ c - d
      go e f = λ i. e i - f i

  -- the order of A and B is that of X and Y
  order : ltb A B ≡ ltb X Y
  order = sym (ltb_scale A B (2 ^ j) (pow_pos j)) ∙ ap (λ (n : ℕ). ltb n (B * 2 ^ j)) p ∙ ap (λ (n : ℕ). ltb (X * C) n) q ∙ ltb_scale X Y C D

  order' : ltb B A ≡ ltb Y X
  order' = sym (ltb_scale B A (2 ^ j) (pow_pos j)) ∙ ap (λ (n : ℕ). ltb n (A * 2 ^ j)) q ∙ ap (λ (n : ℕ). ltb (Y * C) n) p ∙ ltb_scale Y X C D

  like : (s : Bool) → X + Y < 2 ^ 53 → HasValue (round binary64 s (A + B) C) s (X + Y) (2 ^ j)
  like s small = round_dyadic s (A + B) C (X + Y) j D small J both

  under : (s : Bool) → HasValue (round binary64 s (B - A) C) s (Y - X) (2 ^ j)
  under s = round_dyadic s (B - A) C (Y - X) j D (omega arith) J less

  over : (s : Bool) → HasValue (round binary64 s (A - B) C) s (X - Y) (2 ^ j)
  over s = round_dyadic s (A - B) C (X - Y) j D (omega arith) J more

  sum_is : (s t : Bool) (a b c d : ℕ) → (s ≡ t → X + Y < 2 ^ 53) → Off s X a b → Off t Y c d → Is (sum binary64 s A t B C) (a + c) (b + d) j
  unfolding sum
  sum_is false false a b c d small o u = record { sign = false; size = X + Y; value = like false (small refl); off = omega arith }
  sum_is true true a b c d small o u = record { sign = true; size = X + Y; value = like true (small refl); off = omega arith }
  sum_is false true a b c d small o u = go (ltb A B) (ltb-true X Y) (ltb-false X Y) order
    where
      go : (l : Bool) → (ltb X Y ≡ true → X < Y) → (ltb X Y ≡ false → Y ≤ X) → l ≡ ltb X Y → Is (cond l (round binary64 true (B - A) C) (round binary64 (false && ltb B A) (A - B) C)) (a + c) (b + d) j
      go true f g e = let h = f (sym e) in record { sign = true; size = Y - X; value = under true; off = omega arith }
      go false f g e = let h = g (sym e) in record { sign = false; size = X - Y; value = over false; off = omega arith }
  sum_is true false a b c d small o u = go (ltb A B) (ltb B A) (ltb-true X Y) (ltb-false X Y) (ltb-false Y X) order order'
    where
      go : (l n : Bool) → (ltb X Y ≡ true → X < Y) → (ltb X Y ≡ false → Y ≤ X) → (ltb Y X ≡ false → X ≤ Y) → l ≡ ltb X Y → n ≡ ltb Y X → Is (cond l (round binary64 false (B - A) C) (round binary64 (true && n) (A - B) C)) (a + c) (b + d) j
      go true n f g k e i = let h = f (sym e) in record { sign = false; size = Y - X; value = under false; off = omega arith }
      go false true f g k e i = let h = g (sym e) in record { sign = true; size = X - Y; value = over true; off = omega arith }
      go false false f g k e i = let h = g (sym e) in let h' = k (sym i) in record { sign = false; size = X - Y; value = over false; off = omega arith }

-- a finite value over a common denominator
crossed : (m : ℕ) (e d : ℤ) (L X : ℕ) → m * up e * L ≡ X * down e → m * up e * down d * L ≡ X * (down e * down d)
crossed m e d L X h = mul_right_comm (m * up e) (down d) L ∙ ap (λ (n : ℕ). n * down d) h ∙ mul_assoc X (down e) (down d)

-- of two numbers below 2 ^ 53 in size; where the signs agree, their sum is as well
pub is_sum : (x y : Float) (a b c d j : ℕ) → j ≤ 1074 → (h : Is x a b j) (k : Is y c d j) → h.size < 2 ^ 53 → k.size < 2 ^ 53 → (h.sign ≡ k.sign → h.size + k.size < 2 ^ 53) → Is (add binary64 x y) (a + c) (b + d) j
unfolding add
is_sum nan y a b c d j J h k p q small = absurd h.value
is_sum (inf s') y a b c d j J h k p q small = absurd h.value
is_sum (fin s' m e) nan a b c d j J h k p q small = absurd k.value
is_sum (fin s' m e) (inf t') a b c d j J h k p q small = absurd k.value
is_sum (fin s' m e) (fin t' n g) a b c d j J h k p q small =
    let X = h.size in
    let Y = k.size in
    sum_is j X Y (m * up e * down g) (n * up g * down e) (down e * down g) J (mul-pos (down_pos e) (down_pos g)) p q
    (crossed m e g (2 ^ j) X h.value.1)
    (crossed n g e (2 ^ j) Y k.value.1 ∙ ap (λ (z : ℕ). Y * z) (mul_comm (down g) (down e)))
    s' t' a b c d (λ i. small (sym h.value.0 ∙ i ∙ k.value.0))
    (subst (λ (z : Bool). Off z X a b) (sym h.value.0) h.off) (subst (λ (z : Bool). Off z Y c d) (sym k.value.0) k.off)

pub is_add : (x y : Float) (a b c d j : ℕ) → j ≤ 1074 → a < 2 ^ 52 → b < 2 ^ 52 → c < 2 ^ 52 → d < 2 ^ 52 → Is x a b j → Is y c d j → Is (add binary64 x y) (a + c) (b + d) j
is_add x y a b c d j J p q r s h k =
    let sx : h.size < 2 ^ 52 = off_lt h.sign h.size a b (2 ^ 52) h.off p q in
    let sy : k.size < 2 ^ 52 = off_lt k.sign k.size c d (2 ^ 52) k.off r s in
    is_sum x y a b c d j J h k (omega arith) (omega arith) (λ i. omega arith)

pub is_sub : (x y : Float) (a b c d j : ℕ) → j ≤ 1074 → a < 2 ^ 52 → b < 2 ^ 52 → c < 2 ^ 52 → d < 2 ^ 52 → Is x a b j → Is y c d j → Is (sub binary64 x y) (a + d) (b + c) j
unfolding sub
is_sub x y a b c d j J p q r s h k = is_add x (neg y) a b d c j J p q s r h (is_minus y c d j k)

-- two numbers below 2 ^ 53, neither of them negative
pub is_less : (x y : Float) (a b j : ℕ) → j ≤ 1074 → a < 2 ^ 53 → b < 2 ^ 53 → HasValue x false a (2 ^ j) → HasValue y false b (2 ^ j) → Is (sub binary64 x y) a b j
unfolding sub
is_less x y a b j J p q v w =
    is_shift (add binary64 x (neg y)) (a + 0) (0 + b) a b j (omega arith)
    (is_sum x (neg y) a 0 0 b j J
    (record { sign = false; size = a; value = v; off = omega arith })
    (record { sign = true; size = b; value = neg_value y false b (2 ^ j) w; off = omega arith })
    p q (λ e. absurd (false≢true e)))

-- ---- products and quotients with c = 2 ^ k
unlike_false : (s : Bool) → unlike false s ≡ s
unlike_false true = refl
unlike_false false = refl

pub unlike_right : (s : Bool) → unlike s false ≡ s
unlike_right true = refl
unlike_right false = refl

pub is_mul : (k : ℕ) (y : Float) (a b j : ℕ) → j ≤ 1074 → a * 2 ^ k < 2 ^ 53 → b * 2 ^ k < 2 ^ 53 → Is y a b j → Is (mul binary64 (fin false 1 (pos k)) y) (a * 2 ^ k) (b * 2 ^ k) j
unfolding mul
is_mul k nan a b j J p q h = absurd h.value
is_mul k (inf t) a b j J p q h = absurd h.value
is_mul k (fin t n d) a b j J p q h =
    let Y = h.size in
    let o : Off h.sign (Y * 2 ^ k) (a * 2 ^ k) (b * 2 ^ k) = off_mul h.sign Y a b (2 ^ k) h.off in record {
      sign = h.sign;
      size = Y * 2 ^ k;
      value = subst (λ (s : Bool). HasValue (round binary64 (unlike false t) (1 * 2 ^ k * (n * up d)) (1 * down d)) s (Y * 2 ^ k) (2 ^ j)) (unlike_false t ∙ h.value.0)
          (round_dyadic (unlike false t) (1 * 2 ^ k * (n * up d)) (1 * down d) (Y * 2 ^ k) j (mul-pos (zero-lt-suc 0) (down_pos d)) (off_lt h.sign (Y * 2 ^ k) (a * 2 ^ k) (b * 2 ^ k) (2 ^ 53) o p q) J
          (ap (λ (z : ℕ). z * (n * up d) * 2 ^ j) (one-mul (2 ^ k))
          ∙ mul_assoc (2 ^ k) (n * up d) (2 ^ j)
          ∙ ap (λ (z : ℕ). 2 ^ k * z) h.value.1
          ∙ sym (mul_assoc (2 ^ k) Y (down d))
          ∙ ap (λ (z : ℕ). z * down d) (mul_comm (2 ^ k) Y)
          ∙ ap (λ (z : ℕ). Y * 2 ^ k * z) (sym (one-mul (down d)))));
      off = o;
    }

pub is_div : (k : ℕ) (x : Float) (a b j : ℕ) → j + k ≤ 1074 → a < 2 ^ 53 → b < 2 ^ 53 → Is x a b j → Is (div binary64 x (fin false 1 (pos k))) a b (j + k)
unfolding div
is_div k nan a b j J p q h = absurd h.value
is_div k (inf t) a b j J p q h = absurd h.value
is_div k (fin t m e) a b j J p q h =
    let X = h.size in record {
      sign = h.sign;
      size = X;
      value = subst (λ (s : Bool). HasValue (round binary64 (unlike t false) (m * up e * 1) (1 * 2 ^ k * down e)) s X (2 ^ (j + k))) (unlike_right t ∙ h.value.0)
          (round_dyadic (unlike t false) (m * up e * 1) (1 * 2 ^ k * down e) X (j + k) (mul-pos (mul-pos (zero-lt-suc 0) (pow_pos k)) (down_pos e)) (off_lt h.sign X a b (2 ^ 53) h.off p q) J
          (ap (λ (z : ℕ). z * 2 ^ (j + k)) (mul-one (m * up e))
          ∙ ap (λ (z : ℕ). m * up e * z) (pow-add 2 j k)
          ∙ sym (mul_assoc (m * up e) (2 ^ j) (2 ^ k))
          ∙ ap (λ (z : ℕ). z * 2 ^ k) h.value.1
          ∙ mul_right_comm X (down e) (2 ^ k)
          ∙ mul_assoc X (2 ^ k) (down e)
          ∙ ap (λ (z : ℕ). X * (z * down e)) (sym (one-mul (2 ^ k)))));
      off = h.off;
    }
