-- What `floor_to_i64` and `ceil_to_i64` make of a float's cut is what `floor_z` and `ceil_z` say. Assumes nothing.
use Rattle.std.proofs.Common.{◌≡◌, ℕ, zero, suc, ◌+◌, ◌*◌, ◌/◌, ◌%◌, ◌^◌, ◌<◌, ◌≤◌, Bool, true, false, cond, not, T, ltb, ℤ, pos, negsuc, ◌+ℤ◌, ◌-ℤ◌, sym, refl, ap, ◌∙◌, ⊎_elim, le_trans, le_of_eq, add-zero, le_of_lt, zero-lt-suc, mul_assoc, mul-lt-mul_of_pos_right, div-add-mod', le-div_iff_mul-le, zero-mul, mul-one, div-le_self, div-mul-le_self, div-one, add-one, arith, pow_pos, pow-add, w64, SFits, to_z, of_z, le-ltb, lt-ltb, ne_eqb}
use lib.Ieee.{Float, nan, inf, fin, binary64, up, down, round, lt, fits, of_int, to_signed}
use lib.Ieee.Fits.{down_pos}
use lib.Ieee.Exact.{HasValue, round_exact}
use lib.Ieee.Back.{round_whole}
use mir.ValLaws.{to_z-of_z}
use Rattle.ieee.specs.Whole.{ceil_div, sat, sat_inf, floor_z, ceil_z}
use Rattle.ieee.proofs.Tools.{lt_or_ge, held, lt_whole, whole_lt}
use Rattle.ieee.proofs.Cut.{signed, sat_within, sat_far, cut_sat, edge, past, edge_test}

-- ---- the whole part of a value that fits is a value of the format: `round` does not change it
pub cut_exact : (t s : Bool) (m : ℕ) (e : ℤ) → T (fits binary64 (fin s m e)) → HasValue (round binary64 t (m * up e / down e) 1) t (m * up e / down e) 1
cut_exact t s m (pos k) h =
    let w = held s m (pos k) h in
    let j : m * 2 ^ k * 2 ^ 1074 ≡ m * 2 ^ (k + 1074) = mul_assoc m (2 ^ k) (2 ^ 1074) ∙ ap (λ (n : ℕ). m * n) (sym (pow-add 2 k 1074)) in
    let l : m * 2 ^ k < 2 ^ 1024 = rw mul-one at w.1 in
    rw div-one (round_exact binary64 t (m * 2 ^ k) 1 m (k + 1074) (zero-lt-suc 0) w.0 (rw j at (mul-lt-mul_of_pos_right l (pow_pos 1074))) (j ∙ sym (mul-one (m * 2 ^ (k + 1074)))))
cut_exact t s m (negsuc k) h =
    round_whole binary64 t (m * 1 / 2 ^ suc k) (le_trans (div-le_self (m * 1) (2 ^ suc k)) (le_trans (le_of_eq (mul-one m)) (le_of_lt (held s m (negsuc k) h).0)))

-- ---- a / c has a fraction, or has none
pub has_rest : (a c q : ℕ) → 0 < c → a / c ≡ q → q * c < a → ceil_div a c ≡ suc q
has_rest a c q C e h =
    let k : q * c + a % c ≡ a = rw e at (div-add-mod' a c) in
    rw (ne_eqb (a % c) 0 (λ z. omega arith), e) (add-one q)

pub no_rest : (a c q : ℕ) → 0 < c → a / c ≡ q → a ≤ q * c → ceil_div a c ≡ q
no_rest a c q C e h =
    let k : q * c + a % c ≡ a = rw e at (div-add-mod' a c) in
    let z : a % c ≡ 0 = omega arith in
    rw (z, e) (add-zero q)

-- a value with a fraction is below 2 ^ 53 in size
pub rest_small : (m : ℕ) (e : ℤ) → m < 2 ^ 53 → (q : ℕ) → m * up e / down e ≡ q → q * down e < m * up e → q < 2 ^ 53
rest_small m (pos k) h q d r = let i : m * 2 ^ k ≡ q = sym (div-one (m * 2 ^ k)) ∙ d in omega arith
rest_small m (negsuc k) h q d r = let i : q ≤ m * 1 = le_trans (le_of_eq (sym d)) (div-le_self (m * 1) (2 ^ suc k)) in omega arith

-- ---- floor and ceiling at once, by the side to which they round: true is down, false is up
abbrev pub toward : Bool → Float → ℤ
toward d x = cond d (floor_z x) (ceil_z x)

-- the neighbour of z on that side
abbrev pub next : Bool → ℤ → ℤ
next true z = z -ℤ pos 1
next false z = z +ℤ pos 1

-- the side s leads away from zero for a value of sign s
next_signed : (s : Bool) (q : ℕ) → next s (signed s q) ≡ signed s (suc q)
next_signed true zero = refl
next_signed true (suc q) = ap (λ (n : ℕ). negsuc (suc n)) (add-zero q)
next_signed false q = ap pos (add-one q)

-- an end of the range has no neighbour beyond it, and its float is `edge`
edge_next : (s : Bool) → sat (next s (sat_inf s)) ≡ sat_inf s
edge_next true = refl
edge_next false = refl

edge_float : (s : Bool) → of_int binary64 (sat_inf s) ≡ edge s
unfolding of_int
edge_float true = refl
edge_float false = refl

-- ---- x against the float of ±b, by x's fraction
past_signed : (s : Bool) (m : ℕ) (e : ℤ) (b : ℕ) → HasValue (round binary64 s b 1) s b 1
    → (past s (fin s m e) (of_int binary64 (signed s b)) ≡ ltb (b * down e) (m * up e)) × (past (not s) (fin s m e) (of_int binary64 (signed s b)) ≡ ltb (m * up e) (b * down e))
unfolding of_int
past_signed false m e b v = (whole_lt false m e (round binary64 false b 1) false b v, lt_whole false m e (round binary64 false b 1) false b v)
past_signed true m e (suc b) v = (lt_whole true m e (round binary64 true (suc b) 1) true (suc b) v, whole_lt true m e (round binary64 true (suc b) 1) true (suc b) v)
past_signed true m e zero v =
    let w = round_whole binary64 false 0 (le_of_lt (pow_pos 53)) in (
      lt_whole true m e (round binary64 false 0 1) false 0 w ∙ rw (zero-mul, add-zero),
      whole_lt true m e (round binary64 false 0 1) false 0 w ∙ sym (le-ltb (m * up e) (0 * down e) (omega arith)),
    )

-- ---- where x is past y the neighbour of t is the answer z, or t where an i64 has no such neighbour; elsewhere t is
abbrev Ends : Bool → Float → ℤ → Float → ℤ → Type 0
Ends d x t y z = cond (past d x y) (sat (next d t)) t ≡ z

module _ (s : Bool) (m : ℕ) (e : ℤ) (f : T (fits binary64 (fin s m e))) where
  -- the value, its size a / c, the whole part of that, and the cut with its float
  abbrev x : Float
  x = fin s m e

  abbrev a : ℕ
  a = m * up e

  abbrev c : ℕ
  c = down e

  abbrev q : ℕ
  q = a / c

  abbrev t : ℤ
  t = to_signed 63 x

  abbrev y : Float
  y = of_int binary64 t

  -- x against its cut, where nothing saturates
  within : q < 2 ^ 63 → (past s x y ≡ ltb (q * c) a) × (past (not s) x y ≡ ltb a (q * c))
  within h = rw (cut_sat s m e, sat_within s q h) (past_signed s m e q (cut_exact s s m e f))

  -- toward zero x is never past its cut, so that the cut is the answer
  not_past_in : past (not s) x y ≡ false
  not_past_in =
      ⊎_elim (λ h. (within h).1 ∙ le-ltb a (q * c) (div-mul-le_self a c))
      (λ h. rw (cut_sat s m e, sat_far s q h, edge_float s) (edge_test s m e ∙ le-ltb a (2 ^ 63 * c) ((le-div_iff_mul-le (down_pos e)).0 h)))
      (lt_or_ge q (2 ^ 63))

  ends_in_lem : Ends (not s) x t y (sat (signed s q))
  ends_in_lem = rw not_past_in (cut_sat s m e)

  -- away from zero the cut is the answer where x has no fraction, and its neighbour is where x has one
  ends_whole : a ≤ q * c → Ends s x t y (sat (signed s (ceil_div a c)))
  ends_whole r = rw (no_rest a c q (down_pos e) refl r) (⊎_elim (λ h. rw ((within h).0, le-ltb (q * c) a r) (cut_sat s m e)) far (lt_or_ge q (2 ^ 63)))
    where
      same : (b : Bool) (z : ℤ) → cond b z z ≡ z
      same true z = refl
      same false z = refl

      far : 2 ^ 63 ≤ q → Ends s x t y (sat (signed s q))
      far h = rw (cut_sat s m e, sat_far s q h, edge_next s) (same (past s x (of_int binary64 (sat_inf s))) (sat_inf s))

  ends_rest : q * c < a → Ends s x t y (sat (signed s (ceil_div a c)))
  ends_rest r =
      let l : q < 2 ^ 53 = rest_small m e (held s m e f).0 q refl r in
      let h : q < 2 ^ 63 = omega arith in
      let i : t ≡ signed s q = cut_sat s m e ∙ sat_within s q h in
      rw ((within h).0, lt-ltb (q * c) a r, has_rest a c q (down_pos e) refl r, i, next_signed s q) refl

  ends_out : Ends s x t y (sat (signed s (ceil_div a c)))
  ends_out = ⊎_elim ends_rest ends_whole (lt_or_ge (q * c) a)

ends : (d : Bool) (x : Float) → T (fits binary64 x) → Ends d x (to_signed 63 x) (of_int binary64 (to_signed 63 x)) (toward d x)
unfolding to_signed floor_z ceil_z lt of_int
ends true nan f = refl
ends false nan f = refl
ends true (inf true) f = refl
ends true (inf false) f = refl
ends false (inf true) f = refl
ends false (inf false) f = refl
ends true (fin true m e) f = ends_out true m e f
ends true (fin false m e) f = ends_in_lem false m e f
ends false (fin true m e) f = ends_in_lem true m e f
ends false (fin false m e) f = ends_out false m e f

-- what is brought to the range fits an i64
sat_fits : (z : ℤ) → SFits w64 (sat z)
sat_fits (pos n) = record { sfits = omega arith }
sat_fits (negsuc n) = record { sfits = omega arith }

-- ---- the code holds x, its cut t and the float y of t
pub record IsCut (x : Float) (t : ℤ) (y : Float) : Type 0 where
  pub fit : T (fits binary64 x)
  pub cut : t ≡ to_signed 63 x
  pub float : y ≡ of_int binary64 t

module _ (d : Bool) {x : Float} {t : ℤ} {y : Float} (k : IsCut x t y) where
  ended : Ends d x t y (toward d x)
  ended = rw (k.float, k.cut) (ends d x k.fit)

  pub cut_stays : past d x y ≡ false → t ≡ toward d x
  cut_stays h = rw h at ended

  pub cut_steps : past d x y ≡ true → {r : ℤ} → r ≡ sat (next d t) → to_z w64 (of_z w64 r) ≡ toward d x
  cut_steps h e = rw e (to_z-of_z w64 (sat (next d t)) (sat_fits (next d t)) ∙ rw h at ended)
