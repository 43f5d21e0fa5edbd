-- The word of a key, and what a mark makes of it. Assumes nothing.
use Rattle.std.proofs.Common.{◌≡◌, ℕ, suc, ◌+◌, ◌*◌, ◌/◌, ◌%◌, ◌<◌, ◌≤◌, Bool, true, false, cond, not, ◌&&◌, eqb, sym, refl, ap, ◌∙◌, ⊎_elim, zero-le, le_refl, add-one, arith, eq-eqb, ne_eqb}
use Rattle.ieee.proofs.Tools.{lt_or_ge}
use Rattle.model.specs.Cell.{Dir}
use Rattle.model.specs.ClosedForm.{queues}
use Rattle.model.specs.Corner.{Bits, any_bit, number, set_bit}
use Rattle.model.proofs.BitLaws.{no_bit, clear_zero}
use Rattle.corner.proofs.StatusLaws.{any_is}
use Rattle.marks.specs.declared.mood.Mood.{Mood}
use Rattle.marks.specs.Standing.{Small, Standing, marked, mood, word}

-- ---- a status as a number
cond_le : (b : Bool) (x : ℕ) → cond b x 0 ≤ x
cond_le true x = le_refl x
cond_le false x = zero-le

pub number_small : (b : Bits) → number b < 16
unfolding number
number_small b = omega (arith, cond_le b.sw 1, cond_le b.se 2, cond_le b.nw 4, cond_le b.ne 8)

digit : (m x : ℕ) → cond (eqb (m % 2) 1) x 0 ≡ m % 2 * x
digit m x =
    ⊎_elim
    (λ (h : m % 2 < 1). let z : m % 2 ≡ 0 = omega arith in rw (ne_eqb (m % 2) 1 (λ e. omega arith), z) (omega arith))
    (λ (h : 1 ≤ m % 2). let z : m % 2 ≡ 1 = omega arith in rw (eq-eqb (m % 2) 1 z, z) (omega arith))
    (lt_or_ge (m % 2) 1)

-- every number below 16 is a status
pub number_of : (n : ℕ) → n < 16 → (b : Bits) × (n ≡ number b)
unfolding number
number_of n h =
    let b : Bits = record { sw = eqb (n % 2) 1; se = eqb (n / 2 % 2) 1; nw = eqb (n / 2 / 2 % 2) 1; ne = eqb (n / 2 / 2 / 2 % 2) 1 } in
    (b, rw (digit n 1, digit (n / 2) 2, digit (n / 2 / 2) 4, digit (n / 2 / 2 / 2) 8) (omega arith))

-- ---- words
low : (a b : ℕ) → a < 128 → (a + 128 * b) % 128 ≡ a
low a b h = omega arith

pub word_read : (s : Standing) (w : ℕ) → Small s → w ≡ word s → ◌≡◌ {A = Mood} (record { status = w % 16; old = w / 16 % 128; first = w / 2048 }) (mood s)
unfolding word
word_read s w h e =
    let b = number_small s.bits in
    let p : w % 16 ≡ number s.bits = omega arith in
    let z : w / 16 ≡ s.old + 128 * s.first = omega arith in
    let q : w / 16 % 128 ≡ s.old = rw z (low s.old s.first h.0) in
    let r : w / 2048 ≡ s.first = omega arith in
    λ i. record { status = p i; old = q i; first = r i }

pub word_written : (m : Mood) (w : Standing) → m ≡ mood w → m.status + 16 * m.old + 2048 * m.first ≡ word w
unfolding word
word_written m w e = ap (λ (x : Mood). x.status + 16 * x.old + 2048 * x.first) e

-- whether a word has a status
pub word_any : (s : Standing) → not (eqb (word s % 16) 0) ≡ any_bit s.bits
unfolding word
word_any s =
    let b = number_small s.bits in
    let p : (number s.bits + 16 * s.old + 2048 * s.first) % 16 ≡ number s.bits = omega arith in
    rw p (any_is s.bits)

-- ---- a mark
-- a status with no bit keeps none
kept_any : (d : Dir) (b : Bits) → any_bit b && any_bit (set_bit d false b) ≡ any_bit (set_bit d false b)
kept_any d b = go (any_bit b) refl
  where
    go : (t : Bool) → any_bit b ≡ t → t && any_bit (set_bit d false b) ≡ any_bit (set_bit d false b)
    go true e = refl
    go false e = sym (ap (λ (x : Bits). any_bit (set_bit d false x)) (no_bit b e) ∙ ap any_bit (clear_zero d))

pub queue_is : (d : Dir) (k : ℕ) (on : Bool) (b : Bits) → queues (record { dir = d; at = k; on = on }) b ≡ cond on (not (any_bit b)) (any_bit (set_bit d on b))
unfolding queues
queue_is d k true b = refl
queue_is d k false b = kept_any d b

-- by whether a bit is left
module _ (b : Bits) (t : Bool) (x o : ℕ) (e : t ≡ any_bit b) where
  pub old_gone : t ≡ false → o ≡ 0 → o ≡ cond (any_bit b) x 0
  old_gone h z = rw (sym e ∙ h) z

  pub old_stays : t ≡ true → o ≡ x → o ≡ cond (any_bit b) x 0
  old_stays h z = rw (sym e ∙ h) z

-- by whether the bit is set
module _ (b b' : Bits) (on t q : Bool) where
  pub queue_set : on ≡ true → t ≡ any_bit b → q ≡ not t → q ≡ cond on (not (any_bit b)) (any_bit b')
  queue_set o e h = h ∙ rw (o, e) refl

  pub queue_cleared : on ≡ false → t ≡ any_bit b' → q ≡ t → q ≡ cond on (not (any_bit b)) (any_bit b')
  queue_cleared o e h = h ∙ rw (o, e) refl

module _ (n : ℕ) (d : Dir) (k : ℕ) (on : Bool) (w : Standing) where
  pub marked_is : (x : Mood) (q : Bool) → x.status ≡ number (set_bit d on w.bits) → x.old ≡ cond (any_bit (set_bit d on w.bits)) w.old 0
      → q ≡ cond on (not (any_bit w.bits)) (any_bit (set_bit d on w.bits)) → x.first ≡ cond q (cond (eqb w.first 0) (suc n) w.first) w.first
      → x ≡ mood (marked n (record { dir = d; at = k; on = on }) w)
  unfolding marked
  marked_is x q p o e f =
      let t : Bool = queues (record { dir = d; at = k; on = on }) w.bits in
      let g : x.first ≡ cond t (cond (eqb w.first 0) (suc n) w.first) w.first = rw (e ∙ sym (queue_is d k on w.bits)) at f in
      λ i. record { status = p i; old = o i; first = g i }

-- the first that queues is kept
pub first_now : (n f : ℕ) (q : Bool) → q ≡ true → f ≡ 0 → n + 1 ≡ cond q (cond (eqb f 0) (suc n) f) f
first_now n f q e h = rw (e, eq-eqb f 0 h) (add-one n)

pub first_queued : (n f : ℕ) (q : Bool) → (f ≡ 0 → ⊥) → f ≡ cond q (cond (eqb f 0) (suc n) f) f
first_queued n f q h = rw (ne_eqb f 0 h) (go q)
  where
    go : (q : Bool) → f ≡ cond q f f
    go true = refl
    go false = refl

pub first_passed : (n f : ℕ) (q : Bool) → q ≡ false → f ≡ cond q (cond (eqb f 0) (suc n) f) f
first_passed n f q e = rw e refl
