-- What the marks leave of what is kept of a key, told as `model`'s closed form tells it. Assumes nothing.
use Rattle.std.proofs.Common.{◌≡◌, ℕ, zero, suc, ◌+◌, ◌<◌, ◌≤◌, Bool, true, false, cond, ◌&&◌, T, eqb, ◌≢◌, ◌⊎◌, List, [], ◌∷◌, ◌++◌, length, sym, refl, ap, ◌∙◌, inl, inr, arith, eqb→eq, le-ltb, lt-ltb, ne_eqb}
use native.Mathlib.Decide.{ℕ_discrete}
use Rattle.model.specs.ClosedForm.{ahead, queue_run, queues, status_after, status_run, stays}
use Rattle.model.specs.Corner.{Bits, any_bit, set_bit}
use Rattle.model.specs.Layer.{Mark}
use Rattle.model.proofs.EdgeLaws.{cond_ap}
use Rattle.model.proofs.MapLaws.{T→true}
use Rattle.model.proofs.Phase1Points.{stays_any}
use Rattle.marks.specs.Standing.{Small, Standing, marked, max_marks, sooner, standing, stood}

-- ---- one mark after another
pub standing_append : (n : ℕ) (ms ns : List Mark) (k : ℕ) (w : Standing) → standing n (ms ++ ns) k w ≡ standing (n + length ms) ns k (standing n ms k w)
unfolding standing
standing_append n [] ns k w = let e : n ≡ n + 0 = omega arith in ap (λ (x : ℕ). standing x ns k w) e
standing_append n (m ∷ ms) ns k w =
    let e : suc n + length ms ≡ n + suc (length ms) = omega arith in
    standing_append (suc n) ms ns k (stood n m k w) ∙ ap (λ (x : ℕ). standing x ns k (standing (suc n) ms k (stood n m k w))) e

pub standing_one : (n : ℕ) (m : Mark) (k : ℕ) (w : Standing) → standing n (m ∷ []) k w ≡ stood n m k w
unfolding standing
standing_one n m k w = refl

-- ---- it stays within a word
cond_lt : (b : Bool) (x y z : ℕ) → x < z → y < z → cond b x y < z
cond_lt true x y z h j = h
cond_lt false x y z h j = j

pub stood_small : (n : ℕ) (m : Mark) (k : ℕ) (w : Standing) → n + 1 < max_marks → Small w → Small (stood n m k w)
unfolding stood marked
stood_small n m k w h s = go (eqb k m.at)
  where
    go : (t : Bool) → Small (cond t (marked n m w) w)
    go true = (
      cond_lt (any_bit (set_bit m.dir m.on w.bits)) w.old 0 128 s.0 (omega arith),
      cond_lt (queues m w.bits) (cond (eqb w.first 0) (suc n) w.first) w.first max_marks (cond_lt (eqb w.first 0) (suc n) w.first max_marks (omega arith) s.1) s.1,
    )
    go false = s

pub standing_small : (n : ℕ) (ms : List Mark) (k : ℕ) (w : Standing) → n + length ms < max_marks → Small w → Small (standing n ms k w)
unfolding standing
standing_small n [] k w h s = s
standing_small n (m ∷ ms) k w h s = standing_small (suc n) ms k (stood n m k w) (omega arith) (stood_small n m k w (omega arith) s)

-- ---- the status
stood_bits : (n : ℕ) (m : Mark) (k : ℕ) (w : Standing) → (stood n m k w).bits ≡ status_after m k w.bits
unfolding stood marked status_after
stood_bits n m k w = cond_ap (λ (x : Standing). x.bits) (eqb k m.at) (marked n m w) w

pub standing_bits : (n : ℕ) (ms : List Mark) (k : ℕ) (w : Standing) → (standing n ms k w).bits ≡ status_run ms k w.bits
unfolding standing status_run
standing_bits n [] k w = refl
standing_bits n (m ∷ ms) k w = standing_bits (suc n) ms k (stood n m k w) ∙ ap (status_run ms k) (stood_bits n m k w)

-- ---- the place among the old points
-- what has no bit has none
abbrev pub Placed : Standing → Type 0
Placed w = any_bit w.bits ≡ false → w.old ≡ 0

placed_cond : (w : Standing) → Placed w → w.old ≡ cond (any_bit w.bits) w.old 0
placed_cond w h = go (any_bit w.bits) h
  where
    go : (s : Bool) → (s ≡ false → w.old ≡ 0) → w.old ≡ cond s w.old 0
    go true f = refl
    go false f = f refl

stood_old : (n : ℕ) (m : Mark) (k : ℕ) (w : Standing) → Placed w → (stood n m k w).old ≡ cond (any_bit (status_after m k w.bits)) w.old 0
unfolding stood marked status_after
stood_old n m k w h = go (eqb k m.at)
  where
    b : Bits
    b = set_bit m.dir m.on w.bits

    go : (s : Bool) → (cond s (marked n m w) w).old ≡ cond (any_bit (cond s b w.bits)) w.old 0
    go true = refl
    go false = placed_cond w h

stood_placed : (n : ℕ) (m : Mark) (k : ℕ) (w : Standing) → Placed w → Placed (stood n m k w)
stood_placed n m k w h e = stood_old n m k w h ∙ rw (ap any_bit (sym (stood_bits n m k w)) ∙ e) refl

pub standing_old : (n : ℕ) (ms : List Mark) (k : ℕ) (w : Standing) → Placed w → (standing n ms k w).old ≡ cond (stays ms k w.bits) w.old 0
unfolding standing stays
standing_old n [] k w h = placed_cond w h
standing_old n (m ∷ ms) k w h =
    standing_old (suc n) ms k (stood n m k w) (stood_placed n m k w h)
    ∙ rw (stood_bits n m k w, stood_old n m k w h) (go (any_bit w.bits) (stays ms k b) (any_bit b) h (λ u. T→true (any_bit b) (stays_any ms k b u)))
  where
    b : Bits
    b = status_after m k w.bits

    go : (x s y : Bool) → (x ≡ false → w.old ≡ 0) → (T s → y ≡ true) → cond s (cond y w.old 0) 0 ≡ cond (x && s) w.old 0
    go true true y f g = rw (g tt) refl
    go false true y f g = rw (g tt) (f refl)
    go true false y f g = refl
    go false false y f g = refl

stood_old_le : (n : ℕ) (m : Mark) (k : ℕ) (w : Standing) → (stood n m k w).old ≤ w.old
unfolding stood marked
stood_old_le n m k w = go (eqb k m.at)
  where
    b : Bits
    b = set_bit m.dir m.on w.bits

    less : (s : Bool) → cond s w.old 0 ≤ w.old
    less true = omega arith
    less false = omega arith

    go : (s : Bool) → (cond s (marked n m w) w).old ≤ w.old
    go true = less (any_bit b)
    go false = omega arith

pub standing_old_le : (n : ℕ) (ms : List Mark) (k : ℕ) (w : Standing) → (standing n ms k w).old ≤ w.old
unfolding standing
standing_old_le n [] k w = omega arith
standing_old_le n (m ∷ ms) k w = let h = standing_old_le (suc n) ms k (stood n m k w) in let g = stood_old_le n m k w in omega arith

-- ---- the first mark that queued it
some_number : (n : ℕ) → eqb (suc n) 0 ≡ false
some_number n = ne_eqb (suc n) 0 (λ e. omega arith)

-- by itself: of the status b, from the n-th mark on
unfoldable first_of : ℕ → List Mark → ℕ → Bits → ℕ
first_of n [] k b = 0
first_of n (m ∷ ms) k b = let r = first_of (suc n) ms k (status_after m k b) in cond (eqb k m.at && queues m b) (suc n) r

stood_first : (n : ℕ) (m : Mark) (k : ℕ) (w : Standing)
    → (stood n m k w).first ≡ cond (eqb k m.at && queues m w.bits) (cond (eqb w.first 0) (suc n) w.first) w.first
unfolding stood marked
stood_first n m k w = go (eqb k m.at)
  where
    go : (s : Bool) → (cond s (marked n m w) w).first ≡ cond (s && queues m w.bits) (cond (eqb w.first 0) (suc n) w.first) w.first
    go true = refl
    go false = refl

standing_first : (n : ℕ) (ms : List Mark) (k : ℕ) (w : Standing) → (standing n ms k w).first ≡ cond (eqb w.first 0) (first_of n ms k w.bits) w.first
unfolding standing first_of
standing_first n [] k w = go w.first
  where
    go : (f : ℕ) → f ≡ cond (eqb f 0) 0 f
    go zero = refl
    go (suc f) = rw (some_number f) refl
standing_first n (m ∷ ms) k w =
    standing_first (suc n) ms k (stood n m k w)
    ∙ rw (stood_bits n m k w, stood_first n m k w) (go w.first (first_of (suc n) ms k (status_after m k w.bits)) (eqb k m.at && queues m w.bits))
  where
    go : (f r : ℕ) (s : Bool) → cond (eqb (cond s (cond (eqb f 0) (suc n) f) f) 0) r (cond s (cond (eqb f 0) (suc n) f) f) ≡ cond (eqb f 0) (cond s (suc n) r) f
    go zero r true = rw (some_number n) refl
    go zero r false = refl
    go (suc f) r true = rw (some_number f, some_number f) refl
    go (suc f) r false = rw (some_number f) refl

-- none, or a mark from the n-th on
abbrev Late : ℕ → ℕ → Type 0
Late n x = (x ≡ 0) ⊎ (n < x)

first_late : (n : ℕ) (ms : List Mark) (k : ℕ) (b : Bits) → Late n (first_of n ms k b)
unfolding first_of
first_late n [] k b = inl refl
first_late n (m ∷ ms) k b = go (eqb k m.at && queues m b) (first_late (suc n) ms k (status_after m k b))
  where
    go : (s : Bool) → Late (suc n) (first_of (suc n) ms k (status_after m k b)) → Late n (cond s (suc n) (first_of (suc n) ms k (status_after m k b)))
    go true h = inr (omega arith)
    go false (inl h) = inl h
    go false (inr h) = inr (omega arith)

first_le : (n : ℕ) (ms : List Mark) (k : ℕ) (b : Bits) → first_of n ms k b ≤ n + length ms
unfolding first_of
first_le n [] k b = omega arith
first_le n (m ∷ ms) k b = go (eqb k m.at && queues m b) (first_le (suc n) ms k (status_after m k b))
  where
    go : (s : Bool) → first_of (suc n) ms k (status_after m k b) ≤ suc n + length ms → cond s (suc n) (first_of (suc n) ms k (status_after m k b)) ≤ n + suc (length ms)
    go true h = omega arith
    go false h = omega arith

pub standing_first_le : (n : ℕ) (ms : List Mark) (k : ℕ) (w : Standing) → w.first ≤ n → (standing n ms k w).first ≤ n + length ms
standing_first_le n ms k w h = rw (standing_first n ms k w) (go (eqb w.first 0) (first_le n ms k w.bits))
  where
    go : (s : Bool) → first_of n ms k w.bits ≤ n + length ms → cond s (first_of n ms k w.bits) w.first ≤ n + length ms
    go true g = g
    go false g = omega arith

-- ---- who was queued first
-- the one that is queued now is before one that is queued later or never, and that one is not before it
now_sooner : (n y : ℕ) → Late (suc n) y → sooner (suc n) y ≡ true
now_sooner n y (inl h) = rw (h, some_number n) refl
now_sooner n y (inr h) = rw (some_number n, ne_eqb y 0 (λ e. omega arith), lt-ltb (suc n) y h) refl

later_not : (n x : ℕ) → Late (suc n) x → sooner x (suc n) ≡ false
later_not n x (inl h) = rw h refl
later_not n x (inr h) = rw (some_number n, ne_eqb x 0 (λ e. omega arith), le-ltb x (suc n) (omega arith)) refl

queued_step : (n x y : ℕ) (a c s : Bool) → Late (suc n) x → Late (suc n) y → (T a → T c → ⊥)
    → cond s (cond a true (cond c false (sooner x y))) (sooner x y) ≡ sooner (cond (a && s) (suc n) x) (cond (c && s) (suc n) y)
queued_step n x y true true s g h f = absurd (f tt tt)
queued_step n x y true false true g h f = sym (now_sooner n y h)
queued_step n x y true false false g h f = refl
queued_step n x y false true true g h f = sym (later_not n x g)
queued_step n x y false true false g h f = refl
queued_step n x y false false true g h f = refl
queued_step n x y false false false g h f = refl

ahead_first : (n : ℕ) (ms : List Mark) (B : ℕ → Bits) (p q : ℕ) → p ≢ q → ahead p q (queue_run ms B) ≡ sooner (first_of n ms p (B p)) (first_of n ms q (B q))
unfolding ahead queue_run first_of
ahead_first n [] B p q d = refl
ahead_first n (m ∷ ms) B p q d =
    ahead_cond (queues m (B m.at))
    ∙ rw (ahead_first (suc n) ms B' p q d, flipped p, flipped q, here p, here q)
    (queued_step n (first_of (suc n) ms p (B' p)) (first_of (suc n) ms q (B' q)) (eqb p m.at) (eqb q m.at) (queues m (B m.at)) (first_late (suc n) ms p (B' p))
    (first_late (suc n) ms q (B' q)) (λ x y. d (eqb→eq p m.at x ∙ sym (eqb→eq q m.at y))))
  where
    B' : ℕ → Bits
    B' k = status_after m k (B k)

    r : Bool
    r = ahead p q (queue_run ms B')

    ahead_cond : (s : Bool) → ahead p q (cond s (m.at ∷ queue_run ms B') (queue_run ms B')) ≡ cond s (cond (eqb m.at p) true (cond (eqb m.at q) false r)) r
    ahead_cond true = refl
    ahead_cond false = refl

    flipped : (k : ℕ) → eqb m.at k ≡ eqb k m.at
    flipped k = go (ℕ_discrete k m.at)
      where
        go : Dec (k ≡ m.at) → eqb m.at k ≡ eqb k m.at
        go (yes e) = rw e refl
        go (no h) = rw (ne_eqb k m.at h, ne_eqb m.at k (λ e. h (sym e))) refl

    here : (k : ℕ) → (eqb k m.at && queues m (B k)) ≡ (eqb k m.at && queues m (B m.at))
    here k = go (eqb k m.at) (eqb→eq k m.at)
      where
        go : (s : Bool) → (T s → k ≡ m.at) → (s && queues m (B k)) ≡ (s && queues m (B m.at))
        go true e = rw (e tt) refl
        go false e = refl

-- Of two points that one is earlier in the queue which was queued by an earlier mark.
pub standing_ahead : (ms : List Mark) (B : ℕ → Bits) (p q a b : ℕ) → p ≢ q
    → ahead p q (queue_run ms B)
    ≡ sooner (standing 0 ms p (record { bits = B p; old = a; first = 0 })).first (standing 0 ms q (record { bits = B q; old = b; first = 0 })).first
standing_ahead ms B p q a b d =
    ahead_first 0 ms B p q d ∙ rw (standing_first 0 ms p (record { bits = B p; old = a; first = 0 }), standing_first 0 ms q (record { bits = B q; old = b; first = 0 })) refl
