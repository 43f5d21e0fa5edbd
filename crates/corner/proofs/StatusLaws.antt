-- A status as a number, its bits read and set: tests computed for all sixteen statuses. Assumes nothing.
use mathlib.Core.Path.{◌≡◌, refl}
use mathlib.Core.Bool.{Bool, true, false, not, ◌&&◌, beq}
use lib.Bits.{bit_and, bit_or, bit_xor}
use lib.Dec.{T, eqb, eqb→eq}
use Rattle.model.specs.Cell.{Dir, SW, SE, NW, NE}
use Rattle.model.specs.Corner.{Bits, any_bit, bit, number, set_bit}
use Rattle.corner.specs.Weights.{weight}

-- ---- a test that every status passes
abbrev both : (Bool → Bool) → Bool
both f = f true && f false

both_at : (f : Bool → Bool) → T (both f) → (x : Bool) → T (f x)
both_at f t true = left (f true) (f false) t
  where
    left : (a b : Bool) → T (a && b) → T a
    left true b t = tt
    left false b t = t
both_at f t false = right (f true) (f false) t
  where
    right : (a b : Bool) → T (a && b) → T b
    right true b t = t
    right false b t = absurd t

abbrev status : Bool → Bool → Bool → Bool → Bits
status a b c d = record { sw = a; se = b; nw = c; ne = d }

abbrev Sixteen : (Bits → Bool) → Type 0
Sixteen f = T (both (λ a. both (λ b. both (λ c. both (λ d. f (status a b c d))))))

each : (f : Bits → Bool) → Sixteen f → (s : Bits) → T (f s)
each f t s =
    let a = both_at (λ a. both (λ b. both (λ c. both (λ d. f (status a b c d))))) t s.sw in
    let b = both_at (λ b. both (λ c. both (λ d. f (status s.sw b c d)))) a s.se in
    let c = both_at (λ c. both (λ d. f (status s.sw s.se c d))) b s.nw in
    both_at (λ d. f (status s.sw s.se s.nw d)) c s.ne

same : (a b : Bool) → T (beq a b) → a ≡ b
same true true t = refl
same true false t = absurd t
same false true t = absurd t
same false false t = refl

-- ---- the bits as the code reads and sets them
pub got_is : (d : Dir) (s : Bits) → not (eqb (bit_and (number s) (weight d)) 0) ≡ bit d s
unfolding number
got_is d s = same (not (eqb (bit_and (number s) (weight d)) 0)) (bit d s) (each (λ s. beq (not (eqb (bit_and (number s) (weight d)) 0)) (bit d s)) (go d) s)
  where
    go : (d : Dir) → Sixteen (λ s. beq (not (eqb (bit_and (number s) (weight d)) 0)) (bit d s))
    go SW = tt
    go SE = tt
    go NW = tt
    go NE = tt

pub cleared_is : (d : Dir) (s : Bits) → bit_xor (number s) (bit_and (number s) (weight d)) ≡ number (set_bit d false s)
unfolding number
cleared_is d s =
    eqb→eq (bit_xor (number s) (bit_and (number s) (weight d))) (number (set_bit d false s)) (each (λ s. eqb (bit_xor (number s) (bit_and (number s) (weight d))) (number (set_bit d false s))) (go d) s)
  where
    go : (d : Dir) → Sixteen (λ s. eqb (bit_xor (number s) (bit_and (number s) (weight d))) (number (set_bit d false s)))
    go SW = tt
    go SE = tt
    go NW = tt
    go NE = tt

pub marked_is : (d : Dir) (s : Bits) → bit_or (bit_xor (number s) (bit_and (number s) (weight d))) (weight d) ≡ number (set_bit d true s)
unfolding number
marked_is d s =
    eqb→eq (bit_or (bit_xor (number s) (bit_and (number s) (weight d))) (weight d)) (number (set_bit d true s))
    (each (λ s. eqb (bit_or (bit_xor (number s) (bit_and (number s) (weight d))) (weight d)) (number (set_bit d true s))) (go d) s)
  where
    go : (d : Dir) → Sixteen (λ s. eqb (bit_or (bit_xor (number s) (bit_and (number s) (weight d))) (weight d)) (number (set_bit d true s)))
    go SW = tt
    go SE = tt
    go NW = tt
    go NE = tt

pub any_is : (s : Bits) → not (eqb (number s) 0) ≡ any_bit s
unfolding number
any_is s = same (not (eqb (number s) 0)) (any_bit s) (each (λ s. beq (not (eqb (number s) 0)) (any_bit s)) tt s)
