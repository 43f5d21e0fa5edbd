-- Laws of a status and of the visible quadrant. Assumes nothing.
use mathlib.Core.Path.{◌≡◌, refl, sym, subst}
use Prim.Native.Nat.{ℕ}
use mathlib.Core.Bool.{Bool, true, false, not, cond, ◌||◌, true≢false}
use lib.Dec.{T, eqb}
use Rattle.model.specs.Cell.{Dir, SW, SE, NW, NE, col, row}
use Rattle.model.specs.Corner.{Bits, zero4, bit, set_bit, any_bit, quadrant, sees}

or4 : (w x y z : Bool) → w || x || y || z ≡ false → ◌≡◌ {A = Bits} (record { sw = w; se = x; nw = y; ne = z }) zero4
or4 true x y z e = absurd (true≢false e)
or4 false true y z e = absurd (true≢false e)
or4 false false true z e = absurd (true≢false e)
or4 false false false true e = absurd (true≢false e)
or4 false false false false e = refl

pub no_bit : (b : Bits) → any_bit b ≡ false → b ≡ zero4
no_bit b e = or4 b.sw b.se b.nw b.ne e

or_true_2 : (w y z : Bool) → T (w || true || y || z)
or_true_2 true y z = tt
or_true_2 false y z = tt

or_true_3 : (w x z : Bool) → T (w || x || true || z)
or_true_3 true x z = tt
or_true_3 false true z = tt
or_true_3 false false z = tt

or_true_4 : (w x y : Bool) → T (w || x || y || true)
or_true_4 true x y = tt
or_true_4 false true y = tt
or_true_4 false false true = tt
or_true_4 false false false = tt

pub bit_any : (d : Dir) (b : Bits) → bit d b ≡ true → T (any_bit b)
bit_any SW b e = rw e tt
bit_any SE b e = rw e (or_true_2 b.sw b.nw b.ne)
bit_any NW b e = rw e (or_true_3 b.sw b.se b.ne)
bit_any NE b e = rw e (or_true_4 b.sw b.se b.nw)

pub bit_same : (d : Dir) (v : Bool) (b : Bits) → bit d (set_bit d v b) ≡ v
bit_same SW v b = refl
bit_same SE v b = refl
bit_same NW v b = refl
bit_same NE v b = refl

pub set_any : (d : Dir) (b : Bits) → T (any_bit (set_bit d true b))
set_any d b = bit_any d (set_bit d true b) (bit_same d true b)

pub clear_zero : (d : Dir) → set_bit d false zero4 ≡ zero4
clear_zero SW = refl
clear_zero SE = refl
clear_zero NW = refl
clear_zero NE = refl

-- to clear a bit brings none
pub clear_any : (d : Dir) (b : Bits) → T (any_bit (set_bit d false b)) → T (any_bit b)
clear_any d b t = go (any_bit b) refl
  where
    go : (s : Bool) → any_bit b ≡ s → T s
    go true e = tt
    go false e = let u : T (any_bit zero4) = rw (no_bit b e, clear_zero d) at t in u

-- ---- one bit of a status in which one was put
abbrev code : Dir → ℕ
code SW = 0
code SE = 1
code NW = 2
code NE = 3

abbrev pub same_dir : Dir → Dir → Bool
same_dir D d = eqb (code D) (code d)

pub bit_set : (D d : Dir) (v : Bool) (b : Bits) → bit D (set_bit d v b) ≡ cond (same_dir D d) v (bit D b)
bit_set SW SW v b = refl
bit_set SW SE v b = refl
bit_set SW NW v b = refl
bit_set SW NE v b = refl
bit_set SE SW v b = refl
bit_set SE SE v b = refl
bit_set SE NW v b = refl
bit_set SE NE v b = refl
bit_set NW SW v b = refl
bit_set NW SE v b = refl
bit_set NW NW v b = refl
bit_set NW NE v b = refl
bit_set NE SW v b = refl
bit_set NE SE v b = refl
bit_set NE NW v b = refl
bit_set NE NE v b = refl

-- to set a bit hides, to clear one shows
hides : (D d : Dir) (b : Bits) → T (not (bit D (set_bit d true b))) → T (not (bit D b))
hides D d b t = go (same_dir D d) (subst (λ (z : Bool). T (not z)) (bit_set D d true b) t)
  where
    go : (s : Bool) → T (not (cond s true (bit D b))) → T (not (bit D b))
    go true t = absurd t
    go false t = t

shows : (D d : Dir) (b : Bits) → T (not (bit D b)) → T (not (bit D (set_bit d false b)))
shows D d b t = subst (λ (z : Bool). T (not z)) (sym (bit_set D d false b)) (go (same_dir D d))
  where
    go : (s : Bool) → T (not (cond s false (bit D b)))
    go true = tt
    go false = t

or_map : (a u v : Bool) → (T u → T v) → T (a || u) → T (a || v)
or_map true u v f t = tt
or_map false u v f t = f t

pub sees_set : (p q : ℕ) (d : Dir) (b : Bits) → T (sees p q (set_bit d true b)) → T (sees p q b)
unfolding sees
sees_set p q d b t =
    let D = quadrant p q in
    or_map (eqb (col p) (col q) || eqb (row p) (row q)) (not (bit D (set_bit d true b))) (not (bit D b)) (hides D d b) t

pub sees_clear : (p q : ℕ) (d : Dir) (b : Bits) → T (sees p q b) → T (sees p q (set_bit d false b))
unfolding sees
sees_clear p q d b t =
    let D = quadrant p q in
    or_map (eqb (col p) (col q) || eqb (row p) (row q)) (not (bit D b)) (not (bit D (set_bit d false b))) (shows D d b) t

pub ext_bits : (a b : Bits) → ((d : Dir) → bit d a ≡ bit d b) → a ≡ b
ext_bits a b f = λ i. record { sw = f SW i; se = f SE i; nw = f NW i; ne = f NE i }
