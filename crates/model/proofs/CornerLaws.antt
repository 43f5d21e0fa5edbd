-- The corner changes of a batch: every cell whose status altered is listed, with its new status. Assumes nothing.
use lib.Ieee.Fits.{and_l, and_r}
use Prim.Native.Nat.{ℕ, suc, ◌+◌, ◌-◌, ◌*◌, ◌≤◌, ◌<◌}
use native.Mathlib.Decide.{ℕ_discrete}
use native.Mathlib.Omega.{arith}
use mathlib.Core.Path.{◌≡◌, refl, subst}
use mathlib.Core.Logic.{◌≢◌, ◌⊎◌, inl, inr}
use mathlib.Core.Bool.{Bool, true, false, cond, ◌&&◌, ◌||◌, beq}
use mathlib.Core.List.{List, [], ◌∷◌}
use lib.Dec.{T, eqb, eqb→eq, eqb_refl, lit<}
use lib.ListN.{length, get_or}
use Rattle.ieee.proofs.Tools.{or_cases}
use Rattle.model.specs.Maps.{keys, has, Asc, AscL}
use Rattle.model.specs.Cell.{W, Dir, SW, SE, NW, NE, move, side_x, side_y, around}
use Rattle.model.specs.Corner.{Bits, zero4, any_bit, same_bits, corner, status_of, corners_among, corner_cells}
use Rattle.model.specs.Batch.{Batch, altered, met, corner_changes}
use Rattle.model.specs.Limits.{max_coordinate}
use Rattle.model.specs.Good.{Inside}
use Rattle.model.proofs.MapLaws.{true→T, or_left, or_right, has_append, dec_t, beq_same, has_at}
use Rattle.model.proofs.OrderLaws.{asc_down}
use Rattle.model.proofs.BitLaws.{no_bit}

-- far enough from the lower border of the keys for a shift of 64, and for a neighbour's too
abbrev pub Safe : ℕ → Type 0
Safe k = 65 * W ≤ k

abbrev Deep : ℕ → Type 0
Deep k = 70 * W ≤ k

inside_safe : (k : ℕ) → Inside max_coordinate k → Safe k
inside_safe k h = omega arith

inside_deep : (k : ℕ) → Inside max_coordinate k → Deep k
inside_deep k h = omega arith

-- ---- members
has_get_d : (i : ℕ) (l : List ℕ) (b : ℕ) → i < length l → b ≡ get_or l i 0 → T (has b l)
has_get_d i l b h e = rw e (has_at l i h)

abbrev All : (ℕ → Type 0) → List ℕ → Type 0
All P [] = Unit {0}
All P (x ∷ l) = P x × All P l

all_has : (P : ℕ → Type 0) (l : List ℕ) → All P l → (b : ℕ) → T (has b l) → P b
unfolding has
all_has P [] a b t = absurd t
all_has P (x ∷ l) a b t = go (ℕ_discrete b x) (or_cases (eqb b x) (has b l) t) (all_has P l a.1 b)
  where
    go : Dec (b ≡ x) → T (eqb b x) ⊎ T (has b l) → (T (has b l) → P b) → P b
    go (yes e) d ih = rw e a.0
    go (no h) (inl u) ih = absurd (h (eqb→eq b x u))
    go (no h) (inr u) ih = ih u

-- ---- the nine cells around
met_has : (ch : Batch) (b x : ℕ) → T (has x (keys ch)) → T (has b (around x)) → T (has b (met ch))
unfolding met has keys
met_has [] b x t u = absurd t
met_has (e ∷ ch) b x t u = rw (has_append b (around e.0) (met ch)) (go (ℕ_discrete x e.0) (or_cases (eqb x e.0) (has x (keys ch)) t) (λ s. met_has ch b x s u))
  where
    go : Dec (x ≡ e.0) → T (eqb x e.0) ⊎ T (has x (keys ch)) → (T (has x (keys ch)) → T (has b (met ch))) → T (has b (around e.0) || has b (met ch))
    go (yes h) d ih = or_left (has b (around e.0)) (has b (met ch)) (subst (λ (z : ℕ). T (has b (around z))) h u)
    go (no h) (inl s) ih = absurd (h (eqb→eq x e.0 s))
    go (no h) (inr s) ih = or_right (has b (around e.0)) (has b (met ch)) (ih s)

nine : (x : ℕ) → Deep x → All Safe (around x)
nine x h = omega arith

met_safe : (ch : Batch) → ((x : ℕ) → T (has x (keys ch)) → Inside max_coordinate x) → (b : ℕ) → T (has b (met ch)) → Safe b
unfolding met has keys
met_safe [] d b t = absurd t
met_safe (e ∷ ch) d b t = go (or_cases (has b (around e.0)) (has b (met ch)) (rw (has_append b (around e.0) (met ch)) at t)) (met_safe ch (λ x u. d x (or_right (eqb x e.0) (has x (keys ch)) u)) b)
  where
    deep : Deep e.0
    deep = inside_deep e.0 (d e.0 (or_left (eqb e.0 e.0) (has e.0 (keys ch)) (eqb_refl e.0)))

    go : T (has b (around e.0)) ⊎ T (has b (met ch)) → (T (has b (met ch)) → Safe b) → Safe b
    go (inl s) ih = all_has Safe (around e.0) (nine e.0 deep) b s
    go (inr s) ih = ih s

back_self : (b : ℕ) → T (has b (around b))
back_self b = has_get_d 4 (around b) b (lit< tt) refl

back_x : (d : Dir) (b : ℕ) → Deep (side_x d b) → T (has b (around (side_x d b)))
back_x SW b h = has_get_d 7 (around (b - W)) b (lit< tt) (omega arith)
back_x SE b h = has_get_d 1 (around (b + W)) b (lit< tt) (omega arith)
back_x NW b h = has_get_d 7 (around (b - W)) b (lit< tt) (omega arith)
back_x NE b h = has_get_d 1 (around (b + W)) b (lit< tt) (omega arith)

back_y : (d : Dir) (b : ℕ) → Deep (side_y d b) → T (has b (around (side_y d b)))
back_y SW b h = has_get_d 5 (around (b - 1)) b (lit< tt) (omega arith)
back_y SE b h = has_get_d 5 (around (b - 1)) b (lit< tt) (omega arith)
back_y NW b h = has_get_d 3 (around (b + 1)) b (lit< tt) (omega arith)
back_y NE b h = has_get_d 3 (around (b + 1)) b (lit< tt) (omega arith)

back_xy : (d : Dir) (b : ℕ) → Deep (move 1 d b) → T (has b (around (move 1 d b)))
back_xy SW b h = has_get_d 8 (around (move 1 SW b)) b (lit< tt) (omega arith)
back_xy SE b h = has_get_d 2 (around (move 1 SE b)) b (lit< tt) (omega arith)
back_xy NW b h = has_get_d 6 (around (move 1 NW b)) b (lit< tt) (omega arith)
back_xy NE b h = has_get_d 0 (around (move 1 NE b)) b (lit< tt) (omega arith)

-- ---- a cell that was not met keeps its status
corner_same : (C C' : List ℕ) (b : ℕ) (d : Dir) → has b C' ≡ has b C → has (side_x d b) C' ≡ has (side_x d b) C → has (side_y d b) C' ≡ has (side_y d b) C
    → has (move 1 d b) C' ≡ has (move 1 d b) C → corner C b d ≡ corner C' b d
unfolding corner
corner_same C C' b d p q r s = rw (p, q, r, s) refl

module _ (C C' : List ℕ) (ch : Batch) (kept : (x : ℕ) → T (has x (keys ch)) ⊎ (has x C' ≡ has x C)) (inside : (x : ℕ) → T (has x (keys ch)) → Inside max_coordinate x) where
  pub unmet : (b : ℕ) → (T (has b (met ch)) → ⊥) → status_of C b ≡ status_of C' b
  unfolding status_of
  unmet b n = λ i. record { sw = at SW i; se = at SE i; nw = at NW i; ne = at NE i }
    where
      same : (x : ℕ) → (Deep x → T (has b (around x))) → has x C' ≡ has x C
      same x f = go (kept x)
        where
          go : T (has x (keys ch)) ⊎ (has x C' ≡ has x C) → has x C' ≡ has x C
          go (inl t) = absurd (n (met_has ch b x t (f (inside_deep x (inside x t)))))
          go (inr e) = e

      at : (d : Dir) → corner C b d ≡ corner C' b d
      at d = corner_same C C' b d (same b (λ h. back_self b)) (same (side_x d b) (back_x d b)) (same (side_y d b) (back_y d b)) (same (move 1 d b) (back_xy d b))

-- ---- the list
abbrev pub Fits : List ℕ → List (ℕ × Bits) → Type 0
Fits C [] = Unit {0}
Fits C (c ∷ cs) = (c.1 ≡ status_of C c.0) × (Safe c.0 × Fits C cs)

pub same_bits_lem : (a b : Bits) → T (same_bits a b) → a ≡ b
unfolding same_bits
same_bits_lem a b t =
    let w = beq a.sw b.sw in
    let x = beq a.se b.se in
    let y = beq a.nw b.nw in
    let z = beq a.ne b.ne in
    let p = and_l (w && x && y) z t in
    let q = and_l (w && x) y p in
    λ i. record {
      sw = beq_same a.sw b.sw (and_l w x q) i;
      se = beq_same a.se b.se (and_r w x q) i;
      nw = beq_same a.nw b.nw (and_r (w && x) y p) i;
      ne = beq_same a.ne b.ne (and_r (w && x && y) z t) i;
    }

pub altered_fits : (C C' done l : List ℕ) → ((x : ℕ) → T (has x l) → Safe x) → Fits C' (altered C C' done l)
unfolding altered has
altered_fits C C' done [] f = tt
altered_fits C C' done (k ∷ l) f = go (has k done || same_bits (status_of C k) (status_of C' k)) (altered_fits C C' (k ∷ done) l (λ x t. f x (or_right (eqb x k) (has x l) t)))
  where
    go : (s : Bool) → Fits C' (altered C C' (k ∷ done) l) → Fits C' (cond s (altered C C' (k ∷ done) l) ((k, status_of C' k) ∷ altered C C' (k ∷ done) l))
    go true ih = ih
    go false ih = (refl, (f k (or_left (eqb k k) (has k l) (eqb_refl k)), ih))

pub altered_has : (C C' done l : List ℕ) (b : ℕ) → T (has b l) → (T (has b done) → ⊥) → T (has b (keys (altered C C' done l))) ⊎ (status_of C b ≡ status_of C' b)
unfolding altered has keys
altered_has C C' done [] b t n = absurd t
altered_has C C' done (k ∷ l) b t n = go (ℕ_discrete b k) (altered_has C C' (k ∷ done) l b)
  where
    rest : List (ℕ × Bits)
    rest = altered C C' (k ∷ done) l

    deeper : (s : Bool) → T (has b (keys rest)) ⊎ (status_of C b ≡ status_of C' b) → T (has b (keys (cond s rest ((k, status_of C' k) ∷ rest)))) ⊎ (status_of C b ≡ status_of C' b)
    deeper true p = p
    deeper false (inl p) = inl (or_right (eqb b k) (has b (keys rest)) p)
    deeper false (inr p) = inr p

    here : b ≡ k → (s : Bool) → has k done || same_bits (status_of C k) (status_of C' k) ≡ s → T (has b (keys (cond s rest ((k, status_of C' k) ∷ rest)))) ⊎ (status_of C b ≡ status_of C' b)
    here e false q = inl (or_left (eqb b k) (has b (keys rest)) (rw e (eqb_refl k)))
    here e true q = inr (rw e (same_bits_lem (status_of C k) (status_of C' k) (old (or_cases (has k done) (same_bits (status_of C k) (status_of C' k)) (true→T (has k done || same_bits (status_of C k) (status_of C' k)) q)))))
      where
        old : T (has k done) ⊎ T (same_bits (status_of C k) (status_of C' k)) → T (same_bits (status_of C k) (status_of C' k))
        old (inl u) = absurd (n (rw e u))
        old (inr u) = u

    inner : b ≢ k → T (eqb b k) ⊎ T (has b l) → T (has b l)
    inner h (inl u) = absurd (h (eqb→eq b k u))
    inner h (inr u) = u

    fresh : b ≢ k → T (eqb b k || has b done) → ⊥
    fresh h u = back (or_cases (eqb b k) (has b done) u)
      where
        back : T (eqb b k) ⊎ T (has b done) → ⊥
        back (inl z) = h (eqb→eq b k z)
        back (inr z) = n z

    go : Dec (b ≡ k) → (T (has b l) → (T (has b (k ∷ done)) → ⊥) → T (has b (keys rest)) ⊎ (status_of C b ≡ status_of C' b))
        → T (has b (keys (cond (has k done || same_bits (status_of C k) (status_of C' k)) rest ((k, status_of C' k) ∷ rest)))) ⊎ (status_of C b ≡ status_of C' b)
    go (yes e) ih = here e (has k done || same_bits (status_of C k) (status_of C' k)) refl
    go (no h) ih = deeper (has k done || same_bits (status_of C k) (status_of C' k)) (ih (inner h (or_cases (eqb b k) (has b l) t)) (fresh h))

-- ---- both facts of the corner changes
module _ (C C' : List ℕ) (ch : Batch) (kept : (x : ℕ) → T (has x (keys ch)) ⊎ (has x C' ≡ has x C)) (inside : (x : ℕ) → T (has x (keys ch)) → Inside max_coordinate x) where
  pub changes_fit : Fits C' (corner_changes C C' ch)
  unfolding corner_changes
  changes_fit = altered_fits C C' [] (met ch) (met_safe ch inside)

  pub changes_has : (b : ℕ) → T (has b (keys (corner_changes C C' ch))) ⊎ (status_of C b ≡ status_of C' b)
  unfolding corner_changes has
  changes_has b = go (dec_t (has b (met ch)))
    where
      go : T (has b (met ch)) ⊎ (T (has b (met ch)) → ⊥) → T (has b (keys (altered C C' [] (met ch)))) ⊎ (status_of C b ≡ status_of C' b)
      go (inl t) = altered_has C C' [] (met ch) b t (λ z. z)
      go (inr n) = inr (unmet C C' ch kept inside b n)

-- ---- and of a fresh build
pub free_status : (C : List ℕ) (b : ℕ) → has b C ≡ false → status_of C b ≡ zero4
unfolding status_of corner
free_status C b e = rw e refl

among_fits : (C l : List ℕ) → ((x : ℕ) → T (has x l) → Safe x) → Fits C (corners_among C l)
unfolding corners_among has
among_fits C [] f = tt
among_fits C (k ∷ l) f = go (any_bit (status_of C k)) (among_fits C l (λ x t. f x (or_right (eqb x k) (has x l) t)))
  where
    go : (s : Bool) → Fits C (corners_among C l) → Fits C (cond s ((k, status_of C k) ∷ corners_among C l) (corners_among C l))
    go true ih = (refl, (f k (or_left (eqb k k) (has k l) (eqb_refl k)), ih))
    go false ih = ih

pub corners_fits : (C : List ℕ) → ((k : ℕ) → T (has k C) → Inside max_coordinate k) → Fits C (corner_cells C)
corners_fits C inside = among_fits C C (λ x u. inside_safe x (inside x u))

-- they ascend as the cells do
pub corners_asc : (C : List ℕ) (lo : ℕ) (l : List ℕ) → AscL lo l → Asc lo (corners_among C l)
unfolding corners_among
corners_asc C lo [] a = tt
corners_asc C lo (k ∷ l) a = go (any_bit (status_of C k)) (corners_asc C (suc k) l a.1)
  where
    go : (s : Bool) → Asc (suc k) (corners_among C l) → Asc lo (cond s ((k, status_of C k) ∷ corners_among C l) (corners_among C l))
    go true ih = (a.0, ih)
    go false ih = asc_down lo (suc k) (corners_among C l) (let x = a.0 in omega arith) ih

corners_in : (C l : List ℕ) (b : ℕ) → T (has b l) → T (has b (keys (corners_among C l))) ⊎ (status_of C b ≡ zero4)
unfolding corners_among has keys
corners_in C [] b t = absurd t
corners_in C (k ∷ l) b t = go (ℕ_discrete b k) (or_cases (eqb b k) (has b l) t) (any_bit (status_of C k)) refl (corners_in C l b)
  where
    rest : List (ℕ × Bits)
    rest = corners_among C l

    more : (s : Bool) → T (has b (keys rest)) ⊎ (status_of C b ≡ zero4) → T (has b (keys (cond s ((k, status_of C k) ∷ rest) rest))) ⊎ (status_of C b ≡ zero4)
    more true (inl p) = inl (or_right (eqb b k) (has b (keys rest)) p)
    more true (inr p) = inr p
    more false p = p

    go : Dec (b ≡ k) → T (eqb b k) ⊎ T (has b l) → (s : Bool) → any_bit (status_of C k) ≡ s → (T (has b l) → T (has b (keys rest)) ⊎ (status_of C b ≡ zero4))
        → T (has b (keys (cond s ((k, status_of C k) ∷ rest) rest))) ⊎ (status_of C b ≡ zero4)
    go (yes e) d true q ih = inl (or_left (eqb b k) (has b (keys rest)) (rw e (eqb_refl k)))
    go (yes e) d false q ih = inr (rw e (no_bit (status_of C k) q))
    go (no h) (inl u) s q ih = absurd (h (eqb→eq b k u))
    go (no h) (inr u) s q ih = more s (ih u)

pub corners_has : (C : List ℕ) (b : ℕ) → T (has b (keys (corner_cells C))) ⊎ (status_of C b ≡ zero4)
corners_has C b = go (has b C) refl
  where
    go : (s : Bool) → has b C ≡ s → T (has b (keys (corner_cells C))) ⊎ (status_of C b ≡ zero4)
    go true e = corners_in C C b (true→T (has b C) e)
    go false e = inr (free_status C b e)
