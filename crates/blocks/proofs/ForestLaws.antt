-- Ways to the roots of a forest: each place has one root, and what a store does to it. Assumes nothing.
use Prim.Native.Nat.{ℕ, zero, suc, ◌≤◌, ◌<◌}
use native.Mathlib.Nat.{le_refl, le_trans, not-suc-le-zero}
use native.Mathlib.Decide.{ℕ_discrete}
use native.Mathlib.Omega.{arith}
use mathlib.Core.Path.{◌≡◌, refl, sym, ◌∙◌, subst}
use mathlib.Core.Logic.{◌≢◌}
use mathlib.Core.Bool.{cond}
use mathlib.Core.List.{List}
use lib.Dec.{eqb}
use lib.ListN.{length, get_or, set, length-set}
use lib.Seq.{get_or-set_same, get_or-set_other}
use borrow.Author.Tests.{eq-eqb, ne_eqb}
use Rattle.blocks.specs.Forest.{Down, Root, SameRoots, Joined, here, up}

-- ---- roots
pub root_le : {p : List ℕ} {j r : ℕ} → Down p → Root p j r → r ≤ j
root_le {p} {j} d (here e) = le_refl j
root_le {p} {j} d (up n w) = le_trans (root_le d w) (d j)

pub root_fixed : {p : List ℕ} {j r : ℕ} → Root p j r → get_or p r 0 ≡ r
root_fixed (here e) = e
root_fixed (up n w) = root_fixed w

-- A place has one root.
pub root_one : {p : List ℕ} {j r s : ℕ} → Root p j r → Root p j s → r ≡ s
root_one (here e) (here f) = refl
root_one (here e) (up n w) = absurd (n e)
root_one (up n w) (here f) = absurd (n f)
root_one (up n w) (up m v) = root_one w v

-- A place has a root.
root_below : (p : List ℕ) → Down p → (n j : ℕ) → j < n → (r : ℕ) × Root p j r
root_below p d zero j h = absurd (not-suc-le-zero h)
root_below p d (suc n) j h = go (root_below p d n (get_or p j 0)) (ℕ_discrete (get_or p j 0) j)
  where
    go : (get_or p j 0 < n → (r : ℕ) × Root p (get_or p j 0) r) → Dec (get_or p j 0 ≡ j) → (r : ℕ) × Root p j r
    go f (yes e) = (j, here e)
    go f (no m) = let w = f (omega (arith, d j)) in (w.0, up m w.1)

pub root_some : (p : List ℕ) → Down p → (j : ℕ) → (r : ℕ) × Root p j r
root_some p d j = root_below p d (suc j) j (le_refl (suc j))

-- What a place leads to has the same root.
root_next : {p : List ℕ} {j r : ℕ} → Root p j r → Root p (get_or p j 0) r
root_next {p} {j} (here e) = subst (λ (i : ℕ). Root p i j) (sym e) (here e)
root_next (up n w) = w

-- ---- stores
pub down_set : (p : List ℕ) (i v : ℕ) → Down p → i < length p → v ≤ i → Down (set p i v)
down_set p i v d l h j = go (ℕ_discrete j i)
  where
    go : Dec (j ≡ i) → get_or (set p i v) j 0 ≤ j
    go (no n) = rw (get_or-set_other p i j v 0 n) (d j)
    go (yes e) = rw (e, get_or-set_same p i v 0 l) h

-- a place before the root: no way passes it
pub set_below : {p : List ℕ} {j r : ℕ} (i v : ℕ) → Down p → i < r → Root p j r → Root (set p i v) j r
set_below {p} {j} i v d h (here e) = here (get_or-set_other p i j v 0 (omega arith) ∙ e)
set_below {p} {j} {r} i v d h (up n w) =
    let l = root_le d w in
    let g = d j in
    let e : get_or (set p i v) j 0 ≡ get_or p j 0 = get_or-set_other p i j v 0 (omega arith) in
    up {i = j} {r = r} (rw e n) (rw e (set_below i v d h w))

-- a place is led on by two steps
abbrev two : List ℕ → ℕ → ℕ
two p j = get_or p (get_or p j 0) 0

module _ (p : List ℕ) (d : Down p) (i : ℕ) (inside : i < length p) (n : get_or p i 0 ≢ i) where
  halved_step : (j r : ℕ) → get_or p j 0 ≢ j → Root (set p i (two p i)) (get_or p j 0) r → Root (set p i (two p i)) (two p j) r → Root (set p i (two p i)) j r
  halved_step j r m a b = go (ℕ_discrete j i)
    where
      q : List ℕ
      q = set p i (two p i)

      go : Dec (j ≡ i) → Root q j r
      go (no o) =
          let e : get_or q j 0 ≡ get_or p j 0 = get_or-set_other p i j (two p i) 0 o in
          up {i = j} {r = r} (rw e m) (rw e a)
      go (yes o) =
          let e : get_or q i 0 ≡ two p i = get_or-set_same p i (two p i) 0 inside in
          let f : two p i ≢ i = omega (arith, d i, d (get_or p i 0)) in
          subst (λ (x : ℕ). Root q x r) (sym o) (up {i = i} {r = r} (rw e f) (rw e (subst (λ (x : ℕ). Root q (two p x) r) o b)))

  halved : (j r : ℕ) → Root p j r → Root (set p i (two p i)) j r
  halved j r (here e) = here (get_or-set_other p i j (two p i) 0 (λ q. n (subst (λ (x : ℕ). get_or p x 0 ≡ x) q e)) ∙ e)
  halved j r (up m (here e)) =
      let w = halved (get_or p j 0) (get_or p j 0) (here e) in
      halved_step j (get_or p j 0) m w (rw e w)
  halved j r (up m (up o w)) = halved_step j r m (halved (get_or p j 0) r (up o w)) (halved (two p j) r w)

-- a root is joined to another
module _ (p : List ℕ) (to root : ℕ) (less : to < root) (inside : root < length p) (a : get_or p to 0 ≡ to) (b : get_or p root 0 ≡ root) where
  hung : (j r : ℕ) → Root p j r → Root (set p root to) j (cond (eqb r root) to r)
  hung j r (here e) = go (ℕ_discrete j root)
    where
      q : List ℕ
      q = set p root to

      go : Dec (j ≡ root) → Root q j (cond (eqb j root) to j)
      go (yes o) =
          let s : get_or q root 0 ≡ to = get_or-set_same p root to 0 inside in
          let t : get_or q to 0 ≡ to = get_or-set_other p root to to 0 (omega arith) ∙ a in
          let f : to ≢ root = omega arith in
          rw (eq-eqb j root o) (subst (λ (x : ℕ). Root q x to) (sym o) (up {i = root} {r = to} (rw s f) (rw s (here t))))
      go (no o) = rw (ne_eqb j root o) (here (get_or-set_other p root j to 0 o ∙ e))
  hung j r (up m w) =
      let o : j ≢ root = λ q. m (subst (λ (x : ℕ). get_or p x 0 ≡ x) (sym q) b) in
      let e : get_or (set p root to) j 0 ≡ get_or p j 0 = get_or-set_other p root j to 0 o in
      up {i = j} {r = cond (eqb r root) to r} (rw e m) (rw e (hung (get_or p j 0) r w))

-- ---- the search for a root, which has come to i and goes on to `next`
pub record Climbing (p₀ : List ℕ) (at : ℕ) (p : List ℕ) (i next : ℕ) : Type 0 where
  pub same : SameRoots p₀ p
  pub inside : i < length p
  pub leads : (r : ℕ) → Root p₀ at r → Root p i r
  pub is : next ≡ get_or p i 0
  pub below : next ≤ i
  pub further : get_or p next 0 ≤ next

climb : {p₀ p : List ℕ} {at i : ℕ} → SameRoots p₀ p → i < length p → ((r : ℕ) → Root p₀ at r → Root p i r) → Climbing p₀ at p i (get_or p i 0)
climb {p} {i} s h f = record { same = s; inside = h; leads = f; is = refl; below = s.down i; further = s.down (get_or p i 0) }

module _ {p₀ p : List ℕ} {at i next : ℕ} (c : Climbing p₀ at p i next) where
  pub climb_more : next ≢ i → Climbing p₀ at (set p i (get_or p next 0)) (get_or p next 0) (get_or (set p i (get_or p next 0)) (get_or p next 0) 0)
  climb_more n = rw c.is (climb (record { long = length-set p i (two p i) ∙ c.same.long; down = down_set p i (two p i) d c.inside l; kept = λ j r w. h j r (c.same.kept j r w) })
      (rw (length-set p i (two p i)) (omega (arith, l, c.inside)))
      (λ r w. h (two p i) r (root_next (root_next (c.leads r w)))))
    where
      d : Down p
      d = c.same.down

      l : two p i ≤ i
      l = le_trans (d (get_or p i 0)) (d i)

      h : (j r : ℕ) → Root p j r → Root (set p i (two p i)) j r
      h = halved p d i c.inside (rw c.is at n)

  pub climb_done : Down p₀ → next ≡ i → Root p₀ at i
  climb_done d e =
      let w = root_some p₀ d at in
      let s : w.0 ≡ i = root_one (c.leads w.0 w.1) (here (sym c.is ∙ e)) in
      subst (Root p₀ at) s w.1

-- ---- what a join does
module _ (p q : List ℕ) (to at root : ℕ) (from : Root p at root) (s : SameRoots p q) where
  pub joined_moved : get_or p to 0 ≡ to → to < root → root < length q → Joined to at 1 p (set q root to)
  joined_moved e h l = record {
    long = length-set q root to ∙ s.long;
    down = down_set q root to s.down l (omega arith);
    root = root;
    from = from;
    same = λ g. absurd (omega arith);
    moved = λ g. (refl, λ i r w. hung q to root h l (root_fixed (s.kept to to (here e))) (root_fixed (s.kept at root from)) i r (s.kept i r w));
  }
