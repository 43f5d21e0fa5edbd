-- A walk that keeps the entries at whose places a test is true, and writes them at the front of a table. Assumes nothing.
use Prim.Native.Nat.{ℕ, zero, suc, ◌+◌, ◌≤◌, ◌<◌, zero-le, suc-le-suc}
use native.Mathlib.Nat.{le_of_suc-le-suc, not-suc-le-zero}
use native.Mathlib.Numerals.{add-one}
use native.Mathlib.Omega.{arith}
use mathlib.Core.Path.{◌≡◌, refl, sym, ◌∙◌}
use mathlib.Core.Bool.{Bool, true, false, cond}
use mathlib.Core.List.{List, [], ◌∷◌, ◌++◌, append-nil}
use lib.ListN.{get_or, length, length-set, set, take}
use Rattle.answers.specs.Asking.{Front}
use Rattle.answers.specs.Walks.{picked}
use Rattle.answers.proofs.GrowLaws.{front_put}
use Rattle.model.specs.Layer.{Point, Points}
use Rattle.model.specs.Maps.{keys, sift}

-- ---- one entry more
joined : (b : Bool) (x : ℕ) (r t : List ℕ) → cond b (x ∷ (r ++ t)) (r ++ t) ≡ cond b (x ∷ r) r ++ t
joined true x r t = refl
joined false x r t = refl

next : (p : ℕ → Bool) (l : List ℕ) (i : ℕ) (b : Bool) → i < length l → p i ≡ b → picked p (take (suc i) l) ≡ picked p (take i l) ++ cond b (get_or l i 0 ∷ []) []
unfolding picked
next p [] i b h e = absurd (not-suc-le-zero h)
next p (x ∷ l) zero b h e = rw e refl
next p (x ∷ l) (suc i) b h e =
    rw (next (λ j. p (suc j)) l i b (le_of_suc-le-suc h) e)
    (joined (p 0) x (picked (λ j. p (suc j)) (take i l)) (cond b (get_or l i 0 ∷ []) []))

-- ---- the walk
-- the test p says what the calls say of the places of the entries
abbrev pub Says : (ℕ → Bool → Type 0) → List ℕ → (ℕ → Bool) → Type 0
Says Post entries p = (i : ℕ) (r : Bool) → i < length entries → Post i r → r ≡ p i

-- the table t became t', with n of the first i entries at its front
pub record Kept (Post : ℕ → Bool → Type 0) (entries t t' : List ℕ) (n i : ℕ) : Type 0 where
  pub up : n ≤ i
  pub same : length t' ≡ length t
  pub front : (p : ℕ → Bool) → Says Post entries p → Front (picked p (take i entries)) n t t'

module _ (Post : ℕ → Bool → Type 0) (entries t : List ℕ) where
  pub kept_none : Kept Post entries t t 0 0
  kept_none = record { up = omega arith; same = refl; front = λ p s. unfold picked in (refl, refl) }

  module _ (t' : List ℕ) (n i : ℕ) (k : Kept Post entries t t' n i) (more : i < length entries) where
    pub kept_put : Post i true → n < length t' → Kept Post entries t (set t' n (get_or entries i 0)) (n + 1) (i + 1)
    kept_put is room = record {
      up = omega (arith, k.up);
      same = length-set t' n (get_or entries i 0) ∙ k.same;
      front = λ p s. rw (add-one i, next p entries i true more (sym (s i true more is))) (front_put (picked p (take i entries)) t t' n (get_or entries i 0) room (k.front p s));
    }

    pub kept_pass : Post i false → Kept Post entries t t' n (i + 1)
    kept_pass is = record {
      up = omega (arith, k.up);
      same = k.same;
      front = λ p s. rw (add-one i, next p entries i false more (sym (s i false more is)), append-nil (picked p (take i entries))) (k.front p s);
    }

-- ---- what is kept, by a test of the entries themselves
-- of a list of numbers
pub picked_list : (K : ℕ → Bool) (l : List ℕ) → picked (λ i. K (get_or l i 0)) l ≡ sift K l
unfolding picked sift
picked_list K [] = refl
picked_list K (x ∷ l) = rw (picked_list K l) refl

-- of points, whose keys are the entries
pub picked_keys : (K : ℕ × Point → Bool) (d : ℕ × Point) (ps : Points) → picked (λ i. K (get_or ps i d)) (keys ps) ≡ keys (sift K ps)
unfolding picked sift keys
picked_keys K d [] = refl
picked_keys K d (e ∷ ps) = rw (picked_keys K d ps) (go (K e) (sift K ps))
  where
    go : (b : Bool) (l : Points) → cond b (e.0 ∷ keys l) (keys l) ≡ keys (cond b (e ∷ l) l)
    go true l = refl
    go false l = refl

-- tests that agree keep the same
pub picked_same : (p q : ℕ → Bool) (l : List ℕ) → ((i : ℕ) → i < length l → p i ≡ q i) → picked p l ≡ picked q l
unfolding picked
picked_same p q [] f = refl
picked_same p q (x ∷ l) f = rw (f 0 (suc-le-suc zero-le), picked_same (λ i. p (suc i)) (λ i. q (suc i)) l (λ i h. f (suc i) (suc-le-suc h))) refl
