-- Lists sifted by a test. Assumes nothing.
use Prim.Native.Nat.{ℕ, ◌+◌, ◌≤◌, ◌<◌}
use native.Mathlib.Numerals.{add-one}
use mathlib.Core.Path.{◌≡◌, refl, ap}
use mathlib.Core.Bool.{Bool, true, false, cond, ◌&&◌}
use mathlib.Core.List.{List, [], ◌∷◌, ◌++◌}
use lib.ListN.{length, drop, get_or, drop_of_length-le}
use lib.Seq.{drop-cons}
use Rattle.model.specs.Maps.{sift}

module _ {A : Type 0} where
  pub sift_append : (f : A → Bool) (l m : List A) → sift f (l ++ m) ≡ sift f l ++ sift f m
  unfolding sift
  sift_append f [] m = refl
  sift_append f (x ∷ l) m = go (f x) (sift_append f l m)
    where
      go : (b : Bool) → sift f (l ++ m) ≡ sift f l ++ sift f m → cond b (x ∷ sift f (l ++ m)) (sift f (l ++ m)) ≡ cond b (x ∷ sift f l) (sift f l) ++ sift f m
      go true ih = ap (λ (s : List A). x ∷ s) ih
      go false ih = ih

  pub sift_one : (f : A → Bool) (x : A) → f x ≡ true → sift f (x ∷ []) ≡ x ∷ []
  unfolding sift
  sift_one f x e = rw e refl

  pub sift_out : (f : A → Bool) (x : A) → f x ≡ false → sift f (x ∷ []) ≡ []
  unfolding sift
  sift_out f x e = rw e refl

  pub sift_nil : (f : A → Bool) → sift f [] ≡ []
  unfolding sift
  sift_nil f = refl

  pub sift_twice : (f g : A → Bool) (l : List A) → sift g (sift f l) ≡ sift (λ k. f k && g k) l
  unfolding sift
  sift_twice f g [] = refl
  sift_twice f g (x ∷ l) = go (f x) (sift_twice f g l)
    where
      go : (b : Bool) → sift g (sift f l) ≡ sift (λ k. f k && g k) l
          → sift g (cond b (x ∷ sift f l) (sift f l)) ≡ cond (b && g x) (x ∷ sift (λ k. f k && g k) l) (sift (λ k. f k && g k) l)
      go true ih = rw ih
      go false ih = ih

-- ---- a list sifted from its i-th entry on
module _ {A : Type 0} (p : A → Bool) (l : List A) (i : ℕ) where
  module _ (z : A) (more : i < length l) where
    pub sift_kept : p (get_or l i z) ≡ true → sift p (drop i l) ≡ get_or l i z ∷ sift p (drop (i + 1) l)
    unfolding sift
    sift_kept e = rw (add-one i, drop-cons l i z more, e) refl

    pub sift_left : p (get_or l i z) ≡ false → sift p (drop i l) ≡ sift p (drop (i + 1) l)
    unfolding sift
    sift_left e = rw (add-one i, drop-cons l i z more, e) refl

  pub sift_end : length l ≤ i → sift p (drop i l) ≡ []
  unfolding sift
  sift_end h = rw (drop_of_length-le l h) refl
