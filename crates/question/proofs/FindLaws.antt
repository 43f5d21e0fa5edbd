-- Laws of `find` over lists in parts, by tests that agree on every entry, and over sifted lists. Assumes nothing.
use Prim.Native.Nat.{ℕ, zero, suc}
use mathlib.Core.Path.{◌≡◌, refl, ap}
use mathlib.Core.Bool.{Bool, true, false, cond, ◌&&◌}
use mathlib.Core.List.{List, [], ◌∷◌, ◌++◌}
use mathlib.Core.Option.{none, some, none-ne-some, some-ne-none}
use lib.ListN.{drop}
use Rattle.model.specs.Maps.{find, sift}
use Rattle.table.specs.Tables.{All}

pub find_agree : (p q : ℕ → Bool) (l : List ℕ) → All (λ k. p k ≡ q k) l → find p l ≡ find q l
unfolding find
find_agree p q [] a = refl
find_agree p q (x ∷ l) a = rw (a.0, find_agree p q l a.1) refl

-- no entry passes
pub find_nowhere : (p : ℕ → Bool) (l : List ℕ) → All (λ k. p k ≡ false) l → find p l ≡ none
unfolding find
find_nowhere p [] a = refl
find_nowhere p (x ∷ l) a = rw a.0 (find_nowhere p l a.1)

-- ---- the first entry
pub find_here : (p : ℕ → Bool) (x : ℕ) (l : List ℕ) → p x ≡ true → find p (x ∷ l) ≡ some x
unfolding find
find_here p x l e = rw e refl

pub find_later : (p : ℕ → Bool) (x : ℕ) (l : List ℕ) → p x ≡ false → find p (x ∷ l) ≡ find p l
unfolding find
find_later p x l e = rw e refl

-- ---- two parts
pub find_front : (p : ℕ → Bool) (l m : List ℕ) (k : ℕ) → find p l ≡ some k → find p (l ++ m) ≡ some k
unfolding find
find_front p [] m k e = absurd (none-ne-some k e)
find_front p (x ∷ l) m k e = go (p x) e (find_front p l m k)
  where
    go : (b : Bool) → cond b (some x) (find p l) ≡ some k → (find p l ≡ some k → find p (l ++ m) ≡ some k) → cond b (some x) (find p (l ++ m)) ≡ some k
    go true q ih = q
    go false q ih = ih q

pub find_back : (p : ℕ → Bool) (l m : List ℕ) → find p l ≡ none → find p (l ++ m) ≡ find p m
unfolding find
find_back p [] m e = refl
find_back p (x ∷ l) m e = go (p x) e (find_back p l m)
  where
    go : (b : Bool) → cond b (some x) (find p l) ≡ none → (find p l ≡ none → find p (l ++ m) ≡ find p m) → cond b (some x) (find p (l ++ m)) ≡ find p m
    go true q ih = absurd (some-ne-none x q)
    go false q ih = ih q

-- ---- what is sifted out is not found
pub find_sift : (f p : ℕ → Bool) (l : List ℕ) → find p (sift f l) ≡ find (λ k. f k && p k) l
unfolding find sift
find_sift f p [] = refl
find_sift f p (x ∷ l) = go (f x) (find_sift f p l)
  where
    go : (b : Bool) → find p (sift f l) ≡ find (λ k. f k && p k) l → find p (cond b (x ∷ sift f l) (sift f l)) ≡ cond (b && p x) (some x) (find (λ k. f k && p k) l)
    go true ih = ap (cond (p x) (some x)) ih
    go false ih = ih

-- ---- every entry of a part
pub all_kept : (P : ℕ → Type 0) (f : ℕ → Bool) (l : List ℕ) → All P l → All P (sift f l)
unfolding sift
all_kept P f [] a = tt
all_kept P f (x ∷ l) a = go (f x) (all_kept P f l a.1)
  where
    go : (b : Bool) → All P (sift f l) → All P (cond b (x ∷ sift f l) (sift f l))
    go true ih = (a.0, ih)
    go false ih = ih

pub all_rest : (P : ℕ → Type 0) (n : ℕ) (l : List ℕ) → All P l → All P (drop n l)
all_rest P zero l a = a
all_rest P (suc n) [] a = tt
all_rest P (suc n) (x ∷ l) a = all_rest P n l a.1
