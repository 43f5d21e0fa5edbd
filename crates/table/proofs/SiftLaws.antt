-- Lists sifted by a test (`sift` of `model`): members, order, and the stretch that a bound sifts out of an ascending list. Assumes nothing.
use Prim.Native.Nat.{ℕ, suc}
use native.Mathlib.Omega.{arith}
use mathlib.Core.Path.{◌≡◌, refl, sym, ap, ◌∙◌}
use mathlib.Core.Bool.{Bool, true, false, cond, ◌&&◌, ◌||◌, and-false}
use mathlib.Core.List.{List, [], ◌∷◌, ◌++◌, append-nil}
use lib.Dec.{eqb, leb, ltb}
use lib.ListN.{take, drop, take-append-drop}
use borrow.Author.Tests.{lt-ltb, le-ltb, lt-leb, le-leb, eqb-true}
use Rattle.model.specs.Maps.{AscL, has, sift}
use Rattle.model.proofs.SiftLaws.{sift_append}
use Rattle.table.specs.Tables.{All, rank}
use Rattle.table.proofs.AllLaws.{all_map, asc_l_down}
use Rattle.table.proofs.RankLaws.{rank_splits}

pub sift_same : (f g : ℕ → Bool) (l : List ℕ) → All (λ k. f k ≡ g k) l → sift f l ≡ sift g l
unfolding sift
sift_same f g [] a = refl
sift_same f g (x ∷ l) a = rw (a.0, sift_same f g l a.1)

pub sift_all : (f : ℕ → Bool) (l : List ℕ) → All (λ k. f k ≡ true) l → sift f l ≡ l
unfolding sift
sift_all f [] a = refl
sift_all f (x ∷ l) a = rw (a.0, sift_all f l a.1)

pub sift_none : (f : ℕ → Bool) (l : List ℕ) → All (λ k. f k ≡ false) l → sift f l ≡ []
unfolding sift
sift_none f [] a = refl
sift_none f (x ∷ l) a = rw a.0 (sift_none f l a.1)

-- ---- what passes
pub all_sift : (f : ℕ → Bool) (l : List ℕ) → All (λ k. f k ≡ true) (sift f l)
unfolding sift
all_sift f [] = tt
all_sift f (x ∷ l) = go (f x) refl (all_sift f l)
  where
    go : (b : Bool) → f x ≡ b → All (λ k. f k ≡ true) (sift f l) → All (λ k. f k ≡ true) (cond b (x ∷ sift f l) (sift f l))
    go true e ih = (e, ih)
    go false e ih = ih

pub has_sift : (f : ℕ → Bool) (k : ℕ) (l : List ℕ) → has k (sift f l) ≡ has k l && f k
unfolding has sift
has_sift f k [] = refl
has_sift f k (x ∷ l) = go (f x) (eqb k x) refl refl (has_sift f k l)
  where
    go : (b c : Bool) → f x ≡ b → eqb k x ≡ c → has k (sift f l) ≡ has k l && f k → has k (cond b (x ∷ sift f l) (sift f l)) ≡ (c || has k l) && f k
    go true true p q ih = rw q (sym (ap f (eqb-true k x q) ∙ p))
    go true false p q ih = rw q ih
    go false true p q ih = let e : f k ≡ false = ap f (eqb-true k x q) ∙ p in ih ∙ rw e (and-false (has k l))
    go false false p q ih = ih

pub asc_l_sift : (f : ℕ → Bool) (lo : ℕ) (l : List ℕ) → AscL lo l → AscL lo (sift f l)
unfolding sift
asc_l_sift f lo [] a = tt
asc_l_sift f lo (x ∷ l) a = go (f x) (asc_l_sift f (suc x) l a.1)
  where
    go : (b : Bool) → AscL (suc x) (sift f l) → AscL lo (cond b (x ∷ sift f l) (sift f l))
    go true ih = (a.0, ih)
    go false ih = asc_l_down lo (suc x) (sift f l) (omega arith) ih

-- ---- sifted by a bound
cut_at : (f : ℕ → Bool) (n : ℕ) (l : List ℕ) → sift f l ≡ sift f (take n l) ++ sift f (drop n l)
cut_at f n l = ap (sift f) (sym (take-append-drop n l)) ∙ sift_append f (take n l) (drop n l)

pub sift_from : (p lo : ℕ) (l : List ℕ) → AscL lo l → sift (leb p) l ≡ drop (rank p l) l
sift_from p lo l a =
    let s = rank_splits lo p l a in
    cut_at (leb p) (rank p l) l
    ∙ rw (sift_none (leb p) (take (rank p l) l) (all_map (take (rank p l) l) (λ x h. lt-leb p x h) s.0)) (sift_all (leb p) (drop (rank p l) l) (all_map (drop (rank p l) l) (λ x h. le-leb p x h) s.1))

pub sift_below : (q lo : ℕ) (l : List ℕ) → AscL lo l → sift (λ x. ltb x q) l ≡ take (rank q l) l
sift_below q lo l a =
    let s = rank_splits lo q l a in
    let f : ℕ → Bool = λ x. ltb x q in
    cut_at f (rank q l) l
    ∙ rw (sift_none f (drop (rank q l) l) (all_map (drop (rank q l) l) (λ x h. le-ltb x q h) s.1), append-nil (sift f (take (rank q l) l)))
    (sift_all f (take (rank q l) l) (all_map (take (rank q l) l) (λ x h. lt-ltb x q h) s.0))
