-- Ascending lists of keys as sets: they are told apart by their members, and keys go in and out in any order. Assumes nothing.
use Prim.Native.Nat.{ℕ, suc, ◌≤◌, ◌<◌, zero-le}
use native.Mathlib.Decide.{ℕ_discrete}
use native.Mathlib.Nat.{le_of_eq}
use native.Mathlib.Omega.{arith}
use mathlib.Core.Path.{◌≡◌, refl, sym, ap, ◌∙◌}
use mathlib.Core.Logic.{◌≢◌, ⊎_elim}
use mathlib.Core.Bool.{true, false, true≢false}
use mathlib.Core.List.{List, [], ◌∷◌}
use lib.ListN.{length}
use Rattle.ieee.proofs.Tools.{lt_or_ge}
use Rattle.model.specs.Maps.{AscL, add, cut, has, is_some}
use Rattle.model.proofs.MapLaws.{eqb_yes, eqb_no, keys_has, keys_units, units, has_add_same, has_add_other, has_cut_same, has_cut_other}
use Rattle.model.proofs.OrderLaws.{asc_get, asc_units, asc_l_add, asc_l_cut}
use Rattle.table.proofs.LookLaws.{look, absent_length}

-- no key is below the first
pub has_low : (k lo : ℕ) (l : List ℕ) → k < lo → AscL lo l → has k l ≡ false
has_low k lo l h a = ap (has k) (sym (keys_units l)) ∙ keys_has k (units l) ∙ ap is_some (asc_get lo (units l) k (asc_units lo l a) h)

-- ---- the same members, the same list
here : (x : ℕ) (l : List ℕ) → has x (x ∷ l) ≡ true
unfolding has
here x l = rw (eqb_yes x)

there : (x y : ℕ) (l : List ℕ) → x ≢ y → has x (y ∷ l) ≡ has x l
unfolding has
there x y l h = rw (eqb_no x y h)

above : (x y : ℕ) (l m : List ℕ) → AscL (suc y) m → has x (x ∷ l) ≡ has x (y ∷ m) → y ≤ x
above x y l m a e = ⊎_elim less (λ h. h) (lt_or_ge x y)
  where
    less : x < y → y ≤ x
    less h =
        let n : x ≢ y = omega arith in
        let k : x < suc y = omega arith in
        absurd (true≢false (sym (here x l) ∙ e ∙ there x y m n ∙ has_low x (suc y) m k a))

pub same_members : (lo : ℕ) (l m : List ℕ) → AscL lo l → AscL lo m → ((x : ℕ) → has x l ≡ has x m) → l ≡ m
unfolding has
same_members lo [] [] a b f = refl
same_members lo [] (y ∷ m) a b f = absurd (true≢false (sym (here y m) ∙ sym (f y)))
same_members lo (x ∷ l) [] a b f = absurd (true≢false (sym (here x l) ∙ f x))
same_members lo (x ∷ l) (y ∷ m) a b f =
    let p : y ≤ x = above x y l m b.1 (f x) in
    let q : x ≤ y = above y x m l a.1 (sym (f y)) in
    let e : x ≡ y = omega arith in
    let b' : AscL (suc x) m = rw e b.1 in
    rw e (ap (λ (t : List ℕ). y ∷ t) (same_members (suc x) l m a.1 b' (tails e b')))
  where
    tails : x ≡ y → AscL (suc x) m → (z : ℕ) → has z l ≡ has z m
    tails e b' z = go (ℕ_discrete z x)
      where
        go : Dec (z ≡ x) → has z l ≡ has z m
        go (yes h) = let k : z < suc x = omega arith in has_low z (suc x) l k a.1 ∙ sym (has_low z (suc x) m k b')
        go (no h) = sym (there z x l h) ∙ f z ∙ there z y m (λ q. h (q ∙ sym e))

-- ---- a key goes in, another one out
pub cut_add : (j k : ℕ) (C : List ℕ) → j ≢ k → AscL 0 C → cut j (add k C) ≡ add k (cut j C)
cut_add j k C h a =
    same_members 0 (cut j (add k C)) (add k (cut j C)) (asc_l_cut 0 j (add k C) (asc_l_add 0 k C zero-le a)) (asc_l_add 0 k (cut j C) zero-le (asc_l_cut 0 j C a)) (λ x. go x (ℕ_discrete x j) (ℕ_discrete x k))
  where
    go : (x : ℕ) → Dec (x ≡ j) → Dec (x ≡ k) → has x (cut j (add k C)) ≡ has x (add k (cut j C))
    go x (yes e) d = rw e (has_cut_same j (add k C) ∙ sym (has_add_other j k (cut j C) h ∙ has_cut_same j C))
    go x (no n) (yes e) = has_cut_other x j (add k C) n ∙ rw e (has_add_same k C ∙ sym (has_add_same k (cut j C)))
    go x (no n) (no m) = has_cut_other x j (add k C) n ∙ has_add_other x k C m ∙ sym (has_add_other x k (cut j C) m ∙ has_cut_other x j C n)

pub add_grows : (k : ℕ) (C : List ℕ) → AscL 0 C → length C ≤ length (add k C)
add_grows k C a = ⊎_elim (λ w. le_of_eq (ap length (sym w.put))) (λ w. omega (arith, absent_length k C w)) (look 0 k C a)
