-- Lists that name nothing twice, and their lengths. Assumes nothing.
use Prim.Native.Nat.{ℕ, suc, ◌+◌, ◌≤◌, ◌<◌, zero-le}
use native.Mathlib.Omega.{arith}
use mathlib.Core.Path.{◌≡◌, refl, ap, subst}
use mathlib.Core.Logic.{◌⊎◌, ⊎_elim}
use mathlib.Core.Bool.{Bool, true, false, cond, ◌||◌}
use mathlib.Core.List.{List, [], ◌∷◌, ◌++◌}
use lib.Dec.{T, eqb, eqb_refl}
use lib.ListN.{length, length-append}
use Rattle.ieee.proofs.Tools.{lt_or_ge}
use Rattle.model.specs.Maps.{get, keys, is_some, has, cut, Asc, AscL}
use Rattle.model.proofs.MapLaws.{or_left, or_right, has_cut_other, has_append, keys_has, units, keys_units}
use Rattle.model.proofs.OrderLaws.{asc_get, asc_units}

abbrev pub Single : List ℕ → Type 0
Single [] = Unit {0}
Single (x ∷ l) = (T (has x l) → ⊥) × Single l

-- what lies below an ascending map is none of its keys
pub asc_miss : {A : Type 0} (lo k : ℕ) (m : List (ℕ × A)) → Asc lo m → k < lo → T (has k (keys m)) → ⊥
asc_miss lo k m a h t = let u : T (is_some (get k m)) = rw (← keys_has k m) t in let v : T false = rw (asc_get lo m k a h) at u in v

pub asc_above : {A : Type 0} (lo k : ℕ) (m : List (ℕ × A)) → Asc lo m → T (has k (keys m)) → lo ≤ k
asc_above lo k m a u = ⊎_elim (λ h. absurd (asc_miss lo k m a h u)) (λ h. h) (lt_or_ge k lo)

-- The keys of an ascending map stand once each.
pub asc_single : {A : Type 0} (lo : ℕ) (m : List (ℕ × A)) → Asc lo m → Single (keys m)
unfolding keys
asc_single lo [] a = tt
asc_single lo (e ∷ m) a = (asc_miss (suc e.0) e.0 m a.1 (omega arith), asc_single (suc e.0) m a.1)

pub asc_l_single : (lo : ℕ) (l : List ℕ) → AscL lo l → Single l
asc_l_single lo l a = subst Single (keys_units l) (asc_single lo (units l) (asc_units lo l a))

pub length_keys : {A : Type 0} (m : List (ℕ × A)) → length (keys m) ≡ length m
unfolding keys
length_keys [] = refl
length_keys (e ∷ m) = ap suc (length_keys m)

-- ---- what is cut is one less
cut_le : (k : ℕ) (l : List ℕ) → length (cut k l) ≤ length l
unfolding cut
cut_le k [] = zero-le
cut_le k (x ∷ l) = go (eqb k x) (cut_le k l)
  where
    go : (s : Bool) → length (cut k l) ≤ length l → length (cond s (cut k l) (x ∷ cut k l)) ≤ suc (length l)
    go true h = omega arith
    go false h = omega arith

cut_lt : (k : ℕ) (l : List ℕ) → T (has k l) → length (cut k l) < length l
unfolding cut has
cut_lt k [] t = absurd t
cut_lt k (x ∷ l) t = go (eqb k x) t (cut_le k l) (cut_lt k l)
  where
    go : (s : Bool) → T (s || has k l) → length (cut k l) ≤ length l → (T (has k l) → length (cut k l) < length l) → length (cond s (cut k l) (x ∷ cut k l)) < suc (length l)
    go true u h f = omega arith
    go false u h f = let y = f u in omega arith

-- A list that names nothing twice is no longer than one that has all its members.
pub single_length : (a b : List ℕ) → Single a → ((x : ℕ) → T (has x a) → T (has x b)) → length a ≤ length b
unfolding has
single_length [] b s f = zero-le
single_length (x ∷ a) b s f =
    let h : length a ≤ length (cut x b) = single_length a (cut x b) s.1 inner in
    let g : length (cut x b) < length b = cut_lt x b (f x (or_left (eqb x x) (has x a) (eqb_refl x))) in
    omega arith
  where
    inner : (y : ℕ) → T (has y a) → T (has y (cut x b))
    inner y t = rw (has_cut_other y x b (λ e. s.0 (rw e at t))) (f y (or_right (eqb y x) (has y a) t))

-- One whose members are all of two lists is no longer than both together.
pub single_two : (a b c : List ℕ) → Single a → ((x : ℕ) → T (has x a) → T (has x b) ⊎ T (has x c)) → length a ≤ length b + length c
single_two a b c s f =
    rw (← length-append b c) (single_length a (b ++ c) s (λ x t. rw (has_append x b c) (⊎_elim (or_left (has x b) (has x c)) (or_right (has x b) (has x c)) (f x t))))
