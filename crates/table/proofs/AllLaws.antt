-- What holds of every entry of a list. Assumes nothing.
use Prim.Native.Nat.{ℕ, zero, suc, ◌≤◌, ◌<◌}
use native.Mathlib.Nat.{le_of_suc-le-suc, not-suc-le-zero}
use native.Mathlib.Omega.{arith}
use mathlib.Core.Path.{sym, subst}
use mathlib.Core.Logic.{⊎_elim}
use mathlib.Core.List.{List, [], ◌∷◌}
use lib.Dec.{T}
use lib.ListN.{length, take, drop, get_or}
use Rattle.model.specs.Maps.{AscL, has}
use Rattle.model.proofs.MapLaws.{has_cases, has_first, has_later}
use Rattle.table.specs.Tables.{All}

pub all_at : (P : ℕ → Type 0) (l : List ℕ) (i : ℕ) → All P l → i < length l → P (get_or l i 0)
all_at P [] i a h = absurd (not-suc-le-zero h)
all_at P (x ∷ l) zero a h = a.0
all_at P (x ∷ l) (suc i) a h = all_at P l i a.1 (le_of_suc-le-suc h)

pub all_from : (P : ℕ → Type 0) (l : List ℕ) → ((i : ℕ) → P (get_or l i 0)) → All P l
all_from P [] f = tt
all_from P (x ∷ l) f = (f 0, all_from P l (λ i. f (suc i)))

pub all_map : {P Q : ℕ → Type 0} (l : List ℕ) → ((x : ℕ) → P x → Q x) → All P l → All Q l
all_map [] f a = tt
all_map (x ∷ l) f a = (f x a.0, all_map l f a.1)

-- ---- members
pub has_all : (P : ℕ → Type 0) (l : List ℕ) (x : ℕ) → All P l → T (has x l) → P x
unfolding has
has_all P [] x a t = absurd t
has_all P (y ∷ l) x a t =
    ⊎_elim (λ e. subst P (sym e) a.0) (λ u. has_all P l x a.1 u) (has_cases x y l t)

pub all_has : (P : ℕ → Type 0) (l : List ℕ) → ((x : ℕ) → T (has x l) → P x) → All P l
all_has P [] f = tt
all_has P (y ∷ l) f = (f y (has_first y l), all_has P l (λ x t. f x (has_later x y l t)))

-- ---- ascending lists
pub asc_l_down : (lo lo' : ℕ) (l : List ℕ) → lo ≤ lo' → AscL lo' l → AscL lo l
asc_l_down lo lo' [] h a = tt
asc_l_down lo lo' (x ∷ l) h a = (omega arith, a.1)

pub asc_l_drop : (lo n : ℕ) (l : List ℕ) → AscL lo l → AscL lo (drop n l)
asc_l_drop lo zero l a = a
asc_l_drop lo (suc n) [] a = tt
asc_l_drop lo (suc n) (x ∷ l) a = asc_l_down lo (suc x) (drop n l) (omega arith) (asc_l_drop (suc x) n l a.1)

pub asc_l_take : (lo n : ℕ) (l : List ℕ) → AscL lo l → AscL lo (take n l)
asc_l_take lo zero l a = tt
asc_l_take lo (suc n) [] a = tt
asc_l_take lo (suc n) (x ∷ l) a = (a.0, asc_l_take (suc x) n l a.1)

pub asc_l_all : (lo : ℕ) (l : List ℕ) → AscL lo l → All (λ x. lo ≤ x) l
asc_l_all lo [] a = tt
asc_l_all lo (x ∷ l) a = (a.0, all_map l (λ y h. omega arith) (asc_l_all (suc x) l a.1))

-- a later place, a greater key
pub asc_l_less : (lo : ℕ) (l : List ℕ) (i j : ℕ) → AscL lo l → i < j → j < length l → get_or l i 0 < get_or l j 0
asc_l_less lo [] i j a h k = absurd (not-suc-le-zero k)
asc_l_less lo (x ∷ l) i zero a h k = absurd (not-suc-le-zero h)
asc_l_less lo (x ∷ l) zero (suc j) a h k = all_at (λ y. suc x ≤ y) l j (asc_l_all (suc x) l a.1) (le_of_suc-le-suc k)
asc_l_less lo (x ∷ l) (suc i) (suc j) a h k = asc_l_less (suc x) l i j a.1 (le_of_suc-le-suc h) (le_of_suc-le-suc k)
