-- The verdict is the first number of the order that is due. Assumes nothing.
use Prim.Native.Nat.{ℕ, zero, suc}
use mathlib.Core.Path.{◌≡◌, refl, sym, ap, ◌∙◌, subst}
use mathlib.Core.Logic.{◌≢◌, ◌⊎◌, ⊎_elim, inl, inr}
use mathlib.Core.Bool.{Bool, true, false, cond, ◌||◌, true≢false}
use mathlib.Core.List.{List, [], ◌∷◌, ◌++◌}
use lib.Dec.{T, eqb, eqb→eq}
use borrow.Author.Tests.{eq-eqb, eqb-false}
use Rattle.ieee.proofs.Tools.{or_cases}
use Rattle.model.specs.Refusal.{Dues, order, is_due, first_due, verdict}

pub or_parts : (a b : Bool) → a || b ≡ false → (a ≡ false) × (b ≡ false)
or_parts true b e = absurd (true≢false e)
or_parts false b e = (refl, e)

-- the number n is one of them
abbrev pub among : ℕ → List ℕ → Bool
among n [] = false
among n (m ∷ ns) = eqb n m || among n ns

-- none of the numbers is due
abbrev pub NoneDue : List ℕ → Dues → Type 0
NoneDue [] d = Unit {0}
NoneDue (n ∷ ns) d = (is_due n d ≡ false) × NoneDue ns d

-- r is due, and none of those before it is
pub record First (ns : List ℕ) (d : Dues) (r : ℕ) : Type 0 where
  pub before : List ℕ
  pub after : List ℕ
  pub splits : ns ≡ before ++ (r ∷ after)
  pub none : NoneDue before d
  pub due : is_due r d ≡ true

abbrev Found : List ℕ → Dues → ℕ → Type 0
Found ns d r = ((r ≡ 0) × NoneDue ns d) ⊎ First ns d r

further : (n : ℕ) (ns : List ℕ) (d : Dues) (r : ℕ) → is_due n d ≡ false → Found ns d r → Found (n ∷ ns) d r
further n ns d r e (inl w) = inl (w.0, (e, w.1))
further n ns d r e (inr w) = inr (record { before = n ∷ w.before; after = w.after; splits = ap (λ (l : List ℕ). n ∷ l) w.splits; none = (e, w.none); due = w.due })

first_due_lem : (ns : List ℕ) (d : Dues) → Found ns d (first_due ns d)
unfolding first_due
first_due_lem [] d = inl (refl, tt)
first_due_lem (n ∷ ns) d = go (is_due n d) refl (first_due_lem ns d)
  where
    go : (b : Bool) → is_due n d ≡ b → Found ns d (first_due ns d) → Found (n ∷ ns) d (cond b n (first_due ns d))
    go true e ih = inr (record { before = []; after = ns; splits = refl; none = tt; due = e })
    go false e ih = further n ns d (first_due ns d) e ih

-- The theorem: the verdict is 0, and none of the order is due; or it is a number of the order that is due, and none before it is.
pub verdict_first : (d : Dues) → ((verdict d ≡ 0) × NoneDue order d) ⊎ First order d (verdict d)
unfolding verdict
verdict_first d = first_due_lem order d

-- so a number that the order does not have is no verdict
among_split : (before after : List ℕ) (r : ℕ) → T (among r (before ++ (r ∷ after)))
among_split [] after r = rw (eq-eqb r r refl) tt
among_split (n ∷ before) after r = go (eqb r n) (among_split before after r)
  where
    go : (b : Bool) → T (among r (before ++ (r ∷ after))) → T (b || among r (before ++ (r ∷ after)))
    go true t = tt
    go false t = t

pub verdict_listed : (d : Dues) → verdict d ≢ 0 → T (among (verdict d) order)
verdict_listed d some = ⊎_elim (λ w. absurd (some w.0)) (λ w. subst (λ (l : List ℕ). T (among (verdict d) l)) (sym w.splits) (among_split w.before w.after (verdict d))) (verdict_first d)

-- ---- what is answered with 0 has passed every check, each by its number
none_at : (ns : List ℕ) (d : Dues) → NoneDue ns d → (n : ℕ) → T (among n ns) → is_due n d ≡ false
none_at [] d h n t = absurd t
none_at (m ∷ ns) d h n t = ⊎_elim (λ u. ap (λ (k : ℕ). is_due k d) (eqb→eq n m u) ∙ h.0) (none_at ns d h.1 n) (or_cases (eqb n m) (among n ns) t)

zero_none : (ns : List ℕ) (d : Dues) → among 0 ns ≡ false → first_due ns d ≡ 0 → NoneDue ns d
unfolding first_due
zero_none [] d z e = tt
zero_none (n ∷ ns) d z e = go (is_due n d) refl e (zero_none ns d p.1)
  where
    p : (eqb 0 n ≡ false) × (among 0 ns ≡ false)
    p = or_parts (eqb 0 n) (among 0 ns) z

    go : (b : Bool) → is_due n d ≡ b → cond b n (first_due ns d) ≡ 0 → (first_due ns d ≡ 0 → NoneDue ns d) → (is_due n d ≡ false) × NoneDue ns d
    go true q e ih = absurd (eqb-false 0 n p.0 (sym e))
    go false q e ih = (q, ih e)

pub passed : (d : Dues) → verdict d ≡ 0 → (n : ℕ) → T (among n order) → is_due n d ≡ false
unfolding verdict
passed d e = none_at order d (zero_none order d refl e)

-- where a number of the order is due, something is answered
pub refused : (d : Dues) (n : ℕ) → T (among n order) → is_due n d ≡ true → (k : ℕ) × (verdict d ≡ suc k)
refused d n t e = go (verdict d) refl
  where
    go : (v : ℕ) → verdict d ≡ v → (k : ℕ) × (verdict d ≡ suc k)
    go zero q = absurd (true≢false (sym e ∙ passed d q n t))
    go (suc k) q = (k, q)
