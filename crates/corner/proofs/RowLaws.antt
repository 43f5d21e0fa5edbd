-- Five keys in a row looked for in an ascending table: the place of the next key follows from the place of the one before. Assumes nothing.
use Prim.Native.Nat.{ℕ, suc, ◌+◌, ◌*◌, ◌^◌, ◌≤◌, ◌<◌}
use native.Mathlib.Nat.{pow-suc, zero-add}
use native.Mathlib.Numerals.{add-one}
use native.Mathlib.Omega.{arith}
use mathlib.Core.Path.{◌≡◌, refl, sym, ap, ◌∙◌}
use mathlib.Core.Logic.{⊎_elim}
use mathlib.Core.Bool.{Bool, true, false, cond}
use mathlib.Core.List.{List, [], ◌∷◌}
use lib.ListN.{length}
use borrow.Author.Tests.{lt-ltb, le-ltb, eq-eqb, ne_eqb}
use Rattle.ieee.proofs.Tools.{lt_or_ge}
use Rattle.model.specs.Maps.{AscL, has}
use Rattle.table.specs.Tables.{rank, stands}
use Rattle.table.proofs.LookLaws.{stands_has, stands_inside}
use Rattle.table.specs.Search.{Placed}
use Rattle.corner.specs.Window.{on}
use Rattle.corner.proofs.WordLaws.{on_beyond, on_low, on_top}

-- all keys are above k
pub has_above : (k lo : ℕ) (l : List ℕ) → k < lo → AscL lo l → has k l ≡ false
unfolding has
has_above k lo [] h a = refl
has_above k lo (x ∷ l) h a = rw (ne_eqb k x (λ e. omega arith)) (has_above k (suc x) l (omega arith) a.1)

rank_none : (k lo : ℕ) (l : List ℕ) → k ≤ lo → AscL lo l → rank k l ≡ 0
unfolding rank
rank_none k lo [] h a = refl
rank_none k lo (x ∷ l) h a = rw (le-ltb x k (omega arith))

-- the place of the next key
pub rank_next : (lo k : ℕ) (l : List ℕ) → AscL lo l → rank (suc k) l ≡ cond (has k l) (suc (rank k l)) (rank k l)
unfolding rank has
rank_next lo k [] a = refl
rank_next lo k (x ∷ l) a = ⊎_elim (less (rank_next (suc x) k l a.1)) more (lt_or_ge x k)
  where
    past : (b : Bool) → ◌≡◌ {A = ℕ} (suc (cond b (suc (rank k l)) (rank k l))) (cond b (suc (suc (rank k l))) (suc (rank k l)))
    past true = refl
    past false = refl

    less : rank (suc k) l ≡ cond (has k l) (suc (rank k l)) (rank k l) → x < k → rank (suc k) (x ∷ l) ≡ cond (has k (x ∷ l)) (suc (rank k (x ∷ l))) (rank k (x ∷ l))
    less ih h = rw (lt-ltb x k h, lt-ltb x (suc k) (omega arith), ne_eqb k x (λ e. omega arith)) (ap suc ih ∙ past (has k l))

    more : k ≤ x → rank (suc k) (x ∷ l) ≡ cond (has k (x ∷ l)) (suc (rank k (x ∷ l))) (rank k (x ∷ l))
    more h =
        ⊎_elim
        (λ b. rw (le-ltb x k h, le-ltb x (suc k) b, ne_eqb k x (λ e. omega arith), has_above k (suc x) l (omega arith) a.1))
        (λ b. rw (le-ltb x k h, lt-ltb x (suc k) (omega arith), eq-eqb k x (omega arith)) (ap suc (rank_none (suc k) (suc x) l (omega arith) a.1)))
        (lt_or_ge k x)

-- ---- after j of the five
pub record Row (t : List ℕ) (base at bits j : ℕ) : Type 0 where
  pub few : j ≤ 5
  pub inside : at ≤ length t
  pub small : bits < 2 ^ j
  pub place : AscL 0 t → at ≡ rank (base + j) t
  pub seen : AscL 0 t → (i : ℕ) → i < j → on bits i ≡ has (base + i) t

pub row_none : (t : List ℕ) (base at : ℕ) → Placed t base at → Row t base at 0 0
row_none t base at p = record {
  few = omega arith;
  inside = p.inside;
  small = omega arith;
  place = λ a. let e : base + 0 ≡ base = omega arith in rw e (p.place a);
  seen = λ a i b. absurd (omega arith);
}

module _ (t : List ℕ) (base at bits j : ℕ) (more : j < 5) (r : Row t base at bits j) where
  next_power : 2 ^ (j + 1) ≡ 2 ^ j * 2
  next_power = rw (add-one j) (pow-suc 2 j)

  next_place : AscL 0 t → rank (base + (j + 1)) t ≡ cond (stands (base + j) at t) (at + 1) at
  next_place a =
      let e : base + (j + 1) ≡ suc (base + j) = omega arith in
      rw (e, rank_next 0 (base + j) t a, ← r.place a, ← stands_has (base + j) at t a (r.place a), add-one at)

  -- a bit was read below j, or at j
  next_seen : (bits' : ℕ) → ((i : ℕ) → i < j → on bits' i ≡ on bits i) → AscL 0 t → on bits' j ≡ has (base + j) t → (i : ℕ) → i < j + 1 → on bits' i ≡ has (base + i) t
  next_seen bits' same a last i h =
      ⊎_elim
      (λ b. same i b ∙ r.seen a i b)
      (λ b. let e : i ≡ j = omega arith in rw e last)
      (lt_or_ge i j)

  pub row_hit : (bit : ℕ) → bit ≡ 2 ^ j → stands (base + j) at t ≡ true → Row t base (at + 1) (bits + bit) (j + 1)
  unfolding on
  row_hit bit p s =
      let e : bits + bit ≡ bits + 1 * 2 ^ j = omega arith in
      record {
        few = omega arith;
        inside = omega (arith, stands_inside (base + j) at t s);
        small = rw next_power (omega (arith, r.small));
        place = λ a. sym (next_place a ∙ rw s);
        seen = λ a. next_seen (bits + bit) (λ i h. rw e (on_low j bits 1 i h)) a (rw e (on_top j bits 1 r.small) ∙ sym s ∙ stands_has (base + j) at t a (r.place a));
      }

  pub row_miss : stands (base + j) at t ≡ false → Row t base at bits (j + 1)
  row_miss s = record {
    few = omega arith;
    inside = r.inside;
    small = rw next_power (omega (arith, r.small));
    place = λ a. sym (next_place a ∙ rw s);
    seen = λ a. next_seen bits (λ i h. refl) a (ap (on bits) (sym (zero-add j)) ∙ on_beyond j bits 0 r.small ∙ sym s ∙ stands_has (base + j) at t a (r.place a));
  }
