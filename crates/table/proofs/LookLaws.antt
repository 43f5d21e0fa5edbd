-- A key looked for in an ascending list: it is there or not, and what the list is with the key put in and taken out at its place. Assumes nothing.
use Prim.Native.Nat.{ℕ, suc, ◌+◌, ◌-◌, ◌≤◌, ◌<◌}
use native.Mathlib.Omega.{arith}
use mathlib.Core.Path.{◌≡◌, refl, sym, ap, ◌∙◌, subst}
use mathlib.Core.Logic.{◌⊎◌, inl, inr, ⊎_elim}
use mathlib.Core.Bool.{Bool, true, false, ◌&&◌}
use mathlib.Core.List.{List, [], ◌∷◌, ◌++◌}
use lib.Dec.{eqb, ltb, leb-suc-suc}
use mir.Val.{bool_byte}
use lib.ListN.{length, take, drop, get_or, length-append, length-drop}
use lib.Seq.{length-take-le}
use borrow.Author.Tests.{lt-ltb, le-ltb, eq-eqb, ne_eqb, ltb-true}
use Rattle.ieee.proofs.Tools.{lt_or_ge, not_both}
use Rattle.model.specs.Maps.{AscL, has, add, cut}
use Rattle.table.specs.Tables.{rank, stands}
use Rattle.table.proofs.RankLaws.{rank_below, rank_le}

-- k is a key of l
pub record There (k : ℕ) (l : List ℕ) : Type 0 where
  pub stood : stands k (rank k l) l ≡ true
  pub held : has k l ≡ true
  pub put : add k l ≡ l
  pub took : cut k l ≡ take (rank k l) l ++ drop (suc (rank k l)) l

-- k is none
pub record Absent (k : ℕ) (l : List ℕ) : Type 0 where
  pub stood : stands k (rank k l) l ≡ false
  pub held : has k l ≡ false
  pub put : add k l ≡ take (rank k l) l ++ k ∷ drop (rank k l) l
  pub took : cut k l ≡ l

-- all keys are above k
low : (k lo : ℕ) (l : List ℕ) → k < lo → AscL lo l → (has k l ≡ false) × (cut k l ≡ l)
unfolding has cut
low k lo [] h a = (refl, refl)
low k lo (x ∷ l) h a =
    let ih = low k (suc x) l (omega arith) a.1 in
    rw (ne_eqb k x (λ e. omega arith)) (ih.0, ap (λ (m : List ℕ). x ∷ m) ih.1)

pub look : (lo k : ℕ) (l : List ℕ) → AscL lo l → There k l ⊎ Absent k l
unfolding rank has add cut
look lo k [] a = inr (record { stood = refl; held = refl; put = refl; took = refl })
look lo k (x ∷ l) a = ⊎_elim (further (look (suc x) k l a.1)) here (lt_or_ge x k)
  where
    further : There k l ⊎ Absent k l → x < k → There k (x ∷ l) ⊎ Absent k (x ∷ l)
    further w h =
        let ne : eqb k x ≡ false = ne_eqb k x (λ e. omega arith) in
        let nl : ltb k x ≡ false = le-ltb k x (omega arith) in
        let s = leb-suc-suc (suc (rank k l)) (length l) in
        let cons : List ℕ → List ℕ = λ m. x ∷ m in
        ⊎_elim
        (λ t. inl (record { stood = rw (lt-ltb x k h, s) t.stood; held = rw ne t.held; put = rw (ne, nl) (ap cons t.put); took = rw (ne, lt-ltb x k h) (ap cons t.took) }))
        (λ t. inr (record { stood = rw (lt-ltb x k h, s) t.stood; held = rw ne t.held; put = rw (ne, nl, lt-ltb x k h) (ap cons t.put); took = rw ne (ap cons t.took) }))
        w

    here : k ≤ x → There k (x ∷ l) ⊎ Absent k (x ∷ l)
    here h =
        let first : ltb x k ≡ false = le-ltb x k h in
        let z : ltb 0 (suc (length l)) ≡ true = lt-ltb 0 (suc (length l)) (omega arith) in
        let none = low k (suc x) l (omega arith) a.1 in
        ⊎_elim
        (λ b. let ne : eqb k x ≡ false = ne_eqb k x (λ e. omega arith) in inr (record { stood = rw (first, z) ne; held = rw ne none.0; put = rw (ne, lt-ltb k x b, first); took = rw ne (ap (λ (m : List ℕ). x ∷ m) none.1) }))
        (λ b. let e : eqb k x ≡ true = eq-eqb k x (omega arith) in inl (record { stood = rw (first, z) e; held = rw e; put = rw e; took = rw (e, first) none.1 }))
        (lt_or_ge k x)

-- a place up to n, and the test whether it is n, as a number
pub byte_behind : (at n : ℕ) → at ≤ n → ((at < n) × (bool_byte (eqb at n) ≡ 0)) ⊎ ((at ≡ n) × (bool_byte (eqb at n) ≡ 1))
byte_behind at n h =
    ⊎_elim
    (λ b. inl (b, ap bool_byte (ne_eqb at n (λ e. omega arith))))
    (λ b. let e : at ≡ n = omega arith in inr (e, ap bool_byte (eq-eqb at n e)))
    (lt_or_ge at n)

-- ---- what is seen at the key's place
module _ (k at : ℕ) (l : List ℕ) (a : AscL 0 l) (e : at ≡ rank k l) where
  pub stands_has : stands k at l ≡ has k l
  stands_has = rw e (⊎_elim (λ w. w.stood ∙ sym w.held) (λ w. w.stood ∙ sym w.held) (look 0 k l a))

  -- looked for at its place, or at the last key where the place is behind it
  pub seen_has : 0 < length l → eqb k (get_or l (at - bool_byte (eqb at (length l))) 0) ≡ has k l
  seen_has h = ⊎_elim inside behind (byte_behind at (length l) (rw e (rank_le k l)))
    where
      seen : ℕ → Type 0
      seen i = eqb k (get_or l i 0) ≡ has k l

      inside : (at < length l) × (bool_byte (eqb at (length l)) ≡ 0) → seen (at - bool_byte (eqb at (length l)))
      inside w =
          let i : at ≡ at - bool_byte (eqb at (length l)) = omega arith in
          subst seen i (rw (lt-ltb at (length l) w.0) at stands_has)

      behind : (at ≡ length l) × (bool_byte (eqb at (length l)) ≡ 1) → seen (at - bool_byte (eqb at (length l)))
      behind w =
          let i : length l - 1 ≡ at - bool_byte (eqb at (length l)) = omega arith in
          let last : get_or l (length l - 1) 0 < k = ⊎_elim (λ b. b) (λ b. absurd (omega (arith, rank_below k l (length l - 1) (omega arith) b))) (lt_or_ge (get_or l (length l - 1) 0) k) in
          let none : has k l ≡ false = sym (rw (le-ltb at (length l) (omega arith)) at stands_has) in
          subst seen i (ne_eqb k (get_or l (length l - 1) 0) (λ b. omega arith) ∙ sym none)

  pub there : stands k at l ≡ true → There k l
  there h = ⊎_elim (λ w. w) (λ w. not_both h (rw e w.stood)) (look 0 k l a)

  pub absent : stands k at l ≡ false → Absent k l
  absent h = ⊎_elim (λ w. not_both (rw e w.stood) h) (λ w. w) (look 0 k l a)

pub has_there : (k : ℕ) (l : List ℕ) → AscL 0 l → has k l ≡ true → There k l
has_there k l a h = there k (rank k l) l a refl (stands_has k (rank k l) l a refl ∙ h)

pub has_absent : (k : ℕ) (l : List ℕ) → AscL 0 l → has k l ≡ false → Absent k l
has_absent k l a h = absent k (rank k l) l a refl (stands_has k (rank k l) l a refl ∙ h)

and_left : (b c : Bool) → b && c ≡ true → b ≡ true
and_left true c h = refl
and_left false c h = h

pub stands_inside : (k at : ℕ) (l : List ℕ) → stands k at l ≡ true → at < length l
stands_inside k at l h = ltb-true at (length l) (and_left (ltb at (length l)) (eqb k (get_or l at 0)) h)

pub has_none : (k : ℕ) (l : List ℕ) → length l ≡ 0 → false ≡ has k l
unfolding has
has_none k [] e = refl
has_none k (x ∷ l) e = absurd (omega arith)

-- ---- how many keys there are afterwards
pub there_length : (k : ℕ) (l : List ℕ) → There k l → length (cut k l) + 1 ≡ length l
there_length k l w =
    let h : rank k l < length l = stands_inside k (rank k l) l w.stood in
    let e : length (cut k l) ≡ length (take (rank k l) l ++ drop (suc (rank k l)) l) = ap length w.took in
    let e' : length (cut k l) ≡ length (take (rank k l) l) + (length l - suc (rank k l)) = simp (length-append, length-drop) at e in
    omega (arith, length-take-le (rank k l) l (rank_le k l))

pub absent_length : (k : ℕ) (l : List ℕ) → Absent k l → length (add k l) ≡ length l + 1
absent_length k l w = ap length w.put ∙ simp (length-append, length-drop) (omega (arith, length-take-le (rank k l) l (rank_le k l), rank_le k l))
