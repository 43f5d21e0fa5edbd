-- A word for each of ascending keys: read, and set by a mark. Assumes nothing.
use Rattle.std.proofs.Common.{◌≡◌, ℕ, zero, suc, ◌<◌, ◌≤◌, Bool, true, false, cond, ◌&&◌, ◌||◌, eqb, ltb, ◌≢◌, List, [], ◌∷◌, length, get_or, set, sym, refl, ap, ◌∙◌, ⊎_elim, le_of_suc-le-suc, not-suc-le-zero, arith, le-ltb, lt-ltb, eq-eqb, ne_eqb, eqb-true}
use borrow.Author.Tests.{eqb-false}
use Rattle.ieee.proofs.Tools.{lt_or_ge, not_both}
use Rattle.model.specs.Layer.{Mark}
use Rattle.model.specs.Maps.{AscL, has}
use Rattle.table.specs.Tables.{All, rank, stands}
use Rattle.table.proofs.AllLaws.{all_map, asc_l_all}
use Rattle.table.proofs.LookLaws.{stands_has, stands_inside}
use Rattle.marks.specs.Standing.{Standing, marked, stood, word, words}

pub words_length : (f : ℕ → Standing) (K : List ℕ) → length (words f K) ≡ length K
unfolding words
words_length f [] = refl
words_length f (k ∷ l) = ap suc (words_length f l)

pub words_at : (f : ℕ → Standing) (K : List ℕ) (i : ℕ) → i < length K → get_or (words f K) i 0 ≡ word (f (get_or K i 0))
unfolding words
words_at f [] i h = absurd (not-suc-le-zero h)
words_at f (k ∷ l) zero h = refl
words_at f (k ∷ l) (suc i) h = words_at f l i (le_of_suc-le-suc h)

and_right : (a b : Bool) → a && b ≡ true → b ≡ true
and_right true b h = h
and_right false b h = not_both h refl

pub words_same : (f g : ℕ → Standing) (K : List ℕ) → ((x : ℕ) → f x ≡ g x) → words f K ≡ words g K
words_same f g K h = ap (λ (e : ℕ → Standing). words e K) (λ i x. h x i)

words_alike : (f g : ℕ → Standing) (K : List ℕ) → All (λ x. f x ≡ g x) K → words f K ≡ words g K
unfolding words
words_alike f g [] a = refl
words_alike f g (k ∷ l) a = rw (a.0, words_alike f g l a.1) refl

lacks : (k : ℕ) (K : List ℕ) → has k K ≡ false → All (λ x. x ≢ k) K
unfolding has
lacks k [] e = tt
lacks k (x ∷ l) e = go (eqb k x) refl e (lacks k l)
  where
    go : (b : Bool) → eqb k x ≡ b → b || has k l ≡ false → (has k l ≡ false → All (λ y. y ≢ k) l) → (x ≢ k) × All (λ y. y ≢ k) l
    go true p q ih = not_both refl q
    go false p q ih = (λ z. eqb-false k x p (sym z), ih q)

lacking : (k : ℕ) (K : List ℕ) → All (λ x. x ≢ k) K → has k K ≡ false
unfolding has
lacking k [] a = refl
lacking k (x ∷ l) a = rw (ne_eqb k x (λ z. a.0 (sym z))) (lacking k l a.1)

-- ---- f and g differ at k alone
module _ (f g : ℕ → Standing) (k : ℕ) (but : (x : ℕ) → x ≢ k → f x ≡ g x) where
  -- .. which is no key
  words_none : (K : List ℕ) → has k K ≡ false → words f K ≡ words g K
  words_none K e = words_alike f g K (all_map K but (lacks k K e))

  -- .. whose word is set
  words_put : (lo : ℕ) (K : List ℕ) → AscL lo K → has k K ≡ true → set (words f K) (rank k K) (word (g k)) ≡ words g K
  unfolding words rank has
  words_put lo [] a e = not_both e refl
  words_put lo (x ∷ l) a e = ⊎_elim (further (words_put (suc x) l a.1)) here (lt_or_ge x k)
    where
      further : (has k l ≡ true → set (words f l) (rank k l) (word (g k)) ≡ words g l) → x < k
          → set (word (f x) ∷ words f l) (cond (ltb x k) (suc (rank k l)) 0) (word (g k)) ≡ word (g x) ∷ words g l
      further ih h =
          let n : has k l ≡ true = rw (ne_eqb k x (λ z. omega arith)) at e in
          rw (lt-ltb x k h, but x (λ z. omega arith), ih n) refl

      here : k ≤ x → set (word (f x) ∷ words f l) (cond (ltb x k) (suc (rank k l)) 0) (word (g k)) ≡ word (g x) ∷ words g l
      here h =
          let up : All (λ y. y ≢ k) l = all_map l (λ y b. λ z. omega arith) (asc_l_all (suc x) l a.1) in
          let rest : words f l ≡ words g l = words_alike f g l (all_map l but up) in
          ⊎_elim
          (λ b. let n : has k l ≡ true = rw (ne_eqb k x (λ z. omega arith)) at e in not_both n (lacking k l up))
          (λ b. let z : x ≡ k = omega arith in rw (le-ltb x k h, rest, z) refl)
          (lt_or_ge k x)

-- ---- the key at a place
pub stands_read : (f : ℕ → Standing) (k at : ℕ) (K : List ℕ) → stands k at K ≡ true → get_or (words f K) at 0 ≡ word (f k)
stands_read f k at K h =
    let e : k ≡ get_or K at 0 = eqb-true k (get_or K at 0) (and_right (ltb at (length K)) (eqb k (get_or K at 0)) h) in
    words_at f K at (stands_inside k at K h) ∙ ap (λ (x : ℕ). word (f x)) (sym e)

-- ---- a mark
module _ (n : ℕ) (m : Mark) (f : ℕ → Standing) where
  stood_same : stood n m m.at (f m.at) ≡ marked n m (f m.at)
  unfolding stood
  stood_same = rw (eq-eqb m.at m.at refl) refl

  stood_other : (x : ℕ) → x ≢ m.at → f x ≡ stood n m x (f x)
  unfolding stood
  stood_other x h = rw (ne_eqb x m.at h) refl

  module _ (K moods : List ℕ) (at : ℕ) (a : AscL 0 K) (p : at ≡ rank m.at K) (e : moods ≡ words f K) where
    pub marked_none : stands m.at at K ≡ false → moods ≡ words (λ x. stood n m x (f x)) K
    marked_none h = e ∙ words_none f (λ x. stood n m x (f x)) m.at stood_other K (sym (stands_has m.at at K a p) ∙ h)

    pub marked_word : stands m.at at K ≡ true → (v : ℕ) → v ≡ word (marked n m (f m.at)) → set moods at v ≡ words (λ x. stood n m x (f x)) K
    marked_word h v w =
        ap (λ (l : List ℕ). set l at v) e
        ∙ ap (λ (i : ℕ). set (words f K) i v) p
        ∙ ap (set (words f K) (rank m.at K)) (w ∙ ap word (sym stood_same))
        ∙ words_put f (λ x. stood n m x (f x)) m.at stood_other 0 K a (sym (stands_has m.at at K a p) ∙ h)
