-- The table of pairs while it is filled. Assumes nothing.
use Prim.Native.Nat.{ℕ, ◌+◌, ◌*◌, ◌≤◌, ◌<◌}
use native.Mathlib.Decide.{ℕ_discrete}
use native.Mathlib.Omega.{arith}
use mathlib.Core.Path.{◌≡◌, refl, sym, ap, ◌∙◌, subst}
use mathlib.Core.Logic.{◌≢◌, ⊎_elim}
use mathlib.Core.List.{List}
use mathlib.Core.Option.{none}
use borrow.Author.Tests.{lt-ltb, le-ltb}
use lib.ListN.{length, get_or, set, length-set}
use lib.Seq.{get_or-set_same, get_or-set_other, drop-set-lt}
use Rattle.ieee.proofs.Tools.{lt_or_ge}
use Rattle.held.specs.Codes.{pair_code}
use Rattle.sight.specs.Paired.{Filled}
use Rattle.held.specs.Pairs.{Pairs, PairsBy, pair_places}
use Rattle.sight.specs.Rows.{fore_place, up_to}

apart : (i j a b : ℕ) → i < j → a < 64 → b < 64 → j < 64 → 64 * a + b ≢ 64 * j + i → 64 * a + b ≢ 64 * i + j → fore_place a b ≢ 64 * i + j
apart i j a b h x y l p o = ⊎_elim less more (lt_or_ge a b)
  where
    less : a < b → fore_place a b ≢ 64 * i + j
    less k = let e : fore_place a b ≡ 64 * a + b = omega arith in λ d. o (sym e ∙ d)

    more : b ≤ a → fore_place a b ≢ 64 * i + j
    more k =
        let e : fore_place a b ≡ 64 * b + a = omega arith in
        λ d.
        let f : 64 * b + a ≡ 64 * i + j = sym e ∙ d in
        let u : b ≡ i = omega arith in
        let w : a ≡ j = omega arith in
        p (rw (u, w) refl)

module _ (Q : PairsBy) where
  up_in : (n a b : ℕ) → fore_place a b < n → up_to n Q a b ≡ Q a b
  up_in n a b h = rw (lt-ltb (fore_place a b) n h) refl

  up_out : (n a b : ℕ) → n ≤ fore_place a b → up_to n Q a b ≡ none
  up_out n a b h = rw (le-ltb (fore_place a b) n h) refl

  -- places that have no pair are passed over
  pub pass_over : (t : List ℕ) (n n' : ℕ) → n ≤ n' → ((a b : ℕ) → a < 64 → b < 64 → n ≤ fore_place a b → fore_place a b < n' → Q a b ≡ none) → Pairs (up_to n Q) t → Pairs (up_to n' Q) t
  pass_over t n n' h f s a b x y =
      s a b x y ∙ ap pair_code (⊎_elim (λ l. up_in n a b l ∙ sym (up_in n' a b (omega arith))) (λ g. up_out n a b g ∙ ⊎_elim (λ l. sym (up_in n' a b l ∙ f a b x y g l)) (λ u. sym (up_out n' a b u)) (lt_or_ge (fore_place a b) n')) (lt_or_ge (fore_place a b) n))

  -- a pair is written from both ends
  pub both_ends_lem : (t : List ℕ) (i j v : ℕ) → i < j → j < 64 → 64 * j + i < length t → v ≡ pair_code (Q i j) → Q j i ≡ Q i j → Pairs (up_to (64 * i + j) Q) t
      → Pairs (up_to (64 * i + j + 1) Q) (set (set t (64 * i + j) v) (64 * j + i) v)
  both_ends_lem t i j v h l r e m s a b x y = go (ℕ_discrete (64 * a + b) (64 * j + i)) (ℕ_discrete (64 * a + b) (64 * i + j))
    where
      T : List ℕ
      T = set (set t (64 * i + j) v) (64 * j + i) v

      back : get_or T (64 * j + i) 0 ≡ pair_code (up_to (64 * i + j + 1) Q j i)
      back =
          let k : length (set t (64 * i + j) v) ≡ length t = length-set t (64 * i + j) v in
          let p : 64 * j + i < length (set t (64 * i + j) v) = omega arith in
          let o : fore_place j i < 64 * i + j + 1 = omega arith in
          get_or-set_same (set t (64 * i + j) v) (64 * j + i) v 0 p ∙ e ∙ ap pair_code (sym (up_in (64 * i + j + 1) j i o ∙ m))

      fore : get_or T (64 * i + j) 0 ≡ pair_code (up_to (64 * i + j + 1) Q i j)
      fore =
          let d : 64 * i + j ≢ 64 * j + i = omega arith in
          let p : 64 * i + j < length t = omega arith in
          let o : fore_place i j < 64 * i + j + 1 = omega arith in
          get_or-set_other (set t (64 * i + j) v) (64 * j + i) (64 * i + j) v 0 d ∙ get_or-set_same t (64 * i + j) v 0 p ∙ e ∙ ap pair_code (sym (up_in (64 * i + j + 1) i j o))

      same : fore_place a b ≢ 64 * i + j → up_to (64 * i + j) Q a b ≡ up_to (64 * i + j + 1) Q a b
      same d =
          ⊎_elim (λ g. up_in (64 * i + j) a b g ∙ sym (up_in (64 * i + j + 1) a b (omega arith))) (λ g. up_out (64 * i + j) a b g ∙ sym (up_out (64 * i + j + 1) a b (omega arith)))
          (lt_or_ge (fore_place a b) (64 * i + j))

      go : Dec (64 * a + b ≡ 64 * j + i) → Dec (64 * a + b ≡ 64 * i + j) → get_or T (64 * a + b) 0 ≡ pair_code (up_to (64 * i + j + 1) Q a b)
      go (yes p) o = let u : a ≡ j = omega arith in let w : b ≡ i = omega arith in rw (u, w) back
      go (no p) (yes o) = let u : a ≡ i = omega arith in let w : b ≡ j = omega arith in rw (u, w) fore
      go (no p) (no o) =
          let d : fore_place a b ≢ 64 * i + j = apart i j a b h x y l p o in
          get_or-set_other (set t (64 * i + j) v) (64 * j + i) (64 * a + b) v 0 p ∙ get_or-set_other t (64 * i + j) (64 * a + b) v 0 o ∙ s a b x y ∙ ap pair_code (same d)

  -- ---- a table t that is filled from an empty one
  pub filled_over : (t t' : List ℕ) (n n' : ℕ) → n ≤ n' → ((a b : ℕ) → a < 64 → b < 64 → n ≤ fore_place a b → fore_place a b < n' → Q a b ≡ none) → Filled (up_to n Q) t t' → Filled (up_to n' Q) t t'
  filled_over t t' n n' h f w = record { same = w.same; pairs = pass_over t' n n' h f w.pairs; rest = w.rest }

  pub filled_both : (t t' : List ℕ) (i j v : ℕ) → i < j → j < 64 → 64 * j + i < length t → v ≡ pair_code (Q i j) → Q j i ≡ Q i j → Filled (up_to (64 * i + j) Q) t t'
      → Filled (up_to (64 * i + (j + 1)) Q) t (set (set t' (64 * i + j) v) (64 * j + i) v)
  filled_both t t' i j v h l r e m w =
      let k : 64 * i + j + 1 ≡ 64 * i + (j + 1) = omega arith in
      let a : 64 * j + i < pair_places = omega arith in
      let b : 64 * i + j < pair_places = omega arith in
      let s : 64 * j + i < length t' = rw w.same r in
      let p : Pairs (up_to (64 * i + j + 1) Q) (set (set t' (64 * i + j) v) (64 * j + i) v) = both_ends_lem t' i j v h l s e m w.pairs in
      record {
        same = length-set (set t' (64 * i + j) v) (64 * j + i) v ∙ length-set t' (64 * i + j) v ∙ w.same;
        pairs = subst (λ (n : ℕ). Pairs (up_to n Q) (set (set t' (64 * i + j) v) (64 * j + i) v)) k p;
        rest = drop-set-lt pair_places (set t' (64 * i + j) v) (64 * j + i) v a ∙ drop-set-lt pair_places t' (64 * i + j) v b ∙ w.rest;
      }

  pub filled_end : (t t' : List ℕ) (n : ℕ) → ((a b : ℕ) → a < 64 → b < 64 → n ≤ fore_place a b → Q a b ≡ none) → Filled (up_to n Q) t t' → Filled Q t t'
  filled_end t t' n f w = record { same = w.same; pairs = λ a b x y. w.pairs a b x y ∙ ap pair_code (all a b x y); rest = w.rest }
    where
      all : (a b : ℕ) → a < 64 → b < 64 → up_to n Q a b ≡ Q a b
      all a b x y = ⊎_elim (λ l. up_in n a b l) (λ g. up_out n a b g ∙ sym (f a b x y g)) (lt_or_ge (fore_place a b) n)

-- one after the other
pub filled_on : {P R : PairsBy} (t t' t'' : List ℕ) → Filled P t t' → Filled R t' t'' → Filled R t t''
filled_on t t' t'' w x = record { same = x.same ∙ w.same; pairs = x.pairs; rest = x.rest ∙ w.rest }
