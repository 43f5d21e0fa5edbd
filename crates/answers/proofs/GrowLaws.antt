-- A list that grows at the front of a lent one: what a walk has listed, and what is still to come. Assumes nothing.
use Prim.Native.Nat.{ℕ, suc, ◌+◌, ◌-◌, ◌<◌}
use native.Mathlib.Numerals.{add-one}
use native.Mathlib.Omega.{arith}
use mathlib.Core.Path.{◌≡◌, refl, sym, ap, ◌∙◌}
use mathlib.Core.List.{List, [], ◌∷◌, ◌++◌, append_assoc, append-nil}
use lib.ListN.{drop, get_or, length, length-append, length-drop, length-set, set}
use lib.Seq.{append_snoc, drop-cons, set-append_seam}
use Rattle.answers.specs.Asking.{Front}

-- ---- one more is written after those at the front
pub front_put : (v t t' : List ℕ) (n x : ℕ) → n < length t' → Front v n t t' → Front (v ++ (x ∷ [])) (n + 1) t (set t' n x)
front_put v t t' n x k f =
    let e : n ≡ length v = f.0 in
    let z : length (v ++ (x ∷ [])) ≡ length v + 1 = length-append v (x ∷ []) in
    let w : length t' ≡ length v + length (drop n t) = ap length f.1 ∙ length-append v (drop n t) in
    let d : length (drop n t) ≡ length t - n = length-drop n t in
    let h : n < length t = omega (arith, e, w, d, k) in
    let r : List ℕ = drop (suc n) t in
    let s : set (v ++ (get_or t n 0 ∷ r)) n x ≡ v ++ (x ∷ r) = ap (λ (j : ℕ). set (v ++ (get_or t n 0 ∷ r)) j x) e ∙ set-append_seam v (get_or t n 0) r x in
    (omega (arith, e, z), ap (λ (u : List ℕ). set u n x) (f.1 ∙ ap (λ (u : List ℕ). v ++ u) (drop-cons t n 0 h)) ∙ s ∙ sym (append_snoc v x r) ∙ rw (add-one n) refl)

-- ---- a walk over something x of which H tells what is lent: the whole is to be listed after n₀ things at the front of t; there are n now in t', and the rest is still to come
pub record Growing {X A : Type 0} (col : List A → List ℕ) (H : X → Type 0) (whole rest : X → List A) (n₀ n : ℕ) (t t' : List ℕ) : Type 0 where
  pub same : length t' ≡ length t
  pub told : (x : X) → H x → (v : List A) (o : List ℕ) → Front (col v) n₀ o t → (w : List A) × (v ++ whole x ≡ w ++ rest x) × Front (col w) n o t'

module _ {X A : Type 0} (col : List A → List ℕ) (H : X → Type 0) (whole : X → List A) (n₀ : ℕ) (t : List ℕ) where
  pub growing_none : Growing col H whole whole n₀ n₀ t t
  growing_none = record { same = refl; told = λ x h v o f. (v, refl, f) }

  module _ (rest rest' : X → List A) (n : ℕ) (t' : List ℕ) (g : Growing col H whole rest n₀ n t t') where
    -- nothing is listed on the way to the next rest
    pub growing_pass : ((x : X) → H x → rest x ≡ rest' x) → Growing col H whole rest' n₀ n t t'
    growing_pass e = record {
      same = g.same;
      told = λ x h v o f. let s = g.told x h v o f in (s.0, s.1 ∙ ap (λ (r : List A). s.0 ++ r) (e x h), s.2);
    }

    -- u is
    pub growing_more : (u : X → List A) (m : ℕ) (t'' : List ℕ) → ((x : X) → H x → rest x ≡ u x ++ rest' x) → length t'' ≡ length t'
        → ((x : X) → H x → (v : List A) (o : List ℕ) → Front (col v) n o t' → Front (col (v ++ u x)) m o t'') → Growing col H whole rest' n₀ m t t''
    growing_more u m t'' e k c = record {
      same = k ∙ g.same;
      told = λ x h v o f.
          let s = g.told x h v o f in
          (s.0 ++ u x, s.1 ∙ ap (λ (r : List A). s.0 ++ r) (e x h) ∙ sym (append_assoc s.0 (u x) (rest' x)), c x h s.0 o s.2);
    }

    -- one is, and b is its number in this column
    module _ (at : A → ℕ) (snoc : (v : List A) (a : A) → col (v ++ (a ∷ [])) ≡ col v ++ (at a ∷ [])) where
      pub growing_put : (a : X → A) (b : ℕ) → ((x : X) → H x → rest x ≡ (a x ∷ []) ++ rest' x) → ((x : X) → H x → b ≡ at (a x)) → n < length t'
          → Growing col H whole rest' n₀ (n + 1) t (set t' n b)
      growing_put a b e k r =
          growing_more (λ x. a x ∷ []) (n + 1) (set t' n b) e (length-set t' n b)
          (λ x h v o f. rw (snoc v (a x), ← k x h) (front_put (col v) o t' n b r f))

  pub growing_done : (rest : X → List A) (n : ℕ) (t' : List ℕ) → Growing col H whole rest n₀ n t t' → (x : X) → H x → rest x ≡ []
      → (v : List A) (o : List ℕ) → Front (col v) n₀ o t → Front (col (v ++ whole x)) n o t'
  growing_done rest n t' g x h z v o f =
      let s = g.told x h v o f in
      rw (s.1 ∙ ap (λ (r : List A). s.0 ++ r) z ∙ append-nil s.0) s.2
