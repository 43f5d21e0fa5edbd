-- The keys that have a status in the end: counted, and listed one after another. Assumes nothing.
use Rattle.std.proofs.Common.{◌≡◌, ℕ, suc, ◌+◌, ◌%◌, ◌<◌, ◌≤◌, Bool, true, false, cond, not, eqb, ◌⊎◌, List, [], ◌∷◌, ◌++◌, length, get_or, take, drop, set, sym, refl, ap, ◌∙◌, subst, ⊎_elim, append-nil, add-one, arith, length-append, length-set, take-append-drop, take-suc, eq-eqb, ne_eqb}
use Rattle.std.specs.List.{filter}
use Rattle.corner.specs.Added.{Added}
use Rattle.corner.proofs.AddedLaws.{added_none, added_one, added_then}
use Rattle.model.specs.Corner.{any_bit}
use Rattle.marks.specs.Marked.{ending}
use Rattle.marks.specs.Standing.{Standing, word, words}
use Rattle.marks.proofs.MoodLaws.{word_any}
use Rattle.marks.proofs.WordsLaws.{words_at, words_length}

ending_append : (f : ℕ → Standing) (K L : List ℕ) → ending f (K ++ L) ≡ ending f K ++ ending f L
unfolding ending
ending_append f [] L = refl
ending_append f (k ∷ K) L = go (any_bit (f k).bits) (ending_append f K L)
  where
    go : (b : Bool) → ending f (K ++ L) ≡ ending f K ++ ending f L
        → cond b ((k, word (f k)) ∷ ending f (K ++ L)) (ending f (K ++ L)) ≡ cond b ((k, word (f k)) ∷ ending f K) (ending f K) ++ ending f L
    go true e = ap (λ (l : List (ℕ × ℕ)). (k, word (f k)) ∷ l) e
    go false e = e

-- ---- the i-th of the keys
module _ (f : ℕ → Standing) (K moods : List ℕ) (e : moods ≡ words f K) (i : ℕ) (h : i < length moods) where
  inside : i < length K
  inside = let l : length moods ≡ length K = ap length e ∙ words_length f K in omega arith

  told : get_or moods i 0 ≡ word (f (get_or K i 0))
  told = ap (λ (l : List ℕ). get_or l i 0) e ∙ words_at f K i inside

  next : ending f (take (i + 1) K) ≡ ending f (take i K) ++ ending f (get_or K i 0 ∷ [])
  next = ap (ending f) (ap (λ (n : ℕ). take n K) (add-one i) ∙ take-suc K i 0 inside) ∙ ending_append f (take i K) (get_or K i 0 ∷ [])

  pub ending_more : (get_or moods i 0 % 16 ≡ 0 → ⊥) → ending f (take (i + 1) K) ≡ ending f (take i K) ++ ((get_or K i 0, get_or moods i 0) ∷ [])
  unfolding ending
  ending_more t =
      let a : any_bit (f (get_or K i 0)).bits ≡ true = sym (word_any (f (get_or K i 0))) ∙ ap (λ (w : ℕ). not (eqb (w % 16) 0)) (sym told) ∙ ap not (ne_eqb (get_or moods i 0 % 16) 0 t) in
      next ∙ rw (a, told) refl

  pub ending_pass : get_or moods i 0 % 16 ≡ 0 → ending f (take (i + 1) K) ≡ ending f (take i K)
  unfolding ending
  ending_pass t =
      let a : any_bit (f (get_or K i 0)).bits ≡ false = sym (word_any (f (get_or K i 0))) ∙ ap (λ (w : ℕ). not (eqb (w % 16) 0)) (sym told) ∙ ap not (eq-eqb (get_or moods i 0 % 16) 0 t) in
      next ∙ rw a (append-nil (ending f (take i K)))

ending_part : (f : ℕ → Standing) (K : List ℕ) (i : ℕ) → length (ending f (take i K)) ≤ length (ending f K)
ending_part f K i =
    let e : length (ending f K) ≡ length (ending f (take i K)) + length (ending f (drop i K)) =
    ap (λ (l : List ℕ). length (ending f l)) (sym (take-append-drop i K)) ∙ ap length (ending_append f (take i K) (drop i K)) ∙ length-append (ending f (take i K)) (ending f (drop i K)) in
    omega arith

-- ---- counted
-- whether a word has a status
abbrev pub has_status : ℕ → Bool
has_status v = not (eqb (v % 16) 0)

pub ending_count : (f : ℕ → Standing) (K : List ℕ) → length (filter has_status (words f K)) ≡ length (ending f K)
unfolding words ending
ending_count f [] = refl
ending_count f (k ∷ l) = rw (word_any (f k)) (go (any_bit (f k).bits) (ending_count f l))
  where
    go : (b : Bool) → length (filter has_status (words f l)) ≡ length (ending f l)
        → length (cond b (word (f k) ∷ filter has_status (words f l)) (filter has_status (words f l))) ≡ length (cond b ((k, word (f k)) ∷ ending f l) (ending f l))
    go true e = ap suc e
    go false e = e

-- ---- listed: i keys are looked at
abbrev Sofar : List ℕ → List ℕ → List ℕ → List ℕ → List ℕ → List ℕ → ℕ → ℕ → Type 0
Sofar candidates moods a a' b b' n i =
    (f : ℕ → Standing) → moods ≡ words f candidates → length (ending f candidates) ≤ length a → length (ending f candidates) ≤ length b → Added (ending f (take i candidates)) a a' b b' 0 n

pub record Picked (candidates moods a a' b b' : List ℕ) (n i : ℕ) : Type 0 where
  pub few : i ≤ length moods
  pub cells : length a' ≡ length a
  pub numbers : length b' ≡ length b
  pub is : Sofar candidates moods a a' b b' n i

pub picked_none : (candidates moods a b : List ℕ) → Picked candidates moods a a b b 0 0
unfolding ending
picked_none candidates moods a b = record { few = omega arith; cells = refl; numbers = refl; is = λ f e ra rb. added_none a b 0 }

module _ (candidates moods a a' b b' : List ℕ) (n i : ℕ) (p : Picked candidates moods a a' b b' n i) where
  pub picked_more : i < length moods → (get_or moods i 0 % 16 ≡ 0 → ⊥) → n < length a' → n < length b'
      → Picked candidates moods a (set a' n (get_or candidates i 0)) b (set b' n (get_or moods i 0)) (n + 1) (i + 1)
  picked_more h t ha hb = record {
    few = omega arith;
    cells = length-set a' n (get_or candidates i 0) ∙ p.cells;
    numbers = length-set b' n (get_or moods i 0) ∙ p.numbers;
    is = λ f e ra rb.
        let one : List (ℕ × ℕ) = (get_or candidates i 0, get_or moods i 0) ∷ [] in
        subst (λ (l : List (ℕ × ℕ)). Added l a (set a' n (get_or candidates i 0)) b (set b' n (get_or moods i 0)) 0 (n + 1)) (sym (ending_more f candidates moods e i h t))
        (added_then (ending f (take i candidates)) one a a' (set a' n (get_or candidates i 0)) b b' (set b' n (get_or moods i 0)) 0 n (n + 1) (p.is f e ra rb) (added_one a' b' n (get_or candidates i 0) (get_or moods i 0) ha hb) (omega (arith, p.cells)) (omega (arith, p.numbers)));
  }

  pub picked_pass : i < length moods → get_or moods i 0 % 16 ≡ 0 → Picked candidates moods a a' b b' n (i + 1)
  picked_pass h t = record {
    few = omega arith;
    cells = p.cells;
    numbers = p.numbers;
    is = λ f e ra rb. subst (λ (l : List (ℕ × ℕ)). Added l a a' b b' 0 n) (sym (ending_pass f candidates moods e i h t)) (p.is f e ra rb);
  }

  -- there is room for one more
  room : i < length moods → (get_or moods i 0 % 16 ≡ 0 → ⊥) → (f : ℕ → Standing) → moods ≡ words f candidates → length (ending f candidates) ≤ length a → length (ending f candidates) ≤ length b → n < length (ending f candidates)
  room h t f e ra rb =
      let z : length (ending f (take (i + 1) candidates)) ≡ length (ending f (take i candidates)) + 1 =
      ap length (ending_more f candidates moods e i h t) ∙ length-append (ending f (take i candidates)) ((get_or candidates i 0, get_or moods i 0) ∷ []) in
      omega (arith, ending_part f candidates (i + 1), (p.is f e ra rb).count)

  -- .. so that none is left out
  pub picked_full : i < length moods → (get_or moods i 0 % 16 ≡ 0 → ⊥) → (length a' ≤ n) ⊎ (length b' ≤ n) → Picked candidates moods a a' b b' n (i + 1)
  picked_full h t x = record {
    few = omega arith;
    cells = p.cells;
    numbers = p.numbers;
    is = λ f e ra rb. let r = room h t f e ra rb in absurd (⊎_elim (λ y. omega (arith, p.cells)) (λ y. omega (arith, p.numbers)) x);
  }
