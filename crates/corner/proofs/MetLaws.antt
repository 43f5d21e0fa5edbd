-- The changes of a batch by a rule of each confirmed cell alone: a cell around it was met before exactly if an earlier confirmed cell is beside it. Assumes nothing.
use Prim.Native.Nat.{ℕ, zero, suc, ◌+◌, ◌-◌, ◌≤◌, ◌<◌}
use native.Mathlib.Nat.{le_of_suc-le-suc, le_refl, not-suc-le-zero}
use native.Mathlib.Omega.{arith}
use mathlib.Core.Path.{◌≡◌, refl, sym, ap, ◌∙◌}
use mathlib.Core.Bool.{Bool, true, false, cond, ◌||◌, or_comm}
use mathlib.Core.List.{List, [], ◌∷◌, ◌++◌, append_assoc, append-nil}
use lib.Dec.{eqb}
use lib.ListN.{length, take, drop, get_or}
use lib.Seq.{drop-cons, drop-length, take-suc}
use borrow.Author.Tests.{eq-eqb, eqb-false, eqb-true, ne_eqb}
use Rattle.model.specs.Batch.{Batch, altered, corner_changes, met}
use Rattle.model.specs.Cell.{W, around}
use Rattle.model.specs.Corner.{Bits, same_bits, status_of}
use Rattle.model.specs.Maps.{AscL, has, keys}
use Rattle.model.proofs.MapLaws.{has_append}
use Rattle.table.specs.Tables.{All}
use Rattle.table.proofs.AllLaws.{all_at, asc_l_all}
use Rattle.corner.specs.Changes.{Inner}
use Rattle.corner.specs.Added.{fresh, fresh_at, fresh_one, around_all}
use Rattle.corner.specs.Window.{gathered}
use Rattle.corner.proofs.RowLaws.{has_above}

-- ---- the keys before the i-th
pub before_has : (lo k : ℕ) (l : List ℕ) (i : ℕ) → AscL lo l → i < length l → k < get_or l i 0 → has k l ≡ has k (take i l)
unfolding has
before_has lo k [] i a h b = absurd (not-suc-le-zero h)
before_has lo k (x ∷ l) zero a h b = has_above k x (x ∷ l) b (omega arith, a.1)
before_has lo k (x ∷ l) (suc i) a h b = ap (λ (t : Bool). eqb k x || t) (before_has (suc x) k l i a.1 (le_of_suc-le-suc h) b)

pub before_none : (lo k : ℕ) (l : List ℕ) (i : ℕ) → AscL lo l → i < length l → get_or l i 0 ≤ k → has k (take i l) ≡ false
unfolding has
before_none lo k [] i a h b = absurd (not-suc-le-zero h)
before_none lo k (x ∷ l) zero a h b = refl
before_none lo k (x ∷ l) (suc i) a h b =
    let j : i < length l = le_of_suc-le-suc h in
    let y : suc x ≤ get_or l i 0 = all_at (λ y. suc x ≤ y) l i (asc_l_all (suc x) l a.1) j in
    rw (ne_eqb k x (λ e. omega arith)) (before_none (suc x) k l i a.1 j b)

-- ---- what was met before
abbrev pub any_of : (ℕ → Bool) → List ℕ → Bool
any_of f [] = false
any_of f (x ∷ l) = f x || any_of f l

-- the cells that k is around, from the highest down
abbrev pub facing : ℕ → List ℕ
facing k = (k + W + 1) ∷ (k + W) ∷ (k + W - 1) ∷ (k + 1) ∷ k ∷ (k - 1) ∷ (k - W + 1) ∷ (k - W) ∷ (k - W - 1) ∷ []

any_or : (f g : ℕ → Bool) (l : List ℕ) → any_of (λ x. f x || g x) l ≡ any_of f l || any_of g l
any_or f g [] = refl
any_or f g (x ∷ l) = rw (any_or f g l) (go (f x) (g x) (any_of f l) (any_of g l))
  where
    go : (a b c d : Bool) → (a || b) || (c || d) ≡ (a || c) || (b || d)
    go true b c d = refl
    go false true true d = refl
    go false true false d = refl
    go false false c d = refl

any_none : (l : List ℕ) → any_of (λ x. false) l ≡ false
any_none [] = refl
any_none (x ∷ l) = any_none l

same_eqb : (a b c d : ℕ) → (a ≡ b → c ≡ d) → (c ≡ d → a ≡ b) → eqb a b ≡ eqb c d
same_eqb a b c d f g = go (eqb c d) refl
  where
    go : (t : Bool) → eqb c d ≡ t → eqb a b ≡ t
    go true e = eq-eqb a b (g (eqb-true c d e))
    go false e = ne_eqb a b (λ p. eqb-false c d e (f p))

around_facing : (k d : ℕ) → W + 1 ≤ k → Inner d → has k (around d) ≡ any_of (λ x. eqb x d) (facing k)
unfolding has
around_facing k d h n =
    rw (
      same_eqb k (d - W - 1) (k + W + 1) d (λ e. omega arith) (λ e. omega arith),
      same_eqb k (d - W) (k + W) d (λ e. omega arith) (λ e. omega arith),
      same_eqb k (d - W + 1) (k + W - 1) d (λ e. omega arith) (λ e. omega arith),
      same_eqb k (d - 1) (k + 1) d (λ e. omega arith) (λ e. omega arith),
      same_eqb k (d + 1) (k - 1) d (λ e. omega arith) (λ e. omega arith),
      same_eqb k (d + W - 1) (k - W + 1) d (λ e. omega arith) (λ e. omega arith),
      same_eqb k (d + W) (k - W) d (λ e. omega arith) (λ e. omega arith),
      same_eqb k (d + W + 1) (k - W - 1) d (λ e. omega arith) (λ e. omega arith),
    )

pub all_facing : (k : ℕ) (K : List ℕ) → W + 1 ≤ k → All Inner K → has k (around_all K) ≡ any_of (λ x. has x K) (facing k)
unfolding around_all has
all_facing k [] h n = refl
all_facing k (d ∷ K) h n =
    has_append k (around d) (around_all K) ∙ rw (around_facing k d h n.0, all_facing k K h n.1) (sym (any_or (λ x. eqb x d) (λ x. has x K) (facing k)))

-- ---- the changes, cell by cell
onto : List ℕ → List ℕ → List ℕ
onto [] m = m
onto (k ∷ l) m = onto l (k ∷ m)

has_onto : (k : ℕ) (l m : List ℕ) → has k (onto l m) ≡ has k l || has k m
unfolding onto has
has_onto k [] m = refl
has_onto k (x ∷ l) m = has_onto k l (x ∷ m) ∙ go (eqb k x) (has k l) (has k m)
  where
    go : (a b c : Bool) → b || (a || c) ≡ (a || b) || c
    go true true c = refl
    go true false c = refl
    go false b c = refl

around_ascends : (e : ℕ) → Inner e → AscL 0 (around e)
around_ascends e n = omega arith

all_each : {P : ℕ → Type 0} (l : List ℕ) → ((x : ℕ) → P x) → All P l
all_each [] f = tt
all_each (x ∷ l) f = (f x, all_each l f)

all_append : (l m : List ℕ) → around_all (l ++ m) ≡ around_all l ++ around_all m
unfolding around_all
all_append [] m = refl
all_append (x ∷ l) m = ap (λ (r : List ℕ). around x ++ r) (all_append l m) ∙ sym (append_assoc (around x) (around_all l) (around_all m))

has_all_more : (k : ℕ) (done : List ℕ) (e : ℕ) → has k (around_all (done ++ e ∷ [])) ≡ has k (around e) || has k (around_all done)
unfolding around_all
has_all_more k done e = rw (all_append done (e ∷ []), has_append k (around_all done) (around_all (e ∷ [])), append-nil (around e)) (or_comm (has k (around_all done)) (has k (around e)))

met_all : (ch : Batch) → met ch ≡ around_all (keys ch)
unfolding met around_all keys
met_all [] = refl
met_all (e ∷ ch) = ap (λ (r : List ℕ). around e.0 ++ r) (met_all ch)

module _ (C C' : List ℕ) where
  -- cells that ascend are met once among themselves
  altered_fresh : (lo : ℕ) (seen checked l m : List ℕ) → AscL lo l → All (λ k. has k checked ≡ has k seen) l
      → altered C C' checked (l ++ m) ≡ fresh C C' seen l ++ altered C C' (onto l checked) m
  unfolding altered fresh fresh_one onto has
  altered_fresh lo seen checked [] m a s = refl
  altered_fresh lo seen checked (k ∷ l) m a s =
      rw (altered_fresh (suc k) seen (k ∷ checked) l m a.1 (later l (asc_l_all (suc k) l a.1) s.1), s.0, append_assoc)
      (one (has k seen || same_bits (status_of C k) (status_of C' k)) (fresh C C' seen l ++ altered C C' (onto l (k ∷ checked)) m))
    where
      later : (r : List ℕ) → All (λ x. suc k ≤ x) r → All (λ x. has x checked ≡ has x seen) r → All (λ x. has x (k ∷ checked) ≡ has x seen) r
      later [] b t = tt
      later (x ∷ r) b t = (rw (ne_eqb x k (λ e. omega arith)) t.0, later r b.1 t.1)

      one : (b : Bool) (r : List (ℕ × Bits)) → cond b r ((k, status_of C' k) ∷ r) ≡ cond b [] ((k, status_of C' k) ∷ []) ++ r
      one true r = refl
      one false r = refl

  -- the changes around the cells K, those around `done` being made
  each : List ℕ → List ℕ → List (ℕ × Bits)
  each done [] = []
  each done (e ∷ K) = fresh C C' (around_all done) (around e) ++ each (done ++ e ∷ []) K

  altered_each : (done checked K : List ℕ) → ((k : ℕ) → has k checked ≡ has k (around_all done)) → All Inner K → altered C C' checked (around_all K) ≡ each done K
  unfolding around_all each altered
  altered_each done checked [] s n = refl
  altered_each done checked (e ∷ K) s n =
      altered_fresh 0 (around_all done) checked (around e) (around_all K) (around_ascends e n.0) (all_each (around e) s)
      ∙ ap (λ (r : List (ℕ × Bits)). fresh C C' (around_all done) (around e) ++ r) (altered_each (done ++ e ∷ []) (onto (around e) checked) K more n.1)
    where
      more : (k : ℕ) → has k (onto (around e) checked) ≡ has k (around_all (done ++ e ∷ []))
      more k = has_onto k (around e) checked ∙ rw (s k) (sym (has_all_more k done e))

  each_gathered : (K : List ℕ) (i : ℕ) → i ≤ length K → each [] K ≡ gathered (fresh_at C C' K) i ++ each (take i K) (drop i K)
  unfolding gathered each
  each_gathered K zero h = refl
  each_gathered K (suc i) h =
      each_gathered K i (omega arith) ∙ rw (drop-cons K i 0 h, take-suc K i 0 h, append_assoc)

  pub changes_gathered : (ch : Batch) → All Inner (keys ch) → corner_changes C C' ch ≡ gathered (fresh_at C C' (keys ch)) (length (keys ch))
  unfolding corner_changes has around_all each
  changes_gathered ch n =
      ap (altered C C' []) (met_all ch) ∙ altered_each [] [] (keys ch) (λ k. refl) n
      ∙ each_gathered (keys ch) (length (keys ch)) (le_refl (length (keys ch)))
      ∙ rw (drop-length (keys ch)) (append-nil (gathered (fresh_at C C' (keys ch)) (length (keys ch))))
