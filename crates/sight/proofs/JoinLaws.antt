-- The pairs of the listed points, row by row. Assumes nothing.
use Prim.Native.Nat.{ℕ, ◌+◌, ◌*◌, ◌≤◌, ◌<◌}
use native.Mathlib.Omega.{arith}
use mathlib.Core.Path.{◌≡◌, refl, sym, ap, ◌∙◌}
use mathlib.Core.Bool.{Bool, true, false, ◌&&◌}
use mathlib.Core.List.{List}
use mathlib.Core.Option.{none}
use borrow.Author.Tests.{lt-ltb, le-ltb, ltb-true}
use lib.Dec.{ltb}
use lib.Ieee.{Float}
use lib.ListN.{length, get_or, set, length-set}
use Rattle.table.proofs.ListedLaws.{keys_at}
use Rattle.marks.specs.Standing.{Small, Standing, mood, word}
use Rattle.marks.specs.declared.mood.Mood.{Mood}
use Rattle.model.specs.Batch.{Batch}
use Rattle.model.specs.Layer.{Tests}
use Rattle.model.specs.Map.{tests}
use Rattle.segment.specs.Near.{IsProximity}
use Rattle.segment.specs.declared.near.Proximity.{Proximity}
use Rattle.table.proofs.ListedLaws.{keys_length}
use Rattle.sight.specs.Blocked.{Seeing, Stood}
use Rattle.held.specs.Codes.{pair_code}
use Rattle.sight.specs.Paired.{Filled, PairIs, pair_at, pair_between, point_at}
use Rattle.held.specs.Pairs.{Pairs, PairsBy, PairsNamed}
use Rattle.sight.specs.Rows.{fore_place, up_to}
use Rattle.sight.proofs.BlockLaws.{fitting_at, nobody, seeing_fits, words_at}
use Rattle.sight.proofs.TableLaws.{filled_both, filled_end, filled_on, filled_over}

-- ---- the pair at two places
within : (i j n : ℕ) → (i < j → n ≤ j) → (ltb i j && ltb j n) ≡ false
within i j n f = go (ltb i j) refl
  where
    go : (b : Bool) → ltb i j ≡ b → (b && ltb j n) ≡ false
    go true e = le-ltb j n (f (ltb-true i j e))
    go false e = refl

module _ (t : Tests) (C : List ℕ) (ch : Batch) (P : PairsBy) (S : Stood) (i j : ℕ) where
  pub at_none : (i < j → length S ≤ j) → (j < i → length S ≤ i) → pair_at t C ch P S i j ≡ none
  unfolding pair_at
  at_none f g = rw (within i j (length S) f, within j i (length S) g) refl

  at_fore : i < j → j < length S → pair_at t C ch P S i j ≡ pair_between t C ch P (point_at S i).0 (point_at S i).1 (point_at S j).0 (point_at S j).1
  unfolding pair_at
  at_fore h l = rw (lt-ltb i j h, lt-ltb j (length S) l) refl

  at_back : i < j → j < length S → pair_at t C ch P S j i ≡ pair_between t C ch P (point_at S i).0 (point_at S i).1 (point_at S j).0 (point_at S j).1
  unfolding pair_at
  at_back h l = let g : i ≤ j = omega arith in rw (le-ltb j i g, lt-ltb i j h, lt-ltb j (length S) l) refl

-- past the j-th place of the i-th row there is no further point
last : (i j a b n : ℕ) → n ≤ j → a < 64 → b < 64 → 64 * i + j ≤ fore_place a b → fore_place a b < 64 * (i + 1) → a < b → n ≤ b
last i j a b n k x y u v h = let e : fore_place a b ≡ 64 * a + b = omega arith in let f : a ≡ i = omega arith in omega arith

last' : (i j a b n : ℕ) → n ≤ j → a < 64 → b < 64 → 64 * i + j ≤ fore_place a b → fore_place a b < 64 * (i + 1) → b < a → n ≤ a
last' i j a b n k x y u v h = let e : fore_place a b ≡ 64 * b + a = omega arith in let f : b ≡ i = omega arith in omega arith

-- ---- one pair
-- what is lent: the points S with the old pairs P
pub record Joining (size radius : Float) (proximity : Proximity) (C : List ℕ) (ch : Batch) (S : Stood) (P : PairsBy) (confirmed full points moods old : List ℕ) : Type 0 where
  pub seeing : Seeing C ch S confirmed full points moods
  pub is_proximity : IsProximity size radius proximity
  pub pairs : Pairs P old
  pub named : PairsNamed P

-- what `Mood::of_word` tells of a word
abbrev pub Reads : ℕ → Mood → Type 0
Reads n m = (s : Standing) → Small s → n ≡ word s → m ≡ mood s

module _ (size radius : Float) (proximity : Proximity) (C confirmed full points moods old : List ℕ) where
  pub told_at : (i j k : ℕ) (was : Mood) (l : ℕ) (other : Mood) (r : ℕ) → i < j → j < length points → (k ≡ get_or points i 0) × Reads (get_or moods i 0) was → (l ≡ get_or points j 0) × Reads (get_or moods j 0) other
      → PairIs size radius proximity C confirmed full old k was l other r
      → (ch : Batch) (S : Stood) (P : PairsBy) → Joining size radius proximity C ch S P confirmed full points moods old → r ≡ pair_code (pair_at (tests size radius) C ch P S i j)
  told_at i j k was l other r h m f g t ch S P w =
      let s = w.seeing in
      let n : length points ≡ length S = ap length s.points_are ∙ keys_length S in
      let hi : i < length S = omega arith in
      let hj : j < length S = omega arith in
      let x = point_at S i in
      let y = point_at S j in
      let fx = fitting_at S i nobody s.fitting hi in
      let fy = fitting_at S j nobody s.fitting hj in
      let a : was ≡ mood x.1 = f.1 x.1 fx.0 (ap (λ (m : List ℕ). get_or m i 0) s.moods_are ∙ words_at S i nobody hi) in
      let b : other ≡ mood y.1 = g.1 y.1 fy.0 (ap (λ (m : List ℕ). get_or m j 0) s.moods_are ∙ words_at S j nobody hj) in
      let p : k ≡ x.0 = f.0 ∙ ap (λ (m : List ℕ). get_or m i 0) s.points_are ∙ keys_at S i nobody.1 in
      let q : l ≡ y.0 = g.0 ∙ ap (λ (m : List ℕ). get_or m j 0) s.points_are ∙ keys_at S j nobody.1 in
      t ch P x.1 y.1 s.order s.inside s.changes s.confirmed_are s.full_are w.is_proximity w.pairs w.named a b fx.1 fy.1
      ∙ ap (λ (z : ℕ). pair_code (pair_between (tests size radius) C ch P z x.1 l y.1)) p
      ∙ ap (λ (z : ℕ). pair_code (pair_between (tests size radius) C ch P x.0 x.1 z y.1)) q
      ∙ ap pair_code (sym (at_fore (tests size radius) C ch P S i j h hj))

  -- ---- a row, up to the j-th point
  pub record Row (i j : ℕ) (t t' : List ℕ) : Type 0 where
    pub above : i < j
    pub below : j ≤ length points
    pub same : length t' ≡ length t
    pub done : (ch : Batch) (S : Stood) (P : PairsBy) → Joining size radius proximity C ch S P confirmed full points moods old
        → Pairs (up_to (64 * i) (pair_at (tests size radius) C ch P S)) t → Filled (up_to (64 * i + j) (pair_at (tests size radius) C ch P S)) t t'

  pub row_start : (i : ℕ) (t : List ℕ) → i < length points → length points ≤ 64 → Row i (i + 1) t t
  row_start i t h l = record {
    above = omega arith;
    below = omega arith;
    same = refl;
    done = λ ch S P w s.
        filled_over (pair_at (tests size radius) C ch P S) t t (64 * i) (64 * i + (i + 1)) (omega arith)
        (λ a b x y u v. at_none (tests size radius) C ch P S a b (λ k. absurd (omega arith)) (λ k. absurd (omega arith)))
        (record { same = refl; pairs = s; rest = refl });
  }

  pub row_more : (i j : ℕ) (t t' : List ℕ) (v : ℕ) → Row i j t t' → j < length points → length points ≤ 64 → 64 * length points ≤ length t
      → ((ch : Batch) (S : Stood) (P : PairsBy) → Joining size radius proximity C ch S P confirmed full points moods old → v ≡ pair_code (pair_at (tests size radius) C ch P S i j))
      → Row i (j + 1) t (set (set t' (64 * i + j) v) (64 * j + i) v)
  row_more i j t t' v w h l r f = record {
    above = omega (arith, w.above);
    below = omega arith;
    same = length-set (set t' (64 * i + j) v) (64 * j + i) v ∙ length-set t' (64 * i + j) v ∙ w.same;
    done = λ ch S P g s.
        let n : length points ≡ length S = ap length g.seeing.points_are ∙ keys_length S in
        let k : j < length S = omega arith in
        let b : j < 64 = omega arith in
        let e : 64 * j + i < length t = omega (arith, w.above) in
        filled_both (pair_at (tests size radius) C ch P S) t t' i j v w.above b e (f ch S P g) (at_back (tests size radius) C ch P S i j w.above k ∙ sym (at_fore (tests size radius) C ch P S i j w.above k))
        (w.done ch S P g s);
  }

  pub row_end : (i j : ℕ) (t t' : List ℕ) → Row i j t t' → length points ≤ j → length points ≤ 64 → (ch : Batch) (S : Stood) (P : PairsBy) → Joining size radius proximity C ch S P confirmed full points moods old
      → Pairs (up_to (64 * i) (pair_at (tests size radius) C ch P S)) t → Filled (up_to (64 * (i + 1)) (pair_at (tests size radius) C ch P S)) t t'
  row_end i j t t' w h l ch S P g s =
      let n : length points ≡ length S = ap length g.seeing.points_are ∙ keys_length S in
      let k : length S ≤ j = omega arith in
      let b : 64 * i + j ≤ 64 * (i + 1) = omega (arith, w.below) in
      filled_over (pair_at (tests size radius) C ch P S) t t' (64 * i + j) (64 * (i + 1)) b (λ a b x y u v. at_none (tests size radius) C ch P S a b (last i j a b (length S) k x y u v) (last' i j a b (length S) k x y u v)) (w.done ch S P g s)

-- ---- all rows
module _ (size radius : Float) (proximity : Proximity) (C confirmed full points moods old : List ℕ) where
  -- the rows before the i-th
  pub record Rows (i : ℕ) (t t' : List ℕ) : Type 0 where
    pub below : i ≤ length points
    pub same : length t' ≡ length t
    pub done : (ch : Batch) (S : Stood) (P : PairsBy) → Joining size radius proximity C ch S P confirmed full points moods old
        → Pairs (λ a b. none) t → Filled (up_to (64 * i) (pair_at (tests size radius) C ch P S)) t t'

  pub rows_more : (i : ℕ) (t t' t'' : List ℕ) → Rows i t t' → i < length points → length t'' ≡ length t'
      → ((ch : Batch) (S : Stood) (P : PairsBy) → Joining size radius proximity C ch S P confirmed full points moods old → Pairs (up_to (64 * i) (pair_at (tests size radius) C ch P S)) t'
      → Filled (up_to (64 * (i + 1)) (pair_at (tests size radius) C ch P S)) t' t'')
      → Rows (i + 1) t t''
  rows_more i t t' t'' w h m f = record {
    below = omega arith;
    same = m ∙ w.same;
    done = λ ch S P g s. let d = w.done ch S P g s in filled_on t t' t'' d (f ch S P g d.pairs);
  }

  pub rows_end : (i : ℕ) (t t' : List ℕ) → Rows i t t' → length points ≤ i → (ch : Batch) (S : Stood) (P : PairsBy) → Joining size radius proximity C ch S P confirmed full points moods old
      → Pairs (λ a b. none) t → Filled (pair_at (tests size radius) C ch P S) t t'
  rows_end i t t' w h ch S P g s =
      let n : length points ≡ length S = ap length g.seeing.points_are ∙ keys_length S in
      let k : length S ≤ i = omega arith in
      filled_end (pair_at (tests size radius) C ch P S) t t' (64 * i) (λ a b x y u. at_none (tests size radius) C ch P S a b (λ z. omega arith) (λ z. omega arith)) (w.done ch S P g s)

-- what is lent fits together
pub seeing_lengths : (C : List ℕ) (ch : Batch) (S : Stood) (confirmed full points moods : List ℕ) → Seeing C ch S confirmed full points moods → (length confirmed ≡ length full) × (length points ≡ length moods) × (length points ≡ length S)
seeing_lengths C ch S confirmed full points moods s = let f = seeing_fits s in (f.changes, f.count ∙ sym f.words, f.count)
