-- The entries of a flat batch in turn: those that alter a cell are counted, and listed. Assumes nothing.
use Prim.Native.Nat.{ℕ, ◌+◌, ◌*◌, ◌/◌, ◌≤◌, ◌<◌}
use native.Mathlib.Omega.{arith}
use mathlib.Core.Path.{◌≡◌, refl, sym, ap, ◌∙◌, subst}
use mathlib.Core.Bool.{Bool, true, false, not, cond, ◌&&◌}
use mathlib.Core.List.{List, [], ◌∷◌, ◌++◌}
use lib.IntN.{ℤ}
use lib.ListN.{length, set, length-append, length-set}
use Rattle.std.specs.Int.{from_bool}
use Rattle.model.specs.Batch.{Batch, cells_after, confirmed}
use Rattle.model.specs.Cell.{key}
use Rattle.model.specs.Map.{to_batch}
use Rattle.model.specs.Maps.{Asc, AscL, has, sift}
use Rattle.table.specs.Listed.{Listed}
use Rattle.limits.specs.Batches.{alters, entries, flags, is_full}
use Rattle.limits.proofs.EntryLaws.{item, entries_chunk, entries_few}
use Rattle.batches.proofs.ListedLaws.{Part, part_start, part_next, part_end}
use Rattle.batches.proofs.PickedLaws.{cells_count, confirmed_picked, fills, frees, one_more, picked}

-- the entries of what is left
abbrev pub rest : List ℤ → Batch
rest l = to_batch (entries l)

rest_next : (l x r : List ℤ) → l ≡ x ++ r → length x ≡ 3 → rest l ≡ (key (item x 0) (item x 1), is_full (item x 2)) ∷ rest r
unfolding to_batch
rest_next l x r e h = rw (entries_chunk l x r e h)

rest_end : (l : List ℤ) → length l < 3 → rest l ≡ []
unfolding to_batch
rest_end l h = rw (entries_few l h)

-- ---- counted: so many cells more, and so many less; l is left of b
pub record Counted (C : List ℕ) (b l : List ℤ) (more less : ℕ) : Type 0 where
  pub much : more + length l ≤ length C + length b
  pub few : less + length l ≤ length b
  pub filled : AscL 0 C → more + length (picked fills C (rest l)) ≡ length C + length (picked fills C (rest b))
  pub freed : AscL 0 C → less + length (picked frees C (rest l)) ≡ length (picked frees C (rest b))

pub counted_start : (C : List ℕ) (b : List ℤ) → Counted C b b (length C) 0
counted_start C b = record { much = omega arith; few = omega arith; filled = λ a. refl; freed = λ a. omega arith }

-- a flag as the code makes it
pub bit_is : (b : Bool) → from_bool b ≡ cond b 1 0
bit_is true = refl
bit_is false = refl

bit_le : (b : Bool) → cond b 1 0 ≤ 1
bit_le true = omega arith
bit_le false = omega arith

-- ---- listed: n changes are in the two tables
abbrev pub wanted : List ℕ → List ℤ → List (ℕ × ℕ)
wanted C l = flags (picked alters C (rest l))

pub record Listing (C : List ℕ) (b : List ℤ) (out full : List ℕ) (l : List ℤ) (n : ℕ) (out' full' : List ℕ) : Type 0 where
  pub few : n * 3 + length l ≤ length b
  pub cells : length out' ≡ length out
  pub numbers : length full' ≡ length full
  pub listed : AscL 0 C → Part (wanted C b) (wanted C l) out full n out' full'

pub listing_start : (C : List ℕ) (b : List ℤ) (out full : List ℕ) → Listing C b out full b 0 out full
listing_start C b out full = record { few = omega arith; cells = refl; numbers = refl; listed = λ a. part_start (wanted C b) out full }

-- ---- one entry x of what is left, and r is left then: its key k, what it says, and whether it alters its cell
pub record Looked (C : List ℕ) (l x r : List ℤ) (k : ℕ) (v s : Bool) : Type 0 where
  pub there : l ≡ x ++ r
  pub three : length x ≡ 3
  pub is_key : k ≡ key (item x 0) (item x 1)
  pub full : v ≡ is_full (item x 2)
  pub alters : AscL 0 C → s ≡ alters (has k C) v

module _ {C : List ℕ} {l x r : List ℤ} {k : ℕ} {v s : Bool} (e : Looked C l x r k v s) where
  shorter : length l ≡ 3 + length r
  shorter = ap length e.there ∙ simp length-append (omega (arith, e.three))

  picked_next : (f : Bool → Bool → Bool) → picked f C (rest l) ≡ cond (f (has k C) v) ((k, v) ∷ picked f C (rest r)) (picked f C (rest r))
  unfolding sift
  picked_next f = rw (e.is_key, e.full, rest_next l x r e.there e.three)

  count_next : (f : Bool → Bool → Bool) → length (picked f C (rest l)) ≡ length (picked f C (rest r)) + cond (f (has k C) v) 1 0
  count_next f = ap length (picked_next f) ∙ one_more (f (has k C) v) (k, v) (picked f C (rest r))

  counted_next : (b : List ℤ) (more less more' less' : ℕ) → Counted C b l more less → more' ≡ more + cond (s && v) 1 0 → less' ≡ less + cond (s && not v) 1 0 → Counted C b r more' less'
  counted_next b more less more' less' c p q = record {
    much = omega (arith, c.much, shorter, bit_le (s && v));
    few = omega (arith, c.few, shorter, bit_le (s && not v));
    filled = λ a. let m : more' ≡ more + cond (fills (has k C) v) 1 0 = rw (e.alters a) at p in omega (arith, c.filled a, count_next fills);
    freed = λ a. let m : less' ≡ less + cond (frees (has k C) v) 1 0 = rw (e.alters a) at q in omega (arith, c.freed a, count_next frees);
  }

  module _ {b : List ℤ} {more less : ℕ} (c : Counted C b l more less) where
    pub counted_more : s ≡ true → v ≡ true → Counted C b r (more + 1) less
    counted_more p q = counted_next b more less (more + 1) less c (rw (p, q) refl) (rw (p, q) (omega arith))

    pub counted_less : s ≡ true → v ≡ false → Counted C b r more (less + 1)
    counted_less p q = counted_next b more less more (less + 1) c (rw (p, q) (omega arith)) (rw (p, q) refl)

    pub counted_same : s ≡ false → Counted C b r more less
    counted_same p = counted_next b more less more less c (rw p (omega arith)) (rw p (omega arith))

  module _ {b : List ℤ} {out full : List ℕ} {n : ℕ} {out' full' : List ℕ} (g : Listing C b out full l n out' full') where
    pub listing_more : length b / 3 ≤ length out → length b / 3 ≤ length full → s ≡ true → Listing C b out full r (n + 1) (set out' n k) (set full' n (cond v 1 0))
    listing_more ho hf p =
        let m : n * 3 + 3 + length r ≤ length b = omega (arith, g.few, shorter) in
        record {
          few = omega arith;
          cells = simp length-set g.cells;
          numbers = simp length-set g.numbers;
          listed = λ a.
              let t : alters (has k C) v ≡ true = sym (e.alters a) ∙ p in
              let w : wanted C l ≡ (k, cond v 1 0) ∷ wanted C r = ap flags (picked_next alters) ∙ rw t refl in
              part_next (wanted C b) (wanted C r) out full n out' full' k (cond v 1 0) (subst (λ (r : List (ℕ × ℕ)). Part (wanted C b) r out full n out' full') w (g.listed a)) (omega arith) (omega arith);
        }

    pub listing_same : s ≡ false → Listing C b out full r n out' full'
    listing_same p = record {
      few = omega (arith, g.few, shorter);
      cells = g.cells;
      numbers = g.numbers;
      listed = λ a.
          let t : alters (has k C) v ≡ false = sym (e.alters a) ∙ p in
          let w : wanted C l ≡ wanted C r = ap flags (picked_next alters) ∙ rw t refl in
          subst (λ (r : List (ℕ × ℕ)). Part (wanted C b) r out full n out' full') w (g.listed a);
    }

-- ---- the last entry
pub counted_end : {C : List ℕ} {b l : List ℤ} {more less : ℕ} → Counted C b l more less → length l < 3 → AscL 0 C → Asc 0 (rest b) → more ≡ length (cells_after (rest b) C) + less
unfolding sift
counted_end {C} {b} {l} {more} {less} c h a o =
    let p : more + 0 ≡ length C + length (picked fills C (rest b)) = rw (rest_end l h) at (c.filled a) in
    let q : less + 0 ≡ length (picked frees C (rest b)) = rw (rest_end l h) at (c.freed a) in
    omega (arith, cells_count 0 (rest b) C o a)

pub listing_end : {C : List ℕ} {b : List ℤ} {out full : List ℕ} {l : List ℤ} {n : ℕ} {out' full' : List ℕ} → Listing C b out full l n out' full' → length l < 3 → AscL 0 C → Asc 0 (rest b)
    → Listed (flags (confirmed (rest b) C)) out out' full full' n
unfolding sift
listing_end {C} {b} {out} {full} {l} {n} {out'} {full'} g h a o =
    let w : wanted C l ≡ [] = rw (rest_end l h) refl in
    rw (confirmed_picked 0 (rest b) C o)
    (part_end (wanted C b) out full n out' full' (subst (λ (r : List (ℕ × ℕ)). Part (wanted C b) r out full n out' full') w (g.listed a)))
