-- A flat batch as its entries, and the two judgements an entry at a time. Assumes nothing.
use Prim.Native.Nat.{ℕ, ◌+◌, ◌/◌, ◌%◌, ◌^◌, ◌≤◌, ◌<◌}
use native.Mathlib.Nat.{le_of_suc-le-suc, not-suc-le-zero}
use native.Mathlib.Omega.{arith}
use mathlib.Core.Path.{◌≡◌, refl, sym, ◌∙◌}
use mathlib.Core.Bool.{Bool, true, false, not, cond, ◌&&◌, ◌||◌}
use mathlib.Core.List.{List, [], ◌∷◌, ◌++◌}
use lib.Bits.{bit_or}
use lib.Dec.{ltb}
use lib.IntN.{ℤ, pos}
use lib.Signed.{le_z, lt_z}
use lib.ListN.{length, drop, get_or}
use lib.Seq.{drop-append_seam}
use borrow.Author.Tests.{lt-ltb, le-ltb, eq-eqb, ne_eqb}
use Rattle.model.specs.Limits.{max_batch, max_coordinate}
use Rattle.model.specs.Map.{Entry}
use Rattle.model.specs.Refusal.{first_due, is_due, off_map, outside, unsorted, verdict}
use Rattle.limits.specs.Batches.{disorder, entries, is_full, ragged}
use Rattle.limits.specs.Words.{looked, word_on}
use Rattle.limits.proofs.WordLaws.{due_added, due_not, none_added}

-- the number at a place, and the entry
abbrev pub item : List ℤ → ℕ → ℤ
item b i = get_or b i (pos 0)

abbrev pub entry_at : List ℤ → ℕ → Entry
entry_at b i = record { x = item b i; y = item b (i + 1); full = is_full (item b (i + 2)) }

pub entries_length : (b : List ℤ) → length (entries b) ≡ length b / 3
entries_length [] = refl
entries_length (x ∷ []) = refl
entries_length (x ∷ y ∷ []) = refl
entries_length (x ∷ y ∷ o ∷ l) = let ih = entries_length l in omega arith

none : (l : List Entry) → length l ≤ 0 → l ≡ []
none [] h = refl
none (e ∷ l) h = absurd (not-suc-le-zero h)

-- ---- three numbers at a time: the entry x, and those that are left
pub entries_chunk : (l x r : List ℤ) → l ≡ x ++ r → length x ≡ 3 → entries l ≡ entry_at x 0 ∷ entries r
entries_chunk l [] r e h = absurd (omega arith)
entries_chunk l (x ∷ []) r e h = absurd (omega arith)
entries_chunk l (x ∷ y ∷ []) r e h = absurd (omega arith)
entries_chunk l (x ∷ y ∷ o ∷ []) r e h = rw e refl
entries_chunk l (x ∷ y ∷ o ∷ z ∷ m) r e h = absurd (omega arith)

pub chunk_off : (l x r : List ℤ) → l ≡ x ++ r → length x ≡ 3 → r ≡ drop 3 l
chunk_off l x r e h = rw (e, ← h, drop-append_seam x r) refl

-- ---- in disorder: an entry against the next one
pub unsorted_next : (l x r y q : List ℤ) (t : Bool) → l ≡ x ++ r → length x ≡ 3 → r ≡ y ++ q → length y ≡ 3
    → t ≡ lt_z (item x 0) (item y 0) || (le_z (item x 0) (item y 0) && lt_z (item x 1) (item y 1)) → unsorted (entries l) ≡ not t || unsorted (entries r)
unfolding unsorted
unsorted_next l x r y q t e h f k w = rw (w, entries_chunk l x r e h, entries_chunk r y q f k)

one : (l : List Entry) → length l ≤ 1 → unsorted l ≡ false
unfolding unsorted
one [] h = refl
one (e ∷ []) h = refl
one (e ∷ d ∷ l) h = absurd (not-suc-le-zero (le_of_suc-le-suc h))

pub unsorted_end : (l : List ℤ) → length l < 6 → unsorted (entries l) ≡ false
unsorted_end l h = one (entries l) (rw (entries_length l) (omega arith))

-- ---- off the map
pub outside_next : (l x r : List ℤ) (s t : Bool) → l ≡ x ++ r → length x ≡ 3 → s ≡ off_map max_coordinate (item x 0) → t ≡ off_map max_coordinate (item x 1)
    → outside (entries l) ≡ s || t || outside (entries r)
unfolding outside
outside_next l x r s t e h p q = rw (p, q, entries_chunk l x r e h)

pub entries_few : (l : List ℤ) → length l < 3 → entries l ≡ []
entries_few l h = none (entries l) (rw (entries_length l) (omega arith))

pub outside_end : (l : List ℤ) → length l < 3 → outside (entries l) ≡ false
unfolding outside
outside_end l h = rw (entries_few l h)

-- ---- 3, 4 and 5
pub ragged_is : (b : List ℤ) → (length b % 3 ≡ 0 → ⊥) → ragged b ≡ true
unfolding ragged
ragged_is b h = rw (ne_eqb (length b % 3) 0 h) refl

pub whole_is : (b : List ℤ) → length b % 3 ≡ 0 → ragged b ≡ false
unfolding ragged
whole_is b h = rw (eq-eqb (length b % 3) 0 h) refl

pub refuse_ragged : (b : List ℤ) → length b / 3 ≤ max_batch → (length b % 3 ≡ 0 → ⊥) → verdict (looked b) ≡ 4
unfolding verdict first_due is_due
refuse_ragged b h g = rw (entries_length b, le-ltb max_batch (length b / 3) h, ragged_is b g)

-- as they are looked for; d and o tell of disorder and of a coordinate outside
pub looked_long : (b : List ℤ) (w r : ℕ) → max_batch < length b / 3 → r ≡ bit_or w (cond true (2 ^ (3 % 64)) 0) → r ≡ word_on w (looked b)
looked_long b w r h e =
    let three : ltb max_batch (length (entries b)) ≡ true = rw (entries_length b) (lt-ltb max_batch (length b / 3) h) in
    let rest : word_on w ((4, false) ∷ (5, false) ∷ []) ≡ w = due_not 4 w ((5, false) ∷ []) ∙ due_not 5 w [] ∙ sym (none_added w) in
    rw three (due_added 3 w true ((4, false) ∷ (5, false) ∷ []) e refl refl (sym rest))

pub looked_short : (b : List ℤ) (w v r : ℕ) (d o : Bool) → length b / 3 ≤ max_batch → v ≡ bit_or w (cond o (2 ^ (5 % 64)) 0) → o ≡ outside (entries b) → r ≡ bit_or v (cond d (2 ^ (4 % 64)) 0) → d ≡ disorder b → r ≡ word_on w (looked b)
looked_short b w v r d o h e p f q =
    let three : ltb max_batch (length (entries b)) ≡ false = rw (entries_length b) (le-ltb max_batch (length b / 3) h) in
    let five : v ≡ word_on w ((5, outside (entries b)) ∷ []) = due_added 5 w (outside (entries b)) [] e refl p (none_added w) in
    let both : List (ℕ × Bool) = (4, disorder b) ∷ (5, outside (entries b)) ∷ [] in
    rw three (due_added 4 w (disorder b) ((5, outside (entries b)) ∷ []) f refl q five ∙ sym (due_not 3 w both))
