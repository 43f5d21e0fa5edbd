-- What a confirmed cell adds to the changes, read off the words of its window. Assumes nothing.
use Prim.Native.Nat.{ℕ, zero, suc, ◌+◌, ◌-◌, ◌*◌, ◌/◌, ◌%◌, ◌≤◌, ◌<◌}
use native.Mathlib.Numerals.{add-one}
use native.Mathlib.Omega.{arith}
use mathlib.Core.Path.{◌≡◌, refl, sym, ap, ◌∙◌}
use mathlib.Core.Bool.{Bool, true, false, not, cond, ◌&&◌, ◌||◌, beq}
use mathlib.Core.List.{List, [], ◌∷◌, ◌++◌, append_assoc, append-nil}
use lib.Bits.{bit_or, bit_xor}
use lib.ListN.{length, take, get_or}
use Rattle.model.specs.Batch.{Batch, corner_changes}
use Rattle.model.specs.Cell.{W, around}
use Rattle.model.specs.Corner.{Bits, number, same_bits, status_of}
use Rattle.model.specs.Good.{Inside}
use Rattle.model.specs.Limits.{max_coordinate}
use Rattle.model.specs.Maps.{has, keys}
use Rattle.table.specs.Listed.{Listed}
use Rattle.table.specs.Tables.{All}
use Rattle.table.proofs.AllLaws.{all_at}
use Rattle.corner.specs.Changes.{Inner, numbered}
use Rattle.corner.specs.Added.{Added, Given, fresh, fresh_at, fresh_one, around_all}
use Rattle.corner.specs.Window.{Sees, beside, differing, gathered, inner_bit, inner_cell, northeasts, northwests, on, picked_at, southeasts, southwests}
use Rattle.corner.proofs.AddedLaws.{added_listed, added_none, added_then}
use Rattle.corner.proofs.MetLaws.{changes_gathered, all_facing}
use Rattle.corner.proofs.WindowLaws.{beside_is, northeast_is, northwest_is, sees_before, sees_toggled, southeast_is, southwest_is, status_is}
use Rattle.corner.proofs.WordLaws.{on_or, on_without, on_xor}

pub gathered_same : {A : Type 0} (f g : ℕ → List A) (n : ℕ) → ((i : ℕ) → i < n → f i ≡ g i) → gathered f n ≡ gathered g n
unfolding gathered
gathered_same f g zero s = refl
gathered_same f g (suc n) s = rw (gathered_same f g n (λ i h. s i (omega arith)), s n (omega arith))

numbered_append : (l m : List (ℕ × Bits)) → numbered (l ++ m) ≡ numbered l ++ numbered m
numbered_append [] m = refl
numbered_append (x ∷ l) m = ap (λ (r : List (ℕ × ℕ)). (x.0, number x.1) ∷ r) (numbered_append l m)

pub numbered_count : (l : List (ℕ × Bits)) → length (numbered l) ≡ length l
numbered_count [] = refl
numbered_count (e ∷ l) = ap suc (numbered_count l)

pub numbered_gathered : (f : ℕ → List (ℕ × Bits)) (n : ℕ) → numbered (gathered f n) ≡ gathered (λ i. numbered (f i)) n
unfolding gathered
numbered_gathered f zero = refl
numbered_gathered f (suc n) = numbered_append (gathered f n) (f n) ∙ rw (numbered_gathered f n)

all_take : (P : ℕ → Type 0) (n : ℕ) (l : List ℕ) → All P l → All P (take n l)
all_take P zero l a = tt
all_take P (suc n) [] a = tt
all_take P (suc n) (x ∷ l) a = (a.0, all_take P n l a.1)

-- the nine in their order
around_nine : (C C' m : List ℕ) (low e : ℕ) → e ≡ low + (2 * W + 2) → fresh C C' m (around e) ≡ gathered (λ d. fresh_one C C' m (inner_cell low d)) 9
unfolding fresh gathered
around_nine C C' m low e h =
    let e0 : e - W - 1 ≡ inner_cell low 0 = omega arith in
    let e1 : e - W ≡ inner_cell low 1 = omega arith in
    let e2 : e - W + 1 ≡ inner_cell low 2 = omega arith in
    let e3 : e - 1 ≡ inner_cell low 3 = omega arith in
    let e4 : e ≡ inner_cell low 4 = omega arith in
    let e5 : e + 1 ≡ inner_cell low 5 = omega arith in
    let e6 : e + W - 1 ≡ inner_cell low 6 = omega arith in
    let e7 : e + W ≡ inner_cell low 7 = omega arith in
    let e8 : e + W + 1 ≡ inner_cell low 8 = omega arith in
    rw (e0, e2, e1, e3, e5, e6, e8, e7, e4) (simp (append_assoc, append-nil))

-- a bit of `differing`
differing_is : (a a' b b' c c' d d' m i : ℕ) → on (differing a a' b b' c c' d d' m) i
    ≡ not (on m i || (beq (on a i) (on a' i) && beq (on b i) (on b' i) && beq (on c i) (on c' i) && beq (on d i) (on d' i)))
unfolding differing
differing_is a a' b b' c c' d d' m i =
    on_without (bit_or (bit_or (bit_or (bit_xor a a') (bit_xor b b')) (bit_xor c c')) (bit_xor d d')) m i
    ∙ rw (
      on_or (bit_or (bit_or (bit_xor a a') (bit_xor b b')) (bit_xor c c')) (bit_xor d d') i,
      on_or (bit_or (bit_xor a a') (bit_xor b b')) (bit_xor c c') i,
      on_or (bit_xor a a') (bit_xor b b') i,
      on_xor a a' i,
      on_xor b b' i,
      on_xor c c' i,
      on_xor d d' i,
    )
    (go (beq (on a i) (on a' i)) (beq (on b i) (on b' i)) (beq (on c i) (on c' i)) (beq (on d i) (on d' i)) (on m i))
  where
    go : (p q r t s : Bool) → (((not p || not q) || not r) || not t) && not s ≡ not (s || (p && q && r && t))
    go false q r t true = refl
    go false q r t false = refl
    go true false r t true = refl
    go true false r t false = refl
    go true true false t true = refl
    go true true false t false = refl
    go true true true false true = refl
    go true true true false false = refl
    go true true true true true = refl
    go true true true true false = refl

module _ (C K C' : List ℕ) (i low n m : ℕ) (g : Given C K C') (h : i < length K) (e : get_or K i 0 ≡ low + (2 * W + 2)) (s : Sees n C low) (u : Sees m K low) where
  abbrev now : ℕ
  now = bit_xor n m

  abbrev changed : ℕ
  changed =
      differing (southwests n) (southwests now) (southeasts n) (southeasts now) (northwests n) (northwests now) (northeasts n) (northeasts now) (beside (m % 4096))

  after : Sees now C' low
  after = sees_toggled n m low C K C' g.toggled s u

  -- one of the nine
  module _ (d : ℕ) (b : d < 9) where
    abbrev cell : ℕ
    cell = inner_cell low d

    column : d / 3 < 3
    column = omega arith

    line : d % 3 < 3
    line = omega arith

    met_bit : on (beside (m % 4096)) (inner_bit d) ≡ has cell (around_all (take i K))
    met_bit =
        beside_is (m % 4096) low (take i K) (sees_before m low K i g.confirmed h e u) (d / 3) (d % 3) column line
        ∙ sym (all_facing cell (take i K) (omega arith) (all_take Inner i K g.inner))

    fresh_bit : on changed (inner_bit d) ≡ not (has cell (around_all (take i K)) || same_bits (status_of C cell) (status_of C' cell))
    unfolding same_bits status_of
    fresh_bit =
        differing_is (southwests n) (southwests now) (southeasts n) (southeasts now) (northwests n) (northwests now) (northeasts n) (northeasts now) (beside (m % 4096)) (inner_bit d)
        ∙ rw (
          met_bit,
          southwest_is n low C s (d / 3) (d % 3) column line,
          southeast_is n low C s (d / 3) (d % 3) column line,
          northwest_is n low C s (d / 3) (d % 3) column line,
          northeast_is n low C s (d / 3) (d % 3) column line,
          southwest_is now low C' after (d / 3) (d % 3) column line,
          southeast_is now low C' after (d / 3) (d % 3) column line,
          northwest_is now low C' after (d / 3) (d % 3) column line,
          northeast_is now low C' after (d / 3) (d % 3) column line,
        )

    picked_is : picked_at low changed (southwests now) (southeasts now) (northwests now) (northeasts now) d ≡ numbered (fresh_one C C' (around_all (take i K)) cell)
    unfolding fresh_one
    picked_is = rw (fresh_bit, status_is now low C' after (d / 3) (d % 3) column line) (go (has cell (around_all (take i K)) || same_bits (status_of C cell) (status_of C' cell)))
      where
        go : (t : Bool) → cond (not t) ((cell, number (status_of C' cell)) ∷ []) [] ≡ numbered (cond t [] ((cell, status_of C' cell) ∷ []))
        go true = refl
        go false = refl

  nine_fresh : gathered (picked_at low changed (southwests now) (southeasts now) (northwests now) (northeasts now)) 9 ≡ numbered (fresh_at C C' K i)
  nine_fresh =
      gathered_same (picked_at low changed (southwests now) (southeasts now) (northwests now) (northeasts now)) (λ d. numbered (fresh_one C C' (around_all (take i K)) (inner_cell low d))) 9 picked_is
      ∙ sym (ap numbered (around_nine C C' (around_all (take i K)) low (get_or K i 0) e) ∙ numbered_gathered (λ d. fresh_one C C' (around_all (take i K)) (inner_cell low d)) 9)

  -- the same of the words as the code has them
  pub words_fresh : (sw₀ se₀ nw₀ ne₀ sw se nw ne met new : ℕ) → (sw₀ ≡ southwests n) × (se₀ ≡ southeasts n) × (nw₀ ≡ northwests n) × (ne₀ ≡ northeasts n)
      → (sw ≡ southwests now) × (se ≡ southeasts now) × (nw ≡ northwests now) × (ne ≡ northeasts now) → met ≡ beside (m % 4096)
      → new ≡ differing sw₀ sw se₀ se nw₀ nw ne₀ ne met → gathered (picked_at low new sw se nw ne) 9 ≡ numbered (fresh_at C C' K i)
  words_fresh sw₀ se₀ nw₀ ne₀ sw se nw ne met new was is b f = rw (f, was.0, was.1, was.2, was.3, is.0, is.1, is.2, is.3, b) nine_fresh

pub inside_inner : (k : ℕ) → Inside max_coordinate k → Inner k
inside_inner k h = (omega arith, omega arith)

pub given_inner : (C K C' : List ℕ) (i : ℕ) → Given C K C' → i < length K → Inner (get_or K i 0)
given_inner C K C' i g h = all_at Inner K i g.inner h

-- ---- after the first i of the confirmed cells
pub record Sofar (C K a a' b b' : List ℕ) (n i : ℕ) : Type 0 where
  pub few : i ≤ length K
  pub up : n ≤ 9 * i
  pub cells : length a' ≡ length a
  pub numbers : length b' ≡ length b
  pub added : (C' : List ℕ) → Given C K C' → Added (gathered (λ j. numbered (fresh_at C C' K j)) i) a a' b b' 0 n

pub sofar_none : (C K a b : List ℕ) → Sofar C K a a b b 0 0
unfolding gathered
sofar_none C K a b = record { few = omega arith; up = omega arith; cells = refl; numbers = refl; added = λ C' g. added_none a b 0 }

pub sofar_next : (C K a a' a'' b b' b'' : List ℕ) (n i r : ℕ) → i < length K → 9 * length K ≤ length a → 9 * length K ≤ length b → Sofar C K a a' b b' n i
    → length a'' ≡ length a' → length b'' ≡ length b' → r ≤ n + 9 → ((C' : List ℕ) → Given C K C' → Added (numbered (fresh_at C C' K i)) a' a'' b' b'' n r) → Sofar C K a a'' b b'' r (i + 1)
unfolding gathered
sofar_next C K a a' a'' b b' b'' n i r h ra rb s la lb few q = record {
  few = omega arith;
  up = omega (arith, s.up);
  cells = la ∙ s.cells;
  numbers = lb ∙ s.numbers;
  added = λ C' g. rw (add-one i) (added_then (gathered (λ j. numbered (fresh_at C C' K j)) i) (numbered (fresh_at C C' K i)) a a' a'' b b' b'' 0 n r (s.added C' g) (q C' g) (omega (arith, s.up)) (omega (arith, s.up)));
}

pub sofar_all : (C K a a' b b' : List ℕ) (n i : ℕ) → length K ≤ i → Sofar C K a a' b b' n i → (ch : Batch) (C' : List ℕ) → K ≡ keys ch → Given C K C'
    → Listed (numbered (corner_changes C C' ch)) a a' b b' n
sofar_all C K a a' b b' n i h s ch C' e g =
    let j : i ≡ length K = omega (arith, s.few) in
    let whole : gathered (λ j. numbered (fresh_at C C' K j)) i ≡ numbered (corner_changes C C' ch) =
    sym (ap numbered (changes_gathered C C' ch (rw e at g.inner)) ∙ numbered_gathered (fresh_at C C' (keys ch)) (length (keys ch)) ∙ rw (← e, j)) in
    added_listed (numbered (corner_changes C C' ch)) a a' b b' n (rw whole at (s.added C' g))
