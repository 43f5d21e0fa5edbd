-- Lists added to two tables one after another. Assumes nothing.
use Prim.Native.Nat.{ℕ, ◌+◌, ◌/◌, ◌%◌, ◌^◌, ◌≤◌, ◌<◌}
use native.Mathlib.Numerals.{add-one}
use native.Mathlib.Omega.{arith}
use mathlib.Core.Path.{◌≡◌, refl, sym, ap, ◌∙◌}
use mathlib.Core.List.{List, [], ◌∷◌, ◌++◌, append_assoc}
use lib.ListN.{length, take, drop, set, length-append, length-set, take-append-drop}
use lib.Seq.{length-take-le, take_at, drop-drop, drop_at, set_split}
use borrow.Author.Tests.{ne_eqb}
use Rattle.model.specs.Maps.{keys}
use Rattle.table.specs.Listed.{Listed, values}
use Rattle.table.proofs.ListedLaws.{keys_length, values_length}
use Rattle.corner.specs.Added.{Added}
use Rattle.corner.specs.Window.{gathered, inner_bit, inner_cell, picked_at, status_at}
use Rattle.corner.proofs.WordLaws.{on_read}

-- ---- the two columns of a list
keys_append : (l m : List (ℕ × ℕ)) → keys (l ++ m) ≡ keys l ++ keys m
unfolding keys
keys_append [] m = refl
keys_append (x ∷ l) m = ap (λ (r : List ℕ). x.0 ∷ r) (keys_append l m)

values_append : (l m : List (ℕ × ℕ)) → values (l ++ m) ≡ values l ++ values m
values_append [] m = refl
values_append (x ∷ l) m = ap (λ (r : List ℕ). x.1 ∷ r) (values_append l m)

-- ---- one table
-- v was put after the first n, and w after these
splice : (n k : ℕ) (v w a b c : List ℕ) → n + length v ≤ length a → b ≡ take n a ++ (v ++ drop (n + length v) a)
    → c ≡ take (n + length v) b ++ (w ++ drop (n + length v + k) b) → c ≡ take n a ++ ((v ++ w) ++ drop (n + (length v + k)) a)
splice n k v w a b c h p q =
    let m : ℕ = n + length v in
    let f : List ℕ = take n a ++ v in
    let lf : length f ≡ m = length-append (take n a) v ∙ ap (λ (x : ℕ). x + length v) (length-take-le n a (omega arith)) in
    let e : b ≡ f ++ drop m a = p ∙ sym (append_assoc (take n a) v (drop m a)) in
    let front : take m b ≡ f = ap (take m) e ∙ take_at f (drop m a) m lf in
    let back : drop (m + k) b ≡ drop (m + k) a = sym (drop-drop k m b) ∙ ap (drop k) (ap (drop m) e ∙ drop_at f (drop m a) m lf) ∙ drop-drop k m a in
    let z : m + k ≡ n + (length v + k) = omega arith in
    q ∙ rw (front, back, z) (simp append_assoc)

stored : (a : List ℕ) (m x : ℕ) → m < length a → set a m x ≡ take m a ++ ((x ∷ []) ++ drop (m + 1) a)
stored a m x h = rw (add-one m) (set_split a m x h)

kept : (a : List ℕ) (n : ℕ) → a ≡ take n a ++ ([] ++ drop (n + 0) a)
kept a n = let e : n + 0 ≡ n = omega arith in rw e (sym (take-append-drop n a))

-- ---- both tables
pub added_none : (a b : List ℕ) (n : ℕ) → Added [] a a b b n n
unfolding keys
added_none a b n = record { count = omega arith; cells = kept a n; numbers = kept b n }

pub added_one : (a b : List ℕ) (m k s : ℕ) → m < length a → m < length b → Added ((k, s) ∷ []) a (set a m k) b (set b m s) m (m + 1)
unfolding keys
added_one a b m k s h j = record { count = refl; cells = stored a m k h; numbers = stored b m s j }

pub added_then : (l l' : List (ℕ × ℕ)) (a a' a'' b b' b'' : List ℕ) (n m r : ℕ) → Added l a a' b b' n m → Added l' a' a'' b' b'' m r
    → m ≤ length a → m ≤ length b → Added (l ++ l') a a'' b b'' n r
added_then l l' a a' a'' b b' b'' n m r p q h j =
    let c : m ≡ n + length l = p.count in
    let d : r ≡ m + length l' = q.count in
    let z : length (l ++ l') ≡ length l + length l' = length-append l l' in
    let lk : length (keys l) ≡ length l = keys_length l in
    let lv : length (values l) ≡ length l = values_length l in
    record {
      count = omega arith;
      cells = rw (z, keys_append l l', ← lk) (splice n (length l') (keys l) (keys l') a a' a'' (omega arith) (rw lk p.cells) (rw (lk, ← c) q.cells));
      numbers = rw (z, values_append l l', ← lv) (splice n (length l') (values l) (values l') b b' b'' (omega arith) (rw lv p.numbers) (rw (lv, ← c) q.numbers));
    }

pub added_listed : (l : List (ℕ × ℕ)) (a a' b b' : List ℕ) (r : ℕ) → Added l a a' b b' 0 r → Listed l a a' b b' r
added_listed l a a' b b' r p =
    let e : 0 + length l ≡ length l = omega arith in
    record { count = p.count ∙ e; cells = rw e at p.cells; numbers = rw e at p.numbers }

-- ---- one by one: d of `most` are looked at, and f says what each adds, if H holds
pub record Gathering (H : Type 0) (most : ℕ) (f : ℕ → List (ℕ × ℕ)) (a a' b b' : List ℕ) (n m d : ℕ) : Type 0 where
  pub few : d ≤ most
  pub up : m ≤ n + d
  pub cells : length a' ≡ length a
  pub numbers : length b' ≡ length b
  pub added : H → Added (gathered f d) a a' b b' n m

module _ (H : Type 0) (most : ℕ) (f : ℕ → List (ℕ × ℕ)) (a b : List ℕ) (n : ℕ) where
  pub gathering_none : Gathering H most f a a b b n n 0
  unfolding gathered
  gathering_none = record { few = omega arith; up = omega arith; cells = refl; numbers = refl; added = λ t. added_none a b n }

  module _ (a' b' : List ℕ) (m d : ℕ) (more : d < most) (ra : n + most ≤ length a) (rb : n + most ≤ length b) (s : Gathering H most f a a' b b' n m d) where
    next : (l : List (ℕ × ℕ)) → (H → f d ≡ l) → (a'' b'' : List ℕ) (r : ℕ) → Added l a' a'' b' b'' m r → H → Added (gathered f (d + 1)) a a'' b b'' n r
    unfolding gathered
    next l e a'' b'' r q t =
        rw (add-one d, e t) (added_then (gathered f d) l a a' a'' b b' b'' n m r (s.added t) q (omega (arith, s.up)) (omega (arith, s.up)))

    pub gathering_put : (k v : ℕ) → (H → f d ≡ (k, v) ∷ []) → Gathering H most f a (set a' m k) b (set b' m v) n (m + 1) (d + 1)
    gathering_put k v e = record {
      few = omega arith;
      up = omega (arith, s.up);
      cells = length-set a' m k ∙ s.cells;
      numbers = length-set b' m v ∙ s.numbers;
      added = next ((k, v) ∷ []) e (set a' m k) (set b' m v) (m + 1) (added_one a' b' m k v (omega (arith, s.up, s.cells)) (omega (arith, s.up, s.numbers)));
    }

    pub gathering_pass : (H → f d ≡ []) → Gathering H most f a a' b b' n m (d + 1)
    gathering_pass e = record {
      few = omega arith;
      up = omega (arith, s.up);
      cells = s.cells;
      numbers = s.numbers;
      added = next [] e a' b' m (added_none a' b' m);
    }

-- ---- the d-th of the nine, as the code reads its bit
module _ (low fresh sw se nw ne d : ℕ) where
  pub picked_some : fresh / 2 ^ inner_bit d % 2 ≡ 1 → picked_at low fresh sw se nw ne d ≡ (inner_cell low d, status_at sw se nw ne (inner_bit d)) ∷ []
  picked_some h = rw (on_read fresh (inner_bit d), h)

  pub picked_none : (fresh / 2 ^ inner_bit d % 2 ≡ 1 → ⊥) → picked_at low fresh sw se nw ne d ≡ []
  picked_none h = rw (on_read fresh (inner_bit d), ne_eqb (fresh / 2 ^ inner_bit d % 2) 1 h)
