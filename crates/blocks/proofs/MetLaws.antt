-- The cells that touch a newly planted one, and the trees joined to it. Assumes nothing.
use Prim.Native.Nat.{ℕ, suc, ◌+◌, ◌-◌, ◌≤◌, ◌<◌}
use native.Mathlib.Numerals.{add-one}
use native.Mathlib.Decide.{ℕ_discrete, dec_lt}
use native.Mathlib.Omega.{arith}
use mathlib.Core.Path.{◌≡◌, refl, sym, ap, ◌∙◌, subst}
use mathlib.Core.Logic.{◌≢◌, ◌⊎◌, inl, inr, ⊎_elim}
use mathlib.Core.Bool.{Bool, true, false, ◌&&◌, true≢false}
use mathlib.Core.List.{List}
use lib.Dec.{T, eqb, ltb, eqb→eq}
use lib.ListN.{length, drop, get_or, set, take}
use borrow.Author.Tests.{eq-eqb, ne_eqb, eqb-true, lt-ltb}
use Rattle.table.proofs.Parts.{tail_is}
use Rattle.model.specs.Blocks.{Linked, here, on, adjacent}
use Rattle.model.specs.Cell.{W, apart, col, row}
use Rattle.model.specs.Maps.{AscL}
use Rattle.model.proofs.MapLaws.{has_at}
use Rattle.table.specs.Tables.{rank, stands}
use Rattle.table.proofs.AllLaws.{asc_l_drop, asc_l_less}
use Rattle.table.proofs.LookLaws.{stands_inside}
use Rattle.blocks.specs.Forest.{Down, Joined, Root, Sought}
use Rattle.blocks.specs.Forest as forest
use Rattle.blocks.specs.Grown.{Grown, Met, Planted}
use Rattle.blocks.proofs.ForestLaws.{root_fixed}
use Rattle.blocks.proofs.GrownLaws.{grown_closed, grown_moved, grown_planted, grown_same}
use Rattle.blocks.proofs.PlaceLaws.{asc_above, asc_one, rank_after}

-- ---- sides
test_one : (n : ℕ) → n ≡ 1 → T (eqb n 1)
test_one n e = rw e tt

pub above_touches : (k : ℕ) → row k ≢ 4294967295 → T (adjacent k (k + 1))
unfolding adjacent
above_touches k h = test_one (apart (col k) (col (k + 1)) + apart (row k) (row (k + 1))) (omega arith)

pub above_last : (k : ℕ) → row k ≡ 4294967295 → T (adjacent k (k + 1)) → ⊥
unfolding adjacent
above_last k h t = omega (arith, eqb→eq (apart (col k) (col (k + 1)) + apart (row k) (row (k + 1))) 1 t)

pub right_touches : (k : ℕ) → T (adjacent k (k + W))
unfolding adjacent
right_touches k = test_one (apart (col k) (col (k + W)) + apart (row k) (row (k + W))) (omega arith)

-- of greater cells, only those above and to the right share a side
later_side : (k x : ℕ) → k < x → T (adjacent k x) → (x ≡ k + 1) ⊎ (x ≡ k + W)
unfolding adjacent
later_side k x h t = go (ℕ_discrete x (k + 1)) (eqb→eq (apart (col k) (col x) + apart (row k) (row x)) 1 t)
  where
    go : Dec (x ≡ k + 1) → apart (col k) (col x) + apart (row k) (row x) ≡ 1 → (x ≡ k + 1) ⊎ (x ≡ k + W)
    go (yes e) s = inl e
    go (no o) s = let e : x ≡ k + W = omega arith in inr e

-- ---- the cell `key` is sought at `at`
module _ {C p q : List ℕ} {i key n : ℕ} (d : Down p) (top : get_or p i 0 ≡ i) where
  -- there is no such cell, or it does not touch
  pub met_none : n ≡ 0 → q ≡ p → (AscL 0 C → (l : ℕ) → i < l → l < length C → get_or C l 0 ≡ key → T (adjacent (get_or C i 0) key) → ⊥) → Met C i key n p q
  met_none e s f = rw s (record {
    down = d;
    fixed = top;
    few = omega arith;
    kept = λ l w. w;
    grown = λ m joined g. grown_same n d (λ j r w. w) g e;
    there = λ m joined g a l h b t u. absurd (f a l h b t u);
  })

  module _ (at : ℕ) (inside : i < length C) (later-on : i < at) (touch : T (adjacent (get_or C i 0) key)) where
    met_found : at < length C → get_or C at 0 ≡ key → Joined i at n p q → Met C i key n p q
    met_found within is found = record {
      down = found.down;
      fixed = root_fixed (kept i (forest.here top));
      few = few (dec_lt i found.root);
      kept = kept;
      grown = λ m joined g. grown m joined g (dec_lt i found.root);
      there = λ m joined g a l h b t u. rw (asc_one C a l at b within (t ∙ sym is)) (there m joined g (dec_lt i found.root));
    }
      where
        kept : (l : ℕ) → Root p l i → Root q l i
        kept l w = go (dec_lt i found.root)
          where
            go : Dec (i < found.root) → Root q l i
            go (yes h) = let o : i ≢ found.root = omega arith in rw (ne_eqb i found.root o) at ((found.moved h).1 l i w)
            go (no h) = (found.same (omega arith)).1 l i w

        few : Dec (i < found.root) → n ≤ 1
        few (yes h) = omega (arith, (found.moved h).0)
        few (no h) = omega (arith, (found.same (omega arith)).0)

        link : Linked C (get_or C i 0) (get_or C at 0)
        link = on {c = get_or C at 0} (here (has_at C i inside)) (rw is touch) (has_at C at within)

        grown : (m joined : ℕ) → Grown C p i m joined → Dec (i < found.root) → Grown C q i m (joined + n)
        grown m joined g (yes h) = grown_moved n at found.root d (found.moved h).1 g inside top found.from (omega arith) within link h (found.moved h).0
        grown m joined g (no h) = let e : found.root ≤ i = omega arith in grown_same n d (found.same e).1 g (found.same e).0

        there : (m joined : ℕ) → Grown C p i m joined → Dec (i < found.root) → Root q at i
        there m joined g (yes h) = rw (eq-eqb found.root found.root refl) at ((found.moved h).1 at found.root found.from)
        there m joined g (no h) =
            let l : i ≤ found.root = asc_above i found.root g.roots g.asc (g.whole at found.root (omega arith) within found.from) in
            let e : found.root ≡ i = omega arith in
            subst (Root q at) e ((found.same (omega arith)).1 at found.root found.from)

    pub met_sought : (AscL 0 C → (l : ℕ) → i < l → l < length C → get_or C l 0 ≡ key → l ≡ at) → Sought C at key i n p q → Met C i key n p q
    met_sought f s = go (stands key at C) refl
      where
        right : (b c : Bool) → b && c ≡ true → c ≡ true
        right true c h = h
        right false c h = absurd (true≢false (sym h))

        seen : (l : ℕ) → l < length C → get_or C l 0 ≡ key → l ≡ at → stands key at C ≡ true
        seen l b t e = subst (λ (x : ℕ). stands key x C ≡ true) e (rw (lt-ltb l (length C) b, t, eq-eqb key key refl))

        go : (b : Bool) → stands key at C ≡ b → Met C i key n p q
        go true h = met_found (stands_inside key at C h) (sym (eqb-true key (get_or C at 0) (right (ltb at (length C)) (eqb key (get_or C at 0)) h))) (s.found h)
        go false h = met_none (s.missed h).0 (s.missed h).1 (λ a l g b t u. true≢false (sym (seen l b t (f a l g b t)) ∙ h))

-- ---- where the two cells are
pub above_at : (C : List ℕ) → AscL 0 C → (i l : ℕ) → i < l → l < length C → get_or C l 0 ≡ get_or C i 0 + 1 → l ≡ i + 1
above_at C a i l h b e = go (dec_lt (i + 1) l)
  where
    go : Dec (i + 1 < l) → l ≡ i + 1
    go (yes x) = absurd (omega (arith, asc_l_less 0 C i (i + 1) a (omega arith) (omega arith), asc_l_less 0 C (i + 1) l a x b))
    go (no x) = omega arith

-- r: the place of `key` in the part after place i
pub right_at : (C : List ℕ) → AscL 0 C → (i key r : ℕ) → (AscL 0 (take (length C - (i + 1)) (drop (i + 1) C)) → r ≡ rank key (take (length C - (i + 1)) (drop (i + 1) C)))
    → (l : ℕ) → i < l → l < length C → get_or C l 0 ≡ key → l ≡ i + 1 + r
right_at C a i key r f l h b e =
    let t : take (length C - (i + 1)) (drop (i + 1) C) ≡ drop (suc i) C = tail_is (i + 1) C ∙ ap (λ (x : ℕ). drop x C) (add-one i) in
    let s : r ≡ rank key (drop (suc i) C) = subst (λ (D : List ℕ). AscL 0 D → r ≡ rank key D) t f (asc_l_drop 0 (suc i) C a) in
    let w : suc i + rank key (drop (suc i) C) ≡ l = rw e at (rank_after C a i l h b) in
    omega arith

-- ---- place i is planted, and both cells are sought
pub planted : {C p q u : List ℕ} {i n m : ℕ} → Down p → i < length p → i < length C → Met C i (get_or C i 0 + 1) n (set p i i) q → Met C i (get_or C i 0 + W) m q u → Planted C i (n + m) p u
planted {C} {p} {q} {u} {i} {n} {m} d room inside A B = record {
  down = B.down;
  few = omega (arith, A.few, B.few);
  grown = grown;
}
  where
    grown : AscL 0 C → (joined : ℕ) → Grown C p (suc i) (suc i) joined → Grown C u i i (joined + (n + m))
    grown a joined g = subst (Grown C u i i) e (grown_closed B.fixed (B.grown (suc i) (joined + n) g2) sides)
      where
        e : joined + n + m ≡ joined + (n + m)
        e = omega arith

        g1 : Grown C (set p i i) i (suc i) joined
        g1 = grown_planted d room inside g

        g2 : Grown C q i (suc i) (joined + n)
        g2 = A.grown (suc i) joined g1

        sides : (l : ℕ) → i < l → l < length C → T (adjacent (get_or C i 0) (get_or C l 0)) → Root u l i
        sides l h b t =
            ⊎_elim
            (λ s. B.kept l (A.there (suc i) joined g1 a l h b s (rw s at t)))
            (λ s. B.there (suc i) (joined + n) g2 a l h b s (rw s at t))
            (later_side (get_or C i 0) (get_or C l 0) (asc_l_less 0 C i l a h b) t)
