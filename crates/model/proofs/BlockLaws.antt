-- Laws of blocks: links, classes of linked cells, how often the blocks name a cell, and the pigeonhole. Assumes nothing.
use Prim.Native.Nat.{ℕ, zero, suc, ◌+◌, ◌-◌, ◌≤◌, ◌<◌, min, max, zero-le, suc-le-suc}
use native.Mathlib.Nat.{le_of_suc-le-suc, not-suc-le-zero, le_refl}
use native.Mathlib.Omega.{arith}
use mathlib.Core.Path.{◌≡◌, refl, sym, ap, ◌∙◌}
use mathlib.Core.Logic.{◌≢◌, ◌⊎◌, inl, inr, ⊎_elim, ◌↔◌}
use mathlib.Core.Bool.{Bool, true, false, not, cond, ◌||◌}
use mathlib.Core.List.{List, [], ◌∷◌, ◌++◌}
use lib.Dec.{T, eqb, eqb→eq, T_not}
use lib.ListN.{length, get_or}
use Rattle.ieee.proofs.Tools.{or_cases}
use Rattle.model.specs.Maps.{has, sift, AscL}
use Rattle.model.specs.Cell.{col, row, apart}
use Rattle.model.specs.Blocks.{adjacent, Linked, here, on, touches, union, join_cell, blocks_of}
use Rattle.model.proofs.MapLaws.{T→true, or_left, or_right, has_append, has_cases, has_first, has_later}

-- ---- adjacency: all that is used of it
pub adjacent_sym : (a b : ℕ) → adjacent a b ≡ adjacent b a
unfolding adjacent
adjacent_sym a b =
    let e : apart (col a) (col b) + apart (row a) (row b) ≡ apart (col b) (col a) + apart (row b) (row a) = omega arith in
    ap (λ n. eqb n 1) e

touches_into : (k j : ℕ) (b : List ℕ) → T (has j b) → T (adjacent k j) → T (touches k b)
unfolding touches has
touches_into k j [] u s = u
touches_into k j (x ∷ b) u s =
    ⊎_elim (λ e. or_left (adjacent k x) (touches k b) (rw e at s)) (λ v. or_right (adjacent k x) (touches k b) (touches_into k j b v s)) (has_cases j x b u)

touches_out : (k : ℕ) (b : List ℕ) → T (touches k b) → (j : ℕ) × T (has j b) × T (adjacent k j)
unfolding touches has
touches_out k [] t = absurd t
touches_out k (x ∷ b) t =
    ⊎_elim (λ s. (x, has_first x b, s)) (λ v. let r = touches_out k b v in (r.0, has_later r.0 x b r.1, r.2)) (or_cases (adjacent k x) (touches k b) t)

-- ---- links
-- A link ends at an occupied cell.
pub linked_end : {C : List ℕ} {a b : ℕ} → Linked C a b → T (has b C)
linked_end (here h) = h
linked_end (on p s h) = h

-- Links join.
pub linked_trans : {C : List ℕ} {a b c : ℕ} → Linked C a b → Linked C b c → Linked C a c
linked_trans p (here h) = p
linked_trans p (on q s h) = on (linked_trans p q) s h

-- A link can be walked back.
pub linked_sym : {C : List ℕ} {a b : ℕ} → Linked C a b → Linked C b a
linked_sym (here h) = here h
linked_sym (on {b} {c} p s h) = linked_trans (on (here h) (rw (adjacent_sym b c) at s) (linked_end p)) (linked_sym p)

-- One cell more breaks no link.
linked_more : {C : List ℕ} {a b : ℕ} (k : ℕ) → Linked C a b → Linked (k ∷ C) a b
linked_more {C} {a} k (here h) = here (has_later a k C h)
linked_more {C} k (on {c} p s h) = on (linked_more k p) s (has_later c k C h)

-- ---- the members of `union` and `sift`
union_later : (l : ℕ) (b : List ℕ) (bs : List (List ℕ)) → T (has l (union bs)) → T (has l (b ++ union bs))
union_later l b bs u = rw (has_append l b (union bs)) (or_right (has l b) (has l (union bs)) u)

union_into : (l : ℕ) (bs : List (List ℕ)) (i : ℕ) → T (has l (get_or bs i [])) → T (has l (union bs))
unfolding union
union_into l [] i u = u
union_into l (b ∷ bs) zero u = rw (has_append l b (union bs)) (or_left (has l b) (has l (union bs)) u)
union_into l (b ∷ bs) (suc i) u = union_later l b bs (union_into l bs i u)

pub union_out : (l : ℕ) (bs : List (List ℕ)) → T (has l (union bs)) → (i : ℕ) × (i < length bs) × T (has l (get_or bs i []))
unfolding union has
union_out l [] u = absurd u
union_out l (b ∷ bs) u =
    ⊎_elim (λ v. (0, suc-le-suc zero-le, v)) (λ v. let r = union_out l bs v in (suc r.0, suc-le-suc r.1, r.2)) (or_cases (has l b) (has l (union bs)) (rw (has_append l b (union bs)) at u))

sift_each : (P : List ℕ → Type 0) (p : List ℕ → Bool) (bs : List (List ℕ)) → ((i : ℕ) → i < length bs → P (get_or bs i []))
    → (i : ℕ) → i < length (sift p bs) → P (get_or (sift p bs) i []) × T (p (get_or (sift p bs) i []))
unfolding sift
sift_each P p [] f i h = absurd (not-suc-le-zero h)
sift_each P p (b ∷ bs) f i h = go (p b) (λ t. t) (sift_each P p bs (λ j g. f (suc j) (suc-le-suc g))) i h
  where
    go : (q : Bool) → (T q → T (p b)) → ((i : ℕ) → i < length (sift p bs) → P (get_or (sift p bs) i []) × T (p (get_or (sift p bs) i []))) → (i : ℕ) → i < length (cond q (b ∷ sift p bs) (sift p bs))
        → P (get_or (cond q (b ∷ sift p bs) (sift p bs)) i []) × T (p (get_or (cond q (b ∷ sift p bs) (sift p bs)) i []))
    go true t ih zero h = (f 0 (suc-le-suc zero-le), t tt)
    go true t ih (suc i) h = ih i (le_of_suc-le-suc h)
    go false t ih i h = ih i h

union_sift : (l : ℕ) (p : List ℕ → Bool) (bs : List (List ℕ)) (i : ℕ) → T (p (get_or bs i [])) → T (has l (get_or bs i [])) → T (has l (union (sift p bs)))
unfolding union sift
union_sift l p [] i t u = u
union_sift l p (b ∷ bs) zero t u = rw (T→true (p b) t) (union_into l (b ∷ sift p bs) 0 u)
union_sift l p (b ∷ bs) (suc i) t u = go (p b) (union_sift l p bs i t u)
  where
    go : (q : Bool) → T (has l (union (sift p bs))) → T (has l (union (cond q (b ∷ sift p bs) (sift p bs))))
    go true v = union_later l b (sift p bs) v
    go false v = v

-- ---- classes
-- linked cells, together with every occupied cell that is adjacent to one of them
pub record Class (C b : List ℕ) : Type 0 where
  pub root : ℕ
  pub rooted : T (has root b)
  pub linked : (l : ℕ) → T (has l b) → Linked C root l
  pub closed : (j l : ℕ) → T (has j b) → T (adjacent j l) → T (has l C) → T (has l b)

-- Any two cells of a class are linked.
pub class_linked : {C b : List ℕ} → Class C b → (j l : ℕ) → T (has j b) → T (has l b) → Linked C j l
class_linked c j l u v = linked_trans (linked_sym (c.linked j u)) (c.linked l v)

-- What is linked to a cell of a class is in the class.
pub class_closed : {C b : List ℕ} {j l : ℕ} → Class C b → T (has j b) → Linked C j l → T (has l b)
class_closed c u (here h) = u
class_closed c u (on {b = x} {c = y} p s h) = c.closed x y (class_closed c u p) s h

-- A class that the new cell k does not touch stays one.
class_kept : {C b : List ℕ} (k : ℕ) → Class C b → T (not (touches k b)) → Class (k ∷ C) b
class_kept {C} {b} k c t =
    record {
      root = c.root;
      rooted = c.rooted;
      linked = λ l u. linked_more k (c.linked l u);
      closed = λ j l u s h. ⊎_elim (λ (e : l ≡ k). absurd (T_not (touches k b) t (touches_into k j b u (rw (e, adjacent_sym j k) at s)))) (c.closed j l u s) (has_cases l k C h);
    }

-- The new cell k and the classes that it touches become one.
class_joined : (k : ℕ) (C : List ℕ) (bs : List (List ℕ)) → ((l : ℕ) → T (has l C) → T (has l (union bs))) → ((i : ℕ) → i < length bs → Class C (get_or bs i []))
    → Class (k ∷ C) (k ∷ union (sift (touches k) bs))
class_joined k C bs cover cl =
    record {
      root = k;
      rooted = has_first k U;
      linked = λ l u. ⊎_elim (λ e. rw e (here (has_first k C))) (reach l) (has_cases l k U u);
      closed = λ j l u s h. ⊎_elim (λ e. rw e (has_first k U)) (λ v. has_later l k U (next j l s v (has_cases j k U u))) (has_cases l k C h);
    }
  where
    ts : List (List ℕ)
    ts = sift (touches k) bs

    U : List ℕ
    U = union ts

    met : (i : ℕ) → i < length ts → Class C (get_or ts i []) × T (touches k (get_or ts i []))
    met = sift_each (Class C) (touches k) bs cl

    reach : (l : ℕ) → T (has l U) → Linked (k ∷ C) k l
    reach l u =
        let r = union_out l ts u in
        let c = met r.0 r.1 in
        let t = touches_out k (get_or ts r.0 []) c.1 in
        let p = class_linked c.0 t.0 l t.1 r.2 in
        linked_trans (on (here (has_first k C)) t.2 (has_later t.0 k C (linked_end (linked_sym p)))) (linked_more k p)

    next : (j l : ℕ) → T (adjacent j l) → T (has l C) → (j ≡ k) ⊎ T (has j U) → T (has l U)
    next j l s h (inl e) =
        let r = union_out l bs (cover l h) in
        union_sift l (touches k) bs r.0 (touches_into k l (get_or bs r.0 []) r.2 (rw e at s)) r.2
    next j l s h (inr u) =
        let r = union_out j ts u in
        union_into l ts r.0 ((met r.0 r.1).0.closed j l r.2 s h)

-- ---- how often a list names a cell
times : ℕ → List ℕ → ℕ
times l [] = 0
times l (x ∷ m) = cond (eqb l x) 1 0 + times l m

has_times : (l : ℕ) (m : List ℕ) → T (has l m) ↔ (0 < times l m)
unfolding has times
has_times l [] = (λ u. absurd u, λ h. not-suc-le-zero h)
has_times l (x ∷ m) = go (eqb l x) (has_times l m)
  where
    go : (q : Bool) → T (has l m) ↔ (0 < times l m) → T (q || has l m) ↔ (0 < cond q 1 0 + times l m)
    go true ih = (λ u. omega arith, λ h. tt)
    go false ih = (λ u. let h = ih.0 u in omega arith, λ h. ih.1 (omega arith))

times_append : (l : ℕ) (a b : List ℕ) → times l (a ++ b) ≡ times l a + times l b
unfolding times
times_append l [] b = omega arith
times_append l (x ∷ a) b = let ih = times_append l a b in omega arith

times_sift : (l : ℕ) (p : List ℕ → Bool) (bs : List (List ℕ)) → times l (union (sift p bs)) + times l (union (sift (λ b. not (p b)) bs)) ≡ times l (union bs)
unfolding times union sift
times_sift l p [] = refl
times_sift l p (b ∷ bs) = go (p b) (sift p bs) (sift (λ c. not (p c)) bs) (times_sift l p bs)
  where
    go : (q : Bool) (xs ys : List (List ℕ)) → times l (union xs) + times l (union ys) ≡ times l (union bs)
        → times l (union (cond q (b ∷ xs) xs)) + times l (union (cond (not q) (b ∷ ys) ys)) ≡ times l (b ++ union bs)
    go true xs ys ih = omega (arith, times_append l b (union xs), times_append l b (union bs))
    go false xs ys ih = omega (arith, times_append l b (union ys), times_append l b (union bs))

-- The blocks name each cell as often as C does.
times_blocks : (l : ℕ) (C : List ℕ) → times l (union (blocks_of C)) ≡ times l C
unfolding times union blocks_of join_cell
times_blocks l [] = refl
times_blocks l (k ∷ C) =
    let bs = blocks_of C in
    omega (arith, times_append l (union (sift (touches k) bs)) (union (sift (λ b. not (touches k b)) bs)), times_sift l (touches k) bs, times_blocks l C)

-- Ascending cells name each at most once.
times_asc : (l lo : ℕ) (C : List ℕ) → AscL lo C → (times l C ≤ 1) × (l < lo → times l C ≡ 0)
unfolding times
times_asc l lo [] a = (zero-le, λ h. refl)
times_asc l lo (x ∷ C) a = go (eqb l x) (eqb→eq l x) (times_asc l (suc x) C a.1)
  where
    go : (q : Bool) → (T q → l ≡ x) → (times l C ≤ 1) × (l < suc x → times l C ≡ 0) → (cond q 1 0 + times l C ≤ 1) × (l < lo → cond q 1 0 + times l C ≡ 0)
    go true e ih = let s = e tt in let z = ih.1 (omega arith) in let y = a.0 in (omega arith, λ h. omega arith)
    go false e ih = let y = a.0 in (omega arith, λ h. let z = ih.1 (omega arith) in omega arith)

-- A cell of two blocks is named twice.
times_both : (l : ℕ) (b : List ℕ) (bs : List (List ℕ)) (j : ℕ) → T (has l b) → T (has l (get_or bs j [])) → 1 < times l (b ++ union bs)
times_both l b bs j u v = omega (arith, times_append l b (union bs), (has_times l b).0 u, (has_times l (union bs)).0 (union_into l bs j v))

times_two : (l : ℕ) (bs : List (List ℕ)) (i j : ℕ) → i ≢ j → T (has l (get_or bs i [])) → T (has l (get_or bs j [])) → 1 < times l (union bs)
unfolding union has
times_two l [] i j n u v = absurd u
times_two l (b ∷ bs) zero zero n u v = absurd (n refl)
times_two l (b ∷ bs) zero (suc j) n u v = times_both l b bs j u v
times_two l (b ∷ bs) (suc i) zero n u v = times_both l b bs i v u
times_two l (b ∷ bs) (suc i) (suc j) n u v = omega (arith, times_append l b (union bs), times_two l bs i j (λ e. n (ap suc e)) u v)

-- ---- the list of the blocks
-- Each occupied cell is in a block.
pub blocks_cover : (C : List ℕ) (l : ℕ) → T (has l C) → T (has l (union (blocks_of C)))
blocks_cover C l u = (has_times l (union (blocks_of C))).1 (rw (times_blocks l C) ((has_times l C).0 u))

-- Each block is a class.
pub blocks_class : (C : List ℕ) (i : ℕ) → i < length (blocks_of C) → Class C (get_or (blocks_of C) i [])
unfolding blocks_of join_cell
blocks_class [] i h = absurd (not-suc-le-zero h)
blocks_class (k ∷ C) zero h = class_joined k C (blocks_of C) (blocks_cover C) (blocks_class C)
blocks_class (k ∷ C) (suc i) h = let c = sift_each (Class C) (λ b. not (touches k b)) (blocks_of C) (blocks_class C) i (le_of_suc-le-suc h) in class_kept k c.0 c.1

-- No cell is in two blocks.
pub blocks_differ : (C : List ℕ) → AscL 0 C → (l i j : ℕ) → i ≢ j → T (has l (get_or (blocks_of C) i [])) → T (has l (get_or (blocks_of C) j [])) → ⊥
blocks_differ C a l i j n u v = omega (arith, times_two l (blocks_of C) i j n u v, times_blocks l C, (times_asc l 0 C a).0)

-- ---- pigeonhole
-- closes the gap at v: what is above v moves down by one
abbrev close : ℕ → ℕ → ℕ
close v x = min x (max v (x - 1))

close_below : (n v x : ℕ) → v < suc n → x < suc n → x ≢ v → close v x < n
close_below n v x g h d = omega arith

close_back : (v x : ℕ) → x ≢ v → close v x + min 1 (suc (close v x) - v) ≡ x
close_back v x d = omega arith

close_same : (v x y : ℕ) → x ≢ v → y ≢ v → close v x ≡ close v y → x ≡ y
close_same v x y d e q = sym (close_back v x d) ∙ ap (λ z. z + min 1 (suc z - v)) q ∙ close_back v y e

-- If each number below m has one below n of its own, then m is at most n.
pub pigeonhole : (m n : ℕ) (f : (i : ℕ) → i < m → ℕ) → ((i : ℕ) (h : i < m) → f i h < n) → ((i j : ℕ) (h : i < m) (g : j < m) → f i h ≡ f j g → i ≡ j) → m ≤ n
pigeonhole zero n f below own = zero-le
pigeonhole (suc m) zero f below own = absurd (not-suc-le-zero (below m (le_refl (suc m))))
pigeonhole (suc m) (suc n) f below own =
    suc-le-suc (pigeonhole m n (λ i h. close v (f i (up h))) (λ i h. close_below n v (f i (up h)) (below m last) (below i (up h)) (other i h))
    (λ i j h g e. own i j (up h) (up g) (close_same v (f i (up h)) (f j (up g)) (other i h) (other j g) e)))
  where
    last : m < suc m
    last = le_refl (suc m)

    v : ℕ
    v = f m last

    up : {i : ℕ} → i < m → i < suc m
    up h = omega arith

    other : (i : ℕ) (h : i < m) → f i (up h) ≢ v
    other i h e = let q = own i m (up h) last e in omega arith
