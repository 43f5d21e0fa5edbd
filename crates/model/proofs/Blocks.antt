-- The blocks of the occupied cells are what `blocks_of` lists, and `block_count` counts them. Assumes nothing.
use Prim.Native.Nat.{ℕ, ◌≤◌, ◌<◌}
use native.Mathlib.Nat.{le_antisymm}
use native.Mathlib.Decide.{ℕ_discrete}
use mathlib.Core.Path.{◌≡◌}
use mathlib.Core.List.{List, []}
use lib.Dec.{T}
use lib.ListN.{length, get_or}
use Rattle.model.specs.Maps.{has, AscL}
use Rattle.model.specs.Blocks.{Blocks, Linked, blocks_of, block_count}
use Rattle.model.proofs.BlockLaws.{linked_end, union_out, class_linked, class_closed, blocks_cover, blocks_class, blocks_differ, pigeonhole}

-- `blocks_of` lists the blocks: each has a cell, each occupied cell lies in one, and two cells lie in the same exactly when they are linked.
pub blocks_right : (C : List ℕ) → AscL 0 C → Blocks C (blocks_of C)
blocks_right C a =
    record {
      filled = λ i h. ((blocks_class C i h).root, (blocks_class C i h).rooted);
      covered = λ k u. union_out k (blocks_of C) (blocks_cover C k u);
      linked = λ i h. class_linked (blocks_class C i h);
      apart = λ i j h g n k l u v p. blocks_differ C a l i j n (class_closed (blocks_class C i h) u p) v;
    }

-- Each block of bs has a cell, which lies in a block of cs: another block for each, since cells of one block are linked.
fewer : (C : List ℕ) (bs cs : List (List ℕ)) → Blocks C bs → Blocks C cs → length bs ≤ length cs
fewer C bs cs B D = pigeonhole (length bs) (length cs) (λ i h. (home i h).0) (λ i h. (home i h).1) own
  where
    home : (i : ℕ) (h : i < length bs) → (j : ℕ) × (j < length cs) × T (has (B.filled i h).0 (get_or cs j []))
    home i h = let c = B.filled i h in D.covered c.0 (linked_end (B.linked i h c.0 c.0 c.1 c.1))

    own : (i j : ℕ) (h : i < length bs) (g : j < length bs) → (home i h).0 ≡ (home j g).0 → i ≡ j
    own i j h g e = go (ℕ_discrete i j)
      where
        link : Linked C (B.filled i h).0 (B.filled j g).0
        link = D.linked (home i h).0 (home i h).1 (B.filled i h).0 (B.filled j g).0 (home i h).2 (rw e (home j g).2)

        go : Dec (i ≡ j) → i ≡ j
        go (yes q) = q
        go (no n) = absurd (B.apart i j h g n (B.filled i h).0 (B.filled j g).0 (B.filled i h).1 (B.filled j g).1 link)

-- However the blocks are listed, there are as many of them.
pub blocks_one : (C : List ℕ) (bs cs : List (List ℕ)) → Blocks C bs → Blocks C cs → length bs ≡ length cs
blocks_one C bs cs B D = le_antisymm (fewer C bs cs B D) (fewer C cs bs D B)

-- `block_count` is the number of blocks.
pub block_count_lem : (C : List ℕ) → AscL 0 C → (bs : List (List ℕ)) → Blocks C bs → length bs ≡ block_count C
unfolding block_count
block_count_lem C a bs B = blocks_one C bs (blocks_of C) B (blocks_right C a)
