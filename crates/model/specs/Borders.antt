-- For theorems of our own: examples of this port's own, at the places where a wrong definition would still look right. proofs/Examples.antt shows that all pass.
use Rattle.std.specs.Prelude.{ℕ, Bool, true, false, not, ◌&&◌, ◌||◌, List, [], ◌∷◌, ◌++◌, T, eqb, length, replicate, ℤ, pos, negsuc, Float}
use Prim.Native.String.{String}
use Rattle.std.proofs.Math.Option.{Option, none, some}
use Rattle.std.specs.Float.{binary64, fin, nan}
use Rattle.std.specs.Float.Ieee.{div, of_bits}
use Rattle.ieee.specs.Constants.{nought, pow2}
use Rattle.model.specs.Maps.{find, is_some, has}
use Rattle.model.specs.Corner.{zero4}
use Rattle.model.specs.Plane.{Pt, centre}
use Rattle.model.specs.Segment.{passes_near}
use Rattle.model.specs.Shape.{Found, point, point_test, circle_test, sweep_test}
use Rattle.model.specs.Layer.{Point, Pair, link}
use Rattle.model.specs.Map.{Map, Entry, Op, batch, radius, fresh}
use Rattle.model.specs.Refusal.{bad_size, bad_radius, refuse_open, refuse_question, judge, refusal, step, opened}
use Rattle.model.specs.Answers.{changed_corners, visible_from, open_pairs, neighbours}
use Rattle.model.specs.Blocks.{block_count}
use Rattle.model.specs.Listing.{text, summary, listing}
use Rattle.model.specs.Examples.{c, num, pt, at, fill, clear, after, set_radius, pair_block, flat, same, ten, ten_again}

-- ---- tests
-- the segment between two cells' centres, and a cell, of size s
unfoldable pub near : Float → Float → ℕ → ℕ → ℕ → Bool
near s r p q k = passes_near (record { p0 = centre s p; p1 = centre s q }) k s r

-- what the sweep would be, were it the near test
unfoldable pub near_test : Float → List ℕ → Pt → Pt → Float → Found
near_test s C p q w = record { cell = find (λ k. passes_near (record { p0 = p; p1 = q }) k s (div binary64 w (pow2 1))) C }

abbrev pub taken : Found → Bool
taken f = is_some f.cell

-- 2.8, 2 ^ 55, 1e-9, 1e308, 16256 + 2 ^ -39, 1000.1, 500.05
unfoldable pub bits : ℕ → Float
bits n = of_bits binary64 n

-- what an operation on an empty map is answered with, if it would leave n cells and p points: only their numbers are looked at
unfoldable pub filled : ℕ → ℕ → Map
filled n p = record { size = c; cells = replicate n 0; layer = record { radius = nought; points = replicate p (0, record { bits = zero4; block = none }); edges = [] } }

unfoldable pub leaving : Op → ℕ → ℕ → ℕ
leaving o n p = judge [] o (fresh c nought) (filled n p)

unfoldable pub borders : List (String × Bool)
borders =
    ("a corner at a distance of exactly r is not nearer", not (near (pow2 1) (pow2 0) (at (pos 0) (pos 0)) (at (pos 4) (pos 0)) (at (pos 2) (pos 1))))
    ∷ (
      "a corner at exactly the bound says no, before a nearer one is seen",
      not (passes_near (record { p0 = pt (negsuc 63) (pos 36028797018963968); p1 = pt (pos 64) (pos 36028797018963968) }) (at (pos 0) (pos 0)) (bits 0x4006_6666_6666_6666) (pow2 55)),
    )
    ∷ ("a segment along a cell's diagonal does not pass near it, r = 0", not (near c nought (at (pos 1) (pos 1)) (at (pos 5) (pos 5)) (at (pos 3) (pos 3))))
    ∷ (
      "near test and sweep are two questions: of width 0 along a cell's diagonal only the sweep finds it",
      taken (sweep_test c (at (pos 3) (pos 3) ∷ []) (centre c (at (pos 1) (pos 1))) (centre c (at (pos 5) (pos 5))) nought)
          && not (taken (near_test c (at (pos 3) (pos 3) ∷ []) (centre c (at (pos 1) (pos 1))) (centre c (at (pos 5) (pos 5))) nought)),
    )
    ∷ (
      "a small circle inside an occupied cell, near its corner, is free; the point test finds the cell",
      not (taken (circle_test c (at (pos 0) (pos 0) ∷ []) (pt (pos 10) (pos 10)) (num (pos 5)))) && taken (point_test c (at (pos 0) (pos 0) ∷ []) (pt (pos 10) (pos 10))),
    )
    ∷ (
      "the sweep is not symmetric in its ends",
      taken (sweep_test (pow2 1) (at (pos 2) (pos 0) ∷ []) (pt (pos 1) (pos 1)) (pt (pos 9) (pos 7)) (pow2 1))
          && not (taken (sweep_test (pow2 1) (at (pos 2) (pos 0) ∷ []) (pt (pos 9) (pos 7)) (pt (pos 1) (pos 1)) (pow2 1))),
    )
    ∷ (
      "a sweep shorter than 1e-8 is the point test, for any width",
      not (taken (sweep_test c (at (pos 1) (pos 0) ∷ []) (pt (pos 0) (pos 0)) (record { x = bits 0x3e11_2e0b_e826_d695; y = nought }) (num (pos 1024)))),
    )
    ∷ (
      "bounds are inclusive: 1/1024 and 65,536, shift 64; a radius whose quotient rounds to 63.5 has shift 64",
      not (bad_size (fin false 1 (negsuc 9))) && not (bad_size (pow2 16)) && bad_size (bits 0x40f0_0000_0000_0001) && not (bad_radius c (num (pos 16256))) && bad_radius c (num (pos 16257))
          && not (bad_radius c (bits 0x40cf_c000_0000_0001)) && bad_radius c (bits 0x7fe1_ccf3_85eb_c8a0) && not (bad_radius c (fin true 0 (pos 0))),
    )
    ∷ (
      "disorder comes before a coordinate outside, length before both",
      eqb (refusal (batch (fill (pos 2000000) (pos 0) ∷ fill (pos 0) (pos 0) ∷ [])) (fresh c (num (pos 128)))) 4
          && eqb (refusal (batch (fill (pos 0) (pos 1048577) ∷ [])) (fresh c (num (pos 128)))) 5 && eqb (refusal (batch (fill (pos 0) (negsuc 1048575) ∷ [])) (fresh c (num (pos 128)))) 0
          && eqb (refusal (batch (replicate 257 (fill (pos 0) (pos 0)))) (fresh c (num (pos 128)))) 3 && eqb (refusal (batch (replicate 256 (fill (pos 0) (pos 0)))) (fresh c (num (pos 128)))) 4,
    )
    ∷ (
      "room is judged on the state afterwards: 1,024 cells and 64 points pass, one more does not",
      eqb (leaving (batch []) 1024 64) 0 && eqb (leaving (batch []) 1025 64) 6 && eqb (leaving (batch []) 1024 65) 7 && eqb (leaving (radius nought) 1024 64) 0 && eqb (leaving (radius nought) 1024 65) 7,
    )
    ∷ (
      "cells that touch at a corner are two blocks, at a side one",
      eqb (block_count (at (pos 0) (pos 0) ∷ at (pos 1) (pos 1) ∷ [])) 2 && eqb (block_count (at (pos 0) (pos 0) ∷ at (pos 0) (pos 1) ∷ at (pos 1) (pos 1) ∷ [])) 1,
    )
    ∷ []

-- ---- the order of refusals, each number against the next: both are due, and once the first is mended the second is answered
-- a batch on a map that it would leave as it is
unfoldable pub judged : List Entry → Map → ℕ
judged l m = judge [] (batch l) m m

unfoldable pub orders : List (String × Bool)
orders =
    ("9 before 1", eqb (refuse_open ((0, 1) ∷ []) nought nought) 9 && eqb (refuse_open [] nought nought) 1)
    ∷ ("1 before 2", eqb (refuse_open [] nought nan) 1 && eqb (refuse_open [] c nan) 2)
    ∷ ("2 before 3", eqb (judged (replicate 257 (fill (pos 0) (pos 0))) (fresh c nan)) 2 && eqb (judged (replicate 257 (fill (pos 0) (pos 0))) (fresh c nought)) 3)
    ∷ ("3 before 4", eqb (judged (replicate 257 (fill (pos 0) (pos 0))) (fresh c nought)) 3 && eqb (judged (replicate 256 (fill (pos 0) (pos 0))) (fresh c nought)) 4)
    ∷ ("4 before 5", eqb (judged (fill (pos 2000000) (pos 0) ∷ fill (pos 0) (pos 0) ∷ []) (fresh c nought)) 4 && eqb (judged (fill (pos 2000000) (pos 0) ∷ []) (fresh c nought)) 5)
    ∷ ("5 before 6", eqb (judged (fill (pos 2000000) (pos 0) ∷ []) (filled 1025 0)) 5 && eqb (judged [] (filled 1025 0)) 6)
    ∷ ("6 before 7", eqb (judged [] (filled 1025 65)) 6 && eqb (judged [] (filled 1024 65)) 7)
    ∷ ("7 before 8", eqb (refuse_question [] (filled 0 65) (point (record { x = nan; y = nought }))) 7 && eqb (refuse_question [] (filled 0 64) (point (record { x = nan; y = nought }))) 8)
    ∷ []

-- ---- answers
-- the pair is among those listed
unfoldable pub joins : ℕ → ℕ → List Pair → Bool
joins p q [] = false
joins p q (e ∷ l) = eqb e.lesser p && eqb e.greater q || joins p q l

unfoldable pub answers : List (String × Bool)
answers = (
  "from a point: its unblocked pairs without looking at point blockers; an open pair looks at them",
  has (at (negsuc 1) (pos 2)) (visible_from (after 200 ten_again) (at (pos 2) (pos 2))) && not (joins (at (negsuc 1) (pos 2)) (at (pos 2) (pos 2)) (open_pairs (after 200 ten_again))),
)
    ∷ (
      "neighbours in the order of the eight directions; none if the square is taken",
      same (neighbours (after 128 (batch (fill (pos 0) (pos 0) ∷ []) ∷ [])) (at (pos 1) (pos 0)))
          (at (pos 1) (negsuc 0) ∷ at (pos 1) (pos 1) ∷ at (pos 2) (negsuc 0) ∷ at (pos 2) (pos 0) ∷ at (pos 2) (pos 1) ∷ [])
          && same (neighbours (after 128 (batch (fill (pos 0) (pos 0) ∷ []) ∷ [])) (at (pos 0) (pos 0))) [],
    )
    ∷ (
      "a corner change at a diagonal neighbour is listed, in the order met",
      same (flat (changed_corners (fill (pos 1) (pos 1) ∷ []) (after 128 (batch (fill (pos 0) (pos 0) ∷ []) ∷ [])))) (at (pos 0) (pos 0) ∷ 7 ∷ at (pos 1) (pos 1) ∷ 14 ∷ []),
    )
    ∷ []

-- ---- updates: a pair through a run, as both its ends have it after each operation (1 for no pair, 0 for no blocker)
unfoldable pub both_ends : Map → ℕ → ℕ → List ℕ
both_ends m p q = pair_block m p q ∷ pair_block m q p ∷ []

unfoldable pub through : List Op → ℕ → ℕ → Map → List ℕ
through [] p q m = []
through (o ∷ os) p q m = let n = step o m in both_ends n p q ++ through os p q n

-- (0,0) and (6,-6), r = 128, have the points (1,1) of status 8 and (5,-5) of status 4, which see each other; (2,0) gives (1,1) the bit 4, which hides them
unfoldable pub hiding : List Op
hiding = batch (fill (pos 0) (pos 0) ∷ fill (pos 6) (negsuc 5) ∷ []) ∷ batch (fill (pos 2) (pos 0) ∷ []) ∷ batch (clear (pos 2) (pos 0) ∷ []) ∷ []

-- the cells of example 10, r = 200; the second is freed again; with r = 128 the points are one cell away from their corners and not two
unfoldable pub blocking : List Op
blocking = ten ++ (batch (clear (negsuc 2) (pos 2) ∷ []) ∷ set_radius 128 ∷ [])

unfoldable pub updates : List (String × Bool)
updates = (
  "a pair is held from both ends; a bit that is set hides it, one that is cleared shows it again",
  same (through hiding (at (pos 1) (pos 1)) (at (pos 5) (negsuc 4)) (opened c (num (pos 128)))) (0 ∷ 0 ∷ 1 ∷ 1 ∷ 0 ∷ 0 ∷ []),
)
    ∷ (
      "an added cell that passes near blocks a stored pair, from both ends; freeing it repeats the sweep; another radius has other points",
      same (through blocking (at (negsuc 1) (pos 2)) (at (pos 2) (pos 2)) (opened c (num (pos 200)))) (0 ∷ 0 ∷ at (negsuc 2) (pos 2) ∷ at (negsuc 2) (pos 2) ∷ 0 ∷ 0 ∷ 1 ∷ 1 ∷ []),
    )
    ∷ []

-- ---- counts, all different, of a map that is written down: five cells in two racks, six points of which (2, 0) is blocked, three pairs of which one is blocked
abbrev pub spot : ℤ → Option ℕ → ℕ × Point
spot x b = (at x (pos 0), record { bits = zero4; block = b })

unfoldable pub six_points : Map
six_points =
    record {
      size = c;
      cells = at (pos 0) (pos 0) ∷ at (pos 0) (pos 1) ∷ at (pos 0) (pos 2) ∷ at (pos 5) (pos 5) ∷ at (pos 5) (pos 6) ∷ [];
      layer =
          record {
            radius = nought;
            points = spot (pos 0) none ∷ spot (pos 1) none ∷ spot (pos 2) (some (at (pos 5) (pos 5))) ∷ spot (pos 3) none ∷ spot (pos 4) none ∷ spot (pos 5) none ∷ [];
            edges = link (at (pos 0) (pos 0)) (at (pos 1) (pos 0)) (some (at (pos 5) (pos 5))) (link (at (pos 0) (pos 0)) (at (pos 2) (pos 0)) none (link (at (pos 0) (pos 0)) (at (pos 3) (pos 0)) none []));
          };
    }

unfoldable pub counts : List (String × Bool)
counts = ("the listing's first line", same (summary six_points) (text "cells 5 corners 4 points 6 edges 3 open 1 blocks 2\n")) ∷ []

-- ---- map files: fields 01 and 02 of the worked file, then what follows
unfoldable pub head : List ℕ
head = 0x01 ∷ 0x00 ∷ 0x08 ∷ 0x40 ∷ 0x70 ∷ 0 ∷ 0 ∷ 0 ∷ 0 ∷ 0 ∷ 0 ∷ []

unfoldable pub heads : List ℕ
heads = head ++ (0x02 ∷ 0x00 ∷ 0x08 ∷ 0x40 ∷ 0x60 ∷ 0 ∷ 0 ∷ 0 ∷ 0 ∷ 0 ∷ 0 ∷ [])

abbrev pub entry : ℕ → ℕ → List ℕ
entry b o = 0 ∷ b ∷ 0 ∷ 1 ∷ 0 ∷ 0 ∷ 0 ∷ 0 ∷ o ∷ []

unfoldable pub gives : List ℕ → String → Bool
gives b s = same (listing b) (text s)

unfoldable pub files : List (String × Bool)
files =
    ("the empty file", gives [] "refused 10 at 0\n")
    ∷ ("one byte of the length", gives (0x01 ∷ 0 ∷ []) "refused 10 at 0\n")
    ∷ ("a bad cell size, whatever follows", gives (0x01 ∷ 0x00 ∷ 0x08 ∷ replicate 8 0) "refused 1 at 0\n")
    ∷ ("a file that stops between fields", gives head "refused 10 at 1\n")
    ∷ ("a known tag out of its place", gives (head ++ (0x03 ∷ 0xff ∷ 0xff ∷ [])) "refused 10 at 1\n")
    ∷ ("a bad radius", gives (head ++ (0x02 ∷ 0x00 ∷ 0x08 ∷ replicate 8 0xff)) "refused 2 at 1\n")
    ∷ ("a batch too long, its value missing, no multiple of 9", gives (heads ++ (0x03 ∷ 0x09 ∷ 0x01 ∷ [])) "refused 3 at 2\n")
    ∷ ("a length that is no multiple of 9", gives (heads ++ (0x03 ∷ 0x00 ∷ 0x08 ∷ replicate 8 0)) "refused 10 at 2\n")
    ∷ ("a last byte above 1 comes before 4 and 5", gives (heads ++ (0x03 ∷ 0x00 ∷ 0x12 ∷ []) ++ entry 0x10 1 ++ entry 0x10 2) "refused 10 at 2\n")
    ∷ ("a value cut short", gives (heads ++ (0x03 ∷ 0x00 ∷ 0x12 ∷ []) ++ entry 0 1) "refused 10 at 2\n")
    ∷ ("a cell named twice", gives (heads ++ (0x03 ∷ 0x00 ∷ 0x12 ∷ []) ++ entry 0 1 ++ entry 0 1) "refused 4 at 2\n")
    ∷ ("a coordinate of 1,048,577", gives (heads ++ (0x03 ∷ 0x00 ∷ 0x09 ∷ []) ++ entry 0x10 1) "refused 5 at 2\n")
    ∷ ("FF with a length", gives (heads ++ (0xff ∷ 0x00 ∷ 0x01 ∷ 0 ∷ [])) "refused 10 at 2\n")
    ∷ ("bytes after FF", gives (heads ++ (0xff ∷ 0x00 ∷ 0x00 ∷ 0 ∷ [])) "refused 10 at 3\n")
    ∷ ("no FF after an empty batch", gives (heads ++ (0x03 ∷ 0x00 ∷ 0x00 ∷ [])) "refused 10 at 3\n")
    ∷ ("an empty floor", gives (heads ++ (0x03 ∷ 0x00 ∷ 0x00 ∷ 0xff ∷ 0x00 ∷ 0x00 ∷ [])) "cells 0 corners 0 points 0 edges 0 open 0 blocks 0\n")
    ∷ []

abbrev pub AllNamed : List (String × Bool) → Type 0
AllNamed [] = Unit {0}
AllNamed (e ∷ l) = T e.1 × AllNamed l
