-- The worked examples (RULES 9.2), all at c = 256, as tests of the definitions. `table` has those that are marked P. proofs/Examples.antt shows that all pass.
use Rattle.std.specs.Prelude.{ℕ, ◌≡◌, Bool, true, false, not, cond, ◌&&◌, List, [], ◌∷◌, ◌++◌, T, eqb, ℤ, pos, negsuc, Float}
use Rattle.std.proofs.Math.Option.{Option, none, some}
use Rattle.std.specs.Int.Signed.{le_z}
use Rattle.std.specs.Float.{binary64}
use Rattle.std.specs.Float.Ieee.{of_int}
use Rattle.ieee.specs.Constants.{pow2}
use Rattle.model.specs.Maps.{get, is_some}
use Rattle.model.specs.Cell.{key, x_of, y_of}
use Rattle.model.specs.Corner.{Bits, number, status_of}
use Rattle.model.specs.Plane.{Pt, cell_of}
use Rattle.model.specs.Shape.{point_test, square_test, circle_test}
use Rattle.model.specs.Layer.{Point, edge}
use Rattle.model.specs.Map.{Map, Entry, Op, batch, radius, shift_of, fresh}
use Rattle.model.specs.Refusal.{refusal, run, opened}
use Rattle.model.specs.Answers.{changed_corners}
use Rattle.model.specs.Listing.{text}

-- ---- the words of the examples
abbrev pub c : Float
c = pow2 8

unfoldable pub num : ℤ → Float
num z = of_int binary64 z

unfoldable pub pt : ℤ → ℤ → Pt
pt x y = record { x = num x; y = num y }

unfoldable pub at : ℤ → ℤ → ℕ
at x y = key x y

-- to occupy a cell, and to free it
abbrev pub fill : ℤ → ℤ → Entry
fill x y = record { x = x; y = y; full = true }

abbrev pub clear : ℤ → ℤ → Entry
clear x y = record { x = x; y = y; full = false }

-- a fresh map of radius r after some operations
unfoldable pub after : ℕ → List Op → Map
after r os = run os (opened c (num (pos r)))

unfoldable pub set_radius : ℕ → Op
set_radius r = radius (num (pos r))

-- ---- answers as numbers: 0 for no cell
abbrev pub cell? : Option ℕ → ℕ
cell? none = 0
cell? (some k) = k

abbrev pub status? : Option Point → ℕ
status? none = 0
status? (some p) = number p.bits

unfoldable pub point_status : Map → ℕ → ℕ
point_status m k = status? (get k m.layer.points)

-- 1 for no point or no pair, 0 for no blocker
abbrev pub block? : Option Point → ℕ
block? none = 1
block? (some p) = cell? p.block

unfoldable pub point_block : Map → ℕ → ℕ
point_block m k = block? (get k m.layer.points)

abbrev pub pair? : Option (Option ℕ) → ℕ
pair? none = 1
pair? (some b) = cell? b

unfoldable pub pair_block : Map → ℕ → ℕ → ℕ
pair_block m p q = pair? (edge p q m.layer.edges)

unfoldable pub flat : List (ℕ × Bits) → List ℕ
flat [] = []
flat (d ∷ l) = d.0 ∷ number d.1 ∷ flat l

abbrev pub same : List ℕ → List ℕ → Bool
same [] [] = true
same [] (b ∷ m) = false
same (a ∷ l) [] = false
same (a ∷ l) (b ∷ m) = eqb a b && same l m

-- a square of width w at (128, 128) covers the cells from lo to hi on both axes, and no other: it finds cell k, occupied alone, exactly if k is one of them
abbrev pub spans : ℤ → ℤ → ℤ → Bool
spans lo hi z = le_z lo z && le_z z hi

abbrev pub Covers : ℕ → ℤ → ℤ → Type 0
Covers w lo hi = (k : ℕ) → (square_test c (k ∷ []) (pt (pos 128) (pos 128)) (num (pos w))).cell ≡ cond (spans lo hi (x_of k) && spans lo hi (y_of k)) (some k) none

-- the cell of (x, x) is (i, i)
unfoldable pub lies : ℤ → ℤ → Bool
lies x i = eqb (cell_of c (pt x x)) (at i i)

unfoldable pub two_cells : List Op
two_cells = batch (fill (pos 0) (pos 0) ∷ fill (pos 2) (pos 2) ∷ []) ∷ []

unfoldable pub one_freed : List Op
one_freed = two_cells ++ (batch (clear (pos 0) (pos 0) ∷ []) ∷ [])

-- ---- the table: each line has its number in RULES 9.2
abbrev pub table : List (ℕ × Type 0)
table =
    (1, T (eqb (shift_of c (num (pos 0))) 1 && eqb (shift_of c (num (pos 128))) 1 && eqb (shift_of c (num (pos 129))) 2))
    ∷ (2, T (lies (negsuc 0) (negsuc 0) && lies (pos 0) (pos 0) && lies (pos 256) (pos 1)))
    ∷ (3, T (eqb (number (status_of (at (pos 0) (pos 0) ∷ []) (at (pos 0) (pos 0)))) 15))
    ∷ (4, T (same (flat (changed_corners (fill (pos 1) (pos 0) ∷ []) (after 128 (batch (fill (pos 0) (pos 0) ∷ []) ∷ [])))) (at (pos 0) (pos 0) ∷ 5 ∷ at (pos 1) (pos 0) ∷ 10 ∷ [])))
    ∷ (
      5,
      T (eqb (number (status_of (at (pos 0) (pos 0) ∷ at (pos 1) (pos 1) ∷ []) (at (pos 0) (pos 0)))) 7
          && eqb (number (status_of (at (pos 0) (pos 0) ∷ at (pos 1) (pos 1) ∷ []) (at (pos 1) (pos 1)))) 14),
    )
    ∷ (6, T (eqb (point_status (after 128 two_cells) (at (pos 1) (pos 1))) 9 && eqb (point_status (after 128 one_freed) (at (pos 1) (pos 1))) 1))
    ∷ (
      7,
      T (eqb (cell? (point_test c (at (pos 1) (pos 1) ∷ []) (pt (pos 256) (pos 256))).cell) (at (pos 1) (pos 1))
          && not (is_some (square_test c (at (pos 1) (pos 1) ∷ []) (pt (pos 256) (pos 256)) (num (pos 0))).cell)),
    )
    ∷ (8, Covers 256 (pos 0) (pos 0) × Covers 258 (negsuc 0) (pos 1))
    ∷ (11, T (eqb (refusal (batch (fill (pos 0) (pos 0) ∷ fill (pos 0) (pos 0) ∷ [])) (fresh c (num (pos 128)))) 4))
    ∷ []

abbrev pub Each : List (ℕ × Type 0) → Type 0
Each [] = Unit {0}
Each (e ∷ l) = e.1 × Each l

abbrev pub All : List (ℕ × Bool) → Type 0
All [] = Unit {0}
All (e ∷ l) = T e.1 × All l

-- ---- the others: 9 and 10
unfoldable pub circle? : ℕ → Bool
circle? r = is_some (circle_test c (at (pos 0) (pos 0) ∷ []) (pt (negsuc 127) (pos 128)) (num (pos r))).cell

unfoldable pub ten : List Op
ten = batch (fill (pos 0) (pos 0) ∷ []) ∷ batch (fill (negsuc 2) (pos 2) ∷ []) ∷ []

unfoldable pub ten_again : List Op
ten_again = ten ++ (set_radius 200 ∷ [])

unfoldable pub others : List (ℕ × Bool)
others =
    (9, not (circle? 128) && circle? 129)
    ∷ (
      10,
      eqb (pair_block (after 200 ten) (at (negsuc 1) (pos 2)) (at (pos 2) (pos 2))) (at (negsuc 2) (pos 2))
          && eqb (pair_block (after 200 ten_again) (at (negsuc 1) (pos 2)) (at (pos 2) (pos 2))) 0
          && eqb (point_block (after 200 ten_again) (at (negsuc 1) (pos 2))) (at (negsuc 2) (pos 2)),
    )
    ∷ []

-- ---- the worked map file and its whole listing
unfoldable pub worked_file : List ℕ
worked_file =
    0x01 ∷ 0x00 ∷ 0x08 ∷ 0x40 ∷ 0x70 ∷ 0 ∷ 0 ∷ 0 ∷ 0 ∷ 0 ∷ 0
    ∷ 0x02 ∷ 0x00 ∷ 0x08 ∷ 0x40 ∷ 0x60 ∷ 0 ∷ 0 ∷ 0 ∷ 0 ∷ 0 ∷ 0
    ∷ 0x03 ∷ 0x00 ∷ 0x09 ∷ 0 ∷ 0 ∷ 0 ∷ 0 ∷ 0 ∷ 0 ∷ 0 ∷ 0 ∷ 0x01
    ∷ 0xff ∷ 0x00 ∷ 0x00 ∷ []

unfoldable pub worked_listing : List ℕ
worked_listing =
    text "cells 1 corners 1 points 4 edges 4 open 4 blocks 1\n" ++ text "p -1 -1 1 -\n" ++ text "p -1 1 4 -\n" ++ text "p 1 -1 2 -\n" ++ text "p 1 1 8 -\n"
    ++ text "e -1 -1 -1 1 -\n" ++ text "e -1 -1 1 -1 -\n" ++ text "e -1 1 1 1 -\n" ++ text "e 1 -1 1 1 -\n"
