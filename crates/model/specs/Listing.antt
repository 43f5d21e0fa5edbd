-- The listing: the text, as bytes, that the program prints for the bytes of a map file (RULES 6). Definitions only.
use Rattle.std.specs.Prelude.{ℕ, zero, suc, ◌+◌, ◌/◌, ◌%◌, cond, List, [], ◌∷◌, ◌++◌, ltb, length, ℤ, pos, negsuc}
use Prim.Native.String.{String, [] as []ˢ, ◌∷◌ as ◌∷ˢ◌}
use Prim.Native.Char.{code}
use Rattle.std.proofs.Math.Option.{Option, none, some}
use Rattle.model.specs.Cell.{x_of, y_of}
use Rattle.model.specs.Corner.{number}
use Rattle.model.specs.Layer.{Points, Pair}
use Rattle.model.specs.Map.{Map}
use Rattle.model.specs.Answers.{corners, points, all_pairs, open_pairs}
use Rattle.model.specs.Blocks.{block_count}
use Rattle.model.specs.MapFile.{Reading, more, refused, done, read_file}

-- ---- text
unfoldable pub text : String → List ℕ
text []ˢ = []
text (c ∷ˢ s) = code c ∷ text s

-- in decimal, without leading zeros: the last digit of n, before it those of n / 10; f turns, of which n + 1 are enough
unfoldable pub digits : ℕ → ℕ → List ℕ → List ℕ
digits zero n l = l
digits (suc f) n l = let d = (48 + n % 10) ∷ l in let r = digits f (n / 10) d in cond (ltb n 10) d r

abbrev pub decimal : ℕ → List ℕ
decimal n = digits (suc n) n []

abbrev pub signed : ℤ → List ℕ
signed (pos n) = decimal n
signed (negsuc n) = text "-" ++ decimal (suc n)

-- ---- cells and blockers
unfoldable pub cell_text : ℕ → List ℕ
cell_text k = signed (x_of k) ++ text " " ++ signed (y_of k)

abbrev pub blocker_text : Option ℕ → List ℕ
blocker_text none = text "-"
blocker_text (some k) = signed (x_of k) ++ text "," ++ signed (y_of k)

-- ---- lines
abbrev pub point_line : ℕ → ℕ → Option ℕ → List ℕ
point_line k status block = text "p " ++ cell_text k ++ text " " ++ decimal status ++ text " " ++ blocker_text block ++ text "\n"

unfoldable pub point_lines : Points → List ℕ
point_lines [] = []
point_lines (p ∷ l) = point_line p.0 (number p.1.bits) p.1.block ++ point_lines l

abbrev pub pair_line : ℕ → ℕ → Option ℕ → List ℕ
pair_line j k block = text "e " ++ cell_text j ++ text " " ++ cell_text k ++ text " " ++ blocker_text block ++ text "\n"

unfoldable pub pair_lines : List Pair → List ℕ
pair_lines [] = []
pair_lines (p ∷ l) = pair_line p.lesser p.greater p.block ++ pair_lines l

abbrev pub counts_line : ℕ → ℕ → ℕ → ℕ → ℕ → ℕ → List ℕ
counts_line cells corner points edges free blocks =
    text "cells " ++ decimal cells ++ text " corners " ++ decimal corner ++ text " points " ++ decimal points ++ text " edges " ++ decimal edges ++ text " open " ++ decimal free
    ++ text " blocks " ++ decimal blocks ++ text "\n"

unfoldable pub summary : Map → List ℕ
summary m = counts_line (length m.cells) (length (corners m)) (length (points m)) (length (all_pairs m)) (length (open_pairs m)) (block_count m.cells)

unfoldable pub refused_line : ℕ → ℕ → List ℕ
refused_line n f = text "refused " ++ decimal n ++ text " at " ++ decimal f ++ text "\n"

-- ---- the whole; the reading of a file always ends (proofs/FileLaws.antt), so that `more` never comes
abbrev pub listed : Reading → List ℕ
listed (more r b) = []
listed (refused n f) = refused_line n f
listed (done m) = summary m ++ point_lines (points m) ++ pair_lines (all_pairs m)

unfoldable pub listing : List ℕ → List ℕ
listing b = listed (read_file b)
