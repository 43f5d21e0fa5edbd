-- The lines that are printed of the columns of points and of pairs are the model's. Assumes nothing.
use Prim.Native.Nat.{ℕ, zero, suc}
use native.Mathlib.Omega.{arith}
use mathlib.Core.Path.{◌≡◌, refl, ap}
use mathlib.Core.List.{List, [], ◌∷◌, ◌++◌}
use mathlib.Core.Option.{Option, none, some}
use lib.ListN.{length}
use Rattle.answers.specs.Columns.{greaters, lessers, pair_blocks}
use Rattle.held.specs.Layers.{blocks_of, statuses_of}
use Rattle.model.specs.Good.{Good}
use Rattle.model.specs.Layer.{Edges, Layer, Pair, Points, edge, pair_of, pairs, pairs_from}
use Rattle.model.specs.Listing.{pair_lines, point_lines}
use Rattle.model.specs.Maps.{keys}
use Rattle.print.specs.Printed.{block_of, pair_row, point_row, rows}
use Rattle.held.specs.Codes.{AllNamed, Named, NamedPair, block_code, codes}

-- a blocker is told by its code
coded : (o : Option ℕ) → Named o → block_of (block_code o) ≡ o
coded none h = refl
coded (some zero) h = absurd (omega arith)
coded (some (suc k)) h = refl

-- ---- points
pub point_rows : (ps : Points) → AllNamed (blocks_of ps) → rows point_row (keys ps) (statuses_of ps) (codes (blocks_of ps)) ≡ point_lines ps
unfolding keys point_lines
point_rows [] h = refl
point_rows (p ∷ ps) h = rw (coded p.1.block h.0, point_rows ps h.1) refl

-- ---- pairs
abbrev pub PairsTold : List Pair → Type 0
PairsTold [] = Unit {0}
PairsTold (p ∷ l) = Named p.block × PairsTold l

pub pair_rows : (l : List Pair) → PairsTold l → rows pair_row (lessers l) (greaters l) (pair_blocks l) ≡ pair_lines l
unfolding pair_lines
pair_rows [] h = refl
pair_rows (p ∷ l) h = rw (coded p.block h.0, pair_rows l h.1) refl

pub lessers_length : (l : List Pair) → length (lessers l) ≡ length l
lessers_length [] = refl
lessers_length (p ∷ l) = ap suc (lessers_length l)

-- ---- the blockers of a good layer's pairs are occupied cells, whose keys are no other code
told_both : (l k : List Pair) → PairsTold l → PairsTold k → PairsTold (l ++ k)
told_both [] k h g = g
told_both (p ∷ l) k h g = (h.0, told_both l k h.1 g)

told_one : (p q : ℕ) (o : Option (Option ℕ)) → NamedPair o → PairsTold (pair_of p q o)
told_one p q none h = tt
told_one p q (some o) h = (h, tt)

module _ (e : Edges) (named : (p q : ℕ) → NamedPair (edge p q e)) where
  told_row : (p : ℕ) (qs : Points) → PairsTold (pairs_from p qs e)
  unfolding pairs_from
  told_row p [] = tt
  told_row p (q ∷ qs) = told_both (pair_of p q.0 (edge p q.0 e)) (pairs_from p qs e) (told_one p q.0 (edge p q.0 e) (named p q.0)) (told_row p qs)

  told_all : (ps : Points) → PairsTold (pairs ps e)
  unfolding pairs
  told_all [] = tt
  told_all (p ∷ ps) = told_both (pairs_from p.0 ps e) (pairs ps e) (told_row p.0 ps) (told_all ps)

module _ {s : ℕ} {C : List ℕ} {l : Layer} (g : Good s C l) where
  edge_named : (p q : ℕ) → NamedPair (edge p q l.edges)
  edge_named p q = go (edge p q l.edges) refl
    where
      go : (o : Option (Option ℕ)) → edge p q l.edges ≡ o → NamedPair o
      go none e = tt
      go (some none) e = tt
      go (some (some b)) e = let i = g.inside b (g.edge_block p q b e) in omega arith

  pub pairs_told : PairsTold (pairs l.points l.edges)
  pairs_told = told_all l.edges edge_named l.points
