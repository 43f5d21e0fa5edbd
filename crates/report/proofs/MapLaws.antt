-- What a listing's calls write, put together: the counts, the points and the pairs of a map that is held. Assumes nothing.
use Prim.Native.Nat.{ℕ, ◌+◌, ◌*◌, ◌≤◌}
use native.Mathlib.Nat.{zero-add}
use native.Mathlib.Omega.{arith}
use mathlib.Core.Path.{◌≡◌, refl, sym, ap, ◌∙◌}
use mathlib.Core.List.{List, [], ◌∷◌, ◌++◌}
use lib.Dec.{leb}
use lib.ListN.{drop, length, length-append, length-drop, take}
use lib.Seq.{take_at}
use borrow.Author.Tests.{le-leb}
use Rattle.answers.specs.Asking.{Written}
use Rattle.answers.specs.Columns.{greaters, lessers, pair_blocks}
use Rattle.limits.proofs.FloorLaws.{holds_cells}
use Rattle.held.proofs.LayerLaws.{codes_count, layer_blocks, layer_keys, layer_statuses, statuses_length}
use Rattle.held.specs.Layers.{blocks_of, statuses_of}
use Rattle.model.specs.Answers.{all_pairs, corners, open_pairs}
use Rattle.model.specs.Answers as asked
use Rattle.model.specs.Blocks.{block_count}
use Rattle.model.specs.Layer.{Pair, Points}
use Rattle.model.specs.Limits.{first_room, line_room, max_cells, max_points, need_listing, need_pairs}
use Rattle.model.specs.Listing.{counts_line, listed, summary}
use Rattle.model.specs.Map as model
use Rattle.model.specs.MapFile.{done}
use Rattle.model.specs.Maps.{AscL, keys}
use Rattle.print.proofs.PrintLaws.{fits}
use Rattle.print.proofs.PutLaws.{put_long, put_then}
use Rattle.print.specs.Printed.{Printed, PrintedRows, Put, lines_fit, pair_row, point_row}
use Rattle.print.specs.declared.counts.Counts.{Counts}
use Rattle.held.specs.Codes.{codes}
use Rattle.table.proofs.ListedLaws.{keys_length}
use Rattle.held.proofs.NamedLaws.{blocks_named_lem}
use Rattle.held.specs.Holds.{Holds, Tables}
use Rattle.held.specs.declared.map.Map.{Map}
use Rattle.report.specs.Counted.{counts_of}
use Rattle.report.proofs.ColumnLaws.{lessers_length, pair_rows, pairs_told, point_rows}

-- ---- counts
module _ (m : Map) (t : Tables) (M : model.Map) (h : Holds m t M) (cells : List ℕ) (e : t.cells ≡ cells) where
  pub counted : (a b c points edges : ℕ) → a ≡ length (corners M) → b ≡ length (open_pairs M)
      → (length (take m.cells cells) ≤ max_cells → AscL 0 (take m.cells cells) → c ≡ block_count (take m.cells cells))
      → ◌≡◌ {A = Counts} (record { cells = m.cells; corners = a; points = points; edges = edges; «open» = b; blocks = c }) (counts_of points edges M)
  counted a b c points edges f g k =
      let u : take m.cells cells ≡ M.cells = ap (take m.cells) (sym e) ∙ holds_cells t.cells m.cells M.cells h.cells in
      let v : c ≡ block_count M.cells = rw u at k h.cells.room h.cells.order in
      rw (f, g, v, h.cells.count) refl

-- ---- three texts, each with the room that was asked for
pub put_front : {s o o' : List ℕ} {c : ℕ} → Put s 0 c o o' → (c ≡ length s) × (o' ≡ s ++ drop c o)
put_front p = (p.end ∙ zero-add _, p.is)

module _ {s u v o o₁ o₂ o₃ : List ℕ} {a b c : ℕ} (as₁ as₂ as₃ bs₁ bs₂ bs₃ : List ℕ) (room : need_listing ≤ length o) where
  printed_all : length as₁ ≤ max_points → length as₁ ≤ length as₂ → length as₁ ≤ length as₃ → length bs₁ ≤ need_pairs → length bs₁ ≤ length bs₂ → length bs₁ ≤ length bs₃
      → Printed (leb first_room (length o)) first_room s 0 a o o₁ → Printed (lines_fit (length as₁) (length as₂) (length as₃) a (length o₁)) (line_room * length as₁) u a b o₁ o₂
      → Printed (lines_fit (length bs₁) (length bs₂) (length bs₃) b (length o₂)) (line_room * length bs₁) v b c o₂ o₃
      → (c ≡ length (s ++ u ++ v)) × (o₃ ≡ s ++ u ++ v ++ drop c o)
  printed_all hk hs hb hl hg hq x y z =
      let p = x.done (le-leb first_room (length o) (omega arith)) in
      let e₁ = p.0.end in
      let l₁ = p.1 in
      let n₁ = put_long p.0 (omega arith) in
      let q = y.done (fits (length as₁) (length as₂) (length as₃) a (length o₁) hs hb (omega arith)) in
      let e₂ = q.0.end in
      let l₂ = q.1 in
      let n₂ = put_long q.0 (omega arith) in
      let r = z.done (fits (length bs₁) (length bs₂) (length bs₃) b (length o₂) hg hq (omega arith)) in
      let w : 0 ≤ length o = omega arith in
      put_front (put_then (put_then p.0 w q.0) w r.0)

-- ---- the pairs' columns, at the front of arrays
-- all of them are listed
all_fit : (l t t' : List ℕ) (n : ℕ) → n ≡ length l → t' ≡ l ++ drop n t → length t ≡ need_pairs → length t' ≡ need_pairs → n ≤ need_pairs
all_fit l t t' n c e h h' =
    let x : length t' ≡ length l + length (drop n t) = ap length e ∙ length-append l (drop n t) in
    omega (arith, length-drop n t)

front : (l t t' : List ℕ) (n : ℕ) → n ≡ length l → t' ≡ l ++ drop n t → take n t' ≡ l
front l t t' n c e = ap (take n) e ∙ take_at l (drop n t) n (sym c)

-- ---- the whole
-- the arrays' columns, and how many of the pairs are printed: all that there are
abbrev pub PairsAre : model.Map → ℕ → List ℕ → List ℕ → List ℕ → List ℕ → Type 0
PairsAre M n zeros lesser greater blocks =
    Written M n
    (record { was = zeros; is = lesser; wanted = λ M. lessers (all_pairs M) } ∷ record { was = zeros; is = greater; wanted = λ M. greaters (all_pairs M) }
    ∷ record { was = zeros; is = blocks; wanted = λ M. pair_blocks (all_pairs M) } ∷ [])

module _ (M : model.Map) (n : ℕ) (zeros lesser greater blocks : List ℕ) (long : length zeros ≡ need_pairs) (same : length lesser ≡ need_pairs) (w : PairsAre M n zeros lesser greater blocks) where
  pub all_few : n ≤ need_pairs
  all_few = all_fit (lessers (all_pairs M)) zeros lesser n w.0 w.1 long same

module _ (m : Map) (t : Tables) (M : model.Map) (h : Holds m t M) (points statuses blockers : List ℕ) (p : t.points ≡ points) (s : t.statuses ≡ statuses) (b : t.blockers ≡ blockers) where
  module _ (n edges : ℕ) (zeros lesser greater blocks : List ℕ) (long : length zeros ≡ need_pairs) (same : length lesser ≡ need_pairs) (w : PairsAre M n zeros lesser greater blocks) (came : edges ≡ n) where
    pub map_written : (counts : Counts) (o o₁ o₂ o₃ : List ℕ) (i j k : ℕ) → need_listing ≤ length o → counts ≡ counts_of m.points edges M
        → Printed (leb first_room (length o)) first_room (counts_line counts.cells counts.corners counts.points counts.edges counts.«open» counts.blocks) 0 i o o₁
        → PrintedRows point_row (take m.points points) (take m.points statuses) (take m.points blockers) i j o₁ o₂
        → PrintedRows pair_row (take edges lesser) (take edges greater) (take edges blocks) j k o₂ o₃
        → Written M k (record { was = o; is = o₃; wanted = λ M. listed (done M) } ∷ [])
    unfolding summary asked.points all_pairs
    map_written counts o o₁ o₂ o₃ i j k room c x y z =
        let ps : Points = M.layer.points in
        let l : List Pair = all_pairs M in
        let few : length ps ≤ max_points = h.layer.room in
        let kk = keys_length ps in
        let kt = statuses_length ps in
        let kb = codes_count ps in
        let ll = lessers_length l in
        let ln = w.0 in
        let lg = w.2.0 in
        let lb = w.2.2.0 in
        let most = all_few M n zeros lesser greater blocks long same w in
        let e₀ : edges ≡ length l = came ∙ w.0 ∙ ll in
        let e₁ : take m.points points ≡ keys ps = ap (take m.points) (sym p) ∙ layer_keys h.layer in
        let e₂ : take m.points statuses ≡ statuses_of ps = ap (take m.points) (sym s) ∙ layer_statuses h.layer in
        let e₃ : take m.points blockers ≡ codes (blocks_of ps) = ap (take m.points) (sym b) ∙ layer_blocks h.layer in
        let f₁ : take edges lesser ≡ lessers l = rw came (front (lessers l) zeros lesser n w.0 w.1) in
        let f₂ : take edges greater ≡ greaters l = rw came (front (greaters l) zeros greater n w.2.0 w.2.1) in
        let f₃ : take edges blocks ≡ pair_blocks l = rw came (front (pair_blocks l) zeros blocks n w.2.2.0 w.2.2.1) in
        let x' = rw (c, h.layer.count, e₀) at x in
        let y' = rw (e₁, e₂, e₃, point_rows ps (blocks_named_lem h.good)) at y in
        let z' = rw (f₁, f₂, f₃, pair_rows l (pairs_told h.good)) at z in
        let r = printed_all (keys ps) (statuses_of ps) (codes (blocks_of ps)) (lessers l) (greaters l) (pair_blocks l) room (omega arith) (omega arith) (omega arith) (omega arith) (omega arith) (omega arith) x' y' z' in
        (r.0, r.1, tt)
