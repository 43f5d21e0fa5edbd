-- The cells that have a corner, one after another. Assumes nothing.
use Prim.Native.Nat.{ℕ, zero, suc, ◌+◌, ◌^◌, ◌≤◌, ◌<◌}
use native.Mathlib.Nat.{le_refl}
use native.Mathlib.Omega.{arith}
use mathlib.Core.Path.{◌≡◌, refl, sym, ap, ◌∙◌}
use mathlib.Core.Bool.{Bool, true, false, cond, not}
use mathlib.Core.List.{List, [], ◌∷◌, ◌++◌, append_assoc, append-nil}
use lib.Dec.{eqb}
use lib.ListN.{drop, get_or, length, set}
use lib.Seq.{drop-cons, drop-length}
use borrow.Author.Tests.{eq-eqb, ne_eqb}
use Rattle.model.specs.Cell.{W}
use Rattle.model.specs.Corner.{Bits, any_bit, corner_cells, corners_among, number, status_of}
use Rattle.model.specs.Maps.{AscL}
use Rattle.table.specs.Listed.{Listed}
use Rattle.table.specs.Tables.{All}
use Rattle.table.proofs.AllLaws.{all_at}
use Rattle.corner.specs.Changes.{Inner, numbered}
use Rattle.corner.specs.Window.{gathered}
use Rattle.corner.proofs.AddedLaws.{Gathering, added_listed, gathering_none, gathering_pass, gathering_put}
use Rattle.corner.proofs.ChangeLaws.{numbered_gathered}
use Rattle.corner.proofs.StatusLaws.{any_is}

-- the i-th cell with its status, if it has a corner
abbrev pub corner_at : List ℕ → ℕ → List (ℕ × Bits)
corner_at C i = cond (any_bit (status_of C (get_or C i 0))) ((get_or C i 0, status_of C (get_or C i 0)) ∷ []) []

among_gathered : (C : List ℕ) (i : ℕ) → i ≤ length C → corner_cells C ≡ gathered (corner_at C) i ++ corners_among C (drop i C)
unfolding gathered corners_among
among_gathered C zero h = refl
among_gathered C (suc i) h =
    let k : ℕ = get_or C i 0 in
    among_gathered C i (omega arith)
    ∙ rw (drop-cons C i 0 h, append_assoc) (ap (λ (r : List (ℕ × Bits)). gathered (corner_at C) i ++ r) (one (any_bit (status_of C k)) (k, status_of C k) (corners_among C (drop (suc i) C))))
  where
    one : (b : Bool) (x : ℕ × Bits) (r : List (ℕ × Bits)) → cond b (x ∷ r) r ≡ cond b (x ∷ []) [] ++ r
    one true x r = refl
    one false x r = refl

corners_gathered : (C : List ℕ) → corner_cells C ≡ gathered (corner_at C) (length C)
unfolding corners_among
corners_gathered C = among_gathered C (length C) (le_refl (length C)) ∙ rw (drop-length C) (append-nil (gathered (corner_at C) (length C)))

-- ---- the i-th cell, of the status s
module _ (C : List ℕ) (i s : ℕ) (e : s ≡ number (status_of C (get_or C i 0))) where
  any : any_bit (status_of C (get_or C i 0)) ≡ not (eqb s 0)
  any = sym (ap (λ (n : ℕ). not (eqb n 0)) e ∙ any_is (status_of C (get_or C i 0)))

  corner_some : (s ≡ 0 → ⊥) → numbered (corner_at C i) ≡ (get_or C i 0, s) ∷ []
  corner_some h = rw (any, ne_eqb s 0 h) (rw e refl)

  corner_none : s ≡ 0 → numbered (corner_at C i) ≡ []
  corner_none h = rw (any, eq-eqb s 0 h) refl

-- what the contract supposes
abbrev pub Told : List ℕ → Type 0
Told C = AscL 0 C × All Inner C

-- both tables after the first i cells
abbrev pub CornersTo : List ℕ → List ℕ → List ℕ → List ℕ → List ℕ → ℕ → ℕ → Type 0
CornersTo C a a' b b' n i = Gathering (Told C) (length C) (λ j. numbered (corner_at C j)) a a' b b' 0 n i

pub corners_none : (C a b : List ℕ) → CornersTo C a a b b 0 0
corners_none C a b = gathering_none (Told C) (length C) (λ j. numbered (corner_at C j)) a b 0

module _ (C a a' b b' : List ℕ) (n i s : ℕ) (more : i < length C) (ra : length C ≤ length a) (rb : length C ≤ length b)
    (e : AscL 0 C → W + 1 ≤ get_or C i 0 → get_or C i 0 + (W + 1) < 2 ^ 64 → s ≡ number (status_of C (get_or C i 0)))
    (w : CornersTo C a a' b b' n i) where
  status : Told C → s ≡ number (status_of C (get_or C i 0))
  status t =
      let k = all_at Inner C i t.1 more in
      e t.0 (omega (arith, k.0)) (omega (arith, k.1))

  pub corners_put : (s ≡ 0 → ⊥) → CornersTo C a (set a' n (get_or C i 0)) b (set b' n s) (n + 1) (i + 1)
  corners_put h =
      gathering_put (Told C) (length C) (λ j. numbered (corner_at C j)) a b 0 a' b' n i more (omega arith) (omega arith) w (get_or C i 0) s (λ t. corner_some C i s (status t) h)

  pub corners_pass : s ≡ 0 → CornersTo C a a' b b' n (i + 1)
  corners_pass h = gathering_pass (Told C) (length C) (λ j. numbered (corner_at C j)) a b 0 a' b' n i more (omega arith) (omega arith) w (λ t. corner_none C i s (status t) h)

pub corners_all : (C a a' b b' : List ℕ) (n i : ℕ) → length C ≤ i → CornersTo C a a' b b' n i → Told C → Listed (numbered (corner_cells C)) a a' b b' n
corners_all C a a' b b' n i h w t =
    let j : i ≡ length C = omega (arith, w.few) in
    let whole : gathered (λ j. numbered (corner_at C j)) i ≡ numbered (corner_cells C) = sym (ap numbered (corners_gathered C) ∙ numbered_gathered (corner_at C) (length C) ∙ rw j refl) in
    added_listed (numbered (corner_cells C)) a a' b b' n (rw whole at (w.added t))
