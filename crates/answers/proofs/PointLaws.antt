-- The points of a map in the lent tables, and those that nothing blocks. Assumes nothing.
use Prim.Native.Nat.{ℕ, zero, suc, ◌≤◌, ◌<◌}
use native.Mathlib.Nat.{le_of_suc-le-suc, not-suc-le-zero}
use native.Mathlib.Omega.{arith}
use mathlib.Core.Path.{◌≡◌, refl, sym, ap, ◌∙◌}
use mathlib.Core.Bool.{Bool, true, false}
use mathlib.Core.List.{List, [], ◌∷◌}
use mathlib.Core.Option.{Option, none, some}
use lib.Dec.{eqb}
use lib.ListN.{get_or, length, take}
use lib.Seq.{length-take-le}
use borrow.Author.Tests.{eq-eqb, ne_eqb}
use Rattle.answers.specs.Asking.{Front, Written}
use Rattle.table.specs.Copied.{Copied}
use Rattle.held.proofs.LayerLaws.{codes_count, layer_blocks, layer_few, layer_keys, layer_statuses, statuses_length}
use Rattle.held.specs.Layers.{blocks_of, statuses_of}
use Rattle.model.specs.Answers.{free, free_points}
use Rattle.model.specs.Answers as asked
use Rattle.model.specs.Corner.{number, zero4}
use Rattle.model.specs.Layer.{Point, Points}
use Rattle.model.specs.Map as model
use Rattle.model.specs.Maps.{keys}
use Rattle.held.specs.Codes.{AllNamed, Named, block_code, codes}
use Rattle.table.proofs.ListedLaws.{keys_at, keys_length}
use Rattle.held.proofs.NamedLaws.{blocks_named_lem}
use Rattle.held.proofs.PadLaws.{copied}
use Rattle.held.specs.Holds.{Holds, Tables}
use Rattle.held.specs.declared.map.Map.{Map}
use Rattle.answers.specs.Walks.{FreeListed, picked}
use Rattle.answers.proofs.KeepLaws.{Says, picked_keys}

-- ---- the point at a place
abbrev pub nowhere : ℕ × Point
nowhere = (0, record { bits = zero4; block = none })

abbrev pub point_at : Points → ℕ → ℕ × Point
point_at ps i = get_or ps i nowhere

pub key_at_lem : (ps : Points) (i : ℕ) → get_or (keys ps) i 0 ≡ (point_at ps i).0
key_at_lem ps i = keys_at ps i (record { bits = zero4; block = none })

pub block_at : (ps : Points) (i : ℕ) → get_or (codes (blocks_of ps)) i 0 ≡ block_code (point_at ps i).1.block
block_at [] i = refl
block_at (e ∷ ps) zero = refl
block_at (e ∷ ps) (suc i) = block_at ps i

pub status_at_lem : (ps : Points) (i : ℕ) → i < length ps → get_or (statuses_of ps) i 0 ≡ number (point_at ps i).1.bits
status_at_lem [] i h = absurd (not-suc-le-zero h)
status_at_lem (e ∷ ps) zero h = refl
status_at_lem (e ∷ ps) (suc i) h = status_at_lem ps i (le_of_suc-le-suc h)

pub named_at : (ps : Points) (i : ℕ) → AllNamed (blocks_of ps) → Named (point_at ps i).1.block
named_at [] i a = tt
named_at (e ∷ ps) zero a = a.0
named_at (e ∷ ps) (suc i) a = named_at ps i a.1

-- a blocker's code is 0 exactly where there is none
pub block_free : (o : Option ℕ) → Named o → free o ≡ eqb (block_code o) 0
block_free none n = refl
block_free (some k) n = sym (ne_eqb k 0 (λ e. omega (arith, n, e)))

-- .. and where it is another number there is one
pub some_blocks : (o : Option ℕ) → (block_code o ≡ 0 → ⊥) → free o ≡ false
some_blocks none f = absurd (f refl)
some_blocks (some k) f = refl

abbrev pub unblocked : ℕ × Point → Bool
unblocked p = free p.1.block

module _ (blockers : List ℕ) (ps : Points) (i : ℕ) (e : blockers ≡ codes (blocks_of ps)) where
  read_block : get_or blockers i 0 ≡ block_code (point_at ps i).1.block
  read_block = ap (λ (t : List ℕ). get_or t i 0) e ∙ block_at ps i

  pub unblocked_is : AllNamed (blocks_of ps) → unblocked (point_at ps i) ≡ eqb (get_or blockers i 0) 0
  unblocked_is a = block_free (point_at ps i).1.block (named_at ps i a) ∙ ap (λ (k : ℕ). eqb k 0) (sym read_block)

  pub reads_free : AllNamed (blocks_of ps) → get_or blockers i 0 ≡ 0 → unblocked (point_at ps i) ≡ true
  reads_free a z = unblocked_is a ∙ eq-eqb (get_or blockers i 0) 0 z

  pub reads_blocked : (get_or blockers i 0 ≡ 0 → ⊥) → unblocked (point_at ps i) ≡ false
  reads_blocked f = some_blocks (point_at ps i).1.block (λ z. f (read_block ∙ z))

-- ---- the used places of a table
pub used : (n : ℕ) (t : List ℕ) → n ≤ 64 → 64 ≤ length t → length (take n t) ≡ n
used n t h r = length-take-le n t (omega (arith, h, r))

-- ---- all points
column : (w l t t' : List ℕ) (n : ℕ) → w ≡ l → n ≡ length l → n ≤ length t → Copied w t t' → Front l n t t'
column w l t t' n e c h d = (c, copied w l t t' n e (sym c) h d)

module _ (m : Map) (t : Tables) (M : model.Map) (h : Holds m t M) (points statuses blockers : List ℕ) (p : t.points ≡ points) (s : t.statuses ≡ statuses) (b : t.blockers ≡ blockers) where
  module _ (out out' bits bits' blocks blocks' : List ℕ) (ro : 64 ≤ length out) (rb : 64 ≤ length bits) (rc : 64 ≤ length blocks) where
    pub points_written : Copied (take m.points points) out out' → Copied (take m.points statuses) bits bits' → Copied (take m.points blockers) blocks blocks'
        → Written M m.points
        (record { was = out; is = out'; wanted = λ M. keys (asked.points M) } ∷ record { was = bits; is = bits'; wanted = λ M. statuses_of (asked.points M) }
        ∷ record { was = blocks; is = blocks'; wanted = λ M. codes (blocks_of (asked.points M)) } ∷ [])
    unfolding asked.points
    points_written x y z =
        let n : ℕ = m.points in
        let few : n ≤ 64 = layer_few h.layer in
        let c : n ≡ length M.layer.points = h.layer.count in
        let u = column (take n points) (keys M.layer.points) out out' n (ap (take n) (sym p) ∙ layer_keys h.layer) (c ∙ sym (keys_length M.layer.points)) (omega (arith, few, ro)) x in
        let v = column (take n statuses) (statuses_of M.layer.points) bits bits' n (ap (take n) (sym s) ∙ layer_statuses h.layer) (c ∙ sym (statuses_length M.layer.points)) (omega (arith, few, rb)) y in
        let w = column (take n blockers) (codes (blocks_of M.layer.points)) blocks blocks' n (ap (take n) (sym b) ∙ layer_blocks h.layer) (c ∙ sym (codes_count M.layer.points)) (omega (arith, few, rc)) z in
        (u.0, u.1, (v.0, v.1, (w.0, w.1, tt)))

-- ---- the points that nothing blocks, by a walk that keeps those whose blocker's number is 0
pub free_listed : {Post : ℕ → Bool → Type 0} (points blockers out out' : List ℕ) (r : ℕ) → ((i : ℕ) (b : Bool) → i < length points → Post i b → b ≡ eqb (get_or blockers i 0) 0)
    → ((p : ℕ → Bool) → Says Post points p → Front (picked p points) r out out') → FreeListed points blockers r out out'
free_listed points blockers out out' r f w ps k e n =
    rw (picked_keys unblocked nowhere ps) at (rw k at (w (λ i. unblocked (point_at ps i)) (λ i b h c. f i b h c ∙ sym (unblocked_is blockers ps i e n))))

module _ (m : Map) (t : Tables) (M : model.Map) (h : Holds m t M) (points blockers : List ℕ) (p : t.points ≡ points) (b : t.blockers ≡ blockers) where
  pub free_written : (out out' : List ℕ) (r : ℕ) → FreeListed (take m.points points) (take m.points blockers) r out out'
      → Written M r (record { was = out; is = out'; wanted = λ M. keys (free_points M) } ∷ [])
  unfolding free_points
  free_written out out' r f =
      let n : ℕ = m.points in
      let w = f M.layer.points (ap (take n) (sym p) ∙ layer_keys h.layer) (ap (take n) (sym b) ∙ layer_blocks h.layer) (blocks_named_lem h.good) in
      (w.0, w.1, tt)
