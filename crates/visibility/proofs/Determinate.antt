-- Any two outcomes that a call's contract permits are equal. Assumes nothing.
use Prim.Native.Nat.{ℕ, zero, suc, ◌+◌, ◌-◌, ◌/◌, ◌%◌, ◌≤◌, ◌<◌}
use native.Mathlib.Omega.{arith}
use mathlib.Core.Path.{◌≡◌, refl, sym, ap, ◌∙◌}
use mathlib.Core.Logic.{⊎_elim, inl, inr}
use mathlib.Core.Bool.{Bool, true, false}
use mathlib.Core.List.{List, ◌++◌}
use lib.Dec.{ltb}
use lib.Ieee.{Float}
use lib.IntN.{ℤ}
use lib.ListN.{drop, get_or, length}
use lib.Seq.{ext_get_or, get_or-drop}
use Rattle.ieee.proofs.Tools.{lt_or_ge}
use Rattle.limits.proofs.RefusalLaws.{number_one, number_some}
use Rattle.limits.specs.Floor as floor
use Rattle.limits.specs.declared.refusal.Refusal.{Refusal}
use Rattle.std.specs.Prelude.{Result, Ok, Err}
use Rattle.limits.specs.Batches.{entries, ragged}
use Rattle.model.specs.Limits.{max_cells, max_points}
use Rattle.held.specs.Layers.{blocks_of, edge_at, statuses_of}
use Rattle.model.specs.Map as model
use Rattle.model.specs.Maps.{keys}
use Rattle.model.specs.Refusal.{judge, refuse_open, short}
use Rattle.held.specs.Codes.{codes, pair_code}
use Rattle.held.specs.Pairs.{Pairs, PairsBy, pair_place, pair_places}
use Rattle.visibility.specs.Change.{Changing, Decided, Done, Lent, lent_needs, refuse_input, refused_with}
use Rattle.held.specs.Holds.{Behind, Holds, Tables, needs}
use Rattle.table.specs.Tables.{pad}
use Rattle.visibility.specs.Open.{Opening}
use Rattle.visibility.specs.Radius.{Rebuilding}
use Rattle.visibility.specs.Radius as radius
use Rattle.visibility.specs.Told.{changed_told}
use Rattle.visibility.specs.declared.change.Change.{Change}
use Rattle.visibility.specs.declared.change.Changed.{Changed}
use Rattle.held.specs.declared.map.Map.{Map}
use Rattle.held.specs.declared.map.Outcome.{Outcome}
use Rattle.visibility.proofs.RefuseLaws.{batch_ragged}

-- ---- tables that hold one map, and are the same beyond their needs
pad_one : (cap : ℕ) (l a b : List ℕ) → a ≡ pad cap l ++ drop cap a → b ≡ pad cap l ++ drop cap b → drop cap a ≡ drop cap b → a ≡ b
pad_one cap l a b x y d = x ∙ ap (λ (u : List ℕ). pad cap l ++ u) d ∙ sym y

pairs_one : (P : PairsBy) (a b : List ℕ) → length a ≡ length b → Pairs P a → Pairs P b → drop pair_places a ≡ drop pair_places b → a ≡ b
pairs_one P a b e x y d = ext_get_or 0 a b e (λ i h. ⊎_elim (within i) (after i) (lt_or_ge i pair_places))
  where
    at : (l : List ℕ) → Pairs P l → (i : ℕ) → i < pair_places → get_or l i 0 ≡ pair_code (P (i / max_points) (i % max_points))
    at l z i h =
        let k : i ≡ pair_place (i / max_points) (i % max_points) = omega arith in
        let u : i / max_points < max_points = omega arith in
        let v : i % max_points < max_points = omega arith in
        ap (λ (j : ℕ). get_or l j 0) k ∙ z (i / max_points) (i % max_points) u v

    within : (i : ℕ) → i < pair_places → get_or a i 0 ≡ get_or b i 0
    within i h = at a x i h ∙ sym (at b y i h)

    past : (l : List ℕ) (i : ℕ) → pair_places ≤ i → get_or l i 0 ≡ get_or (drop pair_places l) (i - pair_places) 0
    past l i h = let k : i ≡ pair_places + (i - pair_places) = omega arith in ap (λ (j : ℕ). get_or l j 0) k ∙ sym (get_or-drop pair_places l (i - pair_places) 0)

    after : (i : ℕ) → pair_places ≤ i → get_or a i 0 ≡ get_or b i 0
    after i h = past a i h ∙ ap (λ (l : List ℕ). get_or l (i - pair_places) 0) d ∙ sym (past b i h)

same_tables : (t u : Tables) → t.cells ≡ u.cells → t.points ≡ u.points → t.statuses ≡ u.statuses → t.blockers ≡ u.blockers → t.pairs ≡ u.pairs → t ≡ u
same_tables t u a b c d e = rw (a, b, c, d, e) refl

module _ (m n : Map) (M : model.Map) (t t₁ t₂ : Tables) where
  pub holds_one : Holds m t₁ M → Holds n t₂ M → Behind t t₁ → Behind t t₂ → t₁ ≡ t₂
  holds_one x y v w =
      let k = x.layer in
      let l = y.layer in
      same_tables t₁ t₂
      (pad_one max_cells M.cells t₁.cells t₂.cells x.cells.table y.cells.table (v.cells ∙ sym w.cells))
      (pad_one max_points (keys M.layer.points) t₁.points t₂.points k.keys_are l.keys_are (v.points ∙ sym w.points))
      (pad_one max_points (statuses_of M.layer.points) t₁.statuses t₂.statuses k.statuses_are l.statuses_are (v.statuses ∙ sym w.statuses))
      (pad_one max_points (codes (blocks_of M.layer.points)) t₁.blockers t₂.blockers k.blocks_are l.blocks_are (v.blockers ∙ sym w.blockers))
      (pairs_one (edge_at M.layer) t₁.pairs t₂.pairs (v.pairs_long ∙ sym w.pairs_long) k.pairs_are l.pairs_are (v.pairs ∙ sym w.pairs))

-- ---- an opening
same_outcome : (o w : Outcome) → o.refusal ≡ w.refusal → o.map ≡ w.map → o ≡ w
same_outcome o w a b = rw (a, b) refl

module _ (c r : Float) (t t₁ t₂ : Tables) (o₁ o₂ : Outcome) where
  pub open_one : Opening c r t t₁ o₁ → Opening c r t t₂ o₂ → (t₁ ≡ t₂) × (o₁ ≡ o₂)
  open_one x y = go (refuse_open (needs t) c r) x.refusal y.refusal
    where
      go : (n : ℕ) → o₁.refusal ≡ n → o₂.refusal ≡ n → (t₁ ≡ t₂) × (o₁ ≡ o₂)
      go zero p q =
          (holds_one o₁.map o₂.map (model.fresh c r) t t₁ t₂ (x.holds p) (y.holds q) (x.behind p) (y.behind q), same_outcome o₁ o₂ (p ∙ sym q) (x.answer p ∙ sym (y.answer q)))
      go (suc n) p q = ((x.refused n p).0 ∙ sym (y.refused n q).0, (x.refused n p).1 ∙ sym (y.refused n q).1)

-- ---- a batch
same_lent : (t u : Lent) → t.tables ≡ u.tables → t.confirmed ≡ u.confirmed → t.full ≡ u.full → t.corners ≡ u.corners → t.altered ≡ u.altered → t ≡ u
same_lent t u a b c d e = rw (a, b, c, d, e) refl

module _ (m : Map) (b : List ℤ) (t t₁ t₂ : Lent) (r₁ r₂ : Changed) where
  done_one : (M : model.Map) → Done m M (entries b) t t₁ r₁ → Done m M (entries b) t t₂ r₂ → (t₁ ≡ t₂) × (r₁ ≡ r₂)
  done_one M x y = (
    same_lent t₁ t₂
        (holds_one r₁.map r₂.map (model.next (model.batch (entries b)) M) t.tables t₁.tables t₂.tables x.holds y.holds x.behind y.behind)
        (x.changes.cells ∙ sym y.changes.cells)
        (x.changes.numbers ∙ sym y.changes.numbers)
        (x.altered.cells ∙ sym y.altered.cells)
        (x.altered.numbers ∙ sym y.altered.numbers),
    x.answer ∙ sym y.answer,
  )

  module _ (x : Changing m b t t₁ r₁) (y : Changing m b t t₂ r₂) where
    refused_one : (n : ℕ) → r₁.refusal ≡ suc n → r₂.refusal ≡ suc n → (t₁ ≡ t₂) × (r₁ ≡ r₂)
    refused_one n p q = ((x.refused n p).0 ∙ sym (y.refused n q).0, (x.refused n p).1 ∙ sym (y.refused n q).1)

    input_one : (n : ℕ) → refuse_input m b t ≡ suc n → (t₁ ≡ t₂) × (r₁ ≡ r₂)
    input_one n e = refused_one n (ap (λ (r : Changed). r.refusal) (x.input n e)) (ap (λ (r : Changed). r.refusal) (y.input n e))

    held_one : (M : model.Map) → Holds m t.tables M → (z : Bool) → ragged b ≡ z → (t₁ ≡ t₂) × (r₁ ≡ r₂)
    held_one M h true w = let k = batch_ragged (short (lent_needs t)) m b (ltb max_cells m.cells) false w in input_one k.0 k.1
    held_one M h false w = go (judge (lent_needs t) (model.batch (entries b)) M (model.next (model.batch (entries b)) M)) (x.refusal w M h) (y.refusal w M h)
      where
        go : (n : ℕ) → r₁.refusal ≡ n → r₂.refusal ≡ n → (t₁ ≡ t₂) × (r₁ ≡ r₂)
        go zero p q = done_one M (x.done M h p) (y.done M h q)
        go (suc n) p q = refused_one n p q

    -- too many points over cells that are held: 6 or 7, where the input alone refuses nothing
    packed_one : (C : List ℕ) → floor.Holds t.tables.cells m.cells C → max_points < m.points → (k : ℕ) → refuse_input m b t ≡ k → (t₁ ≡ t₂) × (r₁ ≡ r₂)
    packed_one C h g (suc n) e = input_one n e
    packed_one C h g zero e = ⊎_elim (λ p. refused_one 5 p (same ∙ p)) (λ p. refused_one 6 p (same ∙ p)) (x.overfull g e)
      where
        same : r₂.refusal ≡ r₁.refusal
        same = y.packed C h g ∙ sym (x.packed C h g)

    pub change_one : Decided m b t → (t₁ ≡ t₂) × (r₁ ≡ r₂)
    change_one (inl k) = held_one k.0 k.1 (ragged b) refl
    change_one (inr (inl k)) = input_one k.0 k.1
    change_one (inr (inr k)) = packed_one k.0 k.1 k.2 (refuse_input m b t) refl

-- A map that comes with too many points is refused, whatever its tables hold, and nothing is altered.
module _ {m : Map} {b : List ℤ} {t t' : Lent} {r : Changed} (x : Changing m b t t' r) (big : max_points < m.points) where
  pub overfull_refused : (n : ℕ) × (r ≡ refused_with (suc n)) × (t' ≡ t)
  overfull_refused = go (refuse_input m b t) refl
    where
      with_number : (n : ℕ) → r.refusal ≡ suc n → (n : ℕ) × (r ≡ refused_with (suc n)) × (t' ≡ t)
      with_number n e = (n, (x.refused n e).1, (x.refused n e).0)

      go : (k : ℕ) → refuse_input m b t ≡ k → (n : ℕ) × (r ≡ refused_with (suc n)) × (t' ≡ t)
      go zero e = ⊎_elim (with_number 5) (with_number 6) (x.overfull big e)
      go (suc n) e = with_number n (ap (λ (c : Changed). c.refusal) (x.input n e))

-- ---- a change of the radius
module _ (m : Map) (r : Float) (t t₁ t₂ : Tables) (o₁ o₂ : Outcome) (x : Rebuilding m r t t₁ o₁) (y : Rebuilding m r t t₂ o₂) where
  resize_refused : (n : ℕ) → o₁.refusal ≡ suc n → o₂.refusal ≡ suc n → (t₁ ≡ t₂) × (o₁ ≡ o₂)
  resize_refused n p q = ((x.refused n p).0 ∙ sym (y.refused n q).0, (x.refused n p).1 ∙ sym (y.refused n q).1)

  resize_held : (M : model.Map) → Holds m t M → (t₁ ≡ t₂) × (o₁ ≡ o₂)
  resize_held M h = go (judge (needs t) (model.radius r) M (model.next (model.radius r) M)) (x.refusal M h) (y.refusal M h)
    where
      go : (n : ℕ) → o₁.refusal ≡ n → o₂.refusal ≡ n → (t₁ ≡ t₂) × (o₁ ≡ o₂)
      go zero p q =
          (holds_one o₁.map o₂.map (model.next (model.radius r) M) t t₁ t₂ (x.holds M h p) (y.holds M h q) (x.behind M h p) (y.behind M h q), same_outcome o₁ o₂ (p ∙ sym q) (x.answer M h p ∙ sym (y.answer M h q)))
      go (suc n) p q = resize_refused n p q

  pub radius_one : radius.Decided m r t → (t₁ ≡ t₂) × (o₁ ≡ o₂)
  radius_one (inl k) = resize_held k.0 k.1
  radius_one (inr k) = resize_refused k.0 (ap (λ (o : Outcome). o.refusal) (x.input k.0 k.1)) (ap (λ (o : Outcome). o.refusal) (y.input k.0 k.1))

-- ---- what C gets of an answer is all of it
abbrev refusal_of : Changed → ℕ
refusal_of c = c.refusal

abbrev change_of : Changed → Change
change_of c = record { confirmed = c.confirmed; corners = c.corners; map = c.map }

pub changed_told_one : (r q : Result Change Refusal) → changed_told r ≡ changed_told q → r ≡ q
changed_told_one (Ok c) (Ok d) h = ap (λ (x : Change). Ok x) (ap change_of h)
changed_told_one (Ok c) (Err f) h = absurd (number_some f (sym (ap refusal_of h)))
changed_told_one (Err e) (Ok d) h = absurd (number_some e (ap refusal_of h))
changed_told_one (Err e) (Err f) h = ap (λ (x : Refusal). Err x) (number_one e f (ap refusal_of h))
