-- The points that the marks leave, each with what is kept of it: they are those of the layer afterwards. Assumes nothing.
use Prim.Native.Nat.{ℕ, suc, ◌*◌, ◌≤◌, ◌<◌}
use native.Mathlib.Omega.{arith}
use mathlib.Core.Path.{◌≡◌, refl, sym, ap, ◌∙◌}
use mathlib.Core.Bool.{Bool, true, false, cond, ◌&&◌, ◌||◌, and-false}
use mathlib.Core.List.{List, [], ◌∷◌}
use lib.Dec.{T, eqb, eqb→eq}
use lib.ListN.{length}
use Rattle.corner.specs.Changes.{numbered}
use Rattle.batches.proofs.SetLaws.{same_members}
use Rattle.marks.specs.Marked.{Bordered, Marking, ended, ending}
use Rattle.held.specs.Layers.{statuses_of}
use Rattle.marks.specs.Standing.{Standing, begun, standing, word, words}
use Rattle.marks.proofs.StandingLaws.{Placed, standing_bits, standing_first_le, standing_old, standing_old_le}
use Rattle.model.specs.Batch.{Batch}
use Rattle.model.specs.ClosedForm.{Closed, stand, status_run, stays}
use Rattle.model.specs.Corner.{Bits, any_bit, number}
use Rattle.model.specs.Good.{bits_in, bits_of, want}
use Rattle.model.specs.Layer.{Layer, Mark, Points, Tests, marks}
use Rattle.model.specs.Limits.{max_points, max_shift, need_corners}
use Rattle.model.specs.Maps.{Asc, AscL, get, has, is_some, keys}
use Rattle.model.proofs.EdgeLaws.{cond_ap}
use Rattle.model.proofs.MapLaws.{T→true, keys_has}
use Rattle.model.proofs.OrderLaws.{Within, asc_keys, asc_within}
use Rattle.model.proofs.Phase1Points.{stays_any}
use Rattle.model.proofs.StandLaws.{stand_any, stand_few, stand_order}
use Rattle.sight.specs.Blocked.{Fitting, words_of}
use Rattle.table.specs.Listed.{values}
use Rattle.table.specs.Tables.{All, rank}
use Rattle.table.proofs.AllLaws.{asc_l_down}
use Rattle.table.proofs.ListedLaws.{keys_length}
use Rattle.visibility.specs.Layers.{numbers_of, stood_of}
use Rattle.held.proofs.PlaceLaws.{rank_inside}

-- what the marks leave of what is kept of a key
abbrev pub left : List Mark → Points → ℕ → Standing
left ms ps k = standing 0 ms k (begun ps k)

-- ---- the keys that have a status in the end
ending_has : (f : ℕ → Standing) (l : List ℕ) (k : ℕ) → has k (keys (ending f l)) ≡ has k l && any_bit (f k).bits
unfolding ending keys has
ending_has f [] k = refl
ending_has f (x ∷ l) k =
    cond_ap (λ (r : List (ℕ × ℕ)). has k (keys r)) (any_bit (f x).bits) ((x, word (f x)) ∷ ending f l) (ending f l)
    ∙ rw (ending_has f l k) (go (eqb k x) (any_bit (f x).bits) (has k l) (any_bit (f k).bits) (λ u. ap (λ (j : ℕ). any_bit (f j).bits) (eqb→eq k x u)))
  where
    go : (e s h a : Bool) → (T e → a ≡ s) → cond s (e || (h && a)) (h && a) ≡ (e || h) && a
    go true true h a g = sym (g tt)
    go true false h a g = rw (g tt) (and-false h)
    go false true h a g = refl
    go false false h a g = refl

ending_asc : (f : ℕ → Standing) (lo : ℕ) (l : List ℕ) → AscL lo l → AscL lo (keys (ending f l))
unfolding ending keys
ending_asc f lo [] a = tt
ending_asc f lo (x ∷ l) a = go (any_bit (f x).bits) (ending_asc f (suc x) l a.1)
  where
    go : (s : Bool) → AscL (suc x) (keys (ending f l)) → AscL lo (keys (cond s ((x, word (f x)) ∷ ending f l) (ending f l)))
    go true h = (a.0, h)
    go false h = asc_l_down lo (suc x) (keys (ending f l)) (let y = a.0 in omega arith) h

ending_words : (f : ℕ → Standing) (l : List ℕ) → values (ending f l) ≡ words f (keys (ending f l))
unfolding ending keys words
ending_words f [] = refl
ending_words f (x ∷ l) = go (any_bit (f x).bits) (ending_words f l)
  where
    go : (s : Bool) → values (ending f l) ≡ words f (keys (ending f l))
        → values (cond s ((x, word (f x)) ∷ ending f l) (ending f l)) ≡ words f (keys (cond s ((x, word (f x)) ∷ ending f l) (ending f l)))
    go true h = ap (λ (r : List ℕ). word (f x) ∷ r) h
    go false h = h

-- ---- the points afterwards, each with what is kept of it
module _ (ms : List Mark) (ps : Points) where
  pub stood_keys : (l : Points) → keys (stood_of ms ps l) ≡ keys l
  unfolding keys
  stood_keys [] = refl
  stood_keys (e ∷ l) = ap (λ (r : List ℕ). e.0 ∷ r) (stood_keys l)

  pub stood_length : (l : Points) → length (stood_of ms ps l) ≡ length l
  stood_length [] = refl
  stood_length (e ∷ l) = ap suc (stood_length l)

  stood_words : (l : Points) → words_of (stood_of ms ps l) ≡ words (left ms ps) (keys l)
  unfolding keys words
  stood_words [] = refl
  stood_words (e ∷ l) = ap (λ (r : List ℕ). word (left ms ps e.0) ∷ r) (stood_words l)

  pub left_bits : (k : ℕ) → (left ms ps k).bits ≡ status_run ms k (bits_in ps k)
  unfolding begun
  left_bits k = standing_bits 0 ms k (begun ps k)

  pub left_first : (k : ℕ) → (left ms ps k).first ≤ length ms
  unfolding begun
  left_first k = let h = standing_first_le 0 ms k (begun ps k) (omega arith) in omega arith

  -- a key's place, where it has one
  module _ (order : Asc 0 ps) where
    begun_few : (k : ℕ) → (begun ps k).old ≤ length ps
    unfolding begun
    begun_few k = go (has k (keys ps)) refl
      where
        go : (s : Bool) → has k (keys ps) ≡ s → cond s (suc (rank k (keys ps))) 0 ≤ length ps
        go true e =
            let h : rank k (keys ps) < length (keys ps) = rank_inside k (keys ps) (asc_keys 0 ps order) e in
            let n = keys_length ps in
            omega arith
        go false e = omega arith

    pub left_few : (k : ℕ) → (left ms ps k).old ≤ length ps
    left_few k = let h = standing_old_le 0 ms k (begun ps k) in let g = begun_few k in omega arith

  -- what stays keeps its place among the old points, and nothing else has one
  module _ (real : (k : ℕ) → is_some (get k ps) ≡ any_bit (bits_in ps k)) where
    pub stays_has : (k : ℕ) → T (stays ms k (bits_in ps k)) → has k (keys ps) ≡ true
    stays_has k u = keys_has k ps ∙ real k ∙ T→true (any_bit (bits_in ps k)) (stays_any ms k (bits_in ps k) u)

    placed : (k : ℕ) → Placed (begun ps k)
    unfolding begun
    placed k e = rw (keys_has k ps ∙ real k ∙ e) refl

    pub left_old : (k : ℕ) → (left ms ps k).old ≡ cond (stays ms k (bits_in ps k)) (suc (rank k (keys ps))) 0
    unfolding begun
    left_old k = standing_old 0 ms k (begun ps k) (placed k) ∙ go (stays ms k (bits_in ps k)) (stays_has k)
      where
        go : (s : Bool) → (T s → has k (keys ps) ≡ true) → cond s (cond (has k (keys ps)) (suc (rank k (keys ps))) 0) 0 ≡ cond s (suc (rank k (keys ps))) 0
        go true h = rw (h tt) refl
        go false h = refl

marks_count : (s : ℕ) (changed : List (ℕ × Bits)) → length (marks s changed) ≡ 4 * length changed
unfolding marks
marks_count s [] = refl
marks_count s (c ∷ changed) = let e = marks_count s changed in omega arith

-- ---- an update
module _ {t : Tests} {C : List ℕ} {ch : Batch} {ms : List Mark} {l l' : Layer} (cl : Closed t C ch ms l l') where
  -- the status that is kept is what the cells afterwards give
  pub left_want : (k : ℕ) → (left ms l.points k).bits ≡ want t.shift C k
  left_want k = left_bits ms l.points k ∙ cl.status k

  -- a point is there afterwards where the cells give a bit
  pub after_has : (k : ℕ) → has k (keys l'.points) ≡ any_bit (want t.shift C k)
  after_has k = keys_has k l'.points ∙ cl.good.real k ∙ ap any_bit (cl.good.points k)

  -- each point's status is the one that is kept of it
  statuses_within : (r : Points) → Within l'.points r → numbers_of (stood_of ms l.points r) ≡ statuses_of r
  unfolding bits_in
  statuses_within [] w = refl
  statuses_within (e ∷ r) w = λ i. number (same i) ∷ statuses_within r w.1 i
    where
      same : (left ms l.points e.0).bits ≡ e.1.bits
      same = left_want e.0 ∙ sym (cl.good.points e.0) ∙ ap bits_of w.0

  pub stood_statuses : numbers_of (stood_of ms l.points l'.points) ≡ statuses_of l'.points
  stood_statuses = statuses_within l'.points (asc_within 0 l'.points cl.good.point_order)

  -- of the candidates, those with a status in the end are the points afterwards
  module _ (order : Asc 0 l.points) where
    abbrev over : List (ℕ × ℕ)
    over = ending (left ms l.points) (stand ms (keys l.points))

    over_has : (k : ℕ) → has k (keys over) ≡ has k (keys l'.points)
    over_has k =
        ending_has (left ms l.points) (stand ms (keys l.points)) k
        ∙ rw (left_bits ms l.points k, after_has k, ← cl.status k)
        (go (has k (stand ms (keys l.points))) (any_bit (status_run ms k (bits_in l.points k))) (stand_any ms l.points k))
      where
        go : (h a : Bool) → (T a → T h) → h && a ≡ a
        go true a f = refl
        go false true f = absurd (f tt)
        go false false f = refl

    over_keys : keys over ≡ keys l'.points
    over_keys =
        same_members 0 (keys over) (keys l'.points) (ending_asc (left ms l.points) 0 (stand ms (keys l.points)) (stand_order ms (keys l.points) (asc_keys 0 l.points order)))
        (asc_keys 0 l'.points cl.good.point_order) over_has

    over_values : values over ≡ words_of (stood_of ms l.points l'.points)
    over_values =
        ending_words (left ms l.points) (stand ms (keys l.points)) ∙ ap (words (left ms l.points)) over_keys ∙ sym (stood_words ms l.points l'.points)

-- ---- the marks of corners
module _ {t : Tests} {C : List ℕ} {ch : Batch} (changed : List (ℕ × Bits)) {l l' : Layer} (cl : Closed t C ch (marks t.shift changed) l l') (order : Asc 0 l.points) where
  -- The points that the marks leave are those of the layer afterwards, and their words are those of what is kept.
  pub ended_keys : keys (ended t.shift l.points changed) ≡ keys l'.points
  ended_keys = over_keys cl order

  pub ended_values : values (ended t.shift l.points changed) ≡ words_of (stood_of (marks t.shift changed) l.points l'.points)
  ended_values = over_values cl order

  pub ended_length : length (ended t.shift l.points changed) ≡ length l'.points
  ended_length = sym (keys_length (ended t.shift l.points changed)) ∙ ap length ended_keys ∙ keys_length l'.points

  -- a word has room for each
  pub fitting : length l.points ≤ max_points → length changed ≤ need_corners → Fitting (stood_of (marks t.shift changed) l.points l'.points)
  fitting few count = go l'.points
    where
      go : (r : Points) → Fitting (stood_of (marks t.shift changed) l.points r)
      go [] = tt
      go (e ∷ r) =
          let o = left_few (marks t.shift changed) l.points order e.0 in
          let f = left_first (marks t.shift changed) l.points e.0 in
          let n = marks_count t.shift changed in
          ((omega arith, omega arith), omega arith, go r)

  -- What is lent for the marks is as they ask.
  pub marking : t.shift ≤ max_shift → length l.points ≤ max_points → length changed ≤ need_corners → All Bordered (keys changed) → (points statuses corners altered : List ℕ)
      → points ≡ keys l.points → statuses ≡ statuses_of l.points → corners ≡ keys changed → altered ≡ values (numbered changed) → Marking t.shift l.points changed points statuses corners altered
  marking small few count inside points statuses corners altered p s c b =
      record {
        small = small;
        few = few;
        order = order;
        count = count;
        inside = inside;
        flight = rw ended_length (stand_few cl order);
        keys_are = p;
        statuses_are = s;
        corners_are = c;
        altered_are = b;
      }
