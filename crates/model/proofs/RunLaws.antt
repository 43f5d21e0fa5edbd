-- What every operation, accepted or refused, keeps; and so every run. Assumes nothing.
use Prim.Native.Nat.{ℕ, zero, suc, ◌≤◌, zero-le}
use native.Mathlib.Nat.{le_refl}
use mathlib.Core.Path.{◌≡◌, refl, sym, ap, ◌∙◌, subst}
use mathlib.Core.Logic.{◌≢◌, ◌⊎◌, inl, inr}
use mathlib.Core.Bool.{Bool, false, not, cond, ◌||◌}
use mathlib.Core.List.{List, [], ◌∷◌, ◌++◌}
use lib.Dec.{T, eqb, eqb→eq}
use lib.ListN.{length}
use lib.IntN.{nat_abs}
use lib.Ieee.{Float, lt, le, eq}
use Rattle.ieee.specs.Constants.{nought}
use mathlib.Core.Option.{some, none-ne-some}
use Rattle.ieee.proofs.Tools.{or_cases}
use Rattle.model.specs.Maps.{has, keys, get, Asc}
use Rattle.model.specs.Limits.{max_coordinate, max_cells, max_points}
use Rattle.model.specs.Cell.{key}
use Rattle.model.specs.Corner.{zero4, corner, status_of, corner_cells}
use Rattle.model.specs.Batch.{Batch, cells_after, confirmed, corner_changes}
use Rattle.model.specs.Layer.{edge, line, update}
use Rattle.model.specs.Good.{bits_in, want, Inside, Good}
use Rattle.model.specs.Map.{Map, Entry, Op, batch, radius, to_batch, shift_of, tests, empty_layer, fresh, changed, rebuilt, next}
use Rattle.model.specs.Refusal.{is_due, first_due, verdict, short, bad_size, bad_radius, before, unsorted, off_map, outside, crowded, packed, judge, refusal, unless, step, run, nothing, refuse_open, opened}
use Rattle.model.specs.Demand3.{recorded, accepted, told, history, last_word, told_radius, last_radius, granted}
use Rattle.model.proofs.OrderLaws.{asc_down, no_ltb}
use Rattle.model.proofs.BatchLaws.{cells_last}
use Rattle.model.proofs.DueLaws.{or_parts, passed}
use Rattle.model.proofs.LayerLaws.{change_good, rebuild_good}
use Rattle.model.proofs.KeyLaws.{Fair, key_inside, key_lt}
use Rattle.model.proofs.TestLaws.{not_false, lawful, tests_shift}

-- ---- a batch that passes its checks: its keys ascend, and lie inside the batch coordinates
fair : (e : Entry) (l : List Entry) → outside (e ∷ l) ≡ false → Fair e × (outside l ≡ false)
unfolding outside
fair e l q =
    let r = or_parts (off_map max_coordinate e.x || off_map max_coordinate e.y) (outside l) q in
    let s = or_parts (off_map max_coordinate e.x) (off_map max_coordinate e.y) r.0 in
    (record { near_x = no_ltb max_coordinate (nat_abs e.x) s.0; near_y = no_ltb max_coordinate (nat_abs e.y) s.1 }, r.1)

batch_asc : (a : Entry) (l : List Entry) → unsorted (a ∷ l) ≡ false → outside (a ∷ l) ≡ false → Asc (key a.x a.y) (to_batch (a ∷ l))
unfolding to_batch unsorted
batch_asc a [] s o = (le_refl (key a.x a.y), tt)
batch_asc a (b ∷ l) s o =
    let r = or_parts (not (before a b)) (unsorted (b ∷ l)) s in
    let f = fair a (b ∷ l) o in
    let g = fair b l f.1 in (
      le_refl (key a.x a.y),
      asc_down (suc (key a.x a.y)) (key b.x b.y) (to_batch (b ∷ l)) (key_lt a b f.0 g.0 (not_false (before a b) r.0)) (batch_asc b l r.1 f.1),
    )

pub batch_ascends : (l : List Entry) → unsorted l ≡ false → outside l ≡ false → Asc 0 (to_batch l)
unfolding to_batch
batch_ascends [] s o = tt
batch_ascends (a ∷ l) s o = asc_down 0 (key a.x a.y) (to_batch (a ∷ l)) zero-le (batch_asc a l s o)

pub batch_inside : (l : List Entry) → outside l ≡ false → (x : ℕ) → T (has x (keys (to_batch l))) → Inside max_coordinate x
unfolding to_batch keys has
batch_inside [] o x t = absurd t
batch_inside (a ∷ l) o x t = go (or_cases (eqb x (key a.x a.y)) (has x (keys (to_batch l))) t) (batch_inside l (fair a l o).1 x)
  where
    f : Fair a
    f = (fair a l o).0

    go : T (eqb x (key a.x a.y)) ⊎ T (has x (keys (to_batch l))) → (T (has x (keys (to_batch l))) → Inside max_coordinate x) → Inside max_coordinate x
    go (inl u) ih = subst (Inside max_coordinate) (sym (eqb→eq x (key a.x a.y) u)) (key_inside a.x a.y f.near_x f.near_y)
    go (inr u) ih = ih u

-- ---- a map that a call could give
abbrev pub Sound : Map → Type 0
Sound m = Good (shift_of m.size m.layer.radius) m.cells m.layer

no_bits : (s k : ℕ) → want s [] k ≡ zero4
unfolding want status_of corner has
no_bits s k = refl

empty_sound : (s : ℕ) (r : Float) → Good s [] (empty_layer r)
unfolding bits_in get edge line has
empty_sound s r =
    record {
      cell_order = tt;
      point_order = tt;
      inside = λ k u. absurd u;
      points = λ k. sym (no_bits s k);
      real = λ k. refl;
      pairs = λ p q. (λ u. absurd u, λ J. absurd (let v : T false = rw (no_bits s p) at J.one in v));
      twins = λ p q. refl;
      edge_block = λ p q b e. absurd (none-ne-some (some b) e);
      point_block = λ k b p e. absurd (none-ne-some p e);
    }

-- what an accepted operation leaves
pub next_sound : (o : Op) (m : Map) → refusal o m ≡ 0 → Sound m → Sound (next o m)
unfolding refusal judge next changed rebuilt update is_due
next_sound (batch l) m e g =
    let p = passed _ e in
    let t = tests m.size m.layer.radius in
    let C = cells_after (to_batch l) m.cells in
    let ch = confirmed (to_batch l) m.cells in
    subst (λ (z : ℕ). Good z C (update t C ch (corner_changes m.cells C ch) m.layer)) (tests_shift m.size m.layer.radius)
    (change_good t (lawful m.size m.layer.radius (p 2 tt)) m.cells m.layer (subst (λ (z : ℕ). Good z m.cells m.layer) (sym (tests_shift m.size m.layer.radius)) g)
    (to_batch l) (batch_ascends l (p 4 tt) (p 5 tt)) (batch_inside l (p 5 tt)))
next_sound (radius r) m e g =
    let p = passed _ e in
    let t = tests m.size r in
    subst (λ (z : ℕ). Good z m.cells (update t m.cells [] (corner_cells m.cells) (empty_layer r))) (tests_shift m.size r)
    (rebuild_good t (lawful m.size r (or_parts (bad_radius m.size m.layer.radius) (bad_radius m.size r) (p 2 tt)).1) m.cells g.cell_order g.inside r)

-- whatever an accepted operation keeps, every operation keeps, and every run
pub run_keeps : (P : Map → Type 0) → ((o : Op) (m : Map) → refusal o m ≡ 0 → P m → P (next o m)) → (os : List Op) (m : Map) → P m → P (run os m)
unfolding run step refusal
run_keeps P f [] m p = p
run_keeps P f (o ∷ os) m p = run_keeps P f os (unless (judge [] o m (next o m)) (next o m) m) (go (judge [] o m (next o m)) refl)
  where
    go : (n : ℕ) → judge [] o m (next o m) ≡ n → P (unless n (next o m) m)
    go zero e = f o m e p
    go (suc n) e = p

-- an opening gives a fresh map, or, where it is refused, the map that is all zero
pub opened_is : (P : Map → Type 0) (c r : Float) → (refuse_open [] c r ≡ 0 → P (fresh c r)) → P nothing → P (opened c r)
unfolding opened
opened_is P c r f p = go (refuse_open [] c r) refl
  where
    go : (n : ℕ) → refuse_open [] c r ≡ n → P (unless n (fresh c r) nothing)
    go zero e = f e
    go (suc n) e = p

pub open_sound : (c r : Float) → Sound (opened c r)
open_sound c r = opened_is Sound c r (λ e. empty_sound (shift_of c r) r) (empty_sound (shift_of nought nought) nought)

-- ---- a run is what its accepted operations do
unfoldable done : List Op → Map → Map
done [] m = m
done (o ∷ os) m = done os (next o m)

run_done : (os : List Op) (m : Map) → run os m ≡ done (accepted os m) m
unfolding run accepted done step refusal
run_done [] m = refl
run_done (o ∷ os) m = go (judge [] o m (next o m)) (run_done os)
  where
    go : (n : ℕ) → ((m : Map) → run os m ≡ done (accepted os m) m) → run os (unless n (next o m) m) ≡ done (recorded n o (accepted os (unless n (next o m) m))) m
    go zero ih = ih (next o m)
    go (suc n) ih = ih m

-- ---- the occupied cells are those last accepted
word_append : (b h : Batch) (k : ℕ) (v : Bool) → last_word (b ++ h) k v ≡ last_word h k (last_word b k v)
unfolding last_word
word_append [] h k v = refl
word_append (e ∷ b) h k v = word_append b h k (cond (eqb k e.0) e.1 v)

next_cells : (o : Op) (m : Map) (k : ℕ) → has k (next o m).cells ≡ last_word (told o) k (has k m.cells)
unfolding next changed rebuilt last_word
next_cells (batch l) m k = cells_last (to_batch l) m.cells k
next_cells (radius r) m k = refl

done_cells : (os : List Op) (m : Map) (k : ℕ) → has k (done os m).cells ≡ last_word (history os) k (has k m.cells)
unfolding done history last_word
done_cells [] m k = refl
done_cells (o ∷ os) m k = done_cells os (next o m) k ∙ ap (last_word (history os) k) (next_cells o m k) ∙ sym (word_append (told o) (history os) k (has k m.cells))

open_cells : (c r : Float) (k : ℕ) → has k (opened c r).cells ≡ false
unfolding has
open_cells c r k = opened_is (λ m. has k m.cells ≡ false) c r (λ e. refl) refl

pub run_cells : (c r : Float) (os : List Op) (k : ℕ) → has k (run os (opened c r)).cells ≡ last_word (history (accepted os (opened c r))) k false
run_cells c r os k = rw (run_done os (opened c r), done_cells (accepted os (opened c r)) (opened c r) k, open_cells c r k) refl

-- ---- the radius is the one last accepted, and the cell size the opening's
next_radius : (o : Op) (m : Map) → (next o m).layer.radius ≡ told_radius o m.layer.radius
unfolding next changed rebuilt update
next_radius (batch l) m = refl
next_radius (radius r) m = refl

done_radius : (os : List Op) (m : Map) → (done os m).layer.radius ≡ last_radius os m.layer.radius
unfolding done last_radius
done_radius [] m = refl
done_radius (o ∷ os) m = done_radius os (next o m) ∙ ap (last_radius os) (next_radius o m)

next_size : (o : Op) (m : Map) → (next o m).size ≡ m.size
unfolding next changed rebuilt
next_size (batch l) m = refl
next_size (radius r) m = refl

open_grants : (c r : Float) → ((opened c r).size ≡ granted (refuse_open [] c r) c) × ((opened c r).layer.radius ≡ granted (refuse_open [] c r) r)
unfolding opened
open_grants c r = go (refuse_open [] c r)
  where
    go : (n : ℕ) → ((unless n (fresh c r) nothing).size ≡ granted n c) × ((unless n (fresh c r) nothing).layer.radius ≡ granted n r)
    go zero = (refl, refl)
    go (suc n) = (refl, refl)

pub run_radius : (c r : Float) (os : List Op) → (run os (opened c r)).layer.radius ≡ last_radius (accepted os (opened c r)) (granted (refuse_open [] c r) r)
run_radius c r os = rw (run_done os (opened c r), done_radius (accepted os (opened c r)) (opened c r), (open_grants c r).1) refl

pub run_size : (c r : Float) (os : List Op) → (run os (opened c r)).size ≡ granted (refuse_open [] c r) c
run_size c r os = run_keeps (λ m. m.size ≡ granted (refuse_open [] c r) c) (λ o m e s. next_size o m ∙ s) os (opened c r) (open_grants c r).0

-- ---- room: what is accepted keeps the limits
abbrev pub Roomy : Map → Type 0
Roomy m = (length m.cells ≤ max_cells) × (length m.layer.points ≤ max_points)

roomy : (m : Map) → crowded m ≡ false → packed m ≡ false → Roomy m
roomy m p q = (no_ltb max_cells (length m.cells) p, no_ltb max_points (length m.layer.points) q)

pub next_roomy : (o : Op) (m : Map) → refusal o m ≡ 0 → Roomy (next o m)
unfolding refusal judge is_due
next_roomy (batch l) m e =
    let p = passed _ e in
    let n = next (batch l) m in
    roomy n (or_parts (crowded m) (crowded n) (p 6 tt)).1 (or_parts (packed m) (packed n) (p 7 tt)).1
next_roomy (radius r) m e =
    let p = passed _ e in
    let n = next (radius r) m in
    roomy n (same_cells ∙ p 6 tt) (or_parts (packed m) (packed n) (p 7 tt)).1
  where
    same_cells : crowded (next (radius r) m) ≡ crowded m
    same_cells = unfold next rebuilt in refl

pub open_roomy : (c r : Float) → Roomy (opened c r)
open_roomy c r = opened_is Roomy c r (λ e. (zero-le, zero-le)) (zero-le, zero-le)

-- ---- a refused operation changes nothing
pub refused_step : (o : Op) (m : Map) → refusal o m ≢ 0 → step o m ≡ m
unfolding step refusal
refused_step o m h = go (judge [] o m (next o m)) refl
  where
    go : (n : ℕ) → judge [] o m (next o m) ≡ n → unless n (next o m) m ≡ m
    go zero e = absurd (h e)
    go (suc n) e = refl

nothing_refuses : (o : Op) → refusal o nothing ≡ 1
unfolding refusal judge verdict first_due is_due short bad_size le lt eq
nothing_refuses (batch l) = refl
nothing_refuses (radius r) = refl

-- what a refused opening gives is refused with 1 ever after
pub refused_opening : (c r : Float) → refuse_open [] c r ≢ 0 → (o : Op) → refusal o (opened c r) ≡ 1
refused_opening c r h o = opened_is (λ m. refusal o m ≡ 1) c r (λ e. absurd (h e)) (nothing_refuses o)
