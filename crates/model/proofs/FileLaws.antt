-- The reading of a map file ends for every list of bytes. Assumes nothing.
use Prim.Native.Nat.{ℕ, zero, suc, ◌+◌, ◌*◌, ◌/◌, ◌<◌}
use native.Mathlib.Nat.{not-suc-le-zero}
use native.Mathlib.Omega.{arith}
use mathlib.Core.Bool.{Bool, true, false, cond}
use mathlib.Core.List.{List, [], ◌∷◌}
use lib.Dec.{eqb}
use lib.ListN.{length, take, drop, length-drop}
use Rattle.model.specs.Map.{batch}
use Rattle.model.specs.Refusal.{bad_size, bad_radius, refusal, step, nothing, opened}
use Rattle.model.specs.MapFile.{due, float64, entry_bytes, entries, onward, Expected, size, radius, batches, end, Reader, begin, Reading, more, refused, done, placed, take_size, take_radius, take_batch, take_end, taken, sized, tagged, stopped, one_field, read_on, read_file}

-- a reading that is over, and one that has fewer than n bytes left
abbrev pub Ended : Reading → Type 0
Ended (more r b) = ⊥
Ended (refused k f) = Unit {0}
Ended (done m) = Unit {0}

abbrev pub Shorter : ℕ → Reading → Type 0
Shorter n (more r b) = length b < n
Shorter n (refused k f) = Unit {0}
Shorter n (done m) = Unit {0}

either : (n : ℕ) (s : Bool) (a b : Reading) → Shorter n a → Shorter n b → Shorter n (cond s a b)
either n true a b h k = h
either n false a b h k = k

taken_shorter : (n : ℕ) (e : Expected) (r : Reader) (t : ℕ) (v rest : List ℕ) → length rest < n → Shorter n (taken e r t v rest)
unfolding take_size take_radius take_batch
taken_shorter n size r t v rest h = either n (bad_size (float64 v)) (refused 1 r.field) (more (onward r radius (float64 v) nothing) rest) tt h
taken_shorter n radius r t v rest h =
    either n (bad_radius r.cell_size (float64 v)) (refused 2 r.field) (more (onward r batches r.cell_size (opened r.cell_size (float64 v))) rest) tt h
taken_shorter n batches r t v rest h =
    let o = batch (entries (length v / entry_bytes) v) in
    let k = refusal o r.map in
    either n (eqb t 3) (take_batch r v rest) (take_end r rest)
    (either n (eqb k 0) (more (onward r batches r.cell_size (step o r.map)) rest) (refused k r.field) h tt) h
taken_shorter n end r t v rest h = tt

sized_shorter : (m : ℕ) (r : Reader) (t n : ℕ) (b : List ℕ) → length b < m → Shorter m (sized r t n b)
unfolding sized
sized_shorter m r t n b h =
    either m (eqb (due t n b) 0) (taken r.expected r t (take n b) (drop n b)) (refused (due t n b) r.field)
    (taken_shorter m r.expected r t (take n b) (drop n b) (let e = length-drop n b in omega arith)) tt

tagged_shorter : (r : Reader) (t : ℕ) (b : List ℕ) → Shorter (suc (length b)) (tagged r t b)
tagged_shorter r t [] = tt
tagged_shorter r t (h ∷ []) = tt
tagged_shorter r t (h ∷ l ∷ b) = sized_shorter (suc (suc (suc (length b)))) r t (h * 256 + l) b (omega arith)

-- a field takes bytes, or the reading is over
pub field_shorter : (r : Reader) (b : List ℕ) (n : ℕ) → length b < suc n → Shorter n (one_field r b)
unfolding one_field
field_shorter r [] n h = at r.expected
  where
    at : (e : Expected) → Shorter n (stopped r e)
    at size = tt
    at radius = tt
    at batches = tt
    at end = tt
field_shorter r (t ∷ b) n h = either n (placed r.expected t) (tagged r t b) (refused 10 r.field) (less (tagged r t b) (tagged_shorter r t b)) tt
  where
    less : (s : Reading) → Shorter (suc (length b)) s → Shorter n s
    less (more q l) k = omega arith
    less (refused q f) k = tt
    less (done m) k = tt

on_ends : (n : ℕ) (s : Reading) → Shorter n s → Ended (read_on n s)
unfolding read_on
on_ends zero (more r b) h = not-suc-le-zero h
on_ends zero (refused k f) h = tt
on_ends zero (done m) h = tt
on_ends (suc n) (more r b) h = on_ends n (one_field r b) (field_shorter r b n h)
on_ends (suc n) (refused k f) h = tt
on_ends (suc n) (done m) h = tt

-- Every list of bytes is read to its end: to a map, or to a refusal with its field.
pub read_ends : (b : List ℕ) → Ended (read_file b)
unfolding read_file
read_ends b = on_ends (suc (length b)) (more begin b) (omega arith)
