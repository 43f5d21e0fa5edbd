-- A run of calls over windows of a file ends as the model's reading of the whole file. Assumes nothing.
use Rattle.std.proofs.Common.{◌≡◌, ℕ, suc, ◌+◌, ◌*◌, ◌^◌, ◌<◌, ◌≤◌, false, List, [], ◌++◌, length, drop, sym, refl, ap, ◌∙◌, subst, append_assoc, arith, length-append, length-drop, le-ltb, Result, Ok, Err}
use Rattle.mapfile.proofs.ReadingLaws.{Any, Goes, field_on}
use Rattle.mapfile.proofs.WindowLaws.{first_done, first_more, first_refused, read_all, wide_field}
use Rattle.mapfile.specs.Fields.{expected_of}
use Rattle.mapfile.specs.Windows.{Wide, extend}
use Rattle.mapfile.specs.declared.head.Expected.{Expected}
use Rattle.model.specs.Limits.{max_cells, max_points}
use Rattle.model.specs.Map as map
use Rattle.model.specs.MapFile as model
use Rattle.model.specs.MapFile.{one_field, read_file, taken}
use Rattle.model.specs.Refusal.{short}
use Rattle.held.proofs.LayerLaws.{layer_rooms}
use Rattle.held.proofs.PadLaws.{padded_room}
use Rattle.held.specs.Holds.{Holds, Tables, needs}
use Rattle.held.specs.declared.map.Map.{Map}
use Rattle.mapfile.specs.Feeds.{EndsAs, Feeds, fill, on, stop}
use Rattle.mapfile.specs.Reads.{HoldsMap, HoldsReader, LeftAt}
use Rattle.mapfile.specs.Moves.{begun}
use Rattle.mapfile.specs.declared.state.Reader.{Reader}
use Rattle.limits.specs.Refusals.{number}
use Rattle.mapfile.specs.declared.state.FileRefusal.{FileRefusal}

-- ---- the tables stay long: those that hold a map are
pub held_long : (m : Map) (t : Tables) (M : map.Map) → Holds m t M → short (needs t) ≡ false
unfolding short
held_long m t M h =
    let c = padded_room max_cells M.cells t.cells h.cells.room h.cells.table in
    let l = layer_rooms h.layer in
    rw (le-ltb (length t.cells) max_cells c, le-ltb (length t.points) max_points l.0, le-ltb (length t.statuses) max_points l.1, le-ltb (length t.blockers) max_points l.2, le-ltb (length t.pairs) (max_points * max_points) h.layer.pairs_room) refl

pub left_long : (e : Expected) (m : Map) (t t' : Tables) (R : model.Reader) → short (needs t) ≡ false → HoldsMap (expected_of e) m t' R → LeftAt e t t' → short (needs t') ≡ false
left_long Expected.Size m t t' R s h q = ap (λ (u : Tables). short (needs u)) q ∙ s
left_long Expected.Radius m t t' R s h q = ap (λ (u : Tables). short (needs u)) q ∙ s
left_long Expected.Batches m t t' R s h q = held_long m t' R.map h
left_long Expected.End m t t' R s h q = ap (λ (u : Tables). short (needs u)) q ∙ s

-- ---- the run
-- there is a number for every field, since each that is taken has bytes
abbrev Room : model.Reader → List ℕ → List ℕ → Type 0
Room R w rest = suc R.field + (length w + length rest) < 2 ^ 64

room_more : (R : model.Reader) (w a rest : List ℕ) → Room R w (a ++ rest) → Room R (w ++ a) rest
room_more R w a rest h = let x = length-append w a in let y = length-append a rest in omega arith

room_next : (R R' : model.Reader) (w rest : List ℕ) (used : ℕ) → Goes Any R.field (one_field R w) → Room R w rest → one_field R w ≡ model.more R' (drop used w) → 3 ≤ used → used ≤ length w
    → Room R' (drop used w) rest
room_next R R' w rest used g h e x y =
    let d = length-drop used w in
    let k : Goes Any R.field (model.more R' (drop used w)) = subst (Goes Any R.field) e g in
    let n = k.0 in
    omega arith

-- a field of a wide window is one of all bytes
whole : (R : model.Reader) (w rest : List ℕ) (x : model.Reading) → Wide w rest → one_field R w ≡ x → one_field R (w ++ rest) ≡ extend rest x
whole R w rest x v e = wide_field R w rest v ∙ ap (extend rest) e

feeds_on : {r : Reader} {t : Tables} {w rest : List ℕ} {e : Result Map FileRefusal} {t'' : Tables} → Feeds r t w rest e t'' → (R : model.Reader) → HoldsReader r t R → short (needs t) ≡ false → Room R w rest → EndsAs e t'' (read_all R (w ++ rest))
feeds_on {w = w} {e = e} {t'' = t''} (fill a {rest} f) R h s l =
    subst (λ (b : List ℕ). EndsAs e t'' (read_all R b)) (append_assoc w a rest) (feeds_on f R h s (room_more R w a rest l))
feeds_on {t = t} {w = w} {rest = rest} {e = e} {t'' = t''} (on {r' = r'} {used = used} {t' = t'} v c f) R h s l =
    let i : suc R.field < 2 ^ 64 = omega arith in
    let p = c.reads s R h i in
    let R' = p.0.0 in
    let k = p.0.2 in
    let u = c.within r' used refl in
    let g = subst (λ (E : model.Expected). HoldsMap E r'.map t' R') (sym k.expected) k.holds in
    subst (EndsAs e t'') (sym (first_more R (w ++ rest) R' (drop used w ++ rest) (whole R w rest (model.more R' (drop used w)) v p.0.1)))
    (feeds_on f R' k (left_long r'.expected r'.map t t' R' s g p.1) (room_next R R' w rest used (field_on h w) l p.0.1 u.0 u.1))
feeds_on {w = w} {rest = rest} (stop {e = Err x} v c) R h s l =
    let i : suc R.field < 2 ^ 64 = omega arith in
    first_refused R (w ++ rest) (number x.refusal) x.field (whole R w rest (model.refused (number x.refusal) x.field) v (c.reads s R h i).0)
feeds_on {w = w} {rest = rest} (stop {e = Ok m} v c) R h s l =
    let i : suc R.field < 2 ^ 64 = omega arith in
    let p = (c.reads s R h i).0 in
    (p.0, first_done R (w ++ rest) p.0 (whole R w rest (model.done p.0) v p.1), p.2)

begun_holds : (t : Tables) → HoldsReader begun t model.begin
begun_holds t = record { expected = refl; field = refl; size = refl; holds = refl }

-- Whatever the windows, a run of calls from `begin` over the bytes b ends as the model's reading of b: refused with the same number at the same field, or with its map in the tables.
pub feeds_read : (b : List ℕ) (t t'' : Tables) (e : Result Map FileRefusal) → short (needs t) ≡ false → length b < 2 ^ 63 → Feeds begun t [] b e t'' → EndsAs e t'' (read_file b)
unfolding read_file
feeds_read b t t'' e s l f = feeds_on f model.begin (begun_holds t) s (omega arith)
