-- For theorems of our own: the closed form of an update: the points and pairs that it leaves, told from the cells afterwards, the changes, the marks and the old layer (`Layer.antt`'s four phases are what is believed; proofs/ClosedForm.antt shows that they agree). Definitions only.
use Rattle.std.specs.Prelude.{ℕ, ◌<◌, ◌≡◌, Bool, true, false, not, cond, ◌&&◌, ◌||◌, List, [], ◌∷◌, eqb}
use Rattle.std.proofs.Math.Option.{Option, none, some}
use Rattle.model.specs.Maps.{get, add}
use Rattle.model.specs.Cell.{Dir}
use Rattle.model.specs.Corner.{Bits, set_bit, any_bit, sees}
use Rattle.model.specs.Batch.{Batch, cells_after, confirmed, corner_changes}
use Rattle.model.specs.Layer.{Tests, Point, Points, Mark, marks, point_after, edge_run, Layer, edge}
use Rattle.model.specs.Good.{bits_in, want, Good}

-- the marks of the batch b on the cells C, for a layer of shift s
abbrev pub marks_in : ℕ → List ℕ → Batch → List Mark
marks_in s C b = marks s (corner_changes C (cells_after b C) (confirmed b C))

-- the status b at k after a mark, and after all of them
unfoldable pub status_after : Mark → ℕ → Bits → Bits
status_after m k b = cond (eqb k m.at) (set_bit m.dir m.on b) b

unfoldable pub status_run : List Mark → ℕ → Bits → Bits
status_run [] k b = b
status_run (m ∷ ms) k b = status_run ms k (status_after m k b)

-- no mark gives or takes the bit d of k
abbrev pub Untouched : Dir → ℕ → List Mark → Type 0
Untouched d k [] = Unit {0}
Untouched d k (m ∷ ms) = (k ≡ m.at → d ≡ m.dir → ⊥) × Untouched d k ms

-- no bit is marked twice
abbrev pub Once : List Mark → Type 0
Once [] = Unit {0}
Once (m ∷ ms) = Untouched m.dir m.at ms × Once ms

-- k, of status b, never loses its last bit on the way
unfoldable pub stays : List Mark → ℕ → Bits → Bool
stays [] k b = any_bit b
stays (m ∷ ms) k b = any_bit b && stays ms k (status_after m k b)

-- a point of the old layer that did not go
unfoldable pub kept : List Mark → Layer → ℕ → Bool
kept ms l k = stays ms k (bits_in l.points k)

-- a pair of the old layer: it survives exactly when neither end went in between and both see each other under the final statuses; then with its blocker
unfoldable pub survivor : List Mark → Layer → ℕ → ℕ → Option (Option ℕ)
survivor ms l p q =
    let see = sees p q (status_run ms q (bits_in l.points q)) && sees q p (status_run ms p (bits_in l.points p)) in
    cond (kept ms l p && kept ms l q && see) (edge p q l.edges) none

-- ---- the points
abbrev pub block_of : Option Point → Option ℕ
block_of none = none
block_of (some p) = p.block

-- what blocks the point at k
unfoldable pub block_in : Points → ℕ → Option ℕ
block_in ps k = block_of (get k ps)

-- a point that did not go keeps its blocker; any other has come anew, and takes the first cell of its square test
unfoldable pub start_block : Tests → List ℕ → List Mark → Layer → ℕ → Option ℕ
start_block t C ms l k = let new = (t.square C k).cell in cond (kept ms l k) (block_in l.points k) new

-- ---- the queue
-- a mark queues its point, of status b, if it brings the point, or takes a bit from it and leaves it another
unfoldable pub queues : Mark → Bits → Bool
queues m b = cond m.on (not (any_bit b)) (any_bit b && any_bit (set_bit m.dir false b))

-- the points queued by the marks, in their order, the statuses being B before them
unfoldable pub queue_run : List Mark → (ℕ → Bits) → List ℕ
queue_run [] B = []
queue_run (m ∷ ms) B = let r = queue_run ms (λ k. status_after m k (B k)) in cond (queues m (B m.at)) (m.at ∷ r) r

-- ---- the new pairs
-- p is in the queue before q
unfoldable pub ahead : ℕ → ℕ → List ℕ → Bool
ahead p q [] = false
ahead p q (k ∷ ks) = let r = ahead p q ks in cond (eqb k p) true (cond (eqb k q) false r)

-- the blocker of a new pair: the first cell of the sweep from the end that was queued first
unfoldable pub new_block : Tests → List ℕ → List ℕ → ℕ → ℕ → Option ℕ
new_block t C qs p q = let x = (t.sweep C p q).cell in let y = (t.sweep C q p).cell in cond (ahead p q qs) x y

-- ---- the whole: the cells C' afterwards, the confirmed changes ch, the marks ms, the old layer l
-- what blocks point k, which o blocked, after the changes
unfoldable pub point_run : Tests → List ℕ → ℕ → Batch → Option ℕ → Option ℕ
point_run t C k [] o = o
point_run t C k (e ∷ ch) o = point_run t C k ch (point_after t C k e.0 e.1 o)

-- there is a point where the cells give a bit, with the status that they give
unfoldable pub closed_point : Tests → List ℕ → Batch → List Mark → Layer → ℕ → Option Point
closed_point t C' ch ms l k =
    let start = start_block t C' ms l k in
    let p : Point = record { bits = want t.shift C' k; block = point_run t C' k ch start } in
    cond (any_bit (want t.shift C' k)) (some p) none

-- under the statuses B, p and q have a bit and each is in the other's visible quadrant
unfoldable pub joins : (ℕ → Bits) → ℕ → ℕ → Bool
joins B p q = any_bit (B p) && any_bit (B q) && (sees p q (B q) && sees q p (B p))

-- the blocker of the pair that is there, or o
abbrev pub or_else : Option (Option ℕ) → Option ℕ → Option ℕ
or_else none o = o
or_else (some v) o = v

-- there is a pair p < q where the statuses that the cells give join its ends: a survivor with its blocker, a new one with its sweep's, after the changes
unfoldable pub closed_pair : Tests → List ℕ → Batch → List Mark → Layer → ℕ → ℕ → Option (Option ℕ)
closed_pair t C' ch ms l p q =
    let start = or_else (survivor ms l p q) (new_block t C' (queue_run ms (bits_in l.points)) p q) in
    let v = some (edge_run t C' p q ch start) in
    cond (joins (want t.shift C') p q) v none

-- what an update of the layer l leaves: l', told from the cells afterwards, the changes and the marks
pub record Closed (t : Tests) (C' : List ℕ) (ch : Batch) (ms : List Mark) (l l' : Layer) : Type 0 where
  pub good : Good t.shift C' l'
  pub once : Once ms
  pub status : (k : ℕ) → status_run ms k (bits_in l.points k) ≡ want t.shift C' k
  pub point : (k : ℕ) → get k l'.points ≡ closed_point t C' ch ms l k
  pub pair : (p q : ℕ) → p < q → edge p q l'.edges ≡ closed_pair t C' ch ms l p q

-- ---- what there is on the way
-- a mark gives k a bit
unfoldable pub brings : List Mark → ℕ → Bool
brings [] k = false
brings (m ∷ ms) k = (eqb k m.at && m.on) || brings ms k

-- the points that there are at some time while the marks are made: those of K, and those that a mark brings
unfoldable pub stand : List Mark → List ℕ → List ℕ
stand [] K = K
stand (m ∷ ms) K = let K' = add m.at K in stand ms (cond m.on K' K)
