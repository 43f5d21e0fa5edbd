-- Phase 1, each bit marked at most once: so it is where each cell is listed once, as a batch lists them; and what follows for a bit and for the old pairs. Assumes nothing.
use Prim.Native.Nat.{ℕ, ◌≤◌}
use mathlib.Core.Path.{◌≡◌, refl, sym, ap, ◌∙◌, subst}
use mathlib.Core.Logic.{⊎_elim}
use mathlib.Core.Bool.{Bool, true, false, not, cond, ◌||◌, ◌&&◌, true≢false}
use mathlib.Core.List.{List, [], ◌∷◌}
use mathlib.Core.Option.{Option, none, some}
use lib.Dec.{T, eqb, eqb→eq, eqb_refl}
use lib.Ieee.Fits.{and_l, and_r}
use Rattle.ieee.proofs.Tools.{or_cases}
use Rattle.model.specs.Maps.{keys, is_some, has}
use Rattle.model.specs.Cell.{Dir, SW, SE, NW, NE, col, row, move}
use Rattle.model.specs.Corner.{Bits, bit, any_bit, same_bits, status_of, quadrant, sees}
use Rattle.model.specs.Batch.{Batch, altered, met, corner_changes}
use Rattle.model.specs.Layer.{Tests, Work, Mark, marks, edge, mark, mark_all}
use Rattle.model.specs.Good.{bits_in, Joined}
use Rattle.model.specs.Limits.{max_shift}
use Rattle.model.specs.ClosedForm.{status_after, status_run, Untouched, Once, stays, joins}
use Rattle.model.proofs.MapLaws.{or_left, or_right, T→true, true→T, notT→false}
use Rattle.model.proofs.BitLaws.{same_dir}
use Rattle.model.proofs.SingleLaws.{Single}
use Rattle.model.proofs.CornerLaws.{Safe, Fits}
use Rattle.model.proofs.EdgeLaws.{only}
use Rattle.model.proofs.Phase1Status.{to_back, after_bit}
use Rattle.model.proofs.Phase1Points.{mark_status, stays_any}
use Rattle.model.proofs.Phase1Pairs.{Inv, joined_map, joined_joins, mark_pair, marked}

-- ---- the corner changes
-- what was checked before is not listed
altered_fresh : (C C' done l : List ℕ) (x : ℕ) → T (has x done) → T (has x (keys (altered C C' done l))) → ⊥
unfolding altered has keys
altered_fresh C C' done [] x h t = t
altered_fresh C C' done (k ∷ l) x h t =
    go (has k done || same_bits (status_of C k) (status_of C' k)) refl t (altered_fresh C C' (k ∷ done) l x (or_right (eqb x k) (has x done) h))
  where
    rest : List (ℕ × Bits)
    rest = altered C C' (k ∷ done) l

    old : (s : Bool) → has k done || s ≡ false → x ≡ k → ⊥
    old s q e = let u : T (has k done) = rw e at h in let v : T false = rw q at (or_left (has k done) s u) in v

    go : (s : Bool) → has k done || same_bits (status_of C k) (status_of C' k) ≡ s → T (has x (keys (cond s rest ((k, status_of C' k) ∷ rest))))
        → (T (has x (keys rest)) → ⊥) → ⊥
    go true q u f = f u
    go false q u f = ⊎_elim (λ v. old (same_bits (status_of C k) (status_of C' k)) q (eqb→eq x k v)) f (or_cases (eqb x k) (has x (keys rest)) u)

altered_single : (C C' done l : List ℕ) → Single (keys (altered C C' done l))
unfolding altered has keys
altered_single C C' done [] = tt
altered_single C C' done (k ∷ l) = go (has k done || same_bits (status_of C k) (status_of C' k)) (altered_single C C' (k ∷ done) l)
  where
    rest : List (ℕ × Bits)
    rest = altered C C' (k ∷ done) l

    here : T (has k (k ∷ done))
    here = or_left (eqb k k) (has k done) (eqb_refl k)

    go : (s : Bool) → Single (keys rest) → Single (keys (cond s rest ((k, status_of C' k) ∷ rest)))
    go true ih = ih
    go false ih = (altered_fresh C C' (k ∷ done) l k here, ih)

-- The corner changes of a batch list every cell once.
pub changes_single : (C C' : List ℕ) (ch : Batch) → Single (keys (corner_changes C C' ch))
unfolding corner_changes
changes_single C C' ch = altered_single C C' [] (met ch)

-- ---- directions
same_dir_lem : (D d : Dir) → T (same_dir D d) → D ≡ d
same_dir_lem SW SW t = refl
same_dir_lem SW SE t = absurd t
same_dir_lem SW NW t = absurd t
same_dir_lem SW NE t = absurd t
same_dir_lem SE SW t = absurd t
same_dir_lem SE SE t = refl
same_dir_lem SE NW t = absurd t
same_dir_lem SE NE t = absurd t
same_dir_lem NW SW t = absurd t
same_dir_lem NW SE t = absurd t
same_dir_lem NW NW t = refl
same_dir_lem NW NE t = absurd t
same_dir_lem NE SW t = absurd t
same_dir_lem NE SE t = absurd t
same_dir_lem NE NW t = absurd t
same_dir_lem NE NE t = refl

no_dir : (D d : Dir) → same_dir D d ≡ false → D ≡ d → ⊥
no_dir D d e q = same d (sym (ap (λ (z : Dir). same_dir z d) q) ∙ e)
  where
    same : (d : Dir) → same_dir d d ≡ false → ⊥
    same SW e = true≢false e
    same SE e = true≢false e
    same NW e = true≢false e
    same NE e = true≢false e

-- ---- each bit is marked once
move_apart : (s : ℕ) (D : Dir) (b c : ℕ) → s ≤ max_shift → Safe b → Safe c → move s D b ≡ move s D c → b ≡ c
move_apart s D b c h f g e = to_back s D b (move s D c) h f (sym e) ∙ sym (to_back s D c (move s D c) h g refl)

-- the marks of other cells do not concern the bits of b's
untouched : (s : ℕ) (C : List ℕ) (cs : List (ℕ × Bits)) (D : Dir) (b : ℕ) → s ≤ max_shift → Fits C cs → Safe b → (T (has b (keys cs)) → ⊥)
    → Untouched D (move s D b) (marks s cs)
unfolding marks keys has
untouched s C [] D b h f g n = tt
untouched s C (c ∷ cs) D b h f g n = (at SW, (at SE, (at NW, (at NE, untouched s C cs D b h f.1.1 g (λ t. n (or_right (eqb b c.0) (has b (keys cs)) t))))))
  where
    at : (d : Dir) → move s D b ≡ move s d c.0 → D ≡ d → ⊥
    at d e q =
        let u : move s D b ≡ move s D c.0 = subst (λ (z : Dir). move s D b ≡ move s z c.0) (sym q) e in
        let v : b ≡ c.0 = move_apart s D b c.0 h g f.1.0 u in
        n (or_left (eqb b c.0) (has b (keys cs)) (rw v (eqb_refl c.0)))

-- Of cells that are listed once, each far enough from the border, every mark concerns a bit of its own.
pub marks_once : (s : ℕ) (C : List ℕ) (cs : List (ℕ × Bits)) → s ≤ max_shift → Fits C cs → Single (keys cs) → Once (marks s cs)
unfolding marks keys
marks_once s C [] h f u = tt
marks_once s C (c ∷ cs) h f u = (
  (other SW SE refl, (other SW NW refl, (other SW NE refl, rest SW))),
  ((other SE NW refl, (other SE NE refl, rest SE)), ((other NW NE refl, rest NW), (rest NE, marks_once s C cs h f.1.1 u.1))),
)
  where
    rest : (d : Dir) → Untouched d (move s d c.0) (marks s cs)
    rest d = untouched s C cs d c.0 h f.1.1 f.1.0 u.0

    other : (a b : Dir) → same_dir a b ≡ false → move s a c.0 ≡ move s b c.0 → a ≡ b → ⊥
    other a b e p q = no_dir a b e q

-- ---- one bit
-- A bit that no mark concerns stays.
pub untouched_bit : (ms : List Mark) (d : Dir) (k : ℕ) (b : Bits) → Untouched d k ms → bit d (status_run ms k b) ≡ bit d b
unfolding status_run
untouched_bit [] d k b u = refl
untouched_bit (m ∷ ms) d k b u = untouched_bit ms d k (status_after m k b) u.1 ∙ after_bit m k b d ∙ rw miss refl
  where
    miss : eqb k m.at && same_dir d m.dir ≡ false
    miss =
        notT→false (eqb k m.at && same_dir d m.dir)
        (λ t. u.0 (eqb→eq k m.at (and_l (eqb k m.at) (same_dir d m.dir) t)) (same_dir_lem d m.dir (and_r (eqb k m.at) (same_dir d m.dir) t)))

-- ---- what the marks leave of the old pairs
-- who sees p before a mark and in the end sees p after it: its bit is not marked again
seen_between : (m : Mark) (ms : List Mark) → Untouched m.dir m.at ms → (p q : ℕ) (b : Bits)
    → T (sees p q b) → T (sees p q (status_run ms q (status_after m q b))) → T (sees p q (status_after m q b))
unfolding sees
seen_between m ms o p q b = go (eqb (col p) (col q) || eqb (row p) (row q))
  where
    D : Dir
    D = quadrant p q

    b' : Bits
    b' = status_after m q b

    here : (s : Bool) → eqb q m.at && same_dir D m.dir ≡ s → T (not (bit D b)) → T (not (bit D (status_run ms q b'))) → T (not (bit D b'))
    here true e x y =
        let u = true→T (eqb q m.at && same_dir D m.dir) e in
        let f : q ≡ m.at = eqb→eq q m.at (and_l (eqb q m.at) (same_dir D m.dir) u) in
        let g : D ≡ m.dir = same_dir_lem D m.dir (and_r (eqb q m.at) (same_dir D m.dir) u) in
        rw (untouched_bit ms D q b' (rw (g, f) o)) at y
    here false e x y = rw (after_bit m q b D, e) x

    go : (s : Bool) → T (s || not (bit D b)) → T (s || not (bit D (status_run ms q b'))) → T (s || not (bit D b'))
    go true x y = tt
    go false x y = here (eqb q m.at && same_dir D m.dir) refl x y

-- what is there with a and c, and under x, y and s only with j
narrow : {A : Type 0} (a x c y s j : Bool) (o : Option A) → (T (is_some o) → T a × T c) → (T (is_some o) → T x → T y → T s → T j)
    → cond (x && y && s) (cond j o none) none ≡ cond ((a && x) && (c && y) && s) o none
narrow a x c y s j none f g = none_either (x && y && s) j ∙ sym (none_either ((a && x) && (c && y) && s) true)
  where
    none_either : {A : Type 0} (u v : Bool) → ◌≡◌ {A = Option A} (cond u (cond v none none) none) none
    none_either true true = refl
    none_either true false = refl
    none_either false v = refl
narrow a x c y s j (some z) f g = rw (T→true a (f tt).0, T→true c (f tt).1) (go x y s (g tt))
  where
    go : (x y s : Bool) → (T x → T y → T s → T j) → cond (x && y && s) (cond j (some z) none) none ≡ cond (x && y && s) (some z) none
    go true true true h = rw (T→true j (h tt tt tt)) refl
    go true true false h = refl
    go true false s h = refl
    go false y s h = refl

-- Of the pairs at any moment, the marks still to come leave those whose ends stay and see each other in the end, with their blockers.
pub run_pairs : (t : Tests) (C : List ℕ) (ms : List Mark) → Once ms → (w : Work) → Inv w → (p q : ℕ)
    → edge p q (mark_all t C ms w).edges
    ≡ cond (stays ms p (bits_in w.points p) && stays ms q (bits_in w.points q)
    && (sees p q (status_run ms q (bits_in w.points q)) && sees q p (status_run ms p (bits_in w.points p)))) (edge p q w.edges) none
unfolding mark_all stays status_run joins
run_pairs t C [] o w v p q = only (joins (bits_in w.points) p q) (edge p q w.edges) (λ u. joined_joins (bits_in w.points) p q (v.sound p q u))
run_pairs t C (m ∷ ms) o w v p q =
    run_pairs t C ms o.1 (mark t C m.dir m.at m.on w) (marked t C m w v) p q
    ∙ rw (mark_status t C m w p, mark_status t C m w q, mark_pair t C m w v p q)
    (narrow (any_bit (B p)) (stays ms p (B' p)) (any_bit (B q)) (stays ms q (B' q)) see (joins B' p q) (edge p q w.edges) (λ u. ((v.sound p q u).one, (v.sound p q u).other))
    (λ u x y z. joined_joins B' p q (keeps (v.sound p q u) x y z)))
  where
    B : ℕ → Bits
    B = bits_in w.points

    B' : ℕ → Bits
    B' j = status_after m j (B j)

    see : Bool
    see = sees p q (status_run ms q (B' q)) && sees q p (status_run ms p (B' p))

    keeps : Joined B p q → T (stays ms p (B' p)) → T (stays ms q (B' q)) → T see → Joined B' p q
    keeps J x y z =
        joined_map (λ u. (stays_any ms p (B' p) x, seen_between m ms o.0 q p (B p) u.1 (and_r (sees p q (status_run ms q (B' q))) (sees q p (status_run ms p (B' p))) z)))
        (λ u. (stays_any ms q (B' q) y, seen_between m ms o.0 p q (B q) u.1 (and_l (sees p q (status_run ms q (B' q))) (sees q p (status_run ms p (B' p))) z))) J
