-- The points that stand at some time while the marks are made: in their order, which they are, and how many. Assumes nothing.
use Prim.Native.Nat.{ℕ, suc, ◌+◌, ◌≤◌, zero-le}
use native.Mathlib.Omega.{arith}
use mathlib.Core.Path.{◌≡◌, refl, sym, ap, ◌∙◌, subst}
use mathlib.Core.Logic.{◌⊎◌, inl, inr, ⊎_elim}
use mathlib.Core.Bool.{Bool, true, false, cond, ◌&&◌, ◌||◌, and-false, or-true, or-false, or_assoc}
use mathlib.Core.List.{List, [], ◌∷◌, ◌++◌}
use mathlib.Core.Option.{Option, none, some}
use lib.Dec.{T, eqb, ltb, eqb→eq}
use lib.ListN.{length}
use lib.Ieee.Fits.{and_l, and_r}
use Rattle.ieee.proofs.Tools.{or_cases}
use Rattle.model.specs.Maps.{get, keys, is_some, has, add, Asc, AscL}
use Rattle.model.specs.Corner.{Bits, set_bit, any_bit, bit}
use Rattle.model.specs.Batch.{Batch}
use Rattle.model.specs.Layer.{Tests, Point, Points, Mark, Layer}
use Rattle.model.specs.Good.{bits_of, bits_in}
use Rattle.model.specs.ClosedForm.{status_after, status_run, Once, Closed, brings, stand}
use Rattle.model.proofs.MapLaws.{T→true, or_left, or_right, keys_has}
use Rattle.model.proofs.BitLaws.{bit_any, bit_same, clear_any}
use Rattle.model.proofs.BatchLaws.{write_word}
use Rattle.model.proofs.OrderLaws.{asc_keys, asc_l_add}
use Rattle.model.proofs.SingleLaws.{asc_l_single, length_keys, single_two}
use Rattle.model.proofs.Phase1Status.{after_at}
use Rattle.model.proofs.Phase1Once.{untouched_bit}

-- ---- the list
pub stand_order : (ms : List Mark) (K : List ℕ) → AscL 0 K → AscL 0 (stand ms K)
unfolding stand
stand_order [] K a = a
stand_order (m ∷ ms) K a = stand_order ms (cond m.on (add m.at K) K) (go m.on)
  where
    go : (s : Bool) → AscL 0 (cond s (add m.at K) K)
    go true = asc_l_add 0 m.at K zero-le a
    go false = a

pub stand_has : (ms : List Mark) (K : List ℕ) (k : ℕ) → has k (stand ms K) ≡ has k K || brings ms k
unfolding stand brings
stand_has [] K k = sym (or-false (has k K))
stand_has (m ∷ ms) K k =
    stand_has ms (cond m.on (add m.at K) K) k ∙ ap (λ (s : Bool). s || brings ms k) (go m.on) ∙ or_assoc (has k K) (eqb k m.at && m.on) (brings ms k)
  where
    here : (e : Bool) → cond e true (has k K) ≡ has k K || (e && true)
    here true = sym (or-true (has k K))
    here false = sym (or-false (has k K))

    go : (s : Bool) → has k (cond s (add m.at K) K) ≡ has k K || (eqb k m.at && s)
    go true = write_word k m.at true K ∙ here (eqb k m.at)
    go false = rw (and-false (eqb k m.at)) (sym (or-false (has k K)))

-- ---- its length: more marks, no fewer
add_more : (k : ℕ) (l : List ℕ) → length l ≤ length (add k l)
unfolding add
add_more k [] = zero-le
add_more k (x ∷ l) = go (eqb k x) (ltb k x) (add_more k l)
  where
    go : (b c : Bool) → length l ≤ length (add k l) → suc (length l) ≤ length (cond b (x ∷ l) (cond c (k ∷ x ∷ l) (x ∷ add k l)))
    go true c h = omega arith
    go false true h = omega arith
    go false false h = omega arith

pub stand_more : (ms : List Mark) (K : List ℕ) → length K ≤ length (stand ms K)
unfolding stand
stand_more [] K = omega arith
stand_more (m ∷ ms) K = let h = go m.on in let r = stand_more ms (cond m.on (add m.at K) K) in omega arith
  where
    go : (s : Bool) → length K ≤ length (cond s (add m.at K) K)
    go true = add_more m.at K
    go false = omega arith

pub stand_append : (ms ns : List Mark) (K : List ℕ) → stand (ms ++ ns) K ≡ stand ns (stand ms K)
unfolding stand
stand_append [] ns K = refl
stand_append (m ∷ ms) ns K = stand_append ms ns (cond m.on (add m.at K) K)

pub stand_grows : (ms ns : List Mark) (K : List ℕ) → length (stand ms K) ≤ length (stand (ms ++ ns) K)
stand_grows ms ns K = rw (stand_append ms ns K) (stand_more ns (stand ms K))

-- ---- what a mark brings
-- It has a bit in the end, where no bit is marked twice.
brings_any : (ms : List Mark) → Once ms → (k : ℕ) (b : Bits) → T (brings ms k) → T (any_bit (status_run ms k b))
unfolding brings status_run
brings_any [] o k b u = absurd u
brings_any (m ∷ ms) o k b u =
    ⊎_elim (λ v. here (eqb→eq k m.at (and_l (eqb k m.at) m.on v)) (T→true m.on (and_r (eqb k m.at) m.on v)))
    (brings_any ms o.1 k (status_after m k b)) (or_cases (eqb k m.at && m.on) (brings ms k) u)
  where
    here : k ≡ m.at → m.on ≡ true → T (any_bit (status_run ms k (status_after m k b)))
    here e f =
        bit_any m.dir (status_run ms k (status_after m k b))
        (untouched_bit ms m.dir k (status_after m k b) (rw e o.0) ∙ ap (bit m.dir) (after_at m k b e) ∙ bit_same m.dir m.on b ∙ f)

-- What has a bit after the marks had one before, or a mark brings it.
run_any : (ms : List Mark) (k : ℕ) (b : Bits) → T (any_bit (status_run ms k b)) → T (any_bit b) ⊎ T (brings ms k)
unfolding brings status_run status_after
run_any [] k b u = inl u
run_any (m ∷ ms) k b u = ⊎_elim (go (eqb k m.at) m.on) (λ v. inr (or_right (eqb k m.at && m.on) (brings ms k) v)) (run_any ms k (status_after m k b) u)
  where
    go : (s v : Bool) → T (any_bit (cond s (set_bit m.dir v b) b)) → T (any_bit b) ⊎ T ((s && v) || brings ms k)
    go true true x = inr tt
    go true false x = inl (clear_any m.dir b x)
    go false v x = inl x

-- a status with a bit is a point's
any_has : (k : ℕ) (ps : Points) → T (any_bit (bits_in ps k)) → T (has k (keys ps))
unfolding bits_in
any_has k ps u = rw (keys_has k ps) (go (get k ps) u)
  where
    go : (o : Option Point) → T (any_bit (bits_of o)) → T (is_some o)
    go none x = absurd x
    go (some p) x = tt

-- Where the marks leave a bit, the point stands.
pub stand_any : (ms : List Mark) (ps : Points) (k : ℕ) → T (any_bit (status_run ms k (bits_in ps k))) → T (has k (stand ms (keys ps)))
stand_any ms ps k u =
    rw (stand_has ms (keys ps) k)
    (⊎_elim (λ v. or_left (has k (keys ps)) (brings ms k) (any_has k ps v)) (or_right (has k (keys ps)) (brings ms k)) (run_any ms k (bits_in ps k) u))

-- ---- an update
module _ {t : Tests} {C : List ℕ} {ch : Batch} {ms : List Mark} {l l' : Layer} (c : Closed t C ch ms l l') where
  -- a point is there afterwards where the marks leave a bit
  after_has : (k : ℕ) → has k (keys l'.points) ≡ any_bit (status_run ms k (bits_in l.points k))
  after_has k = keys_has k l'.points ∙ c.good.real k ∙ ap any_bit (c.good.points k ∙ sym (c.status k))

  -- Every point afterwards stands.
  pub stand_covers : (k : ℕ) → T (has k (keys l'.points)) → T (has k (stand ms (keys l.points)))
  stand_covers k u = stand_any ms l.points k (subst T (after_has k) u)

  -- What stands was there before, or is there afterwards.
  pub stand_from : (k : ℕ) → T (has k (stand ms (keys l.points))) → T (has k (keys l.points)) ⊎ T (has k (keys l'.points))
  stand_from k u =
      ⊎_elim inl (λ v. inr (rw (after_has k) (brings_any ms c.once k (bits_in l.points k) v)))
      (or_cases (has k (keys l.points)) (brings ms k) (subst T (stand_has ms (keys l.points) k) u))

  -- So they are at most those before and those afterwards together.
  pub stand_few : Asc 0 l.points → length (stand ms (keys l.points)) ≤ length l.points + length l'.points
  stand_few a =
      rw (← length_keys l.points, ← length_keys l'.points)
      (single_two (stand ms (keys l.points)) (keys l.points) (keys l'.points)
      (asc_l_single 0 (stand ms (keys l.points)) (stand_order ms (keys l.points) (asc_keys 0 l.points a))) stand_from)
