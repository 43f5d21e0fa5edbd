-- Phase 1, the points: what stands at a key after the marks, with which status and blocker, and which points are queued. Assumes nothing.
use Prim.Native.Nat.{ℕ, zero-le}
use mathlib.Core.Path.{◌≡◌, refl, sym, ap, ◌∙◌, subst}
use mathlib.Core.Logic.{◌≢◌}
use mathlib.Core.Bool.{Bool, true, false, not, cond, ◌&&◌}
use mathlib.Core.List.{List, [], ◌∷◌, ◌++◌, append_assoc, append-nil}
use mathlib.Core.Option.{Option, none, some, some-ne-none}
use lib.Dec.{T, eqb}
use lib.Ieee.Fits.{and_l}
use Rattle.model.specs.Maps.{get, put, del, is_some, Asc}
use Rattle.model.specs.Cell.{Dir}
use Rattle.model.specs.Corner.{Bits, zero4, set_bit, any_bit}
use Rattle.model.specs.Layer.{Tests, Point, Points, Work, Mark, raise, lower, mark, mark_all}
use Rattle.model.specs.Good.{bits_of, bits_in}
use Rattle.model.specs.ClosedForm.{status_after, status_run, stays, block_of, block_in, queues, queue_run}
use Rattle.model.proofs.MapLaws.{T→true, get_put_same, get_put_other, get_del_same, get_del_other}
use Rattle.model.proofs.BitLaws.{no_bit, set_any, clear_zero}
use Rattle.model.proofs.OrderLaws.{asc_put, asc_del}
use Rattle.model.proofs.EdgeLaws.{cond_ap, some_cond, by_eqb}

pub bits_get : (k : ℕ) (ps : Points) (o : Option Point) → get k ps ≡ o → bits_in ps k ≡ bits_of o
unfolding bits_in
bits_get k ps o e = ap bits_of e

block_get : (k : ℕ) (ps : Points) (o : Option Point) → get k ps ≡ o → block_in ps k ≡ block_of o
unfolding block_in
block_get k ps o e = ap block_of e

-- a point stands where there is a bit
abbrev pub Real : Points → Type 0
Real ps = (k : ℕ) → is_some (get k ps) ≡ any_bit (bits_in ps k)

-- what stays has a bit now
pub stays_any : (ms : List Mark) (k : ℕ) (b : Bits) → T (stays ms k b) → T (any_bit b)
unfolding stays
stays_any [] k b u = u
stays_any (m ∷ ms) k b u = and_l (any_bit b) (stays ms k (status_after m k b)) u

-- what is not there need not be taken away
del_none : {A : Type 0} (k : ℕ) (m : List (ℕ × A)) → get k m ≡ none → del k m ≡ m
unfolding get del
del_none k [] e = refl
del_none k (x ∷ m) e = go (eqb k x.0) e (del_none k m)
  where
    go : (s : Bool) → cond s (some x.1) (get k m) ≡ none → (get k m ≡ none → del k m ≡ m) → cond s (del k m) (x ∷ del k m) ≡ x ∷ m
    go true e ih = absurd (some-ne-none x.1 e)
    go false e ih = ap (λ z. x ∷ z) (ih e)

module _ (t : Tests) (C : List ℕ) where
  -- the point at k where o stood and the status is now b: a new one takes the first cell of its square test
  abbrev point : ℕ → Bits → Option Point → Point
  point k b o = record { bits = b; block = cond (is_some o) (block_of o) (t.square C k).cell }

  -- what then stands at k, and the points
  abbrev formed : ℕ → Bits → Option Point → Option Point
  formed k b o = cond (any_bit b) (some (point k b o)) none

  abbrev reformed : ℕ → Bits → Option Point → Points → Points
  reformed k b o ps = cond (any_bit b) (put k (point k b o) ps) (del k ps)

  module _ (d : Dir) (k : ℕ) (w : Work) where
    raise_points : (o : Option Point) → (raise t C d k o w).points ≡ reformed k (set_bit d true (bits_of o)) o w.points
    unfolding raise
    raise_points none = rw (T→true (any_bit (set_bit d true zero4)) (set_any d zero4)) refl
    raise_points (some p) = rw (T→true (any_bit (set_bit d true p.bits)) (set_any d p.bits)) refl

    lower_points : (o : Option Point) → get k w.points ≡ o → (lower t C d k o w).points ≡ reformed k (set_bit d false (bits_of o)) o w.points
    unfolding lower
    lower_points none e = rw (clear_zero d) (sym (del_none k w.points e))
    lower_points (some p) e = cond_ap (λ (x : Work). x.points) (any_bit (set_bit d false p.bits)) _ _

    -- a mark queues its point where it brings it, or takes a bit and leaves another
    raise_queue : (o : Option Point) → (raise t C d k o w).queue ≡ cond (not (is_some o)) (w.queue ++ (k ∷ [])) w.queue
    unfolding raise
    raise_queue none = refl
    raise_queue (some p) = refl

    lower_queue : (o : Option Point) → (lower t C d k o w).queue ≡ cond (is_some o && any_bit (set_bit d false (bits_of o))) (w.queue ++ (k ∷ [])) w.queue
    unfolding lower
    lower_queue none = refl
    lower_queue (some p) = cond_ap (λ (x : Work). x.queue) (any_bit (set_bit d false p.bits)) _ _

  -- ---- one mark
  module _ (m : Mark) (w : Work) where
    abbrev next : Work
    next = mark t C m.dir m.at m.on w

    -- the status at k that a mark of k would leave
    abbrev set : ℕ → Bits
    set k = set_bit m.dir m.on (bits_of (get k w.points))

    mark_points_lem : next.points ≡ reformed m.at (set m.at) (get m.at w.points) w.points
    unfolding mark
    mark_points_lem = go m.on
      where
        go : (s : Bool) → (mark t C m.dir m.at s w).points ≡ reformed m.at (set_bit m.dir s (bits_of (get m.at w.points))) (get m.at w.points) w.points
        go true = raise_points m.dir m.at w (get m.at w.points)
        go false = lower_points m.dir m.at w (get m.at w.points) refl

    -- What stands at k after a mark is told by what stood there.
    mark_get : (k : ℕ) → get k next.points ≡ cond (eqb k m.at) (formed k (set k) (get k w.points)) (get k w.points)
    mark_get k =
        by_eqb k m.at (get k next.points) (formed k (set k) (get k w.points)) (get k w.points) (λ e. rw (e, mark_points_lem) (at (any_bit (set m.at))))
        (λ h. rw mark_points_lem (off (any_bit (set m.at)) h))
      where
        P : Point
        P = point m.at (set m.at) (get m.at w.points)

        at : (s : Bool) → get m.at (cond s (put m.at P w.points) (del m.at w.points)) ≡ cond s (some P) none
        at true = get_put_same m.at P w.points
        at false = get_del_same m.at w.points

        off : (s : Bool) → k ≢ m.at → get k (cond s (put m.at P w.points) (del m.at w.points)) ≡ get k w.points
        off true h = get_put_other k m.at P w.points h
        off false h = get_del_other k m.at w.points h

    mark_asc : Asc 0 w.points → Asc 0 next.points
    mark_asc a = rw mark_points_lem (go (any_bit (set m.at)))
      where
        P : Point
        P = point m.at (set m.at) (get m.at w.points)

        go : (s : Bool) → Asc 0 (cond s (put m.at P w.points) (del m.at w.points))
        go true = asc_put 0 m.at P w.points zero-le a
        go false = asc_del 0 m.at w.points a

    pub mark_status : (k : ℕ) → bits_in next.points k ≡ status_after m k (bits_in w.points k)
    unfolding status_after bits_in
    mark_status k = ap bits_of (mark_get k) ∙ go (eqb k m.at)
      where
        o : Option Point
        o = get k w.points

        bits : (s : Bool) → any_bit (set k) ≡ s → bits_of (cond s (some (point k (set k) o)) none) ≡ set k
        bits true q = refl
        bits false q = sym (no_bit (set k) q)

        go : (s : Bool) → bits_of (cond s (formed k (set k) o) o) ≡ cond s (set k) (bits_of o)
        go true = bits (any_bit (set k)) refl
        go false = refl

    pub mark_real : Real w.points → Real next.points
    unfolding status_after bits_in
    mark_real r k = ap is_some (mark_get k) ∙ go (eqb k m.at) ∙ ap any_bit (sym (mark_status k))
      where
        go : (s : Bool) → is_some (cond s (formed k (set k) (get k w.points)) (get k w.points)) ≡ any_bit (cond s (set k) (bits_of (get k w.points)))
        go true = some_cond (any_bit (set k)) (point k (set k) (get k w.points))
        go false = r k

    -- a point that stood there keeps its blocker
    mark_block : (k : ℕ) → T (is_some (get k next.points)) → block_in next.points k ≡ cond (is_some (get k w.points)) (block_in w.points k) (t.square C k).cell
    unfolding block_in
    mark_block k u = ap block_of (mark_get k) ∙ go (eqb k m.at) (subst T (ap is_some (mark_get k)) u)
      where
        o : Option Point
        o = get k w.points

        made : (s : Bool) → T (is_some (cond s (some (point k (set k) o)) none)) → block_of (cond s (some (point k (set k) o)) none) ≡ cond (is_some o) (block_of o) (t.square C k).cell
        made true x = refl
        made false x = absurd x

        go : (s : Bool) → T (is_some (cond s (formed k (set k) o) o)) → block_of (cond s (formed k (set k) o) o) ≡ cond (is_some o) (block_of o) (t.square C k).cell
        go true x = made (any_bit (set k)) x
        go false x = rw (T→true (is_some o) x) refl

    pub mark_queue : Real w.points → next.queue ≡ cond (queues m (bits_in w.points m.at)) (w.queue ++ (m.at ∷ [])) w.queue
    unfolding mark bits_in queues
    mark_queue r = go m.on
      where
        o : Option Point
        o = get m.at w.points

        more : Bool → List ℕ
        more s = cond s (w.queue ++ (m.at ∷ [])) w.queue

        go : (s : Bool) → (mark t C m.dir m.at s w).queue ≡ more (cond s (not (any_bit (bits_of o))) (any_bit (bits_of o) && any_bit (set_bit m.dir false (bits_of o))))
        go true = raise_queue m.dir m.at w o ∙ ap (λ (s : Bool). more (not s)) (r m.at)
        go false = lower_queue m.dir m.at w o ∙ ap (λ (s : Bool). more (s && any_bit (set_bit m.dir false (bits_of o)))) (r m.at)

  -- ---- all marks
  pub marks_status : (ms : List Mark) (w : Work) (k : ℕ) → bits_in (mark_all t C ms w).points k ≡ status_run ms k (bits_in w.points k)
  unfolding mark_all status_run
  marks_status [] w k = refl
  marks_status (m ∷ ms) w k = marks_status ms (next m w) k ∙ ap (status_run ms k) (mark_status m w k)

  pub marks_asc : (ms : List Mark) (w : Work) → Asc 0 w.points → Asc 0 (mark_all t C ms w).points
  unfolding mark_all
  marks_asc [] w a = a
  marks_asc (m ∷ ms) w a = marks_asc ms (next m w) (mark_asc m w a)

  -- What holds of the square test's answer at k and of the blocker of the point that stood there holds of the blocker of the point that stands there.
  pub run_kept : (Q : Option ℕ → Type 0) (k : ℕ) → Q (t.square C k).cell → (ms : List Mark) (w : Work)
      → ((p : Point) → get k w.points ≡ some p → Q p.block) → (p : Point) → get k (mark_all t C ms w).points ≡ some p → Q p.block
  unfolding mark_all block_in
  run_kept Q k new [] w f = f
  run_kept Q k new (m ∷ ms) w f = run_kept Q k new ms (next m w) step
    where
      go : (o : Option Point) → get k w.points ≡ o → Q (cond (is_some o) (block_of o) (t.square C k).cell)
      go none e = new
      go (some p) e = f p e

      step : (p : Point) → get k (next m w).points ≡ some p → Q p.block
      step p e = subst Q (sym (mark_block m w k (rw e tt)) ∙ block_get k (next m w).points (some p) e) (go (get k w.points) refl)

  -- A point that never lost its last bit has its old blocker; any other that is there in the end the first cell of its square test.
  pub run_block : (ms : List Mark) (w : Work) → Real w.points → (k : ℕ) (p : Point) → get k (mark_all t C ms w).points ≡ some p
      → p.block ≡ cond (stays ms k (bits_in w.points k)) (block_in w.points k) (t.square C k).cell
  unfolding mark_all stays
  run_block [] w r k p e = rw (← r k, e, block_get k w.points (some p) e) refl
  run_block (m ∷ ms) w r k p e =
      run_block ms (next m w) (mark_real m w r) k p e
      ∙ rw (mark_status m w k) (fork (any_bit (bits_in w.points k)) (stays ms k b') (λ x. mark_block m w k (there x) ∙ rw (r k) refl))
    where
      b' : Bits
      b' = status_after m k (bits_in w.points k)

      there : T (stays ms k b') → T (is_some (get k (next m w).points))
      there x = rw (mark_real m w r k, mark_status m w k) (stays_any ms k b' x)

      fork : (a x : Bool) → (T x → block_in (next m w).points k ≡ cond a (block_in w.points k) (t.square C k).cell)
          → cond x (block_in (next m w).points k) (t.square C k).cell ≡ cond (a && x) (block_in w.points k) (t.square C k).cell
      fork true true f = f tt
      fork true false f = refl
      fork false true f = f tt
      fork false false f = refl

  -- The marks queue what `queue_run` tells.
  pub run_queue : (ms : List Mark) (w : Work) → Real w.points → (mark_all t C ms w).queue ≡ w.queue ++ queue_run ms (bits_in w.points)
  unfolding mark_all queue_run
  run_queue [] w r = sym (append-nil w.queue)
  run_queue (m ∷ ms) w r =
      run_queue ms (next m w) (mark_real m w r)
      ∙ ap (λ (B : ℕ → Bits). (next m w).queue ++ queue_run ms B) (λ i k. mark_status m w k i)
      ∙ ap (λ (q : List ℕ). q ++ rest) (mark_queue m w r)
      ∙ go (queues m (bits_in w.points m.at))
    where
      rest : List ℕ
      rest = queue_run ms (λ k. status_after m k (bits_in w.points k))

      go : (s : Bool) → cond s (w.queue ++ (m.at ∷ [])) w.queue ++ rest ≡ w.queue ++ cond s (m.at ∷ rest) rest
      go true = append_assoc w.queue (m.at ∷ []) rest
      go false = refl
