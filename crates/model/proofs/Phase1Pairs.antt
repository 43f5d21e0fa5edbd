-- Phase 1, the pairs: a mark leaves those whose ends still join, and a pair that is missing has a queued end. Assumes nothing.
use Prim.Native.Nat.{ℕ}
use native.Mathlib.Decide.{ℕ_discrete}
use mathlib.Core.Path.{◌≡◌, refl, sym, ap, ◌∙◌, subst}
use mathlib.Core.Logic.{◌≢◌, ◌⊎◌, inl, inr, ⊎_elim}
use mathlib.Core.Bool.{Bool, true, false, not, cond, ◌||◌, ◌&&◌, and_comm}
use mathlib.Core.List.{List, [], ◌∷◌, ◌++◌}
use mathlib.Core.Option.{Option, none, some}
use lib.Dec.{T, eqb}
use lib.Ieee.Fits.{and_i, and_l, and_r}
use Rattle.model.specs.Maps.{get, del, keys, is_some, has}
use Rattle.model.specs.Cell.{Dir}
use Rattle.model.specs.Corner.{Bits, zero4, set_bit, any_bit, sees}
use Rattle.model.specs.Layer.{Tests, Point, Edges, Work, Mark, line, edge, hide, erase, raise, lower, mark, mark_all}
use Rattle.model.specs.Good.{bits_in, Joined}
use Rattle.model.specs.ClosedForm.{status_after, queues, joins}
use Rattle.model.proofs.MapLaws.{has_append, or_left, or_right, T→true, true→T, notT→false, eqb_no}
use Rattle.model.proofs.BitLaws.{no_bit, set_any, clear_zero, sees_set, sees_clear}
use Rattle.model.proofs.EdgeLaws.{Twins, cond_ap, eqb_is, only, under, hits, hits_fore, hits_back, hits_either, hide_left, forgot}
use Rattle.model.proofs.Phase1Status.{after_at, after_off}
use Rattle.model.proofs.Phase1Points.{bits_get, mark_status, mark_real, mark_queue}

-- ---- joined points
-- k, of status b, is a point that has a in its visible quadrant
abbrev pub Open : ℕ → ℕ → Bits → Type 0
Open a k b = T (any_bit b) × T (sees a k b)

pub joined_map : {B B' : ℕ → Bits} {p q : ℕ} → (Open q p (B p) → Open q p (B' p)) → (Open p q (B q) → Open p q (B' q)) → Joined B p q → Joined B' p q
joined_map f g J =
    let x = f (J.one, J.back) in
    let y = g (J.other, J.fore) in
    record { differ = J.differ; one = x.0; other = y.0; fore = y.1; back = x.1 }

pub swap : {B : ℕ → Bits} {p q : ℕ} → Joined B p q → Joined B q p
swap J = record { differ = λ e. J.differ (sym e); one = J.other; other = J.one; fore = J.back; back = J.fore }

-- the test of the closed form is the pair's condition
joins_open : (B : ℕ → Bits) (p q : ℕ) → T (joins B p q) → Open q p (B p) × Open p q (B q)
unfolding joins
joins_open B p q u =
    let ends = and_l (any_bit (B p) && any_bit (B q)) (sees p q (B q) && sees q p (B p)) u in
    let see = and_r (any_bit (B p) && any_bit (B q)) (sees p q (B q) && sees q p (B p)) u in
    let x : Open q p (B p) = (and_l (any_bit (B p)) (any_bit (B q)) ends, and_r (sees p q (B q)) (sees q p (B p)) see) in
    let y : Open p q (B q) = (and_r (any_bit (B p)) (any_bit (B q)) ends, and_l (sees p q (B q)) (sees q p (B p)) see) in
    (x, y)

pub joins_joined : (B : ℕ → Bits) (p q : ℕ) → p ≢ q → T (joins B p q) → Joined B p q
joins_joined B p q h u = let x = joins_open B p q u in record { differ = h; one = x.0.0; other = x.1.0; fore = x.1.1; back = x.0.1 }

pub joined_joins : (B : ℕ → Bits) (p q : ℕ) → Joined B p q → T (joins B p q)
unfolding joins
joined_joins B p q J =
    and_i (any_bit (B p) && any_bit (B q)) (sees p q (B q) && sees q p (B p)) (and_i (any_bit (B p)) (any_bit (B q)) J.one J.other)
    (and_i (sees p q (B q)) (sees q p (B p)) J.fore J.back)

joins_turn : (B : ℕ → Bits) (p q : ℕ) → joins B p q ≡ joins B q p
unfolding joins
joins_turn B p q = rw (and_comm (any_bit (B p)) (any_bit (B q)), and_comm (sees p q (B q)) (sees q p (B p))) refl

-- ---- the invariant
pub record Inv (w : Work) : Type 0 where
  pub real : (k : ℕ) → is_some (get k w.points) ≡ any_bit (bits_in w.points k)
  pub twins : Twins w.edges
  pub sound : (p q : ℕ) → T (is_some (edge p q w.edges)) → Joined (bits_in w.points) p q
  pub full : (p q : ℕ) → Joined (bits_in w.points) p q → T (is_some (edge p q w.edges)) ⊎ (T (has p w.queue) ⊎ T (has q w.queue))

-- ---- what a mark does to a pair
module _ (d : Dir) (k : ℕ) (s : Bool) (w : Work) (v : Inv w) (p q : ℕ) where
  abbrev m : Mark
  m = record { dir = d; at = k; on = s }

  abbrev B : ℕ → Bits
  B = bits_in w.points

  abbrev B' : ℕ → Bits
  B' j = status_after m j (B j)

  -- what stays of the pair, if it stays where its ends join after the mark
  abbrev Left : Option (Option ℕ) → Type 0
  Left o = o ≡ cond (joins B' p q) (edge p q w.edges) none

  after : (a j : ℕ) → (j ≡ k → Open a k (B k) → Open a k (set_bit d s (B k))) → Open a j (B j) → Open a j (B' j)
  after a j f x = go (ℕ_discrete j k)
    where
      go : Dec (j ≡ k) → Open a j (B' j)
      go (yes e) = rw (e, after_at m k (B k) refl) (f e (rw e at x))
      go (no h) = rw (after_off m j (B j) h) x

  -- the end of the pair that is k, x being the other
  at_end : (x : ℕ) → T (hits p q k x) → T (joins B' p q) → Open x k (set_bit d s (B k))
  at_end x h u =
      subst (Open x k) (after_at m k (B k) refl)
      (⊎_elim (λ e. rw (e.0, e.1) at (joins_open B' p q u).0) (λ e. rw (e.0, e.1) at (joins_open B' p q u).1) (hits_either p q k x h))

  stays : ((x : ℕ) → T (hits p q k x) → Open x k (B k) → Open x k (set_bit d s (B k))) → T (is_some (edge p q w.edges)) → T (joins B' p q)
  stays f u = joined_joins B' p q (joined_map (after q p (λ e. f q (rw e (hits_fore k q)))) (after p q (λ e. f p (rw e (hits_back k p)))) (v.sound p q u))

  -- it is as it was, where k sees its other end as before
  same : ((x : ℕ) → T (hits p q k x) → Open x k (B k) → Open x k (set_bit d s (B k))) → Left (edge p q w.edges)
  same f = only (joins B' p q) (edge p q w.edges) (stays f)

  -- it is gone, where it does not
  lost : (x : ℕ) → T (hits p q k x) → (Open x k (set_bit d s (B k)) → ⊥) → Left none
  lost x h n = rw (notT→false (joins B' p q) (λ u. n (at_end x h u))) refl

module _ (t : Tests) (C : List ℕ) (d : Dir) (k : ℕ) (w : Work) (v : Inv w) (p q : ℕ) where
  -- where no point stands at k, there is no pair of k
  nobody : get k w.points ≡ none → (a : ℕ) → Open a k (bits_in w.points k) → ⊥
  nobody e a x = let y : T (any_bit zero4) = rw (bits_get k w.points none e) at x.0 in y

  raise_left : (o : Option Point) → get k w.points ≡ o → Left d k true w v p q (edge p q (raise t C d k o w).edges)
  unfolding raise
  raise_left none e = same d k true w v p q (λ x h y. absurd (nobody e x y))
  raise_left (some P) e =
      let b : Bits = set_bit d true (bits_in w.points k) in
      ap (λ (z : Bits). edge p q (hide k (set_bit d true z) (keys (line k w.edges)) w.edges)) (sym (bits_get k w.points (some P) e))
      ∙ hide_left p q k b w.edges v.twins (joins (B' d k true w v p q) p q) (λ u x h. (at_end d k true w v p q x h u).1)
      (λ u f. stays d k true w v p q (λ x h y. (set_any d (bits_in w.points k), f x h)) u)

  lower_left : (o : Option Point) → get k w.points ≡ o → Left d k false w v p q (edge p q (lower t C d k o w).edges)
  unfolding lower
  lower_left none e = same d k false w v p q (λ x h y. absurd (nobody e x y))
  lower_left (some P) e =
      ap (edge p q) (cond_ap (λ (x : Work). x.edges) (any_bit (set_bit d false P.bits)) _ _)
      ∙ ap (λ (z : Bits). edge p q (cond (any_bit (set_bit d false z)) w.edges without)) (sym (bits_get k w.points (some P) e)) ∙ go (any_bit b) refl
    where
      b : Bits
      b = set_bit d false (bits_in w.points k)

      without : Edges
      without = erase k (keys (line k w.edges)) (del k w.edges)

      none_left : any_bit b ≡ false → (x : ℕ) → Open x k b → ⊥
      none_left n x u = let y : T false = rw n at u.0 in y

      gone : any_bit b ≡ false → Dec (p ≡ k) → Dec (q ≡ k) → Left d k false w v p q (cond (eqb p k || eqb q k) none (edge p q w.edges))
      gone n (yes x) y = rw (eqb_is p k x) (lost d k false w v p q q (rw x (hits_fore k q)) (none_left n q))
      gone n (no x) (yes y) = rw (eqb_no p k x, eqb_is q k y) (lost d k false w v p q p (rw y (hits_back k p)) (none_left n p))
      gone n (no x) (no y) = rw (eqb_no p k x, eqb_no q k y) (same d k false w v p q (λ z h. absurd (⊎_elim (λ e. x e.0) (λ e. y e.1) (hits_either p q k z h))))

      go : (n : Bool) → any_bit b ≡ n → Left d k false w v p q (edge p q (cond n w.edges without))
      go true n = same d k false w v p q (λ x h y. (true→T (any_bit b) n, sees_clear x k d (bits_in w.points k) y.1))
      go false n = forgot p q k w.edges v.twins ∙ gone n (ℕ_discrete p k) (ℕ_discrete q k)

module _ (t : Tests) (C : List ℕ) (m : Mark) (w : Work) (v : Inv w) where
  abbrev next : Work
  next = mark t C m.dir m.at m.on w

  abbrev now : ℕ → Bits
  now j = status_after m j (bits_in w.points j)

  -- A mark leaves exactly the pairs whose ends join after it, with their blockers.
  pub mark_pair : (p q : ℕ) → edge p q next.edges ≡ cond (joins now p q) (edge p q w.edges) none
  unfolding mark
  mark_pair p q = go m.on
    where
      go : (s : Bool) → Left m.dir m.at s w v p q (edge p q (mark t C m.dir m.at s w).edges)
      go true = raise_left t C m.dir m.at w v p q (get m.at w.points) refl
      go false = lower_left t C m.dir m.at w v p q (get m.at w.points) refl

  -- ---- the invariant holds after it
  same_status : bits_in next.points ≡ now
  same_status = λ i k. mark_status t C m w k i

  -- who is not queued sees nothing new
  unqueued : (a k : ℕ) (b : Bits) → queues m b ≡ false → Open a k (set_bit m.dir m.on b) → Open a k b
  unfolding queues
  unqueued a k b = go m.on
    where
      cleared : (n : Bool) → any_bit b ≡ n → n && any_bit (set_bit m.dir false b) ≡ false → T (any_bit (set_bit m.dir false b)) → ⊥
      cleared true q e x = let y : T false = rw e at x in y
      cleared false q e x =
          let y : T (any_bit (set_bit m.dir false zero4)) = rw (no_bit b q) at x in
          let z : T (any_bit zero4) = rw (clear_zero m.dir) at y in
          z

      stood : (n : Bool) → not n ≡ false → T n
      stood true e = tt
      stood false e = true→T false (sym e)

      go : (s : Bool) → cond s (not (any_bit b)) (any_bit b && any_bit (set_bit m.dir false b)) ≡ false → Open a k (set_bit m.dir s b) → Open a k b
      go true e x = (stood (any_bit b) e, sees_set a k m.dir b x.1)
      go false e x = absurd (cleared (any_bit b) refl e x.0)

  before : (a j : ℕ) → (j ≡ m.at → queues m (bits_in w.points m.at) ≡ false) → Open a j (now j) → Open a j (bits_in w.points j)
  before a j f x = go (ℕ_discrete j m.at)
    where
      B : ℕ → Bits
      B = bits_in w.points

      go : Dec (j ≡ m.at) → Open a j (B j)
      go (yes e) = unqueued a j (B j) (rw e (f e)) (subst (Open a j) (after_at m j (B j) e) x)
      go (no h) = subst (Open a j) (after_off m j (B j) h) x

  queue_old : (j : ℕ) → T (has j w.queue) → T (has j next.queue)
  queue_old j u = rw (mark_queue t C m w v.real) (go (queues m (bits_in w.points m.at)))
    where
      go : (s : Bool) → T (has j (cond s (w.queue ++ (m.at ∷ [])) w.queue))
      go true = rw (has_append j w.queue (m.at ∷ [])) (or_left (has j w.queue) (has j (m.at ∷ [])) u)
      go false = u

  queue_new : (j : ℕ) → queues m (bits_in w.points m.at) ≡ true → j ≡ m.at → T (has j next.queue)
  unfolding has
  queue_new j s e = rw (mark_queue t C m w v.real, s, has_append j w.queue (m.at ∷ []), eqb_is j m.at e) (or_right (has j w.queue) true tt)

  full' : (p q : ℕ) → Joined now p q → T (is_some (edge p q next.edges)) ⊎ (T (has p next.queue) ⊎ T (has q next.queue))
  full' p q J = go (queues m (bits_in w.points m.at)) refl (ℕ_discrete p m.at) (ℕ_discrete q m.at)
    where
      B : ℕ → Bits
      B = bits_in w.points

      old : T (is_some (edge p q w.edges)) ⊎ (T (has p w.queue) ⊎ T (has q w.queue)) → T (is_some (edge p q next.edges)) ⊎ (T (has p next.queue) ⊎ T (has q next.queue))
      old (inl u) = inl (rw (mark_pair p q, T→true (joins now p q) (joined_joins now p q J)) u)
      old (inr (inl u)) = inr (inl (queue_old p u))
      old (inr (inr u)) = inr (inr (queue_old q u))

      go : (s : Bool) → queues m (B m.at) ≡ s → Dec (p ≡ m.at) → Dec (q ≡ m.at) → T (is_some (edge p q next.edges)) ⊎ (T (has p next.queue) ⊎ T (has q next.queue))
      go true e (yes x) y = inr (inl (queue_new p e x))
      go true e (no x) (yes y) = inr (inr (queue_new q e y))
      go true e (no x) (no y) = old (v.full p q (joined_map (before q p (λ h. absurd (x h))) (before p q (λ h. absurd (y h))) J))
      go false e x y = old (v.full p q (joined_map (before q p (λ h. e)) (before p q (λ h. e)) J))

  there : {A : Type 0} (s : Bool) (o : Option A) → T (is_some (cond s o none)) → T s × T (is_some o)
  there true o u = (tt, u)
  there false o u = absurd u

  sound' : (p q : ℕ) → T (is_some (edge p q next.edges)) → Joined now p q
  sound' p q u =
      let x = there (joins now p q) (edge p q w.edges) (rw (mark_pair p q) at u) in
      joins_joined now p q (v.sound p q x.1).differ x.0

  pub marked : Inv next
  marked =
      record {
        real = mark_real t C m w v.real;
        twins = λ p q. mark_pair p q ∙ rw (joins_turn now p q, v.twins p q) (sym (mark_pair q p));
        sound = λ p q u. subst (λ (B : ℕ → Bits). Joined B p q) (sym same_status) (sound' p q u);
        full = λ p q J. full' p q (subst (λ (B : ℕ → Bits). Joined B p q) same_status J);
      }

-- ---- all marks
module _ (t : Tests) (C : List ℕ) where
  pub marks_inv : (ms : List Mark) (w : Work) → Inv w → Inv (mark_all t C ms w)
  unfolding mark_all
  marks_inv [] w v = v
  marks_inv (m ∷ ms) w v = marks_inv ms (next t C m w v) (marked t C m w v)

  -- A pair that the marks leave was there, with its blocker.
  pub marks_old : (ms : List Mark) (w : Work) → Inv w → (p q : ℕ) (x : Option ℕ) → edge p q (mark_all t C ms w).edges ≡ some x → edge p q w.edges ≡ some x
  unfolding mark_all
  marks_old [] w v p q x e = e
  marks_old (m ∷ ms) w v p q x e =
      (under (joins (now t C m w v) p q) (edge p q w.edges) x (sym (mark_pair t C m w v p q) ∙ marks_old ms (next t C m w v) (marked t C m w v) p q x e)).1
