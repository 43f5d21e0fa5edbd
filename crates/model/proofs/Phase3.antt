-- Phase 3: it leaves the pairs that there are, and makes every other of two that join and of which one is queued, with the blocker of the sweep from the end queued first. Assumes nothing.
use Prim.Native.Nat.{ℕ}
use native.Mathlib.Decide.{ℕ_discrete}
use mathlib.Core.Path.{◌≡◌, refl, sym, ap, ◌∙◌, subst}
use mathlib.Core.Logic.{◌≢◌, ⊎_elim}
use mathlib.Core.Bool.{Bool, true, false, not, cond, ◌&&◌, ◌||◌, and-true, and-false, or-true}
use mathlib.Core.List.{List, [], ◌∷◌}
use mathlib.Core.Option.{Option, none, some}
use lib.Dec.{T, T_not, not_T, eqb, eqb→eq}
use lib.Ieee.Fits.{and_i, and_l, and_r}
use Rattle.ieee.proofs.Tools.{same_test}
use Rattle.model.specs.Maps.{get, keys, is_some, has}
use Rattle.model.specs.Corner.{Bits, any_bit, sees}
use Rattle.model.specs.Layer.{Tests, Point, Points, Edges, edge, link, wanted, connect, connect_at, phase3}
use Rattle.model.specs.Good.{bits_in, Joined}
use Rattle.model.specs.ClosedForm.{joins, ahead, new_block}
use Rattle.model.proofs.MapLaws.{T→true, true→T, notT→false, eqb_yes, eqb_no, keys_has}
use Rattle.model.proofs.OrderLaws.{Within}
use Rattle.model.proofs.EdgeLaws.{Twins, cond_ap, some_cond, only, eqb_is, hits, hits_fore, hits_turn, hits_either, hits_edge, link_at}
use Rattle.model.proofs.Phase1Points.{Real, bits_get}
use Rattle.model.proofs.Phase1Pairs.{joins_joined, joined_joins, swap}

-- ---- two points that join
abbrev pub apart : (ℕ → Bits) → ℕ → ℕ → Bool
apart B p q = not (eqb p q) && joins B p q

pub apart_joined : (B : ℕ → Bits) (p q : ℕ) → T (apart B p q) → Joined B p q
apart_joined B p q u =
    joins_joined B p q (λ e. T_not (eqb p q) (and_l (not (eqb p q)) (joins B p q) u) (true→T (eqb p q) (eqb_is p q e))) (and_r (not (eqb p q)) (joins B p q) u)

pub joined_apart : (B : ℕ → Bits) (p q : ℕ) → Joined B p q → T (apart B p q)
joined_apart B p q J = and_i (not (eqb p q)) (joins B p q) (not_T (eqb p q) (λ u. J.differ (eqb→eq p q u))) (joined_joins B p q J)

apart_turn : (B : ℕ → Bits) (p q : ℕ) → apart B p q ≡ apart B q p
apart_turn B p q =
    same_test (apart B p q) (apart B q p) (λ u. joined_apart B q p (swap (apart_joined B p q u))) (λ u. joined_apart B p q (swap (apart_joined B q p u)))

-- ---- the pair that is there, or else the new one
abbrev pub grow : Option (Option ℕ) → Option (Option ℕ) → Option (Option ℕ)
grow none n = n
grow (some v) n = some v

grow_none : (o : Option (Option ℕ)) → o ≡ grow o none
grow_none none = refl
grow_none (some v) = refl

cond_same : {A : Type 0} (s : Bool) (x : A) → cond s x x ≡ x
cond_same true x = refl
cond_same false x = refl

grow_grow : (o n m : Option (Option ℕ)) → grow (grow o n) m ≡ grow o (grow n m)
grow_grow none n m = refl
grow_grow (some v) n m = refl

-- the pair of p and q that the queue qs makes, the statuses being B
abbrev pub news : Tests → List ℕ → (ℕ → Bits) → List ℕ → ℕ → ℕ → Option (Option ℕ)
news t C B qs p q = cond (apart B p q && (has p qs || has q qs)) (some (new_block t C qs p q)) none

module _ (t : Tests) (C : List ℕ) (ps : Points) (real : Real ps) (inside : Within ps ps) where
  abbrev B : ℕ → Bits
  B = bits_in ps

  -- the new pair of k, which is queued, and q
  abbrev fresh : ℕ → ℕ → Option (Option ℕ)
  fresh k q = cond (apart B k q) (some (t.sweep C k q).cell) none

  listed : (k q : ℕ) → fresh k q ≡ cond (has q (keys ps)) (fresh k q) none
  listed k q =
      only (has q (keys ps)) (fresh k q) (λ u. rw (keys_has q ps, real q) (apart_joined B k q (subst T (some_cond (apart B k q) (t.sweep C k q).cell) u)).other)

  -- what the queued point k makes of the pairs E
  record Made (k : ℕ) (E E' : Edges) : Type 0 where
    twins : Twins E'
    at : (q : ℕ) → edge k q E' ≡ grow (edge k q E) (fresh k q)
    off : (p q : ℕ) → p ≢ k → q ≢ k → edge p q E' ≡ edge p q E

  -- ---- one queued point against another point
  module _ (k : ℕ) (P : Point) (e : get k ps ≡ some P) where
    abbrev step : ℕ × Point → Edges → Edges
    step o E = cond (wanted t C k P.bits o.0 o.1.bits E) (link k o.0 (t.sweep C k o.0).cell E) E

    there : (j : ℕ) (Q : Point) → get j ps ≡ some Q → any_bit Q.bits ≡ true
    there j Q f = ap any_bit (sym (bits_get j ps (some Q) f)) ∙ sym (real j) ∙ ap is_some f

    wanted_is : (o : ℕ × Point) (E : Edges) → get o.0 ps ≡ some o.1 → wanted t C k P.bits o.0 o.1.bits E ≡ not (is_some (edge k o.0 E)) && apart B k o.0
    unfolding wanted joins
    wanted_is o E f =
        rw (bits_get k ps (some P) e, bits_get o.0 ps (some o.1) f, there k P e, there o.0 o.1 f)
        (go (not (eqb k o.0)) (not (is_some (edge k o.0 E))) (sees k o.0 o.1.bits) (sees o.0 k P.bits))
      where
        go : (n i x y : Bool) → n && i && x && y ≡ i && (n && (x && y))
        go true true x y = refl
        go true false x y = refl
        go false true x y = refl
        go false false x y = refl

    step_at : (o : ℕ × Point) (E : Edges) → get o.0 ps ≡ some o.1 → Twins E → (p q : ℕ) → edge p q (step o E) ≡ grow (edge p q E) (cond (hits p q k o.0) (fresh k o.0) none)
    step_at o E f tw p q =
        rw (wanted_is o E f)
        (cond_ap (edge p q) (not (is_some (edge k o.0 E)) && apart B k o.0) (link k o.0 v E) E
        ∙ rw (link_at p q k o.0 v E) (go (hits p q k o.0) (apart B k o.0) (edge k o.0 E) (edge p q E) (hits_edge p q k o.0 E tw)))
      where
        v : Option ℕ
        v = (t.sweep C k o.0).cell

        go : (h a : Bool) (x z : Option (Option ℕ)) → (T h → z ≡ x) → cond (not (is_some x) && a) (cond h (some v) z) z ≡ grow z (cond h (cond a (some v) none) none)
        go true a none z g = rw (g tt) refl
        go true a (some y) z g = rw (g tt) refl
        go false a x z g = cond_same (not (is_some x) && a) z ∙ grow_none z

    step_twins : (o : ℕ × Point) (E : Edges) → get o.0 ps ≡ some o.1 → Twins E → Twins (step o E)
    step_twins o E f tw p q = step_at o E f tw p q ∙ rw (hits_turn p q k o.0, tw p q) (sym (step_at o E f tw q p))

    -- ---- against all points
    connect_twins : (os : Points) (E : Edges) → Within ps os → Twins E → Twins (connect t C k P.bits os E)
    unfolding connect
    connect_twins [] E f tw = tw
    connect_twins (o ∷ os) E f tw = connect_twins os (step o E) f.1 (step_twins o E f.0 tw)

    connect_off : (os : Points) (E : Edges) → Within ps os → Twins E → (p q : ℕ) → p ≢ k → q ≢ k → edge p q (connect t C k P.bits os E) ≡ edge p q E
    unfolding connect
    connect_off [] E f tw p q x y = refl
    connect_off (o ∷ os) E f tw p q x y =
        connect_off os (step o E) f.1 (step_twins o E f.0 tw) p q x y ∙ step_at o E f.0 tw p q
        ∙ rw (eqb_no p k x, eqb_no q k y, and-false (eqb p o.0)) (sym (grow_none (edge p q E)))

    connect_at_lem : (os : Points) (E : Edges) → Within ps os → Twins E → (q : ℕ) → edge k q (connect t C k P.bits os E) ≡ grow (edge k q E) (cond (has q (keys os)) (fresh k q) none)
    unfolding connect keys has
    connect_at_lem [] E f tw q = grow_none (edge k q E)
    connect_at_lem (o ∷ os) E f tw q =
        connect_at_lem os (step o E) f.1 (step_twins o E f.0 tw) q ∙ ap (λ (z : Option (Option ℕ)). grow z rest) (step_at o E f.0 tw k q)
        ∙ grow_grow (edge k q E) (cond (hits k q k o.0) (fresh k o.0) none) rest ∙ ap (grow (edge k q E)) (go (ℕ_discrete q o.0))
      where
        rest : Option (Option ℕ)
        rest = cond (has q (keys os)) (fresh k q) none

        again : (h : Bool) (n : Option (Option ℕ)) → grow n (cond h n none) ≡ n
        again true none = refl
        again false none = refl
        again h (some v) = refl

        other : T (hits k q k o.0) → q ≡ o.0
        other u = ⊎_elim (λ x. x.1) (λ x. x.1 ∙ x.0) (hits_either k q k o.0 u)

        go : Dec (q ≡ o.0) → grow (cond (hits k q k o.0) (fresh k o.0) none) rest ≡ cond (eqb q o.0 || has q (keys os)) (fresh k q) none
        go (yes x) = rw (← x, T→true (hits k q k q) (hits_fore k q), eqb_yes q) (again (has q (keys os)) (fresh k q))
        go (no x) = rw (notT→false (hits k q k o.0) (λ u. x (other u)), eqb_no q o.0 x) refl

  made : (k : ℕ) (o : Option Point) → get k ps ≡ o → (E : Edges) → Twins E → Made k E (connect_at t C o k ps E)
  made k none e E tw = record { twins = tw; at = λ q. rw (nobody q) (grow_none (edge k q E)); off = λ p q x y. refl }
    where
      nobody : (q : ℕ) → apart B k q ≡ false
      nobody q = notT→false (apart B k q) (λ u. let x : T (any_bit (B k)) = (apart_joined B k q u).one in let y : T false = rw (← real k, e) at x in y)
  made k (some P) e E tw =
      record { twins = connect_twins k P e ps E inside tw; at = λ q. rw (listed k q) (connect_at_lem k P e ps E inside tw q); off = connect_off k P e ps E inside tw }

  -- ---- the queue
  pub phase3_twins : (qs : List ℕ) (E : Edges) → Twins E → Twins (phase3 t C qs ps E)
  unfolding phase3
  phase3_twins [] E tw = tw
  phase3_twins (k ∷ qs) E tw = phase3_twins qs (connect_at t C (get k ps) k ps E) (made k (get k ps) refl E tw).twins

  -- A pair that is there stays as it is; one that is not is made if its ends join and one of them is queued.
  pub phase3_get : (qs : List ℕ) (E : Edges) → Twins E → (p q : ℕ) → edge p q (phase3 t C qs ps E) ≡ grow (edge p q E) (news t C B qs p q)
  unfolding phase3 has new_block ahead
  phase3_get [] E tw p q = rw (and-false (apart B p q)) (grow_none (edge p q E))
  phase3_get (k ∷ qs) E tw p q = phase3_get qs next M.twins p q ∙ go (ℕ_discrete p k) (ℕ_discrete q k)
    where
      next : Edges
      next = connect_at t C (get k ps) k ps E

      M : Made k E next
      M = made k (get k ps) refl E tw

      -- what k has made stays
      first : (n : Option ℕ) (a h : Bool) → grow (cond a (some n) none) (cond (a && h) (some (new_block t C qs p q)) none) ≡ cond a (some n) none
      first n true h = refl
      first n false h = refl

      new : Option ℕ → Option (Option ℕ)
      new n = cond (apart B p q) (some n) none

      here : (n : Option ℕ) → edge p q next ≡ grow (edge p q E) (new n) → grow (edge p q next) (news t C B qs p q) ≡ grow (edge p q E) (new n)
      here n x = rw x (grow_grow (edge p q E) (new n) (news t C B qs p q) ∙ ap (grow (edge p q E)) (first n (apart B p q) (has p qs || has q qs)))

      go : Dec (p ≡ k) → Dec (q ≡ k) → grow (edge p q next) (news t C B qs p q)
          ≡ grow (edge p q E) (cond (apart B p q && ((eqb p k || has p qs) || (eqb q k || has q qs)))
          (some (cond (cond (eqb k p) true (cond (eqb k q) false (ahead p q qs))) (t.sweep C p q).cell (t.sweep C q p).cell)) none)
      go (yes x) d = rw (eqb_is p k x, eqb_is k p (sym x), and-true (apart B p q)) (here (t.sweep C p q).cell (rw x (M.at q)))
      go (no x) (yes y) =
          rw (eqb_is q k y, eqb_is k q (sym y), eqb_no k p (λ z. x (sym z)), or-true (eqb p k || has p qs), and-true (apart B p q))
          (here (t.sweep C q p).cell (M.twins p q ∙ rw (apart_turn B p q, tw p q, y) (M.at p)))
      go (no x) (no y) = rw (eqb_no p k x, eqb_no q k y, eqb_no k p (λ z. x (sym z)), eqb_no k q (λ z. y (sym z)), M.off p q x y) refl
