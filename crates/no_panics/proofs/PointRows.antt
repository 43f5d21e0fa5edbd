-- The rows of the Rust's edge table are made for points only, stay while the point stands, and every point that comes is queued and then has one. Assumes nothing.
use Prim.Native.Nat.{ℕ}
use native.Mathlib.Decide.{ℕ_discrete}
use mathlib.Core.Path.{◌≡◌, refl, sym, subst}
use mathlib.Core.Logic.{◌≢◌, ◌⊎◌, inl, inr, ⊎_elim}
use mathlib.Core.Bool.{Bool, true, false, cond}
use mathlib.Core.List.{List, [], ◌∷◌, ◌++◌}
use mathlib.Core.Option.{Option, none, some}
use lib.Dec.{T}
use Rattle.model.specs.Maps.{get, put, del, keys, is_some, has}
use Rattle.model.specs.Cell.{Dir}
use Rattle.model.specs.Corner.{Bits, set_bit, any_bit, sees}
use Rattle.model.specs.Batch.{Batch}
use Rattle.model.specs.Layer.{Tests, Point, Points, Edges, Work, Mark, line, edge, tie, untie, link, hide, erase, raise, lower, mark, mark_all, wanted, connect, edge_run, settle_at}
use Rattle.model.proofs.MapLaws.{get_put_same, get_put_other, get_del_same, get_del_other, keys_has, has_first, has_later, has_cases, has_append, or_left, or_right}
use Rattle.model.proofs.Phase1Pairs.{Inv, marked}
use Rattle.no_panics.specs.EdgeRows.{row, raised_rows, lowered_rows, mark_rows, marks_rows, queued_rows, phase3_rows, settle_row_rows, settle_all_rows, phase4_rows}
use Rattle.no_panics.proofs.SameRows.{Same, same_edge, same_mark}

-- ---- entries
module _ {A : Type 0} where
  -- k has an entry
  abbrev pub In : List (ℕ × A) → ℕ → Type 0
  In m k = T (is_some (get k m))

  in_same : (k : ℕ) (v : A) (m : List (ℕ × A)) → In (put k v m) k
  in_same k v m = rw (get_put_same k v m) tt

  in_old : (j k : ℕ) (v : A) (m : List (ℕ × A)) → In m j → In (put k v m) j
  in_old j k v m u = go (ℕ_discrete j k)
    where
      go : Dec (j ≡ k) → In (put k v m) j
      go (yes e) = rw e (in_same k v m)
      go (no h) = rw (get_put_other j k v m h) u

  in_cases : (j k : ℕ) (v : A) (m : List (ℕ × A)) → In (put k v m) j → (j ≡ k) ⊎ In m j
  in_cases j k v m u = go (ℕ_discrete j k)
    where
      go : Dec (j ≡ k) → (j ≡ k) ⊎ In m j
      go (yes e) = inl e
      go (no h) = inr (rw (get_put_other j k v m h) at u)

  in_del : (j k : ℕ) (m : List (ℕ × A)) → In (del k m) j → (j ≢ k) × In m j
  in_del j k m u = go (ℕ_discrete j k)
    where
      go : Dec (j ≡ k) → (j ≢ k) × In m j
      go (yes e) = absurd (let z : T (is_some {A = A} none) = rw (e, get_del_same k m) at u in z)
      go (no h) = (h, rw (get_del_other j k m h) at u)

  in_kept : (j k : ℕ) (m : List (ℕ × A)) → j ≢ k → In m j → In (del k m) j
  in_kept j k m h u = rw (get_del_other j k m h) u

-- ---- rows stay, but for the one that is taken away
stay_untie : (p q : ℕ) (e : Edges) (j : ℕ) → In e j → In (untie p q e) j
unfolding untie
stay_untie p q e j u = in_old j p (del q (line p e)) e u

stay_tie : (p q : ℕ) (v : Option ℕ) (e : Edges) (j : ℕ) → In e j → In (tie p q v e) j
unfolding tie
stay_tie p q v e j u = in_old j p (put q v (line p e)) e u

stay_link : (p q : ℕ) (v : Option ℕ) (e : Edges) (j : ℕ) → In e j → In (link p q v e) j
unfolding link
stay_link p q v e j u = stay_tie q p v (tie p q v e) j (stay_tie p q v e j u)

stay_row : (k : ℕ) (e : Edges) (j : ℕ) → In e j → In (row k e) j
unfolding row
stay_row k e j u = in_old j k (line k e) e u

stay_cond : (b : Bool) (e f : Edges) (j : ℕ) → In e j → In f j → In (cond b e f) j
stay_cond true e f j u v = u
stay_cond false e f j u v = v

stay_hide : (k : ℕ) (b : Bits) (os : List ℕ) (e : Edges) (j : ℕ) → In e j → In (hide k b os e) j
unfolding hide
stay_hide k b [] e j u = u
stay_hide k b (o ∷ os) e j u =
    stay_hide k b os (cond (sees o k b) e (untie o k (untie k o e))) j (stay_cond (sees o k b) e (untie o k (untie k o e)) j u (stay_untie o k (untie k o e) j (stay_untie k o e j u)))

stay_erase : (k : ℕ) (os : List ℕ) (e : Edges) (j : ℕ) → In e j → In (erase k os e) j
unfolding erase
stay_erase k [] e j u = u
stay_erase k (o ∷ os) e j u = stay_erase k os (untie o k e) j (stay_untie o k e j u)

in_row : (k : ℕ) (e : Edges) → In (row k e) k
unfolding row
in_row k e = in_same k (line k e) e

-- ---- and are made only where P holds
module _ (P : ℕ → Type 0) where
  abbrev pub Only : Edges → Type 0
  Only e = (j : ℕ) → In e j → P j

  only_put : (p : ℕ) (r : List (ℕ × Option ℕ)) (e : Edges) → P p → Only e → Only (put p r e)
  only_put p r e x f j u = ⊎_elim (λ h. subst P (sym h) x) (f j) (in_cases j p r e u)

  only_untie : (p q : ℕ) (e : Edges) → P p → Only e → Only (untie p q e)
  unfolding untie
  only_untie p q e x f = only_put p (del q (line p e)) e x f

  only_tie : (p q : ℕ) (v : Option ℕ) (e : Edges) → P p → Only e → Only (tie p q v e)
  unfolding tie
  only_tie p q v e x f = only_put p (put q v (line p e)) e x f

  only_link : (p q : ℕ) (v : Option ℕ) (e : Edges) → P p → P q → Only e → Only (link p q v e)
  unfolding link
  only_link p q v e x y f = only_tie q p v (tie p q v e) y (only_tie p q v e x f)

  only_row : (k : ℕ) (e : Edges) → P k → Only e → Only (row k e)
  unfolding row
  only_row k e x f = only_put k (line k e) e x f

  only_cond : (b : Bool) (e f : Edges) → Only e → Only f → Only (cond b e f)
  only_cond true e f x y = x
  only_cond false e f x y = y

  only_hide : (k : ℕ) (b : Bits) (os : List ℕ) (e : Edges) → P k → ((o : ℕ) → T (has o os) → P o) → Only e → Only (hide k b os e)
  unfolding hide
  only_hide k b [] e x f g = g
  only_hide k b (o ∷ os) e x f g =
      only_hide k b os (cond (sees o k b) e (untie o k (untie k o e))) x (λ j u. f j (has_later j o os u))
      (only_cond (sees o k b) e (untie o k (untie k o e)) g (only_untie o k (untie k o e) (f o (has_first o os)) (only_untie k o e x g)))

  only_erase : (k : ℕ) (os : List ℕ) (e : Edges) → ((o : ℕ) → T (has o os) → P o) → Only e → Only (erase k os e)
  unfolding erase
  only_erase k [] e f g = g
  only_erase k (o ∷ os) e f g = only_erase k os (untie o k e) (λ j u. f j (has_later j o os u)) (only_untie o k e (f o (has_first o os)) g)

no_row : (p q : ℕ) (e : Edges) → get p e ≡ none → edge p q e ≡ none
unfolding edge line get
no_row p q e h = rw (h, line) refl

-- ---- phase 1: a row is a point's, and a point has one or is queued
pub record Queued (ps : Points) (q : List ℕ) (e : Edges) : Type 0 where
  pub only : (j : ℕ) → In e j → In ps j
  pub full : (j : ℕ) → In ps j → In e j ⊎ T (has j q)

later : (j k : ℕ) (q : List ℕ) → T (has j q) → T (has j (q ++ (k ∷ [])))
later j k q u = rw (has_append j q (k ∷ [])) (or_left (has j q) (has j (k ∷ [])) u)

newest : (k : ℕ) (q : List ℕ) → T (has k (q ++ (k ∷ [])))
newest k q = rw (has_append k q (k ∷ [])) (or_right (has k q) (has k (k ∷ [])) (has_first k []))

module _ (t : Tests) (C : List ℕ) (w : Work) (e : Edges) (v : Inv w) (s : Same e w.edges) (r : Queued w.points w.queue e) where
  -- the others of a row are other points
  pub other : (k o : ℕ) → T (has o (keys (line k e))) → (o ≢ k) × In w.points o
  unfolding edge
  other k o u =
      let x : T (is_some (edge k o e)) = rw (keys_has o (line k e)) at u in
      let J = v.sound k o (rw (same_edge k o e w.edges s) at x) in
      (λ h. J.differ (sym h), rw (v.real o) J.other)

  -- so has every other of a row its own row, with k in it: `get_mut(&other).expect(..)` finds one
  pub expected : (k o : ℕ) → T (has o (keys (line k e))) → In e o
  expected k o u = go (get o e) refl
    where
      back : T (is_some (edge o k e))
      back =
          let x : T (is_some (edge k o e)) = unfold edge in rw (keys_has o (line k e)) at u in
          rw (same_edge o k e w.edges s, v.twins o k) (rw (same_edge k o e w.edges s) at x)

      go : (m : Option (List (ℕ × Option ℕ))) → get o e ≡ m → In e o
      go none h = absurd (let z : T (is_some {A = Option ℕ} none) = rw (no_row o k e h) at back in z)
      go (some m) h = rw h tt

  stands : (k : ℕ) (p : Point) → get k w.points ≡ some p → In w.points k
  stands k p h = rw h tt

  raised : (d : Dir) (k : ℕ) (o : Option Point) → get k w.points ≡ o → Queued (raise t C d k o w).points (raise t C d k o w).queue (raised_rows d k o e)
  unfolding raise
  raised d k none h =
      record {
        only = λ j u. in_old j k _ w.points (r.only j u);
        full = λ j u. ⊎_elim (λ x. inr (subst (λ (z : ℕ). T (has z (w.queue ++ (k ∷ [])))) (sym x) (newest k w.queue))) (λ x. ⊎_elim inl (λ y. inr (later j k w.queue y)) (r.full j x)) (in_cases j k _ w.points u);
      }
  raised d k (some p) h =
      let b = set_bit d true p.bits in
      let now : Point = record { bits = b; block = p.block } in
      record {
        only = λ j u.
            in_old j k now w.points
            (only_hide (In w.points) k b (keys (line k e)) (row k e) (stands k p h) (λ o x. (other k o x).1) (only_row (In w.points) k e (stands k p h) r.only) j u);
        full = λ j u.
            ⊎_elim (λ x. inl (stay_hide k b (keys (line k e)) (row k e) j (stay_row k e j x))) inr
            (r.full j (⊎_elim (λ x. subst (In w.points) (sym x) (stands k p h)) (λ x. x) (in_cases j k now w.points u)));
      }

  lowered : (d : Dir) (k : ℕ) (o : Option Point) → get k w.points ≡ o → Queued (lower t C d k o w).points (lower t C d k o w).queue (lowered_rows d k o e)
  unfolding lower
  lowered d k none h = r
  lowered d k (some p) h = pick (any_bit b)
    where
      b : Bits
      b = set_bit d false p.bits

      now : Point
      now = record { bits = b; block = p.block }

      kept : Work
      kept = record { points = put k now w.points; edges = w.edges; queue = w.queue ++ (k ∷ []) }

      gone : Work
      gone = record { points = del k w.points; edges = erase k (keys (line k w.edges)) (del k w.edges); queue = w.queue }

      pick : (b : Bool) → Queued (cond b kept gone).points (cond b kept gone).queue (cond b e (erase k (keys (line k e)) (del k e)))
      pick true =
          record {
            only = λ j u. in_old j k now w.points (r.only j u);
            full = λ j u.
                ⊎_elim inl (λ x. inr (later j k w.queue x)) (r.full j (⊎_elim (λ x. subst (In w.points) (sym x) (stands k p h)) (λ x. x) (in_cases j k now w.points u)));
          }
      pick false =
          record {
            only = only_erase (In (del k w.points)) k (keys (line k e)) (del k e) (λ o x. let y = other k o x in in_kept o k w.points y.0 y.1)
                (λ j u. let y = in_del j k e u in in_kept j k w.points y.0 (r.only j y.1));
            full = λ j u.
                let y = in_del j k w.points u in
                ⊎_elim (λ x. inl (stay_erase k (keys (line k e)) (del k e) j (in_kept j k e y.0 x))) inr (r.full j y.1);
          }

  marked_rows : (d : Dir) (k : ℕ) (b : Bool) → Queued (mark t C d k b w).points (mark t C d k b w).queue (mark_rows d k b (get k w.points) e)
  unfolding mark
  marked_rows d k true = raised d k (get k w.points) refl
  marked_rows d k false = lowered d k (get k w.points) refl

module _ (t : Tests) (C : List ℕ) where
  pub marks_queued : (ms : List Mark) (w : Work) (e : Edges) → Inv w → Same e w.edges → Queued w.points w.queue e → Queued (mark_all t C ms w).points (mark_all t C ms w).queue (marks_rows t C ms w e)
  unfolding marks_rows mark_all
  marks_queued [] w e v s r = r
  marks_queued (m ∷ ms) w e v s r =
      marks_queued ms (mark t C m.dir m.at m.on w) (mark_rows m.dir m.at m.on (get m.at w.points) e) (marked t C m w v) (same_mark t C m.dir m.at m.on w e s)
      (marked_rows t C w e v s r m.dir m.at m.on)

  -- ---- phase 3
  stay_connect : (k : ℕ) (b : Bits) (os : Points) (e : Edges) (j : ℕ) → In e j → In (connect t C k b os e) j
  unfolding connect
  stay_connect k b [] e j u = u
  stay_connect k b (o ∷ os) e j u =
      let x = wanted t C k b o.0 o.1.bits e in
      let f = link k o.0 (t.sweep C k o.0).cell e in
      stay_connect k b os (cond x f e) j (stay_cond x f e j (stay_link k o.0 (t.sweep C k o.0).cell e j u) u)

  only_connect : (P : ℕ → Type 0) (k : ℕ) (b : Bits) (os : Points) (e : Edges) → P k → ((o : ℕ) → T (has o (keys os)) → P o) → Only P e → Only P (connect t C k b os e)
  unfolding connect keys
  only_connect P k b [] e x f g = g
  only_connect P k b (o ∷ os) e x f g =
      let y = wanted t C k b o.0 o.1.bits e in
      let z = link k o.0 (t.sweep C k o.0).cell e in
      only_connect P k b os (cond y z e) x (λ j u. f j (has_later j o.0 (keys os) u)) (only_cond P y z e (only_link P k o.0 (t.sweep C k o.0).cell e x (f o.0 (has_first o.0 (keys os))) g) g)

  stay_queued : (o : Option Point) (k : ℕ) (ps : Points) (e : Edges) (j : ℕ) → In e j → In (queued_rows t C o k ps e) j
  stay_queued none k ps e j u = u
  stay_queued (some p) k ps e j u = stay_connect k p.bits ps (row k e) j (stay_row k e j u)

  stay_phase3 : (qs : List ℕ) (ps : Points) (e : Edges) (j : ℕ) → In e j → In (phase3_rows t C qs ps e) j
  unfolding phase3_rows
  stay_phase3 [] ps e j u = u
  stay_phase3 (k ∷ qs) ps e j u = stay_phase3 qs ps (queued_rows t C (get k ps) k ps e) j (stay_queued (get k ps) k ps e j u)

  points_of : (ps : Points) (o : ℕ) → T (has o (keys ps)) → In ps o
  points_of ps o u = rw (keys_has o ps) at u

  pub only_phase3 : (qs : List ℕ) (ps : Points) (e : Edges) → Only (In ps) e → Only (In ps) (phase3_rows t C qs ps e)
  unfolding phase3_rows
  only_phase3 [] ps e f = f
  only_phase3 (k ∷ qs) ps e f = only_phase3 qs ps (queued_rows t C (get k ps) k ps e) (go (get k ps) refl)
    where
      go : (o : Option Point) → get k ps ≡ o → Only (In ps) (queued_rows t C o k ps e)
      go none h = f
      go (some p) h = only_connect (In ps) k p.bits ps (row k e) (rw h tt) (points_of ps) (only_row (In ps) k e (rw h tt) f)

  -- whoever was queued and still stands has a row
  pub full_phase3 : (qs : List ℕ) (ps : Points) (e : Edges) (j : ℕ) → In ps j → In e j ⊎ T (has j qs) → In (phase3_rows t C qs ps e) j
  unfolding phase3_rows has
  full_phase3 [] ps e j x (inl u) = u
  full_phase3 [] ps e j x (inr u) = absurd u
  full_phase3 (k ∷ qs) ps e j x (inl u) = stay_phase3 qs ps (queued_rows t C (get k ps) k ps e) j (stay_queued (get k ps) k ps e j u)
  full_phase3 (k ∷ qs) ps e j x (inr u) = go (has_cases j k qs u) (λ y. full_phase3 qs ps (queued_rows t C (get k ps) k ps e) j x y)
    where
      made : (o : Option Point) → get k ps ≡ o → In ps k → In (queued_rows t C o k ps e) k
      made none h y = absurd (let z : T (is_some {A = Point} none) = rw h at y in z)
      made (some p) h y = stay_connect k p.bits ps (row k e) k (in_row k e)

      go : (j ≡ k) ⊎ T (has j qs) → (In (queued_rows t C (get k ps) k ps e) j ⊎ T (has j qs) → In (phase3_rows t C qs ps (queued_rows t C (get k ps) k ps e)) j) → In (phase3_rows t C qs ps (queued_rows t C (get k ps) k ps e)) j
      go (inl h) f = f (inl (subst (In (queued_rows t C (get k ps) k ps e)) (sym h) (made (get k ps) refl (subst (In ps) h x))))
      go (inr y) f = f (inr y)

  -- ---- phase 4
  stay_settle : (i j : ℕ) (ch : Batch) (o : Option (Option ℕ)) (e : Edges) (k : ℕ) → In e k → In (settle_at t C i j ch o e) k
  stay_settle i j ch none e k u = u
  stay_settle i j ch (some b) e k u = stay_link i j (edge_run t C i j ch b) e k u

  stay_settle_row : (i : ℕ) (ch : Batch) (js : Points) (e : Edges) (k : ℕ) → In e k → In (settle_row_rows t C i ch js e) k
  unfolding settle_row_rows
  stay_settle_row i ch [] e k u = u
  stay_settle_row i ch (j ∷ js) e k u =
      stay_settle_row i ch js (settle_at t C i j.0 ch (edge i j.0 e) (row i e)) k (stay_settle i j.0 ch (edge i j.0 e) (row i e) k (stay_row i e k u))

  stay_settle_all : (ch : Batch) (is : Points) (e : Edges) (k : ℕ) → In e k → In (settle_all_rows t C ch is e) k
  unfolding settle_all_rows
  stay_settle_all ch [] e k u = u
  stay_settle_all ch (i ∷ is) e k u = stay_settle_all ch is (settle_row_rows t C i.0 ch is e) k (stay_settle_row i.0 ch is e k u)

  pub stay_phase4 : (ch : Batch) (ps : Points) (e : Edges) (k : ℕ) → In e k → In (phase4_rows t C ch ps e) k
  unfolding phase4_rows
  stay_phase4 [] ps e k u = u
  stay_phase4 (c ∷ ch) ps e k u = stay_settle_all (c ∷ ch) ps e k u

  only_settle : (P : ℕ → Type 0) (i j : ℕ) (ch : Batch) (o : Option (Option ℕ)) (e : Edges) → P i → P j → Only P e → Only P (settle_at t C i j ch o e)
  only_settle P i j ch none e x y f = f
  only_settle P i j ch (some b) e x y f = only_link P i j (edge_run t C i j ch b) e x y f

  only_settle_row : (P : ℕ → Type 0) (i : ℕ) (ch : Batch) (js : Points) (e : Edges) → P i → ((o : ℕ) → T (has o (keys js)) → P o) → Only P e → Only P (settle_row_rows t C i ch js e)
  unfolding settle_row_rows keys
  only_settle_row P i ch [] e x g f = f
  only_settle_row P i ch (j ∷ js) e x g f =
      only_settle_row P i ch js (settle_at t C i j.0 ch (edge i j.0 e) (row i e)) x (λ o u. g o (has_later o j.0 (keys js) u))
      (only_settle P i j.0 ch (edge i j.0 e) (row i e) x (g j.0 (has_first j.0 (keys js))) (only_row P i e x f))

  only_settle_all : (P : ℕ → Type 0) (ch : Batch) (is : Points) (e : Edges) → ((o : ℕ) → T (has o (keys is)) → P o) → Only P e → Only P (settle_all_rows t C ch is e)
  unfolding settle_all_rows keys
  only_settle_all P ch [] e g f = f
  only_settle_all P ch (i ∷ is) e g f =
      let h : (o : ℕ) → T (has o (keys is)) → P o = λ o u. g o (has_later o i.0 (keys is) u) in
      only_settle_all P ch is (settle_row_rows t C i.0 ch is e) h (only_settle_row P i.0 ch is e (g i.0 (has_first i.0 (keys is))) h f)

  pub only_phase4 : (ch : Batch) (ps : Points) (e : Edges) → Only (In ps) e → Only (In ps) (phase4_rows t C ch ps e)
  unfolding phase4_rows
  only_phase4 [] ps e f = f
  only_phase4 (c ∷ ch) ps e f = only_settle_all (In ps) (c ∷ ch) ps e (points_of ps) f
