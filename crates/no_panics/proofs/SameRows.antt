-- A row that is asked for changes no row: the Rust's table has in every row what the model has there, after every step of an update. Assumes nothing.
use Prim.Native.Nat.{ℕ}
use native.Mathlib.Decide.{ℕ_discrete}
use mathlib.Core.Path.{◌≡◌, refl, sym, ap, ◌∙◌}
use mathlib.Core.Logic.{◌≢◌}
use mathlib.Core.Bool.{Bool, true, false, cond}
use mathlib.Core.List.{List, [], ◌∷◌, ◌++◌}
use mathlib.Core.Option.{Option, none, some}
use Rattle.model.specs.Maps.{get, put, del, keys}
use Rattle.model.specs.Cell.{Dir}
use Rattle.model.specs.Corner.{Bits, set_bit, any_bit, sees}
use Rattle.model.specs.Batch.{Batch}
use Rattle.model.specs.Layer.{Tests, Point, Points, Edges, Work, Mark, line, edge, tie, untie, link, hide, erase, raise, lower, mark, mark_all, wanted, connect, connect_at, phase3, edge_run, settle_at, settle_row, settle_all, phase4}
use Rattle.model.proofs.MapLaws.{get_put_same, get_put_other, get_del_same, get_del_other}
use Rattle.no_panics.specs.EdgeRows.{row, raised_rows, lowered_rows, mark_rows, marks_rows, queued_rows, phase3_rows, settle_row_rows, settle_all_rows, phase4_rows}

-- e has in every row what f has there
abbrev pub Same : Edges → Edges → Type 0
Same e f = (k : ℕ) → line k e ≡ line k f

line_put_same : (p : ℕ) (r : List (ℕ × Option ℕ)) (e : Edges) → line p (put p r e) ≡ r
unfolding line
line_put_same p r e = rw (get_put_same p r e, line) refl

line_put_other : (a p : ℕ) (r : List (ℕ × Option ℕ)) (e : Edges) → a ≢ p → line a (put p r e) ≡ line a e
unfolding line
line_put_other a p r e h = rw (get_put_other a p r e h, line) refl

line_del_same : (p : ℕ) (e : Edges) → line p (del p e) ≡ []
unfolding line
line_del_same p e = rw (get_del_same p e, line) refl

line_del_other : (a p : ℕ) (e : Edges) → a ≢ p → line a (del p e) ≡ line a e
unfolding line
line_del_other a p e h = rw (get_del_other a p e h, line) refl

same_put : (p : ℕ) (r s : List (ℕ × Option ℕ)) (e f : Edges) → r ≡ s → Same e f → Same (put p r e) (put p s f)
same_put p r s e f h k a = go (ℕ_discrete a p)
  where
    go : Dec (a ≡ p) → line a (put p r e) ≡ line a (put p s f)
    go (yes x) = rw x (line_put_same p r e ∙ h ∙ sym (line_put_same p s f))
    go (no x) = line_put_other a p r e x ∙ k a ∙ sym (line_put_other a p s f x)

same_del : (p : ℕ) (e f : Edges) → Same e f → Same (del p e) (del p f)
same_del p e f k a = go (ℕ_discrete a p)
  where
    go : Dec (a ≡ p) → line a (del p e) ≡ line a (del p f)
    go (yes x) = rw x (line_del_same p e ∙ sym (line_del_same p f))
    go (no x) = line_del_other a p e x ∙ k a ∙ sym (line_del_other a p f x)

pub same_row : (k : ℕ) (e f : Edges) → Same e f → Same (row k e) f
unfolding row
same_row k e f s a = go (ℕ_discrete a k)
  where
    go : Dec (a ≡ k) → line a (put k (line k e) e) ≡ line a f
    go (yes x) = rw x (line_put_same k (line k e) e ∙ s k)
    go (no x) = line_put_other a k (line k e) e x ∙ s a

same_tie : (p q : ℕ) (v : Option ℕ) (e f : Edges) → Same e f → Same (tie p q v e) (tie p q v f)
unfolding tie
same_tie p q v e f s = same_put p (put q v (line p e)) (put q v (line p f)) e f (ap (put q v) (s p)) s

same_untie : (p q : ℕ) (e f : Edges) → Same e f → Same (untie p q e) (untie p q f)
unfolding untie
same_untie p q e f s = same_put p (del q (line p e)) (del q (line p f)) e f (ap (del q) (s p)) s

same_link : (p q : ℕ) (v : Option ℕ) (e f : Edges) → Same e f → Same (link p q v e) (link p q v f)
unfolding link
same_link p q v e f s = same_tie q p v (tie p q v e) (tie p q v f) (same_tie p q v e f s)

same_cond : (b : Bool) (e e' f f' : Edges) → Same e f → Same e' f' → Same (cond b e e') (cond b f f')
same_cond true e e' f f' s s' = s
same_cond false e e' f f' s s' = s'

same_hide : (k : ℕ) (b : Bits) (os : List ℕ) (e f : Edges) → Same e f → Same (hide k b os e) (hide k b os f)
unfolding hide
same_hide k b [] e f s = s
same_hide k b (o ∷ os) e f s =
    same_hide k b os (cond (sees o k b) e (untie o k (untie k o e))) (cond (sees o k b) f (untie o k (untie k o f)))
    (same_cond (sees o k b) e (untie o k (untie k o e)) f (untie o k (untie k o f)) s (same_untie o k (untie k o e) (untie k o f) (same_untie k o e f s)))

same_erase : (k : ℕ) (os : List ℕ) (e f : Edges) → Same e f → Same (erase k os e) (erase k os f)
unfolding erase
same_erase k [] e f s = s
same_erase k (o ∷ os) e f s = same_erase k os (untie o k e) (untie o k f) (same_untie o k e f s)

pub same_edge : (p q : ℕ) (e f : Edges) → Same e f → edge p q e ≡ edge p q f
unfolding edge
same_edge p q e f s = ap (get q) (s p)

-- ---- phase 1
module _ (t : Tests) (C : List ℕ) where
  pub same_mark : (d : Dir) (k : ℕ) (b : Bool) (w : Work) (e : Edges) → Same e w.edges → Same (mark_rows d k b (get k w.points) e) (mark t C d k b w).edges
  unfolding mark raise lower
  same_mark d k true w e s = go (get k w.points)
    where
      go : (o : Option Point) → Same (raised_rows d k o e) (raise t C d k o w).edges
      go none = s
      go (some p) = rw (s k) (same_hide k (set_bit d true p.bits) (keys (line k w.edges)) (row k e) w.edges (same_row k e w.edges s))
  same_mark d k false w e s = go (get k w.points)
    where
      go : (o : Option Point) → Same (lowered_rows d k o e) (lower t C d k o w).edges
      go none = s
      go (some p) = pick (any_bit (set_bit d false p.bits))
        where
          b : Bits
          b = set_bit d false p.bits

          kept : Work
          kept = record { points = put k (record { bits = b; block = p.block }) w.points; edges = w.edges; queue = w.queue ++ (k ∷ []) }

          gone : Work
          gone = record { points = del k w.points; edges = erase k (keys (line k w.edges)) (del k w.edges); queue = w.queue }

          pick : (b : Bool) → Same (cond b e (erase k (keys (line k e)) (del k e))) (cond b kept gone).edges
          pick true = s
          pick false = rw (s k) (same_erase k (keys (line k w.edges)) (del k e) (del k w.edges) (same_del k e w.edges s))

  pub same_marks : (ms : List Mark) (w : Work) (e : Edges) → Same e w.edges → Same (marks_rows t C ms w e) (mark_all t C ms w).edges
  unfolding marks_rows mark_all
  same_marks [] w e s = s
  same_marks (m ∷ ms) w e s = same_marks ms (mark t C m.dir m.at m.on w) (mark_rows m.dir m.at m.on (get m.at w.points) e) (same_mark m.dir m.at m.on w e s)

  -- ---- phase 3
  same_wanted : (k : ℕ) (b : Bits) (o : ℕ) (c : Bits) (e f : Edges) → Same e f → wanted t C k b o c e ≡ wanted t C k b o c f
  unfolding wanted
  same_wanted k b o c e f s = rw (same_edge k o e f s) refl

  same_connect : (k : ℕ) (b : Bits) (os : Points) (e f : Edges) → Same e f → Same (connect t C k b os e) (connect t C k b os f)
  unfolding connect
  same_connect k b [] e f s = s
  same_connect k b (o ∷ os) e f s =
      let v = (t.sweep C k o.0).cell in
      let x = wanted t C k b o.0 o.1.bits f in
      rw (same_wanted k b o.0 o.1.bits e f s)
      (same_connect k b os (cond x (link k o.0 v e) e) (cond x (link k o.0 v f) f) (same_cond x (link k o.0 v e) e (link k o.0 v f) f (same_link k o.0 v e f s) s))

  pub same_phase3 : (qs : List ℕ) (ps : Points) (e f : Edges) → Same e f → Same (phase3_rows t C qs ps e) (phase3 t C qs ps f)
  unfolding phase3_rows phase3
  same_phase3 [] ps e f s = s
  same_phase3 (k ∷ qs) ps e f s = same_phase3 qs ps (queued_rows t C (get k ps) k ps e) (connect_at t C (get k ps) k ps f) (go (get k ps))
    where
      go : (o : Option Point) → Same (queued_rows t C o k ps e) (connect_at t C o k ps f)
      go none = s
      go (some p) = same_connect k p.bits ps (row k e) f (same_row k e f s)

  -- ---- phase 4
  same_settle : (i j : ℕ) (ch : Batch) (o : Option (Option ℕ)) (e f : Edges) → Same e f → Same (settle_at t C i j ch o e) (settle_at t C i j ch o f)
  same_settle i j ch none e f s = s
  same_settle i j ch (some b) e f s = same_link i j (edge_run t C i j ch b) e f s

  same_settle_row : (i : ℕ) (ch : Batch) (js : Points) (e f : Edges) → Same e f → Same (settle_row_rows t C i ch js e) (settle_row t C i ch js f)
  unfolding settle_row_rows settle_row
  same_settle_row i ch [] e f s = s
  same_settle_row i ch (j ∷ js) e f s =
      rw (same_edge i j.0 e f s) (same_settle_row i ch js (settle_at t C i j.0 ch (edge i j.0 f) (row i e)) (settle_at t C i j.0 ch (edge i j.0 f) f) (same_settle i j.0 ch (edge i j.0 f) (row i e) f (same_row i e f s)))

  same_settle_all : (ch : Batch) (is : Points) (e f : Edges) → Same e f → Same (settle_all_rows t C ch is e) (settle_all t C ch is f)
  unfolding settle_all_rows settle_all
  same_settle_all ch [] e f s = s
  same_settle_all ch (i ∷ is) e f s = same_settle_all ch is (settle_row_rows t C i.0 ch is e) (settle_row t C i.0 ch is f) (same_settle_row i.0 ch is e f s)

  pub same_phase4 : (ch : Batch) (ps : Points) (e f : Edges) → Same e f → Same (phase4_rows t C ch ps e) (phase4 t C ch ps f)
  unfolding phase4_rows phase4
  same_phase4 [] ps e f s = s
  same_phase4 (c ∷ ch) ps e f s = same_settle_all (c ∷ ch) ps e f s
