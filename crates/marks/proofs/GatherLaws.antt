-- The candidates, put into a table one after another. Assumes nothing.
use Rattle.std.proofs.Common.{◌≡◌, ℕ, ◌+◌, ◌<◌, ◌≤◌, Bool, true, false, cond, List, [], ◌∷◌, length, get_or, take, sym, refl, ap, ◌∙◌, arith, length-take-le, take_all}
use Rattle.corner.specs.Changes.{numbered}
use Rattle.model.specs.Cell.{move}
use Rattle.model.specs.ClosedForm.{stand}
use Rattle.model.specs.Corner.{Bits, bit, number}
use Rattle.model.specs.Layer.{Mark, marks, marks_of}
use Rattle.model.specs.Maps.{add, keys}
use Rattle.table.specs.Listed.{values}
use Rattle.table.specs.Tables.{All, Changed, Table, added}
use Rattle.table.proofs.AllLaws.{all_at}
use Rattle.table.proofs.ListedLaws.{keys_length, values_length}
use Rattle.table.proofs.TableLaws.{added_room, changed_keys, insert_room, insert_table}
use Rattle.marks.specs.Marked.{Bordered, Gathers, candidate_room, max_candidates}
use Rattle.model.proofs.StandLaws.{stand_append}
use Rattle.marks.proofs.StandLaws.{add_few, cell_at, dir_at, keys_at, mark_at, marks_more, marks_next, numbered_length, numbers_at, stand_one, stand_part}

-- ---- the four marks of a cell: d of them are looked at
abbrev Fours : ℕ → ℕ → Bits → ℕ → List ℕ → List ℕ → ℕ → ℕ → Type 0
Fours s k b d t t' n r = Table t' r × (take r t' ≡ stand (take d (marks_of s k b)) (take n t)) × (r ≤ n + d)

pub record Put (t t' : List ℕ) (n r d k status s : ℕ) : Type 0 where
  pub few : d ≤ 4
  pub long : length t' ≡ length t
  pub is : (b : Bits) → status ≡ number b → Bordered k → Table t n → n + 4 ≤ length t → Fours s k b d t t' n r

pub put_none : (t : List ℕ) (n k status s : ℕ) → Put t t n n 0 k status s
unfolding stand
put_none t n k status s = record { few = omega arith; long = refl; is = λ b e g T h. (T, refl, omega arith) }

module _ (t t' : List ℕ) (n r d k status s : ℕ) (more : d < 4) (p : Put t t' n r d k status s) (on : Bool) (seen : (b : Bits) → status ≡ number b → on ≡ bit (dir_at d) b) where
  next : (b : Bits) → status ≡ number b → (K : List ℕ) → stand (take (d + 1) (marks_of s k b)) K ≡ cond on (add (move s (dir_at d) k) (stand (take d (marks_of s k b)) K)) (stand (take d (marks_of s k b)) K)
  next b e K =
      let ms = take d (marks_of s k b) in
      rw (marks_next s k b d more, stand_append ms (mark_at s k b d ∷ []) K, stand_one (mark_at s k b d) (stand ms K), seen b e) refl

  pub put_pass : on ≡ false → Put t t' n r (d + 1) k status s
  put_pass o = record {
    few = omega arith;
    long = p.long;
    is = λ b e g T h. let w = p.is b e g T h in (w.0, w.1 ∙ sym (next b e (take n t) ∙ rw o refl), omega (arith, w.2));
  }

  pub put_more : on ≡ true → (x : ℕ) → (Bordered k → x ≡ move s (dir_at d) k) → (t'' : List ℕ) (r' : ℕ) → length t'' ≡ length t' → Changed (added (length t') x) t' r t'' r' → Put t t'' n r' (d + 1) k status s
  put_more o x at t'' r' long c = record { few = omega arith; long = long ∙ p.long; is = after }
    where
      after : (b : Bits) → status ≡ number b → Bordered k → Table t n → n + 4 ≤ length t → Fours s k b (d + 1) t t'' n r'
      after b e g T h =
          let w = p.is b e g T h in
          let room : r < length t' = omega (arith, w.2, p.long) in
          let lr : length (take r t') ≡ r = length-take-le r t' w.0.room in
          let fits : length (take r t') < length t' = omega arith in
          let candidates : take r' t'' ≡ add x (take r t') = changed_keys t' r t'' r' w.0 (added (length t') x) c ∙ added_room (length t') x (take r t') w.0.asc fits in
          let z : add x (take r t') ≡ add (move s (dir_at d) k) (stand (take d (marks_of s k b)) (take n t)) = rw (at g, w.1) refl in
          let count : r' ≡ length (add x (take r t')) = (insert_room t' r t'' r' w.0 x c room).1 in
          (insert_table t' r t'' r' w.0 x c, candidates ∙ z ∙ sym (next b e (take n t) ∙ rw o refl), omega (arith, add_few x (take r t'), w.2))

-- ---- all cells: i of them are looked at
abbrev Whole : List ℕ → List ℕ → List ℕ → List ℕ → ℕ → ℕ → ℕ → ℕ → Type 0
Whole t t' corners altered n r i s =
    (changed : List (ℕ × Bits)) → corners ≡ keys changed → altered ≡ values (numbered changed) → All Bordered (keys changed) → Table t n → n ≤ max_candidates → candidate_room ≤ length t
    → Table t' r × (take r t' ≡ stand (marks s (take i changed)) (take n t))

pub record Gathered (t t' corners altered : List ℕ) (n r i s : ℕ) : Type 0 where
  pub few : i ≤ length corners
  pub long : length t' ≡ length t
  pub is : Whole t t' corners altered n r i s

pub gathered_none : (t corners altered : List ℕ) (n s : ℕ) → Gathered t t corners altered n n 0 s
unfolding stand marks
gathered_none t corners altered n s = record { few = omega arith; long = refl; is = λ changed e f a T h l. (T, refl) }

module _ (t t' corners altered : List ℕ) (n r i s : ℕ) (g : Gathered t t' corners altered n r i s) where
  -- the cell k has the status v then
  pub gathered_more : i < length corners → r ≤ max_candidates → (k v : ℕ) → k ≡ get_or corners i 0 → v ≡ get_or altered i 0 → (t'' : List ℕ) (r' : ℕ) → length t'' ≡ length t'
      → ((b : Bits) → v ≡ number b → Bordered k → Table t' r → r + 4 ≤ length t' → Table t'' r' × (take r' t'' ≡ stand (marks_of s k b) (take r t')) × (r' ≤ r + 4))
      → Gathered t t'' corners altered n r' (i + 1) s
  gathered_more more small k v is_key is_status t'' r' long f = record { few = omega arith; long = long ∙ g.long; is = after }
    where
      after : Whole t t'' corners altered n r' (i + 1) s
      after changed e u a T h l =
          let w = g.is changed e u a T h l in
          let lc : length corners ≡ length changed = ap length e ∙ keys_length changed in
          let c = cell_at changed i in
          let key : k ≡ c.0 = is_key ∙ ap (λ (m : List ℕ). get_or m i 0) e ∙ keys_at changed i in
          let num : v ≡ number c.1 = is_status ∙ ap (λ (m : List ℕ). get_or m i 0) u ∙ numbers_at changed i in
          let inside : Bordered k = rw is_key (all_at Bordered corners i (rw e a) more) in
          let q = f c.1 num inside w.0 (omega (arith, g.long)) in
          let ms = marks s (take i changed) in (
            q.0,
            q.1
                ∙ ap (λ (m : List ℕ). stand (marks_of s k c.1) m) w.1
                ∙ ap (λ (j : ℕ). stand (marks_of s j c.1) (stand ms (take n t))) key
                ∙ sym (ap (λ (m : List Mark). stand m (take n t)) (marks_more s i changed (omega arith)) ∙ stand_append ms (marks_of s c.0 c.1) (take n t)),
          )

  -- all are looked at, or there are too many
  pub gathered_done : (length altered ≡ length corners → r ≤ max_candidates → length corners ≤ i) → Gathers s corners altered t n t' r
  gathered_done out changed e v a T h l =
      let w = g.is changed e v a T h l in
      let lc : length corners ≡ length changed = ap length e ∙ keys_length changed in
      let la : length altered ≡ length changed = ap length v ∙ values_length (numbered changed) ∙ numbered_length changed in (
        λ small. let o = out (la ∙ sym lc) small in (w.0, w.1 ∙ ap (λ (m : List (ℕ × Bits)). stand (marks s m) (take n t)) (take_all i changed (omega arith))),
        λ big.
            let lr : length (take r t') ≡ r = length-take-le r t' w.0.room in
            let ls : length (take r t') ≡ length (stand (marks s (take i changed)) (take n t)) = ap length w.1 in
            omega (arith, stand_part s i changed (take n t)),
      )
