-- Tables of keys before and after a change. Assumes nothing.
use Prim.Native.Nat.{ℕ, suc, ◌+◌, ◌-◌, ◌≤◌, ◌<◌, zero-le}
use native.Mathlib.Nat.{le_of_eq}
use native.Mathlib.Omega.{arith}
use mathlib.Core.Path.{◌≡◌, refl, sym, ap, ◌∙◌}
use mathlib.Core.Logic.{⊎_elim}
use mathlib.Core.Bool.{Bool, true, false, cond}
use mathlib.Core.List.{List, [], ◌∷◌, ◌++◌, append_assoc}
use lib.Dec.{leb}
use lib.ListN.{length, take, drop, replicate, length-append, length-replicate, take-append-drop}
use lib.Seq.{length-take-le, take-append_seam, drop-append_seam, take-take, drop-drop, drop-cons}
use borrow.Author.Tests.{le-leb, lt-leb, leb-true}
use borrow.Rule.Slice.PartMut.{put_mid, Post-is}
use Rattle.table.proofs.Parts.{part_is}
use Rattle.model.specs.Maps.{AscL, add, cut}
use Rattle.model.proofs.OrderLaws.{asc_l_add, asc_l_cut}
use Rattle.table.specs.Tables.{Changed, Table, added, pad, put_at, rank, shift_down, stands}
use Rattle.table.proofs.LookLaws.{Absent, There, look, there, absent, there_length, absent_length, stands_inside}
use Rattle.table.proofs.RankLaws.{rank_le}

-- ---- a table is its keys, padded
pub pad_length : (cap : ℕ) (l : List ℕ) → length l ≤ cap → length (pad cap l) ≡ cap
pad_length cap l h = simp (length-append, length-replicate) (omega arith)

pub pad_take : (cap : ℕ) (l : List ℕ) → take (length l) (pad cap l) ≡ l
pad_take cap l = take-append_seam l (replicate (cap - length l) 0)

pub pad_table : (cap : ℕ) (l : List ℕ) → length l ≤ cap → AscL 0 l → Table (pad cap l) (length l)
pad_table cap l h a = record {
  room = rw (pad_length cap l h) h;
  asc = rw (pad_take cap l) a;
  rest = rw (pad_length cap l h) (drop-append_seam l (replicate (cap - length l) 0));
}

pub table_pad : (t : List ℕ) (n : ℕ) → Table t n → t ≡ pad (length t) (take n t)
table_pad t n T =
    let e : n ≡ length (take n t) = sym (length-take-le n t T.room) in
    sym (take-append-drop n t) ∙ ap (λ (r : List ℕ). take n t ++ r) (T.rest ∙ ap (λ (j : ℕ). replicate (length t - j) 0) e)

-- ---- a key put in, if there is room
same_cond : {A : Type 0} (b : Bool) (x : A) → cond b x x ≡ x
same_cond true x = refl
same_cond false x = refl

pub added_there : (cap k : ℕ) (l : List ℕ) → There k l → added cap k l ≡ l
unfolding added
added_there cap k l w = rw w.put (same_cond (leb (length l) cap) l)

pub added_full : (cap k : ℕ) (l : List ℕ) → AscL 0 l → length l ≡ cap → added cap k l ≡ l
unfolding added
added_full cap k l a e = ⊎_elim (added_there cap k l) full (look 0 k l a)
  where
    full : Absent k l → added cap k l ≡ l
    full w = rw (lt-leb (length (add k l)) cap (omega (arith, absent_length k l w)))

pub added_room : (cap k : ℕ) (l : List ℕ) → AscL 0 l → length l < cap → added cap k l ≡ add k l
unfolding added
added_room cap k l a h = ⊎_elim (λ w. added_there cap k l w ∙ sym w.put) room (look 0 k l a)
  where
    room : Absent k l → added cap k l ≡ add k l
    room w = rw (le-leb (length (add k l)) cap (omega (arith, absent_length k l w)))

added_ascends : (cap k : ℕ) (l : List ℕ) → AscL 0 l → AscL 0 (added cap k l)
unfolding added
added_ascends cap k l a = go (leb (length (add k l)) cap)
  where
    go : (b : Bool) → AscL 0 (cond b (add k l) l)
    go true = asc_l_add 0 k l zero-le a
    go false = a

added_fits : (cap k : ℕ) (l : List ℕ) → length l ≤ cap → length (added cap k l) ≤ cap
unfolding added
added_fits cap k l h = go (leb (length (add k l)) cap) (leb-true (length (add k l)) cap)
  where
    go : (b : Bool) → (b ≡ true → length (add k l) ≤ cap) → length (cond b (add k l) l) ≤ cap
    go true f = f refl
    go false f = h

cut_fits : (k : ℕ) (l : List ℕ) → AscL 0 l → length (cut k l) ≤ length l
cut_fits k l a = ⊎_elim (λ w. omega (arith, there_length k l w)) (λ w. le_of_eq (ap length w.took)) (look 0 k l a)

-- ---- nothing is altered
pub changed_none : (f : List ℕ → List ℕ) (t : List ℕ) (n : ℕ) → (Table t n → f (take n t) ≡ take n t) → Changed f t n t n
changed_none f t n same = record {
  table = λ T. table_pad t n T ∙ ap (pad (length t)) (sym (same T));
  count = λ T. sym (length-take-le n t T.room) ∙ ap length (sym (same T));
  beyond = λ h. (refl, refl);
}

changed_to : (f : List ℕ → List ℕ) (t : List ℕ) (n : ℕ) (t' : List ℕ) (r : ℕ) → n ≤ length t
    → (Table t n → (t' ≡ pad (length t) (f (take n t))) × (r ≡ length (f (take n t)))) → Changed f t n t' r
changed_to f t n t' r h g = record { table = λ T. (g T).0; count = λ T. (g T).1; beyond = λ b. absurd (omega arith) }

-- ---- a key is put in, or taken out, at its place
put_among : (t : List ℕ) (n k at : ℕ) → n < length t → at ≤ n → put_at at k (take (n + 1) t) ≡ take at (take n t) ++ k ∷ drop at (take n t)
put_among t n k at h b =
    let v : List ℕ = take (n + 1) t in
    let j : length v - (at + 1) ≡ n - at = rw (length-take-le (n + 1) t (omega arith)) (omega arith) in
    let front : take at v ≡ take at (take n t) = take-take at (n + 1) t (omega arith) ∙ sym (take-take at n t b) in
    let back : take (length v - (at + 1)) (drop at v) ≡ drop at (take n t) =
    ap (λ (i : ℕ). take i (drop at v)) j ∙ part_is at n v ∙ ap (drop at) (take-take n (n + 1) t (omega arith)) in
    rw (front, back)

take_from : (t : List ℕ) (n at : ℕ) → n ≤ length t → at < n → shift_down (take (n - at) (drop at t)) ≡ drop (suc at) (take n t) ++ (0 ∷ [])
take_from t n at h b = rw (part_is at n t, drop-cons (take n t) at 0 (rw (length-take-le n t h) b))

zeros : (t : List ℕ) (n : ℕ) → Table t n → n < length t → drop (n + 1) t ≡ replicate (length t - (n + 1)) 0
zeros t n T h =
    let e : length t - n ≡ suc (length t - (n + 1)) = omega arith in
    sym (drop-drop 1 n t) ∙ ap (drop 1) (T.rest ∙ ap (λ (j : ℕ). replicate j 0) e)

module _ (t : List ℕ) (n k at : ℕ) (p : AscL 0 (take n t) → at ≡ rank k (take n t)) (ys : List ℕ) where
  pub inserted : n < length t → stands k at (take n t) ≡ false → ys ≡ put_at at k (take (n + 1) t) → Changed (added (length t) k) t n (ys ++ drop (n + 1) t) (n + 1)
  inserted h s y = changed_to (added (length t) k) t n (ys ++ drop (n + 1) t) (n + 1) (omega arith) after
    where
      after : Table t n → (ys ++ drop (n + 1) t ≡ pad (length t) (added (length t) k (take n t))) × (n + 1 ≡ length (added (length t) k (take n t)))
      after T =
          let u : List ℕ = take n t in
          let w = absent k at u T.asc (p T.asc) s in
          let lu : length u ≡ n = length-take-le n t T.room in
          let e : at ≡ rank k u = p T.asc in
          let b : at ≤ n = omega (arith, rank_le k u) in
          let more : length (add k u) ≡ n + 1 = absent_length k u w ∙ ap (λ (j : ℕ). j + 1) lu in
          let keys : ys ≡ add k u = y ∙ put_among t n k at h b ∙ sym (rw e w.put) in
          rw (added_room (length t) k u T.asc (rw lu h), more, keys, zeros t n T h) (refl, refl)

  pub removed : n ≤ length t → stands k at (take n t) ≡ true → ys ≡ shift_down (take (n - at) (drop at t)) → Changed (cut k) t n (put_mid at (n - at) t ys) (n - 1)
  removed h s y = changed_to (cut k) t n (put_mid at (n - at) t ys) (n - 1) h after
    where
      after : Table t n → (put_mid at (n - at) t ys ≡ pad (length t) (cut k (take n t))) × (n - 1 ≡ length (cut k (take n t)))
      after T =
          let u : List ℕ = take n t in
          let w = there k at u T.asc (p T.asc) s in
          let lu : length u ≡ n = length-take-le n t T.room in
          let e : at ≡ rank k u = p T.asc in
          let b : at < n = omega (arith, stands_inside k at u s) in
          let less : length (cut k u) ≡ n - 1 = omega (arith, there_length k u w) in
          let keys : cut k u ≡ take at u ++ drop (suc at) u = rw e w.took in
          let z : length t - (n - 1) ≡ suc (length t - n) = omega arith in
          let front : take at t ≡ take at u = sym (take-take at n t (omega arith)) in
          (rw (y ∙ take_from t n at h b, Post-is at n t (omega arith), T.rest, less, z, keys, front) (simp append_assoc), sym less)

-- ---- the keys afterwards, and that the table is canonical again
module _ (t : List ℕ) (n : ℕ) (t' : List ℕ) (r : ℕ) (T : Table t n) where
  pub changed_keys : (f : List ℕ → List ℕ) → Changed f t n t' r → take r t' ≡ f (take n t)
  changed_keys f c = rw (c.table T, c.count T) (pad_take (length t) (f (take n t)))

  -- a change that leaves the keys as they are leaves the table
  pub changed_same : (f : List ℕ → List ℕ) → Changed f t n t' r → f (take n t) ≡ take n t → (t' ≡ t) × (r ≡ n)
  changed_same f c e =
      (c.table T ∙ ap (pad (length t)) e ∙ sym (table_pad t n T), c.count T ∙ ap length e ∙ length-take-le n t T.room)

  pub insert_room : (k : ℕ) → Changed (added (length t) k) t n t' r → n < length t → (t' ≡ pad (length t) (add k (take n t))) × (r ≡ length (add k (take n t)))
  insert_room k c h =
      let e : added (length t) k (take n t) ≡ add k (take n t) = added_room (length t) k (take n t) T.asc (rw (length-take-le n t T.room) h) in
      (c.table T ∙ ap (pad (length t)) e, c.count T ∙ ap length e)

  changed_table : (f : List ℕ → List ℕ) → Changed f t n t' r → length (f (take n t)) ≤ length t → AscL 0 (f (take n t)) → Table t' r
  changed_table f c h a = rw (c.table T, c.count T) (pad_table (length t) (f (take n t)) h a)

  pub insert_table : (k : ℕ) → Changed (added (length t) k) t n t' r → Table t' r
  insert_table k c =
      changed_table (added (length t) k) c
      (added_fits (length t) k (take n t) (rw (length-take-le n t T.room) T.room))
      (added_ascends (length t) k (take n t) T.asc)

  pub remove_table : (k : ℕ) → Changed (cut k) t n t' r → Table t' r
  remove_table k c =
      let h : length (cut k (take n t)) ≤ length t = omega (arith, cut_fits k (take n t) T.asc, length-take-le n t T.room, T.room) in
      changed_table (cut k) c h (asc_l_cut 0 k (take n t) T.asc)
