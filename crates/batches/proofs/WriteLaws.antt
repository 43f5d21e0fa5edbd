-- A listed batch written to a table: first what is to be free, then what is to be occupied. Assumes nothing.
use Prim.Native.Nat.{ℕ, suc, ◌≤◌, ◌<◌, zero-le}
use native.Mathlib.Nat.{le_refl}
use native.Mathlib.Omega.{arith}
use mathlib.Core.Path.{◌≡◌, refl, sym, ap, ◌∙◌}
use mathlib.Core.Logic.{◌≢◌, ◌⊎◌, ⊎_elim}
use mathlib.Core.Bool.{Bool, true, false, not, cond, beq, false≢true, true≢false}
use lib.Dec.{eqb}
use mathlib.Core.List.{List, [], ◌∷◌}
use lib.ListN.{length, take}
use lib.Seq.{length-take-le}
use borrow.Author.Tests.{le-leb}
use Rattle.model.specs.Batch.{Batch, cells_after, write}
use Rattle.model.specs.Maps.{Asc, AscL, add, cut, keys}
use Rattle.model.proofs.OrderLaws.{asc_l_add, asc_l_cut}
use Rattle.table.specs.Listed.{values}
use Rattle.table.specs.Tables.{Changed, Table, added, pad}
use Rattle.table.proofs.TableLaws.{changed_keys, insert_table, remove_table, table_pad}
use Rattle.limits.specs.Batches.{Written, flags, writes}
use Rattle.table.proofs.ListedLaws.{keys_length}
use Rattle.batches.proofs.ListedLaws.{flags_length}
use Rattle.batches.proofs.SetLaws.{add_grows, cut_add}

-- ---- an ascending batch is what its entries free, and then what they fill
cuts_add : (lo k : ℕ) (b : Batch) (C : List ℕ) → Asc lo b → k < lo → AscL 0 C → writes false b (add k C) ≡ add k (writes false b C)
unfolding writes
cuts_add lo k [] C a h o = refl
cuts_add lo k (e ∷ b) C a h o =
    let l : k < suc e.0 = omega arith in
    let n : e.0 ≢ k = omega arith in
    go n e.1 (cuts_add (suc e.0) k b C a.1 l o) (cuts_add (suc e.0) k b (cut e.0 C) a.1 l (asc_l_cut 0 e.0 C o))
  where
    go : e.0 ≢ k → (v : Bool) → writes false b (add k C) ≡ add k (writes false b C) → writes false b (add k (cut e.0 C)) ≡ add k (writes false b (cut e.0 C))
        → writes false b (cond (beq v false) (cut e.0 (add k C)) (add k C)) ≡ add k (writes false b (cond (beq v false) (cut e.0 C) C))
    go n true p q = p
    go n false p q = ap (writes false b) (cut_add e.0 k C n o) ∙ q

pub cells_written : (lo : ℕ) (b : Batch) (C : List ℕ) → Asc lo b → AscL 0 C → cells_after b C ≡ writes true b (writes false b C)
unfolding cells_after writes
cells_written lo [] C a o = refl
cells_written lo (e ∷ b) C a o =
    go e.1 (cells_written (suc e.0) b (add e.0 C) a.1 (asc_l_add 0 e.0 C zero-le o)) (cells_written (suc e.0) b (cut e.0 C) a.1 (asc_l_cut 0 e.0 C o))
  where
    go : (v : Bool) → cells_after b (add e.0 C) ≡ writes true b (writes false b (add e.0 C)) → cells_after b (cut e.0 C) ≡ writes true b (writes false b (cut e.0 C))
        → cells_after b (write e.0 v C) ≡ writes true b (cond (beq v true) (add e.0 (writes false b (cond (beq v false) (cut e.0 C) C))) (writes false b (cond (beq v false) (cut e.0 C) C)))
    go true p q = p ∙ ap (writes true b) (cuts_add (suc e.0) e.0 b C a.1 (omega arith) o)
    go false p q = q

writes_ascend : (v : Bool) (b : Batch) (C : List ℕ) → AscL 0 C → AscL 0 (writes v b C)
unfolding writes
writes_ascend v [] C o = o
writes_ascend v (e ∷ b) C o = writes_ascend v b (cond (beq e.1 v) (write e.0 v C) C) (go v (beq e.1 v))
  where
    go : (v t : Bool) → AscL 0 (cond t (write e.0 v C) C)
    go true true = asc_l_add 0 e.0 C zero-le o
    go false true = asc_l_cut 0 e.0 C o
    go v false = o

-- what is put in never makes it shorter: so there is room all along where there is room at the end
fills_grow : (b : Batch) (C : List ℕ) → AscL 0 C → length C ≤ length (writes true b C)
unfolding writes
fills_grow [] C o = le_refl (length C)
fills_grow (e ∷ b) C o = go (beq e.1 true) (fills_grow b C o) (fills_grow b (add e.0 C) (asc_l_add 0 e.0 C zero-le o))
  where
    go : (t : Bool) → length C ≤ length (writes true b C) → length (add e.0 C) ≤ length (writes true b (add e.0 C)) → length C ≤ length (writes true b (cond t (add e.0 C) C))
    go true p q = omega (arith, add_grows e.0 C o, q)
    go false p q = p

-- ---- one change of a table
pub remove_writes : (t : List ℕ) (r k : ℕ) (t' : List ℕ) (r' : ℕ) → Changed (cut k) t r t' r' → Table t r → Table t' r' × (take r' t' ≡ cut k (take r t))
remove_writes t r k t' r' c T = (remove_table t r t' r' T k c, changed_keys t r t' r' T (cut k) c)

pub insert_writes : (t : List ℕ) (r k : ℕ) (t' : List ℕ) (r' : ℕ) → Changed (added (length t) k) t r t' r' → Table t r → length (add k (take r t)) ≤ length t
    → Table t' r' × (take r' t' ≡ add k (take r t))
insert_writes t r k t' r' c T h = (insert_table t r t' r' T k c, changed_keys t r t' r' T (added (length t) k) c ∙ room)
  where
    room : added (length t) k (take r t) ≡ add k (take r t)
    room = unfold added in rw (le-leb (length (add k (take r t))) (length t) h) refl

-- ---- the loop: what is written, and the entries that are left, listed by ks and fs
pub record Writing (v : Bool) (ks fs confirmed full t : List ℕ) (n : ℕ) (t' : List ℕ) (r : ℕ) : Type 0 where
  pub same : length t' ≡ length t
  pub run : (b : Batch) → confirmed ≡ keys b → full ≡ values (flags b) → Table t n → length (writes v b (take n t)) ≤ length t
      → (m : Batch) × (ks ≡ keys m) × (fs ≡ values (flags m)) × Table t' r × (writes v m (take r t') ≡ writes v b (take n t))

-- what a number in the list says: of a batch's list it is 0 or 1
abbrev pub Means : ℕ → Bool → Type 0
Means f u = (z : Bool) → f ≡ cond z 1 0 → z ≡ u

pub means_free : {f : ℕ} → f ≡ 0 → Means f false
means_free h true e = absurd (omega arith)
means_free h false e = refl

pub means_full : {f : ℕ} → f ≢ 0 → Means f true
means_full h true e = refl
means_full h false e = absurd (h e)

beq_true : (z u : Bool) → beq z u ≡ true → z ≡ u
beq_true true true h = refl
beq_true true false h = absurd (false≢true h)
beq_true false true h = absurd (false≢true h)
beq_true false false h = refl

beq_false : (z u : Bool) → beq z u ≡ false → z ≡ not u
beq_false true true h = absurd (true≢false h)
beq_false true false h = refl
beq_false false true h = refl
beq_false false false h = absurd (true≢false h)

-- a number but 0 says occupied
said : (f : ℕ) (z : Bool) → f ≡ cond z 1 0 → not (eqb f 0) ≡ z
said f true e = rw e refl
said f false e = rw e refl

pub means_is : (f : ℕ) (u : Bool) → beq (not (eqb f 0)) u ≡ true → Means f u
means_is f u h z e = beq_true z u (rw (said f z e) at h)

pub means_not : (f : ℕ) (u : Bool) → beq (not (eqb f 0)) u ≡ false → Means f (not u)
means_not f u h z e = beq_false z u (rw (said f z e) at h)

beq_self : (v : Bool) → beq v v ≡ true
beq_self true = refl
beq_self false = refl

beq_not : (v : Bool) → beq (not v) v ≡ false
beq_not true = refl
beq_not false = refl

-- the first entry of what is left: it is written, or passed over
next : (v u : Bool) (k f : ℕ) (ks fs : List ℕ) (m : Batch) → k ∷ ks ≡ keys m → f ∷ fs ≡ values (flags m) → Means f u
    → (m' : Batch) × (ks ≡ keys m') × (fs ≡ values (flags m')) × ((D : List ℕ) → writes v m D ≡ writes v m' (cond (beq u v) (write k v D) D))
unfolding writes keys
next v u k f ks fs [] p q h = cc
next v u k f ks fs (e ∷ m) p q h =
    let k-is : k ≡ e.0 = cc in
    let f-is : f ≡ cond e.1 1 0 = cc in
    let u-is : e.1 ≡ u = h e.1 f-is in
    let left : ks ≡ keys m = cc in
    let flagged : fs ≡ values (flags m) = cc in
    (m, left, flagged, λ D. rw (k-is, u-is) refl)

module _ {v : Bool} {k f : ℕ} {ks fs confirmed full t : List ℕ} {n : ℕ} {t' : List ℕ} {r : ℕ} (w : Writing v (k ∷ ks) (f ∷ fs) confirmed full t n t' r) where
  pub writing_same : Means f (not v) → Writing v ks fs confirmed full t n t' r
  writing_same e = record {
    same = w.same;
    run = λ b p q T h.
        let g = w.run b p q T h in
        let x = next v (not v) k f ks fs g.0 g.1 g.2 e in
        let D : List ℕ = take r t' in
        let s : writes v g.0 D ≡ writes v x.0 D = x.3 D ∙ ap (λ (z : Bool). writes v x.0 (cond z (write k v D) D)) (beq_not v) in
        (x.0, x.1, x.2, g.3, sym s ∙ g.4);
  }

  pub writing_more : (t'' : List ℕ) (r'' : ℕ) → Means f v → length t'' ≡ length t'
      → (Table t' r → (v ≡ true → length (add k (take r t')) ≤ length t') → Table t'' r'' × (take r'' t'' ≡ write k v (take r t')))
      → Writing v ks fs confirmed full t n t'' r''
  writing_more t'' r'' e m change = record {
    same = m ∙ w.same;
    run = λ b p q T h.
        let g = w.run b p q T h in
        let x = next v v k f ks fs g.0 g.1 g.2 e in
        let D : List ℕ = take r t' in
        let T' : Table t' r = g.3 in
        let s : writes v g.0 D ≡ writes v x.0 (write k v D) = x.3 D ∙ ap (λ (z : Bool). writes v x.0 (cond z (write k v D) D)) (beq_self v) in
        let whole : writes v x.0 (write k v D) ≡ writes v b (take n t) = sym s ∙ g.4 in
        let fits : v ≡ true → length (add k D) ≤ length t' =
        λ y.
        let ends : length (writes true x.0 (add k D)) ≡ length (writes v b (take n t)) = ap length (ap (λ (z : Bool). writes z x.0 (write k z D)) (sym y) ∙ whole) in
        omega (arith, fills_grow x.0 (add k D) (asc_l_add 0 k D zero-le T'.asc), ends, h, w.same) in
        let c = change T' fits in
        (x.0, x.1, x.2, c.0, ap (writes v x.0) c.1 ∙ whole);
  }

empty : (m : Batch) → length m ≡ 0 → m ≡ []
empty [] e = refl
empty (x ∷ m) e = absurd (omega arith)

pub writing_end : {v : Bool} {ks fs confirmed full t : List ℕ} {n : ℕ} {t' : List ℕ} {r : ℕ} → Writing v ks fs confirmed full t n t' r → (length ks ≡ 0) ⊎ (length fs ≡ 0) → Written v confirmed full t n t' r
unfolding writes
writing_end {v} {ks} {fs} {confirmed} {full} {t} {n} {t'} {r} w h = λ b p q T f.
    let g = w.run b p q T f in
    let none : g.0 ≡ [] = empty g.0 (⊎_elim (λ e. sym (keys_length g.0) ∙ sym (ap length g.1) ∙ e) (λ e. sym (flags_length g.0) ∙ sym (ap length g.2) ∙ e) h) in
    (g.3, ap (λ (m : Batch). writes v m (take r t')) (sym none) ∙ g.4)

-- ---- out, and then in
pub commit_is : (confirmed full t : List ℕ) (n : ℕ) (t' : List ℕ) (r : ℕ) (t'' : List ℕ) (r'' : ℕ) → Written false confirmed full t n t' r → Written true confirmed full t' r t'' r''
    → length t' ≡ length t → length t'' ≡ length t
    → (b : Batch) → confirmed ≡ keys b → full ≡ values (flags b) → Asc 0 b → Table t n → length (cells_after b (take n t)) ≤ length t
    → (t'' ≡ pad (length t) (cells_after b (take n t))) × (r'' ≡ length (cells_after b (take n t)))
commit_is confirmed full t n t' r t'' r'' out into m m' b p q a T h =
    let C : List ℕ = take n t in
    let A : List ℕ = writes false b C in
    let whole : cells_after b C ≡ writes true b A = cells_written 0 b C a T.asc in
    let e : length (cells_after b C) ≡ length (writes true b A) = ap length whole in
    let fits : length A ≤ length t = omega (arith, fills_grow b A (writes_ascend false b C T.asc)) in
    let o = out b p q T fits in
    let d : length (writes true b (take r t')) ≡ length (writes true b A) = ap (λ (l : List ℕ). length (writes true b l)) o.1 in
    let fits' : length (writes true b (take r t')) ≤ length t' = omega arith in
    let i = into b p q o.0 fits' in
    let x : take r'' t'' ≡ cells_after b C = i.1 ∙ ap (writes true b) o.1 ∙ sym whole in
    (table_pad t'' r'' i.0 ∙ ap (λ (j : ℕ). pad j (take r'' t'')) m' ∙ ap (pad (length t)) x, sym (length-take-le r'' t'' i.0.room) ∙ ap length x)

-- a list of another length is no batch's
pub listed_lengths : (confirmed full : List ℕ) (b : Batch) → confirmed ≡ keys b → full ≡ values (flags b) → length confirmed ≡ length full
listed_lengths confirmed full b p q = ap length p ∙ keys_length b ∙ sym (ap length q ∙ flags_length b)
