-- The cells after a batch and its confirmed changes: who stays, who is freed, who is filled. Assumes nothing.
use Prim.Native.Nat.{ℕ, suc, ◌<◌, zero-le}
use native.Mathlib.Decide.{ℕ_discrete}
use native.Mathlib.Omega.{arith}
use mathlib.Core.Path.{◌≡◌, refl, sym, ap, ◌∙◌}
use mathlib.Core.Logic.{◌≢◌, ◌⊎◌, inl, inr}
use mathlib.Core.Bool.{Bool, true, false, not, cond, ◌&&◌, ◌||◌, beq, true≢false}
use mathlib.Core.List.{List, [], ◌∷◌}
use lib.Dec.{T, eqb, eqb_refl}
use Rattle.ieee.proofs.Tools.{or_cases}
use Rattle.model.specs.Maps.{keys, has, Asc, AscL}
use Rattle.model.specs.Batch.{Batch, write, cells_after, confirmed}
use Rattle.model.specs.Demand3.{last_word}
use Rattle.model.proofs.MapLaws.{eqb_yes, eqb_no, true→T, or_left, or_right, has_add_same, has_add_other, has_cut_same, has_cut_other, beq_same}
use Rattle.model.proofs.OrderLaws.{asc_l_add, asc_l_cut}

-- ---- one write
pub write_same : (k : ℕ) (v : Bool) (C : List ℕ) → has k (write k v C) ≡ v
write_same k true C = has_add_same k C
write_same k false C = has_cut_same k C

pub write_other : (j k : ℕ) (v : Bool) (C : List ℕ) → j ≢ k → has j (write k v C) ≡ has j C
write_other j k true C h = has_add_other j k C h
write_other j k false C h = has_cut_other j k C h

write_order : (k : ℕ) (v : Bool) (C : List ℕ) → AscL 0 C → AscL 0 (write k v C)
write_order k true C a = asc_l_add 0 k C zero-le a
write_order k false C a = asc_l_cut 0 k C a

pub write_word : (x k : ℕ) (v : Bool) (C : List ℕ) → has x (write k v C) ≡ cond (eqb x k) v (has x C)
write_word x k v C = go (ℕ_discrete x k)
  where
    go : Dec (x ≡ k) → has x (write k v C) ≡ cond (eqb x k) v (has x C)
    go (yes e) = rw (e, eqb_yes k) (write_same k v C)
    go (no h) = rw (eqb_no x k h) (write_other x k v C h)

-- an entry that is not confirmed alters nothing
write_idle : (x k : ℕ) (v : Bool) (C : List ℕ) → beq (has k C) v ≡ true → has x (write k v C) ≡ has x C
write_idle x k v C q = go (ℕ_discrete x k)
  where
    go : Dec (x ≡ k) → has x (write k v C) ≡ has x C
    go (yes e) = rw e (write_same k v C ∙ sym (beq_same (has k C) v (true→T (beq (has k C) v) q)))
    go (no h) = write_other x k v C h

-- ---- a cell is occupied after a batch exactly when the last entry that names it says so, or none names it and it was
pub cells_last : (b : Batch) (C : List ℕ) (x : ℕ) → has x (cells_after b C) ≡ last_word b x (has x C)
unfolding cells_after last_word
cells_last [] C x = refl
cells_last (e ∷ b) C x = cells_last b (write e.0 e.1 C) x ∙ ap (last_word b x) (write_word x e.0 e.1 C)

pub cells_order : (b : Batch) (C : List ℕ) → AscL 0 C → AscL 0 (cells_after b C)
unfolding cells_after
cells_order [] C a = a
cells_order (e ∷ b) C a = cells_order b (write e.0 e.1 C) (write_order e.0 e.1 C a)

cells_low : (lo : ℕ) (b : Batch) (C : List ℕ) (x : ℕ) → Asc lo b → x < lo → has x (cells_after b C) ≡ has x C
unfolding cells_after
cells_low lo [] C x a h = refl
cells_low lo (e ∷ b) C x a h =
    let y = a.0 in
    let n : x ≢ e.0 = omega arith in
    let l : x < suc e.0 = omega arith in
    cells_low (suc e.0) b (write e.0 e.1 C) x a.1 l ∙ write_other x e.0 e.1 C n

-- ---- confirmed changes
-- a cell that none of them names stays as it was
pub cells_kept : (b : Batch) (C : List ℕ) (x : ℕ) → T (has x (keys (confirmed b C))) ⊎ (has x (cells_after b C) ≡ has x C)
unfolding cells_after confirmed keys has
cells_kept [] C x = inr refl
cells_kept (e ∷ b) C x = go (beq (has e.0 C) e.1) refl (ℕ_discrete x e.0) (cells_kept b D x)
  where
    D : List ℕ
    D = write e.0 e.1 C

    go : (s : Bool) → beq (has e.0 C) e.1 ≡ s → Dec (x ≡ e.0) → T (has x (keys (confirmed b D))) ⊎ (has x (cells_after b D) ≡ has x D)
        → T (has x (keys (cond s (confirmed b D) (e ∷ confirmed b D)))) ⊎ (has x (cells_after b D) ≡ has x C)
    go true q d (inl t) = inl t
    go true q d (inr p) = inr (p ∙ write_idle x e.0 e.1 C q)
    go false q (yes h) p = inl (or_left (eqb x e.0) (has x (keys (confirmed b D))) (rw h (eqb_refl e.0)))
    go false q (no h) (inl t) = inl (or_right (eqb x e.0) (has x (keys (confirmed b D))) t)
    go false q (no h) (inr p) = inr (p ∙ write_other x e.0 e.1 C h)

-- the confirmed changes alone tell what is occupied afterwards
pub confirmed_last : (b : Batch) (C : List ℕ) (x : ℕ) → has x (cells_after b C) ≡ last_word (confirmed b C) x (has x C)
unfolding cells_after confirmed last_word keys has
confirmed_last [] C x = refl
confirmed_last (e ∷ b) C x = confirmed_last b D x ∙ go (beq (has e.0 C) e.1) (cells_kept (e ∷ []) C x)
  where
    D : List ℕ
    D = write e.0 e.1 C

    go : (s : Bool) → T (has x (keys (cond s [] (e ∷ [])))) ⊎ (has x D ≡ has x C) → last_word (confirmed b D) x (has x D) ≡ last_word (cond s (confirmed b D) (e ∷ confirmed b D)) x (has x C)
    go true (inl u) = absurd u
    go true (inr q) = ap (last_word (confirmed b D) x) q
    go false q = ap (last_word (confirmed b D) x) (cells_last (e ∷ []) C x)

pub confirmed_keys : (b : Batch) (C : List ℕ) (x : ℕ) → T (has x (keys (confirmed b C))) → T (has x (keys b))
unfolding confirmed keys has
confirmed_keys [] C x u = u
confirmed_keys (e ∷ b) C x u = go (beq (has e.0 C) e.1) u (confirmed_keys b D x)
  where
    D : List ℕ
    D = write e.0 e.1 C

    step : T (eqb x e.0) ⊎ T (has x (keys (confirmed b D))) → (T (has x (keys (confirmed b D))) → T (has x (keys b))) → T (eqb x e.0 || has x (keys b))
    step (inl v) r = or_left (eqb x e.0) (has x (keys b)) v
    step (inr v) r = or_right (eqb x e.0) (has x (keys b)) (r v)

    go : (s : Bool) → T (has x (keys (cond s (confirmed b D) (e ∷ confirmed b D)))) → (T (has x (keys (confirmed b D))) → T (has x (keys b))) → T (eqb x e.0 || has x (keys b))
    go true v r = or_right (eqb x e.0) (has x (keys b)) (r v)
    go false v r = step (or_cases (eqb x e.0) (has x (keys (confirmed b D))) v) r

-- a cell that the changes free
unfoldable pub freed : ℕ → Batch → Bool
freed x [] = false
freed x (e ∷ b) = (eqb x e.0 && not e.1) || freed x b

-- what was occupied still is, or is freed
pub cells_freed : (b : Batch) (C : List ℕ) (x : ℕ) → has x C ≡ true → T (has x (cells_after b C)) ⊎ T (freed x (confirmed b C))
unfolding cells_after confirmed freed
cells_freed [] C x h = inl (true→T (has x C) h)
cells_freed (e ∷ b) C x h = go (beq (has e.0 C) e.1) refl (ℕ_discrete x e.0) (cells_freed b D x)
  where
    D : List ℕ
    D = write e.0 e.1 C

    clash : (u v : Bool) → u ≡ true → beq u v ≡ false → T (not v)
    clash u true p q = true≢false (sym (ap (λ z. beq z true) p) ∙ q)
    clash u false p q = tt

    both : (u v : Bool) → T u → T v → T (u && v)
    both true v s t = t
    both false v s t = absurd s

    step : T (has x (cells_after b D)) ⊎ T (freed x (confirmed b D)) → T (has x (cells_after b D)) ⊎ T ((eqb x e.0 && not e.1) || freed x (confirmed b D))
    step (inl t) = inl t
    step (inr t) = inr (or_right (eqb x e.0 && not e.1) (freed x (confirmed b D)) t)

    go : (s : Bool) → beq (has e.0 C) e.1 ≡ s → Dec (x ≡ e.0) → (has x D ≡ true → T (has x (cells_after b D)) ⊎ T (freed x (confirmed b D)))
        → T (has x (cells_after b D)) ⊎ T (freed x (cond s (confirmed b D) (e ∷ confirmed b D)))
    go true q d r = r (write_idle x e.0 e.1 C q ∙ h)
    go false q (yes y) r =
        inr (or_left (eqb x e.0 && not e.1) (freed x (confirmed b D))
        (both (eqb x e.0) (not e.1) (rw y (eqb_refl e.0)) (clash (has e.0 C) e.1 (rw y at h) q)))
    go false q (no y) r = step (r (write_other x e.0 e.1 C y ∙ h))

-- every cell that the changes fill is occupied in C
abbrev pub Placed : List ℕ → Batch → Type 0
Placed C [] = Unit {0}
Placed C (e ∷ b) = (T e.1 → T (has e.0 C)) × Placed C b

pub cells_placed : (lo : ℕ) (b : Batch) (C : List ℕ) → Asc lo b → Placed (cells_after b C) (confirmed b C)
unfolding cells_after confirmed
cells_placed lo [] C a = tt
cells_placed lo (e ∷ b) C a = go (beq (has e.0 C) e.1) (cells_placed (suc e.0) b D a.1)
  where
    D : List ℕ
    D = write e.0 e.1 C

    now : T e.1 → T (has e.0 (cells_after b D))
    now t = rw (cells_low (suc e.0) b D e.0 a.1 (omega arith), write_same e.0 e.1 C) t

    go : (s : Bool) → Placed (cells_after b D) (confirmed b D) → Placed (cells_after b D) (cond s (confirmed b D) (e ∷ confirmed b D))
    go true q = q
    go false q = (now, q)
