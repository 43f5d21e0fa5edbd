-- What keeps entries, and cells, ascending. Assumes nothing.
use Prim.Native.Nat.{ℕ, suc, ◌≤◌, ◌<◌}
use native.Mathlib.Omega.{arith}
use mathlib.Core.Path.{◌≡◌, refl, sym, ap, ◌∙◌, subst}
use mathlib.Core.Logic.{◌≢◌}
use mathlib.Core.Bool.{Bool, true, false, cond, true≢false}
use mathlib.Core.List.{List, [], ◌∷◌}
use mathlib.Core.Option.{none, some}
use lib.Dec.{eqb, ltb, eqb→eq, ltb→lt, nltb→le}
use Rattle.model.specs.Maps.{Asc, AscL, get, put, del, map_v, add, cut, keys}
use Rattle.model.proofs.MapLaws.{eqb_yes, eqb_no, true→T, units, add_units, cut_units}

pub no_eqb : (m n : ℕ) → eqb m n ≡ false → m ≢ n
no_eqb m n e h = true≢false (sym (eqb_yes m) ∙ ap (eqb m) h ∙ e)

pub no_ltb : (m n : ℕ) → ltb m n ≡ false → n ≤ m
no_ltb m n e = nltb→le m n (rw e tt)

module _ {A : Type 0} where
  pub asc_down : (lo lo' : ℕ) (m : List (ℕ × A)) → lo ≤ lo' → Asc lo' m → Asc lo m
  asc_down lo lo' [] h a = tt
  asc_down lo lo' (e ∷ m) h a = (let x = a.0 in omega arith, a.1)

  pub asc_get : (lo : ℕ) (m : List (ℕ × A)) (k : ℕ) → Asc lo m → k < lo → get k m ≡ none
  unfolding get
  asc_get lo [] k a h = refl
  asc_get lo (e ∷ m) k a h =
      let x = a.0 in
      let n : k ≢ e.0 = omega arith in
      rw (eqb_no k e.0 n) (asc_get (suc e.0) m k a.1 (omega arith))

  pub asc_put : (lo : ℕ) (k : ℕ) (v : A) (m : List (ℕ × A)) → lo ≤ k → Asc lo m → Asc lo (put k v m)
  unfolding put
  asc_put lo k v [] h a = (h, tt)
  asc_put lo k v (e ∷ m) h a = go (eqb k e.0) (ltb k e.0) refl refl (asc_put (suc e.0) k v m)
    where
      go : (b c : Bool) → eqb k e.0 ≡ b → ltb k e.0 ≡ c → (suc e.0 ≤ k → Asc (suc e.0) m → Asc (suc e.0) (put k v m))
          → Asc lo (cond b ((k, v) ∷ m) (cond c ((k, v) ∷ e ∷ m) (e ∷ put k v m)))
      go true c p q ih = let x : k ≡ e.0 = eqb→eq k e.0 (true→T (eqb k e.0) p) in (h, rw x a.1)
      go false true p q ih = let x : k < e.0 = ltb→lt k e.0 (true→T (ltb k e.0) q) in (h, (x, a.1))
      go false false p q ih = let x : k ≢ e.0 = no_eqb k e.0 p in let y : e.0 ≤ k = no_ltb k e.0 q in (a.0, ih (omega arith) a.1)

  pub asc_del : (lo : ℕ) (k : ℕ) (m : List (ℕ × A)) → Asc lo m → Asc lo (del k m)
  unfolding del
  asc_del lo k [] a = tt
  asc_del lo k (e ∷ m) a = go (eqb k e.0) (asc_del (suc e.0) k m a.1)
    where
      go : (b : Bool) → Asc (suc e.0) (del k m) → Asc lo (cond b (del k m) (e ∷ del k m))
      go true ih = asc_down lo (suc e.0) (del k m) (let x = a.0 in omega arith) ih
      go false ih = (a.0, ih)

  pub asc_map_v : (f : ℕ → A → A) (lo : ℕ) (m : List (ℕ × A)) → Asc lo m → Asc lo (map_v f m)
  unfolding map_v
  asc_map_v f lo [] a = tt
  asc_map_v f lo (e ∷ m) a = (a.0, asc_map_v f (suc e.0) m a.1)

  -- every entry of l is what the map m has at its key
  abbrev pub Within : List (ℕ × A) → List (ℕ × A) → Type 0
  Within m [] = Unit {0}
  Within m (e ∷ l) = (get e.0 m ≡ some e.1) × Within m l

  within_cons : (x : ℕ × A) (lo : ℕ) (m l : List (ℕ × A)) → x.0 < lo → Asc lo l → Within m l → Within (x ∷ m) l
  unfolding get
  within_cons x lo m [] h a w = tt
  within_cons x lo m (e ∷ l) h a w =
      let y = a.0 in
      let n : e.0 ≢ x.0 = omega arith in
      (rw (eqb_no e.0 x.0 n) w.0, within_cons x (suc e.0) m l (omega arith) a.1 w.1)

  pub asc_within : (lo : ℕ) (m : List (ℕ × A)) → Asc lo m → Within m m
  unfolding get
  asc_within lo [] a = tt
  asc_within lo (e ∷ m) a = (rw (eqb_yes e.0) refl, within_cons e (suc e.0) m m (omega arith) a.1 (asc_within (suc e.0) m a.1))

-- ---- sets, as maps to nothing
pub asc_units : (lo : ℕ) (l : List ℕ) → AscL lo l → Asc lo (units l)
unfolding units
asc_units lo [] a = tt
asc_units lo (x ∷ l) a = (a.0, asc_units (suc x) l a.1)

pub asc_keys : {A : Type 0} (lo : ℕ) (m : List (ℕ × A)) → Asc lo m → AscL lo (keys m)
unfolding keys
asc_keys lo [] a = tt
asc_keys lo (e ∷ m) a = (a.0, asc_keys (suc e.0) m a.1)

pub asc_l_add : (lo k : ℕ) (l : List ℕ) → lo ≤ k → AscL lo l → AscL lo (add k l)
asc_l_add lo k l h a = subst (AscL lo) (add_units k l) (asc_keys lo (put k tt (units l)) (asc_put lo k tt (units l) h (asc_units lo l a)))

pub asc_l_cut : (lo k : ℕ) (l : List ℕ) → AscL lo l → AscL lo (cut k l)
asc_l_cut lo k l a = subst (AscL lo) (cut_units k l) (asc_keys lo (del k (units l)) (asc_del lo k (units l) (asc_units lo l a)))
