-- Laws of the maps and sets of specs/Maps.antt; none asks for an order. Assumes nothing.
use Prim.Native.Nat.{ℕ, zero, suc, ◌<◌}
use native.Mathlib.Nat.{le_of_suc-le-suc, not-suc-le-zero}
use mathlib.Core.Path.{◌≡◌, refl, sym, ap, ◌∙◌}
use mathlib.Core.Logic.{◌≢◌, ◌⊎◌, inl, inr, ⊎_elim}
use mathlib.Core.Bool.{Bool, true, false, cond, ◌||◌, beq}
use mathlib.Core.List.{List, [], ◌∷◌, ◌++◌}
use mathlib.Core.Option.{none, some, map}
use lib.Dec.{T, eqb, ltb, eqb→eq, eqb_refl}
use lib.ListN.{get_or, length}
use Rattle.ieee.proofs.Tools.{T_true, or_cases}
use Rattle.model.specs.Maps.{get, put, del, map_v, keys, is_some, has, add, cut}

-- ---- Booleans
pub T→true : (b : Bool) → T b → b ≡ true
T→true true t = refl
T→true false t = absurd t

pub notT→false : (b : Bool) → (T b → ⊥) → b ≡ false
notT→false true f = absurd (f tt)
notT→false false f = refl

pub dec_t : (b : Bool) → T b ⊎ (T b → ⊥)
dec_t true = inl tt
dec_t false = inr (λ t. t)

pub beq_same : (a b : Bool) → T (beq a b) → a ≡ b
beq_same true true e = refl
beq_same true false e = absurd e
beq_same false true e = absurd e
beq_same false false e = refl

pub true→T : (b : Bool) → b ≡ true → T b
true→T b e = T_true e

pub eqb_yes : (n : ℕ) → eqb n n ≡ true
eqb_yes n = T→true (eqb n n) (eqb_refl n)

pub eqb_no : (m n : ℕ) → m ≢ n → eqb m n ≡ false
eqb_no m n h = notT→false (eqb m n) (λ t. h (eqb→eq m n t))

pub or_left : (a b : Bool) → T a → T (a || b)
or_left true b t = tt
or_left false b t = absurd t

pub or_right : (a b : Bool) → T b → T (a || b)
or_right true b t = tt
or_right false b t = t

-- ---- members
pub has_first : (k : ℕ) (l : List ℕ) → T (has k (k ∷ l))
unfolding has
has_first k l = or_left (eqb k k) (has k l) (eqb_refl k)

pub has_later : (j k : ℕ) (l : List ℕ) → T (has j l) → T (has j (k ∷ l))
unfolding has
has_later j k l u = or_right (eqb j k) (has j l) u

pub has_cases : (j k : ℕ) (l : List ℕ) → T (has j (k ∷ l)) → (j ≡ k) ⊎ T (has j l)
unfolding has
has_cases j k l u = ⊎_elim (λ e. inl (eqb→eq j k e)) inr (or_cases (eqb j k) (has j l) u)

-- what stands at a place is a member
pub has_at : (l : List ℕ) (j : ℕ) → j < length l → T (has (get_or l j 0) l)
has_at [] j h = absurd (not-suc-le-zero h)
has_at (x ∷ l) zero h = has_first x l
has_at (x ∷ l) (suc j) h = has_later (get_or l j 0) x l (has_at l j (le_of_suc-le-suc h))

-- ---- maps
module _ {A : Type 0} where
  pub get_put_same : (k : ℕ) (v : A) (m : List (ℕ × A)) → get k (put k v m) ≡ some v
  unfolding get put
  get_put_same k v [] = rw (eqb_yes k) refl
  get_put_same k v (e ∷ m) = go (eqb k e.0) (ltb k e.0) refl (get_put_same k v m)
    where
      go : (b c : Bool) → eqb k e.0 ≡ b → get k (put k v m) ≡ some v → get k (cond b ((k, v) ∷ m) (cond c ((k, v) ∷ e ∷ m) (e ∷ put k v m))) ≡ some v
      go true c q ih = rw (eqb_yes k) refl
      go false true q ih = rw (eqb_yes k) refl
      go false false q ih = rw q ih

  pub get_put_other : (j k : ℕ) (v : A) (m : List (ℕ × A)) → j ≢ k → get j (put k v m) ≡ get j m
  unfolding get put
  get_put_other j k v [] h = rw (eqb_no j k h) refl
  get_put_other j k v (e ∷ m) h = go (eqb k e.0) (ltb k e.0) (λ t. eqb→eq k e.0 t) (get_put_other j k v m h)
    where
      go : (b c : Bool) → (T b → k ≡ e.0) → get j (put k v m) ≡ get j m → get j (cond b ((k, v) ∷ m) (cond c ((k, v) ∷ e ∷ m) (e ∷ put k v m))) ≡ get j (e ∷ m)
      go true c q ih = rw (eqb_no j k h, eqb_no j e.0 (λ x. h (x ∙ sym (q tt)))) refl
      go false true q ih = rw (eqb_no j k h) refl
      go false false q ih = rw ih refl

  pub get_del_same : (k : ℕ) (m : List (ℕ × A)) → get k (del k m) ≡ none
  unfolding get del
  get_del_same k [] = refl
  get_del_same k (e ∷ m) = go (eqb k e.0) refl (get_del_same k m)
    where
      go : (b : Bool) → eqb k e.0 ≡ b → get k (del k m) ≡ none → get k (cond b (del k m) (e ∷ del k m)) ≡ none
      go true q ih = ih
      go false q ih = rw q ih

  pub get_del_other : (j k : ℕ) (m : List (ℕ × A)) → j ≢ k → get j (del k m) ≡ get j m
  unfolding get del
  get_del_other j k [] h = refl
  get_del_other j k (e ∷ m) h = go (eqb k e.0) (λ t. eqb→eq k e.0 t) (get_del_other j k m h)
    where
      go : (b : Bool) → (T b → k ≡ e.0) → get j (del k m) ≡ get j m → get j (cond b (del k m) (e ∷ del k m)) ≡ get j (e ∷ m)
      go true q ih = rw (eqb_no j e.0 (λ x. h (x ∙ sym (q tt)))) ih
      go false q ih = rw ih refl

  pub get_map_v : (f : ℕ → A → A) (k : ℕ) (m : List (ℕ × A)) → get k (map_v f m) ≡ map (f k) (get k m)
  unfolding get map_v
  get_map_v f k [] = refl
  get_map_v f k (e ∷ m) = go (eqb k e.0) (λ t. eqb→eq k e.0 t) (get_map_v f k m)
    where
      go : (b : Bool) → (T b → k ≡ e.0) → get k (map_v f m) ≡ map (f k) (get k m)
          → cond b (some (f e.0 e.1)) (get k (map_v f m)) ≡ map (f k) (cond b (some e.1) (get k m))
      go true q ih = rw (q tt) refl
      go false q ih = ih

  -- a key that has an entry is among the keys, and the other way round
  pub keys_has : (k : ℕ) (m : List (ℕ × A)) → has k (keys m) ≡ is_some (get k m)
  unfolding get keys has
  keys_has k [] = refl
  keys_has k (e ∷ m) = go (eqb k e.0) (keys_has k m)
    where
      go : (b : Bool) → has k (keys m) ≡ is_some (get k m) → b || has k (keys m) ≡ is_some (cond b (some e.1) (get k m))
      go true ih = refl
      go false ih = ih

-- ---- a set is a map to nothing, so that its laws are those of maps
unfoldable pub units : List ℕ → List (ℕ × Unit {0})
units [] = []
units (x ∷ l) = (x, tt) ∷ units l

pub keys_units : (l : List ℕ) → keys (units l) ≡ l
unfolding keys units
keys_units [] = refl
keys_units (x ∷ l) = ap (λ z. x ∷ z) (keys_units l)

pub add_units : (k : ℕ) (l : List ℕ) → keys (put k tt (units l)) ≡ add k l
unfolding keys units put add
add_units k [] = refl
add_units k (x ∷ l) = go (eqb k x) (ltb k x) (eqb→eq k x) (add_units k l)
  where
    go : (b c : Bool) → (T b → k ≡ x) → keys (put k tt (units l)) ≡ add k l
        → keys (cond b ((k, tt) ∷ units l) (cond c ((k, tt) ∷ (x, tt) ∷ units l) ((x, tt) ∷ put k tt (units l)))) ≡ cond b (x ∷ l) (cond c (k ∷ x ∷ l) (x ∷ add k l))
    go true c q ih = rw (q tt, keys_units l) refl
    go false true q ih = rw (keys_units l) refl
    go false false q ih = ap (λ z. x ∷ z) ih

pub cut_units : (k : ℕ) (l : List ℕ) → keys (del k (units l)) ≡ cut k l
unfolding keys units del cut
cut_units k [] = refl
cut_units k (x ∷ l) = go (eqb k x) (cut_units k l)
  where
    go : (b : Bool) → keys (del k (units l)) ≡ cut k l → keys (cond b (del k (units l)) ((x, tt) ∷ del k (units l))) ≡ cond b (cut k l) (x ∷ cut k l)
    go true ih = ih
    go false ih = ap (λ z. x ∷ z) ih

-- a member of the set that a map's keys are
member : (k : ℕ) (m : List (ℕ × Unit {0})) (l : List ℕ) → keys m ≡ l → has k l ≡ is_some (get k m)
member k m l e = ap (has k) (sym e) ∙ keys_has k m

pub has_add_same : (k : ℕ) (l : List ℕ) → has k (add k l) ≡ true
has_add_same k l = member k (put k tt (units l)) (add k l) (add_units k l) ∙ ap is_some (get_put_same k tt (units l))

pub has_add_other : (j k : ℕ) (l : List ℕ) → j ≢ k → has j (add k l) ≡ has j l
has_add_other j k l h =
    member j (put k tt (units l)) (add k l) (add_units k l) ∙ ap is_some (get_put_other j k tt (units l) h) ∙ sym (member j (units l) l (keys_units l))

pub has_cut_same : (k : ℕ) (l : List ℕ) → has k (cut k l) ≡ false
has_cut_same k l = member k (del k (units l)) (cut k l) (cut_units k l) ∙ ap is_some (get_del_same k (units l))

pub has_cut_other : (j k : ℕ) (l : List ℕ) → j ≢ k → has j (cut k l) ≡ has j l
has_cut_other j k l h =
    member j (del k (units l)) (cut k l) (cut_units k l) ∙ ap is_some (get_del_other j k (units l) h) ∙ sym (member j (units l) l (keys_units l))

pub has_append : (j : ℕ) (l m : List ℕ) → has j (l ++ m) ≡ has j l || has j m
unfolding has
has_append j [] m = refl
has_append j (x ∷ l) m = go (eqb j x) (has_append j l m)
  where
    go : (b : Bool) → has j (l ++ m) ≡ has j l || has j m → b || has j (l ++ m) ≡ b || has j l || has j m
    go true ih = refl
    go false ih = ih
