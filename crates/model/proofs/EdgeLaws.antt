-- Laws of the pairs: what `edge` reads after each change of the nested map. Assumes nothing.
use Prim.Native.Nat.{ℕ}
use native.Mathlib.Decide.{ℕ_discrete}
use mathlib.Core.Path.{◌≡◌, refl, sym, ap, ◌∙◌}
use mathlib.Core.Logic.{◌≢◌, ◌⊎◌, inl, inr, ⊎_elim}
use mathlib.Core.Bool.{Bool, true, false, not, cond, ◌||◌, ◌&&◌, and_comm, or_comm, and-false, true≢false}
use mathlib.Core.List.{List, [], ◌∷◌}
use mathlib.Core.Option.{Option, none, some, map, none-ne-some}
use lib.Dec.{T, eqb, not_T, eqb→eq}
use lib.Ieee.Fits.{and_i, and_l, and_r}
use Rattle.ieee.proofs.Tools.{or_cases}
use Rattle.model.specs.Maps.{get, put, del, keys, is_some, has}
use Rattle.model.specs.Corner.{Bits, sees}
use Rattle.model.specs.Layer.{Edges, line, edge, tie, untie, link, hide, erase}
use Rattle.model.proofs.MapLaws.{notT→false, dec_t, eqb_yes, eqb_no, or_left, or_right, get_put_same, get_put_other, get_del_same, get_del_other, keys_has}

-- ---- choices, and options
pub cond_ap : {A B : Type 0} (f : A → B) (s : Bool) (x y : A) → f (cond s x y) ≡ cond s (f x) (f y)
cond_ap f true x y = refl
cond_ap f false x y = refl

pub some_cond : {A : Type 0} (s : Bool) (x : A) → is_some (cond s (some x) none) ≡ s
some_cond true x = refl
some_cond false x = refl

pub map_some : {A : Type 0} (f : A → A) (o : Option A) → is_some (map f o) ≡ is_some o
map_some f none = refl
map_some f (some a) = refl

no_some : {A : Type 0} (o : Option A) → (T (is_some o) → ⊥) → o ≡ none
no_some none f = refl
no_some (some a) f = absurd (f tt)

-- what is there only under s
pub only : {A : Type 0} (s : Bool) (o : Option A) → (T (is_some o) → T s) → o ≡ cond s o none
only true o f = refl
only false o f = no_some o f

-- what is there under s is there
pub under : {A : Type 0} (s : Bool) (o : Option A) (v : A) → cond s o none ≡ some v → T s × (o ≡ some v)
under true o v e = (tt, e)
under false o v e = absurd (none-ne-some v e)

pub by_eqb : {A : Type 0} (j k : ℕ) (x y z : A) → (j ≡ k → x ≡ y) → (j ≢ k → x ≡ z) → x ≡ cond (eqb j k) y z
by_eqb j k x y z f g = go (ℕ_discrete j k)
  where
    go : Dec (j ≡ k) → x ≡ cond (eqb j k) y z
    go (yes e) = rw (e, eqb_yes k) (f e)
    go (no h) = rw (eqb_no j k h) (g h)

get_put : {A : Type 0} (j k : ℕ) (v : A) (m : List (ℕ × A)) → get j (put k v m) ≡ cond (eqb j k) (some v) (get j m)
get_put j k v m = by_eqb j k (get j (put k v m)) (some v) (get j m) (λ e. rw e (get_put_same k v m)) (get_put_other j k v m)

get_del : {A : Type 0} (j k : ℕ) (m : List (ℕ × A)) → get j (del k m) ≡ cond (eqb j k) none (get j m)
get_del j k m = by_eqb j k (get j (del k m)) none (get j m) (λ e. rw e (get_del_same k m)) (get_del_other j k m)

pub eqb_is : (m n : ℕ) → m ≡ n → eqb m n ≡ true
eqb_is m n e = rw e (eqb_yes n)

-- ---- one row, and one end
line_put : (p : ℕ) (r : List (ℕ × Option ℕ)) (e : Edges) → line p (put p r e) ≡ r
unfolding line
line_put p r e = rw (get_put_same p r e, line) refl

edge_put : (a b p : ℕ) (r : List (ℕ × Option ℕ)) (e : Edges) → edge a b (put p r e) ≡ cond (eqb a p) (get b r) (edge a b e)
unfolding edge line
edge_put a b p r e =
    by_eqb a p (edge a b (put p r e)) (get b r) (edge a b e) (λ h. rw h (ap (get b) (line_put p r e))) (λ h. rw (get_put_other a p r e h, line) refl)

edge_del : (a b p : ℕ) (e : Edges) → edge a b (del p e) ≡ cond (eqb a p) none (edge a b e)
unfolding edge line get
edge_del a b p e =
    by_eqb a p (edge a b (del p e)) none (edge a b e) (λ h. rw (← h, get_del_same a e, line) refl) (λ h. rw (get_del_other a p e h, line) refl)

-- the row r, which is p's but for x at q, put at p
row_at : (a b p q : ℕ) (x : Option (Option ℕ)) (r : List (ℕ × Option ℕ)) (e : Edges) → get b r ≡ cond (eqb b q) x (edge p b e)
    → edge a b (put p r e) ≡ cond (eqb a p && eqb b q) x (edge a b e)
row_at a b p q x r e h = edge_put a b p r e ∙ go (ℕ_discrete a p)
  where
    go : Dec (a ≡ p) → cond (eqb a p) (get b r) (edge a b e) ≡ cond (eqb a p && eqb b q) x (edge a b e)
    go (yes y) = rw (y, eqb_yes p) h
    go (no y) = rw (eqb_no a p y) refl

tie_at : (a b p q : ℕ) (v : Option ℕ) (e : Edges) → edge a b (tie p q v e) ≡ cond (eqb a p && eqb b q) (some v) (edge a b e)
unfolding edge tie
tie_at a b p q v e = row_at a b p q (some v) (put q v (line p e)) e (get_put b q v (line p e))

untie_at : (a b p q : ℕ) (e : Edges) → edge a b (untie p q e) ≡ cond (eqb a p && eqb b q) none (edge a b e)
unfolding edge untie
untie_at a b p q e = row_at a b p q none (del q (line p e)) e (get_del b q (line p e))

-- ---- both ends
abbrev pub Twins : Edges → Type 0
Twins e = (a b : ℕ) → edge a b e ≡ edge b a e

-- (a, b) is the pair of p and q, either way round
abbrev pub hits : ℕ → ℕ → ℕ → ℕ → Bool
hits a b p q = (eqb a p && eqb b q) || (eqb a q && eqb b p)

cond_or : {A : Type 0} (x y : Bool) (u z : A) → cond y u (cond x u z) ≡ cond (x || y) u z
cond_or true true u z = refl
cond_or true false u z = refl
cond_or false y u z = refl

pub link_at : (a b p q : ℕ) (v : Option ℕ) (e : Edges) → edge a b (link p q v e) ≡ cond (hits a b p q) (some v) (edge a b e)
unfolding link
link_at a b p q v e =
    tie_at a b q p v (tie p q v e) ∙ ap (cond (eqb a q && eqb b p) (some v)) (tie_at a b p q v e) ∙ cond_or (eqb a p && eqb b q) (eqb a q && eqb b p) (some v) (edge a b e)

unlink_at : (a b p q : ℕ) (e : Edges) → edge a b (untie q p (untie p q e)) ≡ cond (hits a b p q) none (edge a b e)
unlink_at a b p q e =
    untie_at a b q p (untie p q e) ∙ ap (cond (eqb a q && eqb b p) none) (untie_at a b p q e) ∙ cond_or (eqb a p && eqb b q) (eqb a q && eqb b p) none (edge a b e)

pub hits_fore : (p q : ℕ) → T (hits p q p q)
hits_fore p q = rw (eqb_yes p, eqb_yes q) tt

pub hits_turn : (a b p q : ℕ) → hits a b p q ≡ hits b a p q
hits_turn a b p q = rw (and_comm (eqb a p) (eqb b q), and_comm (eqb a q) (eqb b p)) (or_comm (eqb b q && eqb a p) (eqb b p && eqb a q))

pub hits_back : (p q : ℕ) → T (hits q p p q)
hits_back p q = rw (hits_turn q p p q) (hits_fore p q)

pub hits_either : (a b p q : ℕ) → T (hits a b p q) → ((a ≡ p) × (b ≡ q)) ⊎ ((a ≡ q) × (b ≡ p))
hits_either a b p q t = ⊎_elim (λ s. inl (both a p b q s)) (λ s. inr (both a q b p s)) (or_cases (eqb a p && eqb b q) (eqb a q && eqb b p) t)
  where
    both : (x y u v : ℕ) → T (eqb x y && eqb u v) → (x ≡ y) × (u ≡ v)
    both x y u v s = (eqb→eq x y (and_l (eqb x y) (eqb u v) s), eqb→eq u v (and_r (eqb x y) (eqb u v) s))

pub hits_edge : (a b p q : ℕ) (e : Edges) → Twins e → T (hits a b p q) → edge a b e ≡ edge p q e
hits_edge a b p q e tw t = ⊎_elim (λ h. rw (h.0, h.1) refl) (λ h. rw (h.0, h.1) (tw q p)) (hits_either a b p q t)

pub twins_link : (p q : ℕ) (v : Option ℕ) (e : Edges) → Twins e → Twins (link p q v e)
twins_link p q v e tw a b = link_at a b p q v e ∙ rw (hits_turn a b p q, tw a b) (sym (link_at b a p q v e))

-- ---- `hide`: a bit was set at k, whose status is now b
module _ (a c k : ℕ) (b : Bits) where
  unfoldable hid : List ℕ → Bool
  hid [] = false
  hid (o ∷ os) = (not (sees o k b) && hits a c k o) || hid os

  hide_at : (os : List ℕ) (e : Edges) → edge a c (hide k b os e) ≡ cond (hid os) none (edge a c e)
  unfolding hide hid
  hide_at [] e = refl
  hide_at (o ∷ os) e =
      hide_at os (cond (sees o k b) e (untie o k (untie k o e))) ∙ ap (cond (hid os) none) (go (sees o k b)) ∙ cond_or (not (sees o k b) && hits a c k o) (hid os) none (edge a c e)
    where
      go : (s : Bool) → edge a c (cond s e (untie o k (untie k o e))) ≡ cond (not s && hits a c k o) none (edge a c e)
      go true = refl
      go false = unlink_at a c k o e

  hid_no : ((x : ℕ) → T (hits a c k x) → T (sees x k b)) → (os : List ℕ) → hid os ≡ false
  unfolding hid
  hid_no f [] = refl
  hid_no f (o ∷ os) = rw (go (sees o k b) refl) (hid_no f os)
    where
      go : (s : Bool) → sees o k b ≡ s → not s && hits a c k o ≡ false
      go true e = refl
      go false e = notT→false (hits a c k o) (λ u. let x : T false = rw e at (f o u) in x)

  hid_yes : (x : ℕ) → T (hits a c k x) → (T (sees x k b) → ⊥) → (os : List ℕ) → T (has x os) → T (hid os)
  unfolding hid has
  hid_yes x h n [] u = u
  hid_yes x h n (o ∷ os) u =
      let now = and_i (not (sees x k b)) (hits a c k x) (not_T (sees x k b) n) h in
      ⊎_elim (λ y. or_left (not (sees o k b) && hits a c k o) (hid os) (rw (eqb→eq x o y) at now))
      (λ y. or_right (not (sees o k b) && hits a c k o) (hid os) (hid_yes x h n os y)) (or_cases (eqb x o) (has x os) u)

  -- of the pairs of k those stay whose other end is seen: so a pair stays under s, if s says so of one that is there
  pub hide_left : (e : Edges) → Twins e → (s : Bool) → (T s → (x : ℕ) → T (hits a c k x) → T (sees x k b))
      → (T (is_some (edge a c e)) → ((x : ℕ) → T (hits a c k x) → T (sees x k b)) → T s) → edge a c (hide k b (keys (line k e)) e) ≡ cond s (edge a c e) none
  unfolding edge
  hide_left e tw s f g = hide_at os e ∙ go s (hid os) refl f g
    where
      os : List ℕ
      os = keys (line k e)

      seen : T (is_some (edge a c e)) → hid os ≡ false → (x : ℕ) → T (hits a c k x) → T (sees x k b)
      seen u n x h =
          ⊎_elim (λ y. y) (λ m. absurd (let z : T false = rw n at (hid_yes x h m os (rw (keys_has x (line k e)) (rw (hits_edge a c k x e tw h) at u))) in z)) (dec_t (sees x k b))

      go : (s r : Bool) → hid os ≡ r → (T s → (x : ℕ) → T (hits a c k x) → T (sees x k b)) → (T (is_some (edge a c e)) → ((x : ℕ) → T (hits a c k x) → T (sees x k b)) → T s)
          → cond r none (edge a c e) ≡ cond s (edge a c e) none
      go true true n f g = absurd (true≢false (sym n ∙ hid_no (f tt) os))
      go true false n f g = refl
      go false true n f g = refl
      go false false n f g = no_some (edge a c e) (λ u. g u (seen u n))

-- ---- `erase`: the point k goes
erase_at : (a c k : ℕ) (os : List ℕ) (e : Edges) → edge a c (erase k os e) ≡ cond (eqb c k && has a os) none (edge a c e)
unfolding erase has
erase_at a c k [] e = rw (and-false (eqb c k)) refl
erase_at a c k (o ∷ os) e = erase_at a c k os (untie o k e) ∙ ap (cond (eqb c k && has a os) none) (untie_at a c o k e) ∙ go (eqb c k) (eqb a o)
  where
    go : (s x : Bool) → cond (s && has a os) none (cond (x && s) none (edge a c e)) ≡ cond (s && (x || has a os)) none (edge a c e)
    go true true = cond_or true (has a os) none (edge a c e)
    go true false = refl
    go false true = refl
    go false false = refl

-- no pair of k stays, and every other
pub forgot : (a c k : ℕ) (e : Edges) → Twins e → edge a c (erase k (keys (line k e)) (del k e)) ≡ cond (eqb a k || eqb c k) none (edge a c e)
unfolding edge
forgot a c k e tw =
    erase_at a c k (keys (line k e)) (del k e) ∙ ap (cond (eqb c k && has a (keys (line k e))) none) (edge_del a c k e)
    ∙ go (eqb a k) (eqb c k) (has a (keys (line k e))) (edge a c e) lone
  where
    lone : T (eqb c k) → (T (has a (keys (line k e))) → ⊥) → edge a c e ≡ none
    lone u n = no_some (edge a c e) (λ z. n (rw (keys_has a (line k e), tw k a) (rw (eqb→eq c k u) at z)))

    go : (x s h : Bool) (z : Option (Option ℕ)) → (T s → (T h → ⊥) → z ≡ none) → cond (s && h) none (cond x none z) ≡ cond (x || s) none z
    go true true true z f = refl
    go true true false z f = refl
    go true false h z f = refl
    go false true true z f = refl
    go false true false z f = f tt (λ u. u)
    go false false h z f = refl
