-- Maps and sets of keys, as lists ascending by key: the BTreeMap and BTreeSet of the oracle (RULES 9.1). Definitions only.
-- `get` takes the first entry and `del` takes all away, so that their laws ask for no order.
use Rattle.std.specs.Prelude.{ℕ, suc, ◌≤◌, Bool, true, false, cond, ◌||◌, List, [], ◌∷◌, eqb, ltb}
use Rattle.std.proofs.Math.Option.{Option, none, some}

module _ {A : Type 0} where
  abbrev pub is_some : Option A → Bool
  is_some none = false
  is_some (some a) = true

  unfoldable pub get : ℕ → List (ℕ × A) → Option A
  get j [] = none
  get j (e ∷ m) = let r = get j m in cond (eqb j e.0) (some e.1) r

  unfoldable pub put : ℕ → A → List (ℕ × A) → List (ℕ × A)
  put k v [] = (k, v) ∷ []
  put k v (e ∷ m) = let r = put k v m in cond (eqb k e.0) ((k, v) ∷ m) (cond (ltb k e.0) ((k, v) ∷ e ∷ m) (e ∷ r))

  unfoldable pub del : ℕ → List (ℕ × A) → List (ℕ × A)
  del k [] = []
  del k (e ∷ m) = let r = del k m in cond (eqb k e.0) r (e ∷ r)

  unfoldable pub map_v : (ℕ → A → A) → List (ℕ × A) → List (ℕ × A)
  map_v f [] = []
  map_v f (e ∷ m) = (e.0, f e.0 e.1) ∷ map_v f m

  unfoldable pub keys : List (ℕ × A) → List ℕ
  keys [] = []
  keys (e ∷ m) = e.0 ∷ keys m

  -- those that pass, in their order
  unfoldable pub sift : (A → Bool) → List A → List A
  sift p [] = []
  sift p (x ∷ l) = let r = sift p l in cond (p x) (x ∷ r) r

  -- entries ascending by key, from lo on
  abbrev pub Asc : ℕ → List (ℕ × A) → Type 0
  Asc lo [] = Unit {0}
  Asc lo (e ∷ m) = (lo ≤ e.0) × Asc (suc e.0) m

-- ---- sets
unfoldable pub has : ℕ → List ℕ → Bool
has k [] = false
has k (x ∷ l) = eqb k x || has k l

unfoldable pub add : ℕ → List ℕ → List ℕ
add k [] = k ∷ []
add k (x ∷ l) = let r = add k l in cond (eqb k x) (x ∷ l) (cond (ltb k x) (k ∷ x ∷ l) (x ∷ r))

unfoldable pub cut : ℕ → List ℕ → List ℕ
cut k [] = []
cut k (x ∷ l) = let r = cut k l in cond (eqb k x) r (x ∷ r)

-- the first member that passes
unfoldable pub find : (ℕ → Bool) → List ℕ → Option ℕ
find p [] = none
find p (x ∷ l) = let r = find p l in cond (p x) (some x) r

-- members ascending, from lo on
abbrev pub AscL : ℕ → List ℕ → Type 0
AscL lo [] = Unit {0}
AscL lo (x ∷ l) = (lo ≤ x) × AscL (suc x) l
