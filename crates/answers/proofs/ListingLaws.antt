-- A list that a call writes, or refuses to write; and that two such calls agree. Assumes nothing.
use Prim.Native.Nat.{ℕ, zero, suc}
use native.Mathlib.Nat.{suc-ne-zero}
use mathlib.Core.Path.{◌≡◌, refl, sym, ap, subst, ◌∙◌}
use mathlib.Core.List.{List, [], ◌∷◌}
use mathlib.Core.Logic.{◌⊎◌, ⊎_elim}
use lib.ListN.{length}
use Rattle.model.specs.Map as model
use Rattle.answers.specs.Asking.{Listing, Output, Untouched, Written, refused_with}
use Rattle.answers.specs.Told.{counted}
use Rattle.answers.specs.declared.judge.Count.{Count}
use Rattle.limits.proofs.RefusalLaws.{number_some}
use Rattle.limits.specs.Refusals.{number}
use Rattle.limits.specs.declared.refusal.Refusal.{Refusal}
use Rattle.std.specs.Prelude.{Result, Ok, Err}
use Rattle.std.specs.Result.{IsErrAnd}

-- ---- one call
module _ (n : ℕ) (Hold : model.Map → Type 0) (os : List Output) where
  -- the call returned with the refusal e
  pub listing_refused : (r : Result ℕ Refusal) (e : Refusal) → IsErrAnd r (λ x. x ≡ e) → number e ≡ n → Untouched os → Listing n Hold os (counted r)
  listing_refused (Ok a) e i q u = absurd i
  listing_refused (Err x) e i q u =
      let z : number x ≡ n = ap number i ∙ q in
      record { refusal = z; refused = λ j g. (ap refused_with (z ∙ g), u); answer = λ M h y. absurd (number_some x (z ∙ y)) }

  pub listing_done : (r : ℕ) → 0 ≡ n → ((M : model.Map) → Hold M → Written M r os) → Listing n Hold os (counted (Ok r))
  listing_done r q w = record { refusal = q; refused = λ j g. absurd (suc-ne-zero j (sym (q ∙ g))); answer = λ M h y. w M h }

-- ---- two outcomes of one call
-- the same was lent, and the same is wanted
abbrev pub Alike : List Output → List Output → Type 0
Alike [] [] = Unit {0}
Alike [] (p ∷ ps) = ⊥
Alike (o ∷ os) [] = ⊥
Alike (o ∷ os) (p ∷ ps) = (o.was ≡ p.was) × (o.wanted ≡ p.wanted) × Alike os ps

abbrev pub Equal : List Output → List Output → Type 0
Equal [] [] = Unit {0}
Equal [] (p ∷ ps) = ⊥
Equal (o ∷ os) [] = ⊥
Equal (o ∷ os) (p ∷ ps) = (o.is ≡ p.is) × Equal os ps

untouched_one : (os ps : List Output) → Alike os ps → Untouched os → Untouched ps → Equal os ps
untouched_one [] [] a u v = tt
untouched_one [] (p ∷ ps) a u v = a
untouched_one (o ∷ os) [] a u v = a
untouched_one (o ∷ os) (p ∷ ps) a u v = (u.0 ∙ a.0 ∙ sym v.0, untouched_one os ps a.2 u.1 v.1)

written_one : (M : model.Map) (n : ℕ) (os ps : List Output) → Alike os ps → Written M n os → Written M n ps → Equal os ps
written_one M n [] [] a u v = tt
written_one M n [] (p ∷ ps) a u v = a
written_one M n (o ∷ os) [] a u v = a
written_one M n (o ∷ os) (p ∷ ps) a u v = (u.1 ∙ rw (a.0, a.1) refl ∙ sym v.1, written_one M n os ps a.2 u.2 v.2)

same_count : (r q : Count) → r.refusal ≡ q.refusal → r.count ≡ q.count → r ≡ q
same_count r q a b = rw (a, b) refl

-- any two outcomes that a listing's contract permits are equal, of a map that is held
module _ (n : ℕ) (Hold : model.Map → Type 0) (o p : Output) (os ps : List Output) (r q : Count) (a : Alike (o ∷ os) (p ∷ ps)) where
  listing_one : Listing n Hold (o ∷ os) r → Listing n Hold (p ∷ ps) q → (M : model.Map) → Hold M → (r ≡ q) × Equal (o ∷ os) (p ∷ ps)
  listing_one x y M h = go n refl
    where
      go : (k : ℕ) → n ≡ k → (r ≡ q) × Equal (o ∷ os) (p ∷ ps)
      go zero e =
          let u = x.answer M h e in
          let v = y.answer M h e in
          let c : r.count ≡ q.count = u.0 ∙ ap (λ (w : model.Map → List ℕ). length (w M)) a.1 ∙ sym v.0 in
          (same_count r q (x.refusal ∙ sym y.refusal) c, written_one M r.count (o ∷ os) (p ∷ ps) a u (subst (λ (z : ℕ). Written M z (p ∷ ps)) (sym c) v))
      go (suc k) e = ((x.refused k e).0 ∙ sym (y.refused k e).0, untouched_one (o ∷ os) (p ∷ ps) a (x.refused k e).1 (y.refused k e).1)

  -- where it is refused, whatever the tables hold
  refused_one : Listing n Hold (o ∷ os) r → Listing n Hold (p ∷ ps) q → (k : ℕ) → n ≡ suc k → (r ≡ q) × Equal (o ∷ os) (p ∷ ps)
  refused_one x y k e = ((x.refused k e).0 ∙ sym (y.refused k e).0, untouched_one (o ∷ os) (p ∷ ps) a (x.refused k e).1 (y.refused k e).1)

-- ---- both cases in one
-- the tables hold a map, or the refusal n is due
abbrev pub Settled : ℕ → (model.Map → Type 0) → Type 0
Settled n Hold = ((M : model.Map) × Hold M) ⊎ ((k : ℕ) × (n ≡ suc k))

module _ (n : ℕ) (Hold : model.Map → Type 0) where
  pub list_one : (o p : Output) (os ps : List Output) (r q : Count) → Alike (o ∷ os) (p ∷ ps) → Listing n Hold (o ∷ os) r → Listing n Hold (p ∷ ps) q → Settled n Hold → (r ≡ q) × Equal (o ∷ os) (p ∷ ps)
  list_one o p os ps r q a u v = ⊎_elim (λ h. listing_one n Hold o p os ps r q a u v h.0 h.1) (λ k. refused_one n Hold o p os ps r q a u v k.0 k.1)

  -- two that agree where n is a refusal, and where it is none
  pub settled_one : {A : Type 0} (r q : A) → ((k : ℕ) → n ≡ suc k → r ≡ q) → ((M : model.Map) → Hold M → n ≡ 0 → r ≡ q) → Settled n Hold → r ≡ q
  settled_one {A} r q f g = ⊎_elim (λ h. go h.0 h.1 n refl) (λ k. f k.0 k.1)
    where
      go : (M : model.Map) → Hold M → (k : ℕ) → n ≡ k → r ≡ q
      go M h zero e = g M h e
      go M h (suc k) e = f k e
