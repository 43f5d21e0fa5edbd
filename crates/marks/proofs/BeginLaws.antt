-- What is kept of the keys before the marks: the old points have their status and place. Assumes nothing.
use Rattle.std.proofs.Common.{◌≡◌, ℕ, suc, ◌+◌, ◌%◌, ◌<◌, ◌≤◌, true, false, cond, eqb, ltb, List, [], ◌∷◌, length, get_or, set, sym, refl, ap, ◌∙◌, ⊎_elim, add-one, arith, length-set, le-ltb, lt-ltb, eq-eqb, ne_eqb}
use mathlib.Core.Option.{Option, none, some}
use Rattle.ieee.proofs.Tools.{lt_or_ge, not_both}
use Rattle.table.proofs.Front.{mix, mix_more, mix_whole}
use Rattle.model.specs.Corner.{number, zero4}
use Rattle.model.specs.Good.{bits_in, bits_of}
use Rattle.model.specs.Layer.{Point, Points}
use Rattle.model.specs.Maps.{Asc, AscL, get, has, is_some, keys}
use Rattle.model.proofs.MapLaws.{keys_has}
use Rattle.model.proofs.OrderLaws.{asc_get, asc_keys}
use Rattle.table.specs.Tables.{rank, stands}
use Rattle.table.proofs.LookLaws.{stands_has}
use Rattle.marks.specs.declared.mood.Mood.{Mood}
use Rattle.held.specs.Layers.{statuses_of}
use Rattle.marks.specs.Standing.{begun, mood, word, words}
use Rattle.marks.proofs.MoodLaws.{number_small}
use Rattle.marks.proofs.WordsLaws.{words_at, words_length}

-- the status at a point's place is the point's
status_at_lem : (lo k : ℕ) (ps : Points) → Asc lo ps → has k (keys ps) ≡ true → get_or (statuses_of ps) (rank k (keys ps)) 0 ≡ number (bits_in ps k)
unfolding keys has rank bits_in get
status_at_lem lo k [] a h = not_both h refl
status_at_lem lo k (e ∷ ps) a h = ⊎_elim (further (status_at_lem (suc e.0) k ps a.1)) here (lt_or_ge e.0 k)
  where
    Read : Type 0
    Read = get_or (number e.1.bits ∷ statuses_of ps) (cond (ltb e.0 k) (suc (rank k (keys ps))) 0) 0 ≡ number (bits_of (cond (eqb k e.0) (some e.1) (get k ps)))

    further : (has k (keys ps) ≡ true → get_or (statuses_of ps) (rank k (keys ps)) 0 ≡ number (bits_in ps k)) → e.0 < k → Read
    further ih l =
        let ne : eqb k e.0 ≡ false = ne_eqb k e.0 (λ z. omega arith) in
        let n : has k (keys ps) ≡ true = rw ne at h in
        rw (lt-ltb e.0 k l, ne) (ih n)

    here : k ≤ e.0 → Read
    here l =
        ⊎_elim
        (λ b.
        let n : has k (keys ps) ≡ true = rw (ne_eqb k e.0 (λ z. omega arith)) at h in
        not_both n (keys_has k ps ∙ ap is_some (asc_get (suc e.0) ps k a.1 (omega arith))))
        (λ b. rw (le-ltb e.0 k l, eq-eqb k e.0 (omega arith)) refl)
        (lt_or_ge k e.0)

none_of : (o : Option Point) → is_some o ≡ false → bits_of o ≡ zero4
none_of none h = refl
none_of (some p) h = not_both refl h

module _ (points statuses : List ℕ) (ps : Points) (e : points ≡ keys ps) (v : statuses ≡ statuses_of ps) (a : Asc 0 ps) (k at : ℕ) (p : AscL 0 points → at ≡ rank k points) where
  place : at ≡ rank k (keys ps)
  place = p (rw e (asc_keys 0 ps a)) ∙ ap (rank k) e

  holds : stands k at points ≡ has k (keys ps)
  holds = ap (stands k at) e ∙ stands_has k at (keys ps) (asc_keys 0 ps a) place

  pub begun_there : stands k at points ≡ true → ◌≡◌ {A = Mood} (record { status = get_or statuses at 0 % 16; old = at + 1; first = 0 }) (mood (begun ps k))
  unfolding begun
  begun_there h =
      let t : has k (keys ps) ≡ true = sym holds ∙ h in
      let s : get_or statuses at 0 ≡ number (bits_in ps k) = ap (λ (l : List ℕ). get_or l at 0) v ∙ ap (λ (i : ℕ). get_or (statuses_of ps) i 0) place ∙ status_at_lem 0 k ps a t in
      let b : get_or statuses at 0 % 16 ≡ number (bits_in ps k) = omega (arith, number_small (bits_in ps k)) in
      let o : at + 1 ≡ cond (has k (keys ps)) (suc (rank k (keys ps))) 0 = rw (t, place) (add-one (rank k (keys ps))) in
      λ i. record { status = b i; old = o i; first = 0 }

  pub begun_absent : stands k at points ≡ false → ◌≡◌ {A = Mood} (record { status = 0; old = 0; first = 0 }) (mood (begun ps k))
  unfolding begun bits_in number
  begun_absent h =
      let t : has k (keys ps) ≡ false = sym holds ∙ h in
      let b : 0 ≡ number (bits_of (get k ps)) = sym (ap number (none_of (get k ps) (sym (keys_has k ps) ∙ t))) in
      let o : 0 ≡ cond (has k (keys ps)) (suc (rank k (keys ps))) 0 = rw t refl in
      λ i. record { status = b i; old = o i; first = 0 }

-- ---- all keys: i of them have their word
abbrev Whole : List ℕ → List ℕ → List ℕ → List ℕ → List ℕ → ℕ → Type 0
Whole points statuses candidates m m' i = (ps : Points) → points ≡ keys ps → statuses ≡ statuses_of ps → Asc 0 ps → m' ≡ mix (words (begun ps) candidates) m i

pub record Begun (points statuses candidates m m' : List ℕ) (i : ℕ) : Type 0 where
  pub few : i ≤ length candidates
  pub room : length candidates ≡ length m
  pub long : length m' ≡ length m
  pub is : Whole points statuses candidates m m' i

module _ (points statuses candidates m m' : List ℕ) (i : ℕ) (b : Begun points statuses candidates m m' i) where
  pub begun_more : i < length candidates → (v : ℕ) → ((ps : Points) → points ≡ keys ps → statuses ≡ statuses_of ps → Asc 0 ps → v ≡ word (begun ps (get_or candidates i 0))) → Begun points statuses candidates m (set m' i v) (i + 1)
  begun_more h v w = record { few = omega arith; room = b.room; long = length-set m' i v ∙ b.long; is = after }
    where
      after : Whole points statuses candidates m (set m' i v) (i + 1)
      after ps e f a =
          let ws = words (begun ps) candidates in
          let lw : length ws ≡ length candidates = words_length (begun ps) candidates in
          let x : v ≡ get_or ws i 0 = w ps e f a ∙ sym (words_at (begun ps) candidates i h) in
          ap (set m' i) x ∙ ap (λ (l : List ℕ). set l i (get_or ws i 0)) (b.is ps e f a) ∙ mix_more ws m i 0 (omega arith) (omega (arith, b.room))

  pub begun_done : length candidates ≤ i → (ps : Points) → points ≡ keys ps → statuses ≡ statuses_of ps → Asc 0 ps → m' ≡ words (begun ps) candidates
  begun_done h ps e f a =
      let lw : length (words (begun ps) candidates) ≡ length candidates = words_length (begun ps) candidates in
      b.is ps e f a ∙ mix_whole (words (begun ps) candidates) m i (omega arith) (omega (arith, b.room))
