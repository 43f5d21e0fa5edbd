-- Field 03: its entries as numbers, and a batch of them. Assumes nothing.
use Rattle.std.proofs.Common.{◌≡◌, ℕ, zero, suc, ◌/◌, ◌%◌, ◌≤◌, false, eqb, ltb, List, length, get_or, take, drop, replicate, ℤ, pos, sym, refl, ap, ◌∙◌, subst, ⊎_elim, arith, length-append, length-drop, length-take-le, take_at, ltb-false, ne_eqb, Ok, Err}
use Rattle.mapfile.specs.Fields.{Numbers, numbers_of}
use Rattle.mapfile.specs.declared.head.Expected.{Expected}
use Rattle.ieee.proofs.Tools.{lt_or_ge}
use Rattle.limits.specs.Batches.{entries, is_full, ragged}
use Rattle.limits.proofs.EntryLaws.{whole_is}
use Rattle.model.proofs.DueLaws.{or_parts}
use Rattle.model.specs.Map as map
use Rattle.model.specs.MapFile as model
use Rattle.model.specs.MapFile.{bad_flag, entry_bytes, take_batch}
use Rattle.model.specs.Refusal.{judge, refusal, short, step, unless}
use Rattle.visibility.specs.Change.{Changing, Lent, lent_needs}
use Rattle.held.specs.Holds.{Holds, Tables, needs}
use Rattle.visibility.specs.Told.{changed_told}
use Rattle.visibility.specs.declared.change.Change.{Change}
use Rattle.visibility.specs.declared.change.Changed.{Changed}
use Rattle.limits.specs.Refusals.{number}
use Rattle.limits.specs.declared.refusal.Refusal.{Refusal}
use Rattle.mapfile.specs.Reads.{HoldsReader, Took, refused_as}
use Rattle.mapfile.specs.Moves.{moved_on}
use Rattle.mapfile.specs.declared.state.Reader.{Reader}
use Rattle.mapfile.specs.declared.state.Reading.{Reading}
use Rattle.limits.proofs.RefusalLaws.{number_some}
use Rattle.mapfile.proofs.ErrLaws.{number_suc}
use Rattle.mapfile.proofs.TakeLaws.{holds_at, took_more, took_refused}

-- ---- the numbers of good entries are those entries
full_is : (n : ℕ) → n ≤ 1 → is_full (pos n) ≡ eqb n 1
full_is zero h = refl
full_is (suc zero) h = refl
full_is (suc (suc n)) h = absurd (omega arith)

entries_are : (n : ℕ) (b : List ℕ) → bad_flag n b ≡ false → entries (numbers_of n b) ≡ model.entries n b
unfolding numbers_of bad_flag model.entries
entries_are zero b h = refl
entries_are (suc n) b h =
    let p = or_parts (ltb 1 (get_or b 8 0)) (bad_flag n (drop entry_bytes b)) h in
    rw (full_is (get_or b 8 0) (ltb-false 1 (get_or b 8 0) p.0), entries_are n (drop entry_bytes b) p.1) refl

-- ---- the room for the numbers, and these at its front
abbrev pub zeros : List ℤ
zeros = replicate {A = ℤ} 768 (pos 0)

module _ (v : List ℕ) (n : ℕ) (t : List ℤ) (w : Numbers v n zeros t) (k : length t ≡ length zeros) where
  room : length zeros ≡ 768
  room = refl

  pub front : n ≤ length t
  front =
      let r = room in
      ⊎_elim (λ h. let e = (w.lacking h).0 in omega arith) (λ h. let e = (w.done h).0 in omega arith) (lt_or_ge (length zeros / 3) (length v / entry_bytes))

  pub front_long : n ≡ length (take n t)
  front_long = sym (length-take-le n t front)

  pub front_is : length v ≤ 2304 → bad_flag (length v / entry_bytes) v ≡ false → entries (take n t) ≡ model.entries (length v / entry_bytes) v
  front_is h f =
      let m = length v / 9 in
      let r = room in
      let i : m ≤ length zeros / 3 = omega arith in
      let d = w.done i in
      let l : length (numbers_of m v) ≡ n = omega (arith, d.0, simp (length-append, length-drop) at (ap length d.1)) in
      let e : take n t ≡ numbers_of m v = ap (take n) d.1 ∙ take_at (numbers_of m v) (drop n zeros) n l in
      ap entries e ∙ entries_are m v f

  -- three to an entry, or none
  pub front_whole : ragged (take n t) ≡ false
  front_whole =
      let r = room in
      let e : length (take n t) ≡ n = sym front_long in
      let h : n % 3 ≡ 0 = ⊎_elim (λ h. let e = (w.lacking h).0 in omega arith) (λ h. let e = (w.done h).0 in omega arith) (lt_or_ge (length zeros / 3) (length v / entry_bytes)) in
      whole_is (take n t) (omega (arith, e, h))

-- ---- the outputs that are lent have just their needs
abbrev pub lending : Tables → Lent
lending t = record { tables = t; confirmed = replicate {A = ℕ} 256 0; full = replicate {A = ℕ} 256 0; corners = replicate {A = ℕ} 2304 0; altered = replicate {A = ℕ} 2304 0 }

lending_short : (t : Tables) → short (lent_needs (lending t)) ≡ short (needs t)
unfolding short
lending_short t = refl

-- where the lent tables are long enough, their lengths decide nothing
enough : (lent : List (ℕ × ℕ)) → short lent ≡ false → (l : List map.Entry) (M : map.Map) → judge lent (map.batch l) M (map.next (map.batch l) M) ≡ refusal (map.batch l) M
unfolding judge refusal short
enough lent e l M = rw e refl

stepped : (o : map.Op) (M : map.Map) → refusal o M ≡ 0 → step o M ≡ map.next o M
unfolding refusal step
stepped o M z = ap (λ (n : ℕ). unless n (map.next o M) M) z

module _ (r : Reader) (v : List ℕ) (used : ℕ) (b : List ℤ) (t : Tables) (u : Lent) (whole : ragged b ≡ false) (is : entries b ≡ model.entries (length v / entry_bytes) v) where
  o : map.Op
  o = map.batch (model.entries (length v / entry_bytes) v)

  asked : (g : Changed) → Changing r.map b (lending t) u g → (R : model.Reader) → short (needs t) ≡ false → HoldsReader r t R → R.expected ≡ model.batches → g.refusal ≡ refusal o R.map
  unfolding o
  asked g w R s h x =
      w.refusal whole R.map (holds_at model.batches r t R h x) ∙ enough (lent_needs (lending t)) (lending_short t ∙ s) (entries b) R.map
      ∙ ap (λ (l : List map.Entry). refusal (map.batch l) R.map) is

  pub batch_refused : (n : Refusal) → Changing r.map b (lending t) u (changed_told (Err n)) → Took model.batches take_batch r v used t u.tables (refused_as n r)
  unfolding take_batch o
  batch_refused n w =
      took_refused model.batches take_batch r v used t u.tables n (let p = number_suc n in ap (λ (l : Lent). l.tables) (w.refused p.0 p.1).0)
      (λ R s h x rest. rw (← asked (changed_told (Err n)) w R s h x, ne_eqb (number n) 0 (number_some n)) refl)

  pub batch_taken : (g : Change) → Changing r.map b (lending t) u (changed_told (Ok g)) → (n : Reader) → n ≡ moved_on r Expected.Batches r.size g.map → Took model.batches take_batch r v used t u.tables (Ok (Reading.More n used))
  unfolding take_batch o
  batch_taken g w n p =
      rw p (took_more model.batches take_batch r v used t u.tables Expected.Batches r.size g.map
      (λ R s h x rest.
      let k : refusal o R.map ≡ 0 = sym (asked (changed_told (Ok g)) w R s h x) in
      let d = w.done R.map (holds_at model.batches r t R h x) refl in
      record {
        map = step o R.map;
        is = rw (k, h.size) refl;
        holds = rw (stepped o R.map k) (subst (λ (l : List map.Entry). Holds g.map u.tables (map.next (map.batch l) R.map)) is d.holds);
        left = d.behind;
      }))
