-- What the model's reading keeps from field to field: the fields are numbered in turn, a refusal has a number, and what is kept by openings and batches holds of a map that is read. Assumes nothing.
use Rattle.std.proofs.Common.{◌≡◌, ℕ, zero, suc, ◌+◌, ◌*◌, ◌/◌, Bool, true, false, cond, eqb, List, [], ◌∷◌, ◌++◌, length, take, drop, sym, refl, ap, ◌∙◌, subst, arith}
use lib.Ieee.{Float}
use borrow.Author.Tests.{eqb-false}
use Rattle.model.specs.Layer.{update}
use Rattle.model.specs.Map.{Entry, Map, Op, batch, changed, next}
use Rattle.model.specs.MapFile.{Expected, Reader, Reading, batches, begin, done, due, end, entries, entry_bytes, float64, more, one_field, onward, placed, radius, read_file, read_on, refused, size, sized, stopped, tagged, take_batch, take_end, take_radius, take_size, taken}
use Rattle.model.specs.Refusal.{bad_radius, bad_size, judge, nothing, opened, refusal, run, short, step, unless}
use Rattle.visibility.proofs.OpenLaws.{open_passes}
use Rattle.held.specs.Holds.{Tables}
use Rattle.held.specs.declared.map.Map as held
use Rattle.mapfile.specs.Files.{Ran}
use Rattle.mapfile.specs.Reads.{HoldsMap, HoldsReader}
use Rattle.mapfile.specs.declared.state.Reader as state

-- ---- what an accepted opening gives and every batch keeps
abbrev pub Fresh : (Map → Type 0) → Type 0
Fresh P = (c r : Float) → bad_size c ≡ false → bad_radius c r ≡ false → P (opened c r)

abbrev pub Stays : (Map → Type 0) → Type 0
Stays P = (l : List Entry) (M : Map) → P M → P (step (batch l) M)

-- what a reader has read of a map with P
abbrev pub Fit : (Map → Type 0) → Expected → Reader → Type 0
Fit P size R = Unit {0}
Fit P radius R = bad_size R.cell_size ≡ false
Fit P batches R = P R.map
Fit P end R = P R.map

-- the reading after the field f
abbrev pub Goes : (Map → Type 0) → ℕ → Reading → Type 0
Goes P f (more R b) = (R.field ≡ suc f) × Fit P R.expected R
Goes P f (refused k g) = k ≡ 0 → ⊥
Goes P f (done M) = P M

module _ (P : Map → Type 0) (fresh : Fresh P) (stays : Stays P) where
  -- ---- one field
  either : (f : ℕ) (s : Bool) (x y : Reading) → (s ≡ true → Goes P f x) → (s ≡ false → Goes P f y) → Goes P f (cond s x y)
  either f true x y h k = h refl
  either f false x y h k = k refl

  taken_goes : (e : Expected) (R : Reader) (t : ℕ) (v rest : List ℕ) → Fit P e R → Goes P R.field (taken e R t v rest)
  unfolding take_size take_radius take_batch
  taken_goes size R t v rest h = either R.field (bad_size (float64 v)) (refused 1 R.field) (more (onward R radius (float64 v) nothing) rest) (λ q z. omega arith) (λ q. (refl, q))
  taken_goes radius R t v rest h =
      let c = R.cell_size in
      let q = float64 v in
      either R.field (bad_radius c q) (refused 2 R.field) (more (onward R batches c (opened c q)) rest) (λ e z. omega arith) (λ e. (refl, fresh c q h e))
  taken_goes batches R t v rest h =
      let o = batch (entries (length v / entry_bytes) v) in
      let n = refusal o R.map in
      either R.field (eqb t 3) (take_batch R v rest) (take_end R rest)
      (λ e. either R.field (eqb n 0) (more (onward R batches R.cell_size (step o R.map)) rest) (refused n R.field) (λ q. (refl, stays (entries (length v / entry_bytes) v) R.map h)) (λ q. eqb-false n 0 q))
      (λ e. (refl, h))
  taken_goes end R t v rest h = λ z. omega arith

  sized_goes : (R : Reader) (t n : ℕ) (b : List ℕ) → Fit P R.expected R → Goes P R.field (sized R t n b)
  unfolding sized
  sized_goes R t n b h =
      either R.field (eqb (due t n b) 0) (taken R.expected R t (take n b) (drop n b)) (refused (due t n b) R.field)
      (λ q. taken_goes R.expected R t (take n b) (drop n b) h) (λ q. eqb-false (due t n b) 0 q)

  tagged_goes : (R : Reader) (t : ℕ) (b : List ℕ) → Fit P R.expected R → Goes P R.field (tagged R t b)
  tagged_goes R t [] h = λ z. omega arith
  tagged_goes R t (x ∷ []) h = λ z. omega arith
  tagged_goes R t (x ∷ y ∷ b) h = sized_goes R t (x * 256 + y) b h

  stopped_goes : (e : Expected) (R : Reader) → Fit P e R → Goes P R.field (stopped R e)
  stopped_goes size R h = λ z. omega arith
  stopped_goes radius R h = λ z. omega arith
  stopped_goes batches R h = λ z. omega arith
  stopped_goes end R h = h

  pub field_goes : (R : Reader) (b : List ℕ) → Fit P R.expected R → Goes P R.field (one_field R b)
  unfolding one_field
  field_goes R [] h = stopped_goes R.expected R h
  field_goes R (t ∷ b) h = either R.field (placed R.expected t) (tagged R t b) (refused 10 R.field) (λ q. tagged_goes R t b h) (λ q z. omega arith)

  -- ---- all fields
  on_goes : (n f : ℕ) (s : Reading) → Goes P f s → (g : ℕ) × Goes P g (read_on n s)
  unfolding read_on
  on_goes zero f s h = (f, h)
  on_goes (suc n) f (more R b) h = on_goes n R.field (one_field R b) (field_goes R b h.1)
  on_goes (suc n) f (refused k g) h = (f, h)
  on_goes (suc n) f (done M) h = (f, h)

  read_goes : (b : List ℕ) → (g : ℕ) × Goes P g (read_file b)
  unfolding read_file read_on
  read_goes b = on_goes (length b) 0 (one_field begin b) (field_goes begin b tt)

  pub read_keeps : (b : List ℕ) (M : Map) → read_file b ≡ done M → P M
  read_keeps b M e = let h = read_goes b in subst (Goes P h.0) e h.1

-- ---- nothing is asked of the map: what is left is said of the fields
abbrev pub Any : Map → Type 0
Any M = Unit {0}

held_fit : (e : Expected) (m : held.Map) (t : Tables) (R : Reader) → HoldsMap e m t R → Fit Any e R
held_fit size m t R h = tt
held_fit radius m t R h = h.1
held_fit batches m t R h = tt
held_fit end m t R h = tt

pub field_on : {r : state.Reader} {t : Tables} {R : Reader} → HoldsReader r t R → (b : List ℕ) → Goes Any R.field (one_field R b)
field_on {r} {t} {R} h b = field_goes Any (λ c r f g. tt) (λ l M h. tt) R b (held_fit R.expected r.map t R h.holds)

-- no file is refused with 0
pub read_numbered : (b : List ℕ) (n f : ℕ) → read_file b ≡ refused n f → n ≡ 0 → ⊥
read_numbered b n f e = let h = read_goes Any (λ c r f g. tt) (λ l M h. tt) b in subst (Goes Any h.0) e h.1

-- ---- good cell sizes and radii
abbrev pub Accepted : Map → Type 0
Accepted M = (bad_size M.size ≡ false) × (bad_radius M.size M.layer.radius ≡ false)

opened_accepted : Fresh Accepted
unfolding opened
opened_accepted c r f g = rw (← open_passes [] c r (unfold short in refl) f g) (f, g)

stepped_accepted : Stays Accepted
unfolding step next changed update
stepped_accepted l M h = go (judge [] (batch l) M (next (batch l) M))
  where
    go : (n : ℕ) → Accepted (unless n (next (batch l) M) M)
    go zero = h
    go (suc n) = h

pub read_accepted : (b : List ℕ) (M : Map) → read_file b ≡ done M → Accepted M
read_accepted = read_keeps Accepted opened_accepted stepped_accepted

-- ---- a file that is read to its end is an opening and a run of batches: what holds after every run holds of its map
run_on : (os ps : List Op) (M : Map) → run (os ++ ps) M ≡ run ps (run os M)
unfolding run
run_on [] ps M = refl
run_on (o ∷ os) ps M = run_on os ps (step o M)

opened_ran : Fresh Ran
unfolding run
opened_ran c r f g = (c, r, [], refl)

stepped_ran : Stays Ran
unfolding run
stepped_ran l M h = (h.0, h.1, h.2 ++ (batch l ∷ []), ap (step (batch l)) h.3 ∙ sym (run_on h.2 (batch l ∷ []) (opened h.0 h.1)))

pub read_ran : (b : List ℕ) (M : Map) → read_file b ≡ done M → Ran M
read_ran = read_keeps Ran opened_ran stepped_ran

-- and of what further calls make of it
pub ran_on : (os : List Op) (M : Map) → Ran M → Ran (run os M)
ran_on os M h = (h.0, h.1, h.2 ++ os, ap (run os) h.3 ∙ sym (run_on h.2 os (opened h.0 h.1)))
