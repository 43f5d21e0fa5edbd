-- However a file is cut into windows, reading it field by field gives the model's reading of the whole. Assumes nothing.
use Rattle.std.proofs.Common.{◌≡◌, ℕ, zero, suc, ◌<◌, List, [], ◌++◌, length, sym, refl, ap, ◌∙◌, subst, ⊎_elim, append_assoc, append-nil, not-suc-le-zero, arith}
use Rattle.model.specs.Map.{Map}
use Rattle.model.specs.MapFile.{Reader, Reading, begin, done, more, one_field, read_file, read_on, refused}
use Rattle.model.proofs.FileLaws.{Shorter, field_shorter}
use Rattle.mapfile.specs.Windows.{Reads, Wide, extend, fill, stop_done, stop_refused, take}
use Rattle.mapfile.proofs.ByteLaws.{field_window}

-- ---- turns that are more than enough change nothing
refused_stays : (n k f : ℕ) → read_on n (refused k f) ≡ refused k f
unfolding read_on
refused_stays zero k f = refl
refused_stays (suc n) k f = refl

done_stays : (n : ℕ) (M : Map) → read_on n (done M) ≡ done M
unfolding read_on
done_stays zero M = refl
done_stays (suc n) M = refl

enough : (n m : ℕ) (s : Reading) → Shorter n s → Shorter m s → read_on n s ≡ read_on m s
unfolding read_on
enough zero m (more R b) h k = absurd (not-suc-le-zero h)
enough zero m (refused k f) h i = sym (refused_stays m k f)
enough zero m (done M) h k = sym (done_stays m M)
enough (suc n) zero (more R b) h k = absurd (not-suc-le-zero k)
enough (suc n) zero (refused k f) h i = refl
enough (suc n) zero (done M) h k = refl
enough (suc n) (suc m) (more R b) h k = enough n m (one_field R b) (field_shorter R b n h) (field_shorter R b m k)
enough (suc n) (suc m) (refused k f) h i = refl
enough (suc n) (suc m) (done M) h k = refl

pub read_on_lem : (n : ℕ) (R : Reader) (b : List ℕ) → length b < n → read_on n (more R b) ≡ read_on (suc (length b)) (more R b)
read_on_lem n R b h = enough n (suc (length b)) (more R b) h (omega arith)

-- the reading of all bytes b from the reader R on
abbrev pub read_all : Reader → List ℕ → Reading
read_all R b = read_on (suc (length b)) (more R b)

-- ---- one field of the whole
module _ (R : Reader) (b : List ℕ) where
  -- on from what the first field leaves
  pub first_more : (R' : Reader) (b' : List ℕ) → one_field R b ≡ more R' b' → read_all R b ≡ read_all R' b'
  unfolding read_on
  first_more R' b' e =
      let l : length b' < length b = subst (Shorter (length b)) e (field_shorter R b (length b) (omega arith)) in
      ap (read_on (length b)) e ∙ read_on_lem (length b) R' b' l

  pub first_refused : (k f : ℕ) → one_field R b ≡ refused k f → read_all R b ≡ refused k f
  unfolding read_on
  first_refused k f e = ap (read_on (length b)) e ∙ refused_stays (length b) k f

  pub first_done : (M : Map) → one_field R b ≡ done M → read_all R b ≡ done M
  unfolding read_on
  first_done M e = ap (read_on (length b)) e ∙ done_stays (length b) M

-- ---- windows
extend_none : (s : Reading) → extend [] s ≡ s
extend_none (more R b) = ap (more R) (append-nil b)
extend_none (refused k f) = refl
extend_none (done M) = refl

-- a field of the window is one of the whole
pub wide_field : (R : Reader) (w rest : List ℕ) → Wide w rest → one_field R (w ++ rest) ≡ extend rest (one_field R w)
wide_field R w rest =
    ⊎_elim (λ h. field_window R w rest h)
    (λ e. subst (λ (r : List ℕ). one_field R (w ++ r) ≡ extend r (one_field R w)) (sym e) (ap (one_field R) (append-nil w) ∙ sym (extend_none (one_field R w))))

pub windows_on : {R : Reader} {w rest : List ℕ} {s : Reading} → Reads R w rest s → s ≡ read_all R (w ++ rest)
windows_on {R} {w} (fill a {rest} h) = windows_on h ∙ ap (read_all R) (append_assoc w a rest)
windows_on {R} {w} {rest} (take {R' = R'} {w' = w'} v e h) =
    windows_on h ∙ sym (first_more R (w ++ rest) R' (w' ++ rest) (wide_field R w rest v ∙ ap (extend rest) e))
windows_on {R} {w} {rest} (stop_refused {n = n} {f = f} v e) =
    sym (first_refused R (w ++ rest) n f (wide_field R w rest v ∙ ap (extend rest) e))
windows_on {R} {w} {rest} (stop_done {M = M} v e) = sym (first_done R (w ++ rest) M (wide_field R w rest v ∙ ap (extend rest) e))

pub windows_read : (b : List ℕ) (s : Reading) → Reads begin [] b s → s ≡ read_file b
unfolding read_file
windows_read b s h = windows_on h
