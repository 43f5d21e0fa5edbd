-- Text put into a list: one entry, one text after another, one entry before what is put. Assumes nothing.
use Prim.Native.Nat.{ℕ, ◌+◌, ◌≤◌, ◌<◌}
use native.Mathlib.Numerals.{add-one}
use native.Mathlib.Omega.{arith}
use mathlib.Core.Path.{◌≡◌, sym, ap, ◌∙◌}
use mathlib.Core.List.{List, [], ◌∷◌, ◌++◌, append_assoc, append-nil}
use lib.ListN.{drop, length, length-append, length-drop, length-take, set, take, take-append-drop}
use lib.Seq.{drop_at, drop-drop, length-take-le, set-append_left, take_at, take-set-lt, take-suc-set}
use Rattle.print.specs.Printed.{Put}

pub put_none : (a : ℕ) (t : List ℕ) → Put [] a a t t
put_none a t = record { end = omega arith; is = rw append-nil (sym (take-append-drop a t)) }

-- what is put keeps the length
pub put_long : {s t t' : List ℕ} {a b : ℕ} → Put s a b t t' → b ≤ length t → length t' ≡ length t
put_long p h = ap length p.is ∙ simp (length-append, length-take, length-drop) (let e = p.end in omega arith)

module _ {s t t' : List ℕ} {a b : ℕ} (p : Put s a b t t') (h : a ≤ length t) where
  front_long : length (take a t ++ s) ≡ b
  front_long = simp (length-append, length-take-le a t h) (sym p.end)

  -- one text after another
  pub put_then : {u t'' : List ℕ} {c : ℕ} → Put u b c t' t'' → Put (s ++ u) a c t t''
  put_then {u} {t''} {c} q =
      let x : take b t' ≡ take a t ++ s = ap (take b) p.is ∙ take_at (take a t ++ s) (drop b t) b front_long in
      let y : drop b t' ≡ drop b t = ap (drop b) p.is ∙ drop_at (take a t ++ s) (drop b t) b front_long in
      let k : ℕ = length u in
      let z : drop c t' ≡ drop c t = rw q.end (sym (drop-drop k b t') ∙ ap (drop k) y ∙ drop-drop k b t) in
      record { end = simp length-append (omega (arith, p.end, q.end)); is = q.is ∙ rw (x, z) (ap (λ (l : List ℕ). l ++ drop c t) (append_assoc (take a t) s u)) }

  -- the same where the second text has two parts, or three
  pub put_both : (u v : List ℕ) {t'' : List ℕ} {c : ℕ} → Put (u ++ v) b c t' t'' → Put (s ++ u ++ v) a c t t''
  put_both u v q = rw (append_assoc s u v) (put_then q)

  pub put_all : (u v w : List ℕ) {t'' : List ℕ} {c : ℕ} → Put (u ++ v ++ w) b c t' t'' → Put (s ++ u ++ v ++ w) a c t t''
  put_all u v w q = rw (append_assoc s u v, append_assoc s (u ++ v) w) (put_then q)

-- three texts
pub put_three : {s u v t t' t'' t''' : List ℕ} {a b c d : ℕ} → a ≤ length t → Put s a b t t' → Put u b c t' t'' → Put v c d t'' t''' → Put (s ++ u ++ v) a d t t'''
put_three h p q r = put_then (put_then p h q) h r

-- one entry before what is put
pub put_before : {s t t' : List ℕ} {a b : ℕ} (x : ℕ) → Put s (a + 1) b t t' → a < length t → Put (x ∷ s) a b t (set t' a x)
put_before {s} {t} {t'} {a} {b} x p h =
    let e : t' ≡ take (a + 1) t ++ (s ++ drop b t) = p.is ∙ append_assoc (take (a + 1) t) s (drop b t) in
    let l : a < length (take (a + 1) t) = simp length-take (omega arith) in
    let f : set (take (a + 1) t) a x ≡ take a t ++ (x ∷ []) = sym (take-set-lt (a + 1) t a x (omega arith)) ∙ rw (add-one a) (take-suc-set t a x h) in
    record {
      end = let q = p.end in omega arith;
      is = ap (λ (m : List ℕ). set m a x) e ∙ set-append_left (take (a + 1) t) (s ++ drop b t) a x l ∙ rw f (append_assoc (take a t) (x ∷ []) (s ++ drop b t) ∙ sym (append_assoc (take a t) (x ∷ s) (drop b t)));
    }
