-- A number put from its last digit to its first. Assumes nothing.
use Rattle.std.proofs.Common.{ℕ, ◌+◌, ◌/◌, ◌%◌, ◌^◌, ◌≤◌, ◌<◌, ◌≡◌, List, [], ◌∷◌, ◌++◌, length, set, refl, ap, ◌∙◌, ⊎_elim, append_assoc, arith, length-append, length-set}
use Rattle.ieee.proofs.Tools.{lt_or_ge}
use Rattle.model.specs.Listing.{decimal}
use Rattle.print.specs.Printed.{Put}
use Rattle.print.proofs.DecimalLaws.{decimal_more, decimal_one, length_most}
use Rattle.print.proofs.PutLaws.{put_before}

-- the last digit, and what comes before it: the digits of a tenth, or nothing
record Last (n : ℕ) : Type 0 where
  front : List ℕ
  is : decimal n ≡ front ++ (48 + n % 10) ∷ []
  more : 0 < length front → front ≡ decimal (n / 10)

last_digit : (n : ℕ) → Last n
last_digit n =
    ⊎_elim
    (λ h. let e : n % 10 ≡ n = omega arith in record { front = []; is = rw e (decimal_one n h); more = λ k. absurd (omega arith) })
    (λ h. record { front = decimal (n / 10); is = decimal_more n h; more = λ k. refl })
    (lt_or_ge n 10)

-- the digits from place i on are put; those before it are those of `rest`
pub record Numbering (n at end : ℕ) (t t' : List ℕ) (i rest : ℕ) : Type 0 where
  pub front : List ℕ
  pub tail : List ℕ
  pub all : decimal n ≡ front ++ tail
  pub place : i ≡ at + length front
  pub left : at < i → front ≡ decimal rest
  pub room : end ≤ length t
  pub long : length t' ≡ length t
  pub is : Put tail i end t t'

module _ {n at end i rest : ℕ} {t t' : List ℕ} (w : Numbering n at end t t' i rest) where
  pub numbering_more : (j : ℕ) → i ≡ j + 1 → at ≤ j → j < length t → Numbering n at end t (set t' j (48 + rest % 10)) j (rest / 10)
  numbering_more j f h k =
      let d : ℕ = 48 + rest % 10 in
      let p = last_digit rest in
      let e : w.front ≡ p.front ++ d ∷ [] = w.left (omega arith) ∙ p.is in
      let l : length w.front ≡ length p.front + 1 = ap length e ∙ length-append p.front (d ∷ []) in
      record {
        front = p.front;
        tail = d ∷ w.tail;
        all = w.all ∙ rw e (append_assoc p.front (d ∷ []) w.tail);
        place = omega (arith, w.place);
        left = λ q. p.more (omega (arith, w.place));
        room = w.room;
        long = length-set t' j d ∙ w.long;
        is = put_before d (rw f at w.is) k;
      }

  pub numbering_done : i ≤ at → Put (decimal n) at end t t'
  numbering_done h =
      let e = empty w.front (omega (arith, w.place)) in
      let f : i ≡ at = omega (arith, w.place) in
      rw (w.all, e, ← f) w.is
    where
      empty : (l : List ℕ) → length l ≡ 0 → l ≡ []
      empty [] h = refl
      empty (x ∷ l) h = absurd (omega arith)

-- a number of the code has at most 20 digits
pub few_digits : (n : ℕ) → n < 2 ^ 64 → length (decimal n) ≤ 20
few_digits n h = length_most 19 n (omega arith)
