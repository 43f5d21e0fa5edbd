-- A refusal, and what was found, as one number; any two such answers that the contract permits are equal. Assumes nothing.
use Prim.Native.Nat.{ℕ, zero, suc, ◌<◌}
use native.Mathlib.Nat.{suc-ne-zero}
use mathlib.Core.Path.{◌≡◌, refl, sym, ap, ◌∙◌}
use mathlib.Core.Bool.{true}
use mathlib.Core.List.{List}
use mathlib.Core.Logic.{◌⊎◌, ⊎_elim}
use mathlib.Core.Option.{Option, none, some}
use Rattle.std.specs.Prelude as std
use Rattle.std.specs.Prelude.{Some, None}
use lib.ListN.{length, take}
use lib.Ieee.{Float}
use Rattle.model.specs.Good.{Inside}
use Rattle.model.specs.Limits.{max_coordinate}
use Rattle.model.specs.Maps.{AscL}
use Rattle.model.specs.Refusal.{bad_question}
use Rattle.model.specs.Shape.{Question, ask}
use Rattle.table.specs.Tables.{All}
use Rattle.limits.specs.Floor.{Holds}
use Rattle.question.specs.Ask.{refuse_ask, refuse_floor}
use Rattle.question.specs.Numbered.{bad_numbered}
use Rattle.question.specs.declared.search.Question as code
use Rattle.question.specs.Question.{asked}
use Rattle.question.specs.Walk.{found_as, keyed}
use Rattle.question.specs.declared.search.Found.{Found}
use Rattle.question.proofs.AskLaws.{ask_short, search_told}
use Rattle.grid_c.specs.Told.{Telling, Tells, key_or}

key_of : (o : Option ℕ) → (keyed o).key ≡ key_or o
key_of none = refl
key_of (some k) = refl

module _ (t : List ℕ) (c : Float) (n : ℕ) (q : Question) where
  abbrev due : ℕ
  due = refuse_ask (length t) c n q

  pub told_refused : (m : ℕ) → (m ≡ 0 → ⊥) → m ≡ due → Telling t c n q m
  told_refused m z e = record { refused = λ k f. e ∙ f; answer = λ C h f. absurd (z (e ∙ f)) }

  pub told_found : (o : Found) → 0 ≡ due → (AscL 0 (take n t) → All (Inside max_coordinate) (take n t) → o ≡ found_as (ask c (take n t) q)) → Telling t c n q o.key
  told_found o e f =
      record { refused = λ k g. absurd (suc-ne-zero _ (sym (e ∙ g))); answer = λ C h z. ap (λ (v : Found). v.key) (search_told c t n q o f C h) ∙ key_of (ask c C q).cell }

  told_one : (r₁ r₂ : ℕ) → Telling t c n q r₁ → Telling t c n q r₂ → ((C : List ℕ) × Holds t n C) ⊎ (due ≡ 0 → ⊥) → r₁ ≡ r₂
  told_one r₁ r₂ x y s = go due refl
    where
      go : (m : ℕ) → due ≡ m → r₁ ≡ r₂
      go zero e = ⊎_elim (λ h. x.answer h.0 h.1 e ∙ sym (y.answer h.0 h.1 e)) (λ f. absurd (f e)) s
      go (suc m) e = x.refused m e ∙ sym (y.refused m e)

-- of a floor that holds its cells; and of every refused call, whatever the table holds
pub floor_ask_one : (t : List ℕ) (c : Float) (n : ℕ) (q : std.Option code.Question) (r₁ r₂ : ℕ) → Tells t c n q r₁ → Tells t c n q r₂ → ((C : List ℕ) × Holds t n C) ⊎ (refuse_floor (length t) c n (bad_numbered q) ≡ 0 → ⊥) → r₁ ≡ r₂
floor_ask_one t c n None r₁ r₂ x y s = x ∙ sym y
floor_ask_one t c n (Some q) r₁ r₂ x y s = told_one t c n (asked q) r₁ r₂ x y s

-- a short table is told by 9, whatever it holds
pub floor_ask_short : (t : List ℕ) (c : Float) (n : ℕ) (q : std.Option code.Question) (r : ℕ) → length t < 1024 → Tells t c n q r → r ≡ 9
floor_ask_short t c n None r h x = x ∙ sym (ask_short (length t) c n true h)
floor_ask_short t c n (Some q) r h x = x.refused 8 (sym (ask_short (length t) c n (bad_question (asked q)) h))
