-- What a printer writes, one text after another. Assumes nothing.
use Rattle.std.proofs.Common.{ℕ, ◌+◌, ◌≤◌, ◌≡◌, Bool, List, ◌++◌, length, sym, subst, ◌∙◌}
use Rattle.print.specs.Printed.{Printed, Put}
use Rattle.print.specs.Printers.{Wrote}
use Rattle.print.specs.declared.printer.Printer.{Printer}
use Rattle.print.proofs.PutLaws.{put_then, put_three}

module _ {s u : List ℕ} {m n : ℕ} {p p' p'' : Printer} (a : Wrote s m p p') (b : Wrote u n p' p'') where
  -- the same, as another text
  pub wrote_as : (v : List ℕ) (k : ℕ) → Put v p.at p''.at p.out.now p''.out.now → p''.at ≤ p.at + k → Wrote v k p p''
  wrote_as v k put few = record { put = put; few = few; long = b.long ∙ a.long; same = b.same ∙ a.same }

  pub wrote_then : (k : ℕ) → p.at ≤ length p.out.now → p''.at ≤ p.at + k → Wrote (s ++ u) k p p''
  wrote_then k h few = wrote_as (s ++ u) k (put_then a.put h b.put) few

  pub wrote_three : {v : List ℕ} {l : ℕ} {q : Printer} (k : ℕ) → Wrote v l p'' q → p.at ≤ length p.out.now → q.at ≤ p.at + k → Wrote (s ++ u ++ v) k p q
  wrote_three k c h few =
      record { put = put_three h a.put b.put c.put; few = few; long = c.long ∙ b.long ∙ a.long; same = c.same ∙ b.same ∙ a.same }

-- the buffer as it is left is the printer's
pub printed_in : {roomy : Bool} {room at r : ℕ} {s t t' t'' : List ℕ} → Printed roomy room s at r t t'' → t' ≡ t'' → Printed roomy room s at r t t'
printed_in {roomy} {room} {at} {r} {s} {t} p e = subst (Printed roomy room s at r t) (sym e) p
