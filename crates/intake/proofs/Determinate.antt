-- What comes is open. Of the same bytes, however they are cut into windows, any two outcomes that the contracts of `read_map` and `list_input` permit are equal. Assumes nothing.
use Prim.Native.Nat.{ℕ, suc, ◌+◌, ◌^◌, ◌≤◌, ◌<◌}
use native.Mathlib.Nat.{suc-ne-zero}
use native.Mathlib.Omega.{arith}
use mathlib.Core.Path.{◌≡◌, refl, sym, ap, ◌∙◌, subst}
use mathlib.Core.Logic.{inr}
use mathlib.Core.Bool.{Bool, true, false}
use mathlib.Core.List.{List, ◌++◌, append_assoc}
use lib.ListN.{drop, length, length-append, length-drop}
use lib.Seq.{drop-append-le}
use Rattle.mapfile.proofs.WindowLaws.{wide_field}
use Rattle.mapfile.specs.Windows.{Wide, extend}
use Rattle.report.proofs.Determinate.{list_file_one}
use Rattle.mapfile.proofs.ReadingLaws.{Any, Goes, field_on}
use Rattle.report.specs.Filed.{Listed}
use Rattle.held.specs.Holds.{Tables, needs}
use Rattle.held.specs.declared.map.Map.{Map}
use Rattle.mapfile.proofs.Determinate.{field_one}
use Rattle.mapfile.specs.Feeds.{Feeds, fill, last, on, stop}
use Rattle.mapfile.specs.Reads.{FieldRead, HoldsReader, Says}
use Rattle.model.specs.MapFile as model
use Rattle.model.specs.MapFile.{one_field}
use Rattle.model.specs.Refusal.{short}
use Rattle.mapfile.specs.Moves.{begun}
use Rattle.mapfile.specs.declared.state.Reader.{Reader}
use Rattle.mapfile.specs.declared.state.Reading.{Reading}
use Rattle.intake.specs.Taken.{Came, Taken, lent}
use Rattle.intake.specs.declared.input.InputError.{InputError}
use Rattle.intake.specs.declared.listing.ListError.{ListError}
use Rattle.intake.proofs.ShownLaws.{shown_list}
use Rattle.limits.proofs.RefusalLaws.{number_one, number_some}
use Rattle.answers.specs.Told.{counted}
use Rattle.answers.specs.declared.judge.Count.{Count}
use Rattle.limits.specs.declared.refusal.Refusal.{Refusal}
use Rattle.mapfile.specs.declared.state.FileRefusal.{FileRefusal}
use Rattle.std.proofs.Common.{Result, Ok, Err}

-- ---- a field of a wide window is one of all bytes that are left
said_whole : (a : Result Reading FileRefusal) (w rest : List ℕ) (t : Tables) (s : model.Reading) → ((r : Reader) (u : ℕ) → a ≡ Ok (Reading.More r u) → u ≤ length w) → Says a w t s → Says a (w ++ rest) t (extend rest s)
said_whole (Ok (Reading.More r u)) w rest t s h x = (x.0, ap (extend rest) x.1 ∙ ap (model.more x.0) (sym (drop-append-le u w rest (h r u refl))), x.2)
said_whole (Err e) w rest t s h x = ap (extend rest) x
said_whole (Ok (Reading.Done m)) w rest t s h x = (x.0, ap (extend rest) x.1, x.2)

field_whole : {r : Reader} {w : List ℕ} (rest : List ℕ) {t t' : Tables} {a : Result Reading FileRefusal} → Wide w rest → FieldRead r w t t' a → FieldRead r (w ++ rest) t t' a
field_whole {w = w} rest {t' = t'} {a = a} v x =
    record {
      lacking = x.lacking;
      reads = λ s R h l.
          let p = x.reads s R h l in
          (subst (Says a (w ++ rest) t') (sym (wide_field R w rest v)) (said_whole a w rest t' (one_field R w) (λ r u e. (x.within r u e).1) p.0), p.1);
      refused = x.refused;
      within = λ r u e. let y = x.within r u e in let l = length-append w rest in (y.0, omega arith);
    }

-- ---- runs with no windows
data Runs : Reader → Tables → List ℕ → Result Map FileRefusal → Tables → Type 0 where
  next : {r : Reader} {t : Tables} {b : List ℕ} {r' : Reader} {used : ℕ} {t' : Tables} {a : Result Map FileRefusal} {t'' : Tables} → FieldRead r b t t' (Ok (Reading.More r' used)) → Runs r' t' (drop used b) a t'' → Runs r t b a t''
  end : {r : Reader} {t : Tables} {b : List ℕ} {a : Result Map FileRefusal} {t' : Tables} → FieldRead r b t t' (last a) → Runs r t b a t'

feeds_runs : {r : Reader} {t : Tables} {w rest : List ℕ} {a : Result Map FileRefusal} {t'' : Tables} → Feeds r t w rest a t'' → Runs r t (w ++ rest) a t''
feeds_runs {r} {t} {w} {a = a} {t'' = t''} (fill more {rest} f) = subst (λ (b : List ℕ). Runs r t b a t'') (append_assoc w more rest) (feeds_runs f)
feeds_runs {w = w} {rest = rest} {a = a} {t'' = t''} (on {r' = r'} {used = used} {t' = t'} v x f) =
    next (field_whole rest v x) (subst (λ (b : List ℕ). Runs r' t' b a t'') (sym (drop-append-le used w rest (x.within r' used refl).1)) (feeds_runs f))
feeds_runs {rest = rest} (stop v x) = end (field_whole rest v x)

-- an answer that is the last, and one that is not
abbrev ends : Result Reading FileRefusal → ℕ
ends (Ok (Reading.More r used)) = 0
ends (Ok (Reading.Done m)) = 1
ends (Err x) = 1

last_ends : (a : Result Map FileRefusal) → ends (last a) ≡ 1
last_ends (Ok m) = refl
last_ends (Err x) = refl

last_one : (a c : Result Map FileRefusal) → last a ≡ last c → a ≡ c
last_one (Ok m) (Ok n) e = let k : m ≡ n = cc in ap Ok k
last_one (Ok m) (Err x) e = absurd (suc-ne-zero 0 (let z : ◌≡◌ {A = ℕ} 1 0 = cc in z))
last_one (Err x) (Ok m) e = absurd (suc-ne-zero 0 (let z : ◌≡◌ {A = ℕ} 1 0 = cc in z))
last_one (Err x) (Err y) e = let k : x ≡ y = cc in ap Err k

-- ---- the model's reader, whose fields have numbers to the end of the bytes
record Held (r : Reader) (t : Tables) (b : List ℕ) : Type 0 where
  reader : model.Reader
  holds : HoldsReader r t reader
  few : suc reader.field + length b < 2 ^ 64

module _ {r : Reader} {t : Tables} {b : List ℕ} (h : Held r t b) where
  small : suc h.reader.field < 2 ^ 64
  small = let l = h.few in omega arith

  same_field : {t₁ t₂ : Tables} (a c : Result Reading FileRefusal) → FieldRead r b t t₁ a → FieldRead r b t t₂ c → (a ≡ c) × (t₁ ≡ t₂)
  same_field {t₁} {t₂} a c x y = field_one r b t t₁ t₂ a c x y (inr (h.reader, h.holds, small))

  -- it goes on where a field was taken
  on_held : (r' : Reader) (used : ℕ) (t' : Tables) → FieldRead r b t t' (Ok (Reading.More r' used)) → Held r' t' (drop used b)
  on_held r' used t' x = go (short (needs t)) refl
    where
      go : (z : Bool) → short (needs t) ≡ z → Held r' t' (drop used b)
      go true s = absurd (suc-ne-zero 0 (sym (ap ends (x.lacking s).0)))
      go false s =
          let p = (x.reads s h.reader h.holds small).0 in
          let g : Goes Any h.reader.field (model.more p.0 (drop used b)) = subst (Goes Any h.reader.field) p.1 (field_on h.holds b) in
          record {
            reader = p.0;
            holds = p.2;
            few = let l = h.few in let d = length-drop used b in let w = x.within r' used refl in let k = g.0 in omega arith;
          }

same_next : (b : List ℕ) (r r₂ : Reader) (u u₂ : ℕ) (t t₂ : Tables) (c : Result Map FileRefusal) (t'' : Tables) → ◌≡◌ {A = Result Reading FileRefusal} (Ok (Reading.More r u)) (Ok (Reading.More r₂ u₂)) → t ≡ t₂
    → Runs r₂ t₂ (drop u₂ b) c t'' → Runs r t (drop u b) c t''
same_next b r r₂ u u₂ t t₂ c t'' e f g =
    let p : r ≡ r₂ = cc in
    let q : u ≡ u₂ = cc in
    rw (p, q, f) g

not_last : {r : Reader} {u : ℕ} (a : Result Map FileRefusal) → Ok (Reading.More r u) ≡ last a → ⊥
not_last a e = suc-ne-zero 0 (sym (ap ends e ∙ last_ends a))

runs_one : {r : Reader} {t : Tables} {b : List ℕ} {a c : Result Map FileRefusal} {t₁ t₂ : Tables} → Held r t b → Runs r t b a t₁ → Runs r t b c t₂ → (a ≡ c) × (t₁ ≡ t₂)
runs_one {b = b} {c = c} {t₂ = t₂} h (next {r' = r'} {used = u} {t' = t'} x f) (next {r' = r₂} {used = u₂} {t' = t₃} y g) =
    let e = same_field h (Ok (Reading.More r' u)) (Ok (Reading.More r₂ u₂)) x y in
    runs_one (on_held h r' u t' x) f (same_next b r' r₂ u u₂ t' t₃ c t₂ e.0 e.1 g)
runs_one {c = c} h (next x f) (end y) = absurd (not_last c (same_field h _ _ x y).0)
runs_one {a = a} h (end x) (next y g) = absurd (not_last a (same_field h _ _ y x).0)
runs_one {a = a} {c = c} h (end x) (end y) = let e = same_field h (last a) (last c) x y in (last_one a c e.0, e.1)

-- ---- the calls
-- what is told of these bytes
abbrev pub ShownOf : List ℕ → Result ℕ ListError → List ℕ → List ℕ → Type 0
ShownOf bytes (Ok n) o o' = Listed bytes o o' (counted (Ok n))
ShownOf bytes (Err (ListError.Refused e)) o o' = Listed bytes o o' (counted (Err e))
ShownOf bytes (Err ListError.Unread) o o' = ⊥

-- a count that is told
abbrev told : Result ℕ ListError → Result ℕ Refusal → Type 0
told a r = a ≡ shown_list r

of_list : (bytes o o' : List ℕ) (a : Result ℕ ListError) → ShownOf bytes a o o' → (r : Result ℕ Refusal) × told a r × Listed bytes o o' (counted r)
of_list bytes o o' (Ok n) x = (Ok n, refl, x)
of_list bytes o o' (Err (ListError.Refused e)) x = (Err e, refl, x)
of_list bytes o o' (Err ListError.Unread) x = absurd x

counted_one : (r q : Result ℕ Refusal) → counted r ≡ counted q → r ≡ q
counted_one (Ok n) (Ok k) e = ap (λ (c : Count). Ok c.count) e
counted_one (Ok n) (Err f) e = absurd (number_some f (sym (ap (λ (c : Count). c.refusal) e)))
counted_one (Err e) (Ok k) h = absurd (number_some e (ap (λ (c : Count). c.refusal) h))
counted_one (Err e) (Err f) h = ap Err (number_one e f (ap (λ (c : Count). c.refusal) h))

pub list_input_one : (bytes o o₁ o₂ : List ℕ) (a c : Result ℕ ListError) → ShownOf bytes a o o₁ → ShownOf bytes c o o₂ → (a ≡ c) × (o₁ ≡ o₂)
list_input_one bytes o o₁ o₂ a c x y =
    let p = of_list bytes o o₁ a x in
    let q = of_list bytes o o₂ c y in
    let e = list_file_one bytes o o₁ o₂ (counted p.0) (counted q.0) p.2 q.2 in
    (p.1 ∙ ap shown_list (counted_one p.0 q.0 e.0) ∙ sym q.1, e.1)

pub read_map_one : (bytes : List ℕ) (t t₁ t₂ : Tables) (a c : Result Map FileRefusal) → Came bytes t t₁ a → Came bytes t t₂ c → (a ≡ c) × (t₁ ≡ t₂)
read_map_one bytes t t₁ t₂ a c x y =
    let h : Held begun t bytes = record { reader = model.begin; holds = record { expected = refl; field = refl; size = refl; holds = refl }; few = let l = x.few in omega arith } in
    runs_one h (feeds_runs x.run) (feeds_runs y.run)

pub read_map_short : (b b₁ b₂ : List ℕ) (t t₁ t₂ : Tables) (a c : Result Map InputError) → short (lent b t) ≡ true → Taken b b₁ t t₁ a → Taken b b₂ t t₂ c → (a ≡ c) × (b₁ ≡ b₂) × (t₁ ≡ t₂)
read_map_short b b₁ b₂ t t₁ t₂ a c s x y = let p = x.lacking s in let q = y.lacking s in (p.0 ∙ sym q.0, p.1 ∙ sym q.1, p.2 ∙ sym q.2)
