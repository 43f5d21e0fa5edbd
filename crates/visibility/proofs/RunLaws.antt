-- Runs of calls: the tables that any run from an opening leaves hold the model's map of that run. Assumes nothing.
use Prim.Native.Nat.{ℕ, zero, suc}
use mathlib.Core.Path.{◌≡◌, refl, sym, ap, ◌∙◌, subst}
use mathlib.Core.Bool.{Bool, true, false, cond, ◌||◌}
use mathlib.Core.List.{List, [], ◌∷◌}
use lib.Dec.{ltb}
use lib.Ieee.{Float, eq, le, lt}
use Rattle.model.specs.Map as model
use Rattle.limits.specs.Batches.{entries, ragged}
use Rattle.model.specs.Refusal.{bad_size, is_due, judge, nothing, opened, refuse_open, run, short, step, unless}
use Rattle.model.proofs.DueLaws.{passed, or_parts}
use Rattle.model.specs.Limits.{max_cells}
use Rattle.visibility.specs.Change.{Lent, lent_needs, refuse_input}
use Rattle.held.specs.Holds.{Holds, Tables, needs, no_map}
use Rattle.visibility.specs.Open.{Opening}
use Rattle.visibility.specs.Radius.{refuse_radius}
use Rattle.visibility.specs.Run.{Batched, Calls, Resized, State, batch, goes_on, heard, joined, none, radius}
use Rattle.visibility.specs.declared.change.Changed.{Changed}
use Rattle.held.specs.declared.map.Map.{Map}
use Rattle.held.specs.declared.map.Outcome.{Outcome}
use Rattle.visibility.proofs.OpenLaws.{open_passes}
use Rattle.held.proofs.RoomLaws.{Enough, long_enough}
use Rattle.visibility.proofs.PartLaws.{holds_part, holds_whole}
use Rattle.visibility.proofs.RefuseLaws.{batch_unread, batch_unsized, radius_short, radius_size}

-- where the lent tables are long enough, their lengths decide nothing
enough : (lent : List (ℕ × ℕ)) → short lent ≡ false → (o : model.Op) (M M' : model.Map) → judge lent o M M' ≡ judge [] o M M'
unfolding judge short
enough lent e (model.batch l) M M' = rw e refl
enough lent e (model.radius r) M M' = rw e refl

-- what the model goes on with, beside what the caller does
goes_on_lem : (n : ℕ) (given had : Map) (t' : Tables) (M M' : model.Map) → (n ≡ 0 → Holds given t' M') → ((k : ℕ) → n ≡ suc k → Holds had t' M) → Holds (goes_on n given had) t' (unless n M' M)
goes_on_lem zero given had t' M M' f g = f refl
goes_on_lem (suc n) given had t' M M' f g = g n refl

-- ---- one call, of the part u of the caller's tables, answered with n
module _ {s s' : State} (u left kept : Tables) (n : ℕ) (given : Map) (own : s.tables ≡ joined u kept) (then : s' ≡ record { map = goes_on n given s.map; tables = joined left kept }) (same : (k : ℕ) → n ≡ suc k → left ≡ u) where
  -- refused, it leaves the caller all that he had
  stays : (k : ℕ) → n ≡ suc k → s' ≡ s
  stays k e =
      then ∙ ap (λ (i : ℕ). record { map = goes_on i given s.map; tables = joined left kept }) e
      ∙ ap (λ (t : Tables). record { map = s.map; tables = t }) (ap (λ (v : Tables). joined v kept) (same k e) ∙ sym own)

  -- with room, it does what the model's operation o does
  does : (o : model.Op) (M : model.Map) → Holds s.map s.tables M → Enough (needs u) → (Holds s.map u M → (n ≡ judge [] o M (model.next o M)) × (n ≡ 0 → Holds given left (model.next o M)))
      → Holds s'.map s'.tables (step o M)
  unfolding step
  does o M h room call =
      let M' = model.next o M in
      let g : Holds s.map (joined u kept) M = subst (λ (t : Tables). Holds s.map t M) own h in
      let c = call (holds_part s.map u kept M room g) in
      subst (λ (z : State). Holds z.map z.tables (unless (judge [] o M M') M' M)) (sym then)
      (subst (λ (k : ℕ). Holds (goes_on n given s.map) (joined left kept) (unless k M' M)) c.0
      (goes_on_lem n given s.map (joined left kept) M M' (λ z. holds_whole given left kept M' (c.1 z)) (λ k z. subst (λ (t : Tables). Holds s.map (joined t kept) M) (sym (same k z)) g)))

-- ---- a batch
module _ {s s' : State} (b : Batched s s') where
  abbrev batch_same : (k : ℕ) → b.answer.refusal ≡ suc k → b.left.tables ≡ b.lent.tables
  batch_same k z = ap (λ (l : Lent). l.tables) (b.call.refused k z).0

  batch_input : (n : ℕ) × (refuse_input s.map b.numbers b.lent ≡ suc n) → s' ≡ s
  batch_input k =
      stays b.lent.tables b.left.tables b.kept b.answer.refusal b.answer.map b.own b.then batch_same k.0 (ap (λ (r : Changed). r.refusal) (b.call.input k.0 k.1))

  pub batch_unheard : short (lent_needs b.lent) || ragged b.numbers ≡ true → s' ≡ s
  batch_unheard e = batch_input (batch_unread (short (lent_needs b.lent)) s.map b.numbers (ltb max_cells s.map.cells) false e)

  batch_heard : (M : model.Map) → Holds s.map s.tables M → short (lent_needs b.lent) || ragged b.numbers ≡ false → Holds s'.map s'.tables (step (model.batch (entries b.numbers)) M)
  batch_heard M h f =
      let o : model.Op = model.batch (entries b.numbers) in
      let p = or_parts (short (lent_needs b.lent)) (ragged b.numbers) f in
      let n = long_enough (lent_needs b.lent) p.0 in
      does b.lent.tables b.left.tables b.kept b.answer.refusal b.answer.map b.own b.then batch_same o M h (n.0, (n.1.0, (n.1.1.0, (n.1.1.1.0, (n.1.1.1.1.0, tt)))))
      (λ i. (b.call.refusal p.1 M i ∙ enough (lent_needs b.lent) p.0 o M (model.next o M), λ z. (b.call.done M i z).holds))

-- ---- a change of the radius
module _ {s s' : State} (b : Resized s s') where
  abbrev radius_same : (k : ℕ) → b.answer.refusal ≡ suc k → b.left ≡ b.lent
  radius_same k z = (b.call.refused k z).0

  radius_input : (n : ℕ) × (refuse_radius (short (needs b.lent)) s.map b.radius ≡ suc n) → s' ≡ s
  radius_input k = stays b.lent b.left b.kept b.answer.refusal b.answer.map b.own b.then radius_same k.0 (ap (λ (o : Outcome). o.refusal) (b.call.input k.0 k.1))

  pub radius_unheard : short (needs b.lent) ≡ true → s' ≡ s
  radius_unheard e = radius_input (radius_short (short (needs b.lent)) s.map b.radius e)

  radius_heard : (M : model.Map) → Holds s.map s.tables M → short (needs b.lent) ≡ false → Holds s'.map s'.tables (step (model.radius b.radius) M)
  radius_heard M h f =
      let o : model.Op = model.radius b.radius in
      does b.lent b.left b.kept b.answer.refusal b.answer.map b.own b.then radius_same o M h (long_enough (needs b.lent) f)
      (λ i. (b.call.refusal M i ∙ enough (needs b.lent) f o M (model.next o M), λ z. b.call.holds M i z))

-- ---- all of them
-- a call that is heard, or not: z tells that it is not
one_more : (o : model.Op) (os : List model.Op) (s m s' : State) (M : model.Map) → Holds s.map s.tables M → (z : Bool) → (z ≡ true → m ≡ s) → (z ≡ false → Holds m.map m.tables (step o M))
    → ((N : model.Map) → Holds m.map m.tables N → Holds s'.map s'.tables (run os N)) → Holds s'.map s'.tables (run (cond z os (o ∷ os)) M)
unfolding run
one_more o os s m s' M h true f g next = next M (subst (λ (z : State). Holds z.map z.tables M) (sym (f refl)) h)
one_more o os s m s' M h false f g next = next (step o M) (g refl)

pub run_holds : {s s' : State} (k : Calls s s') (M : model.Map) → Holds s.map s.tables M → Holds s'.map s'.tables (run (heard k) M)
unfolding run
run_holds none M h = h
run_holds {s} {s'} (batch {m = m} b k) M h =
    one_more (model.batch (entries b.numbers)) (heard k) s m s' M h (short (lent_needs b.lent) || ragged b.numbers) (batch_unheard b) (batch_heard b M h) (run_holds k)
run_holds {s} {s'} (radius {m = m} b k) M h =
    one_more (model.radius b.radius) (heard k) s m s' M h (short (needs b.lent)) (radius_unheard b) (radius_heard b M h) (run_holds k)

-- an accepted opening gives the model's fresh map
fresh_opened : (l : List (ℕ × ℕ)) (c r : Float) → refuse_open l c r ≡ 0 → opened c r ≡ model.fresh c r
unfolding opened refuse_open is_due
fresh_opened l c r z =
    let p = passed _ z in
    ap (λ (n : ℕ). unless n (model.fresh c r) nothing) (sym (open_passes [] c r (unfold short in refl) (p 1 tt) (p 2 tt)))

-- The theorem: after an accepted opening and any run of calls, whatever each lends and refused ones among them, the caller's struct and tables hold the model's map of what it heard;
-- so all that `demand3` says of it holds of the lent bytes.
pub opened_run : (c r : Float) (t t' : Tables) (o : Outcome) (s : State) → Opening c r t t' o → o.refusal ≡ 0 → (k : Calls (record { map = o.map; tables = t' }) s)
    → Holds s.map s.tables (run (heard k) (opened c r))
opened_run c r t t' o s w z k = run_holds k (opened c r) (subst (λ (M : model.Map). Holds o.map t' M) (sym (fresh_opened (needs t) c r (sym w.refusal ∙ z))) (w.holds z))

-- ---- a refused opening
no_size : (m : Map) → m ≡ no_map → bad_size m.size ≡ true
unfolding bad_size le lt eq
no_size m e = rw e refl

-- a call on the map that is all zero is refused, and alters nothing
radius_zero : {s s' : State} (b : Resized s s') → bad_size s.map.size ≡ true → s' ≡ s
radius_zero {s} b e = radius_input b (radius_size (short (needs b.lent)) s.map b.radius e)

all_stay : {s s' : State} → Calls s s' → s.map ≡ no_map → s' ≡ s
all_stay none e = refl
all_stay {s} (batch b k) e =
    let f = batch_input b (batch_unsized (short (lent_needs b.lent)) s.map b.numbers (ltb max_cells s.map.cells) false (no_size s.map e)) in
    all_stay k (ap (λ (z : State). z.map) f ∙ e) ∙ f
all_stay {s} (radius b k) e =
    let f = radius_zero b (no_size s.map e) in
    all_stay k (ap (λ (z : State). z.map) f ∙ e) ∙ f

-- After a refused opening no run of calls alters anything, whatever each lends.
pub refused_run : (c r : Float) (t t' : Tables) (o : Outcome) (n : ℕ) (s : State) → Opening c r t t' o → o.refusal ≡ suc n → Calls (record { map = o.map; tables = t' }) s → s ≡ record { map = no_map; tables = t }
refused_run c r t t' o n s w z k =
    let x = w.refused n z in
    let e : o.map ≡ no_map = ap (λ (y : Outcome). y.map) x.1 in
    all_stay k e ∙ rw (e, x.0) refl
