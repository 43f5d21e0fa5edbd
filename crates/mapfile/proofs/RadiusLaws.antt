-- Field 02: the radius, with which the map is opened. Assumes nothing.
use Rattle.std.proofs.Common.{◌≡◌, ℕ, Bool, true, false, cond, List, [], sym, refl, ap, ◌∙◌, subst, arith, Ok, Err}
use lib.Ieee.{Float}
use Rattle.mapfile.specs.declared.head.Expected.{Expected}
use Rattle.model.specs.Map as map
use Rattle.model.specs.MapFile as model
use Rattle.model.specs.MapFile.{float64, take_radius}
use Rattle.model.specs.Refusal.{bad_radius, bad_size, nothing, opened, refuse_open, short, unless}
use Rattle.visibility.proofs.OpenLaws.{open_passes, open_radius}
use Rattle.held.specs.Holds.{Holds, Tables, needs}
use Rattle.visibility.specs.Open.{Opening}
use Rattle.held.specs.Told.{told}
use Rattle.held.specs.declared.map.Map.{Map}
use Rattle.held.specs.declared.map.Outcome.{Outcome}
use Rattle.limits.specs.Refusals.{number}
use Rattle.limits.specs.declared.refusal.Refusal.{Refusal}
use Rattle.mapfile.specs.Reads.{HoldsReader, Took, refused_as}
use Rattle.mapfile.specs.Moves.{moved_on}
use Rattle.mapfile.specs.declared.state.Reader.{Reader}
use Rattle.mapfile.specs.declared.state.Reading.{Reading}
use Rattle.limits.proofs.RefusalLaws.{number_some}
use Rattle.mapfile.proofs.ErrLaws.{number_suc}
use Rattle.mapfile.proofs.TakeLaws.{Goes, holds_at, took_more, took_refused}

-- where no table is short and the size is good, an opening is refused by the radius alone
opens : (lent : List (ℕ × ℕ)) (c q : Float) → short lent ≡ false → bad_size c ≡ false → refuse_open lent c q ≡ cond (bad_radius c q) 2 0
opens lent c q s f = go (bad_radius c q) refl
  where
    go : (z : Bool) → bad_radius c q ≡ z → refuse_open lent c q ≡ cond z 2 0
    go true g = sym (open_radius lent c q s f g)
    go false g = sym (open_passes lent c q s f g)

opened_fresh : (c q : Float) → bad_size c ≡ false → bad_radius c q ≡ false → opened c q ≡ map.fresh c q
unfolding opened
opened_fresh c q f g =
    let k : refuse_open [] c q ≡ 0 = rw g at (opens [] c q (unfold short in refl) f) in
    ap (λ (n : ℕ). unless n (map.fresh c q) nothing) k

module _ (r : Reader) (v : List ℕ) (used : ℕ) (t t' : Tables) (q : Float) (e : q ≡ float64 v) where
  -- the number that is answered, and what the model says, by one test
  asked : (o : Outcome) → Opening r.size q t t' o → (R : model.Reader) → short (needs t) ≡ false → HoldsReader r t R → R.expected ≡ model.radius → o.refusal ≡ cond (bad_radius R.cell_size (float64 v)) 2 0
  asked o w R s h x =
      subst (λ (c : Float). o.refusal ≡ cond (bad_radius c (float64 v)) 2 0) h.size
      (subst (λ (z : Float). o.refusal ≡ cond (bad_radius r.size z) 2 0) e
      (w.refusal ∙ opens (needs t) r.size q s (rw h.size (holds_at model.radius r t R h x).1)))

  pub radius_refused : (n : Refusal) → Opening r.size q t t' (told (Err n)) → Took model.radius take_radius r v used t t' (refused_as n r)
  unfolding take_radius
  radius_refused n w =
      took_refused model.radius take_radius r v used t t' n (let p = number_suc n in (w.refused p.0 p.1).0)
      (λ R s h x rest. go R rest (bad_radius R.cell_size (float64 v)) (asked (told (Err n)) w R s h x))
    where
      go : (R : model.Reader) (rest : List ℕ) (z : Bool) → number n ≡ cond z 2 0
          → cond z (model.refused 2 R.field) (model.more (model.onward R model.batches R.cell_size (opened R.cell_size (float64 v))) rest) ≡ model.refused (number n) R.field
      go R rest true p = ap (λ (m : ℕ). model.refused m R.field) (sym p)
      go R rest false p = absurd (number_some n p)

  pub radius_taken : (m : Map) → Opening r.size q t t' (told (Ok m)) → (n : Reader) → n ≡ moved_on r Expected.Batches r.size m → Took model.radius take_radius r v used t t' (Ok (Reading.More n used))
  unfolding take_radius
  radius_taken m w n p =
      rw p (took_more model.radius take_radius r v used t t' Expected.Batches r.size m
      (λ R s h x rest. go R rest h (holds_at model.radius r t R h x).1 (bad_radius R.cell_size (float64 v)) refl (asked (told (Ok m)) w R s h x)))
    where
      go : (R : model.Reader) (rest : List ℕ) → HoldsReader r t R → bad_size R.cell_size ≡ false → (y : Bool) → bad_radius R.cell_size (float64 v) ≡ y → ◌≡◌ {A = ℕ} 0 (cond y 2 0)
          → Goes take_radius v t t' R rest Expected.Batches r.size m
      go R rest h f true g k = absurd (let d : ◌≡◌ {A = ℕ} 2 0 = sym k in omega arith)
      go R rest h f false g k =
          record {
            map = opened R.cell_size (float64 v);
            is = rw (g, h.size) refl;
            holds = subst (λ (M : map.Map). Holds m t' M) (sym (opened_fresh R.cell_size (float64 v) f g))
                (subst (λ (c : Float). Holds m t' (map.fresh c (float64 v))) h.size (subst (λ (c : Float). Holds m t' (map.fresh r.size c)) e (w.holds refl)));
            left = w.behind refl;
          }
