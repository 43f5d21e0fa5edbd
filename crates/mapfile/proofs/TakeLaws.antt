-- A field's value taken: what each answer needs; the cell size; FF. Assumes nothing.
use Rattle.std.proofs.Common.{◌≡◌, ℕ, suc, ◌+◌, ◌%◌, ◌^◌, ◌<◌, Bool, true, false, cond, List, drop, sym, refl, ap, ◌∙◌, subst, arith, Result, Ok, Err}
use lib.Ieee.{Float}
use Rattle.mapfile.specs.Fields.{expected_of}
use Rattle.mapfile.specs.declared.head.Expected.{Expected}
use Rattle.model.specs.Map as map
use Rattle.model.specs.MapFile as model
use Rattle.model.specs.MapFile.{float64, take_end, take_size}
use Rattle.model.specs.Refusal.{bad_size, nothing, short}
use Rattle.held.specs.Holds.{Tables, needs}
use Rattle.held.specs.declared.map.Map.{Map}
use Rattle.mapfile.specs.Reads.{HoldsMap, HoldsReader, LeftAt, Took, refused_as, size_taken}
use Rattle.mapfile.specs.Moves.{moved_on}
use Rattle.limits.specs.Refusals.{number}
use Rattle.limits.specs.declared.refusal.Refusal.{Refusal}
use Rattle.mapfile.specs.declared.state.FileRefusal.{FileRefusal}
use Rattle.mapfile.specs.declared.state.Reader.{Reader}
use Rattle.mapfile.specs.declared.state.Reading.{Reading}

-- ---- answers are told apart
pub no_more : {x : FileRefusal} {u : ℕ} {r : Reader} → ◌≡◌ {A = Result Reading FileRefusal} (Err x) (Ok (Reading.More r u)) → ⊥
no_more e = let z : ◌≡◌ {A = ℕ} 0 1 = cc in omega arith

-- what is known of the map where e is expected
pub holds_at : (e : model.Expected) (r : Reader) (t : Tables) (R : model.Reader) → HoldsReader r t R → R.expected ≡ e → HoldsMap e r.map t R
holds_at e r t R h x = subst (λ (y : model.Expected). HoldsMap y r.map t R) x h.holds

-- ---- what a field needs to be taken, of the model's reader R: it goes on with the cell size c and the struct m
pub record Goes (takes : model.Reader → List ℕ → List ℕ → model.Reading) (v : List ℕ) (t t' : Tables) (R : model.Reader) (rest : List ℕ) (e : Expected) (c : Float) (m : Map) : Type 0 where
  pub map : map.Map
  pub is : takes R v rest ≡ model.more (model.onward R (expected_of e) c map) rest
  pub holds : HoldsMap (expected_of e) m t' (model.onward R (expected_of e) c map)
  pub left : LeftAt e t t'

module _ (e : model.Expected) (takes : model.Reader → List ℕ → List ℕ → model.Reading) (r : Reader) (v : List ℕ) (used : ℕ) (t t' : Tables) where
  pub took_refused : (n : Refusal) → t' ≡ t → ((R : model.Reader) → short (needs t) ≡ false → HoldsReader r t R → R.expected ≡ e → (rest : List ℕ) → takes R v rest ≡ model.refused (number n) R.field)
      → Took e takes r v used t t' (refused_as n r)
  took_refused n q f =
      record {
        refused = λ x y. q;
        within = λ r' k x. absurd (no_more x);
        reads = λ s R h x l b. (f R s h x (drop used b) ∙ ap (model.refused (number n)) (sym h.field), q);
      }

  pub took_more : (ex : Expected) (c : Float) (m : Map) → ((R : model.Reader) → short (needs t) ≡ false → HoldsReader r t R → R.expected ≡ e → (rest : List ℕ) → Goes takes v t t' R rest ex c m)
      → Took e takes r v used t t' (Ok (Reading.More (moved_on r ex c m) used))
  took_more ex c m f =
      record {
        refused = λ x y. absurd (no_more (sym y));
        within = λ r' k x. cc;
        reads = λ s R h x l b.
            let g = f R s h x (drop used b) in
            ((model.onward R (expected_of ex) c g.map, g.is, record { expected = refl; field = next R h l; size = refl; holds = g.holds }), g.left);
      }
    where
      next : (R : model.Reader) → HoldsReader r t R → suc R.field < 2 ^ 64 → (r.field + 1) % 2 ^ 64 ≡ suc R.field
      next R h l = let k = h.field in omega arith

-- ---- field 01
module _ (r : Reader) (v : List ℕ) (used : ℕ) where
  pub took_size : (t : Tables) → Took model.size take_size r v used t t (size_taken r v used)
  unfolding take_size
  took_size t = go (bad_size (float64 v)) refl
    where
      go : (z : Bool) → bad_size (float64 v) ≡ z → Took model.size take_size r v used t t (cond z (refused_as Refusal.CellSize r) (Ok (Reading.More (moved_on r Expected.Radius (float64 v) r.map) used)))
      go true h = took_refused model.size take_size r v used t t Refusal.CellSize refl (λ R s g x rest. rw h refl)
      go false h =
          took_more model.size take_size r v used t t Expected.Radius (float64 v) r.map
          (λ R s g x rest. record { map = nothing; is = rw h refl; holds = (holds_at model.size r t R g x, h); left = refl })

  -- ---- FF
  pub took_end : (t : Tables) (n : Reader) → n ≡ moved_on r Expected.End r.size r.map → Took model.batches (λ R w rest. take_end R rest) r v used t t (Ok (Reading.More n used))
  took_end t n e =
      rw e
      (took_more model.batches (λ R w rest. take_end R rest) r v used t t Expected.End r.size r.map
      (λ R s h x rest. record { map = R.map; is = rw h.size refl; holds = holds_at model.batches r t R h x; left = refl }))
