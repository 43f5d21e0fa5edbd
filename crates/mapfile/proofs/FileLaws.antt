-- A file is read field by field: the loop's invariant, its turns and its ends. Assumes nothing.
use Rattle.std.proofs.Common.{◌≡◌, ℕ, ◌+◌, ◌^◌, ◌<◌, ◌≤◌, false, List, length, drop, sym, refl, ap, ◌∙◌, subst, zero-le, arith, length-drop, drop-drop, Result, Ok, Err}
use Rattle.mapfile.proofs.FeedLaws.{left_long}
use Rattle.mapfile.proofs.WindowLaws.{first_done, first_more, first_refused, read_all}
use Rattle.mapfile.specs.Feeds.{EndsAs, last}
use Rattle.mapfile.specs.Fields.{expected_of}
use Rattle.mapfile.specs.Reads.{FieldRead, HoldsMap, HoldsReader, Left, LeftAt, Says}
use Rattle.mapfile.specs.Moves.{begun}
use Rattle.mapfile.specs.declared.head.Expected.{Expected}
use Rattle.mapfile.specs.declared.state.FileRefusal.{FileRefusal}
use Rattle.mapfile.specs.declared.state.Reader.{Reader}
use Rattle.mapfile.specs.declared.state.Reading.{Reading}
use Rattle.model.specs.MapFile as model
use Rattle.model.specs.MapFile.{one_field, read_file}
use Rattle.model.specs.Refusal.{short}
use Rattle.limits.specs.Refusals.{number}
use Rattle.held.specs.Holds.{Behind, Tables, needs}
use Rattle.held.specs.Lent.{Same}
use Rattle.held.specs.declared.tables.Tables as Lent
use Rattle.held.specs.declared.map.Map.{Map}
use Rattle.mapfile.proofs.ReadingLaws.{Any, Goes, field_on}

-- ---- the same tables of the caller, call after call
pub same_on : {t u v : Lent.Tables} → Same t u → Same u v → Same t v
same_on a b = record { cells = b.cells ∙ a.cells; points = b.points ∙ a.points; statuses = b.statuses ∙ a.statuses; blockers = b.blockers ∙ a.blockers; pairs = b.pairs ∙ a.pairs }

-- ---- what is past the needs stays
behind_none : (t : Tables) → Behind t t
behind_none t = record { cells = refl; points = refl; statuses = refl; blockers = refl; pairs = refl; pairs_long = refl }

behind_same : {t u : Tables} → u ≡ t → Behind t u
behind_same {t} e = subst (Behind t) (sym e) (behind_none t)

behind_both : {t u v : Tables} → Behind t u → Behind u v → Behind t v
behind_both a b =
    record {
      cells = b.cells ∙ a.cells;
      points = b.points ∙ a.points;
      statuses = b.statuses ∙ a.statuses;
      blockers = b.blockers ∙ a.blockers;
      pairs = b.pairs ∙ a.pairs;
      pairs_long = b.pairs_long ∙ a.pairs_long;
    }

left_behind : (e : Expected) {t u : Tables} → LeftAt e t u → Behind t u
left_behind Expected.Size h = behind_same h
left_behind Expected.Radius h = behind_same h
left_behind Expected.Batches h = h
left_behind Expected.End h = behind_same h

-- ---- the loop: `rest` is to be read, of the bytes b; the tables were t₀
pub record ReadTo (b rest : List ℕ) (t₀ t : Tables) (r : Reader) : Type 0 where
  pub at : ℕ
  pub inside : at ≤ length b
  pub left : rest ≡ drop at b
  pub rooms : short (needs t) ≡ false
  pub behind : Behind t₀ t
  pub reader : model.Reader
  pub held : HoldsReader r t reader
  pub few : reader.field ≤ at
  pub on : read_file b ≡ read_all reader rest

pub read_none : (b : List ℕ) (t : Tables) (r : Reader) → r ≡ begun → short (needs t) ≡ false → ReadTo b b t t r
unfolding read_file
read_none b t r e h =
    record {
      at = 0;
      inside = zero-le;
      left = refl;
      rooms = h;
      behind = behind_none t;
      reader = model.begin;
      held = rw e (record { expected = refl; field = refl; size = refl; holds = refl });
      few = zero-le;
      on = refl;
    }

module _ {b rest : List ℕ} {t₀ t : Tables} {r : Reader} (s : ReadTo b rest t₀ t r) where
  long : length rest + s.at ≡ length b
  long = let l = length-drop s.at b in let e = ap length s.left in omega (arith, s.inside)

  goes : Goes Any s.reader.field (one_field s.reader rest)
  goes = field_on s.held rest

module _ {b rest : List ℕ} {t₀ t t' : Tables} {r : Reader} (s : ReadTo b rest t₀ t r) (small : length b < 2 ^ 63) where
  said : {a : Result Reading FileRefusal} → FieldRead r rest t t' a → Says a rest t' (one_field s.reader rest) × Left a t t'
  said f = f.reads s.rooms s.reader s.held (omega (arith, s.few, s.inside))

  module _ (r' : Reader) (used : ℕ) (f : FieldRead r rest t t' (Ok (Reading.More r' used))) where
    pub more_within : (3 ≤ used) × (used ≤ length rest)
    more_within = f.within r' used refl

    pub read_more : ReadTo b (drop used rest) t₀ t' r'
    read_more =
        let p = said f in
        let q = p.0 in
        let k = q.2 in
        let w = more_within in
        let l = long s in
        let g : Goes Any s.reader.field (model.more q.0 (drop used rest)) = subst (Goes Any s.reader.field) q.1 (goes s) in
        let h : HoldsMap (expected_of r'.expected) r'.map t' q.0 = subst (λ (E : model.Expected). HoldsMap E r'.map t' q.0) (sym k.expected) k.holds in
        record {
          at = s.at + used;
          inside = omega arith;
          left = ap (drop used) s.left ∙ drop-drop used s.at b;
          rooms = left_long r'.expected r'.map t t' q.0 s.rooms h p.1;
          behind = behind_both s.behind (left_behind r'.expected p.1);
          reader = q.0;
          held = k;
          few = omega (arith, g.0, s.few);
          on = s.on ∙ first_more s.reader rest q.0 (drop used rest) q.1;
        }

  pub read_ends : (e : Result Map FileRefusal) → FieldRead r rest t t' (last e) → EndsAs e t' (read_file b) × Behind t₀ t'
  read_ends (Ok m) f =
      let p = said f in
      ((p.0.0, s.on ∙ first_done s.reader rest p.0.0 p.0.1, p.0.2), behind_both s.behind (behind_same p.1))
  read_ends (Err x) f =
      let p = said f in
      (s.on ∙ first_refused s.reader rest (number x.refusal) x.field p.0, behind_both s.behind (behind_same p.1))
