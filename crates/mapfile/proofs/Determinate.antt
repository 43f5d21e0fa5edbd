-- Any two outcomes that the contract of a field or of a file permits are equal. Assumes nothing.
use Rattle.std.proofs.Common.{◌≡◌, ℕ, suc, ◌^◌, ◌<◌, ◌≤◌, Bool, true, false, ◌⊎◌, List, length, drop, sym, refl, ap, ◌∙◌, subst, inl, inr, arith, length-drop, Result, Ok, Err}
use Rattle.mapfile.specs.Fields.{expected_of}
use Rattle.mapfile.specs.declared.head.Expected.{Expected}
use Rattle.model.specs.Map as map
use Rattle.model.specs.MapFile as model
use Rattle.model.specs.Refusal.{short}
use Rattle.visibility.proofs.Determinate.{holds_one}
use Rattle.held.specs.Holds.{Holds, Tables, needs}
use Rattle.held.specs.declared.map.Map.{Map}
use Rattle.mapfile.specs.Files.{FileRead, OpensAs}
use Rattle.mapfile.specs.Told.{opened_told}
use Rattle.mapfile.specs.declared.file.Opened.{Opened}
use Rattle.mapfile.specs.Reads.{FieldRead, HoldsMap, HoldsReader, Left, LeftAt, Says}
use Rattle.limits.proofs.RefusalLaws.{number_one, number_some}
use Rattle.limits.specs.Refusals.{number}
use Rattle.mapfile.specs.declared.state.FileRefusal.{FileRefusal}
use Rattle.mapfile.specs.declared.state.Reader.{Reader}
use Rattle.mapfile.specs.declared.state.Reading.{Reading}

-- ---- structs that hold one reader
back : model.Expected → Expected
back model.size = Expected.Size
back model.radius = Expected.Radius
back model.batches = Expected.Batches
back model.end = Expected.End

back_is : (e : Expected) → back (expected_of e) ≡ e
unfolding back
back_is Expected.Size = refl
back_is Expected.Radius = refl
back_is Expected.Batches = refl
back_is Expected.End = refl

same_map : (m n : Map) → m.size ≡ n.size → m.radius ≡ n.radius → m.cells ≡ n.cells → m.points ≡ n.points → m ≡ n
same_map m n a b c d = rw (a, b, c, d) refl

map_one : (m n : Map) (t u : Tables) (M : map.Map) → Holds m t M → Holds n u M → m ≡ n
map_one m n t u M x y = same_map m n (x.size ∙ sym y.size) (x.radius ∙ sym y.radius) (x.cells.count ∙ sym y.cells.count) (x.layer.count ∙ sym y.layer.count)

held_one : (e : model.Expected) (m n : Map) (t u : Tables) (R : model.Reader) → HoldsMap e m t R → HoldsMap e n u R → m ≡ n
held_one model.size m n t u R x y = x ∙ sym y
held_one model.radius m n t u R x y = x.0 ∙ sym y.0
held_one model.batches m n t u R x y = map_one m n t u R.map x y
held_one model.end m n t u R x y = map_one m n t u R.map x y

same_reader : (r s : Reader) → r.expected ≡ s.expected → r.field ≡ s.field → r.size ≡ s.size → r.map ≡ s.map → r ≡ s
same_reader r s a b c d = rw (a, b, c, d) refl

module _ (r s : Reader) (t u : Tables) (R : model.Reader) (x : HoldsReader r t R) (y : HoldsReader s u R) where
  expected_one : r.expected ≡ s.expected
  expected_one = sym (back_is r.expected) ∙ ap back (x.expected ∙ sym y.expected) ∙ back_is s.expected

  reader_one : r ≡ s
  reader_one = same_reader r s expected_one (x.field ∙ sym y.field) (x.size ∙ sym y.size) (held_one R.expected r.map s.map t u R x.holds y.holds)

-- the tables, by what is expected
tables_one : (e : Expected) (m n : Map) (t t₁ t₂ : Tables) (R : model.Reader) → HoldsMap (expected_of e) m t₁ R → HoldsMap (expected_of e) n t₂ R → LeftAt e t t₁ → LeftAt e t t₂ → t₁ ≡ t₂
tables_one Expected.Size m n t t₁ t₂ R x y k l = k ∙ sym l
tables_one Expected.Radius m n t t₁ t₂ R x y k l = k ∙ sym l
tables_one Expected.Batches m n t t₁ t₂ R x y k l = holds_one m n R.map t t₁ t₂ x y k l
tables_one Expected.End m n t t₁ t₂ R x y k l = k ∙ sym l

same_refusal : (e f : FileRefusal) → e.refusal ≡ f.refusal → e.field ≡ f.field → e ≡ f
same_refusal e f a b = rw (a, b) refl

-- ---- answers that say the same of one reading
module _ (w : List ℕ) (t t₁ t₂ : Tables) (s : model.Reading) where
  more_one : (r q : Reader) (u v : ℕ) → u ≤ length w → v ≤ length w → Says (Ok (Reading.More r u)) w t₁ s → Says (Ok (Reading.More q v)) w t₂ s → LeftAt r.expected t t₁ → LeftAt q.expected t t₂
      → (◌≡◌ {A = Result Reading FileRefusal} (Ok (Reading.More r u)) (Ok (Reading.More q v))) × (t₁ ≡ t₂)
  more_one r q u v i j x y k l =
      let a = x.1 in
      let b = y.1 in
      let R = x.0 in
      let e : R ≡ y.0 = cc in
      let d : drop u w ≡ drop v w = cc in
      let g = length-drop u w in
      let h = length-drop v w in
      let f = ap length d in
      let n : u ≡ v = omega arith in
      let z : HoldsReader q t₂ R = subst (λ (S : model.Reader). HoldsReader q t₂ S) (sym e) y.2 in
      let o = reader_one r q t₁ t₂ R x.2 z in
      let c = x.2.expected in
      let m = expected_one r q t₁ t₂ R x.2 z in (
        ap (λ (p : Reader). Ok (Reading.More p u)) o ∙ ap (λ (k : ℕ). Ok (Reading.More q k)) n,
        tables_one r.expected r.map q.map t t₁ t₂ R
            (subst (λ (E : model.Expected). HoldsMap E r.map t₁ R) (sym c) x.2.holds)
            (subst (λ (E : model.Expected). HoldsMap E q.map t₂ R) (sym c) z.holds)
            k
            (subst (λ (E : Expected). LeftAt E t t₂) (sym m) l),
      )

  apart : ◌≡◌ {A = ℕ} 0 1 → ⊥
  apart e = omega arith

  says_one : (a b : Result Reading FileRefusal) → Says a w t₁ s → Says b w t₂ s → Left a t t₁ → Left b t t₂ → ((r : Reader) (u : ℕ) → a ≡ Ok (Reading.More r u) → u ≤ length w) → ((r : Reader) (u : ℕ) → b ≡ Ok (Reading.More r u) → u ≤ length w)
      → (a ≡ b) × (t₁ ≡ t₂)
  says_one (Ok (Reading.More r u)) (Ok (Reading.More q v)) x y k l i j = more_one r q u v (i r u refl) (j q v refl) x y k l
  says_one (Ok (Reading.More r u)) (Err f) x y k l i j = let a = x.1 in absurd (apart (cc))
  says_one (Ok (Reading.More r u)) (Ok (Reading.Done m)) x y k l i j = let a = x.1 in let b = y.1 in absurd (apart (cc))
  says_one (Err e) (Ok (Reading.More r u)) x y k l i j = let b = y.1 in absurd (apart (cc))
  says_one (Err e) (Err f) x y k l i j =
      let p : number e.refusal ≡ number f.refusal = cc in
      let q : e.field ≡ f.field = cc in
      (ap Err (same_refusal e f (number_one e.refusal f.refusal p) q), k ∙ sym l)
  says_one (Err e) (Ok (Reading.Done m)) x y k l i j = let b = y.1 in absurd (apart (cc))
  says_one (Ok (Reading.Done m)) (Ok (Reading.More r u)) x y k l i j = let a = x.1 in let b = y.1 in absurd (apart (cc))
  says_one (Ok (Reading.Done m)) (Err f) x y k l i j = let a = x.1 in absurd (apart (cc))
  says_one (Ok (Reading.Done m)) (Ok (Reading.Done n)) x y k l i j =
      let a = x.1 in
      let b = y.1 in
      let e : x.0 ≡ y.0 = cc in
      (ap (λ (o : Map). Ok (Reading.Done o)) (map_one m n t₁ t₂ x.0 x.2 (subst (λ (M : map.Map). Holds n t₂ M) (sym e) y.2)), k ∙ sym l)

-- ---- the call, of tables that are short or of a reader that is held and whose field has a number after it
abbrev pub Told : Reader → Tables → Type 0
Told r t = (short (needs t) ≡ true) ⊎ ((R : model.Reader) × HoldsReader r t R × (suc R.field < 2 ^ 64))

module _ (r : Reader) (w : List ℕ) (t t₁ t₂ : Tables) (a b : Result Reading FileRefusal) (x : FieldRead r w t t₁ a) (y : FieldRead r w t t₂ b) where
  short_one : short (needs t) ≡ true → (a ≡ b) × (t₁ ≡ t₂)
  short_one s = ((x.lacking s).0 ∙ sym (y.lacking s).0, (x.lacking s).1 ∙ sym (y.lacking s).1)

  read_one : (R : model.Reader) → HoldsReader r t R → suc R.field < 2 ^ 64 → (z : Bool) → short (needs t) ≡ z → (a ≡ b) × (t₁ ≡ t₂)
  read_one R h l true s = short_one s
  read_one R h l false s =
      let p = x.reads s R h l in
      let q = y.reads s R h l in
      says_one w t t₁ t₂ (model.one_field R w) a b p.0 q.0 p.1 q.1 (λ n u e. (x.within n u e).1) (λ n u e. (y.within n u e).1)

  pub field_one : Told r t → (a ≡ b) × (t₁ ≡ t₂)
  field_one (inl s) = short_one s
  field_one (inr k) = read_one k.0 k.1 k.2 (short (needs t)) refl

-- ---- a whole file, whatever is handed in
module _ (b : List ℕ) (t t₁ t₂ : Tables) (r q : Opened) (x : FileRead b t t₁ r) (y : FileRead b t t₂ q) where
  same_opened : (o p : Opened) → o.refusal ≡ p.refusal → o.field ≡ p.field → o.map ≡ p.map → o ≡ p
  same_opened o p e f g = rw (e, f, g) refl

  opens_one : (s : model.Reading) → OpensAs s t t₁ r → OpensAs s t t₂ q → (r ≡ q) × (t₁ ≡ t₂)
  opens_one (model.more R c) k l = absurd k
  opens_one (model.refused n f) k l = (k.0 ∙ sym l.0, k.1 ∙ sym l.1)
  opens_one (model.done M) k l =
      (same_opened r q (k.0 ∙ sym l.0) (k.1 ∙ sym l.1) (map_one r.map q.map t₁ t₂ M k.2 l.2), holds_one r.map q.map M t t₁ t₂ k.2 l.2 k.3 l.3)

  go : (z : Bool) → short (needs t) ≡ z → (r ≡ q) × (t₁ ≡ t₂)
  go true s = ((x.lacking s).0 ∙ sym (y.lacking s).0, (x.lacking s).1 ∙ sym (y.lacking s).1)
  go false s = opens_one (model.read_file b) (x.reads s) (y.reads s)

  pub file_one : (r ≡ q) × (t₁ ≡ t₂)
  file_one = go (short (needs t)) refl

-- ---- what C gets of an answer is all of it
abbrev refused_by : Opened → ℕ
refused_by o = o.refusal

abbrev at_field : Opened → ℕ
at_field o = o.field

abbrev map_of : Opened → Map
map_of o = o.map

pub opened_told_one : (r q : Result Map FileRefusal) → opened_told r ≡ opened_told q → r ≡ q
opened_told_one (Ok a) (Ok b) e = ap (λ (x : Map). Ok x) (ap map_of e)
opened_told_one (Ok a) (Err f) e = absurd (number_some f.refusal (sym (ap refused_by e)))
opened_told_one (Err d) (Ok b) e = absurd (number_some d.refusal (ap refused_by e))
opened_told_one (Err d) (Err f) e = ap (λ (x : FileRefusal). Err x) (same_refusal d f (number_one d.refusal f.refusal (ap refused_by e)) (ap at_field e))
