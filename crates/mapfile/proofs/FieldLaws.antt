-- One field, by what was tested on the way to its answer. Assumes nothing.
use Rattle.std.proofs.Common.{◌≡◌, ℕ, ◌+◌, ◌-◌, ◌/◌, ◌<◌, ◌≤◌, false, List, [], ◌∷◌, length, get_or, take, drop, sym, refl, ap, ◌∙◌, subst, true≢false, arith, length-drop, length-take-le, drop-drop, eq-eqb, ne_eqb, eqb-true, Result, Ok, Err}
use Rattle.mapfile.proofs.ByteLaws.{field_head, head_fits, head_flags, head_placed, head_short, head_within, headed}
use Rattle.mapfile.specs.Fields.{HeadRead, due_at, expected_of, length_at}
use Rattle.mapfile.specs.declared.head.Expected.{Expected}
use Rattle.mapfile.specs.declared.head.Head.{Head}
use Rattle.model.specs.MapFile as model
use Rattle.model.specs.MapFile.{bad_flag, entry_bytes, one_field, stopped, take_batch, take_end, taken}
use Rattle.model.specs.Refusal.{short}
use Rattle.held.specs.Holds.{Tables, needs}
use Rattle.mapfile.specs.Reads.{FieldRead, HoldsReader, Left, Says, Took, refused_as, stopped_as, stopped_at}
use Rattle.limits.proofs.RefusalLaws.{number_some}
use Rattle.limits.specs.Refusals.{number}
use Rattle.limits.specs.declared.refusal.Refusal.{Refusal}
use Rattle.mapfile.specs.declared.state.FileRefusal.{FileRefusal}
use Rattle.mapfile.specs.declared.state.Reader.{Reader}
use Rattle.mapfile.specs.declared.state.Reading.{Reading}
use Rattle.mapfile.proofs.TakeLaws.{holds_at, no_more}

-- ---- a head that is read
module _ (e : model.Expected) (b : List ℕ) (h : Head) (q : HeadRead e b (Ok h)) where
  tag_is : h.tag ≡ get_or b 0 0
  tag_is = ap (λ (x : Head). x.tag) q.1

  length_is : h.length ≡ length_at b
  length_is = ap (λ (x : Head). x.length) q.1

  -- the field lies within the bytes, and so does its value
  pub used_within : h.length + 3 ≤ length b
  used_within = let w = head_within e b q.0 in let l = length_is in omega arith

-- the value's bytes, as the code cuts them out
abbrev pub value_of : Head → List ℕ → List ℕ
value_of h b = take (h.length + 3 - 3) (drop 3 b)

module _ (e : model.Expected) (b : List ℕ) (h : Head) (q : HeadRead e b (Ok h)) where
  value_is : value_of h b ≡ take (length_at b) (drop 3 b)
  value_is =
      let l = length_is e b h q in
      let k : h.length + 3 - 3 ≡ length_at b = omega arith in
      ap (λ (n : ℕ). take n (drop 3 b)) k

  value_long : length (value_of h b) ≡ length_at b
  value_long =
      let w = head_within e b q.0 in
      let d = length-drop 3 b in
      let k : length_at b ≤ length (drop 3 b) = omega arith in
      ap length value_is ∙ length-take-le (length_at b) (drop 3 b) k

  rest_is : drop (h.length + 3) b ≡ drop (length_at b) (drop 3 b)
  rest_is =
      let l = length_is e b h q in
      let k : h.length + 3 ≡ 3 + length_at b = omega arith in
      ap (λ (n : ℕ). drop n b) k ∙ sym (drop-drop (length_at b) 3 b)

-- ---- the lengths of the values: 8 before a batch is due; of a batch with good flags
float_long : (b : List ℕ) (h : Head) (e : model.Expected) (q : HeadRead e b (Ok h)) (k : ℕ) → (k ≡ 3 → ⊥) → (k ≡ 255 → ⊥) → get_or b 0 0 ≡ k → length (value_of h b) ≡ 8
float_long b h e q k x y p = value_long e b h q ∙ eqb-true (length_at b) 8 (rw (p, ne_eqb k 3 x, ne_eqb k 255 y) at (head_fits e b q.0))

pub size_long : (b : List ℕ) (h : Head) → HeadRead model.size b (Ok h) → length (value_of h b) ≡ 8
size_long b h q = float_long b h model.size q 1 (λ x. omega arith) (λ x. omega arith) (eqb-true (get_or b 0 0) 1 (head_placed model.size b q.0))

pub radius_long : (b : List ℕ) (h : Head) → HeadRead model.radius b (Ok h) → length (value_of h b) ≡ 8
radius_long b h q = float_long b h model.radius q 2 (λ x. omega arith) (λ x. omega arith) (eqb-true (get_or b 0 0) 2 (head_placed model.radius b q.0))

module _ (b : List ℕ) (h : Head) (q : HeadRead model.batches b (Ok h)) (k : h.tag ≡ 3) where
  pub batch_long : length (value_of h b) ≤ 2304
  batch_long =
      let s = head_short model.batches b q.0 (sym (tag_is model.batches b h q) ∙ k) in
      let l = value_long model.batches b h q in
      omega arith

  pub batch_flags : bad_flag (length (value_of h b) / entry_bytes) (value_of h b) ≡ false
  batch_flags = rw (value_long model.batches b h q, value_is model.batches b h q) (head_flags model.batches b q.0 (sym (tag_is model.batches b h q) ∙ k))

-- nothing is in its place after FF
pub never_end : (b : List ℕ) (h : Head) → HeadRead model.end b (Ok h) → ⊥
never_end b h q = true≢false (sym (head_placed model.end b q.0))

-- ---- the answers
module _ (r : Reader) (b : List ℕ) (t : Tables) where
  module _ (s : short (needs t) ≡ false) where
    -- the file stops
    stops : (e : Expected) (R : model.Reader) → HoldsReader r t R → R.expected ≡ expected_of e → Says (stopped_as e r) b t (stopped R (expected_of e)) × Left (stopped_as e r) t t
    stops Expected.Size R h x = (ap (model.refused 10) (sym h.field), refl)
    stops Expected.Radius R h x = (ap (model.refused 10) (sym h.field), refl)
    stops Expected.Batches R h x = (ap (model.refused 10) (sym h.field), refl)
    stops Expected.End R h x = ((R.map, refl, holds_at model.end r t R h x), refl)

    no_stop : (e : Expected) (r' : Reader) (u : ℕ) → stopped_as e r ≡ Ok (Reading.More r' u) → ⊥
    no_stop Expected.Size r' u e = no_more e
    no_stop Expected.Radius r' u e = no_more e
    no_stop Expected.Batches r' u e = no_more e
    no_stop Expected.End r' u e = let z : ◌≡◌ {A = ℕ} 0 1 = cc in omega arith

    empty : (l : List ℕ) → length l ≡ 0 → l ≡ []
    empty [] e = refl
    empty (x ∷ l) e = absurd (omega arith)

    pub field_stopped : length b ≡ 0 → (a : Result Reading FileRefusal) → a ≡ stopped_at r → FieldRead r b t t a
    unfolding one_field
    field_stopped l a e =
        rw e
        (record {
          lacking = λ k. absurd (true≢false (sym k ∙ s));
          reads = λ k R h x. subst (λ (c : List ℕ). Says (stopped_at r) b t (one_field R c) × Left (stopped_at r) t t) (sym (empty b l))
              (subst (λ (y : model.Expected). Says (stopped_at r) b t (stopped R y) × Left (stopped_at r) t t) h.expected (stops r.expected R h (sym h.expected)));
          refused = λ n x. refl;
          within = λ r' u x. absurd (no_stop r.expected r' u x);
        })

    -- a head that was read
    module _ (l : length b ≡ 0 → ⊥) where
      by_head : (R : model.Reader) → HoldsReader r t R → (k : ℕ) → due_at (expected_of r.expected) b ≡ k → one_field R b ≡ headed k R b
      by_head R h k e =
          let p : 0 < length b = omega (arith, l) in
          field_head R b p ∙ ap (λ (n : ℕ). headed n R b) (subst (λ (y : model.Expected). due_at y b ≡ k) h.expected e)

      pub field_refused : (n : Refusal) → HeadRead (expected_of r.expected) b (Err n) → FieldRead r b t t (refused_as n r)
      field_refused n q =
          record {
            lacking = λ k. absurd (true≢false (sym k ∙ s));
            reads = λ k R g x. (by_head R g (number n) q ∙ rw (ne_eqb (number n) 0 (number_some n), g.field) refl, refl);
            refused = λ x e. refl;
            within = λ r' u e. absurd (no_more e);
          }

      pub field_taken : (h : Head) → HeadRead (expected_of r.expected) b (Ok h) → (e : model.Expected) → expected_of r.expected ≡ e → (takes : model.Reader → List ℕ → List ℕ → model.Reading) → ((R : model.Reader) (v rest : List ℕ) → taken e R h.tag v rest ≡ takes R v rest)
          → (t' : Tables) (a : Result Reading FileRefusal) → Took e takes r (value_of h b) (h.length + 3) t t' a → FieldRead r b t t' a
      field_taken h q e x takes how t' a w =
          record {
            lacking = λ k. absurd (true≢false (sym k ∙ s));
            reads = λ k R g y.
                subst (λ (m : model.Reading). Says a b t' m × Left a t t') (sym (by_head R g 0 q.0 ∙ same R (sym g.expected ∙ x))) (w.reads s R g (sym g.expected ∙ x) y b);
            refused = w.refused;
            within = λ r' u y.
                let d = w.within r' u y in
                let k = used_within (expected_of r.expected) b h q in
                (omega arith, omega arith);
          }
        where
          same : (R : model.Reader) → R.expected ≡ e → headed 0 R b ≡ takes R (value_of h b) (drop (h.length + 3) b)
          same R y =
              let E = expected_of r.expected in
              let value = take (length_at b) (drop 3 b) in
              let rest = drop (length_at b) (drop 3 b) in
              let k : taken e R (get_or b 0 0) value rest ≡ takes R (value_of h b) (drop (h.length + 3) b) =
              rw (← tag_is E b h q, ← value_is E b h q, ← rest_is E b h q) (how R (value_of h b) (drop (h.length + 3) b)) in
              ap (λ (m : model.Expected). taken m R (get_or b 0 0) value rest) y ∙ k

-- field 03, or FF
pub is_batch : (n : ℕ) → n ≡ 3 → (R : model.Reader) (v rest : List ℕ) → taken model.batches R n v rest ≡ take_batch R v rest
is_batch n k R v rest = rw (eq-eqb n 3 k) refl

pub is_end : (n : ℕ) → (n ≡ 3 → ⊥) → (R : model.Reader) (v rest : List ℕ) → taken model.batches R n v rest ≡ take_end R rest
is_end n k R v rest = rw (ne_eqb n 3 k) refl
