-- The walk that `check_min` and `check_max` share: `*self = self.g(other);` leaves `f self other` behind the reference, where g returns
-- `f self other`. Of g it knows only its contract. The signatures are those of `check_min` and `least`, which `check_max` and `greatest` have too.
--     code g           the MIR, over the callee's name
--     ByValue f        the callee's contract.        Lent f        the caller's
--     stores           the caller's theorem, from the callee's
-- Assumes nothing.
use Rattle.std.proofs.Common.{◌≡◌, ℕ, true, List, [], ◌∷◌, refl, MutBor}
use seplogic.Ra.Ura.{Ura}
use base.Fraction.{full_share}
use lib.Ieee.{Float, binary64, fits}
use mir.Syntax.{Callee, Fn, named, mut, ty_unit, ty_float, ty_ref, local, value_local, place, deref, copy, opd_unit, rv_opd, seq, assign, call, return}
use mir.Val.{Val, vunit, vfloat, vptr}
use base.Logic.{SProp, ent, sep, emp, via, fst∗, snd∗, ex_e, id⊢}
use base.Fml.{GName, Lft, Share, ftrue, flft, fobs, fbor}
use prog.Model.{Model}
use prog.Routine.{Routine, Env}
use prog.Wp.{Calls, Loops, WpFn, Closed}
use types.Logic.{Logic, sem}
use contract.Monad.{fact}
use contract.Running.{Running, tables, tables_of}
use types.Kit.{‵, raw, ◌⊛◌, some, later, ◌$◌, ◌∵◌, !, qed, by, move, keep, drop, use1, split, join, pick, fsplit, fsplit3, fjoin, fjoin3, feq_i, suffices, frame, await, done}
use types.Run.{look, look_raw, init, store_raw, forget, stop, hop, from, load, unit_lit, of_opd, and_then, no_more, assigns, land, returns, enter, alloc1, alloc0, params1, pass1, pass0, free1, free0}
use types.SemTy.{Body}
use sound.WpLaws.{FmC, fm_of, WpFn-mono}
use denote.RattleType.{RattleType, owns}
use denote.Laws.{Is, shows}
use denote.Memory.{mem, pointee}
use denote.Floats.{float_vals, float_Tells, float_Makes, passes}
use denote.Builtin.{f64}
use denote.Ref.{MutRef, mut_vals, mut_Tells}
use denote.Signature.{plain}
use denote.Steps.{opens, closes, owned, peeks, heard, nothing}
use denote.Struct.Steps.{spelt}
use denote.Struct.Laws as LL
use denote.Triple.Statement.{Contract, Triple}
use denote.Triple.Call.{calls_at}
use denote.Triple.Clauses.{Clauses, closing, ensured, lasts}
use denote.Triple.Entry.{on_entry}
use denote.Triple.Spec.{triple_of}
use denote.Triple.Table.{entered, cited}
use denote.Triple.Walked.{says, Stays, stay_ref, stay_none, walk_of, Goes-none, Goes-ref, ends_at, walked, walk_Meets}
use denote.Exit.{yes}
use Rattle.segment.specs.declared.search.SearchF64.{SearchF64}
use Rattle.segment.specs.contracts.search.SearchF64 as T
use Rattle.segment.proofs.search.SearchF64.TheLaws as T'
use Rattle.segment.specs.contracts.search.SearchF64.check_min as lent
use Rattle.segment.specs.contracts.search.SearchF64.least as by_value

abbrev R : RattleType
R = T.the_row

abbrev vals : SearchF64 → List Val
vals = LL.vals T.the_type T'.the_laws

abbrev pub code : Callee → Fn
code g = record {
  lifetimes = 1;
  outlives = [];
  ty_params = [];
  givens = 0;
  params = 2;
  locals = local ty_unit value_local ∷ local (ty_ref (named 0) mut (pointee R.written)) value_local ∷ local (ty_float binary64) value_local ∷ local T'.mir value_local ∷ local T'.mir value_local ∷ [];
  body = seq (assign (place 4 []) (rv_opd (copy (place 1 (deref T'.mir ∷ []))))) (seq (call g (copy (place 4 []) ∷ copy (place 2 []) ∷ []) (place 3 [])) (seq (assign (place 1 (deref T'.mir ∷ [])) (rv_opd (copy (place 3 [])))) (seq (assign (place 0 []) (rv_opd opd_unit)) return)));
}

abbrev stayed : Stays (lent.ended).signature.params (lent.ended).kept
stayed = (stay_ref (0 ∷ []) tt (plain (λ _. R)), (stay_none (λ _. f64) yes, tt))

module _ (f : SearchF64 → Float → SearchF64) {M : Type 1} {𝓤 : Ura M} (𝓛 : Logic 𝓤) where
  open 𝓛 use {H, A}

  abbrev value_clauses : Clauses 𝓤 by_value.ended
  value_clauses κs a = record { ghost = Unit {0}; requires = λ _. emp 𝓤; ensures = λ _ r _. fact 𝓤 (r ≡ f a.0 a.1.0) }

  abbrev pub lent_clauses : Clauses 𝓤 lent.ended
  lent_clauses κs a = record { ghost = Unit {0}; requires = λ _. emp 𝓤; ensures = λ _ _ e. fact 𝓤 (e.0.now ≡ f a.0.now a.1.0) }

  abbrev pub ByValue : Contract 𝓤
  ByValue = triple_of 𝓛 by_value.signature (closing 𝓛 by_value.ended value_clauses)

  abbrev pub Lent : Contract 𝓤
  Lent = triple_of 𝓛 lent.signature (closing 𝓛 lent.ended lent_clauses)

  -- of what the callee ensures, the clause alone: it has no `&mut`
  answered : (h : SearchF64) (a : Float) (r : SearchF64) → ent 𝓤 (ensured 𝓛 by_value.ended value_clauses tt (h, (a, tt)) tt r) (fact 𝓤 (r ≡ f h a))
  answered h a r = ex_e 𝓤 _ (λ ws. snd∗ 𝓤 (sem 𝓛 (lasts by_value.ended tt (h, (a, tt)) ws)) (fact 𝓤 (r ≡ f h a)))

  module _ (κ : Lft) (q : Share) (b o : ℕ) (γ : GName) (h : SearchF64) (a : Float) (a-fits : fits binary64 a ≡ true) where
    abbrev x : MutBor SearchF64 × (Float × Unit {0})
    x = (record { ref_ptr = (b, o); ghost_name = γ; now = h }, (a, tt))

    abbrev at : List Val × (List Val × Unit {0})
    at = (vptr b o ∷ [], (vfloat binary64 a ∷ [], tt))

    abbrev Post : Val → SProp 𝓤
    Post = (walk_of 𝓛 lent.ended stayed lent_clauses).post (((κ, tt), (q, tt), tt, x, at), tt)

    -- what the callee's triple binds outside, and asks
    abbrev passed : ByValue.Ghost
    passed = ((tt, tt, tt, (h, (a, tt)), (vals h, (vfloat binary64 a ∷ [], tt))), tt)

    passes_on : ent 𝓤 (sem 𝓛 (R.own_val h (vals h))) (ByValue.pre passed)
    passes_on =
        qed 𝓛 (‵ (R.own_val h (vals h)) ∷ []) ∵ nothing ! $ owned ! f64 (Is f64) (float_Makes 𝓛 binary64) a _ (refl, a-fits) $ join ! $ move ! (1 ∷ 0 ∷ []) $ join ! $
        nothing ! $ join ! $ frame ! $ done !

    exits : (r : SearchF64) → r ≡ f h a → ent 𝓤 (sep 𝓤 (A.obs γ (R.coded.code r)) (sep 𝓤 (A.bor κ (Body (mem R) b o γ)) (A.lft κ q))) (Post vunit)
    exits r e =
        qed 𝓛 (‵ (fobs γ (R.coded.code r)) ∷ ‵ (fbor κ (Body (mem R) b o γ)) ∷ ‵ (flft κ q) ∷ []) ∵
        suffices ! _ (ends_at 𝓛 lent.ended stayed lent_clauses (((κ, tt), (q, tt), tt, x, at), tt) vunit tt (r, (tt, tt)) (tt, (tt, tt))) $ says ! e $ nothing ! $ move ! (3 ∷ 0 ∷ []) $ join ! $
        frame ! $ feq_i ! (List Val) (vptr b o ∷ []) (vptr b o ∷ []) refl $ fjoin3 ! $ nothing ! $ owned ! f64 (Is f64) (float_Makes 𝓛 binary64) a _ (refl, a-fits) $ fjoin ! $ move ! (1 ∷ 0 ∷ []) $ fjoin ! $
        feq_i ! (List Val) (vunit ∷ []) (vunit ∷ []) refl $ move ! (1 ∷ 0 ∷ []) $ done !

    module _ (C : Calls 𝓤 H) (Λ : Loops 𝓤 H) (fm : FmC 𝓤 H 𝓛.laws C) (g : Callee) (known : Triple 𝓤 (C g) ByValue) where
      walk : ent 𝓤 (on_entry 𝓛 lent.signature (κ, tt) (q, tt) x at) (WpFn 𝓤 H C Λ (code g) (vptr b o ∷ vfloat binary64 a ∷ []) Post)
      walk =
          qed 𝓛 ((‵ (flft κ q) ⊛ ‵ ftrue) ∷ ‵ (owns (MutRef (named 0) κ R ∷ f64 ∷ []) x at) ∷ []) ∵ enter ! C Λ (code g) (vptr b o ∷ vfloat binary64 a ∷ []) _ $
          alloc1 ! (λ l₀. alloc1 ! (λ l₁. alloc1 ! (λ l₂. alloc1 ! (λ l₃. alloc1 ! (λ l₄. alloc0 ! $ params1 ! $ pass1 ! (init ! 6 refl (tt, tt)) $ pass1 ! (init ! 4 refl (tt, passes _ a-fits)) $ pass0 ! $
          move ! (11 ∷ []) $ fsplit ! $ fsplit3 ! $ drop ! $ move ! (13 ∷ []) $ split ! $ move ! (2 ∷ 3 ∷ 0 ∷ []) $
          opens ! tt R {h = h} b o (λ vs. spelt ! R (Is R) (shows 𝓛 R) vals (LL.tells T.the_type T'.the_laws) full_share h vs b o $
          move ! (1 ∷ []) $ peeks ! R (Is R) (shows 𝓛 R) h (vals h) (λ was.
          -- [what the struct owns; its cell; the open borrow; obs; auth; true; what `other` owns; _4; …; _3; …; _2; …; _1; …; room for _0; …]
          assigns ! (of_opd ! (load ! (from ! (hop ! (look ! 13 refl) (stop !))) (look_raw ! 1 refl))) (from ! (stop !)) (init ! 7 refl ((LL.lawful T.the_type T'.the_laws 𝓛).typed h _ was).0) $
          use1 𝓛 (raw (ByValue.pre passed)) passes_on $
          calls_at ! fm ByValue known passed (and_then ! (load ! (from ! (stop !)) (look ! 7 refl)) (and_then ! (load ! (from ! (stop !)) (look ! 11 refl)) (no_more !))) (λ v.
          use1 𝓛 (later (some (λ (r : SearchF64). (‵ ftrue ⊛ ‵ (R.own_val r (v ∷ []))) ⊛ raw (ensured 𝓛 by_value.ended value_clauses tt (h, (a, tt)) tt r)))) (id⊢ 𝓤 _) $ await ! tt $ pick ! (λ r.
          split ! $ move ! (1 ∷ []) $ use1 𝓛 (raw (fact 𝓤 (r ≡ f h a))) (answered h a r) $ heard ! (r ≡ f h a) (λ e. split ! $ drop ! $
          peeks ! R (Is R) (shows 𝓛 R) r (v ∷ []) (λ is.
          -- [what the result owns; the struct's cell; and the rest as before]
          land ! (from ! (stop !)) (init ! 9 refl ((LL.lawful T.the_type T'.the_laws 𝓛).typed r _ is).0) $
          assigns ! (of_opd ! (load ! (from ! (stop !)) (look ! 9 refl))) (from ! (hop ! (look ! 13 refl) (stop !))) (store_raw ! 1 refl ((LL.lawful T.the_type T'.the_laws 𝓛).typed r _ is).0) $
          assigns ! (of_opd ! (unit_lit !)) (from ! (stop !)) (init ! 15 refl (tt, tt)) $
          move ! (1 ∷ 0 ∷ []) $ closes ! tt R r (v ∷ []) b o $
          returns ! (look ! 13 refl) $ forget ! 5 refl $ forget ! 7 refl $ forget ! 9 refl $ forget ! 11 refl $ forget ! 13 refl $
          move ! (13 ∷ 14 ∷ []) $ free1 ! $ move ! (11 ∷ 12 ∷ []) $ free1 ! $ move ! (9 ∷ 10 ∷ []) $ free1 ! $ move ! (7 ∷ 8 ∷ []) $ free1 ! $ move ! (5 ∷ 6 ∷ []) $ free1 ! $ free0 ! $
          keep ! (0 ∷ 1 ∷ 2 ∷ []) $ by ! (exits r e))))))))))))

pub stores : (f : SearchF64 → Float → SearchF64) {M : Type 1} {𝓤 : Ura M} (𝓛 : Logic 𝓤) (𝓜 : Model 𝓤 𝓛.H) (𝓡 : Running 𝓤 𝓛.H 𝓜) (env : Env) (k g : Callee) (callee : Routine)
    → Closed 𝓤 𝓛.H (tables 𝓤 𝓛.H 𝓜 𝓡 env).C (tables 𝓤 𝓛.H 𝓜 𝓡 env).Λ k (code g) → env g ≡ callee
    → Triple 𝓤 (𝓡.run callee) (ByValue f 𝓛) → Triple 𝓤 (𝓡.run (env k)) (Lent f 𝓛)
unfolding tables_of
stores f {𝓤 = 𝓤} 𝓛 𝓜 𝓡 env k g callee closed calls met =
    let C : Calls 𝓤 𝓛.H = (tables 𝓤 𝓛.H 𝓜 𝓡 env).C in
    let Λ : Loops 𝓤 𝓛.H = (tables 𝓤 𝓛.H 𝓜 𝓡 env).Λ in
    let known : Triple 𝓤 (C g) (ByValue f 𝓛) = cited 𝓤 𝓛.H (ByValue f 𝓛) 𝓜 𝓡 env g callee calls met in
    entered 𝓤 𝓛.H (Lent f 𝓛) C Λ k (code g) closed
    (walk_Meets 𝓛 lent.ended stayed (Goes-ref 𝓛 1 0 tt (plain (λ _. R)), (Goes-none 𝓛 1 (λ _. f64) yes (λ κs x l. refl), tt)) (lent_clauses f 𝓛) (WpFn 𝓤 𝓛.H C Λ (code g)) (WpFn-mono 𝓤 𝓛.H 𝓛.laws (tables_of 𝓤 𝓛.H 𝓜 (tables 𝓤 𝓛.H 𝓜 𝓡 env)) (code g))
    (walked 𝓛 lent.ended stayed (lent_clauses f 𝓛) (WpFn 𝓤 𝓛.H C Λ (code g)) (λ κs. (mut_vals, (float_vals binary64, tt))) (λ κs. (mut_Tells (named 0) κs.0 R, (float_Tells binary64, tt)))
    (λ κs qs bounds a _ are. via 𝓤 _ (fst∗ 𝓤 _ (emp 𝓤)) (walk f 𝓛 κs.0 qs.0 a.0.ref_ptr.0 a.0.ref_ptr.1 a.0.ghost_name a.0.now a.1.0 are.1.0.1 C Λ (fm_of 𝓤 𝓛.H 𝓛.laws (tables_of 𝓤 𝓛.H 𝓜 (tables 𝓤 𝓛.H 𝓜 𝓡 env))) g known))))
