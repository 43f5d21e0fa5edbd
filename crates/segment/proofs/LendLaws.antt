-- A search in a local, lent to one comparison and back: the step of a walk over `s.check_min(y)` or `s.check_max(y)`, where s is a local. f is what the comparison leaves behind the reference.
--     lent_out     a local with a search in it is the search in memory.        lent_back    and back
--     passed       the lifetime α and the local b lent for it are what the comparison asks
--     left         what it leaves: the lifetime, and that the search is `f s y` now
--     compares     the step: a lifetime is made, the local is lent for it, the comparison is called, the lifetime ends, and the local holds `f s y`
-- Assumes nothing.
use Rattle.std.proofs.Common.{◌≡◌, ℕ, true, List, [], ◌∷◌, sym, refl, ap, subst, MutBor}
use seplogic.Ra.Ura.{Ura}
use base.Fraction.{full_share}
use lib.Ieee.{Float, binary64, fits}
use mir.Syntax.{Callee, Opd as Operand, Place, named, seq, call}
use mir.Syntax.{Body as Code}
use mir.Val.{Val, vunit, vfloat, vptr}
use base.Logic.{SProp, ent, sep, guard, via, fst∗, snd∗, ex_e, id⊢}
use base.Fml.{GName, ftrue, fsep, fat, flft, fres, flent}
use prog.Wp.{Env, Calls, Loops, Spot}
use types.Logic.{Logic, sem}
use contract.Monad.{fact, fact_use}
use types.Kit.{Item, Post, Seq, runs, lands, ‵, raw, ◌⊛◌, some, given, later, ◌$◌, ◌∵◌, !, qed, move, keep, drop, use1, use2, use3, split, join, pick, learn, check, fsplit, fjoin, fpick, fpack, feq_l, frame, await, updating, now as at_once, done}
use types.Tokens.{lft_new, lft_end}
use types.Run.{Opds, Finds, Writes, land}
use types.SemTy.{Body}
use sound.WpLaws.{FmC}
use denote.RattleType.{RattleType}
use denote.Laws.{Is, shows}
use denote.Memory.{mem, part_at, part_of, cell_at}
use denote.Floats.{float_Makes}
use denote.Plain.{Nothing}
use denote.Builtin.{f64}
use denote.Ref.{MutRef}
use denote.Lend.{lends_ref, ref_back}
use denote.Steps.{only, owned, peeks, nothing}
use denote.Struct.Steps.{spelt}
use denote.Struct.Laws as LL
use denote.Triple.Statement.{Triple}
use denote.Triple.Call.{calls_at}
use denote.Triple.Clauses.{ensured, lasts}
use Rattle.segment.specs.declared.search.SearchF64.{SearchF64}
use Rattle.segment.proofs.SearchWalk.{Lent, lent_clauses}
use Rattle.segment.specs.contracts.search.SearchF64 as T
use Rattle.segment.proofs.search.SearchF64.TheLaws as T'
use Rattle.segment.specs.contracts.search.SearchF64.check_min as lent

abbrev pub R : RattleType
R = T.the_row

abbrev vals : SearchF64 → List Val
vals = LL.vals T.the_type T'.the_laws

-- the struct as one machine value
abbrev head : List Val → Val
head [] = vunit
head (v ∷ l) = v

abbrev pub mach : SearchF64 → Val
mach s = head (vals s)

module _ {M : Type 1} {𝓤 : Ura M} (𝓛 : Logic 𝓤) where
  open 𝓛 use {H, A}

  lent_out : (s : SearchF64) (b : ℕ) → ent 𝓤 (sep 𝓤 (H.at full_share T'.mir b 0 (mach s)) (sem 𝓛 (R.own_val s (mach s ∷ [])))) (sem 𝓛 (part_at R full_share s b 0))
  unfolding part_of
  lent_out s b =
      qed 𝓛 (‵ (fat full_share T'.mir b 0 (mach s)) ∷ ‵ (R.own_val s (mach s ∷ [])) ∷ []) ∵
      use1 𝓛 (‵ (cell_at full_share R.mir (mach s ∷ []) b 0)) (𝓛.laws.at_raw full_share T'.mir b 0 (mach s)) $ fjoin ! $
      fpack ! (List Val) (λ vs. fsep (cell_at full_share R.mir vs b 0) (R.own_val s vs)) (mach s ∷ []) $ done !

  lent_back : (s : SearchF64) (b : ℕ) → ent 𝓤 (sem 𝓛 (part_at R full_share s b 0)) (sep 𝓤 (H.at full_share T'.mir b 0 (mach s)) (sem 𝓛 (R.own_val s (mach s ∷ []))))
  unfolding part_of
  lent_back s b =
      qed 𝓛 (‵ (part_at R full_share s b 0) ∷ []) ∵ fpick ! (λ vs. fsplit ! $ spelt ! R (Is R) (shows 𝓛 R) vals (LL.tells T.the_type T'.the_laws) full_share s vs b 0 $
      use1 𝓛 (‵ (fat full_share T'.mir b 0 (mach s))) (𝓛.laws.raw_at full_share T'.mir b 0 (mach s)) $ done !)

  module _ (f : SearchF64 → Float → SearchF64) (s : SearchF64) (y : Float) (y-fits : fits binary64 y ≡ true) (b α : ℕ) (γ : GName) where
    -- the local b, lent for the lifetime α under the name γ
    abbrev ref : MutBor SearchF64
    ref = record { ref_ptr = (b, 0); ghost_name = γ; now = s }

    abbrev at_call : (Lent f 𝓛).Ghost
    at_call = (((α ∷ [], tt), (full_share, tt), tt, (ref, (y, tt)), (vptr b 0 ∷ [], (vfloat binary64 y ∷ [], tt))), tt)

    passed : ent 𝓤 (sep 𝓤 (A.lft (α ∷ []) full_share) (sem 𝓛 ((MutRef (named 0) (α ∷ []) R).own_val ref (vptr b 0 ∷ [])))) ((Lent f 𝓛).pre at_call)
    passed =
        qed 𝓛 (‵ (flft (α ∷ []) full_share) ∷ ‵ ((MutRef (named 0) (α ∷ []) R).own_val ref (vptr b 0 ∷ [])) ∷ []) ∵
        nothing ! $ move ! (1 ∷ 0 ∷ []) $ join ! $ nothing ! $ owned ! f64 (Is f64) (float_Makes 𝓛 binary64) y _ (refl, y-fits) $ join ! $ move ! (2 ∷ 0 ∷ []) $ join ! $ move ! (1 ∷ 0 ∷ []) $ join ! $ frame ! $ done !

    -- of what the comparison ensures: what the reference has last
    told : (u : Unit {0}) → ent 𝓤 (ensured 𝓛 lent.ended (lent_clauses f 𝓛) (α ∷ [], tt) (ref, (y, tt)) tt u) (A.res γ (R.coded.code (f s y)))
    told u = ex_e 𝓤 _ (λ ws.
        let L : SProp 𝓤 = sem 𝓛 (lasts lent.ended (α ∷ [], tt) (ref, (y, tt)) ws) in
        let E : SProp 𝓤 = fact 𝓤 (ws.0 ≡ f s y) in
        fact_use 𝓤 (ws.0 ≡ f s y) (snd∗ 𝓤 L E) (λ e.
        subst (λ (w : SearchF64). ent 𝓤 (sep 𝓤 L E) (A.res γ (R.coded.code w))) e (via 𝓤 L (fst∗ 𝓤 L E) (qed 𝓛 (‵ (lasts lent.ended (α ∷ [], tt) (ref, (y, tt)) ws) ∷ []) ∵ fsplit ! $ fsplit ! $ keep ! (0 ∷ []) $ done !))))

    left : (v : Val) → ent 𝓤 ((Lent f 𝓛).post at_call v) (H.⇛ (guard 𝓤 (v ≡ vunit) (sep 𝓤 (A.lft (α ∷ []) full_share) (A.res γ (R.coded.code (f s y))))))
    left v =
        qed 𝓛 (raw ((Lent f 𝓛).post at_call v) ∷ []) ∵ updating ! $
        use1 𝓛 (later (some (λ (u : Unit {0}). ((‵ (flft (α ∷ []) full_share) ⊛ ‵ ftrue) ⊛ ‵ (Nothing.own_val u (v ∷ []))) ⊛ raw (ensured 𝓛 lent.ended (lent_clauses f 𝓛) (α ∷ [], tt) (ref, (y, tt)) tt u)))) (id⊢ 𝓤 _) $ await ! tt $ pick ! (λ u.
        split ! $ move ! (1 ∷ []) $ use1 𝓛 (‵ (fres γ (R.coded.code (f s y)))) (told u) $ move ! (1 ∷ []) $ split ! $ move ! (1 ∷ []) $ feq_l ! (λ e. at_once ! $ check ! (ap only e) $ split ! $ keep ! (0 ∷ 2 ∷ []) $ done !))

  -- ---- the local l holds s; what is read for the call, and where its unit lands, stands further on
  module _ {K : Type 0} {E : Env 𝓤 H} {C : Calls 𝓤 H} {Λ : Loops 𝓤 H} {q : Post 𝓤 H} {rest : Code} {xs : List Operand} {d : Place} {g : Callee} {Γ Γ' : List (Item 𝓤)} {sp : Spot 𝓤 H} where
    pub compares : K → (f : SearchF64 → Float → SearchF64) (s : SearchF64) (y : Float) (l : ℕ) → FmC 𝓤 H 𝓛.laws C → Triple 𝓤 (C g) (Lent f 𝓛) → fits binary64 y ≡ true → Is R s (mach s ∷ [])
        → ((a b : Item 𝓤) → Opds K 𝓛 (a ∷ b ∷ Γ) E xs (vptr l 0 ∷ vfloat binary64 y ∷ []))
        → ((a b c : Item 𝓤) → Finds K 𝓛 (a ∷ b ∷ c ∷ Γ) E d sp) → ((a b c : Item 𝓤) → Writes K 𝓛 (a ∷ b ∷ c ∷ Γ) sp.0 sp.1 sp.2 vunit (a ∷ b ∷ c ∷ Γ'))
        → (Is R (f s y) (mach (f s y) ∷ []) → Seq K 𝓛 (‵ (fat full_share T'.mir l 0 (mach (f s y))) ∷ Γ') (runs C Λ E rest q))
        → Seq K 𝓛 (‵ (fat full_share T'.mir l 0 (mach s)) ∷ Γ) (runs C Λ E (seq (call g xs d) rest) q)
    compares t f s y l fm known y-fits is reads finds writes then =
        owned t R (Is R) (LL.makes T.the_type T'.the_plain 𝓛) s _ is $ move t (1 ∷ 0 ∷ []) $ use2 𝓛 (‵ (part_at R full_share s l 0)) (lent_out s l) $
        lft_new t tt (λ α. move t (1 ∷ []) $
        use1 𝓛 (later (some (λ (γ : GName). ‵ ((MutRef (named 0) (α ∷ []) R).own_val (ref f s y y-fits l α γ) (vptr l 0 ∷ [])) ⊛ ‵ (flent (α ∷ []) (Body (mem R) l 0 γ))))) (lends_ref 𝓛 R (named 0) (α ∷ []) s l 0) $ await t tt $ pick t (λ γ. split t $
        move t (2 ∷ 0 ∷ []) $ use2 𝓛 (raw ((Lent f 𝓛).pre (at_call f s y y-fits l α γ))) (passed f s y y-fits l α γ) $
        calls_at t fm (Lent f 𝓛) known (at_call f s y y-fits l α γ) (reads _ _) (λ v.
        use1 𝓛 (later (given (v ≡ vunit) (‵ (flft (α ∷ []) full_share) ⊛ ‵ (fres γ (R.coded.code (f s y)))))) (left f s y y-fits l α γ v) $ await t tt $ learn t (λ e. subst (λ (u : Val). Seq K 𝓛 ((‵ (flft (α ∷ []) full_share) ⊛ ‵ (fres γ (R.coded.code (f s y)))) ∷ ‵ (flent (α ∷ []) (Body (mem R) l 0 γ)) ∷ Γ) (lands C Λ E d u rest q)) (sym e) (split t $
        land t (finds _ _ _) (writes _ _ _) $
        lft_end t tt $ move t (0 ∷ 2 ∷ 1 ∷ []) $ use3 𝓛 (later (‵ (part_at R full_share (f s y) l 0))) (ref_back 𝓛 R (α ∷ []) γ (f s y) l 0) $ await t tt $
        use1 𝓛 (‵ (fat full_share T'.mir l 0 (mach (f s y))) ⊛ ‵ (R.own_val (f s y) (mach (f s y) ∷ []))) (lent_back (f s y) l) $ split t $ move t (1 ∷ []) $
        peeks t R (Is R) (shows 𝓛 R) (f s y) (mach (f s y) ∷ []) (λ i. drop t $ then i))))))
