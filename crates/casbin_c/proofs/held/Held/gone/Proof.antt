use Rattle.std.proofs.Common.{List, [], ◌∷◌, ◌++◌, refl, sym, subst}
use mir.Val.{Val}
use base.Logic.{SProp, ent, id⊢}
use base.Fml.{ftrue}
use prog.Wp.{WpFn}
use types.Kit.{‵, raw, ◌⊛◌, ◌$◌, ◌∵◌, !, qed, by, move, keep, split, fsplit, fjoin, suffices}
use types.Run.{of_opd, returns, enter}
use types.ByLocal.{alloc_all, pass_all, free_all, look_at, sets}
use contract.Running.{tables}
use denote.Exit.{yes}
use denote.RattleType.{RattleType, owns}
use denote.Signature.{types_at, plain}
use denote.RawPtr.{Ptr}
use denote.Steps.{nothing}
use denote.Triple.Walked.{Stays, stay_dropped, walk_of, Goes-dropped}
use Rattle.std.proofs.raw_atomic.Walks.{proved_at, leaves}
use Rattle.casbin_c.specs.contracts.held.Held as row
use Rattle.casbin_c.proofs.Values.{Z, word, held_out}
use Rattle.casbin_c.specs.contracts.held.Held.gone.{ended, clauses}
use Rattle.casbin_c.specs.contracts.held.Held.gone.Key.{name as #self}
use Rattle.casbin_c.proofs.held.Held.gone.Statement.{statement}
use Rattle.casbin_c.proofs.held.Held.gone.Code as code
use mir.Val.{vunit}
use mir.Syntax.{ty_ptr}
use mir.Val.{has_ty, WT}
use lib.Dec.{T}
use mathlib.Core.Bool.{true, ◌&&◌}
use denote.Param.{layout}
use denote.RawPtr.{ptr_val}
use types.Run.{unit_lit}
use types.Kit.{feq_i}
use Rattle.core.proofs.atomic.Steps.{Ptr-Good}
use Rattle.loose_box.proofs.Values.{both_tt}

pub gone_spec : {M : Type 1} → statement M
gone_spec 𝓤 𝓛 𝓜 𝓡 wired =
    let H = 𝓛.H in let 𝓣 = tables 𝓤 H 𝓜 𝓡 𝓡.env in let Hr : RattleType = row.the_row in let c = clauses 𝓛 𝓜.mem 𝓡.returns in
    let fn = code.function in let hs : Stays ended.signature.params ended.kept = (stay_dropped (plain (λ _. Hr)) yes, tt) in
    proved_at 𝓛 ended hs c 𝓜 𝓡 (Goes-dropped 𝓛 0 (plain (λ _. Hr)) yes (λ κs x f. refl), tt) #self fn (code.unfolded 𝓤 H 𝓜 𝓡 wired) (λ z are.
    let κs = z.0.0 in let v = z.0.3.0 in let p : Ptr = v.at in let Post : Val → SProp 𝓤 = (walk_of 𝓛 ended hs c).post z in let Run : List Val → SProp 𝓤 = λ ws. WpFn 𝓤 H 𝓣.C 𝓣.Λ fn ws Post in
    qed 𝓛 ((‵ ftrue ⊛ ‵ (owns (types_at ended.signature.params κs) z.0.3 z.0.4)) ∷ raw ((c κs z.0.3).requires z.1) ∷ []) ∵ split ! $ move ! (1 ∷ []) $ fsplit ! $ held_out ! v z.0.4.0 (λ h ws fits.
    let w : Val = word p h in
    let typed : T (has_ty ty_ptr (ptr_val p) && (has_ty (layout Z) h && true)) × WT w = (both_tt (has_ty ty_ptr (ptr_val p)) (has_ty (layout Z) h) (Ptr-Good p).0 fits.0, ((Ptr-Good p).1, (fits.1, tt))) in
    suffices ! (Run (w ∷ [])) (subst (λ (us : List Val). ent 𝓤 (Run (w ∷ [])) (Run us)) (sym (λ i. ws i ++ [])) (id⊢ 𝓤 (Run (w ∷ [])))) $
    enter ! 𝓣.C 𝓣.Λ fn (w ∷ []) Post $ alloc_all ! (λ l. pass_all ! refl (typed, tt) $
    sets ! (of_opd ! (unit_lit !)) refl (tt, tt) $
    nothing ! $ feq_i ! (List Val) (vunit ∷ []) (vunit ∷ []) refl $ nothing ! $ nothing ! $ fjoin ! $ nothing ! $
    returns ! (look_at ! 0 refl) $ free_all ! refl $ keep ! (0 ∷ 1 ∷ 2 ∷ 3 ∷ []) $ by ! (leaves 𝓛 ended hs c z vunit tt (tt, tt) (tt, tt)))))
