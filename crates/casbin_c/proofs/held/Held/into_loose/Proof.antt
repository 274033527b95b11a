use Rattle.std.proofs.Common.{◌≡◌, List, [], ◌∷◌, ◌++◌, refl, sym, subst}
use mir.Val.{Val, vptr}
use mir.Raw.{raw as bare}
use base.Logic.{SProp, ent, emp, id⊢, fst∗, never}
use base.Fml.{ftrue}
use denote.Memory.{lone}
use types.Logic.{sem}
use Rattle.std_alloc.specs.Box.Ownership.{box_owns}
use prog.Wp.{WpFn}
use types.Kit.{‵, raw, ◌⊛◌, ◌$◌, ◌∵◌, !, qed, by, move, keep, split, fsplit, fjoin, suffices, use0, rewrite}
use types.Run.{stop, fld, of_opd, no_more, and_then, returns, enter}
use types.ByLocal.{alloc_all, pass_all, free_all, look_at, get, get_in, sets}
use types.Part.{agg, sub, whole}
use contract.Monad.{fact, fact_i}
use contract.Running.{tables}
use denote.Exit.{yes}
use denote.RattleType.{RattleType, owns}
use denote.Signature.{types_at, plain}
use denote.RawPtr.{Ptr, block_ptr, null_ptr, in_a_block}
use denote.Steps.{nothing, heard}
use denote.Triple.Walked.{Stays, stay_dropped, walk_of, Goes-dropped}
use Rattle.std.specs.Prelude.{Option, Some, None, IsSome}
use Rattle.std.proofs.raw_atomic.Walks.{proved_at, leaves}
use Rattle.std.proofs.alloc.Global.TheLaws as heap_laws
use Rattle.std.specs.contracts.impls.GlobalAllocator.TheImpl.{ghosts}
use Rattle.loose_box.proofs.Values.{both, loose_good, loose_in}
use Rattle.casbin_c.specs.Held.{held}
use Rattle.casbin_c.specs.contracts.held.Held as row
use Rattle.casbin_c.proofs.Values.{Z, R, word, held_out}
use Rattle.casbin_c.specs.contracts.held.Held.into_loose.{ended, clauses}
use Rattle.casbin_c.specs.contracts.held.Held.into_loose.Key.{name as #self}
use Rattle.casbin_c.proofs.held.Held.into_loose.Statement.{statement}
use Rattle.casbin_c.proofs.held.Held.into_loose.Code as code

some_of : {X : Type 0} (o : Option X) → IsSome o → (x : X) × (o ≡ Some x)
some_of (Some x) is = (x, refl)
some_of None is = cc

pub into_loose_spec : {M : Type 1} → statement M
into_loose_spec 𝓤 𝓛 𝓜 𝓡 wired =
    let H = 𝓛.H in let 𝓣 = tables 𝓤 H 𝓜 𝓡 𝓡.env in let LZ = heap_laws.the_row_laws in let Hr : RattleType = row.the_row in let c = clauses 𝓛 𝓜.mem 𝓡.returns in
    let fn = code.function in let hs : Stays ended.signature.params ended.kept = (stay_dropped (plain (λ _. Hr)) yes, tt) in
    proved_at 𝓛 ended hs c 𝓜 𝓡 (Goes-dropped 𝓛 0 (plain (λ _. Hr)) yes (λ κs x f. refl), tt) #self fn (code.unfolded 𝓤 H 𝓜 𝓡 wired) (λ z are.
    let κs = z.0.0 in let v = z.0.3.0 in let a = v.alloc in let Post : Val → SProp 𝓤 = (walk_of 𝓛 ended hs c).post z in let Run : List Val → SProp 𝓤 = λ ws. WpFn 𝓤 H 𝓣.C 𝓣.Λ fn ws Post in
    qed 𝓛 ((‵ ftrue ⊛ ‵ (owns (types_at ended.signature.params κs) z.0.3 z.0.4)) ∷ raw (fact 𝓤 (IsSome v.inside)) ∷ []) ∵ move ! (1 ∷ []) $ heard ! (IsSome v.inside) (λ is.
    let found = some_of v.inside is in let x = found.0 in
    split ! $ move ! (1 ∷ []) $ fsplit ! $ held_out ! v z.0.4.0 (λ h ws fits.
    rewrite ! 0 (λ (o : Option R.Denot). ‵ (held R a v.at o)) found.1 refl $
    in_a_block ! v.at (λ p. box_owns (ghosts.dealloc_token a) R p x) (fst∗ 𝓤 (never 𝓤) (sem 𝓛 (ghosts.dealloc_token a (bare (lone R.mir)) null_ptr))) (λ b o e.
    let w : Val = both (vptr b o) h in let typed = loose_good R Z LZ ghosts b o h fits in
    let told : z.0.4.0 ≡ w ∷ [] = subst (λ (p : Ptr). z.0.4.0 ≡ word p h ∷ []) e ws in
    suffices ! (Run (w ∷ [])) (subst (λ (us : List Val). ent 𝓤 (Run (w ∷ [])) (Run us)) (sym (λ i. told i ++ [])) (id⊢ 𝓤 (Run (w ∷ [])))) $
    enter ! 𝓣.C 𝓣.Λ fn (w ∷ []) Post $ alloc_all ! (λ l. pass_all ! refl (typed, tt) $
    sets ! (of_opd ! (get_in ! (fld ! refl (stop !)) (sub ! 0 refl (whole !)))) refl (tt, tt) $ sets ! (of_opd ! (get_in ! (fld ! refl (stop !)) (sub ! 1 refl (whole !)))) refl fits $
    sets ! (of_opd ! (get ! refl)) refl (tt, tt) $ sets ! (agg ! (and_then ! (get ! refl) (and_then ! (get ! refl) (no_more !)))) refl typed $
    loose_in R Z LZ ghosts ! b o h a x $
    use0 𝓛 (raw (fact 𝓤 (v.inside ≡ Some x))) (fact_i 𝓤 (v.inside ≡ Some x) (emp 𝓤) found.1) $ nothing ! $ nothing ! $ fjoin ! $ nothing ! $
    returns ! (look_at ! 0 refl) $ free_all ! refl $ keep ! (0 ∷ 1 ∷ 3 ∷ 2 ∷ []) $ by ! (leaves 𝓛 ended hs c z w (record { at = block_ptr b o; alloc = a; value = x }) (tt, tt) (tt, tt)))))))
