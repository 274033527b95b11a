use Rattle.std.proofs.Common.{◌≡◌, ◌<◌, inl, inr, ◌∙◌, ℕ, [], length, get_or, refl, sym, ap, arith}
use Rattle.std.proofs.lemmas.Bool.{cases_eq}
use Rattle.std.proofs.lemmas.List.{get_or_default}
use Rattle.role_domain.proofs.Marks.{field_is}
use Rattle.role_meaning.specs.Links.{role_of}
use Rattle.role_meaning.proofs.CallerLemmas.{they_agree, they_differ}
use Rattle.role_domain.proofs.walk.has_role.Goals as goal

pub returns-then-eq : goal.returns-then-eq
returns-then-eq c =
    let within : c.loop-at.at < length c.args.rows.now = omega arith in (
      λ holds. (
        c.loop-at.at,
        within,
        c.if-not-marks-at.false,
        ap role_of (sym (c.index-rows-at.is ∙ get_or_default c.args.rows.now c.loop-at.at c.index-rows-at.result [] within)) ∙ field_is c.index-rows-at.result 1 c.field.result.now c.field.ensures.value
            ∙ they_agree c.field.result.now c.args.name.now c.eq.result c.eq.ensures c.if-eq.true,
      ),
      λ found. refl,
    )

pub loop-at-preserved : goal.loop-at-preserved
loop-at-preserved c = λ place low one role.
    let within : c.loop-at.at < length c.args.rows.now = omega arith in
    let here : role_of (get_or c.args.rows.now c.loop-at.at []) ≡ c.field.result.now =
    ap role_of (sym (c.index-rows-at.is ∙ get_or_default c.args.rows.now c.loop-at.at c.index-rows-at.result [] within)) ∙ field_is c.index-rows-at.result 1 c.field.result.now c.field.ensures.value in
    (elim (cases_eq place c.loop-at.at) [
      | inl same ↦ they_differ c.field.result.now c.args.name.now c.eq.result c.eq.ensures c.if-eq.false (sym here ∙ ap (λ (k : ℕ). role_of (get_or c.args.rows.now k [])) (sym same) ∙ role)
      | inr differ ↦ c.loop-at.invariant place (omega arith) one role
    ])
