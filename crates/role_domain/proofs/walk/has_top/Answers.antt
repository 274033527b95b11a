use Rattle.std.proofs.Common.{◌≡◌, ◌<◌, inl, inr, ◌∙◌, ℕ, [], Some, length, get_or, refl, sym, ap, subst, arith}
use Rattle.std.proofs.lemmas.Bool.{cases_eq, false≢true}
use Rattle.std.proofs.lemmas.List.{get_or_default}
use Rattle.role_domain.specs.Helps.Walks.{inner}
use Rattle.role_domain.proofs.Marks.{field_is}
use Rattle.role_meaning.specs.Links.{HasRoles, role_of}
use Rattle.role_domain.proofs.walk.has_top.Goals as goal

pub returns-then-not-has_roles : goal.returns-then-not-has_roles
returns-then-not-has_roles c =
    let within : c.loop-at.at < length c.args.rows.now = omega arith in
    let here : role_of (get_or c.args.rows.now c.loop-at.at []) ≡ c.field.result.now =
    ap role_of (sym (c.index-rows-at.is ∙ get_or_default c.args.rows.now c.loop-at.at c.index-rows-at.result [] within)) ∙ field_is c.index-rows-at.result 1 c.field.result.now c.field.ensures.value in (
      λ holds. record {
        at = c.loop-at.at;
        within = within;
        marked = c.if-not-marks-at.false;
        top = λ has. false≢true (sym c.if-not-has_roles.true ∙ c.has_roles.ensures.1 (subst (HasRoles (inner c.args.terms) c.args.rows.now (Some c.args.text.now)) here has));
      },
      λ found. refl,
    )

pub loop-at-preserved : goal.loop-at-preserved
loop-at-preserved c = λ place low one.
    let within : c.loop-at.at < length c.args.rows.now = omega arith in
    let here : role_of (get_or c.args.rows.now c.loop-at.at []) ≡ c.field.result.now =
    ap role_of (sym (c.index-rows-at.is ∙ get_or_default c.args.rows.now c.loop-at.at c.index-rows-at.result [] within)) ∙ field_is c.index-rows-at.result 1 c.field.result.now c.field.ensures.value in
    (elim (cases_eq place c.loop-at.at) [
      | inl same ↦ subst (λ (k : ℕ). HasRoles (inner c.args.terms) c.args.rows.now (Some c.args.text.now) (role_of (get_or c.args.rows.now k []))) (sym same)
          (subst (HasRoles (inner c.args.terms) c.args.rows.now (Some c.args.text.now)) (sym here) (c.has_roles.ensures.0 c.if-not-has_roles.false))
      | inr differ ↦ c.loop-at.invariant place (omega arith) one
    ])

pub returns : goal.returns
returns c = (
  λ holds. absurd (false≢true holds),
  λ found. absurd (found.top (c.loop-at.invariant found.at (omega (arith, found.within, c.loop-at-test.false)) found.marked)),
)
