use Rattle.std.proofs.Common.{refl, sym, arith, subst, ◌∙◌, List, ℕ, option_copied, ◌-◌}
use Rattle.std.proofs.lemmas.Bool.{false≢true}
use Rattle.role_meaning.specs.Links.{Reaches}
use Rattle.role_meaning.proofs.Reach.{reaches_itself}
use Rattle.role_meaning.proofs.Tried.{left_all, left_next, left_none, reaches_by, reaches_nowhere, they_agree, they_differ}
use Rattle.role_meaning.proofs.plain.+plainly_reaches.Goals.{else-is_link-via-then-is_link+else-plainly_reaches, else-is_link-via-else-is_link}
use Rattle.role_meaning.proofs.plain.+plainly_reaches.Goals as goal

pub returns-then-eq : goal.returns-then-eq
returns-then-eq t c = (
  λ _. reaches_itself c.args.shape c.args.rows.now (option_copied c.args.domain) c.args.links c.args.x.now c.args.y.now
      (they_agree c.args.x.now c.args.y.now c.eq.result c.eq.ensures c.if-eq.true),
  λ _. refl,
)

pub returns-then-links-eq0 : goal.returns-then-links-eq0
returns-then-links-eq0 t c = (
  λ none. absurd (false≢true none),
  λ reaches. absurd (reaches_nowhere c.args.shape c.args.rows.now (option_copied c.args.domain) c.args.links c.args.x.now c.args.y.now c.if-links-eq0.true
      (they_differ c.args.x.now c.args.y.now c.eq.result c.eq.ensures c.if-eq.false) reaches),
)

pub loop-row-init : goal.loop-row-init
loop-row-init t c = left_all c.args.shape c.args.rows.now (option_copied c.args.domain) (c.args.links - 1) c.args.x.now c.args.y.now

pub returns-then-plainly_reaches : goal.returns-then-plainly_reaches
returns-then-plainly_reaches t c = (
  λ _. reaches_by c.args.shape c.args.rows.now (option_copied c.args.domain) c.args.links c.args.x.now c.args.y.now c.loop-row.row-index c.row-item.result
      c.if-links-eq0.false c.loop-row-test.true c.row-item.is (c.is_link.ensures.0 c.if-is_link.true)
      (subst (λ (role : List ℕ). Reaches c.args.shape c.args.rows.now (option_copied c.args.domain) (c.args.links - 1) role c.args.y.now) c.field_or_empty.ensures
      (c.plainly_reaches.ensures.0 c.if-plainly_reaches.true)),
  λ _. refl,
)

pub loop-row-preserved : goal.loop-row-preserved
loop-row-preserved t c =
    left_next c.args.shape c.args.rows.now (option_copied c.args.domain) (c.args.links - 1) c.args.x.now c.args.y.now c.loop-row.row-index c.row-item.result c.loop-row-test.true c.row-item.is
    (elim c.else-is_link.branch [
      | else-is_link-via-then-is_link+else-plainly_reaches w ↦ λ fits counts reaches. false≢true (sym w.if-plainly_reaches.false
          ∙ w.plainly_reaches.ensures.1 (subst (λ (role : List ℕ). Reaches c.args.shape c.args.rows.now (option_copied c.args.domain) (c.args.links - 1) role c.args.y.now) (sym w.field_or_empty.ensures) reaches))
      | else-is_link-via-else-is_link w ↦ λ fits counts reaches. false≢true (sym w.if-is_link.false ∙ c.is_link.ensures.1 (fits, counts))
    ])
    c.loop-row.invariant

pub returns : goal.returns
returns t c = (
  λ none. absurd (false≢true none),
  λ reaches. absurd (left_none c.args.shape c.args.rows.now (option_copied c.args.domain) c.args.links c.args.x.now c.args.y.now c.loop-row.row-index (omega arith)
      (they_differ c.args.x.now c.args.y.now c.eq.result c.eq.ensures c.if-eq.false) c.loop-row.invariant reaches),
)
