use Rattle.std.proofs.Common.{List, subst, take}
use Rattle.std.specs.Prelude.{is_some}
use Rattle.std.proofs.lemmas.List.{take_all}
use Rattle.policy_table.specs.Tables.{Fields}
use Rattle.role_domain.specs.Domains.{found}
use Rattle.role_domain.specs.Helps.Tallies.{Brings}
use Rattle.role_domain.proofs.BringLemmas.{brings_next, brings_none}
use Rattle.role_domain.proofs.domain_steps.gather.Goals as goal

pub loop-row-init : goal.loop-row-init
loop-row-init c = λ text. brings_none c.args.fit (is_some (found c.args.domains.now.entries text)) text c.new-tallies.result c.new-tallies.ensures

pub loop-row-preserved : goal.loop-row-preserved
loop-row-preserved c = λ text.
    brings_next c.args.fit (is_some (found c.args.domains.now.entries text)) text c.args.rows.now c.loop-row.row-index c.row-item.result c.add.new.tallies c.loop-row-test.true c.row-item.is
    (c.in_ok-add.ensures text (take c.loop-row.row-index c.args.rows.now) (c.loop-row.invariant text))

pub returns : goal.returns
returns c = λ text.
    subst (λ (l : List Fields). Brings c.args.fit (is_some (found c.args.domains.now.entries text)) text l c.loop-row.tallies) (take_all c.loop-row.row-index c.args.rows.now c.loop-row-test.false) (c.loop-row.invariant text)
