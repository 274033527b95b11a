use Rattle.std.proofs.Common.{◌++◌, List, sym, ap, ◌∙◌, arith}
use Rattle.matcher_read.specs.Calls.{relation_names}
use Rattle.perm_base.specs.declared.shapes.RoleShape.{RoleShape}
use Rattle.model_conf.specs.Relations.{relations_from, relations_of}
use Rattle.model_conf.specs.Helps.Seen.{entries_seen}
use Rattle.model_conf.proofs.EntryLemmas.{relation_declared, relation_none}
use Rattle.model_conf.proofs.relations.read_relations.Goals as goal
use Rattle.model_conf.proofs.relations.read_relations.Goals.{in-Some+in_ok-push, in_default}

pub loop-number-init : goal.loop-number-init
unfolding relations_of
loop-number-init c = ap (λ (l : List RoleShape). l ++ relations_from (entries_seen c.args.entries.now) 1 relation_names) c.new-relations.ensures.items

pub loop-number-preserved : goal.loop-number-preserved
loop-number-preserved c =
    elim c.match-declared.branch [
      | in-Some+in_ok-push w ↦ relation_declared (entries_seen c.args.entries.now) c.loop-number.relations.items _ c.loop-number.number w.in-Some.with_domain c.loop-number.auto.number (omega arith) (sym w.in-Some.is ∙ c.declared.ensures) (ap (λ v. v.items) w.relations-is ∙ w.in_ok-push.ensures.items) c.loop-number.invariant
      | in_default w ↦ relation_none (entries_seen c.args.entries.now) c.loop-number.relations.items _ c.loop-number.number c.loop-number.auto.number (omega arith) (sym w.in_default.is ∙ c.declared.ensures) (ap (λ v. v.items) w.relations-is) c.loop-number.invariant
    ]
