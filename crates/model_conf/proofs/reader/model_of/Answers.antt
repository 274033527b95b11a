use Rattle.std.proofs.Common.{ℕ, List, sym, ap, ◌∙◌, subst}
use Rattle.std.proofs.lemmas.Result.{err_from_is_err_and}
use Rattle.perm_base.specs.declared.shapes.RoleShape.{RoleShape}
use Rattle.model_conf.specs.Columns.{AreColumns}
use Rattle.model_conf.specs.Effects.{may_have}
use Rattle.model_conf.specs.Relations.{relations_of}
use Rattle.model_conf.specs.Kept.{AreRelations, IsPartOfLine}
use Rattle.matcher_read.specs.Matcher.{IsMatcher}
use Rattle.matcher_read.specs.Expression.{expression}
use Rattle.std.specs.Prelude.{option_map, IsUtf8}
use Rattle.model_conf.specs.Helps.Misuses.{misuse_of}
use Rattle.model_conf.specs.Helps.Outlines.{values_seen}
use Rattle.model_conf.specs.Helps.Seen.{entries_seen}
use Rattle.model_conf.specs.Uses.{first_undeclared, uses}
use Rattle.model_conf.proofs.EffectLemmas.{has_allowed}
use Rattle.model_conf.proofs.KeptLemmas.{relations_kept}
use Rattle.model_conf.proofs.MatcherLemmas.{all_declared, missing_settled, no_memory_of, settled_by_fault, settled_by_tree, settled_for, stops_matcher, stops_misuse, stops_missing}
use Rattle.model_conf.proofs.reader.model_of.Goals as goal

pub returns-in_err-values-clause-fault : goal.returns-in_err-values-clause-fault
returns-in_err-values-clause-fault c =
    let p = err_from_is_err_and c.from_residual.result c.from_residual.ensures.1 in
    rw (p.1, p.2) (λ other. stops_missing _ _ c.in_err-values.ensures.values)

pub returns-in_err-values-clause-settled : goal.returns-in_err-values-clause-settled
returns-in_err-values-clause-settled c = λ v effect is.
    let p = err_from_is_err_and c.from_residual.result c.from_residual.ensures.1 in
    rw (p.1, p.2) (λ other. missing_settled _ _ v effect c.in_err-values.ensures.values is)

pub returns-in_err-tree-clause-fault : goal.returns-in_err-tree-clause-fault
returns-in_err-tree-clause-fault c =
    let p = err_from_is_err_and c.from_residual-in_err-tree.result c.from_residual-in_err-tree.ensures.1 in
    let stop = c.in_err-tree.field-0.0 in
    rw (p.1, p.2) (λ other. stops_matcher _ _ c.in_ok-outline.outline.effect stop c.in_ok-outline.ensures.has c.in_err-tree.ensures.fault other)

pub returns-in_err-tree-clause-settled : goal.returns-in_err-tree-clause-settled
returns-in_err-tree-clause-settled c = λ v effect is.
    let p = err_from_is_err_and c.from_residual-in_err-tree.result c.from_residual-in_err-tree.ensures.1 in
    let stop = c.in_err-tree.field-0.0 in
    rw (p.1, p.2) (λ other.
    let settled = settled_by_fault c.in_ok-values.values.matcher.now stop (no_memory_of stop other) (λ e one. c.in_err-tree.ensures.only e one) (λ first one. c.in_err-tree.ensures.only_fault first one) in
    settled_for _ (values_seen c.in_ok-values.values) v c.in_ok-outline.outline.effect effect c.in_ok-outline.ensures.has is settled)

pub returns-in-Some-clause-fault : goal.returns-in-Some-clause-fault
returns-in-Some-clause-fault c = λ other.
    let outline = c.in_ok-outline.outline in
    let e = expression c.in_ok-tree.tree in
    stops_misuse _ (values_seen c.in_ok-values.values) outline e c.in-Some.misuse _ c.in_ok-outline.ensures c.in_ok-tree.ensures.found
    (c.in-Some.ensures ∙ ap (λ x. option_map misuse_of (first_undeclared outline.request outline.policy x (uses e))) c.deref.ensures.value) c.misuse_fault.ensures

pub returns-in-Some-clause-settled : goal.returns-in-Some-clause-settled
returns-in-Some-clause-settled c = λ v effect is other.
    let settled = settled_by_tree c.in_ok-values.values.matcher.now (expression c.in_ok-tree.tree) (λ e one. c.in_ok-tree.ensures.only e one) (λ first one. c.in_ok-tree.ensures.only_fault first one) in
    settled_for _ (values_seen c.in_ok-values.values) v c.in_ok-outline.outline.effect effect c.in_ok-outline.ensures.has is settled

pub from_parts-requires : goal.from_parts-requires
from_parts-requires c =
    let outline = c.in_ok-outline.outline in
    let o = c.in_ok-outline.ensures in
    let e = expression c.in_ok-tree.tree in
    let text = c.in_ok-matcher_text.ensures in
    let part = c.requires _ c.in_ok-values.ensures.values.matcher in
    record {
      request = subst AreColumns (sym o.request) o.has.has.request;
      policy = subst AreColumns (sym o.policy) o.has.has.policy;
      relations = subst AreRelations (sym o.relations) (relations_kept _);
      effect =
          ap (λ (relations : List RoleShape). may_have relations outline.policy outline.effect) o.relations
          ∙ ap (λ (columns : List (List ℕ)). may_have (relations_of (entries_seen c.args.entries.now)) columns outline.effect) o.policy ∙ has_allowed _ _ _ outline.effect o.has.effect_is;
      part = subst IsPartOfLine (sym text) part;
      utf8 = subst IsUtf8 (sym text) c.in_ok-values.ensures.utf8;
      matcher = subst (λ t. IsMatcher t e) (sym text) c.in_ok-tree.ensures.found;
      declared = all_declared outline.request outline.policy outline.relations.items (uses e) (c.in_default.ensures ∙ ap (λ x. option_map misuse_of (first_undeclared outline.request outline.policy x (uses e))) c.deref.ensures.value);
    }

pub returns-clause-settled : goal.returns-clause-settled
returns-clause-settled c = λ v effect is.
    let settled = settled_by_tree c.in_ok-values.values.matcher.now (expression c.in_ok-tree.tree) (λ e one. c.in_ok-tree.ensures.only e one) (λ first one. c.in_ok-tree.ensures.only_fault first one) in
    settled_for _ (values_seen c.in_ok-values.values) v c.in_ok-outline.outline.effect effect c.in_ok-outline.ensures.has is settled
