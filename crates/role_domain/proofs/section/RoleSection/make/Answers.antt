use Rattle.std.proofs.Common.{◌∙◌, List, filter, ap, subst, sym}
use Rattle.perm_base.specs.declared.shapes.TableId.TheVariants.{G}
use Rattle.policy_table.specs.Tables.{Fields, rows}
use Rattle.role_domain.specs.Domains.{AreDomains, ArePatterns}
use Rattle.role_domain.specs.Helps.Turns.{CanTurn, first_turn}
use Rattle.role_domain.specs.Relations.{Relation, has_pattern, terms_of}
use Rattle.role_domain.specs.declared.terms.Terms.{Terms}
use Rattle.role_domain.proofs.SectionLemmas.{first_can, first_patterns, pattern_columns, two_of_each}
use Rattle.role_domain.proofs.section.RoleSection.make.Goals as goal

pub fill-requires : goal.fill-requires
fill-requires c =
    let all : List Fields = rows c.args.tables.now.policy (G c.args.shape.number) in
    let relation : Relation = record { terms = terms_of c.args.shape c.args.limit; rows = all } in
    let are : ArePatterns relation c.in_ok-patterns.patterns.items =
    first_patterns c.args.shape c.terms_of-terms.result c.args.limit (rows c.args.tables.now.policy (G c.args.shape.number)) c.in_ok-patterns.patterns.items c.terms_of-terms.ensures
    (c.in_ok-patterns.ensures ∙ ap (filter (has_pattern c.terms_of-terms.result.domains)) c.rows.ensures.value) c.requires.patterns in
    subst (CanTurn (first_turn c.terms_of-terms.result all) c.new-domains.result) (sym c.deref.ensures.value)
    (first_can c.args.shape c.terms_of-terms.result c.args.limit all c.in_ok-patterns.patterns.items c.new-domains.result c.terms_of-terms.ensures c.new-domains.ensures c.requires.some c.requires.most c.requires.columns c.requires.few are)

pub invariant_of-result : goal.invariant_of-result
invariant_of-result c =
    let all : List Fields = rows c.args.tables.now.policy (G c.args.shape.number) in
    let relation : Relation = record { terms = terms_of c.args.shape c.args.limit; rows = all } in
    let are : ArePatterns relation c.in_ok-patterns.patterns.items =
    first_patterns c.args.shape c.terms_of-terms.result c.args.limit (rows c.args.tables.now.policy (G c.args.shape.number)) c.in_ok-patterns.patterns.items c.terms_of-terms.ensures
    (c.in_ok-patterns.ensures ∙ ap (filter (has_pattern c.terms_of-terms.result.domains)) c.rows.ensures.value) c.requires.patterns in
    record {
      placed = c.requires.placed;
      some = c.requires.some;
      most = c.requires.most;
      columns = pattern_columns relation c.in_ok-patterns.patterns.items are (two_of_each c.args.shape all c.requires.columns);
      few = are.few;
    }

pub returns-clause-section : goal.returns-clause-section
returns-clause-section c =
    let all : List Fields = rows c.args.tables.now.policy (G c.args.shape.number) in
    record {
      columns = c.requires.columns;
      few = c.requires.few;
      domains = subst (λ (t : Terms). AreDomains (record { terms = t; rows = all }) c.fill.new.self.entries) c.terms_of-terms.ensures c.in_ok-fill.ensures;
      patterns = first_patterns c.args.shape c.terms_of-terms.result c.args.limit (rows c.args.tables.now.policy (G c.args.shape.number)) c.in_ok-patterns.patterns.items c.terms_of-terms.ensures
          (c.in_ok-patterns.ensures ∙ ap (filter (has_pattern c.terms_of-terms.result.domains)) c.rows.ensures.value) c.requires.patterns;
    }
