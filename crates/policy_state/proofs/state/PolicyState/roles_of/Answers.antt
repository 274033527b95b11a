use Rattle.std.proofs.Common.{◌≡◌, ◌+◌, ◌∙◌, All, Err, List, [], ℕ, None, Ok, Option, ap, get_or, length, subst, sym, true}
use Rattle.std.specs.List.{Contains}
use Rattle.std.specs.Option.{option_copied}
use Rattle.std.specs.Prelude.{is_some}
use Rattle.perm_base.specs.declared.shapes.Shapes.{Shapes}
use Rattle.perm_base.specs.declared.shapes.TableId.TheVariants.{G}
use Rattle.policy_query.specs.Answers.{IsAnswer, answer_unless}
use Rattle.policy_query.specs.Names.{is_asked, named_columns, names_beside, names_refusal, roles_answer}
use Rattle.policy_query.specs.declared.refused.QueryRefused.{QueryRefused}
use Rattle.policy_state.specs.States.{tables}
use Rattle.policy_state.proofs.QueryLemmas.{asked_unless, columns_named, copied_some, refused_told, roles_told, same_shape}
use Rattle.policy_table.specs.Tables.{Fields, Policy, rows}
use Rattle.policy_state.proofs.state.PolicyState.roles_of.Goals as goal

-- a query over shapes is not refused where it is not over the same
none_refused : (one other : Shapes) (relation : ℕ) (domain : Option (List ℕ)) (first : Option QueryRefused) → other ≡ one → first ≡ names_refusal other relation domain → first ≡ None → names_refusal one relation domain ≡ None
none_refused one other relation domain first same told none = ap (λ (s : Shapes). names_refusal s relation domain) (sym same) ∙ sym told ∙ none

pub returns-in-Some : goal.returns-in-Some
returns-in-Some c = record {
  answer =
      subst (λ (shapes : Shapes). IsAnswer (roles_answer shapes (tables c.args.self.now) c.args.relation c.args.name.now (option_copied c.args.domain)) (Err c.in-Some.refused)) c.shapes.ensures.shapes
      (refused_told (names_beside 0 1 c.args.name.now (option_copied c.args.domain) (rows (tables c.args.self.now) (G c.args.relation))) c.in-Some.refused (names_refusal c.shapes.result.now c.args.relation (option_copied c.args.domain)) (sym c.names_refusal.ensures ∙ c.in-Some.is));
}

pub section-requires : goal.section-requires
section-requires c = record {
  there =
      ap is_some (asked_unless c.args.self.now.shapes c.args.relation (option_copied c.args.domain)
      (none_refused c.args.self.now.shapes c.shapes.result.now c.args.relation (option_copied c.args.domain) c.names_refusal.result c.shapes.ensures.shapes c.names_refusal.ensures c.in_default.is)).there;
}

pub roles_of-roles-requires : goal.roles_of-roles-requires
roles_of-roles-requires c =
    sym (copied_some c.args.domain)
    ∙ same_shape c.args.self.now.shapes c.args.relation (option_copied c.args.domain) c.section.result.now.shape
    (asked_unless c.args.self.now.shapes c.args.relation (option_copied c.args.domain)
    (none_refused c.args.self.now.shapes c.shapes.result.now c.args.relation (option_copied c.args.domain) c.names_refusal.result c.shapes.ensures.shapes c.names_refusal.ensures c.in_default.is)) c.section.ensures.shape

pub roles_among-requires-clause-columns : goal.roles_among-requires-clause-columns
roles_among-requires-clause-columns c =
    subst (λ (policy : Policy). All (λ (rule : Fields). length rule ≡ named_columns (is_some (option_copied c.args.domain)) + 1) (rows policy (G c.args.relation))) (sym c.tables.ensures.policy)
    (columns_named c.args.self.now.shapes (tables c.args.self.now) c.args.relation (option_copied c.args.domain) c.kept.ensures.sound.shaped
    (asked_unless c.args.self.now.shapes c.args.relation (option_copied c.args.domain)
    (none_refused c.args.self.now.shapes c.shapes.result.now c.args.relation (option_copied c.args.domain) c.names_refusal.result c.shapes.ensures.shapes c.names_refusal.ensures c.in_default.is)))

pub roles_among-requires-clause-among : goal.roles_among-requires-clause-among
roles_among-requires-clause-among c =
    subst (λ (policy : Policy). (rule : Fields) → Contains (rows policy (G c.args.relation)) rule → is_asked 0 c.args.name.now (option_copied c.args.domain) rule ≡ true → Contains c.roles_of-roles.result.now (get_or rule 1 [])) (sym c.tables.ensures.policy)
    (roles_told (tables c.args.self.now) c.args.relation c.args.name.now (option_copied c.args.domain) c.roles_of-roles.result.now
    (columns_named c.args.self.now.shapes (tables c.args.self.now) c.args.relation (option_copied c.args.domain) c.kept.ensures.sound.shaped
    (asked_unless c.args.self.now.shapes c.args.relation (option_copied c.args.domain)
    (none_refused c.args.self.now.shapes c.shapes.result.now c.args.relation (option_copied c.args.domain) c.names_refusal.result c.shapes.ensures.shapes c.names_refusal.ensures c.in_default.is)))
    (c.roles_of-roles.ensures (rows (tables c.args.self.now) (G c.args.relation)) c.section.ensures.section))

pub returns : goal.returns
returns c =
    let X : Policy → List (List ℕ) = λ (policy : Policy). names_beside 0 1 c.args.name.now (option_copied c.args.domain) (rows policy (G c.args.relation)) in
    let none = none_refused c.args.self.now.shapes c.shapes.result.now c.args.relation (option_copied c.args.domain) c.names_refusal.result c.shapes.ensures.shapes c.names_refusal.ensures c.in_default.is in
    record {
      answer =
          subst (λ (names : List (List ℕ)). roles_answer c.args.self.now.shapes (tables c.args.self.now) c.args.relation c.args.name.now (option_copied c.args.domain) ≡ Ok names)
          (ap X (sym c.tables.ensures.policy) ∙ sym c.in_ok-roles_among.ensures) (ap (λ (o : Option QueryRefused). answer_unless o (X (tables c.args.self.now))) none);
    }
