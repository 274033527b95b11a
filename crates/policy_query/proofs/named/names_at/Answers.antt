use Rattle.std.proofs.Common.{◌≡◌, ◌∙◌, IfOk, List, ℕ, ap, arith, length, rules, subst, sym}
use Rattle.std.specs.List.{list_any}
use Rattle.std.specs.Option.{option_copied}
use Rattle.std.specs.Prelude.{is_some}
use Rattle.perm_base.specs.LineEnds.{has_line_end}
use Rattle.policy_table.specs.Tables.{Fields, rows}
use Rattle.policy_table.proofs.CallerLemmas.{different_none}
use Rattle.policy_query.specs.Found.{rows_at}
use Rattle.policy_query.specs.Names.{named_columns}
use Rattle.policy_query.proofs.FoundLemmas.{has_role, names_told, row_here, row_long}
use Rattle.policy_query.proofs.NameLemmas.{Keys, few_names, names_next, names_same, shown, whole_next}
use Rattle.policy_query.proofs.named.names_at.Goals as goal
use Rattle.policy_query.proofs.named.names_at.Goals.{else-is_asked, then-is_asked+in_ok-_new}

pub loop-place-init : goal.loop-place-init
loop-place-init c = (ap shown c.new-names.ensures.empty ∙ sym different_none, ap (λ (keys : Keys). list_any has_line_end (shown keys)) c.new-names.ensures.empty)

pub row-rule-requires : goal.row-rule-requires
row-rule-requires c = c.requires.found.within c.loop-place.place-index _ c.loop-place-test.true

pub is_asked-requires-clause-columns : goal.is_asked-requires-clause-columns
is_asked-requires-clause-columns c =
    let all : List Fields = rows c.args.tables.now.policy c.args.table in
    row_long (named_columns (is_some (option_copied c.args.domain))) all _ c.row-rule.result.now c.row-rule.ensures c.requires.columns

pub text-requires : goal.text-requires
text-requires c =
    let all : List Fields = rows c.args.tables.now.policy c.args.table in
    has_role (is_some (option_copied c.args.domain)) c.args.told (length c.row-rule.result.now) c.requires.told
    (row_long (named_columns (is_some (option_copied c.args.domain))) all _ c.row-rule.result.now c.row-rule.ensures c.requires.columns)

pub loop-place-preserved : goal.loop-place-preserved
loop-place-preserved c =
    let a = c.args in
    let all : List Fields = rows a.tables.now.policy a.table in
    let here = row_here all a.places.now c.loop-place.place-index _ c.row-rule.result.now c.loop-place-test.true c.row-rule.ensures in
    elim c.if-is_asked.branch [
      | then-is_asked+in_ok-_new w ↦ rw w.names-is (
        names_next a.asked a.told a.name.now (option_copied a.domain) (rows_at all a.places.now) c.loop-place.place-index c.row-rule.result.now here c.loop-place.names.keys w.insert.new.self.keys w.text.result (sym c.is_asked.ensures ∙ w.if-is_asked.true) w.text.ensures.value c.loop-place.invariant.0 (search rules),
        whole_next c.loop-place.names.keys w.insert.new.self.keys w.text.result c.loop-place.invariant.1 w.text.ensures.whole_line (search rules),
      )
      | else-is_asked w ↦ rw w.names-is (
        names_same a.asked a.told a.name.now (option_copied a.domain) (rows_at all a.places.now) c.loop-place.place-index c.row-rule.result.now here c.loop-place.names.keys (sym c.is_asked.ensures ∙ w.if-is_asked.false) c.loop-place.invariant.0,
        c.loop-place.invariant.1,
      )
    ]

pub rule_of-requires-clause-few : goal.rule_of-requires-clause-few
rule_of-requires-clause-few c =
    let a = c.args in
    let all : List Fields = rows a.tables.now.policy a.table in
    let told = names_told a.asked a.told a.name.now (option_copied a.domain) all a.places.now c.loop-place.place-index (shown c.loop-place.names.keys) c.loop-place.invariant.0 c.loop-place-test.false c.requires.found in
    omega (arith, few_names a.asked a.told a.name.now (option_copied a.domain) all c.loop-place.names.keys told c.rows-all.ensures.few, ap length c.as_slice.ensures.keys)

pub returns : goal.returns
returns c =
    let a = c.args in
    let all : List Fields = rows a.tables.now.policy a.table in
    let told = names_told a.asked a.told a.name.now (option_copied a.domain) all a.places.now c.loop-place.place-index (shown c.loop-place.names.keys) c.loop-place.invariant.0 c.loop-place-test.false c.requires.found in
    subst (λ (l : List (List ℕ)). IfOk c.rule_of.result (λ (names : List (List ℕ)). names ≡ l)) (ap shown c.as_slice.ensures.keys ∙ told) c.rule_of.ensures
