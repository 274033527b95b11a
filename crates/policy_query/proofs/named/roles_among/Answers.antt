use Rattle.std.proofs.Common.{◌≡◌, ◌+◌, ◌<◌, All, IfOk, List, ℕ, length, sym, subst, arith}
use Rattle.std.specs.Option.{option_copied}
use Rattle.std.specs.Prelude.{is_some}
use Rattle.std.proofs.lemmas.List.Elements.{All-weaker}
use Rattle.perm_base.specs.declared.shapes.TableId.TheVariants.{G}
use Rattle.policy_table.specs.Tables.{Fields, rows}
use Rattle.policy_query.specs.Found.{FindAsked}
use Rattle.policy_query.specs.Helps.Named.{ArePlaced}
use Rattle.policy_query.specs.Names.{named_columns, names_beside}
use Rattle.policy_query.proofs.FoundLemmas.{all_found, found_asked, if_some}
use Rattle.policy_query.proofs.named.roles_among.Goals as goal

-- rows with the columns have the places that are asked
longer : (given : ℕ) (rules : List Fields) → All (λ (rule : Fields). length rule ≡ given + 1) rules → All (λ (rule : Fields). given < length rule) rules
longer given rules all = All-weaker (λ (rule : Fields). length rule ≡ given + 1) (λ (rule : Fields). given < length rule) (λ rule is. omega (arith, is)) rules all

pub names_beside-requires-clause-columns : goal.names_beside-requires-clause-columns
names_beside-requires-clause-columns c =
    let given : ℕ = named_columns (is_some (option_copied c.args.domain)) in
    subst (All (λ (rule : Fields). given < length rule)) (sym c.rows.ensures.value) (longer given (rows c.args.tables.now.policy (G c.args.relation)) c.requires.columns)

pub returns-in_default : goal.returns-in_default
returns-in_default c =
    subst (λ (rules : List Fields). IfOk c.names_beside.result (λ (names : List (List ℕ)). names ≡ names_beside 0 1 c.args.name.now (option_copied c.args.domain) rules)) c.rows.ensures.value c.names_beside.ensures

pub names_at-requires-clause-columns : goal.names_at-requires-clause-columns
names_at-requires-clause-columns c = longer (named_columns (is_some (option_copied c.args.domain))) (rows c.args.tables.now.policy (G c.args.relation)) c.requires.columns

pub names_at-requires-clause-found : goal.names_at-requires-clause-found
names_at-requires-clause-found c =
    let all : List Fields = rows c.args.tables.now.policy (G c.args.relation) in
    subst (FindAsked 0 c.args.name.now (option_copied c.args.domain) all) (sym c.as_slice.ensures.value)
    (found_asked 0 c.args.name.now (option_copied c.args.domain) all c.put_in_order.new.places.items (all_found c.args.name.now (option_copied c.args.domain) c.args.among.now all c.in-Some.places.items c.put_in_order.new.places.items c.requires.columns c.requires.among
    (if_some _ c.in-Some.places c.in-Some.is (λ places. ArePlaced c.args.name.now (option_copied c.args.domain) c.args.among.now all places.items) c.in_ok-places.ensures)
    c.put_in_order.ensures.rising c.put_in_order.ensures.within c.put_in_order.ensures.keeps))
