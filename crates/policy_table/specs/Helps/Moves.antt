-- The domains that changes put into a table and take out of it, and which are new or gone then.
use Rattle.std.specs.Prelude.{ℕ, ◌-◌, ◌==◌, ◌&&◌, nat_lt, not, Bool, List, []}
use Rattle.std.specs.List.{count_by, flat_map}
use Rattle.std.specs.Str.{bytes_eq}
use Rattle.perm_base.specs.declared.shapes.TableId.{TableId}
use Rattle.policy_table.specs.Helps.Counts.{out_of, put_into}
use Rattle.policy_table.specs.Helps.Domains.{Counted, count_of, domain_of}
use Rattle.policy_table.specs.Limits.{domains_of}
use Rattle.policy_table.specs.Tables.{Fields}
use Rattle.policy_table.specs.declared.change.Change.{Change}
use Rattle.policy_table.specs.declared.change.Change.TheVariants.{Insert, Remove, Replace}
use Rattle.policy_table.specs.declared.moved.Way.{Way}
use Rattle.policy_table.specs.declared.moved.Way.TheVariants.{In, Out}

-- the domain of the rule that a change puts in, and an empty text where it puts none in
abbrev pub put_domain : Change → List ℕ
put_domain (Insert table rule) = domain_of rule
put_domain (Remove table rule) = []
put_domain (Replace table old new) = domain_of new

-- how many rules a change puts into its table
abbrev pub puts : Change → ℕ
puts (Insert table rule) = 1
puts (Remove table rule) = 0
puts (Replace table old new) = 1

-- the rules that a change puts into a table, or takes out of it
abbrev pub moved : Way → TableId → Change → List Fields
moved In table change = put_into table change
moved Out table change = out_of table change

-- the domains of those of all changes
abbrev pub moved_domains : Way → TableId → List Change → List (List ℕ)
moved_domains way table changes = domains_of (flat_map (moved way table) changes)

-- no domain before is this one, and it is put in more often than it is taken out
abbrev pub is_new : List (List ℕ) → Counted → Counted → List ℕ → Bool
is_new before put taken text = (count_by (bytes_eq text) before == 0) && nat_lt (count_of taken text) (count_of put text)

-- domains before are this one, and as many are taken out as there were and are put in
abbrev pub is_gone : List (List ℕ) → Counted → Counted → List ℕ → Bool
is_gone before put taken text =
    nat_lt 0 (count_by (bytes_eq text) before) && (not (nat_lt (count_of taken text) (count_by (bytes_eq text) before)) && (count_of taken text - count_by (bytes_eq text) before == count_of put text))
