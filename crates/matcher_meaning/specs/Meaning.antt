-- Attributes of a request, a value as a truth, and which expressions search (Casbin, syntax for models: matchers).
use Rattle.std.specs.Prelude.{ℕ, Bool, true, false, List, [], ◌∷◌, Option, Some, None, Result, Ok}
use Rattle.effect_fold.specs.declared.fault.Cause.TheVariants.{Kind, NoAttribute}
use Rattle.effect_fold.specs.declared.fault.Fault.{Fault}
use Rattle.perm_value.specs.Attribute.{attribute}
use Rattle.perm_value.specs.Datum.{Datum}
use Rattle.perm_value.specs.Datum as datum
use Rattle.matcher_read.specs.Expression.{Callee, function, Expression, call, Expressions, some_node, among_some}
use Rattle.matcher_read.specs.declared.tree.Function.TheVariants.{RegexMatch}
use Rattle.matcher_meaning.specs.Answers.{Evaluation, fails}

-- the attribute at the end of these names; a request without the column, a value on the way that is no object, and one that lacks the name are faults at the place
abbrev pub along : ℕ → Option Datum → List (List ℕ) → Evaluation
along at None names = fails NoAttribute at
along at (Some d) [] = Ok d
along at (Some d) (name ∷ names) = along at (attribute d name) names

-- a value as a truth
abbrev pub truth_at : ℕ → Datum → Result Bool Fault
truth_at at (datum.truth b) = Ok b
truth_at at _ = fails Kind at

abbrev pub is_search : Callee → Bool
is_search (function RegexMatch) = true
is_search _ = false

-- a call of `regexMatch`
abbrev pub is_search_call : Expression → Bool
is_search_call (call at callee es) = is_search callee
is_search_call _ = false

-- the expression calls `regexMatch`
abbrev pub searches : Expression → Bool
searches e = some_node is_search_call e

-- one of the expressions does
abbrev pub some_searches : Expressions → Bool
some_searches es = among_some is_search_call es
