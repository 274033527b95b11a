-- What a run of the machine by a rule of the grammar begins and ends in.
use Rattle.std.specs.Prelude.{◌≡◌, Bool, true, false, List, [], Some, None, option_map}
use Rattle.matcher_read.specs.Expression.{Expression}
use Rattle.matcher_read.specs.Grammar.{Rule, or_rule, and_rule, cmp_rule, sum_rule, term_rule, unary_rule, prim_rule}
use Rattle.matcher_read.specs.Helps.Machine.{Lefts, Kind, parentheses, members, arguments, Frame, Control, wants, has, State, no_lefts, term_of, sum_of, comparison_of, and_of, or_of, state_of, with_operand}

-- nothing waits at the rule or below it
abbrev pub fresh : Rule → Lefts → Lefts
fresh or_rule l = no_lefts
fresh and_rule l = record no_lefts { ors = l.ors }
fresh cmp_rule l = record no_lefts { ors = l.ors; ands = l.ands }
fresh sum_rule l = record l { sums = None; terms = None; signs = [] }
fresh term_rule l = record l { terms = None; signs = [] }
fresh unary_rule l = l
fresh prim_rule l = l

-- the state before what the rule derives
abbrev pub entry : Rule → Lefts → List Frame → State
entry rule l frames = state_of wants (fresh rule l) frames

-- the state behind what the rule derives: what waits above the rule stays, and the expression stands last
abbrev pub Gives : Rule → Lefts → List Frame → State → Expression → Type 0
Gives or_rule l frames s e = (c : Control) × (inner : Lefts) × (s ≡ state_of c (record inner { signs = [] }) frames) × (option_map (or_of inner) (comparison_of inner c) ≡ Some e)
Gives and_rule l frames s e = (c : Control) × (inner : Lefts) × (s ≡ state_of c (record inner { ors = l.ors; signs = [] }) frames) × (option_map (and_of inner) (comparison_of inner c) ≡ Some e)
Gives cmp_rule l frames s e =
    (c : Control) × (inner : Lefts) × (s ≡ state_of c (record l { compared = inner.compared; sums = inner.sums; terms = inner.terms; signs = [] }) frames) × (comparison_of inner c ≡ Some e)
Gives sum_rule l frames s e = (x : Expression) × (inner : Lefts) × (s ≡ state_of (has x) (record l { sums = inner.sums; terms = inner.terms; signs = [] }) frames) × (sum_of inner x ≡ e)
Gives term_rule l frames s e = (x : Expression) × (inner : Lefts) × (s ≡ state_of (has x) (record l { terms = inner.terms; signs = [] }) frames) × (term_of inner x ≡ e)
Gives unary_rule l frames s e = s ≡ with_operand l frames e
Gives prim_rule l frames s e = s ≡ with_operand l frames e

-- the members of an `in`, or the arguments of a call
abbrev pub holds_list : Kind → Bool
holds_list parentheses = false
holds_list (members at e) = true
holds_list (arguments at names) = true
