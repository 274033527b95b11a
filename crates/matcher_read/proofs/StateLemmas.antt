-- What the tokens before a state of the machine derive: the left sides that wait, what stands in each open parenthesis, and the last operand.
use Rattle.std.proofs.Common.{◌≡◌, ℕ, suc, ◌+◌, List, [], ◌∷◌, ◌++◌, length, codes, Option, Some, None}
use Rattle.matcher_read.specs.Expression.{Expression, Expressions, one_more}
use Rattle.matcher_read.specs.Grammar.{Derives, DerivesList, Rule, or_rule, and_rule, cmp_rule, sum_rule, term_rule, unary_rule}
use Rattle.matcher_read.specs.Tokens.{Placed, placed, name, called, opening}
use Rattle.matcher_read.specs.Helps.Machine.{Left, Lefts, Kind, parentheses, members, arguments, Frame, Control, wants, has, has_members, opens, State, start, state_of, goes, joined_left, signed, levels_of}

-- behind this front what derives the part derives the rule, as the right side of what waits
abbrev pub Leads : ℕ → Rule → Rule → Option Left → List Placed → Type 0
Leads n part rule left front = (us : List Placed) (e : Expression) → Derives n part us e → Derives n rule (front ++ us) (joined_left left e)

-- the tokens before a comparison, by rule
pub record Upper (n : ℕ) (ors ands : Option Left) : Type 0 where
  pub before_or : List Placed
  pub before_and : List Placed
  pub or_leads : Leads n and_rule or_rule ors before_or
  pub and_leads : Leads n cmp_rule and_rule ands before_and

abbrev pub under : {n : ℕ} {ors ands : Option Left} → Upper n ors ands → List Placed → List Placed
under upper last = upper.before_or ++ (upper.before_and ++ last)

-- the tokens of a comparison before its last operand, by rule
pub record Lower (n : ℕ) (compared sums terms : Option Left) : Type 0 where
  pub before_comparison : List Placed
  pub before_sum : List Placed
  pub before_term : List Placed
  pub comparison_leads : Leads n sum_rule cmp_rule compared before_comparison
  pub sum_leads : Leads n term_rule sum_rule sums before_sum
  pub term_leads : Leads n unary_rule term_rule terms before_term
  pub no_comparison : compared ≡ None → before_comparison ≡ []

abbrev pub behind : {n : ℕ} {compared sums terms : Option Left} → Lower n compared sums terms → List Placed → List Placed
behind lower last = lower.before_comparison ++ (lower.before_sum ++ (lower.before_term ++ last))

-- the tokens end within a comparison, the last of them being these
pub record Within (Outer : List Placed → Type 0) (n : ℕ) (lefts : Lefts) (ts last : List Placed) : Type 0 where
  pub outer : List Placed
  pub outside : Outer outer
  pub upper : Upper n lefts.ors lefts.ands
  pub tokens : ts ≡ outer ++ under upper last

-- the tokens end behind the signs of an operand that is to come
pub record Wanting (Outer : List Placed → Type 0) (n : ℕ) (lefts : Lefts) (ts : List Placed) : Type 0 where
  pub signs : List Placed
  pub lower : Lower n lefts.compared lefts.sums lefts.terms
  pub within : Within Outer n lefts ts (behind lower signs)
  pub left_levels : ℕ
  pub levels : n ≡ length lefts.signs + left_levels
  pub sign_leads : (us : List Placed) (e : Expression) → Derives left_levels unary_rule us e → Derives n unary_rule (signs ++ us) (signed lefts.signs e)

-- the tokens end behind an operand
pub record Having (Outer : List Placed → Type 0) (n : ℕ) (e : Expression) (lefts : Lefts) (ts : List Placed) : Type 0 where
  pub operand : List Placed
  pub lower : Lower n lefts.compared lefts.sums lefts.terms
  pub within : Within Outer n lefts ts (behind lower operand)
  pub no_signs : lefts.signs ≡ []
  pub derived : Derives n unary_rule operand e

-- the tokens end behind a comparison
pub record Compared (Outer : List Placed → Type 0) (n : ℕ) (e : Expression) (lefts : Lefts) (ts : List Placed) : Type 0 where
  pub comparison : List Placed
  pub within : Within Outer n lefts ts comparison
  pub derived : Derives n cmp_rule comparison e

-- the tokens end behind an `in`
pub record Asking (Outer : List Placed → Type 0) (n at : ℕ) (left : Expression) (lefts : Lefts) (ts : List Placed) : Type 0 where
  pub side : List Placed
  pub within : Within Outer n lefts ts (side ++ placed at (name (codes "in" ∷ [])) ∷ [])
  pub no_signs : lefts.signs ≡ []
  pub derived : Derives n sum_rule side left

-- the tokens end behind the name of a call
pub record Calling (Outer : List Placed → Type 0) (n at : ℕ) (names : List (List ℕ)) (lefts : Lefts) (frames : List Frame) (ts : List Placed) : Type 0 where
  pub front : List Placed
  pub wanting : Wanting Outer n lefts front
  pub reached : goes start front ≡ Some (state_of wants lefts frames)
  pub tokens : ts ≡ front ++ placed at (called names) ∷ []

-- the tokens end where this parenthesis may open
abbrev pub Awaits : (List Placed → Type 0) → ℕ → Kind → Lefts → List Frame → List Placed → Type 0
Awaits Outer n parentheses lefts frames ts = Wanting Outer n lefts ts
Awaits Outer n (members at left) lefts frames ts = Asking Outer n at left lefts ts
Awaits Outer n (arguments at names) lefts frames ts = Calling Outer n at names lefts frames ts

-- expressions before others
abbrev pub expressions_before : List Expression → Expressions → Expressions
expressions_before [] es = es
expressions_before (e ∷ before) es = one_more e (expressions_before before es)

-- the tokens end behind an open parenthesis, or behind a comma in it
pub record Opened (Outer : List Placed → Type 0) (n outer_levels : ℕ) (kind : Kind) (lefts : Lefts) (before : List Expression) (frames : List Frame) (ts : List Placed) : Type 0 where
  pub at_opening : ℕ
  pub front : List Placed
  pub inside : List Placed
  pub awaits : Awaits Outer outer_levels kind lefts frames front
  pub list_leads : (us : List Placed) (es : Expressions) → DerivesList n us es → DerivesList n (inside ++ us) (expressions_before before es)
  pub alone : kind ≡ parentheses → inside ≡ []
  pub tokens : ts ≡ front ++ placed at_opening opening ∷ inside

-- the tokens end behind these open parentheses, with so many levels left
abbrev pub Outside : List Frame → ℕ → List Placed → Type 0
Outside [] n ts = ts ≡ []
Outside (frame ∷ frames) n ts =
    let outer_levels = suc (length frame.outer.signs + n) in
    Opened (Outside frames outer_levels) n outer_levels frame.kind frame.outer frame.before frames ts

-- the tokens end in this state, with so many levels left in the innermost parenthesis
abbrev pub Stands : Control → ℕ → Lefts → List Frame → List Placed → Type 0
Stands wants n lefts frames ts = Wanting (Outside frames n) n lefts ts
Stands (has e) n lefts frames ts = Having (Outside frames n) n e lefts ts
Stands (has_members e) n lefts frames ts = Compared (Outside frames n) n e lefts ts
Stands (opens kind) n lefts frames ts = Awaits (Outside frames n) n kind lefts frames ts

-- the tokens end in this state, with so many levels at most
pub record Holds (most : ℕ) (s : State) (ts : List Placed) : Type 0 where
  pub levels_left : ℕ
  pub levels : levels_left + levels_of s.frames ≡ most
  pub stands : Stands s.control levels_left s.lefts s.frames ts

-- the tokens end behind an expression that may end there
pub record Complete (Outer : List Placed → Type 0) (n : ℕ) (e : Expression) (ts : List Placed) : Type 0 where
  pub outer : List Placed
  pub last : List Placed
  pub outside : Outer outer
  pub derived : Derives n or_rule last e
  pub tokens : ts ≡ outer ++ last
