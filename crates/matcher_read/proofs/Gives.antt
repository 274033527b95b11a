-- What a run by a rule of the grammar ends in, and how the machine goes on from there.
use Rattle.std.proofs.Common.{◌≡◌, ℕ, true, false, List, [], ◌∷◌, ◌++◌, codes, Option, Some, None, option_and_then, option_map, pos, refl, ap, ◌∙◌}
use Rattle.std.proofs.lemmas.Bool.{false≢true}
use Rattle.std.specs.Str.Parse.{digits_value}
use Rattle.matcher_read.specs.Expression.{Expression, text, whole, truth, request, policy, evaluated, binary}
use Rattle.matcher_read.specs.Grammar.{Rule, or_rule, and_rule, cmp_rule, sum_rule, term_rule, unary_rule, IsPartOf, and_or, cmp_and, sum_cmp, term_sum, unary_term, prim_unary, Joins, or_joins, and_joins, plus_joins, minus_joins, times_joins, over_joins, remainder_joins}
use Rattle.matcher_read.specs.Tokens.{Placed, placed, operator}
use Rattle.matcher_read.specs.Tokens as token
use Rattle.matcher_read.specs.declared.tree.Operator.{Operator}
use Rattle.matcher_read.specs.declared.tree.Operator.TheVariants as op
use Rattle.matcher_read.specs.Helps.Given.{fresh, entry, Gives, holds_list}
use Rattle.matcher_read.specs.Helps.Machine.{Lefts, Kind, parentheses, members, arguments, Frame, Control, wants, has, opens, State, no_lefts, comparison_of, and_of, or_of, left_of, state_of, with_operand, pushed, Rank, term_rank, sum_rank, comparing_rank, rank, operates, parts, closes, step}

-- what a part gives, the rule gives
pub gives_part : {part rule : Rule} (l : Lefts) (frames : List Frame) (s : State) (e : Expression) → IsPartOf part rule → Gives part (fresh rule l) frames s e → Gives rule l frames s e
gives_part l frames s e and_or g = (g.0, record g.1 { ors = None }, g.2, g.3)
gives_part l frames s e cmp_and g = (g.0, record g.1 { ands = None }, g.2, ap (option_map (and_of (record g.1 { ands = None }))) g.3)
gives_part l frames s e sum_cmp g = (has g.0, record g.1 { compared = None }, g.2, ap Some g.3)
gives_part l frames s e term_sum g = (g.0, record g.1 { sums = None }, g.2, g.3)
gives_part l frames s e unary_term g = (e, record l { terms = None }, g, refl)
gives_part l frames s e prim_unary g = g

-- the entry of a part is that of the rule
pub same_entry : {part rule : Rule} (l : Lefts) (frames : List Frame) → IsPartOf part rule → entry part (fresh rule l) frames ≡ entry rule l frames
same_entry l frames and_or = refl
same_entry l frames _ = refl

-- ---- how the machine goes on

-- behind this token the machine is before a part, and with what the part gives the rule gives what is built
pub record Continues (rule part : Rule) (l : Lefts) (frames : List Frame) (s : State) (t : Placed) (build : Expression → Expression) : Type 0 where
  pub lefts : Lefts
  pub unsigned : (fresh part lefts).signs ≡ []
  pub steps : step s t ≡ Some (entry part lefts frames)
  pub gives : (later : State) (f : Expression) → Gives part lefts frames later f → Gives rule l frames later (build f)

-- behind `||`, `&&`, a comma and a closing parenthesis, by what is complete before them
pub step_or : (at : ℕ) (frames : List Frame) (l : Lefts) (c : Control)
    → step (state_of c l frames) (placed at (operator op.Or)) ≡ option_map (λ (e : Expression). entry and_rule (record no_lefts { ors = left_of at op.Or e }) frames) (option_map (or_of l) (comparison_of l c))
unfolding step
step_or at frames l wants = refl
step_or at frames l _ = refl

pub step_and : (at : ℕ) (frames : List Frame) (l : Lefts) (c : Control)
    → step (state_of c l frames) (placed at (operator op.And)) ≡ option_map (λ (e : Expression). entry cmp_rule (record no_lefts { ors = l.ors; ands = left_of at op.And e }) frames) (option_map (and_of l) (comparison_of l c))
unfolding step
step_and at frames l wants = refl
step_and at frames l _ = refl

pub step_comma : (at : ℕ) (frames : List Frame) (l : Lefts) (c : Control) → step (state_of c l frames) (placed at token.comma) ≡ option_and_then (parts frames) (option_map (or_of l) (comparison_of l c))
unfolding step
step_comma at frames l wants = refl
step_comma at frames l _ = refl

pub step_closing : (at : ℕ) (frames : List Frame) (l : Lefts) (c : Control) → step (state_of c l frames) (placed at token.closing) ≡ option_and_then (closes frames) (option_map (or_of l) (comparison_of l c))
unfolding step
step_closing at frames l wants = refl
step_closing at frames l _ = refl

-- behind the operators of terms, of sums and of comparisons
pub step_operates : (at : ℕ) (o : Operator) (frames : List Frame) (l : Lefts) (x : Expression) (r : Rank) → rank o ≡ r → step (state_of (has x) l frames) (placed at (operator o)) ≡ operates r at o l frames x
unfolding step
step_operates at o frames l x r e = ap (λ (k : Rank). operates k at o l frames x) e

map_twice : (outer inner : Expression → Expression) (o : Option Expression) → option_map (λ (x : Expression). outer (inner x)) o ≡ option_map outer (option_map inner o)
map_twice outer inner None = refl
map_twice outer inner (Some x) = refl

or_continues : (at : ℕ) (l : Lefts) (frames : List Frame) (s : State) (e : Expression) → Gives or_rule l frames s e → Continues or_rule and_rule l frames s (placed at (operator op.Or)) (binary at op.Or e)
or_continues at l frames s e g =
    let behind : Lefts = record no_lefts { ors = left_of at op.Or e } in
    record {
      lefts = behind;
      unsigned = refl;
      steps = ap (λ (n : State). step n (placed at (operator op.Or))) g.2 ∙ step_or at frames (record g.1 { signs = [] }) g.0
          ∙ ap (option_map (λ (f : Expression). entry and_rule (record no_lefts { ors = left_of at op.Or f }) frames)) g.3;
      gives = λ later f h. (h.0, record h.1 { ors = left_of at op.Or e }, h.2, map_twice (binary at op.Or e) (and_of h.1) (comparison_of h.1 h.0) ∙ ap (option_map (binary at op.Or e)) h.3);
    }

and_continues : (at : ℕ) (l : Lefts) (frames : List Frame) (s : State) (e : Expression) → Gives and_rule l frames s e → Continues and_rule cmp_rule l frames s (placed at (operator op.And)) (binary at op.And e)
and_continues at l frames s e g =
    let behind : Lefts = record no_lefts { ors = l.ors; ands = left_of at op.And e } in
    record {
      lefts = behind;
      unsigned = refl;
      steps = ap (λ (n : State). step n (placed at (operator op.And))) g.2 ∙ step_and at frames (record g.1 { ors = l.ors; signs = [] }) g.0
          ∙ ap (option_map (λ (f : Expression). entry cmp_rule (record no_lefts { ors = l.ors; ands = left_of at op.And f }) frames)) g.3;
      gives = λ later f h. (h.0, record h.1 { ands = left_of at op.And e }, h.2, ap (option_map (and_of (record h.1 { ands = left_of at op.And e }))) h.3);
    }

sum_continues : (at : ℕ) (o : Operator) (l : Lefts) (frames : List Frame) (s : State) (e : Expression) → rank o ≡ sum_rank → Gives sum_rule l frames s e → Continues sum_rule term_rule l frames s (placed at (operator o)) (binary at o e)
sum_continues at o l frames s e r g =
    let behind : Lefts = record l { sums = left_of at o e; terms = None; signs = [] } in
    record {
      lefts = behind;
      unsigned = refl;
      steps = ap (λ (n : State). step n (placed at (operator o))) g.2 ∙ step_operates at o frames (record l { sums = g.1.sums; terms = g.1.terms; signs = [] }) g.0 sum_rank r
          ∙ ap (λ (f : Expression). Some (entry term_rule (record l { sums = left_of at o f; terms = None; signs = [] }) frames)) g.3;
      gives = λ later f h. (h.0, record h.1 { sums = left_of at o e }, h.2, ap (binary at o e) h.3);
    }

term_continues : (at : ℕ) (o : Operator) (l : Lefts) (frames : List Frame) (s : State) (e : Expression) → rank o ≡ term_rank → Gives term_rule l frames s e → Continues term_rule unary_rule l frames s (placed at (operator o)) (binary at o e)
term_continues at o l frames s e r g =
    let behind : Lefts = record l { terms = left_of at o e; signs = [] } in
    record {
      lefts = behind;
      unsigned = refl;
      steps = ap (λ (n : State). step n (placed at (operator o))) g.2 ∙ step_operates at o frames (record l { terms = g.1.terms; signs = [] }) g.0 term_rank r
          ∙ ap (λ (f : Expression). Some (entry unary_rule (record l { terms = left_of at o f; signs = [] }) frames)) g.3;
      gives = λ later f h. (f, behind, h, refl);
    }

pub join_continues : {o : Operator} {rule part : Rule} (at : ℕ) (l : Lefts) (frames : List Frame) (s : State) (e : Expression) → Joins o rule → IsPartOf part rule → Gives rule l frames s e
    → Continues rule part l frames s (placed at (operator o)) (binary at o e)
join_continues at l frames s e or_joins and_or g = or_continues at l frames s e g
join_continues at l frames s e and_joins cmp_and g = and_continues at l frames s e g
join_continues at l frames s e plus_joins term_sum g = sum_continues at op.Plus l frames s e refl g
join_continues at l frames s e minus_joins term_sum g = sum_continues at op.Minus l frames s e refl g
join_continues at l frames s e times_joins unary_term g = term_continues at op.Times l frames s e refl g
join_continues at l frames s e over_joins unary_term g = term_continues at op.Over l frames s e refl g
join_continues at l frames s e remainder_joins unary_term g = term_continues at op.Remainder l frames s e refl g

-- behind an operator that compares
abbrev pub compared_with : ℕ → Operator → Expression → Lefts → Lefts
compared_with at o e l = record (fresh cmp_rule l) { compared = left_of at o e }

abbrev pub comparison_continues : (at : ℕ) (o : Operator) (l : Lefts) (frames : List Frame) (s : State) (e : Expression) → rank o ≡ comparing_rank → Gives sum_rule (fresh cmp_rule l) frames s e
    → Continues cmp_rule sum_rule l frames s (placed at (operator o)) (binary at o e)
comparison_continues at o l frames s e r g = record {
  lefts = compared_with at o e l;
  unsigned = refl;
  steps = ap (λ (n : State). step n (placed at (operator o))) g.2 ∙ step_operates at o frames (record (fresh cmp_rule l) { sums = g.1.sums; terms = g.1.terms }) g.0 comparing_rank r
      ∙ ap (λ (f : Expression). Some (entry sum_rule (compared_with at o f l) frames)) g.3;
  gives = λ later f h. (has h.0, record h.1 { compared = left_of at o e }, h.2, ap (λ (y : Expression). Some (binary at o e y)) h.3);
}

-- ---- `in`, lists and parentheses

-- behind `in` a parenthesis has to open
pub step_in : (at : ℕ) (l : Lefts) (frames : List Frame) (s : State) (e : Expression) → Gives sum_rule (fresh cmp_rule l) frames s e
    → step s (placed at (token.name (codes "in" ∷ []))) ≡ Some (state_of (opens (members at e)) (fresh cmp_rule l) frames)
unfolding step
step_in at l frames s e g =
    ap (λ (n : State). step n (placed at (token.name (codes "in" ∷ [])))) g.2
    ∙ ap (λ (f : Expression). Some (state_of (opens (members at f)) (fresh cmp_rule l) frames)) g.3

pub step_opens : (at : ℕ) (kind : Kind) (l : Lefts) (frames : List Frame) → step (state_of (opens kind) l frames) (placed at token.opening) ≡ Some (pushed kind l frames)
unfolding step
step_opens at kind l frames = refl

-- the frame with one more expression before the last comma
abbrev pub with_one : Frame → Expression → Frame
with_one frame e = record frame { before = frame.before ++ e ∷ [] }

list_parts : (kind : Kind) (outer : Lefts) (before : List Expression) (frames : List Frame) (e : Expression) → holds_list kind ≡ true
    → parts (record { kind = kind; outer = outer; before = before } ∷ frames) e ≡ Some (state_of wants no_lefts (record { kind = kind; outer = outer; before = before ++ e ∷ [] } ∷ frames))
list_parts parentheses outer before frames e h = absurd (false≢true h)
list_parts (members at left) outer before frames e h = refl
list_parts (arguments at names) outer before frames e h = refl

-- a comma and a closing parenthesis, behind what is complete
pub comma_at : (at : ℕ) (l : Lefts) (frames : List Frame) (s : State) (e : Expression) → Gives or_rule l frames s e → step s (placed at token.comma) ≡ parts frames e
comma_at at l frames s e g =
    ap (λ (n : State). step n (placed at token.comma)) g.2 ∙ step_comma at frames (record g.1 { signs = [] }) g.0
    ∙ ap (option_and_then (parts frames)) g.3

pub comma_behind : (at : ℕ) (l : Lefts) (frame : Frame) (frames : List Frame) (s : State) (e : Expression) → holds_list frame.kind ≡ true → Gives or_rule l (frame ∷ frames) s e
    → step s (placed at token.comma) ≡ Some (state_of wants no_lefts (with_one frame e ∷ frames))
comma_behind at l frame frames s e h g = comma_at at l (frame ∷ frames) s e g ∙ list_parts frame.kind frame.outer frame.before frames e h

pub closing_behind : (at : ℕ) (l : Lefts) (frames : List Frame) (s : State) (e : Expression) → Gives or_rule l frames s e → step s (placed at token.closing) ≡ closes frames e
closing_behind at l frames s e g =
    ap (λ (n : State). step n (placed at token.closing)) g.2 ∙ step_closing at frames (record g.1 { signs = [] }) g.0
    ∙ ap (option_and_then (closes frames)) g.3

-- ---- operands

pub step_negation : (at : ℕ) (l : Lefts) (frames : List Frame) → step (state_of wants l frames) (placed at token.exclamation) ≡ Some (state_of wants (record l { signs = (at, true) ∷ l.signs }) frames)
unfolding step
step_negation at l frames = refl

pub step_opposite : (at : ℕ) (l : Lefts) (frames : List Frame) → step (state_of wants l frames) (placed at (operator op.Minus)) ≡ Some (state_of wants (record l { signs = (at, false) ∷ l.signs }) frames)
unfolding step
step_opposite at l frames = refl

pub step_parenthesis : (at : ℕ) (l : Lefts) (frames : List Frame) → step (state_of wants l frames) (placed at token.opening) ≡ Some (pushed parentheses l frames)
unfolding step
step_parenthesis at l frames = refl

pub step_called : (at : ℕ) (names : List (List ℕ)) (l : Lefts) (frames : List Frame) → step (state_of wants l frames) (placed at (token.called names)) ≡ Some (state_of (opens (arguments at names)) l frames)
unfolding step
step_called at names l frames = refl

pub step_text : (at : ℕ) (bytes : List ℕ) (l : Lefts) (frames : List Frame) → step (state_of wants l frames) (placed at (token.text bytes)) ≡ Some (with_operand l frames (text at bytes))
unfolding step
step_text at bytes l frames = refl

pub step_unclosed : (at : ℕ) (bytes : List ℕ) (l : Lefts) (frames : List Frame) → step (state_of wants l frames) (placed at (token.unclosed bytes)) ≡ Some (with_operand l frames (text at bytes))
unfolding step
step_unclosed at bytes l frames = refl

pub step_number : (at : ℕ) (digits : List ℕ) (l : Lefts) (frames : List Frame)
    → step (state_of wants l frames) (placed at (token.number digits)) ≡ Some (with_operand l frames (whole at (pos (digits_value 10 digits))))
unfolding step
step_number at digits l frames = refl

pub step_true : (at : ℕ) (l : Lefts) (frames : List Frame) → step (state_of wants l frames) (placed at (token.name (codes "true" ∷ []))) ≡ Some (with_operand l frames (truth at true))
unfolding step
step_true at l frames = refl

pub step_false : (at : ℕ) (l : Lefts) (frames : List Frame) → step (state_of wants l frames) (placed at (token.name (codes "false" ∷ []))) ≡ Some (with_operand l frames (truth at false))
unfolding step
step_false at l frames = refl

pub step_request : (at : ℕ) (column : List ℕ) (path : List (List ℕ)) (l : Lefts) (frames : List Frame)
    → step (state_of wants l frames) (placed at (token.name (codes "r" ∷ column ∷ path))) ≡ Some (with_operand l frames (request at column path))
unfolding step
step_request at column path l frames = refl

pub step_policy : (at : ℕ) (column : List ℕ) (l : Lefts) (frames : List Frame)
    → step (state_of wants l frames) (placed at (token.name (codes "p" ∷ column ∷ []))) ≡ Some (with_operand l frames (policy at column))
unfolding step
step_policy at column l frames = refl

pub step_eval : (at at_opening : ℕ) (column : List ℕ) (l : Lefts) (frames : List Frame)
    → step (state_of wants l frames) (placed at (token.eval at_opening column)) ≡ Some (with_operand l frames (evaluated at column))
unfolding step
step_eval at at_opening column l frames = refl
