-- What reading a part of an expression comes to.
use Rattle.std.specs.Prelude.{◌≡◌, ◌≢◌, ℕ, ◌+◌, Bool, true, false, List, [], ◌∷◌, ◌++◌, Option, None, Result, Err, MatchResult, map}
use Rattle.std.specs.Global.{Vec}
use Rattle.std.specs.List.{list_all}
use Rattle.matcher_read.specs.Expression.{Expression, expression, expressions_of}
use Rattle.matcher_read.specs.Helps.Given.{entry, Gives, holds_list}
use Rattle.matcher_read.specs.Grammar.{Rule, or_rule, Derives, DerivesList}
use Rattle.matcher_read.specs.Helps.Machine.{Lefts, Frame, State, no_lefts, wants, state_of, step, levels_of, depth, verdict}
use Rattle.matcher_read.specs.Matcher.{most_levels, is_sound, are_sound, is_closed}
use Rattle.matcher_read.specs.Helps.TakenTokens.{may_follow, head_is, is_closing}
use Rattle.matcher_read.specs.Helps.TokenLists.{TokenList}
use Rattle.matcher_read.specs.Tokens.{Placed, Token}
use Rattle.matcher_read.specs.declared.fault.MatcherFault.{MatcherFault}
use Rattle.matcher_read.specs.declared.fault.MatcherFault.TheVariants.{NoMemory}
use Rattle.matcher_read.specs.declared.tree.Tree.{Tree}

-- the token that stands next does not go on
abbrev pub StopsAt : State → List Placed → Type 0
StopsAt s [] = Unit {0}
StopsAt s (t ∷ ts) = step s t ≡ None

-- the machine comes from before what the rule derives to the state behind it, where no token goes on that may not follow a rule
pub record Reaches (rule stop : Rule) (e : Expression) (l : Lefts) (frames : List Frame) (before after : List Placed) : Type 0 where
  pub state : State
  pub gives : Gives rule l frames state e
  pub same : (size : ℕ) (stray : Option ℕ) → verdict size stray (entry rule l frames) before ≡ verdict size stray state after
  pub stops : head_is (may_follow stop) after ≡ false → StopsAt state after

-- a front of the tokens was read: it derives so, it is sound by this test, and no text in it is open
pub record Front (Derived : List Placed → Type 0) (test : Bool) (before after : TokenList) : Type 0 where
  pub front : List Placed
  pub tokens : before.tokens ≡ front ++ after.tokens
  pub stray : after.stray ≡ before.stray
  pub size : after.size ≡ before.size
  pub derived : Derived front
  pub sound : test ≡ true
  pub closed : list_all (λ (t : Placed). is_closed t.token) front ≡ true

-- a front of the tokens was read by a rule
pub record Read (n : ℕ) (rule stop : Rule) (e : Expression) (before after : TokenList) : Type 0 where
  pub read : Front (λ (ts : List Placed). Derives n rule ts e) (is_sound e) before after
  pub reaches : (l : Lefts) (frames : List Frame) → depth (entry rule l frames) + n ≡ most_levels → Reaches rule stop e l frames before.tokens after.tokens

-- the machine meets a fault in what should be read by a rule
pub record Fails (n : ℕ) (rule : Rule) (fault : MatcherFault) (before : TokenList) : Type 0 where
  pub told : (l : Lefts) (frames : List Frame) → depth (entry rule l frames) + n ≡ most_levels → verdict before.size before.stray (entry rule l frames) before.tokens ≡ Err fault

-- what reading by a rule comes to
abbrev pub ReadsBy : ℕ → Rule → TokenList → TokenList → Result Tree MatcherFault → Type 0
ReadsBy n rule before after result = MatchResult result (λ tree. Read n rule rule (expression tree) before after) (λ fault. fault ≢ NoMemory → Fails n rule fault before)

-- the machine comes from behind what opens a list, or a comma in it, to the state behind the last expression, where no token goes on but a closing parenthesis, or also a comma
pub record ReachesList (es : List Expression) (stop : Token → Bool) (frame : Frame) (frames : List Frame) (before after : List Placed) : Type 0 where
  pub state : State
  pub front : List Expression
  pub last : Expression
  pub whole : es ≡ front ++ last ∷ []
  pub gives : Gives or_rule no_lefts (record frame { before = frame.before ++ front } ∷ frames) state last
  pub same : (size : ℕ) (stray : Option ℕ) → verdict size stray (state_of wants no_lefts (frame ∷ frames)) before ≡ verdict size stray state after
  pub stops : head_is stop after ≡ false → StopsAt state after

-- expressions with commas between them were read
pub record ReadList (n : ℕ) (stop : Token → Bool) (es : List Expression) (before after : TokenList) : Type 0 where
  pub read : Front (λ (ts : List Placed). DerivesList n ts (expressions_of es)) (are_sound (expressions_of es)) before after
  pub reaches : (frame : Frame) (frames : List Frame) → holds_list frame.kind ≡ true → levels_of (frame ∷ frames) + n ≡ most_levels → ReachesList es stop frame frames before.tokens after.tokens

-- the machine meets a fault in a list
pub record FailsList (n : ℕ) (fault : MatcherFault) (before : TokenList) : Type 0 where
  pub told : (frame : Frame) (frames : List Frame) → holds_list frame.kind ≡ true → levels_of (frame ∷ frames) + n ≡ most_levels
      → verdict before.size before.stray (state_of wants no_lefts (frame ∷ frames)) before.tokens ≡ Err fault

-- what reading a list comes to
abbrev pub ReadsList : ℕ → TokenList → TokenList → Result (Vec Tree) MatcherFault → Type 0
ReadsList n before after result = MatchResult result (λ trees. ReadList n is_closing (map expression trees.items) before after) (λ fault. fault ≢ NoMemory → FailsList n fault before)
