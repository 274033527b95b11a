-- What an expression comes to where no node of it is moved: without `eval`, whatever an `eval` comes to, and without searches, whatever is refused.
use Rattle.std.proofs.Common.{◌≡◌, ℕ, ◌||◌, Bool, false, true≢false, List, [], ◌∷◌, Option, Some, None, Result, Ok, Err}
use Rattle.std.proofs.lemmas.Bool.{or_parts}
use Rattle.effect_fold.specs.declared.fault.Fault.{Fault}
use Rattle.perm_value.specs.Datum.{Datum}
use Rattle.matcher_read.specs.Expression.{Callee, function, relation, unknown, Expression, text, whole, truth, request, policy, evaluated, negation, opposite, binary, among, call, Expressions, no_more, one_more, some_node, among_some}
use Rattle.matcher_read.specs.Kinds.{is_of}
use Rattle.matcher_read.specs.declared.kinds.NodeKind.TheVariants.{Eval}
use Rattle.matcher_read.specs.declared.tree.Function.{Function}
use Rattle.matcher_read.specs.declared.tree.Function.TheVariants as f
use Rattle.model_conf.specs.RuleText.{has_eval}
use Rattle.matcher_meaning.specs.Answers as answers
use Rattle.matcher_meaning.specs.Answers.{Evaluation, After, Unless, with_first}
use Rattle.matcher_meaning.specs.Calls.{OfTwo, texts_of}
use Rattle.matcher_meaning.specs.CaseCalls.{Gives, GivesForTexts}
use Rattle.matcher_meaning.specs.Cases.{Case, where_refused}
use Rattle.matcher_meaning.specs.Comes.{ComesToBy, IsAmongBy, ComeToBy, Evaluates, ComesTo, is_taker, takes_memory}
use Rattle.matcher_meaning.specs.Meaning.{is_search}
use Rattle.matcher_meaning.specs.Operators.{negated, opposed, settled, joined, ended_among}

-- whatever is said of a result by the one is said by the other
abbrev pub Implies : {X : Type 0} → (X → Type 0) → (X → Type 0) → Type 0
Implies {X} P Q = (r : X) → P r → Q r

-- an `eval`, and a call, that the test does not find comes under the one refusal to what it comes to under the other
pub record AreUnmoved (case : Case) (refused other : Option (ℕ × List ℕ)) (Evals Others : ℕ → List ℕ → Evaluation → Type 0) (test : Expression → Bool) : Type 0 where
  pub evals : (at : ℕ) (column : List ℕ) → test (evaluated at column) ≡ false → Implies (Evals at column) (Others at column)
  pub calls : (at : ℕ) (callee : Callee) (es : Expressions) (ds : List Datum) → test (call at callee es) ≡ false → Implies (Gives (where_refused case refused) at callee ds) (Gives (where_refused case other) at callee ds)

next_more : {X Y : Type 0} (P Q : X → Type 0) (next : X → Y) → Implies P Q → Implies (λ r. (x : X) × P x × (r ≡ next x)) (λ r. (x : X) × Q x × (r ≡ next x))
next_more P Q next more r (x, p, e) = (x, more x p, e)

after_more : {X Y : Type 0} (x : Result X Fault) (R S : X → Result Y Fault → Type 0) → ((d : X) → Implies (R d) (S d)) → (r : Result Y Fault) → After x (λ d. R d r) r → After x (λ d. S d r) r
after_more (Ok d) R S more r p = more d r p
after_more (Err fault) R S more r p = p

unless_more : (there : Option Evaluation) (P Q : Evaluation → Type 0) → Implies P Q → (r : Evaluation) → Unless there (P r) r → Unless there (Q r) r
unless_more (Some answer) P Q more r p = p
unless_more None P Q more r p = more r p

mutual
  pub unmoved : (case : Case) (refused other : Option (ℕ × List ℕ)) (Evals Others : ℕ → List ℕ → Evaluation → Type 0) (test : Expression → Bool) → AreUnmoved case refused other Evals Others test
      → (e : Expression) → some_node test e ≡ false → Implies (ComesToBy (where_refused case refused) Evals e) (ComesToBy (where_refused case other) Others e)
  unmoved case refused other Evals Others test are (text at bytes) none r p = p
  unmoved case refused other Evals Others test are (whole at n) none r p = p
  unmoved case refused other Evals Others test are (truth at b) none r p = p
  unmoved case refused other Evals Others test are (request at column path) none r p = p
  unmoved case refused other Evals Others test are (policy at column) none r p = p
  unmoved case refused other Evals Others test are (evaluated at column) none r p = are.evals at column none r p
  unmoved case refused other Evals Others test are (negation at e) none r p =
      let parts = or_parts (test (negation at e)) (some_node test e) none in
      next_more (ComesToBy (where_refused case refused) Evals e) (ComesToBy (where_refused case other) Others e) (λ x. answers.then x (negated at)) (unmoved case refused other Evals Others test are e parts.1) r p
  unmoved case refused other Evals Others test are (opposite at e) none r p =
      let parts = or_parts (test (opposite at e)) (some_node test e) none in
      next_more (ComesToBy (where_refused case refused) Evals e) (ComesToBy (where_refused case other) Others e) (λ x. answers.then x (opposed at)) (unmoved case refused other Evals Others test are e parts.1) r p
  unmoved case refused other Evals Others test are (binary at op e g) none r (x, p, after) =
      let outer = or_parts (test (binary at op e g)) (some_node test e || some_node test g) none in
      let parts = or_parts (some_node test e) (some_node test g) outer.1 in (
        x,
        unmoved case refused other Evals Others test are e parts.0 x p,
        after_more x (λ d r. Unless (settled at op d) ((y : Evaluation) × ComesToBy (where_refused case refused) Evals g y × (r ≡ answers.then y (joined at op d))) r)
            (λ d r. Unless (settled at op d) ((y : Evaluation) × ComesToBy (where_refused case other) Others g y × (r ≡ answers.then y (joined at op d))) r)
            (λ d. unless_more (settled at op d) (λ r. (y : Evaluation) × ComesToBy (where_refused case refused) Evals g y × (r ≡ answers.then y (joined at op d)))
            (λ r. (y : Evaluation) × ComesToBy (where_refused case other) Others g y × (r ≡ answers.then y (joined at op d)))
            (next_more (ComesToBy (where_refused case refused) Evals g) (ComesToBy (where_refused case other) Others g) (λ y. answers.then y (joined at op d)) (unmoved case refused other Evals Others test are g parts.1))) r after,
      )
  unmoved case refused other Evals Others test are (among at e es) none r (x, p, after) =
      let outer = or_parts (test (among at e es)) (some_node test e || among_some test es) none in
      let parts = or_parts (some_node test e) (among_some test es) outer.1 in (
        x,
        unmoved case refused other Evals Others test are e parts.0 x p,
        after_more x (λ d r. IsAmongBy (where_refused case refused) Evals d es r) (λ d r. IsAmongBy (where_refused case other) Others d es r)
            (λ d. among_unmoved case refused other Evals Others test are d es parts.1) r after,
      )
  unmoved case refused other Evals Others test are (call at callee es) none r (x, p, after) =
      let parts = or_parts (test (call at callee es)) (among_some test es) none in (
        x,
        all_unmoved case refused other Evals Others test are es parts.1 x p,
        after_more x (λ ds r. Gives (where_refused case refused) at callee ds r) (λ ds r. Gives (where_refused case other) at callee ds r) (λ ds. are.calls at callee es ds parts.0) r after,
      )

  pub among_unmoved : (case : Case) (refused other : Option (ℕ × List ℕ)) (Evals Others : ℕ → List ℕ → Evaluation → Type 0) (test : Expression → Bool) → AreUnmoved case refused other Evals Others test
      → (d : Datum) (es : Expressions) → among_some test es ≡ false → Implies (IsAmongBy (where_refused case refused) Evals d es) (IsAmongBy (where_refused case other) Others d es)
  among_unmoved case refused other Evals Others test are d no_more none r p = p
  among_unmoved case refused other Evals Others test are d (one_more e es) none r (x, p, unless) =
      let parts = or_parts (some_node test e) (among_some test es) none in (
        x,
        unmoved case refused other Evals Others test are e parts.0 x p,
        unless_more (ended_among d x) (IsAmongBy (where_refused case refused) Evals d es) (IsAmongBy (where_refused case other) Others d es) (among_unmoved case refused other Evals Others test are d es parts.1) r unless,
      )

  pub all_unmoved : (case : Case) (refused other : Option (ℕ × List ℕ)) (Evals Others : ℕ → List ℕ → Evaluation → Type 0) (test : Expression → Bool) → AreUnmoved case refused other Evals Others test
      → (es : Expressions) → among_some test es ≡ false → Implies (ComeToBy (where_refused case refused) Evals es) (ComeToBy (where_refused case other) Others es)
  all_unmoved case refused other Evals Others test are no_more none r p = p
  all_unmoved case refused other Evals Others test are (one_more e es) none r (x, p, after) =
      let parts = or_parts (some_node test e) (among_some test es) none in (
        x,
        unmoved case refused other Evals Others test are e parts.0 x p,
        after_more x (λ d r. (y : Result (List Datum) Fault) × ComeToBy (where_refused case refused) Evals es y × (r ≡ with_first d y))
            (λ d r. (y : Result (List Datum) Fault) × ComeToBy (where_refused case other) Others es y × (r ≡ with_first d y))
            (λ d. next_more (ComeToBy (where_refused case refused) Evals es) (ComeToBy (where_refused case other) Others es) (with_first d) (all_unmoved case refused other Evals Others test are es parts.1)) r after,
      )

-- without `eval` it comes to the same whatever an `eval` comes to
pub without_eval : (case : Case) (Evals Others : ℕ → List ℕ → Evaluation → Type 0) (e : Expression) → has_eval e ≡ false → Implies (ComesToBy case Evals e) (ComesToBy case Others e)
without_eval case Evals Others e none =
    unmoved case case.refused case.refused Evals Others (λ node. is_of node Eval) (record { evals = λ at column h. absurd (true≢false h); calls = λ at callee es ds h r p. p }) e none

two_unmoved : (refused other : Option (ℕ × List ℕ)) (at : ℕ) (called : Function) (s t : List ℕ) → is_search (function called) ≡ false → Implies (OfTwo refused at called s t) (OfTwo other at called s t)
two_unmoved refused other at f.RegexMatch s t h r p = absurd (true≢false h)
two_unmoved refused other at f.KeyMatch s t h r p = p
two_unmoved refused other at f.KeyMatch2 s t h r p = p
two_unmoved refused other at f.KeyMatch3 s t h r p = p
two_unmoved refused other at f.KeyMatch4 s t h r p = p
two_unmoved refused other at f.KeyMatch5 s t h r p = p
two_unmoved refused other at f.GlobMatch s t h r p = p
two_unmoved refused other at f.IpMatch s t h r p = p
two_unmoved refused other at f.KeyGet s t h r p = p
two_unmoved refused other at f.KeyGet2 s t h r p = p
two_unmoved refused other at f.KeyGet3 s t h r p = p

texts_unmoved : (case : Case) (refused other : Option (ℕ × List ℕ)) (at : ℕ) (callee : Callee) (ts : Option (List (List ℕ))) → is_search callee ≡ false
    → Implies (GivesForTexts (where_refused case refused) at callee ts) (GivesForTexts (where_refused case other) at callee ts)
texts_unmoved case refused other at (function called) (Some (s ∷ t ∷ [])) h r p = two_unmoved refused other at called s t h r p
texts_unmoved case refused other at (relation number) (Some (s ∷ t ∷ [])) h r p = p
texts_unmoved case refused other at (unknown parts) (Some (s ∷ t ∷ [])) h r p = p
texts_unmoved case refused other at (function called) (Some (s ∷ t ∷ u ∷ [])) h r p = p
texts_unmoved case refused other at (relation number) (Some (s ∷ t ∷ u ∷ [])) h r p = p
texts_unmoved case refused other at (unknown parts) (Some (s ∷ t ∷ u ∷ [])) h r p = p
texts_unmoved case refused other at callee None h r p = p
texts_unmoved case refused other at callee (Some []) h r p = p
texts_unmoved case refused other at callee (Some (s ∷ [])) h r p = p
texts_unmoved case refused other at callee (Some (s ∷ t ∷ u ∷ v ∷ more)) h r p = p

-- without `regexMatch` and `eval` it comes to the same whatever is refused
pub without_searches : (case : Case) (refused other : Option (ℕ × List ℕ)) (e : Expression) → takes_memory e ≡ false → Implies (ComesTo (where_refused case refused) e) (ComesTo (where_refused case other) e)
without_searches case refused other e none =
    unmoved case refused other (Evaluates (where_refused case refused)) (Evaluates (where_refused case other)) is_taker
    (record {
      evals = λ at column h. absurd (true≢false h);
      calls = λ at callee es ds h. texts_unmoved case refused other at callee (texts_of ds) (or_parts (is_search callee) false h).0;
    }) e none
