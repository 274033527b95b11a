-- What reading a whole text comes to.
use Rattle.std.proofs.Common.{◌≡◌, ◌≢◌, ℕ, ◌+◌, ◌<◌, ◌≤◌, nat_lt, true, false, List, [], ◌∷◌, ◌++◌, length, Option, Some, None, Result, Ok, Err, IfErr, IfOk, MatchResult, refl, ap, sym, ◌∙◌, subst, arith, append-nil, ltb-true, ltb-false, length-append}
use Rattle.std.specs.List.{list_all}
use Rattle.std.specs.Result.{IsErrAnd}
use Rattle.matcher_read.specs.Helps.Counts.{IsWithin, is_ended, node_count}
use Rattle.matcher_read.specs.Expression.{Expression, expression}
use Rattle.matcher_read.specs.Faults.{AreFine, IsFault, too_many_nodes, within}
use Rattle.matcher_read.specs.Helps.Given.{Gives}
use Rattle.matcher_read.specs.Grammar.{Derives, or_rule}
use Rattle.matcher_read.specs.Helps.Machine.{State, no_lefts, start, step, verdict}
use Rattle.matcher_read.specs.Matcher.{IsMatcher, is_closed, is_sound, most_bytes, most_levels, most_nodes}
use Rattle.matcher_read.specs.Helps.Parsed.{Fails, Read, StopsAt}
use Rattle.matcher_read.specs.Helps.TakenTokens.{head_is, may_follow, place_of_next, place_of_first}
use Rattle.matcher_read.specs.Helps.TokenLists.{TokenList, end_of}
use Rattle.matcher_read.specs.Tokens.{IsCut, ended, strayed, one_token, Placed, placed, Token, as_read}
use Rattle.matcher_read.specs.declared.fault.MatcherFault.{MatcherFault}
use Rattle.matcher_read.specs.declared.fault.MatcherFault.TheVariants as fault
use Rattle.matcher_read.specs.declared.tree.Tree.{Tree}
use Rattle.matcher_read.proofs.CountLemmas.{nodes_derived}
use Rattle.matcher_read.proofs.Gives.{closing_behind}
use Rattle.matcher_read.proofs.LawLemmas.{read_closed, no_matcher_with_fault, one_fault, one_matcher}
use Rattle.matcher_read.proofs.ReadLists.{no_list_stops}
use Rattle.matcher_read.proofs.Passes.{verdict_none}
use Rattle.matcher_read.proofs.Runs.{reads_through}
use Rattle.matcher_read.proofs.Verdicts.{read_fine, verdict_first}

-- ---- the fault that is met

pub whole_fails : {fault : MatcherFault} {list : TokenList} → Fails most_levels or_rule fault list → verdict list.size list.stray start list.tokens ≡ Err fault
whole_fails f = f.told no_lefts [] (omega arith)

-- behind a whole expression nothing goes on
whole_stops : (s : State) (e : Expression) (at : ℕ) (t : Token) → Gives or_rule no_lefts [] s e → (may_follow or_rule t ≡ false → step s (placed at t) ≡ None) → step s (placed at t) ≡ None
whole_stops s e at t g h = no_list_stops [] s e at t g refl (λ closing. closing_behind at no_lefts [] s e g) h

pub whole_unended : {e : Expression} {before after : TokenList} → Read most_levels or_rule or_rule e before after → is_ended after.tokens after.stray ≡ false
    → verdict before.size before.stray start before.tokens ≡ Err (fault.Unexpected (place_of_next after))
whole_unended {e} {before} {after} r h =
    let k = r.reaches no_lefts [] (omega arith) in
    k.same before.size before.stray
    ∙ ap (λ (size : ℕ). verdict size before.stray k.state after.tokens) (sym r.read.size) ∙ ap (λ (stray : Option ℕ). verdict after.size stray k.state after.tokens) (sym r.read.stray)
    ∙ by_list k.state k.gives after.tokens after.stray k.stops h
  where
    by_list : (s : State) → Gives or_rule no_lefts [] s e → (ts : List Placed) (stray : Option ℕ) → (head_is (may_follow or_rule) ts ≡ false → StopsAt s ts) → is_ended ts stray ≡ false
        → verdict after.size stray s ts ≡ Err (fault.Unexpected (place_of_first ts (end_of stray after.size)))
    by_list s g [] None stops h = absurd cc
    by_list s g [] (Some place) stops h = refl
    by_list s g (t ∷ ts) stray stops h = verdict_none after.size stray s t ts (whole_stops s e t.at t.token g stops)

-- ---- the text

-- the tokens of a text, as they are read
pub record IsListed (bytes : List ℕ) (list : TokenList) : Type 0 where
  pub few : length bytes ≤ most_bytes
  pub cut : (tokens : List Placed) × IsCut 1 bytes tokens list.stray × (list.tokens ≡ as_read tokens)
  pub size : list.size ≡ length bytes

pub fault_told : {bytes : List ℕ} {list : TokenList} (f : MatcherFault) → IsListed bytes list → verdict list.size list.stray start list.tokens ≡ Err f → IsFault bytes f
fault_told {bytes} {list} f l v =
    within l.few l.cut.1 (verdict_first (length bytes) list.stray (as_read l.cut.0) f
    (ap (λ (size : ℕ). verdict size list.stray start (as_read l.cut.0)) (sym l.size) ∙ ap (verdict list.size list.stray start) (sym l.cut.2) ∙ v))

ended_is : (ts : List Placed) (stray : Option ℕ) → is_ended ts stray ≡ true → (ts ≡ []) × (stray ≡ None)
ended_is [] None h = (refl, refl)
ended_is [] (Some place) h = absurd cc
ended_is (t ∷ ts) stray h = absurd cc

-- all tokens are read, and no byte begins none
record IsAll (bytes : List ℕ) (e : Expression) (list : TokenList) : Type 0 where
  pub tokens : List Placed
  pub cut : IsCut 1 bytes tokens None
  pub listed : list.tokens ≡ as_read tokens
  pub derived : Derives most_levels or_rule list.tokens e
  pub closed : list_all (λ (t : Placed). is_closed t.token) list.tokens ≡ true

all_read : {bytes : List ℕ} {e : Expression} {list after : TokenList} → IsListed bytes list → Read most_levels or_rule or_rule e list after → is_ended after.tokens after.stray ≡ true → IsAll bytes e list
all_read {bytes} {e} {list} {after} l r end =
    let done = ended_is after.tokens after.stray end in
    let whole : list.tokens ≡ r.read.front = r.read.tokens ∙ ap (λ (ts : List Placed). r.read.front ++ ts) done.0 ∙ append-nil r.read.front in
    record {
      tokens = l.cut.0;
      cut = subst (λ (stray : Option ℕ). IsCut 1 bytes l.cut.0 stray) (sym r.read.stray ∙ done.1) l.cut.1;
      listed = l.cut.2;
      derived = subst (λ (ts : List Placed). Derives most_levels or_rule ts e) (sym whole) r.read.derived;
      closed = ap (list_all (λ (t : Placed). is_closed t.token)) whole ∙ r.read.closed;
    }

pub whole_read : {bytes : List ℕ} {e : Expression} {list after : TokenList} → IsListed bytes list → Read most_levels or_rule or_rule e list after → is_ended after.tokens after.stray ≡ true
    → nat_lt most_nodes (node_count list.tokens) ≡ false → IsMatcher bytes e
whole_read {bytes} {e} {list} {after} l r end few =
    let all = all_read l r end in
    record {
      few_bytes = l.few;
      tokens = all.tokens;
      cut = all.cut;
      closed = sym (read_closed all.tokens) ∙ ap (list_all (λ (t : Placed). is_closed t.token)) (sym all.listed) ∙ all.closed;
      derived = subst (λ (ts : List Placed). Derives most_levels or_rule ts e) all.listed all.derived;
      sound = r.read.sound;
      few_nodes = omega (arith, nodes_derived all.derived, ltb-false most_nodes (node_count list.tokens) few);
    }

pub whole_too_many : {bytes : List ℕ} {e : Expression} {list after : TokenList} → IsListed bytes list → Read most_levels or_rule or_rule e list after → is_ended after.tokens after.stray ≡ true
    → nat_lt most_nodes (node_count list.tokens) ≡ true → IsFault bytes fault.TooManyNodes
whole_too_many {bytes} {e} {list} {after} l r end many =
    let all = all_read l r end in
    let derived = subst (λ (ts : List Placed). Derives most_levels or_rule ts e) all.listed all.derived in
    within l.few all.cut (too_many_nodes (all_fine derived r.read.sound (ap (list_all (λ (t : Placed). is_closed t.token)) (sym all.listed) ∙ all.closed)) derived (omega (arith, nodes_derived all.derived, ltb-true most_nodes (node_count list.tokens) many)))
  where
    all_fine : {ts : List Placed} → Derives most_levels or_rule ts e → is_sound e ≡ true → list_all (λ (t : Placed). is_closed t.token) ts ≡ true → AreFine ts
    all_fine {ts} d sound closed = let k = reads_through d sound closed no_lefts [] (omega arith) in read_fine ts k.0 k.2.without_fault

-- ---- the four clauses

pub only_from : (bytes : List ℕ) (r : Result Tree MatcherFault) → IfOk r (λ tree. IsMatcher bytes (expression tree)) → IfErr r (λ f. f ≢ fault.NoMemory → IsFault bytes f)
    → (e : Expression) → IsMatcher bytes e → MatchResult r (λ tree. expression tree ≡ e) (λ f. f ≡ fault.NoMemory)
only_from bytes (Ok tree) found told e m = one_matcher bytes (expression tree) e found m
only_from bytes (Err f) found told e m = by_fault f told
  where
    by_fault : (g : MatcherFault) → (g ≢ fault.NoMemory → IsFault bytes g) → g ≡ fault.NoMemory
    by_fault fault.NoMemory h = refl
    by_fault fault.TooLong h = absurd (no_matcher_with_fault bytes _ e (h (λ same. cc)) m)
    by_fault (fault.Unexpected at) h = absurd (no_matcher_with_fault bytes _ e (h (λ same. cc)) m)
    by_fault (fault.OpenText at) h = absurd (no_matcher_with_fault bytes _ e (h (λ same. cc)) m)
    by_fault (fault.NumberTooWide at) h = absurd (no_matcher_with_fault bytes _ e (h (λ same. cc)) m)
    by_fault (fault.UnknownFunction at) h = absurd (no_matcher_with_fault bytes _ e (h (λ same. cc)) m)
    by_fault (fault.WrongArguments at) h = absurd (no_matcher_with_fault bytes _ e (h (λ same. cc)) m)
    by_fault (fault.TooDeep at) h = absurd (no_matcher_with_fault bytes _ e (h (λ same. cc)) m)
    by_fault fault.TooManyNodes h = absurd (no_matcher_with_fault bytes _ e (h (λ same. cc)) m)

pub only_fault_from : (bytes : List ℕ) (r : Result Tree MatcherFault) → IfOk r (λ tree. IsMatcher bytes (expression tree)) → IfErr r (λ f. f ≢ fault.NoMemory → IsFault bytes f)
    → (first : MatcherFault) → IsFault bytes first → MatchResult r (λ tree. ⊥) (λ f. f ≢ fault.NoMemory → f ≡ first)
only_fault_from bytes (Ok tree) found told first h = no_matcher_with_fault bytes first (expression tree) h found
only_fault_from bytes (Err f) found told first h = λ some. one_fault bytes f first (told some) h

-- at the exit of a `?`
pub err_found : (bytes : List ℕ) (r : Result Tree MatcherFault) (e : MatcherFault) → IsErrAnd r (λ y. y ≡ e) → IfOk r (λ tree. IsMatcher bytes (expression tree))
err_found bytes (Ok tree) e h = absurd h
err_found bytes (Err f) e h = tt

pub err_told : (bytes : List ℕ) (r : Result Tree MatcherFault) (e : MatcherFault) → IsErrAnd r (λ y. y ≡ e) → (e ≢ fault.NoMemory → IsFault bytes e) → IfErr r (λ f. f ≢ fault.NoMemory → IsFault bytes f)
err_told bytes (Ok tree) e h told = tt
err_told bytes (Err f) e h told = λ some. subst (IsFault bytes) (sym h) (told (λ none. some (h ∙ none)))

-- ---- the byte that begins no token

abbrev IsBefore : Option ℕ → ℕ → Type 0
IsBefore None end = Unit {0}
IsBefore (Some place) end = place < end

before_more : (stray : Option ℕ) (first second : ℕ) → IsBefore stray first → first ≡ second → IsBefore stray second
before_more None first second h e = tt
before_more (Some place) first second h e = omega (arith, h, e)

stray_before : {place : ℕ} {bytes : List ℕ} {tokens : List Placed} {stray : Option ℕ} → IsCut place bytes tokens stray → IsBefore stray (place + length bytes)
stray_before (ended none) = tt
stray_before {place} (strayed blanks bytes none begins same) =
    let some = begins.some in
    omega (arith, ap length same, length-append blanks bytes, ap length some.2)
stray_before {place} {stray = stray} (one_token blanks spelling behind none longest rest same) =
    before_more stray _ _ (stray_before rest) (omega (arith, ap length same, length-append blanks (spelling ++ behind), length-append spelling behind))

pub stray_within : {bytes : List ℕ} {list : TokenList} (after : TokenList) → IsListed bytes list → after.stray ≡ list.stray → after.size ≡ list.size → IsWithin after.stray after.size
stray_within {bytes} {list} after l p q = by_stray after.stray (sym p) (subst (λ (o : Option ℕ). IsBefore o (1 + length bytes)) (sym p) (stray_before l.cut.1))
  where
    by_stray : (o : Option ℕ) → list.stray ≡ o → IsBefore o (1 + length bytes) → IsWithin o after.size
    by_stray None e h = tt
    by_stray (Some place) e h = omega (arith, h, q, l.size)

-- the tokens of the same text
pub listed_same : (first : TokenList) {bytes : List ℕ} {second : TokenList} → ((tokens : List Placed) (stray : Option ℕ) → IsCut 1 bytes tokens stray → (first.tokens ≡ as_read tokens) × (first.stray ≡ stray)) → IsListed bytes second
    → first.tokens ≡ second.tokens
listed_same first only l = (only l.cut.0 _ l.cut.1).0 ∙ sym l.cut.2
