-- What the machine reads without a fault is sound, and so each text is a matcher or has a fault.
use Rattle.std.proofs.Common.{◌≡◌, ℕ, ◌+◌, ◌≤◌, ◌⊎◌, inl, inr, ◌&&◌, Bool, true, false, cond, nat_lt, List, [], ◌∷◌, ◌++◌, length, codes, Option, Some, None, option_map, Result, Ok, Err, refl, sym, ap, ◌∙◌, subst, arith, ltb-true, ltb-false}
use Rattle.std.proofs.lemmas.Bool.{and_parts}
use Rattle.std.specs.Str.{bytes_eq}
use Rattle.std.specs.Str.Parse.{digits_value}
use Rattle.matcher_read.specs.Calls.{callee_of, takes}
use Rattle.matcher_read.specs.Expression.{Expression, negation, opposite, call, expressions_of, count, nodes}
use Rattle.matcher_read.specs.Faults.{IsFault, too_long, too_many_nodes, within}
use Rattle.matcher_read.specs.Grammar.{Derives, or_rule}
use Rattle.matcher_read.specs.Matcher.{IsMatcher, is_sound, are_sound, is_closed, first_wide, most_bytes, most_levels, most_nodes}
use Rattle.matcher_read.specs.Tokens.{Placed, Token, IsCut, as_read, name, called, number, unclosed, operator, exclamation, opening, closing, comma}
use Rattle.matcher_read.specs.Tokens as token
use Rattle.matcher_read.specs.declared.tree.Operator.{Operator}
use Rattle.matcher_read.specs.declared.tree.Operator.TheVariants as op
use Rattle.matcher_read.specs.declared.fault.MatcherFault.{MatcherFault}
use Rattle.matcher_read.specs.declared.fault.MatcherFault.TheVariants as fault
use Rattle.matcher_read.specs.Helps.Machine.{Left, Lefts, Kind, parentheses, members, arguments, Frame, State, Control, wants, has, has_members, opens, no_lefts, start, state_of, with_operand, pushed, joined_left, signed, term_of, sum_of, and_of, or_of, Rank, term_rank, sum_rank, comparing_rank, and_rank, or_rank, rank, joins, operates, asks, parts, closes, name_operand, is_in, step_wants, step_has, step_members, step_opens, step_by, step, call_fault, token_fault, after_fault, read_step, final_value, finish, verdict}
use Rattle.matcher_read.proofs.CuttingLemmas.{has_cut}
use Rattle.matcher_read.proofs.LawLemmas.{read_closed}
use Rattle.matcher_read.proofs.Opens.{whole_within}
use Rattle.matcher_read.proofs.OpenSteps.{choose}
use Rattle.matcher_read.proofs.Passes.{read_none, read_some, reads}
use Rattle.matcher_read.proofs.RunParts.{are_closed}
use Rattle.matcher_read.proofs.Verdicts.{then_ok, read_fine, reads_within, verdict_first, verdict_reads}

-- ---- what is sound in a state

abbrev IsSound : Expression → Type 0
IsSound e = is_sound e ≡ true

abbrev SoundOption : Option Expression → Type 0
SoundOption None = Unit {0}
SoundOption (Some e) = IsSound e

abbrev SoundLeft : Option Left → Type 0
SoundLeft None = Unit {0}
SoundLeft (Some left) = IsSound left.side

-- the left sides that wait
record SoundLefts (l : Lefts) : Type 0 where
  pub ors : SoundLeft l.ors
  pub ands : SoundLeft l.ands
  pub compared : SoundLeft l.compared
  pub sums : SoundLeft l.sums
  pub terms : SoundLeft l.terms

abbrev SoundKind : Kind → Type 0
SoundKind parentheses = Unit {0}
SoundKind (members at left) = IsSound left
SoundKind (arguments at names) = Unit {0}

record SoundFrame (kind : Kind) (outer : Lefts) (before : List Expression) : Type 0 where
  pub of_kind : SoundKind kind
  pub of_outer : SoundLefts outer
  pub of_before : are_sound (expressions_of before) ≡ true

abbrev SoundFrames : List Frame → Type 0
SoundFrames [] = Unit {0}
SoundFrames (frame ∷ frames) = SoundFrame frame.kind frame.outer frame.before × SoundFrames frames

abbrev SoundControl : Control → Type 0
SoundControl wants = Unit {0}
SoundControl (has e) = IsSound e
SoundControl (has_members e) = IsSound e
SoundControl (opens kind) = SoundKind kind

record SoundState (s : State) : Type 0 where
  pub of_control : SoundControl s.control
  pub of_lefts : SoundLefts s.lefts
  pub of_frames : SoundFrames s.frames

abbrev SoundNext : Option State → Type 0
SoundNext None = Unit {0}
SoundNext (Some next) = SoundState next

nothing_waits : SoundLefts no_lefts
nothing_waits = record { ors = tt; ands = tt; compared = tt; sums = tt; terms = tt }

start_sound : SoundState start
start_sound = record { of_control = tt; of_lefts = nothing_waits; of_frames = tt }

-- ---- what is made of sound parts

both_true : (a b : Bool) → a ≡ true → b ≡ true → (a && b) ≡ true
both_true a b h k = rw (h, k) refl

joined_sound : (left : Option Left) (e : Expression) → SoundLeft left → IsSound e → IsSound (joined_left left e)
joined_sound None e h k = k
joined_sound (Some left) e h k = both_true (is_sound left.side) (is_sound e) h k

signed_sound : (signs : List (ℕ × Bool)) (e : Expression) → IsSound e → IsSound (signed signs e)
signed_sound [] e h = h
signed_sound (sign ∷ signs) e h = signed_sound signs (cond sign.1 (negation sign.0 e) (opposite sign.0 e)) (each sign.1)
  where
    each : (b : Bool) → IsSound (cond b (negation sign.0 e) (opposite sign.0 e))
    each true = h
    each false = h

behind_sound : (es : List Expression) (e : Expression) → are_sound (expressions_of es) ≡ true → IsSound e → are_sound (expressions_of (es ++ e ∷ [])) ≡ true
behind_sound [] e h k = both_true (is_sound e) true k refl
behind_sound (f ∷ es) e h k =
    let both = and_parts (is_sound f) (are_sound (expressions_of es)) h in
    both_true (is_sound f) (are_sound (expressions_of (es ++ e ∷ []))) both.0 (behind_sound es e both.1 k)

behind_count : (es : List Expression) (e : Expression) → count (expressions_of (es ++ e ∷ [])) ≡ length es + 1
behind_count [] e = refl
behind_count (f ∷ es) e = omega (arith, behind_count es e)

name_sound : (at : ℕ) (names : List (List ℕ)) → SoundOption (name_operand at names)
name_sound at [] = tt
name_sound at (first ∷ []) = choose SoundOption (bytes_eq first (codes "true")) (λ h. refl) (choose SoundOption (bytes_eq first (codes "false")) (λ h. refl) tt)
name_sound at (first ∷ column ∷ []) = choose SoundOption (bytes_eq first (codes "r")) (λ h. refl) (choose SoundOption (bytes_eq first (codes "p")) (λ h. refl) tt)
name_sound at (first ∷ column ∷ next ∷ names) = choose SoundOption (bytes_eq first (codes "r")) (λ h. refl) (choose SoundOption (bytes_eq first (codes "p")) (λ h. tt) tt)

-- ---- each step

-- the token meets no fault of its own
abbrev IsQuiet : Token → List Frame → Type 0
IsQuiet (number digits) frames = nat_lt (digits_value 10 digits) first_wide ≡ true
IsQuiet closing frames = call_fault frames ≡ None
IsQuiet _ frames = Unit {0}

no_fault : (b : Bool) (f : MatcherFault) → cond b None (Some f) ≡ None → b ≡ true
no_fault true f h = refl
no_fault false f h = absurd cc

quiet_by : (s next : State) (at : ℕ) (t : Token) → token_fault s next at t ≡ None → IsQuiet t s.frames
quiet_by s next at (number digits) h = no_fault (nat_lt (digits_value 10 digits) first_wide) (fault.NumberTooWide at) h
quiet_by s next at closing h = h
quiet_by s next at _ h = tt

operand_sound : (lefts : Lefts) (frames : List Frame) → SoundLefts lefts → SoundFrames frames → (e : Expression) → IsSound e → SoundState (with_operand lefts frames e)
operand_sound lefts frames l f e h = record {
  of_control = signed_sound lefts.signs e h;
  of_lefts = record { ors = l.ors; ands = l.ands; compared = l.compared; sums = l.sums; terms = l.terms };
  of_frames = f;
}

closes_sound : (frames : List Frame) (e : Expression) → call_fault frames ≡ None → SoundFrames frames → IsSound e → SoundNext (closes frames e)
closes_sound [] e quiet f h = tt
closes_sound (frame ∷ frames) e quiet f h = each frame.kind frame.outer frame.before quiet f.0
  where
    each : (kind : Kind) (outer : Lefts) (before : List Expression) → call_fault (record { kind = kind; outer = outer; before = before } ∷ frames) ≡ None → SoundFrame kind outer before
        → SoundNext (closes (record { kind = kind; outer = outer; before = before } ∷ frames) e)
    each parentheses outer before k g = operand_sound outer frames g.of_outer f.1 e h
    each (members at left) outer before k g =
        record { of_control = both_true (is_sound left) (are_sound (expressions_of (before ++ e ∷ []))) g.of_kind (behind_sound before e g.of_before h); of_lefts = g.of_outer; of_frames = f.1 }
    each (arguments at names) outer before k g =
        let takes_so = ap (takes (callee_of names)) (behind_count before e) ∙ no_fault (takes (callee_of names) (length before + 1)) (fault.WrongArguments at) k in
        operand_sound outer frames g.of_outer f.1 (call at (callee_of names) (expressions_of (before ++ e ∷ [])))
        (both_true (takes (callee_of names) (count (expressions_of (before ++ e ∷ [])))) (are_sound (expressions_of (before ++ e ∷ []))) takes_so (behind_sound before e g.of_before h))

parts_sound : (frames : List Frame) (e : Expression) → SoundFrames frames → IsSound e → SoundNext (parts frames e)
parts_sound [] e f h = tt
parts_sound (frame ∷ frames) e f h = each frame.kind frame.outer frame.before f.0
  where
    each : (kind : Kind) (outer : Lefts) (before : List Expression) → SoundFrame kind outer before → SoundNext (parts (record { kind = kind; outer = outer; before = before } ∷ frames) e)
    each parentheses outer before g = tt
    each (members at left) outer before g =
        record { of_control = tt; of_lefts = nothing_waits; of_frames = (record { of_kind = g.of_kind; of_outer = g.of_outer; of_before = behind_sound before e g.of_before h }, f.1) }
    each (arguments at names) outer before g =
        record { of_control = tt; of_lefts = nothing_waits; of_frames = (record { of_kind = g.of_kind; of_outer = g.of_outer; of_before = behind_sound before e g.of_before h }, f.1) }

pushed_sound : (kind : Kind) (lefts : Lefts) (frames : List Frame) → SoundKind kind → SoundLefts lefts → SoundFrames frames → SoundState (pushed kind lefts frames)
pushed_sound kind lefts frames k l f = record { of_control = tt; of_lefts = nothing_waits; of_frames = (record { of_kind = k; of_outer = l; of_before = refl }, f) }

module _ (lefts : Lefts) (frames : List Frame) (l : SoundLefts lefts) (f : SoundFrames frames) (at : ℕ) where
  term_sound : (e : Expression) → IsSound e → IsSound (term_of lefts e)
  term_sound e h = joined_sound lefts.terms e l.terms h

  sum_sound : (e : Expression) → IsSound e → IsSound (sum_of lefts e)
  sum_sound e h = joined_sound lefts.sums (term_of lefts e) l.sums (term_sound e h)

  compared_sound : (e : Expression) → IsSound e → IsSound (joined_left lefts.compared (sum_of lefts e))
  compared_sound e h = joined_sound lefts.compared (sum_of lefts e) l.compared (sum_sound e h)

  and_sound : (e : Expression) → IsSound e → IsSound (and_of lefts e)
  and_sound e h = joined_sound lefts.ands e l.ands h

  or_sound : (e : Expression) → IsSound e → IsSound (or_of lefts e)
  or_sound e h = joined_sound lefts.ors (and_of lefts e) l.ors (and_sound e h)

  option_sound : (o : Option Expression) → SoundOption o → SoundNext (option_map (with_operand lefts frames) o)
  option_sound None h = tt
  option_sound (Some e) h = operand_sound lefts frames l f e h

  minus_sound : (o : Operator) → SoundNext (step_wants at (operator o) lefts frames)
  minus_sound op.Minus = record { of_control = tt; of_lefts = record { ors = l.ors; ands = l.ands; compared = l.compared; sums = l.sums; terms = l.terms }; of_frames = f }
  minus_sound _ = tt

  wants_sound : (t : Token) → IsQuiet t frames → SoundNext (step_wants at t lefts frames)
  wants_sound (name names) q = option_sound (name_operand at names) (name_sound at names)
  wants_sound (called names) q = record { of_control = tt; of_lefts = l; of_frames = f }
  wants_sound (token.eval at_opening column) q = operand_sound lefts frames l f _ refl
  wants_sound (number digits) q = operand_sound lefts frames l f _ q
  wants_sound (token.text bytes) q = operand_sound lefts frames l f _ refl
  wants_sound (unclosed bytes) q = operand_sound lefts frames l f _ refl
  wants_sound (operator o) q = minus_sound o
  wants_sound exclamation q = record { of_control = tt; of_lefts = record { ors = l.ors; ands = l.ands; compared = l.compared; sums = l.sums; terms = l.terms }; of_frames = f }
  wants_sound opening q = pushed_sound parentheses lefts frames tt l f
  wants_sound closing q = tt
  wants_sound comma q = tt

  joins_sound : (r : Rank) (o : Operator) (e : Expression) → IsSound e → SoundNext (joins r at o lefts frames e)
  joins_sound or_rank o e h = record { of_control = tt; of_lefts = record { ors = or_sound e h; ands = tt; compared = tt; sums = tt; terms = tt }; of_frames = f }
  joins_sound and_rank o e h = record { of_control = tt; of_lefts = record { ors = l.ors; ands = and_sound e h; compared = tt; sums = tt; terms = tt }; of_frames = f }
  joins_sound comparing_rank o e h = tt
  joins_sound sum_rank o e h = tt
  joins_sound term_rank o e h = tt

  -- where nothing is compared yet
  once_sound : (compared : Option Left) (s : State) → SoundState s → SoundNext (elim compared [ None ↦ Some s | Some left ↦ None ])
  once_sound None s h = h
  once_sound (Some left) s h = tt

  operates_sound : (r : Rank) (o : Operator) (e : Expression) → IsSound e → SoundNext (operates r at o lefts frames e)
  operates_sound term_rank o e h = record { of_control = tt; of_lefts = record { ors = l.ors; ands = l.ands; compared = l.compared; sums = l.sums; terms = term_sound e h }; of_frames = f }
  operates_sound sum_rank o e h = record { of_control = tt; of_lefts = record { ors = l.ors; ands = l.ands; compared = l.compared; sums = sum_sound e h; terms = tt }; of_frames = f }
  operates_sound comparing_rank o e h =
      once_sound lefts.compared _ (record { of_control = tt; of_lefts = record { ors = l.ors; ands = l.ands; compared = sum_sound e h; sums = tt; terms = tt }; of_frames = f })
  operates_sound and_rank o e h = joins_sound and_rank o (joined_left lefts.compared (sum_of lefts e)) (compared_sound e h)
  operates_sound or_rank o e h = joins_sound or_rank o (joined_left lefts.compared (sum_of lefts e)) (compared_sound e h)

  asks_sound : (e : Expression) → IsSound e → SoundNext (asks at lefts frames e)
  asks_sound e h = once_sound lefts.compared _ (record { of_control = sum_sound e h; of_lefts = record { ors = l.ors; ands = l.ands; compared = l.compared; sums = tt; terms = tt }; of_frames = f })

  in_sound : (b : Bool) (e : Expression) → IsSound e → SoundNext (cond b (asks at lefts frames e) None)
  in_sound true e h = asks_sound e h
  in_sound false e h = tt

  has_sound : (t : Token) → IsQuiet t frames → (e : Expression) → IsSound e → SoundNext (step_has at t lefts frames e)
  has_sound (name names) q e h = in_sound (is_in names) e h
  has_sound (operator o) q e h = operates_sound (rank o) o e h
  has_sound closing q e h = closes_sound frames _ q f (or_sound _ (compared_sound e h))
  has_sound comma q e h = parts_sound frames _ f (or_sound _ (compared_sound e h))
  has_sound _ q e h = tt

  members_sound : (t : Token) → IsQuiet t frames → (e : Expression) → IsSound e → SoundNext (step_members at t lefts frames e)
  members_sound (operator o) q e h = joins_sound (rank o) o e h
  members_sound closing q e h = closes_sound frames _ q f (or_sound e h)
  members_sound comma q e h = parts_sound frames _ f (or_sound e h)
  members_sound _ q e h = tt

  opens_sound : (t : Token) (kind : Kind) → SoundKind kind → SoundNext (step_opens t kind lefts frames)
  opens_sound opening kind k = pushed_sound kind lefts frames k l f
  opens_sound _ kind k = tt

  control_sound : (c : Control) (t : Token) → IsQuiet t frames → SoundControl c → SoundNext (step_by c at t lefts frames)
  control_sound wants t q h = wants_sound t q
  control_sound (has e) t q h = has_sound t q e h
  control_sound (has_members e) t q h = members_sound t q e h
  control_sound (opens kind) t q h = opens_sound t kind h

step_sound : (s : State) (t : Placed) → SoundState s → IsQuiet t.token s.frames → SoundNext (step s t)
unfolding step
step_sound s t h q = control_sound s.lefts s.frames h.of_lefts h.of_frames t.at s.control t.token q h.of_control

-- a token that is read leads to the next state, and has no fault
read_quiet : (s next : State) (t : Placed) → read_step s t ≡ Ok next → (step s t ≡ Some next) × (token_fault s next t.at t.token ≡ None)
read_quiet s next t read = by_step (step s t) refl
  where
    by_fault : (m : State) (o : Option MatcherFault) → step s t ≡ Some m → token_fault s m t.at t.token ≡ o → after_fault m o ≡ Ok next → (step s t ≡ Some next) × (token_fault s next t.at t.token ≡ None)
    by_fault m None stepped quiet e =
        let same : m ≡ next = cc in
        (stepped ∙ ap (λ x. Some x) same, subst (λ x. token_fault s x t.at t.token ≡ None) same quiet)
    by_fault m (Some f) stepped found e = absurd cc

    by_step : (o : Option State) → step s t ≡ o → (step s t ≡ Some next) × (token_fault s next t.at t.token ≡ None)
    by_step None stepped = absurd (let e : Err (fault.Unexpected t.at) ≡ Ok next = sym (read_none s t stepped) ∙ read in cc)
    by_step (Some m) stepped = by_fault m (token_fault s m t.at t.token) stepped refl (sym (read_some s m t stepped) ∙ read)

closed_by : (s next : State) (at : ℕ) (t : Token) → token_fault s next at t ≡ None → is_closed t ≡ true
closed_by s next at (unclosed bytes) h = absurd cc
closed_by s next at _ h = refl

-- tokens that are read are closed, and lead to what is sound
reads_sound : (ts : List Placed) (s next : State) → SoundState s → reads s ts ≡ Ok next → SoundState next × (are_closed ts ≡ true)
reads_sound [] s next h read =
    let same : s ≡ next = cc in
    (subst SoundState same h, refl)
reads_sound (t ∷ ts) s next h read =
    let cut = then_ok (λ m. reads m ts) (read_step s t) next read in
    let one = read_quiet s cut.0 t cut.1 in
    let sound = subst SoundNext one.0 (step_sound s t h (quiet_by s cut.0 t.at t.token one.1)) in
    let rest = reads_sound ts cut.0 next sound cut.2 in
    (rest.0, both_true (is_closed t.token) (are_closed ts) (closed_by s cut.0 t.at t.token one.1) rest.1)

final_sound : (s : State) (e : Expression) → SoundState s → final_value s ≡ Some e → IsSound e
final_sound s e h value = each s.frames s.control h.of_control value
  where
    each : (frames : List Frame) (c : Control) → SoundControl c → final_value (state_of c s.lefts frames) ≡ Some e → IsSound e
    each (frame ∷ frames) c k v = absurd cc
    each [] wants k v = absurd cc
    each [] (has x) k v = subst SoundOption v (or_sound s.lefts [] h.of_lefts tt 0 _ (compared_sound s.lefts [] h.of_lefts tt 0 x k))
    each [] (has_members x) k v = subst SoundOption v (or_sound s.lefts [] h.of_lefts tt 0 x k)
    each [] (opens kind) k v = absurd cc

-- ---- the law

abbrev IsMatcherOrFault : List ℕ → Type 0
IsMatcherOrFault bytes = ((e : Expression) × IsMatcher bytes e) ⊎ ((f : MatcherFault) × IsFault bytes f)

module _ (bytes : List ℕ) (few : length bytes ≤ most_bytes) (ts : List Placed) where
  -- the machine's expression, by its nodes
  matcher_or_many : IsCut 1 bytes ts None → (s : State) (e : Expression) → reads start (as_read ts) ≡ Ok s → final_value s ≡ Some e → IsMatcherOrFault bytes
  matcher_or_many cut s e read value = by_nodes (nat_lt most_nodes (nodes e)) refl
    where
      derived : Derives most_levels or_rule (as_read ts) e
      derived = whole_within most_levels (as_read ts) s e (reads_within start s (as_read ts) (omega arith) read) value

      sound : SoundState s × (are_closed (as_read ts) ≡ true)
      sound = reads_sound (as_read ts) start s start_sound read

      by_nodes : (b : Bool) → nat_lt most_nodes (nodes e) ≡ b → IsMatcherOrFault bytes
      by_nodes true many = inr (fault.TooManyNodes, within few cut (too_many_nodes (read_fine (as_read ts) s read) derived (ltb-true most_nodes (nodes e) many)))
      by_nodes false within_most = inl (
        e,
        record {
          few_bytes = few;
          tokens = ts;
          cut = cut;
          closed = sym (read_closed ts) ∙ sound.1;
          derived = derived;
          sound = final_sound s e sound.0 value;
          few_nodes = ltb-false most_nodes (nodes e) within_most;
        },
      )

  matcher_or_end : (stray : Option ℕ) → IsCut 1 bytes ts stray → (s : State) (e : Expression) → reads start (as_read ts) ≡ Ok s → finish (length bytes) stray s ≡ Ok e → IsMatcherOrFault bytes
  matcher_or_end (Some place) cut s e read done = absurd cc
  matcher_or_end None cut s e read done = by_value (final_value s) refl
    where
      by_value : (o : Option Expression) → final_value s ≡ o → IsMatcherOrFault bytes
      by_value None value = absurd (let bad : Err (fault.Unexpected (length bytes + 1)) ≡ Ok e = sym (rw (value, finish) refl) ∙ done in cc)
      by_value (Some x) value = matcher_or_many cut s x read value

  cut_says : (stray : Option ℕ) → IsCut 1 bytes ts stray → IsMatcherOrFault bytes
  cut_says stray cut = by_verdict (verdict (length bytes) stray start (as_read ts)) refl
    where
      by_verdict : (r : Result Expression MatcherFault) → verdict (length bytes) stray start (as_read ts) ≡ r → IsMatcherOrFault bytes
      by_verdict (Err f) h = inr (f, within few cut (verdict_first (length bytes) stray (as_read ts) f h))
      by_verdict (Ok e) h =
          let read = then_ok (finish (length bytes) stray) (reads start (as_read ts)) e (sym (verdict_reads (length bytes) stray start (as_read ts)) ∙ h) in
          matcher_or_end stray cut read.0 e read.1 read.2

-- each text is a matcher, or has a fault
pub matcher_or_fault : (bytes : List ℕ) → IsMatcherOrFault bytes
matcher_or_fault bytes = by_size (nat_lt most_bytes (length bytes)) refl
  where
    by_size : (b : Bool) → nat_lt most_bytes (length bytes) ≡ b → IsMatcherOrFault bytes
    by_size true over = inr (fault.TooLong, too_long (ltb-true most_bytes (length bytes) over))
    by_size false few =
        let cut = has_cut 1 bytes in
        cut_says bytes (ltb-false most_bytes (length bytes) few) cut.0 cut.1 cut.2
