-- How far the requests of an input are explained and their pieces printed.
use Rattle.std.proofs.Common.{◌≡◌, ℕ, ◌+◌, ◌≤◌, ◌==◌, min, Bool, true, false, true≢false, List, [], ◌∷◌, ◌++◌, Ok, Err, String, length, length-append, map, append_assoc, append-nil, inl, inr, refl, sym, ap, subst, ◌∙◌, arith}
use Rattle.std.specs.Prelude.{IsUtf8, MatchBool, None, Option, string_bytes}
use Rattle.std.specs.List.{Contains}
use Rattle.std.specs.declared.alloc.Global.{Global}
use Rattle.std.proofs.lemmas.Bool.{eq-eqb, ne_eqb}
use Rattle.std.proofs.lemmas.List.{append_cancel_left, length-map}
use Rattle.std.proofs.lemmas.List.Elements.{Contains-append_left, Contains-append_right}
use Rattle.answer_lines.specs.LineText.{line_text}
use Rattle.answer_lines.specs.declared.answer.Answer.{Answer}
use Rattle.answer_lines.specs.declared.answer.Answer.TheVariants as answer
use Rattle.answer_lines.specs.declared.answer.Line.{Line}
use Rattle.effect_fold.specs.declared.verdict.Verdict.{Verdict}
use Rattle.desk_session.proofs.CallerLemmas.{alone_before, logged_more, logs_more, none_asked}
use Rattle.desk_session.specs.Requests.{Refuses, TellsAnswer}
use Rattle.matcher_meaning.specs.Verdicts.{IsJudged}
use Rattle.model_conf.specs.ModelText.{ModelParts}
use Rattle.near_miss.proofs.CallerLemmas.{misses_for_more}
use Rattle.near_miss.specs.Lines.{miss_lines}
use Rattle.near_miss.specs.Misses.{AreNearMisses}
use Rattle.near_miss.specs.Parts.{AreParts}
use Rattle.near_miss.specs.declared.misses.NearMiss.{NearMiss}
use Rattle.outside.specs.Faults.{Rose}
use Rattle.outside.specs.Told.{with_back, TookFront}
use Rattle.perm_base.specs.declared.shapes.Shapes.{Shapes}
use Rattle.perm_base.specs.declared.shapes.TableId.TheVariants.{P}
use Rattle.perm_value.specs.Datum.{Datum}
use Rattle.perm_value.specs.Seen.{datum}
use Rattle.perm_value.specs.declared.request.RequestFault.{RequestFault}
use Rattle.perm_value.specs.declared.value.Value.{Value}
use Rattle.policy_state.specs.States.{State, tables}
use Rattle.policy_table.specs.Tables.{Policy, rows}
use Rattle.regex_gate.specs.Refusals.{IsRefused, IsUsed, Refusals, after_refusal, after_refusals}
use Rattle.run_status.specs.declared.stop.Stop.TheVariants.{CannotWrite, NoMemory}
use Rattle.script_read.specs.Lines.{requests_of}
use Rattle.script_read.specs.Script.{IsRequests}
use Rattle.script_read.specs.Said.{Reading, Said, asks}
use Rattle.session_meaning.proofs.CallerLemmas.{behind_other, out_at_desk, plain_more, plain_none}
use Rattle.session_meaning.specs.Desks.{IsBehind}
use Rattle.session_meaning.specs.Plain.{IsLine, IsPlain, all_refused, most_number}
use Rattle.session_meaning.specs.Replies.{IsAnswerTo, IsDecided, IsReply}
use Rattle.version_log.specs.Log.{versions}
use Rattle.loaded_work.specs.Explained.{ArePieces, IsBelow, TellsMisses}
use Rattle.loaded_work.specs.Finders.{HasRefused}
use Rattle.loaded_work.specs.Helps.ExplainedLines.{ArePushed, ExplainedAll, ExplainedSome, ExplainsLine, PiecesOf, TellsBelow, TellsExplained}
use Rattle.loaded_work.specs.Helps.GatheredLines.{Moves}
use Rattle.loaded_work.specs.Helps.TaskSteps.{StopsLine}
use Rattle.loaded_work.proofs.AskLemmas.{HasVerdicts, OneWay, asked, asked_more, one_reading}
use Rattle.loaded_work.proofs.PieceLemmas.{HasMisses, MorePieces, all_pieces_pushed, are_pieces_more, more_pieces, pieces_first, pieces_front, pushed_more, pushed_moved, pushed_none, stopped_pieces}
use Rattle.loaded_work.proofs.PrintLemmas.{Run, Seen, says_all, seen_first, seen_later, seen_pushed}

-- ---- what was refused

-- these patterns more, and then those
refusals_more : (before : Refusals) (some others : List (List ℕ)) → after_refusals before (some ++ others) ≡ after_refusals (after_refusals before some) others
refusals_more before [] others = refl
refusals_more before (pattern ∷ some) others = refusals_more (after_refusal before pattern) some others

-- a pattern that the log got is among those that were refused
refused_in : (before now : Refusals) (refused : List (List ℕ)) (pattern : List ℕ) → now ≡ after_refusals before refused → IsRefused before now pattern → Contains refused pattern
refused_in before now refused pattern logged is =
    let same : is.more ≡ refused = append_cancel_left before.patterns is.more refused (sym is.grown ∙ ap (λ (r : Refusals). r.patterns) logged ∙ logs_more before refused) in
    subst (λ (more : List (List ℕ)). Contains more pattern) same is.logged

-- what it refused for the one part of an item and then for the other
pub both_refused : (model : ModelParts) (before mid now : Refusals) (item : Said) → Refuses model before mid item → Refuses model mid now item → Refuses model before now item
both_refused model before mid now item one other = record {
  refused = one.refused ++ other.refused;
  logged = other.logged ∙ ap (λ (r : Refusals). after_refusals r other.refused) one.logged ∙ sym (refusals_more before one.refused other.refused);
  unasked = λ calm. ap (λ (l : List (List ℕ)). l ++ other.refused) (one.unasked calm) ∙ other.unasked calm;
}

-- more patterns that were refused
abbrev Among : List (List ℕ) → List (List ℕ) → Type 0
Among few many = (pattern : List ℕ) → Contains few pattern → Contains many pattern

judged_more : (model : ModelParts) (shapes : Shapes) (policy : Policy) (values : List Datum) (few many : List (List ℕ)) (v : Verdict) → Among few many → IsJudged model shapes policy values (Contains few) v → IsJudged model shapes policy values (Contains many) v
judged_more model shapes policy values few many v more (inl is) = inl is
judged_more model shapes policy values few many v more (inr (refusal, bad, fault, is)) = inr (refusal, more refusal.pattern bad, fault, is)

answers_more : (model : ModelParts) (shapes : Shapes) (version : ℕ) (policy : Policy) (few many : List (List ℕ)) → Among few many → (reading : Reading) (reply : Answer) → IsAnswerTo model shapes few version policy reading reply → IsAnswerTo model shapes many version policy reading reply
answers_more model shapes version policy few many more (Err fault) reply is = is
answers_more model shapes version policy few many more (Ok values) reply is = by (length values == length model.request) is
  where
    by : (fits : Bool) → MatchBool fits (IsDecided model shapes few version policy values reply) (reply ≡ answer.Arity (length values) (length model.request))
        → MatchBool fits (IsDecided model shapes many version policy values reply) (reply ≡ answer.Arity (length values) (length model.request))
    by true decided = record { verdict = decided.verdict; judged = judged_more model shapes policy values few many decided.verdict more decided.judged; told = decided.told }
    by false told = told

below_more : (parts : List ModelParts) (most : ℕ) (model : ModelParts) (shapes : Shapes) (policy : Policy) (few many : List (List ℕ)) → Among few many → (reading : Reading) (below : List ℕ) → IsBelow parts most model shapes policy (asks reading) few below → IsBelow parts most model shapes policy (asks reading) many below
below_more parts most model shapes policy few many more (Err fault) below is = is
below_more parts most model shapes policy few many more (Ok values) below is = by (length values == length model.request) is
  where
    by : (fits : Bool) → MatchBool fits (TellsMisses parts most shapes policy values few below) (below ≡ []) → MatchBool fits (TellsMisses parts most shapes policy values many below) (below ≡ [])
    by true tells = record { misses = tells.misses; are = misses_for_more shapes policy values (Contains few) (Contains many) parts most tells.misses more tells.are; told = tells.told }
    by false none = none

-- ---- one request

module _ (parts : List ModelParts) (most : ℕ) (model : ModelParts) (state : State) where
  -- below a line that is no request stands nothing
  pub tells_no_request : (before : Refusals) (fault : RequestFault) (old : String Global) → TellsBelow parts most model state before before (Err fault) old old
  tells_no_request before fault old = record { asked = none_asked model before (asks (Err fault)); below = []; is = refl; appended = sym (append-nil (string_bytes old)) }

  module _ (values : List Value) where
    size : length (map datum values) ≡ length values
    size = length-map values datum

    -- nor below a request with another number of values
    pub tells_no_misses : (before : Refusals) (old : String Global) → (length values ≡ length model.request → ⊥) → TellsBelow parts most model state before before (Ok (map datum values)) old old
    tells_no_misses before old others =
        let unequal : (length (map datum values) == length model.request) ≡ false = ne_eqb (length (map datum values)) (length model.request) (λ equal. others (sym size ∙ equal)) in
        record {
          asked = none_asked model before (asks (Ok (map datum values)));
          below = [];
          is = subst (λ (b : Bool). MatchBool b (TellsMisses parts most state.shapes (tables state) (map datum values) [] []) (◌≡◌ {A = List ℕ} [] [])) (sym unequal) refl;
          appended = sym (append-nil (string_bytes old));
        }

    -- below one that is decided stand its near misses
    pub tells_misses : (before now : Refusals) (misses : List NearMiss) (old new : String Global) → length values ≡ length model.request → IsUsed before now → AreNearMisses state.shapes (tables state) (map datum values) (IsRefused before now) parts most misses
        → string_bytes new ≡ string_bytes old ++ miss_lines parts (rows (tables state) P) misses → TellsBelow parts most model state before now (Ok (map datum values)) old new
    tells_misses before now misses old new equal used are appended =
        let fits : (length (map datum values) == length model.request) ≡ true = eq-eqb (length (map datum values)) (length model.request) (size ∙ equal) in
        let text = miss_lines parts (rows (tables state) P) misses in
        let tells : TellsMisses parts most state.shapes (tables state) (map datum values) used.more text = record {
          misses = misses;
          are = misses_for_more state.shapes (tables state) (map datum values) (IsRefused before now) (Contains used.more) parts most misses (λ pattern bad. refused_in before now used.more pattern used.refused bad) are;
          told = refl;
        } in
        record {
          asked = record { refused = used.more; logged = used.refused; unasked = λ calm. absurd (true≢false (sym fits ∙ calm)) };
          below = text;
          is = subst (λ (b : Bool). MatchBool b (TellsMisses parts most state.shapes (tables state) (map datum values) used.more text) (text ≡ [])) (sym fits) tells;
          appended = appended;
        }

  -- a line, and what stands below it
  pub explains : (before mid now : Refusals) (reading : Reading) (number : ℕ) (old between new : String Global) → TellsAnswer model state before mid reading number old between → TellsBelow parts most model state mid now reading between new
      → TellsExplained parts most model state before now reading number old new
  explains before mid now reading number old between new told below =
      let few = told.answered.asked.refused in
      let own = below.asked.refused in
      record {
        reply = told.reply;
        answered = record {
          asked = record {
            refused = few ++ own;
            logged = below.asked.logged ∙ ap (λ (r : Refusals). after_refusals r own) told.answered.asked.logged ∙ sym (refusals_more before few own);
            unasked = λ calm. ap (λ (l : List (List ℕ)). l ++ own) (told.answered.asked.unasked calm) ∙ below.asked.unasked calm;
          };
          answers = answers_more model state.shapes (versions state.log) (tables state) few (few ++ own) (λ pattern among. Contains-append_left few own pattern among) reading told.reply told.answered.answers;
        };
        below = below.below;
        is = below_more parts most model state.shapes (tables state) own (few ++ own) (λ pattern among. Contains-append_right few own pattern among) reading below.below below.is;
        appended = below.appended ∙ ap (λ (t : List ℕ). t ++ below.below) told.appended ∙ append_assoc (string_bytes old) (line_text (record { number = number; answer = told.reply })) below.below;
      }

-- ---- requests under way

-- the lines up to those that are left are explained; their pieces were pushed or are gathered
pub record IsExplainedTo {json : Bool} (run : Run json) (parts : List ModelParts) (most : ℕ) (left : List (List ℕ)) (number : ℕ) (gathered : List ℕ) (seen : Seen) : Type 0 where
  pub read : List (List ℕ)
  pub refused : List (List (List ℕ))
  pub lines : List Line
  pub pieces : List (List ℕ)
  pub whole : run.all ≡ read ++ left
  pub behind : IsBehind run.state.shapes (tables run.state) (asked run.reader read) run.state.log (tables run.state) [] None
  pub number_is : number ≡ min (length (asked run.reader read)) most_number
  pub plain : IsPlain run.model run.state.shapes (tables run.state) (asked run.reader read) refused lines
  pub below : ArePieces parts most run.model run.state.shapes (tables run.state) (asked run.reader read) refused lines pieces
  pub logged : seen.now ≡ after_refusals seen.before (all_refused refused)
  pub told : ArePushed seen.out seen.out_now gathered pieces seen.faults seen.faults_now

pub explained_none : {json : Bool} (run : Run json) (parts : List ModelParts) (most : ℕ) (gathered : List ℕ) (out : Option (List ℕ)) (faults : ℕ) (before : Refusals) → versions run.state.log ≡ 0 → gathered ≡ []
    → IsExplainedTo run parts most run.all 0 gathered (seen_first out faults before)
explained_none run parts most gathered out faults before none empty = record {
  read = [];
  refused = [];
  lines = [];
  pieces = [];
  whole = refl;
  behind = (alone_before run.state none).edits;
  number_is = omega arith;
  plain = plain_none run.model run.state.shapes (tables run.state);
  below = tt;
  logged = refl;
  told = pushed_none out gathered faults empty;
}

-- one line more is explained and gathered
pub explained_more : {json : Bool} (run : Run json) (parts : List ModelParts) (most : ℕ) (law : OneWay json) (left rest : List (List ℕ)) (number next : ℕ) (line : List ℕ) (old new : String Global) (seen : Seen) (later : Refusals) → IsExplainedTo run parts most left number (string_bytes old) seen
    → left ≡ line ∷ rest → next ≡ min (number + 1) most_number → ExplainsLine parts most run.model run.state json seen.now later line next old new → IsExplainedTo run parts most rest next (string_bytes new) (seen_later seen later)
explained_more {json} run parts most law left rest number next line old new seen later so begins next-is own_line =
    let told = own_line.told in
    let patterns = told.answered.asked.refused in
    let item = asks own_line.reading in
    let before = asked run.reader so.read in
    let own : Line = record { number = next; answer = told.reply } in
    let piece = line_text own ++ told.below in
    let same : item ≡ asks (run.reader.request line) = ap (λ (reading : Reading). asks reading) (one_reading json law run.reader line own_line.reading own_line.says) in
    let said : before ++ item ∷ [] ≡ asked run.reader (so.read ++ line ∷ []) = ap (λ (i : Said). before ++ i ∷ []) same ∙ sym (asked_more run.reader so.read (line ∷ [])) in
    let replied : IsReply run.model run.state.shapes (tables run.state) patterns before item told.reply
    = out_at_desk run.state.shapes (tables run.state) before run.state.log (tables run.state) [] None so.behind (λ (version : ℕ) (policy : Policy). IsAnswerTo run.model run.state.shapes patterns version policy own_line.reading told.reply) told.answered.answers in
    let is_line : IsLine run.model run.state.shapes (tables run.state) before item patterns own = record { number = omega (arith, next-is, so.number_is); answer = replied; unasked = told.answered.asked.unasked } in
    record {
      read = so.read ++ line ∷ [];
      refused = so.refused ++ patterns ∷ [];
      lines = so.lines ++ own ∷ [];
      pieces = so.pieces ++ piece ∷ [];
      whole = so.whole ∙ ap (λ (l : List (List ℕ)). so.read ++ l) begins ∙ sym (append_assoc so.read (line ∷ []) rest);
      behind = subst (λ (items : List Said). IsBehind run.state.shapes (tables run.state) items run.state.log (tables run.state) [] None) said (behind_other run.state.shapes (tables run.state) before run.state.log (tables run.state) [] None so.behind item refl);
      number_is = subst (λ (items : List Said). next ≡ min (length items) most_number) said (omega (arith, next-is, so.number_is, length-append before (item ∷ [])));
      plain = subst (λ (items : List Said). IsPlain run.model run.state.shapes (tables run.state) items (so.refused ++ patterns ∷ []) (so.lines ++ own ∷ [])) said
          (plain_more run.model run.state.shapes (tables run.state) before so.refused so.lines item patterns own so.plain is_line);
      below = subst (λ (items : List Said). ArePieces parts most run.model run.state.shapes (tables run.state) items (so.refused ++ patterns ∷ []) (so.lines ++ own ∷ []) (so.pieces ++ piece ∷ [])) said
          (are_pieces_more parts most run.model run.state.shapes (tables run.state) before so.refused so.lines so.pieces item patterns own piece so.below (told.below, told.is, refl));
      logged = logged_more seen.before seen.now later so.refused patterns so.logged told.answered.asked.logged;
      told = pushed_more seen.out seen.out_now (string_bytes old) (string_bytes new) so.pieces piece seen.faults seen.faults_now so.told told.appended;
    }

-- the finder was used so far, and at a line that is not explained
pub explained_used : {json : Bool} (run : Run json) (parts : List ModelParts) (most : ℕ) (left : List (List ℕ)) (number : ℕ) (gathered : List ℕ) (seen : Seen) → IsExplainedTo run parts most left number gathered seen → IsUsed seen.before seen.now
explained_used run parts most left number gathered seen so = record { more = all_refused so.refused; refused = so.logged }

pub explained_stopped : {json : Bool} (run : Run json) (parts : List ModelParts) (most : ℕ) (left : List (List ℕ)) (number : ℕ) (gathered : List ℕ) (seen : Seen) (later : Refusals) (line : List ℕ) → IsExplainedTo run parts most left number gathered seen → StopsLine run.model json seen.now later line → IsUsed seen.before later
explained_stopped run parts most left number gathered seen later line so stops = record {
  more = all_refused (so.refused ++ stops.asked.refused ∷ []);
  refused = logged_more seen.before seen.now later so.refused stops.asked.refused so.logged stops.asked.logged;
}

-- some of what was gathered was pushed
pub explained_moved : {json : Bool} (run : Run json) (parts : List ModelParts) (most : ℕ) (left : List (List ℕ)) (number : ℕ) (gathered still : List ℕ) (seen : Seen) (now : Option (List ℕ)) (faults : ℕ) → IsExplainedTo run parts most left number gathered seen → Moves seen.out_now now gathered still → seen.faults_now ≤ faults
    → IsExplainedTo run parts most left number still (seen_pushed seen now faults)
explained_moved run parts most left number gathered still seen now faults so moved counted = record {
  read = so.read;
  refused = so.refused;
  lines = so.lines;
  pieces = so.pieces;
  whole = so.whole;
  behind = so.behind;
  number_is = so.number_is;
  plain = so.plain;
  below = so.below;
  logged = so.logged;
  told = pushed_moved seen.out seen.out_now now gathered still so.pieces seen.faults seen.faults_now faults so.told moved counted;
}

-- ---- the ends

-- all lines are explained and pushed
pub explained_all : {json : Bool} (run : Run json) (parts : List ModelParts) (most : ℕ) (text : List ℕ) (left : List (List ℕ)) (number : ℕ) (gathered : List ℕ) (seen : Seen) (now : Option (List ℕ)) → IsUtf8 text → run.all ≡ requests_of text → IsExplainedTo run parts most left number gathered seen → AreParts run.model parts → left ≡ []
    → now ≡ with_back seen.out_now gathered → ExplainedAll (IsRequests json text) most run.model run.state.shapes (tables run.state) seen.before seen.now seen.out now
explained_all run parts most text left number gathered seen now utf8 all so parts_are none took =
    let whole : so.read ≡ run.all = sym (so.whole ∙ ap (λ (l : List (List ℕ)). so.read ++ l) none ∙ append-nil so.read) in
    record {
      printed = record {
        items = asked run.reader run.all;
        refused = so.refused;
        pieces = so.pieces;
        says = says_all run text utf8 all;
        explained = record {
          parts = parts;
          parts_are = parts_are;
          lines = so.lines;
          plain = subst (λ (l : List (List ℕ)). IsPlain run.model run.state.shapes (tables run.state) (asked run.reader l) so.refused so.lines) whole so.plain;
          below = subst (λ (l : List (List ℕ)). ArePieces parts most run.model run.state.shapes (tables run.state) (asked run.reader l) so.refused so.lines so.pieces) whole so.below;
          text_is = refl;
        };
        logged = so.logged;
      };
      took = all_pieces_pushed seen.out seen.out_now now gathered so.pieces seen.faults seen.faults_now so.told took;
    }

-- the pieces of all requests, of which the first are these
module _ {json : Bool} (law : HasVerdicts) (misses : HasMisses) (run : Run json) (parts : List ModelParts) (most : ℕ) (text : List ℕ) (left : List (List ℕ)) (number : ℕ) (gathered : List ℕ) (seen : Seen) (utf8 : IsUtf8 text) (all : run.all ≡ requests_of text) (so : IsExplainedTo run parts most left number gathered seen) (parts_are : AreParts run.model parts) where
  -- pieces of what was read and of what is left
  abbrev MoreOf : List (List ℕ) → List (List (List ℕ)) → Type 0
  MoreOf others refused = MorePieces parts most run.model run.state.shapes (tables run.state) (asked run.reader so.read ++ asked run.reader others) refused so.lines so.pieces

  pieces_with : (refused : List (List (List ℕ))) (later : Refusals) → later ≡ after_refusals seen.before (all_refused refused) → MoreOf left refused → PiecesOf (IsRequests json text) most run.model run.state.shapes (tables run.state) (HasRefused seen.before later)
  pieces_with refused later logged rest =
      let whole : asked run.reader so.read ++ asked run.reader left ≡ asked run.reader run.all = sym (asked_more run.reader so.read left) ∙ ap (λ (lines : List (List ℕ)). asked run.reader lines) (sym so.whole) in
      record {
        items = asked run.reader run.all;
        refused = rest.all;
        pieces = so.pieces ++ rest.others;
        says = says_all run text utf8 all;
        explained = record {
          parts = parts;
          parts_are = parts_are;
          lines = so.lines ++ rest.more;
          plain = subst (λ (items : List Said). IsPlain run.model run.state.shapes (tables run.state) items rest.all (so.lines ++ rest.more)) whole rest.plain;
          below = subst (λ (items : List Said). ArePieces parts most run.model run.state.shapes (tables run.state) items rest.all (so.lines ++ rest.more) (so.pieces ++ rest.others)) whole rest.below;
          text_is = refl;
        };
        logged = logged ∙ ap (after_refusals seen.before) (sym rest.same);
      }

  -- memory ran out at a line
  pub explained_memory : (way : OneWay json) (line : List ℕ) (others : List (List ℕ)) (later : Refusals) (rose : Type 0) → left ≡ line ∷ others → StopsLine run.model json seen.now later line
      → ExplainedSome (IsRequests json text) most run.model run.state.shapes (tables run.state) seen.before later seen.out seen.out_now rose NoMemory
  unfolding pieces_with
  explained_memory way line others later rose begins stops =
      let same = one_reading json way run.reader line stops.reading stops.says in
      let asks_so : Refuses run.model seen.now later (asks (run.reader.request line)) = subst (λ (reading : Reading). Refuses run.model seen.now later (asks reading)) same stops.asked in
      let more : MoreOf (line ∷ others) (so.refused ++ asks_so.refused ∷ [])
      = stopped_pieces parts most run.model run.state.shapes (tables run.state) misses law run.reader line others (asked run.reader so.read) so.refused asks_so.refused so.lines so.pieces asks_so.unasked so.plain so.below in
      let rest : MoreOf left (so.refused ++ asks_so.refused ∷ []) = subst (λ (l : List (List ℕ)). MoreOf l (so.refused ++ asks_so.refused ∷ [])) (sym begins) more in
      record {
        printed = pieces_with (so.refused ++ asks_so.refused ∷ []) later (logged_more seen.before seen.now later so.refused asks_so.refused so.logged asks_so.logged) rest;
        stops = pieces_first seen.out seen.out_now gathered so.pieces rest.others seen.faults seen.faults_now so.told;
      }

  -- the sink failed
  pub explained_write : (now : Option (List ℕ)) (faults : ℕ) → TookFront seen.out_now now gathered → Rose seen.faults_now faults
      → ExplainedSome (IsRequests json text) most run.model run.state.shapes (tables run.state) seen.before seen.now seen.out now (Rose seen.faults faults) CannotWrite
  unfolding pieces_with
  explained_write now faults front rose =
      let rest : MoreOf left so.refused = more_pieces parts most run.model run.state.shapes (tables run.state) misses law run.reader left (asked run.reader so.read) so.refused so.lines so.pieces so.plain so.below in
      record {
        printed = pieces_with so.refused seen.now so.logged rest;
        stops = (pieces_front seen.out seen.out_now now gathered so.pieces rest.others seen.faults seen.faults_now so.told front, omega (arith, so.told.counted, rose));
      }
