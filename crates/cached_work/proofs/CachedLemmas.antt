-- Requests that are answered by way of a cache, one after the other.
use Rattle.std.proofs.Common.{◌≡◌, ℕ, ◌+◌, ◌<◌, ◌≤◌, min, Bool, true, false, List, [], ◌∷◌, ◌++◌, String, append-nil, refl, sym, ap, subst, ◌∙◌, arith}
use Rattle.std.specs.Prelude.{Option, IsUtf8, if◌then◌else◌, string_bytes}
use Rattle.std.specs.declared.alloc.Global.{Global}
use Rattle.std.proofs.lemmas.Bool.{eq-eqb}
use Rattle.std.proofs.lemmas.List.Elements.{All-from_recursion}
use Rattle.answer_cache.specs.Answered.{IsAnswered}
use Rattle.answer_cache.specs.Cached.{Cached, at_version, entries_of}
use Rattle.answer_cache.specs.Good.{AreJudged}
use Rattle.answer_cache.specs.declared.answer.CachedAnswer.{CachedAnswer}
use Rattle.answer_lines.specs.declared.answer.Line.{Line}
use Rattle.model_conf.specs.ModelText.{ModelParts}
use Rattle.outside.specs.Told.{with_back}
use Rattle.perm_value.specs.Datum.{Datum}
use Rattle.policy_state.specs.States.{State, tables}
use Rattle.regex_gate.specs.Refusals.{Refusals}
use Rattle.script_read.specs.Said.{Reading, Said, asks}
use Rattle.script_read.specs.Script.{IsRequests}
use Rattle.script_read.specs.Lines.{requests_of}
use Rattle.session_meaning.specs.Plain.{most_number}
use Rattle.version_log.specs.Log.{versions}
use Rattle.cached_work.specs.CacheHits.{Counts, IsFound, Turns, hits_of, opened}
use Rattle.cached_work.specs.Helps.CacheSteps.{AnswersCached, IsGoodCache, PrintedCached}
use Rattle.loaded_work.specs.Helps.GatheredLines.{Moves}
use Rattle.loaded_work.proofs.CallerLemmas.{OneWay, asked, asked_more, one_reading}
use Rattle.loaded_work.proofs.CallerLemmas.{IsPrinted, Run, Seen, printed_all, printed_more, printed_moved, printed_none, seen_first, seen_later, seen_pushed}

-- one item more
pub counts_more : (before mid after : Cached) (items : List Said) (lines : List Line) (hits more : ℕ) (item : Said) (line : Line) → Counts before items lines hits mid → Turns item line.answer mid after more → Counts before (items ++ item ∷ []) (lines ++ line ∷ []) (hits + more) after
counts_more before mid after [] [] hits more item line (same, none) turn =
    (after, more, 0, subst (λ (cache : Cached). Turns item line.answer cache after more) same turn, (refl, refl), omega (arith, none))
counts_more before mid after [] (other ∷ lines) hits more item line counts turn = absurd counts
counts_more before mid after (other ∷ items) [] hits more item line counts turn = absurd counts
counts_more before mid after (other ∷ items) (one ∷ lines) hits more item line (next, first, others, own, rest, is) turn =
    (next, first, others + more, own, counts_more next mid after items lines others more item line rest turn, omega (arith, is))

-- a cache of the policy's version stays as it is
pub same_version : (version : ℕ) (cache : Cached) → cache.version ≡ version → at_version version cache ≡ cache
same_version version cache is = ap (λ (b : Bool). if b then cache else record { version = version; capacity = cache.capacity; entries = [] }) (eq-eqb cache.version version is)

-- a request whose verdict came by way of a cache
pub found_turn : (values : List Datum) (version : ℕ) (found : CachedAnswer) (before after : Cached) → before.version ≡ version → IsAnswered values (at_version version before) after found → IsFound values found.verdict before after (hits_of found.hit)
found_turn values version found before after is answered = record {
  found = found;
  answered = subst (λ (cache : Cached). IsAnswered values cache after found) (same_version version before is) answered;
  same = refl;
  counted = refl;
}

-- ---- lines under way

module _ {json : Bool} (run : Run json) (capacity : ℕ) where
  -- the lines up to those that are left are answered by way of a cache, and so many of them came from it
  pub record IsCached (left : List (List ℕ)) (number : ℕ) (gathered : List ℕ) (seen : Seen) (cache : Cached) (hits : ℕ) : Type 0 where
    pub printed : IsPrinted run left number gathered seen
    pub counts : Counts (opened capacity) (asked run.reader printed.read) printed.lines hits cache

  pub cached_none : (gathered : List ℕ) (out : Option (List ℕ)) (faults : ℕ) (before : Refusals) (cache : Cached) → versions run.state.log ≡ 0 → gathered ≡ [] → cache ≡ opened capacity → IsCached run.all 0 gathered (seen_first out faults before) cache 0
  unfolding printed_none
  cached_none gathered out faults before cache none empty fresh = record {
    printed = printed_none run gathered out faults before none empty;
    counts = (fresh, refl);
  }

  pub cached_more : (law : OneWay json) (left rest : List (List ℕ)) (number next : ℕ) (line : List ℕ) (old new : String Global) (seen : Seen) (later : Refusals) (cache cache_now : Cached) (hits more : ℕ) (hit : Bool) → IsCached left number (string_bytes old) seen cache hits
      → left ≡ line ∷ rest → next ≡ min (number + 1) most_number → AnswersCached run.model run.state json seen.now later line next old new cache cache_now hit → more ≡ hits + hits_of hit
      → IsCached rest next (string_bytes new) (seen_later seen later) cache_now more
  unfolding printed_more
  cached_more law left rest number next line old new seen later cache cache_now hits more hit so begins next-is answers more-is =
      let one : Line = record { number = next; answer = answers.answers.told.reply } in
      let item : asks answers.answers.reading ≡ asks (run.reader.request line) = ap (λ (reading : Reading). asks reading) (one_reading json law run.reader line answers.answers.reading answers.answers.says) in
      let turn : Turns (asks (run.reader.request line)) one.answer cache cache_now (hits_of hit) = subst (λ (i : Said). Turns i one.answer cache cache_now (hits_of hit)) item answers.turn in
      let said = sym (asked_more run.reader so.printed.read (line ∷ [])) in
      record {
        printed = printed_more run law left rest number next line old new seen later so.printed begins next-is answers.answers;
        counts = subst (λ (n : ℕ). Counts (opened capacity) (asked run.reader (so.printed.read ++ line ∷ [])) (so.printed.lines ++ one ∷ []) n cache_now) (sym more-is)
            (subst (λ (items : List Said). Counts (opened capacity) items (so.printed.lines ++ one ∷ []) (hits + hits_of hit) cache_now) said
            (counts_more (opened capacity) cache cache_now (asked run.reader so.printed.read) so.printed.lines hits (hits_of hit) (asks (run.reader.request line)) one so.counts turn));
      }

  pub cached_moved : (left : List (List ℕ)) (number : ℕ) (gathered still : List ℕ) (seen : Seen) (now : Option (List ℕ)) (faults : ℕ) (cache : Cached) (hits : ℕ) → IsCached left number gathered seen cache hits → Moves seen.out_now now gathered still → seen.faults_now ≤ faults
      → IsCached left number still (seen_pushed seen now faults) cache hits
  unfolding printed_moved
  cached_moved left number gathered still seen now faults cache hits so moved counted = record {
    printed = printed_moved run left number gathered still seen now faults so.printed moved counted;
    counts = so.counts;
  }

  -- all lines are answered and pushed
  pub cached_all : (text : List ℕ) (left : List (List ℕ)) (number : ℕ) (gathered : List ℕ) (seen : Seen) (now : Option (List ℕ)) (cache : Cached) (hits : ℕ) → IsUtf8 text → run.all ≡ requests_of text → IsCached left number gathered seen cache hits → left ≡ [] → now ≡ with_back seen.out_now gathered
      → PrintedCached (IsRequests json text) run.model run.state.shapes (tables run.state) seen.before seen.now seen.out now capacity hits
  unfolding printed_all
  cached_all text left number gathered seen now cache hits utf8 all so none took =
      let whole : so.printed.read ≡ run.all = sym (so.printed.parts ∙ ap (λ (l : List (List ℕ)). so.printed.read ++ l) none ∙ append-nil so.printed.read) in
      record {
        all = printed_all run text left number gathered seen now utf8 all so.printed none took;
        after = cache;
        counts = subst (λ (l : List (List ℕ)). Counts (opened capacity) (asked run.reader l) so.printed.lines hits cache) whole so.counts;
      }

-- there are no more hits than bytes were read
pub hits_few : (hits more rest left whole : ℕ) (hit : Bool) → hits + left ≤ whole → rest < left → more ≡ hits + hits_of hit → more + rest ≤ whole
hits_few hits more rest left whole true few shorter more-is = omega (arith, few, shorter, more-is)
hits_few hits more rest left whole false few shorter more-is = omega (arith, few, shorter, more-is)

-- ---- a cache that has no answers yet

pub fresh_cache : (cache : Cached) (version capacity : ℕ) → cache ≡ record { version = version; capacity = capacity; entries = [] } → version ≡ 0 → (cache ≡ opened cache.capacity) × (cache.capacity ≡ capacity)
fresh_cache cache version capacity is none =
    let size = ap (λ (c : Cached). c.capacity) is in
    (is ∙ ap (λ (v : ℕ). bare v capacity) none ∙ ap opened (sym size), size)
  where
    bare : ℕ → ℕ → Cached
    bare version capacity = record { version = version; capacity = capacity; entries = [] }

pub fresh_good : (model : ModelParts) (state : State) (cache : Cached) → cache ≡ opened cache.capacity → versions state.log ≡ 0 → IsGoodCache model state cache
fresh_good model state cache fresh none = record {
  version = ap (λ (c : Cached). c.version) fresh ∙ sym none;
  judged = subst (λ (c : Cached). AreJudged model state.shapes (tables state) (entries_of c)) (sym fresh) none_judged;
}
  where
    none_judged : AreJudged model state.shapes (tables state) []
    none_judged = All-from_recursion _ [] tt
