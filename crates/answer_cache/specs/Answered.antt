-- What a request is answered by way of a cache, and what becomes of the entries.
use Rattle.std.specs.Prelude.{◌≡◌, ◌↔◌, ℕ, true, List, ◌∷◌, ◌++◌, take, MatchBool}
use Rattle.matcher_meaning.specs.Perm.{is_refusal}
use Rattle.perm_value.specs.Datum.{Datum}
use Rattle.answer_cache.specs.Cached.{Cached, Entry, Stands, entries_of}
use Rattle.answer_cache.specs.declared.answer.CachedAnswer.{CachedAnswer}
use Rattle.answer_cache.specs.declared.answer.Kept.{Kept}
use Rattle.answer_cache.specs.declared.answer.Kept.TheVariants.{Yes, Refused, NoMemory}

-- an item stood in a list, and goes to the front of it
pub record GoesToFront {A : Type 0} (item : A) (before after : List A) : Type 0 where
  pub ahead : List A
  pub behind : List A
  pub stood : before ≡ ahead ++ item ∷ behind
  pub moved : after ≡ item ∷ ahead ++ behind

-- a hit: the entry of the request goes to the front, and its verdict is the answer
pub record IsHit (request : List Datum) (before after : List Entry) (answer : CachedAnswer) : Type 0 where
  pub entry : GoesToFront (request, answer.verdict) before after
  pub kept : answer.kept ≡ Yes

-- the entries behind a miss: where the verdict was kept it stands in front, and of more than the capacity the last is lost; else they stay
abbrev pub entries_behind : Kept → ℕ → Entry → List Entry → List Entry
entries_behind Yes capacity entry entries = take capacity (entry ∷ entries)
entries_behind Refused capacity entry entries = entries
entries_behind NoMemory capacity entry entries = entries

-- a miss: the request has no entry; its verdict is refused exactly where it is the fault of a pattern
pub record IsMiss (request : List Datum) (capacity : ℕ) (before after : List Entry) (answer : CachedAnswer) : Type 0 where
  pub none : ¬ (Stands request before)
  pub refused : (answer.kept ≡ Refused) ↔ (is_refusal answer.verdict ≡ true)
  pub entries : after ≡ entries_behind answer.kept capacity (request, answer.verdict) before

-- the answer to a request, between a cache at the version of the policy and the cache afterwards
abbrev pub IsAnswered : List Datum → (before after : Cached) → CachedAnswer → Type 0
IsAnswered request before after answer =
    MatchBool answer.hit
    (IsHit request (entries_of before) (entries_of after) answer)
    (IsMiss request before.capacity (entries_of before) (entries_of after) answer)
