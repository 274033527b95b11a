-- What `enforce` with a cache tells of it: how many requests were answered from the cache.
use Rattle.std.specs.Prelude.{◌≡◌, ℕ, ◌+◌, Bool, List, [], ◌∷◌, Ok, flat_map, if◌then◌else◌}
use Rattle.answer_cache.specs.Answered.{IsAnswered}
use Rattle.answer_cache.specs.Cached.{Cached}
use Rattle.answer_cache.specs.declared.answer.CachedAnswer.{CachedAnswer}
use Rattle.answer_lines.specs.LineText.{line_text}
use Rattle.answer_lines.specs.declared.answer.Answer.{Answer}
use Rattle.answer_lines.specs.declared.answer.Answer.TheVariants as answer
use Rattle.answer_lines.specs.declared.answer.Line.{Line}
use Rattle.effect_fold.specs.declared.verdict.Verdict.{Verdict}
use Rattle.model_conf.specs.ModelText.{ModelParts}
use Rattle.perm_base.specs.declared.shapes.Shapes.{Shapes}
use Rattle.perm_value.specs.Datum.{Datum}
use Rattle.policy_table.specs.Tables.{Policy}
use Rattle.script_read.specs.Said.{Said, asks}
use Rattle.session_meaning.specs.Plain.{IsPlain}

-- a cache of this capacity that has no answers yet
abbrev pub opened : ℕ → Cached
opened capacity = record { version = 0; capacity = capacity; entries = [] }

-- whether a request is a hit, as a count
abbrev pub hits_of : Bool → ℕ
hits_of hit = if hit then 1 else 0

-- a request is given this verdict by way of a cache; it counts as a hit or not
pub record IsFound (values : List Datum) (verdict : Verdict) (before after : Cached) (hits : ℕ) : Type 0 where
  pub found : CachedAnswer
  pub answered : IsAnswered values before after found
  pub same : found.verdict ≡ verdict
  pub counted : hits ≡ hits_of found.hit

-- what an item that is answered so does to a cache: only a verdict comes by way of it
abbrev pub Turns : Said → Answer → Cached → Cached → ℕ → Type 0
Turns (asks (Ok values)) (answer.Decided version verdict rule) before after hits = IsFound values verdict before after hits
Turns item reply before after hits = (after ≡ before) × (hits ≡ 0)

-- what items with these lines do to a cache, one after the other, and how many hits there are
abbrev pub Counts : Cached → List Said → List Line → ℕ → Cached → Type 0
Counts before [] [] hits after = (after ≡ before) × (hits ≡ 0)
Counts before (item ∷ items) (line ∷ lines) hits after =
    (mid : Cached) × (first : ℕ) × (others : ℕ) × Turns item line.answer before mid first × Counts mid items lines others after × (hits ≡ first + others)
Counts before [] (line ∷ lines) hits after = ⊥
Counts before (item ∷ items) [] hits after = ⊥

-- so many of the items are answered from a cache of this capacity, where these patterns were refused for each of them and this is the text of their lines
pub record AreHits (capacity : ℕ) (model : ModelParts) (shapes : Shapes) (policy : Policy) (items : List Said) (refused : List (List (List ℕ))) (text : List ℕ) (hits : ℕ) : Type 0 where
  pub lines : List Line
  pub plain : IsPlain model shapes policy items refused lines
  pub text_is : text ≡ flat_map line_text lines
  pub after : Cached
  pub counts : Counts (opened capacity) items lines hits after
