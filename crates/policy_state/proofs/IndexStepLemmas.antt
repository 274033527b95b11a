-- Steps that are made in tables and in their index, one after the other.
use Rattle.std.proofs.Common.{◌≡◌, length, true, List, [], ◌∷◌, Option, refl, sym, ap, subst, ◌∙◌}
use Rattle.std.proofs.lemmas.Bool.{and_parts}
use Rattle.perm_base.specs.declared.shapes.TableId.TheVariants.{P}
use Rattle.policy_index.specs.Indexed.{Indexed, slots_behind}
use Rattle.policy_index.specs.Keys.{KeyParts}
use Rattle.policy_state.specs.Helps.Kept.{AreIndexed, key_of}
use Rattle.policy_state.specs.Ready.{CanIndex}
use Rattle.policy_state.proofs.IndexLemmas.{slots_made}
use Rattle.policy_table.specs.Changes.{applies, changed, edited, is_possible}
use Rattle.policy_table.specs.Held.{Held, IsPreparedFor}
use Rattle.policy_table.specs.Slots.{slots, slots_changed}
use Rattle.policy_table.specs.Tables.{Policy, most_tables}
use Rattle.policy_table.specs.declared.change.Change.{Change}

-- what is left is ready in the tables and in their index, and leads where all does; the index is of the tables, by the same key
pub record Makes (end : Policy) (key : Option KeyParts) (rest : List Change) (held : Held) (index : Option Indexed) : Type 0 where
  pub tables : IsPreparedFor held rest
  pub rows : AreIndexed index (slots held P)
  pub ready : CanIndex rest index
  pub key_is : key_of index ≡ key
  pub leads : edited rest held.policy ≡ end

pub makes_begin : (held : Held) (index : Option Indexed) (prepared rest : List Change) → rest ≡ prepared → IsPreparedFor held prepared → AreIndexed index (slots held P) → CanIndex prepared index
    → Makes (edited prepared held.policy) (key_of index) rest held index
makes_begin held index prepared rest same tables rows ready =
    subst (λ (l : List Change). Makes (edited prepared held.policy) (key_of index) l held index) (sym same) (record { tables = tables; rows = rows; ready = ready; key_is = refl; leads = refl })

-- the first is possible
pub first_possible : (held : Held) (step : Change) (changes : List Change) → IsPreparedFor held (step ∷ changes) → is_possible step held.policy ≡ true
unfolding applies
first_possible held step changes is = (and_parts (is_possible step held.policy) (applies changes (changed step held.policy)) is.possible).0

-- it is made
pub makes_more : (end : Policy) (key : Option KeyParts) (step : Change) (changes rest : List Change) (held after : Held) (index new : Option Indexed) → rest ≡ step ∷ changes → Makes end key rest held index
    → after.policy ≡ changed step held.policy → ((l : List Change) → IsPreparedFor held (step ∷ l) → IsPreparedFor after l) → key_of new ≡ key_of index → AreIndexed new (slots after P)
    → ((l : List Change) → CanIndex (step ∷ l) index → CanIndex l new) → Makes end key changes after new
unfolding edited
makes_more end key step changes rest held after index new first makes policy tables key_same rows ready =
    let here : Makes end key (step ∷ changes) held index = subst (λ (l : List Change). Makes end key l held index) first makes in
    record {
      tables = tables changes here.tables;
      rows = rows;
      ready = ready changes here.ready;
      key_is = key_same ∙ here.key_is;
      leads = ap (edited changes) policy ∙ here.leads;
    }

-- all are
pub makes_end : (end : Policy) (key : Option KeyParts) (rest : List Change) (held : Held) (index : Option Indexed) → rest ≡ [] → Makes end key rest held index → held.policy ≡ end
unfolding edited
makes_end end key rest held index none makes = (subst (λ (l : List Change). Makes end key l held index) none makes).leads

-- the index is of the tables after a step
pub rows_after : (step : Change) (held after : Held) (index : Option Indexed) → length held.slots ≡ most_tables → after.slots ≡ slots_changed step held.slots → AreIndexed index (slots_behind step (slots held P)) → AreIndexed index (slots after P)
rows_after step held after index nine made is = subst (AreIndexed index) (sym (slots_made step held after nine made)) is
