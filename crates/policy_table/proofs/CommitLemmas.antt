-- Changes that are made one after the other in tables that are prepared for them.
use Rattle.std.proofs.Common.{◌≡◌, ℕ, ◌+◌, ◌<◌, ◌≤◌, ◌^◌, Bool, true, List, [], ◌∷◌, length, get_or, refl, sym, ap, subst, ◌∙◌, arith}
use Rattle.std.proofs.Math.ListN.{set}
use Rattle.std.proofs.lemmas.List.{length-set, map-set}
use Rattle.std.proofs.lemmas.List.Elements.{All-set}
use Rattle.policy_table.specs.Changes.{applies, changed, edited, is_possible}
use Rattle.policy_table.specs.Held.{Held, IsPreparedFor, needed}
use Rattle.policy_table.specs.Helps.Rows.{AreTables, Rows, counted_of, lists_of, policy_of}
use Rattle.policy_table.specs.Slots.{slots_changed, slots_edited}
use Rattle.policy_table.specs.Tables.{AreLists, AreOrdered, Fields, Lists, Policy}
use Rattle.policy_table.specs.declared.change.Change.{Change}
use Rattle.policy_table.proofs.LawLemmas.{kept_of, order_of, ordered_changed, rest_possible}
use Rattle.policy_table.proofs.StepLemmas.{needed-append}

-- the tables stay prepared for the changes behind the first when this is made
pub rest_prepared : (old new : Held) (change : Change) (changes : List Change) → IsPreparedFor old (change ∷ changes) → new.policy ≡ changed change old.policy
    → ((at : ℕ) → get_or old.spare at 0 ≤ get_or new.spare at 0 + needed at (change ∷ [])) → IsPreparedFor new changes
unfolding edited
rest_prepared old new change changes ready made spare = record {
  possible = ap (applies changes) made ∙ rest_possible change changes old.policy ready.possible;
  few = subst (λ (policy : Policy). AreLists (edited changes policy).lists) (sym made) ready.few;
  room = λ at few. omega (arith, ready.room at few, spare at, needed-append at (change ∷ []) changes);
}

-- the tables after a change of the table at a place are tables
pub tables_changed : (ranked : Bool) (tables : List Rows) (at : ℕ) (after : Rows) (change : Change) → AreTables ranked tables → is_possible change (policy_of ranked tables) ≡ true
    → policy_of ranked (set tables at after) ≡ changed change (policy_of ranked tables) → length after.rules < 2 ^ 32 → counted_of (set tables at after) ≡ counted_of tables → AreTables ranked (set tables at after)
tables_changed ranked tables at after change are possible made few marks = record {
  kept = kept_of (policy_of ranked (set tables at after)) (subst AreOrdered (sym made) (ordered_changed change (policy_of ranked tables) (order_of (policy_of ranked tables) are.kept) possible)) lists;
  counted = marks ∙ are.counted;
}
  where
    lists : AreLists (lists_of (set tables at after))
    lists = subst AreLists (sym (map-set (λ (r : Rows). r.rules) tables at after)) (record {
      counted = length-set (lists_of tables) at after.rules ∙ are.kept.lists.counted;
      few = All-set (λ (rules : List Fields). length rules < 2 ^ 32) (lists_of tables) at after.rules few are.kept.lists.few;
    })

-- what is left can be made in these tables, and leads to the whole
pub record Lead (policy : Policy) (slots : Lists) (changes : List Change) (held : Held) : Type 0 where
  pub ready : IsPreparedFor held changes
  pub reached : edited changes held.policy ≡ policy
  pub slotted : slots_edited changes held.slots ≡ slots

-- prepared edits lead to what they make
pub begins : (held : Held) (prepared left : List Change) → left ≡ prepared → IsPreparedFor held prepared → Lead (edited prepared held.policy) (slots_edited prepared held.slots) left held
begins held prepared left same ready =
    subst (λ (l : List Change). Lead (edited prepared held.policy) (slots_edited prepared held.slots) l held) (sym same) (record { ready = ready; reached = refl; slotted = refl })

-- a change is made
pub leads_on : (policy : Policy) (slots : Lists) (change : Change) (changes left : List Change) (held after : Held) → Lead policy slots left held → left ≡ change ∷ changes → after.policy ≡ changed change held.policy
    → after.slots ≡ slots_changed change held.slots → ((rest : List Change) → IsPreparedFor held (change ∷ rest) → IsPreparedFor after rest) → Lead policy slots changes after
unfolding edited slots_edited
leads_on policy slots change changes left held after lead parts made moved ready = by (subst (λ (l : List Change). Lead policy slots l held) parts lead)
  where
    by : Lead policy slots (change ∷ changes) held → Lead policy slots changes after
    by l = record {
      ready = ready changes l.ready;
      reached = ap (edited changes) made ∙ l.reached;
      slotted = ap (slots_edited changes) moved ∙ l.slotted;
    }

-- none is left
pub led : (policy : Policy) (slots : Lists) (left : List Change) (held : Held) → Lead policy slots left held → left ≡ [] → (held.policy ≡ policy) × (held.slots ≡ slots)
unfolding edited slots_edited
led policy slots left held lead none = by (subst (λ (l : List Change). Lead policy slots l held) none lead)
  where
    by : Lead policy slots [] held → (held.policy ≡ policy) × (held.slots ≡ slots)
    by l = (l.reached, l.slotted)

-- no change is left in a list without any
pub empty_of : {X : Type 0} (xs : List X) → length xs ≡ 0 → xs ≡ []
empty_of [] none = refl
empty_of (x ∷ xs) none = absurd (omega (arith, none))
