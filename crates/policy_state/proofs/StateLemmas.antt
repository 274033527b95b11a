-- A policy when edits are made ready in it, and when they are made.
use Rattle.std.proofs.Common.{◌≡◌, ◌-◌, true, List, All, ◌++◌, drop, length, map, Option, IfSome, sym, ap, subst, ◌∙◌}
use Rattle.perm_base.specs.declared.shapes.Shapes.{Shapes}
use Rattle.perm_base.specs.declared.shapes.TableId.TheVariants.{P}
use Rattle.policy_index.specs.Indexed.{Indexed}
use Rattle.policy_index.specs.Keys.{KeyParts, is_below}
use Rattle.edit_calls.specs.Admitted.{AreAdmitted}
use Rattle.policy_state.specs.Helps.Kept.{AreIndexed, IsSectionIn, IsState, kept_of, key_of, parts_of}
use Rattle.policy_state.specs.Ready.{AreReady, CanLink, Readied}
use Rattle.policy_state.specs.States.{Parts, State}
use Rattle.policy_state.proofs.AdmittedLemmas.{KeepSound, all_sound}
use Rattle.policy_state.proofs.GrownLemmas.{grown_more}
use Rattle.policy_table.specs.Changes.{edited, flat, replay}
use Rattle.policy_table.specs.Held.{Held}
use Rattle.policy_table.specs.Slots.{slots}
use Rattle.policy_table.specs.Limits.{AreSound}
use Rattle.policy_table.specs.Tables.{AreLists, Policy, most_tables}
use Rattle.policy_table.specs.declared.change.Change.{Change}
use Rattle.policy_table.proofs.CallerLemmas.{are_lists, counted_edited, replayed}
use Rattle.role_domain.specs.Sections.{Section}
use Rattle.version_log.specs.Log.{Logged}

-- the tables after admitted edits are short enough
pub few_after : (shapes : Shapes) → KeepSound shapes → (policy : Policy) (edits : List (List Change)) → length policy.lists ≡ most_tables → AreSound shapes policy → AreAdmitted shapes policy edits → AreLists (edited (flat edits) policy).lists
few_after shapes keep policy edits nine sound admitted =
    let after = all_sound shapes keep policy edits sound admitted in
    are_lists shapes (edited (flat edits) policy) (counted_edited (flat edits) policy ∙ nine) after.shaped after.within

-- ---- they are made

-- edits that are ready are so as their parts are seen
pub ready_inside : (now there : State) (edits : List (List Change)) (ready made : Readied) → there ≡ now → made ≡ ready → AreReady now edits ready → AreReady there edits made
ready_inside now there edits ready made state is are = subst (λ (r : Readied). AreReady there edits r) (sym is) (subst (λ (s : State). AreReady s edits ready) (sym state) are)

-- the tables are those after the edits
pub tables_made : (policy new : Policy) (changes : List Change) (edits : List (List Change)) → changes ≡ flat edits → new ≡ edited changes policy → new ≡ replay edits policy
tables_made policy new changes edits same made = made ∙ ap (λ (l : List Change). edited l policy) same ∙ sym (replayed edits policy)

-- a state is kept
pub state_after : (shapes : Shapes) → KeepSound shapes → (key : Option KeyParts) (log new : Logged) (parts : Parts) (held : Held) (index : Option Indexed) (sections : List Section) (edits : List (List Change)) (ready : Readied)
    → IsState shapes log parts → AreReady (record { shapes = shapes; key = key; log = log; parts = parts }) edits ready
    → new.tail ≡ drop (ready.start - log.start) log.tail ++ edits → held.policy ≡ edited ready.parts.tables parts.held.policy
    → key_of index ≡ key_of parts.index → AreIndexed index (slots held P) → map kept_of sections ≡ map kept_of parts.sections
    → ((after : Policy) → CanLink after parts.sections ready.parts.sections → All (IsSectionIn after) sections) → IsState shapes new (parts_of held index sections)
state_after shapes keep key log new parts held index sections edits ready kept is tail made key_same indexed sections_same linked = record {
  valid = kept.valid;
  sound = subst (AreSound shapes) (sym here) (all_sound shapes keep parts.held.policy edits kept.sound is.admitted);
  grown = grown_more shapes keep (ready.start - log.start) log.tail edits new.tail parts.held.policy held.policy kept.grown is.admitted tail (tables_made parts.held.policy held.policy ready.parts.tables edits is.changes made);
  below = subst (λ (k : Option KeyParts). IfSome k (λ (one : KeyParts). is_below shapes.columns one ≡ true)) (sym key_same) kept.below;
  index = indexed;
  sections = record { kept = sections_same ∙ kept.sections.kept; each = subst (λ (p : Policy). All (IsSectionIn p) sections) (sym here) (linked (edited (flat edits) parts.held.policy) is.sections) };
}
  where
    here : held.policy ≡ edited (flat edits) parts.held.policy
    here = made ∙ ap (λ (l : List Change). edited l parts.held.policy) is.changes
