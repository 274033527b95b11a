-- A pair before a script.
use Rattle.std.proofs.Common.{◌≡◌, List, [], ◌∷◌, None, refl, sym, ap, subst, ◌∙◌}
use Rattle.live_pair.specs.Admins.{AdminSeen}
use Rattle.live_pair.specs.Story.{edits_in}
use Rattle.desk_session.proofs.CallerLemmas.{stands_alone, stands_before}
use Rattle.desk_session.specs.Desks.{StandsBehind}
use Rattle.live_rounds.specs.Administrators.{IsAdminBehind}
use Rattle.perm_base.specs.declared.shapes.Shapes.{Shapes}
use Rattle.policy_desk.specs.Desks.{IsDesk, Work}
use Rattle.policy_state.specs.States.{StandsFor, State, tables}
use Rattle.policy_table.specs.Tables.{Policy}
use Rattle.policy_table.specs.declared.change.Change.{Change}
use Rattle.session_meaning.proofs.CallerLemmas.{history_none}
use Rattle.version_log.specs.Log.{versions}

-- a state at version 0 stands for no edit on its own tables
pub stands_new : (state : State) → versions state.log ≡ 0 → StandsFor state (tables state) []
stands_new state none = record { log = stands_alone state.log none; tables = refl }

-- the administrator of a pair that was just opened stands before all items
pub admin_first : (shapes : Shapes) (opening : Policy) (admin : AdminSeen) (desk : Work) (first : List (List Change)) → admin.desk ≡ desk → admin.list ≡ first ∷ [] → first ≡ [] → desk.state.shapes ≡ shapes → StandsFor desk.state opening first → IsDesk desk → versions desk.state.log ≡ 0
    → desk.pending ≡ [] → desk.kept ≡ None → IsAdminBehind shapes opening [] admin
admin_first shapes opening admin desk first desk-is list-is none shapes-is stands is_desk empty pending kept = record {
  shapes_are = ap (λ (d : Work). d.state.shapes) desk-is ∙ shapes-is;
  desk = subst (StandsBehind opening []) (sym desk-is) (subst (λ (policy : Policy). StandsBehind policy [] desk) opened (stands_before desk is_desk empty pending kept));
  published = ap edits_in (list-is ∙ ap (λ (l : List (List Change)). l ∷ []) none) ∙ sym (history_none shapes opening);
}
  where
    opened : tables desk.state ≡ opening
    opened = (subst (StandsFor desk.state opening) none stands).tables
