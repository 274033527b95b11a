-- Where the administrator of a pair stands in a script.
use Rattle.std.specs.Prelude.{◌≡◌, ⊤, List, [], ◌∷◌, ◌++◌}
use mathlib.Core.List.{IsPrefix}
use Rattle.answer_lines.specs.declared.answer.Answer.{Answer}
use Rattle.answer_lines.specs.Printed.{PrintedAnswer}
use Rattle.live_pair.specs.Admins.{AdminSeen}
use Rattle.live_pair.specs.Story.{edits_in}
use Rattle.desk_session.specs.Desks.{HasEditsOf, StandsBehind}
use Rattle.desk_session.specs.Steps.{IsPlainStep, IsStopped}
use Rattle.live_rounds.specs.Printed.{IsPrinted}
use Rattle.model_conf.specs.ModelText.{ModelParts}
use Rattle.perm_base.specs.declared.shapes.Shapes.{Shapes}
use Rattle.policy_table.specs.Tables.{Policy}
use Rattle.policy_table.specs.declared.change.Change.{Change}
use Rattle.script_read.specs.Said.{Said}
use Rattle.script_read.specs.Said as said
use Rattle.session_meaning.specs.Desks.{history}
use Rattle.session_meaning.specs.Replies.{IsReply}

-- ---- one item

-- the publishes behind an item
abbrev pub list_behind : Said → AdminSeen → List (List (List Change))
list_behind said.publishes admin = admin.list ++ admin.desk.pending ∷ []
list_behind item admin = admin.list

-- an item that is no request is answered and done at the administrator's desk, and a publish is one of the pair
pub record IsAdminStep (item : Said) (old new : AdminSeen) (reply : Answer) : Type 0 where
  pub step : IsPlainStep item old.desk new.desk reply
  pub shapes_are : new.desk.state.shapes ≡ old.desk.state.shapes
  pub list_is : new.list ≡ list_behind item old

-- nothing was done
pub record IsAdminStopped (old new : AdminSeen) : Type 0 where
  pub desk : IsStopped old.desk new.desk
  pub list_is : new.list ≡ old.list

-- ---- items behind others

module _ (shapes : Shapes) (opening : Policy) where
  -- its desk stands behind these items, and its publishes have the edits that these items publish
  pub record IsAdminBehind (items : List Said) (admin : AdminSeen) : Type 0 where
    pub shapes_are : admin.desk.state.shapes ≡ shapes
    pub desk : StandsBehind opening items admin.desk
    pub published : edits_in admin.list ≡ history shapes opening items

  -- it has the edits of some of the first items of a round behind others, and its publishes have those that are published
  pub record IsAdminAmid (before round : List Said) (admin : AdminSeen) : Type 0 where
    pub front : List Said
    pub back : List Said
    pub parts : round ≡ front ++ back
    pub edits : HasEditsOf opening (before ++ front) admin.desk
    pub published : edits_in admin.list ≡ history shapes opening (before ++ front)

  -- the replies to those items of a round that are no requests, behind others
  abbrev pub AreReplies : List Said → List Said → List PrintedAnswer → Type 0
  AreReplies before [] [] = ⊤
  AreReplies before (said.asks reading ∷ items) replies = AreReplies (before ++ said.asks reading ∷ []) items replies
  AreReplies before (item ∷ items) (reply ∷ replies) = IsPrinted (λ (answer : Answer). (model : ModelParts) → IsReply model shapes opening [] before item answer) reply × AreReplies (before ++ item ∷ []) items replies
  AreReplies before _ _ = ⊥

  -- these publishes are those behind some of the first items of a round
  pub record AreAt (before round : List Said) (list : List (List (List Change))) : Type 0 where
    pub front : List Said
    pub back : List Said
    pub parts : round ≡ front ++ back
    pub edits : edits_in list ≡ history shapes opening (before ++ front)

  -- the items of a round that are no requests are answered and done behind others: each beginning of the publishes that goes as
  -- far as those before it is one behind some of the first items
  pub record AreDoneBeside (before round : List Said) (old new : AdminSeen) (replies : List PrintedAnswer) : Type 0 where
    pub replies_are : AreReplies before round replies
    pub behind : IsAdminBehind (before ++ round) new
    pub grown : IsPrefix old.list new.list
    pub cuts : (list : List (List (List Change))) → IsPrefix old.list list → IsPrefix list new.list → AreAt before round list
