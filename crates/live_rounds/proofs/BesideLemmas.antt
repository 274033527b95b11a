-- Items that are no requests, done one after the other.
use Rattle.std.proofs.Common.{◌≡◌, ℕ, Bool, true, false, List, [], ◌∷◌, ◌++◌, append-nil, append_assoc, length, map, replicate, refl, sym, ap, subst, ◌∙◌}
use Rattle.std.specs.List.{list_all}
use Rattle.std.proofs.lemmas.List.{map-append}
use Rattle.answer_lines.specs.Printed.{PrintedAnswer, printed_answer}
use Rattle.answer_lines.specs.declared.answer.Answer.{Answer}
use Rattle.live_pair.specs.Admins.{AdminSeen}
use Rattle.live_pair.specs.Story.{edits_in}
use Rattle.live_rounds.proofs.AdminLemmas.{beside_asked, beside_more, beside_none}
use Rattle.live_rounds.proofs.ItemLemmas.{parts_all, parts_more}
use Rattle.live_rounds.specs.Administrators.{AreDoneBeside, IsAdminAmid, IsAdminBehind, IsAdminStep, IsAdminStopped}
use Rattle.live_rounds.specs.Helps.Turns.{ArePassedOver, IsTurnDone, IsTurnStopped, is_built_asked}
use Rattle.live_rounds.specs.Helps.Turns.IsTurnDone.{made, passed}
use Rattle.live_rounds.specs.Helps.Turns.IsTurnStopped.{undone, unsaid}
use Rattle.desk_session.specs.Steps.{is_request}
use Rattle.perm_base.specs.declared.shapes.Shapes.{Shapes}
use Rattle.policy_table.specs.Tables.{Policy}
use Rattle.script_read.specs.ItemLines.{IsBuiltAs}
use Rattle.script_read.specs.Said.{Said}
use Rattle.script_read.specs.Said as said
use Rattle.script_read.specs.declared.said_lines.BuiltItem.{BuiltItem}
use Rattle.script_read.specs.declared.said_lines.BuiltItem.TheVariants as built

-- what is told of an item that is built where it is no request
pub built_asked : (first : BuiltItem) (item : Said) → IsBuiltAs first item → is_request item ≡ is_built_asked first
built_asked (built.Request asked) item is = ap is_request is
built_asked (built.Other it) item is = is.1

kinds_more : (kinds more : List Bool) (done : List Said) (item : Said) → kinds ≡ map is_request done → more ≡ kinds ++ is_request item ∷ [] → more ≡ map is_request (done ++ item ∷ [])
kinds_more kinds more done item are more-is = more-is ∙ ap (λ (l : List Bool). l ++ is_request item ∷ []) are ∙ sym (map-append is_request done (item ∷ []))

module _ (shapes : Shapes) (opening : Policy) (items : List Said) (old : AdminSeen) where
  -- where the administrator stands behind the items before, these are left of the items and the others are done; of these it is known
  -- whether they are requests
  pub record AreDoneUpTo (left : List Said) (admin : AdminSeen) (replies : List PrintedAnswer) (kinds : List Bool) : Type 0 where
    pub done : List Said
    pub parts : items ≡ done ++ left
    pub beside : (before : List Said) → IsAdminBehind shapes opening before old → AreDoneBeside shapes opening before done old admin replies
    pub kinds_are : kinds ≡ map is_request done

  pub done_first : (left : List Said) (replies : List PrintedAnswer) (kinds : List Bool) → left ≡ items → replies ≡ [] → kinds ≡ [] → AreDoneUpTo left old replies kinds
  done_first left replies kinds same none empty = record {
    done = [];
    parts = sym same;
    beside = λ before is. subst (AreDoneBeside shapes opening before [] old old) (sym none) (beside_none shapes opening before old is);
    kinds_are = empty;
  }

  module _ (left next : List Said) (item : Said) (mid : AdminSeen) (replies : List PrintedAnswer) (kinds more_kinds : List Bool) (first_is : left ≡ item ∷ next) (so : AreDoneUpTo left mid replies kinds) (more-kinds-are : more_kinds ≡ kinds ++ is_request item ∷ []) where
    pub done_asked : is_request item ≡ true → AreDoneUpTo next mid replies more_kinds
    done_asked asks = record {
      done = so.done ++ item ∷ [];
      parts = parts_more items so.done left next item so.parts first_is;
      beside = λ before stands. beside_asked shapes opening before old so.done item mid replies asks (so.beside before stands);
      kinds_are = kinds_more kinds more_kinds so.done item so.kinds_are more-kinds-are;
    }

    pub done_more : (new : AdminSeen) (more : List PrintedAnswer) (reply : Answer) (printed : PrintedAnswer) → is_request item ≡ false → IsAdminStep item mid new reply → printed ≡ printed_answer reply → more ≡ replies ++ printed ∷ [] → AreDoneUpTo next new more more_kinds
    done_more new more reply printed other step told more-is = record {
      done = so.done ++ item ∷ [];
      parts = parts_more items so.done left next item so.parts first_is;
      beside = λ before stands. beside_more shapes opening before old so.done item mid new replies more reply printed other (so.beside before stands) step told more-is;
      kinds_are = kinds_more kinds more_kinds so.done item so.kinds_are more-kinds-are;
    }

  -- requests that are passed over
  passes : (front left next : List Said) (admin : AdminSeen) (replies : List PrintedAnswer) (kinds more : List Bool) → left ≡ front ++ next → list_all is_request front ≡ true → more ≡ kinds ++ replicate (length front) true → AreDoneUpTo left admin replies kinds → AreDoneUpTo next admin replies more
  passes [] left next admin replies kinds more parts asked more-is so =
      let same : more ≡ kinds = more-is ∙ append-nil kinds in
      subst (λ (l : List Bool). AreDoneUpTo next admin replies l) (sym same) (subst (λ (l : List Said). AreDoneUpTo l admin replies kinds) parts so)
  passes (said.asks reading ∷ front) left next admin replies kinds more parts asked more-is so =
      let all : more ≡ (kinds ++ true ∷ []) ++ replicate (length front) true = more-is ∙ sym (append_assoc kinds (true ∷ []) (replicate (length front) true)) in
      passes front (front ++ next) next admin replies (kinds ++ true ∷ []) more refl asked all (done_asked left (front ++ next) (said.asks reading) admin replies kinds (kinds ++ true ∷ []) parts so refl refl)
  passes (item ∷ front) left next admin replies kinds more parts asked more-is so = absurd cc

  pub done_passed : (left next : List Said) (admin : AdminSeen) (replies : List PrintedAnswer) (kinds more : List Bool) → AreDoneUpTo left admin replies kinds → ArePassedOver left next kinds more → AreDoneUpTo next admin replies more
  done_passed left next admin replies kinds more so over =
      passes over.passed.passed left next admin replies kinds more over.passed.parts over.passed.asked (over.kinds_are ∙ ap (λ (n : ℕ). kinds ++ replicate n true) (sym over.passed.long)) so

  -- nothing more was done
  pub done_stopped : (left : List Said) (mid new : AdminSeen) (replies : List PrintedAnswer) (kinds : List Bool) → AreDoneUpTo left mid replies kinds → IsAdminStopped mid new → (before : List Said) → IsAdminBehind shapes opening before old → IsAdminAmid shapes opening before items new
  done_stopped left mid new replies kinds so stopped before stands =
      let done = so.beside before stands in
      record { front = so.done; back = left; parts = so.parts; edits = stopped.desk opening (before ++ so.done) done.behind.desk; published = ap edits_in stopped.list_is ∙ done.behind.published }

  -- nothing was done since
  pub done_still : (left : List Said) (mid : AdminSeen) (replies : List PrintedAnswer) (kinds : List Bool) → AreDoneUpTo left mid replies kinds → (before : List Said) → IsAdminBehind shapes opening before old → IsAdminAmid shapes opening before items mid
  done_still left mid replies kinds so before stands = done_stopped left mid mid replies kinds so (record { desk = λ policy items behind. behind.edits; list_is = refl }) before stands

  -- by what became of the next item
  pub turn_done : (left next : List Said) (item : Said) (mid new : AdminSeen) (replies more : List PrintedAnswer) (kinds more_kinds : List Bool) → left ≡ item ∷ next → AreDoneUpTo left mid replies kinds → more_kinds ≡ kinds ++ is_request item ∷ [] → IsTurnDone item mid new replies more → AreDoneUpTo next new more more_kinds
  turn_done left next item mid new replies more kinds more_kinds first_is so marked (passed asks same none) =
      subst (λ (a : AdminSeen). AreDoneUpTo next a more more_kinds) (sym same) (subst (λ (l : List PrintedAnswer). AreDoneUpTo next mid l more_kinds) (sym none) (done_asked left next item mid replies kinds more_kinds first_is so marked asks))
  turn_done left next item mid new replies more kinds more_kinds first_is so marked (made other reply step more-is) =
      done_more left next item mid replies kinds more_kinds first_is so marked new more reply (printed_answer reply) other step refl more-is

  -- one more was done, and what is kept of it is dropped
  pub turn_dropped : (left next : List Said) (item : Said) (mid new : AdminSeen) (replies more : List PrintedAnswer) (kinds : List Bool) → left ≡ item ∷ next → AreDoneUpTo left mid replies kinds → IsTurnDone item mid new replies more → (before : List Said) → IsAdminBehind shapes opening before old
      → IsAdminAmid shapes opening before items new
  turn_dropped left next item mid new replies more kinds first_is so turn before stands =
      done_still next new more (kinds ++ is_request item ∷ []) (turn_done left next item mid new replies more kinds (kinds ++ is_request item ∷ []) first_is so refl turn) before stands

  pub turn_stopped : (left next : List Said) (item : Said) (mid new : AdminSeen) (replies : List PrintedAnswer) (kinds : List Bool) → left ≡ item ∷ next → AreDoneUpTo left mid replies kinds → IsTurnStopped item mid new → (before : List Said) → IsAdminBehind shapes opening before old
      → IsAdminAmid shapes opening before items new
  turn_stopped left next item mid new replies kinds first_is so (undone stopped) before stands = done_stopped left mid new replies kinds so stopped before stands
  turn_stopped left next item mid new replies kinds first_is so (unsaid other reply step) before stands = turn_dropped left next item mid new replies (replies ++ printed_answer reply ∷ []) kinds first_is so (made other reply step refl) before stands

  -- all are done
  pub done_all : (left : List Said) (admin : AdminSeen) (replies : List PrintedAnswer) (kinds : List Bool) → left ≡ [] → AreDoneUpTo left admin replies kinds → (before : List Said) → IsAdminBehind shapes opening before old → AreDoneBeside shapes opening before items old admin replies
  done_all left admin replies kinds none so before stands = subst (λ (l : List Said). AreDoneBeside shapes opening before l old admin replies) (parts_all items so.done left so.parts none) (so.beside before stands)

  pub kinds_all : (left : List Said) (admin : AdminSeen) (replies : List PrintedAnswer) (kinds : List Bool) → left ≡ [] → AreDoneUpTo left admin replies kinds → kinds ≡ map is_request items
  kinds_all left admin replies kinds none so = so.kinds_are ∙ ap (map is_request) (parts_all items so.done left so.parts none)
