-- Where the administrator stands behind one item more.
use Rattle.std.proofs.Common.{◌≡◌, ⊎_elim, ℕ, true, false, List, [], ◌∷◌, ◌++◌, append_assoc, append-nil, length, length-append, refl, sym, ap, subst, ◌∙◌, arith}
use mathlib.Core.List.{IsPrefix}
use Rattle.answer_lines.specs.declared.answer.Answer.{Answer}
use Rattle.answer_lines.specs.Printed.{PrintedAnswer, printed_answer}
use Rattle.live_pair.proofs.CallerLemmas.{edits_more, one_less, prefix_self, prefix_trans, prefix_whole}
use Rattle.live_pair.specs.Admins.{AdminSeen}
use Rattle.live_pair.specs.Story.{edits_in}
use Rattle.desk_session.specs.Desks.{HasEditsOf}
use Rattle.live_rounds.specs.Administrators.{AreAt, AreDoneBeside, AreReplies, IsAdminAmid, IsAdminBehind, IsAdminStep, list_behind}
use Rattle.desk_session.specs.Steps.{is_request}
use Rattle.live_rounds.specs.Printed.{IsPrinted}
use Rattle.effect_fold.specs.declared.effect.Effect.TheVariants.{AllowOverride}
use Rattle.matcher_read.specs.Expression.{truth}
use Rattle.model_conf.specs.ModelText.{ModelParts}
use Rattle.perm_base.specs.declared.shapes.Shapes.{Shapes}
use Rattle.policy_state.specs.States.{tables}
use Rattle.policy_table.specs.Tables.{Policy}
use Rattle.policy_table.specs.declared.change.Change.{Change}
use Rattle.regex_gate.specs.Refusals.{Refusals}
use Rattle.script_read.specs.Said.{Said}
use Rattle.script_read.specs.Said as said
use Rattle.session_meaning.proofs.CallerLemmas.{behind_other, history_publish, history_same, only_asks}
use Rattle.session_meaning.specs.Desks.{history}
use Rattle.session_meaning.specs.Given.{given}
use Rattle.session_meaning.specs.Replies.{IsReply, is_decided}
use Rattle.session_meaning.specs.Versions.{is_publish}

-- a finder that has refused nothing, and a model of nothing: those steps look at neither
none : Refusals
none = record { count = 0; patterns = [] }

nothing : ModelParts
nothing = record { request = []; policy = []; relations = []; effect = AllowOverride; matcher_text = []; matcher = truth 0 true }

-- what is no request is not decided
undecided : (model : ModelParts) (item : Said) → is_request item ≡ false → is_decided model item ≡ false
undecided model (said.asks reading) other = absurd cc
undecided model _ other = refl

-- two beginnings of each other are one
same_list : {A : Type 0} (xs ys : List A) → IsPrefix xs ys → IsPrefix ys xs → ys ≡ xs
same_list {A = A} xs ys p q = sym (prefix_whole xs ys p (omega (arith, ap (λ (l : List A). length l) q.1, length-append ys q.0)))

module _ (shapes : Shapes) (opening : Policy) where
  -- an administrator that stands behind items stands behind none of those that follow
  pub amid_first : (before round : List Said) (admin : AdminSeen) → IsAdminBehind shapes opening before admin → IsAdminAmid shapes opening before round admin
  amid_first before round admin is = record {
    front = [];
    back = round;
    parts = refl;
    edits = subst (λ (items : List Said). HasEditsOf opening items admin.desk) (sym (append-nil before)) is.desk.edits;
    published = subst (λ (items : List Said). edits_in admin.list ≡ history shapes opening items) (sym (append-nil before)) is.published;
  }

  -- ---- one item

  -- the publishes behind it
  list_published : (before : List Said) (item : Said) (admin : AdminSeen) → IsAdminBehind shapes opening before admin → edits_in (list_behind item admin) ≡ history shapes opening (before ++ item ∷ [])
  list_published before item admin is = by item
    where
      others : given shapes opening before ≡ history shapes opening before ++ admin.desk.pending
      others = subst (λ (s : Shapes). given s opening before ≡ history s opening before ++ admin.desk.pending) is.shapes_are is.desk.edits.others

      by : (item : Said) → edits_in (list_behind item admin) ≡ history shapes opening (before ++ item ∷ [])
      by said.publishes =
          edits_more admin.list admin.desk.pending
          ∙ ap (λ (l : List (List Change)). l ++ admin.desk.pending) is.published ∙ sym others ∙ sym (history_publish shapes opening before)
      by item = is.published ∙ sym (history_same shapes opening before item refl)

  -- the administrator stands behind it
  step_behind : (before : List Said) (item : Said) (old new : AdminSeen) (reply : Answer) → IsAdminBehind shapes opening before old → IsAdminStep item old new reply → IsAdminBehind shapes opening (before ++ item ∷ []) new
  step_behind before item old new reply is step = record {
    shapes_are = step.shapes_are ∙ is.shapes_are;
    desk = (step.step nothing none).behind opening before is.desk;
    published = ap edits_in step.list_is ∙ list_published before item old is;
  }

  -- a request leaves the administrator where it is
  asked_behind : (items : List Said) (item : Said) (admin : AdminSeen) → is_request item ≡ true → IsAdminBehind shapes opening items admin → IsAdminBehind shapes opening (items ++ item ∷ []) admin
  asked_behind items item admin asks is = record {
    shapes_are = is.shapes_are;
    desk = record {
      edits = behind_other admin.desk.state.shapes opening items admin.desk.state.log (tables admin.desk.state) admin.desk.pending admin.desk.kept is.desk.edits item (calm item asks);
      floor = is.desk.floor;
    };
    published = is.published ∙ sym (history_same shapes opening items item (still item asks));
  }
    where
      calm : (item : Said) → is_request item ≡ true → only_asks item ≡ true
      calm (said.asks reading) asks = refl
      calm _ asks = absurd cc

      still : (item : Said) → is_request item ≡ true → is_publish item ≡ false
      still (said.asks reading) asks = refl
      still _ asks = absurd cc

  -- its reply
  step_reply : (before : List Said) (item : Said) (old new : AdminSeen) (reply : Answer) → is_request item ≡ false → IsAdminBehind shapes opening before old → IsAdminStep item old new reply → (model : ModelParts) → IsReply model shapes opening [] before item reply
  step_reply before item old new reply other is step model =
      let done = step.step model none in
      let told : IsReply model old.desk.state.shapes opening done.asked.refused before item reply = done.replied opening before is.desk in
      subst (λ (s : Shapes). IsReply model s opening [] before item reply) is.shapes_are (subst (λ (refused : List (List ℕ)). IsReply model old.desk.state.shapes opening refused before item reply) (done.asked.unasked (undecided model item other)) told)

  -- ---- items one after the other

  -- what a reply answers behind these items
  abbrev Replies : List Said → Said → PrintedAnswer → Type 0
  Replies before item reply = IsPrinted (λ (answer : Answer). (model : ModelParts) → IsReply model shapes opening [] before item answer) reply

  -- behind the same items
  replies_at : (before behind : List Said) (item : Said) (reply : PrintedAnswer) → before ≡ behind → Replies before item reply → Replies behind item reply
  replies_at before behind item reply same is = subst (λ (b : List Said). Replies b item reply) same is

  -- one more that is no request
  replies_more : (before items : List Said) (replies : List PrintedAnswer) (item : Said) (reply : PrintedAnswer) → is_request item ≡ false → AreReplies shapes opening before items replies → Replies (before ++ items) item reply
      → AreReplies shapes opening before (items ++ item ∷ []) (replies ++ reply ∷ [])
  replies_more before [] [] item reply other are is = by item other (replies_at (before ++ []) before item reply (append-nil before) is)
    where
      by : (item : Said) → is_request item ≡ false → Replies before item reply → AreReplies shapes opening before (item ∷ []) (reply ∷ [])
      by (said.asks reading) other is = absurd cc
      by _ other is = (is, tt)
  replies_more before (said.asks reading ∷ items) replies item reply other are is =
      replies_more (before ++ said.asks reading ∷ []) items replies item reply other are (replies_at (before ++ (said.asks reading ∷ items)) ((before ++ said.asks reading ∷ []) ++ items) item reply (sym (append_assoc before (said.asks reading ∷ []) items)) is)
  replies_more before (first ∷ items) (told ∷ replies) item reply other are is =
      (are.0, replies_more (before ++ first ∷ []) items replies item reply other are.1 (replies_at (before ++ (first ∷ items)) ((before ++ first ∷ []) ++ items) item reply (sym (append_assoc before (first ∷ []) items)) is))
  replies_more before [] (told ∷ replies) item reply other are is = absurd are
  replies_more before (first ∷ items) [] item reply other are is = absurd are

  -- a request more
  replies_asked : (before items : List Said) (replies : List PrintedAnswer) (item : Said) → is_request item ≡ true → AreReplies shapes opening before items replies → AreReplies shapes opening before (items ++ item ∷ []) replies
  replies_asked before [] [] item asks are = by item asks
    where
      by : (item : Said) → is_request item ≡ true → AreReplies shapes opening before (item ∷ []) []
      by (said.asks reading) asks = tt
      by _ asks = absurd cc
  replies_asked before (said.asks reading ∷ items) replies item asks are = replies_asked (before ++ said.asks reading ∷ []) items replies item asks are
  replies_asked before (first ∷ items) (told ∷ replies) item asks are = (are.0, replies_asked (before ++ first ∷ []) items replies item asks are.1)
  replies_asked before [] (told ∷ replies) item asks are = absurd are
  replies_asked before (first ∷ items) [] item asks are = absurd are

  module _ (before : List Said) (old : AdminSeen) where
    -- none is done
    pub beside_none : IsAdminBehind shapes opening before old → AreDoneBeside shapes opening before [] old old []
    beside_none is = record {
      replies_are = tt;
      behind = subst (λ (items : List Said). IsAdminBehind shapes opening items old) (sym (append-nil before)) is;
      grown = prefix_self old.list;
      cuts = λ list from until. record {
        front = [];
        back = [];
        parts = refl;
        edits = ap edits_in (same_list old.list list from until) ∙ subst (λ (items : List Said). edits_in old.list ≡ history shapes opening items) (sym (append-nil before)) is.published;
      };
    }

    -- publishes behind some of the first items are so where there is one item more
    at_more : (done : List Said) (item : Said) (list : List (List (List Change))) → AreAt shapes opening before done list → AreAt shapes opening before (done ++ item ∷ []) list
    at_more done item list at = record {
      front = at.front;
      back = at.back ++ item ∷ [];
      parts = ap (λ (l : List Said). l ++ item ∷ []) at.parts ∙ append_assoc at.front at.back (item ∷ []);
      edits = at.edits;
    }

    -- one item more
    pub beside_more : (done : List Said) (item : Said) (mid new : AdminSeen) (replies more : List PrintedAnswer) (reply : Answer) (printed : PrintedAnswer) → is_request item ≡ false → AreDoneBeside shapes opening before done old mid replies → IsAdminStep item mid new reply
        → printed ≡ printed_answer reply → more ≡ replies ++ printed ∷ [] → AreDoneBeside shapes opening before (done ++ item ∷ []) old new more
    beside_more done item mid new replies more reply printed other so step told more-is = record {
      replies_are = subst (AreReplies shapes opening before (done ++ item ∷ [])) (sym more-is) (replies_more before done replies item printed other so.replies_are
          (record { answer = reply; holds = step_reply (before ++ done) item mid new reply other so.behind step; told = told }));
      behind = behind;
      grown = prefix_trans old.list mid.list new.list so.grown (subst (IsPrefix mid.list) (sym step.list_is) (begins item));
      cuts = λ list from until. by item step.list_is list from until;
    }
      where
        begins : (first : Said) → IsPrefix mid.list (list_behind first mid)
        begins said.publishes = (mid.desk.pending ∷ [], refl)
        begins _ = prefix_self mid.list

        behind : IsAdminBehind shapes opening (before ++ (done ++ item ∷ [])) new
        behind = subst (λ (items : List Said). IsAdminBehind shapes opening items new) (append_assoc before done (item ∷ [])) (step_behind (before ++ done) item mid new reply so.behind step)

        at_end : (list : List (List (List Change))) → list ≡ new.list → AreAt shapes opening before (done ++ item ∷ []) list
        at_end list same = record { front = done ++ item ∷ []; back = []; parts = sym (append-nil (done ++ item ∷ [])); edits = ap edits_in same ∙ behind.published }

        by : (first : Said) → new.list ≡ list_behind first mid → (list : List (List (List Change))) → IsPrefix old.list list → IsPrefix list new.list → AreAt shapes opening before (done ++ item ∷ []) list
        by said.publishes list-is list from until =
            ⊎_elim (λ within. at_more done item list (so.cuts list from within)) (λ whole. at_end list (whole ∙ sym list-is))
            (one_less list mid.list mid.desk.pending (subst (IsPrefix list) list-is until))
        by _ list-is list from until = at_more done item list (so.cuts list from (subst (IsPrefix list) list-is until))

    -- a request more
    pub beside_asked : (done : List Said) (item : Said) (mid : AdminSeen) (replies : List PrintedAnswer) → is_request item ≡ true → AreDoneBeside shapes opening before done old mid replies → AreDoneBeside shapes opening before (done ++ item ∷ []) old mid replies
    beside_asked done item mid replies asks so = record {
      replies_are = replies_asked before done replies item asks so.replies_are;
      behind = subst (λ (items : List Said). IsAdminBehind shapes opening items mid) (append_assoc before done (item ∷ [])) (asked_behind (before ++ done) item mid asks so.behind);
      grown = so.grown;
      cuts = λ list from until. at_more done item list (so.cuts list from until);
    }
