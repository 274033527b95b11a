-- What a desk that stands behind the items of a script says of the next one.
use Rattle.std.proofs.Common.{◌≡◌, ℕ, zero, suc, ◌+◌, ◌-◌, ◌<◌, ◌≤◌, max, Bool, true, false, ◌==◌, ◌||◌, List, [], ◌∷◌, ◌++◌, append-nil, append_assoc, length, length-append, length-drop, take, drop, slice_get, get_or, Option, Some, None, Ok, Err, refl, sym, ap, subst, ◌∙◌, arith}
use Rattle.std.specs.Prelude.{if◌then◌else◌, nat_le, nat_lt}
use Rattle.std.specs.List.{filter_map, last_or}
use Rattle.std.specs.Option.{option_map_or}
use Rattle.std.proofs.lemmas.Bool.{leb-false}
use Rattle.std.proofs.lemmas.Option.{get_or_from_slice_get}
use Rattle.edit_calls.specs.Answers.{CallAnswer, answer as answer_in, while_few}
use Rattle.edit_calls.specs.declared.call.Call.{Call}
use Rattle.perm_base.specs.declared.shapes.Shapes.{Shapes}
use Rattle.policy_query.specs.Answers.{answer_unless}
use Rattle.policy_query.specs.Edits.{IsEdit, edit_refusal}
use Rattle.policy_query.specs.declared.refused.QueryRefused.{QueryRefused}
use Rattle.policy_query.specs.declared.refused.QueryRefused.TheVariants.{NoEdit, Dropped}
use Rattle.policy_table.specs.Changes.{replay}
use Rattle.policy_table.specs.Tables.{Policy}
use Rattle.policy_table.specs.declared.change.Change.{Change}
use Rattle.script_read.specs.Said.{Said}
use Rattle.script_read.specs.Said as said
use Rattle.version_log.proofs.CallerLemmas.{replay_both}
use Rattle.version_log.specs.Log.{Logged, Stands, most_versions, versions}
use Rattle.session_meaning.specs.Desks.{IsBehind, history}
use Rattle.session_meaning.specs.Given.{call_answer, given, with_edit, with_item}
use Rattle.session_meaning.specs.Replies.{recall_refusal, recalled}
use Rattle.session_meaning.specs.Versions.{count_of, is_publish, kept, out, published, start}
use Rattle.session_meaning.proofs.GivenLemmas.{given_more, given_none}
use Rattle.session_meaning.proofs.OutLemmas.{history_none, history_publish, history_same, out_among}
use Rattle.session_meaning.proofs.StartLemmas.{kept_more, kept_none, start_none, start_publish, start_same}

-- an item that asks, and changes nothing
abbrev pub only_asks : Said → Bool
only_asks (said.edits call) = false
only_asks said.publishes = false
only_asks (said.keeps count) = false
only_asks _ = true

took : {X : Type 0} (n : ℕ) (xs : List X) → n ≤ length xs → length (take n xs) ≡ n
took zero xs within = refl
took (suc n) [] within = absurd (omega (arith, within))
took (suc n) (x ∷ xs) within = ap (λ (m : ℕ). suc m) (took n xs (omega (arith, within)))

get_behind : {X : Type 0} (n k : ℕ) (xs : List X) (x : X) → slice_get (drop n xs) k ≡ Some x → slice_get xs (n + k) ≡ Some x
get_behind zero k xs x is = let whole : k ≡ 0 + k = omega arith in subst (λ (m : ℕ). slice_get xs m ≡ Some x) whole is
get_behind (suc n) k [] x is = absurd cc
get_behind (suc n) k (y ∷ xs) x is = let whole : suc (n + k) ≡ suc n + k = omega arith in subst (λ (m : ℕ). slice_get (y ∷ xs) m ≡ Some x) whole (get_behind n k xs x is)

get_front : {X : Type 0} (xs ys : List X) (k : ℕ) (x : X) → slice_get xs k ≡ Some x → slice_get (xs ++ ys) k ≡ Some x
get_front [] ys k x is = absurd cc
get_front (y ∷ xs) ys zero x is = is
get_front (y ∷ xs) ys (suc k) x is = get_front xs ys k x is

module _ (shapes : Shapes) (opening : Policy) where
  module _ (items : List Said) (log : Logged) (policy : Policy) (pending : List (List Change)) (count : Option ℕ) (desk : IsBehind shapes opening items log policy pending count) where
    -- the version of its log is out
    pub desk_version : versions log ≡ out shapes opening items
    desk_version =
        let whole : length (history shapes opening items) ≡ out shapes opening items = took (out shapes opening items) (given shapes opening items) (out_among shapes opening items) in
        let rest : length log.tail ≡ length (history shapes opening items) - log.start = ap (λ (l : List (List Change)). length l) desk.stands.tail ∙ length-drop log.start (history shapes opening items) in
        omega (arith, whole, rest, desk.stands.within)

    -- what holds of its version and its tables holds of those that are out
    pub out_at_desk : (Holds : ℕ → Policy → Type 0) → Holds (versions log) policy → Holds (out shapes opening items) (published shapes opening items)
    out_at_desk Holds is =
        subst (λ (n : ℕ). Holds n (published shapes opening items)) desk_version (subst (Holds (versions log)) desk.tables is)

    -- the drafts are its tables after the pending edits
    pub desk_drafts : replay pending policy ≡ replay (given shapes opening items) opening
    desk_drafts =
        ap (replay pending) desk.tables ∙ sym (replay_both (history shapes opening items) pending opening)
        ∙ ap (λ (l : List (List Change)). replay l opening) (sym desk.others)

    -- all edits that are given are published or pending
    pub desk_edits : versions log + length pending ≡ length (given shapes opening items)
    desk_edits =
        let whole : length (history shapes opening items) ≡ out shapes opening items = took (out shapes opening items) (given shapes opening items) (out_among shapes opening items) in
        omega (arith, desk_version, whole, ap (λ (l : List (List Change)). length l) desk.others, length-append (history shapes opening items) pending)

    -- a call is answered by its drafts
    pub desk_call : (call : Call) → while_few most_versions (versions log + length pending) (answer_in shapes (replay pending policy) call) ≡ call_answer shapes opening (given shapes opening items) call
    desk_call call = λ j. while_few most_versions (desk_edits j) (answer_in shapes (desk_drafts j) call)

    -- why an edit is not recalled
    desk_refusal : (number : ℕ) → edit_refusal log number ≡ recall_refusal (out shapes opening items) (start shapes opening items) number
    desk_refusal number = λ j. recall_refusal (desk_version j) (desk.from j) number

    pub desk_not_recalled : (number : ℕ) (refused : QueryRefused) → edit_refusal log number ≡ Some refused → recalled shapes opening items number ≡ Err refused
    desk_not_recalled number refused is =
        ap (λ (r : Option QueryRefused). answer_unless r (get_or (given shapes opening items) (number - 1) [])) (sym (desk_refusal number) ∙ is)

    -- the edit of a number in its log is recalled
    pub desk_recalled : (number : ℕ) (edit : List Change) → IsEdit log number edit → recalled shapes opening items number ≡ Ok edit
    desk_recalled number edit is =
        let behind : log.start < number = above (number == 0 || nat_lt (versions log) number) (nat_le number log.start) refl is.kept in
        let there : slice_get (history shapes opening items) (log.start + (number - log.start - 1)) ≡ Some edit
        = get_behind log.start (number - log.start - 1) (history shapes opening items) edit (subst (λ (l : List (List Change)). slice_get l (number - log.start - 1) ≡ Some edit) desk.stands.tail is.there) in
        let place : log.start + (number - log.start - 1) ≡ number - 1 = omega (arith, behind) in
        let here : slice_get (history shapes opening items) (number - 1) ≡ Some edit
        = subst (λ (n : ℕ). slice_get (history shapes opening items) n ≡ Some edit) place there in
        let among : slice_get (given shapes opening items) (number - 1) ≡ Some edit
        = subst (λ (l : List (List Change)). slice_get l (number - 1) ≡ Some edit) (sym desk.others) (get_front (history shapes opening items) pending (number - 1) edit here) in
        ap (λ (r : Option QueryRefused). answer_unless r (get_or (given shapes opening items) (number - 1) [])) (sym (desk_refusal number) ∙ is.kept)
        ∙ ap Ok (get_or_from_slice_get (given shapes opening items) (number - 1) edit [] among)
      where
        above : (past within : Bool) → nat_le number log.start ≡ within → (if past then Some (NoEdit (versions log)) else if within then Some (Dropped log.start) else None) ≡ None → log.start < number
        above true within e none = absurd cc
        above false true e none = absurd cc
        above false false e none = leb-false number log.start e

    -- ---- one item more

    published_same : (item : Said) → is_publish item ≡ false → published shapes opening items ≡ published shapes opening (items ++ item ∷ [])
    published_same item calm = ap (λ (l : List (List Change)). replay l opening) (sym (history_same shapes opening items item calm))

    -- a call adds its edit to the pending ones
    pub behind_call : (call : Call) → IsBehind shapes opening (items ++ said.edits call ∷ []) log policy (with_edit pending (call_answer shapes opening (given shapes opening items) call)) count
    behind_call call = record {
      stands = subst (Stands log) (sym (history_same shapes opening items (said.edits call) refl)) desk.stands;
      tables = desk.tables ∙ published_same (said.edits call) refl;
      from = desk.from ∙ sym (start_same shapes opening items (said.edits call) refl);
      others = given_more shapes opening items (said.edits call) ∙ by (call_answer shapes opening (given shapes opening items) call)
          ∙ ap (λ (l : List (List Change)). l ++ with_edit pending (call_answer shapes opening (given shapes opening items) call)) (sym (history_same shapes opening items (said.edits call) refl));
      keeps = desk.keeps ∙ sym (kept_more items (said.edits call));
    }
      where
        by : (answered : CallAnswer) → with_edit (given shapes opening items) answered ≡ history shapes opening items ++ with_edit pending answered
        by (Ok (Some edit)) = ap (λ (l : List (List Change)). l ++ edit ∷ []) desk.others ∙ append_assoc (history shapes opening items) pending (edit ∷ [])
        by (Ok None) = desk.others
        by (Err refused) = desk.others

    -- a publish leaves none pending: the log stands for the pending edits behind the others, and starts later where a count is to be kept
    pub behind_publish : (after : Logged) (new : Policy) → Stands after (history shapes opening items ++ pending) → new ≡ replay (history shapes opening items ++ pending) opening → after.start ≡ option_map_or (λ (kept_count : ℕ). max log.start (versions log - kept_count)) count log.start
        → IsBehind shapes opening (items ++ said.publishes ∷ []) after new [] count
    behind_publish after new stands made from =
        let all : history shapes opening (items ++ said.publishes ∷ []) ≡ history shapes opening items ++ pending = history_publish shapes opening items ∙ desk.others in
        record {
          stands = subst (Stands after) (sym all) stands;
          tables = made ∙ ap (λ (l : List (List Change)). replay l opening) (sym all);
          from = from ∙ (λ j. option_map_or (λ (n : ℕ). max (desk.from j) (desk_version j - n)) (desk.keeps j) (desk.from j)) ∙ sym (start_publish shapes opening items);
          others = given_more shapes opening items said.publishes ∙ sym (history_publish shapes opening items) ∙ sym (append-nil (history shapes opening (items ++ said.publishes ∷ [])));
          keeps = desk.keeps ∙ sym (kept_more items said.publishes);
        }

    -- a further count is to be kept
    pub behind_keep : (number : ℕ) → IsBehind shapes opening (items ++ said.keeps number ∷ []) log policy pending (Some number)
    behind_keep number = record {
      stands = subst (Stands log) (sym (history_same shapes opening items (said.keeps number) refl)) desk.stands;
      tables = desk.tables ∙ published_same (said.keeps number) refl;
      from = desk.from ∙ sym (start_same shapes opening items (said.keeps number) refl);
      others = given_more shapes opening items (said.keeps number) ∙ desk.others ∙ ap (λ (l : List (List Change)). l ++ pending) (sym (history_same shapes opening items (said.keeps number) refl));
      keeps = sym (kept_more items (said.keeps number));
    }

    -- all other items leave the desk as it is
    pub behind_other : (item : Said) → only_asks item ≡ true → IsBehind shapes opening (items ++ item ∷ []) log policy pending count
    behind_other item asks =
        let calm = no_publish item asks in
        record {
          stands = subst (Stands log) (sym (history_same shapes opening items item calm)) desk.stands;
          tables = desk.tables ∙ published_same item calm;
          from = desk.from ∙ sym (start_same shapes opening items item calm);
          others = given_more shapes opening items item ∙ no_edit item asks ∙ desk.others ∙ ap (λ (l : List (List Change)). l ++ pending) (sym (history_same shapes opening items item calm));
          keeps = desk.keeps ∙ sym (no_count item asks) ∙ sym (kept_more items item);
        }
      where
        no_publish : (other : Said) → only_asks other ≡ true → is_publish other ≡ false
        no_publish said.publishes is = absurd cc
        no_publish _ is = refl

        no_edit : (other : Said) → only_asks other ≡ true → with_item shapes opening (given shapes opening items) other ≡ given shapes opening items
        no_edit (said.edits call) is = absurd cc
        no_edit _ is = refl

        no_count : (other : Said) → only_asks other ≡ true → last_or (kept items) (filter_map count_of (other ∷ [])) ≡ kept items
        no_count (said.keeps number) is = absurd cc
        no_count _ is = refl

  -- a desk before all items
  pub behind_none : (log : Logged) (policy : Policy) → Stands log [] → policy ≡ opening → IsBehind shapes opening [] log policy [] None
  behind_none log policy stands same = record {
    stands = subst (Stands log) (sym (history_none shapes opening)) stands;
    tables = same ∙ ap (λ (l : List (List Change)). replay l opening) (sym (history_none shapes opening));
    from = omega (arith, stands.within, start_none shapes opening);
    others = given_none shapes opening ∙ sym (history_none shapes opening) ∙ sym (append-nil (history shapes opening []));
    keeps = sym kept_none;
  }
