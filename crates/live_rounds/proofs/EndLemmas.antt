-- The end of a round: its lines, and where its seats stand.
use Rattle.std.proofs.Common.{◌≡◌, ℕ, suc, List, [], ◌∷◌, ◌++◌, length, map, refl, sym, ap, subst, ◌∙◌, arith}
use Rattle.std.specs.Prelude.{sum_by}
use Rattle.std.proofs.lemmas.List.Sums.{sum_by-append}
use Rattle.answer_lines.specs.Printed.{PrintedAnswer, printed_line}
use Rattle.answer_lines.specs.Printed.{PrintedLine}
use Rattle.answer_lines.specs.declared.answer.Line.{Line}
use Rattle.live_pair.specs.Admins.{AdminSeen}
use Rattle.live_pair.specs.Seats.{SeatSeen, version_of}
use Rattle.live_rounds.proofs.AllSharesLemmas.{AreAnswered}
use Rattle.live_rounds.proofs.RoundLemmas.{lines_for, shared}
use Rattle.live_rounds.proofs.ShareLemmas.{at_end, end_version}
use Rattle.live_rounds.specs.Administrators.{AreDoneBeside, AreReplies}
use Rattle.live_rounds.specs.Done.{AreEntered, AreLinesOf, EachHasEntered}
use Rattle.live_rounds.specs.Merged.{merged}
use Rattle.live_rounds.specs.Requests.{AreParts, at_each_request, requests}
use Rattle.live_rounds.specs.Shares.{in_turn}
use Rattle.model_conf.specs.ModelText.{ModelParts}
use Rattle.perm_base.specs.declared.shapes.Shapes.{Shapes}
use Rattle.policy_table.specs.Tables.{Policy}
use Rattle.regex_gate.specs.Refusals.{Refusals}
use Rattle.script_read.specs.Said.{Said}
use Rattle.script_read.specs.Said as said
use Rattle.session_meaning.specs.Plain.{all_refused}
use Rattle.session_meaning.specs.Rounds.{shares}

-- the answers to the requests among merged lines are the replies to them
asked_in_lines : (shapes : Shapes) (opening : Policy) (behind items : List Said) (count : ℕ) (asked others : List PrintedAnswer) → AreReplies shapes opening behind items others → length asked ≡ length (requests items)
    → map (λ (line : PrintedLine). line.answer) (at_each_request items (merged count items asked others)) ≡ asked
asked_in_lines shapes opening behind [] count [] others replies long = refl
asked_in_lines shapes opening behind [] count (reply ∷ asked) others replies long = absurd (omega (arith, long))
asked_in_lines shapes opening behind (said.asks reading ∷ items) count [] others replies long = absurd (omega (arith, long))
asked_in_lines shapes opening behind (said.asks reading ∷ items) count (reply ∷ asked) others replies long =
    ap (λ (l : List PrintedAnswer). reply ∷ l) (asked_in_lines shapes opening (behind ++ said.asks reading ∷ []) items (suc count) asked others replies (omega (arith, long)))
asked_in_lines shapes opening behind (item ∷ items) count asked [] replies long = absurd replies
asked_in_lines shapes opening behind (item ∷ items) count asked (reply ∷ others) replies long = asked_in_lines shapes opening (behind ++ item ∷ []) items (suc count) asked others replies.1 long

module _ (model : ModelParts) (shapes : Shapes) (opening : Policy) (before round : List Said) (old new : AdminSeen) (others : List PrintedAnswer) (done : AreDoneBeside shapes opening before round old new others)
    (n : ℕ) (parts : List (List Said)) (parted : AreParts n round parts) (firsts finals : List SeatSeen) (from until : Refusals) (befores nows : List Refusals) (replies : List (List PrintedAnswer))
    (is : AreAnswered model shapes opening before round old new others done round parts firsts finals befores nows from until replies) where
  -- its lines
  pub round_lines : (count : ℕ) → count ≡ length before → (lines : List Line) × (merged count round (in_turn replies) others ≡ map printed_line lines) × AreLinesOf model shapes opening (suc n) before round (from ∷ befores) (until ∷ nows) lines
  round_lines count count-is =
      let lines = lines_for model shapes opening before round n parts is.seen is.refused (in_turn replies) others (version_of old.list) parted is.each is.rise is.answered is.all done.replies_are in
      let same : merged (length before) round (in_turn replies) others ≡ merged count round (in_turn replies) others = ap (λ (k : ℕ). merged k round (in_turn replies) others) (sym count-is) in (
        lines.lines,
        sym same ∙ lines.told,
        record {
          refused = lines.of_items;
          lines_are = lines.lines_are;
          more = is.patterns ∷ is.more;
          used = (is.logged, is.used);
          told = λ weight.
              let one = is.told weight in
              let both = sum_by-append weight is.patterns (all_refused is.more) in
              omega (arith, one, both, ap (λ (l : List (List ℕ)). sum_by weight l) lines.refused_are);
        },
      )

  -- and the entries of its seats
  pub round_entered : (count : ℕ) → AreEntered (suc n) round new firsts finals (merged count round (in_turn replies) others)
  round_entered count =
      let answers : map (λ (line : PrintedLine). line.answer) (at_each_request round (merged count round (in_turn replies) others)) ≡ in_turn replies
      = asked_in_lines shapes opening before round count (in_turn replies) others done.replies_are is.all in
      let all : replies ≡ shares (suc n) (map (λ (line : PrintedLine). line.answer) (at_each_request round (merged count round (in_turn replies) others))) = sym (ap (shares (suc n)) answers ∙ shared n round parts replies parted is.each_reply) in
      subst (λ (v : ℕ). EachHasEntered v (shares (suc n) (map (λ (line : PrintedLine). line.answer) (at_each_request round (merged count round (in_turn replies) others)))) firsts finals) (sym (end_version model shapes opening before round old new others done))
      (subst (λ (l : List (List PrintedAnswer)). EachHasEntered (at_end model shapes opening before round old new others done) l firsts finals) all is.entered)
