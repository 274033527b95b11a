use Rattle.std.proofs.Common.{◌+◌, ◌∙◌, ◌++◌, ◌∷◌, ◌==◌, ◌<◌, ◌≤◌, [], List, ap, length, subst, sym}
use Rattle.policy_index.specs.Hashes.{mark_of}
use Rattle.policy_index.specs.Helps.Kept.{one_if}
use Rattle.policy_index.specs.Indexed.{Indexed}
use Rattle.policy_index.specs.Lists.{room_at}
use Rattle.policy_index.specs.declared.mark.Mark.{Mark}
use Rattle.policy_index.proofs.CommitLemmas.{index_pushed}
use Rattle.policy_index.proofs.MarkLemmas.{longer}
use Rattle.policy_index.proofs.index.Index.insert.Goals as goal

pub push-requires-clause-room : goal.push-requires-clause-room
push-requires-clause-room c =
    subst (λ (m : Mark). 0 < room_at c.args.self.now.lists m.hash) (sym (c.mark_of-mark.ensures ∙ ap (λ (i : Indexed). mark_of i.key c.args.rule.now) c.self.view_is)) c.requires.room

pub returns-clause-index : goal.returns-clause-index
returns-clause-index c =
    index_pushed c.args.self.now c.push.new.self _ c.requires.index c.push.ensures.key c.args.rule.now c.requires.few c.requires.fits
    (c.push.ensures.marks ∙ ap (λ (m : Mark). c.args.self.now.marks ++ m ∷ []) (c.mark_of-mark.ensures ∙ ap (λ (i : Indexed). mark_of i.key c.args.rule.now) c.self.view_is))

pub returns-clause-marks : goal.returns-clause-marks
returns-clause-marks c = ap (λ (l : List Mark). length l) c.push.ensures.marks ∙ longer c.args.self.now.marks c.mark_of-mark.result

pub returns-clause-room : goal.returns-clause-room
returns-clause-room c = λ hash.
    subst (λ (m : Mark). room_at c.args.self.now.lists hash ≤ room_at c.push.new.self.lists hash + one_if (m.hash == hash)) (c.mark_of-mark.ensures ∙ ap (λ (i : Indexed). mark_of i.key c.args.rule.now) c.self.view_is)
    (c.push.ensures.room hash)
