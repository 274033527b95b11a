use Rattle.std.proofs.Common.{◌∙◌, List}
use Rattle.live_pair.proofs.LineLemmas.{Lacks, begun_here, can_stage_here, lacks}
use Rattle.policy_table.specs.declared.change.Change.{Change}
use Rattle.live_pair.proofs.history_line.HistoryLine.hand_over.Goals as goal

pub stage-requires-clause-admitted : goal.stage-requires-clause-admitted
stage-requires-clause-admitted g c =
    let first = g.J.Naming.first in
    let desk = c.args.desk.now in
    let es : List (List Change) = c.in_ok-edits.edits in
    let is : Lacks first c.args.self.now c.again-told.result es desk.pending
    = lacks first c.args.self.now c.self.inside.told c.again-told.result es c.pending.result.now desk.pending c.waiting-from.result (c.self.view_is ∙ c.append_parked.ensures.same) c.again-told.ensures c.requires.begun c.waiting-from.ensures c.in_ok-edits.ensures c.pending.ensures.pending in
    (can_stage_here g.J.Naming.shapes g.J.Naming.opening first c.args.self.now c.again-told.result desk es is c.holds.ensures.desk c.requires.shapes c.requires.stands).admitted

pub stage-requires-clause-few : goal.stage-requires-clause-few
stage-requires-clause-few g c =
    let first = g.J.Naming.first in
    let desk = c.args.desk.now in
    let es : List (List Change) = c.in_ok-edits.edits in
    let is : Lacks first c.args.self.now c.again-told.result es desk.pending
    = lacks first c.args.self.now c.self.inside.told c.again-told.result es c.pending.result.now desk.pending c.waiting-from.result (c.self.view_is ∙ c.append_parked.ensures.same) c.again-told.ensures c.requires.begun c.waiting-from.ensures c.in_ok-edits.ensures c.pending.ensures.pending in
    (can_stage_here g.J.Naming.shapes g.J.Naming.opening first c.args.self.now c.again-told.result desk es is c.holds.ensures.desk c.requires.shapes c.requires.stands).few

pub returns-in-Err-clause-begun : goal.returns-in-Err-clause-begun
returns-in-Err-clause-begun g c =
    let first = g.J.Naming.first in
    let desk = c.args.desk.now in
    let es : List (List Change) = c.in_ok-edits.edits in
    let is : Lacks first c.args.self.now c.again-told.result es desk.pending
    = lacks first c.args.self.now c.self.inside.told c.again-told.result es c.pending.result.now desk.pending c.waiting-from.result (c.self.view_is ∙ c.append_parked.ensures.same) c.again-told.ensures c.requires.begun c.waiting-from.ensures c.in_ok-edits.ensures c.pending.ensures.pending in
    begun_here first c.args.self.now c.again-told.result c.stage.new.self c.again.result es desk.pending is c.if-not-stage.ensures c.again.ensures

pub returns-clause-begun : goal.returns-clause-begun
returns-clause-begun g c =
    let first = g.J.Naming.first in
    let desk = c.args.desk.now in
    let es : List (List Change) = c.in_ok-edits.edits in
    let is : Lacks first c.args.self.now c.again-told.result es desk.pending
    = lacks first c.args.self.now c.self.inside.told c.again-told.result es c.pending.result.now desk.pending c.waiting-from.result (c.self.view_is ∙ c.append_parked.ensures.same) c.again-told.ensures c.requires.begun c.waiting-from.ensures c.in_ok-edits.ensures c.pending.ensures.pending in
    begun_here first c.args.self.now c.again-told.result c.stage.new.self c.again.result es desk.pending is c.if-not-stage.ensures c.again.ensures
