use Rattle.std.proofs.Common.{List, ap, ◌∙◌}
use Rattle.live_meaning.proofs.WorldLemmas.{answered}
use Rattle.live_meaning.specs.Replies.{reply_of}
use Rattle.live_meaning.specs.declared.events.Event.{Event}
use Rattle.live_meaning.proofs.worlds.World.reply_to.Goals as goal

pub returns : goal.returns
returns c =
    c.answer.ensures ∙ answered c.self.inside.counts c.self.inside.events.items c.args.event.now c.self.invariant ∙ ap (λ (l : List Event). reply_of l c.args.event.now) c.self.view_is
