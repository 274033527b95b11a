use Rattle.std.proofs.Common.{◌≡◌, ◌-◌, ap, arith, length, ◌∙◌}
use Rattle.live_rounds.specs.Requests.{requests}
use Rattle.std.proofs.lemmas.Result.{on_ok_weaker}
use Rattle.live_rounds.proofs.SharesLemmas.{ceil_share_one, part_more}
use Rattle.live_rounds.specs.Stretches.{items_of}
use Rattle.session_meaning.specs.Rounds.{share_size}
use Rattle.live_rounds.proofs.shares.+push_parts.Goals as goal

-- the first part, and those of the others
pub returns : goal.returns
returns t c =
    let share : c.div_ceil-share.result ≡ share_size c.args.others (length (requests (items_of c.args.items))) = c.div_ceil-share.ensures ∙ ceil_share_one c.args.others c.args.items.requests ∙ ap (share_size c.args.others) c.requires.counted.requests in
    record {
      parts = on_ok_weaker c.push_parts.result (λ adds. part_more c.args.others (c.args.others - 1) c.div_ceil-share.result (items_of c.args.items) c.cut_behind-part.result.0 c.cut_behind-part.result.1 c.args.parts.now.items c.push-2.new.self.items c.push_parts.new.parts.items (omega (arith, c.if-others-eq0.false))
          c.cut_behind-part.ensures share c.in_ok-push-2.ensures.items adds) c.push_parts.ensures.parts;
    }
