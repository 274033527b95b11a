use Rattle.std.proofs.Common.{sym, ◌∙◌, ap}
use Rattle.live_pair.proofs.AddingLemmas.{adds_moves}
use Rattle.live_pair.proofs.book.append_event.Goals as goal

pub compare_exchange-found-requires : goal.compare_exchange-found-requires
compare_exchange-found-requires g c =
    let h = c.args.head.now.word_is in
    let offer = c.plain-offer.ensures in
    let pen = c.no_pen-pen.ensures in (
      ap (λ w. w.tracked) h,
      c.requires.pair ∙ sym (ap (λ w. w.book) h),
      pen.0 ∙ (c.requires.pair ∙ sym (ap (λ w. w.book) h)),
      offer.0,
      rw (ap (λ w. w.key) h, pen.1, offer.1, offer.3, c.requires.fresh) (adds_moves c.args.seen.now.log _ c.args.entries (sym c.requires.entries)),
    )
