use Rattle.std.proofs.Common.{◌∷◌, drop, refl, ap, sym, ◌∙◌, arith}
use Rattle.std.proofs.lemmas.Bool.{false≢true}
use Rattle.key_match.specs.Pieces.{Segment}
use Rattle.key_match.specs.Helps.Fits.{pieces_fit, pieces_from}
use Rattle.key_match.specs.Helps.Tokens.{pieces_at, piece_of}
use Rattle.key_match.specs.declared.token.Dialect.TheVariants.{Brace}
use Rattle.key_match.specs.declared.token.Token.{Token}
use Rattle.key_match.proofs.Parts.{HasPart-from}
use Rattle.key_match.proofs.Agree.{fits-from_CoversGiven, CoversGiven-free, CoversGiven-cut, CoversGiven-after, CoversGiven-more, CutsAlike-more, CutsAlike-nameless, told_behind, told_other, told_part}
use Rattle.key_match.proofs.Tried.{AreTried-more, AreTried-all}
use Rattle.key_match.proofs.alike.+search.Goals as goal

pub fits_given-returns-then-not-fits_from : goal.fits_given-returns-then-not-fits_from
fits_given-returns-then-not-fits_from t c = (
  λ h. absurd (false≢true h),
  λ covers. sym c.if-not-fits_from.true ∙ c.fits_from.ensures ∙ fits-from_CoversGiven c.args.given.now (pieces_from Brace c.args.pattern.now c.args.from) (drop c.args.from.key c.args.key.now) covers,
)

pub fits_given-returns-then-is_free : goal.fits_given-returns-then-is_free
fits_given-returns-then-is_free t c =
    let at = c.pass_bytes-at.result in
    let passes = c.pass_bytes-at.ensures in
    let free = sym c.is_free.ensures ∙ c.if-is_free.true in
    (λ h. passes.backward c.args.given.now (CoversGiven-free c.args.given.now (pieces_from Brace c.args.pattern.now at) (drop at.key c.args.key.now) free passes.fitting), λ covers. refl)

pub fits_given-part_ends-ends-requires : goal.fits_given-part_ends-ends-requires
fits_given-part_ends-ends-requires t c =
    let at = c.pass_bytes-at.result in
    let passes = c.pass_bytes-at.ensures in
    let left = drop at.key c.args.key.now in
    HasPart-from (piece_of c.in-Some.reading.token) (pieces_at Brace c.args.pattern.now c.in-Some.reading.next) c.args.key.now at.key passes.key_within
    (ap (λ pieces. pieces_fit pieces left) (sym c.in-Some.ensures.found.pieces) ∙ passes.fitting)

pub fits_given-returns-then-starts_with : goal.fits_given-returns-then-starts_with
fits_given-returns-then-starts_with t c =
    let next = pieces_at Brace c.args.pattern.now c.in-Some.reading.next in
    told_part c.args.given.now c.in-Segment.name.now c.in-Some-part_of.part.now next c.pass_bytes-at.ensures (c.in-Some.ensures.found.pieces ∙ ap (λ (token : Token). piece_of token ∷ next) c.in-Segment.is)
    (sym c.in-Some-part_of.ensures) c.starts_with.ensures.value c.requires.parts c.if-starts_with.true c.fits_given.ensures

pub fits_given-returns-else-starts_with : goal.fits_given-returns-else-starts_with
fits_given-returns-else-starts_with t c =
    let next = pieces_at Brace c.args.pattern.now c.in-Some.reading.next in
    told_other c.args.given.now c.in-Segment.name.now c.in-Some-part_of.part.now next c.pass_bytes-at.ensures (c.in-Some.ensures.found.pieces ∙ ap (λ (token : Token). piece_of token ∷ next) c.in-Segment.is)
    (sym c.in-Some-part_of.ensures) c.starts_with.ensures.value c.if-starts_with.false

pub fits_given-returns-in-None : goal.fits_given-returns-in-None
fits_given-returns-in-None t c =
    let next = pieces_at Brace c.args.pattern.now c.in-Some.reading.next in
    told_behind c.args.given.now (Segment c.in-Segment.name.now ∷ next) c.pass_bytes-at.ensures (c.in-Some.ensures.found.pieces ∙ ap (λ (token : Token). piece_of token ∷ next) c.in-Segment.is) c.fits_new_name.ensures

pub fits_given-returns-in-One : goal.fits_given-returns-in-One
fits_given-returns-in-One t c = told_behind c.args.given.now _ c.pass_bytes-at.ensures c.in-Some.ensures.found.pieces c.fits_some_end.ensures

pub fits_new_name-returns-then-fits_given : goal.fits_new_name-returns-then-fits_given
fits_new_name-returns-then-fits_given t c =
    let given = c.args.given.now in
    let end = c.loop-ends.end in
    let ends = c.requires.ends in
    let next = pieces_at Brace c.args.pattern.now c.args.next in
    let tried = c.loop-ends.invariant in
    let low = ends.from_least in
    let start = tried.low in (
      λ h.
          CoversGiven-cut given (Segment c.args.name.now) next c.args.key.now c.args.from end (omega arith) (ends.all end tried.low tried.high)
          (CutsAlike-more given _ c.args.name.now next c.args.key.now c.args.from end c.requires.new (c.fits_given.ensures.0 c.if-fits_given.true) (λ other. refl)),
      λ covers. refl,
    )

pub fits_new_name-returns-then-end-ends : goal.fits_new_name-returns-then-end-ends
fits_new_name-returns-then-end-ends t c =
    let given = c.args.given.now in
    let next = pieces_at Brace c.args.pattern.now c.args.next in
    let end = c.loop-ends.end in (
      λ h. absurd (false≢true h),
      λ covers. absurd (AreTried-all given (Segment c.args.name.now) next c.args.key.now c.args.from end c.args.ends c.requires.within c.requires.ends c.loop-ends.invariant c.if-end-ends.true
          (λ cut. false≢true (sym c.if-fits_given.false ∙ c.fits_given.ensures.1 (CoversGiven-more given _ c.args.name.now next c.args.key.now c.args.from end (λ other. refl) cut))) covers),
    )

pub fits_new_name-loop-ends-preserved : goal.fits_new_name-loop-ends-preserved
fits_new_name-loop-ends-preserved t c =
    let given = c.args.given.now in
    let next = pieces_at Brace c.args.pattern.now c.args.next in
    let end = c.loop-ends.end in
    AreTried-more given (Segment c.args.name.now) next c.args.key.now c.args.from end c.args.ends c.loop-ends.invariant c.if-end-ends.false
    (λ cut. false≢true (sym c.if-fits_given.false ∙ c.fits_given.ensures.1 (CoversGiven-more given _ c.args.name.now next c.args.key.now c.args.from end (λ other. refl) cut)))

pub fits_some_end-returns-then-fits_given : goal.fits_some_end-returns-then-fits_given
fits_some_end-returns-then-fits_given t c =
    let given = c.args.given.now in
    let end = c.loop-ends.end in
    let ends = c.requires.ends in
    let next = pieces_at Brace c.args.pattern.now c.args.reading.next in
    let tried = c.loop-ends.invariant in
    let low = ends.from_least in
    let start = tried.low in
    let piece = piece_of c.args.reading.token in (
      λ h.
          CoversGiven-cut given piece next c.args.key.now c.args.from end (omega arith) (ends.all end tried.low tried.high)
          (CutsAlike-nameless given piece next c.args.key.now c.args.from end c.requires.nameless (c.fits_given.ensures.0 c.if-fits_given.true)),
      λ covers. refl,
    )

pub fits_some_end-returns-then-end-ends : goal.fits_some_end-returns-then-end-ends
fits_some_end-returns-then-end-ends t c =
    let given = c.args.given.now in
    let next = pieces_at Brace c.args.pattern.now c.args.reading.next in
    let end = c.loop-ends.end in
    let piece = piece_of c.args.reading.token in (
      λ h. absurd (false≢true h),
      λ covers. absurd (AreTried-all given piece next c.args.key.now c.args.from end c.args.ends c.requires.within c.requires.ends c.loop-ends.invariant c.if-end-ends.true
          (λ cut. false≢true (sym c.if-fits_given.false ∙ c.fits_given.ensures.1 (CoversGiven-after given piece next c.args.key.now c.args.from end cut))) covers),
    )

pub fits_some_end-loop-ends-preserved : goal.fits_some_end-loop-ends-preserved
fits_some_end-loop-ends-preserved t c =
    let given = c.args.given.now in
    let next = pieces_at Brace c.args.pattern.now c.args.reading.next in
    let end = c.loop-ends.end in
    let piece = piece_of c.args.reading.token in
    AreTried-more given piece next c.args.key.now c.args.from end c.args.ends c.loop-ends.invariant c.if-end-ends.false
    (λ cut. false≢true (sym c.if-fits_given.false ∙ c.fits_given.ensures.1 (CoversGiven-after given piece next c.args.key.now c.args.from end cut)))
