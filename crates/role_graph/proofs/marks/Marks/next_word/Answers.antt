use Rattle.std.proofs.Common.{◌≡◌, ◌<◌, ◌+◌, ◌*◌, ◌^◌, List, ℕ, length, get_or, refl, rules, sym, subst, arith, w64}
use Rattle.std.specs.Int.{trailing_zeros}
use Rattle.role_graph.specs.Helps.Marks.{IsSet}
use Rattle.role_graph.proofs.MarkLemmas.{first_behind, first_of_word, next_word_none, past_words}
use Rattle.role_graph.proofs.marks.Marks.next_word.Goals as goal

pub returns-then-marks-ne0-clause-found : goal.returns-then-marks-ne0-clause-found
returns-then-marks-ne0-clause-found c =
    let word : ℕ = get_or c.self.inside.words c.loop-word.word 0 in
    let small : word < 2 ^ 64 = search rules in
    let some : 0 < word = omega (arith, c.if-marks-ne0.true) in
    let first = first_of_word c.self.inside.words c.loop-word.word word (trailing_zeros w64 word) c.loop-word-test.true refl small some refl in
    (omega (arith, c.loop-word.auto.word), first.within, subst (λ (words : List ℕ). IsSet words (64 * c.loop-word.word + trailing_zeros w64 word)) c.self.view_is first.marked)

pub returns-then-marks-ne0-clause-first : goal.returns-then-marks-ne0-clause-first
returns-then-marks-ne0-clause-first c = λ other low high one.
    (let word : ℕ = get_or c.self.inside.words c.loop-word.word 0 in
    let small : word < 2 ^ 64 = search rules in
    let some : 0 < word = omega (arith, c.if-marks-ne0.true) in
    let first = first_of_word c.self.inside.words c.loop-word.word word (trailing_zeros w64 word) c.loop-word-test.true refl small some refl in
    first_behind c.self.inside.words c.args.from c.loop-word.word (trailing_zeros w64 word)
    (λ place behind before set_one. c.loop-word.invariant.none place behind before (subst (λ (words : List ℕ). IsSet words place) c.self.view_is set_one)) first other low high
    (subst (λ (words : List ℕ). IsSet words other) (sym c.self.view_is) one))

pub loop-word-preserved : goal.loop-word-preserved
loop-word-preserved c = record {
  low = omega (arith, c.loop-word.auto.word);
  none = λ other low high one.
      next_word_none c.self.inside.words c.args.from c.loop-word.word (get_or c.self.inside.words c.loop-word.word 0) refl c.if-marks-ne0.false
      (λ place behind before set_one. c.loop-word.invariant.none place behind before (subst (λ (words : List ℕ). IsSet words place) c.self.view_is set_one)) other low high
      (subst (λ (words : List ℕ). IsSet words other) (sym c.self.view_is) one);
}

pub returns-clause-none : goal.returns-clause-none
returns-clause-none c = λ other low one.
    past_words c.args.self.now c.args.from c.loop-word.word other (subst (λ (words : List ℕ). length words ≡ 3125) c.self.view_is c.self.told) c.loop-word-test.false c.loop-word.invariant.none low one
