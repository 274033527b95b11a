use Rattle.std.proofs.Common.{◌<◌, ◌+◌, ◌/◌, ◌%◌, ◌^◌, List, ℕ, get_or, refl, rules, sym, subst, arith, w64}
use Rattle.std.specs.Int.{trailing_zeros}
use Rattle.role_graph.specs.Helps.Marks.{IsSet}
use Rattle.role_graph.proofs.MarkLemmas.{behind_all, behind_word, first_left, if_none_then, if_some_then}
use Rattle.role_graph.proofs.marks.Marks.next.Goals as goal

pub returns-then-word-ge-WORDS-clause-none : goal.returns-then-word-ge-WORDS-clause-none
returns-then-word-ge-WORDS-clause-none c =
    if_none_then c.next_word.result _ _ (λ none other low one. none other (omega (arith, low)) one) c.next_word.ensures.none

pub returns-then-left-ne0-clause-found : goal.returns-then-left-ne0-clause-found
returns-then-left-ne0-clause-found c =
    let word : ℕ = get_or c.self.inside.words (c.args.from / 64) 0 in
    let left : ℕ = word / 2 ^ (c.args.from % 64) in
    let small : word < 2 ^ 64 = search rules in
    let fits : left < 2 ^ 64 = search rules in
    let some : 0 < left = omega (arith, c.if-left-ne0.true) in
    let first = first_left c.self.inside.words c.args.from word left (trailing_zeros w64 left) (omega (arith, c.if-word-ge-WORDS.false)) refl small refl some fits refl in
    (first.behind, first.within, subst (λ (words : List ℕ). IsSet words (c.args.from + trailing_zeros w64 left)) c.self.view_is first.marked)

pub returns-then-left-ne0-clause-first : goal.returns-then-left-ne0-clause-first
returns-then-left-ne0-clause-first c = λ other low high one.
    (let word : ℕ = get_or c.self.inside.words (c.args.from / 64) 0 in
    let left : ℕ = word / 2 ^ (c.args.from % 64) in
    let small : word < 2 ^ 64 = search rules in
    let fits : left < 2 ^ 64 = search rules in
    let some : 0 < left = omega (arith, c.if-left-ne0.true) in
    let first = first_left c.self.inside.words c.args.from word left (trailing_zeros w64 left) (omega (arith, c.if-word-ge-WORDS.false)) refl small refl some fits refl in
    first.first other low high (subst (λ (words : List ℕ). IsSet words other) (sym c.self.view_is) one))

pub returns-clause-found : goal.returns-clause-found
returns-clause-found c =
    if_some_then c.next_word-2.result _ _ (λ at found. (omega (arith, found.0), found.1, found.2)) c.next_word-2.ensures.found

pub returns-clause-first : goal.returns-clause-first
returns-clause-first c =
    if_some_then c.next_word-2.result _ _
    (λ at none other low high one.
    behind_word c.self.inside.words c.args.from (get_or c.self.inside.words (c.args.from / 64) 0) (get_or c.self.inside.words (c.args.from / 64) 0 / 2 ^ (c.args.from % 64)) other at refl refl c.if-left-ne0.false
    (λ place behind before set_one. none place behind before (subst (λ (words : List ℕ). IsSet words place) c.self.view_is set_one)) low high (subst (λ (words : List ℕ). IsSet words other) (sym c.self.view_is) one))
    c.next_word-2.ensures.first

pub returns-clause-none : goal.returns-clause-none
returns-clause-none c =
    if_none_then c.next_word-2.result _ _
    (λ none other low one.
    behind_all c.self.inside.words c.args.from (get_or c.self.inside.words (c.args.from / 64) 0) (get_or c.self.inside.words (c.args.from / 64) 0 / 2 ^ (c.args.from % 64)) other refl refl c.if-left-ne0.false
    (λ place behind set_one. none place behind (subst (λ (words : List ℕ). IsSet words place) c.self.view_is set_one)) low (subst (λ (words : List ℕ). IsSet words other) (sym c.self.view_is) one))
    c.next_word-2.ensures.none
