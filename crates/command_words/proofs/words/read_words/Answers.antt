use Rattle.std.proofs.Common.{sym, ◌∙◌}
use Rattle.std.proofs.lemmas.Option.{MatchOption-at_none, MatchOption-at_some}
use Rattle.command_words.specs.Items.{texts}
use Rattle.command_words.proofs.ReadLemmas.{parsed_words, refused_words}
use Rattle.command_words.proofs.TextLemmas.{all_texts}
use Rattle.command_words.proofs.words.read_words.Goals as goal

pub returns-in_default-2 : goal.returns-in_default-2
returns-in_default-2 c =
    let refused = MatchOption-at_none _ _ c.in_default-2.is c.in_ok-matches.ensures in
    sym (c.in-Some.ensures ∙ refused_words c.in-Some.kind (texts c.in-Some.others.now) (all_texts c.in-Some.others.now) refused)

pub returns : goal.returns
returns c =
    let parsed = MatchOption-at_some _ _ c.in-Some-2.matches c.in-Some-2.is c.in_ok-matches.ensures in
    let flag = c.get_flag-json.ensures in
    c.command_in.ensures
    ∙ parsed_words c.in-Some.kind (texts c.in-Some.others.now) _ c.get_flag-json.result (all_texts c.in-Some.others.now) parsed.0 parsed.1 flag.none flag.value flag.other
    ∙ sym c.in-Some.ensures
