use Rattle.std.proofs.Common.{codes}
use Rattle.std.specs.Prelude.{string_bytes}
use Rattle.file_lint.specs.PolicyWords.{tables_text}
use Rattle.file_lint.specs.Texts.{quoted}
use Rattle.file_lint.proofs.PushLemmas.{four_pushed}
use Rattle.file_lint.proofs.policy_words.push_unknown_table.Goals as goal

pub returns : goal.returns
returns c =
    four_pushed (string_bytes c.args.words.now) (string_bytes c.push.new.text) (string_bytes c.push_quoted.new.text) (string_bytes c.push-2.new.text) (string_bytes c.push_tables.new.words)
    (codes "unknown table ") (quoted c.args.name.now) (codes ": the model has ") (tables_text c.args.model.now) c.in_ok-push.ensures c.in_ok-push_quoted.ensures c.in_ok-push-2.ensures c.in_ok-push_tables.ensures
