use Rattle.std.proofs.Common.{codes}
use Rattle.std.specs.Prelude.{string_bytes}
use Rattle.file_lint.specs.ModelNames.{section_of}
use Rattle.file_lint.specs.ModelWords.{column_text}
use Rattle.file_lint.proofs.PushLemmas.{five_pushed, pushed_so}
use Rattle.file_lint.proofs.model_words.push_undeclared.Goals as goal

pub returns : goal.returns
returns c =
    five_pushed (string_bytes c.args.words.now) (string_bytes c.push.new.text) (string_bytes c.push_column.new.words) (string_bytes c.push-2.new.text) (string_bytes c.push-3.new.text) (string_bytes c.push-4.new.text)
    (codes "\"") (column_text c.args.key c.args.name.now) (codes "\" is not declared in [") (section_of c.args.key) (codes "]")
    c.in_ok-push.ensures c.in_ok-push_column.ensures c.in_ok-push-2.ensures (pushed_so _ _ c.section_of.result.now (section_of c.args.key) c.section_of.ensures c.in_ok-push-3.ensures) c.in_ok-push-4.ensures
