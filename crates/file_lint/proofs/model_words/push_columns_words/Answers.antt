use Rattle.std.proofs.Common.{codes}
use Rattle.std.specs.Prelude.{string_bytes}
use Rattle.model_conf.specs.Faults.{key_text}
use Rattle.file_lint.proofs.PushLemmas.{pushed_so, three_pushed}
use Rattle.file_lint.proofs.model_words.push_columns_words.Goals as goal

pub returns : goal.returns
returns c =
    three_pushed (string_bytes c.args.words.now) (string_bytes c.push.new.text) (string_bytes c.push-2.new.text) (string_bytes c.push-3.new.text) (codes "the columns of ") (key_text c.args.key) (codes " are 1 to 32 different names of letters, digits and `_`, joined by commas")
    c.in_ok-push.ensures (pushed_so _ _ c.key_text.result.now (key_text c.args.key) c.key_text.ensures c.in_ok-push-2.ensures) c.in_ok-push-3.ensures
