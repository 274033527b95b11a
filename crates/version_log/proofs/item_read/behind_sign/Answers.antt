use Rattle.version_log.proofs.SpellingLemmas.{behind_text}
use Rattle.version_log.specs.EditText.{sign_byte}
use Rattle.version_log.proofs.item_read.behind_sign.Goals as goal

pub returns : goal.returns
returns c = behind_text c.args.line.now c.text.result.now (sign_byte c.args.sign) c.strip_prefix.result c.text.ensures c.strip_prefix.ensures.cases
