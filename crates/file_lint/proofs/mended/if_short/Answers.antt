use Rattle.std.specs.Prelude.{string_bytes}
use Rattle.file_lint.proofs.MendLemmas.{short_text, too_long}
use Rattle.file_lint.proofs.mended.if_short.Goals as goal

pub returns-then-shown-gt-MOST_BYTES : goal.returns-then-shown-gt-MOST_BYTES
returns-then-shown-gt-MOST_BYTES c = too_long c.args.guessed (string_bytes c.args.text) c.as_str-shown.result.now c.as_str-shown.ensures.value c.if-shown-gt-MOST_BYTES.true

pub returns : goal.returns
returns c = short_text c.args.guessed (string_bytes c.args.text) c.as_str-shown.result.now c.as_str-shown.ensures.value c.if-shown-gt-MOST_BYTES.false
