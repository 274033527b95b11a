use Rattle.std.proofs.Common.{◌≡◌, arith, length}
use Rattle.std.specs.String.{string_bytes}
use Rattle.std.proofs.lemmas.Str.{IsUtf8-string_bytes}
use Rattle.answer_lines.proofs.WholeLemmas.{cut_whole}
use Rattle.answer_lines.specs.LineText.{answer_text, numbered}
use Rattle.answer_lines.proofs.whole_lines.push_whole.Goals as goal

pub truncate-requires : goal.truncate-requires
truncate-requires c =
    let size : c.len-before.result ≡ length (string_bytes c.args.text.now) = omega (arith, c.len-before.ensures, c.args.text.now.bytes.ok) in
    let place = cut_whole (string_bytes c.args.text.now) (string_bytes c.push_numbered.new.text) c.len-before.result size c.in_default.ensures.kept (IsUtf8-string_bytes c.args.text.now) (IsUtf8-string_bytes c.push_numbered.new.text) in
    λ within. (place.0, λ some. place.1)

pub size_behind-requires : goal.size_behind-requires
size_behind-requires c =
    let size : c.len-before.result ≡ length (string_bytes c.args.text.now) = omega (arith, c.len-before.ensures, c.args.text.now.bytes.ok) in
    cut_whole (string_bytes c.args.text.now) (string_bytes c.push_numbered.new.text) c.len-before.result size (numbered c.args.number (answer_text c.args.answer.now), c.in-Ok.ensures.appended) (IsUtf8-string_bytes c.args.text.now) (IsUtf8-string_bytes c.push_numbered.new.text)
