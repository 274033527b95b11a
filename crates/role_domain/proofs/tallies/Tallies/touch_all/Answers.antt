use Rattle.std.proofs.Common.{ap, sym, ◌∙◌, arith}
use Rattle.std.specs.List.{list_any}
use Rattle.std.specs.Map.{keys_of}
use Rattle.std.specs.Str.{bytes_eq}
use Rattle.std.proofs.lemmas.List.{take_all}
use Rattle.std.proofs.lemmas.Map.Entries.{length-keys_of}
use Rattle.std.proofs.lemmas.Map.Made.{is_some-lookup}
use Rattle.role_domain.proofs.tallies.Tallies.touch_all.Goals as goal

pub returns-clause-theirs : goal.returns-clause-theirs
returns-clause-theirs c = λ text none.
    is_some-lookup (bytes_eq text) c.args.others.now
    ∙ ap (list_any (bytes_eq text)) (sym (take_all c.loop-at.at (keys_of c.args.others.now) (omega (arith, length-keys_of c.args.others.now, c.len-at-end.ensures.count, c.loop-at-test.false))))
    ∙ c.loop-at.invariant.theirs text none
