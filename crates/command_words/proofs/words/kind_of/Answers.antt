use Rattle.std.proofs.Common.{◌≡◌, ◌∷◌, None, Some, string_bytes, rules}
use Rattle.command_words.specs.Commands.{kind_named}
use Rattle.command_words.proofs.ReadLemmas.{command_named, no_command_named}
use Rattle.command_words.proofs.words.kind_of.Goals as goal

pub returns-in_err-kind : goal.returns-in_err-kind
returns-in_err-kind c =
    let is : c.args.words.now ≡ c.in_ok-name.name.now ∷ c.in_ok-name.others.now = search rules in
    let none : kind_named (string_bytes c.in_ok-name.name.now) ≡ None = search rules in
    rw c.from_residual-in_err-kind.ensures (no_command_named c.args.words.now c.in_ok-name.name.now c.in_ok-name.others.now is none)

pub returns : goal.returns
returns c =
    let is : c.args.words.now ≡ c.in_ok-name.name.now ∷ c.in_ok-name.others.now = search rules in
    let named : kind_named (string_bytes c.in_ok-name.name.now) ≡ Some c.in_ok-kind.kind = search rules in
    command_named c.args.words.now c.in_ok-name.name.now c.in_ok-name.others.now is c.in_ok-kind.kind named
