-- Each function has a name of its own.
use Rattle.std.proofs.Common.{◌≡◌, Some, refl, ap, sym, ◌∙◌}
use Rattle.matcher_read.specs.Calls.{function_of, name_of}
use Rattle.matcher_read.specs.declared.tree.Function.{Function}
use Rattle.matcher_read.specs.declared.tree.Function.TheVariants as f

pub own_name : (called : Function) → function_of (name_of called) ≡ Some called
own_name f.KeyMatch = refl
own_name _ = refl

pub names_differ : (called other : Function) → name_of called ≡ name_of other → called ≡ other
names_differ called other same =
    let found : Some called ≡ Some other = sym (own_name called) ∙ ap function_of same ∙ own_name other in cc
