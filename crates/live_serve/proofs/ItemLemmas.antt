-- The items of a script whose tables have names.
use Rattle.std.proofs.Common.{◌≡◌, ℕ, ◌<◌, true, List, length, ap, sym, subst, ◌∙◌}
use Rattle.std.specs.Prelude.{All, get_or, map}
use Rattle.std.proofs.Math.ListN.{get_or-map}
use Rattle.std.proofs.lemmas.List.{length-map}
use Rattle.std.proofs.lemmas.List.Elements.{All-get_or}
use Rattle.script_read.specs.Named.{is_named}
use Rattle.script_read.specs.Said.{Said, seen}
use Rattle.script_read.specs.declared.item.Item.{Item}

pub named_at : (items script : List Item) → items ≡ script → (n : ℕ) (it : Item) → n < length items → it ≡ get_or items n it → All (λ (item : Said). is_named item ≡ true) (map seen script) → is_named (seen it) ≡ true
named_at items script same n it within is all =
    let here : n < length (map seen script) = subst (λ (k : ℕ). n < k) (ap length same ∙ sym (length-map script seen)) within in
    ap is_named (ap seen is ∙ ap (λ (l : List Item). seen (get_or l n it)) same ∙ sym (get_or-map seen script n it)) ∙ All-get_or (λ (item : Said). is_named item ≡ true) (map seen script) n (seen it) here all
