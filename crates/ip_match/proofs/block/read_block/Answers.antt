use Rattle.std.proofs.Common.{◌≡◌, ℕ, List, ◌∷◌, [], ◌++◌, Some, inr, refl, sym, ap, ◌∙◌, append_assoc, arith}
use Rattle.std.proofs.lemmas.Option.{none-some, same_Some}
use Rattle.ip_match.specs.declared.address.Address.{Address}
use Rattle.ip_match.specs.declared.block.Block.{Block}
use Rattle.ip_match.specs.Blocks.{width_of}
use Rattle.ip_match.proofs.PartLemmas.{text_of_cut}
use Rattle.ip_match.proofs.AddressLemmas.{plain_is, prefix_is}
use Rattle.ip_match.proofs.block.read_block.Goals as goal

abbrev block_of : Address → ℕ → Block
block_of address bits = record { address = address; bits = bits }

same_block : (address : Address) (bits : ℕ) (block : Block) → address ≡ block.address → bits ≡ block.bits → block_of address bits ≡ block
same_block address bits block e f = rw (e, f) refl

pub returns-in_err-address-in-None-clause-only : goal.returns-in_err-address-in-None-clause-only
returns-in_err-address-in-None-clause-only c = λ block h.
    let plain = plain_is c.args.text.now block c.in-None.ensures.parts h in
    absurd (none-some _ (c.in_err-address-in-None.ensures.only block.address plain.0))

pub returns-in_ok-address-in-None-clause-only : goal.returns-in_ok-address-in-None-clause-only
returns-in_ok-address-in-None-clause-only c = λ block h.
    let plain = plain_is c.args.text.now block c.in-None.ensures.parts h in
    let address = same_Some _ _ (c.in_ok-address-in-None.ensures.only block.address plain.0) in
    ap Some (same_block _ _ block address (c.width.ensures ∙ ap width_of address ∙ sym plain.1))

pub returns-in_err-address-in-Some-clause-only : goal.returns-in_err-address-in-Some-clause-only
returns-in_err-address-in-Some-clause-only c = λ block h.
    let prefix = prefix_is c.args.text.now c.in-Some.front.now c.in-Some.back.now block c.in-Some.ensures.parts h in
    absurd (none-some _ (c.in_err-address-in-Some.ensures.only block.address prefix.0))

pub returns-in_err-bits-in-Some-clause-only : goal.returns-in_err-bits-in-Some-clause-only
returns-in_err-bits-in-Some-clause-only c = λ block h.
    let prefix = prefix_is c.args.text.now c.in-Some.front.now c.in-Some.back.now block c.in-Some.ensures.parts h in
    let address = same_Some _ _ (c.in_ok-address-in-Some.ensures.only block.address prefix.0) in
    absurd (none-some _ (c.in_err-bits-in-Some.ensures.only block.bits (omega (arith, prefix.2, c.width-in-Some.ensures, ap width_of address)) prefix.1))

pub returns-in_ok-bits-in-Some-clause-found : goal.returns-in_ok-bits-in-Some-clause-found
returns-in_ok-bits-in-Some-clause-found c =
    let bits = c.in_ok-bits-in-Some.ensures.found in
    let text = text_of_cut 47 c.args.text.now c.in-Some.front.now c.in-Some.back.now c.in-Some.ensures.parts in
    inr (_, c.in_ok-address-in-Some.ensures.found, text ∙ ap (λ (t : List ℕ). c.in-Some.front.now ++ 47 ∷ t) bits.0 ∙ sym (append_assoc _ (47 ∷ []) _), omega (arith, bits.1, c.width-in-Some.ensures))

pub returns-in_ok-bits-in-Some-clause-only : goal.returns-in_ok-bits-in-Some-clause-only
returns-in_ok-bits-in-Some-clause-only c = λ block h.
    let prefix = prefix_is c.args.text.now c.in-Some.front.now c.in-Some.back.now block c.in-Some.ensures.parts h in
    let address = same_Some _ _ (c.in_ok-address-in-Some.ensures.only block.address prefix.0) in
    let bits = same_Some _ _ (c.in_ok-bits-in-Some.ensures.only block.bits (omega (arith, prefix.2, c.width-in-Some.ensures, ap width_of address)) prefix.1) in
    ap Some (same_block _ _ block address bits)
