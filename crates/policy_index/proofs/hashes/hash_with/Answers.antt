use Rattle.std.proofs.Common.{[], ◌∷◌, ◌∙◌, ap, sym}
use Rattle.std.proofs.lemmas.List.Sums.{fold-append}
use Rattle.policy_index.specs.Hashes.{bytes_hash, start_hash, text_hash}
use Rattle.policy_index.proofs.hashes.hash_with.Goals as goal

pub returns-clause-more : goal.returns-clause-more
returns-clause-more c = λ texts is.
    c.hash_bytes.ensures ∙ ap (λ h. bytes_hash h c.args.text.now) c.hash_step.ensures ∙ ap (λ h. text_hash h c.args.text.now) is ∙ sym (fold-append text_hash start_hash texts (c.args.text.now ∷ []))
