-- The text of an edit, as it is pushed change by change.
use Rattle.std.proofs.Common.{◌≡◌, ℕ, ◌+◌, ◌<◌, ◌≤◌, List, [], ◌∷◌, ◌++◌, append-nil, codes, length, take, take_all, get_or, sym, ap, ◌∙◌}
use Rattle.std.specs.Prelude.{flat_map}
use Rattle.std.proofs.lemmas.List.{take_more}
use Rattle.std.proofs.lemmas.List.Concat.{flat_map-append}
use Rattle.policy_table.specs.declared.change.Change.{Change}
use Rattle.text_parts.specs.Lines.{with_ends}
use Rattle.version_log.specs.EditText.{change_items, edit_lines, item_lines, printed_edit}
use Rattle.version_log.specs.declared.item.EditItem.TheVariants.{End}

-- the text of the lines of changes
abbrev pub changes_text : List Change → List ℕ
changes_text changes = with_ends (flat_map item_lines (flat_map change_items changes))

text_both : (front back : List Change) → changes_text (front ++ back) ≡ changes_text front ++ changes_text back
text_both front back =
    ap (λ l. with_ends (flat_map item_lines l)) (flat_map-append change_items front back) ∙ ap with_ends (flat_map-append item_lines (flat_map change_items front) (flat_map change_items back))
    ∙ flat_map-append (λ (text : List ℕ). text ++ 10 ∷ []) (flat_map item_lines (flat_map change_items front)) (flat_map item_lines (flat_map change_items back))

pub pushed_change : (changes : List Change) (at : ℕ) (change : Change) (now new : List ℕ) → at < length changes → change ≡ get_or changes at change → now ≡ changes_text (take at changes)
    → new ≡ now ++ with_ends (flat_map item_lines (change_items change)) → new ≡ changes_text (take (at + 1) changes)
pushed_change changes at change now new within is was pushed =
    let next : take (at + 1) changes ≡ take at changes ++ change ∷ [] = take_more changes at change within ∙ ap (λ (c : Change). take at changes ++ c ∷ []) (sym is) in
    let one : changes_text (change ∷ []) ≡ with_ends (flat_map item_lines (change_items change)) = ap (λ l. with_ends (flat_map item_lines l)) (append-nil (change_items change)) in
    pushed ∙ ap (λ (t : List ℕ). t ++ with_ends (flat_map item_lines (change_items change))) was
    ∙ sym (ap changes_text next ∙ text_both (take at changes) (change ∷ []) ∙ ap (λ (t : List ℕ). changes_text (take at changes) ++ t) one)

pub whole_edit : (changes : List Change) (at : ℕ) (now new : List ℕ) → length changes ≤ at → now ≡ changes_text (take at changes) → new ≡ now ++ codes ".\n" → new ≡ printed_edit changes
unfolding printed_edit
whole_edit changes at now new all was pushed =
    let lines : edit_lines changes ≡ flat_map item_lines (flat_map change_items changes) ++ codes "." ∷ [] = flat_map-append item_lines (flat_map change_items changes) (End ∷ []) in
    let text : printed_edit changes ≡ changes_text changes ++ codes ".\n"
    = ap with_ends lines ∙ flat_map-append (λ (text : List ℕ). text ++ 10 ∷ []) (flat_map item_lines (flat_map change_items changes)) (codes "." ∷ []) in
    pushed ∙ ap (λ (t : List ℕ). t ++ codes ".\n") (was ∙ ap changes_text (take_all at changes all)) ∙ sym text
