-- Old and new rules by turns, taken from the front.
use Rattle.std.proofs.Common.{◌≡◌, List, [], ◌∷◌, ◌++◌, append_assoc, append-nil, Option, Some, None, refl, sym, ap, ◌∙◌}
use Rattle.std.specs.Prelude.{option_map}
use Rattle.policy_table.specs.Tables.{Fields}
use Rattle.script_read.specs.Blocks.{pairs_of}

-- pairs behind others
abbrev pub behind_pairs : List (Fields × Fields) → Option (List (Fields × Fields)) → Option (List (Fields × Fields))
behind_pairs taken others = option_map (λ (pairs : List (Fields × Fields)). taken ++ pairs) others

pub pairs_more : (taken : List (Fields × Fields)) (old new : Fields) (rules : List Fields) → behind_pairs taken (pairs_of (old ∷ new ∷ rules)) ≡ behind_pairs (taken ++ (old, new) ∷ []) (pairs_of rules)
unfolding pairs_of
pairs_more taken old new rules = by (pairs_of rules)
  where
    by : (others : Option (List (Fields × Fields))) → behind_pairs taken (option_map (λ (pairs : List (Fields × Fields)). (old, new) ∷ pairs) others) ≡ behind_pairs (taken ++ (old, new) ∷ []) others
    by None = refl
    by (Some pairs) = ap (λ (l : List (Fields × Fields)). Some l) (sym (append_assoc taken ((old, new) ∷ []) pairs))

pub pairs_odd : (taken : List (Fields × Fields)) (old : Fields) → behind_pairs taken (pairs_of (old ∷ [])) ≡ None
unfolding pairs_of
pairs_odd taken old = refl

pub pairs_end : (taken : List (Fields × Fields)) → behind_pairs taken (pairs_of []) ≡ Some taken
unfolding pairs_of
pairs_end taken = ap (λ (l : List (Fields × Fields)). Some l) (append-nil taken)

-- ---- of the rules that are left

pub pairs_on : (taken : List (Fields × Fields)) (all some rest : List Fields) (old new : Fields) (whole : Option (List (Fields × Fields))) → all ≡ old ∷ some → some ≡ new ∷ rest → behind_pairs taken (pairs_of all) ≡ whole
    → behind_pairs (taken ++ (old, new) ∷ []) (pairs_of rest) ≡ whole
pairs_on taken all some rest old new whole first second reads =
    let two : all ≡ old ∷ new ∷ rest = first ∙ ap (λ (l : List Fields). old ∷ l) second in
    sym (pairs_more taken old new rest) ∙ ap (λ (l : List Fields). behind_pairs taken (pairs_of l)) (sym two) ∙ reads

pub pairs_stop : (taken : List (Fields × Fields)) (all some : List Fields) (old : Fields) (whole : Option (List (Fields × Fields))) → all ≡ old ∷ some → some ≡ [] → behind_pairs taken (pairs_of all) ≡ whole → whole ≡ None
pairs_stop taken all some old whole first none reads =
    let one : all ≡ old ∷ [] = first ∙ ap (λ (l : List Fields). old ∷ l) none in
    sym reads ∙ ap (λ (l : List Fields). behind_pairs taken (pairs_of l)) one ∙ pairs_odd taken old

pub pairs_done : (taken : List (Fields × Fields)) (all : List Fields) (whole : Option (List (Fields × Fields))) → all ≡ [] → behind_pairs taken (pairs_of all) ≡ whole → whole ≡ Some taken
pairs_done taken all whole none reads = sym reads ∙ ap (λ (l : List Fields). behind_pairs taken (pairs_of l)) none ∙ pairs_end taken
