-- The printed text of a model, part by part.
use Rattle.std.proofs.Common.{◌≡◌, ℕ, ◌≤◌, ◌==◌, false, List, [], ◌∷◌, ◌++◌, length, map, take, codes, sym, ap, ◌∙◌}
use Rattle.std.proofs.lemmas.Bool.{false≢true}
use Rattle.std.proofs.lemmas.Grind.{flat_map-append}
use Rattle.std.proofs.lemmas.List.{append_assoc, append-nil, take_all}
use Rattle.perm_base.specs.Fields.{joined}
use Rattle.text_parts.specs.Lines.{with_ends}
use Rattle.perm_base.specs.declared.shapes.RoleShape.{RoleShape}
use Rattle.model_conf.specs.Effects.{effect_text}
use Rattle.model_conf.specs.ModelText.{ModelParts}
use Rattle.model_conf.specs.Printed.{key_line, printed, printed_lines, relation_entry, role_lines, section_lines}
use Rattle.model_conf.specs.Sections.{entry}

-- `[role_definition]`, with an empty line before it
abbrev pub role_header : List ℕ
role_header = 10 ∷ 91 ∷ codes "role_definition" ++ 93 ∷ 10 ∷ []

pub roles_whole : (text old begun : List ℕ) (relations : List RoleShape) (at : ℕ) → begun ≡ old ++ role_header → text ≡ begun ++ with_ends (map key_line (map relation_entry (take at relations))) → length relations ≤ at → (length relations == 0) ≡ false
    → text ≡ old ++ with_ends (role_lines relations)
roles_whole text old begun [] at start is past some = absurd (false≢true (sym some))
roles_whole text old begun (first ∷ others) at start is past some =
    is ∙ ap (λ (l : List RoleShape). begun ++ with_ends (map key_line (map relation_entry l))) (take_all at (first ∷ others) past)
    ∙ ap (λ (t : List ℕ). t ++ with_ends (map key_line (map relation_entry (first ∷ others)))) start
    ∙ append_assoc old role_header (with_ends (map key_line (map relation_entry (first ∷ others))))

-- the parts of the text, in the order in which they are printed
abbrev pub parts_text : ModelParts → List ℕ
parts_text m =
    (91 ∷ codes "request_definition" ++ 93 ∷ 10 ∷ codes "r = ") ++ (joined m.request ++ ((10 ∷ 10 ∷ 91 ∷ codes "policy_definition" ++ 93 ∷ 10 ∷ codes "p = ") ++ (joined m.policy ++ (10 ∷ (with_ends (role_lines m.relations)
    ++ ((10 ∷ 91 ∷ codes "policy_effect" ++ 93 ∷ 10 ∷ codes "e = ") ++ (effect_text m.effect ++ ((10 ∷ 10 ∷ 91 ∷ codes "matchers" ++ 93 ∷ 10 ∷ codes "m = ") ++ (m.matcher_text ++ 10 ∷ [])))))))))

with_ends-append : (front back : List (List ℕ)) → with_ends (front ++ back) ≡ with_ends front ++ with_ends back
with_ends-append front back = flat_map-append (λ (text : List ℕ). text ++ 10 ∷ []) front back

five : (a b c d e : List ℕ) → (((a ++ b) ++ c) ++ d) ++ e ≡ a ++ (b ++ (c ++ (d ++ e)))
five a b c d e = simp append_assoc

-- a part with LF behind it, before others
piece : (head value rest : List ℕ) → (head ++ ((value ++ 10 ∷ []) ++ [])) ++ rest ≡ head ++ (value ++ 10 ∷ rest)
piece head value rest =
    append_assoc head ((value ++ 10 ∷ []) ++ []) rest ∙ ap (λ (t : List ℕ). head ++ t) (ap (λ (t : List ℕ). t ++ rest) (append-nil (value ++ 10 ∷ [])) ∙ append_assoc value (10 ∷ []) rest)

-- five parts one behind the other, each but the third with LF behind it
joins : (a b c d r p roles e m : List ℕ) → ((((a ++ ((r ++ 10 ∷ []) ++ [])) ++ (b ++ ((p ++ 10 ∷ []) ++ []))) ++ roles) ++ (c ++ ((e ++ 10 ∷ []) ++ []))) ++ (d ++ ((m ++ 10 ∷ []) ++ []))
    ≡ a ++ (r ++ 10 ∷ (b ++ (p ++ 10 ∷ (roles ++ (c ++ (e ++ 10 ∷ (d ++ (m ++ 10 ∷ []))))))))
joins a b c d r p roles e m =
    let last : d ++ ((m ++ 10 ∷ []) ++ []) ≡ d ++ (m ++ 10 ∷ []) = ap (λ (t : List ℕ). d ++ t) (append-nil (m ++ 10 ∷ [])) in
    five (a ++ ((r ++ 10 ∷ []) ++ [])) (b ++ ((p ++ 10 ∷ []) ++ [])) roles (c ++ ((e ++ 10 ∷ []) ++ [])) (d ++ ((m ++ 10 ∷ []) ++ []))
    ∙ piece a r _ ∙ ap (λ (t : List ℕ). a ++ (r ++ 10 ∷ t)) (piece b p _ ∙ ap (λ (t : List ℕ). b ++ (p ++ 10 ∷ (roles ++ t))) (piece c e _ ∙ ap (λ (t : List ℕ). c ++ (e ++ 10 ∷ t)) last))

split_ends : (a b c d e : List (List ℕ)) → with_ends (a ++ b ++ c ++ d ++ e) ≡ (((with_ends a ++ with_ends b) ++ with_ends c) ++ with_ends d) ++ with_ends e
split_ends a b c d e =
    with_ends-append (a ++ b ++ c ++ d) e ∙ ap (λ (t : List ℕ). t ++ with_ends e) (with_ends-append (a ++ b ++ c) d
    ∙ ap (λ (t : List ℕ). t ++ with_ends d) (with_ends-append (a ++ b) c ∙ ap (λ (t : List ℕ). t ++ with_ends c) (with_ends-append a b)))

pub printed-parts : (m : ModelParts) → printed m ≡ parts_text m
unfolding printed_lines
printed-parts m =
    split_ends (section_lines (codes "request_definition") (entry (codes "r") (joined m.request) ∷ [])) ([] ∷ section_lines (codes "policy_definition") (entry (codes "p") (joined m.policy) ∷ [])) (role_lines m.relations)
    ([] ∷ section_lines (codes "policy_effect") (entry (codes "e") (effect_text m.effect) ∷ [])) ([] ∷ section_lines (codes "matchers") (entry (codes "m") m.matcher_text ∷ []))
    ∙ joins (91 ∷ codes "request_definition" ++ 93 ∷ 10 ∷ codes "r = ") (10 ∷ 91 ∷ codes "policy_definition" ++ 93 ∷ 10 ∷ codes "p = ") (10 ∷ 91 ∷ codes "policy_effect" ++ 93 ∷ 10 ∷ codes "e = ") (10 ∷ 91 ∷ codes "matchers" ++ 93 ∷ 10 ∷ codes "m = ")
    (joined m.request) (joined m.policy) (with_ends (role_lines m.relations)) (effect_text m.effect) m.matcher_text

-- ---- the text as it is pushed, part by part

pub push_one : (old new part so_far : List ℕ) → old ≡ so_far → new ≡ old ++ part → new ≡ so_far ++ part
push_one old new part so_far is e = e ∙ ap (λ (t : List ℕ). t ++ part) is

eleven : (a b c d e f g h i j k : List ℕ) → ((((((((((([] ++ a) ++ b) ++ c) ++ d) ++ e) ++ f) ++ g) ++ h) ++ i) ++ j) ++ k) ≡ a ++ (b ++ (c ++ (d ++ (e ++ (f ++ (g ++ (h ++ (i ++ (j ++ k)))))))))
eleven a b c d e f g h i j k = simp append_assoc

abbrev text_of : List ℕ → List ℕ → List ℕ → List ℕ → List ℕ → List ℕ
text_of r p s e m =
    (91 ∷ codes "request_definition" ++ 93 ∷ 10 ∷ codes "r = ") ++ (r ++ ((10 ∷ 10 ∷ 91 ∷ codes "policy_definition" ++ 93 ∷ 10 ∷ codes "p = ") ++ (p ++ (10 ∷ (s
    ++ ((10 ∷ 91 ∷ codes "policy_effect" ++ 93 ∷ 10 ∷ codes "e = ") ++ (e ++ ((10 ∷ 10 ∷ 91 ∷ codes "matchers" ++ 93 ∷ 10 ∷ codes "m = ") ++ (m ++ 10 ∷ [])))))))))

same_parts : (r p s e m r' p' s' e' m' : List ℕ) → r ≡ r' → p ≡ p' → s ≡ s' → e ≡ e' → m ≡ m' → text_of r p s e m ≡ text_of r' p' s' e' m'
same_parts r p s e m r' p' s' e' m' er ep es ee em =
    ap (λ (x : List ℕ). text_of x p s e m) er ∙ ap (λ (x : List ℕ). text_of r' x s e m) ep ∙ ap (λ (x : List ℕ). text_of r' p' x e m) es ∙ ap (λ (x : List ℕ). text_of r' p' s' x m) ee ∙ ap (λ (x : List ℕ). text_of r' p' s' e' x) em

pub pushed-parts : (m : ModelParts) (request policy roles effect matcher : List ℕ) → request ≡ joined m.request → policy ≡ joined m.policy → roles ≡ with_ends (role_lines m.relations) → effect ≡ effect_text m.effect → matcher ≡ m.matcher_text
    → ((((((((((([] ++ (91 ∷ codes "request_definition" ++ 93 ∷ 10 ∷ codes "r = ")) ++ request) ++ (10 ∷ 10 ∷ 91 ∷ codes "policy_definition" ++ 93 ∷ 10 ∷ codes "p = ")) ++ policy) ++ (10 ∷ [])) ++ roles) ++ (10 ∷ 91 ∷ codes "policy_effect" ++ 93 ∷ 10 ∷ codes "e = ")) ++ effect) ++ (10 ∷ 10 ∷ 91 ∷ codes "matchers" ++ 93 ∷ 10 ∷ codes "m = ")) ++ matcher) ++ (10 ∷ []))
    ≡ printed m
pushed-parts m request policy roles effect matcher er ep es ee em =
    eleven (91 ∷ codes "request_definition" ++ 93 ∷ 10 ∷ codes "r = ") request (10 ∷ 10 ∷ 91 ∷ codes "policy_definition" ++ 93 ∷ 10 ∷ codes "p = ") policy (10 ∷ []) roles (10 ∷ 91 ∷ codes "policy_effect" ++ 93 ∷ 10 ∷ codes "e = ") effect (10 ∷ 10 ∷ 91 ∷ codes "matchers" ++ 93 ∷ 10 ∷ codes "m = ") matcher (10 ∷ [])
    ∙ same_parts request policy roles effect matcher (joined m.request) (joined m.policy) (with_ends (role_lines m.relations)) (effect_text m.effect) m.matcher_text er ep es ee em ∙ sym (printed-parts m)
