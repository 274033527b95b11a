-- The printed text of a model is UTF-8.
use Rattle.std.proofs.Common.{◌≡◌, ℕ, zero, suc, ◌-◌, ◌<◌, Bool, true, false, List, [], ◌∷◌, ◌++◌, get_or, ltb, map, codes, refl, sym, subst, lit<}
use Rattle.std.specs.Prelude.{IsTrue, IsUtf8}
use Rattle.std.specs.List.{list_all, flat_map, AllByRecursion}
use Rattle.std.proofs.lemmas.Bool.{ltb-true, lt-ltb, and_parts}
use Rattle.std.proofs.lemmas.List.Elements.{recursion_from_All}
use Rattle.std.proofs.lemmas.Str.{IsUtf8-append, IsUtf8-from_ascii}
use Rattle.effect_fold.specs.declared.effect.Effect.{Effect}
use Rattle.effect_fold.specs.declared.effect.Effect.TheVariants as e
use Rattle.matcher_read.specs.Calls.{relation_names}
use Rattle.text_parts.specs.Names.{is_identifier, is_word}
use Rattle.perm_base.specs.Fields.{joined}
use Rattle.text_parts.specs.Lines.{with_ends}
use Rattle.perm_base.specs.declared.shapes.RoleShape.{RoleShape}
use Rattle.model_conf.specs.Columns.{AreNames}
use Rattle.model_conf.specs.Effects.{effect_text}
use Rattle.model_conf.specs.ModelText.{ModelParts}
use Rattle.model_conf.specs.Printed.{key_line, printed, relation_entry, role_lines}
use Rattle.text_parts.proofs.CallerLemmas.{word_ascii, words_of}
use Rattle.model_conf.proofs.PrintLemmas.{printed-parts}

abbrev pub is_ascii : List ℕ → Bool
is_ascii text = list_all (λ (byte : ℕ). ltb byte 128) text

low : (text : List ℕ) (at : ℕ) → is_ascii text ≡ true → get_or text at 0 < 128
low [] at all = lit< tt
low (byte ∷ text) zero all = ltb-true byte 128 (and_parts (ltb byte 128) (is_ascii text) all).0
low (byte ∷ text) (suc at) all = low text at (and_parts (ltb byte 128) (is_ascii text) all).1

pub IsUtf8-is_ascii : (text : List ℕ) → is_ascii text ≡ true → IsUtf8 text
IsUtf8-is_ascii text all = IsUtf8-from_ascii text (λ at. low text at all)

pub is_ascii-append : (front back : List ℕ) → is_ascii front ≡ true → is_ascii back ≡ true → is_ascii (front ++ back) ≡ true
is_ascii-append [] back one two = two
is_ascii-append (byte ∷ front) back one two =
    let parts = and_parts (ltb byte 128) (is_ascii front) one in
    rw (parts.0, is_ascii-append front back parts.1 two) refl

words_ascii : (text : List ℕ) → list_all is_word text ≡ true → is_ascii text ≡ true
words_ascii [] all = refl
words_ascii (byte ∷ text) all =
    let parts = and_parts (is_word byte) (list_all is_word text) all in
    rw (lt-ltb byte 128 (word_ascii byte parts.0), words_ascii text parts.1) refl

others_ascii : (names : List (List ℕ)) → AllByRecursion (λ (name : List ℕ). IsTrue (is_identifier name)) names → is_ascii (flat_map (λ (name : List ℕ). (44 ∷ 32 ∷ []) ++ name) names) ≡ true
others_ascii [] all = refl
others_ascii (name ∷ names) all = is_ascii-append (44 ∷ 32 ∷ name) (flat_map (λ (n : List ℕ). (44 ∷ 32 ∷ []) ++ n) names) (words_ascii name (words_of name all.0)) (others_ascii names all.1)

joined_ascii : (names : List (List ℕ)) → AllByRecursion (λ (name : List ℕ). IsTrue (is_identifier name)) names → is_ascii (joined names) ≡ true
joined_ascii [] all = refl
joined_ascii (name ∷ names) all = is_ascii-append name (flat_map (λ (n : List ℕ). (44 ∷ 32 ∷ []) ++ n) names) (words_ascii name (words_of name all.0)) (others_ascii names all.1)

relation_ascii : (at : ℕ) → is_ascii (get_or relation_names at []) ≡ true
relation_ascii zero = refl
relation_ascii (suc zero) = refl
relation_ascii (suc (suc zero)) = refl
relation_ascii (suc (suc (suc zero))) = refl
relation_ascii (suc (suc (suc (suc zero)))) = refl
relation_ascii (suc (suc (suc (suc (suc zero))))) = refl
relation_ascii (suc (suc (suc (suc (suc (suc zero)))))) = refl
relation_ascii (suc (suc (suc (suc (suc (suc (suc zero))))))) = refl
relation_ascii (suc (suc (suc (suc (suc (suc (suc (suc at)))))))) = refl

shape_ascii : (number : ℕ) (with_domain : Bool) (names domains : _) → is_ascii (key_line (relation_entry (record { number = number; with_domain = with_domain; names = names; domains = domains })) ++ 10 ∷ []) ≡ true
shape_ascii number true names domains = is_ascii-append (get_or relation_names (number - 1) [] ++ codes " = _, _, _") (10 ∷ []) (is_ascii-append (get_or relation_names (number - 1) []) (codes " = _, _, _") (relation_ascii (number - 1)) refl) refl
shape_ascii number false names domains = is_ascii-append (get_or relation_names (number - 1) [] ++ codes " = _, _") (10 ∷ []) (is_ascii-append (get_or relation_names (number - 1) []) (codes " = _, _") (relation_ascii (number - 1)) refl) refl

shapes_ascii : (relations : List RoleShape) → is_ascii (with_ends (map key_line (map relation_entry relations))) ≡ true
shapes_ascii [] = refl
shapes_ascii (shape ∷ relations) = is_ascii-append (key_line (relation_entry shape) ++ 10 ∷ []) (with_ends (map key_line (map relation_entry relations))) (shape_ascii shape.number shape.with_domain shape.names shape.domains) (shapes_ascii relations)

roles_ascii : (relations : List RoleShape) → is_ascii (with_ends (role_lines relations)) ≡ true
roles_ascii [] = refl
roles_ascii (first ∷ others) = shapes_ascii (first ∷ others)

effect_ascii : (effect : Effect) → is_ascii (effect_text effect) ≡ true
effect_ascii e.AllowOverride = refl
effect_ascii e.DenyOverride = refl
effect_ascii e.AllowAndDeny = refl
effect_ascii e.Priority = refl
effect_ascii e.SubjectPriority = refl

pub IsUtf8-printed : (m : ModelParts) → AreNames m.request → AreNames m.policy → IsUtf8 m.matcher_text → IsUtf8 (printed m)
IsUtf8-printed m request policy matcher =
    let text = IsUtf8-is_ascii in
    subst IsUtf8 (sym (printed-parts m))
    (IsUtf8-append (91 ∷ codes "request_definition" ++ 93 ∷ 10 ∷ codes "r = ") _ (text _ refl) (IsUtf8-append (joined m.request) _ (text _ (joined_ascii m.request (recursion_from_All _ _ request)))
    (IsUtf8-append (10 ∷ 10 ∷ 91 ∷ codes "policy_definition" ++ 93 ∷ 10 ∷ codes "p = ") _ (text _ refl) (IsUtf8-append (joined m.policy) _ (text _ (joined_ascii m.policy (recursion_from_All _ _ policy)))
    (IsUtf8-append (10 ∷ []) _ (text _ refl) (IsUtf8-append (with_ends (role_lines m.relations)) _ (text _ (roles_ascii m.relations))
    (IsUtf8-append (10 ∷ 91 ∷ codes "policy_effect" ++ 93 ∷ 10 ∷ codes "e = ") _ (text _ refl) (IsUtf8-append (effect_text m.effect) _ (text _ (effect_ascii m.effect))
    (IsUtf8-append (10 ∷ 10 ∷ 91 ∷ codes "matchers" ++ 93 ∷ 10 ∷ codes "m = ") _ (text _ refl) (IsUtf8-append m.matcher_text (10 ∷ []) matcher (text _ refl)))))))))))
