-- The models of parts, and the text of a model with another matcher.
use Rattle.std.proofs.Common.{◌≡◌, ◌≢◌, inl, inr, ℕ, ◌+◌, ◌<◌, ◌≤◌, Bool, true, false, List, [], ◌∷◌, ◌++◌, codes, get_or, length, take, zero, suc, Option, sym, ap, ◌∙◌, subst, arith}
use Rattle.std.specs.Prelude.{◌↔◌, Any, IsTrue, MatchOption, if◌then◌else◌}
use Rattle.std.proofs.lemmas.Bool.{false≢true}
use Rattle.std.specs.List.{AllZip}
use Rattle.std.specs.Borrow.{Bor}
use Rattle.std.proofs.lemmas.List.{append_assoc, length-map, map-append, take_all, take_more}
use Rattle.text_parts.specs.Lines.{with_ends}
use Rattle.perm_base.specs.Fields.{joined}
use Rattle.matcher_read.specs.Expression.{Expression, expression}
use Rattle.matcher_read.specs.declared.tree.Tree.{Tree}
use Rattle.model_conf.specs.Effects.{effect_text}
use Rattle.model_conf.specs.Faults.{IsModelFault}
use Rattle.model_conf.specs.ModelText.{IsModel, ModelParts}
use Rattle.model_conf.specs.Printed.{printed, role_lines}
use Rattle.model_conf.specs.declared.fault.ModelFault.{ModelFault}
use Rattle.model_conf.specs.declared.fault.ModelFault.TheVariants.{NoMemory}
use Rattle.model_conf.proofs.PrintLemmas.{printed-parts}
use Rattle.decision.specs.Plans.{conjuncts}
use Rattle.near_miss.specs.Parts.{AreParts, HasNoModel, IsPart, is_told, part_text, with_matcher}
use Rattle.near_miss.specs.Written.{written}
use Rattle.near_miss.specs.Helps.MadeParts.{IsUnread, seen}
use Rattle.near_miss.proofs.ListLemmas.{zip_append}

-- ---- the text before the matcher

-- what stands before the matcher in the text of a model
abbrev pub front_text : ModelParts → List ℕ
front_text m =
    (91 ∷ codes "request_definition" ++ 93 ∷ 10 ∷ codes "r = ") ++ (joined m.request ++ ((10 ∷ 10 ∷ 91 ∷ codes "policy_definition" ++ 93 ∷ 10 ∷ codes "p = ") ++ (joined m.policy ++ (10 ∷ (with_ends (role_lines m.relations)
    ++ ((10 ∷ 91 ∷ codes "policy_effect" ++ 93 ∷ 10 ∷ codes "e = ") ++ (effect_text m.effect ++ (10 ∷ 10 ∷ 91 ∷ codes "matchers" ++ 93 ∷ 10 ∷ codes "m = "))))))))

regroup : (a r b p s c e d x : List ℕ) → a ++ (r ++ (b ++ (p ++ (10 ∷ (s ++ (c ++ (e ++ (d ++ x)))))))) ≡ (a ++ (r ++ (b ++ (p ++ (10 ∷ (s ++ (c ++ (e ++ d)))))))) ++ x
regroup a r b p s c e d x = simp append_assoc

pub printed_front : (m : ModelParts) → printed m ≡ front_text m ++ (m.matcher_text ++ 10 ∷ [])
printed_front m =
    printed-parts m
    ∙ regroup (91 ∷ codes "request_definition" ++ 93 ∷ 10 ∷ codes "r = ") (joined m.request) (10 ∷ 10 ∷ 91 ∷ codes "policy_definition" ++ 93 ∷ 10 ∷ codes "p = ") (joined m.policy) (with_ends (role_lines m.relations))
    (10 ∷ 91 ∷ codes "policy_effect" ++ 93 ∷ 10 ∷ codes "e = ") (effect_text m.effect) (10 ∷ 10 ∷ 91 ∷ codes "matchers" ++ 93 ∷ 10 ∷ codes "m = ") (m.matcher_text ++ 10 ∷ [])

-- the text with another matcher
pub text_made : (m : ModelParts) (text front one two new : List ℕ) → front ≡ front_text m → one ≡ front → two ≡ one ++ text → new ≡ two ++ 10 ∷ [] → new ≡ printed (with_matcher m text)
text_made m text front one two new is first second third =
    third ∙ ap (λ (l : List ℕ). l ++ 10 ∷ []) (second ∙ ap (λ (l : List ℕ). l ++ text) (first ∙ is)) ∙ append_assoc (front_text m) text (10 ∷ []) ∙ sym (printed_front (with_matcher m text))

-- ---- whether there is a model of a part

-- a text that says one model
abbrev pub OneModel : Type 0
OneModel = (bytes : List ℕ) (first second : ModelParts) → IsModel bytes first → IsModel bytes second → first ≡ second

pub other_tree : OneModel → (model own : ModelParts) (part : Expression) → IsModel (printed (with_matcher model (part_text part))) own → (written true own.matcher ≡ written true part → ⊥) → HasNoModel model part
other_tree one model own part said differs = λ other is. differs (subst (λ (m : ModelParts). written true m.matcher ≡ written true part) (one (printed (with_matcher model (part_text part))) other own is.said said) is.same)

pub no_model : ((bytes : List ℕ) (fault : ModelFault) (model : ModelParts) → IsModelFault bytes fault → ¬ (IsModel bytes model)) → (model : ModelParts) (part : Expression) (fault : ModelFault) → IsModelFault (printed (with_matcher model (part_text part))) fault → HasNoModel model part
no_model faulty model part fault is = λ own said. faulty (printed (with_matcher model (part_text part))) fault own is said.said

-- what comes of a text that is not read
pub unread_gives : ((bytes : List ℕ) (fault : ModelFault) (model : ModelParts) → IsModelFault bytes fault → ¬ (IsModel bytes model)) → (model : ModelParts) (part : Expression) (bytes : List ℕ) (fault : ModelFault) → bytes ≡ printed (with_matcher model (part_text part))
    → (fault ≢ NoMemory → IsModelFault bytes fault) → (found : Option ModelParts) → IsUnread fault found → MatchOption found (HasNoModel model part) (IsPart model part)
unread_gives faulty model part bytes fault bytes_are first found is =
    subst (λ (o : Option ModelParts). MatchOption o (HasNoModel model part) (IsPart model part)) (sym is.0)
    (no_model faulty model part fault (subst (λ (l : List ℕ). IsModelFault l fault) bytes_are (first is.1)))

pub not_said : (b : Bool) (P : Type 0) → IsTrue b ↔ P → b ≡ false → P → ⊥
not_said b P iff is p = false≢true (sym is ∙ said)
  where
    said : b ≡ true
    said = iff.1 p

-- ---- parts one behind the other

seen_more : (trees : List (Bor Tree)) (at : ℕ) (tree : Bor Tree) → at < length trees → tree ≡ get_or trees at tree → seen (take (at + 1) trees) ≡ seen (take at trees) ++ expression tree.now ∷ []
seen_more trees at tree within is =
    ap seen (take_more trees at tree within ∙ ap (λ (t : Bor Tree). take at trees ++ t ∷ []) (sym is)) ∙ map-append (λ (t : Bor Tree). expression t.now) (take at trees) (tree ∷ [])

-- one part more
pub made_more : (model own : ModelParts) (trees : List (Bor Tree)) (at : ℕ) (tree : Bor Tree) (old new : List ModelParts) → at < length trees → tree ≡ get_or trees at tree → IsPart model (expression tree.now) own → new ≡ old ++ own ∷ []
    → AllZip (IsPart model) (seen (take at trees)) old → AllZip (IsPart model) (seen (take (at + 1) trees)) new
made_more model own trees at tree old new within is part grown each =
    subst (λ (es : List Expression). AllZip (IsPart model) es new) (sym (seen_more trees at tree within is))
    (subst (λ (l : List ModelParts). AllZip (IsPart model) (seen (take at trees) ++ expression tree.now ∷ []) l) (sym grown) (zip_append (IsPart model) (seen (take at trees)) (expression tree.now ∷ []) old (own ∷ []) each (part, tt)))

pub made_whole : (model : ModelParts) (trees : List (Bor Tree)) (at : ℕ) (own : List ModelParts) → length trees ≤ at → AllZip (IsPart model) (seen (take at trees)) own → AllZip (IsPart model) (seen trees) own
made_whole model trees at own past each = subst (λ (l : List (Bor Tree)). AllZip (IsPart model) (seen l) own) (take_all at trees past) each

seen_there : (trees : List (Bor Tree)) (at : ℕ) (tree : Bor Tree) → at < length trees → tree ≡ get_or trees at tree → get_or (seen trees) at (expression tree.now) ≡ expression tree.now
seen_there [] at tree within is = absurd (omega arith)
seen_there (t ∷ ts) zero tree within is = ap (λ (x : Bor Tree). expression x.now) (sym is)
seen_there (t ∷ ts) (suc at) tree within is = seen_there ts at tree (omega arith) is

-- a part that has no model
pub made_not : (model : ModelParts) (trees : List (Bor Tree)) (at : ℕ) (tree : Bor Tree) → at < length trees → tree ≡ get_or trees at tree → HasNoModel model (expression tree.now) → Any (HasNoModel model) (seen trees)
made_not model trees at tree within is none = (at, expression tree.now, subst (λ (n : ℕ). at < n) (sym (length-map trees (λ (t : Bor Tree). expression t.now))) within, seen_there trees at tree within is, none)

-- ---- the parts of a model

abbrev told_if : Expression → Bool → List Expression
told_if matcher b = if b then conjuncts matcher else []

pub parts_none : (model : ModelParts) (own : List ModelParts) → own ≡ [] → is_told model.matcher ≡ false → AreParts model own
parts_none model own empty told = inl (subst (λ (es : List Expression). AllZip (IsPart model) es own) (sym (ap (told_if model.matcher) told)) (subst (λ (l : List ModelParts). AllZip (IsPart model) [] l) (sym empty) tt))

pub parts_all : (model : ModelParts) (own : List ModelParts) → is_told model.matcher ≡ true → AllZip (IsPart model) (conjuncts model.matcher) own → AreParts model own
parts_all model own told each = inl (subst (λ (es : List Expression). AllZip (IsPart model) es own) (sym (ap (told_if model.matcher) told)) each)

pub parts_not : (model : ModelParts) (own : List ModelParts) → own ≡ [] → is_told model.matcher ≡ true → Any (HasNoModel model) (conjuncts model.matcher) → AreParts model own
parts_not model own empty told none = inr (subst (λ (es : List Expression). Any (HasNoModel model) es) (sym (ap (told_if model.matcher) told)) none, empty)
