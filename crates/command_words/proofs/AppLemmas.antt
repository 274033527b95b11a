-- The commands as `clap` has them once they are built.
use Rattle.std.proofs.Common.{◌≡◌, ◌∙◌, ◌++◌, ℕ, Bool, true, false, cond, not, ◌&&◌, ◌||◌, List, [], ◌∷◌, map, find, is_some, Option, Some, None, refl, sym, ap, subst, ⊎_elim, bytes_eq, codes}
use Rattle.std.specs.List.{list_any}
use Rattle.clap.specs.Words.{App, HasKind, HasMatchesOf, IsAmong, Rule, Shape, fault_of, found_of, is_simple, is_simple_and_free, kind_of, matches_of, rows_of}
use Rattle.clap.specs.Faults.{built_fault, level_fault}
use Rattle.clap.specs.Simple.{built, filled, names_of, new_shape, with_index}
use Rattle.clap.specs.Walk.{Text, arg_by_id, arg_by_long, arg_by_short, has_long, has_short, nothing_held, rows_after}
use Rattle.clap.specs.declared.error.Error.{Error}
use Rattle.clap.specs.declared.error.kind.ErrorKind.TheVariants.{OutOfMemory}
use Rattle.clap.specs.declared.parser.matches.ArgMatches.{ArgMatches}
use Rattle.clap.proofs.FaultLemmas.{leaf_fault}
use Rattle.command_words.specs.Commands.{has_json, options_of}
use Rattle.command_words.specs.Helps.Matched.{app_for, flag_rule, operands_rule, option_rule}
use Rattle.command_words.specs.declared.kind.Kind.{Kind}
use Rattle.command_words.specs.declared.kind.Kind.TheVariants.{Enforce, Explain, Session, Check, Format, Implicit, Report, Ship, Follow, Lint, Demo}
use Rattle.command_words.proofs.TextLemmas.{apart_names, bytes_flip, bytes_same, or_false}

-- ---- what building makes of the arguments

abbrev pub ready_operands : Rule
ready_operands = with_index 1 (filled operands_rule)

abbrev pub ready_option : Text → Rule
ready_option name = filled (option_rule name)

abbrev pub ready_flag : Rule
ready_flag = filled flag_rule

abbrev pub ready_flags : Bool → List Rule
ready_flags true = ready_flag ∷ []
ready_flags false = []

abbrev pub ready_rules : List Text → Bool → List Rule
ready_rules names json = ready_operands ∷ (map ready_option names ++ ready_flags json)

abbrev pub ready_shape : List Text → Bool → Shape
ready_shape names json = record (new_shape (codes "casbin_cli")) {
  rules = ready_rules names json;
  no_binary_name = true;
  disable_help_flag = true;
  disable_help_subcommand = true;
  is_built = true;
}

abbrev pub ready_app : List Text → Bool → App
ready_app names json = record { top = ready_shape names json; subs = [] }

simple_app : (kind : Kind) → is_simple (app_for kind) ≡ true
simple_app Enforce = refl
simple_app Explain = refl
simple_app Session = refl
simple_app Check = refl
simple_app Format = refl
simple_app Implicit = refl
simple_app Report = refl
simple_app Ship = refl
simple_app Follow = refl
simple_app Lint = refl
simple_app Demo = refl

free_app : (kind : Kind) → is_simple_and_free (app_for kind) ≡ true
free_app Enforce = refl
free_app Explain = refl
free_app Session = refl
free_app Check = refl
free_app Format = refl
free_app Implicit = refl
free_app Report = refl
free_app Ship = refl
free_app Follow = refl
free_app Lint = refl
free_app Demo = refl

built_app : (kind : Kind) → built (app_for kind) ≡ ready_app (options_of kind) (has_json kind)
built_app Enforce = refl
built_app Explain = refl
built_app Session = refl
built_app Check = refl
built_app Format = refl
built_app Implicit = refl
built_app Report = refl
built_app Ship = refl
built_app Follow = refl
built_app Lint = refl
built_app Demo = refl

-- what is at fault, and what is matched, at the command itself
pub fault_is : (kind : Kind) (words : List Text) → fault_of (app_for kind) words ≡ level_fault (ready_shape (options_of kind) (has_json kind)) [] nothing_held words false []
fault_is kind words = ap (λ (a : App). built_fault a nothing_held words) (built_app kind) ∙ leaf_fault (ready_app (options_of kind) (has_json kind)) nothing_held words refl

pub matches_are : (kind : Kind) (words : List Text) → matches_of (app_for kind) words ≡ rows_after (ready_rules (options_of kind) (has_json kind)) [] words
matches_are kind words = ap (λ (a : App). rows_after a.top.rules (names_of a) words) (built_app kind)

-- ---- what a parse tells

module _ (kind : Kind) (app : App) (words : List Text) (is : app ≡ app_for kind) where
  same_fault : fault_of app words ≡ fault_of (app_for kind) words
  same_fault = ap (λ (a : App). fault_of a words) is

  is_free : is_simple_and_free app ≡ true
  is_free = ap is_simple_and_free is ∙ free_app kind

  pub parse_matches : (m : ArgMatches) → (is_simple_and_free app ≡ true → fault_of app words ≡ []) → HasMatchesOf app words m
      → (fault_of (app_for kind) words ≡ []) × (rows_of (found_of m) ≡ matches_of (app_for kind) words)
  parse_matches m free has = (sym same_fault ∙ free is_free, (has (ap is_simple is ∙ simple_app kind)).0 ∙ ap (λ (a : App). matches_of a words) is)

  -- an error that is not want of memory is one of the words
  pub parse_fails : (e : Error) → (is_simple_and_free app ≡ true → HasKind (fault_of app words) e) → (kind_of e ≡ OutOfMemory → ⊥) → fault_of (app_for kind) words ≡ [] → ⊥
  parse_fails e free other none = ⊎_elim (λ memory. other memory) (λ among. subst (IsAmong (kind_of e)) (same_fault ∙ none) among) (free is_free)

-- ---- which argument a name finds

-- no option has the name of another argument
pub record Apart (names : List Text) : Type 0 where
  pub operands : list_any (bytes_eq (codes "operands")) names ≡ false
  pub json : list_any (bytes_eq (codes "json")) names ≡ false

pub apart : (kind : Kind) → Apart (options_of kind)
apart Enforce = record { operands = refl; json = refl }
apart Explain = record { operands = refl; json = refl }
apart Session = record { operands = refl; json = refl }
apart Check = record { operands = refl; json = refl }
apart Format = record { operands = refl; json = refl }
apart Implicit = record { operands = refl; json = refl }
apart Report = record { operands = refl; json = refl }
apart Ship = record { operands = refl; json = refl }
apart Follow = record { operands = refl; json = refl }
apart Lint = record { operands = refl; json = refl }
apart Demo = record { operands = refl; json = refl }

-- by `--name`: the option of that name, or the flag
pub by_long : (names : List Text) (json : Bool) (name : Text) → find (λ (a : Rule). not (is_some a.index) && has_long a name) (map ready_option names ++ ready_flags json)
    ≡ cond (list_any (bytes_eq name) names) (Some (ready_option name)) (cond (json && bytes_eq name (codes "json")) (Some ready_flag) None)
by_long [] true name =
    ap (λ (t : Bool). cond (t || false) (Some ready_flag) None) (bytes_flip (codes "json") name)
    ∙ ap (λ (t : Bool). cond t (Some ready_flag) None) (or_false (bytes_eq name (codes "json")))
by_long [] false name = refl
by_long (first ∷ names) json name = go (bytes_eq name first) refl (by_long names json name)
  where
    rest : Option Rule
    rest = find (λ (a : Rule). not (is_some a.index) && has_long a name) (map ready_option names ++ ready_flags json)

    others : Option Rule
    others = cond (json && bytes_eq name (codes "json")) (Some ready_flag) None

    go : (test : Bool) → bytes_eq name first ≡ test → rest ≡ cond (list_any (bytes_eq name) names) (Some (ready_option name)) others
        → cond (bytes_eq first name || false) (Some (ready_option first)) rest ≡ cond (bytes_eq name first || list_any (bytes_eq name) names) (Some (ready_option name)) others
    go true e found =
        ap (λ (t : Bool). cond (t || false) (Some (ready_option first)) rest) (bytes_flip first name ∙ e)
        ∙ ap (λ (t : Text). Some (ready_option t)) (sym (bytes_same name first e))
        ∙ sym (ap (λ (t : Bool). cond (t || list_any (bytes_eq name) names) (Some (ready_option name)) others) e)
    go false e found =
        ap (λ (t : Bool). cond (t || false) (Some (ready_option first)) rest) (bytes_flip first name ∙ e)
        ∙ found
        ∙ sym (ap (λ (t : Bool). cond (t || list_any (bytes_eq name) names) (Some (ready_option name)) others) e)

-- by the id of an option
pub by_id : (names : List Text) (json : Bool) (name : Text) → list_any (bytes_eq name) names ≡ true → find (λ (a : Rule). bytes_eq a.id name) (map ready_option names ++ ready_flags json) ≡ Some (ready_option name)
by_id [] json name within = absurd cc
by_id (first ∷ names) json name within = go (bytes_eq name first) refl within (by_id names json name)
  where
    rest : Option Rule
    rest = find (λ (a : Rule). bytes_eq a.id name) (map ready_option names ++ ready_flags json)

    go : (test : Bool) → bytes_eq name first ≡ test → (bytes_eq name first || list_any (bytes_eq name) names) ≡ true → (list_any (bytes_eq name) names ≡ true → rest ≡ Some (ready_option name))
        → cond (bytes_eq first name) (Some (ready_option first)) rest ≡ Some (ready_option name)
    go true e listed found =
        ap (λ (t : Bool). cond t (Some (ready_option first)) rest) (bytes_flip first name ∙ e)
        ∙ ap (λ (t : Text). Some (ready_option t)) (sym (bytes_same name first e))
    go false e listed found =
        ap (λ (t : Bool). cond t (Some (ready_option first)) rest) (bytes_flip first name ∙ e)
        ∙ found (sym (ap (λ (t : Bool). t || list_any (bytes_eq name) names) e) ∙ listed)

-- no argument has a letter
pub by_letter : (names : List Text) (json : Bool) (letter : ℕ) → find (λ (a : Rule). not (is_some a.index) && has_short a letter) (map ready_option names ++ ready_flags json) ≡ None
by_letter [] true letter = refl
by_letter [] false letter = refl
by_letter (first ∷ names) json letter = by_letter names json letter

module _ (names : List Text) (json : Bool) (apart_of : Apart names) where
  pub found_option : (name : Text) → list_any (bytes_eq name) names ≡ true → arg_by_long (ready_rules names json) name ≡ Some (ready_option name)
  found_option name within = by_long names json name ∙ ap (λ (t : Bool). cond t (Some (ready_option name)) (cond (json && bytes_eq name (codes "json")) (Some ready_flag) None)) within

  pub found_other : (name : Text) → list_any (bytes_eq name) names ≡ false → arg_by_long (ready_rules names json) name ≡ cond (json && bytes_eq name (codes "json")) (Some ready_flag) None
  found_other name out = by_long names json name ∙ ap (λ (t : Bool). cond t (Some (ready_option name)) (cond (json && bytes_eq name (codes "json")) (Some ready_flag) None)) out

  pub found_flag : arg_by_long (ready_rules names json) (codes "json") ≡ cond json (Some ready_flag) None
  found_flag = found_other (codes "json") apart_of.json ∙ go json
    where
      go : (test : Bool) → cond (test && bytes_eq (codes "json") (codes "json")) (Some ready_flag) None ≡ cond test (Some ready_flag) None
      go true = refl
      go false = refl

  pub found_id : (name : Text) → list_any (bytes_eq name) names ≡ true → arg_by_id (ready_rules names json) name ≡ Some (ready_option name)
  found_id name within =
      ap (λ (t : Bool). cond t (Some ready_operands) (find (λ (a : Rule). bytes_eq a.id name) (map ready_option names ++ ready_flags json))) (apart_names names (codes "operands") name apart_of.operands within)
      ∙ by_id names json name within

  pub found_letter : (letter : ℕ) → arg_by_short (ready_rules names json) letter ≡ None
  found_letter letter = by_letter names json letter
