-- What `clap` reads of the commands, and what is looked up in its matches.
use Rattle.std.specs.Prelude.{ℕ, ◌++◌, Bool, true, false, List, [], ◌∷◌, map, Option, Some, None, option_map, unwrap_or, codes}
use Rattle.clap.specs.Words.{App, Rule, first_value, matched_of, new_rule, raw_values, with_rule}
use Rattle.clap.specs.Simple.{new_shape}
use Rattle.clap.specs.declared.builder.action.ArgAction.TheVariants.{Append, SetTrue}
use Rattle.clap.specs.declared.parser.matches.Found.{Found}
use Rattle.perm_base.specs.declared.shapes.Fit.{Fit}
use Rattle.command_words.specs.Commands.{count_of, enforcing, explaining, files_of, first_files, has_json, implying, on_files, options_of, options_with, serving, showing, subject_of, value_or}
use Rattle.command_words.specs.Values.{fits_of, number_between}
use Rattle.command_words.specs.declared.command.Command.{Command}
use Rattle.command_words.specs.declared.command.Command.TheVariants as asked
use Rattle.command_words.specs.declared.command.Options.{Options}
use Rattle.command_words.specs.declared.kind.Kind.{Kind}
use Rattle.command_words.specs.declared.kind.Kind.TheVariants.{Enforce, Explain, Session, Check, Format, Implicit, Report, Ship, Follow, Lint, Demo}

-- the operands, however many; an option of one value; the flag
abbrev pub operands_rule : Rule
operands_rule = record (new_rule (codes "operands")) { action = Some Append }

abbrev pub option_rule : List ℕ → Rule
option_rule name = record (new_rule name) { long = Some name }

abbrev pub flag_rule : Rule
flag_rule = record (new_rule (codes "json")) { long = Some (codes "json"); action = Some SetTrue }

abbrev pub flag_rules : Bool → List Rule
flag_rules true = flag_rule ∷ []
flag_rules false = []

-- a command of these arguments, whose words begin behind its name, and of which no help is asked
abbrev pub app_of_rules : List Rule → App
app_of_rules rules = record {
  top = record (new_shape (codes "casbin_cli")) {
    rules = rules;
    no_binary_name = true;
    disable_help_flag = true;
  };
  subs = [];
}

-- a command that takes operands alone
abbrev pub bare_app : App
bare_app = app_of_rules (operands_rule ∷ [])

-- with options besides
abbrev pub with_options : App → List (List ℕ) → App
with_options app [] = app
with_options app (name ∷ names) = with_options (with_rule app (option_rule name)) names

-- the command of that kind
abbrev pub app_for : Kind → App
app_for kind = app_of_rules (operands_rule ∷ (map option_rule (options_of kind) ++ flag_rules (has_json kind)))

-- ---- what the matches tell

abbrev pub operands_told : Found → List (List ℕ)
operands_told found = unwrap_or (option_map raw_values (matched_of found (codes "operands"))) []

abbrev pub limit_told : Found → Option ℕ
limit_told found = value_or 10 (number_between 3 1 250) (first_value found (codes "limit"))

abbrev pub workers_told : Found → Option ℕ
workers_told found = value_or 0 (number_between 3 0 8) (first_value found (codes "workers"))

abbrev pub cache_told : Found → Option (Option ℕ)
cache_told found = value_or None (λ text. option_map (λ count. Some count) (number_between 5 1 10000 text)) (first_value found (codes "cache"))

abbrev pub most_told : Found → Option ℕ
most_told found = value_or 10 (number_between 4 1 1000) (first_value found (codes "most"))

abbrev pub fits_told : List ℕ → Found → Option (List (ℕ × Fit))
fits_told name found = value_or [] fits_of (first_value found name)

abbrev pub options_told : Found → Option Options
options_told found = options_with (limit_told found) (fits_told (codes "match") found) (fits_told (codes "domain-match") found)

-- the command that they tell, by its kind; `json` is what its flag says
abbrev pub command_told : Kind → Bool → Found → Option Command
command_told Enforce json found = enforcing json (files_of (operands_told found)) (options_told found) (cache_told found)
command_told Explain json found = explaining json (files_of (operands_told found)) (options_told found) (most_told found)
command_told Session json found = serving json (files_of (operands_told found)) (options_told found) (workers_told found)
command_told Check json found = option_map asked.Check (files_of (operands_told found))
command_told Format json found = option_map asked.Format (files_of (operands_told found))
command_told Implicit json found = implying (first_files (operands_told found)) (subject_of (operands_told found)) (options_told found)
command_told Report json found = on_files asked.Report (files_of (operands_told found)) (options_told found)
command_told Ship json found = on_files asked.Ship (files_of (operands_told found)) (options_told found)
command_told Follow json found = on_files asked.Follow (files_of (operands_told found)) (options_told found)
command_told Lint json found = on_files asked.Lint (files_of (operands_told found)) (options_told found)
command_told Demo json found = showing (count_of (operands_told found)) (workers_told found)
