-- The commands of the program, and what words ask for.
use Rattle.std.specs.Prelude.{ℕ, ◌&&◌, Bool, true, false, List, [], ◌∷◌, ◌++◌, Option, Some, None, option_map, codes, bytes_eq, if◌then◌else◌}
use Rattle.std.specs.List.{after_first, before_first, list_all, list_any}
use Rattle.std.specs.Option.{option_and_then}
use Rattle.perm_base.specs.declared.shapes.Fit.{Fit}
use Rattle.command_words.specs.Items.{Item, operand, flag, option, stray, are_different, is_dashes, is_same, items, operands, value_of}
use Rattle.command_words.specs.FileNames.{FileNames, SubjectName}
use Rattle.command_words.specs.Values.{fits_of, number_between}
use Rattle.command_words.specs.declared.command.Command.{Command}
use Rattle.command_words.specs.declared.command.Command.TheVariants as asked
use Rattle.command_words.specs.declared.command.Options.{Options}
use Rattle.command_words.specs.declared.kind.Kind.{Kind}
use Rattle.command_words.specs.declared.kind.Kind.TheVariants.{Enforce, Explain, Session, Check, Format, Implicit, Report, Ship, Follow, Lint, Demo}

-- the command of that name
abbrev pub kind_named : List ℕ → Option Kind
kind_named name =
    if bytes_eq name (codes "enforce") then Some Enforce
    else if bytes_eq name (codes "explain") then Some Explain
    else if bytes_eq name (codes "session") then Some Session
    else if bytes_eq name (codes "check") then Some Check
    else if bytes_eq name (codes "format") then Some Format
    else if bytes_eq name (codes "implicit") then Some Implicit
    else if bytes_eq name (codes "report") then Some Report
    else if bytes_eq name (codes "ship") then Some Ship
    else if bytes_eq name (codes "follow") then Some Follow
    else if bytes_eq name (codes "lint") then Some Lint
    else if bytes_eq name (codes "demo") then Some Demo
    else None

-- the options that say something of roles
abbrev pub role_options : List (List ℕ)
role_options = codes "limit" ∷ codes "match" ∷ codes "domain-match" ∷ []

-- the options that a command has
abbrev pub options_of : Kind → List (List ℕ)
options_of Enforce = codes "cache" ∷ role_options
options_of Explain = codes "most" ∷ role_options
options_of Session = codes "workers" ∷ role_options
options_of Check = []
options_of Format = []
options_of Implicit = role_options
options_of Report = role_options
options_of Ship = role_options
options_of Follow = role_options
options_of Lint = role_options
options_of Demo = codes "workers" ∷ []

-- whether it has the flag
abbrev pub has_json : Kind → Bool
has_json Enforce = true
has_json Explain = true
has_json Session = true
has_json Check = false
has_json Format = false
has_json Implicit = false
has_json Report = false
has_json Ship = false
has_json Follow = false
has_json Lint = false
has_json Demo = false

-- whether it takes the item
abbrev pub takes : Kind → Item → Bool
takes kind (operand word) = true
takes kind flag = has_json kind
takes kind (option name value) = list_any (bytes_eq name) (options_of kind)
takes kind stray = false

-- what the value of an option says; the default where there is none
abbrev pub value_or : {X : Type 0} → X → (List ℕ → Option X) → Option (List ℕ) → Option X
value_or default says None = Some default
value_or default says (Some value) = says value

-- `--workers`: 0 to 8, and 0 unless it is told
abbrev pub workers_in : List Item → Option ℕ
workers_in items = value_or 0 (number_between 3 0 8) (value_of (codes "workers") items)

-- `--cache`: 1 to 10,000, and none unless it is told
abbrev pub cache_in : List Item → Option (Option ℕ)
cache_in items = value_or None (λ text. option_map (λ count. Some count) (number_between 5 1 10000 text)) (value_of (codes "cache") items)

-- `--most`: 1 to 1,000, and 10 unless it is told
abbrev pub most_in : List Item → Option ℕ
most_in items = value_or 10 (number_between 4 1 1000) (value_of (codes "most") items)

-- `--limit`: 1 to 250, and 10 unless it is told
abbrev pub limit_in : List Item → Option ℕ
limit_in items = value_or 10 (number_between 3 1 250) (value_of (codes "limit") items)

-- the list of that name, empty unless it is told
abbrev pub fits_at : List ℕ → List Item → Option (List (ℕ × Fit))
fits_at name items = value_or [] fits_of (value_of name items)

-- all of these
abbrev pub options_with : Option ℕ → Option (List (ℕ × Fit)) → Option (List (ℕ × Fit)) → Option Options
options_with (Some limit) (Some names) (Some domains) = Some (record { limit = limit; names = names; domains = domains })
options_with _ _ _ = None

-- what is said of roles: the limit, `--match` for names, and `--domain-match` for domains
abbrev pub options_in : List Item → Option Options
options_in items = options_with (limit_in items) (fits_at (codes "match") items) (fits_at (codes "domain-match") items)

-- two operands name the files
abbrev pub files_of : List (List ℕ) → Option FileNames
files_of (model ∷ policy ∷ []) = Some (record { model = model; policy = policy })
files_of _ = None

-- the first two operands name the files
abbrev pub first_files : List (List ℕ) → Option FileNames
first_files (model ∷ policy ∷ others) = Some (record { model = model; policy = policy })
first_files _ = None

-- a third operand is a name, and a fourth is its domain
abbrev pub subject_of : List (List ℕ) → Option SubjectName
subject_of (model ∷ policy ∷ name ∷ []) = Some (record { name = name; domain = None })
subject_of (model ∷ policy ∷ name ∷ domain ∷ []) = Some (record { name = name; domain = Some domain })
subject_of _ = None

-- one operand is the size, from 1 to 100,000
abbrev pub count_of : List (List ℕ) → Option ℕ
count_of (count ∷ []) = number_between 6 1 100000 count
count_of _ = None

-- the commands, where all that they hold is there
abbrev pub enforcing : Bool → Option FileNames → Option Options → Option (Option ℕ) → Option Command
enforcing json (Some files) (Some options) (Some cache) = Some (asked.Enforce files options json cache)
enforcing _ _ _ _ = None

abbrev pub explaining : Bool → Option FileNames → Option Options → Option ℕ → Option Command
explaining json (Some files) (Some options) (Some most) = Some (asked.Explain files options json most)
explaining _ _ _ _ = None

abbrev pub serving : Bool → Option FileNames → Option Options → Option ℕ → Option Command
serving json (Some files) (Some options) (Some workers) = Some (asked.Session files options json workers)
serving _ _ _ _ = None

abbrev pub implying : Option FileNames → Option SubjectName → Option Options → Option Command
implying (Some files) (Some subject) (Some options) = Some (asked.Implicit files subject options)
implying _ _ _ = None

abbrev pub on_files : (FileNames → Options → Command) → Option FileNames → Option Options → Option Command
on_files make (Some files) (Some options) = Some (make files options)
on_files make _ _ = None

abbrev pub showing : Option ℕ → Option ℕ → Option Command
showing (Some count) (Some workers) = Some (asked.Demo count workers)
showing _ _ = None

-- the command's operands are files, but for `implicit MODEL POLICY NAME [DOMAIN]` and `demo N`; its options stand among the items
abbrev pub command_with : Kind → List Item → List (List ℕ) → Option Command
command_with Enforce items operands = enforcing (list_any (is_same flag) items) (files_of operands) (options_in items) (cache_in items)
command_with Explain items operands = explaining (list_any (is_same flag) items) (files_of operands) (options_in items) (most_in items)
command_with Session items operands = serving (list_any (is_same flag) items) (files_of operands) (options_in items) (workers_in items)
command_with Check items operands = option_map asked.Check (files_of operands)
command_with Format items operands = option_map asked.Format (files_of operands)
command_with Implicit items operands = implying (first_files operands) (subject_of operands) (options_in items)
command_with Report items operands = on_files asked.Report (files_of operands) (options_in items)
command_with Ship items operands = on_files asked.Ship (files_of operands) (options_in items)
command_with Follow items operands = on_files asked.Follow (files_of operands) (options_in items)
command_with Lint items operands = on_files asked.Lint (files_of operands) (options_in items)
command_with Demo items operands = showing (count_of operands) (workers_in items)

-- by the items before the first `--` and the words behind it: the command takes each item, and none stands twice
abbrev pub command_from : Kind → List Item → List (List ℕ) → Option Command
command_from kind items others = if list_all (takes kind) items && are_different items then command_with kind items (operands items ++ others) else None

-- what the words ask for, where they are a command
abbrev pub command_of : List (List ℕ) → Option Command
command_of [] = None
command_of (name ∷ words) = option_and_then (λ (kind : Kind). command_from kind (items (before_first is_dashes words)) (after_first is_dashes words)) (kind_named name)
