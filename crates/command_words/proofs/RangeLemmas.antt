-- The ranges of the numbers that a command holds.
use Rattle.std.proofs.Common.{◌≡◌, ℕ, ◌<◌, ◌≤◌, ◌&&◌, Bool, true, false, cond, List, [], ◌∷◌, ◌++◌, Option, Some, None, codes, nat_le, option_map, refl, subst, arith}
use Rattle.std.proofs.lemmas.Bool.{and_parts, leb-true}
use Rattle.std.proofs.lemmas.Option.{option_and_then_some}
use Rattle.std.specs.List.{after_first, before_first}
use Rattle.std.specs.Str.Parse.{digits_value}
use Rattle.perm_base.specs.declared.shapes.Fit.{Fit}
use Rattle.command_words.specs.Commands.{cache_in, command_of, command_with, count_of, enforcing, explaining, implying, kind_named, limit_in, most_in, on_files, options_with, serving, showing, value_or, workers_in}
use Rattle.command_words.specs.FileNames.{FileNames, SubjectName}
use Rattle.command_words.specs.Items.{Item, is_dashes, items, operands, value_of}
use Rattle.command_words.specs.Values.{is_numeral, is_within, number_between}
use Rattle.command_words.specs.declared.command.Command.{Command}
use Rattle.command_words.specs.declared.command.Options.{Options}
use Rattle.command_words.specs.declared.command.Command.TheVariants.{Enforce, Explain, Session, Check, Format, Implicit, Report, Ship, Follow, Lint, Demo}
use Rattle.command_words.specs.declared.kind.Kind.{Kind}
use Rattle.command_words.specs.declared.kind.Kind.TheVariants as kind

-- the size of a cache is from 1 to 10,000, where it is told
abbrev pub CacheHas : Option ℕ → Type 0
CacheHas None = Unit {0}
CacheHas (Some size) = (0 < size) × (size ≤ 10000)

-- a limit is from 1 to 250, workers are at most 8, and a count is from 1 to 100,000
abbrev pub HasRanges : Command → Type 0
HasRanges (Enforce files options json cache) = (0 < options.limit) × (options.limit ≤ 250) × CacheHas cache
HasRanges (Explain files options json most) = (0 < options.limit) × (options.limit ≤ 250) × ((0 < most) × (most ≤ 1000))
HasRanges (Session files options json workers) = (0 < options.limit) × (options.limit ≤ 250) × (workers ≤ 8)
HasRanges (Check files) = Unit {0}
HasRanges (Format files) = Unit {0}
HasRanges (Implicit files subject options) = (0 < options.limit) × (options.limit ≤ 250)
HasRanges (Report files options) = (0 < options.limit) × (options.limit ≤ 250)
HasRanges (Ship files options) = (0 < options.limit) × (options.limit ≤ 250)
HasRanges (Follow files options) = (0 < options.limit) × (options.limit ≤ 250)
HasRanges (Lint files options) = (0 < options.limit) × (options.limit ≤ 250)
HasRanges (Demo count workers) = (0 < count) × (count ≤ 100000) × (workers ≤ 8)

number_within : (digits least most : ℕ) (text : List ℕ) (number : ℕ) → number_between digits least most text ≡ Some number → (least ≤ number) × (number ≤ most)
number_within digits least most text number is = by_tests (is_numeral digits text) (is_within least most (digits_value 10 text)) refl is
  where
    by_tests : (numeral within : Bool) → is_within least most (digits_value 10 text) ≡ within → cond (numeral && within) (Some (digits_value 10 text)) None ≡ Some number → (least ≤ number) × (number ≤ most)
    by_tests true true e found =
        let both = and_parts (nat_le least (digits_value 10 text)) (nat_le (digits_value 10 text) most) e in
        let same : digits_value 10 text ≡ number = cc in
        (omega (arith, leb-true least (digits_value 10 text) both.0), omega (arith, leb-true (digits_value 10 text) most both.1))
    by_tests true false e found = absurd cc
    by_tests false within e found = absurd cc

value_within : (default digits least most : ℕ) (value : Option (List ℕ)) (number : ℕ) → (least ≤ default) × (default ≤ most) → value_or default (number_between digits least most) value ≡ Some number → (least ≤ number) × (number ≤ most)
value_within default digits least most None number within is = let same : default ≡ number = cc in omega arith
value_within default digits least most (Some text) number within is = number_within digits least most text number is

limit_within : (items : List Item) (limit : ℕ) → limit_in items ≡ Some limit → (0 < limit) × (limit ≤ 250)
limit_within items limit is =
    let within = value_within 10 3 1 250 (value_of (codes "limit") items) limit (omega arith, omega arith) is in
    (omega (arith, within.0), within.1)

most_within : (items : List Item) (most : ℕ) → most_in items ≡ Some most → (0 < most) × (most ≤ 1000)
most_within items most is =
    let within = value_within 10 4 1 1000 (value_of (codes "most") items) most (omega arith, omega arith) is in
    (omega (arith, within.0), within.1)

workers_within : (items : List Item) (workers : ℕ) → workers_in items ≡ Some workers → workers ≤ 8
workers_within items workers is = (value_within 0 3 0 8 (value_of (codes "workers") items) workers (omega arith, omega arith) is).1

count_within : (words : List (List ℕ)) (count : ℕ) → count_of words ≡ Some count → (0 < count) × (count ≤ 100000)
count_within [] count is = absurd cc
count_within (word ∷ []) count is =
    let within = number_within 6 1 100000 word count is in
    (omega (arith, within.0), within.1)
count_within (word ∷ next ∷ words) count is = absurd cc

-- the size that a value tells, and none where there is no value
cached_within : (value : Option (List ℕ)) (cache : Option ℕ) → value_or None (λ text. option_map (λ count. Some count) (number_between 5 1 10000 text)) value ≡ Some cache → CacheHas cache
cached_within None cache is = let same : ◌≡◌ {A = Option ℕ} None cache = cc in subst CacheHas same tt
cached_within (Some text) cache is = by (number_between 5 1 10000 text) refl is
  where
    by : (number : Option ℕ) → number_between 5 1 10000 text ≡ number → option_map (λ count. Some count) number ≡ Some cache → CacheHas cache
    by None e found = absurd cc
    by (Some size) e found =
        let same : ◌≡◌ {A = Option ℕ} (Some size) cache = cc in
        let within = number_within 5 1 10000 text size e in
        subst CacheHas same (omega (arith, within.0), within.1)

cache_within : (items : List Item) (cache : Option ℕ) → cache_in items ≡ Some cache → CacheHas cache
cache_within items cache is = cached_within (value_of (codes "cache") items) cache is

enforce_within : (json : Bool) (files : Option FileNames) (limit : Option ℕ) (names domains : Option (List (ℕ × Fit))) (cache : Option (Option ℕ)) (command : Command) → ((n : ℕ) → limit ≡ Some n → (0 < n) × (n ≤ 250)) → ((c : Option ℕ) → cache ≡ Some c → CacheHas c)
    → enforcing json files (options_with limit names domains) cache ≡ Some command → HasRanges command
enforce_within json (Some files) (Some limit) (Some names) (Some domains) (Some cache) command small few is =
    let same : Enforce files (record { limit = limit; names = names; domains = domains }) json cache ≡ command = cc in
    let within = small limit refl in
    subst HasRanges same (within.0, within.1, few cache refl)
enforce_within _ _ _ _ _ _ _ _ _ is = absurd cc

explain_within : (json : Bool) (files : Option FileNames) (limit : Option ℕ) (names domains : Option (List (ℕ × Fit))) (most : Option ℕ) (command : Command) → ((n : ℕ) → limit ≡ Some n → (0 < n) × (n ≤ 250)) → ((n : ℕ) → most ≡ Some n → (0 < n) × (n ≤ 1000))
    → explaining json files (options_with limit names domains) most ≡ Some command → HasRanges command
explain_within json (Some files) (Some limit) (Some names) (Some domains) (Some most) command small few is =
    let same : Explain files (record { limit = limit; names = names; domains = domains }) json most ≡ command = cc in
    let within = small limit refl in
    subst HasRanges same (within.0, within.1, few most refl)
explain_within _ _ _ _ _ _ _ _ _ is = absurd cc

session_within : (json : Bool) (files : Option FileNames) (limit : Option ℕ) (names domains : Option (List (ℕ × Fit))) (workers : Option ℕ) (command : Command) → ((n : ℕ) → limit ≡ Some n → (0 < n) × (n ≤ 250)) → ((n : ℕ) → workers ≡ Some n → n ≤ 8)
    → serving json files (options_with limit names domains) workers ≡ Some command → HasRanges command
session_within json (Some files) (Some limit) (Some names) (Some domains) (Some workers) command small few is =
    let same : Session files (record { limit = limit; names = names; domains = domains }) json workers ≡ command = cc in
    let within = small limit refl in
    subst HasRanges same (within.0, within.1, few workers refl)
session_within _ _ _ _ _ _ _ _ _ is = absurd cc

implicit_within : (files : Option FileNames) (subject : Option SubjectName) (limit : Option ℕ) (names domains : Option (List (ℕ × Fit))) (command : Command) → ((n : ℕ) → limit ≡ Some n → (0 < n) × (n ≤ 250)) → implying files subject (options_with limit names domains) ≡ Some command → HasRanges command
implicit_within (Some files) (Some subject) (Some limit) (Some names) (Some domains) command small is =
    let same : Implicit files subject (record { limit = limit; names = names; domains = domains }) ≡ command = cc in
    subst HasRanges same (small limit refl)
implicit_within _ _ _ _ _ _ _ is = absurd cc

-- a command that is its files and its options
files_within : (make : FileNames → Options → Command) → ((files : FileNames) (options : Options) → (0 < options.limit) × (options.limit ≤ 250) → HasRanges (make files options))
    → (files : Option FileNames) (limit : Option ℕ) (names domains : Option (List (ℕ × Fit))) (command : Command) → ((n : ℕ) → limit ≡ Some n → (0 < n) × (n ≤ 250)) → on_files make files (options_with limit names domains) ≡ Some command → HasRanges command
files_within make has (Some files) (Some limit) (Some names) (Some domains) command small is =
    let options : Options = record { limit = limit; names = names; domains = domains } in
    let same : make files options ≡ command = cc in
    subst HasRanges same (has files options (small limit refl))
files_within make has _ _ _ _ _ _ is = absurd cc

demo_within : (count workers : Option ℕ) (command : Command) → ((n : ℕ) → count ≡ Some n → (0 < n) × (n ≤ 100000)) → ((n : ℕ) → workers ≡ Some n → n ≤ 8) → showing count workers ≡ Some command → HasRanges command
demo_within (Some count) (Some workers) command small few is =
    let same : Demo count workers ≡ command = cc in
    let within = small count refl in
    subst HasRanges same (within.0, within.1, few workers refl)
demo_within _ _ _ _ _ is = absurd cc

check_within : (files : Option FileNames) (command : Command) → option_map Check files ≡ Some command → HasRanges command
check_within None command is = absurd cc
check_within (Some files) command is = let same : Check files ≡ command = cc in subst HasRanges same tt

format_within : (files : Option FileNames) (command : Command) → option_map Format files ≡ Some command → HasRanges command
format_within None command is = absurd cc
format_within (Some files) command is = let same : Format files ≡ command = cc in subst HasRanges same tt

command_within : (which : Kind) (items : List Item) (words : List (List ℕ)) (command : Command) → command_with which items words ≡ Some command → HasRanges command
command_within kind.Enforce items words command is = enforce_within _ _ (limit_in items) _ _ (cache_in items) command (limit_within items) (cache_within items) is
command_within kind.Explain items words command is = explain_within _ _ (limit_in items) _ _ (most_in items) command (limit_within items) (most_within items) is
command_within kind.Session items words command is = session_within _ _ (limit_in items) _ _ (workers_in items) command (limit_within items) (workers_within items) is
command_within kind.Check items words command is = check_within _ command is
command_within kind.Format items words command is = format_within _ command is
command_within kind.Implicit items words command is = implicit_within _ _ (limit_in items) _ _ command (limit_within items) is
command_within kind.Report items words command is = files_within Report (λ files options has. has) _ (limit_in items) _ _ command (limit_within items) is
command_within kind.Ship items words command is = files_within Ship (λ files options has. has) _ (limit_in items) _ _ command (limit_within items) is
command_within kind.Follow items words command is = files_within Follow (λ files options has. has) _ (limit_in items) _ _ command (limit_within items) is
command_within kind.Lint items words command is = files_within Lint (λ files options has. has) _ (limit_in items) _ _ command (limit_within items) is
command_within kind.Demo items words command is = demo_within (count_of words) (workers_in items) command (count_within words) (workers_within items) is

taken_within : (which : Kind) (items : List Item) (others : List (List ℕ)) (command : Command) (taken : Bool) → cond taken (command_with which items (operands items ++ others)) None ≡ Some command → HasRanges command
taken_within which items others command true is = command_within which items (operands items ++ others) command is
taken_within which items others command false is = absurd cc

-- what words ask for
pub command_of-ranges : (words : List (List ℕ)) (command : Command) → command_of words ≡ Some command → HasRanges command
command_of-ranges [] command is = absurd cc
command_of-ranges (name ∷ words) command is =
    option_and_then_some _ (kind_named name) command is (λ which named made.
    taken_within which (items (before_first is_dashes words)) (after_first is_dashes words) command _ made)
