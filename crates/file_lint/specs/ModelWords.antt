-- The errors of a model's text: where each fault stands, and the words that tell it. They quote what stands there, and say what may.
use Rattle.std.specs.Prelude.{ℕ, ◌-◌, ◌||◌, Bool, false, List, [], ◌∷◌, ◌++◌, codes, decimal, drop, Option, Some, None, if◌then◌else◌}
use Rattle.std.specs.List.{after_first, list_any}
use Rattle.std.specs.Str.{bytes_eq}
use Rattle.matcher_read.specs.Calls.{arity, function_of}
use Rattle.matcher_read.specs.declared.fault.MatcherFault.{MatcherFault}
use Rattle.matcher_read.specs.declared.fault.MatcherFault.TheVariants as matcher
use Rattle.matcher_read.specs.declared.tree.Function.{Function}
use Rattle.model_conf.specs.Faults.{key_text}
use Rattle.model_conf.specs.declared.fault.ModelFault.{ModelFault}
use Rattle.model_conf.specs.declared.fault.ModelFault.TheVariants as fault
use Rattle.model_conf.specs.declared.key.Key.{Key}
use Rattle.model_conf.specs.declared.key.Key.TheVariants as k
use Rattle.text_parts.specs.Blanks.{behind_blanks, trimmed}
use Rattle.text_parts.specs.Lines.{has_byte}
use Rattle.text_parts.specs.Numbered.{Line}
use Rattle.file_lint.specs.Findings.{finding}
use Rattle.file_lint.specs.Hints.{begins_so, hint}
use Rattle.file_lint.specs.Mended.{relation_key, word_front}
use Rattle.file_lint.specs.ModelNames.{header_in, key_and_rest, lower_of, order_mark, section_of}
use Rattle.file_lint.specs.Near.{called_names, near_name, section_names}
use Rattle.file_lint.specs.Places.{place, file_lines, from_key, front_at, front_of, is_equals, key_in, line_at, place_of_value, rest_at}
use Rattle.file_lint.specs.Texts.{quoted}
use Rattle.file_lint.specs.declared.finding.Finding.{Finding}
use Rattle.file_lint.specs.declared.finding.Level.TheVariants.{Error}
use Rattle.file_lint.specs.declared.places.Place.{Place}

-- the byte of a matcher's text at which its fault stands, counted from 1; 0 where it is the fault of all of it
abbrev pub matcher_place : MatcherFault → ℕ
matcher_place matcher.TooLong = 0
matcher_place (matcher.Unexpected at) = at
matcher_place (matcher.OpenText at) = at
matcher_place (matcher.NumberTooWide at) = at
matcher_place (matcher.UnknownFunction at) = at
matcher_place (matcher.WrongArguments at) = at
matcher_place (matcher.TooDeep at) = at
matcher_place matcher.TooManyNodes = 0
matcher_place matcher.NoMemory = 0

-- where a fault of a model stands; a key that is missing stands nowhere, and is told at the front of the file
abbrev pub place_of : ModelFault → List ℕ → Place
place_of fault.TooLong bytes = place 1 1
place_of fault.NotUtf8 bytes = place 1 1
place_of (fault.Line number) bytes = front_of number bytes
place_of (fault.UnknownSection number) bytes = front_of number bytes
place_of (fault.UnknownKey number) bytes = front_of number bytes
place_of (fault.RepeatedKey number) bytes = front_of number bytes
place_of (fault.Missing key) bytes = place 1 1
place_of (fault.Columns key) bytes = place_of_value (key_text key) 0 bytes
place_of (fault.RoleShape number) bytes = place_of_value (relation_key number) 0 bytes
place_of fault.UnknownEffect bytes = place_of_value (codes "e") 0 bytes
place_of (fault.Matcher inner) bytes = place_of_value (codes "m") (matcher_place inner - 1) bytes
place_of (fault.UnknownColumn at) bytes = place_of_value (codes "m") (at - 1) bytes
place_of (fault.RoleUse at) bytes = place_of_value (codes "m") (at - 1) bytes
place_of fault.NoMemory bytes = place 1 1

abbrev pub mark_words : List ℕ
mark_words = codes "begins with a byte-order mark: take its three bytes away"

abbrev pub comment_words : List ℕ
comment_words = codes "a comment begins with `#`"

-- a line that is neither a header nor a key line, or a key before any section
abbrev pub line_words : List ℕ → List ℕ
line_words line =
    if begins_so order_mark line then mark_words
    else if begins_so (codes "//") (behind_blanks line) then comment_words
    else if has_byte 61 line then quoted (key_in line) ++ codes " stands before any section"
    else quoted (trimmed line) ++ codes " is neither `[section]` nor `key = value`"

-- what may stand there: the name that was nearly written, or all
abbrev pub or_near : List ℕ → Option (List ℕ) → List ℕ
or_near all None = all
or_near all (Some name) = codes ": did you mean " ++ name

abbrev pub section_words : List ℕ → List ℕ
section_words name =
    codes "unknown section " ++ quoted name
    ++ or_near (codes ": the sections are request_definition, policy_definition, role_definition, policy_effect, matchers") (near_name name section_names)

-- keys of models with several requests, policies, effects or matchers
abbrev pub is_of_second : List ℕ → Bool
is_of_second key = list_any (bytes_eq key) (codes "r2" ∷ codes "p2" ∷ codes "e2" ∷ codes "m2" ∷ [])

abbrev pub is_of_third : List ℕ → Bool
is_of_third key = list_any (bytes_eq key) (codes "r3" ∷ codes "p3" ∷ codes "e3" ∷ codes "m3" ∷ [])

abbrev pub is_second : List ℕ → Bool
is_second key = is_of_second key || is_of_third key

abbrev pub case_words : List ℕ → Option (List ℕ) → List ℕ
case_words key (Some lower) = codes "unknown key " ++ quoted key ++ codes ": keys are in lower case, write " ++ lower
case_words key None =
    if is_second key then codes "unknown key " ++ quoted key ++ codes ": a model has one r, one p, one e and one m"
    else codes "unknown key " ++ quoted key ++ codes ": r stands in [request_definition], p in [policy_definition], g to g8 in [role_definition], e in [policy_effect], m in [matchers]"

abbrev pub repeated_words : List ℕ → List ℕ
repeated_words key = quoted key ++ codes " stands here again: a model has each key once"

abbrev pub columns_words : Key → List ℕ
columns_words key = codes "the columns of " ++ key_text key ++ codes " are 1 to 32 different names of letters, digits and `_`, joined by commas"

abbrev pub shape_words : ℕ → List ℕ
shape_words number = relation_key number ++ codes " is `_, _`, or `_, _, _` with domains"

abbrev pub missing_words : Key → List ℕ
missing_words k.R = codes "r is missing: write `r = sub, obj, act` in [request_definition]"
missing_words k.P = codes "p is missing: write `p = sub, obj, act` in [policy_definition]"
missing_words k.E = codes "e is missing: write `e = some(where (p.eft == allow))` in [policy_effect]"
missing_words k.M = codes "m is missing: write `m = r.sub == p.sub && r.obj == p.obj && r.act == p.act` in [matchers]"

abbrev pub effect_words : List ℕ
effect_words =
    codes "unknown effect: write `some(where (p.eft == allow))`, `!some(where (p.eft == deny))`, `some(where (p.eft == allow)) && !some(where (p.eft == deny))`, "
    ++ codes "`priority(p.eft) || deny`, or `subjectPriority(p.eft) || deny` in a model with g, and a column dom where g has domains"

abbrev pub function_words : List ℕ → List ℕ
function_words name =
    codes "unknown function " ++ quoted name
    ++ or_near (codes ": the functions are keyMatch to keyMatch5, regexMatch, ipMatch, globMatch, keyGet to keyGet3") (near_name name called_names)

-- another number of arguments than a function, `eval` or a role relation takes
abbrev pub arguments_words : List ℕ → Option Function → List ℕ
arguments_words name (Some called) = name ++ codes " takes " ++ decimal (arity called) ++ codes " arguments"
arguments_words name None =
    if bytes_eq name (codes "eval") then codes "eval takes one column of p, as eval(p.rule)" else name ++ codes " takes 2 names, or 3 with a domain"

-- why a text is no matcher, by what stands in front of the place and from it on
abbrev pub matcher_words : MatcherFault → List ℕ → List ℕ → List ℕ
matcher_words matcher.TooLong before rest = codes "the matcher has more than 8192 bytes"
matcher_words (matcher.Unexpected at) before rest = hint before rest
matcher_words (matcher.OpenText at) before rest = codes "this quote is never closed"
matcher_words (matcher.NumberTooWide at) before rest = codes "the number is above 9223372036854775807"
matcher_words (matcher.UnknownFunction at) before rest = function_words (word_front rest)
matcher_words (matcher.WrongArguments at) before rest = arguments_words (word_front rest) (function_of (word_front rest))
matcher_words (matcher.TooDeep at) before rest = codes "more than 64 levels enclose this"
matcher_words matcher.TooManyNodes before rest = codes "the matcher has more than 1024 parts"
matcher_words matcher.NoMemory before rest = []

-- a column behind its key, by what stands behind its `.`
abbrev pub column_text : Key → List ℕ → List ℕ
column_text key rest = key_text key ++ codes "." ++ word_front rest

abbrev pub undeclared_words : Key → List ℕ → List ℕ
undeclared_words key rest = codes "\"" ++ column_text key rest ++ codes "\" is not declared in [" ++ section_of key ++ codes "]"

-- a column that is not declared, by the key before it and what stands behind its `.`; `eval` names its column itself
abbrev pub column_words : Option (Key × List ℕ) → List ℕ
column_words None = codes "the column that eval reads is not declared in [policy_definition]"
column_words (Some cut) = undeclared_words cut.0 cut.1

-- a role relation that is not declared, or asked with another number of names, by the lines from its key on
abbrev pub role_words : List ℕ → List Line → List ℕ
role_words name [] = name ++ codes " is not declared in [role_definition]"
role_words name (first ∷ others) =
    if begins_so (codes "_, _, _") (behind_blanks (after_first is_equals first.text)) then name ++ codes " takes 3 names, 2 stand here"
    else name ++ codes " takes 2 names, 3 stand here"

-- the words of a fault, by the line of its place, and what stands in this line in front of the place and from it on
abbrev pub fault_words : ModelFault → List ℕ → List ℕ → List ℕ → List ℕ → List ℕ
fault_words fault.TooLong bytes line before rest = codes "the model has more than 65536 bytes"
fault_words fault.NotUtf8 bytes line before rest = codes "not UTF-8"
fault_words (fault.Line number) bytes line before rest = line_words line
fault_words (fault.UnknownSection number) bytes line before rest = section_words (header_in line)
fault_words (fault.UnknownKey number) bytes line before rest = case_words (key_in line) (lower_of (key_in line))
fault_words (fault.RepeatedKey number) bytes line before rest = repeated_words (key_in line)
fault_words (fault.Missing key) bytes line before rest = missing_words key
fault_words (fault.Columns key) bytes line before rest = columns_words key
fault_words (fault.RoleShape number) bytes line before rest = shape_words number
fault_words fault.UnknownEffect bytes line before rest = effect_words
fault_words (fault.Matcher inner) bytes line before rest = matcher_words inner before rest
fault_words (fault.UnknownColumn at) bytes line before rest = column_words (key_and_rest rest)
fault_words (fault.RoleUse at) bytes line before rest = role_words (word_front rest) (from_key (word_front rest) false (file_lines bytes))
fault_words fault.NoMemory bytes line before rest = []

abbrev pub error_at : Place → List ℕ → Finding
error_at at words = finding at.line at.column Error words

-- the finding of a fault at a place of the text
abbrev pub told_at : ModelFault → List ℕ → Place → Finding
told_at why bytes at = error_at at (fault_words why bytes (line_at at.line (file_lines bytes)) (front_at at bytes) (rest_at at bytes))

-- the finding of a fault of a text
unfoldable pub error_of : ModelFault → List ℕ → Finding
error_of why bytes = told_at why bytes (place_of why bytes)
