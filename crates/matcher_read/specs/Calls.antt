-- The functions of matchers and the numbers of their arguments (Casbin, functions in matchers; role relations).
use Rattle.std.specs.Prelude.{ℕ, ◌+◌, ◌==◌, ◌||◌, Bool, true, false, List, [], ◌∷◌, Option, Some, None, codes, find, position}
use Rattle.std.specs.Str.{bytes_eq}
use Rattle.matcher_read.specs.Expression.{Callee, function, relation, unknown}
use Rattle.matcher_read.specs.Tokens.{is_eval_name}
use Rattle.matcher_read.specs.declared.tree.Function.{Function}
use Rattle.matcher_read.specs.declared.tree.Function.TheVariants as f

-- how each function is written, and how many arguments it takes
abbrev pub written : Function → List ℕ × ℕ
written f.KeyMatch = (codes "keyMatch", 2)
written f.KeyMatch2 = (codes "keyMatch2", 2)
written f.KeyMatch3 = (codes "keyMatch3", 2)
written f.KeyMatch4 = (codes "keyMatch4", 2)
written f.KeyMatch5 = (codes "keyMatch5", 2)
written f.RegexMatch = (codes "regexMatch", 2)
written f.IpMatch = (codes "ipMatch", 2)
written f.GlobMatch = (codes "globMatch", 2)
written f.KeyGet = (codes "keyGet", 2)
written f.KeyGet2 = (codes "keyGet2", 3)
written f.KeyGet3 = (codes "keyGet3", 3)

-- all functions
abbrev pub functions : List Function
functions = f.KeyMatch ∷ f.KeyMatch2 ∷ f.KeyMatch3 ∷ f.KeyMatch4 ∷ f.KeyMatch5 ∷ f.RegexMatch ∷ f.IpMatch ∷ f.GlobMatch ∷ f.KeyGet ∷ f.KeyGet2 ∷ f.KeyGet3 ∷ []

-- how a function is written
abbrev pub name_of : Function → List ℕ
name_of called = (written called).0

-- how many arguments a function takes
abbrev pub arity : Function → ℕ
arity called = (written called).1

-- the function of a name
abbrev pub function_of : List ℕ → Option Function
function_of name = find (λ found. bytes_eq name (name_of found)) functions

-- the names of the role relations 1 to 8
abbrev pub relation_names : List (List ℕ)
relation_names = codes "g" ∷ codes "g2" ∷ codes "g3" ∷ codes "g4" ∷ codes "g5" ∷ codes "g6" ∷ codes "g7" ∷ codes "g8" ∷ []

-- a role relation by its place among the names, or a name that is none
abbrev pub relation_at : List ℕ → Option ℕ → Callee
relation_at part (Some place) = relation (place + 1)
relation_at part None = unknown (part ∷ [])

-- a function, or else what the name is
abbrev pub function_or : List ℕ → Option Function → Callee
function_or part (Some found) = function found
function_or part None = relation_at part (position (bytes_eq part) relation_names)

-- what a name calls
abbrev pub callee_of : List (List ℕ) → Callee
callee_of [] = unknown []
callee_of (part ∷ []) = function_or part (function_of part)
callee_of (part ∷ next ∷ parts) = unknown (part ∷ next ∷ parts)

-- it is a function or a relation, or `eval`, which takes no list of arguments
abbrev pub is_known : Callee → Bool
is_known (function called) = true
is_known (relation number) = true
is_known (unknown parts) = is_eval_name parts

-- it takes so many arguments; a role relation is asked with two names, or with two and a domain
abbrev pub takes : Callee → ℕ → Bool
takes (function called) given = given == arity called
takes (relation number) given = given == 2 || given == 3
takes (unknown parts) given = false
