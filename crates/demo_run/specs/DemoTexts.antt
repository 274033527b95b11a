-- The texts of the demonstration: a model with roles, a policy with as many permissions and users as is asked, and a script.
use Rattle.std.specs.Prelude.{ℕ, zero, suc, ◌%◌, ◌==◌, List, [], ◌++◌, codes, decimal, if◌then◌else◌}

abbrev pub model_text : List ℕ
model_text =
    codes "[request_definition]\nr = sub, obj, act\n[policy_definition]\np = sub, obj, act\n[role_definition]\ng = _, _\n"
    ++ codes "[policy_effect]\ne = some(where (p.eft == allow))\n[matchers]\nm = g(r.sub, p.sub) && r.obj == p.obj && r.act == p.act\n"

-- a line for each number below this one, in their order
abbrev pub lines_below : (ℕ → List ℕ) → ℕ → List ℕ
lines_below line zero = []
lines_below line (suc count) = lines_below line count ++ line count

-- there are ten roles
abbrev pub role_of : ℕ → List ℕ
role_of number = codes "role" ++ decimal (number % 10)

-- the part of a line that names a permission of a role, or of a user
abbrev pub to_read : ℕ → List ℕ
to_read number = codes ", data" ++ decimal number ++ codes ", read\n"

abbrev pub permission_line : ℕ → List ℕ
permission_line number = codes "p, " ++ role_of number ++ to_read number

abbrev pub user_line : ℕ → List ℕ
user_line number = codes "g, user" ++ decimal number ++ codes ", " ++ role_of number ++ codes "\n"

abbrev pub policy_text : ℕ → List ℕ
policy_text count = lines_below permission_line count ++ lines_below user_line count

-- ---- the script

abbrev pub ask_line : ℕ → List ℕ
ask_line number = codes "ask user" ++ decimal number ++ to_read number

abbrev pub remove_line : ℕ → List ℕ
remove_line number = codes "remove p, " ++ role_of number ++ to_read number

-- every third permission is removed, with a publish at every thirtieth, and every third user asks for one that stays
abbrev pub change_lines : ℕ → List ℕ
change_lines number =
    if number % 30 == 0 then remove_line number ++ codes "publish\n"
    else if number % 3 == 0 then remove_line number
    else if number % 3 == 1 then ask_line number
    else []

-- all users ask, beside changes some do, and then all do again
abbrev pub script_text : ℕ → List ℕ
script_text count = lines_below ask_line count ++ codes "sync\n" ++ lines_below change_lines count ++ codes "publish\nsync\n" ++ lines_below ask_line count
