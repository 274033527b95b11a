-- Rows of one user that are taken out at once, and texts as often as they are counted.
use Rattle.std.proofs.Common.{◌≡◌, ◌⊎◌, inl, inr, ◌<◌, ◌≤◌, ◌+◌, ◌-◌, ◌++◌, ◌∷◌, ℕ, zero, suc, Bool, true, false, ◌&&◌, cond, List, [], length, get_or, set, take, drop, refl, sym, ap, ◌∙◌, arith, take-append-drop, get_or-set_other}
use Rattle.std.specs.List.{Contains, count_by, swap_remove}
use Rattle.std.specs.Str.{bytes_eq}
use Rattle.std.proofs.lemmas.Bool.{cases_Bool, cases_eq}
use Rattle.std.proofs.lemmas.List.{get_or-take, get_or_default, length-set, length-take-le, take_all, take_more}
use Rattle.std.proofs.lemmas.List.Sums.{count_by-le-length, sum_by-swap_remove}
use Rattle.policy_table.specs.Tables.{Fields, same}
use Rattle.role_meaning.specs.Links.{role_of, user_of}
use Rattle.role_graph.specs.Groups.{Group, times}
use Rattle.role_graph.specs.Helps.Edits.{IsRun, counted_rows, overlay, standing}
use Rattle.role_graph.specs.Helps.Kept.{Parts, roles_in}
use Rattle.role_graph.specs.Helps.Roles.{Counted, count_of}
use Rattle.role_graph.proofs.CommitLemmas.{counted_stands}
use Rattle.role_graph.proofs.CountLemmas.{times_both}
use Rattle.role_graph.proofs.EditLemmas.{Gives, no_other, once, this_role, times_more}
use Rattle.role_graph.proofs.PutLemmas.{same_text, text_itself}

-- ---- rows that are counted

short : (test : Bool) → (test && false) ≡ false
short true = refl
short false = refl

long : (test next : Bool) → (test && (next && false)) ≡ false
long true true = refl
long true false = refl
long false next = refl

-- no role is counted
pub counted_nowhere : (user : List ℕ) (counted : Counted) → ((role : List ℕ) → count_of counted role ≡ 0) → (one : Fields) → counted_rows user counted one ≡ 0
counted_nowhere user counted none [] = refl
counted_nowhere user counted none (a ∷ []) = refl
counted_nowhere user counted none (a ∷ b ∷ []) = by (bytes_eq a user)
  where
    by : (test : Bool) → cond test (count_of counted b) 0 ≡ 0
    by true = none b
    by false = refl
counted_nowhere user counted none (a ∷ b ∷ c ∷ rest) = refl

-- one role is counted once more
counted_more : (user role : List ℕ) (old new : Counted) → ((name : List ℕ) → count_of new name ≡ count_of old name + cond (bytes_eq name role) 1 0) → (one : Fields) → counted_rows user new one ≡ counted_rows user old one + once (same one (user ∷ role ∷ []))
counted_more user role old new more [] = omega arith
counted_more user role old new more (a ∷ []) = ap (λ (test : Bool). 0 + once test) (sym (short (bytes_eq a user)))
counted_more user role old new more (a ∷ b ∷ []) = by (cases_Bool (bytes_eq a user))
  where
    by : (bytes_eq a user ≡ true) ⊎ (bytes_eq a user ≡ false) → counted_rows user new (a ∷ b ∷ []) ≡ counted_rows user old (a ∷ b ∷ []) + once (same (a ∷ b ∷ []) (user ∷ role ∷ []))
    by (inl equal) =
        ap (λ (test : Bool). cond test (count_of new b) 0) equal ∙ more b
        ∙ ap (λ (n : ℕ). n + once (bytes_eq b role)) (sym (ap (λ (test : Bool). cond test (count_of old b) 0) equal))
        ∙ ap (λ (n : ℕ). counted_rows user old (a ∷ b ∷ []) + n) (sym (this_role a b user role equal))
    by (inr differ) =
        let before : counted_rows user old (a ∷ b ∷ []) ≡ 0 = ap (λ (test : Bool). cond test (count_of old b) 0) differ in
        let after : counted_rows user new (a ∷ b ∷ []) ≡ 0 = ap (λ (test : Bool). cond test (count_of new b) 0) differ in
        let none : once (same (a ∷ b ∷ []) (user ∷ role ∷ [])) ≡ 0 = no_other a b user role differ in
        omega (arith, before, after, none)
counted_more user role old new more (a ∷ b ∷ c ∷ rest) = ap (λ (test : Bool). 0 + once test) (sym (long (bytes_eq a user) (bytes_eq b role)))

-- so is the row at a place
pub counted_step : (rows : List Fields) (at : ℕ) (user role : List ℕ) (old new : Counted) → at < length rows → get_or rows at [] ≡ user ∷ role ∷ [] → ((name : List ℕ) → count_of new name ≡ count_of old name + cond (bytes_eq name role) 1 0)
    → (one : Fields) → times one (take (at + 1) rows) + counted_rows user old one ≡ times one (take at rows) + counted_rows user new one
counted_step rows at user role old new within is more one =
    let longer : times one (take (at + 1) rows) ≡ times one (take at rows) + once (same one (user ∷ role ∷ [])) =
    ap (times one) (take_more rows at [] within ∙ ap (λ (row : Fields). take at rows ++ row ∷ []) is) ∙ times_more one (user ∷ role ∷ []) (take at rows) in
    let counted = counted_more user role old new more one in
    omega (arith, longer, counted)

-- a row of a user and a role
pub user_and_role : (row : Fields) (user role : List ℕ) → length row ≡ 2 → user_of row ≡ user → role_of row ≡ role → row ≡ user ∷ role ∷ []
user_and_role [] user role two bytes_eq is_role = absurd (omega (arith, two))
user_and_role (a ∷ []) user role two bytes_eq is_role = absurd (omega (arith, two))
user_and_role (a ∷ b ∷ []) user role two bytes_eq is_role = ap (λ (u : List ℕ). u ∷ b ∷ []) bytes_eq ∙ ap (λ (r : List ℕ). user ∷ r ∷ []) is_role
user_and_role (a ∷ b ∷ c ∷ rest) user role two bytes_eq is_role = absurd (omega (arith, two))

-- ---- runs

-- what is counted from one place to another
pub record IsCounting (user : List ℕ) (rows : List Fields) (from at : ℕ) (counted : Counted) : Type 0 where
  pub further : from < at
  pub counts : (one : Fields) → times one (take at rows) ≡ times one (take from rows) + counted_rows user counted one

pub counting_begins : (user : List ℕ) (rows : List Fields) (from : ℕ) (none first : Counted) → ((role : List ℕ) → count_of none role ≡ 0) → ((one : Fields) → times one (take (from + 1) rows) + counted_rows user none one ≡ times one (take from rows) + counted_rows user first one)
    → IsCounting user rows from (from + 1) first
counting_begins user rows from none first nothing step = record { further = omega arith; counts = λ one. omega (arith, step one, counted_nowhere user none nothing one) }

pub counting_on : (user : List ℕ) (rows : List Fields) (from at : ℕ) (old new : Counted) → IsCounting user rows from at old → ((one : Fields) → times one (take (at + 1) rows) + counted_rows user old one ≡ times one (take at rows) + counted_rows user new one)
    → IsCounting user rows from (at + 1) new
counting_on user rows from at old new counting step = record { further = omega (arith, counting.further); counts = λ one. omega (arith, step one, counting.counts one) }

pub counting_stops : (user : List ℕ) (rows : List Fields) (from at : ℕ) (counted : Counted) → at ≤ length rows → IsCounting user rows from at counted → IsRun user rows from at counted
counting_stops user rows from at counted within counting = record { further = counting.further; within = within; counts = counting.counts }

pub counting_ends : (user : List ℕ) (rows : List Fields) (from at to : ℕ) (counted : Counted) → from < length rows → to ≡ length rows → length rows ≤ at → IsCounting user rows from at counted → IsRun user rows from to counted
counting_ends user rows from at to counted begun end past counting = record {
  further = omega (arith, begun, end);
  within = omega (arith, end);
  counts = λ one. ap (times one) (take_all to rows (omega (arith, end)) ∙ sym (take_all at rows past)) ∙ counting.counts one;
}

-- each count is at most the place
pub counting_few : (user : List ℕ) (rows : List Fields) (from at : ℕ) (counted : Counted) → at ≤ length rows → IsCounting user rows from at counted → (role : List ℕ) → count_of counted role ≤ at
counting_few user rows from at counted within counting role =
    let one : Fields = user ∷ role ∷ [] in
    let here : counted_rows user counted one ≡ count_of counted role = ap (λ (test : Bool). cond test (count_of counted role) 0) (text_itself user) in
    let few : times one (take at rows) ≤ length (take at rows) = count_by-le-length (same one) (take at rows) in
    omega (arith, here, few, length-take-le at rows within, counting.counts one)

-- a front has no row more often
times_front : (one : Fields) (to : ℕ) (rows : List Fields) → times one (take to rows) ≤ times one rows
times_front one to rows = let both = times_both one (take to rows) (drop to rows) in let whole = ap (times one) (take-append-drop to rows) in omega (arith, both, whole)

-- what stands of a run
pub run_stands : (parts : Parts) (edits : List Group) (rows : List Fields) (from to : ℕ) (user : List ℕ) (gone : Counted) → ((row : Fields) → times row rows ≤ standing parts edits row + times row (take from rows)) → IsRun user rows from to gone
    → (role : List ℕ) → count_of gone role ≤ count_by (bytes_eq role) (overlay edits (roles_in parts user) user)
run_stands parts edits rows from to user gone stand run role =
    let one : Fields = user ∷ role ∷ [] in
    let here : counted_rows user gone one ≡ count_of gone role = ap (λ (test : Bool). cond test (count_of gone role) 0) (text_itself user) in
    omega (arith, here, run.counts one, times_front one to rows, stand one)

pub run_removed : (now before behind front counted : ℕ) → now + counted ≡ before → behind ≡ front + counted → now + behind ≡ before + front
run_removed now before behind front counted left run = omega (arith, left, run)

-- ---- a user whose roles are fewer

pub removed_counted : (parts : Parts) (old new : List Group) (user : List ℕ) (counted : Counted) (roles : List (List ℕ)) → Gives old new user roles
    → ((other : List ℕ) → count_by (bytes_eq other) roles + count_of counted other ≡ count_by (bytes_eq other) (overlay old (roles_in parts user) user)) → (one : Fields) → standing parts new one + counted_rows user counted one ≡ standing parts old one
removed_counted parts old new user counted roles gives fewer [] = omega arith
removed_counted parts old new user counted roles gives fewer (a ∷ []) = omega arith
removed_counted parts old new user counted roles gives fewer (a ∷ b ∷ []) = by (cases_Bool (bytes_eq a user))
  where
    by : (bytes_eq a user ≡ true) ⊎ (bytes_eq a user ≡ false) → standing parts new (a ∷ b ∷ []) + counted_rows user counted (a ∷ b ∷ []) ≡ standing parts old (a ∷ b ∷ [])
    by (inl equal) =
        ap (λ (test : Bool). standing parts new (a ∷ b ∷ []) + cond test (count_of counted b) 0) equal
        ∙ ap (λ (name : List ℕ). count_by (bytes_eq b) (overlay new (roles_in parts name) name) + count_of counted b) (same_text a user equal)
        ∙ ap (λ (rs : List (List ℕ)). count_by (bytes_eq b) rs + count_of counted b) (gives.given (roles_in parts user)) ∙ fewer b
        ∙ ap (λ (name : List ℕ). count_by (bytes_eq b) (overlay old (roles_in parts name) name)) (sym (same_text a user equal))
    by (inr differ) =
        let rest : standing parts new (a ∷ b ∷ []) ≡ standing parts old (a ∷ b ∷ []) = ap (count_by (bytes_eq b)) (gives.others a (roles_in parts a) differ) in
        let none : counted_rows user counted (a ∷ b ∷ []) ≡ 0 = ap (λ (test : Bool). cond test (count_of counted b) 0) differ in
        omega (arith, rest, none)
removed_counted parts old new user counted roles gives fewer (a ∷ b ∷ c ∷ more) = omega arith

-- ---- texts that are taken out

-- what was taken out was counted; nothing that is passed over is counted still
pub record IsTaking (start : Counted) (old : List (List ℕ)) (at : ℕ) (items : List (List ℕ)) (left : Counted) : Type 0 where
  pub within : at ≤ length items
  pub balance : (name : List ℕ) → count_by (bytes_eq name) items + count_of start name ≡ count_by (bytes_eq name) old + count_of left name
  pub passed : (k : ℕ) → k < at → count_of left (get_or items k []) ≡ 0

pub taking_begins : (start : Counted) (old : List (List ℕ)) → IsTaking start old 0 old start
taking_begins start old = record { within = omega arith; balance = λ name. refl; passed = λ k low. absurd (omega (arith, low)) }

pub taking_skips : (start : Counted) (old : List (List ℕ)) (at : ℕ) (items : List (List ℕ)) (left after : Counted) (text : List ℕ) → at < length items → text ≡ get_or items at [] → count_of left text ≡ 0 → ((name : List ℕ) → count_of after name ≡ count_of left name)
    → IsTaking start old at items left → IsTaking start old (at + 1) items after
taking_skips start old at items left after text inside is none alike taking = record {
  within = omega (arith, inside);
  balance = λ name. omega (arith, taking.balance name, alike name);
  passed = λ k low. alike (get_or items k []) ∙ by k low (cases_eq k at);
}
  where
    by : (k : ℕ) → k < at + 1 → (k ≡ at) ⊎ (k ≡ at → ⊥) → count_of left (get_or items k []) ≡ 0
    by k low (inl same_place) = ap (λ (n : ℕ). count_of left (get_or items n [])) same_place ∙ ap (count_of left) (sym is) ∙ none
    by k low (inr differ) = taking.passed k (omega (arith, low, differ))

pub taking_takes : (start : Counted) (old : List (List ℕ)) (at : ℕ) (items fewer : List (List ℕ)) (left after : Counted) (text d : List ℕ) → at < length items → text ≡ get_or items at [] → fewer ≡ swap_remove items at d
    → ((name : List ℕ) → count_of after name + cond (bytes_eq name text) 1 0 ≡ count_of left name) → IsTaking start old at items left → IsTaking start old at fewer after
taking_takes start old at items fewer left after text d inside is removed taken taking = record {
  within = omega (arith, inside, shorter);
  balance = λ name. omega (arith, taking.balance name, taken name, count name);
  passed = λ k low. gone_before k low;
}
  where
    shorter : length fewer ≡ length items - 1
    shorter = ap length removed ∙ length-take-le (length items - 1) (set items at (get_or items (length items - 1) d)) (omega (arith, length-set items at (get_or items (length items - 1) d)))

    count : (name : List ℕ) → count_by (bytes_eq name) fewer + cond (bytes_eq name text) 1 0 ≡ count_by (bytes_eq name) items
    count name =
        ap (λ (l : List (List ℕ)). count_by (bytes_eq name) l + cond (bytes_eq name text) 1 0) removed
        ∙ ap (λ (t : List ℕ). count_by (bytes_eq name) (swap_remove items at d) + cond (bytes_eq name t) 1 0) (is ∙ get_or_default items at [] d inside)
        ∙ sum_by-swap_remove (λ (t : List ℕ). cond (bytes_eq name t) 1 0) items at d inside

    stays : (k : ℕ) → k < at → get_or fewer k [] ≡ get_or items k []
    stays k low =
        ap (λ (l : List (List ℕ)). get_or l k []) removed ∙ get_or-take (length items - 1) (set items at (get_or items (length items - 1) d)) k [] (omega (arith, low, inside))
        ∙ get_or-set_other items at k (get_or items (length items - 1) d) [] (λ same_place. absurd (omega (arith, low, same_place)))

    gone_before : (k : ℕ) → k < at → count_of after (get_or fewer k []) ≡ 0
    gone_before k low = ap (count_of after) (stays k low) ∙ (let one = taken (get_or items k []) in let none = taking.passed k low in omega (arith, one, none))

pub taking_ends : (start : Counted) (old : List (List ℕ)) (at : ℕ) (items : List (List ℕ)) (left : Counted) → length items ≤ at → ((name : List ℕ) → count_of start name ≤ count_by (bytes_eq name) old) → IsTaking start old at items left
    → (name : List ℕ) → count_by (bytes_eq name) items + count_of start name ≡ count_by (bytes_eq name) old
taking_ends start old at items left past stand taking name = by (count_by (bytes_eq name) items) refl
  where
    none_left : (k : ℕ) → k < length items → get_or items k name ≡ name → count_of left name ≡ 0
    none_left k inside is = ap (count_of left) (sym is ∙ get_or_default items k name [] inside) ∙ taking.passed k (omega (arith, inside, past))

    still : Contains items name → count_of left name ≡ 0
    still (k, inside, is) = none_left k inside is

    by : (n : ℕ) → count_by (bytes_eq name) items ≡ n → count_by (bytes_eq name) items + count_of start name ≡ count_by (bytes_eq name) old
    by zero none = omega (arith, taking.balance name, stand name, none)
    by (suc n) some = let gone : count_of left name ≡ 0 = still (counted_stands name items (omega (arith, some))) in omega (arith, taking.balance name, gone)
