-- How often rows stand while a graph is edited.
use Rattle.std.proofs.Common.{◌≡◌, ◌⊎◌, inl, inr, ◌+◌, ℕ, Bool, true, false, ◌&&◌, cond, List, [], ◌∷◌, ◌++◌, Some, length, refl, sym, ap, ◌∙◌, arith}
use Rattle.std.specs.Prelude.{slice_get}
use Rattle.std.specs.List.{count_by}
use Rattle.std.specs.Str.{bytes_eq}
use Rattle.std.proofs.lemmas.Bool.{cases_Bool}
use Rattle.std.proofs.lemmas.List.Sums.{sum_by-append}
use Rattle.policy_table.specs.Tables.{Fields, same}
use Rattle.role_meaning.specs.Links.{role_of, user_of}
use Rattle.role_graph.specs.Groups.{Group, row, times}
use Rattle.role_graph.specs.Helps.Edits.{overlay, standing}
use Rattle.role_graph.specs.Helps.Kept.{Parts, roles_in}
use Rattle.role_graph.proofs.PutLemmas.{same_text, text_itself}

-- 1 where a test holds
abbrev pub once : Bool → ℕ
once test = cond test 1 0

-- the user and the role of a row of two fields
pub pair_is : (rule : Fields) → length rule ≡ 2 → row (user_of rule) (role_of rule) ≡ rule
pair_is [] long = absurd cc
pair_is (a ∷ []) long = absurd cc
pair_is (a ∷ b ∷ []) long = refl
pair_is (a ∷ b ∷ c ∷ rest) long = absurd (omega arith)

pub count_more : (name role : List ℕ) (roles : List (List ℕ)) → count_by (bytes_eq name) (roles ++ role ∷ []) ≡ count_by (bytes_eq name) roles + once (bytes_eq name role)
count_more name role roles = let both = sum_by-append (λ (r : List ℕ). once (bytes_eq name r)) roles (role ∷ []) in omega (arith, both)

pub times_more : (one rule : Fields) (rules : List Fields) → times one (rules ++ rule ∷ []) ≡ times one rules + once (same one rule)
times_more one rule rules = let both = sum_by-append (λ (r : Fields). once (same one r)) rules (rule ∷ []) in omega (arith, both)

-- the overlays before and after a user is given roles
pub record Gives (old new : List Group) (user : List ℕ) (roles : List (List ℕ)) : Type 0 where
  pub given : (base : List (List ℕ)) → overlay new base user ≡ roles
  pub others : (name : List ℕ) (base : List (List ℕ)) → bytes_eq name user ≡ false → overlay new base name ≡ overlay old base name

pub gives_from : (old between new : List Group) (user given : List ℕ) (roles : List (List ℕ)) → given ≡ user → ((name : List ℕ) (base : List (List ℕ)) → overlay new base name ≡ cond (bytes_eq name given) roles (overlay between base name)) → ((name : List ℕ) (base : List (List ℕ)) → bytes_eq name user ≡ false → overlay between base name ≡ overlay old base name) → Gives old new user roles
gives_from old between new user given roles same put others = record {
  given = λ base. here user base ∙ ap (λ (test : Bool). cond test roles (overlay between base user)) (text_itself user);
  others = λ name base differ. here name base ∙ ap (λ (test : Bool). cond test roles (overlay between base name)) differ ∙ others name base differ;
}
  where
    here : (name : List ℕ) (base : List (List ℕ)) → overlay new base name ≡ cond (bytes_eq name user) roles (overlay between base name)
    here name base = put name base ∙ ap (λ (text : List ℕ). cond (bytes_eq name text) roles (overlay between base name)) same

pub no_other : (a b user role : List ℕ) → bytes_eq a user ≡ false → once (same (a ∷ b ∷ []) (user ∷ role ∷ [])) ≡ 0
no_other a b user role differ = ap (λ (test : Bool). once (test && (bytes_eq b role && true))) differ

pub and_end : (test : Bool) → (test && true) ≡ test
and_end true = refl
and_end false = refl

pub this_role : (a b user role : List ℕ) → bytes_eq a user ≡ true → once (same (a ∷ b ∷ []) (user ∷ role ∷ [])) ≡ once (bytes_eq b role)
this_role a b user role equal = ap (λ (test : Bool). once (test && (bytes_eq b role && true))) equal ∙ ap (λ (test : Bool). once test) (and_end (bytes_eq b role))

pub added_once : (parts : Parts) (old new : List Group) (user role : List ℕ) → Gives old new user (overlay old (roles_in parts user) user ++ role ∷ []) → (one : Fields) → standing parts new one ≡ standing parts old one + once (same one (user ∷ role ∷ []))
added_once parts old new user role gives [] = omega arith
added_once parts old new user role gives (a ∷ []) = ap (λ (test : Bool). 0 + once test) (sym (short (bytes_eq a user)))
  where
    short : (test : Bool) → (test && false) ≡ false
    short true = refl
    short false = refl
added_once parts old new user role gives (a ∷ b ∷ []) = by (cases_Bool (bytes_eq a user))
  where
    by : (bytes_eq a user ≡ true) ⊎ (bytes_eq a user ≡ false) → standing parts new (a ∷ b ∷ []) ≡ standing parts old (a ∷ b ∷ []) + once (same (a ∷ b ∷ []) (user ∷ role ∷ []))
    by (inl equal) =
        ap (λ (name : List ℕ). count_by (bytes_eq b) (overlay new (roles_in parts name) name)) (same_text a user equal)
        ∙ ap (count_by (bytes_eq b)) (gives.given (roles_in parts user)) ∙ count_more b role (overlay old (roles_in parts user) user)
        ∙ ap (λ (name : List ℕ). count_by (bytes_eq b) (overlay old (roles_in parts name) name) + once (bytes_eq b role)) (sym (same_text a user equal))
        ∙ ap (λ (n : ℕ). standing parts old (a ∷ b ∷ []) + n) (sym (this_role a b user role equal))
    by (inr differ) =
        let rest : standing parts new (a ∷ b ∷ []) ≡ standing parts old (a ∷ b ∷ []) = ap (count_by (bytes_eq b)) (gives.others a (roles_in parts a) differ) in
        let none : once (same (a ∷ b ∷ []) (user ∷ role ∷ [])) ≡ 0 = no_other a b user role differ in
        omega (arith, rest, none)
added_once parts old new user role gives (a ∷ b ∷ c ∷ more) = ap (λ (test : Bool). 0 + once test) (sym (long (bytes_eq a user) (bytes_eq b role)))
  where
    long : (test next : Bool) → (test && (next && false)) ≡ false
    long true true = refl
    long true false = refl
    long false next = refl

pub removed_once : (parts : Parts) (old new : List Group) (user role : List ℕ) (roles : List (List ℕ)) → Gives old new user roles → ((other : List ℕ) → count_by (bytes_eq other) roles + once (bytes_eq other role) ≡ count_by (bytes_eq other) (overlay old (roles_in parts user) user)) → (one : Fields) → standing parts new one + once (same one (user ∷ role ∷ [])) ≡ standing parts old one
removed_once parts old new user role roles gives fewer [] = omega arith
removed_once parts old new user role roles gives fewer (a ∷ []) = ap (λ (test : Bool). 0 + once test) (short (bytes_eq a user))
  where
    short : (test : Bool) → (test && false) ≡ false
    short true = refl
    short false = refl
removed_once parts old new user role roles gives fewer (a ∷ b ∷ []) = by (cases_Bool (bytes_eq a user))
  where
    by : (bytes_eq a user ≡ true) ⊎ (bytes_eq a user ≡ false) → standing parts new (a ∷ b ∷ []) + once (same (a ∷ b ∷ []) (user ∷ role ∷ [])) ≡ standing parts old (a ∷ b ∷ [])
    by (inl equal) =
        ap (λ (n : ℕ). standing parts new (a ∷ b ∷ []) + n) (this_role a b user role equal)
        ∙ ap (λ (name : List ℕ). count_by (bytes_eq b) (overlay new (roles_in parts name) name) + once (bytes_eq b role)) (same_text a user equal)
        ∙ ap (λ (rs : List (List ℕ)). count_by (bytes_eq b) rs + once (bytes_eq b role)) (gives.given (roles_in parts user)) ∙ fewer b
        ∙ ap (λ (name : List ℕ). count_by (bytes_eq b) (overlay old (roles_in parts name) name)) (sym (same_text a user equal))
    by (inr differ) =
        let rest : standing parts new (a ∷ b ∷ []) ≡ standing parts old (a ∷ b ∷ []) = ap (count_by (bytes_eq b)) (gives.others a (roles_in parts a) differ) in
        let none : once (same (a ∷ b ∷ []) (user ∷ role ∷ [])) ≡ 0 = no_other a b user role differ in
        omega (arith, rest, none)
removed_once parts old new user role roles gives fewer (a ∷ b ∷ c ∷ more) = ap (λ (test : Bool). 0 + once test) (long (bytes_eq a user) (bytes_eq b role))
  where
    long : (test next : Bool) → (test && (next && false)) ≡ false
    long true true = refl
    long true false = refl
    long false next = refl

pub same_field : (rule : Fields) (at : ℕ) (one other : List ℕ) → slice_get rule at ≡ Some one → slice_get rule at ≡ Some other → one ≡ other
same_field rule at one other first second = cc
