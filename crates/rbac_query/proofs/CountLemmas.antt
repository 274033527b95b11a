-- The rules that count for a name are those that the test keeps.
use Rattle.std.proofs.Common.{◌≡◌, ◌⊎◌, inl, inr, ℕ, ◌+◌, ◌<◌, Bool, true, false, ◌&&◌, ◌||◌, List, [], ◌∷◌, ◌++◌, filter, get_or, length, take, Bor, Option, Some, None, refl, sym, ap, subst, ◌∙◌}
use Rattle.std.specs.Prelude.{◌↔◌, IsTrue, if◌then◌else◌}
use Rattle.std.specs.List.{Contains, list_any}
use Rattle.std.specs.Str.{bytes_eq}
use Rattle.std.proofs.lemmas.Bool.{and_parts, false≢true, or_left, or_right}
use Rattle.std.proofs.lemmas.List.{take_more}
use Rattle.std.proofs.lemmas.List.Folds.{list_any-append}
use Rattle.std.proofs.lemmas.Option.{same_Some}
use Rattle.std.proofs.lemmas.Slice.Eq.{bytes_eq-Decides}
use Rattle.indexmap.specs.IndexSet.{insert_key}
use Rattle.perm_base.specs.declared.shapes.RoleShape.{RoleShape}
use Rattle.perm_base.specs.declared.shapes.Shapes.{Shapes}
use Rattle.perm_base.specs.declared.shapes.TableId.TheVariants.{G, P}
use Rattle.model_conf.specs.ModelText.{ModelParts}
use Rattle.policy_table.specs.Tables.{Fields, Policy, rows}
use Rattle.role_meaning.specs.Implied.{AreImplied}
use Rattle.role_meaning.specs.Links.{IsLinked}
use Rattle.role_meaning.proofs.CallerLemmas.{stands_behind, stands_cases, stands_here, stands_nowhere}
use Rattle.rbac_query.specs.Helps.Tests.{is_counted, is_in, is_of, tells}
use Rattle.rbac_query.specs.Asked.{hierarchy}
use Rattle.rbac_query.specs.Permissions.{AreImplicitPermissions, AreThose, IsOf, IsPermission, domain_column}
use Rattle.rbac_query.proofs.AskLemmas.{linked_from, linked_to}

same : (x y : List ℕ) → bytes_eq x y ≡ true → x ≡ y
same x y = (bytes_eq-Decides x y).0

agree : (x y : List ℕ) → x ≡ y → bytes_eq x y ≡ true
agree x y = (bytes_eq-Decides x y).1

-- references to texts
abbrev Keys : Type 0
Keys = List (Bor (List ℕ))

abbrev shows : List ℕ → Keys → Bool
shows text keys = list_any (λ (key : Bor (List ℕ)). bytes_eq text key.now) keys

-- what is shown once one more is put in
shows_put : (text : List ℕ) (keys : Keys) (key : Bor (List ℕ)) → shows text (insert_key (λ (x y : Bor (List ℕ)). bytes_eq x.now y.now) keys key) ≡ (shows text keys || bytes_eq text key.now)
shows_put text keys key = by (shows key.now keys) refl
  where
    seen : (b : Bool) → bytes_eq text key.now ≡ b → shows key.now keys ≡ true → shows text keys ≡ (shows text keys || b)
    seen true is there = let here : shows text keys ≡ true = ap (λ (t : List ℕ). shows t keys) (same text key.now is) ∙ there in here ∙ sym (or_left (shows text keys) true here)
    seen false is there = or_false (shows text keys)
      where
        or_false : (b : Bool) → b ≡ (b || false)
        or_false true = refl
        or_false false = refl

    behind : shows text (keys ++ key ∷ []) ≡ (shows text keys || bytes_eq text key.now)
    behind = list_any-append (λ (other : Bor (List ℕ)). bytes_eq text other.now) keys (key ∷ []) ∙ ap (λ (b : Bool). shows text keys || b) (or_false (bytes_eq text key.now))
      where
        or_false : (b : Bool) → (b || false) ≡ b
        or_false true = refl
        or_false false = refl

    by : (b : Bool) → shows key.now keys ≡ b → shows text (if b then keys else keys ++ key ∷ []) ≡ (shows text keys || bytes_eq text key.now)
    by true is = seen (bytes_eq text key.now) refl is
    by false is = behind

-- the references show the texts so far, and one more
pub tells_next : (keys new : Keys) (key : Bor (List ℕ)) (texts : List (List ℕ)) (at : ℕ) → at < length texts → key.now ≡ get_or texts at key.now → new ≡ insert_key (λ (x y : Bor (List ℕ)). bytes_eq x.now y.now) keys key → tells keys (take at texts) → tells new (take (at + 1) texts)
tells_next keys new key texts at within read is told text =
    ap (shows text) is ∙ shows_put text keys key ∙ ap (λ (b : Bool). b || bytes_eq text key.now) (told text)
    ∙ sym (ap (list_any (bytes_eq text)) (take_more texts at key.now within ∙ ap (λ (x : List ℕ). take at texts ++ x ∷ []) (sym read)) ∙ one_more (bytes_eq text) (take at texts) key.now)
  where
    one_more : (test : List ℕ → Bool) (xs : List (List ℕ)) (x : List ℕ) → list_any test (xs ++ x ∷ []) ≡ (list_any test xs || test x)
    one_more test xs x = list_any-append test xs (x ∷ []) ∙ ap (λ (b : Bool). list_any test xs || b) (or_false (test x))
      where
        or_false : (b : Bool) → (b || false) ≡ b
        or_false true = refl
        or_false false = refl

-- a test of all texts for one finds it where it stands
finds : (text : List ℕ) (texts : List (List ℕ)) → Contains texts text → list_any (bytes_eq text) texts ≡ true
finds text [] none = absurd (stands_nowhere text none)
finds text (x ∷ xs) stands = by (stands_cases x xs text stands) (finds text xs)
  where
    by : (x ≡ text) ⊎ Contains xs text → (Contains xs text → list_any (bytes_eq text) xs ≡ true) → (bytes_eq text x || list_any (bytes_eq text) xs) ≡ true
    by (inl e) more = or_left (bytes_eq text x) (list_any (bytes_eq text) xs) (agree text x (sym e))
    by (inr there) more = or_right (bytes_eq text x) (list_any (bytes_eq text) xs) (more there)

found : (text : List ℕ) (texts : List (List ℕ)) → list_any (bytes_eq text) texts ≡ true → Contains texts text
found text [] none = absurd (false≢true none)
found text (x ∷ xs) is = by (bytes_eq text x) refl is (found text xs)
  where
    by : (b : Bool) → bytes_eq text x ≡ b → (b || list_any (bytes_eq text) xs) ≡ true → (list_any (bytes_eq text) xs ≡ true → Contains xs text) → Contains (x ∷ xs) text
    by true e all more = subst (Contains (x ∷ xs)) (sym (same text x e)) (stands_here x xs)
    by false e all more = stands_behind x xs text (more all)

module _ (shapes : Shapes) (column : Option ℕ) (shape : RoleShape) (links : List Fields) (domain : Option (List ℕ)) (name : List ℕ) (roles : List (List ℕ)) (keys : Keys)
    (implied : AreImplied shape links shapes.limit domain name roles) (told : tells keys roles) where
  is_linked : (text : List ℕ) → is_in name keys text ≡ true → IsLinked shape links shapes.limit domain name text
  is_linked text is = by (bytes_eq name text) refl is
    where
      by : (b : Bool) → bytes_eq name text ≡ b → (b || shows text keys) ≡ true → IsLinked shape links shapes.limit domain name text
      by true e all = linked_to shape links shapes.limit domain name text roles implied (inl (same name text e))
      by false e all = linked_to shape links shapes.limit domain name text roles implied (inr (found text roles (sym (told text) ∙ all)))

  linked_is : (text : List ℕ) → IsLinked shape links shapes.limit domain name text → is_in name keys text ≡ true
  linked_is text linked = by (bytes_eq name text) refl
    where
      by : (b : Bool) → bytes_eq name text ≡ b → (b || shows text keys) ≡ true
      by true e = refl
      by false e = told text ∙ finds text roles (linked_from shape links shapes.limit domain name text roles implied (λ f. false≢true (sym e ∙ agree name text f)) linked)

  is_within : (place : Option ℕ) (asks : Option (List ℕ)) (rule : Fields) → is_of place asks rule ≡ true → IsOf place asks rule
  is_within (Some at) (Some text) rule is = sym (same text (get_or rule at []) is)
  is_within (Some at) None rule is = tt
  is_within None asks rule is = tt

  within_is : (place : Option ℕ) (asks : Option (List ℕ)) (rule : Fields) → IsOf place asks rule → is_of place asks rule ≡ true
  within_is (Some at) (Some text) rule is = agree text (get_or rule at []) (sym is)
  within_is (Some at) None rule is = refl
  within_is None asks rule is = refl

  counted_is : (rule : Fields) → IsTrue (is_counted name keys shapes.subject_column column domain rule) ↔ IsPermission shapes column shape links domain name rule
  counted_is rule = (to, back)
    where
      subject : List ℕ
      subject = get_or rule shapes.subject_column []

      to : (is_in name keys (get_or rule shapes.subject_column []) && is_of column domain rule) ≡ true → IsPermission shapes column shape links domain name rule
      to is =
          let parts = and_parts (is_in name keys (get_or rule shapes.subject_column [])) (is_of column domain rule) is in
          record { linked = is_linked (get_or rule shapes.subject_column []) parts.0; within = is_within column domain rule parts.1 }

      both : (a b : Bool) → a ≡ true → b ≡ true → (a && b) ≡ true
      both true b one other = other
      both false b one other = absurd (false≢true one)

      back : IsPermission shapes column shape links domain name rule → (is_in name keys (get_or rule shapes.subject_column []) && is_of column domain rule) ≡ true
      back permission = both (is_in name keys (get_or rule shapes.subject_column [])) (is_of column domain rule) (linked_is (get_or rule shapes.subject_column []) permission.linked) (within_is column domain rule permission.within)

  -- what the test keeps are the rules that count
  pub those_counted : (rules those : List Fields) → those ≡ filter (is_counted name keys shapes.subject_column column domain) rules → AreThose (IsPermission shapes column shape links domain name) rules those
  those_counted rules those kept = record { test = is_counted name keys shapes.subject_column column domain; told = λ rule stands. counted_is rule; kept = kept }

-- two lists of the rules of which the same holds are one
pub those_are_one : (Holds : Fields → Type 0) (rules those others : List Fields) → AreThose Holds rules those → AreThose Holds rules others → those ≡ others
those_are_one Holds rules those others one two = one.kept ∙ alike rules (λ rule stands. both_ways (one.test rule) (two.test rule) (λ is. (two.told rule stands).1 ((one.told rule stands).0 is)) (λ is. (one.told rule stands).1 ((two.told rule stands).0 is))) ∙ sym two.kept
  where
    both_ways : (a b : Bool) → (a ≡ true → b ≡ true) → (b ≡ true → a ≡ true) → a ≡ b
    both_ways true b to back = sym (to refl)
    both_ways false true to back = back refl
    both_ways false false to back = refl

    alike : (some : List Fields) → ((rule : Fields) → Contains some rule → one.test rule ≡ two.test rule) → filter one.test some ≡ filter two.test some
    alike [] each = refl
    alike (rule ∷ some) each = let rest = alike some (λ other there. each other (stands_behind rule some other there)) in let e = each rule (stands_here rule some) in cc

-- the rules that count for a name are one list
pub permissions_one : (model : ModelParts) (shapes : Shapes) (policy : Policy) (domain : Option (List ℕ)) (name : List ℕ) (rules others : List Fields) → AreImplicitPermissions model shapes policy domain name rules → AreImplicitPermissions model shapes policy domain name others → rules ≡ others
permissions_one model shapes policy domain name rules others one two =
    let same : two.shape ≡ one.shape = same_Some two.shape one.shape (sym two.there ∙ one.there) in
    those_are_one (IsPermission shapes (domain_column model) one.shape (rows policy (G hierarchy)) domain name) (rows policy P) rules others one.holds
    (subst (λ (shape : RoleShape). AreThose (IsPermission shapes (domain_column model) shape (rows policy (G hierarchy)) domain name) (rows policy P) others) same two.holds)
