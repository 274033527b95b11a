-- Users and domains that are gathered from rows in turn.
use Rattle.std.proofs.Common.{◌≡◌, ◌⊎◌, inl, inr, ℕ, ◌+◌, ◌<◌, Bool, true, false, ◌&&◌, not, List, [], ◌∷◌, ◌++◌, length, get_or, take, Bor, map, refl, sym, ap, subst, ◌∙◌, true≢false, arith}
use Rattle.std.specs.BTreeSet.{insert_key}
use Rattle.std.specs.Cmp.{on_total, then_total}
use Rattle.std.specs.Cmp.Lexicographic.{nat_list_cmp_total, slice_cmp, texts_ties}
use Rattle.std.specs.List.{Contains}
use Rattle.std.specs.Ordering.{is_eq, match_ordering, nat_cmp, ordering_reverse, ordering_then}
use Rattle.std.specs.declared.cmp.Ordering.{Ordering}
use Rattle.std.specs.declared.cmp.Ordering.TheVariants.{Less, Equal, Greater}
use Rattle.std.proofs.lemmas.Bool.{and_parts, false≢true, not-true}
use Rattle.std.proofs.lemmas.List.{take_more}
use Rattle.std.proofs.lemmas.List.Elements.{Contains-append_left, Contains-push, Contains-push_cases}
use Rattle.std.proofs.lemmas.Slice.Eq.{bytes_eq-Decides}
use Rattle.perm_base.specs.Patterns.{is_pattern}
use Rattle.perm_base.specs.declared.shapes.RoleShape.{RoleShape}
use Rattle.policy_table.specs.Tables.{Fields}
use Rattle.role_meaning.specs.Links.{domain_of, user_of}
use Rattle.role_meaning.proofs.CallerLemmas.{one_list, stands_behind, stands_cases, stands_here, stands_nowhere}
use Rattle.rbac_query.specs.Helps.Subjects.{is_plain, shown}
use Rattle.rbac_query.specs.Report.{AreSubjects, IsSubject, Subject, subject_cmp, subject_of}
use Rattle.rbac_query.proofs.SortedLemmas.{IsBelow, IsStrict, put_cases, put_sorted, put_stands, sorted_cases, sorted_of, sorted_order, sorted_stands}

pub text_tied : (x y : List ℕ) → slice_cmp nat_cmp x y ≡ Equal → x ≡ y
text_tied x y tied = (bytes_eq-Decides x y).0 (texts_ties x y ∙ ap is_eq tied)

-- both orders tie where one after the other does
pub then_tied : (one other : Ordering) → ordering_then one other ≡ Equal → (one ≡ Equal) × (other ≡ Equal)
then_tied Less other is = absurd cc
then_tied Equal other is = (refl, is)
then_tied Greater other is = absurd cc

pub subject_strict : IsStrict subject_cmp
subject_strict = record {
  total = then_total (on_total (λ (subject : Subject). subject.user) nat_list_cmp_total) (on_total (λ (subject : Subject). subject.domain) nat_list_cmp_total);
  same = λ one other is. alike one other (then_tied (slice_cmp nat_cmp one.user other.user) (slice_cmp nat_cmp one.domain other.domain) is);
}
  where
    both : (one other : Subject) → one.user ≡ other.user → one.domain ≡ other.domain → one ≡ other
    both one other p q = λ j. record { user = p j; domain = q j }

    alike : (one other : Subject) → (slice_cmp nat_cmp one.user other.user ≡ Equal) × (slice_cmp nat_cmp one.domain other.domain ≡ Equal) → one ≡ other
    alike one other parts = both one other (text_tied one.user other.user parts.0) (text_tied one.domain other.domain parts.1)

not_both : (o r : Ordering) → o ≡ ordering_reverse r → o ≡ Less → r ≡ Less → ⊥
not_both o r turned one other = absurd (let e : Less ≡ Greater = sym one ∙ turned ∙ ap ordering_reverse other in cc)

-- the subjects of rows are one list
pub subjects_one : (shape : RoleShape) (rows : List Fields) (subjects others : List Subject) → AreSubjects shape rows subjects → AreSubjects shape rows others → subjects ≡ others
subjects_one shape rows subjects others one two =
    one_list (IsBelow subject_cmp) (λ a b less more. not_both (subject_cmp a b) (subject_cmp b a) (subject_strict.total.antisymm a b) less more) subjects others one.order two.order
    (λ subject stands. (two.members subject).1 ((one.members subject).0 stands)) (λ subject stands. (one.members subject).1 ((two.members subject).0 stands))

-- references to texts
abbrev pub Keys : Type 0
Keys = List (Bor (List ℕ) × Bor (List ℕ))

abbrev pub key_cmp : Bor (List ℕ) × Bor (List ℕ) → Bor (List ℕ) × Bor (List ℕ) → Ordering
key_cmp one other = subject_cmp (shown one) (shown other)

shown_put : (keys : Keys) (key : Bor (List ℕ) × Bor (List ℕ)) → map shown (insert_key key_cmp keys key) ≡ insert_key subject_cmp (map shown keys) (shown key)
shown_put [] key = refl
shown_put (one ∷ keys) key = by (key_cmp key one) (insert_key key_cmp keys key) (insert_key subject_cmp (map shown keys) (shown key)) (shown_put keys key)
  where
    by : (o : Ordering) (put : Keys) (seen : List Subject) → map shown put ≡ seen
        → map shown (match_ordering o (key ∷ one ∷ keys) (one ∷ keys) (one ∷ put)) ≡ match_ordering o (shown key ∷ shown one ∷ map shown keys) (shown one ∷ map shown keys) (shown one ∷ seen)
    by Less put seen is = refl
    by Equal put seen is = refl
    by Greater put seen is = ap (λ (l : List Subject). shown one ∷ l) is

module _ (shape : RoleShape) where
  -- the row's user and domain are no patterns
  abbrev PlainRow : Fields → Type 0
  PlainRow row = is_plain shape (user_of row) (domain_of row) ≡ true

  weaker : (front : List Fields) (row : Fields) (subject : Subject) → IsSubject shape front subject → IsSubject shape (front ++ row ∷ []) subject
  weaker front row subject is = record {
    row = is.row;
    stands = Contains-append_left front (row ∷ []) is.row is.stands;
    same = is.same;
    plain_user = is.plain_user;
    plain_domain = is.plain_domain;
  }

  from_row : (rows : List Fields) (row : Fields) (subject : Subject) → Contains rows row → PlainRow row → subject_of row ≡ subject → IsSubject shape rows subject
  from_row rows row subject stands plain same =
      let parts = and_parts (not (is_pattern shape.names (user_of row))) (not (is_pattern shape.domains (domain_of row))) plain in
      record {
        row = row;
        stands = stands;
        same = same;
        plain_user = subst (λ (s : Subject). is_pattern shape.names s.user ≡ false) same (not-true (is_pattern shape.names (user_of row)) parts.0);
        plain_domain = subst (λ (s : Subject). is_pattern shape.domains s.domain ≡ false) same (not-true (is_pattern shape.domains (domain_of row)) parts.1);
      }

  plain_row : (row : Fields) (subject : Subject) → subject_of row ≡ subject → is_pattern shape.names subject.user ≡ false → is_pattern shape.domains subject.domain ≡ false → PlainRow row
  plain_row row subject same user domain =
      both (is_pattern shape.names (user_of row)) (is_pattern shape.domains (domain_of row))
      (subst (λ (s : Subject). is_pattern shape.names s.user ≡ false) (sym same) user) (subst (λ (s : Subject). is_pattern shape.domains s.domain ≡ false) (sym same) domain)
    where
      both : (a b : Bool) → a ≡ false → b ≡ false → (not a && not b) ≡ true
      both false false p q = refl
      both true b p q = absurd (true≢false p)
      both false true p q = absurd (true≢false q)

  -- of a further row the subject may be new
  more_cases : (front : List Fields) (row : Fields) (subject : Subject) → IsSubject shape (front ++ row ∷ []) subject → IsSubject shape front subject ⊎ ((subject_of row ≡ subject) × PlainRow row)
  more_cases front row subject is = by (Contains-push_cases front row is.row is.stands)
    where
      by : Contains front is.row ⊎ (row ≡ is.row) → IsSubject shape front subject ⊎ ((subject_of row ≡ subject) × PlainRow row)
      by (inl old) = inl (record { row = is.row; stands = old; same = is.same; plain_user = is.plain_user; plain_domain = is.plain_domain })
      by (inr new) = let same = ap subject_of new ∙ is.same in inr (same, plain_row row subject same is.plain_user is.plain_domain)

  -- a further row whose user and domain are plain
  one_more : (front : List Fields) (row : Fields) (subjects : List Subject) → PlainRow row → AreSubjects shape front subjects → AreSubjects shape (front ++ row ∷ []) (insert_key subject_cmp subjects (subject_of row))
  one_more front row subjects plain are = record {
    members = λ subject. (λ stands. to subject (put_cases subject_cmp subject_strict subjects (subject_of row) subject stands), λ is. back subject (more_cases front row subject is));
    order = put_sorted subject_cmp subject_strict subjects (subject_of row) are.order;
  }
    where
      to : (subject : Subject) → (subject_of row ≡ subject) ⊎ Contains subjects subject → IsSubject shape (front ++ row ∷ []) subject
      to subject (inl same) = from_row (front ++ row ∷ []) row subject (Contains-push front row) plain same
      to subject (inr there) = weaker front row subject ((are.members subject).0 there)

      back : (subject : Subject) → IsSubject shape front subject ⊎ ((subject_of row ≡ subject) × PlainRow row) → Contains (insert_key subject_cmp subjects (subject_of row)) subject
      back subject (inl old) = put_stands subject_cmp subject_strict subjects (subject_of row) subject (inr ((are.members subject).1 old))
      back subject (inr new) = put_stands subject_cmp subject_strict subjects (subject_of row) subject (inl new.0)

  -- another row changes nothing
  none_more : (front : List Fields) (row : Fields) (subjects : List Subject) → is_plain shape (user_of row) (domain_of row) ≡ false → AreSubjects shape front subjects → AreSubjects shape (front ++ row ∷ []) subjects
  none_more front row subjects other are = record {
    members = λ subject. (λ stands. weaker front row subject ((are.members subject).0 stands), λ is. back subject (more_cases front row subject is));
    order = are.order;
  }
    where
      back : (subject : Subject) → IsSubject shape front subject ⊎ ((subject_of row ≡ subject) × PlainRow row) → Contains subjects subject
      back subject (inl old) = (are.members subject).1 old
      back subject (inr new) = absurd (false≢true (sym other ∙ new.1))

  pub subjects_none : (rows : List Fields) (keys : Keys) → keys ≡ [] → AreSubjects shape (take 0 rows) (map shown keys)
  subjects_none rows keys none = subst (λ (l : Keys). AreSubjects shape [] (map shown l)) (sym none) (record {
    members = λ subject. (λ stands. absurd (stands_nowhere subject stands), λ is. absurd (stands_nowhere is.row is.stands));
    order = λ i j d less within. absurd (omega arith);
  })

  module _ (rows : List Fields) (at : ℕ) (row : Fields) (within : at < length rows) (read : row ≡ get_or rows at row) where
    further : (subjects : List Subject) → AreSubjects shape (take at rows ++ row ∷ []) subjects → AreSubjects shape (take (at + 1) rows) subjects
    further subjects = subst (λ (l : List Fields). AreSubjects shape l subjects) (sym (take_more rows at row within ∙ ap (λ (r : Fields). take at rows ++ r ∷ []) (sym read)))

    pub subjects_more : (keys new : Keys) (user domain : Bor (List ℕ)) → user.now ≡ user_of row → domain.now ≡ domain_of row → is_plain shape user.now domain.now ≡ true → new ≡ insert_key key_cmp keys (user, domain)
        → AreSubjects shape (take at rows) (map shown keys) → AreSubjects shape (take (at + 1) rows) (map shown new)
    subjects_more keys new user domain first third plain is are =
        further (map shown new)
        (subst (λ (l : List Subject). AreSubjects shape (take at rows ++ row ∷ []) l) (sym (ap (map shown) is ∙ shown_put keys (user, domain) ∙ ap (insert_key subject_cmp (map shown keys)) same))
        (one_more (take at rows) row (map shown keys) ((λ j. is_plain shape (sym first j) (sym third j)) ∙ plain) are))
      where
        same : shown (user, domain) ≡ subject_of row
        same = λ j. record { user = first j; domain = third j }

    pub subjects_same : (keys : Keys) (user domain : Bor (List ℕ)) → user.now ≡ user_of row → domain.now ≡ domain_of row → is_plain shape user.now domain.now ≡ false
        → AreSubjects shape (take at rows) (map shown keys) → AreSubjects shape (take (at + 1) rows) (map shown keys)
    subjects_same keys user domain first third other are =
        further (map shown keys) (none_more (take at rows) row (map shown keys) ((λ j. is_plain shape (sym first j) (sym third j)) ∙ other) are)

  -- every list of rows has its subjects
  pub subjects_there : (rows : List Fields) → (subjects : List Subject) × AreSubjects shape rows subjects
  subjects_there rows = (
    sorted_of subject_cmp (plain_of rows),
    record {
      members = λ subject. (λ stands. to subject (plain_from rows subject (sorted_cases subject_cmp subject_strict (plain_of rows) subject stands)), λ is. sorted_stands subject_cmp subject_strict (plain_of rows) subject (plain_there rows is.row subject is.stands is.same (plain_row is.row subject is.same is.plain_user is.plain_domain)));
      order = sorted_order subject_cmp subject_strict (plain_of rows);
    },
  )
    where
      add : Bool → Subject → List Subject → List Subject
      add true subject subjects = subject ∷ subjects
      add false subject subjects = subjects

      plain_of : List Fields → List Subject
      plain_of [] = []
      plain_of (row ∷ some) = add (is_plain shape (user_of row) (domain_of row)) (subject_of row) (plain_of some)

      to : (subject : Subject) → IsSubject shape rows subject → IsSubject shape rows subject
      to subject is = is

      behind : (row : Fields) (some : List Fields) (subject : Subject) → IsSubject shape some subject → IsSubject shape (row ∷ some) subject
      behind row some subject is = record { row = is.row; stands = stands_behind row some is.row is.stands; same = is.same; plain_user = is.plain_user; plain_domain = is.plain_domain }

      plain_from : (some : List Fields) (subject : Subject) → Contains (plain_of some) subject → IsSubject shape some subject
      plain_from [] subject none = absurd (stands_nowhere subject none)
      plain_from (row ∷ some) subject stands = by (is_plain shape (user_of row) (domain_of row)) refl stands (plain_from some subject)
        where
          by : (b : Bool) → is_plain shape (user_of row) (domain_of row) ≡ b → Contains (add b (subject_of row) (plain_of some)) subject → (Contains (plain_of some) subject → IsSubject shape some subject) → IsSubject shape (row ∷ some) subject
          by true plain here more = first (stands_cases (subject_of row) (plain_of some) subject here)
            where
              first : (subject_of row ≡ subject) ⊎ Contains (plain_of some) subject → IsSubject shape (row ∷ some) subject
              first (inl same) = from_row (row ∷ some) row subject (stands_here row some) plain same
              first (inr there) = behind row some subject (more there)
          by false other here more = behind row some subject (more here)

      plain_there : (some : List Fields) (row : Fields) (subject : Subject) → Contains some row → subject_of row ≡ subject → PlainRow row → Contains (plain_of some) subject
      plain_there [] row subject none same plain = absurd (stands_nowhere row none)
      plain_there (one ∷ some) row subject stands same plain = by (stands_cases one some row stands) (plain_there some row subject)
        where
          added : (b : Bool) → Contains (plain_of some) subject → Contains (add b (subject_of one) (plain_of some)) subject
          added true there = stands_behind (subject_of one) (plain_of some) subject there
          added false there = there

          by : (one ≡ row) ⊎ Contains some row → (Contains some row → subject_of row ≡ subject → PlainRow row → Contains (plain_of some) subject) → Contains (add (is_plain shape (user_of one) (domain_of one)) (subject_of one) (plain_of some)) subject
          by (inl e) more =
              subst (λ (b : Bool). Contains (add b (subject_of one) (plain_of some)) subject) (sym (ap (λ (r : Fields). is_plain shape (user_of r) (domain_of r)) e ∙ plain))
              (subst (Contains (subject_of one ∷ plain_of some)) (ap subject_of e ∙ same) (stands_here (subject_of one) (plain_of some)))
          by (inr there) more = added (is_plain shape (user_of one) (domain_of one)) (more there same plain)
