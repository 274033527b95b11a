-- A section while it is made, and while an edit is prepared.
use Rattle.std.proofs.Common.{◌≡◌, ◌≤◌, ◌&&◌, ℕ, Bool, true, false, List, [], ◌∷◌, ◌++◌, IsTrue, filter, length, refl, sym, ap, subst, ◌∙◌, arith}
use Rattle.std.specs.Prelude.{All, if◌then◌else◌}
use Rattle.std.specs.List.{IsDistinct, count_by}
use Rattle.std.specs.Map.{keys_of}
use Rattle.std.proofs.lemmas.Bool.{and_parts}
use Rattle.std.proofs.lemmas.List.Elements.{All-contains, All-weaker, filter_passes}
use Rattle.std.proofs.lemmas.List.Sums.{length-filter}
use Rattle.perm_base.specs.Patterns.{is_pattern}
use Rattle.perm_base.specs.declared.shapes.Fit.{Fit}
use Rattle.perm_base.specs.declared.shapes.Fit.TheVariants.{Exact}
use Rattle.perm_base.specs.declared.shapes.RoleShape.{RoleShape}
use Rattle.perm_base.specs.declared.shapes.TableId.TheVariants.{G}
use Rattle.policy_table.specs.Changes.{applies, edited, own}
use Rattle.policy_table.specs.Limits.{domains_of, role_columns}
use Rattle.policy_table.specs.Tables.{Fields, IsKept, Policy, rows, same, stands}
use Rattle.policy_table.specs.declared.change.Change.{Change}
use Rattle.policy_table.proofs.CallerLemmas.{order_of, ordered_edited, same-Decides}
use Rattle.role_domain.specs.Domains.{AreDomains, ArePatterns, Domains}
use Rattle.role_domain.specs.Helps.Turns.{CanTurn, Turn, first_turn, said_of, stands_after, turns}
use Rattle.role_domain.specs.Relations.{HasFewPatterns, Relation, fit_of, has_pattern, terms_of}
use Rattle.role_domain.specs.Sections.{Draft, IsPreparedFor, IsSectionOf, Section, all_columns, relation_of}
use Rattle.role_domain.specs.Steps.{AreReady, Touched}
use Rattle.role_domain.specs.declared.terms.Terms.{Terms}
use Rattle.role_domain.proofs.ChangeLemmas.{columns_after}
use Rattle.role_domain.proofs.CountLemmas.{Passes, count_agree, count_all, count_filter, count_map, count_nothing, some_passes}
use Rattle.role_domain.proofs.MoveLemmas.{all_stands, patterns_turned, stands_changed, turned}
use Rattle.role_graph.specs.Groups.{times}
use Rattle.role_graph.proofs.CallerLemmas.{times_from_stands}
use Rattle.role_meaning.specs.Links.{domain_of}
use Rattle.role_meaning.proofs.CallerLemmas.{all_standing}

-- a row with the columns of a relation has two
pub two_columns : (shape : RoleShape) (row : Fields) → length row ≡ role_columns shape → 2 ≤ length row
two_columns shape row is = by shape.with_domain is
  where
    by : (b : Bool) → length row ≡ (if b then 3 else 2) → 2 ≤ length row
    by true long = omega (arith, long)
    by false long = omega (arith, long)

pub two_of_each : (shape : RoleShape) (all : List Fields) → All (λ (row : Fields). length row ≡ role_columns shape) all → All (λ (row : Fields). 2 ≤ length row) all
two_of_each shape all have = All-weaker (λ (row : Fields). length row ≡ role_columns shape) (λ (row : Fields). 2 ≤ length row) (two_columns shape) all have

-- no text is a pattern of equality
never_pattern : (text : List ℕ) → is_pattern Exact text ≡ false
never_pattern [] = refl
never_pattern (byte ∷ text) = never_pattern text

-- there are not more rows with a pattern as their domain than may be
few_patterns : (shape : RoleShape) (after patterns : List Fields) → HasFewPatterns shape after → ((test : Fields → Bool) → count_by test patterns ≡ count_by (λ (row : Fields). has_pattern (fit_of shape) row && test row) after) → length patterns ≤ 64
few_patterns shape after patterns few are = by shape.with_domain refl few
  where
    long : length patterns ≡ count_by (λ (row : Fields). has_pattern (fit_of shape) row && true) after
    long = sym (count_all patterns) ∙ are (λ (row : Fields). true)

    alike : (b : Bool) → (b && true) ≡ b
    alike true = refl
    alike false = refl

    by : (b : Bool) → shape.with_domain ≡ b → (IsTrue b → length (filter (is_pattern shape.domains) (domains_of after)) ≤ 64) → length patterns ≤ 64
    by true is few =
        let fit : fit_of shape ≡ shape.domains = ap (λ (b : Bool). if b then shape.domains else Exact) is in
        let all : count_by (λ (row : Fields). has_pattern (fit_of shape) row && true) after ≡ count_by (λ (row : Fields). is_pattern shape.domains (domain_of row)) after =
        count_agree (λ (row : Fields). has_pattern (fit_of shape) row && true) (λ (row : Fields). is_pattern shape.domains (domain_of row)) after (λ row. alike (has_pattern (fit_of shape) row) ∙ ap (λ (f : Fit). is_pattern f (domain_of row)) fit) in
        omega (arith, few refl, long, all, length-filter (is_pattern shape.domains) (domains_of after), count_map (is_pattern shape.domains) domain_of after)
    by false is few =
        let fit : fit_of shape ≡ Exact = ap (λ (b : Bool). if b then shape.domains else Exact) is in
        omega (
          arith,
          long,
          count_nothing (λ (row : Fields). has_pattern (fit_of shape) row && true) after (λ row. alike (has_pattern (fit_of shape) row) ∙ ap (λ (f : Fit). is_pattern f (domain_of row)) fit ∙ never_pattern (domain_of row)),
        )

-- the rows with a pattern as their domain have two columns where all have
pub pattern_columns : (relation : Relation) (patterns : List Fields) → ArePatterns relation patterns → All (λ (row : Fields). 2 ≤ length row) relation.rows → All (λ (row : Fields). 2 ≤ length row) patterns
pattern_columns relation patterns are columns =
    all_standing (λ (row : Fields). 2 ≤ length row) patterns
    (λ row there. by row (some_passes (λ (r : Fields). has_pattern relation.terms.domains r && same row r) relation.rows (let some : 1 ≤ times row patterns = times_from_stands row patterns there in omega (arith, some, are.rows (same row)))))
  where
    by : (row : Fields) → Passes (λ (r : Fields). has_pattern relation.terms.domains r && same row r) relation.rows → 2 ≤ length row
    by row found =
        subst (λ (r : Fields). 2 ≤ length r) (sym ((same-Decides row found.row).0 (and_parts (has_pattern relation.terms.domains found.row) (same row found.row) found.passes).1))
        (All-contains (λ (r : Fields). 2 ≤ length r) relation.rows found.row columns found.stands)

-- ---- a section that is made

-- those of all rows
pub first_patterns : (shape : RoleShape) (terms : Terms) (limit : ℕ) (all patterns : List Fields) → terms ≡ terms_of shape limit → patterns ≡ filter (has_pattern terms.domains) all → HasFewPatterns shape all → ArePatterns (record { terms = terms_of shape limit; rows = all }) patterns
first_patterns shape terms limit all patterns same_terms are few = record { rows = counts; few = few_patterns shape all patterns few counts }
  where
    counts : (test : Fields → Bool) → count_by test patterns ≡ count_by (λ (row : Fields). has_pattern (fit_of shape) row && test row) all
    counts test =
        ap (count_by test) (are ∙ ap (λ (t : Terms). filter (has_pattern t.domains) all) same_terms)
        ∙ count_filter test (has_pattern (fit_of shape)) all

-- the domains of all rows can be told where there are none
pub first_can : (shape : RoleShape) (terms : Terms) (limit : ℕ) (all patterns : List Fields) (domains : Domains) → terms ≡ terms_of shape limit → domains.entries ≡ [] → 1 ≤ limit → limit ≤ 250
    → All (λ (row : Fields). length row ≡ role_columns shape) all → length all ≤ 200000 → ArePatterns (record { terms = terms_of shape limit; rows = all }) patterns → CanTurn (first_turn terms all) domains patterns
first_can shape terms limit all patterns domains same_terms empty some most columns few are =
    subst (λ (t : Terms). CanTurn (first_turn t all) domains patterns) (sym same_terms) (record {
      turned = record { balance = λ test. omega arith; stood = λ test. omega arith };
      right = subst (AreDomains (record { terms = terms_of shape limit; rows = [] })) (sym empty) (record { right = λ text. refl });
      patterns = are;
      few_before = omega arith;
      few = few;
      columns_come = two_of_each shape all columns;
      columns_go = λ k d within. absurd (omega (arith, within));
      columns = pattern_columns (record { terms = terms_of shape limit; rows = all }) patterns are (two_of_each shape all columns);
      some = some;
      most = most;
    })

-- ---- an edit that is prepared

-- the rules of a relation that come, or that go, by what was said of rules
abbrev pub moving_rules : Bool → List Fields → List (Fields × Bool) → List Fields
moving_rules comes before said = filter (λ (rule : Fields). turns comes (stands rule before) (said_of said rule (stands rule before))) (keys_of said)

-- the rows of a section's relation in tables, and after changes of these
abbrev pub rows_here : Section → Policy → List Fields
rows_here section policy = rows policy (G section.shape.number)

abbrev pub rows_behind : Section → Policy → List Change → List Fields
rows_behind section policy changes = rows (edited changes policy) (G section.shape.number)

-- what is known of an edit, and of what was said of the rules that it names
pub record Given (section : Section) (policy : Policy) (changes : List Change) (said : List (Fields × Bool)) : Type 0 where
  pub sound : IsSectionOf section (rows_here section policy)
  pub kept : IsKept policy
  pub some : 1 ≤ section.limit
  pub most : section.limit ≤ 250
  pub possible : applies changes policy ≡ true
  pub columns : all_columns (role_columns section.shape) (own (G section.shape.number) changes) ≡ true
  pub few : length (rows_behind section policy changes) ≤ 200000
  pub few_patterns : HasFewPatterns section.shape (rows_behind section policy changes)
  pub once : IsDistinct same (keys_of said)
  pub says : (one : Fields) (stood : Bool) → said_of said one stood ≡ stands_after (own (G section.shape.number) changes) one stood

-- the same of a section as its struct has it
pub given_inside : (inside section : Section) (policy : Policy) (changes : List Change) (said : List (Fields × Bool)) → inside ≡ section → IsSectionOf section (rows_here section policy) → IsKept policy → 1 ≤ inside.limit → inside.limit ≤ 250
    → applies changes policy ≡ true → all_columns (role_columns section.shape) (own (G section.shape.number) changes) ≡ true → length (rows_behind section policy changes) ≤ 200000 → HasFewPatterns section.shape (rows_behind section policy changes)
    → IsDistinct same (keys_of said) → ((one : Fields) (stood : Bool) → said_of said one stood ≡ stands_after (own (G inside.shape.number) changes) one stood) → Given inside policy changes said
given_inside inside section policy changes said is sound kept some most possible columns few patterns once says = record {
  sound = subst (λ (s : Section). IsSectionOf s (rows_here s policy)) (sym is) sound;
  kept = kept;
  some = some;
  most = most;
  possible = possible;
  columns = subst (λ (s : Section). all_columns (role_columns s.shape) (own (G s.shape.number) changes) ≡ true) (sym is) columns;
  few = subst (λ (s : Section). length (rows_behind s policy changes) ≤ 200000) (sym is) few;
  few_patterns = subst (λ (s : Section). HasFewPatterns s.shape (rows_behind s policy changes)) (sym is) patterns;
  once = once;
  says = says;
}

-- the turn that the edit makes
abbrev pub turn_of : Section → Policy → List Change → List Fields → List Fields → Turn
turn_of section policy changes come go =
    record { terms = terms_of section.shape section.limit; before = rows_here section policy; after = rows_behind section policy changes; come = come; go = go }

module _ (section : Section) (policy : Policy) (changes : List Change) (said : List (Fields × Bool)) (given : Given section policy changes said) where
  abbrev before : List Fields
  before = rows_here section policy

  abbrev behind : List Fields
  behind = rows_behind section policy changes

  abbrev moving : Bool → List Fields
  moving comes = moving_rules comes before said

  once_before : IsDistinct same before
  once_before = given.kept.once (G section.shape.number)

  once_behind : IsDistinct same behind
  once_behind = (ordered_edited changes policy (order_of policy given.kept) given.possible).once (G section.shape.number)

  stand : (one : Fields) → stands one behind ≡ said_of said one (stands one before)
  stand one = stands_changed section.shape.number changes policy (order_of policy given.kept) given.possible one ∙ sym (given.says one (stands one before))

  columns_behind : All (λ (row : Fields). length row ≡ role_columns section.shape) behind
  columns_behind = columns_after section.shape.number (role_columns section.shape) changes policy given.columns given.sound.columns

  two_come : All (λ (row : Fields). 2 ≤ length row) (moving true)
  two_come =
      All-weaker (λ (row : Fields). turns true (stands row before) (said_of said row (stands row before)) ≡ true) (λ (row : Fields). 2 ≤ length row)
      (λ row comes. all_stands (λ (r : Fields). 2 ≤ length r) behind row (two_of_each section.shape behind columns_behind) (stand row ∙ (and_parts (said_of said row (stands row before)) _ comes).0)) (moving true)
      (filter_passes (λ (row : Fields). turns true (stands row before) (said_of said row (stands row before))) (keys_of said))

  two_go : All (λ (row : Fields). 2 ≤ length row) (moving false)
  two_go =
      All-weaker (λ (row : Fields). turns false (stands row before) (said_of said row (stands row before)) ≡ true) (λ (row : Fields). 2 ≤ length row)
      (λ row goes. all_stands (λ (r : Fields). 2 ≤ length r) before row (two_of_each section.shape before given.sound.columns) (and_parts (stands row before) _ goes).0) (moving false)
      (filter_passes (λ (row : Fields). turns false (stands row before) (said_of said row (stands row before))) (keys_of said))

  module _ (patterns : List Fields) (are : patterns ≡ filter (λ (rule : Fields). said_of said rule true) section.patterns ++ filter (has_pattern (fit_of section.shape)) (moving true)) where
    patterns_behind : ArePatterns (relation_of section behind) patterns
    patterns_behind = record { rows = counts; few = few_patterns section.shape behind patterns given.few_patterns counts }
      where
        counts : (test : Fields → Bool) → count_by test patterns ≡ count_by (λ (row : Fields). has_pattern (fit_of section.shape) row && test row) behind
        counts = patterns_turned before behind said once_before once_behind given.once stand (terms_of section.shape section.limit) section.patterns patterns given.sound.patterns are

    -- what becomes of the domains can be told
    pub can_turn : (come go : List Fields) → come ≡ moving true → go ≡ moving false → CanTurn (turn_of section policy changes come go) section.domains patterns
    can_turn come go come_is go_is = record {
      turned = turned before behind said once_before once_behind given.once stand (terms_of section.shape section.limit) come go come_is go_is;
      right = given.sound.domains;
      patterns = patterns_behind;
      few_before = given.sound.few;
      few = given.few;
      columns_come = subst (All (λ (row : Fields). 2 ≤ length row)) (sym come_is) two_come;
      columns_go = subst (All (λ (row : Fields). 2 ≤ length row)) (sym go_is) two_go;
      columns = pattern_columns (relation_of section behind) patterns patterns_behind (two_of_each section.shape behind columns_behind);
      some = given.some;
      most = given.most;
    }

    -- and what is told makes a draft that is prepared
    pub draft_ready : (new : Domains) (touched : Touched) (draft : Draft) → draft.touched ≡ touched → draft.patterns ≡ patterns → AreReady (relation_of section behind) touched new
        → IsPreparedFor (record section { domains = new }) behind draft
    draft_ready new touched draft touched_are patterns_are ready = record {
      columns = columns_behind;
      few = given.few;
      domains = subst (λ (t : Touched). AreReady (relation_of section behind) t new) (sym touched_are) ready;
      patterns = subst (ArePatterns (relation_of section behind)) (sym patterns_are) patterns_behind;
    }

-- the rows with a pattern as their domain, as the code gathers them
pub patterns_given : (section : Section) (before : List Fields) (said : List (Fields × Bool)) (terms : Terms) (old come patterns : List Fields) → terms ≡ terms_of section.shape section.limit → old ≡ section.patterns → come ≡ moving_rules true before said
    → patterns ≡ filter (λ (rule : Fields). said_of said rule true) old ++ filter (has_pattern terms.domains) come
    → patterns ≡ filter (λ (rule : Fields). said_of said rule true) section.patterns ++ filter (has_pattern (fit_of section.shape)) (moving_rules true before said)
patterns_given section before said terms old come patterns same_terms same_old same_come are =
    are
    ∙ ap (λ (l : List Fields). filter (λ (rule : Fields). said_of said rule true) l ++ filter (has_pattern terms.domains) come) same_old
    ∙ ap (λ (l : List Fields). filter (λ (rule : Fields). said_of said rule true) section.patterns ++ filter (has_pattern terms.domains) l) same_come
    ∙ ap (λ (t : Terms). filter (λ (rule : Fields). said_of said rule true) section.patterns ++ filter (has_pattern t.domains) (moving_rules true before said)) same_terms
