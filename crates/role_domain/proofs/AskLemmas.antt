-- What is asked of names in a domain of a section.
use Rattle.std.proofs.Common.{◌≡◌, ◌⊎◌, inl, inr, ◌≤◌, ◌↔◌, ◌+◌, ◌&&◌, ◌||◌, ℕ, Bool, true, false, List, [], ◌∷◌, Option, None, Some, IsTrue, length, map, refl, sym, ap, subst, ◌∙◌, arith, le-leb, leb-true}
use Rattle.std.specs.Prelude.{filter, is_some, nat_le, unwrap_or}
use Rattle.std.specs.Borrow.{Bor}
use Rattle.std.specs.List.{Contains, list_any}
use Rattle.std.specs.Option.{option_copied}
use Rattle.std.specs.Str.{bytes_eq}
use Rattle.std.proofs.lemmas.Cmp.{nat_list_eq_equiv}
use Rattle.std.proofs.lemmas.Map.Made.{length-le_from_is_member}
use Rattle.std.proofs.lemmas.Slice.Eq.{bytes_eq-Decides}
use Rattle.indexmap.proofs.CallerLemmas.{Contains-list_any}
use Rattle.perm_base.specs.Patterns.{is_pattern}
use Rattle.perm_base.specs.declared.shapes.Fit.{Fit}
use Rattle.policy_table.specs.Limits.{different, domains_of}
use Rattle.policy_table.specs.Tables.{Fields, same}
use Rattle.policy_table.proofs.CallerLemmas.{among_different, distinct_different}
use Rattle.role_domain.specs.Domains.{IsDomain, IsRight, found}
use Rattle.role_domain.specs.Helps.Walks.{IsDistance, inner, walk_of}
use Rattle.role_domain.specs.Relations.{HasFewRoles, IsNamed, Tells, TellsRows, asked_rows, counted, named, pair_of, terms_of}
use Rattle.role_domain.specs.Sections.{IsSectionOf, Section, relation_of}
use Rattle.role_domain.specs.declared.domain.Domain.{Domain}
use Rattle.role_domain.specs.declared.terms.Terms.{Terms}
use Rattle.role_domain.proofs.Across.{Alike, all_implied_across, alike_on, depth_across, far_across, few_across, graph_alike, graph_of, has_across, inner_of, linked_across, outer_alike, outer_of, patterns_alike, reaches_across, row_counts, users_across}
use Rattle.role_domain.proofs.BringLemmas.{FitsDecided, tells_of, test_of}
use Rattle.role_domain.proofs.CountLemmas.{Passes, count_agree_on, count_alike, count_filter, count_map, pairs_of, passing_counts, some_passes, times_pairs}
use Rattle.role_domain.proofs.FitLemmas.{fits_same}
use Rattle.role_domain.proofs.WalkLemmas.{far_told, linked_told}
use Rattle.role_graph.specs.Graph.{Graph, GraphReaches, IsGraphFar, asked_rows as graph_asked, shape_of}
use Rattle.role_graph.specs.Groups.{times}
use Rattle.role_graph.proofs.CallerLemmas.{same_itself, stands_from_times}
use Rattle.role_meaning.specs.Depths.{IsDepth}
use Rattle.role_meaning.specs.Distances.{IsFar}
use Rattle.role_meaning.specs.Implied.{AreImplied}
use Rattle.role_meaning.specs.ImpliedUsers.{AreImpliedUsers, AreUsersOf}
use Rattle.role_meaning.specs.Links.{HasRoles, IsLinked, domain_of, role_of, user_of}
use Rattle.role_meaning.proofs.CallerLemmas.{map_cases, map_stands, stands_cases, stands_nowhere}

pub copied_some : {X : Type 0} (o : Option (Bor X)) → is_some (option_copied o) ≡ is_some o
copied_some None = refl
copied_some (Some x) = refl

-- two tests of which each tells the other
same_tests : (one other : Bool) → (IsTrue one → IsTrue other) → (IsTrue other → IsTrue one) → one ≡ other
same_tests true other there back = sym (there refl)
same_tests false true there back = back refl
same_tests false false there back = refl

-- a section that is asked in a domain
module _ (section : Section) (all_rows : List Fields) (sound : IsSectionOf section all_rows) (domain : Option (List ℕ)) (text : List ℕ) (asks : is_some domain ≡ section.shape.with_domain) (is : text ≡ unwrap_or domain []) where
  outer : Alike (inner_of (terms_of section.shape section.limit) all_rows text) (outer_of section.shape all_rows domain)
  outer = outer_alike section.shape section.limit all_rows domain text sound.columns asks is

  -- the graph of a domain that is there
  module _ (decided : FitsDecided) (there : Domain) (at : Some there ≡ found section.domains.entries text) where
    pub right : IsDomain (relation_of section all_rows) text there
    right = subst (IsRight (relation_of section all_rows) text) (sym at) (sound.domains.right text)

    alike : Alike (graph_of there.graph.names there.graph.rows) (outer_of section.shape all_rows domain)
    alike =
        alike_on (graph_of there.graph.names there.graph.rows) (inner_of (terms_of section.shape section.limit) all_rows text) (outer_of section.shape all_rows domain)
        (graph_alike there.graph.names (terms_of section.shape section.limit) there.graph.rows all_rows text (test_of decided (terms_of section.shape section.limit).domains text) right.names (tells_of decided (terms_of section.shape section.limit).domains text)
        (right.rows (test_of decided (terms_of section.shape section.limit).domains text) (tells_of decided (terms_of section.shape section.limit).domains text)))
        outer

    pub linked_there : (x y : List ℕ) (test : Bool) → IsTrue test ↔ GraphReaches there.graph there.graph.limit x y → IsTrue test ↔ IsLinked section.shape all_rows section.limit domain x y
    linked_there x y test told =
        linked_across (graph_of there.graph.names there.graph.rows) (outer_of section.shape all_rows domain) section.limit x y test alike
        (subst (λ (n : ℕ). IsTrue test ↔ GraphReaches there.graph n x y) right.limited told)

    pub reach_there : (x y : List ℕ) → GraphReaches there.graph there.graph.limit x y ↔ IsLinked section.shape all_rows section.limit domain x y
    reach_there x y = (
      λ reaches. reaches_across (graph_of there.graph.names there.graph.rows) (outer_of section.shape all_rows domain) section.limit x y alike.there (subst (λ (n : ℕ). GraphReaches there.graph n x y) right.limited reaches),
      λ linked. subst (λ (n : ℕ). GraphReaches there.graph n x y) (sym right.limited) (reaches_across (outer_of section.shape all_rows domain) (graph_of there.graph.names there.graph.rows) section.limit x y alike.back linked),
    )

    -- the role of a row with the domain's text is one of its user in the graph
    pub roles_there : (user : List ℕ) (roles : List (List ℕ)) (row : Fields) → ((role : List ℕ) → Contains roles role ↔ Contains there.graph.rows (user ∷ role ∷ [])) → Contains all_rows row → user_of row ≡ user → domain_of row ≡ text → Contains roles (role_of row)
    roles_there user roles row has stands is_user is_domain =
        (has (role_of row)).1 (subst (λ (u : List ℕ). Contains there.graph.rows (u ∷ role_of row ∷ [])) is_user (stands_from_times (pair_of row) there.graph.rows (omega (arith, as_often, some))))
      where
        told : List ℕ → Bool
        told = test_of decided (terms_of section.shape section.limit).domains text

        tells : Tells (terms_of section.shape section.limit).domains text told
        tells = tells_of decided (terms_of section.shape section.limit).domains text

        as_often : times (pair_of row) there.graph.rows ≡ counted told (pair_of row) all_rows
        as_often = right.rows told tells (pair_of row)

        fits : told (domain_of row) ≡ true
        fits = (tells.told (domain_of row)).1 (fits_same (terms_of section.shape section.limit).domains text (domain_of row) (sym is_domain))

        some : 1 ≤ counted told (pair_of row) all_rows
        some = passing_counts (λ (r : Fields). told (domain_of r) && same (pair_of row) (pair_of r)) all_rows row stands (ap (λ (b : Bool). b && same (pair_of row) (pair_of row)) fits ∙ same_itself (pair_of row))

    pub far_there : (x y : List ℕ) (distance : ℕ) → IsGraphFar there.graph x y distance → IsFar section.shape all_rows domain x y distance
    far_there x y distance far = far_across (graph_of there.graph.names there.graph.rows) (outer_of section.shape all_rows domain) x y distance alike far

    pub has_there : (x : List ℕ) (test : Bool) → IsTrue test ↔ HasRoles (shape_of there.graph.names) there.graph.rows None x → IsTrue test ↔ HasRoles section.shape all_rows domain x
    has_there x test told = has_across (graph_of there.graph.names there.graph.rows) (outer_of section.shape all_rows domain) x test alike told

    pub depth_there : (x : List ℕ) (depth : ℕ) → IsDepth (shape_of there.graph.names) there.graph.rows there.graph.limit None x depth → IsDepth section.shape all_rows section.limit domain x depth
    depth_there x depth is =
        depth_across (graph_of there.graph.names there.graph.rows) (outer_of section.shape all_rows domain) section.limit x depth alike
        (subst (λ (n : ℕ). IsDepth (shape_of there.graph.names) there.graph.rows n None x depth) right.limited is)

    pub implied_there : (x : List ℕ) (names : List (List ℕ)) → AreImplied (shape_of there.graph.names) there.graph.rows there.graph.limit None x names → AreImplied section.shape all_rows section.limit domain x names
    implied_there x names are =
        all_implied_across (graph_of there.graph.names there.graph.rows) (outer_of section.shape all_rows domain) section.limit x names alike
        (subst (λ (n : ℕ). AreImplied (shape_of there.graph.names) there.graph.rows n None x names) right.limited are)

    pub users_there : (x : List ℕ) (among : List Fields) (names : List (List ℕ)) → among ≡ all_rows → AreUsersOf (shape_of there.graph.names) there.graph.rows there.graph.limit None (map user_of among) x names → AreImpliedUsers section.shape all_rows section.limit domain x names
    users_there x among names all are =
        users_across (graph_of there.graph.names there.graph.rows) (outer_of section.shape all_rows domain) section.limit (map user_of all_rows) x names alike
        (subst (λ (l : List Fields). AreUsersOf (shape_of there.graph.names) there.graph.rows section.limit None (map user_of l) x names) all
        (subst (λ (n : ℕ). AreUsersOf (shape_of there.graph.names) there.graph.rows n None (map user_of among) x names) right.limited are))

    -- some row has its text
    is_named : IsNamed all_rows domain
    is_named = by domain is (some_passes (λ (row : Fields). bytes_eq text (domain_of row)) all_rows (let own : there.own ≡ named text all_rows = right.own in omega (arith, own, right.some)))
      where
        by : (asked : Option (List ℕ)) → text ≡ unwrap_or asked [] → Passes (λ (row : Fields). bytes_eq text (domain_of row)) all_rows → IsNamed all_rows asked
        by None same passes = tt
        by (Some name) same passes =
            subst (Contains (domains_of all_rows)) (sym ((bytes_eq-Decides text (domain_of passes.row)).0 passes.passes) ∙ same) (map_stands domain_of all_rows passes.row passes.stands)

    pub kept_there : (test : Bool) → IsTrue test ↔ (length (different (map role_of there.graph.rows)) ≤ 1024) → IsTrue test ↔ (IsNamed all_rows domain × HasFewRoles section.shape all_rows domain)
    kept_there test told = (
      λ holds. (is_named, few_across (graph_of there.graph.names there.graph.rows) (outer_of section.shape all_rows domain) alike.back (few (told.0 holds))),
      λ both. told.1 (back (few_across (outer_of section.shape all_rows domain) (graph_of there.graph.names there.graph.rows) alike.there both.1)),
    )
      where
        any_stands : (texts : List (List ℕ)) (one : List ℕ) → Contains texts one → list_any (bytes_eq one) texts ≡ true
        any_stands [] one none = absurd (stands_nowhere one none)
        any_stands (first ∷ texts) one stands = by (stands_cases first texts one stands) (any_stands texts one)
          where
            or_true : (b : Bool) → (b || true) ≡ true
            or_true true = refl
            or_true false = refl

            by : (first ≡ one) ⊎ Contains texts one → (Contains texts one → list_any (bytes_eq one) texts ≡ true) → (bytes_eq one first || list_any (bytes_eq one) texts) ≡ true
            by (inl same) more = ap (λ (b : Bool). b || list_any (bytes_eq one) texts) ((bytes_eq-Decides one first).1 (sym same))
            by (inr behind) more = ap (λ (b : Bool). bytes_eq one first || b) (more behind) ∙ or_true (bytes_eq one first)

        any_from : (texts : List (List ℕ)) (one : List ℕ) → list_any (bytes_eq one) texts ≡ true → Contains texts one
        any_from texts one among = Contains-list_any bytes_eq (λ x y same. (bytes_eq-Decides x y).0 same) texts one among

        few : length (different (map role_of there.graph.rows)) ≤ 1024 → HasFewRoles (shape_of there.graph.names) there.graph.rows None
        few within = record {
          names = different (map role_of there.graph.rows);
          few = within;
          all = λ row stands counts. any_from (different (map role_of there.graph.rows)) (role_of row)
              (among_different (role_of row) (map role_of there.graph.rows) ∙ any_stands (map role_of there.graph.rows) (role_of row) (map_stands role_of there.graph.rows row stands));
        }

        back : HasFewRoles (shape_of there.graph.names) there.graph.rows None → length (different (map role_of there.graph.rows)) ≤ 1024
        back given =
            let fewer : length (different (map role_of there.graph.rows)) ≤ length given.names =
            length-le_from_is_member nat_list_eq_equiv (different (map role_of there.graph.rows)) given.names (distinct_different (map role_of there.graph.rows))
            (λ one among. any_stands given.names one (among_names one (map_cases role_of there.graph.rows one (any_from (map role_of there.graph.rows) one (sym (among_different one (map role_of there.graph.rows)) ∙ among))))) in
            omega (arith, fewer, given.few)
          where
            among_names : (one : List ℕ) → (row : Fields) × Contains there.graph.rows row × (role_of row ≡ one) → Contains given.names one
            among_names one (row, stands, same) = subst (Contains given.names) same (given.all row stands tt)

    -- the rows of the graph that are asked are those that count
    asked_there : (x : List ℕ) (test : Fields → Bool) → TellsRows section.shape all_rows domain test → graph_asked there.graph.names x there.graph.rows ≡ asked_rows section.shape test x all_rows
    asked_there x test tells =
        ap (λ (names : Fit). graph_asked names x there.graph.rows) right.names
        ∙ count_alike asks_it there.graph.rows (pairs_of told all_rows) (λ one. right.rows told (tells_of decided (terms_of section.shape section.limit).domains text) one ∙ sym (times_pairs told one all_rows))
        ∙ count_map asks_it pair_of (filter (λ (row : Fields). told (domain_of row)) all_rows)
        ∙ count_filter (λ (row : Fields). asks_it (pair_of row)) (λ (row : Fields). told (domain_of row)) all_rows
        ∙ count_agree_on (λ (row : Fields). told (domain_of row) && asks_it (pair_of row)) (λ (row : Fields). test row && asks_it row) all_rows (λ row stands. ap (λ (b : Bool). b && asks_it row) (agree row stands))
      where
        asks_it : Fields → Bool
        asks_it one = bytes_eq x (user_of one) || is_pattern section.shape.names (user_of one)

        told : List ℕ → Bool
        told = test_of decided (terms_of section.shape section.limit).domains text

        agree : (row : Fields) → Contains all_rows row → told (domain_of row) ≡ test row
        agree row stands =
            let counts = row_counts section.shape all_rows domain text sound.columns asks is row stands in
            let fits = (tells_of decided (terms_of section.shape section.limit).domains text).told (domain_of row) in
            same_tests (told (domain_of row)) (test row) (λ holds. (tells.told row stands).1 (counts.0 (fits.0 holds))) (λ holds. fits.1 (counts.1 ((tells.told row stands).0 holds)))

    -- a question takes at most as many steps as these, and one more
    pub steps_there : (x : List ℕ) (before after : ℕ) (test : Fields → Bool) → (length (different (map role_of there.graph.rows)) ≤ 1024 → after ≤ before + graph_asked there.graph.names x there.graph.rows + 1) → TellsRows section.shape all_rows domain test → HasFewRoles section.shape all_rows domain → after ≤ before + asked_rows section.shape test x all_rows + 1
    steps_there x before after test few_steps tells few =
        let count : ℕ = length (different (map role_of there.graph.rows)) in
        let kept : IsTrue (nat_le count 1024) = (kept_there (nat_le count 1024) (leb-true count 1024, le-leb count 1024)).1 (is_named, few) in
        omega (arith, few_steps (leb-true count 1024 kept), asked_there x test tells)

  -- a domain that no row names
  module _ (nowhere : None ≡ found section.domains.entries text) where
    none : named text all_rows ≡ 0
    none = subst (IsRight (relation_of section all_rows) text) (sym nowhere) (sound.domains.right text)

    alike_patterns : Alike (inner_of (terms_of section.shape section.limit) section.patterns text) (outer_of section.shape all_rows domain)
    alike_patterns =
        alike_on (inner_of (terms_of section.shape section.limit) section.patterns text) (inner_of (terms_of section.shape section.limit) all_rows text) (outer_of section.shape all_rows domain)
        (patterns_alike (relation_of section all_rows) section.patterns text sound.patterns none) outer

    pub linked_nowhere : (terms : Terms) (walked : List Fields) (x y : List ℕ) (distance : Option ℕ) (test : Bool) → terms ≡ terms_of section.shape section.limit → walked ≡ section.patterns → test ≡ is_some distance → IsDistance (walk_of terms walked text) x y section.limit distance → IsTrue test ↔ IsLinked section.shape all_rows section.limit domain x y
    linked_nowhere terms walked x y distance test same_terms same_rows told far =
        linked_across (inner_of (terms_of section.shape section.limit) section.patterns text) (outer_of section.shape all_rows domain) section.limit x y test alike_patterns
        (linked_told (walk_of (terms_of section.shape section.limit) section.patterns text) x y section.limit distance test told
        (subst (λ (t : Terms). IsDistance (walk_of t section.patterns text) x y section.limit distance) same_terms (subst (λ (l : List Fields). IsDistance (walk_of terms l text) x y section.limit distance) same_rows far)))

    pub far_nowhere : (terms : Terms) (walked : List Fields) (x y : List ℕ) (distance : Option ℕ) (result : ℕ) → terms ≡ terms_of section.shape section.limit → walked ≡ section.patterns → result ≡ unwrap_or distance 255 → IsDistance (walk_of terms walked text) x y 254 distance → IsFar section.shape all_rows domain x y result
    far_nowhere terms walked x y distance result same_terms same_rows told far =
        far_across (inner_of (terms_of section.shape section.limit) section.patterns text) (outer_of section.shape all_rows domain) x y result alike_patterns
        (far_told (walk_of (terms_of section.shape section.limit) section.patterns text) x y distance result told
        (subst (λ (t : Terms). IsDistance (walk_of t section.patterns text) x y 254 distance) same_terms (subst (λ (l : List Fields). IsDistance (walk_of terms l text) x y 254 distance) same_rows far)))

    pub has_nowhere : (terms : Terms) (walked : List Fields) (x : List ℕ) (test : Bool) → terms ≡ terms_of section.shape section.limit → walked ≡ section.patterns → IsTrue test ↔ HasRoles (inner terms) walked (Some text) x → IsTrue test ↔ HasRoles section.shape all_rows domain x
    has_nowhere terms walked x test same_terms same_rows told =
        has_across (inner_of (terms_of section.shape section.limit) section.patterns text) (outer_of section.shape all_rows domain) x test alike_patterns
        (subst (λ (t : Terms). IsTrue test ↔ HasRoles (inner t) section.patterns (Some text) x) same_terms (subst (λ (l : List Fields). IsTrue test ↔ HasRoles (inner terms) l (Some text) x) same_rows told))

    pub depth_nowhere : (terms : Terms) (walked : List Fields) (x : List ℕ) (depth : ℕ) → terms ≡ terms_of section.shape section.limit → walked ≡ section.patterns → IsDepth (inner terms) walked section.limit (Some text) x depth → IsDepth section.shape all_rows section.limit domain x depth
    depth_nowhere terms walked x depth same_terms same_rows is =
        depth_across (inner_of (terms_of section.shape section.limit) section.patterns text) (outer_of section.shape all_rows domain) section.limit x depth alike_patterns
        (subst (λ (t : Terms). IsDepth (inner t) section.patterns section.limit (Some text) x depth) same_terms (subst (λ (l : List Fields). IsDepth (inner terms) l section.limit (Some text) x depth) same_rows is))

    pub implied_nowhere : (decided : FitsDecided) (graph : Graph) (x : List ℕ) (names : List (List ℕ)) → graph.names ≡ section.shape.names → graph.limit ≡ section.limit
        → ((test : List ℕ → Bool) → Tells (terms_of section.shape section.limit).domains text test → (one : Fields) → times one graph.rows ≡ counted test one section.patterns)
        → AreImplied (shape_of graph.names) graph.rows graph.limit None x names → AreImplied section.shape all_rows section.limit domain x names
    implied_nowhere decided graph x names same_names same_limit counts are =
        all_implied_across (graph_of graph.names graph.rows) (outer_of section.shape all_rows domain) section.limit x names
        (alike_on (graph_of graph.names graph.rows) (inner_of (terms_of section.shape section.limit) section.patterns text) (outer_of section.shape all_rows domain)
        (graph_alike graph.names (terms_of section.shape section.limit) graph.rows section.patterns text (test_of decided (terms_of section.shape section.limit).domains text) same_names (tells_of decided (terms_of section.shape section.limit).domains text)
        (counts (test_of decided (terms_of section.shape section.limit).domains text) (tells_of decided (terms_of section.shape section.limit).domains text)))
        alike_patterns)
        (subst (λ (n : ℕ). AreImplied (shape_of graph.names) graph.rows n None x names) same_limit are)

    pub users_nowhere : (decided : FitsDecided) (graph : Graph) (x : List ℕ) (among : List Fields) (names : List (List ℕ)) → among ≡ all_rows → graph.names ≡ section.shape.names → graph.limit ≡ section.limit
        → ((test : List ℕ → Bool) → Tells (terms_of section.shape section.limit).domains text test → (one : Fields) → times one graph.rows ≡ counted test one section.patterns)
        → AreUsersOf (shape_of graph.names) graph.rows graph.limit None (map user_of among) x names → AreImpliedUsers section.shape all_rows section.limit domain x names
    users_nowhere decided graph x among names all same_names same_limit counts are =
        users_across (graph_of graph.names graph.rows) (outer_of section.shape all_rows domain) section.limit (map user_of all_rows) x names
        (alike_on (graph_of graph.names graph.rows) (inner_of (terms_of section.shape section.limit) section.patterns text) (outer_of section.shape all_rows domain)
        (graph_alike graph.names (terms_of section.shape section.limit) graph.rows section.patterns text (test_of decided (terms_of section.shape section.limit).domains text) same_names (tells_of decided (terms_of section.shape section.limit).domains text)
        (counts (test_of decided (terms_of section.shape section.limit).domains text) (tells_of decided (terms_of section.shape section.limit).domains text)))
        alike_patterns)
        (subst (λ (l : List Fields). AreUsersOf (shape_of graph.names) graph.rows section.limit None (map user_of l) x names) all
        (subst (λ (n : ℕ). AreUsersOf (shape_of graph.names) graph.rows n None (map user_of among) x names) same_limit are))

    -- no row has its text
    pub no_row : (row : Fields) → Contains all_rows row → text ≡ domain_of row → ⊥
    no_row row stands equal =
        let some : 1 ≤ named text all_rows = passing_counts (λ (r : Fields). bytes_eq text (domain_of r)) all_rows row stands ((bytes_eq-Decides text (domain_of row)).1 equal) in
        let no : named text all_rows ≡ 0 = none in
        omega (arith, some, no)
