-- Links that go over from rows to others which have the same users and roles where they count.
use Rattle.std.proofs.Common.{◌≡◌, ◌⊎◌, inl, inr, ◌≤◌, ◌&&◌, ◌↔◌, ℕ, zero, suc, Bool, true, false, List, [], ◌∷◌, Option, None, Some, IsTrue, length, map, refl, sym, ap, subst, ◌∙◌, arith}
use Rattle.std.specs.Prelude.{All, if◌then◌else◌, is_some, unwrap_or}
use Rattle.std.specs.List.{Contains, count_by}
use Rattle.std.specs.Str.{bytes_eq}
use Rattle.std.proofs.lemmas.Bool.{and_parts}
use Rattle.std.proofs.lemmas.List.Elements.{All-contains}
use Rattle.std.proofs.lemmas.Slice.Eq.{bytes_eq-Decides}
use Rattle.perm_base.specs.Patterns.{is_pattern}
use Rattle.perm_base.specs.declared.shapes.Fit.{Fit}
use Rattle.perm_base.specs.declared.shapes.Fit.TheVariants.{Exact}
use Rattle.perm_base.specs.declared.shapes.RoleShape.{RoleShape}
use Rattle.policy_table.specs.Limits.{role_columns}
use Rattle.policy_table.specs.Tables.{Fields, same}
use Rattle.policy_table.proofs.CallerLemmas.{same-Decides}
use Rattle.role_domain.specs.Domains.{ArePatterns}
use Rattle.role_domain.specs.Helps.Walks.{inner}
use Rattle.role_domain.specs.Relations.{HasFewRoles, Relation, Tells, counted, fit_of, has_pattern, named, pair_of, terms_of}
use Rattle.role_domain.specs.declared.terms.Terms.{Terms}
use Rattle.role_domain.proofs.CountLemmas.{Passes, passing_counts, some_passes}
use Rattle.role_domain.proofs.FitLemmas.{fits_same}
use Rattle.role_graph.specs.Graph.{shape_of}
use Rattle.role_graph.specs.Groups.{times}
use Rattle.role_graph.proofs.CallerLemmas.{same_itself, stands_from_times, times_from_stands}
use Rattle.role_meaning.specs.Depths.{IsDepth, ReachesTop}
use Rattle.role_meaning.specs.Distances.{IsFar}
use Rattle.role_meaning.specs.Fits.{Fits}
use Rattle.role_meaning.specs.Implied.{AreImplied, IsImplied, IsNearer}
use Rattle.role_meaning.specs.ImpliedUsers.{AreUsersOf, IsUserOf}
use Rattle.role_meaning.specs.Links.{CountsIn, HasRoles, Reaches, domain_of, role_of, user_of}
use Rattle.role_meaning.proofs.CallerLemmas.{map_stands, plain_fits}

-- rows, and the domain in which they are asked
pub record Asked : Type 0 where
  pub shape : RoleShape
  pub rows : List Fields
  pub domain : Option (List ℕ)

-- a row that counts there, with the user and the role of another
pub record Counterpart (asked : Asked) (row : Fields) : Type 0 where
  pub one : Fields
  pub stands : Contains asked.rows one
  pub counts : CountsIn asked.shape asked.domain one
  pub user : user_of one ≡ user_of row
  pub role : role_of one ≡ role_of row

-- each row that counts in the first has one in the second
pub record Covers (one other : Asked) : Type 0 where
  pub names : one.shape.names ≡ other.shape.names
  pub each : (row : Fields) → Contains one.rows row → CountsIn one.shape one.domain row → Counterpart other row

-- and the other way round
pub record Alike (one other : Asked) : Type 0 where
  pub there : Covers one other
  pub back : Covers other one

abbrev pub ReachesIn : Asked → ℕ → List ℕ → List ℕ → Type 0
ReachesIn asked links x y = Reaches asked.shape asked.rows asked.domain links x y

covers_on : (one other third : Asked) → Covers one other → Covers other third → Covers one third
covers_on one other third first second = record {
  names = first.names ∙ second.names;
  each = λ row stands counts.
      (let between = first.each row stands counts in
      let last = second.each between.one between.stands between.counts in
      record { one = last.one; stands = last.stands; counts = last.counts; user = last.user ∙ between.user; role = last.role ∙ between.role });
}

pub alike_on : (one other third : Asked) → Alike one other → Alike other third → Alike one third
alike_on one other third first second = record {
  there = covers_on one other third first.there second.there;
  back = covers_on third other one second.back first.back;
}

fits_across : (one other : Asked) (name : List ℕ) (row found : Fields) → one.shape.names ≡ other.shape.names → user_of found ≡ user_of row → Fits one.shape.names name (user_of row) → Fits other.shape.names name (user_of found)
fits_across one other name row found names user fits =
    subst (Fits other.shape.names name) (sym user) (subst (λ (fit : Fit). Fits fit name (user_of row)) names fits)

pub roles_across : (one other : Asked) (name : List ℕ) → Covers one other → HasRoles one.shape one.rows one.domain name → HasRoles other.shape other.rows other.domain name
roles_across one other name covers link =
    let found = covers.each link.row link.stands link.counts in
    record { row = found.one; stands = found.stands; fits = fits_across one other name link.row found.one covers.names found.user link.fits; counts = found.counts; holds = tt }

pub reaches_across : (one other : Asked) (links : ℕ) (x y : List ℕ) → Covers one other → ReachesIn one links x y → ReachesIn other links x y
unfolding Reaches
reaches_across one other zero x y covers same = same
reaches_across one other (suc links) x y covers (inl same) = inl same
reaches_across one other (suc links) x y covers (inr link) =
    let found = covers.each link.row link.stands link.counts in
    inr (record {
      row = found.one;
      stands = found.stands;
      fits = fits_across one other x link.row found.one covers.names found.user link.fits;
      counts = found.counts;
      holds = subst (λ (role : List ℕ). Reaches other.shape other.rows other.domain links role y) (sym found.role) (reaches_across one other links (role_of link.row) y covers link.holds);
    })

pub linked_across : (one other : Asked) (links : ℕ) (x y : List ℕ) (test : Bool) → Alike one other → IsTrue test ↔ ReachesIn one links x y → IsTrue test ↔ ReachesIn other links x y
linked_across one other links x y test alike told =
    (λ holds. reaches_across one other links x y alike.there (told.0 holds), λ reaches. told.1 (reaches_across other one links x y alike.back reaches))

pub has_across : (one other : Asked) (name : List ℕ) (test : Bool) → Alike one other → IsTrue test ↔ HasRoles one.shape one.rows one.domain name → IsTrue test ↔ HasRoles other.shape other.rows other.domain name
has_across one other name test alike told = (λ holds. roles_across one other name alike.there (told.0 holds), λ has. told.1 (roles_across other one name alike.back has))

pub far_across : (one other : Asked) (x y : List ℕ) (distance : ℕ) → Alike one other → IsFar one.shape one.rows one.domain x y distance → IsFar other.shape other.rows other.domain x y distance
far_across one other x y distance alike far = record {
  within = far.within;
  holds = λ low. reaches_across one other distance x y alike.there (far.holds low);
  least = λ lower less reaches. far.least lower less (reaches_across other one lower x y alike.back reaches);
}

top_across : (one other : Asked) (links : ℕ) (x : List ℕ) → Alike one other → ReachesTop one.shape one.rows one.domain links x → ReachesTop other.shape other.rows other.domain links x
top_across one other links x alike reaches = record {
  top = reaches.top;
  reaches = reaches_across one other links x reaches.top alike.there reaches.reaches;
  ends = λ has. reaches.ends (roles_across other one reaches.top alike.back has);
}

pub depth_across : (one other : Asked) (limit : ℕ) (x : List ℕ) (depth : ℕ) → Alike one other → IsDepth one.shape one.rows limit one.domain x depth → IsDepth other.shape other.rows limit other.domain x depth
depth_across one other limit x depth alike is = record {
  within = is.within;
  holds = λ low. top_across one other depth x alike (is.holds low);
  least = λ lower less reaches. is.least lower less (top_across other one lower x (record { there = alike.back; back = alike.there }) reaches);
}

-- a name that is reached and is another is the role of a row
reached_role : (asked : Asked) (links : ℕ) (x y : List ℕ) → ReachesIn asked links x y → (x ≡ y) ⊎ Contains (map role_of asked.rows) y
unfolding Reaches
reached_role asked zero x y same = inl same
reached_role asked (suc links) x y (inl same) = inl same
reached_role asked (suc links) x y (inr link) = by (reached_role asked links (role_of link.row) y link.holds)
  where
    by : (role_of link.row ≡ y) ⊎ Contains (map role_of asked.rows) y → (x ≡ y) ⊎ Contains (map role_of asked.rows) y
    by (inl same) = inr (subst (Contains (map role_of asked.rows)) same (map_stands role_of asked.rows link.row link.stands))
    by (inr stands) = inr stands

implied_across : (one other : Asked) (limit : ℕ) (x y : List ℕ) → Covers one other → IsImplied one.shape one.rows limit one.domain x y → IsImplied other.shape other.rows limit other.domain x y
implied_across one other limit x y covers implied = record {
  other = implied.other;
  linked = linked;
  role = by (reached_role other limit x y linked);
}
  where
    linked : ReachesIn other limit x y
    linked = reaches_across one other limit x y covers implied.linked

    by : (x ≡ y) ⊎ Contains (map role_of other.rows) y → Contains (map role_of other.rows) y
    by (inl same) = absurd (implied.other (sym same))
    by (inr stands) = stands

pub all_implied_across : (one other : Asked) (limit : ℕ) (x : List ℕ) (names : List (List ℕ)) → Alike one other → AreImplied one.shape one.rows limit one.domain x names → AreImplied other.shape other.rows limit other.domain x names
all_implied_across one other limit x names alike are = record {
  members = λ y. (λ stands. implied_across one other limit x y alike.there ((are.members y).0 stands), λ implied. (are.members y).1 (implied_across other one limit x y alike.back implied));
  order = λ i j d less within. by (are.order i j d less within);
}
  where
    by : {y z : List ℕ} → IsNearer one.shape one.rows one.domain x y z → IsNearer other.shape other.rows other.domain x y z
    by {y} {z} nearer = record {
      near = nearer.near;
      far = nearer.far;
      to_one = far_across one other x y nearer.near alike nearer.to_one;
      to_other = far_across one other x z nearer.far alike nearer.to_other;
      before = nearer.before;
    }

user_across : (one other : Asked) (limit : ℕ) (users : List (List ℕ)) (x y : List ℕ) → Covers one other → IsUserOf one.shape one.rows limit one.domain users x y → IsUserOf other.shape other.rows limit other.domain users x y
user_across one other limit users x y covers is = record {
  user = is.user;
  other = is.other;
  plain = subst (λ (fit : Fit). is_pattern fit y ≡ false) covers.names is.plain;
  linked = reaches_across one other limit y x covers is.linked;
}

pub users_across : (one other : Asked) (limit : ℕ) (users : List (List ℕ)) (x : List ℕ) (names : List (List ℕ)) → Alike one other → AreUsersOf one.shape one.rows limit one.domain users x names → AreUsersOf other.shape other.rows limit other.domain users x names
users_across one other limit users x names alike are = record {
  members = λ y. (λ stands. user_across one other limit users x y alike.there ((are.members y).0 stands), λ is. (are.members y).1 (user_across other one limit users x y alike.back is));
  order = are.order;
}

pub few_across : (one other : Asked) → Covers other one → HasFewRoles one.shape one.rows one.domain → HasFewRoles other.shape other.rows other.domain
few_across one other covers few = record {
  names = few.names;
  few = few.few;
  all = λ row stands counts. (let found = covers.each row stands counts in subst (Contains few.names) found.role (few.all found.one found.stands found.counts));
}

-- ---- which rows are alike

abbrev pub outer_of : RoleShape → List Fields → Option (List ℕ) → Asked
outer_of shape rows domain = record { shape = shape; rows = rows; domain = domain }

abbrev pub inner_of : Terms → List Fields → List ℕ → Asked
inner_of terms rows text = record { shape = inner terms; rows = rows; domain = Some text }

abbrev pub graph_of : Fit → List Fields → Asked
graph_of names rows = record { shape = shape_of names; rows = rows; domain = None }

-- a row of two fields has the empty text as its domain
no_domain : (row : Fields) → length row ≡ 2 → domain_of row ≡ []
no_domain [] long = refl
no_domain (a ∷ []) long = refl
no_domain (a ∷ b ∷ []) long = refl
no_domain (a ∷ b ∷ c ∷ rest) long = absurd (omega (arith, long))

itself : (asked : Asked) (row : Fields) → Contains asked.rows row → CountsIn asked.shape asked.domain row → Counterpart asked row
itself asked row stands counts = record { one = row; stands = stands; counts = counts; user = refl; role = refl }

-- which rows count, and which have a domain that the text fits
pub row_counts : (shape : RoleShape) (rows : List Fields) (domain : Option (List ℕ)) (text : List ℕ) → All (λ (row : Fields). length row ≡ role_columns shape) rows → is_some domain ≡ shape.with_domain → text ≡ unwrap_or domain [] → (row : Fields) → Contains rows row → Fits (fit_of shape) text (domain_of row) ↔ CountsIn shape domain row
row_counts shape rows domain text columns asks is row stands = by domain asks is
  where
    two : shape.with_domain ≡ false → length row ≡ 2
    two none = All-contains (λ (r : Fields). length r ≡ role_columns shape) rows row columns stands ∙ ap (λ (b : Bool). if b then 3 else 2) none

    by : (asked : Option (List ℕ)) → is_some asked ≡ shape.with_domain → text ≡ unwrap_or asked [] → Fits (fit_of shape) text (domain_of row) ↔ CountsIn shape asked row
    by None none same = (λ fits. tt, λ counts. fits_same (fit_of shape) text (domain_of row) (same ∙ sym (no_domain row (two (sym none)))))
    by (Some domain) some same = (
      λ fits. subst (λ (t : List ℕ). Fits shape.domains t (domain_of row)) same (subst (λ (f : Fit). Fits f text (domain_of row)) fit fits),
      λ counts. subst (λ (f : Fit). Fits f text (domain_of row)) (sym fit) (subst (λ (t : List ℕ). Fits shape.domains t (domain_of row)) (sym same) counts),
    )
      where
        fit : fit_of shape ≡ shape.domains
        fit = ap (λ (b : Bool). if b then shape.domains else Exact) (sym some)

-- a relation as its rows are asked, and as they are kept
pub outer_alike : (shape : RoleShape) (limit : ℕ) (rows : List Fields) (domain : Option (List ℕ)) (text : List ℕ) → All (λ (row : Fields). length row ≡ role_columns shape) rows → is_some domain ≡ shape.with_domain → text ≡ unwrap_or domain [] → Alike (inner_of (terms_of shape limit) rows text) (outer_of shape rows domain)
outer_alike shape limit rows domain text columns asks is = record {
  there = record { names = refl; each = λ row stands counts. itself (outer_of shape rows domain) row stands ((row_counts shape rows domain text columns asks is row stands).0 counts) };
  back = record { names = refl; each = λ row stands counts. itself (inner_of (terms_of shape limit) rows text) row stands ((row_counts shape rows domain text columns asks is row stands).1 counts) };
}

-- a graph whose rows are the users and roles of the rows that count
pub graph_alike : (names : Fit) (terms : Terms) (graph rows : List Fields) (text : List ℕ) (test : List ℕ → Bool) → names ≡ terms.names → Tells terms.domains text test → ((one : Fields) → times one graph ≡ counted test one rows) → Alike (graph_of names graph) (inner_of terms rows text)
graph_alike names terms graph rows text test same_names tells is = record {
  there = record {
    names = same_names;
    each = λ row stands counts. by row (some_passes (λ (r : Fields). test (domain_of r) && same row (pair_of r)) rows (let some : 1 ≤ times row graph = times_from_stands row graph stands in omega (arith, some, is row)));
  };
  back = record {
    names = sym same_names;
    each = λ row stands counts. record {
      one = pair_of row;
      stands = stands_from_times (pair_of row) graph
          (let some : 1 ≤ counted test (pair_of row) rows = passing_counts (λ (r : Fields). test (domain_of r) && same (pair_of row) (pair_of r)) rows row stands
          (ap (λ (b : Bool). b && same (pair_of row) (pair_of row)) ((tells.told (domain_of row)).1 counts) ∙ same_itself (pair_of row)) in
          omega (arith, some, is (pair_of row)));
      counts = tt;
      user = refl;
      role = refl;
    };
  };
}
  where
    by : (row : Fields) → Passes (λ (r : Fields). test (domain_of r) && same row (pair_of r)) rows → Counterpart (inner_of terms rows text) row
    by row found =
        let both = and_parts (test (domain_of found.row)) (same row (pair_of found.row)) found.passes in
        let is_pair : row ≡ pair_of found.row = (same-Decides row (pair_of found.row)).0 both.1 in
        record {
          one = found.row;
          stands = found.stands;
          counts = (tells.told (domain_of found.row)).0 both.0;
          user = sym (ap user_of is_pair);
          role = sym (ap role_of is_pair);
        }

-- where no row has the text, the rows that count have a pattern as their domain
pub patterns_alike : (relation : Relation) (patterns : List Fields) (text : List ℕ) → ArePatterns relation patterns → named text relation.rows ≡ 0 → Alike (inner_of relation.terms patterns text) (inner_of relation.terms relation.rows text)
patterns_alike relation patterns text are none = record {
  there = record {
    names = refl;
    each = λ row stands counts. itself (inner_of relation.terms relation.rows text) row (from row stands) counts;
  };
  back = record {
    names = refl;
    each = λ row stands counts. itself (inner_of relation.terms patterns text) row (to row stands counts (is_pattern relation.terms.domains (domain_of row)) refl) counts;
  };
}
  where
    from : (row : Fields) → Contains patterns row → Contains relation.rows row
    from row stands = by (some_passes (λ (r : Fields). has_pattern relation.terms.domains r && same row r) relation.rows (let some : 1 ≤ times row patterns = times_from_stands row patterns stands in omega (arith, some, are.rows (same row))))
      where
        by : Passes (λ (r : Fields). has_pattern relation.terms.domains r && same row r) relation.rows → Contains relation.rows row
        by found = subst (Contains relation.rows) (sym ((same-Decides row found.row).0 (and_parts (has_pattern relation.terms.domains found.row) (same row found.row) found.passes).1)) found.stands

    to : (row : Fields) → Contains relation.rows row → Fits relation.terms.domains text (domain_of row) → (b : Bool) → is_pattern relation.terms.domains (domain_of row) ≡ b → Contains patterns row
    to row stands counts true is =
        stands_from_times row patterns
        (let some : 1 ≤ count_by (λ (r : Fields). has_pattern relation.terms.domains r && same row r) relation.rows = passing_counts (λ (r : Fields). has_pattern relation.terms.domains r && same row r) relation.rows row stands
        (ap (λ (b : Bool). b && same row row) is ∙ same_itself row) in
        omega (arith, some, are.rows (same row)))
    to row stands counts false is =
        absurd (let some : 1 ≤ named text relation.rows = passing_counts (λ (r : Fields). bytes_eq text (domain_of r)) relation.rows row stands
        ((bytes_eq-Decides text (domain_of row)).1 (plain_fits relation.terms.domains text (domain_of row) is counts)) in
        omega (arith, some, none))
