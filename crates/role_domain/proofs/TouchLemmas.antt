-- Touched domains, one after the other: what is to become of them is told, and then made.
use Rattle.std.proofs.Common.{◌≡◌, ◌<◌, ◌≤◌, ◌+◌, ◌||◌, ℕ, zero, suc, Bool, true, false, List, [], ◌∷◌, ◌++◌, Option, Some, length, take, get_or, refl, sym, ap, subst, ◌∙◌, arith, length-append}
use Rattle.std.specs.Prelude.{All}
use Rattle.std.specs.List.{AllByRecursion, IsDistinct, list_any}
use Rattle.std.specs.Map.{keys_of}
use Rattle.std.specs.Str.{bytes_eq}
use Rattle.std.proofs.lemmas.Bool.{false≢true, or_parts}
use Rattle.std.proofs.lemmas.Cmp.{nat_list_eq_equiv}
use Rattle.std.proofs.lemmas.List.{map-append, take_more}
use Rattle.std.proofs.lemmas.List.Elements.{All-cons, All-head, All-nil, All-push, All-tail}
use Rattle.std.proofs.lemmas.List.Folds.{list_any_at, list_any_more}
use Rattle.std.proofs.lemmas.Map.Made.{is_some-lookup}
use Rattle.role_domain.specs.Domains.{Domains, IsRight, found}
use Rattle.role_domain.specs.Helps.Tallies.{Tallies, has_text}
use Rattle.role_domain.specs.Relations.{Relation}
use Rattle.role_domain.specs.Steps.{AreReady, IsChanged, IsReady, Touched, is_touched}
use Rattle.role_domain.specs.declared.domain.Domain.{Domain}
use Rattle.role_domain.specs.declared.prepared.DomainStep.{DomainStep}
use Rattle.role_domain.proofs.Keyed.{same_text}
use Rattle.role_graph.specs.Graph.{Edit}
use Rattle.role_graph.specs.Groups.{after, times}
use Rattle.policy_table.specs.Tables.{Fields}

abbrev pub Entries : Type 0
Entries = List (List ℕ × Domain)

-- one text more behind the others
pub keys_push : {X : Type 0} (entries : List (List ℕ × X)) (text : List ℕ) (value : X) → keys_of (entries ++ (text, value) ∷ []) ≡ keys_of entries ++ text ∷ []
keys_push {X} entries text value = map-append (λ (entry : List ℕ × X). entry.0) entries ((text, value) ∷ [])

-- a text that is none of the keys differs from each
pub none_equal : {X : Type 0} (text : List ℕ) (entries : List (List ℕ × X)) → list_any (bytes_eq text) (keys_of entries) ≡ false → All (λ (entry : List ℕ × X). bytes_eq entry.0 text ≡ false) entries
none_equal {X} text [] none = All-nil (λ (entry : List ℕ × X). bytes_eq entry.0 text ≡ false)
none_equal {X} text (entry ∷ entries) none =
    let parts = or_parts (bytes_eq text entry.0) (list_any (bytes_eq text) (keys_of entries)) none in
    All-cons (λ (e : List ℕ × X). bytes_eq e.0 text ≡ false) entry entries (nat_list_eq_equiv.symm entry.0 text ∙ parts.0) (none_equal text entries parts.1)

-- a key is a text that is there
pub not_key : (tallies : Tallies) (at : ℕ) (key text : List ℕ) → at < length (keys_of tallies) → get_or (keys_of tallies) at [] ≡ key → has_text tallies text ≡ false → bytes_eq text key ≡ false
not_key tallies at key text within is none = by (bytes_eq text key) refl
  where
    by : (b : Bool) → bytes_eq text key ≡ b → bytes_eq text key ≡ false
    by false differ = differ
    by true same =
        absurd (false≢true (sym none ∙ is_some-lookup (bytes_eq text) tallies
        ∙ list_any_at (bytes_eq text) (keys_of tallies) at [] within (ap (bytes_eq text) is ∙ same)))

-- none of all is none of the first
pub none_taken : (test : List ℕ → Bool) (keys : List (List ℕ)) (at : ℕ) → list_any test keys ≡ false → list_any test (take at keys) ≡ false
none_taken test [] zero none = refl
none_taken test [] (suc at) none = refl
none_taken test (key ∷ keys) zero none = refl
none_taken test (key ∷ keys) (suc at) none =
    let parts = or_parts (test key) (list_any test keys) none in
    ap (λ (b : Bool). b || list_any test (take at keys)) parts.0 ∙ none_taken test keys at parts.1

-- what is right stays so where one text stays right and the others are as they were
pub right_kept : (relation : Relation) (text name : List ℕ) (old new : Entries) → (IsRight relation text (found old text) → IsRight relation text (found new text)) → ((other : List ℕ) → bytes_eq other text ≡ false → found new other ≡ found old other) → IsRight relation name (found old name) → IsRight relation name (found new name)
right_kept relation text name old new kept others right = by (bytes_eq name text) refl
  where
    by : (b : Bool) → bytes_eq name text ≡ b → IsRight relation name (found new name)
    by true same =
        subst (λ (t : List ℕ). IsRight relation t (found new t)) (sym (same_text name text same))
        (kept (subst (λ (t : List ℕ). IsRight relation t (found old t)) (same_text name text same) right))
    by false differ = subst (IsRight relation name) (sym (others name differ)) right

-- what is ready stays so where another text was changed
pub all_ready : (relation : Relation) (text : List ℕ) (touched : Touched) (old new : Entries) → list_any (bytes_eq text) (keys_of touched) ≡ false → ((other : List ℕ) → bytes_eq other text ≡ false → found new other ≡ found old other)
    → All (λ (one : List ℕ × DomainStep). IsReady relation one.0 (found old one.0) one.1) touched → All (λ (one : List ℕ × DomainStep). IsReady relation one.0 (found new one.0) one.1) touched
all_ready relation text touched old new none others ready = λ k d within. by (get_ k d) (none_equal text touched none k d within) (ready k d within)
  where
    get_ : (k : ℕ) (d : List ℕ × DomainStep) → List ℕ × DomainStep
    get_ k d = get_or touched k d

    by : (one : List ℕ × DomainStep) → bytes_eq one.0 text ≡ false → IsReady relation one.0 (found old one.0) one.1 → IsReady relation one.0 (found new one.0) one.1
    by one differ is = subst (λ (o : Option Domain). IsReady relation one.0 o one.1) (sym (others one.0 differ)) is

-- one more is ready
pub ready_push : (relation : Relation) (touched : List (List ℕ × DomainStep)) (key : List ℕ) (text : List ℕ) (step : DomainStep) (entries : Entries) → key ≡ text → IsReady relation text (found entries text) step
    → All (λ (one : List ℕ × DomainStep). IsReady relation one.0 (found entries one.0) one.1) touched → All (λ (one : List ℕ × DomainStep). IsReady relation one.0 (found entries one.0) one.1) (touched ++ (key, step) ∷ [])
ready_push relation touched key text step entries same ready all =
    All-push (λ (one : List ℕ × DomainStep). IsReady relation one.0 (found entries one.0) one.1) touched (key, step) all
    (subst (λ (t : List ℕ). IsReady relation t (found entries t) step) (sym same) ready)

-- the texts up to a place, and one more
pub texts_next : (touched : List (List ℕ × DomainStep)) (key : List ℕ) (step : DomainStep) (keys : List (List ℕ)) (at : ℕ) (text : List ℕ) → at < length keys → get_or keys at [] ≡ text → key ≡ text → keys_of touched ≡ take at keys → keys_of (touched ++ (key, step) ∷ []) ≡ take (at + 1) keys
texts_next touched key step keys at text within is same so_far =
    keys_push touched key step
    ∙ ap (λ (l : List (List ℕ)). l ++ key ∷ []) so_far
    ∙ ap (λ (t : List ℕ). take at keys ++ t ∷ []) (same ∙ sym is)
    ∙ sym (take_more keys at [] within)

-- a text that is none of the first and the next
pub none_next : (keys : List (List ℕ)) (at : ℕ) (key text : List ℕ) → at < length keys → get_or keys at [] ≡ key → list_any (bytes_eq text) (take (at + 1) keys) ≡ false → (list_any (bytes_eq text) (take at keys) ≡ false) × (bytes_eq text key ≡ false)
none_next keys at key text within is none =
    let parts = or_parts (list_any (bytes_eq text) (take at keys)) (bytes_eq text (get_or keys at [])) (sym (list_any_more (bytes_eq text) keys at [] within) ∙ none) in
    (parts.0, ap (bytes_eq text) (sym is) ∙ parts.1)

-- ---- domains that are made

-- an edited graph is right
pub made_right : (relation : Relation) (text : List ℕ) (old new : Option Domain) (own : ℕ) (edit : Edit) → IsChanged relation text old own edit
    → ((domain : Domain) → old ≡ Some domain → (now : Domain) × (new ≡ Some now) × (now.own ≡ own) × (now.graph.names ≡ domain.graph.names) × (now.graph.limit ≡ domain.graph.limit) × ((row : Fields) → times row now.graph.rows ≡ times row (after edit.changed domain.graph.rows)))
    → IsRight relation text new
made_right relation text old new own edit changed made =
    let now = made changed.domain changed.is in
    subst (IsRight relation text) (sym now.1) (record {
      own = now.2 ∙ changed.counts;
      some = omega (arith, now.2, changed.some);
      names = now.3 ∙ changed.names;
      limited = now.4 ∙ changed.limited;
      rows = λ test tells one. now.5 one ∙ changed.rows test tells one;
    })

front_of : (P : List ℕ → Type 0) (xs ys : List (List ℕ)) → AllByRecursion P (xs ++ ys) → AllByRecursion P xs
front_of P [] ys all = tt
front_of P (x ∷ xs) ys all = (all.0, front_of P xs ys all.1)

last_of : (P : List ℕ → Type 0) (xs : List (List ℕ)) (last : List ℕ) → AllByRecursion P (xs ++ last ∷ []) → P last
last_of P [] last all = all.0
last_of P (x ∷ xs) last all = last_of P xs last all.1

distinct_front : (keys : List (List ℕ)) (last : List ℕ) → IsDistinct bytes_eq (keys ++ last ∷ []) → IsDistinct bytes_eq keys
unfolding IsDistinct
distinct_front [] last distinct = tt
distinct_front (key ∷ keys) last distinct = (front_of (λ (other : List ℕ). bytes_eq key other ≡ false) keys (last ∷ []) distinct.0, distinct_front keys last distinct.1)

last_apart : (keys : List (List ℕ)) (last : List ℕ) → IsDistinct bytes_eq (keys ++ last ∷ []) → list_any (bytes_eq last) keys ≡ false
unfolding IsDistinct
last_apart [] last distinct = refl
last_apart (key ∷ keys) last distinct =
    ap (λ (b : Bool). b || list_any (bytes_eq last) keys) (nat_list_eq_equiv.symm last key ∙ last_of (λ (other : List ℕ). bytes_eq key other ≡ false) keys last distinct.0)
    ∙ last_apart keys last distinct.1

any_push : (test : List ℕ → Bool) (keys : List (List ℕ)) (last : List ℕ) → list_any test (keys ++ last ∷ []) ≡ (list_any test keys || test last)
any_push test [] last = by (test last)
  where
    by : (b : Bool) → (b || false) ≡ (false || b)
    by true = refl
    by false = refl
any_push test (key ∷ keys) last = ap (λ (b : Bool). test key || b) (any_push test keys last) ∙ by (test key) (list_any test keys) (test last)
  where
    by : (a b c : Bool) → (a || (b || c)) ≡ ((a || b) || c)
    by true b c = refl
    by false b c = refl

-- the last of touched domains is made, the others are still ready
module _ (relation : Relation) (all left : Touched) (text : List ℕ) (step : DomainStep) (is : all ≡ left ++ (text, step) ∷ []) (old : Domains) (ready : AreReady relation all old) where
  keys : keys_of all ≡ keys_of left ++ text ∷ []
  keys = ap (λ (l : Touched). keys_of l) is ∙ keys_push left text step

  apart : list_any (bytes_eq text) (keys_of left) ≡ false
  apart = last_apart (keys_of left) text (subst (IsDistinct bytes_eq) keys ready.once)

  pub last_ready : IsReady relation text (found old.entries text) step
  last_ready = last_all left (subst (All (λ (one : List ℕ × DomainStep). IsReady relation one.0 (found old.entries one.0) one.1)) is ready.each)
    where
      last_all : (l : Touched) → All (λ (one : List ℕ × DomainStep). IsReady relation one.0 (found old.entries one.0) one.1) (l ++ (text, step) ∷ []) → IsReady relation text (found old.entries text) step
      last_all [] every = All-head (λ (one : List ℕ × DomainStep). IsReady relation one.0 (found old.entries one.0) one.1) (text, step) [] every
      last_all (x ∷ xs) every = last_all xs (All-tail (λ (one : List ℕ × DomainStep). IsReady relation one.0 (found old.entries one.0) one.1) x (xs ++ (text, step) ∷ []) every)

  pub last_room : 0 < old.spare
  last_room = omega (arith, ready.room, ap length is, length-append left ((text, step) ∷ []))

  pub left_ready : (new : Domains) → (IsReady relation text (found old.entries text) step → IsRight relation text (found new.entries text)) → ((other : List ℕ) → bytes_eq other text ≡ false → found new.entries other ≡ found old.entries other) → old.spare ≤ new.spare + 1 → AreReady relation left new
  left_ready new right others spare = record {
    once = distinct_front (keys_of left) text (subst (IsDistinct bytes_eq) keys ready.once);
    room = omega (arith, ready.room, spare, ap length is, length-append left ((text, step) ∷ []));
    each = all_ready relation text left old.entries new.entries apart others (front_all left (subst (All (λ (one : List ℕ × DomainStep). IsReady relation one.0 (found old.entries one.0) one.1)) is ready.each));
    others = λ name none. by name none (bytes_eq name text) refl;
  }
    where
      front_all : (l : Touched) → All (λ (one : List ℕ × DomainStep). IsReady relation one.0 (found old.entries one.0) one.1) (l ++ (text, step) ∷ []) → All (λ (one : List ℕ × DomainStep). IsReady relation one.0 (found old.entries one.0) one.1) l
      front_all [] every = All-nil (λ (one : List ℕ × DomainStep). IsReady relation one.0 (found old.entries one.0) one.1)
      front_all (x ∷ xs) every =
          All-cons (λ (one : List ℕ × DomainStep). IsReady relation one.0 (found old.entries one.0) one.1) x xs
          (All-head (λ (one : List ℕ × DomainStep). IsReady relation one.0 (found old.entries one.0) one.1) x (xs ++ (text, step) ∷ []) every)
          (front_all xs (All-tail (λ (one : List ℕ × DomainStep). IsReady relation one.0 (found old.entries one.0) one.1) x (xs ++ (text, step) ∷ []) every))

      by : (name : List ℕ) → is_touched name left ≡ false → (b : Bool) → bytes_eq name text ≡ b → IsRight relation name (found new.entries name)
      by name none true same = subst (λ (t : List ℕ). IsRight relation t (found new.entries t)) (sym (same_text name text same)) (right last_ready)
      by name none false differ =
          subst (IsRight relation name) (sym (others name differ))
          (ready.others name (ap (list_any (bytes_eq name)) keys ∙ any_push (bytes_eq name) (keys_of left) text ∙ ap (λ (b : Bool). b || bytes_eq name text) none ∙ differ))
