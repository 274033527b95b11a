-- The items that `clap` meets are those of the definition, or both ask for no command: `-` behind the name of an option is no value.
use Rattle.std.proofs.Common.{◌≡◌, ◌⊎◌, ◌∙◌, ◌&&◌, ◌||◌, ℕ, Bool, true, false, cond, not, List, [], ◌∷◌, ◌++◌, drop, map, option_map, Option, Some, None, refl, sym, ap, ap₂, subst, inl, inr, ⊎_elim, true≢false, bytes_eq, codes}
use Rattle.std.specs.List.{after_first, before_first, list_all, list_any}
use Rattle.std.proofs.lemmas.Bool.{and_left, and_parts, false_from_ne_true, not-true, or_cases}
use Rattle.perm_base.specs.declared.shapes.Fit.{Fit}
use Rattle.command_words.specs.Commands.{cache_in, command_from, command_with, count_of, enforcing, explaining, files_of, first_files, fits_at, has_json, implying, limit_in, most_in, on_files, options_in, options_of, options_with, role_options, serving, showing, subject_of, takes, value_or, workers_in}
use Rattle.command_words.specs.Values.{fits_of, number_between}
use Rattle.command_words.specs.FileNames.{FileNames, SubjectName}
use Rattle.command_words.specs.Items.{Item, operand, flag, option, stray, are_different, begins_with_dash, is_dashes, is_name, is_same, item_of, items, items_behind, operands, value_of, valued}
use Rattle.command_words.specs.declared.command.Command.{Command}
use Rattle.command_words.specs.declared.command.Command.TheVariants as asked
use Rattle.command_words.specs.declared.command.Options.{Options}
use Rattle.command_words.specs.declared.kind.Kind.{Kind}
use Rattle.command_words.specs.declared.kind.Kind.TheVariants.{Enforce, Explain, Session, Check, Format, Implicit, Report, Ship, Follow, Lint, Demo}
use Rattle.command_words.proofs.ItemLemmas.{taken}
use Rattle.command_words.proofs.MetItems.{met_behind, met_items, met_valued}
use Rattle.command_words.proofs.TextLemmas.{after_cons, before_cons, bytes_flip, bytes_same, bytes_self, clash, or_false, or_true}

abbrev Text : Type 0
Text = List ℕ

-- ---- the same items, or a value `-`

abbrev pub is_stray : Item → Bool
is_stray stray = true
is_stray _ = false

abbrev pub has_dash : Item → Bool
has_dash (option name value) = bytes_eq value (codes "-")
has_dash _ = false

-- the items of the definition, before `--` and behind it
abbrev pub all_items : List Text → List Item
all_items words = items (before_first is_dashes words) ++ map operand (after_first is_dashes words)

-- these items are met, or one of them is an option with `-`, where the definition has a stray one
abbrev pub Alike : List Item → List Item → Type 0
Alike given met = (met ≡ given) ⊎ ((list_any is_stray given ≡ true) × (list_any has_dash met ≡ true))

same_first : (item : Item) (given met : List Item) → Alike given met → Alike (item ∷ given) (item ∷ met)
same_first item given met meets =
    ⊎_elim (λ is. inl (ap (λ (l : List Item). item ∷ l) is))
    (λ both. inr (ap (λ (t : Bool). is_stray item || t) both.0 ∙ or_true (is_stray item), ap (λ (t : Bool). has_dash item || t) both.1 ∙ or_true (has_dash item))) meets

as_given : (given same met : List Item) → given ≡ same → Alike same met → Alike given met
as_given given same met is meets = subst (λ (l : List Item). Alike l met) (sym is) meets

as_met : (given met same : List Item) → met ≡ same → Alike given same → Alike given met
as_met given met same is meets = subst (λ (l : List Item). Alike given l) (sym is) meets

-- the first word is not `--`
before_first_word : (word : Text) (words : List Text) → is_dashes word ≡ false → before_first is_dashes (word ∷ words) ≡ word ∷ before_first is_dashes words
before_first_word word words other = before_cons is_dashes word words ∙ ap (λ (t : Bool). cond (not t) (word ∷ before_first is_dashes words) []) other

after_first_word : (word : Text) (words : List Text) → is_dashes word ≡ false → after_first is_dashes (word ∷ words) ≡ after_first is_dashes words
after_first_word word words other = after_cons is_dashes word words ∙ ap (λ (t : Bool). cond t words (after_first is_dashes words)) other

-- behind the name of an option, by what the definition says of the first word
value_met : (name value : Text) (given met : List Item) → Alike given met → Alike (valued name value ∷ given) (met_valued name value ∷ met)
value_met name value given met meets = go (begins_with_dash value) (bytes_eq value (codes "-")) refl refl
  where
    go : (dash alone : Bool) → begins_with_dash value ≡ dash → bytes_eq value (codes "-") ≡ alone → Alike (valued name value ∷ given) (met_valued name value ∷ met)
    go false alone plain e =
        as_given (valued name value ∷ given) (option name value ∷ given) (met_valued name value ∷ met) (ap (λ (t : Bool). cond t stray (option name value) ∷ given) plain)
        (as_met (option name value ∷ given) (met_valued name value ∷ met) (option name value ∷ met)
        (ap (λ (t : Bool). cond (bytes_eq value (codes "-") || not t) (option name value) stray ∷ met) plain ∙ ap (λ (t : Bool). cond t (option name value) stray ∷ met) (or_true (bytes_eq value (codes "-"))))
        (same_first (option name value) given met meets))
    go true false begins other =
        as_given (valued name value ∷ given) (stray ∷ given) (met_valued name value ∷ met) (ap (λ (t : Bool). cond t stray (option name value) ∷ given) begins)
        (as_met (stray ∷ given) (met_valued name value ∷ met) (stray ∷ met) (ap₂ (λ (t d : Bool). cond (t || not d) (option name value) stray ∷ met) other begins)
        (same_first stray given met meets))
    go true true begins is =
        as_given (valued name value ∷ given) (stray ∷ given) (met_valued name value ∷ met) (ap (λ (t : Bool). cond t stray (option name value) ∷ given) begins)
        (as_met (stray ∷ given) (met_valued name value ∷ met) (option name value ∷ met) (ap (λ (t : Bool). cond (t || not (begins_with_dash value)) (option name value) stray ∷ met) is)
        (inr (refl, ap (λ (t : Bool). t || list_any has_dash met) is)))

-- a word before `--`, which is the name of an option or an item by itself
word_alike : (word : Text) (words : List Text) (test : Bool) → ((name : Text) → Alike (items_behind name (before_first is_dashes words) ++ map operand (after_first is_dashes words)) (met_behind name words)) × Alike (all_items words) (met_items words)
    → Alike (cond test (items_behind (drop 2 word) (before_first is_dashes words)) (item_of word ∷ items (before_first is_dashes words)) ++ map operand (after_first is_dashes words)) (cond test (met_behind (drop 2 word) words) (item_of word ∷ met_items words))
word_alike word words true found = found.0 (drop 2 word)
word_alike word words false found = same_first (item_of word) (all_items words) (met_items words) found.1

-- behind a name, and from a word on
both_meet : (words : List Text) → ((name : Text) → Alike (items_behind name (before_first is_dashes words) ++ map operand (after_first is_dashes words)) (met_behind name words)) × Alike (all_items words) (met_items words)
both_meet [] = (λ name. inl refl, inl refl)
both_meet (word ∷ words) = go (is_dashes word) refl (both_meet words)
  where
    rest : List Item
    rest = map operand (after_first is_dashes words)

    go : (test : Bool) → is_dashes word ≡ test → ((name : Text) → Alike (items_behind name (before_first is_dashes words) ++ map operand (after_first is_dashes words)) (met_behind name words)) × Alike (all_items words) (met_items words)
        → ((name : Text) → Alike (items_behind name (before_first is_dashes (word ∷ words)) ++ map operand (after_first is_dashes (word ∷ words))) (met_behind name (word ∷ words))) × Alike (all_items (word ∷ words)) (met_items (word ∷ words))
    go true ends later =
        let before : before_first is_dashes (word ∷ words) ≡ [] = before_cons is_dashes word words ∙ ap (λ (t : Bool). cond (not t) (word ∷ before_first is_dashes words) []) ends in
        let after : after_first is_dashes (word ∷ words) ≡ words = after_cons is_dashes word words ∙ ap (λ (t : Bool). cond t words (after_first is_dashes words)) ends in (
          λ name. inl (ap (λ (t : Bool). cond t (stray ∷ map operand words) (met_valued name word ∷ met_items words)) ends ∙ sym (ap₂ (λ (front back : List Text). items_behind name front ++ map operand back) before after)),
          inl (ap (λ (t : Bool). cond t (map operand words) (cond (is_name word) (met_behind (drop 2 word) words) (item_of word ∷ met_items words))) ends ∙ sym (ap₂ (λ (front back : List Text). items front ++ map operand back) before after)),
        )
    go false other later =
        let before = before_first_word word words other in
        let after = after_first_word word words other in (
          λ name. as_given (items_behind name (before_first is_dashes (word ∷ words)) ++ map operand (after_first is_dashes (word ∷ words))) (valued name word ∷ all_items words) (met_behind name (word ∷ words))
              (ap₂ (λ (front back : List Text). items_behind name front ++ map operand back) before after)
              (as_met (valued name word ∷ all_items words) (met_behind name (word ∷ words)) (met_valued name word ∷ met_items words)
              (ap (λ (t : Bool). cond t (stray ∷ map operand words) (met_valued name word ∷ met_items words)) other)
              (value_met name word (all_items words) (met_items words) later.1)),
          as_given (all_items (word ∷ words)) (items (word ∷ before_first is_dashes words) ++ rest) (met_items (word ∷ words))
              (ap₂ (λ (front back : List Text). items front ++ map operand back) before after)
              (as_met (items (word ∷ before_first is_dashes words) ++ rest) (met_items (word ∷ words)) (cond (is_name word) (met_behind (drop 2 word) words) (item_of word ∷ met_items words))
              (ap (λ (t : Bool). cond t (map operand words) (cond (is_name word) (met_behind (drop 2 word) words) (item_of word ∷ met_items words))) other)
              (word_alike word words (is_name word) later)),
        )

pub cut_alike : (words : List Text) → Alike (all_items words) (met_items words)
cut_alike words = (both_meet words).1

-- ---- operands behind the items

-- the words behind `--` change nothing but the operands
all_words : (test : Item → Bool) → ((word : Text) → test (operand word) ≡ true) → (words : List Text) → list_all test (map operand words) ≡ true
all_words test all [] = refl
all_words test all (word ∷ words) = ap (λ (t : Bool). t && list_all test (map operand words)) (all word) ∙ all_words test all words

pub behind_taken : (test : Item → Bool) → ((word : Text) → test (operand word) ≡ true) → (given : List Item) (words : List Text) → list_all test (given ++ map operand words) ≡ list_all test given
behind_taken test all [] words = all_words test all words
behind_taken test all (item ∷ given) words = ap (λ (t : Bool). test item && t) (behind_taken test all given words)

no_words : (test : Item → Bool) → ((word : Text) → test (operand word) ≡ false) → (words : List Text) → list_any test (map operand words) ≡ false
no_words test none [] = refl
no_words test none (word ∷ words) = ap (λ (t : Bool). t || list_any test (map operand words)) (none word) ∙ no_words test none words

pub behind_any : (test : Item → Bool) → ((word : Text) → test (operand word) ≡ false) → (given : List Item) (words : List Text) → list_any test (given ++ map operand words) ≡ list_any test given
behind_any test none [] words = no_words test none words
behind_any test none (item ∷ given) words = ap (λ (t : Bool). test item || t) (behind_any test none given words)

not_same : (item : Item) (word : Text) → is_same item (operand word) ≡ false
not_same (operand other) word = refl
not_same flag word = refl
not_same (option name value) word = refl
not_same stray word = refl

words_differ : (words : List Text) → are_different (map operand words) ≡ true
words_differ [] = refl
words_differ (word ∷ words) = ap₂ (λ (a b : Bool). not a && b) (no_words (is_same (operand word)) (not_same (operand word)) words) (words_differ words)

pub behind_different : (given : List Item) (words : List Text) → are_different (given ++ map operand words) ≡ are_different given
behind_different [] words = words_differ words
behind_different (item ∷ given) words = ap₂ (λ (a b : Bool). not a && b) (behind_any (is_same item) (not_same item) given words) (behind_different given words)

words_valueless : (name : Text) (words : List Text) → value_of name (map operand words) ≡ None
words_valueless name [] = refl
words_valueless name (word ∷ words) = words_valueless name words

behind_value : (name : Text) (given : List Item) (words : List Text) → value_of name (given ++ map operand words) ≡ value_of name given
behind_value name [] words = words_valueless name words
behind_value name (operand word ∷ given) words = behind_value name given words
behind_value name (flag ∷ given) words = behind_value name given words
behind_value name (option other value ∷ given) words = ap (λ (o : Option Text). cond (bytes_eq other name) (Some value) o) (behind_value name given words)
behind_value name (stray ∷ given) words = behind_value name given words

words_operands : (words : List Text) → operands (map operand words) ≡ words
words_operands [] = refl
words_operands (word ∷ words) = ap (λ (l : List Text). word ∷ l) (words_operands words)

behind_operands : (given : List Item) (words : List Text) → operands (given ++ map operand words) ≡ operands given ++ words
behind_operands [] words = words_operands words
behind_operands (operand word ∷ given) words = ap (λ (l : List Text). word ∷ l) (behind_operands given words)
behind_operands (flag ∷ given) words = behind_operands given words
behind_operands (option name value ∷ given) words = behind_operands given words
behind_operands (stray ∷ given) words = behind_operands given words

-- a command by items that tell the same
module _ (a b : List Item) (value : (name : Text) → value_of name a ≡ value_of name b) (flags : list_any (is_same flag) a ≡ list_any (is_same flag) b) where
  same_options : options_in a ≡ options_in b
  same_options = λ i. options_with (value_or 10 (number_between 3 1 250) (value (codes "limit") i)) (value_or [] fits_of (value (codes "match") i)) (value_or [] fits_of (value (codes "domain-match") i))

  same_workers : workers_in a ≡ workers_in b
  same_workers = ap (λ (o : Option Text). value_or 0 (number_between 3 0 8) o) (value (codes "workers"))

  pub same_command : (kind : Kind) (words : List Text) → command_with kind a words ≡ command_with kind b words
  same_command Enforce words = λ i. enforcing (flags i) (files_of words) (same_options i) (value_or None (λ text. option_map (λ count. Some count) (number_between 5 1 10000 text)) (value (codes "cache") i))
  same_command Explain words = λ i. explaining (flags i) (files_of words) (same_options i) (value_or 10 (number_between 4 1 1000) (value (codes "most") i))
  same_command Session words = λ i. serving (flags i) (files_of words) (same_options i) (same_workers i)
  same_command Check words = refl
  same_command Format words = refl
  same_command Implicit words = ap (λ (o : Option Options). implying (first_files words) (subject_of words) o) same_options
  same_command Report words = ap (λ (o : Option Options). on_files asked.Report (files_of words) o) same_options
  same_command Ship words = ap (λ (o : Option Options). on_files asked.Ship (files_of words) o) same_options
  same_command Follow words = ap (λ (o : Option Options). on_files asked.Follow (files_of words) o) same_options
  same_command Lint words = ap (λ (o : Option Options). on_files asked.Lint (files_of words) o) same_options
  same_command Demo words = ap (λ (o : Option ℕ). showing (count_of words) o) same_workers

-- ---- a value `-` says nothing

no_names : (limit : Option ℕ) (domains : Option (List (ℕ × Fit))) → options_with limit None domains ≡ None
no_names None domains = refl
no_names (Some limit) domains = refl

no_domains : (limit : Option ℕ) (names : Option (List (ℕ × Fit))) → options_with limit names None ≡ None
no_domains None names = refl
no_domains (Some limit) None = refl
no_domains (Some limit) (Some names) = refl

module _ (given : List Item) (name : Text) (told : value_of name given ≡ Some (codes "-")) where
  -- the value of the option of that name
  dash_at : (known : Text) → bytes_eq name known ≡ true → value_of known given ≡ Some (codes "-")
  dash_at known is = ap (λ (t : Text). value_of t given) (sym (bytes_same name known is)) ∙ told

  dash_limit : bytes_eq name (codes "limit") ≡ true → options_in given ≡ None
  dash_limit is = ap (λ (o : Option Text). options_with (value_or 10 (number_between 3 1 250) o) (fits_at (codes "match") given) (fits_at (codes "domain-match") given)) (dash_at (codes "limit") is)

  dash_match : bytes_eq name (codes "match") ≡ true → options_in given ≡ None
  dash_match is = ap (λ (o : Option Text). options_with (limit_in given) (value_or [] fits_of o) (fits_at (codes "domain-match") given)) (dash_at (codes "match") is) ∙ no_names (limit_in given) (fits_at (codes "domain-match") given)

  dash_domains : bytes_eq name (codes "domain-match") ≡ true → options_in given ≡ None
  dash_domains is = ap (λ (o : Option Text). options_with (limit_in given) (fits_at (codes "match") given) (value_or [] fits_of o)) (dash_at (codes "domain-match") is) ∙ no_domains (limit_in given) (fits_at (codes "match") given)

  dash_roles : list_any (bytes_eq name) role_options ≡ true → options_in given ≡ None
  dash_roles listed =
      ⊎_elim dash_limit
      (λ others. ⊎_elim dash_match (λ last. dash_domains (sym (or_false (bytes_eq name (codes "domain-match"))) ∙ last)) (or_cases (bytes_eq name (codes "match")) (bytes_eq name (codes "domain-match") || false) others))
      (or_cases (bytes_eq name (codes "limit")) (bytes_eq name (codes "match") || (bytes_eq name (codes "domain-match") || false)) listed)

  dash_workers : bytes_eq name (codes "workers") ≡ true → workers_in given ≡ None
  dash_workers is = ap (λ (o : Option Text). value_or 0 (number_between 3 0 8) o) (dash_at (codes "workers") is)

  dash_cache : bytes_eq name (codes "cache") ≡ true → cache_in given ≡ None
  dash_cache is = ap (λ (o : Option Text). value_or None (λ text. option_map (λ count. Some count) (number_between 5 1 10000 text)) o) (dash_at (codes "cache") is)

  dash_most : bytes_eq name (codes "most") ≡ true → most_in given ≡ None
  dash_most is = ap (λ (o : Option Text). value_or 10 (number_between 4 1 1000) o) (dash_at (codes "most") is)

-- commands that lack a part
module _ (json : Bool) where
  enforcing_no_options : (files : Option FileNames) (cache : Option (Option ℕ)) → enforcing json files None cache ≡ None
  enforcing_no_options None cache = refl
  enforcing_no_options (Some files) cache = refl

  enforcing_no_cache : (files : Option FileNames) (options : Option Options) → enforcing json files options None ≡ None
  enforcing_no_cache None options = refl
  enforcing_no_cache (Some files) None = refl
  enforcing_no_cache (Some files) (Some options) = refl

  explaining_no_options : (files : Option FileNames) (most : Option ℕ) → explaining json files None most ≡ None
  explaining_no_options None most = refl
  explaining_no_options (Some files) most = refl

  explaining_no_most : (files : Option FileNames) (options : Option Options) → explaining json files options None ≡ None
  explaining_no_most None options = refl
  explaining_no_most (Some files) None = refl
  explaining_no_most (Some files) (Some options) = refl

  serving_no_options : (files : Option FileNames) (workers : Option ℕ) → serving json files None workers ≡ None
  serving_no_options None workers = refl
  serving_no_options (Some files) workers = refl

  serving_no_workers : (files : Option FileNames) (options : Option Options) → serving json files options None ≡ None
  serving_no_workers None options = refl
  serving_no_workers (Some files) None = refl
  serving_no_workers (Some files) (Some options) = refl

implying_no_options : (files : Option FileNames) (subject : Option SubjectName) → implying files subject None ≡ None
implying_no_options None subject = refl
implying_no_options (Some files) None = refl
implying_no_options (Some files) (Some subject) = refl

files_no_options : (make : FileNames → Options → Command) (files : Option FileNames) → on_files make files None ≡ None
files_no_options make None = refl
files_no_options make (Some files) = refl

showing_no_workers : (count : Option ℕ) → showing count None ≡ None
showing_no_workers None = refl
showing_no_workers (Some count) = refl

dash_command : (kind : Kind) (given : List Item) (words : List Text) (name : Text) → list_any (bytes_eq name) (options_of kind) ≡ true → value_of name given ≡ Some (codes "-") → command_with kind given words ≡ None
dash_command Enforce given words name listed told =
    ⊎_elim (λ is. ap (λ (o : Option (Option ℕ)). enforcing (list_any (is_same flag) given) (files_of words) (options_in given) o) (dash_cache given name told is) ∙ enforcing_no_cache (list_any (is_same flag) given) (files_of words) (options_in given))
    (λ roles. ap (λ (o : Option Options). enforcing (list_any (is_same flag) given) (files_of words) o (cache_in given)) (dash_roles given name told roles) ∙ enforcing_no_options (list_any (is_same flag) given) (files_of words) (cache_in given))
    (or_cases (bytes_eq name (codes "cache")) (list_any (bytes_eq name) role_options) listed)
dash_command Explain given words name listed told =
    ⊎_elim (λ is. ap (λ (o : Option ℕ). explaining (list_any (is_same flag) given) (files_of words) (options_in given) o) (dash_most given name told is) ∙ explaining_no_most (list_any (is_same flag) given) (files_of words) (options_in given))
    (λ roles. ap (λ (o : Option Options). explaining (list_any (is_same flag) given) (files_of words) o (most_in given)) (dash_roles given name told roles) ∙ explaining_no_options (list_any (is_same flag) given) (files_of words) (most_in given))
    (or_cases (bytes_eq name (codes "most")) (list_any (bytes_eq name) role_options) listed)
dash_command Session given words name listed told =
    ⊎_elim (λ is. ap (λ (o : Option ℕ). serving (list_any (is_same flag) given) (files_of words) (options_in given) o) (dash_workers given name told is) ∙ serving_no_workers (list_any (is_same flag) given) (files_of words) (options_in given))
    (λ roles. ap (λ (o : Option Options). serving (list_any (is_same flag) given) (files_of words) o (workers_in given)) (dash_roles given name told roles) ∙ serving_no_options (list_any (is_same flag) given) (files_of words) (workers_in given))
    (or_cases (bytes_eq name (codes "workers")) (list_any (bytes_eq name) role_options) listed)
dash_command Check given words name listed told = absurd (true≢false (sym listed))
dash_command Format given words name listed told = absurd (true≢false (sym listed))
dash_command Implicit given words name listed told = ap (λ (o : Option Options). implying (first_files words) (subject_of words) o) (dash_roles given name told listed) ∙ implying_no_options (first_files words) (subject_of words)
dash_command Report given words name listed told = ap (λ (o : Option Options). on_files asked.Report (files_of words) o) (dash_roles given name told listed) ∙ files_no_options asked.Report (files_of words)
dash_command Ship given words name listed told = ap (λ (o : Option Options). on_files asked.Ship (files_of words) o) (dash_roles given name told listed) ∙ files_no_options asked.Ship (files_of words)
dash_command Follow given words name listed told = ap (λ (o : Option Options). on_files asked.Follow (files_of words) o) (dash_roles given name told listed) ∙ files_no_options asked.Follow (files_of words)
dash_command Lint given words name listed told = ap (λ (o : Option Options). on_files asked.Lint (files_of words) o) (dash_roles given name told listed) ∙ files_no_options asked.Lint (files_of words)
dash_command Demo given words name listed told =
    ap (λ (o : Option ℕ). showing (count_of words) o) (dash_workers given name told (sym (or_false (bytes_eq name (codes "workers"))) ∙ listed)) ∙ showing_no_workers (count_of words)

-- ---- which option has it

value_listed : (name value : Text) (given : List Item) (told : Text) → value_of name given ≡ Some told → list_any (is_same (option name value)) given ≡ true
value_listed name value [] told is = absurd cc
value_listed name value (operand word ∷ given) told is = value_listed name value given told is
value_listed name value (flag ∷ given) told is = value_listed name value given told is
value_listed name value (option other text ∷ given) told is = go (bytes_eq other name) refl is (value_listed name value given told)
  where
    go : (test : Bool) → bytes_eq other name ≡ test → cond test (Some text) (value_of name given) ≡ Some told → (value_of name given ≡ Some told → list_any (is_same (option name value)) given ≡ true)
        → (bytes_eq name other || list_any (is_same (option name value)) given) ≡ true
    go true same found rest = ap (λ (t : Bool). t || list_any (is_same (option name value)) given) (bytes_flip name other ∙ same)
    go false differs found rest = ap (λ (t : Bool). bytes_eq name other || t) (rest found) ∙ or_true (bytes_eq name other)
value_listed name value (stray ∷ given) told is = value_listed name value given told is

pub dash_named : (names : List Text) (json : Bool) (given : List Item) → list_any has_dash given ≡ true → list_all (taken names json) given ≡ true → are_different given ≡ true
    → (name : Text) × (list_any (bytes_eq name) names ≡ true) × (value_of name given ≡ Some (codes "-"))
dash_named names json [] has takes differ = absurd (true≢false (sym has))
dash_named names json (operand word ∷ given) has takes differ = dash_named names json given has takes (and_parts (not (list_any (is_same (operand word)) given)) (are_different given) differ).1
dash_named names json (flag ∷ given) has takes differ =
    dash_named names json given has (and_parts json (list_all (taken names json) given) takes).1 (and_parts (not (list_any (is_same flag) given)) (are_different given) differ).1
dash_named names json (option name value ∷ given) has takes differ =
    go (bytes_eq value (codes "-")) refl has
    (λ later. dash_named names json given later (and_parts (list_any (bytes_eq name) names) (list_all (taken names json) given) takes).1 (and_parts (not (list_any (is_same (option name value)) given)) (are_different given) differ).1)
  where
    once : list_any (is_same (option name value)) given ≡ false
    once = not-true (list_any (is_same (option name value)) given) (and_parts (not (list_any (is_same (option name value)) given)) (are_different given) differ).0

    behind : (found : (other : Text) × (list_any (bytes_eq other) names ≡ true) × (value_of other given ≡ Some (codes "-"))) (test : Bool) → bytes_eq name found.0 ≡ test
        → (other : Text) × (list_any (bytes_eq other) names ≡ true) × (value_of other (option name value ∷ given) ≡ Some (codes "-"))
    behind found true same =
        clash (list_any (is_same (option name value)) given)
        (ap (λ (t : Text). list_any (is_same (option t value)) given) (bytes_same name found.0 same) ∙ value_listed found.0 value given (codes "-") found.2) once
    behind found false differs = (found.0, found.1, ap (λ (t : Bool). cond t (Some value) (value_of found.0 given)) differs ∙ found.2)

    go : (test : Bool) → bytes_eq value (codes "-") ≡ test → (test || list_any has_dash given) ≡ true
        → (list_any has_dash given ≡ true → (other : Text) × (list_any (bytes_eq other) names ≡ true) × (value_of other given ≡ Some (codes "-")))
        → (other : Text) × (list_any (bytes_eq other) names ≡ true) × (value_of other (option name value ∷ given) ≡ Some (codes "-"))
    go true is some rest = (
      name,
      (and_parts (list_any (bytes_eq name) names) (list_all (taken names json) given) takes).0,
      ap (λ (t : Bool). cond t (Some value) (value_of name given)) (bytes_self name) ∙ ap (λ (t : Text). Some t) (bytes_same value (codes "-") is),
    )
    go false other some rest = let found = rest some in behind found (bytes_eq name found.0) refl
dash_named names json (stray ∷ given) has takes differ = absurd (true≢false (sym takes))

-- ---- both ask for the same

no_stray : (names : List Text) (json : Bool) (given : List Item) → list_all (taken names json) given ≡ true → list_any is_stray given ≡ false
no_stray names json [] takes = refl
no_stray names json (operand word ∷ given) takes = no_stray names json given takes
no_stray names json (flag ∷ given) takes = no_stray names json given (and_parts json (list_all (taken names json) given) takes).1
no_stray names json (option name value ∷ given) takes = no_stray names json given (and_parts (list_any (bytes_eq name) names) (list_all (taken names json) given) takes).1
no_stray names json (stray ∷ given) takes = absurd (true≢false (sym takes))

takes_is : (kind : Kind) (given : List Item) → list_all (takes kind) given ≡ list_all (taken (options_of kind) (has_json kind)) given
takes_is kind [] = refl
takes_is kind (operand word ∷ given) = takes_is kind given
takes_is kind (flag ∷ given) = ap (λ (t : Bool). has_json kind && t) (takes_is kind given)
takes_is kind (option name value ∷ given) = ap (λ (t : Bool). list_any (bytes_eq name) (options_of kind) && t) (takes_is kind given)
takes_is kind (stray ∷ given) = refl

module _ (kind : Kind) (words : List Text) where
  abbrev front : List Item
  front = items (before_first is_dashes words)

  abbrev back : List Text
  back = after_first is_dashes words

  abbrev takes_all : List Item → Bool
  takes_all given = list_all (taken (options_of kind) (has_json kind)) given

  -- the test of the definition, over all items
  front_test : (list_all (takes kind) front && are_different front) ≡ (takes_all (all_items words) && are_different (all_items words))
  front_test =
      ap₂ (λ (a b : Bool). a && b) (takes_is kind front ∙ sym (behind_taken (taken (options_of kind) (has_json kind)) (λ word. refl) front back)) (sym (behind_different front back))

  -- where it passes, those items are met
  pub front_met : (list_all (takes kind) front && are_different front) ≡ true → (takes_all (met_items words) && are_different (met_items words)) ≡ true
  front_met passes =
      let both = and_parts (takes_all (all_items words)) (are_different (all_items words)) (sym front_test ∙ passes) in
      ⊎_elim (λ is. ap (λ (l : List Item). takes_all l && are_different l) is ∙ sym front_test ∙ passes)
      (λ strays. clash (list_any is_stray (all_items words)) strays.0 (no_stray (options_of kind) (has_json kind) (all_items words) both.0)) (cut_alike words)

  -- what is met asks for what the definition says
  pub met_command : (takes_all (met_items words) && are_different (met_items words)) ≡ true → command_with kind (met_items words) (operands (met_items words)) ≡ command_from kind front back
  met_command passes = ⊎_elim
      (λ is.
      let test : (list_all (takes kind) front && are_different front) ≡ true = front_test ∙ ap (λ (l : List Item). takes_all l && are_different l) (sym is) ∙ passes in
      ap (λ (l : List Item). command_with kind l (operands l)) is
      ∙ same_command (all_items words) front (λ name. behind_value name front back) (behind_any (is_same flag) (λ word. refl) front back) kind (operands (all_items words))
      ∙ ap (λ (l : List Text). command_with kind front l) (behind_operands front back)
      ∙ sym (ap (λ (t : Bool). cond t (command_with kind front (operands front ++ back)) None) test))
      (λ strays.
      let both = and_parts (takes_all (met_items words)) (are_different (met_items words)) passes in
      let dash = dash_named (options_of kind) (has_json kind) (met_items words) strays.1 both.0 both.1 in
      let fails : takes_all (all_items words) ≡ false = false_from_ne_true (takes_all (all_items words)) (λ takes. clash (list_any is_stray (all_items words)) strays.0 (no_stray (options_of kind) (has_json kind) (all_items words) takes)) in
      dash_command kind (met_items words) (operands (met_items words)) dash.0 dash.1 dash.2
      ∙ sym (ap (λ (t : Bool). cond t (command_with kind front (operands front ++ back)) None) (front_test ∙ and_left (takes_all (all_items words)) (are_different (all_items words)) fails)))
      (cut_alike words)
