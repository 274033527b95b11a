-- The printed text of a model says this model.
use Rattle.std.proofs.Common.{◌≡◌, ℕ, ◌≤◌, ◌||◌, Bool, true, false, cond, List, [], ◌∷◌, ◌++◌, length, map, eqb, codes, Option, Some, None, refl, sym, ap, ◌∙◌, subst}
use Rattle.std.specs.Prelude.{⊤, IsTrue}
use Rattle.std.specs.List.{filter_map, list_all, list_any, AllByRecursion}
use Rattle.std.specs.Option.{option_or}
use Rattle.std.specs.Str.{bytes_eq}
use Rattle.std.proofs.lemmas.Bool.{eqb-false, and_parts, or_parts}
use Rattle.std.proofs.lemmas.List.{append_assoc, append-nil}
use Rattle.std.proofs.lemmas.List.Elements.{recursion_from_All}
use Rattle.std.proofs.lemmas.List.Folds.{list_any-append}
use Rattle.effect_fold.specs.declared.effect.Effect.{Effect}
use Rattle.effect_fold.specs.declared.effect.Effect.TheVariants as e
use Rattle.matcher_read.specs.Calls.{relation_names}
use Rattle.text_parts.specs.Names.{is_identifier, is_word}
use Rattle.perm_base.specs.Fields.{joined}
use Rattle.perm_base.specs.declared.shapes.RoleShape.{RoleShape}
use Rattle.text_parts.specs.Blanks.{before_blanks}
use Rattle.model_conf.specs.Columns.{AreColumns, columns_in}
use Rattle.model_conf.specs.Effects.{effect_of, effect_text, model_effect}
use Rattle.model_conf.specs.Kept.{IsKept}
use Rattle.text_parts.specs.Passed.{is_passed_in_model}
use Rattle.text_parts.specs.Numbered.{numbered}
use Rattle.model_conf.specs.ModelText.{ModelParts, HasValues, IsModel, SayModel, Values, most_bytes}
use Rattle.model_conf.specs.Printed.{printed, printed_lines, relation_entry, role_lines}
use Rattle.model_conf.specs.Relations.{first_bad_shape, relations_of}
use Rattle.model_conf.specs.Sections.{Entry, entry, entries_of, entry_of, first_fault, has_key, is_key_of, is_section, said_fault}
use Rattle.model_conf.specs.Statements.{LineContent, header, pair, nothing, IsNoHeader, Statement, statement, AreStatements}
use Rattle.model_conf.specs.Helps.Steps.{Standing, behind, standing}
use Rattle.model_conf.specs.declared.fault.ModelFault.{ModelFault}
use Rattle.model_conf.specs.declared.fault.ModelFault.TheVariants as fault
use Rattle.model_conf.proofs.AsciiLemmas.{IsUtf8-printed}
use Rattle.text_parts.proofs.BlankLemmas.{before_blanks-push}
use Rattle.model_conf.proofs.EffectLemmas.{allowed}
use Rattle.model_conf.proofs.ColumnLemmas.{differs, has_byte-identifier}
use Rattle.text_parts.proofs.CallerLemmas.{words_of}
use Rattle.model_conf.proofs.JoinedLemmas.{columns_in-joined, joined_tame, joined_trimmed, words_first, words_last}
use Rattle.model_conf.proofs.ReadLemmas.{stands-push, stands_behind}
use Rattle.model_conf.proofs.SlotLemmas.{AreApart, AreFresh, HasSlots, IsOther, fresh_more, no_key-append, shape_text, slot_entries, slots_fine, slots_lack, slots_of, slots_read, value_behind}
use Rattle.model_conf.proofs.SpelledLemmas.{AreRead, IsEntryText, IsKeyText, IsValueText, empty_line, lines_again, no_lines, read-append, said_by_lines, said_of, section_read, tame_value}
use Rattle.model_conf.proofs.SteadyLemmas.{matcher_bare}
use Rattle.model_conf.proofs.TameLemmas.{words_tame}

-- ---- keys and values of a model

no_header : (byte : ℕ) (rest : List ℕ) → eqb byte 91 ≡ false → IsNoHeader (byte ∷ rest)
no_header byte rest other name same = eqb-false byte 91 other (first_of same)
  where
    first_of : {a b : ℕ} {as_ bs : List ℕ} → a ∷ as_ ≡ b ∷ bs → a ≡ b
    first_of same = cc

begins_line : (byte : ℕ) (rest : List ℕ) → is_word byte ≡ true → is_passed_in_model (byte ∷ rest) ≡ false
begins_line byte rest word = rw (differs 32 byte refl word, differs 9 byte refl word, differs 35 byte refl word, differs 59 byte refl word) refl

-- an identifier is such a key
key_text : (name : List ℕ) → IsTrue (is_identifier name) → IsKeyText name
key_text [] is = absurd cc
key_text (byte ∷ name) is =
    let all = words_of (byte ∷ name) is in
    let word : is_word byte ≡ true = (and_parts (is_word byte) (list_all is_word name) all).0 in
    record {
      tame = words_tame (byte ∷ name) all;
      whole = list_any-append (λ b. eqb b 61) (byte ∷ name) (32 ∷ []) ∙ ap (λ (b : Bool). b || false) (has_byte-identifier 61 (byte ∷ name) refl is);
      first = λ rest. words_first (byte ∷ name) rest is;
      begun = λ rest. begins_line byte (name ++ rest) word;
      other = λ rest. no_header byte (name ++ rest) (differs 91 byte refl word);
      bare = ap before_blanks (words_first (byte ∷ name) (32 ∷ []) is) ∙ before_blanks-push (byte ∷ name) 32 refl ∙ words_last (byte ∷ name) all;
    }

names_value : (names : List (List ℕ)) → AreColumns names → IsValueText (joined names)
names_value names are =
    let named = recursion_from_All _ _ are.named in
    tame_value (joined names) (joined_tame names named) (joined_trimmed names are.some named)

shape_value : (with_domain : Bool) → IsValueText (shape_text with_domain)
shape_value true = tame_value (codes "_, _, _") refl refl
shape_value false = tame_value (codes "_, _") refl refl

effect_value : (effect : Effect) → IsValueText (effect_text effect)
effect_value e.AllowOverride = tame_value (effect_text e.AllowOverride) refl refl
effect_value e.DenyOverride = tame_value (effect_text e.DenyOverride) refl refl
effect_value e.AllowAndDeny = tame_value (effect_text e.AllowAndDeny) refl refl
effect_value e.Priority = tame_value (effect_text e.Priority) refl refl
effect_value e.SubjectPriority = tame_value (effect_text e.SubjectPriority) refl refl

matcher_value : (m : ModelParts) → IsKept m → IsValueText m.matcher_text
matcher_value m kept =
    let bare = matcher_bare m.matcher_text m.matcher kept.matcher in
    record { whole = kept.part.whole_line; uncommented = bare.uncommented; firm = bare.firm; bare = kept.part.trimmed_is }

slots_text : (names : List (List ℕ)) (slots : List (Option Bool)) → AllByRecursion (λ (name : List ℕ). IsTrue (is_identifier name)) names → AllByRecursion IsEntryText (slot_entries names slots)
slots_text [] slots all = tt
slots_text (name ∷ names) [] all = tt
slots_text (name ∷ names) (None ∷ slots) all = slots_text names slots all.1
slots_text (name ∷ names) (Some with_domain ∷ slots) all = (record { key = key_text name all.0; value = shape_value with_domain }, slots_text names slots all.1)

-- ---- the keys of relations

each_by : (p : List ℕ → Bool) (names : List (List ℕ)) → list_all p names ≡ true → AllByRecursion (λ (name : List ℕ). p name ≡ true) names
each_by p [] all = tt
each_by p (name ∷ names) all =
    let parts = and_parts (p name) (list_all p names) all in
    (parts.0, each_by p names parts.1)

none_by : (p : List ℕ → Bool) (names : List (List ℕ)) → list_any p names ≡ false → AllByRecursion (λ (name : List ℕ). p name ≡ false) names
none_by p [] none = tt
none_by p (name ∷ names) none =
    let parts = or_parts (p name) (list_any p names) none in
    (parts.0, none_by p names parts.1)

others_by : (name : List ℕ) (names : List (List ℕ)) → list_any (λ (other : List ℕ). bytes_eq name other || bytes_eq other name) names ≡ false → IsOther name names
others_by name [] none = tt
others_by name (other ∷ names) none =
    let parts = or_parts (bytes_eq name other || bytes_eq other name) (list_any (λ (o : List ℕ). bytes_eq name o || bytes_eq o name) names) none in
    (or_parts (bytes_eq name other) (bytes_eq other name) parts.0, others_by name names parts.1)

abbrev are_repeated : List (List ℕ) → Bool
are_repeated [] = false
are_repeated (name ∷ names) = list_any (λ (other : List ℕ). bytes_eq name other || bytes_eq other name) names || are_repeated names

apart_by : (names : List (List ℕ)) → list_all (λ (name : List ℕ). bytes_eq name name) names ≡ true → are_repeated names ≡ false → AreApart names
apart_by [] same none = tt
apart_by (name ∷ names) same none =
    let itself = and_parts (bytes_eq name name) (list_all (λ (n : List ℕ). bytes_eq n n) names) same in
    let parts = or_parts (list_any (λ (other : List ℕ). bytes_eq name other || bytes_eq other name) names) (are_repeated names) none in
    (itself.0, others_by name names parts.0, apart_by names itself.1 parts.1)

relations_apart : AreApart relation_names
relations_apart = apart_by relation_names refl refl

abbrev AreRoleKeys : List (List ℕ) → Type 0
AreRoleKeys names = AllByRecursion (λ (name : List ℕ). has_key (codes "role_definition") name ≡ true) names

role_keys : AreRoleKeys relation_names
unfolding has_key
role_keys = each_by (has_key (codes "role_definition")) relation_names refl

-- ---- the entries and the lines of a model

abbrev front_entries : ModelParts → List Entry
front_entries m = entry (codes "r") (joined m.request) ∷ entry (codes "p") (joined m.policy) ∷ []

abbrev back_entries : ModelParts → List Entry
back_entries m = entry (codes "e") (effect_text m.effect) ∷ entry (codes "m") m.matcher_text ∷ []

abbrev all_entries : ModelParts → List Entry
all_entries m = front_entries m ++ (map relation_entry m.relations ++ back_entries m)

abbrev role_saids : List RoleShape → List LineContent
role_saids [] = []
role_saids (first ∷ others) = header (codes "role_definition") ∷ map said_of (map relation_entry (first ∷ others))

abbrev back_saids : ModelParts → List LineContent
back_saids m = header (codes "policy_effect") ∷ pair (codes "e") (effect_text m.effect) ∷ header (codes "matchers") ∷ pair (codes "m") m.matcher_text ∷ []

abbrev all_saids : ModelParts → List LineContent
all_saids m =
    header (codes "request_definition") ∷ pair (codes "r") (joined m.request) ∷ header (codes "policy_definition") ∷ pair (codes "p") (joined m.policy) ∷ (role_saids m.relations ++ back_saids m)

roles_read : (relations : List RoleShape) → AllByRecursion IsEntryText (map relation_entry relations) → AreRead (role_lines relations) (role_saids relations)
roles_read [] all = no_lines
roles_read (first ∷ others) all = empty_line (section_read (codes "role_definition") (map relation_entry (first ∷ others)) refl all)

printed_read : (m : ModelParts) → IsKept m → HasSlots 1 relation_names m.relations → AreRead (printed_lines m) (all_saids m)
unfolding printed_lines
printed_read m kept h =
    let r : IsEntryText (entry (codes "r") (joined m.request)) = record { key = key_text (codes "r") refl; value = names_value m.request kept.request } in
    let p : IsEntryText (entry (codes "p") (joined m.policy)) = record { key = key_text (codes "p") refl; value = names_value m.policy kept.policy } in
    let f : IsEntryText (entry (codes "e") (effect_text m.effect)) = record { key = key_text (codes "e") refl; value = effect_value m.effect } in
    let t : IsEntryText (entry (codes "m") m.matcher_text) = record { key = key_text (codes "m") refl; value = matcher_value m kept } in
    let roles = roles_read m.relations (subst (λ (es : List Entry). AllByRecursion IsEntryText es) (sym h.entries_are) (slots_text relation_names h.slots (each_by is_identifier relation_names refl))) in
    let effects = empty_line (section_read (codes "policy_effect") (entry (codes "e") (effect_text m.effect) ∷ []) refl (f, tt)) in
    let matchers = empty_line (section_read (codes "matchers") (entry (codes "m") m.matcher_text ∷ []) refl (t, tt)) in
    let front = read-append (section_read (codes "request_definition") (entry (codes "r") (joined m.request) ∷ []) refl (r, tt)) (empty_line (section_read (codes "policy_definition") (entry (codes "p") (joined m.policy) ∷ []) refl (p, tt))) in
    let regrouped = append_assoc (role_saids m.relations) (header (codes "policy_effect") ∷ pair (codes "e") (effect_text m.effect) ∷ []) (header (codes "matchers") ∷ pair (codes "m") m.matcher_text ∷ []) in
    subst (λ (l : List LineContent). AreRead (printed_lines m) (header (codes "request_definition") ∷ pair (codes "r") (joined m.request) ∷ header (codes "policy_definition") ∷ pair (codes "p") (joined m.policy) ∷ l)) regrouped
    (read-append (read-append (read-append front roles) effects) matchers)

-- ---- no line is out of order

abbrev AllFine : Standing → List LineContent → Type 0
AllFine now [] = ⊤
AllFine now (said ∷ saids) = ((number : ℕ) → said_fault now.entries now.section number said ≡ None) × AllFine (behind now said) saids

no_fault : (before statements : List Statement) → AllFine (stands_behind before) (map (λ (s : Statement). s.said) statements) → first_fault before statements ≡ None
no_fault before [] fine = refl
no_fault before (s ∷ others) fine =
    ap (λ (o : Option ModelFault). option_or o (first_fault (before ++ s ∷ []) others)) (fine.0 s.number)
    ∙ no_fault (before ++ s ∷ []) others (subst (λ (now : Standing). AllFine now (map (λ (t : Statement). t.said) others)) (sym (stands-push before s.number s.said)) fine.1)

slots_in_order : (names : List (List ℕ)) (slots : List (Option Bool)) (before : List Entry) (rest : List LineContent) → AreRoleKeys names → AreFresh before names → AreApart names
    → AllFine (standing (Some (codes "role_definition")) (before ++ slot_entries names slots)) rest → AllFine (standing (Some (codes "role_definition")) before) (map said_of (slot_entries names slots) ++ rest)
slots_in_order [] slots before rest keys fresh apart_ fine = subst (λ (l : List Entry). AllFine (standing (Some (codes "role_definition")) l) rest) (append-nil before) fine
slots_in_order (name ∷ names) [] before rest keys fresh apart_ fine = subst (λ (l : List Entry). AllFine (standing (Some (codes "role_definition")) l) rest) (append-nil before) fine
slots_in_order (name ∷ names) (None ∷ slots) before rest keys fresh apart_ fine = slots_in_order names slots before rest keys.1 fresh.1 apart_.2 fine
slots_in_order (name ∷ names) (Some with_domain ∷ slots) before rest keys fresh apart_ fine =
    let first : Entry = entry name (shape_text with_domain) in (
      λ number. here number (has_key (codes "role_definition") name) (is_key_of before name) keys.0 fresh.0,
      slots_in_order names slots (before ++ first ∷ []) rest keys.1 (fresh_more before name (shape_text with_domain) names fresh.1 apart_.1) apart_.2
          (subst (λ (l : List Entry). AllFine (standing (Some (codes "role_definition")) l) rest) (sym (append_assoc before (first ∷ []) (slot_entries names slots))) fine),
    )
  where
    here : (number : ℕ) (known repeated : Bool) → known ≡ true → repeated ≡ false → cond known (cond repeated (Some (fault.RepeatedKey number)) None) (Some (fault.UnknownKey number)) ≡ None
    here number known repeated e f = rw (e, f) refl

back_in_order : (m : ModelParts) (section : Option (List ℕ)) (roles : List Entry) → is_key_of roles (codes "e") ≡ false → is_key_of roles (codes "m") ≡ false → AllFine (standing section (front_entries m ++ roles)) (back_saids m)
unfolding is_section has_key
back_in_order m section roles no_e no_m =
    let no_m_more : is_key_of (roles ++ entry (codes "e") (effect_text m.effect) ∷ []) (codes "m") ≡ false = no_key-append roles (entry (codes "e") (effect_text m.effect) ∷ []) (codes "m") no_m refl in
    (λ number. refl, (λ number. ap (λ (b : Bool). cond b (Some (fault.RepeatedKey number)) None) no_e, (λ number. refl, (λ number. ap (λ (b : Bool). cond b (Some (fault.RepeatedKey number)) None) no_m_more, tt))))

lacks : (key : List ℕ) (slots : List (Option Bool)) → list_any (λ (name : List ℕ). bytes_eq name key) relation_names ≡ false → is_key_of (slot_entries relation_names slots) key ≡ false
lacks key slots none = slots_lack key relation_names slots (none_by (λ (name : List ℕ). bytes_eq name key) relation_names none)

roles_in_order : (m : ModelParts) (relations : List RoleShape) → HasSlots 1 relation_names relations → AllFine (standing (Some (codes "policy_definition")) (front_entries m)) (role_saids relations ++ back_saids m)
unfolding is_section
roles_in_order m [] h = back_in_order m (Some (codes "policy_definition")) [] refl refl
roles_in_order m (first ∷ others) h = (
  λ number. refl,
  subst (λ (es : List Entry). AllFine (standing (Some (codes "role_definition")) (front_entries m)) (map said_of es ++ back_saids m)) (sym h.entries_are)
      (slots_in_order relation_names h.slots (front_entries m) (back_saids m) role_keys (none_by (is_key_of (front_entries m)) relation_names refl) relations_apart
      (back_in_order m (Some (codes "role_definition")) (slot_entries relation_names h.slots) (lacks (codes "e") h.slots refl) (lacks (codes "m") h.slots refl))),
)

all_in_order : (m : ModelParts) → HasSlots 1 relation_names m.relations → AllFine (standing None []) (all_saids m)
unfolding is_section has_key
all_in_order m h = (λ number. refl, (λ number. refl, (λ number. refl, (λ number. refl, roles_in_order m m.relations h))))

-- ---- the entries say the model

entries_said : (statements : List Statement) → entries_of statements ≡ filter_map entry_of (map (λ (s : Statement). s.said) statements)
entries_said [] = refl
entries_said (s ∷ others) = by_said s.number s.said (entries_said others)
  where
    by_said : (number : ℕ) (said : LineContent) → entries_of others ≡ filter_map entry_of (map (λ (t : Statement). t.said) others)
        → entries_of (statement number said ∷ others) ≡ filter_map entry_of (said ∷ map (λ (t : Statement). t.said) others)
    by_said number (header name) rest = rest
    by_said number (pair key value) rest = ap (λ (l : List Entry). entry key value ∷ l) rest
    by_said number nothing rest = rest

entries_of_pairs : (entries : List Entry) (rest : List LineContent) → filter_map entry_of (map said_of entries ++ rest) ≡ entries ++ filter_map entry_of rest
entries_of_pairs [] rest = refl
entries_of_pairs (e ∷ entries) rest = ap (λ (l : List Entry). e ∷ l) (entries_of_pairs entries rest)

entries_of_roles : (relations : List RoleShape) (rest : List LineContent) → filter_map entry_of (role_saids relations ++ rest) ≡ map relation_entry relations ++ filter_map entry_of rest
entries_of_roles [] rest = refl
entries_of_roles (first ∷ others) rest = entries_of_pairs (map relation_entry (first ∷ others)) rest

entries_of_all : (m : ModelParts) → filter_map entry_of (all_saids m) ≡ all_entries m
entries_of_all m = ap (λ (l : List Entry). front_entries m ++ l) (entries_of_roles m.relations (back_saids m))

effect_read : (effect : Effect) → Some effect ≡ effect_of (effect_text effect)
unfolding effect_of
effect_read e.AllowOverride = refl
effect_read e.DenyOverride = refl
effect_read e.AllowAndDeny = refl
effect_read e.Priority = refl
effect_read e.SubjectPriority = refl

shapes_read : (m : ModelParts) → HasSlots 1 relation_names m.relations → first_bad_shape (all_entries m) ≡ None
unfolding first_bad_shape
shapes_read m h =
    ap (λ (es : List Entry). first_bad_shape (front_entries m ++ (es ++ back_entries m))) h.entries_are ∙ slots_fine relation_names h.slots (back_entries m) refl

relations_read : (m : ModelParts) → HasSlots 1 relation_names m.relations → m.relations ≡ relations_of (all_entries m)
unfolding relations_of
relations_read m h =
    h.relations_are
    ∙ sym (slots_read 1 relation_names h.slots (front_entries m) (back_entries m) (all_entries m) h.counted relations_apart (none_by (is_key_of (front_entries m)) relation_names refl) (none_by (is_key_of (back_entries m)) relation_names refl)
    (ap (λ (es : List Entry). front_entries m ++ (es ++ back_entries m)) h.entries_are))

abbrev values_of : ModelParts → Values
values_of m = record { request = joined m.request; policy = joined m.policy; effect = effect_text m.effect; matcher = m.matcher_text }

values_read : (m : ModelParts) → HasSlots 1 relation_names m.relations → HasValues (all_entries m) (values_of m)
values_read m h =
    let no_e : is_key_of (map relation_entry m.relations) (codes "e") ≡ false = ap (λ (es : List Entry). is_key_of es (codes "e")) h.entries_are ∙ lacks (codes "e") h.slots refl in
    let no_m : is_key_of (map relation_entry m.relations) (codes "m") ≡ false = ap (λ (es : List Entry). is_key_of es (codes "m")) h.entries_are ∙ lacks (codes "m") h.slots refl in
    record {
      request = refl;
      policy = refl;
      effect = value_behind (map relation_entry m.relations) (back_entries m) (codes "e") no_e;
      matcher = value_behind (map relation_entry m.relations) (back_entries m) (codes "m") no_m;
    }

entries_say : (m : ModelParts) → IsKept m → HasSlots 1 relation_names m.relations → SayModel (all_entries m) m
entries_say m kept h =
    let request : columns_in (joined m.request) ≡ m.request = columns_in-joined m.request kept.request.some (recursion_from_All _ _ kept.request.named) in
    let policy : columns_in (joined m.policy) ≡ m.policy = columns_in-joined m.policy kept.policy.some (recursion_from_All _ _ kept.policy.named) in
    record {
      values = values_of m;
      has = record {
        has = record { has = values_read m h; request = subst AreColumns (sym request) kept.request; policy = subst AreColumns (sym policy) kept.policy };
        shapes = shapes_read m h;
        effect_is =
            ap (λ (relations : List RoleShape). model_effect relations (columns_in (joined m.policy)) (effect_text m.effect)) (sym (relations_read m h))
            ∙ ap (λ (columns : List (List ℕ)). model_effect m.relations columns (effect_text m.effect)) policy
            ∙ allowed m.relations m.policy (effect_text m.effect) m.effect (effect_read m.effect) kept.effect;
      };
      request = sym request;
      policy = sym policy;
      relations = relations_read m h;
      matcher_text = refl;
      matcher = kept.matcher;
      declared = kept.declared;
    }

-- ---- the whole

pub printed_is_model : (m : ModelParts) → IsKept m → length (printed m) ≤ most_bytes → IsModel (printed m) m
printed_is_model m kept few =
    let h = slots_of m.relations kept.relations in
    let read = printed_read m kept h in
    let said = said_by_lines read 1 in
    let entries : entries_of said.statements ≡ all_entries m = entries_said said.statements ∙ ap (filter_map entry_of) said.say ∙ entries_of_all m in
    record {
      statements = said.statements;
      text = record {
        few = few;
        utf8 = IsUtf8-printed m kept.request.named kept.policy.named kept.utf8;
        said = subst (λ (lines : List (List ℕ)). AreStatements (numbered 1 lines) said.statements) (sym (lines_again read)) said.are;
      };
      lines = no_fault [] said.statements (subst (λ (l : List LineContent). AllFine (standing None []) l) (sym said.say) (all_in_order m h));
      says = subst (λ (es : List Entry). SayModel es m) (sym entries) (entries_say m kept h);
    }

-- a text that is printed
pub read_back : (m : ModelParts) (text : List ℕ) → IsKept m → text ≡ printed m → length text ≤ most_bytes → IsModel text m
read_back m text kept is few = subst (λ (t : List ℕ). IsModel t m) (sym is) (printed_is_model m kept (subst (λ (t : List ℕ). length t ≤ most_bytes) is few))
