-- What the printed lines say: `[name]` and `key = value`.
use Rattle.std.proofs.Common.{◌≡◌, ℕ, ◌+◌, Bool, true, false, cond, List, [], ◌∷◌, ◌++◌, eqb, map, codes, refl, sym, ap, ◌∙◌, subst}
use Rattle.std.specs.List.{list_all, AllByRecursion}
use Rattle.std.proofs.lemmas.List.{append_assoc, append-nil}
use Rattle.std.proofs.lemmas.List.Folds.{list_any-append}
use Rattle.text_parts.specs.Blanks.{is_blank, before_blanks, behind_blanks, trimmed}
use Rattle.text_parts.specs.Lines.{has_byte, lines_of, with_ends, without_cr}
use Rattle.model_conf.specs.Comments.{IsUncommented, ended as no_bytes}
use Rattle.text_parts.specs.Numbered.{Line, line, numbered, text_lines}
use Rattle.text_parts.specs.Passed.{is_passed_in_model}
use Rattle.model_conf.specs.Logical.{EndsOpen, ended, no_line}
use Rattle.model_conf.specs.Printed.{key_line, section_lines}
use Rattle.model_conf.specs.Sections.{Entry}
use Rattle.model_conf.specs.Statements.{LineContent, header, pair, IsNoHeader, Says, as_header, as_pair, LineSays, Statement, statement, AreStatements, no_more}
use Rattle.text_parts.proofs.BlankLemmas.{before_blanks-other, behind_blanks-blank}
use Rattle.std.proofs.lemmas.Bool.{and_parts}
use Rattle.model_conf.proofs.JoinedLemmas.{before_blanks-onto}
use Rattle.model_conf.proofs.ReadLemmas.{begun_more, passed_more}
use Rattle.model_conf.proofs.TameLemmas.{are_tame, loose, loose-append, no_cr, not_open, tame-append, tame_firm, tame_line, tame_uncommented}
use Rattle.model_conf.proofs.TextLemmas.{before_again}
use Rattle.text_parts.proofs.CallerLemmas.{lines_of-cut, text_lines-first, text_lines-none}

-- ---- keys and values

-- a key that begins a line
pub record IsKeyText (key : List ℕ) : Type 0 where
  pub tame : are_tame key ≡ true
  pub whole : has_byte 61 (key ++ 32 ∷ []) ≡ false
  pub first : (rest : List ℕ) → behind_blanks (key ++ rest) ≡ key ++ rest
  pub begun : (rest : List ℕ) → is_passed_in_model (key ++ rest) ≡ false
  pub other : (rest : List ℕ) → IsNoHeader (key ++ rest)
  pub bare : trimmed (key ++ 32 ∷ []) ≡ key

-- a value that ends a line
pub record IsValueText (value : List ℕ) : Type 0 where
  pub whole : has_byte 10 value ≡ false
  pub uncommented : IsUncommented value value
  pub firm : loose false value ≡ false
  pub bare : trimmed value ≡ value

pub tame_value : (value : List ℕ) → are_tame value ≡ true → trimmed value ≡ value → IsValueText value
tame_value value tame bare = record {
  whole = tame_line value tame;
  uncommented = subst (λ (t : List ℕ). IsUncommented t t) (append-nil value) (tame_uncommented value [] [] tame no_bytes);
  firm = tame_firm value tame;
  bare = bare;
}

pub record IsEntryText (e : Entry) : Type 0 where
  pub key : IsKeyText e.key
  pub value : IsValueText e.value

-- ---- one line

-- a line that says this, whatever stands behind it
pub record IsSpelled (text : List ℕ) (said : LineContent) : Type 0 where
  pub whole : has_byte 10 text ≡ false
  pub no_cr_is : without_cr text ≡ text
  pub closed : (front : List ℕ) → ¬ (EndsOpen text front)
  pub begun : is_passed_in_model text ≡ false
  pub says : LineSays text said

all_behind : (text : List ℕ) → list_all is_blank text ≡ true → behind_blanks text ≡ []
all_behind [] all = refl
all_behind (byte ∷ text) all =
    let parts = and_parts (is_blank byte) (list_all is_blank text) all in
    behind_blanks-blank byte text parts.0 ∙ all_behind text parts.1

value_by : (value : List ℕ) (all : Bool) → list_all is_blank value ≡ all → trimmed value ≡ value → trimmed (before_blanks (32 ∷ value)) ≡ value
value_by value true e bare = ap (λ (b : Bool). trimmed (cond b [] (32 ∷ before_blanks value))) e ∙ sym (sym bare ∙ ap before_blanks (all_behind value e))
value_by value false e bare =
    ap (λ (b : Bool). trimmed (cond b [] (32 ∷ before_blanks value))) e ∙ ap trimmed (ap before_blanks (sym bare) ∙ before_again (behind_blanks value) ∙ bare) ∙ bare

-- a key, a blank, `=` and what stands behind it
says_pair : (key value : List ℕ) → IsKeyText key → trimmed value ≡ value → Says (trimmed (key ++ (32 ∷ 61 ∷ 32 ∷ value))) (pair key value)
says_pair key value k bare =
    let left = before_blanks (32 ∷ value) in
    let cut : key ++ (32 ∷ 61 ∷ left) ≡ (key ++ 32 ∷ []) ++ 61 ∷ left = sym (append_assoc key (32 ∷ []) (61 ∷ left)) in
    let text : trimmed (key ++ (32 ∷ 61 ∷ 32 ∷ value)) ≡ (key ++ 32 ∷ []) ++ 61 ∷ left =
    ap before_blanks (k.first (32 ∷ 61 ∷ 32 ∷ value) ∙ sym (append_assoc key (32 ∷ []) (61 ∷ 32 ∷ value))) ∙ before_blanks-onto (key ++ 32 ∷ []) (61 ∷ 32 ∷ value) refl in
    let said : Says ((key ++ 32 ∷ []) ++ 61 ∷ left) (pair (trimmed (key ++ 32 ∷ [])) (trimmed left)) = as_pair (key ++ 32 ∷ []) left (subst IsNoHeader cut (k.other (32 ∷ 61 ∷ left))) k.whole refl in
    subst (λ (t : List ℕ). Says t (pair key value)) (sym text)
    (subst (λ (v : List ℕ). Says ((key ++ 32 ∷ []) ++ 61 ∷ left) (pair key v)) (value_by value (list_all is_blank value) refl bare)
    (subst (λ (x : List ℕ). Says ((key ++ 32 ∷ []) ++ 61 ∷ left) (pair x (trimmed left))) k.bare said))

pub key_spelled : (e : Entry) → IsEntryText e → IsSpelled (key_line e) (pair e.key e.value)
key_spelled e is =
    let front = e.key ++ codes " = " in
    let tame : are_tame front ≡ true = tame-append e.key (codes " = ") is.key.tame refl in
    let split : front ++ e.value ≡ key_line e = append_assoc e.key (codes " = ") e.value in
    let firm : loose false (key_line e) ≡ false = ap (loose false) (sym split) ∙ loose-append false front e.value ∙ ap (λ (b : Bool). loose b e.value) (tame_firm front tame) ∙ is.value.firm in
    record {
      whole = ap (has_byte 10) (sym split) ∙ list_any-append (λ b. eqb b 10) front e.value ∙ rw (tame_line front tame, is.value.whole) refl;
      no_cr_is = no_cr (key_line e) firm;
      closed = not_open (key_line e) firm;
      begun = is.key.begun (codes " = " ++ e.value);
      says = record {
        left = key_line e;
        uncommented = subst (λ (t : List ℕ). IsUncommented t t) split (tame_uncommented front e.value e.value tame is.value.uncommented);
        says = says_pair e.key e.value is.key is.value.bare;
      };
    }

pub header_spelled : (name : List ℕ) → are_tame name ≡ true → IsSpelled (91 ∷ name ++ 93 ∷ []) (header name)
header_spelled name tame =
    let text : List ℕ = 91 ∷ name ++ 93 ∷ [] in
    let all : are_tame text ≡ true = tame-append (91 ∷ name) (93 ∷ []) tame refl in
    let bare : trimmed text ≡ text = before_blanks-other (91 ∷ name) 93 refl in
    let firm = tame_firm text all in
    record {
      whole = tame_line text all;
      no_cr_is = no_cr text firm;
      closed = not_open text firm;
      begun = refl;
      says = record { left = text; uncommented = (tame_value text all bare).uncommented; says = as_header name bare };
    }

-- ---- lines one behind the other

-- each line is empty or says the next of these
pub data AreRead : List (List ℕ) → List LineContent → Type 0 where
  no_lines : AreRead [] []
  empty_line : {lines : List (List ℕ)} {saids : List LineContent} → AreRead lines saids → AreRead ([] ∷ lines) saids
  full_line : {text : List ℕ} {said : LineContent} {lines : List (List ℕ)} {saids : List LineContent} → IsSpelled text said → AreRead lines saids → AreRead (text ∷ lines) (said ∷ saids)

pub read-append : {front back : List (List ℕ)} {saids others : List LineContent} → AreRead front saids → AreRead back others → AreRead (front ++ back) (saids ++ others)
read-append no_lines more = more
read-append (empty_line rest) more = empty_line (read-append rest more)
read-append (full_line is rest) more = full_line is (read-append rest more)

abbrev pub said_of : Entry → LineContent
said_of e = pair e.key e.value

keys_read : (entries : List Entry) → AllByRecursion IsEntryText entries → AreRead (map key_line entries) (map said_of entries)
keys_read [] all = no_lines
keys_read (e ∷ entries) all = full_line (key_spelled e all.0) (keys_read entries all.1)

pub section_read : (name : List ℕ) (entries : List Entry) → are_tame name ≡ true → AllByRecursion IsEntryText entries → AreRead (section_lines name entries) (header name ∷ map said_of entries)
section_read name entries tame all = full_line (header_spelled name tame) (keys_read entries all)

ends_more : (text : List ℕ) (lines : List (List ℕ)) → has_byte 10 text ≡ false → without_cr text ≡ text → text_lines (with_ends lines) ≡ lines → text_lines (with_ends (text ∷ lines)) ≡ text ∷ lines
ends_more text lines none same rest =
    text_lines-first (with_ends (text ∷ lines)) (with_ends lines) text (ap lines_of (append_assoc text (10 ∷ []) (with_ends lines)) ∙ lines_of-cut text (with_ends lines) none)
    ∙ ap (λ (t : List ℕ). t ∷ text_lines (with_ends lines)) same ∙ ap (λ (l : List (List ℕ)). text ∷ l) rest

no_ends : lines_of [] ≡ []
unfolding lines_of
no_ends = refl

pub lines_again : {lines : List (List ℕ)} {saids : List LineContent} → AreRead lines saids → text_lines (with_ends lines) ≡ lines
lines_again no_lines = text_lines-none [] no_ends
lines_again (empty_line {lines = lines} rest) = ends_more [] lines refl refl (lines_again rest)
lines_again (full_line {text} {lines = lines} is rest) = ends_more text lines is.whole is.no_cr_is (lines_again rest)

-- the statements of lines
pub record HasSaid (lines : List Line) (saids : List LineContent) : Type 0 where
  pub statements : List Statement
  pub are : AreStatements lines statements
  pub say : map (λ (s : Statement). s.said) statements ≡ saids

pub said_by_lines : {lines : List (List ℕ)} {saids : List LineContent} → AreRead lines saids → (number : ℕ) → HasSaid (numbered number lines) saids
said_by_lines no_lines number = record { statements = []; are = record { logical = []; lines_are = no_line; say = no_more }; say = refl }
said_by_lines (empty_line rest) number =
    let more = said_by_lines rest (number + 1) in
    record { statements = more.statements; are = passed_more refl more.are; say = more.say }
said_by_lines (full_line {text} {said} {lines} is rest) number =
    let more = said_by_lines rest (number + 1) in
    record {
      statements = statement number said ∷ more.statements;
      are = begun_more {first = line number text} {lines = numbered (number + 1) lines} is.begun (ended is.closed) is.says more.are;
      say = ap (λ (l : List LineContent). said ∷ l) more.say;
    }
