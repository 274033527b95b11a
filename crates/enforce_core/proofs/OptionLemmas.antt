-- Options that a text says, one a line.
use Rattle.std.proofs.Common.{◌≡◌, ℕ, ◌<◌, ◌≤◌, List, [], ◌∷◌, ◌++◌, append_assoc, append-nil, Option, Some, None, sym, ap, subst, ◌∙◌}
use Rattle.std.specs.Prelude.{IfSome, IsUtf8, String, string_bytes}
use Rattle.std.specs.Option.{option_and_then}
use Rattle.std.specs.declared.alloc.Global.{Global}
use Rattle.std.proofs.lemmas.List.{map_push}
use Rattle.std.proofs.lemmas.Option.{option_and_then_some}
use Rattle.command_words.proofs.CallerLemmas.{HasRanges, command_of-ranges}
use Rattle.command_words.specs.Commands.{command_of}
use Rattle.command_words.specs.Items.{texts}
use Rattle.command_words.specs.declared.command.Command.{Command}
use Rattle.command_words.specs.declared.command.Command.TheVariants as command
use Rattle.command_words.specs.declared.command.Options.{Options}
use Rattle.text_parts.specs.Numbered.{text_lines}
use Rattle.enforce_core.specs.Opened.{SaysOptions, option_words, options_asked, report_options}

-- ---- words

-- a word that was pushed
pub texts_pushed : (made now : List (String Global)) (copy : String Global) (text : List ℕ) → now ≡ made ++ copy ∷ [] → string_bytes copy ≡ text → texts now ≡ texts made ++ text ∷ []
texts_pushed made now copy text pushed same =
    ap texts pushed ∙ map_push (λ (w : String Global). string_bytes w) made copy ∙ ap (λ (b : List ℕ). texts made ++ b ∷ []) same

-- three words behind none
pub three_words : (none first second third : List (List ℕ)) (a b c : List ℕ) → none ≡ [] → first ≡ none ++ a ∷ [] → second ≡ first ++ b ∷ [] → third ≡ second ++ c ∷ [] → third ≡ a ∷ b ∷ c ∷ []
three_words none first second third a b c is one two three =
    three ∙ ap (λ (l : List (List ℕ)). l ++ c ∷ []) (two ∙ ap (λ (l : List (List ℕ)). l ++ b ∷ []) (one ∙ ap (λ (l : List (List ℕ)). l ++ a ∷ []) is))

-- the words so far, and those of the lines that are left, are all the words
abbrev pub AreUnderWay : List ℕ → List (List ℕ) → List ℕ → Type 0
AreUnderWay text words rest = words ++ text_lines rest ≡ option_words text

-- one line on
pub one_more : (text rest after : List ℕ) (words more : List (List ℕ)) (line : List ℕ) → AreUnderWay text words rest → text_lines rest ≡ line ∷ text_lines after → more ≡ words ++ line ∷ [] → AreUnderWay text more after
one_more text rest after words more line is next pushed =
    ap (λ (ws : List (List ℕ)). ws ++ text_lines after) pushed ∙ append_assoc words (line ∷ []) (text_lines after) ∙ ap (λ (ls : List (List ℕ)). words ++ ls) (sym next) ∙ is

-- no line is left
pub no_more : (text rest : List ℕ) (words : List (List ℕ)) → AreUnderWay text words rest → text_lines rest ≡ [] → words ≡ option_words text
no_more text rest words is none = sym (append-nil words) ∙ ap (λ (ls : List (List ℕ)). words ++ ls) (sym none) ∙ is

-- ---- what they ask for

-- what was read of words, where they are a command and where they are none
pub report_read : (words : List (List ℕ)) (found : Option Command) (asked : Command) (result : Option Options) → found ≡ command_of words → found ≡ Some asked → result ≡ report_options asked → result ≡ options_asked words
report_read words found asked result is some made = made ∙ ap (option_and_then report_options) (sym some ∙ is)

pub no_report_read : (words : List (List ℕ)) (found : Option Command) → found ≡ command_of words → found ≡ None → None ≡ options_asked words
no_report_read words found is none = ap (option_and_then report_options) (sym none ∙ is)

-- a limit is one to 250
abbrev OptionsHave : Option Options → Type 0
OptionsHave found = IfSome found (λ options. (0 < options.limit) × (options.limit ≤ 250))

report_has : (asked : Command) → HasRanges asked → OptionsHave (report_options asked)
report_has (command.Report files options) has = (has.0, has.1)
report_has (command.Enforce files options json cache) has = tt
report_has (command.Explain files options json most) has = tt
report_has (command.Session files options json workers) has = tt
report_has (command.Check files) has = tt
report_has (command.Format files) has = tt
report_has (command.Implicit files subject options) has = tt
report_has (command.Ship files options) has = tt
report_has (command.Follow files options) has = tt
report_has (command.Lint files options) has = tt
report_has (command.Demo count workers) has = tt

pub report_limits : (words : List (List ℕ)) (result : Option Options) → result ≡ options_asked words → OptionsHave result
report_limits words None asked = tt
report_limits words (Some options) asked = option_and_then_some report_options (command_of words) options (sym asked) (λ found told made. subst OptionsHave made (report_has found (command_of-ranges words found told)))

-- the options that are said, and that there are none
pub says_options : (text : List ℕ) (words : List (List ℕ)) (options : Options) → IsUtf8 text → words ≡ option_words text → Some options ≡ options_asked words → SaysOptions text options
says_options text words options utf8 are told = record { utf8 = utf8; says = ap options_asked (sym are) ∙ sym told }

pub says_none : (text : List ℕ) (words : List (List ℕ)) → words ≡ option_words text → None ≡ options_asked words → (options : Options) → SaysOptions text options → ⊥
says_none text words are told options said = let both : None ≡ Some options = told ∙ ap options_asked are ∙ said.says in cc
