-- A text says one thing, and its lines are joined in one way.
use Rattle.std.proofs.Common.{◌≡◌, ℕ, false, List, [], ◌∷◌, ◌++◌, refl, sym, ap, ◌∙◌, subst}
use Rattle.std.proofs.lemmas.Bool.{false≢true}
use Rattle.std.proofs.lemmas.List.{append_cancel_right}
use Rattle.text_parts.specs.Lines.{has_byte}
use Rattle.text_parts.specs.Blanks.{trimmed}
use Rattle.text_parts.specs.Numbered.{Line, line}
use Rattle.model_conf.specs.Logical.{IsWhole, ended, continued, dropped, AreLogical, no_line, passed, begun}
use Rattle.model_conf.specs.Statements.{LineContent, header, pair, Says, as_header, as_pair, as_nothing, LineSays, Statement, statement, AllSay, no_more, one_more, AreStatements}
use Rattle.model_conf.proofs.OpenLemmas.{EndsOpen-once}
use Rattle.text_parts.proofs.CallerLemmas.{cut_once, has_byte-here}
use Rattle.model_conf.proofs.CommentLemmas.{uncommented_only}

-- ---- what a line says

header_once : (name other : List ℕ) → 91 ∷ name ++ 93 ∷ [] ≡ 91 ∷ other ++ 93 ∷ [] → name ≡ other
header_once name other e = append_cancel_right name other (93 ∷ []) cc

no_sign : (text key value : List ℕ) → text ≡ key ++ 61 ∷ value → has_byte 61 text ≡ false → ⊥
no_sign text key value spelled none = false≢true (sym none ∙ ap (has_byte 61) spelled ∙ has_byte-here 61 key value)

pub Says-once : (text : List ℕ) (one two : LineContent) → Says text one → Says text two → one ≡ two
Says-once text one two (as_header name e) (as_header other f) = ap header (header_once name other (sym e ∙ f))
Says-once text one two (as_header name e) (as_pair key value none first f) = absurd (none name e)
Says-once text one two (as_header name e) (as_nothing none no_) = absurd (none name e)
Says-once text one two (as_pair key value none first e) (as_header name f) = absurd (none name f)
Says-once text one two (as_pair key value none first e) (as_pair other more none' first' f) =
    let cut = cut_once 61 key other value more first first' (sym e ∙ f) in
    ap (λ (k : List ℕ). pair (trimmed k) (trimmed value)) cut.0 ∙ ap (λ (v : List ℕ). pair (trimmed other) (trimmed v)) cut.1
Says-once text one two (as_pair key value none first e) (as_nothing none' no_) = absurd (no_sign text key value e no_)
Says-once text one two (as_nothing none no_) (as_header name f) = absurd (none name f)
Says-once text one two (as_nothing none no_) (as_pair key value none' first f) = absurd (no_sign text key value f no_)
Says-once text one two (as_nothing none no_) (as_nothing none' no_') = refl

pub LineSays-once : (text : List ℕ) (one two : LineContent) → LineSays text one → LineSays text two → one ≡ two
LineSays-once text one two first second =
    let same : second.left ≡ first.left = uncommented_only second.uncommented ∙ sym (uncommented_only first.uncommented) in
    Says-once (trimmed first.left) one two first.says (subst (λ (l : List ℕ). Says (trimmed l) two) same second.says)

-- ---- logical lines

pub IsWhole-once : {text : List ℕ} {lines : List Line} {whole other : List ℕ} {left rest : List Line} → IsWhole text lines whole left → IsWhole text lines other rest → (whole ≡ other) × (left ≡ rest)
IsWhole-once (ended none) (ended none') = (refl, refl)
IsWhole-once (ended none) (continued front open_ more) = absurd (none front open_)
IsWhole-once (ended none) (dropped front open_ more) = absurd (none front open_)
IsWhole-once (continued front open_ more) (ended none) = absurd (none front open_)
IsWhole-once (continued {text} {next} {lines} front open_ more) (continued {whole = other} {left = rest} front' open_' more') =
    let same : front' ≡ front = EndsOpen-once text front' front open_' open_ in
    IsWhole-once more (subst (λ (t : List ℕ). IsWhole (t ++ 32 ∷ next.text) lines other rest) same more')
IsWhole-once (dropped front open_ more) (ended none) = absurd (none front open_)
IsWhole-once (dropped {text} front open_ more) (dropped {whole = other} front' open_' more') =
    let same : front' ≡ front = EndsOpen-once text front' front open_' open_ in
    let rest = IsWhole-once more (subst (λ (t : List ℕ). IsWhole t [] other []) same more') in
    (rest.0, refl)

pub AreLogical-once : {lines one two : List Line} → AreLogical lines one → AreLogical lines two → one ≡ two
AreLogical-once no_line no_line = refl
AreLogical-once (passed e more) (passed e' more') = AreLogical-once more more'
AreLogical-once (passed e more) (begun e' joined more') = absurd (false≢true (sym e' ∙ e))
AreLogical-once (begun e joined more) (passed e' more') = absurd (false≢true (sym e ∙ e'))
AreLogical-once (begun {first} {logical = logical} {whole = whole} e joined more) (begun {logical = logical'} {whole = whole'} e' joined' more') =
    let same = IsWhole-once joined' joined in
    let rest : logical ≡ logical' = AreLogical-once more (subst (λ (l : List Line). AreLogical l logical') same.1 more') in
    ap (λ (w : List ℕ). line first.number w ∷ logical) (sym same.0) ∙ ap (λ (l : List Line). line first.number whole' ∷ l) rest

pub AllSay-once : {logical : List Line} {one two : List Statement} → AllSay logical one → AllSay logical two → one ≡ two
AllSay-once no_more no_more = refl
AllSay-once (one_more {first} {said = said} {statements = statements} says more) (one_more {said = said'} {statements = statements'} says' more') =
    ap (λ (s : LineContent). statement first.number s ∷ statements) (LineSays-once first.text said said' says says') ∙ ap (λ (l : List Statement). statement first.number said' ∷ l) (AllSay-once more more')

pub AreStatements-once : (lines : List Line) (one two : List Statement) → AreStatements lines one → AreStatements lines two → one ≡ two
AreStatements-once lines one two first second =
    let same : second.logical ≡ first.logical = AreLogical-once second.lines_are first.lines_are in
    AllSay-once first.say (subst (λ (l : List Line). AllSay l two) same second.say)
