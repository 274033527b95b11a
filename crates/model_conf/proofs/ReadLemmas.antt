-- Reading the lines of a text, one logical line after the other.
use Rattle.std.proofs.Common.{◌≡◌, ◌≢◌, ℕ, ◌+◌, true, false, List, [], ◌∷◌, ◌++◌, Bor, Option, Some, None, Ok, Err, refl, sym, ap, ◌∙◌, subst}
use Rattle.std.specs.Option.{option_or}
use Rattle.std.proofs.lemmas.List.{append_assoc, append-nil}
use Rattle.std.proofs.lemmas.List.Elements.{filter_map-append}
use Rattle.text_parts.specs.Numbered.{Line, line, numbered, text_lines}
use Rattle.text_parts.specs.Passed.{is_passed_in_model}
use Rattle.model_conf.specs.Logical.{IsWhole, no_line, passed, begun}
use Rattle.model_conf.specs.Sections.{Entry, entry_of, entries_of, fault_behind, first_fault, name_of, said_fault, section_behind}
use Rattle.model_conf.specs.Helps.Seen.{TakesLines, ReadsEntries}
use Rattle.model_conf.specs.declared.entries.Entries.{Entries}
use Rattle.model_conf.specs.Statements.{LineContent, header, pair, nothing, Statement, statement, LineSays, no_more, one_more, AreStatements, HasStatements}
use Rattle.model_conf.specs.Helps.Steps.{Standing, standing, behind}
use Rattle.model_conf.specs.declared.fault.ModelFault.{ModelFault}
use Rattle.model_conf.specs.declared.fault.ModelFault.TheVariants as fault
use Rattle.model_conf.proofs.TotalLemmas.{AreStatements-some}

-- ---- lines that are fine

pub first_fault-append : (before front others : List Statement) → first_fault before (front ++ others) ≡ option_or (first_fault before front) (first_fault (before ++ front) others)
first_fault-append before [] others = ap (λ (l : List Statement). first_fault l others) (sym (append-nil before))
first_fault-append before (first ∷ front) others =
    either (fault_behind before first) _ _ _ (first_fault-append (before ++ first ∷ []) front others ∙ ap (λ (l : List Statement). option_or (first_fault (before ++ first ∷ []) front) (first_fault l others)) (append_assoc before (first ∷ []) front))
  where
    either : (found a b c : Option ModelFault) → a ≡ option_or b c → option_or found a ≡ option_or (option_or found b) c
    either None a b c e = e
    either (Some f) a b c e = refl

or_later : (a b c : Option (List ℕ)) → option_or (option_or a b) c ≡ option_or a (option_or b c)
or_later None b c = refl
or_later (Some x) b c = refl

or_none : (a : Option (List ℕ)) → option_or a None ≡ a
or_none None = refl
or_none (Some x) = refl

section_behind-push : (front : List Statement) (s : Statement) → section_behind (front ++ s ∷ []) ≡ option_or (name_of s.said) (section_behind front)
section_behind-push [] s = sym (or_none (name_of s.said))
section_behind-push (first ∷ front) s = ap (λ (o : Option (List ℕ)). option_or o (name_of first.said)) (section_behind-push front s) ∙ or_later (name_of s.said) (section_behind front) (name_of first.said)

-- what stands behind some lines
abbrev pub stands_behind : List Statement → Standing
stands_behind front = standing (section_behind front) (entries_of front)

pub stands-push : (front : List Statement) (number : ℕ) (said : LineContent) → stands_behind (front ++ statement number said ∷ []) ≡ behind (stands_behind front) said
stands-push front number (header name) =
    ap (λ (o : Option (List ℕ)). standing o (entries_of (front ++ statement number (header name) ∷ []))) (section_behind-push front (statement number (header name)))
    ∙ ap (λ (l : List Entry). standing (Some name) l) (filter_map-append (λ (s : Statement). entry_of s.said) front (statement number (header name) ∷ []) ∙ append-nil (entries_of front))
stands-push front number (pair key value) =
    ap (λ (o : Option (List ℕ)). standing o (entries_of (front ++ statement number (pair key value) ∷ []))) (section_behind-push front (statement number (pair key value)))
    ∙ ap (λ (l : List Entry). standing (section_behind front) l) (filter_map-append (λ (s : Statement). entry_of s.said) front (statement number (pair key value) ∷ []))
stands-push front number nothing =
    ap (λ (o : Option (List ℕ)). standing o (entries_of (front ++ statement number nothing ∷ []))) (section_behind-push front (statement number nothing))
    ∙ ap (λ (l : List Entry). standing (section_behind front) l) (filter_map-append (λ (s : Statement). entry_of s.said) front (statement number nothing ∷ []) ∙ append-nil (entries_of front))

-- ---- lines and what they say

pub passed_more : {first : Line} {lines : List Line} {tail : List Statement} → is_passed_in_model first.text ≡ true → AreStatements lines tail → AreStatements (first ∷ lines) tail
passed_more e t = record { logical = t.logical; lines_are = passed e t.lines_are; say = t.say }

pub begun_more : {first : Line} {lines left : List Line} {whole : List ℕ} {said : LineContent} {tail : List Statement} → is_passed_in_model first.text ≡ false → IsWhole first.text lines whole left → LineSays whole said
    → AreStatements left tail → AreStatements (first ∷ lines) (statement first.number said ∷ tail)
begun_more {first} {whole = whole} e joined says t = record { logical = line first.number whole ∷ t.logical; lines_are = begun e joined t.lines_are; say = one_more says t.say }

-- ---- the reader's loop

-- the lines that were read, behind which this stands
pub record HasRead (bytes rest : List ℕ) (number : ℕ) (now : Standing) : Type 0 where
  pub front : List Statement
  pub reads : (tail : List Statement) → AreStatements (numbered number (text_lines rest)) tail → AreStatements (numbered 1 (text_lines bytes)) (front ++ tail)
  pub fine : first_fault [] front ≡ None
  pub stands : now ≡ stands_behind front

pub read_none : (bytes : List ℕ) (now : Standing) → now ≡ standing None [] → HasRead bytes bytes 1 now
read_none bytes now e = record { front = []; reads = λ tail t. t; fine = refl; stands = e }

pub read_passed : (bytes rest after text : List ℕ) (number : ℕ) (now : Standing) → HasRead bytes rest number now → text_lines rest ≡ text ∷ text_lines after → is_passed_in_model text ≡ true → HasRead bytes after (number + 1) now
read_passed bytes rest after text number now so_far first e = record {
  front = so_far.front;
  reads = λ tail t. so_far.reads tail (subst (λ (l : List (List ℕ)). AreStatements (numbered number l) tail) (sym first) (passed_more e t));
  fine = so_far.fine;
  stands = so_far.stands;
}

-- a line that was begun, with what it says, and the lines behind it
begun_at : (bytes rest after text whole : List ℕ) (number : ℕ) (now : Standing) (left : List Line) (said : LineContent) (tail : List Statement) → (so_far : HasRead bytes rest number now) → text_lines rest ≡ text ∷ text_lines after → is_passed_in_model text ≡ false
    → IsWhole text (numbered (number + 1) (text_lines after)) whole left → LineSays whole said → AreStatements left tail → AreStatements (numbered 1 (text_lines bytes)) (so_far.front ++ statement number said ∷ tail)
begun_at bytes rest after text whole number now left said tail so_far first e joined says t =
    so_far.reads (statement number said ∷ tail) (subst (λ (l : List (List ℕ)). AreStatements (numbered number l) (statement number said ∷ tail)) (sym first) (begun_more e joined says t))

fault_there : (front : List Statement) (number : ℕ) (said : LineContent) (now : Standing) (found : Option ModelFault) → now ≡ stands_behind front → said_fault now.entries now.section number said ≡ found → fault_behind front (statement number said) ≡ found
fault_there front number said now found stands e = ap (λ (st : Standing). said_fault st.entries st.section number said) (sym stands) ∙ e

pub read_taken : (bytes rest after text : List ℕ) (left : Bor (List ℕ)) (number next : ℕ) (now later : Standing) → HasRead bytes rest number now → text_lines rest ≡ text ∷ text_lines after → is_passed_in_model text ≡ false
    → TakesLines number text (numbered (number + 1) (text_lines after)) now later (Ok (left, next)) → HasRead bytes left.now next later
read_taken bytes rest after text left number next now later so_far first e taken =
    let s = statement number taken.1 in
    let here : fault_behind so_far.front s ≡ None = fault_there so_far.front number taken.1 now None so_far.stands taken.4 in
    record {
      front = so_far.front ++ s ∷ [];
      reads = λ tail t. subst (AreStatements (numbered 1 (text_lines bytes))) (sym (append_assoc so_far.front (s ∷ []) tail)) (begun_at bytes rest after text taken.0 number now _ taken.1 tail so_far first e taken.2 taken.3 t);
      fine = first_fault-append [] so_far.front (s ∷ []) ∙ rw (so_far.fine, here) refl;
      stands = taken.5 ∙ ap (λ (st : Standing). behind st taken.1) so_far.stands ∙ sym (stands-push so_far.front number taken.1);
    }

pub read_stopped : (bytes rest after text : List ℕ) (number : ℕ) (now later : Standing) (stop : ModelFault) → HasRead bytes rest number now → text_lines rest ≡ text ∷ text_lines after → is_passed_in_model text ≡ false
    → TakesLines number text (numbered (number + 1) (text_lines after)) now later (Err stop) → stop ≢ fault.NoMemory → (statements : List Statement) × HasStatements bytes statements × (first_fault [] statements ≡ Some stop)
read_stopped bytes rest after text number now later stop so_far first e taken other =
    let t = taken other in
    let tail = AreStatements-some t.1 in
    let s = statement number t.2 in
    let here : fault_behind so_far.front s ≡ Some stop = fault_there so_far.front number t.2 now (Some stop) so_far.stands t.5 in
    (so_far.front ++ s ∷ tail.0, begun_at bytes rest after text t.0 number now t.1 t.2 tail.0 so_far first e t.3 t.4 tail.1, first_fault-append [] so_far.front (s ∷ tail.0) ∙ rw (so_far.fine, here) refl)

pub read_all : (bytes rest : List ℕ) (number : ℕ) (now : Standing) → HasRead bytes rest number now → text_lines rest ≡ [] → (statements : List Statement) × HasStatements bytes statements × (first_fault [] statements ≡ None) × (now.entries ≡ entries_of statements)
read_all bytes rest number now so_far none =
    let last : AreStatements (numbered number (text_lines rest)) [] = subst (λ (l : List (List ℕ)). AreStatements (numbered number l) []) (sym none) (record { logical = []; lines_are = no_line; say = no_more }) in
    (so_far.front, subst (AreStatements (numbered 1 (text_lines bytes))) (append-nil so_far.front) (so_far.reads [] last), so_far.fine, ap (λ (st : Standing). st.entries) so_far.stands)

-- ---- the same of an equal text

pub read_text : {text bytes : List ℕ} (read : Entries) → text ≡ bytes → ReadsEntries text (Ok read) → ReadsEntries bytes (Ok read)
read_text read same is = subst (λ (t : List ℕ). ReadsEntries t (Ok read)) same is

pub stopped_text : {text bytes : List ℕ} (stop : ModelFault) → text ≡ bytes → ReadsEntries text (Err stop) → ReadsEntries bytes (Err stop)
stopped_text stop same is = subst (λ (t : List ℕ). ReadsEntries t (Err stop)) same is
