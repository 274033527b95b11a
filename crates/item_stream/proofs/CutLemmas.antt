-- The sections of a stream, as pieces of it are taken.
use Rattle.std.proofs.Common.{◌≡◌, ℕ, ◌<◌, ◌≤◌, ◌||◌, Bool, true, false, List, [], ◌∷◌, ◌++◌, length, eqb, Some, None, refl, sym, ap, subst, ◌∙◌, append-nil, append_assoc, arith}
use Rattle.std.specs.Prelude.{Option, is_some, if◌then◌else◌}
use Rattle.std.specs.Option.{option_or}
use Rattle.text_parts.specs.Lines.{has_byte}
use Rattle.item_stream.proofs.KeepLemmas.{kept_on, kept_short, kept_twice}
use Rattle.item_stream.specs.Lines.{kept}
use Rattle.item_stream.specs.Sections.{GoesTo, Held, Section, Stage, ended_at, first_stage, left_at, listed, next_held, none_left, nothing, rest_left, rest_of, section_of, sections_by, sections_of, whole_sections}
use Rattle.item_stream.specs.Seen.{seen_option}
use Rattle.item_stream.specs.declared.section.Section as declared

abbrev pub End : Type 0
End = Held → List ℕ → List Section

-- a section in front of others
pub listed_first : (section : Option Section) (sections : List Section) → listed section sections ≡ listed section [] ++ sections
listed_first None sections = refl
listed_first (Some section) sections = refl

pub listed_more : (section : Option Section) (sections others : List Section) → listed section (sections ++ others) ≡ listed section sections ++ others
listed_more None sections others = refl
listed_more (Some section) sections others = refl

-- ---- a byte more

abbrev pub by_byte : Bool → Bool → End → Held → List ℕ → ℕ → List ℕ → List Section
by_byte follow test end held line byte bytes = if test then listed (ended_at follow held line) (sections_by follow end (next_held follow held line) [] bytes) else sections_by follow end held (kept (line ++ byte ∷ [])) bytes

pub by_first : (follow : Bool) (end : End) (held : Held) (line : List ℕ) (byte : ℕ) (bytes : List ℕ) → sections_by follow end held line (byte ∷ bytes) ≡ by_byte follow (eqb byte 10) end held line byte bytes
unfolding sections_by
by_first follow end held line byte bytes = refl

pub at_end : (follow : Bool) (end : End) (held : Held) (line : List ℕ) → sections_by follow end held line [] ≡ end held line
unfolding sections_by
at_end follow end held line = refl

pub at_line_end : (follow : Bool) (end : End) (held : Held) (line bytes : List ℕ) → sections_by follow end held line (10 ∷ bytes) ≡ listed (ended_at follow held line) (sections_by follow end (next_held follow held line) [] bytes)
unfolding sections_by
at_line_end follow end held line bytes = refl

-- ---- bytes without LF

-- a byte more, which is none
byte_on : (follow : Bool) (end : End) (held : Held) (line more : List ℕ) (byte : ℕ) (bytes : List ℕ) (test : Bool) → (test || has_byte 10 bytes) ≡ false
    → (has_byte 10 bytes ≡ false → sections_by follow end held (kept (line ++ byte ∷ [])) (bytes ++ more) ≡ sections_by follow end held (kept (kept (line ++ byte ∷ []) ++ bytes)) more)
    → by_byte follow test end held line byte (bytes ++ more) ≡ sections_by follow end held (kept (line ++ byte ∷ bytes)) more
byte_on follow end held line more byte bytes true none on = absurd cc
byte_on follow end held line more byte bytes false none on = on none ∙ ap (λ (l : List ℕ). sections_by follow end held l more) (kept_on (line ++ byte ∷ []) bytes ∙ ap kept (append_assoc line (byte ∷ []) bytes))

pub bytes_on : (follow : Bool) (end : End) (held : Held) (line bytes more : List ℕ) → kept line ≡ line → has_byte 10 bytes ≡ false → sections_by follow end held line (bytes ++ more) ≡ sections_by follow end held (kept (line ++ bytes)) more
bytes_on follow end held line [] more short none = ap (λ (l : List ℕ). sections_by follow end held l more) (sym short ∙ ap kept (sym (append-nil line)))
bytes_on follow end held line (byte ∷ bytes) more short none =
    by_first follow end held line byte (bytes ++ more)
    ∙ byte_on follow end held line more byte bytes (eqb byte 10) none (bytes_on follow end held (kept (line ++ byte ∷ [])) bytes more (kept_twice (line ++ byte ∷ [])))

-- ---- what is taken of a piece

-- all of a piece that ends no line
pub goes_within : (old new : Stage) (piece rest : List ℕ) → length old.line ≤ 65537 → has_byte 10 piece ≡ false → new.follow ≡ old.follow → new.line ≡ kept (old.line ++ piece) → new.held ≡ old.held → rest ≡ [] → GoesTo old piece [] new rest
goes_within old new piece rest short none same line-is held-is none-left = record {
  same = same;
  goes = λ end more.
      bytes_on old.follow end old.held old.line piece more (kept_short old.line short) none
      ∙ ap (λ (l : List ℕ). sections_by old.follow end old.held l more) (sym line-is)
      ∙ ap (λ (h : Held). sections_by old.follow end h new.line more) (sym held-is)
      ∙ ap (λ (r : List ℕ). sections_by old.follow end new.held new.line (r ++ more)) (sym none-left);
}

-- the bytes up to an LF
pub goes_behind : (old new : Stage) (piece front rest line : List ℕ) (section : Option Section) → length old.line ≤ 65537 → has_byte 10 front ≡ false → piece ≡ front ++ 10 ∷ rest → line ≡ kept (old.line ++ front) → section ≡ ended_at old.follow old.held line
    → new ≡ record { follow = old.follow; line = []; held = next_held old.follow old.held line } → GoesTo old piece (listed section []) new rest
goes_behind old new piece front rest line section short none parts line-is section-is new-is = record {
  same = ap (λ (s : Stage). s.follow) new-is;
  goes = λ end more.
      ap (λ (p : List ℕ). sections_by old.follow end old.held old.line (p ++ more)) parts
      ∙ ap (sections_by old.follow end old.held old.line) (append_assoc front (10 ∷ rest) more)
      ∙ bytes_on old.follow end old.held old.line front (10 ∷ (rest ++ more)) (kept_short old.line short) none
      ∙ ap (λ (l : List ℕ). sections_by old.follow end old.held l (10 ∷ (rest ++ more))) (sym line-is)
      ∙ at_line_end old.follow end old.held line (rest ++ more)
      ∙ ap (λ (s : Option Section). listed s (sections_by old.follow end (next_held old.follow old.held line) [] (rest ++ more))) (sym section-is)
      ∙ ap (λ (s : Stage). listed section (sections_by old.follow end s.held s.line (rest ++ more))) (sym new-is)
      ∙ listed_first section (sections_by old.follow end new.held new.line (rest ++ more));
}

-- of the same stream
since : (follow other : Bool) (end : End) (old new : Stage) (bytes left : List ℕ) (sections : List Section) (more : List ℕ) → other ≡ follow → sections_by other end old.held old.line (bytes ++ more) ≡ sections ++ sections_by other end new.held new.line (left ++ more)
    → sections_by follow end old.held old.line (bytes ++ more) ≡ sections ++ sections_by follow end new.held new.line (left ++ more)
since follow other end old new bytes left sections more same goes = subst (λ (f : Bool). sections_by f end old.held old.line (bytes ++ more) ≡ sections ++ sections_by f end new.held new.line (left ++ more)) same goes

-- nothing is taken, and then more
pub goes_nowhere : (stage : Stage) (bytes : List ℕ) → GoesTo stage bytes [] stage bytes
goes_nowhere stage bytes = record { same = refl; goes = λ end more. refl }

pub goes_then : (old mid new : Stage) (bytes rest left : List ℕ) (some others : List Section) → GoesTo old bytes some mid rest → GoesTo mid rest others new left → GoesTo old bytes (some ++ others) new left
goes_then old mid new bytes rest left some others one two = record {
  same = two.same ∙ one.same;
  goes = λ end more.
      one.goes end more ∙ ap (λ (s : List Section). some ++ s) (since old.follow mid.follow end mid new rest left others more one.same (two.goes end more)) ∙ sym (append_assoc some others (sections_by old.follow end new.held new.line (left ++ more)));
}

-- a further piece
pub goes_further : (first old new : Stage) (read piece left : List ℕ) (some others : List Section) → GoesTo first read some old [] → GoesTo old piece others new left → GoesTo first (read ++ piece) (some ++ others) new left
goes_further first old new read piece left some others one two = record {
  same = two.same ∙ one.same;
  goes = λ end more.
      ap (sections_by first.follow end first.held first.line) (append_assoc read piece more)
      ∙ one.goes end (piece ++ more) ∙ ap (λ (s : List Section). some ++ s) (since first.follow old.follow end old new piece left others more one.same (two.goes end more)) ∙ sym (append_assoc some others (sections_by first.follow end new.held new.line (left ++ more)));
}

-- ---- where a stream ends, and where it does not

-- what was read ends whole sections, and no others
pub goes_whole : (follow : Bool) (new : Stage) (read : List ℕ) (sections : List Section) → GoesTo (first_stage follow) read sections new [] → whole_sections follow read ≡ sections
goes_whole follow new read sections so =
    ap (sections_by follow none_left nothing []) (sym (append-nil read)) ∙ so.goes none_left [] ∙ ap (λ (s : List Section). sections ++ s) (at_end follow none_left new.held new.line) ∙ append-nil sections

-- it ends those and what is left
pub goes_all : (follow : Bool) (new : Stage) (read : List ℕ) (sections : List Section) (left : Option Section) → GoesTo (first_stage follow) read sections new [] → left ≡ left_at new → sections_of follow read ≡ sections ++ listed left []
goes_all follow new read sections left so left-is =
    ap (sections_by follow (rest_left follow) nothing []) (sym (append-nil read)) ∙ so.goes (rest_left follow) []
    ∙ ap (λ (s : List Section). sections ++ s) (at_end follow (rest_left follow) new.held new.line ∙ ap (λ (o : Option Section). listed o []) (ap (λ (f : Bool). rest_of f new.held new.line) (sym so.same) ∙ sym left-is))

-- these are the first of its sections
pub goes_first : (follow : Bool) (new : Stage) (read left : List ℕ) (sections : List Section) → GoesTo (first_stage follow) read sections new left → (others : List Section) × (sections_of follow read ≡ sections ++ others)
goes_first follow new read left sections so = (
  sections_by follow (rest_left follow) new.held new.line (left ++ []),
  ap (sections_by follow (rest_left follow) nothing []) (sym (append-nil read)) ∙ so.goes (rest_left follow) [],
)

-- the line that lacks its LF ends no section, or one
pub rest_empty : (follow : Bool) (held : Held) (line : List ℕ) → line ≡ [] → section_of held ≡ rest_of follow held line
unfolding rest_of
rest_empty follow held line none = ap (rest_of follow held) (sym none)

pub rest_ended : (follow : Bool) (held : Held) (line : List ℕ) (section : Option declared.Section) → 0 < length line → seen_option section ≡ ended_at follow held line → is_some section ≡ true → seen_option section ≡ rest_of follow held line
unfolding rest_of
rest_ended follow held [] section long told some = absurd (omega (arith, long))
rest_ended follow held (byte ∷ bytes) None long told some = absurd cc
rest_ended follow held (byte ∷ bytes) (Some section) long told some = ap (λ (o : Option Section). option_or o (section_of (next_held follow held (byte ∷ bytes)))) told

pub rest_held : (follow : Bool) (held : Held) (line : List ℕ) (section : Option declared.Section) (rest : Option Section) → 0 < length line → seen_option section ≡ ended_at follow held line → is_some section ≡ false → rest ≡ section_of (next_held follow held line) → rest ≡ rest_of follow held line
unfolding rest_of
rest_held follow held [] section rest long told none rest-is = absurd (omega (arith, long))
rest_held follow held (byte ∷ bytes) (Some section) rest long told none rest-is = absurd cc
rest_held follow held (byte ∷ bytes) None rest long told none rest-is = rest-is ∙ ap (λ (o : Option Section). option_or o (section_of (next_held follow held (byte ∷ bytes)))) told

-- ---- the law

abbrev Begins : Bool → End → Held → List ℕ → List ℕ → List ℕ → Type 0
Begins follow end held line front back = (rest : List Section) × (sections_by follow end held line (front ++ back) ≡ sections_by follow none_left held line front ++ rest)

begin_by : (follow : Bool) (end : End) (held : Held) (line : List ℕ) (byte : ℕ) (front back : List ℕ) (test : Bool) → Begins follow end (next_held follow held line) [] front back → Begins follow end held (kept (line ++ byte ∷ [])) front back
    → (rest : List Section) × (by_byte follow test end held line byte (front ++ back) ≡ by_byte follow test none_left held line byte front ++ rest)
begin_by follow end held line byte front back true ended on = (ended.0, ap (listed (ended_at follow held line)) ended.1 ∙ listed_more (ended_at follow held line) (sections_by follow none_left (next_held follow held line) [] front) ended.0)
begin_by follow end held line byte front back false ended on = on

begins : (follow : Bool) (end : End) (held : Held) (line front back : List ℕ) → Begins follow end held line front back
begins follow end held line [] back = (sections_by follow end held line back, ap (λ (s : List Section). s ++ sections_by follow end held line back) (sym (at_end follow none_left held line)))
begins follow end held line (byte ∷ front) back =
    let some = begin_by follow end held line byte front back (eqb byte 10) (begins follow end (next_held follow held line) [] front back) (begins follow end held (kept (line ++ byte ∷ [])) front back) in
    (some.0, by_first follow end held line byte (front ++ back) ∙ some.1 ∙ ap (λ (s : List Section). s ++ some.0) (sym (by_first follow none_left held line byte front)))

pub all_begin : (follow : Bool) (front back : List ℕ) → (rest : List Section) × (sections_of follow (front ++ back) ≡ whole_sections follow front ++ rest)
all_begin follow front back = begins follow (rest_left follow) nothing [] front back

pub whole_begin : (follow : Bool) (front back : List ℕ) → (rest : List Section) × (whole_sections follow (front ++ back) ≡ whole_sections follow front ++ rest)
whole_begin follow front back = begins follow none_left nothing [] front back
