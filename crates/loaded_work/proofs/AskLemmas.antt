-- What lines of requests ask, and lines for the items that are left.
use Rattle.std.proofs.Common.{◌≡◌, ℕ, Bool, true, false, List, [], ◌∷◌, ◌++◌, append_assoc, append-nil, length, inl, refl, sym, ap, subst, ◌∙◌}
use Rattle.std.specs.Prelude.{None, Option, bytes_eq, if◌then◌else◌, map}
use Rattle.std.proofs.lemmas.Slice.Eq.{bytes_eq-Decides}
use Rattle.answer_lines.specs.declared.answer.Line.{Line}
use Rattle.effect_fold.specs.declared.verdict.Verdict.{Verdict}
use Rattle.matcher_meaning.specs.Perm.{Refusal}
use Rattle.matcher_meaning.specs.Verdicts.{IsVerdict}
use Rattle.model_conf.specs.ModelText.{ModelParts}
use Rattle.perm_base.specs.declared.shapes.Shapes.{Shapes}
use Rattle.perm_value.specs.Datum.{Datum}
use Rattle.policy_table.specs.Tables.{Policy}
use Rattle.script_read.specs.Reads.{Reader, Says}
use Rattle.script_read.specs.Said.{Reading, Said, asks}
use Rattle.session_meaning.specs.Plain.{IsLine, IsPlain, all_refused, number_behind}
use Rattle.session_meaning.specs.Replies.{is_decided}
use Rattle.session_meaning.specs.Versions.{out, published}
use Rattle.session_meaning.proofs.CallerLemmas.{SomeJudged, all_more, plain_more, reply_some}

-- ---- what lines ask

-- all readers of requests read a line in one way
abbrev pub OneWay : Bool → Type 0
OneWay json = (first second : Reader json) (text : List ℕ) → first.request text ≡ second.request text

-- what a line says is what a reader reads
pub one_reading : (json : Bool) → OneWay json → (reader : Reader json) (line : List ℕ) (reading : Reading) → Says json line reading → reading ≡ reader.request line
one_reading json law reader line reading says =
    let other : Reader json = record {
      fields = reader.fields;
      request = λ text. if bytes_eq text line then reading else reader.request text;
      reads = reader.reads;
      says = λ text. by text (bytes_eq text line) refl;
    } in
    sym (ap (λ (b : Bool). if b then reading else reader.request line) (same line)) ∙ law other reader line
  where
    same : (text : List ℕ) → bytes_eq text text ≡ true
    same text = (bytes_eq-Decides text text).1 refl

    by : (text : List ℕ) (test : Bool) → bytes_eq text line ≡ test → Says json text (if test then reading else reader.request text)
    by text true e = subst (λ (t : List ℕ). Says json t reading) (sym ((bytes_eq-Decides text line).0 e)) says
    by text false e = reader.says text

-- what lines ask
abbrev pub asked : {json : Bool} → Reader json → List (List ℕ) → List Said
asked reader lines = map (λ (line : List ℕ). asks (reader.request line)) lines

pub asked_more : {json : Bool} (reader : Reader json) (lines more : List (List ℕ)) → asked reader (lines ++ more) ≡ asked reader lines ++ asked reader more
asked_more reader [] more = refl
asked_more reader (line ∷ lines) more = ap (λ (items : List Said). asks (reader.request line) ∷ items) (asked_more reader lines more)

-- ---- the lines that are left

-- each request has a verdict
abbrev pub HasVerdicts : Type 0
HasVerdicts = (model : ModelParts) (shapes : Shapes) (policy : Policy) (request : List Datum) (refused : Option Refusal) → (v : Verdict) × IsVerdict model shapes policy request refused v

module _ (law : HasVerdicts) (model : ModelParts) (shapes : Shapes) (opening : Policy) where
  some_judged : (refused : List (List ℕ)) → SomeJudged model shapes refused
  some_judged refused policy values = let v = law model shapes policy values None in (v.0, inl v.1)

  -- an item has a line, whatever was refused
  pub some_line : (refused : List (List ℕ)) (before : List Said) (item : Said) → (is_decided model item ≡ false → refused ≡ []) → (line : Line) × IsLine model shapes opening before item refused line
  some_line refused before item unasked =
      let reply = reply_some model shapes opening before (out shapes opening before) (published shapes opening before) refused (some_judged refused) item in
      (record { number = number_behind (length before); answer = reply.0 }, record { number = refl; answer = reply.1; unasked = unasked })

  -- lines of all items, of which these are the first, where nothing is refused for the others
  pub record MoreLines (items : List Said) (refused : List (List (List ℕ))) (lines : List Line) : Type 0 where
    pub more : List Line
    pub all : List (List (List ℕ))
    pub plain : IsPlain model shapes opening items all (lines ++ more)
    pub same : all_refused all ≡ all_refused refused

  -- a line more behind lines, and others behind it
  line_first : (items : List Said) (refused : List (List (List ℕ))) (lines : List Line) (line : Line) (others : List (List (List ℕ))) → MoreLines items others (lines ++ line ∷ []) → all_refused others ≡ all_refused refused → MoreLines items refused lines
  line_first items refused lines line others rest same = record {
    more = line ∷ rest.more;
    all = rest.all;
    plain = subst (λ (l : List Line). IsPlain model shapes opening items rest.all l) (append_assoc lines (line ∷ []) rest.more) rest.plain;
    same = rest.same ∙ same;
  }

  pub more_lines : (left : List Said) (items : List Said) (refused : List (List (List ℕ))) (lines : List Line) → IsPlain model shapes opening items refused lines → MoreLines (items ++ left) refused lines
  more_lines [] items refused lines plain = record {
    more = [];
    all = refused;
    plain = subst (λ (l : List Line). IsPlain model shapes opening (items ++ []) refused l) (sym (append-nil lines)) (subst (λ (i : List Said). IsPlain model shapes opening i refused lines) (sym (append-nil items)) plain);
    same = refl;
  }
  more_lines (item ∷ left) items refused lines plain =
      let one = some_line [] items item (λ calm. refl) in
      let next = plain_more model shapes opening items refused lines item [] one.0 plain one.1 in
      let rest = more_lines left (items ++ item ∷ []) (refused ++ [] ∷ []) (lines ++ one.0 ∷ []) next in
      let whole : (items ++ item ∷ []) ++ left ≡ items ++ item ∷ left = append_assoc items (item ∷ []) left in
      line_first (items ++ item ∷ left) refused lines one.0 (refused ++ [] ∷ [])
      (subst (λ (i : List Said). MoreLines i (refused ++ [] ∷ []) (lines ++ one.0 ∷ [])) whole rest)
      (all_more refused [] ∙ append-nil (all_refused refused))

  -- the same where these patterns were refused for the next item
  pub stopped_lines : (item : Said) (left : List Said) (items : List Said) (refused : List (List (List ℕ))) (patterns : List (List ℕ)) (lines : List Line)
      → (is_decided model item ≡ false → patterns ≡ []) → IsPlain model shapes opening items refused lines → MoreLines (items ++ item ∷ left) (refused ++ patterns ∷ []) lines
  stopped_lines item left items refused patterns lines unasked plain =
      let one = some_line patterns items item unasked in
      let next = plain_more model shapes opening items refused lines item patterns one.0 plain one.1 in
      let rest = more_lines left (items ++ item ∷ []) (refused ++ patterns ∷ []) (lines ++ one.0 ∷ []) next in
      let whole : (items ++ item ∷ []) ++ left ≡ items ++ item ∷ left = append_assoc items (item ∷ []) left in
      line_first (items ++ item ∷ left) (refused ++ patterns ∷ []) lines one.0 (refused ++ patterns ∷ [])
      (subst (λ (i : List Said). MoreLines i (refused ++ patterns ∷ []) (lines ++ one.0 ∷ [])) whole rest) refl
