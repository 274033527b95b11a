-- Why the rows that agree are found: what is kept of such a row is what is looked for.
use Rattle.std.proofs.Common.{◌≡◌, ℕ, zero, suc, ◌+◌, ◌<◌, ◌≤◌, ◌==◌, ◌&&◌, ◌||◌, Bool, true, false, if◌then◌else◌, List, [], ◌∷◌, ◌++◌, length, take, drop, get_or, slice_get, All, Option, Some, None, Result, Ok, Err, OnOk, refl, sym, ap, subst, ◌∙◌, arith, append_assoc, append-nil, true≢false}
use Rattle.std.specs.Prelude.{fold, nat_eq, nat_lt}
use Rattle.std.specs.List.{list_any}
use Rattle.std.specs.Option.{option_map_or}
use Rattle.std.specs.Str.{bytes_eq}
use Rattle.std.proofs.lemmas.Bool.{and_parts, eq-eqb, eqb-true, lt-ltb, ltb-true}
use Rattle.std.proofs.lemmas.Bool.Decides.{nat_tests}
use Rattle.std.proofs.lemmas.List.{length-map, take-append-drop}
use Rattle.std.proofs.lemmas.List.Elements.{All-append, All-nil}
use Rattle.std.proofs.lemmas.List.Folds.{list_any-append}
use Rattle.std.proofs.lemmas.Slice.Eq.{bytes_eq-Decides}
use Rattle.policy_table.specs.Tables.{Fields}
use Rattle.policy_index.specs.Found.{AddsSlots, passes_at}
use Rattle.policy_index.specs.Hashes.{IsKeyOf, fields_hash, front_hash, front_mark, mark_of, marks_of, most_front, pattern_mark, short_front, start_hash, text_hash, whole_hash}
use Rattle.policy_index.specs.Helps.FoundSlots.{AddsMarks, has_front_below, is_found, is_front_below, is_sought}
use Rattle.policy_index.specs.Helps.Kept.{has_front, has_hash, is_front}
use Rattle.policy_index.specs.Keys.{KeyParts, agrees, begins_so, fits_pattern, front_of, has_texts, is_whole, may_fit}
use Rattle.policy_index.specs.Places.{has_text}
use Rattle.policy_index.specs.declared.key.FrontColumn.{FrontColumn}
use Rattle.policy_index.specs.declared.key.FrontKind.{FrontKind}
use Rattle.policy_index.specs.declared.mark.Mark.{Mark}

-- ---- the hash of a row that agrees

field_is : (column : ℕ) (text : List ℕ) (rule : Fields) → has_text column text rule ≡ true → get_or rule column [] ≡ text
field_is column text [] is = absurd (true≢false (sym is))
field_is zero text (f ∷ fs) is = sym ((bytes_eq-Decides text f).0 is)
field_is (suc column) text (f ∷ fs) is = field_is column text fs is

same_hash : (columns : List ℕ) (texts : List (List ℕ)) (rule : Fields) (hash : ℕ) → has_texts columns texts rule ≡ true → fold (λ (h : ℕ) (column : ℕ). text_hash h (get_or rule column [])) hash columns ≡ fold text_hash hash texts
same_hash [] [] rule hash has = refl
same_hash [] (text ∷ texts) rule hash has = absurd (true≢false (sym has))
same_hash (column ∷ columns) [] rule hash has = absurd (true≢false (sym has))
same_hash (column ∷ columns) (text ∷ texts) rule hash has =
    let parts = and_parts (has_text column text rule) (has_texts columns texts rule) has in
    ap (λ (t : List ℕ). fold (λ (h : ℕ) (c : ℕ). text_hash h (get_or rule c [])) (text_hash hash t) columns) (field_is column text rule parts.0)
    ∙ same_hash columns texts rule (text_hash hash text) parts.1

pub fields_texts : (columns : List ℕ) (texts : List (List ℕ)) (rule : Fields) (hash : ℕ) → IsKeyOf hash texts → has_texts columns texts rule ≡ true → fields_hash columns rule ≡ hash
fields_texts columns texts rule hash is has = same_hash columns texts rule start_hash has ∙ sym is

-- ---- the front of a pattern that a text may fit

-- what so many bytes of a front are, a longer text begins with
front_cut : (n : ℕ) (front rest : List ℕ) → (length (take n front) ≤ length (take n (front ++ rest))) × (take (length (take n front)) (take n (front ++ rest)) ≡ take n front)
front_cut zero front rest = (omega arith, refl)
front_cut (suc n) [] rest = (omega arith, refl)
front_cut (suc n) (byte ∷ front) rest =
    let later = front_cut n front rest in
    let longer : length (byte ∷ take n front) ≡ suc (length (take n front)) = omega arith in (
      omega (arith, later.0),
      ap (λ (k : ℕ). take k (byte ∷ take n (front ++ rest))) longer ∙ ap (λ (l : List ℕ). byte ∷ l) later.1,
    )

begins_parts : (front text : List ℕ) → begins_so front text ≡ true → (rest : List ℕ) × (text ≡ front ++ rest)
begins_parts front text is =
    let same : front ≡ take (length front) text = (bytes_eq-Decides front (take (length front) text)).0 is in
    (drop (length front) text, sym (take-append-drop (length front) text) ∙ ap (λ (l : List ℕ). l ++ drop (length front) text) (sym same))

-- a mark has its own hash
own_hash : (hash : ℕ) (mark : Mark) → mark.hash ≡ hash → has_hash hash mark ≡ true
own_hash hash mark is = eq-eqb mark.hash hash is

or_left : (a b : Bool) → a ≡ true → (a || b) ≡ true
or_left true b is = refl
or_left false b is = absurd (true≢false (sym is))

or_right : (a b : Bool) → b ≡ true → (a || b) ≡ true
or_right true b is = refl
or_right false b is = is

both_true : (a b : Bool) → a ≡ true → b ≡ true → (a && b) ≡ true
both_true true b one other = other
both_true false b one other = absurd (true≢false (sym one))

found_front : (hash : ℕ) (front rest : List ℕ) → is_found hash (front ++ rest) (front_mark hash (take most_front front)) ≡ true
found_front hash front rest =
    let cut = front_cut most_front front rest in
    let mark : Mark = front_mark hash (take most_front front) in
    or_right (has_hash (whole_hash hash (front ++ rest)) mark) (has_front_below hash (take most_front (front ++ rest)) (1 + length (take most_front (front ++ rest))) mark)
    (both_true (nat_lt (length (take most_front front)) (1 + length (take most_front (front ++ rest)))) (has_hash (front_hash hash (take (length (take most_front front)) (take most_front (front ++ rest)))) mark)
    (lt-ltb (length (take most_front front)) (1 + length (take most_front (front ++ rest))) (omega (arith, cut.0))) (own_hash _ mark (sym (ap (front_hash hash) cut.1))))

pub found_pattern : (kind : FrontKind) (hash : ℕ) (pattern text : List ℕ) → may_fit kind pattern text ≡ true → is_found hash text (pattern_mark kind hash pattern) ≡ true
found_pattern kind hash pattern text fits = by (is_whole kind pattern) fits
  where
    by : (b : Bool) → (if b then bytes_eq pattern text else begins_so (front_of kind pattern) text) ≡ true → is_found hash text (if b then record { hash = whole_hash hash pattern; front = None } else front_mark hash (short_front kind pattern)) ≡ true
    by true same =
        let equal : pattern ≡ text = (bytes_eq-Decides pattern text).0 same in
        let mark : Mark = record { hash = whole_hash hash pattern; front = None } in
        or_left (has_hash (whole_hash hash text) mark) (has_front_below hash (take most_front text) (1 + length (take most_front text)) mark) (own_hash (whole_hash hash text) mark (ap (whole_hash hash) equal))
    by false begins =
        let parts = begins_parts (front_of kind pattern) text begins in
        subst (λ (t : List ℕ). is_found hash t (front_mark hash (short_front kind pattern)) ≡ true) (sym parts.1) (found_front hash (front_of kind pattern) parts.0)

-- ---- a row that agrees

pattern_there : (front : FrontColumn) (asked : List ℕ) (rule : Fields) → fits_pattern (Some front) asked rule ≡ true → may_fit front.kind (get_or rule front.column []) asked ≡ true
pattern_there front asked rule fits = by rule front.column fits
  where
    by : (l : Fields) (column : ℕ) → option_map_or (λ (pattern : List ℕ). may_fit front.kind pattern asked) (slice_get l column) false ≡ true → may_fit front.kind (get_or l column []) asked ≡ true
    by [] column is = absurd (true≢false (sym is))
    by (f ∷ fs) zero is = is
    by (f ∷ fs) (suc column) is = by fs column is

pub sought_rule : (key : KeyParts) (texts : List (List ℕ)) (asked : List ℕ) (hash : ℕ) (rule : Fields) → IsKeyOf hash texts → agrees key texts asked rule ≡ true → is_sought key.pattern hash asked (mark_of key rule) ≡ true
sought_rule key texts asked hash rule is agree =
    let parts = and_parts (has_texts key.columns texts rule) (fits_pattern key.pattern asked rule) agree in
    by key.pattern (fields_texts key.columns texts rule hash is parts.0) parts.1
  where
    by : (pattern : Option FrontColumn) → fields_hash key.columns rule ≡ hash → fits_pattern pattern asked rule ≡ true → is_sought pattern hash asked (mark_of (record { columns = key.columns; pattern = pattern }) rule) ≡ true
    by None same fits = own_hash hash (record { hash = fields_hash key.columns rule; front = None }) same
    by (Some front) same fits =
        subst (λ (h : ℕ). is_found hash asked (pattern_mark front.kind h (get_or rule front.column [])) ≡ true) (sym same)
        (found_pattern front.kind hash (get_or rule front.column []) asked (pattern_there front asked rule fits))

sought_at : (key : KeyParts) (texts : List (List ℕ)) (asked : List ℕ) (hash : ℕ) → IsKeyOf hash texts → (by_slot : List Fields) (slot : ℕ) → passes_at (agrees key texts asked) by_slot slot ≡ true
    → option_map_or (is_sought key.pattern hash asked) (slice_get (marks_of key by_slot) slot) false ≡ true
sought_at key texts asked hash is [] slot passes = absurd (true≢false (sym passes))
sought_at key texts asked hash is (r ∷ rs) zero passes = sought_rule key texts asked hash r is passes
sought_at key texts asked hash is (r ∷ rs) (suc slot) passes = sought_at key texts asked hash is rs slot passes

-- the slots of the rows that agree are added
pub adds_rows : (key : KeyParts) (texts : List (List ℕ)) (asked : List ℕ) (hash : ℕ) (marks : List Mark) (by_slot : List Fields) (old new : List ℕ) → IsKeyOf hash texts → marks ≡ marks_of key by_slot
    → AddsMarks (is_sought key.pattern hash asked) marks old new → AddsSlots (agrees key texts asked) by_slot old new
adds_rows key texts asked hash marks by_slot old new is same adds = record {
  more = adds.more;
  behind = adds.behind;
  within = subst (λ (n : ℕ). All (λ (slot : ℕ). slot < n) adds.more) (ap length same ∙ length-map by_slot (mark_of key)) adds.within;
  each = λ slot passes. adds.each slot (ap (λ (l : List Mark). option_map_or (is_sought key.pattern hash asked) (slice_get l slot) false) same ∙ sought_at key texts asked hash is by_slot slot passes);
}

-- ---- slots that are added one after the other

pub adds_none : (test : Mark → Bool) (marks : List Mark) (slots : List ℕ) → ((slot : ℕ) → option_map_or test (slice_get marks slot) false ≡ false) → AddsMarks test marks slots slots
adds_none test marks slots none = record {
  more = [];
  behind = sym (append-nil slots);
  within = All-nil (λ (slot : ℕ). slot < length marks);
  each = λ slot passes. absurd (true≢false (sym passes ∙ none slot));
}

pub adds_both : (p q r : Mark → Bool) (marks : List Mark) (old mid new : List ℕ) → ((mark : Mark) → r mark ≡ true → (p mark || q mark) ≡ true) → AddsMarks p marks old mid → AddsMarks q marks mid new → AddsMarks r marks old new
adds_both p q r marks old mid new either first second = record {
  more = first.more ++ second.more;
  behind = second.behind ∙ ap (λ (l : List ℕ). l ++ second.more) first.behind ∙ append_assoc old first.more second.more;
  within = All-append (λ (slot : ℕ). slot < length marks) first.more second.more first.within second.within;
  each = λ slot passes. list_any-append (nat_eq slot) first.more second.more ∙ by slot (slice_get marks slot) refl passes;
}
  where
    by : (slot : ℕ) (o : Option Mark) → slice_get marks slot ≡ o → option_map_or r o false ≡ true → (list_any (nat_eq slot) first.more || list_any (nat_eq slot) second.more) ≡ true
    by slot None there passes = absurd (true≢false (sym passes))
    by slot (Some mark) there passes = split (p mark) refl (either mark passes)
      where
        split : (b : Bool) → p mark ≡ b → (b || q mark) ≡ true → (list_any (nat_eq slot) first.more || list_any (nat_eq slot) second.more) ≡ true
        split true is any = or_left (list_any (nat_eq slot) first.more) (list_any (nat_eq slot) second.more) (first.each slot (ap (λ (x : Option Mark). option_map_or p x false) there ∙ is))
        split false is any = or_right (list_any (nat_eq slot) first.more) (list_any (nat_eq slot) second.more) (second.each slot (ap (λ (x : Option Mark). option_map_or q x false) there ∙ any))

pub adds_weaker : (p q : Mark → Bool) (marks : List Mark) (old new : List ℕ) → ((mark : Mark) → q mark ≡ true → p mark ≡ true) → AddsMarks p marks old new → AddsMarks q marks old new
adds_weaker p q marks old new weaker adds = record {
  more = adds.more;
  behind = adds.behind;
  within = adds.within;
  each = λ slot passes. adds.each slot (by (slice_get marks slot) passes);
}
  where
    by : (o : Option Mark) → option_map_or q o false ≡ true → option_map_or p o false ≡ true
    by None passes = passes
    by (Some mark) passes = weaker mark passes

-- fronts of no bytes are those below one
below_one : (hash : ℕ) (text : List ℕ) (mark : Mark) → has_front_below hash text 1 mark ≡ true → (has_front 0 mark && has_hash (front_hash hash []) mark) ≡ true
below_one hash text mark is = by mark.front is
  where
    by : (o : Option ℕ) → is_front_below hash text 1 o mark ≡ true → (is_front 0 o && has_hash (front_hash hash []) mark) ≡ true
    by None is = absurd (true≢false (sym is))
    by (Some zero) is = is
    by (Some (suc n)) is = absurd (omega (arith, ltb-true (suc n) 1 (and_parts (nat_lt (suc n) 1) (has_hash (front_hash hash (take (suc n) text)) mark) is).0))

pub adds_first : (hash : ℕ) (text : List ℕ) (marks : List Mark) (old new : List ℕ) → AddsMarks (λ (mark : Mark). has_front 0 mark && has_hash (front_hash hash []) mark) marks old new → AddsMarks (has_front_below hash text 1) marks old new
adds_first hash text marks old new adds = adds_weaker (λ (mark : Mark). has_front 0 mark && has_hash (front_hash hash []) mark) (has_front_below hash text 1) marks old new (below_one hash text) adds

-- those below one more
below_more : (hash : ℕ) (text : List ℕ) (n : ℕ) (mark : Mark) → has_front_below hash text (suc n) mark ≡ true → (has_front_below hash text n mark || (has_front n mark && has_hash (front_hash hash (take n text)) mark)) ≡ true
below_more hash text n mark is = by mark.front is
  where
    by : (o : Option ℕ) → is_front_below hash text (suc n) o mark ≡ true → (is_front_below hash text n o mark || (is_front n o && has_hash (front_hash hash (take n text)) mark)) ≡ true
    by None is = absurd (true≢false (sym is))
    by (Some size) is = at (nat_lt size n) refl (size == n) refl
      where
        parts : (nat_lt size (suc n) ≡ true) × (has_hash (front_hash hash (take size text)) mark ≡ true)
        parts = and_parts (nat_lt size (suc n)) (has_hash (front_hash hash (take size text)) mark) is

        at : (b : Bool) → nat_lt size n ≡ b → (c : Bool) → (size == n) ≡ c → ((b && has_hash (front_hash hash (take size text)) mark) || (c && has_hash (front_hash hash (take n text)) mark)) ≡ true
        at true less c same = or_left (has_hash (front_hash hash (take size text)) mark) (c && has_hash (front_hash hash (take n text)) mark) parts.1
        at false less true same = subst (λ (k : ℕ). has_hash (front_hash hash (take k text)) mark ≡ true) (eqb-true size n same) parts.1
        at false less false same = absurd (grind (arith, nat_tests, parts.0, less, same))

pub adds_next : (hash : ℕ) (text : List ℕ) (n next : ℕ) (marks : List Mark) (old mid new : List ℕ) → next ≡ suc n → AddsMarks (has_front_below hash text n) marks old mid
    → AddsMarks (λ (mark : Mark). has_front n mark && has_hash (front_hash hash (take n text)) mark) marks mid new → AddsMarks (has_front_below hash text next) marks old new
adds_next hash text n next marks old mid new is first second =
    subst (λ (k : ℕ). AddsMarks (has_front_below hash text k) marks old new) (sym is)
    (adds_both (has_front_below hash text n) (λ (mark : Mark). has_front n mark && has_hash (front_hash hash (take n text)) mark) (has_front_below hash text (suc n)) marks old mid new (below_more hash text n) first second)

-- what is added under a hash that is the one of a front
pub adds_under : (hash own size : ℕ) (text : List ℕ) (marks : List Mark) (old new : List ℕ) → own ≡ front_hash hash (take size text) → AddsMarks (λ (mark : Mark). has_front size mark && has_hash own mark) marks old new
    → AddsMarks (λ (mark : Mark). has_front size mark && has_hash (front_hash hash (take size text)) mark) marks old new
adds_under hash own size text marks old new is adds = subst (λ (h : ℕ). AddsMarks (λ (mark : Mark). has_front size mark && has_hash h mark) marks old new) is adds

-- ---- unless memory runs out

pub ok_fronts : {T E : Type 0} (size hash : ℕ) (marks : List Mark) (old new : List ℕ) (r : Result T E) → OnOk r (AddsMarks (has_hash hash) marks old new) → OnOk r (AddsMarks (λ (mark : Mark). has_front size mark && has_hash hash mark) marks old new)
ok_fronts size hash marks old new (Ok x) adds =
    adds_weaker (has_hash hash) (λ (mark : Mark). has_front size mark && has_hash hash mark) marks old new (λ mark is. (and_parts (has_front size mark) (has_hash hash mark) is).1) adds
ok_fronts size hash marks old new (Err e) adds = tt

pub ok_found : {T E : Type 0} (hash : ℕ) (asked short : List ℕ) (marks : List Mark) (old mid new : List ℕ) (r : Result T E) → short ≡ take most_front asked → AddsMarks (has_hash (whole_hash hash asked)) marks old mid
    → OnOk r (AddsMarks (has_front_below hash short (1 + length short)) marks mid new) → OnOk r (AddsMarks (is_found hash asked) marks old new)
ok_found hash asked short marks old mid new (Ok x) is first second =
    adds_both (has_hash (whole_hash hash asked)) (has_front_below hash (take most_front asked) (1 + length (take most_front asked))) (is_found hash asked) marks old mid new (λ mark found. found) first
    (subst (λ (t : List ℕ). AddsMarks (has_front_below hash t (1 + length t)) marks mid new) is second)
ok_found hash asked short marks old mid new (Err e) is first second = tt
