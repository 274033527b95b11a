-- The fields of a line, from one byte to the next.
use Rattle.std.proofs.Common.{◌≡◌, ℕ, zero, suc, ◌+◌, ◌<◌, List, [], ◌∷◌, length, refl, ap, ◌∙◌, arith}
use Rattle.std.proofs.lemmas.List.{nil_from_length}
use Rattle.file_lint.specs.Columns.{behind_byte, ended, ends_field, field_count, field_front, fields_left}
use Rattle.file_lint.specs.Places.{blanks_before}
use Rattle.file_lint.specs.declared.columns.Within.{Within}

front_here : (within : Within) (text : List ℕ) → field_front 0 within text ≡ blanks_before text
unfolding field_front
front_here within text = refl

front_end : (left : ℕ) (within : Within) → 0 < left → field_front left within [] ≡ 0
unfolding field_front
front_end zero within some = absurd (omega arith)
front_end (suc left) within some = refl

front_next : (left : ℕ) (within : Within) (byte : ℕ) (bytes : List ℕ) → 0 < left
    → field_front left within (byte ∷ bytes) ≡ 1 + field_front (fields_left left (ends_field within byte)) (behind_byte within byte) bytes
unfolding field_front
front_next zero within byte bytes some = absurd (omega arith)
front_next (suc left) within byte bytes some = refl

-- one byte more is passed
pub front_step : (rest behind : List ℕ) (byte passed left : ℕ) (within : Within) (whole : ℕ) → 0 < left → rest ≡ byte ∷ behind → passed + field_front left within rest ≡ whole
    → (passed + 1) + field_front (fields_left left (ends_field within byte)) (behind_byte within byte) behind ≡ whole
front_step rest behind byte passed left within whole some cut is =
    let step : field_front left within rest ≡ 1 + field_front (fields_left left (ends_field within byte)) (behind_byte within byte) behind = ap (field_front left within) cut ∙ front_next left within byte behind some in
    omega (arith, step, is)

-- the line ends before the field
pub front_past : (rest : List ℕ) (passed left : ℕ) (within : Within) (whole : ℕ) → 0 < left → length rest ≡ 0 → passed + field_front left within rest ≡ whole → passed ≡ whole
front_past rest passed left within whole some none is =
    let end : field_front left within rest ≡ 0 = ap (field_front left within) (nil_from_length rest none) ∙ front_end left within some in
    omega (arith, end, is)

-- the field is reached
pub front_reached : (rest : List ℕ) (passed left : ℕ) (within : Within) (whole : ℕ) → left ≡ 0 → passed + field_front left within rest ≡ whole → passed + blanks_before rest ≡ whole
front_reached rest passed left within whole none is =
    let here : field_front left within rest ≡ blanks_before rest = ap (λ (n : ℕ). field_front n within rest) none ∙ front_here within rest in
    omega (arith, here, is)

count_none : (within : Within) → field_count within [] ≡ 1
unfolding field_count
count_none within = refl

count_next : (within : Within) (byte : ℕ) (bytes : List ℕ) → field_count within (byte ∷ bytes) ≡ ended (ends_field within byte) + field_count (behind_byte within byte) bytes
unfolding field_count
count_next within byte bytes = refl

-- one byte more is counted, and no more
pub count_step : (rest behind : List ℕ) (byte count : ℕ) (within : Within) (whole : ℕ) → rest ≡ byte ∷ behind → count + field_count within rest ≡ whole
    → (count + ended (ends_field within byte)) + field_count (behind_byte within byte) behind ≡ whole
count_step rest behind byte count within whole cut is =
    let step : field_count within rest ≡ ended (ends_field within byte) + field_count (behind_byte within byte) behind = ap (field_count within) cut ∙ count_next within byte behind in
    omega (arith, step, is)

pub count_end : (rest : List ℕ) (count : ℕ) (within : Within) (whole : ℕ) → length rest ≡ 0 → count + field_count within rest ≡ 1 + whole → count ≡ whole
count_end rest count within whole none is =
    let end : field_count within rest ≡ 1 = ap (field_count within) (nil_from_length rest none) ∙ count_none within in
    omega (arith, end, is)
