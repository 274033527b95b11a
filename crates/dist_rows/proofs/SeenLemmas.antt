-- What contracts see of a square after each change, where the list of its rows is written back.
use Rattle.std.proofs.Common.{◌≡◌, ℕ, ◌+◌, ◌-◌, ◌<◌, List, [], ◌∷◌, ◌++◌, length, length-append, map, get_or, set, take, drop, replicate, refl, sym, ap, ap₂, subst, ◌∙◌, arith}
use Rattle.std.specs.List.{swap_remove}
use Rattle.std.proofs.lemmas.List.{length-map, map-set, take_at}
use Rattle.dist_rows.proofs.FrontLemmas.{front_all}
use Rattle.dist_rows.proofs.RelaxLemmas.{length_lowered, none}
use Rattle.dist_rows.proofs.RowLemmas.{cells_at, rows_at}
use Rattle.dist_rows.proofs.SquareLemmas.{dropped_is, kept_set, widened_is, written_is}
use Rattle.dist_rows.specs.Helps.Rows.{IsKept, RowSeen, cells_of, fronted, relaxed_to, row_at, with_last, without_cell}
use Rattle.dist_rows.specs.Squares.{Square, cleared, dropped, lowered, relaxed, widened, with_cell}

-- what contracts see
abbrev pub square : List (List ℕ) → ℕ → Square
square cells spare = record { cells = cells; spare = spare }

-- there are as many rows as are seen
pub seen_size : (rows : List RowSeen) (spare : ℕ) (seen : Square) → square (cells_of rows) spare ≡ seen → length rows ≡ length seen.cells
seen_size rows spare seen is = sym (length-map rows (λ (r : RowSeen). r.cells)) ∙ ap (λ (s : Square). length s.cells) is

-- a node of what is seen is one of the rows
pub within_rows : (rows : List RowSeen) (spare a : ℕ) (seen : Square) → square (cells_of rows) spare ≡ seen → a < length seen.cells → a < length rows
within_rows rows spare a seen is within = omega (arith, seen_size rows spare seen is, within)

pub seen_by : (f : List (List ℕ) → List (List ℕ)) (rows after : List RowSeen) (spare : ℕ) (seen : Square) → square (cells_of rows) spare ≡ seen → cells_of after ≡ f (cells_of rows) → square (cells_of after) spare ≡ square (f seen.cells) seen.spare
seen_by f rows after spare seen is made = ap (λ (l : List (List ℕ)). square l spare) made ∙ ap (λ (s : Square). square (f s.cells) s.spare) is

-- rows that are written back whole
pub written_back : (size : ℕ) (rows old : List RowSeen) → length rows ≡ size → take size (rows ++ drop (length rows) old) ≡ rows
written_back size rows old is = take_at rows (drop (length rows) old) size is

-- ---- one row

pub set_seen : (rows : List RowSeen) (spare a b value : ℕ) (row d : RowSeen) (seen : Square) → square (cells_of rows) spare ≡ seen → a < length seen.cells → d ≡ get_or rows a d → row ≡ record { cells = set d.cells b value; room = d.room }
    → square (cells_of (set rows a row)) spare ≡ square (with_cell seen.cells a b value) seen.spare
set_seen rows spare a b value row d seen is within read made =
    seen_by (λ (l : List (List ℕ)). with_cell l a b value) rows (set rows a row) spare seen is
    (written_is rows a row d (λ (l : List ℕ). set l b value) (within_rows rows spare a seen is within) (ap (λ (r : RowSeen). r.cells) made ∙ ap (λ (r : RowSeen). set r.cells b value) read))

pub cleared_seen : (rows free : List RowSeen) (places a : ℕ) (row d : RowSeen) (seen : Square) → IsKept rows free places → square (cells_of rows) (length free) ≡ seen → a < length seen.cells → d ≡ get_or rows a d
    → row ≡ record { cells = set (replicate (length d.cells) 255) a 0; room = d.room } → square (cells_of (set rows a row)) (length free) ≡ square (cleared seen.cells a) seen.spare
cleared_seen rows free places a row d seen kept is within read made =
    let here : a < length rows = within_rows rows (length free) a seen is within in
    let size : length d.cells ≡ length (cells_of rows) = ap (λ (r : RowSeen). length r.cells) read ∙ (rows_at (length rows) (length rows + length free) rows a d kept.rows here).cells ∙ sym (length-map rows (λ (r : RowSeen). r.cells)) in
    seen_by (λ (l : List (List ℕ)). cleared l a) rows (set rows a row) (length free) seen is
    (map-set (λ (r : RowSeen). r.cells) rows a row ∙ ap (set (cells_of rows) a) (ap (λ (r : RowSeen). r.cells) made ∙ ap (λ (n : ℕ). set (replicate n 255) a 0) size))

pub kept_row : (rows free : List RowSeen) (places a : ℕ) (row d : RowSeen) (seen : Square) → IsKept rows free places → square (cells_of rows) (length free) ≡ seen → a < length seen.cells → d ≡ get_or rows a d
    → length row.cells ≡ length d.cells → row.room ≡ d.room → IsKept (set rows a row) free places
kept_row rows free places a row d seen kept is within read same room =
    kept_set rows free places a row d kept (within_rows rows (length free) a seen is within) (same ∙ ap (λ (r : RowSeen). length r.cells) read) (room ∙ ap (λ (r : RowSeen). r.room) read)

-- ---- a row that is lowered by another

lowered_whole : (rows free : List RowSeen) (places a add v : ℕ) → IsKept rows free places → a < length rows → v < length rows
    → fronted (length rows) (lowered add (row_at rows a).cells (row_at rows v).cells) (row_at rows a).cells ≡ lowered add (row_at rows a).cells (row_at rows v).cells
lowered_whole rows free places a add v kept first second =
    let one = (rows_at (length rows) (length rows + length free) rows a none kept.rows first).cells in
    let two = (rows_at (length rows) (length rows + length free) rows v none kept.rows second).cells in
    front_all (length rows) (lowered add (row_at rows a).cells (row_at rows v).cells) (row_at rows a).cells (length_lowered add (row_at rows a).cells (row_at rows v).cells (one ∙ sym two)) (omega (arith, one))

pub kept_relaxed : (rows free after : List RowSeen) (places a add v : ℕ) (seen : Square) → IsKept rows free places → square (cells_of rows) (length free) ≡ seen → a < length seen.cells → v < length seen.cells
    → after ≡ relaxed_to (length rows) rows a add v → IsKept after free places
kept_relaxed rows free after places a add v seen kept is first second made =
    let here : a < length rows = within_rows rows (length free) a seen is first in
    let there : v < length rows = within_rows rows (length free) v seen is second in
    let one = (rows_at (length rows) (length rows + length free) rows a none kept.rows here).cells in
    let two = (rows_at (length rows) (length rows + length free) rows v none kept.rows there).cells in
    subst (λ (l : List RowSeen). IsKept l free places) (sym made)
    (kept_set rows free places a (record { cells = fronted (length rows) (lowered add (row_at rows a).cells (row_at rows v).cells) (row_at rows a).cells; room = (row_at rows a).room }) none kept here
    (ap (λ (l : List ℕ). length l) (lowered_whole rows free places a add v kept here there) ∙ length_lowered add (row_at rows a).cells (row_at rows v).cells (one ∙ sym two)) refl)

pub relaxed_seen : (rows free after : List RowSeen) (places a add v : ℕ) (seen : Square) → IsKept rows free places → square (cells_of rows) (length free) ≡ seen → a < length seen.cells → v < length seen.cells
    → after ≡ relaxed_to (length rows) rows a add v → square (cells_of after) (length free) ≡ square (relaxed seen.cells a add v) seen.spare
relaxed_seen rows free after places a add v seen kept is first second made =
    let here : a < length rows = within_rows rows (length free) a seen is first in
    let there : v < length rows = within_rows rows (length free) v seen is second in
    seen_by (λ (l : List (List ℕ)). relaxed l a add v) rows after (length free) seen is
    (ap cells_of made ∙ map-set (λ (r : RowSeen). r.cells) rows a (record { cells = fronted (length rows) (lowered add (row_at rows a).cells (row_at rows v).cells) (row_at rows a).cells; room = (row_at rows a).room })
    ∙ ap (set (cells_of rows) a) (lowered_whole rows free places a add v kept here there ∙ ap₂ (λ (l m : List ℕ). lowered add l m) (sym (cells_at rows a none here)) (sym (cells_at rows v none there))))

-- ---- nodes that come and go

pub dropped_seen : (rows free after : List RowSeen) (at : ℕ) (d : RowSeen) (seen : Square) → square (cells_of rows) (length free) ≡ seen → at < length seen.cells → after ≡ map (without_cell at) (swap_remove rows at d)
    → square (cells_of after) (length free) ≡ square (dropped at seen.cells) seen.spare
dropped_seen rows free after at d seen is within made =
    seen_by (dropped at) rows after (length free) seen is (dropped_is rows after at d (within_rows rows (length free) at seen is within) made)

pub widened_seen : (rows free rest after : List RowSeen) (row last : RowSeen) (seen : Square) → square (cells_of rows) (length free) ≡ seen → free ≡ rest ++ row ∷ [] → last ≡ record { cells = replicate (length rows) 255 ++ 0 ∷ []; room = row.room }
    → after ≡ map (with_last 255) rows ++ last ∷ [] → square (cells_of after) (length rest) ≡ square (widened seen.cells) (seen.spare - 1)
widened_seen rows free rest after row last seen is parts opened made =
    let one : length free ≡ length rest + 1 = ap (λ (l : List RowSeen). length l) parts ∙ length-append rest (row ∷ []) in
    let few : length rest ≡ length free - 1 = omega (arith, one) in
    ap₂ square (widened_is rows after last row.room opened made) few ∙ ap (λ (s : Square). square (widened s.cells) (s.spare - 1)) is
