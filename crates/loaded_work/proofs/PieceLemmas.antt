-- Pieces of a text that are gathered and pushed together, and the pieces of requests.
use Rattle.std.proofs.Common.{◌≡◌, ℕ, ◌+◌, ◌≤◌, ◌==◌, Bool, true, false, List, [], ◌∷◌, ◌++◌, length, take, Ok, Err, refl, sym, ap, subst, ◌∙◌, ⊎_elim, append_assoc, append-nil, arith}
use Rattle.std.specs.Prelude.{MatchBool, Option}
use Rattle.std.specs.List.{Contains}
use Rattle.std.proofs.Math.Seq.{take-append_seam}
use Rattle.std.proofs.lemmas.List.Concat.{flat_map-append}
use Rattle.answer_lines.specs.LineText.{line_text}
use Rattle.answer_lines.specs.declared.answer.Line.{Line}
use Rattle.model_conf.specs.ModelText.{ModelParts}
use Rattle.near_miss.specs.Lines.{miss_lines}
use Rattle.near_miss.specs.Misses.{AreNearMisses}
use Rattle.near_miss.specs.declared.misses.NearMiss.{NearMiss}
use Rattle.outside.specs.Told.{with_back, TookFront}
use Rattle.outside.proofs.CallerLemmas.{with_back-append, with_back-nothing}
use Rattle.perm_base.specs.declared.shapes.Shapes.{Shapes}
use Rattle.perm_base.specs.declared.shapes.TableId.TheVariants.{P}
use Rattle.perm_value.specs.Datum.{Datum}
use Rattle.policy_table.specs.Tables.{Policy, rows}
use Rattle.script_read.specs.Reads.{Reader}
use Rattle.script_read.specs.Said.{Reading, Said, asks}
use Rattle.session_meaning.specs.Plain.{IsPlain, all_refused}
use Rattle.session_meaning.specs.Replies.{is_decided}
use Rattle.session_meaning.proofs.CallerLemmas.{all_more, plain_more}
use Rattle.loaded_work.specs.Explained.{ArePieces, IsBelow, IsPiece, TellsMisses}
use Rattle.loaded_work.specs.Helps.ExplainedLines.{ArePushed}
use Rattle.loaded_work.specs.Helps.GatheredLines.{Moves}
use Rattle.loaded_work.specs.Texts.{joined}
use Rattle.loaded_work.proofs.AskLemmas.{HasVerdicts, asked, some_line}

-- ---- what is gathered

-- pieces and more
joined_more : (pieces more : List (List ℕ)) → joined (pieces ++ more) ≡ joined pieces ++ joined more
joined_more pieces more = flat_map-append (λ (piece : List ℕ). piece) pieces more

joined_one : (piece : List ℕ) → joined (piece ∷ []) ≡ piece
joined_one piece = append-nil piece

pub pushed_none : (before : Option (List ℕ)) (gathered : List ℕ) (faults : ℕ) → gathered ≡ [] → ArePushed before before gathered [] faults faults
pushed_none before gathered faults none = record { pushed = []; waiting = []; parts = refl; took = with_back-nothing before; text = none; counted = omega arith }

-- one piece more
pub pushed_more : (before now : Option (List ℕ)) (gathered more : List ℕ) (pieces : List (List ℕ)) (piece : List ℕ) (a b : ℕ) → ArePushed before now gathered pieces a b → more ≡ gathered ++ piece → ArePushed before now more (pieces ++ piece ∷ []) a b
pushed_more before now gathered more pieces piece a b so more-is = record {
  pushed = so.pushed;
  waiting = so.waiting ++ piece ∷ [];
  parts = ap (λ (l : List (List ℕ)). l ++ piece ∷ []) so.parts ∙ append_assoc so.pushed so.waiting (piece ∷ []);
  took = so.took;
  text = more-is ∙ ap (λ (t : List ℕ). t ++ piece) so.text ∙ ap (λ (t : List ℕ). joined so.waiting ++ t) (sym (joined_one piece)) ∙ sym (joined_more so.waiting (piece ∷ []));
  counted = so.counted;
}

-- all that was gathered is pushed
pub all_pieces_pushed : (before mid now : Option (List ℕ)) (gathered : List ℕ) (pieces : List (List ℕ)) (a b : ℕ) → ArePushed before mid gathered pieces a b → now ≡ with_back mid gathered → now ≡ with_back before (joined pieces)
all_pieces_pushed before mid now gathered pieces a b so took =
    let whole : joined pieces ≡ joined so.pushed ++ gathered = ap joined so.parts ∙ joined_more so.pushed so.waiting ∙ ap (λ (t : List ℕ). joined so.pushed ++ t) (sym so.text) in
    rw (took, so.took, whole) (with_back-append before (joined so.pushed) gathered)

pub pushed_moved : (before mid now : Option (List ℕ)) (gathered left : List ℕ) (pieces : List (List ℕ)) (a b c : ℕ) → ArePushed before mid gathered pieces a b → Moves mid now gathered left → b ≤ c → ArePushed before now left pieces a c
pushed_moved before mid now gathered left pieces a b c so moved counted = ⊎_elim
    (λ all. record { pushed = pieces; waiting = []; parts = sym (append-nil pieces); took = all_pieces_pushed before mid now gathered pieces a b so all.0; text = all.1; counted = omega (arith, so.counted, counted) })
    (λ none. record { pushed = so.pushed; waiting = so.waiting; parts = so.parts; took = none.0 ∙ so.took; text = none.1 ∙ so.text; counted = omega (arith, so.counted, counted) }) moved

-- the ends, also before more pieces
pub pieces_first : (before now : Option (List ℕ)) (gathered : List ℕ) (pieces more : List (List ℕ)) (a b : ℕ) → ArePushed before now gathered pieces a b → (count : ℕ) × (now ≡ with_back before (joined (take count (pieces ++ more))))
pieces_first before now gathered pieces more a b so =
    let whole : pieces ++ more ≡ so.pushed ++ (so.waiting ++ more) = ap (λ (l : List (List ℕ)). l ++ more) so.parts ∙ append_assoc so.pushed so.waiting more in
    let first : take (length so.pushed) (pieces ++ more) ≡ so.pushed = ap (take (length so.pushed)) whole ∙ take-append_seam so.pushed (so.waiting ++ more) in
    (length so.pushed, so.took ∙ ap (λ (l : List (List ℕ)). with_back before (joined l)) (sym first))

pub pieces_front : (before mid now : Option (List ℕ)) (gathered : List ℕ) (pieces more : List (List ℕ)) (a b : ℕ) → ArePushed before mid gathered pieces a b → TookFront mid now gathered → TookFront before now (joined (pieces ++ more))
pieces_front before mid now gathered pieces more a b so front = record {
  front = joined so.pushed ++ front.front;
  rest = front.rest ++ joined more;
  parts = joined_more pieces more ∙ ap (λ (t : List ℕ). t ++ joined more) (ap joined so.parts ∙ joined_more so.pushed so.waiting ∙ ap (λ (t : List ℕ). joined so.pushed ++ t) (sym so.text ∙ front.parts)) ∙ simp append_assoc;
  took = rw (front.took, so.took) (with_back-append before (joined so.pushed) front.front);
}

-- ---- the pieces of requests

-- each request has near misses, whatever was refused
abbrev pub HasMisses : Type 0
HasMisses = (shapes : Shapes) (policy : Policy) (request : List Datum) (refused : List (List ℕ)) (parts : List ModelParts) (most : ℕ) → (misses : List NearMiss) × AreNearMisses shapes policy request (Contains refused) parts most misses

module _ (parts : List ModelParts) (most : ℕ) (model : ModelParts) (shapes : Shapes) (policy : Policy) where
  -- one piece more
  pub are_pieces_more : (items : List Said) (refused : List (List (List ℕ))) (lines : List Line) (pieces : List (List ℕ)) (item : Said) (patterns : List (List ℕ)) (line : Line) (piece : List ℕ) → ArePieces parts most model shapes policy items refused lines pieces
      → IsPiece parts most model shapes policy item patterns line piece → ArePieces parts most model shapes policy (items ++ item ∷ []) (refused ++ patterns ∷ []) (lines ++ line ∷ []) (pieces ++ piece ∷ [])
  are_pieces_more [] [] [] [] item patterns line piece are is = (is, tt)
  are_pieces_more (x ∷ xs) (r ∷ rs) (y ∷ ys) (z ∷ zs) item patterns line piece are is = (are.0, are_pieces_more xs rs ys zs item patterns line piece are.1 is)
  are_pieces_more _ _ _ _ item patterns line piece are is = absurd are

  -- ---- the requests that are left

  -- lines and pieces of all items, of which these are the first, where nothing is refused for the others
  pub record MorePieces (items : List Said) (refused : List (List (List ℕ))) (lines : List Line) (pieces : List (List ℕ)) : Type 0 where
    pub more : List Line
    pub others : List (List ℕ)
    pub all : List (List (List ℕ))
    pub plain : IsPlain model shapes policy items all (lines ++ more)
    pub below : ArePieces parts most model shapes policy items all (lines ++ more) (pieces ++ others)
    pub same : all_refused all ≡ all_refused refused

  -- a line and its piece more, and others behind them
  piece_first : (items : List Said) (refused others : List (List (List ℕ))) (lines : List Line) (pieces : List (List ℕ)) (line : Line) (piece : List ℕ) → MorePieces items others (lines ++ line ∷ []) (pieces ++ piece ∷ []) → all_refused others ≡ all_refused refused → MorePieces items refused lines pieces
  piece_first items refused others lines pieces line piece rest same =
      let lines-are : (lines ++ line ∷ []) ++ rest.more ≡ lines ++ line ∷ rest.more = append_assoc lines (line ∷ []) rest.more in
      let pieces-are : (pieces ++ piece ∷ []) ++ rest.others ≡ pieces ++ piece ∷ rest.others = append_assoc pieces (piece ∷ []) rest.others in
      record {
        more = line ∷ rest.more;
        others = piece ∷ rest.others;
        all = rest.all;
        plain = subst (λ (l : List Line). IsPlain model shapes policy items rest.all l) lines-are rest.plain;
        below = subst (λ (l : List Line). ArePieces parts most model shapes policy items rest.all l (pieces ++ piece ∷ rest.others)) lines-are
            (subst (λ (p : List (List ℕ)). ArePieces parts most model shapes policy items rest.all ((lines ++ line ∷ []) ++ rest.more) p) pieces-are rest.below);
        same = rest.same ∙ same;
      }

  -- nothing behind them
  pieces_end : (items : List Said) (refused : List (List (List ℕ))) (lines : List Line) (pieces : List (List ℕ)) → IsPlain model shapes policy items refused lines → ArePieces parts most model shapes policy items refused lines pieces → MorePieces items refused lines pieces
  pieces_end items refused lines pieces plain below = record {
    more = [];
    others = [];
    all = refused;
    plain = subst (λ (l : List Line). IsPlain model shapes policy items refused l) (sym (append-nil lines)) plain;
    below = subst (λ (l : List Line). ArePieces parts most model shapes policy items refused l (pieces ++ [])) (sym (append-nil lines))
        (subst (λ (p : List (List ℕ)). ArePieces parts most model shapes policy items refused lines p) (sym (append-nil pieces)) below);
    same = refl;
  }

  module _ (misses : HasMisses) where
    some_below : (patterns : List (List ℕ)) (reading : Reading) → (below : List ℕ) × IsBelow parts most model shapes policy (asks reading) patterns below
    some_below patterns (Ok values) = by (length values == length model.request)
      where
        by : (fits : Bool) → (below : List ℕ) × MatchBool fits (TellsMisses parts most shapes policy values patterns below) (below ≡ [])
        by true =
            let found = misses shapes policy values patterns parts most in
            (miss_lines parts (rows policy P) found.0, record { misses = found.0; are = found.1; told = refl })
        by false = ([], refl)
    some_below patterns (Err fault) = ([], refl)

    -- each line has a piece
    some_piece : (patterns : List (List ℕ)) (reading : Reading) (line : Line) → (piece : List ℕ) × IsPiece parts most model shapes policy (asks reading) patterns line piece
    some_piece patterns reading line = let below = some_below patterns reading in (line_text line ++ below.0, (below.0, below.1, refl))

    -- so many pieces as there are requests left
    module _ (law : HasVerdicts) where
      pub more_pieces : {json : Bool} (reader : Reader json) (left : List (List ℕ)) (items : List Said) (refused : List (List (List ℕ))) (lines : List Line) (pieces : List (List ℕ)) → IsPlain model shapes policy items refused lines → ArePieces parts most model shapes policy items refused lines pieces
          → MorePieces (items ++ asked reader left) refused lines pieces
      more_pieces reader [] items refused lines pieces plain below = subst (λ (i : List Said). MorePieces i refused lines pieces) (sym (append-nil items)) (pieces_end items refused lines pieces plain below)
      more_pieces reader (line ∷ left) items refused lines pieces plain below =
          let item = asks (reader.request line) in
          let one = some_line law model shapes policy [] items (asks (reader.request line)) (λ calm. refl) in
          let piece = some_piece [] (reader.request line) one.0 in
          let next = plain_more model shapes policy items refused lines item [] one.0 plain one.1 in
          let below_next = are_pieces_more items refused lines pieces item [] one.0 piece.0 below piece.1 in
          let rest = more_pieces reader left (items ++ item ∷ []) (refused ++ [] ∷ []) (lines ++ one.0 ∷ []) (pieces ++ piece.0 ∷ []) next below_next in
          let whole : (items ++ item ∷ []) ++ asked reader left ≡ items ++ asked reader (line ∷ left) = append_assoc items (item ∷ []) (asked reader left) in
          piece_first (items ++ asked reader (line ∷ left)) refused (refused ++ [] ∷ []) lines pieces one.0 piece.0
          (subst (λ (i : List Said). MorePieces i (refused ++ [] ∷ []) (lines ++ one.0 ∷ []) (pieces ++ piece.0 ∷ [])) whole rest)
          (all_more refused [] ∙ append-nil (all_refused refused))

      -- the same where these patterns were refused for the next request
      pub stopped_pieces : {json : Bool} (reader : Reader json) (line : List ℕ) (left : List (List ℕ)) (items : List Said) (refused : List (List (List ℕ))) (patterns : List (List ℕ)) (lines : List Line) (pieces : List (List ℕ)) → (is_decided model (asks (reader.request line)) ≡ false → patterns ≡ [])
          → IsPlain model shapes policy items refused lines → ArePieces parts most model shapes policy items refused lines pieces → MorePieces (items ++ asked reader (line ∷ left)) (refused ++ patterns ∷ []) lines pieces
      stopped_pieces reader line left items refused patterns lines pieces unasked plain below =
          let item = asks (reader.request line) in
          let one = some_line law model shapes policy patterns items (asks (reader.request line)) unasked in
          let piece = some_piece patterns (reader.request line) one.0 in
          let next = plain_more model shapes policy items refused lines item patterns one.0 plain one.1 in
          let below_next = are_pieces_more items refused lines pieces item patterns one.0 piece.0 below piece.1 in
          let rest = more_pieces reader left (items ++ item ∷ []) (refused ++ patterns ∷ []) (lines ++ one.0 ∷ []) (pieces ++ piece.0 ∷ []) next below_next in
          let whole : (items ++ item ∷ []) ++ asked reader left ≡ items ++ asked reader (line ∷ left) = append_assoc items (item ∷ []) (asked reader left) in
          piece_first (items ++ asked reader (line ∷ left)) (refused ++ patterns ∷ []) (refused ++ patterns ∷ []) lines pieces one.0 piece.0
          (subst (λ (i : List Said). MorePieces i (refused ++ patterns ∷ []) (lines ++ one.0 ∷ []) (pieces ++ piece.0 ∷ [])) whole rest) refl
