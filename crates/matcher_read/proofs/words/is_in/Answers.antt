use Rattle.std.proofs.Common.{◌≡◌, ℕ, Bool, true, false, List, [], ◌∷◌, codes, MatchBool, ap, ◌∙◌, sym}
use Rattle.std.proofs.lemmas.Slice.Eq.{bytes_eq-Decides}
use Rattle.std.specs.Str.{bytes_eq}
use Rattle.matcher_read.specs.Helps.Machine.{is_in}
use Rattle.matcher_read.specs.Helps.TokenLists.{pieces}
use Rattle.matcher_read.proofs.PieceLemmas.{in_word}
use Rattle.matcher_read.proofs.words.is_in.Goals as goal

by_answer : (r : Bool) (bs : List ℕ) → r ≡ bytes_eq bs (codes "in") → MatchBool r (pieces bs ≡ codes "in" ∷ []) (is_in (pieces bs) ≡ false)
by_answer true bs e = ap pieces ((bytes_eq-Decides bs (codes "in")).0 (sym e))
by_answer false bs e = in_word bs ∙ sym e

pub returns : goal.returns
returns c = by_answer _ c.args.name.now c.eq.ensures
