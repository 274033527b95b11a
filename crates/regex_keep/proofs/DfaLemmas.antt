-- An automaton of the tree that was read searches for the pattern.
use Rattle.std.proofs.Common.{◌≡◌, ℕ, ◌<◌, List, length, get_or, Option, Some, None, IfSome, IsUtf8, is_some, option_map, true, false, refl, sym, ap, ◌∙◌, subst, arith, inl, inr, Fits, w8}
use Rattle.std.specs.Prelude.{All}
use Rattle.std.specs.Str.{chars}
use Rattle.std.proofs.lemmas.Bool.{cases_lt}
use Rattle.std.proofs.lemmas.List.{get_or_past}
use Rattle.std.proofs.lemmas.List.Elements.{All-from_get_or, All-get_or}
use Rattle.regex.specs.Patterns.{Config, Re}
use Rattle.regex_compile.specs.Implements.{Implements}
use Rattle.regex_dfa.specs.Search.{end_from, IsEnd}
use Rattle.regex_dfa.specs.declared.dfa.Dfa.{Dfa}
use Rattle.regex_dfa.specs.declared.forward.End.{End}
use Rattle.regex_dfa.specs.declared.forward.End.TheVariants.{At, NoMatch, Idle, GaveUp}
use Rattle.regex_hir.specs.Re.{Trace}
use Rattle.regex_hir.specs.Find.{Match, find}
use Rattle.regex_hir.specs.Meaning.{meaning}
use Rattle.regex_hir.specs.declared.hir.Hir.{Hir}
use Rattle.regex_hir.proofs.FindLemmas.{first_between_cong}
use Rattle.regex_nfa.specs.Run.{find_in}
use Rattle.regex_nfa.specs.declared.nfa.Nfa.{Nfa}
use Rattle.regex_nfa.proofs.SearchLemmas.{run_unanchored}
use Rattle.regex_syntax.specs.Grammar.{Names, read}
use Rattle.regex_syntax.specs.Verdict.{Reads}
use Rattle.regex_gate.specs.Found.{byte_config, has_match}
use Rattle.regex_gate.proofs.CallerLemmas.{found_alike, has_match_text}
use Rattle.regex_keep.specs.Helps.Dfas.{IsDfaOf, answer_of}

pub bytes_of : (text : List ℕ) → ((i : ℕ) → Fits w8 (get_or text i 0)) → All (λ b. b < 256) text
bytes_of text fits = All-from_get_or (λ b. b < 256) text 0 (λ i _. omega (arith, fits i))

byte_at : (text : List ℕ) → All (λ b. b < 256) text → (k : ℕ) → get_or text k 0 < 256
byte_at text bytes k = elim (cases_lt k (length text)) as (λ _. get_or text k 0 < 256) [
  | inl inside ↦ All-get_or (λ b. b < 256) text k 0 inside bytes
  | inr past ↦ omega (arith, get_or_past text k 0 past)
]

some_mapped : {A B : Type 0} (f : A → B) (o : Option A) → is_some (option_map f o) ≡ is_some o
some_mapped f None = refl
some_mapped f (Some x) = refl

-- the tree has a match where the automaton comes to an end
ends_alike : (nfa : Nfa) (re : Re) (text : List ℕ) → Implements nfa re → All (λ b. b < 256) text
    → is_some (end_from nfa text (length text) nfa.unanchored 0) ≡ is_some (find re text 0)
unfolding find find_in
ends_alike nfa re text same bytes =
    some_mapped (λ (t : Trace). t.end) _
    ∙ ap is_some (run_unanchored nfa text (length text) 0 bytes (omega arith) (omega arith))
    ∙ some_mapped (λ (m : Match). m.trace) _
    ∙ ap is_some (first_between_cong _ _ 0 (length text) (λ i _ _. same text i))

pub dfa_read : (pattern : List ℕ) (dfa : Dfa) (config : Config) (hir : Hir) (names : Names) → IsUtf8 pattern → config ≡ byte_config → Implements dfa.nfa (meaning hir)
    → Reads config pattern hir names → IsDfaOf pattern dfa
unfolding Reads
dfa_read pattern dfa config hir names utf8 is same reads = λ text bytes.
    let tree = subst (λ (c : Config). Reads c pattern hir names) is reads in
    has_match_text pattern text utf8
    ∙ found_alike (read byte_config (chars pattern)) _ (meaning hir) text (byte_at text bytes) (λ p h. h.1) tree
    ∙ ap (λ (b : _). Some b) (sym (ends_alike dfa.nfa (meaning hir) text same bytes))

-- the end of a search tells whether the pattern is found
pub found_by_end : (pattern : List ℕ) (dfa : Dfa) (text : List ℕ) (end : End) → IsDfaOf pattern dfa → All (λ b. b < 256) text
    → IsEnd dfa.nfa text 0 (length text) false true (end_from dfa.nfa text (length text) dfa.nfa.unanchored 0) end
    → IfSome (answer_of end) (λ is_found. has_match pattern text ≡ Some is_found)
found_by_end pattern dfa text (At e) is bytes h = is text bytes ∙ ap (λ (b : _). Some b) h.0
found_by_end pattern dfa text NoMatch is bytes h = is text bytes ∙ ap (λ (o : Option ℕ). Some (is_some o)) h
found_by_end pattern dfa text (Idle next) is bytes h = tt
found_by_end pattern dfa text GaveUp is bytes h = tt
