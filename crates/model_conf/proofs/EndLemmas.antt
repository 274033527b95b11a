-- What the reading of a whole text comes to.
use Rattle.std.proofs.Common.{◌≡◌, ◌≢◌, ℕ, ◌≤◌, ◌⊎◌, inl, inr, List, [], length, Option, Some, None, Result, Ok, Err, refl, ap, ◌∙◌, subst}
use Rattle.std.specs.Prelude.{MatchResult, IfOk, IfErr, IsUtf8}
use Rattle.effect_fold.specs.declared.effect.Effect.{Effect}
use Rattle.model_conf.specs.Faults.{IsModelFault, at_line, behind_lines, IsEntryFault}
use Rattle.model_conf.specs.ModelText.{ModelParts, Values, IsText, IsModel, SayModel, HasEffect, most_bytes}
use Rattle.model_conf.specs.Helps.Outlines.{IsSettled}
use Rattle.model_conf.specs.Sections.{Entry, entries_of, first_fault}
use Rattle.model_conf.specs.Statements.{Statement, HasStatements}
use Rattle.model_conf.specs.declared.fault.ModelFault.{ModelFault}
use Rattle.model_conf.specs.declared.fault.ModelFault.TheVariants as fault
use Rattle.model_conf.proofs.LawLemmas.{AreSettled, AreSettledIn, IsModel-once, IsModelFault-once, faulty_text, same_statements}

-- want of memory, or not
pub by_memory : (stop : ModelFault) → (stop ≡ fault.NoMemory) ⊎ (stop ≢ fault.NoMemory)
by_memory fault.TooLong = inr (λ e. absurd cc)
by_memory fault.NotUtf8 = inr (λ e. absurd cc)
by_memory (fault.Line line) = inr (λ e. absurd cc)
by_memory (fault.UnknownSection line) = inr (λ e. absurd cc)
by_memory (fault.UnknownKey line) = inr (λ e. absurd cc)
by_memory (fault.RepeatedKey line) = inr (λ e. absurd cc)
by_memory (fault.Missing key) = inr (λ e. absurd cc)
by_memory (fault.Columns key) = inr (λ e. absurd cc)
by_memory (fault.RoleShape relation) = inr (λ e. absurd cc)
by_memory fault.UnknownEffect = inr (λ e. absurd cc)
by_memory (fault.Matcher inner) = inr (λ e. absurd cc)
by_memory (fault.UnknownColumn at) = inr (λ e. absurd cc)
by_memory (fault.RoleUse at) = inr (λ e. absurd cc)
by_memory fault.NoMemory = inl refl

-- ---- where a text is settled

pub settled_no_utf8 : (bytes : List ℕ) → ¬ (IsUtf8 bytes) → AreSettledIn bytes
settled_no_utf8 bytes none = λ statements text lines. absurd (none text.utf8)

some_none : (o : Option ModelFault) (f : ModelFault) → o ≡ Some f → o ≡ None → ⊥
some_none o f e g = absurd cc

pub settled_at_line : (bytes : List ℕ) (statements : List Statement) (f : ModelFault) → IsText bytes statements → first_fault [] statements ≡ Some f → AreSettledIn bytes
settled_at_line bytes statements f text first = λ others text' lines.
    absurd (some_none _ f first (subst (λ (s : List Statement). first_fault [] s ≡ None) (same_statements bytes others statements text' text) lines))

pub settled_by_entries : (bytes : List ℕ) (statements : List Statement) (entries : List Entry) → IsText bytes statements → entries ≡ entries_of statements → AreSettled entries → AreSettledIn bytes
settled_by_entries bytes statements entries text are settled = λ others text' lines.
    subst AreSettled (are ∙ ap entries_of (same_statements bytes statements others text text')) settled

-- ---- the ends

-- what is read is the model of the bytes, a fault is theirs, and the matcher is settled where it was reached
pub record Ends (bytes : List ℕ) (r : Result ModelParts ModelFault) : Type 0 where
  pub found : IfOk r (IsModel bytes)
  pub stops : IfErr r (λ (f : ModelFault). f ≢ fault.NoMemory → IsModelFault bytes f)
  pub settled : MatchResult r (λ _. AreSettledIn bytes) (λ (f : ModelFault). f ≢ fault.NoMemory → AreSettledIn bytes)

memory_by : (stop : ModelFault) → (stop ≡ fault.NoMemory) ⊎ (stop ≢ fault.NoMemory) → (stop ≢ fault.NoMemory → ⊥) → stop ≡ fault.NoMemory
memory_by stop (inl e) none = e
memory_by stop (inr other) none = absurd (none other)

pub ends_only : (bytes : List ℕ) (r : Result ModelParts ModelFault) → Ends bytes r → (m : ModelParts) → IsModel bytes m → MatchResult r (λ (read : ModelParts). read ≡ m) (λ (f : ModelFault). f ≡ fault.NoMemory)
ends_only bytes (Ok read) ends m is = IsModel-once bytes ends.settled read m ends.found is
ends_only bytes (Err f) ends m is = memory_by f (by_memory f) (λ other. faulty_text bytes (ends.settled other) f m (ends.stops other) is)

pub ends_only_fault : (bytes : List ℕ) (r : Result ModelParts ModelFault) → Ends bytes r → (first : ModelFault) → IsModelFault bytes first → MatchResult r (λ _. ⊥) (λ (f : ModelFault). f ≢ fault.NoMemory → f ≡ first)
ends_only_fault bytes (Ok read) ends first is = faulty_text bytes ends.settled first read is ends.found
ends_only_fault bytes (Err f) ends first is = λ other. IsModelFault-once bytes (ends.settled other) f first (ends.stops other) is

-- a fault of the bytes, where the matcher is settled
pub ends_by_fault : (bytes : List ℕ) (f : ModelFault) → (f ≢ fault.NoMemory → IsModelFault bytes f × AreSettledIn bytes) → Ends bytes (Err f)
ends_by_fault bytes f is = record { found = tt; stops = λ other. (is other).0; settled = λ other. (is other).1 }

-- lines with a fault
pub ends_at_line : (bytes : List ℕ) (f : ModelFault) → length bytes ≤ most_bytes → IsUtf8 bytes → (f ≢ fault.NoMemory → (statements : List Statement) × HasStatements bytes statements × (first_fault [] statements ≡ Some f)) → Ends bytes (Err f)
ends_at_line bytes f few utf8 stopped = ends_by_fault bytes f (λ other.
    let s = stopped other in
    let text : IsText bytes s.0 = record { few = few; utf8 = utf8; said = s.1 } in
    (at_line s.0 text s.2, settled_at_line bytes s.0 f text s.2))

-- entries, whatever comes of them
pub ends_by_entries : (bytes : List ℕ) (statements : List Statement) (entries : List Entry) (r : Result ModelParts ModelFault) → IsText bytes statements → first_fault [] statements ≡ None → entries ≡ entries_of statements
    → IfOk r (SayModel entries) → IfErr r (λ (f : ModelFault). f ≢ fault.NoMemory → IsEntryFault entries f)
    → ((v : Values) (effect : Effect) → HasEffect entries v effect → MatchResult r (λ _. IsSettled v.matcher) (λ (f : ModelFault). f ≢ fault.NoMemory → IsSettled v.matcher)) → Ends bytes r
ends_by_entries bytes statements entries (Ok read) text lines are found faults settled = record {
  found = record { statements = statements; text = text; lines = lines; says = subst (λ (l : List Entry). SayModel l read) are found };
  stops = tt;
  settled = settled_by_entries bytes statements entries text are settled;
}
ends_by_entries bytes statements entries (Err f) text lines are found faults settled = record {
  found = tt;
  stops = λ other. behind_lines statements text lines (subst (λ (l : List Entry). IsEntryFault l f) are (faults other));
  settled = λ other. settled_by_entries bytes statements entries text are (λ v effect is. settled v effect is other);
}
