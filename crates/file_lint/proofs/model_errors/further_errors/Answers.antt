use Rattle.std.proofs.Common.{◌≡◌, ◌-◌, ◌++◌, ◌∷◌, [], ℕ, Bool, Option, Some, None, false, sym, ap, ◌∙◌, append-nil, subst, arith}
use Rattle.std.specs.Prelude.{MatchOption, option_map, string_bytes}
use Rattle.model_conf.specs.Faults.{IsModelFault}
use Rattle.model_conf.specs.ModelText.{IsModel, ModelParts}
use Rattle.model_conf.specs.declared.fault.ModelFault.{ModelFault}
use Rattle.file_lint.specs.Helps.Steps.{mended_seen}
use Rattle.file_lint.specs.Mended.{mended}
use Rattle.file_lint.specs.ModelErrors.{HasErrors, is_hidden, most_errors}
use Rattle.file_lint.specs.ModelWords.{error_of}
use Rattle.file_lint.specs.declared.finding.Finding.{Finding}
use Rattle.file_lint.proofs.RoundLemmas.{goes_begin, goes_further, told_cleared, told_enough, told_further, told_hidden, told_last}
use Rattle.file_lint.proofs.model_errors.further_errors.Goals as goal

pub loop-left-init : goal.loop-left-init
loop-left-init c = goes_begin c.new-errors.result.items (HasErrors most_errors false (string_bytes c.args.bytes) c.args.first) c.new-errors.ensures.items

pub returns-then-is_hidden : goal.returns-then-is_hidden
returns-then-is_hidden c =
    subst (HasErrors most_errors false (string_bytes c.args.bytes) c.args.first) (append-nil c.loop-left.errors.items)
    (c.loop-left.invariant [] (told_hidden c.loop-left.left c.loop-left.guessed (string_bytes c.loop-left.text) c.loop-left.fault (omega arith) (sym c.is_hidden.ensures ∙ c.if-is_hidden.true)))

-- nothing takes the fault away
pub returns-in_default : goal.returns-in_default
returns-in_default c =
    let text = string_bytes c.loop-left.text in
    let error = error_of c.loop-left.fault text in
    let grown : c.push.new.self.items ≡ c.loop-left.errors.items ++ error ∷ []
    = c.in_ok-push.ensures.items ∙ ap (λ (e : Finding). c.loop-left.errors.items ++ e ∷ []) (c.in_ok-error.ensures ∙ ap (error_of c.loop-left.fault) c.as_str-shown.ensures.value) in
    let none : mended c.loop-left.fault text ≡ None = sym (c.in_ok-after.ensures ∙ ap (mended c.loop-left.fault) c.as_str-shown.ensures.value) ∙ ap (option_map mended_seen) c.in_default.is in
    subst (HasErrors most_errors false (string_bytes c.args.bytes) c.args.first) (sym grown)
    (c.loop-left.invariant (error ∷ []) (told_last c.loop-left.left c.loop-left.guessed text c.loop-left.fault (omega arith) (sym c.is_hidden.ensures ∙ c.if-is_hidden.false) none))

-- the mended text is a model
pub returns-in_default-2 : goal.returns-in_default-2
returns-in_default-2 c =
    let text = string_bytes c.loop-left.text in
    let error = error_of c.loop-left.fault text in
    let after = string_bytes c.in-Some.after.text in
    let grown : c.push.new.self.items ≡ c.loop-left.errors.items ++ error ∷ []
    = c.in_ok-push.ensures.items ∙ ap (λ (e : Finding). c.loop-left.errors.items ++ e ∷ []) (c.in_ok-error.ensures ∙ ap (error_of c.loop-left.fault) c.as_str-shown.ensures.value) in
    let made : mended c.loop-left.fault text ≡ Some (mended_seen c.in-Some.after) = sym (c.in_ok-after.ensures ∙ ap (mended c.loop-left.fault) c.as_str-shown.ensures.value) ∙ ap (option_map mended_seen) c.in-Some.is in
    let model : (m : ModelParts) × IsModel after m
    = subst (λ (o : Option ModelFault). MatchOption o ((m : ModelParts) × IsModel after m) (IsModelFault after)) c.in_default-2.is c.in_ok-next.ensures in
    subst (HasErrors most_errors false (string_bytes c.args.bytes) c.args.first) (sym grown)
    (c.loop-left.invariant (error ∷ []) (told_cleared c.loop-left.left c.loop-left.guessed text c.loop-left.fault (mended_seen c.in-Some.after) model.0 (omega arith) (sym c.is_hidden.ensures ∙ c.if-is_hidden.false) made model.1))

-- the next round
pub loop-left-preserved : goal.loop-left-preserved
loop-left-preserved c =
    let text = string_bytes c.loop-left.text in
    let error = error_of c.loop-left.fault text in
    let after = string_bytes c.in-Some.after.text in
    let next = c.in-Some-2.next in
    let grown : c.push.new.self.items ≡ c.loop-left.errors.items ++ error ∷ []
    = c.in_ok-push.ensures.items ∙ ap (λ (e : Finding). c.loop-left.errors.items ++ e ∷ []) (c.in_ok-error.ensures ∙ ap (error_of c.loop-left.fault) c.as_str-shown.ensures.value) in
    let made : mended c.loop-left.fault text ≡ Some (mended_seen c.in-Some.after) = sym (c.in_ok-after.ensures ∙ ap (mended c.loop-left.fault) c.as_str-shown.ensures.value) ∙ ap (option_map mended_seen) c.in-Some.is in
    let bad : IsModelFault after next = subst (λ (o : Option ModelFault). MatchOption o ((m : ModelParts) × IsModel after m) (IsModelFault after)) c.in-Some-2.is c.in_ok-next.ensures in
    goes_further c.loop-left.errors.items c.push.new.self.items error (HasErrors most_errors false (string_bytes c.args.bytes) c.args.first) (HasErrors c.loop-left.left c.loop-left.guessed text c.loop-left.fault)
    (HasErrors (c.loop-left.left - 1) c.has_guessed-guessed.result after next) grown
    (λ others rest.
    told_further c.loop-left.left c.loop-left.guessed text c.loop-left.fault (mended_seen c.in-Some.after) next others (omega arith) (sym c.is_hidden.ensures ∙ c.if-is_hidden.false) made bad
    (subst (λ (g : Bool). HasErrors (c.loop-left.left - 1) g after next others) c.has_guessed-guessed.ensures rest))
    c.loop-left.invariant

pub returns : goal.returns
returns c =
    subst (HasErrors most_errors false (string_bytes c.args.bytes) c.args.first) (append-nil c.loop-left.errors.items)
    (c.loop-left.invariant [] (told_enough c.loop-left.left c.loop-left.guessed (string_bytes c.loop-left.text) c.loop-left.fault (omega arith)))
