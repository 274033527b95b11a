-- What the reader of matchers tells, as a model's own.
use Rattle.std.proofs.Common.{◌≡◌, ◌≢◌, ℕ, List, Option, Some, None, refl, sym, ap, ◌∙◌, subst}
use Rattle.std.specs.Prelude.{option_map}
use Rattle.effect_fold.specs.declared.effect.Effect.{Effect}
use Rattle.matcher_read.specs.Expression.{Expression}
use Rattle.matcher_read.specs.Faults.{IsFault}
use Rattle.matcher_read.specs.Matcher.{IsMatcher}
use Rattle.matcher_read.specs.declared.fault.MatcherFault.{MatcherFault}
use Rattle.matcher_read.specs.declared.fault.MatcherFault.TheVariants as m
use Rattle.model_conf.specs.Columns.{columns_in}
use Rattle.model_conf.specs.Faults.{IsEntryFault, missing, matcher, undeclared, fault_of}
use Rattle.model_conf.specs.Helps.MatcherStops.{fault_of_matcher}
use Rattle.model_conf.specs.Helps.Misuses.{misuse_fault, misuse_of}
use Rattle.model_conf.specs.ModelText.{Values, HasEffect}
use Rattle.model_conf.specs.Helps.Outlines.{IsMissingIn, IsOutline, IsSettled}
use Rattle.model_conf.specs.Relations.{relations_of}
use Rattle.model_conf.specs.Sections.{Entry}
use Rattle.model_conf.specs.Uses.{Use, of_request, of_policy, of_relation, uses, first_undeclared}
use Rattle.model_conf.specs.declared.fault.ModelFault.{ModelFault}
use Rattle.model_conf.specs.declared.fault.ModelFault.TheVariants as fault
use Rattle.model_conf.specs.declared.outline.Outline.{Outline}
use Rattle.model_conf.specs.declared.uses.Misuse.{Misuse}
use Rattle.model_conf.proofs.LawLemmas.{has_all, same_values}

-- ---- one matcher, or one fault

pub settled_by_tree : (text : List ℕ) (e : Expression) → ((f : Expression) → IsMatcher text f → e ≡ f) → ((g : MatcherFault) → IsFault text g → ⊥) → IsSettled text
settled_by_tree text e only none = record {
  once = λ f g a b. sym (only f a) ∙ only g b;
  one_fault = λ f g a b. absurd (none f a);
  apart = λ f g a b. none f a;
}

pub settled_by_fault : (text : List ℕ) (stop : MatcherFault) → stop ≢ m.NoMemory → ((e : Expression) → IsMatcher text e → stop ≡ m.NoMemory) → ((g : MatcherFault) → IsFault text g → stop ≢ m.NoMemory → stop ≡ g) → IsSettled text
settled_by_fault text stop other only only_fault = record {
  once = λ e f a b. absurd (other (only e a));
  one_fault = λ f g a b. sym (only_fault f a other) ∙ only_fault g b other;
  apart = λ f e a b. other (only e b);
}

pub no_memory_of : (stop : MatcherFault) → fault_of_matcher stop ≢ fault.NoMemory → stop ≢ m.NoMemory
no_memory_of stop other e = other (ap fault_of_matcher e)

fault_is : (stop : MatcherFault) → stop ≢ m.NoMemory → fault_of_matcher stop ≡ fault.Matcher stop
fault_is m.TooLong other = refl
fault_is (m.Unexpected at) other = refl
fault_is (m.OpenText at) other = refl
fault_is (m.NumberTooWide at) other = refl
fault_is (m.UnknownFunction at) other = refl
fault_is (m.WrongArguments at) other = refl
fault_is (m.TooDeep at) other = refl
fault_is m.TooManyNodes other = refl
fault_is m.NoMemory other = absurd (other refl)

-- ---- stops

pub stops_missing : (entries : List Entry) (stop : ModelFault) → IsMissingIn entries stop → IsEntryFault entries stop
stops_missing entries stop (key, e, same) = subst (IsEntryFault entries) (sym same) (missing e)

pub missing_settled : (entries : List Entry) (stop : ModelFault) (v : Values) (effect : Effect) → IsMissingIn entries stop → HasEffect entries v effect → IsSettled v.matcher
missing_settled entries stop v effect (key, e, same) is = absurd (has_all entries v key is.has.has e)

pub settled_for : (entries : List Entry) (v w : Values) (effect other : Effect) → HasEffect entries v effect → HasEffect entries w other → IsSettled v.matcher → IsSettled w.matcher
settled_for entries v w effect other one two is = subst (λ (x : Values). IsSettled x.matcher) (same_values entries v w one.has.has two.has.has) is

pub stops_matcher : (entries : List Entry) (v : Values) (effect : Effect) (stop : MatcherFault) → HasEffect entries v effect → (stop ≢ m.NoMemory → IsFault v.matcher stop) → fault_of_matcher stop ≢ fault.NoMemory → IsEntryFault entries (fault_of_matcher stop)
stops_matcher entries v effect stop has is other =
    let differs = no_memory_of stop other in
    subst (IsEntryFault entries) (sym (fault_is stop differs)) (matcher v effect has (is differs))

misuse_is : (u : Use) → misuse_fault (misuse_of u) ≡ fault_of u
misuse_is (of_request at column) = refl
misuse_is (of_policy at column) = refl
misuse_is (of_relation at number names) = refl

used : (o : Option Use) (misuse : Misuse) → Some misuse ≡ option_map misuse_of o → (u : Use) × (o ≡ Some u) × (misuse ≡ misuse_of u)
used None misuse e = absurd cc
used (Some u) misuse e = (u, refl, cc)

unused : (o : Option Use) → None ≡ option_map misuse_of o → o ≡ None
unused None e = refl
unused (Some u) e = absurd cc

-- what the outline declares is what the values say
declared_is : (entries : List Entry) (v : Values) (outline : Outline) (us : List Use) → IsOutline entries v outline → first_undeclared (columns_in v.request) (columns_in v.policy) (relations_of entries) us ≡ first_undeclared outline.request outline.policy outline.relations.items us
declared_is entries v outline us is =
    ap (λ x. first_undeclared x (columns_in v.policy) (relations_of entries) us) (sym is.request)
    ∙ ap (λ x. first_undeclared outline.request x (relations_of entries) us) (sym is.policy)
    ∙ ap (λ x. first_undeclared outline.request outline.policy x us) (sym is.relations)

pub stops_misuse : (entries : List Entry) (v : Values) (outline : Outline) (e : Expression) (misuse : Misuse) (stop : ModelFault) → IsOutline entries v outline → IsMatcher v.matcher e
    → Some misuse ≡ option_map misuse_of (first_undeclared outline.request outline.policy outline.relations.items (uses e)) → stop ≡ misuse_fault misuse → IsEntryFault entries stop
stops_misuse entries v outline e misuse stop outlined is found same =
    let u = used (first_undeclared outline.request outline.policy outline.relations.items (uses e)) misuse found in
    undeclared v outline.effect e u.0 outlined.has is (declared_is entries v outline (uses e) outlined ∙ u.1) (same ∙ ap misuse_fault u.2 ∙ misuse_is u.0)

pub all_declared : (requests policies : List (List ℕ)) (relations : List _) (us : List Use) → None ≡ option_map misuse_of (first_undeclared requests policies relations us) → first_undeclared requests policies relations us ≡ None
all_declared requests policies relations us e = unused (first_undeclared requests policies relations us) e
