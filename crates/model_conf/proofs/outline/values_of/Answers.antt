use Rattle.std.proofs.Common.{refl, sym}
use Rattle.model_conf.specs.declared.key.Key.TheVariants as k
use Rattle.model_conf.proofs.FaultLemmas.{missing_r, missing_p, missing_e, missing_m}
use Rattle.model_conf.proofs.outline.values_of.Goals as goal

pub returns-in_default-clause-values : goal.returns-in_default-clause-values
returns-in_default-clause-values c = (k.R, missing_r _ (sym c.in_default.ensures.value), refl)

pub returns-in_default-value_of-clause-values : goal.returns-in_default-value_of-clause-values
returns-in_default-value_of-clause-values c = (k.P, missing_p _ _ (sym c.in-Some.ensures.value) (sym c.in_default-value_of.ensures.value), refl)

pub returns-in_default-value_of-2-clause-values : goal.returns-in_default-value_of-2-clause-values
returns-in_default-value_of-2-clause-values c = (k.E, missing_e _ _ _ (sym c.in-Some.ensures.value) (sym c.in-Some-value_of.ensures.value) (sym c.in_default-value_of-2.ensures.value), refl)

pub returns-in_default-value_of-3-clause-values : goal.returns-in_default-value_of-3-clause-values
returns-in_default-value_of-3-clause-values c = (k.M, missing_m _ _ _ _ (sym c.in-Some.ensures.value) (sym c.in-Some-value_of.ensures.value) (sym c.in-Some-value_of-2.ensures.value) (sym c.in_default-value_of-3.ensures.value), refl)
