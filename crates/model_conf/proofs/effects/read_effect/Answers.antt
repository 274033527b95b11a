use Rattle.model_conf.specs.Effects.{effect_of}
use Rattle.model_conf.proofs.effects.read_effect.Goals as goal

pub returns : goal.returns
unfolding effect_of
returns c = rw (← c.in_ok-bare.ensures, ← c.deref.ensures.value) c.effect_named.ensures
