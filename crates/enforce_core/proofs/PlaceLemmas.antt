-- What an enforcer judges by, and that it goes on to suit its model.
use Rattle.std.proofs.Common.{◌≡◌, refl, sym, subst, ◌∙◌}
use Rattle.decision.specs.Programs.{Suits}
use Rattle.model_conf.specs.ModelText.{ModelParts}
use Rattle.perm_base.specs.declared.shapes.Shapes.{Shapes}
use Rattle.policy_desk.specs.Transitions.{IsSame}
use Rattle.policy_state.specs.States.{State}
use Rattle.enforce_core.specs.Places.{shows, state_at}
use Rattle.enforce_core.specs.Seen.{Enforcing, IsSnapshotOf, none_refused}

-- a model that is the same suits equal shapes
pub suits_same : (model now : ModelParts) (shapes other : Shapes) → now ≡ model → other ≡ shapes → Suits model shapes → Suits now other
suits_same model now shapes other same alike so = subst (λ (m : ModelParts). Suits m other) (sym same) (subst (Suits model) (sym alike) so)

-- ---- the same policy

-- an equal one
pub same_as : (before now : State) → now ≡ before → IsSame before now
same_as before now is = subst (IsSame before) (sym is) (record {
  shapes = refl;
  key = refl;
  start = refl;
  tail = refl;
  tables_are = refl;
  stands = λ opening history stands. stands;
})

-- from and to equal ones
pub same_between : (before here copy now : State) → here ≡ before → now ≡ copy → IsSame here copy → IsSame before now
same_between before here copy now at is same = subst (IsSame before) (sym is) (subst (λ (s : State). IsSame s copy) at same)

-- ---- snapshots

-- it has the program, and the same policy
pub snapshot_of : (owner inside made : Enforcing) (model : ModelParts) (policy : State) → inside ≡ owner → model ≡ inside.model → IsSame (state_at inside.place) policy
    → made ≡ record { model = model; place = shows policy; refusals = none_refused } → IsSnapshotOf owner made
snapshot_of owner inside made model policy at same alike is = subst (λ (o : Enforcing). IsSnapshotOf o made) at (record {
  policy = policy;
  same = alike;
  is = is ∙ (λ j. record { model = same j; place = shows policy; refusals = none_refused });
})
