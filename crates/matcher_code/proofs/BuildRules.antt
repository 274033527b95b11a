-- A rule with each node at one place: it is sound as the rule is, and names the same.
use Rattle.std.proofs.Common.{◌≡◌, ℕ, ◌&&◌, Bool, List, ◌++◌, refl, sym, ap, ◌∙◌}
use Rattle.std.proofs.lemmas.List.Folds.{list_all-append}
use Rattle.matcher_read.specs.Expression.{Callee, function, relation, unknown, Expression, text, whole, truth, request, policy, evaluated, negation, opposite, binary, among, call, Expressions, no_more, one_more, count}
use Rattle.matcher_read.specs.Matcher.{is_sound, are_sound}
use Rattle.model_conf.specs.ModelText.{ModelParts}
use Rattle.model_conf.specs.Uses.{Use, is_declared, uses, all_uses, called}
use Rattle.matcher_meaning.specs.Comes.{all_at, each_at}
use Rattle.matcher_code.proofs.BuildTrees.{count_each}
use Rattle.matcher_code.proofs.BuildUses.{are_named}

mutual
  pub placed_sound : (at : ℕ) (e : Expression) → is_sound (all_at at e) ≡ is_sound e
  placed_sound at (text own bytes) = refl
  placed_sound at (whole own n) = refl
  placed_sound at (truth own b) = refl
  placed_sound at (request own column path) = refl
  placed_sound at (policy own column) = refl
  placed_sound at (evaluated own column) = refl
  placed_sound at (negation own e) = placed_sound at e
  placed_sound at (opposite own e) = placed_sound at e
  placed_sound at (binary own op e f) = rw (placed_sound at e, placed_sound at f) refl
  placed_sound at (among own e es) = rw (placed_sound at e, placed_sounds at es) refl
  placed_sound at (call own callee es) = rw (count_each at es, placed_sounds at es) refl

  placed_sounds : (at : ℕ) (es : Expressions) → are_sound (each_at at es) ≡ are_sound es
  placed_sounds at no_more = refl
  placed_sounds at (one_more e es) = rw (placed_sound at e, placed_sounds at es) refl

both_named : (model : ModelParts) (us vs placed_us placed_vs : List Use) → are_named model placed_us ≡ are_named model us → are_named model placed_vs ≡ are_named model vs → are_named model (placed_us ++ placed_vs) ≡ are_named model (us ++ vs)
both_named model us vs placed_us placed_vs first second =
    let test = is_declared model.request model.policy model.relations in
    list_all-append test placed_us placed_vs ∙ ap (λ (b : Bool). b && are_named model placed_vs) first ∙ ap (λ (b : Bool). are_named model us && b) second ∙ sym (list_all-append test us vs)

call_named : (model : ModelParts) (at own : ℕ) (callee : Callee) (given : ℕ) → are_named model (called at callee given) ≡ are_named model (called own callee given)
call_named model at own (function f) given = refl
call_named model at own (relation number) given = refl
call_named model at own (unknown parts) given = refl

mutual
  pub placed_named : (model : ModelParts) (at : ℕ) (e : Expression) → are_named model (uses (all_at at e)) ≡ are_named model (uses e)
  placed_named model at (text own bytes) = refl
  placed_named model at (whole own n) = refl
  placed_named model at (truth own b) = refl
  placed_named model at (request own column path) = refl
  placed_named model at (policy own column) = refl
  placed_named model at (evaluated own column) = refl
  placed_named model at (negation own e) = placed_named model at e
  placed_named model at (opposite own e) = placed_named model at e
  placed_named model at (binary own op e f) = both_named model (uses e) (uses f) (uses (all_at at e)) (uses (all_at at f)) (placed_named model at e) (placed_named model at f)
  placed_named model at (among own e es) = both_named model (uses e) (all_uses es) (uses (all_at at e)) (all_uses (each_at at es)) (placed_named model at e) (each_named model at es)
  placed_named model at (call own callee es) =
      both_named model (called own callee (count es)) (all_uses es) (called at callee (count (each_at at es))) (all_uses (each_at at es))
      (ap (λ (n : ℕ). are_named model (called at callee n)) (count_each at es) ∙ call_named model at own callee (count es)) (each_named model at es)

  each_named : (model : ModelParts) (at : ℕ) (es : Expressions) → are_named model (all_uses (each_at at es)) ≡ are_named model (all_uses es)
  each_named model at no_more = refl
  each_named model at (one_more e es) = both_named model (uses e) (all_uses es) (uses (all_at at e)) (all_uses (each_at at es)) (placed_named model at e) (each_named model at es)
