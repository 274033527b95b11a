-- Code that grows: what stands behind both sides of an operator.
use Rattle.std.proofs.Common.{◌≡◌, ℕ, List, [], ◌∷◌, ◌++◌, length, set, Option, Some, None, sym, ap, ◌∙◌}
use Rattle.std.proofs.lemmas.List.{append_assoc, length-set, set_at}
use Rattle.matcher_read.specs.declared.tree.Operator.{Operator}
use Rattle.matcher_read.specs.declared.tree.Operator.TheVariants as operators
use Rattle.matcher_code.specs.Compiled.{joins, op_at, op_or_none, skip}
use Rattle.matcher_code.specs.declared.op.Op.{Op}
use Rattle.matcher_code.specs.declared.op.Instruction.{Instruction}
use Rattle.matcher_code.specs.declared.op.Instruction.TheVariants as i

-- the instruction between the sides goes on behind what is pushed
joined_at : (first kept join : Op) (skipping : ℕ) (front right old pushed : List Op) → length front ≡ skipping → old ≡ front ++ (first ∷ right) → pushed ≡ old ++ join ∷ []
    → set pushed skipping kept ≡ front ++ (kept ∷ (right ++ join ∷ []))
joined_at first kept join skipping front right old pushed at old_is pushed_is =
    let whole : pushed ≡ front ++ (first ∷ (right ++ join ∷ [])) = pushed_is ∙ ap (λ (l : List Op). l ++ join ∷ []) old_is ∙ append_assoc front (first ∷ right) (join ∷ []) in
    ap (λ (l : List Op). set l skipping kept) whole ∙ set_at front first (right ++ join ∷ []) kept skipping at

skip_joined : (at to other skipping : ℕ) (make : ℕ → Instruction) (instruction join : Instruction) (front right old pushed : List Op) → make to ≡ instruction
    → length front ≡ skipping → old ≡ front ++ (op_at at (make other) ∷ right) → pushed ≡ old ++ op_at at join ∷ [] → to ≡ length pushed
    → set pushed skipping (op_at at instruction) ≡ front ++ (op_at at (make (length (set pushed skipping (op_at at instruction)))) ∷ (right ++ op_at at join ∷ []))
skip_joined at to other skipping make instruction join front right old pushed made at_is old_is pushed_is to_is =
    let kept : instruction ≡ make (length (set pushed skipping (op_at at instruction))) = sym made ∙ ap make (to_is ∙ sym (length-set pushed skipping (op_at at instruction))) in
    joined_at (op_at at (make other)) (op_at at instruction) (op_at at join) skipping front right old pushed at_is old_is pushed_is
    ∙ ap (λ (x : Instruction). front ++ (op_at at x ∷ (right ++ op_at at join ∷ []))) kept

pub skip_is : (at : ℕ) (operator : Operator) (instruction : Instruction) (to skipping : ℕ) (front right old pushed : List Op) → skip operator to ≡ Some instruction → length front ≡ skipping
    → old ≡ front ++ (op_or_none at (skip operator 0) ++ right) → pushed ≡ old ++ op_at at (joins operator) ∷ [] → to ≡ length pushed
    → set pushed skipping (op_at at instruction)
    ≡ front ++ (op_or_none at (skip operator (length (set pushed skipping (op_at at instruction)))) ++ (right ++ op_at at (joins operator) ∷ []))
skip_is at operators.And instruction to skipping front right old pushed is at_is old_is pushed_is to_is =
    let made : i.SkipFalse to ≡ instruction = cc in
    skip_joined at to 0 skipping (λ (n : ℕ). i.SkipFalse n) instruction i.NeedTruth front right old pushed made at_is old_is pushed_is to_is
skip_is at operators.Or instruction to skipping front right old pushed is at_is old_is pushed_is to_is =
    let made : i.SkipTrue to ≡ instruction = cc in
    skip_joined at to 0 skipping (λ (n : ℕ). i.SkipTrue n) instruction i.NeedTruth front right old pushed made at_is old_is pushed_is to_is
skip_is at _ instruction to skipping front right old pushed is at_is old_is pushed_is to_is = let none : ◌≡◌ {A = Option Instruction} None (Some instruction) = is in absurd cc
