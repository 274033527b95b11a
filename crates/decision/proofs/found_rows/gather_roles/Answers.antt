use Rattle.std.proofs.Common.{◌≡◌, ◌∙◌, [], ◌∷◌, Some, ap, map, sym}
use Rattle.std.specs.Prelude.{option_copied}
use Rattle.perm_base.specs.RoleShapes.{shape_of}
use Rattle.perm_base.specs.declared.shapes.Shapes.{Shapes}
use Rattle.perm_value.specs.Seen.{datum}
use Rattle.decision.proofs.GatherLemmas.{names_first, text_there}
use Rattle.decision.proofs.found_rows.gather_roles.Goals as goal
use Rattle.decision.proofs.found_rows.gather_roles.Goals.{In-Some-find}

-- the relation has this shape
shaped : (c : In-Some-find) → shape_of c.args.asking.now.state.now.shapes.roles c.args.question.relation ≡ Some c.in-Some-find.shape
shaped c = ap (λ (s : Shapes). shape_of s.roles c.args.question.relation) (sym c.shapes.ensures.shapes) ∙ sym c.find.ensures ∙ c.in-Some-find.is

pub returns : goal.returns
returns c =
    let there = shaped (goal.at.returns c).In-Some-find in
    record {
      name = c.in-Some.name.now;
      named = text_there (map datum c.args.asking.now.request.now) c.args.question.request c.in-Some.name.now (sym c.in-Some.ensures);
      domain = option_copied c.in-Some-domain_at.domain;
      domain_is = c.in-Some-domain_at.ensures;
      shape = c.in-Some-find.shape;
      shaped = there;
      names = c.in_ok-roles.roles;
      implied = c.in_ok-roles.ensures.implied c.in-Some-find.shape there;
      adds =
          names_first c.args.index.now c.in-Some.name.now c.in_ok-roles.roles c.args.found.now.items c.gather.new.slots.items c.gather_names.new.found.items
          (λ by_slot is. c.in_ok-gather.ensures by_slot (c.in-Some.name.now ∷ []) is (c.hash_with.ensures.more [] c.start_hash.ensures.none)) c.in_ok-gather_names.ensures;
    }
