use Rattle.std.proofs.Common.{◌≡◌, [], drop, length, true}
use Rattle.std.specs.Prelude.{fold, get_or, nat_lt}
use Rattle.std.specs.List.{list_all}
use Rattle.policy_index.specs.Hashes.{fields_hash, text_hash}
use Rattle.policy_index.proofs.hashes.hash_of_fields.Given as goal

abbrev pub invariant-loop-column : goal.invariant-loop-column
invariant-loop-column l = record {
  hash : fold (λ hash column. text_hash hash (get_or l.rule column [])) l.hash (drop l.column-index l.columns) ≡ fields_hash l.columns l.rule;
  below : list_all (λ column. nat_lt column (length l.rule)) (drop l.column-index l.columns) ≡ true;
}
