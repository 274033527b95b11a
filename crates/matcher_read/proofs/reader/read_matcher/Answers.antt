use Rattle.std.proofs.Common.{◌≢◌, Ok, Err, ap, sym, ◌∙◌, nat_lt}
use Rattle.matcher_read.specs.Helps.Counts.{node_count}
use Rattle.matcher_read.specs.Faults.{IsFault, too_long}
use Rattle.matcher_read.specs.Matcher.{most_nodes}
use Rattle.matcher_read.specs.declared.fault.MatcherFault.TheVariants.{NoMemory, TooLong, TooManyNodes}
use Rattle.matcher_read.proofs.ReadWhole.{err_found, err_told, fault_told, IsListed, listed_same, only_fault_from, only_from, stray_within, whole_fails, whole_read, whole_too_many, whole_unended}
use Rattle.matcher_read.proofs.reader.read_matcher.Goals as goal

pub returns-then-text-gt-MOST_BYTES : goal.returns-then-text-gt-MOST_BYTES
returns-then-text-gt-MOST_BYTES c =
    let told : TooLong ≢ NoMemory → IsFault c.args.text.now TooLong = λ some. too_long c.if-text-gt-MOST_BYTES.true in
    record { found = tt; only = only_from c.args.text.now (Err TooLong) tt told; fault = told; only_fault = only_fault_from c.args.text.now (Err TooLong) tt told }

pub returns-in_err-tree : goal.returns-in_err-tree
returns-in_err-tree c =
    let l : IsListed c.args.text.now c.new.result = record { few = c.if-text-gt-MOST_BYTES.false; cut = c.new.ensures.found; size = c.new.ensures.size } in
    let r = c.from_residual.result in
    let f = c.in_err-tree.field-0.0 in
    let found = err_found c.args.text.now r f c.from_residual.ensures.1 in
    let told = err_told c.args.text.now r f c.from_residual.ensures.1 (λ some. fault_told f l (whole_fails (c.in_err-tree.ensures some))) in
    record { found = found; only = only_from c.args.text.now r found told; fault = told; only_fault = only_fault_from c.args.text.now r found told }

pub end-requires-clause-stray : goal.end-requires-clause-stray
end-requires-clause-stray c =
    let l : IsListed c.args.text.now c.new.result = record { few = c.if-text-gt-MOST_BYTES.false; cut = c.new.ensures.found; size = c.new.ensures.size } in
    stray_within c.chain.new.self.tokens l c.in_ok-tree.ensures.read.stray c.in_ok-tree.ensures.read.size

pub returns-in_err-end : goal.returns-in_err-end
returns-in_err-end c =
    let l : IsListed c.args.text.now c.new.result = record { few = c.if-text-gt-MOST_BYTES.false; cut = c.new.ensures.found; size = c.new.ensures.size } in
    let r = c.from_residual-in_err-end.result in
    let f = c.in_err-end.field-0.0 in
    let found = err_found c.args.text.now r f c.from_residual-in_err-end.ensures.1 in
    let told = err_told c.args.text.now r f c.from_residual-in_err-end.ensures.1 (λ some. fault_told f l (whole_unended c.in_ok-tree.ensures c.in_err-end.ensures.0 ∙ ap (λ g. Err g) (sym c.in_err-end.ensures.1))) in
    record { found = found; only = only_from c.args.text.now r found told; fault = told; only_fault = only_fault_from c.args.text.now r found told }

pub returns-then-has_too_many_nodes : goal.returns-then-has_too_many_nodes
returns-then-has_too_many_nodes c =
    let l : IsListed c.args.text.now c.new.result = record { few = c.if-text-gt-MOST_BYTES.false; cut = c.new.ensures.found; size = c.new.ensures.size } in
    let again : IsListed c.args.text.now c.new-2.result = record { few = c.if-text-gt-MOST_BYTES.false; cut = c.new-2.ensures.found; size = c.new-2.ensures.size } in
    let many = ap (λ ts. nat_lt most_nodes (node_count ts)) (listed_same c.new.result c.new.ensures.only again) ∙ sym c.if-has_too_many_nodes.ensures in
    let told : TooManyNodes ≢ NoMemory → IsFault c.args.text.now TooManyNodes = λ some. whole_too_many l c.in_ok-tree.ensures c.in_ok-end.ensures many in
    record { found = tt; only = only_from c.args.text.now (Err TooManyNodes) tt told; fault = told; only_fault = only_fault_from c.args.text.now (Err TooManyNodes) tt told }

pub returns : goal.returns
returns c =
    let l : IsListed c.args.text.now c.new.result = record { few = c.if-text-gt-MOST_BYTES.false; cut = c.new.ensures.found; size = c.new.ensures.size } in
    let again : IsListed c.args.text.now c.new-2.result = record { few = c.if-text-gt-MOST_BYTES.false; cut = c.new-2.ensures.found; size = c.new-2.ensures.size } in
    let few = ap (λ ts. nat_lt most_nodes (node_count ts)) (listed_same c.new.result c.new.ensures.only again) ∙ sym c.if-has_too_many_nodes.ensures in
    let found = whole_read l c.in_ok-tree.ensures c.in_ok-end.ensures few in
    record { found = found; only = only_from c.args.text.now (Ok c.in_ok-tree.tree) found tt; fault = tt; only_fault = only_fault_from c.args.text.now (Ok c.in_ok-tree.tree) found tt }
