use Rattle.std.specs.Str.{bytes_eq}
use Rattle.indexmap.specs.IndexSet.{contains}
use Rattle.role_meaning.specs.Links.{user_of}
use Rattle.role_graph.specs.Helps.Kept.{linked_of}
use Rattle.role_graph.proofs.LeadLemmas.{chooses_pattern, chooses_unfit, chooses_user}
use Rattle.role_graph.proofs.users.add_user.Goals as goal

pub returns-then-is_pattern : goal.returns-then-is_pattern
returns-then-is_pattern c = λ names before old has.
    chooses_pattern (linked_of c.args.links.now) c.args.x.now c.args.leading.now names (user_of c.args.row.now) c.user_of-user.result.now c.bytes-name.result.now before (contains bytes_eq c.args.seen.now) old c.args.users.now.items c.names.result c.is_pattern.result
    c.user_of-user.ensures.user c.bytes-name.ensures.value c.names.ensures c.is_pattern.ensures c.if-is_pattern.true has

pub returns-then-not-fits_marked : goal.returns-then-not-fits_marked
returns-then-not-fits_marked c = λ names before old has.
    chooses_unfit (linked_of c.args.links.now) c.args.x.now c.args.leading.now names (user_of c.args.row.now) c.user_of-user.result.now c.bytes-name.result.now before (contains bytes_eq c.args.seen.now) old c.args.users.now.items c.fits_marked.result
    c.user_of-user.ensures.user c.bytes-name.ensures.value c.fits_marked.ensures c.if-not-fits_marked.true has

pub returns : goal.returns
returns c = λ names before old has.
    chooses_user (linked_of c.args.links.now) c.args.x.now c.args.leading.now names (user_of c.args.row.now) c.user_of-user.result.now c.bytes-name.result.now before (contains bytes_eq c.args.seen.now) (contains bytes_eq c.add_one.new.seen) old c.args.users.now.items c.add_one.new.fresh.items
    c.names.result c.is_pattern.result c.fits_marked.result c.user_of-user.ensures.user c.bytes-name.ensures.value c.user_of-user.ensures.whole_line c.names.ensures c.is_pattern.ensures c.if-is_pattern.false c.fits_marked.ensures c.if-not-fits_marked.false
    (λ roles adds. c.in_ok-add_one.ensures roles before old adds) has
