use Rattle.matcher_read.proofs.FrontLemmas.{boundary-closed, boundary-one, closed_text, open_text}
use Rattle.matcher_read.proofs.token.first_text.Goals as goal

pub range_from-rest-requires : goal.range_from-rest-requires
range_from-rest-requires c = λ _. boundary-one c.args.text.now c.utf8.text c.requires.some c.requires.ascii

pub returns-in-Some-clause-value : goal.returns-in-Some-clause-value
returns-in-Some-clause-value c = closed_text c.args.text.now c.as_bytes.result.now c.range_from-rest.result.now c.in-Some.inside.now c.in-Some.field-0-1.now c.as_bytes.ensures.value c.requires.some c.range_from-rest.ensures.value c.in-Some.ensures.parts c.in-Some.ensures.first

pub returns-in-Some-clause-boundary : goal.returns-in-Some-clause-boundary
returns-in-Some-clause-boundary c = boundary-closed c.args.text.now c.as_bytes.result.now c.range_from-rest.result.now c.in-Some.inside.now c.in-Some.field-0-1.now c.utf8.text c.as_bytes.ensures.value c.requires.some c.requires.ascii c.range_from-rest.ensures.value c.in-Some.ensures.parts

pub returns-in-None-clause-value : goal.returns-in-None-clause-value
returns-in-None-clause-value c = open_text c.args.text.now c.as_bytes.result.now c.range_from-rest.result.now c.as_bytes.ensures.value c.requires.some c.range_from-rest.ensures.value c.in-None.ensures.none
