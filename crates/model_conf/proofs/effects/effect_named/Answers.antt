use Rattle.std.proofs.Common.{◌≡◌, false, codes, refl, rules}
use Rattle.std.specs.Str.{bytes_eq}
use Rattle.model_conf.proofs.effects.effect_named.Goals as goal

pub returns-else-eq-5 : goal.returns-else-eq-5
returns-else-eq-5 c =
    let first : bytes_eq c.args.bare.now (codes "some(where(p.eft==allow))") ≡ false = search rules in
    let second : bytes_eq c.args.bare.now (codes "!some(where(p.eft==deny))") ≡ false = search rules in
    let third : bytes_eq c.args.bare.now (codes "some(where(p.eft==allow))&&!some(where(p.eft==deny))") ≡ false = search rules in
    let fourth : bytes_eq c.args.bare.now (codes "priority(p.eft)||deny") ≡ false = search rules in
    let fifth : bytes_eq c.args.bare.now (codes "subjectPriority(p.eft)||deny") ≡ false = search rules in
    rw (first, second, third, fourth, fifth) refl
