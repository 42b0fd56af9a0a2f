-- The ranges of a set and their numbers.
use Rattle.std.proofs.Common.{rules, ◌^◌, ◌<◌, length, refl, ap, ◌∙◌, arith}
use Rattle.section_reader.specs.Means.{section_means}
use Rattle.aranges.specs.Answers.{answers_on}
use Rattle.aranges.specs.Links.{header_is}
use Rattle.aranges.proofs.Few.{few_on}
use Rattle.mallethill.specs.Writing.{Written}
use Rattle.mallethill.proofs.Written.{written_all}
use Rattle.mallethill.proofs.ranges.read_set.Goals as goal

pub returns-clause-answer : goal.returns-clause-answer
returns-clause-answer c =
    let h = header_is section_means (λ x. x) c.in_ok-set.set.header in
    let few : length (answers_on h) < 2 ^ 64 = omega (arith, few_on h, c.in_ok-set.ensures.inside.1) in
    let w = c.write.ensures.written ∙ written_all c.args.ranges.now (answers_on h) few in
    let n = ap (λ (v : Written). v.count) w in
    let p = ap (λ (v : Written). v.passed) w in
    rw (← c.in_ok-set.ensures.reads) (rw (n, p, c.in_ok-set.ensures.fields) refl)

pub returns-clause-ranges : goal.returns-clause-ranges
returns-clause-ranges c =
    let h = header_is section_means (λ x. x) c.in_ok-set.set.header in
    let few : length (answers_on h) < 2 ^ 64 = omega (arith, few_on h, c.in_ok-set.ensures.inside.1) in
    let w = c.write.ensures.written ∙ written_all c.args.ranges.now (answers_on h) few in
    let e = ap (λ (v : Written). v.buffer) w in
    rw (← c.in_ok-set.ensures.reads) (rw (← e) (search rules))
