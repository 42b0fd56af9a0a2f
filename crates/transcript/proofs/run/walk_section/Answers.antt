-- The lines are added one by one, and the history is that of the answers.
use Rattle.std.proofs.Common.{◌≡◌, ◌<◌, ◌≤◌, ◌++◌, map, length, vec_items, string_bytes, refl, ap, ◌∙◌, arith}
use Rattle.histories.specs.Links.{event_is}
use Rattle.transcript.specs.Lines.{line_of, lines_of}
use Rattle.transcript.proofs.Writing.{lines_more, lines_all}
use Rattle.transcript.proofs.run.walk_section.Goals as goal

pub loop-answer-preserved : goal.loop-answer-preserved
loop-answer-preserved g c =
    let ev = event_is g.R.Reader.means g.R.Offset.ReaderOffset.number in
    let xs = c.deref-answer-items.result.now in
    let i = c.loop-answer.answer-index in
    let x = c.answer-item.result in
    let was = string_bytes c.loop-answer.out in
    let h : i < length xs = omega arith in
    let e : string_bytes c.push_str.new.self ≡ was ++ line_of (ev x) = cc (c.in_ok-line.ensures, c.as_str.ensures.value, c.in_ok-push_str.ensures.bytes) in
    lines_more ev (string_bytes c.args.out.now ++ lines_of (map ev xs)) was (string_bytes c.push_str.new.self) x xs i h c.answer-item.is e c.loop-answer.invariant

pub returns : goal.returns
returns g c =
    let ev = event_is g.R.Reader.means g.R.Offset.ReaderOffset.number in
    let xs = c.deref-answer-items.result.now in
    let before = string_bytes c.args.out.now in
    let answers = c.in_ok-answers.answers in
    let h : length xs ≤ c.loop-answer.answer-index = omega arith in
    let e : string_bytes c.loop-answer.out ≡ before ++ lines_of (map ev (vec_items answers)) =
    lines_all ev (before ++ lines_of (map ev xs)) (string_bytes c.loop-answer.out) xs c.loop-answer.answer-index h c.loop-answer.invariant
    ∙ ap (λ ys. before ++ lines_of (map ev ys)) c.deref-answer-items.ensures.value
    in
    (lines_of (map ev (vec_items answers)), e, record { events = map ev (vec_items answers); asked = c.in_ok-answers.ensures.asked; owed = c.in_ok-answers.ensures.owed; lines = refl })
