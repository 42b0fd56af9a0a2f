-- A malformed heading; and the calls with their lines, however the commands ended.
use Rattle.std.proofs.Common.{rules, ◌≡◌, false, [], map, string_bytes}
use Rattle.readers.specs.Reading.{plain_reader}
use Rattle.section_reader.specs.Means.{section_means}
use Rattle.histories.specs.Links.{call_is}
use Rattle.transcript.specs.Input.{Asked, heading_is}
use Rattle.transcript.proofs.Writing.{stopped, answered}
use Rattle.transcript.proofs.run.write_lines.Goals as goal

pub returns-in_err-head : goal.returns-in_err-head
returns-in_err-head c =
    let bs = c.args.input.now in
    let m = section_means c.in_ok-input.input in
    let e : m ≡ plain_reader 0 bs false = search rules in
    let w = stopped c.in_err-head.field-0.0 bs (string_bytes c.args.out.now) m (section_means c.read_head.new.input) e c.in_err-head.ensures in
    search rules

pub returns : goal.returns
returns c =
    let bs = c.args.input.now in
    let m = section_means c.in_ok-input.input in
    let e : m ≡ plain_reader 0 bs false = search rules in
    let end = c.read_commands-end.result in
    let a = section_means c.read_head.new.input in
    let asked : Asked end a [] (map call_is c.deref.result.now) = rw c.deref.ensures.value (rw c.new-calls.ensures.items at c.read_commands-end.ensures) in
    answered end bs (string_bytes c.args.out.now) (string_bytes c.write_answers.new.out) m a (heading_is c.in_ok-head.head) (map call_is c.deref.result.now) e
    c.in_ok-head.ensures asked c.in_ok-write_answers.ensures
