-- The search for the zero byte finds what the list of bytes has first.
use Rattle.std.proofs.Common.{◌≡◌, ◌==◌, take, option_map, option_copied, rules, tests, sym, ap, ◌∙◌}
use Rattle.std.specs.List.{position}
use Rattle.std.proofs.lemmas.Iterator.{YieldsList-from_slice}
use Rattle.std.proofs.lemmas.Iterator.Search.{position_from_yields_List}
use Rattle.elf.proofs.sections.text_before_zero.Goals.{After-position}
use Rattle.elf.proofs.sections.text_before_zero.Goals as goal

found : (c : After-position) → c.position.result ≡ position (λ x. x == 0) c.args.bytes.now
found c = position_from_yields_List (λ x. x == 0) _ _ c.position.result c.position.ensures.ran (YieldsList-from_slice _ c.iter.ensures.rest) (λ x b q k. search (rules, tests))

pub returns-in_err-end : goal.returns-in_err-end
returns-in_err-end c =
    ap option_copied c.from_residual.ensures ∙ ap (option_map (λ n. take n c.args.bytes.now)) (sym c.in_err-end.was ∙ found (goal.at.returns-in_err-end c).After-position)

pub returns : goal.returns
returns c = ap (option_map (λ n. take n c.args.bytes.now)) (sym c.in_ok-end.was ∙ found (goal.at.returns c).After-position)
