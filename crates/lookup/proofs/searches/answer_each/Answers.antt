use Rattle.std.proofs.Common.{refl, sym, ◌∙◌, arith}
use Rattle.lookup.proofs.Seen.{over_same}
use Rattle.lookup.proofs.Each.{changed_none, changed_more}
use Rattle.lookup.proofs.searches.answer_each.Goals.{then-is_open, else-is_open}
use Rattle.lookup.proofs.searches.answer_each.Goals as goal

pub loop-search-init : goal.loop-search-init
loop-search-init g c = changed_none _ c.args.searches.now

pub loop-search-preserved : goal.loop-search-preserved
loop-search-preserved g c =
    elim c.if-is_open.branch [
      | then-is_open w ↦
          rw w.searches-is
          (changed_more _ c.loop-search.search-index c.args.searches.now c.loop-search.searches c.search-item.result w.answer.new.self c.loop-search.invariant c.loop-search-test.true
          (w.answer.ensures (sym c.is_open.ensures ∙ w.if-is_open.true)).0)
      | else-is_open w ↦
          rw w.searches-is
          (changed_more _ c.loop-search.search-index c.args.searches.now c.loop-search.searches c.search-item.result _ c.loop-search.invariant c.loop-search-test.true
          (record { address = refl; looked = over_same _ _ _ (sym c.is_open.ensures ∙ w.if-is_open.false) }))
    ]

pub returns : goal.returns
returns g c =
    record { same = c.loop-search.invariant.same; each = λ k d h. c.loop-search.invariant.before k d (omega (arith, c.loop-search-test.false)); goes_on = refl }
