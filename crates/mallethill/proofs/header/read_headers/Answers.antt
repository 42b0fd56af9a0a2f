use Rattle.std.proofs.Common.{◌≡◌, ℕ, ◌+◌, ◌-◌, ◌<◌, List, [], ◌∷◌, ◌++◌, length, set, sym, ap, ◌∙◌, arith, length-append}
use Rattle.std.proofs.lemmas.Bool.{ne_eqb}
use Rattle.readers.specs.Links.{fault_is}
use Rattle.readers.specs.Outcome.{answer, fault}
use Rattle.mallethill.specs.declared.header.SetHeader.{SetHeader}
use Rattle.mallethill.specs.Told.{no_fault, c_fault, buffer_with}
use Rattle.mallethill.specs.Rows.{Row, ended_at}
use Rattle.mallethill.specs.Headers.{headers_from, headers_read}
use Rattle.mallethill.proofs.Fills.{filled_more}
use Rattle.mallethill.proofs.Rows.{behind, behind_item, behind_end, headers_at, headers_end, headers_full}
use Rattle.mallethill.proofs.header.read_headers.Goals as goal

pub returns-in-Err : goal.returns-in-Err
returns-in-Err c =
    let n = length c.args.headers.now in
    let i = c.loop-count.invariant in
    let k = c.loop-count.count in
    let p = c.loop-count.next in
    let f = c_fault (fault_is c.in-Err.error) in
    let lt : k < n = omega (arith, c.loop-count-test.true, c.loop-count.auto.headers) in
    let all = i.3 ∙ ap (behind i.0) (headers_at c.args.section.now c.args.big_endian n k p lt (ne_eqb p (length c.args.section.now) c.if-next-section.true) (fault (fault_is c.in-Err.error)) c.in-Err.ensures) ∙ behind_end i.0 p f in
    record {
      fault = c.from.ensures ∙ sym (ap (λ (r : Row SetHeader). r.ended) all);
      answer = ap (λ (j : ℕ). record { count = j; next = p }) (sym i.1) ∙ sym (ap headers_read all);
      headers = i.2 ∙ sym (ap (λ (r : Row SetHeader). buffer_with c.args.headers.now r.items) all);
    }

pub loop-count-preserved : goal.loop-count-preserved
loop-count-preserved c =
    let n = length c.args.headers.now in
    let i = c.loop-count.invariant in
    let k = c.loop-count.count in
    let h = c.in-Ok.header in
    let p = c.loop-count.next in
    let lt : k < n = omega (arith, c.loop-count-test.true, c.loop-count.auto.headers) in (
      i.0 ++ h ∷ [],
      omega (arith, i.1, length-append i.0 (h ∷ [])),
      ap (λ (hs : List SetHeader). set hs k h) i.2 ∙ filled_more c.args.headers.now i.0 k h i.1 lt,
      i.3 ∙ ap (behind i.0) (headers_at c.args.section.now c.args.big_endian n k p lt (ne_eqb p (length c.args.section.now) c.if-next-section.true) (answer h) c.in-Ok.ensures)
          ∙ behind_item i.0 h (headers_from c.args.section.now c.args.big_endian (n - (k + 1)) h.next),
    )

pub returns-else-next-section : goal.returns-else-next-section
returns-else-next-section c =
    let n = length c.args.headers.now in
    let i = c.loop-count.invariant in
    let k = c.loop-count.count in
    let p = c.loop-count.next in
    let end : headers_from c.args.section.now c.args.big_endian (n - k) p ≡ ended_at p no_fault = headers_end c.args.section.now c.args.big_endian (n - k) p (grind (arith, c.if-next-section.false)) in
    let all = i.3 ∙ ap (behind i.0) end ∙ behind_end i.0 p no_fault in
    record {
      fault = sym (ap (λ (r : Row SetHeader). r.ended) all);
      answer = ap (λ (j : ℕ). record { count = j; next = p }) (sym i.1) ∙ sym (ap headers_read all);
      headers = i.2 ∙ sym (ap (λ (r : Row SetHeader). buffer_with c.args.headers.now r.items) all);
    }

pub returns-after-loop-count : goal.returns-after-loop-count
returns-after-loop-count c =
    let n = length c.args.headers.now in
    let i = c.loop-count.invariant in
    let k = c.loop-count.count in
    let p = c.loop-count.next in
    let end : headers_from c.args.section.now c.args.big_endian (n - k) p ≡ ended_at p no_fault = headers_full c.args.section.now c.args.big_endian n k p (omega (arith, c.loop-count-test.false, c.loop-count.auto.headers)) in
    let all = i.3 ∙ ap (behind i.0) end ∙ behind_end i.0 p no_fault in
    record {
      fault = sym (ap (λ (r : Row SetHeader). r.ended) all);
      answer = ap (λ (j : ℕ). record { count = j; next = p }) (sym i.1) ∙ sym (ap headers_read all);
      headers = i.2 ∙ sym (ap (λ (r : Row SetHeader). buffer_with c.args.headers.now r.items) all);
    }
