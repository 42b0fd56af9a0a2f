use Rattle.unit_report.proofs.image.Image.open.Goals as goal

pub returns : goal.returns
returns c =
    rw (← c.in_ok-file.ensures, ← c.in_ok-section.ensures, ← c.in_ok-bytes.ensures, ← c.in_ok-records.ensures, ← c.deref.ensures.value) c.with_records.ensures
