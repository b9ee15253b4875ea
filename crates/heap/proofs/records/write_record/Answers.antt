-- The four header words set over n + 4 zeros are the new record; behind it the part is as it came.
use Rattle.heap.proofs.Written.{record_written}
use Rattle.heap.proofs.records.write_record.Goals as goal

pub returns : goal.returns
returns c = record_written _ _ _ _ _ _ c.requires (c.fill.ensures.after (λ y e. e))
