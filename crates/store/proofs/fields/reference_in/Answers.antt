-- The field is one that the record has.
use Rattle.store.proofs.calls.Fields.{has_ref_field}
use Rattle.store.proofs.fields.reference_in.Goals as goal

pub word-requires : goal.word-requires
word-requires c = has_ref_field c.args.halves.now _ _ c.follow.ensures c.in-Sound.is c.if-r-field.false
