use Rattle.cards.proofs.Overwriting.{record_over}
use Rattle.cards.proofs.bytes.write_record.Goals as goal

pub returns : goal.returns
returns c = rw c.to_bytes.ensures (record_over c.args.buffer.now c.args.at _ _ _ _)
