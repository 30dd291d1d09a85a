use Rattle.algebra.proofs.Link.{clean_link}
use Rattle.algebra.proofs.blocks_are_clean_exactly_when_they_encode_a_message.Goals as goal

pub returns : goal.returns
returns g c = clean_link g.K.Members.ops g.K.Members.field
