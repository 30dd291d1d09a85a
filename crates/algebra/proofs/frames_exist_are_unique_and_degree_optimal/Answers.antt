use Rattle.algebra.proofs.OptimalFrames.{optimal_frames}
use Rattle.algebra.proofs.frames_exist_are_unique_and_degree_optimal.Goals as goal

pub returns : goal.returns
returns g c = optimal_frames g.K.Members.ops g.K.Members.field
