-- `room`: so many zeros are as long as they are many.
use Rattle.std.proofs.Common.{ℕ, sym}
use Rattle.std.proofs.lemmas.List.{length-replicate}
use Rattle.replay.proofs.room.Goals as goal

pub returns : goal.returns
returns c = sym (length-replicate {0} {A = ℕ} 524288 0)
