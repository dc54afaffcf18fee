use Rattle.ospf_world.proofs.laws.soundness.Goals as goal

pub returns : goal.returns
returns c is_dropped event before after (events, r) happens = c.acknowledgement_is_sound.ensures is_dropped events event r.start before after r.new r.runs happens
