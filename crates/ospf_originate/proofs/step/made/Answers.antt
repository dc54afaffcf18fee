use Rattle.std.proofs.Common.{ℤ, subst}
use Rattle.std.specs.Int.{w32}
use Rattle.std.proofs.lemmas.Int.{to_z-of_z}
use Rattle.ospf_lsa.specs.Value.{IsMade}
use Rattle.ospf_originate.specs.Wants.Made.{lsa_value}
use Rattle.ospf_originate.specs.Wants.Own.{wanted_value}
use Rattle.ospf_originate.proofs.step.made.Goals as goal

pub returns-in-Ok : goal.returns-in-Ok
returns-in-Ok c =
    subst (λ (n : ℤ). IsMade (lsa_value n (wanted_value c.args.wanted.now)) c.in-Ok.lsa) (to_z-of_z w32 c.args.number c.ranges.number) c.in-Ok.ensures.ok
