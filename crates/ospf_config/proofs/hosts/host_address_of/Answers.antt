use Rattle.std.proofs.Common.{◌≡◌, refl, subst, arith}
use Rattle.std.proofs.lemmas.Bool.{iff_false}
use Rattle.ospf_base.proofs.Dotted.{dotted_one}
use Rattle.ospf_config.specs.Host.{IsUnicast}
use Rattle.ospf_config.proofs.hosts.host_address_of.Goals as goal

pub returns-else-is_unicast : goal.returns-else-is_unicast
returns-else-is_unicast c =
    let spelled = c.in-Some-dotted_number.ensures.some in
    rw c.in-Some.is (
      refl,
      λ a is.
          let same : a.0 ≡ c.in-Some-dotted_number.number = dotted_one c.in-Some.text.now a.0 c.in-Some-dotted_number.number (omega (arith, is.unicast.octet_high)) spelled.1 is.spelled spelled.0 in
          iff_false c.is_unicast.ensures c.if-is_unicast.false (subst IsUnicast same is.unicast),
    )
