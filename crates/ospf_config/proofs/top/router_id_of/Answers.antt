use Rattle.std.proofs.Common.{◌≡◌, refl, arith}
use Rattle.ospf_base.proofs.Dotted.{dotted_one}
use Rattle.ospf_config.proofs.top.router_id_of.Goals as goal

pub returns-in_default-dotted_number-clause-reads : goal.returns-in_default-dotted_number-clause-reads
returns-in_default-dotted_number-clause-reads c =
    let spelled = c.in-Some-dotted_number.ensures.some in
    rw c.in-Some.is (
      refl,
      λ id is.
          let same : id.0 ≡ c.in-Some-dotted_number.number = dotted_one c.in-Some.text.now id.0 c.in-Some-dotted_number.number is.fits spelled.1 is.spelled spelled.0 in
          omega (arith, is.not_zero),
    )
