use Rattle.std.proofs.Common.{◌≡◌, ◌≤◌, ◌∙◌, ap, arith}
use Rattle.std.specs.Prelude.{bit_and}
use Rattle.std.specs.Int.Bits.{and_self}
use Rattle.std.proofs.lemmas.Nat.{and_assoc}
use Rattle.ospf_base.specs.Masks as spec
use Rattle.ospf_config.proofs.address.InterfaceAddress.prefix.Goals as goal

pub invariant_of-result : goal.invariant_of-result
invariant_of-result c =
    let address = c.args.self.now.address.0 in
    let m = spec.mask_of c.args.self.now.length in
    let mask : c.mask_of.result ≡ m = c.mask_of.ensures in
    let short : c.args.self.now.length ≤ 32 = omega (arith, c.args.self.now.host.short) in
    record {
      short = short;
      masked = rw mask (and_assoc m address m ∙ ap (λ x. bit_and address x) (and_self m));
    }
