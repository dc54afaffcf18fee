use Rattle.std.proofs.Common.{rules, ◌≡◌, refl, string_bytes}
use Rattle.ospf_failures.specs.Without.{unnamed_line}
use Rattle.ospf_failures.proofs.without.unnamed.Goals as goal

pub returns-in-Ok : goal.returns-in-Ok
returns-in-Ok c =
    let shown : string_bytes c.in-Ok.text ≡ unnamed_line c.args.name.now = search (rules, c.in-Ok.ensures.ok) in
    (c.args.name.now, refl, shown)
