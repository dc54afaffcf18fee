use Rattle.std.proofs.Common.{◌<◌, arith, length, refl}
use Rattle.std.proofs.lemmas.Option.{slice_get_within}
use Rattle.ospf_files.proofs.FirstTwins.{first_at}
use Rattle.ospf_files.proofs.twins.first_twins.Goals as goal

pub returns-in-Some-clause-some : goal.returns-in-Some-clause-some
returns-in-Some-clause-some c =
    first_at c.args.files.now c.args.configs.now _ c.in-Some.earlier c.loop-later.later c.index-configs-earlier.result c.requires c.loop-later-test.true c.in-Some.ensures.some
    c.loop-later.invariant refl c.index-files-earlier.is c.index-files-later.is

pub returns-clause-none : goal.returns-clause-none
returns-clause-none c = λ twins.
    let within : twins.later < length c.args.configs.now = slice_get_within c.args.configs.now twins.later twins.other twins.at_later in
    let least = c.loop-later.invariant twins in
    omega (arith, within, least, c.loop-later-test.false)
