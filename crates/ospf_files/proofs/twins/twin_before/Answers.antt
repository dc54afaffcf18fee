use Rattle.std.proofs.Common.{◌∙◌, arith, sym}
use Rattle.ospf_files.proofs.FirstTwins.{not_here, twins_at}
use Rattle.ospf_files.proofs.twins.twin_before.Goals as goal

pub returns-then-eq-clause-some : goal.returns-then-eq-clause-some
returns-then-eq-clause-some c =
    twins_at c.args.configs.now c.loop-earlier.earlier c.args.later c.index-configs-earlier.result c.index-configs-later.result c.loop-earlier-test.true c.requires
    c.index-configs-earlier.is c.index-configs-later.is (sym c.eq.ensures ∙ c.if-eq.true)

pub loop-earlier-preserved : goal.loop-earlier-preserved
loop-earlier-preserved c = λ twins later.
    not_here c.args.configs.now c.loop-earlier.earlier c.args.later c.index-configs-earlier.result c.index-configs-later.result (sym c.eq.ensures ∙ c.if-eq.false) twins later
    (c.loop-earlier.invariant twins later)

pub returns-clause-none : goal.returns-clause-none
returns-clause-none c = λ twins later.
    let least = c.loop-earlier.invariant twins later in
    let before = twins.before in
    omega (arith, least, before, later, c.loop-earlier-test.false)
