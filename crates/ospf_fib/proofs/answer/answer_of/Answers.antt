use Rattle.std.proofs.Common.{◌<◌, ◌%◌, length, arith, refl}
use Rattle.std.proofs.lemmas.Option.{slice_get-get_or}
use Rattle.ospf_graph.specs.declared.hop.NextHop.TheVariants.{Attached}
use Rattle.ospf_fib.specs.PrefixIndex.Entries.{route_of}
use Rattle.ospf_fib.proofs.answer.answer_of.Goals as goal

pub returns : goal.returns
returns c =
    let found = c.in_ok-found.found in
    let hops = found.hops.now in
    let lookup = c.in_ok-found.ensures in
    let within : c.args.choice % length hops < length hops = omega (arith, lookup.hop) in
    record {
      route = route_of found;
      best = lookup.found;
      version_is = refl;
      prefix_is = refl;
      cost_is = refl;
      hops_is = omega arith;
      hop_is = slice_get-get_or hops (c.args.choice % length hops) Attached within;
    }
