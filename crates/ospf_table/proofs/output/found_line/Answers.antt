use Rattle.std.proofs.Common.{rules, ◌≡◌, ◌++◌, codes, string_bytes}
use Rattle.ospf_fib.specs.Found.{found_text}
use Rattle.ospf_table.proofs.Looked.{first_item}
use Rattle.ospf_table.proofs.output.found_line.Goals as goal

pub returns : goal.returns
returns c =
    let hops = first_item c.args.route.now.hops c.first_hop.result c.first_hop.ensures in
    let line_is : string_bytes c.in_ok-line.line ≡ found_text c.args.address.0 c.args.route.now.prefix c.args.route.now.cost c.first_hop.result ++ codes "\n" =
    search (rules, c.in_ok-line.ensures.ok) in
    record { route = c.args.route.now; best = c.requires.best; hop = c.first_hop.result; others = hops.0; hops = hops.1; line_is = line_is }
