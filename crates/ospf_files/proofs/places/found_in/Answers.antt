use Rattle.std.proofs.Common.{◌≡◌, length, arith}
use Rattle.toml.specs.View.{view}
use Rattle.ospf_files.proofs.PlaceLists.{list_result}
use Rattle.ospf_files.proofs.places.found_in.Goals as goal

pub returns-in-Some-as_array : goal.returns-in-Some-as_array
returns-in-Some-as_array c =
    let count : c.len.result ≡ length c.in-Some-as_array.values.now.items = omega arith in
    list_result (view c.args.value.now) c.in-Some-as_array.values.now.items c.len.result c.format-in-Some-as_array.result c.in-Some-as_array.ensures count
    c.format-in-Some-as_array.ensures.ok
