use Rattle.std.proofs.Common.{◌≡◌, string_bytes, take}
use Rattle.ospf_files.specs.Shown.{routes_text}
use Rattle.ospf_table.proofs.output.routes_text.Given as goal

-- the lines of the routes so far
abbrev pub invariant-loop-route : goal.invariant-loop-route
invariant-loop-route l = string_bytes l.text ≡ routes_text (take l.route-index l.routes)
