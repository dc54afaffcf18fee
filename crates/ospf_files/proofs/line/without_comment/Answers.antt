use Rattle.std.proofs.Common.{arith, ◌==◌, not}
use Rattle.std.proofs.lemmas.List.Sums.{prefix_len-le-length}
use Rattle.ospf_files.proofs.line.without_comment.Goals as goal

pub split_at-requires : goal.split_at-requires
split_at-requires c = let within = prefix_len-le-length (λ b. not (b == 35)) c.args.line.now in omega (arith, c.place_of.ensures, within)
