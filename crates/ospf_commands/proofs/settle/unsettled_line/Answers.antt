use Rattle.std.proofs.Common.{rules, ◌≡◌, ◌∙◌, ◌++◌, ap, codes, decimal, string_bytes, List, ℕ}
use Rattle.ospf_commands.proofs.settle.unsettled_line.Goals as goal

pub returns : goal.returns
returns c =
    let first : string_bytes c.in_ok-line.line ≡ codes "not settled by round " ++ decimal c.args.rounds = search (rules, c.in_ok-line.ensures.ok) in
    let rest : c.deref.result.now ≡ codes ": " ++ decimal c.args.still ++ codes " rounds in a row must change nothing\n" = search (rules, c.in_ok-rest.ensures.ok, c.deref.ensures) in
    c.in_ok-push_str.ensures.bytes ∙ ap (λ (l : List ℕ). l ++ c.deref.result.now) first ∙ ap (λ (l : List ℕ). codes "not settled by round " ++ decimal c.args.rounds ++ l) rest
